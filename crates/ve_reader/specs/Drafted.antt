-- Items that are put together, by value, and the marks that the next character or inline leaf gets.
use Rattle.std.specs.Prelude.{ℕ, List, [], ◌∷◌, ◌++◌}
use Rattle.ve_base.specs.declared.marks.Mark.{Mark}
use Rattle.model_items.specs.declared.plain_item.PlainItem.{PlainItem}
use Rattle.model_items.specs.declared.plain_item.PlainItem.TheVariants as plain
use Rattle.ve_reader.specs.declared.opening.Opening.{Opening}

pub record Drafted : Type 0 where
  pub items : List PlainItem
  pub marks : List Mark

-- one item more
abbrev pub with_item : PlainItem → Drafted → Drafted
with_item item d = record { items = d.items ++ item ∷ []; marks = d.marks }

-- the opening of an inline leaf, which has marks and no whitespace before it
abbrev pub leaf_of : Opening → List Mark → PlainItem
leaf_of o marks = plain.Opening o.kind o.head marks [] o.origin o.generated

-- the opening of a block, which has whitespace before it and no marks
abbrev pub block_of : Opening → List ℕ → PlainItem
block_of o white = plain.Opening o.kind o.head [] white o.origin o.generated
