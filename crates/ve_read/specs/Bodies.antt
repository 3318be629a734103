-- How bodies are read, after the page. These serve private functions.
use Rattle.std.specs.Prelude.{◌≡◌, ℕ, List, [], ◌∷◌, ◌++◌, None}
use Rattle.model_items.specs.declared.plain_item.PlainItem.{PlainItem}
use Rattle.model_spelling.specs.Faults.{fault_of}
use Rattle.model_page.specs.Pieces.{SourceSpan, Owner}
use Rattle.ve_reader.specs.declared.purpose.Purpose.TheVariants as purpose
use Rattle.ve_reader.specs.ReadSoFar.{ReadSoFar}

-- Bodies are read, and so many kinds are open.
pub record InBodies (open_kinds : ℕ) (r : ReadSoFar) : Type 0 where
  pub purpose : r.purpose ≡ purpose.Body
  pub depth : r.depth ≡ open_kinds
  pub marks : r.marks ≡ []
  pub owners : r.owners ≡ []

-- each owner has a body that some forest spells
abbrev pub AreSpelled : List Owner → Type 0
AreSpelled [] = Unit {0}
AreSpelled (o ∷ owners) = (fault_of o.html ≡ None) × AreSpelled owners

-- these items are read, too
abbrev pub with_items : List PlainItem → ReadSoFar → ReadSoFar
with_items more r = record r { items = r.items ++ more }

-- a node without origin has no bytes in the page
abbrev pub no_span : SourceSpan
no_span = record { from = 0; to = 0 }
