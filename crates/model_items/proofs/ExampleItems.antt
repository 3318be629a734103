-- Short words for lists that are written out.
use Rattle.std.proofs.Common.{ℕ, List, [], ◌∷◌, ◌++◌, None, false, map}
use Rattle.ve_kinds.specs.declared.kind.Kind.{Kind}
use Rattle.ve_kinds.specs.declared.kind.Kind.TheVariants.{InternalList}
use Rattle.ve_base.specs.declared.attrs.Attr.{Attr}
use Rattle.ve_base.specs.declared.marks.Mark.{Mark}
use Rattle.ve_base.specs.Empty.{empty_head}
use Rattle.model_items.specs.declared.plain_item.PlainItem.{PlainItem}
use Rattle.model_items.specs.declared.plain_item.PlainItem.TheVariants.{Char, Opening, Closing}

abbrev pub o : Kind → PlainItem
o k = Opening k empty_head [] [] None false

abbrev pub with_attrs : Kind → List Attr → PlainItem
with_attrs k attrs = Opening k (record { tag = []; attrs = attrs; raw = []; reference = None; owner = false }) [] [] None false

abbrev pub attr : List ℕ → List ℕ → Attr
attr name value = record { name = name; value = value }

abbrev pub c : Kind → PlainItem
c k = Closing k []

abbrev pub text : List ℕ → List PlainItem
text cs = map (λ n. Char n []) cs

abbrev pub marked : List Mark → List ℕ → List PlainItem
marked marks cs = map (λ n. Char n marks) cs

abbrev pub plain_mark : List ℕ → Mark
plain_mark tag = record { tag = tag; attrs = [] }

-- a node round items
abbrev pub node : Kind → List PlainItem → List PlainItem
node k inside = o k ∷ inside ++ c k ∷ []

abbrev pub internal : List PlainItem
internal = o InternalList ∷ c InternalList ∷ []
