-- Values by which items may be references, and the tables of lists that cite them.
use Rattle.std.proofs.Common.{◌≡◌, ◌≢◌, true, false, List, [], ◌∷◌, refl}
use Rattle.std.specs.Prelude.{Option, Some, None, codes}
use Rattle.std.specs.List.{list_any}
use Rattle.ve_base.specs.declared.head.Key.TheVariants.{Auto}
use Rattle.ve_base.specs.declared.head.RefKey.{RefKey}
use Rattle.ve_base.specs.declared.value.Value.{Value}
use Rattle.ve_base.specs.declared.value.Value.TheVariants.{Head, White}
use Rattle.ve_base.specs.declared.value.ValueId.{ValueId}
use Rattle.ve_kinds.specs.declared.kind.Kind.{Kind}
use Rattle.ve_kinds.specs.declared.kind.Kind.TheVariants.{AlienBlock, InternalItem, Ref}
use Rattle.model_items.specs.declared.item.Item.{Item}
use Rattle.model_items.specs.declared.item.Item.TheVariants.{Opening, Closing}
use Rattle.model_items.specs.Plain.{plain_list}
use Rattle.model_page.specs.References.{table}
use Rattle.ve_write.specs.Referring.{may_refer}

abbrev first_key : RefKey
first_key = record { group = []; key = Auto 1 }

abbrev keyed : Option RefKey → Value
keyed key = Head (record { tag = []; attrs = []; raw = codes "x"; reference = key; owner = false })

abbrev first_value : ValueId
first_value = record { 0 = 0 }

-- a node that cites the first value
abbrev one : Kind → List Item
one kind = Opening kind false (Some first_value) None None None ∷ Closing kind None ∷ []

no_key : list_any may_refer (keyed None ∷ White (10 ∷ []) ∷ []) ≡ false
no_key = refl

no_row : table (plain_list (keyed None ∷ []) (one AlienBlock)) ≡ []
no_row = refl

-- the key tells, and not that the head is an owner's
some_key : list_any may_refer (keyed None ∷ keyed (Some first_key) ∷ []) ≡ true
some_key = refl

a_row : table (plain_list (keyed (Some first_key) ∷ []) (one Ref)) ≢ []
a_row = λ e. cc

-- a body has its key, too, and is no reference: then the list is read
no_reference : table (plain_list (keyed (Some first_key) ∷ []) (one InternalItem)) ≡ []
no_reference = refl
