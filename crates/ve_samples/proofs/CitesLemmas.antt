-- Items that cite no value cite well, whatever the values are.
use Rattle.std.proofs.Common.{◌≡◌, List, All, None, sym, subst}
use Rattle.std.proofs.lemmas.List.Elements.{All-weaker}
use Rattle.ve_base.specs.declared.value.Value.{Value}
use Rattle.model_items.specs.declared.item.Item.{Item}
use Rattle.model_items.specs.declared.item.Item.TheVariants.{Char, Opening, Closing}
use Rattle.model_items.specs.Plain.{CitesWell, CitesHead, CitesMarks, CitesWhite}
use Rattle.ve_samples.specs.CitesNothing.{IsPlain, CitesNothing}

item_cites_well : (values : List Value) (item : Item) → IsPlain item → CitesWell values item
item_cites_well values (Char ch marks) none = subst (CitesMarks values) (sym none) tt
item_cites_well values (Opening kind generated head marks pre origin) none =
    (subst (CitesHead values) (sym none.0) tt, subst (CitesMarks values) (sym none.1.0) tt, subst (CitesWhite values) (sym none.1.1) tt)
item_cites_well values (Closing kind pre) none = subst (CitesWhite values) (sym none) tt

pub cites_nothing : (items : List Item) → CitesNothing items → (values : List Value) → All (CitesWell values) items
cites_nothing items none values = All-weaker IsPlain (CitesWell values) (item_cites_well values) items none
