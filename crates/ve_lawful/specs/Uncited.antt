-- The law over items that cite their values by number. It reads no value, so it is the same over
-- every list of values, and here over none.
use Rattle.std.specs.Prelude.{◌≡◌, List, [], Option, Result}
use Rattle.ve_base.specs.declared.value.Value.{Value}
use Rattle.model_items.specs.declared.item.Item.{Item}
use Rattle.model_items.specs.declared.law_fault.LawFault.{LawFault}
use Rattle.model_items.specs.Law as law
use Rattle.model_items.specs.Plain.{plain, plain_list}

-- the state after one item, or why it is not allowed, with position 0
abbrev pub step : law.State → Item → Result law.State LawFault
step s item = law.step s (plain [] item)

-- the state after the items, or the first offence, with its position counted from where they begin
abbrev pub after : law.State → List Item → Result law.State LawFault
after s items = law.after s (plain_list [] items)

-- the first offence of a whole list, if there is one
abbrev pub verdict : List Item → Option LawFault
verdict items = law.verdict (plain_list [] items)

-- whatever the items cite
abbrev pub StepReadsNoValues : Type 0
StepReadsNoValues = (values : List Value) (s : law.State) (item : Item) → law.step s (plain values item) ≡ step s item

abbrev pub AfterReadsNoValues : Type 0
AfterReadsNoValues = (values : List Value) (s : law.State) (items : List Item) → law.after s (plain_list values items) ≡ after s items

abbrev pub VerdictReadsNoValues : Type 0
VerdictReadsNoValues = (values : List Value) (items : List Item) → law.verdict (plain_list values items) ≡ verdict items
