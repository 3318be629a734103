-- The values of a store where marks are added and taken off.
use Rattle.std.specs.Prelude.{if◌then◌else◌, List, [], ◌∷◌, ◌++◌}
use Rattle.ve_base.specs.declared.value.Value.{Value}
use Rattle.ve_base.specs.declared.value.Value.TheVariants as value
use Rattle.model_change.specs.Store.{admitted}
use Rattle.ve_base.specs.declared.marks.Mark.{Mark}
use Rattle.model_items.specs.Marks.{has_mark, without_mark}

-- the values, and after them these marks where an item has to cite them and they are not there yet
abbrev pub with_marks : List Value → List Mark → List Value
with_marks values [] = values
with_marks values (one ∷ others) = admitted values (value.Marks (one ∷ others))

-- the values, and after them what an item that gets the mark has to cite
abbrev pub values_marked : List Value → List Mark → Mark → List Value
values_marked values marks mark = if has_mark mark marks then values else admitted values (value.Marks (marks ++ mark ∷ []))

-- the values, and after them what an item that loses the mark has to cite
abbrev pub values_unmarked : List Value → List Mark → Mark → List Value
values_unmarked values marks mark = with_marks values (without_mark mark marks)
