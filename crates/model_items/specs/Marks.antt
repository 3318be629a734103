-- Marks with one more, and without one.
use Rattle.std.specs.Prelude.{Bool, not, if◌then◌else◌, List, [], ◌∷◌, ◌++◌, filter}
use Rattle.std.specs.List.{list_any}
use Rattle.ve_base.specs.declared.marks.Mark.{Mark}
use Rattle.model_items.specs.Same.{mark_same}

abbrev pub has_mark : Mark → List Mark → Bool
has_mark mark marks = list_any (mark_same mark) marks

-- the mark goes inside the others, unless an equal one is among them
abbrev pub with_mark : Mark → List Mark → List Mark
with_mark mark marks = if has_mark mark marks then marks else marks ++ mark ∷ []

-- each mark that is equal to it goes
abbrev pub without_mark : Mark → List Mark → List Mark
without_mark mark marks = filter (λ one. not (mark_same mark one)) marks
