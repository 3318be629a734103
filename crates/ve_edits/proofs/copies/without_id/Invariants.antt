use Rattle.std.proofs.Common.{◌≡◌, take, filter, codes}
use Rattle.ve_edits.proofs.CopyLemmas.{has_other_name}
use Rattle.ve_edits.proofs.copies.without_id.Given as goal

abbrev pub invariant-loop-attr : goal.invariant-loop-attr
invariant-loop-attr l = l.made ≡ filter (has_other_name (codes "id")) (take l.attr-index l.attrs)
