use Rattle.std.proofs.Common.{sym, ap, subst, ◌∙◌}
use Rattle.ve_rebase.specs.Entries.{operations_of}
use Rattle.ve_rebase.specs.Moved.{AreMoved}
use Rattle.ve_rebase.specs.Shifted.{AreRows, AreWritten, StartTogether}
use Rattle.ve_rebase.proofs.MovedLemmas.{some_start, some_moved}
use Rattle.ve_rebase.proofs.all_under.moved_at_once.Goals as goal

pub rows-requires-clause-one_length : goal.rows-requires-clause-one_length
rows-requires-clause-one_length c =
    let copied = c.in_ok-put_into.ensures ∙ c.as_slice.ensures.value in
    subst (StartTogether c.in_ok-all.all.items) (sym copied)
    (some_start c.args.foreign.now c.in_ok-all.all.items c.args.mine.now.items c.in_ok-all.ensures.written c.in_ok-all.ensures.shifted c.requires.meet)

pub returns-clause-moved : goal.returns-clause-moved
returns-clause-moved c =
    let copied = c.in_ok-put_into.ensures ∙ c.as_slice.ensures.value in
    subst (λ l. AreMoved c.args.foreign.now c.args.mine.now.items l c.in_ok-made.made) (sym (ap (λ v. v.items) c.swap.ensures.x_after))
    (some_moved c.args.foreign.now c.in_ok-all.all.items c.args.mine.now.items c.in_ok-all.ensures.written c.in_ok-all.ensures.shifted
    c.rows.new.committed.items c.rows.new.mine.items c.in_ok-made.made
    (subst (λ l. AreRows c.in_ok-all.all.items l c.rows.new.committed.items c.rows.new.mine.items) copied c.in_ok-rows.ensures.rows)
    (subst (AreWritten (operations_of c.in_ok-made.made)) c.as_slice-2.ensures.value c.in_ok-made.ensures.written) c.in_ok-made.ensures.outlines c.in_ok-made.ensures.cite)
