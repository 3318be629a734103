use Rattle.std.proofs.Common.{[], refl, sym, ◌∙◌}
use Rattle.ve_write.proofs.SiblingLemmas.{ends_here}
use Rattle.ve_write.specs.Told.{content_at, known_of}
use Rattle.ve_write.proofs.BeforeLemmas.{before_on}
use Rattle.ve_write.proofs.ContentLemmas.{content_done, changed_is}
use Rattle.ve_write.proofs.content.put_content.Goals as goal

pub put_inline-requires-clause-before : goal.put_inline-requires-clause-before
put_inline-requires-clause-before c =
    before_on c.args.page.store.now c.args.page.list.now.items c.args.page.refs.now c.args.page.first c.args.from c.loop-out.at c.requires.lent c.requires.before c.requires.within c.loop-out.invariant.within c.loop-out.invariant.outer
    (sym c.ends_at.ensures ∙ c.loop-out-test.true)

pub returns-clause-ends : goal.returns-clause-ends
returns-clause-ends c = ends_here c.args.page.list.now.items c.args.from c.loop-out.at (sym c.ends_at.ensures ∙ c.loop-out-test.false) c.loop-out.invariant.outer

pub returns-clause-text : goal.returns-clause-text
returns-clause-text c =
    content_done (known_of c.args.page) c.loop-out.at _ c.args.out.now c.loop-out.out _ (λ w v. content_at w v c.args.page.list.now.items [] c.args.from) (sym c.ends_at.ensures ∙ c.loop-out-test.false)
    c.loop-out.invariant.text (changed_is c.loop-out.out _ _ _ _ _ c.in_ok-change_marks.ensures.text c.marks_of.ensures refl)
