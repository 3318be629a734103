use Rattle.std.proofs.Common.{false, refl, sym, ◌∙◌, arith, subst}
use Rattle.std.proofs.lemmas.Option.{slice_get_within}
use Rattle.ve_write.proofs.SiblingLemmas.{opening_outer, ends_here, outer_on}
use Rattle.ve_write.specs.Told.{blocks_at, known_of, GoesOn}
use Rattle.ve_write.proofs.BeforeLemmas.{before_inside, before_on}
use Rattle.ve_write.proofs.BlockLemmas.{nests_is, nest_put, none_then, some_then, blocks_done}
use Rattle.ve_write.proofs.ContentLemmas.{goes_on}
use Rattle.ve_write.proofs.blocks.+put_blocks.Goals as goal

pub put_kept-requires-clause-before : goal.put_kept-requires-clause-before
put_kept-requires-clause-before t c =
    before_on c.args.page.store.now c.args.page.list.now.items c.args.page.refs.now c.args.page.first c.args.from c.sibling.at c.requires.lent c.requires.before c.requires.within c.sibling.invariant.within c.sibling.invariant.outer
    (sym c.ends_at.ensures ∙ c.sibling-test.true)

pub put_block-requires-clause-before : goal.put_block-requires-clause-before
put_block-requires-clause-before t c =
    before_on c.args.page.store.now c.args.page.list.now.items c.args.page.refs.now c.args.page.first c.args.from c.sibling.at c.requires.lent c.requires.before c.requires.within c.sibling.invariant.within c.sibling.invariant.outer
    (sym c.ends_at.ensures ∙ c.sibling-test.true)

pub put_run-requires-clause-before : goal.put_run-requires-clause-before
put_run-requires-clause-before t c = λ goes.
    let step = c.in-Some.step in
    before_on c.args.page.store.now c.args.page.list.now.items c.args.page.refs.now c.args.page.first c.args.from step.at c.requires.lent c.requires.before c.requires.within (some_then _ c.in_ok-step.field-0 step c.in-Some.is c.in_ok-step.ensures.within)
    (outer_on c.args.page.list.now.items c.args.from c.sibling.at step.at c.sibling.invariant.outer (some_then _ c.in_ok-step.field-0 step c.in-Some.is c.in_ok-step.ensures.outer)) goes

pub sibling-preserved-in-Some : goal.sibling-preserved-in-Some
sibling-preserved-in-Some t c =
    let items = c.args.page.list.now.items in
    let k = known_of c.args.page in
    let i = c.sibling.invariant in
    let step = c.in-Some.step in
    let e = c.in_ok-step.ensures in
    let next = c.in_ok-next.next in
    let more = some_then _ c.in_ok-step.field-0 step c.in-Some.is e.more in
    record {
      more = omega (arith, i.more, more, c.in_ok-next.ensures.more);
      within = c.in_ok-next.ensures.within;
      outer = outer_on items c.args.from c.sibling.at next.at i.outer (outer_on items c.sibling.at step.at next.at (some_then _ c.in_ok-step.field-0 step c.in-Some.is e.outer) c.in_ok-next.ensures.outer);
      text = goes_on k c.args.out.now c.sibling.out c.put_run.new.out (λ w v. blocks_at w v items false c.args.from) (λ w v. blocks_at w v items c.sibling.before c.sibling.at) (λ w v. blocks_at w v items next.bare next.at) i.text
          (goes_on k c.sibling.out c.put_kept.new.out c.put_run.new.out (λ w v. blocks_at w v items c.sibling.before c.sibling.at) (λ w v. blocks_at w v items step.bare step.at) (λ w v. blocks_at w v items next.bare next.at)
          (some_then _ c.in_ok-step.field-0 step c.in-Some.is e.text) c.in_ok-next.ensures.text);
      utf8 = λ u. c.in_ok-next.ensures.utf8 (e.utf8 (i.utf8 u));
    }

pub put_opening-requires-clause-head : goal.put_opening-requires-clause-head
put_opening-requires-clause-head t c = let e = c.in-Some-nest_at.ensures.item in (c.requires.cites c.sibling.at _ e.3).0

pub put_opening-requires-clause-white : goal.put_opening-requires-clause-white
put_opening-requires-clause-white t c = let e = c.in-Some-nest_at.ensures.item in (c.requires.cites c.sibling.at _ e.3).2

pub put_blocks-requires : goal.put_blocks-requires
put_blocks-requires t c =
    let e = c.in-Some-nest_at.ensures.item in
    let n = nests_is _ c.in-Some-nest_at.ensures.kind in
    let here = before_on c.args.page.store.now c.args.page.list.now.items c.args.page.refs.now c.args.page.first c.args.from c.sibling.at c.requires.lent c.requires.before c.requires.within c.sibling.invariant.within c.sibling.invariant.outer
    (sym c.ends_at.ensures ∙ c.sibling-test.true) in
    let inside = before_inside c.args.page.store.now c.args.page.list.now.items c.args.page.first c.sibling.at c.in-Some-nest_at.element.kind _ _ _ _ _ here e.3 n.list in
    let less = slice_get_within c.args.page.list.now.items c.sibling.at _ e.3 in
    (omega (arith, c.decreases, c.sibling.invariant.more, less), (c.requires.cites, (c.requires.refers, (c.requires.lent, (inside, (omega (arith, less), c.compared_at-found.ensures))))))

pub sibling-preserved-in-Some-nest_at : goal.sibling-preserved-in-Some-nest_at
sibling-preserved-in-Some-nest_at t c =
    let e = c.in-Some-nest_at.ensures.item in
    let items = c.args.page.list.now.items in
    let after = c.after_siblings-after.result in
    record {
      more = omega (arith, c.sibling.invariant.more, c.in_ok-end.ensures.more, c.after_siblings-after.ensures.more);
      within = c.after_siblings-after.ensures.within;
      outer = outer_on items c.args.from c.sibling.at after.at c.sibling.invariant.outer
          (opening_outer items c.sibling.at _ _ _ _ _ _ _ c.in_ok-end.end after e.3 refl c.in_ok-end.ensures.ends c.after_siblings-after.ensures.follows);
      text = goes_on (known_of c.args.page) c.args.out.now c.sibling.out _ (λ w v. blocks_at w v items false c.args.from) (λ w v. blocks_at w v items c.sibling.before c.sibling.at)
          (λ w v. blocks_at w v items false after.at) c.sibling.invariant.text
          (subst (λ o. GoesOn (known_of c.args.page) o c.put_closing.new.out (λ w v. blocks_at w v items c.sibling.before c.sibling.at) (λ w v. blocks_at w v items false after.at)) (none_then c.in_ok-step.field-0 c.in_default.not-Some c.in_ok-step.ensures.none)
          (nest_put (known_of c.args.page) c.sibling.at c.in-Some-nest_at.element.kind e.0 c.in-Some-nest_at.element.head e.1 c.in-Some-nest_at.element.pre e.2 c.sibling.before c.in_ok-end.end after c.put_kept.new.out _ _ _
          e.3 (nests_is _ c.in-Some-nest_at.ensures.kind) (none_then c.in_ok-step.field-0 c.in_default.not-Some c.in_ok-step.ensures.afresh) c.in_ok-end.ensures.ends c.after_siblings-after.ensures.follows c.in_ok-put_opening.ensures.text c.in_ok-end.ensures.text c.in_ok-put_closing.ensures.text));
      utf8 = λ u. c.in_ok-put_closing.ensures.utf8 (c.in_ok-end.ensures.utf8 (c.in_ok-put_opening.ensures.utf8 (c.in_ok-step.ensures.utf8 (c.sibling.invariant.utf8 u))));
    }

pub returns-clause-ends : goal.returns-clause-ends
returns-clause-ends t c = ends_here c.args.page.list.now.items c.args.from c.sibling.at (sym c.ends_at.ensures ∙ c.sibling-test.false) c.sibling.invariant.outer

pub returns-clause-text : goal.returns-clause-text
returns-clause-text t c =
    blocks_done (known_of c.args.page) c.sibling.at c.sibling.before c.args.out.now c.sibling.out (λ w v. blocks_at w v c.args.page.list.now.items false c.args.from)
    (sym c.ends_at.ensures ∙ c.sibling-test.false) c.sibling.invariant.text
