use Rattle.std.proofs.Common.{◌≡◌, ◌+◌, false, drop, refl, sym, ap, subst, ◌∙◌, arith, IsUtf8}
use Rattle.std.specs.Prelude.{IfNone}
use Rattle.ve_write.specs.Siblings.{is_end}
use Rattle.ve_write.specs.Told.{blocks_at, known_of, GoesOn}
use Rattle.ve_write.proofs.SiblingLemmas.{found_at, outer_on}
use Rattle.ve_write.proofs.BeforeLemmas.{before_on}
use Rattle.ve_write.proofs.BlockLemmas.{some_then}
use Rattle.ve_write.proofs.ContentLemmas.{goes_on}
use Rattle.ve_write.proofs.DepthLemmas.{piece_item}
use Rattle.ve_write.proofs.blocks.put_run.Goals as goal

pub put_kept-requires-clause-item : goal.put_kept-requires-clause-item
put_kept-requires-clause-item c =
    let i = c.sibling.invariant in
    piece_item c.args.page.list.now.items c.piece-piece.result.now c.args.from.at c.sibling.run.at _ c.piece-piece.ensures.items (omega (arith, c.piece-piece.ensures.within, c.len-len.ensures)) i.more c.sibling-test.true

pub put_kept-requires-clause-before : goal.put_kept-requires-clause-before
put_kept-requires-clause-before c =
    let items = c.args.page.list.now.items in
    let i = c.sibling.invariant in
    let found = piece_item items c.piece-piece.result.now c.args.from.at c.sibling.run.at _ c.piece-piece.ensures.items (omega (arith, c.piece-piece.ensures.within, c.len-len.ensures)) i.more c.sibling-test.true in
    i.before (ap is_end (found_at items c.sibling.run.at _ found) ∙ c.if-not-is_known_at.ensures refl (drop (c.sibling.run.at + 1) items))

pub sibling-preserved : goal.sibling-preserved
sibling-preserved c =
    let items = c.args.page.list.now.items in
    let i = c.sibling.invariant in
    let s = c.in-Some.step in
    let e = c.in_ok-step.ensures in
    let found = piece_item items c.piece-piece.result.now c.args.from.at c.sibling.run.at _ c.piece-piece.ensures.items (omega (arith, c.piece-piece.ensures.within, c.len-len.ensures)) i.more c.sibling-test.true in
    let goes : is_end (drop c.sibling.run.at items) ≡ false = ap is_end (found_at items c.sibling.run.at _ found) ∙ c.if-not-is_known_at.ensures refl (drop (c.sibling.run.at + 1) items) in
    let more = some_then _ c.in_ok-step.field-0 s c.in-Some.is e.more in
    let within = some_then _ c.in_ok-step.field-0 s c.in-Some.is e.within in
    let outer = some_then _ c.in_ok-step.field-0 s c.in-Some.is e.outer in
    record {
      more = omega (arith, i.more, more);
      within = within;
      before = before_on c.args.page.store.now items c.args.page.refs.now c.args.page.first c.sibling.run.at s.at c.requires.lent (i.before goes) i.within within outer;
      outer = outer_on items c.args.from.at c.sibling.run.at s.at i.outer outer;
      text = goes_on (known_of c.args.page) c.args.out.now c.sibling.out c.put_kept.new.out (λ w v. blocks_at w v items c.args.from.bare c.args.from.at) (λ w v. blocks_at w v items c.sibling.run.bare c.sibling.run.at) (λ w v. blocks_at w v items s.bare s.at)
          i.text (some_then _ c.in_ok-step.field-0 s c.in-Some.is e.text);
      utf8 = λ u. e.utf8 (i.utf8 u);
    }

pub returns-in-None : goal.returns-in-None
returns-in-None c =
    let items = c.args.page.list.now.items in
    let i = c.sibling.invariant in
    let kept : c.put_kept.new.out ≡ c.sibling.out = subst (λ o. IfNone o (c.put_kept.new.out ≡ c.sibling.out)) c.in-None.is c.in_ok-step.ensures.none in
    record {
      more = i.more;
      within = i.within;
      outer = i.outer;
      text = subst (λ o. GoesOn (known_of c.args.page) c.args.out.now o (λ w v. blocks_at w v items c.args.from.bare c.args.from.at) (λ w v. blocks_at w v items c.sibling.run.bare c.sibling.run.at)) (sym kept) i.text;
      utf8 = subst (λ o. IsUtf8 c.args.out.now → IsUtf8 o) (sym kept) i.utf8;
    }
