use Rattle.std.proofs.Common.{◌≡◌, ℕ, ◌+◌, ◌-◌, ◌*◌, List, length, drop, false, ◌&&◌, nat_le, if◌then◌else◌, inl, inr, sym, ap, ◌∙◌, arith}
use Rattle.std.proofs.lemmas.Bool.{le-leb}
use Rattle.std.proofs.lemmas.Iterator.{YieldsList-from_chars}
use Rattle.std.proofs.lemmas.List.{at_drop_all, length_push}
use Rattle.std.proofs.lemmas.Iterator.Consumers.{YieldsList-turn, YieldsList-end}
use Rattle.std.specs.Str.{chars}
use Rattle.model_edit.specs.Grid.{number_after, span_by}
use Rattle.ve_tables.proofs.SpanLemmas.{past_most, digit_more, no_digit, below_digits, above_digits}
use Rattle.ve_tables.proofs.span_attributes.number_of.Goals as goal

pub returns-then-ch-lt48 : goal.returns-then-ch-lt48
returns-then-ch-lt48 c =
    let t = YieldsList-turn (YieldsList-from_chars c.args.text.now c.utf8.text cc) c.loop-ch.yielded _ c.loop-ch.yielded_by _ _ c.in-Some.ch c.in-Some.is c.next.ensures.steps in
    let other : (nat_le 48 c.in-Some.ch && nat_le c.in-Some.ch 57) ≡ false = elim c.then-ch-lt48.either [
      | inl less ↦ below_digits c.in-Some.ch less
      | inr more ↦ above_digits c.in-Some.ch more.1
    ] in
    sym (no_digit c.args.most c.loop-ch.number (length c.loop-ch.yielded) c.in-Some.ch (chars c.args.text.now) t other) ∙ c.loop-ch.invariant.means

pub returns-then-most-number : goal.returns-then-most-number
returns-then-most-number c =
    let t = YieldsList-turn (YieldsList-from_chars c.args.text.now c.utf8.text cc) c.loop-ch.yielded _ c.loop-ch.yielded_by _ _ c.in-Some.ch c.in-Some.is c.next.ensures.steps in
    let at = length c.loop-ch.yielded in
    sym (past_most c.args.most (c.loop-ch.number * 10 + (c.in-Some.ch - 48)) (drop (at + 1) (chars c.args.text.now)) c.if-most-number.true)
    ∙ sym (digit_more c.args.most c.loop-ch.number at c.in-Some.ch (chars c.args.text.now) t c.if-ch-lt48.false c.if-ch-gt57.false) ∙ c.loop-ch.invariant.means

pub loop-ch-preserved : goal.loop-ch-preserved
loop-ch-preserved c =
    let t = YieldsList-turn (YieldsList-from_chars c.args.text.now c.utf8.text cc) c.loop-ch.yielded _ c.loop-ch.yielded_by _ _ c.in-Some.ch c.in-Some.is c.next.ensures.steps in
    let at = length c.loop-ch.yielded in
    let number = c.loop-ch.number * 10 + (c.in-Some.ch - 48) in
    record {
      finite = tt;
      can_next = tt;
      most = c.if-most-number.false;
      means =
          ap (λ n. span_by c.args.most (number_after number (drop n (chars c.args.text.now)))) (length_push c.loop-ch.yielded c.in-Some.ch)
          ∙ sym (digit_more c.args.most c.loop-ch.number at c.in-Some.ch (chars c.args.text.now) t c.if-ch-lt48.false c.if-ch-gt57.false) ∙ c.loop-ch.invariant.means;
    }

pub returns : goal.returns
returns c =
    let t = YieldsList-end (YieldsList-from_chars c.args.text.now c.utf8.text cc) c.loop-ch.yielded _ c.loop-ch.yielded_by _ _ c.in-None.is c.next.ensures.steps in
    sym (ap (λ b. if b then c.loop-ch.number else 1) (le-leb c.loop-ch.number c.args.most c.loop-ch.invariant.most))
    ∙ sym (at_drop_all (λ (t : List ℕ). span_by c.args.most (number_after c.loop-ch.number t)) (chars c.args.text.now) (length c.loop-ch.yielded) (omega (arith, t.1))) ∙ c.loop-ch.invariant.means
