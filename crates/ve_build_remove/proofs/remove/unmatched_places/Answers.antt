use Rattle.std.proofs.Common.{◌≡◌, ℕ, Bool, [], ◌∷◌, ◌++◌, filter, sym, ap, ◌∙◌, arith}
use Rattle.model_items.specs.Plain.{plain_list}
use Rattle.model_items.specs.Offsets.{is_unmatched, places_in}
use Rattle.ve_edits.proofs.SpanLemmas.{passing_more, passing_same}
use Rattle.ve_build_remove.proofs.remove.unmatched_places.Goals as goal

pub loop-at-preserved-then-not-is_unmatched : goal.loop-at-preserved-then-not-is_unmatched
loop-at-preserved-then-not-is_unmatched c = λ values.
    let p : ℕ → Bool = is_unmatched (plain_list values c.args.doc.list.now.items) c.args.from c.args.to in
    c.loop-at.invariant values ∙ sym (passing_same p c.args.from c.loop-at.at (omega arith) (sym (c.is_unmatched.ensures values) ∙ c.if-not-is_unmatched.true))

pub loop-at-preserved : goal.loop-at-preserved
loop-at-preserved c = λ values.
    let p : ℕ → Bool = is_unmatched (plain_list values c.args.doc.list.now.items) c.args.from c.args.to in
    c.in_ok-push.ensures.items ∙ ap (λ v. v ++ c.loop-at.at ∷ []) (c.loop-at.invariant values)
    ∙ sym (passing_more p c.args.from c.loop-at.at (omega arith) (sym (c.is_unmatched.ensures values) ∙ c.if-not-is_unmatched.false))

pub returns : goal.returns
returns c = λ values.
    let p : ℕ → Bool = is_unmatched (plain_list values c.args.doc.list.now.items) c.args.from c.args.to in
    let e : c.loop-at.at ≡ c.args.to = omega arith in
    c.loop-at.invariant values ∙ ap (λ k. filter p (places_in c.args.from k)) e
