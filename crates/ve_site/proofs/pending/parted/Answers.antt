use Rattle.std.proofs.Common.{◌≡◌, ◌<◌, List, [], ◌∷◌, ◌++◌, length, take, drop, sym, ap, ◌∙◌, arith}
use Rattle.std.proofs.lemmas.List.{append_assoc, append-nil, length-append, nil_from_length}
use Rattle.ve_tx.specs.declared.entry.Entry.{Entry}
use Rattle.ve_site.proofs.DropLemmas.{seam}
use Rattle.ve_site.proofs.pending.parted.Goals as goal

pub loop-entry-init : goal.loop-entry-init
loop-entry-init c =
    let none = ap (λ (l : List Entry). length l) c.new-first.ensures.items in
    record {
      together = ap (λ l. l ++ (c.new-second.result.items ++ c.into_iter-entry-iterator.result.rest.items)) c.new-first.ensures.items
          ∙ (ap (λ l. l ++ c.into_iter-entry-iterator.result.rest.items) c.new-second.ensures.items ∙ (c.into_iter-entry-iterator.ensures.into_iter_gives.0 ∙ c.into_vec-all.ensures));
      long = c.into_iter-entry-iterator.ensures.into_iter_gives.1
          ∙ (sym c.as_slice-lent.ensures.len ∙ ap (λ (l : List Entry). length l) (c.as_slice-lent.ensures.value ∙ sym c.into_iter-entry-iterator.ensures.into_iter_gives.0));
      within = omega (arith, none);
      full = λ h. c.new-second.ensures.items;
    }

pub loop-entry-preserved : goal.loop-entry-preserved
loop-entry-preserved c =
    let first = c.loop-entry.first.items in
    let second = c.loop-entry.second.items in
    let rest = c.loop-entry.entry-iterator.rest.items in
    let later = c.next.new.self.rest.items in
    let e = c.in-Some.entry in
    let counted = ap (λ (l : List Entry). length l) c.as_slice-count.ensures.value in
    let more = ap (λ (l : List Entry). length l) c.in_ok-push-2.ensures.items ∙ length-append first (e ∷ []) in
    let below : length first < c.args.at = omega (arith, counted, c.loop-entry.invariant.within, c.if-count-at.false) in
    let none : second ≡ [] = c.loop-entry.invariant.full below in
    record {
      together = ap (λ l. l ++ (second ++ later)) c.in_ok-push-2.ensures.items
          ∙ (append_assoc first (e ∷ []) (second ++ later)
          ∙ (ap (λ l. first ++ e ∷ (l ++ later)) none
          ∙ (ap (λ l. first ++ l) (sym c.in-Some.ensures.steps.0) ∙ (sym (ap (λ l. first ++ (l ++ rest)) none) ∙ c.loop-entry.invariant.together))));
      long = (let n = ap (λ (l : List Entry). length l) c.in-Some.ensures.steps.0 in omega (arith, n, c.in-Some.ensures.steps.1, c.loop-entry.invariant.long));
      within = omega (arith, below, more);
      full = λ h. none;
    }

pub loop-entry-preserved-then-count-at : goal.loop-entry-preserved-then-count-at
loop-entry-preserved-then-count-at c =
    let first = c.loop-entry.first.items in
    let second = c.loop-entry.second.items in
    let rest = c.loop-entry.entry-iterator.rest.items in
    let later = c.next.new.self.rest.items in
    let e = c.in-Some.entry in
    let counted = ap (λ (l : List Entry). length l) c.as_slice-count.ensures.value in
    record {
      together = ap (λ l. first ++ (l ++ later)) c.in_ok-push.ensures.items
          ∙ (ap (λ l. first ++ l) (append_assoc second (e ∷ []) later)
          ∙ (ap (λ l. first ++ (second ++ l)) (sym c.in-Some.ensures.steps.0) ∙ c.loop-entry.invariant.together));
      long = (let n = ap (λ (l : List Entry). length l) c.in-Some.ensures.steps.0 in omega (arith, n, c.in-Some.ensures.steps.1, c.loop-entry.invariant.long));
      within = c.loop-entry.invariant.within;
      full = λ h. absurd (omega (arith, counted, h, c.if-count-at.true));
    }

pub returns-clause-first : goal.returns-clause-first
returns-clause-first c =
    let first = c.loop-entry.first.items in
    let second = c.loop-entry.second.items in
    let empty : c.loop-entry.entry-iterator.rest.items ≡ [] =
    nil_from_length c.loop-entry.entry-iterator.rest.items (sym c.loop-entry.invariant.long ∙ c.in-None.ensures.steps.0) in
    let all : first ++ second ≡ c.args.entries =
    ap (λ l. first ++ l) (sym (append-nil second)) ∙ (ap (λ l. first ++ (second ++ l)) (sym empty) ∙ c.loop-entry.invariant.together) in
    (seam first second c.args.at c.loop-entry.invariant.within c.loop-entry.invariant.full).0 ∙ ap (take c.args.at) all

pub returns-clause-second : goal.returns-clause-second
returns-clause-second c =
    let first = c.loop-entry.first.items in
    let second = c.loop-entry.second.items in
    let empty : c.loop-entry.entry-iterator.rest.items ≡ [] =
    nil_from_length c.loop-entry.entry-iterator.rest.items (sym c.loop-entry.invariant.long ∙ c.in-None.ensures.steps.0) in
    let all : first ++ second ≡ c.args.entries =
    ap (λ l. first ++ l) (sym (append-nil second)) ∙ (ap (λ l. first ++ (second ++ l)) (sym empty) ∙ c.loop-entry.invariant.together) in
    (seam first second c.args.at c.loop-entry.invariant.within c.loop-entry.invariant.full).1 ∙ ap (drop c.args.at) all
