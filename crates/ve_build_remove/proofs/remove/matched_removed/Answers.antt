use Rattle.std.proofs.Common.{◌≡◌, ℕ, Bool, not, List, [], ◌∷◌, map, filter, sym, ap, ◌∙◌, subst, arith}
use Rattle.std.proofs.lemmas.List.{map-append}
use Rattle.std.proofs.lemmas.List.Elements.{All-nil}
use Rattle.model_items.specs.Plain.{plain_list, CitesWell}
use Rattle.model_edit.specs.Edits.{Edit, Change, transaction_of}
use Rattle.model_items.specs.Offsets.{is_unmatched, places_in}
use Rattle.ve_edits.specs.Collected.{Makes}
use Rattle.ve_edits.proofs.SpanLemmas.{passing_more, passing_same, places_none}
use Rattle.ve_build_remove.proofs.remove.matched_removed.Goals as goal

pub loop-at-init : goal.loop-at-init
loop-at-init c = record {
  after = omega (arith, c.new-edits.ensures.at);
  makes = λ values cited.
      let items = c.args.doc.list.now.items in
      let q : ℕ → Bool = λ at. not (is_unmatched (plain_list values items) c.args.from c.args.to at) in
      let W : List ℕ → Type 0 = λ ns. Makes values items (map (λ at. Change at 1 []) (filter q ns)) c.new-edits.result in
      subst W (sym (places_none c.args.from)) (c.new-edits.ensures.makes values items);
}

pub loop-at-preserved-then-is_unmatched : goal.loop-at-preserved-then-is_unmatched
loop-at-preserved-then-is_unmatched c = record {
  after = let inv = c.loop-at.invariant.after in omega arith;
  makes = λ values cited.
      let items = c.args.doc.list.now.items in
      let q : ℕ → Bool = λ at. not (is_unmatched (plain_list values items) c.args.from c.args.to at) in
      let W : List ℕ → Type 0 = λ ns. Makes values items (map (λ at. Change at 1 []) ns) c.loop-at.edits in
      subst W (sym (passing_same q c.args.from c.loop-at.at (omega arith) (ap not (sym (c.is_unmatched.ensures values) ∙ c.if-is_unmatched.true)))) (c.loop-at.invariant.makes values cited);
}

pub loop-at-preserved : goal.loop-at-preserved
loop-at-preserved c = record {
  after = omega (arith, c.in_ok-change.ensures.at);
  makes = λ values cited.
      let items = c.args.doc.list.now.items in
      let at = c.loop-at.at in
      let f : ℕ → Edit = λ at. Change at 1 [] in
      let q : ℕ → Bool = λ at. not (is_unmatched (plain_list values items) c.args.from c.args.to at) in
      let W : List Edit → Type 0 = λ es. Makes values items es c.change.new.self in
      let e = ap (map f) (passing_more q c.args.from at (omega arith) (ap not (sym (c.is_unmatched.ensures values) ∙ c.if-is_unmatched.false))) ∙ map-append f (filter q (places_in c.args.from at)) (at ∷ []) in
      subst W (sym e) (c.in_ok-change.ensures.makes values (map f (filter q (places_in c.args.from at))) cited (All-nil (CitesWell values)) (c.loop-at.invariant.makes values cited));
}

pub returns-clause-means : goal.returns-clause-means
returns-clause-means c = λ values cited.
    let items = plain_list values c.args.doc.list.now.items in
    let f : ℕ → Edit = λ at. Change at 1 [] in
    let q : ℕ → Bool = λ at. not (is_unmatched items c.args.from c.args.to at) in
    let e : c.loop-at.at ≡ c.args.to = omega arith in
    c.in_ok-tx.ensures.means values (map f (filter q (places_in c.args.from c.loop-at.at))) (c.loop-at.invariant.makes values cited)
    ∙ ap (λ k. transaction_of items (map f (filter q (places_in c.args.from k)))) e

pub returns-clause-cites : goal.returns-clause-cites
returns-clause-cites c = λ values cited.
    let items = plain_list values c.args.doc.list.now.items in
    let f : ℕ → Edit = λ at. Change at 1 [] in
    let q : ℕ → Bool = λ at. not (is_unmatched items c.args.from c.args.to at) in
    c.in_ok-tx.ensures.cites values (map f (filter q (places_in c.args.from c.loop-at.at))) (c.loop-at.invariant.makes values cited)
