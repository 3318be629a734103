use Rattle.std.proofs.Common.{◌≡◌, ◌+◌, ◌++◌, ◌∷◌, [], ℕ, suc, List, Some, option_and_then, length, drop, sym, ap, ◌∙◌, arith}
use Rattle.std.proofs.lemmas.List.{length-append}
use Rattle.model_items.specs.Plain.{marks_in, plain, value_at}
use Rattle.ve_json.proofs.RangeLemmas.{item_before, length_before}
use Rattle.ve_json.proofs.RunLemmas.{run_on, none_past}
use Rattle.model_edit.specs.Insert.{text_pieces}
use Rattle.ve_json.specs.Runs.{char_with, plain_before}
use Rattle.ve_json.proofs.item_replies.run_at.Goals as goal

pub loop-end-preserved : goal.loop-end-preserved
loop-end-preserved c =
    let S = c.args.store.now in
    let items = c.args.list.now.items in
    let at = c.args.range.0 in
    let to = c.args.range.1 in
    let P = plain_before to S items in
    let marks = marks_in (value_at S c.args.cited) in
    let end = c.loop-end.end in
    let ch = c.in-Some.ch in
    let got = item_before S items to end c.get.result c.loop-end-test.true c.get.ensures in
    let is : char_with marks (plain S c.get.result) ≡ Some ch = sym c.char_of.ensures ∙ c.in-Some.is in
    let next : suc end ≡ end + 1 = omega arith in
    record {
      within = omega (arith, c.loop-end-test.true);
      run = run_on P marks at end c.loop-end.text (plain S c.get.result) ch c.loop-end.invariant.run got is
          ∙ ap (λ t. text_pieces marks t ++ drop (suc end) P) (sym c.in_ok-push.ensures.ok)
          ∙ ap (λ n. text_pieces marks c.push.new.self ++ drop n P) next;
      count = omega (arith, ap (λ (t : List ℕ). length t) c.in_ok-push.ensures.ok, length-append c.loop-end.text (ch ∷ []), c.loop-end.invariant.count);
    }

pub returns : goal.returns
returns c =
    let S = c.args.store.now in
    let items = c.args.list.now.items in
    let to = c.args.range.1 in
    let P = plain_before to S items in
    let marks = marks_in (value_at S c.args.cited) in
    let inv = c.loop-end.invariant in
    let last : c.loop-end.end ≡ to = omega (arith, inv.within, c.loop-end-test.false) in
    let long : length P ≡ to = length_before S items to c.requires.within in
    record {
      within = omega (arith, long);
      run = inv.run ∙ ap (λ n. text_pieces marks c.loop-end.text ++ drop n P) last;
      count = inv.count ∙ last;
      stops = ap (option_and_then (char_with marks)) (none_past P to (omega (arith, long)));
    }
