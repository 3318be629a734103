use Rattle.std.proofs.Common.{◌≡◌, ◌+◌, ◌++◌, suc, Some, sym, ap, ◌∙◌, subst, arith}
use Rattle.serde_json.specs.Written.{compact_text}
use Rattle.model_items.specs.Plain.{marks_in, plain, value_at}
use Rattle.model_world.specs.Shown.{run_shown}
use Rattle.ve_json.specs.Runs.{AddsFirst, plain_before}
use Rattle.ve_json.proofs.RangeLemmas.{item_before}
use Rattle.ve_json.proofs.RunLemmas.{IsBracket, bracket_added, run_first}
use Rattle.ve_json.proofs.item_replies.push_first.Goals as goal

pub returns-in_ok-push_run-in-Char-clause-ok : goal.returns-in_ok-push_run-in-Char-clause-ok
returns-in_ok-push_run-in-Char-clause-ok c =
    let S = c.args.store.now in
    let items = c.args.list.now.items in
    let marks = marks_in (value_at S c.in-Char.marks) in
    let run = c.in_ok-run-in-Char.run' in
    let got = item_before S items c.args.range.1 c.args.range.0 c.get-item.result c.requires.some c.get-item.ensures ∙ ap (λ i. Some (plain S i)) c.in-Char.is in
    run_first (plain_before c.args.range.1 S items) marks c.args.range.0 run.end run.text c.args.out.now.text c.push_run.new.out.text c.in-Char.ch c.in_ok-run-in-Char.ensures got
    (c.in_ok-push_run-in-Char.ensures.ok ∙ ap (λ m. c.args.out.now.text ++ compact_text (run_shown m run.text)) c.marks_of.ensures)

pub returns-in_ok-push_bracket-in-Opening-clause-ok : goal.returns-in_ok-push_bracket-in-Opening-clause-ok
returns-in_ok-push_bracket-in-Opening-clause-ok c =
    let S = c.args.store.now in
    let items = c.args.list.now.items in
    let next : suc c.args.range.0 ≡ c.args.range.0 + 1 = omega arith in
    subst (λ n. AddsFirst (plain_before c.args.range.1 S items) c.args.range.0 n c.args.out.now.text c.push_bracket.new.out.text) next
    (bracket_added S items c.args.range.1 c.args.range.0 c.get-item.result c.args.out.now.text c.push_bracket.new.out.text c.requires.some c.requires.within c.get-item.ensures
    (subst IsBracket (sym c.in-Opening.is) tt) c.in_ok-push_bracket-in-Opening.ensures.ok)

pub returns-in_ok-push_bracket-in-Closing-clause-ok : goal.returns-in_ok-push_bracket-in-Closing-clause-ok
returns-in_ok-push_bracket-in-Closing-clause-ok c =
    let S = c.args.store.now in
    let items = c.args.list.now.items in
    let next : suc c.args.range.0 ≡ c.args.range.0 + 1 = omega arith in
    subst (λ n. AddsFirst (plain_before c.args.range.1 S items) c.args.range.0 n c.args.out.now.text c.push_bracket-in-Closing.new.out.text) next
    (bracket_added S items c.args.range.1 c.args.range.0 c.get-item.result c.args.out.now.text c.push_bracket-in-Closing.new.out.text c.requires.some c.requires.within c.get-item.ensures
    (subst IsBracket (sym c.in-Closing.is) tt) c.in_ok-push_bracket-in-Closing.ensures.ok)
