use Rattle.std.proofs.Common.{◌≡◌, ◌≢◌, ◌<◌, ◌≤◌, sym, arith}
use Rattle.ve_gen.proofs.DrawLemmas.{line_text, line_remove, line_split, line_mark, line_undo}
use Rattle.ve_gen.proofs.JoinLemmas.{on_ok_same}
use Rattle.ve_gen.proofs.edits.push_line.Goals as goal

pub returns-then-choice-lt4 : goal.returns-then-choice-lt4
returns-then-choice-lt4 c =
    let h : c.args.choice < 4 = omega arith in
    on_ok_same c.push_text.result _ _ _ _ (sym (line_text c.args.choice c.args.at c.args.more h)) c.push_text.ensures

pub returns-then-choice-eq4 : goal.returns-then-choice-eq4
returns-then-choice-eq4 c =
    let h : c.args.choice ≡ 4 = omega arith in
    on_ok_same c.push_remove.result _ _ _ _ (sym (line_remove c.args.choice c.args.at c.args.more h)) c.push_remove.ensures

pub returns-then-choice-eq5 : goal.returns-then-choice-eq5
returns-then-choice-eq5 c =
    let h : c.args.choice ≡ 5 = omega arith in
    on_ok_same c.push_split.result _ _ _ _ (sym (line_split c.args.choice c.args.at c.args.more h)) c.push_split.ensures

pub returns-then-choice-eq6 : goal.returns-then-choice-eq6
returns-then-choice-eq6 c =
    let h : c.args.choice ≡ 6 = omega arith in
    on_ok_same c.push_mark.result _ _ _ _ (sym (line_mark c.args.choice c.args.at c.args.more h)) c.push_mark.ensures

pub returns : goal.returns
returns c =
    let h : 4 ≤ c.args.choice = omega arith in
    let k : c.args.choice ≢ 4 = λ e. omega (arith, e) in
    let l : c.args.choice ≢ 5 = λ e. omega (arith, e) in
    let m : c.args.choice ≢ 6 = λ e. omega (arith, e) in
    on_ok_same c.push.result _ _ _ _ (sym (line_undo c.args.choice c.args.at c.args.more h k l m)) c.push.ensures.ok
