-- How replies, states, costs and outputs go on from one line to the next.
use Rattle.std.proofs.Common.{◌≡◌, ℕ, suc, List, [], ◌∷◌, ◌++◌, map, arith, refl, ap, ◌∙◌}
use Rattle.std.proofs.lemmas.List.{map-append}
use Rattle.model_script.specs.Lines.{lines_of, with_newlines}
use Rattle.model_script.specs.Output.{Meaning, replies, state_after, written}
use Rattle.model_script.specs.Laws.{EachLineIsAnswered, RepliesFollowOn, StateFollowsOn, CostFollowsOn, OutputFollowsOn}
use Rattle.model_script.proofs.Cuts.{with_newlines-append, lines_of-with_newlines}

pub each_line_is_answered : (W R : Type 0) → EachLineIsAnswered W R
each_line_is_answered W R m world [] = refl
each_line_is_answered W R m world (line ∷ lines) = ap suc (each_line_is_answered W R m (m.next world line) lines)

pub replies_follow_on : (W R : Type 0) → RepliesFollowOn W R
replies_follow_on W R m world [] more = refl
replies_follow_on W R m world (line ∷ lines) more = ap (λ rs. m.reply world line ∷ rs) (replies_follow_on W R m (m.next world line) lines more)

pub state_follows_on : (W R : Type 0) → StateFollowsOn W R
state_follows_on W R m world [] more = refl
state_follows_on W R m world (line ∷ lines) more = state_follows_on W R m (m.next world line) lines more

pub cost_follows_on : (W R : Type 0) → CostFollowsOn W R
cost_follows_on W R m world [] more = omega arith
cost_follows_on W R m world (line ∷ lines) more = omega (arith, cost_follows_on W R m (m.next world line) lines more)

pub written-append : {W R : Type 0} (spelled : R → List ℕ) (m : Meaning W R) (world : W) (lines more : List (List ℕ))
    → written spelled m world (lines ++ more) ≡ written spelled m world lines ++ written spelled m (state_after m world lines) more
written-append spelled m world lines more =
    ap (λ rs. with_newlines (map spelled rs)) (replies_follow_on _ _ m world lines more)
    ∙ ap with_newlines (map-append spelled (replies m world lines) (replies m (state_after m world lines) more))
    ∙ with_newlines-append (map spelled (replies m world lines)) (map spelled (replies m (state_after m world lines) more))

pub output_follows_on : (W R : Type 0) → OutputFollowsOn W R
output_follows_on W R spelled m world lines rest h = ap (written spelled m world) (lines_of-with_newlines lines rest h) ∙ written-append spelled m world lines (lines_of rest)
