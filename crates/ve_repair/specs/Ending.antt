-- The writes at the levels that are open at a script's end do what keeping all that follows would
-- do.
use Rattle.std.specs.Prelude.{◌≡◌, ◌≢◌, ℕ, List, [], ◌∷◌, ◌++◌, drop}
use Rattle.ve_tree.specs.Links.{Links, AllApart}
use Rattle.ve_tree.specs.Named.{Named, node_numbers}
use Rattle.ve_repair.specs.declared.script.Step.{Step}
use Rattle.ve_repair.specs.Work.{Work, script_links, after_script}
use Rattle.ve_repair.specs.Tokens.{Token, End, tokens, keeps}
use Rattle.ve_repair.specs.Spelled.{AllFrom}
use Rattle.ve_repair.specs.Writes.{write_all}
use Rattle.ve_repair.specs.Plan.{Stacks, script_writes, script_stacks}
use Rattle.ve_repair.specs.Agree.{steps_of, OldAgree, NewAgree, Agrees, Ready}
use Rattle.ve_repair.specs.Closing.{close_writes}

-- the tokens that follow, where these rows are left, the innermost first
abbrev pub right_tokens : List Named → List Token
right_tokens [] = []
right_tokens (f ∷ []) = tokens f
right_tokens (f ∷ (g ∷ fs)) = tokens f ++ End ∷ right_tokens (g ∷ fs)

-- For each row a node is open in both lists, and no open node of the new list is one of the row or
-- inside it.
abbrev pub Fit : List Named → List ℕ → List ℕ → Type 0
Fit [] old new = Unit {0}
Fit (f ∷ fs) old new = (old ≢ []) × (new ≢ []) × AllFrom new (node_numbers f) × Fit fs (drop 1 old) (drop 1 new)

abbrev pub CloseIsKept : Type 0
CloseIsKept = (fs : List Named) (s : Stacks) (w : Work) (a : Links) → OldAgree s.old w.old → NewAgree s.new w.new w.done → AllApart w.new → Fit fs w.old w.new →
    write_all (close_writes fs s) a ≡ script_links (keeps (right_tokens fs)) w a

-- All writes of links that are planned, for a script and for what is open at its end, make the
-- links that the script makes with all that follows kept.
abbrev pub PlanIsWhole : Type 0
PlanIsWhole = (xs : List Step) (fs : List Named) (s : Stacks) (w : Work) (past : List ℕ) (a : Links) → Agrees s w past → Ready (steps_of xs) w past →
    Fit fs (after_script (steps_of xs) w).old (after_script (steps_of xs) w).new →
    write_all (script_writes xs s ++ close_writes fs (script_stacks xs s)) a ≡ script_links (steps_of xs ++ keeps (right_tokens fs)) w a
