-- That a script finds its nodes open, and enters each new one once, is told by the trees of both
-- lists.
use Rattle.std.specs.Prelude.{◌≡◌, ℕ, List, [], ◌∷◌, ◌++◌}
use Rattle.ve_tree.specs.Links.{AllApart}
use Rattle.ve_tree.specs.Named.{Named, node_numbers}
use Rattle.ve_repair.specs.Work.{Work}
use Rattle.ve_repair.specs.Work as W
use Rattle.ve_repair.specs.Tokens.{Token, Begin, Letters, End, tokens, old_side, new_side, work_at}
use Rattle.ve_repair.specs.Agree.{Ready}

-- the numbers in tokens
abbrev pub nums : List Token → List ℕ
nums [] = []
nums (Begin n ∷ ts) = n ∷ nums ts
nums (Letters n ∷ ts) = n ∷ nums ts
nums (End ∷ ts) = nums ts

-- the first list before the second, from its end on
abbrev pub onto : List ℕ → List ℕ → List ℕ
onto [] past = past
onto (n ∷ ns) past = onto ns (n ∷ past)

-- Where a script stands in the trees of both lists, it is ready to be planned.
abbrev pub ScriptIsReady : Type 0
ScriptIsReady = (root : ℕ) (lefts right : List Token) (script : List W.Step) (old new : Named) →
    tokens old ≡ lefts ++ old_side script right → tokens new ≡ lefts ++ new_side script right → AllApart (root ∷ node_numbers new) →
    Ready script (work_at root lefts (old_side script right)) (onto (nums lefts) (root ∷ []))
