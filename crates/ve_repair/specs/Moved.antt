-- Where an item of the old list stands in the new one, by what is done with each item.
use Rattle.std.specs.Prelude.{◌≡◌, ◌<◌, ℕ, zero, suc, ◌+◌, Option, Some, None, List, [], ◌∷◌, ◌++◌, replicate, option_map}
use Rattle.ve_repair.specs.Spelled.{Sign}
use Rattle.ve_repair.specs.Sizes.{place_after}
use Rattle.ve_repair.specs.Acts.{Act, Stay, Go, ComeLetter, ComeBegin, ComeEnd}

abbrev pub act_place : List Act → ℕ → Option ℕ
act_place [] p = None
act_place (Stay ∷ acts) zero = Some 0
act_place (Stay ∷ acts) (suc p) = option_map suc (act_place acts p)
act_place (Go ∷ acts) zero = None
act_place (Go ∷ acts) (suc p) = act_place acts p
act_place (ComeLetter ∷ acts) p = option_map suc (act_place acts p)
act_place (ComeBegin n kind ∷ acts) p = option_map suc (act_place acts p)
act_place (ComeEnd kind ∷ acts) p = option_map suc (act_place acts p)

-- Acts that begin at p of the old list and at q of the new one. They say of all items from there on
-- where they go; those before p stay before q.
pub record Follows (place : ℕ → Option ℕ) (acts : List Act) (p q : ℕ) : Type 0 where
  pub ahead : (x : ℕ) → place (p + x) ≡ option_map (λ y. q + y) (act_place acts x)
  pub behind : (x y : ℕ) → x < p → place x ≡ Some y → y < q

-- The acts on all items: those of the two parts stay, and these acts are of the piece between them.
abbrev pub all_acts : List Sign → List Act → List Sign → List Act
all_acts lefts acts rights = replicate (place_after lefts 0) Stay ++ (acts ++ replicate (place_after rights 0) Stay)

-- `place` is where they go
abbrev pub Moves : (ℕ → Option ℕ) → List Sign → List Act → List Sign → Type 0
Moves place lefts acts rights = (x : ℕ) → place x ≡ act_place (all_acts lefts acts rights) x
