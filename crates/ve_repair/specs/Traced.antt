-- Where each node of a new list comes from: an old one, or none that matches it.
use Rattle.std.specs.Prelude.{◌≡◌, ◌≢◌, ◌≤◌, ◌<◌, ℕ, suc, ◌+◌, ◌⊎◌, Option, Some, None, List, [], ◌∷◌}
use Rattle.ve_kinds.specs.declared.kind.Kind.{Kind}
use Rattle.ve_tree.specs.Links.{Apart}
use Rattle.ve_repair.specs.Spelled.{Sign, BeginOf, LettersOf, EndOf}
use Rattle.ve_repair.specs.Script.{Mark, KeptLetter, CutLetter, NewLetter, KeptBegin, CutBegin, NewBegin, KeptEnd, CutEnd, NewEnd}

-- a sign of the list, of which the first stands at `from`, stands at a position
abbrev pub Stands : List Sign → ℕ → Sign → ℕ → Type 0
Stands [] from s at = ⊥
Stands (BeginOf n kind ∷ ss) from s at = ((BeginOf n kind ≡ s) × (from ≡ at)) ⊎ Stands ss (suc from) s at
Stands (LettersOf n count ∷ ss) from s at = ((LettersOf n count ≡ s) × (from ≡ at)) ⊎ Stands ss (from + count) s at
Stands (EndOf kind ∷ ss) from s at = ((EndOf kind ≡ s) × (from ≡ at)) ⊎ Stands ss (suc from) s at

-- a text, and an opening, of the old list
abbrev pub IsText : List Sign → ℕ → ℕ → ℕ → Type 0
IsText old t at count = Stands old 0 (LettersOf t count) at

pub record IsOpening (old : List Sign) (n at : ℕ) : Type 0 where
  pub kind : Kind
  pub stands : Stands old 0 (BeginOf n kind) at

-- the position is in the text
pub record InText (old : List Sign) (t p : ℕ) : Type 0 where
  pub at : ℕ
  pub count : ℕ
  pub text : IsText old t at count
  pub behind : at ≤ p
  pub before : p < at + count

abbrev pub NoText : List Sign → ℕ → Type 0
NoText old p = (t at count : ℕ) → IsText old t at count → at ≤ p → p < at + count → ⊥

-- `place` says where an item of the old list stands in the new one. No item stands there that was
-- in the old list:
abbrev pub NoneAt : (ℕ → Option ℕ) → ℕ → Type 0
NoneAt place q = (p : ℕ) → place p ≢ Some q

-- in the whole range
abbrev pub NoneIn : (ℕ → Option ℕ) → ℕ → ℕ → Type 0
NoneIn place from to = (q : ℕ) → from ≤ q → q < to → NoneAt place q

-- no item of the range stays
abbrev pub AllGo : (ℕ → Option ℕ) → ℕ → ℕ → Type 0
AllGo place from to = (p : ℕ) → from ≤ p → p < to → place p ≡ None

-- one item is the first of the old range that stays, and the first of the new range that was
pub record FirstOfBoth (place : ℕ → Option ℕ) (at count at' count' : ℕ) : Type 0 where
  pub there : ℕ
  pub here : ℕ
  pub goes : place there ≡ Some here
  pub behind : at ≤ there
  pub before : there < at + count
  pub first : AllGo place at there
  pub behind' : at' ≤ here
  pub before' : here < at' + count'
  pub first' : NoneIn place at' here

-- A text of the new list is one of the old list where one item is the first of both. Or its number
-- is new, and no text of the old list is that.
pub record KeptText (place : ℕ → Option ℕ) (old : List Sign) (n at' count' : ℕ) : Type 0 where
  pub at : ℕ
  pub count : ℕ
  pub text : IsText old n at count
  pub same : FirstOfBoth place at count at' count'

pub record NewText (place : ℕ → Option ℕ) (old : List Sign) (numbers : List ℕ) (n at' count' : ℕ) : Type 0 where
  pub fresh : Apart n numbers
  pub other : (t at count : ℕ) → IsText old t at count → FirstOfBoth place at count at' count' → ⊥

-- and so is a node
pub record KeptOpening (place : ℕ → Option ℕ) (old : List Sign) (n at' : ℕ) : Type 0 where
  pub at : ℕ
  pub opening : IsOpening old n at
  pub goes : place at ≡ Some at'

pub record NewOpening (place : ℕ → Option ℕ) (numbers : List ℕ) (n at' : ℕ) : Type 0 where
  pub fresh : Apart n numbers
  pub other : NoneAt place at'

-- all signs of a list are
abbrev pub AllTraced : (ℕ → Option ℕ) → List Sign → List ℕ → List Sign → ℕ → Type 0
AllTraced place old numbers [] at = Unit {0}
AllTraced place old numbers (BeginOf n kind ∷ ss) at = (KeptOpening place old n at ⊎ NewOpening place numbers n at) × AllTraced place old numbers ss (suc at)
AllTraced place old numbers (LettersOf n count ∷ ss) at =
    (KeptText place old n at count ⊎ NewText place old numbers n at count) × AllTraced place old numbers ss (at + count)
AllTraced place old numbers (EndOf kind ∷ ss) at = AllTraced place old numbers ss (suc at)

-- Marks that stand at these positions of both lists, and what is said of the positions behind them.
abbrev pub Goes : (ℕ → Option ℕ) → List Sign → (ℕ → ℕ → Type 0) → List Mark → ℕ → ℕ → Type 0
Goes place old end [] p q = end p q
Goes place old end (KeptLetter t ends ∷ ms) p q = (place p ≡ Some q) × InText old t p × Goes place old end ms (suc p) (suc q)
Goes place old end (CutLetter t ends ∷ ms) p q = (place p ≡ None) × Goes place old end ms (suc p) q
Goes place old end (NewLetter ∷ ms) p q = NoneAt place q × Goes place old end ms p (suc q)
Goes place old end (KeptBegin n kind ∷ ms) p q = (place p ≡ Some q) × IsOpening old n p × NoText old p × Goes place old end ms (suc p) (suc q)
Goes place old end (CutBegin n ∷ ms) p q = (place p ≡ None) × Goes place old end ms (suc p) q
Goes place old end (NewBegin n kind ∷ ms) p q = NoneAt place q × Goes place old end ms p (suc q)
Goes place old end (KeptEnd kind ∷ ms) p q = NoText old p × Goes place old end ms (suc p) (suc q)
Goes place old end (CutEnd ∷ ms) p q = (place p ≡ None) × Goes place old end ms (suc p) q
Goes place old end (NewEnd kind ∷ ms) p q = Goes place old end ms p (suc q)

-- No two signs of the old list share a position, and no two texts a number.
pub record AreOnce (old : List Sign) : Type 0 where
  pub by_place : (t at count t' at' count' p : ℕ) → IsText old t at count → IsText old t' at' count' → at ≤ p → p < at + count → at' ≤ p → p < at' + count' →
      t ≡ t'
  pub by_number : (t at count at' count' : ℕ) → IsText old t at count → IsText old t at' count' → (at ≡ at') × (count ≡ count')
