-- The lengths right of a changed range.
use Rattle.std.proofs.Common.{◌≡◌, ℕ, suc, ◌+◌, ◌-◌, Option, List, [], ◌∷◌, ◌++◌, map, refl, sym, ap, ◌∙◌, subst, arith}
use Rattle.ve_arena.specs.declared.node.ArenaNode.{ArenaNode}
use Rattle.ve_repair.specs.Spelled.{Sign, BeginOf, LettersOf, EndOf}
use Rattle.ve_repair.specs.Sizes.{Begun, sizes, HaveSizes}
use Rattle.ve_repair.specs.SizesRight.{inner_sizes, ends, closing_sizes, SizesSplit, SizesInner}

split : (slots : List (Option ArenaNode)) (ss : List Sign) (begun open_ : List Begun) (at : ℕ) → HaveSizes slots (inner_sizes ss begun at) → HaveSizes slots (closing_sizes open_ (ends ss begun at)) →
    HaveSizes slots (sizes ss (begun ++ open_) at)
split slots [] begun open_ at h c = tt
split slots (BeginOf n kind ∷ ss) begun open_ at h c = split slots ss (record { node = n; from = at } ∷ begun) open_ (suc at) h c
split slots (LettersOf n count ∷ ss) begun open_ at h c = (h.0, split slots ss begun open_ (at + count) h.1 c)
split slots (EndOf kind ∷ ss) [] [] at h c = split slots ss [] [] (suc at) h tt
split slots (EndOf kind ∷ ss) [] (b ∷ open_) at h c = (c.0, split slots ss [] open_ (suc at) h c.1)
split slots (EndOf kind ∷ ss) (b ∷ begun) open_ at h c = (h.0, split slots ss begun open_ (suc at) h.1 c)

inner : (slots : List (Option ArenaNode)) (ss : List Sign) (begun open_ : List Begun) (at : ℕ) → HaveSizes slots (sizes ss (begun ++ open_) at) → HaveSizes slots (inner_sizes ss begun at)
inner slots [] begun open_ at h = tt
inner slots (BeginOf n kind ∷ ss) begun open_ at h = inner slots ss (record { node = n; from = at } ∷ begun) open_ (suc at) h
inner slots (LettersOf n count ∷ ss) begun open_ at h = (h.0, inner slots ss begun open_ (at + count) h.1)
inner slots (EndOf kind ∷ ss) [] [] at h = inner slots ss [] [] (suc at) h
inner slots (EndOf kind ∷ ss) [] (b ∷ open_) at h = inner slots ss [] open_ (suc at) h.1
inner slots (EndOf kind ∷ ss) (b ∷ begun) open_ at h = (h.0, inner slots ss begun open_ (suc at) h.1)

closing : (slots : List (Option ArenaNode)) (ss : List Sign) (begun open_ : List Begun) (at : ℕ) → HaveSizes slots (sizes ss (begun ++ open_) at) → HaveSizes slots (closing_sizes open_ (ends ss begun at))
closing slots [] begun [] at h = tt
closing slots [] begun (b ∷ open_) at h = tt
closing slots (BeginOf n kind ∷ ss) begun open_ at h = closing slots ss (record { node = n; from = at } ∷ begun) open_ (suc at) h
closing slots (LettersOf n count ∷ ss) begun open_ at h = closing slots ss begun open_ (at + count) h.1
closing slots (EndOf kind ∷ ss) [] [] at h = tt
closing slots (EndOf kind ∷ ss) [] (b ∷ open_) at h = (h.0, closing slots ss [] open_ (suc at) h.1)
closing slots (EndOf kind ∷ ss) (b ∷ begun) open_ at h = closing slots ss begun open_ (suc at) h.1

-- the same so many positions on
further : ℕ → List Begun → List Begun
further d [] = []
further d (b ∷ begun) = record { node = b.node; from = d + b.from } ∷ further d begun

inner-further : (d : ℕ) (ss : List Sign) (begun : List Begun) (at : ℕ) → inner_sizes ss (further d begun) (d + at) ≡ inner_sizes ss begun at
unfolding further
inner-further d [] begun at = refl
inner-further d (BeginOf n kind ∷ ss) begun at =
    ap (inner_sizes ss (record { node = n; from = d + at } ∷ further d begun)) (let e : suc (d + at) ≡ d + suc at = omega arith in e)
    ∙ inner-further d ss (record { node = n; from = at } ∷ begun) (suc at)
inner-further d (LettersOf n count ∷ ss) begun at =
    ap (λ l. record { node = n; len = count } ∷ l)
    (ap (inner_sizes ss (further d begun)) (let e : d + at + count ≡ d + (at + count) = omega arith in e) ∙ inner-further d ss begun (at + count))
inner-further d (EndOf kind ∷ ss) [] at =
    ap (inner_sizes ss []) (let e : suc (d + at) ≡ d + suc at = omega arith in e) ∙ inner-further d ss [] (suc at)
inner-further d (EndOf kind ∷ ss) (b ∷ begun) at =
    (λ i. record { node = b.node; len = (let e : suc (d + at) - (d + b.from) ≡ suc at - b.from = omega arith in e) i }
    ∷ inner_sizes ss (further d begun) ((let e : suc (d + at) ≡ d + suc at = omega arith in e) i))
    ∙ ap (λ l. record { node = b.node; len = suc at - b.from } ∷ l) (inner-further d ss begun (suc at))

ends-further : (d : ℕ) (ss : List Sign) (begun : List Begun) (at : ℕ) → ends ss (further d begun) (d + at) ≡ map (λ e. d + e) (ends ss begun at)
unfolding further
ends-further d [] begun at = refl
ends-further d (BeginOf n kind ∷ ss) begun at =
    ap (ends ss (record { node = n; from = d + at } ∷ further d begun)) (let e : suc (d + at) ≡ d + suc at = omega arith in e)
    ∙ ends-further d ss (record { node = n; from = at } ∷ begun) (suc at)
ends-further d (LettersOf n count ∷ ss) begun at =
    ap (ends ss (further d begun)) (let e : d + at + count ≡ d + (at + count) = omega arith in e) ∙ ends-further d ss begun (at + count)
ends-further d (EndOf kind ∷ ss) [] at =
    (λ i. (let e : suc (d + at) ≡ d + suc at = omega arith in e) i ∷ ends ss [] ((let e : suc (d + at) ≡ d + suc at = omega arith in e) i))
    ∙ ap (λ l. (d + suc at) ∷ l) (ends-further d ss [] (suc at))
ends-further d (EndOf kind ∷ ss) (b ∷ begun) at =
    ap (ends ss (further d begun)) (let e : suc (d + at) ≡ d + suc at = omega arith in e) ∙ ends-further d ss begun (suc at)

pub from_start : (d : ℕ) (ss : List Sign) → (inner_sizes ss [] d ≡ inner_sizes ss [] 0) × (ends ss [] d ≡ map (λ e. d + e) (ends ss [] 0))
unfolding further
from_start d ss =
    let whole : d ≡ d + 0 = omega arith in
    (ap (inner_sizes ss []) whole ∙ inner-further d ss [] 0, ap (ends ss []) whole ∙ ends-further d ss [] 0)

pub sizes_split : SizesSplit
sizes_split slots ss open_ at h c =
    split slots ss [] open_ at (subst (HaveSizes slots) (sym (from_start at ss).0) h)
    (subst (λ es. HaveSizes slots (closing_sizes open_ es)) (sym (from_start at ss).1) c)

pub sizes_inner : SizesInner
sizes_inner slots ss open_ at h = subst (HaveSizes slots) (from_start at ss).0 (inner slots ss [] open_ at h)

pub sizes_closing : (slots : List (Option ArenaNode)) (ss : List Sign) (open_ : List Begun) (at : ℕ) → HaveSizes slots (sizes ss open_ at) →
    HaveSizes slots (closing_sizes open_ (map (λ e. at + e) (ends ss [] 0)))
sizes_closing slots ss open_ at h = subst (λ es. HaveSizes slots (closing_sizes open_ es)) (from_start at ss).1 (closing slots ss [] open_ at h)
