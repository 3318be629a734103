-- Where the nodes of a forest begin, and that no two of them take one place.
use Rattle.std.proofs.Common.{◌≡◌, ◌≤◌, ◌<◌, ℕ, zero, suc, ◌+◌, Bool, true, false, ◌&&◌, nat_lt, nat_le, List, [], ◌∷◌, ◌++◌, length, replicate, slice_get, All, sum_by, Option, Some, None, refl, ap, ◌∙◌, subst, arith}
use Rattle.std.proofs.lemmas.Bool.{ltb-true, ltb-false, leb-true, leb-false}
use Rattle.std.proofs.lemmas.List.{length-append, length-replicate}
use Rattle.std.proofs.lemmas.List.Sums.{sum_by-cons, sum_by-append}
use Rattle.std.proofs.lemmas.List.Elements.{All-nil, All-cons, All-append}
use Rattle.ve_kinds.specs.declared.kind.Kind.{Kind}
use Rattle.model_items.specs.Tree.{Forest, Empty, Run, Branch, item_count, HasWholeRuns, Shape, Letter, Begin, End, shapes}
use Rattle.model_change.specs.Touch.{NodeName, TheRoot, Opened, Text, Node, nodes_from, lies_in}
use Rattle.ve_site.proofs.TotalLemmas.{as_one}

-- ---- items

pub within : {A : Type 0} (xs ys : List A) (i : ℕ) (x : A) → slice_get xs i ≡ Some x → slice_get (xs ++ ys) i ≡ Some x
within [] ys i x h = cc
within (y ∷ xs) ys zero x h = h
within (y ∷ xs) ys (suc i) x h = within xs ys i x h

pub past : {A : Type 0} (xs ys : List A) (i : ℕ) → slice_get (xs ++ ys) (length xs + i) ≡ slice_get ys i
past [] ys i = ap (slice_get ys) (omega arith)
past (x ∷ xs) ys i = let e : suc (length xs) + i ≡ suc (length xs + i) = omega arith in ap (slice_get (x ∷ (xs ++ ys))) e ∙ past xs ys i

-- the shapes stand in order from a position on
abbrev pub Spells : (ℕ → Option Shape) → ℕ → List Shape → Type 0
Spells sh at xs = (i : ℕ) (x : Shape) → slice_get xs i ≡ Some x → sh (at + i) ≡ Some x

spells-left : (sh : ℕ → Option Shape) (at : ℕ) (xs ys : List Shape) → Spells sh at (xs ++ ys) → Spells sh at xs
spells-left sh at xs ys h = λ i x e. h i x (within xs ys i x e)

spells-right : (sh : ℕ → Option Shape) (at to : ℕ) (xs ys : List Shape) → at + length xs ≡ to → Spells sh at (xs ++ ys) → Spells sh to ys
spells-right sh at to xs ys n h = λ i x e. ap sh (let p : to + i ≡ at + (length xs + i) = omega (arith, n) in p) ∙ h (length xs + i) x (past xs ys i ∙ e)

spells-first : (sh : ℕ → Option Shape) (at : ℕ) (x : Shape) (xs : List Shape) → Spells sh at (x ∷ xs) → sh at ≡ Some x
spells-first sh at x xs h = ap sh (let p : at ≡ at + 0 = omega arith in p) ∙ h 0 x refl

length-shapes : (f : Forest) → length (shapes f) ≡ item_count f
length-shapes Empty = refl
length-shapes (Run count later) = let rest = length-shapes later in omega (arith, rest, length-append (replicate count Letter) (shapes later), length-replicate count Letter)
length-shapes (Branch kind inside later) =
    let one = length-shapes inside in
    let two = length-shapes later in
    omega (arith, one, two, length-append (shapes inside) (End kind ∷ shapes later))

-- a node's first item is of its sort
abbrev pub IsSpelledAs : (ℕ → Option Shape) → ℕ → NodeName → Type 0
IsSpelledAs sh count TheRoot = ⊥
IsSpelledAs sh count (Opened at) = (kind : Kind) × (sh at ≡ Some (Begin kind))
IsSpelledAs sh count (Text at) = (0 < count) × (sh at ≡ Some Letter)

abbrev pub IsSpelled : (ℕ → Option Shape) → Node → Type 0
IsSpelled sh n = IsSpelledAs sh n.count n.name

letters : (sh : ℕ → Option Shape) (at count : ℕ) → 0 < count → Spells sh at (replicate count Letter) → sh at ≡ Some Letter
letters sh at zero some h = absurd (omega (arith, some))
letters sh at (suc count) some h = spells-first sh at Letter (replicate count Letter) h

pub nodes_spelled : (sh : ℕ → Option Shape) (f : Forest) (parent : NodeName) (at : ℕ) → HasWholeRuns f → Spells sh at (shapes f) → All (IsSpelled sh) (nodes_from parent at f)
nodes_spelled sh Empty parent at whole h = All-nil (IsSpelled sh)
nodes_spelled sh (Run count later) parent at whole h =
    All-cons (IsSpelled sh) (record { name = Text at; parent = parent; count = count }) (nodes_from parent (at + count) later)
    (whole.0, letters sh at count whole.0 (spells-left sh at (replicate count Letter) (shapes later) h))
    (nodes_spelled sh later parent (at + count) whole.2 (spells-right sh at (at + count) (replicate count Letter) (shapes later) (ap (λ n. at + n) (length-replicate count Letter)) h))
nodes_spelled sh (Branch kind inside later) parent at whole h =
    let past_begin = spells-right sh at (suc at) (Begin kind ∷ []) (shapes inside ++ End kind ∷ shapes later) (omega arith) h in
    let long = length-shapes inside in
    let past_inside = spells-right sh (suc at) (suc at + item_count inside) (shapes inside) (End kind ∷ shapes later) (omega (arith, long)) past_begin in
    let past_end = spells-right sh (suc at + item_count inside) (at + item_count inside + 2) (End kind ∷ []) (shapes later) (omega arith) past_inside in
    All-cons (IsSpelled sh) (record { name = Opened at; parent = parent; count = item_count inside + 2 })
    (nodes_from (Opened at) (suc at) inside ++ nodes_from parent (at + item_count inside + 2) later)
    (kind, spells-first sh at (Begin kind) (shapes inside ++ End kind ∷ shapes later) h)
    (All-append (IsSpelled sh) (nodes_from (Opened at) (suc at) inside) (nodes_from parent (at + item_count inside + 2) later)
    (nodes_spelled sh inside (Opened at) (suc at) whole.0 (spells-left sh (suc at) (shapes inside) (End kind ∷ shapes later) past_begin))
    (nodes_spelled sh later parent (at + item_count inside + 2) whole.1 past_end))

-- ---- positions

-- one, where the position lies in the range
abbrev pub spans : Option ℕ → ℕ → ℕ → ℕ
spans there from count = as_one (lies_in there from count)

data Lies (p from count v : ℕ) : Type 0 where
  Before : p < from → v ≡ 0 → Lies p from count v
  Inside : from ≤ p → p < from + count → v ≡ 1 → Lies p from count v
  Behind : from + count ≤ p → v ≡ 0 → Lies p from count v

lies : (p from count : ℕ) → Lies p from count (spans (Some p) from count)
lies p from count = by (nat_le from p) (nat_lt p (from + count)) refl refl
  where
    by : (a b : Bool) → nat_le from p ≡ a → nat_lt p (from + count) ≡ b → Lies p from count (as_one (a && b))
    by false b x y = Before (leb-false from p x) refl
    by true true x y = Inside (leb-true from p x) (ltb-true p (from + count) y) refl
    by true false x y = Behind (ltb-false p (from + count) y) refl

joined : (p from m n a b c : ℕ) → Lies p from m a → Lies p (from + m) n b → Lies p from (m + n) c → a + b ≤ c
joined p from m n a b c (Before x u) (Before y v) z = omega (arith, u, v)
joined p from m n a b c (Before x u) (Inside y w v) z = absurd (omega (arith, x, y))
joined p from m n a b c (Before x u) (Behind y v) z = omega (arith, u, v)
joined p from m n a b c (Behind x u) (Before y v) z = omega (arith, u, v)
joined p from m n a b c (Behind x u) (Behind y v) z = omega (arith, u, v)
joined p from m n a b c (Behind x u) (Inside y w v) (Before z k) = absurd (omega (arith, x, z))
joined p from m n a b c (Behind x u) (Inside y w v) (Inside z l k) = omega (arith, u, v, k)
joined p from m n a b c (Behind x u) (Inside y w v) (Behind z k) = absurd (omega (arith, w, z))
joined p from m n a b c (Inside x t u) (Inside y w v) z = absurd (omega (arith, t, y))
joined p from m n a b c (Inside x t u) (Behind y v) z = absurd (omega (arith, t, y))
joined p from m n a b c (Inside x t u) (Before y v) (Before z k) = absurd (omega (arith, x, z))
joined p from m n a b c (Inside x t u) (Before y v) (Inside z l k) = omega (arith, u, v, k)
joined p from m n a b c (Inside x t u) (Before y v) (Behind z k) = absurd (omega (arith, t, z))

pub spans_join : (there : Option ℕ) (from m n : ℕ) → spans there from m + spans there (from + m) n ≤ spans there from (m + n)
spans_join None from m n = omega arith
spans_join (Some p) from m n = joined p from m n _ _ _ (lies p from m) (lies p (from + m) n) (lies p from (m + n))

-- The most that each node adds where the position lies in its text, or is its opening's: then all
-- nodes of a forest add one at most.
pub one_each : (there : Option ℕ) (w : Node → ℕ) →
    ((parent : NodeName) (at count : ℕ) → 0 < count → w (record { name = Text at; parent = parent; count = count }) ≤ spans there at count) →
    ((parent : NodeName) (at count : ℕ) → w (record { name = Opened at; parent = parent; count = count }) ≤ spans there at 1) →
    (f : Forest) (parent : NodeName) (at : ℕ) → HasWholeRuns f → sum_by w (nodes_from parent at f) ≤ spans there at (item_count f)
one_each there w text opened Empty parent at whole = omega arith
one_each there w text opened (Run count later) parent at whole =
    let here = text parent at count whole.0 in
    let rest = one_each there w text opened later parent (at + count) whole.2 in
    omega (arith, here, rest, spans_join there at count (item_count later), sum_by-cons w (record { name = Text at; parent = parent; count = count }) (nodes_from parent (at + count) later))
one_each there w text opened (Branch kind inside later) parent at whole =
    let m = item_count inside in
    let n = item_count later in
    let first : Node = record { name = Opened at; parent = parent; count = m + 2 } in
    let ins = nodes_from (Opened at) (suc at) inside in
    let outs = nodes_from parent (at + m + 2) later in
    let here = opened parent at (m + 2) in
    let a = subst (λ j. sum_by w ins ≤ spans there j m) (let e : suc at ≡ at + 1 = omega arith in e) (one_each there w text opened inside (Opened at) (suc at) whole.0) in
    let b = subst (λ j. sum_by w outs ≤ spans there j n) (let e : at + m + 2 ≡ at + ((1 + m) + 1) = omega arith in e) (one_each there w text opened later parent (at + m + 2) whole.1) in
    let all : spans there at (((1 + m) + 1) + n) ≡ spans there at (m + 2 + n) = ap (spans there at) (omega arith) in
    omega (arith, here, a, b, all, spans_join there at 1 m, spans_join there at (1 + m) 1, spans_join there at ((1 + m) + 1) n, sum_by-cons w first (ins ++ outs), sum_by-append w ins outs)
