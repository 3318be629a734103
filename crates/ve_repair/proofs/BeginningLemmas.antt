-- Which node begins at an item: an opening begins a node of its kind, and a letter that follows no
-- letter begins a text.
use Rattle.std.proofs.Common.{◌≡◌, ℕ, zero, suc, ◌+◌, ◌<◌, ◌-◌, Bool, true, false, nat_lt, if◌then◌else◌, Option, Some, None, List, [], ◌∷◌, ◌++◌, length, replicate, refl, sym, ap, ◌∙◌, subst, ◌⊎◌, inl, inr, arith, Contains}
use Rattle.std.proofs.lemmas.Bool.{true≢false, ltb-true, ltb-false}
use Rattle.std.proofs.lemmas.Option.{same_Some, none-some}
use Rattle.std.proofs.lemmas.List.{length-replicate}
use Rattle.std.proofs.lemmas.List.Elements.{Contains-append_cases, Contains-append_left, Contains-append_right}
use Rattle.model_items.specs.Tree.{item_count, Shape, Letter, Begin, End, shapes, begins_with_run, HasWholeRuns}
use Rattle.ve_arena.specs.declared.node.NodeWhat.{NodeWhat}
use Rattle.ve_arena.specs.declared.node.NodeWhat.TheVariants as what
use Rattle.ve_tree.specs.Named.{Named, NoNode, NamedRun, NamedBranch, unnumbered}
use Rattle.ve_tree.specs.Places.{NodePlace, node_places}
use Rattle.ve_tree.proofs.WalkLemmas.{contains-here, contains-later}
use Rattle.ve_tree.proofs.ClimbLemmas.{contains_cases}
use Rattle.ve_tree.proofs.RunLemmas.{forest-length}

abbrev pub is_letter : Option Shape → Bool
is_letter (Some Letter) = true
is_letter _ = false

-- what begins with an item, after the one before it
abbrev pub begun : Option Shape → Shape → Option NodeWhat
begun before Letter = if is_letter before then None else Some what.Run
begun before (Begin kind) = Some (what.Node kind)
begun before (End kind) = None

-- and at a position of a list that stands behind an item
abbrev pub begun_at : Option Shape → List Shape → ℕ → Option NodeWhat
begun_at before [] i = None
begun_at before (s ∷ ss) zero = begun before s
begun_at before (s ∷ ss) (suc i) = begun_at (Some s) ss i

abbrev pub last_of : Option Shape → List Shape → Option Shape
last_of before [] = before
last_of before (s ∷ ss) = last_of (Some s) ss

begun-left : (xs ys : List Shape) (before : Option Shape) (i : ℕ) → i < length xs → begun_at before (xs ++ ys) i ≡ begun_at before xs i
begun-left [] ys before i h = absurd (omega (arith, h))
begun-left (x ∷ xs) ys before zero h = refl
begun-left (x ∷ xs) ys before (suc i) h = begun-left xs ys (Some x) i (omega (arith, h))

begun-right : (xs ys : List Shape) (before : Option Shape) (i j : ℕ) → i ≡ length xs + j → begun_at before (xs ++ ys) i ≡ begun_at (last_of before xs) ys j
begun-right [] ys before i j e = ap (begun_at before ys) (omega (arith, e))
begun-right (x ∷ xs) ys before zero j e = absurd (omega (arith, e))
begun-right (x ∷ xs) ys before (suc i) j e = begun-right xs ys (Some x) i j (omega (arith, e))

last-letters : (n : ℕ) → last_of (Some Letter) (replicate n Letter) ≡ Some Letter
last-letters zero = refl
last-letters (suc n) = last-letters n

none_in_letters : (n i : ℕ) → begun_at (Some Letter) (replicate n Letter) i ≡ None
none_in_letters zero i = refl
none_in_letters (suc n) zero = refl
none_in_letters (suc n) (suc i) = none_in_letters n i

-- a letter begins a text or nothing
letter_begins : (before : Option Shape) (sort : NodeWhat) → begun before Letter ≡ Some sort → sort ≡ what.Run
letter_begins before sort e = go (is_letter before) e
  where
    go : (b : Bool) → (if b then None else Some what.Run) ≡ Some sort → sort ≡ what.Run
    go true e = absurd (none-some sort e)
    go false e = sym (same_Some what.Run sort e)

text_begins : (before : Option Shape) → is_letter before ≡ false → begun before Letter ≡ Some what.Run
text_begins before e = ap (λ (b : Bool). if b then None else Some what.Run) e

-- the node begins at an item that begins one of its sort
pub record IsBegun (before : Option Shape) (ss : List Shape) (at : ℕ) (y : NodePlace) : Type 0 where
  pub i : ℕ
  pub from_is : y.from ≡ at + i
  pub begins : begun_at before ss i ≡ Some y.sort
  pub parent : ℕ
  pub parent_is : y.parent ≡ Some parent
  pub some_long : y.from < y.to

later_begun : (before b : Option Shape) (xs ss : List Shape) (at at' : ℕ) (y : NodePlace) →
    last_of before xs ≡ b → at + length xs ≡ at' → IsBegun b ss at' y → IsBegun before (xs ++ ss) at y
later_begun before b xs ss at at' y e sum r = record {
  i = length xs + r.i;
  from_is = omega (arith, r.from_is, sum);
  begins = begun-right xs ss before (length xs + r.i) r.i refl ∙ ap (λ b. begun_at b ss r.i) e ∙ r.begins;
  parent = r.parent;
  parent_is = r.parent_is;
  some_long = r.some_long;
}

pub begun_within : (xs : List Shape) (before : Option Shape) (i : ℕ) (sort : NodeWhat) → begun_at before xs i ≡ Some sort → i < length xs
begun_within [] before i sort e = absurd (none-some sort e)
begun_within (x ∷ xs) before zero sort e = omega arith
begun_within (x ∷ xs) before (suc i) sort e = let h = begun_within xs (Some x) i sort e in omega (arith, h)

longer_begun : (before : Option Shape) (xs ss : List Shape) (at : ℕ) (y : NodePlace) → IsBegun before xs at y → IsBegun before (xs ++ ss) at y
longer_begun before xs ss at y r = record {
  i = r.i;
  from_is = r.from_is;
  begins = begun-left xs ss before r.i (begun_within xs before r.i y.sort r.begins) ∙ r.begins;
  parent = r.parent;
  parent_is = r.parent_is;
  some_long = r.some_long;
}

last-some_letters : (count : ℕ) (before : Option Shape) → 0 < count → last_of before (replicate count Letter) ≡ Some Letter
last-some_letters zero before h = absurd (omega (arith, h))
last-some_letters (suc n) before h = last-letters n

run_begins : (count : ℕ) (before : Option Shape) (ss : List Shape) → 0 < count → is_letter before ≡ false →
    begun_at before (replicate count Letter ++ ss) 0 ≡ Some what.Run
run_begins zero before ss h e = absurd (omega (arith, h))
run_begins (suc n) before ss h e = text_begins before e

-- each node of a forest begins at an item that begins one of its sort
pub place_begins : (f : Named) (p at : ℕ) (before : Option Shape) (y : NodePlace) → HasWholeRuns (unnumbered f) →
    (begins_with_run (unnumbered f) ≡ true → is_letter before ≡ false) → Contains (node_places p at f) y → IsBegun before (shapes (unnumbered f)) at y
place_begins NoNode p at before y whole fresh c = absurd (omega (arith, c.1))
place_begins (NamedRun h count later) p at before y whole fresh c = elim (contains_cases _ y (node_places p (at + count) later) c) [
  | inl same ↦ subst (IsBegun before (replicate count Letter ++ shapes (unnumbered later)) at) same (record {
    i = 0;
    from_is = omega arith;
    begins = run_begins count before (shapes (unnumbered later)) whole.0 (fresh refl);
    parent = p;
    parent_is = refl;
    some_long = let some = whole.0 in omega (arith, some);
  })
  | inr there ↦ later_begun before (Some Letter) (replicate count Letter) (shapes (unnumbered later)) at (at + count) y (last-some_letters count before whole.0)
      (ap (λ n. at + n) (length-replicate count Letter))
      (place_begins later p (at + count) (Some Letter) y whole.2 (λ e. absurd (true≢false (sym e ∙ whole.1))) there)
]
place_begins (NamedBranch h kind inside later) p at before y whole fresh c =
    let len = item_count (unnumbered inside) + 2 in
    elim (contains_cases _ y (node_places h (suc at) inside ++ node_places p (at + len) later) c) [
      | inl same ↦ subst (IsBegun before (shapes (unnumbered (NamedBranch h kind inside later))) at) same (record {
        i = 0;
        from_is = omega arith;
        begins = refl;
        parent = p;
        parent_is = refl;
        some_long = omega arith;
      })
      | inr there ↦ past_opening (elim (Contains-append_cases (node_places h (suc at) inside) (node_places p (at + len) later) y there) [
        | inl in_ ↦ longer_begun (Some (Begin kind)) (shapes (unnumbered inside)) _ (suc at) y
            (place_begins inside h (suc at) (Some (Begin kind)) y whole.0 (λ e. refl) in_)
        | inr after_ ↦ past_inside (place_begins later p (at + len) (Some (End kind)) y whole.1 (λ e. refl) after_)
      ])
    ]
  where
    past_opening : IsBegun (Some (Begin kind)) (shapes (unnumbered inside) ++ End kind ∷ shapes (unnumbered later)) (suc at) y →
        IsBegun before (shapes (unnumbered (NamedBranch h kind inside later))) at y
    past_opening =
        later_begun before (Some (Begin kind)) (Begin kind ∷ []) (shapes (unnumbered inside) ++ End kind ∷ shapes (unnumbered later)) at (suc at) y
        refl (omega arith)

    past_inside : IsBegun (Some (End kind)) (shapes (unnumbered later)) (at + (item_count (unnumbered inside) + 2)) y →
        IsBegun (Some (Begin kind)) (shapes (unnumbered inside) ++ End kind ∷ shapes (unnumbered later)) (suc at) y
    past_inside r =
        later_begun (Some (Begin kind)) _ (shapes (unnumbered inside)) (End kind ∷ shapes (unnumbered later)) (suc at)
        (suc at + item_count (unnumbered inside)) y refl
        (ap (λ n. suc at + n) (forest-length (unnumbered inside)))
        (later_begun _ (Some (End kind)) (End kind ∷ []) (shapes (unnumbered later)) (suc at + item_count (unnumbered inside))
        (at + (item_count (unnumbered inside) + 2)) y refl (omega arith) r)

-- a node of some siblings, and of those inside them, that begins at a position
pub record StartsThere (all : List NodePlace) (from : ℕ) (sort : NodeWhat) : Type 0 where
  pub place : NodePlace
  pub listed : Contains all place
  pub from_is : place.from ≡ from
  pub sort_is : place.sort ≡ sort
  pub parent : ℕ
  pub parent_is : place.parent ≡ Some parent
  pub some_long : place.from < place.to

among : (all more : List NodePlace) (from from' : ℕ) (sort : NodeWhat) → ((z : NodePlace) → Contains all z → Contains more z) →
    from ≡ from' → StartsThere all from sort → StartsThere more from' sort
among all more from from' sort wider e s = record {
  place = s.place;
  listed = wider s.place s.listed;
  from_is = s.from_is ∙ e;
  sort_is = s.sort_is;
  parent = s.parent;
  parent_is = s.parent_is;
  some_long = s.some_long;
}

-- a position is one of the first so many, or lies so far past them
pub part : (n i : ℕ) → (i < n) ⊎ ((j : ℕ) × (i ≡ n + j))
part n i = go (nat_lt i n) refl
  where
    go : (b : Bool) → nat_lt i n ≡ b → (i < n) ⊎ ((j : ℕ) × (i ≡ n + j))
    go true e = inl (ltb-true i n e)
    go false e = let h = ltb-false i n e in inr (i - n, omega (arith, h))

-- of letters the first one alone begins a text
first_letter : (count i : ℕ) (before : Option Shape) (sort : NodeWhat) → begun_at before (replicate count Letter) i ≡ Some sort → (i ≡ 0) × (sort ≡ what.Run)
first_letter zero i before sort e = absurd (none-some sort e)
first_letter (suc n) zero before sort e = (refl, letter_begins before sort e)
first_letter (suc n) (suc i) before sort e = absurd (none-some sort (sym (none_in_letters n i) ∙ e))

-- and where an item begins a node, there is one
pub node_begins : (f : Named) (p at : ℕ) (before : Option Shape) (i : ℕ) (sort : NodeWhat) → HasWholeRuns (unnumbered f) →
    begun_at before (shapes (unnumbered f)) i ≡ Some sort → StartsThere (node_places p at f) (at + i) sort
node_begins NoNode p at before i sort whole e = absurd (none-some sort e)
node_begins (NamedRun h count later) p at before i sort whole e = elim (part count i) [
  | inl short ↦
      let long = length-replicate count Letter in
      let first = first_letter count i before sort (sym (begun-left (replicate count Letter) (shapes (unnumbered later)) before i
      (omega (arith, short, long))) ∙ e) in
      record {
        place = record { number = h; parent = Some p; sort = what.Run; from = at; to = at + count };
        listed = contains-here _ (node_places p (at + count) later);
        from_is = let none = first.0 in omega (arith, none);
        sort_is = sym first.1;
        parent = p;
        parent_is = refl;
        some_long = let some = whole.0 in omega (arith, some);
      }
  | inr past ↦
      let long = length-replicate count Letter in
      let sum = past.1 in
      let there = sym (begun-right (replicate count Letter) (shapes (unnumbered later)) before i past.0 (omega (arith, sum, long))) ∙ e in
      among (node_places p (at + count) later) _ (at + count + past.0) (at + i) sort
      (λ z d. contains-later _ z (node_places p (at + count) later) d) (omega (arith, sum))
      (node_begins later p (at + count) (last_of before (replicate count Letter)) past.0 sort whole.2 there)
]
node_begins (NamedBranch h kind inside later) p at before zero sort whole e = record {
  place = record { number = h; parent = Some p; sort = what.Node kind; from = at; to = at + (item_count (unnumbered inside) + 2) };
  listed = contains-here _ (node_places h (suc at) inside ++ node_places p (at + (item_count (unnumbered inside) + 2)) later);
  from_is = omega arith;
  sort_is = same_Some (what.Node kind) sort e;
  parent = p;
  parent_is = refl;
  some_long = omega arith;
}
node_begins (NamedBranch h kind inside later) p at before (suc i) sort whole e =
    let long = forest-length (unnumbered inside) in
    elim (part (item_count (unnumbered inside)) i) [
      | inl short ↦
          let there = sym (begun-left (shapes (unnumbered inside)) (End kind ∷ shapes (unnumbered later)) (Some (Begin kind)) i
          (omega (arith, short, long))) ∙ e in
          among (node_places h (suc at) inside) _ (suc at + i) (at + suc i) sort
          (λ z d. within z (Contains-append_left (node_places h (suc at) inside) (node_places p (at + (item_count (unnumbered inside) + 2)) later) z d)) (omega arith)
          (node_begins inside h (suc at) (Some (Begin kind)) i sort whole.0 there)
      | inr past ↦
          let sum = past.1 in
          past_closing past.0 sum
          (sym (begun-right (shapes (unnumbered inside)) (End kind ∷ shapes (unnumbered later)) (Some (Begin kind)) i past.0 (omega (arith, sum, long))) ∙ e)
          (node_begins later p (at + (item_count (unnumbered inside) + 2)) (Some (End kind)))
    ]
  where
    within : (z : NodePlace) → Contains (node_places h (suc at) inside ++ node_places p (at + (item_count (unnumbered inside) + 2)) later) z →
        Contains (node_places p at (NamedBranch h kind inside later)) z
    within z d = contains-later _ z (node_places h (suc at) inside ++ node_places p (at + (item_count (unnumbered inside) + 2)) later) d

    past_closing : (j : ℕ) → i ≡ item_count (unnumbered inside) + j →
        begun_at (last_of (Some (Begin kind)) (shapes (unnumbered inside))) (End kind ∷ shapes (unnumbered later)) j ≡ Some sort →
        ((k : ℕ) (sort : NodeWhat) → HasWholeRuns (unnumbered later) → begun_at (Some (End kind)) (shapes (unnumbered later)) k ≡ Some sort →
        StartsThere (node_places p (at + (item_count (unnumbered inside) + 2)) later) (at + (item_count (unnumbered inside) + 2) + k) sort) →
        StartsThere (node_places p at (NamedBranch h kind inside later)) (at + suc i) sort
    past_closing zero sum e' rec = absurd (none-some sort e')
    past_closing (suc k) sum e' rec =
        among (node_places p (at + (item_count (unnumbered inside) + 2)) later) _ (at + (item_count (unnumbered inside) + 2) + k) (at + suc i) sort
        (λ z d. within z (Contains-append_right (node_places h (suc at) inside) (node_places p (at + (item_count (unnumbered inside) + 2)) later) z d))
        (omega (arith, sum))
        (rec k sort whole.1 e')
