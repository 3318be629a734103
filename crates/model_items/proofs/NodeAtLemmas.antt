-- The node round an offset is the innermost of the tree's nodes that hold it.
use Rattle.std.proofs.Common.{◌≡◌, ℕ, zero, suc, ◌+◌, ◌<◌, ◌≤◌, ◌⊎◌, inl, inr, Bool, true, false, ◌&&◌, if◌then◌else◌, nat_lt, List, [], ◌∷◌, ◌++◌, length, map, take, drop, Contains, Ok, refl, sym, ap, ◌∙◌, subst, arith, lt-ltb, ltb-true}
use Rattle.std.proofs.lemmas.Bool.{cases_Bool}
use Rattle.std.proofs.lemmas.List.Elements.{Contains-append_left, Contains-append_right, Contains-append_cases}
use Rattle.ve_kinds.specs.declared.kind.Kind.{Kind}
use Rattle.ve_kinds.specs.declared.kind.Kind.TheVariants.{Root}
use Rattle.ve_kinds.specs.Table.{is_content_branch}
use Rattle.model_items.specs.declared.plain_item.PlainItem.{PlainItem}
use Rattle.model_items.specs.declared.plain_item.PlainItem.TheVariants.{Char, Opening, Closing}
use Rattle.model_items.specs.declared.law_fault.LawFault.{LawFault}
use Rattle.model_items.specs.Law.{State, start, finish, top, step, after}
use Rattle.model_items.specs.Tree.{Forest, Empty, Run, Branch, with_char, first_forest, reading, tree_of, item_count, Open, opens_after, length_to_close, NodeExtent, place_with, class_in}
use Rattle.model_items.specs.NodeAt.{places_from, root_place, all_places, IsInnermost, search, TreeHasAllItems, NodeAtIsFound, NodeAtIsInnermost, OpenIsStack, ClassIsOfTop}
use Rattle.model_items.proofs.LawLemmas.{if_ok, Ok-same, opened_before, closed_before, joined-ok, after_from_Lawful}
use Rattle.model_items.proofs.TreeLemmas.{read_deep}

-- open nodes and the state

kinds_of : List Open → List Kind
kinds_of opens = map (λ (o : Open). o.kind) opens

kinds-drop : (opens : List Open) (kind : Kind) (kinds : List Kind) → map (λ (o : Open). o.kind) opens ≡ kind ∷ kinds → map (λ (o : Open). o.kind) (drop 1 opens) ≡ kinds
kinds-drop [] kind kinds h = cc
kinds-drop (o ∷ opens) kind kinds h = cc

opens_follow : (items : List PlainItem) (opens : List Open) (at : ℕ) (s u : State) → map (λ (o : Open). o.kind) opens ≡ s.stack → after s items ≡ Ok u →
    map (λ (o : Open). o.kind) (opens_after opens at items) ≡ u.stack
opens_follow [] opens at s u e h = e ∙ ap (λ (t : State). t.stack) (Ok-same {E = LawFault} s u h)
opens_follow (Char c marks ∷ items) opens at s u e h =
    let p = joined-ok 1 (step s (Char c marks)) (λ next. after next items) u h in
    let same = Ok-same {E = LawFault} s p.0 (if_ok (is_content_branch (top s.stack)) _ _ p.0 p.1).1 in
    opens_follow items opens (suc at) p.0 u (e ∙ ap (λ (t : State). t.stack) same) p.2
opens_follow (Opening kind head marks pre origin generated ∷ items) opens at s u e h =
    let p = joined-ok 1 (step s (Opening kind head marks pre origin generated)) (λ next. after next items) u h in
    let before = opened_before s p.0 kind p.1 in
    opens_follow items (record { kind = kind; from = at } ∷ opens) (suc at) p.0 u (ap (λ l. kind ∷ l) e ∙ before.0) p.2
opens_follow (Closing kind pre ∷ items) opens at s u e h =
    let p = joined-ok 1 (step s (Closing kind pre)) (λ next. after next items) u h in
    let before = closed_before s.stack s.seen kind p.0 p.1 in
    opens_follow items (drop 1 opens) (suc at) p.0 u (kinds-drop opens kind p.0.stack (e ∙ before.0)) p.2

pub open_is_stack : OpenIsStack
open_is_stack items s h = opens_follow items [] 0 start s refl h

pub class_is_of_top : ClassIsOfTop
class_is_of_top items at s h =
    ap class_in (kind_of_top (opens_after [] 0 (take at items)) at (drop at items) ∙ ap top (open_is_stack (take at items) s h))
  where
    kind_of_top : (opens : List Open) (at : ℕ) (rest : List PlainItem) → (place_with opens at rest).kind ≡ top (map (λ (o : Open). o.kind) opens)
    kind_of_top [] at rest = refl
    kind_of_top (o ∷ opens) at rest = refl

-- the search in the tree

not_lt : (a b : ℕ) → b ≤ a → nat_lt a b ≡ false
not_lt a b h =
    elim (cases_Bool (nat_lt a b)) [
      | inl less ↦ absurd (let lt = ltb-true a b less in omega arith)
      | inr not_less ↦ not_less
    ]

-- at the forest's start or before it nothing inside holds the offset
search-start : (d : NodeExtent) (at : ℕ) (f : Forest) (o : ℕ) → o ≤ at → search d at f o ≡ d
search-start d at Empty o h = refl
search-start d at (Run count later) o h = search-start d (at + count) later o (omega arith)
search-start d at (Branch kind inside later) o h =
    rw (not_lt at o h) (search-start d (at + (item_count inside + 2)) later o (omega arith))

search-with_char : (d : NodeExtent) (at : ℕ) (f : Forest) (o : ℕ) → search d at (with_char f) o ≡ search d (suc at) f o
search-with_char d at Empty o = refl
search-with_char d at (Run count later) o = let e : at + suc count ≡ suc at + count = omega arith in ap (λ n. search d n later o) e
search-with_char d at (Branch kind inside later) o = let e : at + 1 ≡ suc at = omega arith in ap (λ n. search d n (Branch kind inside later) o) e

item_count-with_char : (f : Forest) → item_count (with_char f) ≡ suc (item_count f)
item_count-with_char Empty = refl
item_count-with_char (Run count later) = omega arith
item_count-with_char (Branch kind inside later) = omega arith

-- how far the closing of the depth-th open node is, by what is read
abbrev close_of : ℕ → Forest → List Forest → ℕ
close_of depth here [] = 0
close_of zero here (f ∷ fs) = item_count here + 1
close_of (suc depth) here (f ∷ fs) = item_count here + 1 + close_of depth f fs

close-suc : (depth : ℕ) (f g : Forest) (outer : List Forest) → item_count g ≡ suc (item_count f) → depth < length outer → close_of depth g outer ≡ suc (close_of depth f outer)
close-suc depth f g [] e less = absurd (omega arith)
close-suc zero f g (h ∷ hs) e less = omega arith
close-suc (suc depth) f g (h ∷ hs) e less = omega arith

close-branch : (depth : ℕ) (kind : Kind) (inside : Forest) (outer : List Forest) → depth < length (drop 1 outer) →
    suc (close_of (suc depth) inside outer) ≡ close_of depth (Branch kind inside (first_forest outer)) (drop 1 outer)
close-branch depth kind inside [] less = absurd (omega arith)
close-branch depth kind inside (f ∷ []) less = absurd (omega arith)
close-branch zero kind inside (f ∷ (g ∷ gs)) less = omega arith
close-branch (suc depth) kind inside (f ∷ (g ∷ gs)) less = omega arith

length-drop_one : (outer : List Forest) (n : ℕ) → n < length (drop 1 outer) → suc n < length outer
length-drop_one [] n less = absurd (omega arith)
length-drop_one (f ∷ fs) n less = omega arith

to_close : (items : List PlainItem) (depth : ℕ) → depth < length (reading items).outer →
    length_to_close depth items ≡ close_of depth (reading items).here (reading items).outer
to_close [] depth less = absurd (omega arith)
to_close (Char c marks ∷ items) depth less =
    let r = reading items in
    ap suc (to_close items depth less) ∙ sym (close-suc depth r.here (with_char r.here) r.outer (item_count-with_char r.here) less)
to_close (Opening kind head marks pre origin generated ∷ items) depth less =
    let r = reading items in
    ap suc (to_close items (suc depth) (length-drop_one r.outer depth less)) ∙ close-branch depth kind r.here r.outer less
to_close (Closing kind pre ∷ items) zero less = refl
to_close (Closing kind pre ∷ items) (suc depth) less =
    let rest = to_close items depth (omega arith) in
    omega arith

-- how many items the forests after open nodes take, each with the closing before it
abbrev outer_count : List Forest → ℕ
outer_count [] = 0
outer_count (f ∷ fs) = 1 + item_count f + outer_count fs

total_count : (items : List PlainItem) (s : State) → after s items ≡ Ok finish →
    item_count (reading items).here + outer_count (reading items).outer ≡ length items
total_count [] s h = refl
total_count (Char c marks ∷ items) s h =
    let p = joined-ok 1 (step s (Char c marks)) (λ next. after next items) finish h in
    let one = item_count-with_char (reading items).here in
    let rest = total_count items p.0 p.2 in
    omega arith
total_count (Opening kind head marks pre origin generated ∷ items) s h =
    let p = joined-ok 1 (step s (Opening kind head marks pre origin generated)) (λ next. after next items) finish h in
    let before = opened_before s p.0 kind p.1 in
    let deep : length (reading items).outer ≡ suc (length s.stack) = read_deep items p.0 p.2 ∙ ap (λ (l : List Kind). length l) (sym before.0) in
    by_outer (reading items).here (reading items).outer deep (total_count items p.0 p.2)
  where
    by_outer : (here : Forest) (outer : List Forest) → length outer ≡ suc (length s.stack) → item_count here + outer_count outer ≡ length items →
        item_count (Branch kind here (first_forest outer)) + outer_count (drop 1 outer) ≡ suc (length items)
    by_outer here [] deep e = absurd (omega arith)
    by_outer here (f ∷ fs) deep e = omega arith
total_count (Closing kind pre ∷ items) s h =
    let p = joined-ok 1 (step s (Closing kind pre)) (λ next. after next items) finish h in
    let rest = total_count items p.0 p.2 in
    omega arith

-- the search from a position on: in what stands here, and then, where the offset is past the
-- closing of the innermost open node, outside of that
abbrev locate : List Open → ℕ → Forest → List Forest → ℕ → NodeExtent
locate [] at here outer o = search (record { kind = Root; from = 0; to = at + item_count here }) at here o
locate (inner ∷ opens) at here [] o = record { kind = inner.kind; from = inner.from; to = 0 }
locate (inner ∷ opens) at here (f ∷ fs) o =
    if nat_lt o (at + (item_count here + 1))
    then search (record { kind = inner.kind; from = inner.from; to = at + (item_count here + 1) }) at here o
    else locate opens (at + (item_count here + 1)) f fs o

locate_char : (opens : List Open) (at : ℕ) (f : Forest) (outer : List Forest) (o : ℕ) → length outer ≡ length opens →
    locate opens (suc at) f outer o ≡ locate opens at (with_char f) outer o
locate_char [] at f outer o e =
    let one = item_count-with_char f in
    let n : suc at + item_count f ≡ at + item_count (with_char f) = omega arith in
    ap (λ n. search (record { kind = Root; from = 0; to = n }) (suc at) f o) n
    ∙ sym (search-with_char (record { kind = Root; from = 0; to = at + item_count (with_char f) }) at f o)
locate_char (inner ∷ opens) at f [] o e = absurd (omega arith)
locate_char (inner ∷ opens) at f (g ∷ gs) o e =
    let one = item_count-with_char f in
    let n : suc at + (item_count f + 1) ≡ at + (item_count (with_char f) + 1) = omega arith in
    ap (λ n. if nat_lt o n then search (record { kind = inner.kind; from = inner.from; to = n }) (suc at) f o else locate opens n g gs o) n
    ∙ ap (λ (p : NodeExtent). if nat_lt o (at + (item_count (with_char f) + 1)) then p else locate opens (at + (item_count (with_char f) + 1)) g gs o)
    (sym (search-with_char (record { kind = inner.kind; from = inner.from; to = at + (item_count (with_char f) + 1) }) at f o))

locate_close : (inner : Open) (opens : List Open) (at : ℕ) (f : Forest) (fs : List Forest) (o : ℕ) → at < o →
    locate opens (suc at) f fs o ≡ locate (inner ∷ opens) at Empty (f ∷ fs) o
locate_close inner opens at f fs o past =
    let n : suc at ≡ at + 1 = omega arith in
    ap (λ n. locate opens n f fs o) n ∙ sym (rw (not_lt o (at + 1) (omega arith)) refl)

-- a node that begins here
abbrev branch_at : Kind → ℕ → Forest → NodeExtent
branch_at kind at inside = record { kind = kind; from = at; to = at + (item_count inside + 2) }

search-branch : (d : NodeExtent) (at : ℕ) (kind : Kind) (inside later : Forest) (o : ℕ) → at < o →
    search d at (Branch kind inside later) o
    ≡ (if nat_lt o (at + (item_count inside + 2)) then search (branch_at kind at inside) (suc at) inside o else search d (at + (item_count inside + 2)) later o)
search-branch d at kind inside later o past = rw (lt-ltb at o past) refl

-- one test within another
nested_if : (o n end : ℕ) (p q r : NodeExtent) → n ≤ end →
    (if nat_lt o n then p else (if nat_lt o end then q else r)) ≡ (if nat_lt o end then (if nat_lt o n then p else q) else r)
nested_if o n end p q r le =
    elim (cases_Bool (nat_lt o n)) [
      | inl less ↦ let lt = ltb-true o n less in let far : nat_lt o end ≡ true = lt-ltb o end (omega arith) in rw (less, far) refl
      | inr not_less ↦ rw not_less refl
    ]

locate_open : (kind : Kind) (opens : List Open) (at : ℕ) (inside : Forest) (outer : List Forest) (o : ℕ) → length outer ≡ suc (length opens) → at < o →
    locate (record { kind = kind; from = at } ∷ opens) (suc at) inside outer o ≡ locate opens at (Branch kind inside (first_forest outer)) (drop 1 outer) o
locate_open kind opens at inside [] o e past = absurd (omega arith)
locate_open kind [] at inside (g ∷ gs) o e past =
    let n : suc at + (item_count inside + 1) ≡ at + (item_count inside + 2) = omega arith in
    let m : at + (item_count inside + 2) + item_count g ≡ at + (item_count inside + 2 + item_count g) = omega arith in
    ap (λ n. if nat_lt o n then search (record { kind = kind; from = at; to = n }) (suc at) inside o else search (record { kind = Root; from = 0; to = n + item_count g }) n g o) n
    ∙ ap (λ m. if nat_lt o (at + (item_count inside + 2)) then search (branch_at kind at inside) (suc at) inside o else search (record { kind = Root; from = 0; to = m }) (at + (item_count inside + 2)) g o) m
    ∙ sym (search-branch (record { kind = Root; from = 0; to = at + (item_count inside + 2 + item_count g) }) at kind inside g o past)
locate_open kind (inner ∷ opens) at inside (g ∷ []) o e past = absurd (omega arith)
locate_open kind (inner ∷ opens) at inside (g ∷ (h ∷ hs)) o e past =
    let n : suc at + (item_count inside + 1) ≡ at + (item_count inside + 2) = omega arith in
    let m : at + (item_count inside + 2) + (item_count g + 1) ≡ at + (item_count inside + 2 + item_count g + 1) = omega arith in
    ap (λ n. if nat_lt o n then search (record { kind = kind; from = at; to = n }) (suc at) inside o else locate (inner ∷ opens) n g (h ∷ hs) o) n
    ∙ ap (λ m. if nat_lt o (at + (item_count inside + 2)) then search (branch_at kind at inside) (suc at) inside o else (if nat_lt o m then search (record { kind = inner.kind; from = inner.from; to = m }) (at + (item_count inside + 2)) g o else locate opens m h hs o)) m
    ∙ nested_if
    o
    (at + (item_count inside + 2))
    end
    (search (branch_at kind at inside) (suc at) inside o)
    (search (record { kind = inner.kind; from = inner.from; to = end }) (at + (item_count inside + 2)) g o)
    (locate opens end h hs o)
    (omega arith)
    ∙ ap (λ (p : NodeExtent). if nat_lt o end then p else locate opens end h hs o) (sym (search-branch (record { kind = inner.kind; from = inner.from; to = end }) at kind inside g o past))
  where
    end : ℕ
    end = at + (item_count inside + 2 + item_count g + 1)

-- at each offset from a position on, the open nodes and the closing that comes give what the search
-- gives
found : (items : List PlainItem) (s : State) (opens : List Open) (at k o : ℕ) → o ≡ at + k → k ≤ length items → after s items ≡ Ok finish → length opens ≡ length s.stack →
    place_with (opens_after opens at (take k items)) o (drop k items) ≡ locate opens at (reading items).here (reading items).outer o
found items s opens at zero o e room h long =
    at_start opens (reading items).here (reading items).outer (read_deep items s h ∙ sym long) (total_count items s h)
    (λ less. to_close items 0 less)
  where
    at_start : (opens : List Open) (here : Forest) (outer : List Forest) → length outer ≡ length opens → item_count here + outer_count outer ≡ length items →
        (0 < length outer → length_to_close 0 items ≡ close_of 0 here outer) →
        place_with opens o items ≡ locate opens at here outer o
    at_start [] here [] deep total close =
        let n : o + length items ≡ at + item_count here = omega arith in
        (λ i. record { kind = Root; from = 0; to = n i }) ∙ sym (search-start (record { kind = Root; from = 0; to = at + item_count here }) at here o (omega arith))
    at_start [] here (f ∷ fs) deep total close = absurd (omega arith)
    at_start (inner ∷ opens) here [] deep total close = absurd (omega arith)
    at_start (inner ∷ opens) here (f ∷ fs) deep total close =
        let c = close (omega arith) in
        let n : o + length_to_close 0 items ≡ at + (item_count here + 1) = omega arith in
        let less : nat_lt o (at + (item_count here + 1)) ≡ true = lt-ltb o (at + (item_count here + 1)) (omega arith) in
        (λ i. record { kind = inner.kind; from = inner.from; to = n i })
        ∙ sym (search-start (record { kind = inner.kind; from = inner.from; to = at + (item_count here + 1) }) at here o (omega arith))
        ∙ sym (ap (λ b. if b then search (record { kind = inner.kind; from = inner.from; to = at + (item_count here + 1) }) at here o else locate opens (at + (item_count here + 1)) f fs o) less)
found [] s opens at (suc k) o e room h long = absurd (omega arith)
found (Char c marks ∷ items) s opens at (suc k) o e room h long =
    let p = joined-ok 1 (step s (Char c marks)) (λ next. after next items) finish h in
    let same = Ok-same {E = LawFault} s p.0 (if_ok (is_content_branch (top s.stack)) _ _ p.0 p.1).1 in
    let here : length opens ≡ length p.0.stack = long ∙ ap (λ (t : State). length t.stack) same in
    found items p.0 opens (suc at) k o (omega arith) (omega arith) p.2 here
    ∙ locate_char opens at (reading items).here (reading items).outer o (read_deep items p.0 p.2 ∙ sym here)
found (Opening kind head marks pre origin generated ∷ items) s opens at (suc k) o e room h long =
    let p = joined-ok 1 (step s (Opening kind head marks pre origin generated)) (λ next. after next items) finish h in
    let before = opened_before s p.0 kind p.1 in
    let deeper : suc (length s.stack) ≡ length p.0.stack = ap (λ (l : List Kind). length l) before.0 in
    let here : suc (length opens) ≡ length p.0.stack = ap suc long ∙ deeper in
    found items p.0 (record { kind = kind; from = at } ∷ opens) (suc at) k o (omega arith) (omega arith) p.2 here
    ∙ locate_open kind opens at (reading items).here (reading items).outer o (read_deep items p.0 p.2 ∙ sym here) (omega arith)
found (Closing kind pre ∷ items) s [] at (suc k) o e room h long =
    let p = joined-ok 1 (step s (Closing kind pre)) (λ next. after next items) finish h in
    let before = closed_before s.stack s.seen kind p.0 p.1 in
    let shorter : length s.stack ≡ suc (length p.0.stack) = ap (λ (l : List Kind). length l) before.0 in
    absurd (omega arith)
found (Closing kind pre ∷ items) s (inner ∷ opens) at (suc k) o e room h long =
    let p = joined-ok 1 (step s (Closing kind pre)) (λ next. after next items) finish h in
    let before = closed_before s.stack s.seen kind p.0 p.1 in
    let shorter : length s.stack ≡ suc (length p.0.stack) = ap (λ (l : List Kind). length l) before.0 in
    found items p.0 opens (suc at) k o (omega arith) (omega arith) p.2 (omega arith)
    ∙ locate_close inner opens at (reading items).here (reading items).outer o (omega arith)

pub found_in_tree : NodeAtIsFound
found_in_tree items at lawful room =
    let after_all = after_from_Lawful items lawful in
    let total = total_count items start after_all in
    let none : length (reading items).outer ≡ 0 = read_deep items start after_all in
    let count : 0 + item_count (tree_of items) ≡ length items = whole (reading items).outer none total in
    found items start [] 0 at at (omega arith) room after_all refl
    ∙ by_outer (reading items).outer none
    ∙ ap (λ n. search (record { kind = Root; from = 0; to = n }) 0 (tree_of items) at) count
  where
    whole : (outer : List Forest) → length outer ≡ 0 → item_count (tree_of items) + outer_count outer ≡ length items → 0 + item_count (tree_of items) ≡ length items
    whole [] none total = omega arith
    whole (f ∷ fs) none total = absurd (omega arith)

    by_outer : (outer : List Forest) → length outer ≡ 0 → locate [] 0 (tree_of items) outer at ≡ search (record { kind = Root; from = 0; to = 0 + item_count (tree_of items) }) 0 (tree_of items) at
    by_outer outer none = refl

-- the search gives the innermost

-- the offset lies inside
abbrev Inside : ℕ → NodeExtent → Type 0
Inside o p = (p.from < o) × (o < p.to)

abbrev Bounds : ℕ → ℕ → NodeExtent → Type 0
Bounds at end p = (at ≤ p.from) × (p.to ≤ end)

only_place : (p q : NodeExtent) → Contains (p ∷ []) q → p ≡ q
only_place p q (zero, below, here) = here
only_place p q (suc k, below, here) = absurd (let none : ⊥ = omega arith in none)

places_bounds : (f : Forest) (at : ℕ) (q : NodeExtent) → Contains (places_from at f) q → Bounds at (at + item_count f) q
places_bounds Empty at q within = absurd (let below = within.1 in omega arith)
places_bounds (Run count later) at q within = let b = places_bounds later (at + count) q within in let x = b.0 in let y = b.1 in (omega arith, omega arith)
places_bounds (Branch kind inside later) at q within =
    elim (Contains-append_cases (branch_at kind at inside ∷ []) (places_from (suc at) inside ++ places_from (at + (item_count inside + 2)) later) q within) [
      | inl here ↦ let e = only_place (branch_at kind at inside) q here in subst (Bounds at (at + item_count (Branch kind inside later))) e (omega arith, omega arith)
      | inr rest ↦ elim (Contains-append_cases (places_from (suc at) inside) (places_from (at + (item_count inside + 2)) later) q rest) [
        | inl one ↦ let b = places_bounds inside (suc at) q one in let x = b.0 in let y = b.1 in (omega arith, omega arith)
        | inr two ↦ let b = places_bounds later (at + (item_count inside + 2)) q two in let x = b.0 in let y = b.1 in (omega arith, omega arith)
      ]
    ]

-- The search found the node round the forest, or one of the forest that holds the offset. Each node
-- of the forest that holds it is round the one that was found.
record Searched (d : NodeExtent) (at : ℕ) (f : Forest) (o : ℕ) (p : NodeExtent) : Type 0 where
  node : (p ≡ d) ⊎ (Contains (places_from at f) p × Inside o p)
  within : (q : NodeExtent) → Contains (places_from at f) q → Inside o q → (q.from ≤ p.from) × (p.to ≤ q.to)

contains_first : (p : NodeExtent) (ps : List NodeExtent) → Contains (p ∷ ps) p
contains_first p ps = (0, omega arith, refl)

-- a node of a branch is the branch itself, stands in it or after it
module _ (kind : Kind) (at : ℕ) (inside later : Forest) (o : ℕ) where
  end : ℕ
  end = at + (item_count inside + 2)

  parts_of_branch : {Goal : Type 0} (q : NodeExtent) → Contains (places_from at (Branch kind inside later)) q →
      (branch_at kind at inside ≡ q → Goal) → (Contains (places_from (suc at) inside) q → Goal) → (Contains (places_from (at + (item_count inside + 2)) later) q → Goal) → Goal
  parts_of_branch q within one two three =
      elim (Contains-append_cases (branch_at kind at inside ∷ []) (places_from (suc at) inside ++ places_from (at + (item_count inside + 2)) later) q within) [
        | inl here ↦ one (only_place (branch_at kind at inside) q here)
        | inr rest ↦ elim (Contains-append_cases (places_from (suc at) inside) (places_from (at + (item_count inside + 2)) later) q rest) [ inl a ↦ two a | inr b ↦ three b ]
      ]

  in_branch : (d : NodeExtent) (p : NodeExtent) → at < o → o < at + (item_count inside + 2) → Searched (branch_at kind at inside) (suc at) inside o p → Searched d at (Branch kind inside later) o p
  in_branch d p past before r = record {
    node = inr (found_node r.node);
    within = λ q c ins. parts_of_branch q c (λ e. subst (λ (x : NodeExtent). (x.from ≤ p.from) × (p.to ≤ x.to)) e (round r.node)) (λ a. r.within q a ins)
        (λ b. absurd (let far = places_bounds later (at + (item_count inside + 2)) q b in let x = far.0 in let y = ins.0 in omega arith));
  }
    where
      found_node : (p ≡ branch_at kind at inside) ⊎ (Contains (places_from (suc at) inside) p × Inside o p) → Contains (places_from at (Branch kind inside later)) p × Inside o p
      found_node (inl e) = (
        subst (Contains (places_from at (Branch kind inside later))) (sym e) (contains_first (branch_at kind at inside) (places_from (suc at) inside ++ places_from (at + (item_count inside + 2)) later)),
        subst (Inside o) (sym e) (past, before),
      )
      found_node (inr c) = (
        Contains-append_right (branch_at kind at inside ∷ []) (places_from (suc at) inside ++ places_from (at + (item_count inside + 2)) later) p
            (Contains-append_left (places_from (suc at) inside) (places_from (at + (item_count inside + 2)) later) p c.0),
        c.1,
      )

      round : (p ≡ branch_at kind at inside) ⊎ (Contains (places_from (suc at) inside) p × Inside o p) → (at ≤ p.from) × (p.to ≤ at + (item_count inside + 2))
      round (inl e) = subst (λ (x : NodeExtent). (at ≤ x.from) × (x.to ≤ at + (item_count inside + 2))) (sym e) (omega arith, omega arith)
      round (inr c) = let b = places_bounds inside (suc at) p c.0 in let x = b.0 in let y = b.1 in (omega arith, omega arith)

  after_branch : (d : NodeExtent) (p : NodeExtent) → ((at < o) × (o < at + (item_count inside + 2)) → ⊥) → Searched d (at + (item_count inside + 2)) later o p → Searched d at (Branch kind inside later) o p
  after_branch d p outside r = record {
    node = elim (r.node) [
      | inl e ↦ inl e
      | inr c ↦ inr (
        Contains-append_right (branch_at kind at inside ∷ []) (places_from (suc at) inside ++ places_from (at + (item_count inside + 2)) later) p
            (Contains-append_right (places_from (suc at) inside) (places_from (at + (item_count inside + 2)) later) p c.0),
        c.1,
      )
    ];
    within = λ q c ins. parts_of_branch q c
        (λ e. absurd (outside (subst (Inside o) (sym e) ins)))
        (λ a. absurd (let b = places_bounds inside (suc at) q a in let x = b.0 in let y = b.1 in let v = ins.0 in let w = ins.1 in outside (omega arith, omega arith)))
        (λ b. r.within q b ins);
  }

search_tree : (f : Forest) (d : NodeExtent) (at o : ℕ) → Searched d at f o (search d at f o)
search_tree Empty d at o = record { node = inl refl; within = λ q c ins. absurd (let below = c.1 in omega arith) }
search_tree (Run count later) d at o = let r = search_tree later d (at + count) o in record { node = r.node; within = r.within }
search_tree (Branch kind inside later) d at o =
    by_test (nat_lt at o) (nat_lt o (at + (item_count inside + 2))) refl refl (search_tree inside (branch_at kind at inside) (suc at) o) (search_tree later d (at + (item_count inside + 2)) o)
  where
    by_test : (a b : Bool) → nat_lt at o ≡ a → nat_lt o (at + (item_count inside + 2)) ≡ b →
        Searched (branch_at kind at inside) (suc at) inside o (search (branch_at kind at inside) (suc at) inside o) →
        Searched d (at + (item_count inside + 2)) later o (search d (at + (item_count inside + 2)) later o) →
        Searched d at (Branch kind inside later) o
        (if a && b then search (branch_at kind at inside) (suc at) inside o else search d (at + (item_count inside + 2)) later o)
    by_test true true p q one two = in_branch kind at inside later o d _ (ltb-true at o p) (ltb-true o (at + (item_count inside + 2)) q) one
    by_test true false p q one two = after_branch kind at inside later o d _ (λ h. let yes = lt-ltb o (at + (item_count inside + 2)) h.1 in cc) two
    by_test false b p q one two = after_branch kind at inside later o d _ (λ h. let yes = lt-ltb at o h.0 in cc) two

pub count_all : TreeHasAllItems
count_all items lawful =
    by_outer (reading items).outer (read_deep items start (after_from_Lawful items lawful)) (total_count items start (after_from_Lawful items lawful))
  where
    by_outer : (outer : List Forest) → length outer ≡ 0 → item_count (tree_of items) + outer_count outer ≡ length items → item_count (tree_of items) ≡ length items
    by_outer [] none total = omega arith
    by_outer (f ∷ fs) none total = absurd (omega arith)

innermost_of : (items : List PlainItem) (at : ℕ) (p : NodeExtent) → item_count (tree_of items) ≡ length items → Searched (root_place items) 0 (tree_of items) at p → IsInnermost items at p
innermost_of items at p count s = record {
  node = elim (s.node) [
    | inl e ↦ subst (Contains (all_places items)) (sym e) (contains_first (root_place items) (places_from 0 (tree_of items)))
    | inr c ↦ Contains-append_right (root_place items ∷ []) (places_from 0 (tree_of items)) p c.0
  ];
  holds = elim (s.node) [ inl e ↦ inl e | inr c ↦ inr c.1 ];
  within = λ q c holds. elim holds [
    | inl e ↦ subst (λ (x : NodeExtent). (x.from ≤ p.from) × (p.to ≤ x.to)) (sym e) (in_root (s.node))
    | inr ins ↦ elim (Contains-append_cases (root_place items ∷ []) (places_from 0 (tree_of items)) q c) [
      | inl here ↦ subst (λ (x : NodeExtent). (x.from ≤ p.from) × (p.to ≤ x.to)) (only_place (root_place items) q here) (in_root (s.node))
      | inr one ↦ s.within q one ins
    ]
  ];
}
  where
    in_root : (p ≡ root_place items) ⊎ (Contains (places_from 0 (tree_of items)) p × Inside at p) → (0 ≤ p.from) × (p.to ≤ length items)
    in_root (inl e) = subst (λ (x : NodeExtent). (0 ≤ x.from) × (x.to ≤ length items)) (sym e) (omega arith, omega arith)
    in_root (inr c) = let b = places_bounds (tree_of items) 0 p c.0 in let y = b.1 in (omega arith, omega arith)

pub node_at_is_innermost : NodeAtIsInnermost
node_at_is_innermost items at lawful room =
    subst (IsInnermost items at) (sym (found_in_tree items at lawful room))
    (innermost_of items at (search (root_place items) 0 (tree_of items) at) (count_all items lawful) (search_tree (tree_of items) (root_place items) 0 at))
