-- How much of a list is read, item by item from its end.
use Rattle.std.proofs.Common.{◌≡◌, ◌≢◌, ◌≤◌, ◌<◌, ◌+◌, ◌-◌, ℕ, zero, suc, Option, Some, Ok, List, [], ◌∷◌, drop, length, refl, sym, ap, ◌∙◌, subst, arith, slice_get, inl, inr, drop-cons, length-drop}
use Rattle.std.proofs.lemmas.Option.{slice_get_within, get_or_from_slice_get, slice_get_cases}
use Rattle.ve_base.specs.declared.value.ValueId.{ValueId}
use Rattle.ve_kinds.specs.declared.kind.Kind.{Kind}
use Rattle.ve_kinds.specs.Table.{is_content_branch}
use Rattle.model_items.specs.declared.item.Item.{Item}
use Rattle.model_items.specs.declared.item.Item.TheVariants as item
use Rattle.model_items.specs.declared.plain_item.PlainItem.{PlainItem}
use Rattle.model_items.specs.declared.plain_item.PlainItem.TheVariants.{Char, Opening, Closing}
use Rattle.model_items.specs.declared.law_fault.LawFault.{LawFault}
use Rattle.model_items.specs.Plain.{plain}
use Rattle.model_items.specs.Law.{State, start, finish, top, step, after, Lawful}
use Rattle.model_items.proofs.LawLemmas.{if_ok, Ok-same, opened_before, closed_before, joined-ok, after_from_Lawful}
use Rattle.model_items.specs.Tree.{Forest, Empty, Run, Branch, with_char, first_forest, Reading, reading, reading_with, tree_of, node_count}
use Rattle.ve_tree.specs.IsTree.{unvalued}
use Rattle.ve_tree.specs.Grown.{IsChar, OpensNode, reading_from, closes, closes_from, pending_count, count_from}

pub record IsRunSoFar (items : List Item) (from to : ℕ) : Type 0 where
  pub order : from ≤ to
  pub characters : (m : ℕ) (x : Item) → from ≤ m → m < to → slice_get items m ≡ Some x → IsChar x

-- the item at a position, and the rest from there
pub item_at : (items : List Item) (m : ℕ) → m < length items → (x : Item) × (slice_get items m ≡ Some x)
item_at items m within = elim (slice_get_cases items m).1 [
  | inl found ↦ (found.0, found.2)
  | inr past ↦ absurd (omega (arith, past.0))
]

pub drop-at : (items : List Item) (m : ℕ) (x : Item) → slice_get items m ≡ Some x → drop m items ≡ x ∷ drop (suc m) items
drop-at items m x h = drop-cons items m x (slice_get_within items m x h) ∙ ap (λ y. y ∷ drop (suc m) items) (get_or_from_slice_get items m x x h)

pub reading-at : (items : List Item) (m : ℕ) (x : Item) → slice_get items m ≡ Some x → reading_from items m ≡ reading_with (plain [] x) (reading_from items (suc m))
reading-at items m x h = ap (λ l. reading (unvalued l)) (drop-at items m x h)

pub closes-at : (items : List Item) (m : ℕ) (x : Item) → slice_get items m ≡ Some x → closes_from items m ≡ closes (plain [] x ∷ unvalued (drop (suc m) items))
closes-at items m x h = ap (λ l. closes (unvalued l)) (drop-at items m x h)

-- the open kinds are named by the closings that are to come
pub closes-lawful : (items : List PlainItem) (s : State) → after s items ≡ Ok finish → closes items ≡ s.stack
closes-lawful [] s h = sym (ap (λ (t : State). t.stack) (Ok-same {E = LawFault} s finish h))
closes-lawful (Char c marks ∷ items) s h =
    let p = joined-ok 1 (step s (Char c marks)) (λ next. after next items) finish h in
    let same = Ok-same {E = LawFault} s p.0 (if_ok (is_content_branch (top s.stack)) _ _ p.0 p.1).1 in
    closes-lawful items s (subst (λ t. after t items ≡ Ok finish) (sym same) p.2)
closes-lawful (Closing kind pre ∷ items) s h =
    let p = joined-ok 1 (step s (Closing kind pre)) (λ next. after next items) finish h in
    ap (λ kinds. kind ∷ kinds) (closes-lawful items p.0 p.2) ∙ sym (closed_before s.stack s.seen kind p.0 p.1).0
closes-lawful (Opening kind head marks pre origin generated ∷ items) s h =
    let p = joined-ok 1 (step s (Opening kind head marks pre origin generated)) (λ next. after next items) finish h in
    ap (drop 1) (closes-lawful items p.0 p.2 ∙ sym (opened_before s p.0 kind p.1).0)

-- every opening has its closing
pub OpeningsClose : List PlainItem → Type 0
OpeningsClose [] = Unit {0}
OpeningsClose (Char c marks ∷ items) = OpeningsClose items
OpeningsClose (Closing kind pre ∷ items) = OpeningsClose items
OpeningsClose (Opening kind head marks pre origin generated ∷ items) = (closes items ≡ kind ∷ drop 1 (closes items)) × OpeningsClose items

openings-close : (items : List PlainItem) (s : State) → after s items ≡ Ok finish → OpeningsClose items
unfolding OpeningsClose
openings-close [] s h = tt
openings-close (Char c marks ∷ items) s h =
    let p = joined-ok 1 (step s (Char c marks)) (λ next. after next items) finish h in
    openings-close items p.0 p.2
openings-close (Closing kind pre ∷ items) s h =
    let p = joined-ok 1 (step s (Closing kind pre)) (λ next. after next items) finish h in
    openings-close items p.0 p.2
openings-close (Opening kind head marks pre origin generated ∷ items) s h =
    let p = joined-ok 1 (step s (Opening kind head marks pre origin generated)) (λ next. after next items) finish h in
    let e = closes-lawful items p.0 p.2 ∙ sym (opened_before s p.0 kind p.1).0 in
    (e ∙ ap (λ kinds. kind ∷ drop 1 kinds) (sym e), openings-close items p.0 p.2)

openings-drop : (items : List Item) (m : ℕ) → OpeningsClose (unvalued items) → OpeningsClose (unvalued (drop m items))
unfolding OpeningsClose
openings-drop items zero h = h
openings-drop [] (suc m) h = h
openings-drop (item.Char ch marks ∷ items) (suc m) h = openings-drop items m h
openings-drop (item.Closing kind pre ∷ items) (suc m) h = openings-drop items m h
openings-drop (item.Opening kind generated head marks pre origin ∷ items) (suc m) h = openings-drop items m h.1

-- nothing is open at the start, and an opening's kind is the next one to be closed
pub closes-start : (items : List Item) → Lawful (unvalued items) → closes_from items 0 ≡ []
closes-start items lawful = closes-lawful (unvalued items) start (after_from_Lawful (unvalued items) lawful)

pub closes-opening : (items : List Item) (m : ℕ) (kind : Kind) (x : Item) → Lawful (unvalued items) → slice_get items m ≡ Some x → OpensNode x →
    closes_from items (suc m) ≡ kind ∷ drop 1 (closes_from items (suc m)) →
    (reading_with (plain [] x) (reading_from items (suc m)) ≡ record { here = Branch kind (reading_from items (suc m)).here (first_forest (reading_from items (suc m)).outer); outer = drop 1 (reading_from items (suc m)).outer })
    × (closes_from items m ≡ drop 1 (closes_from items (suc m)))
unfolding OpeningsClose
closes-opening items m kind (item.Char ch marks) lawful at opening closed = absurd opening
closes-opening items m kind (item.Closing k pre) lawful at opening closed = absurd opening
closes-opening items m kind (item.Opening k generated head marks pre origin) lawful at opening closed =
    let all = openings-close (unvalued items) start (after_from_Lawful (unvalued items) lawful) in
    let here = subst (λ l. OpeningsClose (unvalued l)) (drop-at items m (item.Opening k generated head marks pre origin) at) (openings-drop items m all) in
    let r = reading_from items (suc m) in
    let both : k ∷ drop 1 (closes_from items (suc m)) ≡ kind ∷ drop 1 (closes_from items (suc m)) = sym here.0 ∙ closed in
    let same : k ≡ kind = cc in (
      (λ i. record { here = Branch (same i) r.here (first_forest r.outer); outer = drop 1 r.outer }),
      closes-at items m (item.Opening k generated head marks pre origin) at,
    )

pub reading-closing : (items : List Item) (m : ℕ) (kind : Kind) (pre : Option ValueId) → slice_get items m ≡ Some (item.Closing kind pre) →
    (reading_from items m ≡ record { here = Empty; outer = (reading_from items (suc m)).here ∷ (reading_from items (suc m)).outer })
    × (closes_from items m ≡ kind ∷ closes_from items (suc m))
reading-closing items m kind pre at = (reading-at items m (item.Closing kind pre) at, closes-at items m (item.Closing kind pre) at)

pub reading-char : (items : List Item) (m : ℕ) (x : Item) → slice_get items m ≡ Some x → IsChar x →
    (reading_from items m ≡ record { here = with_char (reading_from items (suc m)).here; outer = (reading_from items (suc m)).outer })
    × (closes_from items m ≡ closes_from items (suc m))
reading-char items m (item.Char ch marks) at char = (reading-at items m (item.Char ch marks) at, closes-at items m (item.Char ch marks) at)
reading-char items m (item.Closing k pre) at char = absurd char
reading-char items m (item.Opening k generated head marks pre origin) at char = absurd char

-- a run of one character and more, before what begins with none
pub reading-run : (items : List Item) (f : Forest) (outer : List Forest) (k from : ℕ) → from + suc k ≤ length items →
    ((m : ℕ) (x : Item) → from ≤ m → m < from + suc k → slice_get items m ≡ Some x → IsChar x) →
    reading_from items (from + suc k) ≡ record { here = f; outer = outer } → with_char f ≡ Run 1 f →
    (reading_from items from ≡ record { here = Run (suc k) f; outer = outer }) × (closes_from items from ≡ closes_from items (from + suc k))
reading-run items f outer zero from within chars reads fresh =
    let e : from + 1 ≡ suc from = omega arith in
    let here = item_at items from (omega (arith, within)) in
    let both = reading-char items from here.0 here.1 (chars from here.0 (omega arith) (omega arith) here.1) in
    let next : reading_from items (suc from) ≡ record { here = f; outer = outer } = subst (λ n. reading_from items n ≡ record { here = f; outer = outer }) e reads in (
      both.0 ∙ ap (λ (r : Reading). record { here = with_char r.here; outer = r.outer }) next ∙ (λ i. record { here = fresh i; outer = outer }),
      both.1 ∙ ap (closes_from items) (sym e),
    )
reading-run items f outer (suc k) from within chars reads fresh =
    let e : from + suc (suc k) ≡ suc from + suc k = omega arith in
    let here = item_at items from (omega (arith, within)) in
    let both = reading-char items from here.0 here.1 (chars from here.0 (omega arith) (omega arith) here.1) in
    let rest = reading-run items f outer k (suc from) (omega (arith, within)) (λ m x low high at. chars m x (omega (arith, low)) (omega (arith, high)) at)
    (subst (λ n. reading_from items n ≡ record { here = f; outer = outer }) e reads) fresh in (
      both.0 ∙ ap (λ (r : Reading). record { here = with_char r.here; outer = r.outer }) rest.0,
      both.1 ∙ rest.1 ∙ ap (closes_from items) (sym e),
    )

-- what is read only grows
total : Reading → ℕ
total r = node_count r.here + pending_count r.outer

with_char-count : (f : Forest) → node_count f ≤ node_count (with_char f)
with_char-count Empty = omega arith
with_char-count (Run count later) = omega arith
with_char-count (Branch kind inside later) = omega arith

total-grows : (x : PlainItem) (r : Reading) → total r ≤ total (reading_with x r)
unfolding total
total-grows (Char c marks) r = omega (arith, with_char-count r.here)
total-grows (Closing kind pre) r = omega arith
total-grows (Opening kind head marks pre origin generated) r = by_outer r.outer
  where
    by_outer : (fs : List Forest) → node_count r.here + pending_count fs ≤ 1 + (node_count r.here + node_count (first_forest fs)) + pending_count (drop 1 fs)
    by_outer [] = omega arith
    by_outer (f ∷ fs) = omega arith

total-drop : (items : List Item) (m : ℕ) → total (reading (unvalued (drop m items))) ≤ total (reading (unvalued items))
total-drop items zero = omega arith
total-drop [] (suc m) = omega arith
total-drop (x ∷ items) (suc m) = omega (arith, total-drop items m, total-grows (plain [] x) (reading (unvalued items)))

pub count-grows : (items : List Item) (m : ℕ) → count_from items m ≤ count_from items 0
unfolding total
count-grows items m = total-drop items m

pub count-is : (items : List Item) (m : ℕ) (here : Forest) (outer : List Forest) → reading_from items m ≡ record { here = here; outer = outer } →
    count_from items m ≡ node_count here + pending_count outer
count-is items m here outer e = ap (λ (r : Reading). node_count r.here + pending_count r.outer) e

-- an opening's closing is still to come
pub opening-inside : (items : List Item) (m : ℕ) (x : Item) → Lawful (unvalued items) → slice_get items m ≡ Some x → OpensNode x → closes_from items (suc m) ≢ []
unfolding OpeningsClose
opening-inside items m (item.Char ch marks) lawful at opening e = opening
opening-inside items m (item.Closing k pre) lawful at opening e = opening
opening-inside items m (item.Opening k generated head marks pre origin) lawful at opening e =
    let all = openings-close (unvalued items) start (after_from_Lawful (unvalued items) lawful) in
    let here = subst (λ l. OpeningsClose (unvalued l)) (drop-at items m (item.Opening k generated head marks pre origin) at) (openings-drop items m all) in
    let both : ◌≡◌ {A = List Kind} [] (k ∷ drop 1 (closes_from items (suc m))) = sym e ∙ here.0 in absurd (cc)

-- each closing that is to come has its siblings after it
deep : (items : List PlainItem) → length (reading items).outer ≡ length (closes items)
deep [] = refl
deep (Char c marks ∷ items) = deep items
deep (Closing kind pre ∷ items) = ap suc (deep items)
deep (Opening kind head marks pre origin generated ∷ items) =
    length-drop 1 (reading items).outer ∙ ap (λ n. n - 1) (deep items) ∙ sym (length-drop 1 (closes items))

none-left : (fs : List Forest) → length fs ≡ 0 → pending_count fs ≡ 0
none-left [] h = refl
none-left (f ∷ fs) h = absurd (omega (arith, h))

-- the whole list's nodes are those of its tree
pub count-whole : (items : List Item) → Lawful (unvalued items) → count_from items 0 ≡ node_count (tree_of (unvalued items))
count-whole items lawful =
    omega (arith, none-left (reading (unvalued items)).outer (deep (unvalued items) ∙ ap length (closes-start items lawful)))
