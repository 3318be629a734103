-- Which items of a range stay, by a walk over it, and that they lead where the range leads.
use Rattle.std.specs.Prelude.{filter, slice_get}
use Rattle.std.specs.List.{range_with_len, list_any}
use Rattle.std.proofs.Common.{◌≡◌, ◌⊎◌, inl, inr, ℕ, zero, suc, ◌+◌, ◌<◌, ◌≤◌, Bool, true, false, cond, not, ◌&&◌, if◌then◌else◌, nat_lt, nat_le, List, [], ◌∷◌, ◌++◌, length, map, take, drop, Some, Ok, refl, sym, ap, ◌∙◌, subst, arith, zero-add, length-append}
use Rattle.std.proofs.lemmas.Bool.{or_parts, and_parts, and_from, lt-ltb, le-leb, cases_Bool, and_left, and_right}
use Rattle.ve_kinds.specs.declared.kind.Kind.{Kind}
use Rattle.ve_kinds.specs.declared.kind.Kind.TheVariants.{InternalList, InternalItem}
use Rattle.model_items.specs.declared.plain_item.PlainItem.{PlainItem}
use Rattle.model_items.specs.declared.plain_item.PlainItem.TheVariants.{Char, Opening, Closing}
use Rattle.ve_kinds.specs.Table.{kind_same, may_hold, is_content_branch}
use Rattle.model_items.specs.declared.law_fault.LawFault.{LawFault}
use Rattle.model_items.specs.Law.{State, finish, top, step, outcome_then, outcome_moved, after}
use Rattle.model_items.proofs.LawLemmas.{if_ok, Ok-same, joined-ok, after_parts, opened_before, closed_before}
use Rattle.model_items.specs.Tree.{Open, opens_after, opens_with, length_to_close}
use Rattle.model_edit.specs.Brackets.{is_internal, is_internal_bracket}
use Rattle.model_items.specs.Offsets.{partner, partner_of, is_unmatched, first_from}
use Rattle.model_edit_law.proofs.EditLemmas.{take-whole}
use Rattle.model_edit_law.proofs.BracketLemmas.{state_of, fits, fits_parts, fits-after, kinds_after, slice_get-at, drop-past}
use Rattle.model_edit_law.proofs.NodeLemmas.{opened_state}

-- the node of the depth-th open kind, 0 for the innermost, closes among the items
abbrev pub closes_in : ℕ → List PlainItem → Bool
closes_in depth [] = false
closes_in depth (Char c marks ∷ items) = closes_in depth items
closes_in depth (Opening kind head marks pre origin generated ∷ items) = closes_in (suc depth) items
closes_in zero (Closing kind pre ∷ items) = true
closes_in (suc depth) (Closing kind pre ∷ items) = closes_in depth items

pub record Stay : Type 0 where
  pub place : ℕ
  pub item : PlainItem

abbrev pub place_of : Stay → ℕ
place_of s = s.place

abbrev pub item_of : Stay → PlainItem
item_of s = s.item

-- what stays of the items, the innermost `m` open nodes being ones that go
abbrev pub stays : (m at : ℕ) → List PlainItem → List Stay
stays m at [] = []
stays m at (Char c marks ∷ items) = stays m (at + 1) items
stays m at (Opening kind head marks pre origin generated ∷ items) =
    if closes_in 0 items then stays (suc m) (at + 1) items
    else (record { place = at; item = Opening kind head marks pre origin generated } ∷ stays m (at + 1) items)
stays zero at (Closing kind pre ∷ items) = record { place = at; item = Closing kind pre } ∷ stays zero (at + 1) items
stays (suc m) at (Closing kind pre ∷ items) = stays m (at + 1) items

-- the m innermost nodes close among the items
abbrev pub all_close : ℕ → List PlainItem → Bool
all_close zero items = true
all_close (suc d) items = closes_in d items

closes_less : (d : ℕ) (items : List PlainItem) → closes_in (suc d) items ≡ true → closes_in d items ≡ true
closes_less d [] h = cc
closes_less d (Char c marks ∷ items) h = closes_less d items h
closes_less d (Opening kind head marks pre origin generated ∷ items) h = closes_less (suc d) items h
closes_less zero (Closing kind pre ∷ items) h = refl
closes_less (suc d) (Closing kind pre ∷ items) h = closes_less d items h

closes_first : (d : ℕ) (items : List PlainItem) → closes_in d items ≡ true → closes_in 0 items ≡ true
closes_first zero items h = h
closes_first (suc d) items h = closes_first d items (closes_less d items h)

all_close-Char : (m c : ℕ) (marks : List Rattle.ve_base.specs.declared.marks.Mark.Mark) (items : List PlainItem) → all_close m (Char c marks ∷ items) ≡ true → all_close m items ≡ true
all_close-Char zero c marks items h = refl
all_close-Char (suc d) c marks items h = h

all_close-Closing : (m : ℕ) (kind : Kind) (pre : List ℕ) (items : List PlainItem) → closes_in m (Closing kind pre ∷ items) ≡ true → all_close m items ≡ true
all_close-Closing zero kind pre items h = refl
all_close-Closing (suc d) kind pre items h = h

-- The items that stay lead where the items lead, with the nodes that go left out of the stack.
pub stays_lead : (items : List PlainItem) (at : ℕ) (inner outer : List Kind) (seen : Bool) (t : State) → all_close (length inner) items ≡ true →
    list_any is_internal_bracket items ≡ false → after (state_of (inner ++ outer) seen) items ≡ Ok t →
    after (state_of outer seen) (map item_of (stays (length inner) at items)) ≡ Ok t
stays_lead [] at [] outer seen t c n h = h
stays_lead [] at (k ∷ inner) outer seen t c n h = cc
stays_lead (Char ch marks ∷ items) at inner outer seen t c n h =
    let s = state_of (inner ++ outer) seen in
    let p = joined-ok 1 (step s (Char ch marks)) (λ next. after next items) t h in
    let same = Ok-same {E = LawFault} s p.0 (if_ok (is_content_branch (top s.stack)) _ _ p.0 p.1).1 in
    stays_lead items (at + 1) inner outer seen t (all_close-Char (length inner) ch marks items c) n (ap (λ v. after v items) same ∙ p.2)
stays_lead (Opening kind head marks pre origin generated ∷ items) at (k ∷ inner) outer seen t c n h =
    let s = state_of (k ∷ (inner ++ outer)) seen in
    let x = Opening kind head marks pre origin generated in
    let p = joined-ok 1 (step s x) (λ next. after next items) t h in
    let i = or_parts (is_internal kind) (list_any is_internal_bracket items) n in
    let o = opened_state s p.0 kind (or_parts (kind_same kind InternalList) _ i.0).0 p.1 in
    let yes_ = closes_first (suc (length inner)) items c in
    let rest = stays_lead items (at + 1) (kind ∷ (k ∷ inner)) outer seen t c i.1 (ap (λ v. after v items) (sym o.2) ∙ p.2) in
    subst (λ b. after (state_of outer seen) (map item_of (if b then stays (suc (suc (length inner))) (at + 1) items
    else (record { place = at; item = x } ∷ stays (suc (length inner)) (at + 1) items))) ≡ Ok t) (sym yes_) rest
stays_lead (Opening kind head marks pre origin generated ∷ items) at [] outer seen t c n h =
    let s = state_of outer seen in
    let x = Opening kind head marks pre origin generated in
    let p = joined-ok 1 (step s x) (λ next. after next items) t h in
    let i = or_parts (is_internal kind) (list_any is_internal_bracket items) n in
    let o = opened_state s p.0 kind (or_parts (kind_same kind InternalList) _ i.0).0 p.1 in
    let later = ap (λ v. after v items) (sym o.2) ∙ p.2 in
    let P : Bool → Type 0 = λ b. after s (map item_of (if b then stays 1 (at + 1) items else (record { place = at; item = x } ∷ stays 0 (at + 1) items))) ≡ Ok t in
    elim (cases_Bool (closes_in 0 items)) [
      | inl yes_ ↦ subst P (sym yes_) (stays_lead items (at + 1) (kind ∷ []) outer seen t yes_ i.1 later)
      | inr no_ ↦ subst P (sym no_)
          (ap (λ r. outcome_then 1 r (λ next. after next (map item_of (stays 0 (at + 1) items)))) (p.1 ∙ ap Ok o.2)
          ∙ ap (outcome_moved 1) (stays_lead items (at + 1) [] (kind ∷ outer) seen t refl i.1 later))
    ]
stays_lead (Closing kind pre ∷ items) at [] outer seen t c n h =
    let s = state_of outer seen in
    let p = joined-ok 1 (step s (Closing kind pre)) (λ next. after next items) t h in
    let i = or_parts (is_internal kind) (list_any is_internal_bracket items) n in
    ap (λ r. outcome_then 1 r (λ next. after next (map item_of (stays 0 (at + 1) items)))) p.1
    ∙ ap (outcome_moved 1) (stays_lead items (at + 1) [] (p.0).stack (p.0).seen t refl i.1 p.2)
stays_lead (Closing kind pre ∷ items) at (k ∷ inner) outer seen t c n h =
    let s = state_of (k ∷ (inner ++ outer)) seen in
    let p = joined-ok 1 (step s (Closing kind pre)) (λ next. after next items) t h in
    let i = or_parts (is_internal kind) (list_any is_internal_bracket items) n in
    let b = closed_before s.stack s.seen kind p.0 p.1 in
    let stack : (p.0).stack ≡ inner ++ outer = (let e = b.0 in cc) in
    let seen' : (p.0).seen ≡ seen = sym b.1 in
    let state : p.0 ≡ state_of (inner ++ outer) seen = λ j. state_of (stack j) (seen' j) in
    stays_lead items (at + 1) inner outer seen t (all_close-Closing (length inner) kind pre items c) i.1 (ap (λ v. after v items) (sym state) ∙ p.2)

closes_near : (d : ℕ) (items rest : List PlainItem) → closes_in d items ≡ true → length_to_close d (items ++ rest) ≤ length items
closes_near d [] rest h = cc
closes_near d (Char c marks ∷ items) rest h = let r = closes_near d items rest h in omega arith
closes_near d (Opening kind head marks pre origin generated ∷ items) rest h = let r = closes_near (suc d) items rest h in omega arith
closes_near zero (Closing kind pre ∷ items) rest h = omega arith
closes_near (suc d) (Closing kind pre ∷ items) rest h = let r = closes_near d items rest h in omega arith

some_way : (d : ℕ) (y : PlainItem) (rest : List PlainItem) → 1 ≤ length_to_close d (y ∷ rest)
some_way d (Char c marks) rest = omega arith
some_way d (Opening kind head marks pre origin generated) rest = omega arith
some_way zero (Closing kind pre) rest = omega arith
some_way (suc d) (Closing kind pre) rest = omega arith

closes_far : (d : ℕ) (items : List PlainItem) (y : PlainItem) (rest : List PlainItem) → closes_in d items ≡ false → suc (length items) ≤ length_to_close d (items ++ y ∷ rest)
closes_far d [] y rest h = some_way d y rest
closes_far d (Char c marks ∷ items) y rest h = let r = closes_far d items y rest h in omega arith
closes_far d (Opening kind head marks pre origin generated ∷ items) y rest h = let r = closes_far (suc d) items y rest h in omega arith
closes_far zero (Closing kind pre ∷ items) y rest h = cc
closes_far (suc d) (Closing kind pre ∷ items) y rest h = let r = closes_far d items y rest h in omega arith

-- where nothing stays, the nodes outside close as if the items were not there
pub through_none : (items : List PlainItem) (m at d : ℕ) (rest : List PlainItem) → all_close m items ≡ true → stays m at items ≡ [] →
    length_to_close (m + d) (items ++ rest) ≡ length items + length_to_close d rest
through_none [] zero at d rest c e =
    let z : zero + d ≡ d = omega arith in
    let q = ap (λ n. length_to_close n rest) z in omega arith
through_none [] (suc m) at d rest c e = cc
through_none (Char ch marks ∷ items) m at d rest c e =
    let r = through_none items m (at + 1) d rest (all_close-Char m ch marks items c) e in omega arith
through_none (Opening kind head marks pre origin generated ∷ items) m at d rest c e =
    elim (cases_Bool (closes_in 0 items)) [
      | inl yes_ ↦
          (let r = through_none items (suc m) (at + 1) d rest (deeper m yes_ c) (subst P yes_ e) in
          let z : suc (m + d) ≡ suc m + d = omega arith in
          let q : length_to_close (suc (m + d)) (items ++ rest) ≡ length_to_close (suc m + d) (items ++ rest) = ap (λ n. length_to_close n (items ++ rest)) z in
          omega arith)
      | inr no_ ↦ absurd (let f = subst P no_ e in cc)
    ]
  where
    x : PlainItem
    x = Opening kind head marks pre origin generated

    P : Bool → Type 0
    P b = (if b then stays (suc m) (at + 1) items else (record { place = at; item = x } ∷ stays m (at + 1) items)) ≡ []

    deeper : (m : ℕ) → closes_in 0 items ≡ true → all_close m (x ∷ items) ≡ true → closes_in m items ≡ true
    deeper zero y c = y
    deeper (suc n) y c = c
through_none (Closing kind pre ∷ items) zero at d rest c e = cc
through_none (Closing kind pre ∷ items) (suc m) at d rest c e =
    let r = through_none items m (at + 1) d rest (all_close-Closing m kind pre items c) e in
    let z : suc m + d ≡ suc (m + d) = omega arith in
    let q : length_to_close (suc m + d) (Closing kind pre ∷ (items ++ rest)) ≡ suc (length_to_close (m + d) (items ++ rest)) =
    ap (λ n. length_to_close n (Closing kind pre ∷ (items ++ rest))) z in
    omega arith

-- the first that stays, and what is on both sides of it
pub record FirstStay (at : ℕ) (items : List PlainItem) (a : Stay) (later : List Stay) : Type 0 where
  pub prefix : List PlainItem
  pub suffix : List PlainItem
  pub whole : items ≡ prefix ++ a.item ∷ suffix
  pub stands : a.place ≡ at + length prefix
  pub next : stays 0 (a.place + 1) suffix ≡ later

FirstStay-more : (at : ℕ) (x : PlainItem) (items : List PlainItem) (a : Stay) (later : List Stay) → FirstStay (at + 1) items a later → FirstStay at (x ∷ items) a later
FirstStay-more at x items a later r = record {
  prefix = x ∷ r.prefix;
  suffix = r.suffix;
  whole = ap (λ v. x ∷ v) r.whole;
  stands = (let e = r.stands in omega arith);
  next = r.next;
}

FirstStay-here : (at : ℕ) (x : PlainItem) (items : List PlainItem) (a : Stay) (later : List Stay) →
    ◌≡◌ {A = List Stay} (record { place = at; item = x } ∷ stays 0 (at + 1) items) (a ∷ later) → FirstStay at (x ∷ items) a later
FirstStay-here at x items a later e =
    let first : record { place = at; item = x } ≡ a = cc in
    let rest : stays 0 (at + 1) items ≡ later = cc in
    subst (λ v. FirstStay at (x ∷ items) v later) first
    (record { prefix = []; suffix = items; whole = refl; stands = omega arith; next = rest })

pub first_stay : (items : List PlainItem) (m at : ℕ) (a : Stay) (later : List Stay) → all_close m items ≡ true → stays m at items ≡ a ∷ later → FirstStay at items a later
first_stay [] m at a later c e = cc
first_stay (Char ch marks ∷ items) m at a later c e =
    FirstStay-more at (Char ch marks) items a later (first_stay items m (at + 1) a later (all_close-Char m ch marks items c) e)
first_stay (Closing kind pre ∷ items) zero at a later c e = FirstStay-here at (Closing kind pre) items a later e
first_stay (Closing kind pre ∷ items) (suc m) at a later c e =
    FirstStay-more at (Closing kind pre) items a later (first_stay items m (at + 1) a later (all_close-Closing m kind pre items c) e)
first_stay (Opening kind head marks pre origin generated ∷ items) (suc m) at a later c e =
    let x = Opening kind head marks pre origin generated in
    let P : Bool → Type 0 = λ b. (if b then stays (suc (suc m)) (at + 1) items else (record { place = at; item = x } ∷ stays (suc m) (at + 1) items)) ≡ a ∷ later in
    FirstStay-more at x items a later (first_stay items (suc (suc m)) (at + 1) a later c (subst P (closes_first (suc m) items c) e))
first_stay (Opening kind head marks pre origin generated ∷ items) zero at a later c e =
    let x = Opening kind head marks pre origin generated in
    let P : Bool → Type 0 = λ b. (if b then stays 1 (at + 1) items else (record { place = at; item = x } ∷ stays 0 (at + 1) items)) ≡ a ∷ later in
    elim (cases_Bool (closes_in 0 items)) [
      | inl yes_ ↦ FirstStay-more at x items a later (first_stay items 1 (at + 1) a later yes_ (subst P yes_ e))
      | inr no_ ↦ FirstStay-here at x items a later (subst P no_ e)
    ]

-- the last item of a list is a bracket of the internal list
pub last_internal : (x : PlainItem) (items : List PlainItem) (s : State) → fits s.seen s.stack ≡ true → list_any is_internal_bracket (x ∷ items) ≡ false →
    after s (x ∷ items) ≡ Ok finish → ⊥
last_internal x (y ∷ items) s f n h =
    let p = after_parts (x ∷ []) (y ∷ items) s finish h in
    last_internal y items p.0 (fits-after (x ∷ []) s p.0 p.1 f) (or_parts (is_internal_bracket x) _ n).1 p.2
last_internal (Char c marks) [] s f n h =
    let p = joined-ok 1 (step s (Char c marks)) (λ next. after next []) finish h in
    let i = if_ok (is_content_branch (top s.stack)) _ _ p.0 p.1 in
    let e : s ≡ finish = Ok-same {E = LawFault} s p.0 i.1 ∙ Ok-same {E = LawFault} p.0 finish p.2 in
    let g = ap (λ (v : State). is_content_branch (top v.stack)) (sym e) ∙ i.0 in
    cc
last_internal (Opening kind head marks pre origin generated) [] s f n h =
    let p = joined-ok 1 (step s (Opening kind head marks pre origin generated)) (λ next. after next []) finish h in
    let e = (opened_before s p.0 kind p.1).0 ∙ ap (λ (v : State). v.stack) (Ok-same {E = LawFault} p.0 finish p.2) in
    cc
last_internal (Closing kind pre) [] s f n h =
    let p = joined-ok 1 (step s (Closing kind pre)) (λ next. after next []) finish h in
    let b = closed_before s.stack s.seen kind p.0 p.1 in
    let i = or_parts (is_internal kind) false n in
    let other = (or_parts (kind_same kind InternalList) _ i.0).0 in
    let e = Ok-same {E = LawFault} p.0 finish p.2 in
    let stack : s.stack ≡ kind ∷ [] = b.0 ∙ ap (λ (v : State). kind ∷ v.stack) e in
    let seen : s.seen ≡ true = b.1 ∙ ap (λ (v : State). v.seen) e in
    let g : fits true (kind ∷ []) ≡ true = (λ j. fits (sym seen j) (sym stack j)) ∙ f in
    let q = fits_parts kind [] true other g in
    let m = and_parts (may_hold Rattle.ve_kinds.specs.declared.kind.Kind.TheVariants.Root kind) _ q.0 in
    let z : (if false then false else false) ≡ true = ap (λ v. if v then false else false) (sym other) ∙ m.1 in
    cc

-- the items at positions that pass
abbrev pub picked : (ℕ → Bool) → ℕ → List PlainItem → List PlainItem
picked u at [] = []
picked u at (x ∷ items) = cond (u at) (x ∷ picked u (at + 1) items) (picked u (at + 1) items)

abbrev pub Both : (ℕ → Bool) → ℕ → List PlainItem → List Stay → Type 0
Both u at items all = (filter u (range_with_len at (length items)) ≡ map place_of all) × (picked u at items ≡ map item_of all)

one_stays : (u : ℕ → Bool) (at : ℕ) (x : PlainItem) (items : List PlainItem) (all : List Stay) → u at ≡ true → Both u (at + 1) items all →
    Both u at (x ∷ items) (record { place = at; item = x } ∷ all)
one_stays u at x items all e h =
    let F = filter u (range_with_len (at + 1) (length items)) in
    let G = picked u (at + 1) items in
    (ap (λ b. cond b (at ∷ F) F) e ∙ ap (λ v. at ∷ v) h.0, ap (λ b. cond b (x ∷ G) G) e ∙ ap (λ v. x ∷ v) h.1)

one_goes : (u : ℕ → Bool) (at : ℕ) (x : PlainItem) (items : List PlainItem) (all : List Stay) → u at ≡ false → Both u (at + 1) items all → Both u at (x ∷ items) all
one_goes u at x items all e h =
    let F = filter u (range_with_len (at + 1) (length items)) in
    let G = picked u (at + 1) items in
    (ap (λ b. cond b (at ∷ F) F) e ∙ h.0, ap (λ b. cond b (x ∷ G) G) e ∙ h.1)

opens_after-snoc : (done : List PlainItem) (x : PlainItem) (nodes : List Open) (at end : ℕ) → end ≡ at + length done →
    opens_after nodes at (done ++ x ∷ []) ≡ opens_with x end (opens_after nodes at done)
opens_after-snoc [] x nodes at end e = let z : at ≡ end = omega arith in ap (λ n. opens_with x n nodes) z
opens_after-snoc (y ∷ done) x nodes at end e = opens_after-snoc done x (opens_with y at nodes) (suc at) end (omega arith)

snoc-append : (done : List PlainItem) (x : PlainItem) (items : List PlainItem) → (done ++ x ∷ []) ++ items ≡ done ++ x ∷ items
snoc-append [] x items = refl
snoc-append (y ∷ done) x items = ap (λ v. y ∷ v) (snoc-append done x items)

module _ (whole : List PlainItem) (y : PlainItem) (rest : List PlainItem) (from to : ℕ) where
  abbrev pub u : ℕ → Bool
  u = is_unmatched whole from to

  -- nodes that opened in the range, and go
  abbrev pub InRange : List Open → Type 0
  InRange [] = Unit {0}
  InRange (n ∷ inner) = (from ≤ n.from) × (n.from < to) × InRange inner

  -- the others: they opened before the range, or do not close in it
  abbrev pub Outer : (ℕ → Bool) → List Open → Type 0
  Outer c [] = Unit {0}
  Outer c (n ∷ outer) = ((n.from < from) ⊎ (c 0 ≡ false)) × Outer (λ d. c (suc d)) outer

  abbrev pub below : List Open → (ℕ → Bool) → ℕ → Bool
  below [] c = c
  below (n ∷ inner) c = below inner (λ d. c (suc d))

  goes_at : (at other : ℕ) → partner whole at ≡ other → from ≤ other → other < to → u at ≡ false
  goes_at at other e low high =
      ap (λ n. not (nat_le from n && nat_lt n to)) e
      ∙ ap (λ b. not (b && nat_lt other to)) (le-leb from other low) ∙ ap not (lt-ltb other to high)

  stays_far : (at other : ℕ) → partner whole at ≡ other → to ≤ other → u at ≡ true
  stays_far at other e h =
      ap (λ n. not (nat_le from n && nat_lt n to)) e ∙ ap not (and_right (nat_le from other) (nat_lt other to) (Rattle.std.proofs.lemmas.Bool.false_from_ne_true (nat_lt other to) (λ g. let l = Rattle.std.proofs.lemmas.Bool.ltb-true other to g in omega arith)))

  stays_early : (at other : ℕ) → partner whole at ≡ other → other < from → u at ≡ true
  stays_early at other e h =
      ap (λ n. not (nat_le from n && nat_lt n to)) e ∙ ap not (and_left (nat_le from other) (nat_lt other to) (Rattle.std.proofs.lemmas.Bool.false_from_ne_true (nat_le from other) (λ g. let l = Rattle.std.proofs.lemmas.Bool.leb-true from other g in omega arith)))

  pub record At (items done : List PlainItem) (at : ℕ) (inner outer : List Open) (s t : State) : Type 0 where
    pub parts : whole ≡ done ++ (items ++ y ∷ rest)
    pub here : at ≡ length done
    pub ends : to ≡ at + length items
    pub low : from ≤ at
    pub opens : opens_after [] 0 done ≡ inner ++ outer
    pub range : InRange inner
    pub others : Outer (below inner (λ d. closes_in d items)) outer
    pub kinds : map (λ (n : Open). n.kind) (inner ++ outer) ≡ s.stack
    pub leads : after s items ≡ Ok t

  slice_at : (x : PlainItem) (items done : List PlainItem) (at : ℕ) → whole ≡ done ++ x ∷ items → at ≡ length done → slice_get whole at ≡ Some x
  slice_at x items done at e h = ap (λ n. slice_get whole n) h ∙ ap (λ v. slice_get v (length done)) e ∙ slice_get-at done x items

  partner_at : (x : PlainItem) (items done : List PlainItem) (at : ℕ) → whole ≡ done ++ x ∷ items → at ≡ length done → partner whole at ≡ partner_of (Some x) whole at
  partner_at x items done at e h = ap (λ v. partner_of v whole at) (slice_at x items done at e h)

  -- one item on
  further : (x : PlainItem) (items done : List PlainItem) (at : ℕ) (inner outer inner' outer' : List Open) (s t : State) (p : State) → At (x ∷ items) done at inner outer s t →
      step s x ≡ Ok p → after p items ≡ Ok t → opens_with x at (inner ++ outer) ≡ inner' ++ outer' → InRange inner' → Outer (below inner' (λ d. closes_in d items)) outer' →
      At items (done ++ x ∷ []) (at + 1) inner' outer' p t
  further x items done at inner outer inner' outer' s t p a g later o r others = record {
    parts = a.parts ∙ sym (snoc-append done x (items ++ y ∷ rest));
    here = (let e = a.here in omega (arith, length-append done (x ∷ [])));
    ends = (let e = a.ends in omega arith);
    low = (let l = a.low in omega arith);
    opens = opens_after-snoc done x [] 0 at (a.here ∙ sym (zero-add (length done))) ∙ ap (opens_with x at) a.opens ∙ o;
    range = r;
    others = others;
    kinds = ap (map (λ (n : Open). n.kind)) (sym o) ∙ kinds_after (x ∷ []) at (inner ++ outer) s p (ap (λ v. outcome_then 1 v (λ next. Ok next)) g) a.kinds;
    leads = later;
  }

  pub walk : (items done : List PlainItem) (at : ℕ) (inner outer : List Open) (s t : State) → At items done at inner outer s t → all_close (length inner) items ≡ true →
      Both u at items (stays (length inner) at items)
  walk [] done at inner outer s t a c = (refl, refl)
  walk (Char ch marks ∷ items) done at inner outer s t a c =
      let x = Char ch marks in
      let p = joined-ok 1 (step s x) (λ next. after next items) t a.leads in
      let low = a.low in
      let ends = a.ends in
      one_goes u at x items (stays (length inner) (at + 1) items) (goes_at at at (partner_at x (items ++ y ∷ rest) done at a.parts a.here) low (omega arith))
      (walk items (done ++ x ∷ []) (at + 1) inner outer p.0 t
      (further x items done at inner outer inner outer s t p.0 a p.1 p.2 refl a.range a.others) (all_close-Char (length inner) ch marks items c))
  walk (Opening kind head marks pre origin generated ∷ items) done at (n ∷ inner) outer s t a c =
      let x = Opening kind head marks pre origin generated in
      let yes_ = closes_first (suc (length inner)) items c in
      let p = joined-ok 1 (step s x) (λ next. after next items) t a.leads in
      let node : Open = record { kind = kind; from = at } in
      let low = a.low in
      let ends = a.ends in
      let near = closes_near 0 items (y ∷ rest) yes_ in
      let here = partner_at x (items ++ y ∷ rest) done at a.parts a.here
      ∙ ap (λ v. at + length_to_close 0 v) (ap (λ m. drop (suc m) whole) a.here ∙ ap (drop (suc (length done))) a.parts ∙ drop-past done x (items ++ y ∷ rest)) in
      let all = walk items (done ++ x ∷ []) (at + 1) (node ∷ (n ∷ inner)) outer p.0 t
      (further x items done at (n ∷ inner) outer (node ∷ (n ∷ inner)) outer s t p.0 a p.1 p.2 refl (low, omega arith, a.range) a.others) c in
      let r = one_goes u at x items (stays (suc (suc (length inner))) (at + 1) items) (goes_at at (at + length_to_close 0 (items ++ y ∷ rest)) here (omega arith) (omega arith)) all in
      subst (λ b. Both u at (x ∷ items) (if b then stays (suc (suc (length inner))) (at + 1) items else (record { place = at; item = x } ∷ stays (suc (length inner)) (at + 1) items))) (sym yes_) r
  walk (Opening kind head marks pre origin generated ∷ items) done at [] outer s t a c =
      let x = Opening kind head marks pre origin generated in
      let p = joined-ok 1 (step s x) (λ next. after next items) t a.leads in
      let node : Open = record { kind = kind; from = at } in
      let low = a.low in
      let ends = a.ends in
      let here = partner_at x (items ++ y ∷ rest) done at a.parts a.here
      ∙ ap (λ v. at + length_to_close 0 v) (ap (λ m. drop (suc m) whole) a.here ∙ ap (drop (suc (length done))) a.parts ∙ drop-past done x (items ++ y ∷ rest)) in
      let P : Bool → Type 0 = λ b. Both u at (x ∷ items) (if b then stays 1 (at + 1) items else (record { place = at; item = x } ∷ stays 0 (at + 1) items)) in
      elim (cases_Bool (closes_in 0 items)) [
        | inl yes_ ↦
            (let near = closes_near 0 items (y ∷ rest) yes_ in
            subst P (sym yes_)
            (one_goes u at x items (stays 1 (at + 1) items) (goes_at at (at + length_to_close 0 (items ++ y ∷ rest)) here (omega arith) (omega arith))
            (walk items (done ++ x ∷ []) (at + 1) (node ∷ []) outer p.0 t
            (further x items done at [] outer (node ∷ []) outer s t p.0 a p.1 p.2 refl (low, omega arith, tt) a.others) yes_)))
        | inr no_ ↦
            (let far = closes_far 0 items y rest no_ in
            subst P (sym no_)
            (one_stays u at x items (stays 0 (at + 1) items) (stays_far at (at + length_to_close 0 (items ++ y ∷ rest)) here (omega arith))
            (walk items (done ++ x ∷ []) (at + 1) [] (node ∷ outer) p.0 t
            (further x items done at [] outer [] (node ∷ outer) s t p.0 a p.1 p.2 refl tt (inr no_, a.others)) refl)))
      ]
  walk (Closing kind pre ∷ items) done at (n ∷ inner) outer s t a c =
      let x = Closing kind pre in
      let p = joined-ok 1 (step s x) (λ next. after next items) t a.leads in
      let here : partner whole at ≡ n.from = partner_at x (items ++ y ∷ rest) done at a.parts a.here
      ∙ ap (λ v. first_from (opens_after [] 0 v)) (ap (λ m. take m whole) a.here ∙ ap (take (length done)) a.parts ∙ take-whole done (x ∷ (items ++ y ∷ rest)))
      ∙ ap first_from a.opens in
      let r = a.range in
      one_goes u at x items (stays (length inner) (at + 1) items) (goes_at at n.from here r.0 r.1)
      (walk items (done ++ x ∷ []) (at + 1) inner outer p.0 t
      (further x items done at (n ∷ inner) outer inner outer s t p.0 a p.1 p.2 refl r.2 a.others) (all_close-Closing (length inner) kind pre items c))
  walk (Closing kind pre ∷ items) done at [] (n ∷ outer) s t a c =
      let x = Closing kind pre in
      let p = joined-ok 1 (step s x) (λ next. after next items) t a.leads in
      let here : partner whole at ≡ n.from = partner_at x (items ++ y ∷ rest) done at a.parts a.here
      ∙ ap (λ v. first_from (opens_after [] 0 v)) (ap (λ m. take m whole) a.here ∙ ap (take (length done)) a.parts ∙ take-whole done (x ∷ (items ++ y ∷ rest)))
      ∙ ap first_from a.opens in
      let o = a.others in
      let early : n.from < from = elim (o.0) [ inl e ↦ e | inr no_ ↦ cc ] in
      one_stays u at x items (stays 0 (at + 1) items) (stays_early at n.from here early)
      (walk items (done ++ x ∷ []) (at + 1) [] outer p.0 t
      (further x items done at [] (n ∷ outer) [] outer s t p.0 a p.1 p.2 refl tt o.1) refl)
  walk (Closing kind pre ∷ items) done at [] [] s t a c =
      let x = Closing kind pre in
      let p = joined-ok 1 (step s x) (λ next. after next items) t a.leads in
      let b = (closed_before s.stack s.seen kind p.0 p.1).0 in
      let e : [] ≡ kind ∷ (p.0).stack = a.kinds ∙ b in
      absurd (cc)
