-- The run and its boundaries, by the values that items cite.
use Rattle.std.specs.Prelude.{encode_utf8_all, find, option_map, slice_get}
use Rattle.std.proofs.Common.{◌≡◌, ℕ, zero, suc, ◌+◌, ◌-◌, ◌<◌, ◌≤◌, Bool, true, false, cond, nat_lt, List, [], ◌∷◌, ◌++◌, length, take, drop, reverse, Option, Some, None, Ok, refl, sym, ap, ◌∙◌, subst, arith, take-append-drop, length-drop}
use Rattle.std.proofs.lemmas.Bool.{ltb-true}
use Rattle.std.proofs.lemmas.Grind.{reverse_onto}
use Rattle.std.proofs.lemmas.List.{length-map, length-reverse, take-map, drop-map, map-append}
use Rattle.ve_base.specs.declared.value.Value.{Value}
use Rattle.std.proofs.lemmas.Option.{slice_get-map}
use Rattle.ve_base.specs.declared.value.ValueId.{ValueId}
use Rattle.ve_kinds.specs.declared.kind.Kind.{Kind}
use Rattle.model_items.specs.declared.item.Item.{Item}
use Rattle.model_items.specs.declared.item.Item.TheVariants as item
use Rattle.model_items.specs.declared.plain_item.PlainItem.{PlainItem}
use Rattle.model_items.specs.declared.law_fault.LawFault.{LawFault}
use Rattle.model_items.specs.Law.{State, start, finish, step, after, Lawful}
use Rattle.model_items.specs.Plain.{plain, plain_list}
use Rattle.model_items.proofs.LawLemmas.{Ok-same, opened_before, joined-ok, after_parts, after_from_Lawful}
use Rattle.model_edit.specs.declared.selection.By.{By}
use Rattle.model_edit.specs.declared.selection.Dir.TheVariants.{Back, Ahead}
use Rattle.model_edit.specs.Next.{first_run, run_before, run_from, boundary_at, cutting, first_above, last_below, next, next_ahead, next_back}
use Rattle.ve_select.specs.Passing.{cuts}
use Rattle.ve_select.specs.Runs.{first_chars, chars_back, chars_from}
use Rattle.ve_select.proofs.RunLemmas.{at_place, run_round, chars_back-within}

first_run-plain : (values : List Value) (items : List Item) → first_run (plain_list values items) ≡ first_chars items
first_run-plain values [] = refl
first_run-plain values (item.Char ch marks ∷ items) = ap (λ cs. ch ∷ cs) (first_run-plain values items)
first_run-plain values (item.Opening kind generated head marks pre origin ∷ items) = refl
first_run-plain values (item.Closing kind pre ∷ items) = refl

reverse-plain : (values : List Value) (items : List Item) → reverse (plain_list values items) ≡ plain_list values (reverse items)
reverse-plain values [] = refl
reverse-plain values (x ∷ items) =
    reverse_onto (plain_list values items) (plain values x) []
    ∙ ap (λ v. v ++ plain values x ∷ []) (reverse-plain values items)
    ∙ sym (map-append (plain values) (reverse items) (x ∷ []))
    ∙ ap (plain_list values) (sym (reverse_onto items x []))

before-plain : (values : List Value) (items : List Item) (at : ℕ) → run_before (plain_list values items) at ≡ reverse (chars_back items at)
before-plain values items at =
    ap (λ v. reverse (first_run (reverse v))) (take-map (plain values) at items)
    ∙ ap (λ v. reverse (first_run v)) (reverse-plain values (take at items))
    ∙ ap reverse (first_run-plain values (reverse (take at items)))

from-plain : (values : List Value) (items : List Item) (at : ℕ) → run_from (plain_list values items) at ≡ chars_from items at
from-plain values items at = ap first_run (drop-map (plain values) at items) ∙ first_run-plain values (drop at items)

-- what is read of the list: where the run begins, and its text
pub record IsRunAt (items : List Item) (at start : ℕ) (bytes : List ℕ) : Type 0 where
  pub within : at ≤ length items
  pub begins : start ≡ at - length (chars_back items at)
  pub text : bytes ≡ encode_utf8_all (chars_from items start)

module _ (values : List Value) (by : By) (items : List Item) (at start : ℕ) (bytes : List ℕ) (h : IsRunAt items at start bytes) where
  prefix_long : length (run_before (plain_list values items) at) ≡ length (chars_back items at)
  prefix_long = ap length (before-plain values items at) ∙ length-reverse (chars_back items at)

  start_is : start ≡ at - length (run_before (plain_list values items) at)
  start_is = h.begins ∙ ap (λ n. at - n) (sym prefix_long)

  bound_is : at - start ≡ length (run_before (plain_list values items) at)
  bound_is =
      let within = chars_back-within items at h.within in
      let long = prefix_long in
      let begins = h.begins in
      omega arith

  bytes_are : bytes ≡ encode_utf8_all (run_before (plain_list values items) at ++ run_from (plain_list values items) at)
  bytes_are =
      h.text ∙ ap (λ n. encode_utf8_all (chars_from items n)) h.begins ∙ ap encode_utf8_all (run_round items at h.within)
      ∙ ap (λ v. encode_utf8_all (v ++ chars_from items at)) (sym (before-plain values items at))
      ∙ ap (λ v. encode_utf8_all (run_before (plain_list values items) at ++ v)) (sym (from-plain values items at))

  pub ahead_is : option_map (λ n. start + n) (first_above (at - start) (cuts (cutting by bytes))) ≡ boundary_at Ahead (cutting by) (plain_list values items) at
  ahead_is =
      ap (λ k. option_map (λ n. k + n) (first_above (at - start) (cuts (cutting by bytes)))) start_is
      ∙ ap (λ k. option_map (λ n. at - length (run_before (plain_list values items) at) + n) (first_above k (cuts (cutting by bytes)))) bound_is
      ∙ ap (λ b. option_map (λ n. at - length (run_before (plain_list values items) at) + n)
      (first_above (length (run_before (plain_list values items) at)) (cuts (cutting by b)))) bytes_are

  pub back_is : option_map (λ n. start + n) (last_below (at - start) (cuts (cutting by bytes))) ≡ boundary_at Back (cutting by) (plain_list values items) at
  back_is =
      ap (λ k. option_map (λ n. k + n) (last_below (at - start) (cuts (cutting by bytes)))) start_is
      ∙ ap (λ k. option_map (λ n. at - length (run_before (plain_list values items) at) + n) (last_below k (cuts (cutting by bytes)))) bound_is
      ∙ ap (λ b. option_map (λ n. at - length (run_before (plain_list values items) at) + n)
      (last_below (length (run_before (plain_list values items) at)) (cuts (cutting by b)))) bytes_are

-- a boundary below a bound is less
found : (test : ℕ → Bool) (xs : List ℕ) (n : ℕ) → find test xs ≡ Some n → test n ≡ true
found test [] n h = cc
found test (x ∷ xs) n h = by_test (found test xs n) (test x) refl h
  where
    by_test : (find test xs ≡ Some n → test n ≡ true) → (b : Bool) → test x ≡ b → cond b (Some x) (find test xs) ≡ Some n → test n ≡ true
    by_test later true e h = let same : x ≡ n = cc in subst (λ k. test k ≡ true) same e
    by_test later false e h = later h

pub below_is_less : (bound n : ℕ) (places : List ℕ) → last_below bound places ≡ Some n → n < bound
below_is_less bound n places h = ltb-true n bound (found (λ n. nat_lt n bound) (reverse places) n h)

-- an opening of a lawful list is not its last item
pub opening_goes_on : (items : List PlainItem) (n : ℕ) (kind : Kind) (x : PlainItem) → Lawful items → slice_get items n ≡ Some x →
    ((s t : State) → step s x ≡ Ok t → kind ∷ s.stack ≡ t.stack) → suc n < length items
opening_goes_on items n kind x lawful h opens =
    let p = after_parts (take n items) (drop n items) start finish (ap (after start) (take-append-drop n items) ∙ after_from_Lawful items lawful) in
    let q = joined-ok 1 (step p.0 x) (λ next. after next (drop (suc n) items)) finish (ap (after p.0) (sym (at_place items n x h)) ∙ p.2) in
    by_rest p.0 q.0 (drop (suc n) items) (opens p.0 q.0 q.1) q.2 (length-drop (suc n) items)
  where
    by_rest : (s t : State) (rest : List PlainItem) → kind ∷ s.stack ≡ t.stack → after t rest ≡ Ok finish → length rest ≡ length items - suc n → suc n < length items
    by_rest s t [] stack e long =
        let over : t ≡ finish = Ok-same {E = LawFault} t finish e in
        absurd (let none : kind ∷ s.stack ≡ [] = stack ∙ ap (λ (v : State). v.stack) over in cc)
    by_rest s t (y ∷ rest) stack e long = omega arith

-- by the item beside the offset
none_at : {A : Type 0} (items : List A) (n : ℕ) → length items ≤ n → slice_get items n ≡ None
none_at [] n h = refl
none_at (x ∷ items) zero h = absurd (omega arith)
none_at (x ∷ items) (suc n) h = none_at items n (omega arith)

module _ (values : List Value) (items : List Item) (by : By) where
  read_at : (n : ℕ) (x y : Item) → slice_get items n ≡ Some x → x ≡ y → slice_get (plain_list values items) n ≡ Some (plain values y)
  read_at n x y e is = slice_get-map (plain values) items n ∙ ap (option_map (plain values)) (e ∙ ap (λ z. Some z) is)

  pub ahead_by : (at : ℕ) (x y : Item) → slice_get items at ≡ Some x → x ≡ y →
      next_ahead (Some (plain values y)) (cutting by) (plain_list values items) at ≡ next (plain_list values items) at Ahead by
  ahead_by at x y e is = ap (λ o. next_ahead o (cutting by) (plain_list values items) at) (sym (read_at at x y e is))

  pub back_by : (at : ℕ) (x y : Item) → slice_get items (at - 1) ≡ Some x → x ≡ y →
      next_back (Some (plain values y)) (cutting by) (plain_list values items) at ≡ next (plain_list values items) at Back by
  back_by at x y e is = ap (λ o. next_back o (cutting by) (plain_list values items) at) (sym (read_at (at - 1) x y e is))

  pub ahead_none : (at : ℕ) → length items ≤ at → None ≡ next (plain_list values items) at Ahead by
  ahead_none at h =
      ap (λ o. next_ahead o (cutting by) (plain_list values items) at)
      (sym (slice_get-map (plain values) items at ∙ ap (option_map (plain values)) (none_at items at h)))

  pub back_none : (at : ℕ) → length items ≤ at - 1 → None ≡ next (plain_list values items) at Back by
  back_none at h =
      ap (λ o. next_back o (cutting by) (plain_list values items) at)
      (sym (slice_get-map (plain values) items (at - 1) ∙ ap (option_map (plain values)) (none_at items (at - 1) h)))

-- after an opening of a lawful list another item comes
pub opening_within : (items : List Item) (n : ℕ) (x : Item) (kind : Kind) (generated : Bool) (head marks pre : Option ValueId) (origin : Option ℕ) →
    Lawful (plain_list [] items) → slice_get items n ≡ Some x → x ≡ item.Opening kind generated head marks pre origin → suc n < length items
opening_within items n x kind generated head marks pre origin lawful e is =
    let y = item.Opening kind generated head marks pre origin in
    let there = opening_goes_on (plain_list [] items) n kind (plain [] y) lawful
    (slice_get-map (plain []) items n ∙ ap (option_map (plain [])) (e ∙ ap (λ z. Some z) is))
    (λ s t stepped. (opened_before s t kind stepped).0) in
    subst (λ m. suc n < m) (length-map items (plain [])) there
