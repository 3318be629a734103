-- Attributes in slots, by the numbers of the slots.
use Rattle.std.proofs.Common.{◌≡◌, ◌<◌, ◌≤◌, ℕ, zero, suc, ◌+◌, ◌==◌, Bool, true, false, cond, if◌then◌else◌, List, [], ◌∷◌, ◌++◌, map, length, take, drop, get_or, slice_set, Contains, Option, Some, None, IsSome, option_map, unwrap_or, refl, sym, ap, ap₂, ◌∙◌, subst, subst₂, inl, inr, arith, eqb-true, eq-eqb, ne_eqb, add-zero, zero-add, get_or-set_same, get_or-set_other, length-set, length-append, take_all, String, BTreeMap, string_bytes, string_cmp}
use Rattle.std.specs.List.{AllByRecursion}
use Rattle.std.specs.Map.{lookup}
use Rattle.std.specs.BTreeMap.{is_at, insert_entry, get_by_text}
use Rattle.std.specs.Cmp.Lexicographic.{slice_cmp}
use Rattle.std.specs.Ordering.{nat_cmp, is_eq, match_ordering}
use Rattle.std.specs.declared.cmp.Ordering.{Ordering}
use Rattle.std.specs.declared.cmp.Ordering.TheVariants.{Less, Equal, Greater}
use Rattle.std.proofs.lemmas.Cmp.{nat_list_cmp_total, tied_itself}
use Rattle.std.proofs.lemmas.Map.Lookups.{exact_bytes}
use Rattle.std.specs.Str.{chars, encode_utf8_all}
use Rattle.std.proofs.lemmas.Bool.{cases_Bool, or_from, or_parts}
use Rattle.std.proofs.lemmas.List.{get_or_append_left, get_or_at, get_or_read, drop_more}
use Rattle.ve_base.specs.declared.attrs.Attr.{Attr}
use Rattle.ve_base.specs.Names.{names, NamesApart}
use Rattle.model_items.specs.Same.{text_same}
use Rattle.model_items.proofs.SameLemmas.{Means-text_same}
use Rattle.model_change.specs.Attributes.{value_of, position_of, attr_added, attr_replaced, attr_removed}
use Rattle.ve_tx.specs.Order.{EachOnce, place_of, stands, without, counted}
use Rattle.ve_tx.specs.Many.{slot_at, ordered, Notes, IsIndexed}
use Rattle.ve_tx.proofs.OrderLemmas.{once_put, once_without}
use Rattle.ve_tx.proofs.NotedLemmas.{first_or_later, is_first, is_later}
use Rattle.ve_tx.proofs.AttrsLemmas.{apart-next}

-- ---- what holds of each number of an order

all_map : {P Q : ℕ → Type 0} (order : List ℕ) → ((n : ℕ) → P n → Q n) → AllByRecursion P order → AllByRecursion Q order
all_map [] f h = tt
all_map (n ∷ order) f h = (f n h.0, all_map order f h.1)

all_both : {P Q R : ℕ → Type 0} (order : List ℕ) → ((n : ℕ) → P n → Q n → R n) → AllByRecursion P order → AllByRecursion Q order → AllByRecursion R order
all_both [] f h k = tt
all_both (n ∷ order) f h k = (f n h.0 k.0, all_both order f h.1 k.1)

all-without : (P : ℕ → Type 0) (number : ℕ) (order : List ℕ) → AllByRecursion P order → AllByRecursion P (without number order)
all-without P number [] h = tt
all-without P number (n ∷ order) h = by (all-without P number order h.1) (n == number)
  where
    by : AllByRecursion P (without number order) → (b : Bool) → AllByRecursion P (if b then order else n ∷ without number order)
    by rest true = h.1
    by rest false = (h.0, rest)

all-put : (P : ℕ → Type 0) (at number : ℕ) (order : List ℕ) → P number → AllByRecursion P order → AllByRecursion P (take at order ++ number ∷ drop at order)
all-put P zero number order p h = (p, h)
all-put P (suc at) number [] p h = (p, h)
all-put P (suc at) number (n ∷ order) p h = (h.0, all-put P at number order p h.1)

-- a number that is beyond those of an order is new to it
new_number : (number : ℕ) (order : List ℕ) → AllByRecursion (λ n. n < number) order → stands number order ≡ false
new_number number [] h = refl
new_number number (n ∷ order) h =
    or_from (n == number) (stands number order) (ne_eqb n number (λ e. let below = h.0 in let none : ⊥ = omega (arith, e, below) in none)) (new_number number order h.1)

-- a number that doesn't stand in an order is none of it
all_others : (number : ℕ) (order : List ℕ) → stands number order ≡ false → AllByRecursion (λ other. (other == number) ≡ false) order
all_others number [] h = tt
all_others number (n ∷ order) h = let parts = or_parts (n == number) (stands number order) h in (parts.0, all_others number order parts.1)

pub not_there : (number : ℕ) (order : List ℕ) → AllByRecursion (λ n. n < number) order → ¬ Contains order number
not_there number [] h within = absurd (let below = within.1 in omega arith)
not_there number (n ∷ order) h within =
    elim (first_or_later n number order within) [
      | inl same ↦ absurd (let below = h.0 in let none : ⊥ = omega (arith, same, below) in none)
      | inr later ↦ not_there number order h.1 later
    ]

pub length-put : (at number : ℕ) (order : List ℕ) → length (take at order ++ number ∷ drop at order) ≡ suc (length order)
length-put zero number order = refl
length-put (suc at) number [] = refl
length-put (suc at) number (n ∷ order) = ap suc (length-put at number order)

-- ---- attributes by their numbers, where one number alone has the name

abbrev pub Tells : (ℕ → Attr) → List ℕ → ℕ → List ℕ → Type 0
Tells f name number order = AllByRecursion (λ n. text_same (f n).name name ≡ (n == number)) order

abbrev pub Absent : (ℕ → Attr) → List ℕ → List ℕ → Type 0
Absent f name order = AllByRecursion (λ n. text_same (f n).name name ≡ false) order

one_later : (place : Option ℕ) (count : ℕ) → suc (unwrap_or place count) ≡ unwrap_or (option_map suc place) (suc count)
one_later None count = refl
one_later (Some n) count = refl

position-told : (f : ℕ → Attr) (name : List ℕ) (number : ℕ) (order : List ℕ) → Tells f name number order → position_of name (map f order) ≡ unwrap_or (place_of number order) (length order)
position-told f name number [] h = refl
position-told f name number (n ∷ order) h = rw h.0 (by (position-told f name number order h.1) (n == number))
  where
    by : position_of name (map f order) ≡ unwrap_or (place_of number order) (length order) → (b : Bool) →
        (if b then 0 else suc (position_of name (map f order))) ≡ unwrap_or (if b then Some 0 else option_map suc (place_of number order)) (suc (length order))
    by rest true = refl
    by rest false = ap suc rest ∙ one_later (place_of number order) (length order)

position-absent : (f : ℕ → Attr) (name : List ℕ) (order : List ℕ) → Absent f name order → position_of name (map f order) ≡ length order
position-absent f name [] h = refl
position-absent f name (n ∷ order) h = rw h.0 (ap suc (position-absent f name order h.1))

removed-told : (f : ℕ → Attr) (name : List ℕ) (number : ℕ) (order : List ℕ) → Tells f name number order → attr_removed name (map f order) ≡ map f (without number order)
removed-told f name number [] h = refl
removed-told f name number (n ∷ order) h = rw h.0 (by (removed-told f name number order h.1) (n == number))
  where
    by : attr_removed name (map f order) ≡ map f (without number order) → (b : Bool) →
        (if b then map f order else f n ∷ attr_removed name (map f order)) ≡ map f (if b then order else n ∷ without number order)
    by rest true = refl
    by rest false = ap (λ l. f n ∷ l) rest

length-removed : (f : ℕ → Attr) (name : List ℕ) (number : ℕ) (order : List ℕ) → Tells f name number order → IsSome (value_of name (map f order)) → suc (length (without number order)) ≡ length order
length-removed f name number [] h some = cc
length-removed f name number (n ∷ order) h some = by (length-removed f name number order h.1) (text_same (f n).name name) (n == number) h.0 some
  where
    by : (IsSome (value_of name (map f order)) → suc (length (without number order)) ≡ length order) → (b c : Bool) → b ≡ c → IsSome (if b then Some (f n).value else value_of name (map f order)) →
        suc (length (if c then order else n ∷ without number order)) ≡ suc (length order)
    by rest true true e some = refl
    by rest true false e some = cc
    by rest false true e some = cc
    by rest false false e some = ap suc (rest some)

map_same : (f g : ℕ → Attr) (order : List ℕ) → AllByRecursion (λ n. g n ≡ f n) order → map f order ≡ map g order
map_same f g [] h = refl
map_same f g (n ∷ order) h = ap₂ (λ a l. a ∷ l) (sym h.0) (map_same f g order h.1)

replaced-told : (f g : ℕ → Attr) (name value : List ℕ) (number : ℕ) (order : List ℕ) → Tells f name number order → EachOnce order →
    ((n : ℕ) → (n == number) ≡ false → g n ≡ f n) → g number ≡ record { name = (f number).name; value = value } → attr_replaced name value (map f order) ≡ map g order
replaced-told f g name value number [] h apart others this = refl
replaced-told f g name value number (n ∷ order) h apart others this =
    rw h.0 (by (n == number) refl (replaced-told f g name value number order h.1 apart.1 others this))
  where
    by : (b : Bool) → (n == number) ≡ b → attr_replaced name value (map f order) ≡ map g order →
        (if b then record { name = (f n).name; value = value } ∷ map f order else f n ∷ attr_replaced name value (map f order)) ≡ g n ∷ map g order
    by true e rest =
        let same : n ≡ number = eqb-true n number e in
        let first : g n ≡ record { name = (f n).name; value = value } = subst (λ k. g k ≡ record { name = (f k).name; value = value }) (sym same) this in
        ap₂ (λ a l. a ∷ l) (sym first) (map_same f g order (all_map order (λ m differ. others m (subst (λ k. (m == k) ≡ false) same differ)) (all_others n order apart.0)))
    by false e rest = ap₂ (λ a l. a ∷ l) (sym (others n e)) rest

-- an attribute that is put in
added-at : (f : ℕ → Attr) (at number : ℕ) (order : List ℕ) → take at (map f order) ++ f number ∷ drop at (map f order) ≡ map f (take at order ++ number ∷ drop at order)
added-at f zero number order = refl
added-at f (suc at) number [] = refl
added-at f (suc at) number (n ∷ order) = ap (λ l. f n ∷ l) (added-at f at number order)

added-last : (f : ℕ → Attr) (number : ℕ) (order : List ℕ) → map f order ++ f number ∷ [] ≡ map f (take (length order) order ++ number ∷ drop (length order) order)
added-last f number [] = refl
added-last f number (n ∷ order) = ap (λ l. f n ∷ l) (added-last f number order)

pub added : (f : ℕ → Attr) (kept : Option ℕ) (number : ℕ) (order : List ℕ) →
    attr_added kept (f number) (map f order) ≡ map f (take (unwrap_or kept (length order)) order ++ number ∷ drop (unwrap_or kept (length order)) order)
added f None number order = added-last f number order
added f (Some at) number order = added-at f at number order

-- names that are absent
pub absent : (f : ℕ → Attr) (name : List ℕ) (order : List ℕ) → value_of name (map f order) ≡ None → Absent f name order
absent f name [] h = tt
absent f name (n ∷ order) h = by (absent f name order) (text_same (f n).name name) h
  where
    by : (value_of name (map f order) ≡ None → Absent f name order) → (b : Bool) → (if b then Some (f n).value else value_of name (map f order)) ≡ None → (b ≡ false) × Absent f name order
    by rest true h = cc
    by rest false h = (refl, rest h)

absent_from_names : (f : ℕ → Attr) (name : List ℕ) (order : List ℕ) → ¬ Contains (names (map f order)) name → Absent f name order
absent_from_names f name [] h = tt
absent_from_names f name (n ∷ order) h = (
  elim (cases_Bool (text_same (f n).name name)) [
    | inl same ↦ absurd (h (is_first (f n).name name (names (map f order)) (Means-text_same.equal (f n).name name same)))
    | inr other ↦ other
  ],
  absent_from_names f name order (λ there. h (is_later (f n).name name (names (map f order)) there)),
)

names_without : (f : ℕ → Attr) (name : List ℕ) (order : List ℕ) → Absent f name order → ¬ Contains (names (map f order)) name
names_without f name [] h within = absurd (let below = within.1 in omega arith)
names_without f name (n ∷ order) h within =
    elim (first_or_later (f n).name name (names (map f order)) within) [
      | inl first ↦ absurd (let same : text_same (f n).name name ≡ true = rw first (Means-text_same.itself name) in let differ = h.0 in cc)
      | inr later ↦ names_without f name order h.1 later
    ]

-- ---- what the map of names tells

module _ {slots : List Attr} {numbers : List ℕ → Option ℕ} {order : List ℕ} (indexed : IsIndexed slots numbers order) where
  abbrev at : ℕ → Attr
  at number = slot_at slots number

  tells : (name : List ℕ) (number : ℕ) → chars (encode_utf8_all name) ≡ name → numbers (encode_utf8_all name) ≡ Some number → Tells at name number order
  tells name number spelled found = all_map order one indexed.told
    where
      its_name : (at number).name ≡ name
      its_name = (indexed.known (encode_utf8_all name) number found).1 ∙ spelled

      one : (n : ℕ) → numbers (encode_utf8_all (at n).name) ≡ Some n → text_same (at n).name name ≡ (n == number)
      one n told =
          elim (cases_Bool (text_same (at n).name name)) [
            | inl same ↦
                let names_same : (at n).name ≡ name = Means-text_same.equal (at n).name name same in
                let numbers_same : Some n ≡ Some number = sym told ∙ ap (λ t. numbers (encode_utf8_all t)) names_same ∙ found in
                let is : n ≡ number = cc in
                same ∙ sym (eq-eqb n number is)
            | inr differ ↦ differ ∙ sym (ne_eqb n number (λ is.
                let same : text_same (at n).name name ≡ true = rw (ap (λ k. (at k).name) is ∙ its_name) (Means-text_same.itself name) in
                cc))
          ]

  missing : (name : List ℕ) → numbers (encode_utf8_all name) ≡ None → Absent at name order
  missing name none = all_map order one indexed.told
    where
      one : (n : ℕ) → numbers (encode_utf8_all (at n).name) ≡ Some n → text_same (at n).name name ≡ false
      one n told =
          elim (cases_Bool (text_same (at n).name name)) [
            | inl same ↦ absurd (
                let names_same : (at n).name ≡ name = Means-text_same.equal (at n).name name same in
                let both : Some n ≡ None = sym told ∙ ap (λ t. numbers (encode_utf8_all t)) names_same ∙ none in
                cc)
            | inr differ ↦ differ
          ]

  pub position-found : (name : List ℕ) (number : ℕ) → chars (encode_utf8_all name) ≡ name → numbers (encode_utf8_all name) ≡ Some number →
      unwrap_or (place_of number order) (length order) ≡ position_of name (ordered slots order)
  position-found name number spelled found = sym (position-told at name number order (tells name number spelled found))

  pub position-missing : (name : List ℕ) → numbers (encode_utf8_all name) ≡ None → length order ≡ position_of name (ordered slots order)
  position-missing name none = sym (position-absent at name order (missing name none))

  -- a name that is there is in the map
  pub is_found : (name : List ℕ) → IsSome (value_of name (ordered slots order)) → IsSome (numbers (encode_utf8_all name))
  is_found name some = by (numbers (encode_utf8_all name)) refl
    where
      none_of : (order : List ℕ) → Absent at name order → ¬ IsSome (value_of name (map at order))
      none_of [] h some = cc
      none_of (n ∷ order) h some = none_of order h.1 (rw h.0 at some)

      by : (o : Option ℕ) → numbers (encode_utf8_all name) ≡ o → IsSome o
      by None e = absurd (none_of order (missing name e) some)
      by (Some n) e = refl

  -- one that is taken out
  pub taken_out : (name : List ℕ) (number : ℕ) → chars (encode_utf8_all name) ≡ name → numbers (encode_utf8_all name) ≡ Some number →
      ordered slots (without number order) ≡ attr_removed name (ordered slots order)
  taken_out name number spelled found = sym (removed-told at name number order (tells name number spelled found))

  pub one_fewer : (name : List ℕ) (number : ℕ) → chars (encode_utf8_all name) ≡ name → numbers (encode_utf8_all name) ≡ Some number → IsSome (value_of name (ordered slots order)) →
      suc (length (without number order)) ≡ length order
  one_fewer name number spelled found some = length-removed at name number order (tells name number spelled found) some

-- ---- the map of names

abbrev at_key : {Z : Type 0} → List ℕ → String Z → Ordering
at_key bytes key = slice_cmp nat_cmp bytes (string_bytes key)

is_text : (xs ys : List ℕ) → is_eq (slice_cmp nat_cmp xs ys) ≡ text_same xs ys
is_text xs ys = by (slice_cmp nat_cmp xs ys) refl
  where
    differ : (o : Ordering) → slice_cmp nat_cmp xs ys ≡ o → (o ≡ Equal → ⊥) → false ≡ text_same xs ys
    differ o e other =
        elim (cases_Bool (text_same xs ys)) [
          | inl same ↦ absurd (other (sym e ∙ subst (λ l. slice_cmp nat_cmp xs l ≡ Equal) (Means-text_same.equal xs ys same) (tied_itself nat_list_cmp_total xs)))
          | inr not_same ↦ sym not_same
        ]

    by : (o : Ordering) → slice_cmp nat_cmp xs ys ≡ o → is_eq o ≡ text_same xs ys
    by Less e = differ Less e (λ h. cc)
    by Equal e = sym (subst (λ l. text_same xs l ≡ true) (exact_bytes xs ys e) (Means-text_same.itself xs))
    by Greater e = differ Greater e (λ h. cc)

twice : {X : Type 0} (b : Bool) (x y z : X) → cond b x z ≡ cond b x (cond b y z)
twice true x y z = refl
twice false x y z = refl

either_first : {X : Type 0} (a b : Bool) (x y z : X) → (a ≡ true → b ≡ true → ⊥) → cond a x (cond b y z) ≡ cond b y (cond a x z)
either_first true true x y z h = absurd (h refl refl)
either_first true false x y z h = refl
either_first false true x y z h = refl
either_first false false x y z h = refl

is_equal : (o : Ordering) → is_eq o ≡ true → o ≡ Equal
is_equal Less h = cc
is_equal Equal h = refl
is_equal Greater h = cc

lookup_inserted : {Z : Type 0} (bytes : List ℕ) (es : List (String Z × ℕ)) (key : String Z) (number : ℕ) →
    lookup (is_at (at_key bytes)) (insert_entry string_cmp es key number) ≡ cond (is_eq (at_key bytes key)) (Some number) (lookup (is_at (at_key bytes)) es)
lookup_inserted bytes [] key number = refl
lookup_inserted bytes (e ∷ es) key number = by (string_cmp key e.0) refl (lookup_inserted bytes es key number)
  where
    by : (o : Ordering) → string_cmp key e.0 ≡ o → lookup (is_at (at_key bytes)) (insert_entry string_cmp es key number) ≡ cond (is_eq (at_key bytes key)) (Some number) (lookup (is_at (at_key bytes)) es) →
        lookup (is_at (at_key bytes)) (match_ordering o ((key, number) ∷ e ∷ es) ((e.0, number) ∷ es) (e ∷ insert_entry string_cmp es key number))
        ≡ cond (is_eq (at_key bytes key)) (Some number) (cond (is_eq (at_key bytes e.0)) (Some e.1) (lookup (is_at (at_key bytes)) es))
    by Less is rest = refl
    by Equal is rest =
        let same : string_bytes key ≡ string_bytes e.0 = exact_bytes (string_bytes key) (string_bytes e.0) is in
        twice (is_eq (at_key bytes e.0)) (Some number) (Some e.1) (lookup (is_at (at_key bytes)) es)
        ∙ ap (λ l. cond (is_eq (slice_cmp nat_cmp bytes l)) (Some number) (cond (is_eq (at_key bytes e.0)) (Some e.1) (lookup (is_at (at_key bytes)) es))) (sym same)
    by Greater is rest =
        ap (cond (is_eq (at_key bytes e.0)) (Some e.1)) rest
        ∙ either_first (is_eq (at_key bytes e.0)) (is_eq (at_key bytes key)) (Some e.1) (Some number) (lookup (is_at (at_key bytes)) es) (λ here there.
        let one : bytes ≡ string_bytes e.0 = exact_bytes bytes (string_bytes e.0) (is_equal (at_key bytes e.0) here) in
        let other : bytes ≡ string_bytes key = exact_bytes bytes (string_bytes key) (is_equal (at_key bytes key) there) in
        let tied : slice_cmp nat_cmp (string_bytes key) (string_bytes e.0) ≡ Equal = subst (λ l. slice_cmp nat_cmp (string_bytes key) l ≡ Equal) (sym other ∙ one) (tied_itself nat_list_cmp_total (string_bytes key)) in
        let both : Greater ≡ Equal = sym is ∙ tied in
        cc)

pub inserted : {Z : Type 0} (before after : BTreeMap (String Z) ℕ) (key : String Z) (name : List ℕ) (number : ℕ) → string_bytes key ≡ name → after.entries ≡ insert_entry string_cmp before.entries key number →
    Notes (get_by_text before) name number (get_by_text after)
inserted before after key name number is entries bytes =
    ap (lookup (is_at (at_key bytes))) entries
    ∙ lookup_inserted bytes before.entries key number
    ∙ ap (λ b. cond b (Some number) (get_by_text before bytes)) (ap (λ l. is_eq (slice_cmp nat_cmp bytes l)) is ∙ is_text bytes name)

pub unchanged : {Z : Type 0} (before after : BTreeMap (String Z) ℕ) → after.entries ≡ before.entries → get_by_text after ≡ get_by_text before
unchanged before after e = ap (λ es bytes. lookup (is_at (at_key bytes)) es) e

pub none_under : {Z : Type 0} (numbers : BTreeMap (String Z) ℕ) → numbers.entries ≡ [] → (bytes : List ℕ) → get_by_text numbers bytes ≡ None
none_under numbers e bytes = ap (lookup (is_at (at_key bytes))) e

-- ---- what keeps it true

-- other values under the same names
renamed : (slots others : List Attr) (numbers : List ℕ → Option ℕ) (order : List ℕ) → length others ≡ length slots → ((n : ℕ) → (slot_at others n).name ≡ (slot_at slots n).name) →
    IsIndexed slots numbers order → IsIndexed others numbers order
renamed slots others numbers order long same i = record {
  within = all_map order (λ n below. omega (arith, long, below)) i.within;
  told = all_map order (λ n told. ap (λ t. numbers (encode_utf8_all t)) (same n) ∙ told) i.told;
  known = λ bytes n found. let k = i.known bytes n found in let below = k.0 in (omega (arith, long, below), same n ∙ k.1);
  once = i.once;
  few = let few = i.few in omega (arith, long, few);
}

-- an order without one of its numbers
pub fewer : (slots : List Attr) (numbers : List ℕ → Option ℕ) (order : List ℕ) (number : ℕ) → IsIndexed slots numbers order → IsIndexed slots numbers (without number order)
fewer slots numbers order number i = record {
  within = all-without _ number order i.within;
  told = all-without _ number order i.told;
  known = i.known;
  once = once_without number order i.once;
  few = let few = i.few in let less = no_more number order in omega (arith, few, less);
}
  where
    no_more : (number : ℕ) (order : List ℕ) → length (without number order) ≤ length order
    no_more number [] = omega arith
    no_more number (n ∷ order) = by (no_more number order) (n == number)
      where
        by : length (without number order) ≤ length order → (b : Bool) → length (if b then order else n ∷ without number order) ≤ suc (length order)
        by rest true = omega arith
        by rest false = omega (arith, rest)

-- no order at all
pub emptied : (slots : List Attr) (numbers : List ℕ → Option ℕ) (order : List ℕ) → IsIndexed slots numbers order → IsIndexed slots numbers []
emptied slots numbers order i = record { within = tt; told = tt; known = i.known; once = tt; few = omega arith }

-- one more slot
kept_slot : (slots : List Attr) (a : Attr) (n : ℕ) → n < length slots → slot_at (slots ++ a ∷ []) n ≡ slot_at slots n
kept_slot slots a n below = get_or_append_left slots (a ∷ []) (record { name = []; value = [] }) n below

pub last_slot : (slots : List Attr) (a : Attr) → slot_at (slots ++ a ∷ []) (length slots) ≡ a
last_slot slots a = get_or_at slots a [] (record { name = []; value = [] }) (length slots) refl

pub more_slots : (slots : List Attr) (a : Attr) (numbers : List ℕ → Option ℕ) (order : List ℕ) → IsIndexed slots numbers order → IsIndexed (slots ++ a ∷ []) numbers order
more_slots slots a numbers order i =
    let long : length (slots ++ a ∷ []) ≡ length slots + 1 = length-append slots (a ∷ []) in
    record {
      within = all_map order (λ n below. omega (arith, long, below)) i.within;
      told = all_both order (λ n below told. ap (λ (x : Attr). numbers (encode_utf8_all x.name)) (kept_slot slots a n below) ∙ told) i.within i.told;
      known = λ bytes n found. let k = i.known bytes n found in let below = k.0 in (omega (arith, long, below), ap (λ (x : Attr). x.name) (kept_slot slots a n below) ∙ k.1);
      once = i.once;
      few = let few = i.few in omega (arith, long, few);
    }

pub same_attrs : (slots : List Attr) (a : Attr) (order : List ℕ) → AllByRecursion (λ n. n < length slots) order → ordered (slots ++ a ∷ []) order ≡ ordered slots order
same_attrs slots a order h = sym (map_same (slot_at slots) (slot_at (slots ++ a ∷ [])) order (all_map order (λ n below. kept_slot slots a n below) h))

-- one more name in the map
noted_one : (before after : List ℕ → Option ℕ) (name : List ℕ) (number : ℕ) → Notes before name number after → after name ≡ Some number
noted_one before after name number notes = notes name ∙ ap (λ b. if b then Some number else before name) (Means-text_same.itself name)

noted_other : (before after : List ℕ → Option ℕ) (name bytes : List ℕ) (number : ℕ) → Notes before name number after → text_same bytes name ≡ false → after bytes ≡ before bytes
noted_other before after name bytes number notes other = notes bytes ∙ ap (λ b. if b then Some number else before bytes) other

pub named : (slots : List Attr) (before after : List ℕ → Option ℕ) (order : List ℕ) (name : List ℕ) (number : ℕ) → IsIndexed slots before order → number < length slots → (slot_at slots number).name ≡ name →
    chars (encode_utf8_all name) ≡ name → Absent (slot_at slots) name order → Notes before (encode_utf8_all name) number after → IsIndexed slots after order
named slots before after order name number i below its spelled new notes = record {
  within = i.within;
  told = all_both order still new i.told;
  known = λ bytes n found. known bytes n found (text_same bytes (encode_utf8_all name)) refl;
  once = i.once;
  few = i.few;
}
  where
    still : (n : ℕ) → text_same (slot_at slots n).name name ≡ false → before (encode_utf8_all (slot_at slots n).name) ≡ Some n → after (encode_utf8_all (slot_at slots n).name) ≡ Some n
    still n differ told =
        elim (cases_Bool (text_same (encode_utf8_all (slot_at slots n).name) (encode_utf8_all name))) [
          | inl same ↦ absurd (
              let bytes : encode_utf8_all (slot_at slots n).name ≡ encode_utf8_all name = Means-text_same.equal (encode_utf8_all (slot_at slots n).name) (encode_utf8_all name) same in
              let names_same : (slot_at slots n).name ≡ name = (i.known (encode_utf8_all (slot_at slots n).name) n told).1 ∙ ap chars bytes ∙ spelled in
              let equal : text_same (slot_at slots n).name name ≡ true = rw names_same (Means-text_same.itself name) in
              cc)
          | inr other ↦ noted_other before after (encode_utf8_all name) (encode_utf8_all (slot_at slots n).name) number notes other ∙ told
        ]

    known : (bytes : List ℕ) (n : ℕ) → after bytes ≡ Some n → (b : Bool) → text_same bytes (encode_utf8_all name) ≡ b → (n < length slots) × ((slot_at slots n).name ≡ chars bytes)
    known bytes n found true e =
        let same : bytes ≡ encode_utf8_all name = Means-text_same.equal bytes (encode_utf8_all name) e in
        let both : Some number ≡ Some n = sym (noted_one before after (encode_utf8_all name) number notes) ∙ ap after (sym same) ∙ found in
        let is : number ≡ n = cc in
        (subst (λ k. k < length slots) is below, ap (λ k. (slot_at slots k).name) (sym is) ∙ its ∙ sym spelled ∙ ap chars (sym same))
    known bytes n found false e = i.known bytes n (sym (noted_other before after (encode_utf8_all name) bytes number notes e) ∙ found)

-- an attribute of a new name comes into a slot, and then its name into the map
pub slot_indexed : (slots after : List Attr) (a : Attr) (numbers : List ℕ → Option ℕ) (order : List ℕ) → after ≡ slots ++ a ∷ [] → IsIndexed slots numbers order → IsIndexed after numbers order
slot_indexed slots after a numbers order e i = subst (λ l. IsIndexed l numbers order) (sym e) (more_slots slots a numbers order i)

pub slot_attrs : (slots after : List Attr) (a : Attr) (numbers : List ℕ → Option ℕ) (order : List ℕ) → after ≡ slots ++ a ∷ [] → IsIndexed slots numbers order → ordered after order ≡ ordered slots order
slot_attrs slots after a numbers order e i = ap (λ l. ordered l order) e ∙ same_attrs slots a order i.within

pub slot_last : (slots after : List Attr) (a old : Attr) (number : ℕ) → after ≡ slots ++ a ∷ [] → number ≡ length slots → old ≡ get_or after number old → old ≡ a
slot_last slots after a old number e is here =
    let here' : old ≡ get_or (slots ++ a ∷ []) (length slots) old = subst₂ (λ (l : List Attr) (k : ℕ). old ≡ get_or l k old) e is here in
    here' ∙ get_or_at slots a [] old (length slots) refl

pub name_told : (slots : List Attr) (a old : Attr) (number : ℕ) (before numbers : List ℕ → Option ℕ) → old ≡ a → number ≡ length slots → Notes before (encode_utf8_all old.name) number numbers →
    numbers (encode_utf8_all a.name) ≡ Some (length slots)
name_told slots a old number before numbers same is notes =
    ap (λ (x : Attr). numbers (encode_utf8_all x.name)) (sym same) ∙ noted_one before numbers (encode_utf8_all old.name) number notes ∙ ap Some is

pub name_indexed : (slots after : List Attr) (a old : Attr) (number : ℕ) (before numbers : List ℕ → Option ℕ) (order : List ℕ) → after ≡ slots ++ a ∷ [] → number ≡ length slots → old ≡ a →
    chars (encode_utf8_all old.name) ≡ old.name → Notes before (encode_utf8_all old.name) number numbers → IsIndexed slots before order → value_of a.name (ordered slots order) ≡ None → IsIndexed after numbers order
name_indexed slots after a old number before numbers order e is same spelled notes i new =
    let new' : value_of old.name (ordered after order) ≡ None = ap₂ (λ (x : Attr) (l : List Attr). value_of x.name l) same (slot_attrs slots after a before order e i) ∙ new in
    let long : length after ≡ length slots + 1 = ap length e ∙ length-append slots (a ∷ []) in
    let its : slot_at after number ≡ old = ap₂ slot_at e is ∙ last_slot slots a ∙ sym same in
    named after before numbers order old.name number (slot_indexed slots after a before order e i) (omega (arith, long, is)) (ap (λ (x : Attr). x.name) its) spelled (absent (slot_at after) old.name order new') notes

-- one more number in the order
pub placed : (slots : List Attr) (numbers : List ℕ → Option ℕ) (order : List ℕ) (at number : ℕ) → IsIndexed slots numbers order → number < length slots → length order < length slots →
    AllByRecursion (λ n. n < number) order → numbers (encode_utf8_all (slot_at slots number).name) ≡ Some number → IsIndexed slots numbers (take at order ++ number ∷ drop at order)
placed slots numbers order at number i below room new told = record {
  within = all-put _ at number order below i.within;
  told = all-put _ at number order told i.told;
  known = i.known;
  once = once_put number order at i.once (new_number number order new);
  few = let long = length-put at number order in omega (arith, long, room);
}

-- the number of the slot that came comes into the order
pub put_indexed : (slots after : List Attr) (a : Attr) (before numbers : List ℕ → Option ℕ) (order : List ℕ) (at number : ℕ) → after ≡ slots ++ a ∷ [] → number ≡ length slots → IsIndexed slots before order →
    IsIndexed after numbers order → numbers (encode_utf8_all a.name) ≡ Some (length slots) → IsIndexed after numbers (take at order ++ number ∷ drop at order)
put_indexed slots after a before numbers order at number e is old i told =
    let long : length after ≡ length slots + 1 = ap length e ∙ length-append slots (a ∷ []) in
    let its : slot_at after number ≡ a = ap₂ slot_at e is ∙ last_slot slots a in
    let few = old.few in
    placed after numbers order at number i (omega (arith, long, is)) (omega (arith, few, long)) (subst (λ k. AllByRecursion (λ n. n < k) order) (sym is) old.within)
    (ap (λ (x : Attr). numbers (encode_utf8_all x.name)) its ∙ told ∙ ap Some (sym is))

pub put_attrs : (slots after : List Attr) (a : Attr) (order : List ℕ) (kept : Option ℕ) (count number : ℕ) → after ≡ slots ++ a ∷ [] → number ≡ length slots → count ≡ length order → ordered after order ≡ ordered slots order →
    ordered after (take (unwrap_or kept count) order ++ number ∷ drop (unwrap_or kept count) order) ≡ attr_added kept a (ordered slots order)
put_attrs slots after a order kept count number e is counts same =
    let its : slot_at after number ≡ a = ap₂ slot_at e is ∙ last_slot slots a in
    ap (λ n. ordered after (take (unwrap_or kept n) order ++ number ∷ drop (unwrap_or kept n) order)) counts
    ∙ sym (added (slot_at after) kept number order)
    ∙ ap₂ (attr_added kept) its same

-- another value in one slot
pub valued : (slots : List Attr) (numbers : List ℕ → Option ℕ) (order : List ℕ) (number : ℕ) (a : Attr) → number < length slots → a.name ≡ (slot_at slots number).name →
    IsIndexed slots numbers order → IsIndexed (slice_set slots number a) numbers order
valued slots numbers order number a below same i = renamed slots (slice_set slots number a) numbers order (length-set slots number a) named_same i
  where
    named_same : (n : ℕ) → (slot_at (slice_set slots number a) n).name ≡ (slot_at slots n).name
    named_same n = elim (cases_Bool (n == number)) [
      | inl is ↦
          let e : n ≡ number = eqb-true n number is in
          ap (λ k. (slot_at (slice_set slots number a) k).name) e ∙ ap (λ (x : Attr). x.name) (get_or-set_same slots number a (record { name = []; value = [] }) below) ∙ same ∙ ap (λ k. (slot_at slots k).name) (sym e)
      | inr other ↦
          ap (λ (x : Attr). x.name) (get_or-set_other slots number n a (record { name = []; value = [] }) (λ e. let same' = eq-eqb n number e in cc))
    ]

pub value_set : (slots : List Attr) (numbers : List ℕ → Option ℕ) (order : List ℕ) (name value : List ℕ) (number : ℕ) (old : Attr) → IsIndexed slots numbers order →
    chars (encode_utf8_all name) ≡ name → numbers (encode_utf8_all name) ≡ Some number → number < length slots → old ≡ slot_at slots number →
    ordered (slice_set slots number (record { name = old.name; value = value })) order ≡ attr_replaced name value (ordered slots order)
value_set slots numbers order name value number old i spelled found below is =
    let none : Attr = record { name = []; value = [] } in
    let a : Attr = record { name = old.name; value = value } in
    sym (replaced-told (slot_at slots) (slot_at (slice_set slots number a)) name value number order (tells i name number spelled found) i.once
    (λ n other. get_or-set_other slots number n a none (λ e. let same = eq-eqb n number e in cc))
    (get_or-set_same slots number a none below ∙ ap (λ (x : Attr). record { name = x.name; value = value }) is))

-- ---- the attributes of a list, each in its slot

counted_more : (from count : ℕ) → take count (counted from count) ++ (from + count) ∷ drop count (counted from count) ≡ counted from (suc count)
counted_more from zero = ap (λ n. n ∷ []) (add-zero from)
counted_more from (suc count) =
    let same : from + suc count ≡ suc from + count = omega arith in
    ap (λ l. from ∷ l) (ap (λ n. take count (counted (suc from) count) ++ n ∷ drop count (counted (suc from) count)) same ∙ counted_more (suc from) count)

pub length-counted : (from count : ℕ) → length (counted from count) ≡ count
length-counted from zero = refl
length-counted from (suc count) = ap suc (length-counted (suc from) count)

counted-below : (from count bound : ℕ) → from + count ≤ bound → AllByRecursion (λ n. n < bound) (counted from count)
counted-below from zero bound h = tt
counted-below from (suc count) bound h = (omega (arith, h), counted-below (suc from) count bound (omega (arith, h)))

counted_attrs : (slots : List Attr) (from count : ℕ) → from + count ≤ length slots → ordered slots (counted from count) ≡ take count (drop from slots)
counted_attrs slots from zero h = refl
counted_attrs slots from (suc count) h =
    let rest : drop from slots ≡ slot_at slots from ∷ drop (from + 1) slots = drop_more slots from (record { name = []; value = [] }) (omega (arith, h)) in
    let next : suc from ≡ from + 1 = omega arith in
    ap (λ l. slot_at slots from ∷ l) (counted_attrs slots (suc from) count (omega (arith, h)) ∙ ap (λ k. take count (drop k slots)) next) ∙ sym (ap (take (suc count)) rest)

pub none_indexed : (slots : List Attr) (numbers : List ℕ → Option ℕ) → ((bytes : List ℕ) → numbers bytes ≡ None) → IsIndexed slots numbers (counted 0 0)
none_indexed slots numbers none = record {
  within = tt;
  told = tt;
  known = λ bytes n found. absurd (let both = none bytes in cc);
  once = tt;
  few = omega arith;
}

pub next_indexed : (slots : List Attr) (before after : List ℕ → Option ℕ) (i : ℕ) (a : Attr) → NamesApart slots → i < length slots → a ≡ get_or slots i a → chars (encode_utf8_all a.name) ≡ a.name →
    IsIndexed slots before (counted 0 i) → Notes before (encode_utf8_all a.name) i after → IsIndexed slots after (counted 0 (i + 1))
next_indexed slots before after i a apart below here spelled so_far notes =
    let own : slot_at slots i ≡ a = sym (get_or_read slots i a below here (record { name = []; value = [] })) in
    let new : ¬ Contains (names (take i slots)) a.name = apart-next [] slots i a below here apart in
    let attrs : ordered slots (counted 0 i) ≡ take i slots = counted_attrs slots 0 i (omega (arith, below)) in
    let free : Absent (slot_at slots) a.name (counted 0 i) = absent_from_names (slot_at slots) a.name (counted 0 i) (subst (λ l. ¬ Contains (names l) a.name) (sym attrs) new) in
    let noted : IsIndexed slots after (counted 0 i) = named slots before after (counted 0 i) a.name i so_far below (ap (λ (x : Attr). x.name) own) spelled free notes in
    let told : after (encode_utf8_all (slot_at slots i).name) ≡ Some i = ap (λ (x : Attr). after (encode_utf8_all x.name)) own ∙ noted_one before after (encode_utf8_all a.name) i notes in
    let long = length-counted 0 i in
    let next : suc i ≡ i + 1 = omega arith in
    subst (λ n. IsIndexed slots after (counted 0 n)) next
    (subst (IsIndexed slots after) (ap (λ n. take i (counted 0 i) ++ n ∷ drop i (counted 0 i)) (sym (zero-add i)) ∙ counted_more 0 i)
    (placed slots after (counted 0 i) i i noted below (omega (arith, long, below)) (counted-below 0 i i (omega arith)) told))

pub whole_list : (slots : List Attr) → ordered slots (counted 0 (length slots)) ≡ slots
whole_list slots = counted_attrs slots 0 (length slots) (omega arith) ∙ take_all (length slots) slots (omega arith)
