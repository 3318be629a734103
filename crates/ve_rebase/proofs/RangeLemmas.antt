-- Whether two transactions that joining has moved conflict: by their spans, and where both set
-- attributes by their operations.
use Rattle.std.proofs.Common.{◌≡◌, ◌≤◌, ◌<◌, ℕ, zero, suc, ◌+◌, ◌^◌, Bool, true, false, not, ◌&&◌, nat_le, if◌then◌else◌, List, [], ◌∷◌, ◌++◌, length, map, refl, sym, ap, ◌∙◌, arith}
use Rattle.std.proofs.lemmas.Bool.{and_parts, or_from, leb-true}
use Rattle.ve_base.specs.declared.value.Value.{Value}
use Rattle.model_change.specs.Attributes.{AttrChange}
use Rattle.model_change.specs.Transaction.{Transaction, is_reduced, is_normal}
use Rattle.model_change.specs.Transaction as model
use Rattle.model_change.specs.Fault.{placed_changes}
use Rattle.model_change.specs.Join.{first, without_first, without_end, last, core, reach, retained, with_ends, is_active, is_attribute_transaction, both_attributes, some_meet, meets_one, overlap, conflict, start_of, end_of}
use Rattle.model_change.proofs.JoinLemmas.{ends_split}
use Rattle.ve_tx.specs.declared.op.Op.{Op}
use Rattle.ve_tx.specs.declared.op.Op.TheVariants as op
use Rattle.ve_tx.specs.Normal.{total_size}
use Rattle.ve_tx.specs.Operation.{Operation, Retain, Replace, Attribute, bare, by_value}
use Rattle.ve_rebase.specs.declared.span.ActiveSpan.{ActiveSpan}
use Rattle.ve_rebase.specs.declared.shifted.Shifted.{Shifted}
use Rattle.ve_rebase.specs.Span.{span_of, meet}
use Rattle.ve_rebase.specs.Pair.{between}
use Rattle.ve_rebase.specs.Places.{places, after_first, AllFrom}
use Rattle.ve_rebase.specs.Shifted.{IsShifted, shifted_by_value}
use Rattle.ve_rebase.proofs.ReadLemmas.{total-within}
use Rattle.ve_rebase.proofs.PlaceLemmas.{all_unkept, some_unkept, places_by_value, meets_past, skip_one}
use Rattle.ve_rebase.proofs.PairLemmas.{attributes_are_active}

-- each change stands before a position
abbrev AllBefore : ℕ → List (ℕ × AttrChange) → Type 0
AllBefore n [] = Unit {0}
AllBefore n (c ∷ cs) = (c.0 < n) × AllBefore n cs

changes-from : (n at : ℕ) (ops : Transaction) → n ≤ at → AllFrom n (placed_changes at ops)
changes-from n at [] h = tt
changes-from n at (model.Retain count ∷ ops) h = changes-from n (at + count) ops (omega arith)
changes-from n at (model.Replace removed inserted ∷ ops) h = changes-from n (at + length removed) ops (omega arith)
changes-from n at (model.Attribute c ∷ ops) h = (h, changes-from n at ops h)

changes-before : (n at : ℕ) (ops : Transaction) → at + reach ops ≤ n → AllBefore n (placed_changes at ops)
changes-before n at [] h = tt
changes-before n at (model.Retain count ∷ ops) h = changes-before n (at + count) ops (omega arith)
changes-before n at (model.Replace removed inserted ∷ ops) h = changes-before n (at + length removed) ops (omega arith)
changes-before n at (model.Attribute c ∷ ops) h = (omega arith, changes-before n at ops (omega arith))

none_of_none : (cs : List (ℕ × AttrChange)) → some_meet cs [] ≡ false
none_of_none [] = refl
none_of_none (c ∷ cs) = none_of_none cs

first_before : (n : ℕ) (cs ds : List (ℕ × AttrChange)) → AllBefore n cs → AllFrom n ds → some_meet cs ds ≡ false
first_before n [] ds h k = refl
first_before n (c ∷ cs) ds h k = or_from (meets_one c ds) (some_meet cs ds) (meets_past n c ds k h.0) (first_before n cs ds h.1 k)

second_before : (n : ℕ) (cs ds : List (ℕ × AttrChange)) → AllFrom n cs → AllBefore n ds → some_meet cs ds ≡ false
second_before n cs [] h k = none_of_none cs
second_before n cs (d ∷ ds) h k = skip_one n cs d ds h k.0 ∙ second_before n cs ds h k.1

-- retains at both ends have no changes
changes-end : (at : ℕ) (ops : Transaction) → placed_changes at (without_end ops) ≡ placed_changes at ops
changes-end at [] = refl
changes-end at (model.Retain count ∷ []) = refl
changes-end at (model.Retain count ∷ (o ∷ ops)) = changes-end (at + count) (o ∷ ops)
changes-end at (model.Replace removed inserted ∷ ops) = changes-end (at + length removed) ops
changes-end at (model.Attribute c ∷ ops) = ap (λ cs. (at, c) ∷ cs) (changes-end at ops)

changes-more : (at n : ℕ) (ops : Transaction) → placed_changes at (ops ++ retained n) ≡ placed_changes at ops
changes-more at zero [] = refl
changes-more at (suc n) [] = refl
changes-more at n (model.Retain count ∷ ops) = changes-more (at + count) n ops
changes-more at n (model.Replace removed inserted ∷ ops) = changes-more (at + length removed) n ops
changes-more at n (model.Attribute c ∷ ops) = ap (λ cs. (at, c) ∷ cs) (changes-more at n ops)

changes-ends : (f l : ℕ) (ops : Transaction) → placed_changes 0 (with_ends f ops l) ≡ placed_changes f ops
changes-ends zero l ops = changes-more 0 l ops
changes-ends (suc f) l ops = let e : 0 + suc f ≡ suc f = omega arith in changes-more (0 + suc f) l ops ∙ ap (λ n. placed_changes n ops) e

-- attributes that lie apart don't meet
by_order : (a b : Transaction) (left right : Bool) → is_reduced a ≡ true → is_reduced b ≡ true → nat_le (end_of a) (start_of b) ≡ left → nat_le (end_of b) (start_of a) ≡ right →
    not left && not right ≡ false → some_meet (placed_changes 0 a) (placed_changes 0 b) ≡ false
by_order a b left right h k e f apart =
    let x : placed_changes 0 a ≡ placed_changes (first a) (core a) = ap (placed_changes 0) (sym (ends_split a h)) ∙ changes-ends (first a) (last a) (core a) in
    let y : placed_changes 0 b ≡ placed_changes (first b) (core b) = ap (placed_changes 0) (sym (ends_split b k)) ∙ changes-ends (first b) (last b) (core b) in
    ap (λ cs. some_meet cs (placed_changes 0 b)) x ∙ (ap (λ ds. some_meet (placed_changes (first a) (core a)) ds) y ∙ cut left right e f apart)
  where
    cut : (left right : Bool) → nat_le (end_of a) (start_of b) ≡ left → nat_le (end_of b) (start_of a) ≡ right → not left && not right ≡ false →
        some_meet (placed_changes (first a) (core a)) (placed_changes (first b) (core b)) ≡ false
    cut true right e f apart =
        first_before (first b) (placed_changes (first a) (core a)) (placed_changes (first b) (core b))
        (changes-before (first b) (first a) (core a) (leb-true (first a + reach (core a)) (first b) e)) (changes-from (first b) (first b) (core b) (omega arith))
    cut false true e f apart =
        second_before (first a) (placed_changes (first a) (core a)) (placed_changes (first b) (core b))
        (changes-from (first a) (first a) (core a) (omega arith)) (changes-before (first a) (first b) (core b) (leb-true (first b + reach (core b)) (first a) f))
    cut false false e f apart = absurd (cc)

both_apart : (a b : Transaction) (act act_too : Bool) → is_active a ≡ act → is_active b ≡ act_too → is_active a ≡ true → is_active b ≡ true →
    (act && act_too) && (not (nat_le (end_of a) (start_of b)) && not (nat_le (end_of b) (start_of a))) ≡ false →
    not (nat_le (end_of a) (start_of b)) && not (nat_le (end_of b) (start_of a)) ≡ false
both_apart a b true true e f active active_too h = h
both_apart a b false act_too e f active active_too h = absurd (cc)
both_apart a b true false e f active active_too h = absurd (cc)

-- what lies apart does not conflict
by_kind : (a b : Transaction) (both : Bool) → both_attributes a b ≡ both → is_reduced a ≡ true → is_reduced b ≡ true → overlap a b ≡ false →
    (if both then some_meet (placed_changes 0 a) (placed_changes 0 b) else overlap a b) ≡ false
by_kind a b false e h k apart = apart
by_kind a b true e h k apart =
    let p = and_parts (is_attribute_transaction a) (is_attribute_transaction b) e in
    by_order a b (nat_le (end_of a) (start_of b)) (nat_le (end_of b) (start_of a)) h k refl refl
    (both_apart a b (is_active a) (is_active b) refl refl (attributes_are_active a p.0) (attributes_are_active b p.1) apart)

pub apart_conflict : (a b : Shifted) → IsShifted a → IsShifted b → meet a.span b.span ≡ false →
    (values others : List Value) → conflict (shifted_by_value values a) (shifted_by_value others b) ≡ false
apart_conflict a b h k apart values others =
    let x = shifted_by_value values a in
    let y = shifted_by_value others b in
    let s = h.stands values in
    let r = k.stands others in
    by_kind x y (both_attributes x y) refl s.reduced r.reduced (ap (λ p. meet p (span_of y)) s.span ∙ (ap (λ q. meet a.span q) r.span ∙ apart))

pub overlap_conflict : (a b : Shifted) (both : Bool) → IsShifted a → IsShifted b → meet a.span b.span ≡ true → both ≡ (a.span.attributes && b.span.attributes) → both ≡ false →
    (values others : List Value) → conflict (shifted_by_value values a) (shifted_by_value others b) ≡ true
overlap_conflict a b both h k met is none values others =
    let x = shifted_by_value values a in
    let y = shifted_by_value others b in
    let s = h.stands values in
    let r = k.stands others in
    let e : both_attributes x y ≡ false = ap (λ p. p.attributes && (span_of y).attributes) s.span ∙ (ap (λ q. a.span.attributes && q.attributes) r.span ∙ (sym is ∙ none)) in
    ap (λ c. if c then some_meet (placed_changes 0 x) (placed_changes 0 y) else overlap x y) e
    ∙ (ap (λ p. meet p (span_of y)) s.span ∙ (ap (λ q. meet a.span q) r.span ∙ met))

-- the operations after the first retain, by value
abbrev rest : List Operation → List Operation
rest (Retain count ∷ tx) = tx
rest [] = []
rest (Replace removed inserted ∷ tx) = Replace removed inserted ∷ tx
rest (Attribute c ∷ tx) = Attribute c ∷ tx

rest_bare : (tx : List Operation) → after_first (map bare tx) ≡ map bare (rest tx)
rest_bare [] = refl
rest_bare (Retain count ∷ tx) = refl
rest_bare (Replace removed inserted ∷ tx) = refl
rest_bare (Attribute c ∷ tx) = refl

rest_by_value : (values : List Value) (tx : List Operation) → by_value values (rest tx) ≡ without_first (by_value values tx)
rest_by_value values [] = refl
rest_by_value values (Retain count ∷ tx) = refl
rest_by_value values (Replace removed inserted ∷ tx) = refl
rest_by_value values (Attribute c ∷ tx) = refl

-- the changes with their positions, as the moved transaction has them
moved_places : (values : List Value) (s : ActiveSpan) (tx : List Operation) (ops : List Op) → ops ≡ map bare tx →
    places s.first (after_first ops) ≡ all_unkept (placed_changes 0 (between s (by_value values tx)))
moved_places values s tx ops e =
    ap (λ l. places s.first (after_first l)) e
    ∙ (ap (places s.first) (rest_bare tx)
    ∙ (places_by_value values s.first (rest tx)
    ∙ (ap (λ t. all_unkept (placed_changes s.first t)) (rest_by_value values tx)
    ∙ (ap all_unkept (sym (changes-end s.first (without_first (by_value values tx))))
    ∙ ap all_unkept (sym (changes-ends s.first s.last (core (by_value values tx))))))))

pub attributes_conflict : (a b : Shifted) (both result : Bool) (ops others : List Op) → IsShifted a → IsShifted b → both ≡ (a.span.attributes && b.span.attributes) → both ≡ true →
    ops ≡ map bare a.tx.now → others ≡ map bare b.tx.now → result ≡ some_meet (places a.span.first (after_first ops)) (places b.span.first (after_first others)) →
    (values others : List Value) → result ≡ conflict (shifted_by_value values a) (shifted_by_value others b)
attributes_conflict a b both result ops others h k is some e f met values more =
    let x = shifted_by_value values a in
    let y = shifted_by_value more b in
    let s = h.stands values in
    let r = k.stands more in
    let g : both_attributes x y ≡ true = ap (λ p. p.attributes && (span_of y).attributes) s.span ∙ (ap (λ q. a.span.attributes && q.attributes) r.span ∙ (sym is ∙ some)) in
    met
    ∙ (ap (λ cs. some_meet cs (places b.span.first (after_first others))) (moved_places values a.span a.tx.now ops e)
    ∙ (ap (λ ds. some_meet (all_unkept (placed_changes 0 x)) ds) (moved_places more b.span b.tx.now others f)
    ∙ (some_unkept (placed_changes 0 x) (placed_changes 0 y)
    ∙ sym (ap (λ c. if c then some_meet (placed_changes 0 x) (placed_changes 0 y) else overlap x y) g))))

-- they are few enough to pass
fewer : (ops : List Op) → total_size (after_first ops) ≤ total_size ops
fewer [] = omega arith
fewer (op.Retain count ∷ ops) = omega arith
fewer (op.Replace removed inserted ∷ ops) = omega arith
fewer (op.Attribute name from to ∷ ops) = omega arith

pub small_rest : (one : Shifted) (ops : List Op) → IsShifted one → ops ≡ map bare one.tx.now → is_normal (by_value [] one.tx.now) ≡ true →
    one.span.first + total_size (after_first ops) ≤ 2 ^ 62
small_rest one ops h e normal =
    let w = total-within one.tx.now normal in
    let same : total_size ops ≡ total_size (map bare one.tx.now) = ap total_size e in
    let less = fewer ops in
    let o = h.fits.old in
    omega arith
