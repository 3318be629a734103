-- Two lists of changes with their positions, in the order of the positions, meet where one pass
-- along both finds that they do.
use Rattle.std.proofs.Common.{◌≡◌, ◌≤◌, ◌<◌, ℕ, suc, ◌+◌, Bool, true, false, ◌&&◌, ◌||◌, nat_lt, if◌then◌else◌, List, [], ◌∷◌, length, map, drop, get_or, drop-cons, add-one, Option, refl, sym, ap, ◌∙◌, arith}
use Rattle.std.specs.Prelude.{◌==◌}
use Rattle.std.proofs.lemmas.Bool.{ne_eqb, eq-eqb, or_from, eqb-true, eqb-false, ltb-true, ltb-false}
use Rattle.std.proofs.lemmas.List.{length-map}
use Rattle.ve_base.specs.declared.value.Value.{Value}
use Rattle.model_items.specs.Plain.{plain}
use Rattle.model_items.specs.Same.{text_same}
use Rattle.model_change.specs.Attributes.{AttrChange, adds_or_removes, clash}
use Rattle.model_change.specs.Fault.{placed_changes}
use Rattle.model_change.specs.Join.{meets, meets_one, some_meet}
use Rattle.ve_tx.specs.declared.op.Op.{Op}
use Rattle.ve_tx.specs.declared.op.Op.TheVariants as op
use Rattle.ve_tx.specs.Normal.{size, total_size}
use Rattle.ve_tx.specs.Operation.{Operation, Retain, Replace, Attribute, bare, by_value}
use Rattle.ve_rebase.specs.Places.{passes, change_of, places, placed, meets_first, AllFrom}

pub from_places : (n at : ℕ) (ops : List Op) → n ≤ at → AllFrom n (places at ops)
from_places n at [] h = tt
from_places n at (op.Retain count ∷ ops) h = from_places n (at + count) ops (omega arith)
from_places n at (op.Replace removed inserted ∷ ops) h = from_places n (at + length removed) ops (omega arith)
from_places n at (op.Attribute name from to ∷ ops) h = (h, from_places n at ops h)

apart : (c d : ℕ × AttrChange) → (c.0 ≡ d.0 → ⊥) → meets c d ≡ false
apart c d h = let e : (c.0 == d.0) ≡ false = ne_eqb c.0 d.0 h in ap (λ b. b && clash c.1 d.1) e

pub skip_one : (n : ℕ) (cs : List (ℕ × AttrChange)) (d : ℕ × AttrChange) (ds : List (ℕ × AttrChange)) → AllFrom n cs → d.0 < n → some_meet cs (d ∷ ds) ≡ some_meet cs ds
skip_one n [] d ds h k = refl
skip_one n (c ∷ cs) d ds h k =
    let far : n ≤ c.0 = h.0 in
    let e : meets c d ≡ false = apart c d (λ same. omega arith) in
    ap (λ b. (b || meets_one c ds) || some_meet cs (d ∷ ds)) e ∙ ap (λ b. meets_one c ds || b) (skip_one n cs d ds h.1 k)

pub meets_past : (n : ℕ) (c : ℕ × AttrChange) (ds : List (ℕ × AttrChange)) → AllFrom n ds → c.0 < n → meets_one c ds ≡ false
meets_past n c [] h k = refl
meets_past n c (d ∷ ds) h k =
    let far : n ≤ d.0 = h.0 in
    or_from (meets c d) (meets_one c ds) (apart c d (λ same. omega arith)) (meets_past n c ds h.1 k)

-- what stands at a position

by_count : (at count : ℕ) (c : AttrChange) (ops : List Op) (some met : Bool) → nat_lt 0 count ≡ some → met ≡ meets_one (at, c) (places at ops) →
    (if some then false else met) ≡ meets_one (at, c) (places (at + count) ops)
by_count at count c ops true met e h =
    let past : 0 < count = ltb-true 0 count e in
    sym (meets_past (at + count) (at, c) (places (at + count) ops) (from_places (at + count) (at + count) ops (omega arith)) (omega arith))
by_count at count c ops false met e h =
    let here : count ≤ 0 = ltb-false 0 count e in
    let z : at ≡ at + count = omega arith in
    h ∙ ap (λ n. meets_one (at, c) (places n ops)) z

pub first_met : (at : ℕ) (name : List ℕ) (from to : Option (List ℕ)) (ops : List Op) →
    meets_first name (adds_or_removes (change_of name from to)) ops ≡ meets_one (at, change_of name from to) (places at ops)
first_met at name from to [] = refl
first_met at name from to (op.Retain count ∷ ops) =
    by_count at count (change_of name from to) ops (nat_lt 0 count) (meets_first name (adds_or_removes (change_of name from to)) ops) refl (first_met at name from to ops)
first_met at name from to (op.Replace removed inserted ∷ ops) =
    by_count at (length removed) (change_of name from to) ops (nat_lt 0 (length removed)) (meets_first name (adds_or_removes (change_of name from to)) ops) refl (first_met at name from to ops)
first_met at name from to (op.Attribute other old new ∷ ops) =
    let same : (at == at) ≡ true = eq-eqb at at refl in
    ap (λ b. (text_same name other || (adds_or_removes (change_of name from to) && adds_or_removes (change_of other old new))) || b) (first_met at name from to ops)
    ∙ ap (λ b. (b && clash (change_of name from to) (change_of other old new)) || meets_one (at, change_of name from to) (places at ops)) (sym same)

-- positions are not read

abbrev pub unkept : ℕ × AttrChange → ℕ × AttrChange
unkept (at, c) = (at, change_of c.name c.from c.to)

abbrev pub all_unkept : List (ℕ × AttrChange) → List (ℕ × AttrChange)
all_unkept [] = []
all_unkept (c ∷ cs) = unkept c ∷ all_unkept cs

one_unkept : (c : ℕ × AttrChange) (ds : List (ℕ × AttrChange)) → meets_one (unkept c) (all_unkept ds) ≡ meets_one c ds
one_unkept c [] = refl
one_unkept (p, c) ((q, d) ∷ ds) = ap (λ b. meets (p, c) (q, d) || b) (one_unkept (p, c) ds)

pub some_unkept : (cs ds : List (ℕ × AttrChange)) → some_meet (all_unkept cs) (all_unkept ds) ≡ some_meet cs ds
some_unkept [] ds = refl
some_unkept (c ∷ cs) ds = ap (λ b. b || some_meet (all_unkept cs) (all_unkept ds)) (one_unkept c ds) ∙ ap (λ b. meets_one c ds || b) (some_unkept cs ds)

pub places_by_value : (values : List Value) (at : ℕ) (tx : List Operation) → places at (map bare tx) ≡ all_unkept (placed_changes at (by_value values tx))
places_by_value values at [] = refl
places_by_value values at (Retain count ∷ tx) = places_by_value values (at + count) tx
places_by_value values at (Replace removed inserted ∷ tx) =
    places_by_value values (at + length removed) tx ∙ ap (λ n. all_unkept (placed_changes (at + n) (by_value values tx))) (sym (length-map removed (plain values)))
places_by_value values at (Attribute c ∷ tx) = ap (λ cs. unkept (at, c) ∷ cs) (places_by_value values at tx)

pub met_by_value : (values : List Value) (p q : ℕ) (a b : List Operation) →
    some_meet (places p (map bare a)) (places q (map bare b)) ≡ some_meet (placed_changes p (by_value values a)) (placed_changes q (by_value values b))
met_by_value values p q a b =
    ap (λ cs. some_meet cs (places q (map bare b))) (places_by_value values p a)
    ∙ (ap (λ ds. some_meet (all_unkept (placed_changes p (by_value values a))) ds) (places_by_value values q b)
    ∙ some_unkept (placed_changes p (by_value values a)) (placed_changes q (by_value values b)))

-- one more operation of the first list, and one that is passed in the second

pub places_next : (at : ℕ) (o : Op) (ops : List Op) → places at (o ∷ ops) ≡ placed at o (places (at + passes o) ops)
places_next at (op.Retain count) ops = refl
places_next at (op.Replace removed inserted) ops = refl
places_next at (op.Attribute name from to) ops = let z : at ≡ at + 0 = omega arith in ap (λ n. (at, change_of name from to) ∷ places n ops) z

pub passed_one : (n at : ℕ) (cs : List (ℕ × AttrChange)) (o : Op) (ops : List Op) → AllFrom n cs → at < n →
    some_meet cs (places at (o ∷ ops)) ≡ some_meet cs (places (at + passes o) ops)
passed_one n at cs (op.Retain count) ops h k = refl
passed_one n at cs (op.Replace removed inserted) ops h k = refl
passed_one n at cs (op.Attribute name from to) ops h k =
    let z : at ≡ at + 0 = omega arith in
    skip_one n cs (at, change_of name from to) (places at ops) h k ∙ ap (λ m. some_meet cs (places m ops)) z

at_index : (i : ℕ) (ops : List Op) (o : Op) → i < length ops → o ≡ get_or ops i o → drop i ops ≡ o ∷ drop (i + 1) ops
at_index i ops o within here =
    rw (add-one) (drop-cons ops i o within ∙ ap (λ x. x ∷ drop (suc i) ops) (sym here))

pub advance_next : (n at i : ℕ) (ops : List Op) (o : Op) (cs : List (ℕ × AttrChange)) → i < length ops → o ≡ get_or ops i o → AllFrom n cs → at < n →
    some_meet cs (places at (drop i ops)) ≡ some_meet cs (places (at + passes o) (drop (i + 1) ops))
advance_next n at i ops o cs within here h k = ap (λ x. some_meet cs (places at x)) (at_index i ops o within here) ∙ passed_one n at cs o (drop (i + 1) ops) h k

passes-size : (o : Op) → passes o ≤ size o
passes-size (op.Retain count) = omega arith
passes-size (op.Replace removed inserted) = omega arith
passes-size (op.Attribute name from to) = omega arith

pub room_next : (at i bound : ℕ) (ops : List Op) (o : Op) → i < length ops → o ≡ get_or ops i o → at + total_size (drop i ops) ≤ bound →
    at + passes o + total_size (drop (i + 1) ops) ≤ bound
room_next at i bound ops o within here h =
    let e : total_size (drop i ops) ≡ size o + total_size (drop (i + 1) ops) = ap total_size (at_index i ops o within here) in
    let p = passes-size o in
    omega arith

-- a change meets one of those from the cursor on

pub met_here : (at from_at : ℕ) (name : List ℕ) (from to : Option (List ℕ)) (ops : List Op) (here : Bool) → here ≡ (from_at == at) → (0 < length ops → at ≤ from_at) →
    (here && meets_first name (adds_or_removes (change_of name from to)) ops) ≡ meets_one (at, change_of name from to) (places from_at ops)
met_here at from_at name from to ops true e near =
    let same : from_at ≡ at = eqb-true from_at at (sym e) in
    first_met at name from to ops ∙ ap (λ n. meets_one (at, change_of name from to) (places n ops)) (sym same)
met_here at from_at name from to [] false e near = refl
met_here at from_at name from to (o ∷ ops) false e near =
    let within : at ≤ from_at = near (omega arith) in
    let other : from_at ≡ at → ⊥ = eqb-false from_at at (sym e) in
    let past : at < from_at = omega arith in
    sym (meets_past from_at (at, change_of name from to) (places from_at (o ∷ ops)) (from_places from_at from_at (o ∷ ops) (omega arith)) past)

pub pass_one : (at : ℕ) (name : List ℕ) (from to : Option (List ℕ)) (cs ds rest : List (ℕ × AttrChange)) (met : Bool) →
    some_meet ((at, change_of name from to) ∷ cs) ds ≡ some_meet ((at, change_of name from to) ∷ cs) rest → met ≡ meets_one (at, change_of name from to) rest →
    some_meet ((at, change_of name from to) ∷ cs) ds ≡ (met || some_meet cs rest)
pass_one at name from to cs ds rest met e m = e ∙ ap (λ b. b || some_meet cs rest) (sym m)

pub meets_next : (at i : ℕ) (ops : List Op) (o : Op) (ds rest : List (ℕ × AttrChange)) (met : Bool) → i < length ops → o ≡ get_or ops i o →
    ((cs : List (ℕ × AttrChange)) → AllFrom at cs → some_meet (placed at o cs) ds ≡ (met || some_meet cs rest)) →
    some_meet (places at (drop i ops)) ds ≡ (met || some_meet (places (at + passes o) (drop (i + 1) ops)) rest)
meets_next at i ops o ds rest met within here h =
    ap (λ x. some_meet (places at x) ds) (at_index i ops o within here)
    ∙ (ap (λ cs. some_meet cs ds) (places_next at o (drop (i + 1) ops))
    ∙ h (places (at + passes o) (drop (i + 1) ops)) (from_places at (at + passes o) (drop (i + 1) ops) (omega arith)))

pub same_op : (i : ℕ) (ops : List Op) (o o2 : Op) → i < length ops → o ≡ get_or ops i o → o2 ≡ get_or ops i o2 → o2 ≡ o
same_op i ops o o2 within here there =
    let e : (o2 ∷ drop (i + 1) ops) ≡ (o ∷ drop (i + 1) ops) = sym (at_index i ops o2 within there) ∙ at_index i ops o within here in
    cc
