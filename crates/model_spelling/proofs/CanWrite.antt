-- Each forest that is spelled can be written canonically.
use Rattle.std.proofs.Common.{◌≡◌, ℕ, zero, suc, ◌-◌, ◌<◌, Bool, true, false, not, ◌&&◌, ◌||◌, if◌then◌else◌, List, [], ◌∷◌, ◌++◌, length, map, refl, ap, ◌∙◌, arith}
use Rattle.std.specs.Prelude.{◌==◌, nat_le}
use Rattle.std.proofs.lemmas.List.{length-map, length-append}
use Rattle.std.specs.List.{list_all}
use Rattle.model_spelling.specs.Grammar.{is_barred, is_attr_name, is_tag_name, is_run, is_text, is_verbatim, is_attr, has_name, are_distinct, are_attrs, is_start, name_same, begins_with, starts_reference, Attr, end_text, comment_close}
use Rattle.ve_kinds.specs.Tags.{is_void, is_raw}
use Rattle.model_spelling.specs.Forest.{Forest, Nothing, Text, Remark, Void, RawElement, Element, starts_with_text, is_forest}
use Rattle.model_spelling.specs.Written.{meanings, prefix_of, decoded_from, decoded}
use Rattle.model_spelling.specs.Canonical.{decoded_attr, decoded_forest, are_chars, is_some_chars, is_plain_attr, is_plain_start, is_plain}
use Rattle.model_spelling.proofs.AttrReading.{and_left, and_right}
use Rattle.model_spelling.proofs.Only.{and_both}
use Rattle.model_spelling.proofs.Back.{element_parts, raw_parts}

flip : (b : Bool) → b ≡ false → not b ≡ true
flip b e = rw e refl

abbrev Meanings : List (List ℕ × List ℕ) → Type 0
Meanings [] = Unit {0}
Meanings (m ∷ ms) = (are_chars m.1 ≡ true) × (0 < length m.1) × Meanings ms

meanings_are : Meanings meanings
unfolding is_barred
meanings_are = (refl, omega arith, (refl, omega arith, (refl, omega arith, (refl, omega arith, (refl, omega arith, (refl, omega arith, tt))))))

one_char : (b : ℕ) → not (is_barred b) ≡ true → are_chars (b ∷ []) ≡ true
one_char b e = and_both (not (is_barred b)) true e refl

choose : (m : List ℕ × List ℕ) (rest : List ℕ × List ℕ) (c : Bool) → (are_chars m.1 ≡ true) × (0 < length m.1) → (are_chars rest.1 ≡ true) × (0 < length rest.1) → (are_chars ((if c then m else rest).1) ≡ true) × (0 < length ((if c then m else rest).1))
choose m rest true e f = e
choose m rest false e f = f

prefix_chars : (ms : List (List ℕ × List ℕ)) (b : ℕ) (bs : List ℕ) → Meanings ms → not (is_barred b) ≡ true → (are_chars (prefix_of ms b bs).1 ≡ true) × (0 < length ((prefix_of ms b bs).1))
prefix_chars [] b bs m e = (one_char b e, omega arith)
prefix_chars (m ∷ ms) b bs (here, lt, later) e = choose m (prefix_of ms b bs) (begins_with m.0 (b ∷ bs)) (here, lt) (prefix_chars ms b bs later e)

pub chars_append : (xs ys : List ℕ) → are_chars xs ≡ true → are_chars ys ≡ true → are_chars (xs ++ ys) ≡ true
chars_append [] ys e f = f
chars_append (b ∷ xs) ys e f = and_both (not (is_barred b)) (are_chars (xs ++ ys)) (and_left (not (is_barred b)) (are_chars xs) e) (chars_append xs ys (and_right (not (is_barred b)) (are_chars xs) e) f)

decoded_chars : (skip : ℕ) (bs : List ℕ) → are_chars bs ≡ true → are_chars (decoded_from skip bs) ≡ true
unfolding decoded_from
decoded_chars skip [] e = refl
decoded_chars (suc skip) (b ∷ bs) e = decoded_chars skip bs (and_right (not (is_barred b)) (are_chars bs) e)
decoded_chars zero (b ∷ bs) e =
    chars_append ((prefix_of meanings b bs).1) (decoded_from (length ((prefix_of meanings b bs).0) - 1) bs) (prefix_chars meanings b bs meanings_are (and_left (not (is_barred b)) (are_chars bs) e)).0
    (decoded_chars (length ((prefix_of meanings b bs).0) - 1) bs (and_right (not (is_barred b)) (are_chars bs) e))

decoded_length : (b : ℕ) (bs : List ℕ) → not (is_barred b) ≡ true → 0 < length (decoded (b ∷ bs))
unfolding decoded_from
decoded_length b bs e = omega (arith, (prefix_chars meanings b bs meanings_are e).1, length-append ((prefix_of meanings b bs).1) (decoded_from (length ((prefix_of meanings b bs).0) - 1) bs))

pub run_chars : (stop : ℕ) (bs : List ℕ) → is_run stop bs ≡ true → are_chars bs ≡ true
run_chars stop [] e = refl
run_chars stop (b ∷ bs) e =
    let p1 = and_left (not (b == stop) && not (is_barred b) && (not (b == 38) || starts_reference (b ∷ bs))) (is_run stop bs) e in
    and_both (not (is_barred b)) (are_chars bs) (and_right (not (b == stop)) (not (is_barred b)) (and_left (not (b == stop) && not (is_barred b)) (not (b == 38) || starts_reference (b ∷ bs)) p1))
    (run_chars stop bs (and_right (not (b == stop) && not (is_barred b) && (not (b == 38) || starts_reference (b ∷ bs))) (is_run stop bs) e))

some_chars : (xs : List ℕ) → are_chars xs ≡ true → 0 < length xs → is_some_chars xs ≡ true
some_chars [] e lt = absurd (omega arith)
some_chars (b ∷ bs) e lt = e

text_chars : (text : List ℕ) → is_text text ≡ true → is_some_chars (decoded text) ≡ true
text_chars [] e = absurd cc
text_chars (b ∷ bs) e =
    let chars = run_chars 60 (b ∷ bs) e in
    some_chars (decoded (b ∷ bs)) (decoded_chars 0 (b ∷ bs) chars) (decoded_length b bs (and_left (not (is_barred b)) (are_chars bs) chars))

attr_plain : (a : Attr) → is_attr a ≡ true → is_plain_attr (decoded_attr a) ≡ true
attr_plain a e =
    let p = and_left (is_attr_name a.name && (a.quote == 34 || a.quote == 39)) (is_run a.quote a.value) e in
    let r = and_right (is_attr_name a.name && (a.quote == 34 || a.quote == 39)) (is_run a.quote a.value) e in
    and_both (is_attr_name a.name && are_chars (decoded a.value)) true (and_both (is_attr_name a.name) (are_chars (decoded a.value)) (and_left (is_attr_name a.name) (a.quote == 34 || a.quote == 39) p) (decoded_chars 0 a.value (run_chars a.quote a.value r))) refl

attrs_plain : (attrs : List Attr) → list_all is_attr attrs ≡ true → list_all is_plain_attr (map decoded_attr attrs) ≡ true
attrs_plain [] e = refl
attrs_plain (a ∷ attrs) e = and_both (is_plain_attr (decoded_attr a)) (list_all is_plain_attr (map decoded_attr attrs)) (attr_plain a (and_left (is_attr a) (list_all is_attr attrs) e)) (attrs_plain attrs (and_right (is_attr a) (list_all is_attr attrs) e))

has_decoded : (name : List ℕ) (attrs : List Attr) → has_name name (map decoded_attr attrs) ≡ has_name name attrs
has_decoded name [] = refl
has_decoded name (a ∷ attrs) = ap (λ (x : Bool). name_same a.name name || x) (has_decoded name attrs)

distinct_decoded : (attrs : List Attr) → are_distinct (map decoded_attr attrs) ≡ are_distinct attrs
distinct_decoded [] = refl
distinct_decoded (a ∷ attrs) = (λ i. not (has_decoded a.name attrs i) && distinct_decoded attrs i)

start_plain : (name : List ℕ) (attrs : List Attr) (slash : Bool) → is_start name attrs slash ≡ true → is_plain_start name (map decoded_attr attrs) ≡ true
start_plain name attrs slash e =
    let p = and_left (is_tag_name name && are_attrs attrs) (not slash || is_void name) e in
    let q = and_right (is_tag_name name) (are_attrs attrs) p in
    let q1 = and_left (list_all is_attr attrs && are_distinct attrs) (nat_le (length attrs) 256) q in
    let few : nat_le (length (map decoded_attr attrs)) 256 ≡ true = ap (λ (k : ℕ). nat_le k 256) (length-map attrs decoded_attr) ∙ and_right (list_all is_attr attrs && are_distinct attrs) (nat_le (length attrs) 256) q in
    and_both (is_tag_name name) (list_all is_plain_attr (map decoded_attr attrs) && are_distinct (map decoded_attr attrs) && nat_le (length (map decoded_attr attrs)) 256) (and_left (is_tag_name name) (are_attrs attrs) p)
    (and_both (list_all is_plain_attr (map decoded_attr attrs) && are_distinct (map decoded_attr attrs)) (nat_le (length (map decoded_attr attrs)) 256)
    (and_both (list_all is_plain_attr (map decoded_attr attrs)) (are_distinct (map decoded_attr attrs)) (attrs_plain attrs (and_left (list_all is_attr attrs) (are_distinct attrs) q1)) (distinct_decoded attrs ∙ and_right (list_all is_attr attrs) (are_distinct attrs) q1)) few)

text_first : (f : Forest) → starts_with_text (decoded_forest f) ≡ starts_with_text f
text_first Nothing = refl
text_first (Text text f) = refl
text_first (Remark text f) = refl
text_first (Void name attrs slash f) = refl
text_first (RawElement name attrs text f) = refl
text_first (Element name attrs children f) = refl

pub can_write : (f : Forest) (room : ℕ) → is_forest room f ≡ true → is_plain room (decoded_forest f) ≡ true
can_write Nothing room e = refl
can_write (Text text f) room e =
    let p = and_left (is_text text && not (starts_with_text f)) (is_forest room f) e in
    and_both (is_some_chars (decoded text) && not (starts_with_text (decoded_forest f))) (is_plain room (decoded_forest f))
    (and_both (is_some_chars (decoded text)) (not (starts_with_text (decoded_forest f))) (text_chars text (and_left (is_text text) (not (starts_with_text f)) p)) (ap not (text_first f) ∙ and_right (is_text text) (not (starts_with_text f)) p))
    (can_write f room (and_right (is_text text && not (starts_with_text f)) (is_forest room f) e))
can_write (Remark text f) room e = and_both (is_verbatim comment_close text) (is_plain room (decoded_forest f)) (and_left (is_verbatim comment_close text) (is_forest room f) e) (can_write f room (and_right (is_verbatim comment_close text) (is_forest room f) e))
can_write (Void name attrs slash f) zero e = absurd cc
can_write (Void name attrs slash f) (suc room) e =
    let p = and_left (is_void name && is_start name attrs slash) (is_forest (suc room) f) e in
    and_both (is_void name && is_plain_start name (map decoded_attr attrs) && true) (is_plain (suc room) (decoded_forest f))
    (and_both (is_void name && is_plain_start name (map decoded_attr attrs)) true (and_both (is_void name) (is_plain_start name (map decoded_attr attrs)) (and_left (is_void name) (is_start name attrs slash) p) (start_plain name attrs slash (and_right (is_void name) (is_start name attrs slash) p))) refl)
    (can_write f (suc room) (and_right (is_void name && is_start name attrs slash) (is_forest (suc room) f) e))
can_write (RawElement name attrs text f) zero e = absurd cc
can_write (RawElement name attrs text f) (suc room) e =
    let p = raw_parts room name attrs text f e in
    and_both (is_raw name && is_plain_start name (map decoded_attr attrs) && is_verbatim (end_text name) text) (is_plain (suc room) (decoded_forest f))
    (and_both (is_raw name && is_plain_start name (map decoded_attr attrs)) (is_verbatim (end_text name) text) (and_both (is_raw name) (is_plain_start name (map decoded_attr attrs)) p.raw (start_plain name attrs false p.start)) p.text_is)
    (can_write f (suc room) p.rest_is)
can_write (Element name attrs children f) zero e = absurd cc
can_write (Element name attrs children f) (suc room) e =
    let p = element_parts room name attrs children f e in
    and_both (not (is_void name) && not (is_raw name) && is_plain_start name (map decoded_attr attrs) && is_plain room (decoded_forest children)) (is_plain (suc room) (decoded_forest f))
    (and_both (not (is_void name) && not (is_raw name) && is_plain_start name (map decoded_attr attrs)) (is_plain room (decoded_forest children))
    (and_both (not (is_void name) && not (is_raw name)) (is_plain_start name (map decoded_attr attrs)) (and_both (not (is_void name)) (not (is_raw name)) (flip (is_void name) p.not_void) (flip (is_raw name) p.not_raw)) (start_plain name attrs false p.start)) (can_write children room p.children_are))
    (can_write f (suc room) p.rest_is)
