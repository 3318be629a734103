-- Escaped text is decoded again, and is well spelled.
use Rattle.std.proofs.Common.{◌≡◌, ℕ, zero, suc, ◌-◌, ◌<◌, ◌≤◌, Bool, true, false, not, ◌&&◌, ◌||◌, if◌then◌else◌, List, [], ◌∷◌, ◌++◌, length, map, Some, refl, sym, ap, ◌∙◌, append_assoc, arith, inl, inr, eqb-true}
use Rattle.std.specs.Prelude.{◌==◌, codes, nat_eq, nat_le}
use Rattle.std.proofs.lemmas.List.{append-nil, length-map}
use Rattle.std.proofs.lemmas.Bool.{and_parts, cases_Bool}
use Rattle.std.proofs.lemmas.Grind.{common_steps}
use Rattle.std.specs.List.{list_all}
use Rattle.model_spelling.specs.Grammar.{is_barred, is_attr_name, is_tag_name, is_run, is_text, is_verbatim, is_attr, has_name, are_distinct, are_attrs, is_start, name_same, begins_with, starts_reference, Attr, end_text, comment_close}
use Rattle.ve_kinds.specs.Tags.{is_void, is_raw}
use Rattle.model_spelling.specs.Forest.{Forest, Nothing, Text, Remark, Void, RawElement, Element, starts_with_text, spelling, is_forest}
use Rattle.model_spelling.specs.Parsed.{forest_of}
use Rattle.model_spelling.specs.Written.{meanings, prefix_of, decoded_from, decoded, escaped_byte, escaped}
use Rattle.model_spelling.specs.Canonical.{decoded_attr, written_attr, decoded_forest, written, are_chars, is_some_chars, is_plain_attr, is_plain_start, is_plain}
use Rattle.model_spelling.proofs.AttrReading.{and_left, and_right}
use Rattle.model_spelling.proofs.TokenRuns.{not_false, reference_more}
use Rattle.model_spelling.proofs.Only.{and_both}
use Rattle.model_spelling.proofs.Back.{reads_back}

-- ---- a byte that is no `&` stands for itself

-- each reference begins with `&`
abbrev Ampersands : List (List ℕ × List ℕ) → Type 0
Ampersands [] = Unit {0}
Ampersands (m ∷ ms) = ((b : ℕ) (bs : List ℕ) → (b == 38) ≡ false → begins_with m.0 (b ∷ bs) ≡ false) × Ampersands ms

other_byte : (b : ℕ) (rest : Bool) → (b == 38) ≡ false → (nat_eq 38 b && rest) ≡ false
other_byte b rest h = grind (arith, common_steps)

meanings-Ampersands : Ampersands meanings
unfolding begins_with
meanings-Ampersands = (
  (λ b bs h. other_byte b _ h),
  (
    (λ b bs h. other_byte b _ h),
    (
      (λ b bs h. other_byte b _ h),
      ((λ b bs h. other_byte b _ h), ((λ b bs h. other_byte b _ h), ((λ b bs h. other_byte b _ h), tt))),
    ),
  ),
)

pub pick_false : {A : Type 0} (c : Bool) (x y : A) → c ≡ false → (if c then x else y) ≡ y
pick_false true x y e = cc
pick_false false x y e = refl

pub pick_true : {A : Type 0} (c : Bool) (x y : A) → c ≡ true → (if c then x else y) ≡ x
pick_true true x y e = refl
pick_true false x y e = cc

prefix-byte : (ms : List (List ℕ × List ℕ)) → Ampersands ms → (b : ℕ) (bs : List ℕ) → (b == 38) ≡ false → prefix_of ms b bs ≡ (b ∷ [], b ∷ [])
prefix-byte [] a b bs h = refl
prefix-byte (m ∷ ms) a b bs h = pick_false (begins_with m.0 (b ∷ bs)) m (prefix_of ms b bs) (a.0 b bs h) ∙ prefix-byte ms a.1 b bs h

pub decoded-byte : (b : ℕ) (t : List ℕ) → (b == 38) ≡ false → decoded_from 0 (b ∷ t) ≡ b ∷ decoded_from 0 t
unfolding decoded_from
decoded-byte b t h = ap (λ m. m.1 ++ decoded_from (length m.0 - 1) t) (prefix-byte meanings meanings-Ampersands b t h)

-- ---- each reference is decoded

pub decoded-amp : (t : List ℕ) → decoded_from 0 (codes "&amp;" ++ t) ≡ 38 ∷ decoded_from 0 t
unfolding decoded_from begins_with
decoded-amp t = refl

pub decoded-lt : (t : List ℕ) → decoded_from 0 (codes "&lt;" ++ t) ≡ 60 ∷ decoded_from 0 t
unfolding decoded_from begins_with
decoded-lt t = refl

decoded-gt : (t : List ℕ) → decoded_from 0 (codes "&gt;" ++ t) ≡ 62 ∷ decoded_from 0 t
unfolding decoded_from begins_with
decoded-gt t = refl

decoded-quot : (t : List ℕ) → decoded_from 0 (codes "&quot;" ++ t) ≡ 34 ∷ decoded_from 0 t
unfolding decoded_from begins_with
decoded-quot t = refl

decoded-nbsp : (t : List ℕ) → decoded_from 0 (codes "&nbsp;" ++ t) ≡ 194 ∷ 160 ∷ decoded_from 0 t
unfolding decoded_from begins_with
decoded-nbsp t = refl

pub is_byte : (a b : ℕ) → (a == b) ≡ true → b ≡ a
is_byte a b h = sym (eqb-true a b h)

-- a byte is decoded from its spelling
decoded-escaped_byte : (v : Bool) (b : ℕ) (t : List ℕ) → decoded_from 0 (escaped_byte v b ++ t) ≡ b ∷ decoded_from 0 t
decoded-escaped_byte v b t =
    elim (cases_Bool (b == 38)) [
      | inl e ↦ ap (λ s. decoded_from 0 (s ++ t)) (pick_true (b == 38) _ _ e) ∙ decoded-amp t ∙ ap (λ x. x ∷ decoded_from 0 t) (is_byte b 38 e)
      | inr n38 ↦ ap (λ s. decoded_from 0 (s ++ t)) (pick_false (b == 38) _ _ n38) ∙ elim (cases_Bool (b == 60)) [
        | inl e ↦ ap (λ s. decoded_from 0 (s ++ t)) (pick_true (b == 60) _ _ e) ∙ decoded-lt t ∙ ap (λ x. x ∷ decoded_from 0 t) (is_byte b 60 e)
        | inr n60 ↦ ap (λ s. decoded_from 0 (s ++ t)) (pick_false (b == 60) _ _ n60) ∙ elim (cases_Bool (b == 62)) [
          | inl e ↦ ap (λ s. decoded_from 0 (s ++ t)) (pick_true (b == 62) _ _ e) ∙ decoded-gt t ∙ ap (λ x. x ∷ decoded_from 0 t) (is_byte b 62 e)
          | inr n62 ↦ ap (λ s. decoded_from 0 (s ++ t)) (pick_false (b == 62) _ _ n62) ∙ elim (cases_Bool (v && b == 34)) [
            | inl e ↦ ap (λ s. decoded_from 0 (s ++ t)) (pick_true (v && b == 34) _ _ e) ∙ decoded-quot t ∙ ap (λ x. x ∷ decoded_from 0 t) (is_byte b 34 (and_parts v (b == 34) e).1)
            | inr n34 ↦ ap (λ s. decoded_from 0 (s ++ t)) (pick_false (v && b == 34) _ _ n34) ∙ decoded-byte b t n38
          ]
        ]
      ]
    ]

-- what is escaped is decoded again, whatever follows
pub decoded-escaped : (v : Bool) (bs t : List ℕ) → decoded_from 0 (escaped v bs ++ t) ≡ bs ++ decoded_from 0 t
unfolding escaped
decoded-escaped v [] t = refl
decoded-escaped v (b ∷ []) t = decoded-escaped_byte v b t
decoded-escaped v (b ∷ c ∷ bs) t =
    elim (cases_Bool (b == 194 && c == 160)) [
      | inl e ↦
          let p = and_parts (b == 194) (c == 160) e in
          ap (λ s. decoded_from 0 (s ++ t)) (pick_true (b == 194 && c == 160) _ _ e)
          ∙ decoded-nbsp (escaped v bs ++ t)
          ∙ ap (λ s. 194 ∷ 160 ∷ s) (decoded-escaped v bs t)
          ∙ (λ i. is_byte b 194 p.0 i ∷ is_byte c 160 p.1 i ∷ (bs ++ decoded_from 0 t))
      | inr n ↦
          ap (λ s. decoded_from 0 (s ++ t)) (pick_false (b == 194 && c == 160) _ _ n)
          ∙ ap (decoded_from 0) (append_assoc (escaped_byte v b) (escaped v (c ∷ bs)) t)
          ∙ decoded-escaped_byte v b (escaped v (c ∷ bs) ++ t)
          ∙ ap (λ s. b ∷ s) (decoded-escaped v (c ∷ bs) t)
    ]

pub decoded_back : (v : Bool) (bs : List ℕ) → decoded (escaped v bs) ≡ bs
unfolding decoded_from
decoded_back v bs = ap (decoded_from 0) (sym (append-nil (escaped v bs))) ∙ decoded-escaped v bs [] ∙ append-nil bs

-- ---- what is escaped is a run

or_more : (a b c : Bool) → (b ≡ true → c ≡ true) → (a || b) ≡ true → (a || c) ≡ true
or_more true b c h e = refl
or_more false b c h e = h e

run_append : (stop : ℕ) (xs ys : List ℕ) → is_run stop xs ≡ true → is_run stop ys ≡ true → is_run stop (xs ++ ys) ≡ true
run_append stop [] ys e f = f
run_append stop (b ∷ xs) ys e f =
    let p1 = and_left (not (b == stop) && not (is_barred b) && (not (b == 38) || starts_reference (b ∷ xs))) (is_run stop xs) e in
    let more = run_append stop xs ys (and_right (not (b == stop) && not (is_barred b) && (not (b == 38) || starts_reference (b ∷ xs))) (is_run stop xs) e) f in
    and_both (not (b == stop) && not (is_barred b) && (not (b == 38) || starts_reference (b ∷ (xs ++ ys)))) (is_run stop (xs ++ ys))
    (and_both (not (b == stop) && not (is_barred b)) (not (b == 38) || starts_reference (b ∷ (xs ++ ys))) (and_left (not (b == stop) && not (is_barred b)) (not (b == 38) || starts_reference (b ∷ xs)) p1)
    (or_more (not (b == 38)) (starts_reference (b ∷ xs)) (starts_reference (b ∷ (xs ++ ys))) (reference_more (b ∷ xs) ys) (and_right (not (b == stop) && not (is_barred b)) (not (b == 38) || starts_reference (b ∷ xs)) p1))) more

abbrev stop_of : Bool → ℕ
stop_of v = if v then 34 else 60

-- the references that the writer makes
amp_run : (v : Bool) → is_run (stop_of v) (codes "&amp;") ≡ true
unfolding is_barred starts_reference begins_with
amp_run true = refl
amp_run false = refl

lt_run : (v : Bool) → is_run (stop_of v) (codes "&lt;") ≡ true
unfolding is_barred starts_reference begins_with
lt_run true = refl
lt_run false = refl

gt_run : (v : Bool) → is_run (stop_of v) (codes "&gt;") ≡ true
unfolding is_barred starts_reference begins_with
gt_run true = refl
gt_run false = refl

quot_run : (v : Bool) → is_run (stop_of v) (codes "&quot;") ≡ true
unfolding is_barred starts_reference begins_with
quot_run true = refl
quot_run false = refl

nbsp_run : (v : Bool) → is_run (stop_of v) (codes "&nbsp;") ≡ true
unfolding is_barred starts_reference begins_with
nbsp_run true = refl
nbsp_run false = refl

no_stop : (v : Bool) (b : ℕ) → (b == 60) ≡ false → (v && b == 34) ≡ false → (b == stop_of v) ≡ false
no_stop true b n60 n34 = n34
no_stop false b n60 n34 = n60

one_run : (stop b : ℕ) → (b == stop) ≡ false → is_barred b ≡ false → (b == 38) ≡ false → is_run stop (b ∷ []) ≡ true
one_run stop b e f g = rw (e, f, g) refl

is_it : (stop : ℕ) (c : Bool) (x y : List ℕ) → (c ≡ true → is_run stop x ≡ true) → (c ≡ false → is_run stop y ≡ true) → is_run stop (if c then x else y) ≡ true
is_it stop true x y e f = e refl
is_it stop false x y e f = f refl

byte_run : (v : Bool) (b : ℕ) → is_barred b ≡ false → is_run (stop_of v) (escaped_byte v b) ≡ true
byte_run v b bar =
    is_it (stop_of v) (b == 38) (codes "&amp;") (if b == 60 then codes "&lt;" else if b == 62 then codes "&gt;" else if v && b == 34 then codes "&quot;" else b ∷ []) (λ e. amp_run v) (λ n38.
    is_it (stop_of v) (b == 60) (codes "&lt;") (if b == 62 then codes "&gt;" else if v && b == 34 then codes "&quot;" else b ∷ []) (λ e. lt_run v) (λ n60.
    is_it (stop_of v) (b == 62) (codes "&gt;") (if v && b == 34 then codes "&quot;" else b ∷ []) (λ e. gt_run v) (λ n62.
    is_it (stop_of v) (v && b == 34) (codes "&quot;") (b ∷ []) (λ e. quot_run v) (λ n34. one_run (stop_of v) b (no_stop v b n60 n34) bar n38))))

pub escaped_run : (v : Bool) (bs : List ℕ) → are_chars bs ≡ true → is_run (stop_of v) (escaped v bs) ≡ true
unfolding escaped
escaped_run v [] e = refl
escaped_run v (b ∷ []) e = byte_run v b (not_false (is_barred b) (and_left (not (is_barred b)) true e))
escaped_run v (b ∷ c ∷ bs) e =
    let bar = not_false (is_barred b) (and_left (not (is_barred b)) (are_chars (c ∷ bs)) e) in
    let later = and_right (not (is_barred b)) (are_chars (c ∷ bs)) e in
    is_it (stop_of v) (b == 194 && c == 160) (codes "&nbsp;" ++ escaped v bs) (escaped_byte v b ++ escaped v (c ∷ bs))
    (λ h. run_append (stop_of v) (codes "&nbsp;") (escaped v bs) (nbsp_run v) (escaped_run v bs (and_right (not (is_barred c)) (are_chars bs) later)))
    (λ h. run_append (stop_of v) (escaped_byte v b) (escaped v (c ∷ bs)) (byte_run v b bar) (escaped_run v (c ∷ bs) later))

-- what is escaped isn't empty
as_text : (xs : List ℕ) → is_run 60 xs ≡ true → 0 < length xs → is_text xs ≡ true
as_text [] e lt = absurd (omega arith)
as_text (b ∷ bs) e lt = e

back_some : (bs : List ℕ) (xs : List ℕ) → decoded xs ≡ bs → 0 < length bs → 0 < length xs
unfolding decoded_from
back_some bs [] e lt = absurd (omega (arith, ap length e))
back_some bs (x ∷ xs) e lt = omega arith

pub escaped_text : (bs : List ℕ) → is_some_chars bs ≡ true → is_text (escaped false bs) ≡ true
escaped_text [] e = absurd cc
escaped_text (b ∷ bs) e = as_text (escaped false (b ∷ bs)) (escaped_run false (b ∷ bs) e) (back_some (b ∷ bs) (escaped false (b ∷ bs)) (decoded_back false (b ∷ bs)) (omega arith))

-- ---- attributes

attr_written : (a : Attr) → is_plain_attr a ≡ true → is_attr (written_attr a) ≡ true
attr_written a e =
    let p = and_left (is_attr_name a.name && are_chars a.value) (a.quote == 34) e in
    and_both (is_attr_name a.name && (34 == 34 || 34 == 39)) (is_run 34 (escaped true a.value)) (and_both (is_attr_name a.name) (34 == 34 || 34 == 39) (and_left (is_attr_name a.name) (are_chars a.value) p) refl) (escaped_run true a.value (and_right (is_attr_name a.name) (are_chars a.value) p))

attrs_written : (attrs : List Attr) → list_all is_plain_attr attrs ≡ true → list_all is_attr (map written_attr attrs) ≡ true
attrs_written [] e = refl
attrs_written (a ∷ attrs) e = and_both (is_attr (written_attr a)) (list_all is_attr (map written_attr attrs)) (attr_written a (and_left (is_plain_attr a) (list_all is_plain_attr attrs) e)) (attrs_written attrs (and_right (is_plain_attr a) (list_all is_plain_attr attrs) e))

has_written : (name : List ℕ) (attrs : List Attr) → has_name name (map written_attr attrs) ≡ has_name name attrs
has_written name [] = refl
has_written name (a ∷ attrs) = ap (λ (x : Bool). name_same a.name name || x) (has_written name attrs)

distinct_written : (attrs : List Attr) → are_distinct (map written_attr attrs) ≡ are_distinct attrs
distinct_written [] = refl
distinct_written (a ∷ attrs) = (λ i. not (has_written a.name attrs i) && distinct_written attrs i)

start_written : (name : List ℕ) (attrs : List Attr) → is_plain_start name attrs ≡ true → is_start name (map written_attr attrs) false ≡ true
start_written name attrs e =
    let named = and_left (is_tag_name name) (list_all is_plain_attr attrs && are_distinct attrs && nat_le (length attrs) 256) e in
    let q = and_right (is_tag_name name) (list_all is_plain_attr attrs && are_distinct attrs && nat_le (length attrs) 256) e in
    let q1 = and_left (list_all is_plain_attr attrs && are_distinct attrs) (nat_le (length attrs) 256) q in
    let few : nat_le (length (map written_attr attrs)) 256 ≡ true = ap (λ (k : ℕ). nat_le k 256) (length-map attrs written_attr) ∙ and_right (list_all is_plain_attr attrs && are_distinct attrs) (nat_le (length attrs) 256) q in
    let fit : are_attrs (map written_attr attrs) ≡ true = and_both (list_all is_attr (map written_attr attrs) && are_distinct (map written_attr attrs)) (nat_le (length (map written_attr attrs)) 256)
    (and_both (list_all is_attr (map written_attr attrs)) (are_distinct (map written_attr attrs)) (attrs_written attrs (and_left (list_all is_plain_attr attrs) (are_distinct attrs) q1)) (distinct_written attrs ∙ and_right (list_all is_plain_attr attrs) (are_distinct attrs) q1)) few in
    and_both (is_tag_name name && are_attrs (map written_attr attrs)) true (and_both (is_tag_name name) (are_attrs (map written_attr attrs)) named fit) refl

attr_back : (a : Attr) → is_plain_attr a ≡ true → decoded_attr (written_attr a) ≡ a
attr_back a e = (λ i. record { name = a.name; value = decoded_back true a.value i; quote = sym (eqb-true a.quote 34 (and_right (is_attr_name a.name && are_chars a.value) (a.quote == 34) e)) i })

attrs_back : (attrs : List Attr) → list_all is_plain_attr attrs ≡ true → map decoded_attr (map written_attr attrs) ≡ attrs
attrs_back [] e = refl
attrs_back (a ∷ attrs) e = (λ i. attr_back a (and_left (is_plain_attr a) (list_all is_plain_attr attrs) e) i ∷ attrs_back attrs (and_right (is_plain_attr a) (list_all is_plain_attr attrs) e) i)

start_attrs : (name : List ℕ) (attrs : List Attr) → is_plain_start name attrs ≡ true → list_all is_plain_attr attrs ≡ true
start_attrs name attrs e =
    and_left (list_all is_plain_attr attrs) (are_distinct attrs) (and_left (list_all is_plain_attr attrs && are_distinct attrs) (nat_le (length attrs) 256) (and_right (is_tag_name name) (list_all is_plain_attr attrs && are_distinct attrs && nat_le (length attrs) 256) e))

-- ---- forests

text_first : (f : Forest) → starts_with_text (written f) ≡ starts_with_text f
text_first Nothing = refl
text_first (Text text f) = refl
text_first (Remark text f) = refl
text_first (Void name attrs slash f) = refl
text_first (RawElement name attrs text f) = refl
text_first (Element name attrs children f) = refl

record PlainElement (room : ℕ) (name : List ℕ) (attrs : List Attr) (children rest : Forest) : Type 0 where
  pub not_void : not (is_void name) ≡ true
  pub not_raw : not (is_raw name) ≡ true
  pub start : is_plain_start name attrs ≡ true
  pub children_are : is_plain room children ≡ true
  pub rest_is : is_plain (suc room) rest ≡ true

plain_element : (room : ℕ) (name : List ℕ) (attrs : List Attr) (children rest : Forest) → is_plain (suc room) (Element name attrs children rest) ≡ true → PlainElement room name attrs children rest
plain_element room name attrs children rest e =
    let p4 = and_left (not (is_void name) && not (is_raw name) && is_plain_start name attrs && is_plain room children) (is_plain (suc room) rest) e in
    let p3 = and_left (not (is_void name) && not (is_raw name) && is_plain_start name attrs) (is_plain room children) p4 in
    let p2 = and_left (not (is_void name) && not (is_raw name)) (is_plain_start name attrs) p3 in
    record {
      not_void = and_left (not (is_void name)) (not (is_raw name)) p2;
      not_raw = and_right (not (is_void name)) (not (is_raw name)) p2;
      start = and_right (not (is_void name) && not (is_raw name)) (is_plain_start name attrs) p3;
      children_are = and_right (not (is_void name) && not (is_raw name) && is_plain_start name attrs) (is_plain room children) p4;
      rest_is = and_right (not (is_void name) && not (is_raw name) && is_plain_start name attrs && is_plain room children) (is_plain (suc room) rest) e;
    }

record PlainRaw (room : ℕ) (name : List ℕ) (attrs : List Attr) (text : List ℕ) (rest : Forest) : Type 0 where
  pub raw : is_raw name ≡ true
  pub start : is_plain_start name attrs ≡ true
  pub fits : is_verbatim (end_text name) text ≡ true
  pub rest_is : is_plain (suc room) rest ≡ true

plain_raw : (room : ℕ) (name : List ℕ) (attrs : List Attr) (text : List ℕ) (rest : Forest) → is_plain (suc room) (RawElement name attrs text rest) ≡ true → PlainRaw room name attrs text rest
plain_raw room name attrs text rest e =
    let p = and_left (is_raw name && is_plain_start name attrs && is_verbatim (end_text name) text) (is_plain (suc room) rest) e in
    let q = and_left (is_raw name && is_plain_start name attrs) (is_verbatim (end_text name) text) p in
    record {
      raw = and_left (is_raw name) (is_plain_start name attrs) q;
      start = and_right (is_raw name) (is_plain_start name attrs) q;
      fits = and_right (is_raw name && is_plain_start name attrs) (is_verbatim (end_text name) text) p;
      rest_is = and_right (is_raw name && is_plain_start name attrs && is_verbatim (end_text name) text) (is_plain (suc room) rest) e;
    }

record PlainVoid (room : ℕ) (name : List ℕ) (attrs : List Attr) (slash : Bool) (rest : Forest) : Type 0 where
  pub void : is_void name ≡ true
  pub start : is_plain_start name attrs ≡ true
  pub none : slash ≡ false
  pub rest_is : is_plain (suc room) rest ≡ true

plain_void : (room : ℕ) (name : List ℕ) (attrs : List Attr) (slash : Bool) (rest : Forest) → is_plain (suc room) (Void name attrs slash rest) ≡ true → PlainVoid room name attrs slash rest
plain_void room name attrs slash rest e =
    let p = and_left (is_void name && is_plain_start name attrs && not slash) (is_plain (suc room) rest) e in
    let q = and_left (is_void name && is_plain_start name attrs) (not slash) p in
    record {
      void = and_left (is_void name) (is_plain_start name attrs) q;
      start = and_right (is_void name) (is_plain_start name attrs) q;
      none = not_false slash (and_right (is_void name && is_plain_start name attrs) (not slash) p);
      rest_is = and_right (is_void name && is_plain_start name attrs && not slash) (is_plain (suc room) rest) e;
    }

pub written_fits : (d : Forest) (room : ℕ) → is_plain room d ≡ true → is_forest room (written d) ≡ true
written_fits Nothing room e = refl
written_fits (Text text d) room e =
    let p = and_left (is_some_chars text && not (starts_with_text d)) (is_plain room d) e in
    and_both (is_text (escaped false text) && not (starts_with_text (written d))) (is_forest room (written d))
    (and_both (is_text (escaped false text)) (not (starts_with_text (written d))) (escaped_text text (and_left (is_some_chars text) (not (starts_with_text d)) p)) (ap not (text_first d) ∙ and_right (is_some_chars text) (not (starts_with_text d)) p))
    (written_fits d room (and_right (is_some_chars text && not (starts_with_text d)) (is_plain room d) e))
written_fits (Remark text d) room e = and_both (is_verbatim comment_close text) (is_forest room (written d)) (and_left (is_verbatim comment_close text) (is_plain room d) e) (written_fits d room (and_right (is_verbatim comment_close text) (is_plain room d) e))
written_fits (Void name attrs slash d) zero e = absurd cc
written_fits (Void name attrs slash d) (suc room) e =
    let p = plain_void room name attrs slash d e in
    and_both (is_void name && is_start name (map written_attr attrs) false) (is_forest (suc room) (written d)) (and_both (is_void name) (is_start name (map written_attr attrs) false) p.void (start_written name attrs p.start)) (written_fits d (suc room) p.rest_is)
written_fits (RawElement name attrs text d) zero e = absurd cc
written_fits (RawElement name attrs text d) (suc room) e =
    let p = plain_raw room name attrs text d e in
    and_both (is_raw name && is_start name (map written_attr attrs) false && is_verbatim (end_text name) text) (is_forest (suc room) (written d))
    (and_both (is_raw name && is_start name (map written_attr attrs) false) (is_verbatim (end_text name) text) (and_both (is_raw name) (is_start name (map written_attr attrs) false) p.raw (start_written name attrs p.start)) p.fits) (written_fits d (suc room) p.rest_is)
written_fits (Element name attrs children d) zero e = absurd cc
written_fits (Element name attrs children d) (suc room) e =
    let p = plain_element room name attrs children d e in
    and_both (not (is_void name) && not (is_raw name) && is_start name (map written_attr attrs) false && is_forest room (written children)) (is_forest (suc room) (written d))
    (and_both (not (is_void name) && not (is_raw name) && is_start name (map written_attr attrs) false) (is_forest room (written children))
    (and_both (not (is_void name) && not (is_raw name)) (is_start name (map written_attr attrs) false) (and_both (not (is_void name)) (not (is_raw name)) p.not_void p.not_raw) (start_written name attrs p.start)) (written_fits children room p.children_are))
    (written_fits d (suc room) p.rest_is)

pub written_back : (d : Forest) (room : ℕ) → is_plain room d ≡ true → decoded_forest (written d) ≡ d
written_back Nothing room e = refl
written_back (Text text d) room e = (λ i. Text (decoded_back false text i) (written_back d room (and_right (is_some_chars text && not (starts_with_text d)) (is_plain room d) e) i))
written_back (Remark text d) room e = ap (Remark text) (written_back d room (and_right (is_verbatim comment_close text) (is_plain room d) e))
written_back (Void name attrs slash d) zero e = absurd cc
written_back (Void name attrs slash d) (suc room) e =
    let p = plain_void room name attrs slash d e in
    (λ i. Void name (attrs_back attrs (start_attrs name attrs p.start) i) (sym p.none i) (written_back d (suc room) p.rest_is i))
written_back (RawElement name attrs text d) zero e = absurd cc
written_back (RawElement name attrs text d) (suc room) e =
    let p = plain_raw room name attrs text d e in
    (λ i. RawElement name (attrs_back attrs (start_attrs name attrs p.start) i) text (written_back d (suc room) p.rest_is i))
written_back (Element name attrs children d) zero e = absurd cc
written_back (Element name attrs children d) (suc room) e =
    let p = plain_element room name attrs children d e in
    (λ i. Element name (attrs_back attrs (start_attrs name attrs p.start) i) (written_back children room p.children_are i) (written_back d (suc room) p.rest_is i))

pub writes_right : (room : ℕ) (d : Forest) → room ≤ 200 → is_plain room d ≡ true → (is_forest room (written d) ≡ true) × (forest_of (spelling (written d)) ≡ Some (written d)) × (decoded_forest (written d) ≡ d)
writes_right room d le e = let fits = written_fits d room e in (fits, reads_back room (written d) le fits, written_back d room e)
