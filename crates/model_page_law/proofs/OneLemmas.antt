-- A forest that may be spelled is the only one of its text, also among neat ones without bounds.
use Rattle.std.proofs.Common.{◌≡◌, ℕ, zero, suc, Bool, true, false, not, ◌&&◌, ◌||◌, ◌==◌, ◌≤◌, if◌then◌else◌, List, [], ◌∷◌, ◌++◌, drop, length, length-append, inl, inr, refl, sym, ap, ◌∙◌, subst, append_assoc, arith}
use Rattle.std.proofs.lemmas.Bool.{and_parts, and_from, cases_Bool}
use Rattle.std.proofs.lemmas.Grind.{common_steps}
use Rattle.std.specs.Prelude.{codes, nat_eq}
use Rattle.std.specs.List.{flat_map, list_all}
use Rattle.model_spelling.specs.Grammar.{Attr, Comment, token_text, begins_with, comment_open, comment_close, name_same, attr_text, start_text, end_text, is_letter, is_name_byte, is_attr_name, is_tag_name, is_barred, starts_reference, is_run, is_text, is_attr, are_attrs, are_distinct, is_start, is_plaintext, is_verbatim}
use Rattle.ve_kinds.specs.Tags.{is_one_of, raw_tags, is_void, is_raw}
use Rattle.model_spelling.specs.Forest.{Forest, Nothing, Text, Remark, Void, RawElement, Element, spelling, starts_with_text, is_forest}
use Rattle.model_page_write.specs.Written.{is_empty}
use Rattle.model_page_law.proofs.NeatForests.{without, NeatAttrs, ends_at, Neat, OneForest}
use Rattle.model_page_law.proofs.EscapeLemmas.{equal_names}

-- ---- texts up to a delimiter

nat_same : (c : ℕ) → nat_eq c c ≡ true
nat_same c = grind (arith, common_steps)

abbrev head_or : ℕ → List ℕ → ℕ
head_or d [] = d
head_or d (x ∷ xs) = x

abbrev none : (ℕ → Bool) → List ℕ → Bool
none p [] = true
none p (b ∷ bs) = not (p b) && none p bs

abbrev stops : (ℕ → Bool) → List ℕ → Bool
stops p [] = true
stops p (b ∷ bs) = p b

clash : (b : Bool) → b ≡ true → not b ≡ true → ⊥
clash true h k = cc
clash false h k = cc

split : (p : ℕ → Bool) (a b x y : List ℕ) → none p a ≡ true → none p b ≡ true → stops p x ≡ true → stops p y ≡ true → a ++ x ≡ b ++ y → (a ≡ b) × (x ≡ y)
split p [] [] x y na nb sx sy e = (refl, e)
split p [] (c ∷ b) x y na nb sx sy e = absurd (clash (p c) (sym (ap (stops p) e) ∙ sx) (and_parts (not (p c)) (none p b) nb).0)
split p (c ∷ a) [] x y na nb sx sy e = absurd (clash (p c) (ap (stops p) e ∙ sy) (and_parts (not (p c)) (none p a) na).0)
split p (c ∷ a) (d ∷ b) x y na nb sx sy e =
    let t = split p a b x y (and_parts (not (p c)) (none p a) na).1 (and_parts (not (p d)) (none p b) nb).1 sx sy (ap (λ l. drop 1 l) e) in
    ((λ i. ap (head_or 0) e i ∷ t.0 i), t.1)

without-none : (stop : ℕ) (t : List ℕ) → without stop t ≡ true → none (λ c. c == stop) t ≡ true
without-none stop [] h = refl
without-none stop (c ∷ cs) h = let p = and_parts (not (c == stop)) (without stop cs) h in and_from (not (c == stop)) (none (λ c. c == stop) cs) p.0 (without-none stop cs p.1)

run-none : (stop : ℕ) (t : List ℕ) → is_run stop t ≡ true → none (λ c. c == stop) t ≡ true
run-none stop [] h = refl
run-none stop (b ∷ bs) h =
    let p = and_parts (not (b == stop) && not (is_barred b) && (not (b == 38) || starts_reference (b ∷ bs))) (is_run stop bs) h in
    let q = and_parts (not (b == stop) && not (is_barred b)) (not (b == 38) || starts_reference (b ∷ bs)) p.0 in
    and_from (not (b == stop)) (none (λ c. c == stop) bs) (and_parts (not (b == stop)) (not (is_barred b)) q.0).0 (run-none stop bs p.1)

abbrev no_name : ℕ → Bool
no_name c = not (is_name_byte c)

names-none : (t : List ℕ) → list_all is_name_byte t ≡ true → none no_name t ≡ true
names-none [] h = refl
names-none (b ∷ bs) h =
    let p = and_parts (is_name_byte b) (list_all is_name_byte bs) h in and_from (not (no_name b)) (none no_name bs) (ap (λ x. not (not x)) p.0) (names-none bs p.1)

attr_name-none : (t : List ℕ) → is_attr_name t ≡ true → none no_name t ≡ true
attr_name-none [] h = refl
attr_name-none (b ∷ bs) h = names-none (b ∷ bs) h

letter_name : (b : ℕ) → is_letter b ≡ true → is_name_byte b ≡ true
unfolding is_letter
letter_name b h = grind (arith, common_steps)

tag_letter : (b : ℕ) (bs : List ℕ) → is_tag_name (b ∷ bs) ≡ true → (is_letter b ≡ true) × (list_all is_name_byte bs ≡ true)
tag_letter b bs h = and_parts (is_letter b) (list_all is_name_byte bs) (and_parts (is_letter b && list_all is_name_byte bs) (not (is_plaintext (b ∷ bs))) h).0

tag_name-none : (t : List ℕ) → is_tag_name t ≡ true → none no_name t ≡ true
tag_name-none [] h = cc
tag_name-none (b ∷ bs) h = let p = tag_letter b bs h in names-none (b ∷ bs) (and_from (is_name_byte b) (list_all is_name_byte bs) (letter_name b p.0) p.1)

-- ---- tags

abbrev close : Bool → List ℕ
close slash = if slash then codes "/>" else codes ">"

attr_prefix : (a : Attr) (z : List ℕ) → attr_text a ++ z ≡ 32 ∷ (a.name ++ (61 ∷ a.quote ∷ (a.value ++ (a.quote ∷ z))))
attr_prefix a z =
    ap (λ t. 32 ∷ t) (append_assoc (a.name ++ (61 ∷ a.quote ∷ a.value)) (a.quote ∷ []) z ∙ append_assoc a.name (61 ∷ a.quote ∷ a.value) (a.quote ∷ z))

attrs_prefix : (a : Attr) (al : List Attr) (z : List ℕ) → flat_map attr_text (a ∷ al) ++ z ≡ 32 ∷ (a.name ++ (61 ∷ a.quote ∷ (a.value ++ (a.quote ∷ (flat_map attr_text al ++ z)))))
attrs_prefix a al z = append_assoc (attr_text a) (flat_map attr_text al) z ∙ attr_prefix a (flat_map attr_text al ++ z)

is_attr-parts : (a : Attr) → is_attr a ≡ true → (is_attr_name a.name ≡ true) × (is_run a.quote a.value ≡ true)
is_attr-parts a h =
    let p = and_parts (is_attr_name a.name && (a.quote == 34 || a.quote == 39)) (is_run a.quote a.value) h in ((and_parts (is_attr_name a.name) (a.quote == 34 || a.quote == 39) p.0).0, p.1)

other : true ≡ false → ⊥
other e = cc

attrs_same : (al bs : List Attr) (s u : Bool) (x y : List ℕ) → list_all is_attr al ≡ true → NeatAttrs bs →
    flat_map attr_text al ++ (close s ++ x) ≡ flat_map attr_text bs ++ (close u ++ y) → (al ≡ bs) × (s ≡ u) × (x ≡ y)
attrs_same [] [] true true x y h n e = (refl, refl, ap (λ l. drop 2 l) e)
attrs_same [] [] false false x y h n e = (refl, refl, ap (λ l. drop 1 l) e)
attrs_same [] [] true false x y h n e = absurd (other (ap (λ l. head_or 0 l == 47) e))
attrs_same [] [] false true x y h n e = absurd (other (ap (λ l. head_or 0 l == 62) e))
attrs_same [] (b ∷ bs) true u x y h n e = absurd (other (ap (λ l. head_or 0 l == 47) (e ∙ attrs_prefix b bs (close u ++ y))))
attrs_same [] (b ∷ bs) false u x y h n e = absurd (other (ap (λ l. head_or 0 l == 62) (e ∙ attrs_prefix b bs (close u ++ y))))
attrs_same (a ∷ al) [] s true x y h n e = absurd (other (ap (λ l. head_or 0 l == 32) (sym (attrs_prefix a al (close s ++ x)) ∙ e)))
attrs_same (a ∷ al) [] s false x y h n e = absurd (other (ap (λ l. head_or 0 l == 32) (sym (attrs_prefix a al (close s ++ x)) ∙ e)))
attrs_same (a ∷ al) (b ∷ bs) s u x y h n e =
    let all = and_parts (is_attr a) (list_all is_attr al) h in
    let good = is_attr-parts a all.0 in
    let xs : List ℕ = flat_map attr_text al ++ (close s ++ x) in
    let ys : List ℕ = flat_map attr_text bs ++ (close u ++ y) in
    let e1 : a.name ++ (61 ∷ a.quote ∷ (a.value ++ (a.quote ∷ xs))) ≡ b.name ++ (61 ∷ b.quote ∷ (b.value ++ (b.quote ∷ ys))) =
    ap (λ l. drop 1 l) (sym (attrs_prefix a al (close s ++ x)) ∙ e ∙ attrs_prefix b bs (close u ++ y)) in
    let names = split no_name a.name b.name (61 ∷ a.quote ∷ (a.value ++ (a.quote ∷ xs))) (61 ∷ b.quote ∷ (b.value ++ (b.quote ∷ ys))) (attr_name-none a.name good.0) (attr_name-none b.name n.0) refl refl e1 in
    let quotes : a.quote ≡ b.quote = ap (λ l. head_or 0 (drop 1 l)) names.1 in
    let values = split (λ c. c == a.quote) a.value b.value (a.quote ∷ xs) (b.quote ∷ ys) (run-none a.quote a.value good.1) (without-none a.quote b.value (subst (λ q. without q b.value ≡ true) (sym quotes) n.1))
    (nat_same a.quote) (ap (λ q. q == a.quote) (sym quotes) ∙ nat_same a.quote) (ap (λ l. drop 2 l) names.1) in
    let more = attrs_same al bs s u x y all.1 n.2 (ap (λ l. drop 1 l) values.1) in
    ((λ i. record { name = names.0 i; value = values.0 i; quote = quotes i } ∷ more.0 i), more.1, more.2)

tag_prefix : (name : List ℕ) (attrs : List Attr) (s : Bool) (x : List ℕ) → start_text name attrs s ++ x ≡ 60 ∷ (name ++ (flat_map attr_text attrs ++ (close s ++ x)))
tag_prefix name attrs s x = ap (λ t. 60 ∷ t) (append_assoc (name ++ flat_map attr_text attrs) (close s) x ∙ append_assoc name (flat_map attr_text attrs) (close s ++ x))

stops-attrs : (attrs : List Attr) (s : Bool) (x : List ℕ) → stops no_name (flat_map attr_text attrs ++ (close s ++ x)) ≡ true
stops-attrs [] true x = refl
stops-attrs [] false x = refl
stops-attrs (a ∷ al) s x = ap (stops no_name) (attrs_prefix a al (close s ++ x))

pub is_start-parts : (name : List ℕ) (attrs : List Attr) (s : Bool) → is_start name attrs s ≡ true → (is_tag_name name ≡ true) × (list_all is_attr attrs ≡ true)
is_start-parts name attrs s h =
    let p = and_parts (is_tag_name name && are_attrs attrs) (not s || is_void name) h in
    let q = and_parts (is_tag_name name) (are_attrs attrs) p.0 in
    (q.0, (and_parts (list_all is_attr attrs) (are_distinct attrs) (and_parts (list_all is_attr attrs && are_distinct attrs) _ q.1).0).0)

tag_same : (n m : List ℕ) (al bs : List Attr) (s u : Bool) (x y : List ℕ) → is_start n al s ≡ true → is_tag_name m ≡ true → NeatAttrs bs → start_text n al s ++ x ≡ start_text m bs u ++ y →
    (n ≡ m) × (al ≡ bs) × (s ≡ u) × (x ≡ y)
tag_same n m al bs s u x y h named attrs_are e =
    let p = is_start-parts n al s h in
    let e1 = ap (λ l. drop 1 l) (sym (tag_prefix n al s x) ∙ e ∙ tag_prefix m bs u y) in
    let names = split no_name n m (flat_map attr_text al ++ (close s ++ x)) (flat_map attr_text bs ++ (close u ++ y)) (tag_name-none n p.0) (tag_name-none m named) (stops-attrs al s x) (stops-attrs bs u y) e1 in
    let attrs = attrs_same al bs s u x y p.1 attrs_are names.1 in
    (names.0, attrs.0, attrs.1, attrs.2)

-- ---- what a text begins with

abbrev pub second_class : List ℕ → ℕ
second_class [] = 3
second_class (b ∷ bs) = if b == 47 then 0 else if b == 33 then 2 else 3

-- 0 at the end or an end tag, 1 at characters, 2 at a comment, 3 at a start tag
abbrev pub class : List ℕ → ℕ
class [] = 0
class (b ∷ bs) = if b == 60 then second_class bs else 1

abbrev pub code : Forest → ℕ
code Nothing = 0
code (Text text rest) = 1
code (Remark text rest) = 2
code (Void name attrs slash rest) = 3
code (RawElement name attrs text rest) = 3
code (Element name attrs children rest) = 3

class_if : (c : Bool) (a b : ℕ) → c ≡ false → (if c then a else b) ≡ b
class_if true a b e = cc
class_if false a b e = refl

letter_not : (b : ℕ) → is_letter b ≡ true → ((b == 47) ≡ false) × ((b == 33) ≡ false)
unfolding is_letter
letter_not b h = (grind (arith, common_steps), grind (arith, common_steps))

tag_class : (name z : List ℕ) → is_tag_name name ≡ true → class (60 ∷ (name ++ z)) ≡ 3
tag_class [] z h = cc
tag_class (b ∷ bs) z h = let l = letter_not b (tag_letter b bs h).0 in class_if (b == 47) 0 (if b == 33 then 2 else 3) l.0 ∙ class_if (b == 33) 2 3 l.1

start_class : (name : List ℕ) (attrs : List Attr) (s : Bool) (x : List ℕ) → is_tag_name name ≡ true → class (start_text name attrs s ++ x) ≡ 3
start_class name attrs s x h = ap class (tag_prefix name attrs s x) ∙ tag_class name (flat_map attr_text attrs ++ (close s ++ x)) h

text_class : (text x : List ℕ) → is_empty text ≡ false → none (λ c. c == 60) text ≡ true → class (text ++ x) ≡ 1
text_class [] x e h = cc
text_class (b ∷ bs) x e h = class_if (b == 60) (second_class (bs ++ x)) 1 (not_is (b == 60) (and_parts (not (b == 60)) (none (λ c. c == 60) bs) h).0)
  where
    not_is : (c : Bool) → not c ≡ true → c ≡ false
    not_is true h = cc
    not_is false h = refl

inside_prefix : (start middle end rest r : List ℕ) → (start ++ middle ++ end ++ rest) ++ r ≡ start ++ (middle ++ (end ++ (rest ++ r)))
inside_prefix start middle end rest r =
    append_assoc (start ++ middle ++ end) rest r ∙ append_assoc (start ++ middle) end (rest ++ r) ∙ append_assoc start middle (end ++ (rest ++ r))

-- ---- what may be spelled

record VoidParts (room : ℕ) (name : List ℕ) (attrs : List Attr) (s : Bool) (rest : Forest) : Type 0 where
  kind : is_void name ≡ true
  tag : is_start name attrs s ≡ true
  more : is_forest room rest ≡ true

void_parts : (room : ℕ) (name : List ℕ) (attrs : List Attr) (s : Bool) (rest : Forest) → is_forest room (Void name attrs s rest) ≡ true → VoidParts room name attrs s rest
void_parts zero name attrs s rest h = cc
void_parts (suc room) name attrs s rest h =
    let p = and_parts (is_void name && is_start name attrs s) (is_forest (suc room) rest) h in
    let q = and_parts (is_void name) (is_start name attrs s) p.0 in
    record { kind = q.0; tag = q.1; more = p.1 }

record RawParts (room : ℕ) (name : List ℕ) (attrs : List Attr) (text : List ℕ) (rest : Forest) : Type 0 where
  kind : is_raw name ≡ true
  tag : is_start name attrs false ≡ true
  ends : is_verbatim (end_text name) text ≡ true
  more : is_forest room rest ≡ true

raw_parts : (room : ℕ) (name : List ℕ) (attrs : List Attr) (text : List ℕ) (rest : Forest) → is_forest room (RawElement name attrs text rest) ≡ true → RawParts room name attrs text rest
raw_parts zero name attrs text rest h = cc
raw_parts (suc room) name attrs text rest h =
    let p = and_parts (is_raw name && is_start name attrs false && is_verbatim (end_text name) text) (is_forest (suc room) rest) h in
    let q = and_parts (is_raw name && is_start name attrs false) (is_verbatim (end_text name) text) p.0 in
    let r = and_parts (is_raw name) (is_start name attrs false) q.0 in
    record { kind = r.0; tag = r.1; ends = q.1; more = p.1 }

record ElementParts (room : ℕ) (name : List ℕ) (attrs : List Attr) (children rest : Forest) : Type 0 where
  kind : not (is_void name) ≡ true
  raw : not (is_raw name) ≡ true
  tag : is_start name attrs false ≡ true
  inner : ℕ
  inside : is_forest inner children ≡ true
  more : is_forest room rest ≡ true

element_parts : (room : ℕ) (name : List ℕ) (attrs : List Attr) (children rest : Forest) → is_forest room (Element name attrs children rest) ≡ true → ElementParts room name attrs children rest
element_parts zero name attrs children rest h = cc
element_parts (suc room) name attrs children rest h =
    let p = and_parts (not (is_void name) && not (is_raw name) && is_start name attrs false && is_forest room children) (is_forest (suc room) rest) h in
    let q = and_parts (not (is_void name) && not (is_raw name) && is_start name attrs false) (is_forest room children) p.0 in
    let r = and_parts (not (is_void name) && not (is_raw name)) (is_start name attrs false) q.0 in
    let k = and_parts (not (is_void name)) (not (is_raw name)) r.0 in
    record { kind = k.0; raw = k.1; tag = r.1; inner = room; inside = q.1; more = p.1 }

text_parts : (room : ℕ) (text : List ℕ) (rest : Forest) → is_forest room (Text text rest) ≡ true → (is_text text ≡ true) × (starts_with_text rest ≡ false) × (is_forest room rest ≡ true)
text_parts room text rest h =
    let p = and_parts (is_text text && not (starts_with_text rest)) (is_forest room rest) h in
    let q = and_parts (is_text text) (not (starts_with_text rest)) p.0 in
    (q.0, not_is (starts_with_text rest) q.1, p.1)
  where
    not_is : (c : Bool) → not c ≡ true → c ≡ false
    not_is true h = cc
    not_is false h = refl

is_text-none : (text : List ℕ) → is_text text ≡ true → (is_empty text ≡ false) × (none (λ c. c == 60) text ≡ true)
is_text-none [] h = cc
is_text-none (b ∷ bs) h = (refl, run-none 60 (b ∷ bs) h)

class-spelled : (f : Forest) (room : ℕ) (r : List ℕ) → is_forest room f ≡ true → class r ≡ 0 → class (spelling f ++ r) ≡ code f
class-spelled Nothing room r h e = e
class-spelled (Text text rest) room r h e =
    let t = is_text-none text (text_parts room text rest h).0 in ap class (append_assoc text (spelling rest) r) ∙ text_class text (spelling rest ++ r) t.0 t.1
class-spelled (Remark text rest) room r h e = refl
class-spelled (Void name attrs s rest) room r h e =
    ap class (append_assoc (start_text name attrs s) (spelling rest) r) ∙ start_class name attrs s (spelling rest ++ r) (is_start-parts name attrs s (void_parts room name attrs s rest h).tag).0
class-spelled (RawElement name attrs text rest) room r h e =
    ap class (inside_prefix (start_text name attrs false) text (end_text name) (spelling rest) r)
    ∙ start_class name attrs false (text ++ (end_text name ++ (spelling rest ++ r))) (is_start-parts name attrs false (raw_parts room name attrs text rest h).tag).0
class-spelled (Element name attrs children rest) room r h e =
    ap class (inside_prefix (start_text name attrs false) (spelling children) (end_text name) (spelling rest) r)
    ∙ start_class name attrs false (spelling children ++ (end_text name ++ (spelling rest ++ r))) (is_start-parts name attrs false (element_parts room name attrs children rest h).tag).0

pub class-neat : (g : Forest) (r : List ℕ) → Neat g → class r ≡ 0 → class (spelling g ++ r) ≡ code g
class-neat Nothing r n e = e
class-neat (Text text rest) r n e = ap class (append_assoc text (spelling rest) r) ∙ text_class text (spelling rest ++ r) n.0 (without-none 60 text n.1)
class-neat (Remark text rest) r n e = refl
class-neat (RawElement name attrs text rest) r n e =
    ap class (inside_prefix (start_text name attrs false) text (end_text name) (spelling rest) r)
    ∙ start_class name attrs false (text ++ (end_text name ++ (spelling rest ++ r))) n.0.name_is
class-neat (Void name attrs s rest) r n e = ap class (append_assoc (start_text name attrs s) (spelling rest) r) ∙ start_class name attrs s (spelling rest ++ r) n.0.name_is
class-neat (Element name attrs children rest) r n e =
    ap class (inside_prefix (start_text name attrs false) (spelling children) (end_text name) (spelling rest) r)
    ∙ start_class name attrs false (spelling children ++ (end_text name ++ (spelling rest ++ r))) n.0.name_is

-- no characters
no_characters : (x : List ℕ) → (class x == 1) ≡ false → stops (λ c. c == 60) x ≡ true
no_characters [] h = refl
no_characters (b ∷ bs) h = tagged (b == 60) (second_class bs) h
  where
    tagged : (c : Bool) (n : ℕ) → ((if c then n else 1) == 1) ≡ false → c ≡ true
    tagged true n h = refl
    tagged false n h = cc

no_text : (f : Forest) → starts_with_text f ≡ false → (code f == 1) ≡ false
no_text Nothing h = refl
no_text (Text text rest) h = cc
no_text (Remark text rest) h = refl
no_text (Void name attrs slash rest) h = refl
no_text (RawElement name attrs text rest) h = refl
no_text (Element name attrs children rest) h = refl

both_void : (name m : List ℕ) → is_void name ≡ true → name ≡ m → is_void m ≡ false → ⊥
both_void name m a e b = let c : is_void name ≡ false = ap is_void e ∙ b in cc

cut : (a x y : List ℕ) → a ++ x ≡ a ++ y → x ≡ y
cut [] x y e = e
cut (c ∷ a) x y e = cut a x y (ap (λ l. drop 1 l) e)

same_end : (n m : List ℕ) (x y : List ℕ) → n ≡ m → end_text n ++ x ≡ end_text m ++ y → x ≡ y
same_end n m x y e h = cut (end_text n) x y (h ∙ ap (λ k. end_text k ++ y) (sym e))

-- ---- texts up to their end

begins-itself : (prefix x : List ℕ) → begins_with prefix (prefix ++ x) ≡ true
unfolding begins_with
begins-itself [] x = refl
begins-itself (c ∷ cs) x = and_from _ _ (nat_same c) (begins-itself cs x)

begins-longer : (prefix a y : List ℕ) → length prefix ≤ length a → begins_with prefix (a ++ y) ≡ begins_with prefix a
unfolding begins_with
begins-longer [] a y h = refl
begins-longer (c ∷ cs) [] y h = absurd (omega (arith, h))
begins-longer (c ∷ cs) (b ∷ bs) y h = ap (λ r. nat_eq c b && r) (begins-longer cs bs y (omega (arith, h)))

-- one text can't end where the other goes on
no_end : (close : List ℕ) (c : ℕ) (b x y : List ℕ) → ends_at close (c ∷ b) ≡ true → close ++ x ≡ c ∷ (b ++ (close ++ y)) → ⊥
no_end close c b x y h e =
    let p = and_parts (not (begins_with close (c ∷ b ++ close))) (ends_at close b) h in
    let long : length close ≤ length (c ∷ b ++ close) = let l = length-append b close in omega (arith, l) in
    clash (begins_with close (c ∷ b ++ close))
    (sym (begins-longer close (c ∷ b ++ close) y long) ∙ ap (begins_with close) (append_assoc (c ∷ b) close y ∙ sym e) ∙ begins-itself close x)
    p.0

cut_end : (close a b x y : List ℕ) → ends_at close a ≡ true → ends_at close b ≡ true → a ++ (close ++ x) ≡ b ++ (close ++ y) → (a ≡ b) × (x ≡ y)
cut_end close [] [] x y h k e = (refl, cut close x y e)
cut_end close [] (c ∷ b) x y h k e = absurd (no_end close c b x y k e)
cut_end close (c ∷ a) [] x y h k e = absurd (no_end close c a y x h (sym e))
cut_end close (c ∷ a) (d ∷ b) x y h k e =
    let r = cut_end close a b x y (and_parts (not (begins_with close (c ∷ a ++ close))) (ends_at close a) h).1 (and_parts (not (begins_with close (d ∷ b ++ close))) (ends_at close b) k).1 (ap (λ l. drop 1 l) e) in
    ((λ i. ap (head_or 0) e i ∷ r.0 i), r.1)

verbatim-ends : (close t : List ℕ) → is_verbatim close t ≡ true → ends_at close t ≡ true
verbatim-ends close [] h = refl
verbatim-ends close (b ∷ bs) h =
    let p = and_parts (not (is_barred b) && not (begins_with close (b ∷ bs ++ close))) (is_verbatim close bs) h in
    and_from _ _ (and_parts (not (is_barred b)) (not (begins_with close (b ∷ bs ++ close))) p.0).1 (verbatim-ends close bs p.1)

comment_prefix : (text rest r : List ℕ) → (token_text (Comment text) ++ rest) ++ r ≡ comment_open ++ (text ++ (comment_close ++ (rest ++ r)))
comment_prefix text rest r = inside_prefix comment_open text comment_close rest r

both_raw : (name m : List ℕ) → is_raw name ≡ true → name ≡ m → is_raw m ≡ false → ⊥
both_raw name m a e b = let c : is_raw name ≡ false = ap is_raw e ∙ b in cc

not_true : (c : Bool) → not c ≡ true → c ≡ false
not_true true h = cc
not_true false h = refl

-- a forest that is spelled and a neat one with the same text, up to an end tag or the end
same_forest : (f g : Forest) (room : ℕ) (r t : List ℕ) → is_forest room f ≡ true → Neat g → class r ≡ 0 → class t ≡ 0 → code f ≡ code g → spelling f ++ r ≡ spelling g ++ t → (f ≡ g) × (r ≡ t)
same_forest Nothing Nothing room r t h n er et c e = (refl, e)
same_forest Nothing (Text b more) room r t h n er et c e = absurd (omega (arith, c))
same_forest Nothing (Void m bs u more) room r t h n er et c e = absurd (omega (arith, c))
same_forest Nothing (Element m bs inside more) room r t h n er et c e = absurd (omega (arith, c))
same_forest (Text a rest) Nothing room r t h n er et c e = absurd (omega (arith, c))
same_forest (Text a rest) (Text b more) room r t h n er et c e =
    let p = text_parts room a rest h in
    let cf : class (spelling rest ++ r) ≡ code rest = class-spelled rest room r p.2 er in
    let cg : class (spelling more ++ t) ≡ code more = class-neat more t n.3 et in
    let s = split (λ c. c == 60) a b (spelling rest ++ r) (spelling more ++ t) (is_text-none a p.0).1 (without-none 60 b n.1)
    (no_characters (spelling rest ++ r) (ap (λ k. k == 1) cf ∙ no_text rest p.1)) (no_characters (spelling more ++ t) (ap (λ k. k == 1) cg ∙ no_text more n.2))
    (sym (append_assoc a (spelling rest) r) ∙ e ∙ append_assoc b (spelling more) t) in
    let m = same_forest rest more room r t p.2 n.3 er et (sym cf ∙ ap class s.1 ∙ cg) s.1 in
    ((λ i. Text (s.0 i) (m.0 i)), m.1)
same_forest (Text a rest) (Void m bs u more) room r t h n er et c e = absurd (omega (arith, c))
same_forest (Text a rest) (Element m bs inside more) room r t h n er et c e = absurd (omega (arith, c))
same_forest (Remark a rest) Nothing room r t h n er et c e = absurd (omega (arith, c))
same_forest (Remark a rest) (Text b more) room r t h n er et c e = absurd (omega (arith, c))
same_forest (Remark a rest) (Void m bs u more) room r t h n er et c e = absurd (omega (arith, c))
same_forest (Remark a rest) (Element m bs inside more) room r t h n er et c e = absurd (omega (arith, c))
same_forest (Void name al s rest) Nothing room r t h n er et c e = absurd (omega (arith, c))
same_forest (Void name al s rest) (Text b more) room r t h n er et c e = absurd (omega (arith, c))
same_forest (Void name al s rest) (Void m bs u more) room r t h n er et c e =
    let p = void_parts room name al s rest h in
    let g = tag_same name m al bs s u (spelling rest ++ r) (spelling more ++ t) p.tag n.0.name_is n.0.attrs_are
    (sym (append_assoc (start_text name al s) (spelling rest) r) ∙ e ∙ append_assoc (start_text m bs u) (spelling more) t) in
    let k = same_forest rest more room r t p.more n.1 er et (sym (class-spelled rest room r p.more er) ∙ ap class g.3 ∙ class-neat more t n.1 et) g.3 in
    ((λ i. Void (g.0 i) (g.1 i) (g.2 i) (k.0 i)), k.1)
same_forest (Void name al s rest) (Element m bs inside more) room r t h n er et c e =
    let p = void_parts room name al s rest h in
    let g = tag_same name m al bs s false (spelling rest ++ r) (spelling inside ++ (end_text m ++ (spelling more ++ t))) p.tag n.0.name_is n.0.attrs_are
    (sym (append_assoc (start_text name al s) (spelling rest) r) ∙ e ∙ inside_prefix (start_text m bs false) (spelling inside) (end_text m) (spelling more) t) in
    absurd (both_void name m p.kind g.0 n.0.void_is)
same_forest (RawElement name al text rest) Nothing room r t h n er et c e = absurd (omega (arith, c))
same_forest (RawElement name al text rest) (Text b more) room r t h n er et c e = absurd (omega (arith, c))
same_forest (RawElement name al text rest) (Void m bs u more) room r t h n er et c e =
    let p = raw_parts room name al text rest h in
    let g = tag_same name m al bs false u (text ++ (end_text name ++ (spelling rest ++ r))) (spelling more ++ t) p.tag n.0.name_is n.0.attrs_are
    (sym (inside_prefix (start_text name al false) text (end_text name) (spelling rest) r) ∙ e ∙ append_assoc (start_text m bs u) (spelling more) t) in
    absurd (both_raw name m p.kind g.0 n.0.raw_is)
same_forest (RawElement name al text rest) (Element m bs inside more) room r t h n er et c e =
    let p = raw_parts room name al text rest h in
    let g = tag_same name m al bs false false (text ++ (end_text name ++ (spelling rest ++ r))) (spelling inside ++ (end_text m ++ (spelling more ++ t))) p.tag n.0.name_is n.0.attrs_are
    (sym (inside_prefix (start_text name al false) text (end_text name) (spelling rest) r) ∙ e ∙ inside_prefix (start_text m bs false) (spelling inside) (end_text m) (spelling more) t) in
    absurd (both_raw name m p.kind g.0 n.0.raw_is)
same_forest (Element name al children rest) Nothing room r t h n er et c e = absurd (omega (arith, c))
same_forest (Element name al children rest) (Text b more) room r t h n er et c e = absurd (omega (arith, c))
same_forest (Element name al children rest) (Void m bs u more) room r t h n er et c e =
    let p = element_parts room name al children rest h in
    let g = tag_same name m al bs false u (spelling children ++ (end_text name ++ (spelling rest ++ r))) (spelling more ++ t) p.tag n.0.name_is n.0.attrs_are
    (sym (inside_prefix (start_text name al false) (spelling children) (end_text name) (spelling rest) r) ∙ e ∙ append_assoc (start_text m bs u) (spelling more) t) in
    absurd (clash (is_void name) (ap is_void g.0 ∙ n.0.void_is) p.kind)
same_forest (Element name al children rest) (Element m bs inside more) room r t h n er et c e =
    let p = element_parts room name al children rest h in
    let rf : List ℕ = end_text name ++ (spelling rest ++ r) in
    let rg : List ℕ = end_text m ++ (spelling more ++ t) in
    let g = tag_same name m al bs false false (spelling children ++ rf) (spelling inside ++ rg) p.tag n.0.name_is n.0.attrs_are
    (sym (inside_prefix (start_text name al false) (spelling children) (end_text name) (spelling rest) r) ∙ e ∙ inside_prefix (start_text m bs false) (spelling inside) (end_text m) (spelling more) t) in
    let inner = same_forest children inside p.inner rf rg p.inside n.1 refl refl (sym (class-spelled children p.inner rf p.inside refl) ∙ ap class g.3 ∙ class-neat inside rg n.1 refl) g.3 in
    let after : spelling rest ++ r ≡ spelling more ++ t = same_end name m (spelling rest ++ r) (spelling more ++ t) g.0 inner.1 in
    let k = same_forest rest more room r t p.more n.2 er et (sym (class-spelled rest room r p.more er) ∙ ap class after ∙ class-neat more t n.2 et) after in
    ((λ i. Element (g.0 i) (g.1 i) (inner.0 i) (k.0 i)), k.1)
same_forest Nothing (Remark b more) room r t h n er et c e = absurd (omega (arith, c))
same_forest (Text a rest) (Remark b more) room r t h n er et c e = absurd (omega (arith, c))
same_forest (Void name al s rest) (Remark b more) room r t h n er et c e = absurd (omega (arith, c))
same_forest (RawElement name al text rest) (Remark b more) room r t h n er et c e = absurd (omega (arith, c))
same_forest (Element name al children rest) (Remark b more) room r t h n er et c e = absurd (omega (arith, c))
same_forest Nothing (RawElement m bs b more) room r t h n er et c e = absurd (omega (arith, c))
same_forest (Text a rest) (RawElement m bs b more) room r t h n er et c e = absurd (omega (arith, c))
same_forest (Remark a rest) (RawElement m bs b more) room r t h n er et c e = absurd (omega (arith, c))
same_forest (Remark a rest) (Remark b more) room r t h n er et c e =
    let p = and_parts (is_verbatim comment_close a) (is_forest room rest) h in
    let s = cut_end comment_close a b (spelling rest ++ r) (spelling more ++ t) (verbatim-ends comment_close a p.0) n.0
    (ap (λ l. drop 4 l) (sym (comment_prefix a (spelling rest) r) ∙ e ∙ comment_prefix b (spelling more) t)) in
    let k = same_forest rest more room r t p.1 n.1 er et (sym (class-spelled rest room r p.1 er) ∙ ap class s.1 ∙ class-neat more t n.1 et) s.1 in
    ((λ i. Remark (s.0 i) (k.0 i)), k.1)
same_forest (Void name al s rest) (RawElement m bs b more) room r t h n er et c e =
    let p = void_parts room name al s rest h in
    let g = tag_same name m al bs s false (spelling rest ++ r) (b ++ (end_text m ++ (spelling more ++ t))) p.tag n.0.name_is n.0.attrs_are
    (sym (append_assoc (start_text name al s) (spelling rest) r) ∙ e ∙ inside_prefix (start_text m bs false) b (end_text m) (spelling more) t) in
    absurd (both_void name m p.kind g.0 n.0.void_is)
same_forest (RawElement name al text rest) (RawElement m bs b more) room r t h n er et c e =
    let p = raw_parts room name al text rest h in
    let g = tag_same name m al bs false false (text ++ (end_text name ++ (spelling rest ++ r))) (b ++ (end_text m ++ (spelling more ++ t))) p.tag n.0.name_is n.0.attrs_are
    (sym (inside_prefix (start_text name al false) text (end_text name) (spelling rest) r) ∙ e ∙ inside_prefix (start_text m bs false) b (end_text m) (spelling more) t) in
    let s = cut_end (end_text name) text b (spelling rest ++ r) (spelling more ++ t) (verbatim-ends (end_text name) text p.ends) (ap (λ k. ends_at (end_text k) b) g.0 ∙ n.0.ends)
    (g.3 ∙ ap (λ k. b ++ (end_text k ++ (spelling more ++ t))) (sym g.0)) in
    let k = same_forest rest more room r t p.more n.1 er et (sym (class-spelled rest room r p.more er) ∙ ap class s.1 ∙ class-neat more t n.1 et) s.1 in
    ((λ i. RawElement (g.0 i) (g.1 i) (s.0 i) (k.0 i)), k.1)
same_forest (Element name al children rest) (RawElement m bs b more) room r t h n er et c e =
    let p = element_parts room name al children rest h in
    let g = tag_same name m al bs false false (spelling children ++ (end_text name ++ (spelling rest ++ r))) (b ++ (end_text m ++ (spelling more ++ t))) p.tag n.0.name_is n.0.attrs_are
    (sym (inside_prefix (start_text name al false) (spelling children) (end_text name) (spelling rest) r) ∙ e ∙ inside_prefix (start_text m bs false) b (end_text m) (spelling more) t) in
    absurd (clash (is_raw name) (ap is_raw g.0 ∙ n.0.raw_is) p.raw)

pub one_forest : OneForest
one_forest f g h n e =
    let text : spelling f ++ [] ≡ spelling g ++ [] = ap (λ s. s ++ []) e in
    (same_forest f g 200 [] [] h n refl refl (sym (class-spelled f 200 [] h refl) ∙ ap class text ∙ class-neat g [] n refl) text).0

-- ---- two forests that may be spelled

abbrev NoneVoid : List (List ℕ) → Type 0
NoneVoid [] = Unit {0}
NoneVoid (n ∷ ns) = (is_void n ≡ false) × NoneVoid ns

raws-NoneVoid : NoneVoid raw_tags
unfolding is_void name_same
raws-NoneVoid = (refl, (refl, (refl, (refl, (refl, (refl, tt))))))

among_NoneVoid : (ns : List (List ℕ)) → NoneVoid ns → (name : List ℕ) → is_one_of ns name ≡ true → is_void name ≡ false
unfolding name_same
among_NoneVoid [] a name h = cc
among_NoneVoid (n ∷ ns) a name h =
    elim (cases_Bool (name_same n name)) [
      | inl e ↦ ap is_void (sym (equal_names n name e)) ∙ a.0
      | inr e ↦ among_NoneVoid ns a.1 name (sym (ap (λ b. b || is_one_of ns name) e) ∙ h)
    ]

raw_not_void : (name : List ℕ) → is_raw name ≡ true → is_void name ≡ false
unfolding is_raw
raw_not_void name h = among_NoneVoid raw_tags raws-NoneVoid name h

none-without : (stop : ℕ) (t : List ℕ) → none (λ c. c == stop) t ≡ true → without stop t ≡ true
none-without stop [] h = refl
none-without stop (c ∷ cs) h = let p = and_parts (not (c == stop)) (none (λ c. c == stop) cs) h in and_from (not (c == stop)) (without stop cs) p.0 (none-without stop cs p.1)

attrs-neat : (attrs : List Attr) → list_all is_attr attrs ≡ true → NeatAttrs attrs
attrs-neat [] h = tt
attrs-neat (a ∷ attrs) h =
    let p = and_parts (is_attr a) (list_all is_attr attrs) h in
    let g = is_attr-parts a p.0 in
    (g.0, none-without a.quote a.value (run-none a.quote a.value g.1), attrs-neat attrs p.1)

pub spelled-Neat : (f : Forest) (room : ℕ) → is_forest room f ≡ true → Neat f
spelled-Neat Nothing room h = tt
spelled-Neat (Text text rest) room h =
    let p = text_parts room text rest h in let t = is_text-none text p.0 in (t.0, none-without 60 text t.1, p.1, spelled-Neat rest room p.2)
spelled-Neat (Remark text rest) room h =
    let p = and_parts (is_verbatim comment_close text) (is_forest room rest) h in (verbatim-ends comment_close text p.0, spelled-Neat rest room p.1)
spelled-Neat (Void name attrs s rest) room h =
    let p = void_parts room name attrs s rest h in
    let t = is_start-parts name attrs s p.tag in
    (record { name_is = t.0; void_is = p.kind; raw_is = void_not_raw name p.kind; attrs_are = attrs-neat attrs t.1 }, spelled-Neat rest room p.more)
  where
    void_not_raw : (name : List ℕ) → is_void name ≡ true → is_raw name ≡ false
    void_not_raw name h = elim (cases_Bool (is_raw name)) [ inr e ↦ e | inl e ↦ absurd (other (sym h ∙ raw_not_void name e)) ]
spelled-Neat (RawElement name attrs text rest) room h =
    let p = raw_parts room name attrs text rest h in
    let t = is_start-parts name attrs false p.tag in
    (record { name_is = t.0; void_is = raw_not_void name p.kind; raw_is = p.kind; attrs_are = attrs-neat attrs t.1; ends = verbatim-ends (end_text name) text p.ends }, spelled-Neat rest room p.more)
spelled-Neat (Element name attrs children rest) room h =
    let p = element_parts room name attrs children rest h in
    let t = is_start-parts name attrs false p.tag in
    (record { name_is = t.0; void_is = not_true (is_void name) p.kind; raw_is = not_true (is_raw name) p.raw; attrs_are = attrs-neat attrs t.1 }, spelled-Neat children p.inner p.inside, spelled-Neat rest room p.more)
