-- Escaped text is decoded again, and annotation tags have no kind.
use Rattle.std.proofs.Common.{◌≡◌, ℕ, ◌-◌, Bool, true, false, ◌&&◌, ◌||◌, ◌==◌, if◌then◌else◌, List, [], ◌∷◌, ◌++◌, length, map, None, refl, sym, ap, ◌∙◌, append_assoc, arith, inl, inr, eqb-true}
use Rattle.std.proofs.lemmas.List.{append-nil}
use Rattle.std.proofs.lemmas.Bool.{and_parts, and_from, cases_Bool}
use Rattle.std.proofs.lemmas.Grind.{common_steps}
use Rattle.std.proofs.lemmas.Str.{chars-append, chars-encodes}
use Rattle.std.specs.Prelude.{codes, encode_utf8_all, nat_eq, bytes_eq}
use Rattle.std.specs.Str.{chars, all_scalars}
use Rattle.model_spelling.specs.Grammar.{begins_with, name_same}
use Rattle.model_spelling.specs.Written.{meanings, prefix_of, decoded_from, decoded, escaped_byte, escaped, canon_attr, canon_attrs, attr_bytes}
use Rattle.ve_base.specs.declared.attrs.Attr.{Attr}
use Rattle.ve_base.specs.declared.marks.Mark.{Mark}
use Rattle.ve_kinds.specs.declared.kind.Kind.TheVariants.{AlienInline}
use Rattle.model_page.specs.Parts.{Parts}
use Rattle.ve_kinds.specs.Tags.{is_one_of, kind_of_tag, annotation_tags}
use Rattle.model_page.specs.Tags.{is_annotation_tag}
use Rattle.model_page.specs.Fit.{Content, Annotation, Whole, has_child, fit_in_content, fit_of}
use Rattle.model_page.specs.Heads.{characters, attr_of, attrs_of}
use Rattle.model_page_law.proofs.ContentLemmas.{LettersBack}

-- ---- a byte that is no `&` stands for itself

-- each reference begins with `&`
abbrev Ampersands : List (List ℕ × List ℕ) → Type 0
Ampersands [] = Unit {0}
Ampersands (m ∷ ms) = ((b : ℕ) (bs : List ℕ) → (b == 38) ≡ false → begins_with m.0 (b ∷ bs) ≡ false) × Ampersands ms

other_byte : (b : ℕ) (rest : Bool) → (b == 38) ≡ false → (nat_eq 38 b && rest) ≡ false
other_byte b rest h = grind (arith, common_steps)

meanings-Ampersands : Ampersands meanings
unfolding begins_with
meanings-Ampersands = (
  (λ b bs h. other_byte b _ h),
  (
    (λ b bs h. other_byte b _ h),
    (
      (λ b bs h. other_byte b _ h),
      ((λ b bs h. other_byte b _ h), ((λ b bs h. other_byte b _ h), ((λ b bs h. other_byte b _ h), tt))),
    ),
  ),
)

pub pick_false : {A : Type 0} (c : Bool) (x y : A) → c ≡ false → (if c then x else y) ≡ y
pick_false true x y e = cc
pick_false false x y e = refl

pub pick_true : {A : Type 0} (c : Bool) (x y : A) → c ≡ true → (if c then x else y) ≡ x
pick_true true x y e = refl
pick_true false x y e = cc

prefix-byte : (ms : List (List ℕ × List ℕ)) → Ampersands ms → (b : ℕ) (bs : List ℕ) → (b == 38) ≡ false → prefix_of ms b bs ≡ (b ∷ [], b ∷ [])
prefix-byte [] a b bs h = refl
prefix-byte (m ∷ ms) a b bs h = pick_false (begins_with m.0 (b ∷ bs)) m (prefix_of ms b bs) (a.0 b bs h) ∙ prefix-byte ms a.1 b bs h

pub decoded-byte : (b : ℕ) (t : List ℕ) → (b == 38) ≡ false → decoded_from 0 (b ∷ t) ≡ b ∷ decoded_from 0 t
unfolding decoded_from
decoded-byte b t h = ap (λ m. m.1 ++ decoded_from (length m.0 - 1) t) (prefix-byte meanings meanings-Ampersands b t h)

-- ---- each reference is decoded

decoded-amp : (t : List ℕ) → decoded_from 0 (codes "&amp;" ++ t) ≡ 38 ∷ decoded_from 0 t
unfolding decoded_from begins_with
decoded-amp t = refl

decoded-lt : (t : List ℕ) → decoded_from 0 (codes "&lt;" ++ t) ≡ 60 ∷ decoded_from 0 t
unfolding decoded_from begins_with
decoded-lt t = refl

decoded-gt : (t : List ℕ) → decoded_from 0 (codes "&gt;" ++ t) ≡ 62 ∷ decoded_from 0 t
unfolding decoded_from begins_with
decoded-gt t = refl

decoded-quot : (t : List ℕ) → decoded_from 0 (codes "&quot;" ++ t) ≡ 34 ∷ decoded_from 0 t
unfolding decoded_from begins_with
decoded-quot t = refl

decoded-nbsp : (t : List ℕ) → decoded_from 0 (codes "&nbsp;" ++ t) ≡ 194 ∷ 160 ∷ decoded_from 0 t
unfolding decoded_from begins_with
decoded-nbsp t = refl

is_byte : (a b : ℕ) → (a == b) ≡ true → b ≡ a
is_byte a b h = sym (eqb-true a b h)

-- a byte is decoded from its spelling
decoded-escaped_byte : (v : Bool) (b : ℕ) (t : List ℕ) → decoded_from 0 (escaped_byte v b ++ t) ≡ b ∷ decoded_from 0 t
decoded-escaped_byte v b t =
    elim (cases_Bool (b == 38)) [
      | inl e ↦ ap (λ s. decoded_from 0 (s ++ t)) (pick_true (b == 38) _ _ e) ∙ decoded-amp t ∙ ap (λ x. x ∷ decoded_from 0 t) (is_byte b 38 e)
      | inr n38 ↦ ap (λ s. decoded_from 0 (s ++ t)) (pick_false (b == 38) _ _ n38) ∙ elim (cases_Bool (b == 60)) [
        | inl e ↦ ap (λ s. decoded_from 0 (s ++ t)) (pick_true (b == 60) _ _ e) ∙ decoded-lt t ∙ ap (λ x. x ∷ decoded_from 0 t) (is_byte b 60 e)
        | inr n60 ↦ ap (λ s. decoded_from 0 (s ++ t)) (pick_false (b == 60) _ _ n60) ∙ elim (cases_Bool (b == 62)) [
          | inl e ↦ ap (λ s. decoded_from 0 (s ++ t)) (pick_true (b == 62) _ _ e) ∙ decoded-gt t ∙ ap (λ x. x ∷ decoded_from 0 t) (is_byte b 62 e)
          | inr n62 ↦ ap (λ s. decoded_from 0 (s ++ t)) (pick_false (b == 62) _ _ n62) ∙ elim (cases_Bool (v && b == 34)) [
            | inl e ↦ ap (λ s. decoded_from 0 (s ++ t)) (pick_true (v && b == 34) _ _ e) ∙ decoded-quot t ∙ ap (λ x. x ∷ decoded_from 0 t) (is_byte b 34 (and_parts v (b == 34) e).1)
            | inr n34 ↦ ap (λ s. decoded_from 0 (s ++ t)) (pick_false (v && b == 34) _ _ n34) ∙ decoded-byte b t n38
          ]
        ]
      ]
    ]

-- what is escaped is decoded again, whatever follows
pub decoded-escaped : (v : Bool) (bs t : List ℕ) → decoded_from 0 (escaped v bs ++ t) ≡ bs ++ decoded_from 0 t
unfolding escaped
decoded-escaped v [] t = refl
decoded-escaped v (b ∷ []) t = decoded-escaped_byte v b t
decoded-escaped v (b ∷ c ∷ bs) t =
    elim (cases_Bool (b == 194 && c == 160)) [
      | inl e ↦
          let p = and_parts (b == 194) (c == 160) e in
          ap (λ s. decoded_from 0 (s ++ t)) (pick_true (b == 194 && c == 160) _ _ e)
          ∙ decoded-nbsp (escaped v bs ++ t)
          ∙ ap (λ s. 194 ∷ 160 ∷ s) (decoded-escaped v bs t)
          ∙ (λ i. is_byte b 194 p.0 i ∷ is_byte c 160 p.1 i ∷ (bs ++ decoded_from 0 t))
      | inr n ↦
          ap (λ s. decoded_from 0 (s ++ t)) (pick_false (b == 194 && c == 160) _ _ n)
          ∙ ap (decoded_from 0) (append_assoc (escaped_byte v b) (escaped v (c ∷ bs)) t)
          ∙ decoded-escaped_byte v b (escaped v (c ∷ bs) ++ t)
          ∙ ap (λ s. b ∷ s) (decoded-escaped v (c ∷ bs) t)
    ]

-- a letter is read back, whatever follows
pub letters_back : LettersBack
letters_back c t is =
    let one : all_scalars (c ∷ []) ≡ true = and_from _ true is refl in
    let bytes : List ℕ = encode_utf8_all (c ∷ []) in
    ap chars (decoded-escaped false bytes t)
    ∙ chars-append bytes (decoded t) (c ∷ [], (one, refl))
    ∙ ap (λ cs. cs ++ characters t) (chars-encodes (c ∷ []) one)

-- ---- attributes and marks are read back

pub decoded-nil : decoded_from 0 [] ≡ []
unfolding decoded_from
decoded-nil = refl

attr_back : (a : Attr) → all_scalars a.name ≡ true → all_scalars a.value ≡ true → attr_of (canon_attr (attr_bytes a)) ≡ a
attr_back a n v =
    let bytes : List ℕ = encode_utf8_all a.value in
    let value : characters (escaped true bytes) ≡ a.value =
    ap characters (sym (append-nil (escaped true bytes))) ∙ ap chars (decoded-escaped true bytes [] ∙ ap (λ s. bytes ++ s) decoded-nil ∙ append-nil bytes) ∙ chars-encodes a.value v in
    (λ i. record { name = chars-encodes a.name n i; value = value i })

abbrev pub ScalarAttrs : List Attr → Type 0
ScalarAttrs [] = Unit {0}
ScalarAttrs (a ∷ attrs) = (all_scalars a.name ≡ true) × (all_scalars a.value ≡ true) × ScalarAttrs attrs

pub attrs_back : (attrs : List Attr) → ScalarAttrs attrs → attrs_of (canon_attrs (map attr_bytes attrs)) ≡ attrs
attrs_back [] h = refl
attrs_back (a ∷ attrs) h = (λ i. attr_back a h.0 h.1 i ∷ attrs_back attrs h.2 i)

-- ---- annotation tags have no kind

pub same_bytes : (a b : List ℕ) → bytes_eq a b ≡ true → a ≡ b
same_bytes [] [] h = refl
same_bytes [] (y ∷ ys) h = cc
same_bytes (x ∷ xs) [] h = cc
same_bytes (x ∷ xs) (y ∷ ys) h =
    let p = and_parts (nat_eq x y) (bytes_eq xs ys) h in (λ i. eqb-true x y p.0 i ∷ same_bytes xs ys p.1 i)

pub equal_names : (a b : List ℕ) → name_same a b ≡ true → a ≡ b
unfolding name_same
equal_names a b h = same_bytes a b h

-- each tag of the list has no kind
abbrev AllWithoutKind : List (List ℕ) → Type 0
AllWithoutKind [] = Unit {0}
AllWithoutKind (n ∷ ns) = (kind_of_tag n ≡ None) × AllWithoutKind ns

annotations-without_kind : AllWithoutKind annotation_tags
annotations-without_kind =
    (refl, (refl, (refl, (refl, (refl, (refl, (refl, (refl, (refl, (refl, (refl, (refl, (refl, (refl, (refl, (refl, (refl, (refl, (refl, (refl, (refl, (refl, (refl, (refl, tt))))))))))))))))))))))))

without_kind : (ns : List (List ℕ)) → AllWithoutKind ns → (name : List ℕ) → is_one_of ns name ≡ true → kind_of_tag name ≡ None
without_kind [] a name h = cc
without_kind (n ∷ ns) a name h =
    elim (cases_Bool (bytes_eq n name)) [
      | inl e ↦ ap kind_of_tag (sym (same_bytes n name e)) ∙ a.0
      | inr e ↦ without_kind ns a.1 name (sym (ap (λ b. b || is_one_of ns name) e) ∙ h)
    ]

pub annotation-fits : (name : List ℕ) → is_annotation_tag name ≡ true → (ms : List Mark) (children : Parts) → has_child children ≡ true → fit_of (Content ms) name children ≡ Annotation
annotation-fits name h ms children child =
    ap (λ k. fit_in_content name children k) (without_kind annotation_tags annotations-without_kind name h)
    ∙ pick_true (is_annotation_tag name && has_child children) Annotation (Whole AlienInline) (and_from (is_annotation_tag name) (has_child children) h child)
