-- The name and the attributes of an element that is not kept whole are ones that a line may write.
use Rattle.std.proofs.Common.{◌≡◌, ℕ, Bool, true, false, not, ◌&&◌, ◌||◌, ◌==◌, if◌then◌else◌, nat_le, List, [], ◌∷◌, length, Option, Some, None, is_some, refl, sym, ap, ◌∙◌, bytes_eq, IsUtf8}
use Rattle.std.specs.Prelude.{chars, codes}
use Rattle.std.specs.List.{list_any, list_all}
use Rattle.std.proofs.lemmas.Bool.{and_parts, and_from, not-true, or_parts, or_from}
use Rattle.std.proofs.lemmas.Slice.Eq.{bytes_eq-Decides}
use Rattle.ve_kinds.specs.Tags.{is_void}
use Rattle.ve_base.specs.declared.attrs.Attr.{Attr}
use Rattle.ve_base.specs.Limits.{max_attributes}
use Rattle.model_items.specs.Same.{text_same}
use Rattle.model_items.proofs.SameLemmas.{Means-text_same}
use Rattle.model_spelling.specs.Grammar.{Attr as Spelled, begins_with, name_same, is_attr as is_spelled, is_attr_name, is_run, is_start, is_tag_name, has_name, are_distinct, are_attrs as are_spelled}
use Rattle.model_spelling.specs.Written.{decoded}
use Rattle.model_spelling.proofs.Proved.{law_decodes_utf8}
use Rattle.model_page.specs.Elements.{about_of, has_type, is_held, value_named, words_in, words_of}
use Rattle.model_page.specs.Heads.{attr_of, attrs_of, characters}
use Rattle.model_page_law.proofs.PageRefers.{AttrsUtf8}
use Rattle.model_world.specs.Attributes.{are_apart, holds_whole}
use Rattle.model_world_law.specs.Writable.{is_attr, is_text}
use Rattle.model_world_law.proofs.WritableTexts.{IsPlain, attr_name_plain, no_type, tag_name_plain, value_text}

-- ---- one attribute

spelled_name : (a : Spelled) → is_spelled a ≡ true → is_attr_name a.name ≡ true
spelled_name a h = (and_parts (is_attr_name a.name) _ (and_parts (is_attr_name a.name && (a.quote == 34 || a.quote == 39)) (is_run a.quote a.value) h).0).0

attr_passes : (a : Spelled) → is_spelled a ≡ true → IsUtf8 a.value → is_attr (attr_of a) ≡ true
attr_passes a h u =
    let name = attr_name_plain a.name (spelled_name a h) in
    let run = (and_parts (is_attr_name a.name && (a.quote == 34 || a.quote == 39)) (is_run a.quote a.value) h).1 in
    and_from (is_text (chars a.name) && is_attr_name (chars a.name)) (is_text (characters a.value))
    (and_from (is_text (chars a.name)) (is_attr_name (chars a.name)) name.text (ap is_attr_name name.same ∙ spelled_name a h))
    (value_text a.quote a.value u run)

attrs_pass : (attrs : List Spelled) → list_all is_spelled attrs ≡ true → AttrsUtf8 attrs → list_all is_attr (attrs_of attrs) ≡ true
attrs_pass [] h u = refl
attrs_pass (a ∷ attrs) h u =
    let p = and_parts (is_spelled a) (list_all is_spelled attrs) h in
    and_from (is_attr (attr_of a)) (list_all is_attr (attrs_of attrs)) (attr_passes a p.0 u.1) (attrs_pass attrs p.1 u.2)

-- ---- their names are apart

other_text : (name word : List ℕ) → chars name ≡ name → bytes_eq name word ≡ false → text_same (chars name) word ≡ false
other_text name word e h = by (text_same (chars name) word) refl
  where
    by : (b : Bool) → text_same (chars name) word ≡ b → b ≡ false
    by false f = refl
    by true f = sym ((bytes_eq-Decides name word).1 (sym e ∙ Means-text_same.equal (chars name) word f)) ∙ h

other_name : (name word : List ℕ) → IsPlain name → IsPlain word → name_same word name ≡ false → text_same (chars name) (chars word) ≡ false
unfolding name_same
other_name name word p q h = by (text_same (chars name) (chars word)) refl h
  where
    by : (b : Bool) → text_same (chars name) (chars word) ≡ b → bytes_eq word name ≡ false → b ≡ false
    by false f h = refl
    by true f h = sym ((bytes_eq-Decides word name).1 (sym q.same ∙ sym (Means-text_same.equal (chars name) (chars word) f) ∙ p.same)) ∙ h

unnamed : (name : List ℕ) (attrs : List Spelled) → IsPlain name → list_all is_spelled attrs ≡ true → has_name name attrs ≡ false → list_any (λ (b : Attr). text_same (chars name) b.name) (attrs_of attrs) ≡ false
unnamed name [] p h n = refl
unnamed name (a ∷ attrs) p h n =
    let q = and_parts (is_spelled a) (list_all is_spelled attrs) h in
    let r = or_parts (name_same a.name name) (has_name name attrs) n in
    or_from (text_same (chars name) (chars a.name)) _ (other_name name a.name p (attr_name_plain a.name (spelled_name a q.0)) r.0) (unnamed name attrs p q.1 r.1)

names_apart : (attrs : List Spelled) → list_all is_spelled attrs ≡ true → are_distinct attrs ≡ true → are_apart (attrs_of attrs) ≡ true
names_apart [] h d = refl
names_apart (a ∷ attrs) h d =
    let p = and_parts (is_spelled a) (list_all is_spelled attrs) h in
    let q = and_parts (not (has_name a.name attrs)) (are_distinct attrs) d in
    and_from (not (list_any (λ (b : Attr). text_same (chars a.name) b.name) (attrs_of attrs))) (are_apart (attrs_of attrs))
    (ap not (unnamed a.name attrs (attr_name_plain a.name (spelled_name a p.0)) p.1 (not-true (has_name a.name attrs) q.0)))
    (names_apart attrs p.1 q.1)

-- ---- none says that the element is kept whole

abbrev none_typed : Option (List ℕ) → Type 0
none_typed value = list_any (begins_with (codes "mw:")) (words_in value) ≡ false

none_if : {A : Type 0} (c : Bool) (x : A) (later : Option A) → (if c then Some x else later) ≡ None → (c ≡ false) × (later ≡ None)
none_if true x later h = cc
none_if false x later h = (refl, h)

-- a name that no attribute has has no value
no_value : (name : List ℕ) (attrs : List Spelled) → has_name name attrs ≡ false → value_named name attrs ≡ None
unfolding name_same
no_value name [] h = refl
no_value name (a ∷ attrs) h =
    let p = or_parts (name_same a.name name) (has_name name attrs) h in
    by (bytes_eq a.name name) p.0 (no_value name attrs p.1)
  where
    by : (c : Bool) → c ≡ false → value_named name attrs ≡ None → (if c then Some (decoded a.value) else value_named name attrs) ≡ None
    by true e rest = cc
    by false e rest = rest

none_whole : (attrs : List Spelled) → list_all is_spelled attrs ≡ true → are_distinct attrs ≡ true → AttrsUtf8 attrs → about_of attrs ≡ None → none_typed (value_named (codes "typeof") attrs) →
    list_any holds_whole (attrs_of attrs) ≡ false
none_whole [] h d u n t = refl
none_whole (a ∷ attrs) h d u n t =
    let p = and_parts (is_spelled a) (list_all is_spelled attrs) h in
    let q = and_parts (not (has_name a.name attrs)) (are_distinct attrs) d in
    let plain = attr_name_plain a.name (spelled_name a p.0) in
    let first = none_if (bytes_eq a.name (codes "about")) (decoded a.value) (about_of attrs) n in
    let r = by (bytes_eq a.name (codes "typeof")) refl (not-true (has_name a.name attrs) q.0) t in
    or_from (holds_whole (attr_of a)) (list_any holds_whole (attrs_of attrs))
    (or_from (text_same (chars a.name) (codes "about")) _ (other_text a.name (codes "about") plain.same first.0) (r.0 plain.same))
    (none_whole attrs p.1 q.1 u.2 first.1 r.1)
  where
    both : (x y : Bool) → y ≡ false → (x && y) ≡ false
    both true y e = e
    both false y e = refl

    left : (x y : Bool) → x ≡ false → (x && y) ≡ false
    left true y e = cc
    left false y e = refl

    by : (c : Bool) → bytes_eq a.name (codes "typeof") ≡ c → has_name a.name attrs ≡ false →
        none_typed (if c then Some (decoded a.value) else value_named (codes "typeof") attrs) →
        (chars a.name ≡ a.name → (text_same (chars a.name) (codes "typeof") && list_any (begins_with (codes "mw:")) (words_of (characters a.value))) ≡ false)
        × none_typed (value_named (codes "typeof") attrs)
    by true e f g =
        let same : a.name ≡ codes "typeof" = (bytes_eq-Decides a.name (codes "typeof")).0 e in (
          (λ s. both (text_same (chars a.name) (codes "typeof")) _ (no_type (decoded a.value) (law_decodes_utf8 a.value u.1) g)),
          ap (λ v. list_any (begins_with (codes "mw:")) (words_in v)) (no_value (codes "typeof") attrs (ap (λ n. has_name n attrs) (sym same) ∙ f)),
        )
    by false e f g = ((λ s. left (text_same (chars a.name) (codes "typeof")) _ (other_text a.name (codes "typeof") s e)), g)

none_there : (o : Option (List ℕ)) → is_some o ≡ false → o ≡ None
none_there None h = refl
none_there (Some x) h = cc

-- ---- a tag

pub record TagPasses (name : List ℕ) (attrs : List Spelled) : Type 0 where
  pub plain : IsPlain name
  pub each : list_all is_attr (attrs_of attrs) ≡ true
  pub apart : are_apart (attrs_of attrs) ≡ true
  pub free : list_any holds_whole (attrs_of attrs) ≡ false

pub tag_passes : (name : List ℕ) (attrs : List Spelled) (slash : Bool) → is_start name attrs slash ≡ true → is_held attrs ≡ false → AttrsUtf8 attrs → TagPasses name attrs
tag_passes name attrs slash h held u =
    let p = and_parts (is_tag_name name && are_spelled attrs) (not slash || is_void name) h in
    let q = and_parts (is_tag_name name) (are_spelled attrs) p.0 in
    let r = and_parts (list_all is_spelled attrs && are_distinct attrs) (nat_le (length attrs) max_attributes) q.1 in
    let s = and_parts (list_all is_spelled attrs) (are_distinct attrs) r.0 in
    let free = or_parts (is_some (about_of attrs)) (has_type (begins_with (codes "mw:")) attrs) held in
    record {
      plain = tag_name_plain name q.0;
      each = attrs_pass attrs s.0 u;
      apart = names_apart attrs s.0 s.1;
      free = none_whole attrs s.0 s.1 u (none_there (about_of attrs) free.0) free.1;
    }
