-- The written form of a reference.
use Rattle.std.proofs.Common.{◌≡◌, ℕ, Bool, true, false, if◌then◌else◌, List, [], ◌∷◌, ◌++◌, map, Option, Some, None, option_map, option_and_then, bytes_eq, refl, sym, ap, ◌∙◌, append-nil}
use Rattle.std.specs.Prelude.{codes, encode_utf8_all}
use Rattle.std.proofs.lemmas.Slice.Eq.{bytes_eq-Decides}
use Rattle.model_spelling.specs.Grammar.{Attr as Spelled, start_text, end_text}
use Rattle.model_spelling.specs.Forest.{spelling}
use Rattle.model_spelling.specs.Written.{decoded, escaped, canon_attr, canon_attrs, attr_bytes}
use Rattle.ve_base.specs.declared.attrs.Attr.{Attr}
use Rattle.model_page.specs.Elements.{value_named}
use Rattle.model_page.specs.DataMw.{reference_of, composed_mw}
use Rattle.model_page.specs.Editable.{data_mw}
use Rattle.model_page_write.specs.Written.{with_mw}
use Rattle.model_page_law.specs.Formed.{value_of_first}
use Rattle.model_page_law.specs.WrittenReference.{ReferenceIsWritten, ReferenceHasBody}
use Rattle.model_page_law.proofs.EscapeLemmas.{decoded-escaped, decoded-nil}
use Rattle.model_page_law.proofs.ComposedLemmas.{differ, composed_owns}

-- a value is decoded from its spelling
value-back : (v : List ℕ) → decoded (escaped true v) ≡ v
value-back v = ap decoded (sym (append-nil (escaped true v))) ∙ decoded-escaped true v [] ∙ ap (λ t. v ++ t) decoded-nil ∙ append-nil v

-- the attributes as they are spelled
abbrev written_attrs : Option (List ℕ) → List Attr → List Spelled
written_attrs html attrs = canon_attrs (map (λ a. with_mw (attr_bytes a) html) attrs)

mw-back : (html : Option (List ℕ)) (attrs : List Attr) → value_named (codes "data-mw") (written_attrs html attrs) ≡ option_map (λ mw. composed_mw mw html) (data_mw attrs)
mw-back html [] = refl
mw-back html (a ∷ attrs) = by (bytes_eq (encode_utf8_all a.name) (codes "data-mw")) refl (mw-back html attrs)
  where
    by : (c : Bool) → bytes_eq (encode_utf8_all a.name) (codes "data-mw") ≡ c → value_named (codes "data-mw") (written_attrs html attrs) ≡ option_map (λ mw. composed_mw mw html) (data_mw attrs) →
        value_named (codes "data-mw") (canon_attr (if c then (encode_utf8_all a.name, composed_mw (encode_utf8_all a.value) html) else attr_bytes a) ∷ written_attrs html attrs)
        ≡ option_map (λ mw. composed_mw mw html) (if c then Some (encode_utf8_all a.value) else data_mw attrs)
    by true e rec =
        ap (λ c. if c then Some (decoded (escaped true (composed_mw (encode_utf8_all a.value) html))) else value_named (codes "data-mw") (written_attrs html attrs)) e
        ∙ ap (λ v. Some v) (value-back (composed_mw (encode_utf8_all a.value) html))
    by false e rec = ap (λ c. if c then Some (decoded (escaped true (encode_utf8_all a.value))) else value_named (codes "data-mw") (written_attrs html attrs)) e ∙ rec

other-back : (html : Option (List ℕ)) (q : List ℕ) → (q ≡ codes "data-mw" → ⊥) → (attrs : List Attr) → value_named q (written_attrs html attrs) ≡ value_of_first q attrs
other-back html q other [] = refl
other-back html q other (a ∷ attrs) = by (bytes_eq (encode_utf8_all a.name) (codes "data-mw")) refl (other-back html q other attrs)
  where
    by : (c : Bool) → bytes_eq (encode_utf8_all a.name) (codes "data-mw") ≡ c → value_named q (written_attrs html attrs) ≡ value_of_first q attrs →
        value_named q (canon_attr (if c then (encode_utf8_all a.name, composed_mw (encode_utf8_all a.value) html) else attr_bytes a) ∷ written_attrs html attrs)
        ≡ (if bytes_eq (encode_utf8_all a.name) q then Some (encode_utf8_all a.value) else value_of_first q attrs)
    by true e rec =
        let apart = differ (encode_utf8_all a.name) q (bytes_eq (encode_utf8_all a.name) q) refl (λ same. other (sym same ∙ (bytes_eq-Decides (encode_utf8_all a.name) (codes "data-mw")).0 e)) in
        ap (λ c. if c then Some (decoded (escaped true (composed_mw (encode_utf8_all a.value) html))) else value_named q (written_attrs html attrs)) apart
        ∙ rec
        ∙ ap (λ c. if c then Some (encode_utf8_all a.value) else value_of_first q attrs) (sym apart)
    by false e rec = (λ i. if bytes_eq (encode_utf8_all a.name) q then Some (value-back (encode_utf8_all a.value) i) else rec i)

pub reference_is_written : ReferenceIsWritten
reference_is_written w s children e =
    let html : Option (List ℕ) = option_map w.html s.body in
    let tag : List ℕ = encode_utf8_all s.head.tag in
    record {
      attrs = written_attrs html s.head.attrs;
      text_is = ap (λ t. start_text tag (written_attrs html s.head.attrs) false ++ t ++ end_text tag) (sym e) ∙ sym (append-nil (start_text tag (written_attrs html s.head.attrs) false ++ spelling children ++ end_text tag));
      mw = mw-back html s.head.attrs;
      others = λ q other. other-back html q other s.head.attrs;
    }

pub reference_has_body : ReferenceHasBody
reference_has_body w s children written r html f e b h = ap (option_and_then reference_of) (written.mw ∙ ap (λ x. option_map (λ mw. composed_mw mw x) (data_mw s.head.attrs)) b) ∙ by (data_mw s.head.attrs) e
  where
    by : (mw : Option (List ℕ)) → option_and_then reference_of mw ≡ Some r → option_and_then reference_of (option_map (λ m. composed_mw m (Some html)) mw) ≡ Some (record { group = r.group; name = r.name; html = Some html })
    by None e = cc
    by (Some mw) e = composed_owns mw html r f e h
