-- Leaves, and the attributes of references.
use Rattle.std.proofs.Common.{◌≡◌, ℕ, zero, suc, ◌<◌, ◌≤◌, Bool, true, false, List, [], ◌∷◌, ◌++◌, length, take, map, get_or, refl, sym, ap, ◌∙◌, subst, append_assoc, arith, Option, Some}
use Rattle.std.specs.Prelude.{option_map, encode_utf8_all, bytes_eq, codes, is_some, Contains, if◌then◌else◌, option_and_then}
use Rattle.std.specs.List.{flat_map}
use Rattle.std.proofs.lemmas.Bool.{and_parts}
use Rattle.std.proofs.lemmas.List.{append-nil, take_all, length-map, get_or-map}
use Rattle.std.proofs.lemmas.List.Folds.{flat_map-map}
use Rattle.std.proofs.lemmas.Slice.Eq.{bytes_eq-Decides}
use Rattle.std.proofs.lemmas.Str.{encodes_same}
use Rattle.ve_base.specs.declared.attrs.Attr.{Attr}
use Rattle.ve_base.specs.declared.head.Head.{Head}
use Rattle.ve_base.specs.Names.{names, NamesApart}
use Rattle.ve_kinds.specs.declared.kind.Kind.{Kind}
use Rattle.ve_kinds.specs.declared.kind.Kind.TheVariants.{Br, Img, Ref}
use Rattle.model_spelling.specs.Grammar.{attr_text}
use Rattle.model_spelling.specs.Written.{attr_bytes, canon_attr, canon_start}
use Rattle.model_page.specs.DataMw.{reference_of}
use Rattle.model_page.specs.Editable.{data_mw, is_editable_ref}
use Rattle.model_page_write.specs.Nodes.{Start}
use Rattle.model_page_write.specs.Written.{Writer, leaf_text, with_mw}
use Rattle.ve_node_text.specs.Leaves.{CanCompose, leaf_of, ref_start}

pub leaf_is : (w : Writer) (s : Start) (kind : Kind) → leaf_text w s kind ≡ leaf_of s.head (option_map w.html s.body) kind
leaf_is w s Br = refl
leaf_is w s Img = refl
leaf_is w s Ref = refl
leaf_is w s _ = refl

-- ---- the `data-mw` among attributes

mw_first : (x a : Attr) (xs : List Attr) → a ≡ x → bytes_eq (encode_utf8_all a.name) (codes "data-mw") ≡ true → data_mw (x ∷ xs) ≡ Some (encode_utf8_all a.value)
mw_first x a xs is mw =
    subst (λ (y : Attr). data_mw (y ∷ xs) ≡ Some (encode_utf8_all a.value)) is
    (ap (λ b. if b then Some (encode_utf8_all a.value) else data_mw xs) mw)

has_name : (xs : List Attr) (i : ℕ) (a : Attr) → i < length xs → a ≡ get_or xs i a → Contains (names xs) a.name
has_name xs i a lt is =
    (i, omega (arith, lt, length-map xs (λ (attr : Attr). attr.name)), get_or-map (λ (attr : Attr). attr.name) xs i a a.name lt ∙ sym (ap (λ (attr : Attr). attr.name) is))

same_name : (x a : Attr) → bytes_eq (encode_utf8_all x.name) (codes "data-mw") ≡ true → bytes_eq (encode_utf8_all a.name) (codes "data-mw") ≡ true → a.name ≡ x.name
same_name x a e f =
    encodes_same a.name x.name ((bytes_eq-Decides (encode_utf8_all a.name) (codes "data-mw")).0 f ∙ sym ((bytes_eq-Decides (encode_utf8_all x.name) (codes "data-mw")).0 e))

mw_by : (x a : Attr) (xs : List Attr) (b : Bool) → bytes_eq (encode_utf8_all x.name) (codes "data-mw") ≡ b → ¬ Contains (names xs) x.name → Contains (names xs) a.name →
    bytes_eq (encode_utf8_all a.name) (codes "data-mw") ≡ true → data_mw xs ≡ Some (encode_utf8_all a.value) →
    (if b then Some (encode_utf8_all x.value) else data_mw xs) ≡ Some (encode_utf8_all a.value)
mw_by x a xs true e other has mw later = absurd (other (subst (Contains (names xs)) (same_name x a e mw) has))
mw_by x a xs false e other has mw later = later

-- where names are apart, the one of that name is the first
mw_is : (attrs : List Attr) (i : ℕ) (a : Attr) → NamesApart attrs → i < length attrs → a ≡ get_or attrs i a → bytes_eq (encode_utf8_all a.name) (codes "data-mw") ≡ true →
    data_mw attrs ≡ Some (encode_utf8_all a.value)
mw_is [] i a apart lt is mw = absurd (omega (arith, lt))
mw_is (x ∷ xs) zero a apart lt is mw = mw_first x a xs is mw
mw_is (x ∷ xs) (suc i) a apart lt is mw =
    mw_by x a xs (bytes_eq (encode_utf8_all x.name) (codes "data-mw")) refl apart.0 (has_name xs i a (omega (arith, lt)) is) mw (mw_is xs i a apart.1 (omega (arith, lt)) is mw)

pub can_compose : (head : Head) (attrs : List Attr) (i : ℕ) (a : Attr) → is_editable_ref head ≡ true → attrs ≡ head.attrs → NamesApart head.attrs → i < length attrs → a ≡ get_or attrs i a → CanCompose a
can_compose head attrs i a editable same apart lt is mw =
    let names_apart : NamesApart attrs = subst NamesApart (sym same) apart in
    let both = and_parts (is_some head.reference) (is_some (option_and_then reference_of (data_mw head.attrs))) editable in
    sym (ap (λ m. is_some (option_and_then reference_of m)) (ap data_mw (sym same) ∙ mw_is attrs i a names_apart lt is mw)) ∙ both.1

-- ---- the start tag of a reference

-- an attribute as it is written where the body has this text
abbrev pub ref_attr : Option (List ℕ) → Attr → List ℕ
ref_attr body a = attr_text (canon_attr (with_mw (attr_bytes a) body))

start_is : (tag : List ℕ) (body : Option (List ℕ)) (attrs : List Attr) → (60 ∷ tag ++ flat_map (ref_attr body) attrs) ++ 62 ∷ [] ≡ canon_start tag (map (λ a. with_mw (attr_bytes a) body) attrs)
start_is tag body attrs =
    ap (λ (l : List ℕ). (60 ∷ tag ++ l) ++ 62 ∷ [])
    (sym (flat_map-map attr_text canon_attr (map (λ a. with_mw (attr_bytes a) body) attrs) ∙ flat_map-map (λ p. attr_text (canon_attr p)) (λ a. with_mw (attr_bytes a) body) attrs))

pub start_begun : (old a b text tag : List ℕ) → a ≡ old ++ 60 ∷ [] → b ≡ a ++ text → text ≡ encode_utf8_all tag → b ≡ old ++ (60 ∷ encode_utf8_all tag ++ [])
start_begun old a b text tag e f g =
    f ∙ ap (λ (l : List ℕ). l ++ text) e ∙ append_assoc old (60 ∷ []) text ∙ ap (λ (l : List ℕ). old ++ (60 ∷ l)) (g ∙ sym (append-nil (encode_utf8_all tag)))

pub start_done : (head : Head) (body : Option (List ℕ)) (old before now : List ℕ) (items : List Attr) (i : ℕ) → now ≡ before ++ 62 ∷ [] →
    before ≡ old ++ (60 ∷ encode_utf8_all head.tag ++ flat_map (ref_attr body) (take i items)) → length items ≤ i → items ≡ head.attrs → now ≡ old ++ ref_start head body
start_done head body old before now items i e f le same =
    let all : take i items ≡ head.attrs = take_all i items le ∙ same in
    e ∙ ap (λ (l : List ℕ). l ++ 62 ∷ []) f
    ∙ append_assoc old (60 ∷ encode_utf8_all head.tag ++ flat_map (ref_attr body) (take i items)) (62 ∷ [])
    ∙ ap (λ (l : List Attr). old ++ ((60 ∷ encode_utf8_all head.tag ++ flat_map (ref_attr body) l) ++ 62 ∷ [])) all
    ∙ ap (λ (l : List ℕ). old ++ l) (start_is (encode_utf8_all head.tag) body head.attrs)
