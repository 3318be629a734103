-- The attributes of a start tag have names apart, read as characters.
use Rattle.std.proofs.Common.{◌≡◌, ℕ, zero, suc, ◌<◌, ◌==◌, Bool, true, false, not, ◌&&◌, ◌||◌, nat_le, List, [], ◌∷◌, length, refl, sym, ◌∙◌, subst, arith}
use Rattle.std.specs.Prelude.{chars, IsAscii, slice_index_or}
use Rattle.std.specs.List.{list_all}
use Rattle.std.proofs.lemmas.Bool.{and_parts, or_parts}
use Rattle.std.proofs.lemmas.Str.{chars-IsAscii}
use Rattle.std.proofs.lemmas.Slice.Eq.{bytes_eq-Decides}
use Rattle.std.proofs.lemmas.Grind.{common_steps}
use Rattle.model_spelling.specs.Grammar.{Attr as Spelled, is_name_byte, name_same, is_attr_name, is_attr, has_name, are_distinct, are_attrs, is_start, is_tag_name, is_run}
use Rattle.ve_kinds.specs.Tags.{is_void}
use Rattle.ve_base.specs.Names.{names, NamesApart}
use Rattle.model_page.specs.Heads.{attrs_of}

name_byte-small : (b : ℕ) → is_name_byte b ≡ true → b < 128
name_byte-small b h = grind (arith, common_steps)

bytes-IsAscii : (bs : List ℕ) → list_all is_name_byte bs ≡ true → IsAscii bs
bytes-IsAscii [] h i = omega arith
bytes-IsAscii (b ∷ bs) h zero = name_byte-small b (and_parts (is_name_byte b) (list_all is_name_byte bs) h).0
bytes-IsAscii (b ∷ bs) h (suc i) = bytes-IsAscii bs (and_parts (is_name_byte b) (list_all is_name_byte bs) h).1 i

name-kept : (name : List ℕ) → is_attr_name name ≡ true → chars name ≡ name
name-kept [] h = cc
name-kept (b ∷ bs) h = chars-IsAscii (b ∷ bs) (bytes-IsAscii (b ∷ bs) h)

same_itself : (name : List ℕ) → name_same name name ≡ true
unfolding name_same
same_itself name = (bytes_eq-Decides name name).1 refl

abbrev AreNames : List Spelled → Type 0
AreNames [] = Unit {0}
AreNames (a ∷ attrs) = (is_attr_name a.name ≡ true) × AreNames attrs

are_names : (attrs : List Spelled) → list_all is_attr attrs ≡ true → AreNames attrs
are_names [] h = tt
are_names (a ∷ attrs) h =
    let p = and_parts (is_attr a) (list_all is_attr attrs) h in
    let q = and_parts (is_attr_name a.name && (a.quote == 34 || a.quote == 39)) (is_run a.quote a.value) p.0 in
    ((and_parts (is_attr_name a.name) _ q.0).0, are_names attrs p.1)

-- a name that no attribute has is none of the names read as characters
absent : (name : List ℕ) (attrs : List Spelled) → is_attr_name name ≡ true → AreNames attrs → has_name name attrs ≡ false →
    (k : ℕ) → k < length (names (attrs_of attrs)) → slice_index_or (names (attrs_of attrs)) k (chars name) ≡ chars name → ⊥
absent name [] n ns h k below e = omega arith
absent name (a ∷ attrs) n ns h zero below e =
    let same : a.name ≡ name = sym (name-kept a.name ns.0) ∙ e ∙ name-kept name n in
    let one : name_same a.name name ≡ false = (or_parts (name_same a.name name) (has_name name attrs) h).0 in
    let two : name_same a.name name ≡ true = subst (λ m. name_same a.name m ≡ true) same (same_itself a.name) in
    absurd (let f : false ≡ true = sym one ∙ two in cc)
absent name (a ∷ attrs) n ns h (suc k) below e = absent name attrs n ns.1 (or_parts (name_same a.name name) (has_name name attrs) h).1 k (omega arith) e

not_true : (b : Bool) → not b ≡ true → b ≡ false
not_true true h = cc
not_true false h = refl

apart_names : (attrs : List Spelled) → AreNames attrs → are_distinct attrs ≡ true → NamesApart (attrs_of attrs)
apart_names [] ns h = tt
apart_names (a ∷ attrs) ns h =
    let p = and_parts (not (has_name a.name attrs)) (are_distinct attrs) h in
    ((λ c. absent a.name attrs ns.0 ns.1 (not_true (has_name a.name attrs) p.0) c.0 c.1 c.2), apart_names attrs ns.1 p.1)

pub start_apart : (name : List ℕ) (attrs : List Spelled) (slash : Bool) → is_start name attrs slash ≡ true → NamesApart (attrs_of attrs)
start_apart name attrs slash h =
    let p = and_parts (is_tag_name name && are_attrs attrs) (not slash || is_void name) h in
    let q = and_parts (is_tag_name name) (are_attrs attrs) p.0 in
    let r = and_parts (list_all is_attr attrs && are_distinct attrs) (nat_le (length attrs) 256) q.1 in
    let s = and_parts (list_all is_attr attrs) (are_distinct attrs) r.0 in
    apart_names attrs (are_names attrs s.0) s.1
