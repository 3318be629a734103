-- Forests one after the other, and that a forest that is spelled has no fault of a forest.
use Rattle.std.proofs.Common.{◌≡◌, ◌≢◌, ℕ, zero, suc, ◌+◌, Bool, true, false, not, ◌&&◌, ◌||◌, List, [], ◌∷◌, ◌++◌, length, Option, refl, sym, ap, ◌∙◌, arith, append_assoc, inl, inr, ◌⊎◌}
use Rattle.std.specs.List.{list_any, list_all}
use Rattle.std.proofs.lemmas.List.{length-append}
use Rattle.std.proofs.lemmas.Bool.{ne_eqb}
use Rattle.std.proofs.lemmas.Slice.Eq.{bytes_eq-Decides}
use Rattle.model_spelling.specs.declared.scan_fault.ScanFault.{ScanFault}
use Rattle.model_spelling.specs.Grammar.{Attr, Token, Start, End, Chars, Raw, Comment, token_text, start_text, end_text, name_same, is_text, is_verbatim, is_start, comment_close}
use Rattle.ve_kinds.specs.Tags.{raw_tags, is_void, is_raw}
use Rattle.model_spelling.specs.Tokens.{Placed}
use Rattle.model_spelling.specs.Forest.{Forest, Nothing, Text, Remark, Void, RawElement, Element, starts_with_text, spelling, is_forest, then_forest}
use Rattle.model_spelling.specs.ForestNodes.{forest_size, forest_nodes}
use Rattle.model_spelling.specs.Faults.{OpenElement, fault_in}
use Rattle.model_spelling.proofs.AttrReading.{and_left, and_right}

after_part : (part : List ℕ) (rest g : Forest) → spelling (then_forest rest g) ≡ spelling rest ++ spelling g → part ++ spelling (then_forest rest g) ≡ (part ++ spelling rest) ++ spelling g
after_part part rest g e = ap (λ (l : List ℕ). part ++ l) e ∙ sym (append_assoc part (spelling rest) (spelling g))

pub spelling_then : (f g : Forest) → spelling (then_forest f g) ≡ spelling f ++ spelling g
spelling_then Nothing g = refl
spelling_then (Text text rest) g = after_part (token_text (Chars text)) rest g (spelling_then rest g)
spelling_then (Remark text rest) g = after_part (token_text (Comment text)) rest g (spelling_then rest g)
spelling_then (Void name attrs slash rest) g = after_part (start_text name attrs slash) rest g (spelling_then rest g)
spelling_then (RawElement name attrs text rest) g = after_part (start_text name attrs false ++ text ++ end_text name) rest g (spelling_then rest g)
spelling_then (Element name attrs children rest) g = after_part (start_text name attrs false ++ spelling children ++ end_text name) rest g (spelling_then rest g)

pub count_then : (f g : Forest) → forest_size (then_forest f g) ≡ forest_size f + forest_size g
count_then Nothing g = omega arith
count_then (Text text rest) g = omega (arith, count_then rest g)
count_then (Remark text rest) g = omega (arith, count_then rest g)
count_then (Void name attrs slash rest) g = omega (arith, count_then rest g)
count_then (RawElement name attrs [] rest) g = omega (arith, count_then rest g)
count_then (RawElement name attrs (b ∷ bs) rest) g = omega (arith, count_then rest g)
count_then (Element name attrs children rest) g = omega (arith, count_then rest g)

-- there are as many as the forest has
pub length_forest_nodes : (n at : ℕ) (f : Forest) → length (forest_nodes n at f) ≡ forest_size f
length_forest_nodes n at Nothing = refl
length_forest_nodes n at (Text text rest) = omega (arith, length_forest_nodes (n + 1) (at + length text) rest)
length_forest_nodes n at (Remark text rest) = omega (arith, length_forest_nodes (n + 1) (at + length (token_text (Comment text))) rest)
length_forest_nodes n at (Void name attrs slash rest) = omega (arith, length_forest_nodes (n + 1) (at + length (start_text name attrs slash)) rest)
length_forest_nodes n at (RawElement name attrs [] rest) = omega (arith, length_forest_nodes (n + 1) (at + length (start_text name attrs false) + length (end_text name)) rest)
length_forest_nodes n at (RawElement name attrs (b ∷ bs) rest) = omega (arith, length_forest_nodes (n + 2) (at + length (start_text name attrs false) + length (b ∷ bs) + length (end_text name)) rest)
length_forest_nodes n at (Element name attrs children rest) =
    omega (
      arith,
      length_forest_nodes (n + 1) (at + length (start_text name attrs false)) children,
      length_forest_nodes (n + 1 + forest_size children) (at + length (start_text name attrs false) + length (spelling children) + length (end_text name)) rest,
      length-append (forest_nodes (n + 1) (at + length (start_text name attrs false)) children) (forest_nodes (n + 1 + forest_size children) (at + length (start_text name attrs false) + length (spelling children) + length (end_text name)) rest),
    )

-- ---- the tokens of a forest have no fault

abbrev pub placed : Token → ℕ → Placed
placed token at = record { token = token; from = at; to = at + length (token_text token) }

-- the tokens of a forest that starts at the byte at
abbrev pub tokens_in : ℕ → Forest → List Placed
tokens_in at Nothing = []
tokens_in at (Text text rest) = placed (Chars text) at ∷ tokens_in (at + length text) rest
tokens_in at (Remark text rest) = placed (Comment text) at ∷ tokens_in (at + length (token_text (Comment text))) rest
tokens_in at (Void name attrs slash rest) = placed (Start name attrs slash) at ∷ tokens_in (at + length (start_text name attrs slash)) rest
tokens_in at (RawElement name attrs [] rest) =
    let from = at + length (start_text name attrs false) in
    placed (Start name attrs false) at ∷ placed (End name) from ∷ tokens_in (from + length (end_text name)) rest
tokens_in at (RawElement name attrs (b ∷ bs) rest) =
    let from = at + length (start_text name attrs false) in
    let end = from + length (b ∷ bs) in
    placed (Start name attrs false) at ∷ placed (Raw (b ∷ bs)) from ∷ placed (End name) end ∷ tokens_in (end + length (end_text name)) rest
tokens_in at (Element name attrs children rest) =
    let from = at + length (start_text name attrs false) in
    let end = from + length (spelling children) in
    placed (Start name attrs false) at ∷ (tokens_in from children ++ placed (End name) end ∷ tokens_in (end + length (end_text name)) rest)

pub same_bytes : (name : List ℕ) → name_same name name ≡ true
unfolding name_same
same_bytes name = (bytes_eq-Decides name name).1 refl

opens_void : (last : Option ScanFault) (os : List OpenElement) (name : List ℕ) (attrs : List Attr) (slash : Bool) (at : ℕ) (ts : List Placed) → length os ≢ 200 → is_void name ≡ true
    → fault_in last os (placed (Start name attrs slash) at ∷ ts) ≡ fault_in last os ts
opens_void last os name attrs slash at ts n v = rw (ne_eqb _ _ n, v) refl

opens : (last : Option ScanFault) (os : List OpenElement) (name : List ℕ) (attrs : List Attr) (slash : Bool) (at : ℕ) (ts : List Placed) → length os ≢ 200 → is_void name ≡ false
    → fault_in last os (placed (Start name attrs slash) at ∷ ts) ≡ fault_in last (record { name = name; at = at } ∷ os) ts
opens last os name attrs slash at ts n v = rw (ne_eqb _ _ n, v) refl

closes : (last : Option ScanFault) (os : List OpenElement) (name : List ℕ) (from at : ℕ) (ts : List Placed) → is_void name ≡ false
    → fault_in last (record { name = name; at = from } ∷ os) (placed (End name) at ∷ ts) ≡ fault_in last os ts
closes last os name from at ts v = rw (v, same_bytes name) refl

pub not_true : (b : Bool) → not b ≡ true → b ≡ false
not_true true e = absurd cc
not_true false e = refl

or_parts : (a b : Bool) → (a || b) ≡ true → (a ≡ true) ⊎ (b ≡ true)
or_parts true b e = inl refl
or_parts false b e = inr e

pub any_passes : (p q : List ℕ → Bool) (rs : List (List ℕ)) → list_any p rs ≡ true → list_all q rs ≡ true → (r : List ℕ) × (p r ≡ true) × (q r ≡ true)
any_passes p q [] e h = absurd cc
any_passes p q (r ∷ rs) e h =
    elim (or_parts (p r) (list_any p rs) e) [
      | inl here ↦ (r, here, and_left (q r) (list_all q rs) h)
      | inr later ↦ any_passes p q rs later (and_right (q r) (list_all q rs) h)
    ]

raw_names_not_void : list_all (λ r. not (is_void r)) raw_tags ≡ true
unfolding is_void name_same
raw_names_not_void = refl

pub equal_names : (a b : List ℕ) → name_same a b ≡ true → a ≡ b
unfolding name_same
equal_names a b e = (bytes_eq-Decides a b).0 e

raw_one_of : (name : List ℕ) → is_raw name ≡ true → list_any (λ r. name_same r name) raw_tags ≡ true
unfolding is_raw name_same
raw_one_of name e = e

pub raw_not_void : (name : List ℕ) → is_raw name ≡ true → is_void name ≡ false
raw_not_void name e =
    let found = any_passes (λ r. name_same r name) (λ r. not (is_void r)) raw_tags (raw_one_of name e) raw_names_not_void in
    ap is_void (sym (equal_names found.0 name found.1)) ∙ not_true (is_void found.0) found.2

-- A forest that may be spelled, with these elements open around it, has no fault of a forest.
pub fault_free : (last : Option ScanFault) (room : ℕ) (os : List OpenElement) (at : ℕ) (f : Forest) (ts : List Placed) → is_forest room f ≡ true → length os + room ≡ 200
    → fault_in last os (tokens_in at f ++ ts) ≡ fault_in last os ts
fault_free last room os at Nothing ts e n = refl
fault_free last room os at (Text text rest) ts e n = fault_free last room os (at + length text) rest ts (and_right (is_text text && not (starts_with_text rest)) (is_forest room rest) e) n
fault_free last room os at (Remark text rest) ts e n = fault_free last room os (at + length (token_text (Comment text))) rest ts (and_right (is_verbatim comment_close text) (is_forest room rest) e) n
fault_free last zero os at (Void name attrs slash rest) ts e n = absurd cc
fault_free last (suc room) os at (Void name attrs slash rest) ts e n =
    opens_void last os name attrs slash at (tokens_in (at + length (start_text name attrs slash)) rest ++ ts) (λ h. absurd (omega arith)) (and_left (is_void name) (is_start name attrs slash) (and_left (is_void name && is_start name attrs slash) (is_forest (suc room) rest) e))
    ∙ fault_free last (suc room) os (at + length (start_text name attrs slash)) rest ts (and_right (is_void name && is_start name attrs slash) (is_forest (suc room) rest) e) n
fault_free last zero os at (RawElement name attrs [] rest) ts e n = absurd cc
fault_free last zero os at (RawElement name attrs (b ∷ bs) rest) ts e n = absurd cc
fault_free last (suc room) os at (RawElement name attrs [] rest) ts e n =
    let p = and_left (is_raw name && is_start name attrs false && is_verbatim (end_text name) []) (is_forest (suc room) rest) e in
    let v = raw_not_void name (and_left (is_raw name) (is_start name attrs false) (and_left (is_raw name && is_start name attrs false) (is_verbatim (end_text name) []) p)) in
    let more = tokens_in (at + length (start_text name attrs false) + length (end_text name)) rest ++ ts in
    opens last os name attrs false at (placed (End name) (at + length (start_text name attrs false)) ∷ more) (λ h. absurd (omega arith)) v
    ∙ closes last os name at (at + length (start_text name attrs false)) more v
    ∙ fault_free last (suc room) os (at + length (start_text name attrs false) + length (end_text name)) rest ts (and_right (is_raw name && is_start name attrs false && is_verbatim (end_text name) []) (is_forest (suc room) rest) e) n
fault_free last (suc room) os at (RawElement name attrs (b ∷ bs) rest) ts e n =
    let p = and_left (is_raw name && is_start name attrs false && is_verbatim (end_text name) (b ∷ bs)) (is_forest (suc room) rest) e in
    let v = raw_not_void name (and_left (is_raw name) (is_start name attrs false) (and_left (is_raw name && is_start name attrs false) (is_verbatim (end_text name) (b ∷ bs)) p)) in
    let from = at + length (start_text name attrs false) in
    let more = tokens_in (from + length (b ∷ bs) + length (end_text name)) rest ++ ts in
    opens last os name attrs false at (placed (Raw (b ∷ bs)) from ∷ (placed (End name) (from + length (b ∷ bs)) ∷ more)) (λ h. absurd (omega arith)) v
    ∙ closes last os name at (at + length (start_text name attrs false) + length (b ∷ bs)) more v
    ∙ fault_free last (suc room) os (at + length (start_text name attrs false) + length (b ∷ bs) + length (end_text name)) rest ts (and_right (is_raw name && is_start name attrs false && is_verbatim (end_text name) (b ∷ bs)) (is_forest (suc room) rest) e) n
fault_free last zero os at (Element name attrs children rest) ts e n = absurd cc
fault_free last (suc room) os at (Element name attrs children rest) ts e n =
    let from = at + length (start_text name attrs false) in
    let end = from + length (spelling children) in
    let p4 = and_left (not (is_void name) && not (is_raw name) && is_start name attrs false && is_forest room children) (is_forest (suc room) rest) e in
    let p3 = and_left (not (is_void name) && not (is_raw name) && is_start name attrs false) (is_forest room children) p4 in
    let p2 = and_left (not (is_void name) && not (is_raw name)) (is_start name attrs false) p3 in
    let v = not_true (is_void name) (and_left (not (is_void name)) (not (is_raw name)) p2) in
    let inner = fault_free last room (record { name = name; at = at } ∷ os) from children (placed (End name) end ∷ (tokens_in (end + length (end_text name)) rest ++ ts)) (and_right (not (is_void name) && not (is_raw name) && is_start name attrs false) (is_forest room children) p4) (omega arith) in
    let regrouped = append_assoc (tokens_in from children) (placed (End name) end ∷ tokens_in (end + length (end_text name)) rest) ts in
    let more = tokens_in (end + length (end_text name)) rest ++ ts in
    opens last os name attrs false at ((tokens_in from children ++ placed (End name) end ∷ tokens_in (end + length (end_text name)) rest) ++ ts) (λ h. absurd (omega arith)) v
    ∙ ap (fault_in last (record { name = name; at = at } ∷ os)) regrouped
    ∙ inner
    ∙ closes last os name at end more v
    ∙ fault_free last (suc room) os (end + length (end_text name)) rest ts (and_right (not (is_void name) && not (is_raw name) && is_start name attrs false && is_forest room children) (is_forest (suc room) rest) e) n
