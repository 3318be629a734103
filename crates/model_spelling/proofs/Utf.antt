-- Decoding keeps UTF-8, and each node of a UTF-8 text is UTF-8.
use Rattle.std.proofs.Common.{◌≡◌, ◌≢◌, ℕ, zero, suc, ◌+◌, ◌-◌, ◌<◌, ◌≤◌, Bool, true, false, not, ◌&&◌, List, [], ◌∷◌, ◌++◌, length, get_or, drop, refl, sym, ap, ◌∙◌, subst, append_assoc, arith, inl, inr, ◌⊎◌, IsUtf8, IsCharBoundary, add-zero}
use Rattle.std.specs.Prelude.{encode_utf8_all}
use Rattle.std.proofs.Math.Utf8.{encode, scalars, scalar}
use Rattle.std.proofs.lemmas.List.{append-nil, length-append, length-drop, get_or-drop}
use Rattle.std.proofs.Math.Seq.{drop-append_seam, take-append_seam}
use Rattle.std.proofs.lemmas.Bool.{cases_Bool, cases_eq, ne_eqb}
use Rattle.std.proofs.lemmas.Str.{IsUtf8-append, IsUtf8-nil, IsUtf8-drop, IsUtf8-take, IsUtf8-past_char, IsCharBoundary-after_ascii, IsCharBoundary-before_ascii, encode_ascii, inside_one, length-le-encodes}
use Rattle.model_spelling.specs.Grammar.{begins_with, Comment, token_text, start_text, end_text, is_text, is_start, is_verbatim, comment_close, Attr, attr_text, comment_open}
use Rattle.ve_kinds.specs.Tags.{is_void}
use Rattle.model_spelling.specs.Tokens.{BeginsTag}
use Rattle.model_spelling.specs.Forest.{Forest, Nothing, Text, Remark, Void, RawElement, Element, starts_with_text, spelling, is_forest}
use Rattle.model_spelling.specs.Written.{meanings, prefix_of, decoded_from, decoded}
use Rattle.model_spelling.specs.Utf8.{NodesUtf8}
use Rattle.model_spelling.proofs.AttrReading.{and_left, and_right}
use Rattle.model_spelling.proofs.TokenRuns.{begins_parts}
use Rattle.model_spelling.proofs.ForestLaws.{not_true}
use Rattle.model_spelling.proofs.Only.{and_both}
use Rattle.std.specs.List.{flat_map}
use Rattle.model_spelling.proofs.Escape.{decoded-byte, pick_true, pick_false}
use Rattle.model_spelling.proofs.Back.{begins_tag, element_parts, raw_parts}

-- ---- decoding

abbrev Good : List ℕ × List ℕ → Type 0
Good m = IsUtf8 m.1 × (0 < length m.0) × ((tail : List ℕ) → get_or (m.0 ++ tail) (length m.0 - 1) 0 < 128)

abbrev AllGood : List (List ℕ × List ℕ) → Type 0
AllGood [] = Unit {0}
AllGood (m ∷ ms) = Good m × AllGood ms

meanings_good : AllGood meanings
unfolding encode
meanings_good = (
  ((38 ∷ [], (refl, refl)), omega arith, λ tail. omega arith),
  (
    ((60 ∷ [], (refl, refl)), omega arith, λ tail. omega arith),
    (
      ((62 ∷ [], (refl, refl)), omega arith, λ tail. omega arith),
      (
        ((160 ∷ [], (refl, refl)), omega arith, λ tail. omega arith),
        (
          ((34 ∷ [], (refl, refl)), omega arith, λ tail. omega arith),
          (((39 ∷ [], (refl, refl)), omega arith, λ tail. omega arith), tt),
        ),
      ),
    ),
  ),
)

abbrev PrefixIs : List ℕ × List ℕ → ℕ → List ℕ → Type 0
PrefixIs m b bs = (m ≡ (b ∷ [], b ∷ [])) ⊎ (Good m × (begins_with m.0 (b ∷ bs) ≡ true))

prefix_is : (ms : List (List ℕ × List ℕ)) (b : ℕ) (bs : List ℕ) → AllGood ms → PrefixIs (prefix_of ms b bs) b bs
prefix_is [] b bs g = inl refl
prefix_is (m ∷ ms) b bs g =
    elim (cases_Bool (begins_with m.0 (b ∷ bs))) [
      | inl here ↦ subst (λ (x : List ℕ × List ℕ). PrefixIs x b bs) (sym (pick_true (begins_with m.0 (b ∷ bs)) m (prefix_of ms b bs) here)) (inr (g.0, here))
      | inr other ↦ subst (λ (x : List ℕ × List ℕ). PrefixIs x b bs) (sym (pick_false (begins_with m.0 (b ∷ bs)) m (prefix_of ms b bs) other)) (prefix_is ms b bs g.1)
    ]

pub skipped : (k : ℕ) (bs : List ℕ) → decoded_from k bs ≡ decoded_from 0 (drop k bs)
unfolding decoded_from
skipped zero [] = refl
skipped zero (b ∷ bs) = refl
skipped (suc k) [] = refl
skipped (suc k) (b ∷ bs) = skipped k bs

pub decoded_prefix : (b : ℕ) (bs : List ℕ) → decoded_from 0 (b ∷ bs) ≡ (prefix_of meanings b bs).1 ++ decoded_from (length ((prefix_of meanings b bs).0) - 1) bs
unfolding decoded_from
decoded_prefix b bs = refl

-- bytes without `&` stand for themselves
pub plain_decoded : (bs t : List ℕ) → ((k : ℕ) → k < length bs → get_or bs k 0 ≢ 38) → decoded_from 0 (bs ++ t) ≡ bs ++ decoded_from 0 t
plain_decoded [] t h = refl
plain_decoded (b ∷ bs) t h = decoded-byte b (bs ++ t) (ne_eqb b 38 (h 0 (omega arith))) ∙ ap (λ (l : List ℕ). b ∷ l) (plain_decoded bs t (λ k lt. h (suc k) (omega (arith, lt))))

char_plain : (c : ℕ) → c ≢ 38 → (k : ℕ) → k < length (encode c) → get_or (encode c) k 0 ≢ 38
char_plain c n k lt e = n (inside_one c [] (encode c) k (sym (append-nil (encode c))) lt (omega (arith, e)) ∙ e)

abbrev Decodes : ℕ → Type 0
Decodes n = (bs : List ℕ) → length bs ≤ n → IsUtf8 bs → IsUtf8 (decoded_from 0 bs)

amp_utf8 : IsUtf8 (38 ∷ [])
unfolding encode
amp_utf8 = (38 ∷ [], (refl, refl))

pub suc_is : (n : ℕ) → 0 < n → suc (n - 1) ≡ n
suc_is n lt = omega (arith, lt)

amp_decoded : (n : ℕ) (bs : List ℕ) → length bs ≤ n → Decodes n → IsUtf8 (38 ∷ bs) → IsUtf8 bs → PrefixIs (prefix_of meanings 38 bs) 38 bs → IsUtf8 ((prefix_of meanings 38 bs).1 ++ decoded_from (length ((prefix_of meanings 38 bs).0) - 1) bs)
amp_decoded n bs le rec u v (inl same) =
    subst (λ (m : List ℕ × List ℕ). IsUtf8 (m.1 ++ decoded_from (length m.0 - 1) bs)) (sym same) (IsUtf8-append (38 ∷ []) (decoded_from 0 bs) amp_utf8 (rec bs le v))
amp_decoded n bs le rec u v (inr (good, begins)) =
    let m : List ℕ × List ℕ = prefix_of meanings 38 bs in
    let parts = begins_parts m.0 (38 ∷ bs) begins in
    let tail : List ℕ = drop (length m.0) (38 ∷ bs) in
    let last : get_or (38 ∷ bs) (length m.0 - 1) 0 < 128 = subst (λ (l : List ℕ). get_or l (length m.0 - 1) 0 < 128) (sym parts) (good.2 tail) in
    let inside : length m.0 ≤ length (38 ∷ bs) = omega (arith, ap length parts, length-append m.0 tail) in
    let place : length m.0 - 1 + 1 ≡ length m.0 = omega (arith, good.1) in
    let boundary : IsCharBoundary (38 ∷ bs) (length m.0) = subst (IsCharBoundary (38 ∷ bs)) place (IsCharBoundary-after_ascii (38 ∷ bs) (length m.0 - 1) u (omega (arith, good.1, inside)) last) in
    let w : IsUtf8 tail = IsUtf8-drop (38 ∷ bs) (length m.0) u boundary in
    let same : drop (length m.0 - 1) bs ≡ tail = ap (λ (k : ℕ). drop k (38 ∷ bs)) (suc_is (length m.0) good.1) in
    IsUtf8-append m.1 (decoded_from (length m.0 - 1) bs) good.0
    (subst IsUtf8 (sym (skipped (length m.0 - 1) bs ∙ ap (decoded_from 0) same)) (rec tail (omega (arith, good.1, length-drop (length m.0) (38 ∷ bs))) w))

decodes_char : (n c : ℕ) (bs rest : List ℕ) → length bs ≤ suc n → Decodes n → IsUtf8 bs → bs ≡ encode c ++ rest → IsUtf8 (encode c) → 0 < length (encode c) → IsUtf8 (decoded_from 0 bs)
decodes_char n c bs rest le rec u e here some =
    let v : IsUtf8 rest = IsUtf8-past_char bs rest c u e in
    let len : length rest ≤ n = omega (arith, some, ap length e, length-append (encode c) rest) in
    elim (cases_eq c 38) [
      | inl amp ↦
          let whole : bs ≡ 38 ∷ rest = e ∙ ap (λ (k : ℕ). encode k ++ rest) amp ∙ ap (λ (l : List ℕ). l ++ rest) (encode_ascii 38 (omega arith)) in
          subst (λ (l : List ℕ). IsUtf8 (decoded_from 0 l)) (sym whole) (subst IsUtf8 (sym (decoded_prefix 38 rest)) (amp_decoded n rest len rec (subst IsUtf8 whole u) v (prefix_is meanings 38 rest meanings_good)))
      | inr other ↦
          subst IsUtf8 (sym (ap (decoded_from 0) e ∙ plain_decoded (encode c) rest (char_plain c other))) (IsUtf8-append (encode c) (decoded_from 0 rest) here (rec rest len v))
    ]

char_some : (c : ℕ) → 0 < length (encode c)
char_some c = omega (arith, length-le-encodes (c ∷ []), ap length (append-nil (encode c)))

scalar_first : (c : ℕ) (cs : List ℕ) → scalars (c ∷ cs) ≡ true → scalars (c ∷ []) ≡ true
scalar_first c cs s = and_both (scalar c) true (and_left (scalar c) (scalars cs) s) refl

char_utf8 : (c : ℕ) (cs : List ℕ) → scalars (c ∷ cs) ≡ true → IsUtf8 (encode c)
char_utf8 c cs s = (c ∷ [], (scalar_first c cs s, append-nil (encode c)))

decodes_by : (n : ℕ) (bs cs : List ℕ) → length bs ≤ n → ((k : ℕ) → n ≡ suc k → Decodes k) → IsUtf8 bs → scalars cs ≡ true → encode_utf8_all cs ≡ bs → IsUtf8 (decoded_from 0 bs)
unfolding decoded_from
decodes_by n bs [] le rec u s e = subst (λ (l : List ℕ). IsUtf8 (decoded_from 0 l)) e IsUtf8-nil
decodes_by zero bs (c ∷ cs) le rec u s e = absurd (omega (arith, ap length e, length-le-encodes (c ∷ cs)))
decodes_by (suc n) bs (c ∷ cs) le rec u s e =
    decodes_char n c bs (encode_utf8_all cs) le (rec n refl) u (sym e) (char_utf8 c cs s) (char_some c)

pred_is : (n k : ℕ) → suc n ≡ suc k → n ≡ k
pred_is n k h = omega (arith, h)

decodes : (n : ℕ) → Decodes n
decodes zero bs le (cs, (s, e)) = decodes_by zero bs cs le (λ k h. absurd (omega (arith, h))) (cs, (s, e)) s e
decodes (suc n) bs le (cs, (s, e)) = decodes_by (suc n) bs cs le (λ k h. subst Decodes (pred_is n k h) (decodes n)) (cs, (s, e)) s e

pub decodes_utf8 : (text : List ℕ) → IsUtf8 text → IsUtf8 (decoded text)
decodes_utf8 text u = decodes (length text) text (omega arith) u

-- ---- nodes

at_seam : (a b : List ℕ) → get_or (a ++ b) (length a) 0 ≡ get_or b 0 0
at_seam a b = ap (λ (k : ℕ). get_or (a ++ b) k 0) (sym (add-zero (length a))) ∙ sym (get_or-drop (length a) (a ++ b) 0 0) ∙ ap (λ (l : List ℕ). get_or l 0 0) (drop-append_seam a b)

cut_utf8 : (a b : List ℕ) → IsUtf8 (a ++ b) → IsCharBoundary (a ++ b) (length a) → IsUtf8 a × IsUtf8 b
cut_utf8 a b u c = (subst IsUtf8 (take-append_seam a b) (IsUtf8-take (a ++ b) (length a) u c), subst IsUtf8 (drop-append_seam a b) (IsUtf8-drop (a ++ b) (length a) u c))

-- a tag begins after a
before_tag : (a b : List ℕ) → IsUtf8 (a ++ b) → BeginsTag b → IsUtf8 a × IsUtf8 b
before_tag a [] u t = (subst IsUtf8 (append-nil a) u, IsUtf8-nil)
before_tag a (x ∷ xs) u t =
    cut_utf8 a (x ∷ xs) u (IsCharBoundary-before_ascii (a ++ (x ∷ xs)) (length a) (omega (arith, length-append a (x ∷ xs))) (omega (arith, at_seam a (x ∷ xs), t)))

-- a ends with `>`
after_close : (a prefix b : List ℕ) → a ≡ prefix ++ (62 ∷ []) → IsUtf8 (a ++ b) → IsUtf8 a × IsUtf8 b
after_close a prefix b e u =
    let whole : a ++ b ≡ prefix ++ (62 ∷ b) = ap (λ (l : List ℕ). l ++ b) e ∙ append_assoc prefix (62 ∷ []) b in
    let byte : get_or (a ++ b) (length prefix) 0 ≡ 62 = ap (λ (l : List ℕ). get_or l (length prefix) 0) whole ∙ at_seam prefix (62 ∷ b) in
    let len : length prefix + 1 ≡ length a = omega (arith, ap length e, length-append prefix (62 ∷ [])) in
    cut_utf8 a b u (subst (IsCharBoundary (a ++ b)) len (IsCharBoundary-after_ascii (a ++ b) (length prefix) u (omega (arith, len, length-append a b)) (omega (arith, byte))))

start_ends : (name : List ℕ) (attrs : List Attr) (slash : Bool) → (prefix : List ℕ) × (start_text name attrs slash ≡ prefix ++ (62 ∷ []))
start_ends name attrs true = ((60 ∷ name ++ flat_map attr_text attrs) ++ (47 ∷ []), sym (append_assoc (60 ∷ name ++ flat_map attr_text attrs) (47 ∷ []) (62 ∷ [])))
start_ends name attrs false = (60 ∷ name ++ flat_map attr_text attrs, refl)

regrouped : (a b c d : List ℕ) → ((a ++ b) ++ c) ++ d ≡ a ++ (b ++ (c ++ d))
regrouped a b c d = simp append_assoc

utf8_forest : (f : Forest) (room : ℕ) (rest : List ℕ) → is_forest room f ≡ true → BeginsTag rest → IsUtf8 (spelling f ++ rest) → NodesUtf8 f
utf8_forest Nothing room rest e t u = tt
utf8_forest (Text text f) room rest e t u =
    let p = and_left (is_text text && not (starts_with_text f)) (is_forest room f) e in
    let other = not_true (starts_with_text f) (and_right (is_text text) (not (starts_with_text f)) p) in
    let parts = before_tag text (spelling f ++ rest) (subst IsUtf8 (append_assoc text (spelling f) rest) u) (begins_tag f rest other t) in
    (parts.0, utf8_forest f room rest (and_right (is_text text && not (starts_with_text f)) (is_forest room f) e) t parts.1)
utf8_forest (Remark text f) room rest e t u =
    let parts = after_close (token_text (Comment text)) ((comment_open ++ text) ++ (45 ∷ 45 ∷ [])) (spelling f ++ rest) (sym (append_assoc (comment_open ++ text) (45 ∷ 45 ∷ []) (62 ∷ []))) (subst IsUtf8 (append_assoc (token_text (Comment text)) (spelling f) rest) u) in
    (parts.0, utf8_forest f room rest (and_right (is_verbatim comment_close text) (is_forest room f) e) t parts.1)
utf8_forest (Void name attrs slash f) zero rest e t u = absurd cc
utf8_forest (Void name attrs slash f) (suc room) rest e t u =
    let s = start_ends name attrs slash in
    let parts = after_close (start_text name attrs slash) s.0 (spelling f ++ rest) s.1 (subst IsUtf8 (append_assoc (start_text name attrs slash) (spelling f) rest) u) in
    (parts.0, utf8_forest f (suc room) rest (and_right (is_void name && is_start name attrs slash) (is_forest (suc room) f) e) t parts.1)
utf8_forest (RawElement name attrs text f) zero rest e t u = absurd cc
utf8_forest (RawElement name attrs text f) (suc room) rest e t u =
    let p = raw_parts room name attrs text f e in
    let whole : List ℕ = start_text name attrs false ++ text ++ end_text name in
    let parts = after_close whole ((start_text name attrs false ++ text) ++ (60 ∷ 47 ∷ name)) (spelling f ++ rest) (sym (append_assoc (start_text name attrs false ++ text) (60 ∷ 47 ∷ name) (62 ∷ []))) (subst IsUtf8 (append_assoc whole (spelling f) rest) u) in
    (parts.0, utf8_forest f (suc room) rest p.rest_is t parts.1)
utf8_forest (Element name attrs children f) zero rest e t u = absurd cc
utf8_forest (Element name attrs children f) (suc room) rest e t u =
    let p = element_parts room name attrs children f e in
    let start : List ℕ = start_text name attrs false in
    let whole : List ℕ = start ++ spelling children ++ end_text name in
    let parts = after_close whole ((start ++ spelling children) ++ (60 ∷ 47 ∷ name)) (spelling f ++ rest) (sym (append_assoc (start ++ spelling children) (60 ∷ 47 ∷ name) (62 ∷ []))) (subst IsUtf8 (append_assoc whole (spelling f) rest) u) in
    let s = start_ends name attrs false in
    let inner = after_close start s.0 (spelling children ++ end_text name) s.1 (subst IsUtf8 (append_assoc start (spelling children) (end_text name)) parts.0) in
    (parts.0, utf8_forest children room (end_text name) p.children_are refl inner.1, utf8_forest f (suc room) rest p.rest_is t parts.1)

pub nodes_utf8 : (room : ℕ) (f : Forest) → is_forest room f ≡ true → IsUtf8 (spelling f) → NodesUtf8 f
nodes_utf8 room f e u = utf8_forest f room [] e tt (subst IsUtf8 (sym (append-nil (spelling f))) u)
