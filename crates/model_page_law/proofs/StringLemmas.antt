-- A string of JSON stands for UTF-8 where the text is UTF-8: it is cut at ASCII bytes, and its
-- escapes spell characters.
use Rattle.std.proofs.Common.{◌≡◌, ℕ, ◌+◌, ◌<◌, Bool, true, false, cond, ◌&&◌, List, [], ◌∷◌, ◌++◌, length, get_or, Option, Some, None, refl, sym, ap, ◌∙◌, subst, append_assoc, arith, add-zero, eqb-true, IsUtf8}
use Rattle.std.specs.Prelude.{◌==◌, nat_lt, option_and_then, IfSome}
use Rattle.std.specs.Char.{IsScalar, digit_value, is_digit, encode_utf8}
use lib.Utf8.{low_scalar}
use Rattle.std.proofs.lemmas.List.{length-append, append-nil, get_or-drop}
use Rattle.std.proofs.Math.Seq.{drop-append_seam, drop-append-add, take-append_seam}
use Rattle.std.proofs.lemmas.Bool.{and_parts}
use Rattle.std.proofs.lemmas.Bool.Decides.{nat_tests}
use Rattle.std.proofs.lemmas.Str.{IsUtf8-append, IsUtf8-encode, IsUtf8-take, IsUtf8-drop, IsCharBoundary-before_ascii, IsCharBoundary-after_ascii, encode_ascii}
use Rattle.json.specs.Ascii as ascii
use Rattle.json.specs.Text.{code_unit, short_escape, is_high_surrogate, is_low_surrogate, surrogate_pair, Within, plain, after_backslash, after_u, after_high, prepend, content}

-- ---- a cut beside an ASCII byte

at_seam : (p : List ℕ) (x : ℕ) (xs : List ℕ) → get_or (p ++ x ∷ xs) (length p) 0 ≡ x
at_seam p x xs =
    let whole = p ++ x ∷ xs in
    let there = ap (λ (k : ℕ). get_or whole k 0) (sym (add-zero (length p))) in
    there ∙ sym (get_or-drop (length p) whole 0 0) ∙ ap (λ (l : List ℕ). get_or l 0 0) (drop-append_seam p (x ∷ xs))

within : (p : List ℕ) (x : ℕ) (xs : List ℕ) → length p < length (p ++ x ∷ xs)
within p x xs = omega (arith, length-append p (x ∷ xs))

pub before_ascii : (p : List ℕ) (x : ℕ) (xs : List ℕ) → x < 128 → IsUtf8 (p ++ x ∷ xs) → IsUtf8 p
before_ascii p x xs small u =
    let cut = IsCharBoundary-before_ascii (p ++ x ∷ xs) (length p) (within p x xs) (omega (arith, at_seam p x xs)) in
    subst IsUtf8 (take-append_seam p (x ∷ xs)) (IsUtf8-take (p ++ x ∷ xs) (length p) u cut)

pub after_ascii : (p : List ℕ) (x : ℕ) (xs : List ℕ) → x < 128 → IsUtf8 (p ++ x ∷ xs) → IsUtf8 xs
after_ascii p x xs small u =
    let cut = IsCharBoundary-after_ascii (p ++ x ∷ xs) (length p) u (within p x xs) (omega (arith, at_seam p x xs)) in
    subst IsUtf8 (drop-append-add p (x ∷ xs) 1) (IsUtf8-drop (p ++ x ∷ xs) (length p + 1) u cut)

-- ---- what escapes spell

short_is_ascii : (x c : ℕ) → short_escape x ≡ Some c → (x < 128) × (c < 128)
unfolding short_escape
short_is_ascii x c e = grind (arith, nat_tests)

digit_is_ascii : (x : ℕ) → is_digit x 16 ≡ true → (x < 128) × (digit_value x < 16)
digit_is_ascii x e = grind (arith, nat_tests)

unit_of : (t : Bool) (n u : ℕ) → cond t (Some n) None ≡ Some u → (t ≡ true) × (n ≡ u)
unit_of true n u e = (refl, cc)
unit_of false n u e = cc

unit_is_ascii : (a b c d u : ℕ) → code_unit a b c d ≡ Some u → (a < 128) × (b < 128) × (c < 128) × (d < 128) × (u < 65536)
unfolding code_unit
unit_is_ascii a b c d u e =
    let spelled = unit_of (is_digit a 16 && is_digit b 16 && is_digit c 16 && is_digit d 16) _ u e in
    let fourth = and_parts (is_digit a 16 && is_digit b 16 && is_digit c 16) (is_digit d 16) spelled.0 in
    let third = and_parts (is_digit a 16 && is_digit b 16) (is_digit c 16) fourth.0 in
    let first = and_parts (is_digit a 16) (is_digit b 16) third.0 in
    let p = digit_is_ascii a first.0 in
    let q = digit_is_ascii b first.1 in
    let r = digit_is_ascii c third.1 in
    let s = digit_is_ascii d fourth.1 in
    (p.0, q.0, r.0, s.0, omega (arith, spelled.1, p.1, q.1, r.1, s.1))

unit_is_scalar : (u : ℕ) → u < 65536 → is_high_surrogate u ≡ false → is_low_surrogate u ≡ false → IsScalar u
unit_is_scalar u small h l = grind (arith, nat_tests)

pair_is_scalar : (h l : ℕ) → is_high_surrogate h ≡ true → is_low_surrogate l ≡ true → IsScalar (surrogate_pair h l)
pair_is_scalar h l high low = grind (arith, nat_tests)

-- ---- a string

-- where it is read, it is UTF-8 after p
abbrev pub Keeps : List ℕ → Option (List ℕ) → Type 0
Keeps p o = IfSome o (λ s. IsUtf8 (p ++ s))

-- whatever p was read before, perhaps the first bytes of a character that goes on: p with what is
-- left is UTF-8, and so is p with the string
abbrev KeepsAfter : List ℕ → Within → Type 0
KeepsAfter xs w = (p : List ℕ) → IsUtf8 (p ++ xs) → Keeps p (content w xs)

abbrev IsReady : Within → Type 0
IsReady plain = Unit {0}
IsReady after_backslash = Unit {0}
IsReady after_u = Unit {0}
IsReady (after_high h) = is_high_surrogate h ≡ true

Keeps-prepend : (p bytes : List ℕ) (o : Option (List ℕ)) → Keeps (p ++ bytes) o → Keeps p (prepend bytes o)
Keeps-prepend p bytes None k = tt
Keeps-prepend p bytes (Some s) k = subst IsUtf8 (append_assoc p bytes s) k

-- a character in place of its escape
spelled : (p : List ℕ) (c : ℕ) (xs : List ℕ) → IsScalar c → IsUtf8 p → IsUtf8 xs → KeepsAfter xs plain → Keeps p (prepend (encode_utf8 c) (content plain xs))
spelled p c xs scalar u v more =
    let before = p ++ encode_utf8 c in
    Keeps-prepend p (encode_utf8 c) (content plain xs) (more before (IsUtf8-append before xs (IsUtf8-append p (encode_utf8 c) u (IsUtf8-encode c scalar)) v))

plain_step : (q b n : Bool) (p : List ℕ) (x : ℕ) (xs : List ℕ) → (x == ascii.quote) ≡ q → (x == ascii.backslash) ≡ b → IsUtf8 (p ++ x ∷ xs)
    → KeepsAfter xs plain → KeepsAfter xs after_backslash
    → Keeps p (cond q (Some []) (cond b (content after_backslash xs) (cond n None (prepend (x ∷ []) (content plain xs)))))
plain_step true b n p x xs e f u more slash = subst IsUtf8 (sym (append-nil p)) (before_ascii p x xs (omega (arith, eqb-true x 34 e)) u)
plain_step false true n p x xs e f u more slash =
    let small : x < 128 = omega (arith, eqb-true x 92 f) in
    slash p (IsUtf8-append p xs (before_ascii p x xs small u) (after_ascii p x xs small u))
plain_step false false true p x xs e f u more slash = tt
plain_step false false false p x xs e f u more slash =
    Keeps-prepend p (x ∷ []) (content plain xs) (more (p ++ x ∷ []) (subst IsUtf8 (sym (append_assoc p (x ∷ []) xs)) u))

short_step : (o : Option ℕ) (p : List ℕ) (x : ℕ) (xs : List ℕ) → short_escape x ≡ o → IsUtf8 (p ++ x ∷ xs) → KeepsAfter xs plain
    → Keeps p (option_and_then (λ c. prepend (c ∷ []) (content plain xs)) o)
short_step None p x xs e u more = tt
short_step (Some c) p x xs e u more =
    let small = short_is_ascii x c e in
    subst (λ bytes. Keeps p (prepend bytes (content plain xs))) (encode_ascii c small.1)
    (spelled p c xs (low_scalar c (omega (arith, small.1))) (before_ascii p x xs small.0 u) (after_ascii p x xs small.0 u) more)

escape_step : (t : Bool) (p : List ℕ) (x : ℕ) (xs : List ℕ) → (x == ascii.lower_u) ≡ t → IsUtf8 (p ++ x ∷ xs) → KeepsAfter xs plain → KeepsAfter xs after_u
    → Keeps p (cond t (content after_u xs) (option_and_then (λ c. prepend (c ∷ []) (content plain xs)) (short_escape x)))
escape_step true p x xs e u more unit =
    let small : x < 128 = omega (arith, eqb-true x 117 e) in
    unit p (IsUtf8-append p xs (before_ascii p x xs small u) (after_ascii p x xs small u))
escape_step false p x xs e u more unit = short_step (short_escape x) p x xs refl u more

-- four hex digits are passed
after_four : (p : List ℕ) (a b c d unit : ℕ) (xs : List ℕ) → code_unit a b c d ≡ Some unit → IsUtf8 (p ++ a ∷ b ∷ c ∷ d ∷ xs) → IsUtf8 p × IsUtf8 xs
after_four p a b c d unit xs e u =
    let small = unit_is_ascii a b c d unit e in
    let second = after_ascii p a (b ∷ c ∷ d ∷ xs) small.0 u in
    let third = after_ascii [] b (c ∷ d ∷ xs) small.1 second in
    (before_ascii p a (b ∷ c ∷ d ∷ xs) small.0 u, after_ascii [] d xs small.3 (after_ascii [] c (d ∷ xs) small.2 third))

-- what four hex digits lead to, and what they do after the first half of a pair
abbrev on_unit : List ℕ → ℕ → Option (List ℕ)
on_unit xs u = cond (is_high_surrogate u) (content (after_high u) xs) (cond (is_low_surrogate u) None (prepend (encode_utf8 u) (content plain xs)))

abbrev on_low : ℕ → List ℕ → ℕ → Option (List ℕ)
on_low h xs l = cond (is_low_surrogate l) (prepend (encode_utf8 (surrogate_pair h l)) (content plain xs)) None

unit_by : (h l : Bool) (p : List ℕ) (unit : ℕ) (xs : List ℕ) → is_high_surrogate unit ≡ h → is_low_surrogate unit ≡ l → unit < 65536
    → IsUtf8 p → IsUtf8 xs → KeepsAfter xs plain → (is_high_surrogate unit ≡ true → KeepsAfter xs (after_high unit))
    → Keeps p (cond h (content (after_high unit) xs) (cond l None (prepend (encode_utf8 unit) (content plain xs))))
unit_by true l p unit xs e f small u v more low = low e p (IsUtf8-append p xs u v)
unit_by false true p unit xs e f small u v more low = tt
unit_by false false p unit xs e f small u v more low = spelled p unit xs (unit_is_scalar unit small e f) u v more

unit_step : (o : Option ℕ) (p : List ℕ) (a b c d : ℕ) (xs : List ℕ) → code_unit a b c d ≡ o → IsUtf8 (p ++ a ∷ b ∷ c ∷ d ∷ xs) → KeepsAfter xs plain
    → ((h : ℕ) → is_high_surrogate h ≡ true → KeepsAfter xs (after_high h))
    → Keeps p (option_and_then (on_unit xs) o)
unit_step None p a b c d xs e u more low = tt
unit_step (Some unit) p a b c d xs e u more low =
    let parts = after_four p a b c d unit xs e u in
    unit_by (is_high_surrogate unit) (is_low_surrogate unit) p unit xs refl refl (unit_is_ascii a b c d unit e).4 parts.0 parts.1 more (low unit)

low_by : (t : Bool) (p : List ℕ) (h l : ℕ) (xs : List ℕ) → is_low_surrogate l ≡ t → is_high_surrogate h ≡ true → IsUtf8 p → IsUtf8 xs → KeepsAfter xs plain
    → Keeps p (cond t (prepend (encode_utf8 (surrogate_pair h l)) (content plain xs)) None)
low_by true p h l xs e high u v more = spelled p (surrogate_pair h l) xs (pair_is_scalar h l high e) u v more
low_by false p h l xs e high u v more = tt

low_step : (o : Option ℕ) (p : List ℕ) (h a b c d : ℕ) (xs : List ℕ) → code_unit a b c d ≡ o → is_high_surrogate h ≡ true
    → IsUtf8 (p ++ a ∷ b ∷ c ∷ d ∷ xs) → KeepsAfter xs plain
    → Keeps p (option_and_then (on_low h xs) o)
low_step None p h a b c d xs e high u more = tt
low_step (Some l) p h a b c d xs e high u more =
    let parts = after_four p a b c d l xs e u in
    low_by (is_low_surrogate l) p h l xs refl high parts.0 parts.1 more

second_step : (t : Bool) (p : List ℕ) (h s v a b c d : ℕ) (xs : List ℕ) → ((s == ascii.backslash) && (v == ascii.lower_u)) ≡ t → is_high_surrogate h ≡ true
    → IsUtf8 (p ++ s ∷ v ∷ a ∷ b ∷ c ∷ d ∷ xs) → KeepsAfter xs plain → Keeps p (cond t (option_and_then (on_low h xs) (code_unit a b c d)) None)
second_step false p h s v a b c d xs e high u more = tt
second_step true p h s v a b c d xs e high u more =
    let both = and_parts (s == 92) (v == 117) e in
    let first : s < 128 = omega (arith, eqb-true s 92 both.0) in
    let second : v < 128 = omega (arith, eqb-true v 117 both.1) in
    let digits = a ∷ b ∷ c ∷ d ∷ xs in
    let rest = after_ascii [] v digits second (after_ascii p s (v ∷ digits) first u) in
    low_step (code_unit a b c d) p h a b c d xs refl high (IsUtf8-append p digits (before_ascii p s (v ∷ digits) first u) rest) more

content_keeps : (w : Within) (bs : List ℕ) → IsReady w → KeepsAfter bs w
unfolding content
content_keeps plain [] ready p u = tt
content_keeps plain (x ∷ xs) ready p u =
    plain_step (x == ascii.quote) (x == ascii.backslash) (nat_lt x ascii.space) p x xs refl refl u
    (content_keeps plain xs tt) (content_keeps after_backslash xs tt)
content_keeps after_backslash [] ready p u = tt
content_keeps after_backslash (x ∷ xs) ready p u = escape_step (x == ascii.lower_u) p x xs refl u (content_keeps plain xs tt) (content_keeps after_u xs tt)
content_keeps after_u [] ready p u = tt
content_keeps after_u (a ∷ []) ready p u = tt
content_keeps after_u (a ∷ b ∷ []) ready p u = tt
content_keeps after_u (a ∷ b ∷ c ∷ []) ready p u = tt
content_keeps after_u (a ∷ b ∷ c ∷ d ∷ xs) ready p u =
    unit_step (code_unit a b c d) p a b c d xs refl u (content_keeps plain xs tt) (λ h high. content_keeps (after_high h) xs high)
content_keeps (after_high h) [] ready p u = tt
content_keeps (after_high h) (s ∷ []) ready p u = tt
content_keeps (after_high h) (s ∷ v ∷ []) ready p u = tt
content_keeps (after_high h) (s ∷ v ∷ a ∷ []) ready p u = tt
content_keeps (after_high h) (s ∷ v ∷ a ∷ b ∷ []) ready p u = tt
content_keeps (after_high h) (s ∷ v ∷ a ∷ b ∷ c ∷ []) ready p u = tt
content_keeps (after_high h) (s ∷ v ∷ a ∷ b ∷ c ∷ d ∷ xs) ready p u =
    second_step ((s == ascii.backslash) && (v == ascii.lower_u)) p h s v a b c d xs refl ready u (content_keeps plain xs tt)

-- the string that begins where a character does
pub content_utf8 : (bs : List ℕ) → IsUtf8 bs → IfSome (content plain bs) IsUtf8
content_utf8 bs u = content_keeps plain bs tt [] u
