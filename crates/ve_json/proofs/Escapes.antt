-- The bytes of a JSON string that stand for others.
use Rattle.std.proofs.Common.{◌≡◌, ℕ, ◌+◌, ◌<◌, ◌/◌, ◌%◌, List, [], ◌∷◌, ◌++◌, Bool, true, false, cond, nat_lt, length, take, get_or, sym, ap, ◌∙◌, subst, append_assoc, arith}
use Rattle.std.proofs.lemmas.Grind.{flat_map-append}
use Rattle.std.proofs.lemmas.List.{take_more}
use Rattle.std.specs.Char.{digit_char}
use Rattle.json.specs.Print.{escape_letter, escape_byte, escape}
use Rattle.ve_json.specs.Pieces.{is_escaped, IsUnescaped}

-- ---- one byte

cond_true : {A : Type 0} (b : Bool) (x y : A) → b ≡ true → cond b x y ≡ x
cond_true b x y e = ap (λ c. cond c x y) e

cond_false : {A : Type 0} (b : Bool) (x y : A) → b ≡ false → cond b x y ≡ y
cond_false b x y e = ap (λ c. cond c x y) e

below : (a b : ℕ) → a < b → nat_lt a b ≡ true
below a b h = grind arith

not_below : (a b : ℕ) → (a < b → ⊥) → nat_lt a b ≡ false
not_below a b h = grind arith

pub short_escape : (b l : ℕ) → l ≡ escape_letter b → 0 < l → 92 ∷ l ∷ [] ≡ escape_byte b
unfolding escape_byte
short_escape b l e h =
    sym (cond_true (nat_lt 0 l) (92 ∷ l ∷ []) (cond (nat_lt b 32) (92 ∷ 117 ∷ 48 ∷ 48 ∷ digit_char (b / 16) ∷ digit_char (b % 16) ∷ []) (b ∷ [])) (below 0 l h))
    ∙ ap (λ n. cond (nat_lt 0 n) (92 ∷ n ∷ []) (cond (nat_lt b 32) (92 ∷ 117 ∷ 48 ∷ 48 ∷ digit_char (b / 16) ∷ digit_char (b % 16) ∷ []) (b ∷ []))) e

-- without a short escape
pub other_escape : (b : ℕ) → (0 < escape_letter b → ⊥) → cond (nat_lt b 32) (92 ∷ 117 ∷ 48 ∷ 48 ∷ digit_char (b / 16) ∷ digit_char (b % 16) ∷ []) (b ∷ []) ≡ escape_byte b
unfolding escape_byte
other_escape b h = sym (cond_false (nat_lt 0 (escape_letter b)) _ _ (not_below 0 (escape_letter b) h))

pub numbered_escape : (b l : ℕ) → l ≡ escape_letter b → (0 < l → ⊥) → b < 32 → 92 ∷ 117 ∷ 48 ∷ 48 ∷ digit_char (b / 16) ∷ digit_char (b % 16) ∷ [] ≡ escape_byte b
numbered_escape b l e h k = sym (cond_true (nat_lt b 32) _ _ (below b 32 k)) ∙ other_escape b (λ some. h (subst (λ n. 0 < n) (sym e) some))

pub no_escape : (b l : ℕ) → l ≡ escape_letter b → (0 < l → ⊥) → (b < 32 → ⊥) → b ∷ [] ≡ escape_byte b
no_escape b l e h k = sym (cond_false (nat_lt b 32) _ _ (not_below b 32 k)) ∙ other_escape b (λ some. h (subst (λ n. 0 < n) (sym e) some))

no_letter : (b : ℕ) → is_escaped b ≡ false → 0 ≡ escape_letter b
no_letter b h = grind arith

not_control : (b : ℕ) → is_escaped b ≡ false → b < 32 → ⊥
not_control b h k = grind arith

pub escape-plain : (b : ℕ) → is_escaped b ≡ false → escape_byte b ≡ b ∷ []
escape-plain b h = sym (no_escape b 0 (no_letter b h) (λ n. omega arith) (not_control b h))

-- ---- bytes

pub IsUnescaped-more : (bytes : List ℕ) (at : ℕ) → at < length bytes → IsUnescaped (take at bytes) → is_escaped (get_or bytes at 0) ≡ false → IsUnescaped (take (at + 1) bytes)
IsUnescaped-more bytes at l h k =
    let last = get_or bytes at 0 in
    ap escape (take_more bytes at 0 l)
    ∙ flat_map-append escape_byte (take at bytes) (last ∷ [])
    ∙ ap (λ s. s ++ (escape_byte last ++ [])) h
    ∙ ap (λ s. take at bytes ++ (s ++ [])) (escape-plain last k)
    ∙ sym (take_more bytes at 0 l)

-- one escape further
pub escape-further : (out plain rest more : List ℕ) (byte : ℕ) → IsUnescaped plain → rest ≡ plain ++ byte ∷ more → ((out ++ plain) ++ escape_byte byte) ++ escape more ≡ out ++ escape rest
escape-further out plain rest more byte h e =
    append_assoc (out ++ plain) (escape_byte byte) (escape more)
    ∙ append_assoc out plain (escape_byte byte ++ escape more)
    ∙ ap (λ s. out ++ (s ++ (escape_byte byte ++ escape more))) (sym h)
    ∙ ap (λ s. out ++ s) (sym (flat_map-append escape_byte plain (byte ∷ more)))
    ∙ ap (λ s. out ++ escape s) (sym e)
