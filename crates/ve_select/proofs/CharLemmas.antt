-- How many characters the pieces of a cut text have.
use lib.Utf8.{encode}
use Rattle.std.specs.Prelude.{encode_utf8, encode_utf8_all}
use Rattle.std.specs.Str.{chars, chars_after, continuation_len, lead_bits, IsUtf8}
use Rattle.std.proofs.Common.{◌≡◌, ℕ, zero, suc, ◌+◌, ◌/◌, ◌<◌, ◌≤◌, Bool, true, false, if◌then◌else◌, nat_lt, List, [], ◌∷◌, ◌++◌, length, map, refl, sym, ap, ◌∙◌, subst, arith}
use Rattle.std.proofs.lemmas.Bool.{ltb-true, ltb-false}
use Rattle.std.proofs.lemmas.Str.{encodes-chars, length-le-encodes}
use Rattle.unicode_segmentation.specs.Segments.{Rule, prepend, cut, segments}
use Rattle.ve_select.specs.Passing.{char_total}

-- each encoded number is read as one character

past_lead : (n v : ℕ) (bs : List ℕ) → length (chars_after zero v bs) ≡ suc (length (chars bs))
unfolding chars
past_lead n v [] = refl
past_lead n v (b ∷ bs) = refl

led : (a n : ℕ) (bs : List ℕ) → continuation_len a ≡ n → chars (a ∷ bs) ≡ chars_after n (lead_bits a) bs
unfolding chars
led a n bs p = λ i. chars_after (p i) (lead_bits a) bs

one_byte : (a : ℕ) → a < 128 → continuation_len a ≡ 0
one_byte a h = grind arith

two_bytes : (a : ℕ) → 128 ≤ a → a < 224 → continuation_len a ≡ 1
two_bytes a h g = grind arith

three_bytes : (a : ℕ) → 224 ≤ a → a < 240 → continuation_len a ≡ 2
three_bytes a h g = grind arith

four_bytes : (a : ℕ) → 240 ≤ a → continuation_len a ≡ 3
four_bytes a h = grind arith

one_more : (c : ℕ) (rest : List ℕ) → length (chars (encode_utf8 c ++ rest)) ≡ suc (length (chars rest))
unfolding encode
one_more c rest = by_size (nat_lt c 128) (nat_lt c 2048) (nat_lt c 65536) refl refl refl
  where
    by_size : (x y z : Bool) → nat_lt c 128 ≡ x → nat_lt c 2048 ≡ y → nat_lt c 65536 ≡ z → length (chars (encode_utf8 c ++ rest)) ≡ suc (length (chars rest))
    by_size true y z e f g = rw e (ap length (led c 0 rest (one_byte c (ltb-true c 128 e))) ∙ past_lead 0 _ rest)
    by_size false true z e f g =
        let low = ltb-false c 128 e in
        let high = ltb-true c 2048 f in
        rw (e, f) (ap length (led (192 + c / 64) 1 _ (two_bytes (192 + c / 64) (omega arith) (omega arith))) ∙ past_lead 0 _ rest)
    by_size false false true e f g =
        let high = ltb-true c 65536 g in
        rw (e, f, g) (ap length (led (224 + c / 4096) 2 _ (three_bytes (224 + c / 4096) (omega arith) (omega arith))) ∙ past_lead 0 _ rest)
    by_size false false false e f g = rw (e, f, g) (ap length (led (240 + c / 262144) 3 _ (four_bytes (240 + c / 262144) (omega arith))) ∙ past_lead 0 _ rest)

chars_counted : (cs : List ℕ) → length (chars (encode_utf8_all cs)) ≡ length cs
unfolding chars
chars_counted [] = refl
chars_counted (c ∷ cs) = one_more c (encode_utf8_all cs) ∙ ap suc (chars_counted cs)

attached : (c : ℕ) (b : Bool) (ps : List (List ℕ)) →
    char_total (map encode_utf8_all (if b then (c ∷ []) ∷ ps else prepend (c ∷ []) ps)) ≡ suc (char_total (map encode_utf8_all ps))
attached c true ps = ap (λ n. n + char_total (map encode_utf8_all ps)) (chars_counted (c ∷ [])) ∙ omega arith
attached c false [] = ap (λ n. n + 0) (chars_counted (c ∷ []))
attached c false (p ∷ ps) =
    ap (λ n. n + char_total (map encode_utf8_all ps)) (chars_counted (c ∷ p) ∙ ap suc (sym (chars_counted p))) ∙ omega arith

counted_cut : (rule : Rule) (before cs after : List ℕ) → char_total (map encode_utf8_all (cut rule before cs after)) ≡ length cs
unfolding cut
counted_cut rule before [] after = refl
counted_cut rule before (c ∷ cs) after =
    attached c (rule (c ∷ before) (cs ++ after)) (cut rule (c ∷ before) cs after) ∙ ap suc (counted_cut rule (c ∷ before) cs after)

-- the pieces have the characters of the text
pub char_total-segments : (rule : Rule) (text : List ℕ) → char_total (segments rule text) ≡ length (chars text)
unfolding segments
char_total-segments rule text = counted_cut rule [] (chars text) []

-- a text has no more characters than bytes
pub chars-within : (text : List ℕ) → IsUtf8 text → length (chars text) ≤ length text
chars-within text u = subst (λ bs. length (chars text) ≤ length bs) (encodes-chars text u) (length-le-encodes (chars text))
