-- Texts, names and values of a page are ones that a line may write, and what says that an element is
-- kept whole is the same in bytes and in characters.
use Rattle.std.proofs.Common.{◌≡◌, ℕ, zero, suc, ◌<◌, ◌==◌, Bool, true, false, not, ◌&&◌, ◌||◌, if◌then◌else◌, List, [], ◌∷◌, ◌++◌, length, take, map, get_or, refl, sym, ap, ◌∙◌, arith, eqb-true, nat_eq, IsUtf8}
use Rattle.std.specs.Prelude.{chars, codes, encode_utf8, encode_utf8_all, IsAscii}
use Rattle.std.specs.List.{list_any, list_all}
use lib.Pointwise.{pointwise}
use Rattle.std.specs.Str.{all_scalars}
use Rattle.std.proofs.lemmas.Bool.{and_parts, and_from, not-true, or_parts, or_from}
use Rattle.std.proofs.lemmas.List.{append-nil}
use Rattle.std.proofs.lemmas.Str.{chars-IsAscii, encodes-chars, scalars-chars, encode_ascii, IsUtf8-from_ascii, inside_one}
use Rattle.std.proofs.lemmas.Grind.{common_steps}
use Rattle.model_spelling.specs.Grammar.{begins_with, is_attr_name, is_barred, is_name_byte, is_run, is_tag_name, is_letter, is_plaintext, is_text as is_token_text, starts_reference}
use Rattle.model_spelling.specs.Written.{decoded, decoded_from, meanings, prefix_of}
use Rattle.model_spelling.proofs.Proved.{law_decodes_utf8}
use Rattle.model_page.specs.Elements.{is_white, is_white_char, with_letter, words_of}
use Rattle.model_page.specs.Heads.{characters}
use Rattle.model_page_law.proofs.TileLemmas.{white-IsAscii}
use Rattle.model_world_law.specs.Writable.{is_text}

-- ---- no barred byte

abbrev pub Clean : List ℕ → Type 0
Clean bs = list_any is_barred bs ≡ false

pub clean-append : (a b : List ℕ) → Clean a → Clean b → Clean (a ++ b)
clean-append [] b h k = k
clean-append (c ∷ a) b h k = let p = or_parts (is_barred c) (list_any is_barred a) h in or_from (is_barred c) (list_any is_barred (a ++ b)) p.0 (clean-append a b p.1 k)

pub clean-parts : (a b : List ℕ) → Clean (a ++ b) → Clean a × Clean b
clean-parts [] b h = (refl, h)
clean-parts (c ∷ a) b h =
    let p = or_parts (is_barred c) (list_any is_barred (a ++ b)) h in
    let q = clean-parts a b p.1 in
    (or_from (is_barred c) (list_any is_barred a) p.0 q.0, q.1)

run_clean : (stop : ℕ) (bs : List ℕ) → is_run stop bs ≡ true → Clean bs
run_clean stop [] h = refl
run_clean stop (b ∷ bs) h =
    let p = and_parts (not (b == stop) && not (is_barred b) && (not (b == 38) || starts_reference (b ∷ bs))) (is_run stop bs) h in
    let q = and_parts (not (b == stop) && not (is_barred b)) (not (b == 38) || starts_reference (b ∷ bs)) p.0 in
    or_from (is_barred b) (list_any is_barred bs) (not-true (is_barred b) (and_parts (not (b == stop)) (not (is_barred b)) q.0).1) (run_clean stop bs p.1)

-- what references stand for isn't barred
abbrev AllClean : List (List ℕ × List ℕ) → Type 0
AllClean [] = Unit {0}
AllClean (m ∷ ms) = Clean m.1 × AllClean ms

meanings_clean : AllClean meanings
unfolding is_barred
meanings_clean = (refl, (refl, (refl, (refl, (refl, (refl, tt))))))

prefix_clean : (ms : List (List ℕ × List ℕ)) → AllClean ms → (b : ℕ) (bs : List ℕ) → Clean (b ∷ []) → Clean (prefix_of ms b bs).1
prefix_clean [] h b bs k = k
prefix_clean (m ∷ ms) h b bs k = by (begins_with m.0 (b ∷ bs)) (prefix_clean ms h.1 b bs k)
  where
    by : (c : Bool) → Clean (prefix_of ms b bs).1 → Clean (if c then m else prefix_of ms b bs).1
    by true rest = h.0
    by false rest = rest

decoded_clean : (bs : List ℕ) (skip : ℕ) → Clean bs → Clean (decoded_from skip bs)
unfolding decoded_from
decoded_clean [] zero h = refl
decoded_clean [] (suc skip) h = refl
decoded_clean (b ∷ bs) (suc skip) h = decoded_clean bs skip (or_parts (is_barred b) (list_any is_barred bs) h).1
decoded_clean (b ∷ bs) zero h =
    let p = or_parts (is_barred b) (list_any is_barred bs) h in
    clean-append (prefix_of meanings b bs).1 (decoded_from _ bs) (prefix_clean meanings meanings_clean b bs (or_from (is_barred b) false p.0 refl)) (decoded_clean bs _ p.1)

-- ---- texts that a line may write

pub text_of : (bs : List ℕ) → IsUtf8 bs → Clean bs → is_text (chars bs) ≡ true
text_of bs u c = and_from (all_scalars (chars bs)) _ (scalars-chars bs u) (ap (λ l. not (list_any is_barred l)) (encodes-chars bs u) ∙ ap not c)

pub value_text : (stop : ℕ) (bs : List ℕ) → IsUtf8 bs → is_run stop bs ≡ true → is_text (characters bs) ≡ true
value_text stop bs u h = text_of (decoded bs) (law_decodes_utf8 bs u) (decoded_clean bs 0 (run_clean stop bs h))

pub token_text_passes : (bs : List ℕ) → IsUtf8 bs → is_token_text bs ≡ true → is_text (characters bs) ≡ true
token_text_passes [] u h = cc
token_text_passes (b ∷ bs) u h = value_text 60 (b ∷ bs) u h

-- each character of one is such a text
pub text_first : (c : ℕ) (cs : List ℕ) → is_text (c ∷ cs) ≡ true → (is_text (c ∷ []) ≡ true) × (is_text cs ≡ true)
text_first c cs h =
    let p = and_parts (all_scalars (c ∷ cs)) (not (list_any is_barred (encode_utf8_all (c ∷ cs)))) h in
    let q = and_parts _ (all_scalars cs) p.0 in
    let r = clean-parts (encode_utf8 c) (encode_utf8_all cs) (not-true (list_any is_barred (encode_utf8_all (c ∷ cs))) p.1) in (
      and_from (all_scalars (c ∷ [])) _ (and_from _ true q.0 refl) (ap (λ l. not (list_any is_barred l)) (append-nil (encode_utf8 c)) ∙ ap not r.0),
      and_from (all_scalars cs) _ q.1 (ap not r.1),
    )

-- ---- names and whitespace are ASCII

name_byte-plain : (b : ℕ) → is_name_byte b ≡ true → (b < 128) × (is_barred b ≡ false)
unfolding is_barred
name_byte-plain b h = (grind (arith, common_steps), grind (arith, common_steps))

names-IsAscii : (bs : List ℕ) → list_all is_name_byte bs ≡ true → IsAscii bs
names-IsAscii [] h i = omega arith
names-IsAscii (b ∷ bs) h zero = (name_byte-plain b (and_parts (is_name_byte b) (list_all is_name_byte bs) h).0).0
names-IsAscii (b ∷ bs) h (suc i) = names-IsAscii bs (and_parts (is_name_byte b) (list_all is_name_byte bs) h).1 i

names_clean : (bs : List ℕ) → list_all is_name_byte bs ≡ true → Clean bs
names_clean [] h = refl
names_clean (b ∷ bs) h =
    let p = and_parts (is_name_byte b) (list_all is_name_byte bs) h in
    or_from (is_barred b) (list_any is_barred bs) (name_byte-plain b p.0).1 (names_clean bs p.1)

-- bytes that are ASCII and not barred: they are their own characters
pub record IsPlain (bs : List ℕ) : Type 0 where
  pub same : chars bs ≡ bs
  pub text : is_text (chars bs) ≡ true

plain_of : (bs : List ℕ) → IsAscii bs → Clean bs → IsPlain bs
plain_of bs a c = record { same = chars-IsAscii bs a; text = text_of bs (IsUtf8-from_ascii bs a) c }

pub attr_name_plain : (name : List ℕ) → is_attr_name name ≡ true → IsPlain name
attr_name_plain [] h = cc
attr_name_plain (b ∷ bs) h = plain_of (b ∷ bs) (names-IsAscii (b ∷ bs) h) (names_clean (b ∷ bs) h)

letter_named : (b : ℕ) → is_letter b ≡ true → is_name_byte b ≡ true
unfolding is_letter
letter_named b h = grind (arith, common_steps)

pub tag_name_plain : (name : List ℕ) → is_tag_name name ≡ true → IsPlain name
tag_name_plain [] h = cc
tag_name_plain (b ∷ bs) h =
    let p = and_parts (is_letter b && list_all is_name_byte bs) (not (is_plaintext (b ∷ bs))) h in
    let q = and_parts (is_letter b) (list_all is_name_byte bs) p.0 in
    let named = and_from (is_name_byte b) (list_all is_name_byte bs) (letter_named b q.0) q.1 in
    plain_of (b ∷ bs) (names-IsAscii (b ∷ bs) named) (names_clean (b ∷ bs) named)

white_char-plain : (b : ℕ) → is_white_char b ≡ true → is_barred b ≡ false
unfolding is_barred
white_char-plain b h = grind (arith, common_steps)

white_clean : (bs : List ℕ) → is_white bs ≡ true → Clean bs
white_clean [] h = refl
white_clean (b ∷ bs) h =
    let p = and_parts (is_white_char b) (is_white bs) h in
    or_from (is_barred b) (list_any is_barred bs) (white_char-plain b p.0) (white_clean bs p.1)

pub white_plain : (bs : List ℕ) → is_white bs ≡ true → IsPlain bs
white_plain bs h = plain_of bs (white-IsAscii bs h) (white_clean bs h)

-- whitespace is a text
pub white_text : (bs : List ℕ) → is_white bs ≡ true → is_text bs ≡ true
white_text bs h = let p = white_plain bs h in ap is_text (sym p.same) ∙ p.text

-- ---- the words of a value, in bytes and in characters

-- letters before the first of some words
abbrev prefixed : List ℕ → List (List ℕ) → List (List ℕ)
prefixed letters [] = letters ∷ []
prefixed letters (word ∷ words) = (letters ++ word) ∷ words

prefixed-nil : (t : List ℕ) → prefixed [] (words_of t) ≡ words_of t
prefixed-nil [] = refl
prefixed-nil (c ∷ cs) = by (is_white_char c) (words_of cs)
  where
    by : (w : Bool) (words : List (List ℕ)) → prefixed [] (if w then [] ∷ words else with_letter c words) ≡ (if w then [] ∷ words else with_letter c words)
    by true words = refl
    by false [] = refl
    by false (word ∷ words) = refl

prefixed-letter : (c : ℕ) (letters : List ℕ) (words : List (List ℕ)) → with_letter c (prefixed letters words) ≡ prefixed (c ∷ letters) words
prefixed-letter c letters [] = refl
prefixed-letter c letters (word ∷ words) = refl

chosen : {A : Type 0} (w : Bool) (a b : A) → w ≡ false → (if w then a else b) ≡ b
chosen true a b h = cc
chosen false a b h = refl

chosen_first : {A : Type 0} (w : Bool) (a b : A) → w ≡ true → (if w then a else b) ≡ a
chosen_first true a b h = refl
chosen_first false a b h = cc

letters_words : (letters t : List ℕ) → list_any is_white_char letters ≡ false → words_of (letters ++ t) ≡ prefixed letters (words_of t)
letters_words [] t h = sym (prefixed-nil t)
letters_words (c ∷ letters) t h =
    let p = or_parts (is_white_char c) (list_any is_white_char letters) h in
    chosen (is_white_char c) ([] ∷ words_of (letters ++ t)) (with_letter c (words_of (letters ++ t))) p.0
    ∙ ap (with_letter c) (letters_words letters t p.1)
    ∙ prefixed-letter c letters (words_of t)

none_by : (letters : List ℕ) → ((k : ℕ) → k < length letters → is_white_char (get_or letters k 0) ≡ false) → list_any is_white_char letters ≡ false
none_by [] h = refl
none_by (c ∷ letters) h = or_from (is_white_char c) (list_any is_white_char letters) (h 0 (omega arith)) (none_by letters (λ k below. h (suc k) (omega (arith, below))))

white_char-small : (c : ℕ) → is_white_char c ≡ true → c < 128
white_char-small c h = grind (arith, common_steps)

-- no byte of a character that isn't white is white
bytes_not_white : (c : ℕ) → is_white_char c ≡ false → list_any is_white_char (encode_utf8 c) ≡ false
bytes_not_white c h = none_by (encode_utf8 c) (λ k below. by k below (is_white_char (get_or (encode_utf8 c) k 0)) refl)
  where
    by : (k : ℕ) → k < length (encode_utf8 c) → (w : Bool) → is_white_char (get_or (encode_utf8 c) k 0) ≡ w → w ≡ false
    by k below false e = refl
    by k below true e =
        let is : c ≡ get_or (encode_utf8 c) k 0 = inside_one c [] (encode_utf8 c) k (sym (append-nil (encode_utf8 c))) below (white_char-small (get_or (encode_utf8 c) k 0) e) in
        sym e ∙ ap is_white_char (sym is) ∙ h

encoded_letter : (c : ℕ) (words : List (List ℕ)) → prefixed (encode_utf8 c) (map encode_utf8_all words) ≡ map encode_utf8_all (with_letter c words)
encoded_letter c [] = ap (λ l. l ∷ []) (sym (append-nil (encode_utf8 c)))
encoded_letter c (word ∷ words) = refl

pub words_encoded : (cs : List ℕ) → words_of (encode_utf8_all cs) ≡ map encode_utf8_all (words_of cs)
words_encoded [] = refl
words_encoded (c ∷ cs) = by (is_white_char c) refl (words_encoded cs)
  where
    by : (w : Bool) → is_white_char c ≡ w → words_of (encode_utf8_all cs) ≡ map encode_utf8_all (words_of cs) →
        words_of (encode_utf8 c ++ encode_utf8_all cs) ≡ map encode_utf8_all (if w then [] ∷ words_of cs else with_letter c (words_of cs))
    by true e rest =
        ap (λ l. words_of (l ++ encode_utf8_all cs)) (encode_ascii c (white_char-small c e))
        ∙ chosen_first (is_white_char c) ([] ∷ words_of (encode_utf8_all cs)) (with_letter c (words_of (encode_utf8_all cs))) e
        ∙ ap (λ words. [] ∷ words) rest
    by false e rest =
        letters_words (encode_utf8 c) (encode_utf8_all cs) (bytes_not_white c e)
        ∙ ap (prefixed (encode_utf8 c)) rest
        ∙ encoded_letter c (words_of cs)

-- ---- what a word begins with

abbrev Small : List ℕ → Type 0
Small [] = Unit {0}
Small (a ∷ as_) = (a < 128) × Small as_

begins_encoded : (prefix word : List ℕ) → Small prefix → pointwise nat_eq prefix (take (length prefix) word) ≡ true → pointwise nat_eq prefix (take (length prefix) (encode_utf8_all word)) ≡ true
begins_encoded [] word s h = refl
begins_encoded (a ∷ prefix) [] s h = cc
begins_encoded (a ∷ prefix) (c ∷ word) s h =
    let p = and_parts (nat_eq a c) (pointwise nat_eq prefix (take (length prefix) word)) h in
    let is : a ≡ c = eqb-true a c p.0 in
    let one : encode_utf8_all (c ∷ word) ≡ c ∷ encode_utf8_all word = ap (λ l. l ++ encode_utf8_all word) (encode_ascii c (omega (arith, is, s.0))) in
    ap (λ l. pointwise nat_eq (a ∷ prefix) (take (suc (length prefix)) l)) one ∙ and_from (nat_eq a c) _ p.0 (begins_encoded prefix word s.1 p.1)

begins_both : (word : List ℕ) → begins_with (codes "mw:") word ≡ true → begins_with (codes "mw:") (encode_utf8_all word) ≡ true
unfolding begins_with
begins_both word h = begins_encoded (codes "mw:") word (omega arith, (omega arith, (omega arith, tt))) h

none_encoded : (words : List (List ℕ)) → list_any (begins_with (codes "mw:")) (map encode_utf8_all words) ≡ false → list_any (begins_with (codes "mw:")) words ≡ false
none_encoded [] h = refl
none_encoded (word ∷ words) h =
    let p = or_parts (begins_with (codes "mw:") (encode_utf8_all word)) (list_any (begins_with (codes "mw:")) (map encode_utf8_all words)) h in
    or_from (begins_with (codes "mw:") word) (list_any (begins_with (codes "mw:")) words) (by (begins_with (codes "mw:") word) refl p.0) (none_encoded words p.1)
  where
    by : (b : Bool) → begins_with (codes "mw:") word ≡ b → begins_with (codes "mw:") (encode_utf8_all word) ≡ false → b ≡ false
    by false e n = refl
    by true e n = sym (begins_both word e) ∙ n

-- no word of a value begins `mw:` in characters, where none does in bytes
pub no_type : (value : List ℕ) → IsUtf8 value → list_any (begins_with (codes "mw:")) (words_of value) ≡ false → list_any (begins_with (codes "mw:")) (words_of (chars value)) ≡ false
no_type value u h =
    none_encoded (words_of (chars value))
    (ap (list_any (begins_with (codes "mw:"))) (sym (words_encoded (chars value)) ∙ ap words_of (encodes-chars value u)) ∙ h)
