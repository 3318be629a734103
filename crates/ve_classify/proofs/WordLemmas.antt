-- The words of a spelled value are those that it says, each decoded; and the words that are asked
-- for are spelled without references.
use Rattle.std.proofs.Common.{◌≡◌, ℕ, zero, suc, ◌+◌, ◌<◌, ◌≤◌, Bool, true, false, not, cond, ◌&&◌, ◌||◌, List, [], ◌∷◌, ◌++◌, length, drop, take, map, refl, sym, ap, ◌∙◌, subst, arith, lit<, inl, inr, ◌⊎◌, if◌then◌else◌}
use Rattle.std.specs.Prelude.{◌==◌, codes, bytes_eq}
use Rattle.std.specs.List.{list_any, prefix_len, slice_range}
use Rattle.std.proofs.Math.Seq.{take-length}
use Rattle.std.proofs.lemmas.Bool.{eqb-true, cases_lt}
use Rattle.std.proofs.lemmas.List.{length-append, append-nil, drop-drop, length-drop}
use Rattle.model_spelling.specs.Grammar.{begins_with}
use Rattle.model_spelling.specs.Written.{decoded, decoded_from}
use Rattle.model_spelling.proofs.TokenRuns.{begins_parts, begins_more, begins_from_parts}
use Rattle.model_spelling.proofs.AttrReading.{and_left, and_right}
use Rattle.model_spelling.proofs.Escape.{decoded-byte}
use Rattle.ve_html_scan.proofs.Decoding.{amp_read, lt_read, gt_read, nbsp_read, quot_read, apos_read, none_read}
use Rattle.model_page.specs.Elements.{is_white_char, with_letter, words_of, is_transclusion}
use Rattle.ve_classify.specs.declared.types.TypeTest.{TypeTest}
use Rattle.ve_classify.specs.declared.types.TypeTest.TheVariants as ask
use Rattle.ve_classify.specs.Values.{answer_of_test}

nothing_decoded : decoded [] ≡ []
unfolding decoded_from
nothing_decoded = refl

-- ---- one word after the other

word_by : (c : ℕ) (cs : List ℕ) (w : Bool) → is_white_char c ≡ w → (prefix_len (λ x. not (is_white_char x)) cs ≡ length cs → words_of cs ≡ cs ∷ []) → cond (not w) (1 + prefix_len (λ x. not (is_white_char x)) cs) 0 ≡ suc (length cs) → words_of (c ∷ cs) ≡ (c ∷ cs) ∷ []
word_by c cs true e rec n = absurd (omega (arith, n))
word_by c cs false e rec n = rw e (ap (with_letter c) (rec (omega (arith, n))))

-- the last word
pub word_last : (v : List ℕ) → prefix_len (λ x. not (is_white_char x)) v ≡ length v → words_of v ≡ v ∷ []
word_last [] n = refl
word_last (c ∷ cs) n = word_by c cs (is_white_char c) refl (word_last cs) n

then_by : (c : ℕ) (cs : List ℕ) (w : Bool) → is_white_char c ≡ w → (prefix_len (λ x. not (is_white_char x)) cs < length cs → words_of cs ≡ take (prefix_len (λ x. not (is_white_char x)) cs) cs ∷ words_of (drop (prefix_len (λ x. not (is_white_char x)) cs + 1) cs)) → cond (not w) (1 + prefix_len (λ x. not (is_white_char x)) cs) 0 < suc (length cs) →
    words_of (c ∷ cs) ≡ take (cond (not w) (1 + prefix_len (λ x. not (is_white_char x)) cs) 0) (c ∷ cs) ∷ words_of (drop (cond (not w) (1 + prefix_len (λ x. not (is_white_char x)) cs) 0 + 1) (c ∷ cs))
then_by c cs true e rec n = rw e refl
then_by c cs false e rec n =
    let p : ℕ = prefix_len (λ x. not (is_white_char x)) cs in
    let one : 1 + p ≡ suc p = omega arith in
    let more : suc p + 1 ≡ suc (p + 1) = omega arith in
    rw (e, one, more) (ap (with_letter c) (rec (omega (arith, n))))

-- a word, and the others
pub word_then : (v : List ℕ) → prefix_len (λ x. not (is_white_char x)) v < length v → words_of v ≡ take (prefix_len (λ x. not (is_white_char x)) v) v ∷ words_of (drop (prefix_len (λ x. not (is_white_char x)) v + 1) v)
word_then [] n = absurd (omega (arith, n))
word_then (c ∷ cs) n = then_by c cs (is_white_char c) refl (word_then cs) n

-- ---- letters before the first word

abbrev with_letters : List ℕ → List (List ℕ) → List (List ℕ)
with_letters [] ws = ws
with_letters (c ∷ cs) ws = with_letter c (with_letters cs ws)

abbrev no_white : List ℕ → Bool
no_white [] = true
no_white (c ∷ cs) = not (is_white_char c) && no_white cs

letter_by : (c : ℕ) (ws : List (List ℕ)) (w : Bool) (later : List (List ℕ)) → not w ≡ true → (if w then [] ∷ later else with_letter c ws) ≡ with_letter c ws
letter_by c ws true later e = absurd cc
letter_by c ws false later e = refl

words_prefix : (cs v : List ℕ) → no_white cs ≡ true → words_of (cs ++ v) ≡ with_letters cs (words_of v)
words_prefix [] v e = refl
words_prefix (c ∷ cs) v e =
    letter_by c (words_of (cs ++ v)) (is_white_char c) (words_of (cs ++ v)) (and_left (not (is_white_char c)) (no_white cs) e)
    ∙ ap (with_letter c) (words_prefix cs v (and_right (not (is_white_char c)) (no_white cs) e))

-- the first word and the others
record FirstWord (v : List ℕ) : Type 0 where
  word : List ℕ
  words : List (List ℕ)
  after : List ℕ
  is : words_of v ≡ word ∷ words
  parts : v ≡ word ++ after

first_by : (c : ℕ) (cs : List ℕ) (w : Bool) → is_white_char c ≡ w → FirstWord cs → FirstWord (c ∷ cs)
first_by c cs true e f = record { word = []; words = words_of cs; after = c ∷ cs; is = rw e refl; parts = refl }
first_by c cs false e f = record { word = c ∷ f.word; words = f.words; after = f.after; is = rw e (ap (with_letter c) f.is); parts = ap (λ l. c ∷ l) f.parts }

first_word : (v : List ℕ) → FirstWord v
first_word [] = record { word = []; words = []; after = []; is = refl; parts = refl }
first_word (c ∷ cs) = first_by c cs (is_white_char c) refl (first_word cs)

letters_word : (cs word : List ℕ) (words : List (List ℕ)) → with_letters cs (word ∷ words) ≡ (cs ++ word) ∷ words
letters_word [] word words = refl
letters_word (c ∷ cs) word words = ap (with_letter c) (letters_word cs word words)

-- ---- what a spelled text begins with, that begins with `&`

-- The prefix is one reference, or a stray `&`: it says this, whatever of the text stands after it.
record Amp (t : List ℕ) : Type 0 where
  spelled : List ℕ
  says : List ℕ
  rest : List ℕ
  whole : t ≡ spelled ++ rest
  some : 0 < length spelled
  spelled_words : no_white spelled ≡ true
  says_words : no_white says ≡ true
  same : (u v : List ℕ) → rest ≡ u ++ v → decoded (spelled ++ u) ≡ says ++ decoded u
  first : ℕ
  others : List ℕ
  says_is : says ≡ first ∷ others
  strange : (first == 38 || first == 60 || first == 62 || first == 194 || first == 34 || first == 39) ≡ true

module _ (t : List ℕ) where
  amp_by : begins_with (codes "&amp;") t ≡ true → Amp t
  unfolding begins_with
  amp_by e = record { spelled = codes "&amp;"; says = 38 ∷ []; rest = drop 5 t; whole = begins_parts (codes "&amp;") t e; some = lit< tt; spelled_words = refl; says_words = refl; same = λ u v p. amp_read (codes "&amp;" ++ u) refl; first = 38; others = []; says_is = refl; strange = refl }

  lt_by : begins_with (codes "&lt;") t ≡ true → Amp t
  unfolding begins_with
  lt_by e = record { spelled = codes "&lt;"; says = 60 ∷ []; rest = drop 4 t; whole = begins_parts (codes "&lt;") t e; some = lit< tt; spelled_words = refl; says_words = refl; same = λ u v p. lt_read (codes "&lt;" ++ u) refl refl; first = 60; others = []; says_is = refl; strange = refl }

  gt_by : begins_with (codes "&gt;") t ≡ true → Amp t
  unfolding begins_with
  gt_by e = record { spelled = codes "&gt;"; says = 62 ∷ []; rest = drop 4 t; whole = begins_parts (codes "&gt;") t e; some = lit< tt; spelled_words = refl; says_words = refl; same = λ u v p. gt_read (codes "&gt;" ++ u) refl refl refl; first = 62; others = []; says_is = refl; strange = refl }

  nbsp_by : begins_with (codes "&nbsp;") t ≡ true → Amp t
  unfolding begins_with
  nbsp_by e = record { spelled = codes "&nbsp;"; says = 194 ∷ 160 ∷ []; rest = drop 6 t; whole = begins_parts (codes "&nbsp;") t e; some = lit< tt; spelled_words = refl; says_words = refl; same = λ u v p. nbsp_read (codes "&nbsp;" ++ u) refl refl refl refl; first = 194; others = 160 ∷ []; says_is = refl; strange = refl }

  quot_by : begins_with (codes "&quot;") t ≡ true → Amp t
  unfolding begins_with
  quot_by e = record { spelled = codes "&quot;"; says = 34 ∷ []; rest = drop 6 t; whole = begins_parts (codes "&quot;") t e; some = lit< tt; spelled_words = refl; says_words = refl; same = λ u v p. quot_read (codes "&quot;" ++ u) refl refl refl refl refl; first = 34; others = []; says_is = refl; strange = refl }

  apos_by : begins_with (codes "&apos;") t ≡ true → Amp t
  unfolding begins_with
  apos_by e = record { spelled = codes "&apos;"; says = 39 ∷ []; rest = drop 6 t; whole = begins_parts (codes "&apos;") t e; some = lit< tt; spelled_words = refl; says_words = refl; same = λ u v p. apos_read (codes "&apos;" ++ u) refl refl refl refl refl refl; first = 39; others = []; says_is = refl; strange = refl }

no_by : (r t u v : List ℕ) (b : Bool) → begins_with r u ≡ b → begins_with r t ≡ false → t ≡ u ++ v → b ≡ false
no_by r t u v false h e w = refl
no_by r t u v true h e w = let m = begins_more r u v h in let f = ap (begins_with r) w in absurd cc

-- a prefix of a text that doesn't begin so doesn't either
no_prefix : (r t u v : List ℕ) → begins_with r t ≡ false → t ≡ u ++ v → begins_with r u ≡ false
no_prefix r t u v e w = no_by r t u v (begins_with r u) refl e w

stray : (bs : List ℕ) → begins_with (codes "&amp;") (38 ∷ bs) ≡ false → begins_with (codes "&lt;") (38 ∷ bs) ≡ false → begins_with (codes "&gt;") (38 ∷ bs) ≡ false → begins_with (codes "&nbsp;") (38 ∷ bs) ≡ false → begins_with (codes "&quot;") (38 ∷ bs) ≡ false → begins_with (codes "&apos;") (38 ∷ bs) ≡ false → Amp (38 ∷ bs)
stray bs n0 n1 n2 n3 n4 n5 = record {
  spelled = 38 ∷ [];
  says = 38 ∷ [];
  rest = bs;
  whole = refl;
  some = lit< tt;
  spelled_words = refl;
  says_words = refl;
  same = λ u v p. let w : 38 ∷ bs ≡ (38 ∷ u) ++ v = ap (λ l. 38 ∷ l) p in none_read (38 ∷ u) refl (no_prefix _ _ (38 ∷ u) v n0 w) (no_prefix _ _ (38 ∷ u) v n1 w) (no_prefix _ _ (38 ∷ u) v n2 w) (no_prefix _ _ (38 ∷ u) v n3 w) (no_prefix _ _ (38 ∷ u) v n4 w) (no_prefix _ _ (38 ∷ u) v n5 w);
  first = 38;
  others = [];
  says_is = refl;
  strange = refl;
}

amp_of : (bs : List ℕ) (b0 b1 b2 b3 b4 b5 : Bool) → begins_with (codes "&amp;") (38 ∷ bs) ≡ b0 → begins_with (codes "&lt;") (38 ∷ bs) ≡ b1 → begins_with (codes "&gt;") (38 ∷ bs) ≡ b2 → begins_with (codes "&nbsp;") (38 ∷ bs) ≡ b3 → begins_with (codes "&quot;") (38 ∷ bs) ≡ b4 → begins_with (codes "&apos;") (38 ∷ bs) ≡ b5 → Amp (38 ∷ bs)
amp_of bs true b1 b2 b3 b4 b5 e0 e1 e2 e3 e4 e5 = amp_by (38 ∷ bs) e0
amp_of bs false true b2 b3 b4 b5 e0 e1 e2 e3 e4 e5 = lt_by (38 ∷ bs) e1
amp_of bs false false true b3 b4 b5 e0 e1 e2 e3 e4 e5 = gt_by (38 ∷ bs) e2
amp_of bs false false false true b4 b5 e0 e1 e2 e3 e4 e5 = nbsp_by (38 ∷ bs) e3
amp_of bs false false false false true b5 e0 e1 e2 e3 e4 e5 = quot_by (38 ∷ bs) e4
amp_of bs false false false false false true e0 e1 e2 e3 e4 e5 = apos_by (38 ∷ bs) e5
amp_of bs false false false false false false e0 e1 e2 e3 e4 e5 = stray bs e0 e1 e2 e3 e4 e5

amp : (bs : List ℕ) → Amp (38 ∷ bs)
amp bs = amp_of bs _ _ _ _ _ _ refl refl refl refl refl refl

-- ---- the words of what is said

amp_words : (t : List ℕ) (a : Amp t) → words_of (decoded a.rest) ≡ map decoded (words_of a.rest) → words_of (decoded t) ≡ map decoded (words_of t)
amp_words t a rec =
    let f = first_word a.rest in
    let says : decoded t ≡ a.says ++ decoded a.rest = ap decoded a.whole ∙ a.same a.rest [] (sym (append-nil a.rest)) in
    let left : words_of (decoded t) ≡ with_letters a.says (words_of (decoded a.rest)) = ap words_of says ∙ words_prefix a.says (decoded a.rest) a.says_words in
    let mid : words_of (decoded a.rest) ≡ decoded f.word ∷ map decoded f.words = rec ∙ ap (map decoded) f.is in
    let right : words_of t ≡ (a.spelled ++ f.word) ∷ f.words = ap words_of a.whole ∙ words_prefix a.spelled a.rest a.spelled_words ∙ ap (with_letters a.spelled) f.is ∙ letters_word a.spelled f.word f.words in
    left ∙ ap (with_letters a.says) mid ∙ letters_word a.says (decoded f.word) (map decoded f.words)
    ∙ ap (λ w. w ∷ map decoded f.words) (sym (a.same f.word f.after f.parts)) ∙ sym (ap (map decoded) right)

decoded_byte : (b : ℕ) (t : List ℕ) → (b == 38) ≡ false → decoded (b ∷ t) ≡ b ∷ decoded t
decoded_byte b t h = decoded-byte b t h

byte_by : (b : ℕ) (bs : List ℕ) (w : Bool) → (b == 38) ≡ false → is_white_char b ≡ w → words_of (decoded bs) ≡ map decoded (words_of bs) → words_of (decoded (b ∷ bs)) ≡ map decoded (words_of (b ∷ bs))
byte_by b bs true n e rec = ap words_of (decoded_byte b bs n) ∙ rw e (ap (λ l. [] ∷ l) rec ∙ ap (λ w. w ∷ map decoded (words_of bs)) (sym nothing_decoded))
byte_by b bs false n e rec =
    let f = first_word bs in
    let mid : words_of (decoded bs) ≡ decoded f.word ∷ map decoded f.words = rec ∙ ap (map decoded) f.is in
    ap words_of (decoded_byte b bs n) ∙ rw e (ap (with_letter b) mid ∙ ap (λ w. w ∷ map decoded f.words) (sym (decoded_byte b f.word n)) ∙ sym (ap (λ ws. map decoded (with_letter b ws)) f.is))

words_at : (k b : ℕ) (bs : List ℕ) (c : Bool) → (b == 38) ≡ c → length bs ≤ k → ((t : List ℕ) → length t ≤ k → words_of (decoded t) ≡ map decoded (words_of t)) → words_of (decoded (b ∷ bs)) ≡ map decoded (words_of (b ∷ bs))
words_at k b bs false e le rec = byte_by b bs (is_white_char b) e refl (rec bs le)
words_at k b bs true e le rec =
    let a = amp bs in
    let long = length-append a.spelled a.rest in
    let is : b ≡ 38 = eqb-true b 38 e in
    subst (λ x. words_of (decoded (x ∷ bs)) ≡ map decoded (words_of (x ∷ bs))) (sym is) (amp_words (38 ∷ bs) a (rec a.rest (omega (arith, long, a.some, ap length a.whole, le))))

words_by : (k : ℕ) (t : List ℕ) → length t ≤ k → words_of (decoded t) ≡ map decoded (words_of t)
words_by k [] le = ap words_of nothing_decoded ∙ ap (λ w. w ∷ []) (sym nothing_decoded)
words_by zero (b ∷ bs) le = absurd (omega (arith, le))
words_by (suc k) (b ∷ bs) le = words_at k b bs (b == 38) refl (omega (arith, le)) (words_by k)

-- ---- words without references

-- none of the bytes that a reference begins with or stands for
abbrev strange : ℕ → Bool
strange c = c == 38 || c == 60 || c == 62 || c == 194 || c == 34 || c == 39

abbrev ordinary : List ℕ → Bool
ordinary [] = true
ordinary (c ∷ cs) = not (strange c) && ordinary cs

contradiction : (b : Bool) → b ≡ true → not b ≡ true → ⊥
contradiction true e f = absurd cc
contradiction false e f = absurd cc

differs_by : (c x : ℕ) (b : Bool) → (c == x) ≡ b → strange x ≡ true → not (strange c) ≡ true → b ≡ false
differs_by c x false e s o = refl
differs_by c x true e s o =
    let same : c ≡ x = eqb-true c x e in
    let other : not (strange x) ≡ true = ap (λ y. not (strange y)) (sym same) ∙ o in
    absurd (contradiction (strange x) s other)

differs : (c x : ℕ) → strange x ≡ true → not (strange c) ≡ true → (c == x) ≡ false
differs c x s o = differs_by c x (c == x) refl s o

back_by : (c x : ℕ) (b : Bool) → (x == c) ≡ b → strange x ≡ true → not (strange c) ≡ true → b ≡ false
back_by c x false e s o = refl
back_by c x true e s o = absurd (contradiction (strange x) s (ap (λ y. not (strange y)) (eqb-true x c e) ∙ o))

differs_back : (c x : ℕ) → strange x ≡ true → not (strange c) ≡ true → (x == c) ≡ false
differs_back c x s o = back_by c x (x == c) refl s o

begins_cons : (c x : ℕ) (cs xs : List ℕ) → begins_with (c ∷ cs) (x ∷ xs) ≡ ((c == x) && begins_with cs xs)
unfolding begins_with
begins_cons c x cs xs = refl

begins_nothing : (c : ℕ) (cs : List ℕ) → begins_with (c ∷ cs) [] ≡ false
unfolding begins_with
begins_nothing c cs = refl

begins_all : (xs : List ℕ) → begins_with [] xs ≡ true
begins_all xs = begins_from_parts [] xs xs refl

begins_at : (c : ℕ) (cs : List ℕ) (b : ℕ) (bs : List ℕ) (a : Bool) → (b == 38) ≡ a → ordinary (c ∷ cs) ≡ true → begins_with cs (decoded bs) ≡ begins_with cs bs → begins_with (c ∷ cs) (decoded (b ∷ bs)) ≡ begins_with (c ∷ cs) (b ∷ bs)
begins_at c cs b bs false e o rec = ap (begins_with (c ∷ cs)) (decoded_byte b bs e) ∙ begins_cons c b cs (decoded bs) ∙ ap (λ x. (c == b) && x) rec ∙ sym (begins_cons c b cs bs)
begins_at c cs b bs true e o rec =
    let a = amp bs in
    let is : b ≡ 38 = eqb-true b 38 e in
    let plain = and_left (not (strange c)) (ordinary cs) o in
    let said : decoded (38 ∷ bs) ≡ a.first ∷ (a.others ++ decoded a.rest) = ap decoded a.whole ∙ a.same a.rest [] (sym (append-nil a.rest)) ∙ ap (λ l. l ++ decoded a.rest) a.says_is in
    let left : begins_with (c ∷ cs) (decoded (38 ∷ bs)) ≡ false = ap (begins_with (c ∷ cs)) said ∙ begins_cons c a.first cs (a.others ++ decoded a.rest) ∙ ap (λ x. x && begins_with cs (a.others ++ decoded a.rest)) (differs c a.first a.strange plain) in
    let right : begins_with (c ∷ cs) (38 ∷ bs) ≡ false = begins_cons c 38 cs bs ∙ ap (λ x. x && begins_with cs bs) (differs c 38 refl plain) in
    subst (λ x. begins_with (c ∷ cs) (decoded (x ∷ bs)) ≡ begins_with (c ∷ cs) (x ∷ bs)) (sym is) (left ∙ sym right)

begins_plain : (p w : List ℕ) → ordinary p ≡ true → begins_with p (decoded w) ≡ begins_with p w
begins_plain [] w o = begins_all (decoded w) ∙ sym (begins_all w)
begins_plain (c ∷ cs) [] o = ap (begins_with (c ∷ cs)) nothing_decoded
begins_plain (c ∷ cs) (b ∷ bs) o = begins_at c cs b bs (b == 38) refl o (begins_plain cs bs (and_right (not (strange c)) (ordinary cs) o))

equal_none : (b : ℕ) (bs : List ℕ) (a : Bool) → (b == 38) ≡ a → bytes_eq (decoded (b ∷ bs)) [] ≡ bytes_eq (b ∷ bs) []
equal_none b bs false e = ap (λ x. bytes_eq x []) (decoded_byte b bs e)
equal_none b bs true e =
    let a = amp bs in
    let is : b ≡ 38 = eqb-true b 38 e in
    let said : decoded (38 ∷ bs) ≡ a.first ∷ (a.others ++ decoded a.rest) = ap decoded a.whole ∙ a.same a.rest [] (sym (append-nil a.rest)) ∙ ap (λ l. l ++ decoded a.rest) a.says_is in
    subst (λ x. bytes_eq (decoded (x ∷ bs)) [] ≡ bytes_eq (x ∷ bs) []) (sym is) (ap (λ x. bytes_eq x []) said)

equal_at : (c : ℕ) (cs : List ℕ) (b : ℕ) (bs : List ℕ) (a : Bool) → (b == 38) ≡ a → ordinary (c ∷ cs) ≡ true → bytes_eq (decoded bs) cs ≡ bytes_eq bs cs → bytes_eq (decoded (b ∷ bs)) (c ∷ cs) ≡ bytes_eq (b ∷ bs) (c ∷ cs)
equal_at c cs b bs false e o rec = ap (λ x. bytes_eq x (c ∷ cs)) (decoded_byte b bs e) ∙ ap (λ x. (b == c) && x) rec
equal_at c cs b bs true e o rec =
    let a = amp bs in
    let is : b ≡ 38 = eqb-true b 38 e in
    let plain = and_left (not (strange c)) (ordinary cs) o in
    let said : decoded (38 ∷ bs) ≡ a.first ∷ (a.others ++ decoded a.rest) = ap decoded a.whole ∙ a.same a.rest [] (sym (append-nil a.rest)) ∙ ap (λ l. l ++ decoded a.rest) a.says_is in
    let left : bytes_eq (decoded (38 ∷ bs)) (c ∷ cs) ≡ false = ap (λ x. bytes_eq x (c ∷ cs)) said ∙ ap (λ x. x && bytes_eq (a.others ++ decoded a.rest) cs) (differs_back c a.first a.strange plain) in
    let right : bytes_eq (38 ∷ bs) (c ∷ cs) ≡ false = ap (λ x. x && bytes_eq bs cs) (differs_back c 38 refl plain) in
    subst (λ x. bytes_eq (decoded (x ∷ bs)) (c ∷ cs) ≡ bytes_eq (x ∷ bs) (c ∷ cs)) (sym is) (left ∙ sym right)

equal_plain : (p w : List ℕ) → ordinary p ≡ true → bytes_eq (decoded w) p ≡ bytes_eq w p
equal_plain p [] o = ap (λ x. bytes_eq x p) nothing_decoded
equal_plain [] (b ∷ bs) o = equal_none b bs (b == 38) refl
equal_plain (c ∷ cs) (b ∷ bs) o = equal_at c cs b bs (b == 38) refl o (equal_plain cs bs (and_right (not (strange c)) (ordinary cs) o))

asked_plain : (test : TypeTest) (w : List ℕ) → answer_of_test test (decoded w) ≡ answer_of_test test w
asked_plain ask.Held w = begins_plain (codes "mw:") w refl
asked_plain ask.Generator w =
    ap (λ x. x || begins_with (codes "mw:Extension/") (decoded w)) (equal_plain (codes "mw:Transclusion") w refl)
    ∙ ap (λ x. is_transclusion w || x) (begins_plain (codes "mw:Extension/") w refl)
asked_plain ask.Reference w = equal_plain (codes "mw:Extension/ref") w refl
asked_plain ask.Transclusion w = equal_plain (codes "mw:Transclusion") w refl

any_plain : (test : TypeTest) (ws : List (List ℕ)) → list_any (answer_of_test test) (map decoded ws) ≡ list_any (answer_of_test test) ws
any_plain test [] = refl
any_plain test (w ∷ ws) = ap (λ x. x || list_any (answer_of_test test) (map decoded ws)) (asked_plain test w) ∙ ap (λ x. answer_of_test test w || x) (any_plain test ws)

-- the words that are asked for may be looked for in the value as it is spelled
pub spelled_words : (test : TypeTest) (v : List ℕ) → list_any (answer_of_test test) (words_of v) ≡ list_any (answer_of_test test) (words_of (decoded v))
spelled_words test v = sym (ap (list_any (answer_of_test test)) (words_by (length v) v (omega arith)) ∙ any_plain test (words_of v))

-- ---- the loop over words

any_true : (b : Bool) → (true || b) ≡ true
any_true b = refl

passed_by : (test : List ℕ → Bool) (v word : List ℕ) (p : ℕ) (same : (p ≡ length v) ⊎ (p < length v)) → prefix_len (λ x. not (is_white_char x)) v ≡ p → word ≡ take p v → test word ≡ true → list_any test (words_of v) ≡ true
passed_by test v word p (inl same) e w t =
    let whole : take p v ≡ v = ap (λ k. take k v) same ∙ take-length v in
    ap (list_any test) (word_last v (e ∙ same)) ∙ ap (λ x. test x || false) (sym whole ∙ sym w) ∙ ap (λ x. x || false) t
passed_by test v word p (inr lt) e w t =
    ap (list_any test) (word_then v (omega (arith, e, lt))) ∙ ap (λ k. test (take k v) || list_any test (words_of (drop (prefix_len (λ x. not (is_white_char x)) v + 1) v))) e
    ∙ ap (λ x. test x || list_any test (words_of (drop (prefix_len (λ x. not (is_white_char x)) v + 1) v))) (sym w) ∙ ap (λ x. x || list_any test (words_of (drop (prefix_len (λ x. not (is_white_char x)) v + 1) v))) t

ends_by : (a b : ℕ) → a ≤ b → (a < b) ⊎ (b ≤ a) → (a ≡ b) ⊎ (a < b)
ends_by a b le (inl lt) = inr lt
ends_by a b le (inr ge) = inl (omega (arith, le, ge))

ends : (a b : ℕ) → a ≤ b → (a ≡ b) ⊎ (a < b)
ends a b le = ends_by a b le (cases_lt a b)

pub passed : (test : List ℕ → Bool) (v : List ℕ) (from to : ℕ) → from ≤ length v → to ≡ from + prefix_len (λ x. not (is_white_char x)) (drop from v) → to ≤ length v → test (slice_range v from to) ≡ true → list_any test (words_of (drop from v)) ≡ true
passed test v from to le e bound t =
    let p : ℕ = prefix_len (λ x. not (is_white_char x)) (drop from v) in
    let prefix : slice_range v from to ≡ take p (drop from v) = ap (λ (k : ℕ). take k (drop from v)) (omega (arith, e)) in
    passed_by test (drop from v) (slice_range v from to) p (ends p (length (drop from v)) (omega (arith, e, bound, length-drop from v))) refl prefix t

pub at_last : (test : List ℕ → Bool) (v : List ℕ) (from to : ℕ) → from ≤ length v → to ≡ from + prefix_len (λ x. not (is_white_char x)) (drop from v) → to ≡ length v → test (slice_range v from to) ≡ false → list_any test (words_of (drop from v)) ≡ false
at_last test v from to le e end t =
    let len = length-drop from v in
    let prefix : slice_range v from to ≡ drop from v = ap (λ (k : ℕ). take k (drop from v)) (omega (arith, end, len)) ∙ take-length (drop from v) in
    ap (list_any test) (word_last (drop from v) (omega (arith, e, end, len, le))) ∙ ap (λ x. test x || false) (sym prefix) ∙ ap (λ x. x || false) t

pub next_word : (test : List ℕ → Bool) (v : List ℕ) (from to : ℕ) → from ≤ length v → to ≡ from + prefix_len (λ x. not (is_white_char x)) (drop from v) → to < length v → test (slice_range v from to) ≡ false →
    list_any test (words_of (drop (to + 1) v)) ≡ list_any test (words_of (drop from v))
next_word test v from to le e lt t =
    let p : ℕ = prefix_len (λ x. not (is_white_char x)) (drop from v) in
    let prefix : slice_range v from to ≡ take p (drop from v) = ap (λ (k : ℕ). take k (drop from v)) (omega (arith, e)) in
    let back : drop (p + 1) (drop from v) ≡ drop (to + 1) v = drop-drop (p + 1) from v ∙ ap (λ k. drop k v) (omega (arith, e)) in
    sym (ap (list_any test) (word_then (drop from v) (omega (arith, e, lt, length-drop from v))) ∙ ap (λ x. x || list_any test (words_of (drop (p + 1) (drop from v)))) (ap test (sym prefix) ∙ t) ∙ ap (λ l. list_any test (words_of l)) back)
