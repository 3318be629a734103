-- The boundaries of a run of characters: they rise from 0 to the length of the run.
use lib.Utf8.{encode}
use Rattle.std.specs.Prelude.{encode_utf8, encode_utf8_all, find}
use Rattle.std.specs.Str.{chars, chars_after, continuation_len, lead_bits}
use Rattle.std.proofs.Common.{◌≡◌, ℕ, zero, suc, ◌+◌, ◌/◌, ◌<◌, ◌≤◌, Bool, true, false, cond, if◌then◌else◌, nat_lt, List, [], ◌∷◌, ◌++◌, length, map, reverse, Option, Some, None, refl, sym, ap, ◌∙◌, subst, arith}
use Rattle.std.proofs.lemmas.Bool.{lt-ltb, ltb-true, ltb-false, le-ltb}
use Rattle.std.proofs.lemmas.Grind.{reverse_onto}
use Rattle.unicode_segmentation.specs.Segments.{Rule, prepend, cut, segments}
use Rattle.unicode_segmentation.specs.Grapheme.{is_grapheme_break}
use Rattle.unicode_segmentation.specs.Word.{is_word_break}
use Rattle.model_edit.specs.declared.selection.By.{By}
use Rattle.model_edit.specs.declared.selection.By.TheVariants.{Cluster, Word}
use Rattle.model_edit.specs.Next.{Cutting, ends, boundaries, last_below, first_above, cutting}

-- each encoded number is read as one character

past_lead : (n v : ℕ) (bs : List ℕ) → length (chars_after zero v bs) ≡ suc (length (chars bs))
unfolding chars
past_lead n v [] = refl
past_lead n v (b ∷ bs) = refl

led : (a n : ℕ) (bs : List ℕ) → continuation_len a ≡ n → chars (a ∷ bs) ≡ chars_after n (lead_bits a) bs
unfolding chars
led a n bs p = λ i. chars_after (p i) (lead_bits a) bs

one_byte : (a : ℕ) → a < 128 → continuation_len a ≡ 0
one_byte a h = grind arith

two_bytes : (a : ℕ) → 128 ≤ a → a < 224 → continuation_len a ≡ 1
two_bytes a h g = grind arith

three_bytes : (a : ℕ) → 224 ≤ a → a < 240 → continuation_len a ≡ 2
three_bytes a h g = grind arith

four_bytes : (a : ℕ) → 240 ≤ a → continuation_len a ≡ 3
four_bytes a h = grind arith

one_more : (c : ℕ) (rest : List ℕ) → length (chars (encode_utf8 c ++ rest)) ≡ suc (length (chars rest))
unfolding encode
one_more c rest = by_size (nat_lt c 128) (nat_lt c 2048) (nat_lt c 65536) refl refl refl
  where
    by_size : (x y z : Bool) → nat_lt c 128 ≡ x → nat_lt c 2048 ≡ y → nat_lt c 65536 ≡ z → length (chars (encode_utf8 c ++ rest)) ≡ suc (length (chars rest))
    by_size true y z e f g = rw e (ap length (led c 0 rest (one_byte c (ltb-true c 128 e))) ∙ past_lead 0 _ rest)
    by_size false true z e f g =
        let low = ltb-false c 128 e in
        let high = ltb-true c 2048 f in
        rw (e, f) (ap length (led (192 + c / 64) 1 _ (two_bytes (192 + c / 64) (omega arith) (omega arith))) ∙ past_lead 0 _ rest)
    by_size false false true e f g =
        let high = ltb-true c 65536 g in
        rw (e, f, g) (ap length (led (224 + c / 4096) 2 _ (three_bytes (224 + c / 4096) (omega arith) (omega arith))) ∙ past_lead 0 _ rest)
    by_size false false false e f g = rw (e, f, g) (ap length (led (240 + c / 262144) 3 _ (four_bytes (240 + c / 262144) (omega arith))) ∙ past_lead 0 _ rest)

chars_counted : (cs : List ℕ) → length (chars (encode_utf8_all cs)) ≡ length cs
unfolding chars
chars_counted [] = refl
chars_counted (c ∷ cs) = one_more c (encode_utf8_all cs) ∙ ap suc (chars_counted cs)

-- pieces

abbrev pub total : List (List ℕ) → ℕ
total [] = 0
total (p ∷ ps) = length p + total ps

-- how many stand before the end of each
abbrev pub sums : ℕ → List (List ℕ) → List ℕ
sums n [] = []
sums n (p ∷ ps) = (n + length p) ∷ sums (n + length p) ps

ends-sums : (n : ℕ) (ps : List (List ℕ)) → ends n (map encode_utf8_all ps) ≡ sums n ps
ends-sums n [] = refl
ends-sums n (p ∷ ps) =
    ap (λ k. (n + k) ∷ ends (n + k) (map encode_utf8_all ps)) (chars_counted p) ∙ ap (λ v. (n + length p) ∷ v) (ends-sums (n + length p) ps)

total-cut : (rule : Rule) (before cs suffix : List ℕ) → total (cut rule before cs suffix) ≡ length cs
unfolding cut
total-cut rule before [] suffix = refl
total-cut rule before (c ∷ cs) suffix =
    attached (rule (c ∷ before) (cs ++ suffix)) (cut rule (c ∷ before) cs suffix) ∙ ap suc (total-cut rule (c ∷ before) cs suffix)
  where
    attached : (b : Bool) (ps : List (List ℕ)) → total (if b then (c ∷ []) ∷ ps else prepend (c ∷ []) ps) ≡ suc (total ps)
    attached true ps = omega arith
    attached false [] = refl
    attached false (p ∷ ps) = omega arith

-- a rule that cuts each run into pieces that make it up
pub record Cuts (rule : Cutting) (run : List ℕ) : Type 0 where
  pub pieces : List (List ℕ)
  pub bounds : boundaries rule run ≡ 0 ∷ sums 0 pieces
  pub whole : total pieces ≡ length run

cuts_by_rule : (rule : Rule) (run : List ℕ) → Cuts (segments rule) run
unfolding segments
cuts_by_rule rule run =
    let pieces = cut rule [] (chars (encode_utf8_all run)) [] in
    record {
      pieces = pieces;
      bounds = ap (λ v. 0 ∷ v) (ends-sums 0 pieces);
      whole = total-cut rule [] (chars (encode_utf8_all run)) [] ∙ chars_counted run;
    }

pub cuts : (by : By) (run : List ℕ) → Cuts (cutting by) run
cuts Cluster run = cuts_by_rule (is_grapheme_break true) run
cuts Word run = cuts_by_rule is_word_break run

-- what is found

found : (test : ℕ → Bool) (xs : List ℕ) (n : ℕ) → find test xs ≡ Some n → test n ≡ true
found test [] n h = cc
found test (x ∷ xs) n h = by_test (found test xs n) (test x) refl h
  where
    by_test : (find test xs ≡ Some n → test n ≡ true) → (b : Bool) → test x ≡ b → cond b (Some x) (find test xs) ≡ Some n → test n ≡ true
    by_test later true e h = let same : x ≡ n = cc in subst (λ k. test k ≡ true) same e
    by_test later false e h = later h

-- of rising sums none passes the total
sums_below : (test : ℕ → Bool) (start n : ℕ) (ps : List (List ℕ)) → find test (sums start ps) ≡ Some n → n ≤ start + total ps
sums_below test start n [] h = cc
sums_below test start n (p ∷ ps) h = by_test (sums_below test (start + length p) n ps) (test (start + length p)) h
  where
    by_test : (find test (sums (start + length p) ps) ≡ Some n → n ≤ (start + length p) + total ps) → (b : Bool) →
        cond b (Some (start + length p)) (find test (sums (start + length p) ps)) ≡ Some n → n ≤ start + (length p + total ps)
    by_test later true h = let same : start + length p ≡ n = cc in omega arith
    by_test later false h = let below = later h in omega arith

-- and the total is one of them
sum_above : (bound start : ℕ) (ps : List (List ℕ)) → start ≤ bound → bound < start + total ps → find (λ n. nat_lt bound n) (sums start ps) ≡ None → ⊥
sum_above bound start [] low high h = let none : ⊥ = omega arith in none
sum_above bound start (p ∷ ps) low high h = by_test (nat_lt bound (start + length p)) refl h (sum_above bound (start + length p) ps)
  where
    by_test : (b : Bool) → nat_lt bound (start + length p) ≡ b → cond b (Some (start + length p)) (find (λ n. nat_lt bound n) (sums (start + length p) ps)) ≡ None →
        (start + length p ≤ bound → bound < (start + length p) + total ps → find (λ n. nat_lt bound n) (sums (start + length p) ps) ≡ None → ⊥) → ⊥
    by_test true e h later = cc
    by_test false e h later = let past = ltb-false bound (start + length p) e in later past (omega arith) h

found_at_last : (test : ℕ → Bool) (xs : List ℕ) (x : ℕ) → test x ≡ true → find test (xs ++ x ∷ []) ≡ None → ⊥
found_at_last test [] x e h = let none : cond (test x) (Some x) None ≡ None = h in absurd (let f : ◌≡◌ {A = Option ℕ} (Some x) None = ap (λ b. cond b (Some x) None) (sym e) ∙ none in cc)
found_at_last test (y ∷ xs) x e h = by_test (test y) h (found_at_last test xs x e)
  where
    by_test : (b : Bool) → cond b (Some y) (find test (xs ++ x ∷ [])) ≡ None → (find test (xs ++ x ∷ []) ≡ None → ⊥) → ⊥
    by_test true h later = cc
    by_test false h later = later h

-- The next boundary ahead lies in the run, and there is one before its end.
pub above_fits : (rule : Cutting) (run : List ℕ) (bound n : ℕ) → Cuts rule run → first_above bound (boundaries rule run) ≡ Some n → (bound < n) × (n ≤ length run)
above_fits rule run bound n c h =
    let test : ℕ → Bool = λ n. nat_lt bound n in
    let here : find test (0 ∷ sums 0 c.pieces) ≡ Some n = ap (find test) (sym c.bounds) ∙ h in
    let rest : find test (sums 0 c.pieces) ≡ Some n = sym (ap (λ b. cond b (Some 0) (find test (sums 0 c.pieces))) (le-ltb bound 0 (omega arith))) ∙ here in
    let below = sums_below test 0 n c.pieces rest in
    let whole = c.whole in
    (ltb-true bound n (found test (sums 0 c.pieces) n rest), omega arith)

pub above_is : (rule : Cutting) (run : List ℕ) (bound : ℕ) → Cuts rule run → bound < length run → first_above bound (boundaries rule run) ≡ None → ⊥
above_is rule run bound c more h =
    let test : ℕ → Bool = λ n. nat_lt bound n in
    let here : find test (0 ∷ sums 0 c.pieces) ≡ None = ap (find test) (sym c.bounds) ∙ h in
    let rest : find test (sums 0 c.pieces) ≡ None = sym (ap (λ b. cond b (Some 0) (find test (sums 0 c.pieces))) (le-ltb bound 0 (omega arith))) ∙ here in
    let whole = c.whole in
    sum_above bound 0 c.pieces (omega arith) (omega arith) rest

-- After, the last one lies before the bound, and there is one past the beginning.
pub below_fits : (bound n : ℕ) (places : List ℕ) → last_below bound places ≡ Some n → n < bound
below_fits bound n places h = ltb-true n bound (found (λ n. nat_lt n bound) (reverse places) n h)

pub below_is : (rule : Cutting) (run : List ℕ) (bound : ℕ) → Cuts rule run → 0 < bound → last_below bound (boundaries rule run) ≡ None → ⊥
below_is rule run bound c some h =
    let test : ℕ → Bool = λ n. nat_lt n bound in
    found_at_last test (reverse (sums 0 c.pieces)) 0 (lt-ltb 0 bound some)
    (ap (find test) (sym (ap reverse c.bounds ∙ reverse_onto (sums 0 c.pieces) 0 [])) ∙ h)
