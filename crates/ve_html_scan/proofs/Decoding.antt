-- One step of decoding.
use Rattle.std.proofs.Common.{zero-add}
use Rattle.std.proofs.lemmas.Str.{encodes-chars}
use Rattle.std.specs.Prelude.{encode_utf8_all}
use Rattle.std.proofs.Common.{append_assoc}
use Rattle.std.proofs.lemmas.List.{append-nil, at_drop_all}
use Rattle.std.proofs.lemmas.Str.{IsCharBoundary-start, chars-nil}
use Rattle.model_spelling.proofs.Utf.{decodes_utf8}
use Rattle.std.proofs.Common.{◌≡◌, ℕ, suc, ◌+◌, ◌-◌, ◌<◌, ◌≤◌, Bool, true, false, not, List, [], ◌∷◌, ◌++◌, length, get_or, drop, take, refl, sym, ap, ◌∙◌, arith, IsUtf8, IsCharBoundary, subst, lit<, cond}
use Rattle.std.specs.Prelude.{◌==◌}
use Rattle.std.specs.List.{prefix_len, slice_range}
use Rattle.std.specs.Str.{chars}
use Rattle.std.proofs.lemmas.List.{length-append, get_or-drop, drop-drop}
use Rattle.std.proofs.lemmas.Str.{IsCharBoundary-after_ascii, chars-append}
use Rattle.model_spelling.specs.Grammar.{begins_with}
use Rattle.model_spelling.specs.Written.{meanings, prefix_of, decoded_from, decoded}
use Rattle.model_spelling.proofs.TokenRuns.{begins_parts}
use Rattle.model_spelling.proofs.Escape.{decoded-byte}
use Rattle.model_spelling.proofs.Utf.{skipped, decoded_prefix, suc_is}
use Rattle.ve_html_scan.proofs.Lent.{prefix_byte}

-- ---- a reference at the prefix

prefix_found : (r w t : List ℕ) → 0 < length r → begins_with r t ≡ true → ((b : ℕ) (bs : List ℕ) → t ≡ b ∷ bs → prefix_of meanings b bs ≡ (r, w)) → decoded t ≡ w ++ decoded (drop (length r) t)
prefix_found r w [] lt e f = absurd (omega (arith, lt, ap length (begins_parts r [] e), length-append r (drop (length r) [])))
prefix_found r w (b ∷ bs) lt e f =
    decoded_prefix b bs ∙ ap (λ (m : List ℕ × List ℕ). m.1 ++ decoded_from (length m.0 - 1) bs) (f b bs refl)
    ∙ ap (λ (l : List ℕ). w ++ l) (skipped (length r - 1) bs ∙ ap (λ (k : ℕ). decoded_from 0 (drop k (b ∷ bs))) (suc_is (length r) lt))

-- where a reference stands, it is read, and its last byte is `;`
prefix_inside : (r t : List ℕ) → begins_with r t ≡ true → length r ≤ length t
prefix_inside r t e = omega (arith, ap length (begins_parts r t e), length-append r (drop (length r) t))

prefix_last : (r t : List ℕ) (i : ℕ) → begins_with r t ≡ true → i < length r → get_or r i 0 ≡ 59 → get_or t i 0 < 128
prefix_last r t i e lt last =
    let here : get_or t i 0 ≡ get_or r i 0 = ap (λ (k : ℕ). get_or t k 0) (sym (zero-add i)) ∙ prefix_byte r t 0 i e lt in
    omega (arith, here, last)

pub amp_read : (t : List ℕ) → begins_with (38 ∷ 97 ∷ 109 ∷ 112 ∷ 59 ∷ []) t ≡ true → decoded t ≡ (38 ∷ []) ++ decoded (drop 5 t)
amp_read t e = prefix_found (38 ∷ 97 ∷ 109 ∷ 112 ∷ 59 ∷ []) (38 ∷ []) t (lit< tt) e (λ b bs s. rw (ap (begins_with (38 ∷ 97 ∷ 109 ∷ 112 ∷ 59 ∷ [])) (sym s) ∙ e) refl)

pub amp_inside : (t : List ℕ) → begins_with (38 ∷ 97 ∷ 109 ∷ 112 ∷ 59 ∷ []) t ≡ true → 5 ≤ length t
amp_inside t e = prefix_inside (38 ∷ 97 ∷ 109 ∷ 112 ∷ 59 ∷ []) t e

pub amp_last : (t : List ℕ) → begins_with (38 ∷ 97 ∷ 109 ∷ 112 ∷ 59 ∷ []) t ≡ true → get_or t 4 0 < 128
amp_last t e = prefix_last (38 ∷ 97 ∷ 109 ∷ 112 ∷ 59 ∷ []) t 4 e (lit< tt) refl

pub lt_read : (t : List ℕ) → begins_with (38 ∷ 97 ∷ 109 ∷ 112 ∷ 59 ∷ []) t ≡ false → begins_with (38 ∷ 108 ∷ 116 ∷ 59 ∷ []) t ≡ true → decoded t ≡ (60 ∷ []) ++ decoded (drop 4 t)
lt_read t n0 e = prefix_found (38 ∷ 108 ∷ 116 ∷ 59 ∷ []) (60 ∷ []) t (lit< tt) e (λ b bs s. rw (ap (begins_with (38 ∷ 97 ∷ 109 ∷ 112 ∷ 59 ∷ [])) (sym s) ∙ n0, ap (begins_with (38 ∷ 108 ∷ 116 ∷ 59 ∷ [])) (sym s) ∙ e) refl)

pub lt_inside : (t : List ℕ) → begins_with (38 ∷ 108 ∷ 116 ∷ 59 ∷ []) t ≡ true → 4 ≤ length t
lt_inside t e = prefix_inside (38 ∷ 108 ∷ 116 ∷ 59 ∷ []) t e

pub lt_last : (t : List ℕ) → begins_with (38 ∷ 108 ∷ 116 ∷ 59 ∷ []) t ≡ true → get_or t 3 0 < 128
lt_last t e = prefix_last (38 ∷ 108 ∷ 116 ∷ 59 ∷ []) t 3 e (lit< tt) refl

pub gt_read : (t : List ℕ) → begins_with (38 ∷ 97 ∷ 109 ∷ 112 ∷ 59 ∷ []) t ≡ false → begins_with (38 ∷ 108 ∷ 116 ∷ 59 ∷ []) t ≡ false → begins_with (38 ∷ 103 ∷ 116 ∷ 59 ∷ []) t ≡ true → decoded t ≡ (62 ∷ []) ++ decoded (drop 4 t)
gt_read t n0 n1 e = prefix_found (38 ∷ 103 ∷ 116 ∷ 59 ∷ []) (62 ∷ []) t (lit< tt) e (λ b bs s. rw (ap (begins_with (38 ∷ 97 ∷ 109 ∷ 112 ∷ 59 ∷ [])) (sym s) ∙ n0, ap (begins_with (38 ∷ 108 ∷ 116 ∷ 59 ∷ [])) (sym s) ∙ n1, ap (begins_with (38 ∷ 103 ∷ 116 ∷ 59 ∷ [])) (sym s) ∙ e) refl)

pub gt_inside : (t : List ℕ) → begins_with (38 ∷ 103 ∷ 116 ∷ 59 ∷ []) t ≡ true → 4 ≤ length t
gt_inside t e = prefix_inside (38 ∷ 103 ∷ 116 ∷ 59 ∷ []) t e

pub gt_last : (t : List ℕ) → begins_with (38 ∷ 103 ∷ 116 ∷ 59 ∷ []) t ≡ true → get_or t 3 0 < 128
gt_last t e = prefix_last (38 ∷ 103 ∷ 116 ∷ 59 ∷ []) t 3 e (lit< tt) refl

pub nbsp_read : (t : List ℕ) → begins_with (38 ∷ 97 ∷ 109 ∷ 112 ∷ 59 ∷ []) t ≡ false → begins_with (38 ∷ 108 ∷ 116 ∷ 59 ∷ []) t ≡ false → begins_with (38 ∷ 103 ∷ 116 ∷ 59 ∷ []) t ≡ false → begins_with (38 ∷ 110 ∷ 98 ∷ 115 ∷ 112 ∷ 59 ∷ []) t ≡ true → decoded t ≡ (194 ∷ 160 ∷ []) ++ decoded (drop 6 t)
nbsp_read t n0 n1 n2 e = prefix_found (38 ∷ 110 ∷ 98 ∷ 115 ∷ 112 ∷ 59 ∷ []) (194 ∷ 160 ∷ []) t (lit< tt) e (λ b bs s. rw (ap (begins_with (38 ∷ 97 ∷ 109 ∷ 112 ∷ 59 ∷ [])) (sym s) ∙ n0, ap (begins_with (38 ∷ 108 ∷ 116 ∷ 59 ∷ [])) (sym s) ∙ n1, ap (begins_with (38 ∷ 103 ∷ 116 ∷ 59 ∷ [])) (sym s) ∙ n2, ap (begins_with (38 ∷ 110 ∷ 98 ∷ 115 ∷ 112 ∷ 59 ∷ [])) (sym s) ∙ e) refl)

pub nbsp_inside : (t : List ℕ) → begins_with (38 ∷ 110 ∷ 98 ∷ 115 ∷ 112 ∷ 59 ∷ []) t ≡ true → 6 ≤ length t
nbsp_inside t e = prefix_inside (38 ∷ 110 ∷ 98 ∷ 115 ∷ 112 ∷ 59 ∷ []) t e

pub nbsp_last : (t : List ℕ) → begins_with (38 ∷ 110 ∷ 98 ∷ 115 ∷ 112 ∷ 59 ∷ []) t ≡ true → get_or t 5 0 < 128
nbsp_last t e = prefix_last (38 ∷ 110 ∷ 98 ∷ 115 ∷ 112 ∷ 59 ∷ []) t 5 e (lit< tt) refl

pub quot_read : (t : List ℕ) → begins_with (38 ∷ 97 ∷ 109 ∷ 112 ∷ 59 ∷ []) t ≡ false → begins_with (38 ∷ 108 ∷ 116 ∷ 59 ∷ []) t ≡ false → begins_with (38 ∷ 103 ∷ 116 ∷ 59 ∷ []) t ≡ false → begins_with (38 ∷ 110 ∷ 98 ∷ 115 ∷ 112 ∷ 59 ∷ []) t ≡ false → begins_with (38 ∷ 113 ∷ 117 ∷ 111 ∷ 116 ∷ 59 ∷ []) t ≡ true → decoded t ≡ (34 ∷ []) ++ decoded (drop 6 t)
quot_read t n0 n1 n2 n3 e = prefix_found (38 ∷ 113 ∷ 117 ∷ 111 ∷ 116 ∷ 59 ∷ []) (34 ∷ []) t (lit< tt) e (λ b bs s. rw (ap (begins_with (38 ∷ 97 ∷ 109 ∷ 112 ∷ 59 ∷ [])) (sym s) ∙ n0, ap (begins_with (38 ∷ 108 ∷ 116 ∷ 59 ∷ [])) (sym s) ∙ n1, ap (begins_with (38 ∷ 103 ∷ 116 ∷ 59 ∷ [])) (sym s) ∙ n2, ap (begins_with (38 ∷ 110 ∷ 98 ∷ 115 ∷ 112 ∷ 59 ∷ [])) (sym s) ∙ n3, ap (begins_with (38 ∷ 113 ∷ 117 ∷ 111 ∷ 116 ∷ 59 ∷ [])) (sym s) ∙ e) refl)

pub quot_inside : (t : List ℕ) → begins_with (38 ∷ 113 ∷ 117 ∷ 111 ∷ 116 ∷ 59 ∷ []) t ≡ true → 6 ≤ length t
quot_inside t e = prefix_inside (38 ∷ 113 ∷ 117 ∷ 111 ∷ 116 ∷ 59 ∷ []) t e

pub quot_last : (t : List ℕ) → begins_with (38 ∷ 113 ∷ 117 ∷ 111 ∷ 116 ∷ 59 ∷ []) t ≡ true → get_or t 5 0 < 128
quot_last t e = prefix_last (38 ∷ 113 ∷ 117 ∷ 111 ∷ 116 ∷ 59 ∷ []) t 5 e (lit< tt) refl

pub apos_read : (t : List ℕ) → begins_with (38 ∷ 97 ∷ 109 ∷ 112 ∷ 59 ∷ []) t ≡ false → begins_with (38 ∷ 108 ∷ 116 ∷ 59 ∷ []) t ≡ false → begins_with (38 ∷ 103 ∷ 116 ∷ 59 ∷ []) t ≡ false → begins_with (38 ∷ 110 ∷ 98 ∷ 115 ∷ 112 ∷ 59 ∷ []) t ≡ false → begins_with (38 ∷ 113 ∷ 117 ∷ 111 ∷ 116 ∷ 59 ∷ []) t ≡ false → begins_with (38 ∷ 97 ∷ 112 ∷ 111 ∷ 115 ∷ 59 ∷ []) t ≡ true → decoded t ≡ (39 ∷ []) ++ decoded (drop 6 t)
apos_read t n0 n1 n2 n3 n4 e = prefix_found (38 ∷ 97 ∷ 112 ∷ 111 ∷ 115 ∷ 59 ∷ []) (39 ∷ []) t (lit< tt) e (λ b bs s. rw (ap (begins_with (38 ∷ 97 ∷ 109 ∷ 112 ∷ 59 ∷ [])) (sym s) ∙ n0, ap (begins_with (38 ∷ 108 ∷ 116 ∷ 59 ∷ [])) (sym s) ∙ n1, ap (begins_with (38 ∷ 103 ∷ 116 ∷ 59 ∷ [])) (sym s) ∙ n2, ap (begins_with (38 ∷ 110 ∷ 98 ∷ 115 ∷ 112 ∷ 59 ∷ [])) (sym s) ∙ n3, ap (begins_with (38 ∷ 113 ∷ 117 ∷ 111 ∷ 116 ∷ 59 ∷ [])) (sym s) ∙ n4, ap (begins_with (38 ∷ 97 ∷ 112 ∷ 111 ∷ 115 ∷ 59 ∷ [])) (sym s) ∙ e) refl)

pub apos_inside : (t : List ℕ) → begins_with (38 ∷ 97 ∷ 112 ∷ 111 ∷ 115 ∷ 59 ∷ []) t ≡ true → 6 ≤ length t
apos_inside t e = prefix_inside (38 ∷ 97 ∷ 112 ∷ 111 ∷ 115 ∷ 59 ∷ []) t e

pub apos_last : (t : List ℕ) → begins_with (38 ∷ 97 ∷ 112 ∷ 111 ∷ 115 ∷ 59 ∷ []) t ≡ true → get_or t 5 0 < 128
apos_last t e = prefix_last (38 ∷ 97 ∷ 112 ∷ 111 ∷ 115 ∷ 59 ∷ []) t 5 e (lit< tt) refl

none_prefix : (b : ℕ) (bs : List ℕ) → begins_with (38 ∷ 97 ∷ 109 ∷ 112 ∷ 59 ∷ []) (b ∷ bs) ≡ false → begins_with (38 ∷ 108 ∷ 116 ∷ 59 ∷ []) (b ∷ bs) ≡ false → begins_with (38 ∷ 103 ∷ 116 ∷ 59 ∷ []) (b ∷ bs) ≡ false → begins_with (38 ∷ 110 ∷ 98 ∷ 115 ∷ 112 ∷ 59 ∷ []) (b ∷ bs) ≡ false → begins_with (38 ∷ 113 ∷ 117 ∷ 111 ∷ 116 ∷ 59 ∷ []) (b ∷ bs) ≡ false → begins_with (38 ∷ 97 ∷ 112 ∷ 111 ∷ 115 ∷ 59 ∷ []) (b ∷ bs) ≡ false → prefix_of meanings b bs ≡ (b ∷ [], b ∷ [])
none_prefix b bs n0 n1 n2 n3 n4 n5 = rw (n0, n1, n2, n3, n4, n5) refl

pub none_read : (t : List ℕ) → get_or t 0 0 ≡ 38 → begins_with (38 ∷ 97 ∷ 109 ∷ 112 ∷ 59 ∷ []) t ≡ false → begins_with (38 ∷ 108 ∷ 116 ∷ 59 ∷ []) t ≡ false → begins_with (38 ∷ 103 ∷ 116 ∷ 59 ∷ []) t ≡ false → begins_with (38 ∷ 110 ∷ 98 ∷ 115 ∷ 112 ∷ 59 ∷ []) t ≡ false → begins_with (38 ∷ 113 ∷ 117 ∷ 111 ∷ 116 ∷ 59 ∷ []) t ≡ false → begins_with (38 ∷ 97 ∷ 112 ∷ 111 ∷ 115 ∷ 59 ∷ []) t ≡ false → decoded t ≡ (38 ∷ []) ++ decoded (drop 1 t)
none_read [] f n0 n1 n2 n3 n4 n5 = absurd (omega (arith, f))
none_read (b ∷ bs) f n0 n1 n2 n3 n4 n5 =
    decoded_prefix b bs ∙ ap (λ (m : List ℕ × List ℕ). m.1 ++ decoded_from (length m.0 - 1) bs) (none_prefix b bs n0 n1 n2 n3 n4 n5) ∙ ap (λ (c : ℕ). c ∷ decoded bs) f

pub some_bytes : (t : List ℕ) → get_or t 0 0 ≡ 38 → 1 ≤ length t
some_bytes [] f = absurd (omega (arith, f))
some_bytes (b ∷ bs) f = omega arith

pub ruleset prefix_steps = (amp_read, amp_inside, amp_last, lt_read, lt_inside, lt_last, gt_read, gt_inside, gt_last, nbsp_read, nbsp_inside, nbsp_last, quot_read, quot_inside, quot_last, apos_read, apos_inside, apos_last, none_read, some_bytes)

-- ---- bytes without `&`

plain_by : (b : ℕ) (bs : List ℕ) (p : Bool) → (b == 38) ≡ not p → decoded bs ≡ take (prefix_len (λ c. not (c == 38)) bs) bs ++ decoded (drop (prefix_len (λ c. not (c == 38)) bs) bs)
    → decoded (b ∷ bs) ≡ take (cond p (1 + prefix_len (λ c. not (c == 38)) bs) 0) (b ∷ bs) ++ decoded (drop (cond p (1 + prefix_len (λ c. not (c == 38)) bs) 0) (b ∷ bs))
plain_by b bs false e rec = refl
plain_by b bs true e rec =
    let n : 1 + prefix_len (λ c. not (c == 38)) bs ≡ suc (prefix_len (λ c. not (c == 38)) bs) = omega arith in
    rw n (decoded-byte b bs e ∙ ap (λ (l : List ℕ). b ∷ l) rec)

twice_not : (b : Bool) → b ≡ not (not b)
twice_not true = refl
twice_not false = refl

plain_prefix : (t : List ℕ) → decoded t ≡ take (prefix_len (λ c. not (c == 38)) t) t ++ decoded (drop (prefix_len (λ c. not (c == 38)) t) t)
plain_prefix [] = refl
plain_prefix (b ∷ bs) = plain_by b bs (not (b == 38)) (twice_not (b == 38)) (plain_prefix bs)

pub plain_read : (t b text : List ℕ) (at to : ℕ) → b ≡ t → to ≡ at + prefix_len (λ c. not (c == 38)) (drop at b) → text ≡ slice_range t at to → decoded (drop at t) ≡ text ++ decoded (drop to t)
plain_read t b text at to same e is =
    let n : to - at ≡ prefix_len (λ c. not (c == 38)) (drop at t) = omega (arith, ap (λ (x : List ℕ). prefix_len (λ c. not (c == 38)) (drop at x)) same) in
    let whole : to ≡ at + prefix_len (λ c. not (c == 38)) (drop at t) = omega (arith, n, e) in
    let is_part : text ≡ take (prefix_len (λ c. not (c == 38)) (drop at t)) (drop at t) = is ∙ ap (λ (k : ℕ). take k (drop at t)) n in
    let back : drop to t ≡ drop (prefix_len (λ c. not (c == 38)) (drop at t)) (drop at t) = ap (λ (k : ℕ). drop k t) whole ∙ sym (drop-drop (prefix_len (λ c. not (c == 38)) (drop at t)) at t) in
    plain_prefix (drop at t) ∙ ap (λ (l : List ℕ). l ++ decoded (drop (prefix_len (λ c. not (c == 38)) (drop at t)) (drop at t))) (sym is_part) ∙ ap (λ (l : List ℕ). text ++ decoded l) (sym back)

-- where a piece ends
pub cut_after_reference : (t b : List ℕ) (at len : ℕ) → b ≡ t → IsUtf8 t → 0 < len → at + len ≤ length b → get_or b (at + (len - 1)) 0 < 128 → IsCharBoundary t (at + len)
cut_after_reference t b at len same utf8 some le last =
    let n : at + (len - 1) + 1 ≡ at + len = omega arith in
    subst (IsCharBoundary t) n (IsCharBoundary-after_ascii t (at + (len - 1)) utf8 (omega (arith, ap length same)) (subst (λ (x : List ℕ). get_or x (at + (len - 1)) 0 < 128) same last))

-- ---- the loop

pub last_of_reference : (b r : List ℕ) (at len : ℕ) → r ≡ drop at b → get_or r (len - 1) 0 < 128 → get_or b (at + (len - 1)) 0 < 128
last_of_reference b r at len e last = omega (arith, last, ap (λ (x : List ℕ). get_or x (len - 1) 0) e, get_or-drop at b (len - 1) 0)

pub begun : (text t : List ℕ) → text ≡ [] → IsUtf8 t → (text ++ chars (decoded t) ≡ chars (decoded t)) × IsCharBoundary t 0
begun text t e u = (ap (λ (l : List ℕ). l ++ chars (decoded t)) e, IsCharBoundary-start t u)

pub more_read : (before now piece here rest whole : List ℕ) → now ≡ before ++ chars piece → here ≡ piece ++ rest → IsUtf8 piece → before ++ chars here ≡ whole → now ++ chars rest ≡ whole
more_read before now piece here rest whole e d u w =
    ap (λ (l : List ℕ). l ++ chars rest) e ∙ append_assoc before (chars piece) (chars rest) ∙ ap (λ (l : List ℕ). before ++ l) (sym (chars-append piece rest u) ∙ sym (ap chars d)) ∙ w

nothing_decoded : decoded [] ≡ []
unfolding decoded_from
nothing_decoded = refl

pub all_read : (text whole t : List ℕ) (at : ℕ) → length t ≤ at → text ++ chars (decoded (drop at t)) ≡ whole → text ≡ whole
all_read text whole t at le e =
    let none : chars (decoded (drop at t)) ≡ [] = at_drop_all (λ (l : List ℕ). chars (decoded l)) t at le ∙ ap chars nothing_decoded ∙ chars-nil in
    sym (append-nil text) ∙ ap (λ (l : List ℕ). text ++ l) (sym none) ∙ e

pub spelled_back : (text t : List ℕ) → IsUtf8 t → text ≡ chars (decoded t) → encode_utf8_all text ≡ decoded t
spelled_back text t u e = ap encode_utf8_all e ∙ encodes-chars (decoded t) (decodes_utf8 t u)

-- ---- byte by byte

pub nothing_left : (piece spelled : List ℕ) (used at : ℕ) → length piece ≤ used → length spelled ≤ at → drop used piece ++ decoded (drop at spelled) ≡ []
nothing_left piece spelled used at le more =
    at_drop_all (λ (l : List ℕ). l ++ decoded (drop at spelled)) piece used le ∙ at_drop_all decoded spelled at more ∙ nothing_decoded
