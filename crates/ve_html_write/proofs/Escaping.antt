-- One step of escaping: the character that begins at a byte, and what follows it.
use Rattle.std.proofs.Common.{◌≡◌, ◌≢◌, ℕ, suc, ◌+◌, ◌-◌, ◌<◌, ◌≤◌, Bool, true, false, ◌&&◌, List, [], ◌∷◌, ◌++◌, length, get_or, drop, take, refl, sym, ap, ◌∙◌, append_assoc, arith, add-zero}
use Rattle.std.specs.Prelude.{◌==◌}
use Rattle.std.specs.List.{slice_range}
use Rattle.std.proofs.lemmas.List.{append-nil, drop_more, get_or-drop, at_drop_all, take_more, length-drop}
use Rattle.std.proofs.lemmas.Grind.{common_steps}
use Rattle.std.proofs.lemmas.Bool.{ne_eqb}
use Rattle.model_spelling.specs.Written.{escaped_byte, escaped}
use Rattle.model_spelling.proofs.Escape.{pick_false}
use Rattle.std.specs.Prelude.{Result, Ok, Err, OnErr}
use Rattle.std.proofs.lemmas.List.{append_cancel_left}
use Rattle.ve_html_write.specs.Tags.{IsPartlyAppended}

-- ---- lists

pub and_false : (v : Bool) → (v && false) ≡ false
and_false true = refl
and_false false = refl

get_or_end : (t : List ℕ) (i : ℕ) → i ≡ length t → get_or t i 0 ≡ 0
get_or_end t i e = grind (arith, common_steps)

range_more : (t : List ℕ) (from at : ℕ) → from ≤ at → at < length t → slice_range t from (at + 1) ≡ slice_range t from at ++ get_or t at 0 ∷ []
range_more t from at le lt =
    let n : at + 1 - from ≡ at - from + 1 = omega arith in
    let m : from + (at - from) ≡ at = omega arith in
    ap (λ (k : ℕ). take k (drop from t)) n ∙ take_more (drop from t) (at - from) 0 (omega (arith, length-drop from t))
    ∙ ap (λ (b : ℕ). take (at - from) (drop from t) ++ b ∷ []) (get_or-drop from t (at - from) 0 ∙ ap (λ (k : ℕ). get_or t k 0) m)

range_first : (t : List ℕ) (at to : ℕ) → at < to → at < length t → slice_range t at to ≡ get_or t at 0 ∷ slice_range t (at + 1) to
range_first t at to less lt =
    let n : to - at ≡ suc (to - (at + 1)) = omega arith in
    ap (λ (k : ℕ). take k (drop at t)) n ∙ ap (λ (l : List ℕ). take (suc (to - (at + 1))) l) (drop_more t at 0 lt)

-- ---- one character

-- a byte that begins no U+00A0
pub prefix_byte : (v : Bool) (b : ℕ) (bs : List ℕ) → (b == 194 && get_or bs 0 0 == 160) ≡ false → escaped v (b ∷ bs) ≡ escaped_byte v b ++ escaped v bs
unfolding escaped
prefix_byte v b [] e = sym (append-nil (escaped_byte v b))
prefix_byte v b (c ∷ bs) e = pick_false (b == 194 && c == 160) _ _ e

byte_step : (v : Bool) (t : List ℕ) (at : ℕ) → at < length t → (get_or t at 0 == 194 && get_or t (at + 1) 0 == 160) ≡ false → escaped v (drop at t) ≡ escaped_byte v (get_or t at 0) ++ escaped v (drop (at + 1) t)
byte_step v t at lt e =
    let next : get_or (drop (at + 1) t) 0 0 ≡ get_or t (at + 1) 0 = get_or-drop (at + 1) t 0 0 ∙ ap (λ (k : ℕ). get_or t k 0) (add-zero (at + 1)) in
    ap (escaped v) (drop_more t at 0 lt) ∙ prefix_byte v (get_or t at 0) (drop (at + 1) t) (ap (λ (c : ℕ). get_or t at 0 == 194 && c == 160) next ∙ e)

-- ---- the characters that have a reference

pub amp_written : (v : Bool) (t : List ℕ) (at : ℕ) → at < length t → get_or t at 0 ≡ 38 → escaped v (drop at t) ≡ (38 ∷ 97 ∷ 109 ∷ 112 ∷ 59 ∷ []) ++ escaped v (drop (at + 1) t)
amp_written v t at lt e = byte_step v t at lt (rw e refl) ∙ rw e refl

pub lt_written : (v : Bool) (t : List ℕ) (at : ℕ) → at < length t → get_or t at 0 ≡ 60 → escaped v (drop at t) ≡ (38 ∷ 108 ∷ 116 ∷ 59 ∷ []) ++ escaped v (drop (at + 1) t)
lt_written v t at lt e = byte_step v t at lt (rw e refl) ∙ rw e refl

pub gt_written : (v : Bool) (t : List ℕ) (at : ℕ) → at < length t → get_or t at 0 ≡ 62 → escaped v (drop at t) ≡ (38 ∷ 103 ∷ 116 ∷ 59 ∷ []) ++ escaped v (drop (at + 1) t)
gt_written v t at lt e = byte_step v t at lt (rw e refl) ∙ rw e refl

pub quot_written : (v : Bool) (t : List ℕ) (at : ℕ) → at < length t → v ≡ true → get_or t at 0 ≡ 34 → escaped v (drop at t) ≡ (38 ∷ 113 ∷ 117 ∷ 111 ∷ 116 ∷ 59 ∷ []) ++ escaped v (drop (at + 1) t)
quot_written v t at lt is e = byte_step v t at lt (rw e refl) ∙ rw (e, is) refl

pub prefix_nbsp : (v : Bool) (b c : ℕ) (bs : List ℕ) → b ≡ 194 → c ≡ 160 → escaped v (b ∷ c ∷ bs) ≡ (38 ∷ 110 ∷ 98 ∷ 115 ∷ 112 ∷ 59 ∷ []) ++ escaped v bs
unfolding escaped
prefix_nbsp v b c bs e f = rw (e, f) refl

pub nbsp_written : (v : Bool) (t : List ℕ) (at : ℕ) → at + 1 < length t → get_or t at 0 ≡ 194 → get_or t (at + 1) 0 ≡ 160 → escaped v (drop at t) ≡ (38 ∷ 110 ∷ 98 ∷ 115 ∷ 112 ∷ 59 ∷ []) ++ escaped v (drop (at + 2) t)
nbsp_written v t at lt e f =
    let two : at + 1 + 1 ≡ at + 2 = omega arith in
    ap (escaped v) (drop_more t at 0 (omega arith) ∙ ap (λ (l : List ℕ). get_or t at 0 ∷ l) (drop_more t (at + 1) 0 lt))
    ∙ prefix_nbsp v (get_or t at 0) (get_or t (at + 1) 0) (drop (at + 1 + 1) t) e f
    ∙ ap (λ (k : ℕ). (38 ∷ 110 ∷ 98 ∷ 115 ∷ 112 ∷ 59 ∷ []) ++ escaped v (drop k t)) two

-- ---- the others

pub byte_plain : (v : Bool) (b : ℕ) → b ≢ 38 → b ≢ 60 → b ≢ 62 → (v && b == 34) ≡ false → escaped_byte v b ≡ b ∷ []
byte_plain v b n38 n60 n62 n34 = rw (ne_eqb _ _ n38, ne_eqb _ _ n60, ne_eqb _ _ n62, n34) refl

pub other_written : (v : Bool) (t : List ℕ) (at : ℕ) → at < length t → get_or t at 0 ≢ 38 → get_or t at 0 ≢ 60 → get_or t at 0 ≢ 62 → get_or t at 0 ≢ 34 → get_or t at 0 ≢ 194 → escaped v (drop at t) ≡ get_or t at 0 ∷ escaped v (drop (at + 1) t)
other_written v t at lt n38 n60 n62 n34 n194 =
    byte_step v t at lt (rw (ne_eqb _ _ n194) refl)
    ∙ ap (λ (l : List ℕ). l ++ escaped v (drop (at + 1) t)) (byte_plain v (get_or t at 0) n38 n60 n62 (rw (ne_eqb _ _ n34) (and_false v)))

pub quote_in_text : (v : Bool) (t : List ℕ) (at : ℕ) → at < length t → v ≡ false → get_or t at 0 ≡ 34 → escaped v (drop at t) ≡ get_or t at 0 ∷ escaped v (drop (at + 1) t)
quote_in_text v t at lt is e = byte_step v t at lt (rw e refl) ∙ rw (e, is) refl

pub other_after_194 : (v : Bool) (t : List ℕ) (at : ℕ) → at < length t → get_or t at 0 ≡ 194 → get_or t (at + 1) 0 ≢ 160 → escaped v (drop at t) ≡ get_or t at 0 ∷ escaped v (drop (at + 1) t)
other_after_194 v t at lt e n = byte_step v t at lt (rw (e, ne_eqb _ _ n) refl) ∙ ap (λ (l : List ℕ). l ++ escaped v (drop (at + 1) t)) (byte_plain v (get_or t at 0) (omega arith) (omega arith) (omega arith) (rw e (and_false v)))

pub last_194 : (v : Bool) (t : List ℕ) (at : ℕ) → at + 1 ≡ length t → get_or t at 0 ≡ 194 → escaped v (drop at t) ≡ get_or t at 0 ∷ escaped v (drop (at + 1) t)
last_194 v t at last e =
    let none : get_or t (at + 1) 0 ≡ 0 = get_or_end t (at + 1) last in
    other_after_194 v t at (omega arith) e (λ h. absurd (omega (arith, none, h)))

pub ruleset reference_steps = (amp_written, lt_written, gt_written, quot_written, nbsp_written, other_written, quote_in_text, other_after_194, last_194)

-- ---- runs

pub run_begun : (v : Bool) (t : List ℕ) (at : ℕ) → escaped v (drop at t) ≡ slice_range t at at ++ escaped v (drop at t)
run_begun v t at = let n : at - at ≡ 0 = omega arith in ap (λ (k : ℕ). take k (drop at t) ++ escaped v (drop at t)) (sym n)

pub run_more : (v : Bool) (t : List ℕ) (from at : ℕ) → from ≤ at → at < length t → escaped v (drop from t) ≡ slice_range t from at ++ escaped v (drop at t) → escaped v (drop at t) ≡ get_or t at 0 ∷ escaped v (drop (at + 1) t)
    → escaped v (drop from t) ≡ slice_range t from (at + 1) ++ escaped v (drop (at + 1) t)
run_more v t from at le lt run here =
    let one : slice_range t from (at + 1) ≡ slice_range t from at ++ get_or t at 0 ∷ [] = range_more t from at le lt in
    run ∙ ap (λ (l : List ℕ). slice_range t from at ++ l) here
    ∙ sym (append_assoc (slice_range t from at) (get_or t at 0 ∷ []) (escaped v (drop (at + 1) t)))
    ∙ ap (λ (l : List ℕ). l ++ escaped v (drop (at + 1) t)) (sym one)

pub run_from : (v : Bool) (t : List ℕ) (at to : ℕ) → at < to → at < length t → escaped v (drop at t) ≡ get_or t at 0 ∷ escaped v (drop (at + 1) t) → escaped v (drop (at + 1) t) ≡ slice_range t (at + 1) to ++ escaped v (drop to t)
    → escaped v (drop at t) ≡ slice_range t at to ++ escaped v (drop to t)
run_from v t at to less lt here later =
    here ∙ ap (λ (l : List ℕ). get_or t at 0 ∷ l) later ∙ ap (λ (l : List ℕ). l ++ escaped v (drop to t)) (sym (range_first t at to less lt))

-- ---- a whole text

pub piece_written : (whole before now piece here rest : List ℕ) → now ≡ before ++ piece → here ≡ piece ++ rest → before ++ here ≡ whole → now ++ rest ≡ whole
piece_written whole before now piece here rest e f w =
    ap (λ (l : List ℕ). l ++ rest) e ∙ append_assoc before piece rest ∙ ap (λ (l : List ℕ). before ++ l) (sym f) ∙ w

nothing_written : (v : Bool) → escaped v [] ≡ []
unfolding escaped
nothing_written v = refl

pub all_written : (v : Bool) (out whole t : List ℕ) (at : ℕ) → length t ≤ at → out ++ escaped v (drop at t) ≡ whole → out ≡ whole
all_written v out whole t at le e =
    let none : escaped v (drop at t) ≡ [] = at_drop_all (escaped v) t at le ∙ nothing_written v in
    sym (append-nil out) ∙ ap (λ (l : List ℕ). out ++ l) (sym none) ∙ e

-- where a piece was not appended, what stands there is a prefix of the whole
pub partly_written : (old out now part rest whole : List ℕ) → now ≡ out → out ≡ old ++ part → out ++ rest ≡ old ++ whole → IsPartlyAppended old now whole
partly_written old out now part rest whole e f h =
    (part, rest, e ∙ f, append_cancel_left old (part ++ rest) whole (sym (append_assoc old part rest) ∙ ap (λ (l : List ℕ). l ++ rest) (sym f) ∙ h))

pub told_of_err : {T E P : Type 0} (r : Result T E) → P → OnErr r P
told_of_err (Ok x) p = tt
told_of_err (Err e) p = p
