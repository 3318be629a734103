-- One step of the reading of attributes, and of the end of a start tag.
use Rattle.std.proofs.Common.{◌≡◌, ◌≢◌, ℕ, zero, suc, ◌+◌, ◌-◌, ◌<◌, ◌≤◌, Bool, true, false, cond, ◌&&◌, ◌||◌, eqb, List, [], ◌∷◌, ◌++◌, length, get_or, drop, take, Result, Ok, Err, refl, ap, ◌∙◌, arith, eq-eqb}
use Rattle.std.proofs.lemmas.List.{at_drop_more, at_drop_all, drop_more, drop-drop, length-drop, length-append, take_at}
use Rattle.std.proofs.lemmas.Bool.{ne_eqb}
use Rattle.std.specs.List.{prefix_len, slice_range}
use Rattle.model_spelling.specs.declared.scan_fault.ScanFault.{ScanFault}
use Rattle.model_spelling.specs.declared.scan_fault.ScanWhat.TheVariants.{UnclosedTag, BadAttribute}
use Rattle.model_spelling.specs.Grammar.{is_name_byte}
use Rattle.model_spelling.specs.Reading.{◌>>=◌, fault, byte_fault, mark_at, quote_at, name_len_at, head_at, slash_at, tag_close}

-- ---- the end of a start tag

pub close_none : (tag at : ℕ) (void : Bool) (t : List ℕ) → at ≡ length t → tag_close tag void at (drop at t) ≡ Err (fault tag UnclosedTag)
close_none tag at void t e = at_drop_all (tag_close tag void at) t at (omega arith)

close_is : (tag at : ℕ) (void : Bool) (t : List ℕ) → at < length t
    → tag_close tag void at (drop at t) ≡ cond (eqb (get_or t at 0) 62) (Ok (false, at + 1)) (cond (eqb (get_or t at 0) 47 && void) (slash_at tag at (drop (at + 1) t)) (Err (byte_fault at (get_or t at 0) (fault at BadAttribute))))
close_is tag at void t lt = at_drop_more (tag_close tag void at) t at 0 lt

pub close_plain : (tag at : ℕ) (void : Bool) (t : List ℕ) → at < length t → get_or t at 0 ≡ 62 → tag_close tag void at (drop at t) ≡ Ok (false, at + 1)
close_plain tag at void t lt e = close_is tag at void t lt ∙ rw (eq-eqb _ _ e) refl

pub close_other : (tag at : ℕ) (void : Bool) (t : List ℕ) → at < length t → get_or t at 0 ≢ 62 → get_or t at 0 ≢ 47 → tag_close tag void at (drop at t) ≡ Err (byte_fault at (get_or t at 0) (fault at BadAttribute))
close_other tag at void t lt n m = close_is tag at void t lt ∙ rw (ne_eqb _ _ n, ne_eqb _ _ m) refl

pub close_not_void : (tag at : ℕ) (t : List ℕ) → at < length t → get_or t at 0 ≡ 47 → tag_close tag false at (drop at t) ≡ Err (byte_fault at (get_or t at 0) (fault at BadAttribute))
close_not_void tag at t lt e = close_is tag at false t lt ∙ rw e refl

close_slash : (tag at : ℕ) (t : List ℕ) → at < length t → get_or t at 0 ≡ 47 → tag_close tag true at (drop at t) ≡ slash_at tag at (drop (at + 1) t)
close_slash tag at t lt e = close_is tag at true t lt ∙ rw e refl

pub close_cut : (tag at : ℕ) (t : List ℕ) → at < length t → get_or t at 0 ≡ 47 → at + 1 ≡ length t → tag_close tag true at (drop at t) ≡ Err (fault tag UnclosedTag)
close_cut tag at t lt e n = close_slash tag at t lt e ∙ at_drop_all (slash_at tag at) t (at + 1) (omega arith)

slash_is : (tag at : ℕ) (t : List ℕ) → at + 1 < length t
    → slash_at tag at (drop (at + 1) t) ≡ cond (eqb (get_or t (at + 1) 0) 62) (Ok (true, at + 2)) (Err (byte_fault (at + 1) (get_or t (at + 1) 0) (fault at BadAttribute)))
slash_is tag at t lt = at_drop_more (slash_at tag at) t (at + 1) 0 lt

pub close_open : (tag at : ℕ) (t : List ℕ) → at < length t → get_or t at 0 ≡ 47 → at + 1 < length t → get_or t (at + 1) 0 ≢ 62
    → tag_close tag true at (drop at t) ≡ Err (byte_fault (at + 1) (get_or t (at + 1) 0) (fault at BadAttribute))
close_open tag at t lt e l n = close_slash tag at t lt e ∙ slash_is tag at t l ∙ rw (ne_eqb _ _ n) refl

pub close_void : (tag at : ℕ) (t : List ℕ) → at < length t → get_or t at 0 ≡ 47 → at + 1 < length t → get_or t (at + 1) 0 ≡ 62 → tag_close tag true at (drop at t) ≡ Ok (true, at + 2)
close_void tag at t lt e l n = close_slash tag at t lt e ∙ slash_is tag at t l ∙ rw (eq-eqb _ _ n) refl

-- ---- names

-- how long the name is that begins after the space at position
abbrev pub name_len : ℕ → List ℕ → ℕ
name_len place t = prefix_len is_name_byte (drop (place + 1) t)

abbrev after_name : ℕ → ℕ → List ℕ → ℕ → Result (ℕ × ℕ) ScanFault
after_name tag place text n = quote_at tag place (place + 1 + n) (drop n text) >>= λ q. Ok (n, q)

head_is : (tag place n : ℕ) (t : List ℕ) → name_len place t ≡ n
    → head_at tag place (drop (place + 1) t) ≡ (name_len_at tag place n (drop (place + 1) t) >>= after_name tag place (drop (place + 1) t))
unfolding head_at
head_is tag place n t e = rw e refl

head_empty : (tag place : ℕ) (t : List ℕ) → name_len place t ≡ 0 → head_at tag place (drop (place + 1) t) ≡ (name_len_at tag place 0 (drop (place + 1) t) >>= after_name tag place (drop (place + 1) t))
head_empty tag place t e = head_is tag place 0 t e

-- where the name isn't empty, and ends at to
head_named : (tag place n to : ℕ) (t : List ℕ) → name_len place t ≡ suc n → to ≡ place + 1 + suc n
    → head_at tag place (drop (place + 1) t) ≡ (quote_at tag place to (drop to t) >>= λ q. Ok (suc n, q))
head_named tag place n to t e w = head_is tag place (suc n) t e ∙ rw (drop-drop, w) refl

-- where the text ends with the name
head_cut_by : (tag place n to : ℕ) (t : List ℕ) → name_len place t ≡ n → to ≡ place + 1 + n → to ≡ length t → head_at tag place (drop (place + 1) t) ≡ Err (fault tag UnclosedTag)
head_cut_by tag place zero to t e w h =
    head_empty tag place t e ∙ at_drop_all (λ text. name_len_at tag place 0 text >>= after_name tag place text) t (place + 1) (omega arith)
head_cut_by tag place (suc n) to t e w h =
    head_named tag place n to t e w ∙ at_drop_all (λ text. quote_at tag place to text >>= λ q. Ok (suc n, q)) t to (omega arith)

pub head_cut : (tag place to : ℕ) (t : List ℕ) → to ≡ place + 1 + name_len place t → to ≡ length t → head_at tag place (drop (place + 1) t) ≡ Err (fault tag UnclosedTag)
head_cut tag place to t w h = head_cut_by tag place (name_len place t) to t refl w h

pub head_no_name : (tag place to : ℕ) (t : List ℕ) → to ≡ place + 1 + name_len place t → to < length t → to ≡ place + 1
    → head_at tag place (drop (place + 1) t) ≡ Err (byte_fault to (get_or t to 0) (fault place BadAttribute))
head_no_name tag place to t w lt h =
    let n : name_len place t ≡ 0 = omega arith in
    let lt2 : place + 1 < length t = omega arith in
    head_empty tag place t n ∙ at_drop_more (λ text. name_len_at tag place 0 text >>= after_name tag place text) t (place + 1) 0 lt2 ∙ rw h refl

-- a name that isn't empty, after which the text goes on
quote_is : (tag place to : ℕ) (t : List ℕ) (n : ℕ) → name_len place t ≡ n → to ≡ place + 1 + n → to < length t → to ≢ place + 1
    → head_at tag place (drop (place + 1) t) ≡ (cond (eqb (get_or t to 0) 61) (mark_at tag place (to + 1) (drop (to + 1) t)) (Err (byte_fault to (get_or t to 0) (fault place BadAttribute))) >>= λ q. Ok (to - (place + 1), q))
quote_is tag place to t zero e w lt ne = absurd (omega arith)
quote_is tag place to t (suc n) e w lt ne =
    let len : suc n ≡ to - (place + 1) = omega arith in
    head_named tag place n to t e w ∙ at_drop_more (λ text. quote_at tag place to text >>= λ q. Ok (suc n, q)) t to 0 lt ∙ rw len refl

pub head_no_equals : (tag place to : ℕ) (t : List ℕ) → to ≡ place + 1 + name_len place t → to < length t → to ≢ place + 1 → get_or t to 0 ≢ 61
    → head_at tag place (drop (place + 1) t) ≡ Err (byte_fault to (get_or t to 0) (fault place BadAttribute))
head_no_equals tag place to t w lt ne n = quote_is tag place to t (name_len place t) refl w lt ne ∙ rw (ne_eqb _ _ n) refl

mark_is : (tag place to : ℕ) (t : List ℕ) → to ≡ place + 1 + name_len place t → to < length t → to ≢ place + 1 → get_or t to 0 ≡ 61
    → head_at tag place (drop (place + 1) t) ≡ (mark_at tag place (to + 1) (drop (to + 1) t) >>= λ q. Ok (to - (place + 1), q))
mark_is tag place to t w lt ne n = quote_is tag place to t (name_len place t) refl w lt ne ∙ rw (eq-eqb _ _ n) refl

pub head_no_mark : (tag place to : ℕ) (t : List ℕ) → to ≡ place + 1 + name_len place t → to < length t → to ≢ place + 1 → get_or t to 0 ≡ 61 → to + 1 ≡ length t
    → head_at tag place (drop (place + 1) t) ≡ Err (fault tag UnclosedTag)
head_no_mark tag place to t w lt ne n e =
    mark_is tag place to t w lt ne n ∙ at_drop_all (λ text. mark_at tag place (to + 1) text >>= λ q. Ok (to - (place + 1), q)) t (to + 1) (omega arith)

marked : (tag place to : ℕ) (t : List ℕ) → to ≡ place + 1 + name_len place t → to < length t → to ≢ place + 1 → get_or t to 0 ≡ 61 → to + 1 < length t
    → head_at tag place (drop (place + 1) t) ≡ (cond (eqb (get_or t (to + 1) 0) 34 || eqb (get_or t (to + 1) 0) 39) (Ok (get_or t (to + 1) 0)) (Err (byte_fault (to + 1) (get_or t (to + 1) 0) (fault place BadAttribute))) >>= λ q. Ok (to - (place + 1), q))
marked tag place to t w lt ne n l =
    mark_is tag place to t w lt ne n ∙ at_drop_more (λ text. mark_at tag place (to + 1) text >>= λ q. Ok (to - (place + 1), q)) t (to + 1) 0 l

pub head_bad_mark : (tag place to : ℕ) (t : List ℕ) → to ≡ place + 1 + name_len place t → to < length t → to ≢ place + 1 → get_or t to 0 ≡ 61 → to + 1 < length t
    → get_or t (to + 1) 0 ≢ 34 → get_or t (to + 1) 0 ≢ 39 → head_at tag place (drop (place + 1) t) ≡ Err (byte_fault (to + 1) (get_or t (to + 1) 0) (fault place BadAttribute))
head_bad_mark tag place to t w lt ne n l a b = marked tag place to t w lt ne n l ∙ rw (ne_eqb _ _ a, ne_eqb _ _ b) refl

pub head_double : (tag place to : ℕ) (t : List ℕ) → to ≡ place + 1 + name_len place t → to < length t → to ≢ place + 1 → get_or t to 0 ≡ 61 → to + 1 < length t
    → get_or t (to + 1) 0 ≡ 34 → head_at tag place (drop (place + 1) t) ≡ Ok (to - (place + 1), get_or t (to + 1) 0)
head_double tag place to t w lt ne n l a = marked tag place to t w lt ne n l ∙ rw (eq-eqb _ _ a) refl

pub head_single : (tag place to : ℕ) (t : List ℕ) → to ≡ place + 1 + name_len place t → to < length t → to ≢ place + 1 → get_or t to 0 ≡ 61 → to + 1 < length t
    → get_or t (to + 1) 0 ≢ 34 → get_or t (to + 1) 0 ≡ 39 → head_at tag place (drop (place + 1) t) ≡ Ok (to - (place + 1), get_or t (to + 1) 0)
head_single tag place to t w lt ne n l a b = marked tag place to t w lt ne n l ∙ rw (ne_eqb _ _ a, eq-eqb _ _ b) refl

pub ruleset head_steps = (head_cut, head_no_name, head_no_equals, head_no_mark, head_bad_mark, head_double, head_single)

-- the bytes of a tag's end
pub plain_text : (at : ℕ) (t : List ℕ) → at < length t → get_or t at 0 ≡ 62 → drop at t ≡ (62 ∷ []) ++ drop (at + 1) t
plain_text at t lt e = drop_more t at 0 lt ∙ ap (λ (b : ℕ). b ∷ drop (at + 1) t) e

pub void_text : (at : ℕ) (t : List ℕ) → at + 1 < length t → get_or t at 0 ≡ 47 → get_or t (at + 1) 0 ≡ 62 → drop at t ≡ (47 ∷ 62 ∷ []) ++ drop (at + 2) t
void_text at t lt e f =
    let n : at + 1 + 1 ≡ at + 2 = omega arith in
    let l : at < length t = omega arith in
    drop_more t at 0 l ∙ ap (λ (b : ℕ). b ∷ drop (at + 1) t) e ∙ ap (λ (r : List ℕ). 47 ∷ r) (plain_text (at + 1) t lt f) ∙ ap (λ (k : ℕ). 47 ∷ (62 ∷ drop k t)) n

-- what stands between two positions
pub between_is : (t xs : List ℕ) (at to : ℕ) → at ≤ to → to ≤ length t → drop at t ≡ xs ++ drop to t → slice_range t at to ≡ xs
between_is t xs at to le lt e =
    let len : length xs ≡ to - at = omega (arith, ap length e, length-drop at t, length-drop to t, length-append xs (drop to t)) in
    ap (take (to - at)) e ∙ take_at xs (drop to t) (to - at) len

pub ruleset close_steps = (close_none, close_plain, close_other, close_not_void, close_cut, close_open, close_void, plain_text, void_text)
