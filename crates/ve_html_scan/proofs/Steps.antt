-- One step of each way of reading on.
use Rattle.std.proofs.Common.{◌≡◌, ◌≢◌, ℕ, ◌+◌, ◌<◌, ◌≤◌, Bool, true, false, cond, not, ◌&&◌, eqb, List, [], ◌∷◌, ◌++◌, length, get_or, drop, Option, Some, None, Ok, Err, refl, sym, ◌∙◌, arith, eq-eqb, nat_eq}
use Rattle.std.proofs.lemmas.List.{at_drop_more, at_drop_all, drop_more, drop-drop, length-append}
use Rattle.std.proofs.lemmas.Bool.{ne_eqb}
use Rattle.std.specs.List.{common_prefix_len}
use Rattle.model_spelling.specs.declared.scan_fault.ScanFault.{ScanFault}
use Rattle.model_spelling.specs.declared.scan_fault.ScanWhat.TheVariants.{BadChar, BadReference}
use Rattle.model_spelling.specs.Grammar.{is_barred, begins_with, references, starts_reference, end_text}
use Rattle.model_spelling.specs.Reading.{fault, byte_fault, longest_prefix, after_prefix, reference_fault, run_end, verbatim_end}

-- ---- characters

run_more : (end : Option ScanFault) (stop at : ℕ) (bs : List ℕ) → at < length bs
    → run_end end stop at (drop at bs) ≡ cond (eqb (get_or bs at 0) stop) (Ok at) (cond (is_barred (get_or bs at 0)) (Err (fault at BadChar)) (cond (eqb (get_or bs at 0) 38 && not (starts_reference (drop at bs))) (Err (reference_fault end at (drop at bs))) (run_end end stop (at + 1) (drop (at + 1) bs))))
unfolding run_end
run_more end stop at bs lt = rw (drop_more bs at 0 lt) refl

pub run_stops : (end : Option ScanFault) (stop at : ℕ) (bs : List ℕ) → at < length bs → get_or bs at 0 ≡ stop → run_end end stop at (drop at bs) ≡ Ok at
run_stops end stop at bs lt e = run_more end stop at bs lt ∙ rw (eq-eqb _ _ e) refl

pub run_barred : (end : Option ScanFault) (stop at : ℕ) (bs : List ℕ) → at < length bs → get_or bs at 0 ≢ stop → is_barred (get_or bs at 0) ≡ true → run_end end stop at (drop at bs) ≡ Err (fault at BadChar)
run_barred end stop at bs lt ne e = run_more end stop at bs lt ∙ rw (ne_eqb _ _ ne, e) refl

pub run_bad_reference : (end : Option ScanFault) (stop at : ℕ) (bs : List ℕ) → at < length bs → get_or bs at 0 ≢ stop → is_barred (get_or bs at 0) ≡ false → get_or bs at 0 ≡ 38 → starts_reference (drop at bs) ≡ false
    → run_end end stop at (drop at bs) ≡ Err (reference_fault end at (drop at bs))
run_bad_reference end stop at bs lt ne nb e h = run_more end stop at bs lt ∙ rw (ne_eqb _ _ ne, nb, eq-eqb _ _ e, h) refl

pub run_past_reference : (end : Option ScanFault) (stop at : ℕ) (bs : List ℕ) → at < length bs → get_or bs at 0 ≢ stop → is_barred (get_or bs at 0) ≡ false → get_or bs at 0 ≡ 38 → starts_reference (drop at bs) ≡ true
    → run_end end stop at (drop at bs) ≡ run_end end stop (at + 1) (drop (at + 1) bs)
run_past_reference end stop at bs lt ne nb e h = run_more end stop at bs lt ∙ rw (ne_eqb _ _ ne, nb, eq-eqb _ _ e, h) refl

pub run_past_other : (end : Option ScanFault) (stop at : ℕ) (bs : List ℕ) → at < length bs → get_or bs at 0 ≢ stop → is_barred (get_or bs at 0) ≡ false → get_or bs at 0 ≢ 38
    → run_end end stop at (drop at bs) ≡ run_end end stop (at + 1) (drop (at + 1) bs)
run_past_other end stop at bs lt ne nb h = run_more end stop at bs lt ∙ rw (ne_eqb _ _ ne, nb, ne_eqb _ _ h) refl

pub run_done : (stop at : ℕ) (bs : List ℕ) → at ≡ length bs → run_end None stop at (drop at bs) ≡ Ok at
unfolding run_end
run_done stop at bs e = at_drop_all (run_end None stop at) bs at (omega arith)

pub run_unclosed : (f : ScanFault) (stop at : ℕ) (bs : List ℕ) → at ≡ length bs → run_end (Some f) stop at (drop at bs) ≡ Err f
unfolding run_end
run_unclosed f stop at bs e = at_drop_all (run_end (Some f) stop at) bs at (omega arith)

-- ---- raw text

verbatim_more : (close : List ℕ) (unclosed : ScanFault) (at : ℕ) (bs : List ℕ) → at < length bs
    → verbatim_end close unclosed at (drop at bs) ≡ cond (begins_with close (drop at bs)) (Ok at) (cond (is_barred (get_or bs at 0)) (Err (fault at BadChar)) (verbatim_end close unclosed (at + 1) (drop (at + 1) bs)))
unfolding verbatim_end
verbatim_more close unclosed at bs lt = rw (drop_more bs at 0 lt) refl

pub verbatim_closes : (close : List ℕ) (unclosed : ScanFault) (at : ℕ) (bs : List ℕ) → at < length bs → begins_with close (drop at bs) ≡ true → verbatim_end close unclosed at (drop at bs) ≡ Ok at
verbatim_closes close unclosed at bs lt e = verbatim_more close unclosed at bs lt ∙ rw e refl

pub verbatim_barred : (close : List ℕ) (unclosed : ScanFault) (at : ℕ) (bs : List ℕ) → at < length bs → begins_with close (drop at bs) ≡ false → is_barred (get_or bs at 0) ≡ true → verbatim_end close unclosed at (drop at bs) ≡ Err (fault at BadChar)
verbatim_barred close unclosed at bs lt n e = verbatim_more close unclosed at bs lt ∙ rw (n, e) refl

pub verbatim_goes_on : (close : List ℕ) (unclosed : ScanFault) (at : ℕ) (bs : List ℕ) → at < length bs → begins_with close (drop at bs) ≡ false → is_barred (get_or bs at 0) ≡ false
    → verbatim_end close unclosed at (drop at bs) ≡ verbatim_end close unclosed (at + 1) (drop (at + 1) bs)
verbatim_goes_on close unclosed at bs lt n e = verbatim_more close unclosed at bs lt ∙ rw (n, e) refl

pub verbatim_unclosed : (close : List ℕ) (unclosed : ScanFault) (at : ℕ) (bs : List ℕ) → at ≡ length bs → verbatim_end close unclosed at (drop at bs) ≡ Err unclosed
unfolding verbatim_end
verbatim_unclosed close unclosed at bs e = at_drop_all (verbatim_end close unclosed at) bs at (omega arith)

-- ---- references

-- how long the longest prefix is
abbrev pub prefix_len : ℕ → List ℕ → ℕ
prefix_len at t = longest_prefix references (drop at t)

by_end : (end : Option ScanFault) (at after b : ℕ) (bs : List ℕ) → after_prefix end at after (b ∷ bs) ≡ byte_fault after b (fault at BadReference)
by_end None at after b bs = refl
by_end (Some f) at after b bs = refl

pub fault_after : (end : Option ScanFault) (at after : ℕ) (t : List ℕ) → after ≡ at + prefix_len at t → after < length t → reference_fault end at (drop at t) ≡ byte_fault after (get_or t after 0) (fault at BadReference)
unfolding reference_fault
fault_after end at after t e lt =
    let n : at + prefix_len at t ≡ after = sym e in
    rw (drop-drop, n) (at_drop_more (after_prefix end at after) t after 0 lt ∙ by_end end at after (get_or t after 0) (drop (after + 1) t))

pub fault_at_end : (at after : ℕ) (t : List ℕ) → after ≡ at + prefix_len at t → length t ≤ after → reference_fault None at (drop at t) ≡ fault at BadReference
unfolding reference_fault
fault_at_end at after t e le = let n : at + prefix_len at t ≡ after = sym e in rw (drop-drop, n) (at_drop_all (after_prefix None at after) t after le)

pub fault_unclosed : (f : ScanFault) (at after : ℕ) (t : List ℕ) → after ≡ at + prefix_len at t → length t ≤ after → reference_fault (Some f) at (drop at t) ≡ f
unfolding reference_fault
fault_unclosed f at after t e le = let n : at + prefix_len at t ≡ after = sym e in rw (drop-drop, n) (at_drop_all (after_prefix (Some f) at after) t after le)

-- ---- the common prefix of two texts

common_nil : (r : List ℕ) → common_prefix_len nat_eq r [] ≡ 0
common_nil [] = refl
common_nil (b ∷ bs) = refl

pub common_ends : (r text : List ℕ) (n : ℕ) → length text ≤ n → common_prefix_len nat_eq (drop n r) (drop n text) ≡ 0
common_ends r text n le = at_drop_all (common_prefix_len nat_eq (drop n r)) text n le ∙ common_nil (drop n r)

-- ---- the closing of raw text, in three parts

begins_nil : (text : List ℕ) → begins_with [] text ≡ true
unfolding begins_with
begins_nil text = refl

begins_empty : (c : ℕ) (prefix : List ℕ) → begins_with (c ∷ prefix) [] ≡ false
unfolding begins_with
begins_empty c prefix = refl

begins_cons : (c b : ℕ) (prefix text : List ℕ) → begins_with (c ∷ prefix) (b ∷ text) ≡ (eqb c b && begins_with prefix text)
unfolding begins_with
begins_cons c b prefix text = refl

and_assoc : (a b c : Bool) → (a && (b && c)) ≡ ((a && b) && c)
and_assoc true b c = refl
and_assoc false b c = refl

begins_append : (a b text : List ℕ) → begins_with (a ++ b) text ≡ (begins_with a text && begins_with b (drop (length a) text))
begins_append [] b text = rw begins_nil refl
begins_append (c ∷ a) b [] = rw (begins_empty c (a ++ b), begins_empty c a) refl
begins_append (c ∷ a) b (x ∷ text) =
    rw (begins_cons c x (a ++ b) text, begins_cons c x a text, begins_append a b text) (and_assoc (eqb c x) (begins_with a text) (begins_with b (drop (length a) text)))

closing_is : (name text : List ℕ) → begins_with (end_text name) text ≡ (begins_with (60 ∷ 47 ∷ []) text && (begins_with name (drop 2 text) && begins_with (62 ∷ []) (drop (length name) (drop 2 text))))
closing_is name text = begins_append (60 ∷ 47 ∷ []) (name ++ 62 ∷ []) text ∙ rw (begins_append name (62 ∷ []) (drop 2 text)) refl

pub closing_not_open : (name text : List ℕ) → begins_with (60 ∷ 47 ∷ []) text ≡ false → begins_with (end_text name) text ≡ false
closing_not_open name text e = closing_is name text ∙ rw e refl

pub closing_not_named : (name text : List ℕ) → begins_with (60 ∷ 47 ∷ []) text ≡ true → begins_with name (drop 2 text) ≡ false → begins_with (end_text name) text ≡ false
closing_not_named name text e f = closing_is name text ∙ rw (e, f) refl

pub closing_named : (name text : List ℕ) → begins_with (60 ∷ 47 ∷ []) text ≡ true → begins_with name (drop 2 text) ≡ true → begins_with (end_text name) text ≡ begins_with (62 ∷ []) (drop (length name) (drop 2 text))
closing_named name text e f = closing_is name text ∙ rw (e, f) refl

pub length_closing : (name : List ℕ) → length (end_text name) ≡ length name + 3
length_closing name = omega (arith, length-append name (62 ∷ []))

pub ruleset close_steps = (closing_not_open, closing_not_named, closing_named, length_closing)

pub ruleset verbatim_steps = (verbatim_closes, verbatim_barred, verbatim_goes_on, verbatim_unclosed)

pub ruleset run_steps = (run_stops, run_barred, run_bad_reference, run_past_reference, run_past_other, run_done, run_unclosed)

pub ruleset reference_steps = (fault_after, fault_at_end, fault_unclosed)
