-- A fault that isn't one of the text's end stands: runs, attributes, tags.
use Rattle.std.proofs.Common.{◌≡◌, ℕ, zero, suc, ◌+◌, ◌<◌, ◌≤◌, Bool, true, false, cond, not, ◌&&◌, ◌||◌, eqb, List, [], ◌∷◌, ◌++◌, length, drop, take, Option, Some, None, Result, Ok, Err, refl, sym, ap, ◌∙◌, arith, nat_eq, subst, inl, inr, ◌⊎◌}
use Rattle.std.specs.Prelude.{max}
use Rattle.std.proofs.lemmas.List.{drop-drop, length-drop, drop-append-le, take-append-le}
use Rattle.std.proofs.Math.Seq.{take-append_seam}
use Rattle.std.proofs.lemmas.Bool.{cases_lt, cases_Bool, le-ltb}
use Rattle.std.specs.List.{common_prefix_len, list_all, list_any}
use Rattle.model_spelling.specs.declared.scan_fault.ScanFault.{ScanFault}
use Rattle.model_spelling.specs.declared.scan_fault.ScanWhat.TheVariants.{BadChar, BadReference}
use Rattle.model_spelling.specs.Grammar.{is_barred, begins_with, references, starts_reference}
use Rattle.model_spelling.specs.Reading.{fault, longest_prefix, after_prefix, reference_fault, run_end, verbatim_end}
use Rattle.model_spelling.specs.Standing.{passes_reference, stands}
use Rattle.model_spelling.proofs.AttrReading.{and_left, and_right}
use Rattle.model_spelling.proofs.TokenRuns.{not_false, reference_more, begins_parts, begins_same}
use Rattle.model_spelling.proofs.Only.{both, and_both}

abbrev pub err : {A : Type 0} → ScanFault → Result A ScanFault
err f = Err f

abbrev err_or : {A : Type 0} → ScanFault → Result A ScanFault → ScanFault
err_or d (Ok x) = d
err_or d (Err f) = f

pub err_same : {A : Type 0} (r : Result A ScanFault) (f g : ScanFault) → r ≡ Err f → r ≡ Err g → f ≡ g
err_same r f g e h = ap (err_or f) (sym e ∙ h)

-- ---- prefixes of references

prefix_step : (x b : ℕ) (r bs more : List ℕ) (c : Bool) → nat_eq x b ≡ c → (common_prefix_len nat_eq r bs < length bs → (common_prefix_len nat_eq r (bs ++ more) ≡ common_prefix_len nat_eq r bs) × (begins_with r (bs ++ more) ≡ begins_with r bs)) → common_prefix_len nat_eq (x ∷ r) (b ∷ bs) < length (b ∷ bs)
    → (common_prefix_len nat_eq (x ∷ r) (b ∷ (bs ++ more)) ≡ common_prefix_len nat_eq (x ∷ r) (b ∷ bs)) × (begins_with (x ∷ r) (b ∷ (bs ++ more)) ≡ begins_with (x ∷ r) (b ∷ bs))
unfolding begins_with
prefix_step x b r bs more true e rec lt =
    let len : 1 + common_prefix_len nat_eq r bs < length (b ∷ bs) = rw e at lt in
    let h = rec (omega arith) in
    (rw e (ap (λ (k : ℕ). 1 + k) h.0), rw e h.1)
prefix_step x b r bs more false e rec lt = (rw e refl, rw e refl)

prefix_same : (r text more : List ℕ) → common_prefix_len nat_eq r text < length text → (common_prefix_len nat_eq r (text ++ more) ≡ common_prefix_len nat_eq r text) × (begins_with r (text ++ more) ≡ begins_with r text)
unfolding begins_with
prefix_same [] text more lt = (refl, refl)
prefix_same (x ∷ r) [] more lt = absurd (omega arith)
prefix_same (x ∷ r) (b ∷ bs) more lt = prefix_step x b r bs more (nat_eq x b) refl (λ h. prefix_same r bs more h) lt

prefixes_same : (rs : List (List ℕ)) (text more : List ℕ) → longest_prefix rs text < length text → (longest_prefix rs (text ++ more) ≡ longest_prefix rs text) × (list_any (λ r. begins_with r (text ++ more)) rs ≡ list_any (λ r. begins_with r text) rs)
prefixes_same [] text more lt = (refl, refl)
prefixes_same (r ∷ rs) text more lt =
    let here = prefix_same r text more (omega arith) in
    let later = prefixes_same rs text more (omega arith) in
    ((λ i. max (here.0 i) (later.0 i)), (λ i. here.1 i || later.1 i))

reference_same : (text more : List ℕ) → longest_prefix references text < length text → starts_reference (text ++ more) ≡ starts_reference text
unfolding starts_reference
reference_same text more lt = (prefixes_same references text more lt).1

after_same : (end : Option ScanFault) (amp next : ℕ) (rest more : List ℕ) → 0 < length rest → after_prefix end amp next (rest ++ more) ≡ after_prefix end amp next rest
after_same end amp next [] more lt = absurd (omega arith)
after_same None amp next (b ∷ bs) more lt = refl
after_same (Some u) amp next (b ∷ bs) more lt = refl

fault_same : (end : Option ScanFault) (at : ℕ) (text more : List ℕ) → longest_prefix references text < length text → reference_fault end at (text ++ more) ≡ reference_fault end at text
unfolding reference_fault
fault_same end at text more lt =
    let n : ℕ = longest_prefix references text in
    ap (λ (k : ℕ). after_prefix end at (at + k) (drop k (text ++ more))) (prefixes_same references text more lt).0
    ∙ ap (after_prefix end at (at + n)) (drop-append-le n text more (omega arith))
    ∙ after_same end at (at + n) (drop n text) more (omega (arith, length-drop n text))

-- ---- runs

-- the fault isn't one of the text's end
abbrev pub Stays : Option ScanFault → List ℕ → ScanFault → Type 0
Stays None whole f = stands whole f ≡ true
Stays (Some u) whole f = f ≡ u → ⊥

empty_drop : (n : ℕ) → drop {A = ℕ} n [] ≡ []
empty_drop zero = refl
empty_drop (suc n) = refl

pub no_prefix : (n : ℕ) (text : List ℕ) → length text ≤ n → drop n text ≡ []
no_prefix n [] le = empty_drop n
no_prefix zero (b ∷ bs) le = absurd (omega arith)
no_prefix (suc n) (b ∷ bs) le = no_prefix n bs (omega arith)

cut_reference : (end : Option ScanFault) (at : ℕ) (whole text : List ℕ) (f : ScanFault) → drop at whole ≡ text → length text ≤ longest_prefix references text → Stays end whole f → reference_fault end at text ≡ f → ⊥
unfolding reference_fault
cut_reference None at whole text f here le s e =
    let n : ℕ = longest_prefix references text in
    let is : fault at BadReference ≡ f = ap (after_prefix None at (at + n)) (sym (no_prefix n text le)) ∙ e in
    let passes : passes_reference (drop at whole) ≡ true = ap (stands whole) is ∙ s in
    let fails : passes_reference (drop at whole) ≡ false = ap passes_reference here ∙ le-ltb n (length text) le in
    both (passes_reference (drop at whole)) fails passes
cut_reference (Some u) at whole text f here le s e =
    let n : ℕ = longest_prefix references text in
    s (sym (ap (after_prefix (Some u) at (at + n)) (sym (no_prefix n text le)) ∙ e))

pub fault_ways : (s r a : Bool) (at : ℕ) (f g h : ScanFault) (rest : Result ℕ ScanFault) → cond s (Ok at) (cond r (Err f) (cond a (Err g) rest)) ≡ Err h
    → (s ≡ false) × (((r ≡ true) × (f ≡ h)) ⊎ (((r ≡ false) × (a ≡ true) × (g ≡ h)) ⊎ ((r ≡ false) × (a ≡ false) × (rest ≡ Err h))))
fault_ways true r a at f g h rest e = absurd cc
fault_ways false true a at f g h rest e = (refl, inl (refl, cc))
fault_ways false false true at f g h rest e = (refl, inr (inl (refl, refl, cc)))
fault_ways false false false at f g h rest e = (refl, inr (inr (refl, refl, e)))

amp_more : (amp found more : Bool) → (amp && not found) ≡ false → (found ≡ true → more ≡ true) → (amp && not more) ≡ false
amp_more true true more e h = rw (h refl) refl
amp_more true false more e h = absurd cc
amp_more false found more e h = refl

pub past_one : (at b : ℕ) (whole bs : List ℕ) → drop at whole ≡ b ∷ bs → drop (at + 1) whole ≡ bs
past_one at b whole bs e = sym (drop-drop 1 at whole) ∙ ap (drop 1) e

pub run_stays : (end : Option ScanFault) (stop at : ℕ) (whole text more : List ℕ) (f : ScanFault) → drop at whole ≡ text → Stays end whole f → run_end end stop at text ≡ Err f → run_end end stop at (text ++ more) ≡ Err f
unfolding run_end
run_stays None stop at whole [] more f here s e = absurd cc
run_stays (Some u) stop at whole [] more f here s e = absurd (s (sym (err_same (run_end (Some u) stop at []) u f refl e)))
run_stays end stop at whole (b ∷ bs) more f here s e =
    let ways = fault_ways (eqb b stop) (is_barred b) (eqb b 38 && not (starts_reference (b ∷ bs))) at (fault at BadChar) (reference_fault end at (b ∷ bs)) f (run_end end stop (at + 1) bs) e in
    elim ways.1 [
      | inl barred ↦ rw (ways.0, barred.0) (ap err barred.1)
      | inr other ↦
          elim other [
            | inl bad ↦
                elim (cases_lt (longest_prefix references (b ∷ bs)) (length (b ∷ bs))) [
                  | inl lt ↦
                      let amp : (eqb b 38 && not (starts_reference (b ∷ (bs ++ more)))) ≡ true = ap (λ (x : Bool). eqb b 38 && not x) (reference_same (b ∷ bs) more lt) ∙ bad.1 in
                      rw (ways.0, bad.0, amp) (ap err (fault_same end at (b ∷ bs) more lt ∙ bad.2))
                  | inr ge ↦ absurd (cut_reference end at whole (b ∷ bs) f here ge s bad.2)
                ]
            | inr on ↦
                let amp = amp_more (eqb b 38) (starts_reference (b ∷ bs)) (starts_reference (b ∷ (bs ++ more))) on.1 (reference_more (b ∷ bs) more) in
                rw (ways.0, on.0, amp) (run_stays end stop (at + 1) whole bs more f (past_one at b whole bs here) s on.2)
          ]
    ]

-- ---- raw text and comments

unbarred_only : (close : List ℕ) (u f : ScanFault) (at : ℕ) (text : List ℕ) → list_all (λ b. not (is_barred b)) text ≡ true → verbatim_end close u at text ≡ Err f → f ≡ u
unfolding verbatim_end
unbarred_only close u f at [] all e = sym (err_same (verbatim_end close u at []) u f refl e)
unbarred_only close u f at (b ∷ bs) all e =
    elim (cases_Bool (begins_with close (b ∷ bs))) [
      | inl closes ↦ let h : Ok at ≡ Err f = rw closes at e in absurd cc
      | inr other ↦
          let n = not_false (is_barred b) (and_left (not (is_barred b)) (list_all (λ b. not (is_barred b)) bs) all) in
          let h : verbatim_end close u (at + 1) bs ≡ Err f = rw (other, n) at e in
          unbarred_only close u f (at + 1) bs (and_right (not (is_barred b)) (list_all (λ b. not (is_barred b)) bs) all) h
    ]

all_prefix : (q : ℕ → Bool) (n : ℕ) (xs : List ℕ) → list_all q xs ≡ true → list_all q (take n xs) ≡ true
all_prefix q zero [] e = refl
all_prefix q zero (x ∷ xs) e = refl
all_prefix q (suc n) [] e = refl
all_prefix q (suc n) (x ∷ xs) e = and_both (q x) (list_all q (take n xs)) (and_left (q x) (list_all q xs) e) (all_prefix q n xs (and_right (q x) (list_all q xs) e))

-- a prefix that needs the bytes which were added has all of the text
prefix_unbarred : (close text more : List ℕ) → list_all (λ b. not (is_barred b)) close ≡ true → begins_with close (text ++ more) ≡ true → begins_with close text ≡ false → list_all (λ b. not (is_barred b)) text ≡ true
prefix_unbarred close text more all e n =
    elim (cases_lt (length text) (length close)) [
      | inl lt ↦
          let parts = begins_parts close (text ++ more) e in
          let taken : text ≡ take (length text) close = sym (take-append_seam text more) ∙ ap (take (length text)) parts ∙ take-append-le (length text) close (drop (length close) (text ++ more)) (omega arith) in
          subst (λ (l : List ℕ). list_all (λ b. not (is_barred b)) l ≡ true) (sym taken) (all_prefix (λ b. not (is_barred b)) (length text) close all)
      | inr ge ↦ absurd (both (begins_with close text) n (sym (begins_same close text more ge) ∙ e))
    ]

pub not_true_is : (b : Bool) → b ≡ true → not b ≡ true → ⊥
not_true_is true e f = cc
not_true_is false e f = absurd cc

pub verbatim_stays : (close : List ℕ) (u f : ScanFault) (at : ℕ) (text more : List ℕ) → list_all (λ b. not (is_barred b)) close ≡ true → (f ≡ u → ⊥) → verbatim_end close u at text ≡ Err f → verbatim_end close u at (text ++ more) ≡ Err f
unfolding verbatim_end
verbatim_stays close u f at [] more all ne e = absurd (ne (sym (err_same (verbatim_end close u at []) u f refl e)))
verbatim_stays close u f at (b ∷ bs) more all ne e =
    elim (cases_Bool (begins_with close (b ∷ bs))) [
      | inl closes ↦ let h : Ok at ≡ Err f = rw closes at e in absurd cc
      | inr other ↦
          let still : begins_with close (b ∷ (bs ++ more)) ≡ false =
          elim (cases_Bool (begins_with close (b ∷ (bs ++ more)))) [
            | inl closes ↦ absurd (ne (unbarred_only close u f at (b ∷ bs) (prefix_unbarred close (b ∷ bs) more all closes other) e))
            | inr no_close ↦ no_close
          ] in
          elim (cases_Bool (is_barred b)) [
            | inl barred ↦ let h : Err (fault at BadChar) ≡ Err f = rw (other, barred) at e in rw (still, barred) h
            | inr plain ↦ let h : verbatim_end close u (at + 1) bs ≡ Err f = rw (other, plain) at e in rw (still, plain) (verbatim_stays close u f (at + 1) bs more all ne h)
          ]
    ]
