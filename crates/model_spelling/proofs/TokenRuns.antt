-- Runs of characters are read exactly where they are spelled so.
use Rattle.std.proofs.Common.{◌≡◌, ℕ, suc, ◌+◌, ◌-◌, ◌<◌, ◌≤◌, Bool, true, false, cond, not, ◌&&◌, ◌||◌, eqb, List, [], ◌∷◌, ◌++◌, length, drop, take, Option, Some, None, Result, Ok, Err, refl, sym, ap, ◌∙◌, arith, eq-eqb, append_assoc, add-zero, inl, inr, ◌⊎◌}
use Rattle.std.specs.Prelude.{◌==◌}
use Rattle.std.proofs.lemmas.List.{length-append, take-append-le}
use Rattle.std.proofs.Math.Seq.{drop-append_seam, take-append_seam, take-append-add}
use Rattle.std.proofs.lemmas.Bool.Decides.{Decides-eqb, nat_tests}
use Rattle.std.proofs.lemmas.Slice.Eq.{starts_is}
use Rattle.std.specs.List.{prefix_len, list_all, list_any}
use Rattle.model_spelling.specs.declared.scan_fault.ScanFault.{ScanFault}
use Rattle.model_spelling.specs.declared.scan_fault.ScanWhat.TheVariants.{BadChar}
use Rattle.model_spelling.specs.Grammar.{is_barred, is_letter, is_name_byte, is_tag_name, is_plaintext, begins_with, references, starts_reference, is_run, is_text, is_verbatim, Token, End, Chars}
use Rattle.model_spelling.specs.Reading.{◌>>=◌, fault, reference_fault, run_end, verbatim_end, with_name, end_after, end_at, between_at, Step}
use Rattle.model_spelling.proofs.AttrReading.{and_left, and_right, four_ways, prefix_all}

-- ---- prefixes

pub or_right : (a b : Bool) → b ≡ true → (a || b) ≡ true
or_right true b e = refl
or_right false b e = e

pub or_parts : (a b : Bool) → (a || b) ≡ true → (a ≡ true) ⊎ (b ≡ true)
or_parts true b e = inl refl
or_parts false b e = inr e

pub not_false : (b : Bool) → not b ≡ true → b ≡ false
not_false true e = absurd cc
not_false false e = refl

pub begins_parts : (r text : List ℕ) → begins_with r text ≡ true → text ≡ r ++ drop (length r) text
unfolding begins_with
begins_parts r text e = (starts_is Decides-eqb text r true (sym e)).0 refl

pub begins_from_parts : (r text rest : List ℕ) → text ≡ r ++ rest → begins_with r text ≡ true
unfolding begins_with
begins_from_parts r text rest e = (starts_is Decides-eqb text r (begins_with r text) refl).1 rest e

-- what begins a text begins it however it goes on
pub begins_more : (r text more : List ℕ) → begins_with r text ≡ true → begins_with r (text ++ more) ≡ true
begins_more r text more e =
    begins_from_parts r (text ++ more) (drop (length r) text ++ more) (ap (λ (l : List ℕ). l ++ more) (begins_parts r text e) ∙ append_assoc r (drop (length r) text) more)

-- and begins each of its prefixes that is long enough
begins_taken : (r text : List ℕ) (n : ℕ) → begins_with r text ≡ true → length r ≤ n → begins_with r (take n text) ≡ true
begins_taken r text n e le =
    let k = n - length r in
    let len : length r + k ≡ n = omega arith in
    begins_from_parts r (take n text) (take k (drop (length r) text))
    (ap (take n) (begins_parts r text e) ∙ ap (λ (m : ℕ). take m (r ++ drop (length r) text)) (sym len) ∙ take-append-add r (drop (length r) text) k)

any_more : (rs : List (List ℕ)) (text more : List ℕ) → list_any (λ r. begins_with r text) rs ≡ true → list_any (λ r. begins_with r (text ++ more)) rs ≡ true
any_more [] text more e = absurd cc
any_more (r ∷ rs) text more e =
    elim (or_parts (begins_with r text) (list_any (λ r. begins_with r text) rs) e) [
      | inl here ↦ rw (begins_more r text more here) refl
      | inr later ↦ or_right (begins_with r (text ++ more)) (list_any (λ r. begins_with r (text ++ more)) rs) (any_more rs text more later)
    ]

pub reference_more : (text more : List ℕ) → starts_reference text ≡ true → starts_reference (text ++ more) ≡ true
unfolding starts_reference
reference_more text more e = any_more references text more e

-- a reference that the text begins with; its bytes after the `&` pass a test that all references
-- pass
pub any_passes : (q : List ℕ → Bool) (rs : List (List ℕ)) (text : List ℕ) → list_any (λ r. begins_with r text) rs ≡ true → list_all q rs ≡ true → (r : List ℕ) × (begins_with r text ≡ true) × (q r ≡ true)
any_passes q [] text e h = absurd cc
any_passes q (r ∷ rs) text e h =
    elim (or_parts (begins_with r text) (list_any (λ r. begins_with r text) rs) e) [
      | inl here ↦ (r, here, and_left (q r) (list_all q rs) h)
      | inr later ↦ any_passes q rs text later (and_right (q r) (list_all q rs) h)
    ]

-- ---- characters

-- such bytes are passed over one by one
unfoldable pub is_plain : ℕ → ℕ → Bool
is_plain stop b = not (b == stop) && (not (is_barred b) && not (b == 38))

pub plain_passed : (end : Option ScanFault) (stop at : ℕ) (xs rest : List ℕ) → list_all (is_plain stop) xs ≡ true → run_end end stop at (xs ++ rest) ≡ run_end end stop (at + length xs) rest
unfolding run_end is_plain
plain_passed end stop at [] rest e = ap (λ (k : ℕ). run_end end stop k rest) (sym (add-zero at))
plain_passed end stop at (b ∷ xs) rest e =
    let here = and_left (is_plain stop b) (list_all (is_plain stop) xs) e in
    let more = plain_passed end stop (at + 1) xs rest (and_right (is_plain stop b) (list_all (is_plain stop) xs) e) in
    let n1 = not_false (b == stop) (and_left (not (b == stop)) (not (is_barred b) && not (b == 38)) here) in
    let tail = and_right (not (b == stop)) (not (is_barred b) && not (b == 38)) here in
    let n2 = not_false (is_barred b) (and_left (not (is_barred b)) (not (b == 38)) tail) in
    let n3 = not_false (b == 38) (and_right (not (is_barred b)) (not (b == 38)) tail) in
    let n : at + 1 + length xs ≡ at + length (b ∷ xs) = omega arith in
    rw (n1, n2, n3) (more ∙ ap (λ (k : ℕ). run_end end stop k rest) n)

pub run_le : (end : Option ScanFault) (stop at to : ℕ) (text : List ℕ) → run_end end stop at text ≡ Ok to → at ≤ to
unfolding run_end
run_le None stop at to [] e = let same : at ≡ to = cc in omega arith
run_le (Some f) stop at to [] e = absurd cc
run_le end stop at to (b ∷ bs) e =
    elim (four_ways (eqb b stop) (is_barred b) (eqb b 38 && not (starts_reference (b ∷ bs))) at to (fault at BadChar) (reference_fault end at (b ∷ bs)) (run_end end stop (at + 1) bs) e) [
      | inl stops ↦ omega arith
      | inr on ↦ omega (arith, run_le end stop (at + 1) to bs on.3)
    ]

-- the references hold no such byte after their `&`
abbrev pub PartsReferences : ℕ → Type 0
PartsReferences stop = list_all (λ r. list_all (is_plain stop) (drop 1 r)) references ≡ true

pub text_parts : PartsReferences 60
unfolding is_plain is_barred
text_parts = refl

pub double_parts : PartsReferences 34
unfolding is_plain is_barred
double_parts = refl

pub single_parts : PartsReferences 39
unfolding is_plain is_barred
single_parts = refl

within_by : (end : Option ScanFault) (stop at to : ℕ) (r : List ℕ) (b : ℕ) (bs : List ℕ) → list_all (is_plain stop) (drop 1 r) ≡ true → b ∷ bs ≡ r ++ drop (length r) (b ∷ bs) → run_end end stop (at + 1) bs ≡ Ok to → at + length r ≤ to
within_by end stop at to [] b bs plain parts read = omega (arith, run_le end stop (at + 1) to bs read)
within_by end stop at to (c ∷ r) b bs plain parts read =
    let rest = drop (length r) bs in
    let tail : bs ≡ r ++ rest = cc in
    let passed = plain_passed end stop (at + 1) r rest plain in
    let more : run_end end stop (at + 1 + length r) rest ≡ Ok to = sym passed ∙ ap (run_end end stop (at + 1)) (sym tail) ∙ read in
    omega (arith, run_le end stop (at + 1 + length r) to rest more)

-- so it stands within the run: each reference that begins the text begins the taken bytes
any_taken : (rs : List (List ℕ)) (end : Option ScanFault) (stop at to : ℕ) (b : ℕ) (bs : List ℕ) → list_all (λ r. list_all (is_plain stop) (drop 1 r)) rs ≡ true → list_any (λ r. begins_with r (b ∷ bs)) rs ≡ true → run_end end stop (at + 1) bs ≡ Ok to
    → list_any (λ r. begins_with r (take (to - at) (b ∷ bs))) rs ≡ true
any_taken [] end stop at to b bs plain e read = absurd cc
any_taken (r ∷ rs) end stop at to b bs plain e read =
    elim (or_parts (begins_with r (b ∷ bs)) (list_any (λ r. begins_with r (b ∷ bs)) rs) e) [
      | inl here ↦
          let within = within_by end stop at to r b bs (and_left (list_all (is_plain stop) (drop 1 r)) (list_all (λ r. list_all (is_plain stop) (drop 1 r)) rs) plain) (begins_parts r (b ∷ bs) here) read in
          rw (begins_taken r (b ∷ bs) (to - at) here (omega (arith, within))) refl
      | inr later ↦ or_right (begins_with r (take (to - at) (b ∷ bs))) (list_any (λ r. begins_with r (take (to - at) (b ∷ bs))) rs)
          (any_taken rs end stop at to b bs (and_right (list_all (is_plain stop) (drop 1 r)) (list_all (λ r. list_all (is_plain stop) (drop 1 r)) rs) plain) later read)
    ]

reference_taken : (end : Option ScanFault) (stop at to : ℕ) (b : ℕ) (bs : List ℕ) → PartsReferences stop → starts_reference (b ∷ bs) ≡ true → run_end end stop (at + 1) bs ≡ Ok to → starts_reference (take (to - at) (b ∷ bs)) ≡ true
unfolding starts_reference
reference_taken end stop at to b bs parts e read = any_taken references end stop at to b bs parts e read

pub amp_stands : (amp found : Bool) → (amp && not found) ≡ false → (amp ≡ true → found ≡ true)
amp_stands true true e a = refl
amp_stands true false e a = absurd cc
amp_stands false found e a = absurd cc

or_amp : (amp found : Bool) → (amp ≡ true → found ≡ true) → (not amp || found) ≡ true
or_amp true found h = h refl
or_amp false found h = refl

run_cons : (stop b n k : ℕ) (bs : List ℕ) → n ≡ suc k → eqb b stop ≡ false → is_barred b ≡ false → (eqb b 38 ≡ true → starts_reference (take n (b ∷ bs)) ≡ true) → is_run stop (take k bs) ≡ true → is_run stop (take n (b ∷ bs)) ≡ true
run_cons stop b n k bs e ns nb amp rest =
    let f : eqb b 38 ≡ true → starts_reference (b ∷ take k bs) ≡ true = λ a. ap (λ (m : ℕ). starts_reference (take m (b ∷ bs))) (sym e) ∙ amp a in
    rw (e, ns, nb, or_amp (eqb b 38) (starts_reference (b ∷ take k bs)) f) rest

run_none : (stop n : ℕ) (text : List ℕ) → n ≡ 0 → is_run stop (take n text) ≡ true
run_none stop n text e = rw e refl

-- A text that is read as characters is spelled so.
pub run_found : (end : Option ScanFault) (stop at to : ℕ) (text : List ℕ) → PartsReferences stop → run_end end stop at text ≡ Ok to → is_run stop (take (to - at) text) ≡ true
unfolding run_end
run_found None stop at to [] parts e = let same : at ≡ to = cc in run_none stop (to - at) [] (omega arith)
run_found (Some f) stop at to [] parts e = absurd cc
run_found end stop at to (b ∷ bs) parts e =
    elim (four_ways (eqb b stop) (is_barred b) (eqb b 38 && not (starts_reference (b ∷ bs))) at to (fault at BadChar) (reference_fault end at (b ∷ bs)) (run_end end stop (at + 1) bs) e) [
      | inl stops ↦ run_none stop (to - at) (b ∷ bs) (omega arith)
      | inr on ↦
          let le = run_le end stop (at + 1) to bs on.3 in
          run_cons stop b (to - at) (to - (at + 1)) bs (omega (arith, le)) on.0 on.1
          (λ amp. reference_taken end stop at to b bs parts (amp_stands (eqb b 38) (starts_reference (b ∷ bs)) on.2 amp) on.3)
          (run_found end stop (at + 1) to bs parts on.3)
    ]

-- what may follow a run
abbrev pub Follows : ℕ → Option ScanFault → List ℕ → Type 0
Follows stop end [] = end ≡ None
Follows stop end (b ∷ rest) = b ≡ stop

amp_more : (amp found more : Bool) → (not amp || found) ≡ true → (found ≡ true → more ≡ true) → (amp && not more) ≡ false
amp_more true true more e h = rw (h refl) refl
amp_more true false more e h = absurd cc
amp_more false found more e h = refl

-- Characters are read as they are spelled, whatever follows.
pub run_only : (end : Option ScanFault) (stop at : ℕ) (xs rest : List ℕ) → is_run stop xs ≡ true → Follows stop end rest → run_end end stop at (xs ++ rest) ≡ Ok (at + length xs)
unfolding run_end
run_only end stop at [] [] e f = rw f (ap (λ (k : ℕ). Ok k) (sym (add-zero at)))
run_only end stop at [] (b ∷ rest) e f = rw (eq-eqb _ _ f) (ap (λ (k : ℕ). Ok k) (sym (add-zero at)))
run_only end stop at (b ∷ xs) rest e f =
    let p1 = and_left (not (b == stop) && not (is_barred b) && (not (b == 38) || starts_reference (b ∷ xs))) (is_run stop xs) e in
    let p2 = and_left (not (b == stop) && not (is_barred b)) (not (b == 38) || starts_reference (b ∷ xs)) p1 in
    let n1 = not_false (b == stop) (and_left (not (b == stop)) (not (is_barred b)) p2) in
    let n2 = not_false (is_barred b) (and_right (not (b == stop)) (not (is_barred b)) p2) in
    let n3 = amp_more (b == 38) (starts_reference (b ∷ xs)) (starts_reference (b ∷ (xs ++ rest))) (and_right (not (b == stop) && not (is_barred b)) (not (b == 38) || starts_reference (b ∷ xs)) p1) (reference_more (b ∷ xs) rest) in
    let more = run_only end stop (at + 1) xs rest (and_right (not (b == stop) && not (is_barred b) && (not (b == 38) || starts_reference (b ∷ xs))) (is_run stop xs) e) f in
    let n : at + 1 + length xs ≡ at + length (b ∷ xs) = omega arith in
    rw (n1, n2, n3) (more ∙ ap (λ (k : ℕ). Ok k) n)

-- ---- raw text and comments

-- whether a prefix begins a text is known from as many bytes
pub begins_same : (r xs ys : List ℕ) → length r ≤ length xs → begins_with r (xs ++ ys) ≡ begins_with r xs
unfolding begins_with
begins_same r xs ys le = let t : take (length r) (xs ++ ys) ≡ take (length r) xs = take-append-le (length r) xs ys le in rw t refl

pub three_ways : (s r : Bool) (at to : ℕ) (f : ScanFault) (rest : Result ℕ ScanFault) → cond s (Ok at) (cond r (Err f) rest) ≡ Ok to → ((s ≡ true) × (at ≡ to)) ⊎ ((s ≡ false) × (r ≡ false) × (rest ≡ Ok to))
three_ways true r at to f rest e = inl (refl, cc)
three_ways false true at to f rest e = absurd cc
three_ways false false at to f rest e = inr (refl, refl, e)

closes_here : (close : List ℕ) (unclosed : ScanFault) (at : ℕ) (text : List ℕ) → begins_with close text ≡ true → 0 < length text → verbatim_end close unclosed at text ≡ Ok at
unfolding verbatim_end
closes_here close unclosed at [] e some = absurd (omega arith)
closes_here close unclosed at (b ∷ bs) e some = rw e refl

goes_past : (close : List ℕ) (unclosed : ScanFault) (at b : ℕ) (bs : List ℕ) → begins_with close (b ∷ bs) ≡ false → is_barred b ≡ false → verbatim_end close unclosed at (b ∷ bs) ≡ verbatim_end close unclosed (at + 1) bs
unfolding verbatim_end
goes_past close unclosed at b bs n m = rw (n, m) refl

-- Text up to a delimiter is read as it is spelled.
pub verbatim_only : (close : List ℕ) (unclosed : ScanFault) (at : ℕ) (xs rest : List ℕ) → is_verbatim close xs ≡ true → 0 < length close → verbatim_end close unclosed at (xs ++ (close ++ rest)) ≡ Ok (at + length xs)
verbatim_only close unclosed at [] rest e some = closes_here close unclosed at (close ++ rest) (begins_from_parts close (close ++ rest) rest refl) (omega (arith, length-append close rest)) ∙ ap (λ (k : ℕ). Ok k) (sym (add-zero at))
verbatim_only close unclosed at (b ∷ xs) rest e some =
    let p = and_left (not (is_barred b) && not (begins_with close (b ∷ xs ++ close))) (is_verbatim close xs) e in
    let n1 = not_false (is_barred b) (and_left (not (is_barred b)) (not (begins_with close (b ∷ xs ++ close))) p) in
    let n2 = not_false (begins_with close (b ∷ xs ++ close)) (and_right (not (is_barred b)) (not (begins_with close (b ∷ xs ++ close))) p) in
    let whole : b ∷ (xs ++ (close ++ rest)) ≡ (b ∷ xs ++ close) ++ rest = sym (append_assoc (b ∷ xs) close rest) in
    let n3 : begins_with close (b ∷ (xs ++ (close ++ rest))) ≡ false = ap (begins_with close) whole ∙ begins_same close (b ∷ xs ++ close) rest (omega (arith, length-append (b ∷ xs) close)) ∙ n2 in
    let more = verbatim_only close unclosed (at + 1) xs rest (and_right (not (is_barred b) && not (begins_with close (b ∷ xs ++ close))) (is_verbatim close xs) e) some in
    let n : at + 1 + length xs ≡ at + length (b ∷ xs) = omega arith in
    goes_past close unclosed at b (xs ++ (close ++ rest)) n3 n1 ∙ more ∙ ap (λ (k : ℕ). Ok k) n

-- what an answer says of the bytes before it and from it on
pub record IsClosed (close : List ℕ) (at to : ℕ) (text : List ℕ) : Type 0 where
  pub le : at ≤ to
  pub fits : is_verbatim close (take (to - at) text) ≡ true
  pub closes : text ≡ take (to - at) text ++ (close ++ drop (to - at + length close) text)

closed_here : (close : List ℕ) (at to : ℕ) (text : List ℕ) → at ≡ to → begins_with close text ≡ true → IsClosed close at to text
closed_here close at to text e here =
    let n : to - at ≡ 0 = omega arith in
    let m : to - at + length close ≡ length close = omega arith in
    record {
      le = omega arith;
      fits = rw n refl;
      closes = rw (m, n) (begins_parts close text here);
    }

closed_later : (close : List ℕ) (at to b : ℕ) (bs : List ℕ) → begins_with close (b ∷ bs) ≡ false → is_barred b ≡ false → IsClosed close (at + 1) to bs → IsClosed close at to (b ∷ bs)
closed_later close at to b bs n m c =
    let k : ℕ = to - (at + 1) in
    let one : to - at ≡ suc k = omega (arith, c.le) in
    let two : to - at + length close ≡ suc (k + length close) = omega (arith, c.le) in
    let whole : b ∷ bs ≡ (b ∷ take k bs ++ close) ++ drop (k + length close) bs = ap (λ (l : List ℕ). b ∷ l) c.closes ∙ sym (append_assoc (b ∷ take k bs) close (drop (k + length close) bs)) in
    let other : begins_with close (b ∷ take k bs ++ close) ≡ false = sym (begins_same close (b ∷ take k bs ++ close) (drop (k + length close) bs) (omega (arith, length-append (b ∷ take k bs) close))) ∙ ap (begins_with close) (sym whole) ∙ n in
    record {
      le = omega (arith, c.le);
      fits = rw (one, m, other) c.fits;
      closes = rw (two, one) (ap (λ (l : List ℕ). b ∷ l) c.closes);
    }

-- Text up to a delimiter is spelled as it is read.
pub verbatim_found : (close : List ℕ) (unclosed : ScanFault) (at to : ℕ) (text : List ℕ) → verbatim_end close unclosed at text ≡ Ok to → IsClosed close at to text
unfolding verbatim_end
verbatim_found close unclosed at to [] e = absurd cc
verbatim_found close unclosed at to (b ∷ bs) e =
    elim (three_ways (begins_with close (b ∷ bs)) (is_barred b) at to (fault at BadChar) (verbatim_end close unclosed (at + 1) bs) e) [
      | inl here ↦ closed_here close at to (b ∷ bs) here.1 here.0
      | inr on ↦ closed_later close at to b bs on.0 on.1 (verbatim_found close unclosed (at + 1) to bs on.2)
    ]

-- ---- tokens

-- A text that stands between two tokens is read.
pub text_only : (at : ℕ) (xs rest : List ℕ) → is_text xs ≡ true → Follows 60 None rest → between_at at (xs ++ rest) ≡ Ok (Some (Chars xs, at + length xs))
unfolding between_at
text_only at [] rest e f = absurd cc
text_only at (b ∷ xs) rest e f =
    let p1 = and_left (not (b == 60) && not (is_barred b) && (not (b == 38) || starts_reference (b ∷ xs))) (is_run 60 xs) e in
    let n1 = not_false (b == 60) (and_left (not (b == 60)) (not (is_barred b)) (and_left (not (b == 60) && not (is_barred b)) (not (b == 38) || starts_reference (b ∷ xs)) p1)) in
    let read = run_only None 60 at (b ∷ xs) rest e f in
    let len : at + length (b ∷ xs) - at ≡ length (b ∷ xs) = omega arith in
    let taken : take (at + length (b ∷ xs) - at) (b ∷ (xs ++ rest)) ≡ b ∷ xs = ap (λ (k : ℕ). take k (b ∷ (xs ++ rest))) len ∙ take-append_seam (b ∷ xs) rest in
    let made : Chars (take (at + length (b ∷ xs) - at) (b ∷ (xs ++ rest))) ≡ Chars (b ∷ xs) = ap Chars taken in
    rw (n1, read, made) refl

abbrev found_step : Token × ℕ → Step
found_step x = Ok (Some x)

pub same_step : (x y : Token × ℕ) → found_step x ≡ found_step y → x ≡ y
same_step x y e = cc

abbrev as_text : ℕ → List ℕ → ℕ → Step
as_text at text x = Ok (Some (Chars (take (x - at) text), x))

text_found_by : (at to : ℕ) (text : List ℕ) (k : Token) (r : Result ℕ ScanFault) → run_end None 60 at text ≡ r → (r >>= as_text at text) ≡ Ok (Some (k, to)) → (k ≡ Chars (take (to - at) text)) × (is_run 60 (take (to - at) text) ≡ true)
text_found_by at to text k (Err f) e h = absurd cc
text_found_by at to text k (Ok x) e h =
    let pair = same_step (Chars (take (x - at) text), x) (k, to) h in
    let same : x ≡ to = ap (λ (p : Token × ℕ). p.1) pair in
    let token : Chars (take (x - at) text) ≡ k = ap (λ (p : Token × ℕ). p.0) pair in
    (sym token ∙ ap (λ (m : ℕ). Chars (take (m - at) text)) same, run_found None 60 at to text text_parts (e ∙ ap (λ (m : ℕ). Ok m) same))

-- A text token is spelled as it is read.
pub text_found : (at to : ℕ) (b : ℕ) (bs : List ℕ) (k : Token) → eqb b 60 ≡ false → between_at at (b ∷ bs) ≡ Ok (Some (k, to)) → (k ≡ Chars (take (to - at) (b ∷ bs))) × (is_run 60 (take (to - at) (b ∷ bs)) ≡ true)
unfolding between_at
text_found at to b bs k n e =
    let read : (run_end None 60 at (b ∷ bs) >>= as_text at (b ∷ bs)) ≡ Ok (Some (k, to)) = rw n at e in
    text_found_by at to (b ∷ bs) k (run_end None 60 at (b ∷ bs)) refl read

-- ---- end tags

pub name_taken : (xs rest : List ℕ) (c : ℕ) → list_all is_name_byte xs ≡ true → is_name_byte c ≡ false → prefix_len is_name_byte (xs ++ c ∷ rest) ≡ length xs
name_taken xs rest c all other = prefix_all is_name_byte xs rest c all other

pub letter_names : (b : ℕ) → is_letter b ≡ true → is_name_byte b ≡ true
unfolding is_letter
letter_names b e = grind (arith, nat_tests)

with_name_is : (tag : ℕ) (name rest : List ℕ) → prefix_len is_name_byte (name ++ (62 ∷ rest)) ≡ length name → take (length name) (name ++ (62 ∷ rest)) ≡ name → drop (length name) (name ++ (62 ∷ rest)) ≡ 62 ∷ rest
    → with_name (end_after tag) (tag + 2) (name ++ (62 ∷ rest)) ≡ end_after tag name (tag + 2 + length name) (62 ∷ rest)
with_name_is tag name rest len taken dropped = rw (len, taken, dropped) refl

-- An end tag that stands in a text is read.
pub end_only : (tag : ℕ) (name rest : List ℕ) → is_tag_name name ≡ true → end_at tag (name ++ (62 ∷ rest)) ≡ Ok (End name, tag + 2 + length name + 1)
unfolding end_at
end_only tag [] rest e = absurd cc
end_only tag (b ∷ name) rest e =
    let p = and_left (is_letter b && list_all is_name_byte name) (not (is_plaintext (b ∷ name))) e in
    let letter = and_left (is_letter b) (list_all is_name_byte name) p in
    let plain = not_false (is_plaintext (b ∷ name)) (and_right (is_letter b && list_all is_name_byte name) (not (is_plaintext (b ∷ name))) e) in
    let all : list_all is_name_byte (b ∷ name) ≡ true = rw (letter_names b letter) (and_right (is_letter b) (list_all is_name_byte name) p) in
    let len = name_taken (b ∷ name) rest 62 all refl in
    let taken = take-append_seam (b ∷ name) (62 ∷ rest) in
    let dropped = drop-append_seam (b ∷ name) (62 ∷ rest) in
    rw letter (with_name_is tag (b ∷ name) rest len taken dropped ∙ rw plain refl)
