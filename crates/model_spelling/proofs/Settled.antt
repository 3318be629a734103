-- A fault stands, or it is of the unclosed kinds, or the text's end cuts a reference or a doctype.
use Rattle.std.proofs.Common.{◌≡◌, ℕ, zero, suc, ◌+◌, ◌-◌, ◌<◌, Bool, true, false, cond, not, ◌&&◌, ◌||◌, eqb, List, [], ◌∷◌, ◌++◌, length, drop, take, Some, Result, Ok, Err, refl, sym, ap, ◌∙◌, arith, eq-eqb, eqb-true, inl, inr}
use Rattle.std.specs.Prelude.{◌==◌, slice_index}
use Rattle.std.proofs.lemmas.List.{drop-drop, length-drop}
use Rattle.std.proofs.Math.Seq.{drop-append_seam}
use Rattle.std.proofs.lemmas.Bool.{cases_Bool, lt-ltb}
use Rattle.std.specs.List.{prefix_len}
use Rattle.model_spelling.specs.declared.scan_fault.ScanFault.{ScanFault}
use Rattle.model_spelling.specs.declared.scan_fault.ScanWhat.TheVariants.{BadChar, BadTag, BadAttribute, BadReference, UnclosedComment, UnclosedTag, TooManyAttributes, DuplicateAttribute}
use Rattle.model_spelling.specs.Grammar.{is_barred, is_letter, is_name_byte, is_plaintext, begins_with, references, starts_reference, has_name, Attr, Start, End, Comment, comment_close}
use Rattle.ve_kinds.specs.Tags.{is_void}
use Rattle.model_spelling.specs.Reading.{◌>>=◌, fault, byte_fault, longest_prefix, after_prefix, reference_fault, run_end, value_end, verbatim_end, name_len_at, quote_at, head_at, attr_at, attrs_at, name_ends, tag_close, start_after, with_name, start_at, end_after, end_at, comment_at, dash_at}
use Rattle.model_spelling.specs.Standing.{is_open, passes_reference, stands}
use Rattle.model_spelling.proofs.AttrReading.{attr_head_fault, attr_many, attr_twice, attr_value_fault, attr_whole, attrs_stop, attrs_fault, attrs_more}
use Rattle.model_spelling.proofs.Stays.{err, err_same, fault_ways, past_one}
use Rattle.model_spelling.proofs.Only.{both}
use Rattle.model_spelling.proofs.FoundTokens.{after_fails, after_fails_attrs, after_fails_close, after_is, start_is, comment_fails, comment_is}
use Rattle.model_spelling.proofs.Found.{not_ok, split, named_as, pair_of, quoted, head_as, attr_found}

-- of the unclosed kinds, or none of the text's end
abbrev pub settled : List ℕ → ScanFault → Bool
settled whole f = is_open f.what || stands whole f

pub as_settled : (whole : List ℕ) (f g : ScanFault) → settled whole f ≡ true → f ≡ g → settled whole g ≡ true
as_settled whole f g s e = ap (settled whole) (sym e) ∙ s

one_settled : (whole : List ℕ) (r : Bool) (at : ℕ) (f : ScanFault) → settled whole f ≡ true → settled whole (cond r (fault at BadChar) f) ≡ true
one_settled whole true at f s = refl
one_settled whole false at f s = s

pub refused_settled : (whole : List ℕ) (at c : ℕ) (f g : ScanFault) → settled whole f ≡ true → byte_fault at c f ≡ g → settled whole g ≡ true
refused_settled whole at c f g s e = ap (settled whole) (sym e) ∙ one_settled whole (is_barred c) at f s

-- this reading fails so
pub from_err : {A : Type 0} (whole : List ℕ) (r : Result A ScanFault) (f g : ScanFault) → settled whole f ≡ true → r ≡ Err f → r ≡ Err g → settled whole g ≡ true
from_err whole r f g s e h = as_settled whole f g s (err_same r f g e h)

pub from_refused : {A : Type 0} (whole : List ℕ) (r : Result A ScanFault) (at c : ℕ) (f g : ScanFault) → settled whole f ≡ true → r ≡ Err (byte_fault at c f) → r ≡ Err g → settled whole g ≡ true
from_refused whole r at c f g s e h = refused_settled whole at c f g s (err_same r (byte_fault at c f) g e h)

-- ---- runs

after_settled : (whole : List ℕ) (u : ScanFault) (at next : ℕ) (rest : List ℕ) (f : ScanFault) → settled whole u ≡ true → (0 < length rest → passes_reference (drop at whole) ≡ true) → after_prefix (Some u) at next rest ≡ f → settled whole f ≡ true
after_settled whole u at next [] f s p e = as_settled whole u f s e
after_settled whole u at next (b ∷ bs) f s p e = refused_settled whole next b (fault at BadReference) f (p (omega arith)) e

pub passes_by : (at : ℕ) (whole text : List ℕ) → drop at whole ≡ text → 0 < length (drop (longest_prefix references text) text) → passes_reference (drop at whole) ≡ true
passes_by at whole text here lt = ap passes_reference here ∙ lt-ltb (longest_prefix references text) (length text) (omega (arith, lt, length-drop (longest_prefix references text) text))

reference_settled : (u : ScanFault) (at : ℕ) (whole text : List ℕ) (f : ScanFault) → settled whole u ≡ true → drop at whole ≡ text → reference_fault (Some u) at text ≡ f → settled whole f ≡ true
unfolding reference_fault
reference_settled u at whole text f s here e =
    let n : ℕ = longest_prefix references text in
    after_settled whole u at (at + n) (drop n text) f s (λ lt. passes_by at whole text here lt) e

run_settled : (u : ScanFault) (stop at : ℕ) (whole text : List ℕ) (f : ScanFault) → settled whole u ≡ true → drop at whole ≡ text → run_end (Some u) stop at text ≡ Err f → settled whole f ≡ true
unfolding run_end
run_settled u stop at whole [] f s here e = from_err whole (run_end (Some u) stop at []) u f s refl e
run_settled u stop at whole (b ∷ bs) f s here e =
    let ways = fault_ways (eqb b stop) (is_barred b) (eqb b 38 && not (starts_reference (b ∷ bs))) at (fault at BadChar) (reference_fault (Some u) at (b ∷ bs)) f (run_end (Some u) stop (at + 1) bs) e in
    elim ways.1 [
      | inl barred ↦ as_settled whole (fault at BadChar) f refl barred.1
      | inr other ↦
          elim other [
            | inl bad ↦ reference_settled u at whole (b ∷ bs) f s here bad.2
            | inr on ↦ run_settled u stop (at + 1) whole bs f s (past_one at b whole bs here) on.2
          ]
    ]

pub verbatim_settled : (whole close : List ℕ) (u : ScanFault) (at : ℕ) (text : List ℕ) (f : ScanFault) → settled whole u ≡ true → verbatim_end close u at text ≡ Err f → settled whole f ≡ true
unfolding verbatim_end
verbatim_settled whole close u at [] f s e = from_err whole (verbatim_end close u at []) u f s refl e
verbatim_settled whole close u at (b ∷ bs) f s e =
    elim (cases_Bool (begins_with close (b ∷ bs))) [
      | inl closes ↦ let g : Ok at ≡ Err f = rw closes at e in absurd cc
      | inr other ↦
          elim (cases_Bool (is_barred b)) [
            | inl barred ↦ let g : err {A = ℕ} (fault at BadChar) ≡ Err f = rw (other, barred) at e in from_err whole (err {A = ℕ} (fault at BadChar)) (fault at BadChar) f refl refl g
            | inr plain ↦ let g : verbatim_end close u (at + 1) bs ≡ Err f = rw (other, plain) at e in verbatim_settled whole close u (at + 1) bs f s g
          ]
    ]

-- ---- attributes

quote_settled : (whole : List ℕ) (tag place at k : ℕ) (text : List ℕ) (f : ScanFault) → (quote_at tag place at text >>= pair_of k) ≡ Err f → settled whole f ≡ true
quote_settled whole tag place at k [] f e = from_err whole (quote_at tag place at [] >>= pair_of k) (fault tag UnclosedTag) f refl refl e
quote_settled whole tag place at k (c ∷ []) f e =
    elim (cases_Bool (c == 61)) [
      | inl equals ↦ from_err whole (quote_at tag place at (c ∷ []) >>= pair_of k) (fault tag UnclosedTag) f refl (rw equals refl) e
      | inr other ↦ from_refused whole (quote_at tag place at (c ∷ []) >>= pair_of k) at c (fault place BadAttribute) f refl (rw other refl) e
    ]
quote_settled whole tag place at k (c ∷ q ∷ rest) f e =
    elim (cases_Bool (c == 61)) [
      | inl equals ↦
          elim (cases_Bool (q == 34 || q == 39)) [
            | inl quote ↦ absurd (not_ok (quote_at tag place at (c ∷ (q ∷ rest)) >>= pair_of k) f (k, q) e (rw (equals, quote) refl))
            | inr other ↦ from_refused whole (quote_at tag place at (c ∷ (q ∷ rest)) >>= pair_of k) (at + 1) q (fault place BadAttribute) f refl (rw (equals, other) refl) e
          ]
      | inr other ↦ from_refused whole (quote_at tag place at (c ∷ (q ∷ rest)) >>= pair_of k) at c (fault place BadAttribute) f refl (rw other refl) e
    ]

name_settled : (whole : List ℕ) (tag place k : ℕ) (text : List ℕ) (f : ScanFault) → (name_len_at tag place k text >>= quoted tag place text) ≡ Err f → settled whole f ≡ true
name_settled whole tag place zero [] f e = from_err whole (name_len_at tag place 0 [] >>= quoted tag place []) (fault tag UnclosedTag) f refl refl e
name_settled whole tag place zero (c ∷ cs) f e = from_refused whole (name_len_at tag place 0 (c ∷ cs) >>= quoted tag place (c ∷ cs)) (place + 1) c (fault place BadAttribute) f refl refl e
name_settled whole tag place (suc n) text f e = quote_settled whole tag place (place + 1 + suc n) (suc n) (drop (suc n) text) f e

head_settled : (whole : List ℕ) (tag place : ℕ) (text : List ℕ) (f : ScanFault) → head_at tag place text ≡ Err f → settled whole f ≡ true
head_settled whole tag place text f e = name_settled whole tag place (prefix_len is_name_byte text) text f (sym (head_as tag place (prefix_len is_name_byte text) text refl) ∙ e)

attr_settled_value : (whole : List ℕ) (room tag place n q : ℕ) (before : List Attr) (text : List ℕ) (f : ScanFault) (d : Bool) (v : Result ℕ ScanFault) → head_at tag place text ≡ Ok (n, q) → has_name (take n text) before ≡ d → value_end tag q (place + n + 3) (drop (n + 2) text) ≡ v
    → drop (place + 1) whole ≡ text → attr_at (suc room) tag before place text ≡ Err f → settled whole f ≡ true
attr_settled_value whole room tag place n q before text f true v h d w here e = from_err whole (attr_at (suc room) tag before place text) (fault (place + 1) DuplicateAttribute) f refl (attr_twice room tag place n q before text h d) e
attr_settled_value whole room tag place n q before text f false (Ok x) h d w here e = absurd (not_ok (attr_at (suc room) tag before place text) f (record { name = take n text; value = take (x - (place + n + 3)) (drop (n + 2) text); quote = q }, x + 1) e (attr_whole room tag place n q x before text h d w))
attr_settled_value whole room tag place n q before text f false (Err g) h d w here e =
    let at : place + 1 + (n + 2) ≡ place + n + 3 = omega arith in
    let there : drop (place + n + 3) whole ≡ drop (n + 2) text = ap (λ (k : ℕ). drop k whole) (sym at) ∙ sym (drop-drop (n + 2) (place + 1) whole) ∙ ap (drop (n + 2)) here in
    from_err whole (attr_at (suc room) tag before place text) g f (run_settled (fault tag UnclosedTag) q (place + n + 3) whole (drop (n + 2) text) g refl there w) (attr_value_fault room tag place n q before text g h d w) e

attr_settled_head : (whole : List ℕ) (room tag place : ℕ) (before : List Attr) (text : List ℕ) (f : ScanFault) (r : Result (ℕ × ℕ) ScanFault) → head_at tag place text ≡ r → drop (place + 1) whole ≡ text → attr_at room tag before place text ≡ Err f → settled whole f ≡ true
attr_settled_head whole room tag place before text f (Err g) h here e = from_err whole (attr_at room tag before place text) g f (head_settled whole tag place text g h) (attr_head_fault room tag place before text g h) e
attr_settled_head whole zero tag place before text f (Ok (n, q)) h here e = from_err whole (attr_at 0 tag before place text) (fault (place + 1) TooManyAttributes) f refl (attr_many tag place n q before text h) e
attr_settled_head whole (suc room) tag place before text f (Ok (n, q)) h here e = attr_settled_value whole room tag place n q before text f (has_name (take n text) before) (value_end tag q (place + n + 3) (drop (n + 2) text)) h refl refl here e

attr_settled : (whole : List ℕ) (room tag place : ℕ) (before : List Attr) (text : List ℕ) (f : ScanFault) → drop (place + 1) whole ≡ text → attr_at room tag before place text ≡ Err f → settled whole f ≡ true
attr_settled whole room tag place before text f here e = attr_settled_head whole room tag place before text f (head_at tag place text) refl here e

abbrev AttrsSettled : List ℕ → ℕ → ℕ → ScanFault → Type 0
AttrsSettled whole room tag f = (before : List Attr) (at : ℕ) (text : List ℕ) → drop at whole ≡ text → attrs_at room tag before at text ≡ Err f → settled whole f ≡ true

attr_there : (at : ℕ) (whole text : List ℕ) → drop at whole ≡ text → drop (at + 1) whole ≡ drop 1 text
attr_there at whole text here = sym (drop-drop 1 at whole) ∙ ap (drop 1) here

attrs_settled_by : (whole : List ℕ) (room tag : ℕ) (f : ScanFault) (r : Result (Attr × ℕ) ScanFault) → AttrsSettled whole room tag f → (before : List Attr) (at : ℕ) (text : List ℕ) → drop at whole ≡ text → slice_index text 0 ≡ 32 → attr_at (suc room) tag before at (drop 1 text) ≡ r → attrs_at (suc room) tag before at text ≡ Err f → settled whole f ≡ true
attrs_settled_by whole room tag f (Err g) later before at text here s r e =
    from_err whole (attrs_at (suc room) tag before at text) g f (attr_settled whole (suc room) tag at before (drop 1 text) g (attr_there at whole text here) r) (attrs_fault (suc room) tag at before text g s r) e
attrs_settled_by whole room tag f (Ok (a, x)) later before at text here s r e =
    let found = attr_found (suc room) tag at before (drop 1 text) a x r in
    let len : at + (x - at) ≡ x = omega (arith, found.to_is) in
    let there : drop x whole ≡ drop (x - at) text = ap (λ (k : ℕ). drop k whole) (sym len) ∙ sym (drop-drop (x - at) at whole) ∙ ap (drop (x - at)) here in
    later (before ++ a ∷ []) x (drop (x - at) text) there (sym (attrs_more room tag at x before text a s r) ∙ e)

attrs_settled_none : (whole : List ℕ) (tag : ℕ) (f : ScanFault) (r : Result (Attr × ℕ) ScanFault) (before : List Attr) (at : ℕ) (text : List ℕ) → drop at whole ≡ text → slice_index text 0 ≡ 32 → attr_at 0 tag before at (drop 1 text) ≡ r → attrs_at 0 tag before at text ≡ Err f → settled whole f ≡ true
attrs_settled_none whole tag f (Err g) before at text here s r e = from_err whole (attrs_at 0 tag before at text) g f (attr_settled whole 0 tag at before (drop 1 text) g (attr_there at whole text here) r) (attrs_fault 0 tag at before text g s r) e
attrs_settled_none whole tag f (Ok (a, x)) before at text here s r e = let found = attr_found 0 tag at before (drop 1 text) a x r in absurd (omega (arith, found.some))

not_space : (n : ℕ) → (n == 32) ≡ false → n ≡ 32 → ⊥
not_space n e f = both (n == 32) e (eq-eqb n 32 f)

attrs_settled : (whole : List ℕ) (room tag : ℕ) (f : ScanFault) → AttrsSettled whole room tag f
attrs_settled whole zero tag f before at text here e =
    elim (cases_Bool (slice_index text 0 == 32)) [
      | inl space ↦ attrs_settled_none whole tag f (attr_at 0 tag before at (drop 1 text)) before at text here (eqb-true (slice_index text 0) 32 space) refl e
      | inr other ↦ absurd (not_ok (attrs_at 0 tag before at text) f (before, at) e (attrs_stop 0 tag at before text (λ h. not_space (slice_index text 0) other h)))
    ]
attrs_settled whole (suc room) tag f before at text here e =
    elim (cases_Bool (slice_index text 0 == 32)) [
      | inl space ↦ attrs_settled_by whole room tag f (attr_at (suc room) tag before at (drop 1 text)) (λ b x t w h. attrs_settled whole room tag f b x t w h) before at text here (eqb-true (slice_index text 0) 32 space) refl e
      | inr other ↦ absurd (not_ok (attrs_at (suc room) tag before at text) f (before, at) e (attrs_stop (suc room) tag at before text (λ h. not_space (slice_index text 0) other h)))
    ]

-- ---- start tags

close_settled : (whole : List ℕ) (tag at : ℕ) (void : Bool) (text : List ℕ) (f : ScanFault) → tag_close tag void at text ≡ Err f → settled whole f ≡ true
close_settled whole tag at void [] f e = from_err whole (tag_close tag void at []) (fault tag UnclosedTag) f refl refl e
close_settled whole tag at void (c ∷ []) f e =
    elim (cases_Bool (c == 62)) [
      | inl close ↦ absurd (not_ok (tag_close tag void at (c ∷ [])) f (false, at + 1) e (rw close refl))
      | inr other ↦
          elim (cases_Bool (c == 47 && void)) [
            | inl slash ↦ from_err whole (tag_close tag void at (c ∷ [])) (fault tag UnclosedTag) f refl (rw (other, slash) refl) e
            | inr neither ↦ from_refused whole (tag_close tag void at (c ∷ [])) at c (fault at BadAttribute) f refl (rw (other, neither) refl) e
          ]
    ]
close_settled whole tag at void (c ∷ d ∷ rest) f e =
    elim (cases_Bool (c == 62)) [
      | inl close ↦ absurd (not_ok (tag_close tag void at (c ∷ (d ∷ rest))) f (false, at + 1) e (rw close refl))
      | inr other ↦
          elim (cases_Bool (c == 47 && void)) [
            | inl slash ↦
                elim (cases_Bool (d == 62)) [
                  | inl close ↦ absurd (not_ok (tag_close tag void at (c ∷ (d ∷ rest))) f (true, at + 2) e (rw (other, slash, close) refl))
                  | inr bad ↦ from_refused whole (tag_close tag void at (c ∷ (d ∷ rest))) (at + 1) d (fault at BadAttribute) f refl (rw (other, slash, bad) refl) e
                ]
            | inr neither ↦ from_refused whole (tag_close tag void at (c ∷ (d ∷ rest))) at c (fault at BadAttribute) f refl (rw (other, neither) refl) e
          ]
    ]

-- a bad tag at this byte is no cut doctype
abbrev pub NoDoctype : List ℕ → ℕ → Type 0
NoDoctype whole tag = settled whole (fault tag BadTag) ≡ true

after_settled_close : (whole : List ℕ) (tag at x : ℕ) (name text : List ℕ) (attrs : List Attr) (f : ScanFault) (c : Result (Bool × ℕ) ScanFault) → name_ends tag name at text ≡ Ok tt → attrs_at 256 tag [] at text ≡ Ok (attrs, x) → tag_close tag (is_void name) x (drop (x - at) text) ≡ c → start_after tag name at text ≡ Err f → settled whole f ≡ true
after_settled_close whole tag at x name text attrs f (Ok (slash, end)) n a c e = absurd (not_ok (start_after tag name at text) f (Start name attrs slash, end) e (after_is tag at x end name text attrs slash n a c))
after_settled_close whole tag at x name text attrs f (Err g) n a c e = from_err whole (start_after tag name at text) g f (close_settled whole tag x (is_void name) (drop (x - at) text) g c) (after_fails_close tag at x name text attrs g n a c) e

after_settled_attrs : (whole : List ℕ) (tag at : ℕ) (name text : List ℕ) (f : ScanFault) (a : Result (List Attr × ℕ) ScanFault) → drop at whole ≡ text → name_ends tag name at text ≡ Ok tt → attrs_at 256 tag [] at text ≡ a → start_after tag name at text ≡ Err f → settled whole f ≡ true
after_settled_attrs whole tag at name text f (Err g) here n a e = from_err whole (start_after tag name at text) g f (attrs_settled whole 256 tag g [] at text here a) (after_fails_attrs tag at name text g n a) e
after_settled_attrs whole tag at name text f (Ok (attrs, x)) here n a e = after_settled_close whole tag at x name text attrs f (tag_close tag (is_void name) x (drop (x - at) text)) n a refl e

ends_settled : (whole : List ℕ) (tag at : ℕ) (name text : List ℕ) (f : ScanFault) → NoDoctype whole tag → name_ends tag name at text ≡ Err f → settled whole f ≡ true
ends_settled whole tag at name [] f no_doctype e = from_err whole (name_ends tag name at []) (fault tag UnclosedTag) f refl refl e
ends_settled whole tag at name (c ∷ rest) f no_doctype e =
    elim (cases_Bool (is_plaintext name)) [
      | inl plain ↦ from_refused whole (name_ends tag name at (c ∷ rest)) at c (fault tag BadTag) f no_doctype (rw plain refl) e
      | inr other ↦ absurd (not_ok (name_ends tag name at (c ∷ rest)) f tt e (rw other refl))
    ]

after_settled_name : (whole : List ℕ) (tag at : ℕ) (name text : List ℕ) (f : ScanFault) (n : Result (Unit {0}) ScanFault) → NoDoctype whole tag → drop at whole ≡ text → name_ends tag name at text ≡ n → start_after tag name at text ≡ Err f → settled whole f ≡ true
after_settled_name whole tag at name text f (Err g) no_doctype here n e = from_err whole (start_after tag name at text) g f (ends_settled whole tag at name text g no_doctype n) (after_fails tag at name text g n) e
after_settled_name whole tag at name text f (Ok tt) no_doctype here n e = after_settled_attrs whole tag at name text f (attrs_at 256 tag [] at text) here n refl e

after_name : (at : ℕ) (whole text prefix suffix : List ℕ) → drop at whole ≡ text → text ≡ prefix ++ suffix → drop (at + length prefix) whole ≡ suffix
after_name at whole text prefix suffix here parts = sym (drop-drop (length prefix) at whole) ∙ ap (drop (length prefix)) (here ∙ parts) ∙ drop-append_seam prefix suffix

pub start_settled : (whole : List ℕ) (tag : ℕ) (text : List ℕ) (f : ScanFault) → NoDoctype whole tag → drop (tag + 1) whole ≡ text → start_at tag text ≡ Err f → settled whole f ≡ true
start_settled whole tag text f no_doctype here e =
    let s = split is_name_byte text in
    let at : ℕ = tag + 1 + length s.prefix in
    after_settled_name whole tag at s.prefix s.suffix f (name_ends tag s.prefix at s.suffix) no_doctype (after_name (tag + 1) whole text s.prefix s.suffix here s.text_is) refl (sym (start_is tag text ∙ named_as (start_after tag) (tag + 1) text s) ∙ e)

-- ---- end tags, comments

end_after_settled : (whole : List ℕ) (tag at : ℕ) (name text : List ℕ) (f : ScanFault) → NoDoctype whole tag → end_after tag name at text ≡ Err f → settled whole f ≡ true
end_after_settled whole tag at name [] f no_doctype e = from_err whole (end_after tag name at []) (fault tag UnclosedTag) f refl refl e
end_after_settled whole tag at name (c ∷ cs) f no_doctype e =
    elim (cases_Bool (c == 62 && not (is_plaintext name))) [
      | inl good ↦ absurd (not_ok (end_after tag name at (c ∷ cs)) f (End name, at + 1) e (rw good refl))
      | inr bad ↦ from_refused whole (end_after tag name at (c ∷ cs)) at c (fault tag BadTag) f no_doctype (rw bad refl) e
    ]

pub end_settled : (whole : List ℕ) (tag : ℕ) (text : List ℕ) (f : ScanFault) → NoDoctype whole tag → end_at tag text ≡ Err f → settled whole f ≡ true
unfolding end_at
end_settled whole tag [] f no_doctype e = from_err whole (end_at tag []) (fault tag UnclosedTag) f refl refl e
end_settled whole tag (c ∷ cs) f no_doctype e =
    elim (cases_Bool (is_letter c)) [
      | inl letter ↦
          let h : with_name (end_after tag) (tag + 2) (c ∷ cs) ≡ Err f = rw letter at e in
          let s = split is_name_byte (c ∷ cs) in
          end_after_settled whole tag (tag + 2 + length s.prefix) s.prefix s.suffix f no_doctype (sym (named_as (end_after tag) (tag + 2) (c ∷ cs) s) ∙ h)
      | inr other ↦ from_refused whole (end_at tag (c ∷ cs)) (tag + 2) c (fault tag BadTag) f no_doctype (rw other refl) e
    ]

comment_settled : (whole : List ℕ) (tag : ℕ) (text : List ℕ) (f : ScanFault) (r : Result ℕ ScanFault) → verbatim_end comment_close (fault tag UnclosedComment) (tag + 4) text ≡ r → comment_at tag text ≡ Err f → settled whole f ≡ true
comment_settled whole tag text f (Ok x) r e = absurd (not_ok (comment_at tag text) f (Comment (take (x - (tag + 4)) text), x + 3) e (comment_is tag x text r))
comment_settled whole tag text f (Err g) r e = from_err whole (comment_at tag text) g f (verbatim_settled whole comment_close (fault tag UnclosedComment) (tag + 4) text g refl r) (comment_fails tag text g r) e

pub dash_settled : (whole : List ℕ) (tag : ℕ) (text : List ℕ) (f : ScanFault) → NoDoctype whole tag → dash_at tag text ≡ Err f → settled whole f ≡ true
unfolding dash_at
dash_settled whole tag [] f no_doctype e = from_err whole (dash_at tag []) (fault tag UnclosedComment) f refl refl e
dash_settled whole tag (d ∷ ds) f no_doctype e =
    elim (cases_Bool (d == 45)) [
      | inl dash ↦
          let h : comment_at tag ds ≡ Err f = rw dash at e in
          comment_settled whole tag ds f (verbatim_end comment_close (fault tag UnclosedComment) (tag + 4) ds) refl h
      | inr other ↦ from_refused whole (dash_at tag (d ∷ ds)) (tag + 3) d (fault tag BadTag) f no_doctype (rw other refl) e
    ]
