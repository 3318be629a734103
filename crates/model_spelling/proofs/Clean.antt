-- Where an unclosed tag, comment or raw text is the fault, what was read holds no barred character.
use Rattle.std.proofs.Common.{◌≡◌, ℕ, zero, suc, ◌+◌, ◌-◌, ◌<◌, ◌≤◌, Bool, true, false, cond, not, ◌&&◌, ◌||◌, eqb, List, [], ◌∷◌, ◌++◌, length, drop, take, Option, Some, None, Result, Ok, Err, refl, sym, ap, ◌∙◌, arith, eq-eqb, eqb-true, nat_eq, inl, inr}
use Rattle.std.specs.Prelude.{◌==◌, slice_index}
use Rattle.std.proofs.lemmas.List.{drop-drop, length-drop, drop_at}
use Rattle.std.proofs.Math.Seq.{drop-append_seam}
use Rattle.std.proofs.lemmas.Bool.{cases_lt, cases_Bool}
use Rattle.std.proofs.lemmas.Bool.Decides.{nat_tests}
use Rattle.std.specs.List.{prefix_len, common_prefix_len, flat_map, list_all}
use Rattle.model_spelling.specs.declared.scan_fault.ScanFault.{ScanFault}
use Rattle.model_spelling.specs.declared.scan_fault.ScanWhat.TheVariants.{BadChar, BadTag, BadAttribute, BadReference, Doctype, UnclosedComment, UnclosedTag, TooManyAttributes, DuplicateAttribute}
use Rattle.model_spelling.specs.Grammar.{is_barred, is_letter, is_name_byte, is_plaintext, begins_with, references, starts_reference, has_name, is_attr, is_attr_name, is_run, is_verbatim, Attr, attr_text, Token, Start, End, Comment, comment_close}
use Rattle.ve_kinds.specs.Tags.{is_void}
use Rattle.model_spelling.specs.Reading.{◌>>=◌, fault, byte_fault, longest_prefix, after_prefix, reference_fault, run_end, value_end, verbatim_end, name_len_at, quote_at, head_at, attr_at, attrs_at, name_ends, tag_close, start_after, with_name, start_at, end_after, end_at, comment_at, is_doctype, dash_at, markup_at, tag_at}
use Rattle.model_spelling.specs.Canonical.{are_chars}
use Rattle.model_spelling.specs.Standing.{is_open}
use Rattle.model_spelling.proofs.AttrReading.{and_left, and_right, attr_head_fault, attr_many, attr_twice, attr_value_fault, attr_whole, attrs_stop, attrs_fault, attrs_more}
use Rattle.model_spelling.proofs.Stays.{err, err_same}
use Rattle.model_spelling.proofs.CanWrite.{chars_append, run_chars}
use Rattle.model_spelling.proofs.Stays.{fault_ways}
use Rattle.model_spelling.proofs.Only.{both, and_both, attr_regrouped}
use Rattle.model_spelling.proofs.FoundTokens.{after_fails, after_fails_attrs, after_fails_close, after_is, start_is, comment_fails, comment_is}
use Rattle.model_spelling.proofs.Found.{not_ok, split, named_as, pair_of, quoted, head_as, head_found, attr_found, attrs_found}

-- ---- faults that aren't open

shut : (r : Bool) (at : ℕ) (f : ScanFault) → is_open f.what ≡ false → is_open (cond r (fault at BadChar) f).what ≡ true → ⊥
shut true at f n e = absurd cc
shut false at f n e = both (is_open f.what) n e

refused_shut : (at c : ℕ) (f g : ScanFault) → is_open f.what ≡ false → byte_fault at c f ≡ g → is_open g.what ≡ true → ⊥
refused_shut at c f g n e h = shut (is_barred c) at f n (ap (λ (x : ScanFault). is_open x.what) e ∙ h)

pub fault_shut : (f g : ScanFault) → is_open f.what ≡ false → f ≡ g → is_open g.what ≡ true → ⊥
fault_shut f g n e h = both (is_open f.what) n (ap (λ (x : ScanFault). is_open x.what) e ∙ h)

-- ---- runs

prefix_chars : (r text : List ℕ) → are_chars r ≡ true → length text ≤ common_prefix_len nat_eq r text → are_chars text ≡ true
prefix_chars r [] e le = refl
prefix_chars [] (b ∷ bs) e le = absurd (omega arith)
prefix_chars (x ∷ r) (b ∷ bs) e le =
    elim (cases_Bool (nat_eq x b)) [
      | inl same ↦
          let more : length (b ∷ bs) ≤ 1 + common_prefix_len nat_eq r bs = rw same at le in
          let is : x ≡ b = eqb-true x b same in
          and_both (not (is_barred b)) (are_chars bs) (ap (λ (k : ℕ). not (is_barred k)) (sym is) ∙ and_left (not (is_barred x)) (are_chars r) e) (prefix_chars r bs (and_right (not (is_barred x)) (are_chars r) e) (omega (arith, more)))
      | inr other ↦ let none : length (b ∷ bs) ≤ 0 = rw other at le in absurd (omega (arith, none))
    ]

prefixes_chars : (rs : List (List ℕ)) (text : List ℕ) → list_all are_chars rs ≡ true → 0 < length text → length text ≤ longest_prefix rs text → are_chars text ≡ true
prefixes_chars [] text e lt le = absurd (omega arith)
prefixes_chars (r ∷ rs) text e lt le =
    elim (cases_lt (common_prefix_len nat_eq r text) (length text)) [
      | inl less ↦ prefixes_chars rs text (and_right (are_chars r) (list_all are_chars rs) e) lt (omega arith)
      | inr here ↦ prefix_chars r text (and_left (are_chars r) (list_all are_chars rs) e) here
    ]

references_chars : list_all are_chars references ≡ true
unfolding is_barred
references_chars = refl

after_shut : (end : Option ScanFault) (amp next b : ℕ) (bs : List ℕ) (f : ScanFault) → after_prefix end amp next (b ∷ bs) ≡ f → is_open f.what ≡ true → ⊥
after_shut None amp next b bs f e h = refused_shut next b (fault amp BadReference) f refl e h
after_shut (Some u) amp next b bs f e h = refused_shut next b (fault amp BadReference) f refl e h

after_open : (end : Option ScanFault) (amp next : ℕ) (rest : List ℕ) (f : ScanFault) → after_prefix end amp next rest ≡ f → is_open f.what ≡ true → rest ≡ []
after_open end amp next [] f e h = refl
after_open end amp next (b ∷ bs) f e h = absurd (after_shut end amp next b bs f e h)

reference_chars : (end : Option ScanFault) (at : ℕ) (text : List ℕ) (f : ScanFault) → 0 < length text → reference_fault end at text ≡ f → is_open f.what ≡ true → are_chars text ≡ true
unfolding reference_fault
reference_chars end at text f lt e h =
    let n : ℕ = longest_prefix references text in
    let none = after_open end at (at + n) (drop n text) f e h in
    prefixes_chars references text references_chars lt (omega (arith, ap length none, length-drop n text))

pub run_clean : (end : Option ScanFault) (stop at : ℕ) (text : List ℕ) (f : ScanFault) → is_open f.what ≡ true → run_end end stop at text ≡ Err f → are_chars text ≡ true
unfolding run_end
run_clean end stop at [] f h e = refl
run_clean end stop at (b ∷ bs) f h e =
    let ways = fault_ways (eqb b stop) (is_barred b) (eqb b 38 && not (starts_reference (b ∷ bs))) at (fault at BadChar) (reference_fault end at (b ∷ bs)) f (run_end end stop (at + 1) bs) e in
    elim ways.1 [
      | inl barred ↦ absurd (fault_shut (fault at BadChar) f refl barred.1 h)
      | inr other ↦
          elim other [
            | inl bad ↦ reference_chars end at (b ∷ bs) f (omega arith) bad.2 h
            | inr on ↦ and_both (not (is_barred b)) (are_chars bs) (ap not on.0) (run_clean end stop (at + 1) bs f h on.2)
          ]
    ]

pub verbatim_clean : (close : List ℕ) (u : ScanFault) (at : ℕ) (text : List ℕ) (f : ScanFault) → is_open f.what ≡ true → verbatim_end close u at text ≡ Err f → are_chars text ≡ true
unfolding verbatim_end
verbatim_clean close u at [] f h e = refl
verbatim_clean close u at (b ∷ bs) f h e =
    elim (cases_Bool (begins_with close (b ∷ bs))) [
      | inl closes ↦ let g : Ok at ≡ Err f = rw closes at e in absurd cc
      | inr other ↦
          elim (cases_Bool (is_barred b)) [
            | inl barred ↦ let g : err {A = ℕ} (fault at BadChar) ≡ Err f = rw (other, barred) at e in absurd (fault_shut (fault at BadChar) f refl (err_same (err {A = ℕ} (fault at BadChar)) (fault at BadChar) f refl g) h)
            | inr plain ↦ let g : verbatim_end close u (at + 1) bs ≡ Err f = rw (other, plain) at e in and_both (not (is_barred b)) (are_chars bs) (ap not plain) (verbatim_clean close u (at + 1) bs f h g)
          ]
    ]

pub verbatim_chars : (close xs : List ℕ) → is_verbatim close xs ≡ true → are_chars xs ≡ true
verbatim_chars close [] e = refl
verbatim_chars close (b ∷ bs) e =
    and_both (not (is_barred b)) (are_chars bs) (and_left (not (is_barred b)) (not (begins_with close (b ∷ bs ++ close))) (and_left (not (is_barred b) && not (begins_with close (b ∷ bs ++ close))) (is_verbatim close bs) e)) (verbatim_chars close bs (and_right (not (is_barred b) && not (begins_with close (b ∷ bs ++ close))) (is_verbatim close bs) e))

-- ---- attributes

name_char : (b : ℕ) → is_name_byte b ≡ true → not (is_barred b) ≡ true
unfolding is_barred
name_char b e = grind (arith, nat_tests)

pub name_chars : (bs : List ℕ) → list_all is_name_byte bs ≡ true → are_chars bs ≡ true
name_chars [] e = refl
name_chars (b ∷ bs) e = and_both (not (is_barred b)) (are_chars bs) (name_char b (and_left (is_name_byte b) (list_all is_name_byte bs) e)) (name_chars bs (and_right (is_name_byte b) (list_all is_name_byte bs) e))

attr_name_chars : (bs : List ℕ) → is_attr_name bs ≡ true → are_chars bs ≡ true
attr_name_chars [] e = refl
attr_name_chars (b ∷ bs) e = name_chars (b ∷ bs) e

quote_char : (q : ℕ) → (q == 34 || q == 39) ≡ true → not (is_barred q) ≡ true
unfolding is_barred
quote_char q e = grind (arith, nat_tests)

equals_char : not (is_barred 61) ≡ true
unfolding is_barred
equals_char = refl

pub ascii_chars : (are_chars (61 ∷ []) ≡ true) × (are_chars (47 ∷ []) ≡ true) × (are_chars (62 ∷ []) ≡ true) × (are_chars (60 ∷ []) ≡ true) × (are_chars (32 ∷ []) ≡ true) × (are_chars (47 ∷ 62 ∷ []) ≡ true) × (are_chars (60 ∷ 47 ∷ []) ≡ true) × (are_chars (60 ∷ 33 ∷ []) ≡ true) × (are_chars (45 ∷ []) ≡ true)
unfolding is_barred
ascii_chars = (refl, refl, refl, refl, refl, refl, refl, refl, refl)

quote_clean : (tag place at k c : ℕ) (cs : List ℕ) (f : ScanFault) → is_open f.what ≡ true → (quote_at tag place at (c ∷ cs) >>= pair_of k) ≡ Err f → (c ≡ 61) × (cs ≡ [])
quote_clean tag place at k c [] f h e =
    elim (cases_Bool (c == 61)) [
      | inl equals ↦ (eqb-true c 61 equals, refl)
      | inr other ↦ absurd (refused_shut at c (fault place BadAttribute) f refl (err_same (quote_at tag place at (c ∷ []) >>= pair_of k) (byte_fault at c (fault place BadAttribute)) f (rw other refl) e) h)
    ]
quote_clean tag place at k c (q ∷ rest) f h e =
    elim (cases_Bool (c == 61)) [
      | inl equals ↦
          elim (cases_Bool (q == 34 || q == 39)) [
            | inl quote ↦ absurd (not_ok (quote_at tag place at (c ∷ (q ∷ rest)) >>= pair_of k) f (k, q) e (rw (equals, quote) refl))
            | inr other ↦ absurd (refused_shut (at + 1) q (fault place BadAttribute) f refl (err_same (quote_at tag place at (c ∷ (q ∷ rest)) >>= pair_of k) (byte_fault (at + 1) q (fault place BadAttribute)) f (rw (equals, other) refl) e) h)
          ]
      | inr other ↦ absurd (refused_shut at c (fault place BadAttribute) f refl (err_same (quote_at tag place at (c ∷ (q ∷ rest)) >>= pair_of k) (byte_fault at c (fault place BadAttribute)) f (rw other refl) e) h)
    ]

head_clean_by : (tag place : ℕ) (text prefix suffix : List ℕ) (f : ScanFault) → text ≡ prefix ++ suffix → prefix_len is_name_byte text ≡ length prefix → list_all is_name_byte prefix ≡ true → is_open f.what ≡ true → head_at tag place text ≡ Err f → are_chars text ≡ true
head_clean_by tag place text prefix [] f t len all h e = ap are_chars t ∙ chars_append prefix [] (name_chars prefix all) refl
head_clean_by tag place text [] (c ∷ cs) f t len all h e =
    let read : (name_len_at tag place 0 (c ∷ cs) >>= quoted tag place (c ∷ cs)) ≡ Err f = ap (λ (l : List ℕ). name_len_at tag place 0 l >>= quoted tag place l) (sym t) ∙ sym (head_as tag place 0 text len) ∙ e in
    absurd (refused_shut (place + 1) c (fault place BadAttribute) f refl (err_same (name_len_at tag place 0 (c ∷ cs) >>= quoted tag place (c ∷ cs)) (byte_fault (place + 1) c (fault place BadAttribute)) f refl read) h)
head_clean_by tag place text (b ∷ bs) (c ∷ cs) f t len all h e =
    let n : ℕ = length (b ∷ bs) in
    let left : drop n text ≡ c ∷ cs = ap (drop n) t ∙ drop-append_seam (b ∷ bs) (c ∷ cs) in
    let read : (quote_at tag place (place + 1 + n) (c ∷ cs) >>= pair_of n) ≡ Err f = ap (λ (l : List ℕ). quote_at tag place (place + 1 + n) l >>= pair_of n) (sym left) ∙ sym (head_as tag place n text len) ∙ e in
    let q = quote_clean tag place (place + 1 + n) n c cs f h read in
    let equals : c ∷ cs ≡ 61 ∷ [] = (λ i. q.0 i ∷ q.1 i) in
    ap are_chars t ∙ chars_append (b ∷ bs) (c ∷ cs) (name_chars (b ∷ bs) all) (ap are_chars equals ∙ ascii_chars.0)

head_clean : (tag place : ℕ) (text : List ℕ) (f : ScanFault) → is_open f.what ≡ true → head_at tag place text ≡ Err f → are_chars text ≡ true
head_clean tag place text f h e = let s = split is_name_byte text in head_clean_by tag place text s.prefix s.suffix f s.text_is s.len s.all h e

attr_clean_value : (room tag place n q : ℕ) (before : List Attr) (text : List ℕ) (f : ScanFault) (d : Bool) (v : Result ℕ ScanFault) → head_at tag place text ≡ Ok (n, q) → has_name (take n text) before ≡ d → value_end tag q (place + n + 3) (drop (n + 2) text) ≡ v
    → is_open f.what ≡ true → attr_at (suc room) tag before place text ≡ Err f → are_chars text ≡ true
attr_clean_value room tag place n q before text f true v h d w o e = absurd (fault_shut (fault (place + 1) DuplicateAttribute) f refl (err_same (attr_at (suc room) tag before place text) (fault (place + 1) DuplicateAttribute) f (attr_twice room tag place n q before text h d) e) o)
attr_clean_value room tag place n q before text f false (Ok x) h d w o e = absurd (not_ok (attr_at (suc room) tag before place text) f (record { name = take n text; value = take (x - (place + n + 3)) (drop (n + 2) text); quote = q }, x + 1) e (attr_whole room tag place n q x before text h d w))
attr_clean_value room tag place n q before text f false (Err g) h d w o e =
    let hf = head_found tag place n q text h in
    let same = err_same (attr_at (suc room) tag before place text) g f (attr_value_fault room tag place n q before text g h d w) e in
    let beyond : drop n text ≡ 61 ∷ (q ∷ hf.rest) = ap (drop n) hf.text_is ∙ drop_at hf.name (61 ∷ (q ∷ hf.rest)) n hf.len in
    let left : drop (n + 2) text ≡ hf.rest = sym (drop-drop 2 n text) ∙ ap (drop 2) beyond in
    let rest = run_clean (Some (fault tag UnclosedTag)) q (place + n + 3) hf.rest f o (ap (value_end tag q (place + n + 3)) (sym left) ∙ w ∙ ap err same) in
    ap are_chars hf.text_is ∙ chars_append hf.name (61 ∷ (q ∷ hf.rest)) (attr_name_chars hf.name hf.named) (and_both (not (is_barred 61)) (are_chars (q ∷ hf.rest)) equals_char (and_both (not (is_barred q)) (are_chars hf.rest) (quote_char q hf.quote) rest))

attr_clean_head : (room tag place : ℕ) (before : List Attr) (text : List ℕ) (f : ScanFault) (r : Result (ℕ × ℕ) ScanFault) → head_at tag place text ≡ r → is_open f.what ≡ true → attr_at room tag before place text ≡ Err f → are_chars text ≡ true
attr_clean_head room tag place before text f (Err g) h o e = head_clean tag place text f o (h ∙ ap err (err_same (attr_at room tag before place text) g f (attr_head_fault room tag place before text g h) e))
attr_clean_head zero tag place before text f (Ok (n, q)) h o e = absurd (fault_shut (fault (place + 1) TooManyAttributes) f refl (err_same (attr_at 0 tag before place text) (fault (place + 1) TooManyAttributes) f (attr_many tag place n q before text h) e) o)
attr_clean_head (suc room) tag place before text f (Ok (n, q)) h o e = attr_clean_value room tag place n q before text f (has_name (take n text) before) (value_end tag q (place + n + 3) (drop (n + 2) text)) h refl refl o e

attr_clean : (room tag place : ℕ) (before : List Attr) (text : List ℕ) (f : ScanFault) → is_open f.what ≡ true → attr_at room tag before place text ≡ Err f → are_chars text ≡ true
attr_clean room tag place before text f o e = attr_clean_head room tag place before text f (head_at tag place text) refl o e

attr_chars : (a : Attr) → is_attr a ≡ true → are_chars (attr_text a) ≡ true
attr_chars a e =
    let p = and_left (is_attr_name a.name && (a.quote == 34 || a.quote == 39)) (is_run a.quote a.value) e in
    let quote = quote_char a.quote (and_right (is_attr_name a.name) (a.quote == 34 || a.quote == 39) p) in
    let q1 : are_chars (a.quote ∷ []) ≡ true = and_both (not (is_barred a.quote)) true quote refl in
    let value : are_chars (61 ∷ a.quote ∷ a.value) ≡ true = and_both (not (is_barred 61)) (are_chars (a.quote ∷ a.value)) equals_char (and_both (not (is_barred a.quote)) (are_chars a.value) quote (run_chars a.quote a.value (and_right (is_attr_name a.name && (a.quote == 34 || a.quote == 39)) (is_run a.quote a.value) e))) in
    chars_append (32 ∷ a.name ++ 61 ∷ a.quote ∷ a.value) (a.quote ∷ []) (chars_append (32 ∷ a.name) (61 ∷ a.quote ∷ a.value) (chars_append (32 ∷ []) a.name ascii_chars.4 (attr_name_chars a.name (and_left (is_attr_name a.name) (a.quote == 34 || a.quote == 39) p))) value) q1

pub attrs_chars : (attrs : List Attr) → list_all is_attr attrs ≡ true → are_chars (flat_map attr_text attrs) ≡ true
attrs_chars [] e = refl
attrs_chars (a ∷ attrs) e = chars_append (attr_text a) (flat_map attr_text attrs) (attr_chars a (and_left (is_attr a) (list_all is_attr attrs) e)) (attrs_chars attrs (and_right (is_attr a) (list_all is_attr attrs) e))

space_first : (text : List ℕ) → slice_index text 0 ≡ 32 → text ≡ 32 ∷ drop 1 text
space_first [] e = absurd cc
space_first (b ∷ bs) e = ap (λ (x : ℕ). x ∷ bs) e

spaced : (text : List ℕ) → slice_index text 0 ≡ 32 → are_chars (drop 1 text) ≡ true → are_chars text ≡ true
spaced text s e = ap are_chars (space_first text s) ∙ chars_append (32 ∷ []) (drop 1 text) ascii_chars.4 e

abbrev AttrsClean : ℕ → ℕ → ScanFault → Type 0
AttrsClean room tag f = (before : List Attr) (at : ℕ) (text : List ℕ) → attrs_at room tag before at text ≡ Err f → are_chars text ≡ true

attrs_clean_by : (room tag : ℕ) (f : ScanFault) (r : Result (Attr × ℕ) ScanFault) → is_open f.what ≡ true → AttrsClean room tag f → (before : List Attr) (at : ℕ) (text : List ℕ) → slice_index text 0 ≡ 32 → attr_at (suc room) tag before at (drop 1 text) ≡ r → attrs_at (suc room) tag before at text ≡ Err f → are_chars text ≡ true
attrs_clean_by room tag f (Err g) o later before at text s r e = spaced text s (attr_clean (suc room) tag at before (drop 1 text) f o (r ∙ ap err (err_same (attrs_at (suc room) tag before at text) g f (attrs_fault (suc room) tag at before text g s r) e)))
attrs_clean_by room tag f (Ok (a, x)) o later before at text s r e =
    let found = attr_found (suc room) tag at before (drop 1 text) a x r in
    let whole : text ≡ attr_text a ++ found.rest = space_first text s ∙ ap (λ (l : List ℕ). 32 ∷ l) found.text_is ∙ sym (attr_regrouped a found.rest) in
    let len : x - at ≡ length (attr_text a) = omega (arith, found.to_is) in
    let left : drop (x - at) text ≡ found.rest = ap (λ (k : ℕ). drop k text) len ∙ ap (drop (length (attr_text a))) whole ∙ drop-append_seam (attr_text a) found.rest in
    let on = later (before ++ a ∷ []) x (drop (x - at) text) (sym (attrs_more room tag at x before text a s r) ∙ e) in
    ap are_chars whole ∙ chars_append (attr_text a) found.rest (attr_chars a found.allowed) (ap are_chars (sym left) ∙ on)

attrs_clean_none : (tag : ℕ) (f : ScanFault) (r : Result (Attr × ℕ) ScanFault) → is_open f.what ≡ true → (before : List Attr) (at : ℕ) (text : List ℕ) → slice_index text 0 ≡ 32 → attr_at 0 tag before at (drop 1 text) ≡ r → attrs_at 0 tag before at text ≡ Err f → are_chars text ≡ true
attrs_clean_none tag f (Err g) o before at text s r e = spaced text s (attr_clean 0 tag at before (drop 1 text) f o (r ∙ ap err (err_same (attrs_at 0 tag before at text) g f (attrs_fault 0 tag at before text g s r) e)))
attrs_clean_none tag f (Ok (a, x)) o before at text s r e = let found = attr_found 0 tag at before (drop 1 text) a x r in absurd (omega (arith, found.some))

not_space : (n : ℕ) → (n == 32) ≡ false → n ≡ 32 → ⊥
not_space n e f = both (n == 32) e (eq-eqb n 32 f)

attrs_clean : (room tag : ℕ) (f : ScanFault) → is_open f.what ≡ true → AttrsClean room tag f
attrs_clean zero tag f o before at text e =
    elim (cases_Bool (slice_index text 0 == 32)) [
      | inl space ↦ attrs_clean_none tag f (attr_at 0 tag before at (drop 1 text)) o before at text (eqb-true (slice_index text 0) 32 space) refl e
      | inr other ↦ absurd (not_ok (attrs_at 0 tag before at text) f (before, at) e (attrs_stop 0 tag at before text (λ h. not_space (slice_index text 0) other h)))
    ]
attrs_clean (suc room) tag f o before at text e =
    elim (cases_Bool (slice_index text 0 == 32)) [
      | inl space ↦ attrs_clean_by room tag f (attr_at (suc room) tag before at (drop 1 text)) o (λ b x t h. attrs_clean room tag f o b x t h) before at text (eqb-true (slice_index text 0) 32 space) refl e
      | inr other ↦ absurd (not_ok (attrs_at (suc room) tag before at text) f (before, at) e (attrs_stop (suc room) tag at before text (λ h. not_space (slice_index text 0) other h)))
    ]

-- ---- tags

close_clean : (tag at : ℕ) (void : Bool) (text : List ℕ) (f : ScanFault) → is_open f.what ≡ true → tag_close tag void at text ≡ Err f → are_chars text ≡ true
close_clean tag at void [] f o e = refl
close_clean tag at void (c ∷ []) f o e =
    elim (cases_Bool (c == 62)) [
      | inl close ↦ absurd (not_ok (tag_close tag void at (c ∷ [])) f (false, at + 1) e (rw close refl))
      | inr other ↦
          elim (cases_Bool (c == 47 && void)) [
            | inl slash ↦ ap (λ (x : ℕ). are_chars (x ∷ [])) (eqb-true c 47 (and_left (c == 47) void slash)) ∙ ascii_chars.1
            | inr neither ↦ absurd (refused_shut at c (fault at BadAttribute) f refl (err_same (tag_close tag void at (c ∷ [])) (byte_fault at c (fault at BadAttribute)) f (rw (other, neither) refl) e) o)
          ]
    ]
close_clean tag at void (c ∷ d ∷ rest) f o e =
    elim (cases_Bool (c == 62)) [
      | inl close ↦ absurd (not_ok (tag_close tag void at (c ∷ (d ∷ rest))) f (false, at + 1) e (rw close refl))
      | inr other ↦
          elim (cases_Bool (c == 47 && void)) [
            | inl slash ↦
                elim (cases_Bool (d == 62)) [
                  | inl close ↦ absurd (not_ok (tag_close tag void at (c ∷ (d ∷ rest))) f (true, at + 2) e (rw (other, slash, close) refl))
                  | inr bad ↦ absurd (refused_shut (at + 1) d (fault at BadAttribute) f refl (err_same (tag_close tag void at (c ∷ (d ∷ rest))) (byte_fault (at + 1) d (fault at BadAttribute)) f (rw (other, slash, bad) refl) e) o)
                ]
            | inr neither ↦ absurd (refused_shut at c (fault at BadAttribute) f refl (err_same (tag_close tag void at (c ∷ (d ∷ rest))) (byte_fault at c (fault at BadAttribute)) f (rw (other, neither) refl) e) o)
          ]
    ]

after_clean_close : (tag at x : ℕ) (name text : List ℕ) (attrs : List Attr) (f : ScanFault) (c : Result (Bool × ℕ) ScanFault) → is_open f.what ≡ true → name_ends tag name at text ≡ Ok tt → attrs_at 256 tag [] at text ≡ Ok (attrs, x) → tag_close tag (is_void name) x (drop (x - at) text) ≡ c → start_after tag name at text ≡ Err f → are_chars text ≡ true
after_clean_close tag at x name text attrs f (Ok (slash, end)) o n a c e = absurd (not_ok (start_after tag name at text) f (Start name attrs slash, end) e (after_is tag at x end name text attrs slash n a c))
after_clean_close tag at x name text attrs f (Err g) o n a c e =
    let same = err_same (start_after tag name at text) g f (after_fails_close tag at x name text attrs g n a c) e in
    let found = attrs_found 256 tag at [] text attrs x a in
    let len : x - at ≡ length (flat_map attr_text found.more) = omega (arith, found.to_is) in
    let left : drop (x - at) text ≡ found.rest = ap (λ (k : ℕ). drop k text) len ∙ ap (drop (length (flat_map attr_text found.more))) found.text_is ∙ drop-append_seam (flat_map attr_text found.more) found.rest in
    let rest = close_clean tag x (is_void name) (drop (x - at) text) f o (c ∙ ap err same) in
    ap are_chars found.text_is ∙ chars_append (flat_map attr_text found.more) found.rest (attrs_chars found.more found.allowed) (ap are_chars (sym left) ∙ rest)

after_clean_attrs : (tag at : ℕ) (name text : List ℕ) (f : ScanFault) (a : Result (List Attr × ℕ) ScanFault) → is_open f.what ≡ true → name_ends tag name at text ≡ Ok tt → attrs_at 256 tag [] at text ≡ a → start_after tag name at text ≡ Err f → are_chars text ≡ true
after_clean_attrs tag at name text f (Err g) o n a e = attrs_clean 256 tag f o [] at text (a ∙ ap err (err_same (start_after tag name at text) g f (after_fails_attrs tag at name text g n a) e))
after_clean_attrs tag at name text f (Ok (attrs, x)) o n a e = after_clean_close tag at x name text attrs f (tag_close tag (is_void name) x (drop (x - at) text)) o n a refl e

ends_clean : (tag at : ℕ) (name text : List ℕ) (f : ScanFault) → is_open f.what ≡ true → name_ends tag name at text ≡ Err f → are_chars text ≡ true
ends_clean tag at name [] f o e = refl
ends_clean tag at name (c ∷ rest) f o e =
    elim (cases_Bool (is_plaintext name)) [
      | inl plain ↦ absurd (refused_shut at c (fault tag BadTag) f refl (err_same (name_ends tag name at (c ∷ rest)) (byte_fault at c (fault tag BadTag)) f (rw plain refl) e) o)
      | inr other ↦ absurd (not_ok (name_ends tag name at (c ∷ rest)) f tt e (rw other refl))
    ]

after_clean_name : (tag at : ℕ) (name text : List ℕ) (f : ScanFault) (n : Result (Unit {0}) ScanFault) → is_open f.what ≡ true → name_ends tag name at text ≡ n → start_after tag name at text ≡ Err f → are_chars text ≡ true
after_clean_name tag at name text f (Err g) o n e = ends_clean tag at name text f o (n ∙ ap err (err_same (start_after tag name at text) g f (after_fails tag at name text g n) e))
after_clean_name tag at name text f (Ok tt) o n e = after_clean_attrs tag at name text f (attrs_at 256 tag [] at text) o n refl e

start_clean : (tag : ℕ) (text : List ℕ) (f : ScanFault) → is_open f.what ≡ true → start_at tag text ≡ Err f → are_chars text ≡ true
start_clean tag text f o e =
    let s = split is_name_byte text in
    let at : ℕ = tag + 1 + length s.prefix in
    let clean = after_clean_name tag at s.prefix s.suffix f (name_ends tag s.prefix at s.suffix) o refl (sym (start_is tag text ∙ named_as (start_after tag) (tag + 1) text s) ∙ e) in
    ap are_chars s.text_is ∙ chars_append s.prefix s.suffix (name_chars s.prefix s.all) clean

end_after_clean : (tag at : ℕ) (name text : List ℕ) (f : ScanFault) → is_open f.what ≡ true → end_after tag name at text ≡ Err f → are_chars text ≡ true
end_after_clean tag at name [] f o e = refl
end_after_clean tag at name (c ∷ cs) f o e =
    elim (cases_Bool (c == 62 && not (is_plaintext name))) [
      | inl good ↦ absurd (not_ok (end_after tag name at (c ∷ cs)) f (End name, at + 1) e (rw good refl))
      | inr bad ↦ absurd (refused_shut at c (fault tag BadTag) f refl (err_same (end_after tag name at (c ∷ cs)) (byte_fault at c (fault tag BadTag)) f (rw bad refl) e) o)
    ]

end_clean : (tag : ℕ) (text : List ℕ) (f : ScanFault) → is_open f.what ≡ true → end_at tag text ≡ Err f → are_chars text ≡ true
unfolding end_at
end_clean tag [] f o e = refl
end_clean tag (c ∷ cs) f o e =
    elim (cases_Bool (is_letter c)) [
      | inl letter ↦
          let h : with_name (end_after tag) (tag + 2) (c ∷ cs) ≡ Err f = rw letter at e in
          let s = split is_name_byte (c ∷ cs) in
          let clean = end_after_clean tag (tag + 2 + length s.prefix) s.prefix s.suffix f o (sym (named_as (end_after tag) (tag + 2) (c ∷ cs) s) ∙ h) in
          ap are_chars s.text_is ∙ chars_append s.prefix s.suffix (name_chars s.prefix s.all) clean
      | inr other ↦
          let h : err {A = Token × ℕ} (byte_fault (tag + 2) c (fault tag BadTag)) ≡ Err f = rw other at e in
          absurd (refused_shut (tag + 2) c (fault tag BadTag) f refl (err_same (err {A = Token × ℕ} (byte_fault (tag + 2) c (fault tag BadTag))) (byte_fault (tag + 2) c (fault tag BadTag)) f refl h) o)
    ]

comment_clean_by : (tag : ℕ) (text : List ℕ) (f : ScanFault) (r : Result ℕ ScanFault) → is_open f.what ≡ true → verbatim_end comment_close (fault tag UnclosedComment) (tag + 4) text ≡ r → comment_at tag text ≡ Err f → are_chars text ≡ true
comment_clean_by tag text f (Ok x) o r e = absurd (not_ok (comment_at tag text) f (Comment (take (x - (tag + 4)) text), x + 3) e (comment_is tag x text r))
comment_clean_by tag text f (Err g) o r e = verbatim_clean comment_close (fault tag UnclosedComment) (tag + 4) text f o (r ∙ ap err (err_same (comment_at tag text) g f (comment_fails tag text g r) e))

dashed : (text : List ℕ) (d : ℕ) → d ≡ 45 → are_chars text ≡ true → are_chars (d ∷ text) ≡ true
dashed text d e h = ap (λ (x : ℕ). are_chars (x ∷ text)) e ∙ chars_append (45 ∷ []) text ascii_chars.8 h

dash_clean : (tag : ℕ) (text : List ℕ) (f : ScanFault) → is_open f.what ≡ true → dash_at tag text ≡ Err f → are_chars text ≡ true
unfolding dash_at
dash_clean tag [] f o e = refl
dash_clean tag (d ∷ ds) f o e =
    elim (cases_Bool (d == 45)) [
      | inl dash ↦
          let h : comment_at tag ds ≡ Err f = rw dash at e in
          dashed ds d (eqb-true d 45 dash) (comment_clean_by tag ds f (verbatim_end comment_close (fault tag UnclosedComment) (tag + 4) ds) o refl h)
      | inr other ↦
          let h : err {A = Token × ℕ} (byte_fault (tag + 3) d (fault tag BadTag)) ≡ Err f = rw other at e in
          absurd (refused_shut (tag + 3) d (fault tag BadTag) f refl (err_same (err {A = Token × ℕ} (byte_fault (tag + 3) d (fault tag BadTag))) (byte_fault (tag + 3) d (fault tag BadTag)) f refl h) o)
    ]

markup_shut : (tag : ℕ) (b : Bool) → is_open (fault tag (cond b Doctype BadTag)).what ≡ false
markup_shut tag true = refl
markup_shut tag false = refl

markup_clean : (tag : ℕ) (text : List ℕ) (f : ScanFault) → is_open f.what ≡ true → markup_at tag text ≡ Err f → are_chars text ≡ true
unfolding markup_at
markup_clean tag [] f o e = refl
markup_clean tag (c ∷ cs) f o e =
    elim (cases_Bool (c == 45)) [
      | inl dash ↦ let h : dash_at tag cs ≡ Err f = rw dash at e in dashed cs c (eqb-true c 45 dash) (dash_clean tag cs f o h)
      | inr other ↦
          let g : ScanFault = fault tag (cond (is_doctype (c ∷ cs)) Doctype BadTag) in
          absurd (refused_shut (tag + 2) c g f (markup_shut tag (is_doctype (c ∷ cs))) (err_same (markup_at tag (c ∷ cs)) (byte_fault (tag + 2) c g) f (rw other refl) e) o)
    ]

pub with_byte : (text : List ℕ) (c k : ℕ) → c ≡ k → are_chars (k ∷ []) ≡ true → are_chars text ≡ true → are_chars (c ∷ text) ≡ true
with_byte text c k e one h = ap (λ (x : ℕ). are_chars (x ∷ text)) e ∙ chars_append (k ∷ []) text one h

bang_char : are_chars (33 ∷ []) ≡ true
unfolding is_barred
bang_char = refl

pub tag_clean : (tag : ℕ) (text : List ℕ) (f : ScanFault) → is_open f.what ≡ true → tag_at tag text ≡ Err f → are_chars text ≡ true
unfolding tag_at
tag_clean tag [] f o e = refl
tag_clean tag (c ∷ cs) f o e =
    elim (cases_Bool (is_letter c)) [
      | inl letter ↦ let h : start_at tag (c ∷ cs) ≡ Err f = rw letter at e in start_clean tag (c ∷ cs) f o h
      | inr no_letter ↦
          elim (cases_Bool (c == 47)) [
            | inl slash ↦ let h : end_at tag cs ≡ Err f = rw (no_letter, slash) at e in with_byte cs c 47 (eqb-true c 47 slash) ascii_chars.1 (end_clean tag cs f o h)
            | inr no_slash ↦
                elim (cases_Bool (c == 33)) [
                  | inl bang ↦ let h : markup_at tag cs ≡ Err f = rw (no_letter, no_slash, bang) at e in with_byte cs c 33 (eqb-true c 33 bang) bang_char (markup_clean tag cs f o h)
                  | inr no_bang ↦
                      let h : err {A = Token × ℕ} (byte_fault (tag + 1) c (fault tag BadTag)) ≡ Err f = rw (no_letter, no_slash, no_bang) at e in
                      absurd (refused_shut (tag + 1) c (fault tag BadTag) f refl (err_same (err {A = Token × ℕ} (byte_fault (tag + 1) c (fault tag BadTag))) (byte_fault (tag + 1) c (fault tag BadTag)) f refl h) o)
                ]
          ]
    ]
