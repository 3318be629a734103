-- A fault that isn't one of the text's end stands: attributes and tags.
use Rattle.std.proofs.Common.{◌≡◌, ℕ, zero, suc, ◌+◌, ◌-◌, ◌<◌, ◌≤◌, Bool, true, false, cond, not, ◌&&◌, List, [], ◌∷◌, ◌++◌, length, drop, take, map, Some, Result, Ok, Err, refl, sym, ap, ◌∙◌, arith, eq-eqb, eqb-true, append_assoc, inl, inr}
use Rattle.std.specs.Prelude.{◌==◌, slice_index, codes}
use Rattle.std.proofs.lemmas.List.{length-append, take_at, drop-append-le, take-append-le, length-take, length-map, map-append}
use Rattle.std.proofs.Math.Seq.{drop-append_seam, take-append-add}
use Rattle.std.proofs.lemmas.Bool.{cases_lt, cases_Bool}
use Rattle.std.proofs.lemmas.Slice.Eq.{bytes_eq-Decides}
use Rattle.std.specs.Char.{to_ascii_lowercase}
use Rattle.std.specs.List.{prefix_len, flat_map, list_all}
use Rattle.model_spelling.specs.declared.scan_fault.ScanFault.{ScanFault}
use Rattle.model_spelling.specs.declared.scan_fault.ScanWhat.TheVariants.{BadTag, BadAttribute, Doctype, UnclosedComment, UnclosedTag, TooManyAttributes, DuplicateAttribute}
use Rattle.model_spelling.specs.Grammar.{is_barred, is_letter, is_name_byte, name_same, begins_with, has_name, Attr, attr_text, Token, Start, Comment, comment_close}
use Rattle.ve_kinds.specs.Tags.{is_void}
use Rattle.model_spelling.specs.Reading.{◌>>=◌, fault, byte_fault, value_end, verbatim_end, name_len_at, quote_at, head_at, attr_at, attrs_at, name_ends, tag_close, start_after, with_name, start_at, end_after, end_at, comment_at, is_doctype, dash_at, markup_at, tag_at}
use Rattle.model_spelling.specs.Standing.{is_doctype_prefix, stands}
use Rattle.model_spelling.proofs.AttrReading.{prefix_all, attr_head_fault, attr_many, attr_twice, attr_value_fault, attr_whole, attrs_stop, attrs_fault, attrs_more}
use Rattle.model_spelling.proofs.TokenRuns.{not_false, begins_from_parts}
use Rattle.model_spelling.proofs.Stays.{err, err_same, run_stays, verbatim_stays}
use Rattle.model_spelling.proofs.Only.{NoSpace, both, attr_regrouped, attr_only, attrs_only, EndsName, head_only, named}
use Rattle.model_spelling.proofs.FoundTokens.{after_fails, after_fails_attrs, after_fails_close, after_is, start_is, comment_fails, comment_is}
use Rattle.model_spelling.proofs.Found.{not_ok, split, Stops, named_as, pair_of, quoted, head_as, HeadFound, head_found, AttrFound, attr_found, AttrsFound, attrs_found}

abbrev pub NotOpen : ℕ → ScanFault → Type 0
NotOpen tag f = f ≡ fault tag UnclosedTag → ⊥

abbrev pub NotComment : ℕ → ScanFault → Type 0
NotComment tag f = f ≡ fault tag UnclosedComment → ⊥

-- ---- attributes

quote_stays : (tag place at k c : ℕ) (cs more : List ℕ) (f : ScanFault) → NotOpen tag f → (quote_at tag place at (c ∷ cs) >>= pair_of k) ≡ Err f → (quote_at tag place at (c ∷ (cs ++ more)) >>= pair_of k) ≡ Err f
quote_stays tag place at k c (q ∷ rest) more f ne e = e
quote_stays tag place at k c [] more f ne e =
    elim (cases_Bool (c == 61)) [
      | inl equals ↦ absurd (ne (sym (err_same (quote_at tag place at (c ∷ []) >>= pair_of k) (fault tag UnclosedTag) f (rw equals refl) e)))
      | inr other ↦
          let is : (quote_at tag place at (c ∷ []) >>= pair_of k) ≡ Err (byte_fault at c (fault place BadAttribute)) = rw other refl in
          let same = err_same (quote_at tag place at (c ∷ []) >>= pair_of k) (byte_fault at c (fault place BadAttribute)) f is e in
          rw other (ap err same)
    ]

no_name_same : (tag place c : ℕ) (cs more : List ℕ) → (name_len_at tag place 0 (c ∷ cs) >>= quoted tag place (c ∷ cs)) ≡ (name_len_at tag place 0 (c ∷ (cs ++ more)) >>= quoted tag place (c ∷ (cs ++ more)))
no_name_same tag place c cs more = refl

longer : (text prefix suffix more : List ℕ) → text ≡ prefix ++ suffix → text ++ more ≡ prefix ++ (suffix ++ more)
longer text prefix suffix more e = ap (λ (l : List ℕ). l ++ more) e ∙ append_assoc prefix suffix more

head_stays_by : (tag place : ℕ) (text prefix suffix more : List ℕ) (f : ScanFault) → text ≡ prefix ++ suffix → prefix_len is_name_byte text ≡ length prefix → list_all is_name_byte prefix ≡ true → Stops is_name_byte suffix → NotOpen tag f → head_at tag place text ≡ Err f → head_at tag place (text ++ more) ≡ Err f
head_stays_by tag place text [] [] more f t len all stops ne e =
    let none : head_at tag place text ≡ Err (fault tag UnclosedTag) = head_as tag place 0 text len ∙ ap (λ (l : List ℕ). name_len_at tag place 0 l >>= quoted tag place l) t in
    absurd (ne (sym (err_same (head_at tag place text) (fault tag UnclosedTag) f none e)))
head_stays_by tag place text (b ∷ bs) [] more f t len all stops ne e =
    let left : drop (length (b ∷ bs)) text ≡ [] = ap (drop (length (b ∷ bs))) t ∙ drop-append_seam (b ∷ bs) [] in
    let none : head_at tag place text ≡ Err (fault tag UnclosedTag) = head_as tag place (length (b ∷ bs)) text len ∙ ap (λ (l : List ℕ). quote_at tag place (place + 1 + length (b ∷ bs)) l >>= pair_of (length (b ∷ bs))) left in
    absurd (ne (sym (err_same (head_at tag place text) (fault tag UnclosedTag) f none e)))
head_stays_by tag place text [] (c ∷ cs) more f t len all stops ne e =
    let len2 : prefix_len is_name_byte (text ++ more) ≡ 0 = ap (prefix_len is_name_byte) (longer text [] (c ∷ cs) more t) ∙ prefix_all is_name_byte [] (cs ++ more) c refl stops in
    head_as tag place 0 (text ++ more) len2
    ∙ ap (λ (l : List ℕ). name_len_at tag place 0 l >>= quoted tag place l) (longer text [] (c ∷ cs) more t)
    ∙ sym (no_name_same tag place c cs more)
    ∙ ap (λ (l : List ℕ). name_len_at tag place 0 l >>= quoted tag place l) (sym t)
    ∙ sym (head_as tag place 0 text len) ∙ e
head_stays_by tag place text (b ∷ bs) (c ∷ cs) more f t len all stops ne e =
    let n : ℕ = length (b ∷ bs) in
    let at : ℕ = place + 1 + n in
    let len2 : prefix_len is_name_byte (text ++ more) ≡ n = ap (prefix_len is_name_byte) (longer text (b ∷ bs) (c ∷ cs) more t) ∙ prefix_all is_name_byte (b ∷ bs) (cs ++ more) c all stops in
    let left : drop n text ≡ c ∷ cs = ap (drop n) t ∙ drop-append_seam (b ∷ bs) (c ∷ cs) in
    let left2 : drop n (text ++ more) ≡ c ∷ (cs ++ more) = ap (drop n) (longer text (b ∷ bs) (c ∷ cs) more t) ∙ drop-append_seam (b ∷ bs) (c ∷ (cs ++ more)) in
    let read : (quote_at tag place at (c ∷ cs) >>= pair_of n) ≡ Err f = ap (λ (l : List ℕ). quote_at tag place at l >>= pair_of n) (sym left) ∙ sym (head_as tag place n text len) ∙ e in
    head_as tag place n (text ++ more) len2 ∙ ap (λ (l : List ℕ). quote_at tag place at l >>= pair_of n) left2 ∙ quote_stays tag place at n c cs more f ne read

head_stays : (tag place : ℕ) (text more : List ℕ) (f : ScanFault) → NotOpen tag f → head_at tag place text ≡ Err f → head_at tag place (text ++ more) ≡ Err f
head_stays tag place text more f ne e =
    let s = split is_name_byte text in
    head_stays_by tag place text s.prefix s.suffix more f s.text_is s.len s.all s.stops ne e

-- what a head is, it stays
head_more : (tag place n q : ℕ) (text more : List ℕ) (h : HeadFound n q text) → head_at tag place (text ++ more) ≡ Ok (n, q)
head_more tag place n q text more h =
    ap (head_at tag place) (longer text h.name (61 ∷ (q ∷ h.rest)) more h.text_is) ∙ head_only tag place q h.name (h.rest ++ more) h.named h.quote ∙ ap (λ (k : ℕ). Ok (k, q)) h.len

name_more : (n q : ℕ) (text more : List ℕ) (h : HeadFound n q text) → take n (text ++ more) ≡ take n text
name_more n q text more h =
    ap (take n) (longer text h.name (61 ∷ (q ∷ h.rest)) more h.text_is) ∙ take_at h.name (61 ∷ (q ∷ (h.rest ++ more))) n h.len ∙ sym (ap (take n) h.text_is ∙ take_at h.name (61 ∷ (q ∷ h.rest)) n h.len)

value_more : (n q : ℕ) (text more : List ℕ) (h : HeadFound n q text) → drop (n + 2) (text ++ more) ≡ drop (n + 2) text ++ more
value_more n q text more h =
    drop-append-le (n + 2) text more (omega (arith, h.len, ap length h.text_is, length-append h.name (61 ∷ (q ∷ h.rest))))

-- some text that has these bytes from this position on
abbrev pad : ℕ → List ℕ → List ℕ
pad zero text = text
pad (suc n) text = 0 ∷ pad n text

padded : (n : ℕ) (text : List ℕ) → drop n (pad n text) ≡ text
padded zero text = refl
padded (suc n) text = padded n text

attr_stays_value : (room tag place n q : ℕ) (before : List Attr) (text more : List ℕ) (f : ScanFault) (d : Bool) (v : Result ℕ ScanFault) → head_at tag place text ≡ Ok (n, q) → has_name (take n text) before ≡ d → value_end tag q (place + n + 3) (drop (n + 2) text) ≡ v
    → NotOpen tag f → attr_at (suc room) tag before place text ≡ Err f → attr_at (suc room) tag before place (text ++ more) ≡ Err f
attr_stays_value room tag place n q before text more f true v h d w ne e =
    let hf = head_found tag place n q text h in
    let same = err_same (attr_at (suc room) tag before place text) (fault (place + 1) DuplicateAttribute) f (attr_twice room tag place n q before text h d) e in
    attr_twice room tag place n q before (text ++ more) (head_more tag place n q text more hf) (ap (λ (l : List ℕ). has_name l before) (name_more n q text more hf) ∙ d) ∙ ap err same
attr_stays_value room tag place n q before text more f false (Ok x) h d w ne e = absurd (not_ok (attr_at (suc room) tag before place text) f (record { name = take n text; value = take (x - (place + n + 3)) (drop (n + 2) text); quote = q }, x + 1) e (attr_whole room tag place n q x before text h d w))
attr_stays_value room tag place n q before text more f false (Err g) h d w ne e =
    let hf = head_found tag place n q text h in
    let same = err_same (attr_at (suc room) tag before place text) g f (attr_value_fault room tag place n q before text g h d w) e in
    let stays = run_stays (Some (fault tag UnclosedTag)) q (place + n + 3) (pad (place + n + 3) (drop (n + 2) text)) (drop (n + 2) text) more f (padded (place + n + 3) (drop (n + 2) text)) ne (w ∙ ap err same) in
    attr_value_fault room tag place n q before (text ++ more) f (head_more tag place n q text more hf) (ap (λ (l : List ℕ). has_name l before) (name_more n q text more hf) ∙ d) (ap (value_end tag q (place + n + 3)) (value_more n q text more hf) ∙ stays)

attr_stays_head : (room tag place : ℕ) (before : List Attr) (text more : List ℕ) (f : ScanFault) (h : Result (ℕ × ℕ) ScanFault) → head_at tag place text ≡ h → NotOpen tag f → attr_at room tag before place text ≡ Err f → attr_at room tag before place (text ++ more) ≡ Err f
attr_stays_head room tag place before text more f (Err g) h ne e =
    let same = err_same (attr_at room tag before place text) g f (attr_head_fault room tag place before text g h) e in
    attr_head_fault room tag place before (text ++ more) f (head_stays tag place text more f ne (h ∙ ap err same))
attr_stays_head zero tag place before text more f (Ok (n, q)) h ne e =
    let same = err_same (attr_at 0 tag before place text) (fault (place + 1) TooManyAttributes) f (attr_many tag place n q before text h) e in
    attr_many tag place n q before (text ++ more) (head_more tag place n q text more (head_found tag place n q text h)) ∙ ap err same
attr_stays_head (suc room) tag place before text more f (Ok (n, q)) h ne e =
    attr_stays_value room tag place n q before text more f (has_name (take n text) before) (value_end tag q (place + n + 3) (drop (n + 2) text)) h refl refl ne e

attr_stays : (room tag place : ℕ) (before : List Attr) (text more : List ℕ) (f : ScanFault) → NotOpen tag f → attr_at room tag before place text ≡ Err f → attr_at room tag before place (text ++ more) ≡ Err f
attr_stays room tag place before text more f ne e = attr_stays_head room tag place before text more f (head_at tag place text) refl ne e

regrouped : (a : Attr) (rest more : List ℕ) → (a.name ++ (61 ∷ (a.quote ∷ (a.value ++ (a.quote ∷ rest))))) ++ more ≡ a.name ++ (61 ∷ (a.quote ∷ (a.value ++ (a.quote ∷ (rest ++ more)))))
regrouped a rest more = simp append_assoc

attr_more : (room tag place : ℕ) (before : List Attr) (text more : List ℕ) (a : Attr) (x : ℕ) (f : AttrFound (suc room) place before text a x) → attr_at (suc room) tag before place (text ++ more) ≡ Ok (a, x)
attr_more room tag place before text more a x f =
    let whole : text ++ more ≡ a.name ++ (61 ∷ (a.quote ∷ (a.value ++ (a.quote ∷ (f.rest ++ more))))) = ap (λ (l : List ℕ). l ++ more) f.text_is ∙ regrouped a f.rest more in
    ap (attr_at (suc room) tag before place) whole ∙ attr_only room tag place before a (f.rest ++ more) f.allowed f.new ∙ ap (λ (k : ℕ). Ok (a, k)) (sym f.to_is)

space_more : (text more : List ℕ) → slice_index text 0 ≡ 32 → slice_index (text ++ more) 0 ≡ 32
space_more [] more e = absurd cc
space_more (b ∷ bs) more e = e

tail_more : (text more : List ℕ) → slice_index text 0 ≡ 32 → drop 1 (text ++ more) ≡ drop 1 text ++ more
tail_more [] more e = absurd cc
tail_more (b ∷ bs) more e = refl

step_len : (room at x : ℕ) (before : List Attr) (text : List ℕ) (a : Attr) → slice_index text 0 ≡ 32 → AttrFound (suc room) at before (drop 1 text) a x → x - at ≤ length text
step_len room at x before [] a s f = absurd cc
step_len room at x before (b ∷ bs) a s f = omega (arith, f.to_is, ap length (ap (λ (l : List ℕ). 32 ∷ l) f.text_is ∙ sym (attr_regrouped a f.rest)), length-append (attr_text a) f.rest)

abbrev AttrsStay : ℕ → ℕ → List ℕ → ScanFault → Type 0
AttrsStay room tag more f = (before : List Attr) (at : ℕ) (text : List ℕ) → attrs_at room tag before at text ≡ Err f → attrs_at room tag before at (text ++ more) ≡ Err f

attrs_fault_stays : (room tag : ℕ) (more : List ℕ) (f g : ScanFault) → NotOpen tag f → (before : List Attr) (at : ℕ) (text : List ℕ) → slice_index text 0 ≡ 32 → attr_at room tag before at (drop 1 text) ≡ Err g → attrs_at room tag before at text ≡ Err f → attrs_at room tag before at (text ++ more) ≡ Err f
attrs_fault_stays room tag more f g ne before at text s r e =
    let same = err_same (attrs_at room tag before at text) g f (attrs_fault room tag at before text g s r) e in
    attrs_fault room tag at before (text ++ more) f (space_more text more s) (ap (attr_at room tag before at) (tail_more text more s) ∙ attr_stays room tag at before (drop 1 text) more f ne (r ∙ ap err same))

attrs_by : (room tag : ℕ) (more : List ℕ) (f : ScanFault) (r : Result (Attr × ℕ) ScanFault) → NotOpen tag f → AttrsStay room tag more f → (before : List Attr) (at : ℕ) (text : List ℕ) → slice_index text 0 ≡ 32 → attr_at (suc room) tag before at (drop 1 text) ≡ r → attrs_at (suc room) tag before at text ≡ Err f → attrs_at (suc room) tag before at (text ++ more) ≡ Err f
attrs_by room tag more f (Err g) ne later before at text s r e = attrs_fault_stays (suc room) tag more f g ne before at text s r e
attrs_by room tag more f (Ok (a, x)) ne later before at text s r e =
    let found = attr_found (suc room) tag at before (drop 1 text) a x r in
    let on = later (before ++ a ∷ []) x (drop (x - at) text) (sym (attrs_more room tag at x before text a s r) ∙ e) in
    attrs_more room tag at x before (text ++ more) a (space_more text more s) (ap (attr_at (suc room) tag before at) (tail_more text more s) ∙ attr_more room tag at before (drop 1 text) more a x found)
    ∙ ap (attrs_at room tag (before ++ a ∷ []) x) (drop-append-le (x - at) text more (step_len room at x before text a s found)) ∙ on

attrs_none : (tag : ℕ) (more : List ℕ) (f : ScanFault) (r : Result (Attr × ℕ) ScanFault) → NotOpen tag f → (before : List Attr) (at : ℕ) (text : List ℕ) → slice_index text 0 ≡ 32 → attr_at 0 tag before at (drop 1 text) ≡ r → attrs_at 0 tag before at text ≡ Err f → attrs_at 0 tag before at (text ++ more) ≡ Err f
attrs_none tag more f (Err g) ne before at text s r e = attrs_fault_stays 0 tag more f g ne before at text s r e
attrs_none tag more f (Ok (a, x)) ne before at text s r e = let found = attr_found 0 tag at before (drop 1 text) a x r in absurd (omega (arith, found.some))

not_space : (n : ℕ) → (n == 32) ≡ false → n ≡ 32 → ⊥
not_space n e f = both (n == 32) e (eq-eqb n 32 f)

attrs_stay : (room tag : ℕ) (more : List ℕ) (f : ScanFault) → NotOpen tag f → AttrsStay room tag more f
attrs_stay zero tag more f ne before at text e =
    elim (cases_Bool (slice_index text 0 == 32)) [
      | inl space ↦ attrs_none tag more f (attr_at 0 tag before at (drop 1 text)) ne before at text (eqb-true (slice_index text 0) 32 space) refl e
      | inr other ↦ absurd (not_ok (attrs_at 0 tag before at text) f (before, at) e (attrs_stop 0 tag at before text (λ h. not_space (slice_index text 0) other h)))
    ]
attrs_stay (suc room) tag more f ne before at text e =
    elim (cases_Bool (slice_index text 0 == 32)) [
      | inl space ↦ attrs_by room tag more f (attr_at (suc room) tag before at (drop 1 text)) ne (λ b x t h. attrs_stay room tag more f ne b x t h) before at text (eqb-true (slice_index text 0) 32 space) refl e
      | inr other ↦ absurd (not_ok (attrs_at (suc room) tag before at text) f (before, at) e (attrs_stop (suc room) tag at before text (λ h. not_space (slice_index text 0) other h)))
    ]

-- ---- start tags

close_stays : (tag at : ℕ) (void : Bool) (text more : List ℕ) (f : ScanFault) → NotOpen tag f → tag_close tag void at text ≡ Err f → (tag_close tag void at (text ++ more) ≡ Err f) × (0 < length text)
close_stays tag at void [] more f ne e = absurd (ne (sym (err_same (tag_close tag void at []) (fault tag UnclosedTag) f refl e)))
close_stays tag at void (c ∷ d ∷ rest) more f ne e = (e, omega arith)
close_stays tag at void (c ∷ []) more f ne e =
    elim (cases_Bool (c == 62)) [
      | inl close ↦ absurd (not_ok (tag_close tag void at (c ∷ [])) f (false, at + 1) e (rw close refl))
      | inr other ↦
          elim (cases_Bool (c == 47 && void)) [
            | inl slash ↦ absurd (ne (sym (err_same (tag_close tag void at (c ∷ [])) (fault tag UnclosedTag) f (rw (other, slash) refl) e)))
            | inr neither ↦
                let is : tag_close tag void at (c ∷ []) ≡ Err (byte_fault at c (fault at BadAttribute)) = rw (other, neither) refl in
                let same = err_same (tag_close tag void at (c ∷ [])) (byte_fault at c (fault at BadAttribute)) f is e in
                (rw (other, neither) (ap err same), omega arith)
          ]
    ]

name_stays : (tag at : ℕ) (name text more : List ℕ) → 0 < length text → name_ends tag name at (text ++ more) ≡ name_ends tag name at text
name_stays tag at name [] more lt = absurd (omega arith)
name_stays tag at name (c ∷ rest) more lt = refl

space_after : (rest more : List ℕ) → 0 < length rest → NoSpace rest → NoSpace (rest ++ more)
space_after [] more lt n = absurd (omega arith)
space_after (b ∷ rest) more lt n = n

attrs_same : (tag at : ℕ) (text more : List ℕ) (attrs : List Attr) (x : ℕ) (f : AttrsFound 256 at [] text attrs x) → 0 < length f.rest → attrs_at 256 tag [] at (text ++ more) ≡ Ok (attrs, x)
attrs_same tag at text more attrs x f lt =
    ap (attrs_at 256 tag [] at) (longer text (flat_map attr_text f.more) f.rest more f.text_is)
    ∙ attrs_only f.more [] 256 tag at (f.rest ++ more) f.allowed f.apart f.few (space_after f.rest more lt f.no_space)
    ∙ (λ i. Ok (sym f.attrs_are i, sym f.to_is i))

after_stays_close : (tag at x : ℕ) (name text more : List ℕ) (attrs : List Attr) (f : ScanFault) (c : Result (Bool × ℕ) ScanFault) → 0 < length text → NotOpen tag f → name_ends tag name at text ≡ Ok tt → attrs_at 256 tag [] at text ≡ Ok (attrs, x) → tag_close tag (is_void name) x (drop (x - at) text) ≡ c
    → start_after tag name at text ≡ Err f → start_after tag name at (text ++ more) ≡ Err f
after_stays_close tag at x name text more attrs f (Ok (slash, end)) lt ne n a c e = absurd (not_ok (start_after tag name at text) f (Start name attrs slash, end) e (after_is tag at x end name text attrs slash n a c))
after_stays_close tag at x name text more attrs f (Err g) lt ne n a c e =
    let same = err_same (start_after tag name at text) g f (after_fails_close tag at x name text attrs g n a c) e in
    let found = attrs_found 256 tag at [] text attrs x a in
    let len : x - at ≡ length (flat_map attr_text found.more) = omega (arith, found.to_is) in
    let left : drop (x - at) text ≡ found.rest = ap (λ (k : ℕ). drop k text) len ∙ ap (drop (length (flat_map attr_text found.more))) found.text_is ∙ drop-append_seam (flat_map attr_text found.more) found.rest in
    let bound : x - at ≤ length text = omega (arith, len, ap length found.text_is, length-append (flat_map attr_text found.more) found.rest) in
    let close = close_stays tag x (is_void name) (drop (x - at) text) more f ne (c ∙ ap err same) in
    after_fails_close tag at x name (text ++ more) attrs f (name_stays tag at name text more lt ∙ n) (attrs_same tag at text more attrs x found (omega (arith, close.1, ap length left)))
    (ap (tag_close tag (is_void name) x) (drop-append-le (x - at) text more bound) ∙ close.0)

after_stays_attrs : (tag at : ℕ) (name text more : List ℕ) (f : ScanFault) (a : Result (List Attr × ℕ) ScanFault) → 0 < length text → NotOpen tag f → name_ends tag name at text ≡ Ok tt → attrs_at 256 tag [] at text ≡ a → start_after tag name at text ≡ Err f → start_after tag name at (text ++ more) ≡ Err f
after_stays_attrs tag at name text more f (Err g) lt ne n a e =
    let same = err_same (start_after tag name at text) g f (after_fails_attrs tag at name text g n a) e in
    after_fails_attrs tag at name (text ++ more) f (name_stays tag at name text more lt ∙ n) (attrs_stay 256 tag more f ne [] at text (a ∙ ap err same))
after_stays_attrs tag at name text more f (Ok (attrs, x)) lt ne n a e = after_stays_close tag at x name text more attrs f (tag_close tag (is_void name) x (drop (x - at) text)) lt ne n a refl e

after_stays_name : (tag at : ℕ) (name text more : List ℕ) (f : ScanFault) (n : Result (Unit {0}) ScanFault) → 0 < length text → NotOpen tag f → name_ends tag name at text ≡ n → start_after tag name at text ≡ Err f → start_after tag name at (text ++ more) ≡ Err f
after_stays_name tag at name text more f (Err g) lt ne n e =
    let same = err_same (start_after tag name at text) g f (after_fails tag at name text g n) e in
    after_fails tag at name (text ++ more) f (name_stays tag at name text more lt ∙ n ∙ ap err same)
after_stays_name tag at name text more f (Ok tt) lt ne n e = after_stays_attrs tag at name text more f (attrs_at 256 tag [] at text) lt ne n refl e

after_stays : (tag at : ℕ) (name text more : List ℕ) (f : ScanFault) → NotOpen tag f → start_after tag name at text ≡ Err f → (start_after tag name at (text ++ more) ≡ Err f) × (0 < length text)
after_stays tag at name [] more f ne e = absurd (ne (sym (err_same (start_after tag name at []) (fault tag UnclosedTag) f (after_fails tag at name [] (fault tag UnclosedTag) refl) e)))
after_stays tag at name (c ∷ cs) more f ne e = (after_stays_name tag at name (c ∷ cs) more f (name_ends tag name at (c ∷ cs)) (omega arith) ne refl e, omega arith)

-- a name stays where a byte follows it
ends_more : (suffix more : List ℕ) → 0 < length suffix → Stops is_name_byte suffix → EndsName (suffix ++ more)
ends_more [] more lt stops = absurd (omega arith)
ends_more (c ∷ cs) more lt stops = record { byte = c; rest = cs ++ more; is = refl; other = stops }

pub start_stays : (tag : ℕ) (text more : List ℕ) (f : ScanFault) → NotOpen tag f → start_at tag text ≡ Err f → start_at tag (text ++ more) ≡ Err f
start_stays tag text more f ne e =
    let s = split is_name_byte text in
    let at : ℕ = tag + 1 + length s.prefix in
    let stays = after_stays tag at s.prefix s.suffix more f ne (sym (start_is tag text ∙ named_as (start_after tag) (tag + 1) text s) ∙ e) in
    start_is tag (text ++ more) ∙ ap (with_name (start_after tag) (tag + 1)) (longer text s.prefix s.suffix more s.text_is)
    ∙ named (start_after tag) (tag + 1) s.prefix (s.suffix ++ more) s.all (ends_more s.suffix more stays.1 s.stops) ∙ stays.0

-- ---- end tags, comments

end_after_stays : (tag at : ℕ) (name text more : List ℕ) (f : ScanFault) → NotOpen tag f → end_after tag name at text ≡ Err f → (end_after tag name at (text ++ more) ≡ Err f) × (0 < length text)
end_after_stays tag at name [] more f ne e = absurd (ne (sym (err_same (end_after tag name at []) (fault tag UnclosedTag) f refl e)))
end_after_stays tag at name (c ∷ cs) more f ne e = (e, omega arith)

end_named_stays : (tag : ℕ) (text more : List ℕ) (f : ScanFault) → NotOpen tag f → with_name (end_after tag) (tag + 2) text ≡ Err f → with_name (end_after tag) (tag + 2) (text ++ more) ≡ Err f
end_named_stays tag text more f ne e =
    let s = split is_name_byte text in
    let stays = end_after_stays tag (tag + 2 + length s.prefix) s.prefix s.suffix more f ne (sym (named_as (end_after tag) (tag + 2) text s) ∙ e) in
    ap (with_name (end_after tag) (tag + 2)) (longer text s.prefix s.suffix more s.text_is)
    ∙ named (end_after tag) (tag + 2) s.prefix (s.suffix ++ more) s.all (ends_more s.suffix more stays.1 s.stops) ∙ stays.0

end_stays : (tag : ℕ) (text more : List ℕ) (f : ScanFault) → NotOpen tag f → end_at tag text ≡ Err f → end_at tag (text ++ more) ≡ Err f
unfolding end_at
end_stays tag [] more f ne e = absurd (ne (sym (err_same (end_at tag []) (fault tag UnclosedTag) f refl e)))
end_stays tag (c ∷ cs) more f ne e =
    elim (cases_Bool (is_letter c)) [
      | inl letter ↦ let h : with_name (end_after tag) (tag + 2) (c ∷ cs) ≡ Err f = rw letter at e in rw letter (end_named_stays tag (c ∷ cs) more f ne h)
      | inr other ↦ let h : err {A = Token × ℕ} (byte_fault (tag + 2) c (fault tag BadTag)) ≡ Err f = rw other at e in rw other h
    ]

close_plain : list_all (λ b. not (is_barred b)) comment_close ≡ true
unfolding is_barred
close_plain = refl

comment_by : (tag : ℕ) (text more : List ℕ) (f : ScanFault) (r : Result ℕ ScanFault) → NotComment tag f → verbatim_end comment_close (fault tag UnclosedComment) (tag + 4) text ≡ r → comment_at tag text ≡ Err f → comment_at tag (text ++ more) ≡ Err f
comment_by tag text more f (Ok x) ne r e = absurd (not_ok (comment_at tag text) f (Comment (take (x - (tag + 4)) text), x + 3) e (comment_is tag x text r))
comment_by tag text more f (Err g) ne r e =
    let same = err_same (comment_at tag text) g f (comment_fails tag text g r) e in
    comment_fails tag (text ++ more) f (verbatim_stays comment_close (fault tag UnclosedComment) f (tag + 4) text more close_plain ne (r ∙ ap err same))

dash_stays : (tag : ℕ) (text more : List ℕ) (f : ScanFault) → NotComment tag f → dash_at tag text ≡ Err f → dash_at tag (text ++ more) ≡ Err f
unfolding dash_at
dash_stays tag [] more f ne e = absurd (ne (sym (err_same (dash_at tag []) (fault tag UnclosedComment) f refl e)))
dash_stays tag (d ∷ ds) more f ne e =
    elim (cases_Bool (d == 45)) [
      | inl dash ↦ let h : comment_at tag ds ≡ Err f = rw dash at e in rw dash (comment_by tag ds more f (verbatim_end comment_close (fault tag UnclosedComment) (tag + 4) ds) ne refl h)
      | inr other ↦ let h : err {A = Token × ℕ} (byte_fault (tag + 3) d (fault tag BadTag)) ≡ Err f = rw other at e in rw other h
    ]

-- ---- doctype

doctype_is : (text : List ℕ) → is_doctype text ≡ true → codes "doctype" ≡ map to_ascii_lowercase (take 7 text)
unfolding is_doctype name_same
doctype_is text e = (bytes_eq-Decides (codes "doctype") (map to_ascii_lowercase (take 7 text))).0 e

doctype_taken : (a b : List ℕ) → take 7 a ≡ take 7 b → is_doctype a ≡ is_doctype b
unfolding is_doctype
doctype_taken a b e = ap (λ (l : List ℕ). name_same (codes "doctype") (map to_ascii_lowercase l)) e

pub prefix_is : (cs : List ℕ) → is_doctype_prefix (60 ∷ (33 ∷ cs)) ≡ begins_with (map to_ascii_lowercase cs) (codes "doctype")
unfolding begins_with
prefix_is cs = refl

doctype_false : (cs more : List ℕ) → is_doctype cs ≡ false → begins_with (map to_ascii_lowercase cs) (codes "doctype") ≡ false → is_doctype (cs ++ more) ≡ false
doctype_false cs more n prefix =
    elim (cases_lt (length cs) 7) [
      | inl lt ↦
          elim (cases_Bool (is_doctype (cs ++ more))) [
            | inl is ↦
                let k : ℕ = 7 - length cs in
                let len : length cs + k ≡ 7 = omega arith in
                let taken : take 7 (cs ++ more) ≡ cs ++ take k more = ap (λ (j : ℕ). take j (cs ++ more)) (sym len) ∙ take-append-add cs more k in
                let parts : codes "doctype" ≡ map to_ascii_lowercase cs ++ map to_ascii_lowercase (take k more) = doctype_is (cs ++ more) is ∙ ap (map to_ascii_lowercase) taken ∙ map-append to_ascii_lowercase cs (take k more) in
                absurd (both (begins_with (map to_ascii_lowercase cs) (codes "doctype")) prefix (begins_from_parts (map to_ascii_lowercase cs) (codes "doctype") (map to_ascii_lowercase (take k more)) parts))
            | inr other ↦ other
          ]
      | inr ge ↦ doctype_taken (cs ++ more) cs (take-append-le 7 cs more ge) ∙ n
    ]

doctype_true : (cs more : List ℕ) → is_doctype cs ≡ true → is_doctype (cs ++ more) ≡ true
doctype_true cs more is =
    let len : 7 ≡ length (take 7 cs) = ap length (doctype_is cs is) ∙ length-map (take 7 cs) to_ascii_lowercase in
    let ge : 7 ≤ length cs = omega (arith, len, length-take 7 cs) in
    doctype_taken (cs ++ more) cs (take-append-le 7 cs more ge) ∙ is

refused_barred : (at b : ℕ) (f g : ScanFault) → is_barred b ≡ true → byte_fault at b f ≡ byte_fault at b g
refused_barred at b f g e = rw e refl

pub refused_plain : (at b : ℕ) (f : ScanFault) → is_barred b ≡ false → byte_fault at b f ≡ f
refused_plain at b f e = rw e refl

abbrev pub markup_fault : ℕ → List ℕ → ScanFault
markup_fault tag cs = fault tag (cond (is_doctype cs) Doctype BadTag)

pub markup_is : (tag c : ℕ) (cs : List ℕ) → (c == 45) ≡ false → markup_at tag (c ∷ cs) ≡ Err (byte_fault (tag + 2) c (markup_fault tag (c ∷ cs)))
unfolding markup_at
markup_is tag c cs n = rw n refl

markup_same : (tag c : ℕ) (cs more whole : List ℕ) (f : ScanFault) → drop tag whole ≡ 60 ∷ (33 ∷ (c ∷ cs)) → stands whole f ≡ true → byte_fault (tag + 2) c (markup_fault tag (c ∷ cs)) ≡ f → byte_fault (tag + 2) c (markup_fault tag (c ∷ (cs ++ more))) ≡ f
markup_same tag c cs more whole f here s e =
    elim (cases_Bool (is_barred c)) [
      | inl barred ↦ refused_barred (tag + 2) c (markup_fault tag (c ∷ (cs ++ more))) (markup_fault tag (c ∷ cs)) barred ∙ e
      | inr plain ↦
          elim (cases_Bool (is_doctype (c ∷ cs))) [
            | inl doctype ↦ ap (λ (x : Bool). byte_fault (tag + 2) c (fault tag (cond x Doctype BadTag))) (doctype_true (c ∷ cs) more doctype ∙ sym doctype) ∙ e
            | inr no_doctype ↦
                let is : fault tag BadTag ≡ f = ap (λ (x : Bool). fault tag (cond x Doctype BadTag)) (sym no_doctype) ∙ sym (refused_plain (tag + 2) c (markup_fault tag (c ∷ cs)) plain) ∙ e in
                let st : not (is_doctype_prefix (drop tag whole)) ≡ true = ap (stands whole) is ∙ s in
                let unlike : begins_with (map to_ascii_lowercase (c ∷ cs)) (codes "doctype") ≡ false = sym (ap is_doctype_prefix here ∙ prefix_is (c ∷ cs)) ∙ not_false (is_doctype_prefix (drop tag whole)) st in
                ap (λ (x : Bool). byte_fault (tag + 2) c (fault tag (cond x Doctype BadTag))) (doctype_false (c ∷ cs) more no_doctype unlike ∙ sym no_doctype) ∙ e
          ]
    ]

markup_stays : (tag : ℕ) (text more whole : List ℕ) (f : ScanFault) → drop tag whole ≡ 60 ∷ (33 ∷ text) → stands whole f ≡ true → NotComment tag f → markup_at tag text ≡ Err f → markup_at tag (text ++ more) ≡ Err f
unfolding markup_at
markup_stays tag [] more whole f here s ne e = absurd (ne (sym (err_same (markup_at tag []) (fault tag UnclosedComment) f refl e)))
markup_stays tag (c ∷ cs) more whole f here s ne e =
    elim (cases_Bool (c == 45)) [
      | inl dash ↦ let h : dash_at tag cs ≡ Err f = rw dash at e in rw dash (dash_stays tag cs more f ne h)
      | inr other ↦
          let same = err_same (markup_at tag (c ∷ cs)) (byte_fault (tag + 2) c (markup_fault tag (c ∷ cs))) f (markup_is tag c cs other) e in
          markup_is tag c (cs ++ more) other ∙ ap err (markup_same tag c cs more whole f here s same)
    ]

pub tag_stays : (tag : ℕ) (text more whole : List ℕ) (f : ScanFault) → drop tag whole ≡ 60 ∷ text → stands whole f ≡ true → NotOpen tag f → NotComment tag f → tag_at tag text ≡ Err f → tag_at tag (text ++ more) ≡ Err f
unfolding tag_at
tag_stays tag [] more whole f here s ne nc e = absurd (ne (sym (err_same (tag_at tag []) (fault tag UnclosedTag) f refl e)))
tag_stays tag (c ∷ cs) more whole f here s ne nc e =
    elim (cases_Bool (is_letter c)) [
      | inl letter ↦ let h : start_at tag (c ∷ cs) ≡ Err f = rw letter at e in rw letter (start_stays tag (c ∷ cs) more f ne h)
      | inr no_letter ↦
          elim (cases_Bool (c == 47)) [
            | inl slash ↦ let h : end_at tag cs ≡ Err f = rw (no_letter, slash) at e in rw (no_letter, slash) (end_stays tag cs more f ne h)
            | inr no_slash ↦
                elim (cases_Bool (c == 33)) [
                  | inl bang ↦
                      let h : markup_at tag cs ≡ Err f = rw (no_letter, no_slash, bang) at e in
                      rw (no_letter, no_slash, bang) (markup_stays tag cs more whole f (here ∙ ap (λ (x : ℕ). 60 ∷ (x ∷ cs)) (eqb-true c 33 bang)) s nc h)
                  | inr no_bang ↦ let h : err {A = Token × ℕ} (byte_fault (tag + 1) c (fault tag BadTag)) ≡ Err f = rw (no_letter, no_slash, no_bang) at e in rw (no_letter, no_slash, no_bang) h
                ]
          ]
    ]
