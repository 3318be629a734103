-- A reference or a doctype that the text's end cuts, and what completes it.
use Rattle.std.proofs.Common.{◌≡◌, ℕ, ◌+◌, ◌<◌, ◌≤◌, Bool, true, false, cond, not, ◌&&◌, ◌||◌, eqb, List, [], ◌∷◌, ◌++◌, length, drop, take, map, None, Result, Ok, Err, refl, sym, ap, ◌∙◌, arith, eq-eqb, eqb-true, nat_eq, inl, inr, ◌⊎◌}
use Rattle.std.specs.Prelude.{◌==◌, slice_index, codes}
use Rattle.std.proofs.lemmas.List.{length-drop, length-map, drop-append-le, drop-map, map-append, append-nil, take_all}
use Rattle.std.proofs.lemmas.Bool.{cases_lt, cases_Bool}
use Rattle.std.proofs.lemmas.Slice.Eq.{bytes_eq-Decides}
use Rattle.std.specs.Char.{to_ascii_lowercase}
use Rattle.std.specs.List.{common_prefix_len, list_all, list_any}
use Rattle.model_spelling.specs.declared.scan_fault.ScanFault.{ScanFault}
use Rattle.model_spelling.specs.declared.scan_fault.ScanWhat.TheVariants.{BadChar, BadTag, BadReference, Doctype, UnclosedComment, UnclosedTag, UnclosedRaw}
use Rattle.model_spelling.specs.Grammar.{is_barred, is_letter, is_tag_name, name_same, begins_with, references, starts_reference, is_run, end_text}
use Rattle.model_spelling.specs.Reading.{◌>>=◌, fault, byte_fault, longest_prefix, after_prefix, reference_fault, run_end, verbatim_end, start_at, end_at, is_doctype, dash_at, markup_at, tag_at, some_token, between_at, token_at, Between, After}
use Rattle.model_spelling.specs.Standing.{is_doctype_prefix}
use Rattle.model_spelling.proofs.AttrReading.{and_left, and_right}
use Rattle.model_spelling.proofs.TokenRuns.{begins_parts, begins_from_parts, reference_more, or_right}
use Rattle.model_spelling.proofs.Only.{both}
use Rattle.model_spelling.proofs.FoundTokens.{raw_fails}
use Rattle.model_spelling.proofs.Stays.{err, err_same, fault_ways, past_one}
use Rattle.model_spelling.proofs.StaysTags.{markup_fault, markup_is, refused_plain, prefix_is}
use Rattle.model_spelling.proofs.StaysTokens.{token_fails, text_fails, as_text, raw_never}
use Rattle.model_spelling.proofs.Settled.{settled, as_settled, refused_settled, from_err, from_refused, passes_by, verbatim_settled, NoDoctype, start_settled, end_settled, dash_settled}

-- ---- references

-- the text goes on to a reference that passes this test
record Prefix (q : List ℕ → Bool) (rs : List (List ℕ)) (text : List ℕ) : Type 0 where
  pub more : List ℕ
  pub passes : q (text ++ more) ≡ true
  pub starts : list_any (λ r. begins_with r (text ++ more)) rs ≡ true

prefix_all : (r text : List ℕ) → length text ≤ common_prefix_len nat_eq r text → text ++ drop (length text) r ≡ r
prefix_all r [] le = refl
prefix_all [] (b ∷ bs) le = absurd (omega arith)
prefix_all (x ∷ r) (b ∷ bs) le =
    elim (cases_Bool (nat_eq x b)) [
      | inl same ↦
          let more : length (b ∷ bs) ≤ 1 + common_prefix_len nat_eq r bs = rw same at le in
          let is : b ≡ x = sym (eqb-true x b same) in
          let rest = prefix_all r bs (omega (arith, more)) in
          (λ i. is i ∷ rest i)
      | inr other ↦ let none : length (b ∷ bs) ≤ 0 = rw other at le in absurd (omega (arith, none))
    ]

prefix_of : (q : List ℕ → Bool) (rs : List (List ℕ)) (text : List ℕ) → list_all q rs ≡ true → 0 < length text → length text ≤ longest_prefix rs text → Prefix q rs text
prefix_of q [] text e lt le = absurd (omega arith)
prefix_of q (r ∷ rs) text e lt le =
    elim (cases_lt (common_prefix_len nat_eq r text) (length text)) [
      | inl less ↦
          let f = prefix_of q rs text (and_right (q r) (list_all q rs) e) lt (omega arith) in
          record { more = f.more; passes = f.passes; starts = or_right (begins_with r (text ++ f.more)) (list_any (λ r. begins_with r (text ++ f.more)) rs) f.starts }
      | inr here ↦
          let is = prefix_all r text here in
          let starts : begins_with r (text ++ drop (length text) r) ≡ true = begins_from_parts r (text ++ drop (length text) r) [] (is ∙ sym (append-nil r)) in
          record { more = drop (length text) r; passes = ap q is ∙ and_left (q r) (list_all q rs) e; starts = rw starts refl }
    ]

references_run : list_all (is_run 60) references ≡ true
unfolding is_barred starts_reference begins_with
references_run = refl

-- the end of the text cuts a reference, which this completes
pub record CutText (whole text : List ℕ) (f : ScanFault) : Type 0 where
  pub more : List ℕ
  pub is : fault f.at BadReference ≡ f
  pub run : is_run 60 (text ++ more) ≡ true
  pub starts : starts_reference (drop f.at (whole ++ more)) ≡ true

completed_by : (at : ℕ) (whole text : List ℕ) (f : ScanFault) → drop at whole ≡ text → fault at BadReference ≡ f → 0 < length text → Prefix (is_run 60) references text → CutText whole text f
unfolding starts_reference
completed_by at whole text f here is lt prefix =
    let there : drop f.at (whole ++ prefix.more) ≡ text ++ prefix.more =
    ap (λ (g : ScanFault). drop g.at (whole ++ prefix.more)) (sym is) ∙ drop-append-le at whole prefix.more (omega (arith, lt, ap length here, length-drop at whole)) ∙ ap (λ (l : List ℕ). l ++ prefix.more) here in
    record {
      more = prefix.more;
      is = ap (λ (g : ScanFault). fault g.at BadReference) (sym is) ∙ is;
      run = prefix.passes;
      starts = ap (λ (l : List ℕ). list_any (λ r. begins_with r l) references) there ∙ prefix.starts;
    }

cut_by : (at next : ℕ) (whole text rest : List ℕ) (f : ScanFault) → drop at whole ≡ text → 0 < length text → drop (longest_prefix references text) text ≡ rest → after_prefix None at next rest ≡ f → (settled whole f ≡ true) ⊎ CutText whole text f
cut_by at next whole text [] f here lt d e = inr (completed_by at whole text f here e lt (prefix_of (is_run 60) references text references_run lt (omega (arith, ap length d, length-drop (longest_prefix references text) text))))
cut_by at next whole text (b ∷ bs) f here lt d e = inl (refused_settled whole next b (fault at BadReference) f (passes_by at whole text here (omega (arith, ap length d))) e)

reference_cut : (at : ℕ) (whole text : List ℕ) (f : ScanFault) → drop at whole ≡ text → 0 < length text → reference_fault None at text ≡ f → (settled whole f ≡ true) ⊎ CutText whole text f
unfolding reference_fault
reference_cut at whole text f here lt e = cut_by at (at + longest_prefix references text) whole text (drop (longest_prefix references text) text) f here lt refl e

amp_fits : (amp found more : Bool) → (amp && not found) ≡ false → (found ≡ true → more ≡ true) → (not amp || more) ≡ true
amp_fits true true more e h = h refl
amp_fits true false more e h = absurd cc
amp_fits false found more e h = refl

-- one byte more before the cut
cut_on : (b : ℕ) (whole bs : List ℕ) (f : ScanFault) → eqb b 60 ≡ false → is_barred b ≡ false → (eqb b 38 && not (starts_reference (b ∷ bs))) ≡ false → CutText whole bs f → CutText whole (b ∷ bs) f
cut_on b whole bs f s r a c =
    let amp = amp_fits (eqb b 38) (starts_reference (b ∷ bs)) (starts_reference (b ∷ (bs ++ c.more))) a (reference_more (b ∷ bs) c.more) in
    record { more = c.more; is = c.is; run = rw (s, r, amp) c.run; starts = c.starts }

run_cut : (at : ℕ) (whole text : List ℕ) (f : ScanFault) → drop at whole ≡ text → run_end None 60 at text ≡ Err f → (settled whole f ≡ true) ⊎ CutText whole text f
unfolding run_end
run_cut at whole [] f here e = absurd cc
run_cut at whole (b ∷ bs) f here e =
    let ways = fault_ways (eqb b 60) (is_barred b) (eqb b 38 && not (starts_reference (b ∷ bs))) at (fault at BadChar) (reference_fault None at (b ∷ bs)) f (run_end None 60 (at + 1) bs) e in
    elim ways.1 [
      | inl barred ↦ inl (as_settled whole (fault at BadChar) f refl barred.1)
      | inr other ↦
          elim other [
            | inl bad ↦ reference_cut at whole (b ∷ bs) f here (omega arith) bad.2
            | inr on ↦
                elim (run_cut (at + 1) whole bs f (past_one at b whole bs here) on.2) [
                  | inl s ↦ inl s
                  | inr c ↦ inr (cut_on b whole bs f ways.0 on.0 on.1 c)
                ]
          ]
    ]

-- ---- doctypes

lower_doctype : map to_ascii_lowercase (codes "doctype") ≡ codes "doctype"
lower_doctype = refl

doctype_length : length (codes "doctype") ≡ 7
doctype_length = refl

doctype_from : (text : List ℕ) → length text ≡ 7 → codes "doctype" ≡ map to_ascii_lowercase text → is_doctype text ≡ true
unfolding is_doctype name_same
doctype_from text len e = (bytes_eq-Decides (codes "doctype") (map to_ascii_lowercase (take 7 text))).1 (e ∙ ap (map to_ascii_lowercase) (sym (take_all 7 text (omega (arith, len)))))

-- what is missing of a doctype
abbrev pub rest_of : List ℕ → List ℕ
rest_of cs = drop (length cs) (codes "doctype")

doctype_whole : (cs : List ℕ) → begins_with (map to_ascii_lowercase cs) (codes "doctype") ≡ true → is_doctype (cs ++ rest_of cs) ≡ true
doctype_whole cs e =
    let prefix : List ℕ = map to_ascii_lowercase cs in
    let same : length prefix ≡ length cs = length-map cs to_ascii_lowercase in
    let parts : codes "doctype" ≡ prefix ++ rest_of cs = begins_parts prefix (codes "doctype") e ∙ ap (λ (k : ℕ). prefix ++ drop k (codes "doctype")) same in
    let rest : map to_ascii_lowercase (rest_of cs) ≡ rest_of cs = sym (drop-map to_ascii_lowercase (length cs) (codes "doctype")) ∙ ap (drop (length cs)) lower_doctype in
    let lower : codes "doctype" ≡ map to_ascii_lowercase (cs ++ rest_of cs) = parts ∙ ap (λ (l : List ℕ). prefix ++ l) (sym rest) ∙ sym (map-append to_ascii_lowercase cs (rest_of cs)) in
    doctype_from (cs ++ rest_of cs) (sym (length-map (cs ++ rest_of cs) to_ascii_lowercase) ∙ sym (ap length lower) ∙ doctype_length) lower

-- the end of the text cuts a doctype
pub record CutMarkup (tag : ℕ) (text : List ℕ) (f : ScanFault) : Type 0 where
  pub more : List ℕ
  pub is : fault tag BadTag ≡ f
  pub whole : between_at tag (text ++ more) ≡ Err (fault tag Doctype)

bang_first : (tag : ℕ) (bs : List ℕ) → between_at tag (60 ∷ (33 ∷ bs)) ≡ some_token (markup_at tag bs)
unfolding between_at tag_at is_letter
bang_first tag bs = refl

completed_markup : (tag c : ℕ) (cs : List ℕ) → (c == 45) ≡ false → is_barred c ≡ false → begins_with (map to_ascii_lowercase (c ∷ cs)) (codes "doctype") ≡ true → between_at tag ((60 ∷ (33 ∷ (c ∷ cs))) ++ rest_of (c ∷ cs)) ≡ Err (fault tag Doctype)
completed_markup tag c cs dash plain prefix =
    let read : markup_at tag (c ∷ (cs ++ rest_of (c ∷ cs))) ≡ Err (fault tag Doctype) =
    markup_is tag c (cs ++ rest_of (c ∷ cs)) dash
    ∙ ap err (refused_plain (tag + 2) c (markup_fault tag (c ∷ (cs ++ rest_of (c ∷ cs)))) plain ∙ ap (λ (x : Bool). fault tag (cond x Doctype BadTag)) (doctype_whole (c ∷ cs) prefix)) in
    bang_first tag (c ∷ (cs ++ rest_of (c ∷ cs))) ∙ ap some_token read

bad_markup : (tag c : ℕ) (cs : List ℕ) (f : ScanFault) → is_barred c ≡ false → is_doctype (c ∷ cs) ≡ false → byte_fault (tag + 2) c (markup_fault tag (c ∷ cs)) ≡ f → fault tag BadTag ≡ f
bad_markup tag c cs f plain no_doctype e = ap (λ (x : Bool). fault tag (cond x Doctype BadTag)) (sym no_doctype) ∙ sym (refused_plain (tag + 2) c (markup_fault tag (c ∷ cs)) plain) ∙ e

refused_barred : (at c : ℕ) (f : ScanFault) → is_barred c ≡ true → byte_fault at c f ≡ fault at BadChar
refused_barred at c f e = rw e refl

doctype_fault : (whole : List ℕ) (tag : ℕ) (b : Bool) (f : ScanFault) → b ≡ true → fault tag (cond b Doctype BadTag) ≡ f → settled whole f ≡ true
doctype_fault whole tag b f is e = as_settled whole (fault tag Doctype) f refl (ap (λ (x : Bool). fault tag (cond x Doctype BadTag)) (sym is) ∙ e)

named_markup : (tag c : ℕ) (cs whole : List ℕ) (f : ScanFault) → drop tag whole ≡ 60 ∷ (33 ∷ (c ∷ cs)) → (c == 45) ≡ false → byte_fault (tag + 2) c (markup_fault tag (c ∷ cs)) ≡ f → (settled whole f ≡ true) ⊎ CutMarkup tag (60 ∷ (33 ∷ (c ∷ cs))) f
named_markup tag c cs whole f here dash e =
    elim (cases_Bool (is_barred c)) [
      | inl barred ↦ inl (as_settled whole (fault (tag + 2) BadChar) f refl (sym (refused_barred (tag + 2) c (markup_fault tag (c ∷ cs)) barred) ∙ e))
      | inr plain ↦
          elim (cases_Bool (is_doctype (c ∷ cs))) [
            | inl doctype ↦ inl (doctype_fault whole tag (is_doctype (c ∷ cs)) f doctype (sym (refused_plain (tag + 2) c (markup_fault tag (c ∷ cs)) plain) ∙ e))
            | inr no_doctype ↦
                let is = bad_markup tag c cs f plain no_doctype e in
                elim (cases_Bool (begins_with (map to_ascii_lowercase (c ∷ cs)) (codes "doctype"))) [
                  | inl prefix ↦ inr (record { more = rest_of (c ∷ cs); is = is; whole = completed_markup tag c cs dash plain prefix })
                  | inr other ↦ inl (as_settled whole (fault tag BadTag) f (ap (λ (x : Bool). not x) (ap is_doctype_prefix here ∙ prefix_is (c ∷ cs) ∙ other)) is)
                ]
          ]
    ]

no_dash : (ds : List ℕ) → begins_with (map to_ascii_lowercase (45 ∷ ds)) (codes "doctype") ≡ false
unfolding begins_with
no_dash ds = refl

markup_cut : (tag : ℕ) (text whole : List ℕ) (f : ScanFault) → drop tag whole ≡ 60 ∷ (33 ∷ text) → markup_at tag text ≡ Err f → (settled whole f ≡ true) ⊎ CutMarkup tag (60 ∷ (33 ∷ text)) f
unfolding markup_at
markup_cut tag [] whole f here e = inl (from_err whole (markup_at tag []) (fault tag UnclosedComment) f refl refl e)
markup_cut tag (c ∷ cs) whole f here e =
    elim (cases_Bool (c == 45)) [
      | inl dash ↦
          let h : dash_at tag cs ≡ Err f = rw dash at e in
          let is : c ≡ 45 = eqb-true c 45 dash in
          let other : is_doctype_prefix (drop tag whole) ≡ false = ap is_doctype_prefix here ∙ prefix_is (c ∷ cs) ∙ ap (λ (x : ℕ). begins_with (map to_ascii_lowercase (x ∷ cs)) (codes "doctype")) is ∙ no_dash cs in
          inl (dash_settled whole tag cs f (ap (λ (x : Bool). not x) other) h)
      | inr other ↦ named_markup tag c cs whole f here other (err_same (markup_at tag (c ∷ cs)) (byte_fault (tag + 2) c (markup_fault tag (c ∷ cs))) f (markup_is tag c cs other) e)
    ]

-- ---- tags

no_bang : (tag c : ℕ) (cs whole : List ℕ) → drop tag whole ≡ 60 ∷ (c ∷ cs) → (c == 33) ≡ false → NoDoctype whole tag
no_bang tag c cs whole here e =
    elim (cases_Bool (is_doctype_prefix (60 ∷ (c ∷ cs)))) [
      | inl prefix ↦
          let starts = and_left (begins_with (60 ∷ (33 ∷ [])) (60 ∷ (c ∷ cs))) (begins_with (map to_ascii_lowercase cs) (codes "doctype")) prefix in
          let second : c ≡ 33 = ap (λ (l : List ℕ). slice_index l 1) (begins_parts (60 ∷ (33 ∷ [])) (60 ∷ (c ∷ cs)) starts) in
          absurd (both (c == 33) e (eq-eqb c 33 second))
      | inr other ↦ ap (λ (l : List ℕ). not (is_doctype_prefix l)) here ∙ ap (λ (x : Bool). not x) other
    ]

bang_no_letter : is_letter 33 ≡ false
unfolding is_letter
bang_no_letter = refl

letter_no_bang : (c : ℕ) → is_letter c ≡ true → (c == 33) ≡ false
letter_no_bang c e =
    elim (cases_Bool (c == 33)) [
      | inl bang ↦ absurd (both (is_letter c) (ap is_letter (eqb-true c 33 bang) ∙ bang_no_letter) e)
      | inr other ↦ other
    ]

tag_cut : (tag : ℕ) (text whole : List ℕ) (f : ScanFault) → drop tag whole ≡ 60 ∷ text → tag_at tag text ≡ Err f → (settled whole f ≡ true) ⊎ CutMarkup tag (60 ∷ text) f
unfolding tag_at
tag_cut tag [] whole f here e = inl (from_err whole (tag_at tag []) (fault tag UnclosedTag) f refl refl e)
tag_cut tag (c ∷ cs) whole f here e =
    elim (cases_Bool (is_letter c)) [
      | inl letter ↦
          let h : start_at tag (c ∷ cs) ≡ Err f = rw letter at e in
          inl (start_settled whole tag (c ∷ cs) f (no_bang tag c cs whole here (letter_no_bang c letter)) (past_one tag 60 whole (c ∷ cs) here) h)
      | inr no_letter ↦
          elim (cases_Bool (c == 47)) [
            | inl slash ↦
                let h : end_at tag cs ≡ Err f = rw (no_letter, slash) at e in
                inl (end_settled whole tag cs f (no_bang tag c cs whole here (ap (λ (x : ℕ). x == 33) (eqb-true c 47 slash))) h)
            | inr no_slash ↦
                elim (cases_Bool (c == 33)) [
                  | inl bang ↦
                      let h : markup_at tag cs ≡ Err f = rw (no_letter, no_slash, bang) at e in
                      let is : c ≡ 33 = eqb-true c 33 bang in
                      let there : 60 ∷ (c ∷ cs) ≡ 60 ∷ (33 ∷ cs) = (λ i. 60 ∷ (is i ∷ cs)) in
                      elim (markup_cut tag cs whole f (here ∙ there) h) [
                        | inl s ↦ inl s
                        | inr m ↦ inr (record { more = m.more; is = m.is; whole = ap (λ (l : List ℕ). between_at tag (l ++ m.more)) there ∙ m.whole })
                      ]
                  | inr no_bang_here ↦ inl (from_refused whole (tag_at tag (c ∷ cs)) (tag + 1) c (fault tag BadTag) f (no_bang tag c cs whole here no_bang_here) (rw (no_letter, no_slash, no_bang_here) refl) e)
                ]
          ]
    ]

-- ---- tokens

-- between two tokens, the fault is settled, or the end cuts a reference in a text, or a doctype
pub data Cut (at : ℕ) (whole text : List ℕ) (f : ScanFault) : Type 0 where
  Settled : settled whole f ≡ true → Cut at whole text f
  Reference : (b : ℕ) (bs : List ℕ) → text ≡ b ∷ bs → (b == 60) ≡ false → CutText whole text f → Cut at whole text f
  Markup : CutMarkup at text f → Cut at whole text f

pub between_cut : (at : ℕ) (whole text : List ℕ) (f : ScanFault) → drop at whole ≡ text → token_at Between at text ≡ Err f → Cut at whole text f
unfolding token_at between_at
between_cut at whole [] f here e = absurd cc
between_cut at whole (b ∷ bs) f here e =
    elim (cases_Bool (b == 60)) [
      | inl tag ↦
          let h : some_token (tag_at at bs) ≡ Err f = rw tag at e in
          let there : b ∷ bs ≡ 60 ∷ bs = ap (λ (x : ℕ). x ∷ bs) (eqb-true b 60 tag) in
          elim (tag_cut at bs whole f (here ∙ there) (token_fails (tag_at at bs) f h)) [
            | inl s ↦ Settled s
            | inr m ↦ Markup (record { more = m.more; is = m.is; whole = ap (λ (l : List ℕ). between_at at (l ++ m.more)) there ∙ m.whole })
          ]
      | inr other ↦
          let h : (run_end None 60 at (b ∷ bs) >>= as_text at (b ∷ bs)) ≡ Err f = rw other at e in
          elim (run_cut at whole (b ∷ bs) f here (text_fails at (b ∷ bs) (run_end None 60 at (b ∷ bs)) f h)) [
            | inl s ↦ Settled s
            | inr c ↦ Reference b bs refl other c
          ]
    ]

pub raw_settled : (at : ℕ) (name whole text : List ℕ) (f : ScanFault) (r : Result ℕ ScanFault) → is_tag_name name ≡ true → verbatim_end (end_text name) (fault at UnclosedRaw) at text ≡ r → token_at (After name) at text ≡ Err f → settled whole f ≡ true
raw_settled at name whole text f (Err g) n v e = from_err whole (token_at (After name) at text) g f (verbatim_settled whole (end_text name) (fault at UnclosedRaw) at text g refl v) (raw_fails at name text g v) e
raw_settled at name whole text f (Ok x) n v e = absurd (raw_never at x name text f (x == at) n refl v e)
