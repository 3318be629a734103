-- The forest that a text is read as spells it.
use Rattle.std.proofs.Common.{◌≡◌, ℕ, zero, suc, ◌+◌, ◌-◌, ◌<◌, ◌≤◌, Bool, true, false, cond, not, ◌&&◌, ◌||◌, List, [], ◌∷◌, ◌++◌, length, drop, take, Option, Some, None, Result, Ok, Err, refl, sym, ap, ◌∙◌, arith, eq-eqb, append_assoc, subst, inl, inr}
use Rattle.std.specs.Prelude.{◌==◌, slice_index}
use Rattle.std.proofs.lemmas.List.{length-append, append-nil}
use Rattle.std.proofs.Math.Seq.{drop-append_seam}
use Rattle.std.proofs.lemmas.Bool.{cases_Bool, ne_eqb}
use Rattle.std.specs.List.{list_all, flat_map}
use Rattle.model_spelling.specs.declared.scan_fault.ScanFault.{ScanFault}
use Rattle.model_spelling.specs.Grammar.{is_letter, is_name_byte, is_plaintext, name_same, is_tag_name, is_text, is_run, is_barred, starts_reference, is_verbatim, are_attrs, is_start, Attr, Token, Start, End, Chars, Raw, Comment, token_text, start_text, end_text, comment_close, attr_text}
use Rattle.ve_kinds.specs.Tags.{is_void, is_raw}
use Rattle.model_spelling.specs.Reading.{◌>>=◌, token_at, between_at, tag_at, some_token, run_end, Mode, Between, After, Failed, Step, mode_after}
use Rattle.model_spelling.specs.Tokens.{Placed, Tokens, tokens_from, tokens_of, is_token, BeginsTag, MayFollow, RawRead, Inner, Closing, ReadsTokens}
use Rattle.model_spelling.specs.Forest.{Forest, Nothing, Text, Remark, Void, RawElement, Element, starts_with_text, spelling, is_forest}
use Rattle.model_spelling.specs.Faults.{OpenElement, ForestFault, TooDeep, Stray, Mismatched, fault_in, fault_at_end, fault_of, after_start, after_end, after_token, or_fault}
use Rattle.model_spelling.specs.Parsed.{Ending, first_forest, with_token, ending, forest_of}
use Rattle.model_spelling.proofs.AttrReading.{and_left, and_right}
use Rattle.model_spelling.proofs.TokenRuns.{not_false}
use Rattle.model_spelling.proofs.ForestLaws.{raw_not_void, equal_names}
use Rattle.model_spelling.proofs.Only.{and_both, both, close_text, start_regrouped}
use Rattle.model_spelling.proofs.Back.{step_on, stop_at_end, stop_at_fault, void_made, element_made, raw_made, forest_by, text_some, cut, start_named, void_not_raw, raw_parts, element_parts}
use Rattle.model_spelling.proofs.FoundTokens.{token_found, raw_found}

-- ---- each text has its run

abbrev pub Named : Mode → Type 0
Named Between = Unit {0}
Named (After name) = is_tag_name name ≡ true
Named (Failed f) = Unit {0}

pub record Part (at : ℕ) (text : List ℕ) (t : Token) (to : ℕ) : Type 0 where
  pub some : List ℕ
  pub rest : List ℕ
  pub text_is : text ≡ some ++ rest
  pub to_is : to ≡ at + length some
  pub lt : 0 < length some
  pub named : Named (mode_after t)

start_mode : (name : List ℕ) (b : Bool) → is_tag_name name ≡ true → Named (cond b (After name) Between)
start_mode name true e = e
start_mode name false e = tt

token_mode : (t : Token) → is_token t ≡ true → Named (mode_after t)
token_mode (Start name attrs slash) e = start_mode name (is_raw name) (start_named name attrs slash e)
token_mode (End name) e = tt
token_mode (Chars text) e = tt
token_mode (Raw text) e = tt
token_mode (Comment text) e = tt

token_some : (t : Token) → is_token t ≡ true → 0 < length (token_text t)
token_some (Start name attrs slash) e = omega arith
token_some (End name) e = omega arith
token_some (Chars text) e = text_some text e
token_some (Raw text) e = absurd cc
token_some (Comment text) e = omega arith

pub failed_never : (f : ScanFault) (at : ℕ) (text : List ℕ) (t : Token) (to : ℕ) → token_at (Failed f) at text ≡ Ok (Some (t, to)) → ⊥
unfolding token_at
failed_never f at text t to e = cc

pub part_of : (m : Mode) (at : ℕ) (text : List ℕ) (t : Token) (to : ℕ) → Named m → token_at m at text ≡ Ok (Some (t, to)) → Part at text t to
part_of Between at text t to n e =
    let r = token_found at text t to e in
    record { some = token_text t; rest = r.rest; text_is = r.text_is; to_is = r.to_is; lt = token_some t r.allowed; named = token_mode t r.allowed }
part_of (After name) at text t to n e =
    elim (raw_found at name text t to n e) [
      | Inner inner rest is text_is to_is lt fits ↦ record { some = inner; rest = end_text name ++ rest; text_is = text_is; to_is = to_is; lt = lt; named = subst (λ (x : Token). Named (mode_after x)) (sym is) tt }
      | Closing rest is text_is to_is ↦ record { some = end_text name; rest = rest; text_is = text_is; to_is = to_is; lt = omega arith; named = subst (λ (x : Token). Named (mode_after x)) (sym is) tt }
    ]
part_of (Failed f) at text t to n e = absurd (failed_never f at text t to e)

abbrev pub Run : Mode → ℕ → List ℕ → Tokens → Type 0
Run m at text ts = ReadsTokens m at text ts.tokens ts.fault

-- what is read on after a token
abbrev pub Later : ℕ → Type 0
Later n = (m : Mode) (at : ℕ) (text : List ℕ) → Named m → length text ≤ n → Run m at text (tokens_from (suc n) m at text)

run_step : (n : ℕ) (m : Mode) (at : ℕ) (text : List ℕ) (s : Step) → token_at m at text ≡ s → Named m → length text ≤ suc n → Later n → Run m at text (tokens_from (suc (suc n)) m at text)
run_step n m at text (Err f) e named le later = subst (Run m at text) (sym (stop_at_fault (suc n) at m text f e)) e
run_step n m at text (Ok None) e named le later = subst (Run m at text) (sym (stop_at_end (suc n) at m text e)) e
run_step n m at text (Ok (Some (t, to))) e named le later =
    let p = part_of m at text t to named e in
    let here : Placed = record { token = t; from = at; to = to } in
    subst (Run m at text) (sym (step_on (suc n) at m text p.rest p.some here e refl p.text_is p.to_is))
    (e, refl, p.rest, p.some, p.text_is, p.to_is, p.lt, later (mode_after t) to p.rest p.named (omega (arith, p.lt, ap length p.text_is, length-append p.some p.rest)))

run_stop : (m : Mode) (at : ℕ) (text : List ℕ) (s : Step) → token_at m at text ≡ s → Named m → length text ≤ 0 → Run m at text (tokens_from 1 m at text)
run_stop m at text (Err f) e named le = subst (Run m at text) (sym (stop_at_fault 0 at m text f e)) e
run_stop m at text (Ok None) e named le = subst (Run m at text) (sym (stop_at_end 0 at m text e)) e
run_stop m at text (Ok (Some (t, to))) e named le =
    let p = part_of m at text t to named e in
    absurd (omega (arith, p.lt, ap length p.text_is, length-append p.some p.rest))

pub run_of : (n : ℕ) → Later n
run_of zero m at text named le = run_stop m at text (token_at m at text) refl named le
run_of (suc n) m at text named le = run_step n m at text (token_at m at text) refl named le (run_of n)

pub runs_of : (text : List ℕ) → ReadsTokens Between 0 text (tokens_of text).tokens (tokens_of text).fault
runs_of text =
    let n : suc (length text) ≡ length text + 1 = omega arith in
    subst (λ (k : ℕ). Run Between 0 text (tokens_from k Between 0 text)) n (run_of (length text) Between 0 text tt (omega arith))

-- ---- the shape of what is left

-- the closing tags of the open elements, and the siblings that follow each
abbrev pub Tail : ℕ → List OpenElement → List Forest → List ℕ → Type 0
Tail room [] [] tail = tail ≡ []
Tail room [] (f ∷ fs) tail = ⊥
Tail room (o ∷ os) [] tail = ⊥
Tail room (o ∷ os) (f ∷ fs) tail = (rest : List ℕ) × (tail ≡ end_text o.name ++ (spelling f ++ rest)) × (is_forest (suc room) f ≡ true) × Tail (suc room) os fs rest

abbrev pub Shape : Mode → ℕ → List OpenElement → Ending → List ℕ → Type 0
Shape Between room os e text = (tail : List ℕ) × (text ≡ spelling e.here ++ tail) × (is_forest room e.here ≡ true) × Tail room os e.outer tail
Shape (After name) room os e text = (tail : List ℕ) × (text ≡ e.raw ++ tail) × (is_verbatim (end_text name) e.raw ≡ true) × (e.here ≡ Nothing) × Tail room os e.outer tail
Shape (Failed f) room os e text = ⊥

-- the element whose raw text comes is the innermost one
abbrev pub Fits : Mode → List OpenElement → Type 0
Fits Between os = Unit {0}
Fits (After name) [] = ⊥
Fits (After name) (o ∷ os) = (is_tag_name name ≡ true) × (o.name ≡ name)
Fits (Failed f) os = Unit {0}

fits_named : (m : Mode) (os : List OpenElement) → Fits m os → Named m
fits_named Between os f = tt
fits_named (After name) [] f = absurd f
fits_named (After name) (o ∷ os) f = f.0
fits_named (Failed g) os f = tt

-- ---- small facts

abbrev ok_opens : List OpenElement → Result (List OpenElement) ForestFault → List OpenElement
ok_opens d (Ok os) = os
ok_opens d (Err f) = d

abbrev is_ok : Result (List OpenElement) ForestFault → Bool
is_ok (Ok os) = true
is_ok (Err f) = false

fails : (r : Result (List OpenElement) ForestFault) (f : ForestFault) (os : List OpenElement) → r ≡ Err f → r ≡ Ok os → ⊥
fails r f os e g = let h : false ≡ true = ap is_ok (sym e ∙ g) in cc

pub some_none : (f : ForestFault) → Some f ≡ None → ⊥
some_none f e = cc

pub or_none : (r : Result (List OpenElement) ForestFault) (next : List OpenElement → Option ForestFault) → or_fault r next ≡ None → (os : List OpenElement) × (r ≡ Ok os) × (next os ≡ None)
or_none (Err f) next e = absurd (some_none f e)
or_none (Ok os) next e = (os, refl, e)

text_not_tag : (b : ℕ) (bs : List ℕ) → is_text (b ∷ bs) ≡ true → (b == 60) ≡ false
text_not_tag b bs e =
    let p1 = and_left (not (b == 60) && not (is_barred b) && (not (b == 38) || starts_reference (b ∷ bs))) (is_run 60 bs) e in
    not_false (b == 60) (and_left (not (b == 60)) (not (is_barred b)) (and_left (not (b == 60) && not (is_barred b)) (not (b == 38) || starts_reference (b ∷ bs)) p1))

no_text : (f : Forest) (room : ℕ) (tail : List ℕ) → is_forest room f ≡ true → BeginsTag (spelling f ++ tail) → starts_with_text f ≡ false
no_text Nothing room tail e b = refl
no_text (Text [] f) room tail e b = absurd cc
no_text (Text (c ∷ cs) f) room tail e b =
    let here = and_left (is_text (c ∷ cs)) (not (starts_with_text f)) (and_left (is_text (c ∷ cs) && not (starts_with_text f)) (is_forest room f) e) in
    absurd (both (c == 60) (text_not_tag c cs here) (eq-eqb c 60 b))
no_text (Remark text f) room tail e b = refl
no_text (Void name attrs slash f) room tail e b = refl
no_text (RawElement name attrs text f) room tail e b = refl
no_text (Element name attrs children f) room tail e b = refl

-- what begins with `</` spells no node
no_letter : is_letter 47 ≡ false
unfolding is_letter
no_letter = refl

no_start : (name rest whole : List ℕ) (attrs : List Attr) (slash : Bool) → is_start name attrs slash ≡ true → 60 ∷ (name ++ rest) ≡ whole → slice_index whole 1 ≡ 47 → ⊥
no_start [] rest whole attrs slash e h second = let named = start_named [] attrs slash e in absurd cc
no_start (b ∷ bs) rest whole attrs slash e h second =
    let named = start_named (b ∷ bs) attrs slash e in
    let letter = and_left (is_letter b) (list_all is_name_byte bs) (and_left (is_letter b && list_all is_name_byte bs) (not (is_plaintext (b ∷ bs))) named) in
    let same : b ≡ 47 = ap (λ (l : List ℕ). slice_index l 1) h ∙ second in
    both (is_letter b) (ap is_letter same ∙ no_letter) letter

four : (a b c d e : List ℕ) → a ++ (b ++ (c ++ (d ++ e))) ≡ (((a ++ b) ++ c) ++ d) ++ e
four a b c d e = simp append_assoc

start_case : (n : List ℕ) (attrs : List Attr) (slash : Bool) (more whole : List ℕ) → is_start n attrs slash ≡ true → start_text n attrs slash ++ more ≡ whole → slice_index whole 1 ≡ 47 → ⊥
start_case n attrs slash more whole s h second = no_start n (flat_map attr_text attrs ++ (close_text slash ++ more)) whole attrs slash s (sym (start_regrouped n attrs slash more) ∙ h) second

remark_case : (text more whole : List ℕ) → token_text (Comment text) ++ more ≡ whole → slice_index whole 1 ≡ 47 → ⊥
remark_case text more whole h second = let e : 33 ≡ 47 = ap (λ (l : List ℕ). slice_index l 1) h ∙ second in omega (arith, e)

text_case : (text more whole : List ℕ) → is_text text ≡ true → text ++ more ≡ whole → slice_index whole 0 ≡ 60 → ⊥
text_case [] more whole e h first = absurd cc
text_case (c ∷ cs) more whole e h first = both (c == 60) (text_not_tag c cs e) (eq-eqb c 60 (ap (λ (l : List ℕ). slice_index l 0) h ∙ first))

void_case : (n : List ℕ) (attrs : List Attr) (slash : Bool) (f : Forest) (room : ℕ) → is_forest room (Void n attrs slash f) ≡ true → is_start n attrs slash ≡ true
void_case n attrs slash f zero e = absurd cc
void_case n attrs slash f (suc room) e = and_right (is_void n) (is_start n attrs slash) (and_left (is_void n && is_start n attrs slash) (is_forest (suc room) f) e)

raw_case : (n : List ℕ) (attrs : List Attr) (text : List ℕ) (f : Forest) (room : ℕ) → is_forest room (RawElement n attrs text f) ≡ true → is_start n attrs false ≡ true
raw_case n attrs text f zero e = absurd cc
raw_case n attrs text f (suc room) e = let p = raw_parts room n attrs text f e in p.start

element_case : (n : List ℕ) (attrs : List Attr) (children f : Forest) (room : ℕ) → is_forest room (Element n attrs children f) ≡ true → is_start n attrs false ≡ true
element_case n attrs children f zero e = absurd cc
element_case n attrs children f (suc room) e = let p = element_parts room n attrs children f e in p.start

text_case_is : (text : List ℕ) (f : Forest) (room : ℕ) → is_forest room (Text text f) ≡ true → is_text text ≡ true
text_case_is text f room e = and_left (is_text text) (not (starts_with_text f)) (and_left (is_text text && not (starts_with_text f)) (is_forest room f) e)

two : (a b c : List ℕ) → (a ++ b) ++ c ≡ a ++ (b ++ c)
two a b c = append_assoc a b c

nothing_by : (f : Forest) (room : ℕ) (tail whole : List ℕ) → is_forest room f ≡ true → spelling f ++ tail ≡ whole → slice_index whole 0 ≡ 60 → slice_index whole 1 ≡ 47 → f ≡ Nothing
nothing_by Nothing room tail whole e h first second = refl
nothing_by (Text text f) room tail whole e h first second = absurd (text_case text (spelling f ++ tail) whole (text_case_is text f room e) (sym (two text (spelling f) tail) ∙ h) first)
nothing_by (Remark text f) room tail whole e h first second = absurd (remark_case text (spelling f ++ tail) whole (sym (two (token_text (Comment text)) (spelling f) tail) ∙ h) second)
nothing_by (Void n attrs slash f) room tail whole e h first second = absurd (start_case n attrs slash (spelling f ++ tail) whole (void_case n attrs slash f room e) (sym (two (start_text n attrs slash) (spelling f) tail) ∙ h) second)
nothing_by (RawElement n attrs text f) room tail whole e h first second = absurd (start_case n attrs false (text ++ (end_text n ++ (spelling f ++ tail))) whole (raw_case n attrs text f room e) (four (start_text n attrs false) text (end_text n) (spelling f) tail ∙ h) second)
nothing_by (Element n attrs children f) room tail whole e h first second = absurd (start_case n attrs false (spelling children ++ (end_text n ++ (spelling f ++ tail))) whole (element_case n attrs children f room e) (four (start_text n attrs false) (spelling children) (end_text n) (spelling f) tail ∙ h) second)

pub closing_nothing : (f : Forest) (room : ℕ) (tail name rest : List ℕ) → is_forest room f ≡ true → spelling f ++ tail ≡ end_text name ++ rest → f ≡ Nothing
closing_nothing f room tail name rest e h = nothing_by f room tail (end_text name ++ rest) e h refl refl

flip : (b : Bool) → b ≡ false → not b ≡ true
flip b e = rw e refl

ne_200 : (n : ℕ) → n < 200 → (n == 200) ≡ false
ne_200 n lt = ne_eqb n 200 (λ h. absurd (omega (arith, h)))

-- ---- one token

abbrev Following : Mode → List OpenElement → Ending → List ℕ → Type 0
Following m os e rest = (room : ℕ) → length os + room ≡ 200 → Fits m os → Shape m room os e rest

made_so : (m : Mode) (room : ℕ) (os : List OpenElement) (text : List ℕ) (x y : Ending) → x ≡ y → Shape m room os y text → Shape m room os x text
made_so m room os text x y e s = subst (λ (z : Ending). Shape m room os z text) (sym e) s

with_text : (text rest : List ℕ) (whole : List ℕ) (os : List OpenElement) (room : ℕ) (e : Ending) → whole ≡ text ++ rest → is_text text ≡ true → BeginsTag rest → Shape Between room os e rest → Shape Between room os (with_token (Chars text) e) whole
with_text text rest whole os room e w here b (tail, text_is, allowed, tails) =
    let other = no_text e.here room tail allowed (subst BeginsTag text_is b) in (
      tail,
      w ∙ ap (λ (l : List ℕ). text ++ l) text_is ∙ sym (append_assoc text (spelling e.here) tail),
      and_both (is_text text && not (starts_with_text e.here)) (is_forest room e.here) (and_both (is_text text) (not (starts_with_text e.here)) here (flip (starts_with_text e.here) other)) allowed,
      tails,
    )

with_comment : (text rest : List ℕ) (whole : List ℕ) (os : List OpenElement) (room : ℕ) (e : Ending) → whole ≡ token_text (Comment text) ++ rest → is_verbatim comment_close text ≡ true → Shape Between room os e rest → Shape Between room os (with_token (Comment text) e) whole
with_comment text rest whole os room e w here (tail, text_is, allowed, tails) = (
  tail,
  w ∙ ap (λ (l : List ℕ). token_text (Comment text) ++ l) text_is ∙ sym (append_assoc (token_text (Comment text)) (spelling e.here) tail),
  and_both (is_verbatim comment_close text) (is_forest room e.here) here allowed,
  tails,
)

with_end : (m : Mode) (name rest whole : List ℕ) (o : OpenElement) (os : List OpenElement) (room : ℕ) (e : Ending) → whole ≡ end_text name ++ rest → o.name ≡ name → Shape Between (suc room) os e rest → Tail room (o ∷ os) (e.here ∷ e.outer) whole
with_end m name rest whole o os room e w same (tail, text_is, allowed, tails) =
    (tail, w ∙ ap (λ (l : List ℕ). end_text l ++ rest) (sym same) ∙ ap (λ (l : List ℕ). end_text o.name ++ l) text_is, allowed, tails)

with_void : (name : List ℕ) (attrs : List Attr) (slash : Bool) (rest whole : List ℕ) (os : List OpenElement) (room : ℕ) (e : Ending) → whole ≡ start_text name attrs slash ++ rest → is_void name ≡ true → is_start name attrs slash ≡ true → Shape Between (suc room) os e rest
    → Shape Between (suc room) os (with_token (Start name attrs slash) e) whole
with_void name attrs slash rest whole os room e w v s (tail, text_is, allowed, tails) =
    made_so Between (suc room) os whole (with_token (Start name attrs slash) e) (record { raw = []; here = Void name attrs slash e.here; outer = e.outer }) (void_made name attrs slash e v) (
      tail,
      w ∙ ap (λ (l : List ℕ). start_text name attrs slash ++ l) text_is ∙ sym (append_assoc (start_text name attrs slash) (spelling e.here) tail),
      and_both (is_void name && is_start name attrs slash) (is_forest (suc room) e.here) (and_both (is_void name) (is_start name attrs slash) v s) allowed,
      tails,
    )

no_slash : (name : List ℕ) (attrs : List Attr) (slash : Bool) → is_start name attrs slash ≡ true → is_void name ≡ false → slash ≡ false
no_slash name attrs true e v = absurd (cut (is_void name) (and_right (is_tag_name name && are_attrs attrs) (is_void name) e) v)
no_slash name attrs false e v = refl

regrouped : (a b c d e : List ℕ) → a ++ (b ++ (c ++ (d ++ e))) ≡ (((a ++ b) ++ c) ++ d) ++ e
regrouped a b c d e = simp append_assoc

with_element_by : (name : List ℕ) (attrs : List Attr) (from : ℕ) (rest whole tail : List ℕ) (os : List OpenElement) (room : ℕ) (here : Forest) (outer : List Forest) → whole ≡ start_text name attrs false ++ rest → is_void name ≡ false → is_raw name ≡ false → is_start name attrs false ≡ true
    → rest ≡ spelling here ++ tail → is_forest room here ≡ true → Tail room (record { name = name; at = from } ∷ os) outer tail
    → Shape Between (suc room) os (record { raw = []; here = Element name attrs here (first_forest outer); outer = drop 1 outer }) whole
with_element_by name attrs from rest whole tail os room here [] w v r s text_is allowed tails = absurd tails
with_element_by name attrs from rest whole tail os room here (f ∷ fs) w v r s text_is allowed (left, tail_is, more, tails) = (
  left,
  w ∙ ap (λ (l : List ℕ). start_text name attrs false ++ l) (text_is ∙ ap (λ (l : List ℕ). spelling here ++ l) tail_is) ∙ regrouped (start_text name attrs false) (spelling here) (end_text name) (spelling f) left,
  and_both (not (is_void name) && not (is_raw name) && is_start name attrs false && is_forest room here) (is_forest (suc room) f)
      (and_both (not (is_void name) && not (is_raw name) && is_start name attrs false) (is_forest room here)
      (and_both (not (is_void name) && not (is_raw name)) (is_start name attrs false) (and_both (not (is_void name)) (not (is_raw name)) (flip (is_void name) v) (flip (is_raw name) r)) s) allowed) more,
  tails,
)

with_raw_by : (name : List ℕ) (attrs : List Attr) (from : ℕ) (raw rest whole tail : List ℕ) (os : List OpenElement) (room : ℕ) (outer : List Forest) → whole ≡ start_text name attrs false ++ rest → is_raw name ≡ true → is_start name attrs false ≡ true
    → rest ≡ raw ++ tail → is_verbatim (end_text name) raw ≡ true → Tail room (record { name = name; at = from } ∷ os) outer tail
    → Shape Between (suc room) os (record { raw = []; here = RawElement name attrs raw (first_forest outer); outer = drop 1 outer }) whole
with_raw_by name attrs from raw rest whole tail os room [] w r s text_is fits tails = absurd tails
with_raw_by name attrs from raw rest whole tail os room (f ∷ fs) w r s text_is fits (left, tail_is, more, tails) = (
  left,
  w ∙ ap (λ (l : List ℕ). start_text name attrs false ++ l) (text_is ∙ ap (λ (l : List ℕ). raw ++ l) tail_is) ∙ regrouped (start_text name attrs false) raw (end_text name) (spelling f) left,
  and_both (is_raw name && is_start name attrs false && is_verbatim (end_text name) raw) (is_forest (suc room) f)
      (and_both (is_raw name && is_start name attrs false) (is_verbatim (end_text name) raw) (and_both (is_raw name) (is_start name attrs false) r s) fits) more,
  tails,
)

with_element : (name : List ℕ) (attrs : List Attr) (from : ℕ) (rest whole : List ℕ) (os : List OpenElement) (room : ℕ) (e : Ending) → whole ≡ start_text name attrs false ++ rest → is_void name ≡ false → is_raw name ≡ false → is_start name attrs false ≡ true
    → Shape Between room (record { name = name; at = from } ∷ os) e rest → Shape Between (suc room) os (with_token (Start name attrs false) e) whole
with_element name attrs from rest whole os room e w v r s (tail, text_is, allowed, tails) =
    made_so Between (suc room) os whole (with_token (Start name attrs false) e) (record { raw = []; here = Element name attrs e.here (first_forest e.outer); outer = drop 1 e.outer }) (element_made name attrs false e v r)
    (with_element_by name attrs from rest whole tail os room e.here e.outer w v r s text_is allowed tails)

with_raw : (name : List ℕ) (attrs : List Attr) (from : ℕ) (rest whole : List ℕ) (os : List OpenElement) (room : ℕ) (e : Ending) → whole ≡ start_text name attrs false ++ rest → is_raw name ≡ true → is_start name attrs false ≡ true
    → Shape (After name) room (record { name = name; at = from } ∷ os) e rest → Shape Between (suc room) os (with_token (Start name attrs false) e) whole
with_raw name attrs from rest whole os room e w r s (tail, text_is, fits, nothing, tails) =
    made_so Between (suc room) os whole (with_token (Start name attrs false) e) (record { raw = []; here = RawElement name attrs e.raw (first_forest e.outer); outer = drop 1 e.outer }) (raw_made name attrs false e (raw_not_void name r) r)
    (with_raw_by name attrs from e.raw rest whole tail os room e.outer w r s text_is fits tails)

-- the elements that are open after a start tag
pub start_full : (name : List ℕ) (from : ℕ) (os : List OpenElement) → (length os == 200) ≡ true → after_start name from os ≡ Err (TooDeep from)
start_full name from os e = rw e refl

pub start_void : (name : List ℕ) (from : ℕ) (os : List OpenElement) → (length os == 200) ≡ false → is_void name ≡ true → after_start name from os ≡ Ok os
start_void name from os e v = rw (e, v) refl

pub start_open : (name : List ℕ) (from : ℕ) (os : List OpenElement) → (length os == 200) ≡ false → is_void name ≡ false → after_start name from os ≡ Ok (record { name = name; at = from } ∷ os)
start_open name from os e v = rw (e, v) refl

same_opens : (r : Result (List OpenElement) ForestFault) (os os2 : List OpenElement) → r ≡ Ok os → r ≡ Ok os2 → os2 ≡ os
same_opens r os os2 e f = ap (ok_opens os) (sym f ∙ e)

plain_after : (name : List ℕ) (attrs : List Attr) (slash : Bool) → is_raw name ≡ false → mode_after (Start name attrs slash) ≡ Between
plain_after name attrs slash e = rw e refl

raw_after : (name : List ℕ) (attrs : List Attr) (slash : Bool) → is_raw name ≡ true → mode_after (Start name attrs slash) ≡ After name
raw_after name attrs slash e = rw e refl

at_start : (name : List ℕ) (attrs : List Attr) (slash : Bool) (from : ℕ) (rest whole : List ℕ) (os os2 : List OpenElement) (room : ℕ) (e : Ending) → length os + suc room ≡ 200 → whole ≡ start_text name attrs slash ++ rest → is_start name attrs slash ≡ true → (length os == 200) ≡ false
    → after_start name from os ≡ Ok os2 → Following (mode_after (Start name attrs slash)) os2 e rest → Shape Between (suc room) os (with_token (Start name attrs slash) e) whole
at_start name attrs slash from rest whole os os2 room e n w s full a later =
    elim (cases_Bool (is_void name)) [
      | inl v ↦
          let opened = same_opens (after_start name from os) os os2 (start_void name from os full v) a in
          let on_void : Following Between os e rest = subst (λ (o : List OpenElement). Following Between o e rest) opened (subst (λ (m : Mode). Following m os2 e rest) (plain_after name attrs slash (void_not_raw name v)) later) in
          with_void name attrs slash rest whole os room e w v s (on_void (suc room) n tt)
      | inr v ↦
          let here : OpenElement = record { name = name; at = from } in
          let opened = same_opens (after_start name from os) (here ∷ os) os2 (start_open name from os full v) a in
          let none = no_slash name attrs slash s v in
          let s2 : is_start name attrs false ≡ true = subst (λ (x : Bool). is_start name attrs x ≡ true) none s in
          let w2 : whole ≡ start_text name attrs false ++ rest = subst (λ (x : Bool). whole ≡ start_text name attrs x ++ rest) none w in
          let made : Shape Between (suc room) os (with_token (Start name attrs false) e) whole =
          elim (cases_Bool (is_raw name)) [
            | inl r ↦
                let on_raw : Following (After name) (here ∷ os) e rest = subst (λ (o : List OpenElement). Following (After name) o e rest) opened (subst (λ (m : Mode). Following m os2 e rest) (raw_after name attrs slash r) later) in
                with_raw name attrs from rest whole os room e w2 r s2 (on_raw room (omega arith) (start_named name attrs slash s, refl))
            | inr r ↦
                let on_element : Following Between (here ∷ os) e rest = subst (λ (o : List OpenElement). Following Between o e rest) opened (subst (λ (m : Mode). Following m os2 e rest) (plain_after name attrs slash r) later) in
                with_element name attrs from rest whole os room e w2 v r s2 (on_element room (omega arith) tt)
          ] in
          subst (λ (x : Bool). Shape Between (suc room) os (with_token (Start name attrs x) e) whole) (sym none) made
    ]

at_full : (name : List ℕ) (attrs : List Attr) (slash : Bool) (from : ℕ) (rest whole : List ℕ) (os os2 : List OpenElement) (room : ℕ) (e : Ending) → length os + room ≡ 200 → whole ≡ start_text name attrs slash ++ rest → is_start name attrs slash ≡ true
    → after_start name from os ≡ Ok os2 → Following (mode_after (Start name attrs slash)) os2 e rest → Shape Between room os (with_token (Start name attrs slash) e) whole
at_full name attrs slash from rest whole os os2 zero e n w s a later = absurd (fails (after_start name from os) (TooDeep from) os2 (start_full name from os (eq-eqb (length os) 200 (omega arith))) a)
at_full name attrs slash from rest whole os os2 (suc room) e n w s a later = at_start name attrs slash from rest whole os os2 room e n w s (ne_200 (length os) (omega arith)) a later

-- an end tag closes the innermost element
end_closes : (name : List ℕ) (from : ℕ) (o : OpenElement) (os os2 : List OpenElement) → after_end name from (o ∷ os) ≡ Ok os2 → (os2 ≡ os) × (o.name ≡ name)
end_closes name from o os os2 a =
    elim (cases_Bool (is_void name)) [
      | inl v ↦ absurd (fails (after_end name from (o ∷ os)) (Stray from) os2 (rw v refl) a)
      | inr v ↦
          elim (cases_Bool (name_same o.name name)) [
            | inl same ↦ (same_opens (after_end name from (o ∷ os)) os os2 (rw (v, same) refl) a, equal_names o.name name same)
            | inr other ↦ absurd (fails (after_end name from (o ∷ os)) (Mismatched from) os2 (rw (v, other) refl) a)
          ]
    ]

at_end_tag : (name : List ℕ) (from : ℕ) (rest whole : List ℕ) (os os2 : List OpenElement) (room : ℕ) (e : Ending) → length os + room ≡ 200 → whole ≡ end_text name ++ rest → after_end name from os ≡ Ok os2 → Following Between os2 e rest → Tail room os (e.here ∷ e.outer) whole
at_end_tag name from rest whole [] os2 room e n w a later = absurd (fails (after_end name from []) (Stray from) os2 refl a)
at_end_tag name from rest whole (o ∷ os) os2 room e n w a later =
    let c = end_closes name from o os os2 a in
    let follows : Following Between os e rest = subst (λ (x : List OpenElement). Following Between x e rest) c.0 later in
    with_end Between name rest whole o os room e w c.1 (follows (suc room) (omega arith) tt)

step_between : (k : Token) (from : ℕ) (rest whole : List ℕ) (os os2 : List OpenElement) (room : ℕ) (e : Ending) → length os + room ≡ 200 → whole ≡ token_text k ++ rest → is_token k ≡ true → MayFollow k rest → after_token k from os ≡ Ok os2 → Following (mode_after k) os2 e rest
    → Shape Between room os (with_token k e) whole
step_between (Start name attrs slash) from rest whole os os2 room e n w s f a later = at_full name attrs slash from rest whole os os2 room e n w s a later
step_between (End name) from rest whole os os2 room e n w s f a later = (whole, refl, refl, at_end_tag name from rest whole os os2 room e n w a later)
step_between (Chars text) from rest whole os os2 room e n w s f a later =
    let follows : Following Between os e rest = subst (λ (x : List OpenElement). Following Between x e rest) (same_opens (Ok os) os os2 refl a) later in
    with_text text rest whole os room e w s f (follows room n tt)
step_between (Raw text) from rest whole os os2 room e n w s f a later = absurd cc
step_between (Comment text) from rest whole os os2 room e n w s f a later =
    let follows : Following Between os e rest = subst (λ (x : List OpenElement). Following Between x e rest) (same_opens (Ok os) os os2 refl a) later in
    with_comment text rest whole os room e w s (follows room n tt)

with_inner : (name inner rest left whole : List ℕ) (os : List OpenElement) (room : ℕ) (e : Ending) → whole ≡ inner ++ rest → rest ≡ end_text name ++ left → is_verbatim (end_text name) inner ≡ true → Shape Between room os e rest → Shape (After name) room os (with_token (Raw inner) e) whole
with_inner name inner rest left whole os room e w closes fits (tail, text_is, allowed, tails) =
    let nothing = closing_nothing e.here room tail name left allowed (sym text_is ∙ closes) in
    (tail, w ∙ ap (λ (l : List ℕ). inner ++ l) (text_is ∙ ap (λ (f : Forest). spelling f ++ tail) nothing), fits, nothing, tails)

step_raw : (name : List ℕ) (k : Token) (at from to : ℕ) (rest whole : List ℕ) (os os2 : List OpenElement) (room : ℕ) (e : Ending) → length os + room ≡ 200 → after_token k from os ≡ Ok os2 → Following (mode_after k) os2 e rest
    → RawRead at name whole k to → ((some left : List ℕ) → whole ≡ some ++ left → to ≡ at + length some → rest ≡ left) → Shape (After name) room os (with_token k e) whole
step_raw name k at from to rest whole os os2 room e n a later (Inner inner left is text_is to_is lt fits) same =
    let a2 : Ok os ≡ Ok os2 = subst (λ (x : Token). after_token x from os ≡ Ok os2) is a in
    let later2 : Following Between os2 e rest = subst (λ (x : Token). Following (mode_after x) os2 e rest) is later in
    let follows : Following Between os e rest = subst (λ (x : List OpenElement). Following Between x e rest) (same_opens (Ok os) os os2 refl a2) later2 in
    let left_is = same inner (end_text name ++ left) text_is to_is in
    subst (λ (x : Token). Shape (After name) room os (with_token x e) whole) (sym is) (with_inner name inner rest left whole os room e (text_is ∙ ap (λ (l : List ℕ). inner ++ l) (sym left_is)) left_is fits (follows room n tt))
step_raw name k at from to rest whole os os2 room e n a later (Closing left is text_is to_is) same =
    let a2 : after_end name from os ≡ Ok os2 = subst (λ (x : Token). after_token x from os ≡ Ok os2) is a in
    let later2 : Following Between os2 e rest = subst (λ (x : Token). Following (mode_after x) os2 e rest) is later in
    let left_is = same (end_text name) left text_is to_is in
    subst (λ (x : Token). Shape (After name) room os (with_token x e) whole) (sym is) (whole, refl, refl, refl, at_end_tag name from rest whole os os2 room e n (text_is ∙ ap (λ (l : List ℕ). end_text name ++ l) (sym left_is)) a2 later2)

pub rests : (at to : ℕ) (whole some rest other left : List ℕ) → whole ≡ some ++ rest → to ≡ at + length some → whole ≡ other ++ left → to ≡ at + length other → rest ≡ left
rests at to whole some rest other left e n f m =
    let len : length some ≡ length other = omega arith in
    sym (drop-append_seam some rest) ∙ ap (drop (length some)) (sym e ∙ f) ∙ ap (λ (k : ℕ). drop k (other ++ left)) len ∙ drop-append_seam other left

-- ---- the end

never_none : (r : Result (Token × ℕ) ScanFault) → some_token r ≡ Ok None → ⊥
never_none (Err f) e = cc
never_none (Ok p) e = cc

abbrev as_text : ℕ → List ℕ → ℕ → Step
as_text at text x = Ok (Some (Chars (take (x - at) text), x))

never_none_text : (at : ℕ) (text : List ℕ) (r : Result ℕ ScanFault) → (r >>= as_text at text) ≡ Ok None → ⊥
never_none_text at text (Err f) e = cc
never_none_text at text (Ok x) e = cc

failed_no_end : (f : ScanFault) (at : ℕ) (text : List ℕ) → token_at (Failed f) at text ≡ Ok None → ⊥
unfolding token_at
failed_no_end f at text e = cc

pub none_text : (at : ℕ) (text : List ℕ) → token_at Between at text ≡ Ok None → text ≡ []
unfolding token_at between_at
none_text at [] e = refl
none_text at (b ∷ bs) e =
    elim (cases_Bool (b == 60)) [
      | inl tag ↦ let h : some_token (tag_at at bs) ≡ Ok None = rw tag at e in absurd (never_none (tag_at at bs) h)
      | inr other ↦ absurd (never_none_text at (b ∷ bs) (run_end None 60 at (b ∷ bs)) (rw other at e))
    ]

shape_end : (m : Mode) (at room : ℕ) (os : List OpenElement) (text : List ℕ) (last : Option ScanFault) → Fits m os → ReadsTokens m at text [] last → fault_at_end os last ≡ None → Shape m room os (ending []) text
shape_end m at room [] text (Some f) fits r e = absurd (some_none _ e)
shape_end m at room (o ∷ os) text (Some f) fits r e = absurd (some_none _ e)
shape_end m at room (o ∷ os) text None fits r e = absurd (some_none _ e)
shape_end Between at room [] text None fits r e = ([], none_text at text r, refl, refl)
shape_end (After name) at room [] text None fits r e = absurd fits
shape_end (Failed f) at room [] text None fits r e = absurd (failed_no_end f at text r)

-- ---- all tokens

right : (ts : List Placed) (last : Option ScanFault) (m : Mode) (at room : ℕ) (os : List OpenElement) (text : List ℕ) → length os + room ≡ 200 → Fits m os → ReadsTokens m at text ts last → fault_in last os ts ≡ None → Shape m room os (ending ts) text
right [] last m at room os text n fits r e = shape_end m at room os text last fits r e
right (t ∷ ts) last Between at room os text n fits (read, from, rest, some, parts, to, lt, r) e =
    let o = or_none (after_token t.token t.from os) (λ os. fault_in last os ts) e in
    let f = token_found at text t.token t.to read in
    let same = rests at t.to text some rest (token_text t.token) f.rest parts to f.text_is f.to_is in
    step_between t.token t.from rest text os o.0 room (ending ts) n (f.text_is ∙ ap (λ (l : List ℕ). token_text t.token ++ l) (sym same)) f.allowed (subst (MayFollow t.token) (sym same) f.follows) o.1
    (λ room2 n2 fits2. right ts last (mode_after t.token) t.to room2 o.0 rest n2 fits2 r o.2)
right (t ∷ ts) last (After name) at room os text n fits (read, from, rest, some, parts, to, lt, r) e =
    let o = or_none (after_token t.token t.from os) (λ os. fault_in last os ts) e in
    let f = raw_found at name text t.token t.to (fits_named (After name) os fits) read in
    step_raw name t.token at t.from t.to rest text os o.0 room (ending ts) n o.1
    (λ room2 n2 fits2. right ts last (mode_after t.token) t.to room2 o.0 rest n2 fits2 r o.2) f
    (λ other left w k. rests at t.to text some rest other left parts to w k)
right (t ∷ ts) last (Failed g) at room os text n fits (read, from, rest, some, parts, to, lt, r) e = absurd (failed_never g at text t.token t.to read)

no_tail : (room : ℕ) (outer : List Forest) (tail : List ℕ) → Tail room [] outer tail → tail ≡ []
no_tail room [] tail e = e
no_tail room (f ∷ fs) tail e = absurd e

no_fault_is : (text : List ℕ) → fault_of text ≡ None → fault_in (tokens_of text).fault [] (tokens_of text).tokens ≡ None
unfolding fault_of
no_fault_is text e = e

whole_by : (text : List ℕ) (e : Ending) → Shape Between 200 [] e text → (spelling e.here ≡ text) × (is_forest 200 e.here ≡ true)
whole_by text e (tail, text_is, allowed, tails) = (sym (text_is ∙ ap (λ (l : List ℕ). spelling e.here ++ l) (no_tail 200 e.outer tail tails) ∙ append-nil (spelling e.here)), allowed)

pub made_of_tokens : (text : List ℕ) → fault_of text ≡ None → (spelling ((ending ((tokens_of text).tokens)).here) ≡ text) × (is_forest 200 ((ending ((tokens_of text).tokens)).here) ≡ true)
made_of_tokens text e = whole_by text (ending ((tokens_of text).tokens)) (right (tokens_of text).tokens (tokens_of text).fault Between 0 200 [] text refl tt (runs_of text) (no_fault_is text e))

no_forest : (f : Forest) → None ≡ Some f → ⊥
no_forest f e = cc

forest_fails : (text : List ℕ) (f : ForestFault) → fault_of text ≡ Some f → forest_of text ≡ None
forest_fails text f e = rw (e, forest_of) refl

some_same : (f g : Forest) → Some f ≡ Some g → f ≡ g
some_same f g e = cc

reads_right_by : (text : List ℕ) (f : Forest) (r : Option ForestFault) → fault_of text ≡ r → forest_of text ≡ Some f → (spelling f ≡ text) × (is_forest 200 f ≡ true)
reads_right_by text f (Some g) e h = absurd (no_forest f (sym (forest_fails text g e) ∙ h))
reads_right_by text f None e h =
    let same = some_same ((ending ((tokens_of text).tokens)).here) f (sym (forest_by text e) ∙ h) in
    subst (λ (x : Forest). (spelling x ≡ text) × (is_forest 200 x ≡ true)) same (made_of_tokens text e)

pub reads_right : (text : List ℕ) (f : Forest) → forest_of text ≡ Some f → (spelling f ≡ text) × (is_forest 200 f ≡ true)
reads_right text f h = reads_right_by text f (fault_of text) refl h
