-- A fault that isn't one of the text's end stands: tokens and forests.
use Rattle.std.proofs.Common.{◌≡◌, ℕ, suc, ◌+◌, ◌-◌, ◌<◌, Bool, true, false, not, List, [], ◌∷◌, ◌++◌, length, drop, take, Option, Some, None, Result, Ok, Err, refl, sym, ap, ◌∙◌, arith, eqb-true, append_assoc, inl, inr, ◌⊎◌}
use Rattle.std.specs.Prelude.{◌==◌}
use Rattle.std.proofs.lemmas.List.{drop-drop, length-append}
use Rattle.std.proofs.Math.Seq.{drop-append_seam}
use Rattle.std.proofs.lemmas.Bool.{cases_Bool}
use Rattle.std.proofs.lemmas.Bool.Decides.{nat_tests}
use Rattle.std.specs.List.{list_all}
use Rattle.model_spelling.specs.declared.scan_fault.ScanFault.{ScanFault}
use Rattle.model_spelling.specs.declared.scan_fault.ScanWhat.TheVariants.{UnclosedComment, UnclosedTag, UnclosedRaw}
use Rattle.model_spelling.specs.Grammar.{is_barred, is_name_byte, is_tag_name, is_verbatim, Token, Start, End, Chars, Raw, Comment, token_text, end_text}
use Rattle.model_spelling.specs.Reading.{◌>>=◌, fault, run_end, verbatim_end, some_token, tag_at, between_at, token_at, Mode, Between, After, Failed, Step, mode_after}
use Rattle.model_spelling.specs.Tokens.{Placed, Tokens, tokens_from, tokens_of, MayFollow, Inner, Closing, ReadsTokens}
use Rattle.model_spelling.specs.Faults.{OpenElement, ForestFault, Scan, Unclosed, fault_in, fault_at_end, fault_of, after_token, or_fault}
use Rattle.model_spelling.specs.Standing.{stands, forest_stands}
use Rattle.model_spelling.proofs.AttrReading.{and_left, and_right}
use Rattle.model_spelling.proofs.Only.{and_both, both, token_only, raw_only, raw_none, raw_by, none_by, name_parts, end_tag_only, end_length}
use Rattle.model_spelling.proofs.Back.{runs_all}
use Rattle.model_spelling.proofs.Found.{not_ok}
use Rattle.model_spelling.proofs.FoundTokens.{token_found, raw_found, raw_fails, verbatim_parts, empty_list}
use Rattle.model_spelling.proofs.Right.{Named, part_of, run_of, runs_of, some_none, failed_never}
use Rattle.model_spelling.proofs.Stays.{err, err_same, run_stays, verbatim_stays}
use Rattle.model_spelling.proofs.StaysTags.{tag_stays}

-- ---- one fault

not_open : (tag : ℕ) (whole : List ℕ) (f : ScanFault) → stands whole f ≡ true → f ≡ fault tag UnclosedTag → ⊥
not_open tag whole f s e = let h : false ≡ true = ap (stands whole) (sym e) ∙ s in cc

not_comment : (tag : ℕ) (whole : List ℕ) (f : ScanFault) → stands whole f ≡ true → f ≡ fault tag UnclosedComment → ⊥
not_comment tag whole f s e = let h : false ≡ true = ap (stands whole) (sym e) ∙ s in cc

not_raw : (at : ℕ) (whole : List ℕ) (f : ScanFault) → stands whole f ≡ true → f ≡ fault at UnclosedRaw → ⊥
not_raw at whole f s e = let h : false ≡ true = ap (stands whole) (sym e) ∙ s in cc

pub token_fails : (r : Result (Token × ℕ) ScanFault) (f : ScanFault) → some_token r ≡ Err f → r ≡ Err f
token_fails (Err g) f e = ap err (err_same (some_token (Err g)) g f refl e)
token_fails (Ok p) f e = absurd (not_ok (some_token (Ok p)) f (Some p) e refl)

abbrev pub as_text : ℕ → List ℕ → ℕ → Step
as_text at text x = Ok (Some (Chars (take (x - at) text), x))

pub text_fails : (at : ℕ) (text : List ℕ) (r : Result ℕ ScanFault) (f : ScanFault) → (r >>= as_text at text) ≡ Err f → r ≡ Err f
text_fails at text (Err g) f e = ap err (err_same (Err g >>= as_text at text) g f refl e)
text_fails at text (Ok x) f e = absurd (not_ok (Ok x >>= as_text at text) f (Some (Chars (take (x - at) text), x)) e refl)

tag_to_step : (r : Result (Token × ℕ) ScanFault) (f : ScanFault) → r ≡ Err f → some_token r ≡ Err f
tag_to_step r f e = ap some_token e

text_to_step : (at : ℕ) (text : List ℕ) (r : Result ℕ ScanFault) (f : ScanFault) → r ≡ Err f → (r >>= as_text at text) ≡ Err f
text_to_step at text r f e = ap (λ (x : Result ℕ ScanFault). x >>= as_text at text) e

between_stays : (at : ℕ) (text more whole : List ℕ) (f : ScanFault) → drop at whole ≡ text → stands whole f ≡ true → between_at at text ≡ Err f → between_at at (text ++ more) ≡ Err f
unfolding between_at
between_stays at [] more whole f here s e = absurd cc
between_stays at (b ∷ bs) more whole f here s e =
    elim (cases_Bool (b == 60)) [
      | inl tag ↦
          let h : some_token (tag_at at bs) ≡ Err f = rw tag at e in
          rw tag (tag_to_step (tag_at at (bs ++ more)) f (tag_stays at bs more whole f (here ∙ ap (λ (x : ℕ). x ∷ bs) (eqb-true b 60 tag)) s (not_open at whole f s) (not_comment at whole f s) (token_fails (tag_at at bs) f h)))
      | inr other ↦
          let h : (run_end None 60 at (b ∷ bs) >>= as_text at (b ∷ bs)) ≡ Err f = rw other at e in
          rw other (text_to_step at (b ∷ (bs ++ more)) (run_end None 60 at (b ∷ (bs ++ more))) f (run_stays None 60 at whole (b ∷ bs) more f here s (text_fails at (b ∷ bs) (run_end None 60 at (b ∷ bs)) f h)))
    ]

name_unbarred : (b : ℕ) → is_name_byte b ≡ true → not (is_barred b) ≡ true
unfolding is_barred
name_unbarred b e = grind (arith, nat_tests)

names_unbarred : (bs : List ℕ) → list_all is_name_byte bs ≡ true → list_all (λ b. not (is_barred b)) (bs ++ 62 ∷ []) ≡ true
unfolding is_barred
names_unbarred [] e = refl
names_unbarred (b ∷ bs) e = and_both (not (is_barred b)) (list_all (λ b. not (is_barred b)) (bs ++ 62 ∷ [])) (name_unbarred b (and_left (is_name_byte b) (list_all is_name_byte bs) e)) (names_unbarred bs (and_right (is_name_byte b) (list_all is_name_byte bs) e))

end_unbarred : (name : List ℕ) → is_tag_name name ≡ true → list_all (λ b. not (is_barred b)) (end_text name) ≡ true
unfolding is_barred
end_unbarred name e = let p = name_parts name e in names_unbarred name p.all

-- the fault after a raw element's start tag
pub raw_never : (at x : ℕ) (name text : List ℕ) (f : ScanFault) (b : Bool) → is_tag_name name ≡ true → (x == at) ≡ b → verbatim_end (end_text name) (fault at UnclosedRaw) at text ≡ Ok x → token_at (After name) at text ≡ Err f → ⊥
raw_never at x name text f true n e v h =
    let p = verbatim_parts (end_text name) (fault at UnclosedRaw) at x text (omega (arith, end_length name)) v in
    let none : p.inner ≡ [] = empty_list p.inner (omega (arith, p.to_is, eqb-true x at e)) in
    let text_is : text ≡ end_text name ++ p.rest = p.text_is ∙ ap (λ (l : List ℕ). l ++ (end_text name ++ p.rest)) none in
    not_ok (token_at (After name) at text) f (Some (End name, at + length (end_text name))) h (none_by name at x text v e ∙ ap (between_at at) text_is ∙ end_tag_only at name p.rest n)
raw_never at x name text f false n e v h = not_ok (token_at (After name) at text) f (Some (Raw (take (x - at) text), x)) h (raw_by name at x text v e)

raw_stays_by : (at : ℕ) (name text more whole : List ℕ) (f : ScanFault) (r : Result ℕ ScanFault) → is_tag_name name ≡ true → stands whole f ≡ true → verbatim_end (end_text name) (fault at UnclosedRaw) at text ≡ r → token_at (After name) at text ≡ Err f → token_at (After name) at (text ++ more) ≡ Err f
raw_stays_by at name text more whole f (Err g) n s v e =
    let same = err_same (token_at (After name) at text) g f (raw_fails at name text g v) e in
    raw_fails at name (text ++ more) f (verbatim_stays (end_text name) (fault at UnclosedRaw) f at text more (end_unbarred name n) (not_raw at whole f s) (v ∙ ap err same))
raw_stays_by at name text more whole f (Ok x) n s v e = absurd (raw_never at x name text f (x == at) n refl v e)

token_stays : (m : Mode) (at : ℕ) (text more whole : List ℕ) (f : ScanFault) → Named m → drop at whole ≡ text → stands whole f ≡ true → token_at m at text ≡ Err f → token_at m at (text ++ more) ≡ Err f
unfolding token_at
token_stays Between at text more whole f n here s e = between_stays at text more whole f here s e
token_stays (After name) at text more whole f n here s e = raw_stays_by at name text more whole f (verbatim_end (end_text name) (fault at UnclosedRaw) at text) n s refl e
token_stays (Failed g) at text more whole f n here s e = e

-- ---- a token stays where something follows it, or where it is no text

may_more : (t : Token) (rest more : List ℕ) → 0 < length rest → MayFollow t rest → MayFollow t (rest ++ more)
may_more (Start name attrs slash) rest more lt f = tt
may_more (End name) rest more lt f = tt
may_more (Chars text) [] more lt f = absurd (omega arith)
may_more (Chars text) (b ∷ bs) more lt f = f
may_more (Raw text) rest more lt f = tt
may_more (Comment text) rest more lt f = tt

-- the token is no text
abbrev pub IsMarkup : Token → Type 0
IsMarkup (Start name attrs slash) = Unit {0}
IsMarkup (End name) = Unit {0}
IsMarkup (Chars text) = ⊥
IsMarkup (Raw text) = Unit {0}
IsMarkup (Comment text) = Unit {0}

may_always : (t : Token) (rest : List ℕ) → IsMarkup t → MayFollow t rest
may_always (Start name attrs slash) rest m = tt
may_always (End name) rest m = tt
may_always (Chars text) rest m = absurd m
may_always (Raw text) rest m = tt
may_always (Comment text) rest m = tt

pub longer : (text prefix suffix more : List ℕ) → text ≡ prefix ++ suffix → text ++ more ≡ prefix ++ (suffix ++ more)
longer text prefix suffix more e = ap (λ (l : List ℕ). l ++ more) e ∙ append_assoc prefix suffix more

raw_comes : (at : ℕ) (name inner rest : List ℕ) → 0 < length inner → is_verbatim (end_text name) inner ≡ true → token_at (After name) at (inner ++ (end_text name ++ rest)) ≡ Ok (Some (Raw inner, at + length inner))
raw_comes at name [] rest lt fits = absurd (omega arith)
raw_comes at name (b ∷ bs) rest lt fits = raw_only at name b bs rest fits

raw_longer : (text inner close rest more : List ℕ) → text ≡ inner ++ (close ++ rest) → text ++ more ≡ inner ++ (close ++ (rest ++ more))
raw_longer text inner close rest more e = longer text inner (close ++ rest) more e ∙ ap (λ (l : List ℕ). inner ++ l) (append_assoc close rest more)

pub token_more : (m : Mode) (at : ℕ) (text more : List ℕ) (t : Token) (to : ℕ) → Named m → token_at m at text ≡ Ok (Some (t, to)) → ((rest : List ℕ) → text ≡ token_text t ++ rest → (0 < length rest) ⊎ IsMarkup t) → token_at m at (text ++ more) ≡ Ok (Some (t, to))
token_more Between at text more t to n e some =
    let f = token_found at text t to e in
    let follows : MayFollow t (f.rest ++ more) = elim (some f.rest f.text_is) [ inl lt ↦ may_more t f.rest more lt f.follows | inr m ↦ may_always t (f.rest ++ more) m ] in
    ap (token_at Between at) (longer text (token_text t) f.rest more f.text_is) ∙ token_only at t (f.rest ++ more) f.allowed follows ∙ ap (λ (k : ℕ). Ok (Some (t, k))) (sym f.to_is)
token_more (After name) at text more t to n e some =
    elim (raw_found at name text t to n e) [
      | Inner inner rest is text_is to_is lt fits ↦
          ap (token_at (After name) at) (raw_longer text inner (end_text name) rest more text_is) ∙ raw_comes at name inner (rest ++ more) lt fits ∙ (λ i. Ok (Some (sym is i, sym to_is i)))
      | Closing rest is text_is to_is ↦
          ap (token_at (After name) at) (longer text (end_text name) rest more text_is) ∙ raw_none at name (rest ++ more) n ∙ (λ i. Ok (Some (sym is i, sym to_is i)))
    ]
token_more (Failed f) at text more t to n e some = absurd (failed_never f at text t to e)

-- ---- forests

-- tokens that come from here and have this fault
record Comes (m : Mode) (at : ℕ) (text : List ℕ) (os : List OpenElement) (e : ForestFault) : Type 0 where
  pub tokens : List Placed
  pub last : Option ScanFault
  pub runs : ReadsTokens m at text tokens last
  pub same : fault_in last os tokens ≡ Some e

pub scan_at_end : (os : List OpenElement) (f : ScanFault) → fault_at_end os (Some f) ≡ Some (Scan f)
scan_at_end [] f = refl
scan_at_end (o ∷ os) f = refl

pub fault_same : (e g : ForestFault) → Some e ≡ Some g → e ≡ g
fault_same e g h = cc

comes_end : (m : Mode) (at : ℕ) (text more whole : List ℕ) (os : List OpenElement) (last : Option ScanFault) (e : ForestFault) → Named m → drop at whole ≡ text → forest_stands whole e ≡ true → ReadsTokens m at text [] last → fault_at_end os last ≡ Some e → Comes m at (text ++ more) os e
comes_end m at text more whole [] None e n here s r h = absurd (some_none e (sym h))
comes_end m at text more whole (o ∷ os) None e n here s r h =
    let same = fault_same (Unclosed o.at) e h in
    absurd (both (forest_stands whole e) (ap (forest_stands whole) (sym same)) s)
comes_end m at text more whole os (Some f) e n here s r h =
    let same : Scan f ≡ e = fault_same (Scan f) e (sym (scan_at_end os f) ∙ h) in
    let st : stands whole f ≡ true = ap (forest_stands whole) same ∙ s in
    record { tokens = []; last = Some f; runs = token_stays m at text more whole f n here st r; same = h }

abbrev pub Goes : Placed → List OpenElement → Option ScanFault → List Placed → ForestFault → Type 0
Goes t os last ts e = (os2 : List OpenElement) × (after_token t.token t.from os ≡ Ok os2) × (fault_in last os2 ts ≡ Some e)

pub one_way : (t : Placed) (os : List OpenElement) (last : Option ScanFault) (ts : List Placed) (e : ForestFault) (r : Result (List OpenElement) ForestFault) → after_token t.token t.from os ≡ r → fault_in last os (t ∷ ts) ≡ Some e → (after_token t.token t.from os ≡ Err e) ⊎ Goes t os last ts e
one_way t os last ts e (Err g) a h =
    let first : Some g ≡ Some e = sym (ap (λ (x : Result (List OpenElement) ForestFault). or_fault x (λ os. fault_in last os ts)) a) ∙ h in
    inl (a ∙ ap (λ (x : ForestFault). Err x) (fault_same g e first))
one_way t os last ts e (Ok os2) a h = inr (os2, a, sym (ap (λ (x : Result (List OpenElement) ForestFault). or_fault x (λ os. fault_in last os ts)) a) ∙ h)

-- a token with a fault of its own is no text
faulty_markup : (t : Token) (from : ℕ) (os : List OpenElement) (e : ForestFault) → after_token t from os ≡ Err e → IsMarkup t
faulty_markup (Start name attrs slash) from os e a = tt
faulty_markup (End name) from os e a = tt
faulty_markup (Chars text) from os e a = let h : Ok os ≡ Err e = a in absurd cc
faulty_markup (Raw text) from os e a = tt
faulty_markup (Comment text) from os e a = tt

pub end_step : (at : ℕ) → token_at Between at [] ≡ Ok None
unfolding token_at between_at
end_step at = refl

pub none_some : {A : Type 0} (x : A) (s : Step) (y : Token × ℕ) → s ≡ Ok None → s ≡ Ok (Some y) → ⊥
none_some x s y e f = let h : Ok None ≡ Ok (Some y) = sym e ∙ f in cc

nothing_stands : (whole : List ℕ) (at : ℕ) (ts : List Placed) (last : Option ScanFault) (os : List OpenElement) (e : ForestFault) → ReadsTokens Between at [] ts last → fault_in last os ts ≡ Some e → forest_stands whole e ≡ true → ⊥
nothing_stands whole at [] (Some f) os e r h s = not_ok (token_at Between at []) f None r (end_step at)
nothing_stands whole at [] None [] e r h s = some_none e (sym h)
nothing_stands whole at [] None (o ∷ os) e r h s = both (forest_stands whole e) (ap (forest_stands whole) (sym (fault_same (Unclosed o.at) e h))) s
nothing_stands whole at (t ∷ ts) last os e (read, from, rest, some, parts, to, lt, r) h s = none_some at (token_at Between at []) (t.token, t.to) (end_step at) read

-- after a text at the end no fault comes that stands
after_text : (t : Token) (whole text rest : List ℕ) (at : ℕ) (ts : List Placed) (last : Option ScanFault) (os : List OpenElement) (e : ForestFault) → ReadsTokens (mode_after t) at rest ts last → fault_in last os ts ≡ Some e → forest_stands whole e ≡ true → (0 < length rest) ⊎ IsMarkup t
after_text (Start name attrs slash) whole text rest at ts last os e r h s = inr tt
after_text (End name) whole text rest at ts last os e r h s = inr tt
after_text (Raw inner) whole text rest at ts last os e r h s = inr tt
after_text (Comment inner) whole text rest at ts last os e r h s = inr tt
after_text (Chars inner) whole text (b ∷ bs) at ts last os e r h s = inl (omega arith)
after_text (Chars inner) whole text [] at ts last os e r h s = absurd (nothing_stands whole at ts last os e r h s)

pub named_after : (m : Mode) (at : ℕ) (text : List ℕ) (t : Placed) → Named m → token_at m at text ≡ Ok (Some (t.token, t.to)) → Named (mode_after t.token)
named_after m at text t n read = let p = part_of m at text t.token t.to n read in p.named

comes_here : (m : Mode) (at : ℕ) (text more rest some : List ℕ) (t : Placed) (os : List OpenElement) (e : ForestFault) → Named m → token_at m at text ≡ Ok (Some (t.token, t.to)) → t.from ≡ at → text ≡ some ++ rest → t.to ≡ at + length some → 0 < length some → after_token t.token t.from os ≡ Err e → Comes m at (text ++ more) os e
comes_here m at text more rest some t os e n read from parts to lt a =
    let named = named_after m at text t n read in
    let on = run_of (length (rest ++ more)) (mode_after t.token) t.to (rest ++ more) named (omega arith) in
    let ts = tokens_from (suc (length (rest ++ more))) (mode_after t.token) t.to (rest ++ more) in
    record {
      tokens = t ∷ ts.tokens;
      last = ts.fault;
      runs = (token_more m at text more t.token t.to n read (λ r w. inr (faulty_markup t.token t.from os e a)), from, rest ++ more, some, longer text some rest more parts, to, lt, on);
      same = ap (λ (x : Result (List OpenElement) ForestFault). or_fault x (λ os. fault_in ts.fault os ts.tokens)) a;
    }

comes_later : (m : Mode) (at : ℕ) (text more rest some : List ℕ) (t : Placed) (os os2 : List OpenElement) (e : ForestFault) → token_at m at (text ++ more) ≡ Ok (Some (t.token, t.to)) → t.from ≡ at → text ≡ some ++ rest → t.to ≡ at + length some → 0 < length some → after_token t.token t.from os ≡ Ok os2 → Comes (mode_after t.token) t.to (rest ++ more) os2 e → Comes m at (text ++ more) os e
comes_later m at text more rest some t os os2 e read from parts to lt a c = record {
  tokens = t ∷ c.tokens;
  last = c.last;
  runs = (read, from, rest ++ more, some, longer text some rest more parts, to, lt, c.runs);
  same = ap (λ (x : Result (List OpenElement) ForestFault). or_fault x (λ os. fault_in c.last os c.tokens)) a ∙ c.same;
}

pub drop_on : (at to : ℕ) (whole text some rest : List ℕ) → drop at whole ≡ text → text ≡ some ++ rest → to ≡ at + length some → drop to whole ≡ rest
drop_on at to whole text some rest here parts n =
    ap (λ (k : ℕ). drop k whole) n ∙ sym (drop-drop (length some) at whole) ∙ ap (drop (length some)) (here ∙ parts) ∙ drop-append_seam some rest

-- the length of a token is that of its text
pub token_len : (m : Mode) (at : ℕ) (text : List ℕ) (t : Token) (to : ℕ) → Named m → token_at m at text ≡ Ok (Some (t, to)) → to ≡ at + length (token_text t)
token_len Between at text t to n e = let f = token_found at text t to e in f.to_is
token_len (After name) at text t to n e =
    elim (raw_found at name text t to n e) [
      | Inner inner rest is text_is to_is lt fits ↦ to_is ∙ ap (λ (x : Token). at + length (token_text x)) (sym is)
      | Closing rest is text_is to_is ↦ to_is ∙ ap (λ (x : Token). at + length (token_text x)) (sym is)
    ]
token_len (Failed f) at text t to n e = absurd (failed_never f at text t to e)

kept_by : (t : Token) (rest other : List ℕ) → length rest ≡ length other → (0 < length rest) ⊎ IsMarkup t → (0 < length other) ⊎ IsMarkup t
kept_by t rest other e (inl lt) = inl (omega (arith, e))
kept_by t rest other e (inr m) = inr m

pub kept : (t : Token) (text rest other some : List ℕ) (at to : ℕ) → text ≡ some ++ rest → to ≡ at + length some → text ≡ token_text t ++ other → to ≡ at + length (token_text t) → (0 < length rest) ⊎ IsMarkup t → (0 < length other) ⊎ IsMarkup t
kept t text rest other some at to parts n w m h = kept_by t rest other (omega (arith, n, m, ap length parts, ap length w, length-append some rest, length-append (token_text t) other)) h

stay : (ts : List Placed) (last : Option ScanFault) (m : Mode) (at : ℕ) (text more whole : List ℕ) (os : List OpenElement) (e : ForestFault) → Named m → drop at whole ≡ text → forest_stands whole e ≡ true → ReadsTokens m at text ts last → fault_in last os ts ≡ Some e → Comes m at (text ++ more) os e
stay [] last m at text more whole os e n here s r h = comes_end m at text more whole os last e n here s r h
stay (t ∷ ts) last m at text more whole os e n here s (read, from, rest, some, parts, to, lt, r) h =
    elim (one_way t os last ts e (after_token t.token t.from os) refl h) [
      | inl a ↦ comes_here m at text more rest some t os e n read from parts to lt a
      | inr (os2, a, later) ↦
          let left = drop_on at t.to whole text some rest here parts to in
          let on = stay ts last (mode_after t.token) t.to rest more whole os2 e (named_after m at text t n read) left s r later in
          comes_later m at text more rest some t os os2 e
          (token_more m at text more t.token t.to n read (λ other w. kept t.token text rest other some at t.to parts to w (token_len m at text t.token t.to n read) (after_text t.token whole text rest t.to ts last os2 e r later s))) from parts to lt a on
    ]

pub fault_as : (text : List ℕ) → fault_of text ≡ fault_in (tokens_of text).fault [] (tokens_of text).tokens
unfolding fault_of
fault_as text = refl

pub fault_stands : (text more : List ℕ) (f : ForestFault) → fault_of text ≡ Some f → forest_stands text f ≡ true → fault_of (text ++ more) ≡ Some f
fault_stands text more f e s =
    let c = stay (tokens_of text).tokens (tokens_of text).fault Between 0 text more text [] f tt refl s (runs_of text) (sym (fault_as text) ∙ e) in
    fault_as (text ++ more) ∙ ap (λ (ts : Tokens). fault_in ts.fault [] ts.tokens) (runs_all (text ++ more) c.tokens c.last c.runs) ∙ c.same
