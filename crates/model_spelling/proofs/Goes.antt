-- A fault of the text's end goes when the right text follows.
use Rattle.std.proofs.Common.{◌≡◌, ℕ, ◌+◌, ◌<◌, Bool, true, false, cond, not, List, [], ◌∷◌, ◌++◌, length, drop, Option, Some, None, Result, Ok, Err, refl, sym, ap, ◌∙◌, arith, subst, inl, inr, ◌⊎◌}
use Rattle.std.specs.Prelude.{◌==◌}
use Rattle.std.proofs.lemmas.List.{append-nil}
use Rattle.model_spelling.specs.declared.scan_fault.ScanFault.{ScanFault}
use Rattle.model_spelling.specs.declared.scan_fault.ScanWhat.TheVariants.{BadTag, BadReference, Doctype, UnclosedRaw}
use Rattle.model_spelling.specs.Grammar.{begins_with, starts_reference, name_same, Token, Start, End, Chars, Raw, Comment, end_text}
use Rattle.ve_kinds.specs.Tags.{is_void}
use Rattle.model_spelling.specs.Reading.{fault, verbatim_end, token_at, Mode, Between, After, Failed, mode_after}
use Rattle.model_spelling.specs.Tokens.{Placed, Tokens, tokens_of, ReadsTokens}
use Rattle.model_spelling.specs.Faults.{OpenElement, ForestFault, Scan, Mismatched, Unclosed, Stray, TooDeep, fault_in, fault_at_end, fault_of, after_token, or_fault}
use Rattle.model_spelling.specs.Standing.{is_open, stands_by, stands, forest_stands, passes_reference, is_doctype_prefix, is_left_open, Lasts, MayGo}
use Rattle.model_spelling.proofs.Only.{both, or_both, token_only}
use Rattle.model_spelling.proofs.Found.{not_ok}
use Rattle.model_spelling.proofs.FoundTokens.{between_is}
use Rattle.model_spelling.proofs.Right.{runs_of, some_none}
use Rattle.model_spelling.proofs.Back.{runs_all}
use Rattle.model_spelling.proofs.StaysTokens.{IsMarkup, token_more, token_len, kept, drop_on, named_after, end_step, none_some, longer, one_way, scan_at_end, fault_same, fault_as, fault_stands}
use Rattle.model_spelling.proofs.CleanTokens.{Live, live_named, live_after, unclosed_goes}
use Rattle.model_spelling.proofs.Settled.{settled}
use Rattle.model_spelling.proofs.Cut.{CutText, CutMarkup, Cut, Settled, Reference, Markup, between_cut, raw_settled}

-- what becomes of the fault where this follows
data Ends (whole more : List ℕ) (f : ScanFault) (r : Option ForestFault) : Type 0 where
  Completed : fault f.at BadReference ≡ f → starts_reference (drop f.at (whole ++ more)) ≡ true → is_left_open r ≡ true → Ends whole more f r
  Known : fault f.at BadTag ≡ f → r ≡ Some (Scan (fault f.at Doctype)) → Ends whole more f r

-- a text that goes on
record Grown (whole : List ℕ) (m : Mode) (at : ℕ) (text : List ℕ) (os : List OpenElement) (f : ScanFault) : Type 0 where
  pub more : List ℕ
  pub tokens : List Placed
  pub last : Option ScanFault
  pub runs : ReadsTokens m at (text ++ more) tokens last
  pub ends : Ends whole more f (fault_in last os tokens)

-- ---- the last step

left_open : (os : List OpenElement) → is_left_open (fault_at_end os None) ≡ true
left_open [] = refl
left_open (o ∷ os) = refl

text_grown : (at b : ℕ) (bs whole : List ℕ) (os : List OpenElement) (f : ScanFault) → CutText whole (b ∷ bs) f → Grown whole Between at (b ∷ bs) os f
text_grown at b bs whole os f c =
    let text : List ℕ = b ∷ (bs ++ c.more) in
    let to : ℕ = at + length text in
    let read : token_at Between at text ≡ Ok (Some (Chars text, to)) = ap (token_at Between at) (sym (append-nil text)) ∙ token_only at (Chars text) [] c.run tt in
    record {
      more = c.more;
      tokens = record { token = Chars text; from = at; to = to } ∷ [];
      last = None;
      runs = (read, refl, [], text, sym (append-nil text), refl, omega arith, end_step to);
      ends = Completed c.is c.starts (left_open os);
    }

markup_grown : (at : ℕ) (text whole : List ℕ) (os : List OpenElement) (f : ScanFault) → CutMarkup at text f → Grown whole Between at text os f
markup_grown at text whole os f m =
    let place : at ≡ f.at = ap (λ (g : ScanFault). g.at) m.is in
    record {
      more = m.more;
      tokens = [];
      last = Some (fault at Doctype);
      runs = between_is at (text ++ m.more) ∙ m.whole;
      ends = Known (ap (λ (k : ℕ). fault k BadTag) (sym place) ∙ m.is) (scan_at_end os (fault at Doctype) ∙ ap (λ (k : ℕ). Some (Scan (fault k Doctype))) place);
    }

cut_grown : (at : ℕ) (text whole : List ℕ) (os : List OpenElement) (f : ScanFault) → settled whole f ≡ false → Cut at whole text f → Grown whole Between at text os f
cut_grown at text whole os f s (Settled t) = absurd (both (settled whole f) s t)
cut_grown at text whole os f s (Reference b bs is other c) = subst (λ (l : List ℕ). Grown whole Between at l os f) (sym is) (text_grown at b bs whole os f (subst (λ (l : List ℕ). CutText whole l f) is c))
cut_grown at text whole os f s (Markup m) = markup_grown at text whole os f m

last_grown : (m : Mode) (at : ℕ) (text whole : List ℕ) (os : List OpenElement) (f : ScanFault) → Live m → drop at whole ≡ text → settled whole f ≡ false → token_at m at text ≡ Err f → Grown whole m at text os f
last_grown Between at text whole os f l here s e = cut_grown at text whole os f s (between_cut at whole text f here e)
last_grown (After name) at text whole os f l here s e = absurd (both (settled whole f) s (raw_settled at name whole text f (verbatim_end (end_text name) (fault at UnclosedRaw) at text) l refl e))
last_grown (Failed g) at text whole os f l here s e = absurd l

-- ---- the tokens before it

-- a fault of a token itself is none of its reading
abbrev is_scan : ForestFault → Bool
is_scan (Scan f) = true
is_scan (Mismatched at) = false
is_scan (Unclosed at) = false
is_scan (Stray at) = false
is_scan (TooDeep at) = false

start_own : (a b : Bool) (at : ℕ) (os : List OpenElement) (name : List ℕ) (f : ForestFault) → cond a (Err (TooDeep at)) (cond b (Ok os) (Ok (record { name = name; at = at } ∷ os))) ≡ Err f → is_scan f ≡ true → ⊥
start_own true b at os name f e h = let same : TooDeep at ≡ f = cc in both (is_scan f) (ap is_scan (sym same)) h
start_own false true at os name f e h = let g : Ok os ≡ Err f = e in cc
start_own false false at os name f e h = let g : Ok (record { name = name; at = at } ∷ os) ≡ Err f = e in cc

end_own : (a b : Bool) (at : ℕ) (os : List OpenElement) (f : ForestFault) → cond a (Err (Stray at)) (cond b (Ok os) (Err (Mismatched at))) ≡ Err f → is_scan f ≡ true → ⊥
end_own true b at os f e h = let same : Stray at ≡ f = cc in both (is_scan f) (ap is_scan (sym same)) h
end_own false true at os f e h = let g : Ok os ≡ Err f = e in cc
end_own false false at os f e h = let same : Mismatched at ≡ f = cc in both (is_scan f) (ap is_scan (sym same)) h

own : (t : Token) (at : ℕ) (os : List OpenElement) (f : ForestFault) → after_token t at os ≡ Err f → is_scan f ≡ true → ⊥
own (Start name attrs slash) at os f e h = start_own (length os == 200) (is_void name) at os name f e h
own (End name) at [] f e h = let same : Stray at ≡ f = cc in both (is_scan f) (ap is_scan (sym same)) h
own (End name) at (o ∷ os) f e h = end_own (is_void name) (name_same o.name name) at os f e h
own (Chars text) at os f e h = let g : Ok os ≡ Err f = e in cc
own (Raw text) at os f e h = let g : Ok os ≡ Err f = e in cc
own (Comment text) at os f e h = let g : Ok os ≡ Err f = e in cc

nothing_fails : (at : ℕ) (ts : List Placed) (f : ScanFault) → ReadsTokens Between at [] ts (Some f) → ⊥
nothing_fails at [] f r = not_ok (token_at Between at []) f None r (end_step at)
nothing_fails at (t ∷ ts) f (read, from, rest, some, parts, to, lt, r) = none_some at (token_at Between at []) (t.token, t.to) (end_step at) read

-- something stands after a text where a fault comes
fault_after : (t : Token) (at : ℕ) (rest : List ℕ) (ts : List Placed) (f : ScanFault) → ReadsTokens (mode_after t) at rest ts (Some f) → (0 < length rest) ⊎ IsMarkup t
fault_after (Start name attrs slash) at rest ts f r = inr tt
fault_after (End name) at rest ts f r = inr tt
fault_after (Raw inner) at rest ts f r = inr tt
fault_after (Comment inner) at rest ts f r = inr tt
fault_after (Chars inner) at (b ∷ bs) ts f r = inl (omega arith)
fault_after (Chars inner) at [] ts f r = absurd (nothing_fails at ts f r)

step_grown : (m : Mode) (at : ℕ) (text rest some whole : List ℕ) (t : Placed) (os os2 : List OpenElement) (f : ScanFault) (g : Grown whole (mode_after t.token) t.to rest os2 f) → token_at m at (text ++ g.more) ≡ Ok (Some (t.token, t.to)) → t.from ≡ at → text ≡ some ++ rest → t.to ≡ at + length some → 0 < length some → after_token t.token t.from os ≡ Ok os2 → Grown whole m at text os f
step_grown m at text rest some whole t os os2 f g read from parts to lt a =
    let same : fault_in g.last os (t ∷ g.tokens) ≡ fault_in g.last os2 g.tokens = ap (λ (x : Result (List OpenElement) ForestFault). or_fault x (λ os. fault_in g.last os g.tokens)) a in
    record {
      more = g.more;
      tokens = t ∷ g.tokens;
      last = g.last;
      runs = (read, from, rest ++ g.more, some, longer text some rest g.more parts, to, lt, g.runs);
      ends = subst (λ (r : Option ForestFault). Ends whole g.more f r) (sym same) g.ends;
    }

grown : (ts : List Placed) (m : Mode) (at : ℕ) (text whole : List ℕ) (os : List OpenElement) (f : ScanFault) → Live m → drop at whole ≡ text → settled whole f ≡ false → ReadsTokens m at text ts (Some f) → fault_in (Some f) os ts ≡ Some (Scan f) → Grown whole m at text os f
grown [] m at text whole os f l here s r h = last_grown m at text whole os f l here s r
grown (t ∷ ts) m at text whole os f l here s (read, from, rest, some, parts, to, lt, r) h =
    let n = live_named m l in
    elim (one_way t os (Some f) ts (Scan f) (after_token t.token t.from os) refl h) [
      | inl a ↦ absurd (own t.token t.from os (Scan f) a refl)
      | inr (os2, a, later) ↦
          let g = grown ts (mode_after t.token) t.to rest whole os2 f (live_after t.token (named_after m at text t n read)) (drop_on at t.to whole text some rest here parts to) s r later in
          step_grown m at text rest some whole t os os2 f g
          (token_more m at text g.more t.token t.to n read (λ other w. kept t.token text rest other some at t.to parts to w (token_len m at text t.token t.to n read) (fault_after t.token t.to rest ts f r))) from parts to lt a
    ]

last_is : (ts : List Placed) (last : Option ScanFault) (os : List OpenElement) (f : ScanFault) → fault_in last os ts ≡ Some (Scan f) → last ≡ Some f
last_is [] None [] f e = absurd (some_none (Scan f) (sym e))
last_is [] None (o ∷ os) f e = let same = fault_same (Unclosed o.at) (Scan f) e in absurd (both (is_scan (Scan f)) (ap is_scan (sym same)) refl)
last_is [] (Some g) os f e = let same : Scan g ≡ Scan f = fault_same (Scan g) (Scan f) (sym (scan_at_end os g) ∙ e) in ap (λ (x : ScanFault). Some x) cc
last_is (t ∷ ts) last os f e =
    elim (one_way t os last ts (Scan f) (after_token t.token t.from os) refl e) [
      | inl a ↦ absurd (own t.token t.from os (Scan f) a refl)
      | inr (os2, a, later) ↦ last_is ts last os2 f later
    ]

-- ---- the laws

cut_ends : (text : List ℕ) (f : ScanFault) → fault_of text ≡ Some (Scan f) → settled text f ≡ false → (more : List ℕ) × Ends text more f (fault_of (text ++ more))
cut_ends text f e s =
    let ts : List Placed = (tokens_of text).tokens in
    let h : fault_in (tokens_of text).fault [] ts ≡ Some (Scan f) = sym (fault_as text) ∙ e in
    let last = last_is ts (tokens_of text).fault [] f h in
    let g = grown ts Between 0 text text [] f tt refl s (subst (λ (x : Option ScanFault). ReadsTokens Between 0 text ts x) last (runs_of text)) (ap (λ (x : Option ScanFault). fault_in x [] ts) (sym last) ∙ h) in
    let same : fault_of (text ++ g.more) ≡ fault_in g.last [] g.tokens = fault_as (text ++ g.more) ∙ ap (λ (ts : Tokens). fault_in ts.fault [] ts.tokens) (runs_all (text ++ g.more) g.tokens g.last g.runs) in
    (g.more, subst (λ (r : Option ForestFault). Ends text g.more f r) (sym same) g.ends)

-- the kinds of fault of which it speaks are apart
tag_or_reference : (at to : ℕ) → fault at BadTag ≡ fault to BadReference → ⊥
unfolding begins_with
tag_or_reference at to e = let h : true ≡ false = ap (λ (f : ScanFault). stands_by f.what []) e in cc

tag_or_doctype : (at to : ℕ) → fault at BadTag ≡ fault to Doctype → ⊥
unfolding begins_with
tag_or_doctype at to e = let h : false ≡ true = ap (λ (f : ScanFault). stands_by f.what (60 ∷ 33 ∷ [])) e in cc

pub cut_reference_goes : (text : List ℕ) (at : ℕ) → fault_of text ≡ Some (Scan (fault at BadReference)) → passes_reference (drop at text) ≡ false → (more : List ℕ) × (starts_reference (drop at (text ++ more)) ≡ true) × (is_left_open (fault_of (text ++ more)) ≡ true)
cut_reference_goes text at e s =
    let (more, ends) = cut_ends text (fault at BadReference) e s in
    elim ends [
      | Completed is starts left ↦ (more, starts, left)
      | Known is doctype ↦ absurd (tag_or_reference at at is)
    ]

pub cut_doctype_goes : (text : List ℕ) (at : ℕ) → fault_of text ≡ Some (Scan (fault at BadTag)) → is_doctype_prefix (drop at text) ≡ true → (more : List ℕ) × (fault_of (text ++ more) ≡ Some (Scan (fault at Doctype)))
cut_doctype_goes text at e s =
    let (more, ends) = cut_ends text (fault at BadTag) e (ap (λ (x : Bool). not x) s) in
    elim ends [
      | Completed is starts left ↦ absurd (tag_or_reference at at (sym is))
      | Known is doctype ↦ (more, doctype)
    ]

scan_same : (f g : ScanFault) → Some (Scan f) ≡ Some (Scan g) → f ≡ g
scan_same f g e = cc

ends_apart : (text more : List ℕ) (f : ScanFault) (r : Option ForestFault) → Ends text more f r → r ≡ Some (Scan f) → ⊥
ends_apart text more f r (Completed is starts left) e = both (is_left_open r) (ap is_left_open e) left
ends_apart text more f r (Known is doctype) e = tag_or_doctype f.at f.at (is ∙ scan_same f (fault f.at Doctype) (sym e ∙ doctype))

scan_goes : (text : List ℕ) (f : ScanFault) (o : Bool) → is_open f.what ≡ o → fault_of text ≡ Some (Scan f) → stands text f ≡ false → MayGo text (Scan f)
scan_goes text f true o e s = (0 ∷ [], λ h. unclosed_goes text (Scan f) o h)
scan_goes text f false o e s =
    let (more, ends) = cut_ends text f e (or_both (is_open f.what) (stands text f) o s) in
    (more, λ h. ends_apart text more f (fault_of (text ++ more)) ends h)

pub goes : (text : List ℕ) (f : ForestFault) → fault_of text ≡ Some f → forest_stands text f ≡ false → MayGo text f
goes text (Scan f) e s = scan_goes text f (is_open f.what) refl e s
goes text (Mismatched at) e s = absurd cc
goes text (Unclosed at) e s = (0 ∷ [], λ h. unclosed_goes text (Unclosed at) refl h)
goes text (Stray at) e s = absurd cc
goes text (TooDeep at) e s = absurd cc

stands_or_goes_by : (text : List ℕ) (f : ForestFault) (b : Bool) → forest_stands text f ≡ b → fault_of text ≡ Some f → ((forest_stands text f ≡ true) × Lasts text f) ⊎ ((forest_stands text f ≡ false) × MayGo text f)
stands_or_goes_by text f true b e = inl (b, λ more. fault_stands text more f e b)
stands_or_goes_by text f false b e = inr (b, goes text f e b)

pub stands_or_goes : (text : List ℕ) (f : ForestFault) → fault_of text ≡ Some f → ((forest_stands text f ≡ true) × Lasts text f) ⊎ ((forest_stands text f ≡ false) × MayGo text f)
stands_or_goes text f e = stands_or_goes_by text f (forest_stands text f) refl e
