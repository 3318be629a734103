-- A forest that is spelled is read back.
use Rattle.std.proofs.Common.{◌≡◌, ℕ, zero, suc, ◌+◌, ◌-◌, ◌<◌, ◌≤◌, Bool, true, false, not, ◌&&◌, ◌||◌, List, [], ◌∷◌, ◌++◌, length, drop, Option, Some, None, Ok, Err, refl, sym, ap, ◌∙◌, arith, append_assoc, add-zero, subst}
use Rattle.std.proofs.lemmas.List.{length-append, append-nil}
use Rattle.std.proofs.Math.Seq.{drop-append_seam}
use Rattle.model_spelling.specs.declared.scan_fault.ScanFault.{ScanFault}
use Rattle.model_spelling.specs.Grammar.{is_tag_name, is_text, is_verbatim, are_attrs, is_start, Attr, Token, Start, End, Chars, Raw, Comment, token_text, start_text, end_text, comment_close}
use Rattle.ve_kinds.specs.Tags.{is_void, is_raw}
use Rattle.model_spelling.specs.Reading.{token_at, between_at, Mode, Between, After, mode_after}
use Rattle.model_spelling.specs.Tokens.{Placed, Tokens, with_placed, tokens_by, tokens_from, tokens_of, BeginsTag, ReadsTokens}
use Rattle.model_spelling.specs.Forest.{Forest, Nothing, Text, Remark, Void, RawElement, Element, starts_with_text, spelling, is_forest, then_forest}
use Rattle.model_spelling.specs.Faults.{fault_in, fault_of}
use Rattle.model_spelling.specs.Parsed.{Ending, first_forest, with_token, ending, forest_of}
use Rattle.model_spelling.proofs.AttrReading.{and_left, and_right}
use Rattle.model_spelling.proofs.ForestLaws.{placed, tokens_in, fault_free, raw_not_void, not_true}
use Rattle.model_spelling.proofs.Only.{token_only, raw_only, raw_none, and_both}

-- ---- a run as a function

abbrev pub on : ℕ → ℕ → List ℕ → Token → ℕ → Tokens
on n at text token to = tokens_from n (mode_after token) to (drop (to - at) text)

pub step_on : (n at : ℕ) (m : Mode) (text rest some : List ℕ) (t : Placed) → token_at m at text ≡ Ok (Some (t.token, t.to)) → t.from ≡ at → text ≡ some ++ rest → t.to ≡ at + length some
    → tokens_from (suc n) m at text ≡ with_placed t (tokens_from n (mode_after t.token) t.to rest)
unfolding tokens_from
step_on n at m text rest some t e from parts to =
    let len : t.to - at ≡ length some = omega arith in
    let left : drop (t.to - at) text ≡ rest = ap (λ (k : ℕ). drop k text) len ∙ ap (drop (length some)) parts ∙ drop-append_seam some rest in
    ap (tokens_by at (on n at text)) e
    ∙ ap (λ (k : ℕ). with_placed (record { token = t.token; from = k; to = t.to }) (on n at text t.token t.to)) (sym from)
    ∙ ap (λ (l : List ℕ). with_placed t (tokens_from n (mode_after t.token) t.to l)) left

pub stop_at_end : (n at : ℕ) (m : Mode) (text : List ℕ) → token_at m at text ≡ Ok None → tokens_from (suc n) m at text ≡ record { tokens = []; fault = None }
unfolding tokens_from
stop_at_end n at m text e = ap (tokens_by at (on n at text)) e

pub stop_at_fault : (n at : ℕ) (m : Mode) (text : List ℕ) (f : ScanFault) → token_at m at text ≡ Err f → tokens_from (suc n) m at text ≡ record { tokens = []; fault = Some f }
unfolding tokens_from
stop_at_fault n at m text f e = ap (tokens_by at (on n at text)) e

runs_are : (ts : List Placed) (last : Option ScanFault) (m : Mode) (at n : ℕ) (text : List ℕ) → ReadsTokens m at text ts last → length text ≤ n → tokens_from (suc n) m at text ≡ record { tokens = ts; fault = last }
runs_are [] None m at n text r le = stop_at_end n at m text r
runs_are [] (Some f) m at n text r le = stop_at_fault n at m text f r
runs_are (t ∷ ts) last m at zero text (e, from, rest, some, parts, to, lt, r) le = absurd (omega (arith, ap length parts, length-append some rest))
runs_are (t ∷ ts) last m at (suc n) text (e, from, rest, some, parts, to, lt, r) le =
    step_on (suc n) at m text rest some t e from parts to
    ∙ ap (with_placed t) (runs_are ts last (mode_after t.token) t.to n rest r (omega (arith, ap length parts, length-append some rest)))

pub runs_all : (text : List ℕ) (ts : List Placed) (last : Option ScanFault) → ReadsTokens Between 0 text ts last → tokens_of text ≡ record { tokens = ts; fault = last }
runs_all text ts last r =
    let n : length text + 1 ≡ suc (length text) = omega arith in
    ap (λ (k : ℕ). tokens_from k Between 0 text) n ∙ runs_are ts last Between 0 (length text) text r (omega arith)

-- ---- the tokens of a forest come

comes : (m : Mode) (at : ℕ) (t : Token) (rest : List ℕ) (ts : List Placed) (last : Option ScanFault) → token_at m at (token_text t ++ rest) ≡ Ok (Some (t, at + length (token_text t))) → 0 < length (token_text t)
    → ReadsTokens (mode_after t) (at + length (token_text t)) rest ts last → ReadsTokens m at (token_text t ++ rest) (placed t at ∷ ts) last
comes m at t rest ts last e lt r = (e, refl, rest, token_text t, refl, refl, lt, r)

moved : (m : Mode) (at to : ℕ) (text : List ℕ) (ts : List Placed) (last : Option ScanFault) → at ≡ to → ReadsTokens m at text ts last → ReadsTokens m to text ts last
moved m at to text ts last e r = subst (λ (k : ℕ). ReadsTokens m k text ts last) e r

same_text : (m : Mode) (at : ℕ) (text other : List ℕ) (ts : List Placed) (last : Option ScanFault) → text ≡ other → ReadsTokens m at other ts last → ReadsTokens m at text ts last
same_text m at text other ts last e r = subst (λ (l : List ℕ). ReadsTokens m at l ts last) (sym e) r

same_mode : (m n : Mode) (at : ℕ) (text : List ℕ) (ts : List Placed) (last : Option ScanFault) → m ≡ n → ReadsTokens n at text ts last → ReadsTokens m at text ts last
same_mode m n at text ts last e r = subst (λ (l : Mode). ReadsTokens l at text ts last) (sym e) r

same_tokens : (m : Mode) (at : ℕ) (text : List ℕ) (ts us : List Placed) (last : Option ScanFault) → ts ≡ us → ReadsTokens m at text us last → ReadsTokens m at text ts last
same_tokens m at text ts us last e r = subst (λ (l : List Placed). ReadsTokens m at text l last) (sym e) r

plain_mode : (name : List ℕ) (attrs : List Attr) (slash : Bool) → is_raw name ≡ false → mode_after (Start name attrs slash) ≡ Between
plain_mode name attrs slash e = rw e refl

raw_mode : (name : List ℕ) (attrs : List Attr) (slash : Bool) → is_raw name ≡ true → mode_after (Start name attrs slash) ≡ After name
raw_mode name attrs slash e = rw e refl

pub begins_tag : (f : Forest) (rest : List ℕ) → starts_with_text f ≡ false → BeginsTag rest → BeginsTag (spelling f ++ rest)
begins_tag Nothing rest e b = b
begins_tag (Text text f) rest e b = absurd cc
begins_tag (Remark text f) rest e b = refl
begins_tag (Void name attrs slash f) rest e b = refl
begins_tag (RawElement name attrs text f) rest e b = refl
begins_tag (Element name attrs children f) rest e b = refl

pub cut : (b : Bool) → b ≡ true → b ≡ false → ⊥
cut true e f = absurd cc
cut false e f = absurd cc

not_raw_by : (name : List ℕ) → is_void name ≡ true → (b : Bool) → is_raw name ≡ b → b ≡ false
not_raw_by name e true r = absurd (cut (is_void name) e (raw_not_void name r))
not_raw_by name e false r = refl

pub void_not_raw : (name : List ℕ) → is_void name ≡ true → is_raw name ≡ false
void_not_raw name e = not_raw_by name e (is_raw name) refl

-- what an element may be
pub record ElementParts (room : ℕ) (name : List ℕ) (attrs : List Attr) (children rest : Forest) : Type 0 where
  pub not_void : is_void name ≡ false
  pub not_raw : is_raw name ≡ false
  pub start : is_start name attrs false ≡ true
  pub children_are : is_forest room children ≡ true
  pub rest_is : is_forest (suc room) rest ≡ true

pub element_parts : (room : ℕ) (name : List ℕ) (attrs : List Attr) (children rest : Forest) → is_forest (suc room) (Element name attrs children rest) ≡ true → ElementParts room name attrs children rest
element_parts room name attrs children rest e =
    let p4 = and_left (not (is_void name) && not (is_raw name) && is_start name attrs false && is_forest room children) (is_forest (suc room) rest) e in
    let p3 = and_left (not (is_void name) && not (is_raw name) && is_start name attrs false) (is_forest room children) p4 in
    let p2 = and_left (not (is_void name) && not (is_raw name)) (is_start name attrs false) p3 in
    record {
      not_void = not_true (is_void name) (and_left (not (is_void name)) (not (is_raw name)) p2);
      not_raw = not_true (is_raw name) (and_right (not (is_void name)) (not (is_raw name)) p2);
      start = and_right (not (is_void name) && not (is_raw name)) (is_start name attrs false) p3;
      children_are = and_right (not (is_void name) && not (is_raw name) && is_start name attrs false) (is_forest room children) p4;
      rest_is = and_right (not (is_void name) && not (is_raw name) && is_start name attrs false && is_forest room children) (is_forest (suc room) rest) e;
    }

pub record RawParts (room : ℕ) (name : List ℕ) (attrs : List Attr) (text : List ℕ) (rest : Forest) : Type 0 where
  pub raw : is_raw name ≡ true
  pub start : is_start name attrs false ≡ true
  pub text_is : is_verbatim (end_text name) text ≡ true
  pub rest_is : is_forest (suc room) rest ≡ true

pub raw_parts : (room : ℕ) (name : List ℕ) (attrs : List Attr) (text : List ℕ) (rest : Forest) → is_forest (suc room) (RawElement name attrs text rest) ≡ true → RawParts room name attrs text rest
raw_parts room name attrs text rest e =
    let p = and_left (is_raw name && is_start name attrs false && is_verbatim (end_text name) text) (is_forest (suc room) rest) e in
    let q = and_left (is_raw name && is_start name attrs false) (is_verbatim (end_text name) text) p in
    record {
      raw = and_left (is_raw name) (is_start name attrs false) q;
      start = and_right (is_raw name) (is_start name attrs false) q;
      text_is = and_right (is_raw name && is_start name attrs false) (is_verbatim (end_text name) text) p;
      rest_is = and_right (is_raw name && is_start name attrs false && is_verbatim (end_text name) text) (is_forest (suc room) rest) e;
    }

pub start_named : (name : List ℕ) (attrs : List Attr) (slash : Bool) → is_start name attrs slash ≡ true → is_tag_name name ≡ true
start_named name attrs slash e = and_left (is_tag_name name) (are_attrs attrs) (and_left (is_tag_name name && are_attrs attrs) (not slash || is_void name) e)

four : (a b c d e : List ℕ) → (((a ++ b) ++ c) ++ d) ++ e ≡ a ++ (b ++ (c ++ (d ++ e)))
four a b c d e = simp append_assoc

three : (a c d e : List ℕ) → (((a ++ []) ++ c) ++ d) ++ e ≡ a ++ (c ++ (d ++ e))
three a c d e = four a [] c d e

len4 : (a b c d : List ℕ) → length (((a ++ b) ++ c) ++ d) ≡ length a + length b + length c + length d
len4 a b c d = omega (arith, length-append ((a ++ b) ++ c) d, length-append (a ++ b) c, length-append a b)

pub text_some : (text : List ℕ) → is_text text ≡ true → 0 < length text
text_some [] e = absurd cc
text_some (b ∷ bs) e = omega arith

pub runs_forest : (f : Forest) (room at : ℕ) (rest : List ℕ) (ts : List Placed) (last : Option ScanFault) → is_forest room f ≡ true → BeginsTag rest
    → ReadsTokens Between (at + length (spelling f)) rest ts last → ReadsTokens Between at (spelling f ++ rest) (tokens_in at f ++ ts) last
runs_forest Nothing room at rest ts last e b r = moved Between (at + 0) at rest ts last (add-zero at) r
runs_forest (Text text f) room at rest ts last e b r =
    let p = and_left (is_text text && not (starts_with_text f)) (is_forest room f) e in
    let here = and_left (is_text text) (not (starts_with_text f)) p in
    let other = not_true (starts_with_text f) (and_right (is_text text) (not (starts_with_text f)) p) in
    let len : at + length (text ++ spelling f) ≡ at + length text + length (spelling f) = omega (arith, length-append text (spelling f)) in
    let more = runs_forest f room (at + length text) rest ts last (and_right (is_text text && not (starts_with_text f)) (is_forest room f) e) b (moved Between (at + length (text ++ spelling f)) (at + length text + length (spelling f)) rest ts last len r) in
    same_text Between at ((text ++ spelling f) ++ rest) (text ++ (spelling f ++ rest)) (tokens_in at (Text text f) ++ ts) last (append_assoc text (spelling f) rest)
    (comes Between at (Chars text) (spelling f ++ rest) (tokens_in (at + length text) f ++ ts) last (token_only at (Chars text) (spelling f ++ rest) here (begins_tag f rest other b)) (text_some text here) more)
runs_forest (Remark text f) room at rest ts last e b r =
    let part : List ℕ = token_text (Comment text) in
    let len : at + length (part ++ spelling f) ≡ at + length part + length (spelling f) = omega (arith, length-append part (spelling f)) in
    let more = runs_forest f room (at + length part) rest ts last (and_right (is_verbatim comment_close text) (is_forest room f) e) b (moved Between (at + length (part ++ spelling f)) (at + length part + length (spelling f)) rest ts last len r) in
    same_text Between at ((part ++ spelling f) ++ rest) (part ++ (spelling f ++ rest)) (tokens_in at (Remark text f) ++ ts) last (append_assoc part (spelling f) rest)
    (comes Between at (Comment text) (spelling f ++ rest) (tokens_in (at + length part) f ++ ts) last (token_only at (Comment text) (spelling f ++ rest) (and_left (is_verbatim comment_close text) (is_forest room f) e) tt) (omega arith) more)
runs_forest (Void name attrs slash f) zero at rest ts last e b r = absurd cc
runs_forest (Void name attrs slash f) (suc room) at rest ts last e b r =
    let part : List ℕ = start_text name attrs slash in
    let p = and_left (is_void name && is_start name attrs slash) (is_forest (suc room) f) e in
    let len : at + length (part ++ spelling f) ≡ at + length part + length (spelling f) = omega (arith, length-append part (spelling f)) in
    let more = runs_forest f (suc room) (at + length part) rest ts last (and_right (is_void name && is_start name attrs slash) (is_forest (suc room) f) e) b (moved Between (at + length (part ++ spelling f)) (at + length part + length (spelling f)) rest ts last len r) in
    same_text Between at ((part ++ spelling f) ++ rest) (part ++ (spelling f ++ rest)) (tokens_in at (Void name attrs slash f) ++ ts) last (append_assoc part (spelling f) rest)
    (comes Between at (Start name attrs slash) (spelling f ++ rest) (tokens_in (at + length part) f ++ ts) last (token_only at (Start name attrs slash) (spelling f ++ rest) (and_right (is_void name) (is_start name attrs slash) p) tt) (omega arith)
    (same_mode (mode_after (Start name attrs slash)) Between (at + length part) (spelling f ++ rest) (tokens_in (at + length part) f ++ ts) last (plain_mode name attrs slash (void_not_raw name (and_left (is_void name) (is_start name attrs slash) p))) more))
runs_forest (RawElement name attrs [] f) zero at rest ts last e b r = absurd cc
runs_forest (RawElement name attrs (c ∷ cs) f) zero at rest ts last e b r = absurd cc
runs_forest (RawElement name attrs [] f) (suc room) at rest ts last e b r =
    let p = raw_parts room name attrs [] f e in
    let part : List ℕ = start_text name attrs false in
    let from : ℕ = at + length part in
    let close : List ℕ = end_text name in
    let len : at + length (((part ++ []) ++ close) ++ spelling f) ≡ from + length close + length (spelling f) = omega (arith, len4 part [] close (spelling f)) in
    let more = runs_forest f (suc room) (from + length close) rest ts last p.rest_is b (moved Between (at + length (((part ++ []) ++ close) ++ spelling f)) (from + length close + length (spelling f)) rest ts last len r) in
    let ended = comes (After name) from (End name) (spelling f ++ rest) (tokens_in (from + length close) f ++ ts) last (raw_none from name (spelling f ++ rest) (start_named name attrs false p.start)) (omega arith) more in
    same_text Between at ((((part ++ []) ++ close) ++ spelling f) ++ rest) (part ++ (close ++ (spelling f ++ rest))) (tokens_in at (RawElement name attrs [] f) ++ ts) last (three part close (spelling f) rest)
    (comes Between at (Start name attrs false) (close ++ (spelling f ++ rest)) (placed (End name) from ∷ (tokens_in (from + length close) f ++ ts)) last (token_only at (Start name attrs false) (close ++ (spelling f ++ rest)) p.start tt) (omega arith)
    (same_mode (mode_after (Start name attrs false)) (After name) from (close ++ (spelling f ++ rest)) (placed (End name) from ∷ (tokens_in (from + length close) f ++ ts)) last (raw_mode name attrs false p.raw) ended))
runs_forest (RawElement name attrs (c ∷ cs) f) (suc room) at rest ts last e b r =
    let p = raw_parts room name attrs (c ∷ cs) f e in
    let part : List ℕ = start_text name attrs false in
    let from : ℕ = at + length part in
    let end : ℕ = from + length (c ∷ cs) in
    let close : List ℕ = end_text name in
    let len : at + length (((part ++ (c ∷ cs)) ++ close) ++ spelling f) ≡ end + length close + length (spelling f) = omega (arith, len4 part (c ∷ cs) close (spelling f)) in
    let more = runs_forest f (suc room) (end + length close) rest ts last p.rest_is b (moved Between (at + length (((part ++ (c ∷ cs)) ++ close) ++ spelling f)) (end + length close + length (spelling f)) rest ts last len r) in
    let ended = comes Between end (End name) (spelling f ++ rest) (tokens_in (end + length close) f ++ ts) last (token_only end (End name) (spelling f ++ rest) (start_named name attrs false p.start) tt) (omega arith) more in
    let text = comes (After name) from (Raw (c ∷ cs)) (close ++ (spelling f ++ rest)) (placed (End name) end ∷ (tokens_in (end + length close) f ++ ts)) last (raw_only from name c cs (spelling f ++ rest) p.text_is) (omega arith) ended in
    same_text Between at ((((part ++ (c ∷ cs)) ++ close) ++ spelling f) ++ rest) (part ++ ((c ∷ cs) ++ (close ++ (spelling f ++ rest)))) (tokens_in at (RawElement name attrs (c ∷ cs) f) ++ ts) last (four part (c ∷ cs) close (spelling f) rest)
    (comes Between at (Start name attrs false) ((c ∷ cs) ++ (close ++ (spelling f ++ rest))) (placed (Raw (c ∷ cs)) from ∷ (placed (End name) end ∷ (tokens_in (end + length close) f ++ ts))) last (token_only at (Start name attrs false) ((c ∷ cs) ++ (close ++ (spelling f ++ rest))) p.start tt) (omega arith)
    (same_mode (mode_after (Start name attrs false)) (After name) from ((c ∷ cs) ++ (close ++ (spelling f ++ rest))) (placed (Raw (c ∷ cs)) from ∷ (placed (End name) end ∷ (tokens_in (end + length close) f ++ ts))) last (raw_mode name attrs false p.raw) text))
runs_forest (Element name attrs children f) zero at rest ts last e b r = absurd cc
runs_forest (Element name attrs children f) (suc room) at rest ts last e b r =
    let p = element_parts room name attrs children f e in
    let part : List ℕ = start_text name attrs false in
    let inner : List ℕ = spelling children in
    let from : ℕ = at + length part in
    let end : ℕ = from + length inner in
    let close : List ℕ = end_text name in
    let len : at + length (((part ++ inner) ++ close) ++ spelling f) ≡ end + length close + length (spelling f) = omega (arith, len4 part inner close (spelling f)) in
    let more = runs_forest f (suc room) (end + length close) rest ts last p.rest_is b (moved Between (at + length (((part ++ inner) ++ close) ++ spelling f)) (end + length close + length (spelling f)) rest ts last len r) in
    let after : List Placed = tokens_in (end + length close) f ++ ts in
    let ended = comes Between end (End name) (spelling f ++ rest) after last (token_only end (End name) (spelling f ++ rest) (start_named name attrs false p.start) tt) (omega arith) more in
    let within = runs_forest children room from (close ++ (spelling f ++ rest)) (placed (End name) end ∷ after) last p.children_are refl ended in
    let regrouped : (tokens_in from children ++ placed (End name) end ∷ tokens_in (end + length close) f) ++ ts ≡ tokens_in from children ++ (placed (End name) end ∷ after) = append_assoc (tokens_in from children) (placed (End name) end ∷ tokens_in (end + length close) f) ts in
    same_tokens Between at ((((part ++ inner) ++ close) ++ spelling f) ++ rest) (tokens_in at (Element name attrs children f) ++ ts) (placed (Start name attrs false) at ∷ (tokens_in from children ++ (placed (End name) end ∷ after))) last (ap (λ (l : List Placed). placed (Start name attrs false) at ∷ l) regrouped)
    (same_text Between at ((((part ++ inner) ++ close) ++ spelling f) ++ rest) (part ++ (inner ++ (close ++ (spelling f ++ rest)))) (placed (Start name attrs false) at ∷ (tokens_in from children ++ (placed (End name) end ∷ after))) last (four part inner close (spelling f) rest)
    (comes Between at (Start name attrs false) (inner ++ (close ++ (spelling f ++ rest))) (tokens_in from children ++ (placed (End name) end ∷ after)) last (token_only at (Start name attrs false) (inner ++ (close ++ (spelling f ++ rest))) p.start tt) (omega arith)
    (same_mode (mode_after (Start name attrs false)) Between from (inner ++ (close ++ (spelling f ++ rest))) (tokens_in from children ++ (placed (End name) end ∷ after)) last (plain_mode name attrs false p.not_raw) within)))

-- ---- and make that forest

record Becomes (e : Ending) (f : Forest) (g : Ending) : Type 0 where
  pub here : e.here ≡ then_forest f g.here
  pub outer : e.outer ≡ g.outer

pub element_made : (name : List ℕ) (attrs : List Attr) (slash : Bool) (e : Ending) → is_void name ≡ false → is_raw name ≡ false
    → with_token (Start name attrs slash) e ≡ record { raw = []; here = Element name attrs e.here (first_forest e.outer); outer = drop 1 e.outer }
element_made name attrs slash e v r = rw (v, r) refl

pub raw_made : (name : List ℕ) (attrs : List Attr) (slash : Bool) (e : Ending) → is_void name ≡ false → is_raw name ≡ true
    → with_token (Start name attrs slash) e ≡ record { raw = []; here = RawElement name attrs e.raw (first_forest e.outer); outer = drop 1 e.outer }
raw_made name attrs slash e v r = rw (v, r) refl

pub void_made : (name : List ℕ) (attrs : List Attr) (slash : Bool) (e : Ending) → is_void name ≡ true
    → with_token (Start name attrs slash) e ≡ record { raw = []; here = Void name attrs slash e.here; outer = e.outer }
void_made name attrs slash e v = rw v refl

pub then_nothing : (f : Forest) → then_forest f Nothing ≡ f
then_nothing Nothing = refl
then_nothing (Text text rest) = ap (Text text) (then_nothing rest)
then_nothing (Remark text rest) = ap (Remark text) (then_nothing rest)
then_nothing (Void name attrs slash rest) = ap (Void name attrs slash) (then_nothing rest)
then_nothing (RawElement name attrs text rest) = ap (RawElement name attrs text) (then_nothing rest)
then_nothing (Element name attrs children rest) = ap (Element name attrs children) (then_nothing rest)

becomes : (f : Forest) (room at : ℕ) (ts : List Placed) → is_forest room f ≡ true → Becomes (ending (tokens_in at f ++ ts)) f (ending ts)
becomes Nothing room at ts e = record { here = refl; outer = refl }
becomes (Text text f) room at ts e =
    let more = becomes f room (at + length text) ts (and_right (is_text text && not (starts_with_text f)) (is_forest room f) e) in
    record { here = ap (Text text) more.here; outer = more.outer }
becomes (Remark text f) room at ts e =
    let more = becomes f room (at + length (token_text (Comment text))) ts (and_right (is_verbatim comment_close text) (is_forest room f) e) in
    record { here = ap (Remark text) more.here; outer = more.outer }
becomes (Void name attrs slash f) zero at ts e = absurd cc
becomes (Void name attrs slash f) (suc room) at ts e =
    let p = and_left (is_void name && is_start name attrs slash) (is_forest (suc room) f) e in
    let more = becomes f (suc room) (at + length (start_text name attrs slash)) ts (and_right (is_void name && is_start name attrs slash) (is_forest (suc room) f) e) in
    let made = void_made name attrs slash (ending (tokens_in (at + length (start_text name attrs slash)) f ++ ts)) (and_left (is_void name) (is_start name attrs slash) p) in
    record { here = ap (λ (x : Ending). x.here) made ∙ ap (Void name attrs slash) more.here; outer = ap (λ (x : Ending). x.outer) made ∙ more.outer }
becomes (RawElement name attrs [] f) zero at ts e = absurd cc
becomes (RawElement name attrs (c ∷ cs) f) zero at ts e = absurd cc
becomes (RawElement name attrs [] f) (suc room) at ts e =
    let p = raw_parts room name attrs [] f e in
    let from : ℕ = at + length (start_text name attrs false) in
    let more = becomes f (suc room) (from + length (end_text name)) ts p.rest_is in
    let made = raw_made name attrs false (ending (placed (End name) from ∷ (tokens_in (from + length (end_text name)) f ++ ts))) (raw_not_void name p.raw) p.raw in
    record { here = ap (λ (x : Ending). x.here) made ∙ ap (RawElement name attrs []) more.here; outer = ap (λ (x : Ending). x.outer) made ∙ more.outer }
becomes (RawElement name attrs (c ∷ cs) f) (suc room) at ts e =
    let p = raw_parts room name attrs (c ∷ cs) f e in
    let from : ℕ = at + length (start_text name attrs false) in
    let end : ℕ = from + length (c ∷ cs) in
    let more = becomes f (suc room) (end + length (end_text name)) ts p.rest_is in
    let made = raw_made name attrs false (ending (placed (Raw (c ∷ cs)) from ∷ (placed (End name) end ∷ (tokens_in (end + length (end_text name)) f ++ ts)))) (raw_not_void name p.raw) p.raw in
    record { here = ap (λ (x : Ending). x.here) made ∙ ap (RawElement name attrs (c ∷ cs)) more.here; outer = ap (λ (x : Ending). x.outer) made ∙ more.outer }
becomes (Element name attrs children f) zero at ts e = absurd cc
becomes (Element name attrs children f) (suc room) at ts e =
    let p = element_parts room name attrs children f e in
    let from : ℕ = at + length (start_text name attrs false) in
    let end : ℕ = from + length (spelling children) in
    let after : List Placed = tokens_in (end + length (end_text name)) f ++ ts in
    let more = becomes f (suc room) (end + length (end_text name)) ts p.rest_is in
    let inner = becomes children room from (placed (End name) end ∷ after) p.children_are in
    let whole = ending (tokens_in from children ++ (placed (End name) end ∷ after)) in
    let regrouped : (tokens_in from children ++ placed (End name) end ∷ tokens_in (end + length (end_text name)) f) ++ ts ≡ tokens_in from children ++ (placed (End name) end ∷ after) = append_assoc (tokens_in from children) (placed (End name) end ∷ tokens_in (end + length (end_text name)) f) ts in
    let made = ap (λ (l : List Placed). with_token (Start name attrs false) (ending l)) regrouped ∙ element_made name attrs false whole p.not_void p.not_raw in
    record {
      here = ap (λ (x : Ending). x.here) made ∙ (λ i. Element name attrs ((inner.here ∙ then_nothing children) i) (first_forest (inner.outer i))) ∙ ap (Element name attrs children) more.here;
      outer = ap (λ (x : Ending). x.outer) made ∙ ap (drop 1) inner.outer ∙ more.outer;
    }

-- ---- more room

pub more_room : (f : Forest) (room more : ℕ) → room ≤ more → is_forest room f ≡ true → is_forest more f ≡ true
more_room Nothing room more le e = refl
more_room (Text text f) room more le e = and_both (is_text text && not (starts_with_text f)) (is_forest more f) (and_left (is_text text && not (starts_with_text f)) (is_forest room f) e) (more_room f room more le (and_right (is_text text && not (starts_with_text f)) (is_forest room f) e))
more_room (Remark text f) room more le e = and_both (is_verbatim comment_close text) (is_forest more f) (and_left (is_verbatim comment_close text) (is_forest room f) e) (more_room f room more le (and_right (is_verbatim comment_close text) (is_forest room f) e))
more_room (Void name attrs slash f) zero more le e = absurd cc
more_room (Void name attrs slash f) (suc room) zero le e = absurd (omega arith)
more_room (Void name attrs slash f) (suc room) (suc more) le e = and_both (is_void name && is_start name attrs slash) (is_forest (suc more) f) (and_left (is_void name && is_start name attrs slash) (is_forest (suc room) f) e) (more_room f (suc room) (suc more) le (and_right (is_void name && is_start name attrs slash) (is_forest (suc room) f) e))
more_room (RawElement name attrs text f) zero more le e = absurd cc
more_room (RawElement name attrs text f) (suc room) zero le e = absurd (omega arith)
more_room (RawElement name attrs text f) (suc room) (suc more) le e = and_both (is_raw name && is_start name attrs false && is_verbatim (end_text name) text) (is_forest (suc more) f) (and_left (is_raw name && is_start name attrs false && is_verbatim (end_text name) text) (is_forest (suc room) f) e) (more_room f (suc room) (suc more) le (and_right (is_raw name && is_start name attrs false && is_verbatim (end_text name) text) (is_forest (suc room) f) e))
more_room (Element name attrs children f) zero more le e = absurd cc
more_room (Element name attrs children f) (suc room) zero le e = absurd (omega arith)
more_room (Element name attrs children f) (suc room) (suc more) le e =
    let named = not (is_void name) && not (is_raw name) && is_start name attrs false in
    let p4 = and_left (named && is_forest room children) (is_forest (suc room) f) e in
    and_both (named && is_forest more children) (is_forest (suc more) f)
    (and_both named (is_forest more children) (and_left named (is_forest room children) p4) (more_room children room more (omega arith) (and_right named (is_forest room children) p4)))
    (more_room f (suc room) (suc more) le (and_right (named && is_forest room children) (is_forest (suc room) f) e))

-- ---- read back

at_end : (at : ℕ) → ReadsTokens Between at [] [] None
unfolding token_at between_at
at_end at = refl

pub tokens_read : (f : Forest) → is_forest 200 f ≡ true → tokens_of (spelling f) ≡ record { tokens = tokens_in 0 f; fault = None }
tokens_read f e =
    let whole = runs_forest f 200 0 [] [] None e tt (at_end (0 + length (spelling f))) in
    runs_all (spelling f) (tokens_in 0 f) None
    (same_text Between 0 (spelling f) (spelling f ++ []) (tokens_in 0 f) None (sym (append-nil (spelling f)))
    (same_tokens Between 0 (spelling f ++ []) (tokens_in 0 f) (tokens_in 0 f ++ []) None (sym (append-nil (tokens_in 0 f))) whole))

pub no_fault : (f : Forest) → is_forest 200 f ≡ true → fault_of (spelling f) ≡ None
unfolding fault_of
no_fault f e =
    ap (λ (ts : Tokens). fault_in ts.fault [] ts.tokens) (tokens_read f e)
    ∙ ap (fault_in None []) (sym (append-nil (tokens_in 0 f)))
    ∙ fault_free None 200 [] 0 f [] e refl

pub forest_by : (text : List ℕ) → fault_of text ≡ None → forest_of text ≡ Some ((ending ((tokens_of text).tokens)).here)
forest_by text e = rw (e, forest_of) refl

pub reads_back : (room : ℕ) (f : Forest) → room ≤ 200 → is_forest room f ≡ true → forest_of (spelling f) ≡ Some f
reads_back room f le e =
    let all = more_room f room 200 le e in
    let made = becomes f 200 0 [] all in
    forest_by (spelling f) (no_fault f all)
    ∙ ap (λ (ts : Tokens). Some ((ending (ts.tokens)).here)) (tokens_read f all)
    ∙ ap (λ (ts : List Placed). Some ((ending ts).here)) (sym (append-nil (tokens_in 0 f)))
    ∙ ap (λ (x : Forest). Some x) (made.here ∙ then_nothing f)
