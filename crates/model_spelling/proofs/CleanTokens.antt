-- A fault of the unclosed kinds doesn't stand.
use Rattle.std.proofs.Common.{◌≡◌, ℕ, ◌+◌, ◌-◌, Bool, true, false, cond, not, ◌&&◌, ◌||◌, List, [], ◌∷◌, ◌++◌, length, take, Option, Some, None, Result, Ok, Err, refl, sym, ap, ◌∙◌, arith, eqb-true, inl, inr}
use Rattle.std.specs.Prelude.{◌==◌, nat_le}
use Rattle.std.proofs.lemmas.Bool.{cases_Bool}
use Rattle.std.specs.List.{list_all, flat_map}
use Rattle.model_spelling.specs.declared.scan_fault.ScanFault.{ScanFault}
use Rattle.model_spelling.specs.declared.scan_fault.ScanWhat.TheVariants.{UnclosedRaw}
use Rattle.model_spelling.specs.Grammar.{is_barred, is_tag_name, is_start, Token, Start, End, Chars, Raw, Comment, token_text, start_text, end_text, attr_text, Attr, are_attrs, are_distinct, is_attr, is_text, name_same, comment_open, comment_close}
use Rattle.ve_kinds.specs.Tags.{is_raw, is_void}
use Rattle.model_spelling.specs.Reading.{◌>>=◌, fault, run_end, verbatim_end, some_token, tag_at, between_at, token_at, Mode, Between, After, Failed, Step, mode_after}
use Rattle.model_spelling.specs.Tokens.{Placed, tokens_of, is_token, Inner, Closing, ReadsTokens}
use Rattle.model_spelling.specs.Faults.{OpenElement, ForestFault, Scan, Mismatched, Stray, TooDeep, fault_in, fault_of, after_token}
use Rattle.model_spelling.specs.Canonical.{are_chars}
use Rattle.model_spelling.specs.Standing.{is_open, is_unclosed}
use Rattle.model_spelling.proofs.AttrReading.{and_left, and_right}
use Rattle.model_spelling.proofs.Only.{close_text, both, raw_by, none_by, name_parts, end_tag_only, end_length}
use Rattle.model_spelling.proofs.Found.{not_ok}
use Rattle.model_spelling.proofs.FoundTokens.{token_found, raw_found, raw_fails, between_is, verbatim_parts, empty_list}
use Rattle.model_spelling.proofs.Right.{Named, part_of, runs_of, none_text, rests}
use Rattle.model_spelling.proofs.Stays.{err, err_same}
use Rattle.model_spelling.proofs.StaysTokens.{one_way, scan_at_end, fault_same, fault_as, raw_never, as_text, token_fails, text_fails}
use Rattle.model_spelling.proofs.Clean.{tag_clean, verbatim_clean, verbatim_chars, run_clean, name_chars, attrs_chars, with_byte, ascii_chars}
use Rattle.model_spelling.proofs.CanWrite.{chars_append, run_chars}

-- ---- tokens

close_chars : (slash : Bool) → are_chars (close_text slash) ≡ true
close_chars true = ascii_chars.5
close_chars false = ascii_chars.2

tag_name_chars : (name : List ℕ) → is_tag_name name ≡ true → are_chars name ≡ true
tag_name_chars name e = let p = name_parts name e in name_chars name p.all

start_chars : (name : List ℕ) (attrs : List Attr) (slash : Bool) → is_start name attrs slash ≡ true → are_chars (start_text name attrs slash) ≡ true
start_chars name attrs slash e =
    let p = and_left (is_tag_name name && are_attrs attrs) (not slash || is_void name) e in
    let q = and_left (list_all is_attr attrs) (are_distinct attrs) (and_left (list_all is_attr attrs && are_distinct attrs) (nat_le (length attrs) 256) (and_right (is_tag_name name) (are_attrs attrs) p)) in
    chars_append (60 ∷ name ++ flat_map attr_text attrs) (close_text slash) (chars_append (60 ∷ name) (flat_map attr_text attrs) (chars_append (60 ∷ []) name ascii_chars.3 (tag_name_chars name (and_left (is_tag_name name) (are_attrs attrs) p))) (attrs_chars attrs q)) (close_chars slash)

end_chars : (name : List ℕ) → is_tag_name name ≡ true → are_chars (end_text name) ≡ true
end_chars name e = chars_append (60 ∷ 47 ∷ name) (62 ∷ []) (chars_append (60 ∷ 47 ∷ []) name ascii_chars.6 (tag_name_chars name e)) ascii_chars.2

open_chars : (are_chars comment_open ≡ true) × (are_chars comment_close ≡ true)
unfolding is_barred
open_chars = (refl, refl)

text_chars : (text : List ℕ) → is_text text ≡ true → are_chars text ≡ true
text_chars [] e = refl
text_chars (b ∷ bs) e = run_chars 60 (b ∷ bs) e

token_chars : (t : Token) → is_token t ≡ true → are_chars (token_text t) ≡ true
token_chars (Start name attrs slash) e = start_chars name attrs slash e
token_chars (End name) e = end_chars name e
token_chars (Chars text) e = text_chars text e
token_chars (Raw text) e = absurd cc
token_chars (Comment text) e = chars_append (comment_open ++ text) comment_close (chars_append comment_open text open_chars.0 (verbatim_chars comment_close text e)) open_chars.1

-- ---- steps

abbrev pub Live : Mode → Type 0
Live Between = Unit {0}
Live (After name) = is_tag_name name ≡ true
Live (Failed f) = ⊥

pub live_named : (m : Mode) → Live m → Named m
live_named Between l = tt
live_named (After name) l = l
live_named (Failed f) l = tt

live_start : (name : List ℕ) (b : Bool) → Named (cond b (After name) Between) → Live (cond b (After name) Between)
live_start name true n = n
live_start name false n = tt

pub live_after : (t : Token) → Named (mode_after t) → Live (mode_after t)
live_after (Start name attrs slash) n = live_start name (is_raw name) n
live_after (End name) n = tt
live_after (Chars text) n = tt
live_after (Raw text) n = tt
live_after (Comment text) n = tt

between_clean : (at : ℕ) (text : List ℕ) (f : ScanFault) → is_open f.what ≡ true → between_at at text ≡ Err f → are_chars text ≡ true
unfolding between_at
between_clean at [] f o e = refl
between_clean at (b ∷ bs) f o e =
    elim (cases_Bool (b == 60)) [
      | inl tag ↦ let h : some_token (tag_at at bs) ≡ Err f = rw tag at e in with_byte bs b 60 (eqb-true b 60 tag) ascii_chars.3 (tag_clean at bs f o (token_fails (tag_at at bs) f h))
      | inr other ↦ let h : (run_end None 60 at (b ∷ bs) >>= as_text at (b ∷ bs)) ≡ Err f = rw other at e in run_clean None 60 at (b ∷ bs) f o (text_fails at (b ∷ bs) (run_end None 60 at (b ∷ bs)) f h)
    ]

raw_clean : (at : ℕ) (name text : List ℕ) (f : ScanFault) (r : Result ℕ ScanFault) → is_tag_name name ≡ true → is_open f.what ≡ true → verbatim_end (end_text name) (fault at UnclosedRaw) at text ≡ r → token_at (After name) at text ≡ Err f → are_chars text ≡ true
raw_clean at name text f (Err g) n o v e = verbatim_clean (end_text name) (fault at UnclosedRaw) at text f o (v ∙ ap err (err_same (token_at (After name) at text) g f (raw_fails at name text g v) e))
raw_clean at name text f (Ok x) n o v e = absurd (raw_never at x name text f (x == at) n refl v e)

step_clean : (m : Mode) (at : ℕ) (text : List ℕ) (f : ScanFault) → Live m → is_open f.what ≡ true → token_at m at text ≡ Err f → are_chars text ≡ true
step_clean Between at text f l o e = between_clean at text f o (sym (between_is at text) ∙ e)
step_clean (After name) at text f l o e = raw_clean at name text f (verbatim_end (end_text name) (fault at UnclosedRaw) at text) l o refl e
step_clean (Failed g) at text f l o e = absurd l

none_not_some : (p : Token × ℕ) (s : Step) → s ≡ Ok None → s ≡ Ok (Some p) → ⊥
none_not_some p s e f = let h : Ok None ≡ Ok (Some p) = sym e ∙ f in cc

raw_not_none : (at x : ℕ) (name text : List ℕ) (b : Bool) → is_tag_name name ≡ true → (x == at) ≡ b → verbatim_end (end_text name) (fault at UnclosedRaw) at text ≡ Ok x → token_at (After name) at text ≡ Ok None → ⊥
raw_not_none at x name text true n e v h =
    let p = verbatim_parts (end_text name) (fault at UnclosedRaw) at x text (omega (arith, end_length name)) v in
    let none : p.inner ≡ [] = empty_list p.inner (omega (arith, p.to_is, eqb-true x at e)) in
    let text_is : text ≡ end_text name ++ p.rest = p.text_is ∙ ap (λ (l : List ℕ). l ++ (end_text name ++ p.rest)) none in
    none_not_some (End name, at + length (end_text name)) (token_at (After name) at text) h (none_by name at x text v e ∙ ap (between_at at) text_is ∙ end_tag_only at name p.rest n)
raw_not_none at x name text false n e v h = none_not_some (Raw (take (x - at) text), x) (token_at (After name) at text) h (raw_by name at x text v e)

raw_none_by : (at : ℕ) (name text : List ℕ) (r : Result ℕ ScanFault) → is_tag_name name ≡ true → verbatim_end (end_text name) (fault at UnclosedRaw) at text ≡ r → token_at (After name) at text ≡ Ok None → ⊥
raw_none_by at name text (Err f) n v h = not_ok (token_at (After name) at text) f None (raw_fails at name text f v) h
raw_none_by at name text (Ok x) n v h = raw_not_none at x name text (x == at) n refl v h

none_clean : (m : Mode) (at : ℕ) (text : List ℕ) → Live m → token_at m at text ≡ Ok None → are_chars text ≡ true
none_clean Between at text l e = ap are_chars (none_text at text e)
none_clean (After name) at text l e = absurd (raw_none_by at name text (verbatim_end (end_text name) (fault at UnclosedRaw) at text) l refl e)
none_clean (Failed f) at text l e = absurd l

token_clean : (m : Mode) (at : ℕ) (text some rest : List ℕ) (t : Token) (to : ℕ) → Live m → token_at m at text ≡ Ok (Some (t, to)) → text ≡ some ++ rest → to ≡ at + length some → are_chars rest ≡ true → are_chars text ≡ true
token_clean Between at text some rest t to l e parts n chars =
    let f = token_found at text t to e in
    let same = rests at to text some rest (token_text t) f.rest parts n f.text_is f.to_is in
    ap are_chars f.text_is ∙ chars_append (token_text t) f.rest (token_chars t f.allowed) (ap are_chars (sym same) ∙ chars)
token_clean (After name) at text some rest t to l e parts n chars =
    elim (raw_found at name text t to l e) [
      | Inner inner left is text_is to_is lt fits ↦
          let same = rests at to text some rest inner (end_text name ++ left) parts n text_is to_is in
          ap are_chars text_is ∙ chars_append inner (end_text name ++ left) (verbatim_chars (end_text name) inner fits) (ap are_chars (sym same) ∙ chars)
      | Closing left is text_is to_is ↦
          let same = rests at to text some rest (end_text name) left parts n text_is to_is in
          ap are_chars text_is ∙ chars_append (end_text name) left (end_chars name l) (ap are_chars (sym same) ∙ chars)
    ]
token_clean (Failed f) at text some rest t to l e parts n chars = absurd l

-- ---- runs

abbrev LastOpen : Option ScanFault → Type 0
LastOpen None = Unit {0}
LastOpen (Some f) = is_open f.what ≡ true

runs_clean : (ts : List Placed) (last : Option ScanFault) (m : Mode) (at : ℕ) (text : List ℕ) → Live m → LastOpen last → ReadsTokens m at text ts last → are_chars text ≡ true
runs_clean [] None m at text l o r = none_clean m at text l r
runs_clean [] (Some f) m at text l o r = step_clean m at text f l o r
runs_clean (t ∷ ts) last m at text l o (read, from, rest, some, parts, to, lt, r) =
    let p = part_of m at text t.token t.to (live_named m l) read in
    token_clean m at text some rest t.token t.to l read parts to (runs_clean ts last (mode_after t.token) t.to rest (live_after t.token p.named) o r)

-- ---- forests

err_or : ForestFault → Result (List OpenElement) ForestFault → ForestFault
err_or d (Ok os) = d
err_or d (Err f) = f

shut_by : (a b c : Bool) (at : ℕ) (os : List OpenElement) (name : List ℕ) (f : ForestFault) → cond a (Err (TooDeep at)) (cond b (Ok os) (Ok (record { name = name; at = at } ∷ os))) ≡ Err f → is_unclosed f ≡ true → ⊥
shut_by true b c at os name f e h = let same : TooDeep at ≡ f = cc in both (is_unclosed f) (ap is_unclosed (sym same)) h
shut_by false true c at os name f e h = let g : Ok os ≡ Err f = e in cc
shut_by false false c at os name f e h = let g : Ok (record { name = name; at = at } ∷ os) ≡ Err f = e in cc

end_shut_by : (a b : Bool) (at : ℕ) (os : List OpenElement) (f : ForestFault) → cond a (Err (Stray at)) (cond b (Ok os) (Err (Mismatched at))) ≡ Err f → is_unclosed f ≡ true → ⊥
end_shut_by true b at os f e h = let same : Stray at ≡ f = cc in both (is_unclosed f) (ap is_unclosed (sym same)) h
end_shut_by false true at os f e h = let g : Ok os ≡ Err f = e in cc
end_shut_by false false at os f e h = let same : Mismatched at ≡ f = cc in both (is_unclosed f) (ap is_unclosed (sym same)) h

own_shut : (t : Token) (at : ℕ) (os : List OpenElement) (f : ForestFault) → after_token t at os ≡ Err f → is_unclosed f ≡ true → ⊥
own_shut (Start name attrs slash) at os f e h = shut_by (length os == 200) (is_void name) true at os name f e h
own_shut (End name) at [] f e h = let same : Stray at ≡ f = cc in both (is_unclosed f) (ap is_unclosed (sym same)) h
own_shut (End name) at (o ∷ os) f e h = end_shut_by (is_void name) (name_same o.name name) at os f e h
own_shut (Chars text) at os f e h = let g : Ok os ≡ Err f = e in cc
own_shut (Raw text) at os f e h = let g : Ok os ≡ Err f = e in cc
own_shut (Comment text) at os f e h = let g : Ok os ≡ Err f = e in cc

last_open : (ts : List Placed) (last : Option ScanFault) (os : List OpenElement) (f : ForestFault) → fault_in last os ts ≡ Some f → is_unclosed f ≡ true → LastOpen last
last_open ts None os f e h = tt
last_open [] (Some g) os f e h =
    let same : Scan g ≡ f = fault_same (Scan g) f (sym (scan_at_end os g) ∙ e) in
    ap is_unclosed same ∙ h
last_open (t ∷ ts) (Some g) os f e h =
    elim (one_way t os (Some g) ts f (after_token t.token t.from os) refl e) [
      | inl own ↦ absurd (own_shut t.token t.from os f own h)
      | inr (os2, a, later) ↦ last_open ts (Some g) os2 f later h
    ]

zero_last : (text : List ℕ) → are_chars (text ++ (0 ∷ [])) ≡ true → ⊥
unfolding is_barred
zero_last [] e = cc
zero_last (b ∷ bs) e = zero_last bs (and_right (not (is_barred b)) (are_chars (bs ++ (0 ∷ []))) e)

pub unclosed_goes : (text : List ℕ) (f : ForestFault) → is_unclosed f ≡ true → fault_of (text ++ (0 ∷ [])) ≡ Some f → ⊥
unclosed_goes text f h e =
    let whole : List ℕ = text ++ (0 ∷ []) in
    let last = last_open (tokens_of whole).tokens (tokens_of whole).fault [] f (sym (fault_as whole) ∙ e) h in
    zero_last text (runs_clean (tokens_of whole).tokens (tokens_of whole).fault Between 0 whole tt last (runs_of whole))
