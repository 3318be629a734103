-- A text that is read as a token is spelled so.
use Rattle.std.proofs.Common.{◌≡◌, ℕ, ◌+◌, ◌-◌, ◌<◌, Bool, true, false, cond, not, ◌&&◌, ◌||◌, List, [], ◌∷◌, ◌++◌, length, drop, take, Some, None, Result, Ok, Err, refl, sym, ap, ◌∙◌, arith, eq-eqb, eqb-true, append_assoc, add-zero, subst, inl, inr}
use Rattle.std.specs.Prelude.{◌==◌, nat_le}
use Rattle.std.proofs.lemmas.List.{length-drop, length-append, take_at, take-append-drop}
use Rattle.std.proofs.Math.Seq.{drop-append_seam}
use Rattle.std.proofs.lemmas.Bool.{cases_Bool, le-leb}
use Rattle.std.specs.List.{flat_map, list_all}
use Rattle.model_spelling.specs.declared.scan_fault.ScanFault.{ScanFault}
use Rattle.model_spelling.specs.declared.scan_fault.ScanWhat.TheVariants.{BadTag, BadAttribute, Doctype, UnclosedComment, UnclosedTag, UnclosedRaw}
use Rattle.model_spelling.specs.Grammar.{is_letter, is_name_byte, is_tag_name, is_plaintext, name_same, is_run, is_text, is_verbatim, is_attr, has_name, are_distinct, are_attrs, Attr, attr_text, Token, Start, End, Chars, Raw, Comment, end_text, comment_open, comment_close}
use Rattle.ve_kinds.specs.Tags.{is_void}
use Rattle.model_spelling.specs.Reading.{◌>>=◌, is_doctype, fault, byte_fault, run_end, verbatim_end, attrs_at, name_ends, slash_at, tag_close, start_after, with_name, start_at, end_after, end_at, comment_at, dash_at, markup_at, some_token, tag_at, between_at, token_at, Between, After, Step}
use Rattle.model_spelling.specs.Tokens.{BeginsTag, IsTokenRead, RawRead, Inner, Closing}
use Rattle.model_spelling.proofs.AttrReading.{and_left, and_right}
use Rattle.model_spelling.proofs.TokenRuns.{not_false, letter_names, text_parts, same_step, verbatim_found, Follows}
use Rattle.model_spelling.proofs.Only.{Apart, none_in, same_turned, close_text, and_both, not_true, both, or_first, or_second, start_length, start_regrouped, end_length, comment_length, raw_by, none_by, end_tag_only}
use Rattle.model_spelling.proofs.Found.{ok, ok_same, not_ok, run_parts, Split, split, Stops, named_as, AttrsFound, attrs_found}

two_false : (a b : Bool) → a ≡ false → b ≡ false → (a || b) ≡ false
two_false a b e f = rw (e, f) refl

-- ---- distinct names

has_apart : (name : List ℕ) (before : List Attr) (a : Attr) → has_name name (before ++ a ∷ []) ≡ false → (has_name name before ≡ false) × (name_same a.name name ≡ false)
has_apart name [] a e = (refl, or_first (name_same a.name name) false e)
has_apart name (b ∷ before) a e =
    let more = has_apart name before a (or_second (name_same b.name name) (has_name name (before ++ a ∷ [])) e) in
    (two_false (name_same b.name name) (has_name name before) (or_first (name_same b.name name) (has_name name (before ++ a ∷ [])) e) more.0, more.1)

none_before : (a : Attr) (before attrs : List Attr) → none_in (before ++ a ∷ []) attrs ≡ true → (none_in before attrs ≡ true) × (has_name a.name attrs ≡ false)
none_before a before [] e = (refl, refl)
none_before a before (b ∷ attrs) e =
    let here = has_apart b.name before a (not_false (has_name b.name (before ++ a ∷ [])) (and_left (not (has_name b.name (before ++ a ∷ []))) (none_in (before ++ a ∷ []) attrs) e)) in
    let more = none_before a before attrs (and_right (not (has_name b.name (before ++ a ∷ []))) (none_in (before ++ a ∷ []) attrs) e) in (
      and_both (not (has_name b.name before)) (none_in before attrs) (not_true (has_name b.name before) here.0) more.0,
      two_false (name_same b.name a.name) (has_name a.name attrs) (same_turned a.name b.name here.1) more.1,
    )

distinct_from : (before attrs : List Attr) → Apart before attrs → (are_distinct attrs ≡ true) × (none_in before attrs ≡ true)
distinct_from before [] h = (refl, refl)
distinct_from before (a ∷ attrs) h =
    let more = distinct_from (before ++ a ∷ []) attrs h.1 in
    let parts = none_before a before attrs more.1 in (
      and_both (not (has_name a.name attrs)) (are_distinct attrs) (not_true (has_name a.name attrs) parts.1) more.0,
      and_both (not (has_name a.name before)) (none_in before attrs) (not_true (has_name a.name before) h.0) parts.0,
    )

attrs_fit : (at to : ℕ) (text : List ℕ) (attrs : List Attr) → AttrsFound 256 at [] text attrs to → are_attrs attrs ≡ true
attrs_fit at to text attrs f =
    let fits : are_attrs f.more ≡ true = and_both (list_all is_attr f.more && are_distinct f.more) (nat_le (length f.more) 256)
    (and_both (list_all is_attr f.more) (are_distinct f.more) f.allowed (distinct_from [] f.more f.apart).0) (le-leb (length f.more) 256 f.few) in
    ap are_attrs f.attrs_are ∙ fits

-- ---- start tags

record CloseFound (void : Bool) (at : ℕ) (text : List ℕ) (slash : Bool) (to : ℕ) : Type 0 where
  pub rest : List ℕ
  pub text_is : text ≡ close_text slash ++ rest
  pub to_is : to ≡ at + length (close_text slash)
  pub may : (not slash || void) ≡ true

close_by : (at : ℕ) (text rest : List ℕ) (slash s : Bool) (to x : ℕ) (void : Bool) → text ≡ close_text s ++ rest → x ≡ at + length (close_text s) → (not s || void) ≡ true → ok {A = Bool × ℕ} (s, x) ≡ ok (slash, to) → CloseFound void at text slash to
close_by at text rest slash s to x void t n may e =
    let same = ok_same (s, x) (slash, to) e in
    subst (λ (p : Bool × ℕ). CloseFound void at text p.0 p.1) same (record { rest = rest; text_is = t; to_is = n; may = may })

slash_found : (tag at : ℕ) (void : Bool) (text : List ℕ) (slash : Bool) (to : ℕ) → void ≡ true → slash_at tag at text ≡ ok (slash, to) → CloseFound void at (47 ∷ text) slash to
slash_found tag at void [] slash to v e = absurd (not_ok (Err (fault tag UnclosedTag)) (fault tag UnclosedTag) (slash, to) refl e)
slash_found tag at void (d ∷ rest) slash to v e =
    elim (cases_Bool (d == 62)) [
      | inl close ↦
          let h : ok {A = Bool × ℕ} (true, at + 2) ≡ ok (slash, to) = rw close at e in
          close_by at (47 ∷ (d ∷ rest)) rest slash true to (at + 2) void (ap (λ (x : ℕ). 47 ∷ (x ∷ rest)) (eqb-true d 62 close)) refl v h
      | inr other ↦ absurd (not_ok (slash_at tag at (d ∷ rest)) (byte_fault (at + 1) d (fault at BadAttribute)) (slash, to) (rw other refl) e)
    ]

close_found : (tag at : ℕ) (void : Bool) (text : List ℕ) (slash : Bool) (to : ℕ) → tag_close tag void at text ≡ ok (slash, to) → CloseFound void at text slash to
close_found tag at void [] slash to e = absurd (not_ok (tag_close tag void at []) (fault tag UnclosedTag) (slash, to) refl e)
close_found tag at void (c ∷ rest) slash to e =
    elim (cases_Bool (c == 62)) [
      | inl close ↦
          let h : ok {A = Bool × ℕ} (false, at + 1) ≡ ok (slash, to) = rw close at e in
          close_by at (c ∷ rest) rest slash false to (at + 1) void (ap (λ (x : ℕ). x ∷ rest) (eqb-true c 62 close)) refl refl h
      | inr other ↦
          elim (cases_Bool (c == 47 && void)) [
            | inl both ↦
                let h : slash_at tag at rest ≡ ok (slash, to) = rw (other, both) at e in
                let f = slash_found tag at void rest slash to (and_right (c == 47) void both) h in
                record { rest = f.rest; text_is = ap (λ (x : ℕ). x ∷ rest) (eqb-true c 47 (and_left (c == 47) void both)) ∙ f.text_is; to_is = f.to_is; may = f.may }
            | inr neither ↦ absurd (not_ok (tag_close tag void at (c ∷ rest)) (byte_fault at c (fault at BadAttribute)) (slash, to) (rw (other, neither) refl) e)
          ]
    ]

-- the parts of a start tag after its name
pub record AfterFound (at : ℕ) (name text : List ℕ) (t : Token) (to : ℕ) : Type 0 where
  pub attrs : List Attr
  pub slash : Bool
  pub rest : List ℕ
  pub is : t ≡ Start name attrs slash
  pub text_is : text ≡ flat_map attr_text attrs ++ (close_text slash ++ rest)
  pub to_is : to ≡ at + length (flat_map attr_text attrs) + length (close_text slash)
  pub fit : are_attrs attrs ≡ true
  pub may : (not slash || is_void name) ≡ true
  pub plain : is_plaintext name ≡ false

pub after_fails : (tag at : ℕ) (name text : List ℕ) (f : ScanFault) → name_ends tag name at text ≡ Err f → start_after tag name at text ≡ Err f
unfolding start_after
after_fails tag at name text f e = rw e refl

pub after_fails_attrs : (tag at : ℕ) (name text : List ℕ) (f : ScanFault) → name_ends tag name at text ≡ Ok tt → attrs_at 256 tag [] at text ≡ Err f → start_after tag name at text ≡ Err f
unfolding start_after
after_fails_attrs tag at name text f e g = rw (e, g) refl

pub after_fails_close : (tag at x : ℕ) (name text : List ℕ) (attrs : List Attr) (f : ScanFault) → name_ends tag name at text ≡ Ok tt → attrs_at 256 tag [] at text ≡ Ok (attrs, x) → tag_close tag (is_void name) x (drop (x - at) text) ≡ Err f → start_after tag name at text ≡ Err f
unfolding start_after
after_fails_close tag at x name text attrs f e g h = rw (e, g, h) refl

pub after_is : (tag at x end : ℕ) (name text : List ℕ) (attrs : List Attr) (slash : Bool) → name_ends tag name at text ≡ Ok tt → attrs_at 256 tag [] at text ≡ Ok (attrs, x) → tag_close tag (is_void name) x (drop (x - at) text) ≡ Ok (slash, end) → start_after tag name at text ≡ ok (Start name attrs slash, end)
unfolding start_after
after_is tag at x end name text attrs slash e g h = rw (e, g, h) refl

ends_plain : (tag at : ℕ) (name text : List ℕ) → name_ends tag name at text ≡ Ok tt → is_plaintext name ≡ false
ends_plain tag at name [] e = absurd (not_ok (name_ends tag name at []) (fault tag UnclosedTag) tt refl e)
ends_plain tag at name (c ∷ rest) e =
    elim (cases_Bool (is_plaintext name)) [
      | inl plain ↦ absurd (not_ok (name_ends tag name at (c ∷ rest)) (byte_fault at c (fault tag BadTag)) tt (rw plain refl) e)
      | inr other ↦ other
    ]

after_by : (tag at x end : ℕ) (name text : List ℕ) (attrs : List Attr) (slash : Bool) (t : Token) (to : ℕ) → name_ends tag name at text ≡ Ok tt → attrs_at 256 tag [] at text ≡ Ok (attrs, x) → tag_close tag (is_void name) x (drop (x - at) text) ≡ Ok (slash, end)
    → start_after tag name at text ≡ ok (t, to) → AfterFound at name text t to
after_by tag at x end name text attrs slash t to e g h r =
    let same = ok_same (Start name attrs slash, end) (t, to) (sym (after_is tag at x end name text attrs slash e g h) ∙ r) in
    let f = attrs_found 256 tag at [] text attrs x g in
    let len : x - at ≡ length (flat_map attr_text f.more) = omega (arith, f.to_is) in
    let left : drop (x - at) text ≡ f.rest = ap (λ (k : ℕ). drop k text) len ∙ ap (drop (length (flat_map attr_text f.more))) f.text_is ∙ drop-append_seam (flat_map attr_text f.more) f.rest in
    let c = close_found tag x (is_void name) (drop (x - at) text) slash end h in
    let ends : end ≡ to = ap (λ (p : Token × ℕ). p.1) same in
    let count : length (flat_map attr_text attrs) ≡ length (flat_map attr_text f.more) = ap (λ (l : List Attr). length (flat_map attr_text l)) f.attrs_are in
    record {
      attrs = attrs;
      slash = slash;
      rest = c.rest;
      is = sym (ap (λ (p : Token × ℕ). p.0) same);
      text_is = f.text_is ∙ ap (λ (l : List ℕ). flat_map attr_text f.more ++ l) (sym left ∙ c.text_is) ∙ ap (λ (l : List Attr). flat_map attr_text l ++ (close_text slash ++ c.rest)) (sym f.attrs_are);
      to_is = omega (arith, ends, c.to_is, f.to_is, count);
      fit = attrs_fit at x text attrs f;
      may = c.may;
      plain = ends_plain tag at name text e;
    }

after_by_close : (tag at x : ℕ) (name text : List ℕ) (attrs : List Attr) (c : Result (Bool × ℕ) ScanFault) (t : Token) (to : ℕ) → name_ends tag name at text ≡ Ok tt → attrs_at 256 tag [] at text ≡ Ok (attrs, x) → tag_close tag (is_void name) x (drop (x - at) text) ≡ c
    → start_after tag name at text ≡ ok (t, to) → AfterFound at name text t to
after_by_close tag at x name text attrs (Err f) t to e g h r = absurd (not_ok (start_after tag name at text) f (t, to) (after_fails_close tag at x name text attrs f e g h) r)
after_by_close tag at x name text attrs (Ok (slash, end)) t to e g h r = after_by tag at x end name text attrs slash t to e g h r

after_by_attrs : (tag at : ℕ) (name text : List ℕ) (a : Result (List Attr × ℕ) ScanFault) (t : Token) (to : ℕ) → name_ends tag name at text ≡ Ok tt → attrs_at 256 tag [] at text ≡ a
    → start_after tag name at text ≡ ok (t, to) → AfterFound at name text t to
after_by_attrs tag at name text (Err f) t to e g r = absurd (not_ok (start_after tag name at text) f (t, to) (after_fails_attrs tag at name text f e g) r)
after_by_attrs tag at name text (Ok (attrs, x)) t to e g r = after_by_close tag at x name text attrs (tag_close tag (is_void name) x (drop (x - at) text)) t to e g refl r

pub after_by_name : (tag at : ℕ) (name text : List ℕ) (n : Result (Unit {0}) ScanFault) (t : Token) (to : ℕ) → name_ends tag name at text ≡ n → start_after tag name at text ≡ ok (t, to) → AfterFound at name text t to
after_by_name tag at name text (Err f) t to e r = absurd (not_ok (start_after tag name at text) f (t, to) (after_fails tag at name text f e) r)
after_by_name tag at name text (Ok tt) t to e r = after_by_attrs tag at name text (attrs_at 256 tag [] at text) t to e refl r

-- a name that begins with a letter
name_by : (b : ℕ) (bs prefix suffix : List ℕ) → is_letter b ≡ true → b ∷ bs ≡ prefix ++ suffix → list_all is_name_byte prefix ≡ true → (prefix ≡ [] → ⊥) → is_plaintext prefix ≡ false → is_tag_name prefix ≡ true
name_by b bs [] suffix l e all some plain = absurd (some refl)
name_by b bs (x ∷ xs) suffix l e all some plain =
    let same : b ≡ x = cc in
    and_both (is_letter x && list_all is_name_byte xs) (not (is_plaintext (x ∷ xs))) (and_both (is_letter x) (list_all is_name_byte xs) (ap is_letter (sym same) ∙ l) (and_right (is_name_byte x) (list_all is_name_byte xs) all)) (not_true (is_plaintext (x ∷ xs)) plain)

name_some : (b : ℕ) (bs prefix suffix : List ℕ) → is_letter b ≡ true → b ∷ bs ≡ prefix ++ suffix → Stops is_name_byte suffix → prefix ≡ [] → ⊥
name_some b bs [] [] l e stops h = cc
name_some b bs [] (c ∷ suffix) l e stops h = let same : b ≡ c = cc in both (is_name_byte c) stops (ap is_name_byte (sym same) ∙ letter_names b l)
name_some b bs (x ∷ prefix) suffix l e stops h = cc

split_named : (b : ℕ) (bs : List ℕ) (s : Split is_name_byte (b ∷ bs)) → is_letter b ≡ true → is_plaintext s.prefix ≡ false → is_tag_name s.prefix ≡ true
split_named b bs s l plain = name_by b bs s.prefix s.suffix l s.text_is s.all (name_some b bs s.prefix s.suffix l s.text_is s.stops) plain

pub start_is : (tag : ℕ) (text : List ℕ) → start_at tag text ≡ with_name (start_after tag) (tag + 1) text
unfolding start_at
start_is tag text = refl

pub start_found : (tag b : ℕ) (bs : List ℕ) (t : Token) (to : ℕ) → is_letter b ≡ true → start_at tag (b ∷ bs) ≡ ok (t, to) → IsTokenRead tag (60 ∷ (b ∷ bs)) t to
start_found tag b bs t to l e =
    let s = split is_name_byte (b ∷ bs) in
    let read = sym (start_is tag (b ∷ bs) ∙ named_as (start_after tag) (tag + 1) (b ∷ bs) s) ∙ e in
    let f = after_by_name tag (tag + 1 + length s.prefix) s.prefix s.suffix (name_ends tag s.prefix (tag + 1 + length s.prefix) s.suffix) t to refl read in
    let named = split_named b bs s l f.plain in
    let made : IsTokenRead tag (60 ∷ (b ∷ bs)) (Start s.prefix f.attrs f.slash) to = record {
      rest = f.rest;
      text_is = ap (λ (l : List ℕ). 60 ∷ l) (s.text_is ∙ ap (λ (l : List ℕ). s.prefix ++ l) f.text_is) ∙ sym (start_regrouped s.prefix f.attrs f.slash f.rest);
      to_is = omega (arith, f.to_is, start_length s.prefix f.attrs f.slash);
      allowed = and_both (is_tag_name s.prefix && are_attrs f.attrs) (not f.slash || is_void s.prefix) (and_both (is_tag_name s.prefix) (are_attrs f.attrs) named f.fit) f.may;
      follows = tt;
    } in
    subst (λ (x : Token). IsTokenRead tag (60 ∷ (b ∷ bs)) x to) (sym f.is) made

-- ---- end tags

end_by : (tag at : ℕ) (name text : List ℕ) (t : Token) (to : ℕ) → end_after tag name at text ≡ ok (t, to) → (rest : List ℕ) × (text ≡ 62 ∷ rest) × (t ≡ End name) × (to ≡ at + 1) × (is_plaintext name ≡ false)
end_by tag at name [] t to e = absurd (not_ok (end_after tag name at []) (fault tag UnclosedTag) (t, to) refl e)
end_by tag at name (c ∷ rest) t to e =
    elim (cases_Bool (c == 62 && not (is_plaintext name))) [
      | inl good ↦
          let h : ok {A = Token × ℕ} (End name, at + 1) ≡ ok (t, to) = rw good at e in
          let same = ok_same (End name, at + 1) (t, to) h in
          (rest, ap (λ (x : ℕ). x ∷ rest) (eqb-true c 62 (and_left (c == 62) (not (is_plaintext name)) good)), sym (ap (λ (p : Token × ℕ). p.0) same), sym (ap (λ (p : Token × ℕ). p.1) same), not_false (is_plaintext name) (and_right (c == 62) (not (is_plaintext name)) good))
      | inr bad ↦ absurd (not_ok (end_after tag name at (c ∷ rest)) (byte_fault at c (fault tag BadTag)) (t, to) (rw bad refl) e)
    ]

end_named : (tag b : ℕ) (bs : List ℕ) (t : Token) (to : ℕ) → is_letter b ≡ true → with_name (end_after tag) (tag + 2) (b ∷ bs) ≡ ok (t, to) → IsTokenRead tag (60 ∷ (47 ∷ (b ∷ bs))) t to
end_named tag b bs t to l e =
    let s = split is_name_byte (b ∷ bs) in
    let f = end_by tag (tag + 2 + length s.prefix) s.prefix s.suffix t to (sym (named_as (end_after tag) (tag + 2) (b ∷ bs) s) ∙ e) in
    let made : IsTokenRead tag (60 ∷ (47 ∷ (b ∷ bs))) (End s.prefix) to = record {
      rest = f.0;
      text_is = ap (λ (l : List ℕ). 60 ∷ (47 ∷ l)) (s.text_is ∙ ap (λ (l : List ℕ). s.prefix ++ l) f.1) ∙ sym (append_assoc (60 ∷ 47 ∷ s.prefix) (62 ∷ []) f.0);
      to_is = omega (arith, f.3, end_length s.prefix);
      allowed = split_named b bs s l f.4;
      follows = tt;
    } in
    subst (λ (x : Token). IsTokenRead tag (60 ∷ (47 ∷ (b ∷ bs))) x to) (sym f.2) made

end_found : (tag : ℕ) (text : List ℕ) (t : Token) (to : ℕ) → end_at tag text ≡ ok (t, to) → IsTokenRead tag (60 ∷ (47 ∷ text)) t to
unfolding end_at
end_found tag [] t to e = absurd (not_ok (Err (fault tag UnclosedTag)) (fault tag UnclosedTag) (t, to) refl e)
end_found tag (b ∷ bs) t to e =
    elim (cases_Bool (is_letter b)) [
      | inl letter ↦
          let h : with_name (end_after tag) (tag + 2) (b ∷ bs) ≡ ok (t, to) = rw letter at e in
          end_named tag b bs t to letter h
      | inr other ↦
          let h : Err (byte_fault (tag + 2) b (fault tag BadTag)) ≡ ok (t, to) = rw other at e in
          absurd (not_ok (Err (byte_fault (tag + 2) b (fault tag BadTag))) (byte_fault (tag + 2) b (fault tag BadTag)) (t, to) refl h)
    ]

-- ---- comments

pub comment_is : (tag x : ℕ) (text : List ℕ) → verbatim_end comment_close (fault tag UnclosedComment) (tag + 4) text ≡ Ok x → comment_at tag text ≡ ok (Comment (take (x - (tag + 4)) text), x + 3)
unfolding comment_at
comment_is tag x text e = rw e refl

pub comment_fails : (tag : ℕ) (text : List ℕ) (f : ScanFault) → verbatim_end comment_close (fault tag UnclosedComment) (tag + 4) text ≡ Err f → comment_at tag text ≡ Err f
unfolding comment_at
comment_fails tag text f e = rw e refl

pub record VerbatimFound (close : List ℕ) (at to : ℕ) (text : List ℕ) : Type 0 where
  pub rest : List ℕ
  pub inner : List ℕ
  pub text_is : text ≡ inner ++ (close ++ rest)
  pub taken : take (to - at) text ≡ inner
  pub to_is : to ≡ at + length inner
  pub fits : is_verbatim close inner ≡ true

pub verbatim_parts : (close : List ℕ) (unclosed : ScanFault) (at to : ℕ) (text : List ℕ) → 0 < length close → verbatim_end close unclosed at text ≡ Ok to → VerbatimFound close at to text
verbatim_parts close unclosed at to text some e =
    let c = verbatim_found close unclosed at to text e in
    let n : ℕ = to - at in
    let whole : length text ≡ length (take n text) + (length close + length (drop (n + length close) text)) = ap length c.closes ∙ length-append (take n text) (close ++ drop (n + length close) text) ∙ ap (λ (k : ℕ). length (take n text) + k) (length-append close (drop (n + length close) text)) in
    let parts : length text ≡ length (take n text) + length (drop n text) = ap length (sym (take-append-drop n text)) ∙ length-append (take n text) (drop n text) in
    record {
      rest = drop (n + length close) text;
      inner = take n text;
      text_is = c.closes;
      taken = refl;
      to_is = omega (arith, c.le, whole, parts, some, length-drop n text, length-drop (n + length close) text);
      fits = c.fits;
    }

comment_by : (tag : ℕ) (text : List ℕ) (r : Result ℕ ScanFault) (t : Token) (to : ℕ) → verbatim_end comment_close (fault tag UnclosedComment) (tag + 4) text ≡ r → comment_at tag text ≡ ok (t, to) → IsTokenRead tag (60 ∷ (33 ∷ (45 ∷ (45 ∷ text)))) t to
comment_by tag text (Err f) t to e h = absurd (not_ok (comment_at tag text) f (t, to) (comment_fails tag text f e) h)
comment_by tag text (Ok x) t to e h =
    let same = ok_same (Comment (take (x - (tag + 4)) text), x + 3) (t, to) (sym (comment_is tag x text e) ∙ h) in
    let v = verbatim_parts comment_close (fault tag UnclosedComment) (tag + 4) x text (omega arith) e in
    let made : IsTokenRead tag (60 ∷ (33 ∷ (45 ∷ (45 ∷ text)))) (Comment v.inner) (x + 3) = record {
      rest = v.rest;
      text_is = ap (λ (l : List ℕ). 60 ∷ (33 ∷ (45 ∷ (45 ∷ l)))) v.text_is ∙ sym (append_assoc (comment_open ++ v.inner) comment_close v.rest ∙ append_assoc comment_open v.inner (comment_close ++ v.rest));
      to_is = omega (arith, v.to_is, comment_length v.inner);
      allowed = v.fits;
      follows = tt;
    } in
    let renamed : (Comment v.inner, x + 3) ≡ (t, to) = ap (λ (l : List ℕ). (Comment l, x + 3)) (sym v.taken) ∙ same in
    subst (λ (p : Token × ℕ). IsTokenRead tag (60 ∷ (33 ∷ (45 ∷ (45 ∷ text)))) p.0 p.1) renamed made

dash_found : (tag : ℕ) (text : List ℕ) (t : Token) (to : ℕ) → dash_at tag text ≡ ok (t, to) → IsTokenRead tag (60 ∷ (33 ∷ (45 ∷ text))) t to
unfolding dash_at
dash_found tag [] t to e = absurd (not_ok (Err (fault tag UnclosedComment)) (fault tag UnclosedComment) (t, to) refl e)
dash_found tag (d ∷ ds) t to e =
    elim (cases_Bool (d == 45)) [
      | inl dash ↦
          let h : comment_at tag ds ≡ ok (t, to) = rw dash at e in
          subst (λ (x : ℕ). IsTokenRead tag (60 ∷ (33 ∷ (45 ∷ (x ∷ ds)))) t to) (sym (eqb-true d 45 dash)) (comment_by tag ds (verbatim_end comment_close (fault tag UnclosedComment) (tag + 4) ds) t to refl h)
      | inr other ↦
          let h : Err (byte_fault (tag + 3) d (fault tag BadTag)) ≡ ok (t, to) = rw other at e in
          absurd (not_ok (Err (byte_fault (tag + 3) d (fault tag BadTag))) (byte_fault (tag + 3) d (fault tag BadTag)) (t, to) refl h)
    ]

markup_other : (tag c : ℕ) (cs : List ℕ) (t : Token) (to : ℕ) → (c == 45) ≡ false → markup_at tag (c ∷ cs) ≡ ok (t, to) → ⊥
unfolding markup_at
markup_other tag c cs t to n e = not_ok (markup_at tag (c ∷ cs)) (byte_fault (tag + 2) c (fault tag (cond (is_doctype (c ∷ cs)) Doctype BadTag))) (t, to) (rw n refl) e

markup_found : (tag : ℕ) (text : List ℕ) (t : Token) (to : ℕ) → markup_at tag text ≡ ok (t, to) → IsTokenRead tag (60 ∷ (33 ∷ text)) t to
unfolding markup_at
markup_found tag [] t to e = absurd (not_ok (Err (fault tag UnclosedComment)) (fault tag UnclosedComment) (t, to) refl e)
markup_found tag (c ∷ cs) t to e =
    elim (cases_Bool (c == 45)) [
      | inl dash ↦
          let h : dash_at tag cs ≡ ok (t, to) = rw dash at e in
          subst (λ (x : ℕ). IsTokenRead tag (60 ∷ (33 ∷ (x ∷ cs))) t to) (sym (eqb-true c 45 dash)) (dash_found tag cs t to h)
      | inr other ↦ absurd (markup_other tag c cs t to other e)
    ]

-- ---- tokens

pub tag_found : (tag : ℕ) (text : List ℕ) (t : Token) (to : ℕ) → tag_at tag text ≡ ok (t, to) → IsTokenRead tag (60 ∷ text) t to
unfolding tag_at
tag_found tag [] t to e = absurd (not_ok (Err (fault tag UnclosedTag)) (fault tag UnclosedTag) (t, to) refl e)
tag_found tag (c ∷ cs) t to e =
    elim (cases_Bool (is_letter c)) [
      | inl letter ↦ let h : start_at tag (c ∷ cs) ≡ ok (t, to) = rw letter at e in start_found tag c cs t to letter h
      | inr no_letter ↦
          elim (cases_Bool (c == 47)) [
            | inl slash ↦
                let h : end_at tag cs ≡ ok (t, to) = rw (no_letter, slash) at e in
                subst (λ (x : ℕ). IsTokenRead tag (60 ∷ (x ∷ cs)) t to) (sym (eqb-true c 47 slash)) (end_found tag cs t to h)
            | inr no_slash ↦
                elim (cases_Bool (c == 33)) [
                  | inl bang ↦
                      let h : markup_at tag cs ≡ ok (t, to) = rw (no_letter, no_slash, bang) at e in
                      subst (λ (x : ℕ). IsTokenRead tag (60 ∷ (x ∷ cs)) t to) (sym (eqb-true c 33 bang)) (markup_found tag cs t to h)
                  | inr no_bang ↦
                      let h : Err (byte_fault (tag + 1) c (fault tag BadTag)) ≡ ok (t, to) = rw (no_letter, no_slash, no_bang) at e in
                      absurd (not_ok (Err (byte_fault (tag + 1) c (fault tag BadTag))) (byte_fault (tag + 1) c (fault tag BadTag)) (t, to) refl h)
                ]
          ]
    ]

abbrev found : Token × ℕ → Step
found p = Ok (Some p)

some_found : (r : Result (Token × ℕ) ScanFault) (t : Token) (to : ℕ) → some_token r ≡ found (t, to) → r ≡ ok (t, to)
some_found (Err f) t to e = absurd (not_ok (some_token (Err f)) f (Some (t, to)) refl e)
some_found (Ok p) t to e = ap ok (same_step p (t, to) e)

begins_follows : (rest : List ℕ) → Follows 60 None rest → BeginsTag rest
begins_follows [] e = tt
begins_follows (b ∷ rest) e = e

abbrev as_text : ℕ → List ℕ → ℕ → Step
as_text at text x = Ok (Some (Chars (take (x - at) text), x))

text_some : (b : ℕ) (bs prefix suffix : List ℕ) → (b == 60) ≡ false → b ∷ bs ≡ prefix ++ suffix → Follows 60 None suffix → is_run 60 prefix ≡ true → is_text prefix ≡ true
text_some b bs [] [] n e f r = absurd cc
text_some b bs [] (c ∷ suffix) n e f r = let same : b ≡ c = cc in absurd (both (b == 60) n (eq-eqb b 60 (same ∙ f)))
text_some b bs (x ∷ prefix) suffix n e f r = r

text_by : (at : ℕ) (b : ℕ) (bs : List ℕ) (r : Result ℕ ScanFault) (t : Token) (to : ℕ) → (b == 60) ≡ false → run_end None 60 at (b ∷ bs) ≡ r → (r >>= as_text at (b ∷ bs)) ≡ found (t, to) → IsTokenRead at (b ∷ bs) t to
text_by at b bs (Err f) t to n e h = absurd (not_ok (Err f >>= as_text at (b ∷ bs)) f (Some (t, to)) refl h)
text_by at b bs (Ok x) t to n e h =
    let same = same_step (Chars (take (x - at) (b ∷ bs)), x) (t, to) h in
    let r = run_parts None 60 at x (b ∷ bs) text_parts e in
    let len : length r.prefix ≡ x - at = omega (arith, r.len) in
    let taken : take (x - at) (b ∷ bs) ≡ r.prefix = ap (take (x - at)) r.text_is ∙ take_at r.prefix r.suffix (x - at) len in
    let made : IsTokenRead at (b ∷ bs) (Chars r.prefix) x = record {
      rest = r.suffix;
      text_is = r.text_is;
      to_is = r.len;
      allowed = text_some b bs r.prefix r.suffix n r.text_is r.follows r.run;
      follows = begins_follows r.suffix r.follows;
    } in
    subst (λ (p : Token × ℕ). IsTokenRead at (b ∷ bs) p.0 p.1) (ap (λ (l : List ℕ). (Chars l, x)) (sym taken) ∙ same) made

none_found : (t : Token) (to : ℕ) → Ok None ≡ found (t, to) → ⊥
none_found t to e = cc

-- The text between two tokens is spelled as it is read.
pub between_found : (at : ℕ) (text : List ℕ) (t : Token) (to : ℕ) → between_at at text ≡ found (t, to) → IsTokenRead at text t to
unfolding between_at
between_found at [] t to e = absurd (none_found t to e)
between_found at (b ∷ bs) t to e =
    elim (cases_Bool (b == 60)) [
      | inl tag ↦
          let h : some_token (tag_at at bs) ≡ found (t, to) = rw tag at e in
          subst (λ (x : ℕ). IsTokenRead at (x ∷ bs) t to) (sym (eqb-true b 60 tag)) (tag_found at bs t to (some_found (tag_at at bs) t to h))
      | inr other ↦
          let h : (run_end None 60 at (b ∷ bs) >>= as_text at (b ∷ bs)) ≡ found (t, to) = rw other at e in
          text_by at b bs (run_end None 60 at (b ∷ bs)) t to other refl h
    ]

pub between_is : (at : ℕ) (text : List ℕ) → token_at Between at text ≡ between_at at text
unfolding token_at
between_is at text = refl

pub token_found : (at : ℕ) (text : List ℕ) (t : Token) (to : ℕ) → token_at Between at text ≡ Ok (Some (t, to)) → IsTokenRead at text t to
token_found at text t to e = between_found at text t to (sym (between_is at text) ∙ e)

pub raw_fails : (at : ℕ) (name text : List ℕ) (f : ScanFault) → verbatim_end (end_text name) (fault at UnclosedRaw) at text ≡ Err f → token_at (After name) at text ≡ Err f
unfolding token_at
raw_fails at name text f e = rw e refl

pub empty_list : (l : List ℕ) → length l ≡ 0 → l ≡ []
empty_list [] e = refl
empty_list (b ∷ bs) e = absurd (omega (arith, e))

more_than : (at x : ℕ) (inner : List ℕ) → x ≡ at + length inner → (x == at) ≡ false → 0 < length inner
more_than at x [] e n = absurd (both (x == at) n (eq-eqb x at (e ∙ add-zero at)))
more_than at x (b ∷ bs) e n = omega arith

raw_made : (at x : ℕ) (name text : List ℕ) (t : Token) (to : ℕ) (b : Bool) → is_tag_name name ≡ true → (x == at) ≡ b → verbatim_end (end_text name) (fault at UnclosedRaw) at text ≡ Ok x → token_at (After name) at text ≡ found (t, to) → RawRead at name text t to
raw_made at x name text t to true n e v h =
    let p = verbatim_parts (end_text name) (fault at UnclosedRaw) at x text (omega (arith, end_length name)) v in
    let none : p.inner ≡ [] = empty_list p.inner (omega (arith, p.to_is, eqb-true x at e)) in
    let text_is : text ≡ end_text name ++ p.rest = p.text_is ∙ ap (λ (l : List ℕ). l ++ (end_text name ++ p.rest)) none in
    let same = same_step (End name, at + length (end_text name)) (t, to) (sym (none_by name at x text v e ∙ ap (between_at at) text_is ∙ end_tag_only at name p.rest n) ∙ h) in
    Closing p.rest (sym (ap (λ (q : Token × ℕ). q.0) same)) text_is (sym (ap (λ (q : Token × ℕ). q.1) same))
raw_made at x name text t to false n e v h =
    let p = verbatim_parts (end_text name) (fault at UnclosedRaw) at x text (omega (arith, end_length name)) v in
    let same = same_step (Raw (take (x - at) text), x) (t, to) (sym (raw_by name at x text v e) ∙ h) in
    let ends : x ≡ to = ap (λ (q : Token × ℕ). q.1) same in
    Inner p.inner p.rest (sym (ap (λ (q : Token × ℕ). q.0) same) ∙ ap Raw p.taken) p.text_is (omega (arith, p.to_is)) (more_than at x p.inner p.to_is e) p.fits

raw_by_end : (at : ℕ) (name text : List ℕ) (t : Token) (to : ℕ) (r : Result ℕ ScanFault) → is_tag_name name ≡ true → verbatim_end (end_text name) (fault at UnclosedRaw) at text ≡ r → token_at (After name) at text ≡ found (t, to) → RawRead at name text t to
raw_by_end at name text t to (Err f) n v h = absurd (not_ok (token_at (After name) at text) f (Some (t, to)) (raw_fails at name text f v) h)
raw_by_end at name text t to (Ok x) n v h = raw_made at x name text t to (x == at) n refl v h

pub raw_found : (at : ℕ) (name text : List ℕ) (t : Token) (to : ℕ) → is_tag_name name ≡ true → token_at (After name) at text ≡ Ok (Some (t, to)) → RawRead at name text t to
raw_found at name text t to n h = raw_by_end at name text t to (verbatim_end (end_text name) (fault at UnclosedRaw) at text) n refl h
