-- Where a text may be cut, and what is borrowed from it.
use Rattle.std.specs.List.{list_all}
use Rattle.std.specs.Prelude.{nat_le}
use Rattle.std.proofs.lemmas.List.{drop-take}
use Rattle.std.proofs.Common.{take, not, ◌&&◌, ◌||◌}
use Rattle.model_spelling.specs.Grammar.{Attr, is_attr, is_start, is_tag_name, are_attrs, are_distinct}
use Rattle.ve_kinds.specs.Tags.{is_void, is_raw}
use Rattle.model_spelling.proofs.AttrReading.{and_left, and_right}
use Rattle.model_spelling.proofs.FoundTokens.{start_found}
use Rattle.std.proofs.Common.{◌≡◌, ◌≢◌, ℕ, ◌+◌, ◌-◌, ◌<◌, ◌≤◌, Bool, true, cond, eqb, List, [], ◌∷◌, ◌++◌, length, get_or, drop, Some, None, Result, Ok, Err, refl, sym, ap, ◌∙◌, arith, eq-eqb, IsUtf8, IsCharBoundary, Bor, subst, lit<, add-zero, inl, inr}
use Rattle.std.proofs.lemmas.Str.{IsCharBoundary-after_ascii, IsCharBoundary-before_ascii, IsCharBoundary-end}
use Rattle.std.proofs.lemmas.Slice.Eq.{starts_is}
use Rattle.std.proofs.lemmas.Bool.Decides.{nat_tests, Decides-eqb}
use Rattle.std.proofs.lemmas.List.{get_or-drop, get_or_append_left, at_drop_all, drop_more, length-append, length-take, length-drop}
use Rattle.std.proofs.lemmas.Bool.{ne_eqb, cases_lt}
use Rattle.model_spelling.specs.declared.scan_fault.ScanWhat.TheVariants.{UnclosedRaw}
use Rattle.std.specs.List.{slice_range, flat_map}
use Rattle.model_spelling.specs.declared.scan_fault.ScanFault.{ScanFault}
use Rattle.model_spelling.specs.Grammar.{is_letter, begins_with, Token, Start, End, Comment, Chars, Raw, attr_text, comment_close, end_text}
use Rattle.model_spelling.specs.Reading.{◌>>=◌, fault, some_token, Between, After, Failed, run_end, verbatim_end, tag_at, between_at, token_at, start_at, end_at, markup_at, attrs_from}
use Rattle.ve_html_scan.specs.declared.token.Token.TheVariants as lent
use Rattle.ve_html_scan.specs.Parts.{close_text}
use Rattle.ve_html_scan.specs.Shown.{IsFound}

-- after an ASCII byte
pub after_byte : (t : List ℕ) (at b : ℕ) → IsUtf8 t → at < length t → get_or t at 0 ≡ b → b < 128 → IsCharBoundary t (at + 1)
after_byte t at b u lt e ascii = IsCharBoundary-after_ascii t at u lt (omega arith)

pub letter_ascii : (b : ℕ) → is_letter b ≡ true → b < 128
unfolding is_letter
letter_ascii b e = grind (arith, nat_tests)

pub some_found : (read : Result (Token × ℕ) ScanFault) (x : Token × ℕ) → read ≡ Ok x → some_token read ≡ Ok (Some x)
some_found read x e = rw e refl

pub some_fault : (read : Result (Token × ℕ) ScanFault) (f : ScanFault) → read ≡ Err f → some_token read ≡ Err f
some_fault read f e = rw e refl

pub ruleset lent_steps = (letter_ascii, some_found, some_fault)

-- the bytes of a prefix that the text begins with
pub prefix_byte : (prefix t : List ℕ) (to i : ℕ) → begins_with prefix (drop to t) ≡ true → i < length prefix → get_or t (to + i) 0 ≡ get_or prefix i 0
unfolding begins_with
prefix_byte prefix t to i e lt =
    let parts : drop to t ≡ prefix ++ drop (length prefix) (drop to t) = (starts_is Decides-eqb (drop to t) prefix true (sym e)).0 refl in
    sym (get_or-drop to t i 0) ∙ ap (λ (l : List ℕ). get_or l i 0) parts ∙ get_or_append_left prefix (drop (length prefix) (drop to t)) 0 i lt

pub cut_after_dash : (t b : List ℕ) (tag : ℕ) → b ≡ t → IsUtf8 t → get_or b (tag + 3) 0 ≡ 45 → tag + 3 < length b → IsCharBoundary t (tag + 4)
cut_after_dash t b tag same utf8 dash lt =
    let n : tag + 3 + 1 ≡ tag + 4 = omega arith in
    subst (IsCharBoundary t) n (after_byte t (tag + 3) 45 utf8 (omega (arith, ap length same)) (ap (λ (x : List ℕ). get_or x (tag + 3) 0) (sym same) ∙ dash) (omega arith))

pub cut_before_close : (t b : List ℕ) (to : ℕ) → b ≡ t → begins_with comment_close (drop to b) ≡ true → to < length b → IsCharBoundary t to
cut_before_close t b to same close lt =
    let c : begins_with comment_close (drop to t) ≡ true = subst (λ (x : List ℕ). begins_with comment_close (drop to x) ≡ true) same close in
    let e : get_or t to 0 ≡ 45 = ap (λ (k : ℕ). get_or t k 0) (sym (add-zero to)) ∙ prefix_byte comment_close t to 0 c (lit< tt) in
    IsCharBoundary-before_ascii t to (omega (arith, ap length same)) (omega arith)

pub cut_after_close : (t b : List ℕ) (to : ℕ) → b ≡ t → IsUtf8 t → get_or b (to - 1) 0 ≡ 62 → 0 < to → to ≤ length b → IsCharBoundary t to
cut_after_close t b to same utf8 close some le =
    let n : to - 1 + 1 ≡ to = omega arith in
    subst (IsCharBoundary t) n (after_byte t (to - 1) 62 utf8 (omega (arith, ap length same)) (ap (λ (x : List ℕ). get_or x (to - 1) 0) (sym same) ∙ close) (omega arith))

-- ---- the tokens, borrowed from a text t whose bytes are b

pub end_lent : (t b : List ℕ) (tag to : ℕ) (name : Bor (List ℕ)) → b ≡ t → IsUtf8 t → end_at tag (drop (tag + 2) b) ≡ Ok (End (slice_range b (tag + 2) to), to + 1)
    → tag + 2 ≤ to → to < length b → get_or b to 0 ≡ 62 → name.now ≡ slice_range t (tag + 2) to
    → IsFound t tag (some_token (end_at tag (drop (tag + 2) t))) (lent.EndTag name (record { from = tag; to = to + 1 }))
end_lent t b tag to name same utf8 read ge lt close is =
    let r = subst (λ (x : List ℕ). end_at tag (drop (tag + 2) x) ≡ Ok (End (slice_range x (tag + 2) to), to + 1)) same read in
    record {
      token = End (slice_range t (tag + 2) to);
      is = some_found (end_at tag (drop (tag + 2) t)) (End (slice_range t (tag + 2) to), to + 1) r;
      shows = is;
      from = refl;
      some = omega arith;
      mode = refl;
      boundary = after_byte t to 62 utf8 (omega (arith, ap length same)) (ap (λ (x : List ℕ). get_or x to 0) (sym same) ∙ close) (omega arith);
    }

pub comment_lent : (t b : List ℕ) (tag to : ℕ) (text : Bor (List ℕ)) → b ≡ t → IsUtf8 t → markup_at tag (drop (tag + 2) b) ≡ Ok (Comment (slice_range b (tag + 4) to), to + 3)
    → tag + 4 ≤ to → to + 3 ≤ length b → begins_with comment_close (drop to b) ≡ true → text.now ≡ slice_range t (tag + 4) to
    → IsFound t tag (some_token (markup_at tag (drop (tag + 2) t))) (lent.Comment text (record { from = tag; to = to + 3 }))
comment_lent t b tag to text same utf8 read ge le close is =
    let r = subst (λ (x : List ℕ). markup_at tag (drop (tag + 2) x) ≡ Ok (Comment (slice_range x (tag + 4) to), to + 3)) same read in
    let c : begins_with comment_close (drop to t) ≡ true = subst (λ (x : List ℕ). begins_with comment_close (drop to x) ≡ true) same close in
    let len : length b ≡ length t = ap length same in
    let n : to + 2 + 1 ≡ to + 3 = omega arith in
    let end : IsCharBoundary t (to + 2 + 1) = after_byte t (to + 2) 62 utf8 (omega (arith, len)) (prefix_byte comment_close t to 2 c (lit< tt)) (omega arith) in
    record {
      token = Comment (slice_range t (tag + 4) to);
      is = some_found (markup_at tag (drop (tag + 2) t)) (Comment (slice_range t (tag + 4) to), to + 3) r;
      shows = is;
      from = refl;
      some = omega arith;
      mode = refl;
      boundary = subst (IsCharBoundary t) n end;
    }

attrs_of_start : (name : List ℕ) (attrs : List Attr) (slash : Bool) → is_start name attrs slash ≡ true → list_all is_attr attrs ≡ true
attrs_of_start name attrs slash e =
    let are = and_right (is_tag_name name) (are_attrs attrs) (and_left (is_tag_name name && are_attrs attrs) (not slash || is_void name) e) in
    and_left (list_all is_attr attrs) (are_distinct attrs) (and_left (list_all is_attr attrs && are_distinct attrs) (nat_le (length attrs) 256) are)

pub first_is : (t : List ℕ) (to : ℕ) → slice_range t 0 to ≡ take to t
first_is t to = let same : to - 0 ≡ to = omega arith in ap (λ (k : ℕ). take k t) same

start_allowed : (t : List ℕ) (tag to : ℕ) (name : List ℕ) (attrs : List Attr) (slash : Bool) → tag + 1 < length t → is_letter (get_or t (tag + 1) 0) ≡ true → start_at tag (drop (tag + 1) t) ≡ Ok (Start name attrs slash, to) → list_all is_attr attrs ≡ true
start_allowed t tag to name attrs slash lt letter read =
    let more : drop (tag + 1) t ≡ get_or t (tag + 1) 0 ∷ drop (tag + 1 + 1) t = drop_more t (tag + 1) 0 lt in
    attrs_of_start name attrs slash (start_found tag (get_or t (tag + 1) 0) (drop (tag + 1 + 1) t) (Start name attrs slash) to letter (ap (start_at tag) (sym more) ∙ read)).allowed

pub start_lent : (t b : List ℕ) (tag name_to to : ℕ) (slash : Bool) (name source : Bor (List ℕ)) → b ≡ t → IsUtf8 t → tag + 1 < length t → is_letter (get_or t (tag + 1) 0) ≡ true
    → start_at tag (drop (tag + 1) b) ≡ Ok (Start (slice_range b (tag + 1) name_to) (attrs_from tag name_to b) slash, to)
    → tag + 1 ≤ name_to → name_to < to → to ≤ length b → get_or b (to - 1) 0 ≡ 62 → slice_range b name_to to ≡ flat_map attr_text (attrs_from tag name_to b) ++ close_text slash
    → name.now ≡ slice_range t (tag + 1) name_to → source.now ≡ take to t
    → IsFound t tag (some_token (start_at tag (drop (tag + 1) t))) (lent.StartTag name (record { source = source; at = name_to }) (record { from = tag; to = to }))
start_lent t b tag name_to to slash name source same utf8 room letter read ge lt le close text name_is source_is =
    let r = subst (λ (x : List ℕ). start_at tag (drop (tag + 1) x) ≡ Ok (Start (slice_range x (tag + 1) name_to) (attrs_from tag name_to x) slash, to)) same read in
    let s = subst (λ (x : List ℕ). slice_range x name_to to ≡ flat_map attr_text (attrs_from tag name_to x) ++ close_text slash) same text in
    let n : to - 1 + 1 ≡ to = omega arith in
    let len : length b ≡ length t = ap length same in
    let end : IsCharBoundary t (to - 1 + 1) = after_byte t (to - 1) 62 utf8 (omega (arith, len)) (ap (λ (x : List ℕ). get_or x (to - 1) 0) (sym same) ∙ close) (omega arith) in
    let whole : to ≡ name_to + (to - name_to) = omega arith in
    let cut : drop name_to (take to t) ≡ slice_range t name_to to = ap (λ (k : ℕ). drop name_to (take k t)) whole ∙ drop-take name_to (to - name_to) t in
    record {
      token = Start (slice_range t (tag + 1) name_to) (attrs_from tag name_to t) slash;
      is = some_found (start_at tag (drop (tag + 1) t)) (Start (slice_range t (tag + 1) name_to) (attrs_from tag name_to t) slash, to) r;
      shows = (
        name_is,
        record { source = ap (drop name_to) source_is ∙ cut ∙ s; allowed = start_allowed t tag to (slice_range t (tag + 1) name_to) (attrs_from tag name_to t) slash room letter r },
        omega (arith, length-take (name_to - (tag + 1)) (drop (tag + 1) t), length-drop (tag + 1) t, len),
      );
      from = refl;
      some = omega arith;
      mode = ap (λ (n : List ℕ). cond (is_raw n) (After n) Between) name_is;
      boundary = subst (IsCharBoundary t) n end;
    }

-- ---- between two tokens

pub between_none : (t b : List ℕ) (at : ℕ) → b ≡ t → at ≡ length b → between_at at (drop at t) ≡ Ok None
unfolding between_at
between_none t b at same e = at_drop_all (between_at at) t at (omega (arith, ap length same))

between_is : (t : List ℕ) (at : ℕ) → at < length t
    → between_at at (drop at t) ≡ cond (eqb (get_or t at 0) 60) (some_token (tag_at at (drop (at + 1) t))) (run_end None 60 at (drop at t) >>= λ to. Ok (Some (Chars (slice_range t at to), to)))
unfolding between_at
between_is t at lt = let more = drop_more t at 0 lt in rw more refl

pub between_tag : (t b : List ℕ) (at : ℕ) → b ≡ t → at < length b → get_or b at 0 ≡ 60 → between_at at (drop at t) ≡ some_token (tag_at at (drop (at + 1) t))
between_tag t b at same lt e = between_is t at (omega (arith, ap length same)) ∙ rw (eq-eqb _ _ (ap (λ (x : List ℕ). get_or x at 0) (sym same) ∙ e)) refl

between_chars : (t b : List ℕ) (at : ℕ) → b ≡ t → at < length b → get_or b at 0 ≢ 60 → between_at at (drop at t) ≡ (run_end None 60 at (drop at t) >>= λ to. Ok (Some (Chars (slice_range t at to), to)))
between_chars t b at same lt n =
    between_is t at (omega (arith, ap length same)) ∙ rw (ne_eqb _ _ (λ e. n (ap (λ (x : List ℕ). get_or x at 0) same ∙ e))) refl

pub chars_fault : (t b : List ℕ) (at : ℕ) (f : ScanFault) → b ≡ t → at < length b → get_or b at 0 ≢ 60 → Err f ≡ run_end None 60 at (drop at b) → between_at at (drop at t) ≡ Err f
chars_fault t b at f same lt n e =
    let r : run_end None 60 at (drop at t) ≡ Err f = ap (λ (x : List ℕ). run_end None 60 at (drop at x)) (sym same) ∙ sym e in
    between_chars t b at same lt n ∙ rw r refl

-- where characters or raw text end
pub cut_at_open : (t b : List ℕ) (to : ℕ) → b ≡ t → to ≤ length b → (to < length b → get_or b to 0 ≡ 60) → IsCharBoundary t to
cut_at_open t b to same le mark =
    let len : length b ≡ length t = ap length same in
    elim (cases_lt to (length b)) [
      | inl lt ↦ IsCharBoundary-before_ascii t to (omega (arith, len)) (omega (arith, ap (λ (x : List ℕ). get_or x to 0) (sym same) ∙ mark lt))
      | inr ge ↦ let e : length t ≡ to = omega (arith, len) in subst (IsCharBoundary t) e (IsCharBoundary-end t)
    ]

past_start : (b : List ℕ) (at to : ℕ) → at < length b → get_or b at 0 ≢ 60 → at ≤ to → (to < length b → get_or b to 0 ≡ 60) → at < to
past_start b at to lt n ge mark =
    elim (cases_lt at to) [
      | inl l ↦ l
      | inr le ↦ let same : to ≡ at = omega arith in absurd (n (ap (λ (k : ℕ). get_or b k 0) (sym same) ∙ mark (omega arith)))
    ]

pub chars_lent : (t b : List ℕ) (at to : ℕ) (text : Bor (List ℕ)) → b ≡ t → at < length b → get_or b at 0 ≢ 60 → Ok to ≡ run_end None 60 at (drop at b) → at ≤ to → to ≤ length b → (to < length b → get_or b to 0 ≡ 60) → text.now ≡ slice_range t at to
    → IsFound t at (between_at at (drop at t)) (lent.Chars text (record { from = at; to = to }))
chars_lent t b at to text same lt n e ge le mark is =
    let r : run_end None 60 at (drop at t) ≡ Ok to = ap (λ (x : List ℕ). run_end None 60 at (drop at x)) (sym same) ∙ sym e in
    record {
      token = Chars (slice_range t at to);
      is = between_chars t b at same lt n ∙ rw r refl;
      shows = is;
      from = refl;
      some = past_start b at to lt n ge mark;
      mode = refl;
      boundary = cut_at_open t b to same le mark;
    }

-- ---- after the start tag of a raw element

pub at_between : (at : ℕ) (text : List ℕ) → token_at Between at text ≡ between_at at text
unfolding token_at
at_between at text = refl

pub at_failed : (f : ScanFault) (at : ℕ) (text : List ℕ) → token_at (Failed f) at text ≡ Err f
unfolding token_at
at_failed f at text = refl

raw_end : (t b name bytes : List ℕ) (at : ℕ) (r : Result ℕ ScanFault) → b ≡ t → bytes ≡ name → r ≡ verbatim_end (end_text bytes) (fault at UnclosedRaw) at (drop at b) → verbatim_end (end_text name) (fault at UnclosedRaw) at (drop at t) ≡ r
raw_end t b name bytes at r same named e =
    ap (λ (x : List ℕ). verbatim_end (end_text name) (fault at UnclosedRaw) at (drop at x)) (sym same) ∙ ap (λ (x : List ℕ). verbatim_end (end_text x) (fault at UnclosedRaw) at (drop at b)) (sym named) ∙ sym e

pub raw_fault : (t b name bytes : List ℕ) (at : ℕ) (f : ScanFault) → b ≡ t → bytes ≡ name → Err f ≡ verbatim_end (end_text bytes) (fault at UnclosedRaw) at (drop at b) → token_at (After name) at (drop at t) ≡ Err f
unfolding token_at
raw_fault t b name bytes at f same named e = rw (raw_end t b name bytes at (Err f) same named e) refl

pub raw_empty : (t b name bytes : List ℕ) (at to : ℕ) → b ≡ t → bytes ≡ name → Ok to ≡ verbatim_end (end_text bytes) (fault at UnclosedRaw) at (drop at b) → to ≡ at → token_at (After name) at (drop at t) ≡ between_at at (drop at t)
unfolding token_at
raw_empty t b name bytes at to same named e z = rw (raw_end t b name bytes at (Ok to) same named e, eq-eqb _ _ z) refl

-- the `<` of the end tag
pub cut_at_close : (t b bytes : List ℕ) (to : ℕ) → b ≡ t → begins_with (end_text bytes) (drop to b) ≡ true → to + length (end_text bytes) ≤ length b → IsCharBoundary t to
cut_at_close t b bytes to same close le =
    let len : 0 < length (end_text bytes) = omega (arith, length-append bytes (62 ∷ [])) in
    let e : get_or b to 0 ≡ 60 = ap (λ (k : ℕ). get_or b k 0) (sym (add-zero to)) ∙ prefix_byte (end_text bytes) b to 0 close len in
    cut_at_open t b to same (omega arith) (λ _. e)

pub raw_lent : (t b name bytes : List ℕ) (at to : ℕ) (text : Bor (List ℕ)) → b ≡ t → bytes ≡ name → Ok to ≡ verbatim_end (end_text bytes) (fault at UnclosedRaw) at (drop at b) → to ≢ at → at ≤ to
    → begins_with (end_text bytes) (drop to b) ≡ true → to + length (end_text bytes) ≤ length b → text.now ≡ slice_range t at to
    → IsFound t at (token_at (After name) at (drop at t)) (lent.Raw text (record { from = at; to = to }))
unfolding token_at
raw_lent t b name bytes at to text same named e z ge close le is = record {
  token = Raw (slice_range t at to);
  is = rw (raw_end t b name bytes at (Ok to) same named e, ne_eqb _ _ z) refl;
  shows = is;
  from = refl;
  some = omega arith;
  mode = refl;
  boundary = cut_at_close t b bytes to same close le;
}
