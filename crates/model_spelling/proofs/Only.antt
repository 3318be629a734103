-- A text is read as it is spelled.
use Rattle.std.proofs.Common.{◌≡◌, ◌≢◌, ℕ, zero, suc, ◌+◌, ◌-◌, ◌<◌, ◌≤◌, Bool, true, false, cond, not, ◌&&◌, ◌||◌, List, [], ◌∷◌, ◌++◌, length, drop, take, Some, None, Ok, refl, sym, ap, ◌∙◌, arith, eq-eqb, append_assoc, add-zero, inl, inr}
use Rattle.std.specs.Prelude.{◌==◌, slice_index, nat_le}
use Rattle.std.proofs.lemmas.List.{drop-drop, length-append, append-nil}
use Rattle.std.proofs.Math.Seq.{drop-append_seam, take-append_seam}
use Rattle.std.proofs.lemmas.Bool.{ne_eqb, cases_Bool, leb-true}
use Rattle.std.specs.List.{prefix_len, flat_map, list_all}
use Rattle.model_spelling.specs.declared.scan_fault.ScanWhat.TheVariants.{UnclosedComment, UnclosedTag, UnclosedRaw}
use Rattle.model_spelling.specs.Grammar.{is_letter, is_name_byte, is_attr_name, is_tag_name, is_plaintext, name_same, is_run, is_verbatim, is_attr, has_name, are_distinct, are_attrs, is_start, Attr, attr_text, Token, Start, End, Chars, Raw, Comment, token_text, start_text, end_text, comment_open, comment_close}
use Rattle.ve_kinds.specs.Tags.{is_void}
use Rattle.model_spelling.specs.Reading.{fault, value_end, verbatim_end, head_at, attr_at, attrs_at, name_ends, tag_close, start_after, with_name, start_at, end_at, comment_at, dash_at, markup_at, tag_at, between_at, token_at, Between, After}
use Rattle.model_spelling.specs.Tokens.{is_token, BeginsTag, MayFollow}
use Rattle.model_spelling.proofs.AttrReading.{and_left, and_right, prefix_all, attr_whole, attrs_stop, attrs_more}
use Rattle.model_spelling.proofs.TokenRuns.{not_false, letter_names, run_only, text_only, verbatim_only, end_only, Follows}
use Rattle.model_spelling.proofs.ForestLaws.{equal_names, same_bytes}

-- ---- attributes

head_by : (tag place k q : ℕ) (text rest : List ℕ) → prefix_len is_name_byte text ≡ suc k → drop (suc k) text ≡ 61 ∷ (q ∷ rest) → (q == 34 || q == 39) ≡ true → head_at tag place text ≡ Ok (suc k, q)
unfolding head_at
head_by tag place k q text rest len d qq = rw (len, d, qq) refl

pub head_only : (tag place q : ℕ) (name rest : List ℕ) → is_attr_name name ≡ true → (q == 34 || q == 39) ≡ true → head_at tag place (name ++ (61 ∷ (q ∷ rest))) ≡ Ok (length name, q)
head_only tag place q [] rest e qq = absurd cc
head_only tag place q (b ∷ bs) rest e qq =
    head_by tag place (length bs) q (b ∷ bs ++ (61 ∷ (q ∷ rest))) rest (prefix_all is_name_byte (b ∷ bs) (q ∷ rest) 61 e refl) (drop-append_seam (b ∷ bs) (61 ∷ (q ∷ rest))) qq

pub attr_regrouped : (a : Attr) (rest : List ℕ) → attr_text a ++ rest ≡ 32 ∷ (a.name ++ (61 ∷ (a.quote ∷ (a.value ++ (a.quote ∷ rest)))))
attr_regrouped a rest = simp append_assoc

pub attr_length : (a : Attr) → length (attr_text a) ≡ length a.name + length a.value + 4
attr_length a = omega (arith, length-append (32 ∷ a.name ++ 61 ∷ a.quote ∷ a.value) (a.quote ∷ []), length-append (32 ∷ a.name) (61 ∷ a.quote ∷ a.value))

pub attr_only : (room tag place : ℕ) (before : List Attr) (a : Attr) (rest : List ℕ) → is_attr a ≡ true → has_name a.name before ≡ false
    → attr_at (suc room) tag before place (a.name ++ (61 ∷ (a.quote ∷ (a.value ++ (a.quote ∷ rest))))) ≡ Ok (a, place + length (attr_text a))
attr_only room tag place before a rest e d =
    let p = and_left (is_attr_name a.name && (a.quote == 34 || a.quote == 39)) (is_run a.quote a.value) e in
    let text : List ℕ = a.name ++ (61 ∷ (a.quote ∷ (a.value ++ (a.quote ∷ rest)))) in
    let n : ℕ = length a.name in
    let to : ℕ = place + n + 3 + length a.value in
    let seam : drop n text ≡ 61 ∷ (a.quote ∷ (a.value ++ (a.quote ∷ rest))) = drop-append_seam a.name (61 ∷ (a.quote ∷ (a.value ++ (a.quote ∷ rest)))) in
    let name : take n text ≡ a.name = take-append_seam a.name (61 ∷ (a.quote ∷ (a.value ++ (a.quote ∷ rest)))) in
    let tail : drop (n + 2) text ≡ a.value ++ (a.quote ∷ rest) = sym (drop-drop 2 n text) ∙ ap (drop 2) seam in
    let h = head_only tag place a.quote a.name (a.value ++ (a.quote ∷ rest)) (and_left (is_attr_name a.name) (a.quote == 34 || a.quote == 39) p) (and_right (is_attr_name a.name) (a.quote == 34 || a.quote == 39) p) in
    let run = run_only (Some (fault tag UnclosedTag)) a.quote (place + n + 3) a.value (a.quote ∷ rest) (and_right (is_attr_name a.name && (a.quote == 34 || a.quote == 39)) (is_run a.quote a.value) e) refl in
    let none : has_name (take n text) before ≡ false = ap (λ (x : List ℕ). has_name x before) name ∙ d in
    let whole = attr_whole room tag place n a.quote to before text h none (ap (value_end tag a.quote (place + n + 3)) tail ∙ run) in
    let len : to - (place + n + 3) ≡ length a.value = omega arith in
    let value : take (to - (place + n + 3)) (drop (n + 2) text) ≡ a.value = ap (λ (k : ℕ). take k (drop (n + 2) text)) len ∙ ap (take (length a.value)) tail ∙ take-append_seam a.value (a.quote ∷ rest) in
    let ends : to + 1 ≡ place + length (attr_text a) = omega (arith, attr_length a) in
    whole ∙ (λ i. Ok (record { name = name i; value = value i; quote = a.quote }, ends i))

-- each name stands in none of the attributes before it
abbrev pub Apart : List Attr → List Attr → Type 0
Apart before [] = Unit {0}
Apart before (a ∷ attrs) = (has_name a.name before ≡ false) × Apart (before ++ a ∷ []) attrs

pub flat_length : (a : Attr) (attrs : List Attr) → length (flat_map attr_text (a ∷ attrs)) ≡ length (attr_text a) + length (flat_map attr_text attrs)
flat_length a attrs = length-append (attr_text a) (flat_map attr_text attrs)

-- what ends a tag's attributes
abbrev pub NoSpace : List ℕ → Type 0
NoSpace rest = slice_index rest 0 ≢ 32

pub attrs_only : (attrs before : List Attr) (room tag at : ℕ) (rest : List ℕ) → list_all is_attr attrs ≡ true → Apart before attrs → length attrs ≤ room → NoSpace rest
    → attrs_at room tag before at (flat_map attr_text attrs ++ rest) ≡ Ok (before ++ attrs, at + length (flat_map attr_text attrs))
attrs_only [] before room tag at rest e d le ns = attrs_stop room tag at before rest ns ∙ (λ i. Ok (sym (append-nil before) i, sym (add-zero at) i))
attrs_only (a ∷ attrs) before zero tag at rest e d le ns = absurd (omega arith)
attrs_only (a ∷ attrs) before (suc room) tag at rest e d le ns =
    let more : List ℕ = flat_map attr_text attrs ++ rest in
    let inner : List ℕ = a.name ++ (61 ∷ (a.quote ∷ (a.value ++ (a.quote ∷ more)))) in
    let regrouped : flat_map attr_text (a ∷ attrs) ++ rest ≡ 32 ∷ inner = append_assoc (attr_text a) (flat_map attr_text attrs) rest ∙ attr_regrouped a more in
    let one = attr_only room tag at before a more (and_left (is_attr a) (list_all is_attr attrs) e) d.0 in
    let to : ℕ = at + length (attr_text a) in
    let len : to - at ≡ length (attr_text a) = omega arith in
    let rest_is : drop (to - at) (32 ∷ inner) ≡ more = ap (λ (k : ℕ). drop k (32 ∷ inner)) len ∙ ap (drop (length (attr_text a))) (sym (attr_regrouped a more)) ∙ drop-append_seam (attr_text a) more in
    let step = attrs_more room tag at to before (32 ∷ inner) a refl one in
    let rec = attrs_only attrs (before ++ a ∷ []) room tag to rest (and_right (is_attr a) (list_all is_attr attrs) e) d.1 (omega arith) ns in
    let ends : to + length (flat_map attr_text attrs) ≡ at + length (flat_map attr_text (a ∷ attrs)) = omega (arith, flat_length a attrs) in
    ap (attrs_at (suc room) tag before at) regrouped ∙ step ∙ ap (attrs_at room tag (before ++ a ∷ []) to) rest_is ∙ rec
    ∙ (λ i. Ok (append_assoc before (a ∷ []) attrs i, ends i))

-- ---- names that are apart

pub both : (b : Bool) → b ≡ false → b ≡ true → ⊥
both true e f = absurd cc
both false e f = cc

pub same_turned : (a b : List ℕ) → name_same a b ≡ false → name_same b a ≡ false
same_turned a b e =
    elim (cases_Bool (name_same b a)) [
      | inl same ↦ absurd (both (name_same a b) e (ap (name_same a) (equal_names b a same) ∙ same_bytes a))
      | inr other ↦ other
    ]

abbrev pub none_in : List Attr → List Attr → Bool
none_in before attrs = list_all (λ a. not (has_name a.name before)) attrs

pub or_both : (a b : Bool) → a ≡ false → b ≡ false → (a || b) ≡ false
or_both a b e f = rw (e, f) refl

pub or_first : (a b : Bool) → (a || b) ≡ false → a ≡ false
or_first true b e = e
or_first false b e = refl

pub or_second : (a b : Bool) → (a || b) ≡ false → b ≡ false
or_second true b e = absurd cc
or_second false b e = e

pub not_true : (b : Bool) → b ≡ false → not b ≡ true
not_true b e = rw e refl

has_pushed : (name : List ℕ) (before : List Attr) (a : Attr) → has_name name before ≡ false → name_same a.name name ≡ false → has_name name (before ++ a ∷ []) ≡ false
has_pushed name [] a e f = or_both (name_same a.name name) false f refl
has_pushed name (b ∷ before) a e f = or_both (name_same b.name name) (has_name name (before ++ a ∷ [])) (or_first (name_same b.name name) (has_name name before) e) (has_pushed name before a (or_second (name_same b.name name) (has_name name before) e) f)

pub and_both : (a b : Bool) → a ≡ true → b ≡ true → (a && b) ≡ true
and_both a b e f = rw (e, f) refl

none_pushed : (before : List Attr) (a : Attr) (attrs : List Attr) → none_in before attrs ≡ true → has_name a.name attrs ≡ false → none_in (before ++ a ∷ []) attrs ≡ true
none_pushed before a [] e f = refl
none_pushed before a (b ∷ attrs) e f =
    let other : name_same a.name b.name ≡ false = same_turned b.name a.name (or_first (name_same b.name a.name) (has_name a.name attrs) f) in
    and_both (not (has_name b.name (before ++ a ∷ []))) (none_in (before ++ a ∷ []) attrs)
    (not_true (has_name b.name (before ++ a ∷ [])) (has_pushed b.name before a (not_false (has_name b.name before) (and_left (not (has_name b.name before)) (none_in before attrs) e)) other))
    (none_pushed before a attrs (and_right (not (has_name b.name before)) (none_in before attrs) e) (or_second (name_same b.name a.name) (has_name a.name attrs) f))

pub apart_from : (before attrs : List Attr) → are_distinct attrs ≡ true → none_in before attrs ≡ true → Apart before attrs
apart_from before [] e f = tt
apart_from before (a ∷ attrs) e f = (
  not_false (has_name a.name before) (and_left (not (has_name a.name before)) (none_in before attrs) f),
  apart_from (before ++ a ∷ []) attrs (and_right (not (has_name a.name attrs)) (are_distinct attrs) e)
      (none_pushed before a attrs (and_right (not (has_name a.name before)) (none_in before attrs) f) (not_false (has_name a.name attrs) (and_left (not (has_name a.name attrs)) (are_distinct attrs) e))),
)

pub none_at_all : (attrs : List Attr) → none_in [] attrs ≡ true
none_at_all [] = refl
none_at_all (a ∷ attrs) = none_at_all attrs

pub apart : (attrs : List Attr) → are_distinct attrs ≡ true → Apart [] attrs
apart attrs e = apart_from [] attrs e (none_at_all attrs)

-- ---- start tags

abbrev pub close_text : Bool → List ℕ
close_text slash = cond slash (47 ∷ 62 ∷ []) (62 ∷ [])

-- a byte that ends a name
pub record EndsName (text : List ℕ) : Type 0 where
  pub byte : ℕ
  pub rest : List ℕ
  pub is : text ≡ byte ∷ rest
  pub other : is_name_byte byte ≡ false

close_ends : (slash : Bool) (rest : List ℕ) → EndsName (close_text slash ++ rest)
close_ends true rest = record { byte = 47; rest = 62 ∷ rest; is = refl; other = refl }
close_ends false rest = record { byte = 62; rest = rest; is = refl; other = refl }

tail_ends : (attrs : List Attr) (slash : Bool) (rest : List ℕ) → EndsName (flat_map attr_text attrs ++ (close_text slash ++ rest))
tail_ends [] slash rest = close_ends slash rest
tail_ends (a ∷ attrs) slash rest =
    record { byte = 32; rest = _; is = append_assoc (attr_text a) (flat_map attr_text attrs) (close_text slash ++ rest) ∙ attr_regrouped a (flat_map attr_text attrs ++ (close_text slash ++ rest)); other = refl }

close_no_space : (slash : Bool) (rest : List ℕ) → NoSpace (close_text slash ++ rest)
close_no_space true rest e = absurd (omega arith)
close_no_space false rest e = absurd (omega arith)

named_by : {A : Type 0} (after : List ℕ → ℕ → List ℕ → A) (at n : ℕ) (text name rest : List ℕ) → prefix_len is_name_byte text ≡ n → take n text ≡ name → drop n text ≡ rest → with_name after at text ≡ after name (at + n) rest
named_by after at n text name rest e f g = rw (e, f, g) refl

pub named : {A : Type 0} (after : List ℕ → ℕ → List ℕ → A) (at : ℕ) (name rest : List ℕ) → list_all is_name_byte name ≡ true → EndsName rest → with_name after at (name ++ rest) ≡ after name (at + length name) rest
named after at name rest all s =
    named_by after at (length name) (name ++ rest) name rest
    (ap (λ (r : List ℕ). prefix_len is_name_byte (name ++ r)) s.is ∙ prefix_all is_name_byte name s.rest s.byte all s.other)
    (take-append_seam name rest) (drop-append_seam name rest)

pub ends_by : (tag at : ℕ) (name text : List ℕ) → is_plaintext name ≡ false → EndsName text → name_ends tag name at text ≡ Ok tt
ends_by tag at name text p s = ap (name_ends tag name at) s.is ∙ rw p refl

close_only : (tag at : ℕ) (void slash : Bool) (rest : List ℕ) → (not slash || void) ≡ true → tag_close tag void at (close_text slash ++ rest) ≡ Ok (slash, at + length (close_text slash))
close_only tag at true true rest e = refl
close_only tag at false true rest e = absurd cc
close_only tag at void false rest e = refl

pub after_by : (tag at to end : ℕ) (name text : List ℕ) (attrs : List Attr) (slash : Bool) → name_ends tag name at text ≡ Ok tt → attrs_at 256 tag [] at text ≡ Ok (attrs, to) → tag_close tag (is_void name) to (drop (to - at) text) ≡ Ok (slash, end)
    → start_after tag name at text ≡ Ok (Start name attrs slash, end)
unfolding start_after
after_by tag at to end name text attrs slash e f g = rw (e, f, g) refl

pub record NameParts (name : List ℕ) : Type 0 where
  pub all : list_all is_name_byte name ≡ true
  pub plain : is_plaintext name ≡ false

pub name_parts : (name : List ℕ) → is_tag_name name ≡ true → NameParts name
name_parts [] e = absurd cc
name_parts (b ∷ bs) e =
    let p = and_left (is_letter b && list_all is_name_byte bs) (not (is_plaintext (b ∷ bs))) e in
    record {
      all = and_both (is_name_byte b) (list_all is_name_byte bs) (letter_names b (and_left (is_letter b) (list_all is_name_byte bs) p)) (and_right (is_letter b) (list_all is_name_byte bs) p);
      plain = not_false (is_plaintext (b ∷ bs)) (and_right (is_letter b && list_all is_name_byte bs) (not (is_plaintext (b ∷ bs))) e);
    }

pub start_length : (name : List ℕ) (attrs : List Attr) (slash : Bool) → length (start_text name attrs slash) ≡ 1 + length name + length (flat_map attr_text attrs) + length (close_text slash)
start_length name attrs slash = omega (arith, length-append (60 ∷ name ++ flat_map attr_text attrs) (close_text slash), length-append (60 ∷ name) (flat_map attr_text attrs))

pub start_regrouped : (name : List ℕ) (attrs : List Attr) (slash : Bool) (rest : List ℕ) → start_text name attrs slash ++ rest ≡ 60 ∷ (name ++ (flat_map attr_text attrs ++ (close_text slash ++ rest)))
start_regrouped name attrs slash rest = append_assoc (60 ∷ name ++ flat_map attr_text attrs) (close_text slash) rest ∙ append_assoc (60 ∷ name) (flat_map attr_text attrs) (close_text slash ++ rest)

pub start_reads : (tag : ℕ) (name : List ℕ) (attrs : List Attr) (slash : Bool) (rest : List ℕ) → is_start name attrs slash ≡ true
    → start_at tag (name ++ (flat_map attr_text attrs ++ (close_text slash ++ rest))) ≡ Ok (Start name attrs slash, tag + length (start_text name attrs slash))
unfolding start_at
start_reads tag name attrs slash rest e =
    let p = and_left (is_tag_name name && are_attrs attrs) (not slash || is_void name) e in
    let n = name_parts name (and_left (is_tag_name name) (are_attrs attrs) p) in
    let q = and_right (is_tag_name name) (are_attrs attrs) p in
    let q1 = and_left (list_all is_attr attrs && are_distinct attrs) (nat_le (length attrs) 256) q in
    let text : List ℕ = flat_map attr_text attrs ++ (close_text slash ++ rest) in
    let at : ℕ = tag + 1 + length name in
    let to : ℕ = at + length (flat_map attr_text attrs) in
    let len : to - at ≡ length (flat_map attr_text attrs) = omega arith in
    let read = attrs_only attrs [] 256 tag at (close_text slash ++ rest) (and_left (list_all is_attr attrs) (are_distinct attrs) q1) (apart attrs (and_right (list_all is_attr attrs) (are_distinct attrs) q1)) (leb-true (length attrs) 256 (and_right (list_all is_attr attrs && are_distinct attrs) (nat_le (length attrs) 256) q)) (close_no_space slash rest) in
    let tail : drop (to - at) text ≡ close_text slash ++ rest = ap (λ (k : ℕ). drop k text) len ∙ drop-append_seam (flat_map attr_text attrs) (close_text slash ++ rest) in
    let close : tag_close tag (is_void name) to (drop (to - at) text) ≡ Ok (slash, to + length (close_text slash)) = ap (tag_close tag (is_void name) to) tail ∙ close_only tag to (is_void name) slash rest (and_right (is_tag_name name && are_attrs attrs) (not slash || is_void name) e) in
    let ends : to + length (close_text slash) ≡ tag + length (start_text name attrs slash) = omega (arith, start_length name attrs slash) in
    named (start_after tag) (tag + 1) name text n.all (tail_ends attrs slash rest)
    ∙ after_by tag at to (to + length (close_text slash)) name text attrs slash (ends_by tag at name text n.plain (tail_ends attrs slash rest)) read close
    ∙ (λ i. Ok (Start name attrs slash, ends i))

-- the first byte of a name
pub letter_first : (tag b : ℕ) (bs : List ℕ) → is_letter b ≡ true → tag_at tag (b ∷ bs) ≡ start_at tag (b ∷ bs)
unfolding tag_at
letter_first tag b bs e = rw e refl

pub tag_named : (tag : ℕ) (name rest : List ℕ) → is_tag_name name ≡ true → tag_at tag (name ++ rest) ≡ start_at tag (name ++ rest)
tag_named tag [] rest e = absurd cc
tag_named tag (b ∷ bs) rest e = letter_first tag b (bs ++ rest) (and_left (is_letter b) (list_all is_name_byte bs) (and_left (is_letter b && list_all is_name_byte bs) (not (is_plaintext (b ∷ bs))) e))

tag_step : (at : ℕ) (bs : List ℕ) (t : Token) (to : ℕ) → tag_at at bs ≡ Ok (t, to) → between_at at (60 ∷ bs) ≡ Ok (Some (t, to))
unfolding between_at
tag_step at bs t to e = rw e refl

pub start_only : (at : ℕ) (name : List ℕ) (attrs : List Attr) (slash : Bool) (rest : List ℕ) → is_start name attrs slash ≡ true
    → between_at at (start_text name attrs slash ++ rest) ≡ Ok (Some (Start name attrs slash, at + length (start_text name attrs slash)))
start_only at name attrs slash rest e =
    let tail : List ℕ = flat_map attr_text attrs ++ (close_text slash ++ rest) in
    let n = and_left (is_tag_name name) (are_attrs attrs) (and_left (is_tag_name name && are_attrs attrs) (not slash || is_void name) e) in
    ap (between_at at) (start_regrouped name attrs slash rest)
    ∙ tag_step at (name ++ tail) (Start name attrs slash) (at + length (start_text name attrs slash)) (tag_named at name tail n ∙ start_reads at name attrs slash rest e)

-- ---- end tags and comments

pub slash_first : (tag : ℕ) (bs : List ℕ) → tag_at tag (47 ∷ bs) ≡ end_at tag bs
unfolding tag_at is_letter
slash_first tag bs = refl

pub end_length : (name : List ℕ) → length (end_text name) ≡ length name + 3
end_length name = omega (arith, length-append (60 ∷ 47 ∷ name) (62 ∷ []))

pub end_tag_only : (at : ℕ) (name rest : List ℕ) → is_tag_name name ≡ true → between_at at (end_text name ++ rest) ≡ Ok (Some (End name, at + length (end_text name)))
end_tag_only at name rest e =
    let ends : at + 2 + length name + 1 ≡ at + length (end_text name) = omega (arith, end_length name) in
    ap (between_at at) (append_assoc (60 ∷ 47 ∷ name) (62 ∷ []) rest)
    ∙ tag_step at (47 ∷ (name ++ (62 ∷ rest))) (End name) (at + 2 + length name + 1) (slash_first at (name ++ (62 ∷ rest)) ∙ end_only at name rest e)
    ∙ (λ i. Ok (Some (End name, ends i)))

pub comment_by : (tag to : ℕ) (text inner : List ℕ) → verbatim_end comment_close (fault tag UnclosedComment) (tag + 4) text ≡ Ok to → take (to - (tag + 4)) text ≡ inner → comment_at tag text ≡ Ok (Comment inner, to + 3)
unfolding comment_at
comment_by tag to text inner e f = rw (e, f) refl

bang_first : (tag : ℕ) (bs : List ℕ) → tag_at tag (33 ∷ 45 ∷ 45 ∷ bs) ≡ comment_at tag bs
unfolding tag_at is_letter markup_at dash_at
bang_first tag bs = refl

pub comment_length : (text : List ℕ) → length (token_text (Comment text)) ≡ length text + 7
comment_length text = omega (arith, length-append (comment_open ++ text) comment_close, length-append comment_open text)

pub comment_only : (at : ℕ) (text rest : List ℕ) → is_verbatim comment_close text ≡ true → between_at at (token_text (Comment text) ++ rest) ≡ Ok (Some (Comment text, at + length (token_text (Comment text))))
comment_only at text rest e =
    let to : ℕ = at + 4 + length text in
    let len : to - (at + 4) ≡ length text = omega arith in
    let taken : take (to - (at + 4)) (text ++ (comment_close ++ rest)) ≡ text = ap (λ (k : ℕ). take k (text ++ (comment_close ++ rest))) len ∙ take-append_seam text (comment_close ++ rest) in
    let read = comment_by at to (text ++ (comment_close ++ rest)) text (verbatim_only comment_close (fault at UnclosedComment) (at + 4) text rest e (omega arith)) taken in
    let ends : to + 3 ≡ at + length (token_text (Comment text)) = omega (arith, comment_length text) in
    ap (between_at at) (append_assoc (comment_open ++ text) comment_close rest ∙ append_assoc comment_open text (comment_close ++ rest))
    ∙ tag_step at (33 ∷ 45 ∷ 45 ∷ (text ++ (comment_close ++ rest))) (Comment text) (to + 3) (bang_first at (text ++ (comment_close ++ rest)) ∙ read)
    ∙ (λ i. Ok (Some (Comment text, ends i)))

begins_follows : (rest : List ℕ) → BeginsTag rest → Follows 60 None rest
begins_follows [] e = refl
begins_follows (b ∷ rest) e = e

-- A token that may stand here, with anything after it that may follow, is read as that token.
pub token_only : (at : ℕ) (t : Token) (rest : List ℕ) → is_token t ≡ true → MayFollow t rest → token_at Between at (token_text t ++ rest) ≡ Ok (Some (t, at + length (token_text t)))
unfolding token_at
token_only at (Start name attrs slash) rest e f = start_only at name attrs slash rest e
token_only at (End name) rest e f = end_tag_only at name rest e
token_only at (Chars text) rest e f = text_only at text rest e (begins_follows rest f)
token_only at (Raw text) rest e f = absurd cc
token_only at (Comment text) rest e f = comment_only at text rest e

-- ---- after the start tag of a raw element

pub raw_by : (name : List ℕ) (at to : ℕ) (text : List ℕ) → verbatim_end (end_text name) (fault at UnclosedRaw) at text ≡ Ok to → (to == at) ≡ false → token_at (After name) at text ≡ Ok (Some (Raw (take (to - at) text), to))
unfolding token_at
raw_by name at to text e f = rw (e, f) refl

pub none_by : (name : List ℕ) (at to : ℕ) (text : List ℕ) → verbatim_end (end_text name) (fault at UnclosedRaw) at text ≡ Ok to → (to == at) ≡ true → token_at (After name) at text ≡ between_at at text
unfolding token_at
none_by name at to text e f = rw (e, f) refl

pub raw_only : (at : ℕ) (name : List ℕ) (b : ℕ) (bs rest : List ℕ) → is_verbatim (end_text name) (b ∷ bs) ≡ true → token_at (After name) at (b ∷ bs ++ (end_text name ++ rest)) ≡ Ok (Some (Raw (b ∷ bs), at + length (b ∷ bs)))
raw_only at name b bs rest e =
    let to : ℕ = at + length (b ∷ bs) in
    let some : 0 < length (end_text name) = omega (arith, end_length name) in
    let len : to - at ≡ length (b ∷ bs) = omega arith in
    let taken : take (to - at) (b ∷ bs ++ (end_text name ++ rest)) ≡ b ∷ bs = ap (λ (k : ℕ). take k (b ∷ bs ++ (end_text name ++ rest))) len ∙ take-append_seam (b ∷ bs) (end_text name ++ rest) in
    raw_by name at to (b ∷ bs ++ (end_text name ++ rest)) (verbatim_only (end_text name) (fault at UnclosedRaw) at (b ∷ bs) rest e some) (ne_eqb _ _ (λ h. absurd (omega (arith, h))))
    ∙ (λ i. Ok (Some (Raw (taken i), to)))

pub raw_none : (at : ℕ) (name rest : List ℕ) → is_tag_name name ≡ true → token_at (After name) at (end_text name ++ rest) ≡ Ok (Some (End name, at + length (end_text name)))
raw_none at name rest e =
    let some : 0 < length (end_text name) = omega (arith, end_length name) in
    none_by name at (at + 0) (end_text name ++ rest) (verbatim_only (end_text name) (fault at UnclosedRaw) at [] rest refl some) (eq-eqb _ _ (add-zero at)) ∙ end_tag_only at name rest e
