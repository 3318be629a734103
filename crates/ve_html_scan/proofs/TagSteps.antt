-- One step of the reading of each tag.
use Rattle.std.proofs.Common.{◌≡◌, ◌≢◌, ℕ, ◌+◌, ◌-◌, ◌<◌, ◌≤◌, Bool, true, false, cond, not, ◌&&◌, eqb, List, [], length, get_or, drop, take, Result, Ok, Err, refl, sym, ap, ◌∙◌, arith, eq-eqb}
use Rattle.std.proofs.lemmas.List.{at_drop_more, at_drop_all, drop_more, drop-drop}
use Rattle.std.proofs.lemmas.Bool.{ne_eqb}
use Rattle.std.specs.List.{prefix_len, slice_range}
use Rattle.model_spelling.specs.declared.scan_fault.ScanFault.{ScanFault}
use Rattle.model_spelling.specs.declared.scan_fault.ScanWhat.TheVariants.{BadTag, UnclosedTag, UnclosedComment, Doctype}
use Rattle.model_spelling.specs.Grammar.{is_barred, is_letter, is_name_byte, is_plaintext, Attr, Token, Start, End, Comment, comment_close}
use Rattle.ve_kinds.specs.Tags.{is_void}
use Rattle.model_spelling.specs.Reading.{◌>>=◌, fault, byte_fault, attrs_at, tag_close, start_after, start_at, tag_at, some_token, end_at, end_after, with_name, comment_at, is_doctype, dash_at, markup_at, verbatim_end}

-- ---- end tags

end_is : (tag : ℕ) (t : List ℕ) → tag + 2 < length t
    → end_at tag (drop (tag + 2) t) ≡ cond (is_letter (get_or t (tag + 2) 0)) (with_name (end_after tag) (tag + 2) (drop (tag + 2) t)) (Err (byte_fault (tag + 2) (get_or t (tag + 2) 0) (fault tag BadTag)))
unfolding end_at
end_is tag t lt = rw (drop_more t (tag + 2) 0 lt) refl

pub end_none : (tag : ℕ) (t : List ℕ) → tag + 2 ≡ length t → end_at tag (drop (tag + 2) t) ≡ Err (fault tag UnclosedTag)
unfolding end_at
end_none tag t e = at_drop_all (end_at tag) t (tag + 2) (omega arith)

pub end_no_letter : (tag : ℕ) (t : List ℕ) → tag + 2 < length t → is_letter (get_or t (tag + 2) 0) ≡ false
    → end_at tag (drop (tag + 2) t) ≡ Err (byte_fault (tag + 2) (get_or t (tag + 2) 0) (fault tag BadTag))
end_no_letter tag t lt e = end_is tag t lt ∙ rw e refl

-- after a name of n bytes
end_named : (tag n : ℕ) (t : List ℕ) → tag + 2 < length t → is_letter (get_or t (tag + 2) 0) ≡ true → n ≡ prefix_len is_name_byte (drop (tag + 2) t)
    → end_at tag (drop (tag + 2) t) ≡ end_after tag (take n (drop (tag + 2) t)) (tag + 2 + n) (drop (tag + 2 + n) t)
end_named tag n t lt l e = end_is tag t lt ∙ rw (l, ← e, drop-drop) refl

pub end_cut : (tag n : ℕ) (t : List ℕ) → tag + 2 < length t → is_letter (get_or t (tag + 2) 0) ≡ true → n ≡ prefix_len is_name_byte (drop (tag + 2) t)
    → tag + 2 + n ≡ length t → end_at tag (drop (tag + 2) t) ≡ Err (fault tag UnclosedTag)
end_cut tag n t lt l e h = end_named tag n t lt l e ∙ at_drop_all (end_after tag (take n (drop (tag + 2) t)) (tag + 2 + n)) t (tag + 2 + n) (omega arith)

end_judged : (tag n : ℕ) (t : List ℕ) → tag + 2 < length t → is_letter (get_or t (tag + 2) 0) ≡ true → n ≡ prefix_len is_name_byte (drop (tag + 2) t)
    → tag + 2 + n < length t
    → end_at tag (drop (tag + 2) t) ≡ cond (eqb (get_or t (tag + 2 + n) 0) 62 && not (is_plaintext (take n (drop (tag + 2) t)))) (Ok (End (take n (drop (tag + 2) t)), tag + 2 + n + 1)) (Err (byte_fault (tag + 2 + n) (get_or t (tag + 2 + n) 0) (fault tag BadTag)))
end_judged tag n t lt l e h = end_named tag n t lt l e ∙ rw (drop_more t (tag + 2 + n) 0 h) refl

pub end_other : (tag n : ℕ) (t : List ℕ) → tag + 2 < length t → is_letter (get_or t (tag + 2) 0) ≡ true → n ≡ prefix_len is_name_byte (drop (tag + 2) t)
    → tag + 2 + n < length t → get_or t (tag + 2 + n) 0 ≢ 62
    → end_at tag (drop (tag + 2) t) ≡ Err (byte_fault (tag + 2 + n) (get_or t (tag + 2 + n) 0) (fault tag BadTag))
end_other tag n t lt l e h ne = end_judged tag n t lt l e h ∙ rw (ne_eqb _ _ ne) refl

-- the name as it is borrowed
name_is : (at n : ℕ) (t : List ℕ) → slice_range t at (at + n) ≡ take n (drop at t)
name_is at n t = let e : at + n - at ≡ n = omega arith in rw e refl

close_not_barred : is_barred 62 ≡ false
unfolding is_barred
close_not_barred = refl

pub end_plaintext : (tag n : ℕ) (t : List ℕ) → tag + 2 < length t → is_letter (get_or t (tag + 2) 0) ≡ true → n ≡ prefix_len is_name_byte (drop (tag + 2) t)
    → tag + 2 + n < length t → get_or t (tag + 2 + n) 0 ≡ 62 → is_plaintext (slice_range t (tag + 2) (tag + 2 + n)) ≡ true
    → end_at tag (drop (tag + 2) t) ≡ Err (fault tag BadTag)
end_plaintext tag n t lt l e h g p =
    let q : is_plaintext (take n (drop (tag + 2) t)) ≡ true = ap is_plaintext (sym (name_is (tag + 2) n t)) ∙ p in
    let w : is_barred (get_or t (tag + 2 + n) 0) ≡ false = ap is_barred g ∙ close_not_barred in
    end_judged tag n t lt l e h ∙ rw (eq-eqb _ _ g, q, w) refl

pub end_whole : (tag n : ℕ) (t : List ℕ) → tag + 2 < length t → is_letter (get_or t (tag + 2) 0) ≡ true → n ≡ prefix_len is_name_byte (drop (tag + 2) t)
    → tag + 2 + n < length t → get_or t (tag + 2 + n) 0 ≡ 62 → is_plaintext (slice_range t (tag + 2) (tag + 2 + n)) ≡ false
    → end_at tag (drop (tag + 2) t) ≡ Ok (End (slice_range t (tag + 2) (tag + 2 + n)), tag + 2 + n + 1)
end_whole tag n t lt l e h g p =
    let i = name_is (tag + 2) n t in
    let q : is_plaintext (take n (drop (tag + 2) t)) ≡ false = ap is_plaintext (sym i) ∙ p in
    let name : End (slice_range t (tag + 2) (tag + 2 + n)) ≡ End (take n (drop (tag + 2) t)) = ap End i in
    end_judged tag n t lt l e h ∙ rw (eq-eqb _ _ g, q, name) refl

pub ruleset end_steps = (end_none, end_no_letter, end_cut, end_other, end_plaintext, end_whole)

-- ---- comments

pub comment_found : (tag to : ℕ) (t : List ℕ) → verbatim_end comment_close (fault tag UnclosedComment) (tag + 4) (drop (tag + 4) t) ≡ Ok to
    → comment_at tag (drop (tag + 4) t) ≡ Ok (Comment (slice_range t (tag + 4) to), to + 3)
unfolding comment_at
comment_found tag to t e = rw e refl

pub comment_fault : (tag : ℕ) (f : ScanFault) (t : List ℕ) → verbatim_end comment_close (fault tag UnclosedComment) (tag + 4) (drop (tag + 4) t) ≡ Err f
    → comment_at tag (drop (tag + 4) t) ≡ Err f
unfolding comment_at
comment_fault tag f t e = rw e refl

pub ruleset comment_steps = (comment_found, comment_fault)

pub markup_none : (tag : ℕ) (t : List ℕ) → tag + 2 ≡ length t → markup_at tag (drop (tag + 2) t) ≡ Err (fault tag UnclosedComment)
unfolding markup_at
markup_none tag t e = at_drop_all (markup_at tag) t (tag + 2) (omega arith)

markup_is : (tag : ℕ) (t : List ℕ) → tag + 2 < length t
    → markup_at tag (drop (tag + 2) t) ≡ cond (eqb (get_or t (tag + 2) 0) 45) (dash_at tag (drop (tag + 3) t)) (Err (byte_fault (tag + 2) (get_or t (tag + 2) 0) (fault tag (cond (is_doctype (drop (tag + 2) t)) Doctype BadTag))))
unfolding markup_at
markup_is tag t lt = let n : tag + 2 + 1 ≡ tag + 3 = omega arith in rw (drop_more t (tag + 2) 0 lt, n) refl

pub markup_doctype : (tag : ℕ) (t : List ℕ) → tag + 2 < length t → get_or t (tag + 2) 0 ≢ 45 → is_doctype (drop (tag + 2) t) ≡ true
    → markup_at tag (drop (tag + 2) t) ≡ Err (byte_fault (tag + 2) (get_or t (tag + 2) 0) (fault tag Doctype))
markup_doctype tag t lt ne d = markup_is tag t lt ∙ rw (ne_eqb _ _ ne, d) refl

pub markup_other : (tag : ℕ) (t : List ℕ) → tag + 2 < length t → get_or t (tag + 2) 0 ≢ 45 → is_doctype (drop (tag + 2) t) ≡ false
    → markup_at tag (drop (tag + 2) t) ≡ Err (byte_fault (tag + 2) (get_or t (tag + 2) 0) (fault tag BadTag))
markup_other tag t lt ne d = markup_is tag t lt ∙ rw (ne_eqb _ _ ne, d) refl

markup_dash : (tag : ℕ) (t : List ℕ) → tag + 2 < length t → get_or t (tag + 2) 0 ≡ 45 → markup_at tag (drop (tag + 2) t) ≡ dash_at tag (drop (tag + 3) t)
markup_dash tag t lt e = markup_is tag t lt ∙ rw (eq-eqb _ _ e) refl

dash_is : (tag : ℕ) (t : List ℕ) → tag + 3 < length t
    → dash_at tag (drop (tag + 3) t) ≡ cond (eqb (get_or t (tag + 3) 0) 45) (comment_at tag (drop (tag + 4) t)) (Err (byte_fault (tag + 3) (get_or t (tag + 3) 0) (fault tag BadTag)))
unfolding dash_at
dash_is tag t lt = let n : tag + 3 + 1 ≡ tag + 4 = omega arith in rw (drop_more t (tag + 3) 0 lt, n) refl

dash_none : (tag : ℕ) (t : List ℕ) → tag + 3 ≡ length t → dash_at tag (drop (tag + 3) t) ≡ Err (fault tag UnclosedComment)
unfolding dash_at
dash_none tag t e = at_drop_all (dash_at tag) t (tag + 3) (omega arith)

pub markup_cut : (tag : ℕ) (t : List ℕ) → tag + 2 < length t → get_or t (tag + 2) 0 ≡ 45 → tag + 3 ≡ length t → markup_at tag (drop (tag + 2) t) ≡ Err (fault tag UnclosedComment)
markup_cut tag t lt e n = markup_dash tag t lt e ∙ dash_none tag t n

pub markup_one_dash : (tag : ℕ) (t : List ℕ) → tag + 2 < length t → get_or t (tag + 2) 0 ≡ 45 → tag + 3 < length t → get_or t (tag + 3) 0 ≢ 45
    → markup_at tag (drop (tag + 2) t) ≡ Err (byte_fault (tag + 3) (get_or t (tag + 3) 0) (fault tag BadTag))
markup_one_dash tag t lt e l ne = markup_dash tag t lt e ∙ dash_is tag t l ∙ rw (ne_eqb _ _ ne) refl

pub markup_comment : (tag : ℕ) (t : List ℕ) → tag + 2 < length t → get_or t (tag + 2) 0 ≡ 45 → tag + 3 < length t → get_or t (tag + 3) 0 ≡ 45
    → markup_at tag (drop (tag + 2) t) ≡ comment_at tag (drop (tag + 4) t)
markup_comment tag t lt e l d = markup_dash tag t lt e ∙ dash_is tag t l ∙ rw (eq-eqb _ _ d) refl

pub ruleset markup_steps = (markup_none, markup_doctype, markup_other, markup_cut, markup_one_dash, markup_comment)

-- ---- start tags

-- the tag whose name ends at to
start_named : (tag to : ℕ) (t : List ℕ) → to ≡ tag + 1 + prefix_len is_name_byte (drop (tag + 1) t)
    → start_at tag (drop (tag + 1) t) ≡ start_after tag (slice_range t (tag + 1) to) to (drop to t)
unfolding start_at
start_named tag to t e =
    let n = prefix_len is_name_byte (drop (tag + 1) t) in
    let len : to - (tag + 1) ≡ n = omega arith in
    rw (len, drop-drop, ← e) refl

pub start_cut : (tag to : ℕ) (t : List ℕ) → to ≡ tag + 1 + prefix_len is_name_byte (drop (tag + 1) t) → to ≡ length t → start_at tag (drop (tag + 1) t) ≡ Err (fault tag UnclosedTag)
unfolding start_after
start_cut tag to t e h = start_named tag to t e ∙ at_drop_all (start_after tag (slice_range t (tag + 1) to) to) t to (omega arith)

pub start_plaintext : (tag to : ℕ) (t : List ℕ) → to ≡ tag + 1 + prefix_len is_name_byte (drop (tag + 1) t) → to < length t → is_plaintext (slice_range t (tag + 1) to) ≡ true
    → start_at tag (drop (tag + 1) t) ≡ Err (byte_fault to (get_or t to 0) (fault tag BadTag))
unfolding start_after
start_plaintext tag to t e lt p = start_named tag to t e ∙ at_drop_more (start_after tag (slice_range t (tag + 1) to) to) t to 0 lt ∙ rw p refl

-- the attributes and the end of a tag
abbrev start_rest : ℕ → List ℕ → ℕ → List ℕ → Result (Token × ℕ) ScanFault
start_rest tag name at text = attrs_at 256 tag [] at text >>= λ attrs. tag_close tag (is_void name) attrs.1 (drop (attrs.1 - at) text) >>= λ close. Ok (Start name attrs.0 close.0, close.1)

start_goes_on : (tag to : ℕ) (t : List ℕ) → to ≡ tag + 1 + prefix_len is_name_byte (drop (tag + 1) t) → to < length t → is_plaintext (slice_range t (tag + 1) to) ≡ false
    → start_at tag (drop (tag + 1) t) ≡ start_rest tag (slice_range t (tag + 1) to) to (drop to t)
unfolding start_after
start_goes_on tag to t e lt p =
    let one = drop_more t to 0 lt in
    start_named tag to t e ∙ rw (one, p) refl

pub start_attrs_fault : (tag to : ℕ) (t : List ℕ) (f : ScanFault) → to ≡ tag + 1 + prefix_len is_name_byte (drop (tag + 1) t) → to < length t → is_plaintext (slice_range t (tag + 1) to) ≡ false
    → attrs_at 256 tag [] to (drop to t) ≡ Err f → start_at tag (drop (tag + 1) t) ≡ Err f
start_attrs_fault tag to t f e lt p h = start_goes_on tag to t e lt p ∙ rw h refl

start_closing : (tag to close : ℕ) (t : List ℕ) (attrs : List Attr) → to ≡ tag + 1 + prefix_len is_name_byte (drop (tag + 1) t) → to < length t → is_plaintext (slice_range t (tag + 1) to) ≡ false
    → attrs_at 256 tag [] to (drop to t) ≡ Ok (attrs, close) → to ≤ close
    → start_at tag (drop (tag + 1) t) ≡ (tag_close tag (is_void (slice_range t (tag + 1) to)) close (drop close t) >>= λ c. Ok (Start (slice_range t (tag + 1) to) attrs c.0, c.1))
start_closing tag to close t attrs e lt p h le =
    let n : to + (close - to) ≡ close = omega arith in
    start_goes_on tag to t e lt p ∙ rw (h, drop-drop, n) refl

pub start_close_fault : (tag to close : ℕ) (t : List ℕ) (attrs : List Attr) (f : ScanFault) → to ≡ tag + 1 + prefix_len is_name_byte (drop (tag + 1) t) → to < length t → is_plaintext (slice_range t (tag + 1) to) ≡ false
    → attrs_at 256 tag [] to (drop to t) ≡ Ok (attrs, close) → to ≤ close → tag_close tag (is_void (slice_range t (tag + 1) to)) close (drop close t) ≡ Err f
    → start_at tag (drop (tag + 1) t) ≡ Err f
start_close_fault tag to close t attrs f e lt p h le c = start_closing tag to close t attrs e lt p h le ∙ rw c refl

pub start_whole : (tag to close end : ℕ) (slash : Bool) (t : List ℕ) (attrs : List Attr) → to ≡ tag + 1 + prefix_len is_name_byte (drop (tag + 1) t) → to < length t → is_plaintext (slice_range t (tag + 1) to) ≡ false
    → attrs_at 256 tag [] to (drop to t) ≡ Ok (attrs, close) → to ≤ close → tag_close tag (is_void (slice_range t (tag + 1) to)) close (drop close t) ≡ Ok (slash, end)
    → start_at tag (drop (tag + 1) t) ≡ Ok (Start (slice_range t (tag + 1) to) attrs slash, end)
start_whole tag to close end slash t attrs e lt p h le c = start_closing tag to close t attrs e lt p h le ∙ rw c refl

pub ruleset start_steps = (start_cut, start_plaintext, start_attrs_fault, start_close_fault, start_whole)

-- ---- which token a `<` begins

pub tag_none : (tag : ℕ) (t : List ℕ) → tag + 1 ≡ length t → tag_at tag (drop (tag + 1) t) ≡ Err (fault tag UnclosedTag)
unfolding tag_at
tag_none tag t e = at_drop_all (tag_at tag) t (tag + 1) (omega arith)

tag_is : (tag : ℕ) (t : List ℕ) → tag + 1 < length t
    → tag_at tag (drop (tag + 1) t) ≡ cond (is_letter (get_or t (tag + 1) 0)) (start_at tag (drop (tag + 1) t)) (cond (eqb (get_or t (tag + 1) 0) 47) (end_at tag (drop (tag + 2) t)) (cond (eqb (get_or t (tag + 1) 0) 33) (markup_at tag (drop (tag + 2) t)) (Err (byte_fault (tag + 1) (get_or t (tag + 1) 0) (fault tag BadTag)))))
unfolding tag_at
tag_is tag t lt = let n : tag + 1 + 1 ≡ tag + 2 = omega arith in rw (drop_more t (tag + 1) 0 lt, n) refl

pub tag_starts : (tag : ℕ) (t : List ℕ) → tag + 1 < length t → is_letter (get_or t (tag + 1) 0) ≡ true → tag_at tag (drop (tag + 1) t) ≡ start_at tag (drop (tag + 1) t)
tag_starts tag t lt e = tag_is tag t lt ∙ rw e refl

pub tag_ends : (tag : ℕ) (t : List ℕ) → tag + 1 < length t → is_letter (get_or t (tag + 1) 0) ≡ false → get_or t (tag + 1) 0 ≡ 47 → tag_at tag (drop (tag + 1) t) ≡ end_at tag (drop (tag + 2) t)
tag_ends tag t lt e s = tag_is tag t lt ∙ rw (e, eq-eqb _ _ s) refl

pub tag_marks : (tag : ℕ) (t : List ℕ) → tag + 1 < length t → is_letter (get_or t (tag + 1) 0) ≡ false → get_or t (tag + 1) 0 ≢ 47 → get_or t (tag + 1) 0 ≡ 33 → tag_at tag (drop (tag + 1) t) ≡ markup_at tag (drop (tag + 2) t)
tag_marks tag t lt e n s = tag_is tag t lt ∙ rw (e, ne_eqb _ _ n, eq-eqb _ _ s) refl

pub tag_other : (tag : ℕ) (t : List ℕ) → tag + 1 < length t → is_letter (get_or t (tag + 1) 0) ≡ false → get_or t (tag + 1) 0 ≢ 47 → get_or t (tag + 1) 0 ≢ 33
    → tag_at tag (drop (tag + 1) t) ≡ Err (byte_fault (tag + 1) (get_or t (tag + 1) 0) (fault tag BadTag))
tag_other tag t lt e n m = tag_is tag t lt ∙ rw (e, ne_eqb _ _ n, ne_eqb _ _ m) refl

pub some_err : (r : Result (Token × ℕ) ScanFault) (f : ScanFault) → r ≡ Err f → some_token r ≡ Err f
some_err r f e = rw e refl

pub ruleset tag_steps = (tag_none, tag_starts, tag_ends, tag_marks, tag_other, some_err)
