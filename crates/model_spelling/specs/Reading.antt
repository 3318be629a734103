-- Reading a text from left to right: the next token, or the first fault. The first character that
-- no spelling allows at its position decides which fault it is. Where that character is U+0000 or
-- U+000D the fault is its own. The laws say that this reading is the grammar's: texts are read
-- exactly as they are spelled, and a fault stands however the text goes on. at is the number of the
-- first byte of the list that is read. What is found ends before the byte whose number is answered.
use Rattle.std.specs.Prelude.{ℕ, zero, suc, ◌+◌, ◌-◌, max, Bool, true, false, ◌&&◌, ◌||◌, not, List, [], ◌∷◌, ◌++◌, take, drop, map, Option, Some, None, Result, Ok, Err, if◌then◌else◌, ◌==◌, nat_eq, slice_index, codes}
use Rattle.std.specs.List.{prefix_len, common_prefix_len}
use Rattle.std.specs.Char.{to_ascii_lowercase}
use Rattle.model_spelling.specs.declared.scan_fault.ScanFault.{ScanFault}
use Rattle.model_spelling.specs.declared.scan_fault.ScanWhat.{ScanWhat}
use Rattle.model_spelling.specs.declared.scan_fault.ScanWhat.TheVariants.{BadTag, BadAttribute, DuplicateAttribute, TooManyAttributes, BadReference, BadChar, UnclosedTag, UnclosedComment, UnclosedRaw, Doctype}
use Rattle.model_spelling.specs.Grammar.{is_barred, is_letter, is_name_byte, begins_with, is_plaintext, name_same, references, starts_reference, Attr, Token, Start, End, Chars, Raw, Comment, comment_close, end_text, has_name}
use Rattle.ve_kinds.specs.Tags.{is_void, is_raw}
use Rattle.ve_base.specs.Limits.{max_attributes}

infixl 10 ◌>>=◌
abbrev pub ◌>>=◌ : {A B : Type 0} → Result A ScanFault → (A → Result B ScanFault) → Result B ScanFault
(Ok x) >>= f = f x
(Err e) >>= f = Err e

abbrev pub fault : ℕ → ScanWhat → ScanFault
fault at what = record { at = at; what = what }

-- the fault of a byte b that no spelling allows at its position: f, or its own
abbrev pub byte_fault : ℕ → ℕ → ScanFault → ScanFault
byte_fault at b f = if is_barred b then fault at BadChar else f

-- ---- runs

-- the most bytes of a reference that the text begins with
abbrev pub longest_prefix : List (List ℕ) → List ℕ → ℕ
longest_prefix [] text = 0
longest_prefix (r ∷ rs) text = max (common_prefix_len nat_eq r text) (longest_prefix rs text)

-- Where a run may end with the text there is no fault of its end, else there is one.
abbrev pub end_of_run : Option ScanFault → ℕ → Result ℕ ScanFault
end_of_run None at = Ok at
end_of_run (Some unclosed) at = Err unclosed

-- the fault of the `&` at amp, which starts no reference: what follows the longest prefix of one
-- stands at next
abbrev pub after_prefix : Option ScanFault → ℕ → ℕ → List ℕ → ScanFault
after_prefix None amp next [] = fault amp BadReference
after_prefix (Some unclosed) amp next [] = unclosed
after_prefix end amp next (b ∷ bs) = byte_fault next b (fault amp BadReference)

unfoldable pub reference_fault : Option ScanFault → ℕ → List ℕ → ScanFault
reference_fault end at text = after_prefix end at (at + longest_prefix references text) (drop (longest_prefix references text) text)

-- characters up to stop, or up to the end where that is no fault
unfoldable pub run_end : Option ScanFault → ℕ → ℕ → List ℕ → Result ℕ ScanFault
run_end end stop at [] = end_of_run end at
run_end end stop at (b ∷ bs) =
    if b == stop then Ok at
    else if is_barred b then Err (fault at BadChar)
    else if b == 38 && not (starts_reference (b ∷ bs)) then Err (reference_fault end at (b ∷ bs))
    else run_end end stop (at + 1) bs

-- characters up to the first position of close
unfoldable pub verbatim_end : List ℕ → ScanFault → ℕ → List ℕ → Result ℕ ScanFault
verbatim_end close unclosed at [] = Err unclosed
verbatim_end close unclosed at (b ∷ bs) =
    if begins_with close (b ∷ bs) then Ok at
    else if is_barred b then Err (fault at BadChar)
    else verbatim_end close unclosed (at + 1) bs

-- ---- attributes

-- the value after its quote q
abbrev pub value_end : ℕ → ℕ → ℕ → List ℕ → Result ℕ ScanFault
value_end tag q at text = run_end (Some (fault tag UnclosedTag)) q at text

-- after ` name=`: a quote, which is answered; position is the byte before the name
abbrev pub mark_at : ℕ → ℕ → ℕ → List ℕ → Result ℕ ScanFault
mark_at tag place at [] = Err (fault tag UnclosedTag)
mark_at tag place at (q ∷ rest) = if q == 34 || q == 39 then Ok q else Err (byte_fault at q (fault place BadAttribute))

-- after ` name`
abbrev pub quote_at : ℕ → ℕ → ℕ → List ℕ → Result ℕ ScanFault
quote_at tag place at [] = Err (fault tag UnclosedTag)
quote_at tag place at (c ∷ rest) = if c == 61 then mark_at tag place (at + 1) rest else Err (byte_fault at c (fault place BadAttribute))

-- after a space: a name of this length
abbrev pub name_len_at : ℕ → ℕ → ℕ → List ℕ → Result ℕ ScanFault
name_len_at tag place zero [] = Err (fault tag UnclosedTag)
name_len_at tag place zero (c ∷ rest) = Err (byte_fault (place + 1) c (fault place BadAttribute))
name_len_at tag place (suc n) rest = Ok (suc n)

-- an attribute is judged where its quote was read
abbrev pub judged : ℕ → ℕ → List Attr → List ℕ → Result (Unit {0}) ScanFault
judged zero at before name = Err (fault at TooManyAttributes)
judged (suc room) at before name = if has_name name before then Err (fault at DuplicateAttribute) else Ok tt

-- after a space: the length of the name, and the quote
unfoldable pub head_at : ℕ → ℕ → List ℕ → Result (ℕ × ℕ) ScanFault
head_at tag place text = do
  n ← name_len_at tag place (prefix_len is_name_byte text) text
  q ← quote_at tag place (place + 1 + n) (drop n text)
  Ok (n, q)

-- The attribute that begins after the space at position, and where it ends; room is how many may
-- still come.
unfoldable pub attr_at : ℕ → ℕ → List Attr → ℕ → List ℕ → Result (Attr × ℕ) ScanFault
attr_at room tag before place text = do
  h ← head_at tag place text
  _ ← judged room (place + 1) before (take h.0 text)
  to ← value_end tag h.1 (place + h.0 + 3) (drop (h.0 + 2) text)
  Ok (record { name = take h.0 text; value = take (to - (place + h.0 + 3)) (drop (h.0 + 2) text); quote = h.1 }, to + 1)

-- All attributes, before among them, and the byte after the last one.
unfoldable pub attrs_at : ℕ → ℕ → List Attr → ℕ → List ℕ → Result (List Attr × ℕ) ScanFault
attrs_at zero tag before at text =
    if slice_index text 0 == 32 then (attr_at zero tag before at (drop 1 text) >>= λ a. Ok (before, at)) else Ok (before, at)
attrs_at (suc room) tag before at text =
    if slice_index text 0 == 32
    then (attr_at (suc room) tag before at (drop 1 text) >>= λ a. attrs_at room tag (before ++ a.0 ∷ []) a.1 (drop (a.1 - at) text))
    else Ok (before, at)

-- the attributes that were read
abbrev pub attrs_read : Result (List Attr × ℕ) ScanFault → List Attr
attrs_read (Ok r) = r.0
attrs_read (Err f) = []

-- the attributes of the tag at tag, whose name ends at at
abbrev pub attrs_from : ℕ → ℕ → List ℕ → List Attr
attrs_from tag at text = attrs_read (attrs_at max_attributes tag [] at (drop at text))

-- ---- tags

-- after the `/` at the end of a void element's tag
abbrev pub slash_at : ℕ → ℕ → List ℕ → Result (Bool × ℕ) ScanFault
slash_at tag at [] = Err (fault tag UnclosedTag)
slash_at tag at (d ∷ rest) = if d == 62 then Ok (true, at + 2) else Err (byte_fault (at + 1) d (fault at BadAttribute))

-- the end of a start tag: is there a `/`, and the byte after the `>`
abbrev pub tag_close : ℕ → Bool → ℕ → List ℕ → Result (Bool × ℕ) ScanFault
tag_close tag void at [] = Err (fault tag UnclosedTag)
tag_close tag void at (c ∷ rest) =
    if c == 62 then Ok (false, at + 1)
    else if c == 47 && void then slash_at tag at rest
    else Err (byte_fault at c (fault at BadAttribute))

-- some byte ends a tag's name, and the name is allowed
abbrev pub name_ends : ℕ → List ℕ → ℕ → List ℕ → Result (Unit {0}) ScanFault
name_ends tag name at [] = Err (fault tag UnclosedTag)
name_ends tag name at (c ∷ rest) = if is_plaintext name then Err (byte_fault at c (fault tag BadTag)) else Ok tt

-- after the name of a start tag
unfoldable pub start_after : ℕ → List ℕ → ℕ → List ℕ → Result (Token × ℕ) ScanFault
start_after tag name at text = do
  _ ← name_ends tag name at text
  attrs ← attrs_at max_attributes tag [] at text
  close ← tag_close tag (is_void name) attrs.1 (drop (attrs.1 - at) text)
  Ok (Start name attrs.0 close.0, close.1)

-- after the name of an end tag
abbrev pub end_after : ℕ → List ℕ → ℕ → List ℕ → Result (Token × ℕ) ScanFault
end_after tag name at [] = Err (fault tag UnclosedTag)
end_after tag name at (c ∷ rest) =
    if c == 62 && not (is_plaintext name) then Ok (End name, at + 1) else Err (byte_fault at c (fault tag BadTag))

-- the name that the text begins with, and what follows it
abbrev pub with_name : {A : Type 0} → (List ℕ → ℕ → List ℕ → A) → ℕ → List ℕ → A
with_name after at text = let n = prefix_len is_name_byte text in after (take n text) (at + n) (drop n text)

-- after `</`
unfoldable pub end_at : ℕ → List ℕ → Result (Token × ℕ) ScanFault
end_at tag [] = Err (fault tag UnclosedTag)
end_at tag (c ∷ cs) = if is_letter c then with_name (end_after tag) (tag + 2) (c ∷ cs) else Err (byte_fault (tag + 2) c (fault tag BadTag))

-- after `<!--`
unfoldable pub comment_at : ℕ → List ℕ → Result (Token × ℕ) ScanFault
comment_at tag text = do
  to ← verbatim_end comment_close (fault tag UnclosedComment) (tag + 4) text
  Ok (Comment (take (to - (tag + 4)) text), to + 3)

-- `doctype`, in any case of its letters
unfoldable pub is_doctype : List ℕ → Bool
is_doctype text = name_same (codes "doctype") (map to_ascii_lowercase (take 7 text))

-- after `<!-`
unfoldable pub dash_at : ℕ → List ℕ → Result (Token × ℕ) ScanFault
dash_at tag [] = Err (fault tag UnclosedComment)
dash_at tag (d ∷ ds) = if d == 45 then comment_at tag ds else Err (byte_fault (tag + 3) d (fault tag BadTag))

-- after `<!`
unfoldable pub markup_at : ℕ → List ℕ → Result (Token × ℕ) ScanFault
markup_at tag [] = Err (fault tag UnclosedComment)
markup_at tag (c ∷ cs) =
    if c == 45 then dash_at tag cs
    else Err (byte_fault (tag + 2) c (fault tag (if is_doctype (c ∷ cs) then Doctype else BadTag)))

-- after the `<` of a start tag
unfoldable pub start_at : ℕ → List ℕ → Result (Token × ℕ) ScanFault
start_at tag text = with_name (start_after tag) (tag + 1) text

-- after `<`
unfoldable pub tag_at : ℕ → List ℕ → Result (Token × ℕ) ScanFault
tag_at tag [] = Err (fault tag UnclosedTag)
tag_at tag (c ∷ cs) =
    if is_letter c then start_at tag (c ∷ cs)
    else if c == 47 then end_at tag cs
    else if c == 33 then markup_at tag cs
    else Err (byte_fault (tag + 1) c (fault tag BadTag))

-- ---- tokens

-- Where a reader stands: between two tokens, after the start tag of the raw element of that name,
-- or at its fault.
pub data Mode : Type 0 where
  Between : Mode
  After : List ℕ → Mode
  Failed : ScanFault → Mode

abbrev pub mode_after : Token → Mode
mode_after (Start name attrs slash) = if is_raw name then After name else Between
mode_after (End name) = Between
mode_after (Chars text) = Between
mode_after (Raw text) = Between
mode_after (Comment text) = Between

-- the next token and the byte after it; none at the end
abbrev pub Step : Type 0
Step = Result (Option (Token × ℕ)) ScanFault

abbrev pub some_token : Result (Token × ℕ) ScanFault → Step
some_token read = read >>= λ t. Ok (Some t)

unfoldable pub between_at : ℕ → List ℕ → Step
between_at at [] = Ok None
between_at at (b ∷ bs) =
    if b == 60 then some_token (tag_at at bs)
    else (run_end None 60 at (b ∷ bs) >>= λ to. Ok (Some (Chars (take (to - at) (b ∷ bs)), to)))

unfoldable pub token_at : Mode → ℕ → List ℕ → Step
token_at Between at text = between_at at text
token_at (After name) at text = do
  to ← verbatim_end (end_text name) (fault at UnclosedRaw) at text
  if to == at then between_at at text else Ok (Some (Raw (take (to - at) text), to))
token_at (Failed f) at text = Err f
