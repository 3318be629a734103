-- The tokens of a text, and how each is spelled. A text is a list of bytes: every delimiter is
-- ASCII. The spelling is that of WHATWG HTML, "Serializing HTML fragments", with more spellings
-- beside it, which are this project's own. A value may stand in single quotes. Raw `<`, `>` and
-- U+00A0 may stand in values, and raw `>` and U+00A0 in texts. `&quot;` and `&apos;` may stand in
-- texts, and `&apos;` in values. A void element may end in `/>`. Names have their case.
use Rattle.std.specs.Prelude.{ℕ, Bool, true, false, ◌&&◌, ◌||◌, not, List, [], ◌∷◌, ◌++◌, length, if◌then◌else◌, ◌==◌, nat_eq, nat_le, codes, bytes_eq}
use Rattle.std.specs.List.{flat_map, list_any, list_all, starts_with}
use Rattle.std.specs.Char.{is_ascii_alphabetic, is_ascii_alphanumeric}
use Rattle.ve_base.specs.Limits.{max_attributes}
use Rattle.ve_kinds.specs.Tags.{is_void}

-- ---- bytes and names

-- U+0000 and U+000D stand in no token
unfoldable pub is_barred : ℕ → Bool
is_barred b = b == 0 || b == 13

unfoldable pub is_letter : ℕ → Bool
is_letter b = is_ascii_alphabetic b

-- a letter, a digit, `-`, `_`, `.` or `:`
abbrev pub is_name_byte : ℕ → Bool
is_name_byte b = is_ascii_alphanumeric b || b == 45 || b == 95 || b == 46 || b == 58

-- whether the text begins with this prefix
unfoldable pub begins_with : List ℕ → List ℕ → Bool
begins_with prefix text = starts_with nat_eq text prefix

-- whether two names are the same, byte by byte
unfoldable pub name_same : List ℕ → List ℕ → Bool
name_same a b = bytes_eq a b

unfoldable pub is_plaintext : List ℕ → Bool
is_plaintext name = name_same (codes "plaintext") name

-- the references that a text or a value may hold
abbrev pub references : List (List ℕ)
references = codes "&amp;" ∷ codes "&lt;" ∷ codes "&gt;" ∷ codes "&nbsp;" ∷ codes "&quot;" ∷ codes "&apos;" ∷ []

unfoldable pub starts_reference : List ℕ → Bool
starts_reference text = list_any (λ r. begins_with r text) references

-- ---- tokens

-- an attribute as it is spelled: its quote is `"` or `'`
pub record Attr : Type 0 where
  pub name : List ℕ
  pub value : List ℕ
  pub quote : ℕ

-- A start tag with its name, its attributes and whether a void element's `/` stands; an end tag;
-- characters; the text of a raw element; a comment.
pub data Token : Type 0 where
  Start : List ℕ → List Attr → Bool → Token
  End : List ℕ → Token
  Chars : List ℕ → Token
  Raw : List ℕ → Token
  Comment : List ℕ → Token

-- a space, the name, and the value in its quotes
abbrev pub attr_text : Attr → List ℕ
attr_text a = 32 ∷ a.name ++ 61 ∷ a.quote ∷ a.value ++ a.quote ∷ []

abbrev pub start_text : List ℕ → List Attr → Bool → List ℕ
start_text name attrs slash = 60 ∷ name ++ flat_map attr_text attrs ++ (if slash then codes "/>" else codes ">")

abbrev pub end_text : List ℕ → List ℕ
end_text name = 60 ∷ 47 ∷ name ++ 62 ∷ []

abbrev pub comment_open : List ℕ
comment_open = codes "<!--"

abbrev pub comment_close : List ℕ
comment_close = codes "-->"

-- the one text of a token
abbrev pub token_text : Token → List ℕ
token_text (Start name attrs slash) = start_text name attrs slash
token_text (End name) = end_text name
token_text (Chars text) = text
token_text (Raw text) = text
token_text (Comment text) = comment_open ++ text ++ comment_close

-- ---- what has a spelling

-- Characters without the byte stop, where `&` stands only at the start of a reference. A text stops
-- at `<`, a value at its quote.
abbrev pub is_run : ℕ → List ℕ → Bool
is_run stop [] = true
is_run stop (b ∷ bs) = not (b == stop) && not (is_barred b) && (not (b == 38) || starts_reference (b ∷ bs)) && is_run stop bs

-- Characters before the first position of close: no position in them begins with it, when it
-- follows them.
abbrev pub is_verbatim : List ℕ → List ℕ → Bool
is_verbatim close [] = true
is_verbatim close (b ∷ bs) = not (is_barred b) && not (begins_with close (b ∷ bs ++ close)) && is_verbatim close bs

-- one or more bytes of names
abbrev pub is_attr_name : List ℕ → Bool
is_attr_name [] = false
is_attr_name (b ∷ bs) = list_all is_name_byte (b ∷ bs)

-- a letter and then bytes of names; `plaintext` is no name, since its element would have no end
abbrev pub is_tag_name : List ℕ → Bool
is_tag_name [] = false
is_tag_name (b ∷ bs) = is_letter b && list_all is_name_byte bs && not (is_plaintext (b ∷ bs))

abbrev pub is_attr : Attr → Bool
is_attr a = is_attr_name a.name && (a.quote == 34 || a.quote == 39) && is_run a.quote a.value

-- whether an attribute has that name
abbrev pub has_name : List ℕ → List Attr → Bool
has_name name attrs = list_any (λ a. name_same a.name name) attrs

-- no name stands twice
abbrev pub are_distinct : List Attr → Bool
are_distinct [] = true
are_distinct (a ∷ attrs) = not (has_name a.name attrs) && are_distinct attrs

abbrev pub are_attrs : List Attr → Bool
are_attrs attrs = list_all is_attr attrs && are_distinct attrs && nat_le (length attrs) max_attributes

-- a start tag; only a void element has a `/`
abbrev pub is_start : List ℕ → List Attr → Bool → Bool
is_start name attrs slash = is_tag_name name && are_attrs attrs && (not slash || is_void name)

-- one or more characters
abbrev pub is_text : List ℕ → Bool
is_text [] = false
is_text (b ∷ bs) = is_run 60 (b ∷ bs)
