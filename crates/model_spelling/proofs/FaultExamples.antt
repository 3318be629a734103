-- The first fault of a text, by computation.
use Rattle.std.proofs.Common.{◌≡◌, ℕ, zero, suc, ◌+◌, ◌/◌, ◌%◌, List, [], ◌∷◌, ◌++◌, Option, Some, None, refl, take, map}
use Rattle.std.specs.Prelude.{codes}
use Rattle.std.specs.List.{repeat}
use Rattle.model_spelling.specs.declared.scan_fault.ScanWhat.{ScanWhat}
use Rattle.model_spelling.specs.declared.scan_fault.ScanWhat.TheVariants.{BadTag, BadAttribute, DuplicateAttribute, TooManyAttributes, BadReference, BadChar, UnclosedTag, UnclosedComment, UnclosedRaw, Doctype}
use Rattle.model_spelling.specs.Grammar.{is_letter, is_plaintext, name_same, is_barred, begins_with, starts_reference}
use Rattle.ve_kinds.specs.Tags.{is_void, is_raw}
use Rattle.model_spelling.specs.Reading.{fault, reference_fault, run_end, verbatim_end, head_at, attr_at, attrs_at, start_after, end_at, comment_at, is_doctype, dash_at, markup_at, start_at, tag_at, between_at, token_at}
use Rattle.model_spelling.specs.Tokens.{tokens_from}
use Rattle.model_spelling.specs.Faults.{ForestFault, Scan, Mismatched, Unclosed, Stray, TooDeep, fault_of}

abbrev scan : ℕ → ScanWhat → Option ForestFault
scan at what = Some (Scan (fault at what))

abbrev page : List ℕ
page = codes "<p id=\"x\">a&amp;b</p>"

abbrev prefix_faults : List ℕ → List (Option ForestFault)
prefix_faults lengths = map (λ n. fault_of (take n page)) lengths

-- a page of 21 bytes, cut at each position
prefixes :
    prefix_faults (0 ∷ 1 ∷ 2 ∷ 3 ∷ 4 ∷ 5 ∷ 6 ∷ 7 ∷ 8 ∷ 9 ∷ 10 ∷ 11 ∷ 12 ∷ 13 ∷ 14 ∷ 15 ∷ 16 ∷ 17 ∷ 18 ∷ 19 ∷ 20 ∷ 21 ∷ [])
    ≡ None ∷ repeat 9 (scan 0 UnclosedTag ∷ []) ++ repeat 2 (Some (Unclosed 0) ∷ []) ++ repeat 4 (scan 11 BadReference ∷ []) ++ repeat 2 (Some (Unclosed 0) ∷ []) ++ repeat 3 (scan 17 UnclosedTag ∷ []) ++ None ∷ []
unfolding fault_of tokens_from token_at between_at tag_at start_at markup_at dash_at is_doctype comment_at end_at start_after attrs_at attr_at head_at verbatim_end run_end reference_fault starts_reference is_letter is_plaintext name_same is_barred begins_with is_void is_raw
prefixes = refl

-- pages that are refused
refused_pages :
    map fault_of (
    codes "<p>a"
    ∷ codes "<p id=\"x\" id=\"y\">a</p>"
    ∷ codes "<p>&#65;</p>"
    ∷ codes "<p id=x>a</p>"
    ∷ codes "<p/>"
    ∷ codes "</br>"
    ∷ codes "<p></b>"
    ∷ codes "<p>a</p><!doctype html>"
    ∷ [])
    ≡ Some (Unclosed 0)
    ∷ scan 10 DuplicateAttribute
    ∷ scan 3 BadReference
    ∷ scan 2 BadAttribute
    ∷ scan 2 BadAttribute
    ∷ Some (Stray 0)
    ∷ Some (Mismatched 3)
    ∷ scan 8 Doctype
    ∷ []
unfolding fault_of tokens_from token_at between_at tag_at start_at markup_at dash_at is_doctype comment_at end_at start_after attrs_at attr_at head_at verbatim_end run_end reference_fault starts_reference is_letter is_plaintext name_same is_barred begins_with is_void is_raw
refused_pages = refl

-- comments and what begins like one
comments :
    map fault_of (
    codes "<!"
    ∷ codes "<!-"
    ∷ codes "<!--a"
    ∷ codes "<!-->"
    ∷ codes "<!---->"
    ∷ codes "<!--->-->"
    ∷ codes "<!doc"
    ∷ codes "<!DocTypE"
    ∷ [])
    ≡ scan 0 UnclosedComment
    ∷ scan 0 UnclosedComment
    ∷ scan 0 UnclosedComment
    ∷ scan 0 UnclosedComment
    ∷ None
    ∷ None
    ∷ scan 0 BadTag
    ∷ scan 0 Doctype
    ∷ []
unfolding fault_of tokens_from token_at between_at tag_at start_at markup_at dash_at is_doctype comment_at end_at start_after attrs_at attr_at head_at verbatim_end run_end reference_fault starts_reference is_letter is_plaintext name_same is_barred begins_with is_void is_raw
comments = refl

-- tags, and the name plaintext
tags :
    map fault_of (
    codes "</"
    ∷ codes "<1>"
    ∷ codes "< p>"
    ∷ codes "<plaintext"
    ∷ codes "<plaintext>"
    ∷ codes "<plaintextx></plaintextx>"
    ∷ codes "</p x>"
    ∷ codes "</1>"
    ∷ codes "</p"
    ∷ [])
    ≡ scan 0 UnclosedTag
    ∷ scan 0 BadTag
    ∷ scan 0 BadTag
    ∷ scan 0 UnclosedTag
    ∷ scan 0 BadTag
    ∷ None
    ∷ scan 0 BadTag
    ∷ scan 0 BadTag
    ∷ scan 0 UnclosedTag
    ∷ []
unfolding fault_of tokens_from token_at between_at tag_at start_at markup_at dash_at is_doctype comment_at end_at start_after attrs_at attr_at head_at verbatim_end run_end reference_fault starts_reference is_letter is_plaintext name_same is_barred begins_with is_void is_raw
tags = refl

-- attributes
attributes :
    map fault_of (
    codes "<p  id=\"x\"></p>"
    ∷ codes "<p >"
    ∷ codes "<p id=\"x\"a=\"y\">"
    ∷ codes "<p id =\"x\">"
    ∷ codes "<p id=\"x\" id=z>"
    ∷ codes "<p id=\"x\" id="
    ∷ codes "<p id=\"x\" id=\""
    ∷ codes "<p a='\"<>&lt;'></p>"
    ∷ [])
    ≡ scan 2 BadAttribute
    ∷ scan 2 BadAttribute
    ∷ scan 9 BadAttribute
    ∷ scan 2 BadAttribute
    ∷ scan 9 BadAttribute
    ∷ scan 0 UnclosedTag
    ∷ scan 10 DuplicateAttribute
    ∷ None
    ∷ []
unfolding fault_of tokens_from token_at between_at tag_at start_at markup_at dash_at is_doctype comment_at end_at start_after attrs_at attr_at head_at verbatim_end run_end reference_fault starts_reference is_letter is_plaintext name_same is_barred begins_with is_void is_raw
attributes = refl

-- the `/` of a void element; names have their case
slashes :
    map fault_of (
    codes "<br/>"
    ∷ codes "<br/"
    ∷ codes "<p/"
    ∷ codes "<br/x"
    ∷ codes "<BR/>"
    ∷ codes "<br /"
    ∷ [])
    ≡ None
    ∷ scan 0 UnclosedTag
    ∷ scan 2 BadAttribute
    ∷ scan 3 BadAttribute
    ∷ scan 3 BadAttribute
    ∷ scan 3 BadAttribute
    ∷ []
unfolding fault_of tokens_from token_at between_at tag_at start_at markup_at dash_at is_doctype comment_at end_at start_after attrs_at attr_at head_at verbatim_end run_end reference_fault starts_reference is_letter is_plaintext name_same is_barred begins_with is_void is_raw
slashes = refl

-- references in texts and in values
references :
    map fault_of (
    codes "<p a=\"&am"
    ∷ codes "<p a=\"&ax"
    ∷ codes "<p a=\"&am\">"
    ∷ codes "&"
    ∷ codes "&am<"
    ∷ codes "&apo"
    ∷ codes "&amp"
    ∷ codes "a>b"
    ∷ [])
    ≡ scan 0 UnclosedTag
    ∷ scan 6 BadReference
    ∷ scan 6 BadReference
    ∷ scan 0 BadReference
    ∷ scan 0 BadReference
    ∷ scan 0 BadReference
    ∷ scan 0 BadReference
    ∷ None
    ∷ []
unfolding fault_of tokens_from token_at between_at tag_at start_at markup_at dash_at is_doctype comment_at end_at start_after attrs_at attr_at head_at verbatim_end run_end reference_fault starts_reference is_letter is_plaintext name_same is_barred begins_with is_void is_raw
references = refl

-- raw elements
raw_elements :
    map fault_of (
    codes "<style></style>"
    ∷ codes "<style>a</b></style>"
    ∷ codes "<style>a"
    ∷ codes "<style>a</style"
    ∷ codes "<style></STYLE>"
    ∷ codes "<p><style>"
    ∷ [])
    ≡ None
    ∷ None
    ∷ scan 7 UnclosedRaw
    ∷ scan 7 UnclosedRaw
    ∷ scan 7 UnclosedRaw
    ∷ scan 10 UnclosedRaw
    ∷ []
unfolding fault_of tokens_from token_at between_at tag_at start_at markup_at dash_at is_doctype comment_at end_at start_after attrs_at attr_at head_at verbatim_end run_end reference_fault starts_reference is_letter is_plaintext name_same is_barred begins_with is_void is_raw
raw_elements = refl

-- an end tag of a void name is stray, whatever is open
end_tags :
    map fault_of (
    codes "<p></br>"
    ∷ codes "<br></br>"
    ∷ (codes "</b>" ++ 13 ∷ [])
    ∷ [])
    ≡ Some (Stray 3)
    ∷ Some (Stray 4)
    ∷ Some (Stray 0)
    ∷ []
unfolding fault_of tokens_from token_at between_at tag_at start_at markup_at dash_at is_doctype comment_at end_at start_after attrs_at attr_at head_at verbatim_end run_end reference_fault starts_reference is_letter is_plaintext name_same is_barred begins_with is_void is_raw
end_tags = refl

-- U+0000 or U+000D is the fault where no spelling allows any character before it to decide
barred :
    map fault_of (
    (codes "ab" ++ 13 ∷ [])
    ∷ (codes "&am" ++ 13 ∷ [])
    ∷ (codes "<" ++ 0 ∷ [])
    ∷ (codes "</" ++ 0 ∷ [])
    ∷ (codes "</p" ++ 0 ∷ [])
    ∷ (codes "<!" ++ 0 ∷ [])
    ∷ (codes "<!-" ++ 0 ∷ [])
    ∷ (codes "<!--" ++ 0 ∷ [])
    ∷ (codes "<p" ++ 0 ∷ [])
    ∷ (codes "<plaintext" ++ 0 ∷ [])
    ∷ (codes "<p " ++ 0 ∷ [])
    ∷ (codes "<p a" ++ 0 ∷ [])
    ∷ (codes "<p a=" ++ 0 ∷ [])
    ∷ (codes "<p a=\"" ++ 0 ∷ [])
    ∷ (codes "<p a=\"&am" ++ 0 ∷ [])
    ∷ (codes "<br/" ++ 0 ∷ [])
    ∷ (codes "<style>" ++ 0 ∷ codes "</style>")
    ∷ (codes "<style></style>" ++ 0 ∷ [])
    ∷ (codes "<p>" ++ 13 ∷ codes "</b>")
    ∷ [])
    ≡ scan 2 BadChar
    ∷ scan 3 BadChar
    ∷ scan 1 BadChar
    ∷ scan 2 BadChar
    ∷ scan 3 BadChar
    ∷ scan 2 BadChar
    ∷ scan 3 BadChar
    ∷ scan 4 BadChar
    ∷ scan 2 BadChar
    ∷ scan 10 BadChar
    ∷ scan 3 BadChar
    ∷ scan 4 BadChar
    ∷ scan 5 BadChar
    ∷ scan 6 BadChar
    ∷ scan 9 BadChar
    ∷ scan 4 BadChar
    ∷ scan 7 BadChar
    ∷ scan 15 BadChar
    ∷ scan 3 BadChar
    ∷ []
unfolding fault_of tokens_from token_at between_at tag_at start_at markup_at dash_at is_doctype comment_at end_at start_after attrs_at attr_at head_at verbatim_end run_end reference_fault starts_reference is_letter is_plaintext name_same is_barred begins_with is_void is_raw
barred = refl

-- an earlier character decides
decided_before_barred :
    map fault_of (
    (codes "&ax" ++ 13 ∷ [])
    ∷ (codes "<!do" ++ 0 ∷ [])
    ∷ (codes "<p/" ++ 0 ∷ [])
    ∷ [])
    ≡ scan 0 BadReference
    ∷ scan 0 BadTag
    ∷ scan 2 BadAttribute
    ∷ []
unfolding fault_of tokens_from token_at between_at tag_at start_at markup_at dash_at is_doctype comment_at end_at start_after attrs_at attr_at head_at verbatim_end run_end reference_fault starts_reference is_letter is_plaintext name_same is_barred begins_with is_void is_raw
decided_before_barred = refl

-- ---- limits

abbrev opened : ℕ → List ℕ
opened n = repeat n (codes "<b>")

abbrev closed : ℕ → List ℕ
closed n = repeat n (codes "</b>")

-- within 200 open elements none begins, a void or a raw one neither; a tag that is badly spelled
-- there has its own fault
depth :
    map fault_of (
    (opened 200 ++ codes "<!--x-->a" ++ closed 200)
    ∷ (opened 199 ++ codes "<br>" ++ closed 199)
    ∷ (opened 201)
    ∷ (opened 200 ++ codes "<br>")
    ∷ (opened 200 ++ codes "<style>")
    ∷ (opened 200 ++ codes "<x a=b>")
    ∷ [])
    ≡ None
    ∷ None
    ∷ Some (TooDeep 600)
    ∷ Some (TooDeep 600)
    ∷ Some (TooDeep 600)
    ∷ scan 602 BadAttribute
    ∷ []
unfolding fault_of tokens_from token_at between_at tag_at start_at markup_at dash_at is_doctype comment_at end_at start_after attrs_at attr_at head_at verbatim_end run_end reference_fault starts_reference is_letter is_plaintext name_same is_barred begins_with is_void is_raw
depth = refl

-- attributes with distinct names of four bytes
abbrev numbered : ℕ → List ℕ
numbered zero = []
numbered (suc n) = numbered n ++ codes " a" ++ (48 + n / 100) ∷ (48 + n / 10 % 10) ∷ (48 + n % 10) ∷ codes "=\"\""

-- 256 attributes, and one more; its name is judged after its number
attributes_in_a_tag :
    map fault_of (
    (codes "<p" ++ numbered 256 ++ codes "></p>")
    ∷ (codes "<p" ++ numbered 257 ++ codes "></p>")
    ∷ (codes "<p" ++ numbered 256 ++ codes " a000=\"\"></p>")
    ∷ [])
    ≡ None
    ∷ scan 2051 TooManyAttributes
    ∷ scan 2051 TooManyAttributes
    ∷ []
unfolding fault_of tokens_from token_at between_at tag_at start_at markup_at dash_at is_doctype comment_at end_at start_after attrs_at attr_at head_at verbatim_end run_end reference_fault starts_reference is_letter is_plaintext name_same is_barred begins_with is_void is_raw
attributes_in_a_tag = refl
