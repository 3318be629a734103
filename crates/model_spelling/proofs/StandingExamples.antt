-- Which faults stand however the text goes on, by computation.
use Rattle.std.proofs.Common.{◌≡◌, ℕ, List, [], ◌∷◌, Option, Some, None, refl, Bool, true, false, map}
use Rattle.std.specs.Prelude.{codes}
use Rattle.std.specs.List.{repeat}
use Rattle.model_spelling.specs.declared.scan_fault.ScanWhat.TheVariants.{BadReference, BadTag, Doctype}
use Rattle.model_spelling.specs.Grammar.{is_letter, is_plaintext, name_same, is_barred, begins_with, starts_reference}
use Rattle.ve_kinds.specs.Tags.{is_void, is_raw}
use Rattle.model_spelling.specs.Reading.{fault, reference_fault, run_end, verbatim_end, head_at, attr_at, attrs_at, start_after, end_at, comment_at, is_doctype, dash_at, markup_at, start_at, tag_at, between_at, token_at}
use Rattle.model_spelling.specs.Tokens.{tokens_from}
use Rattle.model_spelling.specs.Faults.{ForestFault, Scan, fault_of}
use Rattle.model_spelling.specs.Standing.{forest_stands, is_left_open}

-- whether the first fault of a text stands
abbrev fault_stands : List ℕ → Option ForestFault → Option Bool
fault_stands text None = None
fault_stands text (Some f) = Some (forest_stands text f)

abbrev stands : List ℕ → Option Bool
stands text = fault_stands text (fault_of text)

-- faults of the end: more text could take them away
faults_of_the_end :
    map stands (
    codes "<p"
    ∷ codes "<!-"
    ∷ codes "<style>"
    ∷ codes "<p>"
    ∷ codes "a&am"
    ∷ codes "<p id=\"&am"
    ∷ codes "<!Doc"
    ∷ codes "<!d"
    ∷ codes "<br/"
    ∷ codes "<p>a</q"
    ∷ codes "&"
    ∷ codes "<"
    ∷ codes "<plaintext"
    ∷ [])
    ≡ repeat 13 (Some false ∷ [])
unfolding fault_of tokens_from token_at between_at tag_at start_at markup_at dash_at is_doctype comment_at end_at start_after attrs_at attr_at head_at verbatim_end run_end reference_fault starts_reference is_letter is_plaintext name_same is_barred begins_with is_void is_raw
faults_of_the_end = refl

-- faults that no text after them takes away
faults_that_stand :
    map stands (
    codes "a&ax"
    ∷ codes "<p id=\"&ax"
    ∷ codes "<!Doctype"
    ∷ codes "<!dx"
    ∷ codes "<p/"
    ∷ codes "<p>a</q>"
    ∷ codes "</br>"
    ∷ codes "<3"
    ∷ codes "<plaintext "
    ∷ [])
    ≡ repeat 9 (Some true ∷ [])
unfolding fault_of tokens_from token_at between_at tag_at start_at markup_at dash_at is_doctype comment_at end_at start_after attrs_at attr_at head_at verbatim_end run_end reference_fault starts_reference is_letter is_plaintext name_same is_barred begins_with is_void is_raw
faults_that_stand = refl

-- how a text goes on where its fault was one of the end
gone_on :
    map fault_of (codes "<p>a</p>" ∷ codes "<!---->" ∷ codes "<style></style>" ∷ codes "<p></p>" ∷ codes "a&amp;" ∷ codes "<!Doctype" ∷ [])
    ≡ None ∷ None ∷ None ∷ None ∷ None ∷ Some (Scan (fault 0 Doctype)) ∷ []
unfolding fault_of tokens_from token_at between_at tag_at start_at markup_at dash_at is_doctype comment_at end_at start_after attrs_at attr_at head_at verbatim_end run_end reference_fault starts_reference is_letter is_plaintext name_same is_barred begins_with is_void is_raw
gone_on = refl

abbrev left_open : List ℕ → Bool
left_open text = is_left_open (fault_of text)

-- faults that the end cuts, and what is left open where more follows
completed :
    (map fault_of (codes "a&am" ∷ codes "<p>a&am" ∷ codes "<!d" ∷ []) ≡ Some (Scan (fault 1 BadReference)) ∷ Some (Scan (fault 4 BadReference)) ∷ Some (Scan (fault 0 BadTag)) ∷ [])
    × (map left_open (codes "a&amp;" ∷ codes "<p>a&amp;" ∷ codes "a&am" ∷ codes "<p>a&ax;" ∷ codes "<p" ∷ codes "</p>" ∷ codes "<!doctype" ∷ []) ≡ true ∷ true ∷ false ∷ false ∷ false ∷ false ∷ false ∷ [])
unfolding fault_of tokens_from token_at between_at tag_at start_at markup_at dash_at is_doctype comment_at end_at start_after attrs_at attr_at head_at verbatim_end run_end reference_fault starts_reference is_letter is_plaintext name_same is_barred begins_with is_void is_raw
completed = (refl, refl)
