-- Head, body and tail of pages, and their first faults, by computation.
use Rattle.std.proofs.Common.{◌≡◌, ℕ, [], ◌∷◌, Option, Some, None, Ok, Err, refl, map}
use Rattle.std.specs.Prelude.{codes}
use Rattle.model_spelling.specs.declared.scan_fault.ScanWhat.{ScanWhat}
use Rattle.model_spelling.specs.declared.scan_fault.ScanWhat.TheVariants.{BadAttribute, UnclosedTag, Doctype, NoBody}
use Rattle.model_spelling.specs.Grammar.{is_letter, is_plaintext, name_same, is_barred, begins_with, starts_reference}
use Rattle.ve_kinds.specs.Tags.{is_void, is_raw}
use Rattle.model_spelling.specs.Reading.{fault, reference_fault, run_end, verbatim_end, head_at, attr_at, attrs_at, start_after, end_at, comment_at, is_doctype, dash_at, markup_at, start_at, tag_at, between_at, token_at}
use Rattle.model_spelling.specs.Tokens.{tokens_from}
use Rattle.model_spelling.specs.Faults.{ForestFault, Scan, Unclosed, fault_of}
use Rattle.model_spelling.specs.Page.{first_place, last_place, body_at, page_parts, page_fault}

abbrev scan : ℕ → ScanWhat → Option ForestFault
scan at what = Some (Scan (fault at what))

-- faults of whole documents
documents :
    map page_fault (
    codes "<!DOCTYPE html>"
    ∷ codes "<!doctype html><body><p>"
    ∷ codes "<!doctype html><body id=x></body>"
    ∷ codes "<!doctype html><body><p>a</body>"
    ∷ codes "<!doctype html><body></body>"
    ∷ codes "<p>a</p><!doctype html>"
    ∷ [])
    ≡ scan 0 NoBody
    ∷ scan 21 NoBody
    ∷ scan 20 BadAttribute
    ∷ Some (Unclosed 21)
    ∷ None
    ∷ scan 8 Doctype
    ∷ []
unfolding fault_of tokens_from token_at between_at tag_at start_at markup_at dash_at is_doctype comment_at end_at start_after attrs_at attr_at head_at verbatim_end run_end reference_fault starts_reference is_letter is_plaintext name_same is_barred begins_with is_void is_raw first_place last_place body_at page_fault
documents = refl

-- the body's first and last byte; a page that isn't whole is all body
bodies :
    map body_at (
    codes "<!doctype html><body><p>a</body>"
    ∷ codes "<!doctype html><body></body>"
    ∷ codes "<!doctype html><bodyx><body a=\"</body>\"></body></body>x"
    ∷ codes "<p>a</p><!doctype html>"
    ∷ codes ""
    ∷ [])
    ≡ Ok (21, 25)
    ∷ Ok (21, 21)
    ∷ Ok (40, 47)
    ∷ Ok (0, 23)
    ∷ Ok (0, 0)
    ∷ []
unfolding fault_of tokens_from token_at between_at tag_at start_at markup_at dash_at is_doctype comment_at end_at start_after attrs_at attr_at head_at verbatim_end run_end reference_fault starts_reference is_letter is_plaintext name_same is_barred begins_with is_void is_raw first_place last_place body_at page_fault
bodies = refl

-- where there is no body, and a body start tag that the page cuts off
no_bodies :
    map body_at (
    codes "<!doctype html><body"
    ∷ codes "<!doctype html><body "
    ∷ codes "<!doctype html><body a=\"</body>\">"
    ∷ [])
    ≡ Err (fault 0 NoBody)
    ∷ Err (fault 15 UnclosedTag)
    ∷ Err (fault 33 NoBody)
    ∷ []
unfolding fault_of tokens_from token_at between_at tag_at start_at markup_at dash_at is_doctype comment_at end_at start_after attrs_at attr_at head_at verbatim_end run_end reference_fault starts_reference is_letter is_plaintext name_same is_barred begins_with is_void is_raw first_place last_place body_at page_fault
no_bodies = refl

-- the body start tag is looked for in comments too, and the last `</body>` counts
three_parts : page_parts (codes "<!DocType x><!--<body>a</body>b</body>c") ≡ Ok (record { prefix = codes "<!DocType x><!--<body>"; body = codes "a</body>b"; suffix = codes "</body>c" })
unfolding fault_of tokens_from token_at between_at tag_at start_at markup_at dash_at is_doctype comment_at end_at start_after attrs_at attr_at head_at verbatim_end run_end reference_fault starts_reference is_letter is_plaintext name_same is_barred begins_with is_void is_raw first_place last_place body_at page_fault
three_parts = refl
