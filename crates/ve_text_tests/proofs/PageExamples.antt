-- Pages on which a wrong body of the reader would answer otherwise: their first fault, by
-- computation.
use Rattle.std.proofs.Common.{◌≡◌, Some, None, refl}
use Rattle.std.specs.Prelude.{codes}
use Rattle.model_spelling.specs.declared.scan_fault.ScanWhat.TheVariants.{UnclosedComment}
use Rattle.model_spelling.specs.Grammar.{is_letter, is_plaintext, name_same, is_barred, begins_with, starts_reference}
use Rattle.ve_kinds.specs.Tags.{is_void, is_raw}
use Rattle.model_spelling.specs.Reading.{fault, reference_fault, run_end, verbatim_end, head_at, attr_at, attrs_at, start_after, end_at, comment_at, is_doctype, dash_at, markup_at, start_at, tag_at, between_at, token_at}
use Rattle.model_spelling.specs.Tokens.{tokens_from}
use Rattle.model_spelling.specs.Faults.{Scan, Unclosed, fault_of}

-- where a closed element stayed the innermost, or the first node counted as the innermost, a tag
-- here would be mismatched
each_tag_closes_the_innermost_element : fault_of (codes "<p><b></b></p>") ≡ None
unfolding fault_of tokens_from token_at between_at tag_at start_at markup_at dash_at is_doctype comment_at end_at start_after attrs_at attr_at head_at verbatim_end run_end reference_fault starts_reference is_letter is_plaintext name_same is_barred begins_with is_void is_raw
each_tag_closes_the_innermost_element = refl

-- where the outermost element was named, the fault would be at 0
the_innermost_element_is_unclosed : fault_of (codes "<p><b>") ≡ Some (Unclosed 3)
unfolding fault_of tokens_from token_at between_at tag_at start_at markup_at dash_at is_doctype comment_at end_at start_after attrs_at attr_at head_at verbatim_end run_end reference_fault starts_reference is_letter is_plaintext name_same is_barred begins_with is_void is_raw
the_innermost_element_is_unclosed = refl

-- where `->` ended a comment, this text would have no fault
one_dash_ends_no_comment : fault_of (codes "<!--a->b") ≡ Some (Scan (fault 0 UnclosedComment))
unfolding fault_of tokens_from token_at between_at tag_at start_at markup_at dash_at is_doctype comment_at end_at start_after attrs_at attr_at head_at verbatim_end run_end reference_fault starts_reference is_letter is_plaintext name_same is_barred begins_with is_void is_raw
one_dash_ends_no_comment = refl
