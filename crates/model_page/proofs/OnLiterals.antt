-- what an answer unfolds to read a literal page
use Rattle.std.specs.Prelude.{⊤}
use Rattle.std.specs.Str.{chars}
use Rattle.serde_json.proofs.OnLiterals.{serde_json_on_literals}
use Rattle.model_spelling.specs.Grammar.{is_barred, is_letter, begins_with, name_same, is_plaintext, starts_reference}
use Rattle.ve_kinds.specs.Tags.{is_void, is_raw}
use Rattle.model_spelling.specs.Reading.{reference_fault, run_end, verbatim_end, head_at, attr_at, attrs_at, start_after, end_at, comment_at, is_doctype, dash_at, markup_at, start_at, tag_at, between_at, token_at}
use Rattle.model_spelling.specs.Tokens.{tokens_from}
use Rattle.model_spelling.specs.Faults.{fault_of}
use Rattle.model_spelling.specs.Page.{first_place, last_place, body_at}
use Rattle.model_spelling.specs.Written.{decoded_from, escaped}

unfoldable pub page_on_literals : ⊤
unfolding chars serde_json_on_literals is_barred is_letter begins_with name_same is_void is_raw is_plaintext starts_reference reference_fault run_end verbatim_end head_at attr_at attrs_at start_after end_at comment_at is_doctype dash_at markup_at start_at tag_at between_at token_at tokens_from fault_of first_place last_place body_at decoded_from escaped
page_on_literals = tt
