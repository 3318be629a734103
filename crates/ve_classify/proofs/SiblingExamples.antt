-- Worked examples: siblings of a flow parent, computed by the check.
use Rattle.std.proofs.Common.{◌≡◌, ℕ, Bool, true, false, List, [], ◌∷◌, None, refl}
use Rattle.std.specs.Prelude.{codes}
use Rattle.std.specs.Str.{chars}
use Rattle.model_spelling.specs.Grammar.{begins_with}
use Rattle.model_spelling.specs.Written.{decoded_from}
use Rattle.ve_base.specs.Empty.{empty_head}
use Rattle.ve_kinds.specs.declared.kind.Kind.TheVariants.{P, Div, AlienBlock}
use Rattle.model_items.specs.declared.plain_item.PlainItem.TheVariants.{Char, Opening, Closing}
use Rattle.model_page.specs.Parts.{Parts, Ended, Words, Note}
use Rattle.model_page.specs.Fit.{Flow, Structural}
use Rattle.model_page.specs.Heads.{whole_head}
use Rattle.model_page.specs.Pieces.{Progress}
use Rattle.ve_classify.specs.Runs.{is_run, starts_block}
use Rattle.ve_classify.specs.Siblings.{siblings}

abbrev start : Progress
start = record { at = 0; owners = []; editable = false }

abbrev comment : Parts
comment = Note (codes "b") Ended

-- whitespace before a comment goes to the comment
white_first : (siblings (Flow Div) (Words (codes " ") comment) start).later.items ≡ Opening AlienBlock (whole_head (codes "<!--b-->")) [] (codes " ") None false ∷ Closing AlienBlock [] ∷ []
unfolding chars begins_with decoded_from
white_first = refl

-- a text before it is a paragraph, which has all its characters
text_first : (siblings (Flow Div) (Words (codes " a") comment) start).later.items
    ≡ Opening P empty_head [] [] None true ∷ Char 32 [] ∷ Char 97 [] ∷ Closing P [] ∷ Opening AlienBlock (whole_head (codes "<!--b-->")) [] [] None false ∷ Closing AlienBlock [] ∷ []
unfolding chars begins_with decoded_from
text_first = refl

-- whitespace at the end stays for the parent's closing
white_last : (siblings (Flow Div) (Note (codes "b") (Words (codes " ") Ended)) start).pre ≡ codes " "
unfolding chars begins_with decoded_from
white_last = refl

-- a comment ends a run, and a text goes on with one
comment_ends : starts_block comment ≡ true
comment_ends = refl

text_goes_on : is_run (Words (codes "a") Ended) ≡ true
text_goes_on = refl
