-- A worked example: a block, whitespace, a run that becomes a paragraph, and whitespace at the end.
use Rattle.std.proofs.Common.{◌≡◌, ℕ, true, false, [], ◌∷◌, Some, None, refl}
use Rattle.std.specs.Prelude.{codes}
use Rattle.model_page.proofs.OnLiterals.{page_on_literals}
use Rattle.ve_kinds.specs.declared.kind.Kind.TheVariants.{P, Div, Root}
use Rattle.ve_base.specs.Empty.{empty_head}
use Rattle.model_items.specs.declared.plain_item.PlainItem.TheVariants.{Char, Opening, Closing}
use Rattle.model_page.specs.Parts.{Parts, Ended, Words, Parent}
use Rattle.model_page.specs.Fit.{Flow}
use Rattle.model_page.specs.Limits.{TooDeep}
use Rattle.ve_reader.specs.declared.purpose.Purpose.TheVariants as purpose
use Rattle.ve_reader.specs.ReadSoFar.{ReadSoFar}
use Rattle.ve_read.specs.Blocks.{with_siblings, white_at_end, siblings_limit}

-- so many kinds are open
abbrev opened : ℕ → ReadSoFar
opened depth = record { purpose = purpose.Body; depth = depth; items = []; marks = []; rows = []; owners = [] }

-- "a", then an empty div, then a space
abbrev line : Parts
line = Words (codes "a") (Parent (codes "div") [] Ended (Words (codes " ") Ended))

line_read : (with_siblings (Flow Root) line 5 (opened 2)).items
    ≡ Opening P empty_head [] [] None true ∷ Char 97 [] ∷ Closing P [] ∷ Opening Div empty_head [] [] None false ∷ Closing Div [] ∷ []
unfolding page_on_literals
line_read = refl

-- the space stands after the last block
line_white : white_at_end (Flow Root) line 5 (opened 2) ≡ 32 ∷ []
unfolding page_on_literals
line_white = refl

-- where 100 kinds are open, the paragraph for the letter is one too many
line_too_deep : siblings_limit (Flow Root) line 5 (opened 100) ≡ Some (TooDeep 5)
unfolding page_on_literals
line_too_deep = refl
