-- Worked examples: content that is read in the body of a reference, and what is over a limit in it,
-- computed by the check.
use Rattle.std.proofs.Common.{◌≡◌, ℕ, false, [], ◌∷◌, Some, None, refl}
use Rattle.std.specs.Prelude.{codes}
use Rattle.std.specs.Str.{chars}
use Rattle.model_spelling.specs.Grammar.{begins_with}
use Rattle.model_spelling.specs.Written.{decoded_from}
use Rattle.ve_base.specs.declared.marks.Mark.{Mark}
use Rattle.ve_kinds.specs.declared.kind.Kind.TheVariants.{AlienInline}
use Rattle.model_items.specs.declared.plain_item.PlainItem.TheVariants.{Char, Opening, Closing}
use Rattle.model_page.specs.Parts.{Parts, Ended, Words, Note, Parent}
use Rattle.model_page.specs.Heads.{whole_head}
use Rattle.model_page.specs.Limits.{TooDeep}
use Rattle.ve_reader.specs.declared.purpose.Purpose.TheVariants as purpose
use Rattle.ve_reader.specs.ReadSoFar.{ReadSoFar}
use Rattle.ve_read.specs.Content.{with_content, content_limit}

-- a letter is read already, and so many kinds are open
abbrev after_letter : ℕ → ReadSoFar
after_letter depth = record { purpose = purpose.Body; depth = depth; items = Char 97 [] ∷ []; marks = []; rows = []; owners = [] }

abbrev bold : Mark
bold = record { tag = codes "b"; attrs = [] }

-- b<b>c</b><!--d-->
abbrev line : Parts
line = Words (codes "b") (Parent (codes "b") [] (Words (codes "c") Ended) (Note (codes "d") Ended))

-- the letters come after the one before, the second of them in bold, and then the comment, which
-- keeps its source
line_read : (with_content line 5 (after_letter 2)).items
    ≡ Char 97 [] ∷ Char 98 [] ∷ Char 99 (bold ∷ []) ∷ Opening AlienInline (whole_head (codes "<!--d-->")) [] [] None false ∷ Closing AlienInline [] ∷ []
unfolding chars begins_with decoded_from
line_read = refl

-- where 100 kinds are open, the comment is one too many: it begins at the byte 5 + 9
line_too_deep : content_limit line 5 (after_letter 100) ≡ Some (TooDeep 14)
unfolding chars begins_with decoded_from
line_too_deep = refl

line_within : content_limit line 5 (after_letter 99) ≡ None
unfolding chars begins_with decoded_from
line_within = refl
