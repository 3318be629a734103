-- Worked carets and selections, beside those of model_edit.
use Rattle.std.proofs.Common.{◌≡◌, List, [], ◌∷◌, ◌++◌, Some, refl}
use Rattle.std.specs.Prelude.{codes}
use Rattle.ve_kinds.specs.declared.kind.Kind.TheVariants.{P}
use Rattle.model_items.specs.declared.plain_item.PlainItem.{PlainItem}
use Rattle.model_change.specs.Transaction.{Retain, Replace, Transaction}
use Rattle.unicode_segmentation.proofs.Computing.{unicode_segmentation}
use Rattle.model_edit.specs.declared.selection.By.TheVariants.{Word}
use Rattle.model_edit.specs.declared.selection.Dir.TheVariants.{Ahead}
use Rattle.model_edit.specs.Translate.{translate_range, between}
use Rattle.model_edit.specs.Next.{next}
use Rattle.model_items.proofs.ExampleItems.{text, node, internal}

abbrev typed : Transaction
typed = Retain 2 ∷ Replace [] (text (codes "XY")) ∷ Retain 4 ∷ []

-- a caret that goes along with what is inserted at it
carets_stay_before_an_insertion : translate_range typed (between 2 2) ≡ between 2 2
carets_stay_before_an_insertion = refl

-- a selection that takes in what is inserted at its ends
insertions_at_the_ends_are_not_selected : translate_range typed (between 2 3) ≡ between 4 5
insertions_at_the_ends_are_not_selected = refl

insertions_at_the_end_are_not_selected : translate_range typed (between 1 2) ≡ between 1 2
insertions_at_the_end_are_not_selected = refl

-- a word of letters that take two bytes each, counted in bytes
abbrev accented : List PlainItem
accented = node P (text (0xE9 ∷ 0xE9 ∷ codes " a")) ++ internal

words_count_characters : next accented 1 Ahead Word ≡ Some 3
unfolding unicode_segmentation
words_count_characters = refl
