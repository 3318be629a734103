-- How the words of a tree are read off its items. A lemma takes them to the model's words of the
-- list's tree.
use Rattle.std.specs.Prelude.{◌≡◌, ℕ, zero, suc, List, [], ◌∷◌, ◌++◌, Option, Some, None}
use Rattle.model_items.specs.declared.item.Item.{Item}
use Rattle.model_items.specs.declared.item.Item.TheVariants.{Char, Opening, Closing}
use Rattle.model_world.specs.declared.shown.TreeWord.{TreeWord}
use Rattle.model_world.specs.declared.shown.TreeWord.TheVariants as tree

-- so many characters, where there are some
abbrev pub run_words : ℕ → List TreeWord
run_words zero = []
run_words (suc count) = tree.Run (suc count) ∷ []

-- the word of a bracket
abbrev pub bracket_word : Item → Option TreeWord
bracket_word (Char ch marks) = None
bracket_word (Opening kind generated head marks pre origin) = Some (tree.Begin kind)
bracket_word (Closing kind pre) = Some tree.End

-- the words of items that stand after so many characters
abbrev pub words_after : ℕ → List Item → List TreeWord
words_after count [] = run_words count
words_after count (Char ch marks ∷ items) = words_after (suc count) items
words_after count (Opening kind generated head marks pre origin ∷ items) = run_words count ++ tree.Begin kind ∷ words_after 0 items
words_after count (Closing kind pre ∷ items) = run_words count ++ tree.End ∷ words_after 0 items

-- Whatever follows the items: where their words were still to come, only what follows is, after so
-- many characters.
abbrev pub GoesOn : (old new : List TreeWord) → (before after : ℕ) → List Item → Type 0
GoesOn old new before after items = (rest : List Item) → new ++ words_after after rest ≡ old ++ words_after before (items ++ rest)
