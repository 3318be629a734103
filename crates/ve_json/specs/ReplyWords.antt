-- Words with numbers after them.
use Rattle.std.specs.Prelude.{ℕ, List, [], ◌∷◌, ◌++◌}
use Rattle.model_world.specs.Spelled.{with_numbers}
use Rattle.ve_json.specs.declared.reply_words.Numbers.{Numbers}
use Rattle.ve_json.specs.declared.reply_words.Numbers.TheVariants.{NoNumber, One, Two, Four}
use Rattle.ve_json.specs.declared.reply_words.Words.{Words}

abbrev pub number_list : Numbers → List ℕ
number_list NoNumber = []
number_list (One n) = n ∷ []
number_list (Two m n) = m ∷ n ∷ []
number_list (Four k l m n) = k ∷ l ∷ m ∷ n ∷ []

-- a word, the word after it, and numbers, each after a space
abbrev pub words_text : Words → List ℕ
words_text w = w.first.now ++ with_numbers w.second.now (number_list w.numbers)
