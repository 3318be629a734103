-- Runs of characters among items that cite values.
use Rattle.std.specs.Prelude.{ℕ, List, [], ◌∷◌, reverse, take, drop}
use Rattle.model_items.specs.declared.item.Item.{Item}
use Rattle.model_items.specs.declared.item.Item.TheVariants.{Char}

-- the characters that items begin with
abbrev pub first_chars : List Item → List ℕ
first_chars (Char ch marks ∷ items) = ch ∷ first_chars items
first_chars _ = []

-- the characters of the run just before an offset, the nearest first
abbrev pub chars_back : List Item → ℕ → List ℕ
chars_back items at = first_chars (reverse (take at items))

-- the characters of the run from an offset on
abbrev pub chars_from : List Item → ℕ → List ℕ
chars_from items at = first_chars (drop at items)
