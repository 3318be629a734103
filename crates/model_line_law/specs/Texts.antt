-- The strings of a line that is read as JSON.
use Rattle.std.specs.Prelude.{◌≡◌, ℕ, List, Some, IsUtf8}
use Rattle.serde_json.specs.Data.{Data}
use Rattle.model_world.specs.Values.{line_json}
use Rattle.model_page_law.specs.Strings.{AllStrings}

-- A line that is not UTF-8 is not read; the strings of one that is are UTF-8.
abbrev pub StringsAreUtf8 : Type 0
StringsAreUtf8 = (line : List ℕ) (d : Data) → line_json line ≡ Some d → AllStrings IsUtf8 d
