-- Laws of the spelling, and of a page that is UTF-8, that the proofs take.
use Rattle.std.specs.Prelude.{◌≡◌, ℕ, ◌≤◌, true, Some, IsUtf8}
use Rattle.model_spelling.specs.Forest.{Forest, spelling, is_forest}
use Rattle.model_spelling.specs.Written.{decoded}
use Rattle.model_spelling.specs.Parsed.{forest_of}
use Rattle.model_page.specs.Parts.{Parts, Ended, Words, Note, Group, Single, Parent}
use Rattle.model_page.specs.Convert.{element_source}

-- a forest's spelling is read as that forest
abbrev pub ReadsBack : Type 0
ReadsBack = (room : ℕ) (f : Forest) → room ≤ 200 → is_forest room f ≡ true → forest_of (spelling f) ≡ Some f

-- each text, decoded, and each source is UTF-8
abbrev pub AllUtf8 : Parts → Type 0
AllUtf8 Ended = Unit {0}
AllUtf8 (Words text later) = IsUtf8 (decoded text) × AllUtf8 later
AllUtf8 (Note text later) = AllUtf8 later
AllUtf8 (Group nodes later) = IsUtf8 (spelling nodes) × AllUtf8 later
AllUtf8 (Single name attrs source later) = IsUtf8 source × AllUtf8 later
AllUtf8 (Parent name attrs children later) = IsUtf8 (element_source name attrs children) × AllUtf8 children × AllUtf8 later
