-- Decoding keeps UTF-8, each node of a UTF-8 text is UTF-8, and the body lies in the page.
use Rattle.std.specs.Prelude.{◌≡◌, ℕ, true, false, List, ◌++◌, IsUtf8}
use Rattle.model_spelling.specs.Grammar.{Comment, token_text, start_text, end_text}
use Rattle.model_spelling.specs.Forest.{Forest, Nothing, Text, Remark, Void, RawElement, Element, spelling, is_forest}
use Rattle.model_spelling.specs.Written.{decoded}

abbrev pub DecodesUtf8 : Type 0
DecodesUtf8 = (text : List ℕ) → IsUtf8 text → IsUtf8 (decoded text)

-- each text, and the source of each other node, is UTF-8
abbrev pub NodesUtf8 : Forest → Type 0
NodesUtf8 Nothing = Unit {0}
NodesUtf8 (Text text rest) = IsUtf8 text × NodesUtf8 rest
NodesUtf8 (Remark text rest) = IsUtf8 (token_text (Comment text)) × NodesUtf8 rest
NodesUtf8 (Void name attrs slash rest) = IsUtf8 (start_text name attrs slash) × NodesUtf8 rest
NodesUtf8 (RawElement name attrs text rest) = IsUtf8 (start_text name attrs false ++ text ++ end_text name) × NodesUtf8 rest
NodesUtf8 (Element name attrs children rest) =
    IsUtf8 (start_text name attrs false ++ spelling children ++ end_text name) × NodesUtf8 children × NodesUtf8 rest

abbrev pub ForestUtf8 : Type 0
ForestUtf8 = (room : ℕ) (f : Forest) → is_forest room f ≡ true → IsUtf8 (spelling f) → NodesUtf8 f
