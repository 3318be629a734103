-- The nodes of the top level of a source.
use Rattle.std.specs.Prelude.{Bool, false}
use Rattle.model_spelling.specs.Grammar.{Token, Start, End, Chars, Raw, Comment}
use Rattle.model_page.specs.Elements.{is_white}
use Rattle.model_page.specs.Tags.{is_inline_tag}

-- a node that begins with the token is an inline element, or whitespace
abbrev pub is_inline_token : Token → Bool
is_inline_token (Start name attrs slash) = is_inline_tag name
is_inline_token (Chars text) = is_white text
is_inline_token _ = false
