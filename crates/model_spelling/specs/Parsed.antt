-- The forest that spells a text, where one does.
use Rattle.std.specs.Prelude.{ℕ, List, [], ◌∷◌, drop, Option, Some, None, if◌then◌else◌}
use Rattle.model_spelling.specs.Grammar.{Token, Start, End, Chars, Raw, Comment}
use Rattle.ve_kinds.specs.Tags.{is_void, is_raw}
use Rattle.model_spelling.specs.Tokens.{Placed, tokens_of}
use Rattle.model_spelling.specs.Forest.{Forest, Nothing, Text, Remark, Void, RawElement, Element}
use Rattle.model_spelling.specs.Faults.{fault_of}

-- The reading of the tokens of a text's end. First come the raw text and the siblings that they
-- begin with; then, from the inside out, the siblings that follow each element which they close.
pub record Ending : Type 0 where
  pub raw : List ℕ
  pub here : Forest
  pub outer : List Forest

abbrev pub first_forest : List Forest → Forest
first_forest [] = Nothing
first_forest (f ∷ outer) = f

abbrev pub with_start : List ℕ → (Forest → Forest) → (Forest → Forest) → Ending → Ending
with_start name void element e =
    if is_void name
    then record { raw = []; here = void e.here; outer = e.outer }
    else record { raw = []; here = element (first_forest e.outer); outer = drop 1 e.outer }

abbrev pub with_token : Token → Ending → Ending
with_token (Start name attrs slash) e =
    with_start name (Void name attrs slash)
    (if is_raw name then RawElement name attrs e.raw else Element name attrs e.here) e
with_token (End name) e = record { raw = []; here = Nothing; outer = e.here ∷ e.outer }
with_token (Chars text) e = record { raw = []; here = Text text e.here; outer = e.outer }
with_token (Raw text) e = record { raw = text; here = e.here; outer = e.outer }
with_token (Comment text) e = record { raw = []; here = Remark text e.here; outer = e.outer }

abbrev pub ending : List Placed → Ending
ending [] = record { raw = []; here = Nothing; outer = [] }
ending (t ∷ ts) = with_token t.token (ending ts)

-- The forest of a text without a fault. The laws say that it is the only one that spells the text.
abbrev pub forest_of : List ℕ → Option Forest
forest_of text = elim (fault_of text) [
  | Some f ↦ None
  | None ↦ Some ((ending ((tokens_of text).tokens)).here)
]
