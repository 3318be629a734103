-- Scripts with their replies, for worked examples: what is written for the lines of a script are
-- the replies that stand beside them.
use Rattle.std.specs.Prelude.{◌≡◌, ℕ, zero, suc, List, [], ◌∷◌, ◌++◌, codes}
use Rattle.serde_json.specs.Data.{string}
use Rattle.serde_json.specs.Written.{compact_text}
use Rattle.model_world.specs.World.{Closed, output_of}

-- each line with its reply
abbrev pub Lines : Type 0
Lines = List (List ℕ × List ℕ)

abbrev pub script_of : Lines → List ℕ
script_of [] = []
script_of ((line, reply) ∷ lines) = line ++ 10 ∷ script_of lines

abbrev pub replies_of : Lines → List ℕ
replies_of [] = []
replies_of ((line, reply) ∷ lines) = reply ++ 10 ∷ replies_of lines

-- to a world without a page
abbrev pub Answered : Lines → Type 0
Answered lines = output_of Closed (script_of lines) ≡ replies_of lines

-- the line that opens a page
abbrev pub opening : List ℕ → List ℕ
opening page = codes "{\"do\":\"open\",\"page\":" ++ compact_text (string page) ++ codes "}"

-- a text so many times
abbrev pub times : ℕ → List ℕ → List ℕ
times zero text = []
times (suc n) text = text ++ times n text
