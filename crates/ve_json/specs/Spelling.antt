-- A text that is being spelled.
use Rattle.std.specs.Prelude.{ℕ, List}

-- the former content of the buffer, and the text after it so far, both as bytes
pub record Spelled : Type 0 where
  pub before : List ℕ
  pub text : List ℕ
