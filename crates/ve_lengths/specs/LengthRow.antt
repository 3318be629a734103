-- The view of lengths.
use Rattle.std.specs.Prelude.{ℕ, List}

pub record LengthRow : Type 0 where
  pub lens : List ℕ
  -- how many lengths there is room for
  pub room : ℕ
