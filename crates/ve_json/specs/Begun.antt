-- How much of `mw:` a word of a text begins with, one character after the other.
use Rattle.std.specs.Prelude.{ℕ, ◌==◌, Bool, true, false, List, [], ◌∷◌, if◌then◌else◌}
use Rattle.model_page.specs.Elements.{is_white_char}
use Rattle.ve_json.specs.declared.held.Begun.{Begun}
use Rattle.ve_json.specs.declared.held.Begun.TheVariants as begun

abbrev pub next : (ch wanted : ℕ) → Begun → Begun
next ch wanted found = if wanted == ch then found else begun.Other

-- after a character that is no whitespace
abbrev pub after_letter : Begun → ℕ → Begun
after_letter begun.Nothing ch = next ch 109 begun.M
after_letter begun.M ch = next ch 119 begun.Mw
after_letter begun.Mw ch = next ch 58 begun.Whole
after_letter begun.Whole ch = begun.Whole
after_letter begun.Other ch = begun.Other

-- once it was whole, it stays so
abbrev pub after : Begun → ℕ → Begun
after begun.Whole ch = begun.Whole
after so_far ch = if is_white_char ch then begun.Nothing else after_letter so_far ch

abbrev pub after_all : Begun → List ℕ → Begun
after_all so_far [] = so_far
after_all so_far (ch ∷ text) = after_all (after so_far ch) text

abbrev pub is_whole : Begun → Bool
is_whole begun.Whole = true
is_whole _ = false
