-- The command whose words the program takes, as `clap`'s rules read it.
use Rattle.std.specs.Prelude.{◌≡◌, ℕ, List, [], ◌∷◌, Some, true, codes}
use Rattle.std.specs.Borrow.{Bor}
use Rattle.clap.specs.Walk.{Rule, Text, texts}
use Rattle.clap.specs.Lexer.{usize_max}
use Rattle.clap.specs.Simple.{App, new_app, new_rule, on_top, with_rule}
use Rattle.clap.specs.declared.builder.value_parser.ValueParser.TheVariants as parser

-- names, as a parser of values lends them
abbrev pub Names : Type 0
Names = Bor (List (Bor Text))

-- the names are those of the modes
abbrev pub IsNames : Names → Type 0
IsNames names = texts names.now ≡ codes "run" ∷ codes "make" ∷ codes "soak" ∷ []

-- a value that is borrowed; where it stands decides nothing
abbrev pub lent : {X : Type 0} → X → Bor X
lent x = record { ref_ptr = (0, 0); now = x }

abbrev pub mode_names : Names
mode_names = lent (lent (codes "run") ∷ lent (codes "make") ∷ lent (codes "soak") ∷ [])

-- one word of these names, which has to be given
abbrev pub mode_rule : Names → Rule
mode_rule names = record (new_rule (codes "mode")) { parser = Some (parser.Names names); required = true }

-- an option of this name, with a number of at most `most`, or the default
abbrev pub number_rule : Text → ℕ → Text → Rule
number_rule name most default = record (new_rule name) {
  long = Some name;
  parser = Some (parser.Unsigned 0 most);
  defaults = default ∷ [];
}

-- the least number that `--start` doesn't take is 2^64
abbrev pub max_start : ℕ
max_start = usize_max

abbrev pub max_edits : ℕ
max_edits = 100000

abbrev pub start_rule : Rule
start_rule = number_rule (codes "start") max_start (codes "0")

abbrev pub edits_rule : Rule
edits_rule = number_rule (codes "edits") max_edits (codes "100")

-- the words of the command begin with none that names the program
abbrev pub bare : App
bare = on_top (λ s. record s { no_binary_name = true }) (new_app (codes "vemodel"))

-- the command, with names of modes that are borrowed from somewhere
abbrev pub vemodel : Names → App
vemodel names = with_rule (with_rule (with_rule bare (mode_rule names)) start_rule) edits_rule

-- the command is this one, wherever its names are borrowed from
abbrev pub IsVemodel : App → Type 0
IsVemodel app = (names : Names) × IsNames names × (app ≡ vemodel names)
