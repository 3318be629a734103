-- The tables of words are those of model_world, and lines that have them.
use Rattle.std.proofs.Common.{◌≡◌, ℕ, List, map, codes, refl}
use Rattle.model_world.specs.Commands.{commands}
use Rattle.model_world.specs.Values.{meant_by}
use Rattle.ve_json.specs.CommandWords.{command_words, command_read, request_words}
use Rattle.ve_json.specs.declared.command_words.CommandWord.{CommandWord}
use Rattle.ve_json.specs.declared.command_words.CommandWord.TheVariants as a_command
use Rattle.ve_json.specs.declared.command_words.RequestWord.TheVariants as a_request
use Rattle.ve_json.specs.declared.command_words.ChangeWord.TheVariants as a_change
use Rattle.std.proofs.Common.{Some, None}

-- each command's members are read as there
pub words_are_commands : commands ≡ map (λ (row : List ℕ × CommandWord). (row.0, command_read row.1)) command_words
words_are_commands = refl

a_change_of_a_batch : meant_by request_words (codes "split") ≡ Some (a_request.Change a_change.Split)
a_change_of_a_batch = refl

not_of_a_site : meant_by request_words (codes "open") ≡ None
not_of_a_site = refl

of_all : meant_by command_words (codes "open") ≡ Some a_command.Open
of_all = refl
