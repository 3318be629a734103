-- The command of a line, by the words of commands.
use Rattle.std.proofs.Common.{◌≡◌, ℕ, List, map, Option, Some, None, option_map, option_and_then, Result, Ok, Err, refl, sym, ap, ◌∙◌}
use Rattle.serde_json.specs.Data.{Data, null, boolean, number, string, array, object, Members}
use Rattle.serde_json.specs.Find.{as_object, as_str, get_member}
use Rattle.model_world.specs.declared.command.Command.{Command}
use Rattle.model_world.specs.declared.refusal.Refusal.{Refusal}
use Rattle.model_world.specs.Commands as model
use Rattle.model_world.specs.Commands.{commands, or_bad_command, read_by}
use Rattle.model_world.specs.Changes.{changes, change_in, change_with, if_well_formed}
use Rattle.model_world.specs.declared.edit_command.EditCommand.{EditCommand}
use Rattle.ve_json.specs.declared.command_words.ChangeWord.{ChangeWord}
use Rattle.model_world.specs.Members.{Reader}
use Rattle.model_world.specs.Names.{field_name}
use Rattle.model_world.specs.declared.field.Field.TheVariants as field
use Rattle.model_world.specs.Values.{line_json, meant_by, word_in}
use Rattle.ve_json.specs.declared.command_words.CommandWord.{CommandWord}
use Rattle.ve_json.specs.CommandWords.{asked_in, change_by_word, change_read, change_words, command_read, command_with, command_words, read_or_bad}
use Rattle.std.specs.Result.{IsErrAnd, IsErrOf}
use Rattle.ve_json.specs.declared.fault.BadMember.{BadMember}
use Rattle.ve_json.specs.declared.fault.BadMember.TheVariants.{Named, Memory}
use Rattle.ve_json.specs.declared.fault.CommandFault.{CommandFault}
use Rattle.ve_json.specs.declared.fault.CommandFault.TheVariants as fault
use Rattle.ve_json.specs.Gives.{IsBad, refusal_of}
use Rattle.ve_json.proofs.CommandExamples.{words_are_commands}
use Rattle.ve_json.proofs.WordLemmas.{meant_by-map}

read_of : (members : Members) (o : Option CommandWord) → read_by (option_map command_read o) members ≡ or_bad_command (read_or_bad o members)
read_of members None = refl
read_of members (Some word) = refl

by_text : (rows : List (List ℕ × CommandWord)) (members : Members) (o : Option (List ℕ)) →
    read_by (option_and_then (meant_by (map (λ (row : List ℕ × CommandWord). (row.0, command_read row.1)) rows)) o) members
    ≡ or_bad_command (read_or_bad (option_and_then (meant_by rows) o) members)
by_text rows members None = refl
by_text rows members (Some text) = ap (λ o. read_by o members) (meant_by-map command_read rows text) ∙ read_of members (meant_by rows text)

by_member : (rows : List (List ℕ × CommandWord)) (members : Members) (o : Option Data) →
    read_by (option_and_then (word_in (map (λ (row : List ℕ × CommandWord). (row.0, command_read row.1)) rows)) o) members
    ≡ or_bad_command (read_or_bad (option_and_then (word_in rows) o) members)
by_member rows members None = refl
by_member rows members (Some json) = by_text rows members (as_str json)

of_members : (members : Members) → model.command_in (object members) ≡ or_bad_command (command_with members)
of_members members =
    ap (λ (table : List (List ℕ × Reader Command)). read_by (option_and_then (word_in table) (get_member (field_name field.Do) members)) members) words_are_commands
    ∙ by_member command_words members (get_member (field_name field.Do) members)

of_json : (json : Data) → model.command_in json ≡ or_bad_command (asked_in json)
of_json null = refl
of_json (boolean b) = refl
of_json (number n) = refl
of_json (string s) = refl
of_json (array items) = refl
of_json (object members) = of_members members

-- a line that is JSON asks what the value asks
pub asked_of : (line : List ℕ) (json : Data) → Some json ≡ line_json line → model.command line ≡ or_bad_command (asked_in json)
asked_of line json e = ap model.command_or_refusal (sym e) ∙ of_json json

-- a bad member is why the line is refused
pub bad_asked : (line : List ℕ) (json : Data) (w : BadMember) (why : Refusal) (r : Result Command CommandFault) → Some json ≡ line_json line → IsBad w (asked_in json) →
    IsErrAnd r (λ e. e ≡ refusal_of w) → IsErrOf r (fault.Refused why) → model.command line ≡ Err why
bad_asked line json w why (Ok asked) e bad given h = absurd given
bad_asked line json (Named field) why (Err f) e bad given h = asked_of line json e ∙ ap or_bad_command bad ∙ ap (λ r. Err r) (cc (given, h))
bad_asked line json Memory why (Err f) e bad given h = absurd (cc (given, h))

-- ---- changes

change_words_are_changes : changes ≡ map (λ (row : List ℕ × ChangeWord). (row.0, change_read row.1)) change_words
change_words_are_changes = refl

change_of : (members : Members) (o : Option ChangeWord) →
    option_and_then (λ (read : Reader EditCommand). if_well_formed (read members)) (option_map change_read o) ≡ option_and_then (λ word. if_well_formed (change_read word members)) o
change_of members None = refl
change_of members (Some word) = refl

change_text : (rows : List (List ℕ × ChangeWord)) (members : Members) (o : Option (List ℕ)) →
    option_and_then (λ (read : Reader EditCommand). if_well_formed (read members)) (option_and_then (meant_by (map (λ (row : List ℕ × ChangeWord). (row.0, change_read row.1)) rows)) o)
    ≡ option_and_then (λ word. if_well_formed (change_read word members)) (option_and_then (meant_by rows) o)
change_text rows members None = refl
change_text rows members (Some text) = ap (option_and_then (λ (read : Reader EditCommand). if_well_formed (read members))) (meant_by-map change_read rows text) ∙ change_of members (meant_by rows text)

change_member : (rows : List (List ℕ × ChangeWord)) (members : Members) (o : Option Data) →
    option_and_then (λ (read : Reader EditCommand). if_well_formed (read members)) (option_and_then (word_in (map (λ (row : List ℕ × ChangeWord). (row.0, change_read row.1)) rows)) o)
    ≡ option_and_then (λ word. if_well_formed (change_read word members)) (option_and_then (word_in rows) o)
change_member rows members None = refl
change_member rows members (Some json) = change_text rows members (as_str json)

change_of_members : (members : Members) → change_with members ≡ change_by_word members
change_of_members members =
    ap (λ (table : List (List ℕ × Reader EditCommand)). option_and_then (λ (read : Reader EditCommand). if_well_formed (read members)) (option_and_then (word_in table) (get_member (field_name field.Do) members))) change_words_are_changes
    ∙ change_member change_words members (get_member (field_name field.Do) members)

-- the change of an object is that of its members
pub change_of_object : (json : Data) (members : Members) → Some members ≡ as_object json → change_in json ≡ change_by_word members
change_of_object json members e = ap (option_and_then change_with) (sym e) ∙ change_of_members members
