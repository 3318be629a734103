-- The attributes that operations set at one position.
use Rattle.std.specs.Prelude.{ℕ, Bool, true, false, List, [], ◌∷◌}
use Rattle.model_world.specs.declared.edit_command.OpWords.{OpWords}
use Rattle.model_world.specs.declared.edit_command.OpWords.TheVariants.{Retain, Remove, Attr}

-- the names of the attributes that are set before the first operation of another sort
abbrev pub names_set : List OpWords → List (List ℕ)
names_set [] = []
names_set (Retain count ∷ ops) = []
names_set (Remove count insert ∷ ops) = []
names_set (Attr name to ∷ ops) = name ∷ names_set ops

-- they may follow the setting of an attribute, whatever its name
abbrev pub may_follow_setting : List OpWords → Bool
may_follow_setting [] = false
may_follow_setting (Retain count ∷ ops) = true
may_follow_setting (Remove count insert ∷ ops) = false
may_follow_setting (Attr name to ∷ ops) = true
