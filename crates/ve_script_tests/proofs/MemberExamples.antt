-- Worked members of commands and parts of replies, beside the scripts of model_world: each tells a
-- call from one that is wrong in the way that is said above it.
use Rattle.std.proofs.Common.{◌≡◌, true, false, List, [], ◌∷◌, length, replicate, refl}
use Rattle.std.specs.Prelude.{codes, nat_le}
use Rattle.ve_base.specs.Limits.{max_marks}
use Rattle.ve_base.specs.declared.marks.Mark.{Mark}
use Rattle.ve_kinds.specs.declared.kind.Kind.TheVariants.{AlienBlock, AlienInline, TransBlock}
use Rattle.model_world.specs.declared.edit_command.EditCommand.{EditCommand}
use Rattle.model_world.specs.declared.edit_command.EditCommand.TheVariants.{Split}
use Rattle.model_world.specs.Commands.{is_batch}
use Rattle.model_world.specs.ItemWords.{may_open}
use Rattle.model_world.specs.Names.{kind_name}

abbrev bold : Mark
bold = record { tag = codes "b"; attrs = [] }

-- a leaf among blocks that has marks
blocks_have_no_marks : may_open AlienBlock (bold ∷ []) [] ≡ false
blocks_have_no_marks = refl

leaves_in_content_have_marks : may_open AlienInline (bold ∷ []) [] ≡ true
leaves_in_content_have_marks = refl

-- one mark more than an item may have
sixty_five_marks_are_too_many : nat_le (length (replicate 65 bold)) max_marks ≡ false
sixty_five_marks_are_too_many = refl

sixty_four_marks_are_enough : nat_le (length (replicate 64 bold)) max_marks ≡ true
sixty_four_marks_are_enough = refl

-- one change more than a batch may hold
a_batch_of_one_more_is_none : is_batch (replicate 1001 (Split 1 1)) ≡ false
a_batch_of_one_more_is_none = refl

a_batch_holds_a_thousand : is_batch (replicate 1000 (Split 1 1)) ≡ true
a_batch_holds_a_thousand = refl

-- a kind under the name of another
kinds_have_names_of_their_own : kind_name TransBlock ≡ codes "trans_block"
kinds_have_names_of_their_own = refl
