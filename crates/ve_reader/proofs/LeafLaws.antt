-- Leaves, marks and heads as the model's conversion has them.
use Rattle.std.proofs.Common.{refl, ap, append-nil, ◌∷◌, []}
use Rattle.std.specs.Prelude.{List, ℕ, None, false}
use Rattle.model_items.specs.declared.plain_item.PlainItem.TheVariants.{Opening, Closing}
use Rattle.ve_reader.specs.Leaves.{LeavesArePieces, LeavesAreNumbered, MarksAreAround, HeadsAreReferences}

pub leaves_are_pieces : LeavesArePieces
leaves_are_pieces = λ kind head marks span white.
    ap (λ (l : List ℕ). Opening kind head marks l None false ∷ Closing kind [] ∷ []) (append-nil white)

pub leaves_are_numbered : LeavesAreNumbered
leaves_are_numbered = λ kind head marks white k. refl

pub marks_are_around : MarksAreAround
marks_are_around = λ around name attrs. refl

pub heads_are_references : HeadsAreReferences
heads_are_references = λ place name attrs children reading. refl
