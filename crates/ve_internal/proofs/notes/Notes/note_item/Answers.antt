use Rattle.std.proofs.Common.{sym, subst}
use Rattle.model_items.specs.declared.item.Item.{Item}
use Rattle.model_items.specs.Plain.{plain}
use Rattle.std.proofs.Common.{◌∷◌, []}
use Rattle.ve_internal.specs.Noted.{NotesItems}
use Rattle.ve_internal.proofs.NoteLemmas.{noted_other, other_char, other_closing}
use Rattle.ve_internal.proofs.notes.Notes.note_item.Goals as goal

pub returns-in-Char : goal.returns-in-Char
returns-in-Char c =
    subst (λ (x : Item). NotesItems c.args.self.now c.args.self.now c.args.at (plain c.args.store.now x ∷ [])) (sym c.in-Char.is)
    (λ items e has. noted_other c.args.self.now items _ (other_char _ _) has)

pub returns-in-Closing : goal.returns-in-Closing
returns-in-Closing c =
    subst (λ (x : Item). NotesItems c.args.self.now c.args.self.now c.args.at (plain c.args.store.now x ∷ [])) (sym c.in-Closing.is)
    (λ items e has. noted_other c.args.self.now items _ (other_closing _ _) has)
