use Rattle.std.proofs.Common.{sym, refl, subst}
use Rattle.ve_base.specs.declared.head.Head.{Head}
use Rattle.ve_kinds.specs.declared.kind.Kind.{Kind}
use Rattle.model_items.specs.Plain.{head_in, value_at}
use Rattle.ve_kinds.specs.declared.kind.Kind.TheVariants.{InternalItem, Ref}
use Rattle.ve_internal.specs.declared.notes.Notes.{Notes}
use Rattle.ve_internal.specs.Noted.{NotesOpening}
use Rattle.ve_internal.proofs.NoteLemmas.{opening_keyless, opening_kind, opening_ref, opening_body, cited_within, no_head, cited_is}
use Rattle.ve_internal.proofs.notes.Notes.note_opening.Goals as goal

pub returns-in_default : goal.returns-in_default
returns-in_default c = opening_keyless c.args.self.now c.args.at c.args.kind (head_in (value_at c.args.store.now c.args.head)) (no_head c.args.store.now c.args.head c.in_default.is)

pub get-requires : goal.get-requires
get-requires c = cited_within c.args.store.now c.args.head c.in-Some.id c.requires c.in-Some.is

pub returns-in_default-reference : goal.returns-in_default-reference
returns-in_default-reference c =
    subst (NotesOpening c.args.self.now c.args.self.now c.args.at c.args.kind) (cited_is c.args.store.now c.args.head c.in-Some.id c.get.result.now c.in-Head.head c.in-Some.is c.get.ensures c.in-Head.is)
    (opening_keyless c.args.self.now c.args.at c.args.kind c.in-Head.head c.in_default-reference.is)

pub returns-in_ok-note_reference-in-Ref : goal.returns-in_ok-note_reference-in-Ref
returns-in_ok-note_reference-in-Ref c =
    subst (λ (k : Kind). NotesOpening c.args.self.now c.note_reference.new.self c.args.at k (head_in (value_at c.args.store.now c.args.head))) (sym c.in-Ref.is)
    (subst (λ (h : Head). NotesOpening c.args.self.now c.note_reference.new.self c.args.at Ref h) (cited_is c.args.store.now c.args.head c.in-Some.id c.get.result.now c.in-Head.head c.in-Some.is c.get.ensures c.in-Head.is)
    (opening_ref c.args.self.now c.note_reference.new.self c.args.at c.in-Head.head c.in-Some-reference.key c.in-Some-reference.is c.in_ok-note_reference-in-Ref.ensures))

pub returns-in_ok-note_body-in-InternalItem : goal.returns-in_ok-note_body-in-InternalItem
returns-in_ok-note_body-in-InternalItem c =
    let new : Notes = record c.args.self.now { bodies = c.note_body.new.bodies } in
    subst (λ (k : Kind). NotesOpening c.args.self.now new c.args.at k (head_in (value_at c.args.store.now c.args.head))) (sym c.in-InternalItem.is)
    (subst (λ (h : Head). NotesOpening c.args.self.now new c.args.at InternalItem h) (cited_is c.args.store.now c.args.head c.in-Some.id c.get.result.now c.in-Head.head c.in-Some.is c.get.ensures c.in-Head.is)
    (opening_body c.args.self.now new c.args.at c.in-Head.head c.in-Some-reference.key c.in-Some-reference.is refl refl refl c.in_ok-note_body-in-InternalItem.ensures))

pub returns-in_default-kind : goal.returns-in_default-kind
returns-in_default-kind c =
    subst (NotesOpening c.args.self.now c.args.self.now c.args.at c.args.kind) (cited_is c.args.store.now c.args.head c.in-Some.id c.get.result.now c.in-Head.head c.in-Some.is c.get.ensures c.in-Head.is)
    (opening_kind c.args.self.now c.args.at c.args.kind c.in-Head.head c.in_default-kind.not-Ref c.in_default-kind.not-InternalItem)
