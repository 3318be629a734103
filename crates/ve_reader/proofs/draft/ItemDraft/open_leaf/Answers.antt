use Rattle.std.proofs.Common.{ap, ◌∙◌, subst}
use Rattle.ve_reader.specs.Holding.{More, Knows}
use Rattle.ve_reader.specs.Drafted.{Drafted, with_item, leaf_of}
use Rattle.ve_reader.proofs.ExtendLemmas.{items_more, holds_more}
use Rattle.ve_reader.proofs.draft.ItemDraft.open_leaf.Goals as goal

pub invariant_of-self : goal.invariant_of-self
invariant_of-self c =
    holds_more c.self.inside.values c.put_leaf.new.values c.self.inside.items c.put_leaf.new.items (leaf_of c.args.opening c.self.inside.marks.items) (subst (λ l. More c.self.inside.values c.put_leaf.new.values c.self.inside.items c.put_leaf.new.items (leaf_of c.args.opening l)) c.deref.ensures.value c.in-Ok.ensures.ok) c.self.inside.marks.items c.self.inside.known c.in-Ok.known c.self.invariant
    (subst (λ l. Knows c.put_leaf.new.values l c.in-Ok.known) c.deref.ensures.value c.in-Ok.ensures.knows)

pub returns-in-Ok-clause-ok : goal.returns-in-Ok-clause-ok
returns-in-Ok-clause-ok c =
    ap (λ l. record { items = l; marks = c.self.inside.marks.items }) (items_more c.self.inside.values c.put_leaf.new.values c.self.inside.items c.put_leaf.new.items (leaf_of c.args.opening c.self.inside.marks.items) (subst (λ l. More c.self.inside.values c.put_leaf.new.values c.self.inside.items c.put_leaf.new.items (leaf_of c.args.opening l)) c.deref.ensures.value c.in-Ok.ensures.ok) c.self.invariant.cites)
    ∙ ap (λ (d : Drafted). with_item (leaf_of c.args.opening d.marks) d) c.self.view_is
