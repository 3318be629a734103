use Rattle.std.proofs.Common.{false, ap, ◌∙◌}
use Rattle.std.specs.Prelude.{chars, flat_map}
use Rattle.std.proofs.lemmas.Str.{chars-nil}
use Rattle.ve_kinds.specs.declared.kind.Kind.TheVariants.{InternalList}
use Rattle.model_page.specs.PageItems.{internal_item}
use Rattle.ve_reader.specs.ReadSoFar.{node_opened, with_opening}
use Rattle.ve_read.specs.Bodies.{no_span, with_items}
use Rattle.ve_read.proofs.BodyLemmas.{list_closed}
use Rattle.ve_read.proofs.bodies.read_bodies.Goals as goal

pub returns-clause-items : goal.returns-clause-items
returns-clause-items c =
    let white = chars c.args.white.now in
    let turned = c.turn_to_bodies-owners.ensures in
    (list_closed c.args.reader.now c.open_internal.new.reader c.read_owners.new.reader c.close.new.self c.empty.result c.in_ok-list.list white _ (flat_map internal_item c.args.reader.now.owners)
    c.empty.ensures chars-nil
    (c.in_ok-list.ensures.ok ∙ ap (with_opening InternalList c.empty.result white false no_span) turned.next)
    (c.in_ok-list.ensures.node ∙ ap (node_opened InternalList) turned.next)
    (c.in_ok-read_owners.ensures.ok ∙ ap (λ owners. with_items (flat_map internal_item owners) c.open_internal.new.reader) turned.owners)
    c.in_ok-close.ensures).0
