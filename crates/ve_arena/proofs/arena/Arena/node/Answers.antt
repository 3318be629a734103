use Rattle.std.proofs.Common.{◌≡◌, Some, ap, sym, ◌∙◌}
use Rattle.ve_arena.specs.Arena.{ArenaView, slot_at}
use Rattle.ve_arena.specs.Slots.{node_in}
use Rattle.ve_arena.proofs.SlotLemmas.{live_in, no_node, shows, there}
use Rattle.ve_arena.proofs.arena.Arena.node.Goals as goal

pub index-requires : goal.index-requires
index-requires c =
    there _ (live_in c.self.inside.slots.slots c.args.self.now c.args.n.0 (ap (λ (v : ArenaView). v.slots) c.self.view_is) c.requires)

pub unreachable-requires : goal.unreachable-requires
unreachable-requires c =
    let live = live_in c.self.inside.slots.slots c.args.self.now c.args.n.0 (ap (λ (v : ArenaView). v.slots) c.self.view_is) c.requires in
    no_node _ c.index.result.now live c.index.ensures c.in-None.is

pub returns : goal.returns
returns c =
    ap (λ (v : ArenaView). slot_at v.slots c.args.n.0) (sym c.self.view_is)
    ∙ shows c.self.inside.slots.slots c.args.n.0
    ∙ ap node_in c.index.ensures
    ∙ c.in-Some.is
