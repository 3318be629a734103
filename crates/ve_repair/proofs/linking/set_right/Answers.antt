use Rattle.std.proofs.Common.{◌∙◌, sym, ap, subst, IfSome, option_map}
use Rattle.ve_arena.specs.Arena.{IsLive}
use Rattle.ve_tree.specs.Links.{links_of, number_of}
use Rattle.ve_repair.specs.Relink.{set_right}
use Rattle.ve_repair.proofs.ArenaLemmas.{links_of-after, links_of-first}
use Rattle.ve_repair.proofs.linking.set_right.Goals as goal

pub returns-in-Some-clause-links : goal.returns-in-Some-clause-links
returns-in-Some-clause-links g c =
    links_of-after c.args.arena.now.slots c.set_after.new.self.slots c.in-Some.left c.args.to
    (subst (λ o. IfSome o (λ m. IsLive c.args.arena.now.slots m)) c.in-Some.is c.requires.left_live) c.set_after.ensures.write
    ∙ ap (λ o. set_right c.args.parent.0 (option_map number_of o) (option_map number_of c.args.to) (links_of c.args.arena.now.slots)) (sym c.in-Some.is)

pub returns-in-None-clause-links : goal.returns-in-None-clause-links
returns-in-None-clause-links g c =
    links_of-first c.args.arena.now.slots c.set_first.new.self.slots c.args.parent c.args.to c.requires.live c.set_first.ensures.write
    ∙ ap (λ o. set_right c.args.parent.0 (option_map number_of o) (option_map number_of c.args.to) (links_of c.args.arena.now.slots)) (sym c.in-None.is)
