use Rattle.std.proofs.Common.{◌∙◌, ap, Some, option_map}
use Rattle.ve_tree.specs.Links.{Links, number_of}
use Rattle.ve_repair.specs.Relink.{link_set}
use Rattle.ve_repair.proofs.ArenaLemmas.{links_of-parent, links_of-before, links_of-after, labels-parent, labels-before, labels-live}
use Rattle.ve_repair.proofs.linking.set_own.Goals as goal

pub returns-clause-links : goal.returns-clause-links
returns-clause-links g c =
    let one = c.args.arena.now.slots in
    let two = c.set_parent.new.self.slots in
    let three = c.set_before.new.self.slots in
    let live2 = labels-live one two (labels-parent one two c.args.n (Some c.args.parent) c.set_parent.ensures.write) c.args.n.0 c.requires.live in
    let live3 = labels-live two three (labels-before two three c.args.n c.args.left c.set_before.ensures.write) c.args.n.0 live2 in
    links_of-after three c.set_after.new.self.slots c.args.n c.args.right live3 c.set_after.ensures.write
    ∙ ap (λ (a : Links). record a { after = link_set a.after c.args.n.0 (option_map number_of c.args.right) })
    (links_of-before two three c.args.n c.args.left live2 c.set_before.ensures.write
    ∙ ap (λ (a : Links). record a { before = link_set a.before c.args.n.0 (option_map number_of c.args.left) })
    (links_of-parent one two c.args.n (Some c.args.parent) c.requires.live c.set_parent.ensures.write))
