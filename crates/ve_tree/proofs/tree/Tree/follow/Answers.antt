use Rattle.ve_tree.proofs.FollowLemmas.{followed_fit, landmarks_follow}
use Rattle.ve_tree.proofs.tree.Tree.follow.Goals as goal

pub cut-k-requires-clause-fits : goal.cut-k-requires-clause-fits
cut-k-requires-clause-fits c =
    let marks = c.args.self.now.landmarks in
    followed_fit c.args.self.now.arena.slots c.args.self.now.root marks.nodes marks.gaps c.args.from c.args.to c.args.len c.requires.may c.ranges.len.fits

pub thicken-requires-clause-are : goal.thicken-requires-clause-are
thicken-requires-clause-are c =
    landmarks_follow c.args.self.now.arena.slots c.args.self.now.root c.args.self.now.landmarks c.cut-k.new.self c.args.from c.args.to c.args.len c.requires.may c.cut-k.ensures
