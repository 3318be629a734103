use Rattle.std.proofs.Common.{subst}
use Rattle.model_items.specs.Plain.{CitesWell}
use Rattle.ve_store.specs.Following.{together}
use Rattle.ve_edits.proofs.CopyLemmas.{marks_filled, white_filled}
use Rattle.ve_edits.proofs.copies.copy_of.Goals as goal

pub returns-in-Char-clause-values : goal.returns-in-Char-clause-values
returns-in-Char-clause-values c =
    let values = together c.args.store.now c.args.new.now in
    marks_filled values c.in-Char.marks (subst (CitesWell values) c.in-Char.is c.requires.cites)

pub returns-in-Closing-clause-values : goal.returns-in-Closing-clause-values
returns-in-Closing-clause-values c =
    let values = together c.args.store.now c.args.new.now in
    white_filled values c.in-Closing.pre (subst (CitesWell values) c.in-Closing.is c.requires.cites)
