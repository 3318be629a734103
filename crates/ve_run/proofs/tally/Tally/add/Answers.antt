use Rattle.std.proofs.Common.{◌+◌, ◌∙◌, ap, if◌then◌else◌}
use Rattle.std.specs.List.{concat}
use Rattle.ve_run.proofs.Soaks.{tally_added}
use Rattle.ve_run.proofs.tally.Tally.add.Goals as goal

pub returns : goal.returns
returns c answers h =
    let old = c.args.self.now in
    tally_added old _ answers c.args.reply.now h c.counted-self.ensures
    (c.counted-self-2.ensures ∙ ap (λ b. old.accepted + (if b then 1 else 0)) c.begins.ensures)
    (c.counted-self-3.ensures ∙ ap (λ b. old.refused + (if b then 1 else 0)) c.begins-2.ensures)
    (c.update.ensures (concat answers) h.hashed)
