use Rattle.std.proofs.Common.{ap, ◌∙◌}
use Rattle.std.specs.Prelude.{codes}
use Rattle.serde_json.specs.View.{members_view}
use Rattle.ve_internal.proofs.Composing.{view-without}
use Rattle.ve_internal.proofs.composed.without_body.Goals as goal

pub returns : goal.returns
returns c = ap members_view c.remove.ensures.entries ∙ view-without (codes "body") c.args.members.entries
