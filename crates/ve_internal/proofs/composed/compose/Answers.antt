use Rattle.std.proofs.Common.{option_map, ap, ◌∙◌}
use Rattle.serde_json.specs.Written.{members_have_float}
use Rattle.ve_internal.proofs.Composing.{float-with_body}
use Rattle.ve_internal.proofs.composed.compose.Goals as goal

pub spelled-requires : goal.spelled-requires
spelled-requires c =
    ap members_have_float c.in_ok-members-2.ensures
    ∙ float-with_body (option_map (λ b. b.now) c.args.body) _ c.in_ok-members.ensures.whole
