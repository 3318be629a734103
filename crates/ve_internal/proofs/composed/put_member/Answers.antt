use Rattle.std.proofs.Common.{string_bytes, option_map, ap, ◌∙◌}
use Rattle.serde_json.specs.Data.{put}
use Rattle.serde_json.specs.Find.{get_member}
use Rattle.serde_json.specs.View.{view, members_view}
use Rattle.serde_json.proofs.Views.{view-lookup, members_view-insert_entry}
use Rattle.ve_internal.proofs.composed.put_member.Goals as goal

pub returns-clause-before : goal.returns-clause-before
returns-clause-before c =
    let old = c.args.members.now.entries in
    ap (option_map view) c.in_ok-insert.ensures.old
    ∙ (view-lookup (string_bytes c.in_ok-name.name) old ∙ ap (λ n. get_member n (members_view old)) c.in_ok-name.ensures.ok)

pub returns-clause-put : goal.returns-clause-put
returns-clause-put c =
    let old = c.args.members.now.entries in
    ap members_view c.in_ok-insert.ensures.entries
    ∙ (members_view-insert_entry old c.in_ok-name.name c.args.value ∙ ap (λ n. put n (view c.args.value) (members_view old)) c.in_ok-name.ensures.ok)
