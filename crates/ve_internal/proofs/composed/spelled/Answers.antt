use Rattle.std.proofs.Common.{◌≡◌, string_bytes, ap, ◌∙◌}
use Rattle.std.specs.Prelude.{encode_utf8_all}
use Rattle.std.proofs.lemmas.Str.{encodes-chars, IsUtf8-string_bytes}
use Rattle.serde_json.specs.Data.{object}
use Rattle.serde_json.specs.View.{view, members_view}
use Rattle.serde_json.specs.Written.{compact_text, has_float}
use Rattle.serde_json.specs.declared.value.Value.TheVariants as value
use Rattle.serde_json.proofs.Views.{view-Object}
use Rattle.ve_internal.proofs.composed.spelled.Goals as goal

pub returns-clause-bytes : goal.returns-clause-bytes
returns-clause-bytes c =
    let s = c.in_ok-to_string.field-0 in
    let is : view (value.Object c.args.members) ≡ object (members_view c.args.members.entries) = view-Object c.args.members in
    ap encode_utf8_all c.from_string.ensures
    ∙ encodes-chars (string_bytes s) (IsUtf8-string_bytes s)
    ∙ c.in_ok-to_string.ensures.text (ap has_float is ∙ c.requires)
    ∙ ap compact_text is
