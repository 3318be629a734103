use Rattle.std.proofs.Common.{◌≡◌, Option, Some, None, Bor, option_map, ap, ◌∙◌, refl}
use Rattle.std.specs.Option.{option_copied}
use Rattle.serde_json.specs.View.{view}
use Rattle.serde_json.specs.declared.value.Value.{Value}
use Rattle.serde_json.proofs.Views.{view-lookup}
use Rattle.ve_json.proofs.values.member.Goals as goal

lent_view : (r : Option (Bor Value)) → option_map (λ (v : Bor Value). view v.now) r ≡ option_map view (option_copied r)
lent_view None = refl
lent_view (Some v) = refl

pub returns : goal.returns
returns c = lent_view c.get.result ∙ ap (option_map view) c.get.ensures.value ∙ view-lookup c.args.name.now c.args.members.now.entries
