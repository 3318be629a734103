use Rattle.std.proofs.Common.{option_map, sym, ap, ◌∙◌, subst}
use Rattle.serde_json.specs.View.{view, members_view}
use Rattle.ve_json.specs.Gives.{Reads}
use Rattle.ve_json.proofs.LineLemmas.{change_of_object}
use Rattle.ve_json.proofs.changes.change_in.Goals as goal

pub returns : goal.returns
returns c =
    subst (Reads c.change_with.result)
    (sym (change_of_object (view c.args.json.now) (members_view c.in-Some.members.now.entries) (ap (option_map (λ m. members_view m.now.entries)) (sym c.in-Some.is) ∙ c.as_object.ensures)))
    c.change_with.ensures
