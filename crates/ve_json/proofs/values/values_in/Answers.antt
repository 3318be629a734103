use Rattle.std.proofs.Common.{Some, map, option_map, sym, ap, ◌∙◌}
use Rattle.serde_json.specs.Find.{as_array}
use Rattle.serde_json.specs.View.{view}
use Rattle.serde_json.proofs.Views.{view-Array}
use Rattle.model_world.specs.Values.{json_values}
use Rattle.ve_json.proofs.ListLemmas.{listed_values}
use Rattle.ve_json.proofs.values.values_in.Goals as goal

pub returns-in-Array : goal.returns-in-Array
returns-in-Array c =
    ap (λ l. Some (map view l)) c.as_slice.ensures.value ∙ ap (λ l. Some l) (sym (listed_values c.in-Array.list.items))
    ∙ sym (ap (λ j. option_map json_values (as_array j)) (ap view c.in-Array.is ∙ view-Array c.in-Array.list))
