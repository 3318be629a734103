use Rattle.std.proofs.Common.{ℕ, Some, List, [], ◌∷◌, subst}
use Rattle.std.specs.Str.{chars}
use Rattle.model_edit.specs.Edits.{Set}
use Rattle.ve_tables.specs.PartWay.{Collects}
use Rattle.ve_tables.proofs.PartWayLemmas.{set_gives}
use Rattle.ve_tables.proofs.spans.set_span.Goals as goal

pub returns : goal.returns
returns c =
    let S = c.args.doc.store.now in
    let items = c.args.doc.list.now.items in
    let name = chars c.args.name.now in
    subst (λ (to : List ℕ). Collects S items (Set c.args.at name (Some to) ∷ []) c.args.edits.now c.set.new.self) c.in_ok-text.ensures
    (set_gives S items c.args.at name c.in_ok-text.text c.args.edits.now c.set.new.self c.in_ok-set.ensures.at c.in_ok-set.ensures.makes)
