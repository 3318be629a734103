use Rattle.std.proofs.Common.{take, ap, ◌∙◌}
use Rattle.std.proofs.lemmas.List.{drop-take}
use Rattle.std.specs.Prelude.{drop}
use Rattle.ve_items.proofs.places.Places.truncate.Goals as goal

pub returns-then-len : goal.returns-then-len
returns-then-len c =
    ap (λ l. drop c.self.inside.first l) c.truncate.ensures.items
    ∙ drop-take c.self.inside.first c.args.len c.self.inside.places.items
    ∙ ap (λ l. take c.args.len l) c.self.view_is
