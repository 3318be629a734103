use Rattle.std.proofs.Common.{◌||◌, ◌&&◌, sym, ap, ◌∙◌}
use Rattle.model_change.specs.Attributes.{adds_or_removes}
use Rattle.ve_rebase.specs.Places.{change_of}
use Rattle.ve_rebase.proofs.places.clashes.Goals as goal

pub returns-then-moves : goal.returns-then-moves
returns-then-moves c =
    let change = change_of c.args.other.now c.args.from.now c.args.to.now in
    c.adds_or_removes.ensures c.args.other.now
    ∙ sym (ap (λ b. b || (c.args.moves && adds_or_removes change)) (sym c.same_text.ensures ∙ c.if-same_text.false) ∙ ap (λ m. m && adds_or_removes change) c.if-moves.true)
