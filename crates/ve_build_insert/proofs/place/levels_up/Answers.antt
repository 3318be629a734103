use Rattle.std.proofs.Common.{◌≡◌, Some, sym, ap, ◌∙◌, arith}
use Rattle.std.proofs.lemmas.List.{drop_all}
use Rattle.model_items.specs.Plain.{plain_list}
use Rattle.ve_build_insert.specs.Placed.{framed}
use Rattle.ve_build_insert.proofs.PlaceLemmas.{further_none, level_holds, level_internal, level_further, root_holds, root_fails}
use Rattle.ve_build_insert.proofs.place.levels_up.Goals as goal

pub loop-level-init : goal.loop-level-init
loop-level-init c = λ values. further_none _

pub returns-then-may_hold_pieces-clause-means : goal.returns-then-may_hold_pieces-clause-means
returns-then-may_hold_pieces-clause-means c = λ values.
    let p = framed c.args.paragraph (plain_list values c.args.pieces.now) in
    sym (c.loop-level.invariant values
    ∙ level_holds p c.args.state.now.stack c.loop-level.level c.kind-kind.result c.kind-kind.ensures (sym (c.may_hold_pieces.ensures values) ∙ c.if-may_hold_pieces.true))

pub returns-then-is_internal-clause-means : goal.returns-then-is_internal-clause-means
returns-then-is_internal-clause-means c = λ values.
    let p = framed c.args.paragraph (plain_list values c.args.pieces.now) in
    sym (c.loop-level.invariant values
    ∙ level_internal p c.args.state.now.stack c.loop-level.level c.kind-kind.result c.kind-kind.ensures (sym (c.may_hold_pieces.ensures values) ∙ c.if-may_hold_pieces.false)
    (sym c.is_internal.ensures ∙ c.if-is_internal.true))

pub loop-level-preserved : goal.loop-level-preserved
loop-level-preserved c = λ values.
    let p = framed c.args.paragraph (plain_list values c.args.pieces.now) in
    c.loop-level.invariant values
    ∙ level_further p c.args.state.now.stack c.loop-level.level c.kind-kind.result c.kind-kind.ensures (sym (c.may_hold_pieces.ensures values) ∙ c.if-may_hold_pieces.false)
    (sym c.is_internal.ensures ∙ c.if-is_internal.false)

pub returns-then-may_hold_pieces-2-clause-means : goal.returns-then-may_hold_pieces-2-clause-means
returns-then-may_hold_pieces-2-clause-means c = λ values.
    let p = framed c.args.paragraph (plain_list values c.args.pieces.now) in
    let stack = c.args.state.now.stack in
    let level = c.loop-level.level in
    let none = drop_all level stack (omega (arith, c.depth-depth.ensures.depth)) in
    let all : c.depth-depth.result ≡ level = omega arith in
    ap Some all ∙ sym (c.loop-level.invariant values ∙ root_holds p stack level none (sym (c.may_hold_pieces-2.ensures values) ∙ c.if-may_hold_pieces-2.true))

pub returns-clause-means : goal.returns-clause-means
returns-clause-means c = λ values.
    let p = framed c.args.paragraph (plain_list values c.args.pieces.now) in
    let stack = c.args.state.now.stack in
    let level = c.loop-level.level in
    let none = drop_all level stack (omega (arith, c.depth-depth.ensures.depth)) in
    sym (c.loop-level.invariant values ∙ root_fails p stack level none (sym (c.may_hold_pieces-2.ensures values) ∙ c.if-may_hold_pieces-2.false))
