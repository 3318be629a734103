use Rattle.std.proofs.Common.{◌≡◌, ◌+◌, suc, if◌then◌else◌, ap, ◌∙◌, arith}
use Rattle.ve_editor.proofs.selected.past_leaf.Goals as goal

pub returns-then-is_inside : goal.returns-then-is_inside
returns-then-is_inside c = λ values.
    let e : c.args.at + 1 ≡ suc c.args.at = omega arith in
    e ∙ ap (λ b. if b then suc c.args.at else c.args.at) (c.if-is_inside.ensures.means values)

pub returns-else-is_inside : goal.returns-else-is_inside
returns-else-is_inside c = λ values. ap (λ b. if b then suc c.args.at else c.args.at) (c.if-is_inside.ensures.means values)
