use Rattle.ve_select.proofs.translate.with_sides.Goals as goal

pub returns : goal.returns
returns c values =
    let anchor = c.translate_offset.ensures values in
    let focus = c.translate_offset-2.ensures values in
    cc
