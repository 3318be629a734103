use Rattle.std.proofs.Common.{ap, sym, ◌∙◌, ◌≡◌, ◌<◌, List, length, subst}
use Rattle.std.specs.Prelude.{slice_get}
use Rattle.std.proofs.lemmas.Option.{slice_get-get_or}
use Rattle.ve_origin.specs.Origins.{FirstRead}
use Rattle.ve_origin.specs.declared.origin.OriginRow.{OriginRow}
use Rattle.ve_origin.proofs.AnswerLemmas.{row_fits}
use Rattle.ve_origin.proofs.origin.Origins.row.Goals as goal

pub returns-clause-row : goal.returns-clause-row
returns-clause-row c =
    let rows : c.as_slice.result.now ≡ c.args.self.now.rows = c.as_slice.ensures ∙ ap (λ (o : FirstRead). o.rows) c.self.view_is in
    ap (λ (l : List OriginRow). slice_get l c.args.k) (sym rows)
    ∙ slice_get-get_or c.as_slice.result.now c.args.k _ (subst (λ (l : List OriginRow). c.args.k < length l) (sym rows) c.requires)

pub returns-clause-fits : goal.returns-clause-fits
returns-clause-fits c = row_fits _ c.args.self.now c.as_slice.result.now c.args.k _ c.self.view_is c.self.invariant.1 c.as_slice.ensures c.requires
