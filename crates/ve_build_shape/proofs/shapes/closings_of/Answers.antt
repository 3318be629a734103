use Rattle.std.proofs.Common.{◌≡◌, [], drop, sym, ap, ◌∙◌, subst, arith}
use Rattle.std.specs.Prelude.{All}
use Rattle.std.proofs.lemmas.List.Elements.{All-nil, All-cons, All-append}
use Rattle.model_items.specs.Plain.{plain_list, CitesWell}
use Rattle.model_edit.specs.Wrap.{closings_of}
use Rattle.ve_build_shape.proofs.ShapeLemmas.{closings_step}
use Rattle.ve_build_shape.proofs.shapes.closings_of.Goals as goal

pub loop-left-preserved : goal.loop-left-preserved
loop-left-preserved c =
    let l = c.loop-left in
    let shapes = c.args.shapes.now in
    let within = l.invariant.within in
    record {
      within = omega (arith, within);
      means = λ values. ap (plain_list values) c.in_ok-push.ensures.ok ∙ closings_step values shapes l.left _ l.closings (omega arith) (omega (arith, within)) (l.invariant.means values);
      cites = λ values.
          subst (All (CitesWell values)) (sym c.in_ok-push.ensures.ok)
          (All-append (CitesWell values) l.closings _ (l.invariant.cites values) (All-cons (CitesWell values) _ [] tt (All-nil (CitesWell values))));
    }

pub returns-clause-means : goal.returns-clause-means
returns-clause-means c = λ values.
    let none : c.loop-left.left ≡ 0 = omega arith in
    c.loop-left.invariant.means values ∙ ap (λ n. closings_of (drop n c.args.shapes.now)) none
