use Rattle.std.proofs.Common.{map, ap, ◌∙◌, arith}
use Rattle.std.proofs.lemmas.List.{take_all, take_more}
use Rattle.model_items.specs.Plain.{plain_list}
use Rattle.model_edit.specs.Brackets.{closing_for}
use Rattle.ve_build_insert.proofs.ReopenLemmas.{closings_more, closings_cite_more}
use Rattle.ve_build_insert.proofs.reopen.closings_for.Goals as goal

pub loop-opening-preserved : goal.loop-opening-preserved
loop-opening-preserved c =
    let l = c.loop-opening in
    record {
      means = λ values.
          closings_more values c.args.openings.now l.closings l.opening-index _ c.closing_for.result c.push.new.self (take_more c.args.openings.now l.opening-index _ c.loop-opening-test.true)
          (l.invariant.means values) (c.closing_for.ensures.means values) c.in_ok-push.ensures.ok;
      cites = λ values all.
          closings_cite_more values c.args.openings.now l.closings l.opening-index _ c.closing_for.result c.push.new.self all c.loop-opening-test.true
          (l.invariant.cites values all) (c.closing_for.ensures.cites values) c.in_ok-push.ensures.ok;
    }

pub returns-clause-means : goal.returns-clause-means
returns-clause-means c = λ values.
    let l = c.loop-opening in
    l.invariant.means values ∙ ap (λ r. map closing_for (plain_list values r)) (take_all l.opening-index c.args.openings.now (omega arith))

pub returns-clause-cites : goal.returns-clause-cites
returns-clause-cites c = c.loop-opening.invariant.cites
