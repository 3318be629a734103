use Rattle.std.proofs.Common.{◌≡◌, ◌+◌, ◌++◌, [], ◌∷◌, All, map, take, sym, ap, subst, ◌∙◌}
use Rattle.std.proofs.lemmas.List.{take_more, take_all}
use Rattle.std.proofs.lemmas.List.Elements.{All-nil, All-get_or}
use Rattle.ve_tx.specs.Cites.{TxCites}
use Rattle.ve_tx.specs.Operation.{by_value}
use Rattle.ve_rebase.specs.Shifted.{IsShifted, AreWritten, operations}
use Rattle.ve_rebase.proofs.ShiftedLemmas.{may_stand}
use Rattle.ve_rebase.proofs.WrittenLemmas.{written_more, cite_more}
use Rattle.ve_rebase.proofs.shifted.written.Goals as goal

pub loop-one-init : goal.loop-one-init
loop-one-init c =
    let e = c.new-txs.ensures in
    record {
      written = subst (λ txs. AreWritten txs []) (sym e) tt;
      cite = λ values all. subst (All (TxCites values)) (sym e) (All-nil (TxCites values));
    }

pub reshaped-requires-clause-stands : goal.reshaped-requires-clause-stands
reshaped-requires-clause-stands c = λ values.
    let one = subst IsShifted (sym c.one-item.is) (All-get_or IsShifted c.args.all.now c.loop-one.one-index c.one-item.result c.loop-one-test.true c.requires) in
    may_stand c.one-item.result.span (by_value values c.one-item.result.tx.now) (one.stands values)

pub loop-one-preserved : goal.loop-one-preserved
loop-one-preserved c =
    let one = c.one-item.result in
    let tx = c.in_ok-reshaped.field-0 in
    let done = take c.loop-one.one-index c.args.all.now in
    let next : take (c.loop-one.one-index + 1) c.args.all.now ≡ done ++ one ∷ [] =
    take_more c.args.all.now c.loop-one.one-index one c.loop-one-test.true ∙ ap (λ t. done ++ t ∷ []) (sym c.one-item.is) in
    let e = c.in_ok-push.ensures.ok in
    record {
      written = subst (λ txs. AreWritten txs (take (c.loop-one.one-index + 1) c.args.all.now)) (sym e)
          (subst (AreWritten (c.loop-one.txs ++ tx ∷ [])) (sym next) (written_more c.loop-one.txs done tx one c.loop-one.invariant.written c.in_ok-reshaped.ensures.made));
      cite = λ values all. subst (All (TxCites values)) (sym e)
          (cite_more values c.loop-one.txs done tx one (c.loop-one.invariant.cite values) (c.in_ok-reshaped.ensures.cites values)
          (subst (λ l. All (TxCites values) (map operations l)) next all));
    }

pub returns-clause-written : goal.returns-clause-written
returns-clause-written c = subst (AreWritten c.loop-one.txs) (take_all c.loop-one.one-index c.args.all.now c.loop-one-test.false) c.loop-one.invariant.written

pub returns-clause-cite : goal.returns-clause-cite
returns-clause-cite c = λ values all.
    c.loop-one.invariant.cite values (subst (λ l. All (TxCites values) (map operations l)) (sym (take_all c.loop-one.one-index c.args.all.now c.loop-one-test.false)) all)
