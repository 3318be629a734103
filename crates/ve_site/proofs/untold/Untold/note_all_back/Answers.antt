use Rattle.std.proofs.Common.{◌≡◌, ◌≤◌, ◌<◌, ◌+◌, ◌-◌, suc, List, length, map, drop, ap, ◌∙◌, sym, subst, arith}
use Rattle.std.proofs.lemmas.List.{drop_all}
use Rattle.model_change.specs.Replay.{reversal}
use Rattle.model_site.specs.Untold.{Untold, max_patches, passed}
use Rattle.ve_tx.specs.Operation.{Operation, by_value}
use Rattle.ve_tx.specs.declared.entry.Entry.{Entry}
use Rattle.ve_site.specs.Dropped.{back_over}
use Rattle.ve_site.proofs.NotedLemmas.{entry_undone}
use Rattle.ve_site.proofs.PatchLemmas.{next_is, with_none}
use Rattle.ve_site.proofs.untold.Untold.note_all_back.Goals as goal

pub loop-at-init : goal.loop-at-init
loop-at-init c =
    let u = c.args.self.now in
    let es = c.args.entries.now in
    let within = subst (λ (x : Untold). length x.patches ≤ suc max_patches) c.self.view_is c.self.invariant.within in
    let none = drop_all (length es) es (omega arith) in
    record {
      noted = λ values. sym (with_none u within) ∙ ap (λ (l : List Entry). passed (back_over values l) u) (sym none);
      within = omega arith;
    }

pub loop-at-preserved : goal.loop-at-preserved
loop-at-preserved c =
    let es = c.args.entries.now in
    let old = c.args.self.now in
    let k = c.loop-at.at - 1 in
    let e = c.index-entries-at.result in
    let now = c.note_back.new.self in
    let next : c.loop-at.at ≡ k + 1 = omega (arith, c.loop-at-test.true) in
    let below : k < length es = omega (arith, c.loop-at.invariant.within, c.loop-at-test.true) in
    record {
      noted = λ values. entry_undone values e (drop k es) (drop (k + 1) es) old c.loop-at.self now (next_is k es e below c.index-entries-at.is)
          (c.loop-at.invariant.noted values ∙ ap (λ n. passed (back_over values (drop n es)) old) next)
          (c.note_back.ensures values ∙ ap (λ (txs : List (List Operation)). passed (reversal (map (by_value values) txs)) c.loop-at.self)
          (c.as_slice.ensures ∙ ap (λ (x : Entry). x.txs) (sym c.index-entries-at.is)));
      within = omega (arith, c.loop-at.invariant.within);
    }

pub returns : goal.returns
returns c values =
    let first : c.loop-at.at ≡ 0 = omega (arith, c.loop-at-test.false) in
    c.loop-at.invariant.noted values ∙ ap (λ n. passed (back_over values (drop n c.args.entries.now)) c.args.self.now) first
