use Rattle.std.proofs.Common.{◌≡◌, List, [], ℕ, sym, ap, ◌∙◌, subst}
use Rattle.model_change.specs.Transaction.{Transaction}
use Rattle.model_edit.specs.Edits.{retaining}
use Rattle.ve_edits.specs.Collected.{Collected, collected_transaction, AreCited}
use Rattle.ve_tx.specs.Operation.{by_value, unkept}
use Rattle.ve_edits.specs.Collected.{SetsOneMore}
use Rattle.ve_edits.proofs.BracketLemmas.{cites_there}
use Rattle.ve_edits.proofs.SettingLemmas.{set_after}
use Rattle.ve_edits.proofs.edits.Edits.set.Goals as goal

pub present_value-requires : goal.present_value-requires
present_value-requires c = cites_there c.args.store.now c.args.list.now.items c.args.at c.get.result c.requires.cites c.get.ensures

pub returns-clause-makes : goal.returns-clause-makes
returns-clause-makes c = λ edits m.
    let S = c.args.store.now in
    let items = c.args.list.now.items in
    let old = c.args.self.now in
    let put = c.self-2.inside.ops in
    let N : List ℕ → Type 0 = λ name. SetsOneMore S items c.args.at name c.args.to old (record { at = c.self-2.inside.at; ops = c.push.new.self; retained = c.self-2.inside.retained; removed = c.self-2.inside.removed; inserted = c.self-2.inside.inserted }) in
    let down : by_value S (unkept put) ≡ collected_transaction S c.pass.new.self [] = ap (λ (s : Collected). by_value S (unkept s.ops)) c.self-2.view_is ∙ c.in_ok-settle.ensures.means S in
    let cited = (subst (AreCited S) (sym c.self-2.view_is) (c.in_ok-settle.ensures.cites S (c.in_ok-pass.ensures.cites S m.cited))).ops in
    let at = ap (λ (s : Collected). s.at) c.self-2.view_is ∙ c.in_ok-settle.ensures.at ∙ c.in_ok-pass.ensures.at in
    let retained = ap (λ (s : Collected). s.retained) c.self-2.view_is ∙ c.in_ok-settle.ensures.retained in
    let removed = ap (λ (s : Collected). s.removed) c.self-2.view_is ∙ c.in_ok-settle.ensures.removed in
    let inserted = ap (λ (s : Collected). s.inserted) c.self-2.view_is ∙ c.in_ok-settle.ensures.inserted in
    subst N c.in_ok-name.ensures
    (λ edits m.
    set_after S items edits old c.pass.new.self c.args.at c.get.result c.in_ok-name.name c.in_ok-from.from c.args.to c.requires.order c.get.ensures c.in_ok-from.ensures (c.in_ok-pass.ensures.means S) put c.push.new.self _ down
    c.in_ok-push.ensures.ok cited (λ i. record { at = at i; ops = c.push.new.self; retained = retained i; removed = removed i; inserted = inserted i }) m)
    edits m
