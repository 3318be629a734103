use Rattle.std.proofs.Common.{List, [], ◌∷◌, sym, subst}
use Rattle.std.specs.Prelude.{All}
use Rattle.model_items.specs.declared.item.Item.{Item}
use Rattle.model_items.specs.Plain.{plain_list, CitesWell}
use Rattle.model_edit.specs.Edits.{Change}
use Rattle.ve_store.specs.Following.{together}
use Rattle.ve_tx.proofs.ValuesLemmas.{all-extended}
use Rattle.ve_build_insert.specs.Reopened.{IsReopened}
use Rattle.ve_edits.proofs.FollowingLemmas.{store_extends}
use Rattle.ve_build_insert.proofs.ReopenLemmas.{puts_by, brings_by}
use Rattle.ve_build_insert.proofs.reopen.put.Goals as goal

pub reopened-requires-clause-openings : goal.reopened-requires-clause-openings
reopened-requires-clause-openings c =
    let S = c.args.doc.store.now in
    let V = together S c.args.new.now in
    let openings = c.in_ok-openings.openings in
    let cites = c.in_ok-openings.ensures.cites S c.requires.cites in
    subst (All (CitesWell V)) (sym c.as_slice.ensures) (all-extended S V (store_extends S c.args.new.now) openings cites)

pub returns-clause-means : goal.returns-clause-means
returns-clause-means c =
    let S = c.args.doc.store.now in
    let items = c.args.doc.list.now.items in
    let new = c.reopened.new.new in
    let V = together S new in
    let lent = c.as_slice-2.result.now in
    let R : List Item → Type 0 = λ l. IsReopened S l c.args.pieces.now c.args.new.now new c.in_ok-made.made in
    let r = subst R c.as_slice.ensures c.in_ok-made.ensures.made in
    let still = all-extended S V (store_extends S new) items c.requires.cites in
    let m = c.in_ok-change.ensures.makes V [] still (subst (All (CitesWell V)) (sym c.as_slice-2.ensures) r.cites) (c.new-edits.ensures.makes V items) in
    puts_by S items c.args.at c.args.levels c.in_ok-openings.openings c.args.pieces.now c.in_ok-made.made lent c.args.new.now new _ c.requires.cites c.in_ok-openings.ensures.round r c.as_slice-2.ensures
    (c.in_ok-tx.ensures.means V (Change c.args.at 0 (plain_list V lent) ∷ []) m)

pub returns-clause-cites : goal.returns-clause-cites
returns-clause-cites c =
    let S = c.args.doc.store.now in
    let items = c.args.doc.list.now.items in
    let new = c.reopened.new.new in
    let V = together S new in
    let lent = c.as_slice-2.result.now in
    let still = all-extended S V (store_extends S new) items c.requires.cites in
    let m = c.in_ok-change.ensures.makes V [] still (subst (All (CitesWell V)) (sym c.as_slice-2.ensures) c.in_ok-made.ensures.made.cites) (c.new-edits.ensures.makes V items) in
    c.in_ok-tx.ensures.cites V (Change c.args.at 0 (plain_list V lent) ∷ []) m

pub returns-clause-values : goal.returns-clause-values
returns-clause-values c =
    let S = c.args.doc.store.now in
    let items = c.args.doc.list.now.items in
    let new = c.reopened.new.new in
    let V = together S new in
    let lent = c.as_slice-2.result.now in
    let R : List Item → Type 0 = λ l. IsReopened S l c.args.pieces.now c.args.new.now new c.in_ok-made.made in
    let r = subst R c.as_slice.ensures c.in_ok-made.ensures.made in
    let still = all-extended S V (store_extends S new) items c.requires.cites in
    let m = c.in_ok-change.ensures.makes V [] still (subst (All (CitesWell V)) (sym c.as_slice-2.ensures) r.cites) (c.new-edits.ensures.makes V items) in
    brings_by S items c.args.at c.args.levels c.in_ok-openings.openings c.args.pieces.now c.in_ok-made.made lent c.args.new.now new _ c.requires.cites c.in_ok-openings.ensures.round r c.as_slice-2.ensures
    (c.in_ok-tx.ensures.means V (Change c.args.at 0 (plain_list V lent) ∷ []) m)
