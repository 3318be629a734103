use Rattle.std.proofs.Common.{List, sym, ap, ◌∙◌, subst}
use Rattle.model_items.specs.declared.plain_item.PlainItem.{PlainItem}
use Rattle.model_items.specs.Plain.{plain_list}
use Rattle.model_change.specs.Store.{fill, cited}
use Rattle.model_change.specs.Transaction.{Transaction, all_inserted}
use Rattle.model_edit.specs.Edits.{transaction_of}
use Rattle.model_edit.specs.Wrap.{openings_of}
use Rattle.model_edit.specs.declared.wrap_plan.Shape.{Shape}
use Rattle.ve_store.specs.Following.{together}
use Rattle.ve_tx.proofs.ValuesLemmas.{all-extended, list-extended}
use Rattle.ve_edits.proofs.FollowingLemmas.{grows_extends, store_extends}
use Rattle.ve_build_shape.specs.Round.{AreBrackets, edits_round}
use Rattle.ve_build_shape.proofs.RoundLemmas.{brings_openings}
use Rattle.ve_build_shape.proofs.ShapeLemmas.{brackets_extended}
use Rattle.ve_build_shape.proofs.wraps.wrapped.Goals as goal

pub returns-clause-means : goal.returns-clause-means
returns-clause-means c =
    let S = c.args.doc.store.now in
    let items = c.args.doc.list.now.items in
    let plan = c.args.plan.now in
    let V1 = together S c.brackets_of.new.new in
    let V2 = together S c.brackets_of-2.new.new in
    let outer = c.in_ok-outer.outer in
    let each = c.in_ok-each.each in
    let first = subst (λ (l : List Shape). AreBrackets V1 l outer) c.as_slice-outer_shapes.ensures c.in_ok-outer.ensures.means in
    let one = brackets_extended V1 V2 plan.wrap_outer outer (grows_extends S c.brackets_of.new.new c.brackets_of-2.new.new c.brackets_of-2.ensures.grows) first in
    let two = subst (λ (l : List Shape). AreBrackets V2 l each) c.as_slice-each_shapes.ensures c.in_ok-each.ensures.means in
    let extends = store_extends S c.brackets_of-2.new.new in
    c.in_ok-tx.ensures.means V2 (all-extended S V2 extends items c.requires.cites) one two
    ∙ ap (λ (l : List PlainItem). transaction_of l (edits_round l c.args.from c.args.to plan c.args.nodes.now)) (list-extended S V2 extends items c.requires.cites)

pub returns-clause-cites : goal.returns-clause-cites
returns-clause-cites c =
    let S = c.args.doc.store.now in
    let items = c.args.doc.list.now.items in
    let plan = c.args.plan.now in
    let V1 = together S c.brackets_of.new.new in
    let V2 = together S c.brackets_of-2.new.new in
    let outer = c.in_ok-outer.outer in
    let each = c.in_ok-each.each in
    let first = subst (λ (l : List Shape). AreBrackets V1 l outer) c.as_slice-outer_shapes.ensures c.in_ok-outer.ensures.means in
    let one = brackets_extended V1 V2 plan.wrap_outer outer (grows_extends S c.brackets_of.new.new c.brackets_of-2.new.new c.brackets_of-2.ensures.grows) first in
    let two = subst (λ (l : List Shape). AreBrackets V2 l each) c.as_slice-each_shapes.ensures c.in_ok-each.ensures.means in
    c.in_ok-tx.ensures.cites V2 (all-extended S V2 (store_extends S c.brackets_of-2.new.new) items c.requires.cites) one two

pub returns-clause-brings : goal.returns-clause-brings
returns-clause-brings c =
    let S = c.args.doc.store.now in
    let items = c.args.doc.list.now.items in
    let P = plain_list S items in
    let plan = c.args.plan.now in
    let V0 = together S c.args.new.now in
    let V1 = together S c.brackets_of.new.new in
    let V2 = together S c.brackets_of-2.new.new in
    let one = c.in_ok-outer.ensures.values ∙ ap (λ (l : List Shape). fill V0 (cited (openings_of l))) c.as_slice-outer_shapes.ensures in
    let two = c.in_ok-each.ensures.values ∙ ap (λ (l : List Shape). fill V1 (cited (openings_of l))) c.as_slice-each_shapes.ensures in
    brings_openings P c.args.from c.args.to plan c.args.nodes.now V0 V1 V2 c.requires.some one two
    ∙ ap (λ (t : Transaction). fill V0 (cited (all_inserted t))) (sym (returns-clause-means c))
