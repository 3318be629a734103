use Rattle.std.proofs.Common.{◌≡◌, List, [], ◌∷◌, refl, sym, ap, ◌∙◌, arith}
use Rattle.std.proofs.lemmas.List.Elements.{All-nil, All-cons}
use Rattle.model_items.specs.declared.plain_item.PlainItem.{PlainItem}
use Rattle.model_items.specs.Offsets.{partner}
use Rattle.model_items.specs.Plain.{plain, plain_list, CitesWell}
use Rattle.model_change.specs.Store.{cited, fill}
use Rattle.model_change.specs.Transaction.{all_inserted, Transaction}
use Rattle.model_edit.specs.Brackets.{copy_of}
use Rattle.model_edit.specs.Edits.{Edit, Change, transaction_of}
use Rattle.model_edit.specs.Lists.{end_before}
use Rattle.ve_edits.proofs.BracketLemmas.{slice_get-plain, cites_there}
use Rattle.ve_store.specs.Following.{together}
use Rattle.ve_tx.proofs.ValuesLemmas.{cites-extended, plain-extended, all-extended, list-extended}
use Rattle.ve_lists.specs.Moved.{open_of}
use Rattle.ve_edits.proofs.RoundLemmas.{partner_within}
use Rattle.ve_lists.proofs.PlaceLemmas.{list_item_past}
use Rattle.ve_lists.proofs.MovedLemmas.{cited_after, edit_last, edit_within}
use Rattle.ve_lists.proofs.outward.outdented.Goals as goal

pub prove-unreachable-requires : goal.prove-unreachable-requires
prove-unreachable-requires c =
    let within = partner_within [] c.args.doc.list.now.items c.args.at c.requires.within in
    let same = c.partner-other.ensures [] in
    omega (arith, c.len-len.ensures)

pub change-requires-clause-order : goal.change-requires-clause-order
change-requires-clause-order c =
    let past = list_item_past [] c.args.doc.list.now.items c.args.at c.requires.doc.links.lawful c.requires.within (c.requires.opens []) in
    let same = c.partner-other.ensures [] in
    omega (arith, c.in_ok-edits.ensures.at)

pub change-requires-clause-within : goal.change-requires-clause-within
change-requires-clause-within c =
    let within = partner_within [] c.args.doc.list.now.items c.args.list.from c.requires.list in
    let same = c.partner.ensures [] in
    omega (arith, c.if-partner-other.true)

pub transaction-requires : goal.transaction-requires
transaction-requires c =
    let within = partner_within [] c.args.doc.list.now.items c.args.list.from c.requires.list in
    let same = c.partner.ensures [] in
    omega (arith, c.if-partner-other.true, c.in_ok-change.ensures.at)

pub returns-then-partner-other-clause-means : goal.returns-then-partner-other-clause-means
returns-then-partner-other-clause-means c =
    let store = c.args.doc.store.now in
    let items = c.args.doc.list.now.items in
    let all = plain_list store items in
    let values = together store c.args.new.now in
    let list = open_of c.args.list in
    let other = c.partner-other.result in
    let first : Edit = end_before c.args.at list in
    let second : Edit = Change other 2 [] in
    let still = all-extended store values (c.args.new.now.values, refl) items c.requires.cites in
    let m = c.in_ok-change.ensures.makes values (first ∷ []) still (All-nil (CitesWell values)) (c.in_ok-edits.ensures.makes values still) in
    c.in_ok-tx.ensures.means values (first ∷ second ∷ []) m
    ∙ ap (λ (l : List PlainItem). transaction_of l (first ∷ second ∷ [])) (list-extended store values (c.args.new.now.values, refl) items c.requires.cites)
    ∙ ap (λ (e : Edit). transaction_of all (first ∷ e ∷ []))
    (edit_last all (partner all c.args.at) list other c.partner.result (c.partner-other.ensures store) (c.partner.ensures store) c.if-partner-other.true)

pub returns-then-partner-other-clause-cites : goal.returns-then-partner-other-clause-cites
returns-then-partner-other-clause-cites c =
    let store = c.args.doc.store.now in
    let items = c.args.doc.list.now.items in
    let values = together store c.args.new.now in
    let first : Edit = end_before c.args.at (open_of c.args.list) in
    let second : Edit = Change c.partner-other.result 2 [] in
    let still = all-extended store values (c.args.new.now.values, refl) items c.requires.cites in
    let m = c.in_ok-change.ensures.makes values (first ∷ []) still (All-nil (CitesWell values)) (c.in_ok-edits.ensures.makes values still) in
    c.in_ok-tx.ensures.cites values (first ∷ second ∷ []) m

pub returns-then-partner-other-clause-values : goal.returns-then-partner-other-clause-values
returns-then-partner-other-clause-values c =
    let store = c.args.doc.store.now in
    let items = c.args.doc.list.now.items in
    let values = together store c.args.new.now in
    let list = open_of c.args.list in
    let first : Edit = end_before c.args.at list in
    let second : Edit = Change c.partner-other.result 2 [] in
    let still = all-extended store values (c.args.new.now.values, refl) items c.requires.cites in
    let m = c.in_ok-change.ensures.makes values (first ∷ []) still (All-nil (CitesWell values)) (c.in_ok-edits.ensures.makes values still) in
    let made = c.in_ok-tx.ensures.means values (first ∷ second ∷ []) m in
    ap (fill values) (sym (ap (λ (t : Transaction). cited (all_inserted t)) made ∙ cited_after (plain_list values items) c.args.at list c.partner-other.result 2 []))

pub copy_of-requires-clause-cites : goal.copy_of-requires-clause-cites
copy_of-requires-clause-cites c =
    let store = c.args.doc.store.now in
    let items = c.args.doc.list.now.items in
    cites-extended store (together store c.args.new.now) (c.args.new.now.values, refl) c.get.result (cites_there store items c.args.list.from c.get.result c.requires.cites c.get.ensures)

pub change-requires-2-clause-order : goal.change-requires-2-clause-order
change-requires-2-clause-order c =
    let past = list_item_past [] c.args.doc.list.now.items c.args.at c.requires.doc.links.lawful c.requires.within (c.requires.opens []) in
    let same = c.partner-other.ensures [] in
    omega (arith, c.in_ok-edits.ensures.at)

pub change-requires-2-clause-within : goal.change-requires-2-clause-within
change-requires-2-clause-within c =
    let within = partner_within [] c.args.doc.list.now.items c.args.at c.requires.within in
    let same = c.partner-other.ensures [] in
    omega arith

pub transaction-requires-2 : goal.transaction-requires-2
transaction-requires-2 c =
    let within = partner_within [] c.args.doc.list.now.items c.args.at c.requires.within in
    let same = c.partner-other.ensures [] in
    omega (arith, c.in_ok-change-2.ensures.at)

pub returns-clause-means : goal.returns-clause-means
returns-clause-means c =
    let store = c.args.doc.store.now in
    let items = c.args.doc.list.now.items in
    let all = plain_list store items in
    let new = c.copy_of.new.new in
    let values = together store new in
    let list = open_of c.args.list in
    let other = c.partner-other.result in
    let opening = plain store c.get.result in
    let copy = c.in_ok-copy.copy in
    let first : Edit = end_before c.args.at list in
    let second : Edit = Change other 1 (plain values copy ∷ []) in
    let still = all-extended store values (new.values, refl) items c.requires.cites in
    let W = CitesWell values in
    let m = c.in_ok-change-2.ensures.makes values (first ∷ []) still (All-cons W copy [] c.in_ok-copy.ensures.cites (All-nil W)) (c.in_ok-edits.ensures.makes values still) in
    let here = cites_there store items c.args.list.from c.get.result c.requires.cites c.get.ensures in
    let copied : plain values copy ≡ copy_of opening =
    c.in_ok-copy.ensures.means ∙ ap copy_of (plain-extended store (together store c.args.new.now) (c.args.new.now.values, refl) c.get.result here) in
    c.in_ok-tx-2.ensures.means values (first ∷ second ∷ []) m
    ∙ ap (λ (l : List PlainItem). transaction_of l (first ∷ second ∷ [])) (list-extended store values (new.values, refl) items c.requires.cites)
    ∙ ap (λ (x : PlainItem). transaction_of all (first ∷ Change other 1 (x ∷ []) ∷ [])) copied
    ∙ ap (λ (e : Edit). transaction_of all (first ∷ e ∷ []))
    (edit_within all (partner all c.args.at) list opening other c.partner.result (c.partner-other.ensures store) (c.partner.ensures store) c.if-partner-other.false
    (slice_get-plain store items c.args.list.from c.get.result c.get.ensures))

pub returns-clause-cites : goal.returns-clause-cites
returns-clause-cites c =
    let store = c.args.doc.store.now in
    let items = c.args.doc.list.now.items in
    let new = c.copy_of.new.new in
    let values = together store new in
    let copy = c.in_ok-copy.copy in
    let first : Edit = end_before c.args.at (open_of c.args.list) in
    let second : Edit = Change c.partner-other.result 1 (plain values copy ∷ []) in
    let still = all-extended store values (new.values, refl) items c.requires.cites in
    let W = CitesWell values in
    let m = c.in_ok-change-2.ensures.makes values (first ∷ []) still (All-cons W copy [] c.in_ok-copy.ensures.cites (All-nil W)) (c.in_ok-edits.ensures.makes values still) in
    c.in_ok-tx-2.ensures.cites values (first ∷ second ∷ []) m

pub returns-clause-values : goal.returns-clause-values
returns-clause-values c =
    let store = c.args.doc.store.now in
    let items = c.args.doc.list.now.items in
    let new = c.copy_of.new.new in
    let values = together store new in
    let list = open_of c.args.list in
    let copy = c.in_ok-copy.copy in
    let first : Edit = end_before c.args.at list in
    let second : Edit = Change c.partner-other.result 1 (plain values copy ∷ []) in
    let still = all-extended store values (new.values, refl) items c.requires.cites in
    let W = CitesWell values in
    let m = c.in_ok-change-2.ensures.makes values (first ∷ []) still (All-cons W copy [] c.in_ok-copy.ensures.cites (All-nil W)) (c.in_ok-edits.ensures.makes values still) in
    let made = c.in_ok-tx-2.ensures.means values (first ∷ second ∷ []) m in
    c.in_ok-copy.ensures.values
    ∙ ap (fill (together store c.args.new.now))
    (sym (ap (λ (t : Transaction). cited (all_inserted t)) made ∙ cited_after (plain_list values items) c.args.at list c.partner-other.result 1 (plain values copy ∷ [])))
