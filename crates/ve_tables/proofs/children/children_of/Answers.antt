use Rattle.std.proofs.Common.{◌≡◌, suc, ◌+◌, ◌++◌, true, sym, ap, ◌∙◌, arith, append-nil, append_assoc}
use Rattle.std.proofs.lemmas.List.{length-map}
use Rattle.model_items.specs.Plain.{plain}
use Rattle.model_items.specs.Offsets.{is_closing, partner}
use Rattle.ve_offsets.specs.Docs.{page_items}
use Rattle.ve_edits.proofs.BracketLemmas.{slice_get-plain}
use Rattle.ve_tables.specs.Rows.{place_if_among}
use Rattle.ve_tables.proofs.ChildLemmas.{places_from, place_more, place_closed, partner_after, IsAfter}
use Rattle.ve_tables.proofs.children.children_of.Goals as goal

pub returns-then-closes : goal.returns-then-closes
returns-then-closes c =
    let P = page_items c.args.doc in
    let store = c.args.doc.store.now in
    let item = plain store c.get-item.result in
    let place = c.loop-place.place in
    let places = c.loop-place.places in
    let h = slice_get-plain store c.args.doc.list.now.items place c.get-item.result c.get-item.ensures in
    let closed : is_closing item ≡ true = sym (c.closes.ensures store) ∙ c.if-closes.true in
    sym (append-nil places) ∙ ap (λ v. places ++ v) (sym (place_closed c.args.kinds.now P place item h closed)) ∙ c.loop-place.invariant

pub overflow_add-place-in-loop-place : goal.overflow_add-place-in-loop-place
overflow_add-place-in-loop-place c =
    let P = page_items c.args.doc in
    let store = c.args.doc.store.now in
    let place = c.loop-place.place in
    let h = slice_get-plain store c.args.doc.list.now.items place c.get-item.result c.get-item.ensures in
    let after : IsAfter P place = partner_after P place (plain store c.get-item.result) h (sym (c.closes.ensures store) ∙ c.if-closes.false) in
    let high = after.high in
    let n = length-map c.args.doc.list.now.items (plain store) in
    let p = c.partner-place.ensures store in
    omega (arith, high, n, p, c.len-len.ensures)

pub loop-place-smaller : goal.loop-place-smaller
loop-place-smaller c =
    let P = page_items c.args.doc in
    let store = c.args.doc.store.now in
    let place = c.loop-place.place in
    let h = slice_get-plain store c.args.doc.list.now.items place c.get-item.result c.get-item.ensures in
    let after : IsAfter P place = partner_after P place (plain store c.get-item.result) h (sym (c.closes.ensures store) ∙ c.if-closes.false) in
    let low = after.low in
    let p = c.partner-place.ensures store in
    omega (arith, low, p, c.loop-place-test.true)

pub loop-place-preserved : goal.loop-place-preserved
loop-place-preserved c =
    let P = page_items c.args.doc in
    let store = c.args.doc.store.now in
    let kinds = c.args.kinds.now in
    let item = plain store c.get-item.result in
    let place = c.loop-place.place in
    let places = c.loop-place.places in
    let h = slice_get-plain store c.args.doc.list.now.items place c.get-item.result c.get-item.ensures in
    let p = c.partner-place.ensures store in
    let n : c.partner-place.result + 1 ≡ suc (partner P place) = omega (arith, p) in
    ap (λ v. v ++ places_from kinds P (c.partner-place.result + 1)) (c.in_ok-note.ensures store)
    ∙ append_assoc places (place_if_among kinds place item) (places_from kinds P (c.partner-place.result + 1))
    ∙ ap (λ k. places ++ (place_if_among kinds place item ++ places_from kinds P k)) n
    ∙ ap (λ v. places ++ v) (sym (place_more kinds P place item h (sym (c.closes.ensures store) ∙ c.if-closes.false)))
    ∙ c.loop-place.invariant
