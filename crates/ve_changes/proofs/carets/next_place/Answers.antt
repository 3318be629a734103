use Rattle.std.proofs.Common.{◌≡◌, true, Some, sym, ◌∙◌}
use Rattle.model_items.specs.Offsets.{is_content}
use Rattle.model_edit.specs.Next.{next}
use Rattle.ve_offsets.specs.Docs.{page_items}
use Rattle.ve_tables.proofs.PartWayLemmas.{lawful_plain}
use Rattle.ve_changes.proofs.CaretLemmas.{place_stands}
use Rattle.ve_changes.proofs.carets.next_place.Goals as goal

pub returns-in-Some-clause-stands : goal.returns-in-Some-clause-stands
returns-in-Some-clause-stands c =
    let items = page_items c.args.doc in
    let content : is_content items c.args.at ≡ true = cc c.if-not-holds_content.ensures in
    let goes : next items c.args.at c.args.dir c.args.by ≡ Some c.in-Some.place = sym c.in_ok-place.ensures ∙ c.in-Some.is in
    place_stands items c.args.at c.args.dir c.args.by c.in-Some.place
    (lawful_plain c.args.doc.store.now c.args.doc.list.now.items c.requires.doc.links.lawful) content goes
