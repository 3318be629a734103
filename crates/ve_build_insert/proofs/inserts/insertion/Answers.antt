use Rattle.std.proofs.Common.{◌≡◌, List, Some, None, option_map, inr, refl, sym, ap, ◌∙◌, subst, arith}
use Rattle.std.specs.Prelude.{All}
use Rattle.model_items.specs.declared.plain_item.PlainItem.{PlainItem}
use Rattle.model_items.specs.Plain.{plain_list, CitesWell}
use Rattle.model_edit.specs.Causes.{BadOffset, NoPlace}
use Rattle.ve_store.specs.Following.{together}
use Rattle.ve_edits.proofs.RoundLemmas.{open_count}
use Rattle.ve_build_insert.specs.Placed.{placed_at}
use Rattle.ve_edits.proofs.StackLemmas.{stack_is}
use Rattle.ve_build_insert.proofs.PlaceLemmas.{none_of}
use Rattle.ve_build_insert.proofs.RefusalLemmas.{insertion_bad, insertion_none, insertion_given, insertion_is}
use Rattle.ve_build_insert.proofs.inserts.insertion.Goals as goal

pub returns-in_default-clause-refused : goal.returns-in_default-clause-refused
returns-in_default-clause-refused c =
    let S = c.args.doc.store.now in
    let P = plain_list S c.args.doc.list.now.items in
    let pieces = plain_list (together S c.args.new.now) c.args.pieces.now in
    inr (BadOffset c.args.at, insertion_bad P c.args.at pieces (c.open_at.ensures.none (none_of c.open_at.result c.in_default.not-Some) S), refl)

pub returns-in_default-place_of-clause-refused : goal.returns-in_default-place_of-clause-refused
returns-in_default-place_of-clause-refused c =
    let S = c.args.doc.store.now in
    let V = together S c.args.new.now in
    let items = c.args.doc.list.now.items in
    let P = plain_list S items in
    let pieces = plain_list V c.args.pieces.now in
    let here = c.in-Some.ensures.some in
    let none : c.place_of.result ≡ None = none_of c.place_of.result c.in_default-place_of.not-Some in
    inr (
      NoPlace c.args.at,
      insertion_none P c.args.at pieces c.in-Some.state.stack (here.good S) (stack_is S items c.args.at c.in-Some.state here.leads)
          (sym (ap (option_map (placed_at pieces)) none) ∙ c.place_of.ensures.means V),
      refl,
    )

pub returns-in_default-in_paragraph-clause-memory : goal.returns-in_default-in_paragraph-clause-memory
returns-in_default-in_paragraph-clause-memory c = λ _.
    let S = c.args.doc.store.now in
    let V = together S c.args.new.now in
    let items = c.args.doc.list.now.items in
    let P = plain_list S items in
    let pieces = plain_list V c.args.pieces.now in
    let here = c.in-Some.ensures.some in
    insertion_given P c.args.at pieces c.in-Some.state.stack (placed_at pieces c.in-Some-place_of.place) (here.good S) (stack_is S items c.args.at c.in-Some.state here.leads)
    (c.in-Some-place_of.ensures.means V)

pub put-requires-clause-pieces : goal.put-requires-clause-pieces
put-requires-clause-pieces c =
    let V = together c.args.doc.store.now c.args.new.now in
    subst (All (CitesWell V)) (sym c.as_slice.ensures) (c.in-Ok.ensures.cites V c.requires.pieces)

pub put-requires-clause-within : goal.put-requires-clause-within
put-requires-clause-within c = let below = c.in-Some.ensures.some.within in omega arith

pub put-requires-clause-levels : goal.put-requires-clause-levels
put-requires-clause-levels c =
    let few = c.in-Some-place_of.ensures.within in
    let same = open_count c.args.doc.list.now.items c.args.at c.in-Some.state c.in-Some.ensures.some.leads in
    omega (arith, few, same)

pub returns-in-Ok-put-clause-means : goal.returns-in-Ok-put-clause-means
returns-in-Ok-put-clause-means c =
    let S = c.args.doc.store.now in
    let V = together S c.args.new.now in
    let items = c.args.doc.list.now.items in
    let P = plain_list S items in
    let pieces = plain_list V c.args.pieces.now in
    let here = c.in-Some.ensures.some in
    let place = c.in-Some-place_of.place in
    insertion_is P c.args.at pieces c.in-Some.state.stack (plain_list V c.in-Ok.items) (plain_list V c.as_slice.result.now) place.levels _
    (here.good S) (stack_is S items c.args.at c.in-Some.state here.leads)
    (ap (λ (l : List PlainItem). Some (l, place.levels)) (c.in-Ok.ensures.means V) ∙ c.in-Some-place_of.ensures.means V)
    (ap (plain_list V) c.as_slice.ensures) c.in-Ok-put.ensures.means

pub returns-clause-memory : goal.returns-clause-memory
returns-clause-memory c = λ _.
    let S = c.args.doc.store.now in
    let V = together S c.args.new.now in
    let items = c.args.doc.list.now.items in
    let P = plain_list S items in
    let pieces = plain_list V c.args.pieces.now in
    let here = c.in-Some.ensures.some in
    insertion_given P c.args.at pieces c.in-Some.state.stack (placed_at pieces c.in-Some-place_of.place) (here.good S) (stack_is S items c.args.at c.in-Some.state here.leads)
    (c.in-Some-place_of.ensures.means V)
