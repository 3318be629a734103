use Rattle.std.proofs.Common.{◌≡◌, ◌++◌, ℕ, List, length, take, drop, subst, sym, ◌∙◌, ap, false}
use Rattle.ve_tx.specs.Order.{IsKept, AtHome, stands}
use Rattle.std.specs.Prelude.{slice_get, Some}
use Rattle.ve_items.specs.Blocks.{joined}
use Rattle.ve_tx.proofs.OrderLemmas.{given_back, kept_reached, kept_put, new_number}
use Rattle.ve_tx.proofs.order.Order.put_in.Goals as goal

pub invariant_of-self-in_err-reach : goal.invariant_of-self-in_err-reach
invariant_of-self-in_err-reach c =
    let back = given_back c.make_room.new.homes (drop (length c.make_room.new.homes) c.self.inside.homes.items) _ c.self.inside.homes.len c.as_mut_slice.ensures.len c.make_room.auto.homes in
    let kept = kept_reached c.self.inside.chunks.items c.make_room.new.chunks.items c.begin.new.chunks.items c.self.inside.homes.items c.make_room.new.homes c.reach.new.homes.items c.self.inside.len
    c.self.invariant c.make_room.ensures.row c.make_room.ensures.home c.begin.ensures.row c.begin.ensures.home
    (λ other home is. c.reach.ensures.kept other home (subst (λ (l : List ℕ). slice_get l other ≡ Some home) (sym back) is)) in
    kept

pub insert-requires-clause-home : goal.insert-requires-clause-home
insert-requires-clause-home c =
    let back = given_back c.make_room.new.homes (drop (length c.make_room.new.homes) c.self.inside.homes.items) _ c.self.inside.homes.len c.as_mut_slice.ensures.len c.make_room.auto.homes in
    let kept = kept_reached c.self.inside.chunks.items c.make_room.new.chunks.items c.begin.new.chunks.items c.self.inside.homes.items c.make_room.new.homes c.reach.new.homes.items c.self.inside.len
    c.self.invariant c.make_room.ensures.row c.make_room.ensures.home c.begin.ensures.row c.begin.ensures.home
    (λ other home is. c.reach.ensures.kept other home (subst (λ (l : List ℕ). slice_get l other ≡ Some home) (sym back) is)) in
    subst (AtHome c.as_mut_slice-2.result.now) (sym c.as_mut_slice-3.ensures.value)
    (subst (λ l. AtHome l c.reach.new.homes.items) (sym c.as_mut_slice-2.ensures.value) kept.home)

pub insert-requires-clause-new : goal.insert-requires-clause-new
insert-requires-clause-new c =
    let row : joined c.begin.new.chunks.items ≡ c.args.self.now = c.begin.ensures.row ∙ c.make_room.ensures.row ∙ c.self.view_is in
    let fresh : stands c.args.number (joined c.as_mut_slice-2.result.now) ≡ false =
    ap (λ l. stands c.args.number (joined l)) c.as_mut_slice-2.ensures.value ∙ ap (stands c.args.number) row ∙ new_number c.args.number c.args.self.now c.requires in
    fresh

pub invariant_of-self-2 : goal.invariant_of-self-2
invariant_of-self-2 c =
    let back = given_back c.make_room.new.homes (drop (length c.make_room.new.homes) c.self.inside.homes.items) _ c.self.inside.homes.len c.as_mut_slice.ensures.len c.make_room.auto.homes in
    let kept = kept_reached c.self.inside.chunks.items c.make_room.new.chunks.items c.begin.new.chunks.items c.self.inside.homes.items c.make_room.new.homes c.reach.new.homes.items c.self.inside.len
    c.self.invariant c.make_room.ensures.row c.make_room.ensures.home c.begin.ensures.row c.begin.ensures.home
    (λ other home is. c.reach.ensures.kept other home (subst (λ (l : List ℕ). slice_get l other ≡ Some home) (sym back) is)) in
    let row : joined c.begin.new.chunks.items ≡ c.args.self.now = c.begin.ensures.row ∙ c.make_room.ensures.row ∙ c.self.view_is in
    let fresh : stands c.args.number (joined c.as_mut_slice-2.result.now) ≡ false =
    ap (λ l. stands c.args.number (joined l)) c.as_mut_slice-2.ensures.value ∙ ap (stands c.args.number) row ∙ new_number c.args.number c.args.self.now c.requires in
    let chunks = c.insert.new.chunks in
    let homes = c.insert.new.homes in
    let chunks_back = given_back chunks (drop (length chunks) c.begin.new.chunks.items) _ c.begin.new.chunks.len c.as_mut_slice-2.ensures.len c.insert.auto.chunks in
    let homes_back = given_back homes (drop (length homes) c.reach.new.homes.items) _ c.reach.new.homes.len c.as_mut_slice-3.ensures.len c.insert.auto.homes in
    let grown = kept_put c.begin.new.chunks.items c.as_mut_slice-2.result.now chunks c.reach.new.homes.items homes c.self.inside.len c.in-Some.len c.args.at c.args.number
    kept c.as_mut_slice-2.ensures.value c.insert.ensures.home c.in_ok-insert.ensures.ok fresh c.in-Some.ensures.1 c.in-Some.ensures.0 in
    subst (λ l. IsKept l (take c.reach.new.homes.len (homes ++ drop (length homes) c.reach.new.homes.items)) c.in-Some.len) (sym chunks_back)
    (subst (λ l. IsKept chunks l c.in-Some.len) (sym homes_back) grown)
