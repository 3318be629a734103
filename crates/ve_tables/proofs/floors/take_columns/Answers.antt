use Rattle.std.proofs.Common.{◌≡◌, ◌⊎◌, ◌≤◌, inl, inr, nat_lt, max, ap, arith, ◌∙◌}
use Rattle.std.proofs.lemmas.Bool.{cases_Bool, ltb-true, ltb-false}
use Rattle.ve_tables.specs.declared.floors.Floors.{Floors}
use Rattle.ve_tables.proofs.FloorLemmas.{from_first, taken_before, taken_apart, are_taken}
use Rattle.ve_tables.proofs.floors.take_columns.Goals as goal

pub free_end-end-requires : goal.free_end-end-requires
free_end-end-requires c = from_first c.args.floors.now c.args.from c.requires.apart c.requires.first

pub returns-then-end-min-clause-covered : goal.returns-then-end-min-clause-covered
returns-then-end-min-clause-covered c = λ same.
    let end = c.free_end-end.result in
    taken_before c.args.floors.now c.args.from end c.args.to c.free_end-end.new.free c.requires.apart c.requires.first c.free_end-end.ensures.out c.free_end-end.ensures.stop
    (omega (arith, c.min.ensures, c.if-end-min.true)) (omega (arith, c.min.ensures, c.if-end-min.true))

pub returns-clause-taken : goal.returns-clause-taken
returns-clause-taken c = λ same.
    let old = c.args.floors.now in
    let end = c.free_end-end.result in
    let new : Floors = record { taken = c.push.new.self; free = c.free_rest.new.free; width = c.max-floors.result } in
    let far : (c.args.to ≤ end) ⊎ (old.width ≤ end) =
    elim (cases_Bool (nat_lt end c.args.to)) [
      | inl t ↦ inr (let l = ltb-true end c.args.to t in omega (arith, c.min.ensures, c.if-end-min.false))
      | inr f ↦ inl (ltb-false end c.args.to f)
    ] in
    are_taken old c.args.from end c.args.to c.free_end-end.new.free c.requires.apart c.requires.first c.free_end-end.ensures.out c.free_end-end.ensures.stop c.args.floor new c.requires.order far
    c.max-floors.ensures c.in_ok-free_rest.ensures c.in_ok-push.ensures

pub returns-clause-apart : goal.returns-clause-apart
returns-clause-apart c = λ same.
    let old = c.args.floors.now in
    let end = c.free_end-end.result in
    let new : Floors = record { taken = c.push.new.self; free = c.free_rest.new.free; width = c.max-floors.result } in
    let far : (c.args.to ≤ end) ⊎ (old.width ≤ end) =
    elim (cases_Bool (nat_lt end c.args.to)) [
      | inl t ↦ inr (let l = ltb-true end c.args.to t in omega (arith, c.min.ensures, c.if-end-min.false))
      | inr f ↦ inl (ltb-false end c.args.to f)
    ] in
    taken_apart old c.args.from end c.args.to c.free_end-end.new.free c.requires.apart c.requires.first c.free_end-end.ensures.out c.free_end-end.ensures.stop c.args.floor new c.requires.order far
    c.max-floors.ensures c.in_ok-free_rest.ensures c.in_ok-push.ensures
