use Rattle.std.proofs.Common.{◌≡◌, ◌+◌, ◌++◌, List, Option, length, arith, sym, ap, subst, ◌∙◌}
use Rattle.std.specs.Option.{MatchOption, option_to_list}
use Rattle.ve_tx.specs.declared.parcel.Parcel.{Parcel}
use Rattle.ve_peer_undo.proofs.UndoneLemmas.{alone_runs, given_cites, given_outline, is_given, is_refused, last_one, one_is_kept}
use Rattle.ve_peer_undo.proofs.undo.over_later.Goals as goal

pub entries_over_list-requires : goal.entries_over_list-requires
entries_over_list-requires c = alone_runs c.args.later.now c.args.back.now c.from_ref.result.now c.from_ref.ensures.value c.requires.run

pub returns-in-Some-clause-refused : goal.returns-in-Some-clause-refused
returns-in-Some-clause-refused c =
    is_refused c.args.later.now c.args.back.now c.from_ref.result.now c.in_ok-kept.field-0 c.from_ref.ensures.value c.in_ok-kept.ensures c.in-Some.clash c.in-Some.is

pub unreachable-requires : goal.unreachable-requires
unreachable-requires c =
    let one = one_is_kept c.args.later.now c.args.back.now c.from_ref.result.now c.in_ok-kept.field-0 c.from_ref.ensures.value c.in_ok-kept.ensures c.in_default.is in
    let size = ap (λ (l : List Parcel). length l) c.into_vec.ensures in
    let count = c.into_vec.result.ok in
    let none = subst (λ (o : Option Parcel). MatchOption o ((c.into_vec.result.len ≡ 0) × (c.pop.new.self.len ≡ 0)) (λ _. c.pop.new.self.len + 1 ≡ c.into_vec.result.len))
    c.in_default-pop.is c.pop.ensures.cases in
    let empty = none.0 in
    omega (arith, one, size, count, empty)

pub returns-clause-joined : goal.returns-clause-joined
returns-clause-joined c =
    let one = one_is_kept c.args.later.now c.args.back.now c.from_ref.result.now c.in_ok-kept.field-0 c.from_ref.ensures.value c.in_ok-kept.ensures c.in_default.is in
    let last = last_one c.in_ok-kept.field-0.kept c.pop.new.self.items c.in-Some-pop.made one
    (sym c.into_vec.ensures ∙ c.pop.ensures.items ∙ ap (λ o. c.pop.new.self.items ++ option_to_list o) c.in-Some-pop.is) in
    is_given c.args.later.now c.args.back.now c.from_ref.result.now c.in_ok-kept.field-0 c.from_ref.ensures.value c.in_ok-kept.ensures c.in-Some-pop.made last c.in_default.is

pub returns-clause-outline : goal.returns-clause-outline
returns-clause-outline c =
    let one = one_is_kept c.args.later.now c.args.back.now c.from_ref.result.now c.in_ok-kept.field-0 c.from_ref.ensures.value c.in_ok-kept.ensures c.in_default.is in
    let last = last_one c.in_ok-kept.field-0.kept c.pop.new.self.items c.in-Some-pop.made one
    (sym c.into_vec.ensures ∙ c.pop.ensures.items ∙ ap (λ o. c.pop.new.self.items ++ option_to_list o) c.in-Some-pop.is) in
    given_outline c.args.later.now c.args.back.now c.from_ref.result.now c.in_ok-kept.field-0 c.from_ref.ensures.value c.in_ok-kept.ensures c.in-Some-pop.made last c.in_default.is

pub returns-clause-cites : goal.returns-clause-cites
returns-clause-cites c =
    let one = one_is_kept c.args.later.now c.args.back.now c.from_ref.result.now c.in_ok-kept.field-0 c.from_ref.ensures.value c.in_ok-kept.ensures c.in_default.is in
    let last = last_one c.in_ok-kept.field-0.kept c.pop.new.self.items c.in-Some-pop.made one
    (sym c.into_vec.ensures ∙ c.pop.ensures.items ∙ ap (λ o. c.pop.new.self.items ++ option_to_list o) c.in-Some-pop.is) in
    given_cites c.args.later.now c.args.back.now c.from_ref.result.now c.in_ok-kept.field-0 c.from_ref.ensures.value c.in_ok-kept.ensures c.in-Some-pop.made last c.in_default.is c.requires.cites
