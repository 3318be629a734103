-- The items outside the active range stay.
use Rattle.std.proofs.Common.{◌≡◌, ◌-◌, ◌≤◌, ◌++◌, length, take, drop, sym, ap, ◌∙◌, arith, take-append-drop}
use Rattle.std.proofs.lemmas.List.{drop-drop, length-drop, length-take-le}
use Rattle.model_change.specs.Transaction.{edited}
use Rattle.model_change.specs.Join.{first, core, last, reach, end_of, OnlyActiveChanges}
use Rattle.model_change.proofs.JoinLemmas.{parts_of, edited-append, edited-with_ends}
use Rattle.model_change.proofs.JoinNormal.{reach_within}

pub only_active_changes : OnlyActiveChanges
only_active_changes t items reduced applies =
    let p = parts_of t items reduced applies in
    let rest = drop (first t) items in
    let whole = p.whole in
    let cut : length rest ≡ length items - first t = length-drop (first t) items in
    let far : reach (core t) ≤ length rest = reach_within (core t) rest p.fits (omega arith) in
    let within = take (reach (core t)) rest in
    let suffix = drop (reach (core t)) rest in
    let long : length within ≡ reach (core t) = length-take-le (reach (core t)) rest far in
    let kept : edited (core t) rest ≡ edited (core t) within ++ suffix =
    ap (edited (core t)) (sym (take-append-drop (reach (core t)) rest)) ∙ edited-append suffix (core t) within (omega arith) in
    let there : suffix ≡ drop (end_of t) items = drop-drop (reach (core t)) (first t) items in (
      edited (core t) within,
      ap (λ u. edited u items) (sym p.split) ∙ edited-with_ends (first t) (core t) (last t) items
          ∙ ap (λ l. take (first t) items ++ l) (kept ∙ ap (λ l. edited (core t) within ++ l) there),
    )
