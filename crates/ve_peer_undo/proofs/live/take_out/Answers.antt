use Rattle.std.proofs.Common.{◌++◌, take, get_or, refl, sym, ap, ◌∙◌, subst}
use Rattle.ve_tx.specs.ByValue.{parcel_by_value}
use Rattle.ve_peer_undo.specs.Counted.{IsLeft, position_of}
use Rattle.ve_peer_undo.proofs.PositionLemmas.{without_none}
use Rattle.ve_peer_undo.proofs.TakenOutLemmas.{after_cite, behind, kept_out, may_leave, not_out, out}
use Rattle.ve_peer_undo.proofs.live.take_out.Goals as goal

pub returns-in_default-clause-taken : goal.returns-in_default-clause-taken
returns-in_default-clause-taken c = (
  without_none c.args.number (parcel_by_value c.args.back.now) c.args.numbers.now.items c.args.parcels.now c.requires.kept.many
      (ap (position_of c.args.number) (sym c.as_slice.ensures.value) ∙ sym c.in_default.ensures.first),
  refl,
)

pub left_without-requires-clause-after : goal.left_without-requires-clause-after
left_without-requires-clause-after c =
    after_cite c.args.numbers.now.items c.args.parcels.now c.requires.kept c.args.number c.in-Some.at
    (ap (position_of c.args.number) (sym c.as_slice.ensures.value) ∙ sym c.in-Some.ensures.first) c.index-all-at.result
    (c.index-all-at.is ∙ ap (λ ps. get_or ps c.in-Some.at c.index-all-at.result) c.as_slice-all.ensures) c.in_ok-after.after
    (behind c.as_slice-all.result.now c.args.parcels.now c.in_ok-after.after c.in-Some.at c.as_slice-all.ensures c.in_ok-after.ensures)

pub left_without-requires-clause-run : goal.left_without-requires-clause-run
left_without-requires-clause-run c =
    may_leave c.args.numbers.now.items c.args.parcels.now c.requires.kept c.args.number c.in-Some.at
    (ap (position_of c.args.number) (sym c.as_slice.ensures.value) ∙ sym c.in-Some.ensures.first) c.index-all-at.result
    (c.index-all-at.is ∙ ap (λ ps. get_or ps c.in-Some.at c.index-all-at.result) c.as_slice-all.ensures) c.in_ok-after.after
    (behind c.as_slice-all.result.now c.args.parcels.now c.in_ok-after.after c.in-Some.at c.as_slice-all.ensures c.in_ok-after.ensures)
    c.requires.run

pub returns-in_default-2-clause-taken : goal.returns-in_default-2-clause-taken
returns-in_default-2-clause-taken c = (
  not_out c.args.numbers.now.items c.args.parcels.now c.requires.kept c.args.number c.in-Some.at
      (ap (position_of c.args.number) (sym c.as_slice.ensures.value) ∙ sym c.in-Some.ensures.first) c.index-all-at.result
      (c.index-all-at.is ∙ ap (λ ps. get_or ps c.in-Some.at c.index-all-at.result) c.as_slice-all.ensures) c.in_ok-after.after
      (behind c.as_slice-all.result.now c.args.parcels.now c.in_ok-after.after c.in-Some.at c.as_slice-all.ensures c.in_ok-after.ensures)
      c.args.back.now c.in_ok-left.field-0 c.in_default-2.is c.in_ok-left.ensures,
  refl,
)

pub returns-clause-taken : goal.returns-clause-taken
returns-clause-taken c =
    out c.args.numbers.now.items c.args.parcels.now c.requires.kept c.args.number c.in-Some.at
    (ap (position_of c.args.number) (sym c.as_slice.ensures.value) ∙ sym c.in-Some.ensures.first) c.index-all-at.result
    (c.index-all-at.is ∙ ap (λ ps. get_or ps c.in-Some.at c.index-all-at.result) c.as_slice-all.ensures) c.in_ok-after.after
    (behind c.as_slice-all.result.now c.args.parcels.now c.in_ok-after.after c.in-Some.at c.as_slice-all.ensures c.in_ok-after.ensures)
    c.args.back.now c.in-Some-2.left (subst (IsLeft c.in_ok-after.after c.index-all-at.result c.args.back.now) c.in-Some-2.is c.in_ok-left.ensures)
    c.remove.new.self.items c.from_vec.result c.remove.ensures.items
    (c.from_vec.ensures ∙ (c.in_ok-append.ensures.items
    ∙ (ap (λ ps. ps ++ c.into_vec.result.items) (c.truncate.ensures.items ∙ ap (take c.in-Some.at) (c.into_vec-rest.ensures ∙ c.replace.ensures.value))
    ∙ ap (λ qs. take c.in-Some.at c.args.parcels.now ++ qs) c.into_vec.ensures)))

pub returns-clause-kept : goal.returns-clause-kept
returns-clause-kept c =
    kept_out c.args.numbers.now.items c.args.parcels.now c.requires.kept c.args.number c.in-Some.at
    (ap (position_of c.args.number) (sym c.as_slice.ensures.value) ∙ sym c.in-Some.ensures.first) c.index-all-at.result
    (c.index-all-at.is ∙ ap (λ ps. get_or ps c.in-Some.at c.index-all-at.result) c.as_slice-all.ensures) c.in_ok-after.after
    (behind c.as_slice-all.result.now c.args.parcels.now c.in_ok-after.after c.in-Some.at c.as_slice-all.ensures c.in_ok-after.ensures)
    c.args.back.now c.in-Some-2.left (subst (IsLeft c.in_ok-after.after c.index-all-at.result c.args.back.now) c.in-Some-2.is c.in_ok-left.ensures)
    c.remove.new.self.items c.from_vec.result c.remove.ensures.items
    (c.from_vec.ensures ∙ (c.in_ok-append.ensures.items
    ∙ (ap (λ ps. ps ++ c.into_vec.result.items) (c.truncate.ensures.items ∙ ap (take c.in-Some.at) (c.into_vec-rest.ensures ∙ c.replace.ensures.value))
    ∙ ap (λ qs. take c.in-Some.at c.args.parcels.now ++ qs) c.into_vec.ensures)))
