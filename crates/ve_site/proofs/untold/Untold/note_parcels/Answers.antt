use Rattle.std.proofs.Common.{◌≡◌, ◌≤◌, ◌+◌, List, suc, length, map, drop, refl, ap, ◌∙◌, sym, subst, arith}
use Rattle.std.proofs.lemmas.List.{drop_all}
use Rattle.model_change.specs.Replay.{flattened}
use Rattle.model_site.specs.Untold.{Untold, max_patches, passed, patches_of}
use Rattle.ve_tx.specs.ByValue.{parcel_by_value}
use Rattle.ve_tx.specs.Operation.{Operation, by_value}
use Rattle.ve_tx.specs.declared.parcel.Parcel.{Parcel}
use Rattle.ve_site.proofs.NotedLemmas.{parcel_noted}
use Rattle.ve_site.proofs.PatchLemmas.{next_is, stays_within, with_none}
use Rattle.ve_site.proofs.untold.Untold.note_parcels.Goals as goal

pub loop-parcel-init : goal.loop-parcel-init
loop-parcel-init c = record { noted = refl; within = subst (λ (x : Untold). length x.patches ≤ suc max_patches) c.self.view_is c.self.invariant.within }

pub loop-parcel-preserved : goal.loop-parcel-preserved
loop-parcel-preserved c =
    let ps = c.args.parcels.now in
    let i = c.loop-parcel.parcel-index in
    let p = c.parcel-item.result in
    let noted : c.note.new.self ≡ passed (parcel_by_value p) c.loop-parcel.self =
    c.note.ensures p.values ∙ ap (λ (txs : List (List Operation)). passed (map (by_value p.values) txs) c.loop-parcel.self) c.as_slice.ensures in
    record {
      noted = parcel_noted p (drop i ps) (drop (i + 1) ps) c.loop-parcel.self c.note.new.self (passed (flattened (map parcel_by_value ps)) c.args.self.now)
          (next_is i ps p c.loop-parcel-test.true c.parcel-item.is) c.loop-parcel.invariant.noted noted;
      within = stays_within (patches_of (parcel_by_value p)) c.loop-parcel.self c.note.new.self noted;
    }

pub returns : goal.returns
returns c =
    let ps = c.args.parcels.now in
    let none = drop_all c.loop-parcel.parcel-index ps (omega (arith, c.loop-parcel-test.false)) in
    sym (with_none c.loop-parcel.self c.loop-parcel.invariant.within)
    ∙ (ap (λ (l : List Parcel). passed (flattened (map parcel_by_value l)) c.loop-parcel.self) (sym none) ∙ c.loop-parcel.invariant.noted)
