use Rattle.std.proofs.Common.{◌<◌, length, slice_set, sym, ap, ◌∙◌, subst}
use Rattle.std.proofs.lemmas.List.Edits.{map_over_more}
use Rattle.ve_tx.specs.declared.entry.Entry.{Entry}
use Rattle.ve_site.specs.Dropped.{numbered_alike}
use Rattle.ve_site.proofs.pending.renumbered.Goals as goal

pub loop-entry-preserved : goal.loop-entry-preserved
loop-entry-preserved c =
    let one = c.entry-item.result in
    let below : c.loop-entry.entry-index < length c.args.entries.items =
    subst (λ l. c.loop-entry.entry-index < length l) c.deref_mut-entry-items.ensures.value c.loop-entry-test.true in
    ap (λ (e : Entry). slice_set c.loop-entry.entry-items c.loop-entry.entry-index (numbered_alike c.args.stored e)) (sym c.entry-item.is)
    ∙ map_over_more (numbered_alike c.args.stored) c.args.entries.items c.loop-entry.entry-items c.loop-entry.entry-index one below c.loop-entry.invariant c.entry-item.is
