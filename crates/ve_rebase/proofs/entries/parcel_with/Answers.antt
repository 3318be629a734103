use Rattle.std.proofs.Common.{All, sym, subst}
use Rattle.ve_tx.specs.Cites.{TxCites}
use Rattle.ve_rebase.proofs.EntryLemmas.{same_outline}
use Rattle.ve_rebase.proofs.entries.parcel_with.Goals as goal

pub returns-clause-outline : goal.returns-clause-outline
returns-clause-outline c =
    same_outline c.args.parcel.now c.in_ok-written.field-0 c.in_ok-copy.field-0 c.args.all.now c.in_ok-written.ensures.written c.requires.kept c.in_ok-copy.ensures

pub returns-clause-cites : goal.returns-clause-cites
returns-clause-cites c = λ cites.
    subst (λ v. All (TxCites v) c.in_ok-written.field-0) (sym c.in_ok-copy.ensures)
    (c.in_ok-written.ensures.cite c.args.parcel.now.values (subst (All (TxCites c.args.parcel.now.values)) (sym c.requires.kept) cites))
