use Rattle.model_items.specs.Plain.{plain_list}
use Rattle.ve_internal.proofs.NoteLemmas.{known, rows_are}
use Rattle.ve_internal.proofs.rows.table.Goals as goal

pub rows_of-requires : goal.rows_of-requires
rows_of-requires c = λ i k e. known _ (plain_list c.args.store.now c.args.list.now.items) i k c.in_ok-notes.ensures e

pub returns : goal.returns
returns c = rows_are _ (plain_list c.args.store.now c.args.list.now.items) c.in_ok-rows.rows c.in_ok-notes.ensures c.in_ok-rows.ensures
