-- Entries: transactions that are one change, with the lengths of the store before and after them, and
-- the number of the entry that they take back.
use Rattle.std.specs.Prelude.{◌++◌}
use Rattle.ve_tx.specs.declared.entry.Entry.{Entry}

-- the entry and a later one as one
abbrev pub entry_with : Entry → Entry → Entry
entry_with entry later = record entry { txs = entry.txs ++ later.txs; store_after = later.store_after }
