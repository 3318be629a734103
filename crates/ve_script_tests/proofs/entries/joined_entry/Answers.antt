use Rattle.std.proofs.Common.{◌≡◌, [], ◌∷◌}
use Rattle.model_change.specs.Transaction.{Transaction, old_length}
use Rattle.ve_rebase.specs.Lists.{RunFromOneLength}
use Rattle.ve_script_tests.proofs.entries.joined_entry.Goals as goal

runs : (a b : Transaction) → old_length a ≡ 5 → old_length b ≡ 5 → RunFromOneLength (a ∷ []) (b ∷ [])
runs a b first second = record { length = 5; committed_run = (first, tt); mine_run = (second, tt) }

pub entry_over_list-requires : goal.entry_over_list-requires
entry_over_list-requires c =
    rw (c.in_ok-push.ensures.ok, c.new-committed.ensures, c.in_ok-entry.ensures, c.in_ok-mine.ensures)
    (runs _ _ (c.in_ok-insertion.ensures []) (c.in_ok-insertion-2.ensures []))
