-- How it is told why an entry is not taken back. Want of memory may come at any time.
use Rattle.std.specs.Prelude.{◌≡◌, List, Result, Err}
use Rattle.model_change.specs.Join.{RangeConflict}
use Rattle.model_change.specs.Transaction.{Transaction}
use Rattle.model_site.specs.Live.{RevokeCause}
use Rattle.model_site.specs.Live as cause
use Rattle.ve_peer_undo.specs.declared.fault.LiveFault.{LiveFault}
use Rattle.ve_peer_undo.specs.declared.fault.LiveFault.TheVariants as live
use Rattle.ve_peer_undo.specs.declared.fault.RevokeFault.{RevokeFault}
use Rattle.ve_peer_undo.specs.declared.fault.RevokeFault.TheVariants as fault

abbrev pub IsRevokeRefusal : Result (List Transaction) RangeConflict → RevokeFault → Type 0
IsRevokeRefusal back (fault.Conflict later reversal) = back ≡ Err (record { committed = later; mine = reversal })
IsRevokeRefusal back fault.Memory = Unit {0}

abbrev pub IsLiveRefusal : Result (List Transaction) RevokeCause → LiveFault → Type 0
IsLiveRefusal back (live.TakenBack by) = back ≡ Err (cause.TakenBack by)
IsLiveRefusal back (live.Conflict later reversal) = back ≡ Err (cause.Conflict (record { committed = later; mine = reversal }))
IsLiveRefusal back live.Memory = Unit {0}

-- the same fault, as one of entries that count
abbrev pub live_fault : RevokeFault → LiveFault
live_fault (fault.Conflict later reversal) = live.Conflict later reversal
live_fault fault.Memory = live.Memory
