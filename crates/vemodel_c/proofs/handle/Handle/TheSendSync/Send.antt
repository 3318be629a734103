-- A handle is no thread's own: it owns a session, and the right to free its box.
use Rattle.std.specs.Prelude.{Bool, true, false}
use mir.Raw.{raw}
use base.Shift.{Keyless}
use denote.Memory.{lone}
use denote.Struct.Struct.{exits_of}
use denote.Struct.Owning.{shape, fields, to}
use denote.Param.Send.{IsSend, AllSend, owning_send, struct_send, sendable}
use denote.RawPtr.{Ptr}
use Rattle.std.proofs.Crossing as heap
use Rattle.std_alloc.proofs.SendSync.{quiet, lies}
use Rattle.vemodel_c.proofs.session.Session.TheSendSync.{the_send as session}
use Rattle.vemodel_c.specs.Ownership.{boxed}
use Rattle.vemodel_c.specs.contracts.handle.Handle.{the_row, the_type}
use Rattle.vemodel_c.specs.contracts.session.Session as Session

owned : (y : Bool) (p : Ptr) (s : Session.the_row.Denot) → Keyless (boxed y Session.the_row p s)
owned true p s = (lies Session.the_row session p s, heap.frees.frees _ (raw (lone Session.the_row.mir)) p)
owned false p s = tt

pub send : IsSend the_row
send =
    let all : AllSend (fields the_type) = (search sendable, (search sendable, tt)) in
    owning_send the_type all (λ d. owned d.is_open d.at d.held)
    (λ k. quiet (to the_type) (exits_of k (fields the_type)) ((struct_send (shape the_type) all).leaving k))
