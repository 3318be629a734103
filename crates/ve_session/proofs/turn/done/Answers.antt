use Rattle.model_world.specs.declared.command.Request.TheVariants as request
use Rattle.ve_session.proofs.StopLemmas.{may_want, request_wants}
use Rattle.ve_session.proofs.turn.done.Goals as goal

pub returns-in-Edit-clause-memory : goal.returns-in-Edit-clause-memory
returns-in-Edit-clause-memory g c =
    request_wants c.edit.result c.args.k c.args.session.now c.args.request.now (request.Edit c.in-Edit.change) c.in-Edit.is c.edit.ensures.memory

pub returns-in-Batch-clause-memory : goal.returns-in-Batch-clause-memory
returns-in-Batch-clause-memory g c =
    request_wants c.batch.result c.args.k c.args.session.now c.args.request.now (request.Batch c.in-Batch.cmds) c.in-Batch.is (may_want c.batch.result _ tt)

pub returns-in-TypeText-clause-memory : goal.returns-in-TypeText-clause-memory
returns-in-TypeText-clause-memory g c =
    request_wants c.type_at.result c.args.k c.args.session.now c.args.request.now (request.TypeText c.in-TypeText.text) c.in-TypeText.is (may_want c.type_at.result _ tt)

pub returns-in-Erase-clause-memory : goal.returns-in-Erase-clause-memory
returns-in-Erase-clause-memory g c =
    request_wants c.erase.result c.args.k c.args.session.now c.args.request.now (request.Erase c.in-Erase.dir c.in-Erase.by) c.in-Erase.is (may_want c.erase.result _ tt)

pub returns-in-Move-clause-memory : goal.returns-in-Move-clause-memory
returns-in-Move-clause-memory g c =
    request_wants c.move_caret.result c.args.k c.args.session.now c.args.request.now (request.Move c.in-Move.dir c.in-Move.by c.in-Move.keep) c.in-Move.is (may_want c.move_caret.result _ tt)

pub returns-in-Tell-clause-memory : goal.returns-in-Tell-clause-memory
returns-in-Tell-clause-memory g c =
    request_wants c.tell.result c.args.k c.args.session.now c.args.request.now (request.Tell) c.in-Tell.is (may_want c.tell.result _ tt)

pub returns-in-Select-clause-memory : goal.returns-in-Select-clause-memory
returns-in-Select-clause-memory g c =
    request_wants c.select.result c.args.k c.args.session.now c.args.request.now (request.Select c.in-Select.anchor c.in-Select.focus) c.in-Select.is c.select.ensures.memory

pub returns-in-Undo-clause-memory : goal.returns-in-Undo-clause-memory
returns-in-Undo-clause-memory g c =
    request_wants c.undo.result c.args.k c.args.session.now c.args.request.now (request.Undo) c.in-Undo.is c.undo.ensures.memory

pub returns-in-Redo-clause-memory : goal.returns-in-Redo-clause-memory
returns-in-Redo-clause-memory g c =
    request_wants c.redo.result c.args.k c.args.session.now c.args.request.now (request.Redo) c.in-Redo.is c.redo.ensures.memory

pub returns-in-Revoke-clause-memory : goal.returns-in-Revoke-clause-memory
returns-in-Revoke-clause-memory g c =
    request_wants c.revoke.result c.args.k c.args.session.now c.args.request.now (request.Revoke c.in-Revoke.entry c.in-Revoke.live) c.in-Revoke.is c.revoke.ensures.memory

pub returns-in-Send-clause-memory : goal.returns-in-Send-clause-memory
returns-in-Send-clause-memory g c =
    request_wants c.send.result c.args.k c.args.session.now c.args.request.now (request.Send) c.in-Send.is c.send.ensures.memory

pub returns-in-Serve-clause-memory : goal.returns-in-Serve-clause-memory
returns-in-Serve-clause-memory g c =
    request_wants c.serve.result c.args.k c.args.session.now c.args.request.now (request.Serve) c.in-Serve.is c.serve.ensures.memory

pub returns-in-Take-clause-memory : goal.returns-in-Take-clause-memory
returns-in-Take-clause-memory g c =
    request_wants c.take.result c.args.k c.args.session.now c.args.request.now (request.Take) c.in-Take.is c.take.ensures.memory
