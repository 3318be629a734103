use Rattle.std.proofs.Common.{option_map, sym, ap, ◌∙◌}
use Rattle.serde_json.specs.View.{view}
use Rattle.model_world.specs.Commands.{or_bad_command}
use Rattle.ve_json.proofs.LineLemmas.{asked_of, bad_asked}
use Rattle.ve_json.proofs.line.command.Goals as goal

pub returns-in_err-command_in-clause-refused : goal.returns-in_err-command_in-clause-refused
returns-in_err-command_in-clause-refused c = λ why h.
    bad_asked c.args.line.now (view c.in-Some.json) c.in_err-command_in.field-0.0 why c.from_residual-in_err-command_in.result
    (ap (option_map view) (sym c.in-Some.is) ∙ c.in_ok-json.ensures) c.in_err-command_in.ensures c.from_residual-in_err-command_in.ensures.1 h

pub returns-clause-ok : goal.returns-clause-ok
returns-clause-ok c =
    asked_of c.args.line.now (view c.in-Some.json) (ap (option_map view) (sym c.in-Some.is) ∙ c.in_ok-json.ensures) ∙ ap or_bad_command c.in_ok-command_in.ensures
