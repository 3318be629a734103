use Rattle.std.proofs.Common.{sym, ap, ◌∙◌}
use Rattle.std.specs.List.{list_any}
use Rattle.ve_changes.specs.Completions.{first_items, takes_first}
use Rattle.ve_changes.proofs.CompletionLemmas.{changes_same}
use Rattle.ve_changes.proofs.completion.all_completed.Goals as goal

pub returns-then-not-take_first : goal.returns-then-not-take_first
returns-then-not-take_first c =
    sym (changes_same (first_items c.args.first) c.args.changes (ap (list_any takes_first) (sym c.as_slice.ensures) ∙ sym c.take_first.ensures ∙ c.if-not-take_first.true))
