use Rattle.model_limit_law.proofs.ItemLemmas.{first_item_is_over}
use Rattle.model_limit_law.proofs.WithinLemmas.{limits_are_of_items}
use Rattle.model_limit_law.proofs.laws.limits_are_of_items.Goals as goal

pub returns-clause-within : goal.returns-clause-within
returns-clause-within c = limits_are_of_items

pub returns-clause-over : goal.returns-clause-over
returns-clause-over c = first_item_is_over
