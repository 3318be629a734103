use Rattle.ve_classify.proofs.ValueLemmas.{held_about, held_typed}
use Rattle.ve_classify.proofs.values.is_held.Goals as goal

pub returns-then-is_some : goal.returns-then-is_some
returns-then-is_some c = λ list slash s. held_about c.spelled_value.result list c.is_some.result (c.spelled_value.ensures list slash s) c.is_some.ensures c.if-is_some.true

pub returns-else-is_some : goal.returns-else-is_some
returns-else-is_some c = λ list slash s. held_typed c.spelled_value.result list c.is_some.result c.has_type.result (c.spelled_value.ensures list slash s) c.is_some.ensures c.if-is_some.false (c.has_type.ensures list slash s)
