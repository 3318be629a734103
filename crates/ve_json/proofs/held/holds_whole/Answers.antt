use Rattle.ve_json.proofs.BegunLemmas.{by_about, by_type, by_none}
use Rattle.ve_json.proofs.held.holds_whole.Goals as goal

pub returns-then-spells : goal.returns-then-spells
returns-then-spells c = by_about c.args.attr.now c.spells.result c.spells.ensures c.if-spells.true

pub returns-then-spells-2 : goal.returns-then-spells-2
returns-then-spells-2 c =
    by_type c.args.attr.now c.spells.result c.spells-else-spells.result c.has_own_word.result c.as_str.result.now c.spells.ensures c.if-spells.false c.spells-else-spells.ensures c.if-spells-2.true c.as_str.ensures.chars c.has_own_word.ensures

pub returns-else-spells-2 : goal.returns-else-spells-2
returns-else-spells-2 c = by_none c.args.attr.now c.spells.result c.spells-else-spells.result c.spells.ensures c.if-spells.false c.spells-else-spells.ensures c.if-spells-2.false
