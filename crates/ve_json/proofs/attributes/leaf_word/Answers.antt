use Rattle.std.proofs.Common.{sym}
use Rattle.model_world.specs.Attributes.{leaf_kinds}
use Rattle.ve_json.proofs.WordLemmas.{meant_by-none}
use Rattle.ve_json.proofs.attributes.leaf_word.Goals as goal

pub returns-in_default : goal.returns-in_default
returns-in_default c =
    let n = c.in_default in
    sym (meant_by-none leaf_kinds c.args.word.now (n.not-trans_block, (n.not-alien_block, (n.not-ref, (n.not-trans_inline, (n.not-alien_inline, tt))))))
