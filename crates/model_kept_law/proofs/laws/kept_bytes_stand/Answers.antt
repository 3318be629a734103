use Rattle.model_kept_law.proofs.StandingBytes.{blocks_joined, bytes_are_first, kept_block_stands, kept_leaf_stands, moved_keeps_bytes, rest_stands}
use Rattle.model_kept_law.proofs.laws.kept_bytes_stand.Goals as goal

pub returns-clause-block : goal.returns-clause-block
returns-clause-block c = kept_block_stands

pub returns-clause-leaf : goal.returns-clause-leaf
returns-clause-leaf c = kept_leaf_stands

pub returns-clause-bytes : goal.returns-clause-bytes
returns-clause-bytes c = bytes_are_first

pub returns-clause-moved : goal.returns-clause-moved
returns-clause-moved c = moved_keeps_bytes

pub returns-clause-siblings : goal.returns-clause-siblings
returns-clause-siblings c = blocks_joined

pub returns-clause-rest : goal.returns-clause-rest
returns-clause-rest c = rest_stands
