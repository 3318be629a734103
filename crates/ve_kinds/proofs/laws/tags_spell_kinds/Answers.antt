use Rattle.ve_kinds.proofs.LawLemmas.{tags_spell, their_tags}
use Rattle.ve_kinds.proofs.laws.tags_spell_kinds.Goals as goal

pub returns : goal.returns
returns c = record { tag_then_kind = tags_spell; kind_then_tag = their_tags }
