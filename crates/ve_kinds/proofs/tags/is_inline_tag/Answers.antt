use Rattle.ve_kinds.specs.Tags.{annotation_tags, other_inline_tags}
use Rattle.ve_kinds.proofs.TagLemmas.{among_first, among_last}
use Rattle.ve_kinds.proofs.tags.is_inline_tag.Goals as goal

pub returns-then-is_annotation_tag : goal.returns-then-is_annotation_tag
returns-then-is_annotation_tag c = among_first annotation_tags other_inline_tags c.args.tag.now _ c.is_annotation_tag.ensures c.if-is_annotation_tag.true

pub returns-else-is_annotation_tag : goal.returns-else-is_annotation_tag
returns-else-is_annotation_tag c = among_last annotation_tags other_inline_tags c.args.tag.now _ _ c.is_annotation_tag.ensures c.if-is_annotation_tag.false c.is_one_of.ensures
