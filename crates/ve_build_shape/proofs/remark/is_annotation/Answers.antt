use Rattle.std.proofs.Common.{◌∙◌}
use Rattle.ve_build_shape.proofs.MarkLemmas.{annotation_same}
use Rattle.ve_build_shape.proofs.remark.is_annotation.Goals as goal

pub returns : goal.returns
returns c = c.is_annotation_tag.ensures ∙ annotation_same c.as_str.result.now c.args.tag.now c.as_str.ensures.chars c.as_str.ensures.bytes
