use Rattle.std.proofs.Common.{◌∙◌}
use Rattle.ve_json.proofs.TestLemmas.{tag_by_chars}
use Rattle.ve_json.proofs.attributes.is_tag_of_marks.Goals as goal

pub returns : goal.returns
returns c = c.is_annotation_tag.ensures ∙ tag_by_chars c.as_str.result.now c.args.tag.now c.as_str.ensures.chars c.as_str.ensures.bytes
