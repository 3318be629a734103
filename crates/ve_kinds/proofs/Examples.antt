-- Worked examples of the tables.
use Rattle.std.specs.Prelude.{◌≡◌, true, false, codes, Some, None, refl}
use Rattle.ve_kinds.specs.declared.kind.Kind.TheVariants.{Td, Ref, Section, P, Li, Ul, Table, AlienBlock}
use Rattle.ve_kinds.specs.Table.{may_hold}
use Rattle.ve_kinds.specs.Tags.{kind_of_tag, tag_of_kind, is_one_of, annotation_tags, inline_tags, is_void}

cell : kind_of_tag (codes "td") ≡ Some Td
cell = refl

-- with its case
no_cell : kind_of_tag (codes "TD") ≡ None
no_cell = refl

no_tag : tag_of_kind Ref ≡ None
no_tag = refl

a_break_is_inline : is_one_of inline_tags (codes "wbr") ≡ true
a_break_is_inline = refl

no_annotation : is_one_of annotation_tags (codes "wbr") ≡ false
no_annotation = refl

a_rule_is_void : is_void (codes "hr") ≡ true
unfolding is_void
a_rule_is_void = refl

an_item_in_a_list : may_hold Ul Li ≡ true
an_item_in_a_list = refl

no_paragraph_in_a_list : may_hold Ul P ≡ false
no_paragraph_in_a_list = refl

no_section_in_a_cell : may_hold Td Section ≡ false
no_section_in_a_cell = refl

an_alien_in_a_table : may_hold Table AlienBlock ≡ true
an_alien_in_a_table = refl
