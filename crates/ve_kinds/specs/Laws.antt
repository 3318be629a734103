-- Laws of the tables of kinds and tags.
use Rattle.std.specs.Prelude.{◌≡◌, ℕ, ◌+◌, Bool, true, false, List, Some, None, IfSome, if◌then◌else◌}
use Rattle.std.specs.Option.{option_and_then}
use Rattle.ve_kinds.specs.declared.kind.Kind.{Kind}
use Rattle.ve_kinds.specs.Table.{is_among, blocks, is_content_branch, is_flow, is_structural, is_block_leaf, is_inline_leaf, is_leaf, is_element, may_hold}
use Rattle.ve_kinds.specs.Tags.{kind_of_tag, tag_of_kind}

abbrev pub one_where : Bool → ℕ
one_where holds = if holds then 1 else 0

-- each kind is of one class, and of no second one
abbrev pub KindsHaveOneClass : Type 0
KindsHaveOneClass = (k : Kind) →
    one_where (is_content_branch k) + one_where (is_flow k) + one_where (is_structural k)
    + one_where (is_block_leaf k) + one_where (is_inline_leaf k) ≡ 1

-- an element kind's tag spells that kind, and no other kind has a tag
abbrev pub TagsSpellElements : Type 0
TagsSpellElements = (k : Kind) → option_and_then kind_of_tag (tag_of_kind k) ≡ (if is_element k then Some k else None)

-- a tag that spells a kind is that kind's tag
abbrev pub KindsHaveTheirTags : Type 0
KindsHaveTheirTags = (tag : List ℕ) → IfSome (kind_of_tag tag) (λ k. tag_of_kind k ≡ Some tag)

-- leaves hold nothing
abbrev pub LeavesAreEmpty : Type 0
LeavesAreEmpty = (k child : Kind) → is_leaf k ≡ true → may_hold k child ≡ false

-- beside characters a content branch holds inline leaves alone, and these stand nowhere else
abbrev pub InlineLeavesStandInContent : Type 0
InlineLeavesStandInContent = (k child : Kind) → is_inline_leaf child ≡ true → may_hold k child ≡ is_content_branch k

-- every flow kind holds every block
abbrev pub FlowHoldsBlocks : Type 0
FlowHoldsBlocks = (k child : Kind) → is_flow k ≡ true → is_among blocks child ≡ true → may_hold k child ≡ true
