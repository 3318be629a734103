-- The classes of tags that conversion asks for, and the tag that a kind is written with.
use Rattle.std.specs.Prelude.{ℕ, Bool, List, [], unwrap_or}
use Rattle.ve_kinds.specs.declared.kind.Kind.{Kind}
use Rattle.ve_kinds.specs.Tags.{tag_of_kind, is_one_of, annotation_tags, inline_tags}

-- an element of the tag marks what is in it
abbrev pub is_annotation_tag : List ℕ → Bool
is_annotation_tag tag = is_one_of annotation_tags tag

-- an element of the tag stands within a line
abbrev pub is_inline_tag : List ℕ → Bool
is_inline_tag tag = is_one_of inline_tags tag

-- empty where the kind has no tag
abbrev pub tag_of : Kind → List ℕ
tag_of k = unwrap_or (tag_of_kind k) []
