-- Leaves, where the text of the body that a reference carries is named in place of the body.
use Rattle.std.specs.Prelude.{◌≡◌, ℕ, true, List, ◌++◌, map, Option, IsSome, option_map, bytes_eq, codes, encode_utf8_all}
use Rattle.ve_base.specs.declared.attrs.Attr.{Attr}
use Rattle.ve_base.specs.declared.head.Head.{Head}
use Rattle.ve_kinds.specs.declared.kind.Kind.{Kind}
use Rattle.ve_kinds.specs.declared.kind.Kind.TheVariants.{Br, Img, Ref}
use Rattle.model_spelling.specs.Written.{attr_bytes, canon_start, start_tag}
use Rattle.model_page.specs.DataMw.{reference_of}
use Rattle.model_page.specs.Tags.{tag_of}
use Rattle.model_page_write.specs.Nodes.{Start}
use Rattle.model_page_write.specs.Written.{Writer, end_tag, leaf_text, with_mw}

-- the start tag of a reference, with the composed `data-mw` in the place of its own
abbrev pub ref_start : Head → Option (List ℕ) → List ℕ
ref_start head body = canon_start (encode_utf8_all head.tag) (map (λ a. with_mw (attr_bytes a) body) head.attrs)

abbrev pub ref_of : Head → Option (List ℕ) → List ℕ
ref_of head body = ref_start head body ++ encode_utf8_all head.raw ++ end_tag head.tag

-- a leaf, where the body that it carries has this text
abbrev pub leaf_of : Head → Option (List ℕ) → Kind → List ℕ
leaf_of head body Br = start_tag (encode_utf8_all (tag_of Br)) head.attrs
leaf_of head body Img = start_tag (encode_utf8_all (tag_of Img)) head.attrs
leaf_of head body Ref = ref_of head body
leaf_of head body _ = encode_utf8_all head.raw

-- where the attribute is a `data-mw`, it is editable
abbrev pub CanCompose : Attr → Type 0
CanCompose a = bytes_eq (encode_utf8_all a.name) (codes "data-mw") ≡ true → IsSome (reference_of (encode_utf8_all a.value))

-- ---- law

-- such a leaf is the one that a writer writes, whose texts of bodies these are
abbrev pub LeavesAreWritten : Type 0
LeavesAreWritten = (w : Writer) (s : Start) (kind : Kind) → leaf_text w s kind ≡ leaf_of s.head (option_map w.html s.body) kind
