-- The tags of kinds, and the classes of tags. Names are compared with their case.
use Rattle.std.specs.Prelude.{ℕ, Bool, List, [], ◌∷◌, ◌++◌, Option, Some, None, if◌then◌else◌, codes, bytes_eq}
use Rattle.std.specs.List.{list_any}
use Rattle.ve_kinds.specs.declared.kind.Kind.{Kind}
use Rattle.ve_kinds.specs.declared.kind.Kind.TheVariants.{P, H1, H2, H3, H4, H5, H6, Pre, Section, Li, Dt, Dd, Blockquote, Div, Td, Th, Caption, Ul, Ol, Dl, Table, Thead, Tbody, Tfoot, Tr, Br, Img}
use Rattle.ve_kinds.specs.Table.{kind_same}

-- the element kinds with their tags
abbrev pub tags_of_kinds : List (List ℕ × Kind)
tags_of_kinds =
    (codes "p", P) ∷ (codes "h1", H1) ∷ (codes "h2", H2) ∷ (codes "h3", H3) ∷ (codes "h4", H4) ∷ (codes "h5", H5) ∷ (codes "h6", H6)
    ∷ (codes "pre", Pre) ∷ (codes "section", Section) ∷ (codes "ul", Ul) ∷ (codes "ol", Ol) ∷ (codes "li", Li) ∷ (codes "dl", Dl)
    ∷ (codes "dt", Dt) ∷ (codes "dd", Dd) ∷ (codes "blockquote", Blockquote) ∷ (codes "div", Div) ∷ (codes "table", Table)
    ∷ (codes "caption", Caption) ∷ (codes "thead", Thead) ∷ (codes "tbody", Tbody) ∷ (codes "tfoot", Tfoot) ∷ (codes "tr", Tr)
    ∷ (codes "td", Td) ∷ (codes "th", Th) ∷ (codes "br", Br) ∷ (codes "img", Img) ∷ []

abbrev pub kind_among : List (List ℕ × Kind) → List ℕ → Option Kind
kind_among [] tag = None
kind_among (row ∷ rows) tag = if bytes_eq row.0 tag then Some row.1 else kind_among rows tag

abbrev pub kind_of_tag : List ℕ → Option Kind
kind_of_tag tag = kind_among tags_of_kinds tag

abbrev pub tag_among : List (List ℕ × Kind) → Kind → Option (List ℕ)
tag_among [] k = None
tag_among (row ∷ rows) k = if kind_same row.1 k then Some row.0 else tag_among rows k

-- the other kinds have none
abbrev pub tag_of_kind : Kind → Option (List ℕ)
tag_of_kind k = tag_among tags_of_kinds k

abbrev pub is_one_of : List (List ℕ) → List ℕ → Bool
is_one_of names name = list_any (λ one. bytes_eq one name) names

-- those that mark text
abbrev pub annotation_tags : List (List ℕ)
annotation_tags =
    codes "a" ∷ codes "abbr" ∷ codes "b" ∷ codes "bdi" ∷ codes "big" ∷ codes "cite" ∷ codes "code" ∷ codes "del" ∷ codes "em"
    ∷ codes "font" ∷ codes "i" ∷ codes "ins" ∷ codes "kbd" ∷ codes "mark" ∷ codes "q" ∷ codes "s" ∷ codes "samp" ∷ codes "small"
    ∷ codes "span" ∷ codes "strong" ∷ codes "sub" ∷ codes "sup" ∷ codes "u" ∷ codes "var" ∷ []

-- the other tags that stand within a line
abbrev pub other_inline_tags : List (List ℕ)
other_inline_tags =
    codes "br" ∷ codes "img" ∷ codes "audio" ∷ codes "bdo" ∷ codes "button" ∷ codes "canvas" ∷ codes "data" ∷ codes "dfn"
    ∷ codes "embed" ∷ codes "iframe" ∷ codes "input" ∷ codes "label" ∷ codes "math" ∷ codes "meter" ∷ codes "object"
    ∷ codes "output" ∷ codes "picture" ∷ codes "progress" ∷ codes "rp" ∷ codes "rt" ∷ codes "ruby" ∷ codes "select"
    ∷ codes "strike" ∷ codes "svg" ∷ codes "textarea" ∷ codes "time" ∷ codes "tt" ∷ codes "video" ∷ codes "wbr" ∷ []

abbrev pub inline_tags : List (List ℕ)
inline_tags = annotation_tags ++ other_inline_tags

-- elements without content and without an end tag (WHATWG HTML, "Serializing HTML fragments": void
-- elements and those that serialize as void)
abbrev pub void_tags : List (List ℕ)
void_tags =
    codes "area" ∷ codes "base" ∷ codes "basefont" ∷ codes "bgsound" ∷ codes "br" ∷ codes "col" ∷ codes "embed" ∷ codes "frame"
    ∷ codes "hr" ∷ codes "img" ∷ codes "input" ∷ codes "keygen" ∷ codes "link" ∷ codes "meta" ∷ codes "param" ∷ codes "source"
    ∷ codes "track" ∷ codes "wbr" ∷ []

unfoldable pub is_void : List ℕ → Bool
is_void tag = is_one_of void_tags tag

-- elements whose content is their text up to their end tag, in which nothing is decoded (the same
-- section)
abbrev pub raw_tags : List (List ℕ)
raw_tags = codes "style" ∷ codes "script" ∷ codes "xmp" ∷ codes "iframe" ∷ codes "noembed" ∷ codes "noframes" ∷ []

unfoldable pub is_raw : List ℕ → Bool
is_raw tag = is_one_of raw_tags tag
