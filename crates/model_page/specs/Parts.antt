-- A forest with the groups of its held elements formed: that comes before anything else. A group is
-- the most sibling elements that share one `about`, with whitespace alone between them. A held
-- element without `about` is a group by itself.
use Rattle.std.specs.Prelude.{ℕ, Bool, false, ◌&&◌, List, [], ◌++◌, Option, Some, None, if◌then◌else◌, bytes_eq}
use Rattle.model_spelling.specs.Grammar.{Attr, Comment, token_text, start_text, end_text}
use Rattle.model_spelling.specs.Forest.{Forest, Nothing, Text, Remark, Void, RawElement, Element, spelling}
use Rattle.model_page.specs.Elements.{is_white, about_of, is_held}

-- Siblings in order. A group has its nodes, from its first element to its last. What is not held is
-- a text, a comment, an element that has no children, with its source, or an element with its
-- children.
pub data Parts : Type 0 where
  Ended : Parts
  Words : List ℕ → Parts → Parts
  Note : List ℕ → Parts → Parts
  Group : Forest → Parts → Parts
  Single : List ℕ → List Attr → List ℕ → Parts → Parts
  Parent : List ℕ → List Attr → Parts → Parts → Parts

-- the `about` of a group, which is that of its first element
abbrev pub about_in : Forest → Option (List ℕ)
about_in (Void name attrs slash rest) = about_of attrs
about_in (RawElement name attrs text rest) = about_of attrs
about_in (Element name attrs children rest) = about_of attrs
about_in Nothing = None
about_in (Text text rest) = None
about_in (Remark text rest) = None

-- both are there and equal
abbrev pub is_shared : Option (List ℕ) → Option (List ℕ) → Bool
is_shared (Some a) (Some b) = bytes_eq a b
is_shared (Some a) None = false
is_shared None b = false

-- a held element before, in one group with the first one where they share their `about`
abbrev pub with_held : Option (List ℕ) → (Forest → Forest) → Parts → Parts
with_held about element (Group nodes later) =
    if is_shared about (about_in nodes) then Group (element nodes) later else Group (element Nothing) (Group nodes later)
with_held about element (Words text (Group nodes later)) =
    if is_white text && is_shared about (about_in nodes)
    then Group (element (Text text nodes)) later
    else Group (element Nothing) (Words text (Group nodes later))
with_held about element parts = Group (element Nothing) parts

abbrev pub parts_of : Forest → Parts
parts_of Nothing = Ended
parts_of (Text text rest) = Words text (parts_of rest)
parts_of (Remark text rest) = Note text (parts_of rest)
parts_of (Void name attrs slash rest) =
    if is_held attrs
    then with_held (about_of attrs) (Void name attrs slash) (parts_of rest)
    else Single name attrs (start_text name attrs slash) (parts_of rest)
parts_of (RawElement name attrs text rest) =
    if is_held attrs
    then with_held (about_of attrs) (RawElement name attrs text) (parts_of rest)
    else Single name attrs (start_text name attrs false ++ text ++ end_text name) (parts_of rest)
parts_of (Element name attrs children rest) =
    if is_held attrs
    then with_held (about_of attrs) (Element name attrs children) (parts_of rest)
    else Parent name attrs (parts_of children) (parts_of rest)

-- the text that the parts spell
abbrev pub source_of : Parts → List ℕ
source_of Ended = []
source_of (Words text later) = text ++ source_of later
source_of (Note text later) = token_text (Comment text) ++ source_of later
source_of (Group nodes later) = spelling nodes ++ source_of later
source_of (Single name attrs source later) = source ++ source_of later
source_of (Parent name attrs children later) = start_text name attrs false ++ source_of children ++ end_text name ++ source_of later
