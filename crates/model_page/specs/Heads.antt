-- Heads and marks read from tags. Items have scalars where the page has bytes.
use Rattle.std.specs.Prelude.{ℕ, false, List, [], map, None, chars}
use Rattle.model_spelling.specs.Grammar.{Attr as Spelled}
use Rattle.model_spelling.specs.Written.{decoded}
use Rattle.ve_base.specs.declared.attrs.Attr.{Attr}
use Rattle.ve_base.specs.declared.head.Head.{Head}

-- the characters that a text or a value stands for
abbrev pub characters : List ℕ → List ℕ
characters spelled = chars (decoded spelled)

abbrev pub attr_of : Spelled → Attr
attr_of attr = record { name = chars attr.name; value = characters attr.value }

abbrev pub attrs_of : List Spelled → List Attr
attrs_of attrs = map attr_of attrs

-- the head of a branch, or of br and img: the attributes alone
abbrev pub head_with : List Spelled → Head
head_with attrs = record { tag = []; attrs = attrs_of attrs; raw = []; reference = None; owner = false }

-- the head of a leaf that is kept whole: its source alone
abbrev pub whole_head : List ℕ → Head
whole_head source = record { tag = []; attrs = []; raw = chars source; reference = None; owner = false }
