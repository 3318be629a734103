-- Values whose parts are equal are equal.
use Rattle.std.proofs.Common.{◌≡◌, ℕ, List, ap, ◌∙◌}
use Rattle.ve_base.specs.declared.attrs.Attr.{Attr}
use Rattle.ve_base.specs.declared.marks.Mark.{Mark}

abbrev attr_of : (name value : List ℕ) → Attr
attr_of name value = record { name = name; value = value }

pub equal_attr : (one other : Attr) → one.name ≡ other.name → one.value ≡ other.value → one ≡ other
equal_attr one other name value = ap (λ text. attr_of text one.value) name ∙ ap (λ text. attr_of other.name text) value

abbrev mark_of : (tag : List ℕ) (attrs : List Attr) → Mark
mark_of tag attrs = record { tag = tag; attrs = attrs }

pub equal_mark : (one other : Mark) → one.tag ≡ other.tag → one.attrs ≡ other.attrs → one ≡ other
equal_mark one other tag attrs = ap (λ text. mark_of text one.attrs) tag ∙ ap (λ list. mark_of other.tag list) attrs
