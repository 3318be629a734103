-- The element that a reference is written as: its own, but for the composed `data-mw`.
use Rattle.std.specs.Prelude.{◌≡◌, ℕ, List, Some, codes, encode_utf8_all, option_map, option_and_then}
use Rattle.model_spelling.specs.Grammar.{Attr as Spelled}
use Rattle.model_spelling.specs.Forest.{Forest, Nothing, Element, Spells, spelling}
use Rattle.model_page.specs.Elements.{value_named}
use Rattle.model_page.specs.DataMw.{RefRead, reference_of, composed_mw}
use Rattle.model_page.specs.Editable.{data_mw}
use Rattle.model_page_write.specs.Nodes.{Start}
use Rattle.model_page_write.specs.Written.{Writer, ref_text}
use Rattle.model_page_law.specs.Formed.{value_of_first}

-- Its tag, these children, and attributes which, decoded, say what the head's say, with the
-- composed text for the `data-mw`.
pub record IsWrittenAs (w : Writer) (s : Start) (children : Forest) : Type 0 where
  pub attrs : List Spelled
  pub text_is : ref_text w s ≡ spelling (Element (encode_utf8_all s.head.tag) attrs children Nothing)
  pub mw : value_named (codes "data-mw") attrs ≡ option_map (λ mw. composed_mw mw (option_map w.html s.body)) (data_mw s.head.attrs)
  pub others : (name : List ℕ) → (name ≡ codes "data-mw" → ⊥) → value_named name attrs ≡ value_of_first name s.head.attrs

-- Each reference is written so, where these children spell its source.
abbrev pub ReferenceIsWritten : Type 0
ReferenceIsWritten =
    (w : Writer) (s : Start) (children : Forest) → spelling children ≡ encode_utf8_all s.head.raw → IsWrittenAs w s children

-- So what the element says is of the same group and name, and has the body that the reference
-- carries, where a forest spells the body's text.
abbrev pub ReferenceHasBody : Type 0
ReferenceHasBody =
    (w : Writer) (s : Start) (children : Forest) (written : IsWrittenAs w s children) (r : RefRead) (html : List ℕ) (f : Forest) →
    option_and_then reference_of (data_mw s.head.attrs) ≡ Some r → option_map w.html s.body ≡ Some html → Spells html f →
    option_and_then reference_of (value_named (codes "data-mw") written.attrs)
    ≡ Some (record { group = r.group; name = r.name; html = Some html })
