-- The written form of a reference that may stand.
use Rattle.std.specs.Prelude.{◌≡◌, ℕ, true, List, Some, None, codes, encode_utf8_all, option_map, option_and_then}
use Rattle.ve_kinds.specs.declared.kind.Kind.TheVariants.{Ref}
use Rattle.model_items.specs.declared.plain_item.PlainItem.TheVariants.{Opening}
use Rattle.model_spelling.specs.Forest.{Forest, Spells, spelling}
use Rattle.model_spelling.specs.Parsed.{forest_of}
use Rattle.model_page.specs.DataMw.{RefRead, reference_of, if_owner_or_named}
use Rattle.model_page.specs.Editable.{data_mw}
use Rattle.model_page.specs.Elements.{value_named}
use Rattle.model_page_write.specs.Nodes.{Start}
use Rattle.model_page_write.specs.Written.{Writer}
use Rattle.model_page_law.specs.WrittenReference.{IsWrittenAs}
use Rattle.model_world_law.specs.Standing.{may_stand}

-- Its element, and what it says: the reference's group and name, and
pub record IsWrittenFor (w : Writer) (s : Start) (children : Forest) : Type 0 where
  pub element : IsWrittenAs w s children
  pub said : RefRead
  pub says : option_and_then reference_of (data_mw s.head.attrs) ≡ Some said
  -- the body that the reference carries, where a forest of at most 200 levels spells the body's
  -- text
  pub body : (html : List ℕ) (f : Forest) → option_map w.html s.body ≡ Some html → Spells html f →
      option_and_then reference_of (value_named (codes "data-mw") element.attrs)
      ≡ Some (record { group = said.group; name = said.name; html = Some html })
  -- where none does, it is not editable
  pub barred : (html : List ℕ) → option_map w.html s.body ≡ Some html → forest_of html ≡ None →
      option_and_then reference_of (value_named (codes "data-mw") element.attrs) ≡ None
  -- where it carries none, it uses one by its name, and is not editable where it has no name
  pub reuses : option_map w.html s.body ≡ None →
      option_and_then reference_of (value_named (codes "data-mw") element.attrs)
      ≡ if_owner_or_named (record { group = said.group; name = said.name; html = None })

-- These children spell the source of the reference.
abbrev pub ReferencesAreWritten : Type 0
ReferencesAreWritten = (w : Writer) (s : Start) (children : Forest) → s.kind ≡ Ref →
    may_stand (Opening s.kind s.head s.marks s.pre s.origin s.generated) ≡ true → spelling children ≡ encode_utf8_all s.head.raw →
    IsWrittenFor w s children
