-- Which groups are references, and what their heads say. A reference is one element `sup` or `span`
-- of the type `mw:Extension/ref` and not `mw:Transclusion`, outside of structural parents,
-- reference bodies and fragments, with an editable `data-mw`. It owns its body or uses one by name,
-- and a named body has one owner: the first.
use Rattle.std.specs.Prelude.{ℕ, Bool, true, false, not, ◌&&◌, List, [], ◌∷◌, length, filter, Option, Some, None, is_some, if◌then◌else◌, codes, chars}
use Rattle.std.specs.List.{list_any}
use Rattle.model_spelling.specs.Grammar.{Attr as Spelled}
use Rattle.model_spelling.specs.Forest.{Forest, Nothing, Element, spelling}
use Rattle.ve_base.specs.declared.head.Key.{Key}
use Rattle.ve_base.specs.declared.head.Key.TheVariants.{Named, Auto}
use Rattle.ve_base.specs.declared.head.RefKey.{RefKey}
use Rattle.ve_base.specs.declared.head.Head.{Head}
use Rattle.model_items.specs.Same.{ref_key_same}
use Rattle.ve_kinds.specs.Tags.{is_one_of}
use Rattle.model_page.specs.Elements.{value_named, has_type, is_transclusion, is_reference_type}
use Rattle.model_page.specs.DataMw.{RefRead, reference_of}
use Rattle.model_page.specs.Fit.{Around, Structural}
use Rattle.model_page.specs.Heads.{attrs_of}
use Rattle.model_page.specs.Pieces.{Owner, Progress}

-- ---- keys

abbrev pub is_auto : Key → Bool
is_auto (Named name) = false
is_auto (Auto n) = true

-- how many owners have no name, of all groups
abbrev pub auto_count : List Owner → ℕ
auto_count owners = length (filter (λ owner. is_auto owner.key.key) owners)

-- the key after these owners: the name, or the number of owners without one
abbrev pub key_of : List Owner → RefRead → RefKey
key_of owners reading = record {
  group = chars reading.group;
  key = elim (reading.name) [ Some name ↦ Named (chars name) | None ↦ Auto (auto_count owners) ];
}

-- an owner of the key stands before
abbrev pub is_owned : List Owner → RefKey → Bool
is_owned owners key = list_any (λ owner. ref_key_same owner.key key) owners

-- ---- references

-- the reading of the `data-mw`, unless it would own a body that has an owner
abbrev pub unless_owned : List Owner → RefRead → Option RefRead
unless_owned owners reading = if is_some reading.html && is_owned owners (key_of owners reading) then None else Some reading

abbrev pub reference_in : List Owner → Option (List ℕ) → Option RefRead
reference_in owners None = None
reference_in owners (Some mw) = elim (reference_of mw) [ None ↦ None | Some reading ↦ unless_owned owners reading ]

-- a reference: its head, and itself as an owner where it is one
pub record RefNode : Type 0 where
  pub head : Head
  pub owners : List Owner

abbrev pub owners_of : ℕ → RefKey → Option (List ℕ) → List Owner
owners_of at key None = []
owners_of at key (Some html) = record { at = at; key = key; html = html } ∷ []

abbrev pub ref_node : Progress → List ℕ → List Spelled → Forest → RefRead → RefNode
ref_node place name attrs children reading = record {
  head = record {
    tag = chars name;
    attrs = attrs_of attrs;
    raw = chars (spelling children);
    reference = Some (key_of place.owners reading);
    owner = is_some reading.html;
  };
  owners = owners_of place.at (key_of place.owners reading) reading.html;
}

abbrev pub may_be_reference : Progress → Around → List ℕ → List Spelled → Bool
may_be_reference place (Structural parent) name attrs = false
may_be_reference place around name attrs =
    place.editable
    && is_one_of (codes "sup" ∷ codes "span" ∷ []) name
    && has_type is_reference_type attrs
    && not (has_type is_transclusion attrs)

-- the reference that a group is, if it is one
abbrev pub ref_of : Progress → Around → Forest → Option RefNode
ref_of place around (Element name attrs children Nothing) =
    if may_be_reference place around name attrs
    then (elim (reference_in place.owners (value_named (codes "data-mw") attrs)) [
      | None ↦ None
      | Some reading ↦ Some (ref_node place name attrs children reading)
    ])
    else None
ref_of place around _ = None
