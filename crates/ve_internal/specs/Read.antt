-- The texts of a `data-mw` that was read.
use Rattle.std.specs.Prelude.{ℕ, List, Option, Some, None, option_map, codes, IsUtf8}
use Rattle.std.specs.Borrow.{Bor}
use Rattle.std.specs.Str.{chars}
use Rattle.serde_json.specs.Data.{Data, Members, no_members}
use Rattle.serde_json.specs.Find.{get_member}
use Rattle.serde_json.specs.View.{view}
use Rattle.serde_json.specs.declared.value.Value.{Value}
use Rattle.model_page.specs.DataMw as model
use Rattle.model_page.specs.DataMw.{◌>>=◌}
use Rattle.ve_internal.specs.declared.reference.RefRead.{RefRead}

-- group, name and body as texts
abbrev pub as_texts : model.RefRead → RefRead
as_texts r = record { group = chars r.group; name = option_map chars r.name; html = option_map chars r.html }

-- the text of the body, if there is one, is UTF-8
abbrev pub TextIsUtf8 : Option (List ℕ) → Type 0
TextIsUtf8 None = Unit {0}
TextIsUtf8 (Some text) = IsUtf8 text

abbrev pub BodyIsUtf8 : Option model.RefRead → Type 0
BodyIsUtf8 None = Unit {0}
BodyIsUtf8 (Some r) = TextIsUtf8 r.html

-- ---- as the code asks

-- the value that is borrowed, if there is one
abbrev pub seen_value : Option (Bor Value) → Option Data
seen_value value = option_map (λ (v : Bor Value). view v.now) value

abbrev pub or_no_members : Option Members → Members
or_no_members None = no_members
or_no_members (Some members) = members

-- the reference that the members of a `data-mw` describe
abbrev pub in_members : Members → Option model.RefRead
in_members members = do
  attrs ← model.members_or_none (get_member (codes "attrs") members)
  name ← model.text_or_empty (get_member (codes "name") attrs)
  group ← model.text_or_empty (get_member (codes "group") attrs)
  html ← model.html_or_none (get_member (codes "body") members)
  model.if_owner_or_named (record { group = group; name = model.unless_empty name; html = html })
