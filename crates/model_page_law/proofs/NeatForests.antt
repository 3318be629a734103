-- Forests in which each part is delimited, without the grammar's bounds: what the writer makes is
-- one, whatever the list.
use Rattle.std.specs.Prelude.{◌≡◌, ℕ, ◌==◌, Bool, true, false, not, ◌&&◌, List, [], ◌∷◌, ◌++◌}
use Rattle.model_spelling.specs.Grammar.{Attr as Spelled, begins_with, is_attr_name, is_tag_name, end_text, comment_close}
use Rattle.ve_kinds.specs.Tags.{is_void, is_raw}
use Rattle.model_spelling.specs.Forest.{Forest, Nothing, Text, Remark, Void, RawElement, Element, spelling, starts_with_text, is_forest}
use Rattle.model_page_write.specs.Written.{is_empty}

abbrev pub without : ℕ → List ℕ → Bool
without b [] = true
without b (c ∷ cs) = not (c == b) && without b cs

abbrev pub NeatAttrs : List Spelled → Type 0
NeatAttrs [] = Unit {0}
NeatAttrs (a ∷ attrs) = (is_attr_name a.name ≡ true) × (without a.quote a.value ≡ true) × NeatAttrs attrs

pub record NeatTag (void : Bool) (name : List ℕ) (attrs : List Spelled) : Type 0 where
  pub name_is : is_tag_name name ≡ true
  pub void_is : is_void name ≡ void
  pub raw_is : is_raw name ≡ false
  pub attrs_are : NeatAttrs attrs

-- the first position of close after the text is its end
abbrev pub ends_at : List ℕ → List ℕ → Bool
ends_at close [] = true
ends_at close (b ∷ bs) = not (begins_with close (b ∷ bs ++ close)) && ends_at close bs

pub record NeatRaw (name : List ℕ) (attrs : List Spelled) (text : List ℕ) : Type 0 where
  pub name_is : is_tag_name name ≡ true
  pub void_is : is_void name ≡ false
  pub raw_is : is_raw name ≡ true
  pub attrs_are : NeatAttrs attrs
  pub ends : ends_at (end_text name) text ≡ true

-- A forest in which each part is delimited. Its texts may hold any other characters, and there is
-- no bound on its levels and attributes.
abbrev pub Neat : Forest → Type 0
Neat Nothing = Unit {0}
Neat (Text text rest) = (is_empty text ≡ false) × (without 60 text ≡ true) × (starts_with_text rest ≡ false) × Neat rest
Neat (Remark text rest) = (ends_at comment_close text ≡ true) × Neat rest
Neat (RawElement name attrs text rest) = NeatRaw name attrs text × Neat rest
Neat (Void name attrs slash rest) = NeatTag true name attrs × Neat rest
Neat (Element name attrs children rest) = NeatTag false name attrs × Neat children × Neat rest

-- a forest that may be spelled is the only one of its text, also among those without bounds
abbrev pub OneForest : Type 0
OneForest = (f g : Forest) → is_forest 200 f ≡ true → Neat g → spelling f ≡ spelling g → f ≡ g
