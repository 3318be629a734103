-- Forests, and the one text of each.
use Rattle.std.specs.Prelude.{◌≡◌, ℕ, zero, suc, Bool, true, false, ◌&&◌, not, List, [], ◌++◌, IsTrue}
use Rattle.model_spelling.specs.Grammar.{Attr, Chars, Comment, token_text, start_text, end_text, is_text, is_verbatim, is_start, comment_close}
use Rattle.ve_kinds.specs.Tags.{is_void, is_raw}
use Rattle.ve_base.specs.Limits.{max_open_elements}

-- A forest is empty, or a first node and the forest of its siblings after it. A node is a text, a
-- comment (`Remark`), a void element with its attributes and its `/`, a raw element with its text,
-- or an element with its children. Texts and values stand as they are in the page.
pub data Forest : Type 0 where
  Nothing : Forest
  Text : List ℕ → Forest → Forest
  Remark : List ℕ → Forest → Forest
  Void : List ℕ → List Attr → Bool → Forest → Forest
  RawElement : List ℕ → List Attr → List ℕ → Forest → Forest
  Element : List ℕ → List Attr → Forest → Forest → Forest

-- the one text of a forest
abbrev pub spelling : Forest → List ℕ
spelling Nothing = []
spelling (Text text rest) = token_text (Chars text) ++ spelling rest
spelling (Remark text rest) = token_text (Comment text) ++ spelling rest
spelling (Void name attrs slash rest) = start_text name attrs slash ++ spelling rest
spelling (RawElement name attrs text rest) = start_text name attrs false ++ text ++ end_text name ++ spelling rest
spelling (Element name attrs children rest) = start_text name attrs false ++ spelling children ++ end_text name ++ spelling rest

-- one forest and then another
abbrev pub then_forest : Forest → Forest → Forest
then_forest Nothing g = g
then_forest (Text text rest) g = Text text (then_forest rest g)
then_forest (Remark text rest) g = Remark text (then_forest rest g)
then_forest (Void name attrs slash rest) g = Void name attrs slash (then_forest rest g)
then_forest (RawElement name attrs text rest) g = RawElement name attrs text (then_forest rest g)
then_forest (Element name attrs children rest) g = Element name attrs children (then_forest rest g)

abbrev pub starts_with_text : Forest → Bool
starts_with_text (Text text rest) = true
starts_with_text Nothing = false
starts_with_text (Remark text rest) = false
starts_with_text (Void name attrs slash rest) = false
starts_with_text (RawElement name attrs text rest) = false
starts_with_text (Element name attrs children rest) = false

-- Forests that have a spelling where room more elements may be open, one inside the other. Void and
-- raw elements count like others. No two texts are neighbours.
abbrev pub is_forest : ℕ → Forest → Bool
is_forest room Nothing = true
is_forest room (Text text rest) = is_text text && not (starts_with_text rest) && is_forest room rest
is_forest room (Remark text rest) = is_verbatim comment_close text && is_forest room rest
is_forest zero (Void name attrs slash rest) = false
is_forest (suc room) (Void name attrs slash rest) = is_void name && is_start name attrs slash && is_forest (suc room) rest
is_forest zero (RawElement name attrs text rest) = false
is_forest (suc room) (RawElement name attrs text rest) =
    is_raw name && is_start name attrs false && is_verbatim (end_text name) text && is_forest (suc room) rest
is_forest zero (Element name attrs children rest) = false
is_forest (suc room) (Element name attrs children rest) =
    not (is_void name) && not (is_raw name) && is_start name attrs false && is_forest room children && is_forest (suc room) rest

-- The forest spells the text. At most `max_open_elements` are open at any position.
pub record Spells (text : List ℕ) (f : Forest) : Type 0 where
  pub allowed : IsTrue (is_forest max_open_elements f)
  pub text_is : text ≡ spelling f
