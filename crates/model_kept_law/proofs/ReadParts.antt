-- Parts as they are formed of a forest that may be spelled.
use Rattle.std.proofs.Common.{◌≡◌, ℕ, Bool, true, false, if◌then◌else◌, ◌&&◌, List, ◌∷◌, Option, refl}
use Rattle.model_spelling.specs.Grammar.{Attr as Spelled, start_text}
use Rattle.model_spelling.specs.Forest.{Forest, Nothing, Text, Remark, Void, RawElement, Element, spelling, starts_with_text}
use Rattle.ve_kinds.specs.Tags.{is_void}
use Rattle.model_page.specs.Elements.{is_white, about_of, is_held}
use Rattle.model_page.specs.Parts.{Parts, Ended, Words, Note, Group, Single, Parent, about_in, is_shared, with_held, parts_of}
use Rattle.model_page_write.specs.Written.{is_empty}
use Rattle.model_page_law.proofs.NeatForests.{without, NeatAttrs, NeatTag, Neat}

-- the text begins with `<`
pub record Angled (text : List ℕ) : Type 0 where
  pub rest : List ℕ
  pub is : text ≡ 60 ∷ rest

-- an element without children, which is not held
pub record SingleRead (name : List ℕ) (attrs : List Spelled) (source : List ℕ) : Type 0 where
  pub free : is_held attrs ≡ false
  pub angled : Angled source
  pub void : is_void name ≡ true → (slash : Bool) × (source ≡ start_text name attrs slash) × NeatAttrs attrs

-- an element with its children, which is not held
pub record ParentRead (name : List ℕ) (attrs : List Spelled) (children : Parts) : Type 0 where
  pub free : is_held attrs ≡ false
  pub tag : NeatTag false name attrs
  pub inner : Forest
  pub are : children ≡ parts_of inner
  pub neat : Neat inner

abbrev pub is_words : Parts → Bool
is_words (Words text later) = true
is_words Ended = false
is_words (Note text later) = false
is_words (Group nodes later) = false
is_words (Single name attrs source later) = false
is_words (Parent name attrs children later) = false

abbrev pub IsRead : Parts → Type 0
IsRead Ended = Unit {0}
IsRead (Words text later) = (is_empty text ≡ false) × (without 60 text ≡ true) × (is_words later ≡ false) × IsRead later
IsRead (Note text later) = IsRead later
IsRead (Group nodes later) = Angled (spelling nodes) × IsRead later
IsRead (Single name attrs source later) = SingleRead name attrs source × IsRead later
IsRead (Parent name attrs children later) = ParentRead name attrs children × IsRead children × IsRead later

-- ---- held elements

abbrev Opens : (Forest → Forest) → Type 0
Opens element = (nodes : Forest) → Angled (spelling (element nodes))

abbrev Held : Parts → Type 0
Held parts = IsRead parts × (is_words parts ≡ false)

chosen : (c : Bool) (a b : Parts) → Held a → Held b → Held (if c then a else b)
chosen true a b f g = f
chosen false a b f g = g

with_held-read : (about : Option (List ℕ)) (element : Forest → Forest) → Opens element → (parts : Parts) → IsRead parts → Held (with_held about element parts)
with_held-read about element h Ended r = ((h Nothing, r), refl)
with_held-read about element h (Words t Ended) r = ((h Nothing, r), refl)
with_held-read about element h (Words t (Words u later)) r = ((h Nothing, r), refl)
with_held-read about element h (Words t (Note u later)) r = ((h Nothing, r), refl)
with_held-read about element h (Words t (Group nodes later)) r =
    chosen (is_white t && is_shared about (about_in nodes)) _ _ ((h (Text t nodes), r.3.1), refl) ((h Nothing, r), refl)
with_held-read about element h (Words t (Single name attrs source later)) r = ((h Nothing, r), refl)
with_held-read about element h (Words t (Parent name attrs children later)) r = ((h Nothing, r), refl)
with_held-read about element h (Note t later) r = ((h Nothing, r), refl)
with_held-read about element h (Group nodes later) r = chosen (is_shared about (about_in nodes)) _ _ ((h nodes, r.1), refl) ((h Nothing, r), refl)
with_held-read about element h (Single name attrs source later) r = ((h Nothing, r), refl)
with_held-read about element h (Parent name attrs children later) r = ((h Nothing, r), refl)

-- ---- all parts

held_or : (c : Bool) (a b : Parts) → Held a → (c ≡ false → Held b) → Held (if c then a else b)
held_or true a b f g = f
held_or false a b f g = g refl

angled : (rest : List ℕ) → Angled (60 ∷ rest)
angled rest = record { rest = rest; is = refl }

-- where no text begins, no words do
abbrev Worded : Forest → Type 0
Worded f = IsRead (parts_of f) × (starts_with_text f ≡ false → is_words (parts_of f) ≡ false)

worded : (f : Forest) → Held (parts_of f) → Worded f
worded f h = (h.0, λ e. h.1)

both : (b : Bool) → b ≡ true → b ≡ false → ⊥
both b e f = cc

read_worded : (f : Forest) → Neat f → Worded f
read_worded Nothing n = (tt, λ e. refl)
read_worded (Text text rest) n = let r = read_worded rest n.3 in ((n.0, n.1, r.1 n.2, r.0), λ e. absurd (both true refl e))
read_worded (Remark text rest) n = let r = read_worded rest n.1 in (r.0, λ e. refl)
read_worded (Void name attrs slash rest) n =
    let r = read_worded rest n.1 in
    worded (Void name attrs slash rest)
    (held_or (is_held attrs) _ _ (with_held-read (about_of attrs) (Void name attrs slash) (λ nodes. angled _) (parts_of rest) r.0)
    (λ free. ((record { free = free; angled = angled _; void = λ v. (slash, refl, n.0.attrs_are) }, r.0), refl)))
read_worded (RawElement name attrs text rest) n =
    let r = read_worded rest n.1 in
    worded (RawElement name attrs text rest)
    (held_or (is_held attrs) _ _ (with_held-read (about_of attrs) (RawElement name attrs text) (λ nodes. angled _) (parts_of rest) r.0)
    (λ free. ((record { free = free; angled = angled _; void = λ v. absurd (both (is_void name) v n.0.void_is) }, r.0), refl)))
read_worded (Element name attrs children rest) n =
    let r = read_worded rest n.2 in
    let inner = read_worded children n.1 in
    worded (Element name attrs children rest)
    (held_or (is_held attrs) _ _ (with_held-read (about_of attrs) (Element name attrs children) (λ nodes. angled _) (parts_of rest) r.0)
    (λ free. ((record { free = free; tag = n.0; inner = children; are = refl; neat = n.1 }, inner.0, r.0), refl)))

pub parts_read : (f : Forest) → Neat f → IsRead (parts_of f)
parts_read f n = (read_worded f n).0
