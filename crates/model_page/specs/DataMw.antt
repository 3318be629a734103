-- The JSON text of a `data-mw`: what it says of a reference, and how it is written with another
-- body.
use Rattle.std.specs.Prelude.{ℕ, ◌||◌, List, [], ◌∷◌, Option, Some, None, is_some, if◌then◌else◌, codes, bytes_eq}
use Rattle.serde_json.specs.Data.{Data, string, object, Members, no_members, member, put}
use Rattle.serde_json.specs.Read.{read}
use Rattle.serde_json.specs.Find.{get_member}
use Rattle.serde_json.specs.Written.{members_have_float, compact_text}
use Rattle.model_spelling.specs.Parsed.{forest_of}

infixl 10 ◌>>=◌
abbrev pub ◌>>=◌ : {A B : Type 0} → Option A → (A → Option B) → Option B
(Some x) >>= f = f x
None >>= f = None

-- group, name and the text of the body: an owner has a body, and a reuse has a name and no body
pub record RefRead : Type 0 where
  pub group : List ℕ
  pub name : Option (List ℕ)
  pub html : Option (List ℕ)

-- an object whose numbers are all integers of 64 bits
abbrev pub whole_object : Data → Option Members
whole_object (object ms) = if members_have_float ms then None else Some ms
whole_object _ = None

-- the members, where they are an object or absent
abbrev pub members_or_none : Option Data → Option Members
members_or_none None = Some no_members
members_or_none (Some (object ms)) = Some ms
members_or_none (Some _) = None

-- the text, where it is a text or absent; an absent one counts as empty
abbrev pub text_or_empty : Option Data → Option (List ℕ)
text_or_empty None = Some []
text_or_empty (Some (string text)) = Some text
text_or_empty (Some _) = None

abbrev pub unless_empty : List ℕ → Option (List ℕ)
unless_empty [] = None
unless_empty (c ∷ cs) = Some (c ∷ cs)

-- a text that some forest spells
abbrev pub if_spelled : Option Data → Option (List ℕ)
if_spelled (Some (string text)) = forest_of text >>= λ f. Some text
if_spelled _ = None

-- the text of the body, where there is a body with such a text, or no body
abbrev pub html_or_none : Option Data → Option (Option (List ℕ))
html_or_none None = Some None
html_or_none (Some (object ms)) = if_spelled (get_member (codes "html") ms) >>= λ text. Some (Some text)
html_or_none (Some _) = None

abbrev pub if_owner_or_named : RefRead → Option RefRead
if_owner_or_named r = if is_some r.html || is_some r.name then Some r else None

-- the reading of an editable `data-mw`; none where it is not editable
abbrev pub reference_of : List ℕ → Option RefRead
reference_of mw = do
  value ← read mw
  members ← whole_object value
  attrs ← members_or_none (get_member (codes "attrs") members)
  name ← text_or_empty (get_member (codes "name") attrs)
  group ← text_or_empty (get_member (codes "group") attrs)
  html ← html_or_none (get_member (codes "body") members)
  if_owner_or_named (record { group = group; name = unless_empty name; html = html })

abbrev pub members_of : Option Data → Members
members_of (Some (object ms)) = ms
members_of _ = no_members

abbrev pub without : List ℕ → Members → Members
without k no_members = no_members
without k (member l d ms) = if bytes_eq k l then ms else member l d (without k ms)

abbrev pub with_body : Option (List ℕ) → Members → Members
with_body None ms = without (codes "body") ms
with_body (Some html) ms =
    put (codes "body") (object (put (codes "html") (string html) (members_of (get_member (codes "body") ms)))) ms

-- the `data-mw` with this text of the body, or without a body
abbrev pub composed_mw : List ℕ → Option (List ℕ) → List ℕ
composed_mw mw html = compact_text (object (with_body html (members_of (read mw))))
