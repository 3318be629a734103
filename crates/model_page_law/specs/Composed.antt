-- A `data-mw` that is written with another body reads back: it says what it said, with that body.
use Rattle.std.specs.Prelude.{◌≡◌, ℕ, List, Option, Some, None, false, codes}
use Rattle.serde_json.specs.Data.{Members, object}
use Rattle.serde_json.specs.Read.{read}
use Rattle.serde_json.specs.Find.{get_member}
use Rattle.serde_json.specs.Written.{members_have_float}
use Rattle.model_spelling.specs.Forest.{Forest, Spells}
use Rattle.model_spelling.specs.Parsed.{forest_of}
use Rattle.model_page.specs.DataMw.{RefRead, reference_of, if_owner_or_named, members_of, with_body, composed_mw}

-- ---- as a value

-- An object whose numbers are all integers of 64 bits is composed with a body, or without one. The
-- text is read as that object with the body put into it, or taken out.
abbrev pub ComposedIsRead : Type 0
ComposedIsRead = (mw : List ℕ) (html : Option (List ℕ)) (ms : Members) → read mw ≡ Some (object ms) → members_have_float ms ≡ false →
    read (composed_mw mw html) ≡ Some (object (with_body html ms))

-- the members that a text says, and those of its body
abbrev pub members_in : List ℕ → Members
members_in mw = members_of (read mw)

abbrev pub body_in : List ℕ → Members
body_in mw = members_of (get_member (codes "body") (members_in mw))

-- Beside the body each member of an editable text is as it was,
abbrev pub ComposedKeepsMembers : Type 0
ComposedKeepsMembers = (mw : List ℕ) (html : Option (List ℕ)) (r : RefRead) → reference_of mw ≡ Some r →
    (k : List ℕ) → (k ≡ codes "body" → ⊥) → get_member k (members_in (composed_mw mw html)) ≡ get_member k (members_in mw)

-- and in the body each member beside its text.
abbrev pub ComposedKeepsBody : Type 0
ComposedKeepsBody = (mw html : List ℕ) (r : RefRead) → reference_of mw ≡ Some r →
    (k : List ℕ) → (k ≡ codes "html" → ⊥) → get_member k (body_in (composed_mw mw (Some html))) ≡ get_member k (body_in mw)

-- Of two bodies that are put in, the second stays, and nothing of the first one's text.
abbrev pub ComposedTwice : Type 0
ComposedTwice =
    (mw first second : List ℕ) (r : RefRead) → reference_of mw ≡ Some r →
    composed_mw (composed_mw mw (Some first)) (Some second) ≡ composed_mw mw (Some second)

-- ---- as a reference

-- With a body whose text a forest spells it is editable, of the same group and name, and has that
-- body.
abbrev pub ComposedOwns : Type 0
ComposedOwns = (mw html : List ℕ) (r : RefRead) (f : Forest) → reference_of mw ≡ Some r → Spells html f →
    reference_of (composed_mw mw (Some html)) ≡ Some (record { group = r.group; name = r.name; html = Some html })

-- With the body that it has it says what it said.
abbrev pub ComposedIsSame : Type 0
ComposedIsSame =
    (mw : List ℕ) (r : RefRead) (html : List ℕ) → reference_of mw ≡ Some r → r.html ≡ Some html →
    reference_of (composed_mw mw (Some html)) ≡ Some r

-- With a text that no forest spells it is not editable.
abbrev pub ComposedIsBarred : Type 0
ComposedIsBarred =
    (mw html : List ℕ) (r : RefRead) → reference_of mw ≡ Some r → forest_of html ≡ None → reference_of (composed_mw mw (Some html)) ≡ None

-- Without a body it uses one by its name, where it has a name, and is not editable where it has
-- none.
abbrev pub ComposedReuses : Type 0
ComposedReuses =
    (mw : List ℕ) (r : RefRead) → reference_of mw ≡ Some r →
    reference_of (composed_mw mw None) ≡ if_owner_or_named (record { group = r.group; name = r.name; html = None })
