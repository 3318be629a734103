-- Parts of texts and tags, as they are written.
use Rattle.std.specs.Prelude.{◌≡◌, ℕ, Bool, List, ◌++◌, drop}
use Rattle.ve_base.specs.declared.attrs.Attr.{Attr}
use Rattle.model_spelling.specs.Grammar.{attr_text}
use Rattle.model_spelling.specs.Written.{escaped, canon_attr, attr_bytes}

-- one attribute, with the space before it
abbrev pub attr_written : Attr → List ℕ
attr_written a = attr_text (canon_attr (attr_bytes a))

-- The bytes from one position to another are written as escaped, in a value or in a text.
abbrev pub IsSpelledAs : Bool → List ℕ → ℕ → ℕ → List ℕ → Type 0
IsSpelledAs in_value bytes from to spelled = escaped in_value (drop from bytes) ≡ spelled ++ escaped in_value (drop to bytes)

-- a prefix of a text was appended
abbrev pub IsPartlyAppended : List ℕ → List ℕ → List ℕ → Type 0
IsPartlyAppended old new text = (part : List ℕ) × (rest : List ℕ) × (new ≡ old ++ part) × (part ++ rest ≡ text)
