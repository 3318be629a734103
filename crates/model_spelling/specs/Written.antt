-- References, and the canonical spelling of texts, values and tags (WHATWG HTML, "Serializing HTML
-- fragments", but that `<` and `>` are written as references in values too).
use Rattle.std.specs.Prelude.{ℕ, zero, suc, ◌-◌, Bool, true, false, ◌&&◌, List, [], ◌∷◌, ◌++◌, length, map, if◌then◌else◌, ◌==◌, codes, encode_utf8_all}
use Rattle.ve_base.specs.declared.attrs.Attr.{Attr}
use Rattle.model_spelling.specs.Grammar.{begins_with, start_text}
use Rattle.model_spelling.specs.Grammar.{Attr as Spelled}

-- a reference, and the character that it stands for
abbrev pub meanings : List (List ℕ × List ℕ)
meanings =
    (codes "&amp;", 38 ∷ []) ∷ (codes "&lt;", 60 ∷ []) ∷ (codes "&gt;", 62 ∷ []) ∷ (codes "&nbsp;", 194 ∷ 160 ∷ [])
    ∷ (codes "&quot;", 34 ∷ []) ∷ (codes "&apos;", 39 ∷ []) ∷ []

-- the reference that the bytes begin with and its meaning; else the first byte, which stands for
-- itself
abbrev pub prefix_of : List (List ℕ × List ℕ) → ℕ → List ℕ → List ℕ × List ℕ
prefix_of [] b bs = (b ∷ [], b ∷ [])
prefix_of (m ∷ ms) b bs = if begins_with m.0 (b ∷ bs) then m else prefix_of ms b bs

-- skip is how many bytes of a reference are still to be passed over
unfoldable pub decoded_from : ℕ → List ℕ → List ℕ
decoded_from skip [] = []
decoded_from (suc skip) (b ∷ bs) = decoded_from skip bs
decoded_from zero (b ∷ bs) = let m = prefix_of meanings b bs in m.1 ++ decoded_from (length m.0 - 1) bs

abbrev pub decoded : List ℕ → List ℕ
decoded spelled = decoded_from 0 spelled

-- The spelling of one byte. U+00A0 is the bytes 194 and 160, and is dealt with below; in a value
-- `"` is written as a reference too.
abbrev pub escaped_byte : Bool → ℕ → List ℕ
escaped_byte in_value b =
    if b == 38 then codes "&amp;"
    else if b == 60 then codes "&lt;"
    else if b == 62 then codes "&gt;"
    else if in_value && b == 34 then codes "&quot;"
    else b ∷ []

unfoldable pub escaped : Bool → List ℕ → List ℕ
escaped in_value [] = []
escaped in_value (b ∷ []) = escaped_byte in_value b
escaped in_value (b ∷ c ∷ bs) =
    if b == 194 && c == 160 then codes "&nbsp;" ++ escaped in_value bs else escaped_byte in_value b ++ escaped in_value (c ∷ bs)

-- a decoded name and value, as the writer spells them
abbrev pub canon_attr : List ℕ × List ℕ → Spelled
canon_attr a = record { name = a.0; value = escaped true a.1; quote = 34 }

abbrev pub canon_attrs : List (List ℕ × List ℕ) → List Spelled
canon_attrs attrs = map canon_attr attrs

abbrev pub canon_start : List ℕ → List (List ℕ × List ℕ) → List ℕ
canon_start name attrs = start_text name (canon_attrs attrs) false

-- the bytes of the name and the value of an attribute that is held as two texts
abbrev pub attr_bytes : Attr → List ℕ × List ℕ
attr_bytes a = (encode_utf8_all a.name, encode_utf8_all a.value)

-- the start tag of an element with these bytes as its name and these attributes, in their order
abbrev pub start_tag : List ℕ → List Attr → List ℕ
start_tag name attrs = canon_start name (map attr_bytes attrs)
