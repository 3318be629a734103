-- The canonical writer on forests: decoded values in, spelled values out.
use Rattle.std.specs.Prelude.{◌≡◌, ℕ, zero, suc, ◌≤◌, Bool, true, false, ◌&&◌, not, List, [], ◌∷◌, length, map, Some, ◌==◌, nat_le}
use Rattle.std.specs.List.{list_all}
use Rattle.model_spelling.specs.Grammar.{is_barred, is_attr_name, is_tag_name, is_verbatim, are_distinct, Attr, end_text, comment_close}
use Rattle.ve_kinds.specs.Tags.{is_void, is_raw}
use Rattle.model_spelling.specs.Forest.{Forest, Nothing, Text, Remark, Void, RawElement, Element, starts_with_text, spelling, is_forest}
use Rattle.model_spelling.specs.Parsed.{forest_of}
use Rattle.model_spelling.specs.Written.{decoded, escaped}
use Rattle.ve_base.specs.Limits.{max_attributes, max_open_elements}

abbrev pub decoded_attr : Attr → Attr
decoded_attr a = record { name = a.name; value = decoded a.value; quote = 34 }

abbrev pub written_attr : Attr → Attr
written_attr a = record { name = a.name; value = escaped true a.value; quote = 34 }

-- the forest with its texts and values decoded, without the lenient quotes and `/`
abbrev pub decoded_forest : Forest → Forest
decoded_forest Nothing = Nothing
decoded_forest (Text text rest) = Text (decoded text) (decoded_forest rest)
decoded_forest (Remark text rest) = Remark text (decoded_forest rest)
decoded_forest (Void name attrs slash rest) = Void name (map decoded_attr attrs) false (decoded_forest rest)
decoded_forest (RawElement name attrs text rest) = RawElement name (map decoded_attr attrs) text (decoded_forest rest)
decoded_forest (Element name attrs children rest) = Element name (map decoded_attr attrs) (decoded_forest children) (decoded_forest rest)

-- a forest of decoded texts and values, as the canonical writer spells it
abbrev pub written : Forest → Forest
written Nothing = Nothing
written (Text text rest) = Text (escaped false text) (written rest)
written (Remark text rest) = Remark text (written rest)
written (Void name attrs slash rest) = Void name (map written_attr attrs) false (written rest)
written (RawElement name attrs text rest) = RawElement name (map written_attr attrs) text (written rest)
written (Element name attrs children rest) = Element name (map written_attr attrs) (written children) (written rest)

-- ---- what can be written: all characters but two may stand in texts and values

abbrev pub are_chars : List ℕ → Bool
are_chars text = list_all (λ b. not (is_barred b)) text

abbrev pub is_some_chars : List ℕ → Bool
is_some_chars [] = false
is_some_chars (b ∷ bs) = are_chars (b ∷ bs)

abbrev pub is_plain_attr : Attr → Bool
is_plain_attr a = is_attr_name a.name && are_chars a.value && a.quote == 34

abbrev pub is_plain_start : List ℕ → List Attr → Bool
is_plain_start name attrs = is_tag_name name && (list_all is_plain_attr attrs && are_distinct attrs && nat_le (length attrs) max_attributes)

abbrev pub is_plain : ℕ → Forest → Bool
is_plain room Nothing = true
is_plain room (Text text rest) = is_some_chars text && not (starts_with_text rest) && is_plain room rest
is_plain room (Remark text rest) = is_verbatim comment_close text && is_plain room rest
is_plain zero (Void name attrs slash rest) = false
is_plain (suc room) (Void name attrs slash rest) = is_void name && is_plain_start name attrs && not slash && is_plain (suc room) rest
is_plain zero (RawElement name attrs text rest) = false
is_plain (suc room) (RawElement name attrs text rest) =
    is_raw name && is_plain_start name attrs && is_verbatim (end_text name) text && is_plain (suc room) rest
is_plain zero (Element name attrs children rest) = false
is_plain (suc room) (Element name attrs children rest) =
    not (is_void name) && not (is_raw name) && is_plain_start name attrs && is_plain room children && is_plain (suc room) rest

-- ---- laws

-- The canonical writer's text is well spelled, is read back as it was written, and its decoded
-- values are those that were written.
abbrev pub WritesRight : Type 0
WritesRight = (room : ℕ) (d : Forest) → room ≤ max_open_elements → is_plain room d ≡ true →
    (is_forest room (written d) ≡ true) × (forest_of (spelling (written d)) ≡ Some (written d)) × (decoded_forest (written d) ≡ d)

-- Each forest that is spelled can be written, so its canonical spelling is read back with the same
-- decoded values.
abbrev pub CanWrite : Type 0
CanWrite = (room : ℕ) (f : Forest) → is_forest room f ≡ true → is_plain room (decoded_forest f) ≡ true
