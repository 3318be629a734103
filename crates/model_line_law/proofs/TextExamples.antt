-- The strings of a value, and lines that are read, or are not.
use Rattle.std.specs.Prelude.{◌≡◌, ℕ, List, [], ◌∷◌, codes, Some, None, Ok, encode_utf8_all, refl}
use Rattle.std.specs.Str.{is_utf8, chars}
use Rattle.serde_json.specs.Data.{Data, null, number, string, array, object, unsigned, no_items, item, no_members, member}
use Rattle.serde_json.proofs.OnLiterals.{serde_json_on_literals}
use Rattle.model_world.specs.declared.command.Command.TheVariants.{OpenPage}
use Rattle.model_world.specs.Values.{line_json}
use Rattle.model_world.specs.Commands.{command}
use Rattle.model_page_law.specs.Strings.{AllStrings}

-- a name, an array and an object inside
sample : Data
sample =
    let inner = object (member (codes "c") (string (codes "d")) no_members) in
    object (member (codes "a") (array (item (string (codes "b")) (item null (item inner no_items)))) no_members)

-- every string counts, and every name, however deep
all_four : (P : List ℕ → Type 0) → AllStrings P sample → P (codes "a") × P (codes "b") × P (codes "c") × P (codes "d")
unfolding sample
all_four P h = (h.0, h.1.0, h.1.1.1.0.0, h.1.1.1.0.1)

-- and nothing else does
no_others : (P : List ℕ → Type 0) → P (codes "a") → P (codes "b") → P (codes "c") → P (codes "d") → AllStrings P sample
unfolding sample
no_others P a b c d = (a, (b, (tt, ((c, d, tt), tt))), tt)

-- an escape spells one character, also where it is a pair, and what is not escaped stays
escapes_spell : line_json (encode_utf8_all (codes "{\"\\u00e9\":[\"é\\ud83d\\ude00\\n\",1]}"))
    ≡ Some (object (member (encode_utf8_all (codes "é")) (array (item (string (encode_utf8_all (codes "é😀\n"))) (item (number (unsigned 1)) no_items))) no_members))
unfolding serde_json_on_literals is_utf8 chars
escapes_spell = refl

-- half a pair spells no character
half_is_refused : line_json (codes "\"\\ud83d\"") ≡ None
unfolding serde_json_on_literals is_utf8 chars
half_is_refused = refl

low_half_is_refused : line_json (codes "\"\\ude00\"") ≡ None
unfolding serde_json_on_literals is_utf8 chars
low_half_is_refused = refl

-- a string that is cut in the midst of a character, and one that begins there
cut_is_refused : line_json (34 ∷ 195 ∷ 34 ∷ []) ≡ None
unfolding serde_json_on_literals is_utf8 chars
cut_is_refused = refl

tail_is_refused : line_json (34 ∷ 169 ∷ 34 ∷ []) ≡ None
unfolding serde_json_on_literals is_utf8 chars
tail_is_refused = refl

-- a page's text is a string: it opens the same, escaped or not
page_is_spelled : command (codes "{\"do\":\"open\",\"page\":\"<p>\\u00e9</p>\"}") ≡ command (encode_utf8_all (codes "{\"do\":\"open\",\"page\":\"<p>é</p>\"}"))
unfolding serde_json_on_literals is_utf8 chars
page_is_spelled = refl

page_is_opened : command (codes "{\"do\":\"open\",\"page\":\"<p>\\u00e9</p>\"}") ≡ Ok (OpenPage (codes "<p>é</p>") 1)
unfolding serde_json_on_literals is_utf8 chars
page_is_opened = refl
