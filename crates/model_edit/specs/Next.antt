-- The next position of a caret, by clusters or by words.
use Rattle.std.specs.Prelude.{ℕ, ◌+◌, ◌-◌, true, nat_lt, List, [], ◌∷◌, ◌++◌, length, reverse, take, drop, find, slice_get, encode_utf8_all, Option, Some, None, option_map}
use Rattle.std.specs.Str.{chars}
use Rattle.model_items.specs.declared.plain_item.PlainItem.{PlainItem}
use Rattle.model_items.specs.declared.plain_item.PlainItem.TheVariants.{Char, Opening, Closing}
use Rattle.unicode_segmentation.specs.Grapheme.{graphemes}
use Rattle.unicode_segmentation.specs.Word.{word_bounds}
use Rattle.model_edit.specs.declared.selection.By.{By}
use Rattle.model_edit.specs.declared.selection.By.TheVariants.{Cluster, Word}
use Rattle.model_edit.specs.declared.selection.Dir.{Dir}
use Rattle.model_edit.specs.declared.selection.Dir.TheVariants.{Back, Ahead}

-- the characters that items begin with
abbrev pub first_run : List PlainItem → List ℕ
first_run (Char c marks ∷ items) = c ∷ first_run items
first_run _ = []

-- the characters of the run just before an offset, and of the run from it on
abbrev pub run_before : List PlainItem → ℕ → List ℕ
run_before items at = reverse (first_run (reverse (take at items)))

abbrev pub run_from : List PlainItem → ℕ → List ℕ
run_from items at = first_run (drop at items)

-- a rule that cuts a text into pieces, each as its bytes
abbrev pub Cutting : Type 0
Cutting = List ℕ → List (List ℕ)

-- how many characters stand before the end of each piece
abbrev pub ends : ℕ → List (List ℕ) → List ℕ
ends count [] = []
ends count (piece ∷ others) = let end = count + length (chars piece) in end ∷ ends end others

-- where the pieces of a run of characters end, counted in characters
abbrev pub boundaries : Cutting → List ℕ → List ℕ
boundaries cut run = 0 ∷ ends 0 (cut (encode_utf8_all run))

-- of rising numbers the last below a bound
abbrev pub last_below : ℕ → List ℕ → Option ℕ
last_below bound places = find (λ n. nat_lt n bound) (reverse places)

abbrev pub first_above : ℕ → List ℕ → Option ℕ
first_above bound places = find (λ n. nat_lt bound n) places

-- the boundary of the run round the offset that comes next; the run begins at `start`
abbrev pub next_boundary : Dir → Cutting → List ℕ → List ℕ → (start : ℕ) → Option ℕ
next_boundary Ahead cut prefix suffix start =
    option_map (λ n. start + n) (first_above (length prefix) (boundaries cut (prefix ++ suffix)))
next_boundary Back cut prefix suffix start =
    option_map (λ n. start + n) (last_below (length prefix) (boundaries cut (prefix ++ suffix)))

abbrev pub boundary_at : Dir → Cutting → List PlainItem → ℕ → Option ℕ
boundary_at dir cut items at =
    let prefix = run_before items at in
    next_boundary dir cut prefix (run_from items at) (at - length prefix)

-- ahead of a leaf its end comes next, and nothing at the end of the branch
abbrev pub next_ahead : Option PlainItem → Cutting → List PlainItem → ℕ → Option ℕ
next_ahead (Some (Char c marks)) cut items at = boundary_at Ahead cut items at
next_ahead (Some (Opening kind head marks pre origin generated)) cut items at = Some (at + 2)
next_ahead (Some (Closing kind pre)) cut items at = None
next_ahead None cut items at = None

-- after a leaf its beginning comes next, and nothing at the beginning of the branch
abbrev pub next_back : Option PlainItem → Cutting → List PlainItem → ℕ → Option ℕ
next_back (Some (Char c marks)) cut items at = boundary_at Back cut items at
next_back (Some (Closing kind pre)) cut items at = Some (at - 2)
next_back (Some (Opening kind head marks pre origin generated)) cut items at = None
next_back None cut items at = None

-- the rule by which a caret moves: extended grapheme clusters, or word bounds (Unicode, UAX #29)
abbrev pub cutting : By → Cutting
cutting Cluster = graphemes true
cutting Word = word_bounds

-- the next position of a caret that stands at a content offset
abbrev pub next : List PlainItem → ℕ → Dir → By → Option ℕ
next items at Ahead by = next_ahead (slice_get items at) (cutting by) items at
next items at Back by = next_back (slice_get items (at - 1)) (cutting by) items at
