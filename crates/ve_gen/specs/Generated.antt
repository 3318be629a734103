-- The generated script: it opens a page, makes edits at positions that are drawn, and asks for the
-- page.
use Rattle.std.specs.Prelude.{ℕ, zero, suc, ◌+◌, ◌*◌, ◌/◌, ◌%◌, ◌^◌, ◌==◌, nat_lt, List, [], ◌∷◌, ◌++◌, map, flat_map, codes, decimal, if◌then◌else◌}
use Rattle.std.specs.List.{range_with_len}
use Rattle.model_script.specs.Lines.{with_newlines}

-- ---- draws

-- Each draw takes the next state, a number below 2^64, ..
unfoldable pub next_state : ℕ → ℕ
next_state state = (state * 6364136223846793005 + 1442695040888963407) % 2 ^ 64

-- .. and gives what the state is without its last 33 bits.
unfoldable pub drawn : ℕ → ℕ
drawn state = state / 2 ^ 33

-- ---- the page

-- letter `i` of paragraph `p`
abbrev pub letter : ℕ → ℕ → ℕ
letter p i = 97 + (p + i) % 26

unfoldable pub letters : ℕ → List ℕ
letters p = map (letter p) (range_with_len 0 18)

abbrev pub paragraph : ℕ → List ℕ
paragraph p = codes "<p>" ++ letters p ++ codes "</p>"

unfoldable pub page : List ℕ
page = flat_map paragraph (range_with_len 0 200)

-- ---- the lines, without their newlines

abbrev pub open_line : List ℕ
open_line = codes "{\"do\":\"open\",\"page\":\"" ++ page ++ codes "\"}"

abbrev pub html_line : List ℕ
html_line = codes "{\"do\":\"html\"}"

abbrev pub text_line : (at : ℕ) → List ℕ
text_line at = codes "{\"at\":" ++ decimal at ++ codes ",\"do\":\"text\",\"text\":\"ve\"}"

abbrev pub remove_line : (from to : ℕ) → List ℕ
remove_line from to = codes "{\"do\":\"remove\",\"from\":" ++ decimal from ++ codes ",\"to\":" ++ decimal to ++ codes "}"

abbrev pub split_line : (at : ℕ) → List ℕ
split_line at = codes "{\"at\":" ++ decimal at ++ codes ",\"do\":\"split\"}"

abbrev pub mark_line : (from to : ℕ) → List ℕ
mark_line from to =
    codes "{\"do\":\"mark\",\"from\":" ++ decimal from ++ codes ",\"tag\":\"b\",\"to\":" ++ decimal to ++ codes "}"

abbrev pub undo_line : List ℕ
undo_line = codes "{\"do\":\"undo\"}"

-- Which edit it is, from 0 to 7, at a position; a removal is of some items more than one.
unfoldable pub line_of : (choice at more : ℕ) → List ℕ
line_of choice at more =
    if nat_lt choice 4 then text_line at
    else if choice == 4 then remove_line at (at + 1 + more)
    else if choice == 5 then split_line at
    else if choice == 6 then mark_line at (at + 5)
    else undo_line

-- An edit's first draw chooses it, the second its position, and the third, which only a removal
-- takes, how many items go.
unfoldable pub edit_line : (state : ℕ) → List ℕ
edit_line state =
    let first = next_state state in
    let second = next_state first in
    let third = next_state second in
    line_of (drawn first % 8) (1 + drawn second % 4000) (drawn third % 30)

unfoldable pub state_after_edit : ℕ → ℕ
state_after_edit state =
    let first = next_state state in
    let second = next_state first in
    if drawn first % 8 == 4 then next_state second else second

-- the lines of so many edits
abbrev pub edit_lines : (state edits : ℕ) → List (List ℕ)
edit_lines state zero = []
edit_lines state (suc edits) = edit_line state ∷ edit_lines (state_after_edit state) edits

abbrev pub script_lines : (start edits : ℕ) → List (List ℕ)
script_lines start edits = open_line ∷ (edit_lines start edits ++ html_line ∷ [])

abbrev pub script : (start edits : ℕ) → List ℕ
script start edits = with_newlines (script_lines start edits)
