-- The lines of a generated script have no newline.
use Rattle.std.proofs.Common.{◌≡◌, ◌≢◌, ℕ, zero, suc, ◌+◌, ◌%◌, ◌^◌, ◌<◌, ◌≤◌, ◌==◌, nat_lt, ◌&&◌, Bool, true, false, not, List, [], ◌∷◌, ◌++◌, map, flat_map, length, codes, decimal, if◌then◌else◌, arith, refl, sym, ap, ◌∙◌, append-nil}
use Rattle.std.specs.List.{range_with_len}
use Rattle.std.proofs.lemmas.Fmt.{decimal_by_steps}
use Rattle.model_script.specs.Lines.{lines_of, with_newlines, IsLine, AreLines}
use Rattle.model_script.proofs.Cuts.{lines_of-with_newlines, AreLines-append, IsLine-append}
use Rattle.ve_gen.specs.Generated.{letter, letters, paragraph, page, line_of, edit_line, edit_lines, state_after_edit, script_lines, open_line, html_line, text_line, remove_line, split_line, mark_line, undo_line, next_state, drawn}
use Rattle.ve_gen.specs.Laws.{HasTwoLinesMore, ScriptHasItsLines}

-- ---- no newline

has_none : List ℕ → Bool
has_none [] = true
has_none (b ∷ bs) = not (b == 10) && has_none bs

both : (a b : Bool) → (a && b) ≡ true → (a ≡ true) × (b ≡ true)
both true b h = (refl, h)
both false b h = absurd (cc)

other : (b : ℕ) → not (b == 10) ≡ true → b ≢ 10
other b h = search arith

is_line : (bs : List ℕ) → has_none bs ≡ true → IsLine bs
unfolding has_none
is_line [] h = tt
is_line (b ∷ bs) h = let (first, rest) = both _ _ h in (other b first, is_line bs rest)

choice_is : (b : Bool) (x y : List ℕ) → IsLine x → IsLine y → IsLine (if b then x else y)
choice_is true x y h k = h
choice_is false x y h k = k

decimal_is : (n : ℕ) → n < 2 ^ 64 → IsLine (decimal n)
decimal_is = decimal_by_steps (λ n ds. IsLine ds) (λ n h. (λ e. omega (arith, e), tt)) (λ n ds h k. IsLine-append ds _ k (λ e. omega (arith, e), tt))

letters_from : (p a n : ℕ) → IsLine (map (letter p) (range_with_len a n))
letters_from p a zero = tt
letters_from p a (suc n) = (λ e. omega (arith, e), letters_from p (a + 1) n)

paragraph_is : (p : ℕ) → IsLine (paragraph p)
unfolding letters has_none
paragraph_is p =
    let first : IsLine (codes "<p>") = is_line (codes "<p>") refl in
    let last : IsLine (codes "</p>") = is_line (codes "</p>") refl in
    IsLine-append (codes "<p>" ++ letters p) (codes "</p>") (IsLine-append (codes "<p>") (letters p) first (letters_from p 0 18)) last

paragraphs_from : (a n : ℕ) → IsLine (flat_map paragraph (range_with_len a n))
paragraphs_from a zero = tt
paragraphs_from a (suc n) = IsLine-append (paragraph a) _ (paragraph_is a) (paragraphs_from (a + 1) n)

page_is : IsLine page
unfolding page
page_is = paragraphs_from 0 200

open_is : IsLine open_line
unfolding has_none
open_is =
    let first : IsLine (codes "{\"do\":\"open\",\"page\":\"") = is_line (codes "{\"do\":\"open\",\"page\":\"") refl in
    let last : IsLine (codes "\"}") = is_line (codes "\"}") refl in
    IsLine-append (codes "{\"do\":\"open\",\"page\":\"" ++ page) (codes "\"}") (IsLine-append (codes "{\"do\":\"open\",\"page\":\"") page first page_is) last

-- a number between two texts, and two numbers
with_number : (a : List ℕ) (n : ℕ) (b : List ℕ) → has_none a ≡ true → n < 2 ^ 64 → has_none b ≡ true → IsLine (a ++ decimal n ++ b)
with_number a n b h small k = IsLine-append (a ++ decimal n) b (IsLine-append a (decimal n) (is_line a h) (decimal_is n small)) (is_line b k)

with_two : (a : List ℕ) (m : ℕ) (b : List ℕ) (n : ℕ) (c : List ℕ) → has_none a ≡ true → m < 2 ^ 64 → has_none b ≡ true → n < 2 ^ 64 → has_none c ≡ true
    → IsLine (a ++ decimal m ++ b ++ decimal n ++ c)
with_two a m b n c h s k t l =
    IsLine-append (a ++ decimal m ++ b ++ decimal n) c (IsLine-append (a ++ decimal m ++ b) (decimal n) (with_number a m b h s k) (decimal_is n t)) (is_line c l)

text_is : (at : ℕ) → at < 2 ^ 64 → IsLine (text_line at)
unfolding has_none
text_is at h = with_number (codes "{\"at\":") at (codes ",\"do\":\"text\",\"text\":\"ve\"}") refl h refl

remove_is : (from to : ℕ) → from < 2 ^ 64 → to < 2 ^ 64 → IsLine (remove_line from to)
unfolding has_none
remove_is from to h k = with_two (codes "{\"do\":\"remove\",\"from\":") from (codes ",\"to\":") to (codes "}") refl h refl k refl

split_is : (at : ℕ) → at < 2 ^ 64 → IsLine (split_line at)
unfolding has_none
split_is at h = with_number (codes "{\"at\":") at (codes ",\"do\":\"split\"}") refl h refl

mark_is : (from to : ℕ) → from < 2 ^ 64 → to < 2 ^ 64 → IsLine (mark_line from to)
unfolding has_none
mark_is from to h k = with_two (codes "{\"do\":\"mark\",\"from\":") from (codes ",\"tag\":\"b\",\"to\":") to (codes "}") refl h refl k refl

undo_is : IsLine undo_line
unfolding has_none
undo_is = is_line undo_line refl

chosen : (c : ℕ) (a b d e f : List ℕ) → IsLine a → IsLine b → IsLine d → IsLine e → IsLine f
    → IsLine (if nat_lt c 4 then a else if c == 4 then b else if c == 5 then d else if c == 6 then e else f)
chosen c a b d e f h k l m n =
    choice_is (nat_lt c 4) a (if c == 4 then b else if c == 5 then d else if c == 6 then e else f) h
    (choice_is (c == 4) b (if c == 5 then d else if c == 6 then e else f) k
    (choice_is (c == 5) d (if c == 6 then e else f) l (choice_is (c == 6) e f m n)))

line_is : (choice at more : ℕ) → at ≤ 4000 → more < 30 → IsLine (line_of choice at more)
unfolding line_of
line_is choice at more h k =
    let to : at + 1 + more < 2 ^ 64 = omega arith in
    let five : at + 5 < 2 ^ 64 = omega arith in
    let small : at < 2 ^ 64 = omega arith in
    chosen choice (text_line at) (remove_line at (at + 1 + more)) (split_line at) (mark_line at (at + 5)) undo_line
    (text_is at small) (remove_is at (at + 1 + more) small to) (split_is at small) (mark_is at (at + 5) small five) undo_is

edit_is : (state : ℕ) → IsLine (edit_line state)
unfolding edit_line
edit_is state =
    let first = next_state state in
    let second = next_state first in
    let third = next_state second in
    line_is (drawn first % 8) (1 + drawn second % 4000) (drawn third % 30) (omega arith) (omega arith)

edits_are : (state edits : ℕ) → AreLines (edit_lines state edits)
edits_are state zero = tt
edits_are state (suc edits) = (edit_is state, edits_are (state_after_edit state) edits)

html_is : IsLine html_line
unfolding has_none
html_is = is_line html_line refl

pub lines_are : (start edits : ℕ) → AreLines (script_lines start edits)
lines_are start edits = (open_is, AreLines-append (edit_lines start edits) (html_line ∷ []) (edits_are start edits) (html_is, tt))

-- ---- the laws

pub script_has_its_lines : ScriptHasItsLines
script_has_its_lines start edits =
    let lines = script_lines start edits in
    ap lines_of (sym (append-nil (with_newlines lines))) ∙ lines_of-with_newlines lines [] (lines_are start edits) ∙ append-nil lines

edits_and_one : (state edits : ℕ) (last : List ℕ) → length (edit_lines state edits ++ last ∷ []) ≡ edits + 1
edits_and_one state zero last = refl
edits_and_one state (suc edits) last = omega (arith, edits_and_one (state_after_edit state) edits last)

pub script_has_two_lines_more : HasTwoLinesMore
script_has_two_lines_more start edits = omega (arith, edits_and_one start edits html_line)
