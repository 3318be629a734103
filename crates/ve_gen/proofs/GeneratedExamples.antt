-- The generated script at examples, which compute. The values are from a program in another
-- language.
use Rattle.std.proofs.Common.{◌≡◌, [], ◌∷◌, codes, refl}
use Rattle.std.specs.Fmt.{digits}
use Rattle.ve_gen.specs.Generated.{next_state, drawn, letters, line_of, edit_line, edit_lines, state_after_edit}

-- the first three draws from 0
first_state : next_state 0 ≡ 1442695040888963407
unfolding next_state
first_state = refl

second_state : next_state 1442695040888963407 ≡ 1876011003808476466
unfolding next_state
second_state = refl

third_state : next_state 1876011003808476466 ≡ 11166244414315200793
unfolding next_state
third_state = refl

first_draw : drawn 1442695040888963407 ≡ 167951807
unfolding drawn
first_draw = refl

second_draw : drawn 1876011003808476466 ≡ 218396424
unfolding drawn
second_draw = refl

third_draw : drawn 11166244414315200793 ≡ 1299921937
unfolding drawn
third_draw = refl

-- the alphabet goes on at its start
letters_of_third : letters 2 ≡ codes "cdefghijklmnopqrst"
unfolding letters
letters_of_third = refl

letters_of_last : letters 199 ≡ codes "rstuvwxyzabcdefghi"
unfolding letters
letters_of_last = refl

-- one edit of each kind, from the least start that gives it
text_is : edit_line 5 ≡ codes "{\"at\":3774,\"do\":\"text\",\"text\":\"ve\"}"
unfolding edit_line line_of drawn next_state digits
text_is = refl

text_is_1 : edit_line 10 ≡ codes "{\"at\":3123,\"do\":\"text\",\"text\":\"ve\"}"
unfolding edit_line line_of drawn next_state digits
text_is_1 = refl

text_is_2 : edit_line 4 ≡ codes "{\"at\":3693,\"do\":\"text\",\"text\":\"ve\"}"
unfolding edit_line line_of drawn next_state digits
text_is_2 = refl

text_is_3 : edit_line 3 ≡ codes "{\"at\":3964,\"do\":\"text\",\"text\":\"ve\"}"
unfolding edit_line line_of drawn next_state digits
text_is_3 = refl

removal_is : edit_line 2 ≡ codes "{\"do\":\"remove\",\"from\":3883,\"to\":3890}"
unfolding edit_line line_of drawn next_state digits
removal_is = refl

split_is : edit_line 13 ≡ codes "{\"at\":2662,\"do\":\"split\"}"
unfolding edit_line line_of drawn next_state digits
split_is = refl

mark_is : edit_line 1 ≡ codes "{\"do\":\"mark\",\"from\":154,\"tag\":\"b\",\"to\":159}"
unfolding edit_line line_of drawn next_state digits
mark_is = refl

undo_is : edit_line 0 ≡ codes "{\"do\":\"undo\"}"
unfolding edit_line line_of drawn next_state digits
undo_is = refl

-- from start 2, where a removal takes a third draw
two_edits : edit_lines 2 2 ≡ codes "{\"do\":\"remove\",\"from\":3883,\"to\":3890}" ∷ codes "{\"at\":296,\"do\":\"text\",\"text\":\"ve\"}" ∷ []
unfolding edit_line line_of drawn next_state digits state_after_edit
two_edits = refl
