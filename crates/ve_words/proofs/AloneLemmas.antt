-- The rules give at most one kind of error.
use Rattle.std.proofs.Common.{◌+◌, not, ◌==◌, ◌&&◌, ◌||◌, ℕ, zero, suc, Bool, true, false, List, [], ◌∷◌, Option, Some, None, sym, subst}
use Rattle.std.specs.Prelude.{⊤, if◌then◌else◌, drop, length, encode_utf8, is_some, min, slice_get, nat_lt}
use Rattle.std.specs.List.{list_any}
use Rattle.std.specs.Option.{option_map_or}
use Rattle.std.specs.Str.{bytes_eq, chars}
use Rattle.clap.specs.Lexer.{long_of, short_of}
use Rattle.clap.specs.Matches.{count_text}
use Rattle.clap.specs.ValueTests.{accepts}
use Rattle.clap.specs.Facts.{parser_of_value, unwrap_or_range}
use Rattle.clap.specs.Values.{refused_kind}
use Rattle.clap.specs.Kinds.{Kinds, or_else, range_kinds, request_kinds, values_kinds}
use Rattle.clap.specs.Walk.{Held, Row, Rule, Step, Text, Waiting, Walk, action_of, arg_by_id, arg_by_index, arg_by_long, arg_by_short, attached_value, count_of, finished, has_row, idle, is_pending, most_values, next, nothing_held}
use Rattle.clap.specs.Walk.{option, positional, reacted, settled, subcommand, takes_several, takes_values, trailing, value, values_or_missing, walk, walk_from, walked, with_default, word_met}
use Rattle.clap.specs.Faults.{action_fault, bundle_step_fault, check_fault, count_fault, default_fault, defaults_fault, fault_of, flag_word_fault, flags_fault, level_fault, long_fault, option_fault, other_fault, positional_fault}
use Rattle.clap.specs.Faults.{react_fault, set_fault, settle_fault, short_fault, step_fault, turn_fault, use_fault, walk_fault, word_fault}
use Rattle.clap.specs.declared.builder.action.ArgAction.{ArgAction}
use Rattle.clap.specs.declared.builder.action.ArgAction.TheVariants as action
use Rattle.clap.specs.Takes.{is_given}
use Rattle.clap.specs.declared.builder.value_parser.ValueParser.{ValueParser}
use Rattle.clap.specs.declared.error.kind.ErrorKind.TheVariants as kind
use Rattle.ve_words.specs.Command.{mode_names, vemodel}
use Rattle.ve_words.proofs.LentFaults.{level_of}
use Rattle.ve_words.proofs.LentWalk.{here, shape}

abbrev pub Alone : Kinds → Type 0
Alone [] = ⊤
Alone (k ∷ []) = ⊤
Alone (k ∷ l ∷ more) = ⊥

either_alone : (b : Bool) (x y : Kinds) → Alone x → Alone y → Alone (if b then x else y)
either_alone true x y p q = p
either_alone false x y p q = q

or_else_alone : (x y : Kinds) → Alone x → Alone y → Alone (or_else x y)
or_else_alone [] y p q = q
or_else_alone (k ∷ []) y p q = tt
or_else_alone (k ∷ l ∷ more) y p q = absurd p

found_alone : {X : Type 0} (f : X → Kinds) (o : Option X) (none : Kinds) → ((x : X) → Alone (f x)) → Alone none → Alone (option_map_or f o none)
found_alone f None none p q = q
found_alone f (Some x) none p q = p x

-- ---- one use

values_alone : (ignore_case : Bool) (parser : ValueParser) (vs : List Text) → Alone (values_kinds ignore_case parser vs)
values_alone ignore_case parser [] = tt
values_alone ignore_case parser (v ∷ vs) =
    or_else_alone _ _ (either_alone (accepts ignore_case parser v) [] (refused_kind parser ∷ []) tt tt) (values_alone ignore_case parser vs)

range_alone : (least most n : ℕ) → Alone (range_kinds least most n)
range_alone least most n = either_alone (nat_lt 0 least && n == 0) _ _ tt (either_alone (least == most) _ _ (either_alone (least == n) _ _ tt tt)
    (either_alone (nat_lt n least) _ _ tt (either_alone (nat_lt most n) _ _ tt tt)))

request_alone : (x : ArgAction) → Alone (request_kinds x)
request_alone action.Set = tt
request_alone action.Append = tt
request_alone action.SetTrue = tt
request_alone action.SetFalse = tt
request_alone action.Count = tt
request_alone action.Help = tt
request_alone action.HelpShort = tt
request_alone action.HelpLong = tt
request_alone action.Version = tt

set_alone : (again : Bool) (a : Rule) (values : List Text) (rows : List Row) → Alone (set_fault again a values rows)
set_alone again a values rows = or_else_alone _ _ (either_alone (has_row a.id rows && not again) _ _ tt tt) (values_alone a.ignore_case (parser_of_value a.parser) values)

count_alone : (a : Rule) (values : List Text) (rows : List Row) → Alone (count_fault a values rows)
count_alone a [] rows = either_alone (accepts a.ignore_case (parser_of_value a.parser) (count_text (min (count_of a.id rows + 1) 255))) _ _ tt tt
count_alone a (v ∷ vs) rows = values_alone a.ignore_case (parser_of_value a.parser) (v ∷ vs)

action_alone : (x : ArgAction) (again : Bool) (a : Rule) (values : List Text) (rows : List Row) → Alone (action_fault x again a values rows)
action_alone action.Set again a values rows = set_alone again a values rows
action_alone action.Append again a values rows = values_alone a.ignore_case (parser_of_value a.parser) values
action_alone action.SetTrue again a values rows = set_alone again a values rows
action_alone action.SetFalse again a values rows = set_alone again a values rows
action_alone action.Count again a values rows = count_alone a values rows
action_alone action.Help again a values rows = tt
action_alone action.HelpShort again a values rows = tt
action_alone action.HelpLong again a values rows = tt
action_alone action.Version again a values rows = tt

use_alone : (again : Bool) (a : Rule) (values : List Text) (rows : List Row) → Alone (use_fault again a values rows)
use_alone again a values rows = or_else_alone _ _ (range_alone (unwrap_or_range a.range).start_inclusive (most_values a) (length values))
    (action_alone (action_of a) again a (values_or_missing a values) rows)

settle_alone : (c : List Rule) (again : Bool) (h : Held) → Alone (settle_fault c again h)
settle_alone c again h = found_alone (λ (p : Text × List Text). option_map_or (λ a. use_fault again a p.1 h.rows) (arg_by_id c p.0) []) h.pending []
    (λ p. found_alone (λ a. use_fault again a p.1 h.rows) (arg_by_id c p.0) [] (λ a. use_alone again a p.1 h.rows) tt) tt

react_alone : (c : List Rule) (again : Bool) (a : Rule) (values : List Text) (h : Held) → Alone (react_fault c again a values h)
react_alone c again a values h = or_else_alone _ _ (settle_alone c again h) (use_alone again a values (settled c h).rows)

option_alone : (c : List Rule) (again : Bool) (a : Rule) (v : Option Text) (h : Held) → Alone (option_fault c again a v h)
option_alone c again a (Some v) h = react_alone c again a (v ∷ []) h
option_alone c again a None h = settle_alone c again h

long_alone : (c : List Rule) (again : Bool) (o : Option Rule) (v : Option Text) (h : Held) → Alone (long_fault c again o v h)
long_alone c again None v h = tt
long_alone c again (Some a) v h =
    either_alone (takes_values a) _ _ (option_alone c again a v h) (either_alone (is_some v) _ _ tt (react_alone c again a [] h))

short_alone : (c : List Rule) (again : Bool) (o : Option Rule) (rest : Text) (h : Held) (after : Held → Kinds) → ((s : Held) → Alone (after s)) → Alone (short_fault c again o rest h after)
short_alone c again None rest h after p = tt
short_alone c again (Some a) rest h after p =
    either_alone (takes_values a) _ _ (option_alone c again a (attached_value rest) h) (or_else_alone _ _ (react_alone c again a [] h) (p (reacted c a [] h)))

bundle_step_alone : (c : List Rule) (again : Bool) (o : Option ℕ) (flags : Text) (skip : ℕ) (h : Held) (after : Text → ℕ → Held → Kinds)
    → ((rest : Text) (left : ℕ) (s : Held) → Alone (after rest left s)) → Alone (bundle_step_fault c again o flags skip h after)
bundle_step_alone c again None flags skip h after p = tt
bundle_step_alone c again (Some x) flags zero h after p =
    short_alone c again (arg_by_short c x) (drop (length (encode_utf8 x)) flags) h (after (drop (length (encode_utf8 x)) flags) 0) (p (drop (length (encode_utf8 x)) flags) 0)
bundle_step_alone c again (Some x) flags (suc skip) h after p = p (drop (length (encode_utf8 x)) flags) skip h

flags_alone : (c : List Rule) (again : Bool) (k : ℕ) (flags : Text) (skip : ℕ) (h : Held) → Alone (flags_fault c again k flags skip h)
unfolding flags_fault
flags_alone c again zero flags skip h = tt
flags_alone c again (suc k) flags skip h = bundle_step_alone c again (slice_get (chars flags) 0) flags skip h (flags_fault c again k) (flags_alone c again k)

-- ---- one word

flag_word_alone : (c : List Rule) (again : Bool) (o : Option (Text × Option Text)) (word : Text) (h : Held) → Alone (flag_word_fault c again o word h)
flag_word_alone c again (Some p) word h = long_alone c again (arg_by_long c p.0) p.1 h
flag_word_alone c again None word h = found_alone (λ (flags : Text). flags_fault c again (length flags) flags h.skip (record h { skip = 0 })) (short_of word) []
    (λ flags. flags_alone c again (length flags) flags h.skip (record h { skip = 0 })) tt

other_alone : (word : Text) (h : Held) → Alone (other_fault (shape mode_names) None word h)
other_alone word h = either_alone (bytes_eq word (45 ∷ 45 ∷ [])) _ _ tt (flag_word_alone here false (long_of word) word h)

word_alone : (is_trailing : Bool) (waiting : Waiting) (word : Text) (h : Held) → Alone (word_fault (shape mode_names) [] is_trailing waiting word h)
word_alone true waiting word h = tt
word_alone false idle word h = other_alone word h
word_alone false (option id) word h = other_alone word h
word_alone false positional word h = other_alone word h

positional_alone : (c : List Rule) (again : Bool) (a : Rule) (h : Held) → Alone (positional_fault c again a h)
positional_alone c again a h = either_alone (is_pending a h.pending && takes_several a) _ _ tt (settle_alone c again h)

step_alone : (position : ℕ) (h : Held) (step : Step) → Alone (step_fault (shape mode_names) position h step)
step_alone position h value = found_alone (λ a. positional_fault here false a h) (arg_by_index here position) _ (λ a. positional_alone here false a h) tt
step_alone position h (next waiting) = tt
step_alone position h (trailing at) = tt
step_alone position h (subcommand name) = tt

turn_alone : (w : Walk) (word : Text) → Alone (turn_fault (shape mode_names) [] w word)
turn_alone w word = either_alone (is_some w.stopped) _ _ tt (or_else_alone _ _ (word_alone w.is_trailing w.waiting word w.held)
    (step_alone w.position (word_met here [] w.is_trailing w.waiting w.position word w.held).0 (word_met here [] w.is_trailing w.waiting w.position word w.held).1))

-- ---- all words

walk_alone : (w : Walk) (words : List Text) → Alone (walk_fault (shape mode_names) [] w words)
unfolding walk_fault
walk_alone w [] = tt
walk_alone w (word ∷ rest) = or_else_alone _ _ (turn_alone w word) (walk_alone (walked here [] w word) rest)

default_alone : (rows : List Row) (a : Rule) → Alone (default_fault rows a)
default_alone rows a = either_alone (has_row a.id rows || length a.defaults == 0) _ _ tt
    (or_else_alone _ _ (request_alone (action_of a)) (values_alone a.ignore_case (parser_of_value a.parser) a.defaults))

defaults_alone : (rows : List Row) (c : List Rule) → Alone (defaults_fault rows c)
unfolding defaults_fault
defaults_alone rows [] = tt
defaults_alone rows (a ∷ rest) = or_else_alone _ _ (default_alone rows a) (defaults_alone (with_default rows a) rest)

check_alone : (rows : List Row) → Alone (check_fault (shape mode_names) rows false)
check_alone rows = either_alone (list_any (λ (a : Rule). a.required && not (is_given a.id rows)) here) (kind.MissingRequiredArgument ∷ []) [] tt tt

level_alone : (words : List Text) → Alone (level_fault (shape mode_names) [] nothing_held words false [])
level_alone words =
    let h = (walk here [] nothing_held words).held in
    or_else_alone _ _ (walk_alone (walk_from nothing_held) words) (or_else_alone _ _ (settle_alone here false h)
    (or_else_alone _ _ (defaults_alone (settled here h).rows here) (check_alone (finished here h))))

-- at most one
pub fault_alone : (words : List Text) → Alone (fault_of (vemodel mode_names) words)
fault_alone words = subst Alone (sym (level_of mode_names words)) (level_alone words)
