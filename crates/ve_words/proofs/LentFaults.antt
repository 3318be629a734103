-- Where the names of the modes are borrowed from decides nothing: what the rules refuse.
use Rattle.std.proofs.Common.{◌≡◌, ◌∙◌, ◌&&◌, ℕ, zero, suc, Bool, false, List, [], ◌∷◌, Option, Some, None, refl, sym, ap, ap₂, codes}
use Rattle.std.specs.Prelude.{if◌then◌else◌, drop, length, encode_utf8, is_some, slice_get}
use Rattle.std.specs.List.{list_any}
use Rattle.std.specs.Option.{option_map_or}
use Rattle.std.specs.Str.{bytes_eq, chars}
use Rattle.clap.specs.Lexer.{long_of, short_of}
use Rattle.clap.specs.Values.{same_text}
use Rattle.clap.specs.ValueTests.{accepts}
use Rattle.clap.specs.Kinds.{Kinds, or_else, range_kinds}
use Rattle.clap.specs.Walk.{Held, Row, Rule, Step, Text, Waiting, Walk, arg_by_id, arg_by_index, arg_by_long, arg_by_short, attached_value, finished, is_pending, next, nothing_held}
use Rattle.clap.specs.Walk.{reacted, settled, subcommand, subcommand_met, takes_several, takes_values, trailing, value, walk, walk_from, walked, word_met}
use Rattle.clap.specs.Simple.{built}
use Rattle.clap.specs.Faults.{bundle_step_fault, check_fault, defaults_fault, fault_of, flag_word_fault, flags_fault, level_fault, long_fault, option_fault, other_fault, positional_fault, react_fault, repeat_fault}
use Rattle.clap.specs.Faults.{settle_fault, short_fault, step_fault, turn_fault, use_fault, values_fault, walk_fault, word_fault}
use Rattle.clap.specs.declared.builder.value_parser.ValueParser.TheVariants as parser
use Rattle.clap.specs.declared.error.kind.ErrorKind.TheVariants as kind
use Rattle.clap.proofs.FaultLemmas.{leaf_fault}
use Rattle.clap.proofs.WalkLemmas.{list_any-map}
use Rattle.ve_words.specs.Command.{IsNames, Names, mode_names, vemodel}
use Rattle.ve_words.proofs.LentWalk.{by_id, by_index, finished_same, first, here, reacted_same, rules, settled_same, shape, walk_same, walked_same, word_met_same}

-- the rule of the mode, as it is built
abbrev faults_by : Option Rule → (Rule → Kinds) → Kinds
faults_by o f = option_map_or f o []

-- ---- one use

accepts_same : (names : Names) → IsNames names → (v : Text) → accepts false (parser.Names names) v ≡ accepts false (parser.Names mode_names) v
accepts_same names is v =
    list_any-map (λ (t : Text). same_text false t v) (λ b. b.now) names.now
    ∙ (ap (list_any (λ (t : Text). same_text false t v)) is ∙ sym (list_any-map (λ (t : Text). same_text false t v) (λ b. b.now) mode_names.now))

values_by : Option Rule → List Text → Kinds
values_by None vs = []
values_by (Some a) vs = values_fault a vs

values_same : (names : Names) → IsNames names → (vs : List Text) → values_by (first (rules names)) vs ≡ values_by (first here) vs
unfolding values_by
values_same names is [] = refl
values_same names is (v ∷ vs) =
    ap₂ or_else (ap (λ b. if b then [] else kind.InvalidValue ∷ []) (accepts_same names is v)) (values_same names is vs)

use_by : Option Rule → List Text → List Row → Kinds
use_by None values rows = []
use_by (Some a) values rows = use_fault false a values rows

use_same : (names : Names) → IsNames names → (values : List Text) (rows : List Row) → option_map_or (λ a. use_fault false a values rows) (first (rules names)) [] ≡ option_map_or (λ a. use_fault false a values rows) (first here) []
unfolding values_by
use_same names is [] rows = refl
use_same names is (v ∷ vs) rows =
    ap (λ (ks : Kinds). or_else (range_kinds 1 1 (length (v ∷ vs))) (or_else (repeat_fault false (codes "mode") rows) ks)) (values_same names is (v ∷ vs))

settle_fault_by : (names : Names) → IsNames names → (p : Option (Text × List Text)) (rows : List Row)
    → option_map_or (λ p. option_map_or (λ a. use_fault false a p.1 rows) (arg_by_id (rules names) p.0) []) p []
    ≡ option_map_or (λ p. option_map_or (λ a. use_fault false a p.1 rows) (arg_by_id here p.0) []) p []
settle_fault_by names is None rows = refl
settle_fault_by names is (Some p) rows = by_id names (λ o. option_map_or (λ a. use_fault false a p.1 rows) o []) (use_same names is p.1 rows) p.0

settle_fault_same : (names : Names) → IsNames names → (h : Held) → settle_fault (rules names) false h ≡ settle_fault here false h
settle_fault_same names is h = settle_fault_by names is h.pending h.rows

react_fault_same : (names : Names) → IsNames names → (a : Rule) (values : List Text) (h : Held) → react_fault (rules names) false a values h ≡ react_fault here false a values h
react_fault_same names is a values h = ap₂ (λ (ks : Kinds) (s : Held). or_else ks (use_fault false a values s.rows)) (settle_fault_same names is h) (settled_same names h)

option_fault_same : (names : Names) → IsNames names → (a : Rule) (v : Option Text) (h : Held) → option_fault (rules names) false a v h ≡ option_fault here false a v h
option_fault_same names is a (Some v) h = react_fault_same names is a (v ∷ []) h
option_fault_same names is a None h = settle_fault_same names is h

long_fault_same : (names : Names) → IsNames names → (o : Option Rule) (v : Option Text) (h : Held) → long_fault (rules names) false o v h ≡ long_fault here false o v h
long_fault_same names is None v h = refl
long_fault_same names is (Some a) v h =
    ap₂ (λ (x y : Kinds). if takes_values a then x else (if is_some v then kind.TooManyValues ∷ [] else y)) (option_fault_same names is a v h) (react_fault_same names is a [] h)

short_fault_same : (names : Names) → IsNames names → (o : Option Rule) (rest : Text) (h : Held) (after after2 : Held → Kinds) → ((s : Held) → after s ≡ after2 s)
    → short_fault (rules names) false o rest h after ≡ short_fault here false o rest h after2
short_fault_same names is None rest h after after2 same = refl
short_fault_same names is (Some a) rest h after after2 same =
    ap₂ (λ (x y : Kinds). if takes_values a then x else y) (option_fault_same names is a (attached_value rest) h)
    (ap₂ or_else (react_fault_same names is a [] h) (same (reacted (rules names) a [] h) ∙ ap after2 (reacted_same names a [] h)))

bundle_step_same : (names : Names) → IsNames names → (k : ℕ) (o : Option ℕ) (flags : Text) (skip : ℕ) (h : Held)
    → ((rest : Text) (left : ℕ) (s : Held) → flags_fault (rules names) false k rest left s ≡ flags_fault here false k rest left s)
    → bundle_step_fault (rules names) false o flags skip h (flags_fault (rules names) false k) ≡ bundle_step_fault here false o flags skip h (flags_fault here false k)
bundle_step_same names is k None flags skip h same = refl
bundle_step_same names is k (Some x) flags zero h same =
    short_fault_same names is (arg_by_short here x) (drop (length (encode_utf8 x)) flags) h _ _ (same (drop (length (encode_utf8 x)) flags) 0)
bundle_step_same names is k (Some x) flags (suc skip) h same = same (drop (length (encode_utf8 x)) flags) skip h

flags_fault_same : (names : Names) → IsNames names → (k : ℕ) (flags : Text) (skip : ℕ) (h : Held) → flags_fault (rules names) false k flags skip h ≡ flags_fault here false k flags skip h
unfolding flags_fault
flags_fault_same names is zero flags skip h = refl
flags_fault_same names is (suc k) flags skip h = bundle_step_same names is k (slice_get (chars flags) 0) flags skip h (flags_fault_same names is k)

-- ---- one word

short_word_same : (names : Names) → IsNames names → (o : Option Text) (h : Held)
    → option_map_or (λ flags. flags_fault (rules names) false (length flags) flags h.skip (record h { skip = 0 })) o []
    ≡ option_map_or (λ flags. flags_fault here false (length flags) flags h.skip (record h { skip = 0 })) o []
short_word_same names is None h = refl
short_word_same names is (Some flags) h = flags_fault_same names is (length flags) flags h.skip (record h { skip = 0 })

flag_word_same : (names : Names) → IsNames names → (o : Option (Text × Option Text)) (word : Text) (h : Held) → flag_word_fault (rules names) false o word h ≡ flag_word_fault here false o word h
flag_word_same names is (Some p) word h = long_fault_same names is (arg_by_long here p.0) p.1 h
flag_word_same names is None word h = short_word_same names is (short_of word) h

other_fault_same : (names : Names) → IsNames names → (o : Option Text) (word : Text) (h : Held) → other_fault (shape names) o word h ≡ other_fault (shape mode_names) o word h
other_fault_same names is (Some name) word h = refl
other_fault_same names is None word h = ap (λ (ks : Kinds). if bytes_eq word (45 ∷ 45 ∷ []) then [] else ks) (flag_word_same names is (long_of word) word h)

word_fault_same : (names : Names) → IsNames names → (is_trailing : Bool) (waiting : Waiting) (word : Text) (h : Held)
    → word_fault (shape names) [] is_trailing waiting word h ≡ word_fault (shape mode_names) [] is_trailing waiting word h
word_fault_same names is is_trailing waiting word h = ap (λ (ks : Kinds). if is_trailing then [] else ks) (other_fault_same names is (subcommand_met [] waiting word) word h)

positional_fault_same : (names : Names) → IsNames names → (a : Rule) (h : Held) → positional_fault (rules names) false a h ≡ positional_fault here false a h
positional_fault_same names is a h = ap (λ (ks : Kinds). if is_pending a h.pending && takes_several a then [] else ks) (settle_fault_same names is h)

value_fault_same : (names : Names) → IsNames names → (o : Option Rule) (h : Held)
    → option_map_or (λ a. positional_fault (rules names) false a h) o (kind.UnknownArgument ∷ []) ≡ option_map_or (λ a. positional_fault here false a h) o (kind.UnknownArgument ∷ [])
value_fault_same names is None h = refl
value_fault_same names is (Some a) h = positional_fault_same names is a h

step_fault_same : (names : Names) → IsNames names → (position : ℕ) (h : Held) (step : Step) → step_fault (shape names) position h step ≡ step_fault (shape mode_names) position h step
step_fault_same names is position h value =
    value_fault_same names is (arg_by_index (rules names) position) h ∙ by_index names (λ o. option_map_or (λ a. positional_fault here false a h) o (kind.UnknownArgument ∷ [])) refl position
step_fault_same names is position h (next waiting) = refl
step_fault_same names is position h (trailing at) = refl
step_fault_same names is position h (subcommand name) = refl

turn_fault_same : (names : Names) → IsNames names → (w : Walk) (word : Text) → turn_fault (shape names) [] w word ≡ turn_fault (shape mode_names) [] w word
turn_fault_same names is w word = ap₂ (λ (x y : Kinds). if is_some w.stopped then [] else or_else x y) (word_fault_same names is w.is_trailing w.waiting word w.held)
    (step_fault_same names is w.position met.0 met.1 ∙ ap (λ (m : Held × Step). step_fault (shape mode_names) w.position m.0 m.1) (word_met_same names w.is_trailing w.waiting w.position word w.held))
  where
    met : Held × Step
    met = word_met (rules names) [] w.is_trailing w.waiting w.position word w.held

-- ---- all words

walk_fault_same : (names : Names) → IsNames names → (w : Walk) (words : List Text) → walk_fault (shape names) [] w words ≡ walk_fault (shape mode_names) [] w words
unfolding walk_fault
walk_fault_same names is w [] = refl
walk_fault_same names is w (word ∷ rest) = ap₂ or_else (turn_fault_same names is w word)
    (walk_fault_same names is (walked (rules names) [] w word) rest ∙ ap (λ (v : Walk). walk_fault (shape mode_names) [] v rest) (walked_same names w word))

-- after the walk
abbrev ends : Names → Held → Kinds
ends names h = or_else (settle_fault (rules names) false h)
    (or_else (defaults_fault (settled (rules names) h).rows (rules names)) (check_fault (shape names) (finished (rules names) h) false))

defaults_same : (names : Names) (rows : List Row) → defaults_fault rows (rules names) ≡ defaults_fault rows here
unfolding defaults_fault
defaults_same names rows = refl

check_same : (names : Names) (rows : List Row) → check_fault (shape names) rows false ≡ check_fault (shape mode_names) rows false
check_same names rows = refl

ends_same : (names : Names) → IsNames names → (h : Held) → ends names h ≡ ends mode_names h
ends_same names is h = ap₂ or_else (settle_fault_same names is h) (ap₂ or_else
    (defaults_same names (settled (rules names) h).rows ∙ ap (λ (s : Held). defaults_fault s.rows here) (settled_same names h))
    (check_same names (finished (rules names) h) ∙ ap (λ (rows : List Row). check_fault (shape mode_names) rows false) (finished_same names h)))

level_same : (names : Names) → IsNames names → (words : List Text) → level_fault (shape names) [] nothing_held words false [] ≡ level_fault (shape mode_names) [] nothing_held words false []
level_same names is words = ap₂ or_else (walk_fault_same names is (walk_from nothing_held) words)
    (ends_same names is (walk (rules names) [] nothing_held words).held ∙ ap (λ (w : Walk). ends mode_names w.held) (walk_same names (walk_from nothing_held) words))

-- by the words alone
pub level_of : (names : Names) (words : List Text) → fault_of (vemodel names) words ≡ level_fault (shape names) [] nothing_held words false []
level_of names words = leaf_fault (built (vemodel names)) nothing_held words refl

-- what the rules refuse
pub fault_same : (names : Names) → IsNames names → (words : List Text) → fault_of (vemodel names) words ≡ fault_of (vemodel mode_names) words
fault_same names is words = level_of names words ∙ (level_same names is words ∙ sym (level_of mode_names words))
