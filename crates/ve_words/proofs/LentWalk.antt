-- Where the names of the modes are borrowed from decides nothing: what the words give.
use Rattle.std.proofs.Common.{◌≡◌, ◌∙◌, ◌==◌, ◌&&◌, ◌||◌, ℕ, zero, suc, Bool, true, false, List, [], ◌∷◌, Option, Some, None, refl, ap, ap₂, codes}
use Rattle.std.specs.Prelude.{if◌then◌else◌, drop, length, encode_utf8, fold, slice_get}
use Rattle.std.specs.Str.{bytes_eq, chars}
use Rattle.clap.specs.Lexer.{long_of, short_of}
use Rattle.clap.specs.Walk.{Held, Outcome, Row, Rule, Step, Text, Waiting, Walk, after_flag, after_step, arg_by_id, arg_by_index, arg_by_long, arg_by_short}
use Rattle.clap.specs.Walk.{attached_value, bundle, bundle_met, bundle_step, done, finished, flag_met, idle, is_multiple, is_pending, long_met, long_or_other, long_word, next, next_position}
use Rattle.clap.specs.Walk.{nothing_held, option, option_met, option_word, plain, plain_word, positional, pushed, reacted, refused, settled, settled_rows, short_met, short_or_plain, short_word}
use Rattle.clap.specs.Walk.{subcommand, subcommand_met, subcommand_or_other, takes_several, takes_values, to_positional, trailing, used, used_by_id, value, waits, walk, walk_from, walked, walked_from, with_default, word_met}
use Rattle.clap.specs.Simple.{Shape, built, matches_of}
use Rattle.ve_words.specs.Command.{Names, mode_names, vemodel}

-- the command as it is built, and its arguments
abbrev pub shape : Names → Shape
shape names = (built (vemodel names)).top

abbrev pub rules : Names → List Rule
rules names = (shape names).rules

abbrev pub here : List Rule
here = rules mode_names

-- the first argument, and the ones after it
abbrev pub first : List Rule → Option Rule
first [] = None
first (a ∷ rest) = Some a

abbrev pub others : List Rule → List Rule
others [] = []
others (a ∷ rest) = rest

pub by_id : (names : Names) {X : Type 0} (F : Option Rule → X) → F (first (rules names)) ≡ F (first here) → (id : Text) → F (arg_by_id (rules names) id) ≡ F (arg_by_id here id)
by_id names {X} F same id = go (bytes_eq (codes "mode") id)
  where
    go : (b : Bool) → F (if b then first (rules names) else arg_by_id (others here) id) ≡ F (if b then first here else arg_by_id (others here) id)
    go true = same
    go false = refl

pub by_index : (names : Names) {X : Type 0} (F : Option Rule → X) → F (first (rules names)) ≡ F (first here) → (i : ℕ) → F (arg_by_index (rules names) i) ≡ F (arg_by_index here i)
by_index names {X} F same i = go (1 == i)
  where
    go : (b : Bool) → F (if b then first (rules names) else None) ≡ F (if b then first here else None)
    go true = same
    go false = refl

-- ---- one use

pub settled_rows_same : (names : Names) (p : Option (Text × List Text)) (rows : List Row) → settled_rows (rules names) p rows ≡ settled_rows here p rows
settled_rows_same names None rows = refl
settled_rows_same names (Some p) rows = by_id names (λ o. used_by_id o p.1 rows) refl p.0

pub settled_same : (names : Names) (h : Held) → settled (rules names) h ≡ settled here h
settled_same names h = ap (λ (rows : List Row). record h { rows = rows; pending = None }) (settled_rows_same names h.pending h.rows)

pub reacted_same : (names : Names) (a : Rule) (values : List Text) (h : Held) → reacted (rules names) a values h ≡ reacted here a values h
reacted_same names a values h = ap (λ (s : Held). record h { rows = used a values s.rows; pending = None }) (settled_same names h)

option_met_same : (names : Names) (a : Rule) (v : Option Text) (h : Held) → option_met (rules names) a v h ≡ option_met here a v h
option_met_same names a (Some v) h = ap (λ (s : Held). (s, done)) (reacted_same names a (v ∷ []) h)
option_met_same names a None h = ap (λ (s : Held). (record s { pending = Some (a.id, []) }, waits a.id)) (settled_same names h)

flag_met_same : (names : Names) (a : Rule) (v : Option Text) (h : Held) → flag_met (rules names) a v h ≡ flag_met here a v h
flag_met_same names a (Some v) h = refl
flag_met_same names a None h = ap (λ (s : Held). (s, done)) (reacted_same names a [] h)

long_met_same : (names : Names) (o : Option Rule) (v : Option Text) (h : Held) → long_met (rules names) o v h ≡ long_met here o v h
long_met_same names None v h = refl
long_met_same names (Some a) v h = ap₂ (λ x y. if takes_values a then x else y) (option_met_same names a v h) (flag_met_same names a v h)

short_met_same : (names : Names) (o : Option Rule) (rest : Text) (h : Held) (after after2 : Held → Held × Outcome) → ((s : Held) → after s ≡ after2 s)
    → short_met (rules names) o rest h after ≡ short_met here o rest h after2
short_met_same names None rest h after after2 same = refl
short_met_same names (Some a) rest h after after2 same =
    ap₂ (λ x y. if takes_values a then x else y) (option_met_same names a (attached_value rest) h)
    (same (reacted (rules names) a [] h) ∙ ap after2 (reacted_same names a [] h))

bundle_step_same : (names : Names) (k : ℕ) (o : Option ℕ) (flags : Text) (skip : ℕ) (so_far : Outcome) (h : Held)
    → ((rest : Text) (left : ℕ) (so_far : Outcome) (s : Held) → bundle_met (rules names) k rest left so_far s ≡ bundle_met here k rest left so_far s)
    → bundle_step (rules names) o flags skip so_far h (bundle_met (rules names) k) ≡ bundle_step here o flags skip so_far h (bundle_met here k)
bundle_step_same names k None flags skip so_far h same = refl
bundle_step_same names k (Some x) flags zero so_far h same =
    short_met_same names (arg_by_short here x) (drop (length (encode_utf8 x)) flags) h _ _ (same (drop (length (encode_utf8 x)) flags) 0 done)
bundle_step_same names k (Some x) flags (suc skip) so_far h same = same (drop (length (encode_utf8 x)) flags) skip so_far h

bundle_met_same : (names : Names) (k : ℕ) (flags : Text) (skip : ℕ) (so_far : Outcome) (h : Held) → bundle_met (rules names) k flags skip so_far h ≡ bundle_met here k flags skip so_far h
unfolding bundle_met
bundle_met_same names zero flags skip so_far h = refl
bundle_met_same names (suc k) flags skip so_far h = bundle_step_same names k (slice_get (chars flags) 0) flags skip so_far h (bundle_met_same names k)

-- ---- one word

plain_word_same : (names : Names) (waiting : Waiting) (word : Text) (h : Held) → plain_word (rules names) waiting word h ≡ plain_word here waiting word h
plain_word_same names idle word h = refl
plain_word_same names (option id) word h = ap (λ (p : Held × Waiting). (p.0, next p.1)) (by_id names (λ o. option_word o id word h) refl id)
plain_word_same names positional word h = refl

after_flag_same : (names : Names) (waiting : Waiting) (word : Text) (h : Held) (o : Outcome) → after_flag (rules names) waiting word h o ≡ after_flag here waiting word h o
after_flag_same names waiting word h done = refl
after_flag_same names waiting word h (waits id) = refl
after_flag_same names waiting word h plain = plain_word_same names waiting word h
after_flag_same names waiting word h refused = plain_word_same names waiting word h

long_word_same : (names : Names) (waiting : Waiting) (word name : Text) (v : Option Text) (h : Held)
    → long_word (rules names) waiting word name v h ≡ long_word here waiting word name v h
long_word_same names waiting word name v h =
    after_flag_same names waiting word (long_met (rules names) (arg_by_long here name) v h).0 (long_met (rules names) (arg_by_long here name) v h).1
    ∙ ap (λ (p : Held × Outcome). after_flag here waiting word p.0 p.1) (long_met_same names (arg_by_long here name) v h)

short_word_same : (names : Names) (waiting : Waiting) (word flags : Text) (h : Held) → short_word (rules names) waiting word flags h ≡ short_word here waiting word flags h
short_word_same names waiting word flags h =
    after_flag_same names waiting word (bundle (rules names) flags h).0 (bundle (rules names) flags h).1
    ∙ ap (λ (p : Held × Outcome). after_flag here waiting word p.0 p.1) (bundle_met_same names (length flags) flags h.skip plain (record h { skip = 0 }))

short_or_plain_same : (names : Names) (waiting : Waiting) (word : Text) (o : Option Text) (h : Held)
    → short_or_plain (rules names) waiting word o h ≡ short_or_plain here waiting word o h
short_or_plain_same names waiting word (Some flags) h = short_word_same names waiting word flags h
short_or_plain_same names waiting word None h = plain_word_same names waiting word h

long_or_other_same : (names : Names) (waiting : Waiting) (word : Text) (o : Option (Text × Option Text)) (h : Held)
    → long_or_other (rules names) waiting word o h ≡ long_or_other here waiting word o h
long_or_other_same names waiting word (Some p) h = long_word_same names waiting word p.0 p.1 h
long_or_other_same names waiting word None h = short_or_plain_same names waiting word (short_of word) h

subcommand_or_other_same : (names : Names) (o : Option Text) (waiting : Waiting) (position : ℕ) (word : Text) (h : Held)
    → subcommand_or_other (rules names) o waiting position word h ≡ subcommand_or_other here o waiting position word h
subcommand_or_other_same names (Some name) waiting position word h = refl
subcommand_or_other_same names None waiting position word h =
    ap (λ (x : Held × Step). if bytes_eq word (45 ∷ 45 ∷ []) then (h, trailing position) else x) (long_or_other_same names waiting word (long_of word) h)

pub word_met_same : (names : Names) (is_trailing : Bool) (waiting : Waiting) (position : ℕ) (word : Text) (h : Held)
    → word_met (rules names) [] is_trailing waiting position word h ≡ word_met here [] is_trailing waiting position word h
word_met_same names is_trailing waiting position word h =
    ap (λ (x : Held × Step). if is_trailing then (h, value) else x) (subcommand_or_other_same names (subcommand_met [] waiting word) waiting position word h)

-- ---- all words

to_positional_same : (names : Names) (o : Option Rule) (word : Text) (w : Walk) (h : Held) → to_positional (rules names) o word w h ≡ to_positional here o word w h
to_positional_same names None word w h = refl
to_positional_same names (Some a) word w h = ap (λ (s : Held). record {
  held = pushed a.id word (if is_pending a h.pending && takes_several a then h else s);
  waiting = if is_multiple a then positional else idle;
  position = next_position a w.position;
  is_trailing = w.is_trailing || a.trailing_var_arg;
  stopped = None;
}) (settled_same names h)

after_step_same : (names : Names) (word : Text) (w : Walk) (h : Held) (step : Step) → after_step (rules names) word w h step ≡ after_step here word w h step
after_step_same names word w h (next waiting) = refl
after_step_same names word w h (trailing position) = refl
after_step_same names word w h (subcommand name) = refl
after_step_same names word w h value =
    to_positional_same names (arg_by_index (rules names) w.position) word w h ∙ by_index names (λ o. to_positional here o word w h) refl w.position

pub walked_same : (names : Names) (w : Walk) (word : Text) → walked (rules names) [] w word ≡ walked here [] w word
unfolding walked
walked_same names w word = go w.stopped
  where
    met : Held × Step
    met = word_met (rules names) [] w.is_trailing w.waiting w.position word w.held

    go : (o : Option (Text × List Text)) → walked_from (rules names) [] o w word ≡ walked_from here [] o w word
    go (Some p) = refl
    go None = after_step_same names word w met.0 met.1
        ∙ ap (λ (m : Held × Step). after_step here word w m.0 m.1) (word_met_same names w.is_trailing w.waiting w.position word w.held)

pub walk_same : (names : Names) (w : Walk) (words : List Text) → fold (walked (rules names) []) w words ≡ fold (walked here []) w words
walk_same names w [] = refl
walk_same names w (word ∷ rest) = walk_same names (walked (rules names) [] w word) rest ∙ ap (λ (v : Walk). fold (walked here []) v rest) (walked_same names w word)

pub finished_same : (names : Names) (h : Held) → finished (rules names) h ≡ finished here h
finished_same names h = ap (λ (s : Held). fold with_default s.rows here) (settled_same names h)

-- what accepted words give
pub matches_same : (names : Names) (words : List Text) → matches_of (vemodel names) words ≡ matches_of (vemodel mode_names) words
matches_same names words =
    finished_same names (walk (rules names) [] nothing_held words).held ∙ ap (λ (w : Walk). finished here w.held) (walk_same names (walk_from nothing_held) words)
