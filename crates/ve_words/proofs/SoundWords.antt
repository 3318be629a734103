-- Accepted words give each of the three values, so they ask for a mode.
use Rattle.std.proofs.Common.{◌≡◌, ◌∙◌, ◌&&◌, ◌||◌, ◌++◌, not, ℕ, Bool, true, false, true≢false, List, [], ◌∷◌, Option, Some, None, refl, sym, ap, subst, codes}
use Rattle.std.specs.Prelude.{if◌then◌else◌, find, fold, is_some, map, option_and_then, slice_get}
use Rattle.std.specs.Option.{option_map_or}
use Rattle.std.specs.Str.{bytes_eq, encode_utf8_all}
use Rattle.std.specs.Str.Parse.{digits_value, without_leading_plus}
use Rattle.std.proofs.lemmas.Slice.Eq.{bytes_eq-Decides}
use Rattle.clap.specs.ValueTests.{accepts, is_unsigned_in}
use Rattle.clap.specs.Facts.{explicit_source}
use Rattle.clap.specs.Kinds.{or_else}
use Rattle.clap.specs.Takes.{is_given}
use Rattle.clap.specs.Walk.{Held, Row, Rule, Step, Text, Walk, after_step, arg_by_index, finished, first_of, has_row, idle, is_pending, next, nothing_held, option, positional, settled, subcommand, takes_several, to_positional, trailing}
use Rattle.clap.specs.Walk.{value, walk, walk_from, walked, walked_from, with_values, word_met}
use Rattle.clap.specs.Walk.{Waiting}
use Rattle.clap.specs.Words.{matches_of}
use Rattle.clap.specs.Faults.{check_fault, defaults_fault, level_fault, positional_fault, settle_fault, step_fault, turn_fault, walk_fault, word_fault}
use Rattle.clap.specs.declared.builder.value_parser.Reading.TheVariants.{AsWritten}
use Rattle.clap.specs.declared.builder.value_parser.ValueParser.TheVariants as parser
use Rattle.clap.specs.declared.error.kind.ErrorKind.TheVariants as kind
use Rattle.clap.specs.declared.parser.matches.ValueSource.TheVariants.{DefaultValue}
use Rattle.clap.proofs.WalkLemmas.{both}
use Rattle.ve_words.specs.Command.{max_edits, max_start, mode_names, vemodel}
use Rattle.ve_words.specs.Laws.{AcceptedWordsAsk, AsksSomething}
use Rattle.ve_words.specs.Words.{Asks, meaning_of_rows, asks, meant_by, mode_named, number_up_to}
use Rattle.ve_words.specs.declared.read.Mode.{Mode}
use Rattle.ve_words.specs.declared.read.Mode.TheVariants.{Run, Make, Soak}
use Rattle.ve_words.proofs.LentFaults.{level_of}
use Rattle.ve_words.proofs.LentWalk.{here, shape}
use Rattle.ve_words.proofs.SoundWalk.{AreSound, HoldsSound, are_taken, is_sound, is_taken, must_fail, neither, new_row, settled_sound, sound_with, with_new, word_sound}

-- ---- all words

positional_sound : (b : Bool) (h : Held) → (if b then [] else settle_fault here false h) ≡ [] → HoldsSound h → HoldsSound (if b then h else settled here h)
positional_sound true h e sound = sound
positional_sound false h e sound = settled_sound h e sound

to_positional_sound : (o : Option Rule) (word : Text) (w : Walk) (h : Held) → option_map_or (λ a. positional_fault here false a h) o (kind.UnknownArgument ∷ []) ≡ []
    → HoldsSound h → HoldsSound (to_positional here o word w h).held
to_positional_sound None word w h e sound = sound
to_positional_sound (Some a) word w h e sound = positional_sound (is_pending a h.pending && takes_several a) h e sound

step_sound : (word : Text) (w : Walk) (h : Held) (step : Step) → step_fault (shape mode_names) w.position h step ≡ [] → HoldsSound h → HoldsSound (after_step here word w h step).held
step_sound word w h (next waiting) e sound = sound
step_sound word w h (trailing position) e sound = sound
step_sound word w h (subcommand name) e sound = sound
step_sound word w h value e sound = to_positional_sound (arg_by_index here w.position) word w h e sound

met_sound : (is_trailing : Bool) (waiting : Waiting) (position : ℕ) (word : Text) (h : Held) → word_fault (shape mode_names) [] is_trailing waiting word h ≡ []
    → HoldsSound h → HoldsSound (word_met here [] is_trailing waiting position word h).0
met_sound is_trailing idle position word h e sound = word_sound is_trailing idle position word h e sound
met_sound is_trailing (option id) position word h e sound = word_sound is_trailing (option id) position word h e sound
met_sound is_trailing positional position word h e sound = word_sound is_trailing positional position word h e sound

turn_sound : (o : Option (Text × List Text)) (w : Walk) (word : Text)
    → (if is_some o then [] else or_else (word_fault (shape mode_names) [] w.is_trailing w.waiting word w.held)
    (step_fault (shape mode_names) w.position (word_met here [] w.is_trailing w.waiting w.position word w.held).0 (word_met here [] w.is_trailing w.waiting w.position word w.held).1)) ≡ []
    → HoldsSound w.held → HoldsSound (walked_from here [] o w word).held
turn_sound (Some p) w word e sound = sound
turn_sound None w word e sound =
    let parts = neither _ _ e in
    let met = word_met here [] w.is_trailing w.waiting w.position word w.held in
    step_sound word w met.0 met.1 parts.1 (met_sound w.is_trailing w.waiting w.position word w.held parts.0 sound)

walked_sound : (w : Walk) (word : Text) → turn_fault (shape mode_names) [] w word ≡ [] → HoldsSound w.held → HoldsSound (walked here [] w word).held
unfolding walked
walked_sound w word e sound = turn_sound w.stopped w word e sound

walk_sound : (w : Walk) (words : List Text) → walk_fault (shape mode_names) [] w words ≡ [] → HoldsSound w.held → HoldsSound (fold (walked here []) w words).held
unfolding walk_fault
walk_sound w [] e sound = sound
walk_sound w (word ∷ rest) e sound =
    let parts = neither _ _ e in
    walk_sound (walked here [] w word) rest parts.1 (walked_sound w word parts.0 sound)

-- ---- defaults

abbrev Has : Text → List Row → Type 0
Has id rows = has_row id rows ≡ true

or_true : (b : Bool) → (b || true) ≡ true
or_true true = refl
or_true false = refl

has_first : (id : Text) (rows more : List Row) → Has id rows → Has id (rows ++ more)
has_first id [] more h = absurd (true≢false (sym h))
has_first id (r ∷ rs) more h = go (bytes_eq r.id id) h (has_first id rs more)
  where
    go : (b : Bool) → (b || has_row id rs) ≡ true → (Has id rs → Has id (rs ++ more)) → (b || has_row id (rs ++ more)) ≡ true
    go true e ih = refl
    go false e ih = ih e

has_last : (id : Text) (rows more : List Row) → Has id more → Has id (rows ++ more)
has_last id [] more h = h
has_last id (r ∷ rs) more h = ap (λ b. bytes_eq r.id id || b) (has_last id rs more h) ∙ or_true (bytes_eq r.id id)

-- the rows with a default for the argument, where it isn't there
abbrev defaulted : Text → Text → List Row → List Row
defaulted id v rows = if has_row id rows then rows else with_values id AsWritten DefaultValue (v ∷ []) rows

record IsDefaulted (id : Text) (before after : List Row) : Type 0 where
  sound : AreSound after
  there : Has id after
  kept : (other : Text) → Has other before → Has other after

defaults : (id v : Text) (rows : List Row) → is_taken id v ≡ true → bytes_eq id id ≡ true → AreSound rows → IsDefaulted id rows (defaulted id v rows)
defaults id v rows taken same sound = go (has_row id rows) refl
  where
    go : (b : Bool) → has_row id rows ≡ b → IsDefaulted id rows (if b then rows else with_values id AsWritten DefaultValue (v ∷ []) rows)
    go true e = record { sound = sound; there = e; kept = λ other h. h }
    go false e =
        let is = with_new id AsWritten DefaultValue v rows e in
        record {
          sound = sound_with id AsWritten DefaultValue v rows taken e sound;
          there = subst (Has id) (sym is) (has_last id rows (new_row id AsWritten DefaultValue v ∷ []) (ap (λ b. b || false) same));
          kept = λ other h. subst (Has other) (sym is) (has_first other rows (new_row id AsWritten DefaultValue v ∷ []) h);
        }

-- ---- reading

-- the value of an entry
record Reads (id : Text) (rows : List Row) : Type 0 where
  text : Text
  is : first_of id rows ≡ Some text
  taken : is_taken id text ≡ true

one_value : (id : Text) (values : List Text) → are_taken id values ≡ true → (v : Text) × (slice_get values 0 ≡ Some v) × (is_taken id v ≡ true)
one_value id [] e = absurd (true≢false (sym e))
one_value id (v ∷ []) e = (v, refl, e)
one_value id (v ∷ w ∷ more) e = absurd (true≢false (sym e))

read_step : (id : Text) (r : Row) (rs : List Row) (b : Bool) → bytes_eq r.id id ≡ b → (b || has_row id rs) ≡ true → is_sound r ≡ true → (Has id rs → Reads id rs)
    → (text : Text) × (option_and_then (λ (x : Row). slice_get x.values 0) (if b then Some r else find (λ (x : Row). bytes_eq x.id id) rs) ≡ Some text) × (is_taken id text ≡ true)
read_step id r rs true e has sound ih = one_value id r.values (subst (λ (name : Text). are_taken name r.values ≡ true) ((bytes_eq-Decides r.id id).0 e) sound)
read_step id r rs false e has sound ih =
    let found = ih has in
    (found.text, found.is, found.taken)

reads : (id : Text) (rows : List Row) → Has id rows → AreSound rows → Reads id rows
reads id [] has sound = absurd (true≢false (sym has))
reads id (r ∷ rs) has sound =
    let parts = both _ _ sound in
    let found = read_step id r rs (bytes_eq r.id id) refl has parts.0 (λ h. reads id rs h parts.1) in
    record { text = found.0; is = found.1; taken = found.2 }

given_has : (id : Text) (rows : List Row) → is_given id rows ≡ true → Has id rows
given_has id [] e = absurd (true≢false (sym e))
given_has id (r ∷ rs) e = go (bytes_eq r.id id) e (given_has id rs)
  where
    go : (b : Bool) → option_map_or (λ (x : Row). explicit_source x.source) (if b then Some r else find (λ (x : Row). bytes_eq x.id id) rs) false ≡ true
        → (is_given id rs ≡ true → Has id rs) → (b || has_row id rs) ≡ true
    go true e ih = refl
    go false e ih = ih e

-- ---- the values

named_by : (v : Text) (a b c : Bool) → bytes_eq (codes "run") v ≡ a → bytes_eq (codes "make") v ≡ b → bytes_eq (codes "soak") v ≡ c → (a || (b || (c || false))) ≡ true
    → (mode : Mode) × (mode_named v ≡ Some mode)
named_by v true b c is-a is-b is-c e = (Run, ap mode_named (sym ((bytes_eq-Decides (codes "run") v).0 is-a)))
named_by v false true c is-a is-b is-c e = (Make, ap mode_named (sym ((bytes_eq-Decides (codes "make") v).0 is-b)))
named_by v false false true is-a is-b is-c e = (Soak, ap mode_named (sym ((bytes_eq-Decides (codes "soak") v).0 is-c)))
named_by v false false false is-a is-b is-c e = absurd (true≢false (sym e))

mode_reads : (v : Text) → accepts false (parser.Names mode_names) v ≡ true → (mode : Mode) × (mode_named v ≡ Some mode)
mode_reads v e = named_by v (bytes_eq (codes "run") v) (bytes_eq (codes "make") v) (bytes_eq (codes "soak") v) refl refl refl e

number_reads : (most : ℕ) (v : Text) → is_unsigned_in 0 most v ≡ true → number_up_to most v ≡ Some (digits_value 10 (without_leading_plus v))
number_reads most v e = ap (λ b. if b then Some (digits_value 10 (without_leading_plus v)) else None) e

asks_by : (mode : Option Mode) (start edits : Option ℕ) (m : Mode) (s e : ℕ) → mode ≡ Some m → start ≡ Some s → edits ≡ Some e → asks mode start edits ≡ Asks m s e
asks_by mode start edits m s e is-mode is-start is-edits = λ i. asks (is-mode i) (is-start i) (is-edits i)

-- rows that have each of the three
all_read : (rows : List Row) → AreSound rows → Has (codes "mode") rows → Has (codes "start") rows → Has (codes "edits") rows → AsksSomething (meaning_of_rows rows)
all_read rows sound has-mode has-start has-edits =
    let mode = reads (codes "mode") rows has-mode sound in
    let start = reads (codes "start") rows has-start sound in
    let edits = reads (codes "edits") rows has-edits sound in
    let named = mode_reads mode.text mode.taken in (
      named.0,
      digits_value 10 (without_leading_plus start.text),
      digits_value 10 (without_leading_plus edits.text),
      asks_by _ _ _ named.0 _ _ (ap (option_and_then mode_named) mode.is ∙ named.1)
          (ap (option_and_then (number_up_to max_start)) start.is ∙ number_reads max_start start.text start.taken)
          (ap (option_and_then (number_up_to max_edits)) edits.is ∙ number_reads max_edits edits.text edits.taken),
    )

mode_given : (a b : Bool) → (if (not a || b) then kind.MissingRequiredArgument ∷ [] else []) ≡ [] → a ≡ true
mode_given true b e = refl
mode_given false b e = absurd (true≢false (must_fail true kind.MissingRequiredArgument e))

same_rows : (b : Bool) (rows : List Row) → (if b then rows else rows) ≡ rows
same_rows true rows = refl
same_rows false rows = refl

-- the rows at the end: the arguments without defaults add nothing
finished_is : (h : Held) → finished here h ≡ defaulted (codes "edits") (codes "100") (defaulted (codes "start") (codes "0") (settled here h).rows)
finished_is h =
    let rows = (settled here h).rows in
    let last = defaulted (codes "edits") (codes "100") (defaulted (codes "start") (codes "0") (if has_row (codes "mode") rows then rows else rows)) in
    same_rows (has_row (codes "help") last) last
    ∙ ap (λ (xs : List Row). defaulted (codes "edits") (codes "100") (defaulted (codes "start") (codes "0") xs)) (same_rows (has_row (codes "mode") rows) rows)

level_reads : (words : List Text) → level_fault (shape mode_names) [] nothing_held words false [] ≡ [] → AsksSomething (meaning_of_rows (matches_of (vemodel mode_names) words))
level_reads words e =
    let h = (walk here [] nothing_held words).held in
    let walk_part = neither (walk_fault (shape mode_names) [] (walk_from nothing_held) words) _ e in
    let settle_part = neither (settle_fault here false h) _ walk_part.1 in
    let check_part = neither (defaults_fault (settled here h).rows here) (check_fault (shape mode_names) (finished here h) false) settle_part.1 in
    let read = settled_sound h settle_part.0 (walk_sound (walk_from nothing_held) words walk_part.0 refl) in
    let one = defaults (codes "start") (codes "0") (settled here h).rows refl refl read in
    let two = defaults (codes "edits") (codes "100") (defaulted (codes "start") (codes "0") (settled here h).rows) refl refl one.sound in
    let is = finished_is h in
    let mode : Has (codes "mode") (finished here h) = given_has (codes "mode") (finished here h) (mode_given (is_given (codes "mode") (finished here h)) _ check_part.1) in
    all_read (finished here h) (subst AreSound (sym is) two.sound) mode
    (subst (Has (codes "start")) (sym is) (two.kept (codes "start") one.there)) (subst (Has (codes "edits")) (sym is) two.there)

pub accepted_ask : AcceptedWordsAsk
accepted_ask words e =
    let texts = map encode_utf8_all words in
    let asked = level_reads texts (sym (level_of mode_names texts) ∙ e) in
    (asked.0, asked.1, asked.2, ap (λ kinds. meant_by kinds (matches_of (vemodel mode_names) texts)) e ∙ asked.3)
