-- The entries read so far are sound: each has one value, which its argument takes.
use Rattle.std.proofs.Common.{◌≡◌, ◌∙◌, ◌==◌, ◌&&◌, ◌||◌, ◌++◌, not, ℕ, zero, suc, Bool, true, false, true≢false, List, [], ◌∷◌, Option, Some, None, IfSome, refl, sym, ap, ap₂, subst, arith, codes}
use Rattle.std.specs.Prelude.{if◌then◌else◌, drop, find, length, encode_utf8, is_some, slice_get}
use Rattle.std.specs.List.{list_all}
use Rattle.std.specs.Option.{option_map_or}
use Rattle.std.specs.Str.{bytes_eq, chars}
use Rattle.std.proofs.lemmas.Bool.{eqb-true}
use Rattle.clap.specs.Lexer.{long_of, short_of}
use Rattle.clap.specs.ValueTests.{accepts, is_unsigned_in}
use Rattle.clap.specs.Kinds.{Kinds, or_else, range_kinds, values_kinds}
use Rattle.clap.specs.Walk.{Held, Outcome, Row, Rule, Text, Waiting, after_flag, arg_by_id, arg_by_long, arg_by_short, at_row, attached_value, bundle, bundle_met, bundle_step}
use Rattle.clap.specs.Walk.{done, flag_met, has_long, has_row, has_short, idle, long_met, more_values, long_or_other, option, option_met, option_word, plain, plain_word, positional, reacted, refused, settled, settled_rows}
use Rattle.clap.specs.Walk.{short_met, short_or_plain, subcommand_or_other, takes_values, trailing, used, used_by_id, value, waits, with_values, without}
use Rattle.clap.specs.Simple.{filled, help_rule, with_index}
use Rattle.clap.specs.Faults.{bundle_step_fault, flag_word_fault, flags_fault, long_fault, option_fault, other_fault, react_fault, repeat_fault, settle_fault, short_fault, use_fault}
use Rattle.clap.specs.declared.builder.value_parser.Reading.{Reading}
use Rattle.clap.specs.declared.builder.value_parser.ValueParser.{ValueParser}
use Rattle.clap.specs.declared.builder.value_parser.ValueParser.TheVariants as parser
use Rattle.clap.specs.declared.error.kind.ErrorKind.{ErrorKind}
use Rattle.clap.specs.declared.error.kind.ErrorKind.TheVariants as kind
use Rattle.clap.specs.declared.parser.matches.ValueSource.{ValueSource}
use Rattle.clap.specs.declared.parser.matches.ValueSource.TheVariants.{CommandLine}
use Rattle.clap.proofs.WalkLemmas.{both}
use Rattle.ve_words.specs.Command.{edits_rule, max_edits, max_start, mode_names, mode_rule, start_rule}
use Rattle.ve_words.proofs.LentWalk.{here, shape}

-- the value is one that the argument takes
abbrev pub is_taken : Text → Text → Bool
is_taken id v = if bytes_eq id (codes "mode") then accepts false (parser.Names mode_names) v
    else (if bytes_eq id (codes "start") then is_unsigned_in 0 max_start v
    else (if bytes_eq id (codes "edits") then is_unsigned_in 0 max_edits v else true))

abbrev pub are_taken : Text → List Text → Bool
are_taken id [] = false
are_taken id (v ∷ []) = is_taken id v
are_taken id (v ∷ w ∷ more) = false

abbrev pub is_sound : Row → Bool
is_sound r = are_taken r.id r.values

abbrev pub AreSound : List Row → Type 0
AreSound rows = list_all is_sound rows ≡ true

-- ---- what gives no kind of error

pub never : {A : Type 0} (k : ErrorKind) (ks : Kinds) → k ∷ ks ≡ [] → A
never k ks e =
    let bad : ◌≡◌ {A = ℕ} (suc (length ks)) 0 = ap (λ (xs : Kinds). length xs) e in
    absurd (omega arith)

pub neither : (x y : Kinds) → or_else x y ≡ [] → (x ≡ []) × (y ≡ [])
neither [] y e = (refl, e)
neither (k ∷ ks) y e = never k ks e

pub must_pass : (b : Bool) (k : ErrorKind) → (if b then [] else k ∷ []) ≡ [] → b ≡ true
must_pass true k e = refl
must_pass false k e = never k [] e

pub must_fail : (b : Bool) (k : ErrorKind) → (if b then k ∷ [] else []) ≡ [] → b ≡ false
must_fail true k e = never k [] e
must_fail false k e = refl

range_one : (a b : Bool) (n : ℕ) → (1 == n) ≡ b → (if a then kind.InvalidValue ∷ [] else (if b then [] else kind.WrongNumberOfValues ∷ [])) ≡ [] → 1 ≡ n
range_one true b n is e = never _ [] e
range_one false true n is e = eqb-true 1 n is
range_one false false n is e = never _ [] e

not_false : (b : Bool) → (b && true) ≡ false → b ≡ false
not_false true e = e
not_false false e = refl

-- ---- rows

at_new_step : (b : Bool) (id : Text) (change : Row → List Row) (missing : List Row) (r : Row) (rs : List Row) → (b || has_row id rs) ≡ false
    → (has_row id rs ≡ false → at_row id change missing rs ≡ rs ++ missing) → (if b then change r ++ rs else r ∷ at_row id change missing rs) ≡ r ∷ (rs ++ missing)
at_new_step true id change missing r rs e ih = absurd (true≢false e)
at_new_step false id change missing r rs e ih = ap (λ (xs : List Row). r ∷ xs) (ih e)

pub at_new_row : (id : Text) (change : Row → List Row) (missing rows : List Row) → has_row id rows ≡ false → at_row id change missing rows ≡ rows ++ missing
at_new_row id change missing [] e = refl
at_new_row id change missing (r ∷ rs) e = at_new_step (bytes_eq r.id id) id change missing r rs e (at_new_row id change missing rs)

pub sound_together : (rows more : List Row) → AreSound rows → AreSound more → AreSound (rows ++ more)
sound_together [] more p q = q
sound_together (r ∷ rs) more p q =
    let parts = both _ _ p in
    ap₂ (λ a b. a && b) parts.0 (sound_together rs more parts.1 q)

nothing_more : (rows : List Row) → rows ++ [] ≡ rows
nothing_more [] = refl
nothing_more (r ∷ rs) = ap (λ (xs : List Row). r ∷ xs) (nothing_more rs)

abbrev pub new_row : Text → Reading → ValueSource → Text → Row
new_row id how source v = record {
  id = id;
  values = v ∷ [];
  count = None;
  source = Some source;
  reading = how;
}

pub with_new : (id : Text) (how : Reading) (source : ValueSource) (v : Text) (rows : List Row) → has_row id rows ≡ false
    → with_values id how source (v ∷ []) rows ≡ rows ++ new_row id how source v ∷ []
with_new id how source v rows fresh = at_new_row id (more_values source (v ∷ [])) (new_row id how source v ∷ []) rows fresh

pub sound_with : (id : Text) (how : Reading) (source : ValueSource) (v : Text) (rows : List Row) → is_taken id v ≡ true → has_row id rows ≡ false → AreSound rows
    → AreSound (with_values id how source (v ∷ []) rows)
sound_with id how source v rows taken fresh sound = subst AreSound (sym (with_new id how source v rows fresh))
    (sound_together rows (new_row id how source v ∷ []) sound (ap (λ b. b && true) taken))

-- ---- one use

set_sound : (id : Text) (how : Reading) (p : ValueParser) (values : List Text) (rows : List Row) → ((v : Text) → accepts false p v ≡ true → is_taken id v ≡ true)
    → or_else (range_kinds 1 1 (length values)) (or_else (repeat_fault false id rows) (values_kinds false p values)) ≡ []
    → AreSound rows → AreSound (with_values id how CommandLine values (without id rows))
set_sound id how p [] rows takes e sound = never kind.InvalidValue [] e
set_sound id how p (v ∷ []) rows takes e sound =
    let parts = neither (repeat_fault false id rows) (values_kinds false p (v ∷ [])) e in
    let fresh : has_row id rows ≡ false = not_false (has_row id rows) (must_fail (has_row id rows && true) kind.ArgumentConflict parts.0) in
    let passed = must_pass (accepts false p v) _ (neither _ _ parts.1).0 in
    let same : without id rows ≡ rows = at_new_row id (λ _. []) [] rows fresh ∙ nothing_more rows in
    subst (λ (xs : List Row). AreSound (with_values id how CommandLine (v ∷ []) xs)) (sym same) (sound_with id how CommandLine v rows (takes v passed) fresh sound)
set_sound id how p (v ∷ w ∷ more) rows takes e sound =
    let n = suc (suc (length more)) in
    let one : 1 ≡ suc (suc (length more)) = range_one (n == 0) (1 == n) n refl (neither _ _ e).0 in
    absurd (omega arith)

-- a use that the rules let pass keeps what is sound
abbrev pub KeepsSound : Rule → Type 0
KeepsSound a = (values : List Text) (rows : List Row) → use_fault false a values rows ≡ [] → AreSound rows → AreSound (used a values rows)

abbrev mode : Rule
mode = with_index 1 (filled (mode_rule mode_names))

abbrev start : Rule
start = with_index 2 (filled start_rule)

abbrev edits : Rule
edits = with_index 2 (filled edits_rule)

abbrev help : Rule
help = with_index 2 (filled help_rule)

mode_keeps : KeepsSound mode
mode_keeps [] rows e sound = never kind.InvalidValue [] e
mode_keeps (v ∷ vs) rows e sound = set_sound (codes "mode") _ (parser.Names mode_names) (v ∷ vs) rows (λ w passed. passed) e sound

start_keeps : KeepsSound start
start_keeps [] rows e sound = never kind.InvalidValue [] e
start_keeps (v ∷ vs) rows e sound = set_sound (codes "start") _ (parser.Unsigned 0 max_start) (v ∷ vs) rows (λ w passed. passed) e sound

edits_keeps : KeepsSound edits
edits_keeps [] rows e sound = never kind.InvalidValue [] e
edits_keeps (v ∷ vs) rows e sound = set_sound (codes "edits") _ (parser.Unsigned 0 max_edits) (v ∷ vs) rows (λ w passed. passed) e sound

help_keeps : KeepsSound help
help_keeps values rows e sound = never kind.DisplayHelp [] (neither _ _ e).1

picked : (a : Rule) (rest : Option Rule) (b : Bool) → KeepsSound a → IfSome rest KeepsSound → IfSome (if b then Some a else rest) KeepsSound
picked a rest true p q = p
picked a rest false p q = q

-- whatever argument is found
found_keeps : (test : Rule → Bool) → IfSome (find test here) KeepsSound
found_keeps test = picked mode _ (test mode) mode_keeps (picked start _ (test start) start_keeps (picked edits _ (test edits) edits_keeps (picked help None (test help) help_keeps tt)))

-- ---- one word

abbrev pub HoldsSound : Held → Type 0
HoldsSound h = AreSound h.rows

pending_sound : (o : Option Rule) (values : List Text) (rows : List Row) → IfSome o KeepsSound → option_map_or (λ a. use_fault false a values rows) o [] ≡ []
    → AreSound rows → AreSound (used_by_id o values rows)
pending_sound None values rows keeps e sound = sound
pending_sound (Some a) values rows keeps e sound = keeps values rows e sound

settled_rows_sound : (p : Option (Text × List Text)) (rows : List Row) → option_map_or (λ p. option_map_or (λ a. use_fault false a p.1 rows) (arg_by_id here p.0) []) p [] ≡ []
    → AreSound rows → AreSound (settled_rows here p rows)
settled_rows_sound None rows e sound = sound
settled_rows_sound (Some p) rows e sound = pending_sound (arg_by_id here p.0) p.1 rows (found_keeps (λ a. bytes_eq a.id p.0)) e sound

pub settled_sound : (h : Held) → settle_fault here false h ≡ [] → HoldsSound h → HoldsSound (settled here h)
settled_sound h e sound = settled_rows_sound h.pending h.rows e sound

reacted_sound : (a : Rule) (values : List Text) (h : Held) → KeepsSound a → react_fault here false a values h ≡ [] → HoldsSound h → HoldsSound (reacted here a values h)
reacted_sound a values h keeps e sound =
    let parts = neither _ _ e in
    keeps values (settled here h).rows parts.1 (settled_sound h parts.0 sound)

option_met_sound : (a : Rule) (v : Option Text) (h : Held) → KeepsSound a → option_fault here false a v h ≡ [] → HoldsSound h → HoldsSound (option_met here a v h).0
option_met_sound a (Some v) h keeps e sound = reacted_sound a (v ∷ []) h keeps e sound
option_met_sound a None h keeps e sound = settled_sound h e sound

flag_met_sound : (a : Rule) (v : Option Text) (h : Held) → KeepsSound a → (if is_some v then kind.TooManyValues ∷ [] else react_fault here false a [] h) ≡ []
    → HoldsSound h → HoldsSound (flag_met here a v h).0
flag_met_sound a (Some v) h keeps e sound = sound
flag_met_sound a None h keeps e sound = reacted_sound a [] h keeps e sound

long_flag_sound : (b : Bool) (a : Rule) (v : Option Text) (h : Held) → KeepsSound a
    → (if b then option_fault here false a v h else (if is_some v then kind.TooManyValues ∷ [] else react_fault here false a [] h)) ≡ []
    → HoldsSound h → HoldsSound (if b then option_met here a v h else flag_met here a v h).0
long_flag_sound true a v h keeps e sound = option_met_sound a v h keeps e sound
long_flag_sound false a v h keeps e sound = flag_met_sound a v h keeps e sound

long_met_sound : (o : Option Rule) (v : Option Text) (h : Held) → IfSome o KeepsSound → long_fault here false o v h ≡ [] → HoldsSound h → HoldsSound (long_met here o v h).0
long_met_sound None v h keeps e sound = sound
long_met_sound (Some a) v h keeps e sound = long_flag_sound (takes_values a) a v h keeps e sound

short_flag_sound : (b : Bool) (a : Rule) (v : Option Text) (h : Held) (after : Held → Kinds) (step : Held → Held × Outcome) → KeepsSound a
    → ((s : Held) → after s ≡ [] → HoldsSound s → HoldsSound (step s).0)
    → (if b then option_fault here false a v h else or_else (react_fault here false a [] h) (after (reacted here a [] h))) ≡ []
    → HoldsSound h → HoldsSound (if b then option_met here a v h else step (reacted here a [] h)).0
short_flag_sound true a v h after step keeps on e sound = option_met_sound a v h keeps e sound
short_flag_sound false a v h after step keeps on e sound =
    let parts = neither _ _ e in
    on (reacted here a [] h) parts.1 (reacted_sound a [] h keeps parts.0 sound)

short_met_sound : (o : Option Rule) (rest : Text) (h : Held) (after : Held → Kinds) (step : Held → Held × Outcome) → IfSome o KeepsSound
    → ((s : Held) → after s ≡ [] → HoldsSound s → HoldsSound (step s).0)
    → short_fault here false o rest h after ≡ [] → HoldsSound h → HoldsSound (short_met here o rest h step).0
short_met_sound None rest h after step keeps on e sound = sound
short_met_sound (Some a) rest h after step keeps on e sound = short_flag_sound (takes_values a) a (attached_value rest) h after step keeps on e sound

bundle_step_sound : (k : ℕ) (o : Option ℕ) (flags : Text) (skip : ℕ) (so_far : Outcome) (h : Held)
    → ((rest : Text) (left : ℕ) (so_far : Outcome) (s : Held) → flags_fault here false k rest left s ≡ [] → HoldsSound s → HoldsSound (bundle_met here k rest left so_far s).0)
    → bundle_step_fault here false o flags skip h (flags_fault here false k) ≡ [] → HoldsSound h → HoldsSound (bundle_step here o flags skip so_far h (bundle_met here k)).0
bundle_step_sound k None flags skip so_far h on e sound = sound
bundle_step_sound k (Some x) flags zero so_far h on e sound =
    let rest = drop (length (encode_utf8 x)) flags in
    short_met_sound (arg_by_short here x) rest h (flags_fault here false k rest 0) (bundle_met here k rest 0 done) (found_keeps (λ a. not (is_some a.index) && has_short a x)) (on rest 0 done) e sound
bundle_step_sound k (Some x) flags (suc skip) so_far h on e sound = on (drop (length (encode_utf8 x)) flags) skip so_far h e sound

bundle_sound : (k : ℕ) (flags : Text) (skip : ℕ) (so_far : Outcome) (h : Held) → flags_fault here false k flags skip h ≡ [] → HoldsSound h → HoldsSound (bundle_met here k flags skip so_far h).0
unfolding bundle_met flags_fault
bundle_sound zero flags skip so_far h e sound = sound
bundle_sound (suc k) flags skip so_far h e sound = bundle_step_sound k (slice_get (chars flags) 0) flags skip so_far h (bundle_sound k) e sound

option_word_sound : (o : Option Rule) (id word : Text) (h : Held) → HoldsSound h → HoldsSound (option_word o id word h).0
option_word_sound None id word h sound = sound
option_word_sound (Some a) id word h sound = sound

plain_word_sound : (waiting : Waiting) (word : Text) (h : Held) → HoldsSound h → HoldsSound (plain_word here waiting word h).0
plain_word_sound idle word h sound = sound
plain_word_sound (option id) word h sound = option_word_sound (arg_by_id here id) id word h sound
plain_word_sound positional word h sound = sound

after_flag_sound : (waiting : Waiting) (word : Text) (h : Held) (o : Outcome) → HoldsSound h → HoldsSound (after_flag here waiting word h o).0
after_flag_sound waiting word h done sound = sound
after_flag_sound waiting word h (waits id) sound = sound
after_flag_sound waiting word h plain sound = plain_word_sound waiting word h sound
after_flag_sound waiting word h refused sound = plain_word_sound waiting word h sound

short_word_sound : (waiting : Waiting) (word : Text) (o : Option Text) (h : Held)
    → option_map_or (λ flags. flags_fault here false (length flags) flags h.skip (record h { skip = 0 })) o [] ≡ [] → HoldsSound h → HoldsSound (short_or_plain here waiting word o h).0
short_word_sound waiting word (Some flags) h e sound =
    after_flag_sound waiting word (bundle here flags h).0 (bundle here flags h).1 (bundle_sound (length flags) flags h.skip plain (record h { skip = 0 }) e sound)
short_word_sound waiting word None h e sound = plain_word_sound waiting word h sound

flag_word_sound : (waiting : Waiting) (word : Text) (o : Option (Text × Option Text)) (h : Held) → flag_word_fault here false o word h ≡ []
    → HoldsSound h → HoldsSound (long_or_other here waiting word o h).0
flag_word_sound waiting word (Some p) h e sound = after_flag_sound waiting word (long_met here (arg_by_long here p.0) p.1 h).0 (long_met here (arg_by_long here p.0) p.1 h).1 (long_met_sound (arg_by_long here p.0) p.1 h (found_keeps (λ a. not (is_some a.index) && has_long a p.0)) e sound)
flag_word_sound waiting word None h e sound = short_word_sound waiting word (short_of word) h e sound

dashes_sound : (b : Bool) (waiting : Waiting) (position : ℕ) (word : Text) (h : Held) → (if b then [] else flag_word_fault here false (long_of word) word h) ≡ []
    → HoldsSound h → HoldsSound (if b then (h, trailing position) else long_or_other here waiting word (long_of word) h).0
dashes_sound true waiting position word h e sound = sound
dashes_sound false waiting position word h e sound = flag_word_sound waiting word (long_of word) h e sound

pub word_sound : (is_trailing : Bool) (waiting : Waiting) (position : ℕ) (word : Text) (h : Held)
    → (if is_trailing then [] else other_fault (shape mode_names) None word h) ≡ [] → HoldsSound h
    → HoldsSound (if is_trailing then (h, value) else subcommand_or_other here None waiting position word h).0
word_sound true waiting position word h e sound = sound
word_sound false waiting position word h e sound = dashes_sound (bytes_eq word (45 ∷ 45 ∷ [])) waiting position word h e sound
