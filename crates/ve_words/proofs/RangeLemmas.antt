-- The numbers of words are in their ranges.
use Rattle.std.proofs.Common.{◌≡◌, ◌≤◌, ℕ, Bool, true, false, List, [], ◌∷◌, Option, Some, None, IfSome, refl, subst, arith}
use Rattle.std.specs.Prelude.{⊤, if◌then◌else◌, codes, map, option_and_then}
use Rattle.std.specs.Str.{encode_utf8_all}
use Rattle.std.specs.Str.Parse.{digits_value, without_leading_plus}
use Rattle.clap.specs.ValueTests.{is_unsigned_in}
use Rattle.clap.specs.Words.{Kinds, Row, Text, fault_of, first_of, matches_of}
use Rattle.clap.specs.declared.builder.value_parser.ValueParser.TheVariants as parser
use Rattle.clap.proofs.ValueTestLemmas.{accepts-Accepts}
use Rattle.ve_words.specs.Command.{max_edits, max_start, mode_names, vemodel}
use Rattle.ve_words.specs.Laws.{NumbersAreInRange}
use Rattle.ve_words.specs.Words.{Asks, HelpWanted, Meant, Refused, asks, meant_by, meant_unasked, mode_named, number_up_to, unasked_by}
use Rattle.ve_words.specs.declared.read.Mode.{Mode}
use Rattle.ve_words.specs.declared.unasked.Unasked.{Unasked}
use Rattle.ve_words.specs.declared.unasked.Unasked.TheVariants as unasked

abbrev IsInRange : Meant → Type 0
IsInRange (Asks mode start edits) = (start ≤ max_start) × (edits ≤ max_edits)
IsInRange Refused = ⊤
IsInRange HelpWanted = ⊤

number_in_range : (most : ℕ) (o : Option Text) → IfSome (option_and_then (number_up_to most) o) (λ n. n ≤ most)
number_in_range most None = tt
number_in_range most (Some text) = go (is_unsigned_in 0 most text) refl
  where
    go : (b : Bool) → is_unsigned_in 0 most text ≡ b → IfSome (if b then Some (digits_value 10 (without_leading_plus text)) else None) (λ n. n ≤ most)
    go true e = (accepts-Accepts false (parser.Unsigned 0 most) text e).3
    go false e = tt

asks_in_range : (mode : Option Mode) (start edits : Option ℕ) → IfSome start (λ n. n ≤ max_start) → IfSome edits (λ n. n ≤ max_edits) → IsInRange (asks mode start edits)
asks_in_range None start edits p q = tt
asks_in_range (Some mode) None edits p q = tt
asks_in_range (Some mode) (Some start) None p q = tt
asks_in_range (Some mode) (Some start) (Some edits) p q = (p, q)

unasked_in_range : (u : Unasked) → IsInRange (meant_unasked u)
unasked_in_range unasked.Help = tt
unasked_in_range unasked.Usage = tt
unasked_in_range unasked.Memory = tt

by_in_range : (kinds : Kinds) (rows : List Row) → IsInRange (meant_by kinds rows)
by_in_range [] rows = asks_in_range (option_and_then mode_named (first_of (codes "mode") rows)) (option_and_then (number_up_to max_start) (first_of (codes "start") rows))
    (option_and_then (number_up_to max_edits) (first_of (codes "edits") rows))
    (number_in_range max_start (first_of (codes "start") rows)) (number_in_range max_edits (first_of (codes "edits") rows))
by_in_range (kind ∷ more) rows = unasked_in_range (unasked_by kind)

pub numbers_in_range : NumbersAreInRange
numbers_in_range words mode start edits is =
    let texts = map encode_utf8_all words in
    let both = subst IsInRange is (by_in_range (fault_of (vemodel mode_names) texts) (matches_of (vemodel mode_names) texts)) in
    (omega (arith, both.0), both.1)
