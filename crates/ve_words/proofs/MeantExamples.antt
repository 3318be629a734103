-- The meaning of words, at examples, which compute.
use Rattle.std.proofs.Common.{◌≡◌, [], ◌∷◌, codes, refl}
use Rattle.clap.proofs.OnLiterals.{clap_on_literals}
use Rattle.ve_words.specs.Words.{Asks, HelpWanted, Refused, meaning_of}
use Rattle.ve_words.specs.declared.read.Mode.TheVariants.{Run, Make, Soak}

-- 100 edits from 0, where no number is given
run_alone : meaning_of (codes "run" ∷ []) ≡ Asks Run 0 100
unfolding clap_on_literals
run_alone = refl

start_is_given : meaning_of (codes "make" ∷ codes "--start" ∷ codes "7" ∷ []) ≡ Asks Make 7 100
unfolding clap_on_literals
start_is_given = refl

-- options may stand before the mode, and have their number after `=`
options_first : meaning_of (codes "--edits=3" ∷ codes "--start=+5" ∷ codes "soak" ∷ []) ≡ Asks Soak 5 3
unfolding clap_on_literals
options_first = refl

most_edits : meaning_of (codes "soak" ∷ codes "--edits" ∷ codes "100000" ∷ []) ≡ Asks Soak 0 100000
unfolding clap_on_literals
most_edits = refl

too_many_edits : meaning_of (codes "soak" ∷ codes "--edits" ∷ codes "100001" ∷ []) ≡ Refused
unfolding clap_on_literals
too_many_edits = refl

-- an option without its number
no_number : meaning_of (codes "make" ∷ codes "--edits" ∷ []) ≡ Refused
unfolding clap_on_literals
no_number = refl

start_past_the_end : meaning_of (codes "make" ∷ codes "--start" ∷ codes "18446744073709551616" ∷ []) ≡ Refused
unfolding clap_on_literals
start_past_the_end = refl

two_modes : meaning_of (codes "run" ∷ codes "run" ∷ []) ≡ Refused
unfolding clap_on_literals
two_modes = refl

stray_word : meaning_of (codes "run" ∷ codes "x" ∷ []) ≡ Refused
unfolding clap_on_literals
stray_word = refl

other_mode : meaning_of (codes "help" ∷ []) ≡ Refused
unfolding clap_on_literals
other_mode = refl

option_twice : meaning_of (codes "make" ∷ codes "--start" ∷ codes "1" ∷ codes "--start" ∷ codes "2" ∷ []) ≡ Refused
unfolding clap_on_literals
option_twice = refl

no_words : meaning_of [] ≡ Refused
unfolding clap_on_literals
no_words = refl

help_alone : meaning_of (codes "--help" ∷ []) ≡ HelpWanted
unfolding clap_on_literals
help_alone = refl

-- the first word that decides counts: what comes after it isn't read
help_first : meaning_of (codes "run" ∷ codes "-h" ∷ codes "x" ∷ []) ≡ HelpWanted
unfolding clap_on_literals
help_first = refl

fault_first : meaning_of (codes "x" ∷ codes "--help" ∷ []) ≡ Refused
unfolding clap_on_literals
fault_first = refl
