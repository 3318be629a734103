-- The result of parsing the words, wherever the names of the modes are borrowed from.
use Rattle.std.proofs.Common.{◌≡◌, ◌∙◌, ◌⊎◌, inl, inr, ℕ, List, [], ◌∷◌, Option, Some, None, Result, Ok, Err, IfOk, IsErrOf, refl, sym, ap, ap₂, arith, subst, true, map}
use Rattle.std.specs.Option.{ok_or}
use Rattle.std.specs.Str.{encode_utf8_all}
use Rattle.clap.specs.Words.{App, HasKind, HasMatchesOf, IsAmong, Kinds, Row, Text, fault_of, found_of, is_simple, is_simple_and_free, kind_of, matches_of, rows_of}
use Rattle.clap.specs.declared.error.Error.{Error}
use Rattle.clap.specs.declared.error.kind.ErrorKind.{ErrorKind}
use Rattle.clap.specs.declared.parser.matches.ArgMatches.{ArgMatches}
use Rattle.ve_words.specs.Command.{IsVemodel, Names, mode_names, vemodel}
use Rattle.ve_words.specs.Words.{Asks, HelpWanted, Refused, meaning_of_rows, meaning_of, meant_asked, meant_by, meant_unasked, unasked_by}
use Rattle.ve_words.specs.declared.read.Asked.{Asked}
use Rattle.ve_words.specs.declared.unasked.Unasked.{Unasked}
use Rattle.ve_words.specs.declared.unasked.Unasked.TheVariants as unasked
use Rattle.ve_words.proofs.AloneLemmas.{Alone, fault_alone}
use Rattle.ve_words.proofs.LentFaults.{fault_same}
use Rattle.ve_words.proofs.LentWalk.{matches_same}

is_simple_here : (names : Names) → is_simple (vemodel names) ≡ true
is_simple_here names = refl

is_free_here : (names : Names) → is_simple_and_free (vemodel names) ≡ true
is_free_here names = refl

fault_here : (app : App) (texts : List Text) → IsVemodel app → fault_of app texts ≡ fault_of (vemodel mode_names) texts
fault_here app texts ours = ap (λ a. fault_of a texts) ours.2 ∙ fault_same ours.0 ours.1 texts

pub taken : (words : List (List ℕ)) (texts : List Text) (app : App) (m : ArgMatches) (o : Option Asked) → IsVemodel app → texts ≡ map encode_utf8_all words
    → HasMatchesOf app texts m → (is_simple_and_free app ≡ true → fault_of app texts ≡ []) → meant_asked o ≡ meaning_of_rows (rows_of (found_of m)) → meaning_of words ≡ meant_asked o
taken words texts app m o ours spelled matches kinds read =
    let none : fault_of (vemodel mode_names) texts ≡ [] = sym (fault_here app texts ours) ∙ kinds (ap is_simple_and_free ours.2 ∙ is_free_here ours.0) in
    let rows : rows_of (found_of m) ≡ matches_of (vemodel mode_names) texts =
    (matches (ap is_simple ours.2 ∙ is_simple_here ours.0)).0 ∙ (ap (λ a. matches_of a texts) ours.2 ∙ matches_same ours.0 texts) in
    ap (λ ts. meant_by (fault_of (vemodel mode_names) ts) (matches_of (vemodel mode_names) ts)) (sym spelled)
    ∙ (ap₂ meant_by none (sym rows) ∙ sym read)

only_one : (k : ErrorKind) (kinds : Kinds) (rows : List Row) → Alone kinds → IsAmong k kinds → meant_by kinds rows ≡ meant_unasked (unasked_by k)
only_one k [] rows alone among = absurd among
only_one k (x ∷ []) rows alone (inl is) = ap (λ y. meant_unasked (unasked_by y)) (sym is)
only_one k (x ∷ []) rows alone (inr is) = absurd is
only_one k (x ∷ y ∷ more) rows alone among = absurd alone

pub refused : (words : List (List ℕ)) (texts : List Text) (app : App) (e : Error) (u : Unasked) → IsVemodel app → texts ≡ map encode_utf8_all words
    → (is_simple_and_free app ≡ true → HasKind (fault_of app texts) e) → u ≡ unasked_by (kind_of e) → (u ≡ unasked.Memory) ⊎ (meaning_of words ≡ meant_unasked u)
refused words texts app e u ours spelled kinds is =
    elim (kinds (ap is_simple_and_free ours.2 ∙ is_free_here ours.0)) [
      | inl memory ↦ inl (is ∙ ap unasked_by memory)
      | inr among ↦
          let here : IsAmong (kind_of e) (fault_of (vemodel mode_names) texts) = subst (IsAmong (kind_of e)) (fault_here app texts ours) among in
          inr (ap (λ ts. meant_by (fault_of (vemodel mode_names) ts) (matches_of (vemodel mode_names) ts)) (sym spelled)
          ∙ (only_one (kind_of e) (fault_of (vemodel mode_names) texts) (matches_of (vemodel mode_names) texts) (fault_alone texts) here ∙ ap meant_unasked (sym is)))
    ]

-- ---- the answer

abbrev number_of : Result Asked Unasked → ℕ
number_of (Ok asked) = 3
number_of (Err unasked.Help) = 0
number_of (Err unasked.Usage) = 1
number_of (Err unasked.Memory) = 2

pub answers_ok : (words : List (List ℕ)) (o : Option Asked) (r : Result Asked Unasked) → r ≡ ok_or o unasked.Usage → meaning_of words ≡ meant_asked o
    → IfOk r (λ asked. meaning_of words ≡ Asks asked.mode asked.start asked.edits)
answers_ok words o r is means = subst (λ x. IfOk x (λ asked. meaning_of words ≡ Asks asked.mode asked.start asked.edits)) (sym is) (go o means)
  where
    go : (o : Option Asked) → meaning_of words ≡ meant_asked o → IfOk (ok_or o unasked.Usage) (λ asked. meaning_of words ≡ Asks asked.mode asked.start asked.edits)
    go (Some asked) h = h
    go None h = tt

pub answers_usage : (words : List (List ℕ)) (o : Option Asked) (r : Result Asked Unasked) → r ≡ ok_or o unasked.Usage → meaning_of words ≡ meant_asked o
    → r ≡ Err unasked.Usage → meaning_of words ≡ Refused
answers_usage words (Some asked) r is means given =
    let same : ◌≡◌ {A = Result Asked Unasked} (Ok asked) (Err unasked.Usage) = sym is ∙ given in
    let bad : ◌≡◌ {A = ℕ} 3 1 = ap number_of same in
    absurd (omega arith)
answers_usage words None r is means given = means

pub refused_help : (words : List (List ℕ)) (u : Unasked) → (u ≡ unasked.Memory) ⊎ (meaning_of words ≡ meant_unasked u) → IsErrOf {T = Asked} {E = Unasked} (Err u) unasked.Help → meaning_of words ≡ HelpWanted
refused_help words unasked.Help (inl memory) given =
    let bad : ◌≡◌ {A = ℕ} 0 2 = ap (λ (v : Unasked). number_of (Err v)) memory in
    absurd (omega arith)
refused_help words unasked.Help (inr means) given = means
refused_help words unasked.Usage means given =
    let bad : ◌≡◌ {A = ℕ} 1 0 = ap number_of given in
    absurd (omega arith)
refused_help words unasked.Memory means given =
    let bad : ◌≡◌ {A = ℕ} 2 0 = ap number_of given in
    absurd (omega arith)

pub refused_usage : (words : List (List ℕ)) (u : Unasked) → (u ≡ unasked.Memory) ⊎ (meaning_of words ≡ meant_unasked u) → IsErrOf {T = Asked} {E = Unasked} (Err u) unasked.Usage → meaning_of words ≡ Refused
refused_usage words unasked.Usage (inl memory) given =
    let bad : ◌≡◌ {A = ℕ} 1 2 = ap (λ (v : Unasked). number_of (Err v)) memory in
    absurd (omega arith)
refused_usage words unasked.Usage (inr means) given = means
refused_usage words unasked.Help means given =
    let bad : ◌≡◌ {A = ℕ} 0 1 = ap number_of given in
    absurd (omega arith)
refused_usage words unasked.Memory means given =
    let bad : ◌≡◌ {A = ℕ} 2 1 = ap number_of given in
    absurd (omega arith)
