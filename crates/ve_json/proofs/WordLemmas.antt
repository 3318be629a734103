-- The tables of commands by their words.
use Rattle.std.proofs.Common.{◌≡◌, ℕ, List, [], ◌∷◌, ◌++◌, map, codes, Bool, true, false, if◌then◌else◌, Option, Some, None, option_map, refl, sym, ap, ◌∙◌}
use Rattle.std.specs.Option.{option_or}
use Rattle.std.specs.Str.{bytes_eq}
use Rattle.std.proofs.lemmas.Bool.{false_from_ne_true}
use Rattle.std.proofs.lemmas.Slice.Eq.{bytes_eq-Decides}
use Rattle.model_world.specs.Values.{meant_by}
use Rattle.ve_json.specs.CommandWords.{change_words, command_words, own_words, request_words}
use Rattle.ve_json.specs.declared.command_words.ChangeWord.{ChangeWord}
use Rattle.ve_json.specs.declared.command_words.RequestWord.{RequestWord}
use Rattle.ve_json.specs.declared.command_words.RequestWord.TheVariants.{Change}
use Rattle.ve_json.specs.declared.command_words.CommandWord.TheVariants.{Ask}

differs : (word text : List ℕ) → ¬ (text ≡ word) → bytes_eq word text ≡ false
differs word text other = false_from_ne_true (bytes_eq word text) (λ same. other (sym ((bytes_eq-Decides word text).0 same)))

abbrev pub NoneOf : {A : Type 0} → List (List ℕ × A) → List ℕ → Type 0
NoneOf [] text = Unit {0}
NoneOf (row ∷ rows) text = (¬ (text ≡ row.0)) × NoneOf rows text

pub meant_by-none : {A : Type 0} (rows : List (List ℕ × A)) (text : List ℕ) → NoneOf rows text → meant_by rows text ≡ None
meant_by-none [] text none = refl
meant_by-none (row ∷ rows) text none = rw (differs row.0 text none.0) (meant_by-none rows text none.1)

pub meant_by-append : {A : Type 0} (rows more : List (List ℕ × A)) (text : List ℕ) → meant_by (rows ++ more) text ≡ option_or (meant_by rows text) (meant_by more text)
meant_by-append {A = A} [] more text = refl
meant_by-append {A = A} (row ∷ rows) more text = by_test (bytes_eq row.0 text) (meant_by-append rows more text) where
  by_test : (b : Bool) → meant_by (rows ++ more) text ≡ option_or (meant_by rows text) (meant_by more text)
      → (if b then Some row.1 else meant_by (rows ++ more) text) ≡ option_or (if b then Some row.1 else meant_by rows text) (meant_by more text)
  by_test true e = refl
  by_test false e = e

-- words keep their rows where what stands in them is changed
pub meant_by-map : {A B : Type 0} (f : A → B) (rows : List (List ℕ × A)) (text : List ℕ) →
    meant_by (map (λ (row : List ℕ × A). (row.0, f row.1)) rows) text ≡ option_map f (meant_by rows text)
meant_by-map {A = A} f [] text = refl
meant_by-map {A = A} f (row ∷ rows) text = by_test (bytes_eq row.0 text) (meant_by-map f rows text) where
  by_test : (b : Bool) → meant_by (map (λ (r : List ℕ × A). (r.0, f r.1)) rows) text ≡ option_map f (meant_by rows text)
      → (if b then Some (f row.1) else meant_by (map (λ (r : List ℕ × A). (r.0, f r.1)) rows) text) ≡ option_map f (if b then Some row.1 else meant_by rows text)
  by_test true e = refl
  by_test false e = e

-- its own word comes first
pub own_first : (word : List ℕ) (own : RequestWord) → Some own ≡ meant_by own_words word → Some own ≡ meant_by request_words word
own_first word own is =
    sym (meant_by-append own_words (map (λ (row : List ℕ × ChangeWord). (row.0, Change row.1)) change_words) word
    ∙ ap (λ o. option_or o (meant_by (map (λ (row : List ℕ × ChangeWord). (row.0, Change row.1)) change_words) word)) (sym is))

-- else it is a change's, if any
pub change_last : (word : List ℕ) (o : Option ChangeWord) → None ≡ meant_by own_words word → o ≡ meant_by change_words word → option_map (λ w. Change w) o ≡ meant_by request_words word
change_last word o none is =
    sym (meant_by-append own_words (map (λ (row : List ℕ × ChangeWord). (row.0, Change row.1)) change_words) word
    ∙ ap (λ o. option_or o (meant_by (map (λ (row : List ℕ × ChangeWord). (row.0, Change row.1)) change_words) word)) (sym none)
    ∙ meant_by-map (λ w. Change w) change_words word
    ∙ ap (option_map (λ w. Change w)) (sym is))

pub ask_last : (word : List ℕ) (o : Option RequestWord) → bytes_eq word (codes "open") ≡ false → o ≡ meant_by request_words word → option_map (λ w. Ask w) o ≡ meant_by command_words word
ask_last word o not_open is =
    let other : ¬ (word ≡ codes "open") = λ same. let yes = (bytes_eq-Decides word (codes "open")).1 same in cc (not_open, yes) in
    sym (rw (differs (codes "open") word other) refl ∙ meant_by-map (λ w. Ask w) request_words word ∙ ap (option_map (λ w. Ask w)) (sym is))
