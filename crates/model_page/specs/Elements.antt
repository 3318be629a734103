-- The attributes of an element: whether it is kept whole (it has an `about`, or a `typeof` of
-- `mw:`), and what made it. Values are compared decoded.
use Rattle.std.specs.Prelude.{ℕ, Bool, ◌||◌, ◌==◌, List, [], ◌∷◌, Option, Some, None, is_some, if◌then◌else◌, codes, bytes_eq}
use Rattle.std.specs.List.{list_any, list_all}
use Rattle.model_spelling.specs.Grammar.{Attr, begins_with}
use Rattle.model_spelling.specs.Written.{decoded}

abbrev pub is_white_char : ℕ → Bool
is_white_char c = c == 9 || c == 10 || c == 12 || c == 32

-- whitespace has no other character
abbrev pub is_white : List ℕ → Bool
is_white text = list_all is_white_char text

-- the decoded value of the attribute of this name
abbrev pub value_named : List ℕ → List Attr → Option (List ℕ)
value_named name [] = None
value_named name (a ∷ attrs) = if bytes_eq a.name name then Some (decoded a.value) else value_named name attrs

abbrev pub with_letter : ℕ → List (List ℕ) → List (List ℕ)
with_letter c [] = (c ∷ []) ∷ []
with_letter c (word ∷ words) = (c ∷ word) ∷ words

-- the words between whitespace characters; some may be empty
abbrev pub words_of : List ℕ → List (List ℕ)
words_of [] = [] ∷ []
words_of (c ∷ cs) = if is_white_char c then [] ∷ words_of cs else with_letter c (words_of cs)

abbrev pub words_in : Option (List ℕ) → List (List ℕ)
words_in None = []
words_in (Some value) = words_of value

abbrev pub about_of : List Attr → Option (List ℕ)
about_of attrs = value_named (codes "about") attrs

-- some word of `typeof` passes the test
abbrev pub has_type : (List ℕ → Bool) → List Attr → Bool
has_type test attrs = list_any test (words_in (value_named (codes "typeof") attrs))

-- the element is kept whole, alone or in a group: it has an `about`, or a type that begins `mw:`
abbrev pub is_held : List Attr → Bool
is_held attrs = is_some (about_of attrs) || has_type (begins_with (codes "mw:")) attrs

abbrev pub is_transclusion : List ℕ → Bool
is_transclusion word = bytes_eq word (codes "mw:Transclusion")

-- a type of what a wiki generates
abbrev pub is_generator : List ℕ → Bool
is_generator word = is_transclusion word || begins_with (codes "mw:Extension/") word

abbrev pub is_reference_type : List ℕ → Bool
is_reference_type word = bytes_eq word (codes "mw:Extension/ref")
