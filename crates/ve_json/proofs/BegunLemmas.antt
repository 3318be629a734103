-- A word of a text begins with `mw:` where one character after the other says so.
use Rattle.std.proofs.Common.{◌≡◌, ℕ, ◌==◌, Bool, true, false, ◌&&◌, ◌||◌, if◌then◌else◌, List, [], ◌∷◌, ◌++◌, codes, refl, sym, ap, ◌∙◌}
use Rattle.std.specs.List.{list_any}
use Rattle.std.specs.Str.{chars}
use Rattle.ve_base.specs.declared.attrs.Attr.{Attr}
use Rattle.model_items.specs.Same.{text_same}
use Rattle.model_spelling.specs.Grammar.{begins_with}
use Rattle.model_page.specs.Elements.{is_white_char, with_letter, words_of}
use Rattle.model_page.proofs.OnLiterals.{page_on_literals}
use Rattle.model_world.specs.Attributes.{holds_whole}
use Rattle.ve_json.specs.Begun.{after, after_letter, after_all, is_whole}
use Rattle.ve_json.specs.declared.held.Begun.{Begun}
use Rattle.ve_json.specs.declared.held.Begun.TheVariants.{Nothing, M, Mw, Whole, Other}

abbrev some_own : List (List ℕ) → Bool
some_own words = list_any (begins_with (codes "mw:")) words

-- whether a word begins with `mw:`, of the first of which so much stands before
abbrev goes_on : Begun → List (List ℕ) → Bool
goes_on Whole words = true
goes_on Nothing words = some_own words
goes_on M [] = false
goes_on M (word ∷ words) = begins_with (119 ∷ 58 ∷ []) word || some_own words
goes_on Mw [] = false
goes_on Mw (word ∷ words) = begins_with (58 ∷ []) word || some_own words
goes_on Other [] = false
goes_on Other (word ∷ words) = some_own words

stays : (v : List ℕ) → is_whole (after_all Whole v) ≡ true
stays [] = refl
stays (c ∷ cs) = stays cs

ends : (b : Begun) → is_whole b ≡ goes_on b ([] ∷ [])
unfolding begins_with
ends Whole = refl
ends Nothing = refl
ends M = refl
ends Mw = refl
ends Other = refl

-- ---- one more character

white : (b : Begun) (c : ℕ) (cs : List ℕ) → is_white_char c ≡ true → goes_on (after b c) (words_of cs) ≡ goes_on b (words_of (c ∷ cs))
unfolding begins_with
white Whole c cs e = refl
white Nothing c cs e = rw e refl
white M c cs e = rw e refl
white Mw c cs e = rw e refl
white Other c cs e = rw e refl

first_letter : (is : Bool) (word : List ℕ) (words : List (List ℕ)) → goes_on (if is then M else Other) (word ∷ words) ≡ ((is && begins_with (119 ∷ 58 ∷ []) word) || some_own words)
first_letter true word words = refl
first_letter false word words = refl

second_letter : (is : Bool) (word : List ℕ) (words : List (List ℕ)) → goes_on (if is then Mw else Other) (word ∷ words) ≡ ((is && begins_with (58 ∷ []) word) || some_own words)
second_letter true word words = refl
second_letter false word words = refl

third_letter : (is : Bool) (word : List ℕ) (words : List (List ℕ)) → goes_on (if is then Whole else Other) (word ∷ words) ≡ ((is && begins_with [] word) || some_own words)
unfolding begins_with
third_letter true word words = refl
third_letter false word words = refl

letter_more : (b : Begun) (c : ℕ) (word : List ℕ) (words : List (List ℕ)) → goes_on (after_letter b c) (word ∷ words) ≡ goes_on b ((c ∷ word) ∷ words)
unfolding begins_with
letter_more Whole c word words = refl
letter_more Nothing c word words = first_letter (109 == c) word words
letter_more M c word words = second_letter (119 == c) word words
letter_more Mw c word words = third_letter (58 == c) word words
letter_more Other c word words = refl

-- there is always a word
abbrev Some_word : List (List ℕ) → Type 0
Some_word [] = ⊥
Some_word (word ∷ words) = Unit {0}

some_word : (v : List ℕ) → Some_word (words_of v)
some_word [] = tt
some_word (c ∷ cs) = by (is_white_char c) (words_of cs) where
  by : (w : Bool) (words : List (List ℕ)) → Some_word (if w then [] ∷ words else with_letter c words)
  by true words = tt
  by false [] = tt
  by false (word ∷ words) = tt

letter : (b : Begun) (c : ℕ) (words : List (List ℕ)) → Some_word words → goes_on (after_letter b c) words ≡ goes_on b (with_letter c words)
letter b c [] none = absurd none
letter b c (word ∷ words) some = letter_more b c word words

other : (b : Begun) (c : ℕ) (cs : List ℕ) → is_white_char c ≡ false → goes_on (after b c) (words_of cs) ≡ goes_on b (words_of (c ∷ cs))
other Whole c cs e = refl
other Nothing c cs e = rw e (letter Nothing c (words_of cs) (some_word cs))
other M c cs e = rw e (letter M c (words_of cs) (some_word cs))
other Mw c cs e = rw e (letter Mw c (words_of cs) (some_word cs))
other Other c cs e = rw e (letter Other c (words_of cs) (some_word cs))

one_more : (b : Begun) (c : ℕ) (cs : List ℕ) (w : Bool) → is_white_char c ≡ w → goes_on (after b c) (words_of cs) ≡ goes_on b (words_of (c ∷ cs))
one_more b c cs true e = white b c cs e
one_more b c cs false e = other b c cs e

-- ---- all characters

all : (b : Begun) (v : List ℕ) → is_whole (after_all b v) ≡ goes_on b (words_of v)
all b [] = ends b
all b (c ∷ cs) = all (after b c) cs ∙ one_more b c cs (is_white_char c) refl

pub own_word : (v : List ℕ) → is_whole (after_all Nothing v) ≡ list_any (begins_with (codes "mw:")) (words_of v)
own_word v = all Nothing v

pub after_push : (b : Begun) (v : List ℕ) (c : ℕ) → after_all b (v ++ c ∷ []) ≡ after (after_all b v) c
after_push b [] c = refl
after_push b (d ∷ v) c = after_push (after b d) v c

-- ---- attributes

about_spelled : chars (codes "about") ≡ codes "about"
unfolding page_on_literals
about_spelled = refl

typeof_spelled : chars (codes "typeof") ≡ codes "typeof"
unfolding page_on_literals
typeof_spelled = refl

pub by_about : (a : Attr) (about : Bool) → about ≡ text_same a.name (chars (codes "about")) → about ≡ true → about ≡ holds_whole a
by_about a about is so = so ∙ sym (rw (sym (ap (text_same a.name) about_spelled) ∙ sym is ∙ so) refl)

own_typed : (a : Attr) (typeof own : Bool) → text_same a.name (codes "about") ≡ false → text_same a.name (codes "typeof") ≡ typeof → list_any (begins_with (codes "mw:")) (words_of a.value) ≡ own → holds_whole a ≡ (typeof && own)
own_typed a typeof own other_name typed has = rw (other_name, typed, has) refl

pub by_type : (a : Attr) (about typeof own : Bool) (value : List ℕ) → about ≡ text_same a.name (chars (codes "about")) → about ≡ false → typeof ≡ text_same a.name (chars (codes "typeof")) → typeof ≡ true →
    chars value ≡ a.value → own ≡ list_any (begins_with (codes "mw:")) (words_of (chars value)) → own ≡ holds_whole a
by_type a about typeof own value is other_name typed so spelled has =
    sym (own_typed a true own (sym (ap (text_same a.name) about_spelled) ∙ sym is ∙ other_name) (sym (ap (text_same a.name) typeof_spelled) ∙ sym typed ∙ so) (ap some_own (ap words_of (sym spelled)) ∙ sym has))

pub by_none : (a : Attr) (about typeof : Bool) → about ≡ text_same a.name (chars (codes "about")) → about ≡ false → typeof ≡ text_same a.name (chars (codes "typeof")) → typeof ≡ false → typeof ≡ holds_whole a
by_none a about typeof is other_name typed none =
    none
    ∙ sym (own_typed a false (some_own (words_of a.value)) (sym (ap (text_same a.name) about_spelled) ∙ sym is ∙ other_name) (sym (ap (text_same a.name) typeof_spelled) ∙ sym typed ∙ none) refl)
