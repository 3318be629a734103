-- What counts of entries, what one person takes back and makes again, and what a site tells: the
-- words of these laws, at work.
use Rattle.std.proofs.Common.{◌≡◌, ℕ, true, List, [], ◌∷◌, ◌++◌, Some, None, Err, codes, map, refl, Ok}
use Rattle.model_items.specs.declared.plain_item.PlainItem.{PlainItem}
use Rattle.model_items.specs.declared.plain_item.PlainItem.TheVariants.{Char}
use Rattle.model_change.specs.Join.{retained}
use Rattle.model_change.specs.Transaction.{Attribute, Replace, Retain, Transaction}
use Rattle.model_site.specs.Events.{Perform, Tell, Undo}
use Rattle.model_site.specs.Live.{Hinted, Standing, hinted, live}
use Rattle.model_site.specs.Replica.{opened_with}
use Rattle.model_site.specs.Session.{Session, started}
use Rattle.model_site.specs.Untold.{patches_of}
use Rattle.model_site_law.specs.LiveLaws.{Again, Back, Make, Other, Step, Steps, all_stepped, at_first, is_among, list_after, list_before, own_of, taken_back_behind}
use Rattle.model_site_law.specs.ViewLaws.{all_out, all_put_in, attributes_by, opening, since_told}

-- a letter comes behind so many
abbrev letter : ℕ → ℕ → List Transaction
letter before code = (retained before ++ Replace [] (Char code [] ∷ []) ∷ []) ∷ []

abbrev without_letter : ℕ → ℕ → List Transaction
without_letter before code = (retained before ++ Replace (Char code [] ∷ []) [] ∷ []) ∷ []

abbrev text_of : List PlainItem → List ℕ
text_of [] = []
text_of (Char code marks ∷ items) = code ∷ text_of items
text_of (item ∷ items) = 0 ∷ text_of items

-- ---- entries, one after the other

abbrev a_and_b : List Hinted
a_and_b = hinted (letter 0 97 ∷ letter 1 98 ∷ []) []

second : own_of a_and_b 1 ≡ letter 1 98
second = refl

before_second : text_of (list_before a_and_b 1 []) ≡ codes "a"
before_second = refl

after_both : text_of (list_after a_and_b []) ≡ codes "ab"
after_both = refl

-- b goes behind somebody's c, and is told to have gone by the fourth entry
gone_behind : live (taken_back_behind a_and_b 1 (letter 2 99 ∷ []) ((Retain 1 ∷ Replace (Char 98 [] ∷ []) [] ∷ Retain 1 ∷ []) ∷ [])) 1 ≡ Err 3
gone_behind = refl

-- ---- steps of one person

abbrev after : List Step → Steps
after steps = all_stepped steps (at_first [])

abbrev numbers : List Standing → List ℕ
numbers = map (λ (s : Standing). s.number)

-- a and b are made and taken back, and a is made again: b waits
abbrev one_again : Steps
one_again = after (Make (letter 0 97) ∷ Make (letter 1 98) ∷ Back ∷ Back ∷ Again ∷ [])

one_is_there : text_of (list_after one_again.entries []) ≡ codes "a"
one_is_there = refl

-- a counts by the fifth entry; what took b back is the third
a_counts : numbers one_again.made ≡ 4 ∷ []
a_counts = refl

b_waits : numbers one_again.taken ≡ 2 ∷ []
b_waits = refl

-- the first entry itself stays taken back: a counts under the other number alone
first_is_gone : live one_again.entries 0 ≡ Err 3
first_is_gone = refl

both_again : text_of (list_after (after (Make (letter 0 97) ∷ Make (letter 1 98) ∷ Back ∷ Back ∷ Again ∷ Again ∷ [])).entries []) ≡ codes "ab"
both_again = refl

-- after one more entry b can't be made again
forgotten : numbers (after (Make (letter 0 97) ∷ Make (letter 1 98) ∷ Back ∷ Make (letter 1 99) ∷ Again ∷ [])).taken ≡ []
forgotten = refl

then_c : text_of (list_after (after (Make (letter 0 97) ∷ Make (letter 1 98) ∷ Back ∷ Make (letter 1 99) ∷ Again ∷ [])).entries []) ≡ codes "ac"
then_c = refl

-- somebody types c in between: b goes under it, then a under what c is without b, and both come back
abbrev in_company : List Step
in_company = Make (letter 0 97) ∷ Make (letter 1 98) ∷ Other (letter 2 99) ∷ Back ∷ Back ∷ []

only_c : text_of (list_after (after in_company).entries []) ≡ codes "c"
only_c = refl

all_again : text_of (list_after (after (in_company ++ Again ∷ Again ∷ [])).entries []) ≡ codes "abc"
all_again = refl

-- behind a nothing counts but c, as it is without b
b_is_gone : live (after (Make (letter 0 97) ∷ Make (letter 1 98) ∷ Other (letter 2 99) ∷ Back ∷ [])).entries 0
    ≡ Ok (record { number = 2; txs = letter 1 99 } ∷ [])
b_is_gone = refl

theirs : is_among (after in_company).others 2 ≡ true
theirs = refl

-- somebody makes b of a: then a is not taken back, and stays the newest
refused : numbers (after (Make (letter 0 97) ∷ Other ((Replace (Char 97 [] ∷ []) (Char 98 [] ∷ []) ∷ []) ∷ []) ∷ Back ∷ [])).made ≡ 0 ∷ []
refused = refl

-- ---- what a site tells

abbrev two : Session
two = started (opened_with []) 2

-- what another site makes or tells is not this one's
made_here : since_told 1 two (Perform 1 (letter 0 97) ∷ Perform 0 (letter 0 98) ∷ Tell 0 ∷ []) [] ≡ letter 0 97
made_here = refl

told_then : since_told 1 two (Perform 1 (letter 0 97) ∷ Tell 1 ∷ Undo 1 ∷ []) [] ≡ without_letter 0 97
told_then = refl

-- one letter for two, and an attribute: three out, and two in
abbrev some_change : List Transaction
some_change =
    (Retain 1
    ∷ Replace (Char 97 [] ∷ Char 98 [] ∷ []) (Char 99 [] ∷ [])
    ∷ Attribute (record { name = codes "id"; from = None; to = Some (codes "x"); kept = None })
    ∷ Retain 1
    ∷ [])
    ∷ []

out : all_out (patches_of some_change) ≡ 3
out = refl

put_in : all_put_in (patches_of some_change) ≡ 2
put_in = refl

one_attribute : attributes_by some_change ≡ 1
one_attribute = refl

-- a page that is opened comes whole
opened_whole : all_put_in (patches_of (opening (opened_with (Char 97 [] ∷ Char 98 [] ∷ [])))) ≡ 2
opened_whole = refl
