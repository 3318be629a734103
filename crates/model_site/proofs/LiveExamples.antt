-- What counts of entries, and an entry taken back under it: of <p>abcd</p> a and b become bold, then
-- italic too.
use Rattle.std.proofs.Common.{◌≡◌, ℕ, true, false, List, [], ◌∷◌, ◌++◌, Option, Some, None, Ok, Err, codes, refl}
use Rattle.model_change.specs.Attributes.{AttrChange}
use Rattle.model_change.specs.Transaction.{Attribute, Retain, Replace, Transaction}
use Rattle.model_site.specs.Live.{Hinted, Standing, all_alike, hinted, live, revocation, revoke_live, TakenBack, Conflict}
use Rattle.model_site.proofs.ExampleItems.{bold, italic, chars_, marked, inserts}

abbrev bolds : List Transaction
bolds = (Retain 1 ∷ Replace (chars_ (codes "ab")) (marked bold (codes "ab")) ∷ Retain 5 ∷ []) ∷ []

abbrev unbolds : List Transaction
unbolds = (Retain 1 ∷ Replace (marked bold (codes "ab")) (chars_ (codes "ab")) ∷ Retain 5 ∷ []) ∷ []

abbrev slants : List Transaction
slants = (Retain 1 ∷ Replace (marked bold (codes "ab")) (marked (bold ++ italic) (codes "ab")) ∷ Retain 5 ∷ []) ∷ []

abbrev unslants : ℕ → List Transaction
unslants after = (Retain 1 ∷ Replace (marked (bold ++ italic) (codes "ab")) (marked bold (codes "ab")) ∷ Retain after ∷ []) ∷ []

abbrev types_x : List Transaction
types_x = inserts 4 (chars_ (codes "X")) 8 ∷ []

abbrev alone : List Hinted
alone = hinted (bolds ∷ slants ∷ unslants 5 ∷ []) (None ∷ None ∷ Some 1 ∷ [])

-- the second entry and what takes it back leave nothing
nothing_behind : live alone 0 ≡ Ok []
nothing_behind = refl

first_too : revoke_live alone 0 ≡ Ok unbolds
first_too = refl

second_is_gone : revoke_live alone 1 ≡ Err (TakenBack 2)
second_is_gone = refl

-- under all later entries it is in conflict
all_count : revocation false alone 0 ≡ Err (Conflict (record { committed = (1, 3); mine = (1, 3) }))
all_count = refl

-- without the hint both stand in the way
without_hint : revoke_live (hinted (bolds ∷ slants ∷ unslants 5 ∷ []) []) 0 ≡ Err (Conflict (record { committed = (1, 3); mine = (1, 3) }))
without_hint = refl

-- another person types X in between: that entry counts, and the bold letters go under it
abbrev in_company : List Hinted
in_company = hinted (bolds ∷ slants ∷ types_x ∷ unslants 6 ∷ []) (None ∷ None ∷ None ∷ Some 1 ∷ [])

typed_counts : live in_company 0 ≡ Ok (record { number = 2; txs = types_x } ∷ [])
typed_counts = refl

bold_goes : revoke_live in_company 0
    ≡ Ok ((Retain 1 ∷ Replace (marked bold (codes "ab")) (chars_ (codes "ab")) ∷ Retain 6 ∷ []) ∷ [])
bold_goes = refl

-- a hint that is not true does no harm: what it says decides nothing
untrue : live (hinted (bolds ∷ slants ∷ types_x ∷ []) (None ∷ None ∷ Some 1 ∷ [])) 0
    ≡ Ok (record { number = 1; txs = slants } ∷ record { number = 2; txs = types_x } ∷ [])
untrue = refl

-- what took back can be taken back
again : revoke_live (hinted (bolds ∷ unbolds ∷ []) (None ∷ Some 0 ∷ [])) 1 ≡ Ok bolds
again = refl

abbrev sets : (kept : Option ℕ) → (from to : Option (List ℕ)) → List Transaction
sets kept from to = (Attribute (record { name = codes "id"; from = from; to = to; kept = kept }) ∷ Retain 4 ∷ []) ∷ []

-- the position of what a change removes has no effect, and that of what it puts in has
removed_alike : all_alike (sets (Some 2) (Some (codes "x")) None) (sets None (Some (codes "x")) None) ≡ true
removed_alike = refl

added_differ : all_alike (sets (Some 2) None (Some (codes "x"))) (sets None None (Some (codes "x"))) ≡ false
added_differ = refl
