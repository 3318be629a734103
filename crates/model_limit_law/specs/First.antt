-- The first thing of a page that is over the limits on nesting and marks, in the order of the
-- page's bytes.
use Rattle.std.specs.Prelude.{◌≡◌, ◌<◌, ◌≤◌, ◌⊎◌, ◌↔◌, ℕ, true, List, [], ◌∷◌, ◌++◌, length, Some, Err, slice_get, encode_utf8_all, IsUtf8}
use Rattle.std.specs.List.{AllByRecursion}
use Rattle.ve_base.specs.Limits.{max_open_elements, max_open_kinds, max_marks, max_page}
use Rattle.ve_kinds.specs.declared.kind.Kind.{Kind}
use Rattle.ve_kinds.specs.declared.kind.Kind.TheVariants.{Root, InternalItem}
use Rattle.model_spelling.specs.Forest.{Forest, is_forest, spelling}
use Rattle.model_spelling.specs.Parsed.{forest_of}
use Rattle.model_page.specs.Parts.{Parts, parts_of}
use Rattle.model_page.specs.Fit.{Flow, around_in}
use Rattle.model_page.specs.Pieces.{Owner, Made}
use Rattle.model_page.specs.PageItems.{Opened, opened_page, page_made, body_made, or_nothing, slice}
use Rattle.model_page.specs.Limits.{Limit, TooDeep, TooManyMarks, moved_to, fragment_limit}
use Rattle.model_page.specs.Fragment.{context_of}
use Rattle.model_page.specs.OpenPage.{OverLimit, read_page}
use Rattle.model_world.specs.Opening.{open_page}
use Rattle.model_world.specs.Refusals.{limit_refusal}
use Rattle.model_limit_law.specs.Counted.{openings, mark_places}

-- some opening stands inside of 100 kinds, and the source of the first such begins at this byte
pub record FirstDeep (opens : List (ℕ × ℕ)) (at : ℕ) : Type 0 where
  pub before : List (ℕ × ℕ)
  pub kinds : ℕ
  pub after : List (ℕ × ℕ)
  pub opens_are : opens ≡ before ++ ((kinds, at) ∷ after)
  pub over : max_open_kinds < kinds
  pub none_before : AllByRecursion (λ o. o.0 ≤ max_open_kinds) before

-- some item has more than 64 marks, and at this byte the element begins that gives the first such
-- its 65th
pub record FirstMarked (places : List (List ℕ)) (at : ℕ) : Type 0 where
  pub before : List (List ℕ)
  pub marks : List ℕ
  pub after : List (List ℕ)
  pub places_are : places ≡ before ++ (marks ∷ after)
  pub over : slice_get marks max_marks ≡ Some at
  pub none_before : AllByRecursion (λ m. length m ≤ max_marks) before

-- The one of the two that begins first.
abbrev pub First : List (ℕ × ℕ) → List (List ℕ) → Limit → Type 0
First opens places (TooDeep at) = FirstDeep opens at × ((other : ℕ) → FirstMarked places other → at ≤ other)
First opens places (TooManyMarks at) = FirstMarked places at × ((other : ℕ) → FirstDeep opens other → at < other)

-- in what stands in a flow parent, where so many kinds are open; its text begins at the byte `at`
abbrev pub FirstIn : ℕ → Kind → Parts → ℕ → Made → Limit → Type 0
FirstIn depth kind parts at m l = First (openings depth m.later.items m.later.spans) (mark_places [] (Flow kind) parts at) l

-- in a body, whose bytes count from its own first one
abbrev pub FirstInBody : Owner → Limit → Type 0
FirstInBody o l = let forest = or_nothing (forest_of o.html) in FirstIn 2 InternalItem (parts_of forest) 0 (body_made forest) l

-- in the bodies, in the order of their owners: it counts as standing where its owner does
abbrev pub FirstInBodies : List Owner → Limit → Type 0
FirstInBodies [] l = ⊥
FirstInBodies (o ∷ owners) l =
    ((inner : Limit) × FirstInBody o inner × (l ≡ moved_to o.at inner))
    ⊎ (((inner : Limit) → FirstInBody o inner → ⊥) × FirstInBodies owners l)

-- in a page whose body begins at the byte `at`, or else in the bodies of its references
abbrev pub FirstInPage : ℕ → Forest → Limit → Type 0
FirstInPage at forest l =
    let made = page_made at forest in
    FirstIn 0 Root (parts_of forest) at made l
    ⊎ (((other : Limit) → FirstIn 0 Root (parts_of forest) at made other → ⊥) × FirstInBodies made.owners l)

-- the same of an opened page
abbrev pub FirstInOpened : Opened → Limit → Type 0
FirstInOpened o l = FirstInPage o.body.from (or_nothing (forest_of (slice o.page o.body.from o.body.to))) l

-- A page that is refused for its nesting or its marks is refused at the first thing over these
-- limits,
abbrev pub RefusedIsFirst : Type 0
RefusedIsFirst = (page : List ℕ) (l : Limit) → IsUtf8 page → read_page page ≡ Err (OverLimit l) →
    (o : Opened) × (opened_page page ≡ Some o) × FirstInOpened o l

-- and one with such a thing, that has no fault and isn't too long, is refused there.
abbrev pub FirstIsRefused : Type 0
FirstIsRefused = (page : List ℕ) (o : Opened) (l : Limit) → IsUtf8 page → opened_page page ≡ Some o → length page ≤ max_page →
    FirstInOpened o l → read_page page ≡ Err (OverLimit l)

-- So is a fragment for its marks, where these kinds are open.
abbrev pub FragmentsAtFirst : Type 0
FragmentsAtFirst = (stack : List Kind) (f : Forest) (at : ℕ) → is_forest max_open_elements f ≡ true → IsUtf8 (spelling f) →
    (fragment_limit stack f ≡ Some at) ↔ FirstMarked (mark_places [] (around_in (context_of (parts_of f) stack)) (parts_of f) 0) at

-- The line that opens a page is answered so, and in no other case: `too_deep` and `too_many_marks`
-- are told of the limits alone.
abbrev pub OpeningTellsLimits : Type 0
OpeningTellsLimits = (text : List ℕ) (l : Limit) → (open_page text ≡ Err (limit_refusal l)) ↔ (read_page (encode_utf8_all text) ≡ Err (OverLimit l))
