-- How the nearest content offset is searched for. Lemmas take what is found to the model's
-- `nearest_content` and `content_offsets`.
use Rattle.std.specs.Prelude.{◌≡◌, ◌≤◌, ◌<◌, ℕ, ◌+◌, ◌-◌, List, length}
use Rattle.model_items.specs.declared.item.Item.{Item}
use Rattle.model_items.specs.Offsets.{distance}
use Rattle.ve_offsets.specs.Classes.{IsContent}

-- p is a content offset of the list, no other lies nearer to o, and at the same distance none lies
-- lower
pub record IsNearestContent (items : List Item) (o p : ℕ) : Type 0 where
  pub within : p ≤ length items
  pub content : IsContent items p
  pub nearest : (q : ℕ) → q ≤ length items → IsContent items q → distance o p ≤ distance o q
  pub lowest : (q : ℕ) → q ≤ length items → IsContent items q → distance o q ≡ distance o p → p ≤ q

abbrev pub HasNoContent : List Item → Type 0
HasNoContent items = (q : ℕ) → q ≤ length items → ¬ IsContent items q

-- the offset so far before o is one, and is content
pub record IsContentBefore (items : List Item) (o away : ℕ) : Type 0 where
  pub order : away ≤ o
  pub content : IsContent items (o - away)

-- the offset so far after o is one, and is content
pub record IsContentAfter (items : List Item) (o away : ℕ) : Type 0 where
  pub within : o + away ≤ length items
  pub content : IsContent items (o + away)

-- ---- on one side

-- p is a content offset up to o, and none of these comes after it
pub record IsLastContent (items : List Item) (o p : ℕ) : Type 0 where
  pub order : p ≤ o
  pub content : IsContent items p
  pub last : (q : ℕ) → p < q → q ≤ o → ¬ IsContent items q

abbrev pub HasNoneUpTo : List Item → ℕ → Type 0
HasNoneUpTo items o = (q : ℕ) → q ≤ o → ¬ IsContent items q

-- p is a content offset from o on, and none of these comes before it
pub record IsFirstContent (items : List Item) (o p : ℕ) : Type 0 where
  pub within : p ≤ length items
  pub order : o ≤ p
  pub content : IsContent items p
  pub first : (q : ℕ) → o ≤ q → q < p → ¬ IsContent items q

abbrev pub HasNoneFrom : List Item → ℕ → Type 0
HasNoneFrom items o = (q : ℕ) → o ≤ q → q ≤ length items → ¬ IsContent items q
