-- Each test of equality that writing makes holds of a value and itself, and that of marks means
-- equality.
use Rattle.std.proofs.Common.{◌≡◌, Bool, true, ◌&&◌, [], ◌∷◌, Some, None, refl}
use Rattle.std.proofs.lemmas.Bool.{and_from}
use Rattle.ve_kinds.specs.Table.{kind_same}
use Rattle.model_items.specs.Same.{list_same, option_same, item_same}
use Rattle.model_items.proofs.SameLemmas.{Means-kind_same, Means-mark_same, Means-item_same}
use Rattle.model_page_write.specs.PageText.{body_same, carried_same}
use Rattle.model_page_law.proofs.FormedNodes.{MarksMean}

-- the test holds of each value and itself
abbrev pub Itself : {A : Type 0} → (A → A → Bool) → Type 0
Itself {A = A} same = (x : A) → same x x ≡ true

pub both : (a b : Bool) → a ≡ true → b ≡ true → (a && b) ≡ true
both a b e f = and_from a b e f

pub Itself-kind : Itself kind_same
Itself-kind k = Means-kind_same.itself k

pub Itself-list : {A : Type 0} (same : A → A → Bool) → Itself same → Itself (list_same same)
Itself-list same h [] = refl
Itself-list same h (x ∷ xs) = both (same x x) (list_same same xs xs) (h x) (Itself-list same h xs)

Itself-option : {A : Type 0} (same : A → A → Bool) → Itself same → Itself (option_same same)
Itself-option same h None = refl
Itself-option same h (Some x) = h x

pub Itself-item : Itself item_same
Itself-item item = Means-item_same.itself item

pub Itself-carried_items : Itself carried_same
Itself-carried_items c = both _ _ (Itself-item c.item) (Itself-option body_same (λ b. Itself-list item_same Itself-item b.items) c.body)

pub marks_mean : MarksMean
marks_mean m n h = Means-mark_same.equal m n h
