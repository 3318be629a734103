-- The bodies of references, compared by what their items cite.
use Rattle.std.specs.Prelude.{◌≡◌, ◌≢◌, ⊤, ℕ, zero, suc, ◌-◌, ◌≤◌, ◌↔◌, Bool, true, false, List, [], ◌∷◌, ◌++◌, drop, Option, Some, None}
use Rattle.model_items.specs.declared.item.Item.{Item}
use Rattle.model_items.specs.declared.item.Item.TheVariants.{Char, Opening, Closing}
use Rattle.ve_origin.specs.declared.bodies.Compared.{Compared}
use Rattle.ve_origin.specs.declared.bodies.Compared.TheVariants.{Same, Different, Open}

-- the items before the closing of the node that is open, where so many more are open in it
abbrev pub cited_inside : ℕ → List Item → List Item
cited_inside depth [] = []
cited_inside zero (Closing kind pre ∷ items) = []
cited_inside (suc depth) (Closing kind pre ∷ items) = Closing kind pre ∷ cited_inside depth items
cited_inside depth (Char ch marks ∷ items) = Char ch marks ∷ cited_inside depth items
cited_inside depth (Opening kind generated head marks pre origin ∷ items) =
    Opening kind generated head marks pre origin ∷ cited_inside (suc depth) items

-- Nothing is carried in either list, or what stands inside the internal items that open at these
-- positions is the same.
abbrev pub AreSameBodies : List Item → List Item → Option ℕ → Option ℕ → Type 0
AreSameBodies now first None None = ⊤
AreSameBodies now first (Some a) (Some b) = cited_inside 0 (drop (suc a) now) ≡ cited_inside 0 (drop (suc b) first)
AreSameBodies now first None (Some b) = ⊥
AreSameBodies now first (Some a) None = ⊥

-- ---- in step

-- the node that is open closes at the item, where so many more are open in it
abbrev pub closes : ℕ → Item → Bool
closes zero (Closing kind pre) = true
closes zero (Char ch marks) = false
closes zero (Opening kind generated head marks pre origin) = false
closes (suc depth) item = false

abbrev pub depth_after : ℕ → Item → ℕ
depth_after depth (Char ch marks) = depth
depth_after depth (Opening kind generated head marks pre origin) = suc depth
depth_after depth (Closing kind pre) = depth - 1

-- The result for two bodies that begin with these items, whatever follows them: they are the same,
-- they are not, or the rest decides.
abbrev pub Compares : ℕ → List Item → List Item → Compared → Type 0
Compares depth one other Same = (xs ys : List Item) → cited_inside depth (one ++ xs) ≡ cited_inside depth (other ++ ys)
Compares depth one other Different = (xs ys : List Item) → cited_inside depth (one ++ xs) ≢ cited_inside depth (other ++ ys)
Compares depth one other (Open d) =
    (xs ys : List Item) → (cited_inside d xs ≡ cited_inside d ys) ↔ (cited_inside depth (one ++ xs) ≡ cited_inside depth (other ++ ys))

-- no more nodes are open than so many
abbrev pub IsAtMost : Compared → ℕ → Type 0
IsAtMost Same n = ⊤
IsAtMost Different n = ⊤
IsAtMost (Open d) n = d ≤ n
