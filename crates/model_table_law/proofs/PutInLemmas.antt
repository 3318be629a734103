-- A new cell put in at a position of a list: where the other nodes stand then, and what stands in
-- each.
use Rattle.std.specs.Prelude.{filter, slice_get}
use Rattle.std.proofs.Common.{◌≡◌, ℕ, zero, suc, ◌+◌, ◌-◌, ◌<◌, ◌≤◌, Bool, true, false, cond, not, if◌then◌else◌, nat_lt, List, [], ◌∷◌, ◌++◌, length, map, drop, Option, Some, None, refl, sym, ap, ◌∙◌, arith, length-drop}
use Rattle.std.proofs.lemmas.Bool.{ltb-true, ltb-false, lt-ltb}
use Rattle.std.proofs.lemmas.List.{drop-append-le}
use Rattle.std.proofs.Math.Seq.{drop-append-add}
use Rattle.ve_kinds.specs.declared.kind.Kind.TheVariants.{Td}
use Rattle.model_items.specs.declared.plain_item.PlainItem.{PlainItem}
use Rattle.model_items.specs.declared.plain_item.PlainItem.TheVariants.{Char, Opening, Closing}
use Rattle.model_items.specs.Tree.{Open}
use Rattle.model_items.specs.Offsets.{siblings, children}
use Rattle.model_edit.specs.Tables.{new_cell}
use Rattle.model_edit_law.proofs.SiblingLemmas.{no_less}
use Rattle.model_edit_law.proofs.TableSetLemmas.{map-append, get_past}

-- how many nodes are open after items, or none where the node is left that the first stands in
abbrev pub depth_after : ℕ → List PlainItem → Option ℕ
depth_after d [] = Some d
depth_after d (Char c marks ∷ items) = depth_after d items
depth_after d (Opening kind head marks pre origin generated ∷ items) = depth_after (suc d) items
depth_after zero (Closing kind pre ∷ items) = None
depth_after (suc d) (Closing kind pre ∷ items) = depth_after d items

abbrev pub walked_on : Option ℕ → ℕ → List PlainItem → List Open
walked_on None at items = []
walked_on (Some d) at items = siblings d at items

pub siblings-append : (d q p : ℕ) (xs ys : List PlainItem) → p ≡ q + length xs → siblings d q (xs ++ ys) ≡ siblings d q xs ++ walked_on (depth_after d xs) p ys
siblings-append d q p [] ys e = let z : q ≡ p = omega arith in ap (λ n. siblings d n ys) z
siblings-append d q p (Char c marks ∷ xs) ys e = siblings-append d (suc q) p xs ys (omega arith)
siblings-append zero q p (Opening kind head marks pre origin generated ∷ xs) ys e = ap (λ v. record { kind = kind; from = q } ∷ v) (siblings-append 1 (suc q) p xs ys (omega arith))
siblings-append (suc d) q p (Opening kind head marks pre origin generated ∷ xs) ys e = siblings-append (suc (suc d)) (suc q) p xs ys (omega arith)
siblings-append zero q p (Closing kind pre ∷ xs) ys e = refl
siblings-append (suc d) q p (Closing kind pre ∷ xs) ys e = siblings-append d (suc q) p xs ys (omega arith)

abbrev pub Between : (low high : ℕ) → List Open → Type 0
Between low high [] = Unit {0}
Between low high (o ∷ nodes) = (low ≤ o.from) × (o.from < high) × Between low high nodes

Between-within : (low low' high : ℕ) (nodes : List Open) → low' ≤ low → Between low high nodes → Between low' high nodes
Between-within low low' high [] l b = tt
Between-within low low' high (o ∷ nodes) l b = let b0 = b.0 in (omega arith, b.1, Between-within low low' high nodes l b.2)

siblings_between : (d q high : ℕ) (xs : List PlainItem) → q + length xs ≤ high → Between q high (siblings d q xs)
siblings_between d q high [] l = tt
siblings_between d q high (Char c marks ∷ xs) l = Between-within (suc q) q high _ (omega arith) (siblings_between d (suc q) high xs (omega arith))
siblings_between zero q high (Opening kind head marks pre origin generated ∷ xs) l =
    (omega arith, omega arith, Between-within (suc q) q high _ (omega arith) (siblings_between 1 (suc q) high xs (omega arith)))
siblings_between (suc d) q high (Opening kind head marks pre origin generated ∷ xs) l = Between-within (suc q) q high _ (omega arith) (siblings_between (suc (suc d)) (suc q) high xs (omega arith))
siblings_between zero q high (Closing kind pre ∷ xs) l = tt
siblings_between (suc d) q high (Closing kind pre ∷ xs) l = Between-within (suc q) q high _ (omega arith) (siblings_between d (suc q) high xs (omega arith))

-- a node at another position
abbrev pub moved_by : (ℕ → ℕ) → Open → Open
moved_by f o = record { kind = o.kind; from = f o.from }

siblings_later : (d q q' n : ℕ) (xs : List PlainItem) → q' ≡ q + n → siblings d q' xs ≡ map (moved_by (λ b. b + n)) (siblings d q xs)
siblings_later d q q' n [] e = refl
siblings_later d q q' n (Char c marks ∷ xs) e = siblings_later d (suc q) (suc q') n xs (omega arith)
siblings_later zero q q' n (Opening kind head marks pre origin generated ∷ xs) e =
    (λ i. record { kind = kind; from = e i } ∷ siblings_later 1 (suc q) (suc q') n xs (omega arith) i)
siblings_later (suc d) q q' n (Opening kind head marks pre origin generated ∷ xs) e = siblings_later (suc (suc d)) (suc q) (suc q') n xs (omega arith)
siblings_later zero q q' n (Closing kind pre ∷ xs) e = refl
siblings_later (suc d) q q' n (Closing kind pre ∷ xs) e = siblings_later d (suc q) (suc q') n xs (omega arith)

-- where a position is when a new cell is put in at p
abbrev pub past : ℕ → ℕ → ℕ
past p b = if nat_lt b p then b else b + 4

pub past-before : (p b : ℕ) → b < p → past p b ≡ b
past-before p b l = ap (λ t. if t then b else b + 4) (lt-ltb b p l)

pub past-after : (p b : ℕ) → p ≤ b → past p b ≡ b + 4
past-after p b l = ap (λ t. if t then b else b + 4) (no_less b p l)

all_before : (p low : ℕ) (nodes : List Open) → Between low p nodes → map (moved_by (past p)) nodes ≡ nodes
all_before p low [] b = refl
all_before p low (o ∷ nodes) b = (λ i. record { kind = o.kind; from = past-before p o.from b.1 i } ∷ all_before p low nodes b.2 i)

all_after : (p low high : ℕ) (nodes : List Open) → p ≤ low → Between low high nodes → map (moved_by (past p)) nodes ≡ map (moved_by (λ b. b + 4)) nodes
all_after p low high [] l b = refl
all_after p low high (o ∷ nodes) l b = let b0 = b.0 in (λ i. record { kind = o.kind; from = past-after p o.from (omega arith) i } ∷ all_after p low high nodes l b.2 i)

-- the nodes before a position, those from it on, and the nodes with a new cell at it
abbrev pub nodes_before : ℕ → List Open → List Open
nodes_before p nodes = filter (λ (o : Open). nat_lt o.from p) nodes

abbrev pub nodes_after : ℕ → List Open → List Open
nodes_after p nodes = filter (λ (o : Open). not (nat_lt o.from p)) nodes

abbrev pub with_new : ℕ → List Open → List Open
with_new p nodes = map (moved_by (past p)) (nodes_before p nodes) ++ record { kind = Td; from = p } ∷ map (moved_by (past p)) (nodes_after p nodes)

before_split : (p low high : ℕ) (xs ys : List Open) → Between low p xs → Between p high ys → nodes_before p (xs ++ ys) ≡ xs
before_split p low high [] [] x y = refl
before_split p low high [] (o ∷ ys) x y = ap (λ t. cond t (o ∷ nodes_before p ys) (nodes_before p ys)) (no_less o.from p y.0) ∙ before_split p low high [] ys x y.2
before_split p low high (o ∷ xs) ys x y =
    ap (λ t. cond t (o ∷ nodes_before p (xs ++ ys)) (nodes_before p (xs ++ ys))) (lt-ltb o.from p x.1) ∙ ap (λ v. o ∷ v) (before_split p low high xs ys x.2 y)

after_split : (p low high : ℕ) (xs ys : List Open) → Between low p xs → Between p high ys → nodes_after p (xs ++ ys) ≡ ys
after_split p low high [] [] x y = refl
after_split p low high [] (o ∷ ys) x y =
    ap (λ t. cond (not t) (o ∷ nodes_after p ys) (nodes_after p ys)) (no_less o.from p y.0) ∙ ap (λ v. o ∷ v) (after_split p low high [] ys x y.2)
after_split p low high (o ∷ xs) ys x y =
    ap (λ t. cond (not t) (o ∷ nodes_after p (xs ++ ys)) (nodes_after p (xs ++ ys))) (lt-ltb o.from p x.1) ∙ after_split p low high xs ys x.2 y

-- the position lies deeper in a node that begins before it, or after the node
abbrev pub Elsewhere : Option ℕ → Type 0
Elsewhere None = Unit {0}
Elsewhere (Some zero) = ⊥
Elsewhere (Some (suc d)) = Unit {0}

module _ (P Y : List PlainItem) (p : ℕ) (here : length P ≡ p) where
  abbrev pub old_list : List PlainItem
  old_list = P ++ Y

  abbrev pub new_list : List PlainItem
  new_list = P ++ (new_cell ++ Y)

  inside : ℕ → List PlainItem
  inside a = drop (suc a) P

  children-cut : (a : ℕ) (Z : List PlainItem) → a < p → children (P ++ Z) a ≡ siblings 0 (suc a) (drop (suc a) P) ++ walked_on (depth_after 0 (drop (suc a) P)) p Z
  children-cut a Z l =
      ap (siblings 0 (suc a)) (drop-append-le (suc a) P Z (omega arith))
      ∙ siblings-append 0 (suc a) p (drop (suc a) P) Z (omega (arith, length-drop (suc a) P))

  first_between : (a : ℕ) → a < p → Between (suc a) p (siblings 0 (suc a) (drop (suc a) P))
  first_between a l = siblings_between 0 (suc a) p (drop (suc a) P) (omega (arith, length-drop (suc a) P))

  -- In a node that the position isn't just inside stand the same nodes.
  pub children_before : (a : ℕ) → a < p → Elsewhere (depth_after 0 (drop (suc a) P)) → children new_list a ≡ map (moved_by (past p)) (children old_list a)
  children_before a l other =
      children-cut a (new_cell ++ Y) l
      ∙ by (depth_after 0 (drop (suc a) P)) other
      ∙ sym (ap (map (moved_by (past p))) (children-cut a Y l) ∙ map-append (moved_by (past p)) (siblings 0 (suc a) (drop (suc a) P)) (walked_on (depth_after 0 (drop (suc a) P)) p Y))
    where
      by : (o : Option ℕ) → Elsewhere o →
          siblings 0 (suc a) (drop (suc a) P) ++ walked_on o p (new_cell ++ Y) ≡ map (moved_by (past p)) (siblings 0 (suc a) (drop (suc a) P)) ++ map (moved_by (past p)) (walked_on o p Y)
      by None h = ap (λ v. v ++ []) (sym (all_before p (suc a) _ (first_between a l)))
      by (Some zero) h = absurd h
      by (Some (suc d)) h =
          let q : suc (suc (suc (suc p))) ≡ p + 4 = omega arith in
          (λ i. sym (all_before p (suc a) _ (first_between a l)) i ++ siblings_later (suc d) p (suc (suc (suc (suc p)))) 4 Y q i)
          ∙ ap (λ v. map (moved_by (past p)) (siblings 0 (suc a) (drop (suc a) P)) ++ v) (sym (all_after p p (p + length Y) (siblings (suc d) p Y) (omega arith) (siblings_between (suc d) p (p + length Y) Y (omega arith))))

  -- In the node that it is just inside the new cell stands at it.
  pub children_own : (a : ℕ) → a < p → depth_after 0 (drop (suc a) P) ≡ Some 0 → children new_list a ≡ with_new p (children old_list a)
  children_own a l just =
      let xs = siblings 0 (suc a) (drop (suc a) P) in
      let ys = siblings 0 p Y in
      let old : children old_list a ≡ xs ++ ys = children-cut a Y l ∙ ap (λ o. xs ++ walked_on o p Y) just in
      let x = first_between a l in
      let y : Between p (p + length Y) ys = siblings_between 0 p (p + length Y) Y (omega arith) in
      let q : suc (suc (suc (suc p))) ≡ p + 4 = omega arith in
      children-cut a (new_cell ++ Y) l
      ∙ ap (λ o. xs ++ walked_on o p (new_cell ++ Y)) just
      ∙ (λ i. sym (all_before p (suc a) xs x) i ++ record { kind = Td; from = p } ∷ siblings_later 0 p (suc (suc (suc (suc p)))) 4 Y q i)
      ∙ ap (λ v. map (moved_by (past p)) xs ++ record { kind = Td; from = p } ∷ v) (sym (all_after p p (p + length Y) ys (omega arith) y))
      ∙ (λ i. map (moved_by (past p)) (sym (before_split p (suc a) (p + length Y) xs ys x y) i) ++ record { kind = Td; from = p } ∷ map (moved_by (past p)) (sym (after_split p (suc a) (p + length Y) xs ys x y) i))
      ∙ ap (with_new p) (sym old)

  -- Nodes after it are moved.
  pub children_after : (a : ℕ) → p ≤ a → children new_list (a + 4) ≡ map (moved_by (past p)) (children old_list a)
  children_after a l =
      let k = suc a - p in
      let old_place : suc a ≡ length P + k = omega arith in
      let new_place : suc (a + 4) ≡ length P + suc (suc (suc (suc k))) = omega arith in
      let list = drop k Y in
      let old : drop (suc a) old_list ≡ list = ap (λ n. drop n old_list) old_place ∙ drop-append-add P Y k in
      let new : drop (suc (a + 4)) new_list ≡ list = ap (λ n. drop n new_list) new_place ∙ drop-append-add P (new_cell ++ Y) (suc (suc (suc (suc k)))) in
      ap (siblings 0 (suc (a + 4))) new
      ∙ siblings_later 0 (suc a) (suc (a + 4)) 4 list (omega arith)
      ∙ sym (all_after p (suc a) (suc a + length list) (siblings 0 (suc a) list) (omega arith) (siblings_between 0 (suc a) (suc a + length list) list (omega arith)))
      ∙ ap (λ v. map (moved_by (past p)) (siblings 0 (suc a) v)) (sym old)

  -- An item of the old list stands where `past` moves it.
  pub get_past_new : (b : ℕ) → slice_get new_list (past p b) ≡ slice_get old_list b
  get_past_new b = by (nat_lt b p) refl
    where
      before : (xs : List PlainItem) (n : ℕ) (Z Z' : List PlainItem) → n < length xs → slice_get (xs ++ Z) n ≡ slice_get (xs ++ Z') n
      before [] n Z Z' l = absurd (omega arith)
      before (x ∷ xs) zero Z Z' l = refl
      before (x ∷ xs) (suc n) Z Z' l = before xs n Z Z' (omega arith)

      by : (t : Bool) → nat_lt b p ≡ t → slice_get new_list (past p b) ≡ slice_get old_list b
      by true e = let l = ltb-true b p e in ap (slice_get new_list) (past-before p b l) ∙ before P b (new_cell ++ Y) Y (omega arith)
      by false e =
          let l = ltb-false b p e in
          let k = b - p in
          let old_place : b ≡ length P + k = omega arith in
          let new_place : b + 4 ≡ length P + suc (suc (suc (suc k))) = omega arith in
          ap (slice_get new_list) (past-after p b l ∙ new_place) ∙ get_past P (new_cell ++ Y) (suc (suc (suc (suc k))))
          ∙ sym (ap (slice_get old_list) old_place ∙ get_past P Y k)

  -- And the new cell's opening stands at it.
  pub get_new : slice_get new_list p ≡ slice_get new_cell 0
  get_new = let z : p ≡ length P + 0 = omega arith in ap (slice_get new_list) z ∙ get_past P (new_cell ++ Y) 0
