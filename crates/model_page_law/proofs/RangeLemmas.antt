-- The writer compares a node with the items at the range of its origin.
use Rattle.std.proofs.Common.{◌≡◌, ℕ, zero, suc, ◌+◌, ◌-◌, ◌<◌, List, [], ◌∷◌, ◌++◌, length, take, drop, Option, Some, None, refl, sym, ap, ◌∙◌, arith}
use Rattle.std.proofs.Math.Seq.{drop-append_seam}
use Rattle.model_items.specs.declared.plain_item.PlainItem.{PlainItem}
use Rattle.model_items.specs.declared.plain_item.PlainItem.TheVariants.{Char, Opening, Closing}
use Rattle.model_page.specs.References.{Body, inside_from}
use Rattle.model_page_write.specs.Nodes.{Carried, body_carried, carried_from}
use Rattle.model_page_write.specs.PageText.{node_from, node_with}
use Rattle.model_page_law.specs.Origins.{origins_of, counted_from}
use Rattle.model_page_law.specs.Spans.{NodeAt, RangesAreCompared}
use Rattle.model_page_law.proofs.OriginLemmas.{origins_of-append, origins_number_spans}
use Rattle.model_page_law.proofs.PlaceLemmas.{carried_from-append, other_origin, has_origin-itself, chosen_list, other_list}

-- ---- origins before a number

abbrev AllBelow : ℕ → List ℕ → Type 0
AllBelow k [] = Unit {0}
AllBelow k (n ∷ ns) = (n < k) × AllBelow k ns

-- what stands in rising numbers is not below the first
not_before : (xs ys : List ℕ) (k a n : ℕ) → xs ++ (k ∷ ys) ≡ counted_from a n → a < suc k
not_before [] ys k a zero e = cc
not_before [] ys k a (suc n) e = let same : k ≡ a = cc in omega (arith, same)
not_before (x ∷ xs) ys k a zero e = cc
not_before (x ∷ xs) ys k a (suc n) e = let rest : xs ++ (k ∷ ys) ≡ counted_from (suc a) n = cc in omega (arith, not_before xs ys k (suc a) n rest)

before-below : (xs ys : List ℕ) (k a n : ℕ) → xs ++ (k ∷ ys) ≡ counted_from a n → AllBelow k xs
before-below [] ys k a n e = tt
before-below (x ∷ xs) ys k a zero e = cc
before-below (x ∷ xs) ys k a (suc n) e =
    let same : x ≡ a = cc in
    let rest : xs ++ (k ∷ ys) ≡ counted_from (suc a) n = cc in
    (omega (arith, same, not_before xs ys k (suc a) n rest), before-below xs ys k (suc a) n rest)

-- ---- the node of a number

-- items without the origin k are passed
passed : (bodies : ℕ → Option Body) (k at : ℕ) (items : List PlainItem) (rest : List Carried) → AllBelow k (origins_of items) → node_with k (carried_from bodies at items ++ rest) ≡ node_with k rest
passed bodies k at [] rest b = refl
passed bodies k at (Char c marks ∷ items) rest b = passed bodies k (suc at) items rest b
passed bodies k at (Closing kind pre ∷ items) rest b = passed bodies k (suc at) items rest b
passed bodies k at (Opening kind head marks pre None generated ∷ items) rest b = passed bodies k (suc at) items rest b
passed bodies k at (Opening kind head marks pre (Some j) generated ∷ items) rest b =
    other_list _ _ (node_with k (carried_from bodies (suc at) items ++ rest)) (other_origin j k b.0) ∙ passed bodies k (suc at) items rest b.1

-- up to the closing that ends what is inside
up_to : (bodies : ℕ → Option Body) (items : List PlainItem) (depth at : ℕ) → node_from (carried_from bodies at items) depth ≡ take (suc (length (inside_from depth items).0)) (carried_from bodies at items)
up_to bodies [] depth at = refl
up_to bodies (Char c marks ∷ items) depth at = ap (λ cs. record { item = Char c marks; body = None } ∷ cs) (up_to bodies items depth (suc at))
up_to bodies (Closing kind pre ∷ items) zero at = refl
up_to bodies (Closing kind pre ∷ items) (suc depth) at = ap (λ cs. record { item = Closing kind pre; body = None } ∷ cs) (up_to bodies items depth (suc at))
up_to bodies (Opening kind head marks pre origin generated ∷ items) depth at =
    ap (λ cs. record { item = Opening kind head marks pre origin generated; body = bodies at } ∷ cs) (up_to bodies items (suc depth) (suc at))

length-carried : (bodies : ℕ → Option Body) (at : ℕ) (items : List PlainItem) → length (carried_from bodies at items) ≡ length items
length-carried bodies at [] = refl
length-carried bodies at (Char c marks ∷ items) = ap suc (length-carried bodies (suc at) items)
length-carried bodies at (Closing kind pre ∷ items) = ap suc (length-carried bodies (suc at) items)
length-carried bodies at (Opening kind head marks pre origin generated ∷ items) = ap suc (length-carried bodies (suc at) items)

compared : (bodies : ℕ → Option Body) (items : List PlainItem) (k from to count : ℕ) → origins_of items ≡ counted_from 0 count → NodeAt items k from to →
    node_with k (carried_from bodies 0 items) ≡ take (to - from) (drop from (carried_from bodies 0 items))
compared bodies items k from to count e n =
    let opening : PlainItem = Opening n.kind n.head n.marks n.pre (Some k) n.generated in
    let more : List PlainItem = n.inside ++ Closing n.kind n.white ∷ n.after in
    let at : ℕ = 0 + length n.before in
    let prefix : List Carried = carried_from bodies 0 n.before in
    let rest : List Carried = carried_from bodies at (opening ∷ more) in
    let split : carried_from bodies 0 items ≡ prefix ++ rest = ap (carried_from bodies 0) n.items_are ∙ carried_from-append bodies 0 n.before (opening ∷ more) in
    let numbers : origins_of n.before ++ (k ∷ origins_of more) ≡ counted_from 0 count = sym (origins_of-append n.before (opening ∷ more)) ∙ ap origins_of (sym n.items_are) ∙ e in
    let long : suc (length (inside_from 0 more).0) ≡ suc (length n.inside) = ap (λ r. suc (length r.0)) n.closes in
    let count_is : suc (suc (length n.inside)) ≡ to - from = omega (arith, n.to_is) in
    let from_is : length prefix ≡ from = length-carried bodies 0 n.before ∙ sym n.from_is in
    ap (node_with k) split
    ∙ passed bodies k 0 n.before rest (before-below (origins_of n.before) (origins_of more) k 0 count numbers)
    ∙ chosen_list _ _ _ (has_origin-itself k)
    ∙ ap (λ cs. record { item = opening; body = bodies at } ∷ cs) (up_to bodies more 0 (suc at) ∙ ap (λ m. take m (carried_from bodies (suc at) more)) long)
    ∙ ap (λ m. take m rest) count_is
    ∙ ap (take (to - from)) (sym (drop-append_seam prefix rest) ∙ ap (λ m. drop m (prefix ++ rest)) from_is ∙ ap (drop from) (sym split))

pub ranges_are_compared : RangesAreCompared
ranges_are_compared page o h k from to n = compared (body_carried o.items) o.items k from to (length o.spans) (origins_number_spans page o h) n
