-- Nodes with what their references carry: their items, and the bodies.
use Rattle.std.proofs.Common.{◌≡◌, ℕ, zero, suc, ◌+◌, ◌≤◌, Bool, true, false, List, [], ◌∷◌, length, take, drop, map, refl, sym, ap, ◌∙◌, arith}
use Rattle.std.specs.Prelude.{slice_get, Option, Some, None, ◌&&◌}
use Rattle.std.proofs.lemmas.Bool.{and_parts}
use Rattle.model_items.specs.declared.plain_item.PlainItem.{PlainItem}
use Rattle.model_items.specs.declared.plain_item.PlainItem.TheVariants.{Char, Opening, Closing}
use Rattle.model_items.specs.Same.{list_same, option_same, item_same}
use Rattle.model_items.proofs.SameLemmas.{Means-item_same}
use Rattle.model_page.specs.References.{Body}
use Rattle.model_page_write.specs.Nodes.{Carried, carried_from}
use Rattle.model_page_write.specs.PageText.{node_from, item_without_pre, without_pre, body_same, carried_same}
use Rattle.model_page_write.specs.Written.{is_empty}
use Rattle.ve_origin.specs.Kept.{closes_last}
use Rattle.ve_origin.specs.Without.{first_plain}

-- the body that an item has
abbrev pub body_for : Option Body → PlainItem → Option Body
body_for b (Char c marks) = None
body_for b (Closing kind pre) = None
body_for b (Opening kind head marks pre origin generated) = b

pub carried_first : (bodies : ℕ → Option Body) (at : ℕ) (x : PlainItem) (xs : List PlainItem) → carried_from bodies at (x ∷ xs) ≡ record { item = x; body = body_for (bodies at) x } ∷ carried_from bodies (suc at) xs
carried_first bodies at (Char c marks) xs = refl
carried_first bodies at (Closing kind pre) xs = refl
carried_first bodies at (Opening kind head marks pre origin generated) xs = refl

items_of_carried : (bodies : ℕ → Option Body) (at : ℕ) (xs : List PlainItem) → map (λ (c : Carried). c.item) (carried_from bodies at xs) ≡ xs
items_of_carried bodies at [] = refl
items_of_carried bodies at (x ∷ xs) = ap (map (λ (c : Carried). c.item)) (carried_first bodies at x xs) ∙ ap (λ l. x ∷ l) (items_of_carried bodies (suc at) xs)

pub carried_drop : (bodies : ℕ → Option Body) (at n : ℕ) (xs : List PlainItem) → drop n (carried_from bodies at xs) ≡ carried_from bodies (at + n) (drop n xs)
carried_drop bodies at zero xs = let e : at ≡ at + 0 = omega arith in ap (λ k. carried_from bodies k xs) e
carried_drop bodies at (suc n) [] = refl
carried_drop bodies at (suc n) (x ∷ xs) =
    let e : suc at + n ≡ at + suc n = omega arith in
    ap (drop (suc n)) (carried_first bodies at x xs) ∙ carried_drop bodies (suc at) n xs ∙ ap (λ k. carried_from bodies k (drop n xs)) e

pub carried_take : (bodies : ℕ → Option Body) (at n : ℕ) (xs : List PlainItem) → take n (carried_from bodies at xs) ≡ carried_from bodies at (take n xs)
carried_take bodies at zero xs = refl
carried_take bodies at (suc n) [] = refl
carried_take bodies at (suc n) (x ∷ xs) =
    ap (take (suc n)) (carried_first bodies at x xs) ∙ ap (λ l. record { item = x; body = body_for (bodies at) x } ∷ l) (carried_take bodies (suc at) n xs) ∙ sym (carried_first bodies at x (take n xs))

pub carried_length : (bodies : ℕ → Option Body) (at : ℕ) (xs : List PlainItem) → length (carried_from bodies at xs) ≡ length xs
carried_length bodies at [] = refl
carried_length bodies at (x ∷ xs) = ap length (carried_first bodies at x xs) ∙ ap suc (carried_length bodies (suc at) xs)

pub for_without : (b : Option Body) (x : PlainItem) → body_for b (item_without_pre x) ≡ body_for b x
for_without b (Char c marks) = refl
for_without b (Closing kind pre) = refl
for_without b (Opening kind head marks pre origin generated) = refl

pub carried_without : (bodies : ℕ → Option Body) (at : ℕ) (xs : List PlainItem) → without_pre (carried_from bodies at xs) ≡ carried_from bodies at (first_plain xs)
carried_without bodies at [] = refl
carried_without bodies at (x ∷ xs) =
    ap without_pre (carried_first bodies at x xs)
    ∙ ap (λ b. record { item = item_without_pre x; body = b } ∷ carried_from bodies (suc at) xs) (sym (for_without (bodies at) x))
    ∙ sym (carried_first bodies at (item_without_pre x) xs)

-- ---- two lists with what they carry

items_same : (xs ys : List Carried) → list_same carried_same xs ys ≡ true → list_same item_same (map (λ (c : Carried). c.item) xs) (map (λ (c : Carried). c.item) ys) ≡ true
items_same [] [] e = refl
items_same [] (y ∷ ys) e = e
items_same (x ∷ xs) [] e = e
items_same (x ∷ xs) (y ∷ ys) e =
    let p = and_parts (carried_same x y) (list_same carried_same xs ys) e in
    let q = and_parts (item_same x.item y.item) (option_same body_same x.body y.body) p.0 in
    ap (λ b. b && list_same item_same (map (λ (c : Carried). c.item) xs) (map (λ (c : Carried). c.item) ys)) q.0 ∙ items_same xs ys p.1

pub same_items : (b c : ℕ → Option Body) (p q : ℕ) (xs ys : List PlainItem) → list_same carried_same (carried_from b p xs) (carried_from c q ys) ≡ true → list_same item_same xs ys ≡ true
same_items b c p q xs ys e =
    ap (λ l. list_same item_same l ys) (sym (items_of_carried b p xs)) ∙ ap (λ l. list_same item_same (map (λ (x : Carried). x.item) (carried_from b p xs)) l) (sym (items_of_carried c q ys))
    ∙ items_same (carried_from b p xs) (carried_from c q ys) e

-- each item carries the same body
abbrev pub AllSame : (ℕ → Option Body) → (ℕ → Option Body) → ℕ → ℕ → List PlainItem → Type 0
AllSame b c p q xs = (i : ℕ) (x : PlainItem) → slice_get xs i ≡ Some x → option_same body_same (body_for (b (p + i)) x) (body_for (c (q + i)) x) ≡ true

and_true : (a b : Bool) → a ≡ true → b ≡ true → (a && b) ≡ true
and_true true b h k = k
and_true false b h k = h

at_zero : (b c : ℕ → Option Body) (p q : ℕ) (x : PlainItem) → option_same body_same (body_for (b (p + 0)) x) (body_for (c (q + 0)) x) ≡ option_same body_same (body_for (b p) x) (body_for (c q) x)
at_zero b c p q x =
    let e : p + 0 ≡ p = omega arith in
    let f : q + 0 ≡ q = omega arith in
    ap (λ n. option_same body_same (body_for (b n) x) (body_for (c (q + 0)) x)) e ∙ ap (λ n. option_same body_same (body_for (b p) x) (body_for (c n) x)) f

at_next : (b c : ℕ → Option Body) (p q i : ℕ) (x : PlainItem) → option_same body_same (body_for (b (p + suc i)) x) (body_for (c (q + suc i)) x) ≡ option_same body_same (body_for (b (suc p + i)) x) (body_for (c (suc q + i)) x)
at_next b c p q i x =
    let e : p + suc i ≡ suc p + i = omega arith in
    let f : q + suc i ≡ suc q + i = omega arith in
    ap (λ n. option_same body_same (body_for (b n) x) (body_for (c (q + suc i)) x)) e ∙ ap (λ n. option_same body_same (body_for (b (suc p + i)) x) (body_for (c n) x)) f

first_both : (b c : ℕ → Option Body) (p q : ℕ) (x : PlainItem) (xs : List PlainItem) → list_same carried_same (carried_from b p (x ∷ xs)) (carried_from c q (x ∷ xs)) ≡
    ((item_same x x && option_same body_same (body_for (b p) x) (body_for (c q) x)) && list_same carried_same (carried_from b (suc p) xs) (carried_from c (suc q) xs))
first_both b c p q x xs =
    ap (λ l. list_same carried_same l (carried_from c q (x ∷ xs))) (carried_first b p x xs)
    ∙ ap (list_same carried_same (record { item = x; body = body_for (b p) x } ∷ carried_from b (suc p) xs)) (carried_first c q x xs)

pub all_same : (b c : ℕ → Option Body) (p q : ℕ) (xs : List PlainItem) → AllSame b c p q xs → list_same carried_same (carried_from b p xs) (carried_from c q xs) ≡ true
all_same b c p q [] h = refl
all_same b c p q (x ∷ xs) h =
    first_both b c p q x xs
    ∙ and_true _ _ (and_true _ _ (Means-item_same.itself x) (sym (at_zero b c p q x) ∙ h 0 x refl)) (all_same b c (suc p) (suc q) xs (λ i y e. sym (at_next b c p q i y) ∙ h (suc i) y e))

pub same_all : (b c : ℕ → Option Body) (p q : ℕ) (xs : List PlainItem) → list_same carried_same (carried_from b p xs) (carried_from c q xs) ≡ true → AllSame b c p q xs
same_all b c p q [] e i x f = cc
same_all b c p q (x ∷ xs) e zero y f =
    let same : x ≡ y = cc in
    let parts = and_parts _ _ (sym (first_both b c p q x xs) ∙ e) in
    ap (λ z. option_same body_same (body_for (b (p + 0)) z) (body_for (c (q + 0)) z)) (sym same) ∙ at_zero b c p q x ∙ (and_parts _ _ parts.0).1
same_all b c p q (x ∷ xs) e (suc i) y f =
    let parts = and_parts _ _ (sym (first_both b c p q x xs) ∙ e) in
    at_next b c p q i y ∙ same_all b c (suc p) (suc q) xs parts.1 i y f

-- ---- where a node ends

-- a node is as many items of the list
pub record IsTaken (cs : List Carried) (depth : ℕ) : Type 0 where
  pub count : ℕ
  pub within : count ≤ length cs
  pub is : node_from cs depth ≡ take count cs

taken_later : (c : Carried) (cs : List Carried) (depth d : ℕ) → node_from (c ∷ cs) depth ≡ c ∷ node_from cs d → IsTaken cs d → IsTaken (c ∷ cs) depth
taken_later c cs depth d e h = record { count = suc h.count; within = let w = h.within in omega (arith, w); is = e ∙ ap (λ l. c ∷ l) h.is }

taken_by : (item : PlainItem) (body : Option Body) (cs : List Carried) (depth : ℕ) → ((d : ℕ) → IsTaken cs d) → IsTaken (record { item = item; body = body } ∷ cs) depth
taken_by (Char c marks) body cs zero h = taken_later _ cs zero zero refl (h zero)
taken_by (Char c marks) body cs (suc depth) h = taken_later _ cs (suc depth) (suc depth) refl (h (suc depth))
taken_by (Opening kind head marks pre origin generated) body cs zero h = taken_later _ cs zero 1 refl (h 1)
taken_by (Opening kind head marks pre origin generated) body cs (suc depth) h = taken_later _ cs (suc depth) (suc (suc depth)) refl (h (suc (suc depth)))
taken_by (Closing kind pre) body cs zero h = record { count = 1; within = omega arith; is = refl }
taken_by (Closing kind pre) body cs (suc depth) h = taken_later _ cs (suc depth) depth refl (h depth)

pub node_taken : (cs : List Carried) (depth : ℕ) → IsTaken cs depth
node_taken [] depth = record { count = 0; within = omega arith; is = refl }
node_taken (c ∷ cs) depth = taken_by c.item c.body cs depth (λ d. node_taken cs d)

-- where items close the node that is open with their last one, the node is these items
pub node_closes : (bodies : ℕ → Option Body) (at n depth : ℕ) (xs : List PlainItem) → closes_last depth (take n xs) ≡ true → node_from (carried_from bodies at xs) depth ≡ carried_from bodies at (take n xs)
node_closes bodies at zero depth xs h = absurd cc
node_closes bodies at (suc n) depth [] h = refl
node_closes bodies at (suc n) zero (Char c marks ∷ xs) h = ap (λ l. record { item = Char c marks; body = None } ∷ l) (node_closes bodies (suc at) n zero xs h)
node_closes bodies at (suc n) (suc depth) (Char c marks ∷ xs) h = ap (λ l. record { item = Char c marks; body = None } ∷ l) (node_closes bodies (suc at) n (suc depth) xs h)
node_closes bodies at (suc n) zero (Opening kind head marks pre origin generated ∷ xs) h =
    ap (λ l. record { item = Opening kind head marks pre origin generated; body = bodies at } ∷ l) (node_closes bodies (suc at) n 1 xs h)
node_closes bodies at (suc n) (suc depth) (Opening kind head marks pre origin generated ∷ xs) h =
    ap (λ l. record { item = Opening kind head marks pre origin generated; body = bodies at } ∷ l) (node_closes bodies (suc at) n (suc (suc depth)) xs h)
node_closes bodies at (suc n) zero (Closing kind pre ∷ xs) h = ap (λ l. record { item = Closing kind pre; body = None } ∷ carried_from bodies (suc at) l) (nothing (take n xs) h)
  where
    nothing : (l : List PlainItem) → is_empty l ≡ true → [] ≡ l
    nothing [] e = refl
    nothing (x ∷ l) e = absurd cc
node_closes bodies at (suc n) (suc depth) (Closing kind pre ∷ xs) h = ap (λ l. record { item = Closing kind pre; body = None } ∷ l) (node_closes bodies (suc at) n depth xs h)
