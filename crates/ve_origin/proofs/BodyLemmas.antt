-- Bodies compared in step.
use Rattle.std.proofs.Common.{◌≡◌, ◌≢◌, ℕ, zero, suc, ◌+◌, ◌-◌, ◌≤◌, ◌↔◌, Bool, true, false, List, [], ◌∷◌, ◌++◌, length, take, drop, refl, sym, ap, ◌∙◌, arith, subst}
use Rattle.std.specs.Prelude.{◌&&◌, if◌then◌else◌}
use Rattle.std.specs.Prelude.{slice_get, Some}
use Rattle.std.proofs.lemmas.List.{drop_more, take-append-drop, take-take}
use Rattle.std.proofs.Common.{drop-drop, drop_of_length-le}
use Rattle.std.specs.List.{slice_range}
use Rattle.ve_origin.proofs.AlikeLemmas.{piece_is}
use Rattle.std.proofs.lemmas.Option.{slice_get_within, get_or_from_slice_get}
use Rattle.model_items.specs.declared.item.Item.{Item}
use Rattle.model_items.specs.declared.item.Item.TheVariants.{Char, Opening, Closing}
use Rattle.ve_origin.specs.declared.bodies.Compared.{Compared}
use Rattle.ve_origin.specs.declared.bodies.Compared.TheVariants.{Same, Different, Open}
use Rattle.ve_origin.specs.Bodies.{cited_inside, closes, depth_after, Compares}

-- a body by its first item
pub inside_first : (depth : ℕ) (x : Item) (xs : List Item) → cited_inside depth (x ∷ xs) ≡ (if closes depth x then [] else x ∷ cited_inside (depth_after depth x) xs)
inside_first zero (Closing kind pre) xs = refl
inside_first (suc depth) (Closing kind pre) xs = ap (λ d. Closing kind pre ∷ cited_inside d xs) (let e : depth ≡ suc depth - 1 = omega arith in e)
inside_first zero (Char ch marks) xs = refl
inside_first (suc depth) (Char ch marks) xs = refl
inside_first zero (Opening kind generated head marks pre origin) xs = refl
inside_first (suc depth) (Opening kind generated head marks pre origin) xs = refl

if_true : (b : Bool) (x : Item) (us : List Item) → b ≡ true → (if b then [] else x ∷ us) ≡ []
if_true true x us h = refl
if_true false x us h = cc

if_false : (b : Bool) (x : Item) (us : List Item) → b ≡ false → (if b then [] else x ∷ us) ≡ x ∷ us
if_false false x us h = refl
if_false true x us h = cc

pub closed_first : (depth : ℕ) (x : Item) (xs : List Item) → closes depth x ≡ true → cited_inside depth (x ∷ xs) ≡ []
closed_first depth x xs h = inside_first depth x xs ∙ if_true _ x _ h

pub open_first : (depth : ℕ) (x : Item) (xs : List Item) → closes depth x ≡ false → cited_inside depth (x ∷ xs) ≡ x ∷ cited_inside (depth_after depth x) xs
open_first depth x xs h = inside_first depth x xs ∙ if_false _ x _ h

-- ---- one item

pub both_close : (depth : ℕ) (x y : Item) → closes depth x ≡ true → closes depth y ≡ true → Compares depth (x ∷ []) (y ∷ []) Same
both_close depth x y h k xs ys = closed_first depth x xs h ∙ sym (closed_first depth y ys k)

apart : (a b : Bool) (x y : Item) (us vs : List Item) → (a && b) ≡ false → x ≢ y → (if a then [] else x ∷ us) ≢ (if b then [] else y ∷ vs)
apart true true x y us vs h k e = cc
apart true false x y us vs h k e = cc
apart false true x y us vs h k e = cc
apart false false x y us vs h k e = let same : x ≡ y = cc in k same

pub items_differ : (depth : ℕ) (x y : Item) → (closes depth x && closes depth y) ≡ false → x ≢ y → Compares depth (x ∷ []) (y ∷ []) Different
items_differ depth x y h k xs ys e = apart (closes depth x) (closes depth y) x y _ _ h k (sym (inside_first depth x xs) ∙ e ∙ inside_first depth y ys)

both_false : (b : Bool) → (b && b) ≡ false → b ≡ false
both_false true h = h
both_false false h = refl

tails : (x y : Item) (us vs : List Item) → x ∷ us ≡ y ∷ vs → us ≡ vs
tails x y us vs e = cc

pub item_shared : (depth : ℕ) (x y : Item) → (closes depth x && closes depth y) ≡ false → x ≡ y → Compares depth (x ∷ []) (y ∷ []) (Open (depth_after depth x))
item_shared depth x y h same xs ys =
    let open_x : closes depth x ≡ false = both_false (closes depth x) (ap (λ z. closes depth x && closes depth z) same ∙ h) in
    let open_y : closes depth y ≡ false = ap (closes depth) (sym same) ∙ open_x in
    let one = open_first depth x xs open_x in
    let other = open_first depth y ys open_y in
    let depths : depth_after depth x ≡ depth_after depth y = ap (depth_after depth) same in (
      λ e. one ∙ (λ i. same i ∷ e i) ∙ ap (λ d. y ∷ cited_inside d ys) depths ∙ sym other,
      λ e. tails x y _ _ (sym one ∙ e ∙ other ∙ ap (λ d. y ∷ cited_inside d ys) (sym depths)),
    )

-- ---- further items

pub same_first : (depth : ℕ) (x y : Item) (xs ys : List Item) → Compares depth (x ∷ []) (y ∷ []) Same → Compares depth (x ∷ xs) (y ∷ ys) Same
same_first depth x y xs ys h us vs = h (xs ++ us) (ys ++ vs)

pub different_first : (depth : ℕ) (x y : Item) (xs ys : List Item) → Compares depth (x ∷ []) (y ∷ []) Different → Compares depth (x ∷ xs) (y ∷ ys) Different
different_first depth x y xs ys h us vs = h (xs ++ us) (ys ++ vs)

pub open_then : (depth d : ℕ) (x y : Item) (xs ys : List Item) (c : Compared) → Compares depth (x ∷ []) (y ∷ []) (Open d) → Compares d xs ys c → Compares depth (x ∷ xs) (y ∷ ys) c
open_then depth d x y xs ys Same h k = λ us vs. (h (xs ++ us) (ys ++ vs)).0 (k us vs)
open_then depth d x y xs ys Different h k = λ us vs e. k us vs ((h (xs ++ us) (ys ++ vs)).1 e)
open_then depth d x y xs ys (Open e) h k = λ us vs.
    let a = h (xs ++ us) (ys ++ vs) in
    let b = k us vs in
    (λ s. a.0 (b.0 s), λ s. b.1 (a.1 s))

pub nothing_compared : (depth : ℕ) → Compares depth [] [] (Open depth)
nothing_compared depth us vs = (λ e. e, λ e. e)

-- by a position of each piece
pub same_at : (depth i : ℕ) (one other : List Item) (x y : Item) → drop i one ≡ x ∷ drop (i + 1) one → drop i other ≡ y ∷ drop (i + 1) other → Compares depth (x ∷ []) (y ∷ []) Same →
    Compares depth (drop i one) (drop i other) Same
same_at depth i one other x y e f h = subst (λ l. Compares depth l (drop i other) Same) (sym e) (subst (λ l. Compares depth (x ∷ drop (i + 1) one) l Same) (sym f) (same_first depth x y _ _ h))

pub different_at : (depth i : ℕ) (one other : List Item) (x y : Item) → drop i one ≡ x ∷ drop (i + 1) one → drop i other ≡ y ∷ drop (i + 1) other → Compares depth (x ∷ []) (y ∷ []) Different →
    Compares depth (drop i one) (drop i other) Different
different_at depth i one other x y e f h =
    subst (λ l. Compares depth l (drop i other) Different) (sym e) (subst (λ l. Compares depth (x ∷ drop (i + 1) one) l Different) (sym f) (different_first depth x y _ _ h))

pub open_at : (depth d i : ℕ) (one other : List Item) (x y : Item) (c : Compared) → drop i one ≡ x ∷ drop (i + 1) one → drop i other ≡ y ∷ drop (i + 1) other → Compares depth (x ∷ []) (y ∷ []) (Open d) →
    Compares d (drop (i + 1) one) (drop (i + 1) other) c → Compares depth (drop i one) (drop i other) c
open_at depth d i one other x y c e f h k =
    subst (λ l. Compares depth l (drop i other) c) (sym e) (subst (λ l. Compares depth (x ∷ drop (i + 1) one) l c) (sym f) (open_then depth d x y _ _ c h k))

-- ---- where a body ends

pub ends_first : (depth : ℕ) (x : Item) (xs : List Item) → closes depth x ≡ false → cited_inside depth (x ∷ xs) ≢ []
ends_first depth x xs h e = let f : x ∷ cited_inside (depth_after depth x) xs ≡ [] = sym (open_first depth x xs h) ∙ e in absurd cc

-- Where one of both lists has ended, the bodies are the same exactly where both end.
pub both_end : (us vs : List Item) (a b : Bool) → (a ≡ true ↔ us ≡ []) → (b ≡ true ↔ vs ≡ []) → a ≡ true → (b ≡ true ↔ us ≡ vs)
both_end us vs a b h k is = (λ e. h.0 is ∙ sym (k.0 e), λ e. k.1 (sym e ∙ h.0 is))

pub open_items : (depth : ℕ) (x y : Item) (d : ℕ) → d ≡ depth_after depth x → (closes depth x && closes depth y) ≡ false → x ≡ y → Compares depth (x ∷ []) (y ∷ []) (Open d)
open_items depth x y d e h same = subst (λ m. Compares depth (x ∷ []) (y ∷ []) (Open m)) (sym e) (item_shared depth x y h same)

-- whether a body ends at a position of a list
pub ends_at : (depth at : ℕ) (items : List Item) (x : Item) (b : Bool) → slice_get items at ≡ Some x → b ≡ closes depth x → (b ≡ true ↔ cited_inside depth (drop at items) ≡ [])
ends_at depth at items x b found is = cases b (sym is)
  where
    here : drop at items ≡ x ∷ drop (at + 1) items
    here = drop_more items at x (slice_get_within items at x found) ∙ ap (λ y. y ∷ drop (at + 1) items) (get_or_from_slice_get items at x x found)

    cases : (b : Bool) → closes depth x ≡ b → (b ≡ true ↔ cited_inside depth (drop at items) ≡ [])
    cases true h = (λ e. ap (cited_inside depth) here ∙ closed_first depth x _ h, λ e. refl)
    cases false h = (λ e. cc, λ e. absurd (ends_first depth x (drop (at + 1) items) h (sym (ap (cited_inside depth) here) ∙ e)))

-- ---- pieces

pub nothing_left : (depth i : ℕ) (one other : List Item) → length one ≤ i → length one ≡ length other → Compares depth (drop i one) (drop i other) (Open depth)
nothing_left depth i one other h e us vs =
    let a : drop i one ≡ [] = drop_of_length-le one h in
    let b : drop i other ≡ [] = drop_of_length-le other (subst (λ n. n ≤ i) e h) in (
      λ k. ap (λ l. cited_inside depth (l ++ us)) a ∙ k ∙ sym (ap (λ l. cited_inside depth (l ++ vs)) b),
      λ k. sym (ap (λ l. cited_inside depth (l ++ us)) a) ∙ k ∙ ap (λ l. cited_inside depth (l ++ vs)) b,
    )

-- what is left of a list, by a piece of it
pub by_piece : (items piece : List Item) (at n : ℕ) → piece ≡ slice_range items at (at + length piece) → n ≤ length piece → drop at items ≡ take n piece ++ drop (at + n) items
by_piece items piece at n is le =
    sym (take-append-drop n (drop at items)) ∙ ap (λ l. l ++ drop n (drop at items)) (sym (take-take n (length piece) (drop at items) le) ∙ ap (take n) (sym (piece_is items piece at is)))
    ∙ ap (λ l. take n piece ++ l) (drop-drop n at items)

-- Pieces of two lists were compared.
pub record Lent (now one first other : List Item) (here there n : ℕ) : Type 0 where
  pub now_is : drop here now ≡ take n one ++ drop (here + n) now
  pub first_is : drop there first ≡ take n other ++ drop (there + n) first

pub lent : (now one first other : List Item) (here there n : ℕ) → one ≡ slice_range now here (here + length one) → other ≡ slice_range first there (there + length other) → n ≤ length one → n ≤ length other →
    Lent now one first other here there n
lent now one first other here there n e f h k = record { now_is = by_piece now one here n e h; first_is = by_piece first other there n f k }

pub found_same : (now one first other : List Item) (here there n depth : ℕ) → Lent now one first other here there n → Compares depth (take n one) (take n other) Same → cited_inside depth (drop here now) ≡ cited_inside depth (drop there first)
found_same now one first other here there n depth l h = ap (cited_inside depth) l.now_is ∙ h _ _ ∙ sym (ap (cited_inside depth) l.first_is)

pub found_different : (now one first other : List Item) (here there n depth : ℕ) → Lent now one first other here there n → Compares depth (take n one) (take n other) Different → cited_inside depth (drop here now) ≢ cited_inside depth (drop there first)
found_different now one first other here there n depth l h e = h _ _ (sym (ap (cited_inside depth) l.now_is) ∙ e ∙ ap (cited_inside depth) l.first_is)

pub found_open : (now one first other : List Item) (here there n depth d : ℕ) → Lent now one first other here there n → Compares depth (take n one) (take n other) (Open d) →
    ((cited_inside d (drop (here + n) now) ≡ cited_inside d (drop (there + n) first)) ↔ (cited_inside depth (drop here now) ≡ cited_inside depth (drop there first)))
found_open now one first other here there n depth d l h =
    let k = h (drop (here + n) now) (drop (there + n) first) in (
      λ e. ap (cited_inside depth) l.now_is ∙ k.0 e ∙ sym (ap (cited_inside depth) l.first_is),
      λ e. k.1 (sym (ap (cited_inside depth) l.now_is) ∙ e ∙ ap (cited_inside depth) l.first_is),
    )
