-- Bodies by value.
use Rattle.std.proofs.Common.{◌≡◌, ℕ, zero, suc, ◌↔◌, true, List, [], ◌∷◌, take, drop, refl, sym, ap, ◌∙◌, arith}
use Rattle.std.specs.List.{drop-map}
use Rattle.std.specs.Prelude.{Option, Some, None, All}
use Rattle.ve_base.specs.declared.value.Value.{Value}
use Rattle.model_items.specs.declared.item.Item.{Item}
use Rattle.model_items.specs.declared.item.Item.TheVariants.{Char, Opening, Closing}
use Rattle.model_items.specs.declared.plain_item.PlainItem.{PlainItem}
use Rattle.model_items.specs.Plain.{plain, plain_list, CitesWell, AreDistinct}
use Rattle.model_items.specs.Same.{list_same, option_same, item_same}
use Rattle.model_items.proofs.SameLemmas.{Means-list_same, Means-item_same}
use Rattle.model_page.specs.References.{Body, inside_from, place_of_body}
use Rattle.model_page_write.specs.PageText.{body_same}
use Rattle.ve_origin.specs.Bodies.{cited_inside, AreSameBodies}
use Rattle.ve_origin.proofs.NodeLemmas.{AreCiting, lists_apart}

pub all_citing : (values : List Value) (xs : List Item) → All (CitesWell values) xs → AreCiting values xs
all_citing values [] h = tt
all_citing values (x ∷ xs) h = (h 0 x (omega arith), all_citing values xs (λ k d less. h (suc k) d (omega (arith, less))))

pub citing_drop : (values : List Value) (n : ℕ) (xs : List Item) → AreCiting values xs → AreCiting values (drop n xs)
citing_drop values zero xs h = h
citing_drop values (suc n) [] h = tt
citing_drop values (suc n) (x ∷ xs) h = citing_drop values n xs h.1

pub citing_take : (values : List Value) (n : ℕ) (xs : List Item) → AreCiting values xs → AreCiting values (take n xs)
citing_take values zero xs h = tt
citing_take values (suc n) [] h = tt
citing_take values (suc n) (x ∷ xs) h = (h.0, citing_take values n xs h.1)

citing_inside : (values : List Value) (depth : ℕ) (xs : List Item) → AreCiting values xs → AreCiting values (cited_inside depth xs)
citing_inside values depth [] h = tt
citing_inside values zero (Closing kind pre ∷ xs) h = tt
citing_inside values (suc depth) (Closing kind pre ∷ xs) h = (h.0, citing_inside values depth xs h.1)
citing_inside values zero (Char ch marks ∷ xs) h = (h.0, citing_inside values zero xs h.1)
citing_inside values (suc depth) (Char ch marks ∷ xs) h = (h.0, citing_inside values (suc depth) xs h.1)
citing_inside values zero (Opening kind generated head marks pre origin ∷ xs) h = (h.0, citing_inside values 1 xs h.1)
citing_inside values (suc depth) (Opening kind generated head marks pre origin ∷ xs) h = (h.0, citing_inside values (suc (suc depth)) xs h.1)

inside_plain : (values : List Value) (depth : ℕ) (xs : List Item) → (inside_from depth (plain_list values xs)).0 ≡ plain_list values (cited_inside depth xs)
inside_plain values depth [] = refl
inside_plain values zero (Closing kind pre ∷ xs) = refl
inside_plain values (suc depth) (Closing kind pre ∷ xs) = ap (λ l. plain values (Closing kind pre) ∷ l) (inside_plain values depth xs)
inside_plain values zero (Char ch marks ∷ xs) = ap (λ l. plain values (Char ch marks) ∷ l) (inside_plain values zero xs)
inside_plain values (suc depth) (Char ch marks ∷ xs) = ap (λ l. plain values (Char ch marks) ∷ l) (inside_plain values (suc depth) xs)
inside_plain values zero (Opening kind generated head marks pre origin ∷ xs) = ap (λ l. plain values (Opening kind generated head marks pre origin) ∷ l) (inside_plain values 1 xs)
inside_plain values (suc depth) (Opening kind generated head marks pre origin ∷ xs) =
    ap (λ l. plain values (Opening kind generated head marks pre origin) ∷ l) (inside_plain values (suc (suc depth)) xs)

-- what a body's items are, by what stands in the list
abbrev pub IsInside : List PlainItem → Option Body → Type 0
IsInside items o = (b : Body) → o ≡ Some b → b.items ≡ (inside_from 0 (drop (suc b.at) items)).0

body_items : (values : List Value) (xs : List Item) (b : Body) → IsInside (plain_list values xs) (Some b) → b.items ≡ plain_list values (cited_inside 0 (drop (suc b.at) xs))
body_items values xs b h = h b refl ∙ ap (λ l. (inside_from 0 l).0) (drop-map (plain values) (suc b.at) xs) ∙ inside_plain values 0 (drop (suc b.at) xs)

both : (values : List Value) (now first : List Item) (a b : Body) → AreDistinct values → AreCiting values now → AreCiting values first → IsInside (plain_list values now) (Some a) → IsInside (plain_list values first) (Some b) →
    (cited_inside 0 (drop (suc a.at) now) ≡ cited_inside 0 (drop (suc b.at) first)) ↔ (body_same a b ≡ true)
both values now first a b d h k p q =
    let e = body_items values now a p in
    let f = body_items values first b q in
    let one = cited_inside 0 (drop (suc a.at) now) in
    let other = cited_inside 0 (drop (suc b.at) first) in (
      λ same. ap (λ l. list_same item_same l b.items) (e ∙ ap (plain_list values) same ∙ sym f) ∙ (Means-list_same item_same Means-item_same).itself b.items,
      λ same. lists_apart values one other d (citing_inside values 0 _ (citing_drop values (suc a.at) now h)) (citing_inside values 0 _ (citing_drop values (suc b.at) first k))
          (sym e ∙ (Means-list_same item_same Means-item_same).equal a.items b.items same ∙ f),
    )

-- Bodies that are carried are told apart by what their items cite.
pub bodies_decide : (values : List Value) (now first : List Item) (o p : Option Body) → AreDistinct values → AreCiting values now → AreCiting values first → IsInside (plain_list values now) o → IsInside (plain_list values first) p →
    AreSameBodies now first (place_of_body o) (place_of_body p) ↔ (option_same body_same o p ≡ true)
bodies_decide values now first None None d h k a b = (λ e. refl, λ e. tt)
bodies_decide values now first None (Some y) d h k a b = (λ e. absurd e, λ e. absurd cc)
bodies_decide values now first (Some x) None d h k a b = (λ e. absurd e, λ e. absurd cc)
bodies_decide values now first (Some x) (Some y) d h k a b = both values now first x y d h k a b
