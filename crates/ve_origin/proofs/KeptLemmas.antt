-- Whether a node is kept.
use Rattle.std.proofs.Common.{◌≡◌, ℕ, suc, ◌+◌, ◌-◌, ◌<◌, ◌≤◌, true, false, List, [], ◌∷◌, length, take, drop, get_or, refl, sym, ap, ◌∙◌, arith, length-drop}
use Rattle.std.specs.Prelude.{Option}
use Rattle.std.specs.List.{list_any, slice_range, take-map, drop-map}
use Rattle.std.proofs.lemmas.List.{drop_more, length-take-le, length-map}
use Rattle.ve_base.specs.declared.value.Value.{Value}
use Rattle.model_items.specs.declared.item.Item.{Item}
use Rattle.model_items.specs.declared.plain_item.PlainItem.{PlainItem}
use Rattle.model_items.specs.Plain.{plain, plain_list, AreDistinct}
use Rattle.model_items.specs.Same.{list_same, item_same}
use Rattle.model_items.proofs.SameLemmas.{Means-list_same, Means-item_same}
use Rattle.model_page.specs.References.{Body}
use Rattle.model_page_write.specs.Nodes.{carried_from, carried_items, body_carried}
use Rattle.model_page_write.specs.PageText.{node_with, without_pre, carried_same, is_kept}
use Rattle.ve_origin.specs.Kept.{opens_notes, closes_last, first_node, node_at, IsNodeRange}
use Rattle.ve_origin.specs.Without.{first_without, first_plain}
use Rattle.ve_origin.proofs.NodeLemmas.{AreCiting, plain_front, apart_by_value}
use Rattle.ve_origin.proofs.PlaceLemmas.{none_opens}
use Rattle.ve_origin.proofs.CarryLemmas.{AreAlike, AllRows, same_by_places, places_by_same, rows_by_places, places_by_rows, range_long}
use Rattle.ve_origin.proofs.SplitLemmas.{body_for, AllSame, carried_first, carried_drop, carried_take, carried_length, carried_without, same_items, all_same, same_all, node_taken, node_closes}
use Rattle.ve_origin.proofs.ValueLemmas.{citing_drop, citing_take}

-- ---- ranges

plain_range : (values : List Value) (items : List Item) (from to : ℕ) → plain_list values (slice_range items from to) ≡ slice_range (plain_list values items) from to
plain_range values items from to = sym (take-map (plain values) (to - from) (drop from items)) ∙ ap (take (to - from)) (sym (drop-map (plain values) from items))

carried_range : (bodies : ℕ → Option Body) (from to : ℕ) (xs : List PlainItem) → slice_range (carried_from bodies 0 xs) from to ≡ carried_from bodies from (slice_range xs from to)
carried_range bodies from to xs =
    let z : 0 + from ≡ from = omega arith in
    ap (take (to - from)) (carried_drop bodies 0 from xs ∙ ap (λ n. carried_from bodies n (drop from xs)) z) ∙ carried_take bodies from (to - from) (drop from xs)

first_length : (xs : List PlainItem) → length (first_plain xs) ≡ length xs
first_length [] = refl
first_length (x ∷ xs) = refl

-- a range of one item or more, by its first item
pub record Begun (xs : List PlainItem) (from n : ℕ) : Type 0 where
  pub item : PlainItem
  pub rest : drop from xs ≡ item ∷ drop (suc from) xs
  pub range : slice_range xs from (from + n) ≡ item ∷ take (n - 1) (drop (suc from) xs)

begun : (xs : List PlainItem) (from n : ℕ) → from < length xs → 0 < n → (x : PlainItem) → Begun xs from n
begun xs from n within some x =
    let e : from + 1 ≡ suc from = omega arith in
    let d : drop from xs ≡ get_or xs from x ∷ drop (suc from) xs = drop_more xs from x within ∙ ap (λ k. get_or xs from x ∷ drop k xs) e in
    let m : from + n - from ≡ suc (n - 1) = omega (arith, some) in
    record { item = get_or xs from x; rest = d; range = ap (λ k. take k (drop from xs)) m ∙ ap (take (suc (n - 1))) d }

tail_is : (x y : PlainItem) (xs ys : List PlainItem) → first_plain (x ∷ xs) ≡ first_plain (y ∷ ys) → xs ≡ ys
tail_is x y xs ys e = cc

-- ---- the node at a position

first_node_is : (bodies : ℕ → Option Body) (at n : ℕ) (x : PlainItem) (xs : List PlainItem) → closes_last 0 (take n xs) ≡ true → first_node (carried_from bodies at (x ∷ xs)) ≡ carried_from bodies at (x ∷ take n xs)
first_node_is bodies at n x xs h =
    ap first_node (carried_first bodies at x xs)
    ∙ ap (λ l. record { item = x; body = body_for (bodies at) x } ∷ l) (node_closes bodies (suc at) n 0 xs h)
    ∙ sym (carried_first bodies at x (take n xs))

-- whatever stands there, the node is a range
pub record NodeTaken (bodies : ℕ → Option Body) (xs : List PlainItem) (from : ℕ) : Type 0 where
  pub count : ℕ
  pub within : count ≤ length (drop from xs)
  pub is : node_at (carried_from bodies 0 xs) from ≡ carried_from bodies from (take count (drop from xs))

node_range : (bodies : ℕ → Option Body) (xs : List PlainItem) (from : ℕ) → NodeTaken bodies xs from
node_range bodies xs from = by (drop from xs) refl
  where
    start : node_at (carried_from bodies 0 xs) from ≡ first_node (carried_from bodies from (drop from xs))
    start = let z : 0 + from ≡ from = omega arith in ap first_node (carried_drop bodies 0 from xs ∙ ap (λ n. carried_from bodies n (drop from xs)) z)

    by : (l : List PlainItem) → l ≡ drop from xs → NodeTaken bodies xs from
    by [] e = record { count = 0; within = omega arith; is = start ∙ ap (λ m. first_node (carried_from bodies from m)) (sym e) }
    by (x ∷ l) e =
        let t = node_taken (carried_from bodies (suc from) l) 0 in
        let w = t.within in
        let long = carried_length bodies (suc from) l in
        let len : suc (length l) ≡ length (drop from xs) = ap length e in
        record {
          count = suc t.count;
          within = omega (arith, w, long, len);
          is = start ∙ ap (λ m. first_node (carried_from bodies from m)) (sym e) ∙ ap first_node (carried_first bodies from x l) ∙ ap (λ m. record { item = x; body = body_for (bodies from) x } ∷ m) t.is
              ∙ ap (λ m. take (suc t.count) m) (sym (carried_first bodies from x l)) ∙ carried_take bodies from (suc t.count) (x ∷ l) ∙ ap (λ m. carried_from bodies from (take (suc t.count) m)) e;
        }

-- ---- both

module _ (values : List Value) (now first : List Item) (k from a n : ℕ) (distinct : AreDistinct values) (cites : AreCiting values now) (cites_first : AreCiting values first) where
  abbrev pub xs : List PlainItem
  xs = plain_list values now

  abbrev pub ys : List PlainItem
  ys = plain_list values first

  abbrev pub Kept : Type 0
  Kept = is_kept (carried_items ys) k (node_at (carried_items xs) from) ≡ true

  -- what is found of the node: it has room, the same items, and carries the same
  pub record IsFound : Type 0 where
    pub room : from + n ≤ length now
    pub items : first_without (slice_range now from (from + n)) ≡ first_without (slice_range first a (a + n))
    pub all : AllRows values now first from a n distinct cites cites_first

  first_side : IsNodeRange ys k a (a + n) → without_pre (node_with k (carried_items ys)) ≡ carried_from (body_carried ys) a (first_plain (slice_range ys a (a + n)))
  first_side range = ap without_pre (range.is ∙ carried_range (body_carried ys) a (a + n) ys) ∙ carried_without (body_carried ys) a (slice_range ys a (a + n))

  alike : IsNodeRange ys k a (a + n) → list_any opens_notes (take from xs) ≡ false → from + n ≤ length now → first_plain (slice_range xs from (from + n)) ≡ first_plain (slice_range ys a (a + n)) → AreAlike xs ys from a n
  alike range outside room same =
      let long = length-map now (plain values) in
      record {
        here = omega (arith, room, long);
        there = range.within;
        same = same;
        outside = none_opens xs ys from a n outside range.outside same;
        outside_first = range.outside;
      }

  pub kept_where_found : IsNodeRange ys k a (a + n) → list_any opens_notes (take from xs) ≡ false → IsFound → Kept
  kept_where_found range outside f =
      let same : first_plain (slice_range xs from (from + n)) ≡ first_plain (slice_range ys a (a + n)) =
      ap first_plain (sym (plain_range values now from (from + n))) ∙ sym (plain_front values (slice_range now from (from + n))) ∙ ap (plain_list values) f.items
      ∙ plain_front values (slice_range first a (a + n)) ∙ ap first_plain (plain_range values first a (a + n)) in
      let both = alike range outside f.room same in
      let some : 0 < n = let s = range.some in omega (arith, s) in
      let h = both.here in
      let t = both.there in
      let x = begun xs from n (omega (arith, h, some)) some (default xs (omega (arith, h, some))) in
      let y = begun ys a n (omega (arith, t, some)) some (default ys (omega (arith, t, some))) in
      let tails : take (n - 1) (drop (suc from) xs) ≡ take (n - 1) (drop (suc a) ys) = tail_is x.item y.item _ _ (sym (ap first_plain x.range) ∙ same ∙ ap first_plain y.range) in
      let m : a + n - suc a ≡ n - 1 = omega arith in
      let closes : closes_last 0 (take (n - 1) (drop (suc from) xs)) ≡ true = ap (closes_last 0) (tails ∙ ap (λ j. take j (drop (suc a) ys)) (sym m)) ∙ range.closes in
      let z : 0 + from ≡ from = omega arith in
      let node : node_at (carried_items xs) from ≡ carried_from (body_carried xs) from (slice_range xs from (from + n)) =
      ap first_node (carried_drop (body_carried xs) 0 from xs ∙ ap (λ j. carried_from (body_carried xs) j (drop from xs)) z ∙ ap (carried_from (body_carried xs) from) x.rest)
      ∙ first_node_is (body_carried xs) from (n - 1) x.item (drop (suc from) xs) closes ∙ sym (ap (carried_from (body_carried xs) from) x.range) in
      let one : without_pre (node_at (carried_items xs) from) ≡ carried_from (body_carried xs) from (first_plain (slice_range xs from (from + n))) =
      ap without_pre node ∙ carried_without (body_carried xs) from (slice_range xs from (from + n)) in
      let places = places_by_rows values now first from a n distinct cites cites_first both f.all in
      let every = same_by_places values now first from a n distinct cites cites_first both places in
      ap (λ l. list_same carried_same l (without_pre (node_with k (carried_items ys)))) one
      ∙ ap (list_same carried_same (carried_from (body_carried xs) from (first_plain (slice_range xs from (from + n))))) (first_side range ∙ ap (carried_from (body_carried ys) a) (sym same))
      ∙ all_same (body_carried xs) (body_carried ys) from a (first_plain (slice_range xs from (from + n))) every
    where
      default : (l : List PlainItem) → 0 < length l → PlainItem
      default [] h = absurd (omega (arith, h))
      default (x ∷ l) h = x

  pub found_where_kept : IsNodeRange ys k a (a + n) → list_any opens_notes (take from xs) ≡ false → Kept → IsFound
  found_where_kept range outside kept =
      let t = node_range (body_carried xs) xs from in
      let taken = take t.count (drop from xs) in
      let bodies = sym (ap (λ l. list_same carried_same l (without_pre (node_with k (carried_items ys)))) (ap without_pre t.is ∙ carried_without (body_carried xs) from taken)
      ∙ ap (list_same carried_same (carried_from (body_carried xs) from (first_plain taken))) (first_side range)) ∙ kept in
      let items = same_items (body_carried xs) (body_carried ys) from a (first_plain taken) (first_plain (slice_range ys a (a + n))) bodies in
      let equal : first_plain taken ≡ first_plain (slice_range ys a (a + n)) = (Means-list_same item_same Means-item_same).equal _ _ items in
      let w = t.within in
      let count : t.count ≡ n = sym (length-take-le t.count (drop from xs) w) ∙ sym (first_length taken) ∙ ap length equal ∙ first_length (slice_range ys a (a + n)) ∙ range_long ys a n range.within in
      let m : n ≡ from + n - from = omega arith in
      let is : taken ≡ slice_range xs from (from + n) = ap (λ j. take j (drop from xs)) (count ∙ m) in
      let same : first_plain (slice_range xs from (from + n)) ≡ first_plain (slice_range ys a (a + n)) = sym (ap first_plain is) ∙ equal in
      let some : 0 < n = let s = range.some in omega (arith, s) in
      let long = length-map now (plain values) in
      let rest = length-drop from xs in
      let room : from + n ≤ length now = omega (arith, w, count, long, rest, some) in
      let both = alike range outside room same in
      let every : AllSame (body_carried xs) (body_carried ys) from a (first_plain (slice_range xs from (from + n))) =
      same_all (body_carried xs) (body_carried ys) from a _
      (ap (λ l. list_same carried_same (carried_from (body_carried xs) from (first_plain l)) (carried_from (body_carried ys) a (first_plain (slice_range xs from (from + n))))) (sym is)
      ∙ ap (λ l. list_same carried_same (carried_from (body_carried xs) from (first_plain taken)) (carried_from (body_carried ys) a l)) same ∙ bodies) in
      let values_same : list_same item_same (first_plain (plain_list values (slice_range now from (from + n)))) (first_plain (plain_list values (slice_range first a (a + n)))) ≡ true =
      ap (λ l. list_same item_same (first_plain l) (first_plain (plain_list values (slice_range first a (a + n))))) (plain_range values now from (from + n) ∙ sym is)
      ∙ ap (λ l. list_same item_same (first_plain taken) (first_plain l)) (plain_range values first a (a + n)) ∙ items in
      record {
        room = room;
        items = apart_by_value values (slice_range now from (from + n)) (slice_range first a (a + n)) distinct (citing_take values (from + n - from) _ (citing_drop values from now cites))
            (citing_take values (a + n - a) _ (citing_drop values a first cites_first)) values_same;
        all = rows_by_places values now first from a n distinct cites cites_first (places_by_same values now first from a n distinct cites cites_first both every);
      }
