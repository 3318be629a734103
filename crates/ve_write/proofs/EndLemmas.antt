-- A node that is kept has as many items as it had, and what follows it begins after them.
use Rattle.std.proofs.Common.{◌≡◌, ℕ, zero, suc, ◌+◌, ◌-◌, ◌<◌, ◌≤◌, Bool, true, false, List, [], ◌∷◌, length, take, drop, refl, sym, ap, subst, ◌∙◌, arith, Option, Some, None, drop-drop, length-drop, length-take-le}
use Rattle.std.specs.List.{list_any, slice_get}
use Rattle.std.proofs.lemmas.Bool.{and_parts}
use Rattle.ve_base.specs.declared.value.Value.{Value}
use Rattle.model_items.specs.declared.item.Item.{Item}
use Rattle.model_items.specs.declared.item.Item.TheVariants.{Char, Opening, Closing}
use Rattle.model_items.specs.declared.plain_item.PlainItem.{PlainItem}
use Rattle.model_items.specs.Plain.{plain_list, AreDistinct}
use Rattle.model_items.specs.Same.{list_same}
use Rattle.model_page.specs.References.{Body}
use Rattle.model_page.specs.declared.ref_table.RefRow.{RefRow}
use Rattle.model_page_write.specs.Nodes.{Carried, body_carried, carried_from, carried_items}
use Rattle.model_page_write.specs.PageText.{carried_same, is_kept, node_from, node_with, without_pre}
use Rattle.ve_origin.specs.Kept.{first_node, node_at, opens_notes, IsNodeRange}
use Rattle.ve_origin.specs.Origins.{items_had, FirstRead, Keeps}
use Rattle.ve_origin.proofs.SplitLemmas.{carried_drop, carried_length}
use Rattle.ve_write.specs.After.{Follows, IsNode}
use Rattle.ve_write.specs.Originals.{AreLent, IsBefore, IsLent}
use Rattle.ve_write.specs.Passing.{Inside}
use Rattle.ve_write.specs.Siblings.{is_end, AllCite}
use Rattle.ve_write.specs.declared.first_page.First.{First}
use Rattle.ve_write.proofs.AfterLemmas.{after_closing, after_list}
use Rattle.ve_write.proofs.BeforeLemmas.{plain_drop}
use Rattle.ve_write.proofs.DepthLemmas.{at_closing, at_end, over_char, over_closing, over_opening}
use Rattle.ve_write.proofs.OriginalLemmas.{all_cite, row_at}

-- ---- what stands at a position

stands : {A : Type 0} (xs : List A) (at : ℕ) (y : A) (ys : List A) → drop at xs ≡ y ∷ ys → slice_get xs at ≡ Some y
stands [] zero y ys e = cc
stands [] (suc at) y ys e = cc
stands (x ∷ xs) zero y ys e = let same : x ≡ y = cc in ap Some same
stands (x ∷ xs) (suc at) y ys e = stands xs at y ys e

behind : {A : Type 0} (xs : List A) (at : ℕ) (y : A) (ys : List A) → drop at xs ≡ y ∷ ys → drop (at + 1) xs ≡ ys
behind xs at y ys e = sym (drop-drop 1 at xs) ∙ ap (drop 1) e

-- ---- the items of a node, by their brackets

-- how many items there are up to the closing of the node that is open, where so many more are open
-- in it
abbrev count_from : ℕ → List Item → ℕ
count_from depth [] = 0
count_from depth (Char ch marks ∷ items) = suc (count_from depth items)
count_from depth (Opening kind generated head marks pre origin ∷ items) = suc (count_from (suc depth) items)
count_from zero (Closing kind pre ∷ items) = 1
count_from (suc depth) (Closing kind pre ∷ items) = suc (count_from depth items)

count_most : (depth : ℕ) (items : List Item) → count_from depth items ≤ length items
count_most depth [] = omega arith
count_most depth (Char ch marks ∷ items) = let most = count_most depth items in omega (arith, most)
count_most depth (Opening kind generated head marks pre origin ∷ items) = let most = count_most (suc depth) items in omega (arith, most)
count_most zero (Closing kind pre ∷ items) = omega arith
count_most (suc depth) (Closing kind pre ∷ items) = let most = count_most depth items in omega (arith, most)

node_long : (values : List Value) (bodies : ℕ → Option Body) (n depth : ℕ) (items : List Item) → length (node_from (carried_from bodies n (plain_list values items)) depth) ≡ count_from depth items
node_long values bodies n depth [] = refl
node_long values bodies n zero (Char ch marks ∷ items) = ap suc (node_long values bodies (suc n) zero items)
node_long values bodies n (suc depth) (Char ch marks ∷ items) = ap suc (node_long values bodies (suc n) (suc depth) items)
node_long values bodies n zero (Opening kind generated head marks pre origin ∷ items) = ap suc (node_long values bodies (suc n) 1 items)
node_long values bodies n (suc depth) (Opening kind generated head marks pre origin ∷ items) = ap suc (node_long values bodies (suc n) (suc (suc depth)) items)
node_long values bodies n zero (Closing kind pre ∷ items) = refl
node_long values bodies n (suc depth) (Closing kind pre ∷ items) = ap suc (node_long values bodies (suc n) depth items)

first_long : (values : List Value) (bodies : ℕ → Option Body) (n : ℕ) (x : Item) (items : List Item) → length (first_node (carried_from bodies n (plain_list values (x ∷ items)))) ≡ suc (count_from 0 items)
first_long values bodies n (Char ch marks) items = ap suc (node_long values bodies (suc n) 0 items)
first_long values bodies n (Opening kind generated head marks pre origin) items = ap suc (node_long values bodies (suc n) 0 items)
first_long values bodies n (Closing kind pre) items = ap suc (node_long values bodies (suc n) 0 items)

-- ---- where they end

closed_at : (items : List Item) (from at depth : ℕ) (rest : List Item) (to : ℕ) → drop at items ≡ rest → Inside items (from + 1) depth at → to ≡ at + count_from depth rest → IsNode items from to
closed_at items from at depth [] to e so is =
    let ends : to ≡ at + 0 = is in
    let same : at ≡ to = omega (arith, ends) in
    record {
      end = at;
      pre = None;
      inside = at_end items (from + 1) at depth e so;
      follows = subst (λ n. Follows items at (record { pre = None; at = n })) same (after_list items at e);
    }
closed_at items from at depth (Char ch marks ∷ rest) to e so is =
    let here = stands items at (Char ch marks) rest e in
    let ends : to ≡ at + suc (count_from depth rest) = is in
    closed_at items from (at + 1) depth rest to (behind items at (Char ch marks) rest e) (over_char items (from + 1) at depth depth (Char ch marks) ch marks here refl refl so) (omega (arith, ends))
closed_at items from at depth (Opening kind generated head marks pre origin ∷ rest) to e so is =
    let x = Opening kind generated head marks pre origin in
    let here = stands items at x rest e in
    let more : suc depth ≡ depth + 1 = omega arith in
    let ends : to ≡ at + suc (count_from (suc depth) rest) = is in
    closed_at items from (at + 1) (suc depth) rest to (behind items at x rest e) (over_opening items (from + 1) at depth (suc depth) x kind generated head marks pre origin here refl more so) (omega (arith, ends))
closed_at items from at zero (Closing kind pre ∷ rest) to e so is =
    let here = stands items at (Closing kind pre) rest e in
    let same : at + 1 ≡ to = sym is in
    record {
      end = at;
      pre = pre;
      inside = at_closing items (from + 1) at 0 (ap is_end e) refl so;
      follows = subst (λ n. Follows items at (record { pre = pre; at = n })) same (after_closing items at (Closing kind pre) kind pre here refl);
    }
closed_at items from at (suc depth) (Closing kind pre ∷ rest) to e so is =
    let here = stands items at (Closing kind pre) rest e in
    let ends : to ≡ at + suc (count_from depth rest) = is in
    closed_at items from (at + 1) depth rest to (behind items at (Closing kind pre) rest e) (over_closing items (from + 1) at (suc depth) depth (Closing kind pre) kind pre here refl refl so) (omega (arith, ends))

-- a node of so many items
pub record HasItems (items : List Item) (at count : ℕ) : Type 0 where
  pub more : 0 < count
  pub within : at + count ≤ length items
  pub node : IsNode items at (at + count)

has_items : (values : List Value) (bodies : ℕ → Option Body) (items : List Item) (at count : ℕ) (rest : List Item) → drop at items ≡ rest → length (first_node (carried_from bodies at (plain_list values rest))) ≡ count → 0 < count → HasItems items at count
has_items values bodies items at count [] e long some = let none : 0 ≡ count = long in absurd (omega (arith, none, some))
has_items values bodies items at count (x ∷ rest) e long some =
    let is : count ≡ suc (count_from 0 rest) = sym long ∙ first_long values bodies at x rest in
    let most = count_most 0 rest in
    let left : length (drop at items) ≡ suc (length rest) = ap length e in
    let room = length-drop at items in
    record {
      more = some;
      within = omega (arith, is, most, left, room);
      node = closed_at items at (at + 1) 0 rest (at + count) (behind items at x rest e) (λ v. refl) (omega (arith, is));
    }

node_is : (values : List Value) (items : List Item) (at : ℕ) → node_at (carried_items (plain_list values items)) at ≡ first_node (carried_from (body_carried (plain_list values items)) at (plain_list values (drop at items)))
node_is values items at =
    let bodies = body_carried (plain_list values items) in
    let z : 0 + at ≡ at = omega arith in
    ap first_node (
    carried_drop bodies 0 at (plain_list values items)
    ∙ ap (λ n. carried_from bodies n (drop at (plain_list values items))) z
    ∙ ap (carried_from bodies at) (sym (plain_drop values at items))
    )

-- ---- a node that is kept

same_long : {A : Type 0} (same : A → A → Bool) (xs ys : List A) → list_same same xs ys ≡ true → length xs ≡ length ys
same_long same [] [] e = refl
same_long same [] (y ∷ ys) e = cc
same_long same (x ∷ xs) [] e = cc
same_long same (x ∷ xs) (y ∷ ys) e = ap suc (same_long same xs ys (and_parts (same x y) (list_same same xs ys) e).1)

without_long : (cs : List Carried) → length (without_pre cs) ≡ length cs
without_long [] = refl
without_long (c ∷ cs) = refl

kept_long : (items first : List PlainItem) (at k from to : ℕ) → IsNodeRange first k from to → is_kept (carried_items first) k (node_at (carried_items items) at) ≡ true → length (node_at (carried_items items) at) ≡ to - from
kept_long items first at k from to range kept =
    let now = node_at (carried_items items) at in
    let was = node_with k (carried_items first) in
    let all = carried_length (body_carried first) 0 first in
    let within = range.within in
    let rest = length-drop from (carried_items first) in
    sym (without_long now) ∙ same_long carried_same (without_pre now) (without_pre was) kept ∙ without_long was ∙ ap length range.is
    ∙ length-take-le (to - from) (drop from (carried_items first)) (omega (arith, all, within, rest))

kept_has : (values : List Value) (items : List Item) (refs : List RefRow) (o : FirstRead) (at k count : ℕ) (kept : Bool) → k < length o.rows → IsLent values items refs o → AreDistinct values → AllCite values items →
    list_any opens_notes (take at (plain_list values items)) ≡ false → Keeps o k items at refs kept → kept ≡ true → count ≡ items_had (slice_get o.rows k) → HasItems items at count
kept_has values items refs o at k count kept has lent distinct cites before keeps answer counted =
    let row = row_at o.rows k has in
    let range = lent.first.ranges k row.0 row.1 in
    let known = keeps values row.0 distinct lent.first.cites (all_cite values items cites) row.1 range lent.first.refs before lent.rows in
    let long = kept_long (plain_list values items) (plain_list values o.items) at k row.0.from row.0.to range (sym known ∙ answer) in
    let had : row.0.to - row.0.from ≡ count = sym (counted ∙ ap items_had row.1) in
    let some = range.some in
    has_items values (body_carried (plain_list values items)) items at count (drop at items) refl (sym (ap length (node_is values items at)) ∙ long ∙ had) (omega (arith, had, some))

pub lent_has : (values : List Value) (items : List Item) (refs : List RefRow) (first : Option First) (f : First) (at k count : ℕ) (kept : Bool) → first ≡ Some f → k < length f.origins.now.rows → AreLent values items refs first → AreDistinct values → AllCite values items →
    IsBefore values items first at → Keeps f.origins.now k items at refs kept → kept ≡ true → count ≡ items_had (slice_get f.origins.now.rows k) → HasItems items at count
lent_has values items refs first f at k count kept is has lent distinct cites before keeps answer counted =
    kept_has values items refs f.origins.now at k count kept has (subst (AreLent values items refs) is lent) distinct cites (subst (λ x. IsBefore values items x at) is before) keeps answer counted
