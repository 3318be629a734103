-- What is cut out of a list, with what it carries there.
use Rattle.std.proofs.Common.{◌≡◌, ℕ, zero, suc, ◌+◌, ◌-◌, ◌≤◌, Bool, true, false, List, [], ◌∷◌, ◌++◌, length, take, drop, refl, sym, ap, ◌∙◌, arith, Option, Some, None}
use Rattle.std.specs.Prelude.{nat_lt, slice_range, option_map, if◌then◌else◌}
use Rattle.std.specs.List.{drop-map, take-map, list_all, slice_get}
use Rattle.std.proofs.lemmas.Bool.{and_parts, and_from, lt-ltb}
use Rattle.ve_base.specs.declared.value.Value.{Value}
use Rattle.model_items.specs.Law.{Lawful}
use Rattle.model_items.specs.Plain.{plain, plain_list}
use Rattle.model_items.specs.declared.item.Item.{Item}
use Rattle.model_items.specs.declared.plain_item.PlainItem.{PlainItem}
use Rattle.model_items.specs.declared.plain_item.PlainItem.TheVariants.{Char, Opening, Closing}
use Rattle.model_page.specs.Editable.{all_refer, item_refers}
use Rattle.model_page.specs.References.{Body, table}
use Rattle.model_page_write.specs.Nodes.{Carried, NodesEnding, Outer, body_carried, carried_from, first_outer, nodes_ending}
use Rattle.model_page_write.specs.PageText.{fresh_writer, html_of}
use Rattle.model_page_write.specs.Range.{fresh_range}
use Rattle.model_page_write.specs.Written.{blocks}
use Rattle.ve_offsets.proofs.UnmatchedLemmas.{closings_left, unmatched_is_left}
use Rattle.ve_origin.proofs.SplitLemmas.{carried_drop, carried_take}
use Rattle.ve_write.specs.BodyTexts.{text_by}
use Rattle.ve_write.specs.Originals.{originals_of}
use Rattle.ve_write.specs.Range.{in_range, AreSiblings, AreTextsIn}
use Rattle.ve_write.specs.Siblings.{View, AllCite, ending_at}
use Rattle.ve_write.specs.Told.{blocks_at, IsAppended}
use Rattle.ve_write.proofs.BodyLemmas.{none_in}
use Rattle.ve_write.proofs.CarriedLemmas.{carried_text}

-- ---- what holds of each item

get_take : {A : Type 0} (n k : ℕ) (xs : List A) (x : A) → slice_get (take n xs) k ≡ Some x → slice_get xs k ≡ Some x
get_take zero k xs x e = cc
get_take (suc n) k [] x e = cc
get_take (suc n) zero (y ∷ xs) x e = e
get_take (suc n) (suc k) (y ∷ xs) x e = get_take n k xs x e

get_drop : {A : Type 0} (n k : ℕ) (xs : List A) (x : A) → slice_get (drop n xs) k ≡ Some x → slice_get xs (n + k) ≡ Some x
get_drop zero k xs x e = let z : 0 + k ≡ k = omega arith in ap (slice_get xs) z ∙ e
get_drop (suc n) k [] x e = cc
get_drop (suc n) k (y ∷ xs) x e = let s : suc n + k ≡ suc (n + k) = omega arith in ap (slice_get (y ∷ xs)) s ∙ get_drop n k xs x e

pub cut_cites : (values : List Value) (items cut : List Item) (from to : ℕ) → AllCite values items → cut ≡ slice_range items from to → AllCite values cut
cut_cites values items cut from to cite is at item found =
    cite (from + at) item (get_drop from at items item (get_take (to - from) at (drop from items) item (ap (λ l. slice_get l at) (sym is) ∙ found)))

all_take : {A : Type 0} (test : A → Bool) (n : ℕ) (xs : List A) → list_all test xs ≡ true → list_all test (take n xs) ≡ true
all_take test zero xs h = refl
all_take test (suc n) [] h = refl
all_take test (suc n) (x ∷ xs) h = let p = and_parts (test x) _ h in and_from _ _ p.0 (all_take test n xs p.1)

all_drop : {A : Type 0} (test : A → Bool) (n : ℕ) (xs : List A) → list_all test xs ≡ true → list_all test (drop n xs) ≡ true
all_drop test zero xs h = h
all_drop test (suc n) [] h = refl
all_drop test (suc n) (x ∷ xs) h = all_drop test n xs (and_parts (test x) _ h).1

plain_cut : (values : List Value) (items : List Item) (from to : ℕ) → plain_list values (slice_range items from to) ≡ slice_range (plain_list values items) from to
plain_cut values items from to =
    sym (take-map (plain values) (to - from) (drop from items)) ∙ ap (take (to - from)) (sym (drop-map (plain values) from items))

pub cut_refers : (values : List Value) (items cut : List Item) (from to : ℕ) → all_refer (plain_list values items) ≡ true → cut ≡ slice_range items from to → all_refer (plain_list values cut) ≡ true
cut_refers values items cut from to refer is =
    ap (λ l. all_refer (plain_list values l)) is
    ∙ ap all_refer (plain_cut values items from to)
    ∙ all_take item_refers (to - from) (drop from (plain_list values items)) (all_drop item_refers from (plain_list values items) refer)

-- ---- what the items carry

-- by their positions in the range
moved : (bodies : ℕ → Option Body) (from to k : ℕ) (xs : List PlainItem) → k + length xs ≤ to - from → carried_from (in_range from to bodies) k xs ≡ carried_from bodies (from + k) xs
moved bodies from to k [] le = refl
moved bodies from to k (Char c marks ∷ xs) le =
    let e : from + suc k ≡ suc (from + k) = omega arith in
    ap (λ l. record { item = Char c marks; body = None } ∷ l) (moved bodies from to (suc k) xs (omega (arith, le)) ∙ ap (λ n. carried_from bodies n xs) e)
moved bodies from to k (Closing kind pre ∷ xs) le =
    let e : from + suc k ≡ suc (from + k) = omega arith in
    ap (λ l. record { item = Closing kind pre; body = None } ∷ l) (moved bodies from to (suc k) xs (omega (arith, le)) ∙ ap (λ n. carried_from bodies n xs) e)
moved bodies from to k (Opening kind head marks pre origin generated ∷ xs) le =
    let e : from + suc k ≡ suc (from + k) = omega arith in
    let here : nat_lt k (to - from) ≡ true = lt-ltb k (to - from) (omega (arith, le)) in
    let body : in_range from to bodies k ≡ bodies (from + k) = ap (λ b. if b then bodies (from + k) else None) here in
    let rest = moved bodies from to (suc k) xs (omega (arith, le)) ∙ ap (λ n. carried_from bodies n xs) e in
    (λ i. record { item = Opening kind head marks pre origin generated; body = body i } ∷ rest i)

length_take : {A : Type 0} (n : ℕ) (xs : List A) → length (take n xs) ≤ n
length_take zero xs = omega arith
length_take (suc n) [] = omega arith
length_take (suc n) (x ∷ xs) = let h = length_take n xs in omega (arith, h)

carried_cut : (bodies : ℕ → Option Body) (xs : List PlainItem) (from to : ℕ) → carried_from (in_range from to bodies) 0 (slice_range xs from to) ≡ slice_range (carried_from bodies 0 xs) from to
carried_cut bodies xs from to =
    let n : from + 0 ≡ 0 + from = omega arith in
    let short : length (slice_range xs from to) ≤ to - from = length_take (to - from) (drop from xs) in
    moved bodies from to 0 (slice_range xs from to) (omega (arith, short))
    ∙ ap (λ k. carried_from bodies k (slice_range xs from to)) n
    ∙ sym (carried_take bodies (0 + from) (to - from) (drop from xs))
    ∙ ap (take (to - from)) (sym (carried_drop bodies 0 from xs))

-- ---- a range of whole siblings closes nothing

less_one : {A : Type 0} (xs : List A) → length (drop 1 xs) ≡ length xs - 1
less_one [] = refl
less_one (x ∷ xs) = let e : length xs ≡ suc (length xs) - 1 = omega arith in e

outer_count : (bodies : ℕ → Option Body) (at : ℕ) (xs : List PlainItem) → length (nodes_ending (carried_from bodies at xs)).outer ≡ closings_left xs
outer_count bodies at [] = refl
outer_count bodies at (Char c marks ∷ xs) = outer_count bodies (suc at) xs
outer_count bodies at (Closing kind pre ∷ xs) = ap suc (outer_count bodies (suc at) xs)
outer_count bodies at (Opening kind head marks pre origin generated ∷ xs) =
    less_one (nodes_ending (carried_from bodies (suc at) xs)).outer ∙ ap (λ n. n - 1) (outer_count bodies (suc at) xs)

none_left : (outer : List Outer) → length outer ≡ 0 → outer ≡ []
none_left [] e = refl
none_left (o ∷ outer) e = cc

no_outer : (bodies : ℕ → Option Body) (items : List PlainItem) (from to : ℕ) → Lawful items → AreSiblings items from to → (nodes_ending (carried_from bodies 0 (slice_range items from to))).outer ≡ []
no_outer bodies items from to lawful are =
    let counts = sym (unmatched_is_left items from to lawful are.order are.within) ∙ are.matched in
    none_left _ (outer_count bodies 0 (slice_range items from to) ∙ ap (λ (c : ℕ × ℕ). c.0) counts)

-- ---- the text of a range

from_start : (v : View) (items : List Item) → ending_at v items 0 ≡ nodes_ending (carried_from v.bodies 0 (plain_list v.values items))
unfolding ending_at
from_start v items = refl

texts_known : (items : List PlainItem) (from to : ℕ) (texts : ℕ → Option (List ℕ)) → AreTextsIn items from to texts → (at : ℕ) → option_map html_of (in_range from to (body_carried items) at) ≡ texts at
texts_known items from to texts are at = by (nat_lt at (to - from)) ∙ are at
  where
    by : (b : Bool) → option_map html_of (if b then body_carried items (from + at) else None) ≡ (if b then text_by items (table items) (from + at) else None)
    by true = carried_text items (from + at)
    by false = refl

pub range_done : (values : List Value) (texts : ℕ → Option (List ℕ)) (items cut : List Item) (from to : ℕ) (old new : List ℕ) → Lawful (plain_list values items) → AreSiblings (plain_list values items) from to →
    cut ≡ slice_range items from to → AreTextsIn (plain_list values items) from to texts →
    IsAppended (record { values = values; items = cut; originals = originals_of None values cut; texts = texts }) old new (λ w v. blocks_at w v cut false 0) →
    new ≡ old ++ fresh_range (plain_list values items) from to
range_done values texts items cut from to old new lawful siblings is are so =
    let xs = plain_list values items in
    let bodies = in_range from to (body_carried xs) in
    let v : View = record { values = values; bodies = bodies } in
    let same : plain_list values cut ≡ slice_range xs from to = ap (plain_list values) is ∙ plain_cut values items from to in
    let cs = carried_from bodies 0 (slice_range xs from to) in
    let here = (nodes_ending cs).here in
    so fresh_writer bodies (record { original = λ at. none_in fresh_writer (λ start items. refl) (ending_at v cut at).here; known = texts_known xs from to texts are })
    ∙ ap (λ (e : NodesEnding). old ++ blocks fresh_writer false (first_outer e.outer).pre e.here) (from_start v cut ∙ ap (λ l. nodes_ending (carried_from bodies 0 l)) same)
    ∙ ap (λ o. old ++ blocks fresh_writer false (first_outer o).pre here) (no_outer bodies xs from to lawful siblings)
    ∙ ap (λ (l : List Carried). old ++ blocks fresh_writer false [] (nodes_ending l).here) (carried_cut (body_carried xs) xs from to)
