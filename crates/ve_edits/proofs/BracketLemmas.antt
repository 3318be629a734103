-- Partners of brackets, by the innermost node round an offset.
use Rattle.std.proofs.Common.{◌≡◌, ◌≤◌, ◌<◌, ℕ, zero, suc, ◌+◌, Some, List, [], ◌∷◌, ◌++◌, length, map, take, drop, slice_get, All, refl, sym, ap, ◌∙◌, subst, arith, length-drop}
use Rattle.std.proofs.lemmas.List.{take-map, drop-map, length-take-le, length-map}
use Rattle.std.proofs.lemmas.Option.{get_or_from_slice_get, slice_get_within}
use Rattle.ve_kinds.specs.declared.kind.Kind.{Kind}
use Rattle.ve_base.specs.declared.value.Value.{Value}
use Rattle.model_items.specs.declared.item.Item.{Item}
use Rattle.model_items.specs.declared.item.Item.TheVariants as item
use Rattle.model_items.specs.declared.plain_item.PlainItem.{PlainItem}
use Rattle.model_items.specs.declared.plain_item.PlainItem.TheVariants.{Char, Opening, Closing}
use Rattle.model_items.specs.Plain.{plain, plain_list, CitesWell}
use Rattle.model_items.specs.Tree.{Open, opens_with, opens_after, length_to_close, place_with, node_at}
use Rattle.model_items.specs.Offsets.{opens_at, first_from, partner_of, partner}
use Rattle.model_items.specs.Law.{Lawful, finish}
use Rattle.model_items.proofs.LawLemmas.{after_from_Lawful}
use Rattle.model_items.proofs.NodeAtLemmas.{open_is_stack}
use Rattle.std.proofs.lemmas.List.{take_all}
use Rattle.ve_tree.specs.IsTree.{unvalued}
use Rattle.ve_offsets.proofs.UnmatchedLemmas.{opens_append}

-- the open nodes and their ends read no values
opens_plain : (values : List Value) (items : List Item) (opens : List Open) (at : ℕ) → opens_after opens at (plain_list values items) ≡ opens_after opens at (unvalued items)
opens_plain values [] opens at = refl
opens_plain values (item.Char ch marks ∷ items) opens at = opens_plain values items opens (suc at)
opens_plain values (item.Opening kind generated head marks pre origin ∷ items) opens at = opens_plain values items (record { kind = kind; from = at } ∷ opens) (suc at)
opens_plain values (item.Closing kind pre ∷ items) opens at = opens_plain values items (drop 1 opens) (suc at)

close_plain : (values : List Value) (items : List Item) (depth : ℕ) → length_to_close depth (plain_list values items) ≡ length_to_close depth (unvalued items)
close_plain values [] depth = refl
close_plain values (item.Char ch marks ∷ items) depth = ap (λ n. suc n) (close_plain values items depth)
close_plain values (item.Opening kind generated head marks pre origin ∷ items) depth = ap (λ n. suc n) (close_plain values items (suc depth))
close_plain values (item.Closing kind pre ∷ items) zero = refl
close_plain values (item.Closing kind pre ∷ items) (suc depth) = ap (λ n. suc n) (close_plain values items depth)

pub opens_at-plain : (values : List Value) (items : List Item) (at : ℕ) → opens_at (plain_list values items) at ≡ opens_at (unvalued items) at
opens_at-plain values items at =
    ap (opens_after [] 0) (take-map (plain values) at items) ∙ opens_plain values (take at items) [] 0 ∙ ap (opens_after [] 0) (sym (take-map (plain []) at items))

pub slice_get-plain : (values : List Value) (items : List Item) (at : ℕ) (x : Item) → slice_get items at ≡ Some x → slice_get (plain_list values items) at ≡ Some (plain values x)
slice_get-plain values [] at x h = absurd (cc)
slice_get-plain values (y ∷ items) zero x h = let same : y ≡ x = cc in ap (λ y. Some (plain values y)) same
slice_get-plain values (y ∷ items) (suc at) x h = slice_get-plain values items at x h

pub cites_there : (values : List Value) (items : List Item) (at : ℕ) (x : Item) → All (CitesWell values) items → slice_get items at ≡ Some x → CitesWell values x
cites_there values items at x all h = subst (CitesWell values) (get_or_from_slice_get items at x x h) (all at x (slice_get_within items at x h))

-- a list up to and with an item
pub taken : (items : List PlainItem) (m : ℕ) (x : PlainItem) → slice_get items m ≡ Some x → take (suc m) items ≡ take m items ++ x ∷ []
taken [] m x h = absurd (cc)
taken (y ∷ items) zero x h = let same : y ≡ x = cc in ap (λ y. y ∷ []) same
taken (y ∷ items) (suc m) x h = ap (λ l. y ∷ l) (taken items m x h)

pub within : (items : List PlainItem) (m : ℕ) (x : PlainItem) → slice_get items m ≡ Some x → m < length items
within [] m x h = absurd (cc)
within (y ∷ items) zero x h = omega arith
within (y ∷ items) (suc m) x h = let less = within items m x h in omega arith

-- one item more
pub opens_at-suc : (items : List PlainItem) (at : ℕ) (x : PlainItem) → slice_get items at ≡ Some x → opens_at items (suc at) ≡ opens_with x at (opens_at items at)
opens_at-suc items at x h =
    let less = within items at x h in
    let n : 0 + length (take at items) ≡ at = omega (arith, length-take-le at items) in
    ap (opens_after [] 0) (taken items at x h) ∙ opens_append [] 0 (take at items) (x ∷ []) ∙ ap (λ n. opens_with x n (opens_at items at)) n

-- where the innermost node that is open at an offset begins
pub node_at-from : (items : List PlainItem) (at : ℕ) → (node_at items at).from ≡ first_from (opens_at items at)
node_at-from items at = by (opens_at items at) (drop at items)
  where
    by : (opens : List Open) (rest : List PlainItem) → (place_with opens at rest).from ≡ first_from opens
    by [] rest = refl
    by (inner ∷ outer) rest = refl

-- just past where a node ends, by the offset after its opening
node_at-to : (items : List PlainItem) (at : ℕ) (kind : Kind) (outer : List Open) → opens_at items (suc at) ≡ record { kind = kind; from = at } ∷ outer →
    (node_at items (suc at)).to ≡ suc at + length_to_close 0 (drop (suc at) items)
node_at-to items at kind outer h = ap (λ o. (place_with o (suc at) (drop (suc at) items)).to) h

pub partner-Char : (values : List Value) (items : List Item) (at : ℕ) (x : Item) (ch : ℕ) (marks : _) → slice_get items at ≡ Some x → x ≡ item.Char ch marks → partner (plain_list values items) at ≡ at
partner-Char values items at x ch marks h is =
    ap (λ o. partner_of o (plain_list values items) at) (slice_get-plain values items at x h ∙ ap (λ y. Some (plain values y)) is)

pub partner-Closing : (values : List Value) (items : List Item) (at : ℕ) (x : Item) (kind : Kind) (pre : _) → slice_get items at ≡ Some x → x ≡ item.Closing kind pre →
    partner (plain_list values items) at ≡ (node_at (unvalued items) at).from
partner-Closing values items at x kind pre h is =
    ap (λ o. partner_of o (plain_list values items) at) (slice_get-plain values items at x h ∙ ap (λ y. Some (plain values y)) is)
    ∙ ap first_from (opens_at-plain values items at)
    ∙ sym (node_at-from (unvalued items) at)

pub partner-Opening : (values : List Value) (items : List Item) (at : ℕ) (x : Item) (kind : Kind) (generated : _) (head marks pre : _) (origin : _) → slice_get items at ≡ Some x →
    x ≡ item.Opening kind generated head marks pre origin →
    suc (partner (plain_list values items) at) ≡ (node_at (unvalued items) (suc at)).to
partner-Opening values items at x kind generated head marks pre origin h is =
    let opening = plain [] (item.Opening kind generated head marks pre origin) in
    let here : slice_get (unvalued items) at ≡ Some opening = slice_get-plain [] items at x h ∙ ap (λ y. Some (plain [] y)) is in
    let opens = opens_at-suc (unvalued items) at opening here in
    let to = node_at-to (unvalued items) at kind (opens_at (unvalued items) at) opens in
    let close : length_to_close 0 (drop (suc at) (plain_list values items)) ≡ length_to_close 0 (drop (suc at) (unvalued items)) =
    ap (length_to_close 0) (drop-map (plain values) (suc at) items) ∙ close_plain values (drop (suc at) items) 0 ∙ ap (length_to_close 0) (sym (drop-map (plain []) (suc at) items)) in
    let other : partner (plain_list values items) at ≡ at + length_to_close 0 (drop (suc at) (plain_list values items)) =
    ap (λ o. partner_of o (plain_list values items) at) (slice_get-plain values items at x h ∙ ap (λ y. Some (plain values y)) is) in
    let sum : suc (at + length_to_close 0 (drop (suc at) (plain_list values items))) ≡ suc at + length_to_close 0 (drop (suc at) (unvalued items)) = omega (arith, close) in
    ap (λ n. suc n) other ∙ sum ∙ sym to

close_within : (items : List PlainItem) (depth : ℕ) → length_to_close depth items ≤ length items
close_within [] depth = omega arith
close_within (Char c marks ∷ items) depth = let more = close_within items depth in omega arith
close_within (Opening kind head marks pre origin generated ∷ items) depth = let more = close_within items (suc depth) in omega arith
close_within (Closing kind pre ∷ items) zero = omega arith
close_within (Closing kind pre ∷ items) (suc depth) = let more = close_within items depth in omega arith

-- an opening's partner stands after it, in the list
pub partner_after : (values : List Value) (items : List Item) (at : ℕ) (x : Item) (kind : Kind) (generated : _) (head marks pre : _) (origin : _) → slice_get items at ≡ Some x →
    x ≡ item.Opening kind generated head marks pre origin →
    (at ≤ partner (plain_list values items) at) × (partner (plain_list values items) at < length items)
partner_after values items at x kind generated head marks pre origin h is =
    let all = plain_list values items in
    let here : slice_get all at ≡ Some (plain values (item.Opening kind generated head marks pre origin)) = slice_get-plain values items at x h ∙ ap (λ y. Some (plain values y)) is in
    let less = within all at (plain values (item.Opening kind generated head marks pre origin)) here in
    let n = length-map items (plain values) in
    let other : partner all at ≡ at + length_to_close 0 (drop (suc at) all) = ap (λ o. partner_of o all at) here in
    let room = close_within (drop (suc at) all) 0 in
    let left = length-drop (suc at) all in
    (omega arith, omega arith)

close_some : (items : List PlainItem) → 0 < length items → 0 < length_to_close 0 items
close_some [] some = some
close_some (Char c marks ∷ items) some = omega arith
close_some (Opening kind head marks pre origin generated ∷ items) some = omega arith
close_some (Closing kind pre ∷ items) some = omega arith

-- in a lawful list no opening is the last item
opening_not_last : (items : List PlainItem) (at : ℕ) (kind : Kind) (outer : List Open) → Lawful items → at < length items → opens_at items (suc at) ≡ record { kind = kind; from = at } ∷ outer → suc at < length items
opening_not_last items at kind outer lawful below opens =
    let last : length items ≤ suc at → ⊥ = λ done.
    let whole : take (suc at) items ≡ items = take_all (suc at) items done in
    let kinds = open_is_stack items finish (after_from_Lawful items lawful) in
    let here : kind ∷ map (λ (o : Open). o.kind) outer ≡ [] =
    ap (map (λ (o : Open). o.kind)) (sym opens) ∙ ap (λ l. map (λ (o : Open). o.kind) (opens_after [] 0 l)) whole ∙ kinds in
    cc in
    omega arith

-- so an opening's partner stands past it
pub partner_past : (values : List Value) (items : List Item) (at : ℕ) (x : Item) (kind : Kind) (generated : _) (head marks pre : _) (origin : _) → Lawful (unvalued items) → slice_get items at ≡ Some x →
    x ≡ item.Opening kind generated head marks pre origin → at < partner (plain_list values items) at
partner_past values items at x kind generated head marks pre origin lawful h is =
    let opening = plain [] (item.Opening kind generated head marks pre origin) in
    let here : slice_get (unvalued items) at ≡ Some opening = slice_get-plain [] items at x h ∙ ap (λ y. Some (plain [] y)) is in
    let opens = opens_at-suc (unvalued items) at opening here in
    let less = opening_not_last (unvalued items) at kind (opens_at (unvalued items) at) lawful (within (unvalued items) at opening here) opens in
    let other = partner-Opening values items at x kind generated head marks pre origin h is in
    let to = node_at-to (unvalued items) at kind (opens_at (unvalued items) at) opens in
    let some = close_some (drop (suc at) (unvalued items)) (omega (arith, length-drop (suc at) (unvalued items))) in
    omega arith
