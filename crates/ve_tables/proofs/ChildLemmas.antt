-- Nodes side by side, found one after the other by the partner of each opening.
use Rattle.std.specs.Prelude.{slice_get, cond, filter}
use Rattle.std.proofs.Common.{◌≡◌, ℕ, zero, suc, ◌+◌, ◌<◌, ◌≤◌, Bool, true, false, if◌then◌else◌, List, [], ◌∷◌, ◌++◌, length, drop, Some, refl, sym, ap, ◌∙◌, arith, length-drop}
use Rattle.std.proofs.lemmas.List.{drop_all, drop-drop}
use Rattle.std.proofs.lemmas.Bool.{true≢false}
use Rattle.ve_kinds.specs.declared.kind.Kind.{Kind}
use Rattle.ve_kinds.specs.Table.{is_among}
use Rattle.model_items.specs.declared.plain_item.PlainItem.{PlainItem}
use Rattle.model_items.specs.declared.plain_item.PlainItem.TheVariants.{Char, Opening, Closing}
use Rattle.model_items.specs.Tree.{Open, length_to_close}
use Rattle.model_items.specs.Offsets.{is_closing, partner, partner_of, siblings}
use Rattle.ve_tables.specs.Rows.{place_if_among, places_of}

close_within : (depth : ℕ) (items : List PlainItem) → length_to_close depth items ≤ length items
close_within depth [] = omega arith
close_within depth (Char c marks ∷ items) = let r = close_within depth items in omega arith
close_within depth (Opening kind head marks pre origin generated ∷ items) = let r = close_within (suc depth) items in omega arith
close_within zero (Closing kind pre ∷ items) = omega arith
close_within (suc depth) (Closing kind pre ∷ items) = let r = close_within depth items in omega arith

-- past the nodes that are open the siblings go on
siblings_closed : (depth at : ℕ) (items : List PlainItem) → siblings (suc depth) at items ≡ siblings 0 (at + length_to_close depth items) (drop (length_to_close depth items) items)
siblings_closed depth at [] = refl
siblings_closed depth at (Char c marks ∷ items) =
    let l = length_to_close depth items in
    let n : suc at + l ≡ at + suc l = omega arith in
    siblings_closed depth (suc at) items ∙ ap (λ k. siblings 0 k (drop l items)) n
siblings_closed depth at (Opening kind head marks pre origin generated ∷ items) =
    let l = length_to_close (suc depth) items in
    let n : suc at + l ≡ at + suc l = omega arith in
    siblings_closed (suc depth) (suc at) items ∙ ap (λ k. siblings 0 k (drop l items)) n
siblings_closed zero at (Closing kind pre ∷ items) =
    let n : suc at ≡ at + 1 = omega arith in
    ap (λ k. siblings 0 k items) n
siblings_closed (suc depth) at (Closing kind pre ∷ items) =
    let l = length_to_close depth items in
    let n : suc at + l ≡ at + suc l = omega arith in
    siblings_closed depth (suc at) items ∙ ap (λ k. siblings 0 k (drop l items)) n

dropped : (items : List PlainItem) (n : ℕ) (x : PlainItem) → slice_get items n ≡ Some x → drop n items ≡ x ∷ drop (suc n) items
dropped [] n x h = absurd (cc)
dropped (y ∷ items) zero x h = let same : y ≡ x = cc in ap (λ y. y ∷ items) same
dropped (y ∷ items) (suc n) x h = dropped items n x h

within : (items : List PlainItem) (n : ℕ) (x : PlainItem) → slice_get items n ≡ Some x → n < length items
within [] n x h = absurd (cc)
within (y ∷ items) zero x h = omega arith
within (y ∷ items) (suc n) x h = let less = within items n x h in omega arith

-- the positions of those of some kinds
abbrev pub among : List Kind → List Open → List ℕ
among kinds nodes = places_of (filter (λ (node : Open). is_among kinds node.kind) nodes)

-- the positions of the nodes of these kinds from a position on
abbrev pub places_from : List Kind → List PlainItem → ℕ → List ℕ
places_from kinds items place = among kinds (siblings 0 place (drop place items))

-- An item that is no closing, and then those after its node.
pub place_more : (kinds : List Kind) (items : List PlainItem) (place : ℕ) (item : PlainItem) → slice_get items place ≡ Some item → is_closing item ≡ false →
    places_from kinds items place ≡ place_if_among kinds place item ++ places_from kinds items (suc (partner items place))
place_more kinds items place (Char c marks) h open_ =
    let p : partner items place ≡ place = ap (λ o. partner_of o items place) h in
    ap (λ l. among kinds (siblings 0 place l)) (dropped items place (Char c marks) h) ∙ ap (λ n. places_from kinds items (suc n)) (sym p)
place_more kinds items place (Closing kind pre) h open_ = absurd (true≢false open_)
place_more kinds items place (Opening kind head marks pre origin generated) h open_ =
    let item = Opening kind head marks pre origin generated in
    let rest = drop (suc place) items in
    let l = length_to_close 0 rest in
    let p : partner items place ≡ place + l = ap (λ o. partner_of o items place) h in
    let n : suc place + l ≡ suc (partner items place) = omega arith in
    let later : siblings 1 (suc place) rest ≡ siblings 0 (suc (partner items place)) (drop (suc (partner items place)) items) =
    siblings_closed 0 (suc place) rest ∙ ap (λ v. siblings 0 (suc place + l) v) (drop-drop l (suc place) items) ∙ ap (λ k. siblings 0 k (drop k items)) n in
    ap (λ v. among kinds (siblings 0 place v)) (dropped items place item h)
    ∙ ap (λ v. among kinds (record { kind = kind; from = place } ∷ v)) later
    ∙ by (is_among kinds kind) (siblings 0 (suc (partner items place)) (drop (suc (partner items place)) items))
  where
    by : (b : Bool) (nodes : List Open) →
        places_of (cond b (record { kind = kind; from = place } ∷ filter (λ (node : Open). is_among kinds node.kind) nodes) (filter (λ (node : Open). is_among kinds node.kind) nodes))
        ≡ (if b then place ∷ [] else []) ++ among kinds nodes
    by true nodes = refl
    by false nodes = refl

-- A closing ends them,
pub place_closed : (kinds : List Kind) (items : List PlainItem) (place : ℕ) (item : PlainItem) → slice_get items place ≡ Some item → is_closing item ≡ true → places_from kinds items place ≡ []
place_closed kinds items place (Char c marks) h e = absurd (true≢false (sym e))
place_closed kinds items place (Opening kind head marks pre origin generated) h e = absurd (true≢false (sym e))
place_closed kinds items place (Closing kind pre) h e = ap (λ l. among kinds (siblings 0 place l)) (dropped items place (Closing kind pre) h)

-- and so does the list's end.
pub place_past : (kinds : List Kind) (items : List PlainItem) (place : ℕ) → length items ≤ place → places_from kinds items place ≡ []
place_past kinds items place past = ap (λ l. among kinds (siblings 0 place l)) (drop_all place items past)

-- The partner of an item that is no closing stands at it or after it, in the list.
pub record IsAfter (items : List PlainItem) (place : ℕ) : Type 0 where
  pub low : place ≤ partner items place
  pub high : partner items place < length items

pub partner_after : (items : List PlainItem) (place : ℕ) (item : PlainItem) → slice_get items place ≡ Some item → is_closing item ≡ false → IsAfter items place
partner_after items place (Char c marks) h open_ =
    let p : partner items place ≡ place = ap (λ o. partner_of o items place) h in
    let w = within items place (Char c marks) h in
    record { low = omega arith; high = omega arith }
partner_after items place (Closing kind pre) h open_ = absurd (true≢false open_)
partner_after items place (Opening kind head marks pre origin generated) h open_ =
    let rest = drop (suc place) items in
    let p : partner items place ≡ place + length_to_close 0 rest = ap (λ o. partner_of o items place) h in
    let w = within items place (Opening kind head marks pre origin generated) h in
    let c = close_within 0 rest in
    let n = length-drop (suc place) items in
    record { low = omega arith; high = omega arith }
