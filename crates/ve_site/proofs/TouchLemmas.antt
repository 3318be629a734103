-- A transaction touches no more nodes than its list has items, with those that it inserts.
use Rattle.std.proofs.Common.{◌≡◌, ◌≤◌, ◌<◌, ℕ, zero, suc, ◌+◌, ◌-◌, Bool, true, false, not, ◌&&◌, ◌||◌, ◌==◌, nat_lt, if◌then◌else◌, List, [], ◌∷◌, length, map, slice_get, All, Contains, sum_by, count_by, Option, Some, None, option_map, Ok, Err, inl, inr, refl, sym, ap, ◌∙◌, subst, arith}
use Rattle.std.specs.List.{list_any}
use Rattle.std.proofs.lemmas.List.Folds.{list_any_at}
use Rattle.std.proofs.lemmas.Bool.{and_parts, cases_Bool, eqb-true, eq-eqb, le-leb, lt-ltb, le-ltb, not-true}
use Rattle.std.proofs.lemmas.List.{length-append, length-map}
use Rattle.std.proofs.lemmas.List.Sums.{sum_by-cons}
use Rattle.std.proofs.lemmas.List.Elements.{All-nil, All-cons, All-contains_itself}
use Rattle.std.proofs.lemmas.Option.{slice_get-map, slice_get_within}
use Rattle.ve_kinds.specs.declared.kind.Kind.{Kind}
use Rattle.ve_kinds.specs.declared.kind.Kind.TheVariants.{InternalList}
use Rattle.ve_kinds.specs.Table.{is_content_branch, kind_same}
use Rattle.ve_base.specs.Limits.{max_open_kinds}
use Rattle.model_items.specs.declared.law_fault.LawFault.{LawFault}
use Rattle.model_items.specs.declared.law_fault.LawFault.TheVariants.{Unlawful, TooDeep}
use Rattle.model_items.specs.declared.plain_item.PlainItem.{PlainItem}
use Rattle.model_items.specs.declared.plain_item.PlainItem.TheVariants.{Char, Opening, Closing}
use Rattle.model_items.specs.Law.{State, start, finish, top, state_opened, may_open, is_over, after, step, Lawful}
use Rattle.model_items.specs.Tree.{tree_of, item_count, Shape, Letter, Begin, End, shape_of}
use Rattle.model_items.proofs.LawLemmas.{after_from_Lawful, joined-ok}
use Rattle.model_items.proofs.OnlyLemmas.{tree_has_whole_runs}
use Rattle.model_items.proofs.TreeLemmas.{tree_spells}
use Rattle.model_change.specs.Fault.{Applies}
use Rattle.model_change.specs.Inverse.{inverse}
use Rattle.model_change.specs.Touch.{NodeName, TheRoot, Opened, Text, Node, Seen, nodes_from, nodes_of, new_place, or_next, first_retained, image, seen_by, lies_in, match_by, matches, is_alike, touch}
use Rattle.model_change.specs.Transaction.{Transaction, Retain, Replace, Attribute, all_inserted, edited, old_length, new_length}
use Rattle.model_change.proofs.Fits.{parts_of_Applies, gives_new_length}
use Rattle.model_change.proofs.TouchLemmas.{retained_stays}
use Rattle.ve_site.proofs.TotalLemmas.{as_one, one_at_most, fewer_both, sum-mapped, sum-pairs, found, once, total, total-append, total-both, total-at, total-small, count_by_places}
use Rattle.ve_site.proofs.SpellLemmas.{IsSpelled, IsSpelledAs, nodes_spelled, spans, one_each}

-- ---- a node matches one of the other tree at most

match_text : (name : NodeName) (there : Option ℕ) (count at count' : ℕ) (there' : Option ℕ) → as_one (match_by name there count (Text at) there' count') ≤ spans there at count'
match_text TheRoot there count at count' there' = omega arith
match_text (Opened a) there count at count' there' = omega arith
match_text (Text a) there count at count' there' = fewer_both (lies_in there at count') (lies_in there' a count)

match_opened : (name : NodeName) (there : Option ℕ) (count at count' : ℕ) (there' : Option ℕ) → as_one (match_by name there count (Opened at) there' count') ≤ spans there at 1
match_opened TheRoot there count at count' there' = omega arith
match_opened (Opened a) there count at count' there' = omega arith
match_opened (Text a) there count at count' there' = omega arith

match_root : (name : NodeName) (there : Option ℕ) (count n m : ℕ) (there' : Option ℕ) → (name ≡ TheRoot → there ≡ None) →
    as_one (match_by name there count TheRoot there' m) + spans there 0 n ≤ 1
match_root TheRoot there count n m there' none = let e : spans there 0 n ≡ 0 = ap (λ o. spans o 0 n) (none refl) in omega (arith, e)
match_root (Opened a) there count n m there' none = let one = one_at_most (lies_in there 0 n) in omega (arith, one)
match_root (Text a) there count n m there' none = let one = one_at_most (lies_in there 0 n) in omega (arith, one)

-- the nodes but for the root
abbrev inner : List PlainItem → List Node
inner items = nodes_from TheRoot 0 (tree_of items)

abbrev root_of : List PlainItem → Node
root_of items = record { name = TheRoot; parent = TheRoot; count = length items }

one_match : (u : Transaction) (items : List PlainItem) (o : Seen) → (o.node.name ≡ TheRoot → o.there ≡ None) → count_by (λ n. matches o n) (map (seen_by u) (nodes_of items)) ≤ 1
one_match u items o none =
    let w : Node → ℕ = λ n. as_one (matches o (seen_by u n)) in
    let all : count_by (λ n. matches o n) (map (seen_by u) (nodes_of items)) ≡ sum_by w (nodes_of items) = sum-mapped (seen_by u) (λ n. as_one (matches o n)) (nodes_of items) in
    let rest = one_each o.there w (λ parent at count some. match_text o.node.name o.there o.node.count at count (image u (Text at) count))
    (λ parent at count. match_opened o.node.name o.there o.node.count at count (image u (Opened at) count)) (tree_of items) TheRoot 0 (tree_has_whole_runs items) in
    let own = match_root o.node.name o.there o.node.count (item_count (tree_of items)) (length items) None none in
    let parts : sum_by w (nodes_of items) ≡ w (root_of items) + sum_by w (inner items) = sum_by-cons w (root_of items) (inner items) in
    omega (arith, all, rest, own, parts)

all_seen : (P : Seen → Type 0) (t : Transaction) (xs : List Node) → ((n : Node) → P (seen_by t n)) → All P (map (seen_by t) xs)
all_seen P t [] h = All-nil P
all_seen P t (x ∷ xs) h = All-cons P (seen_by t x) (map (seen_by t) xs) (h x) (all_seen P t xs h)

no_image : (t : Transaction) (name : NodeName) (count : ℕ) → name ≡ TheRoot → image t name count ≡ None
no_image t name count e = ap (λ n. image t n count) e

-- old nodes without a match, and old nodes that have one under another parent or with another
-- length
old_touched : (t u : Transaction) (items others : List PlainItem) →
    let old = map (seen_by t) (nodes_of items) in
    let new = map (seen_by u) (nodes_of others) in
    count_by (λ o. not (list_any (λ n. matches o n) new)) old + sum_by (λ o. count_by (λ n. matches o n && not (is_alike o n)) new) old ≤ suc (length (inner items))
old_touched t u items others =
    let old = map (seen_by t) (nodes_of items) in
    let new = map (seen_by u) (nodes_of others) in
    let gone = λ (o : Seen). as_one (not (list_any (λ n. matches o n) new)) in
    let other = λ (o : Seen). count_by (λ n. matches o n && not (is_alike o n)) new in
    let each = all_seen (λ o. gone o + other o ≤ 1) t (nodes_of items)
    (λ n. once (λ m. matches (seen_by t n) m) (λ m. not (is_alike (seen_by t n) m)) new (one_match u others (seen_by t n) (no_image t n.name n.count))) in
    let both : sum_by gone old + sum_by other old ≤ length old = sum-pairs gone other old each in
    omega (arith, both, length-map (nodes_of items) (seen_by t))

-- ---- positions where nodes begin

abbrev begins : NodeName → ℕ → Bool
begins TheRoot k = false
begins (Opened at) k = at == k
begins (Text at) k = at == k

here : (k count : ℕ) → 0 < count → lies_in (Some k) k count ≡ true
here k count some = λ i. le-leb k k (omega arith) i && lt-ltb k (k + count) (omega (arith, some)) i

within_here : (at k count : ℕ) → 0 < count → as_one (at == k) ≤ spans (Some k) at count
within_here at k count some = elim (cases_Bool (at == k)) [
  | inl same ↦
      let e : spans (Some k) at count ≡ 1 = subst (λ j. spans (Some k) j count ≡ 1) (sym (eqb-true at k same)) (ap as_one (here k count some)) in
      let one = one_at_most (at == k) in
      omega (arith, e, one)
  | inr apart ↦ let e : as_one (at == k) ≡ 0 = ap as_one apart in omega (arith, e)
]

starts_once : (m : Node → Bool) (k : ℕ) (items : List PlainItem) → count_by (λ n. begins n.name k && m n) (inner items) ≤ 1
starts_once m k items =
    let w : Node → ℕ = λ n. as_one (begins n.name k && m n) in
    let most = one_each (Some k) w
    (λ parent at count some. let x = fewer_both (at == k) (m (record { name = Text at; parent = parent; count = count })) in let y = within_here at k count some in omega (arith, x, y))
    (λ parent at count. let x = fewer_both (at == k) (m (record { name = Opened at; parent = parent; count = count })) in let y = within_here at k 1 (omega arith) in omega (arith, x, y))
    (tree_of items) TheRoot 0 (tree_has_whole_runs items) in
    let one = one_at_most (lies_in (Some k) 0 (item_count (tree_of items))) in
    omega (arith, most, one)

-- the shape at a position
abbrev shape_at : List PlainItem → ℕ → Option Shape
shape_at items k = slice_get (map shape_of items) k

spelled : (items : List PlainItem) → Lawful items → All (IsSpelled (shape_at items)) (inner items)
spelled items lawful =
    nodes_spelled (shape_at items) (tree_of items) TheRoot 0 (tree_has_whole_runs items)
    (λ i x e. ap (shape_at items) (let z : 0 + i ≡ i = omega arith in z) ∙ subst (λ l. slice_get l i ≡ Some x) (tree_spells items lawful) e)

in_list : (items : List PlainItem) (p : ℕ) (x : Shape) → shape_at items p ≡ Some x → p < length items
in_list items p x e = let l = slice_get_within (map shape_of items) p x e in omega (arith, l, length-map items shape_of)

-- so each node but the root begins at a position of the list
begins_in : (items : List PlainItem) (n : Node) → IsSpelled (shape_at items) n → (p : ℕ) × (p < length items) × (begins n.name p ≡ true)
begins_in items n s = by n.name s
  where
    by : (name : NodeName) → IsSpelledAs (shape_at items) n.count name → (p : ℕ) × (p < length items) × (begins name p ≡ true)
    by TheRoot s = absurd s
    by (Opened at) s = (at, in_list items at (Begin s.0) s.1, eq-eqb at at refl)
    by (Text at) s = (at, in_list items at Letter s.1, eq-eqb at at refl)

All-mapped : {X : Type 0} (P Q : X → Type 0) (xs : List X) → ((x : X) → P x → Q x) → All P xs → All Q xs
All-mapped P Q xs h a = λ k d below. h _ (a k d below)

-- nodes that pass a test, position by position
by_places : (m : Node → Bool) (items : List PlainItem) → Lawful items → count_by m (inner items) ≤ total (length items) (λ k. count_by (λ n. begins n.name k && m n) (inner items))
by_places m items lawful =
    count_by_places (λ (n : Node) k. begins n.name k) m (length items) (inner items)
    (All-mapped (IsSpelled (shape_at items)) (λ n. (p : ℕ) × (p < length items) × (begins n.name p ≡ true)) (inner items) (begins_in items) (spelled items lawful))

-- ---- a lawful list has a closing

is_letter_step : (b : Bool) (s t : State) (f : LawFault) → (if b then Ok s else Err f) ≡ Ok t → s ≡ t
is_letter_step true s t f h = cc
is_letter_step false s t f h = cc

-- after an opening something is open
opens : (s t : State) (k : Kind) → state_opened s k ≡ Ok t → is_over t ≡ false
opens s t k h = by (may_open s k) (nat_lt (length s.stack) max_open_kinds) h
  where
    by : (a b : Bool) → (if a then (if b then Ok (record { stack = k ∷ s.stack; seen = s.seen || kind_same k InternalList }) else Err (TooDeep 0)) else Err (Unlawful 0)) ≡ Ok t → is_over t ≡ false
    by true true h = subst (λ v. is_over v ≡ false) (is_letter_step true (record { stack = k ∷ s.stack; seen = s.seen || kind_same k InternalList }) t (Unlawful 0) h) refl
    by true false h = cc
    by false b h = cc

closing_in : (items : List PlainItem) (s u : State) → after s items ≡ Ok u → is_over s ≡ false → is_over u ≡ true → (m : ℕ) × (kind : Kind) × (shape_at items m ≡ Some (End kind))
closing_in [] s u h still over = let e : s ≡ u = cc in absurd (let d : false ≡ true = sym still ∙ ap is_over e ∙ over in cc)
closing_in (x ∷ items) s u h still over =
    let p = joined-ok 1 (step s x) (λ next. after next items) u h in
    by x p.0 p.1 (is_over p.0) refl (closing_in items p.0 u p.2)
  where
    by : (x : PlainItem) (t : State) → step s x ≡ Ok t → (b : Bool) → is_over t ≡ b →
        (is_over t ≡ false → is_over u ≡ true → (m : ℕ) × (kind : Kind) × (shape_at items m ≡ Some (End kind))) → (m : ℕ) × (kind : Kind) × (shape_at (x ∷ items) m ≡ Some (End kind))
    by x t one false e rest = let r = rest e over in (suc r.0, r.1, r.2)
    by (Char ch marks) t one true e rest =
        let same : s ≡ t = is_letter_step (is_content_branch (top s.stack)) s t (Unlawful 0) one in absurd (let d : false ≡ true = sym still ∙ ap is_over same ∙ e in cc)
    by (Opening kind head marks pre origin generated) t one true e rest = absurd (let d : true ≡ false = sym e ∙ opens s t kind one in cc)
    by (Closing kind pre) t one true e rest = (0, kind, refl)

has_closing : (items : List PlainItem) → Lawful items → (m : ℕ) × (kind : Kind) × (shape_at items m ≡ Some (End kind))
has_closing items lawful = closing_in items start finish (after_from_Lawful items lawful) refl refl

-- ---- the positions of what is retained

-- Each position of the old list counts with that to which its item goes, one together at most. Then
-- both lists' positions count as many as the old list has items with those that are inserted.
by_retained : (t : Transaction) (f g : ℕ → ℕ) → ((p : ℕ) → f p ≤ 1) → ((k : ℕ) → g k ≤ 1) → ((p k : ℕ) → new_place t p ≡ Some k → f p + g k ≤ 1) →
    total (old_length t) f + total (new_length t) g ≤ old_length t + length (all_inserted t)
by_retained [] f g few fewer both = omega arith
by_retained (Retain count ∷ ops) f g few fewer both =
    let own = total-small count (λ k. f k + g k) (λ k below. both k k (λ i. if lt-ltb k count below i then Some k else option_map (λ p. count + p) (new_place ops (k - count)))) in
    let rest = by_retained ops (λ p. f (count + p)) (λ k. g (count + k)) (λ p. few (count + p)) (λ k. fewer (count + k))
    (λ p k e. both (count + p) (count + k) (passed count p k (new_place ops) e)) in
    omega (arith, own, rest, total-both count f g, total-append count (old_length ops) f, total-append count (new_length ops) g)
  where
    passed : (count p k : ℕ) (place : ℕ → Option ℕ) → place p ≡ Some k →
        (if nat_lt (count + p) count then Some (count + p) else option_map (λ q. count + q) (place (count + p - count))) ≡ Some (count + k)
    passed count p k place e =
        ap (λ b. if b then Some (count + p) else option_map (λ q. count + q) (place (count + p - count))) (le-ltb (count + p) count (omega arith))
        ∙ ap (λ j. option_map (λ q. count + q) (place j)) (let z : count + p - count ≡ p = omega arith in z)
        ∙ ap (option_map (λ q. count + q)) e
by_retained (Replace removed inserted ∷ ops) f g few fewer both =
    let m = length removed in
    let n = length inserted in
    let gone = total-small m f (λ k below. few k) in
    let come = total-small n g (λ k below. fewer k) in
    let rest = by_retained ops (λ p. f (m + p)) (λ k. g (n + k)) (λ p. few (m + p)) (λ k. fewer (n + k)) (λ p k e. both (m + p) (n + k) (passed m n p k (new_place ops) e)) in
    omega (arith, gone, come, rest, total-append m (old_length ops) f, total-append n (new_length ops) g, length-append inserted (all_inserted ops))
  where
    passed : (m n p k : ℕ) (place : ℕ → Option ℕ) → place p ≡ Some k → (if nat_lt (m + p) m then None else option_map (λ q. n + q) (place (m + p - m))) ≡ Some (n + k)
    passed m n p k place e =
        ap (λ b. if b then None else option_map (λ q. n + q) (place (m + p - m))) (le-ltb (m + p) m (omega arith))
        ∙ ap (λ j. option_map (λ q. n + q) (place j)) (let z : m + p - m ≡ p = omega arith in z)
        ∙ ap (option_map (λ q. n + q)) e
by_retained (Attribute change ∷ ops) f g few fewer both = by_retained ops f g few fewer both

-- ---- all together

first_here : (t : Transaction) (p k count : ℕ) → 0 < count → new_place t p ≡ Some k → first_retained t p count ≡ Some k
first_here t p k zero some e = absurd (omega (arith, some))
first_here t p k (suc count) some e = ap (λ o. or_next o (first_retained t (suc p) count)) e

any_at : {X : Type 0} (m : X → Bool) (xs : List X) (x : X) → Contains xs x → m x ≡ true → list_any m xs ≡ true
any_at m xs x c e = list_any_at m xs c.0 x c.1 (ap m c.2 ∙ e)

contains_seen : (t : Transaction) (xs : List Node) (n : Node) → Contains xs n → Contains (map (seen_by t) xs) (seen_by t n)
contains_seen t [] n c = absurd (omega (arith, c.1))
contains_seen t (x ∷ xs) n (zero, below, e) = (0, omega arith, ap (seen_by t) e)
contains_seen t (x ∷ xs) n (suc k, below, e) = let c = contains_seen t xs n (k, omega (arith, below), e) in (suc c.0, omega (arith, c.1), c.2)

counts_all : (xs : List Node) → count_by (λ n. true) xs ≡ length xs
counts_all [] = refl
counts_all (x ∷ xs) = let rest = counts_all xs in omega (arith, rest, sum_by-cons (λ (n : Node). as_one true) x xs)

item_of : (o : Option PlainItem) (x : Shape) → option_map shape_of o ≡ Some x → (y : PlainItem) × (o ≡ Some y) × (shape_of y ≡ x)
item_of None x h = cc
item_of (Some y) x h = let e : shape_of y ≡ x = cc in (y, refl, e)

shape_there : (sh : ℕ → Option Shape) (name : NodeName) (count p : ℕ) → begins name p ≡ true → IsSpelledAs sh count name → (x : Shape) × (sh p ≡ Some x)
shape_there sh TheRoot count p b s = absurd s
shape_there sh (Opened at) count p b s = (Begin s.0, ap sh (sym (eqb-true at p b)) ∙ s.1)
shape_there sh (Text at) count p b s = (Letter, ap sh (sym (eqb-true at p b)) ∙ s.1)

no_end : (sh : ℕ → Option Shape) (name : NodeName) (count p : ℕ) (kind : Kind) → begins name p ≡ true → IsSpelledAs sh count name → sh p ≡ Some (End kind) → ⊥
no_end sh TheRoot count p kind b s e = s
no_end sh (Opened at) count p kind b s e = let d : Some (Begin s.0) ≡ Some (End kind) = sym s.1 ∙ ap sh (eqb-true at p b) ∙ e in cc
no_end sh (Text at) count p kind b s e = let d : Some Letter ≡ Some (End kind) = sym s.1 ∙ ap sh (eqb-true at p b) ∙ e in cc

module _ (t : Transaction) (items : List PlainItem) (lawful : Lawful items) (applies : Applies t items) (lawful_then : Lawful (edited t items)) where
  abbrev others : List PlainItem
  others = edited t items

  abbrev old : List Seen
  old = map (seen_by t) (nodes_of items)

  -- a node of the new list without a match
  abbrev new_alone : Node → Bool
  new_alone n = not (list_any (λ o. matches o (seen_by (inverse t) n)) old)

  abbrev old_here : ℕ → ℕ
  old_here p = count_by (λ n. begins n.name p && true) (inner items)

  abbrev new_here : ℕ → ℕ
  new_here k = count_by (λ n. begins n.name k && new_alone n) (inner others)

  -- what begins at a position that is retained has a match at the new one
  have_match : (p k : ℕ) (a b : NodeName) (c d : ℕ) → new_place t p ≡ Some k → new_place (inverse t) k ≡ Some p → shape_at others k ≡ shape_at items p →
      begins a p ≡ true → IsSpelledAs (shape_at items) c a → begins b k ≡ true → IsSpelledAs (shape_at others) d b →
      match_by a (image t a c) c b (image (inverse t) b d) d ≡ true
  have_match p k TheRoot b c d there back same x s y r = absurd s
  have_match p k (Opened a) TheRoot c d there back same x s y r = absurd r
  have_match p k (Text a) TheRoot c d there back same x s y r = absurd r
  have_match p k (Opened a) (Opened b) c d there back same x s y r =
      let placed : new_place t a ≡ Some k = ap (new_place t) (eqb-true a p x) ∙ there in
      let at = eqb-true b k y in
      (λ i. lies_in (placed i) (at i) 1) ∙ here k 1 (omega arith)
  have_match p k (Text a) (Text b) c d there back same x s y r =
      let from = eqb-true a p x in
      let at = eqb-true b k y in
      let one : first_retained t a c ≡ Some k = ap (λ j. first_retained t j c) from ∙ first_here t p k c s.0 there in
      let other : first_retained (inverse t) b d ≡ Some p = ap (λ j. first_retained (inverse t) j d) at ∙ first_here (inverse t) k p d r.0 back in
      (λ i. lies_in (one i) (at i) d && lies_in (other i) (from i) c) ∙ (λ i. here k d r.0 i && here p c s.0 i)
  have_match p k (Opened a) (Text b) c d there back same x s y r =
      let e : Some (Begin s.0) ≡ Some Letter = sym s.1 ∙ ap (shape_at items) (eqb-true a p x) ∙ sym same ∙ ap (shape_at others) (sym (eqb-true b k y)) ∙ r.1 in cc
  have_match p k (Text a) (Opened b) c d there back same x s y r =
      let e : Some Letter ≡ Some (Begin r.0) = sym s.1 ∙ ap (shape_at items) (eqb-true a p x) ∙ sym same ∙ ap (shape_at others) (sym (eqb-true b k y)) ∙ r.1 in cc

  retained_shape : (p k : ℕ) (x : Shape) → new_place t p ≡ Some k → shape_at items p ≡ Some x → (shape_at others k ≡ Some x) × (new_place (inverse t) k ≡ Some p)
  retained_shape p k x there e =
      let at = item_of (slice_get items p) x (sym (slice_get-map shape_of items p) ∙ e) in
      let stays = retained_stays t items p k at.0 there at.1 in
      (slice_get-map shape_of others k ∙ ap (option_map shape_of) stays.stands ∙ ap Some (stays.shape ∙ at.2), stays.back)

  -- a position of the old list where an item closes a node
  closing : (m : ℕ) × (kind : Kind) × (shape_at items m ≡ Some (End kind))
  closing = has_closing items lawful

  abbrev closed_here : ℕ → ℕ
  closed_here p = as_one (p == closing.0)

  none_begins : (p : ℕ) (kind : Kind) → shape_at items p ≡ Some (End kind) → old_here p ≡ 0
  none_begins p kind e = elim (found (IsSpelled (shape_at items)) (λ n. begins n.name p && true) (inner items) (spelled items lawful)) [
    | inl n ↦ absurd (no_end (shape_at items) n.0.name n.0.count p kind (and_parts (begins n.0.name p) true n.2).0 n.1 e)
    | inr none ↦ none
  ]

  few_here : (p : ℕ) → old_here p + closed_here p ≤ 1
  few_here p = elim (cases_Bool (p == closing.0)) [
    | inl same ↦
        let e = none_begins p closing.1 (ap (shape_at items) (eqb-true p closing.0 same) ∙ closing.2) in
        let one = one_at_most (p == closing.0) in
        omega (arith, e, one)
    | inr apart ↦ let e : closed_here p ≡ 0 = ap as_one apart in omega (arith, e, starts_once (λ n. true) p items)
  ]

  -- where a node without a match begins in the new list, at a position that is retained, nothing
  -- begins in the old one
  none_matched : (p k : ℕ) (n : Node) → new_place t p ≡ Some k → IsSpelled (shape_at others) n → begins n.name k ≡ true → new_alone n ≡ true → old_here p ≡ 0
  none_matched p k n there spelt here_too alone =
      elim (found (λ o. Contains (inner items) o × IsSpelled (shape_at items) o) (λ o. begins o.name p && true) (inner items)
      (λ j d below. (All-contains_itself (inner items) j d below, spelled items lawful j d below))) [
        | inl o ↦
            let at = (and_parts (begins o.0.name p) true o.2).0 in
            let x = shape_there (shape_at items) o.0.name o.0.count p at o.1.1 in
            let r = retained_shape p k x.0 there x.1 in
            let met = have_match p k o.0.name n.name o.0.count n.count there r.1 (r.0 ∙ sym x.1) at o.1.1 here_too spelt in
            let inside = contains_seen t (inner items) o.0 o.1.0 in
            let listed : Contains old (seen_by t o.0) = (suc inside.0, omega (arith, inside.1), inside.2) in
            let some = any_at (λ q. matches q (seen_by (inverse t) n)) old (seen_by t o.0) listed met in
            absurd (let d : true ≡ false = sym some ∙ not-true (list_any (λ q. matches q (seen_by (inverse t) n)) old) alone in cc)
        | inr none ↦ none
      ]

  none_closed : (p k : ℕ) (n : Node) → new_place t p ≡ Some k → IsSpelled (shape_at others) n → begins n.name k ≡ true → closed_here p ≡ 0
  none_closed p k n there spelt here_too = elim (cases_Bool (p == closing.0)) [
    | inl same ↦
        let r = retained_shape p k (End closing.1) there (ap (shape_at items) (eqb-true p closing.0 same) ∙ closing.2) in
        absurd (no_end (shape_at others) n.name n.count k closing.1 here_too spelt r.0)
    | inr apart ↦ ap as_one apart
  ]

  one_of_both : (p k : ℕ) → new_place t p ≡ Some k → (old_here p + closed_here p) + new_here k ≤ 1
  one_of_both p k there = elim (found (IsSpelled (shape_at others)) (λ n. begins n.name k && new_alone n) (inner others) (spelled others lawful_then)) [
    | inl n ↦
        let both = and_parts (begins n.0.name k) (new_alone n.0) n.2 in
        let a = none_matched p k n.0 there n.1 both.0 both.1 in
        let b = none_closed p k n.0 there n.1 both.0 in
        omega (arith, a, b, starts_once new_alone k others)
    | inr none ↦ let few = few_here p in omega (arith, few, none)
  ]

  pub touch_within : touch t items ≤ length items + length (all_inserted t)
  touch_within =
      let gone = old_touched t (inverse t) items others in
      let w : Node → ℕ = λ n. as_one (new_alone n) in
      let mapped : count_by (λ n. not (list_any (λ o. matches o n) old)) (map (seen_by (inverse t)) (nodes_of others)) ≡ sum_by w (nodes_of others) =
      sum-mapped (seen_by (inverse t)) (λ n. as_one (not (list_any (λ o. matches o n) old))) (nodes_of others) in
      let parts : sum_by w (nodes_of others) ≡ 0 + count_by new_alone (inner others) = sum_by-cons w (root_of others) (inner others) in
      let come = by_places new_alone others lawful_then in
      let counted = counts_all (inner items) in
      let begun = by_places (λ n. true) items lawful in
      let last : closed_here closing.0 ≡ 1 = ap as_one (eq-eqb closing.0 closing.0 refl) in
      let inside = in_list items closing.0 (End closing.1) closing.2 in
      let ends = total-at (length items) closed_here closing.0 inside in
      let all = by_retained t (λ p. old_here p + closed_here p) new_here few_here (λ k. starts_once new_alone k others) one_of_both in
      let was : old_length t ≡ length items = (parts_of_Applies t items applies).0 in
      let is : length others ≡ new_length t = gives_new_length t items applies in
      let a : total (old_length t) (λ p. old_here p + closed_here p) ≡ total (length items) (λ p. old_here p + closed_here p) = ap (λ n. total n (λ p. old_here p + closed_here p)) was in
      let b : total (length others) new_here ≡ total (new_length t) new_here = ap (λ n. total n new_here) is in
      omega (arith, gone, mapped, parts, come, counted, begun, last, ends, all, was, a, b, total-both (length items) old_here closed_here)
