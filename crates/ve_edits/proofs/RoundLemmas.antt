-- The open nodes at an offset: each begins where those outside it are open.
use Rattle.std.proofs.Common.{◌≡◌, ◌≤◌, ◌<◌, ℕ, zero, suc, Some, Ok, List, [], ◌∷◌, ◌++◌, length, take, drop, slice_get, refl, sym, ap, ◌∙◌, subst, arith}
use Rattle.std.proofs.lemmas.List.{length-map, take-map}
use Rattle.std.proofs.lemmas.Option.{slice_get_within}
use Rattle.ve_base.specs.declared.value.Value.{Value}
use Rattle.model_items.specs.declared.item.Item.{Item}
use Rattle.model_items.specs.declared.item.Item.TheVariants as item
use Rattle.model_items.specs.declared.plain_item.PlainItem.{PlainItem}
use Rattle.model_items.specs.declared.plain_item.PlainItem.TheVariants.{Char, Opening, Closing}
use Rattle.model_items.specs.Plain.{plain, plain_list}
use Rattle.model_items.specs.Law.{State, start, after}
use Rattle.model_items.specs.Tree.{Open, opens_with, node_at}
use Rattle.model_items.proofs.NodeAtLemmas.{open_is_stack}
use Rattle.model_items.specs.Offsets.{opens_at, openings_after, openings_at, first_from, partner}
use Rattle.ve_tree.specs.IsTree.{unvalued}
use Rattle.ve_edits.specs.Round.{IsOpeningRound}
use Rattle.ve_edits.proofs.BracketLemmas.{taken, opens_at-suc, opens_at-plain, node_at-from, partner-Char, partner-Closing, partner_after}

openings_with : PlainItem → List PlainItem → List PlainItem
openings_with x outer = openings_after outer (x ∷ [])

openings_append : (outer xs ys : List PlainItem) → openings_after outer (xs ++ ys) ≡ openings_after (openings_after outer xs) ys
openings_append outer [] ys = refl
openings_append outer (Char c marks ∷ xs) ys = openings_append outer xs ys
openings_append outer (Opening kind head marks pre origin generated ∷ xs) ys = openings_append (Opening kind head marks pre origin generated ∷ outer) xs ys
openings_append outer (Closing kind pre ∷ xs) ys = openings_append (drop 1 outer) xs ys

openings_at-suc : (items : List PlainItem) (at : ℕ) (x : PlainItem) → slice_get items at ≡ Some x → openings_at items (suc at) ≡ openings_after (openings_at items at) (x ∷ [])
openings_at-suc items at x h = ap (openings_after []) (taken items at x h) ∙ openings_append [] (take at items) (x ∷ [])

-- each open node begins at its opening, and there the nodes outside it are open
abbrev pub Chain : List PlainItem → List Open → List PlainItem → Type 0
Chain items [] openings = openings ≡ []
Chain items (o ∷ outer) openings =
    (x : PlainItem) × (rest : List PlainItem) × (openings ≡ x ∷ rest) × (slice_get items o.from ≡ Some x) × (opens_at items o.from ≡ outer) × (openings_at items o.from ≡ rest) × Chain items outer rest

chain_closed : (items : List PlainItem) (opens : List Open) (openings : List PlainItem) → Chain items opens openings → Chain items (drop 1 opens) (drop 1 openings)
chain_closed items [] openings h = ap (drop 1) h
chain_closed items (o ∷ outer) openings h = subst (Chain items outer) (sym (ap (drop 1) h.2)) h.6

chain_step : (items : List PlainItem) (at : ℕ) (x : PlainItem) → slice_get items at ≡ Some x → Chain items (opens_at items at) (openings_at items at) →
    Chain items (opens_with x at (opens_at items at)) (openings_after (openings_at items at) (x ∷ []))
chain_step items at (Char c marks) h all = all
chain_step items at (Opening kind head marks pre origin generated) h all =
    (Opening kind head marks pre origin generated, openings_at items at, refl, h, refl, refl, all)
chain_step items at (Closing kind pre) h all = chain_closed items (opens_at items at) (openings_at items at) all

there_is : (items : List PlainItem) (at : ℕ) → at < length items → (x : PlainItem) × (slice_get items at ≡ Some x)
there_is [] at h = absurd (omega arith)
there_is (y ∷ items) zero h = (y, refl)
there_is (y ∷ items) (suc at) h = there_is items at (omega arith)

pub chain : (items : List PlainItem) (at : ℕ) → at ≤ length items → Chain items (opens_at items at) (openings_at items at)
chain items zero h = refl
chain items (suc at) h =
    let here = there_is items at (omega arith) in
    let C : List Open → Type 0 = λ opens. Chain items opens (openings_at items (suc at)) in
    subst C (sym (opens_at-suc items at here.0 here.1))
    (subst (Chain items (opens_with here.0 at (opens_at items at))) (sym (openings_at-suc items at here.0 here.1))
    (chain_step items at here.0 here.1 (chain items at (omega arith))))

cited_there : (values : List Value) (items : List Item) (at : ℕ) (x : PlainItem) → slice_get (plain_list values items) at ≡ Some x → (item : Item) × (slice_get items at ≡ Some item) × (x ≡ plain values item)
cited_there values [] at x h = absurd (cc)
cited_there values (y ∷ items) zero x h = let same : plain values y ≡ x = cc in (y, refl, sym same)
cited_there values (y ∷ items) (suc at) x h = cited_there values items at x h

round_by : (values : List Value) (items : List Item) (o : ℕ) (opens : List Open) → (opens ≡ [] → ⊥) → opens_at (plain_list values items) o ≡ opens →
    Chain (plain_list values items) opens (openings_at (plain_list values items) o) → IsOpeningRound values items o (first_from opens)
round_by values items o [] some is h = absurd (some refl)
round_by values items o (inner ∷ outer) some is h =
    let cited = cited_there values items inner.from h.0 h.3 in
    record {
      item = cited.0;
      kind = inner.kind;
      there = cited.1;
      opens = is ∙ ap (λ l. inner ∷ l) (sym h.4);
      openings = h.2 ∙ ap (λ l. h.0 ∷ l) (sym h.5) ∙ ap (λ y. y ∷ openings_at (plain_list values items) inner.from) cited.2;
    }

pub round_at : (values : List Value) (items : List Item) (o : ℕ) → o ≤ length items → (opens_at (unvalued items) o ≡ [] → ⊥) → IsOpeningRound values items o (node_at (unvalued items) o).from
round_at values items o within some =
    let n = length-map items (plain values) in
    let same = opens_at-plain values items o in
    let W : ℕ → Type 0 = IsOpeningRound values items o in
    subst W (ap first_from same ∙ sym (node_at-from (unvalued items) o))
    (round_by values items o (opens_at (plain_list values items) o) (λ none. some (sym same ∙ none)) refl (chain (plain_list values items) o (omega arith)))

-- as many nodes are open at an offset as the law's state there has
pub open_count : (items : List Item) (o : ℕ) (s : State) → after start (plain_list [] (take o items)) ≡ Ok s → length (opens_at (unvalued items) o) ≡ length s.stack
open_count items o s h =
    let there : after start (take o (unvalued items)) ≡ Ok s = ap (after start) (take-map (plain []) o items) ∙ h in
    sym (length-map (opens_at (unvalued items) o) (λ (node : Open). node.kind)) ∙ ap (λ l. length l) (open_is_stack (take o (unvalued items)) s there)

pub item_there : (items : List Item) (at : ℕ) → at < length items → (x : Item) × (slice_get items at ≡ Some x)
item_there [] at h = absurd (omega arith)
item_there (x ∷ items) zero h = (x, refl)
item_there (x ∷ items) (suc at) h = item_there items at (omega arith)

-- the partner of an item stands in the list
pub partner_within : (values : List Value) (items : List Item) (at : ℕ) → at < length items → partner (plain_list values items) at < length items
partner_within values items at h = let there = item_there items at h in by there.0 there.0 refl there.1
  where
    open_within : (opens : List Open) → opens_at (unvalued items) at ≡ opens → first_from (opens_at (unvalued items) at) < length items
    open_within [] e = let first = ap first_from e in omega arith
    open_within (o ∷ outer) e =
        let round = round_at values items at (omega arith) (λ none. let two : o ∷ outer ≡ [] = sym e ∙ none in cc) in
        let within = slice_get_within items _ round.item round.there in
        subst (λ n. n < length items) (node_at-from (unvalued items) at) within

    by : (x y : Item) → x ≡ y → slice_get items at ≡ Some x → partner (plain_list values items) at < length items
    by x (item.Char ch marks) is there = let same = partner-Char values items at x ch marks there is in omega arith
    by x (item.Opening kind generated head marks pre origin) is there = (partner_after values items at x kind generated head marks pre origin there is).1
    by x (item.Closing kind pre) is there =
        let same = partner-Closing values items at x kind pre there is ∙ node_at-from (unvalued items) at in
        let first = open_within (opens_at (unvalued items) at) refl in
        omega arith
