-- The spans and the positions of a small page, by computation.
use Rattle.std.proofs.Common.{◌≡◌, ℕ, ◌≤◌, List, [], ◌∷◌, ◌++◌, Some, refl, arith, IsCharBoundary}
use Rattle.std.specs.Prelude.{codes, take, drop}
use Rattle.ve_kinds.specs.declared.kind.Kind.TheVariants.{P}
use Rattle.ve_base.specs.Empty.{empty_head}
use Rattle.model_items.specs.declared.plain_item.PlainItem.{PlainItem}
use Rattle.model_items.specs.declared.plain_item.PlainItem.TheVariants.{Char}
use Rattle.model_page.proofs.OnLiterals.{page_on_literals}
use Rattle.model_page.proofs.PageExamples.{open_, made_, close_, empty_list, items_in, spans_in, span}
use Rattle.model_page_write.specs.Nodes.{carried_items}
use Rattle.model_page_write.specs.PageText.{node_with}
use Rattle.model_page_law.specs.Spans.{IsPart, NodeAt}

-- an element with U+00E9 in it, of two bytes, and a bare run
abbrev page : List ℕ
page = codes "<p>" ++ 195 ∷ 169 ∷ codes "</p>x"

abbrev items : List PlainItem
items = open_ P 0 ∷ Char 233 [] ∷ close_ P ∷ made_ 1 ∷ Char 120 [] ∷ close_ P ∷ empty_list

items_are : items_in page ≡ Some items
unfolding page_on_literals
items_are = refl

spans_are : spans_in page ≡ Some (span 0 9 ∷ span 9 10 ∷ [])
unfolding page_on_literals
spans_are = refl

run : IsPart page (span 0 10) (span 9 10)
run = record {
  cut = record { rises = omega arith; first = (omega arith, λ l b. omega arith); last = (omega arith, λ l b. omega arith) };
  some = omega arith;
  from = omega arith;
  to = omega arith;
}

-- no span ends within a character
within_letter : IsCharBoundary page 4 → ⊥
within_letter h = let late : 192 ≤ 169 = h.1 (omega arith) (omega arith) in omega (arith, late)

-- the bare run's paragraph stands from position 3 to 6
run_stands : NodeAt items 1 3 6
run_stands = record {
  before = open_ P 0 ∷ Char 233 [] ∷ close_ P ∷ [];
  kind = P;
  head = empty_head;
  marks = [];
  pre = [];
  generated = _;
  inside = Char 120 [] ∷ [];
  white = [];
  after = empty_list;
  items_are = refl;
  closes = refl;
  from_is = refl;
  to_is = refl;
}

is_compared : node_with 1 (carried_items items) ≡ take 3 (drop 3 (carried_items items))
is_compared = refl
