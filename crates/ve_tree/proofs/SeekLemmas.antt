-- Going down a forest by what is left to the offset is the model's search.
use Rattle.std.proofs.Common.{◌≡◌, ◌≤◌, ◌<◌, ◌+◌, ◌-◌, inl, inr, ℕ, suc, List, Bool, true, false, if◌then◌else◌, ◌&&◌, nat_le, nat_lt, length, refl, sym, ap, ◌∙◌, arith}
use Rattle.std.proofs.lemmas.Bool.{leb-true, leb-false, ltb-true, cases_Bool, lt-ltb}
use Rattle.ve_kinds.specs.declared.kind.Kind.TheVariants.{Root}
use Rattle.model_items.specs.declared.plain_item.PlainItem.{PlainItem}
use Rattle.model_items.specs.Law.{Lawful}
use Rattle.model_items.specs.Tree.{Forest, Empty, Run, Branch, item_count, NodeExtent, node_at, tree_of}
use Rattle.model_items.specs.NodeAt.{search}
use Rattle.model_items.proofs.NodeAtLemmas.{found_in_tree}

-- The innermost node round an offset that lies `left` items after the forest's start, which is at
-- `at`, inside the given node.
abbrev pub seek : NodeExtent → ℕ → ℕ → Forest → NodeExtent
seek place at left Empty = place
seek place at left (Run count later) = if nat_le count left then seek place (at + count) (left - count) later else place
seek place at left (Branch kind inside later) =
    if nat_le (item_count inside + 2) left then seek place (at + (item_count inside + 2)) (left - (item_count inside + 2)) later
    else (if nat_le 1 left then seek (record { kind = kind; from = at; to = at + (item_count inside + 2) }) (suc at) (left - 1) inside else place)

not_below : (a b : ℕ) → b ≤ a → nat_lt a b ≡ false
not_below a b h =
    elim (cases_Bool (nat_lt a b)) [
      | inl less ↦ absurd (omega (arith, ltb-true a b less, h))
      | inr not_less ↦ not_less
    ]

by_test : {P : Type 0} (a b : ℕ) → (nat_le a b ≡ true → a ≤ b → P) → (nat_le a b ≡ false → b < a → P) → P
by_test {P = P} a b yes_ no_ = go (nat_le a b) refl
  where
    go : (t : Bool) → nat_le a b ≡ t → P
    go true e = yes_ e (leb-true a b e)
    go false e = no_ e (leb-false a b e)

-- no node of a forest holds an offset before its second item
search_before : (place : NodeExtent) (at o : ℕ) (f : Forest) → o ≤ at → search place at f o ≡ place
search_before place at o Empty h = refl
search_before place at o (Run count later) h = search_before place (at + count) o later (omega (arith, h))
search_before place at o (Branch kind inside later) h =
    let len = item_count inside + 2 in
    ap (λ t. if t && nat_lt o (at + len) then search (record { kind = kind; from = at; to = at + len }) (suc at) inside o else search place (at + len) later o) (not_below at o h)
    ∙ search_before place (at + len) o later (omega (arith, h))

search_seek : (place : NodeExtent) (at left o : ℕ) (f : Forest) → o ≡ at + left → search place at f o ≡ seek place at left f
search_seek place at left o Empty e = refl
search_seek place at left o (Run count later) e = by_test count left
    (λ b le.
    search_seek place (at + count) (left - count) o later (omega (arith, e, le))
    ∙ ap (λ t. if t then seek place (at + count) (left - count) later else place) (sym b))
    (λ b lt.
    search_before place (at + count) o later (omega (arith, e, lt))
    ∙ ap (λ t. if t then seek place (at + count) (left - count) later else place) (sym b))
search_seek place at left o (Branch kind inside later) e =
    let len = item_count inside + 2 in
    let own : NodeExtent = record { kind = kind; from = at; to = at + len } in
    let into = search own (suc at) inside o in
    let past = search place (at + len) later o in
    let below = if nat_le 1 left then seek own (suc at) (left - 1) inside else place in
    by_test len left
    (λ b le.
    ap (λ t. if nat_lt at o && t then into else past) (not_below o (at + len) (omega (arith, e, le)))
    ∙ and_no (nat_lt at o) into past
    ∙ search_seek place (at + len) (left - len) o later (omega (arith, e, le))
    ∙ ap (λ t. if t then seek place (at + len) (left - len) later else below) (sym b))
    (λ b lt. by_test 1 left
    (λ b1 le1.
    ap (λ t. if t && nat_lt o (at + len) then into else past) (lt-ltb at o (omega (arith, e, le1)))
    ∙ ap (λ t. if t then into else past) (lt-ltb o (at + len) (omega (arith, e, lt)))
    ∙ search_seek own (suc at) (left - 1) o inside (omega (arith, e, le1))
    ∙ ap (λ t. if t then seek own (suc at) (left - 1) inside else place) (sym b1)
    ∙ ap (λ t. if t then seek place (at + len) (left - len) later else below) (sym b))
    (λ b1 lt1.
    ap (λ t. if t && nat_lt o (at + len) then into else past) (not_below at o (omega (arith, e, lt1)))
    ∙ search_before place (at + len) o later (omega (arith, e, lt1))
    ∙ ap (λ t. if t then seek own (suc at) (left - 1) inside else place) (sym b1)
    ∙ ap (λ t. if t then seek place (at + len) (left - len) later else below) (sym b)))
  where
    and_no : (t : Bool) (p q : NodeExtent) → (if t && false then p else q) ≡ q
    and_no true p q = refl
    and_no false p q = refl

-- the innermost node round an offset of a lawful list
pub node_at-seek : (items : List PlainItem) (o : ℕ) → Lawful items → o ≤ length items →
    node_at items o ≡ seek (record { kind = Root; from = 0; to = length items }) 0 o (tree_of items)
node_at-seek items o lawful h =
    found_in_tree items o lawful h ∙ search_seek (record { kind = Root; from = 0; to = length items }) 0 o o (tree_of items) (omega arith)
