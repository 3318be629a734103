-- Claims on brackets, one after the other.
use Rattle.std.proofs.Common.{◌≡◌, ◌≤◌, ◌<◌, ℕ, suc, ◌+◌, ◌-◌, true, false, ◌==◌, if◌then◌else◌, nat_lt, List, [], ◌∷◌, ◌++◌, length, drop, get_or, Option, Some, None, refl, sym, ap, ◌∙◌, arith}
use Rattle.std.specs.Prelude.{flat_map}
use Rattle.std.proofs.lemmas.Bool.Decides.{nat_tests}
use Rattle.std.proofs.lemmas.List.{drop_more, drop_all}
use Rattle.std.proofs.lemmas.List.Folds.{flat_map-map}
use Rattle.ve_kinds.specs.declared.kind.Kind.{Kind}
use Rattle.model_items.specs.declared.plain_item.PlainItem.{PlainItem}
use Rattle.model_items.specs.Offsets.{partner, end_of_node}
use Rattle.model_items.specs.Tree.{Open}
use Rattle.model_edit.specs.Wrap.{Claim, opening_claims, closing_claims, node_claims, first_wrong, nodes_in, wrong_place}
use Rattle.ve_build_shape.specs.Nodes.{begins_kind, wrong_among}
use Rattle.ve_build_shape.proofs.NodeLemmas.{node_starts}

pub none_first : (xs ys : List Claim) → first_wrong xs ≡ None → first_wrong (xs ++ ys) ≡ first_wrong ys
none_first [] ys h = refl
none_first ((at, true) ∷ xs) ys h = none_first xs ys h
none_first ((at, false) ∷ xs) ys h = cc

pub some_first : (place : ℕ) (xs ys : List Claim) → first_wrong xs ≡ Some place → first_wrong (xs ++ ys) ≡ Some place
some_first place [] ys h = cc
some_first place ((at, true) ∷ xs) ys h = some_first place xs ys h
some_first place ((at, false) ∷ xs) ys h = h

opening_on : (items : List PlainItem) (at : ℕ) (kind : Kind) (kinds : List Kind) → begins_kind kind items at ≡ true →
    first_wrong (opening_claims items at (kind ∷ kinds)) ≡ first_wrong (opening_claims items (at + 1) kinds)
opening_on items at kind kinds h =
    let e : suc at ≡ at + 1 = omega arith in
    ap (λ b. first_wrong ((at, b) ∷ opening_claims items (suc at) kinds)) h ∙ ap (λ n. first_wrong (opening_claims items n kinds)) e

opening_off : (items : List PlainItem) (at : ℕ) (kind : Kind) (kinds : List Kind) → begins_kind kind items at ≡ false →
    first_wrong (opening_claims items at (kind ∷ kinds)) ≡ Some at
opening_off items at kind kinds h = ap (λ b. first_wrong ((at, b) ∷ opening_claims items (suc at) kinds)) h

closing_on : (items : List PlainItem) (first left at : ℕ) → (partner items (first + left) == at) ≡ true →
    first_wrong (closing_claims items first (suc left) at) ≡ first_wrong (closing_claims items first left (at + 1))
closing_on items first left at h =
    let e : suc at ≡ at + 1 = omega arith in
    ap (λ b. first_wrong ((at, b) ∷ closing_claims items first left (suc at))) h ∙ ap (λ n. first_wrong (closing_claims items first left n)) e

closing_off : (items : List PlainItem) (first left at : ℕ) → (partner items (first + left) == at) ≡ false → first_wrong (closing_claims items first (suc left) at) ≡ Some at
closing_off items first left at h = ap (λ b. first_wrong ((at, b) ∷ closing_claims items first left (suc at))) h

-- ---- one claim more in a loop

module _ (items : List PlainItem) (at i : ℕ) (kinds : List Kind) (d : Kind) (inside : i < length kinds) where
  pub opening_next : begins_kind (get_or kinds i d) items (at + i) ≡ true →
      first_wrong (opening_claims items (at + (i + 1)) (drop (i + 1) kinds)) ≡ first_wrong (opening_claims items (at + i) (drop i kinds))
  opening_next h =
      let e : at + i + 1 ≡ at + (i + 1) = omega arith in
      sym (ap (λ l. first_wrong (opening_claims items (at + i) l)) (drop_more kinds i d inside)
      ∙ opening_on items (at + i) (get_or kinds i d) (drop (i + 1) kinds) h
      ∙ ap (λ n. first_wrong (opening_claims items n (drop (i + 1) kinds))) e)

  pub opening_stop : begins_kind (get_or kinds i d) items (at + i) ≡ false → Some (at + i) ≡ first_wrong (opening_claims items (at + i) (drop i kinds))
  opening_stop h =
      sym (ap (λ l. first_wrong (opening_claims items (at + i) l)) (drop_more kinds i d inside) ∙ opening_off items (at + i) (get_or kinds i d) (drop (i + 1) kinds) h)

pub opening_done : (items : List PlainItem) (at i : ℕ) (kinds : List Kind) → length kinds ≤ i → None ≡ first_wrong (opening_claims items (at + i) (drop i kinds))
opening_done items at i kinds past = sym (ap (λ l. first_wrong (opening_claims items (at + i) l)) (drop_all i kinds past))

module _ (items : List PlainItem) (first left at : ℕ) (some : 0 < left) where
  pub closing_next : (partner items (first + (left - 1)) == at) ≡ true →
      first_wrong (closing_claims items first (left - 1) (at + 1)) ≡ first_wrong (closing_claims items first left at)
  closing_next h =
      let e : suc (left - 1) ≡ left = omega arith in
      sym (closing_on items first (left - 1) at h) ∙ ap (λ n. first_wrong (closing_claims items first n at)) e

  pub closing_stop : (partner items (first + (left - 1)) == at) ≡ false → Some at ≡ first_wrong (closing_claims items first left at)
  closing_stop h =
      let e : suc (left - 1) ≡ left = omega arith in
      sym (closing_off items first (left - 1) at h) ∙ ap (λ n. first_wrong (closing_claims items first n at)) e

pub closing_done : (items : List PlainItem) (first left at : ℕ) → left ≡ 0 → None ≡ first_wrong (closing_claims items first left at)
closing_done items first left at none = sym (ap (λ n. first_wrong (closing_claims items first n at)) none)

-- a node's closings, where its openings are right
pub in_node_last : (items : List PlainItem) (kinds : List Kind) (at count last : ℕ) (r : Option ℕ) → r ≡ first_wrong (closing_claims items at count last) → count ≡ length kinds → last ≡ end_of_node items at - count →
    first_wrong (opening_claims items at kinds) ≡ None → r ≡ first_wrong (node_claims items kinds at)
in_node_last items kinds at count last r is n place right =
    is ∙ ap (λ k. first_wrong (closing_claims items at count k)) place
    ∙ ap (λ k. first_wrong (closing_claims items at k (end_of_node items at - k))) n
    ∙ sym (none_first (opening_claims items at kinds) (closing_claims items at (length kinds) (end_of_node items at - length kinds)) right)

pub in_node_first : (items : List PlainItem) (kinds : List Kind) (at place : ℕ) → Some place ≡ first_wrong (opening_claims items at kinds) → Some place ≡ first_wrong (node_claims items kinds at)
in_node_first items kinds at place is =
    sym (some_first place (opening_claims items at kinds) (closing_claims items at (length kinds) (end_of_node items at - length kinds)) (sym is))

module _ (items : List PlainItem) (kinds : List Kind) (nodes : List ℕ) (i d : ℕ) (inside : i < length nodes) where
  abbrev rest_claims : ℕ → List Claim
  rest_claims k = flat_map (node_claims items kinds) (drop k nodes)

  pub node_next : first_wrong (node_claims items kinds (get_or nodes i d)) ≡ None → first_wrong (rest_claims (i + 1)) ≡ first_wrong (rest_claims i)
  node_next h =
      sym (ap (λ l. first_wrong (flat_map (node_claims items kinds) l)) (drop_more nodes i d inside) ∙ none_first (node_claims items kinds (get_or nodes i d)) (rest_claims (i + 1)) h)

  pub node_stop : (place : ℕ) → Some place ≡ first_wrong (node_claims items kinds (get_or nodes i d)) → Some place ≡ first_wrong (rest_claims i)
  node_stop place h =
      sym (ap (λ l. first_wrong (flat_map (node_claims items kinds) l)) (drop_more nodes i d inside) ∙ some_first place (node_claims items kinds (get_or nodes i d)) (rest_claims (i + 1)) (sym h))

pub node_done : (items : List PlainItem) (kinds : List Kind) (nodes : List ℕ) (i : ℕ) → length nodes ≤ i → None ≡ first_wrong (flat_map (node_claims items kinds) (drop i nodes))
node_done items kinds nodes i past = sym (ap (λ l. first_wrong (flat_map (node_claims items kinds) l)) (drop_all i nodes past))

-- the model's claims on nodes, by the positions where they begin
pub among_nodes : (items : List PlainItem) (from to : ℕ) (outer each : List Kind) → wrong_place items from to outer each ≡ wrong_among items from to outer each (node_starts (nodes_in items from to))
among_nodes items from to outer each =
    let first = from - length outer in
    ap (λ (l : List Claim). if nat_lt from (length outer) then Some 0 else first_wrong (opening_claims items first outer ++ (l ++ closing_claims items first (length outer) to)))
    (sym (flat_map-map (node_claims items each) (λ (node : Open). node.from) (nodes_in items from to)))

-- what is left to be asked of the range, where what was asked so far is right
module _ (items : List PlainItem) (from to : ℕ) (outer each : List Kind) (places : List ℕ) where
  abbrev first_claims : List Claim
  first_claims = opening_claims items (from - length outer) outer

  abbrev middle_claims : List Claim
  middle_claims = flat_map (node_claims items each) places

  abbrev last_claims : List Claim
  last_claims = closing_claims items (from - length outer) (length outer) to

  pub too_few : nat_lt from (length outer) ≡ true → wrong_among items from to outer each places ≡ Some 0
  too_few h = ap (λ b. if b then Some 0 else first_wrong (first_claims ++ (middle_claims ++ last_claims))) h

  enough : nat_lt from (length outer) ≡ false → wrong_among items from to outer each places ≡ first_wrong (first_claims ++ (middle_claims ++ last_claims))
  enough h = ap (λ b. if b then Some 0 else first_wrong (first_claims ++ (middle_claims ++ last_claims))) h

  module _ (count : ℕ) (n : count ≡ length outer) (room : count ≤ from) where
    not_few : nat_lt from (length outer) ≡ false
    not_few = let less : length outer ≤ from = omega (arith, n, room) in grind (arith, nat_tests)

    first_are : opening_claims items (from - count) outer ≡ first_claims
    first_are = ap (λ k. opening_claims items (from - k) outer) n

    pub wrong_before : (place : ℕ) → Some place ≡ first_wrong (opening_claims items (from - count) outer) → Some place ≡ wrong_among items from to outer each places
    wrong_before place h =
        sym (enough not_few ∙ some_first place first_claims (middle_claims ++ last_claims) (sym (h ∙ ap first_wrong first_are)))

    -- where the openings before the range are right
    onwards : None ≡ first_wrong (opening_claims items (from - count) outer) → wrong_among items from to outer each places ≡ first_wrong (middle_claims ++ last_claims)
    onwards h = enough not_few ∙ none_first first_claims (middle_claims ++ last_claims) (sym (h ∙ ap first_wrong first_are))

    pub wrong_inside : (place : ℕ) → None ≡ first_wrong (opening_claims items (from - count) outer) → Some place ≡ first_wrong middle_claims → Some place ≡ wrong_among items from to outer each places
    wrong_inside place first h = sym (onwards first ∙ some_first place middle_claims last_claims (sym h))

    pub wrong_after : (r : Option ℕ) → None ≡ first_wrong (opening_claims items (from - count) outer) → None ≡ first_wrong middle_claims →
        r ≡ first_wrong (closing_claims items (from - count) count to) → r ≡ wrong_among items from to outer each places
    wrong_after r first middle h =
        h ∙ ap (λ k. first_wrong (closing_claims items (from - k) k to)) n ∙ sym (onwards first ∙ none_first middle_claims last_claims (sym middle))
