-- The nodes that a script lists are pieces that fit, and what the script costs is at most their
-- weight.
use Rattle.std.proofs.Common.{◌≡◌, ◌≢◌, ◌≤◌, ℕ, suc, ◌+◌, Bool, true, false, ◌||◌, ◌==◌, nat_eq, if◌then◌else◌, Option, Some, List, [], ◌∷◌, ◌++◌, map, drop, refl, sym, ap, ◌∙◌, subst, arith, append_assoc}
use Rattle.std.specs.List.{list_any}
use Rattle.std.proofs.Math.Dec.{eqb}
use Rattle.std.proofs.lemmas.Bool.{eq-eqb}
use Rattle.std.proofs.lemmas.List.{map-append}
use Rattle.model_items.specs.Tree.{item_count}
use Rattle.model_change.specs.Transaction.{Transaction}
use Rattle.model_change.specs.Inverse.{inverse}
use Rattle.model_change.specs.Touch.{NodeName, Opened, Seen, seen_by, matches, new_place}
use Rattle.ve_arena.specs.declared.node.ArenaNode.{ArenaNode}
use Rattle.ve_tree.specs.Links.{Apart, AllApart}
use Rattle.ve_tree.specs.Named.{Named, NoNode, NamedRun, NamedBranch, unnumbered}
use Rattle.ve_tree.specs.Grown.{id_of}
use Rattle.ve_repair.specs.Work.{Keep, Drop, Put, Step, Enter, Leave, Text, Count}
use Rattle.ve_repair.specs.Tokens.{Token, End, tokens, old_side, new_side, puts, drops}
use Rattle.ve_repair.specs.Spelled.{Sign, token_of, AllFrom}
use Rattle.ve_repair.specs.Ready.{nums}
use Rattle.ve_repair.specs.Sizing.{resize_of, len_under}
use Rattle.ve_repair.specs.Writes as Writes
use Rattle.ve_repair.specs.declared.write.Write.TheVariants.{Resize}
use Rattle.ve_repair.specs.Pieces.{Piece, Both, Gone, Made, olds, news, parents_match, weight_of, weight, AllFit}
use Rattle.ve_repair.specs.Traced.{AllTraced}
use Rattle.ve_repair.specs.Numbered.{Numbered, numbered_from}
use Rattle.ve_repair.specs.Charged.{Spot, spots, top, moved_if, script_cost}
use Rattle.ve_repair.proofs.NumberedLemmas.{Each, BothNamed}
use Rattle.ve_repair.proofs.MatchLemmas.{match_number, number_match}

abbrev Slots : Type 0
Slots = List (Option ArenaNode)

-- the nodes of a forest are those of its tokens
abbrev pub spot_of : Numbered → Spot
spot_of n = record { number = n.number; above = Some n.above }

pub forest_spots : (f : Named) (above : ℕ) (parent : NodeName) (at : ℕ) (ts : List Token) (open_ : List ℕ) →
    map spot_of (numbered_from above parent at f) ++ spots ts (above ∷ open_) ≡ spots (tokens f ++ ts) (above ∷ open_)
forest_spots NoNode above parent at ts open_ = refl
forest_spots (NamedRun n count later) above parent at ts open_ = ap (λ l. record { number = n; above = Some above } ∷ l) (forest_spots later above parent (at + count) ts open_)
forest_spots (NamedBranch n kind inside later) above parent at ts open_ =
    let next = at + item_count (unnumbered inside) + 2 in
    ap (λ l. record { number = n; above = Some above } ∷ l)
    (ap (λ l. l ++ spots ts (above ∷ open_)) (map-append spot_of (numbered_from n (Opened at) (suc at) inside) (numbered_from above parent next later))
    ∙ append_assoc (map spot_of (numbered_from n (Opened at) (suc at) inside)) (map spot_of (numbered_from above parent next later)) (spots ts (above ∷ open_))
    ∙ ap (λ l. map spot_of (numbered_from n (Opened at) (suc at) inside) ++ l) (forest_spots later above parent next ts open_)
    ∙ forest_spots inside n (Opened at) (suc at) (End ∷ (tokens later ++ ts)) (above ∷ open_)
    ∙ ap (λ l. spots l (n ∷ (above ∷ open_))) (sym (append_assoc (tokens inside) (End ∷ tokens later) ts)))

abbrev pub old_seen : Transaction → Numbered → Seen
old_seen t o = seen_by t o.node

abbrev pub new_seen : Transaction → Numbered → Seen
new_seen t n = seen_by (inverse t) n.node

abbrev pub number : Numbered → ℕ
number n = n.number

-- what a script lists: a pair, an old node that goes, or a new one
abbrev pub pieces_of : Transaction → List Step → List Numbered → List Numbered → List Piece
pieces_of t [] os ns = []
pieces_of t (Enter Keep n ∷ xs) (o ∷ os) (m ∷ ms) = Both (old_seen t o) (new_seen t m) ∷ pieces_of t xs os ms
pieces_of t (Enter Keep n ∷ xs) os ms = []
pieces_of t (Enter Drop n ∷ xs) (o ∷ os) ms = Gone (old_seen t o) ∷ pieces_of t xs os ms
pieces_of t (Enter Drop n ∷ xs) [] ms = []
pieces_of t (Enter Put n ∷ xs) os (m ∷ ms) = Made (new_seen t m) ∷ pieces_of t xs os ms
pieces_of t (Enter Put n ∷ xs) os [] = []
pieces_of t (Leave how ∷ xs) os ms = pieces_of t xs os ms
pieces_of t (Text Keep n ∷ xs) (o ∷ os) (m ∷ ms) = Both (old_seen t o) (new_seen t m) ∷ pieces_of t xs os ms
pieces_of t (Text Keep n ∷ xs) os ms = []
pieces_of t (Text Drop n ∷ xs) (o ∷ os) ms = Gone (old_seen t o) ∷ pieces_of t xs os ms
pieces_of t (Text Drop n ∷ xs) [] ms = []
pieces_of t (Text Put n ∷ xs) os (m ∷ ms) = Made (new_seen t m) ∷ pieces_of t xs os ms
pieces_of t (Text Put n ∷ xs) os [] = []
pieces_of t (Count n count ∷ xs) os ms = pieces_of t xs os ms

-- what is written for the lengths of nodes
abbrev pub length_cost : List (Option ArenaNode) → ℕ → ℕ → ℕ
length_cost slots n len = Writes.weight (resize_of slots (id_of n) len)

abbrev pub lengths_cost : List (Option ArenaNode) → List Numbered → ℕ
lengths_cost slots [] = 0
lengths_cost slots (n ∷ ns) = length_cost slots n.number n.node.count + lengths_cost slots ns

cons_parts : {X : Type 0} (x y : X) (xs ys : List X) → x ∷ xs ≡ y ∷ ys → (x ≡ y) × (xs ≡ ys)
cons_parts x y xs ys e = (cc, cc)

no_cons : {X : Type 0} (y : X) (ys : List X) → ◌≡◌ {A = List X} [] (y ∷ ys) → ⊥
no_cons y ys e = cc

-- one length is one write at most, and none where it is the node's
one_length : (slots : Slots) (n len : ℕ) → length_cost slots n len ≤ 1
one_length slots n len = go (nat_eq (len_under slots (id_of n)) len)
  where
    go : (b : Bool) → Writes.weight (if b then [] else (Resize (id_of n) len ∷ [])) ≤ 1
    go true = omega arith
    go false = omega arith

pub same_length : (slots : Slots) (n len old : ℕ) → len_under slots (id_of n) ≡ old → length_cost slots n len ≤ (if old == len then 0 else 1)
same_length slots n len old e = subst (λ k. Writes.weight (if nat_eq (len_under slots (id_of n)) len then [] else (Resize (id_of n) len ∷ [])) ≤ (if nat_eq k len then 0 else 1)) e (go (nat_eq (len_under slots (id_of n)) len))
  where
    go : (b : Bool) → Writes.weight (if b then [] else (Resize (id_of n) len ∷ [])) ≤ (if b then 0 else 1)
    go true = omega arith
    go false = omega arith

-- the nodes have the lengths that are noted
abbrev pub HaveCounts : List (Option ArenaNode) → List Numbered → Type 0
HaveCounts slots os = Each (λ (o : Numbered). len_under slots (id_of o.number) ≡ o.node.count) os

module _ (t : Transaction) (slots : Slots) (old new : List Sign) (root : ℕ) (apart : AllApart (root ∷ nums (map token_of old)))
    (traced : AllTraced (new_place t) old (root ∷ nums (map token_of old)) new 0) where
  abbrev AreOld : List Numbered → Type 0
  AreOld = Each (BothNamed old root)

  abbrev AreNew : List Numbered → Type 0
  AreNew = Each (BothNamed new root)

  same_node : (o n : Numbered) → BothNamed old root o → BothNamed new root n → n.number ≡ o.number → matches (old_seen t o) (new_seen t n) ≡ true
  same_node o n ho hn e = number_match t old new root apart traced o.node.name n.node.name o.number n.number o.node.count n.node.count ho.0 hn.0 e

  other_node : (o n : Numbered) → BothNamed old root o → BothNamed new root n → n.number ≢ o.number → matches (old_seen t o) (new_seen t n) ≡ false
  other_node o n ho hn ne = go (matches (old_seen t o) (new_seen t n)) refl
    where
      go : (b : Bool) → matches (old_seen t o) (new_seen t n) ≡ b → matches (old_seen t o) (new_seen t n) ≡ false
      go false e = e
      go true e = absurd (ne (match_number t old new root apart traced o.node.name n.node.name o.number n.number o.node.count n.node.count ho.0 hn.0 e))

  same_above : (o n : Numbered) → BothNamed old root o → BothNamed new root n → parents_match (old_seen t o) (new_seen t n) ≡ true → n.above ≡ o.above
  same_above o n ho hn h = match_number t old new root apart traced o.node.parent n.node.parent o.above n.above 0 0 ho.1 hn.1 h

  none_new : (o : Numbered) (ns : List Numbered) → BothNamed old root o → AreNew ns → Apart o.number (map number ns) →
      list_any (λ n. matches (old_seen t o) n) (map (new_seen t) ns) ≡ false
  none_new o [] ho hn a = refl
  none_new o (n ∷ ns) ho hn a =
      ap (λ b. b || list_any (λ m. matches (old_seen t o) m) (map (new_seen t) ns)) (other_node o n ho hn.0 (λ e. a.0 (sym e))) ∙ none_new o ns ho hn.1 a.1

  none_old : (n : Numbered) (os : List Numbered) → BothNamed new root n → AreOld os → Apart n.number (map number os) →
      list_any (λ o. matches o (new_seen t n)) (map (old_seen t) os) ≡ false
  none_old n [] hn ho a = refl
  none_old n (o ∷ os) hn ho a =
      ap (λ b. b || list_any (λ m. matches m (new_seen t n)) (map (old_seen t) os)) (other_node o n ho.0 hn a.0) ∙ none_old n os hn ho.1 a.1

  moved_cost : (o n : Numbered) (sto stn : List ℕ) → BothNamed old root o → BothNamed new root n → Some o.above ≡ top sto → Some n.above ≡ top stn →
      moved_if (top sto) (top stn) ≤ (if parents_match (old_seen t o) (new_seen t n) then 0 else 7)
  moved_cost o n sto stn ho hn eo en =
      subst (λ x. moved_if x (top stn) ≤ (if parents_match (old_seen t o) (new_seen t n) then 0 else 7)) eo
      (subst (λ x. moved_if (Some o.above) x ≤ (if parents_match (old_seen t o) (new_seen t n) then 0 else 7)) en (go (parents_match (old_seen t o) (new_seen t n)) refl))
    where
      seven : (b : Bool) → (if b then 0 else 7) ≤ 7
      seven true = omega arith
      seven false = omega arith

      go : (b : Bool) → parents_match (old_seen t o) (new_seen t n) ≡ b → (if eqb o.above n.above then 0 else 7) ≤ (if b then 0 else 7)
      go false e = seven (eqb o.above n.above)
      go true e = subst (λ b. (if b then 0 else 7) ≤ 0) (sym (eq-eqb o.above n.above (sym (same_above o n ho hn e)))) (omega arith)

  -- the script's nodes are these
  pub record Listed (xs : List Step) (os ms : List Numbered) (sto stn : List ℕ) : Type 0 where
    pub old_named : AreOld os
    pub new_named : AreNew ms
    pub old_spots : map spot_of os ≡ spots (old_side xs []) sto
    pub new_spots : map spot_of ms ≡ spots (new_side xs []) stn
    pub counts : HaveCounts slots os

  -- and they are pieces that fit
  pub record Charged (allo alln : List Numbered) (xs : List Step) (os ms : List Numbered) (sto stn : List ℕ) : Type 0 where
    pub olds_are : olds (pieces_of t xs os ms) ≡ map (old_seen t) os
    pub news_are : news (pieces_of t xs os ms) ≡ map (new_seen t) ms
    pub fit : AllFit (map (old_seen t) allo) (map (new_seen t) alln) (pieces_of t xs os ms)
    pub cost : script_cost xs sto stn + lengths_cost slots ms ≤ weight (pieces_of t xs os ms)

  both_cost : (o m : Numbered) (n : ℕ) (sto stn : List ℕ) (rest pieces : ℕ) → BothNamed old root o → BothNamed new root m →
      spot_of o ≡ record { number = n; above = top sto } →
      spot_of m ≡ record { number = n; above = top stn } → len_under slots (id_of o.number) ≡ o.node.count → rest ≤ pieces →
      (matches (old_seen t o) (new_seen t m) ≡ true)
      × (moved_if (top sto) (top stn) + rest + length_cost slots m.number m.node.count ≤ weight_of (Both (old_seen t o) (new_seen t m)) + pieces)
  both_cost o m n sto stn rest pieces ho hm eo em len le =
      let same : m.number ≡ o.number = ap (λ (s : Spot). s.number) em ∙ sym (ap (λ (s : Spot). s.number) eo) in
      let moved = moved_cost o m sto stn ho hm (ap (λ (s : Spot). s.above) eo) (ap (λ (s : Spot). s.above) em) in
      let own = same_length slots m.number m.node.count o.node.count (ap (λ k. len_under slots (id_of k)) same ∙ len) in
      (same_node o m ho hm same, omega (arith, moved, own, le))

  pub charged : (allo alln : List Numbered) (xs : List Step) (os ms : List Numbered) (sto stn : List ℕ) → AreOld allo → AreNew alln → Listed xs os ms sto stn →
      AllFrom (drops xs) (map number alln) →
      AllFrom (puts xs) (map number allo) → Charged allo alln xs os ms sto stn
  charged allo alln [] [] [] sto stn ao an l d p = record { olds_are = refl; news_are = refl; fit = tt; cost = omega arith }
  charged allo alln [] (o ∷ os) ms sto stn ao an l d p = absurd (no_cons (spot_of o) (map spot_of os) (sym l.old_spots))
  charged allo alln [] [] (m ∷ ms) sto stn ao an l d p = absurd (no_cons (spot_of m) (map spot_of ms) (sym l.new_spots))
  charged allo alln (Enter Keep n ∷ xs) [] ms sto stn ao an l d p = absurd (no_cons _ _ l.old_spots)
  charged allo alln (Enter Keep n ∷ xs) (o ∷ os) [] sto stn ao an l d p = absurd (no_cons _ _ l.new_spots)
  charged allo alln (Enter Keep n ∷ xs) (o ∷ os) (m ∷ ms) sto stn ao an l d p =
      let eo = cons_parts _ _ _ _ l.old_spots in
      let em = cons_parts _ _ _ _ l.new_spots in
      let rest = charged allo alln xs os ms (n ∷ sto) (n ∷ stn) ao an (record { old_named = l.old_named.1; new_named = l.new_named.1; old_spots = eo.1; new_spots = em.1; counts = l.counts.1 }) d p in
      let own = both_cost o m n sto stn (script_cost xs (n ∷ sto) (n ∷ stn) + lengths_cost slots ms) (weight (pieces_of t xs os ms)) l.old_named.0 l.new_named.0 eo.0 em.0 l.counts.0 rest.cost in
      let cost = own.1 in
      record { olds_are = ap (λ s. old_seen t o ∷ s) rest.olds_are; news_are = ap (λ s. new_seen t m ∷ s) rest.news_are; fit = (own.0, rest.fit); cost = omega (arith, cost) }
  charged allo alln (Enter Drop n ∷ xs) [] ms sto stn ao an l d p = absurd (no_cons _ _ l.old_spots)
  charged allo alln (Enter Drop n ∷ xs) (o ∷ os) ms sto stn ao an l d p =
      let eo = cons_parts _ _ _ _ l.old_spots in
      let rest = charged allo alln xs os ms (n ∷ sto) stn ao an (record { old_named = l.old_named.1; new_named = l.new_named; old_spots = eo.1; new_spots = l.new_spots; counts = l.counts.1 }) d.1 p in
      let cost = rest.cost in
      record {
        olds_are = ap (λ s. old_seen t o ∷ s) rest.olds_are;
        news_are = rest.news_are;
        fit = (none_new o alln l.old_named.0 an (subst (λ k. Apart k (map number alln)) (sym (ap (λ (s : Spot). s.number) eo.0)) d.0), rest.fit);
        cost = omega (arith, cost);
      }
  charged allo alln (Enter Put n ∷ xs) os [] sto stn ao an l d p = absurd (no_cons _ _ l.new_spots)
  charged allo alln (Enter Put n ∷ xs) os (m ∷ ms) sto stn ao an l d p =
      let em = cons_parts _ _ _ _ l.new_spots in
      let rest = charged allo alln xs os ms sto (n ∷ stn) ao an (record { old_named = l.old_named; new_named = l.new_named.1; old_spots = l.old_spots; new_spots = em.1; counts = l.counts }) d p.1 in
      let cost = rest.cost in
      let len = one_length slots m.number m.node.count in
      record {
        olds_are = rest.olds_are;
        news_are = ap (λ s. new_seen t m ∷ s) rest.news_are;
        fit = (none_old m allo l.new_named.0 ao (subst (λ k. Apart k (map number allo)) (sym (ap (λ (s : Spot). s.number) em.0)) p.0), rest.fit);
        cost = omega (arith, cost, len);
      }
  charged allo alln (Leave Keep ∷ xs) os ms sto stn ao an l d p =
      let r = charged allo alln xs os ms (drop 1 sto) (drop 1 stn) ao an (record { old_named = l.old_named; new_named = l.new_named; old_spots = l.old_spots; new_spots = l.new_spots; counts = l.counts }) d p in
      record { olds_are = r.olds_are; news_are = r.news_are; fit = r.fit; cost = r.cost }
  charged allo alln (Leave Drop ∷ xs) os ms sto stn ao an l d p =
      let r = charged allo alln xs os ms (drop 1 sto) stn ao an (record { old_named = l.old_named; new_named = l.new_named; old_spots = l.old_spots; new_spots = l.new_spots; counts = l.counts }) d p in
      record { olds_are = r.olds_are; news_are = r.news_are; fit = r.fit; cost = r.cost }
  charged allo alln (Leave Put ∷ xs) os ms sto stn ao an l d p =
      let r = charged allo alln xs os ms sto (drop 1 stn) ao an (record { old_named = l.old_named; new_named = l.new_named; old_spots = l.old_spots; new_spots = l.new_spots; counts = l.counts }) d p in
      record { olds_are = r.olds_are; news_are = r.news_are; fit = r.fit; cost = r.cost }
  charged allo alln (Text Keep n ∷ xs) [] ms sto stn ao an l d p = absurd (no_cons _ _ l.old_spots)
  charged allo alln (Text Keep n ∷ xs) (o ∷ os) [] sto stn ao an l d p = absurd (no_cons _ _ l.new_spots)
  charged allo alln (Text Keep n ∷ xs) (o ∷ os) (m ∷ ms) sto stn ao an l d p =
      let eo = cons_parts _ _ _ _ l.old_spots in
      let em = cons_parts _ _ _ _ l.new_spots in
      let rest = charged allo alln xs os ms sto stn ao an (record { old_named = l.old_named.1; new_named = l.new_named.1; old_spots = eo.1; new_spots = em.1; counts = l.counts.1 }) d p in
      let own = both_cost o m n sto stn (script_cost xs sto stn + lengths_cost slots ms) (weight (pieces_of t xs os ms)) l.old_named.0 l.new_named.0 eo.0 em.0 l.counts.0 rest.cost in
      let cost = own.1 in
      record { olds_are = ap (λ s. old_seen t o ∷ s) rest.olds_are; news_are = ap (λ s. new_seen t m ∷ s) rest.news_are; fit = (own.0, rest.fit); cost = omega (arith, cost) }
  charged allo alln (Text Drop n ∷ xs) [] ms sto stn ao an l d p = absurd (no_cons _ _ l.old_spots)
  charged allo alln (Text Drop n ∷ xs) (o ∷ os) ms sto stn ao an l d p =
      let eo = cons_parts _ _ _ _ l.old_spots in
      let rest = charged allo alln xs os ms sto stn ao an (record { old_named = l.old_named.1; new_named = l.new_named; old_spots = eo.1; new_spots = l.new_spots; counts = l.counts.1 }) d.1 p in
      let cost = rest.cost in
      record {
        olds_are = ap (λ s. old_seen t o ∷ s) rest.olds_are;
        news_are = rest.news_are;
        fit = (none_new o alln l.old_named.0 an (subst (λ k. Apart k (map number alln)) (sym (ap (λ (s : Spot). s.number) eo.0)) d.0), rest.fit);
        cost = omega (arith, cost);
      }
  charged allo alln (Text Put n ∷ xs) os [] sto stn ao an l d p = absurd (no_cons _ _ l.new_spots)
  charged allo alln (Text Put n ∷ xs) os (m ∷ ms) sto stn ao an l d p =
      let em = cons_parts _ _ _ _ l.new_spots in
      let rest = charged allo alln xs os ms sto stn ao an (record { old_named = l.old_named; new_named = l.new_named.1; old_spots = l.old_spots; new_spots = em.1; counts = l.counts }) d p.1 in
      let cost = rest.cost in
      let len = one_length slots m.number m.node.count in
      record {
        olds_are = rest.olds_are;
        news_are = ap (λ s. new_seen t m ∷ s) rest.news_are;
        fit = (none_old m allo l.new_named.0 ao (subst (λ k. Apart k (map number allo)) (sym (ap (λ (s : Spot). s.number) em.0)) p.0), rest.fit);
        cost = omega (arith, cost, len);
      }
  charged allo alln (Count n count ∷ xs) os ms sto stn ao an l d p =
      let r = charged allo alln xs os ms sto stn ao an (record { old_named = l.old_named; new_named = l.new_named; old_spots = l.old_spots; new_spots = l.new_spots; counts = l.counts }) d p in
      record { olds_are = r.olds_are; news_are = r.news_are; fit = r.fit; cost = r.cost }
