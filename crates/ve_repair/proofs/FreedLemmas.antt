-- An arena from which nodes are freed, one after the other.
use Rattle.std.proofs.Common.{◌≡◌, ◌≢◌, ℕ, zero, suc, ◌+◌, ◌<◌, Bool, true, false, if◌then◌else◌, Option, Some, None, IsSome, List, [], ◌∷◌, length, get_or, drop, map, refl, sym, ap, ◌∙◌, subst, eqb, arith, drop-cons}
use Rattle.std.specs.Prelude.{All}
use Rattle.std.proofs.lemmas.List.Elements.{All-head, All-tail}
use Rattle.std.proofs.lemmas.Bool.{eq-eqb, eqb-true}
use Rattle.ve_arena.specs.declared.node.NodeId.{NodeId}
use Rattle.ve_arena.specs.declared.node.ArenaNode.{ArenaNode}
use Rattle.ve_arena.specs.Arena.{slot_at, IsLive, Puts}
use Rattle.ve_tree.specs.Links.{Links, link_in, links_of, number_of, Apart, AllApart}
use Rattle.ve_repair.specs.declared.script.How.{How}
use Rattle.ve_repair.specs.declared.script.How.TheVariants.{Keep, Cut, Put}
use Rattle.ve_repair.specs.declared.script.Step.{Step}
use Rattle.ve_repair.specs.declared.script.Step.TheVariants.{Enter, Leave, Text, Count}
use Rattle.ve_repair.specs.Work.{freed}
use Rattle.ve_repair.specs.Tokens.{drops, freed_all}
use Rattle.ve_repair.specs.Agree.{steps_of}
use Rattle.ve_repair.specs.Frees.{node_of, with_node, nodes_of, freed_slot, FreedLinks}
use Rattle.ve_repair.proofs.RelinkLemmas.{by_case}

abbrev Slots : Type 0
Slots = List (Option ArenaNode)

choose : {A : Type 0} (n q : ℕ) (x y : A) → n ≢ q → (if eqb n q then x else y) ≡ y
choose n q x y h = go (eqb n q) refl
  where
    go : (b : Bool) → eqb n q ≡ b → (if b then x else y) ≡ y
    go true e = absurd (h (eqb-true n q e))
    go false e = refl

-- one node is freed
pub one_freed : (old new : Slots) (n : NodeId) → Puts old new n None → (q : ℕ) → slot_at new q ≡ (if eqb n.0 q then None else slot_at old q)
one_freed old new n p q = by_case n.0 q
    (λ e. subst (λ q. slot_at new q ≡ (if eqb n.0 q then None else slot_at old q)) e
    (p.here ∙ sym (ap (λ b. if b then None else slot_at old n.0) (eq-eqb n.0 n.0 refl))))
    (λ h. p.others q (λ e. h (sym e)) ∙ sym (choose n.0 q None (slot_at old q) h))

-- all of them are there
abbrev pub AllLive : Slots → List NodeId → Type 0
AllLive slots [] = Unit {0}
AllLive slots (n ∷ ns) = IsLive slots n × AllLive slots ns

-- so far those before the rest are freed
pub record Freeing (how : How) (old now : Slots) (before steps : ℕ) (rest all : List Step) : Type 0 where
  pub slots : (q : ℕ) → freed_slot (nodes_of how rest) q (slot_at now q) ≡ freed_slot (nodes_of how all) q (slot_at old q)
  pub live : AllLive now (nodes_of how rest)
  pub apart : AllApart (map number_of (nodes_of how rest))
  pub cost_is : steps + length (nodes_of how rest) ≡ before + length (nodes_of how all)

all_live : (slots : Slots) (ns : List NodeId) → All (IsLive slots) ns → AllLive slots ns
all_live slots [] h = tt
all_live slots (n ∷ ns) h = (All-head (IsLive slots) n ns h, all_live slots ns (All-tail (IsLive slots) n ns h))

pub freeing_start : (how : How) (old : Slots) (before : ℕ) (all : List Step) → All (IsLive old) (nodes_of how all) → AllApart (map number_of (nodes_of how all)) → Freeing how old old before before all all
freeing_start how old before all live apart = record { slots = λ q. refl; live = all_live old (nodes_of how all) live; apart = apart; cost_is = refl }

others_live : (old new : Slots) (n : NodeId) (ns : List NodeId) → Puts old new n None → Apart n.0 (map number_of ns) → AllLive old ns → AllLive new ns
others_live old new n [] p a h = tt
others_live old new n (m ∷ ns) p a h = (subst IsSome (sym (p.others m.0 (λ e. a.0 (sym e)))) h.0, others_live old new n ns p a.1 h.1)

freed_on : (how : How) (old now new : Slots) (before steps : ℕ) (n : NodeId) (x : Step) (rest all : List Step) → node_of how x ≡ Some n → Freeing how old now before steps (x ∷ rest) all →
    Puts now new n None → (steps1 : ℕ) → steps1 ≡ steps + 1 → Freeing how old new before steps1 rest all
freed_on how old now new before steps n x rest all is f p steps1 e =
    record {
      slots = λ q. ap (freed_slot (nodes_of how rest) q) (one_freed now new n p q) ∙ ap (λ l. freed_slot l q (slot_at now q)) (sym list) ∙ f.slots q;
      live = others_live now new n (nodes_of how rest) p (subst (λ l. AllApart (map number_of l)) list f.apart).0 (subst (AllLive now) list f.live).1;
      apart = (subst (λ l. AllApart (map number_of l)) list f.apart).1;
      cost_is = let c = f.cost_is in let l = ap length list in omega (arith, c, l, e);
    }
  where
    list : nodes_of how (x ∷ rest) ≡ n ∷ nodes_of how rest
    list = ap (λ o. with_node o (nodes_of how rest)) is

passed_on : (how : How) (old now : Slots) (before steps : ℕ) (x : Step) (rest all : List Step) → node_of how x ≡ None → Freeing how old now before steps (x ∷ rest) all → Freeing how old now before steps rest all
passed_on how old now before steps x rest all is f =
    let list : nodes_of how (x ∷ rest) ≡ nodes_of how rest = ap (λ o. with_node o (nodes_of how rest)) is in
    record {
      slots = λ q. ap (λ l. freed_slot l q (slot_at now q)) (sym list) ∙ f.slots q;
      live = subst (AllLive now) list f.live;
      apart = subst (λ l. AllApart (map number_of l)) list f.apart;
      cost_is = let c = f.cost_is in let l = ap length list in omega (arith, c, l);
    }

-- at a position of the script
at_step : (all : List Step) (k : ℕ) (x : Step) → k < length all → x ≡ get_or all k x → drop k all ≡ x ∷ drop (suc k) all
at_step all k x within is = drop-cons all k x within ∙ ap (λ y. y ∷ drop (suc k) all) (sym is)

pub freeing_cut : (how : How) (old now new : Slots) (before steps steps1 k : ℕ) (n : NodeId) (x : Step) (all : List Step) → k < length all → x ≡ get_or all k x → node_of how x ≡ Some n →
    Freeing how old now before steps (drop k all) all → Puts now new n None → steps1 ≡ steps + 1 → Freeing how old new before steps1 (drop (k + 1) all) all
freeing_cut how old now new before steps steps1 k n x all within is cut f p e =
    subst (λ m. Freeing how old new before steps1 (drop m all) all) (let s : suc k ≡ k + 1 = omega arith in s)
    (freed_on how old now new before steps n x (drop (suc k) all) all cut (subst (λ l. Freeing how old now before steps l all) (at_step all k x within is) f) p steps1 e)

pub freeing_none : (how : How) (old now : Slots) (before steps k : ℕ) (x : Step) (all : List Step) → k < length all → x ≡ get_or all k x → node_of how x ≡ None →
    Freeing how old now before steps (drop k all) all → Freeing how old now before steps (drop (k + 1) all) all
freeing_none how old now before steps k x all within is cut f =
    subst (λ m. Freeing how old now before steps (drop m all) all) (let s : suc k ≡ k + 1 = omega arith in s)
    (passed_on how old now before steps x (drop (suc k) all) all cut (subst (λ l. Freeing how old now before steps l all) (at_step all k x within is) f))

-- the same of the step that a loop is at
again : (all : List Step) (k : ℕ) (d : Step) → k < length all → get_or all k d ≡ get_or all k (get_or all k d)
again [] k d h = absurd (omega (arith, h))
again (x ∷ xs) zero d h = refl
again (x ∷ xs) (suc k) d h = again xs k d (omega (arith, h)) ∙ other xs k d (get_or xs k d) (get_or (x ∷ xs) (suc k) d) (omega (arith, h))
  where
    other : (xs : List Step) (k : ℕ) (d e f : Step) → k < length xs → get_or xs k e ≡ get_or xs k f
    other [] k d e f h = absurd (omega (arith, h))
    other (x ∷ xs) zero d e f h = refl
    other (x ∷ xs) (suc k) d e f h = other xs k d e f (omega (arith, h))

pub freeing_cut_at : (how : How) (old now new : Slots) (before steps steps1 k : ℕ) (n : NodeId) (d : Step) (all : List Step) → k < length all → node_of how (get_or all k d) ≡ Some n →
    Freeing how old now before steps (drop k all) all → Puts now new n None → steps1 ≡ steps + 1 → Freeing how old new before steps1 (drop (k + 1) all) all
freeing_cut_at how old now new before steps steps1 k n d all within cut f p e =
    freeing_cut how old now new before steps steps1 k n (get_or all k d) all within (again all k d within) cut f p e

pub freeing_none_at : (how : How) (old now : Slots) (before steps k : ℕ) (d : Step) (all : List Step) → k < length all → node_of how (get_or all k d) ≡ None →
    Freeing how old now before steps (drop k all) all → Freeing how old now before steps (drop (k + 1) all) all
freeing_none_at how old now before steps k d all within cut f = freeing_none how old now before steps k (get_or all k d) all within (again all k d within) cut f

-- the links
link_freed : (f : ArenaNode → Option NodeId) (n q : ℕ) (slot : Option ArenaNode) → link_in f (if eqb n q then None else slot) ≡ (if eqb n q then None else link_in f slot)
link_freed f n q slot = go (eqb n q)
  where
    go : (b : Bool) → link_in f (if b then None else slot) ≡ (if b then None else link_in f slot)
    go true = refl
    go false = refl

-- a slot function with the links that are read from it
abbrev links_in : (ℕ → Option ArenaNode) → Links
links_in at = record {
  parent = λ q. link_in (λ node. node.parent) (at q);
  first = λ q. link_in (λ node. node.first) (at q);
  last = λ q. link_in (λ node. node.last) (at q);
  before = λ q. link_in (λ node. node.before) (at q);
  after = λ q. link_in (λ node. node.after) (at q);
}

freed_links : (at : ℕ → Option ArenaNode) (n : ℕ) → links_in (λ q. if eqb n q then None else at q) ≡ freed n (links_in at)
freed_links at n = λ i. record {
  parent = λ q. link_freed (λ node. node.parent) n q (at q) i;
  first = λ q. link_freed (λ node. node.first) n q (at q) i;
  last = λ q. link_freed (λ node. node.last) n q (at q) i;
  before = λ q. link_freed (λ node. node.before) n q (at q) i;
  after = λ q. link_freed (λ node. node.after) n q (at q) i;
}

all_freed : (gone : List NodeId) (at : ℕ → Option ArenaNode) → links_in (λ q. freed_slot gone q (at q)) ≡ freed_all (map number_of gone) (links_in at)
all_freed [] at = refl
all_freed (n ∷ gone) at = all_freed gone (λ q. if eqb n.0 q then None else at q) ∙ ap (freed_all (map number_of gone)) (freed_links at n.0)

pub cuts-drops : (script : List Step) → map number_of (nodes_of Cut script) ≡ drops (steps_of script)
cuts-drops [] = refl
cuts-drops (Enter Keep n ∷ xs) = cuts-drops xs
cuts-drops (Enter Cut n ∷ xs) = ap (λ l. n.0 ∷ l) (cuts-drops xs)
cuts-drops (Enter Put n ∷ xs) = cuts-drops xs
cuts-drops (Leave how ∷ xs) = cuts-drops xs
cuts-drops (Text Keep n ∷ xs) = cuts-drops xs
cuts-drops (Text Cut n ∷ xs) = ap (λ l. n.0 ∷ l) (cuts-drops xs)
cuts-drops (Text Put n ∷ xs) = cuts-drops xs
cuts-drops (Count n count ∷ xs) = cuts-drops xs

pub freed_links_are : FreedLinks
freed_links_are old new script h =
    (λ i. links_in (λ q. h q i))
    ∙ all_freed (nodes_of Cut script) (slot_at old)
    ∙ ap (λ l. freed_all l (links_of old)) (cuts-drops script)
