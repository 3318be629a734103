-- Nodes that are made one after the other, each with its step in the script.
use Rattle.std.proofs.Common.{◌≡◌, ◌≢◌, ◌+◌, ℕ, false, Option, Some, None, IsSome, is_some, List, [], ◌∷◌, ◌++◌, length, map, refl, sym, ap, ◌∙◌, subst, arith, append-nil}
use Rattle.std.specs.Prelude.{All}
use Rattle.std.proofs.lemmas.Bool.{true≢false}
use Rattle.std.proofs.lemmas.List.{length-append}
use Rattle.std.proofs.lemmas.List.Elements.{All-cons}
use Rattle.ve_arena.specs.declared.node.NodeId.{NodeId}
use Rattle.ve_arena.specs.declared.node.NodeWhat.{NodeWhat}
use Rattle.ve_arena.specs.declared.node.NodeWhat.TheVariants as what
use Rattle.ve_arena.specs.declared.node.ArenaNode.{ArenaNode}
use Rattle.ve_arena.specs.Arena.{slot_at, IsLive, Puts}
use Rattle.ve_tree.specs.Links.{number_of, Apart, AllApart}
use Rattle.ve_tree.specs.Grown.{AllVacant}
use Rattle.ve_tree.proofs.WalkLemmas.{Slots}
use Rattle.ve_repair.specs.declared.script.How.{How}
use Rattle.ve_repair.specs.declared.script.How.TheVariants.{Put}
use Rattle.ve_repair.specs.declared.script.Step.{Step}
use Rattle.ve_repair.specs.Frees.{node_of, with_node, nodes_of}
use Rattle.ve_repair.specs.Reader.{put_step, Keeps, AreLive, HasMade, MakesOn, MakesSame, IsPaid}

-- the nodes of a script in two parts
pub nodes_of-append : (how : How) (xs ys : List Step) → nodes_of how (xs ++ ys) ≡ nodes_of how xs ++ nodes_of how ys
nodes_of-append how [] ys = refl
nodes_of-append how (x ∷ xs) ys = ap (with_node (node_of how x)) (nodes_of-append how xs ys) ∙ with (node_of how x) (nodes_of how xs) (nodes_of how ys)
  where
    with : (o : Option NodeId) (ns ms : List NodeId) → with_node o (ns ++ ms) ≡ with_node o ns ++ ms
    with None ns ms = refl
    with (Some n) ns ms = refl

one_node : (x : Step) (n : NodeId) (xs : List Step) → node_of Put x ≡ Some n → nodes_of Put (xs ++ x ∷ []) ≡ nodes_of Put xs ++ n ∷ []
one_node x n xs e = nodes_of-append Put xs (x ∷ []) ∙ ap (λ o. nodes_of Put xs ++ with_node o []) e

no_node : (x : Step) (xs : List Step) → node_of Put x ≡ None → nodes_of Put (xs ++ x ∷ []) ≡ nodes_of Put xs
no_node x xs e = nodes_of-append Put xs (x ∷ []) ∙ ap (λ o. nodes_of Put xs ++ with_node o []) e ∙ append-nil (nodes_of Put xs)

put_node : (sort : NodeWhat) (n : NodeId) → node_of Put (put_step sort n) ≡ Some n
put_node what.Run n = refl
put_node (what.Node kind) n = refl

pub live_not : (slots : Slots) (n q : ℕ) → slot_at slots n ≡ None → IsSome (slot_at slots q) → q ≢ n
live_not slots n q vacant live e = let bad : is_some (slot_at slots q) ≡ false = ap (λ m. is_some (slot_at slots m)) e ∙ ap is_some vacant in absurd (true≢false (sym live ∙ bad))

-- a node is made under a number that had none
pub put_keeps : (old new : Slots) (n : NodeId) (slot : Option ArenaNode) → slot_at old n.0 ≡ None → Puts old new n slot → Keeps old new
put_keeps old new n slot vacant p = λ q live. p.others q (live_not old n.0 q vacant live)

live_still : (old new : Slots) (ns : List NodeId) → Keeps old new → AreLive old ns → AreLive new ns
live_still old new [] k h = tt
live_still old new (m ∷ ns) k h = (subst IsSome (sym (k m.0 h.0)) h.0, live_still old new ns k h.1)

live_more : (slots : Slots) (ns : List NodeId) (n : NodeId) → AreLive slots ns → IsLive slots n → AreLive slots (ns ++ n ∷ [])
live_more slots [] n h l = (l, tt)
live_more slots (m ∷ ns) n h l = (h.0, live_more slots ns n h.1 l)

-- it is none of those that are there
apart_made : (slots : Slots) (ns : List NodeId) (n : ℕ) → slot_at slots n ≡ None → AreLive slots ns → Apart n (map number_of ns)
apart_made slots [] n vacant h = tt
apart_made slots (m ∷ ns) n vacant h = ((λ e. live_not slots n m.0 vacant h.0 (sym e)), apart_made slots ns n vacant h.1)

apart_front : (q : ℕ) (ns : List NodeId) (n : NodeId) → Apart q (map number_of (ns ++ n ∷ [])) → Apart q (map number_of ns) × (q ≢ n.0)
apart_front q [] n h = (tt, h.0)
apart_front q (m ∷ ns) n h = let r = apart_front q ns n h.1 in ((h.0, r.0), r.1)

all_apart_more : (ns : List NodeId) (n : NodeId) → AllApart (map number_of ns) → Apart n.0 (map number_of ns) → AllApart (map number_of (ns ++ n ∷ []))
all_apart_more [] n h a = (tt, tt)
all_apart_more (m ∷ ns) n h a = (before m.0 ns h.0 (λ e. a.0 (sym e)), all_apart_more ns n h.1 a.1)
  where
    before : (q : ℕ) (ns : List NodeId) → Apart q (map number_of ns) → q ≢ n.0 → Apart q (map number_of (ns ++ n ∷ []))
    before q [] h d = (d, tt)
    before q (m ∷ ns) h d = (h.0, before q ns h.1 d)

vacant_more : (slots : Slots) (ns : List NodeId) (n : NodeId) → AllVacant slots (map number_of ns) → slot_at slots n.0 ≡ None → AllVacant slots (map number_of (ns ++ n ∷ []))
vacant_more slots [] n h v = (v, tt)
vacant_more slots (m ∷ ns) n h v = (h.0, vacant_more slots ns n h.1 v)

pub keeps_on : (a b c : Slots) → Keeps a b → Keeps b c → Keeps a c
keeps_on a b c h k = λ q live. k q (subst IsSome (sym (h q live)) live) ∙ h q live

made_more : (before old new : Slots) (ns : List NodeId) (n : NodeId) (node : ArenaNode) → slot_at old n.0 ≡ None → Puts old new n (Some node) → HasMade before old ns →
    HasMade before new (ns ++ n ∷ [])
made_more before old new ns n node vacant p h =
    let k = put_keeps old new n (Some node) vacant p in
    let a = apart_made old ns n.0 vacant h.live in
    record {
      keeps = keeps_on before old new h.keeps k;
      others = λ q f. let r = apart_front q ns n f in p.others q r.1 ∙ h.others q r.0;
      live = live_more new ns n (live_still old new ns k h.live) (ap is_some p.here);
      apart = all_apart_more ns n h.apart a;
      vacant = vacant_more before ns n h.vacant (sym (h.others n.0 a) ∙ vacant);
    }

-- nothing is made yet
pub made_none : (slots : Slots) → HasMade slots slots []
made_none slots = record { keeps = λ q h. refl; others = λ q h. refl; live = tt; apart = tt; vacant = tt }

pub makes_one : (old new : Slots) (xs : List Step) (sort : NodeWhat) (n : NodeId) (node : ArenaNode) → slot_at old n.0 ≡ None → Puts old new n (Some node) →
    MakesOn old xs new (xs ++ put_step sort n ∷ [])
makes_one old new xs sort n node vacant p = λ before h.
    subst (HasMade before new) (sym (one_node (put_step sort n) n xs (put_node sort n))) (made_more before old new (nodes_of Put xs) n node vacant p h)

pub makes_none : (xs : List Step) (x : Step) → node_of Put x ≡ None → MakesSame xs (xs ++ x ∷ [])
makes_none xs x e = no_node x xs e

pub makes_then : (old mid new : Slots) (xs ys zs : List Step) → MakesOn old xs mid ys → MakesOn mid ys new zs → MakesOn old xs new zs
makes_then old mid new xs ys zs f g = λ before h. g before (f before h)

pub makes_still : (old new : Slots) (xs ys zs : List Step) → MakesOn old xs new ys → MakesSame ys zs → MakesOn old xs new zs
makes_still old new xs ys zs f e = λ before h. subst (HasMade before new) (sym e) (f before h)

pub makes_same : (slots : Slots) (xs ys : List Step) → MakesSame xs ys → MakesOn slots xs slots ys
makes_same slots xs ys e = λ before h. subst (HasMade before slots) (sym e) h

pub pays_one : (old : ℕ) (xs : List Step) (sort : NodeWhat) (n : NodeId) → IsPaid old xs (old + 1) (xs ++ put_step sort n ∷ [])
pays_one old xs sort n =
    let e = ap (λ (l : List NodeId). length l) (one_node (put_step sort n) n xs (put_node sort n)) in
    let f = length-append (nodes_of Put xs) (n ∷ []) in
    omega (arith, e, f)

-- all of them are there, for those who free them
pub all_live : (slots : Slots) (ns : List NodeId) → AreLive slots ns → All (IsLive slots) ns
all_live slots [] h = λ k d lt. absurd (omega (arith, lt))
all_live slots (n ∷ ns) h = All-cons (IsLive slots) n ns h.0 (all_live slots ns h.1)

pub makes_from : (old new : Slots) (ws xs ys : List Step) → ws ≡ xs → MakesOn old ws new ys → MakesOn old xs new ys
makes_from old new ws xs ys e f = subst (λ (zs : List Step). MakesOn old zs new ys) e f
