-- The nodes that a script frees: they are there, and none is named twice; and links lead to nodes
-- once nodes were made.
use Rattle.std.proofs.Common.{◌≡◌, ℕ, IsSome, List, [], ◌∷◌, map, All, sym, ◌∙◌, subst, arith}
use Rattle.std.proofs.lemmas.List.Elements.{All-cons}
use Rattle.ve_arena.specs.declared.node.NodeId.{NodeId}
use Rattle.ve_arena.specs.Arena.{slot_at, IsLive}
use Rattle.ve_tree.specs.Links.{number_of, AllApart}
use Rattle.ve_repair.specs.declared.script.How.{How}
use Rattle.ve_repair.specs.declared.script.How.TheVariants.{Keep, Cut, Put}
use Rattle.ve_repair.specs.declared.script.Step.{Step}
use Rattle.ve_repair.specs.declared.script.Step.TheVariants.{Enter, Leave, Text, Count}
use Rattle.ve_repair.specs.Agree.{steps_of}
use Rattle.ve_repair.specs.Frees.{node_if, with_node, nodes_of}
use Rattle.ve_repair.specs.Reader.{Slots, Keeps}
use Rattle.ve_repair.specs.Sizing.{StepsAreLive}
use Rattle.ve_repair.specs.Tokens.{Token, drops, old_side}
use Rattle.ve_repair.specs.Ready.{nums}
use Rattle.ve_repair.specs.Work as W
use Rattle.model_items.specs.declared.plain_item.PlainItem.{PlainItem}
use Rattle.ve_tree.specs.IsTree.{IsTree}
use Rattle.ve_repair.specs.Acts.{Act}
use Rattle.ve_repair.specs.Matching.{IsChanged}
use Rattle.ve_repair.specs.Spelled.{Sign, token_of}
use Rattle.ve_repair.specs.Whole.{script_of}
use Rattle.ve_repair.proofs.RelinkLemmas.{all-rs}
use Rattle.ve_repair.proofs.ReadyLemmas.{nums-append}
use Rattle.ve_repair.proofs.CarriedLinksLemmas.{old_numbers}
use Rattle.ve_repair.proofs.FreedLemmas.{cuts-drops}
use Rattle.ve_repair.proofs.NumberLemmas.{apart_drops}

-- one node more, if it is asked for
with_live : (slots : Slots) (how other : How) (n : NodeId) (ns : List NodeId) → IsLive slots n → All (IsLive slots) ns → All (IsLive slots) (with_node (node_if how other n) ns)
with_live slots Keep Keep n ns h all = All-cons (IsLive slots) n ns h all
with_live slots Keep Cut n ns h all = all
with_live slots Keep Put n ns h all = all
with_live slots Cut Keep n ns h all = all
with_live slots Cut Cut n ns h all = All-cons (IsLive slots) n ns h all
with_live slots Cut Put n ns h all = all
with_live slots Put Keep n ns h all = all
with_live slots Put Cut n ns h all = all
with_live slots Put Put n ns h all = All-cons (IsLive slots) n ns h all

pub nodes_live : (slots : Slots) (how : How) (xs : List Step) → StepsAreLive slots xs → All (IsLive slots) (nodes_of how xs)
nodes_live slots how [] h = λ k d lt. absurd (omega (arith, lt))
nodes_live slots how (Enter other n ∷ xs) h = with_live slots how other n (nodes_of how xs) h.0 (nodes_live slots how xs h.1)
nodes_live slots how (Leave other ∷ xs) h = nodes_live slots how xs h.1
nodes_live slots how (Text other n ∷ xs) h = with_live slots how other n (nodes_of how xs) h.0 (nodes_live slots how xs h.1)
nodes_live slots how (Count n count ∷ xs) h = nodes_live slots how xs h.1

-- what goes is named once in the old list
drops_apart : (S : List W.Step) (ts : List Token) → AllApart (nums (old_side S ts)) → AllApart (drops S)
drops_apart [] ts h = tt
drops_apart (W.Enter W.Keep n ∷ S) ts h = drops_apart S ts h.1
drops_apart (W.Enter W.Drop n ∷ S) ts h = (apart_drops S ts n h.0, drops_apart S ts h.1)
drops_apart (W.Enter W.Put n ∷ S) ts h = drops_apart S ts h
drops_apart (W.Leave W.Keep ∷ S) ts h = drops_apart S ts h
drops_apart (W.Leave W.Drop ∷ S) ts h = drops_apart S ts h
drops_apart (W.Leave W.Put ∷ S) ts h = drops_apart S ts h
drops_apart (W.Text W.Keep n ∷ S) ts h = drops_apart S ts h.1
drops_apart (W.Text W.Drop n ∷ S) ts h = (apart_drops S ts n h.0, drops_apart S ts h.1)
drops_apart (W.Text W.Put n ∷ S) ts h = drops_apart S ts h
drops_apart (W.Count n count ∷ S) ts h = drops_apart S ts h

pub cuts_apart : (xs : List Step) (ts : List Token) → AllApart (nums (old_side (steps_of xs) ts)) → AllApart (map number_of (nodes_of Cut xs))
cuts_apart xs ts h = subst AllApart (sym (cuts-drops xs)) (drops_apart (steps_of xs) ts h)

-- in a tree
pub old_apart : (supply : ℕ → ℕ) (root : NodeId) (old : Slots) (items others : List PlainItem) (tree : IsTree old root items) (lefts ss rights : List Sign) (acts : List Act)
    (changed : IsChanged supply root old items others tree lefts ss rights acts) (xs : List Step) → steps_of xs ≡ script_of supply acts ss → AllApart (nums (old_side (steps_of xs) (map token_of rights)))
old_apart supply root old items others tree lefts ss rights acts changed xs is =
    all-rs (nums (map token_of lefts)) (nums (old_side (steps_of xs) (map token_of rights)))
    (subst AllApart (old_numbers supply root old items others tree lefts ss rights acts changed xs is ∙ nums-append (map token_of lefts) (old_side (steps_of xs) (map token_of rights))) tree.apart.1)

-- a node that is kept is there still
pub kept_live : (old new : Slots) → Keeps old new → (q : ℕ) → IsSome (slot_at old q) → IsSome (slot_at new q)
kept_live old new keeps q there = subst IsSome (sym (keeps q there)) there
