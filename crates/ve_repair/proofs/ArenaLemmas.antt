-- One write to an arena changes one link, or one label.
use Rattle.std.proofs.Common.{◌≡◌, ℕ, List, Option, Some, None, IsSome, option_map, refl, sym, ap, ◌∙◌, subst}
use Rattle.std.proofs.lemmas.Bool.{true≢false}
use Rattle.std.proofs.lemmas.Map.{update_here, update_apart}
use Rattle.ve_arena.specs.declared.node.NodeId.{NodeId}
use Rattle.ve_arena.specs.declared.node.ArenaNode.{ArenaNode}
use Rattle.ve_arena.specs.Arena.{slot_at, node_under, IsLive, Changes, with_parent, with_first, with_last, with_before, with_after, with_len}
use Rattle.ve_tree.specs.Links.{number_of, link_in, links_of}
use Rattle.ve_repair.specs.Relink.{link_set}
use Rattle.ve_repair.specs.Labels.{Label, label_of, label_at, SameLabels, StayLive}
use Rattle.ve_repair.proofs.RelinkLemmas.{by_case}

abbrev Slots : Type 0
Slots = List (Option ArenaNode)

abbrev Link : Type 0
Link = ArenaNode → Option NodeId

changed : (f : Link) (change : ArenaNode → ArenaNode) (to : Option NodeId) → ((node : ArenaNode) → f (change node) ≡ to) →
    (o : Option ArenaNode) → IsSome o → link_in f (option_map change o) ≡ option_map number_of to
changed f change to h None some = absurd (true≢false (sym some))
changed f change to h (Some node) some = ap (option_map number_of) (h node)

kept : (f : Link) (change : ArenaNode → ArenaNode) → ((node : ArenaNode) → f (change node) ≡ f node) →
    (o : Option ArenaNode) → link_in f (option_map change o) ≡ link_in f o
kept f change h None = refl
kept f change h (Some node) = ap (option_map number_of) (h node)

same_label : (change : ArenaNode → ArenaNode) → ((node : ArenaNode) → label_of (change node) ≡ label_of node) →
    (o : Option ArenaNode) → option_map label_of (option_map change o) ≡ option_map label_of o
same_label change h None = refl
same_label change h (Some node) = ap (λ (l : Label). Some l) (h node)

-- the link that is written
written : (old new : Slots) (n : NodeId) (change : ArenaNode → ArenaNode) (f : Link) (to : Option NodeId) →
    ((node : ArenaNode) → f (change node) ≡ to) → IsLive old n → Changes old new n change →
    (q : ℕ) → link_in f (slot_at new q) ≡ link_set (λ m. link_in f (slot_at old m)) n.0 (option_map number_of to) q
written old new n change f to h some c q = by_case n.0 q
    (λ e. subst (λ q. link_in f (slot_at new q) ≡ link_set (λ m. link_in f (slot_at old m)) n.0 (option_map number_of to) q) e
    (ap (link_in f) c.here ∙ changed f change to h (node_under old n) some ∙ sym (update_here (λ m. link_in f (slot_at old m)) n.0 (option_map number_of to))))
    (λ e. ap (link_in f) (c.others q (λ e'. e (sym e'))) ∙ sym (update_apart (λ m. link_in f (slot_at old m)) n.0 (option_map number_of to) q (λ e'. e (sym e'))))

-- the others
untouched : (old new : Slots) (n : NodeId) (change : ArenaNode → ArenaNode) (f : Link) →
    ((node : ArenaNode) → f (change node) ≡ f node) → Changes old new n change → (q : ℕ) → link_in f (slot_at new q) ≡ link_in f (slot_at old q)
untouched old new n change f h c q = by_case n.0 q
    (λ e. subst (λ q. link_in f (slot_at new q) ≡ link_in f (slot_at old q)) e (ap (link_in f) c.here ∙ kept f change h (node_under old n)))
    (λ e. ap (link_in f) (c.others q (λ e'. e (sym e'))))

labels-kept : (old new : Slots) (n : NodeId) (change : ArenaNode → ArenaNode) → ((node : ArenaNode) → label_of (change node) ≡ label_of node) →
    Changes old new n change → SameLabels old new
labels-kept old new n change h c q = by_case n.0 q
    (λ e. subst (λ q. label_at new q ≡ label_at old q) e (ap (option_map label_of) c.here ∙ same_label change h (node_under old n)))
    (λ e. ap (option_map label_of) (c.others q (λ e'. e (sym e'))))

pub links_of-parent : (old new : Slots) (n : NodeId) (to : Option NodeId) → IsLive old n → Changes old new n (with_parent to) →
    links_of new ≡ record (links_of old) { parent = link_set (links_of old).parent n.0 (option_map number_of to) }
links_of-parent old new n to some c = λ i. record {
  parent = λ q. written old new n (with_parent to) (λ node. node.parent) to (λ node. refl) some c q i;
  first = λ q. untouched old new n (with_parent to) (λ node. node.first) (λ node. refl) c q i;
  last = λ q. untouched old new n (with_parent to) (λ node. node.last) (λ node. refl) c q i;
  before = λ q. untouched old new n (with_parent to) (λ node. node.before) (λ node. refl) c q i;
  after = λ q. untouched old new n (with_parent to) (λ node. node.after) (λ node. refl) c q i;
}

pub links_of-first : (old new : Slots) (n : NodeId) (to : Option NodeId) → IsLive old n → Changes old new n (with_first to) →
    links_of new ≡ record (links_of old) { first = link_set (links_of old).first n.0 (option_map number_of to) }
links_of-first old new n to some c = λ i. record {
  parent = λ q. untouched old new n (with_first to) (λ node. node.parent) (λ node. refl) c q i;
  first = λ q. written old new n (with_first to) (λ node. node.first) to (λ node. refl) some c q i;
  last = λ q. untouched old new n (with_first to) (λ node. node.last) (λ node. refl) c q i;
  before = λ q. untouched old new n (with_first to) (λ node. node.before) (λ node. refl) c q i;
  after = λ q. untouched old new n (with_first to) (λ node. node.after) (λ node. refl) c q i;
}

pub links_of-last : (old new : Slots) (n : NodeId) (to : Option NodeId) → IsLive old n → Changes old new n (with_last to) →
    links_of new ≡ record (links_of old) { last = link_set (links_of old).last n.0 (option_map number_of to) }
links_of-last old new n to some c = λ i. record {
  parent = λ q. untouched old new n (with_last to) (λ node. node.parent) (λ node. refl) c q i;
  first = λ q. untouched old new n (with_last to) (λ node. node.first) (λ node. refl) c q i;
  last = λ q. written old new n (with_last to) (λ node. node.last) to (λ node. refl) some c q i;
  before = λ q. untouched old new n (with_last to) (λ node. node.before) (λ node. refl) c q i;
  after = λ q. untouched old new n (with_last to) (λ node. node.after) (λ node. refl) c q i;
}

pub links_of-before : (old new : Slots) (n : NodeId) (to : Option NodeId) → IsLive old n → Changes old new n (with_before to) →
    links_of new ≡ record (links_of old) { before = link_set (links_of old).before n.0 (option_map number_of to) }
links_of-before old new n to some c = λ i. record {
  parent = λ q. untouched old new n (with_before to) (λ node. node.parent) (λ node. refl) c q i;
  first = λ q. untouched old new n (with_before to) (λ node. node.first) (λ node. refl) c q i;
  last = λ q. untouched old new n (with_before to) (λ node. node.last) (λ node. refl) c q i;
  before = λ q. written old new n (with_before to) (λ node. node.before) to (λ node. refl) some c q i;
  after = λ q. untouched old new n (with_before to) (λ node. node.after) (λ node. refl) c q i;
}

pub links_of-after : (old new : Slots) (n : NodeId) (to : Option NodeId) → IsLive old n → Changes old new n (with_after to) →
    links_of new ≡ record (links_of old) { after = link_set (links_of old).after n.0 (option_map number_of to) }
links_of-after old new n to some c = λ i. record {
  parent = λ q. untouched old new n (with_after to) (λ node. node.parent) (λ node. refl) c q i;
  first = λ q. untouched old new n (with_after to) (λ node. node.first) (λ node. refl) c q i;
  last = λ q. untouched old new n (with_after to) (λ node. node.last) (λ node. refl) c q i;
  before = λ q. untouched old new n (with_after to) (λ node. node.before) (λ node. refl) c q i;
  after = λ q. written old new n (with_after to) (λ node. node.after) to (λ node. refl) some c q i;
}

-- a length that is written changes no link
pub links_of-len : (old new : Slots) (n : NodeId) (len : ℕ) → Changes old new n (with_len len) → links_of new ≡ links_of old
links_of-len old new n len c = λ i. record {
  parent = λ q. untouched old new n (with_len len) (λ node. node.parent) (λ node. refl) c q i;
  first = λ q. untouched old new n (with_len len) (λ node. node.first) (λ node. refl) c q i;
  last = λ q. untouched old new n (with_len len) (λ node. node.last) (λ node. refl) c q i;
  before = λ q. untouched old new n (with_len len) (λ node. node.before) (λ node. refl) c q i;
  after = λ q. untouched old new n (with_len len) (λ node. node.after) (λ node. refl) c q i;
}

pub labels-parent : (old new : Slots) (n : NodeId) (to : Option NodeId) → Changes old new n (with_parent to) → SameLabels old new
labels-parent old new n to c = labels-kept old new n (with_parent to) (λ node. refl) c

pub labels-before : (old new : Slots) (n : NodeId) (to : Option NodeId) → Changes old new n (with_before to) → SameLabels old new
labels-before old new n to c = labels-kept old new n (with_before to) (λ node. refl) c

some_label : (o p : Option ArenaNode) → option_map label_of p ≡ option_map label_of o → IsSome o → IsSome p
some_label o (Some node) e some = cc
some_label None None e some = absurd (true≢false (sym some))
some_label (Some node) None e some = cc

pub labels-live : (old new : Slots) → SameLabels old new → StayLive old new
labels-live old new h q some = some_label (slot_at old q) (slot_at new q) (h q) some
