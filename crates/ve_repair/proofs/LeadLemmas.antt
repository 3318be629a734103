-- Links that lead to nodes still do after a node is taken from its parent's children, or put among
-- another's.
use Rattle.std.proofs.Common.{◌≡◌, ℕ, List, Option, Some, None, IsSome, IfSome, option_map, sym, subst}
use Rattle.std.proofs.lemmas.Map.{update_here}
use Rattle.ve_arena.specs.declared.node.NodeId.{NodeId}
use Rattle.ve_arena.specs.declared.node.ArenaNode.{ArenaNode}
use Rattle.ve_arena.specs.Arena.{slot_at, IsLive}
use Rattle.ve_tree.specs.Links.{Links, number_of, links_of}
use Rattle.ve_tree.specs.Nodes.{LeadsToNode}
use Rattle.ve_repair.specs.Relink.{link_set, set_right, set_left, right_of, unlinked, with_own, linked}
use Rattle.ve_repair.specs.Labels.{SameLabels, AllLead, StayLive}
use Rattle.ve_repair.proofs.RelinkLemmas.{by_case, set-elsewhere}
use Rattle.ve_repair.proofs.ArenaLemmas.{labels-live}

abbrev Slots : Type 0
Slots = List (Option ArenaNode)

-- the same of links by number
record Lead (slots : Slots) (a : Links) : Type 0 where
  parent : (q : ℕ) → LeadsToNode slots (a.parent q)
  first : (q : ℕ) → LeadsToNode slots (a.first q)
  last : (q : ℕ) → LeadsToNode slots (a.last q)
  before : (q : ℕ) → LeadsToNode slots (a.before q)
  after : (q : ℕ) → LeadsToNode slots (a.after q)

set-leads : (slots : Slots) (f : ℕ → Option ℕ) (n : ℕ) (to : Option ℕ) → ((q : ℕ) → LeadsToNode slots (f q)) → LeadsToNode slots to → (q : ℕ) → LeadsToNode slots (link_set f n to q)
set-leads slots f n to all one q = by_case n q
    (λ e. subst (λ q. LeadsToNode slots (link_set f n to q)) e (subst (LeadsToNode slots) (sym (update_here f n to)) one))
    (λ h. subst (LeadsToNode slots) (sym (set-elsewhere f n to q h)) (all q))

set_right-leads : (slots : Slots) (p : ℕ) (left to : Option ℕ) (a : Links) → Lead slots a → LeadsToNode slots to → Lead slots (set_right p left to a)
set_right-leads slots p None to a h one = record { parent = h.parent; first = set-leads slots a.first p to h.first one; last = h.last; before = h.before; after = h.after }
set_right-leads slots p (Some n) to a h one = record { parent = h.parent; first = h.first; last = h.last; before = h.before; after = set-leads slots a.after n to h.after one }

set_left-leads : (slots : Slots) (p : ℕ) (right to : Option ℕ) (a : Links) → Lead slots a → LeadsToNode slots to → Lead slots (set_left p right to a)
set_left-leads slots p None to a h one = record { parent = h.parent; first = h.first; last = set-leads slots a.last p to h.last one; before = h.before; after = h.after }
set_left-leads slots p (Some n) to a h one = record { parent = h.parent; first = h.first; last = h.last; before = set-leads slots a.before n to h.before one; after = h.after }

own-leads : (slots : Slots) (p n : ℕ) (left right : Option ℕ) (a : Links) → Lead slots a → IsSome (slot_at slots p) → LeadsToNode slots left → LeadsToNode slots right →
    Lead slots (with_own p n left right a)
own-leads slots p n left right a h live l r = record {
  parent = set-leads slots a.parent n (Some p) h.parent live;
  first = h.first;
  last = h.last;
  before = set-leads slots a.before n left h.before l;
  after = set-leads slots a.after n right h.after r;
}

unlinked-leads : (slots : Slots) (p n : ℕ) (a : Links) → Lead slots a → Lead slots (unlinked p n a)
unlinked-leads slots p n a h =
    set_left-leads slots p (a.after n) (a.before n) (set_right p (a.before n) (a.after n) a)
    (set_right-leads slots p (a.before n) (a.after n) a h (h.after n)) (h.before n)

right_of-leads : (slots : Slots) (p : ℕ) (left : Option ℕ) (a : Links) → Lead slots a → LeadsToNode slots (right_of a p left)
right_of-leads slots p None a h = h.first p
right_of-leads slots p (Some n) a h = h.after n

linked-leads : (slots : Slots) (p n : ℕ) (left : Option ℕ) (a : Links) → Lead slots a → IsSome (slot_at slots p) → IsSome (slot_at slots n) → LeadsToNode slots left →
    Lead slots (linked p n left a)
linked-leads slots p n left a h p_live n_live l =
    let to : Option ℕ = right_of a p left in
    let own : Links = with_own p n left to a in
    set_left-leads slots p to (Some n) (set_right p left (Some n) own)
    (set_right-leads slots p left (Some n) own (own-leads slots p n left to a h p_live l (right_of-leads slots p left a h)) n_live) n_live

-- between the two readings
by_links : (slots : Slots) → AllLead slots → Lead slots (links_of slots)
by_links slots h = record { parent = λ q. (h q).parent; first = λ q. (h q).first; last = λ q. (h q).last; before = λ q. (h q).before; after = λ q. (h q).after }

by_slots : (slots : Slots) → Lead slots (links_of slots) → AllLead slots
by_slots slots h q = record { parent = h.parent q; first = h.first q; last = h.last q; before = h.before q; after = h.after q }

leads-on : (old new : Slots) (link : Option ℕ) → StayLive old new → LeadsToNode old link → LeadsToNode new link
leads-on old new None live h = tt
leads-on old new (Some n) live h = live n h

lead-on : (old new : Slots) (a : Links) → StayLive old new → Lead old a → Lead new a
lead-on old new a live h = record {
  parent = λ q. leads-on old new (a.parent q) live (h.parent q);
  first = λ q. leads-on old new (a.first q) live (h.first q);
  last = λ q. leads-on old new (a.last q) live (h.last q);
  before = λ q. leads-on old new (a.before q) live (h.before q);
  after = λ q. leads-on old new (a.after q) live (h.after q);
}

leads-as : (old new : Slots) (a : Links) → SameLabels old new → links_of new ≡ a → Lead old a → AllLead new
leads-as old new a same e h = by_slots new (subst (Lead new) (sym e) (lead-on old new a (labels-live old new same) h))

pub unlink-leads : (old new : Slots) (p n : ℕ) → AllLead old → SameLabels old new → links_of new ≡ unlinked p n (links_of old) → AllLead new
unlink-leads old new p n h same e = leads-as old new (unlinked p n (links_of old)) same e (unlinked-leads old p n (links_of old) (by_links old h))

pub link-leads : (old new : Slots) (p n : NodeId) (left : Option NodeId) → AllLead old → IsLive old p → IsLive old n → IfSome left (λ m. IsLive old m) → SameLabels old new →
    links_of new ≡ linked p.0 n.0 (option_map number_of left) (links_of old) → AllLead new
link-leads old new p n left h p_live n_live l same e =
    leads-as old new (linked p.0 n.0 (option_map number_of left) (links_of old)) same e
    (linked-leads old p.0 n.0 (option_map number_of left) (links_of old) (by_links old h) p_live n_live (left_leads left l))
  where
    left_leads : (left : Option NodeId) → IfSome left (λ m. IsLive old m) → LeadsToNode old (option_map number_of left)
    left_leads None l = tt
    left_leads (Some m) l = l

-- a length that is written, or a node that is made
pub same-leads : (old new : Slots) → AllLead old → StayLive old new → links_of new ≡ links_of old → AllLead new
same-leads old new h live e = by_slots new (subst (Lead new) (sym e) (lead-on old new (links_of old) live (by_links old h)))
