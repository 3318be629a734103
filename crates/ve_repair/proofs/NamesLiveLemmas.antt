-- Each node that a planned write names is there.
use Rattle.std.proofs.Common.{◌≡◌, ◌+◌, ◌-◌, ℕ, Bool, true, false, if◌then◌else◌, Option, Some, None, IsSome, IfSome, List, [], ◌∷◌, ◌++◌, All, map, drop, option_map, nat_eq, refl, sym, ap, ◌∙◌, subst}
use Rattle.std.proofs.lemmas.List.Elements.{All-nil, All-cons, All-append}
use Rattle.model_items.specs.declared.item.Item.{Item}
use Rattle.ve_arena.specs.declared.node.NodeId.{NodeId}
use Rattle.ve_arena.specs.Arena.{slot_at, IsLive}
use Rattle.ve_tree.specs.Grown.{id_of}
use Rattle.ve_tree.specs.Links.{number_of, last_of, last_or}
use Rattle.ve_tree.specs.Named.{Named, NoNode, NamedRun, NamedBranch, heads, Shows}
use Rattle.ve_tree.specs.Rows.{Round, beside}
use Rattle.ve_tree.proofs.BesideLemmas.{shows_left}
use Rattle.ve_offsets.proofs.StateLemmas.{shown_live}
use Rattle.ve_tx.specs.Operation.{Operation}
use Rattle.ve_repair.specs.declared.range.ChangedRange.{ChangedRange}
use Rattle.ve_repair.specs.declared.start.Start.{Start}
use Rattle.ve_repair.specs.declared.plan.Level.{Level}
use Rattle.ve_repair.specs.declared.write.Write.{Write}
use Rattle.ve_repair.specs.declared.write.Write.TheVariants.{Unlink, Link, Resize}
use Rattle.ve_repair.specs.declared.script.How.{How}
use Rattle.ve_repair.specs.declared.script.How.TheVariants.{Keep, Cut, Put}
use Rattle.ve_repair.specs.declared.script.Step.{Step}
use Rattle.ve_repair.specs.declared.script.Step.TheVariants.{Enter, Leave, Text, Count}
use Rattle.ve_repair.specs.declared.sizes.OpenFrom.{OpenFrom}
use Rattle.ve_repair.specs.Assembly.{CanPlan, all_writes}
use Rattle.ve_repair.specs.Closing.{AreLeft, row_of, row_steps, outer_stacks, level_writes, close_writes}
use Rattle.ve_repair.specs.Frees.{nodes_of}
use Rattle.ve_repair.specs.Lengths.{begun_of, whole_writes}
use Rattle.ve_repair.specs.Plan.{Stacks, is_same_parent, unlink_of, link_of, with_last, placed_writes, placed_stacks, opened_stacks, closed_stacks, stepped_writes, stepped_stacks, script_writes, script_stacks}
use Rattle.ve_repair.specs.Reader.{Slots, Reading, HasMade}
use Rattle.ve_repair.specs.Scene.{Scene, open_round}
use Rattle.ve_repair.specs.Sizing.{Sizing, len_under, sized, sized_all, resize_of, end_writes, left_writes, size_writes, sizes_writes, open_writes, AllOpenLive, StepIsLive, StepsAreLive}
use Rattle.ve_repair.specs.Start.{OldRound, NewRound}
use Rattle.ve_repair.specs.Writes.{NamesLive}
use Rattle.ve_repair.proofs.CanPlanLemmas.{round_nodes}
use Rattle.ve_repair.proofs.CursorLemmas.{framed_at}
use Rattle.ve_repair.proofs.NestedLemmas.{begun_nodes}
use Rattle.ve_repair.proofs.PlannedAsLemmas.{there}
use Rattle.ve_repair.proofs.SizingLemmas.{open_live}

-- there is a node under each number
abbrev AreThere : Slots → List ℕ → Type 0
AreThere slots [] = Unit {0}
AreThere slots (n ∷ ns) = IsSome (slot_at slots n) × AreThere slots ns

-- the open nodes are there, and so is the last child so far of each new one
abbrev OldLive : Slots → List NodeId → Type 0
OldLive slots [] = Unit {0}
OldLive slots (n ∷ ns) = IsLive slots n × OldLive slots ns

abbrev LastLive : Slots → Option NodeId → Type 0
LastLive slots last = IfSome last (λ m. IsLive slots m)

abbrev NewLive : Slots → List Level → Type 0
NewLive slots [] = Unit {0}
NewLive slots (l ∷ ls) = IsLive slots l.node × LastLive slots l.last × NewLive slots ls

record StacksLive (slots : Slots) (s : Stacks) : Type 0 where
  old : OldLive slots s.old
  new : NewLive slots s.new

-- dropping and adding levels
old_rest : (slots : Slots) (ns : List NodeId) → OldLive slots ns → OldLive slots (drop 1 ns)
old_rest slots [] h = tt
old_rest slots (n ∷ ns) h = h.1

new_rest : (slots : Slots) (ls : List Level) → NewLive slots ls → NewLive slots (drop 1 ls)
new_rest slots [] h = tt
new_rest slots (l ∷ ls) h = h.2

last_live : (slots : Slots) (n : NodeId) (ls : List Level) → IsLive slots n → NewLive slots ls → NewLive slots (with_last n ls)
last_live slots n [] l h = tt
last_live slots n (f ∷ fs) l h = (h.0, l, h.2)

outer_live : (slots : Slots) (s : Stacks) → StacksLive slots s → StacksLive slots (outer_stacks s)
outer_live slots s h = record { old = old_rest slots s.old h.old; new = new_rest slots s.new h.new }

placed_live : (slots : Slots) (how : How) (n : NodeId) (s : Stacks) → IsLive slots n → StacksLive slots s → StacksLive slots (placed_stacks how n s)
placed_live slots Keep n s l h = record { old = h.old; new = last_live slots n s.new l h.new }
placed_live slots Cut n s l h = h
placed_live slots Put n s l h = record { old = h.old; new = last_live slots n s.new l h.new }

opened_live : (slots : Slots) (how : How) (n : NodeId) (s : Stacks) → IsLive slots n → StacksLive slots s → StacksLive slots (opened_stacks how n s)
opened_live slots Keep n s l h = record { old = (l, h.old); new = (l, tt, h.new) }
opened_live slots Cut n s l h = record { old = (l, h.old); new = h.new }
opened_live slots Put n s l h = record { old = h.old; new = (l, tt, h.new) }

closed_live : (slots : Slots) (how : How) (s : Stacks) → StacksLive slots s → StacksLive slots (closed_stacks how s)
closed_live slots Keep s h = record { old = old_rest slots s.old h.old; new = new_rest slots s.new h.new }
closed_live slots Cut s h = record { old = old_rest slots s.old h.old; new = h.new }
closed_live slots Put s h = record { old = h.old; new = new_rest slots s.new h.new }

stepped_live : (slots : Slots) (x : Step) (s : Stacks) → StepIsLive slots x → StacksLive slots s → StacksLive slots (stepped_stacks x s)
stepped_live slots (Enter how n) s l h = opened_live slots how n (placed_stacks how n s) l (placed_live slots how n s l h)
stepped_live slots (Leave how) s l h = closed_live slots how s h
stepped_live slots (Text how n) s l h = placed_live slots how n s l h
stepped_live slots (Count n count) s l h = h

-- So the nodes are there after a script,
stacks_live : (slots : Slots) (xs : List Step) (s : Stacks) → StepsAreLive slots xs → StacksLive slots s → StacksLive slots (script_stacks xs s)
stacks_live slots [] s l h = h
stacks_live slots (x ∷ xs) s l h = stacks_live slots xs (stepped_stacks x s) l.1 (stepped_live slots x s l.0 h)

-- and the writes of each of its steps name such nodes.
abbrev AllLive : Slots → List Write → Type 0
AllLive slots ws = All (NamesLive slots) ws

one_write : (slots : Slots) (w : Write) → NamesLive slots w → AllLive slots (w ∷ [])
one_write slots w h = All-cons (NamesLive slots) w [] h (All-nil (NamesLive slots))

unlink_live : (slots : Slots) (n : NodeId) (os : List NodeId) → IsLive slots n → OldLive slots os → AllLive slots (unlink_of n os)
unlink_live slots n [] l h = All-nil (NamesLive slots)
unlink_live slots n (o ∷ os) l h = one_write slots (Unlink n o) (l, h.0)

link_live : (slots : Slots) (n : NodeId) (fs : List Level) → IsLive slots n → NewLive slots fs → AllLive slots (link_of n fs)
link_live slots n [] l h = All-nil (NamesLive slots)
link_live slots n (f ∷ fs) l h = one_write slots (Link n f.node f.last) (l, h.0, h.1)

-- writes that are left out where they are none
if_live : (slots : Slots) (b : Bool) (ws : List Write) → AllLive slots ws → AllLive slots (if b then [] else ws)
if_live slots true ws h = All-nil (NamesLive slots)
if_live slots false ws h = h

place_writes_live : (slots : Slots) (how : How) (n : NodeId) (s : Stacks) → IsLive slots n → StacksLive slots s → AllLive slots (placed_writes how n s)
place_writes_live slots Keep n s l h =
    if_live slots (is_same_parent s) (unlink_of n s.old ++ link_of n s.new)
    (All-append (NamesLive slots) (unlink_of n s.old) (link_of n s.new) (unlink_live slots n s.old l h.old) (link_live slots n s.new l h.new))
place_writes_live slots Cut n s l h = unlink_live slots n s.old l h.old
place_writes_live slots Put n s l h = link_live slots n s.new l h.new

step_writes_live : (slots : Slots) (x : Step) (s : Stacks) → StepIsLive slots x → StacksLive slots s → AllLive slots (stepped_writes x s)
step_writes_live slots (Enter how n) s l h = place_writes_live slots how n s l h
step_writes_live slots (Leave how) s l h = All-nil (NamesLive slots)
step_writes_live slots (Text how n) s l h = place_writes_live slots how n s l h
step_writes_live slots (Count n count) s l h = All-nil (NamesLive slots)

writes_live : (slots : Slots) (xs : List Step) (s : Stacks) → StepsAreLive slots xs → StacksLive slots s → AllLive slots (script_writes xs s)
writes_live slots [] s l h = All-nil (NamesLive slots)
writes_live slots (x ∷ xs) s l h =
    All-append (NamesLive slots) (stepped_writes x s) (script_writes xs (stepped_stacks x s)) (step_writes_live slots x s l.0 h)
    (writes_live slots xs (stepped_stacks x s) l.1 (stepped_live slots x s l.0 h))

-- nodes that are shown are there
heads_there : (slots : Slots) (f : Named) → Shows slots f → AreThere slots (heads f)
heads_there slots NoNode h = tt
heads_there slots (NamedRun n count later) h = (shown_live slots (id_of n) n _ _ _ refl h.0, heads_there slots later h.1)
heads_there slots (NamedBranch n kind inside later) h = (shown_live slots (id_of n) n _ _ _ refl h.0, heads_there slots later h.2)

row_live : (slots : Slots) (ns : List ℕ) → AreThere slots ns → StepsAreLive slots (row_of ns)
row_live slots [] h = tt
row_live slots (n ∷ ns) h = (h.0, row_live slots ns h.1)

-- the writes at the levels that are open at a script's end
level_live : (slots : Slots) (f : Named) (s : Stacks) → Shows slots f → StacksLive slots s → AllLive slots (level_writes f s)
level_live slots f s shown h =
    if_live slots (is_same_parent s) (script_writes (row_steps f) s) (writes_live slots (row_steps f) s (row_live slots (heads f) (heads_there slots f shown)) h)

abbrev AllShown : Slots → List Named → Type 0
AllShown slots [] = Unit {0}
AllShown slots (f ∷ fs) = Shows slots f × AllShown slots fs

close_live : (slots : Slots) (fs : List Named) (s : Stacks) → AllShown slots fs → StacksLive slots s → AllLive slots (close_writes fs s)
close_live slots [] s shown h = All-nil (NamesLive slots)
close_live slots (f ∷ fs) s shown h =
    All-append (NamesLive slots) (level_writes f s) (close_writes fs (outer_stacks s)) (level_live slots f s shown.0 h)
    (close_live slots fs (outer_stacks s) shown.1 (outer_live slots s h))

rows_shown : (slots : Slots) (most : ℕ) (os : List NodeId) (next : Option NodeId) (fs : List Named) → AreLeft slots most os next fs → AllShown slots fs
rows_shown slots most [] next [] h = tt
rows_shown slots most [] next (f ∷ fs) h = absurd h
rows_shown slots most (o ∷ os) next [] h = absurd h
rows_shown slots most (o ∷ os) next (f ∷ fs) h = let t = there slots o h.2 in (h.0.shown, rows_shown slots most os t.node.after fs (h.3 t.node t.is))

-- the writes of lengths
resize_live : (slots : Slots) (n : NodeId) (len : ℕ) → IsLive slots n → AllLive slots (resize_of slots n len)
resize_live slots n len h = if_live slots (nat_eq (len_under slots n) len) (Resize n len ∷ []) (one_write slots (Resize n len) h)

end_live : (slots : Slots) (bs : List OpenFrom) (at : ℕ) → AllOpenLive slots bs → AllLive slots (end_writes slots bs at)
end_live slots [] at h = All-nil (NamesLive slots)
end_live slots (b ∷ bs) at h = resize_live slots b.node (at - b.from) h.0

left_live : (slots : Slots) (how : How) (z : Sizing) → AllOpenLive slots z.new_open → AllLive slots (left_writes slots how z)
left_live slots Keep z h = end_live slots z.new_open (z.new_at + 1) h
left_live slots Cut z h = All-nil (NamesLive slots)
left_live slots Put z h = end_live slots z.new_open (z.new_at + 1) h

size_live : (slots : Slots) (x : Step) (z : Sizing) → StepIsLive slots x → AllOpenLive slots z.new_open → AllLive slots (size_writes slots x z)
size_live slots (Enter how n) z l h = All-nil (NamesLive slots)
size_live slots (Leave how) z l h = left_live slots how z h
size_live slots (Text how n) z l h = All-nil (NamesLive slots)
size_live slots (Count n count) z l h = resize_live slots n count l

sizes_live : (slots : Slots) (xs : List Step) (z : Sizing) → StepsAreLive slots xs → AllOpenLive slots z.new_open → AllLive slots (sizes_writes slots xs z)
sizes_live slots [] z l h = All-nil (NamesLive slots)
sizes_live slots (x ∷ xs) z l h =
    All-append (NamesLive slots) (size_writes slots x z) (sizes_writes slots xs (sized slots x z)) (size_live slots x z l.0 h)
    (sizes_live slots xs (sized slots x z) l.1 (open_live slots x z l.0 h))

still_open_live : (slots : Slots) (os bs : List OpenFrom) (old_at new_at : ℕ) → AllOpenLive slots bs → AllLive slots (open_writes slots os bs old_at new_at)
still_open_live slots [] bs old_at new_at h = All-nil (NamesLive slots)
still_open_live slots (o ∷ os) [] old_at new_at h = All-nil (NamesLive slots)
still_open_live slots (o ∷ os) (b ∷ bs) old_at new_at h =
    let len : ℕ = (new_at - b.from) + (len_under slots o.node - (old_at - o.from)) in
    All-append (NamesLive slots) (resize_of slots b.node len) (open_writes slots os bs old_at new_at) (resize_live slots b.node len h.0) (still_open_live slots os bs old_at new_at h.1)

-- where a script begins
begun_there : (slots : Slots) (bs : List OpenFrom) → AllOpenLive slots bs → AreThere slots (begun_nodes (map begun_of bs))
begun_there slots [] h = tt
begun_there slots (b ∷ bs) h = (h.0, begun_there slots bs h.1)

old_live : (slots : Slots) (root : ℕ) (rs : List Round) (ns : List NodeId) → OldRound root rs ns → AreThere slots (open_round root rs) → OldLive slots ns
old_live slots root [] [] h t = absurd h
old_live slots root [] (n ∷ []) h t = (subst (λ m. IsSome (slot_at slots m)) (sym h) t.0, tt)
old_live slots root [] (n ∷ (m ∷ ns)) h t = absurd h
old_live slots root (r ∷ rs) [] h t = absurd h
old_live slots root (r ∷ rs) (n ∷ ns) h t = (subst (λ m. IsSome (slot_at slots m)) (sym h.0) t.0, old_live slots root rs ns h.1 t.1)

-- a node that is known by a number is there where the number's is
by_number : (slots : Slots) (last : Option NodeId) (number : Option ℕ) → option_map number_of last ≡ number → IfSome number (λ n. IsSome (slot_at slots n)) → LastLive slots last
by_number slots None number e h = tt
by_number slots (Some m) number e h = subst (λ (o : Option ℕ). IfSome o (λ n. IsSome (slot_at slots n))) (sym e) h

new_live : (slots : Slots) (root : ℕ) (rs : List Round) (last : Option ℕ) (ls : List Level) → NewRound root rs last ls → AreThere slots (open_round root rs) → IfSome last (λ n. IsSome (slot_at slots n)) →
    NewLive slots ls
new_live slots root [] last [] h t l = absurd h
new_live slots root [] last (f ∷ []) h t l = (subst (λ m. IsSome (slot_at slots m)) (sym h.0) t.0, by_number slots f.last last h.1 l, tt)
new_live slots root [] last (f ∷ (g ∷ fs)) h t l = absurd h
new_live slots root (r ∷ rs) last [] h t l = absurd h
new_live slots root (r ∷ rs) last (f ∷ fs) h t l =
    (subst (λ m. IsSome (slot_at slots m)) (sym h.0.0) t.0, by_number slots f.last last h.0.1 l, new_live slots root rs (Some r.number) fs h.1 t.1 t.0)

last_there : (slots : Slots) (ns : List ℕ) → AreThere slots ns → IfSome (last_or None ns) (λ n. IsSome (slot_at slots n))
last_there slots [] h = tt
last_there slots (n ∷ ns) h = by n ns h
  where
    by : (n : ℕ) (ns : List ℕ) → AreThere slots (n ∷ ns) → IsSome (slot_at slots (last_of n ns))
    by n [] h = h.0
    by n (m ∷ ms) h = by m ms h.1

still_there : (old new : Slots) (ns : List ℕ) → ((q : ℕ) → IsSome (slot_at old q) → slot_at new q ≡ slot_at old q) → AreThere old ns → AreThere new ns
still_there old new [] k h = tt
still_there old new (n ∷ ns) k h = (subst IsSome (sym (k n h.0)) h.0, still_there old new ns k h.1)

module _ (old : Slots) (root : NodeId) (items : List Item) (tx : List Operation) (r : ChangedRange) (start : Start) (s : Stacks) (z : Sizing) (scene : Scene old root items tx r start s z)
    (mid : Slots) (r1 : Reading) (made : HasMade old mid (nodes_of Put r1.script)) (can_plan : CanPlan mid root r1 s z)
    (ws : List Write) (rows : List Named) (left : AreLeft mid (len_under mid root) (script_stacks r1.script s).old r1.at.next rows) (are : ws ≡ all_writes mid r1.script rows s z) where
  abbrev rs : List Round
  rs = scene.starts.place.round

  abbrev done : Named
  done = scene.starts.place.done

  round_there : AreThere mid (open_round root.0 rs)
  round_there = subst (AreThere mid) (ap begun_nodes scene.starts.new_open ∙ round_nodes root.0 rs) (begun_there mid z.new_open can_plan.new_open)

  done_there : AreThere mid (heads done)
  done_there =
      let shown = (framed_at scene.tree rs (beside done scene.starts.place.row) scene.starts.whole).row in
      still_there old mid (heads done) made.keeps (heads_there old done (shows_left old done scene.starts.place.row shown))

  begin_live : StacksLive mid s
  begin_live = record {
    old = old_live mid root.0 rs s.old scene.starts.old round_there;
    new = new_live mid root.0 rs (last_or None (heads done)) s.new scene.starts.new round_there (last_there mid (heads done) done_there);
  }

  link_writes_live : AllLive mid (script_writes r1.script s ++ close_writes rows (script_stacks r1.script s))
  link_writes_live =
      All-append (NamesLive mid) (script_writes r1.script s) (close_writes rows (script_stacks r1.script s))
      (writes_live mid r1.script s can_plan.steps_live begin_live)
      (close_live mid rows (script_stacks r1.script s) (rows_shown mid (len_under mid root) (script_stacks r1.script s).old r1.at.next rows left)
      (stacks_live mid r1.script s can_plan.steps_live begin_live))

  length_writes_live : AllLive mid (whole_writes mid r1.script z)
  length_writes_live =
      let t = sized_all mid r1.script z in
      All-append (NamesLive mid) (sizes_writes mid r1.script z) (open_writes mid t.old_open t.new_open t.old_at t.new_at)
      (sizes_live mid r1.script z can_plan.steps_live can_plan.new_open) (still_open_live mid t.old_open t.new_open t.old_at t.new_at can_plan.new_after)

  pub names_live : All (NamesLive mid) ws
  names_live =
      subst (All (NamesLive mid)) (sym are)
      (All-append (NamesLive mid) (script_writes r1.script s ++ close_writes rows (script_stacks r1.script s)) (whole_writes mid r1.script z) link_writes_live length_writes_live)
