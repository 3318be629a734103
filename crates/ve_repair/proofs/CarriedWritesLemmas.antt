-- Which writes of a repair change links, and which change labels.
use Rattle.std.proofs.Common.{◌≡◌, ℕ, ◌+◌, ◌-◌, nat_eq, Bool, true, false, if◌then◌else◌, Option, None, Some, List, [], ◌∷◌, ◌++◌, option_map, refl, ap, ◌∙◌, eqb}
use Rattle.ve_arena.specs.declared.node.NodeId.{NodeId}
use Rattle.ve_arena.specs.declared.node.NodeWhat.{NodeWhat}
use Rattle.ve_tree.specs.Links.{Links}
use Rattle.ve_tree.specs.Named.{Named}
use Rattle.ve_repair.specs.declared.write.Write.{Write}
use Rattle.ve_repair.specs.declared.write.Write.TheVariants.{Unlink, Link, Resize}
use Rattle.ve_repair.specs.declared.sizes.OpenFrom.{OpenFrom}
use Rattle.ve_repair.specs.declared.plan.Level.{Level}
use Rattle.ve_repair.specs.declared.script.How.{How}
use Rattle.ve_repair.specs.declared.script.How.TheVariants.{Keep, Cut, Put}
use Rattle.ve_repair.specs.declared.script.Step.{Step}
use Rattle.ve_repair.specs.declared.script.Step.TheVariants.{Enter, Leave, Text, Count}
use Rattle.ve_repair.specs.Labels.{Label}
use Rattle.ve_repair.specs.Lengths.{whole_writes}
use Rattle.ve_repair.specs.Plan.{Stacks, is_same_parent, unlink_of, link_of, placed_writes, stepped_writes, stepped_stacks, script_writes, script_stacks}
use Rattle.ve_repair.specs.Closing.{row_steps, outer_stacks, level_writes, close_writes}
use Rattle.ve_repair.specs.Reader.{Slots}
use Rattle.ve_repair.specs.Sizing.{Sizing, len_under, sized, sized_all, resize_of, end_writes, size_writes, sizes_writes, open_writes}
use Rattle.ve_repair.specs.Writes.{with_length, write_label, write_all, label_all}
use Rattle.ve_repair.proofs.PlanLemmas.{write-append}
use Rattle.ve_repair.proofs.ResizedLemmas.{label-append}

-- writes of lengths leave links
resize-links : (slots : Slots) (n : NodeId) (len : ℕ) (a : Links) → write_all (resize_of slots n len) a ≡ a
resize-links slots n len a = go (nat_eq (len_under slots n) len)
  where
    go : (b : Bool) → write_all (if b then [] else Resize n len ∷ []) a ≡ a
    go true = refl
    go false = refl

end-links : (slots : Slots) (open_ : List OpenFrom) (at : ℕ) (a : Links) → write_all (end_writes slots open_ at) a ≡ a
end-links slots [] at a = refl
end-links slots (b ∷ open_) at a = resize-links slots b.node (at - b.from) a

size-links : (slots : Slots) (step : Step) (s : Sizing) (a : Links) → write_all (size_writes slots step s) a ≡ a
size-links slots (Enter how n) s a = refl
size-links slots (Leave Keep) s a = end-links slots s.new_open (s.new_at + 1) a
size-links slots (Leave Cut) s a = refl
size-links slots (Leave Put) s a = end-links slots s.new_open (s.new_at + 1) a
size-links slots (Text how n) s a = refl
size-links slots (Count n count) s a = resize-links slots n count a

sizes-links : (slots : Slots) (xs : List Step) (s : Sizing) (a : Links) → write_all (sizes_writes slots xs s) a ≡ a
sizes-links slots [] s a = refl
sizes-links slots (x ∷ xs) s a =
    write-append (size_writes slots x s) (sizes_writes slots xs (sized slots x s)) a
    ∙ ap (write_all (sizes_writes slots xs (sized slots x s))) (size-links slots x s a)
    ∙ sizes-links slots xs (sized slots x s) a

open-links : (slots : Slots) (os bs : List OpenFrom) (old_at new_at : ℕ) (a : Links) → write_all (open_writes slots os bs old_at new_at) a ≡ a
open-links slots [] bs old_at new_at a = refl
open-links slots (o ∷ os) [] old_at new_at a = refl
open-links slots (o ∷ os) (b ∷ bs) old_at new_at a =
    let len = (new_at - b.from) + (len_under slots o.node - (old_at - o.from)) in
    write-append (resize_of slots b.node len) (open_writes slots os bs old_at new_at) a
    ∙ ap (write_all (open_writes slots os bs old_at new_at)) (resize-links slots b.node len a)
    ∙ open-links slots os bs old_at new_at a

pub lengths-links : (slots : Slots) (xs : List Step) (s : Sizing) (a : Links) → write_all (whole_writes slots xs s) a ≡ a
lengths-links slots xs s a =
    let last = open_writes slots (sized_all slots xs s).old_open (sized_all slots xs s).new_open (sized_all slots xs s).old_at (sized_all slots xs s).new_at in
    write-append (sizes_writes slots xs s) last a
    ∙ ap (write_all last) (sizes-links slots xs s a)
    ∙ open-links slots (sized_all slots xs s).old_open (sized_all slots xs s).new_open (sized_all slots xs s).old_at (sized_all slots xs s).new_at a

-- writes of links leave labels
unlink-label : (n : NodeId) (os : List NodeId) (q : ℕ) (l : Option Label) → label_all (unlink_of n os) q l ≡ l
unlink-label n [] q l = refl
unlink-label n (o ∷ os) q l = refl

link-label : (n : NodeId) (fs : List Level) (q : ℕ) (l : Option Label) → label_all (link_of n fs) q l ≡ l
link-label n [] q l = refl
link-label n (f ∷ fs) q l = refl

placed-label : (how : How) (n : NodeId) (s : Stacks) (q : ℕ) (l : Option Label) → label_all (placed_writes how n s) q l ≡ l
placed-label Keep n s q l = go (is_same_parent s)
  where
    go : (b : Bool) → label_all (if b then [] else (unlink_of n s.old ++ link_of n s.new)) q l ≡ l
    go true = refl
    go false = label-append (unlink_of n s.old) (link_of n s.new) q l ∙ ap (label_all (link_of n s.new) q) (unlink-label n s.old q l) ∙ link-label n s.new q l
placed-label Cut n s q l = unlink-label n s.old q l
placed-label Put n s q l = link-label n s.new q l

stepped-label : (x : Step) (s : Stacks) (q : ℕ) (l : Option Label) → label_all (stepped_writes x s) q l ≡ l
stepped-label (Enter how n) s q l = placed-label how n s q l
stepped-label (Leave how) s q l = refl
stepped-label (Text how n) s q l = placed-label how n s q l
stepped-label (Count n count) s q l = refl

script-label : (xs : List Step) (s : Stacks) (q : ℕ) (l : Option Label) → label_all (script_writes xs s) q l ≡ l
script-label [] s q l = refl
script-label (x ∷ xs) s q l =
    label-append (stepped_writes x s) (script_writes xs (stepped_stacks x s)) q l
    ∙ ap (label_all (script_writes xs (stepped_stacks x s)) q) (stepped-label x s q l)
    ∙ script-label xs (stepped_stacks x s) q l

level-label : (f : Named) (s : Stacks) (q : ℕ) (l : Option Label) → label_all (level_writes f s) q l ≡ l
level-label f s q l = go (is_same_parent s)
  where
    go : (b : Bool) → label_all (if b then [] else script_writes (row_steps f) s) q l ≡ l
    go true = refl
    go false = script-label (row_steps f) s q l

close-label : (fs : List Named) (s : Stacks) (q : ℕ) (l : Option Label) → label_all (close_writes fs s) q l ≡ l
close-label [] s q l = refl
close-label (f ∷ fs) s q l =
    label-append (level_writes f s) (close_writes fs (outer_stacks s)) q l
    ∙ ap (label_all (close_writes fs (outer_stacks s)) q) (level-label f s q l)
    ∙ close-label fs (outer_stacks s) q l

-- so labels are those that the writes of lengths leave
pub links-label : (xs : List Step) (fs : List Named) (s : Stacks) (rest : List Write) (q : ℕ) (l : Option Label) →
    label_all ((script_writes xs s ++ close_writes fs (script_stacks xs s)) ++ rest) q l ≡ label_all rest q l
links-label xs fs s rest q l =
    label-append (script_writes xs s ++ close_writes fs (script_stacks xs s)) rest q l
    ∙ ap (label_all rest q) (label-append (script_writes xs s) (close_writes fs (script_stacks xs s)) q l
    ∙ ap (label_all (close_writes fs (script_stacks xs s)) q) (script-label xs s q l)
    ∙ close-label fs (script_stacks xs s) q l)

-- no write changes what a node is, and none makes one
abbrev pub sort_of : Option Label → Option NodeWhat
sort_of l = option_map (λ (x : Label). x.sort) l

write-sort : (w : Write) (q : ℕ) (l : Option Label) → sort_of (write_label w q l) ≡ sort_of l
write-sort (Unlink n from) q l = refl
write-sort (Link n to left) q l = refl
write-sort (Resize n len) q l = go (eqb n.0 q) l
  where
    go : (b : Bool) (l : Option Label) → sort_of (if b then option_map (with_length len) l else l) ≡ sort_of l
    go true None = refl
    go true (Some x) = refl
    go false l = refl

pub writes-sort : (ws : List Write) (q : ℕ) (l : Option Label) → sort_of (label_all ws q l) ≡ sort_of l
writes-sort [] q l = refl
writes-sort (w ∷ ws) q l = writes-sort ws q (write_label w q l) ∙ write-sort w q l
