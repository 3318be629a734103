-- Writes, one after the other.
use Rattle.std.proofs.Common.{◌≡◌, ◌≢◌, ℕ, ◌+◌, Bool, true, false, if◌then◌else◌, Option, Some, None, List, option_map, refl, sym, ap, ◌∙◌, subst, eqb}
use Rattle.std.proofs.lemmas.Bool.{eq-eqb, eqb-true}
use Rattle.ve_arena.specs.declared.node.NodeId.{NodeId}
use Rattle.ve_arena.specs.declared.node.ArenaNode.{ArenaNode}
use Rattle.ve_arena.specs.Arena.{node_under, Changes, with_len}
use Rattle.ve_tree.specs.Links.{links_of}
use Rattle.ve_repair.specs.declared.write.Write.{Write}
use Rattle.ve_repair.specs.declared.write.Write.TheVariants.{Resize}
use Rattle.ve_repair.specs.Labels.{label_of, label_at, AllLead, StayLive}
use Rattle.ve_repair.specs.Writes.{weight, with_length, write_all, label_all, Wrote}
use Rattle.ve_repair.proofs.RelinkLemmas.{by_case}
use Rattle.ve_repair.proofs.ArenaLemmas.{links_of-len}

abbrev Slots : Type 0
Slots = List (Option ArenaNode)

-- a length that is written
sized : (len : ℕ) (o : Option ArenaNode) → option_map label_of (option_map (with_len len) o) ≡ option_map (with_length len) (option_map label_of o)
sized len None = refl
sized len (Some node) = refl

choose : {A : Type 0} (n q : ℕ) (x y : A) → n ≢ q → (if eqb n q then x else y) ≡ y
choose n q x y h = go (eqb n q) refl
  where
    go : (b : Bool) → eqb n q ≡ b → (if b then x else y) ≡ y
    go true e = absurd (h (eqb-true n q e))
    go false e = refl

pub wrote_len : (old new : Slots) (n : NodeId) (len : ℕ) → Changes old new n (with_len len) → Wrote old new (Resize n len)
wrote_len old new n len c = record {
  links = links_of-len old new n len c;
  labels = λ q. by_case n.0 q
      (λ e. subst (λ q. label_at new q ≡ (if eqb n.0 q then option_map (with_length len) (label_at old q) else label_at old q)) e
      (ap (option_map label_of) c.here ∙ sized len (node_under old n)
      ∙ sym (ap (λ b. if b then option_map (with_length len) (label_at old n.0) else label_at old n.0) (eq-eqb n.0 n.0 refl))))
      (λ h. ap (option_map label_of) (c.others q (λ e. h (sym e))) ∙ sym (choose n.0 q (option_map (with_length len) (label_at old q)) (label_at old q) h));
}

-- so far the writes before the rest were made
pub record Going (old now : Slots) (before steps : ℕ) (rest all : List Write) : Type 0 where
  pub links : write_all rest (links_of now) ≡ write_all all (links_of old)
  pub labels : (q : ℕ) → label_all rest q (label_at now q) ≡ label_all all q (label_at old q)
  pub live : StayLive old now
  pub leads : AllLead now
  pub cost_is : steps + weight rest ≡ before + weight all
