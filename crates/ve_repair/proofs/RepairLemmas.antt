-- The laws of the repair, put together.
use Rattle.std.proofs.Common.{◌≡◌, ◌≢◌, ◌⊎◌, inl, inr, ℕ, nat_eq, if◌then◌else◌, Option, List, [], ◌∷◌, ◌++◌, refl, sym, ap, ◌∙◌, subst}
use Rattle.std.proofs.lemmas.Bool.{ne_eqb}
use Rattle.model_items.specs.declared.plain_item.PlainItem.{PlainItem}
use Rattle.ve_arena.specs.declared.node.NodeId.{NodeId}
use Rattle.ve_arena.specs.declared.node.ArenaNode.{ArenaNode}
use Rattle.ve_tree.specs.Links.{Links, links_of, Apart}
use Rattle.ve_tree.specs.Named.{Named, NoNode, NamedRun, NamedBranch, heads, node_numbers}
use Rattle.ve_tree.specs.IsTree.{IsTree}
use Rattle.ve_tree.specs.Fits.{Fits, HaveKids, IsTreeWith}
use Rattle.ve_tree.specs.Fits as F
use Rattle.ve_tree.proofs.FitsLemmas.{same_or_not, tree_fits, fits_are_tree}
use Rattle.ve_repair.specs.Work.{Work, Step, kids_of, script_links}
use Rattle.ve_repair.specs.Tokens.{Token, tokens, start, none, grown, old_side, drops, freed_all, keeps, work_at}
use Rattle.ve_repair.specs.Spelled.{AllFrom}
use Rattle.ve_repair.specs.Repair.{IsRepair, RepairGivesTree}
use Rattle.ve_repair.proofs.RelinkLemmas.{apart-ls, apart-rs}
use Rattle.ve_repair.proofs.WorkLemmas.{fits_same}
use Rattle.ve_repair.proofs.TokenLemmas.{Begun, begun, script_repairs}
use Rattle.ve_repair.proofs.AloneLemmas.{Stays, script-stays, freed-stays}
use Rattle.ve_repair.proofs.FreeLemmas.{fits_freed_all}
use Rattle.ve_repair.proofs.GrowLemmas.{grown_shows, kids_absent, absent, all_gone}

-- lists that both have a forest's children are the same at its nodes
agree : (k k' : ℕ → List ℕ) (f : Named) → HaveKids k f → HaveKids k' f → (q : ℕ) → Apart q (node_numbers f) ⊎ (k' q ≡ k q)
agree k k' NoNode h g q = inl tt
agree k k' (NamedRun n count later) h g q =
    elim (same_or_not q n) [
      | inl same ↦ inr (subst (λ m. k' m ≡ k m) (sym same) (g.0 ∙ sym h.0))
      | inr ne ↦ elim (agree k k' later h.1 g.1 q) [ inl none ↦ inl (ne, none) | inr e ↦ inr e ]
    ]
agree k k' (NamedBranch n kind inside later) h g q =
    elim (same_or_not q n) [
      | inl same ↦ inr (subst (λ m. k' m ≡ k m) (sym same) (g.0 ∙ sym h.0))
      | inr ne ↦ elim (agree k k' inside h.1 g.1 q) [
        | inl out ↦ elim (agree k k' later h.2 g.2 q) [ inl none ↦ inl (ne, join (node_numbers inside) out none) | inr e ↦ inr e ]
        | inr e ↦ inr e
      ]
    ]
  where
    join : (ns : List ℕ) → Apart q ns → Apart q (node_numbers later) → Apart q (ns ++ node_numbers later)
    join [] h g = g
    join (m ∷ ns) h g = (h.0, join ns h.1 g)

kids_other : (q n : ℕ) (own other : List ℕ) → q ≢ n → ◌≡◌ {A = List ℕ} (if nat_eq q n then own else other) other
kids_other q n own other ne = ap (λ t. if t then own else other) (ne_eqb q n ne)

kids_in_absent : (f : Named) (q : ℕ) → Apart q (node_numbers f) → F.kids_in f q ≡ []
kids_in_absent NoNode q a = refl
kids_in_absent (NamedRun n count later) q a = kids_in_absent later q a.1
kids_in_absent (NamedBranch n kind inside later) q a =
    kids_other q n (heads inside) (F.kids_in inside q ++ F.kids_in later q) a.0
    ∙ ap (λ l. l ++ F.kids_in later q) (kids_in_absent inside q (apart-ls q (node_numbers inside) (node_numbers later) a.1))
    ∙ kids_in_absent later q (apart-rs q (node_numbers inside) (node_numbers later) a.1)

-- the children of a tree's nodes, read from its tokens
tree_grown : (slots : List (Option ArenaNode)) (root : NodeId) (items : List PlainItem) (tree : IsTree slots root items) → Fits (links_of slots) (grown (tokens tree.named) (start root.0)).kids
tree_grown slots root items tree =
    fits_same (links_of slots) (F.kids_of root.0 f) (grown (tokens f) (start root.0)).kids same of.fits
  where
    f : Named
    f = tree.named

    of : IsTreeWith slots root items f (F.kids_of root.0 f)
    of = tree_fits slots root items tree

    shown : ((grown (tokens f) (start root.0)).kids root.0 ≡ heads f) × HaveKids (grown (tokens f) (start root.0)).kids f
    shown = grown_shows root.0 f tree.apart

    same : (q : ℕ) → (grown (tokens f) (start root.0)).kids q ≡ F.kids_of root.0 f q
    same q =
        elim (same_or_not q root.0) [
          | inl e ↦ subst (λ m. (grown (tokens f) (start root.0)).kids m ≡ F.kids_of root.0 f m) (sym e) (shown.0 ∙ sym of.top)
          | inr ne ↦ elim (agree (F.kids_of root.0 f) (grown (tokens f) (start root.0)).kids f of.inside shown.1 q) [
            | inl out ↦ kids_absent root.0 f tree.apart q (λ e. ne (sym e)) out ∙ sym (kids_in_absent f q out) ∙ sym (kids_other q root.0 (heads f) (F.kids_in f q) ne)
            | inr e ↦ e
          ]
        ]

-- a root that goes stands nowhere among what goes
root_stays : (root : ℕ) (ns ms : List ℕ) → AllFrom ns (root ∷ ms) → Apart root ns
root_stays root [] ms h = tt
root_stays root (n ∷ ns) ms h = (λ e. h.0.0 (sym e), root_stays root ns ms h.1)

-- the nodes are the tree, with the numbers of the forest
pub repair_with : (root : NodeId) (lefts right : List Token) (script : List Step) (old new : List (Option ArenaNode)) (items others : List PlainItem) (tree : IsTree old root items) (named : Named) →
    IsRepair root lefts script right old new items others tree named → IsTreeWith new root others named (grown (tokens named) (start root.0)).kids
repair_with root lefts right script old new items others tree named r =
    record {
      lawful = r.lawful;
      is_tree = r.spells;
      apart = r.apart;
      top = shown.0;
      inside = shown.1;
      fits = subst (λ l. Fits l (grown (tokens named) (start root.0)).kids) (sym r.links)
          (fits_freed_all (drops script) links (grown (tokens named) (start root.0)).kids
          (subst (λ ts. Fits links (grown ts (start root.0)).kids) (sym r.new_tokens) (script_repairs root.0 lefts right script (links_of old) old_fits r.free))
          (all_gone root.0 named r.apart (drops script) r.gone));
      labelled = r.labelled;
      root_labelled = r.root_labelled;
      root_alone = record {
        no_parent = ap (λ (l : Links). l.parent root.0) r.links ∙ stays.parent ∙ tree.root_alone.no_parent;
        no_before = ap (λ (l : Links). l.before root.0) r.links ∙ stays.before ∙ tree.root_alone.no_before;
        no_after = ap (λ (l : Links). l.after root.0) r.links ∙ stays.after ∙ tree.root_alone.no_after;
      };
      only = r.only;
    }
  where
    w : Work
    w = work_at root.0 lefts (old_side script right)

    links : Links
    links = script_links (script ++ keeps right) w (links_of old)

    old_fits : Fits (links_of old) (grown (lefts ++ old_side script right) (start root.0)).kids
    old_fits = subst (λ ts. Fits (links_of old) (grown ts (start root.0)).kids) r.old_tokens (tree_grown old root items tree)

    shown : ((grown (tokens named) (start root.0)).kids root.0 ≡ heads named) × HaveKids (grown (tokens named) (start root.0)).kids named
    shown = grown_shows root.0 named r.apart

    ran : Begun root.0 lefts right script (links_of old)
    ran = begun root.0 lefts right script (links_of old) old_fits r.free

    nobody : (q : ℕ) → Apart root.0 ((grown (lefts ++ old_side script right) (start root.0)).kids q)
    nobody q = subst (λ ts. Apart root.0 ((grown ts (start root.0)).kids q)) r.old_tokens (absent tree.named (start root.0) root.0 tree.apart.0 (λ p. tt) q)

    both : (q : ℕ) → Apart root.0 (kids_of w.done w.rest q)
    both q = subst (Apart root.0) (ran.kids q) (nobody q)

    stays : Stays root.0 (links_of old) (freed_all (drops script) links)
    stays =
        let s = script-stays root.0 (script ++ keeps right) w (links_of old) ran.fits ran.can
        (λ q. apart-ls root.0 (w.done q) (w.rest q) (both q), λ q. apart-rs root.0 (w.done q) (w.rest q) (both q))
        (subst (Apart root.0) (sym ran.puts_are) r.root_free) in
        let t = freed-stays root.0 (drops script) links (root_stays root.0 (drops script) (node_numbers named) r.gone) in
        record { parent = t.parent ∙ s.parent; before = t.before ∙ s.before; after = t.after ∙ s.after }

pub repair_gives_tree : RepairGivesTree
repair_gives_tree root lefts right script old new items others tree named r =
    fits_are_tree new root others named (grown (tokens named) (start root.0)).kids (repair_with root lefts right script old new items others tree named r)
