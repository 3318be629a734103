-- The arena after writes of lengths, where each node is written once.
use Rattle.std.proofs.Common.{◌≡◌, ◌≢◌, ℕ, nat_eq, Bool, true, false, if◌then◌else◌, Option, Some, None, IsSome, List, [], ◌∷◌, ◌++◌, option_map, refl, sym, ap, ◌∙◌, eqb, arith}
use Rattle.std.proofs.lemmas.Bool.{eq-eqb, eqb-true}
use Rattle.ve_arena.specs.declared.node.ArenaNode.{ArenaNode}
use Rattle.ve_arena.specs.Arena.{slot_at}
use Rattle.ve_tree.specs.Links.{Apart, AllApart}
use Rattle.ve_tree.specs.Grown.{id_of}
use Rattle.ve_repair.specs.declared.write.Write.{Write}
use Rattle.ve_repair.specs.declared.write.Write.TheVariants.{Resize}
use Rattle.ve_repair.specs.Labels.{Label, label_of, label_at}
use Rattle.ve_repair.specs.Writes.{with_length, write_label, label_all}
use Rattle.ve_repair.specs.Sizes.{Sized, HaveSizes}
use Rattle.ve_repair.specs.Labels.{len_in}
use Rattle.ve_repair.specs.Sizing.{resize_of}
use Rattle.ve_repair.proofs.WalkedLemmas.{resizes}
use Rattle.ve_repair.proofs.ScriptSignsLemmas.{lens}
use Rattle.ve_repair.proofs.CountLemmas.{times, one-same}
use Rattle.ve_repair.proofs.NestedLemmas.{sized_nodes}

abbrev Slots : Type 0
Slots = List (Option ArenaNode)

abbrev len_of : Option Label → Option ℕ
len_of l = option_map (λ (x : Label). x.len) l

pub label-append : (xs ys : List Write) (q : ℕ) (l : Option Label) → label_all (xs ++ ys) q l ≡ label_all ys q (label_all xs q l)
label-append [] ys q l = refl
label-append (x ∷ xs) ys q l = label-append xs ys q (write_label x q l)

other : (slots : Slots) (n len q : ℕ) (l : Option Label) → q ≢ n → label_all (resize_of slots (id_of n) len) q l ≡ l
other slots n len q l h = go (nat_eq (lens slots n) len)
  where
    unwritten : (b : Bool) → eqb n q ≡ b → (if b then option_map (with_length len) l else l) ≡ l
    unwritten true e = absurd (h (sym (eqb-true n q e)))
    unwritten false e = refl

    go : (b : Bool) → label_all (if b then [] else Resize (id_of n) len ∷ []) q l ≡ l
    go true = refl
    go false = ap (λ b. if b then option_map (with_length len) l else l) refl ∙ unwritten (eqb n q) refl

same : (slots : Slots) (n len : ℕ) → IsSome (slot_at slots n) → len_of (label_all (resize_of slots (id_of n) len) n (label_at slots n)) ≡ Some len
same slots n len live = go (slot_at slots n) live (nat_eq (lens slots n) len) refl
  where
    written : (node : ArenaNode) → len_of (if eqb n n then option_map (with_length len) (Some (label_of node)) else Some (label_of node)) ≡ Some len
    written node = ap (λ b. len_of (if b then option_map (with_length len) (Some (label_of node)) else Some (label_of node))) (eq-eqb n n refl)

    go : (o : Option ArenaNode) → IsSome o → (b : Bool) → nat_eq (len_in o) len ≡ b →
        len_of (label_all (if b then [] else Resize (id_of n) len ∷ []) n (option_map label_of o)) ≡ Some len
    go None bad b e = absurd (cc)
    go (Some node) live true e = ap Some (eqb-true node.len len e)
    go (Some node) live false e = written node

abbrev pub HaveLens : (ℕ → Option Label) → List Sized → Type 0
HaveLens f [] = Unit {0}
HaveLens f (z ∷ zs) = (len_of (f z.node) ≡ Some z.len) × HaveLens f zs

-- so far the nodes are labelled as they were
abbrev pub Unwritten : List (Option ArenaNode) → (ℕ → Option Label) → List Sized → Type 0
Unwritten slots f [] = Unit {0}
Unwritten slots f (z ∷ zs) = (f z.node ≡ label_at slots z.node) × Unwritten slots f zs

abbrev pub AllThere : List (Option ArenaNode) → List Sized → Type 0
AllThere slots [] = Unit {0}
AllThere slots (z ∷ zs) = IsSome (slot_at slots z.node) × AllThere slots zs

untouched : (slots : Slots) (q : ℕ) (zs : List Sized) (l : Option Label) → Apart q (sized_nodes zs) → label_all (resizes slots zs) q l ≡ l
untouched slots q [] l h = refl
untouched slots q (z ∷ zs) l h =
    label-append (resize_of slots (id_of z.node) z.len) (resizes slots zs) q l
    ∙ ap (label_all (resizes slots zs) q) (other slots z.node z.len q l h.0)
    ∙ untouched slots q zs l h.1

flip : {m n : ℕ} → m ≢ n → n ≢ m
flip h e = h (sym e)

still : (slots : Slots) (n len : ℕ) (f : ℕ → Option Label) (zs : List Sized) → Apart n (sized_nodes zs) → Unwritten slots f zs → Unwritten slots (λ q. label_all (resize_of slots (id_of n) len) q (f q)) zs
still slots n len f [] a h = tt
still slots n len f (z ∷ zs) a h = (other slots n len z.node (f z.node) (flip a.0) ∙ h.0, still slots n len f zs a.1 h.1)

same_lens : (f g : ℕ → Option Label) (zs : List Sized) → ((q : ℕ) → g q ≡ f q) → HaveLens f zs → HaveLens g zs
same_lens f g [] e h = tt
same_lens f g (z ∷ zs) e h = (ap len_of (e z.node) ∙ h.0, same_lens f g zs e h.1)

pub have_lens : (slots : Slots) (f : ℕ → Option Label) (zs : List Sized) → AllApart (sized_nodes zs) → AllThere slots zs → Unwritten slots f zs → HaveLens (λ q. label_all (resizes slots zs) q (f q)) zs
have_lens slots f [] a there u = tt
have_lens slots f (z ∷ zs) a there u =
    let first = resize_of slots (id_of z.node) z.len in (
      ap len_of (label-append first (resizes slots zs) z.node (f z.node)
          ∙ untouched slots z.node zs (label_all first z.node (f z.node)) a.0
          ∙ ap (label_all first z.node) u.0)
          ∙ same slots z.node z.len there.0,
      same_lens (λ q. label_all (resizes slots zs) q (label_all first q (f q))) (λ q. label_all (first ++ resizes slots zs) q (f q)) zs
          (λ q. label-append first (resizes slots zs) q (f q))
          (have_lens slots (λ q. label_all first q (f q)) zs a.1 there.1 (still slots z.node z.len f zs a.0 u.1)),
    )

unwritten_all : (slots : Slots) (zs : List Sized) → Unwritten slots (label_at slots) zs
unwritten_all slots [] = tt
unwritten_all slots (z ∷ zs) = (refl, unwritten_all slots zs)

by_labels : (after : Slots) (zs : List Sized) → HaveLens (label_at after) zs → HaveSizes after zs
by_labels after [] h = tt
by_labels after (z ∷ zs) h = (by_slot (slot_at after z.node) h.0, by_labels after zs h.1)
  where
    by_slot : (o : Option ArenaNode) → len_of (option_map label_of o) ≡ Some z.len → option_map (λ node. node.len) o ≡ Some z.len
    by_slot None e = e
    by_slot (Some node) e = e

-- each of the nodes has its length, once all are written
pub have_sizes : (slots after : Slots) (zs : List Sized) → AllApart (sized_nodes zs) → AllThere slots zs → ((q : ℕ) → label_at after q ≡ label_all (resizes slots zs) q (label_at slots q)) →
    HaveSizes after zs
have_sizes slots after zs a there e =
    by_labels after zs (same_lens (λ q. label_all (resizes slots zs) q (label_at slots q)) (label_at after) zs e (have_lens slots (label_at slots) zs a there (unwritten_all slots zs)))

-- where a node has the length already nothing is written
pub nothing_written : (slots : Slots) (zs : List Sized) → HaveSizes slots zs → resizes slots zs ≡ []
nothing_written slots [] h = refl
nothing_written slots (z ∷ zs) h = ap (λ l. l ++ resizes slots zs) (by_slot (slot_at slots z.node) h.0) ∙ nothing_written slots zs h.1
  where
    by_slot : (o : Option ArenaNode) → option_map (λ node. node.len) o ≡ Some z.len → ◌≡◌ {A = List Write} (if nat_eq (len_in o) z.len then [] else Resize (id_of z.node) z.len ∷ []) []
    by_slot None e = let bad : ◌≡◌ {A = Option ℕ} None (Some z.len) = e in absurd (cc)
    by_slot (Some node) e =
        let len : node.len ≡ z.len = cc in
        ap (λ (b : Bool). if b then [] else Resize (id_of z.node) z.len ∷ []) (eq-eqb node.len z.len len)

-- nodes that are missed nowhere are there
pub all_there : (slots : Slots) (zs : List Sized) → ((q : ℕ) → slot_at slots q ≡ None → times q (sized_nodes zs) ≡ 0) → AllThere slots zs
all_there slots [] h = tt
all_there slots (z ∷ zs) h =
    (there (slot_at slots z.node) refl, all_there slots zs (λ q none. let k = h q none in omega (arith, k)))
  where
    there : (o : Option ArenaNode) → slot_at slots z.node ≡ o → IsSome (slot_at slots z.node)
    there None e = let k = h z.node e in let some = one-same z.node in absurd (omega (arith, k, some))
    there (Some node) e = ap (λ (o : Option ArenaNode). elim o as (λ x. Bool) [ None ↦ false | Some x ↦ true ]) e
