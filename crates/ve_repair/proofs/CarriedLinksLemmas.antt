-- The links of the old tree after the writes of a repair.
use Rattle.std.proofs.Common.{◌≡◌, ℕ, List, [], ◌∷◌, ◌++◌, map, sym, ap, ◌∙◌, subst}
use Rattle.model_items.specs.declared.plain_item.PlainItem.{PlainItem}
use Rattle.ve_arena.specs.declared.node.NodeId.{NodeId}
use Rattle.ve_tree.specs.Links.{Links, links_of, AllApart}
use Rattle.ve_tree.specs.Named.{Named, node_numbers}
use Rattle.ve_tree.specs.IsTree.{IsTree}
use Rattle.ve_repair.specs.declared.script.How.TheVariants.{Cut}
use Rattle.ve_repair.specs.declared.script.Step.{Step}
use Rattle.ve_repair.specs.Work as W
use Rattle.ve_repair.specs.Tokens.{tokens, old_side, new_side, puts, drops, freed_all, keeps, work_at}
use Rattle.ve_repair.specs.Spelled.{Sign, token_of, AllFrom}
use Rattle.ve_repair.specs.Ready.{nums, onto}
use Rattle.ve_repair.specs.Numbers.{NumbersStand}
use Rattle.ve_repair.specs.Acts.{Act}
use Rattle.ve_repair.specs.Agree.{steps_of, Agrees, Ready}
use Rattle.ve_repair.specs.Assembly.{all_writes}
use Rattle.ve_repair.specs.Ending.{right_tokens}
use Rattle.ve_repair.specs.Frees.{nodes_of, IsFreed}
use Rattle.ve_repair.specs.Lengths.{whole_writes}
use Rattle.ve_repair.specs.Matching.{IsChanged}
use Rattle.ve_repair.specs.Plan.{Stacks, script_writes, script_stacks}
use Rattle.ve_repair.specs.Closing.{close_writes}
use Rattle.ve_repair.specs.Reader.{Slots}
use Rattle.ve_repair.specs.Sizing.{Sizing}
use Rattle.ve_repair.specs.Whole.{script_of}
use Rattle.ve_repair.specs.Writes.{write_all}
use Rattle.ve_repair.proofs.ReadyLemmas.{nums-tokens, script_is_ready}
use Rattle.ve_repair.proofs.NumberLemmas.{numbers_are_new}
use Rattle.ve_repair.proofs.PlanLemmas.{write-append}
use Rattle.ve_repair.proofs.EndingLemmas.{plan_is_whole}
use Rattle.ve_repair.proofs.FreedLemmas.{freed_links_are}
use Rattle.ve_repair.proofs.FitLemmas.{rows_fit}
use Rattle.ve_repair.proofs.CarriedWritesLemmas.{lengths-links}

module _ (supply : ℕ → ℕ) (root : NodeId) (old : Slots) (items others : List PlainItem) (tree : IsTree old root items) (lefts ss rights : List Sign) (acts : List Act)
    (changed : IsChanged supply root old items others tree lefts ss rights acts) (xs : List Step) (is : steps_of xs ≡ script_of supply acts ss) where
  -- the script in both trees
  pub old_stands : tokens tree.named ≡ map token_of lefts ++ old_side (steps_of xs) (map token_of rights)
  old_stands = changed.forest.old_tokens ∙ ap (λ l. map token_of lefts ++ old_side l (map token_of rights)) (sym is)

  pub new_stands : tokens changed.forest.named ≡ map token_of lefts ++ new_side (steps_of xs) (map token_of rights)
  new_stands = changed.forest.new_tokens ∙ ap (λ l. map token_of lefts ++ new_side l (map token_of rights)) (sym is)

  pub old_numbers : node_numbers tree.named ≡ nums (map token_of lefts ++ old_side (steps_of xs) (map token_of rights))
  old_numbers = sym (nums-tokens tree.named) ∙ ap nums old_stands

  pub new_numbers : nums (map token_of lefts ++ new_side (steps_of xs) (map token_of rights)) ≡ node_numbers changed.forest.named
  new_numbers = ap nums (sym new_stands) ∙ nums-tokens changed.forest.named

  pub numbers_stand : NumbersStand root.0 (map token_of lefts) (map token_of rights) (steps_of xs)
  numbers_stand = numbers_are_new root.0 (map token_of lefts) (map token_of rights) (steps_of xs)
      (subst (λ ns. AllApart (root.0 ∷ ns)) old_numbers tree.apart)
      (subst (λ l. AllApart (puts l)) (sym is) changed.distinct)
      (subst (λ ns. AllFrom (puts (steps_of xs)) (root.0 ∷ ns)) old_numbers (subst (λ l. AllFrom (puts l) (root.0 ∷ node_numbers tree.named)) (sym is) changed.made))

  pub new_apart : AllApart (root.0 ∷ node_numbers changed.forest.named)
  new_apart = subst (λ ns. AllApart (root.0 ∷ ns)) new_numbers numbers_stand.apart

  pub new_gone : AllFrom (drops (steps_of xs)) (root.0 ∷ node_numbers changed.forest.named)
  new_gone = subst (λ ns. AllFrom (drops (steps_of xs)) (root.0 ∷ ns)) new_numbers numbers_stand.gone

  -- where the script begins
  abbrev pub begin : W.Work
  begin = work_at root.0 (map token_of lefts) (old_side (steps_of xs) (map token_of rights))

  abbrev pub begun_past : List ℕ
  begun_past = onto (nums (map token_of lefts)) (root.0 ∷ [])

  pub is_ready : Ready (steps_of xs) begin begun_past
  is_ready = script_is_ready root.0 (map token_of lefts) (map token_of rights) (steps_of xs) tree.named changed.forest.named old_stands new_stands new_apart

  -- what is planned makes the links of the script with all that follows kept
  planned_links : (fs : List Named) (s : Stacks) (a : Links) → Agrees s begin begun_past → right_tokens fs ≡ map token_of rights →
      write_all (script_writes xs s ++ close_writes fs (script_stacks xs s)) a ≡ W.script_links (steps_of xs ++ keeps (map token_of rights)) begin a
  planned_links fs s a agrees rows =
      plan_is_whole xs fs s begin begun_past a agrees is_ready
      (rows_fit root.0 (map token_of lefts) (map token_of rights) (steps_of xs) tree.named changed.forest.named fs rows old_stands new_stands numbers_stand.apart)
      ∙ ap (λ l. W.script_links (steps_of xs ++ keeps l) begin a) rows

  pub carried_links : (fs : List Named) (s : Stacks) (z : Sizing) (mid written new : Slots) → Agrees s begin begun_past → right_tokens fs ≡ map token_of rights → links_of mid ≡ links_of old →
      links_of written ≡ write_all (all_writes mid xs fs s z) (links_of mid) → IsFreed written new (nodes_of Cut xs) →
      links_of new ≡ freed_all (drops (steps_of xs)) (W.script_links (steps_of xs ++ keeps (map token_of rights)) begin (links_of old))
  carried_links fs s z mid written new agrees rows same wrote freed =
      let plan = script_writes xs s ++ close_writes fs (script_stacks xs s) in
      freed_links_are written new xs freed
      ∙ ap (freed_all (drops (steps_of xs))) (
      wrote
      ∙ write-append plan (whole_writes mid xs z) (links_of mid)
      ∙ lengths-links mid xs z (write_all plan (links_of mid))
      ∙ planned_links fs s (links_of mid) agrees rows
      ∙ ap (W.script_links (steps_of xs ++ keeps (map token_of rights)) begin) same)
