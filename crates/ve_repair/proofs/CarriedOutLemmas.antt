-- The arena once a script is carried out: lengths and sorts of the new tree's nodes, and no node
-- besides.
use Rattle.std.proofs.Common.{◌≡◌, ℕ, None, Some, List, [], ◌∷◌, ◌++◌, length, map, option_map, sym, ap, ◌∙◌, subst, append-nil, arith}
use Rattle.ve_kinds.specs.declared.kind.Kind.TheVariants.{Root}
use Rattle.model_items.specs.declared.plain_item.PlainItem.{PlainItem}
use Rattle.model_items.specs.Tree.{item_count}
use Rattle.model_items.proofs.NodeAtLemmas.{count_all}
use Rattle.ve_arena.specs.declared.node.NodeId.{NodeId}
use Rattle.ve_arena.specs.declared.node.NodeWhat.TheVariants as what
use Rattle.ve_arena.specs.Arena.{slot_at}
use Rattle.ve_tree.specs.Links.{links_of, Apart}
use Rattle.ve_tree.specs.Named.{Named, node_numbers}
use Rattle.ve_tree.specs.IsTree.{IsTree}
use Rattle.ve_tree.specs.Fits.{IsLabelled}
use Rattle.ve_repair.specs.declared.script.How.TheVariants.{Cut, Put}
use Rattle.ve_repair.specs.declared.script.Step.{Step}
use Rattle.ve_repair.specs.Work.{Keep, Drop, Enter, Leave, Text, Count}
use Rattle.ve_repair.specs.Work as W
use Rattle.ve_repair.specs.Tokens.{Token, old_side, new_side, puts, drops}
use Rattle.ve_repair.specs.Spelled.{Sign, token_of, AllFrom}
use Rattle.ve_repair.specs.Ready.{nums}
use Rattle.ve_repair.specs.Script.{signs_for, script_for, first_reader, Sides}
use Rattle.ve_repair.specs.Acts.{Act, marks, MarksStand}
use Rattle.ve_repair.specs.Agree.{steps_of, Agrees}
use Rattle.ve_repair.specs.Assembly.{all_writes}
use Rattle.ve_repair.specs.Courses.{AreBegun, AreTexts}
use Rattle.ve_repair.specs.Ending.{right_tokens}
use Rattle.ve_repair.specs.Frees.{nodes_of, IsFreed}
use Rattle.ve_repair.specs.Labels.{label_at}
use Rattle.ve_repair.specs.Lengths.{new_signs, StartsAt, whole_writes, LeadsOn, HaveLengths}
use Rattle.ve_repair.specs.Made.{SignsHaveSorts}
use Rattle.ve_repair.specs.Matching.{IsChanged}
use Rattle.ve_repair.specs.Plan.{Stacks}
use Rattle.ve_repair.specs.Reader.{Slots, HasMade}
use Rattle.ve_repair.specs.Sizes.{sizes, signs_of, place_after, HasSort, HaveSorts, HaveSizes}
use Rattle.ve_repair.specs.Sizing.{Sizing}
use Rattle.ve_repair.specs.Whole.{script_of, IsCarriedOut}
use Rattle.ve_repair.specs.Writes.{label_all, CarriedOut}
use Rattle.ve_repair.proofs.ActLemmas.{acts_mark}
use Rattle.ve_repair.proofs.SidesLemma.{script_has_sides}
use Rattle.ve_repair.proofs.ScriptSignsLemmas.{makes_signs}
use Rattle.ve_repair.proofs.NumberLemmas.{from_swap}
use Rattle.ve_repair.proofs.NumberedLemmas.{place_passed}
use Rattle.ve_repair.proofs.FreedLemmas.{cuts-drops}
use Rattle.ve_repair.proofs.LengthLemmas.{of_forest, lengths_are_written}
use Rattle.ve_repair.proofs.LengthCostLemmas.{tree_lengths}
use Rattle.ve_repair.proofs.MadeLemmas.{new_side_has_sorts, sorts_before, sorts_behind, sorts_join, forest_sorts}
use Rattle.ve_repair.proofs.RelinkLemmas.{apart-ls, apart-rs, apart-join}
use Rattle.ve_repair.proofs.ReadyLemmas.{nums-append}
use Rattle.ve_repair.proofs.NewNodeLemmas.{script_new, come_sorts, text_sorts, puts-nodes, links_stay, AreNew}
use Rattle.ve_repair.proofs.CarriedWritesLemmas.{links-label}
use Rattle.ve_repair.proofs.CarriedLabelsLemmas.{shown_sorts, sort_kept, sorts_kept, len_kept, sizes_kept, missing, none_missing, freed_other, freed_none, written_sort, written_none, sorts_stay, sizes_stay}
use Rattle.ve_repair.proofs.CarriedLinksLemmas.{old_numbers, new_numbers, new_apart, new_gone, begin, begun_past, carried_links}

-- a number that is none of the new ones, and of no node that goes, is none of the old ones,
apart_old : (q : ℕ) (ss : List W.Step) (ts : List Token) → Apart q (nums (new_side ss ts)) → Apart q (drops ss) → Apart q (nums (old_side ss ts))
apart_old q [] ts a d = a
apart_old q (Enter Keep n ∷ ss) ts a d = (a.0, apart_old q ss ts a.1 d)
apart_old q (Enter Drop n ∷ ss) ts a d = (d.0, apart_old q ss ts a d.1)
apart_old q (Enter W.Put n ∷ ss) ts a d = apart_old q ss ts a.1 d
apart_old q (Leave Keep ∷ ss) ts a d = apart_old q ss ts a d
apart_old q (Leave Drop ∷ ss) ts a d = apart_old q ss ts a d
apart_old q (Leave W.Put ∷ ss) ts a d = apart_old q ss ts a d
apart_old q (Text Keep n ∷ ss) ts a d = (a.0, apart_old q ss ts a.1 d)
apart_old q (Text Drop n ∷ ss) ts a d = (d.0, apart_old q ss ts a d.1)
apart_old q (Text W.Put n ∷ ss) ts a d = apart_old q ss ts a.1 d
apart_old q (Count n count ∷ ss) ts a d = apart_old q ss ts a d

-- and none of those that are made
apart_puts : (q : ℕ) (ss : List W.Step) (ts : List Token) → Apart q (nums (new_side ss ts)) → Apart q (puts ss)
apart_puts q [] ts a = tt
apart_puts q (Enter Keep n ∷ ss) ts a = apart_puts q ss ts a.1
apart_puts q (Enter Drop n ∷ ss) ts a = apart_puts q ss ts a
apart_puts q (Enter W.Put n ∷ ss) ts a = (a.0, apart_puts q ss ts a.1)
apart_puts q (Leave Keep ∷ ss) ts a = apart_puts q ss ts a
apart_puts q (Leave Drop ∷ ss) ts a = apart_puts q ss ts a
apart_puts q (Leave W.Put ∷ ss) ts a = apart_puts q ss ts a
apart_puts q (Text Keep n ∷ ss) ts a = apart_puts q ss ts a.1
apart_puts q (Text Drop n ∷ ss) ts a = apart_puts q ss ts a
apart_puts q (Text W.Put n ∷ ss) ts a = (a.0, apart_puts q ss ts a.1)
apart_puts q (Count n count ∷ ss) ts a = apart_puts q ss ts a

module _ (supply : ℕ → ℕ) (root : NodeId) (old : Slots) (items others : List PlainItem) (tree : IsTree old root items) (lefts ss rights : List Sign) (acts : List Act)
    (changed : IsChanged supply root old items others tree lefts ss rights acts) (xs : List Step) (is : steps_of xs ≡ script_of supply acts ss)
    (mid : Slots) (made : HasMade old mid (nodes_of Put xs)) (begun : AreBegun mid acts) (texts : AreTexts mid (steps_of xs)) where
  abbrev script : List W.Step
  script = script_for supply (marks acts ss) (first_reader 0)

  abbrev news : List Sign
  news = signs_for supply (marks acts ss) (first_reader 0)

  abbrev named : Named
  named = changed.forest.named

  -- making nodes leaves the links
  pub made_links : links_of mid ≡ links_of old
  made_links = links_stay old mid (nodes_of Put xs) made
      (subst (AreNew mid) (sym (puts-nodes xs ∙ ap puts is)) (script_new mid supply acts ss begun (subst (AreTexts mid) is texts)))

  -- all nodes of the new tree are what they are to be,
  pub made_sorts : HaveSorts mid named
  made_sorts =
      let all : SignsHaveSorts mid (lefts ++ (ss ++ rights)) = subst (SignsHaveSorts mid) changed.change.signs (sorts_kept old mid made.keeps (signs_of tree.named) (shown_sorts old tree.named tree.shown)) in
      let rest = sorts_behind mid lefts (ss ++ rights) all in
      let new = new_side_has_sorts mid supply acts ss (sorts_before mid ss rights rest) (come_sorts mid acts begun) (text_sorts mid script (subst (AreTexts mid) is texts)) in
      forest_sorts mid named (subst (SignsHaveSorts mid) (sym changed.forest.signs)
      (sorts_join mid lefts (news ++ rights) (sorts_before mid lefts (ss ++ rights) all) (sorts_join mid news rights new (sorts_behind mid ss rights rest))))

  made_root : HasSort mid root.0 (what.Node Root)
  made_root = sort_kept old mid made.keeps root.0 (what.Node Root) tree.root_shown.sort_is

  -- so they are there
  pub made_there : (q : ℕ) → slot_at mid q ≡ None → Apart q (root.0 ∷ node_numbers named)
  made_there q none = (missing mid q root.0 (what.Node Root) none made_root, none_missing mid q none named made_sorts)

  -- the old lengths
  made_lengths : HaveLengths mid root.0 tree.named
  made_lengths =
      let h = tree_lengths old root items tree in
      record { nodes = sizes_kept old mid made.keeps (sizes (signs_of tree.named) [] 0) h.nodes; all = len_kept old mid made.keeps root.0 (place_after (signs_of tree.named) 0) h.all }

  leads_on : LeadsOn tree.named named lefts ss news rights xs
  leads_on =
      let stands : MarksStand acts ss [] = acts_mark acts ss [] changed.change.uses changed.change.texts in
      let sides : Sides supply (marks acts ss) [] = script_has_sides supply (marks acts ss) [] stands.together in
      record {
        old_signs = changed.change.signs;
        new_signs_are = changed.forest.signs;
        passes = ap (λ l. old_side l []) is ∙ sides.old ∙ stands.old ∙ append-nil (map token_of ss);
        makes = ap new_signs is ∙ makes_signs supply (marks acts ss) (first_reader 0);
      }

  module _ (fs : List Named) (s : Stacks) (z : Sizing) (starts : StartsAt root.0 lefts z) (written new : Slots)
      (labels : (q : ℕ) → label_at written q ≡ label_all (all_writes mid xs fs s z) q (label_at mid q)) (freed : IsFreed written new (nodes_of Cut xs)) where
    -- the lengths that are written
    written_lengths : HaveLengths written root.0 named
    written_lengths =
        lengths_are_written mid written root.0 tree.named named lefts ss news rights xs z leads_on starts made_lengths
        (new_apart supply root old items others tree lefts ss rights acts changed xs is) made_there
        (λ q. labels q ∙ links-label xs fs s (whole_writes mid xs z) q (label_at mid q))

    -- the new tree's nodes are not freed
    all_stay : AllFrom (root.0 ∷ node_numbers named) (drops (steps_of xs))
    all_stay = from_swap (drops (steps_of xs)) (root.0 ∷ node_numbers named) (new_gone supply root old items others tree lefts ss rights acts changed xs is)

    stays : (q : ℕ) → Apart q (drops (steps_of xs)) → slot_at new q ≡ slot_at written q
    stays q a = freed q ∙ freed_other (nodes_of Cut xs) q (slot_at written q) (subst (Apart q) (sym (cuts-drops xs)) a)

    pub carried_lengths : HaveSizes new (sizes (signs_of named) [] 0)
    carried_lengths =
        subst (HaveSizes new) (sym (of_forest named []))
        (sizes_stay written new (drops (steps_of xs)) stays named all_stay.1 (subst (HaveSizes written) (of_forest named []) written_lengths.nodes))

    all_counted : place_after (signs_of named) 0 ≡ length others
    all_counted = let p = place_passed named 0 in let c = ap item_count changed.forest.spells ∙ count_all others changed.change.lawful in omega (arith, p, c)

    same_sort : (q : ℕ) → Apart q (drops (steps_of xs)) → option_map (λ node. node.what) (slot_at new q) ≡ option_map (λ node. node.what) (slot_at mid q)
    same_sort q a = ap (option_map (λ node. node.what)) (stays q a) ∙ written_sort mid written (all_writes mid xs fs s z) q (labels q)

    pub carried_root : IsLabelled new root.0 (what.Node Root) (length others)
    carried_root = record {
      sort_is = same_sort root.0 all_stay.0 ∙ made_root;
      len_is = ap (option_map (λ node. node.len)) (stays root.0 all_stay.0) ∙ written_lengths.all ∙ ap Some all_counted;
    }

    pub carried_sorts : HaveSorts new named
    carried_sorts = sorts_stay mid new (drops (steps_of xs)) same_sort named all_stay.1 made_sorts

    -- a number of no new node, and of none that goes, has none
    none_else : (q : ℕ) → Apart q (root.0 ∷ node_numbers named) → Apart q (drops (steps_of xs)) → slot_at mid q ≡ None
    none_else q a d =
        made.others q (subst (Apart q) (sym (puts-nodes xs)) (apart_puts q (steps_of xs) (map token_of rights) behind))
        ∙ tree.only q (
          a.0,
          subst (Apart q) (sym (old_numbers supply root old items others tree lefts ss rights acts changed xs is))
              (subst (Apart q) (sym (nums-append (map token_of lefts) (old_side (steps_of xs) (map token_of rights))))
              (apart-join q (nums (map token_of lefts)) (nums (old_side (steps_of xs) (map token_of rights))) before (apart_old q (steps_of xs) (map token_of rights) behind d))),
        )
      where
        all : Apart q (nums (map token_of lefts) ++ nums (new_side (steps_of xs) (map token_of rights)))
        all = subst (Apart q) (nums-append (map token_of lefts) (new_side (steps_of xs) (map token_of rights)))
            (subst (Apart q) (sym (new_numbers supply root old items others tree lefts ss rights acts changed xs is)) a.1)

        before : Apart q (nums (map token_of lefts))
        before = apart-ls q (nums (map token_of lefts)) (nums (new_side (steps_of xs) (map token_of rights))) all

        behind : Apart q (nums (new_side (steps_of xs) (map token_of rights)))
        behind = apart-rs q (nums (map token_of lefts)) (nums (new_side (steps_of xs) (map token_of rights))) all

    pub carried_only : (q : ℕ) → Apart q (root.0 ∷ node_numbers named) → slot_at new q ≡ None
    carried_only q a =
        freed q
        ∙ freed_none (nodes_of Cut xs) q (slot_at written q)
        (λ d. written_none mid written (all_writes mid xs fs s z) q (labels q) (none_else q a (subst (Apart q) (cuts-drops xs) d)))

  -- Where all writes of a repair were made, and what goes is freed, the script is carried out.
  pub carried_out : (fs : List Named) (s : Stacks) (z : Sizing) (written new : Slots) →
      Agrees s (begin supply root old items others tree lefts ss rights acts changed xs is) (begun_past supply root old items others tree lefts ss rights acts changed xs is) →
      right_tokens fs ≡ map token_of rights → StartsAt root.0 lefts z → CarriedOut mid written (all_writes mid xs fs s z) → IsFreed written new (nodes_of Cut xs) →
      IsCarriedOut root lefts rights (steps_of xs) old new named others
  carried_out fs s z written new agrees rows starts c freed = record {
    links = carried_links supply root old items others tree lefts ss rights acts changed xs is fs s z mid written new agrees rows made_links c.links freed;
    sorts = carried_sorts fs s z starts written new c.labels freed;
    lengths = carried_lengths fs s z starts written new c.labels freed;
    root_labelled = carried_root fs s z starts written new c.labels freed;
    only = carried_only fs s z starts written new c.labels freed;
  }
