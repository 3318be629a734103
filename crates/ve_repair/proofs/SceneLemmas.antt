-- The parts of a repair, and how each meets the conditions of the next.
use Rattle.std.proofs.Common.{◌≡◌, ◌≤◌, ◌+◌, ◌-◌, ◌^◌, ℕ, None, inl, inr, replicate, append_assoc, List, [], ◌++◌, length, map, All, refl, sym, ap, ◌∙◌, subst, arith}
use Rattle.model_items.specs.declared.item.Item.{Item}
use Rattle.ve_arena.specs.declared.node.NodeId.{NodeId}
use Rattle.ve_arena.specs.Arena.{IsLive}
use Rattle.ve_tree.specs.Links.{AllApart, number_of}
use Rattle.ve_tree.specs.Named.{Named}
use Rattle.ve_tree.specs.IsTree.{unvalued}
use Rattle.ve_tx.specs.Operation.{Operation, bare}
use Rattle.ve_tx.specs.declared.op.Op.{Op}
use Rattle.ve_base.specs.declared.value.Value.{Value}
use Rattle.ve_repair.specs.declared.range.ChangedRange.{ChangedRange}
use Rattle.ve_repair.specs.declared.start.Start.{Start}
use Rattle.ve_repair.specs.declared.write.Write.{Write}
use Rattle.ve_repair.specs.declared.script.How.TheVariants.{Put, Cut}
use Rattle.ve_repair.specs.Agree.{steps_of}
use Rattle.ve_repair.specs.Acts.{Act, Stay, acts_of, marks}
use Rattle.ve_repair.specs.Assembly.{MayRead, CanPlan, all_writes}
use Rattle.ve_repair.specs.Begun.{HasBegun}
use Rattle.ve_repair.specs.Bounded.{IsPlanned}
use Rattle.ve_repair.specs.Change.{new_list}
use Rattle.ve_repair.specs.Closing.{AreLeft}
use Rattle.ve_repair.specs.Courses.{supply_of, AreReadOut, with_stays, HasRead, come_size, old_count, all_openings, AreBegun}
use Rattle.ve_repair.specs.Cursor.{Place, passed_signs, coming_signs}
use Rattle.ve_repair.specs.Cursors.{Spot, spot_of, past, items_in, IsAt}
use Rattle.ve_repair.specs.Frees.{nodes_of, IsFreed}
use Rattle.ve_repair.specs.Labels.{AllLead}
use Rattle.ve_repair.specs.Matching.{IsChanged}
use Rattle.ve_repair.specs.Plan.{Stacks, script_stacks}
use Rattle.ve_repair.specs.Reader.{Slots, Reading, HasMade}
use Rattle.ve_repair.specs.Scene.{Scene, IsPiece, IsReadPiece, first_course, open_round, piece_acts}
use Rattle.ve_repair.specs.Range.{all_taken}
use Rattle.ve_repair.specs.Script.{script_for, first_reader}
use Rattle.ve_repair.specs.Sizes.{signs_of, place_after}
use Rattle.ve_repair.specs.Spelled.{token_of, Sign, NoLetters, Proper}
use Rattle.ve_repair.specs.Sizing.{Sizing, len_under}
use Rattle.ve_repair.specs.Whole.{IsCarriedOut}
use Rattle.ve_repair.specs.Writes.{NamesLive, CarriedOut}
use Rattle.ve_tx.specs.Checked.{old_size}
use Rattle.ve_tx.specs.Normal.{total_size}
use Rattle.model_items.specs.Plain.{plain}
use Rattle.std.proofs.lemmas.List.{length-map}
use Rattle.ve_repair.proofs.ActsOfLemmas.{AreOf, are_of}
use Rattle.ve_repair.proofs.AtPlaceLemmas.{at_place}
use Rattle.ve_repair.proofs.BegunLemmas.{start_has_begun}
use Rattle.ve_repair.proofs.ChangedLemmas.{proper_behind}
use Rattle.ve_repair.proofs.ChangeLemmas.{old_is, sizes_within, old_in_total}
use Rattle.ve_repair.proofs.OpActsLemmas.{piece_count, use_count, come_in_total, acts_between, all_between}
use Rattle.ve_repair.proofs.OpsLemmas.{old_size-append, come_size-append}
use Rattle.ve_repair.proofs.RangeLemmas.{taken_is}
use Rattle.ve_repair.proofs.SignCountLemmas.{tree_proper, items_placed, items_both, tree_items, past_all}
use Rattle.ve_repair.proofs.CourseLemmas.{past-add}
use Rattle.ve_repair.proofs.ChangeOfLemmas as change_of
use Rattle.ve_repair.proofs.CanPlanLemmas as plan_of
use Rattle.ve_repair.proofs.CarriedLemmas as carried_of
use Rattle.ve_tree.proofs.NodesLemmas.{links_lead_to_nodes}
use Rattle.ve_repair.proofs.LeadLemmas.{same-leads}
use Rattle.ve_repair.proofs.CarriedOutLemmas.{made_links}
use Rattle.ve_repair.proofs.CutNodesLemmas.{nodes_live, cuts_apart, old_apart, kept_live}
use Rattle.ve_repair.proofs.PlannedAsLemmas as planned_of
use Rattle.ve_repair.proofs.NamesLiveLemmas as names_of

module _ (old : Slots) (root : NodeId) (items : List Item) (tx : List Operation) (r : ChangedRange) (start : Start) (s : Stacks) (z : Sizing) (scene : Scene old root items tx r start s z) where
  abbrev pub place : Place
  place = scene.starts.place

  abbrev pub changed : List Op
  changed = scene.range.changed

  abbrev pub front : ℕ
  front = r.from - start.place

  -- the reader that has read nothing
  abbrev pub first : Reading
  first = record { at = record { parent = start.parent; next = start.next; inside = 0 }; seen = None; run = None; script = [] }

  abbrev pub lefts : List Sign
  lefts = passed_signs place

  abbrev pub comings : List Sign
  comings = coming_signs place

  -- what is passed, and what is to come
  pub begun : HasBegun scene.tree.named root.0 lefts comings start.place s z
  begun = start_has_begun scene.tree.named root.0 r.from start s z scene.starts scene.tree.apart

  -- counts
  total : old_size (map bare tx) ≡ length items
  total = old_is tx items (map bare tx) refl scene.applies

  few : total_size (map bare tx) ≤ 2 ^ 60
  few = sizes_within tx (map bare tx) refl scene.normal

  by_parts : old_size (map bare tx) ≡ all_taken scene.range.before + (old_size changed + all_taken scene.range.after)
  by_parts =
      let one = ap old_size scene.range.parts ∙ old_size-append scene.range.before (changed ++ scene.range.after) in
      let two = old_size-append changed scene.range.after in
      let three = taken_is scene.range.before in
      let four = taken_is scene.range.after in
      omega (arith, one, two, three, four)

  place_is : items_in lefts ≡ start.place
  place_is = let placed = items_placed lefts 0 in omega (arith, placed, begun.offset)

  pub count_is : start.place + items_in comings ≡ length items
  count_is =
      let all = tree_items scene.tree in
      let long = length-map items (plain []) in
      let split = ap items_in begun.signs ∙ items_both lefts comings in
      omega (arith, all, long, split, place_is)

  pub place_within : start.place ≤ r.from
  place_within = elim scene.starts.near [
    | inl same ↦ omega (arith, same)
    | inr more ↦ (let e = more.1 in omega (arith, e))
  ]

  front_is : front + (old_size changed + all_taken scene.range.after) ≡ items_in comings
  front_is = omega (arith, count_is, place_within, total, by_parts, scene.range.from_is)

  starts_proper : Proper comings
  starts_proper = proper_behind lefts comings (subst Proper begun.signs (tree_proper scene.tree))

  pub first_read : HasRead (first_course root.0 place) old first
  first_read = record {
    at = at_place scene.tree place start.parent start.next scene.starts.whole scene.starts.at;
    script = λ more later. refl;
    fresh = refl;
    fits = omega arith;
    spot_is = refl;
    begun = tt;
    texts = tt;
  }

  pub first_enough : front + old_size changed ≤ items_in comings
  first_enough = omega (arith, front_is)

  pub may_read : MayRead old first front changed
  may_read = record {
    course = first_course root.0 place;
    read = first_read;
    enough = first_enough;
    room =
        let less = old_in_total (map bare tx) in
        let coming = come_in_total (map bare tx) in
        let parts = ap come_size scene.range.parts ∙ come_size-append scene.range.before (changed ++ scene.range.after) in
        let more = come_size-append changed scene.range.after in
        omega (arith, less, coming, few, count_is, total, parts, more);
  }

  abbrev pub spot0 : Spot
  spot0 = spot_of (open_round root.0 place.round) comings

  -- no text behind the operations is empty
  pub behind_proper : Proper (past (old_size changed) (past front spot0)).rest
  behind_proper =
      let one = past_all front spot0 starts_proper (omega (arith, front_is)) in
      let one_is = one.0 in
      (past_all (old_size changed) (past front spot0) one.1 (omega (arith, front_is, one_is))).1

  -- what the operations change, up to the end of the text that they end in
  module _ (numbers : List ℕ) (counted : length numbers ≡ all_openings changed) (tail : ℕ) (few_behind : tail ≤ items_in (past (old_size changed) (past front spot0)).rest)
      (whole : NoLetters (past tail (past (old_size changed) (past front spot0))).rest) where
    abbrev pub acts : List Act
    acts = piece_acts front changed numbers tail

    pub ends_at : past tail (past (old_size changed) (past front spot0)) ≡ past (old_count acts) spot0
    ends_at =
        sym (past-add (old_size changed) tail (past front spot0)) ∙ sym (past-add front (old_size changed + tail) spot0)
        ∙ ap (λ k. past k spot0) (sym (piece_count front changed numbers tail))

    enough : old_count acts ≤ items_in comings
    enough =
        let count = piece_count front changed numbers tail in
        let one = past_all front spot0 starts_proper (omega (arith, front_is)) in
        let one_is = one.0 in
        let two = (past_all (old_size changed) (past front spot0) one.1 (omega (arith, front_is, one_is))).0 in
        omega (arith, count, front_is, one_is, two, few_behind)

    pub of_signs : AreOf acts (open_round root.0 place.round) comings
    of_signs = are_of acts (open_round root.0 place.round) comings starts_proper enough (subst (λ (x : Spot). NoLetters x.rest) ends_at whole)

    right_none : NoLetters of_signs.rights
    right_none = subst (λ (x : Spot). NoLetters x.rest) (ends_at ∙ of_signs.past_is) whole

    signs_are : signs_of scene.tree.named ≡ lefts ++ (of_signs.ss ++ of_signs.rights)
    signs_are = begun.signs ∙ ap (λ l. lefts ++ l) of_signs.signs_are

    after_is : all_taken scene.range.after ≡ tail + place_after of_signs.rights 0
    after_is =
        let count = piece_count front changed numbers tail in
        let used = use_count acts of_signs.ss of_signs.uses in
        let split = ap items_in of_signs.signs_are ∙ items_both of_signs.ss of_signs.rights in
        let placed = items_placed of_signs.rights 0 in
        omega (arith, count, used, split, placed, front_is)

    pub is_piece : IsPiece scene.tree.named (map bare tx) changed lefts of_signs.ss of_signs.rights acts
    is_piece = record {
      front = front;
      tail = tail;
      numbers = numbers;
      acts_are = refl;
      counted = counted;
      signs = signs_are;
      left_whole = begun.left_whole;
      right_whole = right_none;
      uses = of_signs.uses;
      all_are =
          acts_between (map bare tx) scene.range.before changed scene.range.after numbers scene.range.parts scene.range.keeps_before scene.range.keeps_after counted
          ∙ all_between lefts of_signs.rights (acts_of changed numbers) front tail (all_taken scene.range.before) (all_taken scene.range.after)
          (let from = scene.range.from_is in let at = begun.offset in omega (arith, from, at, place_within)) after_is;
    }

  -- what is read
  module _ (mid : Slots) (r1 : Reading) (h : AreReadOut changed (with_stays front (first_course root.0 place)) mid r1) where
    abbrev read_signs : AreOf (piece_acts front changed h.numbers h.read.tail) (open_round root.0 place.round) comings
    read_signs = of_signs h.numbers h.counted h.read.tail h.read.few h.read.whole

    same_acts : (replicate front Stay ++ acts_of changed h.numbers) ++ replicate h.read.tail Stay ≡ piece_acts front changed h.numbers h.read.tail
    same_acts = append_assoc (replicate front Stay) (acts_of changed h.numbers) (replicate h.read.tail Stay)

    pub read_piece : IsReadPiece scene.tree.named root.0 (map bare tx) changed place mid r1
    read_piece = record {
      acts = piece_acts front changed h.numbers h.read.tail;
      ss = read_signs.ss;
      rights = read_signs.rights;
      piece = is_piece h.numbers h.counted h.read.tail h.read.few h.read.whole;
      script =
          h.read.script
          ∙ ap (λ l. script_for (supply_of (steps_of r1.script)) (marks l comings) (first_reader 0)) same_acts
          ∙ ap (λ ms. script_for (supply_of (steps_of r1.script)) ms (first_reader 0)) read_signs.marks_are;
      begun = subst (AreBegun mid) same_acts h.read.begun;
      texts = h.read.texts;
      at = subst (IsAt mid r1.at) (ends_at h.numbers h.counted h.read.tail h.read.few h.read.whole ∙ read_signs.past_is) h.read.at;
    }

  module _ (mid : Slots) (r1 : Reading) (p : IsReadPiece scene.tree.named root.0 (map bare tx) changed place mid r1) (made : HasMade old mid (nodes_of Put r1.script)) where
    -- the change, for each list of values
    pub is_changed : (values : List Value) → IsChanged (supply_of (steps_of r1.script)) root old (unvalued items) (new_list values tx items) scene.tree (passed_signs place) p.ss p.rights p.acts
    is_changed values = change_of.is_changed old root items tx r start s z scene mid r1 p made values

    pub can_plan : CanPlan mid root r1 s z
    can_plan = plan_of.can_plan old root items tx r start s z scene mid r1 p made is_changed

    module _ (ws : List Write) (rows : List Named) (left : AreLeft mid (len_under mid root) (script_stacks r1.script s).old r1.at.next rows) (are : ws ≡ all_writes mid r1.script rows s z) where
      pub names_live : All (NamesLive mid) ws
      names_live = names_of.names_live old root items tx r start s z scene mid r1 made can_plan ws rows left are

      pub planned_as : IsPlanned root (passed_signs place) p.rights r1.script rows s z
      planned_as = planned_of.planned_as old root items tx r start s z scene mid r1 p made is_changed rows left

      pub carried : (values : List Value) (written new : Slots) → CarriedOut mid written ws → IsFreed written new (nodes_of Cut r1.script) →
          IsCarriedOut root (passed_signs place) p.rights (steps_of r1.script) old new (is_changed values).forest.named (new_list values tx items)
      carried values written new c freed = carried_of.carried old root items tx r start s z scene mid r1 p made ws rows left are is_changed planned_as values written new c freed

    pub all_lead : AllLead mid
    all_lead = same-leads old mid (λ q. links_lead_to_nodes old root (unvalued items) q scene.tree) (λ q there. kept_live old mid made.keeps q there)
        (made_links (supply_of (steps_of r1.script)) root old (unvalued items) (new_list [] tx items) scene.tree lefts p.ss p.rights p.acts (is_changed []) r1.script p.script mid made p.begun p.texts)

    pub cut_apart : AllApart (map number_of (nodes_of Cut r1.script))
    cut_apart =
        cuts_apart r1.script (map token_of p.rights)
        (old_apart (supply_of (steps_of r1.script)) root old (unvalued items) (new_list [] tx items) scene.tree lefts p.ss p.rights p.acts (is_changed []) r1.script p.script)

    pub cut_live : All (IsLive mid) (nodes_of Cut r1.script)
    cut_live = nodes_live mid Cut r1.script can_plan.steps_live
