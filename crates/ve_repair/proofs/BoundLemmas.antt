-- A repair takes at most eight steps for each touched node.
use Rattle.std.proofs.Common.{◌≡◌, ◌≤◌, ◌*◌, ℕ, ◌+◌, Option, List, [], ◌∷◌, ◌++◌, length, map, refl, sym, ap, ◌∙◌, subst, arith, append-nil}
use Rattle.std.proofs.lemmas.List.{length-map}
use Rattle.model_items.specs.declared.plain_item.PlainItem.{PlainItem}
use Rattle.model_items.specs.Law.{Lawful}
use Rattle.model_items.specs.Tree.{tree_of, shape_of, item_count}
use Rattle.model_items.proofs.NodeAtLemmas.{count_all}
use Rattle.model_change.specs.Inverse.{inverse}
use Rattle.model_change.specs.Transaction.{Transaction, edited}
use Rattle.model_change.specs.Touch.{TheRoot, nodes_of, nodes_from, seen_by, touch, touch_count, new_place}
use Rattle.ve_arena.specs.declared.node.NodeId.{NodeId}
use Rattle.ve_arena.specs.declared.node.ArenaNode.{ArenaNode}
use Rattle.ve_tree.specs.Links.{AllApart}
use Rattle.ve_tree.specs.Named.{Named, unnumbered, node_numbers}
use Rattle.ve_tree.specs.IsTree.{IsTree}
use Rattle.ve_repair.specs.declared.script.Step.{Step}
use Rattle.ve_repair.specs.declared.script.Step.TheVariants.{Enter, Leave, Text, Count}
use Rattle.ve_repair.specs.declared.script.How.TheVariants.{Keep, Cut, Put}
use Rattle.ve_repair.specs.Work as W
use Rattle.ve_repair.specs.Tokens.{Token, Begin, Letters, End, tokens, old_side, new_side, puts, drops, keeps, start, work_at, drops_of, puts_of}
use Rattle.ve_repair.specs.Spelled.{Sign, token_of, AllFrom}
use Rattle.ve_repair.specs.Ready.{nums}
use Rattle.ve_repair.specs.Numbers.{NumbersStand}
use Rattle.ve_repair.specs.Script.{signs_for, first_reader, Sides}
use Rattle.ve_repair.specs.Acts.{Act, marks, MarksStand}
use Rattle.ve_repair.specs.Sizes.{signs_of, place_after}
use Rattle.ve_repair.specs.Whole.{script_of}
use Rattle.ve_repair.specs.Numbered.{Numbered, numbered_from, numbered_of}
use Rattle.ve_repair.specs.Bounded.{IsChangeBy, IsPieceBy, StepsAreBounded, MadeAreBounded}
use Rattle.ve_repair.specs.Charged.{spots, script_cost, old_left, new_left, made_count, freed_count}
use Rattle.ve_repair.proofs.SpelledLemmas.{shape_reading, reading-shapes}
use Rattle.ve_repair.proofs.TokenLemmas.{old_side-append, new_side-append, old_side-keeps, new_side-keeps}
use Rattle.ve_repair.proofs.ReadyLemmas.{nums-tokens}
use Rattle.ve_repair.proofs.NumberLemmas.{numbers_are_new}
use Rattle.ve_repair.proofs.NumberedLemmas.{numbered_nodes, numbered_numbers, tree_named, place_passed}
use Rattle.ve_repair.proofs.ChargedLemmas.{spot_of, forest_spots, old_seen, new_seen, number, length_cost, pieces_of, lengths_cost, HaveCounts, same_length, Listed, Charged, charged}
use Rattle.ve_repair.proofs.PieceLemmas.{weight_is_bounded}
use Rattle.ve_repair.specs.Pieces.{Piece, Both, AllFit}
use Rattle.ve_repair.specs.Pieces as P
use Rattle.ve_repair.specs.declared.plan.Level.{Level}
use Rattle.ve_repair.specs.Writes.{weight}
use Rattle.ve_repair.specs.Plan.{script_writes, script_stacks}
use Rattle.ve_repair.specs.Closing.{close_writes}
use Rattle.ve_repair.specs.Agree.{steps_of, OldAgree, NewAgree}
use Rattle.ve_repair.specs.Lengths.{LeadsOn, new_signs, whole_writes}
use Rattle.ve_repair.proofs.ScriptSignsLemmas.{makes_signs}
use Rattle.ve_repair.proofs.SidesLemma.{script_has_sides}
use Rattle.ve_repair.proofs.ActLemmas.{acts_mark}
use Rattle.ve_repair.proofs.ChargeLemmas.{weight-append, grown_open, links_cost}
use Rattle.ve_repair.proofs.LengthCostLemmas.{tree_lengths, old_counts, written_cost}
use Rattle.ve_repair.specs.Changed.{IsChangeOf}
use Rattle.ve_repair.proofs.ChangedLemmas.{change_has_forest}
use Rattle.ve_repair.proofs.FreshLemmas.{renumbered, even_from, odd_from, above, NewNumbers, new_numbers, same_change, same_moves}
use Rattle.ve_repair.proofs.MatchingLemmas.{numbers_in, changed_traced}
use Rattle.ve_repair.specs.Traced.{AllTraced}

-- a script between parts that are kept
abbrev pub whole_script : List Sign → List W.Step → List Sign → List W.Step
whole_script lefts script rights = keeps (map token_of lefts) ++ (script ++ keeps (map token_of rights))

whole_old : (lefts rights : List Token) (script : List W.Step) → old_side (keeps lefts ++ (script ++ keeps rights)) [] ≡ lefts ++ old_side script rights
whole_old lefts rights script =
    old_side-append (keeps lefts) (script ++ keeps rights) [] ∙ old_side-keeps lefts (old_side (script ++ keeps rights) [])
    ∙ ap (λ l. lefts ++ l) (old_side-append script (keeps rights) [] ∙ ap (old_side script) (old_side-keeps rights [] ∙ append-nil rights))

whole_new : (lefts rights : List Token) (script : List W.Step) → new_side (keeps lefts ++ (script ++ keeps rights)) [] ≡ lefts ++ new_side script rights
whole_new lefts rights script =
    new_side-append (keeps lefts) (script ++ keeps rights) [] ∙ new_side-keeps lefts (new_side (script ++ keeps rights) [])
    ∙ ap (λ l. lefts ++ l) (new_side-append script (keeps rights) [] ∙ ap (new_side script) (new_side-keeps rights [] ∙ append-nil rights))

-- what is kept neither goes nor comes
kept_drops : (ts : List Token) (xs : List W.Step) → drops (keeps ts ++ xs) ≡ drops xs
kept_drops [] xs = refl
kept_drops (Begin n ∷ ts) xs = kept_drops ts xs
kept_drops (Letters n ∷ ts) xs = kept_drops ts xs
kept_drops (End ∷ ts) xs = kept_drops ts xs

kept_puts : (ts : List Token) (xs : List W.Step) → puts (keeps ts ++ xs) ≡ puts xs
kept_puts [] xs = refl
kept_puts (Begin n ∷ ts) xs = kept_puts ts xs
kept_puts (Letters n ∷ ts) xs = kept_puts ts xs
kept_puts (End ∷ ts) xs = kept_puts ts xs

drops_kept : (xs : List W.Step) (ts : List Token) → drops (xs ++ keeps ts) ≡ drops xs
drops_kept [] ts = ap drops (sym (append-nil (keeps ts))) ∙ kept_drops ts []
drops_kept (x ∷ xs) ts = ap (drops_of x) (drops_kept xs ts)

puts_kept : (xs : List W.Step) (ts : List Token) → puts (xs ++ keeps ts) ≡ puts xs
puts_kept [] ts = ap puts (sym (append-nil (keeps ts))) ∙ kept_puts ts []
puts_kept (x ∷ xs) ts = ap (puts_of x) (puts_kept xs ts)

-- the model's nodes go by shapes
tree_shapes : (items others : List PlainItem) → map shape_of items ≡ map shape_of others → tree_of items ≡ tree_of others
tree_shapes items others e = ap (λ r. r.here) (reading-shapes items ∙ ap shape_reading e ∙ sym (reading-shapes others))

length_shapes : (items others : List PlainItem) → map shape_of items ≡ map shape_of others → length items ≡ length others
length_shapes items others e = sym (length-map items shape_of) ∙ ap length e ∙ length-map others shape_of

nodes_named : (root : ℕ) (f : Named) (items others : List PlainItem) → Lawful items → unnumbered f ≡ tree_of items → map shape_of others ≡ map shape_of items →
    map (λ (n : Numbered). n.node) (numbered_of root (place_after (signs_of f) 0) f) ≡ nodes_of others
nodes_named root f items others lawful is e =
    λ i. record { name = TheRoot; parent = TheRoot; count = long i } ∷ (numbered_nodes f root TheRoot 0
    ∙ ap (nodes_from TheRoot 0) (is ∙ tree_shapes items others (sym e))) i
  where
    long : place_after (signs_of f) 0 ≡ length others
    long = place_passed f 0 ∙ (let c = ap item_count is ∙ count_all items lawful in let l = length_shapes others items e in omega (arith, c, l))

forest_spotted : (f : Named) (root : ℕ) → map spot_of (numbered_from root TheRoot 0 f) ≡ spots (tokens f) (root ∷ [])
forest_spotted f root =
    sym (append-nil (map spot_of (numbered_from root TheRoot 0 f))) ∙ forest_spots f root TheRoot 0 [] []
    ∙ ap (λ ts. spots ts (root ∷ [])) (append-nil (tokens f))

seen_all : (t : Transaction) (ns : List Numbered) → map (old_seen t) ns ≡ map (seen_by t) (map (λ (n : Numbered). n.node) ns)
seen_all t [] = refl
seen_all t (n ∷ ns) = ap (λ l. seen_by t n.node ∷ l) (seen_all t ns)

seen_back : (t : Transaction) (ns : List Numbered) → map (new_seen t) ns ≡ map (seen_by (inverse t)) (map (λ (n : Numbered). n.node) ns)
seen_back t [] = refl
seen_back t (n ∷ ns) = ap (λ l. seen_by (inverse t) n.node ∷ l) (seen_back t ns)

-- The script with what is kept round it, and the lengths of all new nodes, cost at most eight for
-- each touched node.
module _ (supply : ℕ → ℕ) (root : NodeId) (old slots : List (Option ArenaNode)) (items others : List PlainItem) (tree : IsTree old root items) (lefts ss rights : List Sign) (acts : List Act)
    (t : Transaction) (before : List PlainItem) (c : IsChangeBy supply root old items others tree lefts ss rights acts t before) where
  abbrev script : List W.Step
  script = script_of supply acts ss

  abbrev whole : List W.Step
  whole = whole_script lefts script rights

  abbrev olds : List Sign
  olds = signs_of tree.named

  abbrev news : List Sign
  news = signs_of c.changed.forest.named

  abbrev old_root : Numbered
  old_root = record { number = root.0; above = root.0; node = record { name = TheRoot; parent = TheRoot; count = place_after olds 0 } }

  abbrev new_root : Numbered
  new_root = record { number = root.0; above = root.0; node = record { name = TheRoot; parent = TheRoot; count = place_after news 0 } }

  abbrev old_nodes : List Numbered
  old_nodes = numbered_from root.0 TheRoot 0 tree.named

  abbrev new_nodes : List Numbered
  new_nodes = numbered_from root.0 TheRoot 0 c.changed.forest.named

  apart : AllApart (root.0 ∷ nums (map token_of olds))
  apart = subst (λ ns. AllApart (root.0 ∷ ns)) (sym (numbers_in tree.named)) tree.apart

  traced : AllTraced (new_place t) olds (root.0 ∷ nums (map token_of olds)) news 0
  traced = changed_traced supply root old items others tree lefts ss rights acts c.changed t c.moves

  old_tokens_are : tokens tree.named ≡ old_side whole []
  old_tokens_are = c.changed.forest.old_tokens ∙ sym (whole_old (map token_of lefts) (map token_of rights) script)

  new_tokens_are : tokens c.changed.forest.named ≡ new_side whole []
  new_tokens_are = c.changed.forest.new_tokens ∙ sym (whole_new (map token_of lefts) (map token_of rights) script)

  stand : NumbersStand root.0 (map token_of lefts) (map token_of rights) script
  stand =
      let numbers = sym (nums-tokens tree.named) ∙ ap nums c.changed.forest.old_tokens in
      numbers_are_new root.0 (map token_of lefts) (map token_of rights) script (subst (λ ns. AllApart (root.0 ∷ ns)) numbers tree.apart) c.changed.distinct
      (subst (λ ns. AllFrom (puts script) (root.0 ∷ ns)) numbers c.changed.made)

  gone : AllFrom (drops whole) (map number (new_root ∷ new_nodes))
  gone =
      subst (λ ds. AllFrom ds (map number (new_root ∷ new_nodes))) (sym (kept_drops (map token_of lefts) (script ++ keeps (map token_of rights))
      ∙ drops_kept script (map token_of rights)))
      (subst (λ ns. AllFrom (drops script) (root.0 ∷ ns)) (sym (ap nums c.changed.forest.new_tokens) ∙ nums-tokens c.changed.forest.named
      ∙ sym (numbered_numbers c.changed.forest.named root.0 TheRoot 0)) stand.gone)

  made : AllFrom (puts whole) (map number (old_root ∷ old_nodes))
  made =
      subst (λ ds. AllFrom ds (map number (old_root ∷ old_nodes))) (sym (kept_puts (map token_of lefts) (script ++ keeps (map token_of rights))
      ∙ puts_kept script (map token_of rights)))
      (subst (λ ns. AllFrom (puts script) (root.0 ∷ ns)) (sym (numbered_numbers tree.named root.0 TheRoot 0)) c.changed.made)

  listed : HaveCounts slots old_nodes → Listed t slots olds news root.0 apart traced whole old_nodes new_nodes (root.0 ∷ []) (root.0 ∷ [])
  listed counts = record {
    old_named = (tree_named root.0 (place_after olds 0) tree.named).1;
    new_named = (tree_named root.0 (place_after news 0) c.changed.forest.named).1;
    old_spots = forest_spotted tree.named root.0 ∙ ap (λ ts. spots ts (root.0 ∷ [])) old_tokens_are;
    new_spots = forest_spotted c.changed.forest.named root.0 ∙ ap (λ ts. spots ts (root.0 ∷ [])) new_tokens_are;
    counts = counts;
  }

  all_charged : HaveCounts slots old_nodes →
      Charged t slots olds news root.0 apart traced (old_root ∷ old_nodes) (new_root ∷ new_nodes) whole old_nodes new_nodes (root.0 ∷ []) (root.0 ∷ [])
  all_charged counts =
      charged t slots olds news root.0 apart traced (old_root ∷ old_nodes) (new_root ∷ new_nodes) whole old_nodes new_nodes (root.0 ∷ []) (root.0 ∷ [])
      (tree_named root.0 (place_after olds 0) tree.named) (tree_named root.0 (place_after news 0) c.changed.forest.named) (listed counts) gone made

  pub whole_bound : HaveCounts slots (old_root ∷ old_nodes) →
      script_cost whole (root.0 ∷ []) (root.0 ∷ []) + lengths_cost slots (new_root ∷ new_nodes) ≤ 8 * touch t before
  whole_bound counts = omega (arith, own, cost, bound, all)
    where
      rest : Charged t slots olds news root.0 apart traced (old_root ∷ old_nodes) (new_root ∷ new_nodes) whole old_nodes new_nodes (root.0 ∷ []) (root.0 ∷ [])
      rest = all_charged counts.1

      cost : script_cost whole (root.0 ∷ []) (root.0 ∷ []) + lengths_cost slots new_nodes ≤ P.weight (pieces_of t whole old_nodes new_nodes)
      cost = rest.cost

      pieces : List Piece
      pieces = Both (old_seen t old_root) (new_seen t new_root) ∷ pieces_of t whole old_nodes new_nodes

      olds_is : P.olds pieces ≡ map (old_seen t) (old_root ∷ old_nodes)
      olds_is = ap (λ l. old_seen t old_root ∷ l) rest.olds_are

      news_is : P.news pieces ≡ map (new_seen t) (new_root ∷ new_nodes)
      news_is = ap (λ l. new_seen t new_root ∷ l) rest.news_are

      own : length_cost slots root.0 (place_after news 0) + P.weight (pieces_of t whole old_nodes new_nodes) ≤ P.weight pieces
      own = let len = same_length slots root.0 (place_after news 0) (place_after olds 0) counts.0 in omega (arith, len)

      bound : P.weight pieces ≤ 8 * touch_count (P.olds pieces) (P.news pieces)
      bound = weight_is_bounded pieces (subst (λ os. AllFit os (P.news pieces) pieces) (sym olds_is) (subst (λ ns. AllFit (map (old_seen t) (old_root ∷ old_nodes)) ns pieces) (sym news_is) (refl, rest.fit)))

      all : touch_count (P.olds pieces) (P.news pieces) ≡ touch t before
      all = λ i. touch_count
          ((olds_is ∙ seen_all t (old_root ∷ old_nodes)
          ∙ ap (map (seen_by t)) (nodes_named root.0 tree.named items before tree.lawful tree.is_tree c.old_shapes)) i)
          ((news_is ∙ seen_back t (new_root ∷ new_nodes)
          ∙ ap (map (seen_by (inverse t))) (nodes_named root.0 c.changed.forest.named others (edited t before) c.changed.change.lawful c.changed.forest.spells c.new_shapes)) i)

-- the same lists, as the code has them
olds_agree : (os : List NodeId) (ns : List ℕ) → OldAgree os ns → map (λ (n : NodeId). n.0) os ≡ ns
olds_agree [] [] h = refl
olds_agree [] (n ∷ ns) h = absurd h
olds_agree (o ∷ os) [] h = absurd h
olds_agree (o ∷ os) (n ∷ ns) h = λ i. h.0 i ∷ olds_agree os ns h.1 i

news_agree : (fs : List Level) (ns : List ℕ) (done : ℕ → List ℕ) → NewAgree fs ns done → map (λ (f : Level). f.node.0) fs ≡ ns
news_agree [] [] done h = refl
news_agree [] (n ∷ ns) done h = absurd h
news_agree (f ∷ fs) [] done h = absurd h
news_agree (f ∷ fs) (n ∷ ns) done h = λ i. h.0 i ∷ news_agree fs ns done h.2 i

pub steps_are_bounded : StepsAreBounded
steps_are_bounded supply root old slots items others tree lefts ss rights acts t before c lens_ xs fs s z is p =
    omega (arith, bound, links, lengths, whole_weight, link_weight)
  where
    script : List W.Step
    script = script_of supply acts ss

    mids : List Sign
    mids = signs_for supply (marks acts ss) (first_reader 0)

    stands : MarksStand acts ss []
    stands = acts_mark acts ss [] c.changed.change.uses c.changed.change.texts

    sides : Sides supply (marks acts ss) []
    sides = script_has_sides supply (marks acts ss) [] stands.together

    leads : LeadsOn tree.named c.changed.forest.named lefts ss mids rights xs
    leads = record {
      old_signs = c.changed.change.signs;
      new_signs_are = c.changed.forest.signs;
      passes = ap (λ l. old_side l []) is ∙ sides.old ∙ stands.old ∙ append-nil (map token_of ss);
      makes = ap new_signs is ∙ makes_signs supply (marks acts ss) (first_reader 0);
    }

    links : weight (script_writes xs s) + weight (close_writes fs (script_stacks xs s)) + made_count xs + freed_count xs ≤ script_cost (whole_script lefts script rights) (root.0 ∷ []) (root.0 ∷ [])
    links =
        subst (λ l. weight (script_writes xs s) + weight (close_writes fs (script_stacks xs s)) + made_count xs + freed_count xs ≤ script_cost (keeps (map token_of lefts) ++ (l ++ keeps (map token_of rights))) (root.0 ∷ []) (root.0 ∷ [])) is
        (links_cost (map token_of lefts) (map token_of rights) root.0 xs fs s
        (olds_agree s.old (work_at root.0 (map token_of lefts) p.right).old p.agrees.old ∙ grown_open (map token_of lefts) (start root.0))
        (news_agree s.new (work_at root.0 (map token_of lefts) p.right).new (work_at root.0 (map token_of lefts) p.right).done p.agrees.new
        ∙ grown_open (map token_of lefts) (start root.0)) p.rows)

    lengths : weight (whole_writes slots xs z) ≤ lengths_cost slots (numbered_of root.0 (place_after (signs_of c.changed.forest.named) 0) c.changed.forest.named)
    lengths = written_cost slots root.0 tree.named c.changed.forest.named lefts ss mids rights xs z leads p.starts lens_

    bound : script_cost (whole_script lefts script rights) (root.0 ∷ []) (root.0 ∷ []) + lengths_cost slots (numbered_of root.0 (place_after (signs_of c.changed.forest.named) 0) c.changed.forest.named) ≤ 8 * touch t before
    bound = whole_bound supply root old slots items others tree lefts ss rights acts t before c (old_counts slots root.0 tree.named lens_)

    whole_weight : weight ((script_writes xs s ++ close_writes fs (script_stacks xs s)) ++ whole_writes slots xs z) ≡ weight (script_writes xs s ++ close_writes fs (script_stacks xs s)) + weight (whole_writes slots xs z)
    whole_weight = weight-append (script_writes xs s ++ close_writes fs (script_stacks xs s)) (whole_writes slots xs z)

    link_weight : weight (script_writes xs s ++ close_writes fs (script_stacks xs s)) ≡ weight (script_writes xs s) + weight (close_writes fs (script_stacks xs s))
    link_weight = weight-append (script_writes xs s) (close_writes fs (script_stacks xs s))

-- each node that is made costs six or more
puts_cost : (xs : List W.Step) (olds news : List ℕ) → 6 * length (puts xs) ≤ script_cost xs olds news
puts_cost [] olds news = omega arith
puts_cost (W.Enter W.Keep n ∷ xs) olds news = let r = puts_cost xs (n ∷ olds) (n ∷ news) in omega (arith, r)
puts_cost (W.Enter W.Drop n ∷ xs) olds news = let r = puts_cost xs (n ∷ olds) news in omega (arith, r)
puts_cost (W.Enter W.Put n ∷ xs) olds news = let r = puts_cost xs olds (n ∷ news) in omega (arith, r)
puts_cost (W.Leave how ∷ xs) olds news = puts_cost xs (old_left how olds) (new_left how news)
puts_cost (W.Text W.Keep n ∷ xs) olds news = let r = puts_cost xs olds news in omega (arith, r)
puts_cost (W.Text W.Drop n ∷ xs) olds news = let r = puts_cost xs olds news in omega (arith, r)
puts_cost (W.Text W.Put n ∷ xs) olds news = let r = puts_cost xs olds news in omega (arith, r)
puts_cost (W.Count n count ∷ xs) olds news = puts_cost xs olds news

pub made_before : (xs : List Step) (more : List W.Step) → made_count xs ≤ length (puts (steps_of xs ++ more))
made_before [] more = omega arith
made_before (Enter Keep n ∷ xs) more = made_before xs more
made_before (Enter Cut n ∷ xs) more = made_before xs more
made_before (Enter Put n ∷ xs) more = let r = made_before xs more in omega (arith, r)
made_before (Leave Keep ∷ xs) more = made_before xs more
made_before (Leave Cut ∷ xs) more = made_before xs more
made_before (Leave Put ∷ xs) more = made_before xs more
made_before (Text Keep n ∷ xs) more = made_before xs more
made_before (Text Cut n ∷ xs) more = made_before xs more
made_before (Text Put n ∷ xs) more = let r = made_before xs more in omega (arith, r)
made_before (Count n count ∷ xs) more = made_before xs more

puts_are_bounded : (supply : ℕ → ℕ) (root : NodeId) (old : List (Option ArenaNode)) (items others : List PlainItem) (tree : IsTree old root items) (lefts ss rights : List Sign) (acts : List Act)
    (t : Transaction) (before : List PlainItem) → IsChangeBy supply root old items others tree lefts ss rights acts t before →
    6 * length (puts (script_of supply acts ss)) ≤ 8 * touch t before
puts_are_bounded supply root old items others tree lefts ss rights acts t before c = omega (arith, bound, puts_, same)
  where
    script : List W.Step
    script = script_of supply acts ss

    bound : script_cost (whole_script lefts script rights) (root.0 ∷ []) (root.0 ∷ []) + lengths_cost old (numbered_of root.0 (place_after (signs_of c.changed.forest.named) 0) c.changed.forest.named) ≤ 8 * touch t before
    bound = whole_bound supply root old old items others tree lefts ss rights acts t before c (old_counts old root.0 tree.named (tree_lengths old root items tree))

    puts_ : 6 * length (puts (whole_script lefts script rights)) ≤ script_cost (whole_script lefts script rights) (root.0 ∷ []) (root.0 ∷ [])
    puts_ = puts_cost (whole_script lefts script rights) (root.0 ∷ []) (root.0 ∷ [])

    same : length (puts (whole_script lefts script rights)) ≡ length (puts script)
    same = ap length (kept_puts (map token_of lefts) (script ++ keeps (map token_of rights)) ∙ puts_kept script (map token_of rights))

-- whatever the numbers of what is made are
pub makes_are_bounded : (supply : ℕ → ℕ) (root : NodeId) (old : List (Option ArenaNode)) (items others : List PlainItem) (tree : IsTree old root items) (lefts ss rights : List Sign) (acts : List Act)
    (t : Transaction) (before : List PlainItem) → IsPieceBy root old items others tree lefts ss rights acts t before → 6 * length (puts (script_of supply acts ss)) ≤ 8 * touch t before
makes_are_bounded supply root old items others tree lefts ss rights acts t before p = omega (arith, bound, same)
  where
    b : ℕ
    b = above (root.0 ∷ node_numbers tree.named)

    fresh : List Act
    fresh = renumbered (even_from b) 0 acts

    new : NewNumbers (root.0 ∷ node_numbers tree.named) acts fresh ss supply (odd_from b)
    new = new_numbers (root.0 ∷ node_numbers tree.named) acts ss supply

    change : IsChangeOf tree.named lefts ss rights fresh others
    change = same_change (even_from b) tree.named lefts ss rights acts others p.change

    bound : 6 * length (puts (script_of (odd_from b) fresh ss)) ≤ 8 * touch t before
    bound = puts_are_bounded (odd_from b) root old items others tree lefts ss rights fresh t before (record {
      changed = record { change = change; forest = change_has_forest (odd_from b) tree.named lefts ss rights fresh others change; distinct = new.distinct; made = new.made };
      moves = same_moves (even_from b) (new_place t) lefts rights acts p.moves;
      old_shapes = p.old_shapes;
      new_shapes = p.new_shapes;
    })

    same : length (puts (script_of supply acts ss)) ≡ length (puts (script_of (odd_from b) fresh ss))
    same = new.count

pub made_are_bounded : MadeAreBounded
made_are_bounded supply root old items others tree lefts ss rights acts t before p xs more is =
    let bound = makes_are_bounded supply root old items others tree lefts ss rights acts t before p in
    let few : made_count xs ≤ length (puts (script_of supply acts ss)) = subst (λ l. made_count xs ≤ length (puts l)) is (made_before xs more) in
    omega (arith, bound, few)
