-- Conditions of planning a script: its nodes are there, and positions and lengths fit.
use Rattle.std.proofs.Common.{◌≡◌, ◌≤◌, ◌<◌, ◌+◌, ◌^◌, ℕ, Option, Some, None, IsSome, List, [], ◌∷◌, ◌++◌, length, map, take, drop, option_map, zero, suc, append_assoc, refl, sym, ap, ◌∙◌, subst, arith, append-nil}
use Rattle.std.proofs.lemmas.List.{length-map, length-append, drop-map}
use Rattle.ve_base.specs.declared.value.Value.{Value}
use Rattle.model_items.specs.declared.item.Item.{Item}
use Rattle.model_items.specs.Plain.{plain, plain_list}
use Rattle.model_items.specs.Tree.{shape_of, item_count}
use Rattle.model_items.proofs.NodeAtLemmas.{count_all}
use Rattle.ve_arena.specs.declared.node.NodeId.{NodeId}
use Rattle.ve_arena.specs.declared.node.ArenaNode.{ArenaNode}
use Rattle.ve_arena.specs.Arena.{slot_at}
use Rattle.ve_tree.specs.Links.{number_of, last_of, last_or}
use Rattle.ve_tree.specs.Named.{Named, NoNode, NamedRun, NamedBranch, unnumbered, node_numbers}
use Rattle.ve_tree.specs.IsTree.{unvalued}
use Rattle.ve_tree.specs.Rows.{Round}
use Rattle.ve_tx.specs.Operation.{Operation, bare}
use Rattle.ve_tx.specs.Normal.{total_size}
use Rattle.ve_tx.specs.Checked.{old_size}
use Rattle.ve_tx.specs.declared.op.Op.{Op}
use Rattle.ve_tx.specs.declared.op.Op.TheVariants as op
use Rattle.ve_repair.specs.declared.range.ChangedRange.{ChangedRange}
use Rattle.ve_repair.specs.declared.start.Start.{Start}
use Rattle.ve_repair.specs.declared.script.How.TheVariants.{Keep, Cut, Put}
use Rattle.ve_repair.specs.declared.script.Step.{Step}
use Rattle.ve_repair.specs.declared.script.Step.TheVariants.{Enter, Leave, Text, Count}
use Rattle.ve_repair.specs.declared.sizes.OpenFrom.{OpenFrom}
use Rattle.ve_repair.specs.Acts.{marks, MarksStand}
use Rattle.ve_repair.specs.Agree.{steps_of}
use Rattle.ve_repair.specs.Assembly.{CanPlan}
use Rattle.ve_repair.specs.Begun.{HasBegun}
use Rattle.ve_repair.specs.Change.{CanApply, new_list, pieces}
use Rattle.ve_repair.specs.Charged.{open_behind}
use Rattle.ve_repair.specs.Closing.{AreSomeLeft}
use Rattle.ve_repair.specs.Courses.{supply_of}
use Rattle.ve_repair.specs.Cursor.{passed_signs, coming_signs, begun_round}
use Rattle.ve_repair.specs.Cursors.{items_in}
use Rattle.ve_repair.specs.Frees.{nodes_of}
use Rattle.ve_repair.specs.Lengths.{begun_of, under_root, kindless, new_signs, LeadsOn, HaveLengths}
use Rattle.ve_repair.specs.Matching.{IsChanged}
use Rattle.ve_repair.specs.Plan.{Stacks, stepped_stacks, script_stacks}
use Rattle.ve_repair.specs.Ready.{nums}
use Rattle.ve_repair.specs.Reader.{Slots, Reading, Keeps, HasMade}
use Rattle.ve_repair.specs.Scene.{Scene, IsReadPiece, open_round}
use Rattle.ve_repair.specs.Script.{Sides, signs_for, first_reader}
use Rattle.ve_repair.specs.Sizes.{Sized, Begun, open_after, place_after, signs_of, forest_sizes, HaveSizes}
use Rattle.ve_repair.specs.Sizing.{Sizing, sized, sized_all, len_under, AllOpenLive, StepsAreLive, LengthsFit}
use Rattle.ve_repair.specs.Spelled.{Sign, BeginOf, LettersOf, EndOf, token_of}
use Rattle.ve_repair.specs.Start.{OldRound}
use Rattle.ve_repair.specs.Tokens.{old_side}
use Rattle.ve_repair.proofs.ActLemmas.{acts_mark}
use Rattle.ve_repair.proofs.BegunLemmas.{start_has_begun, open-passed}
use Rattle.ve_repair.proofs.ChangeLemmas.{edited-shapes, shapes-plain, sizes_within, old_is, old_in_total}
use Rattle.ve_repair.proofs.ChangedLemmas.{tokens-signs}
use Rattle.ve_repair.proofs.LengthCostLemmas.{tree_lengths}
use Rattle.ve_repair.proofs.LengthLemmas.{lens-some, of_forest, old_parts, script_leads}
use Rattle.ve_repair.proofs.NestedLemmas.{begun_nodes, sign_nums, place-from, place-append}
use Rattle.ve_repair.proofs.NumberedLemmas.{Each, each_append, place_passed}
use Rattle.ve_repair.proofs.ReadEndsLemmas.{ends_left}
use Rattle.ve_repair.proofs.ReadyLemmas.{nums-tokens}
use Rattle.ve_repair.proofs.ScriptSignsLemmas.{lens, open-kindless, place-kindless, makes_signs}
use Rattle.ve_repair.proofs.SidesLemma.{script_has_sides}
use Rattle.ve_repair.proofs.SizingLemmas.{open_live}
use Rattle.ve_repair.proofs.SortLemmas.{SignsSort, sorts_forth, sorts_part, sorts_still, script_live}
use Rattle.ve_repair.proofs.WalkedLemmas.{Walked}

-- a node of a length is there
len_live : (slots : Slots) (n len : ℕ) → option_map (λ node. node.len) (slot_at slots n) ≡ Some len → IsSome (slot_at slots n)
len_live slots n len h = by (slot_at slots n) h
  where
    by : (o : Option ArenaNode) → option_map (λ node. node.len) o ≡ Some len → IsSome o
    by None e = absurd (cc)
    by (Some node) e = refl

-- nodes that are as before have the lengths that they had
len_still : (old new : Slots) (n len : ℕ) → Keeps old new → option_map (λ node. node.len) (slot_at old n) ≡ Some len → option_map (λ node. node.len) (slot_at new n) ≡ Some len
len_still old new n len k h = ap (option_map (λ node. node.len)) (k n (len_live old n len h)) ∙ h

sizes_still : (old new : Slots) (zs : List Sized) → Keeps old new → HaveSizes old zs → HaveSizes new zs
sizes_still old new [] k h = tt
sizes_still old new (z ∷ zs) k h = (len_still old new z.node z.len k h.0, sizes_still old new zs k h.1)

pub lengths_still : (old new : Slots) (root : ℕ) (f : Named) → Keeps old new → HaveLengths old root f → HaveLengths new root f
lengths_still old new root f k h = record { nodes = sizes_still old new _ k h.nodes; all = len_still old new root _ k h.all }

-- a node is there, and takes no more items than `most`
abbrev IsShort : Slots → ℕ → ℕ → Type 0
IsShort slots most q = IsSome (slot_at slots q) × (lens slots q ≤ most)

is_short : (slots : Slots) (most n len : ℕ) → option_map (λ node. node.len) (slot_at slots n) ≡ Some len → len ≤ most → IsShort slots most n
is_short slots most n len h few = (len_live slots n len h, (let e = lens-some slots n len h in omega (arith, e, few)))

all_short : (slots : Slots) (most : ℕ) (f : Named) (zs : List Sized) → HaveSizes slots (forest_sizes f ++ zs) → item_count (unnumbered f) ≤ most → Each (IsShort slots most) (node_numbers f) × HaveSizes slots zs
all_short slots most NoNode zs h few = (tt, h)
all_short slots most (NamedRun n count later) zs h few =
    let r = all_short slots most later zs h.1 (omega (arith, few)) in
    ((is_short slots most n count h.0 (omega (arith, few)), r.0), r.1)
all_short slots most (NamedBranch n kind inside later) zs h few =
    let own : Sized = record { node = n; len = item_count (unnumbered inside) + 2 } in
    let a = all_short slots most inside (own ∷ (forest_sizes later ++ zs)) (subst (HaveSizes slots) (append_assoc (forest_sizes inside) (own ∷ forest_sizes later) zs) h) (omega (arith, few)) in
    let b = all_short slots most later zs a.1.1 (omega (arith, few)) in
    ((is_short slots most n (item_count (unnumbered inside) + 2) a.1.0 (omega (arith, few)), each_append (IsShort slots most) (node_numbers inside) (node_numbers later) a.0 b.0), b.1)

-- what holds of all numbers in signs holds of those in a part,
signs_part : (P : ℕ → Type 0) (xs ys : List Sign) → Each P (sign_nums (xs ++ ys)) → Each P (sign_nums xs) × Each P (sign_nums ys)
signs_part P [] ys h = (tt, h)
signs_part P (BeginOf n kind ∷ xs) ys h = let r = signs_part P xs ys h.1 in ((h.0, r.0), r.1)
signs_part P (LettersOf n count ∷ xs) ys h = let r = signs_part P xs ys h.1 in ((h.0, r.0), r.1)
signs_part P (EndOf kind ∷ xs) ys h = signs_part P xs ys h

-- and of what is open behind them.
open_all : (P : ℕ → Type 0) (ss : List Sign) (open_ : List Begun) (at : ℕ) → Each P (sign_nums ss) → Each P (begun_nodes open_) → Each P (begun_nodes (open_after ss open_ at))
open_all P [] open_ at h g = g
open_all P (BeginOf n kind ∷ ss) open_ at h g = open_all P ss (record { node = n; from = at } ∷ open_) (suc at) h.1 (h.0, g)
open_all P (LettersOf n count ∷ ss) open_ at h g = open_all P ss open_ (at + count) h.1 g
open_all P (EndOf kind ∷ ss) [] at h g = open_all P ss [] (suc at) h tt
open_all P (EndOf kind ∷ ss) (b ∷ open_) at h g = open_all P ss open_ (suc at) h g.1

last_all : (P : ℕ → Type 0) (n : ℕ) (ns : List ℕ) → P n → Each P ns → P (last_of n ns)
last_all P n [] h g = h
last_all P n (m ∷ ms) h g = last_all P m ms g.0 g.1

-- the same open nodes by tokens, and as the stacks have them
behind_is : (ss : List Sign) (open_ : List Begun) (at : ℕ) → open_behind (map token_of ss) (begun_nodes open_) ≡ begun_nodes (open_after ss open_ at)
behind_is [] open_ at = refl
behind_is (BeginOf n kind ∷ ss) open_ at = behind_is ss (record { node = n; from = at } ∷ open_) (suc at)
behind_is (LettersOf n count ∷ ss) open_ at = behind_is ss open_ (at + count)
behind_is (EndOf kind ∷ ss) [] at = behind_is ss [] (suc at)
behind_is (EndOf kind ∷ ss) (b ∷ open_) at = behind_is ss open_ (suc at)

pub round_nodes : (root : ℕ) (rs : List Round) → begun_nodes (begun_round root rs) ≡ open_round root rs
round_nodes root [] = refl
round_nodes root (r ∷ rs) = ap (λ l. r.number ∷ l) (round_nodes root rs)

old_round : (root : ℕ) (rs : List Round) (ns : List NodeId) → OldRound root rs ns → map number_of ns ≡ open_round root rs
old_round root [] [] h = absurd h
old_round root [] (n ∷ []) h = ap (λ m. m ∷ []) h
old_round root [] (n ∷ (m ∷ ns)) h = absurd h
old_round root (r ∷ rs) [] h = absurd h
old_round root (r ∷ rs) (n ∷ ns) h = λ i. h.0 i ∷ old_round root rs ns h.1 i

left_one : (xs : List Step) (os : List NodeId) → open_behind (old_side (steps_of xs) []) (map number_of (drop 1 os)) ≡ open_behind (old_side (steps_of xs) []) (drop 1 (map number_of os))
left_one xs os = ap (open_behind (old_side (steps_of xs) [])) (sym (drop-map number_of 1 os))

stacks_behind : (xs : List Step) (s : Stacks) → map number_of (script_stacks xs s).old ≡ open_behind (old_side (steps_of xs) []) (map number_of s.old)
stacks_behind [] s = refl
stacks_behind (Enter Keep n ∷ xs) s = stacks_behind xs (stepped_stacks (Enter Keep n) s)
stacks_behind (Enter Cut n ∷ xs) s = stacks_behind xs (stepped_stacks (Enter Cut n) s)
stacks_behind (Enter Put n ∷ xs) s = stacks_behind xs (stepped_stacks (Enter Put n) s)
stacks_behind (Leave Keep ∷ xs) s = stacks_behind xs (stepped_stacks (Leave Keep) s) ∙ left_one xs s.old
stacks_behind (Leave Cut ∷ xs) s = stacks_behind xs (stepped_stacks (Leave Cut) s) ∙ left_one xs s.old
stacks_behind (Leave Put ∷ xs) s = stacks_behind xs (stepped_stacks (Leave Put) s)
stacks_behind (Text Keep n ∷ xs) s = stacks_behind xs (stepped_stacks (Text Keep n) s)
stacks_behind (Text Cut n ∷ xs) s = stacks_behind xs s
stacks_behind (Text Put n ∷ xs) s = stacks_behind xs (stepped_stacks (Text Put n) s)
stacks_behind (Count n count ∷ xs) s = stacks_behind xs s

-- Open nodes that are short are there, and their lengths fit.
froms_live : (slots : Slots) (most : ℕ) (os : List OpenFrom) → Each (IsShort slots most) (begun_nodes (map begun_of os)) → AllOpenLive slots os
froms_live slots most [] h = tt
froms_live slots most (o ∷ os) h = (h.0.0, froms_live slots most os h.1)

lengths_fit : (slots : Slots) (most at : ℕ) (os : List OpenFrom) → Each (IsShort slots most) (begun_nodes (map begun_of os)) → at + most < 2 ^ 64 → LengthsFit slots os at
lengths_fit slots most at [] h fits = tt
lengths_fit slots most at (o ∷ os) h fits = ((let few = h.0.1 in omega (arith, few, fits)), lengths_fit slots most at os h.1 fits)

-- what is open in the new list stays there
news_live : (slots : Slots) (xs : List Step) (s : Sizing) → StepsAreLive slots xs → AllOpenLive slots s.new_open → AllOpenLive slots (sized_all slots xs s).new_open
news_live slots [] s l h = h
news_live slots (x ∷ xs) s l h = news_live slots xs (sized slots x s) l.1 (open_live slots x s l.0 h)

-- positions and items
items_place : (ss : List Sign) (at : ℕ) → place_after ss at ≡ at + items_in ss
items_place [] at = omega arith
items_place (BeginOf n kind ∷ ss) at = let e = items_place ss (suc at) in omega (arith, e)
items_place (LettersOf n count ∷ ss) at = let e = items_place ss (at + count) in omega (arith, e)
items_place (EndOf kind ∷ ss) at = let e = items_place ss (suc at) in omega (arith, e)

cut_in_two : (n : ℕ) (items : List Item) → length (take n items) + length (drop n items) ≡ length items
cut_in_two zero items = omega arith
cut_in_two (suc n) [] = omega arith
cut_in_two (suc n) (x ∷ items) = let r = cut_in_two n items in omega (arith, r)

-- operations make no more items than they retain and insert, but for those that they leave
pieces_within : (ops : List Op) (items : List Item) → length (pieces ops items) + old_size ops ≤ total_size ops + length items
pieces_within [] items = omega arith
pieces_within (op.Retain count ∷ ops) items =
    let long = length-append (take count items) (pieces ops (drop count items)) in
    let both = cut_in_two count items in
    let rest = pieces_within ops (drop count items) in
    omega (arith, long, both, rest)
pieces_within (op.Replace removed inserted ∷ ops) items =
    let long = length-append inserted (pieces ops (drop (length removed) items)) in
    let both = cut_in_two (length removed) items in
    let rest = pieces_within ops (drop (length removed) items) in
    omega (arith, long, both, rest)
pieces_within (op.Attribute name from to ∷ ops) items = let rest = pieces_within ops items in omega (arith, rest)

-- so the new list is no longer
pub new_within : (values : List Value) (tx : List Operation) (items : List Item) → CanApply tx items → length (new_list values tx items) ≤ total_size (map bare tx)
new_within values tx items can =
    let same = ap length (edited-shapes values tx (plain_list values items) items (shapes-plain values [] items)) in
    let one = length-map (new_list values tx items) shape_of in
    let two = length-map (plain_list [] (pieces (map bare tx) items)) shape_of in
    let three = length-map (pieces (map bare tx) items) (plain []) in
    let few = pieces_within (map bare tx) items in
    let count = old_is tx items (map bare tx) refl can in
    omega (arith, same, one, two, three, few, count)

module _ (old : Slots) (root : NodeId) (items : List Item) (tx : List Operation) (r : ChangedRange) (start : Start) (s : Stacks) (z : Sizing) (scene : Scene old root items tx r start s z)
    (mid : Slots) (r1 : Reading) (p : IsReadPiece scene.tree.named root.0 (map bare tx) scene.range.changed scene.starts.place mid r1) (made : HasMade old mid (nodes_of Put r1.script))
    (is_changed : (values : List Value) → IsChanged (supply_of (steps_of r1.script)) root old (unvalued items) (new_list values tx items) scene.tree (passed_signs scene.starts.place) p.ss p.rights p.acts) where
  abbrev f : Named
  f = scene.tree.named

  abbrev lefts : List Sign
  lefts = passed_signs scene.starts.place

  abbrev supply : ℕ → ℕ
  supply = supply_of (steps_of r1.script)

  abbrev values : List Value
  values = scene.applies.values

  abbrev c : IsChanged supply root old (unvalued items) (new_list values tx items) scene.tree lefts p.ss p.rights p.acts
  c = is_changed values

  abbrev news : List Sign
  news = signs_for supply (marks p.acts p.ss) (first_reader 0)

  begun : HasBegun f root.0 lefts (coming_signs scene.starts.place) start.place s z
  begun = start_has_begun f root.0 r.from start s z scene.starts scene.tree.apart

  -- the lengths of both lists
  old_long : place_after (signs_of f) 0 ≡ length items
  old_long =
      let count = ap item_count scene.tree.is_tree ∙ count_all (unvalued items) scene.tree.lawful in
      let long = length-map items (plain []) in
      let all = place_passed f 0 in
      omega (arith, count, long, all)

  old_few : length items ≤ 2 ^ 60
  old_few =
      let count = old_is tx items (map bare tx) refl scene.applies in
      let few = sizes_within tx (map bare tx) refl scene.normal in
      let total = old_in_total (map bare tx) in
      omega (arith, count, few, total)

  new_long : place_after (signs_of c.forest.named) 0 ≡ length (new_list values tx items)
  new_long =
      let count = ap item_count c.forest.spells ∙ count_all (new_list values tx items) c.change.lawful in
      let all = place_passed c.forest.named 0 in
      omega (arith, count, all)

  new_few : length (new_list values tx items) ≤ 2 ^ 60
  new_few =
      let within = new_within values tx items scene.applies in
      let few = sizes_within tx (map bare tx) refl scene.normal in
      omega (arith, within, few)

  lens_ : HaveLengths mid root.0 f
  lens_ = lengths_still old mid root.0 f made.keeps (tree_lengths old root (unvalued items) scene.tree)

  root_len : lens mid root.0 ≡ length items
  root_len = lens-some mid root.0 (place_after (signs_of f) 0) lens_.all ∙ old_long

  -- the tree's nodes are there, and none is longer than the list
  abbrev Short : ℕ → Type 0
  Short = IsShort mid (length items)

  root_short : Short root.0
  root_short = is_short mid (length items) root.0 (place_after (signs_of f) 0) lens_.all (omega (arith, old_long))

  parts_short : Each Short (sign_nums lefts) × Each Short (sign_nums (p.ss ++ p.rights))
  parts_short =
      let sizes_are = subst (HaveSizes mid) (of_forest f [] ∙ sym (append-nil (forest_sizes f))) lens_.nodes in
      let few : item_count (unnumbered f) ≤ length items = let all = place_passed f 0 in omega (arith, all, old_long) in
      let numbers = (all_short mid (length items) f [] sizes_are few).0 in
      signs_part Short lefts (p.ss ++ p.rights) (subst (Each Short) (sym (nums-tokens f) ∙ ap nums (tokens-signs f) ∙ ap sign_nums c.change.signs) numbers)

  piece_short : Each Short (sign_nums p.ss)
  piece_short = (signs_part Short p.ss p.rights parts_short.1).0

  -- and so are the nodes that are open where the script begins and where it ends
  abbrev ol : List Begun
  ol = open_after lefts (under_root root.0) 0

  abbrev pl : ℕ
  pl = place_after lefts 0

  start_short : Each Short (begun_nodes ol)
  start_short = open_all Short lefts (under_root root.0) 0 parts_short.0 (root_short, tt)

  end_short : Each Short (begun_nodes (open_after p.ss ol pl))
  end_short = open_all Short p.ss ol pl piece_short start_short

  -- where the script leads
  stands : MarksStand p.acts p.ss []
  stands = acts_mark p.acts p.ss [] c.change.uses c.change.texts

  sides : Sides supply (marks p.acts p.ss) []
  sides = script_has_sides supply (marks p.acts p.ss) [] stands.together

  passes : old_side (steps_of r1.script) [] ≡ map token_of p.ss
  passes = ap (λ l. old_side l []) p.script ∙ sides.old ∙ stands.old ∙ append-nil (map token_of p.ss)

  leads : LeadsOn f c.forest.named lefts p.ss news p.rights r1.script
  leads = record {
    old_signs = c.change.signs;
    new_signs_are = c.forest.signs;
    passes = passes;
    makes = ap new_signs p.script ∙ makes_signs supply (marks p.acts p.ss) (first_reader 0);
  }

  walks : Walked mid r1.script z (kindless p.ss) (kindless news) ol ol pl pl
  walks = script_leads mid root.0 f c.forest.named lefts p.ss news p.rights r1.script z leads begun.starts (old_parts mid root.0 f lefts p.ss p.rights c.change.signs lens_.nodes).mid

  abbrev t : Sizing
  t = sized_all mid r1.script z

  old_at_few : t.old_at ≤ 2 ^ 60
  old_at_few =
      let at = walks.1 ∙ place-kindless p.ss pl in
      let cut = ap (λ l. place_after l 0) c.change.signs ∙ place-append lefts (p.ss ++ p.rights) 0 ∙ place-append p.ss p.rights pl ∙ place-from p.rights (place_after p.ss pl) in
      omega (arith, at, cut, old_long, old_few)

  new_at_few : t.new_at ≤ 2 ^ 60
  new_at_few =
      let at = walks.3 ∙ place-kindless news pl in
      let cut = ap (λ l. place_after l 0) c.forest.signs ∙ place-append lefts (news ++ p.rights) 0 ∙ place-append news p.rights pl ∙ place-from p.rights (place_after news pl) in
      omega (arith, at, cut, new_long, new_few)

  old_end : Each Short (begun_nodes (map begun_of t.old_open))
  old_end = subst (λ l. Each Short (begun_nodes l)) (sym (walks.0 ∙ open-kindless p.ss ol pl)) end_short

  -- the nodes that are open in the stacks
  abbrev pub at_end : List ℕ
  at_end = open_behind (map token_of p.ss) (open_round root.0 scene.starts.place.round)

  pub stacks_end : map number_of (script_stacks r1.script s).old ≡ at_end
  stacks_end =
      stacks_behind r1.script s
      ∙ (λ i. open_behind (passes i) (old_round root.0 scene.starts.place.round s.old scene.starts.old i))

  at_end_short : Each Short at_end
  at_end_short =
      subst (Each Short)
      (ap (λ l. begun_nodes (open_after p.ss l pl)) (open-passed root.0 scene.starts.place.round scene.starts.place.done)
      ∙ sym (behind_is p.ss (begun_round root.0 scene.starts.place.round) pl)
      ∙ ap (open_behind (map token_of p.ss)) (round_nodes root.0 scene.starts.place.round)) end_short

  left : AreSomeLeft mid (len_under mid root) (script_stacks r1.script s).old r1.at.next
  left = ends_left mid r1.at _ (len_under mid root) (script_stacks r1.script s).old p.at p.piece.right_whole few stacks_end (last_live at_end at_end_short)
    where
      few : items_in p.rights ≤ len_under mid root
      few =
          let cut = ap (λ l. place_after l 0) c.change.signs ∙ place-append lefts (p.ss ++ p.rights) 0 ∙ place-append p.ss p.rights pl ∙ items_place p.rights (place_after p.ss pl) in
          let long : len_under mid root ≡ length items = root_len in
          omega (arith, cut, long, old_long)

      last_live : (ns : List ℕ) → Each Short ns → (q : ℕ) → last_or None ns ≡ Some q → IsSome (slot_at mid q)
      last_live [] h q e = absurd (cc)
      last_live (n ∷ ns) h q e = let last : last_of n ns ≡ q = cc in subst (λ m. IsSome (slot_at mid m)) last (last_all Short n ns h.0 h.1).0

  -- the script's nodes
  steps_live : StepsAreLive mid r1.script
  steps_live = script_live mid supply p.acts p.ss r1.script p.script p.begun (sorts_part mid p.ss p.rights (sorts_part mid lefts (p.ss ++ p.rights) sorts).1).0 p.texts
    where
      sorts : SignsSort mid (lefts ++ (p.ss ++ p.rights))
      sorts =
          sorts_still old mid (lefts ++ (p.ss ++ p.rights)) made.keeps
          (subst (SignsSort old) (append-nil (signs_of f) ∙ c.change.signs) (sorts_forth old f [] scene.tree.shown tt))

  new_open : AllOpenLive mid z.new_open
  new_open = froms_live mid (length items) z.new_open (subst (λ l. Each Short (begun_nodes l)) (sym begun.starts.new_levels) start_short)

  pub can_plan : CanPlan mid root r1 s z
  can_plan = record {
    root_live = root_short.0;
    left = left;
    new_open = new_open;
    steps_live = steps_live;
    fits = ((let few = old_at_few in omega (arith, few)), (let few = new_at_few in omega (arith, few)));
    old_after = froms_live mid (length items) t.old_open old_end;
    new_after = news_live mid r1.script z steps_live new_open;
    lengths = lengths_fit mid (length items) t.new_at t.old_open old_end (omega (arith, new_at_few, old_few));
  }
