-- Brackets that come round nodes: the edits, what they bring, and where they stand.
use Rattle.std.proofs.Common.{◌≡◌, ◌≢◌, ◌≤◌, ◌<◌, ℕ, ◌+◌, ◌-◌, Bool, true, false, if◌then◌else◌, nat_lt, List, [], ◌∷◌, ◌++◌, length, drop, get_or, Contains, Option, Some, None, Ok, Err, refl, sym, ap, ◌∙◌, subst, arith, append-nil, append_assoc}
use Rattle.std.specs.Prelude.{All}
use Rattle.std.proofs.lemmas.Bool.{ltb-false}
use Rattle.std.proofs.lemmas.List.{drop_more}
use Rattle.std.proofs.lemmas.List.Concat.{flat_map-append}
use Rattle.std.proofs.lemmas.List.Elements.{Contains-append_left, Contains-append_right}
use Rattle.std.proofs.lemmas.List.Folds.{flat_map-map}
use Rattle.ve_base.specs.declared.value.Value.{Value}
use Rattle.model_items.specs.declared.item.Item.{Item}
use Rattle.model_items.specs.declared.plain_item.PlainItem.{PlainItem}
use Rattle.model_items.specs.Law.{Lawful}
use Rattle.model_items.specs.Offsets.{end_of_node}
use Rattle.model_items.specs.Plain.{plain_list, CitesWell}
use Rattle.model_items.specs.Tree.{Open}
use Rattle.model_change.specs.Store.{fill, cited, admitted}
use Rattle.model_change.specs.Transaction.{Transaction, all_inserted}
use Rattle.model_change.proofs.StoreLemmas.{fill_appends}
use Rattle.model_edit.specs.Causes.{BadRange, NotWrapped}
use Rattle.model_edit.specs.Edits.{Edit, Change, transaction_of}
use Rattle.model_edit.specs.Wrap.{openings_of, closings_of, node_edits, nodes_in, wrap_edits, is_bad_wrap, wrong_place, wrapped_unless, wrap}
use Rattle.model_edit.specs.declared.wrap_plan.Shape.{Shape}
use Rattle.model_edit.specs.declared.wrap_plan.WrapPlan.{WrapPlan}
use Rattle.model_edit_law.proofs.OrderLemmas.{Rising}
use Rattle.model_edit_law.proofs.WrapLemmas.{wrap_rises}
use Rattle.ve_store.proofs.StoreLemmas.{admitted_there}
use Rattle.ve_tx.proofs.ValuesLemmas.{filled_on}
use Rattle.ve_edits.specs.Collected.{Collected, Makes, MakesOneMore}
use Rattle.ve_edits.proofs.PieceLemmas.{pieces, pieces-append, inserts_pieces}
use Rattle.ve_build_shape.specs.Nodes.{wrong_among}
use Rattle.ve_build_shape.specs.Round.{AreBrackets, Collects, PutsRound, HaveRoom, Fits, nodes_edits, edits_round}
use Rattle.ve_build_shape.specs.declared.shapes.Brackets.{Brackets}
use Rattle.ve_build_shape.proofs.ClaimLemmas.{among_nodes}
use Rattle.ve_build_shape.proofs.ShapeLemmas.{cited-append, closings_cite}
use Rattle.ve_build_shape.proofs.NodeLemmas.{node_starts}

-- ---- the edits

module _ (values : List Value) (items : List Item) where
  abbrev Gives : List Edit → Collected → Collected → Type 0
  Gives = Collects values items

  pub nothing_more : (c : Collected) → Gives [] c c
  nothing_more c = λ done m. subst (λ e. Makes values items e c) (sym (append-nil done)) m

  pub both_collected : (first second : List Edit) (a b c : Collected) → Gives first a b → Gives second b c → Gives (first ++ second) a c
  both_collected first second a b c g h = λ done m. subst (λ e. Makes values items e c) (append_assoc done first second) (h (done ++ first) (g done m))

  pub change_collected : (at count : ℕ) (inserted : List Item) (plains : List PlainItem) (old new : Collected) → All (CitesWell values) items → All (CitesWell values) inserted →
      plain_list values inserted ≡ plains → MakesOneMore items at count inserted old new → Gives (Change at count plains ∷ []) old new
  change_collected at count inserted plains old new listed cited is one = λ done m.
      subst (λ l. Makes values items (done ++ Change at count l ∷ []) new) is (one values done listed cited m)

  -- the same, where what is put in is borrowed
  pub lent_collected : (at count : ℕ) (lent own : List Item) (plains : List PlainItem) (old new : Collected) → lent ≡ own → All (CitesWell values) items → All (CitesWell values) own →
      plain_list values own ≡ plains → MakesOneMore items at count lent old new → Gives (Change at count plains ∷ []) old new
  lent_collected at count lent own plains old new same listed cited is one =
      change_collected at count own plains old new listed cited is (subst (λ l. MakesOneMore items at count l old new) same one)

  -- all edits of a wrap, one after the other
  pub all_collected : (from to count each_count : ℕ) (plan : WrapPlan) (places : List ℕ) (outer each : Brackets) (openings closings : List Item) (a b c d : Collected) →
      count ≡ length plan.unwrap_outer → each_count ≡ length plan.unwrap_each → openings ≡ outer.openings → closings ≡ outer.closings → All (CitesWell values) items →
      AreBrackets values plan.wrap_outer outer → AreBrackets values plan.wrap_each each →
      Makes values items [] a → MakesOneMore items (from - count) count openings a b → PutsRound items each_count each places b c → MakesOneMore items to count closings c d →
      Makes values items (edits_round (plain_list values items) from to plan places) d
  all_collected from to count each_count plan places outer each openings closings a b c d n m opened closed listed one two none first middle last =
      let P = plain_list values items in
      let O = openings_of plan.wrap_outer in
      let C = closings_of plan.wrap_outer in
      let N : ℕ → List Edit = λ k. nodes_edits P k plan.wrap_each places in
      let whole = both_collected (Change (from - count) count O ∷ []) (N each_count ++ Change to count C ∷ []) a b d
      (lent_collected (from - count) count openings outer.openings O a b opened listed one.openings_cite one.openings first)
      (both_collected (N each_count) (Change to count C ∷ []) b c d (middle values plan.wrap_each listed two)
      (lent_collected to count closings outer.closings C c d closed listed one.closings_cite one.closings last)) in
      subst (λ (k : ℕ). Makes values items (Change (from - k) k O ∷ (N (length plan.unwrap_each) ++ Change to k C ∷ [])) d) n
      (subst (λ (k : ℕ). Makes values items (Change (from - count) count O ∷ (N k ++ Change to count C ∷ [])) d) m (whole [] none))

  -- and those of one node
  pub node_collected : (at count end : ℕ) (shapes : List Shape) (brackets : Brackets) (openings closings : List Item) (a b c : Collected) →
      end ≡ end_of_node (plain_list values items) at → openings ≡ brackets.openings → closings ≡ brackets.closings → All (CitesWell values) items → AreBrackets values shapes brackets →
      MakesOneMore items at count openings a b → MakesOneMore items (end - count) count closings b c → Gives (nodes_edits (plain_list values items) count shapes (at ∷ [])) a c
  node_collected at count end shapes brackets openings closings a b c place opened closed listed are first last =
      let O = openings_of shapes in
      let C = closings_of shapes in
      subst (λ (n : ℕ). Gives (Change at count O ∷ Change (n - count) count C ∷ []) a c) place
      (both_collected (Change at count O ∷ []) (Change (end - count) count C ∷ []) a b c
      (lent_collected at count openings brackets.openings O a b opened listed are.openings_cite are.openings first)
      (lent_collected (end - count) count closings brackets.closings C b c closed listed are.closings_cite are.closings last))

-- one node more of those that begin at the positions
pub nodes_more : (items : List PlainItem) (count : ℕ) (shapes : List Shape) (places places' : List ℕ) (at : ℕ) → places' ≡ places ++ at ∷ [] →
    nodes_edits items count shapes places' ≡ nodes_edits items count shapes places ++ nodes_edits items count shapes (at ∷ [])
nodes_more items count shapes places places' at parts =
    ap (nodes_edits items count shapes) parts ∙ flat_map-append (λ at. node_edits at (end_of_node items at) count shapes) places (at ∷ [])

pub puts_more : (items : List Item) (count : ℕ) (brackets : Brackets) (places places' : List ℕ) (at : ℕ) (a b c : Collected) → places' ≡ places ++ at ∷ [] →
    PutsRound items count brackets places a b → PutsRound items count brackets (at ∷ []) b c → PutsRound items count brackets places' a c
puts_more items count brackets places places' at a b c parts g h = λ values shapes listed are.
    let P = plain_list values items in
    subst (λ e. Collects values items e a c) (sym (nodes_more P count shapes places places' at parts))
    (both_collected values items (nodes_edits P count shapes places) (nodes_edits P count shapes (at ∷ [])) a b c (g values shapes listed are) (h values shapes listed are))

-- ---- what they bring

edits_pieces : (items : List PlainItem) (from to : ℕ) (plan : WrapPlan) (places : List ℕ) →
    pieces (edits_round items from to plan places)
    ≡ openings_of plan.wrap_outer ++ (pieces (nodes_edits items (length plan.unwrap_each) plan.wrap_each places) ++ (closings_of plan.wrap_outer ++ []))
edits_pieces items from to plan places =
    let outer = length plan.unwrap_outer in
    ap (λ l. openings_of plan.wrap_outer ++ l) (pieces-append (nodes_edits items (length plan.unwrap_each) plan.wrap_each places) (Change to outer (closings_of plan.wrap_outer) ∷ []))

-- values that are there are brought again by nothing
fill_same : (values vs : List Value) → ((v : Value) → Contains vs v → Contains values v) → fill values vs ≡ values
fill_same values [] there = refl
fill_same values (v ∷ vs) there =
    let here : values ≡ admitted values v = admitted_there values v (there v (Contains-append_left (v ∷ []) vs v (0, omega arith, refl))) in
    ap (λ l. fill l vs) (sym here) ∙ fill_same values vs (λ w within. there w (Contains-append_right (v ∷ []) vs w within))

fill_again : (values vs : List Value) → fill (fill values vs) vs ≡ fill values vs
fill_again values vs = fill_same (fill values vs) vs (fill_appends values vs).all

module _ (items : List PlainItem) (count : ℕ) (shapes : List Shape) where
  node_cited : (at : ℕ) (places : List ℕ) →
      cited (pieces (nodes_edits items count shapes (at ∷ places))) ≡ cited (openings_of shapes) ++ cited (pieces (nodes_edits items count shapes places))
  node_cited at places =
      let rest = pieces (nodes_edits items count shapes places) in
      cited-append (openings_of shapes) (closings_of shapes ++ rest)
      ∙ ap (λ l. cited (openings_of shapes) ++ l) (cited-append (closings_of shapes) rest ∙ ap (λ l. l ++ cited rest) (closings_cite shapes))

  -- further nodes bring nothing
  further : (values : List Value) (places : List ℕ) → fill values (cited (openings_of shapes)) ≡ values → fill values (cited (pieces (nodes_edits items count shapes places))) ≡ values
  further values [] there = refl
  further values (at ∷ places) there =
      let rest = cited (pieces (nodes_edits items count shapes places)) in
      ap (fill values) (node_cited at places) ∙ sym (filled_on values values (cited (openings_of shapes)) rest (sym there)) ∙ further values places there

  -- some nodes bring what one does
  brought : (values : List Value) (places : List ℕ) → places ≢ [] → fill values (cited (pieces (nodes_edits items count shapes places))) ≡ fill values (cited (openings_of shapes))
  brought values [] some = absurd (some refl)
  brought values (at ∷ places) some =
      let O = cited (openings_of shapes) in
      let rest = cited (pieces (nodes_edits items count shapes places)) in
      ap (fill values) (node_cited at places) ∙ sym (filled_on values (fill values O) O rest refl) ∙ further (fill values O) places (fill_again values O)

-- the transaction brings the openings of the outer shapes and those of the others, once
pub brings_openings : (items : List PlainItem) (from to : ℕ) (plan : WrapPlan) (places : List ℕ) (first second third : List Value) → places ≢ [] →
    second ≡ fill first (cited (openings_of plan.wrap_outer)) → third ≡ fill second (cited (openings_of plan.wrap_each)) →
    third ≡ fill first (cited (all_inserted (transaction_of items (edits_round items from to plan places))))
brings_openings items from to plan places first second third some one two =
    let O = openings_of plan.wrap_outer in
    let N = pieces (nodes_edits items (length plan.unwrap_each) plan.wrap_each places) in
    let C = closings_of plan.wrap_outer in
    let last : cited (N ++ (C ++ [])) ≡ cited N = cited-append N (C ++ []) ∙ ap (λ l. cited N ++ cited l) (append-nil C) ∙ ap (λ l. cited N ++ l) (closings_cite plan.wrap_outer) ∙ append-nil (cited N) in
    two ∙ sym (brought items (length plan.unwrap_each) plan.wrap_each second places some)
    ∙ filled_on first second (cited O) (cited N) one
    ∙ ap (λ l. fill first (cited O ++ l)) (sym last)
    ∙ ap (fill first) (sym (cited-append O (N ++ (C ++ []))))
    ∙ ap (λ l. fill first (cited l)) (sym (inserts_pieces items (edits_round items from to plan places) ∙ edits_pieces items from to plan places))

-- ---- where they stand

rising_room : (items : List PlainItem) (count : ℕ) (shapes : List Shape) (to outer end : ℕ) (last : List PlainItem) (at : ℕ) (places : List ℕ) →
    Rising at end (nodes_edits items count shapes places ++ Change to outer last ∷ []) → HaveRoom items count at to places × (to + outer ≤ end)
rising_room items count shapes to outer end last at [] rises = rises
rising_room items count shapes to outer end last at (place ∷ places) rises =
    let room = rises.1.0 in
    let e : end_of_node items place - count + count ≡ end_of_node items place = omega (arith, room) in
    let rest = rising_room items count shapes to outer end last (end_of_node items place) places
    (subst (λ n. Rising n end (nodes_edits items count shapes places ++ Change to outer last ∷ [])) e rises.1.1) in
    ((rises.0, room, rest.0), rest.1)

-- nodes that have room stand before the end
pub room_ends : (items : List PlainItem) (count at end : ℕ) (places : List ℕ) → HaveRoom items count at end places → at ≤ end
room_ends items count at end [] room = room
room_ends items count at end (place ∷ places) room =
    let first = room.0 in
    let inside = room.1 in
    let later = room_ends items count (end_of_node items place) end places room.2 in
    omega (arith, first, inside, later)

-- the first of some nodes has room, and then the others have
pub room_next : (items : List PlainItem) (count at end : ℕ) (places : List ℕ) (i d : ℕ) → i < length places → HaveRoom items count at end (drop i places) →
    HaveRoom items count (end_of_node items (get_or places i d)) end (drop (i + 1) places)
room_next items count at end places i d inside room = (subst (HaveRoom items count at end) (drop_more places i d inside) room).2

-- the model's edits, by the positions where the nodes begin
pub edits_are : (items : List PlainItem) (from to : ℕ) (plan : WrapPlan) → edits_round items from to plan (node_starts (nodes_in items from to)) ≡ wrap_edits items from to plan
edits_are items from to plan =
    let outer = length plan.unwrap_outer in
    ap (λ (l : List Edit). Change (from - outer) outer (openings_of plan.wrap_outer) ∷ (l ++ Change to outer (closings_of plan.wrap_outer) ∷ []))
    (flat_map-map (λ at. node_edits at (end_of_node items at) (length plan.unwrap_each) plan.wrap_each) (λ (node : Open). node.from) (nodes_in items from to))

module _ (items : List PlainItem) (from to : ℕ) (plan : WrapPlan) where
  abbrev changed : Transaction
  changed = transaction_of items (wrap_edits items from to plan)

  abbrev wrong : Option ℕ
  wrong = wrong_place items from to plan.unwrap_outer plan.unwrap_each

  pub wrap-BadRange : is_bad_wrap items from to ≡ true → wrap items from to plan ≡ Err (BadRange from to)
  wrap-BadRange h = ap (λ b. if b then Err (BadRange from to) else wrapped_unless wrong changed) h

  good : is_bad_wrap items from to ≡ false → wrap items from to plan ≡ wrapped_unless wrong changed
  good h = ap (λ b. if b then Err (BadRange from to) else wrapped_unless wrong changed) h

  pub wrap-NotWrapped : (at : ℕ) (places : List ℕ) → is_bad_wrap items from to ≡ false → places ≡ node_starts (nodes_in items from to) →
      wrong_among items from to plan.unwrap_outer plan.unwrap_each places ≡ Some at → wrap items from to plan ≡ Err (NotWrapped at)
  wrap-NotWrapped at places h are is =
      good h ∙ ap (λ o. wrapped_unless o changed)
      (among_nodes items from to plan.unwrap_outer plan.unwrap_each ∙ ap (wrong_among items from to plan.unwrap_outer plan.unwrap_each) (sym are) ∙ is)

  wrapped_well : (places : List ℕ) → is_bad_wrap items from to ≡ false → places ≡ node_starts (nodes_in items from to) →
      wrong_among items from to plan.unwrap_outer plan.unwrap_each places ≡ None → wrap items from to plan ≡ Ok changed
  wrapped_well places h are is =
      good h ∙ ap (λ o. wrapped_unless o changed)
      (among_nodes items from to plan.unwrap_outer plan.unwrap_each ∙ ap (wrong_among items from to plan.unwrap_outer plan.unwrap_each) (sym are) ∙ is)

  pub wrap-given : (places : List ℕ) → is_bad_wrap items from to ≡ false → places ≡ node_starts (nodes_in items from to) →
      wrong_among items from to plan.unwrap_outer plan.unwrap_each places ≡ None → wrap items from to plan ≡ Ok (transaction_of items (edits_round items from to plan places))
  wrap-given places h are is =
      wrapped_well places h are is
      ∙ ap (λ e. Ok (transaction_of items e)) (sym (ap (edits_round items from to plan) are ∙ edits_are items from to plan))

  enough : (places : List ℕ) → wrong_among items from to plan.unwrap_outer plan.unwrap_each places ≡ None → length plan.unwrap_outer ≤ from
  enough places is = by (nat_lt from (length plan.unwrap_outer)) refl
    where
      by : (b : Bool) → nat_lt from (length plan.unwrap_outer) ≡ b → length plan.unwrap_outer ≤ from
      by false e = ltb-false from (length plan.unwrap_outer) e
      by true e =
          let few : wrong_among items from to plan.unwrap_outer plan.unwrap_each places ≡ Some 0 = Rattle.ve_build_shape.proofs.ClaimLemmas.too_few items from to plan.unwrap_outer plan.unwrap_each places e in
          let none : ◌≡◌ {A = Option ℕ} (Some 0) None = sym few ∙ is in
          absurd (cc)

  -- The edits of a wrap that isn't refused stand in order.
  pub wrap_fits : (places : List ℕ) → Lawful items → is_bad_wrap items from to ≡ false → places ≡ node_starts (nodes_in items from to) →
      wrong_among items from to plan.unwrap_outer plan.unwrap_each places ≡ None → Fits items from to plan places
  wrap_fits places lawful h are is =
      let outer = length plan.unwrap_outer in
      let room = enough places is in
      let rises = (wrap_rises items from to plan changed lawful (wrapped_well places h are is)).0 in
      let ours = subst (Rising 0 (length items)) (sym (ap (edits_round items from to plan) are ∙ edits_are items from to plan)) rises in
      let e : from - outer + outer ≡ from = omega arith in
      let rest = rising_room items (length plan.unwrap_each) plan.wrap_each to outer (length items) (closings_of plan.wrap_outer) from places
      (subst (λ n. Rising n (length items) (nodes_edits items (length plan.unwrap_each) plan.wrap_each places ++ Change to outer (closings_of plan.wrap_outer) ∷ [])) e ours.1) in
      record { before = room; nodes = rest.0; after = rest.1 }
