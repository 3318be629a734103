-- A cursor in a tree: what comes next there, and the position behind it.
use Rattle.std.proofs.Common.{◌≡◌, ◌≤◌, ◌<◌, ◌+◌, ◌-◌, ℕ, zero, suc, true, false, nat_eq, Option, Some, None, is_some, IsSome, List, [], ◌∷◌, ◌++◌, map, option_map, refl, sym, ap, ◌∙◌, subst, arith, tests, unwrap_or, append_assoc}
use Rattle.ve_kinds.specs.declared.kind.Kind.{Kind}
use Rattle.model_items.specs.Tree.{HasWholeRuns, begins_with_run, item_count}
use Rattle.ve_arena.specs.declared.node.NodeId.{NodeId}
use Rattle.ve_arena.specs.declared.node.NodeWhat.TheVariants as what
use Rattle.ve_arena.specs.declared.node.ArenaNode.{ArenaNode}
use Rattle.ve_arena.specs.Arena.{slot_at, IsLive}
use Rattle.ve_tree.specs.Links.{number_of, link_in, links_of, AreSiblings}
use Rattle.ve_tree.specs.Named.{Named, NoNode, NamedRun, NamedBranch, unnumbered, heads, node_numbers, Shows}
use Rattle.ve_tree.specs.Grown.{id_of}
use Rattle.ve_tree.proofs.WalkLemmas.{Slots}
use Rattle.ve_tree.proofs.GrownLemmas.{AllSame, row-same, same-heads, shows-same}
use Rattle.ve_offsets.proofs.StateLemmas.{IsNext, is_next, same_number, shown_live}
use Rattle.ve_repair.specs.Reader.{Keeps}
use Rattle.ve_repair.specs.Spelled.{Sign, BeginOf, LettersOf, EndOf, NoLetters}
use Rattle.ve_repair.specs.Sizes.{signs_of}
use Rattle.ve_repair.specs.declared.cursor.Cursor.{Cursor}
use Rattle.ve_repair.specs.declared.cursor.Ahead.TheVariants.{Opening, Chars, Closing}
use Rattle.ve_repair.specs.Cursors.{Spot, spot_of, past, items_in, cut_by, Round, outer_of, left_signs, IsRowUnder, AreRows, IsInside, IsAt, IsAtSome, IsPassed, IsRestOfText}

-- the innermost row
pub first_row : (slots : Slots) (p : ℕ) (next : Option NodeId) (f : Named) (rs : List Round) → AreRows slots p next f rs → IsRowUnder slots p next f
first_row slots p next f [] h = h
first_row slots p next f (r ∷ rs) h = h.0

pub other_row : (slots : Slots) (p : ℕ) (next next1 : Option NodeId) (f f1 : Named) (rs : List Round) → AreRows slots p next f rs → IsRowUnder slots p next1 f1 → AreRows slots p next1 f1 rs
other_row slots p next next1 f f1 [] h row = row
other_row slots p next next1 f f1 (r ∷ rs) h row = (row, h.1, h.2)

-- what a row is, by what comes next
pub none_next : (slots : Slots) (p : ℕ) (next : Option NodeId) (f : Named) → next ≡ None → IsRowUnder slots p next f → f ≡ NoNode
none_next slots p next NoNode e r = refl
none_next slots p next (NamedRun n count later) e r = let bad : None ≡ Some n = sym (ap (option_map number_of) e) ∙ r.next_is in absurd (cc)
none_next slots p next (NamedBranch n kind inside later) e r = let bad : None ≡ Some n = sym (ap (option_map number_of) e) ∙ r.next_is in absurd (cc)

pub some_live : (slots : Slots) (p : ℕ) (next : Option NodeId) (n : NodeId) (f : Named) → next ≡ Some n → IsRowUnder slots p next f → IsLive slots n
some_live slots p next n NoNode e r = let bad : ◌≡◌ {A = Option ℕ} (Some n.0) None = sym (ap (option_map number_of) e) ∙ r.next_is in absurd (cc)
some_live slots p next n (NamedRun h count later) e r = shown_live slots n h _ _ _ (same_number n h (sym (ap (option_map number_of) e) ∙ r.next_is)) r.shown.0
some_live slots p next n (NamedBranch h kind inside later) e r = shown_live slots n h _ _ _ (same_number n h (sym (ap (option_map number_of) e) ∙ r.next_is)) r.shown.0

pub cut-zero : (ss : List Sign) → cut_by 0 ss ≡ ss
cut-zero [] = refl
cut-zero (BeginOf n kind ∷ ss) = refl
cut-zero (LettersOf n count ∷ ss) = let e : count - 0 ≡ count = omega arith in ap (λ k. LettersOf n k ∷ ss) e
cut-zero (EndOf kind ∷ ss) = refl

pub inside_none : (f : Named) → HasWholeRuns (unnumbered f) → IsInside 0 f
inside_none NoNode h = refl
inside_none (NamedRun n count later) h = h.0
inside_none (NamedBranch n kind inside later) h = refl

-- signs of a row, one node at a time
pub run_left : (n count : ℕ) (later : Named) (rs : List Round) → left_signs (NamedRun n count later) rs ≡ LettersOf n count ∷ left_signs later rs
run_left n count later [] = refl
run_left n count later (r ∷ rs) = refl

pub branch_left : (n p : ℕ) (kind : Kind) (inside later : Named) (rs : List Round) →
    left_signs (NamedBranch n kind inside later) rs ≡ BeginOf n kind ∷ left_signs inside (record { kind = kind; outer = p; later = later } ∷ rs)
branch_left n p kind inside later [] = refl
branch_left n p kind inside later (r ∷ rs) =
    ap (λ ss. BeginOf n kind ∷ ss) (append_assoc (signs_of inside) (EndOf kind ∷ signs_of later) (EndOf r.kind ∷ left_signs r.later rs))

-- a cursor before whole nodes
pub at_start : (slots : Slots) (parent : NodeId) (next : Option NodeId) (f : Named) (rs : List Round) → AreRows slots parent.0 next f rs →
    IsAt slots (record { parent = parent; next = next; inside = 0 }) (spot_of (parent.0 ∷ map outer_of rs) (left_signs f rs))
at_start slots parent next f rs h = record {
  row = f;
  rounds = rs;
  rows = h;
  inside = inside_none f (first_row slots parent.0 next f rs h).runs;
  rest_is = sym (cut-zero (left_signs f rs));
  open_is = refl;
}

-- letters are passed
pub past-letters : (k d n : ℕ) (os : List ℕ) (ss : List Sign) → k < d → past k (spot_of os (LettersOf n d ∷ ss)) ≡ spot_of os (LettersOf n (d - k) ∷ ss)
past-letters zero d n os ss h = let e : d ≡ d - 0 = omega arith in ap (λ m. spot_of os (LettersOf n m ∷ ss)) e
past-letters (suc k) zero n os ss h = absurd (omega (arith, h))
past-letters (suc k) (suc zero) n os ss h = absurd (omega (arith, h))
past-letters (suc k) (suc (suc d)) n os ss h =
    let e : suc d - k ≡ suc (suc d) - suc k = omega arith in past-letters k (suc d) n os ss (omega (arith, h)) ∙ ap (λ m. spot_of os (LettersOf n m ∷ ss)) e

pub past-text : (d n : ℕ) (os : List ℕ) (ss : List Sign) → 1 ≤ d → past d (spot_of os (LettersOf n d ∷ ss)) ≡ spot_of os ss
past-text zero n os ss h = absurd (omega (arith, h))
past-text (suc zero) n os ss h = refl
past-text (suc (suc d)) n os ss h = past-text (suc d) n os ss (omega arith)

-- a spot by its parts
pub spot_is : (s : Spot) (os : List ℕ) (ss : List Sign) → s.open_nodes ≡ os → s.rest ≡ ss → s ≡ spot_of os ss
spot_is s os ss e f = λ i. spot_of (e i) (f i)

-- The innermost open node ends.
pub pass_closing : (slots : Slots) (at : Cursor) (parent : NodeId) (node : ArenaNode) (most : ℕ) (spot : Spot) → at.next ≡ None → slot_at slots at.parent.0 ≡ Some node →
    ((q : ℕ) → option_map number_of node.parent ≡ Some q → parent.0 ≡ q) → 1 ≤ most → most ≤ items_in spot.rest → IsAt slots at spot →
    IsPassed slots most spot (record { what = Closing; count = 1; at = record { parent = parent; next = node.after; inside = 0 } })
pass_closing slots at parent node most spot none here named some enough h =
    by_row h.row h.rounds (none_next slots at.parent.0 at.next h.row none (first_row slots at.parent.0 at.next h.row h.rounds h.rows)) h.rows h.rest_is h.open_is
  where
    by_row : (f : Named) (rs : List Round) → f ≡ NoNode → AreRows slots at.parent.0 at.next f rs → spot.rest ≡ cut_by at.inside (left_signs f rs) →
        spot.open_nodes ≡ at.parent.0 ∷ map outer_of rs →
        IsPassed slots most spot (record { what = Closing; count = 1; at = record { parent = parent; next = node.after; inside = 0 } })
    by_row (NamedRun n count later) rs e rows rest open_ = absurd (cc)
    by_row (NamedBranch n kind inside later) rs e rows rest open_ = absurd (cc)
    by_row NoNode [] e rows rest open_ = let bad = ap items_in rest in absurd (omega (arith, bad, some, enough))
    by_row NoNode (r ∷ rs) e rows rest open_ =
        let outer = rows.2 node here in
        let same : parent.0 ≡ r.outer = named r.outer outer.0 in
        record {
          some = omega arith;
          few = some;
          first = (r.kind, left_signs r.later rs, rest, refl);
          at = subst (IsAt slots (record { parent = parent; next = node.after; inside = 0 }))
              ((λ i. spot_of (same i ∷ map outer_of rs) (left_signs r.later rs))
              ∙ sym (ap (past 1) (spot_is spot (at.parent.0 ∷ r.outer ∷ map outer_of rs) (EndOf r.kind ∷ left_signs r.later rs) open_ rest)))
              (at_start slots parent node.after r.later rs (subst (λ q. AreRows slots q node.after r.later rs) (sym same) outer.1));
        }

number : (next : Option NodeId) (n : NodeId) (h : ℕ) → next ≡ Some n → option_map number_of next ≡ Some h → n.0 ≡ h
number next n h e f = same_number n h (sym (ap (option_map number_of) e) ∙ f)

-- A node begins.
pub pass_opening : (slots : Slots) (at : Cursor) (n : NodeId) (node : ArenaNode) (kind : Kind) (most : ℕ) (spot : Spot) → at.next ≡ Some n → slot_at slots n.0 ≡ Some node →
    node.what ≡ what.Node kind → 1 ≤ most → IsAt slots at spot →
    IsPassed slots most spot (record { what = Opening n; count = 1; at = record { parent = n; next = node.first; inside = 0 } })
pass_opening slots at n node kind most spot next here sort some h = by_row h.row h.rows h.rest_is
  where
    by_row : (f : Named) → AreRows slots at.parent.0 at.next f h.rounds → spot.rest ≡ cut_by at.inside (left_signs f h.rounds) →
        IsPassed slots most spot (record { what = Opening n; count = 1; at = record { parent = n; next = node.first; inside = 0 } })
    by_row NoNode rows rest =
        let row = first_row slots at.parent.0 at.next NoNode h.rounds rows in
        let bad : ◌≡◌ {A = Option ℕ} (Some n.0) None = sym (ap (option_map number_of) next) ∙ row.next_is in absurd (cc)
    by_row (NamedRun m count later) rows rest =
        let row = first_row slots at.parent.0 at.next (NamedRun m count later) h.rounds rows in
        let is : IsNext slots node m what.Run count = is_next slots n node m _ _ _ here (number at.next n m next row.next_is) row.shown.0 in
        let bad : what.Node kind ≡ what.Run = sym sort ∙ is.sort_is in absurd (cc)
    by_row (NamedBranch m k inside later) rows rest =
        let row = first_row slots at.parent.0 at.next (NamedBranch m k inside later) h.rounds rows in
        let same : n.0 ≡ m = number at.next n m next row.next_is in
        let is : IsNext slots node m (what.Node k) (item_count (unnumbered inside) + 2) = is_next slots n node m _ _ _ here same row.shown.0 in
        let round : Round = record { kind = k; outer = at.parent.0; later = later } in
        let under : IsRowUnder slots n.0 node.first inside = record {
          next_is = sym (ap (link_in (λ node. node.first)) is.here) ∙ row.shown.0.children.first;
          edge = None;
          row = subst (λ q. AreSiblings (links_of slots).parent (links_of slots).before (links_of slots).after q None (heads inside) None) (sym same) row.shown.0.children.row;
          shown = row.shown.1;
          runs = row.runs.0;
        } in
        let behind : IsRowUnder slots at.parent.0 node.after later = record {
          next_is = sym (ap (link_in (λ node. node.after)) is.here) ∙ row.row.2;
          edge = Some m;
          row = row.row.3;
          shown = row.shown.2;
          runs = row.runs.1;
        } in
        let outer : (other : ArenaNode) → slot_at slots n.0 ≡ Some other → (option_map number_of other.parent ≡ Some at.parent.0) × AreRows slots at.parent.0 other.after later h.rounds =
        λ (other : ArenaNode) (e : slot_at slots n.0 ≡ Some other). (
          sym (ap (link_in (λ node. node.parent)) (sym (ap (slot_at slots) same) ∙ e)) ∙ row.row.0,
          other_row slots at.parent.0 at.next other.after (NamedBranch m k inside later) later h.rounds rows (let eq : node ≡ other = cc in subst (λ (x : ArenaNode). IsRowUnder slots at.parent.0 x.after later) eq behind),
        ) in
        record {
          some = omega arith;
          few = some;
          first = (k, left_signs inside (round ∷ h.rounds), rest ∙ ap (cut_by at.inside) (branch_left m at.parent.0 k inside later h.rounds) ∙ ap (λ q. BeginOf q k ∷ left_signs inside (round ∷ h.rounds)) (sym same), refl);
          at = subst (IsAt slots (record { parent = n; next = node.first; inside = 0 }))
              ((λ i. spot_of (same i ∷ at.parent.0 ∷ map outer_of h.rounds) (left_signs inside (round ∷ h.rounds)))
              ∙ sym (ap (past 1) (spot_is spot (at.parent.0 ∷ map outer_of h.rounds) (BeginOf m k ∷ left_signs inside (round ∷ h.rounds)) h.open_is
              (rest ∙ ap (cut_by at.inside) (branch_left m at.parent.0 k inside later h.rounds)))))
              (at_start slots n node.first inside (round ∷ h.rounds) (under, ap (is_some) here, outer));
        }

-- A text comes next.
pub record InText (slots : Slots) (at : Cursor) (n : NodeId) (node : ArenaNode) (spot : Spot) : Type 0 where
  pub later : Named
  pub rounds : List Round
  pub inside : at.inside < node.len
  pub rest : spot.rest ≡ LettersOf n.0 (node.len - at.inside) ∷ left_signs later rounds
  pub open_is : spot.open_nodes ≡ at.parent.0 ∷ map outer_of rounds
  pub here : AreRows slots at.parent.0 at.next (NamedRun n.0 node.len later) rounds
  pub behind : AreRows slots at.parent.0 node.after later rounds

pub in_text : (slots : Slots) (at : Cursor) (n : NodeId) (node : ArenaNode) (spot : Spot) → at.next ≡ Some n → slot_at slots n.0 ≡ Some node → node.what ≡ what.Run → IsAt slots at spot →
    InText slots at n node spot
in_text slots at n node spot next here sort h = by_row h.row h.rows h.inside h.rest_is
  where
    by_row : (f : Named) → AreRows slots at.parent.0 at.next f h.rounds → IsInside at.inside f → spot.rest ≡ cut_by at.inside (left_signs f h.rounds) → InText slots at n node spot
    by_row NoNode rows in_ rest =
        let row = first_row slots at.parent.0 at.next NoNode h.rounds rows in
        let bad : ◌≡◌ {A = Option ℕ} (Some n.0) None = sym (ap (option_map number_of) next) ∙ row.next_is in absurd (cc)
    by_row (NamedBranch m k inside later) rows in_ rest =
        let row = first_row slots at.parent.0 at.next (NamedBranch m k inside later) h.rounds rows in
        let is : IsNext slots node m (what.Node k) (item_count (unnumbered inside) + 2) = is_next slots n node m _ _ _ here (number at.next n m next row.next_is) row.shown.0 in
        let bad : what.Node k ≡ what.Run = sym is.sort_is ∙ sort in absurd (cc)
    by_row (NamedRun m count later) rows in_ rest =
        let row = first_row slots at.parent.0 at.next (NamedRun m count later) h.rounds rows in
        let same : n.0 ≡ m = number at.next n m next row.next_is in
        let is : IsNext slots node m what.Run count = is_next slots n node m _ _ _ here same row.shown.0 in
        let len : node.len ≡ count = is.len_is in
        let behind : IsRowUnder slots at.parent.0 node.after later = record {
          next_is = sym (ap (link_in (λ node. node.after)) is.here) ∙ row.row.2;
          edge = Some m;
          row = row.row.3;
          shown = row.shown.1;
          runs = row.runs.2;
        } in
        record {
          later = later;
          rounds = h.rounds;
          inside = omega (arith, in_, len);
          rest = rest ∙ ap (cut_by at.inside) (run_left m count later h.rounds) ∙ (λ i. LettersOf (sym same i) (sym len i - at.inside) ∷ left_signs later h.rounds);
          open_is = h.open_is;
          here = subst (λ (f : Named). AreRows slots at.parent.0 at.next f h.rounds) (λ i. NamedRun (sym same i) (sym len i) later) rows;
          behind = other_row slots at.parent.0 at.next node.after (NamedRun m count later) later h.rounds rows behind;
        }

-- Not all of the letters that are left
pub pass_some : (slots : Slots) (at : Cursor) (n : NodeId) (node : ArenaNode) (most : ℕ) (spot : Spot) → 1 ≤ most → most < node.len - at.inside → InText slots at n node spot →
    IsPassed slots most spot (record { what = Chars n false; count = most; at = record { parent = at.parent; next = at.next; inside = at.inside + most } })
pass_some slots at n node most spot some few t =
    let left = node.len - at.inside in
    let fewer : left - most ≡ node.len - (at.inside + most) = omega arith in
    let under : at.inside + most < node.len = omega (arith, few, t.inside) in
    record {
      some = some;
      few = omega arith;
      first = (left, left_signs t.later t.rounds, t.rest, omega (arith, few), sym (differs most left few));
      at = record {
        row = NamedRun n.0 node.len t.later;
        rounds = t.rounds;
        rows = t.here;
        inside = under;
        rest_is = ap (λ (s : Spot). s.rest) moved ∙ (λ i. LettersOf n.0 (fewer i) ∷ left_signs t.later t.rounds)
            ∙ sym (ap (cut_by (at.inside + most)) (run_left n.0 node.len t.later t.rounds));
        open_is = ap (λ (s : Spot). s.open_nodes) moved;
      };
    }
  where
    differs : (a b : ℕ) → a < b → nat_eq a b ≡ false
    differs a b h = grind (arith, tests, h)

    moved : past most spot ≡ spot_of (at.parent.0 ∷ map outer_of t.rounds) (LettersOf n.0 ((node.len - at.inside) - most) ∷ left_signs t.later t.rounds)
    moved = ap (past most) (spot_is spot (at.parent.0 ∷ map outer_of t.rounds) (LettersOf n.0 (node.len - at.inside) ∷ left_signs t.later t.rounds) t.open_is t.rest)
        ∙ past-letters most (node.len - at.inside) n.0 (at.parent.0 ∷ map outer_of t.rounds) (left_signs t.later t.rounds) few

-- and all of them.
pub pass_all : (slots : Slots) (at : Cursor) (n : NodeId) (node : ArenaNode) (most : ℕ) (spot : Spot) → node.len - at.inside ≤ most → InText slots at n node spot →
    IsPassed slots most spot (record { what = Chars n true; count = node.len - at.inside; at = record { parent = at.parent; next = node.after; inside = 0 } })
pass_all slots at n node most spot few t =
    let left = node.len - at.inside in
    let some : 1 ≤ left = omega (arith, t.inside) in
    record {
      some = some;
      few = few;
      first = (left, left_signs t.later t.rounds, t.rest, omega arith, sym (alike left));
      at = subst (IsAt slots (record { parent = at.parent; next = node.after; inside = 0 }))
          (sym (ap (past left) (spot_is spot (at.parent.0 ∷ map outer_of t.rounds) (LettersOf n.0 left ∷ left_signs t.later t.rounds) t.open_is t.rest)
          ∙ past-text left n.0 (at.parent.0 ∷ map outer_of t.rounds) (left_signs t.later t.rounds) some))
          (at_start slots at.parent node.after t.later t.rounds t.behind);
    }
  where
    alike : (a : ℕ) → nat_eq a a ≡ true
    alike a = grind (arith, tests)

-- at some position, the links lead to nodes
pub closing_live : (slots : Slots) (at : Cursor) (count : ℕ) → at.next ≡ None → 1 ≤ count → IsAtSome slots at count → IsLive slots at.parent
closing_live slots at count none some h = by_row h.is_at.row h.is_at.rounds (none_next slots at.parent.0 at.next h.is_at.row none (first_row slots at.parent.0 at.next h.is_at.row h.is_at.rounds h.is_at.rows)) h.is_at.rows h.is_at.rest_is
  where
    by_row : (f : Named) (rs : List Round) → f ≡ NoNode → AreRows slots at.parent.0 at.next f rs → h.spot.rest ≡ cut_by at.inside (left_signs f rs) → IsLive slots at.parent
    by_row (NamedRun n count later) rs e rows rest = absurd (cc)
    by_row (NamedBranch n kind inside later) rs e rows rest = absurd (cc)
    by_row NoNode [] e rows rest = let bad = ap items_in rest in absurd (omega (arith, bad, some, h.enough))
    by_row NoNode (r ∷ rs) e rows rest = rows.1

pub next_live : (slots : Slots) (at : Cursor) (n : NodeId) (count : ℕ) → at.next ≡ Some n → IsAtSome slots at count → IsLive slots n
next_live slots at n count e h = some_live slots at.parent.0 at.next n h.is_at.row e (first_row slots at.parent.0 at.next h.is_at.row h.is_at.rounds h.is_at.rows)

pub or_named : (link : Option NodeId) (d n : NodeId) → n ≡ unwrap_or link d → (q : ℕ) → option_map number_of link ≡ Some q → n.0 ≡ q
or_named None d n e q h = absurd (cc)
or_named (Some m) d n e q h = ap number_of e ∙ same_number m q h

-- a cursor in an arena where every node is as it was
all_same : (old new : Slots) (f : Named) → Keeps old new → Shows old f → AllSame new old (node_numbers f)
all_same old new NoNode k s = tt
all_same old new (NamedRun n count later) k s = (k n (shown_live old (id_of n) n _ _ _ refl s.0), all_same old new later k s.1)
all_same old new (NamedBranch n kind inside later) k s =
    (k n (shown_live old (id_of n) n _ _ _ refl s.0), same-join new old (node_numbers inside) (node_numbers later) (all_same old new inside k s.1) (all_same old new later k s.2))
  where
    same-join : (new old : Slots) (ls rs : List ℕ) → AllSame new old ls → AllSame new old rs → AllSame new old (ls ++ rs)
    same-join new old [] rs l r = r
    same-join new old (n ∷ ls) rs l r = (l.0, same-join new old ls rs l.1 r)

row_still : (old new : Slots) (p : ℕ) (next : Option NodeId) (f : Named) → Keeps old new → IsRowUnder old p next f → IsRowUnder new p next f
row_still old new p next f k r =
    let same = all_same old new f k r.shown in
    record {
      next_is = r.next_is;
      edge = r.edge;
      row = row-same new old p r.edge (heads f) None (same-heads new old f same) r.row;
      shown = shows-same new old f same r.shown;
      runs = r.runs;
    }

rows_still : (old new : Slots) (p : ℕ) (next : Option NodeId) (f : Named) (rs : List Round) → Keeps old new → AreRows old p next f rs → AreRows new p next f rs
rows_still old new p next f [] k h = row_still old new p next f k h
rows_still old new p next f (r ∷ rs) k h = (
  row_still old new p next f k h.0,
  subst IsSome (sym (k p h.1)) h.1,
  λ node here. let outer = h.2 node (sym (k p h.1) ∙ here) in (outer.0, rows_still old new r.outer node.after r.later rs k outer.1),
)

pub at_still : (old new : Slots) (at : Cursor) (spot : Spot) → Keeps old new → IsAt old at spot → IsAt new at spot
at_still old new at spot k h = record {
  row = h.row;
  rounds = h.rounds;
  rows = rows_still old new at.parent.0 at.next h.row h.rounds k h.rows;
  inside = h.inside;
  rest_is = h.rest_is;
  open_is = h.open_is;
}

-- no text comes next
no_letters : (ss rest : List Sign) → rest ≡ ss → NoLetters ss → NoLetters rest
no_letters ss rest e h = subst NoLetters (sym e) h

later_whole : (f : Named) (rs : List Round) → begins_with_run (unnumbered f) ≡ false → NoLetters (left_signs f rs)
later_whole NoNode [] e = tt
later_whole NoNode (r ∷ rs) e = tt
later_whole (NamedRun n count later) rs e = absurd (cc)
later_whole (NamedBranch n kind inside later) [] e = tt
later_whole (NamedBranch n kind inside later) (r ∷ rs) e = tt

pub rest_none : (slots : Slots) (at : Cursor) (spot : Spot) → at.next ≡ None → IsAt slots at spot → IsRestOfText spot 0
rest_none slots at spot none h = record {
  few = omega arith;
  whole = by_row h.row h.rounds (none_next slots at.parent.0 at.next h.row none (first_row slots at.parent.0 at.next h.row h.rounds h.rows)) h.rest_is;
}
  where
    by_row : (f : Named) (rs : List Round) → f ≡ NoNode → spot.rest ≡ cut_by at.inside (left_signs f rs) → NoLetters spot.rest
    by_row (NamedRun n count later) rs e rest = absurd (cc)
    by_row (NamedBranch n kind inside later) rs e rest = absurd (cc)
    by_row NoNode [] e rest = no_letters [] spot.rest rest tt
    by_row NoNode (r ∷ rs) e rest = no_letters (EndOf r.kind ∷ left_signs r.later rs) spot.rest rest tt

pub rest_opening : (slots : Slots) (at : Cursor) (n : NodeId) (node : ArenaNode) (kind : Kind) (spot : Spot) → at.next ≡ Some n → slot_at slots n.0 ≡ Some node → node.what ≡ what.Node kind →
    IsAt slots at spot → IsRestOfText spot 0
rest_opening slots at n node kind spot next here sort h =
    let first = (pass_opening slots at n node kind 1 spot next here sort (omega arith) h).first in record {
      few = omega arith;
      whole = no_letters (BeginOf n.0 first.0 ∷ first.1) spot.rest first.2 tt;
    }

pub rest_letters : (slots : Slots) (at : Cursor) (n : NodeId) (node : ArenaNode) (spot : Spot) → InText slots at n node spot → IsRestOfText spot (node.len - at.inside)
rest_letters slots at n node spot t = record {
  few = let e = ap items_in t.rest in omega (arith, e);
  whole = no_letters (left_signs t.later t.rounds) (past left spot).rest
      (ap (λ (s : Spot). s.rest)
      (ap (past left) (spot_is spot (at.parent.0 ∷ map outer_of t.rounds) (LettersOf n.0 left ∷ left_signs t.later t.rounds) t.open_is t.rest)
      ∙ past-text left n.0 (at.parent.0 ∷ map outer_of t.rounds) (left_signs t.later t.rounds) some))
      (later_whole t.later t.rounds (first_row slots at.parent.0 at.next (NamedRun n.0 node.len t.later) t.rounds t.here).runs.1);
}
  where
    left : ℕ
    left = node.len - at.inside

    some : 1 ≤ node.len - at.inside
    some = omega (arith, t.inside)
