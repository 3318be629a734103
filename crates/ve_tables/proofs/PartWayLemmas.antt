-- How edits are collected one after the other.
use Rattle.std.specs.Prelude.{All, filter, cond, decimal}
use Rattle.std.proofs.lemmas.List.{drop_more, drop_all}
use Rattle.std.proofs.Common.{◌≡◌, ℕ, suc, ◌+◌, ◌≤◌, ◌<◌, Bool, true, false, Some, List, [], ◌∷◌, ◌++◌, length, map, drop, get_or, refl, sym, ap, ◌∙◌, subst, arith, append-nil, append_assoc}
use Rattle.ve_base.specs.declared.value.Value.{Value}
use Rattle.model_items.specs.declared.item.Item.{Item}
use Rattle.model_items.specs.declared.plain_item.PlainItem.{PlainItem}
use Rattle.model_items.specs.Plain.{plain_list, CitesWell}
use Rattle.model_items.specs.Law.{Lawful}
use Rattle.model_items.proofs.VerdictLemmas.{verdict_reads_no_values}
use Rattle.model_edit.specs.declared.grid_cell.GridCell.{GridCell}
use Rattle.model_edit.specs.Edits.{Edit, Change, Set, InOrder}
use Rattle.model_edit_law.proofs.TableFineLemmas.{InOrder-within}
use Rattle.ve_tree.specs.IsTree.{unvalued}
use Rattle.ve_edits.specs.Collected.{Collected, Makes, MakesOneMore, SetsOneMore}
use Rattle.ve_tables.specs.PartWay.{Collects, IsPartWay}

pub lawful_plain : (values : List Value) (items : List Item) → Lawful (unvalued items) → Lawful (plain_list values items)
lawful_plain values items lawful = verdict_reads_no_values values [] items ∙ lawful

module _ (store : List Value) (items : List Item) where
  abbrev pub Gives : List Edit → Collected → Collected → Type 0
  Gives = Collects store items

  abbrev Ordered : ℕ → List Edit → Type 0
  Ordered at edits = InOrder at (length items) edits

  pub nothing : (c : Collected) → Gives [] c c
  nothing c = record { makes = λ done m. subst (λ e. Makes store items e c) (sym (append-nil done)) m; order = λ later h. h }

  pub both : (first second : List Edit) (a b c : Collected) → Gives first a b → Gives second b c → Gives (first ++ second) a c
  both first second a b c g h = record {
    makes = λ done m. subst (λ e. Makes store items e c) (append_assoc done first second) (h.makes (done ++ first) (g.makes done m));
    order = λ later o. h.order later (g.order (second ++ later) (subst (Ordered a.at) (append_assoc first second later) o));
  }

  pub set_gives : (at : ℕ) (name to : List ℕ) (old new : Collected) → new.at ≡ at → SetsOneMore store items at name to old new → Gives (Set at name (Some to) ∷ []) old new
  set_gives at name to old new is sets = record {
    makes = λ done m. sets done m;
    order = λ later o. InOrder-within (suc at) new.at (length items) (length items) later (omega arith) (omega arith) o.1;
  }

  pub change_gives : (at count : ℕ) (inserted : List Item) (old new : Collected) → new.at ≡ at + count → All (CitesWell store) items → All (CitesWell store) inserted →
      MakesOneMore items at count inserted old new → Gives (Change at count (plain_list store inserted) ∷ []) old new
  change_gives at count inserted old new is listed cited one = record {
    makes = λ done m. one store done listed cited m;
    order = λ later o. InOrder-within (at + count) new.at (length items) (length items) later (omega arith) (omega arith) o.1;
  }

  -- ---- of many edits some are collected

  pub way_first : (all : List Edit) (c : Collected) → IsPartWay store items all all c c
  way_first all c = record { done = []; whole = refl; collects = nothing c }

  pub way_next : (all next left : List Edit) (a b c : Collected) → IsPartWay store items all (next ++ left) a b → Gives next b c → IsPartWay store items all left a c
  way_next all next left a b c way g = record { done = way.done ++ next; whole = append_assoc way.done next left ∙ way.whole; collects = both way.done next a b c way.collects g }

  pub way_last : (all : List Edit) (a b : Collected) → IsPartWay store items all [] a b → Gives all a b
  way_last all a b way = subst (λ e. Gives e a b) (sym (append-nil way.done) ∙ way.whole) way.collects

  pub way_order : (all left later : List Edit) (a b : Collected) → IsPartWay store items all left a b → Ordered a.at (all ++ later) → Ordered b.at (left ++ later)
  way_order all left later a b way o =
      way.collects.order (left ++ later) (subst (Ordered a.at) (ap (λ e. e ++ later) (sym way.whole) ∙ append_assoc way.done left later) o)

-- edits in order, without the last ones
ends : (at end : ℕ) (edits : List Edit) → InOrder at end edits → at ≤ end
ends at end [] h = h
ends at end (Change place count inserted ∷ edits) h = let a = h.0 in let b = ends (place + count) end edits h.1 in omega arith
ends at end (Set place name to ∷ edits) h = let a = h.0 in let b = ends (suc place) end edits h.1 in omega arith

pub order_first : (at end : ℕ) (first later : List Edit) → InOrder at end (first ++ later) → InOrder at end first
order_first at end [] later h = ends at end later h
order_first at end (Change place count inserted ∷ first) later h = (h.0, order_first (place + count) end first later h.1)
order_first at end (Set place name to ∷ first) later h = (h.0, order_first (suc place) end first later h.1)

-- where a set stands, it stands in the list
pub set_within : (at end place : ℕ) (name : List ℕ) (to : _) (later : List Edit) → InOrder at end (Set place name to ∷ later) → suc place ≤ end
set_within at end place name to later h = ends (suc place) end later h.1

pub change_within : (at end place count : ℕ) (inserted : List PlainItem) (later : List Edit) → InOrder at end (Change place count inserted ∷ later) → place + count ≤ end
change_within at end place count inserted later h = ends (place + count) end later h.1

-- ---- edits of the cells of which a test holds

pub picked : {A : Type 0} (test : GridCell → Bool) (f : GridCell → A) (cell : GridCell) (cells : List GridCell) → test cell ≡ true → map f (filter test (cell ∷ cells)) ≡ f cell ∷ map f (filter test cells)
picked test f cell cells h = ap (λ b. map f (cond b (cell ∷ filter test cells) (filter test cells))) h

pub not_picked : {A : Type 0} (test : GridCell → Bool) (f : GridCell → A) (cell : GridCell) (cells : List GridCell) → test cell ≡ false → map f (filter test (cell ∷ cells)) ≡ map f (filter test cells)
not_picked test f cell cells h = ap (λ b. map f (cond b (cell ∷ filter test cells) (filter test cells))) h

abbrev pub no_cell : GridCell
no_cell = record { at = 0; row = 0; column = 0; rows = 0; columns = 0 }

-- A cell of a loop over cells that are borrowed, of which those that pass have an edit each.
module _ (store : List Value) (items : List Item) (test : GridCell → Bool) (f : GridCell → Edit) (cells lent : List GridCell) (i begun : ℕ) (a b : Collected) (are : lent ≡ cells) (first : a.at ≡ begun) where
  abbrev pub all_edits : List GridCell → List Edit
  all_edits cells = map f (filter test cells)

  ordered : (later : List Edit) → InOrder begun (length items) (all_edits cells ++ later) → InOrder a.at (length items) (all_edits lent ++ later)
  ordered later o =
      subst (λ (n : ℕ). InOrder n (length items) (all_edits lent ++ later)) (sym first) (subst (λ (l : List GridCell). InOrder begun (length items) (all_edits l ++ later)) (sym are) o)

  module _ (inside : i < length lent) (passes : test (get_or lent i no_cell) ≡ true) (way : IsPartWay store items (all_edits lent) (all_edits (drop i lent)) a b) where
    next_is : all_edits (drop i lent) ≡ f (get_or lent i no_cell) ∷ all_edits (drop (i + 1) lent)
    next_is = ap all_edits (drop_more lent i no_cell inside) ∙ picked test f (get_or lent i no_cell) (drop (i + 1) lent) passes

    -- the positions of its edit and of those after it
    pub here_order : (later : List Edit) → InOrder begun (length items) (all_edits cells ++ later) → InOrder b.at (length items) (f (get_or lent i no_cell) ∷ (all_edits (drop (i + 1) lent) ++ later))
    here_order later o =
        subst (λ (l : List Edit). InOrder b.at (length items) (l ++ later)) next_is (way_order store items (all_edits lent) (all_edits (drop i lent)) later a b way (ordered later o))

    -- its edit is collected
    pub here_next : (c : Collected) → Collects store items (f (get_or lent i no_cell) ∷ []) b c → IsPartWay store items (all_edits lent) (all_edits (drop (i + 1) lent)) a c
    here_next c g =
        way_next store items (all_edits lent) (f (get_or lent i no_cell) ∷ []) (all_edits (drop (i + 1) lent)) a b c (subst (λ l. IsPartWay store items (all_edits lent) l a b) next_is way) g

  module _ (past : length lent ≤ i) (way : IsPartWay store items (all_edits lent) (all_edits (drop i lent)) a b) where
    none_left : all_edits (drop i lent) ≡ []
    none_left = ap all_edits (drop_all i lent past)

    pub done_order : (later : List Edit) → InOrder begun (length items) (all_edits cells ++ later) → InOrder b.at (length items) later
    done_order later o =
        subst (λ (l : List Edit). InOrder b.at (length items) (l ++ later)) none_left (way_order store items (all_edits lent) (all_edits (drop i lent)) later a b way (ordered later o))

    pub all_done : Collects store items (all_edits cells) a b
    all_done =
        subst (λ (l : List GridCell). Collects store items (all_edits l) a b) are
        (way_last store items (all_edits lent) a b (subst (λ l. IsPartWay store items (all_edits lent) l a b) none_left way))

-- the same set, as it is said
pub set_as : (store : List Value) (items : List Item) (at : ℕ) (name name' : List ℕ) (n n' : ℕ) (a b : Collected) → name ≡ name' → n ≡ n' →
    Collects store items (Set at name (Some (decimal n)) ∷ []) a b → Collects store items (Set at name' (Some (decimal n')) ∷ []) a b
set_as store items at name name' n n' a b same equal g =
    subst (λ (m : ℕ). Collects store items (Set at name' (Some (decimal m)) ∷ []) a b) equal (subst (λ (l : List ℕ). Collects store items (Set at l (Some (decimal n)) ∷ []) a b) same g)

-- the transaction of what is collected from the first position on
pub finished_as : (store : List Value) (items : List Item) (edits : List Edit) (a b : Collected) → Collects store items edits a b → Makes store items [] a → Makes store items edits b
finished_as store items edits a b g none = g.makes [] none

-- an edit after others
pub and_change : (store : List Value) (items : List Item) (edits : List Edit) (at count : ℕ) (inserted : List Item) (a b c : Collected) → Collects store items edits a b → c.at ≡ at + count →
    All (CitesWell store) items → All (CitesWell store) inserted → MakesOneMore items at count inserted b c → Collects store items (edits ++ Change at count (plain_list store inserted) ∷ []) a c
and_change store items edits at count inserted a b c g is listed cited one =
    both store items edits (Change at count (plain_list store inserted) ∷ []) a b c g (change_gives store items at count inserted b c is listed cited one)
