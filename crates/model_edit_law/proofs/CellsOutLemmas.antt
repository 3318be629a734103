-- Cells taken out of a list and cells of which the width is set: where the other nodes stand then.
use Rattle.std.specs.Prelude.{filter_map, codes, decimal}
use Rattle.std.specs.List.{cons_option}
use Rattle.std.proofs.Common.{◌≡◌, ◌⊎◌, inl, inr, ℕ, zero, suc, ◌+◌, ◌-◌, ◌<◌, ◌≤◌, ◌==◌, Bool, true, false, if◌then◌else◌, nat_lt, List, [], ◌∷◌, ◌++◌, length, map, take, drop, Option, Some, None, refl, sym, ap, ◌∙◌, subst, arith, length-drop}
use Rattle.std.proofs.lemmas.Bool.{ltb-true, ltb-false, lt-ltb}
use Rattle.std.proofs.lemmas.List.{take-append-drop, length-take-le}
use Rattle.std.proofs.Math.Seq.{drop-append-add}
use Rattle.ve_kinds.specs.declared.kind.Kind.{Kind}
use Rattle.model_items.specs.declared.plain_item.PlainItem.{PlainItem}
use Rattle.model_items.specs.declared.plain_item.PlainItem.TheVariants.{Char, Opening, Closing}
use Rattle.model_items.specs.Law.{Lawful}
use Rattle.model_items.specs.Tree.{Open, length_to_close}
use Rattle.model_change.specs.Attributes.{item_changed}
use Rattle.model_change.specs.Transaction.{on_first}
use Rattle.model_items.specs.Offsets.{end_of_node, siblings}
use Rattle.model_edit.specs.Edits.{Edit, setting, substituted_from, InOrder}
use Rattle.model_edit.specs.declared.grid_cell.GridCell.{GridCell}
use Rattle.model_edit.specs.Tables.{set_columns, whole_node, cell_removed}
use Rattle.model_edit_law.proofs.EditLemmas.{drop-on_first, length-on_first}
use Rattle.model_edit_law.proofs.BracketLemmas.{node_parts}
use Rattle.model_edit_law.proofs.TablePlaceLemmas.{Opens, Chain, Chain-ends, cell_kinds, cell_at}
use Rattle.model_edit_law.proofs.TableFineLemmas.{drop_twice, drop_at, InOrder-within, col_out_order}
use Rattle.model_edit_law.proofs.TableGrowLemmas.{skip_first}
use Rattle.model_edit_law.proofs.SiblingLemmas.{siblings-shapes, nodes_in, no_less, node_without, after_moved, passed}
use Rattle.model_edit_law.proofs.TableSetLemmas.{shapes_first}

-- what a walk finds is at or after where it begins
siblings_alike : (f g : Open → Option Open) (d at : ℕ) (list : List PlainItem) → ((o : Open) → at ≤ o.from → f o ≡ g o) → filter_map f (siblings d at list) ≡ filter_map g (siblings d at list)
siblings_alike f g d at [] h = refl
siblings_alike f g d at (Char c marks ∷ list) h = siblings_alike f g d (suc at) list (λ o l. h o (omega arith))
siblings_alike f g zero at (Opening kind head marks pre origin generated ∷ list) h =
    (λ i. cons_option (h (record { kind = kind; from = at }) (omega arith) i) (siblings_alike f g 1 (suc at) list (λ o l. h o (omega arith)) i))
siblings_alike f g (suc d) at (Opening kind head marks pre origin generated ∷ list) h = siblings_alike f g (suc (suc d)) (suc at) list (λ o l. h o (omega arith))
siblings_alike f g zero at (Closing kind pre ∷ list) h = refl
siblings_alike f g (suc d) at (Closing kind pre ∷ list) h = siblings_alike f g d (suc at) list (λ o l. h o (omega arith))

abbrev slid : (s : ℕ) → Open → Option Open
slid s o = Some (record { kind = o.kind; from = o.from - s })

moved_all : (d q q' s : ℕ) (list : List PlainItem) → q' + s ≡ q → siblings d q' list ≡ filter_map (slid s) (siblings d q list)
moved_all d q q' s list e =
    after_moved 0 s d q' q list (omega arith) (sym e)
    ∙ siblings_alike (node_without 0 s) (slid s) d q list (λ o l. ap (λ b. if b then Some o else (if nat_lt o.from (0 + s) then None else slid s o)) (no_less o.from 0 (omega arith))
    ∙ ap (λ b. if b then None else slid s o) (no_less o.from (0 + s) (omega arith)))

-- a prefix that stays before what is known at each depth
prefix_walk : (f : Open → Option Open) (s p : ℕ) (old new : List PlainItem) → ((d : ℕ) → siblings d (p - s) new ≡ filter_map f (siblings d p old)) →
    ((kind : Kind) (a : ℕ) → a < p → f (record { kind = kind; from = a }) ≡ Some (record { kind = kind; from = a - s })) →
    (prefix : List PlainItem) (d q q' : ℕ) → q + length prefix ≡ p → q' + s ≡ q → siblings d q' (prefix ++ new) ≡ filter_map f (siblings d q (prefix ++ old))
prefix_walk f s p old new seam before [] d q q' e w =
    (let z : p ≡ q = omega arith in let y : p - s ≡ q' = omega arith in ap (λ m. siblings d m new) (sym y) ∙ seam d ∙ ap (λ m. filter_map f (siblings d m old)) z)
prefix_walk f s p old new seam before (Char c marks ∷ prefix) d q q' e w = prefix_walk f s p old new seam before prefix d (suc q) (suc q') (omega arith) (omega arith)
prefix_walk f s p old new seam before (Opening kind head marks pre origin generated ∷ prefix) zero q q' e w =
    let z : q' ≡ q - s = omega arith in
    (λ i. record { kind = kind; from = z i } ∷ prefix_walk f s p old new seam before prefix 1 (suc q) (suc q') (omega arith) (omega arith) i)
    ∙ ap (λ o. cons_option o (filter_map f (siblings 1 (suc q) (prefix ++ old)))) (sym (before kind q (omega arith)))
prefix_walk f s p old new seam before (Opening kind head marks pre origin generated ∷ prefix) (suc d) q q' e w =
    prefix_walk f s p old new seam before prefix (suc (suc d)) (suc q) (suc q') (omega arith) (omega arith)
prefix_walk f s p old new seam before (Closing kind pre ∷ prefix) zero q q' e w = refl
prefix_walk f s p old new seam before (Closing kind pre ∷ prefix) (suc d) q q' e w = prefix_walk f s p old new seam before prefix d (suc q) (suc q') (omega arith) (omega arith)

-- edits after leave the prefix
pub substituted_drop : (k q end : ℕ) (list : List PlainItem) (edits : List Edit) → InOrder (q + k) end edits → k ≤ length list →
    drop k (substituted_from q list edits) ≡ substituted_from (q + k) (drop k list) edits
substituted_drop zero q end list edits h l = (let z : q ≡ q + 0 = omega arith in ap (λ m. substituted_from m list edits) z)
substituted_drop (suc k) q end [] edits h l = absurd (omega arith)
substituted_drop (suc k) q end (x ∷ list) edits h l =
    let z : q + suc k ≡ suc q + k = omega arith in
    let y : suc q + k ≡ q + suc k = omega arith in
    ap (drop (suc k)) (skip_first edits q end x list (InOrder-within (q + suc k) (suc q) end end edits (omega arith) (omega arith) h))
    ∙ substituted_drop k (suc q) end list edits (subst (λ m. InOrder m end edits) z h) (omega arith)
    ∙ ap (λ m. substituted_from m (drop k list) edits) y

-- the node at the position where it goes
abbrev pub node_to : Kind → Option ℕ → Option Open
node_to kind None = None
node_to kind (Some b) = Some (record { kind = kind; from = b })

module _ (items : List PlainItem) where
  abbrev pub edits_of : List GridCell → List Edit
  edits_of cells = map (cell_removed items) cells

  abbrev pub size : GridCell → ℕ
  size c = end_of_node items c.at - c.at

  -- where a position is afterwards, `s` items before it having gone already
  abbrev pub fate : ℕ → List GridCell → ℕ → Option ℕ
  fate s [] a = Some (a - s)
  fate s (c ∷ cells) a =
      if c.columns == 1 then (if nat_lt a c.at then Some (a - s) else (if nat_lt a (end_of_node items c.at) then None else fate (s + size c) cells a)) else fate s cells a

  abbrev pub node_fate : ℕ → List GridCell → Open → Option Open
  node_fate s cells o = node_to o.kind (fate s cells o.from)

  abbrev pub Cells : (low high : ℕ) → List GridCell → Type 0
  Cells low high cells = Chain cell_at items cell_kinds low high cells

  pub fate_narrow : (s : ℕ) (c : GridCell) (cells : List GridCell) (a : ℕ) → (c.columns == 1) ≡ true → a < c.at → fate s (c ∷ cells) a ≡ Some (a - s)
  fate_narrow s c cells a e l =
      ap (λ b. if b then (if nat_lt a c.at then Some (a - s) else (if nat_lt a (end_of_node items c.at) then None else fate (s + size c) cells a)) else fate s cells a) e
      ∙ ap (λ b. if b then Some (a - s) else (if nat_lt a (end_of_node items c.at) then None else fate (s + size c) cells a)) (lt-ltb a c.at l)

  pub fate_past : (s : ℕ) (c : GridCell) (cells : List GridCell) (a : ℕ) → (c.columns == 1) ≡ true → c.at ≤ a → end_of_node items c.at ≤ a → fate s (c ∷ cells) a ≡ fate (s + size c) cells a
  fate_past s c cells a e l m =
      ap (λ b. if b then (if nat_lt a c.at then Some (a - s) else (if nat_lt a (end_of_node items c.at) then None else fate (s + size c) cells a)) else fate s cells a) e
      ∙ ap (λ b. if b then Some (a - s) else (if nat_lt a (end_of_node items c.at) then None else fate (s + size c) cells a)) (no_less a c.at l)
      ∙ ap (λ b. if b then None else fate (s + size c) cells a) (no_less a (end_of_node items c.at) m)

  pub fate_itself : (s : ℕ) (c : GridCell) (cells : List GridCell) → (c.columns == 1) ≡ true → c.at < end_of_node items c.at → fate s (c ∷ cells) c.at ≡ None
  fate_itself s c cells e l =
      ap (λ b. if b then (if nat_lt c.at c.at then Some (c.at - s) else (if nat_lt c.at (end_of_node items c.at) then None else fate (s + size c) cells c.at)) else fate s cells c.at) e
      ∙ ap (λ b. if b then Some (c.at - s) else (if nat_lt c.at (end_of_node items c.at) then None else fate (s + size c) cells c.at)) (no_less c.at c.at (omega arith))
      ∙ ap (λ b. if b then None else fate (s + size c) cells c.at) (lt-ltb c.at (end_of_node items c.at) l)

  pub fate_wide : (s : ℕ) (c : GridCell) (cells : List GridCell) (a : ℕ) → (c.columns == 1) ≡ false → fate s (c ∷ cells) a ≡ fate s cells a
  fate_wide s c cells a e =
      ap (λ b. if b then (if nat_lt a c.at then Some (a - s) else (if nat_lt a (end_of_node items c.at) then None else fate (s + size c) cells a)) else fate s cells a) e

  pub fate_before : (cells : List GridCell) (low high s a : ℕ) → Cells low high cells → a < low → fate s cells a ≡ Some (a - s)
  fate_before [] low high s a c l = refl
  fate_before (x ∷ cells) low high s a c l = by (x.columns == 1) refl (fate_before cells (end_of_node items x.at) high s a c.2 (let p = c.0 in let q = (c.1.2).ahead in omega arith))
    where
      by : (b : Bool) → (x.columns == 1) ≡ b → fate s cells a ≡ Some (a - s) → fate s (x ∷ cells) a ≡ Some (a - s)
      by true e next = let p = c.0 in fate_narrow s x cells a e (omega arith)
      by false e next = fate_wide s x cells a e ∙ next

  -- from a position of the chain on, the list is the old one
  abbrev pub Tail : (low q : ℕ) → List PlainItem → Type 0
  Tail low q list = (k : ℕ) → low ≤ q + k → drop k list ≡ drop (q + k) items

  abbrev pub narrowed : GridCell → List PlainItem → List PlainItem
  narrowed c rest = on_first (item_changed (setting (codes "colspan") (Some (decimal (c.columns - 1))) rest)) rest

  pub one_gone : (c : GridCell) (cells : List GridCell) (q : ℕ) (list : List PlainItem) → (c.columns == 1) ≡ true →
      substituted_from q list (edits_of (c ∷ cells)) ≡ take (c.at - q) list ++ substituted_from (c.at + size c) (drop (size c) (drop (c.at - q) list)) (edits_of cells)
  one_gone c cells q list e = ap (λ b. substituted_from q list ((if b then whole_node items c.at else set_columns (c.columns - 1) c) ∷ edits_of cells)) e

  pub one_set : (c : GridCell) (cells : List GridCell) (q : ℕ) (list : List PlainItem) → (c.columns == 1) ≡ false →
      substituted_from q list (edits_of (c ∷ cells)) ≡ take (c.at - q) list ++ substituted_from c.at (narrowed c (drop (c.at - q) list)) (edits_of cells)
  one_set c cells q list e = ap (λ b. substituted_from q list ((if b then whole_node items c.at else set_columns (c.columns - 1) c) ∷ edits_of cells)) e

  -- what holds where one cell has been dealt with
  pub tail_gone : (c : GridCell) (low q : ℕ) (list : List PlainItem) → q ≤ low → low ≤ c.at → c.at + size c ≡ end_of_node items c.at → Tail low q list →
      Tail (end_of_node items c.at) (c.at + size c) (drop (size c) (drop (c.at - q) list))
  tail_gone c low q list l m w tail k h =
      let j = (c.at - q) + (size c + k) in
      let z : q + j ≡ c.at + size c + k = omega arith in
      drop_twice k (size c) (size c + k) (drop (c.at - q) list) refl ∙ drop_twice (size c + k) (c.at - q) j list refl ∙ tail j (omega arith) ∙ ap (λ n. drop n items) z

  pub tail_set : (c : GridCell) (low q : ℕ) (list : List PlainItem) → q ≤ low → low ≤ c.at → c.at < end_of_node items c.at → Tail low q list →
      Tail (end_of_node items c.at) c.at (narrowed c (drop (c.at - q) list))
  tail_set c low q list l m w tail k h =
      let rest = drop (c.at - q) list in
      let z : q + ((c.at - q) + k) ≡ c.at + k = omega arith in
      drop-on_first (item_changed (setting (codes "colspan") (Some (decimal (c.columns - 1))) rest)) k rest (omega arith)
      ∙ drop_twice k (c.at - q) ((c.at - q) + k) list refl ∙ tail ((c.at - q) + k) (omega arith) ∙ ap (λ n. drop n items) z

  pub long_gone : (c : GridCell) (q high : ℕ) (list : List PlainItem) → q ≤ c.at → c.at + size c ≤ high → high ≤ q + length list →
      high ≤ (c.at + size c) + length (drop (size c) (drop (c.at - q) list))
  long_gone c q high list l m fit = omega (arith, length-drop (size c) (drop (c.at - q) list), length-drop (c.at - q) list)

  pub long_set : (c : GridCell) (q high : ℕ) (list : List PlainItem) → q ≤ c.at → c.at ≤ high → high ≤ q + length list → high ≤ c.at + length (narrowed c (drop (c.at - q) list))
  long_set c q high list l m fit =
      let rest = drop (c.at - q) list in
      omega (arith, length-on_first (item_changed (setting (codes "colspan") (Some (decimal (c.columns - 1))) rest)) rest, length-drop (c.at - q) list)

  module _ (lawful : Lawful items) where
    -- a cell's node is passed, and what is found is of what follows
    node_skipped : (f : Open → Option Open) (kind : Kind) (c : GridCell) → Opens items kind c.at → (d : ℕ) → f (record { kind = kind; from = c.at }) ≡ None →
        filter_map f (siblings d c.at (drop c.at items)) ≡ filter_map f (siblings d (c.at + size c) (drop (c.at + size c) items))
    node_skipped f kind c o d none =
        let x = Opening kind o.head o.marks o.pre o.origin o.generated in
        let np = node_parts items c.at kind o.head o.marks o.pre o.origin o.generated lawful o.here in
        let p = np.closed in
        let far = np.its_partner in
        let list : drop c.at items ≡ x ∷ (p.inside ++ Closing kind p.pre ∷ p.rest) = drop_at items c.at x o.here ∙ ap (λ v. x ∷ v) p.whole in
        let rest : drop (c.at + size c) items ≡ p.rest =
        sym (drop_twice (length p.inside + 1) (suc c.at) (c.at + size c) items (omega arith)) ∙ ap (drop (length p.inside + 1)) p.whole ∙ drop-append-add p.inside (Closing kind p.pre ∷ p.rest) 1 in
        let place : c.at + size c ≡ suc c.at + suc (length p.inside) = omega arith in
        ap (λ v. filter_map f (siblings d c.at v)) list
        ∙ over p.inside p.pre p.rest p.ends place d
        ∙ ap (λ v. filter_map f (siblings d (c.at + size c) v)) (sym rest)
      where
        over : (inside : List PlainItem) (white : List ℕ) (rest : List PlainItem) → ((other : List PlainItem) → length_to_close 0 (inside ++ Closing kind white ∷ other) ≡ suc (length inside)) →
            c.at + size c ≡ suc c.at + suc (length inside) → (d : ℕ) →
            filter_map f (siblings d c.at (Opening kind o.head o.marks o.pre o.origin o.generated ∷ (inside ++ Closing kind white ∷ rest))) ≡ filter_map f (siblings d (c.at + size c) rest)
        over inside white rest ends place zero =
            ap (λ r. cons_option r (filter_map f (siblings 1 (suc c.at) (inside ++ Closing kind white ∷ rest)))) none
            ∙ ap (filter_map f) (passed kind white rest inside 0 0 (suc c.at) (c.at + size c) ends place)
        over inside white rest ends place (suc d) =
            let z : suc (suc d) ≡ suc (0 + suc d) = omega arith in
            ap (λ m. filter_map f (siblings m (suc c.at) (inside ++ Closing kind white ∷ rest))) z
            ∙ ap (filter_map f) (passed kind white rest inside 0 (suc d) (suc c.at) (c.at + size c) ends place)

    pub walk_all : (cells : List GridCell) (low high s q q' : ℕ) (list : List PlainItem) → Cells low high cells → q ≤ low → q' + s ≡ q → high ≤ q + length list → Tail low q list → (d : ℕ) →
        siblings d q' (substituted_from q list (edits_of cells)) ≡ filter_map (node_fate s cells) (siblings d q list)
    walk_all [] low high s q q' list h l e fit tail d = moved_all d q q' s list e
    walk_all (c ∷ cells) low high s q q' list h l e fit tail d =
        let a = h.0 in
        let b = (h.1.2).ahead in
        let far = Chain-ends cell_at items cell_kinds (end_of_node items c.at) high cells h.2 in
        let rest = drop (c.at - q) list in
        let n = size c in
        by (c.columns == 1) refl
        (walk_all cells (end_of_node items c.at) high (s + n) (c.at + n) (c.at - s) (drop n rest) h.2 (omega arith) (omega arith) (long_gone c q high list (omega arith) (omega arith) fit)
        (tail_gone c low q list l a (omega arith) tail))
        (walk_all cells (end_of_node items c.at) high s c.at (c.at - s) (narrowed c rest) h.2 (omega arith) (omega arith) (long_set c q high list (omega arith) (omega arith) fit)
        (tail_set c low q list l a (omega arith) tail))
      where
        rest : List PlainItem
        rest = drop (c.at - q) list

        f : Open → Option Open
        f o = node_fate s (c ∷ cells) o

        before : (kind : Kind) (a : ℕ) → a < c.at → f (record { kind = kind; from = a }) ≡ Some (record { kind = kind; from = a - s })
        before kind a l' = ap (node_to kind) (fate_before (c ∷ cells) c.at high s a (omega arith, h.1, h.2) l')

        whole : (new : List PlainItem) → ((d : ℕ) → siblings d (c.at - s) new ≡ filter_map f (siblings d c.at rest)) → siblings d q' (take (c.at - q) list ++ new) ≡ filter_map f (siblings d q list)
        whole new seam =
            let a = h.0 in
            let b = (h.1.2).ahead in
            let far = Chain-ends cell_at items cell_kinds (end_of_node items c.at) high cells h.2 in
            let cut : length (take (c.at - q) list) ≡ c.at - q = length-take-le (c.at - q) list (omega arith) in
            prefix_walk f s c.at rest new seam before (take (c.at - q) list) d q q' (omega arith) e
            ∙ ap (λ v. filter_map f (siblings d q v)) (take-append-drop (c.at - q) list)

        by : (b : Bool) → (c.columns == 1) ≡ b →
            ((d : ℕ) → siblings d (c.at - s) (substituted_from (c.at + size c) (drop (size c) rest) (edits_of cells)) ≡ filter_map (node_fate (s + size c) cells) (siblings d (c.at + size c) (drop (size c) rest))) →
            ((d : ℕ) → siblings d (c.at - s) (substituted_from c.at (narrowed c rest) (edits_of cells)) ≡ filter_map (node_fate s cells) (siblings d c.at (narrowed c rest))) →
            siblings d q' (substituted_from q list (edits_of (c ∷ cells))) ≡ filter_map f (siblings d q list)
        by true t gone set =
            let a = h.0 in
            let b = (h.1.2).ahead in
            let z : q + (c.at - q) ≡ c.at = omega arith in
            let y : c.at + size c ≡ end_of_node items c.at = omega arith in
            let here : rest ≡ drop c.at items = tail (c.at - q) (omega arith) ∙ ap (λ k. drop k items) z in
            let there : drop (size c) rest ≡ drop (c.at + size c) items = ap (drop (size c)) here ∙ drop_twice (size c) c.at (c.at + size c) items refl in
            let none : f (record { kind = h.1.0; from = c.at }) ≡ None = ap (node_to (h.1.0)) (fate_itself s c cells t (omega arith)) in
            ap (siblings d q') (one_gone c cells q list t)
            ∙ whole (substituted_from (c.at + size c) (drop (size c) rest) (edits_of cells))
            (λ d'. gone d'
            ∙ siblings_alike (node_fate (s + size c) cells) f d' (c.at + size c) (drop (size c) rest) (λ o l'. ap (node_to o.kind) (sym (fate_past s c cells o.from t (omega arith) (omega arith))))
            ∙ ap (λ v. filter_map f (siblings d' (c.at + size c) v)) there
            ∙ sym (node_skipped f (h.1.0) c (h.1.2) d' none)
            ∙ ap (λ v. filter_map f (siblings d' c.at v)) (sym here))
        by false t gone set =
            ap (siblings d q') (one_set c cells q list t)
            ∙ whole (substituted_from c.at (narrowed c rest) (edits_of cells))
            (λ d'. set d'
            ∙ ap (filter_map (node_fate s cells)) (siblings-shapes d' c.at (narrowed c rest) ∙ ap (nodes_in d' c.at) (shapes_first (setting (codes "colspan") (Some (decimal (c.columns - 1))) rest) rest) ∙ sym (siblings-shapes d' c.at rest))
            ∙ siblings_alike (node_fate s cells) f d' c.at rest (λ o l'. ap (node_to o.kind) (sym (fate_wide s c cells o.from t))))

    -- a position that lies in none of the cells
    abbrev pub Clear : ℕ → List GridCell → Type 0
    Clear a [] = Unit {0}
    Clear a (c ∷ cells) = ((a < c.at) ⊎ (end_of_node items c.at ≤ a)) × Clear a cells

    pub fate_low : (cells : List GridCell) (low high s q' a b : ℕ) → Cells low high cells → q' + s ≤ low → q' + s ≤ a → fate s cells a ≡ Some b → q' ≤ b
    fate_low [] low high s q' a b h l m e = (let z : a - s ≡ b = cc in omega arith)
    fate_low (c ∷ cells) low high s q' a b h l m e =
        by (c.columns == 1) refl (nat_lt a c.at) refl (nat_lt a (end_of_node items c.at)) refl
        (λ w k. fate_low cells (end_of_node items c.at) high (s + size c) q' a b h.2 (let x = h.0 in let y = (h.1.2).ahead in omega arith) w k)
        (λ k. fate_low cells (end_of_node items c.at) high s q' a b h.2 (let x = h.0 in let y = (h.1.2).ahead in omega arith) m k)
      where
        by : (x : Bool) → (c.columns == 1) ≡ x → (y : Bool) → nat_lt a c.at ≡ y → (z : Bool) → nat_lt a (end_of_node items c.at) ≡ z →
            (q' + (s + size c) ≤ a → fate (s + size c) cells a ≡ Some b → q' ≤ b) → (fate s cells a ≡ Some b → q' ≤ b) → q' ≤ b
        by false t y u z w gone set = set (sym (fate_wide s c cells a t) ∙ e)
        by true t true u z w gone set = (let k : ◌≡◌ {A = Option ℕ} (Some (a - s)) (Some b) = sym (fate_narrow s c cells a t (ltb-true a c.at u)) ∙ e in let v : a - s ≡ b = cc in omega arith)
        by true t false u true w gone set =
            absurd (let k : ◌≡◌ {A = Option ℕ} None (Some b) =
            sym (ap (λ b. if b then (if nat_lt a c.at then Some (a - s) else (if nat_lt a (end_of_node items c.at) then None else fate (s + size c) cells a)) else fate s cells a) t
            ∙ ap (λ b. if b then Some (a - s) else (if nat_lt a (end_of_node items c.at) then None else fate (s + size c) cells a)) u
            ∙ ap (λ b. if b then None else fate (s + size c) cells a) w) ∙ e in cc)
        by true t false u false w gone set =
            let v = ltb-false a c.at u in
            let v' = ltb-false a (end_of_node items c.at) w in
            let x = h.0 in
            let y = (h.1.2).ahead in
            gone (omega arith) (sym (fate_past s c cells a t v v') ∙ e)

    pub some_is : (m n : ℕ) → ◌≡◌ {A = Option ℕ} (Some m) (Some n) → m ≡ n
    some_is m n e = cc

    -- In a node that stays stand the nodes that stay.
    pub children_fate : (cells : List GridCell) (low high s q q' : ℕ) (list : List PlainItem) (a b : ℕ) → Cells low high cells → q ≤ low → q' + s ≡ q → high ≤ q + length list → Tail low q list →
        q ≤ a → a < q + length list → Clear a cells → fate s cells a ≡ Some b →
        siblings 0 (suc b) (drop (suc b - q') (substituted_from q list (edits_of cells))) ≡ filter_map (node_fate s cells) (siblings 0 (suc a) (drop (suc a - q) list))
    children_fate [] low high s q q' list a b h l e fit tail m room clear f =
        let z : a - s ≡ b = some_is (a - s) b f in
        let y : suc b - q' ≡ suc a - q = omega arith in
        ap (λ k. siblings 0 (suc b) (drop k list)) y ∙ moved_all 0 (suc a) (suc b) s (drop (suc a - q) list) (omega arith)
    children_fate (c ∷ cells) low high s q q' list a b h l e fit tail m room clear f =
        by (c.columns == 1) refl clear.0
        (λ v g. let a0 = h.0 in let b0 = (h.1.2).ahead in let far = Chain-ends cell_at items cell_kinds (end_of_node items c.at) high cells h.2 in
        children_fate cells (end_of_node items c.at) high (s + size c) (c.at + size c) (c.at - s) (drop (size c) (drop (c.at - q) list)) a b h.2 (omega arith) (omega arith)
        (long_gone c q high list (omega arith) (omega arith) fit) (tail_gone c low q list l a0 (omega arith) tail) (omega arith)
        (omega (arith, length-drop (size c) (drop (c.at - q) list), length-drop (c.at - q) list)) clear.1 g)
        (λ v g. let a0 = h.0 in let b0 = (h.1.2).ahead in let far = Chain-ends cell_at items cell_kinds (end_of_node items c.at) high cells h.2 in
        children_fate cells (end_of_node items c.at) high s c.at (c.at - s) (narrowed c (drop (c.at - q) list)) a b h.2 (omega arith) (omega arith)
        (long_set c q high list (omega arith) (omega arith) fit) (tail_set c low q list l a0 (omega arith) tail) (omega arith)
        (let w = long_set c q (q + length list) list (omega arith) (omega arith) (omega arith) in omega arith) clear.1 g)
        (λ g. fate_low cells (end_of_node items c.at) high (s + size c) (c.at - s) a b h.2 (let a0 = h.0 in let b0 = (h.1.2).ahead in omega arith) g)
        (λ g. fate_low cells (end_of_node items c.at) high s (c.at - s) a b h.2 (let a0 = h.0 in let b0 = (h.1.2).ahead in omega arith) g)
      where
        rest : List PlainItem
        rest = drop (c.at - q) list

        Y : List PlainItem
        Y = substituted_from (c.at + size c) (drop (size c) rest) (edits_of cells)

        Y' : List PlainItem
        Y' = substituted_from c.at (narrowed c rest) (edits_of cells)

        cut : length (take (c.at - q) list) ≡ c.at - q
        cut =
            let a0 = h.0 in
            let b0 = (h.1.2).ahead in
            let far = Chain-ends cell_at items cell_kinds (end_of_node items c.at) high cells h.2 in length-take-le (c.at - q) list (omega arith)

        skip : (new : List PlainItem) → c.at - s ≤ b → drop (suc b - q') (take (c.at - q) list ++ new) ≡ drop (suc b - (c.at - s)) new
        skip new l' =
            let a0 = h.0 in
            let z : suc b - q' ≡ length (take (c.at - q) list) + (suc b - (c.at - s)) = omega (arith, cut) in
            ap (λ k. drop k (take (c.at - q) list ++ new)) z ∙ drop-append-add (take (c.at - q) list) new (suc b - (c.at - s))

        by : (x : Bool) → (c.columns == 1) ≡ x → (a < c.at) ⊎ (end_of_node items c.at ≤ a) →
            (end_of_node items c.at ≤ a → fate (s + size c) cells a ≡ Some b →
            siblings 0 (suc b) (drop (suc b - (c.at - s)) Y) ≡ filter_map (node_fate (s + size c) cells) (siblings 0 (suc a) (drop (suc a - (c.at + size c)) (drop (size c) rest)))) →
            (end_of_node items c.at ≤ a → fate s cells a ≡ Some b →
            siblings 0 (suc b) (drop (suc b - (c.at - s)) Y') ≡ filter_map (node_fate s cells) (siblings 0 (suc a) (drop (suc a - c.at) (narrowed c rest)))) →
            ((c.at - s) + (s + size c) ≤ a → fate (s + size c) cells a ≡ Some b → c.at - s ≤ b) → ((c.at - s) + s ≤ a → fate s cells a ≡ Some b → c.at - s ≤ b) →
            siblings 0 (suc b) (drop (suc b - q') (substituted_from q list (edits_of (c ∷ cells)))) ≡ filter_map (node_fate s (c ∷ cells)) (siblings 0 (suc a) (drop (suc a - q) list))
        by x t (inl near) gone set low1 low2 =
            let a0 = h.0 in
            let b0 = (h.1.2).ahead in
            let far = Chain-ends cell_at items cell_kinds (end_of_node items c.at) high cells h.2 in
            let chain : Cells c.at high (c ∷ cells) = (omega arith, h.1, h.2) in
            let z : a - s ≡ b = some_is (a - s) b (sym (fate_before (c ∷ cells) c.at high s a chain near) ∙ f) in
            let k = suc a - q in
            let y : suc b - q' ≡ k = omega arith in
            let there : q + k ≡ suc a = omega arith in
            let order : InOrder (q + k) high (edits_of (c ∷ cells)) =
            InOrder-within c.at (q + k) high high (edits_of (c ∷ cells)) (omega arith) (omega arith) (col_out_order items (c ∷ cells) c.at high chain) in
            ap (λ j. siblings 0 (suc b) (drop j (substituted_from q list (edits_of (c ∷ cells))))) y
            ∙ ap (siblings 0 (suc b)) (substituted_drop k q high list (edits_of (c ∷ cells)) order (omega arith))
            ∙ ap (λ j. siblings 0 (suc b) (substituted_from j (drop k list) (edits_of (c ∷ cells)))) there
            ∙ walk_all (c ∷ cells) c.at high s (suc a) (suc b) (drop k list) chain (omega arith) (omega arith) (omega (arith, length-drop k list))
            (λ j w. let v : q + (k + j) ≡ suc a + j = omega arith in drop_twice j k (k + j) list refl ∙ tail (k + j) (omega arith) ∙ ap (λ i. drop i items) v) 0
        by true t (inr past) gone set low1 low2 =
            let a0 = h.0 in
            let b0 = (h.1.2).ahead in
            let g : fate (s + size c) cells a ≡ Some b = sym (fate_past s c cells a t (omega arith) past) ∙ f in
            let z : (c.at - q) + (size c + (suc a - (c.at + size c))) ≡ suc a - q = omega arith in
            ap (λ v. siblings 0 (suc b) (drop (suc b - q') v)) (one_gone c cells q list t)
            ∙ ap (siblings 0 (suc b)) (skip Y (low1 (omega arith) g))
            ∙ gone past g
            ∙ siblings_alike (node_fate (s + size c) cells) (node_fate s (c ∷ cells)) 0 (suc a) (drop (suc a - (c.at + size c)) (drop (size c) rest))
            (λ o l'. ap (node_to o.kind) (sym (fate_past s c cells o.from t (omega arith) (omega arith))))
            ∙ ap (λ v. filter_map (node_fate s (c ∷ cells)) (siblings 0 (suc a) v))
            (drop_twice (suc a - (c.at + size c)) (size c) (size c + (suc a - (c.at + size c))) rest refl ∙ drop_twice (size c + (suc a - (c.at + size c))) (c.at - q) (suc a - q) list z)
        by false t (inr past) gone set low1 low2 =
            let a0 = h.0 in
            let b0 = (h.1.2).ahead in
            let g : fate s cells a ≡ Some b = sym (fate_wide s c cells a t) ∙ f in
            ap (λ v. siblings 0 (suc b) (drop (suc b - q') v)) (one_set c cells q list t)
            ∙ ap (siblings 0 (suc b)) (skip Y' (low2 (omega arith) g))
            ∙ set past g
            ∙ siblings_alike (node_fate s cells) (node_fate s (c ∷ cells)) 0 (suc a) (drop (suc a - c.at) (narrowed c rest)) (λ o l'. ap (node_to o.kind) (sym (fate_wide s c cells o.from t)))
            ∙ ap (λ v. filter_map (node_fate s (c ∷ cells)) (siblings 0 (suc a) v))
            (drop-on_first (item_changed (setting (codes "colspan") (Some (decimal (c.columns - 1))) rest)) (suc a - c.at) rest (omega arith) ∙ drop_twice (suc a - c.at) (c.at - q) (suc a - q) list (omega arith))
