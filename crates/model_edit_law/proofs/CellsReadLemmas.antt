-- Cells taken out of a list and cells of which the width is set: what is read at the positions of
-- the others.
use Rattle.std.specs.Prelude.{slice_get, filter, codes, decimal}
use Rattle.std.proofs.Common.{◌≡◌, ◌⊎◌, inl, inr, ℕ, zero, suc, ◌+◌, ◌-◌, ◌<◌, ◌≤◌, ◌==◌, Bool, true, false, cond, not, if◌then◌else◌, nat_lt, List, [], ◌∷◌, ◌++◌, length, take, drop, Option, Some, None, refl, sym, ap, ◌∙◌, subst, arith, length-drop}
use Rattle.std.proofs.lemmas.Bool.{ltb-true, ltb-false, eq-eqb, ne_eqb, true≢false}
use Rattle.std.proofs.lemmas.List.{length-take-le}
use Rattle.model_items.specs.declared.plain_item.PlainItem.{PlainItem}
use Rattle.model_items.specs.Law.{Lawful}
use Rattle.model_change.specs.Attributes.{item_changed}
use Rattle.model_change.proofs.TouchLemmas.{get-take-append}
use Rattle.model_items.specs.Offsets.{end_of_node}
use Rattle.model_edit.specs.Edits.{setting, substituted_from}
use Rattle.model_edit.specs.declared.grid_cell.GridCell.{GridCell}
use Rattle.model_edit_law.proofs.TablePlaceLemmas.{Chain-ends, Chain-filter, cell_kinds, cell_at}
use Rattle.model_edit_law.proofs.TableSetLemmas.{Among, set_in, set_at, set_before, first_set, later_same, get_drop, get_past, among_after}
use Rattle.model_edit_law.proofs.CellsOutLemmas.{edits_of, size, fate, Cells, fate_narrow, fate_past, fate_itself, fate_wide, fate_before, narrowed, Tail, one_gone, one_set, tail_gone, tail_set, long_gone, long_set, Clear, fate_low, some_is}

abbrev pub is_wide : GridCell → Bool
is_wide c = not (c.columns == 1)

abbrev pub one_narrower : GridCell → Option (List ℕ)
one_narrower c = Some (decimal (c.columns - 1))

pub filter_filter : (p q : GridCell → Bool) (cells : List GridCell) → filter p (filter q cells) ≡ filter (λ c. if q c then p c else false) cells
filter_filter p q [] = refl
filter_filter p q (c ∷ cells) = by (q c) (p c) refl refl (filter_filter p q cells)
  where
    by : (x y : Bool) → q c ≡ x → p c ≡ y → filter p (filter q cells) ≡ filter (λ d. if q d then p d else false) cells →
        filter p (cond (q c) (c ∷ filter q cells) (filter q cells)) ≡ cond (if q c then p c else false) (c ∷ filter (λ d. if q d then p d else false) cells) (filter (λ d. if q d then p d else false) cells)
    by true true e f rest =
        ap (λ x. filter p (cond x (c ∷ filter q cells) (filter q cells))) e ∙ ap (λ x. cond x (c ∷ filter p (filter q cells)) (filter p (filter q cells))) f ∙ ap (λ v. c ∷ v) rest
        ∙ sym ((λ i. cond (if e i then f i else false) (c ∷ filter (λ d. if q d then p d else false) cells) (filter (λ d. if q d then p d else false) cells)))
    by true false e f rest =
        ap (λ x. filter p (cond x (c ∷ filter q cells) (filter q cells))) e ∙ ap (λ x. cond x (c ∷ filter p (filter q cells)) (filter p (filter q cells))) f ∙ rest
        ∙ sym ((λ i. cond (if e i then f i else false) (c ∷ filter (λ d. if q d then p d else false) cells) (filter (λ d. if q d then p d else false) cells)))
    by false y e f rest =
        ap (λ x. filter p (cond x (c ∷ filter q cells) (filter q cells))) e ∙ rest
        ∙ sym (ap (λ x. cond (if x then p c else false) (c ∷ filter (λ d. if q d then p d else false) cells) (filter (λ d. if q d then p d else false) cells)) e)

module _ (items : List PlainItem) where
  -- what is not in a cell that goes still stands
  pub fate_clear : (cells : List GridCell) (low high s a : ℕ) (lawful : Lawful items) → Cells items low high cells → Clear items lawful a cells → (b : ℕ) × (fate items s cells a ≡ Some b)
  fate_clear [] low high s a lawful h clear = (a - s, refl)
  fate_clear (c ∷ cells) low high s a lawful h clear =
      by (c.columns == 1) refl clear.0 (fate_clear cells (end_of_node items c.at) high (s + size items c) a lawful h.2 clear.1) (fate_clear cells (end_of_node items c.at) high s a lawful h.2 clear.1)
    where
      by : (x : Bool) → (c.columns == 1) ≡ x → (a < c.at) ⊎ (end_of_node items c.at ≤ a) → (b : ℕ) × (fate items (s + size items c) cells a ≡ Some b) → (b : ℕ) × (fate items s cells a ≡ Some b) →
          (b : ℕ) × (fate items s (c ∷ cells) a ≡ Some b)
      by true t (inl l) gone set = (a - s, fate_narrow items s c cells a t l)
      by true t (inr l) gone set = (gone.0, fate_past items s c cells a t (let b = (h.1.2).ahead in omega arith) l ∙ gone.1)
      by false t l gone set = (set.0, fate_wide items s c cells a t ∙ set.1)

  -- a cell goes where it is taken and one wide
  pub fate_cell : (taken : GridCell → Bool) (cells : List GridCell) (low high : ℕ) (c : GridCell) → Cells items low high cells → Among c cells → (s : ℕ) →
      (taken c ≡ true → (c.columns == 1) ≡ true → fate items s (filter taken cells) c.at ≡ None)
      × ((taken c ≡ false) ⊎ ((c.columns == 1) ≡ false) → (b : ℕ) × (fate items s (filter taken cells) c.at ≡ Some b))
  fate_cell taken [] low high c h a s = absurd a
  fate_cell taken (x ∷ cells) low high c h a s =
      by (taken x) (x.columns == 1) refl refl a (λ a' s'. fate_cell taken cells (end_of_node items x.at) high c h.2 a' s')
    where
      F : List GridCell
      F = filter taken cells

      ahead : x.at < end_of_node items x.at
      ahead = let b = (h.1.2).ahead in omega arith

      suffix : Among c cells → end_of_node items x.at ≤ c.at
      suffix a' = among_after (codes "colspan") one_narrower items cells (end_of_node items x.at) high c h.2 a'

      chain : Cells items (end_of_node items x.at) high F
      chain = Chain-filter cell_at items cell_kinds taken (end_of_node items x.at) high cells h.2

      Both : ℕ → List GridCell → GridCell → Type 0
      Both s' list v =
          (taken v ≡ true → (v.columns == 1) ≡ true → fate items s' list v.at ≡ None) × ((taken v ≡ false) ⊎ ((v.columns == 1) ≡ false) → (b : ℕ) × (fate items s' list v.at ≡ Some b))

      itself : (t n : Bool) → taken x ≡ t → (x.columns == 1) ≡ n → Both s (cond t (x ∷ F) F) x
      itself true true e f =
          ((λ p q. fate_itself items s x F f ahead), λ o. other o)
        where
          other : (taken x ≡ false) ⊎ ((x.columns == 1) ≡ false) → (b : ℕ) × (fate items s (x ∷ F) x.at ≡ Some b)
          other (inl z) = absurd (true≢false (sym e ∙ z))
          other (inr z) = absurd (true≢false (sym f ∙ z))
      itself true false e f =
          ((λ p q. absurd (true≢false (sym q ∙ f))), λ o. (x.at - s, fate_wide items s x F x.at f ∙ fate_before items F (end_of_node items x.at) high s x.at chain ahead))
      itself false n e f =
          ((λ p q. absurd (true≢false (sym p ∙ e))), λ o. (x.at - s, fate_before items F (end_of_node items x.at) high s x.at chain ahead))

      moved : (s' : ℕ) (list : List GridCell) → fate items s list c.at ≡ fate items s' F c.at → Both s' F c → Both s list c
      moved s' list e both = ((λ p q. e ∙ both.0 p q), λ o. let r = both.1 o in (r.0, e ∙ r.1))

      by : (t n : Bool) → taken x ≡ t → (x.columns == 1) ≡ n → (x ≡ c) ⊎ Among c cells → (Among c cells → (s' : ℕ) → Both s' F c) → Both s (cond (taken x) (x ∷ F) F) c
      by t n e f (inl same) next = subst (λ v. Both s (cond (taken x) (x ∷ F) F) v) same (subst (λ b. Both s (cond b (x ∷ F) F) x) (sym e) (itself t n e f))
      by true true e f (inr a') next =
          subst (λ b. Both s (cond b (x ∷ F) F) c) (sym e) (moved (s + size items x) (x ∷ F) (fate_past items s x F c.at f (let d = suffix a' in let d' = ahead in omega arith) (suffix a')) (next a' (s + size items x)))
      by true false e f (inr a') next = subst (λ b. Both s (cond b (x ∷ F) F) c) (sym e) (moved s (x ∷ F) (fate_wide items s x F c.at f) (next a' s))
      by false n e f (inr a') next = subst (λ b. Both s (cond b (x ∷ F) F) c) (sym e) (next a' s)

  -- where something still stands, it is what it was, but for a width
  pub get_fate : (cells : List GridCell) (low high s q q' : ℕ) (list : List PlainItem) (a b : ℕ) (lawful : Lawful items) → Cells items low high cells → q ≤ low → q' + s ≡ q → high ≤ q + length list →
      Tail items low q list → q ≤ a → a < q + length list → fate items s cells a ≡ Some b →
      slice_get (substituted_from q list (edits_of items cells)) (b - q') ≡ set_at (codes "colspan") one_narrower a (filter is_wide cells) (slice_get list (a - q))
  get_fate [] low high s q q' list a b lawful h l e fit tail m room f =
      let z : a - s ≡ b = some_is items lawful (a - s) b f in
      let y : b - q' ≡ a - q = omega arith in
      ap (slice_get list) y
  get_fate (c ∷ cells) low high s q q' list a b lawful h l e fit tail m room f =
      by (c.columns == 1) refl (nat_lt a c.at) refl (nat_lt a (end_of_node items c.at)) refl
      (λ v g. let a0 = h.0 in let b0 = (h.1.2).ahead in let far = Chain-ends cell_at items cell_kinds (end_of_node items c.at) high cells h.2 in
      get_fate cells (end_of_node items c.at) high (s + size items c) (c.at + size items c) (c.at - s) (drop (size items c) (drop (c.at - q) list)) a b lawful h.2 (omega arith) (omega arith)
      (long_gone items c q high list (omega arith) (omega arith) fit) (tail_gone items c low q list l a0 (omega arith) tail) (omega arith)
      (omega (arith, length-drop (size items c) (drop (c.at - q) list), length-drop (c.at - q) list)) g)
      (λ v g. let a0 = h.0 in let b0 = (h.1.2).ahead in let far = Chain-ends cell_at items cell_kinds (end_of_node items c.at) high cells h.2 in
      get_fate cells (end_of_node items c.at) high s c.at (c.at - s) (narrowed items c (drop (c.at - q) list)) a b lawful h.2 (omega arith) (omega arith)
      (long_set items c q high list (omega arith) (omega arith) fit) (tail_set items c low q list l a0 (omega arith) tail) v
      (let w = long_set items c q (q + length list) list (omega arith) (omega arith) (omega arith) in omega arith) g)
      (λ u g. fate_low items lawful cells (end_of_node items c.at) high (s + size items c) (c.at - s) a b h.2 (let a0 = h.0 in let b0 = (h.1.2).ahead in omega arith) u g)
      (λ u g. fate_low items lawful cells (end_of_node items c.at) high s (c.at - s) a b h.2 (let a0 = h.0 in let b0 = (h.1.2).ahead in omega arith) u g)
    where
      rest : List PlainItem
      rest = drop (c.at - q) list

      Y : List PlainItem
      Y = substituted_from (c.at + size items c) (drop (size items c) rest) (edits_of items cells)

      Y' : List PlainItem
      Y' = substituted_from c.at (narrowed items c rest) (edits_of items cells)

      F : List GridCell
      F = filter is_wide cells

      chain : Cells items (end_of_node items c.at) high F
      chain = Chain-filter cell_at items cell_kinds is_wide (end_of_node items c.at) high cells h.2

      put : ℕ → List GridCell → Option PlainItem → Option PlainItem
      put k list o = set_at (codes "colspan") one_narrower k list o

      cut : length (take (c.at - q) list) ≡ c.at - q
      cut =
          let a0 = h.0 in
          let b0 = (h.1.2).ahead in
          let far = Chain-ends cell_at items cell_kinds (end_of_node items c.at) high cells h.2 in length-take-le (c.at - q) list (omega arith)

      skip : (new : List PlainItem) → c.at - s ≤ b → slice_get (take (c.at - q) list ++ new) (b - q') ≡ slice_get new (b - (c.at - s))
      skip new l' =
          let a0 = h.0 in
          let z : b - q' ≡ length (take (c.at - q) list) + (b - (c.at - s)) = omega (arith, cut) in
          ap (slice_get (take (c.at - q) list ++ new)) z ∙ get_past (take (c.at - q) list) new (b - (c.at - s))

      near_is : (new : List PlainItem) → a < c.at → slice_get (take (c.at - q) list ++ new) (b - q') ≡ slice_get list (a - q)
      near_is new l' =
          let a0 = h.0 in
          let z : a - s ≡ b = some_is items lawful (a - s) b (sym (fate_before items (c ∷ cells) c.at high s a (omega arith, h.1, h.2) l') ∙ f) in
          let y : b - q' ≡ a - q = omega arith in
          ap (slice_get (take (c.at - q) list ++ new)) y ∙ get-take-append (c.at - q) list new (a - q) (omega arith) (omega arith)

      first_or_later : (j : ℕ) → slice_get (narrowed items c rest) j ≡ (if c.at == c.at + j then set_in (codes "colspan") (one_narrower c) (slice_get rest j) else slice_get rest j)
      first_or_later zero =
          let z : c.at ≡ c.at + 0 = omega arith in
          first_set (codes "colspan") one_narrower items (one_narrower c) rest ∙ ap (λ t. if t then set_in (codes "colspan") (one_narrower c) (slice_get rest 0) else slice_get rest 0) (sym (eq-eqb c.at (c.at + 0) z))
      first_or_later (suc j) =
          later_same (codes "colspan") one_narrower items (item_changed (setting (codes "colspan") (one_narrower c) rest)) rest j
          ∙ ap (λ t. if t then set_in (codes "colspan") (one_narrower c) (slice_get rest (suc j)) else slice_get rest (suc j)) (sym (ne_eqb c.at (c.at + suc j) (λ z. omega arith)))

      by : (x : Bool) → (c.columns == 1) ≡ x → (y : Bool) → nat_lt a c.at ≡ y → (z : Bool) → nat_lt a (end_of_node items c.at) ≡ z →
          (end_of_node items c.at ≤ a → fate items (s + size items c) cells a ≡ Some b →
          slice_get Y (b - (c.at - s)) ≡ set_at (codes "colspan") one_narrower a F (slice_get (drop (size items c) rest) (a - (c.at + size items c)))) →
          (c.at ≤ a → fate items s cells a ≡ Some b → slice_get Y' (b - (c.at - s)) ≡ set_at (codes "colspan") one_narrower a F (slice_get (narrowed items c rest) (a - c.at))) →
          ((c.at - s) + (s + size items c) ≤ a → fate items (s + size items c) cells a ≡ Some b → c.at - s ≤ b) → ((c.at - s) + s ≤ a → fate items s cells a ≡ Some b → c.at - s ≤ b) →
          slice_get (substituted_from q list (edits_of items (c ∷ cells))) (b - q') ≡ set_at (codes "colspan") one_narrower a (cond (is_wide c) (c ∷ F) F) (slice_get list (a - q))
      by true t true u z w gone set low1 low2 =
          let l' = ltb-true a c.at u in
          ap (λ v. slice_get v (b - q')) (one_gone items c cells q list t)
          ∙ near_is Y l'
          ∙ sym (set_before (codes "colspan") one_narrower items F (end_of_node items c.at) high a (slice_get list (a - q)) chain (let b0 = (h.1.2).ahead in omega arith))
          ∙ ap (λ x. set_at (codes "colspan") one_narrower a (cond (not x) (c ∷ F) F) (slice_get list (a - q))) (sym t)
      by true t false u true w gone set low1 low2 =
          absurd (let k : ◌≡◌ {A = Option ℕ} None (Some b) =
          sym (ap (λ b. if b then (if nat_lt a c.at then Some (a - s) else (if nat_lt a (end_of_node items c.at) then None else fate items (s + size items c) cells a)) else fate items s cells a) t
          ∙ ap (λ b. if b then Some (a - s) else (if nat_lt a (end_of_node items c.at) then None else fate items (s + size items c) cells a)) u
          ∙ ap (λ b. if b then None else fate items (s + size items c) cells a) w) ∙ f in cc)
      by true t false u false w gone set low1 low2 =
          let v = ltb-false a c.at u in
          let past = ltb-false a (end_of_node items c.at) w in
          let a0 = h.0 in
          let b0 = (h.1.2).ahead in
          let g : fate items (s + size items c) cells a ≡ Some b = sym (fate_past items s c cells a t v past) ∙ f in
          let j = a - (c.at + size items c) in
          let y : (c.at - q) + (size items c + j) ≡ a - q = omega arith in
          ap (λ v. slice_get v (b - q')) (one_gone items c cells q list t)
          ∙ skip Y (low1 (omega arith) g)
          ∙ gone past g
          ∙ ap (set_at (codes "colspan") one_narrower a F) (get_drop (size items c) j rest ∙ get_drop (c.at - q) (size items c + j) list ∙ ap (slice_get list) y)
          ∙ ap (λ x. set_at (codes "colspan") one_narrower a (cond (not x) (c ∷ F) F) (slice_get list (a - q))) (sym t)
      by false t true u z w gone set low1 low2 =
          let l' = ltb-true a c.at u in
          ap (λ v. slice_get v (b - q')) (one_set items c cells q list t)
          ∙ near_is Y' l'
          ∙ sym (set_before (codes "colspan") one_narrower items (c ∷ F) c.at high a (slice_get list (a - q)) (omega arith, h.1, chain) l')
          ∙ ap (λ x. set_at (codes "colspan") one_narrower a (cond (not x) (c ∷ F) F) (slice_get list (a - q))) (sym t)
      by false t false u z w gone set low1 low2 =
          let v = ltb-false a c.at u in
          let a0 = h.0 in
          let g : fate items s cells a ≡ Some b = sym (fate_wide items s c cells a t) ∙ f in
          let y : c.at + (a - c.at) ≡ a = omega arith in
          let o : slice_get rest (a - c.at) ≡ slice_get list (a - q) = get_drop (c.at - q) (a - c.at) list ∙ ap (slice_get list) (omega arith) in
          ap (λ v. slice_get v (b - q')) (one_set items c cells q list t)
          ∙ skip Y' (low2 (omega arith) g)
          ∙ set v g
          ∙ ap (set_at (codes "colspan") one_narrower a F) (first_or_later (a - c.at) ∙ (λ i. if c.at == y i then set_in (codes "colspan") (one_narrower c) (o i) else o i))
          ∙ ap (λ x. set_at (codes "colspan") one_narrower a (cond (not x) (c ∷ F) F) (slice_get list (a - q))) (sym t)
