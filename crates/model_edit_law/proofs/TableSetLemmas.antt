-- Attributes set at cells: which items they change, and what a table reads of those.
use Rattle.std.specs.Prelude.{slice_get, filter}
use Rattle.std.proofs.Common.{◌≡◌, ◌⊎◌, inl, inr, ℕ, zero, suc, ◌+◌, ◌-◌, ◌<◌, ◌≤◌, ◌==◌, Bool, true, false, cond, if◌then◌else◌, nat_lt, List, [], ◌∷◌, ◌++◌, length, map, take, drop, Option, Some, None, refl, sym, ap, ◌∙◌, subst, arith, length-drop}
use Rattle.std.proofs.lemmas.Bool.{cases_Bool, ltb-true, ltb-false, eq-eqb, ne_eqb}
use Rattle.std.proofs.lemmas.List.{append_assoc, take-append-drop, length-take-le}
use Rattle.std.proofs.Math.Seq.{take-append-add}
use Rattle.ve_base.specs.declared.attrs.Attr.{Attr}
use Rattle.model_items.specs.declared.plain_item.PlainItem.{PlainItem}
use Rattle.model_items.specs.declared.plain_item.PlainItem.TheVariants.{Char, Opening, Closing}
use Rattle.model_items.specs.Same.{text_same}
use Rattle.model_items.proofs.SameLemmas.{Means-text_same}
use Rattle.model_items.specs.Tree.{shape_of}
use Rattle.model_change.specs.Attributes.{AttrChange, value_of, attr_replaced, attrs_changed, position_kept, item_changed}
use Rattle.model_change.specs.Transaction.{on_first}
use Rattle.model_change.proofs.TouchLemmas.{get-take-append}
use Rattle.model_items.specs.Offsets.{end_of_node}
use Rattle.model_edit.specs.Edits.{Change, setting, substituted_from, InOrder}
use Rattle.model_edit.specs.declared.grid_cell.GridCell.{GridCell}
use Rattle.model_edit_law.proofs.EditLemmas.{drop-on_first, length-on_first, order_ends, earlier_order}
use Rattle.model_edit_law.proofs.TablePlaceLemmas.{Chain, Chain-ends, Chain-filter, cell_kinds, cell_at}
use Rattle.model_edit_law.proofs.TableFineLemmas.{drop_twice, sets}

pub map-append : {A B : Type 0} (f : A → B) (xs ys : List A) → map f (xs ++ ys) ≡ map f xs ++ map f ys
map-append f [] ys = refl
map-append f (x ∷ xs) ys = ap (λ v. f x ∷ v) (map-append f xs ys)

pub length_map : {A B : Type 0} (f : A → B) (xs : List A) → length (map f xs) ≡ length xs
length_map f [] = refl
length_map f (x ∷ xs) = ap suc (length_map f xs)

-- an item of which an attribute is set
abbrev pub set_item : List ℕ → Option (List ℕ) → PlainItem → PlainItem
set_item name to x = item_changed (setting name to (x ∷ [])) x

pub setting_first : (name : List ℕ) (to : Option (List ℕ)) (x : PlainItem) (rest : List PlainItem) → item_changed (setting name to (x ∷ rest)) x ≡ set_item name to x
setting_first name to (Char c marks) rest = refl
setting_first name to (Opening kind head marks pre origin generated) rest = refl
setting_first name to (Closing kind pre) rest = refl

abbrev pub set_in : List ℕ → Option (List ℕ) → Option PlainItem → Option PlainItem
set_in name to None = None
set_in name to (Some x) = Some (set_item name to x)

pub shape_set : (c : AttrChange) (x : PlainItem) → shape_of (item_changed c x) ≡ shape_of x
shape_set c (Char ch marks) = refl
shape_set c (Opening kind head marks pre origin generated) = refl
shape_set c (Closing kind pre) = refl

pub shapes_first : (c : AttrChange) (items : List PlainItem) → map shape_of (on_first (item_changed c) items) ≡ map shape_of items
shapes_first c [] = refl
shapes_first c (x ∷ items) = ap (λ v. v ∷ map shape_of items) (shape_set c x)

pub get_drop : (m j : ℕ) (xs : List PlainItem) → slice_get (drop m xs) j ≡ slice_get xs (m + j)
get_drop zero j xs = let z : zero + j ≡ j = omega arith in ap (slice_get xs) (sym z)
get_drop (suc m) j [] = refl
get_drop (suc m) j (x ∷ xs) = let z : suc m + j ≡ suc (m + j) = omega arith in get_drop m j xs ∙ ap (slice_get (x ∷ xs)) (sym z)

pub get_past : (xs ys : List PlainItem) (j : ℕ) → slice_get (xs ++ ys) (length xs + j) ≡ slice_get ys j
get_past [] ys j = let z : zero + j ≡ j = omega arith in ap (slice_get ys) z
get_past (x ∷ xs) ys j = let z : suc (length xs) + j ≡ suc (length xs + j) = omega arith in ap (slice_get (x ∷ (xs ++ ys))) z ∙ get_past xs ys j

-- one of the cells
abbrev pub Among : GridCell → List GridCell → Type 0
Among c [] = ⊥
Among c (x ∷ cells) = (x ≡ c) ⊎ Among c cells

module _ (name : List ℕ) (f : GridCell → Option (List ℕ)) where
  -- what stands at a position after the cells' attributes are set
  abbrev pub set_at : ℕ → List GridCell → Option PlainItem → Option PlainItem
  set_at q [] o = o
  set_at q (c ∷ cells) o = set_at q cells (if c.at == q then set_in name (f c) o else o)

  -- to the tree the list stays the same
  pub shapes_sets : (cells : List GridCell) (at : ℕ) (items : List PlainItem) → map shape_of (substituted_from at items (sets name f cells)) ≡ map shape_of items
  shapes_sets [] at items = refl
  shapes_sets (c ∷ cells) at items =
      let m = c.at - at in
      let rest = drop m items in
      map-append shape_of (take m items) (substituted_from c.at (on_first (item_changed (setting name (f c) rest)) rest) (sets name f cells))
      ∙ ap (λ v. map shape_of (take m items) ++ v) (shapes_sets cells c.at (on_first (item_changed (setting name (f c) rest)) rest) ∙ shapes_first (setting name (f c) rest) rest)
      ∙ sym (map-append shape_of (take m items) rest)
      ∙ ap (map shape_of) (take-append-drop m items)

  -- the list after they are set and a part after them is taken out
  pub taken_out : (cells : List GridCell) (at end place count : ℕ) (items : List PlainItem) → InOrder at end (sets name f cells ++ Change place count [] ∷ []) → end ≤ at + length items →
      substituted_from at items (sets name f cells ++ Change place count [] ∷ []) ≡ take (place - at) (substituted_from at items (sets name f cells)) ++ drop (count + (place - at)) items
  taken_out [] at end place count items h fit =
      ap (λ v. take (place - at) items ++ v) (drop_twice count (place - at) (count + (place - at)) items (omega arith))
  taken_out (c ∷ cells) at end place count items h fit =
      let m = c.at - at in
      let rest = drop m items in
      let new = on_first (item_changed (setting name (f c) rest)) rest in
      let X = substituted_from c.at new (sets name f cells) in
      let low = h.0 in
      let far = last_place cells (suc c.at) end h.1 in
      let high = order_ends (suc c.at) end _ h.1 in
      let long : length new ≡ length items - m = length-on_first (item_changed (setting name (f c) rest)) rest ∙ omega (arith, length-drop m items) in
      let next = taken_out cells c.at end place count new (earlier_order c.at end _ h.1) (omega arith) in
      let whole : drop (count + (place - c.at)) new ≡ drop (count + (place - at)) items =
      drop-on_first (item_changed (setting name (f c) rest)) (count + (place - c.at)) rest (omega arith)
      ∙ drop_twice (count + (place - c.at)) m (count + (place - at)) items (omega arith) in
      let cut : length (take m items) ≡ m = length-take-le m items (omega arith) in
      let z : place - at ≡ length (take m items) + (place - c.at) = omega arith in
      ap (λ v. take m items ++ v) (next ∙ ap (λ v. take (place - c.at) X ++ v) whole)
      ∙ sym (append_assoc (take m items) (take (place - c.at) X) (drop (count + (place - at)) items))
      ∙ ap (λ v. v ++ drop (count + (place - at)) items) (sym (ap (λ n. take n (take m items ++ X)) z ∙ take-append-add (take m items) X (place - c.at)))
    where
      last_place : (cells : List GridCell) (low end : ℕ) → InOrder low end (sets name f cells ++ Change place count [] ∷ []) → low ≤ place
      last_place [] low end h = h.0
      last_place (c ∷ cells) low end h = let a = h.0 in let b = last_place cells (suc c.at) end h.1 in omega arith

  module _ (whole : List PlainItem) where
    abbrev Cells : (low high : ℕ) → List GridCell → Type 0
    Cells low high cells = Chain cell_at whole cell_kinds low high cells

    pub set_before : (cells : List GridCell) (low high q : ℕ) (o : Option PlainItem) → Cells low high cells → q < low → set_at q cells o ≡ o
    set_before [] low high q o c l = refl
    set_before (one ∷ cells) low high q o c l =
        let a = c.0 in
        let b = (c.1.2).ahead in
        ap (λ t. set_at q cells (if t then set_in name (f one) o else o)) (ne_eqb one.at q (λ e. omega arith))
        ∙ set_before cells (end_of_node whole one.at) high q o c.2 (omega arith)

    pub first_set : (to : Option (List ℕ)) (rest : List PlainItem) → slice_get (on_first (item_changed (setting name to rest)) rest) 0 ≡ set_in name to (slice_get rest 0)
    first_set to [] = refl
    first_set to (x ∷ rest) = ap Some (setting_first name to x rest)

    pub later_same : (g : PlainItem → PlainItem) (rest : List PlainItem) (j : ℕ) → slice_get (on_first g rest) (suc j) ≡ slice_get rest (suc j)
    later_same g [] j = refl
    later_same g (x ∷ rest) j = refl

    pub get_sets : (cells : List GridCell) (at low high : ℕ) (items : List PlainItem) (k : ℕ) → Cells low high cells → at ≤ low → high ≤ at + length items →
        slice_get (substituted_from at items (sets name f cells)) k ≡ set_at (at + k) cells (slice_get items k)
    get_sets [] at low high items k c l fit = refl
    get_sets (one ∷ cells) at low high items k c l fit =
        elim (cases_Bool (nat_lt k m)) [
          | inl less ↦
              (let s = ltb-true k m less in
              let b = room in
              let a = starts in
              get-take-append m items X k s (omega arith)
              ∙ sym (set_before (one ∷ cells) one.at high (at + k) (slice_get items k) (omega arith, c.1, c.2) (omega arith)))
          | inr more ↦ (let s = ltb-false k m more in beyond (λ j a b d. get_sets cells one.at (end_of_node whole one.at) high new j c.2 (let g = (c.1.2).ahead in omega arith) (omega arith)) (k - m) (omega arith))
        ]
      where
        m : ℕ
        m = one.at - at

        rest : List PlainItem
        rest = drop m items

        new : List PlainItem
        new = on_first (item_changed (setting name (f one) rest)) rest

        X : List PlainItem
        X = substituted_from one.at new (sets name f cells)

        starts : at ≤ one.at
        starts = let a = c.0 in omega arith

        room : suc one.at ≤ at + length items
        room = let b = (c.1.2).ahead in let d = Chain-ends cell_at whole cell_kinds (end_of_node whole one.at) high cells c.2 in omega arith

        long : length new ≡ length items - m
        long = length-on_first (item_changed (setting name (f one) rest)) rest ∙ omega (arith, length-drop m items)

        cut : length (take m items) ≡ m
        cut = let a = room in let b = starts in length-take-le m items (omega arith)

        put : (j : ℕ) → slice_get new j ≡ (if one.at == one.at + j then set_in name (f one) (slice_get rest j) else slice_get rest j)
        put zero =
            let z : one.at ≡ one.at + 0 = omega arith in
            first_set (f one) rest ∙ ap (λ t. if t then set_in name (f one) (slice_get rest 0) else slice_get rest 0) (sym (eq-eqb one.at (one.at + 0) z))
        put (suc j) =
            later_same (item_changed (setting name (f one) rest)) rest j
            ∙ ap (λ t. if t then set_in name (f one) (slice_get rest (suc j)) else slice_get rest (suc j)) (sym (ne_eqb one.at (one.at + suc j) (λ e. omega arith)))

        beyond : ((j : ℕ) → at ≤ one.at → suc one.at ≤ at + length items → length new ≡ length items - m → slice_get X j ≡ set_at (one.at + j) cells (slice_get new j)) → (j : ℕ) → k ≡ m + j → slice_get (take m items ++ X) k ≡ set_at (at + k) (one ∷ cells) (slice_get items k)
        beyond next j e =
            let a = starts in
            let b = room in
            let d = long in
            let z : k ≡ length (take m items) + j = omega (arith, cut) in
            let there : one.at + j ≡ at + k = omega arith in
            let old : slice_get rest j ≡ slice_get items k = get_drop m j items ∙ ap (slice_get items) (sym e) in
            ap (slice_get (take m items ++ X)) z
            ∙ get_past (take m items) X j
            ∙ next j a b d
            ∙ ap (set_at (one.at + j) cells) (put j)
            ∙ (λ i. set_at (there i) cells (if one.at == there i then set_in name (f one) (old i) else old i))

    pub among_after : (cells : List GridCell) (low high : ℕ) (c : GridCell) → Cells low high cells → Among c cells → low ≤ c.at
    among_after [] low high c h a = absurd a
    among_after (x ∷ cells) low high c h (inl e) = subst (λ (v : GridCell). low ≤ v.at) e h.0
    among_after (x ∷ cells) low high c h (inr a) =
        let s = h.0 in let b = (h.1.2).ahead in let l = among_after cells (end_of_node whole x.at) high c h.2 a in omega arith

    -- where those of some cells are set, each of these is, and no other
    pub set_among : (test : GridCell → Bool) (cells : List GridCell) (low high : ℕ) (c : GridCell) (o : Option PlainItem) → Cells low high cells → Among c cells →
        set_at c.at (filter test cells) o ≡ (if test c then set_in name (f c) o else o)
    set_among test [] low high c o h a = absurd a
    set_among test (x ∷ cells) low high c o h a =
        by (test x) refl a (λ a' o'. set_among test cells (end_of_node whole x.at) high c o' h.2 a')
        (λ q o' l. set_before (filter test cells) (end_of_node whole x.at) high q o' (Chain-filter cell_at whole cell_kinds test (end_of_node whole x.at) high cells h.2) l)
        (λ a'. among_after cells (end_of_node whole x.at) high c h.2 a')
      where
        ahead : suc x.at ≤ end_of_node whole x.at
        ahead = let b = (h.1.2).ahead in omega arith

        by : (b : Bool) → test x ≡ b → (x ≡ c) ⊎ Among c cells →
            (Among c cells → (o' : Option PlainItem) → set_at c.at (filter test cells) o' ≡ (if test c then set_in name (f c) o' else o')) →
            ((q : ℕ) (o' : Option PlainItem) → q < end_of_node whole x.at → set_at q (filter test cells) o' ≡ o') →
            (Among c cells → end_of_node whole x.at ≤ c.at) →
            set_at c.at (cond b (x ∷ filter test cells) (filter test cells)) o ≡ (if test c then set_in name (f c) o else o)
        by true e (inl same) next before past =
            subst (λ (v : GridCell). set_at v.at (x ∷ filter test cells) o ≡ (if test v then set_in name (f v) o else o)) same
            (before x.at (if x.at == x.at then set_in name (f x) o else o) (let d = ahead in omega arith)
            ∙ ap (λ t. if t then set_in name (f x) o else o) (eq-eqb x.at x.at refl ∙ sym e))
        by true e (inr a') next before past =
            ap (λ t. set_at c.at (filter test cells) (if t then set_in name (f x) o else o)) (ne_eqb x.at c.at (λ z. let l = past a' in let d = ahead in omega arith))
            ∙ next a' o
        by false e (inl same) next before past =
            subst (λ (v : GridCell). set_at v.at (filter test cells) o ≡ (if test v then set_in name (f v) o else o)) same
            (before x.at o (let d = ahead in omega arith) ∙ ap (λ t. if t then set_in name (f x) o else o) (sym e))
        by false e (inr a') next before past = next a' o

-- the value that is set is read back
value_put : (name value : List ℕ) (attrs : List Attr) → value_of name attrs ≡ None → value_of name (attrs ++ record { name = name; value = value } ∷ []) ≡ Some value
value_put name value [] h = ap (λ b. if b then Some value else None) (Means-text_same.itself name)
value_put name value (a ∷ attrs) h = by (text_same a.name name) refl h (value_put name value attrs)
  where
    by : (b : Bool) → text_same a.name name ≡ b → (if b then Some a.value else value_of name attrs) ≡ None → (value_of name attrs ≡ None → value_of name (attrs ++ record { name = name; value = value } ∷ []) ≡ Some value) →
        (if text_same a.name name then Some a.value else value_of name (attrs ++ record { name = name; value = value } ∷ [])) ≡ Some value
    by true e h next = cc
    by false e h next = ap (λ b. if b then Some a.value else value_of name (attrs ++ record { name = name; value = value } ∷ [])) e ∙ next h

value_replaced : (name value old : List ℕ) (attrs : List Attr) → value_of name attrs ≡ Some old → value_of name (attr_replaced name value attrs) ≡ Some value
value_replaced name value old [] h = cc
value_replaced name value old (a ∷ attrs) h = by (text_same a.name name) refl h (value_replaced name value old attrs)
  where
    by : (b : Bool) → text_same a.name name ≡ b → (if b then Some a.value else value_of name attrs) ≡ Some old → (value_of name attrs ≡ Some old → value_of name (attr_replaced name value attrs) ≡ Some value) →
        value_of name (if b then record { name = a.name; value = value } ∷ attrs else a ∷ attr_replaced name value attrs) ≡ Some value
    by true e h next = ap (λ b. if b then Some value else value_of name attrs) e
    by false e h next = ap (λ b. if b then Some a.value else value_of name (attr_replaced name value attrs)) e ∙ next h

-- and those of other names stay
other_put : (name value other : List ℕ) (attrs : List Attr) → text_same name other ≡ false → value_of other (attrs ++ record { name = name; value = value } ∷ []) ≡ value_of other attrs
other_put name value other [] h = ap (λ b. if b then Some value else None) h
other_put name value other (a ∷ attrs) h = ap (λ v. if text_same a.name other then Some a.value else v) (other_put name value other attrs h)

other_replaced : (name value other : List ℕ) (attrs : List Attr) → text_same name other ≡ false → value_of other (attr_replaced name value attrs) ≡ value_of other attrs
other_replaced name value other [] h = refl
other_replaced name value other (a ∷ attrs) h = by (text_same a.name name) refl (other_replaced name value other attrs h)
  where
    by : (b : Bool) → text_same a.name name ≡ b → value_of other (attr_replaced name value attrs) ≡ value_of other attrs →
        value_of other (if b then record { name = a.name; value = value } ∷ attrs else a ∷ attr_replaced name value attrs) ≡ value_of other (a ∷ attrs)
    by true e next =
        let z : text_same a.name other ≡ false = ap (λ n. text_same n other) (Means-text_same.equal a.name name e) ∙ h in
        ap (λ b. if b then Some value else value_of other attrs) z ∙ sym (ap (λ b. if b then Some a.value else value_of other attrs) z)
    by false e next = ap (λ v. if text_same a.name other then Some a.value else v) next

pub attrs_set : (name value : List ℕ) (attrs : List Attr) (item : PlainItem) →
    value_of name (attrs_changed name (position_kept (value_of name attrs) (Some value) name None item) (value_of name attrs) (Some value) attrs) ≡ Some value
attrs_set name value attrs item = by (value_of name attrs) refl
  where
    by : (o : Option (List ℕ)) → value_of name attrs ≡ o → value_of name (attrs_changed name (position_kept o (Some value) name None item) o (Some value) attrs) ≡ Some value
    by None e = value_put name value attrs e
    by (Some old) e = value_replaced name value old attrs e

pub attrs_other : (name value other : List ℕ) (attrs : List Attr) (item : PlainItem) → text_same name other ≡ false →
    value_of other (attrs_changed name (position_kept (value_of name attrs) (Some value) name None item) (value_of name attrs) (Some value) attrs) ≡ value_of other attrs
attrs_other name value other attrs item h = by (value_of name attrs)
  where
    by : (o : Option (List ℕ)) → value_of other (attrs_changed name (position_kept o (Some value) name None item) o (Some value) attrs) ≡ value_of other attrs
    by None = other_put name value other attrs h
    by (Some old) = other_replaced name value other attrs h
