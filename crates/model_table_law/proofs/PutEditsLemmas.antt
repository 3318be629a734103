-- New cells put in at positions of a list, and attributes set: where the other nodes stand then,
-- and what is read there.
use Rattle.std.specs.Prelude.{slice_get}
use Rattle.std.proofs.Common.{◌≡◌, ◌⊎◌, inl, inr, ℕ, zero, suc, ◌+◌, ◌-◌, ◌<◌, ◌≤◌, ◌==◌, Bool, true, false, if◌then◌else◌, nat_lt, List, [], ◌∷◌, ◌++◌, length, map, take, drop, Option, Some, refl, sym, ap, ◌∙◌, subst, arith}
use Rattle.std.proofs.lemmas.Bool.{cases_eq, ltb-true, ltb-false, eq-eqb, ne_eqb}
use Rattle.std.proofs.lemmas.List.{length-take-le}
use Rattle.model_items.specs.declared.plain_item.PlainItem.{PlainItem}
use Rattle.model_items.specs.Tree.{Open, shape_of}
use Rattle.model_items.specs.Offsets.{children}
use Rattle.model_change.specs.Attributes.{item_changed}
use Rattle.model_change.specs.Transaction.{on_first}
use Rattle.model_edit.specs.Edits.{Edit, Change, Set, setting, substituted_from, InOrder}
use Rattle.model_edit.specs.declared.grid_cell.GridCell.{GridCell}
use Rattle.model_edit.specs.Tables.{new_cell}
use Rattle.model_edit_law.proofs.EditLemmas.{order_ends, earlier_order}
use Rattle.model_edit_law.proofs.TableFineLemmas.{InOrder-within, drop_at, sets}
use Rattle.model_edit_law.proofs.TableGrowLemmas.{skip_first}
use Rattle.model_edit_law.proofs.SiblingLemmas.{children_same}
use Rattle.model_edit_law.proofs.TableSetLemmas.{map-append, set_item, set_in, set_at, setting_first, shape_set}
use Rattle.model_table_law.proofs.PutInLemmas.{depth_after, moved_by, past, past-before, past-after, with_new, Elsewhere, children_before, children_own, children_after, get_past_new, get_new}

-- what is put in is a new cell each time
abbrev pub Puts : List Edit → Type 0
Puts [] = Unit {0}
Puts (Change p count inserted ∷ edits) = (count ≡ 0) × (inserted ≡ new_cell) × Puts edits
Puts (Set p name value ∷ edits) = Puts edits

-- where a position is then
abbrev pub to : List Edit → ℕ → ℕ
to [] a = a
to (Change p count inserted ∷ edits) a = past p (to edits a)
to (Set p name value ∷ edits) a = to edits a

suc_eq : (m n : ℕ) → (suc m == suc n) ≡ (m == n)
suc_eq m n = elim (cases_eq m n) [
  | inl e ↦ eq-eqb (suc m) (suc n) (ap suc e) ∙ sym (eq-eqb m n e)
  | inr other ↦ ne_eqb (suc m) (suc n) (λ e. other (omega arith)) ∙ sym (ne_eqb m n other)
]

past_low : (p b : ℕ) → b ≤ past p b
past_low p b = by (nat_lt b p)
  where
    by : (t : Bool) → b ≤ (if t then b else b + 4)
    by true = omega arith
    by false = omega arith

pub to_low : (edits : List Edit) (a : ℕ) → a ≤ to edits a
to_low [] a = omega arith
to_low (Change p count inserted ∷ edits) a = let l = to_low edits a in let m = past_low p (to edits a) in omega arith
to_low (Set p name value ∷ edits) a = to_low edits a

pub to_before : (edits : List Edit) (low high a : ℕ) → InOrder low high edits → a < low → to edits a ≡ a
to_before [] low high a h l = refl
to_before (Change p count inserted ∷ edits) low high a h l =
    let m = h.0 in ap (past p) (to_before edits (p + count) high a h.1 (omega arith)) ∙ past-before p a (omega arith)
to_before (Set p name value ∷ edits) low high a h l = let m = h.0 in to_before edits (suc p) high a h.1 (omega arith)

pub to-append : (xs ys : List Edit) (a : ℕ) → to (xs ++ ys) a ≡ to xs (to ys a)
to-append [] ys a = refl
to-append (Change p count inserted ∷ xs) ys a = ap (past p) (to-append xs ys a)
to-append (Set p name value ∷ xs) ys a = to-append xs ys a

-- what stands at a position after attributes are set
abbrev pub set_of : List Edit → ℕ → Option PlainItem → Option PlainItem
set_of [] a o = o
set_of (Change p count inserted ∷ edits) a o = set_of edits a o
set_of (Set p name value ∷ edits) a o = set_of edits a (if p == a then set_in name value o else o)

pub set_of-append : (xs ys : List Edit) (a : ℕ) (o : Option PlainItem) → set_of (xs ++ ys) a o ≡ set_of ys a (set_of xs a o)
set_of-append [] ys a o = refl
set_of-append (Change p count inserted ∷ xs) ys a o = set_of-append xs ys a o
set_of-append (Set p name value ∷ xs) ys a o = set_of-append xs ys a (if p == a then set_in name value o else o)

pub set_of-before : (edits : List Edit) (low high a : ℕ) (o : Option PlainItem) → InOrder low high edits → a < low → set_of edits a o ≡ o
set_of-before [] low high a o h l = refl
set_of-before (Change p count inserted ∷ edits) low high a o h l = let m = h.0 in set_of-before edits (p + count) high a o h.1 (omega arith)
set_of-before (Set p name value ∷ edits) low high a o h l =
    let m = h.0 in
    ap (λ t. set_of edits a (if t then set_in name value o else o)) (ne_eqb p a (λ e. omega arith)) ∙ set_of-before edits (suc p) high a o h.1 (omega arith)

pub set_of-after : (edits : List Edit) (low high a : ℕ) (o : Option PlainItem) → InOrder low high edits → high ≤ a → set_of edits a o ≡ o
set_of-after [] low high a o h l = refl
set_of-after (Change p count inserted ∷ edits) low high a o h l = set_of-after edits (p + count) high a o h.1 l
set_of-after (Set p name value ∷ edits) low high a o h l =
    let m = order_ends (suc p) high edits h.1 in
    ap (λ t. set_of edits a (if t then set_in name value o else o)) (ne_eqb p a (λ e. omega arith)) ∙ set_of-after edits (suc p) high a o h.1 l

pub set_of-sets : (name : List ℕ) (f : GridCell → Option (List ℕ)) (cells : List GridCell) (a : ℕ) (o : Option PlainItem) → set_of (sets name f cells) a o ≡ set_at name f a cells o
set_of-sets name f [] a o = refl
set_of-sets name f (c ∷ cells) a o = set_of-sets name f cells a (if c.at == a then set_in name (f c) o else o)

pub moved_none : (nodes : List Open) → map (moved_by (λ a. a)) nodes ≡ nodes
moved_none [] = refl
moved_none (o ∷ nodes) = ap (λ v. o ∷ v) (moved_none nodes)

pub moved_twice : (f g : ℕ → ℕ) (nodes : List Open) → map (moved_by f) (map (moved_by g) nodes) ≡ map (moved_by (λ a. f (g a))) nodes
moved_twice f g [] = refl
moved_twice f g (o ∷ nodes) = ap (λ v. record { kind = o.kind; from = f (g o.from) } ∷ v) (moved_twice f g nodes)

-- edits from a position on leave what is before
cut_before : (k q end : ℕ) (list : List PlainItem) (edits : List Edit) → InOrder (q + k) end edits → k ≤ length list → substituted_from q list edits ≡ take k list ++ substituted_from (q + k) (drop k list) edits
cut_before zero q end list edits h l = let z : q ≡ q + 0 = omega arith in ap (λ m. substituted_from m list edits) z
cut_before (suc k) q end [] edits h l = absurd (omega arith)
cut_before (suc k) q end (x ∷ list) edits h l =
    let z : q + suc k ≡ suc q + k = omega arith in
    let y : suc q + k ≡ q + suc k = omega arith in
    skip_first edits q end x list (InOrder-within (q + suc k) (suc q) end end edits (omega arith) (omega arith) h)
    ∙ ap (λ v. x ∷ v) (cut_before k (suc q) end list edits (subst (λ m. InOrder m end edits) z h) (omega arith) ∙ ap (λ m. take k list ++ substituted_from m (drop k list) edits) y)

module _ (items : List PlainItem) where
  abbrev pub after : List Edit → List PlainItem
  after edits = substituted_from 0 items edits

  after_cut : (p end : ℕ) (edits : List Edit) → InOrder p end edits → p ≤ length items → after edits ≡ take p items ++ substituted_from p (drop p items) edits
  after_cut p end edits h l =
      let z : p ≡ 0 + p = omega arith in
      cut_before p 0 end items edits (subst (λ m. InOrder m end edits) z h) l ∙ ap (λ m. take p items ++ substituted_from m (drop p items) edits) (sym z)

  after_change : (p : ℕ) (edits : List Edit) → after (Change p 0 new_cell ∷ edits) ≡ take p items ++ (new_cell ++ substituted_from p (drop p items) edits)
  after_change p edits =
      let z : p - 0 ≡ p = omega arith in
      let y : p + 0 ≡ p = omega arith in
      (λ i. take (z i) items ++ (new_cell ++ substituted_from (y i) (drop (z i) items) edits))

  -- the position of a change doesn't lie just inside the node that begins at a
  abbrev pub Apart : ℕ → List Edit → Type 0
  Apart a [] = Unit {0}
  Apart a (Change p count inserted ∷ edits) = (a < p → Elsewhere (depth_after 0 (drop (suc a) (take p items)))) × Apart a edits
  Apart a (Set p name value ∷ edits) = Apart a edits

  pub Apart-append : (a : ℕ) (xs ys : List Edit) → Apart a xs → Apart a ys → Apart a (xs ++ ys)
  Apart-append a [] ys x y = y
  Apart-append a (Change p count inserted ∷ xs) ys x y = (x.0, Apart-append a xs ys x.1 y)
  Apart-append a (Set p name value ∷ xs) ys x y = Apart-append a xs ys x y

  one_elsewhere : (p end : ℕ) (edits : List Edit) (a : ℕ) (nodes : List Open) → InOrder p end edits → p ≤ length items → (a < p → Elsewhere (depth_after 0 (drop (suc a) (take p items)))) →
      children (after edits) (to edits a) ≡ nodes → children (after (Change p 0 new_cell ∷ edits)) (past p (to edits a)) ≡ map (moved_by (past p)) nodes
  one_elsewhere p end edits a nodes h room apart old = by (nat_lt a p) refl
    where
      Y : List PlainItem
      Y = substituted_from p (drop p items) edits

      long : length (take p items) ≡ p
      long = length-take-le p items room

      by : (t : Bool) → nat_lt a p ≡ t → children (after (Change p 0 new_cell ∷ edits)) (past p (to edits a)) ≡ map (moved_by (past p)) nodes
      by true e =
          let l = ltb-true a p e in
          let same = to_before edits p end a h l in
          (λ i. children (after_change p edits i) ((ap (past p) same ∙ past-before p a l) i))
          ∙ children_before (take p items) Y p long a l (apart l)
          ∙ ap (map (moved_by (past p))) ((λ i. children (sym (after_cut p end edits h room) i) (sym same i)) ∙ old)
      by false e =
          let l = ltb-false a p e in
          let m = to_low edits a in
          (λ i. children (after_change p edits i) (past-after p (to edits a) (omega arith) i))
          ∙ children_after (take p items) Y p long (to edits a) (omega arith)
          ∙ ap (map (moved_by (past p))) (ap (λ v. children v (to edits a)) (sym (after_cut p end edits h room)) ∙ old)

  pub one_own : (p end : ℕ) (edits : List Edit) (a : ℕ) (nodes : List Open) → InOrder p end edits → p ≤ length items → a < p → depth_after 0 (drop (suc a) (take p items)) ≡ Some 0 →
      children (after edits) (to edits a) ≡ nodes → children (after (Change p 0 new_cell ∷ edits)) (past p (to edits a)) ≡ with_new p nodes
  one_own p end edits a nodes h room l just old =
      let Y = substituted_from p (drop p items) edits in
      let same = to_before edits p end a h l in
      (λ i. children (after_change p edits i) ((ap (past p) same ∙ past-before p a l) i))
      ∙ children_own (take p items) Y p (length-take-le p items room) a l just
      ∙ ap (with_new p) ((λ i. children (sym (after_cut p end edits h room) i) (sym same i)) ∙ old)

  -- an attribute that is set: the list but for one item
  record OneSet (p : ℕ) (name : List ℕ) (value : Option (List ℕ)) (edits : List Edit) : Type 0 where
    pub item : PlainItem
    pub rest : List PlainItem
    pub new : after (Set p name value ∷ edits) ≡ take p items ++ set_item name value item ∷ rest
    pub old : after edits ≡ take p items ++ item ∷ rest

  one_set : (p end : ℕ) (name : List ℕ) (value : Option (List ℕ)) (edits : List Edit) → InOrder (suc p) end edits → p < length items → OneSet p name value edits
  one_set p end name value edits h room =
      let x = some_there items p room in
      let z : p - 0 ≡ p = omega arith in
      let list = drop_at items p x.0 x.1 in
      let later = drop (suc p) items in
      record {
        item = x.0;
        rest = substituted_from (suc p) later edits;
        new = (λ i. take (z i) items ++ substituted_from p (on_first (item_changed (setting name value (drop (z i) items))) (drop (z i) items)) edits)
            ∙ ap (λ v. take p items ++ substituted_from p (on_first (item_changed (setting name value v)) v) edits) list
            ∙ ap (λ v. take p items ++ substituted_from p (v ∷ later) edits) (setting_first name value x.0 later)
            ∙ ap (λ v. take p items ++ v) (skip_first edits p end (set_item name value x.0) later h);
        old = after_cut p end edits (earlier_order p end edits h) (omega arith)
            ∙ ap (λ v. take p items ++ substituted_from p v edits) list ∙ ap (λ v. take p items ++ v) (skip_first edits p end x.0 later h);
      }
    where
      some_there : (xs : List PlainItem) (n : ℕ) → n < length xs → (x : PlainItem) × (slice_get xs n ≡ Some x)
      some_there [] n h = absurd (omega arith)
      some_there (x ∷ xs) zero h = (x, refl)
      some_there (x ∷ xs) (suc n) h = some_there xs n (omega arith)

  set_children : (p end : ℕ) (name : List ℕ) (value : Option (List ℕ)) (edits : List Edit) (a : ℕ) → InOrder (suc p) end edits → p < length items →
      children (after (Set p name value ∷ edits)) a ≡ children (after edits) a
  set_children p end name value edits a h room =
      let s = one_set p end name value edits h room in
      let P = take p items in
      children_same (after (Set p name value ∷ edits)) (after edits) a
      (ap (map shape_of) s.new ∙ map-append shape_of P (set_item name value s.item ∷ s.rest)
      ∙ ap (λ v. map shape_of P ++ v ∷ map shape_of s.rest) (shape_set (setting name value (s.item ∷ [])) s.item)
      ∙ sym (ap (map shape_of) s.old ∙ map-append shape_of P (s.item ∷ s.rest)))

  -- Where no change lies just inside a node, the same nodes stand in it.
  pub children_kept : (xs ys : List Edit) (end a : ℕ) (nodes : List Open) → Puts xs → InOrder 0 end (xs ++ ys) → end ≤ length items → Apart a xs →
      children (after ys) (to ys a) ≡ nodes → children (after (xs ++ ys)) (to (xs ++ ys) a) ≡ map (moved_by (to xs)) nodes
  children_kept [] ys end a nodes puts h room apart old = old ∙ sym (moved_none nodes)
  children_kept (Change p count inserted ∷ xs) ys end a nodes puts h room apart old =
      let z : p + count ≡ p = (let e = puts.0 in omega arith) in
      let order = subst (λ m. InOrder m end (xs ++ ys)) z h.1 in
      let fits = order_ends p end (xs ++ ys) order in
      let r = children_kept xs ys end a nodes puts.2 (InOrder-within p 0 end end (xs ++ ys) (omega arith) (omega arith) order) room apart.1 old in
      (λ i. children (after (Change p (puts.0 i) (puts.1 i) ∷ (xs ++ ys))) (past p (to (xs ++ ys) a)))
      ∙ one_elsewhere p end (xs ++ ys) a (map (moved_by (to xs)) nodes) order (omega arith) apart.0 r
      ∙ moved_twice (past p) (to xs) nodes
  children_kept (Set p name value ∷ xs) ys end a nodes puts h room apart old =
      let fits = order_ends (suc p) end (xs ++ ys) h.1 in
      set_children p end name value (xs ++ ys) (to (xs ++ ys) a) h.1 (omega arith)
      ∙ children_kept xs ys end a nodes puts (InOrder-within (suc p) 0 end end (xs ++ ys) (omega arith) (omega arith) h.1) room apart old

  -- what is read at a position of the list before one edit
  get_change : (p end : ℕ) (edits : List Edit) (b : ℕ) → InOrder p end edits → p ≤ length items → slice_get (after (Change p 0 new_cell ∷ edits)) (past p b) ≡ slice_get (after edits) b
  get_change p end edits b h room =
      ap (λ v. slice_get v (past p b)) (after_change p edits)
      ∙ get_past_new (take p items) (substituted_from p (drop p items) edits) p (length-take-le p items room) b
      ∙ ap (λ v. slice_get v b) (sym (after_cut p end edits h room))

  pub get_put : (p : ℕ) (edits : List Edit) → p ≤ length items → slice_get (after (Change p 0 new_cell ∷ edits)) p ≡ slice_get new_cell 0
  get_put p edits room = ap (λ v. slice_get v p) (after_change p edits) ∙ get_new (take p items) (substituted_from p (drop p items) edits) p (length-take-le p items room)

  get_set : (p end : ℕ) (name : List ℕ) (value : Option (List ℕ)) (edits : List Edit) (b : ℕ) → InOrder (suc p) end edits → p < length items →
      slice_get (after (Set p name value ∷ edits)) b ≡ (if p == b then set_in name value (slice_get (after edits) b) else slice_get (after edits) b)
  get_set p end name value edits b h room =
      let s = one_set p end name value edits h room in
      ap (λ v. slice_get v b) s.new
      ∙ at (take p items) p b s.item s.rest (length-take-le p items (omega arith))
      ∙ ap (λ v. if p == b then set_in name value (slice_get v b) else slice_get v b) (sym s.old)
    where
      at : (xs : List PlainItem) (n b : ℕ) (x : PlainItem) (rest : List PlainItem) → length xs ≡ n →
          slice_get (xs ++ set_item name value x ∷ rest) b ≡ (if n == b then set_in name value (slice_get (xs ++ x ∷ rest) b) else slice_get (xs ++ x ∷ rest) b)
      at [] n zero x rest e = ap (λ t. if t then Some (set_item name value x) else Some x) (sym (eq-eqb n 0 (sym e)))
      at [] n (suc b) x rest e = ap (λ t. if t then set_in name value (slice_get rest b) else slice_get rest b) (sym (ne_eqb n (suc b) (λ z. omega arith)))
      at (y ∷ xs) zero b x rest e = absurd (omega arith)
      at (y ∷ xs) (suc n) zero x rest e = ap (λ t. if t then set_in name value (Some y) else Some y) (sym (ne_eqb (suc n) 0 (λ z. omega arith)))
      at (y ∷ xs) (suc n) (suc b) x rest e =
          at xs n b x rest (omega arith)
          ∙ ap (λ t. if t then set_in name value (slice_get (xs ++ x ∷ rest) b) else slice_get (xs ++ x ∷ rest) b) (sym (suc_eq n b))

  -- what stands at an old position then
  pub get_kept : (edits : List Edit) (low end a : ℕ) → Puts edits → InOrder low end edits → end ≤ length items → slice_get (after edits) (to edits a) ≡ set_of edits a (slice_get items a)
  get_kept [] low end a puts h room = refl
  get_kept (Change p count inserted ∷ edits) low end a puts h room =
      let z : p + count ≡ p = (let e = puts.0 in omega arith) in
      let order = subst (λ m. InOrder m end edits) z h.1 in
      let fits = order_ends p end edits order in
      (λ i. slice_get (after (Change p (puts.0 i) (puts.1 i) ∷ edits)) (past p (to edits a)))
      ∙ get_change p end edits (to edits a) order (omega arith) ∙ get_kept edits p end a puts.2 order room
  get_kept (Set p name value ∷ edits) low end a puts h room =
      let fits = order_ends (suc p) end edits h.1 in
      let o = slice_get items a in
      get_set p end name value edits (to edits a) h.1 (omega arith)
      ∙ ap (λ v. if p == to edits a then set_in name value v else v) (get_kept edits (suc p) end a puts h.1 room)
      ∙ by (cases_eq p a)
    where
      o : Option PlainItem
      o = slice_get items a

      by : (p ≡ a) ⊎ ((p ≡ a) → ⊥) → (if p == to edits a then set_in name value (set_of edits a o) else set_of edits a o) ≡ set_of edits a (if p == a then set_in name value o else o)
      by (inl e) =
          let same : to edits a ≡ a = to_before edits (suc p) end a h.1 (omega arith) in
          ap (λ t. if t then set_in name value (set_of edits a o) else set_of edits a o) (eq-eqb p (to edits a) (e ∙ sym same))
          ∙ ap (set_in name value) (set_of-before edits (suc p) end a o h.1 (omega arith))
          ∙ sym (ap (λ t. set_of edits a (if t then set_in name value o else o)) (eq-eqb p a e) ∙ set_of-before edits (suc p) end a (set_in name value o) h.1 (omega arith))
      by (inr n) =
          ap (λ t. if t then set_in name value (set_of edits a o) else set_of edits a o) (ne_eqb p (to edits a) (far (nat_lt a p) refl))
          ∙ sym (ap (λ t. set_of edits a (if t then set_in name value o else o)) (ne_eqb p a n))
        where
          far : (t : Bool) → nat_lt a p ≡ t → p ≡ to edits a → ⊥
          far true e z = (let l = ltb-true a p e in let same = to_before edits (suc p) end a h.1 (omega arith) in n (z ∙ same))
          far false e z = (let l = ltb-false a p e in let low' = to_low edits a in n (omega arith))

  -- and what stands after the edits' positions
  pub get_beyond : (xs ys : List Edit) (low middle end b : ℕ) → Puts xs → InOrder low middle xs → InOrder 0 end (xs ++ ys) → end ≤ length items → middle ≤ b →
      slice_get (after (xs ++ ys)) (to xs b) ≡ slice_get (after ys) b
  get_beyond [] ys low middle end b puts g h room l = refl
  get_beyond (Change p count inserted ∷ xs) ys low middle end b puts g h room l =
      let z : p + count ≡ p = (let e = puts.0 in omega arith) in
      let order = subst (λ m. InOrder m end (xs ++ ys)) z h.1 in
      let fits = order_ends p end (xs ++ ys) order in
      (λ i. slice_get (after (Change p (puts.0 i) (puts.1 i) ∷ (xs ++ ys))) (past p (to xs b)))
      ∙ get_change p end (xs ++ ys) (to xs b) order (omega arith)
      ∙ get_beyond xs ys (p + count) middle end b puts.2 g.1 (InOrder-within p 0 end end (xs ++ ys) (omega arith) (omega arith) order) room l
  get_beyond (Set p name value ∷ xs) ys low middle end b puts g h room l =
      let fits = order_ends (suc p) end (xs ++ ys) h.1 in
      let near = order_ends (suc p) middle xs g.1 in
      let m = to_low xs b in
      get_set p end name value (xs ++ ys) (to xs b) h.1 (omega arith)
      ∙ ap (λ t. if t then set_in name value (slice_get (after (xs ++ ys)) (to xs b)) else slice_get (after (xs ++ ys)) (to xs b)) (ne_eqb p (to xs b) (λ e. omega arith))
      ∙ get_beyond xs ys (suc p) middle end b puts g.1 (InOrder-within (suc p) 0 end end (xs ++ ys) (omega arith) (omega arith) h.1) room l
