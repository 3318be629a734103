-- A node under an edit, from what becomes of each of those in it that matter.
use Rattle.std.specs.Prelude.{filter}
use Rattle.std.proofs.Common.{◌≡◌, ℕ, zero, suc, ◌+◌, ◌-◌, ◌≤◌, Bool, true, false, cond, List, [], ◌∷◌, ◌++◌, length, take, drop, Option, refl, sym, ap, ◌∙◌, subst, arith, length-append, append-nil}
use Rattle.std.proofs.lemmas.List.{append_assoc}
use Rattle.ve_kinds.specs.declared.kind.Kind.{Kind}
use Rattle.ve_kinds.specs.Table.{is_among}
use Rattle.ve_base.specs.declared.head.Head.{Head}
use Rattle.ve_base.specs.declared.marks.Mark.{Mark}
use Rattle.model_items.specs.declared.plain_item.PlainItem.{PlainItem}
use Rattle.model_items.specs.declared.plain_item.PlainItem.TheVariants.{Char, Opening, Closing}
use Rattle.model_items.specs.Law.{Lawful}
use Rattle.model_items.specs.Tree.{Open, length_to_close}
use Rattle.model_items.specs.Offsets.{partner, partner_of, end_of_node, siblings, children}
use Rattle.model_edit.specs.Edits.{Edit}
use Rattle.model_edit_law.proofs.BracketLemmas.{node_parts}
use Rattle.model_edit_law.proofs.SiblingLemmas.{passed}
use Rattle.model_edit_law.proofs.TableFineLemmas.{drop_at}
use Rattle.model_edit_law.proofs.TablePlaceLemmas.{Opens, from_of}
use Rattle.model_table_law.specs.Cells.{inside}
use Rattle.model_table_law.proofs.ReadLemmas.{Level, InTable, InSection, InRow, entered, drop_next, get_first}
use Rattle.model_table_law.proofs.PieceLemmas.{Walk, Turned, Turned-join, Turned-kept, Walk-none, Walk-char, Walk-other, Walk-section, Walk-section_end, Walk-row, Walk-row_end, Ends, closed_by, closed-append, take_before}

-- the items of the node that begins at a position
abbrev pub piece : List PlainItem → ℕ → List PlainItem
piece items at = take (end_of_node items at - at) (drop at items)

-- a node that begins at a position, in parts
pub record Node (items : List PlainItem) (kind : Kind) (at : ℕ) : Type 0 where
  pub head : Head
  pub marks : List Mark
  pub pre : List ℕ
  pub origin : Option ℕ
  pub generated : Bool
  pub within : List PlainItem
  pub closing : Kind
  pub white : List ℕ
  pub rest : List PlainItem
  pub whole : drop at items ≡ Opening kind head marks pre origin generated ∷ (within ++ Closing closing white ∷ rest)
  pub ends : Ends closing white within

take_past : (xs : List PlainItem) (x : PlainItem) (rest : List PlainItem) → take (suc (length xs)) (xs ++ x ∷ rest) ≡ xs ++ x ∷ []
take_past [] x rest = refl
take_past (y ∷ xs) x rest = ap (λ v. y ∷ v) (take_past xs x rest)

module _ {items : List PlainItem} {kind : Kind} {at : ℕ} (n : Node items kind at) where
  abbrev x : PlainItem
  x = Opening kind n.head n.marks n.pre n.origin n.generated

  pub node_partner : partner items at ≡ at + suc (length n.within)
  node_partner =
      ap (λ o. partner_of o items at) (get_first at items x (n.within ++ Closing n.closing n.white ∷ n.rest) n.whole)
      ∙ ap (λ v. at + length_to_close 0 v) (drop_next at items x (n.within ++ Closing n.closing n.white ∷ n.rest) n.whole)
      ∙ ap (λ m. at + m) (n.ends n.rest)

  pub node_piece : piece items at ≡ x ∷ closed_by n.closing n.white n.within
  node_piece =
      let far = node_partner in
      let z : suc (partner items at) - at ≡ suc (suc (length n.within)) = omega arith in
      (λ i. take (z i) (n.whole i)) ∙ ap (λ v. x ∷ v) (take_past n.within (Closing n.closing n.white) n.rest)

  pub node_inside_is : inside items at ≡ n.within
  node_inside_is =
      let far = node_partner in
      let z : partner items at - suc at ≡ length n.within = omega arith in
      (λ i. take (z i) (drop_next at items x (n.within ++ Closing n.closing n.white ∷ n.rest) n.whole i))
      ∙ take_before n.within (Closing n.closing n.white ∷ n.rest)

-- in a lawful list every opening begins such a node
pub lawful_node : (items : List PlainItem) (kind : Kind) (at : ℕ) → Lawful items → Opens items kind at → Node items kind at
lawful_node items kind at lawful o =
    let p = node_parts items at kind o.head o.marks o.pre o.origin o.generated lawful o.here in
    let c = p.closed in
    let x = Opening kind o.head o.marks o.pre o.origin o.generated in
    record {
      head = o.head;
      marks = o.marks;
      pre = o.pre;
      origin = o.origin;
      generated = o.generated;
      within = c.inside;
      closing = kind;
      white = c.pre;
      rest = c.rest;
      whole = drop_at items at x o.here ∙ ap (λ v. x ∷ v) c.whole;
      ends = c.ends;
    }

-- the first node that closes in what stands in another, and what follows it there
record Split (k : Kind) (white : List ℕ) (d : ℕ) (xs : List PlainItem) : Type 0 where
  pub within : List PlainItem
  pub closing : Kind
  pub its_white : List ℕ
  pub later : List PlainItem
  pub whole : xs ≡ within ++ Closing closing its_white ∷ later
  pub ends : (other : List PlainItem) → length_to_close d (within ++ Closing closing its_white ∷ other) ≡ suc (length within)
  pub left : Ends k white later

module _ (k : Kind) (white : List ℕ) where
  less : (m n : ℕ) → suc m ≡ suc n → m ≡ n
  less m n e = omega arith

  -- one more item before, under which the depth is another
  split_more : (x : PlainItem) (xs : List PlainItem) (d d' : ℕ) → ((list : List PlainItem) → length_to_close d (x ∷ list) ≡ suc (length_to_close d' list)) →
      Split k white d' xs → Split k white d (x ∷ xs)
  split_more x xs d d' step s = record {
    within = x ∷ s.within;
    closing = s.closing;
    its_white = s.its_white;
    later = s.later;
    whole = ap (λ v. x ∷ v) s.whole;
    ends = λ other. step (s.within ++ Closing s.closing s.its_white ∷ other) ∙ ap suc (s.ends other);
    left = s.left;
  }

  split_node : (xs : List PlainItem) (d : ℕ) → ((other : List PlainItem) → length_to_close (suc d) (xs ++ Closing k white ∷ other) ≡ suc (length xs)) →
      Split k white d xs
  split_node [] d h = absurd (let z : suc (suc (length_to_close d [])) ≡ 1 = h (Char 0 [] ∷ []) in omega arith)
  split_node (Char c marks ∷ xs) d h = split_more (Char c marks) xs d d (λ list. refl) (split_node xs d (λ other. less _ _ (h other)))
  split_node (Opening kind head marks pre origin generated ∷ xs) d h =
      split_more (Opening kind head marks pre origin generated) xs d (suc d) (λ list. refl) (split_node xs (suc d) (λ other. less _ _ (h other)))
  split_node (Closing kind pre ∷ xs) zero h =
      record { within = []; closing = kind; its_white = pre; later = xs; whole = refl; ends = λ other. refl; left = λ other. less _ _ (h other) }
  split_node (Closing kind pre ∷ xs) (suc d) h = split_more (Closing kind pre) xs (suc d) d (λ list. refl) (split_node xs d (λ other. less _ _ (h other)))

-- Nodes that stand at positions of things, each with its part of the edits and of what is read.
abbrev pub AllTurned : {A : Type 0} → (A → ℕ) → List PlainItem → Level → List A → List Edit → List (List PlainItem) → Type 0
AllTurned f items level [] edits out = (edits ≡ []) × (out ≡ [])
AllTurned f items level (x ∷ xs) edits out =
    (own : List Edit) × (more : List Edit) × (read : List (List PlainItem)) × (later : List (List PlainItem))
    × (edits ≡ own ++ more) × (out ≡ read ++ later) × Turned level level (f x) (piece items (f x)) own read × AllTurned f items level xs more later

module _ (items : List PlainItem) (level : Level) (k : Kind) (white : List ℕ) (rest : List PlainItem) where
  abbrev kids : (depth at : ℕ) → List PlainItem → List Open
  kids depth at xs = filter (λ (o : Open). is_among (entered level) o.kind) (siblings depth at (xs ++ Closing k white ∷ rest))

  -- Between the nodes that the walk enters nothing is read and nothing changes.
  pub turned_within : (most : ℕ) (xs : List PlainItem) (at : ℕ) (edits : List Edit) (out : List (List PlainItem)) → length xs ≤ most →
      drop at items ≡ xs ++ Closing k white ∷ rest → Ends k white xs →
      AllTurned from_of items level (kids 0 at xs) edits out → Turned level level at xs edits out
  turned_within most [] at edits out l e ends all =
      subst (λ v. Turned level level at [] v out) (sym all.0) (subst (λ v. Turned level level at [] [] v) (sym all.1) (Turned-kept at [] [] Walk-none))
  turned_within zero (x ∷ xs) at edits out l e ends all = absurd (omega arith)
  turned_within (suc most) (Closing kind pre ∷ xs) at edits out l e ends all = absurd (let z : 1 ≡ suc (suc (length xs)) = ends [] in omega arith)
  turned_within (suc most) (Char c marks ∷ xs) at edits out l e ends all =
      let less : (m n : ℕ) → suc m ≡ suc n → m ≡ n = (λ m n z. omega arith) in
      Turned-join at (suc at) (Char c marks ∷ []) xs [] edits [] out (omega arith) (Turned-kept at (Char c marks ∷ []) [] (Walk-char c marks))
      (turned_within most xs (suc at) edits out (omega arith) (drop_next at items (Char c marks) (xs ++ Closing k white ∷ rest) e) (λ other. less _ _ (ends other)) all)
  turned_within (suc most) (Opening kind head marks pre origin generated ∷ xs) at edits out l e ends all =
      by (is_among (entered level) kind) refl (subst (λ v. AllTurned from_of items level v edits out) first all)
      (λ more_edits more_out some. turned_within most s.later next more_edits more_out
      (let z = ap length s.whole in omega (arith, length-append s.within (Closing s.closing s.its_white ∷ s.later))) there s.left some)
    where
      s : Split k white 0 xs
      s = split_node k white xs 0 (λ other. let z = ends other in omega arith)

      x : PlainItem
      x = Opening kind head marks pre origin generated

      next : ℕ
      next = at + suc (suc (length s.within))

      tail : List PlainItem
      tail = s.later ++ Closing k white ∷ rest

      parts : xs ++ Closing k white ∷ rest ≡ s.within ++ Closing s.closing s.its_white ∷ tail
      parts = ap (λ v. v ++ Closing k white ∷ rest) s.whole ∙ append_assoc s.within (Closing s.closing s.its_white ∷ s.later) (Closing k white ∷ rest)

      whole : drop at items ≡ x ∷ (s.within ++ Closing s.closing s.its_white ∷ tail)
      whole = e ∙ ap (λ v. x ∷ v) parts

      node : Node items kind at
      node =
          record { head = head; marks = marks; pre = pre; origin = origin; generated = generated; within = s.within; closing = s.closing; white = s.its_white; rest = tail; whole = whole; ends = s.ends }

      own : List PlainItem
      own = x ∷ closed_by s.closing s.its_white s.within

      long : length own ≡ suc (suc (length s.within))
      long = omega (arith, length-append s.within (Closing s.closing s.its_white ∷ []))

      there : drop next items ≡ tail
      there = past own at (whole ∙ ap (λ v. x ∷ v) (sym (closed-append s.closing s.its_white s.within tail))) (ap (λ m. at + m) (sym long))
        where
          past : (ys : List PlainItem) (q : ℕ) → drop q items ≡ ys ++ tail → next ≡ q + length ys → drop next items ≡ tail
          past [] q e z = let y : next ≡ q = omega arith in ap (λ m. drop m items) y ∙ e
          past (y ∷ ys) q e z = past ys (suc q) (drop_next q items y (ys ++ tail) e) (omega arith)

      first : kids 0 at (x ∷ xs) ≡ cond (is_among (entered level) kind) (record { kind = kind; from = at } ∷ kids 0 next s.later) (kids 0 next s.later)
      first =
          let z : next ≡ suc at + suc (length s.within) = omega arith in
          ap (λ v. cond (is_among (entered level) kind) (record { kind = kind; from = at } ∷ filter
          (λ (o : Open). is_among (entered level) o.kind) v) (filter (λ (o : Open). is_among (entered level) o.kind) v))
          (ap (siblings 1 (suc at)) parts ∙ passed s.closing s.its_white tail s.within 0 0 (suc at) next s.ends z)

      all_parts : x ∷ xs ≡ own ++ s.later
      all_parts = ap (λ v. x ∷ v) (s.whole ∙ sym (closed-append s.closing s.its_white s.within s.later))

      by : (b : Bool) → is_among (entered level) kind ≡ b →
          AllTurned from_of items level (cond b (record { kind = kind; from = at } ∷ kids 0 next s.later) (kids 0 next s.later)) edits out →
          ((more_edits : List Edit) (more_out : List (List PlainItem)) → AllTurned from_of items level
          (kids 0 next s.later) more_edits more_out → Turned level level next s.later more_edits more_out) →
          Turned level level at (x ∷ xs) edits out
      by true t a later =
          let one : Turned level level at own a.0 a.2 = subst (λ v. Turned level level at v a.0 a.2) (node_piece node) a.6 in
          let both = Turned-join at next own s.later a.0 a.1 a.2 a.3 (ap (λ m. at + m) (sym long)) one (later a.1 a.3 a.7) in
          subst (λ v. Turned level level at v edits out) (sym all_parts)
          (subst (λ v. Turned level level at (own ++ s.later) v out) (sym a.4) (subst (λ v. Turned level level at (own ++ s.later) (a.0 ++ a.1) v) (sym a.5) both))
      by false t a later =
          let one : Turned level level at own [] [] =
          Turned-kept at own [] (Walk-other level kind head marks pre origin generated s.closing s.its_white s.within t s.ends) in
          subst (λ v. Turned level level at v edits out) (sym all_parts)
          (Turned-join at next own s.later [] edits [] out (ap (λ m. at + m) (sym long)) one (later edits out a))

-- what a node's kids become makes what it becomes
module _ (items : List PlainItem) (kind : Kind) (at : ℕ) (n : Node items kind at) (edits : List Edit) (out : List (List PlainItem)) where
  abbrev x' : PlainItem
  x' = Opening kind n.head n.marks n.pre n.origin n.generated

  pub turned_inside : (level : Level) → AllTurned from_of items level
      (filter (λ (o : Open). is_among (entered level) o.kind) (children items at)) edits out → Turned level level (suc at) n.within edits out
  turned_inside level all =
      let rest = drop_next at items x' (n.within ++ Closing n.closing n.white ∷ n.rest) n.whole in
      turned_within items level n.closing n.white n.rest (length n.within) n.within (suc at) edits out (omega arith) rest n.ends
      (subst (λ v. AllTurned from_of items level (filter (λ (o : Open). is_among (entered level) o.kind) (siblings 0 (suc at) v)) edits out) rest all)

  -- with its brackets
  pub turned_node : (outer level : Level) → Walk outer level (x' ∷ []) [] → Walk level outer (Closing n.closing n.white ∷ []) [] →
      Turned level level (suc at) n.within edits out → Turned outer outer at (piece items at) edits out
  turned_node outer level opens closes t =
      let closed = Turned-join (suc at) (suc at + length n.within) n.within (Closing n.closing n.white ∷ []) edits [] out [] refl t
      (Turned-kept (suc at + length n.within) (Closing n.closing n.white ∷ []) [] closes) in
      let whole = Turned-join at (suc at) (x' ∷ []) (closed_by n.closing n.white n.within) [] (edits ++ []) [] (out ++ []) (omega arith)
      (Turned-kept at (x' ∷ []) [] opens) closed in
      subst (λ v. Turned outer outer at v edits out) (sym (node_piece n))
      (subst (λ v. Turned outer outer at (x' ∷ closed_by n.closing n.white n.within) v out) (append-nil edits)
      (subst (λ v. Turned outer outer at (x' ∷ closed_by n.closing n.white n.within) (edits ++ []) v) (append-nil out) whole))

  pub turned_row : is_among (entered InSection) kind ≡ true →
      AllTurned from_of items InRow (filter (λ (o : Open). is_among (entered InRow) o.kind) (children items at)) edits out →
      Turned InSection InSection at (piece items at) edits out
  turned_row t all =
      turned_node InSection InRow (Walk-row kind n.head n.marks n.pre n.origin n.generated t) (Walk-row_end n.closing n.white) (turned_inside InRow all)

  pub turned_section : is_among (entered InTable) kind ≡ true →
      AllTurned from_of items InSection (filter (λ (o : Open). is_among (entered InSection) o.kind) (children items at)) edits out →
      Turned InTable InTable at (piece items at) edits out
  turned_section t all =
      turned_node InTable InSection (Walk-section kind n.head n.marks n.pre n.origin n.generated t) (Walk-section_end n.closing n.white) (turned_inside InSection all)
