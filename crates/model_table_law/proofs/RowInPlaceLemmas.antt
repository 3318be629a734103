-- The position of a new row: the section that it stands in directly, and the rows before it and
-- after it.
use Rattle.std.proofs.Common.{◌≡◌, ℕ, zero, suc, ◌+◌, ◌-◌, ◌<◌, ◌≤◌, cond, List, [], ◌∷◌, ◌++◌, length, map, take, drop, Some, None, refl, sym, ap, ◌∙◌, arith, length-append, append-nil}
use Rattle.std.proofs.lemmas.List.{append_assoc}
use Rattle.ve_kinds.specs.declared.kind.Kind.{Kind}
use Rattle.ve_kinds.specs.declared.kind.Kind.TheVariants.{Tr}
use Rattle.model_items.specs.declared.plain_item.PlainItem.{PlainItem}
use Rattle.model_items.specs.declared.plain_item.PlainItem.TheVariants.{Char, Opening, Closing}
use Rattle.model_items.specs.Law.{Lawful}
use Rattle.model_items.specs.Tree.{Open, length_to_close, Shape, Begin, End, shape_of}
use Rattle.model_items.specs.Offsets.{partner, end_of_node}
use Rattle.model_edit.specs.Grid.{children_of}
use Rattle.model_edit_law.proofs.BracketLemmas.{node_parts, slice_get-split}
use Rattle.model_edit_law.proofs.SiblingLemmas.{nodes_in, siblings-shapes, passed}
use Rattle.model_edit_law.proofs.TableSetLemmas.{length_map, map-append}
use Rattle.model_edit_law.proofs.TablePlaceLemmas.{Opens}
use Rattle.model_table_law.proofs.RowInNodesLemmas.{depth_after, depth_then, depth_append, depth_deeper, nodes_through, children-shapes, of_kinds, of_kinds-append, begins}

-- what stands in a node leaves the depth as it is
pub inside_level : (k : Kind) (pre : List ℕ) (inside : List PlainItem) (e d : ℕ) →
    ((other : List PlainItem) → length_to_close e (inside ++ Closing k pre ∷ other) ≡ suc (length inside)) →
    depth_after (e + d) (map shape_of inside) ≡ Some d
inside_level k pre [] zero d h = (let z : 0 + d ≡ d = omega arith in ap Some z)
inside_level k pre [] (suc e) d h = absurd (let z : suc (suc (length_to_close e [])) ≡ 1 = h (Char 0 [] ∷ []) in omega arith)
inside_level k pre (Char c marks ∷ inside) e d h = inside_level k pre inside e d (λ other. let z = h other in omega arith)
inside_level k pre (Opening kind head marks pre' origin generated ∷ inside) e d h =
    let z : suc (e + d) ≡ suc e + d = omega arith in
    ap (λ m. depth_after m (map shape_of inside)) z ∙ inside_level k pre inside (suc e) d (λ other. let z = h other in omega arith)
inside_level k pre (Closing kind pre' ∷ inside) zero d h = absurd (let z : 1 ≡ suc (suc (length inside)) = h [] in omega arith)
inside_level k pre (Closing kind pre' ∷ inside) (suc e) d h =
    let z : suc e + d ≡ suc (e + d) = omega arith in
    ap (λ m. depth_after m (End kind ∷ map shape_of inside)) z ∙ inside_level k pre inside e d (λ other. let z = h other in omega arith)

take_none : (m : ℕ) → take {A = Shape} m [] ≡ []
take_none zero = refl
take_none (suc m) = refl

drop_none : (m : ℕ) → drop {A = Shape} m [] ≡ []
drop_none zero = refl
drop_none (suc m) = refl

drop_more : (j far : ℕ) (xs : List Shape) → drop far (drop j xs) ≡ drop (j + far) xs
drop_more zero far xs = let z : far ≡ zero + far = omega arith in ap (λ m. drop m xs) z
drop_more (suc j) far [] = drop_none far ∙ sym (drop_none (suc j + far))
drop_more (suc j) far (x ∷ xs) = let z : suc j + far ≡ suc (j + far) = omega arith in drop_more j far xs ∙ ap (λ m. drop m (x ∷ xs)) (sym z)

drop_take : (k far : ℕ) (xs : List Shape) → drop k (take (k + far) xs) ≡ take far (drop k xs)
drop_take zero far xs = let z : zero + far ≡ far = omega arith in ap (λ m. take m xs) z
drop_take (suc k) far [] = let z : suc k + far ≡ suc (k + far) = omega arith in ap (λ m. drop (suc k) (take m [])) z ∙ sym (take_none far)
drop_take (suc k) far (x ∷ xs) = let z : suc k + far ≡ suc (k + far) = omega arith in ap (λ m. drop (suc k) (take m (x ∷ xs))) z ∙ drop_take k far xs

take_more : (n m : ℕ) (xs : List Shape) → take (n + m) xs ≡ take n xs ++ take m (drop n xs)
take_more zero m xs = let z : zero + m ≡ m = omega arith in ap (λ j. take j xs) z
take_more (suc n) m [] = take_none (suc n + m) ∙ sym (take_none m)
take_more (suc n) m (x ∷ xs) = let z : suc n + m ≡ suc (n + m) = omega arith in ap (λ j. take j (x ∷ xs)) z ∙ ap (λ v. x ∷ v) (take_more n m xs)

take_long : (xs ys : List Shape) (m : ℕ) → take (length xs + m) (xs ++ ys) ≡ xs ++ take m ys
take_long [] ys m = let z : 0 + m ≡ m = omega arith in ap (λ j. take j ys) z
take_long (x ∷ xs) ys m = let z : suc (length xs) + m ≡ suc (length xs + m) = omega arith in ap (λ j. take j (x ∷ (xs ++ ys))) z ∙ ap (λ v. x ∷ v) (take_long xs ys m)

-- a node of a list in shapes
pub record NodeShapes (items : List PlainItem) (kind : Kind) (at : ℕ) : Type 0 where
  pub inside : List Shape
  pub rest : List Shape
  pub whole : drop at (map shape_of items) ≡ Begin kind ∷ (inside ++ End kind ∷ rest)
  pub size : partner items at ≡ at + suc (length inside)
  pub level : (d : ℕ) → depth_after d inside ≡ Some d
  pub none : (q : ℕ) → nodes_in 1 q (inside ++ End kind ∷ []) ≡ []

pub node_shapes : (items : List PlainItem) (kind : Kind) (at : ℕ) → Lawful items → Opens items kind at → NodeShapes items kind at
node_shapes items kind at lawful o =
    let x = Opening kind o.head o.marks o.pre o.origin o.generated in
    let np = node_parts items at kind o.head o.marks o.pre o.origin o.generated lawful o.here in
    let c = np.closed in
    let far = np.its_partner in
    let split = slice_get-split items at x o.here in
    let M = map shape_of c.inside in
    let long = length_map shape_of c.inside in
    let cut : length (map shape_of (take at items)) ≡ at = length_map shape_of (take at items) ∙ split.1 in
    let parts : map shape_of items ≡ map shape_of (take at items) ++ (Begin kind ∷ (M ++ End kind ∷ map shape_of c.rest)) =
    ap (map shape_of) (split.0 ∙ ap (λ v. take at items ++ x ∷ v) c.whole)
    ∙ map-append shape_of (take at items) (x ∷ (c.inside ++ Closing kind c.pre ∷ c.rest))
    ∙ ap (λ v. map shape_of (take at items) ++ Begin kind ∷ v) (map-append shape_of c.inside (Closing kind c.pre ∷ c.rest)) in
    record {
      inside = M;
      rest = map shape_of c.rest;
      whole = ap (drop at) parts ∙ dropped (map shape_of (take at items)) _ at cut;
      size = omega arith;
      level = λ d. (let z : d ≡ 0 + d = omega arith in ap (λ m. depth_after m M) z ∙ inside_level kind c.pre c.inside 0 d c.ends);
      none = λ q. ap (nodes_in 1 q) (sym (map-append shape_of c.inside (Closing kind c.pre ∷ []))) ∙ sym (siblings-shapes 1 q (c.inside ++ Closing kind c.pre ∷ []))
          ∙ passed kind c.pre [] c.inside 0 0 q (q + suc (length c.inside)) c.ends refl;
    }
  where
    dropped : (xs ys : List Shape) (n : ℕ) → length xs ≡ n → drop n (xs ++ ys) ≡ ys
    dropped [] ys zero e = refl
    dropped [] ys (suc n) e = absurd (omega arith)
    dropped (x ∷ xs) ys zero e = absurd (omega arith)
    dropped (x ∷ xs) ys (suc n) e = dropped xs ys n (omega arith)

module _ (items : List PlainItem) (lawful : Lawful items) (p : ℕ) where
  abbrev S : List Shape
  S = map shape_of items

  abbrev pub before : ℕ → List Shape
  before at = drop (suc at) (take p S)

  before_is : (at far : ℕ) → p ≡ suc at + far → before at ≡ take far (drop (suc at) S)
  before_is at far e = ap (λ m. drop (suc at) (take m S)) e ∙ drop_take (suc at) far S

  -- the walk in a node that ends before the position has ended there
  pub node_ended : (kind : Kind) (at : ℕ) → Opens items kind at → end_of_node items at ≤ p → depth_after 0 (before at) ≡ None
  node_ended kind at o l =
      let n = node_shapes items kind at lawful o in
      let size = n.size in
      let far = p - suc at in
      let j = far - length n.inside in
      let z : far ≡ length n.inside + suc (j - 1) = omega arith in
      let w : p ≡ suc at + far = omega arith in
      let y : suc at ≡ at + 1 = omega arith in
      ap (depth_after 0) (before_is at far w
      ∙ ap (take far) (ap (λ k. drop k S) y ∙ sym (drop_more at 1 S) ∙ ap (drop 1) n.whole)
      ∙ ap (λ m. take m (n.inside ++ End kind ∷ n.rest)) z
      ∙ take_long n.inside (End kind ∷ n.rest) (suc (j - 1)))
      ∙ depth_append n.inside (End kind ∷ take (j - 1) n.rest) 0
      ∙ ap (λ v. depth_then v (End kind ∷ take (j - 1) n.rest)) (n.level 0)

  -- the position is right in a node, after these of its nodes
  pub record Gap (kinds : List Kind) (at : ℕ) (those : List Open) : Type 0 where
    pub near : at < p
    pub level : depth_after 0 (before at) ≡ Some 0
    pub first : of_kinds kinds (nodes_in 0 (suc at) (before at)) ≡ those

  pub gap_before : (kinds : List Kind) (at : ℕ) (xs : List Open) (o : Open) (ys : List Open) → children_of kinds items at ≡ xs ++ o ∷ ys → p ≡ o.from →
      Gap kinds at xs
  gap_before kinds at xs o ys h e =
      let b = begins kinds (drop (suc at) S) 0 (suc at) xs o ys (ap (of_kinds kinds) (sym (children-shapes items at)) ∙ h) in
      let place = b.place in
      let u = before_is at b.far (omega arith) in
      record {
        near = omega arith;
        level = ap (depth_after 0) u ∙ b.level;
        first = ap (λ v. of_kinds kinds (nodes_in 0 (suc at) v)) u ∙ b.those;
      }

  pub gap_after : (kinds : List Kind) (at : ℕ) (xs : List Open) (o : Open) (ys : List Open) → children_of kinds items at ≡ xs ++ o ∷ ys → (kind : Kind) →
      Opens items kind o.from → p ≡ end_of_node items o.from →
      Gap kinds at (xs ++ o ∷ [])
  gap_after kinds at xs o ys h kind opens e =
      let b = begins kinds (drop (suc at) S) 0 (suc at) xs o ys (ap (of_kinds kinds) (sym (children-shapes items at)) ∙ h) in
      let n = node_shapes items kind o.from lawful opens in
      let size = n.size in
      let place = b.place in
      let T = drop (suc at) S in
      let node = Begin kind ∷ (n.inside ++ End kind ∷ []) in
      let m = suc (suc (length n.inside)) in
      let long : length node + 0 ≡ m = omega (arith, length-append n.inside (End kind ∷ [])) in
      let start : drop b.far T ≡ node ++ n.rest =
      drop_more (suc at) b.far S ∙ ap (λ k. drop k S) (sym place) ∙ n.whole ∙ ap (λ v. Begin kind ∷ v) (sym (append_assoc n.inside (End kind ∷ []) n.rest)) in
      let same : kind ≡ o.kind = begin_same kind o.kind _ _ (sym start ∙ b.here) in
      let u : before at ≡ take b.far T ++ node =
      before_is at (b.far + m) (omega arith)
      ∙ take_more b.far m T
      ∙ ap (λ v. take b.far T ++ take m v) start
      ∙ ap (λ k. take b.far T ++ take k (node ++ n.rest)) (sym long)
      ∙ ap (λ v. take b.far T ++ v) (take_long node n.rest 0 ∙ append-nil node) in
      let level : depth_after 0 node ≡ Some 0 =
      depth_append n.inside (End kind ∷ []) 1 ∙ ap (λ v. depth_then v (End kind ∷ [])) (n.level 1) in
      let cut : suc at + b.far ≡ suc at + length (take b.far T) = (let f = b.fits in ap (λ k. suc at + k) (sym (Rattle.std.proofs.lemmas.List.length-take-le b.far T (omega arith)))) in
      let kept : of_kinds kinds (record { kind = o.kind; from = o.from } ∷ []) ≡ o ∷ [] = ap (λ t. cond t (o ∷ []) []) b.among in
      record {
        near = omega arith;
        level = ap (depth_after 0) u ∙ depth_append (take b.far T) node 0 ∙ ap (λ v. depth_then v node) b.level ∙ level;
        first =
            ap (λ v. of_kinds kinds (nodes_in 0 (suc at) v)) u
            ∙ ap (of_kinds kinds) (nodes_through (take b.far T) node 0 (suc at) 0 (suc at + b.far) b.level cut)
            ∙ of_kinds-append kinds (nodes_in 0 (suc at) (take b.far T)) (nodes_in 0 (suc at + b.far) node)
            ∙ (λ i. b.those i ++ (ap (λ v. of_kinds kinds (record { kind = kind; from = suc at + b.far } ∷ v)) (n.none (suc (suc at + b.far)))
            ∙ (λ j. of_kinds kinds (record { kind = same j; from = sym place j } ∷ []))
            ∙ kept) i);
      }
    where
      kind_in : List Shape → Kind
      kind_in (Begin k ∷ shapes) = k
      kind_in _ = Tr

      begin_same : (k l : Kind) (xs ys : List Shape) → ◌≡◌ {A = List Shape} (Begin k ∷ xs) (Begin l ∷ ys) → k ≡ l
      begin_same k l xs ys e = ap kind_in e

  -- a node round that one is not ended there, and one more is open
  pub gap_round : (kinds : List Kind) (at : ℕ) (xs : List Open) (o : Open) (ys : List Open) → children_of kinds items at ≡ xs ++ o ∷ ys → o.from < p →
      depth_after 0 (before o.from) ≡ Some 0 →
      (at < p) × (depth_after 0 (before at) ≡ Some 1)
  gap_round kinds at xs o ys h l level =
      let b = begins kinds (drop (suc at) S) 0 (suc at) xs o ys (ap (of_kinds kinds) (sym (children-shapes items at)) ∙ h) in
      let place = b.place in
      let T = drop (suc at) S in
      let m = p - suc o.from in
      let w : suc at + suc b.far ≡ suc o.from = omega arith in
      let u : before at ≡ take b.far T ++ Begin o.kind ∷ take m (drop (suc o.from) S) =
      before_is at (b.far + suc m) (omega arith)
      ∙ take_more b.far (suc m) T
      ∙ ap (λ v. take b.far T ++ take (suc m) v) b.here
      ∙ ap (λ v. take b.far T ++ Begin o.kind ∷ take m v) (drop_more (suc at) (suc b.far) S ∙ ap (λ k. drop k S) w) in
      let v = before_is o.from m (omega arith) in (
        omega arith,
        ap (depth_after 0) u
            ∙ depth_append (take b.far T) (Begin o.kind ∷ take m (drop (suc o.from) S)) 0
            ∙ ap (λ v. depth_then v (Begin o.kind ∷ take m (drop (suc o.from) S))) b.level
            ∙ depth_deeper (take m (drop (suc o.from) S)) 0 0 (ap (depth_after 0) (sym v) ∙ level),
      )
