-- A list with a node put in: in the node that it stands in directly is one more, in each other
-- stand the same, and those after it are moved.
use Rattle.std.specs.Prelude.{filter}
use Rattle.std.proofs.Common.{◌≡◌, ℕ, zero, suc, ◌+◌, ◌-◌, ◌<◌, ◌≤◌, Bool, true, false, cond, if◌then◌else◌, nat_lt, List, [], ◌∷◌, ◌++◌, length, map, take, drop, Option, Some, None, refl, sym, ap, ◌∙◌, subst, arith, length-drop}
use Rattle.std.proofs.lemmas.Bool.{lt-ltb}
use Rattle.std.proofs.lemmas.List.{drop-append-le, take-append-drop, length-take-le}
use Rattle.std.proofs.Math.Seq.{drop-append-add}
use Rattle.ve_kinds.specs.declared.kind.Kind.{Kind}
use Rattle.ve_kinds.specs.Table.{is_among}
use Rattle.model_items.specs.declared.plain_item.PlainItem.{PlainItem}
use Rattle.model_items.specs.Tree.{Open, Shape, Letter, Begin, End, shape_of}
use Rattle.model_items.specs.Offsets.{children}
use Rattle.model_edit_law.proofs.SiblingLemmas.{nodes_in, siblings-shapes, no_less}
use Rattle.model_edit_law.proofs.TableSetLemmas.{map-append}

-- how many nodes are open after what stands at a depth, none where the walk has ended
abbrev pub depth_after : ℕ → List Shape → Option ℕ
depth_after depth [] = Some depth
depth_after depth (Letter ∷ shapes) = depth_after depth shapes
depth_after depth (Begin kind ∷ shapes) = depth_after (suc depth) shapes
depth_after zero (End kind ∷ shapes) = None
depth_after (suc depth) (End kind ∷ shapes) = depth_after depth shapes

abbrev pub depth_then : Option ℕ → List Shape → Option ℕ
depth_then None shapes = None
depth_then (Some depth) shapes = depth_after depth shapes

pub depth_append : (xs ys : List Shape) (d : ℕ) → depth_after d (xs ++ ys) ≡ depth_then (depth_after d xs) ys
depth_append [] ys d = refl
depth_append (Letter ∷ xs) ys d = depth_append xs ys d
depth_append (Begin kind ∷ xs) ys d = depth_append xs ys (suc d)
depth_append (End kind ∷ xs) ys zero = refl
depth_append (End kind ∷ xs) ys (suc d) = depth_append xs ys d

-- one deeper
pub depth_deeper : (xs : List Shape) (d e : ℕ) → depth_after d xs ≡ Some e → depth_after (suc d) xs ≡ Some (suc e)
depth_deeper [] d e h = (let z : d ≡ e = cc in ap (λ m. Some (suc m)) z)
depth_deeper (Letter ∷ xs) d e h = depth_deeper xs d e h
depth_deeper (Begin kind ∷ xs) d e h = depth_deeper xs (suc d) e h
depth_deeper (End kind ∷ xs) zero e h = cc
depth_deeper (End kind ∷ xs) (suc d) e h = depth_deeper xs d e h

pub nodes_through : (xs ys : List Shape) (d q e far : ℕ) → depth_after d xs ≡ Some e → far ≡ q + length xs →
    nodes_in d q (xs ++ ys) ≡ nodes_in d q xs ++ nodes_in e far ys
nodes_through [] ys d q e far h l = (let z : d ≡ e = cc in let y : q ≡ far = omega arith in λ i. nodes_in (z i) (y i) ys)
nodes_through (Letter ∷ xs) ys d q e far h l = nodes_through xs ys d (suc q) e far h (omega arith)
nodes_through (Begin kind ∷ xs) ys zero q e far h l = ap (λ v. record { kind = kind; from = q } ∷ v) (nodes_through xs ys 1 (suc q) e far h (omega arith))
nodes_through (Begin kind ∷ xs) ys (suc d) q e far h l = nodes_through xs ys (suc (suc d)) (suc q) e far h (omega arith)
nodes_through (End kind ∷ xs) ys zero q e far h l = cc
nodes_through (End kind ∷ xs) ys (suc d) q e far h l = nodes_through xs ys d (suc q) e far h (omega arith)

pub nodes_ended : (xs ys : List Shape) (d q : ℕ) → depth_after d xs ≡ None → nodes_in d q (xs ++ ys) ≡ nodes_in d q xs
nodes_ended [] ys d q h = cc
nodes_ended (Letter ∷ xs) ys d q h = nodes_ended xs ys d (suc q) h
nodes_ended (Begin kind ∷ xs) ys zero q h = ap (λ v. record { kind = kind; from = q } ∷ v) (nodes_ended xs ys 1 (suc q) h)
nodes_ended (Begin kind ∷ xs) ys (suc d) q h = nodes_ended xs ys (suc (suc d)) (suc q) h
nodes_ended (End kind ∷ xs) ys zero q h = refl
nodes_ended (End kind ∷ xs) ys (suc d) q h = nodes_ended xs ys d (suc q) h

-- a position where `n` items are put in at the position p, and a node there
abbrev pub place_with : (p n at : ℕ) → ℕ
place_with p n at = if nat_lt at p then at else at + n

abbrev pub node_with : (p n : ℕ) → Open → Open
node_with p n o = record { kind = o.kind; from = place_with p n o.from }

pub place_near : (p n at : ℕ) → at < p → place_with p n at ≡ at
place_near p n at l = ap (λ b. if b then at else at + n) (lt-ltb at p l)

pub place_far : (p n at : ℕ) → p ≤ at → place_with p n at ≡ at + n
place_far p n at l = ap (λ b. if b then at else at + n) (no_less at p l)

pub nodes_near : (p n : ℕ) (xs : List Shape) (d q : ℕ) → q + length xs ≤ p → map (node_with p n) (nodes_in d q xs) ≡ nodes_in d q xs
nodes_near p n [] d q l = refl
nodes_near p n (Letter ∷ xs) d q l = nodes_near p n xs d (suc q) (omega arith)
nodes_near p n (Begin kind ∷ xs) zero q l =
    (λ i. record { kind = kind; from = place_near p n q (omega arith) i } ∷ nodes_near p n xs 1 (suc q) (omega arith) i)
nodes_near p n (Begin kind ∷ xs) (suc d) q l = nodes_near p n xs (suc (suc d)) (suc q) (omega arith)
nodes_near p n (End kind ∷ xs) zero q l = refl
nodes_near p n (End kind ∷ xs) (suc d) q l = nodes_near p n xs d (suc q) (omega arith)

pub nodes_far : (p n : ℕ) (xs : List Shape) (d q far : ℕ) → p ≤ q → far ≡ q + n → nodes_in d far xs ≡ map (node_with p n) (nodes_in d q xs)
nodes_far p n [] d q far l e = refl
nodes_far p n (Letter ∷ xs) d q far l e = nodes_far p n xs d (suc q) (suc far) (omega arith) (omega arith)
nodes_far p n (Begin kind ∷ xs) zero q far l e =
    (λ i. record { kind = kind; from = (e ∙ sym (place_far p n q l)) i } ∷ nodes_far p n xs 1 (suc q) (suc far) (omega arith) (omega arith) i)
nodes_far p n (Begin kind ∷ xs) (suc d) q far l e = nodes_far p n xs (suc (suc d)) (suc q) (suc far) (omega arith) (omega arith)
nodes_far p n (End kind ∷ xs) zero q far l e = refl
nodes_far p n (End kind ∷ xs) (suc d) q far l e = nodes_far p n xs d (suc q) (suc far) (omega arith) (omega arith)

-- the nodes in the node that begins at a position
abbrev pub kids_in : List Shape → ℕ → List Open
kids_in shapes at = nodes_in 0 (suc at) (drop (suc at) shapes)

pub drop_shapes : (n : ℕ) (items : List PlainItem) → map shape_of (drop n items) ≡ drop n (map shape_of items)
drop_shapes zero items = refl
drop_shapes (suc n) [] = refl
drop_shapes (suc n) (x ∷ items) = drop_shapes n items

pub children-shapes : (items : List PlainItem) (at : ℕ) → children items at ≡ kids_in (map shape_of items) at
children-shapes items at = siblings-shapes 0 (suc at) (drop (suc at) items) ∙ ap (nodes_in 0 (suc at)) (drop_shapes (suc at) items)

-- one node whole
pub record OneNode (kind : Kind) (shapes : List Shape) : Type 0 where
  pub level : (d : ℕ) → depth_after d shapes ≡ Some d
  pub top : (q : ℕ) → nodes_in 0 q shapes ≡ record { kind = kind; from = q } ∷ []
  pub within : (d q : ℕ) → nodes_in (suc d) q shapes ≡ []

-- Shapes with one node put in at the position p.
module _ (S R : List Shape) (p n : ℕ) (kind : Kind) (one : OneNode kind R) (size : length R ≡ n) (room : p ≤ length S) where
  abbrev pub S_with : List Shape
  S_with = take p S ++ (R ++ drop p S)

  -- what stands in a node before p
  abbrev pub upto : ℕ → List Shape
  upto at = drop (suc at) (take p S)

  cut : length (take p S) ≡ p
  cut = length-take-le p S room

  upto_length : (at : ℕ) → at < p → suc at + length (upto at) ≡ p
  upto_length at l = let c = cut in omega (arith, length-drop (suc at) (take p S))

  old_upto : (at : ℕ) → at < p → drop (suc at) S ≡ upto at ++ drop p S
  old_upto at l = let c = cut in ap (drop (suc at)) (sym (take-append-drop p S)) ∙ drop-append-le (suc at) (take p S) (drop p S) (omega arith)

  new_upto : (at : ℕ) → at < p → drop (suc at) S_with ≡ upto at ++ (R ++ drop p S)
  new_upto at l = let c = cut in drop-append-le (suc at) (take p S) (R ++ drop p S) (omega arith)

  pub kids_far : (at : ℕ) → p ≤ at → kids_in S_with (at + n) ≡ map (node_with p n) (kids_in S at)
  kids_far at l =
      let c = cut in
      let j = suc at - p in
      let there : suc (at + n) ≡ length (take p S) + (length R + j) = omega arith in
      let here : suc at ≡ length (take p S) + j = omega arith in
      let new : drop (suc (at + n)) S_with ≡ drop j (drop p S) =
      ap (λ m. drop m S_with) there ∙ drop-append-add (take p S) (R ++ drop p S) (length R + j) ∙ drop-append-add R (drop p S) j in
      let old : drop (suc at) S ≡ drop j (drop p S) = (λ i. drop (here i) (sym (take-append-drop p S) i)) ∙ drop-append-add (take p S) (drop p S) j in
      ap (nodes_in 0 (suc (at + n))) (new ∙ sym old) ∙ nodes_far p n (drop (suc at) S) 0 (suc at) (suc (at + n)) (omega arith) (omega arith)

  pub kids_ended : (at : ℕ) → at < p → depth_after 0 (upto at) ≡ None → kids_in S_with at ≡ map (node_with p n) (kids_in S at)
  kids_ended at l h =
      let u = upto_length at l in
      ap (nodes_in 0 (suc at)) (new_upto at l)
      ∙ nodes_ended (upto at) (R ++ drop p S) 0 (suc at) h
      ∙ sym (nodes_near p n (upto at) 0 (suc at) (omega arith))
      ∙ ap (map (node_with p n)) (sym (ap (nodes_in 0 (suc at)) (old_upto at l) ∙ nodes_ended (upto at) (drop p S) 0 (suc at) h))

  kids_upto : (at e : ℕ) → at < p → depth_after 0 (upto at) ≡ Some e → kids_in S at ≡ nodes_in 0 (suc at) (upto at) ++ nodes_in e p (drop p S)
  kids_upto at e l h =
      let u = upto_length at l in
      ap (nodes_in 0 (suc at)) (old_upto at l) ∙ nodes_through (upto at) (drop p S) 0 (suc at) e p h (sym u)

  kids_with : (at e : ℕ) → at < p → depth_after 0 (upto at) ≡ Some e →
      kids_in S_with at ≡ map (node_with p n) (nodes_in 0 (suc at) (upto at)) ++ (nodes_in e p R ++ map (node_with p n) (nodes_in e p (drop p S)))
  kids_with at e l h =
      let u = upto_length at l in
      ap (nodes_in 0 (suc at)) (new_upto at l)
      ∙ nodes_through (upto at) (R ++ drop p S) 0 (suc at) e p h (sym u)
      ∙ (λ i. sym (nodes_near p n (upto at) 0 (suc at) (omega arith)) i
      ++ (nodes_through R (drop p S) e p e (p + n) (one.level e) (ap (λ m. p + m) (sym size))
      ∙ ap (λ v. nodes_in e p R ++ v) (nodes_far p n (drop p S) e p (p + n) (omega arith) refl)) i)

  pub kids_deep : (at e : ℕ) → at < p → depth_after 0 (upto at) ≡ Some (suc e) → kids_in S_with at ≡ map (node_with p n) (kids_in S at)
  kids_deep at e l h =
      let A = nodes_in 0 (suc at) (upto at) in
      let B = nodes_in (suc e) p (drop p S) in
      kids_with at (suc e) l h
      ∙ ap (λ v. map (node_with p n) A ++ (v ++ map (node_with p n) B)) (one.within e p)
      ∙ sym (map-append (node_with p n) A B)
      ∙ ap (map (node_with p n)) (sym (kids_upto at (suc e) l h))

  pub kids_gap : (at : ℕ) → at < p → depth_after 0 (upto at) ≡ Some 0 →
      (kids_in S at ≡ nodes_in 0 (suc at) (upto at) ++ nodes_in 0 p (drop p S))
      × (kids_in S_with at ≡ map (node_with p n) (nodes_in 0 (suc at) (upto at)) ++ record { kind = kind; from = p } ∷ map (node_with p n) (nodes_in 0 p (drop p S)))
  kids_gap at l h =
      let A = nodes_in 0 (suc at) (upto at) in
      let B = nodes_in 0 p (drop p S) in (
        kids_upto at 0 l h,
        kids_with at 0 l h ∙ ap (λ v. map (node_with p n) A ++ (v ++ map (node_with p n) B)) (one.top p),
      )

-- of some kinds
abbrev pub of_kinds : List Kind → List Open → List Open
of_kinds kinds nodes = filter (λ (o : Open). is_among kinds o.kind) nodes

pub of_kinds-with : (p n : ℕ) (kinds : List Kind) (nodes : List Open) → of_kinds kinds (map (node_with p n) nodes) ≡ map (node_with p n) (of_kinds kinds nodes)
of_kinds-with p n kinds [] = refl
of_kinds-with p n kinds (o ∷ nodes) = by (is_among kinds o.kind) (of_kinds-with p n kinds nodes)
  where
    by : (b : Bool) → of_kinds kinds (map (node_with p n) nodes) ≡ map (node_with p n) (of_kinds kinds nodes) →
        cond b (node_with p n o ∷ of_kinds kinds (map (node_with p n) nodes)) (of_kinds kinds (map (node_with p n) nodes)) ≡ map (node_with p n) (cond b (o ∷ of_kinds kinds nodes) (of_kinds kinds nodes))
    by true e = ap (λ v. node_with p n o ∷ v) e
    by false e = e

pub of_kinds-append : (kinds : List Kind) (xs ys : List Open) → of_kinds kinds (xs ++ ys) ≡ of_kinds kinds xs ++ of_kinds kinds ys
of_kinds-append kinds [] ys = refl
of_kinds-append kinds (o ∷ xs) ys = by (is_among kinds o.kind) (of_kinds-append kinds xs ys)
  where
    by : (b : Bool) → of_kinds kinds (xs ++ ys) ≡ of_kinds kinds xs ++ of_kinds kinds ys →
        cond b (o ∷ of_kinds kinds (xs ++ ys)) (of_kinds kinds (xs ++ ys)) ≡ cond b (o ∷ of_kinds kinds xs) (of_kinds kinds xs) ++ of_kinds kinds ys
    by true e = ap (λ v. o ∷ v) e
    by false e = e

-- where one of the nodes begins none is open, and those before it stand before its position
pub record Begins (kinds : List Kind) (d q : ℕ) (shapes : List Shape) (before : List Open) (o : Open) : Type 0 where
  pub far : ℕ
  pub place : o.from ≡ q + far
  pub fits : suc far ≤ length shapes
  pub level : depth_after d (take far shapes) ≡ Some 0
  pub those : of_kinds kinds (nodes_in d q (take far shapes)) ≡ before
  pub among : is_among kinds o.kind ≡ true
  pub here : drop far shapes ≡ Begin o.kind ∷ drop (suc far) shapes

pub begins : (kinds : List Kind) (shapes : List Shape) (d q : ℕ) (before : List Open) (o : Open) (later : List Open) →
    of_kinds kinds (nodes_in d q shapes) ≡ before ++ o ∷ later → Begins kinds d q shapes before o
begins kinds [] d q [] o later h = cc
begins kinds [] d q (x ∷ before) o later h = cc
begins kinds (Letter ∷ shapes) d q before o later h =
    let b = begins kinds shapes d (suc q) before o later h in
    let place = b.place in
    let fits = b.fits in
    record { far = suc b.far; place = omega arith; fits = omega arith; level = b.level; those = b.those; among = b.among; here = b.here }
begins kinds (Begin kind ∷ shapes) (suc d) q before o later h =
    let b = begins kinds shapes (suc (suc d)) (suc q) before o later h in
    let place = b.place in
    let fits = b.fits in
    record { far = suc b.far; place = omega arith; fits = omega arith; level = b.level; those = b.those; among = b.among; here = b.here }
begins kinds (End kind ∷ shapes) zero q [] o later h = cc
begins kinds (End kind ∷ shapes) zero q (x ∷ before) o later h = cc
begins kinds (End kind ∷ shapes) (suc d) q before o later h =
    let b = begins kinds shapes d (suc q) before o later h in
    let place = b.place in
    let fits = b.fits in
    record { far = suc b.far; place = omega arith; fits = omega arith; level = b.level; those = b.those; among = b.among; here = b.here }
begins kinds (Begin kind ∷ shapes) zero q before o later h = by (is_among kinds kind) refl before h (λ xs g. begins kinds shapes 1 (suc q) xs o later g)
  where
    rest : List Open
    rest = of_kinds kinds (nodes_in 1 (suc q) shapes)

    one : Open
    one = record { kind = kind; from = q }

    on : (xs ys : List Open) → Begins kinds 1 (suc q) shapes xs o → cond (is_among kinds kind) (one ∷ xs) xs ≡ ys →
        Begins kinds zero q (Begin kind ∷ shapes) ys o
    on xs ys b e =
        let place = b.place in
        let fits = b.fits in
        record {
          far = suc b.far;
          place = omega arith;
          fits = omega arith;
          level = b.level;
          those = ap (λ v. cond (is_among kinds kind) (one ∷ v) v) b.those ∙ e;
          among = b.among;
          here = b.here;
        }

    by : (t : Bool) → is_among kinds kind ≡ t → (before : List Open) → cond t (one ∷ rest) rest ≡ before ++ o ∷ later →
        ((xs : List Open) → rest ≡ xs ++ o ∷ later → Begins kinds 1 (suc q) shapes xs o) →
        Begins kinds zero q (Begin kind ∷ shapes) before o
    by true e [] h next =
        let z : one ≡ o = cc in
        subst (λ v. Begins kinds zero q (Begin kind ∷ shapes) [] v) z (record { far = 0; place = omega arith; fits = omega arith; level = refl; those = refl; among = e; here = refl })
    by true e (x ∷ xs) h next =
        let z : one ≡ x = cc in
        let g : rest ≡ xs ++ o ∷ later = cc in
        on xs (x ∷ xs) (next xs g) (ap (λ t. cond t (one ∷ xs) xs) e ∙ ap (λ v. v ∷ xs) z)
    by false e before h next = on before before (next before h) (ap (λ t. cond t (one ∷ before) before) e)
