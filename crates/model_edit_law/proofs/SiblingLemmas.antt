-- A list without one node: in each other node stand the same nodes but for that one, and those
-- after it are moved.
use Rattle.std.specs.Prelude.{filter, filter_map}
use Rattle.std.specs.List.{cons_option}
use Rattle.std.proofs.Common.{◌≡◌, ◌⊎◌, inl, inr, ℕ, zero, suc, ◌+◌, ◌-◌, ◌<◌, ◌≤◌, Bool, true, false, cond, if◌then◌else◌, nat_lt, List, [], ◌∷◌, ◌++◌, length, map, drop, Option, Some, None, refl, sym, ap, ◌∙◌, subst, arith, length-append, length-drop}
use Rattle.std.proofs.lemmas.Bool.{ltb-true, lt-ltb, false_from_ne_true}
use Rattle.std.proofs.lemmas.List.{append_assoc, drop-append-le}
use Rattle.std.proofs.Math.Seq.{drop-append-add}
use Rattle.ve_kinds.specs.declared.kind.Kind.{Kind}
use Rattle.ve_kinds.specs.Table.{is_among}
use Rattle.ve_base.specs.declared.head.Head.{Head}
use Rattle.ve_base.specs.declared.marks.Mark.{Mark}
use Rattle.model_items.specs.declared.plain_item.PlainItem.{PlainItem}
use Rattle.model_items.specs.declared.plain_item.PlainItem.TheVariants.{Char, Opening, Closing}
use Rattle.model_items.specs.Tree.{Open, length_to_close, Shape, Letter, Begin, End, shape_of}
use Rattle.model_items.specs.Offsets.{siblings, children}
use Rattle.model_edit.specs.Grid.{children_of}

-- the walk of `siblings` over what items are to the tree
abbrev pub nodes_in : (depth at : ℕ) → List Shape → List Open
nodes_in depth at [] = []
nodes_in depth at (Letter ∷ shapes) = nodes_in depth (suc at) shapes
nodes_in zero at (Begin kind ∷ shapes) = record { kind = kind; from = at } ∷ nodes_in 1 (suc at) shapes
nodes_in (suc depth) at (Begin kind ∷ shapes) = nodes_in (suc (suc depth)) (suc at) shapes
nodes_in zero at (End kind ∷ shapes) = []
nodes_in (suc depth) at (End kind ∷ shapes) = nodes_in depth (suc at) shapes

pub siblings-shapes : (depth at : ℕ) (items : List PlainItem) → siblings depth at items ≡ nodes_in depth at (map shape_of items)
siblings-shapes depth at [] = refl
siblings-shapes depth at (Char c marks ∷ items) = siblings-shapes depth (suc at) items
siblings-shapes zero at (Opening kind head marks pre origin generated ∷ items) = ap (λ v. record { kind = kind; from = at } ∷ v) (siblings-shapes 1 (suc at) items)
siblings-shapes (suc depth) at (Opening kind head marks pre origin generated ∷ items) = siblings-shapes (suc (suc depth)) (suc at) items
siblings-shapes zero at (Closing kind pre ∷ items) = refl
siblings-shapes (suc depth) at (Closing kind pre ∷ items) = siblings-shapes depth (suc at) items

drop_shapes : (n : ℕ) (items : List PlainItem) → map shape_of (drop n items) ≡ drop n (map shape_of items)
drop_shapes zero items = refl
drop_shapes (suc n) [] = refl
drop_shapes (suc n) (x ∷ items) = drop_shapes n items

-- where items are the same to the tree, so are the nodes in a node
pub children_same : (xs ys : List PlainItem) (at : ℕ) → map shape_of xs ≡ map shape_of ys → children xs at ≡ children ys at
children_same xs ys at e =
    siblings-shapes 0 (suc at) (drop (suc at) xs)
    ∙ ap (nodes_in 0 (suc at)) (drop_shapes (suc at) xs ∙ ap (drop (suc at)) e ∙ sym (drop_shapes (suc at) ys))
    ∙ sym (siblings-shapes 0 (suc at) (drop (suc at) ys))

-- a position where `n` items from the position p on are taken out, and a node there
abbrev pub place_without : (p n at : ℕ) → ℕ
place_without p n at = if nat_lt at p then at else at - n

abbrev pub node_without : (p n : ℕ) → Open → Option Open
node_without p n o = if nat_lt o.from p then Some o else (if nat_lt o.from (p + n) then None else Some (record { kind = o.kind; from = o.from - n }))

pub no_less : (m n : ℕ) → n ≤ m → nat_lt m n ≡ false
no_less m n l = false_from_ne_true (nat_lt m n) (λ t. let g = ltb-true m n t in omega arith)

-- before them, or after
abbrev pub Outside : (p n at : ℕ) → Type 0
Outside p n at = (at < p) ⊎ (p + n ≤ at)

pub place_kept : (p n at : ℕ) → at < p → place_without p n at ≡ at
place_kept p n at l = ap (λ b. if b then at else at - n) (lt-ltb at p l)

pub place_moved : (p n at : ℕ) → p + n ≤ at → place_without p n at ≡ at - n
place_moved p n at l = ap (λ b. if b then at else at - n) (no_less at p (omega arith))

node_kept : (p n : ℕ) (kind : Kind) (at : ℕ) → at < p → node_without p n (record { kind = kind; from = at }) ≡ Some (record { kind = kind; from = at })
node_kept p n kind at l =
    ap (λ b. if b then Some (record { kind = kind; from = at }) else (if nat_lt at (p + n) then None else Some (record { kind = kind; from = at - n }))) (lt-ltb at p l)

node_moved : (p n : ℕ) (kind : Kind) (at : ℕ) → p + n ≤ at → node_without p n (record { kind = kind; from = at }) ≡ Some (record { kind = kind; from = at - n })
node_moved p n kind at l =
    ap (λ b. if b then Some (record { kind = kind; from = at }) else (if nat_lt at (p + n) then None else Some (record { kind = kind; from = at - n }))) (no_less at p (omega arith))
    ∙ ap (λ b. if b then None else Some (record { kind = kind; from = at - n })) (no_less at (p + n) l)

pub node_outside : (p n : ℕ) (o : Open) → Outside p n o.from → node_without p n o ≡ Some (record { kind = o.kind; from = place_without p n o.from })
node_outside p n o (inl l) = node_kept p n o.kind o.from l ∙ ap (λ at. Some (record { kind = o.kind; from = at })) (sym (place_kept p n o.from l))
node_outside p n o (inr l) = node_moved p n o.kind o.from l ∙ ap (λ at. Some (record { kind = o.kind; from = at })) (sym (place_moved p n o.from l))

pub node_gone : (p n : ℕ) (o : Open) → 0 < n → o.from ≡ p → node_without p n o ≡ None
node_gone p n o some e =
    ap (λ b. if b then Some o else (if nat_lt o.from (p + n) then None else Some (record { kind = o.kind; from = o.from - n }))) (no_less o.from p (omega arith))
    ∙ ap (λ b. if b then None else Some (record { kind = o.kind; from = o.from - n })) (lt-ltb o.from (p + n) (omega arith))

-- after them nodes are moved
pub after_moved : (p n d q far : ℕ) (items : List PlainItem) → p ≤ q → far ≡ q + n → siblings d q items ≡ filter_map (node_without p n) (siblings d far items)
after_moved p n d q far [] l e = refl
after_moved p n d q far (Char c marks ∷ items) l e = after_moved p n d (suc q) (suc far) items (omega arith) (omega arith)
after_moved p n zero q far (Opening kind head marks pre origin generated ∷ items) l e =
    let z : far - n ≡ q = omega arith in
    let one : node_without p n (record { kind = kind; from = far }) ≡ Some (record { kind = kind; from = q }) =
    node_moved p n kind far (omega arith) ∙ ap (λ at. Some (record { kind = kind; from = at })) z in
    ap (λ v. record { kind = kind; from = q } ∷ v) (after_moved p n 1 (suc q) (suc far) items (omega arith) (omega arith))
    ∙ ap (λ o. cons_option o (filter_map (node_without p n) (siblings 1 (suc far) items))) (sym one)
after_moved p n (suc d) q far (Opening kind head marks pre origin generated ∷ items) l e = after_moved p n (suc (suc d)) (suc q) (suc far) items (omega arith) (omega arith)
after_moved p n zero q far (Closing kind pre ∷ items) l e = refl
after_moved p n (suc d) q far (Closing kind pre ∷ items) l e = after_moved p n d (suc q) (suc far) items (omega arith) (omega arith)

-- what stands in a node is passed
module _ (k : Kind) (pre : List ℕ) (rest : List PlainItem) where
  pub passed : (inside : List PlainItem) (e d q far : ℕ) → ((other : List PlainItem) → length_to_close e (inside ++ Closing k pre ∷ other) ≡ suc (length inside)) →
      far ≡ q + suc (length inside) → siblings (suc (e + d)) q (inside ++ Closing k pre ∷ rest) ≡ siblings d far rest
  passed [] zero d q far h w = (let z : suc q ≡ far = omega arith in let y : zero + d ≡ d = omega arith in λ i. siblings (y i) (z i) rest)
  passed [] (suc e) d q far h w = absurd (let z : suc (suc (length_to_close e [])) ≡ 1 = h (Char 0 [] ∷ []) in omega arith)
  passed (Char c marks ∷ inside) e d q far h w = passed inside e d (suc q) far (λ other. less _ _ (h other)) (omega arith)
    where
      less : (m n : ℕ) → suc m ≡ suc n → m ≡ n
      less m n z = omega arith
  passed (Opening kind head marks pre' origin generated ∷ inside) e d q far h w =
      let z : suc (suc (e + d)) ≡ suc (suc e + d) = omega arith in
      ap (λ m. siblings m (suc q) (inside ++ Closing k pre ∷ rest)) z
      ∙ passed inside (suc e) d (suc q) far (λ other. less _ _ (h other)) (omega arith)
    where
      less : (m n : ℕ) → suc m ≡ suc n → m ≡ n
      less m n z = omega arith
  passed (Closing kind pre' ∷ inside) zero d q far h w = absurd (let z : 1 ≡ suc (suc (length inside)) = h [] in omega arith)
  passed (Closing kind pre' ∷ inside) (suc e) d q far h w =
      let z : suc e + d ≡ suc (e + d) = omega arith in
      ap (λ m. siblings m (suc q) (inside ++ Closing k pre ∷ rest)) z
      ∙ passed inside e d (suc q) far (λ other. less _ _ (h other)) (omega arith)
    where
      less : (m n : ℕ) → suc m ≡ suc n → m ≡ n
      less m n z = omega arith

-- A node of a list in parts, that is taken out.
module _ (p n : ℕ) (kind : Kind) (head : Head) (marks : List Mark) (pre : List ℕ) (origin : Option ℕ) (generated : Bool) (inside : List PlainItem) (white : List ℕ) (rest : List PlainItem)
    (size : n ≡ suc (suc (length inside))) (ends : (other : List PlainItem) → length_to_close 0 (inside ++ Closing kind white ∷ other) ≡ suc (length inside)) where
  abbrev with_node : List PlainItem
  with_node = Opening kind head marks pre origin generated ∷ (inside ++ Closing kind white ∷ rest)

  node_passed : (d : ℕ) → siblings d p rest ≡ filter_map (node_without p n) (siblings d p with_node)
  node_passed zero =
      let far : p + n ≡ suc p + suc (length inside) = omega arith in
      after_moved p n 0 p (p + n) rest (omega arith) refl
      ∙ ap (filter_map (node_without p n)) (sym (passed kind white rest inside 0 0 (suc p) (p + n) ends far))
      ∙ ap (λ o. cons_option o (filter_map (node_without p n) (siblings 1 (suc p) (inside ++ Closing kind white ∷ rest)))) (sym (node_gone p n (record { kind = kind; from = p }) (omega arith) refl))
  node_passed (suc d) =
      let far : p + n ≡ suc p + suc (length inside) = omega arith in
      let z : suc (0 + suc d) ≡ suc (suc d) = omega arith in
      after_moved p n (suc d) p (p + n) rest (omega arith) refl
      ∙ ap (filter_map (node_without p n)) (sym (ap (λ m. siblings m (suc p) (inside ++ Closing kind white ∷ rest)) (sym z) ∙ passed kind white rest inside 0 (suc d) (suc p) (p + n) ends far))

  walked : (prefix : List PlainItem) (d q : ℕ) → q + length prefix ≡ p → siblings d q (prefix ++ rest) ≡ filter_map (node_without p n) (siblings d q (prefix ++ with_node))
  walked [] d q e = (let z : p ≡ q = omega arith in subst (λ m. siblings d m rest ≡ filter_map (node_without p n) (siblings d m with_node)) z (node_passed d))
  walked (Char c marks' ∷ prefix) d q e = walked prefix d (suc q) (omega arith)
  walked (Opening kind' head' marks' pre' origin' generated' ∷ prefix) zero q e =
      ap (λ v. record { kind = kind'; from = q } ∷ v) (walked prefix 1 (suc q) (omega arith))
      ∙ ap (λ o. cons_option o (filter_map (node_without p n) (siblings 1 (suc q) (prefix ++ with_node)))) (sym (node_kept p n kind' q (omega arith)))
  walked (Opening kind' head' marks' pre' origin' generated' ∷ prefix) (suc d) q e = walked prefix (suc (suc d)) (suc q) (omega arith)
  walked (Closing kind' pre' ∷ prefix) zero q e = refl
  walked (Closing kind' pre' ∷ prefix) (suc d) q e = walked prefix d (suc q) (omega arith)

  pub children_without : (prefix : List PlainItem) (at : ℕ) → length prefix ≡ p → Outside p n at →
      children (prefix ++ rest) (place_without p n at) ≡ filter_map (node_without p n) (children (prefix ++ with_node) at)
  children_without prefix at e (inl l) =
      ap (children (prefix ++ rest)) (place_kept p n at l)
      ∙ ap (siblings 0 (suc at)) (drop-append-le (suc at) prefix rest (omega arith))
      ∙ walked (drop (suc at) prefix) 0 (suc at) (omega (arith, length-drop (suc at) prefix))
      ∙ ap (λ v. filter_map (node_without p n) (siblings 0 (suc at) v)) (sym (drop-append-le (suc at) prefix with_node (omega arith)))
  children_without prefix at e (inr l) =
      let node = Opening kind head marks pre origin generated ∷ (inside ++ Closing kind white ∷ []) in
      let k = suc at - (p + n) in
      let parts : prefix ++ with_node ≡ (prefix ++ node) ++ rest =
      ap (λ v. prefix ++ Opening kind head marks pre origin generated ∷ v) (sym (append_assoc inside (Closing kind white ∷ []) rest)) ∙ sym (append_assoc prefix node rest) in
      let long : length (prefix ++ node) ≡ p + n = omega (arith, length-append prefix node, length-append inside (Closing kind white ∷ [])) in
      let there : suc at ≡ length (prefix ++ node) + k = omega arith in
      let here : suc (at - n) ≡ length prefix + k = omega arith in
      let old : drop (suc at) (prefix ++ with_node) ≡ drop k rest = (λ i. drop (there i) (parts i)) ∙ drop-append-add (prefix ++ node) rest k in
      let new : drop (suc (at - n)) (prefix ++ rest) ≡ drop k rest = ap (λ m. drop m (prefix ++ rest)) here ∙ drop-append-add prefix rest k in
      ap (children (prefix ++ rest)) (place_moved p n at l)
      ∙ ap (siblings 0 (suc (at - n))) new
      ∙ after_moved p n 0 (suc (at - n)) (suc at) (drop k rest) (omega arith) (omega arith)
      ∙ ap (λ v. filter_map (node_without p n) (siblings 0 (suc at) v)) (sym old)

-- of some kinds
pub filter_without : (p n : ℕ) (kinds : List Kind) (nodes : List Open) →
    filter (λ (o : Open). is_among kinds o.kind) (filter_map (node_without p n) nodes) ≡ filter_map (node_without p n) (filter (λ (o : Open). is_among kinds o.kind) nodes)
filter_without p n kinds [] = refl
filter_without p n kinds (o ∷ nodes) =
    by (node_without p n o) (is_among kinds o.kind) refl refl (filter_without p n kinds nodes) ∙ sym (whole (is_among kinds o.kind))
  where
    same_kind : (b c : Bool) (x : Open) → (if b then Some o else (if c then None else Some (record { kind = o.kind; from = o.from - n }))) ≡ Some x → x.kind ≡ o.kind
    same_kind true c x e = (let z : o ≡ x = cc in ap (λ (v : Open). v.kind) (sym z))
    same_kind false true x e = cc
    same_kind false false x e = (let z : record { kind = o.kind; from = o.from - n } ≡ x = cc in ap (λ (v : Open). v.kind) (sym z))

    test : Open → Bool
    test x = is_among kinds x.kind

    whole : (b : Bool) → filter_map (node_without p n) (cond b (o ∷ filter test nodes) (filter test nodes))
        ≡ cond b (cons_option (node_without p n o) (filter_map (node_without p n) (filter test nodes))) (filter_map (node_without p n) (filter test nodes))
    whole true = refl
    whole false = refl

    by : (r : Option Open) (b : Bool) → node_without p n o ≡ r → is_among kinds o.kind ≡ b →
        filter test (filter_map (node_without p n) nodes) ≡ filter_map (node_without p n) (filter test nodes) →
        filter test (cons_option r (filter_map (node_without p n) nodes))
        ≡ cond b (cons_option r (filter_map (node_without p n) (filter test nodes))) (filter_map (node_without p n) (filter test nodes))
    by None true e f rest = rest
    by None false e f rest = rest
    by (Some x) b e f rest =
        let F = filter test (filter_map (node_without p n) nodes) in
        let z : is_among kinds x.kind ≡ b = ap (is_among kinds) (same_kind (nat_lt o.from p) (nat_lt o.from (p + n)) x e) ∙ f in
        ap (λ c. cond c (x ∷ F) F) z ∙ ap (λ v. cond b (x ∷ v) v) rest

pub children_of-without : (p n : ℕ) (kinds : List Kind) (items new : List PlainItem) (at : ℕ) → children new (place_without p n at) ≡ filter_map (node_without p n) (children items at) →
    children_of kinds new (place_without p n at) ≡ filter_map (node_without p n) (children_of kinds items at)
children_of-without p n kinds items new at e = ap (filter (λ (o : Open). is_among kinds o.kind)) e ∙ filter_without p n kinds (children items at)
