-- Which positions lie just inside a node: where its children begin and end, and its end; and they
-- lie just inside no other.
use Rattle.std.specs.Prelude.{slice_get}
use Rattle.std.proofs.Common.{◌≡◌, inl, inr, ℕ, zero, suc, ◌+◌, ◌-◌, ◌<◌, Bool, true, false, nat_lt, List, [], ◌∷◌, ◌++◌, length, take, drop, Option, Some, None, refl, sym, ap, ◌∙◌, arith}
use Rattle.std.proofs.lemmas.Bool.{ltb-true, ltb-false}
use Rattle.std.proofs.lemmas.List.{drop-append-le, drop-take, length-take-le, take-append-drop}
use Rattle.std.proofs.Math.Seq.{take-append-add, take-append_seam}
use Rattle.ve_kinds.specs.declared.kind.Kind.{Kind}
use Rattle.model_items.specs.declared.plain_item.PlainItem.{PlainItem}
use Rattle.model_items.specs.declared.plain_item.PlainItem.TheVariants.{Char, Opening, Closing}
use Rattle.model_items.specs.Law.{Lawful}
use Rattle.model_items.specs.Tree.{Open, length_to_close}
use Rattle.model_items.specs.Offsets.{partner, end_of_node, siblings, children}
use Rattle.model_edit_law.proofs.BracketLemmas.{node_parts}
use Rattle.model_edit_law.proofs.TablePlaceLemmas.{Opens}
use Rattle.model_edit_law.proofs.TableFineLemmas.{drop_at}
use Rattle.model_edit_law.proofs.CellRowLemmas.{AmongNodes}
use Rattle.model_table_law.proofs.PutInLemmas.{depth_after, Elsewhere}

abbrev depth_on : Option ℕ → List PlainItem → Option ℕ
depth_on None items = None
depth_on (Some d) items = depth_after d items

depth_after-append : (d : ℕ) (xs ys : List PlainItem) → depth_after d (xs ++ ys) ≡ depth_on (depth_after d xs) ys
depth_after-append d [] ys = refl
depth_after-append d (Char c marks ∷ xs) ys = depth_after-append d xs ys
depth_after-append d (Opening kind head marks pre origin generated ∷ xs) ys = depth_after-append (suc d) xs ys
depth_after-append zero (Closing kind pre ∷ xs) ys = refl
depth_after-append (suc d) (Closing kind pre ∷ xs) ys = depth_after-append d xs ys

-- one node deeper
deeper : (d e : ℕ) (xs : List PlainItem) → depth_after d xs ≡ Some e → depth_after (suc d) xs ≡ Some (suc e)
deeper d e [] h = let z : d ≡ e = cc in ap (λ n. Some (suc n)) z
deeper d e (Char c marks ∷ xs) h = deeper d e xs h
deeper d e (Opening kind head marks pre origin generated ∷ xs) h = deeper (suc d) e xs h
deeper zero e (Closing kind pre ∷ xs) h = cc
deeper (suc d) e (Closing kind pre ∷ xs) h = deeper d e xs h

much_deeper : (d : ℕ) (xs : List PlainItem) → depth_after 0 xs ≡ Some 0 → depth_after d xs ≡ Some d
much_deeper zero xs h = h
much_deeper (suc d) xs h = deeper d d xs (much_deeper d xs h)

-- what stands in a node ends where it began
depth_inside : (k : Kind) (pre : List ℕ) (inside : List PlainItem) (e : ℕ) → ((other : List PlainItem) → length_to_close e (inside ++ Closing k pre ∷ other) ≡ suc (length inside)) → depth_after e inside ≡ Some 0
depth_inside k pre [] zero h = refl
depth_inside k pre [] (suc e) h = absurd (let z : suc (suc (length_to_close e [])) ≡ 1 = h (Char 0 [] ∷ []) in omega arith)
depth_inside k pre (Char c marks ∷ inside) e h = depth_inside k pre inside e (λ other. let z = h other in omega arith)
depth_inside k pre (Opening kind head marks pre' origin generated ∷ inside) e h = depth_inside k pre inside (suc e) (λ other. let z = h other in omega arith)
depth_inside k pre (Closing kind pre' ∷ inside) zero h = absurd (let z : 1 ≡ suc (suc (length inside)) = h [] in omega arith)
depth_inside k pre (Closing kind pre' ∷ inside) (suc e) h = depth_inside k pre inside e (λ other. let z = h other in omega arith)

-- the position lies in the node that begins at a, and in none inside it
abbrev pub JustInside : List PlainItem → (a p : ℕ) → Type 0
JustInside items a p = depth_after 0 (drop (suc a) (take p items)) ≡ Some 0

get_take : (p b : ℕ) (xs : List PlainItem) → b < p → slice_get (take p xs) b ≡ slice_get xs b
get_take zero b xs l = absurd (omega arith)
get_take (suc p) b [] l = refl
get_take (suc p) zero (x ∷ xs) l = refl
get_take (suc p) (suc b) (x ∷ xs) l = get_take p b xs (omega arith)

get_length : (xs : List PlainItem) (b : ℕ) (x : PlainItem) → slice_get xs b ≡ Some x → b < length xs
get_length [] b x h = cc
get_length (y ∷ xs) zero x h = omega arith
get_length (y ∷ xs) (suc b) x h = let l = get_length xs b x h in omega arith

innermost : (items : List PlainItem) (kind : Kind) (a b p : ℕ) → Opens items kind b → a < b → b < p → JustInside items b p → JustInside items a p → ⊥
innermost items kind a b p o l m inner outer =
    by (depth_after 0 (drop (suc a) (take b T))) (sym (depth_after-append 0 (drop (suc a) (take b T)) (x ∷ drop (suc b) T)) ∙ sym (ap (depth_after 0) parts) ∙ outer)
  where
    T : List PlainItem
    T = take p items

    x : PlainItem
    x = Opening kind o.head o.marks o.pre o.origin o.generated

    there : slice_get T b ≡ Some x
    there = get_take p b items m ∙ o.here

    parts : drop (suc a) T ≡ drop (suc a) (take b T) ++ x ∷ drop (suc b) T
    parts =
        let long = get_length T b x there in
        let cut : length (take b T) ≡ b = length-take-le b T (omega arith) in
        ap (drop (suc a)) (sym (take-append-drop b T) ∙ ap (λ v. take b T ++ v) (drop_at T b x there)) ∙ drop-append-le (suc a) (take b T) (x ∷ drop (suc b) T) (omega arith)

    by : (r : Option ℕ) → depth_on r (x ∷ drop (suc b) T) ≡ Some 0 → ⊥
    by None h = cc
    by (Some d) h = let z : ◌≡◌ {A = Option ℕ} (Some (suc d)) (Some 0) = sym (much_deeper (suc d) (drop (suc b) T) inner) ∙ h in let y : suc d ≡ 0 = cc in omega arith

-- it lies just inside one node alone
pub just_one : (items : List PlainItem) (kind kind' : Kind) (a b p : ℕ) → Opens items kind a → Opens items kind' b → (a ≡ b → ⊥) → b < p → JustInside items b p →
    a < p → Elsewhere (depth_after 0 (drop (suc a) (take p items)))
just_one items kind kind' a b p o o' other m inner l = by (depth_after 0 (drop (suc a) (take p items))) refl
  where
    never : JustInside items a p → (t u : Bool) → nat_lt a b ≡ t → nat_lt b a ≡ u → ⊥
    never outer true u e f = innermost items kind' a b p o' (ltb-true a b e) m inner outer
    never outer false true e f = innermost items kind b a p o (ltb-true b a f) l outer inner
    never outer false false e f = let g = ltb-false a b e in let h = ltb-false b a f in other (omega arith)

    by : (r : Option ℕ) → depth_after 0 (drop (suc a) (take p items)) ≡ r → Elsewhere r
    by None e = tt
    by (Some zero) e = never e (nat_lt a b) (nat_lt b a) refl refl
    by (Some (suc d)) e = tt

found : (d q : ℕ) (xs : List PlainItem) (o : Open) → AmongNodes o (siblings d q xs) → (k : ℕ) × (o.from ≡ q + k) × (depth_after d (take k xs) ≡ Some 0)
found d q [] o a = absurd a
found d q (Char c marks ∷ xs) o a = let r = found d (suc q) xs o a in let e = r.1 in (suc r.0, omega arith, r.2)
found zero q (Opening kind head marks pre origin generated ∷ xs) o (inl e) = (0, (let z = ap (λ (v : Open). v.from) e in omega arith), refl)
found zero q (Opening kind head marks pre origin generated ∷ xs) o (inr a) = let r = found 1 (suc q) xs o a in let e = r.1 in (suc r.0, omega arith, r.2)
found (suc d) q (Opening kind head marks pre origin generated ∷ xs) o a = let r = found (suc (suc d)) (suc q) xs o a in let e = r.1 in (suc r.0, omega arith, r.2)
found zero q (Closing kind pre ∷ xs) o a = absurd a
found (suc d) q (Closing kind pre ∷ xs) o a = let r = found d (suc q) xs o a in let e = r.1 in (suc r.0, omega arith, r.2)

-- where a child begins
pub begins_inside : (items : List PlainItem) (a : ℕ) (o : Open) → AmongNodes o (children items a) → JustInside items a o.from
begins_inside items a o m =
    let r = found 0 (suc a) (drop (suc a) items) o m in
    ap (λ n. depth_after 0 (drop (suc a) (take n items))) r.1 ∙ ap (depth_after 0) (drop-take (suc a) r.0 items) ∙ r.2

-- where it ends
pub ends_inside : (items : List PlainItem) (kind : Kind) (a b : ℕ) → Lawful items → Opens items kind b → a < b → JustInside items a b → JustInside items a (end_of_node items b)
ends_inside items kind a b lawful o l before =
    let x = Opening kind o.head o.marks o.pre o.origin o.generated in
    let np = node_parts items b kind o.head o.marks o.pre o.origin o.generated lawful o.here in
    let c = np.closed in
    let far = np.its_partner in
    let last = Closing kind c.pre in
    let node = x ∷ (c.inside ++ last ∷ []) in
    let w = o.within in
    let v = o.ahead in
    let cut : length (take b items) ≡ b = length-take-le b items (omega arith) in
    let end : end_of_node items b ≡ length (take b items) + suc (length c.inside + 1) = omega arith in
    let list : items ≡ take b items ++ x ∷ (c.inside ++ last ∷ c.rest) = sym (take-append-drop b items) ∙ ap (λ v. take b items ++ v) (drop_at items b x o.here ∙ ap (λ v. x ∷ v) c.whole) in
    let taken : take (end_of_node items b) items ≡ take b items ++ node =
    (λ i. take (end i) (list i)) ∙ take-append-add (take b items) (x ∷ (c.inside ++ last ∷ c.rest)) (suc (length c.inside + 1))
    ∙ ap (λ v. take b items ++ x ∷ v) (take-append-add c.inside (last ∷ c.rest) 1) in
    let inner : depth_after 1 c.inside ≡ Some 1 = much_deeper 1 c.inside (depth_inside kind c.pre c.inside 0 c.ends) in
    ap (λ v. depth_after 0 (drop (suc a) v)) taken
    ∙ ap (depth_after 0) (drop-append-le (suc a) (take b items) node (omega arith))
    ∙ depth_after-append 0 (drop (suc a) (take b items)) node
    ∙ ap (λ r. depth_on r node) before
    ∙ depth_after-append 1 c.inside (last ∷ [])
    ∙ ap (λ r. depth_on r (last ∷ [])) inner

-- the node's own end
pub closes_inside : (items : List PlainItem) (kind : Kind) (a : ℕ) → Lawful items → Opens items kind a → JustInside items a (partner items a)
closes_inside items kind a lawful o =
    let np = node_parts items a kind o.head o.marks o.pre o.origin o.generated lawful o.here in
    let c = np.closed in
    let far = np.its_partner in
    let z : partner items a ≡ suc a + length c.inside = omega arith in
    ap (λ n. depth_after 0 (drop (suc a) (take n items))) z
    ∙ ap (depth_after 0) (drop-take (suc a) (length c.inside) items ∙ ap (take (length c.inside)) c.whole ∙ take-append_seam c.inside (Closing kind c.pre ∷ c.rest))
    ∙ depth_inside kind c.pre c.inside 0 c.ends
