-- Pieces of a table under edits: what becomes of each, and what a walk then reads in it.
use Rattle.std.proofs.Common.{◌≡◌, ℕ, zero, suc, ◌+◌, ◌-◌, Bool, true, false, if◌then◌else◌, List, [], ◌∷◌, ◌++◌, length, take, drop, Option, refl, sym, ap, ◌∙◌, subst, arith, length-append}
use Rattle.std.proofs.lemmas.List.{append_assoc}
use Rattle.std.proofs.Math.Seq.{drop-append-add}
use Rattle.ve_kinds.specs.declared.kind.Kind.{Kind}
use Rattle.ve_kinds.specs.Table.{is_among}
use Rattle.ve_base.specs.declared.head.Head.{Head}
use Rattle.ve_base.specs.declared.marks.Mark.{Mark}
use Rattle.model_items.specs.declared.plain_item.PlainItem.{PlainItem}
use Rattle.model_items.specs.declared.plain_item.PlainItem.TheVariants.{Char, Opening, Closing}
use Rattle.model_items.specs.Tree.{length_to_close}
use Rattle.model_edit.specs.Edits.{Edit, Change, Set, setting, substituted_from, InOrder}
use Rattle.model_change.specs.Attributes.{item_changed}
use Rattle.model_change.specs.Transaction.{on_first}
use Rattle.model_edit_law.proofs.TableFineLemmas.{InOrder-within}
use Rattle.model_edit_law.proofs.TableGrowLemmas.{skip_first}
use Rattle.model_table_law.proofs.ReadLemmas.{Level, InTable, InSection, InRow, entered, node_inside, read}

-- what the walk reads over some items, and what it is in after them
pub record Walk (s t : Level) (xs : List PlainItem) (out : List (List PlainItem)) : Type 0 where
  pub walks : (rest : List PlainItem) → read 0 s (xs ++ rest) ≡ out ++ read 0 t rest

-- A piece from the position q on with the edits in it. Afterwards the walk reads `out` over it.
pub record Turned (s t : Level) (q : ℕ) (xs : List PlainItem) (edits : List Edit) (out : List (List PlainItem)) : Type 0 where
  pub new : List PlainItem
  pub made : (end : ℕ) (rest : List PlainItem) (more : List Edit) → InOrder (q + length xs) end more →
      substituted_from q (xs ++ rest) (edits ++ more) ≡ new ++ substituted_from (q + length xs) rest more
  pub order : (end : ℕ) (more : List Edit) → InOrder (q + length xs) end more → InOrder q end (edits ++ more)
  pub walk : Walk s t new out

pub Walk-join : {s t u : Level} (xs ys : List PlainItem) (out more : List (List PlainItem)) → Walk s t xs out → Walk t u ys more →
    Walk s u (xs ++ ys) (out ++ more)
Walk-join {s} {t} {u} xs ys out more a b = record {
  walks = λ rest. ap (read 0 s) (append_assoc xs ys rest) ∙ a.walks (ys ++ rest) ∙ ap (λ v. out ++ v) (b.walks rest)
      ∙ sym (append_assoc out more (read 0 u rest));
}

pub Turned-join : {s t u : Level} (q q' : ℕ) (xs ys : List PlainItem) (edits later : List Edit) (out more : List (List PlainItem)) → q' ≡ q + length xs →
    Turned s t q xs edits out → Turned t u q' ys later more → Turned s u q (xs ++ ys) (edits ++ later) (out ++ more)
Turned-join q q' xs ys edits later out more e a b = record {
  new = a.new ++ b.new;
  made = λ end rest rest_edits h.
      let h' = subst (λ k. InOrder k end rest_edits) far h in
      let o = subst (λ k. InOrder k end (later ++ rest_edits)) e (b.order end rest_edits h') in
      (λ i. substituted_from q (append_assoc xs ys rest i) (append_assoc edits later rest_edits i))
      ∙ a.made end (ys ++ rest) (later ++ rest_edits) o
      ∙ ap (λ k. a.new ++ substituted_from k (ys ++ rest) (later ++ rest_edits)) (sym e)
      ∙ ap (λ v. a.new ++ v) (b.made end rest rest_edits h')
      ∙ ap (λ k. a.new ++ (b.new ++ substituted_from k rest rest_edits)) (sym far)
      ∙ sym (append_assoc a.new b.new (substituted_from (q + length (xs ++ ys)) rest rest_edits));
  order = λ end rest_edits h.
      let h' = subst (λ k. InOrder k end rest_edits) far h in
      subst (InOrder q end) (sym (append_assoc edits later rest_edits))
      (a.order end (later ++ rest_edits) (subst (λ k. InOrder k end (later ++ rest_edits)) e (b.order end rest_edits h')));
  walk = Walk-join a.new b.new out more a.walk b.walk;
}
  where
    far : q + length (xs ++ ys) ≡ q' + length ys
    far = omega (arith, length-append xs ys)

pub skip : (xs : List PlainItem) (q end : ℕ) (rest : List PlainItem) (edits : List Edit) → InOrder (q + length xs) end edits →
    substituted_from q (xs ++ rest) edits ≡ xs ++ substituted_from (q + length xs) rest edits
skip [] q end rest edits h = let z : q ≡ q + 0 = omega arith in ap (λ k. substituted_from k rest edits) z
skip (x ∷ xs) q end rest edits h =
    let z : q + suc (length xs) ≡ suc q + length xs = omega arith in
    let h' = subst (λ k. InOrder k end edits) z h in
    skip_first edits q end x (xs ++ rest) (InOrder-within (q + suc (length xs)) (suc q) end end edits (omega arith) (omega arith) h)
    ∙ ap (λ v. x ∷ v) (skip xs (suc q) end rest edits h')
    ∙ ap (λ k. x ∷ (xs ++ substituted_from k rest edits)) (sym z)

-- a piece without edits
pub Turned-kept : {s t : Level} (q : ℕ) (xs : List PlainItem) (out : List (List PlainItem)) → Walk s t xs out → Turned s t q xs [] out
Turned-kept q xs out w = record {
  new = xs;
  made = λ end rest more h. skip xs q end rest more h;
  order = λ end more h. InOrder-within (q + length xs) q end end more (omega arith) (omega arith) h;
  walk = w;
}

-- items put in at a position
pub Turned-put : {s : Level} (q place : ℕ) (inserted : List PlainItem) (out : List (List PlainItem)) → place ≡ q → Walk s s inserted out →
    Turned s s q [] (Change place 0 inserted ∷ []) out
Turned-put {s} q place inserted out e w = subst (λ k. Turned s s q [] (Change k 0 inserted ∷ []) out) (sym e) (record {
  new = inserted;
  made = λ end rest more h. let z : q - q ≡ 0 = omega arith in ap (λ k. take k rest ++ (inserted ++ substituted_from (q + 0) (drop 0 (drop k rest)) more)) z;
  order = λ end more h. (omega arith, h);
  walk = w;
})

-- a piece that is taken out
pub Turned-out : {s : Level} (q count : ℕ) (xs : List PlainItem) → count ≡ length xs → Turned s s q xs (Change q count [] ∷ []) []
Turned-out {s} q count xs e = subst (λ n. Turned s s q xs (Change q n [] ∷ []) []) (sym e) (record {
  new = [];
  made = λ end rest more h.
      let z : q - q ≡ 0 = omega arith in
      let y : length xs ≡ length xs + 0 = omega arith in
      ap (λ k. take k (xs ++ rest) ++ substituted_from (q + length xs) (drop (length xs) (drop k (xs ++ rest))) more) z
      ∙ ap (λ v. substituted_from (q + length xs) v more) (ap (λ n. drop n (xs ++ rest)) y ∙ drop-append-add xs rest 0);
  order = λ end more h. (omega arith, h);
  walk = record { walks = λ rest. refl };
})

-- a piece that begins with an opening of which an attribute is set
pub Turned-set : {s t : Level} (q : ℕ) (kind : Kind) (head : Head) (marks : List Mark) (pre : List ℕ) (origin : Option ℕ) (generated : Bool)
    (xs : List PlainItem) (name : List ℕ) (to : Option (List ℕ)) (out : List (List PlainItem)) →
    ((head' : Head) → Walk s t (Opening kind head' marks pre origin generated ∷ xs) out) →
    Turned s t q (Opening kind head marks pre origin generated ∷ xs) (Set q name to ∷ []) out
Turned-set q kind head marks pre origin generated xs name to out w = record {
  new = changed [] ∷ xs;
  made = λ end rest more h.
      let z : q - q ≡ 0 = omega arith in
      ap (λ k. take k (x ∷ (xs ++ rest)) ++ substituted_from q
      (on_first (item_changed (setting name to (drop k (x ∷ (xs ++ rest))))) (drop k (x ∷ (xs ++ rest)))) more) z
      ∙ skip (changed [] ∷ xs) q end rest more h;
  order = λ end more h. (omega arith, InOrder-within (q + suc (length xs)) (suc q) end end more (omega arith) (omega arith) h);
  walk = w _;
}
  where
    x : PlainItem
    x = Opening kind head marks pre origin generated

    changed : List PlainItem → PlainItem
    changed rest = item_changed (setting name to (x ∷ rest)) x

-- the walk over characters and brackets
pub Walk-none : {s : Level} → Walk s s [] []
Walk-none {s} = record { walks = λ rest. refl }

pub Walk-char : {s : Level} (c : ℕ) (marks : List Mark) → Walk s s (Char c marks ∷ []) []
Walk-char c marks = record { walks = λ rest. refl }

pub Walk-section : (kind : Kind) (head : Head) (marks : List Mark) (pre : List ℕ) (origin : Option ℕ) (generated : Bool) →
    is_among (entered InTable) kind ≡ true → Walk InTable InSection (Opening kind head marks pre origin generated ∷ []) []
Walk-section kind head marks pre origin generated t = record { walks = λ rest. ap (λ b. if b then read 0 InSection rest else read 1 InTable rest) t }

pub Walk-row : (kind : Kind) (head : Head) (marks : List Mark) (pre : List ℕ) (origin : Option ℕ) (generated : Bool) →
    is_among (entered InSection) kind ≡ true → Walk InSection InRow (Opening kind head marks pre origin generated ∷ []) []
Walk-row kind head marks pre origin generated t = record { walks = λ rest. ap (λ b. if b then read 0 InRow rest else read 1 InSection rest) t }

pub Walk-row_end : (kind : Kind) (pre : List ℕ) → Walk InRow InSection (Closing kind pre ∷ []) []
Walk-row_end kind pre = record { walks = λ rest. refl }

pub Walk-section_end : (kind : Kind) (pre : List ℕ) → Walk InSection InTable (Closing kind pre ∷ []) []
Walk-section_end kind pre = record { walks = λ rest. refl }

-- what stands in a node is passed
module _ (level : Level) (k : Kind) (white : List ℕ) (rest : List PlainItem) where
  pub read_passed : (xs : List PlainItem) (e d : ℕ) → ((other : List PlainItem) → length_to_close e (xs ++ Closing k white ∷ other) ≡ suc (length xs)) →
      read (suc (e + d)) level (xs ++ Closing k white ∷ rest) ≡ read d level rest
  read_passed [] zero d h = let z : zero + d ≡ d = omega arith in ap (λ m. read m level rest) z
  read_passed [] (suc e) d h = absurd (let z : suc (suc (length_to_close e [])) ≡ 1 = h (Char 0 [] ∷ []) in omega arith)
  read_passed (Char c marks ∷ xs) e d h = read_passed xs e d (λ other. less _ _ (h other))
    where
      less : (m n : ℕ) → suc m ≡ suc n → m ≡ n
      less m n z = omega arith
  read_passed (Opening kind head marks pre origin generated ∷ xs) e d h =
      let z : suc (suc (e + d)) ≡ suc (suc e + d) = omega arith in
      ap (λ m. read m level (xs ++ Closing k white ∷ rest)) z ∙ read_passed xs (suc e) d (λ other. less _ _ (h other))
    where
      less : (m n : ℕ) → suc m ≡ suc n → m ≡ n
      less m n z = omega arith
  read_passed (Closing kind pre ∷ xs) zero d h = absurd (let z : 1 ≡ suc (suc (length xs)) = h [] in omega arith)
  read_passed (Closing kind pre ∷ xs) (suc e) d h =
      let z : suc e + d ≡ suc (e + d) = omega arith in
      ap (λ m. read m level (xs ++ Closing k white ∷ rest)) z ∙ read_passed xs e d (λ other. less _ _ (h other))
    where
      less : (m n : ℕ) → suc m ≡ suc n → m ≡ n
      less m n z = omega arith

-- A node: what is in it, up to its closing.
abbrev pub Ends : Kind → List ℕ → List PlainItem → Type 0
Ends k white xs = (other : List PlainItem) → length_to_close 0 (xs ++ Closing k white ∷ other) ≡ suc (length xs)

abbrev pub closed_by : Kind → List ℕ → List PlainItem → List PlainItem
closed_by k white xs = xs ++ Closing k white ∷ []

pub closed-append : (k : Kind) (white : List ℕ) (xs rest : List PlainItem) → closed_by k white xs ++ rest ≡ xs ++ Closing k white ∷ rest
closed-append k white xs rest = append_assoc xs (Closing k white ∷ []) rest

pub take_before : (xs rest : List PlainItem) → take (length xs) (xs ++ rest) ≡ xs
take_before [] rest = refl
take_before (x ∷ xs) rest = ap (λ v. x ∷ v) (take_before xs rest)

-- a node that is a cell of its row
pub Walk-cell : (kind : Kind) (head : Head) (marks : List Mark) (pre : List ℕ) (origin : Option ℕ) (generated : Bool) (k : Kind) (white : List ℕ)
    (xs : List PlainItem) →
    is_among (entered InRow) kind ≡ true → Ends k white xs → Walk InRow InRow (Opening kind head marks pre origin generated ∷ closed_by k white xs) (xs ∷ [])
Walk-cell kind head marks pre origin generated k white xs t ends = record {
  walks = λ rest.
      let z : suc (length xs) - 1 ≡ length xs = omega arith in
      let own : node_inside (xs ++ Closing k white ∷ rest) ≡ xs = ap (λ n. take (n - 1) (xs ++ Closing k white ∷ rest)) (ends rest)
      ∙ ap (λ n. take n (xs ++ Closing k white ∷ rest)) z ∙ take_before xs (Closing k white ∷ rest) in
      ap (λ b. if b then node_inside (closed_by k white xs ++ rest) ∷ read 1 InRow (closed_by k white xs ++ rest) else read 1 InRow (closed_by k white xs ++ rest)) t
      ∙ ap (λ v. node_inside v ∷ read 1 InRow v) (closed-append k white xs rest)
      ∙ (λ i. own i ∷ read_passed InRow k white rest xs 0 0 ends i);
}

-- and one that the walk doesn't enter
pub Walk-other : (level : Level) (kind : Kind) (head : Head) (marks : List Mark) (pre : List ℕ) (origin : Option ℕ) (generated : Bool) (k : Kind)
    (white : List ℕ) (xs : List PlainItem) →
    is_among (entered level) kind ≡ false → Ends k white xs → Walk level level (Opening kind head marks pre origin generated ∷ closed_by k white xs) []
Walk-other level kind head marks pre origin generated k white xs t ends = record {
  walks = λ rest.
      first level (closed_by k white xs ++ rest) t ∙ ap (read 1 level) (closed-append k white xs rest) ∙ read_passed level k white rest xs 0 0 ends;
}
  where
    first : (level : Level) (list : List PlainItem) → is_among (entered level) kind ≡ false →
        read 0 level (Opening kind head marks pre origin generated ∷ list) ≡ read 1 level list
    first InTable list t = ap (λ b. if b then read 0 InSection list else read 1 InTable list) t
    first InSection list t = ap (λ b. if b then read 0 InRow list else read 1 InSection list) t
    first InRow list t = ap (λ b. if b then node_inside list ∷ read 1 InRow list else read 1 InRow list) t
