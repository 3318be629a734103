-- A lawful list of formed items is one of such nodes.
use Rattle.std.proofs.Common.{◌≡◌, ℕ, suc, Bool, true, false, not, ◌&&◌, ◌||◌, if◌then◌else◌, List, [], ◌∷◌, ◌++◌, length, Option, Some, None, Result, Ok, Err, refl, sym, ap, ◌∙◌, subst, append_assoc, inl, inr}
use Rattle.std.proofs.lemmas.Bool.{and_parts, cases_Bool}
use Rattle.std.specs.Prelude.{nat_lt}
use denote.Enum.Bare.{same_true}
use Rattle.ve_kinds.specs.contracts.kind.Kind.{the_type}
use Rattle.ve_kinds.specs.declared.kind.Kind.{Kind}
use Rattle.ve_kinds.specs.declared.kind.Kind.TheVariants.{Root, P, H1, H2, H3, H4, H5, H6, Pre, Section, Li, Dt, Dd, Blockquote, Div, Td, Th, Caption, InternalItem, Ul, Ol, Dl, Table, Thead, Tbody, Tfoot, Tr, InternalList, TransBlock, AlienBlock, Br, Img, Ref, TransInline, AlienInline}
use Rattle.ve_base.specs.declared.marks.Mark.{Mark}
use Rattle.ve_base.specs.declared.head.Head.{Head}
use Rattle.model_items.specs.declared.plain_item.PlainItem.{PlainItem}
use Rattle.model_items.specs.declared.plain_item.PlainItem.TheVariants.{Char, Opening, Closing}
use Rattle.ve_kinds.specs.Table.{kind_same}
use Rattle.ve_kinds.specs.Table.{may_hold, is_among, is_content_branch, is_leaf, inline_leaves, block_leaves}
use Rattle.model_items.specs.declared.law_fault.LawFault.{LawFault}
use Rattle.model_items.specs.declared.law_fault.LawFault.TheVariants.{Unlawful, TooDeep}
use Rattle.model_items.specs.Law.{State, start, top, is_empty, is_over, may_open, state_opened, state_closed, step, outcome_moved, outcome_then, after, verdict_at, Lawful}
use Rattle.model_page.specs.Elements.{is_white}
use Rattle.model_page.specs.References.{Body}
use Rattle.ve_base.specs.Empty.{empty_head}
use Rattle.model_page_write.specs.Nodes.{Carried, Start, Nodes, Empty, Letter, Node, node_list_items, start_item, carried_from, body_carried}
use Rattle.model_page_law.specs.Formed.{ArePlainMarks, IsFormedOpening, IsFormedClosing, IsFormed, AreFormed}
use Rattle.model_page_law.proofs.FormedNodes.{IsLeaf, IsContent, IsBranch, AreBlocks, IsList, with_list, IsSuch}
use Rattle.model_page_law.specs.ReadBack.{FreshIsReadBack}
use Rattle.model_page_law.proofs.ReadLemmas.{is_read_back}
use Rattle.model_page_law.proofs.FormKinds.{content_holds, no_br, no_img, no_root, leaf_holds, element_or, no_leaf}

true_false : (b : Bool) → b ≡ true → b ≡ false → ⊥
true_false true e f = cc
true_false false e f = cc

false_of : (b : Bool) → (b ≡ true → ⊥) → b ≡ false
false_of true h = absurd (h refl)
false_of false h = refl

-- ---- what is left of a list, where these kinds are open

-- what stands in an open node
record Held (k : Kind) (n : Nodes) (pre : List ℕ) : Type 0 where
  leaf : is_leaf k ≡ true → (n ≡ Empty) × (pre ≡ [])
  content : is_content_branch k ≡ true → IsContent n × (pre ≡ [])
  blocks : is_leaf k ≡ false → is_content_branch k ≡ false → AreBlocks k n × (is_white pre ≡ true)
  list : kind_same k InternalList ≡ true → (n ≡ Empty) × (pre ≡ [])

abbrev closing_of : Kind → List ℕ → Carried
closing_of k pre = record { item = Closing k pre; body = None }

abbrev Parsed : List Kind → Bool → List Carried → Type 0
Parsed [] true cs = cs ≡ []
Parsed [] false cs = (n : Nodes) × (l : Start) × (cs ≡ node_list_items (with_list n l)) × AreBlocks Root n × IsList l
Parsed (k ∷ outer) seen cs = (n : Nodes) × (pre : List ℕ) × (rest : List Carried) × (cs ≡ node_list_items n ++ closing_of k pre ∷ rest) × Held k n pre × Parsed outer seen rest

prefix_char : (c : ℕ) (marks : List Mark) (stack : List Kind) (seen : Bool) (cs : List Carried) → is_content_branch (top stack) ≡ true → IsFormed (Char c marks) → Parsed stack seen cs →
    Parsed stack seen (record { item = Char c marks; body = None } ∷ cs)
prefix_char c marks [] seen cs h f p = cc
prefix_char c marks (k ∷ outer) seen cs h f p =
    let held = p.4 in (
      Letter c marks p.0,
      p.1,
      p.2,
      ap (λ xs. record { item = Char c marks; body = None } ∷ xs) p.3,
      record {
        leaf = λ l. absurd (true_false (is_leaf k) l (no_leaf k h));
        content = λ e. let g = held.content e in ((f.0, f.1, g.0), g.1);
        blocks = λ l b. absurd (true_false (is_content_branch k) h b);
        list = λ e. absurd (true_false (is_content_branch k) h (ap is_content_branch (same_true the_type tt k InternalList e)));
      },
      p.5,
    )

-- a result that is a state
state_in : Result State LawFault → State → State
state_in (Ok s) d = s
state_in (Err f) d = d

ok_same : (s t : State) → ◌≡◌ {A = Result State LawFault} (Ok s) (Ok t) → s ≡ t
unfolding state_in
ok_same s t e = ap (λ r. state_in r s) e

if_ok : (c : Bool) (r : Result State LawFault) (f : LawFault) (t : State) → (if c then r else Err f) ≡ Ok t → (c ≡ true) × (r ≡ Ok t)
if_ok true r f t e = (refl, e)
if_ok false r f t e = cc

Held-empty : (k : Kind) (pre : List ℕ) → IsFormedClosing k pre → Held k Empty pre
Held-empty k pre f = record {
  leaf = λ l. (refl, f.none (λ i. l i || is_content_branch k || kind_same k InternalList));
  content = λ c. (tt, f.none (second (is_leaf k) (is_content_branch k) (kind_same k InternalList) c));
  blocks = λ l c. (tt, f.white);
  list = λ e. (refl, f.none (third (is_leaf k) (is_content_branch k) (kind_same k InternalList) e));
}
  where
    second : (a b c : Bool) → b ≡ true → (a || b || c) ≡ true
    second true b c e = refl
    second false true c e = refl
    second false false c e = cc

    third : (a b c : Bool) → c ≡ true → (a || b || c) ≡ true
    third true b c e = refl
    third false true c e = refl
    third false false true e = refl
    third false false false e = cc

prefix_closing : (kind : Kind) (pre : List ℕ) (stack : List Kind) (seen : Bool) (t : State) (cs : List Carried) → state_closed stack seen kind ≡ Ok t → IsFormedClosing kind pre → Parsed t.stack t.seen cs →
    Parsed stack seen (closing_of kind pre ∷ cs)
prefix_closing kind pre [] seen t cs e f p = cc
prefix_closing kind pre (inner ∷ outer) seen t cs e f p =
    let i = if_ok (kind_same inner kind) (Ok (record { stack = outer; seen = seen })) (Unlawful 0) t e in
    let same : inner ≡ kind = same_true the_type tt inner kind i.0 in
    let s : record { stack = outer; seen = seen } ≡ t = ok_same (record { stack = outer; seen = seen }) t i.1 in (
      Empty,
      pre,
      cs,
      ap (λ k. closing_of k pre ∷ cs) (sym same),
      subst (λ k. Held k Empty pre) (sym same) (Held-empty kind pre f),
      subst (λ x. Parsed x.stack x.seen cs) (sym s) p,
    )

-- ---- an opening

abbrev start_of : Kind → Head → List Mark → List ℕ → Option ℕ → Bool → Option Body → Start
start_of kind head marks pre origin generated body = record { kind = kind; head = head; marks = marks; pre = pre; origin = origin; generated = generated; body = body }

-- an inline leaf in content
as_leaf : (k : Kind) (s : Start) (n : Nodes) (pre : List ℕ) → is_content_branch k ≡ true → may_hold k s.kind ≡ true → IsFormedOpening s.kind s.head s.marks s.pre → Held s.kind n pre →
    IsLeaf s n pre × ArePlainMarks s.marks
as_leaf k s n pre c h f held =
    let leaf : is_leaf s.kind ≡ true = later_of (is_among block_leaves s.kind) (is_among inline_leaves s.kind) (content_holds k s.kind c h) in
    let g = f.leaf leaf in
    let e = held.leaf leaf in
    (record { kind = g.0; head = f.head; alone = e.0; before = g.2; closing = e.1 }, g.1)
  where
    later_of : (a b : Bool) → b ≡ true → (a || b) ≡ true
    later_of true b e = refl
    later_of false b e = e

not_leaf : (k : Kind) (s : Start) → is_content_branch k ≡ false → may_hold k s.kind ≡ true → IsFormedOpening s.kind s.head s.marks s.pre → is_leaf s.kind ≡ false
not_leaf k s c h f = false_of (is_leaf s.kind) (λ l. neither (f.leaf l).0)
  where
    neither : (kind_same s.kind Br || kind_same s.kind Img) ≡ true → ⊥
    neither e =
        elim (cases_Bool (kind_same s.kind Br)) [
          | inl b ↦ true_false (may_hold k s.kind) h (ap (may_hold k) (same_true the_type tt s.kind Br b) ∙ no_br k c)
          | inr b ↦ true_false (may_hold k s.kind) h (ap (may_hold k) (same_true the_type tt s.kind Img (sym (ap (λ x. x || kind_same s.kind Img) b) ∙ e)) ∙ no_img k c)
        ]

as_branch : (k : Kind) (s : Start) → is_content_branch k ≡ false → may_hold k s.kind ≡ true → kind_same s.kind InternalList ≡ false → IsFormedOpening s.kind s.head s.marks s.pre → IsBranch k s
as_branch k s c h l f =
    let leaf : is_leaf s.kind ≡ false = not_leaf k s c h f in
    let root : kind_same s.kind Root ≡ false = false_of (kind_same s.kind Root) (λ e. true_false (may_hold k s.kind) h (ap (may_hold k) (same_true the_type tt s.kind Root e) ∙ no_root k)) in
    record { held = h; element = element_or s.kind leaf l f.item root; branch = leaf; head = f.head; marks = f.branch leaf; before = f.white }

as_blocks : (k : Kind) (s : Start) (n later : Nodes) (pre : List ℕ) → is_content_branch k ≡ false → may_hold k s.kind ≡ true → kind_same s.kind InternalList ≡ false → IsFormedOpening s.kind s.head s.marks s.pre →
    Held s.kind n pre → AreBlocks k later → AreBlocks k (Node s n pre later)
as_blocks k s n later pre c h l f held b =
    let branch = as_branch k s c h l f in (branch, held.content, held.blocks branch.branch, b)

no_item : (c : Kind) → may_hold InternalList c ≡ true → kind_same c InternalItem ≡ false → ⊥
no_item Root h e = cc
no_item P h e = cc
no_item H1 h e = cc
no_item H2 h e = cc
no_item H3 h e = cc
no_item H4 h e = cc
no_item H5 h e = cc
no_item H6 h e = cc
no_item Pre h e = cc
no_item Section h e = cc
no_item Li h e = cc
no_item Dt h e = cc
no_item Dd h e = cc
no_item Blockquote h e = cc
no_item Div h e = cc
no_item Td h e = cc
no_item Th h e = cc
no_item Caption h e = cc
no_item InternalItem h e = cc
no_item Ul h e = cc
no_item Ol h e = cc
no_item Dl h e = cc
no_item Table h e = cc
no_item Thead h e = cc
no_item Tbody h e = cc
no_item Tfoot h e = cc
no_item Tr h e = cc
no_item InternalList h e = cc
no_item TransBlock h e = cc
no_item AlienBlock h e = cc
no_item Br h e = cc
no_item Img h e = cc
no_item Ref h e = cc
no_item TransInline h e = cc
no_item AlienInline h e = cc

Held-node : (k : Kind) (s : Start) (n later : Nodes) (pre closing : List ℕ) → may_hold k s.kind ≡ true → kind_same s.kind InternalList ≡ false → IsFormedOpening s.kind s.head s.marks s.pre →
    Held s.kind n pre → Held k later closing → Held k (Node s n pre later) closing
Held-node k s n later pre closing h l f held b = record {
  leaf = λ e. absurd (true_false (may_hold k s.kind) h (leaf_holds k s.kind e));
  content = λ e. let g = as_leaf k s n pre e h f held in let r = b.content e in ((g.0, g.1, r.0), r.1);
  blocks = λ e c. let r = b.blocks e c in (as_blocks k s n later pre c h l f held r.0, r.1);
  list = λ e. absurd (no_item s.kind (ap (λ x. may_hold x s.kind) (sym (same_true the_type tt k InternalList e)) ∙ h) f.item);
}

-- the items of a node before more
node_prefix : (s : Start) (n later : Nodes) (pre : List ℕ) (cs rest more : List Carried) → cs ≡ node_list_items n ++ closing_of s.kind pre ∷ rest → rest ≡ node_list_items later ++ more →
    start_item s ∷ cs ≡ node_list_items (Node s n pre later) ++ more
node_prefix s n later pre cs rest more e r =
    ap (λ xs. start_item s ∷ xs) (e ∙ ap (λ xs. node_list_items n ++ closing_of s.kind pre ∷ xs) r ∙ sym (append_assoc (node_list_items n) (closing_of s.kind pre ∷ node_list_items later) more))

prefix_branch : (s : Start) (stack : List Kind) (seen : Bool) (cs : List Carried) → may_hold (top stack) s.kind ≡ true → kind_same s.kind InternalList ≡ false → (is_empty stack && seen) ≡ false →
    IsFormedOpening s.kind s.head s.marks s.pre → Parsed (s.kind ∷ stack) seen cs → Parsed stack seen (start_item s ∷ cs)
prefix_branch s [] true cs h l o f p = cc
prefix_branch s [] false cs h l o f p =
    let q = p.5 in (
      Node s p.0 p.1 q.0,
      q.1,
      ap (λ xs. start_item s ∷ xs) (p.3 ∙ ap (λ xs. node_list_items p.0 ++ closing_of s.kind p.1 ∷ xs) q.2),
      as_blocks Root s p.0 q.0 p.1 refl h l f p.4 q.3,
      q.4,
    )
prefix_branch s (k ∷ outer) seen cs h l o f p =
    let q = p.5 in (
      Node s p.0 p.1 q.0,
      q.1,
      q.2,
      node_prefix s p.0 q.0 p.1 cs p.2 (closing_of k q.1 ∷ q.2) p.3 q.3,
      Held-node k s p.0 q.0 p.1 q.1 h l f p.4 q.4,
      q.5,
    )

-- the internal list
prefix_list : (s : Start) (stack : List Kind) (seen : Bool) (cs : List Carried) → kind_same s.kind InternalList ≡ true → (is_empty stack && not seen) ≡ true → IsFormedOpening s.kind s.head s.marks s.pre →
    Parsed (s.kind ∷ stack) true cs → Parsed stack seen (start_item s ∷ cs)
prefix_list s (k ∷ outer) seen cs l o f p = cc
prefix_list s [] true cs l o f p = cc
prefix_list s [] false cs l o f p =
    let e = p.4.list l in
    let k : s.kind ≡ InternalList = same_true the_type tt s.kind InternalList l in
    let head : s.head ≡ empty_head = f.head.alone ∙ ap (λ a. record { tag = []; attrs = a; raw = []; reference = None; owner = false }) (f.list l) in (
      Empty,
      s,
      ap (λ xs. start_item s ∷ xs) (p.3 ∙ (λ i. node_list_items (e.0 i) ++ closing_of s.kind (e.1 i) ∷ p.5 i)),
      tt,
      record { kind = k; head = head; marks = f.branch (ap is_leaf k); before = f.white },
    )

prefix_opening : (s : Start) (stack : List Kind) (seen : Bool) (t : State) (cs : List Carried) → state_opened (record { stack = stack; seen = seen }) s.kind ≡ Ok t → IsFormedOpening s.kind s.head s.marks s.pre →
    Parsed t.stack t.seen cs → Parsed stack seen (start_item s ∷ cs)
prefix_opening s stack seen t cs e f p =
    let old : State = record { stack = stack; seen = seen } in
    let next : State = record { stack = s.kind ∷ stack; seen = seen || kind_same s.kind InternalList } in
    let a = if_ok (may_open old s.kind) (if nat_lt (length stack) 100 then Ok next else Err (TooDeep 0)) (Unlawful 0) t e in
    let b = if_ok (nat_lt (length stack) 100) (Ok next) (TooDeep 0) t a.1 in
    let same : next ≡ t = ok_same next t b.1 in
    let m = and_parts (may_hold (top stack) s.kind) (if kind_same s.kind InternalList then is_empty stack && not seen else not (is_over old)) a.0 in
    let q : Parsed (s.kind ∷ stack) (seen || kind_same s.kind InternalList) cs = subst (λ x. Parsed x.stack x.seen cs) (sym same) p in
    elim (cases_Bool (kind_same s.kind InternalList)) [
      | inl l ↦ prefix_list s stack seen cs l (sym (pick (kind_same s.kind InternalList) (is_empty stack && not seen) (not (is_over old)) l) ∙ m.1) f (subst (λ b. Parsed (s.kind ∷ stack) b cs) (last seen (kind_same s.kind InternalList) l) q)
      | inr l ↦ prefix_branch s stack seen cs m.0 l (not_true (is_over old) (sym (pick_other (kind_same s.kind InternalList) (is_empty stack && not seen) (not (is_over old)) l) ∙ m.1)) f
          (subst (λ b. Parsed (s.kind ∷ stack) b cs) (first seen (kind_same s.kind InternalList) l) q)
    ]
  where
    pick : (c x y : Bool) → c ≡ true → (if c then x else y) ≡ x
    pick true x y e = refl
    pick false x y e = cc

    pick_other : (c x y : Bool) → c ≡ false → (if c then x else y) ≡ y
    pick_other true x y e = cc
    pick_other false x y e = refl

    last : (a b : Bool) → b ≡ true → (a || b) ≡ true
    last true b e = refl
    last false b e = e

    first : (a b : Bool) → b ≡ false → (a || b) ≡ a
    first true b e = refl
    first false b e = e

    not_true : (a : Bool) → not a ≡ true → a ≡ false
    not_true true e = cc
    not_true false e = refl

-- ---- the whole list

moved_ok : (r : Result State LawFault) (u : State) → outcome_moved 1 r ≡ Ok u → r ≡ Ok u
moved_ok (Ok s) u e = e
moved_ok (Err f) u e = cc

joined_ok : (r : Result State LawFault) (rest : State → Result State LawFault) (u : State) → outcome_then 1 r rest ≡ Ok u → (t : State) × (r ≡ Ok t) × (rest t ≡ Ok u)
joined_ok (Ok t) rest u e = (t, refl, moved_ok (rest t) u e)
joined_ok (Err f) rest u e = cc

ended : (stack : List Kind) (seen : Bool) → (is_empty stack && seen) ≡ true → Parsed stack seen []
ended (k ∷ outer) seen h = cc
ended [] false h = cc
ended [] true h = refl

parsed : (items : List PlainItem) (bodies : ℕ → Option Body) (at : ℕ) (s u : State) → after s items ≡ Ok u → is_over u ≡ true → AreFormed items → Parsed s.stack s.seen (carried_from bodies at items)
parsed [] bodies at s u e o f = let same : s ≡ u = ok_same s u e in ended s.stack s.seen (ap is_over same ∙ o)
parsed (Char c marks ∷ items) bodies at s u e o f =
    let j = joined_ok (step s (Char c marks)) (λ next. after next items) u e in
    let i = if_ok (is_content_branch (top s.stack)) (Ok s) (Unlawful 0) j.0 j.1 in
    let same : s ≡ j.0 = ok_same s j.0 i.1 in
    prefix_char c marks s.stack s.seen (carried_from bodies (suc at) items) i.0 f.0
    (subst (λ x. Parsed x.stack x.seen (carried_from bodies (suc at) items)) (sym same) (parsed items bodies (suc at) j.0 u j.2 o f.1))
parsed (Closing kind pre ∷ items) bodies at s u e o f =
    let j = joined_ok (step s (Closing kind pre)) (λ next. after next items) u e in
    prefix_closing kind pre s.stack s.seen j.0 (carried_from bodies (suc at) items) j.1 f.0 (parsed items bodies (suc at) j.0 u j.2 o f.1)
parsed (Opening kind head marks pre origin generated ∷ items) bodies at s u e o f =
    let j = joined_ok (step s (Opening kind head marks pre origin generated)) (λ next. after next items) u e in
    prefix_opening (start_of kind head marks pre origin generated (bodies at)) s.stack s.seen j.0 (carried_from bodies (suc at) items) j.1 f.0 (parsed items bodies (suc at) j.0 u j.2 o f.1)

lawful_end : (end : ℕ) (r : Result State LawFault) → verdict_at end r ≡ None → (u : State) × (r ≡ Ok u) × (is_over u ≡ true)
lawful_end end (Err f) h = cc
lawful_end end (Ok u) h = (u, refl, over (is_over u) h)
  where
    over : (c : Bool) → (if c then None else Some (Unlawful end)) ≡ None → c ≡ true
    over true e = refl
    over false e = cc

pub such_list : (items : List PlainItem) → Lawful items → AreFormed items → IsSuch items
such_list items h f =
    let e = lawful_end (length items) (after start items) h in
    let p = parsed items (body_carried items) 0 start e.0 e.1 e.2 f in
    record { nodes = p.0; list = p.1; are = p.2; blocks = p.3; last = p.4 }

pub fresh_is_read_back : FreshIsReadBack
fresh_is_read_back items h f forest at spelled e = is_read_back items (such_list items h f) forest at spelled e
