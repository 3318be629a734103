-- No node of a lawful list is a root.
use Rattle.std.proofs.Common.{◌≡◌, ◌≢◌, ℕ, suc, ◌+◌, inl, inr, true, false, List, [], ◌∷◌, ◌++◌, map, replicate, Ok, refl, sym, ap, ◌∙◌, arith, Contains}
use Rattle.std.proofs.lemmas.Bool.{and_parts}
use Rattle.std.proofs.lemmas.List.Elements.{Contains-append_cases}
use Rattle.ve_kinds.specs.declared.kind.Kind.{Kind}
use Rattle.ve_kinds.specs.declared.kind.Kind.TheVariants.{Root, P, H1, H2, H3, H4, H5, H6, Pre, Section, Li, Dt, Dd, Blockquote, Div, Td, Th, Caption, InternalItem, Ul, Ol, Dl, Table, Thead, Tbody, Tfoot, Tr, InternalList, TransBlock, AlienBlock, Br, Img, Ref, TransInline, AlienInline}
use Rattle.ve_kinds.specs.Table.{may_hold}
use Rattle.model_items.specs.declared.plain_item.PlainItem.{PlainItem}
use Rattle.model_items.specs.Law.{State, start, finish, top, state_opened, may_open}
use Rattle.model_items.specs.Tree.{item_count, Shape, Letter, Begin, End, shape_of, shapes}
use Rattle.model_items.proofs.LawLemmas.{if_ok, joined-ok, after_from_Lawful}
use Rattle.model_items.proofs.TreeLemmas.{tree_spells}
use Rattle.ve_arena.specs.declared.node.NodeId.{NodeId}
use Rattle.ve_arena.specs.declared.node.NodeWhat.{NodeWhat}
use Rattle.ve_arena.specs.declared.node.NodeWhat.TheVariants as what
use Rattle.ve_tree.specs.Named.{Named, NoNode, NamedRun, NamedBranch, unnumbered}
use Rattle.ve_tree.specs.IsTree.{IsTree}
use Rattle.ve_tree.specs.Places.{NodePlace, node_places}
use Rattle.ve_tree.proofs.WalkLemmas.{Slots}
use Rattle.ve_tree.proofs.ClimbLemmas.{contains_cases}
use Rattle.ve_offsets.proofs.ShapeLemmas.{step_by, after_by, after-shapes}

held_by_none : (parent : Kind) → may_hold parent Root ≡ false
held_by_none Root = refl
held_by_none P = refl
held_by_none H1 = refl
held_by_none H2 = refl
held_by_none H3 = refl
held_by_none H4 = refl
held_by_none H5 = refl
held_by_none H6 = refl
held_by_none Pre = refl
held_by_none Section = refl
held_by_none Li = refl
held_by_none Dt = refl
held_by_none Dd = refl
held_by_none Blockquote = refl
held_by_none Div = refl
held_by_none Td = refl
held_by_none Th = refl
held_by_none Caption = refl
held_by_none InternalItem = refl
held_by_none Ul = refl
held_by_none Ol = refl
held_by_none Dl = refl
held_by_none Table = refl
held_by_none Thead = refl
held_by_none Tbody = refl
held_by_none Tfoot = refl
held_by_none Tr = refl
held_by_none InternalList = refl
held_by_none TransBlock = refl
held_by_none AlienBlock = refl
held_by_none Br = refl
held_by_none Img = refl
held_by_none Ref = refl
held_by_none TransInline = refl
held_by_none AlienInline = refl

pub not_root : (s u : State) (kind : Kind) → state_opened s kind ≡ Ok u → kind ≢ Root
not_root s u kind h e =
    let allowed = (if_ok (may_open s kind) _ _ u h).0 in
    let held = (and_parts (may_hold (top s.stack) kind) _ allowed).0 in
    let bad : false ≡ true = sym (held_by_none (top s.stack)) ∙ ap (may_hold (top s.stack)) (sym e) ∙ held in
    cc

-- none of the shapes opens a root
abbrev pub NoRoot : List Shape → Type 0
NoRoot [] = Unit {0}
NoRoot (Letter ∷ xs) = NoRoot xs
NoRoot (Begin kind ∷ xs) = (kind ≢ Root) × NoRoot xs
NoRoot (End kind ∷ xs) = NoRoot xs

no_root : (xs : List Shape) (s u : State) → after_by s xs ≡ Ok u → NoRoot xs
no_root [] s u h = tt
no_root (Letter ∷ xs) s u h = let p = joined-ok 1 (step_by s Letter) (λ next. after_by next xs) u h in no_root xs p.0 u p.2
no_root (Begin kind ∷ xs) s u h = let p = joined-ok 1 (step_by s (Begin kind)) (λ next. after_by next xs) u h in (not_root s p.0 kind p.1, no_root xs p.0 u p.2)
no_root (End kind ∷ xs) s u h = let p = joined-ok 1 (step_by s (End kind)) (λ next. after_by next xs) u h in no_root xs p.0 u p.2

no_root_ls : (xs ys : List Shape) → NoRoot (xs ++ ys) → NoRoot xs
no_root_ls [] ys h = tt
no_root_ls (Letter ∷ xs) ys h = no_root_ls xs ys h
no_root_ls (Begin kind ∷ xs) ys h = (h.0, no_root_ls xs ys h.1)
no_root_ls (End kind ∷ xs) ys h = no_root_ls xs ys h

no_root_rs : (xs ys : List Shape) → NoRoot (xs ++ ys) → NoRoot ys
no_root_rs [] ys h = h
no_root_rs (Letter ∷ xs) ys h = no_root_rs xs ys h
no_root_rs (Begin kind ∷ xs) ys h = no_root_rs xs ys h.1
no_root_rs (End kind ∷ xs) ys h = no_root_rs xs ys h

no_root_in : (f : Named) (p at : ℕ) (y : NodePlace) → NoRoot (shapes (unnumbered f)) → Contains (node_places p at f) y → y.sort ≢ what.Node Root
no_root_in NoNode p at y h c e = absurd (omega (arith, c.1))
no_root_in (NamedRun n count later) p at y h c e = elim (contains_cases _ y (node_places p (at + count) later) c) [
  | inl same ↦ let bad : ◌≡◌ {A = NodeWhat} what.Run (what.Node Root) = ap (λ (z : NodePlace). z.sort) same ∙ e in absurd (cc)
  | inr there ↦ no_root_in later p (at + count) y (no_root_rs (replicate count Letter) (shapes (unnumbered later)) h) there e
]
no_root_in (NamedBranch n kind inside later) p at y h c e =
    let len = item_count (unnumbered inside) + 2 in
    elim (contains_cases _ y (node_places n (suc at) inside ++ node_places p (at + len) later) c) [
      | inl same ↦ let both : ◌≡◌ {A = NodeWhat} (what.Node kind) (what.Node Root) = ap (λ (z : NodePlace). z.sort) same ∙ e in h.0 (cc)
      | inr there ↦ elim (Contains-append_cases (node_places n (suc at) inside) (node_places p (at + len) later) y there) [
        | inl in_ ↦ no_root_in inside n (suc at) y (no_root_ls (shapes (unnumbered inside)) (End kind ∷ shapes (unnumbered later)) h.1) in_ e
        | inr after_ ↦ no_root_in later p (at + len) y (no_root_rs (shapes (unnumbered inside)) (End kind ∷ shapes (unnumbered later)) h.1) after_ e
      ]
    ]

-- no node under the root of a tree is one
pub under_no_root : {slots : Slots} {root : NodeId} {items : List PlainItem} (tree : IsTree slots root items) (y : NodePlace) → Contains (node_places root.0 0 tree.named) y → y.sort ≢ what.Node Root
under_no_root {root = root} {items = items} tree y c =
    let spelt : shapes (unnumbered tree.named) ≡ map shape_of items = ap shapes tree.is_tree ∙ tree_spells items tree.lawful in
    let well = ap (after_by start) spelt ∙ sym (after-shapes items start) ∙ after_from_Lawful items tree.lawful in
    no_root_in tree.named root.0 0 y (no_root (shapes (unnumbered tree.named)) start finish well) c
