-- Nodes of the old and the new tree match exactly where they have one number.
use Rattle.std.proofs.Common.{◌≡◌, ℕ, zero, suc, ◌+◌, ◌-◌, Bool, true, false, nat_lt, if◌then◌else◌, Option, Some, None, option_map, List, [], ◌∷◌, ◌++◌, length, map, replicate, refl, sym, ap, ◌∙◌, subst, arith}
use Rattle.std.proofs.lemmas.Bool.{ltb-true}
use Rattle.std.proofs.lemmas.List.{length-map}
use Rattle.ve_base.specs.declared.value.Value.{Value}
use Rattle.model_items.specs.declared.item.Item.{Item}
use Rattle.model_items.specs.declared.item.Item.TheVariants as item
use Rattle.model_items.specs.declared.plain_item.PlainItem.{PlainItem}
use Rattle.model_change.specs.Touch.{new_place}
use Rattle.model_change.specs.Transaction.{Transaction}
use Rattle.ve_arena.specs.declared.node.NodeId.{NodeId}
use Rattle.ve_arena.specs.declared.node.ArenaNode.{ArenaNode}
use Rattle.ve_tree.specs.Links.{AllApart, links_of, Children}
use Rattle.ve_tree.specs.Named.{Named, NoNode, NamedRun, NamedBranch, IsShown, Shows, node_numbers}
use Rattle.ve_tree.specs.IsTree.{IsTree}
use Rattle.ve_tree.specs.Fits.{Fits, HaveKids, AreLabelled, IsLabelled, IsTreeWith}
use Rattle.ve_tree.proofs.ReadsLemmas.{one_numbering}
use Rattle.ve_tx.specs.Operation.{Operation, Retain, Replace, Attribute, bare, by_value}
use Rattle.ve_repair.specs.Tokens.{tokens, grown, start, puts}
use Rattle.ve_repair.specs.Spelled.{Sign, token_of, AllFrom}
use Rattle.ve_repair.specs.Sizes.{signs_of}
use Rattle.ve_repair.specs.Ready.{nums}
use Rattle.ve_repair.specs.Acts.{Act, Stay, Go, come, rest_of, acts_of}
use Rattle.ve_repair.specs.Whole.{script_of}
use Rattle.ve_repair.specs.Moved.{act_place, all_acts, Moves}
use Rattle.ve_repair.specs.Kept.{name_of, count_of}
use Rattle.model_items.specs.Plain.{plain, plain_list}
use Rattle.ve_repair.specs.Change.{new_list}
use Rattle.ve_repair.proofs.PlaceLemmas.{if_lt, if_ge, le_from_false}
use Rattle.ve_repair.specs.Matching.{IsChanged, NumbersMatch, NumbersAreKept}
use Rattle.ve_repair.specs.Traced.{AllTraced}
use Rattle.ve_repair.proofs.ChangedLemmas.{tokens-signs}
use Rattle.ve_repair.proofs.ReadyLemmas.{nums-tokens}
use Rattle.ve_repair.proofs.RepairLemmas.{repair_with}
use Rattle.ve_repair.proofs.WholeLemmas.{change_is_repair}
use Rattle.ve_repair.proofs.SourceLemmas.{all_traced}
use Rattle.ve_repair.proofs.MatchLemmas.{IsNamed, one_one, match_number, number_match}
use Rattle.ve_repair.proofs.NumberedLemmas.{place_named}

-- what a transaction does with each item
by_more : (o : Option ℕ) (count : ℕ) → option_map suc (option_map (λ q. count + q) o) ≡ option_map (λ q. suc count + q) o
by_more None count = refl
by_more (Some q) count = ap (λ (k : ℕ). Some k) (omega arith)

by_none : (o : Option ℕ) → o ≡ option_map (λ q. 0 + q) o
by_none None = refl
by_none (Some q) = ap (λ (k : ℕ). Some k) (omega arith)

less_none : (acts : List Act) (p : ℕ) → act_place acts p ≡ act_place acts (p - 0)
less_none acts p = ap (act_place acts) (let e : p ≡ p - 0 = omega arith in e)

less_one : (acts : List Act) (p count : ℕ) → act_place acts (p - count) ≡ act_place acts (suc p - suc count)
less_one acts p count = ap (act_place acts) (let e : p - count ≡ suc p - suc count = omega arith in e)

stay-place : (count : ℕ) (acts : List Act) (p : ℕ) →
    act_place (replicate count Stay ++ acts) p ≡ (if nat_lt p count then Some p else option_map (λ q. count + q) (act_place acts (p - count)))
stay-place zero acts p = by_none (act_place acts p) ∙ ap (option_map (λ q. 0 + q)) (less_none acts p)
    ∙ sym (if_ge p 0 (Some p) (option_map (λ q. 0 + q) (act_place acts (p - 0))) (omega arith))
stay-place (suc count) acts zero = sym (if_lt 0 (suc count) (Some 0) (option_map (λ q. suc count + q) (act_place acts (0 - suc count))) (omega arith))
stay-place (suc count) acts (suc p) = ap (option_map suc) (stay-place count acts p) ∙ go (nat_lt p count) refl
  where
    there : Option ℕ
    there = option_map (λ q. suc count + q) (act_place acts (suc p - suc count))

    go : (b : Bool) → nat_lt p count ≡ b → option_map suc (if nat_lt p count then Some p else option_map (λ q. count + q) (act_place acts (p - count)))
        ≡ (if nat_lt (suc p) (suc count) then Some (suc p) else option_map (λ q. suc count + q) (act_place acts (suc p - suc count)))
    go true h =
        let l = ltb-true p count h in
        ap (option_map suc) (if_lt p count (Some p) (option_map (λ q. count + q) (act_place acts (p - count))) l)
        ∙ sym (if_lt (suc p) (suc count) (Some (suc p)) there (omega (arith, l)))
    go false h =
        let l = le_from_false p count h in
        ap (option_map suc) (if_ge p count (Some p) (option_map (λ q. count + q) (act_place acts (p - count))) l) ∙ by_more (act_place acts (p - count)) count
        ∙ ap (option_map (λ q. suc count + q)) (less_one acts p count) ∙ sym (if_ge (suc p) (suc count) (Some (suc p)) there (omega (arith, l)))

go-place : (count : ℕ) (acts : List Act) (p : ℕ) → act_place (replicate count Go ++ acts) p ≡ (if nat_lt p count then None else act_place acts (p - count))
go-place zero acts p = less_none acts p ∙ sym (if_ge p 0 None (act_place acts (p - 0)) (omega arith))
go-place (suc count) acts zero = sym (if_lt 0 (suc count) None (act_place acts (0 - suc count)) (omega arith))
go-place (suc count) acts (suc p) = go-place count acts p ∙ go (nat_lt p count) refl
  where
    go : (b : Bool) → nat_lt p count ≡ b → (if nat_lt p count then None else act_place acts (p - count)) ≡ (if nat_lt (suc p) (suc count) then None else act_place acts (suc p - suc count))
    go true h =
        let l = ltb-true p count h in
        if_lt p count None (act_place acts (p - count)) l ∙ sym (if_lt (suc p) (suc count) None (act_place acts (suc p - suc count)) (omega (arith, l)))
    go false h =
        let l = le_from_false p count h in
        if_ge p count None (act_place acts (p - count)) l ∙ less_one acts p count
        ∙ sym (if_ge (suc p) (suc count) None (act_place acts (suc p - suc count)) (omega (arith, l)))

come-place : (items : List Item) (ns : List ℕ) (acts : List Act) (p : ℕ) →
    act_place (come items ns ++ acts) p ≡ option_map (λ q. length items + q) (act_place acts p)
come-place [] ns acts p = by_none (act_place acts p)
come-place (item.Char ch marks ∷ items) ns acts p = ap (option_map suc) (come-place items ns acts p) ∙ by_more (act_place acts p) (length items)
come-place (item.Opening kind generated head marks pre origin ∷ items) [] acts p = ap (option_map suc) (come-place items [] acts p)
    ∙ by_more (act_place acts p) (length items)
come-place (item.Opening kind generated head marks pre origin ∷ items) (n ∷ ns) acts p = ap (option_map suc) (come-place items ns acts p)
    ∙ by_more (act_place acts p) (length items)
come-place (item.Closing kind pre ∷ items) ns acts p = ap (option_map suc) (come-place items ns acts p) ∙ by_more (act_place acts p) (length items)

pub op_places : (tx : List Operation) (ns : List ℕ) (values : List Value) (p : ℕ) → new_place (by_value values tx) p ≡ act_place (acts_of (map bare tx) ns) p
op_places [] ns values p = refl
op_places (Retain count ∷ tx) ns values p =
    ap (λ o. if nat_lt p count then Some p else option_map (λ q. count + q) o) (op_places tx ns values (p - count))
    ∙ sym (stay-place count (acts_of (map bare tx) ns) p)
op_places (Replace removed inserted ∷ tx) ns values p =
    let rest = acts_of (map bare tx) (rest_of inserted ns) in
    (λ i. if nat_lt p (length-map removed (plain values) i) then None else option_map (λ q. length-map inserted (plain values) i + q) (new_place (by_value values tx) (p - length-map removed (plain values) i)))
    ∙ ap (λ o. if nat_lt p (length removed) then None else option_map (λ q. length inserted + q) o) (op_places tx (rest_of inserted ns) values (p - length removed))
    ∙ ap (λ o. if nat_lt p (length removed) then None else o) (sym (come-place inserted ns rest (p - length removed)))
    ∙ sym (go-place (length removed) (come inserted ns ++ rest) p)
op_places (Attribute change ∷ tx) ns values p = op_places tx ns values p

pub moves_by : (tx : List Operation) (ns : List ℕ) (values : List Value) (lefts rights : List Sign) (acts : List Act) →
    acts_of (map bare tx) ns ≡ all_acts lefts acts rights →
    Moves (new_place (by_value values tx)) lefts acts rights
moves_by tx ns values lefts rights acts e x = op_places tx ns values x ∙ ap (λ l. act_place l x) e

-- the forest that a tree is read from is the one that was made
is_shown : (slots : List (Option ArenaNode)) (kids : ℕ → List ℕ) (n : ℕ) (sort : _) (len : ℕ) (own : List ℕ) → Fits (links_of slots) kids →
    IsLabelled slots n sort len → kids n ≡ own → IsShown slots n sort len own
is_shown slots kids n sort len own fits l e = record { sort_is = l.sort_is; len_is = l.len_is; children = subst (Children (links_of slots) n) e (fits.children n) }

shown_of : (slots : List (Option ArenaNode)) (kids : ℕ → List ℕ) (f : Named) → Fits (links_of slots) kids → AreLabelled slots f → HaveKids kids f →
    Shows slots f
shown_of slots kids NoNode fits l k = tt
shown_of slots kids (NamedRun n count later) fits l k = (is_shown slots kids n _ _ _ fits l.0 k.0, shown_of slots kids later fits l.1 k.1)
shown_of slots kids (NamedBranch n kind inside later) fits l k =
    (is_shown slots kids n _ _ _ fits l.0 k.0, shown_of slots kids inside fits l.1 k.1, shown_of slots kids later fits l.2 k.2)

one_forest : (slots : List (Option ArenaNode)) (root : NodeId) (items others : List PlainItem) (named : Named) (kids : ℕ → List ℕ) →
    IsTreeWith slots root items named kids →
    (is : IsTree slots root others) → is.named ≡ named
one_forest slots root items others named kids t is =
    sym (one_numbering slots root items others (record {
      lawful = t.lawful;
      named = named;
      is_tree = t.is_tree;
      apart = t.apart;
      shown = shown_of slots kids named t.fits t.labelled t.inside;
      root_shown = is_shown slots kids root.0 _ _ _ t.fits t.root_labelled t.top;
      root_alone = t.root_alone;
      only = t.only;
    }) is).0

-- the numbers of a forest's signs
pub numbers_in : (f : Named) → nums (map token_of (signs_of f)) ≡ node_numbers f
numbers_in f = ap nums (sym (tokens-signs f)) ∙ nums-tokens f

-- the repaired tree's nodes are traced to the old tree's
pub changed_traced : (supply : ℕ → ℕ) (root : NodeId) (old : List (Option ArenaNode)) (items others : List PlainItem) (tree : IsTree old root items) (lefts ss rights : List Sign) (acts : List Act)
    (r : IsChanged supply root old items others tree lefts ss rights acts) (t : Transaction) → Moves (new_place t) lefts acts rights →
    AllTraced (new_place t) (signs_of tree.named) (root.0 ∷ nums (map token_of (signs_of tree.named))) (signs_of r.forest.named) 0
changed_traced supply root old items others tree lefts ss rights acts r t moves =
    subst (λ l. AllTraced (new_place t) (signs_of tree.named) (root.0 ∷ nums (map token_of (signs_of tree.named))) l 0) (sym r.forest.signs)
    (all_traced supply tree.named lefts ss rights acts others (new_place t) (root.0 ∷ nums (map token_of (signs_of tree.named))) r.change tree.apart.1 moves (one_one t)
    (subst (λ ns. AllFrom (puts (script_of supply acts ss)) (root.0 ∷ ns)) (sym (numbers_in tree.named)) r.made))

pub numbers_match : NumbersMatch
numbers_match supply root old new items others tree lefts ss rights acts r t moves before after was is o n co cn = (
  λ h. match_number t olds news root.0 apart traced (name_of o) (name_of n) o.number n.number (count_of o) (count_of n) old_named new_named h,
  λ h. number_match t olds news root.0 apart traced (name_of o) (name_of n) o.number n.number (count_of o) (count_of n) old_named new_named h,
)
  where
    olds : List Sign
    olds = signs_of tree.named

    news : List Sign
    news = signs_of r.changed.forest.named

    apart : AllApart (root.0 ∷ nums (map token_of olds))
    apart = subst (λ ns. AllApart (root.0 ∷ ns)) (sym (numbers_in tree.named)) tree.apart

    traced : AllTraced (new_place t) olds (root.0 ∷ nums (map token_of olds)) news 0
    traced = changed_traced supply root old items others tree lefts ss rights acts r.changed t moves

    old_named : IsNamed olds root.0 o.number (name_of o) (count_of o)
    old_named = subst (λ f. IsNamed (signs_of f) root.0 o.number (name_of o) (count_of o)) (one_numbering old root before items was tree).0 (place_named old root before was o co)

    with_forest : IsTreeWith new root others r.changed.forest.named (grown (tokens r.changed.forest.named) (start root.0)).kids
    with_forest = repair_with root (map token_of lefts) (map token_of rights) (script_of supply acts ss) old new items others tree r.changed.forest.named
        (change_is_repair supply root old new items others tree lefts ss rights acts r.changed.change r.changed.forest r.changed.distinct r.changed.made r.carried)

    new_named : IsNamed news root.0 n.number (name_of n) (count_of n)
    new_named = subst (λ f. IsNamed (signs_of f) root.0 n.number (name_of n) (count_of n)) (one_forest new root others after r.changed.forest.named (grown (tokens r.changed.forest.named) (start root.0)).kids with_forest is) (place_named new root after is n cn)

pub numbers_are_kept : NumbersAreKept
numbers_are_kept supply root old new list others tree lefts ss rights acts r tx ns items e values was is o n co cn h =
    (numbers_match supply root old new list others tree lefts ss rights acts r (by_value values tx) (moves_by tx ns values lefts rights acts e)
    (plain_list values items) (new_list values tx items) was is o n co cn).0 h
