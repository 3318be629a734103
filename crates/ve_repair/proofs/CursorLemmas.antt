-- The links at a position between two siblings.
use Rattle.std.proofs.Common.{◌≡◌, ℕ, true, false, Option, Some, None, List, [], ◌∷◌, ◌++◌, refl, sym, ap, ◌∙◌, subst, append_assoc, append-nil}
use Rattle.ve_kinds.specs.declared.kind.Kind.{Kind}
use Rattle.ve_kinds.specs.declared.kind.Kind.TheVariants.{Root}
use Rattle.model_items.specs.declared.plain_item.PlainItem.{PlainItem}
use Rattle.model_items.specs.Tree.{item_count, HasWholeRuns}
use Rattle.model_items.proofs.NodeAtLemmas.{count_all}
use Rattle.model_items.proofs.OnlyLemmas.{tree_has_whole_runs}
use Rattle.ve_arena.specs.declared.node.NodeId.{NodeId}
use Rattle.ve_arena.specs.declared.node.NodeWhat.TheVariants as what
use Rattle.ve_arena.specs.declared.node.ArenaNode.{ArenaNode}
use Rattle.ve_tree.specs.Links.{last_or}
use Rattle.ve_tree.specs.Named.{Named, NoNode, NamedRun, NamedBranch, unnumbered, heads, IsShown, Shows}
use Rattle.ve_tree.specs.IsTree.{IsTree}
use Rattle.ve_tree.specs.Rows.{beside, Round, within, ends_with_run}
use Rattle.ve_tree.proofs.RowLemmas.{beside-assoc}
use Rattle.ve_tree.proofs.BesideLemmas.{heads-beside, whole_inside}
use Rattle.ve_tree.proofs.FrameLemmas.{Framed, framed_of}
use Rattle.ve_repair.specs.Spelled.{Sign, BeginOf, LettersOf, EndOf}
use Rattle.ve_repair.specs.Sizes.{signs_of}
use Rattle.ve_repair.specs.Changed.{NoLettersLast}
use Rattle.ve_repair.proofs.LevelLemmas.{last-appended}
use Rattle.ve_repair.specs.Cursor.{left_signs, right_signs}

abbrev pub Slots : Type 0
Slots = List (Option ArenaNode)

-- all that stands round a position of a tree
pub framed_at : {slots : Slots} {root : NodeId} {items : List PlainItem} (tree : IsTree slots root items) (rs : List Round) (x : Named) → tree.named ≡ within rs x → Framed slots root.0 rs x
framed_at {slots = slots} {root = root} {items = items} tree rs x whole =
    framed_of slots root.0 rs x (subst (Shows slots) whole tree.shown)
    (subst (λ f. IsShown slots root.0 (what.Node Root) (item_count (unnumbered f)) (heads f)) whole
    (subst (λ n. IsShown slots root.0 (what.Node Root) n (heads tree.named)) (sym (ap item_count tree.is_tree ∙ count_all items tree.lawful)) tree.root_shown))

pub past-run : (rs : List Round) (done : Named) (h count : ℕ) (later : Named) → within rs (beside done (NamedRun h count later)) ≡ within rs (beside (beside done (NamedRun h count NoNode)) later)
past-run rs done h count later = ap (within rs) (sym (beside-assoc done (NamedRun h count NoNode) later))

pub past-branch : (rs : List Round) (done : Named) (h : ℕ) (kind : Kind) (inside later : Named) →
    within rs (beside done (NamedBranch h kind inside later)) ≡ within rs (beside (beside done (NamedBranch h kind inside NoNode)) later)
past-branch rs done h kind inside later = ap (within rs) (sym (beside-assoc done (NamedBranch h kind inside NoNode) later))

-- the last of the siblings that are passed
pub last-run : (done : Named) (h count : ℕ) → last_or None (heads (beside done (NamedRun h count NoNode))) ≡ Some h
last-run done h count = ap (last_or None) (heads-beside done (NamedRun h count NoNode)) ∙ last-appended (heads done) h

pub last-branch : (done : Named) (h : ℕ) (kind : Kind) (inside : Named) → last_or None (heads (beside done (NamedBranch h kind inside NoNode))) ≡ Some h
last-branch done h kind inside = ap (last_or None) (heads-beside done (NamedBranch h kind inside NoNode)) ∙ last-appended (heads done) h

pub ends-branch : (done : Named) (h : ℕ) (kind : Kind) (inside : Named) → ends_with_run (beside done (NamedBranch h kind inside NoNode)) ≡ false
ends-branch NoNode h kind inside = refl
ends-branch (NamedRun n count NoNode) h kind inside = refl
ends-branch (NamedRun n count (NamedRun m c later)) h kind inside = ends-branch (NamedRun m c later) h kind inside
ends-branch (NamedRun n count (NamedBranch m k in_ later)) h kind inside = ends-branch (NamedBranch m k in_ later) h kind inside
ends-branch (NamedBranch n k in_ later) h kind inside = ends-branch later h kind inside

-- two texts are no neighbours
no_two : (done : Named) (h count : ℕ) (later : Named) → HasWholeRuns (unnumbered (beside done (NamedRun h count later))) → ends_with_run done ≡ false
no_two NoNode h count later w = refl
no_two (NamedRun n c NoNode) h count later w = absurd (let bad : true ≡ false = w.1 in cc)
no_two (NamedRun n c (NamedRun m d rest)) h count later w = no_two (NamedRun m d rest) h count later w.2
no_two (NamedRun n c (NamedBranch m k in_ rest)) h count later w = no_two (NamedBranch m k in_ rest) h count later w.2
no_two (NamedBranch n k in_ rest) h count later w = no_two rest h count later w.1

pub whole_runs : {slots : Slots} {root : NodeId} {items : List PlainItem} (tree : IsTree slots root items) (rs : List Round) (x : Named) → tree.named ≡ within rs x → HasWholeRuns (unnumbered x)
whole_runs {items = items} tree rs x whole =
    whole_inside rs x (subst (λ f. HasWholeRuns (unnumbered f)) whole (subst HasWholeRuns (sym tree.is_tree) (tree_has_whole_runs items)))

pub no_run_before : {slots : Slots} {root : NodeId} {items : List PlainItem} (tree : IsTree slots root items) (rs : List Round) (done : Named) (h count : ℕ) (later : Named) →
    tree.named ≡ within rs (beside done (NamedRun h count later)) → ends_with_run done ≡ false
no_run_before tree rs done h count later whole = no_two done h count later (whole_runs tree rs (beside done (NamedRun h count later)) whole)

-- signs
pub signs-beside : (f g : Named) → signs_of (beside f g) ≡ signs_of f ++ signs_of g
signs-beside NoNode g = refl
signs-beside (NamedRun n count later) g = ap (λ l. LettersOf n count ∷ l) (signs-beside later g)
signs-beside (NamedBranch n kind inside later) g =
    ap (λ l. BeginOf n kind ∷ (signs_of inside ++ EndOf kind ∷ l)) (signs-beside later g)
    ∙ ap (λ l. BeginOf n kind ∷ l) (sym (append_assoc (signs_of inside) (EndOf kind ∷ signs_of later) (signs_of g)))

pub signs-within : (rs : List Round) (x : Named) → signs_of (within rs x) ≡ left_signs rs ++ (signs_of x ++ right_signs rs)
signs-within [] x = sym (append-nil (signs_of x))
signs-within (r ∷ rs) x =
    signs-within rs (beside r.before (NamedBranch r.number r.kind x r.after))
    ∙ ap (λ l. left_signs rs ++ (l ++ right_signs rs)) (signs-beside r.before (NamedBranch r.number r.kind x r.after))
    ∙ regroup (left_signs rs) (signs_of r.before) (signs_of x) (signs_of r.after) (right_signs rs)
  where
    regroup : (a b x c d : List Sign) → a ++ ((b ++ (BeginOf r.number r.kind ∷ (x ++ EndOf r.kind ∷ c))) ++ d) ≡ (a ++ (b ++ (BeginOf r.number r.kind ∷ []))) ++ (x ++ (EndOf r.kind ∷ (c ++ d)))
    regroup a b x c d =
        ap (λ l. a ++ l) (append_assoc b (BeginOf r.number r.kind ∷ (x ++ EndOf r.kind ∷ c)) d ∙ ap (λ l. b ++ (BeginOf r.number r.kind ∷ l)) (append_assoc x (EndOf r.kind ∷ c) d)
        ∙ sym (append_assoc b (BeginOf r.number r.kind ∷ []) (x ++ (EndOf r.kind ∷ (c ++ d)))))
        ∙ sym (append_assoc a (b ++ (BeginOf r.number r.kind ∷ [])) (x ++ (EndOf r.kind ∷ (c ++ d))))

pub signs-at : (rs : List Round) (done row : Named) → signs_of (within rs (beside done row)) ≡ (left_signs rs ++ signs_of done) ++ (signs_of row ++ right_signs rs)
signs-at rs done row =
    signs-within rs (beside done row)
    ∙ ap (λ l. left_signs rs ++ (l ++ right_signs rs)) (signs-beside done row)
    ∙ ap (λ l. left_signs rs ++ l) (append_assoc (signs_of done) (signs_of row) (right_signs rs))
    ∙ sym (append_assoc (left_signs rs) (signs_of done) (signs_of row ++ right_signs rs))

-- no text is the last of what is passed
last_of_two : (xs : List Sign) (y : Sign) (ys : List Sign) → NoLettersLast (y ∷ ys) → NoLettersLast (xs ++ (y ∷ ys))
last_of_two [] y ys h = h
last_of_two (x ∷ []) y ys h = h
last_of_two (x ∷ (z ∷ xs)) y ys h = last_of_two (z ∷ xs) y ys h

last_in_round : (rs : List Round) → NoLettersLast (left_signs rs)
last_in_round [] = tt
last_in_round (r ∷ rs) =
    subst NoLettersLast (append_assoc (left_signs rs) (signs_of r.before) (BeginOf r.number r.kind ∷ [])) (last_of_two (left_signs rs ++ signs_of r.before) (BeginOf r.number r.kind) [] tt)

pub no_text_last : (rs : List Round) (done : Named) → ends_with_run done ≡ false → NoLettersLast (left_signs rs ++ signs_of done)
no_text_last rs done e = go done e
  where
    more : (x : Sign) (xs : List Sign) → NoLettersLast (x ∷ xs) → NoLettersLast (left_signs rs ++ (x ∷ xs))
    more x xs h = last_of_two (left_signs rs) x xs h

    branch : (n : ℕ) (kind : Kind) (inside : Named) (rest : List Sign) → NoLettersLast (EndOf kind ∷ rest) → NoLettersLast (BeginOf n kind ∷ (signs_of inside ++ EndOf kind ∷ rest))
    branch n kind inside rest h = last_of_two (BeginOf n kind ∷ signs_of inside) (EndOf kind) rest h

    own : (f : Named) → ends_with_run f ≡ false → NoLettersLast (signs_of f)
    own NoNode e = tt
    own (NamedRun n count NoNode) e = absurd (let bad : true ≡ false = e in cc)
    own (NamedRun n count (NamedRun m c later)) e = own (NamedRun m c later) e
    own (NamedRun n count (NamedBranch m k in_ later)) e = own (NamedBranch m k in_ later) e
    own (NamedBranch n kind inside NoNode) e = branch n kind inside [] tt
    own (NamedBranch n kind inside (NamedRun m c later)) e = branch n kind inside (signs_of (NamedRun m c later)) (own (NamedRun m c later) e)
    own (NamedBranch n kind inside (NamedBranch m k in_ later)) e = branch n kind inside (signs_of (NamedBranch m k in_ later)) (own (NamedBranch m k in_ later) e)

    go : (f : Named) → ends_with_run f ≡ false → NoLettersLast (left_signs rs ++ signs_of f)
    go NoNode e = subst NoLettersLast (sym (append-nil (left_signs rs))) (last_in_round rs)
    go (NamedRun n count later) e = more (LettersOf n count) (signs_of later) (own (NamedRun n count later) e)
    go (NamedBranch n kind inside later) e = more (BeginOf n kind) (signs_of inside ++ EndOf kind ∷ signs_of later) (own (NamedBranch n kind inside later) e)
