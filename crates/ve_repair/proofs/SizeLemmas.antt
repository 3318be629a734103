-- Lengths that are read off a forest's signs are the forest's.
use Rattle.std.proofs.Common.{◌≡◌, ℕ, suc, ◌+◌, ◌-◌, Option, List, [], ◌∷◌, ◌++◌, refl, sym, ap, ◌∙◌, subst, append-nil, append_assoc, arith}
use Rattle.model_items.specs.Tree.{item_count}
use Rattle.ve_arena.specs.declared.node.ArenaNode.{ArenaNode}
use Rattle.ve_tree.specs.Named.{Named, NoNode, NamedRun, NamedBranch, unnumbered}
use Rattle.ve_tree.specs.Fits.{AreLabelled}
use Rattle.ve_repair.specs.Spelled.{Sign, BeginOf, LettersOf, EndOf}
use Rattle.ve_repair.specs.Sizes.{Sized, Begun, sizes, signs_of, forest_sizes, HaveSizes, HaveSorts, SizesLabel, SizesAppend}

pub sizes_append : SizesAppend
sizes_append [] ys open_ at = refl
sizes_append (BeginOf n kind ∷ xs) ys open_ at = sizes_append xs ys (record { node = n; from = at } ∷ open_) (suc at)
sizes_append (LettersOf n count ∷ xs) ys open_ at = ap (λ l. record { node = n; len = count } ∷ l) (sizes_append xs ys open_ (at + count))
sizes_append (EndOf kind ∷ xs) ys [] at = sizes_append xs ys [] (suc at)
sizes_append (EndOf kind ∷ xs) ys (b ∷ open_) at = ap (λ l. record { node = b.node; len = suc at - b.from } ∷ l) (sizes_append xs ys open_ (suc at))

pub forest_passed : (f : Named) (ss : List Sign) (open_ : List Begun) (at : ℕ) → sizes (signs_of f ++ ss) open_ at ≡ forest_sizes f ++ sizes ss open_ (at + item_count (unnumbered f))
forest_passed NoNode ss open_ at = ap (sizes ss open_) (let e : at ≡ at + 0 = omega arith in e)
forest_passed (NamedRun n count later) ss open_ at =
    ap (λ l. record { node = n; len = count } ∷ l)
    (forest_passed later ss open_ (at + count)
    ∙ ap (λ p. forest_sizes later ++ sizes ss open_ p) (let e : at + count + item_count (unnumbered later) ≡ at + (count + item_count (unnumbered later)) = omega arith in e))
forest_passed (NamedBranch n kind inside later) ss open_ at =
    ap (λ l. sizes l (record { node = n; from = at } ∷ open_) (suc at)) (append_assoc (signs_of inside) (EndOf kind ∷ signs_of later) ss)
    ∙ forest_passed inside (EndOf kind ∷ (signs_of later ++ ss)) (record { node = n; from = at } ∷ open_) (suc at)
    ∙ ap (λ l. forest_sizes inside ++ l)
    ((λ i. record { node = n; len = long i } ∷ sizes (signs_of later ++ ss) open_ (end i))
    ∙ ap (λ l. record { node = n; len = item_count (unnumbered inside) + 2 } ∷ l)
    (forest_passed later ss open_ (at + (item_count (unnumbered inside) + 2))
    ∙ ap (λ p. forest_sizes later ++ sizes ss open_ p) all))
    ∙ sym (append_assoc (forest_sizes inside) (record { node = n; len = item_count (unnumbered inside) + 2 } ∷ forest_sizes later) (sizes ss open_ (at + (item_count (unnumbered inside) + 2 + item_count (unnumbered later)))))
  where
    long : suc (suc at + item_count (unnumbered inside)) - at ≡ item_count (unnumbered inside) + 2
    long = omega arith

    end : suc (suc at + item_count (unnumbered inside)) ≡ at + (item_count (unnumbered inside) + 2)
    end = omega arith

    all : at + (item_count (unnumbered inside) + 2) + item_count (unnumbered later) ≡ at + (item_count (unnumbered inside) + 2 + item_count (unnumbered later))
    all = omega arith

pub have_front : (slots : List (Option ArenaNode)) (xs ys : List Sized) → HaveSizes slots (xs ++ ys) → HaveSizes slots xs
have_front slots [] ys h = tt
have_front slots (x ∷ xs) ys h = (h.0, have_front slots xs ys h.1)

pub have_behind : (slots : List (Option ArenaNode)) (xs ys : List Sized) → HaveSizes slots (xs ++ ys) → HaveSizes slots ys
have_behind slots [] ys h = h
have_behind slots (x ∷ xs) ys h = have_behind slots xs ys h.1

pub have_both : (slots : List (Option ArenaNode)) (xs ys : List Sized) → HaveSizes slots xs → HaveSizes slots ys → HaveSizes slots (xs ++ ys)
have_both slots [] ys h k = k
have_both slots (x ∷ xs) ys h k = (h.0, have_both slots xs ys h.1 k)

labelled : (slots : List (Option ArenaNode)) (f : Named) → HaveSorts slots f → HaveSizes slots (forest_sizes f) → AreLabelled slots f
labelled slots NoNode s h = tt
labelled slots (NamedRun n count later) s h = (record { sort_is = s.0; len_is = h.0 }, labelled slots later s.1 h.1)
labelled slots (NamedBranch n kind inside later) s h =
    let behind = have_behind slots (forest_sizes inside) (record { node = n; len = item_count (unnumbered inside) + 2 } ∷ forest_sizes later) h in (
      record { sort_is = s.0; len_is = behind.0 },
      labelled slots inside s.1 (have_front slots (forest_sizes inside) (record { node = n; len = item_count (unnumbered inside) + 2 } ∷ forest_sizes later) h),
      labelled slots later s.2 behind.1,
    )

pub sizes_label : SizesLabel
sizes_label slots f s h =
    labelled slots f s (subst (HaveSizes slots)
    (ap (λ l. sizes l [] 0) (sym (append-nil (signs_of f))) ∙ forest_passed f [] [] 0 ∙ append-nil (forest_sizes f)) h)
