-- Converted parts are even: their items are nodes.
use Rattle.std.proofs.Common.{◌≡◌, ℕ, suc, ◌+◌, true, List, [], ◌∷◌, ◌++◌, refl, sym, ap, subst, ◌∙◌, append_assoc, append-nil, arith}
use Rattle.model_items.specs.declared.plain_item.PlainItem.{PlainItem}
use Rattle.model_items.specs.declared.plain_item.PlainItem.TheVariants.{Char, Opening, Closing}
use Rattle.model_page.specs.Pieces.{Piece}
use Rattle.model_page.specs.Convert.{made_of}
use Rattle.model_page_write.specs.Nodes.{Nodes, Empty, Letter, Node}
use Rattle.model_page_law.proofs.ShapeLemmas.{plain, openings as node_count, Shaped, Fine-made_of, Shaped-inside_piece}
use Rattle.ve_reader.specs.Laws.{openings, is_closed, IsEven, PiecesAreEven, InsidesAreEven}

openings-append : (xs ys : List PlainItem) → openings (xs ++ ys) ≡ openings xs + openings ys
openings-append [] ys = omega arith
openings-append (Char c marks ∷ xs) ys = openings-append xs ys
openings-append (Closing kind pre ∷ xs) ys = openings-append xs ys
openings-append (Opening kind head marks pre origin generated ∷ xs) ys = let e = openings-append xs ys in omega (arith, e)

closed-plain : (n : Nodes) (depth : ℕ) (rest : List PlainItem) → is_closed depth rest ≡ true → is_closed depth (plain n ++ rest) ≡ true
closed-plain Empty depth rest h = h
closed-plain (Letter c marks later) depth rest h = closed-plain later depth rest h
closed-plain (Node s inside pre later) depth rest h =
    subst (λ xs. is_closed (suc depth) xs ≡ true) (sym (append_assoc (plain inside) (Closing s.kind pre ∷ plain later) rest))
    (closed-plain inside (suc depth) (Closing s.kind pre ∷ plain later ++ rest) (closed-plain later depth rest h))

-- as many as nodes have
same_openings : (n : Nodes) → openings (plain n) ≡ node_count n
same_openings Empty = refl
same_openings (Letter c marks later) = same_openings later
same_openings (Node s inside pre later) =
    let e = openings-append (plain inside) (Closing s.kind pre ∷ plain later) in
    let f = same_openings inside in
    let g = same_openings later in
    omega (arith, e, f, g)

even : (piece : Piece) → Shaped piece → IsEven piece
even piece s = record {
  spans = s.count ∙ sym (same_openings s.nodes) ∙ ap openings (sym s.items);
  closed =
      subst (λ xs. is_closed 0 xs ≡ true) (sym s.items)
      (subst (λ xs. is_closed 0 xs ≡ true) (append-nil (plain s.nodes)) (closed-plain s.nodes 0 [] refl));
}

pub pieces_are_even : PiecesAreEven
pieces_are_even around parts w = let f = Fine-made_of around parts w in (even (made_of around parts w).run f.run, even (made_of around parts w).later f.later)

pub insides_are_even : InsidesAreEven
insides_are_even around parts w = even _ (Shaped-inside_piece around w (made_of around parts w) (Fine-made_of around parts w))
