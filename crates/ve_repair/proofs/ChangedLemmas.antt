-- The forest of the new list.
use Rattle.std.proofs.Common.{◌≡◌, zero, suc, List, [], ◌∷◌, ◌++◌, map, replicate, refl, sym, ap, ◌∙◌, append_assoc}
use Rattle.std.proofs.lemmas.List.{map-append}
use Rattle.model_items.specs.Tree.{Letter, Begin, End, shape_of, tree_of}
use Rattle.ve_tree.specs.Named.{Named, NoNode, NamedRun, NamedBranch, unnumbered}
use Rattle.ve_repair.specs.Tokens.{Token, tokens, old_side, new_side}
use Rattle.ve_repair.specs.Tokens as T
use Rattle.ve_repair.specs.Spelled.{Sign, BeginOf, LettersOf, EndOf, token_of, sign_shapes, NoLetters, Proper}
use Rattle.ve_repair.specs.Script.{signs_for, first_reader, Sides}
use Rattle.ve_repair.specs.Sizes.{signs_of}
use Rattle.ve_repair.specs.Acts.{marks, MarksStand}
use Rattle.ve_repair.specs.Changed.{NoLettersLast, ChangeHasForest}
use Rattle.ve_repair.proofs.SidesLemma.{script_has_sides}
use Rattle.ve_repair.proofs.ActLemmas.{acts_mark}
use Rattle.ve_repair.proofs.SpelledLemmas.{forest_of, forest_spells, signs_back}

-- tokens are signs without kinds and counts
pub tokens-signs : (f : Named) → tokens f ≡ map token_of (signs_of f)
tokens-signs NoNode = refl
tokens-signs (NamedRun n count later) = ap (λ (l : List Token). T.Letters n ∷ l) (tokens-signs later)
tokens-signs (NamedBranch n kind inside later) =
    ap (λ (l : List Token). T.Begin n ∷ l)
    ((λ i. tokens-signs inside i ++ T.End ∷ tokens-signs later i) ∙ sym (map-append token_of (signs_of inside) (EndOf kind ∷ signs_of later)))

pub shapes-append : (xs ys : List Sign) → sign_shapes (xs ++ ys) ≡ sign_shapes xs ++ sign_shapes ys
shapes-append [] ys = refl
shapes-append (BeginOf n kind ∷ xs) ys = ap (λ l. Begin kind ∷ l) (shapes-append xs ys)
shapes-append (LettersOf n count ∷ xs) ys =
    ap (λ l. replicate count Letter ++ l) (shapes-append xs ys) ∙ sym (append_assoc (replicate count Letter) (sign_shapes xs) (sign_shapes ys))
shapes-append (EndOf kind ∷ xs) ys = ap (λ l. End kind ∷ l) (shapes-append xs ys)

-- parts of what is proper
pub proper_front : (xs ys : List Sign) → Proper (xs ++ ys) → Proper xs
proper_front [] ys h = tt
proper_front (BeginOf n kind ∷ xs) ys h = proper_front xs ys h
proper_front (LettersOf n zero ∷ xs) ys h = h
proper_front (LettersOf n (suc count) ∷ xs) ys h = (first xs h.0, proper_front xs ys h.1)
  where
    first : (xs : List Sign) → NoLetters (xs ++ ys) → NoLetters xs
    first [] h = tt
    first (BeginOf n kind ∷ xs) h = h
    first (LettersOf n count ∷ xs) h = h
    first (EndOf kind ∷ xs) h = h
proper_front (EndOf kind ∷ xs) ys h = proper_front xs ys h

pub proper_behind : (xs ys : List Sign) → Proper (xs ++ ys) → Proper ys
proper_behind [] ys h = h
proper_behind (BeginOf n kind ∷ xs) ys h = proper_behind xs ys h
proper_behind (LettersOf n zero ∷ xs) ys h = absurd h
proper_behind (LettersOf n (suc count) ∷ xs) ys h = proper_behind xs ys h.1
proper_behind (EndOf kind ∷ xs) ys h = proper_behind xs ys h

-- and parts put together: behind what is no text, or before what is none
join_left : (xs ys : List Sign) → NoLettersLast xs → Proper xs → Proper ys → Proper (xs ++ ys)
join_left [] ys l p q = q
join_left (BeginOf n kind ∷ []) ys l p q = q
join_left (BeginOf n kind ∷ (x ∷ xs)) ys l p q = join_left (x ∷ xs) ys l p q
join_left (LettersOf n zero ∷ xs) ys l p q = absurd p
join_left (LettersOf n (suc count) ∷ []) ys l p q = absurd l
join_left (LettersOf n (suc count) ∷ (x ∷ xs)) ys l p q = (first x xs p.0, join_left (x ∷ xs) ys l p.1 q)
  where
    first : (x : Sign) (xs : List Sign) → NoLetters (x ∷ xs) → NoLetters ((x ∷ xs) ++ ys)
    first (BeginOf n kind) xs h = h
    first (LettersOf n count) xs h = h
    first (EndOf kind) xs h = h
join_left (EndOf kind ∷ []) ys l p q = q
join_left (EndOf kind ∷ (x ∷ xs)) ys l p q = join_left (x ∷ xs) ys l p q

join_right : (xs ys : List Sign) → Proper xs → NoLetters ys → Proper ys → Proper (xs ++ ys)
join_right [] ys p n q = q
join_right (BeginOf m kind ∷ xs) ys p n q = join_right xs ys p n q
join_right (LettersOf m zero ∷ xs) ys p n q = absurd p
join_right (LettersOf m (suc count) ∷ xs) ys p n q = (first xs p.0, join_right xs ys p.1 n q)
  where
    first : (xs : List Sign) → NoLetters xs → NoLetters (xs ++ ys)
    first [] h = n
    first (BeginOf m kind ∷ xs) h = h
    first (LettersOf m count ∷ xs) h = h
    first (EndOf kind ∷ xs) h = h
join_right (EndOf kind ∷ xs) ys p n q = join_right xs ys p n q

pub change_has_forest : ChangeHasForest
change_has_forest supply old lefts ss rights acts others c = record {
  named = forest_of new;
  old_tokens = tokens-signs old ∙ ap (map token_of) c.signs ∙ map-append token_of lefts (ss ++ rights)
      ∙ ap (λ l. map token_of lefts ++ l) (map-append token_of ss rights ∙ sym (sides.old ∙ stand.old));
  new_tokens = spelled.0 ∙ map-append token_of lefts (mid ++ rights)
      ∙ ap (λ l. map token_of lefts ++ l) (map-append token_of mid rights ∙ sym sides.new);
  signs = signs_back new others proper_new shapes_new c.lawful;
  spells = spelled.1;
}
  where
    stand : MarksStand acts ss (map token_of rights)
    stand = acts_mark acts ss (map token_of rights) c.uses c.texts

    sides : Sides supply (marks acts ss) (map token_of rights)
    sides = script_has_sides supply (marks acts ss) (map token_of rights) stand.together

    mid : List Sign
    mid = signs_for supply (marks acts ss) (first_reader 0)

    new : List Sign
    new = lefts ++ (mid ++ rights)

    proper_new : Proper new
    proper_new = join_left lefts (mid ++ rights) c.left_whole (proper_front lefts (ss ++ rights) c.proper)
        (join_right mid rights sides.proper c.right_whole (proper_behind ss rights (proper_behind lefts (ss ++ rights) c.proper)))

    shapes_new : sign_shapes new ≡ map shape_of others
    shapes_new = shapes-append lefts (mid ++ rights)
        ∙ ap (λ l. sign_shapes lefts ++ l) (shapes-append mid rights ∙ ap (λ l. l ++ sign_shapes rights) (sides.spells ∙ stand.new))
        ∙ c.shapes

    spelled : (tokens (forest_of new) ≡ map token_of new) × (unnumbered (forest_of new) ≡ tree_of others)
    spelled = forest_spells new others proper_new shapes_new c.lawful
