-- The forest of the new list, beside the script that leads to it.
use Rattle.std.specs.Prelude.{◌≡◌, ℕ, List, [], ◌∷◌, ◌++◌, map}
use Rattle.model_items.specs.declared.plain_item.PlainItem.{PlainItem}
use Rattle.model_items.specs.Law.{Lawful}
use Rattle.model_items.specs.Tree.{shape_of, tree_of}
use Rattle.ve_tree.specs.Named.{Named, unnumbered}
use Rattle.ve_repair.specs.Tokens.{tokens, old_side, new_side}
use Rattle.ve_repair.specs.Spelled.{Sign, BeginOf, LettersOf, EndOf, token_of, sign_shapes, NoLetters, Proper}
use Rattle.ve_repair.specs.Script.{script_for, signs_for, first_reader}
use Rattle.ve_repair.specs.Sizes.{signs_of}
use Rattle.ve_repair.specs.Acts.{Act, marks, Use, NewTexts, new_piece}

-- the last is no text
abbrev pub NoLettersLast : List Sign → Type 0
NoLettersLast [] = Unit {0}
NoLettersLast (BeginOf n kind ∷ []) = Unit {0}
NoLettersLast (LettersOf n count ∷ []) = ⊥
NoLettersLast (EndOf kind ∷ []) = Unit {0}
NoLettersLast (s ∷ t ∷ ss) = NoLettersLast (t ∷ ss)

-- A piece of the old tree between two parts that no text reaches into, and the acts on each of its
-- items. The new list is lawful, and its shapes are those of the two parts with the new piece
-- between them.
pub record IsChangeOf (old : Named) (lefts ss rights : List Sign) (acts : List Act) (others : List PlainItem) : Type 0 where
  pub signs : signs_of old ≡ lefts ++ (ss ++ rights)
  pub proper : Proper (lefts ++ (ss ++ rights))
  pub left_whole : NoLettersLast lefts
  pub right_whole : NoLetters rights
  pub uses : Use acts ss
  pub texts : NewTexts [] ss
  pub lawful : Lawful others
  pub shapes : sign_shapes lefts ++ (new_piece acts (sign_shapes ss) ++ sign_shapes rights) ≡ map shape_of others

-- Then there is a forest of the new list in which the script's new side stands where its old side
-- stands in the old tree.
pub record HasForest (supply : ℕ → ℕ) (old : Named) (lefts ss rights : List Sign) (acts : List Act) (others : List PlainItem) : Type 0 where
  pub named : Named
  pub old_tokens : tokens old ≡ map token_of lefts ++ old_side (script_for supply (marks acts ss) (first_reader 0)) (map token_of rights)
  pub new_tokens : tokens named ≡ map token_of lefts ++ new_side (script_for supply (marks acts ss) (first_reader 0)) (map token_of rights)
  pub signs : signs_of named ≡ lefts ++ (signs_for supply (marks acts ss) (first_reader 0) ++ rights)
  pub spells : unnumbered named ≡ tree_of others

abbrev pub ChangeHasForest : Type 0
ChangeHasForest = (supply : ℕ → ℕ) (old : Named) (lefts ss rights : List Sign) (acts : List Act) (others : List PlainItem) →
    IsChangeOf old lefts ss rights acts others → HasForest supply old lefts ss rights acts others
