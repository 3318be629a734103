-- The results of edits on a worked list: `<p>ab</p><h2>cd</h2>`.
use Rattle.std.proofs.Common.{◌≡◌, List, [], ◌∷◌, ◌++◌, None, refl}
use Rattle.std.specs.Prelude.{codes}
use Rattle.ve_kinds.specs.declared.kind.Kind.TheVariants.{P, H2}
use Rattle.ve_base.specs.declared.marks.Mark.{Mark}
use Rattle.model_items.specs.declared.plain_item.PlainItem.{PlainItem}
use Rattle.model_items.specs.Marks.{with_mark}
use Rattle.model_items.specs.Offsets.{unmatched_places}
use Rattle.model_items.proofs.ExampleItems.{c, internal, marked, node, o, plain_mark, text}
use Rattle.model_edit.specs.Remove.{join_at}
use Rattle.model_edit_law.specs.ResultLaws.{remarked_range, replaced_at, unmatched_items, without_range}

abbrev two : List PlainItem
two = node P (text (codes "ab")) ++ (node H2 (text (codes "cd")) ++ internal)

one_typed : replaced_at 2 0 (text (codes "X")) two ≡ node P (text (codes "aXb")) ++ (node H2 (text (codes "cd")) ++ internal)
one_typed = refl

-- one item for two
fewer : replaced_at 1 2 (text (codes "X")) two ≡ node P (text (codes "X")) ++ (node H2 (text (codes "cd")) ++ internal)
fewer = refl

-- of `b</p>` the closing stays
one_bracket : unmatched_items two 2 4 ≡ c P ∷ []
one_bracket = refl

bracket_stays : without_range two 2 4 None ≡ node P (text (codes "a")) ++ (node H2 (text (codes "cd")) ++ internal)
bracket_stays = refl

-- without `b</p><h2>c` there is one paragraph
joined : without_range two 2 6 (join_at two (unmatched_places two 2 6)) ≡ node P (text (codes "ad")) ++ internal
joined = refl

abbrev bold : Mark
bold = plain_mark (codes "b")

-- brackets of branches take no mark
two_bold : remarked_range (with_mark bold) 2 6 two
    ≡ o P ∷ (text (codes "a") ++ (marked (bold ∷ []) (codes "b") ++ (c P ∷ o H2 ∷ (marked (bold ∷ []) (codes "c") ++ (text (codes "d") ++ (c H2 ∷ internal))))))
two_bold = refl
