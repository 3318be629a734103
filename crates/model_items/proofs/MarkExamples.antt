-- Marks added and taken off.
use Rattle.std.specs.Prelude.{◌≡◌, [], ◌∷◌, codes, refl}
use Rattle.ve_base.specs.declared.marks.Mark.{Mark}
use Rattle.model_items.specs.Marks.{with_mark, without_mark}
use Rattle.model_items.proofs.ExampleItems.{plain_mark}

abbrev bold : Mark
bold = plain_mark (codes "b")

abbrev italic : Mark
italic = plain_mark (codes "i")

inside_the_others : with_mark bold (italic ∷ []) ≡ italic ∷ bold ∷ []
inside_the_others = refl

once : with_mark bold (bold ∷ italic ∷ []) ≡ bold ∷ italic ∷ []
once = refl

each_one_goes : without_mark bold (bold ∷ italic ∷ bold ∷ []) ≡ italic ∷ []
each_one_goes = refl
