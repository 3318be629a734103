-- The inside of a new cell of a table.
use Rattle.std.proofs.Common.{◌≡◌, [], refl}
use Rattle.ve_kinds.specs.declared.kind.Kind.TheVariants.{P}
use Rattle.model_items.proofs.ExampleItems.{node}
use Rattle.model_edit.specs.Layout.{one_by_one}
use Rattle.model_table_law.specs.Cells.{new_filled}

-- where nothing stood in it, there would be no paragraph to type into
a_new_cell_holds_an_empty_paragraph : (new_filled (one_by_one 0 1)).inside ≡ node P []
a_new_cell_holds_an_empty_paragraph = refl
