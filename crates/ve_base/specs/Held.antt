-- The list that attributes are, whether it is shared or not.
use Rattle.std.specs.Prelude.{List}
use Rattle.std.specs.Arc.{arc_value}
use Rattle.ve_base.specs.declared.attrs.Attr.{Attr}
use Rattle.ve_base.specs.declared.attrs.Held.{Held}
use Rattle.ve_base.specs.declared.attrs.Held.TheVariants.{Own, Shared}

abbrev pub held_list : Held → List Attr
held_list (Own list) = list.items
held_list (Shared shared) = arc_value shared
