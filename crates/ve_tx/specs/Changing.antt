-- Attributes while operations change them.
use Rattle.std.specs.Prelude.{List}
use Rattle.ve_base.specs.declared.attrs.Attr.{Attr}
use Rattle.ve_tx.specs.declared.changing.ChangingAttrs.{ChangingAttrs}
use Rattle.ve_tx.specs.declared.changing.ChangingAttrs.TheVariants.{Few, Many}

-- the list that they are by now, however they are held
abbrev pub attrs_now : ChangingAttrs → List Attr
attrs_now (Few list changes) = list.items
attrs_now (Many many) = many
