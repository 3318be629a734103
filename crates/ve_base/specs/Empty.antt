-- The head that says nothing.
use Rattle.std.specs.Prelude.{[], false, None}
use Rattle.ve_base.specs.declared.head.Head.{Head}

abbrev pub empty_head : Head
empty_head = record { tag = []; attrs = []; raw = []; reference = None; owner = false }
