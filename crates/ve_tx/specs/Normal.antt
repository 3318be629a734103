-- The normal form, asked of operations whose items cite values: it reads no value. A law says that
-- it is the normal form by value.
use Rattle.std.specs.Prelude.{ℕ, ◌+◌, Bool, true, false, not, ◌&&◌, nat_lt, nat_le, List, [], ◌∷◌, length}
use Rattle.model_items.specs.Same.{text_same}
use Rattle.ve_base.specs.Limits.{max_total_length}
use Rattle.ve_tx.specs.declared.op.Op.{Op}
use Rattle.ve_tx.specs.declared.op.Op.TheVariants.{Retain, Replace, Attribute}

-- up to the next retain there are only attribute operations, of other names
abbrev pub names_apart : List ℕ → List Op → Bool
names_apart name [] = false
names_apart name (Retain count ∷ ops) = true
names_apart name (Replace removed inserted ∷ ops) = false
names_apart name (Attribute other from to ∷ ops) = not (text_same name other) && names_apart name ops

-- the names of the attribute operations that come first
abbrev pub first_names : List Op → List (List ℕ)
first_names [] = []
first_names (Retain count ∷ ops) = []
first_names (Replace removed inserted ∷ ops) = []
first_names (Attribute name from to ∷ ops) = name ∷ first_names ops

-- they may follow an attribute operation, whatever its name
abbrev pub may_follow_attribute : List Op → Bool
may_follow_attribute [] = false
may_follow_attribute (Retain count ∷ ops) = true
may_follow_attribute (Replace removed inserted ∷ ops) = false
may_follow_attribute (Attribute name from to ∷ ops) = true

abbrev pub begins_with_retain : List Op → Bool
begins_with_retain (Retain count ∷ ops) = true
begins_with_retain _ = false

abbrev pub begins_with_replace : List Op → Bool
begins_with_replace (Replace removed inserted ∷ ops) = true
begins_with_replace _ = false

abbrev pub may_stand_before : Op → List Op → Bool
may_stand_before (Retain count) ops = not (begins_with_retain ops)
may_stand_before (Replace removed inserted) ops = not (begins_with_replace ops)
may_stand_before (Attribute name from to) ops = names_apart name ops

-- the number of items that it retains, removes and inserts, together
abbrev pub size : Op → ℕ
size (Retain count) = count
size (Replace removed inserted) = length removed + length inserted
size (Attribute name from to) = 0

abbrev pub is_some_op : Op → Bool
is_some_op (Retain count) = nat_lt 0 count
is_some_op (Replace removed inserted) = nat_lt 0 (length removed + length inserted)
is_some_op (Attribute name from to) = true

abbrev pub are_reduced : List Op → Bool
are_reduced [] = true
are_reduced (op ∷ ops) = is_some_op op && (may_stand_before op ops && are_reduced ops)

abbrev pub total_size : List Op → ℕ
total_size [] = 0
total_size (op ∷ ops) = size op + total_size ops

abbrev pub fit_into : ℕ → List Op → Bool
fit_into room ops = nat_le (total_size ops) room

abbrev pub are_normal : List Op → Bool
are_normal ops = are_reduced ops && fit_into max_total_length ops
