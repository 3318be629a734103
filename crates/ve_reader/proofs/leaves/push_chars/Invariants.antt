use Rattle.std.proofs.Common.{◌≡◌, map}
use Rattle.model_items.specs.declared.plain_item.PlainItem.TheVariants as plain
use Rattle.ve_reader.specs.Leaves.{with_items}
use Rattle.ve_reader.proofs.leaves.push_chars.Given as goal

abbrev pub invariant-loop-ch : goal.invariant-loop-ch
invariant-loop-ch l = l.draft ≡ with_items (map (λ c. plain.Char c l.initial.draft.marks) l.yielded) l.initial.draft
