use Rattle.std.proofs.Common.{◌≡◌, ◌≤◌, ◌+◌, ◌++◌, List, drop}
use Rattle.model_items.specs.declared.item.Item.{Item}
use Rattle.ve_answers.specs.Words.{words_after}
use Rattle.ve_answers.proofs.words.push_items.Given as goal

-- with the words of what is left, and of what follows, they are those of all items
abbrev pub invariant-loop-k : goal.invariant-loop-k
invariant-loop-k l = record {
  words : (rest : List Item) → l.words ++ words_after l.count (drop l.k l.items ++ rest) ≡ l.initial.words ++ words_after l.fn.before (l.items ++ rest);
  most : l.count ≤ l.fn.before + l.k;
}
