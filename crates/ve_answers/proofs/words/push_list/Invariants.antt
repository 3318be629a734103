use Rattle.std.proofs.Common.{◌≡◌, ◌≤◌, ◌-◌, ◌++◌, drop}
use Rattle.ve_answers.specs.Words.{words_after}
use Rattle.ve_answers.proofs.words.push_list.Given as goal

-- with the words of what is left they are those of the list
abbrev pub invariant-loop-at : goal.invariant-loop-at
invariant-loop-at l = record {
  within : l.at ≤ l.len;
  words : l.words ++ words_after l.count (drop l.at l.list.items) ≡ l.initial.words ++ words_after 0 l.list.items;
  most : l.count ≤ l.at;
}

abbrev pub decreases-loop-at : goal.decreases-loop-at
decreases-loop-at l = l.len - l.at
