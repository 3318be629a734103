use Rattle.std.proofs.Common.{◌≡◌, ◌++◌, drop, flat_map}
use Rattle.model_world.specs.Spelled.{tree_word}
use Rattle.ve_json.proofs.tree_rows.push_tree.Given as goal

abbrev pub invariant-loop-word : goal.invariant-loop-word
invariant-loop-word l = record {
  text : l.out.text ++ flat_map tree_word (drop l.word-index l.words) ≡ l.initial.out.text ++ flat_map tree_word l.words;
  before : l.out.before ≡ l.initial.out.before;
}
