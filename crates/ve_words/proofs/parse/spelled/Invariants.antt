use Rattle.std.proofs.Common.{◌≡◌, ◌++◌, drop, map}
use Rattle.std.specs.Str.{encode_utf8_all}
use Rattle.ve_words.proofs.parse.spelled.Given as goal

abbrev pub invariant-loop-word : goal.invariant-loop-word
invariant-loop-word l = map (λ text. text.now) l.texts.items ++ map encode_utf8_all (drop l.word-index l.words) ≡ map encode_utf8_all l.words
