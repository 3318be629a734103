use Rattle.std.proofs.Common.{◌≡◌, ◌∷◌, ◌++◌, take, IsUtf8}
use Rattle.std.specs.Prelude.{option_map, encode_utf8_all}
use Rattle.std.specs.List.{flat_map}
use Rattle.ve_node_text.proofs.LeafLemmas.{ref_attr}
use Rattle.ve_node_text.proofs.reference.push_start_of.Given as goal

abbrev pub invariant-loop-attr : goal.invariant-loop-attr
invariant-loop-attr l = record {
  text : l.out ≡ l.fn.out ++ (60 ∷ encode_utf8_all l.head.tag ++ flat_map (ref_attr (option_map (λ b. b.now) l.body)) (take l.attr-index l.attr-items));
  utf8 : IsUtf8 l.fn.out → IsUtf8 l.out;
}
