use Rattle.std.proofs.Common.{◌≡◌, ◌∷◌, ◌++◌, take, IsUtf8}
use Rattle.std.specs.List.{flat_map}
use Rattle.ve_html_write.specs.Tags.{attr_written}
use Rattle.ve_html_write.proofs.tags.start_bytes.Given as goal

abbrev pub invariant-loop-attr : goal.invariant-loop-attr
invariant-loop-attr l = record {
  is : l.bytes ≡ 60 ∷ l.tag ++ flat_map attr_written (take l.attr-index l.attr-items);
  utf8 : IsUtf8 l.bytes;
}
