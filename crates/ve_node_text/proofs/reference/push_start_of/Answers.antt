use Rattle.std.proofs.Common.{◌∙◌, refl}
use Rattle.ve_html_write.proofs.EscapedUtf8.{more_utf8, ascii_all_utf8}
use Rattle.std.specs.Prelude.{option_map}
use Rattle.ve_node_text.proofs.LeafLemmas.{can_compose, start_begun, start_done}
use Rattle.ve_node_text.proofs.reference.push_start_of.Goals as goal

pub loop-attr-init : goal.loop-attr-init
loop-attr-init c = record {
  text = start_begun c.args.out.now c.push.new.self c.push-2.new.self c.as_bytes.result.now c.args.head.now.tag c.in_ok-push.ensures.ok c.in_ok-push-2.ensures.ok (c.as_bytes.ensures.value ∙ c.as_str.ensures.bytes);
  utf8 = λ u. more_utf8 _ _ _ c.in_ok-push-2.ensures.ok c.as_bytes.ensures.utf8 (more_utf8 _ _ _ c.in_ok-push.ensures.ok (ascii_all_utf8 _ refl) u);
}

pub push_attr_of-requires : goal.push_attr_of-requires
push_attr_of-requires c =
    can_compose c.args.head.now c.as_slice-attr-items.result.now c.loop-attr.attr-index c.attr-item.result c.requires c.as_slice-attr-items.ensures.items c.as_slice-attr-items.ensures.apart c.loop-attr-test.true c.attr-item.is

pub returns-clause-text : goal.returns-clause-text
returns-clause-text c =
    start_done c.args.head.now (option_map (λ b. b.now) c.args.body) c.args.out.now c.loop-attr.out c.push-3.new.self c.as_slice-attr-items.result.now c.loop-attr.attr-index
    c.in_ok-push-3.ensures.ok c.loop-attr.invariant.text c.loop-attr-test.false c.as_slice-attr-items.ensures.items

pub returns-clause-utf8 : goal.returns-clause-utf8
returns-clause-utf8 c = λ u. more_utf8 _ _ _ c.in_ok-push-3.ensures.ok (ascii_all_utf8 _ refl) (c.loop-attr.invariant.utf8 u)
