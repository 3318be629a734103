use Rattle.std.proofs.Common.{◌≡◌, true, sym, ap, ◌∙◌, subst, true≢false, inl, inr}
use Rattle.ve_classify.specs.Fits.{IsFit}
use Rattle.ve_classify.specs.declared.around.Around.TheVariants as around
use Rattle.ve_read.proofs.PartLemmas.{is_content_fit}
use Rattle.ve_read.proofs.LeafLemmas.{on_ok_map, text_token, text_read, text_within, leaf_token, leaf_read, leaf_stops, never}
use Rattle.ve_read.proofs.content_leaves.push_single.Goals as goal

pub unreachable-requires : goal.unreachable-requires
unreachable-requires c =
    text_token c.args.text.now c.args.forest.now c.args.n c.args.part.end c.args.part.byte c.node-node.result.now c.requires.part
    (subst (IsFit c.args.forest.now c.args.n around.Content) c.in-Chars.is c.requires.fit) c.node-node.ensures c.in_default.not-Chars

pub unreachable-requires-in_default-token : goal.unreachable-requires-in_default-token
unreachable-requires-in_default-token c =
    leaf_token c.args.text.now c.args.forest.now c.args.n c.args.part.end c.args.part.byte c.node-node.result.now c.in-Leaf.kind c.args.reader.now c.requires.part
    (subst (IsFit c.args.forest.now c.args.n around.Content) c.in-Leaf.is c.requires.fit) c.node-node.ensures c.in_default-token.not-StartTag

pub element_head-requires : goal.element_head-requires
element_head-requires c = c.requires.tags c.args.n c.node-node.result.now c.in-StartTag.name c.in-StartTag.attrs c.in-StartTag.span c.node-node.ensures c.in-StartTag.is

pub unreachable-requires-in-White : goal.unreachable-requires-in-White
unreachable-requires-in-White c =
    let may : is_content_fit c.args.fit ≡ true = never c.args.text.now c.args.forest.now c.args.n c.args.part.end c.args.part.byte c.args.fit c.requires.part c.requires.fit in
    elim c.in-White.is [
      | inl white ↦ true≢false (sym may ∙ ap is_content_fit white)
      | inr others ↦ elim others [
        | inl annotation ↦ c.requires.single annotation
        | inr more ↦ elim more [
          | inl branch ↦ true≢false (sym may ∙ ap is_content_fit branch.1)
          | inr inline ↦ true≢false (sym may ∙ ap is_content_fit inline)
        ]
      ]
    ]

pub push_whole-requires-clause-fit : goal.push_whole-requires-clause-fit
push_whole-requires-clause-fit c = subst (IsFit c.args.forest.now c.args.n around.Content) c.in-Whole.is c.requires.fit

pub returns-in_ok-push_text-in-Chars-clause-ok : goal.returns-in_ok-push_text-in-Chars-clause-ok
returns-in_ok-push_text-in-Chars-clause-ok c =
    text_read c.args.text.now c.args.forest.now c.args.n c.args.part.end c.args.part.byte c.node-node.result.now c.in-Chars-token.spelled c.in-Chars-token.span c.args.reader.now c.push_text.new.self
    (subst (IsFit c.args.forest.now c.args.n around.Content) c.in-Chars.is c.requires.fit) c.node-node.ensures c.in-Chars-token.is c.in_ok-push_text-in-Chars.ensures

pub returns-in_ok-push_text-in-Chars-clause-limit : goal.returns-in_ok-push_text-in-Chars-clause-limit
returns-in_ok-push_text-in-Chars-clause-limit c =
    text_within c.args.text.now c.args.forest.now c.args.n c.args.part.end c.args.part.byte c.node-node.result.now c.args.reader.now
    (subst (IsFit c.args.forest.now c.args.n around.Content) c.in-Chars.is c.requires.fit) c.node-node.ensures

pub returns-in_ok-head-in-Leaf-clause-ok : goal.returns-in_ok-head-in-Leaf-clause-ok
returns-in_ok-head-in-Leaf-clause-ok c =
    on_ok_map c.push_leaf.result
    (leaf_read c.args.text.now c.args.forest.now c.args.n c.args.part.end c.args.part.byte c.node-node.result.now c.in-Leaf.kind c.in-StartTag.name c.in-StartTag.attrs c.in-StartTag.span c.in_ok-head-in-Leaf.head c.args.reader.now
    (subst (IsFit c.args.forest.now c.args.n around.Content) c.in-Leaf.is c.requires.fit) c.node-node.ensures c.in-StartTag.is c.in_ok-head-in-Leaf.ensures c.push_leaf.new.self)
    c.push_leaf.ensures.ok

pub returns-in_ok-head-in-Leaf-clause-limit : goal.returns-in_ok-head-in-Leaf-clause-limit
returns-in_ok-head-in-Leaf-clause-limit c =
    leaf_stops c.args.text.now c.args.forest.now c.args.n c.args.part.end c.args.part.byte c.node-node.result.now c.in-Leaf.kind c.in-StartTag.name c.in-StartTag.attrs c.in-StartTag.span c.in_ok-head-in-Leaf.head c.args.reader.now
    (subst (IsFit c.args.forest.now c.args.n around.Content) c.in-Leaf.is c.requires.fit) c.node-node.ensures c.in-StartTag.is c.in_ok-head-in-Leaf.ensures c.push_leaf.result c.push_leaf.ensures.limit
