use Rattle.std.proofs.Common.{◌≡◌, ◌+◌, ◌∷◌, [], ◌++◌, take, filter, codes, sym, ap, ◌∙◌, subst, arith}
use Rattle.std.proofs.lemmas.List.{take_all}
use Rattle.ve_base.specs.declared.attrs.Attr.{Attr}
use Rattle.ve_base.specs.Names.{names}
use Rattle.std.specs.Prelude.{List, Contains}
use Rattle.ve_edits.proofs.CopyLemmas.{has_other_name, removed_is, name_is_new, kept_more, kept_same}
use Rattle.ve_edits.proofs.copies.without_id.Goals as goal

pub loop-attr-preserved-then-is : goal.loop-attr-preserved-then-is
loop-attr-preserved-then-is c =
    c.loop-attr.invariant
    ∙ sym (kept_same c.args.attrs.now c.loop-attr.attr-index c.attr-item.result c.is.result c.loop-attr-test.true c.attr-item.is c.is.ensures c.if-is.true)

pub push-requires : goal.push-requires
push-requires c =
    let P : List Attr → Attr → Type 0 = λ made attr. ¬ Contains (names made) attr.name in
    subst (λ made. P made c.in_ok-copy.field-0) (sym c.loop-attr.invariant)
    (subst (P (filter (has_other_name (codes "id")) (take c.loop-attr.attr-index c.args.attrs.now))) (sym c.in_ok-copy.ensures)
    (name_is_new (has_other_name (codes "id")) c.args.attrs.now c.loop-attr.attr-index c.attr-item.result c.loop-attr-test.true c.attr-item.is c.requires))

pub loop-attr-preserved : goal.loop-attr-preserved
loop-attr-preserved c =
    c.in_ok-push.ensures.ok
    ∙ ap (λ (made : List Attr). made ++ c.in_ok-copy.field-0 ∷ []) c.loop-attr.invariant
    ∙ ap (λ (attr : Attr). filter (has_other_name (codes "id")) (take c.loop-attr.attr-index c.args.attrs.now) ++ attr ∷ []) c.in_ok-copy.ensures
    ∙ sym (kept_more c.args.attrs.now c.loop-attr.attr-index c.attr-item.result c.is.result c.loop-attr-test.true c.attr-item.is c.is.ensures c.if-is.false)

pub returns : goal.returns
returns c =
    c.shared.ensures
    ∙ c.loop-attr.invariant
    ∙ ap (filter (has_other_name (codes "id"))) (take_all c.loop-attr.attr-index c.args.attrs.now (omega arith))
    ∙ removed_is (codes "id") c.args.attrs.now c.requires
