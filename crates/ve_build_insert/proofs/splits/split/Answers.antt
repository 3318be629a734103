use Rattle.std.proofs.Common.{Ok, is_ok, inr, refl, sym, ap, ◌∙◌, arith}
use Rattle.model_items.specs.Plain.{plain_list}
use Rattle.model_edit.specs.Causes.{BadOffset, NotContent, BadDepth}
use Rattle.ve_edits.proofs.RoundLemmas.{open_count}
use Rattle.ve_edits.proofs.StackLemmas.{stack_is}
use Rattle.ve_build_insert.proofs.PlaceLemmas.{none_of}
use Rattle.ve_build_insert.proofs.RefusalLemmas.{split_bad, split_not_content, split_bad_depth, split_given}
use Rattle.ve_build_insert.proofs.splits.split.Goals as goal

pub returns-in_default-clause-refused : goal.returns-in_default-clause-refused
returns-in_default-clause-refused c =
    let S = c.args.doc.store.now in
    let P = plain_list S c.args.doc.list.now.items in
    inr (BadOffset c.args.at, split_bad P c.args.at c.args.depth (c.open_at.ensures.none (none_of c.open_at.result c.in_default.not-Some) S), refl)

pub returns-then-not-is_content_branch-clause-refused : goal.returns-then-not-is_content_branch-clause-refused
returns-then-not-is_content_branch-clause-refused c =
    let S = c.args.doc.store.now in
    let items = c.args.doc.list.now.items in
    let P = plain_list S items in
    let state = c.in-Some.state in
    let here = c.in-Some.ensures.some in
    inr (
      NotContent c.args.at,
      split_not_content P c.args.at c.args.depth state.stack (stack_is S items c.args.at state here.leads) (here.good S) c.innermost.result c.innermost.ensures
          (sym c.is_content_branch.ensures ∙ c.if-not-is_content_branch.true),
      refl,
    )

pub returns-then-is_bad_depth-clause-refused : goal.returns-then-is_bad_depth-clause-refused
returns-then-is_bad_depth-clause-refused c =
    let S = c.args.doc.store.now in
    let items = c.args.doc.list.now.items in
    let P = plain_list S items in
    let state = c.in-Some.state in
    let here = c.in-Some.ensures.some in
    inr (
      BadDepth c.args.depth,
      split_bad_depth P c.args.at c.args.depth state.stack (stack_is S items c.args.at state here.leads) (here.good S) c.innermost.result c.innermost.ensures
          (sym c.is_content_branch.ensures ∙ c.if-not-is_content_branch.false) (sym c.is_bad_depth.ensures.means ∙ c.if-is_bad_depth.true),
      refl,
    )

pub put-requires-clause-within : goal.put-requires-clause-within
put-requires-clause-within c = let below = c.in-Some.ensures.some.within in omega arith

pub put-requires-clause-levels : goal.put-requires-clause-levels
put-requires-clause-levels c =
    let few = c.is_bad_depth.ensures.within c.if-is_bad_depth.false in
    let same = open_count c.args.doc.list.now.items c.args.at c.in-Some.state c.in-Some.ensures.some.leads in
    omega (arith, few, same)

pub returns-in-Ok-clause-means : goal.returns-in-Ok-clause-means
returns-in-Ok-clause-means c =
    let S = c.args.doc.store.now in
    let items = c.args.doc.list.now.items in
    let P = plain_list S items in
    let state = c.in-Some.state in
    let here = c.in-Some.ensures.some in
    split_given P c.args.at c.args.depth state.stack (stack_is S items c.args.at state here.leads) (here.good S) c.innermost.result c.innermost.ensures
    (sym c.is_content_branch.ensures ∙ c.if-not-is_content_branch.false) (sym c.is_bad_depth.ensures.means ∙ c.if-is_bad_depth.false)
    ∙ ap Ok (sym c.in-Ok.ensures.means)

pub returns-in-Err-clause-memory : goal.returns-in-Err-clause-memory
returns-in-Err-clause-memory c = λ _.
    let S = c.args.doc.store.now in
    let items = c.args.doc.list.now.items in
    let P = plain_list S items in
    let state = c.in-Some.state in
    let here = c.in-Some.ensures.some in
    ap is_ok (split_given P c.args.at c.args.depth state.stack (stack_is S items c.args.at state here.leads) (here.good S) c.innermost.result c.innermost.ensures
    (sym c.is_content_branch.ensures ∙ c.if-not-is_content_branch.false) (sym c.is_bad_depth.ensures.means ∙ c.if-is_bad_depth.false))
