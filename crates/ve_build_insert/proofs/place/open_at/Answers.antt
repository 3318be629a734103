use Rattle.std.proofs.Common.{sym, ◌∙◌, arith}
use Rattle.ve_build_insert.proofs.PlaceLemmas.{bad_inside, good_at}
use Rattle.ve_build_insert.proofs.place.open_at.Goals as goal

pub returns-then-is_leaf-clause-none : goal.returns-then-is_leaf-clause-none
returns-then-is_leaf-clause-none c = λ _ values.
    bad_inside values c.args.doc.list.now.items c.args.at c.state_at-state.result c.innermost.result c.state_at-state.ensures c.innermost.ensures (sym c.is_leaf.ensures ∙ c.if-is_leaf.true)

pub returns-clause-some : goal.returns-clause-some
returns-clause-some c =
    let within = c.if-at-len.false in
    let n = c.len.ensures in
    record {
      within = omega arith;
      leads = c.state_at-state.ensures;
      good = λ values.
          good_at values c.args.doc.list.now.items c.args.at c.state_at-state.result c.innermost.result c.state_at-state.ensures c.innermost.ensures (sym c.is_leaf.ensures ∙ c.if-is_leaf.false) (omega arith);
    }
