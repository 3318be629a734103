use Rattle.std.proofs.Common.{◌≡◌, ◌<◌, ◌≤◌, ℕ, length, Some, ap, subst, ◌∙◌}
use Rattle.ve_write.specs.Originals.{IsKnownFor}
use Rattle.ve_write.proofs.EndLemmas.{lent_has}
use Rattle.ve_write.proofs.OriginalLemmas.{kept_lent, past_lent}
use Rattle.ve_write.proofs.kept.original_at.Goals as goal

has_row : (k len rows : ℕ) → len ≡ rows → k < len → k < rows
has_row k len rows e h = subst (λ n. k < n) e h

pub kept_after-requires-clause-known : goal.kept_after-requires-clause-known
kept_after-requires-clause-known c = subst (λ f. IsKnownFor c.args.page.list.now.items c.args.page.refs.now f c.args.known) c.in-Some.is c.requires.known

pub returns-then-not-kept_after-clause-text : goal.returns-then-not-kept_after-clause-text
returns-then-not-kept_after-clause-text c =
    kept_lent c.args.page.store.now c.args.page.list.now.items c.args.page.refs.now c.args.page.first c.in-Some.first c.args.at c.in-Some-origin.k c.kept_after.result _ c.in-Some.is (has_row c.in-Some-origin.k c.len.result (length c.in-Some.first.origins.now.rows) c.len.ensures c.if-k-len.false) c.requires.lent c.len-values.ensures.distinct c.requires.cites c.requires.before
    (c.requires.origin ∙ c.in-Some-origin.is) c.kept_after.ensures c.if-not-kept_after.true

pub returns : goal.returns
returns c =
    let has = has_row c.in-Some-origin.k c.len.result (length c.in-Some.first.origins.now.rows) c.len.ensures c.if-k-len.false in
    let it = lent_has c.args.page.store.now c.args.page.list.now.items c.args.page.refs.now c.args.page.first c.in-Some.first c.args.at c.in-Some-origin.k c.count.result c.kept_after.result c.in-Some.is has c.requires.lent c.len-values.ensures.distinct c.requires.cites
    c.requires.before c.kept_after.ensures c.if-not-kept_after.false c.count.ensures in
    record {
      text = ap Some c.part.ensures
          ∙ kept_lent c.args.page.store.now c.args.page.list.now.items c.args.page.refs.now c.args.page.first c.in-Some.first c.args.at c.in-Some-origin.k c.kept_after.result _ c.in-Some.is has c.requires.lent c.len-values.ensures.distinct c.requires.cites c.requires.before
          (c.requires.origin ∙ c.in-Some-origin.is) c.kept_after.ensures c.if-not-kept_after.false;
      more = it.more;
      within = it.within;
      node = it.node;
    }

pub returns-then-k-len-clause-text : goal.returns-then-k-len-clause-text
returns-then-k-len-clause-text c =
    past_lent c.args.page.store.now c.args.page.list.now.items c.args.page.refs.now c.args.page.first c.in-Some.first c.args.at c.in-Some-origin.k c.in-Some.is
    (subst (λ n. n ≤ c.in-Some-origin.k) c.len.ensures c.if-k-len.true) c.requires.lent (c.requires.origin ∙ c.in-Some-origin.is)
