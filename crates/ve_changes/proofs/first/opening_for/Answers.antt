use Rattle.std.proofs.Common.{◌≤◌, length, option_map, sym, ap, ◌∙◌, subst}
use Rattle.std.proofs.lemmas.Bool.{ltb-false}
use Rattle.ve_tx.proofs.MakingLemmas.{All-at}
use Rattle.model_items.specs.Plain.{plain, CitesWell}
use Rattle.ve_changes.specs.Completions.{opening_of}
use Rattle.ve_changes.proofs.CompletionLemmas.{row_there, read_at, no_opening}
use Rattle.ve_changes.proofs.first.opening_for.Goals as goal

pub returns-in_err-row-clause-found : goal.returns-in_err-row-clause-found
returns-in_err-row-clause-found c =
    ap (option_map _) c.from_residual.ensures
    ∙ sym (c.requires.first.others c.args.origin (subst (λ l. length l ≤ c.args.origin) c.as_slice.ensures (ltb-false c.args.origin (length c.as_slice.result.now) (sym c.in_err-row.ensures.lookup.0))))

pub get-requires-2 : goal.get-requires-2
get-requires-2 c =
    let there = row_there c.as_slice.result.now c.args.first.rows.now c.args.origin c.in_ok-row.row.now c.as_slice.ensures c.in_ok-row.ensures.lookup.0 c.in_ok-row.ensures.lookup.1 in
    c.requires.first.within c.args.origin c.in_ok-row.row.now there

pub returns-in-Opening-clause-found : goal.returns-in-Opening-clause-found
returns-in-Opening-clause-found c =
    let there = row_there c.as_slice.result.now c.args.first.rows.now c.args.origin c.in_ok-row.row.now c.as_slice.ensures c.in_ok-row.ensures.lookup.0 c.in_ok-row.ensures.lookup.1 in
    ap (λ i. opening_of (plain c.args.first.store.now i)) (sym c.in-Opening.is)
    ∙ read_at c.args.first.store.now c.args.first.list.now.items c.args.first.rows.now c.args.origin c.in_ok-row.row.now c.get-2.result c.requires.first there c.get-2.ensures

pub returns-in-Opening-clause-cites : goal.returns-in-Opening-clause-cites
returns-in-Opening-clause-cites c =
    (subst (CitesWell c.args.first.store.now) c.in-Opening.is (All-at c.args.first.store.now c.args.first.list.now.items c.in_ok-row.row.now.from c.get-2.result c.requires.first.cites c.get-2.ensures)).0

pub returns-in-Char : goal.returns-in-Char
returns-in-Char c =
    let there = row_there c.as_slice.result.now c.args.first.rows.now c.args.origin c.in_ok-row.row.now c.as_slice.ensures c.in_ok-row.ensures.lookup.0 c.in_ok-row.ensures.lookup.1 in
    let read = read_at c.args.first.store.now c.args.first.list.now.items c.args.first.rows.now c.args.origin c.in_ok-row.row.now c.get-2.result c.requires.first there c.get-2.ensures in
    record {
      found = no_opening c.args.first.store.now c.get-2.result c.in-Char.is ∙ read;
      cites = tt;
    }
