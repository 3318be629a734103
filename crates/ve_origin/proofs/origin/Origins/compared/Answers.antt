use Rattle.std.proofs.Common.{◌-◌, List, ap, sym, subst, refl, arith}
use Rattle.model_items.specs.declared.item.Item.{Item}
use Rattle.ve_origin.specs.Known.{AreAlike, AreKnown, IsRunOf}
use Rattle.ve_origin.specs.Origins.{FirstRead}
use Rattle.ve_origin.proofs.AlikeLemmas.{run_alike}
use Rattle.ve_origin.proofs.origin.Origins.compared.Goals as goal

pub run_of-alike-requires-clause-known : goal.run_of-alike-requires-clause-known
run_of-alike-requires-clause-known c =
    subst (λ (l : List Item). AreKnown c.args.now.now.items l c.args.known) (sym (ap (λ (o : FirstRead). o.items) c.self.view_is)) c.requires.known.items

pub returns-then-len-from-clause-compared : goal.returns-then-len-from-clause-compared
returns-then-len-from-clause-compared c = record {
  row = c.row-row.result;
  is = c.row-row.ensures.row;
  fits = λ fits. absurd (omega (arith, fits, c.if-len-from.true, c.len.ensures, c.requires.within));
  longer = λ longer. refl;
  at_end = refl;
}

pub returns-clause-known : goal.returns-clause-known
returns-clause-known c = record {
  items = record {
    alike = subst (λ (l : List Item). AreAlike c.args.now.now.items l c.run_of-alike.result) (ap (λ (o : FirstRead). o.items) c.self.view_is)
        (run_alike _ _ _ _ _ _ c.run_of-alike.ensures);
    at_end = c.requires.known.items.at_end;
  };
}

pub returns-clause-compared : goal.returns-clause-compared
returns-clause-compared c = record {
  row = c.row-row.result;
  is = c.row-row.ensures.row;
  fits = λ fits. subst (λ (l : List Item). IsRunOf c.args.now.now.items c.args.from l c.row-row.result.from (c.row-row.result.to - c.row-row.result.from) c.run_of-alike.result)
      (ap (λ (o : FirstRead). o.items) c.self.view_is) c.run_of-alike.ensures;
  longer = λ longer. absurd (omega (arith, longer, c.if-len-from.false, c.len.ensures, c.requires.within));
  at_end = refl;
}
