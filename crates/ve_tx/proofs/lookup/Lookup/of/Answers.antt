use Rattle.std.proofs.Common.{sym, ap, ◌∙◌, arith}
use Rattle.std.specs.Str.{encode_utf8_all}
use Rattle.ve_base.specs.declared.attrs.Attr.{Attr}
use Rattle.ve_tx.proofs.LookedLemmas.{places-before}
use Rattle.ve_tx.proofs.lookup.Lookup.of.Goals as goal

pub loop-i-preserved : goal.loop-i-preserved
loop-i-preserved c = record {
  within = omega (arith, c.loop-i-test.true, c.loop-i.invariant.within);
  places = places-before c.loop-i.positions c.insert.new.self c.as_str.result c.args.attrs.now c.loop-i.i c.index-attrs-i.result c.loop-i-test.true c.loop-i.invariant.within c.index-attrs-i.is
      (c.as_str.ensures.bytes ∙ ap (λ (a : Attr). encode_utf8_all a.name) (sym c.index-attrs-i.is)) (c.as_str.ensures.chars ∙ ap (λ (a : Attr). a.name) (sym c.index-attrs-i.is)) c.in_ok-insert.ensures.updates c.loop-i.invariant.places;
}
