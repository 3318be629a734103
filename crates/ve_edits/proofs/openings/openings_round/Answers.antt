use Rattle.std.proofs.Common.{◌≡◌, ◌+◌, ◌++◌, List, [], ◌∷◌, length, take, sym, ap, ◌∙◌, subst, arith, append_assoc, length-append}
use Rattle.std.specs.Prelude.{All}
use Rattle.std.proofs.lemmas.List.{map-append, length-map, take_at}
use Rattle.std.proofs.lemmas.List.Elements.{All-nil, All-cons, All-append}
use Rattle.std.proofs.lemmas.Option.{slice_get_within}
use Rattle.model_items.specs.declared.item.Item.{Item}
use Rattle.model_items.specs.Plain.{plain, plain_list, CitesWell}
use Rattle.model_items.specs.Tree.{Open}
use Rattle.model_items.specs.Offsets.{opens_at, openings_at}
use Rattle.ve_tree.specs.IsTree.{unvalued}
use Rattle.ve_edits.proofs.BracketLemmas.{cites_there}
use Rattle.ve_edits.proofs.openings.openings_round.Goals as goal

pub opening_round-o-requires-clause-open : goal.opening_round-o-requires-clause-open
opening_round-o-requires-clause-open c = λ none.
    let e : length (opens_at (unvalued c.args.doc.list.now.items) c.loop-level.o) ≡ 0 = ap (λ (l : List Open). length l) none in
    omega (arith, c.loop-level.invariant.left, c.loop-level-test.true, c.requires.levels, e)

pub get-requires : goal.get-requires
get-requires c = let r = c.opening_round-o.ensures [] in slice_get_within c.args.doc.list.now.items c.opening_round-o.result r.item r.there

pub loop-level-preserved : goal.loop-level-preserved
loop-level-preserved c =
    let items = c.args.doc.list.now.items in
    let place = c.opening_round-o.result in
    let inv = c.loop-level.invariant in
    let first = c.opening_round-o.ensures [] in
    let below = slice_get_within items place first.item first.there in
    let opens : length (opens_at (unvalued items) c.loop-level.o) ≡ length (opens_at (unvalued items) place) + 1 = ap (λ (l : List Open). length l) first.opens ∙ omega arith in
    record {
      within = omega (arith, below);
      left = omega (arith, opens, inv.left);
      many = omega (arith, ap (λ (l : List Item). length l) c.in_ok-push.ensures.ok, length-append c.loop-level.all (c.get.result ∷ []), inv.many);
      cited = λ values listed.
          let W = CitesWell values in
          let here = cites_there values items place c.get.result listed c.get.ensures in
          subst (All W) (sym c.in_ok-push.ensures.ok)
          (All-append W c.loop-level.all (c.get.result ∷ []) (inv.cited values listed) (All-cons W c.get.result [] here (All-nil W)));
      walked = λ values.
          let r = c.opening_round-o.ensures values in
          let same : r.item ≡ c.get.result = cc (r.there, c.get.ensures) in
          let all = c.loop-level.all in
          let rest = openings_at (plain_list values items) place in
          inv.walked values ∙ ap (λ v. plain_list values all ++ v) (r.openings ∙ ap (λ x. plain values x ∷ rest) same)
          ∙ sym (append_assoc (plain_list values all) (plain values c.get.result ∷ []) rest)
          ∙ ap (λ v. v ++ rest) (sym (map-append (plain values) all (c.get.result ∷ [])))
          ∙ ap (λ v. plain_list values v ++ rest) (sym c.in_ok-push.ensures.ok);
    }

pub returns-clause-round : goal.returns-clause-round
returns-clause-round c = λ values.
    let items = c.args.doc.list.now.items in
    let all = c.loop-level.all in
    let n : length (plain_list values all) ≡ c.args.levels = omega (arith, length-map all (plain values), c.loop-level.invariant.many, c.loop-level-test.false) in
    sym (ap (take c.args.levels) (c.loop-level.invariant.walked values) ∙ take_at (plain_list values all) (openings_at (plain_list values items) c.loop-level.o) c.args.levels n)

pub returns-clause-cites : goal.returns-clause-cites
returns-clause-cites c = c.loop-level.invariant.cited
