use Rattle.std.proofs.Common.{List, ℕ, map, sym, ap, ◌∙◌, subst, map-id}
use Rattle.std.specs.Prelude.{All}
use Rattle.std.proofs.lemmas.Iterator.{YieldsList-from_chars}
use Rattle.std.proofs.lemmas.Iterator.Consumers.{YieldsList-end}
use Rattle.model_items.specs.declared.item.Item.TheVariants as item
use Rattle.model_items.specs.Plain.{plain_list, CitesWell}
use Rattle.ve_build_insert.proofs.TypedLemmas.{letters_plain, letters_cite}
use Rattle.ve_build_insert.proofs.text.letters.Goals as goal

pub returns-clause-means : goal.returns-clause-means
returns-clause-means c = λ values.
    let end = YieldsList-end (YieldsList-from_chars c.args.text.now c.utf8.text cc) c.loop-ch.yielded _ c.loop-ch.yielded_by _ _ c.in-None.is c.next.ensures.steps in
    let whole = c.loop-ch.invariant ∙ ap (λ (l : List ℕ). map (λ x. item.Char x c.args.marks) l) (sym (map-id c.loop-ch.yielded) ∙ end.0) in
    ap (plain_list values) whole ∙ letters_plain values c.args.marks _

pub returns-clause-cites : goal.returns-clause-cites
returns-clause-cites c = λ values cites.
    subst (All (CitesWell values)) (sym c.loop-ch.invariant) (letters_cite values c.args.marks c.loop-ch.yielded cites)
