use Rattle.std.proofs.Common.{◌++◌, ◌∷◌, [], min, length, take, drop, ap, ◌∙◌, sym, subst}
use Rattle.std.specs.Prelude.{slice_set}
use Rattle.std.proofs.lemmas.List.{get_or_default}
use Rattle.ve_items.specs.Blocks.{joined}
use Rattle.ve_tx.specs.Order.{AtHome}
use Rattle.ve_tx.proofs.OrderLemmas.{joined_put, put_at_min, home_put}
use Rattle.ve_tx.proofs.order.insert.Goals as goal

pub returns-clause-ok : goal.returns-clause-ok
returns-clause-ok c =
    let chunks = c.args.chunks.now in
    let home = c.place_at-home.result.0 in
    let place = c.place_at-home.result.1 in
    let chunk = get_or_default chunks home c.index-chunks-home.result [] c.place_at-home.ensures.among in
    ap (λ l. joined (slice_set chunks home l)) (c.in_ok-put_in.ensures.ok ∙ ap (λ l. take place l ++ c.args.number ∷ drop place l) chunk)
    ∙ joined_put chunks home place (min c.args.at (length (joined chunks))) c.args.number c.place_at-home.ensures.among c.place_at-home.ensures.within c.place_at-home.ensures.place
    ∙ put_at_min (joined chunks) c.args.at c.args.number

pub returns-clause-home : goal.returns-clause-home
returns-clause-home c =
    let chunks = c.args.chunks.now in
    let home = c.place_at-home.result.0 in
    let place = c.place_at-home.result.1 in
    let chunk = get_or_default chunks home c.index-chunks-home.result [] c.place_at-home.ensures.among in
    subst (λ l. AtHome (slice_set chunks home l) (slice_set c.args.homes.now c.args.number home))
    (sym (c.in_ok-put_in.ensures.ok ∙ ap (λ l. take place l ++ c.args.number ∷ drop place l) chunk))
    (home_put chunks c.args.homes.now home place c.args.number c.requires.home c.place_at-home.ensures.among c.requires.within c.requires.new)
