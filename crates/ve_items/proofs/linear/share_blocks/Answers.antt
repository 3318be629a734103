use Rattle.std.proofs.Common.{◌≡◌, ◌<◌, ◌≤◌, ◌+◌, [], ◌∷◌, ◌++◌, length, take, arith, sym, ap, ◌∙◌, subst, length-append, slice_get, slice_index_or, Some}
use Rattle.std.proofs.lemmas.List.{take_more}
use Rattle.std.proofs.lemmas.Option.{get_or_from_slice_get}
use Rattle.ve_items.specs.Blocks.{joined}
use Rattle.ve_items.proofs.Blocks.{joined_next, joined_within, rule_at}
use Rattle.ve_items.proofs.linear.share_blocks.Goals as goal

pub share-requires-clause-small : goal.share-requires-clause-small
share-requires-clause-small c =
    let blocks = c.args.from.now.blocks in
    let k = c.loop-k.k in
    let among : k < length blocks = omega (arith, c.len-k-end.ensures.count, c.loop-k-test.true) in
    subst (λ bs. length (slice_index_or bs k []) ≤ 512) (sym (ap (λ t. t.blocks) c.loop-k.invariant.kept)) (rule_at blocks k among c.requires.rule).1

pub push-requires-clause-fits : goal.push-requires-clause-fits
push-requires-clause-fits c =
    let blocks = c.args.from.now.blocks in
    let k = c.loop-k.k in
    let block = c.in_ok-block.block in
    let among : k < length blocks = omega (arith, c.len-k-end.ensures.count, c.loop-k-test.true) in
    let got : slice_index_or blocks k [] ≡ block = get_or_from_slice_get blocks k block [] (subst (λ t. slice_get t.blocks k ≡ Some block) c.loop-k.invariant.kept c.in_ok-block.ensures.items) in
    let next : length (joined (take (k + 1) blocks)) ≡ length (joined (take k blocks)) + length block =
    ap length (joined_next blocks k among) ∙ length-append (joined (take k blocks)) (slice_index_or blocks k []) ∙ ap (λ l. length (joined (take k blocks)) + length l) got in
    omega (arith, next, joined_within blocks (k + 1), c.requires.fits, ap (λ l. length (joined l)) c.loop-k.invariant.blocks)

pub loop-k-preserved : goal.loop-k-preserved
loop-k-preserved c =
    let blocks = c.args.from.now.blocks in
    let k = c.loop-k.k in
    let block = c.in_ok-block.block in
    let inv = c.loop-k.invariant in
    let among : k < length blocks = omega (arith, c.len-k-end.ensures.count, c.loop-k-test.true) in
    let got : slice_index_or blocks k [] ≡ block = get_or_from_slice_get blocks k block [] (subst (λ t. slice_get t.blocks k ≡ Some block) inv.kept c.in_ok-block.ensures.items) in
    record {
      kept = c.in_ok-block.ensures.kept ∙ inv.kept;
      blocks = c.push.ensures.blocks ∙ ap (λ l. l ++ block ∷ []) inv.blocks ∙ ap (λ b. take k blocks ++ b ∷ []) (sym got) ∙ sym (take_more blocks k [] among);
      room = c.push.ensures.room ∙ inv.room;
    }
