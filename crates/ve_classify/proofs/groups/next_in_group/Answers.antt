use Rattle.std.proofs.Common.{◌+◌, Some, true, false, sym, ◌∙◌, ap}
use Rattle.model_spelling.specs.Written.{decoded}
use Rattle.ve_classify.specs.Standing.{rest_of, first_count}
use Rattle.ve_classify.proofs.StandLemmas.{first_length}
use Rattle.ve_classify.proofs.GroupSteps.{some_sibling, shares_next, white_next, stands_next, joins_none, joins_here, joins_not, joins_second, joins_no_second, joins_not_second}
use Rattle.ve_classify.proofs.groups.next_in_group.Goals as goal

pub returns-in_default-clause-joins : goal.returns-in_default-clause-joins
returns-in_default-clause-joins c = λ f at more s e. joins_none (c.args.n + first_count f) (decoded c.args.about.now) (rest_of f) (c.in_default.ensures.sibling f at more s e)

pub returns-then-shares-clause-joins : goal.returns-then-shares-clause-joins
returns-then-shares-clause-joins c = λ f at more s e.
    let sib = some_sibling (c.args.n + first_count f) c.in-Some.after (rest_of f) (c.in-Some.ensures.sibling f at more s e) in
    let sh = shares_next c.args.forest.now c.args.n at f more (decoded c.args.about.now) c.in-Some.after c.node.result.now true s sib c.node.ensures (λ k h. sym c.if-shares.true ∙ c.shares.ensures k h) in
    ap (λ k. Some k) sib.is ∙ joins_here (c.args.n + first_count f) (decoded c.args.about.now) (rest_of f) sh

pub returns-then-not-is_white_text-clause-joins : goal.returns-then-not-is_white_text-clause-joins
returns-then-not-is_white_text-clause-joins c = λ f at more s e.
    let sib = some_sibling (c.args.n + first_count f) c.in-Some.after (rest_of f) (c.in-Some.ensures.sibling f at more s e) in
    let sh = shares_next c.args.forest.now c.args.n at f more (decoded c.args.about.now) c.in-Some.after c.node.result.now false s sib c.node.ensures (λ k h. sym c.if-shares.false ∙ c.shares.ensures k h) in
    let wh = white_next c.args.forest.now c.args.n at f more c.in-Some.after c.node-2.result.now false s sib c.node-2.ensures (λ k h. sym c.if-not-is_white_text.true ∙ c.is_white_text.ensures k h) in
    joins_not (c.args.n + first_count f) (decoded c.args.about.now) (rest_of f) sh wh

pub returns-in_default-sibling_after-clause-joins : goal.returns-in_default-sibling_after-clause-joins
returns-in_default-sibling_after-clause-joins c = λ f at more s e.
    let sib = some_sibling (c.args.n + first_count f) c.in-Some.after (rest_of f) (c.in-Some.ensures.sibling f at more s e) in
    let wh = white_next c.args.forest.now c.args.n at f more c.in-Some.after c.node-2.result.now true s sib c.node-2.ensures (λ k h. sym c.if-not-is_white_text.false ∙ c.is_white_text.ensures k h) in
    joins_no_second (c.args.n + first_count f) c.in-Some.after (decoded c.args.about.now) (rest_of f) sib wh
    (c.in_default-sibling_after.ensures.sibling (rest_of f) (at + first_length f) more (stands_next c.args.forest.now c.args.n at f more c.in-Some.after s sib) sib.some)

pub returns-then-not-shares-clause-joins : goal.returns-then-not-shares-clause-joins
returns-then-not-shares-clause-joins c = λ f at more s e.
    let sib = some_sibling (c.args.n + first_count f) c.in-Some.after (rest_of f) (c.in-Some.ensures.sibling f at more s e) in
    let wh = white_next c.args.forest.now c.args.n at f more c.in-Some.after c.node-2.result.now true s sib c.node-2.ensures (λ k h. sym c.if-not-is_white_text.false ∙ c.is_white_text.ensures k h) in
    let stands = stands_next c.args.forest.now c.args.n at f more c.in-Some.after s sib in
    let second = some_sibling (c.in-Some.after + first_count (rest_of f)) c.in-Some-sibling_after.next (rest_of (rest_of f)) (c.in-Some-sibling_after.ensures.sibling (rest_of f) (at + first_length f) more stands sib.some) in
    let sh = shares_next c.args.forest.now c.in-Some.after (at + first_length f) (rest_of f) more (decoded c.args.about.now) c.in-Some-sibling_after.next c.node-3.result.now false stands second c.node-3.ensures (λ k h. sym c.if-not-shares.true ∙ c.shares-2.ensures k h) in
    joins_not_second (c.args.n + first_count f) c.in-Some.after (decoded c.args.about.now) (rest_of f) sib wh sh

pub returns-clause-joins : goal.returns-clause-joins
returns-clause-joins c = λ f at more s e.
    let sib = some_sibling (c.args.n + first_count f) c.in-Some.after (rest_of f) (c.in-Some.ensures.sibling f at more s e) in
    let wh = white_next c.args.forest.now c.args.n at f more c.in-Some.after c.node-2.result.now true s sib c.node-2.ensures (λ k h. sym c.if-not-is_white_text.false ∙ c.is_white_text.ensures k h) in
    let stands = stands_next c.args.forest.now c.args.n at f more c.in-Some.after s sib in
    let second = some_sibling (c.in-Some.after + first_count (rest_of f)) c.in-Some-sibling_after.next (rest_of (rest_of f)) (c.in-Some-sibling_after.ensures.sibling (rest_of f) (at + first_length f) more stands sib.some) in
    let sh = shares_next c.args.forest.now c.in-Some.after (at + first_length f) (rest_of f) more (decoded c.args.about.now) c.in-Some-sibling_after.next c.node-3.result.now true stands second c.node-3.ensures (λ k h. sym c.if-not-shares.false ∙ c.shares-2.ensures k h) in
    joins_second (c.args.n + first_count f) c.in-Some.after c.in-Some-sibling_after.next (decoded c.args.about.now) (rest_of f) sib wh second sh
