use Rattle.std.proofs.Common.{◌<◌, length, Some, sym, ap, subst, ◌∙◌}
use Rattle.ve_tx.specs.Copied.{AreCopied, Stands}
use Rattle.ve_tx.proofs.CopiesLemmas.{seen_filled, seen_cites, unseen_filled, unseen_copied, cited_at, cites_alike}
use Rattle.ve_tx.proofs.copies.Copies.cite.Goals as goal

pub returns-then-not-is_new-clause-filled : goal.returns-then-not-is_new-clause-filled
returns-then-not-is_new-clause-filled c =
    seen_filled c.args.store.now c.args.self.now.places.keys c.insert_full.new.self.keys c.args.self.now.values c.in-Some.id.0 c.in_ok-at.at c.in_ok-at.is_new c.args.id c.in-Some.is
    c.requires.copied c.in_ok-at.ensures.keys c.in_ok-at.ensures.added c.if-not-is_new.true c.in_ok-at.ensures.stored

pub returns-then-not-is_new-clause-cites : goal.returns-then-not-is_new-clause-cites
returns-then-not-is_new-clause-cites c =
    let within : c.in-Some.id.0 < length c.args.store.now = subst (Stands c.args.store.now) c.in-Some.is c.requires.stands in
    seen_cites c.args.store.now c.args.self.now.places.keys c.insert_full.new.self.keys c.args.self.now.values c.in-Some.id.0 c.in_ok-at.at c.in_ok-at.is_new c.args.id c.in-Some.is within
    c.requires.copied c.in_ok-at.ensures.keys c.in_ok-at.ensures.added c.if-not-is_new.true c.in_ok-at.ensures.stored

pub returns-clause-filled : goal.returns-clause-filled
returns-clause-filled c =
    unseen_filled c.args.store.now c.args.self.now.places.keys c.args.self.now.values c.push.new.self c.in-Some.id.0 c.in_ok-at.is_new c.in_ok-value.value c.args.id c.len.ensures.distinct
    c.in-Some.is c.requires.copied c.in_ok-at.ensures.added c.if-not-is_new.false (c.get.ensures ∙ ap Some (sym c.in_ok-value.ensures)) c.in_ok-push.ensures.ok

pub returns-clause-cites : goal.returns-clause-cites
returns-clause-cites c =
    let within : c.in-Some.id.0 < length c.args.store.now = subst (Stands c.args.store.now) c.in-Some.is c.requires.stands in
    let copied : AreCopied c.args.store.now c.insert_full.new.self.keys c.push.new.self =
    unseen_copied c.args.store.now c.args.self.now.places.keys c.insert_full.new.self.keys c.args.self.now.values c.push.new.self c.in-Some.id.0 c.in_ok-at.is_new c.in_ok-value.value
    c.requires.copied c.in_ok-at.ensures.keys c.in_ok-at.ensures.added c.if-not-is_new.false (c.get.ensures ∙ ap Some (sym c.in_ok-value.ensures)) c.in_ok-push.ensures.ok in
    cites_alike c.args.store.now c.push.new.self c.in-Some.id.0 c.in_ok-at.at c.args.id c.in-Some.is within
    (cited_at c.args.store.now c.insert_full.new.self.keys c.push.new.self c.in_ok-at.at c.in-Some.id.0 copied c.in_ok-at.ensures.stored)
