use Rattle.std.proofs.Common.{◌++◌, ◌+◌, refl, sym, ap, ◌∙◌, subst, IsUtf8, Some}
use Rattle.std.proofs.lemmas.Str.{IsUtf8-append}
use Rattle.ve_write.proofs.SiblingLemmas.{opening_outer}
use Rattle.ve_write.specs.Told.{known_of}
use Rattle.ve_write.proofs.BeforeLemmas.{origin_at}
use Rattle.ve_write.proofs.CopiedLemmas.{kept_put, no_node, tags_needed}
use Rattle.ve_write.proofs.blocks.put_kept.Goals as goal

pub original_at-requires-clause-origin : goal.original_at-requires-clause-origin
original_at-requires-clause-origin c = origin_at c.args.page.store.now c.args.page.list.now.items c.args.at _ _ _ _ _ _ (c.requires.item ∙ ap Some c.in-Opening.is)

pub put_white-requires : goal.put_white-requires
put_white-requires c = (c.requires.cites c.args.at _ (c.requires.item ∙ ap Some c.in-Opening.is)).2

pub returns-in_default : goal.returns-in_default
returns-in_default c = record { more = tt; within = tt; outer = tt; text = tt; utf8 = λ u. u; none = refl; afresh = no_node (known_of c.args.page) c.args.at c.args.before c.args.item c.requires.item c.in_default.not-Opening }

pub returns-then-needs_tags-clause-afresh : goal.returns-then-needs_tags-clause-afresh
returns-then-needs_tags-clause-afresh c =
    tags_needed (known_of c.args.page) c.args.at _ _ _ _ _ _ c.args.before c.in_ok-bare.bare (c.requires.item ∙ ap Some c.in-Opening.is) c.in_ok-bare.ensures (sym c.needs_tags.ensures ∙ c.if-needs_tags.true)

pub returns-clause-outer : goal.returns-clause-outer
returns-clause-outer c =
    let n = c.in-Some.ensures.node in
    opening_outer c.args.page.list.now.items c.args.at c.args.item _ _ _ _ _ _ n.end (record { pre = n.pre; at = c.args.at + c.in-Some.original.count }) c.requires.item c.in-Opening.is n.inside n.follows

pub returns-clause-text : goal.returns-clause-text
returns-clause-text c =
    let n = c.in-Some.ensures.node in
    kept_put (known_of c.args.page) c.args.at _ _ _ _ _ _ c.args.before c.in_ok-bare.bare c.in-Some.original.text.now n.end (record { pre = n.pre; at = c.args.at + c.in-Some.original.count }) c.args.out.now c.put_white.new.out _ (c.requires.item ∙ ap Some c.in-Opening.is)
    (sym c.in-Some.ensures.text) c.in_ok-bare.ensures (sym c.needs_tags.ensures ∙ c.if-needs_tags.false) n.inside n.follows c.in_ok-put_white.ensures.text
    (c.in_ok-push.ensures.ok ∙ ap (λ l. c.put_white.new.out ++ l) c.as_bytes.ensures.value)

pub returns-clause-utf8 : goal.returns-clause-utf8
returns-clause-utf8 c = λ u. subst IsUtf8 (sym c.in_ok-push.ensures.ok) (IsUtf8-append _ _ (c.in_ok-put_white.ensures.utf8 u) c.as_bytes.ensures.utf8)
