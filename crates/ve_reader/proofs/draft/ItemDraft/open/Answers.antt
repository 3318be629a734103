use Rattle.std.specs.Str.{chars}
use Rattle.std.proofs.Common.{ap, ◌∙◌}
use Rattle.model_change.specs.Store.{cited_by}
use Rattle.ve_reader.specs.Drafted.{with_item, block_of}
use Rattle.ve_tx.proofs.ValuesLemmas.{extends_by_fill}
use Rattle.ve_reader.proofs.ExtendLemmas.{knows_on, items_more, holds_more}
use Rattle.ve_reader.proofs.draft.ItemDraft.open.Goals as goal

pub invariant_of-self : goal.invariant_of-self
invariant_of-self c =
    holds_more c.self.inside.values c.put_block.new.values c.self.inside.items c.put_block.new.items (block_of c.args.opening (chars c.args.white.now)) c.in-Ok.ensures.ok c.self.inside.marks.items c.self.inside.known c.self.inside.known c.self.invariant
    (knows_on c.self.inside.values c.put_block.new.values c.self.inside.marks.items c.self.inside.known (extends_by_fill c.self.inside.values c.put_block.new.values (cited_by (block_of c.args.opening (chars c.args.white.now))) c.in-Ok.ensures.ok.filled) c.self.invariant.knows)

pub returns-in-Ok-clause-ok : goal.returns-in-Ok-clause-ok
returns-in-Ok-clause-ok c =
    ap (λ l. record { items = l; marks = c.self.inside.marks.items }) (items_more c.self.inside.values c.put_block.new.values c.self.inside.items c.put_block.new.items (block_of c.args.opening (chars c.args.white.now)) c.in-Ok.ensures.ok c.self.invariant.cites)
    ∙ ap (with_item (block_of c.args.opening (chars c.args.white.now))) c.self.view_is
