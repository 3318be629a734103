use Rattle.std.proofs.Common.{[], ◌∷◌, ap}
use Rattle.model_items.specs.declared.item.Item.{Item}
use Rattle.ve_repair.specs.Acts.{come}
use Rattle.ve_repair.specs.Courses.{openings}
use Rattle.ve_repair.proofs.ChangeLemmas.{on_ok}
use Rattle.ve_repair.proofs.ComeLemmas.{char_item, opening_item, closing_item}
use Rattle.ve_repair.proofs.StoppedLemmas.{on_err, err_so, come_opening, come_closing}
use Rattle.ve_repair.proofs.read.ChangeReader.come.Goals as goal

pub returns-in-Char-clause-read : goal.returns-in-Char-clause-read
returns-in-Char-clause-read g c = λ course h.
    char_item c.args.item course c.args.arena.now.slots c.args.self.now c.grow_run.new.self (ap (λ (x : Item). openings (x ∷ [])) c.in-Char.is) (ap (λ (x : Item). come (x ∷ []) []) c.in-Char.is) h c.grow_run.ensures

pub returns-in_ok-begin_node-in-Opening-clause-read : goal.returns-in_ok-begin_node-in-Opening-clause-read
returns-in_ok-begin_node-in-Opening-clause-read g c = λ course h.
    opening_item c.args.item course c.args.arena.now.slots c.begin_node.new.arena.slots c.args.self.now c.begin_node.new.self c.in_ok-begin_node-in-Opening.field-0 c.in-Opening.kind
    (ap (λ (x : Item). openings (x ∷ [])) c.in-Opening.is) (ap (λ (x : Item). come (x ∷ []) (c.in_ok-begin_node-in-Opening.field-0.0 ∷ [])) c.in-Opening.is) h
    c.in_ok-begin_node-in-Opening.ensures.ends c.in_ok-begin_node-in-Opening.ensures.node

pub returns-in-Closing-clause-read : goal.returns-in-Closing-clause-read
returns-in-Closing-clause-read g c = on_ok c.pass_bracket.result _ _
    (λ e course h.
    closing_item c.args.item course c.args.arena.now.slots c.pass_bracket.new.arena.slots c.args.self.now c.pass_bracket.new.self c.in-Closing.kind (ap (λ (x : Item). openings (x ∷ [])) c.in-Closing.is)
    (ap (λ (x : Item). come (x ∷ []) []) c.in-Closing.is) h e)
    c.pass_bracket.ensures.ends

pub returns-in_err-begin_node-in-Opening-clause-part : goal.returns-in_err-begin_node-in-Opening-clause-part
returns-in_err-begin_node-in-Opening-clause-part g c =
    on_err c.from_residual.result _
    (λ course h.
    come_opening c.args.item course c.args.arena.now.slots c.args.self.now c.in-Opening.kind c.begin_node.new.self.script (ap (λ (x : Item). come (x ∷ []) []) c.in-Opening.is) h
    c.in_err-begin_node-in-Opening.ensures.stopped)

pub returns-in-Closing-clause-part : goal.returns-in-Closing-clause-part
returns-in-Closing-clause-part g c =
    err_so c.pass_bracket.result _ _
    (λ few course h.
    come_closing c.args.item course c.args.arena.now.slots c.args.self.now c.in-Closing.kind c.pass_bracket.new.self.script (ap (λ (x : Item). come (x ∷ []) []) c.in-Closing.is) h few)
    c.pass_bracket.ensures.stopped
