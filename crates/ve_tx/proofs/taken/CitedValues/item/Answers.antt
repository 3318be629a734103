use Rattle.ve_tx.specs.Copied.{one_cited}
use Rattle.ve_tx.proofs.CopiesLemmas.{CitesAlike-fill, opening_filled, char_alike, closing_alike, opening_alike}
use Rattle.ve_tx.proofs.TakenLemmas.{on_err, extends_twice, white_stands}
use Rattle.ve_tx.proofs.taken.CitedValues.item.Goals as goal

pub returns-in_ok-marks-in-Char-clause-alike : goal.returns-in_ok-marks-in-Char-clause-alike
returns-in_ok-marks-in-Char-clause-alike c =
    char_alike c.args.values.now c.cite.new.store c.args.item c.in-Char.ch c.in-Char.marks c.in_ok-marks-in-Char.marks c.in-Char.is c.requires.cites c.in_ok-marks-in-Char.ensures.cites

pub returns-in_ok-pre-in-Closing-clause-alike : goal.returns-in_ok-pre-in-Closing-clause-alike
returns-in_ok-pre-in-Closing-clause-alike c =
    closing_alike c.args.values.now c.cite-in-Closing.new.store c.args.item c.in-Closing.kind c.in-Closing.pre c.in_ok-pre-in-Closing.pre c.in-Closing.is c.requires.cites
    c.in_ok-pre-in-Closing.ensures.cites

pub returns-in_ok-pre-in-Opening-clause-filled : goal.returns-in_ok-pre-in-Opening-clause-filled
returns-in_ok-pre-in-Opening-clause-filled c =
    opening_filled c.args.values.now c.args.store.now c.cite-in-Opening.new.store c.cite-in-Opening-2.new.store c.cite-in-Opening-3.new.store c.args.item
    c.in-Opening.kind c.in-Opening.generated c.in-Opening.head c.in-Opening.marks c.in-Opening.pre c.in-Opening.origin c.in-Opening.is c.requires.cites
    c.in_ok-head-in-Opening.ensures.filled c.in_ok-marks-in-Opening.ensures.filled c.in_ok-pre-in-Opening.ensures.filled

pub returns-in_ok-pre-in-Opening-clause-alike : goal.returns-in_ok-pre-in-Opening-clause-alike
returns-in_ok-pre-in-Opening-clause-alike c =
    let store = c.args.values.now in
    let v1 = c.cite-in-Opening.new.store in
    let v2 = c.cite-in-Opening-2.new.store in
    let new = c.cite-in-Opening-3.new.store in
    let marked = one_cited store c.in-Opening.marks in
    let spaced = one_cited store c.in-Opening.pre in
    opening_alike store new c.args.item c.in-Opening.kind c.in-Opening.generated c.in-Opening.head c.in-Opening.marks c.in-Opening.pre c.in_ok-head-in-Opening.head
    c.in_ok-marks-in-Opening.marks c.in_ok-pre-in-Opening.pre c.in-Opening.origin c.in-Opening.is c.requires.cites
    (CitesAlike-fill store v2 spaced new c.in-Opening.head c.in_ok-head-in-Opening.head c.in_ok-pre-in-Opening.ensures.filled
    (CitesAlike-fill store v1 marked v2 c.in-Opening.head c.in_ok-head-in-Opening.head c.in_ok-marks-in-Opening.ensures.filled c.in_ok-head-in-Opening.ensures.cites))
    (CitesAlike-fill store v2 spaced new c.in-Opening.marks c.in_ok-marks-in-Opening.marks c.in_ok-pre-in-Opening.ensures.filled c.in_ok-marks-in-Opening.ensures.cites)
    c.in_ok-pre-in-Opening.ensures.cites

pub returns-in_err-pre-in-Opening-clause-grown : goal.returns-in_err-pre-in-Opening-clause-grown
returns-in_err-pre-in-Opening-clause-grown c =
    on_err c.from_residual-in_err-pre-in-Opening.result
    (extends_twice c.args.store.now c.cite-in-Opening.new.store c.cite-in-Opening-2.new.store c.cite-in-Opening-3.new.store (one_cited c.args.values.now c.in-Opening.head)
    (one_cited c.args.values.now c.in-Opening.marks) c.in_ok-head-in-Opening.ensures.filled c.in_ok-marks-in-Opening.ensures.filled c.in_err-pre-in-Opening.ensures.grown)

pub cite-requires-in-Closing-clause-stands : goal.cite-requires-in-Closing-clause-stands
cite-requires-in-Closing-clause-stands c = white_stands c.args.values.now c.args.item c.in-Closing.kind c.in-Closing.pre c.in-Closing.is c.requires.cites
