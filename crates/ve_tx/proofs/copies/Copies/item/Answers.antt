use Rattle.ve_tx.specs.Copied.{one_cited}
use Rattle.ve_tx.proofs.CopiesLemmas.{CitesAlike-fill, opening_filled, char_alike, closing_alike, opening_alike}
use Rattle.ve_tx.proofs.copies.Copies.item.Goals as goal

pub returns-in_ok-marks-in-Char-clause-alike : goal.returns-in_ok-marks-in-Char-clause-alike
returns-in_ok-marks-in-Char-clause-alike c =
    char_alike c.args.store.now c.cite.new.self.values c.args.item c.in-Char.ch c.in-Char.marks c.in_ok-marks-in-Char.marks c.in-Char.is c.requires.cites c.in_ok-marks-in-Char.ensures.cites

pub returns-in_ok-pre-in-Closing-clause-alike : goal.returns-in_ok-pre-in-Closing-clause-alike
returns-in_ok-pre-in-Closing-clause-alike c =
    closing_alike c.args.store.now c.cite-in-Closing.new.self.values c.args.item c.in-Closing.kind c.in-Closing.pre c.in_ok-pre-in-Closing.pre c.in-Closing.is c.requires.cites
    c.in_ok-pre-in-Closing.ensures.cites

pub returns-in_ok-pre-in-Opening-clause-filled : goal.returns-in_ok-pre-in-Opening-clause-filled
returns-in_ok-pre-in-Opening-clause-filled c =
    opening_filled c.args.store.now c.args.self.now.values c.cite-in-Opening.new.self.values c.cite-in-Opening-2.new.self.values c.cite-in-Opening-3.new.self.values c.args.item
    c.in-Opening.kind c.in-Opening.generated c.in-Opening.head c.in-Opening.marks c.in-Opening.pre c.in-Opening.origin c.in-Opening.is c.requires.cites
    c.in_ok-head-in-Opening.ensures.filled c.in_ok-marks-in-Opening.ensures.filled c.in_ok-pre-in-Opening.ensures.filled

pub returns-in_ok-pre-in-Opening-clause-alike : goal.returns-in_ok-pre-in-Opening-clause-alike
returns-in_ok-pre-in-Opening-clause-alike c =
    let store = c.args.store.now in
    let v1 = c.cite-in-Opening.new.self.values in
    let v2 = c.cite-in-Opening-2.new.self.values in
    let new = c.cite-in-Opening-3.new.self.values in
    let marked = one_cited store c.in-Opening.marks in
    let spaced = one_cited store c.in-Opening.pre in
    opening_alike store new c.args.item c.in-Opening.kind c.in-Opening.generated c.in-Opening.head c.in-Opening.marks c.in-Opening.pre c.in_ok-head-in-Opening.head
    c.in_ok-marks-in-Opening.marks c.in_ok-pre-in-Opening.pre c.in-Opening.origin c.in-Opening.is c.requires.cites
    (CitesAlike-fill store v2 spaced new c.in-Opening.head c.in_ok-head-in-Opening.head c.in_ok-pre-in-Opening.ensures.filled
    (CitesAlike-fill store v1 marked v2 c.in-Opening.head c.in_ok-head-in-Opening.head c.in_ok-marks-in-Opening.ensures.filled c.in_ok-head-in-Opening.ensures.cites))
    (CitesAlike-fill store v2 spaced new c.in-Opening.marks c.in_ok-marks-in-Opening.marks c.in_ok-pre-in-Opening.ensures.filled c.in_ok-marks-in-Opening.ensures.cites)
    c.in_ok-pre-in-Opening.ensures.cites
