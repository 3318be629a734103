use Rattle.std.proofs.Common.{◌≡◌, ◌∙◌, sym, ap, subst, arith, length, List, Ok, None, []}
use Rattle.std.proofs.lemmas.Result.{err_from_is_err_and}
use Rattle.model_spelling.specs.Faults.{fault_at_end}
use Rattle.ve_html_scan.specs.Shown.{ScannerState, next_of, IsFound}
use Rattle.ve_html_tree.specs.Seen.{IsFirstFault}
use Rattle.ve_html_tree.specs.Opened.{opens}
use Rattle.ve_html_tree.specs.declared.node.Node.{Node}
use Rattle.ve_html_tree.proofs.Runs.{SoFar, none_open, begins, at_end, spelled_so, at_fault, stops, goes_on, room, text_found}
use Rattle.ve_html_tree.proofs.reader.read.Goals as goal

pub loop-fault-init : goal.loop-fault-init
loop-fault-init c =
    let e = c.new-scanner.ensures in
    let text = c.args.text.now in
    (rw c.new-nodes.ensures.items (subst (λ (p : ScannerState). SoFar text p [] none_open) (sym e) (begins text)), ap (λ (p : ScannerState). p.text) e, omega (arith, ap (λ (p : ScannerState). p.at) e))

pub returns-in-Err-clause-fault : goal.returns-in-Err-clause-fault
returns-in-Err-clause-fault c = at_fault c.args.text.now c.loop-fault.scanner c.loop-fault.nodes.items c.loop-fault.opened c.in-Err.fault c.loop-fault.invariant.0 c.in-Err.ensures.read

pub returns-in_err-end_of_text-in-Ok-None-clause-fault : goal.returns-in_err-end_of_text-in-Ok-None-clause-fault
returns-in_err-end_of_text-in-Ok-None-clause-fault c =
    let p = err_from_is_err_and c.from_residual.result c.from_residual.ensures.1 in
    let none : next_of c.loop-fault.scanner ≡ Ok None = rw c.in-Ok-None.field-0-is at c.in-Ok-None.ensures.read in
    let first = at_end c.args.text.now c.loop-fault.scanner c.loop-fault.nodes.items c.loop-fault.opened c.loop-fault.invariant.0 none in
    rw (p.1, p.2) (subst (IsFirstFault c.in_err-end_of_text-in-Ok-None.field-0.0) (ap (λ (l : List Node). fault_at_end (opens l c.loop-fault.opened) None) c.deref.ensures.value ∙ first) c.in_err-end_of_text-in-Ok-None.ensures)

pub returns-in-Ok-None-clause-found : goal.returns-in-Ok-None-clause-found
returns-in-Ok-None-clause-found c =
    let none : next_of c.loop-fault.scanner ≡ Ok None = rw c.in-Ok-None.field-0-is at c.in-Ok-None.ensures.read in
    spelled_so c.args.text.now c.loop-fault.scanner c.loop-fault.nodes.items c.loop-fault.opened c.loop-fault.invariant.0 none
    (sym (ap (λ (l : List Node). fault_at_end (opens l c.loop-fault.opened) None) c.deref.ensures.value) ∙ c.in_ok-end_of_text-in-Ok-None.ensures)

pub take_token-requires-clause-room : goal.take_token-requires-clause-room
take_token-requires-clause-room c =
    let found : IsFound c.loop-fault.scanner.text c.loop-fault.scanner.at (next_of c.loop-fault.scanner) c.in-Ok-Some.token = rw c.in-Ok-Some.field-0-is at c.in-Ok-Some.ensures.read in
    room c.loop-fault.scanner c.in-Ok-Some.token found

pub loop-fault-preserved : goal.loop-fault-preserved
loop-fault-preserved c =
    let found : IsFound c.loop-fault.scanner.text c.loop-fault.scanner.at (next_of c.loop-fault.scanner) c.in-Ok-Some.token = rw c.in-Ok-Some.field-0-is at c.in-Ok-Some.ensures.read in
    let place = rw c.in-Ok-Some.field-0-is at c.in-Ok-Some.ensures.place in
    let s = c.loop-fault.invariant.0 in
    let a = c.in_ok-take_token-in-Ok-Some.ensures.faults found.token found.shows in
    let r = c.in_ok-take_token-in-Ok-Some.ensures.nodes found.token s.made_nodes found.shows (text_found c.loop-fault.scanner c.in-Ok-Some.token found) s.shows in
    let n = c.in_ok-take_token-in-Ok-Some.ensures.numbers found.token s.made_nodes found.shows s.shows in (
      goes_on c.args.text.now c.loop-fault.scanner c.next.new.self c.loop-fault.nodes.items c.loop-fault.opened c.in-Ok-Some.token c.take_token.new.nodes.items c.take_token.new.opened s found place a r n c.in_ok-take_token-in-Ok-Some.ensures.linked,
      ap (λ (p : ScannerState). p.text) place ∙ c.loop-fault.invariant.1,
      omega (arith, ap (λ (p : ScannerState). p.at) place, found.boundary.0, ap length c.loop-fault.invariant.1),
    )

pub returns-in_err-take_token-in-Ok-Some-clause-fault : goal.returns-in_err-take_token-in-Ok-Some-clause-fault
returns-in_err-take_token-in-Ok-Some-clause-fault c =
    let p = err_from_is_err_and c.from_residual-in_err-take_token-in-Ok-Some.result c.from_residual-in_err-take_token-in-Ok-Some.ensures.1 in
    let found : IsFound c.loop-fault.scanner.text c.loop-fault.scanner.at (next_of c.loop-fault.scanner) c.in-Ok-Some.token = rw c.in-Ok-Some.field-0-is at c.in-Ok-Some.ensures.read in
    rw (p.1, p.2) (stops c.args.text.now c.loop-fault.scanner c.loop-fault.nodes.items c.loop-fault.opened c.in-Ok-Some.token c.in_err-take_token-in-Ok-Some.field-0.0 c.loop-fault.invariant.0 found (c.in_err-take_token-in-Ok-Some.ensures.faults found.token found.shows))
