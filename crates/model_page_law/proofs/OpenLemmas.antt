-- Which pages open, and as what.
use Rattle.std.proofs.Common.{◌≡◌, ℕ, List, Option, Some, None, Result, Ok, Err, refl, sym, ap, ◌∙◌}
use Rattle.model_spelling.specs.declared.scan_fault.ScanFault.{ScanFault}
use Rattle.model_spelling.specs.Forest.{Forest, Spells}
use Rattle.model_spelling.specs.Faults.{ForestFault, fault_of}
use Rattle.model_spelling.specs.Parsed.{forest_of}
use Rattle.model_spelling.specs.Page.{body_at, fault_in_page_if_any, fault_between, page_fault}
use Rattle.model_spelling.proofs.Proved.{law_only, law_found, law_reads_right}
use Rattle.model_page.specs.PageItems.{slice, Opened, page_opened, opened_forest, opened_body, opened_page, page_made}
use Rattle.model_page_law.specs.WrittenBack.{FaultlessOpens, OpenedIsFaultless, OpensAsItsForest}

pub opens_as_its_forest : OpensAsItsForest
opens_as_its_forest page from to f e s =
    ap (opened_body page) e ∙ ap (opened_forest page (record { from = from; to = to })) (law_only (slice page from to) f s).1

no_fault : (n : ℕ) (f : Option ForestFault) → fault_in_page_if_any n f ≡ None → f ≡ None
no_fault n None h = refl
no_fault n (Some f) h = cc

faultless : (page : List ℕ) (read : Result (ℕ × ℕ) ScanFault) → body_at page ≡ read → fault_between page read ≡ None → (o : Opened) × (opened_page page ≡ Some o)
faultless page (Err f) e h = cc
faultless page (Ok body) e h =
    let f = law_found (slice page body.0 body.1) (no_fault body.0 (fault_of (slice page body.0 body.1)) h) in
    (page_opened page (record { from = body.0; to = body.1 }) (page_made body.0 f.0), opens_as_its_forest page body.0 body.1 f.0 e f.1)

pub faultless_opens : FaultlessOpens
unfolding page_fault
faultless_opens page h = faultless page (body_at page) refl h

opened_has_none : (text page : List ℕ) (from to n : ℕ) (read : Option Forest) → forest_of text ≡ read → (o : Opened) → opened_forest page (record { from = from; to = to }) read ≡ Some o → fault_in_page_if_any n (fault_of text) ≡ None
opened_has_none text page from to n None e o h = cc
opened_has_none text page from to n (Some f) e o h =
    let s = law_reads_right text f e in
    let spells : Spells text f = record { allowed = s.1; text_is = sym s.0 } in
    ap (fault_in_page_if_any n) (law_only text f spells).0

faultless_by : (page : List ℕ) (read : Result (ℕ × ℕ) ScanFault) (o : Opened) → opened_body page read ≡ Some o → fault_between page read ≡ None
faultless_by page (Err f) o h = cc
faultless_by page (Ok body) o h = opened_has_none (slice page body.0 body.1) page body.0 body.1 body.0 (forest_of (slice page body.0 body.1)) refl o h

pub opened_is_faultless : OpenedIsFaultless
unfolding page_fault
opened_is_faultless page o h = faultless_by page (body_at page) o h
