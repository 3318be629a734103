-- The law: a page that was opened, and is written again, is that page.
use Rattle.std.proofs.Common.{◌≡◌, ℕ, ◌+◌, ◌-◌, ◌≤◌, List, [], ◌++◌, length, take, drop, true, Option, Some, None, Result, Ok, Err, refl, sym, ap, ◌∙◌, subst, arith, take-append-drop, length-drop, length-take-le, drop-drop, IsUtf8}
use Rattle.std.specs.Prelude.{unwrap_or}
use Rattle.model_spelling.specs.declared.scan_fault.ScanFault.{ScanFault}
use Rattle.model_spelling.specs.Forest.{Forest, spelling}
use Rattle.model_spelling.specs.Page.{body_at}
use Rattle.model_spelling.specs.Parsed.{forest_of}
use Rattle.model_spelling.proofs.Proved.{law_reads_back, law_reads_right, law_body_inside}
use Rattle.ve_kinds.specs.declared.kind.Kind.TheVariants.{Root}
use Rattle.model_page.specs.Parts.{parts_of}
use Rattle.model_page.specs.Pieces.{Progress}
use Rattle.model_page.specs.PageItems.{slice, Opened, page_opened, opened_forest, opened_body, page_made}
use Rattle.model_page_write.specs.PageText.{write}
use Rattle.model_page_law.specs.WrittenBack.{opened_as, OpenedIsWrittenBack, SpelledIsWrittenBack}
use Rattle.model_page_law.proofs.PartsUtf8.{all_utf8}
use Rattle.model_page_law.proofs.BodyUtf8.{body_utf8}
use Rattle.model_page_law.proofs.TileLemmas.{Closed-in_flow}
use Rattle.model_page_law.proofs.LawLemmas.{write-opened}
use Rattle.model_page_law.proofs.BareLemmas.{Bared-in_flow}
use Rattle.model_page_law.proofs.InlinedLemmas.{Inlined-parts_of}

pub spelled_is_written_back : SpelledIsWrittenBack
spelled_is_written_back head tail f h u =
    let w : Progress = record { at = length head; owners = []; editable = true } in
    let c = Closed-in_flow Root (parts_of f) w in
    write-opened head tail f (length head + length (spelling f)) refl (Bared-in_flow Root (parts_of f) w c.nodes (Inlined-parts_of law_reads_back f h (all_utf8 f h u)) c.items)

pub cut : (page : List ℕ) (from to : ℕ) → from ≤ to → take from page ++ (slice page from to ++ drop to page) ≡ page
cut page from to le =
    let e : drop to page ≡ drop (to - from) (drop from page) = ap (λ n. drop n page) (omega (arith, le)) ∙ sym (drop-drop (to - from) from page) in
    ap (λ s. take from page ++ (slice page from to ++ s)) e
    ∙ ap (λ s. take from page ++ s) (take-append-drop (to - from) (drop from page))
    ∙ take-append-drop from page

written_forest : (page : List ℕ) (from to : ℕ) → from ≤ to → to ≤ length page → IsUtf8 (slice page from to) → (read : Option Forest) → forest_of (slice page from to) ≡ read →
    (o : Opened) → opened_forest page (record { from = from; to = to }) read ≡ Some o → write o o.items ≡ page
written_forest page from to le fits u None e o h = cc
written_forest page from to le fits u (Some f) e o h =
    let spells = law_reads_right (slice page from to) f e in
    let head : List ℕ = take from page in
    let tail : List ℕ = drop to page in
    let whole : head ++ (spelling f ++ tail) ≡ page = ap (λ s. head ++ (s ++ tail)) spells.0 ∙ cut page from to le in
    let at : length head ≡ from = length-take-le from page (omega (arith, le, fits)) in
    let long : length (slice page from to) ≡ to - from = length-take-le (to - from) (drop from page) (let d = length-drop from page in omega (arith, d, le, fits)) in
    let end : length head + length (spelling f) ≡ to = let l = ap length spells.0 in omega (arith, at, l, long, le) in
    let first : Opened = page_opened page (record { from = from; to = to }) (page_made from f) in
    let same : opened_as head f tail ≡ first = (λ i. page_opened (whole i) (record { from = at i; to = end i }) (page_made (at i) f)) in
    let is : first ≡ o = let s : ◌≡◌ {A = Option Opened} (Some first) (Some o) = h in ap (λ x. unwrap_or x first) s in
    ap (λ x. write x x.items) (sym is ∙ sym same) ∙ spelled_is_written_back head tail f spells.1 (subst IsUtf8 (sym spells.0) u) ∙ whole

written_body : (page : List ℕ) → IsUtf8 page → (read : Result (ℕ × ℕ) ScanFault) → body_at page ≡ read → (o : Opened) → opened_body page read ≡ Some o → write o o.items ≡ page
written_body page u (Err f) e o h = cc
written_body page u (Ok body) e o h =
    let p = law_body_inside page body.0 body.1 e in
    written_forest page body.0 body.1 p.0 p.1 (body_utf8 page body.0 body.1 u e) (forest_of (slice page body.0 body.1)) refl o h

pub opened_is_written_back : OpenedIsWrittenBack
opened_is_written_back page o u h = written_body page u (body_at page) refl o h
