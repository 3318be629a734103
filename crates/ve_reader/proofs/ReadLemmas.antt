-- Items of a draft as they are read, and rows that end.
use Rattle.std.proofs.Common.{◌≡◌, ℕ, zero, suc, ◌<◌, ◌≤◌, Bool, false, List, [], ◌∷◌, ◌++◌, length, map, get_or, slice_set, refl, sym, ap, ◌∙◌, append-nil, true≢false, arith}
use Rattle.std.specs.Prelude.{Result, Ok, Err, OnOk, is_err}
use Rattle.ve_base.specs.declared.marks.Mark.{Mark}
use Rattle.model_items.specs.declared.plain_item.PlainItem.TheVariants.{Char}
use Rattle.model_page.specs.Heads.{characters}
use Rattle.model_page.specs.Pieces.{Owner, chars_piece}
use Rattle.model_page.specs.PageItems.{with_origins}
use Rattle.model_page.specs.Fragment.{item_unmade}
use Rattle.ve_origin.specs.declared.origin.OriginRow.{OriginRow}
use Rattle.ve_reader.specs.Drafted.{Drafted}
use Rattle.ve_reader.specs.Leaves.{text_items, with_items}
use Rattle.ve_reader.specs.declared.purpose.Purpose.{Purpose}
use Rattle.ve_reader.specs.declared.purpose.Purpose.TheVariants as purpose
use Rattle.ve_reader.specs.ReadSoFar.{ReadSoFar, items_here, node_rows, shown_rows, with_piece, row_ended}

-- ---- characters

with_origins-chars : (k : ℕ) (marks : List Mark) (text : List ℕ) → with_origins k (map (λ c. Char c marks) text) ≡ map (λ c. Char c marks) text
with_origins-chars k marks [] = refl
with_origins-chars k marks (c ∷ cs) = ap (λ xs. Char c marks ∷ xs) (with_origins-chars k marks cs)

unmade-chars : (marks : List Mark) (text : List ℕ) → map item_unmade (map (λ c. Char c marks) text) ≡ map (λ c. Char c marks) text
unmade-chars marks [] = refl
unmade-chars marks (c ∷ cs) = ap (λ xs. Char c marks ∷ xs) (unmade-chars marks cs)

shown-chars : (p : Purpose) (k : ℕ) (marks : List Mark) (text : List ℕ) → items_here p k (map (λ c. Char c marks) text) ≡ map (λ c. Char c marks) text
shown-chars purpose.Page k marks text = with_origins-chars k marks text
shown-chars purpose.Body k marks text = refl
shown-chars purpose.Fragment k marks text = unmade-chars marks text

node_rows-chars : (at : ℕ) (marks : List Mark) (text : List ℕ) → node_rows at (map (λ c. Char c marks) text) [] ≡ []
node_rows-chars at marks [] = refl
node_rows-chars at marks (c ∷ cs) = node_rows-chars (suc at) marks cs

rows-chars : (p : Purpose) (at : ℕ) (marks : List Mark) (text : List ℕ) → shown_rows p at (chars_piece marks text) ≡ []
rows-chars purpose.Page at marks text = node_rows-chars at marks text
rows-chars purpose.Body at marks text = refl
rows-chars purpose.Fragment at marks text = refl

-- what is read, with this draft
abbrev pub with_draft : Purpose → ℕ → List OriginRow → List Owner → Drafted → ReadSoFar
with_draft p depth rows owners d = record { purpose = p; depth = depth; items = d.items; marks = d.marks; rows = rows; owners = owners }

text_read : (r : ReadSoFar) (text : List ℕ) → record r { items = r.items ++ map (λ c. Char c r.marks) text } ≡ with_piece (chars_piece r.marks text) [] r
text_read r text =
    let items = ap (λ xs. r.items ++ xs) (sym (shown-chars r.purpose (length r.rows) r.marks text)) in
    let rows = sym (ap (λ xs. r.rows ++ xs) (rows-chars r.purpose (length r.items) r.marks text) ∙ append-nil r.rows) in
    let owners = sym (append-nil r.owners) in
    λ j. record { purpose = r.purpose; depth = r.depth; items = items j; marks = r.marks; rows = rows j; owners = owners j }

pub text_pushed : (p : Purpose) (depth : ℕ) (rows : List OriginRow) (owners : List Owner) (old new : Drafted) (spelled : List ℕ) (now : ReadSoFar)
    → new ≡ with_items (text_items old.marks spelled) old → with_draft p depth rows owners old ≡ now
    → with_draft p depth rows owners new ≡ with_piece (chars_piece now.marks (characters spelled)) [] now
text_pushed p depth rows owners old new spelled now e was =
    ap (with_draft p depth rows owners) e
    ∙ text_read (with_draft p depth rows owners old) (characters spelled)
    ∙ ap (λ (r : ReadSoFar). with_piece (chars_piece r.marks (characters spelled)) [] r) was

pub on_ok_of : {A E P : Type 0} (r : Result A E) (b : Bool) → b ≡ is_err r → b ≡ false → OnOk r P → P
on_ok_of (Ok x) b e f h = h
on_ok_of (Err x) b e f h = absurd (true≢false (sym e ∙ f))

-- ---- rows that end

pub row_set : (rows : List OriginRow) (k to : ℕ) (row : OriginRow) → k < length rows → row ≡ get_or rows k row
    → slice_set rows k (record { span = row.span; from = row.from; to = to }) ≡ row_ended k to rows
row_set [] k to row l e = absurd (omega (arith, l))
row_set (r ∷ rows) zero to row l e = ap (λ (x : OriginRow). record { span = x.span; from = x.from; to = to } ∷ rows) e
row_set (r ∷ rows) (suc k) to row l e = ap (λ rs. r ∷ rs) (row_set rows k to row (omega (arith, l)) e)

pub row_past : (rows : List OriginRow) (k to : ℕ) → length rows ≤ k → rows ≡ row_ended k to rows
row_past [] k to l = refl
row_past (r ∷ rows) zero to l = absurd (omega (arith, l))
row_past (r ∷ rows) (suc k) to l = ap (λ rs. r ∷ rs) (row_past rows k to (omega (arith, l)))
