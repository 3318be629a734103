-- The rows of openings, and where a node closes.
use Rattle.std.proofs.Common.{◌≡◌, ℕ, zero, suc, ◌+◌, ◌<◌, Bool, true, List, [], ◌∷◌, ◌++◌, length, take, drop, slice_get, Option, Some, refl, sym, ap, ◌∙◌, arith}
use Rattle.ve_kinds.specs.declared.kind.Kind.{Kind}
use Rattle.ve_base.specs.declared.marks.Mark.{Mark}
use Rattle.ve_base.specs.declared.head.Head.{Head}
use Rattle.model_items.specs.declared.plain_item.PlainItem.{PlainItem}
use Rattle.model_items.specs.declared.plain_item.PlainItem.TheVariants.{Char, Opening, Closing}
use Rattle.model_items.specs.Tree.{length_to_close}
use Rattle.model_page.specs.Pieces.{SourceSpan}
use Rattle.model_page.specs.References.{inside_from}
use Rattle.model_page_law.proofs.LawfulLemmas.{opening_count}
use Rattle.ve_origin.specs.declared.origin.OriginRow.{OriginRow}
use Rattle.ve_origin.specs.Kept.{closes_last}
use Rattle.ve_reader.specs.ReadSoFar.{node_rows}

-- ---- parts of a list

pub take_past : {A : Type 0} (xs ys : List A) (n : ℕ) → take (length xs + n) (xs ++ ys) ≡ xs ++ take n ys
take_past [] ys n = let same : 0 + n ≡ n = omega arith in ap (λ m. take m ys) same
take_past (x ∷ xs) ys n = let same : suc (length xs) + n ≡ suc (length xs + n) = omega arith in ap (λ m. take m (x ∷ xs ++ ys)) same ∙ ap (λ zs. x ∷ zs) (take_past xs ys n)

pub drop_past : {A : Type 0} (xs ys : List A) (x : A) → drop (suc (length xs)) (xs ++ (x ∷ ys)) ≡ ys
drop_past [] ys x = refl
drop_past (y ∷ xs) ys x = drop_past xs ys x

-- ---- where a node closes

-- just past what is inside it, where its closing comes
pub close_is : (items : List PlainItem) (depth : ℕ) → length (inside_from depth items).0 < length items → length_to_close depth items ≡ suc (length (inside_from depth items).0)
close_is [] depth less = absurd (omega (arith, less))
close_is (Char c marks ∷ items) depth less = ap suc (close_is items depth (omega (arith, less)))
close_is (Opening kind head marks pre origin generated ∷ items) depth less = ap suc (close_is items (suc depth) (omega (arith, less)))
close_is (Closing kind pre ∷ items) zero less = refl
close_is (Closing kind pre ∷ items) (suc depth) less = ap suc (close_is items depth (omega (arith, less)))

pub closes_is : (inside after : List PlainItem) (kind : Kind) (white : List ℕ) (depth : ℕ) → (inside_from depth (inside ++ (Closing kind white ∷ after))).0 ≡ inside →
    closes_last depth (inside ++ (Closing kind white ∷ [])) ≡ true
closes_is [] after kind white zero e = refl
closes_is [] after kind white (suc depth) e = absurd (cc)
closes_is (Char c marks ∷ inside) after kind white depth e = closes_is inside after kind white depth (cc)
closes_is (Opening first head marks pre origin generated ∷ inside) after kind white depth e = closes_is inside after kind white (suc depth) (cc)
closes_is (Closing first pre ∷ inside) after kind white zero e = absurd (cc)
closes_is (Closing first pre ∷ inside) after kind white (suc depth) e = closes_is inside after kind white depth (cc)

-- ---- rows

-- The row of an opening: so many openings stand before it.
pub row_at : (before more : List PlainItem) (spans : List SourceSpan) (at : ℕ) (kind : Kind) (head : Head) (marks : List Mark) (pre : List ℕ) (origin : Option ℕ) (generated : Bool) (row : OriginRow) →
    opening_count before < length spans → slice_get (node_rows at (before ++ (Opening kind head marks pre origin generated ∷ more)) spans) (opening_count before) ≡ Some row →
    (row.from ≡ at + length before) × (row.to ≡ suc (row.from + length_to_close 0 more))
row_at [] more [] at kind head marks pre origin generated row less got = absurd (omega (arith, less))
row_at [] more (span ∷ spans) at kind head marks pre origin generated row less got =
    let first : OriginRow = record { span = record { from = span.from; to = span.to }; from = at; to = suc (at + length_to_close 0 more) } in
    let same : first ≡ row = cc in
    let from : at ≡ row.from = ap (λ (r : OriginRow). r.from) same in
    (omega (arith, from), sym (ap (λ (r : OriginRow). r.to) same) ∙ ap (λ n. suc (n + length_to_close 0 more)) from)
row_at (Char c others ∷ before) more spans at kind head marks pre origin generated row less got =
    let r = row_at before more spans (suc at) kind head marks pre origin generated row less got in (omega (arith, r.0), r.1)
row_at (Closing other white ∷ before) more spans at kind head marks pre origin generated row less got =
    let r = row_at before more spans (suc at) kind head marks pre origin generated row less got in (omega (arith, r.0), r.1)
row_at (Opening first first_head first_marks first_pre first_origin made ∷ before) more [] at kind head marks pre origin generated row less got = absurd (omega (arith, less))
row_at (Opening first first_head first_marks first_pre first_origin made ∷ before) more (span ∷ spans) at kind head marks pre origin generated row less got =
    let r = row_at before more spans (suc at) kind head marks pre origin generated row (omega (arith, less)) got in (omega (arith, r.0), r.1)
