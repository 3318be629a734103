-- The columns that a cell covers, marked one after the other.
use Rattle.std.proofs.Common.{◌≡◌, ◌⊎◌, inl, inr, ℕ, ◌+◌, ◌<◌, ◌≤◌, true, false, if◌then◌else◌, nat_lt, nat_le, List, length, set, get_or, refl, sym, ap, ◌∙◌, arith}
use Rattle.std.proofs.lemmas.Bool.{cases_Bool, cases_eq, and_parts, and_from, le-leb, leb-true, ltb-true, leb-false, ltb-false, true≢false}
use Rattle.std.proofs.lemmas.List.{length-set, get_or-set_same, get_or-set_other}
use Rattle.model_edit.specs.declared.grid_cell.GridCell.{GridCell}
use Rattle.model_edit.specs.Grid.{covers_column}

-- those before one are done
pub record AreDoneTo {A : Type 0} (d : A) (f : A → A) (cell : GridCell) (column : ℕ) (old new : List A) : Type 0 where
  pub long : length new ≡ length old
  pub low : cell.column ≤ column
  pub reach : column ≤ cell.column + cell.columns
  pub inside : (k : ℕ) → cell.column ≤ k → k < column → k < length old → get_or new k d ≡ f (get_or old k d)
  pub outside : (k : ℕ) → (k < cell.column) ⊎ (column ≤ k) → get_or new k d ≡ get_or old k d

pub done_first : {A : Type 0} (d : A) (f : A → A) (cell : GridCell) (old : List A) → AreDoneTo d f cell cell.column old old
done_first d f cell old = record { long = refl; low = omega arith; reach = omega arith; inside = λ k low high less. absurd (omega arith); outside = λ k h. refl }

pub done_next : {A : Type 0} (d : A) (f : A → A) (cell : GridCell) (column next : ℕ) (old mid new : List A) → AreDoneTo d f cell column old mid → covers_column cell column ≡ true → column < length mid →
    next ≡ column + 1 → new ≡ set mid column (f (get_or mid column d)) → AreDoneTo d f cell next old new
done_next {A = A} d f cell column next old mid new done covers less is written =
    let n = done.long in
    let low = done.low in
    let right = ltb-true column (cell.column + cell.columns) (and_parts (nat_le cell.column column) _ covers).1 in
    record {
      long = ap (λ (l : List A). length l) written ∙ length-set mid column (f (get_or mid column d)) ∙ done.long;
      low = omega arith;
      reach = omega arith;
      inside = λ k from to inside.
          elim (cases_eq k column) [
            | inl same ↦
                (let here : get_or new column d ≡ f (get_or mid column d) = ap (λ (l : List A). get_or l column d) written ∙ get_or-set_same mid column (f (get_or mid column d)) d less in
                let was = done.outside column (inr (omega arith)) in
                ap (λ i. get_or new i d) same ∙ here ∙ ap f was ∙ ap (λ i. f (get_or old i d)) (sym same))
            | inr other ↦
                ap (λ (l : List A). get_or l k d) written ∙ get_or-set_other mid column k (f (get_or mid column d)) d other ∙ done.inside k from (omega arith) inside
          ];
      outside = λ k h.
          let other : k ≡ column → ⊥ = λ same. apart k same h in
          ap (λ (l : List A). get_or l k d) written ∙ get_or-set_other mid column k (f (get_or mid column d)) d other ∙ done.outside k (nearer k h);
    }
  where
    apart : (k : ℕ) → k ≡ column → (k < cell.column) ⊎ (next ≤ k) → ⊥
    apart k same (inl l) = let low = done.low in omega arith
    apart k same (inr l) = omega arith

    nearer : (k : ℕ) → (k < cell.column) ⊎ (next ≤ k) → (k < cell.column) ⊎ (column ≤ k)
    nearer k (inl l) = inl l
    nearer k (inr l) = inr (omega arith)

-- all are done where the last column is reached, or one that the cell doesn't cover
pub done_all : {A : Type 0} (d : A) (f : A → A) (cell : GridCell) (column : ℕ) (old new : List A) → AreDoneTo d f cell column old new → (length old ≤ column) ⊎ (covers_column cell column ≡ false) →
    (k : ℕ) → k < length old → get_or new k d ≡ (if covers_column cell k then f (get_or old k d) else get_or old k d)
done_all d f cell column old new done last k less =
    elim (cases_Bool (covers_column cell k)) [
      | inl yes_ ↦
          (let p = and_parts (nat_le cell.column k) _ yes_ in
          let left = leb-true cell.column k p.0 in
          let right = ltb-true k (cell.column + cell.columns) p.1 in
          done.inside k left (before last right) less ∙ sym (ap (λ b. if b then f (get_or old k d) else get_or old k d) yes_))
      | inr no_ ↦ done.outside k (apart no_) ∙ sym (ap (λ b. if b then f (get_or old k d) else get_or old k d) no_)
    ]
  where
    before : (length old ≤ column) ⊎ (covers_column cell column ≡ false) → k < cell.column + cell.columns → k < column
    before (inl far) right = omega arith
    before (inr no_) right =
        elim (cases_Bool (nat_lt column (cell.column + cell.columns))) [
          | inl t ↦ absurd (let low = done.low in true≢false (sym (and_from (nat_le cell.column column) _ (le-leb cell.column column low) t) ∙ no_))
          | inr t ↦ (let l = ltb-false column (cell.column + cell.columns) t in omega arith)
        ]

    apart : covers_column cell k ≡ false → (k < cell.column) ⊎ (column ≤ k)
    apart no_ =
        elim (cases_Bool (nat_le cell.column k)) [
          | inr t ↦ inl (let l = leb-false cell.column k t in omega arith)
          | inl t ↦
              (let l = leb-true cell.column k t in
              let reach = done.reach in
              elim (cases_Bool (nat_lt k (cell.column + cell.columns))) [
                | inl s ↦ absurd (true≢false (sym (and_from (nat_le cell.column k) _ t s) ∙ no_))
                | inr s ↦ inr (let r = ltb-false k (cell.column + cell.columns) s in omega arith)
              ])
        ]
