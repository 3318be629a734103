-- The first cell of which the answer is yes, and what a call answers by its causes.
use Rattle.std.proofs.Common.{◌≡◌, ℕ, Bool, true, false, List, [], ◌∷◌, ◌++◌, Option, Some, None, option_map, Result, Ok, inl, inr, refl, sym, ap, ◌∙◌, subst}
use Rattle.std.proofs.lemmas.Bool.{cases_Bool}
use Rattle.std.proofs.lemmas.List.Elements.{All-nil, All-cons}
use Rattle.model_edit.specs.declared.grid_cell.GridCell.{GridCell}
use Rattle.model_edit.specs.declared.table_fault.TableFault.{TableFault}
use Rattle.model_edit.specs.Causes.{TableCause, table_fault}
use Rattle.model_change.specs.Transaction.{Transaction}
use Rattle.model_edit.specs.Grid.{Grid}
use Rattle.model_edit.specs.Tables.{fault_or, first_fault, at_first, on_grid}
use Rattle.ve_tables.specs.CellQuestions.{refusal}
use Rattle.ve_tables.specs.PartWay.{AreNone}
use Rattle.ve_tables.specs.Refused.{IsTableRefusal}

pub first_yes : (test : GridCell → Bool) (cell : GridCell) (cells : List GridCell) (named : ℕ → TableCause) → test cell ≡ true → first_fault (at_first test (cell ∷ cells) named) ≡ Some (named cell.at)
first_yes test cell cells named h = ap (λ b. first_fault ((b, named cell.at) ∷ at_first test cells named)) h

pub first_no : (test : GridCell → Bool) (cell : GridCell) (cells : List GridCell) (named : ℕ → TableCause) → test cell ≡ false →
    first_fault (at_first test (cell ∷ cells) named) ≡ first_fault (at_first test cells named)
first_no test cell cells named h = ap (λ b. first_fault ((b, named cell.at) ∷ at_first test cells named)) h

-- no fault: the answer is no of all of them
pub none_asked : (test : GridCell → Bool) (cells : List GridCell) (named : ℕ → TableCause) → first_fault (at_first test cells named) ≡ None → AreNone test cells
none_asked test [] named h = All-nil (λ (c : GridCell). test c ≡ false)
none_asked test (cell ∷ cells) named h =
    elim (cases_Bool (test cell)) [
      | inl yes_ ↦ absurd (let e : Some (named cell.at) ≡ None = sym (first_yes test cell cells named yes_) ∙ h in cc)
      | inr no_ ↦ All-cons (λ (c : GridCell). test c ≡ false) cell cells no_ (none_asked test cells named (sym (first_no test cell cells named no_) ∙ h))
    ]

-- ---- what a call answers where the grid is there

module _ (r : Result Grid TableCause) (g : Grid) (causes : Grid → List (Bool × TableCause)) (t : Grid → Transaction) (is : r ≡ Ok g) where
  abbrev answers : Result Grid TableCause → Result Transaction TableCause
  answers r = on_grid r (λ (g : Grid). fault_or (first_fault (causes g)) (t g))

  pub refused_by : (fault : TableFault) → refusal (causes g) ≡ Some fault → IsTableRefusal (answers r) fault
  refused_by fault refused =
      subst (λ v. IsTableRefusal (answers v) fault) (sym is) (by (first_fault (causes g)) refl refused)
    where
      by : (o : Option TableCause) → first_fault (causes g) ≡ o → option_map table_fault o ≡ Some fault → IsTableRefusal (fault_or (first_fault (causes g)) (t g)) fault
      by None e h = absurd (cc)
      by (Some cause) e h = let same : table_fault cause ≡ fault = cc in inr (cause, ap (λ o. fault_or o (t g)) e, sym same)

  pub given_by : refusal (causes g) ≡ None → answers r ≡ Ok (t g)
  given_by none = ap answers is ∙ by (first_fault (causes g)) refl none
    where
      by : (o : Option TableCause) → first_fault (causes g) ≡ o → option_map table_fault o ≡ None → fault_or (first_fault (causes g)) (t g) ≡ Ok (t g)
      by None e h = ap (λ o. fault_or o (t g)) e
      by (Some cause) e h = absurd (cc)

-- and where there is none
pub grid_refuses : (r : Result Grid TableCause) (f : Grid → Result Transaction TableCause) (fault : TableFault) → IsTableRefusal r fault → IsTableRefusal (on_grid r f) fault
grid_refuses r f fault (inl memory) = inl memory
grid_refuses r f fault (inr cause) = inr (cause.0, ap (λ v. on_grid v f) cause.1, cause.2)

pub none_of_them : (causes : List (Bool × TableCause)) → refusal causes ≡ None → first_fault causes ≡ None
none_of_them causes h = by (first_fault causes) refl h
  where
    by : (o : Option TableCause) → first_fault causes ≡ o → option_map table_fault o ≡ None → first_fault causes ≡ None
    by None e h = e
    by (Some cause) e h = absurd (cc)

pub none_later : (b : Bool) (cause : TableCause) (causes : List (Bool × TableCause)) → first_fault ((b, cause) ∷ causes) ≡ None → first_fault causes ≡ None
none_later true cause causes h = absurd (cc)
none_later false cause causes h = h

pub none_first : (b : Bool) (cause : TableCause) (causes : List (Bool × TableCause)) → first_fault ((b, cause) ∷ causes) ≡ None → b ≡ false
none_first true cause causes h = absurd (cc)
none_first false cause causes h = refl

pub no_answer : (o : Option TableFault) → ((fault : TableFault) → o ≡ Some fault → ⊥) → o ≡ None
no_answer None h = refl
no_answer (Some fault) h = absurd (h fault refl)

pub none_after : (causes others : List (Bool × TableCause)) → first_fault (causes ++ others) ≡ None → first_fault others ≡ None
none_after [] others h = h
none_after ((true, cause) ∷ causes) others h = absurd (cc)
none_after ((false, cause) ∷ causes) others h = none_after causes others h
