use Rattle.std.proofs.Common.{◌≡◌, ℕ, inr, true, List, Result, Ok, Err, slice_get, IfErr, refl, sym, ◌∙◌}
use Rattle.ve_kinds.specs.declared.kind.Kind.TheVariants.{Table}
use Rattle.model_items.specs.declared.plain_item.PlainItem.{PlainItem}
use Rattle.model_items.specs.Offsets.{passes}
use Rattle.model_edit.specs.Brackets.{is_opening_of}
use Rattle.model_edit.specs.Causes.{NotTable}
use Rattle.model_edit.specs.declared.table_fault.TableFault.{TableFault}
use Rattle.model_edit.specs.declared.table_fault.TableFault.TheVariants as fault
use Rattle.ve_offsets.specs.Docs.{page_items}
use Rattle.ve_tables.proofs.RowLemmas.{no_table}
use Rattle.ve_tables.proofs.table.laid_table.Goals as goal

pub returns-then-not-opens_table-clause-refused : goal.returns-then-not-opens_table-clause-refused
returns-then-not-opens_table-clause-refused c =
    inr (NotTable c.args.at, no_table (page_items c.args.doc) c.args.at (sym c.opens_table.ensures ∙ c.if-not-opens_table.true), refl)

not_memory : (at : ℕ) → fault.NotTable at ≡ fault.Memory → ⊥
not_memory at e = cc

pub returns-then-not-opens_table-clause-memory : goal.returns-then-not-opens_table-clause-memory
returns-then-not-opens_table-clause-memory c = λ e. absurd (not_memory c.args.at e)

pub returns-in_default-clause-memory : goal.returns-in_default-clause-memory
returns-in_default-clause-memory c = λ _. sym c.opens_table.ensures ∙ c.if-not-opens_table.false

if_opened : {A : Type 0} (r : Result A TableFault) (items : List PlainItem) (at : ℕ) → passes (is_opening_of Table) (slice_get items at) ≡ true →
    IfErr r (λ why. why ≡ fault.Memory → passes (is_opening_of Table) (slice_get items at) ≡ true)
if_opened (Ok x) items at opens = tt
if_opened (Err why) items at opens = λ _. opens

pub returns-in_err-placing-clause-memory : goal.returns-in_err-placing-clause-memory
returns-in_err-placing-clause-memory c = if_opened c.from_residual.result (page_items c.args.doc) c.args.at (sym c.opens_table.ensures ∙ c.if-not-opens_table.false)

pub returns-clause-opens : goal.returns-clause-opens
returns-clause-opens c = sym c.opens_table.ensures ∙ c.if-not-opens_table.false
