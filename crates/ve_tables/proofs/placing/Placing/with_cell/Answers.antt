use Rattle.std.proofs.Common.{◌≡◌, ◌≤◌, ◌<◌, ◌+◌, ◌++◌, ◌^◌, [], ◌∷◌, ℕ, List, Result, Ok, Option, Some, None, inr, refl, sym, ap, ◌∙◌, subst, arith}
use Rattle.ve_base.specs.declared.error.Memory.{Memory}
use Rattle.model_edit.specs.declared.table_fault.TableFault.TheVariants.{Crooked}
use Rattle.ve_tables.specs.Placed.{Placed, next_cell, with_next, IsNext, IsCellRefusal}
use Rattle.ve_tables.specs.Floors.{IsCovering, IsInTheWay, IsPlacing}
use Rattle.ve_tables.proofs.PlacingLemmas.{placing, next_is, next_crooked, next_stands, cell_at, placed_more}
use Rattle.ve_tables.proofs.placing.Placing.with_cell.Goals as goal

none_of : (o : Option ℕ) → ((x : ℕ) → o ≡ Some x → ⊥) → o ≡ None
none_of None h = refl
none_of (Some x) h = absurd (h x refl)

pub returns-in_default-found-clause-refused : goal.returns-in_default-found-clause-refused
returns-in_default-found-clause-refused c =
    let p : Placed = record { cells = c.self.inside.cells; row = c.self.inside.row; left = c.self.inside.left; end = c.self.inside.end } in
    let old = c.self.inside.floors in
    let none = none_of c.in-Ok.found c.in_default-found.not-Some in
    let way : IsInTheWay p.row old c.args.columns = c.in-Ok.ensures.in_the_way (ap Ok none) in
    let crooked = next_crooked p old way.at way.column c.self.invariant way.found c.args.at c.args.rows c.args.columns c.requires.rows way.taken in
    subst (λ (q : Placed). IsCellRefusal q (next_cell q c.args.at c.args.rows c.args.columns) (Crooked c.args.at)) c.self.view_is (inr (crooked, refl))

pub overflow_add-result : goal.overflow_add-result
overflow_add-result c =
    let covering = c.in-Ok.ensures.covering c.in-Some.column (ap Ok c.in-Some.is) in
    omega (arith, covering.fits)

pub returns-in-Ok-push-clause-ok : goal.returns-in-Ok-push-clause-ok
returns-in-Ok-push-clause-ok c =
    let p : Placed = record { cells = c.self.inside.cells; row = c.self.inside.row; left = c.self.inside.left; end = c.self.inside.end } in
    let old = c.self.inside.floors in
    let column = c.in-Some.column in
    let covering : IsCovering p.row old column c.args.columns (p.row + c.args.rows) c.cover.new.floors = c.in-Ok.ensures.covering column (ap Ok c.in-Some.is) in
    let stands = next_stands p old covering.at column c.self.invariant covering.found c.args.at c.args.rows c.args.columns c.requires.columns (omega (arith, c.if-self-rows.false)) (covering.taken).free in
    let is = next_is p old covering.at column c.self.invariant covering.found c.args.at c.args.rows c.args.columns in
    let new : Placed = record { cells = c.push.new.self; row = p.row; left = p.left; end = column + c.args.columns } in
    let next : IsNext p (next_cell p c.args.at c.args.rows c.args.columns) new = record {
      stands = stands;
      placed = subst (λ one. new ≡ with_next p one) (sym is) (ap (λ (cells : List _). record { cells = cells; row = p.row; left = p.left; end = column + c.args.columns }) c.in-Ok-push.ensures.ok);
    } in
    subst (λ (q : Placed). IsNext q (next_cell q c.args.at c.args.rows c.args.columns) new) c.self.view_is next

pub invariant_of-result : goal.invariant_of-result
invariant_of-result c =
    let p : Placed = record { cells = c.self.inside.cells; row = c.self.inside.row; left = c.self.inside.left; end = c.self.inside.end } in
    let old = c.self.inside.floors in
    let column = c.in-Some.column in
    let covering : IsCovering p.row old column c.args.columns (p.row + c.args.rows) c.cover.new.floors = c.in-Ok.ensures.covering column (ap Ok c.in-Some.is) in
    let found = covering.found in
    let one = cell_at p c.args.at column c.args.rows c.args.columns in
    subst (λ cells. IsPlacing cells p.row (column + c.args.columns) c.cover.new.floors) (sym c.in-Ok-push.ensures.ok)
    (placed_more p.cells one p.end covering.at c.cover.new.floors (placing p old covering.at column c.self.invariant found) found.below found.first c.requires.columns c.requires.rows covering.taken covering.apart)
