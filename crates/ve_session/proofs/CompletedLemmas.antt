-- Requests with what they take from the page as it was first read.
use Rattle.std.proofs.Common.{◌≡◌, ℕ, true, List, [], ◌∷◌, map, refl}
use Rattle.model_items.specs.declared.plain_item.PlainItem.{PlainItem}
use Rattle.model_site.specs.Session.{Member, Session}
use Rattle.model_site_law.specs.ItemLaws.{AllPass}
use Rattle.model_site_law.specs.Sound.{Sound}
use Rattle.model_world.specs.declared.command.Request.{Request}
use Rattle.model_world.specs.declared.command.Request.TheVariants as request
use Rattle.model_world.specs.declared.edit_command.EditCommand.{EditCommand}
use Rattle.model_world.specs.Answers.{Asked, request_outcome}
use Rattle.model_world.specs.Completed.{completed}
use Rattle.model_world.specs.Cost.{cost_of_request}
use Rattle.model_world_law.specs.Fit.{AllRead, AllWritten, CompletedFit, RequestRead, RequestWritten}
use Rattle.model_world_law.specs.Standing.{may_stand}
use Rattle.ve_session.specs.Asked.{completed_request, cost_completed, is_shown, outcome_completed}

-- a request has the outcome of the completed one
pub outcomes_are : (a : Asked) (r : Request) → request_outcome a r ≡ outcome_completed a (completed_request a.page.items r)
outcomes_are a request.Html = refl
outcomes_are a request.Tree = refl
outcomes_are a request.Refs = refl
outcomes_are a request.Caret = refl
outcomes_are a request.Undo = refl
outcomes_are a request.Redo = refl
outcomes_are a request.Send = refl
outcomes_are a request.Serve = refl
outcomes_are a request.Take = refl
outcomes_are a request.Tell = refl
outcomes_are a (request.ShowItems from to) = refl
outcomes_are a (request.At at) = refl
outcomes_are a (request.Near at dir) = refl
outcomes_are a (request.Edit change) = refl
outcomes_are a (request.Batch cmds) = refl
outcomes_are a (request.Select anchor focus) = refl
outcomes_are a (request.Move dir by keep) = refl
outcomes_are a (request.TypeText text) = refl
outcomes_are a (request.Erase dir by) = refl
outcomes_are a (request.Grid at) = refl
outcomes_are a (request.RowIn at row) = refl
outcomes_are a (request.RowOut at row) = refl
outcomes_are a (request.ColIn at column) = refl
outcomes_are a (request.ColOut at column) = refl
outcomes_are a (request.Indent at) = refl
outcomes_are a (request.Outdent at) = refl
outcomes_are a (request.Revoke entry live) = refl

-- and its cost
pub costs_are_completed : (opened : List PlainItem) (w : Session) (m : Member) (r : Request) → cost_of_request opened w m r ≡ cost_completed w m (completed_request opened r)
costs_are_completed opened w m request.Html = refl
costs_are_completed opened w m request.Tree = refl
costs_are_completed opened w m request.Refs = refl
costs_are_completed opened w m request.Caret = refl
costs_are_completed opened w m request.Undo = refl
costs_are_completed opened w m request.Redo = refl
costs_are_completed opened w m request.Send = refl
costs_are_completed opened w m request.Serve = refl
costs_are_completed opened w m request.Take = refl
costs_are_completed opened w m request.Tell = refl
costs_are_completed opened w m (request.ShowItems from to) = refl
costs_are_completed opened w m (request.At at) = refl
costs_are_completed opened w m (request.Near at dir) = refl
costs_are_completed opened w m (request.Edit change) = refl
costs_are_completed opened w m (request.Batch cmds) = refl
costs_are_completed opened w m (request.Select anchor focus) = refl
costs_are_completed opened w m (request.Move dir by keep) = refl
costs_are_completed opened w m (request.TypeText text) = refl
costs_are_completed opened w m (request.Erase dir by) = refl
costs_are_completed opened w m (request.Grid at) = refl
costs_are_completed opened w m (request.RowIn at row) = refl
costs_are_completed opened w m (request.RowOut at row) = refl
costs_are_completed opened w m (request.ColIn at column) = refl
costs_are_completed opened w m (request.ColOut at column) = refl
costs_are_completed opened w m (request.Indent at) = refl
costs_are_completed opened w m (request.Outdent at) = refl
costs_are_completed opened w m (request.Revoke entry live) = refl

-- what changes nothing takes nothing from there
pub shown_same : (opened : List PlainItem) (r : Request) → is_shown r ≡ true → completed_request opened r ≡ r
shown_same opened request.Html is = refl
shown_same opened request.Tree is = refl
shown_same opened request.Refs is = refl
shown_same opened request.Caret is = refl
shown_same opened request.Undo is = refl
shown_same opened request.Redo is = refl
shown_same opened request.Send is = refl
shown_same opened request.Serve is = refl
shown_same opened request.Take is = refl
shown_same opened request.Tell is = refl
shown_same opened (request.ShowItems from to) is = refl
shown_same opened (request.At at) is = refl
shown_same opened (request.Near at dir) is = refl
shown_same opened (request.Edit change) is = cc
shown_same opened (request.Batch cmds) is = cc
shown_same opened (request.Select anchor focus) is = refl
shown_same opened (request.Move dir by keep) is = refl
shown_same opened (request.TypeText text) is = refl
shown_same opened (request.Erase dir by) is = refl
shown_same opened (request.Grid at) is = refl
shown_same opened (request.RowIn at row) is = refl
shown_same opened (request.RowOut at row) is = refl
shown_same opened (request.ColIn at column) is = refl
shown_same opened (request.ColOut at column) is = refl
shown_same opened (request.Indent at) is = refl
shown_same opened (request.Outdent at) is = refl
shown_same opened (request.Revoke entry live) is = refl

-- the same of what acts
pub acts_same : (opened : List PlainItem) (r : Request) → is_shown (completed_request opened r) ≡ is_shown r
acts_same opened request.Html = refl
acts_same opened request.Tree = refl
acts_same opened request.Refs = refl
acts_same opened request.Caret = refl
acts_same opened request.Undo = refl
acts_same opened request.Redo = refl
acts_same opened request.Send = refl
acts_same opened request.Serve = refl
acts_same opened request.Take = refl
acts_same opened request.Tell = refl
acts_same opened (request.ShowItems from to) = refl
acts_same opened (request.At at) = refl
acts_same opened (request.Near at dir) = refl
acts_same opened (request.Edit change) = refl
acts_same opened (request.Batch cmds) = refl
acts_same opened (request.Select anchor focus) = refl
acts_same opened (request.Move dir by keep) = refl
acts_same opened (request.TypeText text) = refl
acts_same opened (request.Erase dir by) = refl
acts_same opened (request.Grid at) = refl
acts_same opened (request.RowIn at row) = refl
acts_same opened (request.RowOut at row) = refl
acts_same opened (request.ColIn at column) = refl
acts_same opened (request.ColOut at column) = refl
acts_same opened (request.Indent at) = refl
acts_same opened (request.Outdent at) = refl
acts_same opened (request.Revoke entry live) = refl

-- ---- a completed request is well written

all_written : CompletedFit → (opened : List PlainItem) → Sound opened → AllPass may_stand opened → (cs : List EditCommand) → AllRead cs → AllWritten (map (completed opened) cs)
all_written law opened sound stand [] read = tt
all_written law opened sound stand (c ∷ cs) read = (law opened c sound stand read.0, all_written law opened sound stand cs read.1)

pub written_completed : CompletedFit → (opened : List PlainItem) → Sound opened → AllPass may_stand opened → (r : Request) → RequestRead r → RequestWritten (completed_request opened r)
written_completed law opened sound stand request.Html read = tt
written_completed law opened sound stand request.Tree read = tt
written_completed law opened sound stand request.Refs read = tt
written_completed law opened sound stand request.Caret read = tt
written_completed law opened sound stand request.Undo read = tt
written_completed law opened sound stand request.Redo read = tt
written_completed law opened sound stand request.Send read = tt
written_completed law opened sound stand request.Serve read = tt
written_completed law opened sound stand request.Take read = tt
written_completed law opened sound stand request.Tell read = tt
written_completed law opened sound stand (request.ShowItems from to) read = tt
written_completed law opened sound stand (request.At at) read = tt
written_completed law opened sound stand (request.Near at dir) read = tt
written_completed law opened sound stand (request.Edit change) read = law opened change sound stand read
written_completed law opened sound stand (request.Batch cmds) read = all_written law opened sound stand cmds read
written_completed law opened sound stand (request.Select anchor focus) read = tt
written_completed law opened sound stand (request.Move dir by keep) read = tt
written_completed law opened sound stand (request.TypeText text) read = read
written_completed law opened sound stand (request.Erase dir by) read = tt
written_completed law opened sound stand (request.Grid at) read = tt
written_completed law opened sound stand (request.RowIn at row) read = tt
written_completed law opened sound stand (request.RowOut at row) read = tt
written_completed law opened sound stand (request.ColIn at column) read = tt
written_completed law opened sound stand (request.ColOut at column) read = tt
written_completed law opened sound stand (request.Indent at) read = tt
written_completed law opened sound stand (request.Outdent at) read = tt
written_completed law opened sound stand (request.Revoke entry live) read = tt
