-- The replies are the model's answers to the requests.
use Rattle.std.specs.Prelude.{◌≡◌, ℕ, if◌then◌else◌, length, Option, unwrap_or, Ok, Err}
use Rattle.model_edit.specs.declared.selection.Dir.{Dir}
use Rattle.model_site.specs.Session.{Session}
use Rattle.model_world.specs.declared.command.Request.TheVariants as request
use Rattle.model_world.specs.declared.reply.Reply.{Reply}
use Rattle.model_world.specs.Answers.{Asked, Outcome, request_outcome, site_items, replica_of}
use Rattle.model_world.specs.Laws.{is_refusal}
use Rattle.ve_answers.specs.Replies.{caret_reply, grid_reply, html_reply, items_reply, near_reply, node_reply, refs_reply, tree_reply}

-- the outcome of a reply that leaves the session as it is
abbrev pub outcome_of : Session → Reply → Outcome
outcome_of session answer = if is_refusal answer then Err answer else Ok (answer, session)

abbrev pub HtmlIsAsked : Type 0
HtmlIsAsked = (a : Asked) → request_outcome a request.Html ≡ outcome_of a.session (html_reply a.page (site_items a))

-- up to the list's end, where no end is named
abbrev pub ItemsAreAsked : Type 0
ItemsAreAsked = (a : Asked) (from : ℕ) (to : Option ℕ) →
    request_outcome a (request.ShowItems from to) ≡ outcome_of a.session (items_reply (site_items a) from (unwrap_or to (length (site_items a))))

abbrev pub TreeIsAsked : Type 0
TreeIsAsked = (a : Asked) → request_outcome a request.Tree ≡ outcome_of a.session (tree_reply (site_items a))

abbrev pub NodeIsAsked : Type 0
NodeIsAsked = (a : Asked) (at : ℕ) → request_outcome a (request.At at) ≡ outcome_of a.session (node_reply (site_items a) at)

abbrev pub NearIsAsked : Type 0
NearIsAsked = (a : Asked) (at : ℕ) (dir : Dir) → request_outcome a (request.Near at dir) ≡ outcome_of a.session (near_reply (site_items a) at dir)

abbrev pub RefsAreAsked : Type 0
RefsAreAsked = (a : Asked) → request_outcome a request.Refs ≡ outcome_of a.session (refs_reply (site_items a))

abbrev pub CaretIsAsked : Type 0
CaretIsAsked = (a : Asked) → request_outcome a request.Caret ≡ outcome_of a.session (caret_reply (replica_of a).selection)

abbrev pub GridIsAsked : Type 0
GridIsAsked = (a : Asked) (at : ℕ) → request_outcome a (request.Grid at) ≡ outcome_of a.session (grid_reply (site_items a) at)
