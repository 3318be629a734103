-- A request in two sessions that have one site: one reply, and one member takes its place in both.
use Rattle.std.proofs.Common.{◌≡◌, ℕ, zero, suc, nat_lt, Bool, true, false, ◌||◌, if◌then◌else◌, List, [], ◌∷◌, ◌++◌, length, map, slice_get, Option, Some, None, Result, Ok, Err, unwrap_or, refl, sym, ap, ◌∙◌, subst}
use Rattle.model_change.specs.Transaction.{Transaction}
use Rattle.model_edit.specs.Causes.{TableCause}
use Rattle.model_edit.specs.Grid.{Grid, grid}
use Rattle.model_edit.specs.Lists.{indent, outdent}
use Rattle.model_edit.specs.Tables.{row_in, row_out, col_in, col_out}
use Rattle.model_edit.specs.Translate.{between}
use Rattle.model_edit.specs.declared.selection.Dir.{Dir}
use Rattle.model_edit.specs.declared.selection.Selection.{Selection}
use Rattle.model_page.specs.PageItems.{Opened}
use Rattle.model_site.specs.Live.{revocation}
use Rattle.model_site.specs.Session.{Member, Session, SiteFeed, put_member, site_after, take_first, with_member}
use Rattle.model_site.specs.Site.{Site, Submission, hinted_entries, redo, revoke_by, revoke_entry, send, undo, with_entry, with_selection, with_told}
use Rattle.model_site_law.proofs.CountLemmas.{length-put}
use Rattle.model_world.specs.declared.edit_command.EditCommand.TheVariants as change
use Rattle.model_world.specs.declared.command.Request.{Request}
use Rattle.model_world.specs.declared.command.Request.TheVariants as request
use Rattle.model_world.specs.declared.refusal.Refusal.{Refusal}
use Rattle.model_world.specs.declared.refusal.Refusal.TheVariants.{BadEntry, BadSite}
use Rattle.model_world.specs.declared.reply.Reply.{Reply}
use Rattle.model_world.specs.declared.reply.Reply.TheVariants.{No}
use Rattle.model_world.specs.Answers.{Asked, Outcome, after_text, batch_or_no, changed_or_no, content_near, edge_or, erased_or_no, grid_or_no, higher, is_no_end, items_shown_or_no, lower, moved_or_no, near_or_no, next_place, node_or_no, offset_told, performed_or_no, refusal_outcome, request_outcome, revoked_or_no, select_between, selection_outcome, sent_or_no, taken_or_no, to_erase, typed_or_no, typing, unchanged_outcome, with_site}
use Rattle.model_world.specs.Completed.{completed}
use Rattle.model_world.specs.Edits.{BatchRefusal, batch_on, change_on, checked_transaction}
use Rattle.model_world.specs.Refusals.{list_refusal, redo_refusal, refused_as, revoke_refusal, send_refusal, table_refusal, undo_refusal}
use Rattle.model_world_law.specs.AheadLaws.{is_serve, is_turn}

-- ---- members put in their places

abbrev pub Apart : ℕ → ℕ → Type 0
Apart j k = j ≡ k → ⊥

pub put_same : (k : ℕ) (m : Member) (ms : List Member) → slice_get ms k ≡ Some m → put_member k m ms ≡ ms
put_same k m [] e = refl
put_same zero m (n ∷ ms) e = let same : n ≡ m = cc in ap (λ (x : Member). x ∷ ms) (sym same)
put_same (suc k) m (n ∷ ms) e = ap (λ xs. n ∷ xs) (put_same k m ms e)

pub put_apart : (j k : ℕ) (m n : Member) (ms : List Member) → Apart j k → put_member k n (put_member j m ms) ≡ put_member j m (put_member k n ms)
put_apart j k m n [] d = refl
put_apart zero zero m n (x ∷ ms) d = absurd (d refl)
put_apart zero (suc k) m n (x ∷ ms) d = refl
put_apart (suc j) zero m n (x ∷ ms) d = refl
put_apart (suc j) (suc k) m n (x ∷ ms) d = ap (λ xs. x ∷ xs) (put_apart j k m n ms (λ e. d (ap suc e)))

pub get_apart : (j k : ℕ) (n : Member) (ms : List Member) → Apart j k → slice_get (put_member k n ms) j ≡ slice_get ms j
get_apart j k n [] d = refl
get_apart zero zero n (x ∷ ms) d = absurd (d refl)
get_apart zero (suc k) n (x ∷ ms) d = refl
get_apart (suc j) zero n (x ∷ ms) d = refl
get_apart (suc j) (suc k) n (x ∷ ms) d = get_apart j k n ms (λ e. d (ap suc e))

pub apart_turned : (j k : ℕ) → Apart j k → Apart k j
apart_turned j k d e = d (sym e)

-- ---- a request of a site that sends nothing to others

abbrev pub at_site : Opened → Session → ℕ → Member → Asked
at_site o w k m = record { page = o; session = w; k = k; member = m }

abbrev pub fed : List SiteFeed → Member → Member
fed feeds m = record m { feeds = feeds }

-- two sessions at which the member has one site, and maybe other feeds
module _ (o : Opened) (k : ℕ) (w v : Session) (m : Member) (feeds : List SiteFeed)
    (there : slice_get w.members k ≡ Some m) (there' : slice_get v.members k ≡ Some (fed feeds m)) where
  abbrev pub here : Asked
  here = at_site o w k m

  abbrev pub there_too : Asked
  there_too = at_site o v k (fed feeds m)

  -- one member takes its place in both
  pub record Moves (x y : Session) : Type 0 where
    pub after : Member
    pub waiting : after.feeds ≡ m.feeds
    pub left : x ≡ with_member k after w
    pub right : y ≡ with_member k (fed feeds after) v

  abbrev pub Alike : Outcome → Outcome → Type 0
  Alike (Ok r) (Ok s) = (r.0 ≡ s.0) × Moves r.1 s.1
  Alike (Err r) (Err s) = r ≡ s
  Alike _ _ = ⊥

  stays : (answer : Reply) → Alike (unchanged_outcome here answer) (unchanged_outcome there_too answer)
  stays answer = (
    refl,
    record {
      after = m;
      waiting = refl;
      left = ap (λ ms. record w { members = ms }) (sym (put_same k m w.members there));
      right = ap (λ ms. record v { members = ms }) (sym (put_same k (fed feeds m) v.members there'));
    },
  )

  with_one : (answer : Reply) (site : Site) → Alike (Ok (answer, with_site here site)) (Ok (answer, with_site there_too site))
  with_one answer site = (refl, record { after = record m { site = site }; waiting = refl; left = refl; right = refl })

  changed : (r : Result Site Refusal) → Alike (changed_or_no here r) (changed_or_no there_too r)
  changed (Err refusal) = refl
  changed (Ok site) = with_one _ site

  performed : (r : Result Transaction Refusal) → Alike (performed_or_no here r) (performed_or_no there_too r)
  performed (Err refusal) = refl
  performed (Ok t) = with_one _ (with_entry (t ∷ []) m.site)

  batched : (r : Result (List Transaction) BatchRefusal) → Alike (batch_or_no here r) (batch_or_no there_too r)
  batched (Err f) = refl
  batched (Ok ts) = with_one _ (with_entry ts m.site)

  typed : (r : Result (List Transaction) BatchRefusal) → Alike (typed_or_no here r) (typed_or_no there_too r)
  typed (Err f) = refl
  typed (Ok ts) = with_one _ (with_selection (between (after_text ts) (after_text ts)) (with_entry ts m.site))

  selected : (s : Selection) → Alike (selection_outcome here s) (selection_outcome there_too s)
  selected s = with_one _ (with_selection s m.site)

  either : (b : Bool) (x y x' y' : Outcome) → Alike x x' → Alike y y' → Alike (if b then x else y) (if b then x' else y')
  either true x y x' y' p q = p
  either false x y x' y' p q = q

  select_alike : (anchor focus : ℕ) → Alike (select_between here anchor focus) (select_between there_too anchor focus)
  select_alike anchor focus =
      either (is_no_end m.site.replica.items anchor) _ _ _ _ refl
      (either (is_no_end m.site.replica.items focus) _ _ _ _ refl (selected (between anchor focus)))

  moved : (keep : Bool) (r : Result ℕ Refusal) → Alike (moved_or_no here keep r) (moved_or_no there_too keep r)
  moved keep (Err refusal) = refl
  moved keep (Ok at) = selected (between (if keep then m.site.replica.selection.anchor else at) at)

  erased : (r : Result Selection Refusal) → Alike (erased_or_no here r) (erased_or_no there_too r)
  erased (Err refusal) = refl
  erased (Ok s) = performed (change_on m.site.replica (change.Remove (lower s) (higher s)))

  shown : (from to : ℕ) → Alike (items_shown_or_no here from to) (items_shown_or_no there_too from to)
  shown from to = either (nat_lt to from || nat_lt (length m.site.replica.items) to) _ _ _ _ refl (stays _)

  node : (at : ℕ) → Alike (node_or_no here at) (node_or_no there_too at)
  node at = either (nat_lt (length m.site.replica.items) at) _ _ _ _ refl (stays _)

  offset : (r : Result ℕ Refusal) → Alike (offset_told here r) (offset_told there_too r)
  offset (Err refusal) = refl
  offset (Ok at) = stays _

  near : (at : ℕ) (dir : Dir) → Alike (near_or_no here at dir) (near_or_no there_too at dir)
  near at dir = either (nat_lt (length m.site.replica.items) at) _ _ _ _ refl (offset (edge_or at (content_near m.site.replica.items at dir)))

  gridded : (r : Result Grid TableCause) → Alike (grid_or_no here r) (grid_or_no there_too r)
  gridded (Err fault) = refl
  gridded (Ok g) = stays _

  sent : (r : Result (Site × Submission) Refusal) → Alike (sent_or_no here r) (sent_or_no there_too r)
  sent (Err refusal) = refl
  sent (Ok r) = (
    refl,
    record { after = record { site = r.0; submissions = m.submissions ++ r.1 ∷ []; feeds = m.feeds }; waiting = refl; left = refl; right = refl },
  )

  -- both sessions have what the site knows
  module _ (knows : hinted_entries v.committed v.hints m.site ≡ hinted_entries w.committed w.hints m.site) where
    revoked : (i : ℕ) (live : Bool) → Alike (revoked_or_no here i live) (revoked_or_no there_too i live)
    revoked i live = by (nat_lt i m.site.seen)
      where
        by : (b : Bool) → Alike (elim b as (λ _. Outcome) [
          | false ↦ refusal_outcome (BadEntry i m.site.seen)
          | true ↦ changed_or_no here (refused_as (revoke_refusal i) (revoke_entry w.committed w.hints live i m.site))
        ]) (elim b as (λ _. Outcome) [
          | false ↦ refusal_outcome (BadEntry i m.site.seen)
          | true ↦ changed_or_no there_too (refused_as (revoke_refusal i) (revoke_entry v.committed v.hints live i m.site))
        ])
        by false = refl
        by true =
            subst (λ known. Alike (changed_or_no here (refused_as (revoke_refusal i) (revoke_entry w.committed w.hints live i m.site)))
            (changed_or_no there_too (refused_as (revoke_refusal i) (revoke_by i (revocation live known i) m.site)))) (sym knows)
            (changed (refused_as (revoke_refusal i) (revoke_entry w.committed w.hints live i m.site)))

    pub edit_alike : (r : Request) → is_turn r ≡ false → Alike (request_outcome here r) (request_outcome there_too r)
    edit_alike request.Html t = stays _
    edit_alike request.Tree t = stays _
    edit_alike request.Refs t = stays _
    edit_alike request.Caret t = stays _
    edit_alike request.Undo t = changed (refused_as undo_refusal (undo m.site))
    edit_alike request.Redo t = changed (refused_as redo_refusal (redo m.site))
    edit_alike request.Send t = sent (refused_as send_refusal (send m.site))
    edit_alike request.Serve t = cc
    edit_alike request.Take t = cc
    edit_alike request.Tell t = with_one _ (with_told m.site)
    edit_alike (request.ShowItems from to) t = shown from (unwrap_or to (length m.site.replica.items))
    edit_alike (request.At at) t = node at
    edit_alike (request.Near at dir) t = near at dir
    edit_alike (request.Edit c) t = performed (change_on m.site.replica (completed o.items c))
    edit_alike (request.Batch cmds) t = batched (batch_on m.site.replica (map (completed o.items) cmds))
    edit_alike (request.Select anchor focus) t = select_alike anchor focus
    edit_alike (request.Move dir by keep) t = moved keep (next_place m.site.replica.items m.site.replica.selection.focus dir by)
    edit_alike (request.TypeText text) t = typed (batch_on m.site.replica (typing m.site.replica.selection text))
    edit_alike (request.Erase dir by) t = erased (to_erase m.site.replica dir by)
    edit_alike (request.Grid at) t = gridded (grid m.site.replica.items at)
    edit_alike (request.RowIn at row) t = performed (checked_transaction m.site.replica (refused_as table_refusal (row_in m.site.replica.items at row)))
    edit_alike (request.RowOut at row) t = performed (checked_transaction m.site.replica (refused_as table_refusal (row_out m.site.replica.items at row)))
    edit_alike (request.ColIn at column) t = performed (checked_transaction m.site.replica (refused_as table_refusal (col_in m.site.replica.items at column)))
    edit_alike (request.ColOut at column) t = performed (checked_transaction m.site.replica (refused_as table_refusal (col_out m.site.replica.items at column)))
    edit_alike (request.Indent at) t = performed (checked_transaction m.site.replica (refused_as list_refusal (indent m.site.replica.items at)))
    edit_alike (request.Outdent at) t = performed (checked_transaction m.site.replica (refused_as list_refusal (outdent m.site.replica.items at)))
    edit_alike (request.Revoke entry live) t = revoked entry live

-- ---- a request as it is answered and what is left

abbrev pub done : Session → Outcome → Reply × Session
done w (Ok r) = r
done w (Err refused) = (refused, w)

abbrev pub outcome_of : Opened → Session → Request → ℕ → Option Member → Outcome
outcome_of o w r k None = refusal_outcome (BadSite (length w.members))
outcome_of o w r k (Some m) = request_outcome (at_site o w k m) r

abbrev pub act : Opened → Session → Request → ℕ → Reply × Session
act o w r k = done w (outcome_of o w r k (slice_get w.members k))

abbrev pub put_if : ℕ → Option Member → Session → Session
put_if k None w = w
put_if k (Some m) w = with_member k m w

-- one reply, and one member takes its place in both, or none
pub record Both (w v : Session) (k : ℕ) (x y : Outcome) : Type 0 where
  pub answer : (done v y).0 ≡ (done w x).0
  pub after : Option Member
  pub left : (done w x).1 ≡ put_if k after w
  pub right : (done v y).1 ≡ put_if k after v

pub from_alike : (o : Opened) (k : ℕ) (w v : Session) (m : Member) (there : slice_get w.members k ≡ Some m) (there' : slice_get v.members k ≡ Some m) (x y : Outcome) →
    Alike o k w v m m.feeds there there' x y → Both w v k x y
from_alike o k w v m there there' (Ok x) (Ok y) p =
    let same : fed m.feeds p.1.after ≡ p.1.after = ap (λ fs. fed fs p.1.after) (sym p.1.waiting) in
    record { answer = sym p.0; after = Some p.1.after; left = p.1.left; right = p.1.right ∙ ap (λ n. with_member k n v) same }
from_alike o k w v m there there' (Ok x) (Err y) p = absurd p
from_alike o k w v m there there' (Err x) (Ok y) p = absurd p
from_alike o k w v m there there' (Err x) (Err y) p = record { answer = sym p; after = None; left = refl; right = refl }

pub take_both : (o : Opened) (k : ℕ) (w v : Session) (m : Member) → Both w v k (request_outcome (at_site o w k m) request.Take) (request_outcome (at_site o v k m) request.Take)
take_both o k w v m = by m.feeds
  where
    by : (feeds : List SiteFeed) → Both w v k (taken_or_no (take_first k m feeds w)) (taken_or_no (take_first k m feeds v))
    by [] = record { answer = refl; after = None; left = refl; right = refl }
    by (f ∷ later) = record { answer = refl; after = Some (record m { site = site_after f m.site; feeds = later }); left = refl; right = refl }

pub is_take : (r : Request) → is_turn r ≡ true → is_serve r ≡ false → r ≡ request.Take
is_take request.Html t s = cc
is_take request.Tree t s = cc
is_take request.Refs t s = cc
is_take request.Caret t s = cc
is_take request.Undo t s = cc
is_take request.Redo t s = cc
is_take request.Send t s = cc
is_take request.Serve t s = cc
is_take request.Take t s = refl
is_take request.Tell t s = cc
is_take (request.ShowItems from to) t s = cc
is_take (request.At at) t s = cc
is_take (request.Near at dir) t s = cc
is_take (request.Edit c) t s = cc
is_take (request.Batch cmds) t s = cc
is_take (request.Select anchor focus) t s = cc
is_take (request.Move dir by keep) t s = cc
is_take (request.TypeText text) t s = cc
is_take (request.Erase dir by) t s = cc
is_take (request.Grid at) t s = cc
is_take (request.RowIn at row) t s = cc
is_take (request.RowOut at row) t s = cc
is_take (request.ColIn at column) t s = cc
is_take (request.ColOut at column) t s = cc
is_take (request.Indent at) t s = cc
is_take (request.Outdent at) t s = cc
is_take (request.Revoke entry live) t s = cc

pub edits_no_serve : (r : Request) → is_turn r ≡ false → is_serve r ≡ false
edits_no_serve request.Html t = refl
edits_no_serve request.Tree t = refl
edits_no_serve request.Refs t = refl
edits_no_serve request.Caret t = refl
edits_no_serve request.Undo t = refl
edits_no_serve request.Redo t = refl
edits_no_serve request.Send t = refl
edits_no_serve request.Serve t = cc
edits_no_serve request.Take t = refl
edits_no_serve request.Tell t = refl
edits_no_serve (request.ShowItems from to) t = refl
edits_no_serve (request.At at) t = refl
edits_no_serve (request.Near at dir) t = refl
edits_no_serve (request.Edit c) t = refl
edits_no_serve (request.Batch cmds) t = refl
edits_no_serve (request.Select anchor focus) t = refl
edits_no_serve (request.Move dir by keep) t = refl
edits_no_serve (request.TypeText text) t = refl
edits_no_serve (request.Erase dir by) t = refl
edits_no_serve (request.Grid at) t = refl
edits_no_serve (request.RowIn at row) t = refl
edits_no_serve (request.RowOut at row) t = refl
edits_no_serve (request.ColIn at column) t = refl
edits_no_serve (request.ColOut at column) t = refl
edits_no_serve (request.Indent at) t = refl
edits_no_serve (request.Outdent at) t = refl
edits_no_serve (request.Revoke entry live) t = refl

pub site_both : (o : Opened) (k : ℕ) (w v : Session) (m : Member) (r : Request) → slice_get w.members k ≡ Some m → slice_get v.members k ≡ Some m →
    hinted_entries v.committed v.hints m.site ≡ hinted_entries w.committed w.hints m.site → is_serve r ≡ false → Both w v k (request_outcome (at_site o w k m) r) (request_outcome (at_site o v k m) r)
site_both o k w v m r there there' knows s = by (is_turn r) refl
  where
    by : (b : Bool) → is_turn r ≡ b → Both w v k (request_outcome (at_site o w k m) r) (request_outcome (at_site o v k m) r)
    by false t = from_alike o k w v m there there' _ _ (edit_alike o k w v m m.feeds there there' knows r t)
    by true t = subst (λ r. Both w v k (request_outcome (at_site o w k m) r) (request_outcome (at_site o v k m) r)) (sym (is_take r t s)) (take_both o k w v m)

-- two sessions that have one member there, as many members, and the same committed entries
pub record Shares (w v : Session) (k : ℕ) : Type 0 where
  pub member : slice_get v.members k ≡ slice_get w.members k
  pub count : length v.members ≡ length w.members
  pub committed : v.committed ≡ w.committed
  pub hints : v.hints ≡ w.hints

abbrev pub ActsAlike : Opened → Session → Session → Request → ℕ → Type 0
ActsAlike o w v r k = Both w v k (outcome_of o w r k (slice_get w.members k)) (outcome_of o v r k (slice_get v.members k))

pub acts_alike : (o : Opened) (w v : Session) (r : Request) (k : ℕ) → Shares w v k → is_serve r ≡ false → ActsAlike o w v r k
acts_alike o w v r k shares s =
    subst (λ y. Both w v k (outcome_of o w r k (slice_get w.members k)) (outcome_of o v r k y)) (sym shares.member) (by (slice_get w.members k) refl)
  where
    by : (x : Option Member) → slice_get w.members k ≡ x → Both w v k (outcome_of o w r k x) (outcome_of o v r k x)
    by None e = record { answer = ap (λ n. No (BadSite n)) shares.count; after = None; left = refl; right = refl }
    by (Some m) e = site_both o k w v m r e (shares.member ∙ e) (λ i. hinted_entries (shares.committed i) (shares.hints i) m.site) s

pub shares_itself : (w : Session) (k : ℕ) → Shares w w k
shares_itself w k = record { member = refl; count = refl; committed = refl; hints = refl }

pub shares_put : (w : Session) (j k : ℕ) (after : Option Member) → Apart j k → Shares w (put_if k after w) j
shares_put w j k None d = shares_itself w j
shares_put w j k (Some n) d = record { member = get_apart j k n w.members d; count = length-put k n w.members; committed = refl; hints = refl }
