-- Lines that name two sites: what each reads of the session, the other leaves as it is.
use Rattle.std.proofs.Common.{◌≡◌, ◌≤◌, ℕ, zero, suc, nat_lt, Bool, true, false, not, ◌&&◌, List, [], ◌∷◌, ◌++◌, length, take, slice_get, Option, Some, None, Ok, Err, refl, sym, ap, ◌∙◌, subst, arith}
use Rattle.std.specs.Prelude.{IfSome, option_map}
use Rattle.std.proofs.lemmas.Bool.{and_parts}
use Rattle.ve_base.specs.Limits.{max_line}
use Rattle.model_page.specs.PageItems.{Opened}
use Rattle.model_site.specs.Entries.{Parcel, parcels}
use Rattle.model_site.specs.Entries as entries
use Rattle.model_site.specs.Live.{hinted}
use Rattle.model_site.specs.Session.{Member, Session, SiteFeed, accepted_of, all_fed, feed_for, put_member, serve_first, serve_one, served_as, with_member}
use Rattle.model_site.specs.Site.{Submission, hinted_entries, pending}
use Rattle.model_site_law.proofs.CountLemmas.{length-put}
use Rattle.model_world.specs.declared.command.Request.{Request}
use Rattle.model_world.specs.declared.command.Request.TheVariants as request
use Rattle.model_world.specs.declared.command.Command.TheVariants.{Ask}
use Rattle.model_world.specs.declared.refusal.Refusal.TheVariants.{BadSite, LineTooLong, NotOpen, NothingQueued}
use Rattle.model_world.specs.declared.reply.Reply.{Reply}
use Rattle.model_world.specs.declared.reply.Reply.TheVariants.{No}
use Rattle.model_world.specs.declared.reply.Reply.TheVariants as reply
use Rattle.model_world.specs.Answers.{Outcome, ranges, request_outcome, served_or_no}
use Rattle.model_world.specs.Commands.{command}
use Rattle.model_world.specs.World.{Answer, Closed, Open, World, answer_of, answered_if, asked_of, on_page, reply, reply_and_next, world_after}
use Rattle.model_world_law.specs.AheadLaws.{EitherOrder, LinesOfTwoSitesSwap, is_serve, is_turn, may_swap}
use Rattle.model_world_law.specs.Reached.{IsReached, WorldReached}
use Rattle.model_world_law.proofs.ReachLemmas.{every_world_is_reached, site_holds}
use Rattle.model_world_law.proofs.AlikeLemmas.{ActsAlike, Alike, Apart, Shares, act, acts_alike, apart_turned, at_site, done, edit_alike, edits_no_serve, fed, get_apart, outcome_of, put_apart, put_if, shares_itself, shares_put}
use Rattle.model_world_law.proofs.ReadLemmas.{not_true}

-- ---- in either order

record Swaps (o : Opened) (w : Session) (r : Request) (j : ℕ) (q : Request) (k : ℕ) : Type 0 where
  first : (act o (act o w q k).1 r j).0 ≡ (act o w r j).0
  second : (act o (act o w r j).1 q k).0 ≡ (act o w q k).0
  session : (act o (act o w r j).1 q k).1 ≡ (act o (act o w q k).1 r j).1

turned : (o : Opened) (w : Session) (r : Request) (j : ℕ) (q : Request) (k : ℕ) → Swaps o w q k r j → Swaps o w r j q k
turned o w r j q k s = record { first = s.second; second = s.first; session = sym s.session }

put_if_apart : (w : Session) (j k : ℕ) (m n : Option Member) → Apart j k → put_if k n (put_if j m w) ≡ put_if j m (put_if k n w)
put_if_apart w j k None n d = refl
put_if_apart w j k (Some m) None d = refl
put_if_apart w j k (Some m) (Some n) d = ap (λ ms. record w { members = ms }) (put_apart j k m n w.members d)

-- where neither is the server's turn
sites_swap : (o : Opened) (w : Session) (r : Request) (j : ℕ) (q : Request) (k : ℕ) → Apart j k → is_serve r ≡ false → is_serve q ≡ false → Swaps o w r j q k
sites_swap o w r j q k d s t =
    let after_r = (act o w r j).1 in
    let after_q = (act o w q k).1 in
    let one = acts_alike o w w r j (shares_itself w j) s in
    let two = acts_alike o w w q k (shares_itself w k) t in
    let a = acts_alike o w after_q r j (subst (λ v. Shares w v j) (sym two.left) (shares_put w j k two.after d)) s in
    let b = acts_alike o w after_r q k (subst (λ v. Shares w v k) (sym one.left) (shares_put w k j one.after (apart_turned j k d))) t in
    record {
      first = a.answer;
      second = b.answer;
      session = b.right ∙ ap (put_if k b.after) a.left ∙ put_if_apart w j k a.after b.after d ∙ ap (put_if j a.after) (sym b.left) ∙ sym a.right;
    }

-- where one is refused, and the other leaves it refused
record Refuses (o : Opened) (w v : Session) (r : Request) (k : ℕ) : Type 0 where
  answer : Reply
  one : act o w r k ≡ (answer, w)
  other : act o v r k ≡ (answer, v)

refused_swap : (o : Opened) (w : Session) (r : Request) (j : ℕ) (q : Request) (k : ℕ) → Refuses o w (act o w q k).1 r j → Swaps o w r j q k
refused_swap o w r j q k f = record {
  first = ap (λ p. p.0) f.other ∙ sym (ap (λ p. p.0) f.one);
  second = ap (λ (p : Reply × Session). (act o p.1 q k).0) f.one;
  session = ap (λ (p : Reply × Session). (act o p.1 q k).1) f.one ∙ sym (ap (λ p. p.1) f.other);
}

-- ---- the server's turn

abbrev at_index : ℕ → ℕ → ℕ
at_index at zero = at
at_index at (suc j) = at_index (suc at) j

abbrev fed_by : (sender : ℕ) → List Parcel → (at : ℕ) → Member → Member
fed_by sender entries at m = record m { feeds = m.feeds ++ feed_for sender at entries }

get_fed : (sender at : ℕ) (entries : List Parcel) (ms : List Member) (j : ℕ) → slice_get (all_fed sender at entries ms) j ≡ option_map (fed_by sender entries (at_index at j)) (slice_get ms j)
get_fed sender at entries [] j = refl
get_fed sender at entries (m ∷ ms) zero = refl
get_fed sender at entries (m ∷ ms) (suc j) = get_fed sender (suc at) entries ms j

put_fed : (sender at : ℕ) (entries : List Parcel) (ms : List Member) (j : ℕ) (m : Member) →
    all_fed sender at entries (put_member j m ms) ≡ put_member j (fed_by sender entries (at_index at j) m) (all_fed sender at entries ms)
put_fed sender at entries [] j m = refl
put_fed sender at entries (n ∷ ms) zero m = refl
put_fed sender at entries (n ∷ ms) (suc j) m = ap (λ xs. fed_by sender entries at n ∷ xs) (put_fed sender (suc at) entries ms j m)

as_many_fed : (sender at : ℕ) (entries : List Parcel) (ms : List Member) → length (all_fed sender at entries ms) ≡ length ms
as_many_fed sender at entries [] = refl
as_many_fed sender at entries (m ∷ ms) = ap suc (as_many_fed sender (suc at) entries ms)

-- what a reached session has: each member has seen no more than is committed, and beside each
-- committed entry stands what it takes back
record IsKept (w : Session) : Type 0 where
  seen : (j : ℕ) (m : Member) → slice_get w.members j ≡ Some m → m.site.seen ≤ length w.committed
  beside : (j : ℕ) (m : Member) → slice_get w.members j ≡ Some m → length w.hints ≡ length w.committed

take_more : {A : Type 0} (n : ℕ) (xs ys : List A) → n ≤ length xs → take n (xs ++ ys) ≡ take n xs
take_more zero xs ys h = refl
take_more (suc n) [] ys h = absurd (omega arith)
take_more (suc n) (x ∷ xs) ys h = ap (λ zs. x ∷ zs) (take_more n xs ys (omega arith))

-- the server's turn at a queue that isn't empty
abbrev joined : Session → Submission → List Parcel
joined w s = (accepted_of w.committed s).kept

abbrev served : Session → ℕ → Member → Submission → List Submission → Session
served w k n s later = (serve_one k n s later w).0

abbrev told_served : Session → Submission → Reply
told_served w s = let turn = served_as (accepted_of w.committed s) s in reply.Served turn.accepted turn.total (ranges turn.clash)

serves : (o : Opened) (w : Session) (k : ℕ) (n : Member) (s : Submission) (later : List Submission) → slice_get w.members k ≡ Some n → n.submissions ≡ s ∷ later →
    act o w request.Serve k ≡ (told_served w s, served w k n s later)
serves o w k n s later there queued =
    ap (λ x. done w (outcome_of o w request.Serve k x)) there ∙ ap (λ q. done w (served_or_no (serve_first k n q w))) queued

refuses_serve : (o : Opened) (w v : Session) (k : ℕ) → Shares w v k → (x : Option Member) → slice_get w.members k ≡ x → IfSome x (λ n. n.submissions ≡ []) → Refuses o w v request.Serve k
refuses_serve o w v k shares None e none = record {
  answer = No (BadSite (length w.members));
  one = ap (λ x. done w (outcome_of o w request.Serve k x)) e;
  other = ap (λ x. done v (outcome_of o v request.Serve k x)) (shares.member ∙ e) ∙ ap (λ n. (No (BadSite n), v)) shares.count;
}
refuses_serve o w v k shares (Some n) e none = record {
  answer = No NothingQueued;
  one = ap (λ x. done w (outcome_of o w request.Serve k x)) e ∙ ap (λ q. done w (served_or_no (serve_first k n q w))) none;
  other = ap (λ x. done v (outcome_of o v request.Serve k x)) (shares.member ∙ e) ∙ ap (λ q. done v (served_or_no (serve_first k n q v))) none;
}

-- site k has a submission, and site j is another
module _ (o : Opened) (w : Session) (j k : ℕ) (r : Request) (apart : Apart j k) (kept : IsKept w) (edits : is_turn r ≡ false)
    (n : Member) (there : slice_get w.members k ≡ Some n) (s : Submission) (later : List Submission) (queued : n.submissions ≡ s ∷ later) where
  abbrev now : Member
  now = record n { submissions = later }

  abbrev after_serve : Session
  after_serve = served w k n s later

  abbrev fed_so : Member → Member
  fed_so m = fed_by k (joined w s) (at_index 0 j) m

  member_served : slice_get after_serve.members j ≡ option_map fed_so (slice_get w.members j)
  member_served = get_fed k 0 (joined w s) (put_member k now w.members) j ∙ ap (option_map fed_so) (get_apart j k now w.members apart)

  serve_is : act o w request.Serve k ≡ (told_served w s, after_serve)
  serve_is = serves o w k n s later there queued

  absent_swaps : slice_get w.members j ≡ None → Swaps o w r j request.Serve k
  absent_swaps e = refused_swap o w r j request.Serve k (subst (λ (p : Reply × Session). Refuses o w p.1 r j) (sym serve_is) (record {
    answer = No (BadSite (length w.members));
    one = ap (λ x. done w (outcome_of o w r j x)) e;
    other = ap (λ x. done after_serve (outcome_of o after_serve r j x)) (member_served ∙ ap (option_map fed_so) e)
        ∙ ap (λ c. (No (BadSite c), after_serve)) (as_many_fed k 0 (joined w s) (put_member k now w.members) ∙ length-put k now w.members);
  }))

  knows : (m : Member) → slice_get w.members j ≡ Some m → hinted_entries after_serve.committed after_serve.hints m.site ≡ hinted_entries w.committed w.hints m.site
  knows m e =
      let seen = kept.seen j m e in
      let committed = take_more m.site.seen w.committed (joined w s) seen in
      let hints = take_more m.site.seen w.hints (take (length (joined w s)) s.hints) (subst (λ c. m.site.seen ≤ c) (sym (kept.beside j m e)) seen) in
      λ i. hinted (committed i ++ parcels (pending m.site)) (hints i ++ entries.hints (pending m.site))

  one_list : (m after : Member) → after.feeds ≡ m.feeds → served (with_member j after w) k n s later ≡ with_member j (fed (fed_so m).feeds after) after_serve
  one_list m after waiting =
      ap (λ ms. record after_serve { members = ms })
      (ap (all_fed k 0 (joined w s)) (put_apart j k after now w.members apart)
      ∙ put_fed k 0 (joined w s) (put_member k now w.members) j after
      ∙ ap (λ (fs : List SiteFeed). put_member j (fed (fs ++ feed_for k (at_index 0 j) (joined w s)) after) after_serve.members) waiting)

  present_swaps : (m : Member) → slice_get w.members j ≡ Some m → Swaps o w r j request.Serve k
  present_swaps m e = by (request_outcome (at_site o w j m) r) (request_outcome (at_site o after_serve j (fed_so m)) r) refl refl
      (edit_alike o j w after_serve m (fed_so m).feeds e too (knows m e) r edits)
    where
      too : slice_get after_serve.members j ≡ Some (fed_so m)
      too = member_served ∙ ap (option_map fed_so) e

      by : (x y : Outcome) → request_outcome (at_site o w j m) r ≡ x → request_outcome (at_site o after_serve j (fed_so m)) r ≡ y →
          Alike o j w after_serve m (fed_so m).feeds e too x y → Swaps o w r j request.Serve k
      by (Ok x) (Err y) f g p = absurd p
      by (Err x) (Ok y) f g p = absurd p
      by (Err x) (Err y) f g p =
          refused_swap o w r j request.Serve k (subst (λ (p : Reply × Session). Refuses o w p.1 r j) (sym serve_is) (record {
            answer = x;
            one = ap (λ z. done w (outcome_of o w r j z)) e ∙ ap (done w) f;
            other = ap (λ z. done after_serve (outcome_of o after_serve r j z)) too ∙ ap (done after_serve) g ∙ ap (λ z. (z, after_serve)) (sym p);
          }))
      by (Ok x) (Ok y) f g p =
          let before : act o w r j ≡ x = ap (λ z. done w (outcome_of o w r j z)) e ∙ ap (done w) f in
          let behind : act o after_serve r j ≡ y = ap (λ z. done after_serve (outcome_of o after_serve r j z)) too ∙ ap (done after_serve) g in
          let moves = p.1 in
          let moved_on = with_member j moves.after w in
          let last : act o moved_on request.Serve k ≡ (told_served w s, served moved_on k n s later) =
          serves o moved_on k n s later (get_apart k j moves.after w.members (apart_turned j k apart) ∙ there) queued in
          let from : act o (act o w r j).1 request.Serve k ≡ (told_served w s, served moved_on k n s later) =
          ap (λ (q : Reply × Session). act o q.1 request.Serve k) before ∙ ap (λ v. act o v request.Serve k) moves.left ∙ last in
          let until : act o (act o w request.Serve k).1 r j ≡ y = ap (λ (q : Reply × Session). act o q.1 r j) serve_is ∙ behind in
          record {
            first = ap (λ q. q.0) until ∙ sym p.0 ∙ sym (ap (λ q. q.0) before);
            second = ap (λ q. q.0) from ∙ sym (ap (λ q. q.0) serve_is);
            session = ap (λ q. q.1) from ∙ one_list m moves.after moves.waiting ∙ sym moves.right ∙ sym (ap (λ q. q.1) until);
          }

  queued_swaps : Swaps o w r j request.Serve k
  queued_swaps = by (slice_get w.members j) refl
    where
      by : (x : Option Member) → slice_get w.members j ≡ x → Swaps o w r j request.Serve k
      by None e = absent_swaps e
      by (Some m) e = present_swaps m e

serve_swaps : (o : Opened) (w : Session) (r : Request) (j k : ℕ) → Apart j k → IsKept w → is_turn r ≡ false → Swaps o w r j request.Serve k
serve_swaps o w r j k d kept edits = by (slice_get w.members k) refl
  where
    one : ActsAlike o w w r j
    one = acts_alike o w w r j (shares_itself w j) (edits_no_serve r edits)

    refused : (x : Option Member) → slice_get w.members k ≡ x → IfSome x (λ n. n.submissions ≡ []) → Swaps o w r j request.Serve k
    refused x e none =
        turned o w r j request.Serve k (refused_swap o w request.Serve k r j
        (refuses_serve o w (act o w r j).1 k (subst (λ v. Shares w v k) (sym one.left) (shares_put w k j one.after (apart_turned j k d))) x e none))

    of_queue : (n : Member) → slice_get w.members k ≡ Some n → (q : List Submission) → n.submissions ≡ q → Swaps o w r j request.Serve k
    of_queue n e [] none = refused (Some n) e none
    of_queue n e (s ∷ later) queued = queued_swaps o w j k r d kept edits n e s later queued

    by : (x : Option Member) → slice_get w.members k ≡ x → Swaps o w r j request.Serve k
    by None e = refused None e tt
    by (Some n) e = of_queue n e n.submissions refl

is_the_serve : (r : Request) → is_serve r ≡ true → r ≡ request.Serve
is_the_serve request.Html s = cc
is_the_serve request.Tree s = cc
is_the_serve request.Refs s = cc
is_the_serve request.Caret s = cc
is_the_serve request.Undo s = cc
is_the_serve request.Redo s = cc
is_the_serve request.Send s = cc
is_the_serve request.Serve s = refl
is_the_serve request.Take s = cc
is_the_serve request.Tell s = cc
is_the_serve (request.ShowItems from to) s = cc
is_the_serve (request.At at) s = cc
is_the_serve (request.Near at dir) s = cc
is_the_serve (request.Edit c) s = cc
is_the_serve (request.Batch cmds) s = cc
is_the_serve (request.Select anchor focus) s = cc
is_the_serve (request.Move dir by keep) s = cc
is_the_serve (request.TypeText text) s = cc
is_the_serve (request.Erase dir by) s = cc
is_the_serve (request.Grid at) s = cc
is_the_serve (request.RowIn at row) s = cc
is_the_serve (request.RowOut at row) s = cc
is_the_serve (request.ColIn at column) s = cc
is_the_serve (request.ColOut at column) s = cc
is_the_serve (request.Indent at) s = cc
is_the_serve (request.Outdent at) s = cc
is_the_serve (request.Revoke entry live) s = cc

no_turn : (a b : Bool) → b ≡ true → (a && b) ≡ false → a ≡ false
no_turn true b e f = sym e ∙ f
no_turn false b e f = refl

no_turn_either : (a b : Bool) → a ≡ true → (a && b) ≡ false → b ≡ false
no_turn_either true b e f = f
no_turn_either false b e f = cc

-- ---- all requests

all_swap : (o : Opened) (w : Session) (r : Request) (j : ℕ) (q : Request) (k : ℕ) → Apart j k → IsKept w → may_swap r q ≡ true → Swaps o w r j q k
all_swap o w r j q k d kept may = by (is_serve r) (is_serve q) refl refl
  where
    parts : ((is_serve r && is_turn q) ≡ false) × ((is_turn r && is_serve q) ≡ false)
    parts = let p = and_parts (not (is_serve r && is_turn q)) (not (is_turn r && is_serve q)) may in (not_true _ p.0, not_true _ p.1)

    by : (b c : Bool) → is_serve r ≡ b → is_serve q ≡ c → Swaps o w r j q k
    by false false e f = sites_swap o w r j q k d e f
    by false true e f =
        let edits : is_turn r ≡ false = no_turn (is_turn r) (is_serve q) f parts.1 in
        subst (λ q. Swaps o w r j q k) (sym (is_the_serve q f)) (serve_swaps o w r j k d kept edits)
    by true c e f =
        let edits : is_turn q ≡ false = no_turn_either (is_serve r) (is_turn q) e parts.0 in
        subst (λ r. Swaps o w r j q k) (sym (is_the_serve r e)) (turned o w request.Serve j q k (serve_swaps o w q k j (apart_turned j k d) kept edits))

-- ---- lines

abbrev as_open : Opened → Reply × Session → Reply × World
as_open o p = (p.0, Open o p.1)

abbrev Refused : List ℕ → World → Type 0
Refused line w = (answer : Reply) × (reply w line ≡ (answer, w))

too_long : (line : List ℕ) → nat_lt max_line (length line) ≡ true → (w : World) → reply w line ≡ (No (LineTooLong (length line)), w)
too_long line long w = ap (λ b. reply_and_next w (elim b as (λ _. Answer) [
  | true ↦ Err (No (LineTooLong (length line)))
  | false ↦ answered_if w (command line)
])) long

short : (line : List ℕ) (r : Request) (k : ℕ) → nat_lt max_line (length line) ≡ false → command line ≡ Ok (Ask r k) → (w : World) → reply w line ≡ reply_and_next w (answer_of w (Ask r k))
short line r k fits c w =
    ap (λ b. reply_and_next w (elim b as (λ _. Answer) [
      | true ↦ Err (No (LineTooLong (length line)))
      | false ↦ answered_if w (command line)
    ])) fits
    ∙ ap (λ x. reply_and_next w (answered_if w x)) c

open_acts : (o : Opened) (w : Session) (r : Request) (k : ℕ) → reply_and_next (Open o w) (answer_of (Open o w) (Ask r k)) ≡ as_open o (act o w r k)
open_acts o w r k = by (slice_get w.members k)
  where
    of_outcome : (x : Outcome) → reply_and_next (Open o w) (on_page o x) ≡ as_open o (done w x)
    of_outcome (Ok x) = refl
    of_outcome (Err x) = refl

    by : (x : Option Member) → reply_and_next (Open o w) (asked_of o w r k x) ≡ as_open o (done w (outcome_of o w r k x))
    by None = refl
    by (Some m) = of_outcome (request_outcome (at_site o w k m) r)

-- a line that is refused whatever the world
refused_first : (w : World) (line other : List ℕ) (answer : Reply) → ((v : World) → reply v line ≡ (answer, v)) → EitherOrder w line other
refused_first w line other answer f = record {
  first = ap (λ p. p.0) (f (reply w other).1) ∙ sym (ap (λ p. p.0) (f w));
  second = ap (λ (p : Reply × World). (reply p.1 other).0) (f w);
  world = ap (λ (p : Reply × World). (reply p.1 other).1) (f w) ∙ sym (ap (λ p. p.1) (f (reply w other).1));
}

other_way : (w : World) (line other : List ℕ) → EitherOrder w other line → EitherOrder w line other
other_way w line other e = record { first = e.second; second = e.first; world = sym e.world }

-- without a page both are refused
closed_swaps : (line other : List ℕ) → reply Closed line ≡ (No NotOpen, Closed) → reply Closed other ≡ (No NotOpen, Closed) → EitherOrder Closed line other
closed_swaps line other f g = record {
  first = ap (λ (p : Reply × World). (reply p.1 line).0) g;
  second = ap (λ (p : Reply × World). (reply p.1 other).0) f;
  world = ap (λ (p : Reply × World). (reply p.1 other).1) f ∙ ap (λ p. p.1) g ∙ sym (ap (λ (p : Reply × World). (reply p.1 line).1) g ∙ ap (λ p. p.1) f);
}

open_swaps : (o : Opened) (w : Session) (line other : List ℕ) (r q : Request) (j k : ℕ) → ((v : World) → reply v line ≡ reply_and_next v (answer_of v (Ask r j))) →
    ((v : World) → reply v other ≡ reply_and_next v (answer_of v (Ask q k))) → Swaps o w r j q k → EitherOrder (Open o w) line other
open_swaps o w line other r q j k is_r is_q s =
    let f : (v : Session) → reply (Open o v) line ≡ as_open o (act o v r j) = λ v. is_r (Open o v) ∙ open_acts o v r j in
    let g : (v : Session) → reply (Open o v) other ≡ as_open o (act o v q k) = λ v. is_q (Open o v) ∙ open_acts o v q k in
    let r_then_q : reply (reply (Open o w) line).1 other ≡ as_open o (act o (act o w r j).1 q k) = ap (λ (p : Reply × World). reply p.1 other) (f w) ∙ g (act o w r j).1 in
    let q_then_r : reply (reply (Open o w) other).1 line ≡ as_open o (act o (act o w q k).1 r j) = ap (λ (p : Reply × World). reply p.1 line) (g w) ∙ f (act o w q k).1 in
    record {
      first = ap (λ p. p.0) q_then_r ∙ s.first ∙ sym (ap (λ p. p.0) (f w));
      second = ap (λ p. p.0) r_then_q ∙ s.second ∙ sym (ap (λ p. p.0) (g w));
      world = ap (λ p. p.1) r_then_q ∙ ap (Open o) s.session ∙ sym (ap (λ p. p.1) q_then_r);
    }

reached_is_kept : (lines : List (List ℕ)) (o : Opened) (w : Session) → IsReached lines o w → IsKept w
reached_is_kept lines o w r = record { seen = λ j m e. (site_holds lines o w j m r e).seen; beside = λ j m e. (site_holds lines o w j m r e).beside.committed }

world_swaps : (lines : List (List ℕ)) (w : World) → WorldReached lines w → (line other : List ℕ) (r q : Request) (j k : ℕ) → command line ≡ Ok (Ask r j) → command other ≡ Ok (Ask q k) →
    nat_lt max_line (length line) ≡ false → nat_lt max_line (length other) ≡ false → Apart j k → may_swap r q ≡ true → EitherOrder w line other
world_swaps lines Closed reached line other r q j k c d e f apart may = closed_swaps line other (short line r j e c Closed) (short other q k f d Closed)
world_swaps lines (Open o w) reached line other r q j k c d e f apart may =
    open_swaps o w line other r q j k (short line r j e c) (short other q k f d) (all_swap o w r j q k apart (reached_is_kept lines o w reached) may)

pub lines_of_two_sites_swap : LinesOfTwoSitesSwap
lines_of_two_sites_swap lines line other r q j k c d apart may = by (nat_lt max_line (length line)) (nat_lt max_line (length other)) refl refl
  where
    w : World
    w = world_after Closed lines

    by : (a b : Bool) → nat_lt max_line (length line) ≡ a → nat_lt max_line (length other) ≡ b → EitherOrder w line other
    by true b e f = refused_first w line other (No (LineTooLong (length line))) (too_long line e)
    by false true e f = other_way w line other (refused_first w other line (No (LineTooLong (length other))) (too_long other f))
    by false false e f = world_swaps lines w (every_world_is_reached lines) line other r q j k c d e f apart may
