-- Lines by which a site undoes and redoes are turns of it, so the law over events serves.
use Rattle.std.proofs.Common.{◌≡◌, inl, inr, ℕ, nat_lt, Bool, true, false, List, [], ◌∷◌, ◌++◌, length, slice_get, Option, Some, None, Result, Ok, Err, refl, sym, ap, ◌∙◌, subst}
use Rattle.std.specs.List.{AllByRecursion}
use Rattle.ve_base.specs.Limits.{max_line}
use Rattle.model_page.specs.PageItems.{Opened}
use Rattle.model_site.specs.Causes.{RedoCause, UndoCause}
use Rattle.model_site.specs.Events.{Redo, Undo, at_member, run, with_site_of}
use Rattle.model_site.specs.Session.{Member, Session}
use Rattle.model_site.specs.Site.{Site, redo, undo}
use Rattle.model_site_law.specs.Laws.{turns}
use Rattle.model_site_law.proofs.RedoLemmas.{redone_is_as_before}
use Rattle.model_world.specs.declared.command.Request.TheVariants as request
use Rattle.model_world.specs.declared.refusal.Refusal.TheVariants.{LineTooLong}
use Rattle.model_world.specs.declared.reply.Reply.TheVariants.{No}
use Rattle.model_world.specs.Answers.{changed_or_no}
use Rattle.model_world.specs.Commands.{command}
use Rattle.model_world.specs.Refusals.{redo_refusal, refused_as, undo_refusal}
use Rattle.model_world.specs.World.{Answer, Closed, Open, World, answered_if, asked_of, on_page, reply, reply_and_next, world_after}
use Rattle.model_world_law.specs.Reached.{IsReached, WorldReached}
use Rattle.model_world_law.specs.Redone.{AsksTurn, LinesRedo}
use Rattle.model_world_law.proofs.ReachLemmas.{every_world_is_reached, run-append}

-- the world is what some turns of site k make of the session
record Turned (o : Opened) (k : ℕ) (w : Session) (v : World) : Type 0 where
  order : List Bool
  same : v ≡ Open o (run w (turns k order))

stays_so : (o : Opened) (k : ℕ) (w : Session) → Turned o k w (Open o w)
stays_so o k w = record { order = []; same = refl }

by_undo : (o : Opened) (k : ℕ) (w : Session) (x : Option Member) → slice_get w.members k ≡ x → Turned o k w (reply_and_next (Open o w) (asked_of o w request.Undo k x)).1
by_undo o k w None e = stays_so o k w
by_undo o k w (Some m) e = by_result (undo m.site) refl
  where
    by_result : (r : Result Site UndoCause) → undo m.site ≡ r →
        Turned o k w (reply_and_next (Open o w) (on_page o (changed_or_no (record { page = o; session = w; k = k; member = m }) (refused_as undo_refusal r)))).1
    by_result (Err f) d = stays_so o k w
    by_result (Ok site) d = record {
      order = true ∷ [];
      same = ap (λ r. Open o (with_site_of k m r w)) (sym d) ∙ ap (λ x. Open o (at_member w x (λ n. with_site_of k n (undo n.site) w))) (sym e);
    }

by_redo : (o : Opened) (k : ℕ) (w : Session) (x : Option Member) → slice_get w.members k ≡ x → Turned o k w (reply_and_next (Open o w) (asked_of o w request.Redo k x)).1
by_redo o k w None e = stays_so o k w
by_redo o k w (Some m) e = by_result (redo m.site) refl
  where
    by_result : (r : Result Site RedoCause) → redo m.site ≡ r →
        Turned o k w (reply_and_next (Open o w) (on_page o (changed_or_no (record { page = o; session = w; k = k; member = m }) (refused_as redo_refusal r)))).1
    by_result (Err f) d = stays_so o k w
    by_result (Ok site) d = record {
      order = false ∷ [];
      same = ap (λ r. Open o (with_site_of k m r w)) (sym d) ∙ ap (λ x. Open o (at_member w x (λ n. with_site_of k n (redo n.site) w))) (sym e);
    }

by_line : (o : Opened) (k : ℕ) (w : Session) (line : List ℕ) → AsksTurn k line → Turned o k w (reply (Open o w) line).1
by_line o k w line asks = by_length (nat_lt max_line (length line))
  where
    by_command : Turned o k w (reply_and_next (Open o w) (answered_if (Open o w) (command line))).1
    by_command = elim asks [
      | inl undoes ↦ subst (λ c. Turned o k w (reply_and_next (Open o w) (answered_if (Open o w) c)).1) (sym undoes) (by_undo o k w (slice_get w.members k) refl)
      | inr redoes ↦ subst (λ c. Turned o k w (reply_and_next (Open o w) (answered_if (Open o w) c)).1) (sym redoes) (by_redo o k w (slice_get w.members k) refl)
    ]

    by_length : (b : Bool) → Turned o k w (reply_and_next (Open o w) (elim b as (λ _. Answer) [
      | true ↦ Err (No (LineTooLong (length line)))
      | false ↦ answered_if (Open o w) (command line)
    ])).1
    by_length true = stays_so o k w
    by_length false = by_command

turns-append : (k : ℕ) (xs ys : List Bool) → turns k (xs ++ ys) ≡ turns k xs ++ turns k ys
turns-append k [] ys = refl
turns-append k (true ∷ xs) ys = ap (λ es. Undo k ∷ es) (turns-append k xs ys)
turns-append k (false ∷ xs) ys = ap (λ es. Redo k ∷ es) (turns-append k xs ys)

by_lines : (o : Opened) (k : ℕ) (lines : List (List ℕ)) (w : Session) → AllByRecursion (AsksTurn k) lines → Turned o k w (world_after (Open o w) lines)
by_lines o k [] w asks = stays_so o k w
by_lines o k (line ∷ lines) w asks =
    let one = by_line o k w line asks.0 in
    let rest = by_lines o k lines (run w (turns k one.order)) asks.1 in
    record {
      order = one.order ++ rest.order;
      same = ap (λ v. world_after v lines) one.same ∙ rest.same
          ∙ ap (Open o) (sym (ap (run w) (turns-append k one.order rest.order) ∙ run-append (turns k one.order) (turns k rest.order) w));
    }

after-append : (lines more : List (List ℕ)) (w : World) → world_after w (lines ++ more) ≡ world_after (world_after w lines) more
after-append [] more w = refl
after-append (line ∷ lines) more w = after-append lines more (reply w line).1

abbrev session_of : World → Session → Session
session_of Closed w = w
session_of (Open o w) v = w

redone : (past : List (List ℕ)) (o : Opened) (w next : Session) (k : ℕ) (m n : Member) (order : List Bool) → IsReached past o w → next ≡ run w (turns k order) →
    slice_get w.members k ≡ Some m → m.site.seen ≡ 0 → m.site.undone ≡ [] → slice_get next.members k ≡ Some n → n.site.undone ≡ [] →
    (n.site.replica.items ≡ m.site.replica.items) × (n.site.replica.store ≡ m.site.replica.store)
redone past o w next k m n order r same e seen none f none' =
    redone_is_as_before _ r.sites r.events k m n order r.opens r.may (ap (λ (v : Session). slice_get v.members k) (sym r.same) ∙ e) seen none
    (ap (λ (v : Session). slice_get (run v (turns k order)).members k) (sym r.same) ∙ ap (λ (v : Session). slice_get v.members k) (sym same) ∙ f) none'

pub lines_redo : LinesRedo
lines_redo lines more o same w next k m n h asks g e seen none f none' =
    let turned = by_lines o k more w asks in
    let becomes : Open same next ≡ Open o (run w (turns k turned.order)) = sym g ∙ after-append lines more Closed ∙ ap (λ v. world_after v more) h ∙ turned.same in
    redone lines o w next k m n turned.order (subst (WorldReached lines) h (every_world_is_reached lines)) (ap (λ v. session_of v w) becomes) e seen none f none'
