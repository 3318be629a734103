-- The server's turn and a site's: what they may be asked, and what they make of a session.
use Rattle.std.proofs.Common.{◌≡◌, ◌<◌, ◌≤◌, ℕ, List, [], ◌∷◌, ◌++◌, length, take, drop, set, get_or, slice_get, Option, Some, None, is_some, true≢false, refl, sym, ap, ◌∙◌, subst, arith}
use Rattle.std.proofs.lemmas.List.{length-append, length-set}
use Rattle.std.proofs.Math.Seq.{drop-append_seam}
use Rattle.ve_base.specs.declared.value.Value.{Value}
use Rattle.model_items.specs.declared.item.Item.{Item}
use Rattle.model_items.specs.declared.plain_item.PlainItem.{PlainItem}
use Rattle.model_change.specs.Transaction.{Transaction, edited}
use Rattle.model_change.specs.Replay.{AllRun, flattened, replay, reversal}
use Rattle.model_change.proofs.Fits.{gives_new_length, parts_of_Applies}
use Rattle.model_change.proofs.ReversalLaw.{reversal_undoes}
use Rattle.model_site.specs.declared.served.Served.{Served}
use Rattle.model_site.specs.declared.taken.Taken.{Taken}
use Rattle.model_site.specs.Entries.{Parcel, parcels}
use Rattle.model_site.specs.Events.{Serve, Take, after_turn, at_member}
use Rattle.model_site.specs.Session.{Ack, Foreign, Member, Session, SiteFeed, accepted_of, all_fed, serve_first, serve_next, serve_one, site_after, take_first, take_next, taken_as, with_member}
use Rattle.model_site.specs.Site.{Site, Submission, pending}
use Rattle.model_site_law.specs.Holds.{Holds, ground}
use Rattle.model_site_law.specs.Protocol.{Answered, AtRest, MemberHolds, SessionHolds, Submitted, Turn, Waits}
use Rattle.model_site_law.specs.Sound.{Sound}
use Rattle.model_site_law.proofs.MemberLemmas.{feeds_run}
use Rattle.model_site_law.proofs.ReplayLemmas.{AllRun-parts, flattened-append}
use Rattle.model_site_law.proofs.ServeLemmas.{event_holds}
use Rattle.model_site_law.proofs.SessionLemmas.{every_get}
use Rattle.ve_rebase.specs.Lists.{RunFromOneLength, RunOnLength}
use Rattle.ve_server.specs.Serving.{Serving, answer_to, first_of, first_feed, after_serving}
use Rattle.ve_site.specs.Ground.{ground_of}
use Rattle.ve_site.specs.Taking.{MayTake}
use Rattle.ve_sites.specs.IsShared.{IsShared}
use Rattle.ve_sites.specs.Senders.{Sender, at_site, member_of, session_of, shared_of}
use Rattle.ve_sites.specs.Shared.{Shared, member_at}
use Rattle.ve_sites.proofs.MemberLemmas.{members_fed, members_put, members_turn, numbered_at, numbered_put, queued_count}
use Rattle.ve_sites.proofs.StayLemmas.{found, here, member_is}

-- ---- what the server is asked

runs_on : (ts : List Transaction) (items : List PlainItem) → AllRun ts items → RunOnLength (length items) ts
runs_on [] items run = tt
runs_on (t ∷ ts) items run =
    ((parts_of_Applies t items run.0.applies).0, subst (λ n. RunOnLength n ts) (gives_new_length t items run.0.applies) (runs_on ts (edited t items) run.1))

-- The submission's base is committed, and its entries run from the list that those committed since
-- run from.
pub record MayServe (committed : List Parcel) (s : Submission) : Type 0 where
  pub from : s.base ≤ length committed
  pub run : RunFromOneLength (flattened (drop s.base committed)) (flattened s.entries)

waiting_may : (base : List PlainItem) (committed rest sent : List Parcel) (s : Submission) → AllRun (flattened committed) base → Waits base committed rest sent s → MayServe committed s
waiting_may base committed rest sent s runs w =
    let dropped : drop s.base committed ≡ w.new = ap (λ n. drop n committed) (sym w.from) ∙ ap (drop (length w.old)) (sym w.split) ∙ drop-append_seam w.old w.new in
    let flat : flattened w.old ++ flattened w.new ≡ flattened committed = sym (flattened-append w.old w.new) ∙ ap flattened w.split in
    let parts = AllRun-parts (flattened w.old) (flattened w.new) base (subst (λ us. AllRun us base) (sym flat) runs) in
    let total = sym (length-append w.old w.new) ∙ ap (λ (ps : List Parcel). length ps) w.split in
    let start = w.from in
    record {
      from = omega (arith, total, start);
      run = record {
        length = length (ground base w.old);
        committed_run = subst (λ ps. RunOnLength (length (ground base w.old)) (flattened ps)) (sym dropped) (runs_on (flattened w.new) (ground base w.old) parts.1);
        mine_run = runs_on (flattened s.entries) (ground base w.old) w.runs;
      };
    }

next_waits : (ss : List Submission) (s t : Submission) → slice_get ss 0 ≡ Some s → ss ≡ t ∷ [] → t ≡ s
next_waits [] s t next e = cc
next_waits (x ∷ xs) s t next e = cc

none_waits : (ss : List Submission) (s : Submission) → slice_get ss 0 ≡ Some s → ss ≡ [] → ⊥
none_waits [] s next e = cc
none_waits (x ∷ xs) s next e = cc

turn_may : (base : List PlainItem) (committed rest : List Parcel) (m : Member) (s : Submission) → AllRun (flattened committed) base → slice_get m.submissions 0 ≡ Some s →
    Turn base committed rest m → MayServe committed s
turn_may base committed rest m s runs next (AtRest a b c n) = absurd (none_waits m.submissions s next b)
turn_may base committed rest m s runs next (Submitted k t a b n w) =
    waiting_may base committed rest (parcels m.site.sent) s runs (subst (Waits base committed rest (parcels m.site.sent)) (next_waits m.submissions s t next b) w)
turn_may base committed rest m s runs next (Answered k a b n) = absurd (none_waits m.submissions s next b)

first_and_rest : (ss : List Submission) (s : Submission) → slice_get ss 0 ≡ Some s → ss ≡ s ∷ drop 1 ss
first_and_rest [] s next = cc
first_and_rest (x ∷ xs) s next = let same : x ≡ s = cc in ap (λ y. y ∷ xs) same

nothing_waits : (ss : List Submission) → slice_get ss 0 ≡ None → ss ≡ []
nothing_waits [] next = refl
nothing_waits (x ∷ xs) next = cc

-- ---- what a site is asked

-- with its pending entries taken back, the list is that of the committed ones that it has seen
ground_is : (base : List PlainItem) (before : List Parcel) (s : Site) → Sound (ground base before) → Holds base before s → ground_of s ≡ ground base before
ground_is base before s sound h =
    ap (replay (reversal (flattened (parcels (pending s))))) h.list ∙ (reversal_undoes (flattened (parcels (pending s))) (ground base before) sound.lawful sound.apart h.runs).back

feed_may : (base : List PlainItem) (committed : List Parcel) (f : SiteFeed) (later : List SiteFeed) (m : Member) → Sound base → AllRun (flattened committed) base →
    m.feeds ≡ f ∷ later → MemberHolds base committed m → MayTake f m.site
feed_may base committed (Ack n) later m sound runs e h = tt
feed_may base committed (Foreign ps) later m sound runs e h =
    let fed = feeds_run base committed ps later m sound runs e h in
    subst (AllRun (flattened ps)) (sym (ground_is base h.before m.site fed.sound h.site)) fed.runs

queue_parts : (q : List SiteFeed) (f : SiteFeed) → (first_of q).0 ≡ Some f → q ≡ f ∷ (first_of q).1
queue_parts [] f e = cc
queue_parts (x ∷ xs) f e = let same : x ≡ f = cc in ap (λ y. y ∷ xs) same

queue_none : (q : List SiteFeed) → (first_of q).0 ≡ None → q ≡ []
queue_none [] e = refl
queue_none (x ∷ xs) e = cc

-- ---- of a session

module _ (values : List Value) (first : List Item) (server : Serving) (senders : List Sender) (h : IsShared values first server senders) (k : ℕ) (m : Sender) (inside : k < length senders) (is : m ≡ get_or senders k m) where
  abbrev old : Shared
  old = shared_of values first server senders

  abbrev w : Session
  w = session_of values first server senders

  abbrev one : Member
  one = here values first server senders h k m inside is

  there : slice_get w.members k ≡ Some one
  there = found values first server senders h k m inside is

  holds : MemberHolds w.base.items w.committed one
  holds = every_get _ w.members k one h.holds.members there

  -- ---- the server's turn

  pub none_served : slice_get m.submissions 0 ≡ None → None ≡ serve_next k (member_at old k) old.session
  none_served next =
      let nothing = nothing_waits m.submissions next in
      sym (ap (λ (n : Member). serve_next k n w) (member_is values first server senders h k m inside is) ∙ ap (λ ss. serve_first k one ss w) nothing)

  module _ (s : Submission) (next : slice_get m.submissions 0 ≡ Some s) where
    pub serve_may : MayServe server.committed s
    serve_may = turn_may w.base.items w.committed holds.rest one s h.holds.committed next holds.turn

    abbrev pub left : Sender
    left = record m { submissions = drop 1 m.submissions }

    turned : serve_next k one w ≡ Some (serve_one k one s left.submissions w)
    turned = ap (λ ss. serve_first k one ss w) (first_and_rest m.submissions s next)

    pub some_served : serve_next k (member_at old k) old.session ≡ None → ⊥
    some_served none =
        true≢false (sym (ap is_some (sym none ∙ (ap (λ (n : Member). serve_next k n w) (member_is values first server senders h k m inside is) ∙ turned))))

    served_session : session_of values first (after_serving k s server) (set senders k left) ≡ (serve_one k one s left.submissions w).0
    served_session =
        let kept = (accepted_of server.committed s).kept in
        ap (λ ms. record { base = w.base; committed = server.committed ++ kept; hints = server.hints ++ take (length kept) s.hints; members = ms })
        (members_fed k 0 kept (set senders k left) server.queues ∙ ap (all_fed k 0 kept) (members_put senders server.queues k left h.as_many inside))

    pub serve_stays : IsShared values first (after_serving k s server) (set senders k left)
    serve_stays = record {
      as_many = queued_count k 0 (accepted_of server.committed s).kept server.queues ∙ (h.as_many ∙ sym (length-set senders k left));
      numbers = numbered_put 0 senders k m left h.numbers is refl;
      cites = h.cites;
      holds = subst SessionHolds
          (ap (λ o. at_member w o (λ n. after_turn w (serve_next k n w))) there ∙ (ap (after_turn w) turned ∙ sym served_session))
          (event_holds w (Serve k) h.holds tt);
    }

    pub serve_answers : (answer : Served) → answer ≡ answer_to s server →
        Some ((shared_of values first (after_serving k s server) (set senders k left)).session, answer) ≡ serve_next k (member_at old k) old.session
    serve_answers answer e =
        ap (λ a. Some (session_of values first (after_serving k s server) (set senders k left), a)) e
        ∙ (ap (λ x. Some (x, answer_to s server)) served_session
        ∙ sym (ap (λ (n : Member). serve_next k n w) (member_is values first server senders h k m inside is) ∙ turned))

  -- ---- a site's turn

  abbrev queue : List SiteFeed
  queue = get_or server.queues k []

  pub none_taken : (first_of queue).0 ≡ None → None ≡ take_next k (member_at old k) old.session
  none_taken next =
      sym (ap (λ (n : Member). take_next k n w) (member_is values first server senders h k m inside is) ∙ ap (λ fs. take_first k one fs w) (queue_none queue next))

  module _ (f : SiteFeed) (next : (first_of queue).0 ≡ Some f) where
    pub take_may : MayTake f m.site
    take_may = feed_may w.base.items w.committed f (first_of queue).1 one h.holds.sound h.holds.committed (queue_parts queue f next) holds

    abbrev pub taken : Sender
    taken = at_site (site_after f m.site) m

    pub feeds_are : (member_at old k).feeds ≡ f ∷ (first_of queue).1
    feeds_are = ap (λ (n : Member). n.feeds) (member_is values first server senders h k m inside is) ∙ queue_parts queue f next

    abbrev after : Member
    after = member_of taken (first_of queue).1

    took : take_next k one w ≡ Some (with_member k after w, taken_as f m.site taken.site)
    took = ap (λ fs. take_first k one fs w) (queue_parts queue f next)

    taken_session : session_of values first (first_feed k server).1 (set senders k taken) ≡ with_member k after w
    taken_session = ap (λ ms. record w { members = ms }) (members_turn senders server.queues k taken (first_of queue).1 h.as_many inside)

    pub take_stays : IsShared values first (first_feed k server).1 (set senders k taken)
    take_stays = record {
      as_many = length-set server.queues k (first_of queue).1 ∙ (h.as_many ∙ sym (length-set senders k taken));
      numbers = numbered_put 0 senders k m taken h.numbers is refl;
      cites = h.cites;
      holds = subst SessionHolds
          (ap (λ o. at_member w o (λ n. after_turn w (take_next k n w))) there ∙ (ap (after_turn w) took ∙ sym taken_session))
          (event_holds w (Take k) h.holds tt);
    }

    pub take_answers : (told : Taken) → told ≡ taken_as f m.site taken.site →
        Some ((shared_of values first (first_feed k server).1 (set senders k taken)).session, told) ≡ take_next k (member_at old k) old.session
    take_answers told e =
        ap (λ a. Some (session_of values first (first_feed k server).1 (set senders k taken), a)) e
        ∙ (ap (λ x. Some (x, taken_as f m.site taken.site)) taken_session
        ∙ sym (ap (λ (n : Member). take_next k n w) (member_is values first server senders h k m inside is) ∙ took))

-- ---- as a call finds them, of a session that is seen as `now`

module _ (now : Shared) (values : List Value) (first : List Item) (server : Serving) (senders : List Sender) (h : IsShared values first server senders) (view : shared_of values first server senders ≡ now) (k : ℕ) (m : Sender)
    (inside : k < length senders) (is : m ≡ get_or senders k m) (number : ℕ) (numbered : number ≡ m.number) where
  at_k : number ≡ k
  at_k = let n = numbered_at 0 senders k m h.numbers inside is in let e = numbered in omega (arith, n, e)

  pub within_queues : number < length server.queues
  within_queues = let n = at_k in let all = h.as_many in omega (arith, n, all, inside)

  pub idle_server : slice_get m.submissions 0 ≡ None → None ≡ serve_next k (member_at now k) now.session
  idle_server next = subst (λ (s : Shared). None ≡ serve_next k (member_at s k) s.session) view (none_served values first server senders h k m inside is next)

  pub busy_server : (s : Submission) → slice_get m.submissions 0 ≡ Some s → serve_next k (member_at now k) now.session ≡ None → ⊥
  busy_server s next = subst (λ (x : Shared). serve_next k (member_at x k) x.session ≡ None → ⊥) view (some_served values first server senders h k m inside is s next)

  module _ (s : Submission) (next : slice_get m.submissions 0 ≡ Some s) (later : Serving) (t : Sender) (does : later ≡ after_serving number s server) (drops : t ≡ record m { submissions = drop 1 m.submissions }) where
    serves : later ≡ after_serving k s server
    serves = does ∙ ap (λ n. after_serving n s server) at_k

    pub served_stays : IsShared values first later (set senders k t)
    served_stays =
        subst (λ v. IsShared values first v (set senders k t)) (sym serves)
        (subst (λ x. IsShared values first (after_serving k s server) (set senders k x)) (sym drops) (serve_stays values first server senders h k m inside is s next))

    pub served_tells : (answer : Served) → answer ≡ answer_to s server →
        Some ((shared_of values first later (set senders k t)).session, answer) ≡ serve_next k (member_at now k) now.session
    served_tells answer e =
        ap (λ v. Some (session_of values first v (set senders k t), answer)) serves
        ∙ (ap (λ x. Some (session_of values first (after_serving k s server) (set senders k x), answer)) drops
        ∙ subst (λ (x : Shared). Some (session_of values first (after_serving k s server) (set senders k (record m { submissions = drop 1 m.submissions })), answer) ≡ serve_next k (member_at x k) x.session) view
        (serve_answers values first server senders h k m inside is s next answer e))

  to_k : (o : Option SiteFeed) → o ≡ (first_feed number server).0 → (first_of (get_or server.queues k [])).0 ≡ o
  to_k o next = sym (next ∙ ap (λ n. (first_feed n server).0) at_k)

  pub idle_site : None ≡ (first_feed number server).0 → None ≡ take_next k (member_at now k) now.session
  idle_site next = subst (λ (s : Shared). None ≡ take_next k (member_at s k) s.session) view (none_taken values first server senders h k m inside is (to_k None next))

  module _ (f : SiteFeed) (next : Some f ≡ (first_feed number server).0) where
    pub may_take : MayTake f m.site
    may_take = take_may values first server senders h k m inside is f (to_k (Some f) next)

    pub next_taken : (member_at now k).feeds ≡ f ∷ (first_of (get_or server.queues k [])).1
    next_taken = subst (λ (s : Shared). (member_at s k).feeds ≡ f ∷ (first_of (get_or server.queues k [])).1) view (feeds_are values first server senders h k m inside is f (to_k (Some f) next))

    pub busy_site : take_next k (member_at now k) now.session ≡ None → ⊥
    busy_site none = true≢false (sym (ap is_some (sym none ∙ ap (λ fs. take_first k (member_at now k) fs now.session) next_taken)))

    module _ (later : Serving) (t : Sender) (does : later ≡ (first_feed number server).1) (takes : t ≡ at_site (site_after f m.site) m) where
      feeds_k : later ≡ (first_feed k server).1
      feeds_k = does ∙ ap (λ n. (first_feed n server).1) at_k

      pub taken_stays : IsShared values first later (set senders k t)
      taken_stays =
          subst (λ v. IsShared values first v (set senders k t)) (sym feeds_k)
          (subst (λ x. IsShared values first (first_feed k server).1 (set senders k x)) (sym takes) (take_stays values first server senders h k m inside is f (to_k (Some f) next)))

      pub taken_tells : (told : Taken) → told ≡ taken_as f m.site t.site →
          Some ((shared_of values first later (set senders k t)).session, told) ≡ take_next k (member_at now k) now.session
      taken_tells told e =
          let site : t.site ≡ site_after f m.site = ap (λ (x : Sender). x.site) takes in
          ap (λ v. Some (session_of values first v (set senders k t), told)) feeds_k
          ∙ (ap (λ x. Some (session_of values first (first_feed k server).1 (set senders k x), told)) takes
          ∙ subst (λ (x : Shared). Some (session_of values first (first_feed k server).1 (set senders k (at_site (site_after f m.site) m)), told) ≡ take_next k (member_at x k) x.session) view
          (take_answers values first server senders h k m inside is f (to_k (Some f) next) told (e ∙ ap (taken_as f m.site) site)))
