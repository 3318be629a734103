-- A session as it begins.
use Rattle.std.proofs.Common.{◌≡◌, ◌<◌, ◌≤◌, ◌+◌, ◌*◌, ℕ, suc, List, [], ◌∷◌, ◌++◌, All, replicate, sym, ap, ◌∙◌, subst, arith}
use Rattle.std.proofs.Math.Nat.{mul-le-mul_right, suc-mul}
use Rattle.std.proofs.lemmas.List.{length-replicate}
use Rattle.ve_base.specs.declared.value.Value.{Value}
use Rattle.model_items.specs.declared.item.Item.{Item}
use Rattle.model_items.specs.Plain.{plain_list, CitesWell}
use Rattle.model_edit.specs.Translate.{between}
use Rattle.model_site.specs.Replica.{Replica, opened_with}
use Rattle.model_site.specs.Session.{started}
use Rattle.model_site.specs.Site.{Site, starting}
use Rattle.model_site_law.specs.Protocol.{SessionHolds}
use Rattle.model_site_law.specs.Sound.{Sound}
use Rattle.model_site_law.proofs.LawLemmas.{first_replica_opens, holds_at_first}
use Rattle.ve_editor.specs.Page.{page_of}
use Rattle.ve_server.specs.Serving.{Serving}
use Rattle.ve_sites.specs.IsShared.{IsShared}
use Rattle.ve_sites.specs.Senders.{Sender, first_senders, session_of, shared_of}
use Rattle.ve_sites.proofs.MemberLemmas.{begun_count, begun_members, begun_next, begun_numbered}

module _ (values : List Value) (first : List Item) (count : ℕ) (filled : values ≡ (opened_with (plain_list values first)).store) where
  abbrev base : Replica
  base = page_of values first (between 0 0)

  abbrev pub served_yet : Serving
  served_yet = record { committed = []; hints = []; queues = replicate count [] }

  abbrev pub all : List Sender
  all = first_senders 0 count (starting base)

  opened : base ≡ opened_with (plain_list values first)
  opened = ap (λ vs. record { items = plain_list values first; store = vs; selection = between 0 0 }) filled

  session_is : session_of values first served_yet all ≡ started (opened_with (plain_list values first)) count
  session_is =
      ap (λ ms. record { base = base; committed = []; hints = []; members = ms }) (begun_members 0 count (starting base)) ∙ ap (λ b. started b count) opened

  pub begins : shared_of values first served_yet all ≡ record { first = first; session = started (opened_with (plain_list values first)) count }
  begins = ap (λ s. record { first = first; session = s }) session_is

  pub stands : Sound (plain_list values first) → All (CitesWell values) first → IsShared values first served_yet all
  stands sound cites = record {
    as_many = length-replicate count [] ∙ sym (begun_count 0 count (starting base));
    numbers = begun_numbered 0 count (starting base);
    cites = cites;
    holds = subst SessionHolds (sym session_is) (holds_at_first (opened_with (plain_list values first)) count (first_replica_opens (plain_list values first) sound));
  }

-- ---- one site after the other

pub begun_more : (count : ℕ) (site : Site) (some more : List Sender) (one : Sender) → some ≡ first_senders 0 count site → more ≡ some ++ one ∷ [] →
    one ≡ record { number = count; site = site; submissions = [] } → more ≡ first_senders 0 (count + 1) site
begun_more count site some more one e f is =
    let same : count + 1 ≡ suc count = omega arith in
    let number : count ≡ 0 + count = omega arith in
    f ∙ (ap (λ ss. ss ++ one ∷ []) e ∙ (ap (λ x. first_senders 0 count site ++ x ∷ []) (is ∙ ap (λ n. record { number = n; site = site; submissions = [] }) number)
    ∙ (sym (begun_next 0 count site) ∙ ap (λ n. first_senders 0 n site) (sym same))))

pub steps_so_far : (n all most before now : ℕ) → n ≤ all → now ≤ before + n * most → now ≤ before + all * most
steps_so_far n all most before now h spent = let step = mul-le-mul_right most h in omega (arith, step, spent)

pub steps_of_next : (n most before now after : ℕ) → now ≤ before + n * most → after ≤ now + most → after ≤ before + (n + 1) * most
steps_of_next n most before now after spent more =
    let same : n + 1 ≡ suc n = omega arith in
    let step : (n + 1) * most ≡ n * most + most = ap (λ k. k * most) same ∙ suc-mul n most in
    omega (arith, step, spent, more)

pub steps_with_next : (n all most before now after : ℕ) → n < all → now ≤ before + n * most → after ≤ now + most → after ≤ before + all * most
steps_with_next n all most before now after h spent more =
    steps_so_far (n + 1) all most before after (omega (arith, h)) (steps_of_next n most before now after spent more)
