-- What a site's history leaves at the ends of a list.
use Rattle.std.proofs.Common.{◌≡◌, ℕ, List, map, take, sym, ap, ◌∙◌, subst}
use Rattle.std.proofs.lemmas.List.{take-map}
use Rattle.model_change.specs.Replay.{flattened}
use Rattle.model_site.specs.Entries.{parcels}
use Rattle.model_site.specs.Entries.{Parcel as ModelParcel}
use Rattle.model_site.specs.Site.{Site, entries_of, pending}
use Rattle.ve_tx.specs.declared.parcel.Parcel.{Parcel}
use Rattle.ve_tx.specs.ByValue.{parcel_by_value}
use Rattle.ve_site.specs.Ends.{LeaveEnds, least_ends}
use Rattle.ve_site.specs.declared.ends.Ends.{Ends}
use Rattle.ve_site.proofs.EndLemmas.{AtMost, both_leave}
use Rattle.ve_site.proofs.LeastLemmas.{both_least}

-- the committed entries that the site has seen, of those that the code looks at, and its pending
-- ones
pub known_leave : (lent : List Parcel) (committed : List ModelParcel) (n : ℕ) (s : Site) (e f : Ends) → map parcel_by_value lent ≡ committed → n ≡ s.seen → AtMost e f →
    LeaveEnds f (flattened (map parcel_by_value (take n lent))) → LeaveEnds e (flattened (parcels (pending s))) → LeaveEnds e (flattened (entries_of committed s))
known_leave lent committed n s e f same seen w h k =
    let part : map parcel_by_value (take n lent) ≡ take s.seen committed =
    sym (take-map parcel_by_value n lent) ∙ (ap (take n) same ∙ ap (λ m. take m committed) seen) in
    both_leave (take s.seen committed) (parcels (pending s)) e f w (subst (λ ps. LeaveEnds f (flattened ps)) part h) k

pub known_least : (lent : List Parcel) (committed : List ModelParcel) (n : ℕ) (s : Site) (a e f : Ends) → map parcel_by_value lent ≡ committed → n ≡ s.seen →
    f ≡ least_ends a (flattened (map parcel_by_value (take n lent))) → e ≡ least_ends f (flattened (parcels (pending s))) → e ≡ least_ends a (flattened (entries_of committed s))
known_least lent committed n s a e f same seen h k =
    let part : map parcel_by_value (take n lent) ≡ take s.seen committed =
    sym (take-map parcel_by_value n lent) ∙ (ap (take n) same ∙ ap (λ m. take m committed) seen) in
    k ∙ (ap (λ x. least_ends x (flattened (parcels (pending s)))) (h ∙ ap (λ ps. least_ends a (flattened ps)) part) ∙ both_least a (take s.seen committed) (parcels (pending s)))
