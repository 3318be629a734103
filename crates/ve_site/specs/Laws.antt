-- How many steps a take counts at most, and how long its transactions become.
use Rattle.std.specs.Prelude.{ℕ, ◌+◌, ◌*◌, ◌≤◌, List, [], ◌∷◌, length}
use Rattle.ve_base.specs.Limits.{max_total_length}
use Rattle.model_change.specs.Replay.{AllRun, AllWithin, flattened, inserted_by}
use Rattle.model_site.specs.Entries.{Parcel, parcels}
use Rattle.model_site.specs.Joined.{join_entries}
use Rattle.model_site.specs.Session.{Foreign}
use Rattle.model_site.specs.Site.{Site, pending}
use Rattle.ve_editor.specs.Counted.{steps_of_blank}
use Rattle.ve_site.specs.Ground.{Stands, ground_of}
use Rattle.ve_site.specs.Taking.{steps_of_take}

-- how long the lists of a take become: the confirmed list with all that the taken entries and the
-- pending ones insert
abbrev pub longest_of : List Parcel → Site → ℕ
longest_of entries s = length (ground_of s) + (inserted_by (flattened entries) + inserted_by (flattened (parcels (pending s))))

-- Each transaction that a take takes counts, and each that is pending: at most eight steps for each
-- item of the longest list, and sixteen more. Beside them a take counts no more than a page without
-- text.
abbrev pub TakeIsBounded : Type 0
TakeIsBounded = (entries : List Parcel) (s : Site) → Stands s → AllRun (flattened entries) (ground_of s) →
    steps_of_take (Foreign entries) s
    ≤ steps_of_blank + (length (flattened entries) + length (flattened (parcels (pending s)))) * (8 * (longest_of entries s + 2))

-- Where the longest list of an entry's take is within the bound of a transaction's lengths, so is
-- each transaction that the take joins.
abbrev pub TakenStayWithin : Type 0
TakenStayWithin = (foreign : Parcel) (s : Site) → Stands s → AllRun foreign (ground_of s) → longest_of (foreign ∷ []) s ≤ max_total_length →
    let j = join_entries foreign (parcels (pending s)) in AllWithin max_total_length j.committed × AllWithin max_total_length (flattened j.kept)
