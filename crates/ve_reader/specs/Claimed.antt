-- The claim of a reference after the owners so far, by the texts of its `data-mw`.
use Rattle.std.specs.Prelude.{◌≡◌, ℕ, ◌&&◌, if◌then◌else◌, List, Option, Some, None, option_map, is_some, chars}
use Rattle.ve_base.specs.declared.head.Key.TheVariants.{Named, Auto}
use Rattle.ve_base.specs.declared.head.RefKey.{RefKey}
use Rattle.model_page.specs.DataMw as page
use Rattle.model_page.specs.Pieces.{Owner as PageOwner}
use Rattle.model_page.specs.ReferenceNodes.{auto_count, is_owned, key_of, unless_owned}
use Rattle.ve_internal.specs.declared.reference.RefRead.{RefRead}
use Rattle.ve_internal.specs.Read.{as_texts}
use Rattle.ve_reader.specs.declared.owners.Claim.{Claim}
use Rattle.ve_reader.specs.declared.owners.Owner.{Owner}

-- an owner that is borrowed
abbrev pub lent_owner : Owner → PageOwner
lent_owner o = record { at = o.at; key = o.key.now; html = o.html.now }

-- the key of a group and a name
abbrev pub text_key : List PageOwner → List ℕ → Option (List ℕ) → RefKey
text_key owners group None = record { group = group; key = Auto (auto_count owners) }
text_key owners group (Some name) = record { group = group; key = Named name }

-- none where the reference would own a body that has an owner
abbrev pub claim_of : List PageOwner → RefRead → Option Claim
claim_of owners reading =
    let key = text_key owners reading.group reading.name in
    if is_some reading.html && is_owned owners key then None else Some (record { key = key; html = reading.html })

-- the claim of a reading by model_page
abbrev pub page_claim : List PageOwner → page.RefRead → Claim
page_claim owners reading = record { key = key_of owners reading; html = option_map chars reading.html }

-- It is the key of model_page, and the body's text; none where model_page takes the reading for
-- none.
abbrev pub ClaimsAreKeys : Type 0
ClaimsAreKeys =
    (owners : List PageOwner) (reading : page.RefRead)
    → claim_of owners (as_texts reading) ≡ option_map (page_claim owners) (unless_owned owners reading)
