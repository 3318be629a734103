-- How owners are kept: their bodies under their keys, in order.
use Rattle.std.specs.Prelude.{ℕ, suc, if◌then◌else◌, List, map}
use Rattle.std.specs.Str.{encode_utf8_all}
use Rattle.ve_base.specs.declared.head.RefKey.{RefKey}
use Rattle.model_page.specs.Pieces.{Owner}
use Rattle.model_page.specs.ReferenceNodes.{is_auto}
use Rattle.ve_reader.specs.declared.owners.OwnedBody.{OwnedBody}

abbrev pub owner_in : RefKey × OwnedBody → Owner
owner_in entry = record { at = entry.1.at; key = entry.0; html = encode_utf8_all entry.1.html }

abbrev pub owners_in : List (RefKey × OwnedBody) → List Owner
owners_in entries = map owner_in entries

-- how many owners have no name, with one more
abbrev pub count_next : ℕ → RefKey → ℕ
count_next unnamed key = if is_auto key.key then suc unnamed else unnamed
