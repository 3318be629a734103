-- Notes of the references of a list, as the code keeps them. They serve private functions; that the
-- table is the model's is said by the model alone.
use Rattle.std.specs.Prelude.{◌≡◌, ℕ, suc, Bool, false, ◌&&◌, if◌then◌else◌, List, [], ◌∷◌, ◌++◌, length, map, filter, Option, Some, None, Result, unwrap_or, IfOk, IsSome, ◌==◌, slice_get}
use Rattle.std.specs.Option.{option_or}
use Rattle.indexmap.specs.IndexMap.{IndexMap, get}
use Rattle.ve_base.specs.declared.head.RefKey.{RefKey}
use Rattle.ve_base.specs.declared.head.Head.{Head}
use Rattle.ve_base.specs.declared.marks.Mark.{Mark}
use Rattle.ve_kinds.specs.declared.kind.Kind.{Kind}
use Rattle.ve_base.specs.declared.error.Memory.{Memory}
use Rattle.model_page.specs.declared.ref_table.RefRow.{RefRow}
use Rattle.model_items.specs.declared.plain_item.PlainItem.{PlainItem}
use Rattle.model_items.specs.declared.plain_item.PlainItem.TheVariants.{Opening}
use Rattle.model_items.specs.Same.{ref_key_same, text_same}
use Rattle.model_page.specs.References.{RefAt, refs_of, has_key, first_of_refs, keys_after, number_in_group, body_of, place_of_body}
use Rattle.ve_internal.specs.declared.notes.Seen.{Seen}
use Rattle.ve_internal.specs.declared.notes.Cited.{Cited}
use Rattle.ve_internal.specs.declared.notes.Notes.{Notes}

-- ---- keys and groups

abbrev pub place_if : Bool → ℕ → Option ℕ
place_if owner at = if owner then Some at else None

abbrev pub seen_again : Seen → ℕ → Bool → Seen
seen_again seen at owner = record { number = seen.number; first = seen.first; owner = option_or seen.owner (place_if owner at) }

-- the notes of a key after one more reference, where so many keys of its group came before it if it
-- is new
abbrev pub seen_next : Option Seen → ℕ → ℕ → Bool → Seen
seen_next None count at owner = record { number = suc count; first = at; owner = place_if owner at }
seen_next (Some seen) count at owner = seen_again seen at owner

-- how many of the keys are of a group
abbrev pub group_count : List ℕ → List RefKey → ℕ
group_count group [] = 0
group_count group (k ∷ keys) = if text_same k.group group then suc (group_count group keys) else group_count group keys

abbrev pub first_place : (RefAt → Bool) → List RefAt → Option ℕ
first_place test refs = first_of_refs (filter test refs)

abbrev pub is_owner_of : RefKey → RefAt → Bool
is_owner_of key r = has_key key r && r.owner

-- the notes of a key where its first reference stands at a position
abbrev pub seen_from : RefKey → List RefAt → Option ℕ → Option Seen
seen_from key refs None = None
seen_from key refs (Some first) =
    Some (record { number = number_in_group key (keys_after [] refs); first = first; owner = first_place (is_owner_of key) refs })

abbrev pub seen_in : RefKey → List RefAt → Option Seen
seen_in key refs = seen_from key refs (first_place (has_key key) refs)

-- ---- as the tables hold it

abbrev pub counted : {S : Type 0} → IndexMap (List ℕ) ℕ S → List ℕ → ℕ
counted groups group = unwrap_or (get text_same groups group) 0

-- one more key of a group is counted
abbrev pub Counts : {S : Type 0} → IndexMap (List ℕ) ℕ S → IndexMap (List ℕ) ℕ S → List ℕ → Type 0
Counts old new group = (g : List ℕ) → counted new g ≡ (if text_same group g then suc (counted old group) else counted old g)

abbrev pub counts_if : {S : Type 0} → Option Seen → IndexMap (List ℕ) ℕ S → IndexMap (List ℕ) ℕ S → List ℕ → Type 0
counts_if None old new group = Counts old new group
counts_if (Some seen) old new group = (g : List ℕ) → counted new g ≡ counted old g

-- the answer for a key that is referred to once more, and which group is counted
abbrev pub SeesKey : {S T : Type 0} → IndexMap RefKey Seen S → IndexMap (List ℕ) ℕ T → IndexMap (List ℕ) ℕ T → Cited → Bool → Result Seen Memory → Type 0
SeesKey keys old new cited owner result =
    let before = get ref_key_same keys cited.key.now in
    IfOk result (λ seen. (seen ≡ seen_next before (counted old cited.key.now.group) cited.at owner) × counts_if before old new cited.key.now.group)

-- the first position of a body is kept
abbrev pub NotesBody : {S : Type 0} → IndexMap RefKey ℕ S → IndexMap RefKey ℕ S → RefKey → ℕ → Type 0
NotesBody old new key at = (k : RefKey) → get ref_key_same new k ≡ option_or (get ref_key_same old k) (place_if (ref_key_same key k) at)

-- ---- references

-- a reference by its position and key alone
abbrev pub bare_ref : RefAt → RefAt
bare_ref r = record { at = r.at; key = r.key; owner = false; inside = false }

abbrev pub cited_ref : Cited → RefAt
cited_ref c = record { at = c.at; key = c.key.now; owner = false; inside = false }

-- The notes say what these references are, what is known of each key, and how many keys are of each
-- group.
pub record HasRefs (notes : Notes) (refs : List RefAt) : Type 0 where
  pub cited : map cited_ref notes.refs.items ≡ map bare_ref refs
  pub seen : (key : RefKey) → get ref_key_same notes.keys key ≡ seen_in key refs
  pub groups : (group : List ℕ) → counted notes.groups group ≡ group_count group (keys_after [] refs)

-- one more reference
abbrev pub NotesReference : Notes → Notes → ℕ → RefKey → Bool → Type 0
NotesReference old new at key owner =
    (new.bodies ≡ old.bodies)
    × ((refs : List RefAt) (inside : Bool) → HasRefs old refs → HasRefs new (refs ++ record { at = at; key = key; owner = owner; inside = inside } ∷ []))

-- ---- items

abbrev pub HasBodies : Notes → List PlainItem → Type 0
HasBodies notes items = (key : RefKey) → get ref_key_same notes.bodies key ≡ place_of_body (body_of key items)

-- The notes are those of a list.
pub record HasNoted (notes : Notes) (items : List PlainItem) : Type 0 where
  pub refs : HasRefs notes (refs_of items)
  pub bodies : HasBodies notes items

-- so many items more, the first of which stands at a position
abbrev pub NotesItems : Notes → Notes → ℕ → List PlainItem → Type 0
NotesItems old new at more = (items : List PlainItem) → length items ≡ at → HasNoted old items → HasNoted new (items ++ more)

abbrev pub NotesOpening : Notes → Notes → ℕ → Kind → Head → Type 0
NotesOpening old new at kind head =
    (marks : List Mark) (pre : List ℕ) (origin : Option ℕ) (generated : Bool) → NotesItems old new at (Opening kind head marks pre origin generated ∷ [])

-- ---- rows

abbrev pub carrier_place : Seen → ℕ
carrier_place seen = unwrap_or seen.owner seen.first

-- the row of a reference by what is known of its key
abbrev pub row_by : Option Seen → Option ℕ → Cited → Option RefRow
row_by None body_at cited = None
row_by (Some seen) body_at cited =
    Some (record { at = cited.at; key = cited.key.now; number = seen.number; carrier = carrier_place seen == cited.at; body_at = body_at })

abbrev pub row_in : Notes → Cited → Option RefRow
row_in notes cited = row_by (get ref_key_same notes.keys cited.key.now) (get ref_key_same notes.bodies cited.key.now) cited

abbrev pub IsKnown : Notes → Cited → Type 0
IsKnown notes cited = IsSome (get ref_key_same notes.keys cited.key.now)

abbrev pub AllKnown : Notes → Type 0
AllKnown notes = (i : ℕ) (c : Cited) → slice_get notes.refs.items i ≡ Some c → IsKnown notes c

abbrev pub IsRowOf : Notes → Cited → RefRow → Type 0
IsRowOf notes cited row = row_in notes cited ≡ Some row

abbrev pub AreRows : Notes → List Cited → List RefRow → Type 0
AreRows notes cited rows = map Some rows ≡ map (row_in notes) cited
