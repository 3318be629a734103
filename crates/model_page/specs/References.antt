-- The references of a list of items: which one carries the body of its key, and how they are
-- numbered.
use Rattle.std.specs.Prelude.{ℕ, zero, suc, ◌==◌, Bool, false, not, ◌&&◌, ◌||◌, if◌then◌else◌, List, [], ◌∷◌, ◌++◌, map, filter, Option, Some, None}
use Rattle.std.specs.List.{list_any}
use Rattle.std.specs.Option.{option_or}
use Rattle.ve_kinds.specs.declared.kind.Kind.TheVariants.{InternalList, InternalItem, Ref}
use Rattle.ve_base.specs.declared.head.RefKey.{RefKey}
use Rattle.model_items.specs.declared.plain_item.PlainItem.{PlainItem}
use Rattle.model_items.specs.declared.plain_item.PlainItem.TheVariants.{Char, Opening, Closing}
use Rattle.ve_kinds.specs.Table.{kind_same}
use Rattle.model_items.specs.Same.{text_same, ref_key_same, option_same}
use Rattle.model_page.specs.declared.ref_table.RefRow.{RefRow}

-- a reference: its position, its key, whether it is an owner, and whether it stands in the internal
-- list
pub record RefAt : Type 0 where
  pub at : ℕ
  pub key : RefKey
  pub owner : Bool
  pub inside : Bool

abbrev pub ref_at : ℕ → Bool → Bool → Option RefKey → List RefAt
ref_at at inside owner None = []
ref_at at inside owner (Some key) = record { at = at; key = key; owner = owner; inside = inside } ∷ []

-- the references in order; the first item's position is `at`, and the internal list comes last
abbrev pub refs_from : ℕ → Bool → List PlainItem → List RefAt
refs_from at inside [] = []
refs_from at inside (Char c marks ∷ items) = refs_from (suc at) inside items
refs_from at inside (Closing kind pre ∷ items) = refs_from (suc at) inside items
refs_from at inside (Opening kind head marks pre origin generated ∷ items) =
    (if kind_same kind Ref then ref_at at inside head.owner head.reference else [])
    ++ refs_from (suc at) (inside || kind_same kind InternalList) items

abbrev pub refs_of : List PlainItem → List RefAt
refs_of items = refs_from 0 false items

abbrev pub has_key : RefKey → RefAt → Bool
has_key key r = ref_key_same r.key key

abbrev pub first_of_refs : List RefAt → Option ℕ
first_of_refs [] = None
first_of_refs (r ∷ refs) = Some r.at

-- the position of the first owner of the key, else of its first reference
abbrev pub carrier_of : RefKey → List RefAt → Option ℕ
carrier_of key refs = option_or (first_of_refs (filter (λ r. has_key key r && r.owner) refs)) (first_of_refs (filter (has_key key) refs))

abbrev pub is_carrier : List RefAt → RefAt → Bool
is_carrier refs r = option_same (λ m n. m == n) (carrier_of r.key refs) (Some r.at)

-- a body: the position of the internal item, what stands inside it, and the whitespace before its
-- closing
pub record Body : Type 0 where
  pub at : ℕ
  pub items : List PlainItem
  pub pre : List ℕ

-- the items before the closing of the node that is open, where so many more are open in it
abbrev pub inside_from : ℕ → List PlainItem → List PlainItem × List ℕ
inside_from depth [] = ([], [])
inside_from zero (Closing kind pre ∷ items) = ([], pre)
inside_from (suc depth) (Closing kind pre ∷ items) = let r = inside_from depth items in (Closing kind pre ∷ r.0, r.1)
inside_from depth (Char c marks ∷ items) = let r = inside_from depth items in (Char c marks ∷ r.0, r.1)
inside_from depth (Opening kind head marks pre origin generated ∷ items) =
    let r = inside_from (suc depth) items in (Opening kind head marks pre origin generated ∷ r.0, r.1)

-- the body of the internal item at this position, after whose opening these items stand
abbrev pub body_after : ℕ → List PlainItem → Body
body_after at items = let r = inside_from 0 items in record { at = at; items = r.0; pre = r.1 }

-- the body of the first internal item of the key
abbrev pub body_from : ℕ → RefKey → List PlainItem → Option Body
body_from at key [] = None
body_from at key (Char c marks ∷ items) = body_from (suc at) key items
body_from at key (Closing kind pre ∷ items) = body_from (suc at) key items
body_from at key (Opening kind head marks pre origin generated ∷ items) =
    if kind_same kind InternalItem && option_same ref_key_same head.reference (Some key)
    then Some (body_after at items)
    else body_from (suc at) key items

abbrev pub body_of : RefKey → List PlainItem → Option Body
body_of key items = body_from 0 key items

-- the body that a reference carries, if it carries one
abbrev pub carried_by : List PlainItem → RefAt → Option Body
carried_by items r = if is_carrier (refs_of items) r && not r.inside then body_of r.key items else None

-- the distinct keys in order
abbrev pub with_key : RefKey → List RefKey → List RefKey
with_key key keys = if list_any (ref_key_same key) keys then keys else keys ++ key ∷ []

abbrev pub keys_after : List RefKey → List RefAt → List RefKey
keys_after keys [] = keys
keys_after keys (r ∷ refs) = keys_after (with_key r.key keys) refs

-- the position of the key among those of its group, from 1
abbrev pub number_in_group : RefKey → List RefKey → ℕ
number_in_group key [] = 0
number_in_group key (k ∷ keys) =
    if ref_key_same k key then 1 else (if text_same k.group key.group then suc (number_in_group key keys) else number_in_group key keys)

abbrev pub place_of_body : Option Body → Option ℕ
place_of_body None = None
place_of_body (Some b) = Some b.at

-- the row of one reference
abbrev pub ref_row : List PlainItem → RefAt → RefRow
ref_row items r = record {
  at = r.at;
  key = r.key;
  number = number_in_group r.key (keys_after [] (refs_of items));
  carrier = is_carrier (refs_of items) r;
  body_at = place_of_body (body_of r.key items);
}

-- a row for each reference, in order
abbrev pub table : List PlainItem → List RefRow
table items = map (ref_row items) (refs_of items)
