-- The operations of a transaction, as a line writes them. What they remove, and the old values of
-- attributes, are the list's.
use Rattle.std.specs.Prelude.{◌+◌, Bool, true, false, not, ◌&&◌, nat_lt, List, [], ◌∷◌, length, codes, Option, Some, None, option_map}
use Rattle.serde_json.specs.Data.{Data, Members}
use Rattle.serde_json.specs.Find.{get_member, as_object}
use Rattle.model_items.specs.Same.{text_same}
use Rattle.model_world.specs.declared.edit_command.OpWords.{OpWords}
use Rattle.model_world.specs.declared.edit_command.OpWords.TheVariants.{Retain, Remove, Attr}
use Rattle.model_world.specs.Values.{◌>>=◌, such_that, number_in, text_or_null_in, list_in, member_in}
use Rattle.model_world.specs.Attributes.{name_in}
use Rattle.model_world.specs.ItemWords.{all_items_in}

-- `{"remove":n,"insert":items}`
abbrev pub removal_in : (exact : Bool) → Members → Data → Option OpWords
removal_in exact members counted = do
  count ← number_in counted
  insert ← member_in (codes "insert") (all_items_in exact) members
  Some (Remove count insert)

-- `{"attr":name,"to":text or null}`
abbrev pub setting_in : Members → Option OpWords
setting_in members = do
  name ← member_in (codes "attr") name_in members
  to ← member_in (codes "to") text_or_null_in members
  Some (Attr name to)

-- by the first of `retain`, `remove` and `attr` that is there
abbrev pub op_by : (exact : Bool) → Members → Option Data → Option Data → Option OpWords
op_by exact written (Some retained) removed = option_map (λ count. Retain count) (number_in retained)
op_by exact written None (Some removed) = removal_in exact written removed
op_by exact written None None = setting_in written

abbrev pub op_in : (exact : Bool) → Data → Option OpWords
op_in exact json = do
  members ← as_object json
  op_by exact members (get_member (codes "retain") members) (get_member (codes "remove") members)

-- The normal form, as of transactions. No two retains or removals are neighbours. The attributes
-- set at one position have different names and are followed by a retain.
abbrev pub word_may_precede : OpWords → List OpWords → Bool
word_may_precede (Retain count) (Retain other ∷ ops) = false
word_may_precede (Retain count) _ = true
word_may_precede (Remove count insert) (Remove other others ∷ ops) = false
word_may_precede (Remove count insert) _ = true
word_may_precede (Attr name to) (Retain count ∷ ops) = true
word_may_precede (Attr name to) (Attr other value ∷ ops) = not (text_same name other) && word_may_precede (Attr name to) ops
word_may_precede (Attr name to) _ = false

-- it passes, removes or inserts something, or sets an attribute
abbrev pub word_is_something : OpWords → Bool
word_is_something (Retain count) = nat_lt 0 count
word_is_something (Remove count insert) = nat_lt 0 (count + length insert)
word_is_something (Attr name to) = true

abbrev pub words_are_normal : List OpWords → Bool
words_are_normal [] = true
words_are_normal (op ∷ ops) = word_is_something op && (word_may_precede op ops && words_are_normal ops)

-- where `exact`, their items stand for those that a reply shows
abbrev pub ops_in : (exact : Bool) → Data → Option (List OpWords)
ops_in exact json = such_that words_are_normal (list_in (op_in exact) json)
