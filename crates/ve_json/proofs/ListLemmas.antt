-- Lists of JSON values, read one after the other.
use Rattle.std.proofs.Common.{◌≡◌, ℕ, Bool, List, [], ◌∷◌, ◌++◌, map, ◌+◌, ◌<◌, length, drop, get_or, Option, Some, None, option_map, option_and_then, refl, sym, ap, ◌∙◌, append_assoc}
use Rattle.serde_json.specs.Data.{Data, Items}
use Rattle.serde_json.specs.Find.{as_array}
use Rattle.serde_json.specs.View.{view, items_of, items_view}
use Rattle.serde_json.specs.declared.value.Value.{Value}
use Rattle.std.proofs.lemmas.List.{at_drop_more}
use Rattle.model_items.specs.declared.plain_item.PlainItem.{PlainItem}
use Rattle.model_world.specs.Values.{json_values, all_read, list_in}
use Rattle.model_world.specs.ItemWords.{items_in, one_list}

listed_items : (ds : List Data) → json_values (items_of ds) ≡ ds
listed_items [] = refl
listed_items (d ∷ ds) = ap (λ l. d ∷ l) (listed_items ds)

pub listed_values : (vs : List Value) → json_values (items_view vs) ≡ map view vs
listed_values vs = listed_items (map view vs)

-- what was read, and what the rest is read as
abbrev pub read_on : {A : Type 0} → List A → (Data → Option A) → List Value → Option (List A)
read_on so_far read vs = option_map (λ xs. so_far ++ xs) (all_read read (map view vs))

pub from_none : {A : Type 0} (read : Data → Option A) (vs : List Value) → read_on [] read vs ≡ all_read read (map view vs)
from_none {A = A} read vs = same (all_read read (map view vs)) where
  same : (o : Option (List A)) → option_map (λ xs. [] ++ xs) o ≡ o
  same None = refl
  same (Some xs) = refl

pub one_read : {A : Type 0} (so_far : List A) (read : Data → Option A) (v : Value) (vs : List Value) (x : A) → read (view v) ≡ Some x →
    read_on so_far read (v ∷ vs) ≡ read_on (so_far ++ x ∷ []) read vs
one_read {A = A} so_far read v vs x e = ap (λ o. option_map (λ xs. so_far ++ xs) (option_and_then (λ y. option_map (λ xs. y ∷ xs) (all_read read (map view vs))) o)) e ∙ joined (all_read read (map view vs)) where
  joined : (o : Option (List A)) → option_map (λ xs. so_far ++ xs) (option_map (λ xs. x ∷ xs) o) ≡ option_map (λ xs. (so_far ++ x ∷ []) ++ xs) o
  joined None = refl
  joined (Some xs) = ap (λ l. Some l) (sym (append_assoc so_far (x ∷ []) xs))

pub one_unread : {A : Type 0} (so_far : List A) (read : Data → Option A) (v : Value) (vs : List Value) → read (view v) ≡ None →
    read_on so_far read (v ∷ vs) ≡ None
one_unread so_far read v vs e = ap (λ o. option_map (λ xs. so_far ++ xs) (option_and_then (λ y. option_map (λ xs. y ∷ xs) (all_read read (map view vs))) o)) e

by_items : {A : Type 0} (read : Data → Option A) (o : Option Items) (l : List Data) → Some l ≡ option_map json_values o → option_and_then (λ items. all_read read (json_values items)) o ≡ all_read read l
by_items read None l e = cc e
by_items read (Some items) l e = ap (all_read read) (sym (cc e))

-- a list is read by its values
pub read_by_values : {A : Type 0} (read : Data → Option A) (json : Data) (l : List Data) → Some l ≡ option_map json_values (as_array json) → list_in read json ≡ all_read read l
read_by_values read json l e = by_items read (as_array json) l e

no_items_read : {A : Type 0} (read : Data → Option A) (o : Option Items) → None ≡ option_map json_values o → option_and_then (λ items. all_read read (json_values items)) o ≡ None
no_items_read read None e = refl
no_items_read read (Some items) e = cc e

-- what is no list isn't read
pub no_list_read : {A : Type 0} (read : Data → Option A) (json : Data) → None ≡ option_map json_values (as_array json) → list_in read json ≡ None
no_list_read read json e = no_items_read read (as_array json) e

-- one more value is read
pub read_next : {A : Type 0} (so_far : List A) (read : Data → Option A) (vs : List Value) (i : ℕ) (v : Value) (x : A) → i < length vs → v ≡ get_or vs i v →
    read (view v) ≡ Some x → read_on (so_far ++ x ∷ []) read (drop (i + 1) vs) ≡ read_on so_far read (drop i vs)
read_next so_far read vs i v x within is e =
    sym (one_read so_far read v (drop (i + 1) vs) x e)
    ∙ ap (λ w. read_on so_far read (w ∷ drop (i + 1) vs)) is ∙ sym (at_drop_more (read_on so_far read) vs i v within)

-- one that isn't read ends it
pub unread_here : {A : Type 0} (so_far : List A) (read : Data → Option A) (vs : List Value) (i : ℕ) (v : Value) → i < length vs → v ≡ get_or vs i v →
    read (view v) ≡ None → read_on so_far read (drop i vs) ≡ None
unread_here so_far read vs i v within is e =
    at_drop_more (read_on so_far read) vs i v within ∙ ap (λ w. read_on so_far read (w ∷ drop (i + 1) vs)) (sym is) ∙ one_unread so_far read v (drop (i + 1) vs) e

-- ---- items

-- the items that were read, and those that the rest is read as
abbrev pub items_on : Bool → List PlainItem → List Value → Option (List PlainItem)
items_on exact so_far vs = option_map (λ more. so_far ++ more) (option_map one_list (all_read (items_in exact) (map view vs)))

items_step : (exact : Bool) (so_far new : List PlainItem) (v : Value) (vs : List Value) (o : Option (List PlainItem)) → option_map (λ more. so_far ++ more) o ≡ Some new →
    option_map (λ more. so_far ++ more) (option_map one_list (option_and_then (λ x. option_map (λ xs. x ∷ xs) (all_read (items_in exact) (map view vs))) o)) ≡ items_on exact new vs
items_step exact so_far new v vs None e = cc e
items_step exact so_far new v vs (Some more) e = by (all_read (items_in exact) (map view vs)) where
  by : (rest : Option (List (List PlainItem))) → option_map (λ l. so_far ++ l) (option_map one_list (option_map (λ xs. more ∷ xs) rest)) ≡ option_map (λ l. new ++ l) (option_map one_list rest)
  by None = refl
  by (Some xs) = ap (λ l. Some l) (sym (append_assoc so_far more (one_list xs)) ∙ ap (λ l. l ++ one_list xs) (cc e))

pub items_next : (exact : Bool) (so_far new : List PlainItem) (vs : List Value) (i : ℕ) (v : Value) → i < length vs → v ≡ get_or vs i v →
    option_map (λ more. so_far ++ more) (items_in exact (view v)) ≡ Some new → items_on exact new (drop (i + 1) vs) ≡ items_on exact so_far (drop i vs)
items_next exact so_far new vs i v within is e =
    sym (items_step exact so_far new v (drop (i + 1) vs) (items_in exact (view v)) e)
    ∙ ap (λ w. items_on exact so_far (w ∷ drop (i + 1) vs)) is ∙ sym (at_drop_more (items_on exact so_far) vs i v within)

items_stop : (exact : Bool) (so_far : List PlainItem) (vs : List Value) (o : Option (List PlainItem)) → o ≡ None →
    option_map (λ more. so_far ++ more) (option_map one_list (option_and_then (λ x. option_map (λ xs. x ∷ xs) (all_read (items_in exact) (map view vs))) o)) ≡ None
items_stop exact so_far vs None e = refl
items_stop exact so_far vs (Some more) e = cc e

pub no_items_here : (exact : Bool) (so_far : List PlainItem) (vs : List Value) (i : ℕ) (v : Value) → i < length vs → v ≡ get_or vs i v →
    items_in exact (view v) ≡ None → items_on exact so_far (drop i vs) ≡ None
no_items_here exact so_far vs i v within is e =
    at_drop_more (items_on exact so_far) vs i v within ∙ ap (λ w. items_on exact so_far (w ∷ drop (i + 1) vs)) (sym is) ∙ items_stop exact so_far (drop (i + 1) vs) (items_in exact (view v)) e
