-- A test that opened and inserted items pass is passed by each item of every list, if attributes that
-- are set pass a test of their own.
use Rattle.std.specs.Prelude.{◌≡◌, ℕ, Bool, true, List, [], ◌∷◌, ◌++◌, slice_get, Option, Some, None, Ok}
use Rattle.std.specs.List.{AllByRecursion}
use Rattle.ve_base.specs.declared.attrs.Attr.{Attr}
use Rattle.model_items.specs.declared.plain_item.PlainItem.{PlainItem}
use Rattle.model_change.specs.Attributes.{AttrChange, allows, item_changed}
use Rattle.model_change.specs.Transaction.{Attribute, Replace, Retain, Transaction, all_inserted}
use Rattle.model_change.specs.Replay.{flattened}
use Rattle.model_site.specs.Replica.{Replica}
use Rattle.model_site.specs.Live.{Hinted, unhinted, revocation}
use Rattle.model_site.specs.Session.{Member, started}
use Rattle.model_site.specs.Events.{Event, Perform, run}
use Rattle.model_site_law.specs.Sound.{Opens}
use Rattle.model_site_law.specs.LiveLaws.{RunFrom}
use Rattle.model_site_law.specs.MayHappen.{AllMayHappen}

-- every item passes a test
abbrev pub AllPass : (PlainItem → Bool) → List PlainItem → Type 0
AllPass test items = AllByRecursion (λ item. test item ≡ true) items

-- the attribute of this name, where it has a value
abbrev pub attr_of : List ℕ → Option (List ℕ) → List Attr
attr_of name None = []
attr_of name (Some value) = record { name = name; value = value } ∷ []

-- the attributes that the transaction sets, in order
abbrev pub all_set : Transaction → List Attr
all_set [] = []
all_set (Retain count ∷ ops) = all_set ops
all_set (Replace removed inserted ∷ ops) = all_set ops
all_set (Attribute c ∷ ops) = attr_of c.name c.to ++ all_set ops

-- each of them passes
abbrev pub AttrsPass : (Attr → Bool) → List Attr → Type 0
AttrsPass sets attrs = AllByRecursion (λ a. sets a ≡ true) attrs

-- An item that passes still does where such an attribute is set, and had such a one before.
pub record SettingKeeps (test : PlainItem → Bool) (sets : Attr → Bool) : Type 0 where
  pub stays : (c : AttrChange) (item : PlainItem) → allows c item ≡ true → AttrsPass sets (attr_of c.name c.to) → test item ≡ true → test (item_changed c item) ≡ true
  pub was : (c : AttrChange) (item : PlainItem) → allows c item ≡ true → test item ≡ true → AttrsPass sets (attr_of c.name c.from)

-- all that is inserted passes, and all that is set
abbrev pub PutsIn : (PlainItem → Bool) → (Attr → Bool) → Transaction → Type 0
PutsIn test sets t = AllPass test (all_inserted t) × AttrsPass sets (all_set t)

abbrev pub AllPutIn : (PlainItem → Bool) → (Attr → Bool) → List Transaction → Type 0
AllPutIn test sets ts = AllByRecursion (PutsIn test sets) ts

-- all that a site performs does; undoing, redoing, revoking and taking put in nothing else
abbrev pub Inserts : (PlainItem → Bool) → (Attr → Bool) → Event → Type 0
Inserts test sets (Perform k ts) = AllPutIn test sets ts
Inserts test sets _ = Unit {0}

-- whatever is set
abbrev pub any_attr : Attr → Bool
any_attr a = true

abbrev pub ItemsKeep : Type 0
ItemsKeep = (test : PlainItem → Bool) (sets : Attr → Bool) (base : Replica) (sites : ℕ) (events : List Event) (k : ℕ) (m : Member) → SettingKeeps test sets → Opens base →
    AllMayHappen (started base sites) events → AllPass test base.items → AllByRecursion (Inserts test sets) events →
    slice_get (run (started base sites) events).members k ≡ Some m → AllPass test m.site.replica.items

-- What takes an entry back puts in what the entries do, or what was there before: so that passes too.
abbrev pub RevocationsKeep : Type 0
RevocationsKeep = (test : PlainItem → Bool) (sets : Attr → Bool) (way : Bool) (entries : List Hinted) (i : ℕ) (back : List Transaction) (base : List PlainItem) → SettingKeeps test sets →
    RunFrom entries i base → AllPutIn test sets (flattened (unhinted entries)) → AllPass test base → revocation way entries i ≡ Ok back → AllPutIn test sets back
