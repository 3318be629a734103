-- Strings of a value of JSON.
use Rattle.std.specs.Prelude.{ℕ, List}
use Rattle.serde_json.specs.Data.{Data, null, boolean, number, string, array, object, Items, no_items, item, Members, no_members, member}

-- each string in a value, and each name of a member, passes
abbrev mutual
  pub AllStrings : (List ℕ → Type 0) → Data → Type 0
  AllStrings P null = Unit {0}
  AllStrings P (boolean b) = Unit {0}
  AllStrings P (number n) = Unit {0}
  AllStrings P (string s) = P s
  AllStrings P (array ds) = AllInItems P ds
  AllStrings P (object ms) = AllInMembers P ms

  pub AllInItems : (List ℕ → Type 0) → Items → Type 0
  AllInItems P no_items = Unit {0}
  AllInItems P (item d ds) = AllStrings P d × AllInItems P ds

  pub AllInMembers : (List ℕ → Type 0) → Members → Type 0
  AllInMembers P no_members = Unit {0}
  AllInMembers P (member k d ms) = P k × AllStrings P d × AllInMembers P ms
