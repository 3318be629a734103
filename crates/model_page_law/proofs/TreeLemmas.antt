-- Where the tokens of a value are UTF-8, so is each string in it, and so it stays as its members
-- are put in order.
use Rattle.std.proofs.Common.{ℕ, List, [], ◌∷◌, ◌++◌, Option, Some, None, Ordering, IsUtf8}
use Rattle.std.specs.Prelude.{option_map, option_and_then, IfSome}
use Rattle.std.specs.Ordering.{nat_cmp, match_ordering}
use Rattle.std.specs.declared.cmp.Ordering.TheVariants.{Less, Equal, Greater}
use Rattle.std.specs.Cmp.Lexicographic.{slice_cmp}
use Rattle.json.specs.Token.{Token}
use Rattle.json.specs.Json as json
use Rattle.json.specs.Json.{if_last}
use Rattle.json.specs.Tree.{json_tokens, items_tokens, members_tokens}
use Rattle.serde_json.specs.Data.{Data, number, array, object, Items, item, Members, no_members, member, put}
use Rattle.serde_json.specs.Read.{number_of, of_json, of_items, of_members}
use Rattle.model_page_law.specs.Strings.{AllStrings, AllInItems, AllInMembers}
use Rattle.model_page_law.proofs.LexLemmas.{TokensUtf8}

abbrev mutual
  pub JsonUtf8 : json.Json → Type 0
  JsonUtf8 json.null = Unit {0}
  JsonUtf8 (json.boolean b) = Unit {0}
  JsonUtf8 (json.number s) = Unit {0}
  JsonUtf8 (json.string s) = IsUtf8 s
  JsonUtf8 (json.array js) = ItemsUtf8 js
  JsonUtf8 (json.object ms) = MembersUtf8 ms

  ItemsUtf8 : json.Items → Type 0
  ItemsUtf8 json.no_items = Unit {0}
  ItemsUtf8 (json.item j js) = JsonUtf8 j × ItemsUtf8 js

  MembersUtf8 : json.Members → Type 0
  MembersUtf8 json.no_members = Unit {0}
  MembersUtf8 (json.member k j ms) = IsUtf8 k × JsonUtf8 j × MembersUtf8 ms

-- ---- from its tokens

pub split_utf8 : (ts us : List Token) → TokensUtf8 (ts ++ us) → TokensUtf8 ts × TokensUtf8 us
split_utf8 [] us u = (tt, u)
split_utf8 (t ∷ ts) us u = let later = split_utf8 ts us u.1 in ((u.0, later.0), later.1)

mutual
  pub json_utf8 : (j : json.Json) → TokensUtf8 (json_tokens j) → JsonUtf8 j
  json_utf8 json.null u = tt
  json_utf8 (json.boolean b) u = tt
  json_utf8 (json.number s) u = tt
  json_utf8 (json.string s) u = u.0
  json_utf8 (json.array js) u = items_utf8 js u.1
  json_utf8 (json.object ms) u = members_utf8 ms u.1

  items_utf8 : (js : json.Items) → TokensUtf8 (items_tokens js) → ItemsUtf8 js
  items_utf8 json.no_items u = tt
  items_utf8 (json.item j js) u = let parts = split_utf8 (json_tokens j) (items_tokens js) u in (json_utf8 j parts.0, items_utf8 js parts.1)

  members_utf8 : (ms : json.Members) → TokensUtf8 (members_tokens ms) → MembersUtf8 ms
  members_utf8 json.no_members u = tt
  members_utf8 (json.member k j ms) u = let parts = split_utf8 (json_tokens j) (members_tokens ms) u.1 in (u.0, json_utf8 j parts.0, members_utf8 ms parts.1)

-- ---- to data

put_by : (o : Ordering) (k : List ℕ) (d : Data) (l : List ℕ) (e : Data) (ms : Members) → IsUtf8 k → AllStrings IsUtf8 d → AllInMembers IsUtf8 (member l e ms)
    → AllInMembers IsUtf8 (put k d ms) → AllInMembers IsUtf8 (match_ordering o (member k d (member l e ms)) (member l d ms) (member l e (put k d ms)))
put_by Less k d l e ms u v w later = (u, v, w)
put_by Equal k d l e ms u v w later = (w.0, v, w.2)
put_by Greater k d l e ms u v w later = (w.0, w.1, later)

put_utf8 : (k : List ℕ) (d : Data) (ms : Members) → IsUtf8 k → AllStrings IsUtf8 d → AllInMembers IsUtf8 ms → AllInMembers IsUtf8 (put k d ms)
put_utf8 k d no_members u v w = (u, v, tt)
put_utf8 k d (member l e ms) u v w = put_by (slice_cmp nat_cmp k l) k d l e ms u v w (put_utf8 k d ms u v w.2)

mapped : {A : Type 0} (P : A → Type 0) (f : A → Data) (o : Option A) → ((x : A) → P x → AllStrings IsUtf8 (f x)) → IfSome o P
    → IfSome (option_map f o) (AllStrings IsUtf8)
mapped P f None h u = tt
mapped P f (Some x) h u = h x u

item_utf8 : (o : Option Data) (p : Option Items) → IfSome o (AllStrings IsUtf8) → IfSome p (AllInItems IsUtf8)
    → IfSome (option_and_then (λ d. option_map (item d) p) o) (AllInItems IsUtf8)
item_utf8 None p u v = tt
item_utf8 (Some d) None u v = tt
item_utf8 (Some d) (Some ds) u v = (u, v)

-- the members after one that is read
member_utf8 : (o : Option Data) (next : Data → Option Members) → IfSome o (AllStrings IsUtf8)
    → ((d : Data) → AllStrings IsUtf8 d → IfSome (next d) (AllInMembers IsUtf8)) → IfSome (option_and_then next o) (AllInMembers IsUtf8)
member_utf8 None next u more = tt
member_utf8 (Some d) next u more = more d u

mutual
  pub of_json_utf8 : (j : json.Json) → JsonUtf8 j → IfSome (of_json j) (AllStrings IsUtf8)
  of_json_utf8 json.null u = tt
  of_json_utf8 (json.boolean b) u = tt
  of_json_utf8 (json.number s) u = mapped (λ n. Unit {0}) number (number_of s) (λ n v. tt) (any (number_of s))
    where
      any : {A : Type 0} (o : Option A) → IfSome o (λ x. Unit {0})
      any None = tt
      any (Some x) = tt
  of_json_utf8 (json.string s) u = u
  of_json_utf8 (json.array js) u = mapped (AllInItems IsUtf8) array (of_items js) (λ ds v. v) (of_items_utf8 js u)
  of_json_utf8 (json.object ms) u = mapped (AllInMembers IsUtf8) object (of_members ms no_members) (λ ns v. v) (of_members_utf8 ms no_members u tt)

  of_items_utf8 : (js : json.Items) → ItemsUtf8 js → IfSome (of_items js) (AllInItems IsUtf8)
  of_items_utf8 json.no_items u = tt
  of_items_utf8 (json.item j js) u = item_utf8 (of_json j) (of_items js) (of_json_utf8 j u.0) (of_items_utf8 js u.1)

  of_members_utf8 : (ms : json.Members) (found : Members) → MembersUtf8 ms → AllInMembers IsUtf8 found → IfSome (of_members ms found) (AllInMembers IsUtf8)
  of_members_utf8 json.no_members found u v = v
  of_members_utf8 (json.member k j ms) found u v =
      member_utf8 (of_json j) (λ d. of_members ms (put k d found)) (of_json_utf8 j u.1)
      (λ d w. of_members_utf8 ms (put k d found) u.2 (put_utf8 k d found u.0 w v))
