-- A value that was read, and has no float, is read back from its compact text.
use Rattle.std.proofs.Common.{◌≡◌, ℕ, zero, suc, ◌^◌, ◌<◌, ◌≤◌, pos, negsuc, ◌==◌, Bool, true, false, ◌&&◌, if◌then◌else◌, List, [], drop, Option, Some, None, option_map, option_and_then, Ordering, Less, Equal, Greater, refl, sym, ap, ◌∙◌, subst, append-nil, arith}
use Rattle.std.specs.Prelude.{nat_lt, nat_le, max, slice_index}
use Rattle.std.specs.Ordering.{nat_cmp, match_ordering, ordering_reverse}
use Rattle.std.specs.Cmp.Lexicographic.{slice_cmp}
use Rattle.std.proofs.lemmas.Bool.{and_parts, or_parts, ltb-true, leb-true}
use Rattle.std.proofs.lemmas.Cmp.{nat_list_cmp_total}
use Rattle.fast_float.specs.Text.{Parts, scan, digits_of, with_sign, minus}
use Rattle.json.specs.Token.{Token}
use Rattle.json.specs.Lex.{tokens}
use Rattle.json.specs.Json as json
use Rattle.json.specs.Tree as tree
use Rattle.json.proofs.Printed.Tokens.{tokens-print}
use Rattle.json.proofs.Printed.Trees.{value-json_tokens, ArePrintable-json_tokens}
use Rattle.json.proofs.Printed.Decimals.{IsNumber-decimal, IsNumber-signed_decimal}
use Rattle.serde_json.specs.Data.{Num, unsigned, negative, float, Data, null, boolean, number, string, array, object, Items, no_items, item, Members, no_members, member, put, depth, items_depth, members_depth}
use Rattle.serde_json.specs.Read.{is_integer, float_of, number_from, number_of, of_json, of_items, of_members, max_depth, read}
use Rattle.serde_json.specs.Written.{outline, items_outline, members_outline, has_float, items_have_float, members_have_float, compact_text}
use Rattle.serde_json.proofs.Numbers.{number_of-decimal, number_of-negative}
use Rattle.serde_json.proofs.Texts.{print-outline}

-- ---- what is read

-- an integer of 64 bits; floats aside
abbrev InRange : Num → Type 0
InRange (unsigned n) = n < 2 ^ 64
InRange (negative (pos n)) = ⊥
InRange (negative (negsuc n)) = n < 2 ^ 63
InRange (float x) = Unit {0}

-- each key is above k
abbrev pub Above : List ℕ → Members → Type 0
Above k no_members = Unit {0}
Above k (member l d ms) = (slice_cmp nat_cmp k l ≡ Less) × Above k ms

-- numbers are in range, and the keys of each object rise
abbrev mutual
  pub Proper : Data → Type 0
  Proper null = Unit {0}
  Proper (boolean b) = Unit {0}
  Proper (number n) = InRange n
  Proper (string s) = Unit {0}
  Proper (array ds) = ItemsProper ds
  Proper (object ms) = MembersProper ms

  pub ItemsProper : Items → Type 0
  ItemsProper no_items = Unit {0}
  ItemsProper (item d ds) = Proper d × ItemsProper ds

  pub MembersProper : Members → Type 0
  MembersProper no_members = Unit {0}
  MembersProper (member k d ms) = Proper d × Above k ms × MembersProper ms

-- where there is one
abbrev pub IfThere : {A : Type 0} → (A → Type 0) → Option A → Type 0
IfThere P None = Unit {0}
IfThere P (Some a) = P a

holds-map : {A B : Type 0} (P : A → Type 0) (Q : B → Type 0) (f : A → B) → ((a : A) → P a → Q (f a)) → (o : Option A) → IfThere P o → IfThere Q (option_map f o)
holds-map P Q f h None p = tt
holds-map P Q f h (Some a) p = h a p

holds-then : {A B : Type 0} (P : A → Type 0) (Q : B → Type 0) (f : A → Option B) → ((a : A) → P a → IfThere Q (f a)) → (o : Option A) → IfThere P o → IfThere Q (option_and_then f o)
holds-then P Q f h None p = tt
holds-then P Q f h (Some a) p = h a p

chosen : {A : Type 0} (P : A → Type 0) (c : Bool) (a b : Option A) → (c ≡ true → IfThere P a) → IfThere P b → IfThere P (if c then a else b)
chosen P true a b f g = f refl
chosen P false a b f g = g

float-in_range : (sign : Bool) (p : Parts) → IfThere InRange (float_of sign p)
float-in_range sign p = chosen InRange _ (Some (float _)) None (λ e. tt) tt

negative-in_range : (n : ℕ) → 0 < n → n ≤ 2 ^ 63 → InRange (negative (with_sign true n))
negative-in_range zero some most = absurd (omega (arith, some))
negative-in_range (suc n) some most = omega (arith, most)

from-in_range : (sign : Bool) (p : Parts) → IfThere InRange (number_from sign p)
from-in_range false p =
    chosen InRange (is_integer p && nat_lt (digits_of p) (2 ^ 64)) (Some (unsigned (digits_of p))) (float_of false p)
    (λ e. ltb-true (digits_of p) (2 ^ 64) (and_parts (is_integer p) (nat_lt (digits_of p) (2 ^ 64)) e).1) (float-in_range false p)
from-in_range true p =
    let d : ℕ = digits_of p in
    chosen InRange (is_integer p && nat_lt 0 d && nat_le d (2 ^ 63)) (Some (negative (with_sign true d))) (float_of true p)
    (λ e.
    let q = and_parts (is_integer p && nat_lt 0 d) (nat_le d (2 ^ 63)) e in
    negative-in_range d (ltb-true 0 d (and_parts (is_integer p) (nat_lt 0 d) q.0).1) (leb-true d (2 ^ 63) q.1))
    (float-in_range true p)

number-in_range : (s : List ℕ) → IfThere InRange (number_of s)
unfolding number_of
number-in_range s =
    let rest : Parts = scan (drop 1 s) in
    chosen InRange (slice_index s 0 == minus) (number_from true rest) (number_from false (scan s)) (λ e. from-in_range true rest) (from-in_range false (scan s))

-- ---- a member that is put into an object

above-all : (j k : List ℕ) → slice_cmp nat_cmp j k ≡ Less → (ms : Members) → Above k ms → Above j ms
above-all j k e no_members h = tt
above-all j k e (member l d ms) h = (nat_list_cmp_total.trans j k l e h.0, above-all j k e ms h.1)

turned : (k l : List ℕ) (o : Ordering) → slice_cmp nat_cmp k l ≡ o → slice_cmp nat_cmp l k ≡ ordering_reverse o
turned k l o e = nat_list_cmp_total.antisymm l k ∙ ap ordering_reverse e

above-put : (j k : List ℕ) (d : Data) (ms : Members) → slice_cmp nat_cmp j k ≡ Less → Above j ms → Above j (put k d ms)
above-put j k d no_members e h = (e, tt)
above-put j k d (member l c ms) e h = by (slice_cmp nat_cmp k l) (above-put j k d ms e h.1)
  where
    by : (o : Ordering) → Above j (put k d ms) → Above j (match_ordering o (member k d (member l c ms)) (member l d ms) (member l c (put k d ms)))
    by Less g = (e, h)
    by Equal g = (h.0, h.1)
    by Greater g = (h.0, g)

pub proper-put : (k : List ℕ) (d : Data) (ms : Members) → Proper d → MembersProper ms → MembersProper (put k d ms)
proper-put k d no_members p q = (p, tt, tt)
proper-put k d (member l c ms) p q = by (slice_cmp nat_cmp k l) refl (proper-put k d ms p q.2)
  where
    by : (o : Ordering) → slice_cmp nat_cmp k l ≡ o → MembersProper (put k d ms) → MembersProper (match_ordering o (member k d (member l c ms)) (member l d ms) (member l c (put k d ms)))
    by Less e g = (p, (e, above-all k l e ms q.1), q)
    by Equal e g = (p, q.1, q.2)
    by Greater e g = (q.0, above-put l k d ms (turned k l Greater e) q.1, g)

mutual
  proper-of_json : (j : json.Json) → IfThere Proper (of_json j)
  proper-of_json json.null = tt
  proper-of_json (json.boolean b) = tt
  proper-of_json (json.number s) = holds-map InRange Proper number (λ n p. p) (number_of s) (number-in_range s)
  proper-of_json (json.string s) = tt
  proper-of_json (json.array js) = holds-map ItemsProper Proper array (λ ds p. p) (of_items js) (proper-of_items js)
  proper-of_json (json.object ms) = holds-map MembersProper Proper object (λ ds p. p) (of_members ms no_members) (proper-of_members ms no_members tt)

  proper-of_items : (js : json.Items) → IfThere ItemsProper (of_items js)
  proper-of_items json.no_items = tt
  proper-of_items (json.item j js) =
      holds-then Proper ItemsProper (λ d. option_map (item d) (of_items js)) (λ d p. holds-map ItemsProper ItemsProper (item d) (λ ds q. (p, q)) (of_items js) (proper-of_items js)) (of_json j) (proper-of_json j)

  proper-of_members : (ms : json.Members) (found : Members) → MembersProper found → IfThere MembersProper (of_members ms found)
  proper-of_members json.no_members found p = p
  proper-of_members (json.member k j ms) found p =
      holds-then Proper MembersProper (λ d. of_members ms (put k d found)) (λ d q. proper-of_members ms (put k d found) (proper-put k d found q p)) (of_json j) (proper-of_json j)

pub proper-read : (text : List ℕ) (d : Data) → read text ≡ Some d → Proper d
proper-read text d e =
    subst (IfThere Proper) e (holds-then (λ j. Unit {0}) Proper of_json (λ j p. proper-of_json j) (option_and_then (λ p. json.if_last p.0 p.1) (json.value max_depth (tokens text))) (any _))
  where
    any : (o : Option json.Json) → IfThere (λ j. Unit {0}) o
    any None = tt
    any (Some j) = tt

-- ---- what is written is read

mutual
  depth-outline : (d : Data) → tree.depth (outline d) ≡ depth d
  depth-outline null = refl
  depth-outline (boolean b) = refl
  depth-outline (number n) = refl
  depth-outline (string s) = refl
  depth-outline (array ds) = ap suc (depth-items ds)
  depth-outline (object ms) = ap suc (depth-members ms)

  depth-items : (ds : Items) → tree.items_depth (items_outline ds) ≡ items_depth ds
  depth-items no_items = refl
  depth-items (item d ds) = (λ i. max (depth-outline d i) (depth-items ds i))

  depth-members : (ms : Members) → tree.members_depth (members_outline ms) ≡ members_depth ms
  depth-members no_members = refl
  depth-members (member k d ms) = (λ i. max (depth-outline d i) (depth-members ms i))

mutual
  numbers-outline : (d : Data) → Proper d → has_float d ≡ false → tree.HasNumbers (outline d)
  numbers-outline null p f = tt
  numbers-outline (boolean b) p f = tt
  numbers-outline (number (unsigned n)) p f = IsNumber-decimal n p
  numbers-outline (number (negative (pos n))) p f = absurd p
  numbers-outline (number (negative (negsuc n))) p f = IsNumber-signed_decimal (negsuc n) p
  numbers-outline (number (float x)) p f = cc
  numbers-outline (string s) p f = tt
  numbers-outline (array ds) p f = numbers-items ds p f
  numbers-outline (object ms) p f = numbers-members ms p f

  numbers-items : (ds : Items) → ItemsProper ds → items_have_float ds ≡ false → tree.ItemsHaveNumbers (items_outline ds)
  numbers-items no_items p f = tt
  numbers-items (item d ds) p f = let q = or_parts (has_float d) (items_have_float ds) f in (numbers-outline d p.0 q.0, numbers-items ds p.1 q.1)

  numbers-members : (ms : Members) → MembersProper ms → members_have_float ms ≡ false → tree.MembersHaveNumbers (members_outline ms)
  numbers-members no_members p f = tt
  numbers-members (member k d ms) p f = let q = or_parts (has_float d) (members_have_float ms) f in (numbers-outline d p.0 q.0, numbers-members ms p.2 q.1)

-- members before others
abbrev joined : Members → Members → Members
joined no_members ms = ms
joined (member k d first) ms = member k d (joined first ms)

abbrev Precede : Members → Members → Type 0
Precede no_members ms = Unit {0}
Precede (member k d first) ms = Above k ms × Precede first ms

joined-joined : (a b c : Members) → joined (joined a b) c ≡ joined a (joined b c)
joined-joined no_members b c = refl
joined-joined (member k d a) b c = ap (member k d) (joined-joined a b c)

joined-none : (ms : Members) → joined ms no_members ≡ ms
joined-none no_members = refl
joined-none (member k d ms) = ap (member k d) (joined-none ms)

-- a key that is above the others goes last
put-last : (k : List ℕ) (d : Data) (first ms : Members) → Precede first (member k d ms) → put k d first ≡ joined first (member k d no_members)
put-last k d no_members ms p = refl
put-last k d (member l c first) ms p =
    ap (λ o. match_ordering o (member k d (member l c first)) (member l d first) (member l c (put k d first))) (turned l k Less p.0.0)
    ∙ ap (member l c) (put-last k d first ms p.1)

precede-more : (k : List ℕ) (d : Data) (first ms : Members) → Precede first (member k d ms) → Above k ms → Precede (joined first (member k d no_members)) ms
precede-more k d no_members ms p a = (a, tt)
precede-more k d (member l c first) ms p a = (p.0.1, precede-more k d first ms p.1 a)

mutual
  of_json-outline : (d : Data) → Proper d → has_float d ≡ false → of_json (outline d) ≡ Some d
  of_json-outline null p f = refl
  of_json-outline (boolean b) p f = refl
  of_json-outline (number (unsigned n)) p f = ap (option_map number) (number_of-decimal n p)
  of_json-outline (number (negative (pos n))) p f = absurd p
  of_json-outline (number (negative (negsuc n))) p f = ap (option_map number) (number_of-negative n p)
  of_json-outline (number (float x)) p f = cc
  of_json-outline (string s) p f = refl
  of_json-outline (array ds) p f = ap (option_map array) (of_items-outline ds p f)
  of_json-outline (object ms) p f = ap (option_map object) (of_members-outline ms no_members p f tt)

  of_items-outline : (ds : Items) → ItemsProper ds → items_have_float ds ≡ false → of_items (items_outline ds) ≡ Some ds
  of_items-outline no_items p f = refl
  of_items-outline (item d ds) p f =
      let q = or_parts (has_float d) (items_have_float ds) f in
      ap (option_and_then (λ x. option_map (item x) (of_items (items_outline ds)))) (of_json-outline d p.0 q.0) ∙ ap (option_map (item d)) (of_items-outline ds p.1 q.1)

  of_members-outline : (ms found : Members) → MembersProper ms → members_have_float ms ≡ false → Precede found ms → of_members (members_outline ms) found ≡ Some (joined found ms)
  of_members-outline no_members found p f b = ap Some (sym (joined-none found))
  of_members-outline (member k d ms) found p f b =
      let q = or_parts (has_float d) (members_have_float ms) f in
      ap (option_and_then (λ x. of_members (members_outline ms) (put k x found))) (of_json-outline d p.0 q.0)
      ∙ ap (of_members (members_outline ms)) (put-last k d found ms b)
      ∙ of_members-outline ms (joined found (member k d no_members)) p.2 q.1 (precede-more k d found ms b p.1)
      ∙ ap Some (joined-joined found (member k d no_members) ms)

abbrev whole : Option (json.Json × List Token) → Option Data
whole o = option_and_then of_json (option_and_then (λ p. json.if_last p.0 p.1) o)

pub read-compact_text : (d : Data) → Proper d → has_float d ≡ false → depth d ≤ max_depth → read (compact_text d) ≡ Some d
read-compact_text d p f shallow =
    let j : json.Json = outline d in
    ap (λ s. whole (json.value max_depth (tokens s))) (sym (print-outline d))
    ∙ ap (λ ts. whole (json.value max_depth ts)) (tokens-print (tree.json_tokens j) (ArePrintable-json_tokens j (numbers-outline d p f)) ∙ sym (append-nil (tree.json_tokens j)))
    ∙ ap whole (value-json_tokens j max_depth [] (omega (arith, depth-outline d, shallow)))
    ∙ of_json-outline d p f
