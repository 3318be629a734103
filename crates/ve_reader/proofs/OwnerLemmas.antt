-- Owners under their keys, what is claimed after them, and one owner more.
use Rattle.std.proofs.Common.{◌≡◌, ℕ, suc, ◌+◌, Bool, true, false, ◌&&◌, ◌||◌, cond, List, [], ◌∷◌, ◌++◌, length, refl, sym, ap, ◌∙◌, true≢false, is_some, if◌then◌else◌, length-append, arith}
use Rattle.std.specs.Prelude.{Option, Some, None, IfSome, filter}
use Rattle.std.specs.Map.{lookup}
use Rattle.std.proofs.lemmas.List.{map-append}
use Rattle.std.proofs.lemmas.List.Elements.{filter-append}
use Rattle.indexmap.specs.IndexMap.{IndexMap, get, insert_entry}
use Rattle.indexmap.proofs.CallerLemmas.{insert_entry-new}
use Rattle.ve_base.specs.declared.head.RefKey.{RefKey}
use Rattle.model_items.specs.Same.{ref_key_same}
use Rattle.model_page.specs.Pieces.{Owner}
use Rattle.model_page.specs.ReferenceNodes.{is_auto, auto_count, is_owned}
use Rattle.ve_internal.specs.Keys.{ref_key_same-equivalence}
use Rattle.ve_internal.specs.declared.reference.RefRead.{RefRead}
use Rattle.ve_reader.specs.declared.owners.OwnedBody.{OwnedBody}
use Rattle.ve_reader.specs.Claimed.{text_key, claim_of}
use Rattle.ve_reader.specs.Owned.{owner_in, owners_in, count_next}

-- ---- keys

either : (a b : Bool) (body : OwnedBody) (r : Option OwnedBody) (q : Bool) → a ≡ b → is_some r ≡ q → is_some (cond a (Some body) r) ≡ (b || q)
either true b body r q e h = ap (λ c. c || q) e
either false b body r q e h = h ∙ ap (λ c. c || q) e

-- a key is found where an owner has it
key_found : (es : List (RefKey × OwnedBody)) (k : RefKey) → is_some (lookup (ref_key_same k) es) ≡ is_owned (owners_in es) k
key_found [] k = refl
key_found (e ∷ es) k = either (ref_key_same k e.0) (ref_key_same e.0 k) e.1 (lookup (ref_key_same k) es) (is_owned (owners_in es) k) (ref_key_same-equivalence.symm k e.0) (key_found es k)

pub taken : {S : Type 0} (m : IndexMap RefKey OwnedBody S) (owners : List Owner) (k : RefKey) → owners_in m.entries ≡ owners → is_some (get ref_key_same m k) ≡ is_owned owners k
taken m owners k e = key_found m.entries k ∙ ap (λ os. is_owned os k) e

-- ---- claims

pub not_claimed : (owners : List Owner) (reading : RefRead) (key : RefKey) (owns there : Bool) → key ≡ text_key owners reading.group reading.name
    → owns ≡ is_some reading.html → there ≡ is_owned owners key → (owns && there) ≡ true → None ≡ claim_of owners reading
not_claimed owners reading key owns there k o t h =
    let named : RefKey = text_key owners reading.group reading.name in
    let both : (is_some reading.html && is_owned owners named) ≡ true = sym (λ j. o j && (t ∙ ap (is_owned owners) k) j) ∙ h in
    sym (ap (λ b. if b then None else Some (record { key = named; html = reading.html })) both)

pub is_claimed : (owners : List Owner) (reading : RefRead) (key : RefKey) (owns there : Bool) → key ≡ text_key owners reading.group reading.name
    → owns ≡ is_some reading.html → there ≡ is_owned owners key → (owns && there) ≡ false → Some (record { key = key; html = reading.html }) ≡ claim_of owners reading
is_claimed owners reading key owns there k o t h =
    let named : RefKey = text_key owners reading.group reading.name in
    let both : (is_some reading.html && is_owned owners named) ≡ false = sym (λ j. o j && (t ∙ ap (is_owned owners) k) j) ∙ h in
    (λ j. Some (record { key = k j; html = reading.html })) ∙ sym (ap (λ b. if b then None else Some (record { key = named; html = reading.html })) both)

pub claim_free : (html : Option (List ℕ)) (owners : List Owner) (key : RefKey) (owns there : Bool)
    → owns ≡ is_some html → there ≡ is_owned owners key → (owns && there) ≡ false → IfSome html (λ _. is_owned owners key ≡ false)
claim_free None owners key owns there o t h = tt
claim_free (Some text) owners key owns there o t h = sym t ∙ sym (ap (λ b. b && there) o) ∙ h

-- ---- one owner more

absent : {A : Type 0} (o : Option A) → is_some o ≡ false → o ≡ None
absent None h = refl
absent (Some a) h = absurd (true≢false h)

pub owner_added : {S : Type 0} (m : IndexMap RefKey OwnedBody S) (owners : List Owner) (k : RefKey) (body : OwnedBody) → owners_in m.entries ≡ owners → is_owned owners k ≡ false
    → owners_in (insert_entry ref_key_same m.entries k body) ≡ owners ++ owner_in (k, body) ∷ []
owner_added m owners k body e free =
    ap owners_in (insert_entry-new ref_key_same m k body (absent (get ref_key_same m k) (taken m owners k e ∙ free)))
    ∙ map-append owner_in m.entries ((k, body) ∷ []) ∙ ap (λ os. os ++ owner_in (k, body) ∷ []) e

counted : (b : Bool) (n : ℕ) (x : Owner) → n + length (cond b (x ∷ []) []) ≡ (if b then suc n else n)
counted true n x = omega arith
counted false n x = omega arith

pub count_added : (owners : List Owner) (x : Owner) → auto_count (owners ++ x ∷ []) ≡ count_next (auto_count owners) x.key
count_added owners x =
    let p : Owner → Bool = λ owner. is_auto owner.key.key in
    ap length (filter-append p owners (x ∷ [])) ∙ length-append (filter p owners) (filter p (x ∷ [])) ∙ counted (is_auto x.key.key) (auto_count owners) x
