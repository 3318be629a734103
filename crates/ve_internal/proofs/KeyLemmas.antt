-- The distinct keys of references, their numbers, and what one more reference changes.
use Rattle.std.proofs.Common.{◌≡◌, ℕ, suc, Bool, true, false, ◌&&◌, ◌||◌, cond, List, [], ◌∷◌, ◌++◌, refl, sym, ap, subst, ◌∙◌, true≢false, is_some}
use Rattle.std.specs.Prelude.{Option, Some, None, filter, if◌then◌else◌}
use Rattle.std.specs.List.{list_any}
use Rattle.std.specs.Option.{option_or}
use Rattle.std.proofs.lemmas.List.Elements.{filter-append}
use Rattle.std.proofs.lemmas.List.Folds.{list_any-append}
use Rattle.ve_base.specs.declared.head.RefKey.{RefKey}
use Rattle.model_items.specs.Same.{ref_key_same, text_same}
use Rattle.model_items.proofs.SameLemmas.{Means-ref_key_same}
use Rattle.model_page.specs.References.{RefAt, has_key, first_of_refs, with_key, keys_after, number_in_group}
use Rattle.ve_internal.specs.Noted.{place_if, seen_next, group_count, first_place, is_owner_of, seen_from, seen_in}

-- ---- tests

pub same_itself : (a : RefKey) → ref_key_same a a ≡ true
same_itself a = Means-ref_key_same.itself a

same_turned : (a b : RefKey) → ref_key_same a b ≡ true → ref_key_same b a ≡ true
same_turned a b h = let P : RefKey → Type 0 = λ x. ref_key_same x a ≡ true in subst P (Means-ref_key_same.equal a b h) (same_itself a)

pub same_either : (a b : RefKey) → ref_key_same a b ≡ ref_key_same b a
same_either a b = cases (ref_key_same a b) (ref_key_same b a) refl refl
  where
    cases : (p q : Bool) → ref_key_same a b ≡ p → ref_key_same b a ≡ q → ref_key_same a b ≡ ref_key_same b a
    cases true true e f = e ∙ sym f
    cases false false e f = e ∙ sym f
    cases true false e f = absurd (true≢false (sym (same_turned a b e) ∙ f))
    cases false true e f = absurd (true≢false (sym (same_turned b a f) ∙ e))

or_parts : (a b : Bool) → (a || b) ≡ false → (a ≡ false) × (b ≡ false)
or_parts false b h = (refl, h)
or_parts true b h = absurd (true≢false h)

or_later : (a b : Bool) → a ≡ false → (a || b) ≡ true → b ≡ true
or_later false b e h = h
or_later true b e h = absurd (true≢false e)

or_false : (a : Bool) → a ≡ (a || false)
or_false true = refl
or_false false = refl

-- ---- keys

keys_more : (keys : List RefKey) (refs : List RefAt) (r : RefAt) → keys_after keys (refs ++ r ∷ []) ≡ with_key r.key (keys_after keys refs)
keys_more keys [] r = refl
keys_more keys (x ∷ refs) r = keys_more (with_key x.key keys) refs r

any_with : (key x : RefKey) (keys : List RefKey) → list_any (ref_key_same key) (with_key x keys) ≡ (list_any (ref_key_same key) keys || ref_key_same x key)
any_with key x keys = cases (list_any (ref_key_same x) keys) (ref_key_same x key) refl refl
  where
    cases : (there same : Bool) → list_any (ref_key_same x) keys ≡ there → ref_key_same x key ≡ same →
        list_any (ref_key_same key) (if there then keys else keys ++ x ∷ []) ≡ (list_any (ref_key_same key) keys || same)
    cases true false e f = or_false (list_any (ref_key_same key) keys)
    cases true true e f =
        let P : RefKey → Type 0 = λ k. list_any (ref_key_same k) keys ≡ true in
        let there = subst P (Means-ref_key_same.equal x key f) e in
        there ∙ sym (ap (λ b. b || true) there)
    cases false same e f =
        list_any-append (ref_key_same key) keys (x ∷ []) ∙ ap (λ b. list_any (ref_key_same key) keys || b) (sym (or_false (ref_key_same key x)) ∙ same_either key x ∙ f)

-- a key is among the keys where a reference has it
pub key_there : (key : RefKey) (keys : List RefKey) (refs : List RefAt) → list_any (ref_key_same key) (keys_after keys refs) ≡ (list_any (ref_key_same key) keys || is_some (first_place (has_key key) refs))
key_there key keys [] = or_false (list_any (ref_key_same key) keys)
key_there key keys (r ∷ refs) =
    key_there key (with_key r.key keys) refs
    ∙ ap (λ b. b || is_some (first_place (has_key key) refs)) (any_with key r.key keys)
    ∙ joined (list_any (ref_key_same key) keys) (ref_key_same r.key key) (filter (has_key key) refs)
  where
    joined : (a s : Bool) (fs : List RefAt) → ((a || s) || is_some (first_of_refs fs)) ≡ (a || is_some (first_of_refs (cond s (r ∷ fs) fs)))
    joined true s fs = refl
    joined false true fs = refl
    joined false false fs = refl

pub key_of_some : (key : RefKey) (refs : List RefAt) (first : Option ℕ) → first_place (has_key key) refs ≡ first → list_any (ref_key_same key) (keys_after [] refs) ≡ is_some first
key_of_some key refs first e = key_there key [] refs ∙ ap is_some e

-- ---- numbers

number_there : (key : RefKey) (keys : List RefKey) (x : RefKey) → list_any (ref_key_same key) keys ≡ true → number_in_group key (keys ++ x ∷ []) ≡ number_in_group key keys
number_there key [] x h = absurd (true≢false (sym h))
number_there key (k ∷ keys) x h =
    step (ref_key_same k key) (text_same k.group key.group) _ _
    (λ e. number_there key keys x (or_later (ref_key_same key k) (list_any (ref_key_same key) keys) (same_either key k ∙ e) h))
  where
    step : (b c : Bool) (m n : ℕ) → (b ≡ false → m ≡ n) → (if b then 1 else (if c then suc m else m)) ≡ (if b then 1 else (if c then suc n else n))
    step true c m n h = refl
    step false true m n h = ap suc (h refl)
    step false false m n h = h refl

number_new : (key : RefKey) (keys : List RefKey) → list_any (ref_key_same key) keys ≡ false → number_in_group key (keys ++ key ∷ []) ≡ suc (group_count key.group keys)
number_new key [] h = own (ref_key_same key key) _ (same_itself key)
  where
    own : (b : Bool) (n : ℕ) → b ≡ true → (if b then 1 else n) ≡ suc 0
    own true n e = refl
    own false n e = absurd (true≢false (sym e))
number_new key (k ∷ keys) h =
    let p = or_parts (ref_key_same key k) (list_any (ref_key_same key) keys) h in
    step (ref_key_same k key) (text_same k.group key.group) _ _ (same_either k key ∙ p.0) (number_new key keys p.1)
  where
    step : (b c : Bool) (m n : ℕ) → b ≡ false → m ≡ suc n → (if b then 1 else (if c then suc m else m)) ≡ suc (if c then suc n else n)
    step false true m n e h = ap suc h
    step false false m n e h = h
    step true c m n e h = absurd (true≢false e)

number_kept : (key : RefKey) (refs : List RefAt) (r : RefAt) → list_any (ref_key_same key) (keys_after [] refs) ≡ true →
    number_in_group key (keys_after [] (refs ++ r ∷ [])) ≡ number_in_group key (keys_after [] refs)
number_kept key refs r h = ap (number_in_group key) (keys_more [] refs r) ∙ cases (list_any (ref_key_same r.key) (keys_after [] refs))
  where
    cases : (b : Bool) → number_in_group key (if b then keys_after [] refs else keys_after [] refs ++ r.key ∷ []) ≡ number_in_group key (keys_after [] refs)
    cases true = refl
    cases false = number_there key (keys_after [] refs) r.key h

number_first : (refs : List RefAt) (r : RefAt) → list_any (ref_key_same r.key) (keys_after [] refs) ≡ false →
    number_in_group r.key (keys_after [] (refs ++ r ∷ [])) ≡ suc (group_count r.key.group (keys_after [] refs))
number_first refs r h =
    ap (number_in_group r.key) (keys_more [] refs r ∙ ap (λ b. if b then keys_after [] refs else keys_after [] refs ++ r.key ∷ []) h)
    ∙ number_new r.key (keys_after [] refs) h

-- ---- how many keys a group has

count_push : (g : List ℕ) (keys : List RefKey) (x : RefKey) → group_count g (keys ++ x ∷ []) ≡ (if text_same x.group g then suc (group_count g keys) else group_count g keys)
count_push g [] x = refl
count_push g (k ∷ keys) x =
    ap (λ n. if text_same k.group g then suc n else n) (count_push g keys x) ∙ turned (text_same k.group g) (text_same x.group g) (group_count g keys)
  where
    turned : (c t : Bool) (n : ℕ) → (if c then suc (if t then suc n else n) else (if t then suc n else n)) ≡ (if t then suc (if c then suc n else n) else (if c then suc n else n))
    turned true true n = refl
    turned true false n = refl
    turned false true n = refl
    turned false false n = refl

pub count_more : (g : List ℕ) (refs : List RefAt) (r : RefAt) →
    group_count g (keys_after [] (refs ++ r ∷ []))
    ≡ (if list_any (ref_key_same r.key) (keys_after [] refs) then group_count g (keys_after [] refs)
    else (if text_same r.key.group g then suc (group_count g (keys_after [] refs)) else group_count g (keys_after [] refs)))
count_more g refs r = ap (group_count g) (keys_more [] refs r) ∙ cases (list_any (ref_key_same r.key) (keys_after [] refs))
  where
    cases : (b : Bool) → group_count g (if b then keys_after [] refs else keys_after [] refs ++ r.key ∷ [])
        ≡ (if b then group_count g (keys_after [] refs)
        else (if text_same r.key.group g then suc (group_count g (keys_after [] refs)) else group_count g (keys_after [] refs)))
    cases true = refl
    cases false = count_push g (keys_after [] refs) r.key

-- ---- first positions

first_joined : (xs ys : List RefAt) → first_of_refs (xs ++ ys) ≡ option_or (first_of_refs xs) (first_of_refs ys)
first_joined [] ys = refl
first_joined (x ∷ xs) ys = refl

first_more : (test : RefAt → Bool) (refs : List RefAt) (r : RefAt) → first_place test (refs ++ r ∷ []) ≡ option_or (first_place test refs) (place_if (test r) r.at)
first_more test refs r =
    ap first_of_refs (filter-append test refs (r ∷ [])) ∙ first_joined (filter test refs) (filter test (r ∷ [])) ∙ ap (option_or (first_place test refs)) (own (test r))
  where
    own : (b : Bool) → first_of_refs (cond b (r ∷ []) []) ≡ place_if b r.at
    own true = refl
    own false = refl

or_none : (o : Option ℕ) → option_or o None ≡ o
or_none None = refl
or_none (Some n) = refl

-- where no reference has the key, no owner has it
no_owner : (key : RefKey) (refs : List RefAt) → first_place (has_key key) refs ≡ None → first_place (is_owner_of key) refs ≡ None
no_owner key [] h = refl
no_owner key (r ∷ refs) h = cases (ref_key_same r.key key) h (no_owner key refs)
  where
    cases : (b : Bool) → first_of_refs (cond b (r ∷ filter (has_key key) refs) (filter (has_key key) refs)) ≡ None →
        (first_place (has_key key) refs ≡ None → first_place (is_owner_of key) refs ≡ None) →
        first_of_refs (cond (b && r.owner) (r ∷ filter (is_owner_of key) refs) (filter (is_owner_of key) refs)) ≡ None
    cases false e rest = rest e
    cases true e rest = absurd cc

-- ---- what is known of a key

-- another key is known as before
pub seen_other : (key : RefKey) (refs : List RefAt) (r : RefAt) → ref_key_same r.key key ≡ false → seen_in key (refs ++ r ∷ []) ≡ seen_in key refs
seen_other key refs r e =
    ap (seen_from key (refs ++ r ∷ [])) (first_more (has_key key) refs r ∙ ap (λ b. option_or (first_place (has_key key) refs) (place_if b r.at)) e ∙ or_none _)
    ∙ cases (first_place (has_key key) refs) refl
  where
    owner : first_place (is_owner_of key) (refs ++ r ∷ []) ≡ first_place (is_owner_of key) refs
    owner = first_more (is_owner_of key) refs r ∙ ap (λ b. option_or (first_place (is_owner_of key) refs) (place_if (b && r.owner) r.at)) e ∙ or_none _

    cases : (first : Option ℕ) → first_place (has_key key) refs ≡ first → seen_from key (refs ++ r ∷ []) first ≡ seen_from key refs first
    cases None f = refl
    cases (Some first) f =
        let number = number_kept key refs r (key_of_some key refs (Some first) f) in
        λ i. Some (record { number = number i; first = first; owner = owner i })

-- the key of one more reference
pub seen_own : (refs : List RefAt) (r : RefAt) → seen_in r.key (refs ++ r ∷ []) ≡ Some (seen_next (seen_in r.key refs) (group_count r.key.group (keys_after [] refs)) r.at r.owner)
seen_own refs r =
    ap (seen_from r.key (refs ++ r ∷ []))
    (first_more (has_key r.key) refs r ∙ ap (λ b. option_or (first_place (has_key r.key) refs) (place_if b r.at)) (same_itself r.key))
    ∙ cases (first_place (has_key r.key) refs) refl
  where
    owner : first_place (is_owner_of r.key) (refs ++ r ∷ []) ≡ option_or (first_place (is_owner_of r.key) refs) (place_if r.owner r.at)
    owner = first_more (is_owner_of r.key) refs r ∙ ap (λ b. option_or (first_place (is_owner_of r.key) refs) (place_if (b && r.owner) r.at)) (same_itself r.key)

    cases : (first : Option ℕ) → first_place (has_key r.key) refs ≡ first →
        seen_from r.key (refs ++ r ∷ []) (option_or first (Some r.at)) ≡ Some (seen_next (seen_from r.key refs first) (group_count r.key.group (keys_after [] refs)) r.at r.owner)
    cases None f =
        let number = number_first refs r (key_of_some r.key refs None f) in
        let own = owner ∙ ap (λ o. option_or o (place_if r.owner r.at)) (no_owner r.key refs f) in
        λ i. Some (record { number = number i; first = r.at; owner = own i })
    cases (Some first) f =
        let number = number_kept r.key refs r (key_of_some r.key refs (Some first) f) in
        λ i. Some (record { number = number i; first = first; owner = owner i })
