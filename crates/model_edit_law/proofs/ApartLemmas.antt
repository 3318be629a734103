-- Names apart: in parts of lists, in copies of openings, and in what the transaction of edits
-- inserts.
use Rattle.std.specs.Prelude.{slice_get, codes, flat_map}
use Rattle.std.proofs.Common.{◌≡◌, inl, inr, ℕ, zero, suc, ◌+◌, ◌-◌, Bool, true, false, if◌then◌else◌, List, [], ◌∷◌, ◌++◌, length, map, reverse, take, drop, Contains, Option, Some, None, refl, sym, ap, ◌∙◌, subst}
use Rattle.std.proofs.lemmas.Grind.{reverse_onto}
use Rattle.std.proofs.lemmas.List.{append_assoc}
use Rattle.std.proofs.lemmas.List.Elements.{Contains-append_left, Contains-append_right, Contains-append_cases}
use Rattle.ve_base.specs.declared.attrs.Attr.{Attr}
use Rattle.ve_base.specs.Names.{names, NamesApart}
use Rattle.model_items.specs.declared.plain_item.PlainItem.{PlainItem}
use Rattle.model_items.specs.declared.plain_item.PlainItem.TheVariants.{Char, Opening, Closing}
use Rattle.model_items.specs.Same.{text_same}
use Rattle.model_change.specs.Attributes.{attr_removed, NamesApartIn, AllNamesApart}
use Rattle.model_change.specs.Transaction.{Retain, Replace, Attribute, Transaction, all_inserted, InsertedApart}
use Rattle.model_change.proofs.FilledLemmas.{names_stay_apart}
use Rattle.model_edit.specs.Brackets.{copy_of, closing_for}
use Rattle.model_items.specs.Offsets.{openings_after, openings_at}
use Rattle.model_edit.specs.Edits.{Edit, Change, Set, retaining, merged, replacing, setting, transaction_from, transaction_of}
use Rattle.model_edit_law.specs.ApartLaws.{inserted_pieces, EditsInsertPieces, EditsAreApart, EditsStayApart, FineStaysApart}
use Rattle.model_edit_law.proofs.FineLemmas.{edits_are_fine, edits_substitute}

-- parts of lists

pub AllNamesApart-append : (xs ys : List PlainItem) → AllNamesApart xs → AllNamesApart ys → AllNamesApart (xs ++ ys)
AllNamesApart-append [] ys p q = q
AllNamesApart-append (x ∷ xs) ys p q = (p.0, AllNamesApart-append xs ys p.1 q)

AllNamesApart-prefix : (xs ys : List PlainItem) → AllNamesApart (xs ++ ys) → AllNamesApart xs
AllNamesApart-prefix [] ys p = tt
AllNamesApart-prefix (x ∷ xs) ys p = (p.0, AllNamesApart-prefix xs ys p.1)

AllNamesApart-suffix : (xs ys : List PlainItem) → AllNamesApart (xs ++ ys) → AllNamesApart ys
AllNamesApart-suffix [] ys p = p
AllNamesApart-suffix (x ∷ xs) ys p = AllNamesApart-suffix xs ys p.1

pub AllNamesApart-take : (n : ℕ) (items : List PlainItem) → AllNamesApart items → AllNamesApart (take n items)
AllNamesApart-take zero items p = tt
AllNamesApart-take (suc n) [] p = tt
AllNamesApart-take (suc n) (item ∷ items) p = (p.0, AllNamesApart-take n items p.1)

pub AllNamesApart-reverse : (items : List PlainItem) → AllNamesApart items → AllNamesApart (reverse items)
AllNamesApart-reverse [] p = tt
AllNamesApart-reverse (x ∷ items) p =
    subst AllNamesApart (sym (reverse_onto items x []))
    (AllNamesApart-append (reverse items) (x ∷ []) (AllNamesApart-reverse items p.1) (p.0, tt))

abbrev pub FoundApart : Option PlainItem → Type 0
FoundApart None = Unit {0}
FoundApart (Some item) = NamesApartIn item

pub found_apart : (items : List PlainItem) (n : ℕ) → AllNamesApart items → FoundApart (slice_get items n)
found_apart [] n p = tt
found_apart (x ∷ items) zero p = p.0
found_apart (x ∷ items) (suc n) p = found_apart items n p.1

-- copies of openings

names_kept : (name n : List ℕ) (attrs : List Attr) → Contains (names (attr_removed name attrs)) n → Contains (names attrs) n
names_kept name n [] h = h
names_kept name n (a ∷ attrs) h = by_test (names_kept name n attrs) (text_same a.name name) h
  where
    by_test : (Contains (names (attr_removed name attrs)) n → Contains (names attrs) n) → (b : Bool) →
        Contains (names (if b then attrs else a ∷ attr_removed name attrs)) n → Contains (names (a ∷ attrs)) n
    by_test kept true h = Contains-append_right (a.name ∷ []) (names attrs) n h
    by_test kept false h =
        elim (Contains-append_cases (a.name ∷ []) (names (attr_removed name attrs)) n h) [
          | inl first ↦ Contains-append_left (a.name ∷ []) (names attrs) n first
          | inr later ↦ Contains-append_right (a.name ∷ []) (names attrs) n (kept later)
        ]

apart-attr_removed : (name : List ℕ) (attrs : List Attr) → NamesApart attrs → NamesApart (attr_removed name attrs)
apart-attr_removed name [] h = tt
apart-attr_removed name (a ∷ attrs) h =
    elim (text_same a.name name) as (λ b. NamesApart (if b then attrs else a ∷ attr_removed name attrs)) [
      | true ↦ h.1
      | false ↦ (λ within. h.0 (names_kept name a.name attrs within), apart-attr_removed name attrs h.1)
    ]

pub copy_apart : (item : PlainItem) → NamesApartIn item → NamesApartIn (copy_of item)
copy_apart (Char c marks) h = tt
copy_apart (Opening kind head marks pre origin generated) h = apart-attr_removed (codes "id") head.attrs h
copy_apart (Closing kind pre) h = tt

pub copies_apart : (items : List PlainItem) → AllNamesApart items → AllNamesApart (reverse (map copy_of items))
copies_apart items p = AllNamesApart-reverse (map copy_of items) (each items p)
  where
    each : (items : List PlainItem) → AllNamesApart items → AllNamesApart (map copy_of items)
    each [] p = tt
    each (x ∷ items) p = (copy_apart x p.0, each items p.1)

pub closings_apart : (items : List PlainItem) → AllNamesApart (map closing_for items)
closings_apart [] = tt
closings_apart (Char c marks ∷ items) = (tt, closings_apart items)
closings_apart (Opening kind head marks pre origin generated ∷ items) = (tt, closings_apart items)
closings_apart (Closing kind pre ∷ items) = (tt, closings_apart items)

openings_after_apart : (outer items : List PlainItem) → AllNamesApart outer → AllNamesApart items → AllNamesApart (openings_after outer items)
openings_after_apart outer [] p q = p
openings_after_apart outer (Char c marks ∷ items) p q = openings_after_apart outer items p q.1
openings_after_apart outer (Opening kind head marks pre origin generated ∷ items) p q =
    openings_after_apart (Opening kind head marks pre origin generated ∷ outer) items (q.0, p) q.1
openings_after_apart [] (Closing kind pre ∷ items) p q = openings_after_apart [] items p q.1
openings_after_apart (x ∷ outer) (Closing kind pre ∷ items) p q = openings_after_apart outer items p.1 q.1

pub openings_apart : (items : List PlainItem) (at : ℕ) → AllNamesApart items → AllNamesApart (openings_at items at)
openings_apart items at p = openings_after_apart [] (take at items) tt (AllNamesApart-take at items p)

-- what the transaction of edits inserts

inserted-retaining : (n : ℕ) (t : Transaction) → all_inserted (retaining n t) ≡ all_inserted t
inserted-retaining zero t = refl
inserted-retaining (suc n) [] = refl
inserted-retaining (suc n) (Retain count ∷ ops) = refl
inserted-retaining (suc n) (Replace removed inserted ∷ ops) = refl
inserted-retaining (suc n) (Attribute change ∷ ops) = refl

inserted-merged : (removed inserted : List PlainItem) (t : Transaction) → all_inserted (merged removed inserted t) ≡ inserted ++ all_inserted t
inserted-merged removed inserted [] = refl
inserted-merged removed inserted (Retain count ∷ ops) = refl
inserted-merged removed inserted (Attribute change ∷ ops) = refl
inserted-merged removed inserted (Replace next others ∷ ops) = append_assoc inserted others (all_inserted ops)

inserted-replacing : (removed inserted : List PlainItem) (t : Transaction) → all_inserted (replacing removed inserted t) ≡ inserted ++ all_inserted t
inserted-replacing [] [] t = refl
inserted-replacing [] (one ∷ inserted) t = inserted-merged [] (one ∷ inserted) t
inserted-replacing (one ∷ removed) inserted t = inserted-merged (one ∷ removed) inserted t

inserted-transaction_from : (at : ℕ) (items : List PlainItem) (edits : List Edit) → all_inserted (transaction_from at items edits) ≡ inserted_pieces edits
inserted-transaction_from at items [] = inserted-retaining (length items) []
inserted-transaction_from at items (Change place count inserted ∷ edits) =
    let rest = drop (place - at) items in
    let later = transaction_from (place + count) (drop count rest) edits in
    inserted-retaining (place - at) (replacing (take count rest) inserted later)
    ∙ inserted-replacing (take count rest) inserted later
    ∙ ap (λ v. inserted ++ v) (inserted-transaction_from (place + count) (drop count rest) edits)
inserted-transaction_from at items (Set place name to ∷ edits) =
    let rest = drop (place - at) items in
    inserted-retaining (place - at) (Attribute (setting name to rest) ∷ transaction_from place rest edits)
    ∙ inserted-transaction_from place rest edits

pub edits_insert_pieces : EditsInsertPieces
edits_insert_pieces items edits = inserted-transaction_from 0 items edits

InsertedApart-from : (t : Transaction) → AllNamesApart (all_inserted t) → InsertedApart t
InsertedApart-from [] p = tt
InsertedApart-from (Retain count ∷ ops) p = InsertedApart-from ops p
InsertedApart-from (Replace removed inserted ∷ ops) p =
    (AllNamesApart-prefix inserted (all_inserted ops) p, InsertedApart-from ops (AllNamesApart-suffix inserted (all_inserted ops) p))
InsertedApart-from (Attribute change ∷ ops) p = InsertedApart-from ops p

pub edits_are_apart : EditsAreApart
edits_are_apart items edits p = InsertedApart-from (transaction_of items edits) (subst AllNamesApart (sym (edits_insert_pieces items edits)) p)

pub fine_stays_apart : FineStaysApart
fine_stays_apart items t fine apart given = names_stay_apart t items fine.applies given apart

pub edits_stay_apart : EditsStayApart
edits_stay_apart items edits order may apart pieces =
    subst AllNamesApart (edits_substitute items edits order)
    (fine_stays_apart items (transaction_of items edits) (edits_are_fine items edits order may) apart (edits_are_apart items edits pieces))

-- lists of edits

pub pieces_apart-append : (xs ys : List Edit) → AllNamesApart (inserted_pieces xs) → AllNamesApart (inserted_pieces ys) → AllNamesApart (inserted_pieces (xs ++ ys))
pieces_apart-append [] ys p q = q
pieces_apart-append (Change place count inserted ∷ xs) ys p q =
    AllNamesApart-append inserted (inserted_pieces (xs ++ ys)) (AllNamesApart-prefix inserted (inserted_pieces xs) p)
    (pieces_apart-append xs ys (AllNamesApart-suffix inserted (inserted_pieces xs) p) q)
pieces_apart-append (Set place name to ∷ xs) ys p q = pieces_apart-append xs ys p q

pub pieces_apart-each : {A : Type 0} (f : A → List Edit) → ((x : A) → AllNamesApart (inserted_pieces (f x))) → (xs : List A) →
    AllNamesApart (inserted_pieces (flat_map f xs))
pieces_apart-each f h [] = tt
pieces_apart-each f h (x ∷ xs) = pieces_apart-append (f x) (flat_map f xs) (h x) (pieces_apart-each f h xs)

pub pieces_apart-map : {A : Type 0} (f : A → Edit) → ((x : A) → AllNamesApart (inserted_pieces (f x ∷ []))) → (xs : List A) → AllNamesApart (inserted_pieces (map f xs))
pieces_apart-map f h [] = tt
pieces_apart-map f h (x ∷ xs) = pieces_apart-append (f x ∷ []) (map f xs) (h x) (pieces_apart-map f h xs)
