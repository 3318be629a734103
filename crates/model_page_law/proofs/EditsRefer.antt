-- Edits, fragments and whole histories keep that each reference is editable.
use Rattle.std.proofs.Common.{◌≡◌, ℕ, zero, suc, ◌-◌, ◌+◌, ◌<◌, Bool, true, false, not, ◌&&◌, if◌then◌else◌, List, [], ◌∷◌, ◌++◌, map, length, take, drop, Result, Ok, Err, refl, sym, ap, ◌∙◌, subst, append_assoc, append-nil, arith, take-append-drop}
use Rattle.std.specs.Prelude.{chars, nat_le}
use Rattle.std.proofs.lemmas.Bool.{and_parts, and_from}
use Rattle.ve_kinds.specs.declared.kind.Kind.{Kind}
use Rattle.ve_kinds.specs.declared.kind.Kind.TheVariants.{P}
use Rattle.ve_kinds.specs.Table.{is_element, is_flow}
use Rattle.ve_base.specs.Empty.{empty_head}
use Rattle.model_items.specs.declared.plain_item.PlainItem.{PlainItem}
use Rattle.model_items.specs.declared.plain_item.PlainItem.TheVariants.{Char, Opening, Closing}
use Rattle.model_items.specs.Same.{text_same, option_same}
use Rattle.model_change.specs.Attributes.{AttrChange, value_of, is_reserved, attrs_changed, item_changed, allows, change_back}
use Rattle.model_change.specs.Transaction.{Retain, Replace, Attribute, Transaction, all_inserted, on_first, edited, old_length, new_length}
use Rattle.model_change.specs.Fault.{first_allows}
use Rattle.model_change.specs.Inverse.{attribute_ops, inverse_after, inverse}
use Rattle.model_change.specs.Join.{RangeConflict, first, without_first, last, without_end, core, is_active, start_of, end_of, both_attributes, conflict, retained, with_ends, moved_on, with_new_end, join, range_conflict, row_with, list_with, join_row, after_row, join_list}
use Rattle.model_change.specs.Replay.{replay, reversal, flattened, mine_of, entry_at, made_before, made_after, AllRun}
use Rattle.model_change.proofs.Fits.{Fits, parts_of_Applies}
use Rattle.model_page.specs.Elements.{is_white}
use Rattle.model_page.specs.Parts.{Parts, parts_of, source_of}
use Rattle.model_page.specs.Fit.{around_in}
use Rattle.model_page.specs.Pieces.{Progress}
use Rattle.model_page.specs.Convert.{made_of}
use Rattle.model_page.specs.Fragment.{context_of, item_unmade, pieces_in}
use Rattle.model_page.specs.Editable.{head_refers, item_refers, all_refer}
use Rattle.model_page_law.specs.Referring.{FragmentsRefer, inserts_referring, EditsRefer, InversesRefer, JoinsRefer, all_insert_referring, ReplaysRefer, ReversalsRefer, JoinListsRefer, RevokesRefer}
use Rattle.model_page_law.proofs.MadeRefers.{other_refers, element-other, refers-append, refers-chars, Refers-inside_piece, Refers-made_of}
use Rattle.model_page_law.proofs.PageRefers.{none-refer}

-- ---- lists

refers-parts : (xs ys : List PlainItem) → all_refer (xs ++ ys) ≡ true → (all_refer xs ≡ true) × (all_refer ys ≡ true)
refers-parts [] ys h = (refl, h)
refers-parts (x ∷ xs) ys h =
    let p = and_parts (item_refers x) (all_refer (xs ++ ys)) h in
    let q = refers-parts xs ys p.1 in
    (and_from (item_refers x) (all_refer xs) p.0 q.0, q.1)

-- cut at a position
refers-cut : (n : ℕ) (items : List PlainItem) → all_refer items ≡ true → (all_refer (take n items) ≡ true) × (all_refer (drop n items) ≡ true)
refers-cut n items h = refers-parts (take n items) (drop n items) (ap all_refer (take-append-drop n items) ∙ h)

-- ---- a fragment

refers-unmade : (items : List PlainItem) → all_refer (map item_unmade items) ≡ all_refer items
refers-unmade [] = refl
refers-unmade (Char c marks ∷ items) = refers-unmade items
refers-unmade (Closing kind pre ∷ items) = refers-unmade items
refers-unmade (Opening kind head marks pre origin generated ∷ items) = ap (λ b. head_refers kind head && b) (refers-unmade items)

refers-pieces_in : (k : Kind) (parts : Parts) → all_refer (pieces_in k parts).later.items ≡ true
refers-pieces_in k parts =
    let w : Progress = record { at = 0; owners = []; editable = false } in
    Refers-inside_piece (around_in k) w (made_of (around_in k) parts w) (Refers-made_of false (around_in k) parts (none-refer parts) w refl)

chosen : (c : Bool) (xs ys : List PlainItem) → all_refer xs ≡ true → all_refer ys ≡ true → all_refer (if c then xs else ys) ≡ true
chosen true xs ys h g = h
chosen false xs ys h g = g

pub fragments_refer : FragmentsRefer
fragments_refer stack f =
    let parts : Parts = parts_of f in
    let k : Kind = context_of parts stack in
    let text : List PlainItem = map (λ c. Char c []) (chars (source_of parts)) in
    chosen (is_flow k && is_white (source_of parts)) (Opening P empty_head [] [] _ false ∷ text ++ Closing P [] ∷ []) (map item_unmade (pieces_in k parts).later.items)
    (refers-append text (Closing P [] ∷ []) (refers-chars [] (chars (source_of parts))) refl)
    (refers-unmade (pieces_in k parts).later.items ∙ refers-pieces_in k parts)

-- ---- one transaction

refers-changed : (c : AttrChange) (item : PlainItem) → allows c item ≡ true → item_refers (item_changed c item) ≡ true
refers-changed c (Char ch marks) h = cc
refers-changed c (Closing kind pre) h = cc
refers-changed c (Opening kind head marks pre origin generated) h =
    other_refers kind (element-other kind (and_parts (is_element kind) (option_same text_same (value_of c.name head.attrs) c.from && not (is_reserved c.name)) h).0)
    (record { tag = head.tag; attrs = attrs_changed c.name c.kept c.from c.to head.attrs; raw = head.raw; reference = head.reference; owner = head.owner })

refers-on_first : (c : AttrChange) (items : List PlainItem) → first_allows c items ≡ true → all_refer items ≡ true → all_refer (on_first (item_changed c) items) ≡ true
refers-on_first c [] h r = cc
refers-on_first c (item ∷ items) h r = and_from (item_refers (item_changed c item)) (all_refer items) (refers-changed c item h) (and_parts (item_refers item) (all_refer items) r).1

refers-edited : (t : Transaction) (items : List PlainItem) → Fits t items → inserts_referring t ≡ true → all_refer items ≡ true → all_refer (edited t items) ≡ true
refers-edited [] items f i r = r
refers-edited (Retain count ∷ ops) items f i r =
    let p = refers-cut count items r in
    refers-append (take count items) (edited ops (drop count items)) p.0 (refers-edited ops (drop count items) f i p.1)
refers-edited (Replace removed inserted ∷ ops) items f i r =
    let p = refers-parts inserted (all_inserted ops) i in
    refers-append inserted (edited ops (drop (length removed) items)) p.0 (refers-edited ops (drop (length removed) items) f.1 p.1 (refers-cut (length removed) items r).1)
refers-edited (Attribute c ∷ ops) items f i r = refers-edited ops (on_first (item_changed c) items) f.1 i (refers-on_first c items f.0 r)

pub edits_refer : EditsRefer
edits_refer t items a i r = refers-edited t items (parts_of_Applies t items a).1 i r

-- ---- what undoes it

inserts-attribute_ops : (changes : List AttrChange) (ops : Transaction) → inserts_referring (attribute_ops changes ++ ops) ≡ inserts_referring ops
inserts-attribute_ops [] ops = refl
inserts-attribute_ops (c ∷ changes) ops = inserts-attribute_ops changes ops

inserts-inverse : (ops : Transaction) (changes : List AttrChange) (items : List PlainItem) → Fits ops items → all_refer items ≡ true → inserts_referring (inverse_after changes ops) ≡ true
inserts-inverse [] changes items f r = ap inserts_referring (sym (append-nil (attribute_ops changes))) ∙ inserts-attribute_ops changes []
inserts-inverse (Retain count ∷ ops) changes items f r =
    inserts-attribute_ops changes (Retain count ∷ inverse_after [] ops) ∙ inserts-inverse ops [] (drop count items) f (refers-cut count items r).1
inserts-inverse (Replace removed inserted ∷ ops) changes items f r =
    let p = refers-parts removed (drop (length removed) items) (ap all_refer (sym f.0) ∙ r) in
    inserts-attribute_ops changes (Replace inserted removed ∷ inverse_after [] ops)
    ∙ refers-append removed (all_inserted (inverse_after [] ops)) p.0 (inserts-inverse ops [] (drop (length removed) items) f.1 p.1)
inserts-inverse (Attribute c ∷ ops) changes items f r = inserts-inverse ops (change_back c ∷ changes) (on_first (item_changed c) items) f.1 (refers-on_first c items f.0 r)

pub inverses_refer : InversesRefer
inverses_refer t items a r = inserts-inverse t [] items (parts_of_Applies t items a).1 r

-- ---- two that are joined

inserts-append : (s t : Transaction) → inserts_referring s ≡ true → inserts_referring t ≡ true → inserts_referring (s ++ t) ≡ true
inserts-append [] t p q = q
inserts-append (Retain count ∷ s) t p q = inserts-append s t p q
inserts-append (Replace removed inserted ∷ s) t p q =
    let i = refers-parts inserted (all_inserted s) p in
    refers-append inserted (all_inserted (s ++ t)) i.0 (inserts-append s t i.1 q)
inserts-append (Attribute c ∷ s) t p q = inserts-append s t p q

inserts-retained : (n : ℕ) → inserts_referring (retained n) ≡ true
inserts-retained zero = refl
inserts-retained (suc n) = refl

inserts-without_end : (ops : Transaction) → inserts_referring ops ≡ true → inserts_referring (without_end ops) ≡ true
inserts-without_end [] p = refl
inserts-without_end (Retain count ∷ []) p = refl
inserts-without_end (Retain count ∷ (op ∷ ops)) p = inserts-without_end (op ∷ ops) p
inserts-without_end (Replace removed inserted ∷ ops) p =
    let i = refers-parts inserted (all_inserted ops) p in
    refers-append inserted (all_inserted (without_end ops)) i.0 (inserts-without_end ops i.1)
inserts-without_end (Attribute c ∷ ops) p = inserts-without_end ops p

inserts-without_first : (t : Transaction) → inserts_referring t ≡ true → inserts_referring (without_first t) ≡ true
inserts-without_first [] p = refl
inserts-without_first (Retain count ∷ ops) p = p
inserts-without_first (Replace removed inserted ∷ ops) p = p
inserts-without_first (Attribute c ∷ ops) p = p

inserts-reshaped : (before : ℕ) (t : Transaction) (suffix : ℕ) → inserts_referring t ≡ true → inserts_referring (with_ends before (core t) suffix) ≡ true
inserts-reshaped before t suffix p =
    inserts-append (retained before) (core t ++ retained suffix) (inserts-retained before)
    (inserts-append (core t) (retained suffix) (inserts-without_end (without_first t) (inserts-without_first t p)) (inserts-retained suffix))

abbrev BothRefer : Transaction × Transaction → Type 0
BothRefer r = (inserts_referring r.0 ≡ true) × (inserts_referring r.1 ≡ true)

both_chosen : (c : Bool) (r s : Transaction × Transaction) → BothRefer r → BothRefer s → BothRefer (if c then r else s)
both_chosen true r s h g = h
both_chosen false r s h g = g

pub joins_refer : JoinsRefer
joins_refer a b p q =
    both_chosen (both_attributes a b) (a, b) _ (p, q)
    (both_chosen (not (is_active a)) (retained (new_length b), b) _ (inserts-retained (new_length b), q)
    (both_chosen (not (is_active b)) (a, retained (new_length a)) _ (p, inserts-retained (new_length a))
    (both_chosen (nat_le (end_of a) (start_of b)) (with_new_end a b, moved_on b a) (moved_on a b, with_new_end b a)
    (inserts-reshaped (first a) a ((last a + new_length b) - old_length b) p, inserts-reshaped ((first b + new_length a) - old_length a) b (last b) q)
    (inserts-reshaped ((first a + new_length b) - old_length b) a (last a) p, inserts-reshaped (first b) b ((last b + new_length a) - old_length a) q))))

-- ---- histories

pub replays_refer : ReplaysRefer
replays_refer [] items run i r = r
replays_refer (t ∷ ts) items run i r =
    let p = and_parts (inserts_referring t) (all_insert_referring ts) i in
    replays_refer ts (edited t items) run.1 p.1 (edits_refer t items run.0.applies p.0 r)

insert-both : (xs ys : List Transaction) → all_insert_referring xs ≡ true → all_insert_referring ys ≡ true → all_insert_referring (xs ++ ys) ≡ true
insert-both [] ys h g = g
insert-both (x ∷ xs) ys h g =
    let p = and_parts (inserts_referring x) (all_insert_referring xs) h in
    and_from (inserts_referring x) (all_insert_referring (xs ++ ys)) p.0 (insert-both xs ys p.1 g)

pub reversals_refer : ReversalsRefer
reversals_refer [] items run i r = refl
reversals_refer (t ∷ ts) items run i r =
    let p = and_parts (inserts_referring t) (all_insert_referring ts) i in
    insert-both (reversal ts) (inverse t ∷ []) (reversals_refer ts (edited t items) run.1 p.1 (edits_refer t items run.0.applies p.0 r))
    (and_from (inserts_referring (inverse t)) true (inverses_refer t items run.0.applies r) refl)

-- a row of transactions with one of mine after it
abbrev RowRefers : Result (List Transaction × Transaction) RangeConflict → Type 0
RowRefers (Ok row) = (all_insert_referring row.0 ≡ true) × (inserts_referring row.1 ≡ true)
RowRefers (Err clash) = Unit {0}

abbrev ListsRefer : Result (List Transaction × List Transaction) RangeConflict → Type 0
ListsRefer (Ok joined) = (all_insert_referring joined.0 ≡ true) × (all_insert_referring joined.1 ≡ true)
ListsRefer (Err clash) = Unit {0}

row-with : (t : Transaction) (row : Result (List Transaction × Transaction) RangeConflict) → inserts_referring t ≡ true → RowRefers row → RowRefers (row_with t row)
row-with t (Ok row) p r = (and_from (inserts_referring t) (all_insert_referring row.0) p r.0, r.1)
row-with t (Err clash) p r = tt

row-chosen : (c : Bool) (clash : RangeConflict) (row : Result (List Transaction × Transaction) RangeConflict) → RowRefers row → RowRefers (if c then Err clash else row)
row-chosen true clash row r = tt
row-chosen false clash row r = r

row-refers : (committed : List Transaction) (mine : Transaction) → all_insert_referring committed ≡ true → inserts_referring mine ≡ true → RowRefers (join_row committed mine)
row-refers [] mine c m = (refl, m)
row-refers (one ∷ committed) mine c m =
    let p = and_parts (inserts_referring one) (all_insert_referring committed) c in
    let j = joins_refer one mine p.0 m in
    row-chosen (conflict one mine) (range_conflict one mine) _ (row-with (join one mine).0 (join_row committed (join one mine).1) j.0 (row-refers committed (join one mine).1 p.1 j.1))

list-with : (t : Transaction) (joined : Result (List Transaction × List Transaction) RangeConflict) → inserts_referring t ≡ true → ListsRefer joined → ListsRefer (list_with t joined)
list-with t (Ok joined) p r = (r.0, and_from (inserts_referring t) (all_insert_referring joined.1) p r.1)
list-with t (Err clash) p r = tt

row-after : (row : Result (List Transaction × Transaction) RangeConflict) (rest : List Transaction → Result (List Transaction × List Transaction) RangeConflict) → RowRefers row →
    ((over : List Transaction) → all_insert_referring over ≡ true → ListsRefer (rest over)) → ListsRefer (after_row row rest)
row-after (Ok row) rest r f = list-with row.1 (rest row.0) r.1 (f row.0 r.0)
row-after (Err clash) rest r f = tt

lists-refer : (mine committed : List Transaction) → all_insert_referring committed ≡ true → all_insert_referring mine ≡ true → ListsRefer (join_list committed mine)
lists-refer [] committed c m = (c, refl)
lists-refer (one ∷ mine) committed c m =
    let p = and_parts (inserts_referring one) (all_insert_referring mine) m in
    row-after (join_row committed one) (λ over. join_list over mine) (row-refers committed one c p.0) (λ over o. lists-refer mine over o p.1)

pub join_lists_refer : JoinListsRefer
join_lists_refer committed mine joined e c m = subst ListsRefer e (lists-refer mine committed c m)

-- ---- an entry that is taken back

runs-parts : (ts us : List Transaction) (items : List PlainItem) → AllRun (ts ++ us) items → AllRun ts items × AllRun us (replay ts items)
runs-parts [] us items r = (tt, r)
runs-parts (t ∷ ts) us items r = let p = runs-parts ts us (edited t items) r.1 in ((r.0, p.0), p.1)

insert-parts : (ts us : List Transaction) → all_insert_referring (ts ++ us) ≡ true → (all_insert_referring ts ≡ true) × (all_insert_referring us ≡ true)
insert-parts [] us h = (refl, h)
insert-parts (t ∷ ts) us h =
    let p = and_parts (inserts_referring t) (all_insert_referring (ts ++ us)) h in
    let q = insert-parts ts us p.1 in
    (and_from (inserts_referring t) (all_insert_referring ts) p.0 q.0, q.1)

-- the transactions before the entry, its own, and those after it
flattened-parts : (entries : List (List Transaction)) (i : ℕ) → i < length entries → flattened entries ≡ made_before entries i ++ (entry_at entries i ++ made_after entries i)
flattened-parts [] i l = absurd (omega (arith, l))
flattened-parts (entry ∷ entries) zero l = refl
flattened-parts (entry ∷ entries) (suc i) l = ap (λ ts. entry ++ ts) (flattened-parts entries i (omega (arith, l))) ∙ sym (append_assoc entry (made_before entries i) (entry_at entries i ++ made_after entries i))

ok_same : (ts us : List Transaction) → ◌≡◌ {A = Result (List Transaction) RangeConflict} (Ok ts) (Ok us) → ts ≡ us
ok_same ts us e = cc

mine-refers : (joined : Result (List Transaction × List Transaction) RangeConflict) (back : List Transaction) → ListsRefer joined → mine_of joined ≡ Ok back → all_insert_referring back ≡ true
mine-refers (Ok joined) back r e = ap all_insert_referring (sym (ok_same joined.1 back e)) ∙ r.1
mine-refers (Err clash) back r e = cc

pub revokes_refer : RevokesRefer
revokes_refer entries i back base l run ins r e =
    let before : List Transaction = made_before entries i in
    let entry : List Transaction = entry_at entries i in
    let after : List Transaction = made_after entries i in
    let parts : flattened entries ≡ before ++ (entry ++ after) = flattened-parts entries i l in
    let first = runs-parts before (entry ++ after) base (subst (λ ts. AllRun ts base) parts run) in
    let second = runs-parts entry after (replay before base) first.1 in
    let p = insert-parts before (entry ++ after) (ap all_insert_referring (sym parts) ∙ ins) in
    let q = insert-parts entry after p.1 in
    mine-refers (join_list after (reversal entry)) back (lists-refer (reversal entry) after q.1 (reversals_refer entry (replay before base) second.0 q.0 (replays_refer before base first.0 p.0 r))) e
