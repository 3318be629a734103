-- Items that may stand: in parts of lists, in copies of open nodes, and in what edits insert.
use Rattle.std.specs.Prelude.{codes, flat_map, nat_le, nat_lt, slice_get}
use Rattle.std.specs.List.{AllByRecursion, list_any}
use Rattle.std.proofs.Common.{◌≡◌, ℕ, zero, suc, Bool, true, false, ◌&&◌, ◌||◌, if◌then◌else◌, List, [], ◌∷◌, ◌++◌, length, map, reverse, take, drop, Option, Some, None, refl, sym, ap, ◌∙◌, subst}
use Rattle.std.proofs.lemmas.Bool.{and_from, and_parts, or_parts}
use Rattle.std.proofs.lemmas.Grind.{reverse_onto}
use Rattle.std.proofs.lemmas.List.{take-append-drop}
use Rattle.ve_kinds.specs.declared.kind.Kind.{Kind}
use Rattle.ve_kinds.specs.declared.kind.Kind.TheVariants.{AlienBlock, AlienInline, Br, Img, InternalItem, InternalList, Ref, TransBlock, TransInline}
use Rattle.ve_kinds.specs.Table.{is_element, is_leaf, kind_same, may_hold}
use Rattle.ve_base.specs.Limits.{max_marks}
use Rattle.ve_base.specs.declared.attrs.Attr.{Attr}
use Rattle.ve_base.specs.declared.head.Head.{Head}
use Rattle.ve_base.specs.declared.marks.Mark.{Mark}
use Rattle.model_items.specs.declared.plain_item.PlainItem.{PlainItem}
use Rattle.model_items.specs.declared.plain_item.PlainItem.TheVariants.{Char, Closing, Opening}
use Rattle.model_items.specs.Law.{Lawful, after, finish, start, top}
use Rattle.model_items.specs.Offsets.{openings_at, stack_at}
use Rattle.model_items.proofs.LawLemmas.{after_from_Lawful, after_parts}
use Rattle.model_change.specs.Attributes.{AttrChange, allows, attr_removed, attrs_changed, item_changed, value_of}
use Rattle.model_items.specs.Same.{option_same, text_same}
use Rattle.model_edit.specs.Brackets.{closing_for, copy_of, is_internal, opening_of}
use Rattle.model_edit.specs.Edits.{Change, Edit, Set}
use Rattle.model_edit.specs.Insert.{may_hold_pieces, levels_up, reopened}
use Rattle.model_edit_law.specs.ApartLaws.{inserted_pieces}
use Rattle.model_edit_law.proofs.BracketLemmas.{Openings, Openings-after, fits, fits-after, fits_parts, stack_at-after}
use Rattle.model_edit_law.proofs.InsertLemmas.{Openings-take}
use Rattle.model_page.specs.Editable.{head_refers, item_refers}
use Rattle.model_page_law.proofs.MadeRefers.{Other, element-other, other_refers}
use Rattle.model_site_law.specs.ItemLaws.{AllPass, SettingKeeps, any_attr}
use Rattle.model_site_law.proofs.ItemLemmas.{any_keeps}
use Rattle.model_world_law.specs.Standing.{has_few_marks, may_stand}

abbrev pub Stands : PlainItem → Type 0
Stands item = may_stand item ≡ true

abbrev pub AllStand : List PlainItem → Type 0
AllStand items = AllPass may_stand items

-- ---- parts of lists

pub stand-append : (xs ys : List PlainItem) → AllStand xs → AllStand ys → AllStand (xs ++ ys)
stand-append [] ys p q = q
stand-append (x ∷ xs) ys p q = (p.0, stand-append xs ys p.1 q)

pub stand-reverse : (items : List PlainItem) → AllStand items → AllStand (reverse items)
stand-reverse [] p = tt
stand-reverse (x ∷ items) p = subst AllStand (sym (reverse_onto items x [])) (stand-append (reverse items) (x ∷ []) (stand-reverse items p.1) (p.0, tt))

abbrev pub FoundStands : Option PlainItem → Type 0
FoundStands None = Unit {0}
FoundStands (Some item) = Stands item

pub found_stands : (items : List PlainItem) (n : ℕ) → AllStand items → FoundStands (slice_get items n)
found_stands [] n p = tt
found_stands (x ∷ items) zero p = p.0
found_stands (x ∷ items) (suc n) p = found_stands items n p.1

-- ---- one opening

pub few_of : (item : PlainItem) → Stands item → has_few_marks item ≡ true
few_of item s = (and_parts (item_refers item) (has_few_marks item) s).1

pub opening_stands : (kind : Kind) (head : Head) (marks : List Mark) (pre : List ℕ) (origin : Option ℕ) (generated : Bool) → Other kind → nat_le (length marks) max_marks ≡ true → Stands (Opening kind head marks pre origin generated)
opening_stands kind head marks pre origin generated o few = and_from (head_refers kind head) (nat_le (length marks) max_marks) (other_refers kind o head) few

pub plain_stands : (kind : Kind) (attrs : List Attr) → Other kind → Stands (opening_of kind attrs)
plain_stands kind attrs o = opening_stands kind (record { tag = []; attrs = attrs; raw = []; reference = None; owner = false }) [] [] None false o refl

-- an attribute may be set of elements alone
setting_stands : (c : AttrChange) (item : PlainItem) → allows c item ≡ true → Stands item → Stands (item_changed c item)
setting_stands c (Char ch marks) h s = cc
setting_stands c (Closing kind pre) h s = cc
setting_stands c (Opening kind head marks pre origin generated) h s =
    opening_stands kind (record { tag = head.tag; attrs = attrs_changed c.name c.kept c.from c.to head.attrs; raw = head.raw; reference = head.reference; owner = head.owner }) marks pre origin generated
    (element-other kind (and_parts (is_element kind) (option_same text_same (value_of c.name head.attrs) c.from && _) h).0)
    (few_of (Opening kind head marks pre origin generated) s)

pub setting_keeps : SettingKeeps may_stand any_attr
setting_keeps = any_keeps may_stand setting_stands

-- ---- open nodes, closed and opened again

holder_no_leaf : (p k : Kind) → may_hold p k ≡ true → is_leaf p ≡ false
holder_no_leaf Br k h = cc
holder_no_leaf Img k h = cc
holder_no_leaf Ref k h = cc
holder_no_leaf TransInline k h = cc
holder_no_leaf AlienInline k h = cc
holder_no_leaf TransBlock k h = cc
holder_no_leaf AlienBlock k h = cc
holder_no_leaf _ k h = refl

no_leaf_no_ref : (k : Kind) → is_leaf k ≡ false → kind_same k Ref ≡ false
no_leaf_no_ref Ref h = cc
no_leaf_no_ref _ h = refl

-- kinds that are open, from one that is no leaf out
others : (kinds outer : List Kind) (seen : Bool) → list_any is_internal kinds ≡ false → fits seen (kinds ++ outer) ≡ true → is_leaf (top (kinds ++ outer)) ≡ false → AllByRecursion Other kinds
others [] outer seen none f leaf = tt
others (k ∷ kinds) outer seen none f leaf =
    let p = or_parts (is_internal k) (list_any is_internal kinds) none in
    let i = or_parts (kind_same k InternalList) (kind_same k InternalItem) p.0 in
    let q = fits_parts k (kinds ++ outer) seen i.0 f in
    let held = (and_parts (may_hold (top (kinds ++ outer)) k) _ q.0).0 in
    ((no_leaf_no_ref k leaf, i.1), others kinds outer seen p.1 q.2 (holder_no_leaf (top (kinds ++ outer)) k held))

closings_stand : (openings : List PlainItem) (kinds : List Kind) → Openings openings kinds → AllStand (map closing_for openings)
closings_stand [] [] o = tt
closings_stand (Opening kind head marks pre origin generated ∷ openings) (k ∷ kinds) o = (refl, closings_stand openings kinds o.1)
closings_stand [] (k ∷ kinds) o = absurd o
closings_stand (Opening kind head marks pre origin generated ∷ openings) [] o = absurd o
closings_stand (Char c marks ∷ openings) kinds o = absurd o
closings_stand (Closing kind pre ∷ openings) kinds o = absurd o

copies_stand : (openings : List PlainItem) (kinds : List Kind) → Openings openings kinds → AllByRecursion Other kinds → AllStand (map copy_of openings)
copies_stand [] [] o p = tt
copies_stand (Opening kind head marks pre origin generated ∷ openings) (k ∷ kinds) o p =
    (plain_stands kind (attr_removed (codes "id") head.attrs) (subst Other (sym o.0) p.0), copies_stand openings kinds o.1 p.1)
copies_stand [] (k ∷ kinds) o p = absurd o
copies_stand (Opening kind head marks pre origin generated ∷ openings) [] o p = absurd o
copies_stand (Char c marks ∷ openings) kinds o p = absurd o
copies_stand (Closing kind pre ∷ openings) kinds o p = absurd o

pub reopened_stand : (items : List PlainItem) (at depth : ℕ) (pieces : List PlainItem) → Lawful items → is_leaf (top (stack_at items at)) ≡ false → list_any is_internal (take depth (stack_at items at)) ≡ false →
    AllStand pieces → AllStand (reopened (take depth (openings_at items at)) pieces)
reopened_stand items at depth pieces lawful leaf none p =
    let whole : after start (take at items ++ drop at items) ≡ _ = ap (after start) (take-append-drop at items) ∙ after_from_Lawful items lawful in
    let q = after_parts (take at items) (drop at items) start finish whole in
    let s = q.0 in
    let inner = take depth s.stack in
    let openings = take depth (openings_at items at) in
    let same = stack_at-after items at s q.1 in
    let o : Openings openings inner = Openings-take depth (openings_at items at) s.stack (Openings-after (take at items) [] start s q.1 tt) in
    let parts : inner ++ drop depth s.stack ≡ s.stack = take-append-drop depth s.stack in
    let f : fits s.seen (inner ++ drop depth s.stack) ≡ true = subst (λ st. fits s.seen st ≡ true) (sym parts) (fits-after (take at items) start s q.1 refl) in
    let kinds = others inner (drop depth s.stack) s.seen (subst (λ st. list_any is_internal (take depth st) ≡ false) same none) f
    (subst (λ st. is_leaf (top st) ≡ false) (sym parts) (subst (λ st. is_leaf (top st) ≡ false) same leaf)) in
    stand-append (map closing_for openings) (pieces ++ reverse (map copy_of openings)) (closings_stand openings inner o)
    (stand-append pieces (reverse (map copy_of openings)) p (stand-reverse (map copy_of openings) (copies_stand openings inner o kinds)))

-- no internal node is left on the way out
pub none_left : (pieces : List PlainItem) (stack : List Kind) (j : ℕ) → levels_up pieces stack ≡ Some j → list_any is_internal (take j stack) ≡ false
none_left pieces [] zero h = refl
none_left pieces [] (suc j) h = refl
none_left pieces (inner ∷ outer) j h = by_held (λ n e. none_left pieces outer n e) (may_hold_pieces inner pieces) h
  where
    further : ((n : ℕ) → levels_up pieces outer ≡ Some n → list_any is_internal (take n outer) ≡ false) → (b : Bool) → is_internal inner ≡ b → (o : Option ℕ) → levels_up pieces outer ≡ o →
        (if b then None else Rattle.std.specs.Prelude.option_map (λ n. suc n) o) ≡ Some j → list_any is_internal (take j (inner ∷ outer)) ≡ false
    further rest true e o d h = cc
    further rest false e None d h = cc
    further rest false e (Some n) d h =
        let same : suc n ≡ j = cc in
        subst (λ m. list_any is_internal (take m (inner ∷ outer)) ≡ false) same (ap (λ b. b || list_any is_internal (take n outer)) e ∙ rest n d)

    by_held : ((n : ℕ) → levels_up pieces outer ≡ Some n → list_any is_internal (take n outer) ≡ false) → (b : Bool) →
        (if b then Some 0 else (if is_internal inner then None else Rattle.std.specs.Prelude.option_map (λ n. suc n) (levels_up pieces outer))) ≡ Some j → list_any is_internal (take j (inner ∷ outer)) ≡ false
    by_held rest true h = let same : 0 ≡ j = cc in subst (λ m. list_any is_internal (take m (inner ∷ outer)) ≡ false) same refl
    by_held rest false h = further rest (is_internal inner) refl (levels_up pieces outer) refl h

-- ---- lists of edits

pub pieces_stand-append : (xs ys : List Edit) → AllStand (inserted_pieces xs) → AllStand (inserted_pieces ys) → AllStand (inserted_pieces (xs ++ ys))
pieces_stand-append [] ys p q = q
pieces_stand-append (Change place count inserted ∷ xs) ys p q = let parts = cut inserted (inserted_pieces xs) p in stand-append inserted (inserted_pieces (xs ++ ys)) parts.0 (pieces_stand-append xs ys parts.1 q)
  where
    cut : (xs ys : List PlainItem) → AllStand (xs ++ ys) → AllStand xs × AllStand ys
    cut [] ys p = (tt, p)
    cut (x ∷ xs) ys p = let r = cut xs ys p.1 in ((p.0, r.0), r.1)
pieces_stand-append (Set place name to ∷ xs) ys p q = pieces_stand-append xs ys p q

pub pieces_stand-each : {A : Type 0} (f : A → List Edit) → ((x : A) → AllStand (inserted_pieces (f x))) → (xs : List A) → AllStand (inserted_pieces (flat_map f xs))
pieces_stand-each f h [] = tt
pieces_stand-each f h (x ∷ xs) = pieces_stand-append (f x) (flat_map f xs) (h x) (pieces_stand-each f h xs)

pub pieces_stand-map : {A : Type 0} (f : A → Edit) → ((x : A) → AllStand (inserted_pieces (f x ∷ []))) → (xs : List A) → AllStand (inserted_pieces (map f xs))
pieces_stand-map f h [] = tt
pieces_stand-map f h (x ∷ xs) = pieces_stand-append (f x ∷ []) (map f xs) (h x) (pieces_stand-map f h xs)
