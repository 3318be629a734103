-- In every world, what a reply shows whole of a site's list can be put anywhere in it.
use Rattle.std.proofs.Common.{◌≡◌, ℕ, zero, suc, ◌+◌, ◌-◌, ◌<◌, ◌≤◌, ◌==◌, if◌then◌else◌, option_map, IsUtf8, add-zero, slice_get, Bool, true, false, not, ◌&&◌, ◌||◌, List, [], ◌∷◌, ◌++◌, length, take, drop, Contains, Option, Some, None, refl, sym, ap, ◌∙◌, subst, arith}
use Rattle.std.specs.Prelude.{encode_utf8_all, is_some, slice_range}
use Rattle.std.specs.List.{AllByRecursion, list_all, list_any}
use Rattle.std.specs.Str.{all_scalars}
use Rattle.std.proofs.lemmas.Bool.{and_from, and_parts, le-ltb, not-true}
use Rattle.std.proofs.lemmas.List.{drop-drop, length-drop, length-take-le, take-append-drop}
use Rattle.std.proofs.lemmas.List.Elements.{Contains-append_right}
use Rattle.std.specs.Option.{option_or}
use Rattle.ve_base.specs.Limits.{max_items, max_values}
use Rattle.ve_base.specs.Names.{NamesApart, names}
use Rattle.ve_base.specs.declared.attrs.Attr.{Attr}
use Rattle.ve_base.specs.declared.head.Head.{Head}
use Rattle.ve_base.specs.declared.marks.Mark.{Mark}
use Rattle.ve_kinds.specs.declared.kind.Kind.TheVariants.{P}
use Rattle.ve_kinds.specs.Table.{is_element, kind_same}
use Rattle.model_spelling.specs.Grammar.{is_attr_name, is_barred}
use Rattle.model_items.specs.declared.plain_item.PlainItem.{PlainItem}
use Rattle.model_items.specs.Law.{Lawful, verdict}
use Rattle.model_change.proofs.Fits.{Applies_from, Fits}
use Rattle.model_change.specs.Fault.{bad_attribute_at, fault_as, mismatch_at}
use Rattle.model_change.specs.Store.{brought, cited, fill}
use Rattle.model_change.specs.Transaction.{Transaction, edited, old_length}
use Rattle.model_change.specs.declared.tx_fault.TxFault.TheVariants as TxFault
use Rattle.model_site.specs.Causes.{BadAttr, BadLength, Mismatch, StoreFull, TooManyItems}
use Rattle.model_site.specs.Refused.{edit_cause, items_cause, law_cause, store_cause, transaction_cause}
use Rattle.model_site.specs.Replica.{Replica, performed}
use Rattle.model_site_law.proofs.StoreLemmas.{fill_full, in_take_drop}
use Rattle.model_site_law.specs.Sound.{AllIn}
use Rattle.model_items.specs.declared.plain_item.PlainItem.TheVariants.{Char, Closing, Opening}
use Rattle.model_items.specs.Same.{head_same, text_same}
use Rattle.model_items.proofs.SameLemmas.{Means-head_same, Means-text_same}
use Rattle.model_change.specs.Attributes.{AllNamesApart, NamesApartIn}
use Rattle.model_page.specs.Elements.{is_white}
use Rattle.model_page.specs.PageItems.{Opened}
use Rattle.model_site.specs.Session.{Member, Session}
use Rattle.model_site_law.specs.ItemLaws.{AllPass}
use Rattle.model_world.specs.Attributes.{are_apart, holds_whole, is_mark}
use Rattle.model_world.specs.ItemWords.{may_close}
use Rattle.model_world.specs.World.{Closed, Open, world_after}
use Rattle.model_world_law.specs.PutBack.{CanPutBack, IsElementHead, IsOrigin, IsPut, has_first, is_outer}
use Rattle.model_world_law.specs.ShownLaws.{AreMarks, IsAttr, IsMark, IsText, IsWhite, plain_head}
use Rattle.model_world_law.specs.Standing.{may_stand}
use Rattle.model_world_law.specs.Writable.{WorldsPutBack, WorldsPutElsewhere, are_marks, is_attr, is_head_attr, is_origin, is_plain_head, is_shown_whole, is_spelled_mark, is_text, is_whitespace, is_writable, is_writable_mark}
use Rattle.model_world_law.proofs.PutBackChange.{Puts, puts}
use Rattle.model_world_law.proofs.ReachLemmas.{every_item_is_writable, every_item_stands, every_site_holds, origins_stay}
use Rattle.model_world_law.proofs.StandLemmas.{few_of}
use Rattle.model_world_law.proofs.WritableLemmas.{heads_allowed, holds_then, opening_marks, opening_parts}

-- ---- what tests say

text_of : (text : List ℕ) → is_text text ≡ true → IsText text
text_of text h =
    let p = and_parts (all_scalars text) (not (list_any is_barred (encode_utf8_all text))) h in
    record { scalars = p.0; free = not-true (list_any is_barred (encode_utf8_all text)) p.1 }

attr_of : (a : Attr) → is_attr a ≡ true → IsAttr a
attr_of a h =
    let p = and_parts (is_text a.name && is_attr_name a.name) (is_text a.value) h in
    let q = and_parts (is_text a.name) (is_attr_name a.name) p.0 in
    record { name = text_of a.name q.0; named = q.1; value = text_of a.value p.1 }

attrs_of : (attrs : List Attr) → list_all is_attr attrs ≡ true → AllByRecursion IsAttr attrs
attrs_of [] h = tt
attrs_of (a ∷ attrs) h = let p = and_parts (is_attr a) (list_all is_attr attrs) h in (attr_of a p.0, attrs_of attrs p.1)

mark_of : (m : Mark) → is_writable_mark m ≡ true → IsMark true m
mark_of m h =
    let p = and_parts (is_spelled_mark m) (is_mark true m) h in
    let q = and_parts (is_text m.tag && list_all is_attr m.attrs) (are_apart m.attrs) p.0 in
    let r = and_parts (is_text m.tag) (list_all is_attr m.attrs) q.0 in
    record { tag = text_of m.tag r.0; attrs = record { each = attrs_of m.attrs r.1; apart = q.1 }; mark = p.1 }

marks_of : (marks : List Mark) → are_marks marks ≡ true → AllByRecursion (IsMark true) marks
marks_of [] h = tt
marks_of (m ∷ marks) h = let p = and_parts (is_writable_mark m) (are_marks marks) h in (mark_of m p.0, marks_of marks p.1)

white_of : (pre : List ℕ) → is_whitespace pre ≡ true → IsWhite pre
white_of pre h = let p = and_parts (is_text pre) (is_white pre) h in record { text = text_of pre p.0; white = p.1 }

found_name : (name : List ℕ) (attrs : List Attr) → list_any (λ (b : Attr). text_same name b.name) attrs ≡ true → Contains (names attrs) name
found_name name [] h = cc
found_name name (a ∷ attrs) h = by (text_same name a.name) refl h (λ later. Contains-append_right (a.name ∷ []) (names attrs) name (found_name name attrs later))
  where
    first : (one : List ℕ) → Contains (one ∷ names attrs) one
    first one = (0, omega arith, refl)

    by : (b : Bool) → text_same name a.name ≡ b → (b || list_any (λ (b : Attr). text_same name b.name) attrs) ≡ true →
        (list_any (λ (b : Attr). text_same name b.name) attrs ≡ true → Contains (names (a ∷ attrs)) name) → Contains (names (a ∷ attrs)) name
    by true e h rest = subst (λ n. Contains (a.name ∷ names attrs) n) (sym (Means-text_same.equal name a.name e)) (first a.name)
    by false e h rest = rest h

apart_of : (attrs : List Attr) → NamesApart attrs → are_apart attrs ≡ true
apart_of [] h = refl
apart_of (a ∷ attrs) h =
    and_from (not (list_any (λ (b : Attr). text_same a.name b.name) attrs)) (are_apart attrs) (by (list_any (λ (b : Attr). text_same a.name b.name) attrs) refl) (apart_of attrs h.1)
  where
    by : (b : Bool) → list_any (λ (b : Attr). text_same a.name b.name) attrs ≡ b → not b ≡ true
    by true e = absurd (h.0 (found_name a.name attrs e))
    by false e = refl

spelled_attrs : (attrs : List Attr) → list_all is_head_attr attrs ≡ true → list_all is_attr attrs ≡ true
spelled_attrs [] h = refl
spelled_attrs (a ∷ attrs) h =
    let p = and_parts (is_head_attr a) (list_all is_head_attr attrs) h in
    and_from (is_attr a) (list_all is_attr attrs) (and_parts (is_attr a) (not (holds_whole a)) p.0).0 (spelled_attrs attrs p.1)

head_of : (head : Head) → NamesApart head.attrs → is_plain_head head ≡ true → IsElementHead head
head_of head apart h =
    let p = and_parts (head_same head (plain_head head.attrs)) (list_all is_head_attr head.attrs) h in
    record {
      plain = Means-head_same.equal head (plain_head head.attrs) p.0;
      attrs = record { each = attrs_of head.attrs (spelled_attrs head.attrs p.1); apart = apart_of head.attrs apart };
      allowed = heads_allowed head.attrs p.1;
    }

origin_of : (origin : Option ℕ) → is_origin origin ≡ true → IsOrigin origin
origin_of None h = tt
origin_of (Some n) h = h

-- ---- items

can : (item : PlainItem) → is_writable item ≡ true → may_stand item ≡ true → NamesApartIn item → is_shown_whole item ≡ true → CanPutBack item
can (Char c marks) w s n h =
    let p = and_parts (is_text (c ∷ [])) (are_marks marks) w in (text_of (c ∷ []) p.0, record { each = marks_of marks p.1; few = few_of (Char c marks) s })
can (Opening kind head marks pre origin generated) w s n h =
    let item = Opening kind head marks pre origin generated in
    let outer = and_parts (is_outer kind) (is_element kind || is_some origin) h in
    let p = opening_parts kind head marks pre origin generated w outer.0 in
    let marked : AreMarks true marks = record { each = marks_of marks (opening_marks kind head marks pre origin generated w); few = few_of item s } in (
      outer.0,
      (λ e. head_of head n (p.own e)),
      marked,
      white_of pre p.white,
      p.may,
      origin_of origin p.known,
      and_from (not generated || kind_same kind P) (is_element kind || is_some origin) p.made outer.1,
    )
can (Closing kind pre) w s n h =
    let p = and_parts (is_whitespace pre) (may_close kind pre) (holds_then (is_outer kind) (is_whitespace pre && may_close kind pre) w h) in (h, white_of pre p.0, p.1)

abbrev CanIf : PlainItem → Type 0
CanIf item = is_shown_whole item ≡ true → CanPutBack item

all_can : (items : List PlainItem) → AllPass is_writable items → AllPass may_stand items → AllNamesApart items → AllByRecursion CanIf items
all_can [] w s n = tt
all_can (x ∷ items) w s n = (can x w.0 s.0 n.0, all_can items w.1 s.1 n.1)

first_part : (Q : PlainItem → Type 0) (n : ℕ) (items : List PlainItem) → AllByRecursion Q items → AllByRecursion Q (take n items)
first_part Q zero items p = tt
first_part Q (suc n) [] p = tt
first_part Q (suc n) (x ∷ items) p = (p.0, first_part Q n items p.1)

part : (Q : PlainItem → Type 0) (n count : ℕ) (items : List PlainItem) → AllByRecursion Q items → AllByRecursion Q (take count (drop n items))
part Q zero count items p = first_part Q count items p
part Q (suc n) zero [] p = tt
part Q (suc n) (suc count) [] p = tt
part Q (suc n) count (x ∷ items) p = part Q n count items p.1

shown_can : (items : List PlainItem) → AllByRecursion CanIf items → AllPass is_shown_whole items → AllByRecursion CanPutBack items
shown_can [] c h = tt
shown_can (x ∷ items) c h = (c.0 h.0, shown_can items c.1 h.1)

-- ---- worlds

module _ (lines : List (List ℕ)) (page : Opened) (w : Session) (k : ℕ) (m : Member) (from to : ℕ) (h : world_after Closed lines ≡ Open page w) (e : slice_get w.members k ≡ Some m) (u : IsUtf8 page.page) where
  abbrev items : List PlainItem
  items = m.site.replica.items

  range_can : AllPass is_shown_whole (slice_range items from to) → AllByRecursion CanPutBack (slice_range items from to)
  range_can shown =
      let all = all_can items (every_item_is_writable lines page w k m h e u) (every_item_stands lines page w k m h e u) (every_site_holds lines page w k m h e).sound.apart in
      shown_can (slice_range items from to) (part CanIf from (to - from) items all) shown

  range_first : AllPass (has_first page.items) (slice_range items from to)
  range_first = part (λ item. has_first page.items item ≡ true) from (to - from) items (origins_stay lines page w k m h e)

  range_puts : (at count : ℕ) → length items ≤ max_items → from < to → to ≤ length items → at + count ≤ length items → AllPass is_shown_whole (slice_range items from to) →
      Puts page.items items (slice_range items from to) at count (take at items ++ (slice_range items from to ++ drop (at + count) items))
  range_puts at count few some within there shown =
      let left = length-drop from items in
      let long = length-take-le (to - from) (drop from items) (omega (arith, left, within)) in
      puts page.items items (slice_range items from to) at count few there (omega (arith, long, some)) (range_can shown) range_first

-- ---- accepted

-- whatever the causes are called, a transaction that applies has none
no_fault : {F G : Type 0} (lengths : ℕ → ℕ → F) (items attrs : ℕ → F) (lengths' : ℕ → ℕ → G) (items' attrs' : ℕ → G) (t : Transaction) (list : List PlainItem) →
    fault_as lengths items attrs t list ≡ None → fault_as lengths' items' attrs' t list ≡ None
no_fault lengths items attrs lengths' items' attrs' t list h = by (old_length t == length list) (mismatch_at 0 t list) (bad_attribute_at 0 t list) h
  where
    by : (b : Bool) (o p : Option ℕ) → (if b then option_or (option_map items o) (option_map attrs p) else Some (lengths (length list) (old_length t))) ≡ None →
        (if b then option_or (option_map items' o) (option_map attrs' p) else Some (lengths' (length list) (old_length t))) ≡ None
    by true None None h = refl
    by true None (Some at) h = cc
    by true (Some at) p h = cc
    by false o p h = cc

-- the list stays, and the store has all that is brought
accepted : (t : Transaction) (r : Replica) (range : List PlainItem) → old_length t ≡ length r.items → Fits t r.items → edited t r.items ≡ r.items → brought t r.items ≡ cited range → Lawful r.items →
    AllIn r.store (cited range) → length r.items ≤ max_items → length r.store ≤ max_values → edit_cause t r ≡ None
accepted t r range long fits stays brings lawful all few small =
    let store : (performed t r).store ≡ r.store = ap (fill r.store) brings ∙ fill_full r.store (cited range) all in
    let first : transaction_cause t r.items ≡ None = no_fault (λ has needs. TxFault.BadLength has needs) (λ at. TxFault.Mismatch at) (λ at. TxFault.BadAttr at) (λ has needs. BadLength has needs) (λ at. Mismatch at) (λ at. BadAttr at) t r.items
    (Applies_from t r.items long fits) in
    let law : law_cause (verdict (performed t r).items) ≡ None = ap (λ xs. law_cause (verdict xs)) stays ∙ ap law_cause lawful in
    let items : items_cause (length (performed t r).items) ≡ None =
    ap (λ xs. items_cause (length xs)) stays ∙ ap (λ b. if b then Some (TooManyItems (length r.items)) else None) (le-ltb max_items (length r.items) few) in
    let values : store_cause (length (performed t r).store) ≡ None =
    ap (λ vs. store_cause (length vs)) store ∙ ap (λ b. if b then Some StoreFull else None) (le-ltb max_values (length r.store) small) in
    ap (λ o. option_or o (option_or (law_cause (verdict (performed t r).items)) (option_or (items_cause (length (performed t r).items)) (store_cause (length (performed t r).store))))) first
    ∙ ap (λ o. option_or o (option_or (items_cause (length (performed t r).items)) (store_cause (length (performed t r).store)))) law
    ∙ ap (λ o. option_or o (store_cause (length (performed t r).store))) items
    ∙ values

pub worlds_put_back : WorldsPutBack
worlds_put_back lines page w k m from to h e u few some within shown =
    let items = m.site.replica.items in
    let count = to - from in
    let range = take count (drop from items) in
    let holds = every_site_holds lines page w k m h e in
    let same : take from items ++ (range ++ drop (from + count) items) ≡ items =
    ap (λ xs. take from items ++ xs) (ap (λ ys. range ++ ys) (sym (drop-drop count from items)) ∙ take-append-drop count (drop from items)) ∙ take-append-drop from items in
    let p : Puts page.items items range from count items = subst (Puts page.items items range from count) same (range_puts lines page w k m from to h e u from count few some within (omega (arith, some, within)) shown) in
    let own : AllIn m.site.replica.store (cited range) = (in_take_drop m.site.replica.store count (drop from items) (in_take_drop m.site.replica.store from items holds.stored).1).0 in
    (p.put, λ small. accepted p.put.t m.site.replica range p.long p.fits p.put.list p.brings holds.sound.lawful own few small)

pub worlds_put_elsewhere : WorldsPutElsewhere
worlds_put_elsewhere lines page w k m from to at h e u few some within there shown =
    let items = m.site.replica.items in
    let range = slice_range items from to in
    let same : take at items ++ (range ++ drop (at + 0) items) ≡ take at items ++ (range ++ drop at items) = ap (λ n. take at items ++ (range ++ drop n items)) (add-zero at) in
    subst (IsPut page.items items range at 0) same (range_puts lines page w k m from to h e u at 0 few some within (omega (arith, there)) shown).put
