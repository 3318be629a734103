-- Kept nodes stand in the written page with their bytes.
use Rattle.std.proofs.Common.{◌≡◌, ℕ, ◌-◌, Bool, true, false, ◌||◌, if◌then◌else◌, List, [], ◌∷◌, ◌++◌, take, drop, Option, Some, None, refl, sym, ap, ◌∙◌, append_assoc, append-nil}
use Rattle.std.specs.Prelude.{slice_get, encode_utf8_all, unwrap_or}
use Rattle.ve_kinds.specs.declared.kind.Kind.{Kind}
use Rattle.ve_kinds.specs.declared.kind.Kind.TheVariants.{P, H1, H2, H3, H4, H5, H6, Pre, InternalList}
use Rattle.ve_kinds.specs.Table.{kind_same, is_content_branch, is_leaf}
use Rattle.ve_base.specs.declared.marks.Mark.{Mark}
use Rattle.model_items.specs.declared.plain_item.PlainItem.{PlainItem}
use Rattle.model_items.specs.Same.{list_same}
use Rattle.model_page.specs.PageItems.{Opened}
use Rattle.model_page.specs.Tags.{tag_of}
use Rattle.model_page_write.specs.Nodes.{Carried, Start, Nodes, Empty, Letter, Node, node_items, carried_nodes, carried_items}
use Rattle.model_page_write.specs.Written.{Writer, blocks, content, element_text, end_tag, fresh_text, is_bare, leaf_text, letter, marks_changed, original_of, white_after}
use Rattle.model_page_write.specs.PageText.{carried_same, is_kept, original_at, page_writer, part_at, without_pre, write}
use Rattle.model_page_law.proofs.BlockClean.{bare_is}
use Rattle.model_page_law.proofs.EscapeLemmas.{pick_true, pick_false}
use Rattle.model_page_law.proofs.KeptLemmas.{opened_is_written_back}
use Rattle.model_page_law.proofs.RangeLemmas.{ranges_are_compared}
use Rattle.model_page_law.proofs.SameLemmas.{Itself-list, Itself-carried_items}
use Rattle.model_kept_law.specs.KeptBytes.{joined, Among, siblings, placed, closing_in, ends_bare, stands_bare, blocks_up_to, tag_before, tag_after, round_before, round_after, content_up_to, IsAnew, AreAnew, BytesAreFirst, KeptBlockStands, KeptLeafStands, MovedKeepsBytes, RestStands, SiblingsJoin}

-- ---- siblings one after the other

white_joined : (n later : Nodes) (closing : List ℕ) → white_after (joined n later) closing ≡ white_after n (white_after later closing)
white_joined Empty later closing = refl
white_joined (Letter c marks more) later closing = refl
white_joined (Node s inside pre more) later closing = refl

-- the text in a node, the same wherever it stands
abbrev inner_text : Writer → Start → Nodes → List ℕ → List ℕ
inner_text w s inside pre = if is_content_branch s.kind then content w [] inside else blocks w false pre inside

-- the bytes of a block that is kept, or its fresh text
abbrev node_text : Writer → Bool → Start → Nodes → List ℕ → List ℕ
node_text w bare s inside pre = unwrap_or (original_of w bare s (node_items s inside pre)) (fresh_text w bare s (inner_text w s inside pre) pre)

pub blocks_joined : SiblingsJoin
blocks_joined w b closing Empty later = refl
blocks_joined w b closing (Letter c marks more) later =
    let white : List ℕ = white_after later closing in
    ap (λ t. letter c ++ t) (blocks_joined w false closing more later) ∙ sym (append_assoc (letter c) (blocks w false white more) (blocks w (ends_bare false white more) closing later))
blocks_joined w b closing (Node s inside pre more) later =
    let white : List ℕ = white_after later closing in
    let bare : Bool = is_bare b s inside (white_after more white) in
    ap (λ v. encode_utf8_all s.pre ++ node_text w (is_bare b s inside v) s inside pre ++ blocks w (is_bare b s inside v) closing (joined more later)) (white_joined more later closing)
    ∙ ap (λ t. encode_utf8_all s.pre ++ node_text w bare s inside pre ++ t) (blocks_joined w bare closing more later)
    ∙ regrouped (encode_utf8_all s.pre) (node_text w bare s inside pre) (blocks w bare white more) (blocks w (ends_bare bare white more) closing later)
  where
    regrouped : (a b c d : List ℕ) → (a ++ b) ++ (c ++ d) ≡ ((a ++ b) ++ c) ++ d
    regrouped a b c d = simp append_assoc

content_regrouped : (m l c u d : List ℕ) → (m ++ l) ++ ((c ++ u) ++ d) ≡ (((m ++ l) ++ c) ++ u) ++ d
content_regrouped m l c u d = simp append_assoc

content_joined : (w : Writer) (opened : List Mark) (n : Nodes) (s : Start) (inside : Nodes) (pre : List ℕ) (later : Nodes) →
    content w opened (joined n (Node s inside pre later)) ≡ content_up_to w s.marks opened n ++ unwrap_or (w.original s (node_items s inside pre)) (leaf_text w s s.kind) ++ content w s.marks later
content_joined w opened Empty s inside pre later = refl
content_joined w opened (Letter c marks more) s inside pre later =
    ap (λ t. marks_changed opened marks ++ letter c ++ t) (content_joined w marks more s inside pre later)
    ∙ content_regrouped (marks_changed opened marks) (letter c) (content_up_to w s.marks marks more) (unwrap_or (w.original s (node_items s inside pre)) (leaf_text w s s.kind)) (content w s.marks later)
content_joined w opened (Node t held q more) s inside pre later =
    ap (λ x. marks_changed opened t.marks ++ unwrap_or (w.original t (node_items t held q)) (leaf_text w t t.kind) ++ x) (content_joined w t.marks more s inside pre later)
    ∙ content_regrouped (marks_changed opened t.marks) (unwrap_or (w.original t (node_items t held q)) (leaf_text w t t.kind)) (content_up_to w s.marks t.marks more)
    (unwrap_or (w.original s (node_items s inside pre)) (leaf_text w s s.kind)) (content w s.marks later)

-- ---- a node among its siblings

siblings_text : (w : Writer) (closing : List ℕ) (a : Among) (inside : Nodes) →
    let bare : Bool = stands_bare closing a inside in
    blocks w false closing (siblings a inside) ≡ blocks_up_to w a.start.pre a.before ++ node_text w bare a.start inside a.pre ++ blocks w bare closing a.after
siblings_text w closing a inside =
    blocks_joined w false closing a.before (Node a.start inside a.pre a.after)
    ∙ regrouped (blocks w false a.start.pre a.before) (encode_utf8_all a.start.pre) (node_text w (stands_bare closing a inside) a.start inside a.pre) (blocks w (stands_bare closing a inside) closing a.after)
  where
    regrouped : (a b c d : List ℕ) → a ++ ((b ++ c) ++ d) ≡ ((a ++ b) ++ c) ++ d
    regrouped a b c d = simp append_assoc

-- ---- blocks that are written anew

not_true : (b : Bool) → (b ≡ true → ⊥) → b ≡ false
not_true true h = absurd (h refl)
not_true false h = refl

neither : (a b c : Bool) → (a || b || c) ≡ false → (a ≡ false) × (b ≡ false) × (c ≡ false)
neither true b c e = cc
neither false true c e = cc
neither false false c e = (refl, refl, e)

other_than_content : (k : Kind) → k ≡ P → is_content_branch k ≡ false → ⊥
other_than_content k e h = let f : true ≡ false = ap is_content_branch (sym e) ∙ h in cc

not_bare : (before : Bool) (s : Start) (inside : Nodes) (after : List ℕ) → is_content_branch s.kind ≡ false → is_bare before s inside after ≡ false
not_bare before s inside after h = not_true (is_bare before s inside after) (λ e. other_than_content s.kind (bare_is before s inside after e).kind h)

-- the fresh text of a node with tags
fresh_branch : (w : Writer) (bare : Bool) (s : Start) (text pre : List ℕ) → is_leaf s.kind ≡ false → kind_same s.kind InternalList ≡ false →
    fresh_text w bare s text pre ≡ (if bare then text else element_text s text pre)
fresh_branch w bare s text pre leaf list = pick_false (kind_same s.kind InternalList) _ _ list ∙ pick_false (is_leaf s.kind) _ _ leaf

-- with its tags or without
tagged : (bare : Bool) (a : Among) (t : List ℕ) → (if bare then t else element_text a.start t a.pre) ≡ tag_before bare a.start ++ t ++ tag_after bare a.start a.pre
tagged true a t = sym (append-nil t)
tagged false a t = append_assoc (tag_before false a.start ++ t) (encode_utf8_all a.pre) (end_tag (tag_of a.start.kind))

anew_text : (w : Writer) (a : Among) (inside : Nodes) → IsAnew w a inside → node_text w false a.start inside a.pre ≡ tag_before false a.start ++ blocks w false a.pre inside ++ tag_after false a.start a.pre
anew_text w a inside h =
    let n = neither (is_leaf a.start.kind) (is_content_branch a.start.kind) (kind_same a.start.kind InternalList) h.block in
    ap (λ x. unwrap_or x (fresh_text w false a.start (inner_text w a.start inside a.pre) a.pre)) h.anew
    ∙ fresh_branch w false a.start (inner_text w a.start inside a.pre) a.pre n.0 n.2
    ∙ ap (λ t. element_text a.start t a.pre) (pick_false (is_content_branch a.start.kind) (content w [] inside) (blocks w false a.pre inside) n.1)
    ∙ tagged false a (blocks w false a.pre inside)

anew_siblings : (w : Writer) (closing : List ℕ) (a : Among) (inside : Nodes) → IsAnew w a inside →
    blocks w false closing (siblings a inside) ≡ blocks_up_to w a.start.pre a.before ++ (tag_before false a.start ++ blocks w false a.pre inside ++ tag_after false a.start a.pre) ++ blocks w false closing a.after
anew_siblings w closing a inside h =
    let n = neither (is_leaf a.start.kind) (is_content_branch a.start.kind) (kind_same a.start.kind InternalList) h.block in
    siblings_text w closing a inside
    ∙ ap (λ b. blocks_up_to w a.start.pre a.before ++ node_text w b a.start inside a.pre ++ blocks w b closing a.after) (not_bare (ends_bare false a.start.pre a.before) a.start inside (white_after a.after closing) n.1)
    ∙ ap (λ t. blocks_up_to w a.start.pre a.before ++ t ++ blocks w false closing a.after) (anew_text w a inside h)

pub placed_text : (w : Writer) (closing : List ℕ) (round : List Among) (n : Nodes) → AreAnew w round n →
    blocks w false closing (placed round n) ≡ round_before w round ++ blocks w false (closing_in closing round) n ++ round_after w closing round
placed_text w closing [] n h = sym (append-nil (blocks w false closing n))
placed_text w closing (a ∷ round) n h =
    anew_siblings w closing a (placed round n) h.0
    ∙ ap (λ t. blocks_up_to w a.start.pre a.before ++ (tag_before false a.start ++ t ++ tag_after false a.start a.pre) ++ blocks w false closing a.after) (placed_text w a.pre round n h.1)
    ∙ regrouped (blocks_up_to w a.start.pre a.before) (tag_before false a.start) (round_before w round) (blocks w false (closing_in a.pre round) n) (round_after w a.pre round) (tag_after false a.start a.pre) (blocks w false closing a.after)
  where
    regrouped : (a b c d e f g : List ℕ) → (a ++ ((b ++ ((c ++ d) ++ e)) ++ f)) ++ g ≡ (((a ++ b) ++ c) ++ d) ++ ((e ++ f) ++ g)
    regrouped a b c d e f g = simp append_assoc

-- ---- the laws

pub kept_block_stands : KeptBlockStands
kept_block_stands o items round a inside bytes e h kept =
    let w : Writer = page_writer o in
    let bare : Bool = stands_bare (closing_in [] round) a inside in
    ap (λ n. take o.body.from o.page ++ blocks w false [] n ++ drop o.body.to o.page) e
    ∙ ap (λ t. take o.body.from o.page ++ t ++ drop o.body.to o.page)
    (placed_text w [] round (siblings a inside) h
    ∙ ap (λ t. round_before w round ++ t ++ round_after w [] round)
    (siblings_text w (closing_in [] round) a inside
    ∙ ap (λ x. blocks_up_to w a.start.pre a.before ++ unwrap_or x (fresh_text w bare a.start (inner_text w a.start inside a.pre) a.pre) ++ blocks w bare (closing_in [] round) a.after) kept))
    ∙ regrouped (take o.body.from o.page) (round_before w round) (blocks_up_to w a.start.pre a.before) bytes (blocks w bare (closing_in [] round) a.after) (round_after w [] round) (drop o.body.to o.page)
  where
    regrouped : (a b c d e f g : List ℕ) → (a ++ ((b ++ ((c ++ d) ++ e)) ++ f)) ++ g ≡ (((a ++ b) ++ c) ++ d) ++ ((e ++ f) ++ g)
    regrouped a b c d e f g = simp append_assoc

content_no_list : (k : Kind) → is_content_branch k ≡ true → (kind_same k InternalList ≡ false) × (is_leaf k ≡ false)
content_no_list P h = (refl, refl)
content_no_list H1 h = (refl, refl)
content_no_list H2 h = (refl, refl)
content_no_list H3 h = (refl, refl)
content_no_list H4 h = (refl, refl)
content_no_list H5 h = (refl, refl)
content_no_list H6 h = (refl, refl)
content_no_list Pre h = (refl, refl)
content_no_list _ h = cc

content_text : (w : Writer) (bare : Bool) (a : Among) (inside : Nodes) → is_content_branch a.start.kind ≡ true → original_of w bare a.start (node_items a.start inside a.pre) ≡ None →
    node_text w bare a.start inside a.pre ≡ tag_before bare a.start ++ content w [] inside ++ tag_after bare a.start a.pre
content_text w bare a inside c none =
    let n = content_no_list a.start.kind c in
    ap (λ x. unwrap_or x (fresh_text w bare a.start (inner_text w a.start inside a.pre) a.pre)) none
    ∙ fresh_branch w bare a.start (inner_text w a.start inside a.pre) a.pre n.1 n.0
    ∙ ap (λ t. if bare then t else element_text a.start t a.pre) (pick_true (is_content_branch a.start.kind) (content w [] inside) (blocks w false a.pre inside) c)
    ∙ tagged bare a (content w [] inside)

pub kept_leaf_stands : KeptLeafStands
kept_leaf_stands o items round a leaf inside bytes e h c none kept =
    let w : Writer = page_writer o in
    let held : Nodes = siblings leaf inside in
    let closing : List ℕ = closing_in [] round in
    let bare : Bool = stands_bare closing a held in
    ap (λ n. take o.body.from o.page ++ blocks w false [] n ++ drop o.body.to o.page) e
    ∙ ap (λ t. take o.body.from o.page ++ t ++ drop o.body.to o.page)
    (placed_text w [] round (siblings a held) h
    ∙ ap (λ t. round_before w round ++ t ++ round_after w [] round)
    (siblings_text w closing a held
    ∙ ap (λ t. blocks_up_to w a.start.pre a.before ++ t ++ blocks w bare closing a.after)
    (content_text w bare a held c none
    ∙ ap (λ t. tag_before bare a.start ++ t ++ tag_after bare a.start a.pre)
    (content_joined w [] leaf.before leaf.start inside leaf.pre leaf.after
    ∙ ap (λ x. content_up_to w leaf.start.marks [] leaf.before ++ unwrap_or x (leaf_text w leaf.start leaf.start.kind) ++ content w leaf.start.marks leaf.after) kept))))
    ∙ regrouped (take o.body.from o.page) (round_before w round) (blocks_up_to w a.start.pre a.before) (tag_before bare a.start) (content_up_to w leaf.start.marks [] leaf.before) bytes
    (content w leaf.start.marks leaf.after) (tag_after bare a.start a.pre) (blocks w bare closing a.after) (round_after w [] round) (drop o.body.to o.page)
  where
    regrouped : (a b c d e f g h i j k : List ℕ) →
        (a ++ ((b ++ ((c ++ ((d ++ ((e ++ f) ++ g)) ++ h)) ++ i)) ++ j)) ++ k ≡ (((((a ++ b) ++ c) ++ d) ++ e) ++ f) ++ ((((g ++ h) ++ i) ++ j) ++ k)
    regrouped a b c d e f g h i j k = simp append_assoc

some_same : (x y : List ℕ) → ◌≡◌ {A = Option (List ℕ)} (Some x) (Some y) → x ≡ y
some_same x y e = ap (λ o. unwrap_or o x) e

some_picked : (c : Bool) (x y : List ℕ) → (if c then Some x else None) ≡ Some y → y ≡ x
some_picked true x y e = sym (some_same x y e)
some_picked false x y e = cc

pub bytes_are_first : BytesAreFirst
bytes_are_first o k s inside pre bytes origin kept =
    let first : List Carried = carried_items o.items in
    some_picked (is_kept first k (node_items s inside pre)) (part_at o.page (slice_get o.spans k)) bytes (ap (λ j. original_at o first j (node_items s inside pre)) (sym origin) ∙ kept)

pub moved_keeps_bytes : MovedKeepsBytes
moved_keeps_bytes page o opens k from to span stands at s inside pre origin same =
    let first : List Carried = carried_items o.items in
    let items : List Carried = node_items s inside pre in
    let node : List Carried = take (to - from) (drop from first) in
    let kept : is_kept first k items ≡ true =
    ap (λ xs. list_same carried_same (without_pre items) (without_pre xs)) (ranges_are_compared page o opens k from to stands)
    ∙ ap (λ xs. list_same carried_same xs (without_pre node)) same
    ∙ Itself-list carried_same Itself-carried_items (without_pre node) in
    ap (λ j. original_at o first j items) origin
    ∙ pick_true (is_kept first k items) _ _ kept
    ∙ ap (λ x. Some (part_at o.page x)) at

-- siblings in the place of others
middle_text : (o : Opened) (items : List PlainItem) (before n after : Nodes) (white : List ℕ) (bare : Bool) →
    let w : Writer = page_writer o in
    let first : Bool = ends_bare false white before in
    let last : List ℕ = white_after after [] in
    carried_nodes (carried_items items) ≡ joined before (joined n after) → white_after (joined n after) [] ≡ white → ends_bare first last n ≡ bare →
    write o items ≡ (take o.body.from o.page ++ blocks w false white before) ++ blocks w first last n ++ (blocks w bare [] after ++ drop o.body.to o.page)
middle_text o items before n after white bare e v b =
    let w : Writer = page_writer o in
    let first : Bool = ends_bare false white before in
    let last : List ℕ = white_after after [] in
    ap (λ x. take o.body.from o.page ++ blocks w false [] x ++ drop o.body.to o.page) e
    ∙ ap (λ t. take o.body.from o.page ++ t ++ drop o.body.to o.page)
    (blocks_joined w false [] before (joined n after)
    ∙ ap (λ x. blocks w false x before ++ blocks w (ends_bare false x before) [] (joined n after)) v
    ∙ ap (λ t. blocks w false white before ++ t) (blocks_joined w first [] n after ∙ ap (λ c. blocks w first last n ++ blocks w c [] after) b))
    ∙ regrouped (take o.body.from o.page) (blocks w false white before) (blocks w first last n) (blocks w bare [] after) (drop o.body.to o.page)
  where
    regrouped : (a b c d e : List ℕ) → (a ++ (b ++ (c ++ d))) ++ e ≡ ((a ++ b) ++ c) ++ (d ++ e)
    regrouped a b c d e = simp append_assoc

pub rest_stands : RestStands
rest_stands page o items before old new after white bare u opens e v b f x c = (
  sym (opened_is_written_back page o u opens) ∙ middle_text o o.items before old after white bare e v b,
  middle_text o items before new after white bare f x c,
)
