-- Items that are shown are read back by a line with `exact`, but for the heads of leaves that no tag
-- spells.
use Rattle.std.proofs.Common.{◌≡◌, ℕ, Bool, true, false, if◌then◌else◌, List, [], ◌∷◌, map, Option, Some, None, refl, sym, ap, ◌∙◌, subst}
use Rattle.std.specs.Prelude.{codes, nat_lt, option_map, option_and_then}
use Rattle.std.specs.List.{AllByRecursion}
use Rattle.serde_json.specs.Data.{Data, Members, boolean, no_members, object, put}
use Rattle.serde_json.specs.Find.{as_bool, get_member}
use Rattle.serde_json.proofs.Views.{get_member-put, get_member-put_other}
use Rattle.ve_kinds.specs.declared.kind.Kind.{Kind}
use Rattle.ve_kinds.specs.declared.kind.Kind.TheVariants.{Root, P, H1, H2, H3, H4, H5, H6, Pre, Section, Li, Dt, Dd, Blockquote, Div, Td, Th, Caption, InternalItem, Ul, Ol, Dl, Table, Thead, Tbody, Tfoot, Tr, InternalList, TransBlock, AlienBlock, Br, Img, Ref, TransInline, AlienInline}
use Rattle.ve_kinds.specs.Table.{is_element}
use Rattle.ve_base.specs.declared.attrs.Attr.{Attr}
use Rattle.ve_base.specs.declared.head.Head.{Head}
use Rattle.ve_base.specs.declared.head.RefKey.{RefKey}
use Rattle.ve_base.specs.declared.marks.Mark.{Mark}
use Rattle.model_items.specs.Same.{text_same}
use Rattle.model_items.proofs.SameLemmas.{Means-text_same}
use Rattle.model_items.specs.declared.plain_item.PlainItem.{PlainItem}
use Rattle.model_items.specs.declared.plain_item.PlainItem.TheVariants.{Char, Opening, Closing}
use Rattle.model_page.proofs.OnLiterals.{page_on_literals}
use Rattle.model_world.specs.Names.{kind_name}
use Rattle.model_world.specs.Values.{all_read, member_or, read_or, some_number_in, such_that}
use Rattle.model_world.specs.Attributes.{allowed_attrs_in, kind_in, marks_in}
use Rattle.model_world.specs.ItemWords.{Provenance, bracket_in, closing_in, items_in, may_close, may_come, may_open, one_list, opening_attrs_in, opening_in, opening_with, provenance_in, white_in}
use Rattle.model_world.specs.Shown.{all_shown, as_shown, attrs_shown, closing_shown, json_number, json_text, marks_shown, opening_shown, with_attrs, with_flag, with_marks, with_origin, with_reference, with_text}
use Rattle.model_world_law.specs.PutBack.{CanPutBack, ExactIsRead, IsElementHead, IsOrigin, is_outer, without_head}
use Rattle.model_world_law.specs.ShownLaws.{AreMarks, IsWhite, plain_head}
use Rattle.model_world_law.proofs.ShownLemmas.{close_at, closed_pre_at, if_some, listed_back, no_open_at, passes}
use Rattle.model_world_law.proofs.ShownItemLemmas.{Back, all_back, attrs_or, char_back, marks_or, one_back, white_or}

-- ---- members that may be there

-- two names that differ
abbrev Differ : List ℕ → List ℕ → Type 0
Differ one other = text_same one other ≡ false

unequal : (one other : List ℕ) → Differ one other → one ≡ other → ⊥
unequal one other d e = let f : false ≡ true = sym d ∙ subst (λ name. text_same one name ≡ true) e (Means-text_same.itself one) in cc

past_put : (q name : List ℕ) (json : Data) (ms : Members) → Differ q name → get_member q (put name json ms) ≡ get_member q ms
past_put q name json ms d = get_member-put_other q name json ms (unequal q name d)

past_text : (q name text : List ℕ) (ms : Members) → Differ q name → get_member q (with_text name text ms) ≡ get_member q ms
past_text q name [] ms d = refl
past_text q name (c ∷ cs) ms d = past_put q name (json_text (c ∷ cs)) ms d

past_attrs : (q : List ℕ) (attrs : List Attr) (ms : Members) → Differ q (codes "attrs") → get_member q (with_attrs attrs ms) ≡ get_member q ms
past_attrs q [] ms d = refl
past_attrs q (a ∷ attrs) ms d = past_put q (codes "attrs") (attrs_shown (a ∷ attrs)) ms d

past_marks : (q : List ℕ) (marks : List Mark) (ms : Members) → Differ q (codes "marks") → get_member q (with_marks marks ms) ≡ get_member q ms
past_marks q [] ms d = refl
past_marks q (m ∷ marks) ms d = past_put q (codes "marks") (marks_shown (m ∷ marks)) ms d

past_flag : (q name : List ℕ) (flag : Bool) (ms : Members) → Differ q name → get_member q (with_flag name flag ms) ≡ get_member q ms
past_flag q name false ms d = refl
past_flag q name true ms d = past_put q name (boolean true) ms d

past_origin : (q : List ℕ) (origin : Option ℕ) (ms : Members) → Differ q (codes "origin") → get_member q (with_origin origin ms) ≡ get_member q ms
past_origin q None ms d = refl
past_origin q (Some k) ms d = past_put q (codes "origin") (json_number k) ms d

past_reference : (q : List ℕ) (reference : Option RefKey) (ms : Members) → Differ q (codes "ref") → get_member q (with_reference reference ms) ≡ get_member q ms
past_reference q None ms d = refl
past_reference q (Some key) ms d = past_put q (codes "ref") _ ms d

at_text : (name text : List ℕ) (ms : Members) → get_member name ms ≡ None → get_member name (with_text name text ms) ≡ if_some json_text text
at_text name [] ms none = none
at_text name (c ∷ cs) ms none = get_member-put name (json_text (c ∷ cs)) ms

at_attrs : (attrs : List Attr) (ms : Members) → get_member (codes "attrs") ms ≡ None → get_member (codes "attrs") (with_attrs attrs ms) ≡ if_some attrs_shown attrs
at_attrs [] ms none = none
at_attrs (a ∷ attrs) ms none = get_member-put (codes "attrs") (attrs_shown (a ∷ attrs)) ms

at_marks : (marks : List Mark) (ms : Members) → get_member (codes "marks") ms ≡ None → get_member (codes "marks") (with_marks marks ms) ≡ if_some marks_shown marks
at_marks [] ms none = none
at_marks (m ∷ marks) ms none = get_member-put (codes "marks") (marks_shown (m ∷ marks)) ms

abbrev flag_shown : Bool → Option Data
flag_shown false = None
flag_shown true = Some (boolean true)

at_flag : (name : List ℕ) (flag : Bool) (ms : Members) → get_member name ms ≡ None → get_member name (with_flag name flag ms) ≡ flag_shown flag
at_flag name false ms none = none
at_flag name true ms none = get_member-put name (boolean true) ms

abbrev origin_shown : Option ℕ → Option Data
origin_shown None = None
origin_shown (Some k) = Some (json_number k)

at_origin : (origin : Option ℕ) (ms : Members) → get_member (codes "origin") ms ≡ None → get_member (codes "origin") (with_origin origin ms) ≡ origin_shown origin
at_origin None ms none = none
at_origin (Some k) ms none = get_member-put (codes "origin") (json_number k) ms

-- ---- the members of an opening

module _ (kind : Kind) (head : Head) (marks : List Mark) (pre : List ℕ) (origin : Option ℕ) (generated : Bool) where
  abbrev members : Members
  members = opening_shown kind head marks pre origin generated

  -- what stands behind each
  abbrev tag_on : Members
  tag_on = with_text (codes "tag") head.tag no_members

  abbrev reference_on : Members
  reference_on = with_reference head.reference tag_on

  abbrev raw_on : Members
  raw_on = with_text (codes "raw") head.raw reference_on

  abbrev pre_on : Members
  pre_on = with_text (codes "pre") pre raw_on

  abbrev owner_on : Members
  owner_on = with_flag (codes "owner") head.owner pre_on

  abbrev origin_on : Members
  origin_on = with_origin origin owner_on

  abbrev marks_on : Members
  marks_on = with_marks marks origin_on

  abbrev generated_on : Members
  generated_on = with_flag (codes "gen") generated marks_on

  abbrev attrs_on : Members
  attrs_on = with_attrs head.attrs generated_on

  open_is : get_member (codes "open") members ≡ Some (json_text (kind_name kind))
  open_is = get_member-put (codes "open") (json_text (kind_name kind)) attrs_on

  none_in_raw : (q : List ℕ) → Differ q (codes "raw") → Differ q (codes "ref") → Differ q (codes "tag") → get_member q raw_on ≡ None
  none_in_raw q d e f = past_text q (codes "raw") head.raw reference_on d ∙ past_reference q head.reference tag_on e ∙ past_text q (codes "tag") head.tag no_members f

  pre_is : get_member (codes "pre") members ≡ if_some json_text pre
  unfolding page_on_literals
  pre_is =
      past_put (codes "pre") (codes "open") (json_text (kind_name kind)) attrs_on refl
      ∙ past_attrs (codes "pre") head.attrs generated_on refl
      ∙ past_flag (codes "pre") (codes "gen") generated marks_on refl
      ∙ past_marks (codes "pre") marks origin_on refl
      ∙ past_origin (codes "pre") origin owner_on refl
      ∙ past_flag (codes "pre") (codes "owner") head.owner pre_on refl
      ∙ at_text (codes "pre") pre raw_on (none_in_raw (codes "pre") refl refl refl)

  none_in_pre : (q : List ℕ) → Differ q (codes "pre") → Differ q (codes "raw") → Differ q (codes "ref") → Differ q (codes "tag") → get_member q pre_on ≡ None
  none_in_pre q c d e f = past_text q (codes "pre") pre raw_on c ∙ none_in_raw q d e f

  origin_is : get_member (codes "origin") members ≡ origin_shown origin
  unfolding page_on_literals
  origin_is =
      past_put (codes "origin") (codes "open") (json_text (kind_name kind)) attrs_on refl
      ∙ past_attrs (codes "origin") head.attrs generated_on refl
      ∙ past_flag (codes "origin") (codes "gen") generated marks_on refl
      ∙ past_marks (codes "origin") marks origin_on refl
      ∙ at_origin origin owner_on (past_flag (codes "origin") (codes "owner") head.owner pre_on refl ∙ none_in_pre (codes "origin") refl refl refl refl)

  none_in_origin : (q : List ℕ) → Differ q (codes "origin") → Differ q (codes "owner") → Differ q (codes "pre") → Differ q (codes "raw") → Differ q (codes "ref") → Differ q (codes "tag") →
      get_member q origin_on ≡ None
  none_in_origin q a b c d e f = past_origin q origin owner_on a ∙ past_flag q (codes "owner") head.owner pre_on b ∙ none_in_pre q c d e f

  marks_is : get_member (codes "marks") members ≡ if_some marks_shown marks
  unfolding page_on_literals
  marks_is =
      past_put (codes "marks") (codes "open") (json_text (kind_name kind)) attrs_on refl
      ∙ past_attrs (codes "marks") head.attrs generated_on refl
      ∙ past_flag (codes "marks") (codes "gen") generated marks_on refl
      ∙ at_marks marks origin_on (none_in_origin (codes "marks") refl refl refl refl refl refl)

  generated_is : get_member (codes "gen") members ≡ flag_shown generated
  unfolding page_on_literals
  generated_is =
      past_put (codes "gen") (codes "open") (json_text (kind_name kind)) attrs_on refl
      ∙ past_attrs (codes "gen") head.attrs generated_on refl
      ∙ at_flag (codes "gen") generated marks_on (past_marks (codes "gen") marks origin_on refl ∙ none_in_origin (codes "gen") refl refl refl refl refl refl)

  attrs_is : get_member (codes "attrs") members ≡ if_some attrs_shown head.attrs
  unfolding page_on_literals
  attrs_is =
      past_put (codes "attrs") (codes "open") (json_text (kind_name kind)) attrs_on refl
      ∙ at_attrs head.attrs generated_on
      (past_flag (codes "attrs") (codes "gen") generated marks_on refl
      ∙ past_marks (codes "attrs") marks origin_on refl
      ∙ none_in_origin (codes "attrs") refl refl refl refl refl refl)

-- ---- kinds

kind_is : (k : Kind) → is_outer k ≡ true → kind_in true (json_text (kind_name k)) ≡ Some k
unfolding page_on_literals
kind_is Root e = cc
kind_is P e = refl
kind_is H1 e = refl
kind_is H2 e = refl
kind_is H3 e = refl
kind_is H4 e = refl
kind_is H5 e = refl
kind_is H6 e = refl
kind_is Pre e = refl
kind_is Section e = refl
kind_is Li e = refl
kind_is Dt e = refl
kind_is Dd e = refl
kind_is Blockquote e = refl
kind_is Div e = refl
kind_is Td e = refl
kind_is Th e = refl
kind_is Caption e = refl
kind_is InternalItem e = cc
kind_is Ul e = refl
kind_is Ol e = refl
kind_is Dl e = refl
kind_is Table e = refl
kind_is Thead e = refl
kind_is Tbody e = refl
kind_is Tfoot e = refl
kind_is Tr e = refl
kind_is InternalList e = cc
kind_is TransBlock e = refl
kind_is AlienBlock e = refl
kind_is Br e = refl
kind_is Img e = refl
kind_is Ref e = refl
kind_is TransInline e = refl
kind_is AlienInline e = refl

-- ---- an opening

generated_or : (generated : Bool) → read_or false as_bool (flag_shown generated) ≡ Some generated
generated_or false = refl
generated_or true = refl

origin_or : (origin : Option ℕ) → IsOrigin origin → read_or None some_number_in (origin_shown origin) ≡ Some origin
origin_or None p = refl
origin_or (Some n) p = ap (option_map (λ k. Some k)) (passes (λ k. nat_lt k 4294967296) n p)

abbrev pub head_read : Kind → Head → Head
head_read kind head = if is_element kind then head else plain_head []

module _ (kind : Kind) (head : Head) (marks : List Mark) (pre : List ℕ) (origin : Option ℕ) (generated : Bool) (outer : is_outer kind ≡ true)
    (own : is_element kind ≡ true → IsElementHead head) (few : AreMarks true marks) (white : IsWhite pre) (may : may_open kind marks pre ≡ true) (known : IsOrigin origin)
    (comes : may_come kind (record { origin = origin; generated = generated }) ≡ true) where
  abbrev all : Members
  all = opening_shown kind head marks pre origin generated

  abbrev from : Provenance
  from = record { origin = origin; generated = generated }

  -- the attributes that are read
  abbrev attrs_read : List Attr
  attrs_read = if is_element kind then head.attrs else []

  attrs_back : opening_attrs_in true all kind ≡ Some attrs_read
  attrs_back = by (is_element kind) refl
    where
      by : (b : Bool) → is_element kind ≡ b → (if b then member_or (codes "attrs") [] (allowed_attrs_in true) all else Some []) ≡ Some (if b then head.attrs else [])
      by false e = refl
      by true e = ap (read_or [] (allowed_attrs_in true)) (attrs_is kind head marks pre origin generated) ∙ attrs_or true head.attrs (own e).attrs (own e).allowed

  head_back : plain_head attrs_read ≡ head_read kind head
  head_back = by (is_element kind) refl
    where
      by : (b : Bool) → is_element kind ≡ b → plain_head (if b then head.attrs else []) ≡ (if b then head else plain_head [])
      by false e = refl
      by true e = sym (own e).plain

  provenance_back : provenance_in true all kind ≡ Some from
  provenance_back =
      let last : Bool → Option (Option ℕ) → Option Provenance =
      λ flag o. option_and_then (λ place. such_that (may_come kind) (Some (record { origin = place; generated = flag }))) o in
      let first : Option Bool → Option Provenance = λ o. option_and_then (λ flag. last flag (member_or (codes "origin") None some_number_in all)) o in
      ap first (ap (read_or false as_bool) (generated_is kind head marks pre origin generated) ∙ generated_or generated)
      ∙ ap (last generated) (ap (read_or None some_number_in) (origin_is kind head marks pre origin generated) ∙ origin_or origin known)
      ∙ passes (may_come kind) from comes

  opening_back : opening_in true all kind ≡ Some (Opening kind (head_read kind head) marks pre origin generated)
  opening_back =
      let whole : List Attr → List Mark → List ℕ → Option Provenance → Option PlainItem = λ xs ys p o. option_and_then (λ q. opening_with kind xs ys p q) o in
      let last : List Attr → List Mark → Option (List ℕ) → Option PlainItem = λ xs ys o. option_and_then (λ p. whole xs ys p (provenance_in true all kind)) o in
      let inner : List Attr → Option (List Mark) → Option PlainItem = λ xs o. option_and_then (λ ys. last xs ys (member_or (codes "pre") [] white_in all)) o in
      let outer : Option (List Attr) → Option PlainItem = λ o. option_and_then (λ xs. inner xs (member_or (codes "marks") [] (marks_in true) all)) o in
      ap outer attrs_back
      ∙ ap (inner attrs_read) (ap (read_or [] (marks_in true)) (marks_is kind head marks pre origin generated) ∙ marks_or true marks few)
      ∙ ap (last attrs_read marks) (ap (read_or [] white_in) (pre_is kind head marks pre origin generated) ∙ white_or pre white)
      ∙ ap (whole attrs_read marks pre) provenance_back
      ∙ ap (λ b. if b then Some (Opening kind (plain_head attrs_read) marks pre origin generated) else None) may
      ∙ ap (λ (h : Head). Some (Opening kind h marks pre origin generated)) head_back

  item_back : items_in true (object all) ≡ Some (Opening kind (head_read kind head) marks pre origin generated ∷ [])
  item_back =
      ap (λ o. option_map (λ x. x ∷ []) (bracket_in true all o (get_member (codes "close") all))) (open_is kind head marks pre origin generated)
      ∙ ap (λ o. option_map (λ x. x ∷ []) (option_and_then (opening_in true all) o)) (kind_is kind outer)
      ∙ ap (λ o. option_map (λ x. x ∷ []) o) opening_back

closing_back : (kind : Kind) (pre : List ℕ) → is_outer kind ≡ true → IsWhite pre → may_close kind pre ≡ true → items_in true (object (closing_shown kind pre)) ≡ Some (Closing kind pre ∷ [])
closing_back kind pre outer white may =
    let members = closing_shown kind pre in
    let one : closing_in members kind ≡ Some (Closing kind pre) =
    ap (λ o. option_and_then (λ p. if may_close kind p then Some (Closing kind p) else None) o) (ap (read_or [] white_in) (closed_pre_at kind pre) ∙ white_or pre white)
    ∙ ap (λ b. if b then Some (Closing kind pre) else None) may in
    ap (λ o. option_map (λ x. x ∷ []) (bracket_in true members o (get_member (codes "close") members))) (no_open_at kind pre)
    ∙ ap (λ o. option_map (λ x. x ∷ []) (option_and_then (closing_in members) (option_and_then (kind_in true) o))) (close_at kind pre)
    ∙ ap (λ o. option_map (λ x. x ∷ []) (option_and_then (closing_in members) o)) (kind_is kind outer)
    ∙ ap (λ o. option_map (λ x. x ∷ []) o) one

-- ---- the list

shown_back : (items : List PlainItem) → AllByRecursion CanPutBack items → Back true (as_shown items) (map without_head items)
shown_back [] p = record { lists = []; are = refl; whole = refl }
shown_back (Char c marks ∷ items) p = char_back true c marks (as_shown items) (map without_head items) (p.0).0 (p.0).1 (shown_back items p.1)
shown_back (Opening kind head marks pre origin generated ∷ items) p =
    let w = p.0 in
    one_back true (object (opening_shown kind head marks pre origin generated)) (all_shown (as_shown items)) (Opening kind (head_read kind head) marks pre origin generated ∷ [])
    (map without_head items) (item_back kind head marks pre origin generated w.0 w.1 w.2 w.3 w.4 w.5 w.6) (all_back true (as_shown items) (map without_head items) (shown_back items p.1))
shown_back (Closing kind pre ∷ items) p =
    let w = p.0 in
    one_back true (object (closing_shown kind pre)) (all_shown (as_shown items)) (Closing kind pre ∷ []) (map without_head items) (closing_back kind pre w.0 w.1 w.2)
    (all_back true (as_shown items) (map without_head items) (shown_back items p.1))

pub exact_is_read : ExactIsRead
exact_is_read items p =
    let b = all_back true (as_shown items) (map without_head items) (shown_back items p) in
    ap (λ values. option_map one_list (all_read (items_in true) values)) (listed_back (all_shown (as_shown items)))
    ∙ ap (option_map one_list) b.are
    ∙ ap (λ xs. Some xs) (sym b.whole)
