-- The laws of the tables, one kind after another.
use Rattle.std.proofs.Common.{◌≡◌, ℕ, Bool, if◌then◌else◌, true, false, ◌||◌, List, [], ◌∷◌, Some, IfSome, refl, ap, ◌∙◌}
use Rattle.std.specs.Str.{bytes_eq}
use Rattle.std.proofs.lemmas.Slice.Eq.{bytes_eq-Decides}
use Rattle.ve_kinds.specs.declared.kind.Kind.{Kind}
use Rattle.ve_kinds.specs.declared.kind.Kind.TheVariants.{Root, P, H1, H2, H3, H4, H5, H6, Pre, Section, Li, Dt, Dd, Blockquote, Div, Td, Th, Caption, InternalItem, Ul, Ol, Dl, Table, Thead, Tbody, Tfoot, Tr, InternalList, TransBlock, AlienBlock, Br, Img, Ref, TransInline, AlienInline}
use Rattle.ve_kinds.specs.Laws.{KindsHaveOneClass, TagsSpellElements, KindsHaveTheirTags, LeavesAreEmpty, InlineLeavesStandInContent, FlowHoldsBlocks}
use Rattle.ve_kinds.specs.Table.{kind_same, may_hold, is_content_branch}
use Rattle.ve_kinds.specs.Tags.{tags_of_kinds, kind_among, tag_of_kind}

-- no test both fails and passes (`cc`, asked for each kind, would work out its tests anew)
never : (A : Type 0) → false ≡ true → A
never A h = cc

pub one_class : KindsHaveOneClass
one_class Root = refl
one_class P = refl
one_class H1 = refl
one_class H2 = refl
one_class H3 = refl
one_class H4 = refl
one_class H5 = refl
one_class H6 = refl
one_class Pre = refl
one_class Section = refl
one_class Li = refl
one_class Dt = refl
one_class Dd = refl
one_class Blockquote = refl
one_class Div = refl
one_class Td = refl
one_class Th = refl
one_class Caption = refl
one_class InternalItem = refl
one_class Ul = refl
one_class Ol = refl
one_class Dl = refl
one_class Table = refl
one_class Thead = refl
one_class Tbody = refl
one_class Tfoot = refl
one_class Tr = refl
one_class InternalList = refl
one_class TransBlock = refl
one_class AlienBlock = refl
one_class Br = refl
one_class Img = refl
one_class Ref = refl
one_class TransInline = refl
one_class AlienInline = refl

pub tags_spell : TagsSpellElements
tags_spell Root = refl
tags_spell P = refl
tags_spell H1 = refl
tags_spell H2 = refl
tags_spell H3 = refl
tags_spell H4 = refl
tags_spell H5 = refl
tags_spell H6 = refl
tags_spell Pre = refl
tags_spell Section = refl
tags_spell Li = refl
tags_spell Dt = refl
tags_spell Dd = refl
tags_spell Blockquote = refl
tags_spell Div = refl
tags_spell Td = refl
tags_spell Th = refl
tags_spell Caption = refl
tags_spell InternalItem = refl
tags_spell Ul = refl
tags_spell Ol = refl
tags_spell Dl = refl
tags_spell Table = refl
tags_spell Thead = refl
tags_spell Tbody = refl
tags_spell Tfoot = refl
tags_spell Tr = refl
tags_spell InternalList = refl
tags_spell TransBlock = refl
tags_spell AlienBlock = refl
tags_spell Br = refl
tags_spell Img = refl
tags_spell Ref = refl
tags_spell TransInline = refl
tags_spell AlienInline = refl

abbrev AllTagged : List (List ℕ × Kind) → Type 0
AllTagged [] = Unit {0}
AllTagged (row ∷ rows) = (tag_of_kind row.1 ≡ Some row.0) × AllTagged rows

-- what a search in rows finds has the tag that was sought
found_has : (rows : List (List ℕ × Kind)) (tag : List ℕ) → AllTagged rows → IfSome (kind_among rows tag) (λ k. tag_of_kind k ≡ Some tag)
found_has [] tag tagged = tt
found_has (row ∷ rows) tag tagged = go (bytes_eq row.0 tag) refl (found_has rows tag tagged.1) where
  go : (b : Bool) → bytes_eq row.0 tag ≡ b → IfSome (kind_among rows tag) (λ k. tag_of_kind k ≡ Some tag)
      → IfSome (if b then Some row.1 else kind_among rows tag) (λ k. tag_of_kind k ≡ Some tag)
  go true same rest = tagged.0 ∙ ap (λ t. Some t) ((bytes_eq-Decides row.0 tag).0 same)
  go false other rest = rest

pub their_tags : KindsHaveTheirTags
their_tags tag = found_has tags_of_kinds tag (refl, (refl, (refl, (refl, (refl, (refl, (refl, (refl, (refl, (refl, (refl, (refl, (refl, (refl, (refl, (refl, (refl, (refl, (refl, (refl, (refl, (refl, (refl, (refl, (refl, (refl, (refl, tt)))))))))))))))))))))))))))

pub leaves_are_empty : LeavesAreEmpty
leaves_are_empty Root child leaf = never _ leaf
leaves_are_empty P child leaf = never _ leaf
leaves_are_empty H1 child leaf = never _ leaf
leaves_are_empty H2 child leaf = never _ leaf
leaves_are_empty H3 child leaf = never _ leaf
leaves_are_empty H4 child leaf = never _ leaf
leaves_are_empty H5 child leaf = never _ leaf
leaves_are_empty H6 child leaf = never _ leaf
leaves_are_empty Pre child leaf = never _ leaf
leaves_are_empty Section child leaf = never _ leaf
leaves_are_empty Li child leaf = never _ leaf
leaves_are_empty Dt child leaf = never _ leaf
leaves_are_empty Dd child leaf = never _ leaf
leaves_are_empty Blockquote child leaf = never _ leaf
leaves_are_empty Div child leaf = never _ leaf
leaves_are_empty Td child leaf = never _ leaf
leaves_are_empty Th child leaf = never _ leaf
leaves_are_empty Caption child leaf = never _ leaf
leaves_are_empty InternalItem child leaf = never _ leaf
leaves_are_empty Ul child leaf = never _ leaf
leaves_are_empty Ol child leaf = never _ leaf
leaves_are_empty Dl child leaf = never _ leaf
leaves_are_empty Table child leaf = never _ leaf
leaves_are_empty Thead child leaf = never _ leaf
leaves_are_empty Tbody child leaf = never _ leaf
leaves_are_empty Tfoot child leaf = never _ leaf
leaves_are_empty Tr child leaf = never _ leaf
leaves_are_empty InternalList child leaf = never _ leaf
leaves_are_empty TransBlock child leaf = refl
leaves_are_empty AlienBlock child leaf = refl
leaves_are_empty Br child leaf = refl
leaves_are_empty Img child leaf = refl
leaves_are_empty Ref child leaf = refl
leaves_are_empty TransInline child leaf = refl
leaves_are_empty AlienInline child leaf = refl

-- the inline leaves, in a kind
in_content : (k : Kind) → (may_hold k Br ≡ is_content_branch k) × (may_hold k Img ≡ is_content_branch k) × (may_hold k Ref ≡ is_content_branch k) × (may_hold k TransInline ≡ is_content_branch k) × (may_hold k AlienInline ≡ is_content_branch k)
in_content Root = (refl, refl, refl, refl, refl)
in_content P = (refl, refl, refl, refl, refl)
in_content H1 = (refl, refl, refl, refl, refl)
in_content H2 = (refl, refl, refl, refl, refl)
in_content H3 = (refl, refl, refl, refl, refl)
in_content H4 = (refl, refl, refl, refl, refl)
in_content H5 = (refl, refl, refl, refl, refl)
in_content H6 = (refl, refl, refl, refl, refl)
in_content Pre = (refl, refl, refl, refl, refl)
in_content Section = (refl, refl, refl, refl, refl)
in_content Li = (refl, refl, refl, refl, refl)
in_content Dt = (refl, refl, refl, refl, refl)
in_content Dd = (refl, refl, refl, refl, refl)
in_content Blockquote = (refl, refl, refl, refl, refl)
in_content Div = (refl, refl, refl, refl, refl)
in_content Td = (refl, refl, refl, refl, refl)
in_content Th = (refl, refl, refl, refl, refl)
in_content Caption = (refl, refl, refl, refl, refl)
in_content InternalItem = (refl, refl, refl, refl, refl)
in_content Ul = (refl, refl, refl, refl, refl)
in_content Ol = (refl, refl, refl, refl, refl)
in_content Dl = (refl, refl, refl, refl, refl)
in_content Table = (refl, refl, refl, refl, refl)
in_content Thead = (refl, refl, refl, refl, refl)
in_content Tbody = (refl, refl, refl, refl, refl)
in_content Tfoot = (refl, refl, refl, refl, refl)
in_content Tr = (refl, refl, refl, refl, refl)
in_content InternalList = (refl, refl, refl, refl, refl)
in_content TransBlock = (refl, refl, refl, refl, refl)
in_content AlienBlock = (refl, refl, refl, refl, refl)
in_content Br = (refl, refl, refl, refl, refl)
in_content Img = (refl, refl, refl, refl, refl)
in_content Ref = (refl, refl, refl, refl, refl)
in_content TransInline = (refl, refl, refl, refl, refl)
in_content AlienInline = (refl, refl, refl, refl, refl)

pub inline_in_content : InlineLeavesStandInContent
inline_in_content k Root inline = never _ inline
inline_in_content k P inline = never _ inline
inline_in_content k H1 inline = never _ inline
inline_in_content k H2 inline = never _ inline
inline_in_content k H3 inline = never _ inline
inline_in_content k H4 inline = never _ inline
inline_in_content k H5 inline = never _ inline
inline_in_content k H6 inline = never _ inline
inline_in_content k Pre inline = never _ inline
inline_in_content k Section inline = never _ inline
inline_in_content k Li inline = never _ inline
inline_in_content k Dt inline = never _ inline
inline_in_content k Dd inline = never _ inline
inline_in_content k Blockquote inline = never _ inline
inline_in_content k Div inline = never _ inline
inline_in_content k Td inline = never _ inline
inline_in_content k Th inline = never _ inline
inline_in_content k Caption inline = never _ inline
inline_in_content k InternalItem inline = never _ inline
inline_in_content k Ul inline = never _ inline
inline_in_content k Ol inline = never _ inline
inline_in_content k Dl inline = never _ inline
inline_in_content k Table inline = never _ inline
inline_in_content k Thead inline = never _ inline
inline_in_content k Tbody inline = never _ inline
inline_in_content k Tfoot inline = never _ inline
inline_in_content k Tr inline = never _ inline
inline_in_content k InternalList inline = never _ inline
inline_in_content k TransBlock inline = never _ inline
inline_in_content k AlienBlock inline = never _ inline
inline_in_content k Br inline = (in_content k).0
inline_in_content k Img inline = (in_content k).1
inline_in_content k Ref inline = (in_content k).2
inline_in_content k TransInline inline = (in_content k).3
inline_in_content k AlienInline inline = (in_content k).4

or_later : (first later : Bool) → later ≡ true → (first || later) ≡ true
or_later true later h = refl
or_later false later h = h

pub flow_holds : FlowHoldsBlocks
flow_holds Root child flow block = or_later (kind_same Section child) _ (or_later (kind_same InternalList child) _ block)
flow_holds P child flow block = never _ flow
flow_holds H1 child flow block = never _ flow
flow_holds H2 child flow block = never _ flow
flow_holds H3 child flow block = never _ flow
flow_holds H4 child flow block = never _ flow
flow_holds H5 child flow block = never _ flow
flow_holds H6 child flow block = never _ flow
flow_holds Pre child flow block = never _ flow
flow_holds Section child flow block = or_later (kind_same Section child) _ block
flow_holds Li child flow block = block
flow_holds Dt child flow block = block
flow_holds Dd child flow block = block
flow_holds Blockquote child flow block = block
flow_holds Div child flow block = or_later (kind_same Section child) _ block
flow_holds Td child flow block = block
flow_holds Th child flow block = block
flow_holds Caption child flow block = block
flow_holds InternalItem child flow block = block
flow_holds Ul child flow block = never _ flow
flow_holds Ol child flow block = never _ flow
flow_holds Dl child flow block = never _ flow
flow_holds Table child flow block = never _ flow
flow_holds Thead child flow block = never _ flow
flow_holds Tbody child flow block = never _ flow
flow_holds Tfoot child flow block = never _ flow
flow_holds Tr child flow block = never _ flow
flow_holds InternalList child flow block = never _ flow
flow_holds TransBlock child flow block = never _ flow
flow_holds AlienBlock child flow block = never _ flow
flow_holds Br child flow block = never _ flow
flow_holds Img child flow block = never _ flow
flow_holds Ref child flow block = never _ flow
flow_holds TransInline child flow block = never _ flow
flow_holds AlienInline child flow block = never _ flow
