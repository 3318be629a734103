-- The classes of kinds, and which kind may hold which.
use Rattle.std.specs.Prelude.{Bool, false, ◌||◌, List, [], ◌∷◌, ◌++◌}
use Rattle.ve_kinds.specs.declared.kind.Kind.{Kind}
use Rattle.ve_kinds.specs.declared.kind.Kind.TheVariants.{Root, P, H1, H2, H3, H4, H5, H6, Pre, Section, Li, Dt, Dd, Blockquote, Div, Td, Th, Caption, InternalItem, Ul, Ol, Dl, Table, Thead, Tbody, Tfoot, Tr, InternalList, TransBlock, AlienBlock, Br, Img, Ref, TransInline, AlienInline}
use denote.Enum.Bare.{sameb}
use Rattle.ve_kinds.specs.contracts.kind.Kind.{the_type}

-- one kind is the other, as `==` of the enum says
abbrev pub kind_same : Kind → Kind → Bool
kind_same a b = sameb the_type a b

abbrev pub is_among : List Kind → Kind → Bool
is_among [] k = false
is_among (one ∷ others) k = kind_same one k || is_among others k

abbrev pub content_branches : List Kind
content_branches = P ∷ H1 ∷ H2 ∷ H3 ∷ H4 ∷ H5 ∷ H6 ∷ Pre ∷ []

abbrev pub flow_kinds : List Kind
flow_kinds = Root ∷ Section ∷ Li ∷ Dt ∷ Dd ∷ Blockquote ∷ Div ∷ Td ∷ Th ∷ Caption ∷ InternalItem ∷ []

abbrev pub structural_kinds : List Kind
structural_kinds = Ul ∷ Ol ∷ Dl ∷ Table ∷ Thead ∷ Tbody ∷ Tfoot ∷ Tr ∷ InternalList ∷ []

abbrev pub block_leaves : List Kind
block_leaves = TransBlock ∷ AlienBlock ∷ []

abbrev pub inline_leaves : List Kind
inline_leaves = Br ∷ Img ∷ Ref ∷ TransInline ∷ AlienInline ∷ []

-- the kinds that every flow kind may hold
abbrev pub blocks : List Kind
blocks = content_branches ++ (Ul ∷ Ol ∷ Dl ∷ Blockquote ∷ Div ∷ Table ∷ TransBlock ∷ AlienBlock ∷ [])

-- those that a tag of the same name spells
abbrev pub element_kinds : List Kind
element_kinds =
    Section ∷ content_branches
    ++ (Ul ∷ Ol ∷ Li ∷ Dl ∷ Dt ∷ Dd ∷ Blockquote ∷ Div ∷ Table ∷ Caption ∷ Thead ∷ Tbody ∷ Tfoot ∷ Tr ∷ Td ∷ Th ∷ Br ∷ Img ∷ [])

abbrev pub is_content_branch : Kind → Bool
is_content_branch = is_among content_branches

abbrev pub is_flow : Kind → Bool
is_flow = is_among flow_kinds

abbrev pub is_structural : Kind → Bool
is_structural = is_among structural_kinds

abbrev pub is_block_leaf : Kind → Bool
is_block_leaf = is_among block_leaves

abbrev pub is_inline_leaf : Kind → Bool
is_inline_leaf = is_among inline_leaves

abbrev pub is_leaf : Kind → Bool
is_leaf k = is_among block_leaves k || is_among inline_leaves k

abbrev pub is_element : Kind → Bool
is_element = is_among element_kinds

-- the kinds that may stand just inside
abbrev pub held_by : Kind → List Kind
held_by Root = Section ∷ InternalList ∷ blocks
held_by Section = Section ∷ blocks
held_by Div = Section ∷ blocks
held_by Ul = Li ∷ block_leaves
held_by Ol = Li ∷ block_leaves
held_by Dl = Dt ∷ Dd ∷ block_leaves
held_by Table = Caption ∷ Thead ∷ Tbody ∷ Tfoot ∷ block_leaves
held_by Thead = Tr ∷ block_leaves
held_by Tbody = Tr ∷ block_leaves
held_by Tfoot = Tr ∷ block_leaves
held_by Tr = Td ∷ Th ∷ block_leaves
held_by InternalList = InternalItem ∷ []
held_by Li = blocks
held_by Dt = blocks
held_by Dd = blocks
held_by Blockquote = blocks
held_by Td = blocks
held_by Th = blocks
held_by Caption = blocks
held_by InternalItem = blocks
held_by P = inline_leaves
held_by H1 = inline_leaves
held_by H2 = inline_leaves
held_by H3 = inline_leaves
held_by H4 = inline_leaves
held_by H5 = inline_leaves
held_by H6 = inline_leaves
held_by Pre = inline_leaves
held_by _ = []

abbrev pub may_hold : Kind → Kind → Bool
may_hold parent child = is_among (held_by parent) child
