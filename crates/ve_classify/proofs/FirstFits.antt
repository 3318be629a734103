-- The fit of the first part, by its node.
use Rattle.std.proofs.Common.{◌≡◌, ℕ, zero, suc, ◌+◌, Bool, true, false, not, ◌&&◌, List, [], ◌∷◌, ◌++◌, length, Option, Some, None, refl, sym, ap, ◌∙◌, subst, arith, if◌then◌else◌, Bor}
use Rattle.std.specs.Prelude.{slice_get, nat_lt}
use Rattle.std.specs.List.{list_any, list_all}
use Rattle.std.proofs.lemmas.Bool.{le-ltb, lt-ltb}
use Rattle.model_spelling.specs.Grammar as g
use Rattle.model_spelling.specs.Grammar.{Attr, name_same, start_text, end_text}
use Rattle.model_spelling.specs.Forest.{Forest, Nothing, Text, Remark, Void, RawElement, Element, spelling, is_forest}
use Rattle.model_spelling.specs.ForestNodes.{ForestNode, forest_size, forest_nodes}
use Rattle.model_spelling.proofs.AttrReading.{and_left, and_right}
use Rattle.model_spelling.proofs.Back.{raw_parts}
use Rattle.model_spelling.proofs.ForestLaws.{any_passes, equal_names}
use Rattle.ve_kinds.specs.declared.kind.Kind.{Kind}
use Rattle.ve_kinds.specs.declared.kind.Kind.TheVariants.{Root, P, H1, H2, H3, H4, H5, H6, Pre, Section, Li, Dt, Dd, Blockquote, Div, Td, Th, Caption, InternalItem, Ul, Ol, Dl, Table, Thead, Tbody, Tfoot, Tr, InternalList, TransBlock, AlienBlock, Br, Img, Ref, TransInline, AlienInline}
use Rattle.ve_kinds.specs.Tags.{kind_of_tag, is_raw, raw_tags}
use Rattle.model_page.specs.Elements.{is_white, about_of, is_held}
use Rattle.model_page.specs.Parts.{Parts, Ended, Words, Note, Group, Single, Parent, about_in, is_shared, with_held, parts_of}
use Rattle.model_page.specs.Fit as model
use Rattle.model_page.specs.Fit.{has_child, fit_of, fit_in_content, fit_in_block, some_element, has_inline_tags, is_generated, whole_kind}
use Rattle.model_page.specs.Tags.{is_annotation_tag}
use Rattle.ve_html_scan.specs.Shown.{ShowsToken, ShowsAttrs}
use Rattle.ve_html_scan.specs.declared.attr_tokens.AttrTokens.{AttrTokens}
use Rattle.ve_html_scan.specs.declared.token.Span.{Span}
use Rattle.ve_html_scan.specs.declared.token.Token.{Token}
use Rattle.ve_html_scan.specs.declared.token.Token.TheVariants as lent
use Rattle.ve_html_tree.specs.declared.node.Node.{Node}
use Rattle.ve_classify.specs.declared.around.Fit.{Fit}
use Rattle.ve_classify.specs.declared.around.Fit.TheVariants as fit
use Rattle.ve_classify.specs.Standing.{ShownFrom, Stands, has_node}
use Rattle.ve_classify.specs.Fits.{same_fit, content_fit, element_fit, first_fit, group_fit, words_fit}
use Rattle.ve_classify.proofs.StandLemmas.{first_shown, first_of, first_token, shown_first, stands_children}
use Rattle.ve_classify.proofs.GroupLemmas.{held_begins, first_held, group_split}

-- ---- whether an element has a child

has_either : (c : Bool) (a b : Parts) → has_child a ≡ true → has_child b ≡ true → has_child (if c then a else b) ≡ true
has_either true a b e f = e
has_either false a b e f = f

has_held : (about : Option (List ℕ)) (element : Forest → Forest) (parts : Parts) → has_child (with_held about element parts) ≡ true
has_held about element Ended = refl
has_held about element (Words text Ended) = refl
has_held about element (Words text (Words t later)) = refl
has_held about element (Words text (Note t later)) = refl
has_held about element (Words text (Group nodes later)) = has_either (is_white text && is_shared about (about_in nodes)) _ _ refl refl
has_held about element (Words text (Single name attrs source later)) = refl
has_held about element (Words text (Parent name attrs children later)) = refl
has_held about element (Note text later) = refl
has_held about element (Group nodes later) = has_either (is_shared about (about_in nodes)) _ _ refl refl
has_held about element (Single name attrs source later) = refl
has_held about element (Parent name attrs children later) = refl

has_part : (f : Forest) → has_child (parts_of f) ≡ has_node f
has_part Nothing = refl
has_part (Text text rest) = refl
has_part (Remark text rest) = refl
has_part (Void name attrs slash rest) = has_either (is_held attrs) _ _ (has_held (about_of attrs) (Void name attrs slash) (parts_of rest)) refl
has_part (RawElement name attrs text rest) = has_either (is_held attrs) _ _ (has_held (about_of attrs) (RawElement name attrs text) (parts_of rest)) refl
has_part (Element name attrs children rest) = has_either (is_held attrs) _ _ (has_held (about_of attrs) (Element name attrs children) (parts_of rest)) refl

counted : (f : Forest) (n next : ℕ) (b : Bool) → nat_lt n next ≡ b → next ≡ n + forest_size f → b ≡ has_node f
counted Nothing n next b lt e = sym lt ∙ le-ltb n next (omega (arith, e))
counted (Text text rest) n next b lt e = sym lt ∙ lt-ltb n next (omega (arith, e))
counted (Remark text rest) n next b lt e = sym lt ∙ lt-ltb n next (omega (arith, e))
counted (Void name attrs slash rest) n next b lt e = sym lt ∙ lt-ltb n next (omega (arith, e))
counted (RawElement name attrs [] rest) n next b lt e = sym lt ∙ lt-ltb n next (omega (arith, e))
counted (RawElement name attrs (x ∷ xs) rest) n next b lt e = sym lt ∙ lt-ltb n next (omega (arith, e))
counted (Element name attrs children rest) n next b lt e = sym lt ∙ lt-ltb n next (omega (arith, e))

-- the code's test of a child
pub child_is : (f : Forest) (n next : ℕ) → next ≡ n + forest_size f → nat_lt n next ≡ has_child (parts_of f)
child_is f n next e = counted f n next (nat_lt n next) refl e ∙ sym (has_part f)

-- ---- the fit in content

mark_same : (x : Bool) → (if x then fit.Annotation else fit.Whole AlienInline) ≡ same_fit (if x then model.Annotation else model.Whole AlienInline)
mark_same true = refl
mark_same false = refl

content_by : (name : List ℕ) (children : Parts) (kind : Option Kind) → content_fit name (has_child children) kind ≡ same_fit (fit_in_content name children kind)
content_by name children None = mark_same (is_annotation_tag name && has_child children)
content_by name children (Some Root) = mark_same (is_annotation_tag name && has_child children)
content_by name children (Some P) = mark_same (is_annotation_tag name && has_child children)
content_by name children (Some H1) = mark_same (is_annotation_tag name && has_child children)
content_by name children (Some H2) = mark_same (is_annotation_tag name && has_child children)
content_by name children (Some H3) = mark_same (is_annotation_tag name && has_child children)
content_by name children (Some H4) = mark_same (is_annotation_tag name && has_child children)
content_by name children (Some H5) = mark_same (is_annotation_tag name && has_child children)
content_by name children (Some H6) = mark_same (is_annotation_tag name && has_child children)
content_by name children (Some Pre) = mark_same (is_annotation_tag name && has_child children)
content_by name children (Some Section) = mark_same (is_annotation_tag name && has_child children)
content_by name children (Some Li) = mark_same (is_annotation_tag name && has_child children)
content_by name children (Some Dt) = mark_same (is_annotation_tag name && has_child children)
content_by name children (Some Dd) = mark_same (is_annotation_tag name && has_child children)
content_by name children (Some Blockquote) = mark_same (is_annotation_tag name && has_child children)
content_by name children (Some Div) = mark_same (is_annotation_tag name && has_child children)
content_by name children (Some Td) = mark_same (is_annotation_tag name && has_child children)
content_by name children (Some Th) = mark_same (is_annotation_tag name && has_child children)
content_by name children (Some Caption) = mark_same (is_annotation_tag name && has_child children)
content_by name children (Some InternalItem) = mark_same (is_annotation_tag name && has_child children)
content_by name children (Some Ul) = mark_same (is_annotation_tag name && has_child children)
content_by name children (Some Ol) = mark_same (is_annotation_tag name && has_child children)
content_by name children (Some Dl) = mark_same (is_annotation_tag name && has_child children)
content_by name children (Some Table) = mark_same (is_annotation_tag name && has_child children)
content_by name children (Some Thead) = mark_same (is_annotation_tag name && has_child children)
content_by name children (Some Tbody) = mark_same (is_annotation_tag name && has_child children)
content_by name children (Some Tfoot) = mark_same (is_annotation_tag name && has_child children)
content_by name children (Some Tr) = mark_same (is_annotation_tag name && has_child children)
content_by name children (Some InternalList) = mark_same (is_annotation_tag name && has_child children)
content_by name children (Some TransBlock) = mark_same (is_annotation_tag name && has_child children)
content_by name children (Some AlienBlock) = mark_same (is_annotation_tag name && has_child children)
content_by name children (Some Br) = refl
content_by name children (Some Img) = refl
content_by name children (Some Ref) = mark_same (is_annotation_tag name && has_child children)
content_by name children (Some TransInline) = mark_same (is_annotation_tag name && has_child children)
content_by name children (Some AlienInline) = mark_same (is_annotation_tag name && has_child children)

pub content_is : (name : List ℕ) (f : Forest) (n next : ℕ) (kind : Option Kind) → next ≡ n + forest_size f → content_fit name (nat_lt n next) kind ≡ same_fit (fit_in_content name (parts_of f) kind)
content_is name f n next kind e = ap (λ b. content_fit name b kind) (child_is f n next e) ∙ content_by name (parts_of f) kind

-- ---- raw elements

abbrev no_kind : Option Kind → Bool
no_kind None = true
no_kind (Some k) = false

none_is : (k : Option Kind) → no_kind k ≡ true → k ≡ None
none_is None e = refl
none_is (Some k) e = absurd cc

pub record RawName (name : List ℕ) : Type 0 where
  pub kind : kind_of_tag name ≡ None
  pub mark : is_annotation_tag name ≡ false

abbrev raw_like : List ℕ → Bool
raw_like r = no_kind (kind_of_tag r) && not (is_annotation_tag r)

raw_one_of : (name : List ℕ) → is_raw name ≡ true → list_any (λ r. name_same r name) raw_tags ≡ true
unfolding is_raw name_same
raw_one_of name e = e

raw_names_like : list_all raw_like raw_tags ≡ true
raw_names_like = refl

not_true : (b : Bool) → not b ≡ true → b ≡ false
not_true true e = absurd cc
not_true false e = refl

-- no raw element has a kind or marks text
pub raw_is : (name : List ℕ) → is_raw name ≡ true → RawName name
raw_is name e =
    let found = any_passes (λ r. name_same r name) raw_like raw_tags (raw_one_of name e) raw_names_like in
    let same : found.0 ≡ name = equal_names found.0 name found.1 in
    subst RawName same (record { kind = none_is (kind_of_tag found.0) (and_left (no_kind (kind_of_tag found.0)) (not (is_annotation_tag found.0)) found.2); mark = not_true (is_annotation_tag found.0) (and_right (no_kind (kind_of_tag found.0)) (not (is_annotation_tag found.0)) found.2) })

pub raw_content : (name : List ℕ) (b : Bool) → is_raw name ≡ true → content_fit name b (kind_of_tag name) ≡ same_fit (fit_in_content name Ended (kind_of_tag name))
raw_content name b e =
    let r = raw_is name e in
    ap (content_fit name b) r.kind ∙ ap (λ x. if x && b then fit.Annotation else fit.Whole AlienInline) r.mark
    ∙ sym (ap (λ k. same_fit (fit_in_content name Ended k)) r.kind ∙ ap (λ x. same_fit (if x && false then model.Annotation else model.Whole AlienInline)) r.mark)

-- ---- the fit of a group

-- the nodes of a group as they are shown
pub group_shown : (nodes : List Node) (n at : ℕ) (f kept : Forest) (later : Parts) (more : List ForestNode) → Stands nodes n at f more → parts_of f ≡ Group kept later →
    (rs : List ForestNode) × ShownFrom nodes n at kept rs
group_shown nodes n at f kept later more s e =
    let p = group_split f kept later e in
    (forest_nodes (n + forest_size kept) (at + length (spelling kept)) p.after ++ more, shown_first nodes n at kept p.after more (subst (λ (x : Forest). ShownFrom nodes n at x more) p.is s.shown))

-- ---- the fit of an element that isn't held, and of all

-- what the code asks of the first token, where it is an element's
pub record ElementAt (nodes : List Node) (n at : ℕ) (f : Forest) (more : List ForestNode) (name : List ℕ) (result : Fit) (around : model.Around) : Type 0 where
  pub children : (h : Forest) (inner : ℕ) (rs : List ForestNode) (x : Node) → ShownFrom nodes (n + 1) inner h rs → slice_get nodes n ≡ Some x → x.next ≡ n + 1 + forest_size h → result ≡ element_fit around name (parts_of h)
  pub raw : is_raw name ≡ true → result ≡ element_fit around name Ended

allowed_raw : (room : ℕ) (name : List ℕ) (attrs : List Attr) (text : List ℕ) (rest : Forest) → is_forest room (RawElement name attrs text rest) ≡ true → is_raw name ≡ true
allowed_raw zero name attrs text rest e = absurd cc
allowed_raw (suc room) name attrs text rest e = (raw_parts room name attrs text rest e).raw

name_shown : (t : Token) (name : Bor (List ℕ)) (attrs : AttrTokens) (span : Span) (n : List ℕ) (list : List Attr) (slash : Bool) → t ≡ lent.StartTag name attrs span → ShowsToken t (g.Start n list slash) → name.now ≡ n
name_shown t name attrs span n list slash e s = (subst (λ (x : Token). ShowsToken x (g.Start n list slash)) e s).0

pub element_first : (nodes : List Node) (n at : ℕ) (f : Forest) (more : List ForestNode) (x : Node) (name : Bor (List ℕ)) (attrs : AttrTokens) (span : Span) (result : Fit) (around : model.Around) →
    Stands nodes n at f more → has_node f ≡ true → slice_get nodes n ≡ Some x → x.token ≡ lent.StartTag name attrs span → first_held f ≡ false → ElementAt nodes n at f more name.now result around → result ≡ first_fit around (parts_of f)
element_first nodes n at Nothing more x name attrs span result around s some is t h el = absurd cc
element_first nodes n at (Text text rest) more x name attrs span result around s some is t h el =
    let first = first_of nodes n at (Text text rest) more some s.shown in
    let same : first.node ≡ x = cc (first.is, is) in
    absurd (subst (λ (y : Token). ShowsToken y (g.Chars text)) (ap (λ (y : Node). y.token) same ∙ t) first.token)
element_first nodes n at (Remark text rest) more x name attrs span result around s some is t h el =
    let first = first_of nodes n at (Remark text rest) more some s.shown in
    let same : first.node ≡ x = cc (first.is, is) in
    absurd (subst (λ (y : Token). ShowsToken y (g.Comment text)) (ap (λ (y : Node). y.token) same ∙ t) first.token)
element_first nodes n at (Void tag list slash rest) more x name attrs span result around s some is t h el =
    let first = first_of nodes n at (Void tag list slash rest) more some s.shown in
    let same : first.node ≡ x = cc (first.is, is) in
    let named = name_shown x.token name attrs span tag list slash t (subst (λ (y : Node). ShowsToken y.token (g.Start tag list slash)) same first.token) in
    let next : x.next ≡ n + 1 + 0 = omega (arith, first.next, ap (λ (y : Node). y.next) same) in
    let shown = (first_shown nodes n _ _ s.shown).rest in
    el.children Nothing at _ x shown is next ∙ ap (λ k. element_fit around k Ended) named ∙ sym (rw h refl)
element_first nodes n at (RawElement tag list text rest) more x name attrs span result around s some is t h el =
    let first = first_of nodes n at (RawElement tag list text rest) more some s.shown in
    let same : first.node ≡ x = cc (first.is, is) in
    let named = name_shown x.token name attrs span tag list false t (subst (λ (y : Node). ShowsToken y.token (g.Start tag list false)) same first.token) in
    el.raw (ap is_raw named ∙ allowed_raw s.room tag list text rest s.allowed) ∙ ap (λ k. element_fit around k Ended) named ∙ sym (rw h refl)
element_first nodes n at (Element tag list children rest) more x name attrs span result around s some is t h el =
    let first = first_of nodes n at (Element tag list children rest) more some s.shown in
    let same : first.node ≡ x = cc (first.is, is) in
    let named = name_shown x.token name attrs span tag list false t (subst (λ (y : Node). ShowsToken y.token (g.Start tag list false)) same first.token) in
    let next : x.next ≡ n + 1 + forest_size children = omega (arith, first.next, ap (λ (y : Node). y.next) same) in
    let inner = stands_children nodes n at tag list children rest more s in
    el.children children _ _ x inner.shown is next ∙ ap (λ k. element_fit around k (parts_of children)) named ∙ sym (rw h refl)

-- a held element
pub group_first : (nodes : List Node) (n at : ℕ) (f : Forest) (more : List ForestNode) (result : Fit) (around : model.Around) → Stands nodes n at f more → first_held f ≡ true →
    ((kept : Forest) (later : Parts) → parts_of f ≡ Group kept later → result ≡ group_fit around kept) → result ≡ first_fit around (parts_of f)
group_first nodes n at f more result around s h gives =
    let b = held_begins f h in gives b.nodes b.later b.is ∙ sym (ap (first_fit around) b.is)

same_token : (nodes : List Node) (n at : ℕ) (f : Forest) (more : List ForestNode) (x : Node) (t : Token) → has_node f ≡ true → ShownFrom nodes n at f more → slice_get nodes n ≡ Some x → x.token ≡ t → ShowsToken t (first_token f)
same_token nodes n at f more x t some s is e =
    let first = first_of nodes n at f more some s in
    let same : first.node ≡ x = cc (first.is, is) in
    subst (λ (y : Token). ShowsToken y (first_token f)) (ap (λ (y : Node). y.token) same ∙ e) first.token

-- whether the first node is held, as the code asks its attributes
pub held_first : (nodes : List Node) (n at : ℕ) (f : Forest) (more : List ForestNode) (x : Node) (name : Bor (List ℕ)) (attrs : AttrTokens) (span : Span) (b : Bool) →
    Stands nodes n at f more → has_node f ≡ true → slice_get nodes n ≡ Some x → x.token ≡ lent.StartTag name attrs span → ((list : List Attr) (slash : Bool) → ShowsAttrs attrs list slash → b ≡ is_held list) → first_held f ≡ b
held_first nodes n at Nothing more x name attrs span b s some is t asks = absurd cc
held_first nodes n at (Text text rest) more x name attrs span b s some is t asks = absurd (same_token nodes n at (Text text rest) more x _ some s.shown is t)
held_first nodes n at (Remark text rest) more x name attrs span b s some is t asks = absurd (same_token nodes n at (Remark text rest) more x _ some s.shown is t)
held_first nodes n at (Void tag list slash rest) more x name attrs span b s some is t asks = sym (asks list slash (same_token nodes n at (Void tag list slash rest) more x (lent.StartTag name attrs span) some s.shown is t).1)
held_first nodes n at (RawElement tag list text rest) more x name attrs span b s some is t asks = sym (asks list false (same_token nodes n at (RawElement tag list text rest) more x (lent.StartTag name attrs span) some s.shown is t).1)
held_first nodes n at (Element tag list children rest) more x name attrs span b s some is t asks = sym (asks list false (same_token nodes n at (Element tag list children rest) more x (lent.StartTag name attrs span) some s.shown is t).1)

pub comment_first : (nodes : List Node) (n at : ℕ) (f : Forest) (more : List ForestNode) (x : Node) (text : Bor (List ℕ)) (span : Span) (around : model.Around) →
    Stands nodes n at f more → has_node f ≡ true → slice_get nodes n ≡ Some x → x.token ≡ lent.Comment text span → fit.Whole (model.note_kind around) ≡ first_fit around (parts_of f)
comment_first nodes n at Nothing more x text span around s some is t = absurd cc
comment_first nodes n at (Text y rest) more x text span around s some is t = absurd (same_token nodes n at (Text y rest) more x (lent.Comment text span) some s.shown is t)
comment_first nodes n at (Remark y rest) more x text span around s some is t = refl
comment_first nodes n at (Void tag list slash rest) more x text span around s some is t = absurd (same_token nodes n at (Void tag list slash rest) more x (lent.Comment text span) some s.shown is t)
comment_first nodes n at (RawElement tag list y rest) more x text span around s some is t = absurd (same_token nodes n at (RawElement tag list y rest) more x (lent.Comment text span) some s.shown is t)
comment_first nodes n at (Element tag list children rest) more x text span around s some is t = absurd (same_token nodes n at (Element tag list children rest) more x (lent.Comment text span) some s.shown is t)

-- no start tag and no comment: a text
abbrev pub Other : Token → Type 0
Other (lent.StartTag name attrs span) = ⊥
Other (lent.EndTag name span) = Unit {0}
Other (lent.Chars text span) = Unit {0}
Other (lent.Raw text span) = Unit {0}
Other (lent.Comment text span) = ⊥

no_start : (t : Token) (name : List ℕ) (list : List Attr) (slash : Bool) → Other t → ShowsToken t (g.Start name list slash) → ⊥
no_start (lent.StartTag n attrs span) name list slash o s = o
no_start (lent.EndTag n span) name list slash o s = s
no_start (lent.Chars text span) name list slash o s = s
no_start (lent.Raw text span) name list slash o s = s
no_start (lent.Comment text span) name list slash o s = o

no_comment : (t : Token) (text : List ℕ) → Other t → ShowsToken t (g.Comment text) → ⊥
no_comment (lent.StartTag n attrs span) text o s = o
no_comment (lent.EndTag n span) text o s = s
no_comment (lent.Chars x span) text o s = s
no_comment (lent.Raw x span) text o s = s
no_comment (lent.Comment x span) text o s = o

pub words_first : (nodes : List Node) (n at : ℕ) (f : Forest) (more : List ForestNode) (x : Node) (around : model.Around) → Stands nodes n at f more → has_node f ≡ true → slice_get nodes n ≡ Some x → Other x.token → words_fit around ≡ first_fit around (parts_of f)
words_first nodes n at Nothing more x around s some is o = absurd cc
words_first nodes n at (Text y rest) more x around s some is o = refl
words_first nodes n at (Remark y rest) more x around s some is o = absurd (no_comment x.token y o (same_token nodes n at (Remark y rest) more x x.token some s.shown is refl))
words_first nodes n at (Void tag list slash rest) more x around s some is o = absurd (no_start x.token tag list slash o (same_token nodes n at (Void tag list slash rest) more x x.token some s.shown is refl))
words_first nodes n at (RawElement tag list y rest) more x around s some is o = absurd (no_start x.token tag list false o (same_token nodes n at (RawElement tag list y rest) more x x.token some s.shown is refl))
words_first nodes n at (Element tag list children rest) more x around s some is o = absurd (no_start x.token tag list false o (same_token nodes n at (Element tag list children rest) more x x.token some s.shown is refl))

pub other_is : (t : Token) → ((name : Bor (List ℕ)) (attrs : AttrTokens) (span : Span) → t ≡ lent.StartTag name attrs span → ⊥) → ((text : Bor (List ℕ)) (span : Span) → t ≡ lent.Comment text span → ⊥) → Other t
other_is (lent.StartTag name attrs span) start comment = start name attrs span refl
other_is (lent.EndTag name span) start comment = tt
other_is (lent.Chars text span) start comment = tt
other_is (lent.Raw text span) start comment = tt
other_is (lent.Comment text span) start comment = comment text span refl
