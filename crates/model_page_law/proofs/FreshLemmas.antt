-- Where no node is kept, the page is written fresh.
use Rattle.std.proofs.Common.{◌≡◌, ℕ, Bool, true, false, not, ◌&&◌, if◌then◌else◌, List, [], ◌++◌, take, drop, Option, None, refl, ap, ◌∙◌, sym}
use Rattle.std.specs.Prelude.{encode_utf8_all, unwrap_or}
use Rattle.ve_kinds.specs.declared.kind.Kind.{Kind}
use Rattle.ve_kinds.specs.declared.kind.Kind.TheVariants.{Root, P, H1, H2, H3, H4, H5, H6, Pre, Section, Li, Dt, Dd, Blockquote, Div, Td, Th, Caption, InternalItem, Ul, Ol, Dl, Table, Thead, Tbody, Tfoot, Tr, InternalList, TransBlock, AlienBlock, Br, Img, Ref, TransInline, AlienInline}
use Rattle.ve_base.specs.declared.marks.Mark.{Mark}
use Rattle.ve_kinds.specs.Table.{kind_same}
use Rattle.ve_kinds.specs.Table.{is_content_branch, is_leaf}
use Rattle.model_page_write.specs.Nodes.{Carried, Start, Nodes, Empty, Letter, Node, node_items, carried_nodes, carried_items}
use Rattle.model_page_write.specs.Written.{letter, marks_changed, white_after, is_bare, Writer, leaf_text, fresh_text, element_text, original_of, content, blocks}
use Rattle.model_page_write.specs.PageText.{html_of, page_writer}
use Rattle.model_page_law.specs.WritesFresh.{KeepsNoneOf, WritesFresh}

abbrev Original : Type 0
Original = Start → List Carried → Option (List ℕ)

abbrev writer_of : Original → Writer
writer_of o = record { original = o; html = html_of }

leaf_either : (o p : Original) (s : Start) (k : Kind) → leaf_text (writer_of o) s k ≡ leaf_text (writer_of p) s k
leaf_either o p s Root = refl
leaf_either o p s P = refl
leaf_either o p s H1 = refl
leaf_either o p s H2 = refl
leaf_either o p s H3 = refl
leaf_either o p s H4 = refl
leaf_either o p s H5 = refl
leaf_either o p s H6 = refl
leaf_either o p s Pre = refl
leaf_either o p s Section = refl
leaf_either o p s Li = refl
leaf_either o p s Dt = refl
leaf_either o p s Dd = refl
leaf_either o p s Blockquote = refl
leaf_either o p s Div = refl
leaf_either o p s Td = refl
leaf_either o p s Th = refl
leaf_either o p s Caption = refl
leaf_either o p s InternalItem = refl
leaf_either o p s Ul = refl
leaf_either o p s Ol = refl
leaf_either o p s Dl = refl
leaf_either o p s Table = refl
leaf_either o p s Thead = refl
leaf_either o p s Tbody = refl
leaf_either o p s Tfoot = refl
leaf_either o p s Tr = refl
leaf_either o p s InternalList = refl
leaf_either o p s TransBlock = refl
leaf_either o p s AlienBlock = refl
leaf_either o p s Br = refl
leaf_either o p s Img = refl
leaf_either o p s Ref = refl
leaf_either o p s TransInline = refl
leaf_either o p s AlienInline = refl

fresh_either : (o p : Original) (bare : Bool) (s : Start) (text pre : List ℕ) → fresh_text (writer_of o) bare s text pre ≡ fresh_text (writer_of p) bare s text pre
fresh_either o p bare s text pre =
    ap (λ leaf. if kind_same s.kind InternalList then [] else if is_leaf s.kind then leaf else if bare then text else element_text s text pre) (leaf_either o p s s.kind)

-- the writer that keeps nothing
abbrev nothing : Original
nothing s items = None

none_either : (c : Bool) (o : Option (List ℕ)) → o ≡ None → (if c then None else o) ≡ None
none_either true o e = refl
none_either false o e = e

content-fresh : (o : Original) (opened : List Mark) (n : Nodes) → KeepsNoneOf (writer_of o) n → content (writer_of o) opened n ≡ content (writer_of nothing) opened n
content-fresh o opened Empty k = refl
content-fresh o opened (Letter c marks later) k = ap (λ t. marks_changed opened marks ++ letter c ++ t) (content-fresh o marks later k)
content-fresh o opened (Node s inside pre later) k =
    (λ i. marks_changed opened s.marks ++ unwrap_or (k.0 i) (leaf_either o nothing s s.kind i) ++ content-fresh o s.marks later k.2 i)

blocks-fresh : (o : Original) (before : Bool) (closing : List ℕ) (n : Nodes) → KeepsNoneOf (writer_of o) n → blocks (writer_of o) before closing n ≡ blocks (writer_of nothing) before closing n
blocks-fresh o before closing Empty k = refl
blocks-fresh o before closing (Letter c marks later) k = ap (λ t. letter c ++ t) (blocks-fresh o false closing later k)
blocks-fresh o before closing (Node s inside pre later) k =
    let bare : Bool = is_bare before s inside (white_after later closing) in
    let own : original_of (writer_of o) bare s (node_items s inside pre) ≡ original_of (writer_of nothing) bare s (node_items s inside pre) =
    none_either (s.generated && not bare) (o s (node_items s inside pre)) k.0 ∙ sym (none_either (s.generated && not bare) None refl) in
    let text : (if is_content_branch s.kind then content (writer_of o) [] inside else blocks (writer_of o) false pre inside) ≡ (if is_content_branch s.kind then content (writer_of nothing) [] inside else blocks (writer_of nothing) false pre inside) =
    (λ i. if is_content_branch s.kind then content-fresh o [] inside k.1 i else blocks-fresh o false pre inside k.1 i) in
    (λ i. encode_utf8_all s.pre ++ unwrap_or (own i) ((ap (λ t. fresh_text (writer_of o) bare s t pre) text ∙ fresh_either o nothing bare s (if is_content_branch s.kind then content (writer_of nothing) [] inside else blocks (writer_of nothing) false pre inside) pre) i) ++ blocks-fresh o bare closing later k.2 i)

pub writes_fresh : WritesFresh
writes_fresh o items k =
    let w : Writer = page_writer o in
    ap (λ t. take o.body.from o.page ++ t ++ drop o.body.to o.page) (blocks-fresh w.original false [] (carried_nodes (carried_items items)) k)
