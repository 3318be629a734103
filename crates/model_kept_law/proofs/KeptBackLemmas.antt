-- The law: a page that is written with nodes kept in it is read back.
use Rattle.std.proofs.Common.{◌≡◌, ℕ, ◌+◌, Bool, true, false, not, ◌&&◌, if◌then◌else◌, suc, List, [], ◌∷◌, ◌++◌, length, take, drop, map, Option, Some, None, Result, Ok, Err, arith, refl, sym, ap, ◌∙◌, subst, append_assoc, inl, inr}
use Rattle.std.proofs.lemmas.List.{append-nil, map-append}
use Rattle.std.specs.Prelude.{encode_utf8_all, unwrap_or}
use Rattle.model_spelling.specs.declared.scan_fault.ScanFault.{ScanFault}
use Rattle.model_spelling.specs.Forest.{Forest, spelling}
use Rattle.model_spelling.specs.Page.{is_whole, body_at}
use Rattle.model_spelling.specs.Parsed.{forest_of}
use Rattle.model_spelling.proofs.Proved.{law_reads_right, law_body_inside}
use Rattle.model_spelling.specs.Grammar.{is_tag_name}
use Rattle.ve_kinds.specs.declared.kind.Kind.TheVariants.{Root, InternalList}
use Rattle.ve_kinds.specs.Table.{kind_same, is_content_branch, is_leaf}
use Rattle.ve_base.specs.Empty.{empty_head}
use Rattle.model_items.specs.declared.plain_item.PlainItem.{PlainItem}
use Rattle.model_items.specs.declared.plain_item.PlainItem.TheVariants.{Char, Opening, Closing}
use Rattle.model_page.specs.Tags.{tag_of}
use Rattle.model_page.specs.Parts.{parts_of}
use Rattle.model_page.specs.Fit.{Flow}
use Rattle.model_page.specs.Fragment.{item_unmade}
use Rattle.model_page.specs.References.{Body}
use Rattle.model_page.specs.Pieces.{SourceSpan, Made, Progress}
use Rattle.model_page.specs.Convert.{made_of}
use Rattle.model_page.specs.PageItems.{with_origins, internal_list, items_of_page as items_read, page_made, slice, Opened, page_opened, opened_forest, opened_body, opened_page}
use Rattle.model_page_write.specs.Nodes.{Carried, Start, Nodes, Empty, Letter, Node, node_list_items, carried_nodes, carried_items, carried_from, body_carried, node_items}
use Rattle.model_page_write.specs.Written.{letter, white_after, is_bare, Writer, fresh_text, original_of, content, blocks}
use Rattle.model_page_write.specs.PageText.{page_writer, write}
use Rattle.model_page_law.specs.ReadBack.{without_origin}
use Rattle.model_page_law.proofs.FormedNodes.{IsList, with_list}
use Rattle.model_page_law.proofs.FormLemmas.{such_list}
use Rattle.model_page_law.proofs.NodesLemmas.{nodes_of-items_of}
use Rattle.model_page_law.proofs.BlockText.{pick_true}
use Rattle.model_page_law.proofs.BlockReads.{Closes}
use Rattle.model_page_law.proofs.BlankLemmas.{run_ended-owners}
use Rattle.model_page_law.proofs.OneLemmas.{one_forest}
use Rattle.model_page_law.proofs.SameLemmas.{marks_mean}
use Rattle.model_page_law.proofs.NodesRead.{said_items}
use Rattle.model_page_law.proofs.NeatForests.{Neat}
use Rattle.model_page_law.proofs.FreshOpens.{not_whole}
use Rattle.model_kept_law.proofs.BodyPlaces.{replaced-by, slice-new}
use Rattle.model_kept_law.specs.KeptBack.{KeptIsReadBack, ReadableIsReadBack}
use Rattle.model_kept_law.specs.Readable.{has_references}
use Rattle.model_kept_law.proofs.FitFacts.{Small}
use Rattle.model_kept_law.proofs.ApartParts.{apart_owners}
use Rattle.model_kept_law.proofs.WholeParts.{NoWhole}
use Rattle.model_kept_law.proofs.SourceRows.{Own}
use Rattle.model_kept_law.proofs.OriginalNodes.{kept_source}
use Rattle.model_kept_law.proofs.WrittenBlocks.{Written}
use Rattle.model_kept_law.proofs.KeptBlocks.{Known, written}
use Rattle.model_kept_law.proofs.StandingBlocks.{standing_list, standing_written}

-- ---- the internal list is written as the whitespace before it

opposite : (b : Bool) → b ≡ true → b ≡ false → ⊥
opposite b e f = cc

-- it is never kept
no_list : (s : Start) (items : List PlainItem) (part : List ℕ) → s.kind ≡ InternalList → Own s.kind s.head s.generated items [] part → ⊥
no_list s items part k (inl l) = let f : false ≡ true = subst Small k l.small in cc
no_list s items part k (inr (inl b)) = let f : false ≡ true = ap (λ x. is_tag_name (tag_of x)) (sym k) ∙ b.1.tag.name_is in cc
no_list s items part k (inr (inr r)) = let f : true ≡ false = ap is_content_branch (sym r.1) ∙ ap is_content_branch k in cc

NoWhole-nothing : (items : List PlainItem) → map item_unmade items ≡ [] → NoWhole items
NoWhole-nothing [] e = tt
NoWhole-nothing (x ∷ xs) e = cc

list_text : (refers : Bool) (w : Writer) → Known refers w → (bare : Bool) (list : Start) → list.kind ≡ InternalList → (text : List ℕ) (o : Option (List ℕ)) → original_of w bare list (node_items list Empty []) ≡ o →
    unwrap_or o (fresh_text w bare list text []) ≡ []
list_text refers w known bare list k text None e = pick_true (kind_same list.kind InternalList) _ _ (ap (λ x. kind_same x InternalList) k)
list_text refers w known bare list k text (Some part) e =
    let kept = known list Empty [] part (taken (list.generated) bare (w.original list (node_items list Empty [])) e) in
    absurd (no_list list kept.items part k (kept.own (λ l. absurd (opposite (is_leaf list.kind) l (ap is_leaf k))) (NoWhole-nothing kept.items kept.said)))
  where
    taken : (generated bare : Bool) (o : Option (List ℕ)) → (if generated && not bare then None else o) ≡ Some part → o ≡ Some part
    taken true true o e = e
    taken true false o e = cc
    taken false bare o e = e

white_after-list : (n : Nodes) (list : Start) → white_after (with_list n list) [] ≡ white_after n list.pre
white_after-list Empty list = refl
white_after-list (Letter c marks later) list = refl
white_after-list (Node s inside pre later) list = refl

list_written : (refers : Bool) (w : Writer) → Known refers w → (before : Bool) (list : Start) → list.kind ≡ InternalList → blocks w before [] (Node list Empty [] Empty) ≡ encode_utf8_all list.pre
list_written refers w known before list k =
    let bare : Bool = is_bare before list Empty [] in
    let text : List ℕ = if is_content_branch list.kind then content w [] Empty else blocks w false [] Empty in
    ap (λ t. encode_utf8_all list.pre ++ t ++ []) (list_text refers w known bare list k text (original_of w bare list (node_items list Empty [])) refl)
    ∙ append-nil (encode_utf8_all list.pre ++ [])
    ∙ append-nil (encode_utf8_all list.pre)

blocks-with_list : (refers : Bool) (w : Writer) → Known refers w → (n : Nodes) (before : Bool) (list : Start) → list.kind ≡ InternalList →
    blocks w before [] (with_list n list) ≡ blocks w before list.pre n ++ encode_utf8_all list.pre
blocks-with_list refers w known Empty before list e = list_written refers w known before list e
blocks-with_list refers w known (Letter c marks later) before list e =
    ap (λ t. letter c ++ t) (blocks-with_list refers w known later false list e) ∙ sym (append_assoc (letter c) (blocks w false list.pre later) (encode_utf8_all list.pre))
blocks-with_list refers w known (Node s inside pre later) before list e =
    let bare : Bool = is_bare before s inside (white_after later list.pre) in
    let text : List ℕ = if is_content_branch s.kind then content w [] inside else blocks w false pre inside in
    let own : List ℕ = unwrap_or (original_of w bare s (node_items s inside pre)) (fresh_text w bare s text pre) in
    ap (λ a. node_text w before s inside pre a (λ x. blocks w x [] (with_list later list))) (white_after-list later list)
    ∙ ap (λ t. encode_utf8_all s.pre ++ own ++ t) (blocks-with_list refers w known later bare list e)
    ∙ sym (append_assoc (encode_utf8_all s.pre ++ own) (blocks w bare list.pre later) (encode_utf8_all list.pre))
  where
    node_text : Writer → Bool → Start → Nodes → List ℕ → List ℕ → (Bool → List ℕ) → List ℕ
    node_text w before s inside pre after later =
        let bare = is_bare before s inside after in
        let text = if is_content_branch s.kind then content w [] inside else blocks w false pre inside in
        encode_utf8_all s.pre ++ unwrap_or (original_of w bare s (node_items s inside pre)) (fresh_text w bare s text pre) ++ later bare

-- ---- up to origins and the flag

settled-with_origins : (items : List PlainItem) (k : ℕ) → map without_origin (with_origins k items) ≡ map without_origin items
settled-with_origins [] k = refl
settled-with_origins (Opening kind head marks pre origin generated ∷ items) k = ap (λ xs. Opening kind head marks pre None false ∷ xs) (settled-with_origins items (suc k))
settled-with_origins (Closing kind pre ∷ items) k = ap (λ xs. Closing kind pre ∷ xs) (settled-with_origins items k)
settled-with_origins (Char c marks ∷ items) k = ap (λ xs. Char c marks ∷ xs) (settled-with_origins items k)

settled-unmade : (items : List PlainItem) → map without_origin items ≡ map without_origin (map item_unmade items)
settled-unmade [] = refl
settled-unmade (Opening kind head marks pre origin generated ∷ items) = ap (λ xs. Opening kind head marks pre None false ∷ xs) (settled-unmade items)
settled-unmade (Closing kind pre ∷ items) = ap (λ xs. Closing kind pre ∷ xs) (settled-unmade items)
settled-unmade (Char c marks ∷ items) = ap (λ xs. Char c marks ∷ xs) (settled-unmade items)

settled-said : (n : Nodes) → map without_origin (said_items n) ≡ said_items n
settled-said Empty = refl
settled-said (Letter c marks later) = ap (λ xs. Char c marks ∷ xs) (settled-said later)
settled-said (Node s inside pre later) =
    ap (λ xs. Opening s.kind s.head s.marks s.pre None false ∷ xs)
    (map-append without_origin (said_items inside) (Closing s.kind pre ∷ said_items later) ∙ (λ i. settled-said inside i ++ Closing s.kind pre ∷ settled-said later i))

abbrev plain : List Carried → List PlainItem
plain items = map (λ c. c.item) items

settled-items_of : (n : Nodes) → map without_origin (plain (node_list_items n)) ≡ said_items n
settled-items_of Empty = refl
settled-items_of (Letter c marks later) = ap (λ xs. Char c marks ∷ xs) (settled-items_of later)
settled-items_of (Node s inside pre later) =
    ap (λ xs. Opening s.kind s.head s.marks s.pre None false ∷ map without_origin xs) (map-append (λ c. c.item) (node_list_items inside) (record { item = Closing s.kind pre; body = None } ∷ node_list_items later))
    ∙ ap (λ xs. Opening s.kind s.head s.marks s.pre None false ∷ xs)
    (map-append without_origin (plain (node_list_items inside)) (Closing s.kind pre ∷ plain (node_list_items later)) ∙ (λ i. settled-items_of inside i ++ Closing s.kind pre ∷ settled-items_of later i))

plain-carried : (bodies : ℕ → Option Body) (at : ℕ) (items : List PlainItem) → plain (carried_from bodies at items) ≡ items
plain-carried bodies at [] = refl
plain-carried bodies at (Opening kind head marks pre origin generated ∷ items) = ap (λ xs. Opening kind head marks pre origin generated ∷ xs) (plain-carried bodies (suc at) items)
plain-carried bodies at (Closing kind pre ∷ items) = ap (λ xs. Closing kind pre ∷ xs) (plain-carried bodies (suc at) items)
plain-carried bodies at (Char c marks ∷ items) = ap (λ xs. Char c marks ∷ xs) (plain-carried bodies (suc at) items)

said-with_list : (n : Nodes) (list : Start) → IsList list → said_items (with_list n list) ≡ said_items n ++ Opening InternalList empty_head [] list.pre None false ∷ Closing InternalList [] ∷ []
said-with_list Empty list l = (λ i. Opening (l.kind i) (l.head i) (l.marks i) list.pre None false ∷ Closing (l.kind i) [] ∷ [])
said-with_list (Letter c marks later) list l = ap (λ xs. Char c marks ∷ xs) (said-with_list later list l)
said-with_list (Node s inside pre later) list l =
    ap (λ xs. Opening s.kind s.head s.marks s.pre None false ∷ said_items inside ++ Closing s.kind pre ∷ xs) (said-with_list later list l)
    ∙ ap (λ xs. Opening s.kind s.head s.marks s.pre None false ∷ xs) (sym (append_assoc (said_items inside) (Closing s.kind pre ∷ said_items later) (Opening InternalList empty_head [] list.pre None false ∷ Closing InternalList [] ∷ [])))

page_settled : (at : ℕ) (f : Forest) (xs : List PlainItem) (pre : List ℕ) → Closes (Flow Root) f xs pre → map without_origin xs ≡ xs → (page_made at f).owners ≡ [] →
    map without_origin (items_read (page_made at f)) ≡ xs ++ Opening InternalList empty_head [] pre None false ∷ Closing InternalList [] ∷ []
page_settled at f xs pre c same none =
    let w : Progress = record { at = at; owners = []; editable = true } in
    let m : Made = page_made at f in
    map-append without_origin (with_origins 0 m.later.items) (internal_list m.pre m.owners)
    ∙ (λ i. settled-with_origins m.later.items 0 i ++ map without_origin (internal_list (c.white w i) (none i)))
    ∙ ap (λ ys. ys ++ Opening InternalList empty_head [] pre None false ∷ Closing InternalList [] ∷ []) (settled-unmade m.later.items ∙ ap (map without_origin) (c.later w) ∙ same)

-- ---- the law

-- a list of nodes, and then the empty internal list, and the forest of what a writer writes of it
record WrittenList (w : Writer) (items : List PlainItem) : Type 0 where
  nodes : Nodes
  list : Start
  are : carried_items items ≡ node_list_items (with_list nodes list)
  last : IsList list
  body : Written w Root false list.pre nodes

list_spelled : (refers : Bool) (w : Writer) → Known refers w → (items : List PlainItem) (such : WrittenList w items) → blocks w false [] (carried_nodes (carried_items items)) ≡ spelling such.body.forest
list_spelled refers w known items such =
    ap (λ x. blocks w false [] (carried_nodes x)) such.are
    ∙ ap (blocks w false []) (nodes_of-items_of (with_list such.nodes such.list))
    ∙ blocks-with_list refers w known such.nodes false such.list such.last.kind
    ∙ sym such.body.spells

list_read : (w : Writer) (items : List PlainItem) (such : WrittenList w items) (at : ℕ) → map without_origin (items_read (page_made at such.body.forest)) ≡ map without_origin items
list_read w items such at =
    let n : Nodes = such.nodes in
    let list : Start = such.list in
    let r = such.body in
    let u : Progress = record { at = at; owners = []; editable = true } in
    let m : Made = made_of (Flow Root) (parts_of r.forest) u in
    let owners : (page_made at r.forest).owners ≡ [] = run_ended-owners m.source u m ∙ apart_owners (parts_of r.forest) r.apart (Flow Root) u in
    let meant : map without_origin items ≡ said_items (with_list n list) =
    ap (map without_origin) (sym (plain-carried (body_carried items) 0 items)) ∙ ap (λ x. map without_origin (plain x)) such.are ∙ settled-items_of (with_list n list) in
    page_settled at r.forest (said_items n) list.pre (r.reads.closes refl) (settled-said n) owners ∙ sym (said-with_list n list such.last) ∙ sym meant

page_known : (page : List ℕ) (o : Opened) → opened_page page ≡ Some o → Known (has_references o) (page_writer o)
page_known page o h s inside pre part e = kept_source page o h s inside pre part e

-- what a page opens as that has this text as its body
opened_text : (page text : List ℕ) (from : ℕ) (g : Forest) (again : Opened) → body_at page ≡ Ok (from, from + length text) → slice page from (from + length text) ≡ text → spelling g ≡ text → Neat g →
    opened_page page ≡ Some again → again.items ≡ items_read (page_made from g)
opened_text page text from g again at is spells neat h =
    let body : SourceSpan = record { from = from; to = from + length text } in
    let opens : opened_forest page body (forest_of text) ≡ Some again = ap (λ t. opened_forest page body (forest_of t)) (sym is) ∙ sym (ap (opened_body page) at) ∙ h in
    by (forest_of text) refl opens
  where
    by : (read : Option Forest) → forest_of text ≡ read → opened_forest page (record { from = from; to = from + length text }) read ≡ Some again → again.items ≡ items_read (page_made from g)
    by None e x = cc
    by (Some f) e x =
        let r = law_reads_right text f e in
        let first : Opened = page_opened page (record { from = from; to = from + length text }) (page_made from f) in
        let same : first ≡ again = let p : ◌≡◌ {A = Option Opened} (Some first) (Some again) = x in ap (λ y. unwrap_or y first) p in
        let forest : f ≡ g = one_forest f g r.1 neat (r.0 ∙ sym spells) in
        ap (λ y. y.items) (sym same) ∙ ap (λ y. items_read (page_made from y)) forest

-- where the body of an opened page stands
record OpenedAt (page : List ℕ) (o : Opened) : Type 0 where
  at : body_at page ≡ Ok (o.body.from, o.body.to)
  page_is : o.page ≡ page

opened_forest_at : (page : List ℕ) (body : ℕ × ℕ) → body_at page ≡ Ok body → (read : Option Forest) (o : Opened) → opened_forest page (record { from = body.0; to = body.1 }) read ≡ Some o → OpenedAt page o
opened_forest_at page body e None o h = cc
opened_forest_at page body e (Some f) o h =
    let first : Opened = page_opened page (record { from = body.0; to = body.1 }) (page_made body.0 f) in
    let is : first ≡ o = let p : ◌≡◌ {A = Option Opened} (Some first) (Some o) = h in ap (λ y. unwrap_or y first) p in
    subst (OpenedAt page) is (record { at = e; page_is = refl })

opened_at : (page : List ℕ) (read : Result (ℕ × ℕ) ScanFault) → body_at page ≡ read → (o : Opened) → opened_body page read ≡ Some o → OpenedAt page o
opened_at page (Err x) e o h = cc
opened_at page (Ok body) e o h = opened_forest_at page body e (forest_of (slice page body.0 body.1)) o h

page_read : (page : List ℕ) (o again : Opened) (items : List PlainItem) → opened_page page ≡ Some o → WrittenList (page_writer o) items → opened_page (write o items) ≡ Some again →
    map without_origin again.items ≡ map without_origin items
page_read page o again items h such opens =
    let w : Writer = page_writer o in
    let text : List ℕ = blocks w false [] (carried_nodes (carried_items items)) in
    let g : Forest = such.body.forest in
    let spells : spelling g ≡ text = sym (list_spelled (has_references o) w (page_known page o h) items such) in
    let p : OpenedAt page o = opened_at page (body_at page) refl o h in
    let inside = law_body_inside page o.body.from o.body.to p.at in
    let new : List ℕ = take o.body.from page ++ text ++ drop o.body.to page in
    let whole : is_whole text ≡ false = ap is_whole (sym spells) ∙ not_whole g such.body.neat in
    let at : body_at new ≡ Ok (o.body.from, o.body.from + length text) = replaced-by page o.body.from o.body.to text (is_whole page) refl p.at whole in
    let part : slice new o.body.from (o.body.from + length text) ≡ text = slice-new page text o.body.from o.body.to (omega (arith, inside.0, inside.1)) in
    let again_is : opened_page new ≡ Some again = ap (λ x. opened_page (take o.body.from x ++ text ++ drop o.body.to x)) (sym p.page_is) ∙ opens in
    ap (map without_origin) (opened_text new text o.body.from g again at part spells such.body.neat again_is) ∙ list_read w items such o.body.from

-- nothing is kept whole
pub kept_is_read_back : KeptIsReadBack
kept_is_read_back page o again items h lawful formed opens =
    let w : Writer = page_writer o in
    let such = such_list items lawful formed in
    page_read page o again items h (record {
      nodes = such.nodes;
      list = such.list;
      are = such.are;
      last = such.last;
      body = written marks_mean (has_references o) w (page_known page o h) such.nodes Root false such.list.pre such.blocks such.last.before;
    }) opens

-- leaves are
pub readable_is_read_back : ReadableIsReadBack
readable_is_read_back page o again items h calm lawful readable opens =
    let w : Writer = page_writer o in
    let known = page_known page o h in
    let such = standing_list (has_references o) w known calm items lawful readable in
    page_read page o again items h (record {
      nodes = such.nodes;
      list = such.list;
      are = such.are;
      last = such.last;
      body = standing_written marks_mean (has_references o) w known calm such.nodes Root false such.list.pre refl such.blocks such.last.before;
    }) opens
