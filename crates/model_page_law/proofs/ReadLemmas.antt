-- The law: a page that was written fresh is read as the list that it was written from.
use Rattle.std.proofs.Common.{◌≡◌, ℕ, Bool, true, false, if◌then◌else◌, suc, List, [], ◌∷◌, ◌++◌, map, Option, None, refl, sym, ap, ◌∙◌, append_assoc}
use Rattle.std.proofs.lemmas.List.{append-nil, map-append}
use Rattle.std.specs.Prelude.{encode_utf8_all, unwrap_or}
use Rattle.model_spelling.specs.Forest.{Forest, spelling}
use Rattle.ve_kinds.specs.declared.kind.Kind.{Kind}
use Rattle.ve_kinds.specs.declared.kind.Kind.TheVariants.{Root, InternalList}
use Rattle.ve_kinds.specs.Table.{kind_same}
use Rattle.model_items.specs.declared.plain_item.PlainItem.{PlainItem}
use Rattle.model_items.specs.declared.plain_item.PlainItem.TheVariants.{Char, Opening, Closing}
use Rattle.ve_kinds.specs.Table.{is_content_branch}
use Rattle.model_page.specs.Parts.{parts_of}
use Rattle.model_page.specs.Fit.{Flow}
use Rattle.model_page.specs.Fragment.{item_unmade}
use Rattle.ve_base.specs.Empty.{empty_head}
use Rattle.model_page.specs.Pieces.{Made, Progress}
use Rattle.model_page.specs.Convert.{made_of}
use Rattle.model_page.specs.PageItems.{with_origins, internal_list, items_of_page as items_read, page_made}
use Rattle.model_page.specs.References.{Body}
use Rattle.model_page_write.specs.Nodes.{Carried, Start, Nodes, Empty, Letter, Node, node_list_items, carried_nodes, carried_from, body_carried, node_items}
use Rattle.model_page_write.specs.Written.{white_after, is_bare, Writer, fresh_text, original_of, content, blocks}
use Rattle.model_page_write.specs.PageText.{fresh_writer, fresh}
use Rattle.model_page_law.proofs.FormedNodes.{IsReadBack, IsSuch, IsList, AreBlocks, with_list}
use Rattle.model_page_law.specs.ReadBack.{without_origin}
use Rattle.model_page_law.proofs.NodesLemmas.{nodes_of-items_of}
use Rattle.model_page_law.proofs.ContentText.{KeepsNone}
use Rattle.model_page_law.proofs.BlockText.{blocks_forest, blocks-spelling, original-none, pick_true}
use Rattle.model_page_law.proofs.BlockReads.{Closes}
use Rattle.model_page_law.proofs.NeatForests.{Neat}
use Rattle.model_page_law.proofs.CleanLemmas.{Clean-Neat}
use Rattle.model_page_law.proofs.BlankLemmas.{Clean-owners, run_ended-owners}
use Rattle.model_page_law.proofs.BlockClean.{text_blocks, blocks-Clean}
use Rattle.model_page_law.proofs.OneLemmas.{one_forest}
use Rattle.model_page_law.proofs.SameLemmas.{marks_mean}
use Rattle.model_page_law.proofs.NodesRead.{said_items, blocks_read}

-- ---- the internal list is written as the whitespace before it

white_after-list : (n : Nodes) (list : Start) → white_after (with_list n list) [] ≡ white_after n list.pre
white_after-list Empty list = refl
white_after-list (Letter c marks later) list = refl
white_after-list (Node s inside pre later) list = refl

list_written : (w : Writer) → KeepsNone w → (before : Bool) (list : Start) → list.kind ≡ InternalList → blocks w before [] (Node list Empty [] Empty) ≡ encode_utf8_all list.pre
list_written w none before list k =
    let bare : Bool = is_bare before list Empty [] in
    let text : List ℕ = if is_content_branch list.kind then content w [] Empty else blocks w false [] Empty in
    let fresh_is : fresh_text w bare list text [] ≡ [] = pick_true (kind_same list.kind InternalList) _ _ (ap (λ x. kind_same x InternalList) k) in
    ap (λ o. encode_utf8_all list.pre ++ unwrap_or o (fresh_text w bare list text []) ++ []) (original-none w none bare list (node_items list Empty []))
    ∙ ap (λ t. encode_utf8_all list.pre ++ t ++ []) fresh_is
    ∙ append-nil (encode_utf8_all list.pre ++ [])
    ∙ append-nil (encode_utf8_all list.pre)

blocks-with_list : (w : Writer) → KeepsNone w → (n : Nodes) (before : Bool) (k : Kind) (list : Start) → list.kind ≡ InternalList → AreBlocks k n →
    blocks w before [] (with_list n list) ≡ blocks w before list.pre n ++ encode_utf8_all list.pre
blocks-with_list w none Empty before k list e b = list_written w none before list e
blocks-with_list w none (Letter c marks later) before k list e b = absurd b
blocks-with_list w none (Node s inside pre later) before k list e b =
    let bare : Bool = is_bare before s inside (white_after later list.pre) in
    let text : List ℕ = if is_content_branch s.kind then content w [] inside else blocks w false pre inside in
    let own : List ℕ = unwrap_or (original_of w bare s (node_items s inside pre)) (fresh_text w bare s text pre) in
    ap (λ a. node_text w before s inside pre a (λ x. blocks w x [] (with_list later list))) (white_after-list later list)
    ∙ ap (λ t. encode_utf8_all s.pre ++ own ++ t) (blocks-with_list w none later bare k list e b.3)
    ∙ sym (append_assoc (encode_utf8_all s.pre ++ own) (blocks w bare list.pre later) (encode_utf8_all list.pre))
  where
    node_text : Writer → Bool → Start → Nodes → List ℕ → List ℕ → (Bool → List ℕ) → List ℕ
    node_text w before s inside pre after later =
        let bare = is_bare before s inside after in
        let text = if is_content_branch s.kind then content w [] inside else blocks w false pre inside in
        encode_utf8_all s.pre ++ unwrap_or (original_of w bare s (node_items s inside pre)) (fresh_text w bare s text pre) ++ later bare

-- ---- up to origins and the flag

settled-with_origins : (items : List PlainItem) (k : ℕ) → map without_origin (with_origins k items) ≡ map without_origin items
settled-with_origins [] k = refl
settled-with_origins (Opening kind head marks pre origin generated ∷ items) k = ap (λ xs. Opening kind head marks pre None false ∷ xs) (settled-with_origins items (suc k))
settled-with_origins (Closing kind pre ∷ items) k = ap (λ xs. Closing kind pre ∷ xs) (settled-with_origins items k)
settled-with_origins (Char c marks ∷ items) k = ap (λ xs. Char c marks ∷ xs) (settled-with_origins items k)

settled-unmade : (items : List PlainItem) → map without_origin items ≡ map without_origin (map item_unmade items)
settled-unmade [] = refl
settled-unmade (Opening kind head marks pre origin generated ∷ items) = ap (λ xs. Opening kind head marks pre None false ∷ xs) (settled-unmade items)
settled-unmade (Closing kind pre ∷ items) = ap (λ xs. Closing kind pre ∷ xs) (settled-unmade items)
settled-unmade (Char c marks ∷ items) = ap (λ xs. Char c marks ∷ xs) (settled-unmade items)

settled-said : (n : Nodes) → map without_origin (said_items n) ≡ said_items n
settled-said Empty = refl
settled-said (Letter c marks later) = ap (λ xs. Char c marks ∷ xs) (settled-said later)
settled-said (Node s inside pre later) =
    ap (λ xs. Opening s.kind s.head s.marks s.pre None false ∷ xs)
    (map-append without_origin (said_items inside) (Closing s.kind pre ∷ said_items later) ∙ (λ i. settled-said inside i ++ Closing s.kind pre ∷ settled-said later i))

abbrev plain : List Carried → List PlainItem
plain items = map (λ c. c.item) items

settled-items_of : (n : Nodes) → map without_origin (plain (node_list_items n)) ≡ said_items n
settled-items_of Empty = refl
settled-items_of (Letter c marks later) = ap (λ xs. Char c marks ∷ xs) (settled-items_of later)
settled-items_of (Node s inside pre later) =
    ap (λ xs. Opening s.kind s.head s.marks s.pre None false ∷ map without_origin xs) (map-append (λ c. c.item) (node_list_items inside) (record { item = Closing s.kind pre; body = None } ∷ node_list_items later))
    ∙ ap (λ xs. Opening s.kind s.head s.marks s.pre None false ∷ xs)
    (map-append without_origin (plain (node_list_items inside)) (Closing s.kind pre ∷ plain (node_list_items later)) ∙ (λ i. settled-items_of inside i ++ Closing s.kind pre ∷ settled-items_of later i))

plain-carried : (bodies : ℕ → Option Body) (at : ℕ) (items : List PlainItem) → plain (carried_from bodies at items) ≡ items
plain-carried bodies at [] = refl
plain-carried bodies at (Opening kind head marks pre origin generated ∷ items) = ap (λ xs. Opening kind head marks pre origin generated ∷ xs) (plain-carried bodies (suc at) items)
plain-carried bodies at (Closing kind pre ∷ items) = ap (λ xs. Closing kind pre ∷ xs) (plain-carried bodies (suc at) items)
plain-carried bodies at (Char c marks ∷ items) = ap (λ xs. Char c marks ∷ xs) (plain-carried bodies (suc at) items)

said-with_list : (n : Nodes) (list : Start) → IsList list → said_items (with_list n list) ≡ said_items n ++ Opening InternalList empty_head [] list.pre None false ∷ Closing InternalList [] ∷ []
said-with_list Empty list l = (λ i. Opening (l.kind i) (l.head i) (l.marks i) list.pre None false ∷ Closing (l.kind i) [] ∷ [])
said-with_list (Letter c marks later) list l = ap (λ xs. Char c marks ∷ xs) (said-with_list later list l)
said-with_list (Node s inside pre later) list l =
    ap (λ xs. Opening s.kind s.head s.marks s.pre None false ∷ said_items inside ++ Closing s.kind pre ∷ xs) (said-with_list later list l)
    ∙ ap (λ xs. Opening s.kind s.head s.marks s.pre None false ∷ xs) (sym (append_assoc (said_items inside) (Closing s.kind pre ∷ said_items later) (Opening InternalList empty_head [] list.pre None false ∷ Closing InternalList [] ∷ [])))

-- ---- the law

page_settled : (at : ℕ) (f : Forest) (xs : List PlainItem) (pre : List ℕ) → Closes (Flow Root) f xs pre → map without_origin xs ≡ xs → (page_made at f).owners ≡ [] →
    map without_origin (items_read (page_made at f)) ≡ xs ++ Opening InternalList empty_head [] pre None false ∷ Closing InternalList [] ∷ []
page_settled at f xs pre c same none =
    let w : Progress = record { at = at; owners = []; editable = true } in
    let m : Made = page_made at f in
    map-append without_origin (with_origins 0 m.later.items) (internal_list m.pre m.owners)
    ∙ (λ i. settled-with_origins m.later.items 0 i ++ map without_origin (internal_list (c.white w i) (none i)))
    ∙ ap (λ ys. ys ++ Opening InternalList empty_head [] pre None false ∷ Closing InternalList [] ∷ []) (settled-unmade m.later.items ∙ ap (map without_origin) (c.later w) ∙ same)

keeps_none : KeepsNone fresh_writer
keeps_none s items = refl

-- a forest that is neat spells the fresh text
pub record SpellsFresh (items : List PlainItem) : Type 0 where
  pub forest : Forest
  pub neat : Neat forest
  pub spells : spelling forest ≡ fresh items

pub fresh_is_spelled : (items : List PlainItem) → IsSuch items → SpellsFresh items
fresh_is_spelled items such =
    let n : Nodes = such.nodes in
    let list : Start = such.list in
    let written : fresh items ≡ spelling (blocks_forest false list.pre n) =
    ap (λ x. blocks fresh_writer false [] (carried_nodes x)) such.are
    ∙ ap (blocks fresh_writer false []) (nodes_of-items_of (with_list n list))
    ∙ blocks-with_list fresh_writer keeps_none n false Root list such.last.kind such.blocks
    ∙ sym (blocks-spelling marks_mean fresh_writer keeps_none n false list.pre (text_blocks fresh_writer Root n such.blocks)) in
    let clean = blocks-Clean Root n false list.pre such.blocks such.last.before in
    record { forest = blocks_forest false list.pre n; neat = Clean-Neat (blocks_forest false list.pre n) clean.clean; spells = sym written }

pub is_read_back : IsReadBack
is_read_back items such f at h e =
    let n : Nodes = such.nodes in
    let list : Start = such.list in
    let g : Forest = blocks_forest false list.pre n in
    let written : fresh items ≡ spelling g =
    ap (λ x. blocks fresh_writer false [] (carried_nodes x)) such.are
    ∙ ap (blocks fresh_writer false []) (nodes_of-items_of (with_list n list))
    ∙ blocks-with_list fresh_writer keeps_none n false Root list such.last.kind such.blocks
    ∙ sym (blocks-spelling marks_mean fresh_writer keeps_none n false list.pre (text_blocks fresh_writer Root n such.blocks)) in
    let clean = blocks-Clean Root n false list.pre such.blocks such.last.before in
    let is : g ≡ f = sym (one_forest f g h (Clean-Neat g clean.clean) (e ∙ written)) in
    let w : Progress = record { at = at; owners = []; editable = true } in
    let r = blocks_read marks_mean n Root false list.pre such.blocks such.last.before in
    let m : Made = made_of (Flow Root) (parts_of g) w in
    let owners : (page_made at g).owners ≡ [] = run_ended-owners m.source w m ∙ Clean-owners g clean.clean (Flow Root) w in
    let read : map without_origin (items_read (page_made at g)) ≡ said_items n ++ Opening InternalList empty_head [] list.pre None false ∷ Closing InternalList [] ∷ [] =
    page_settled at g (said_items n) list.pre r.closes (settled-said n) owners in
    let meant : map without_origin items ≡ said_items (with_list n list) =
    ap (map without_origin) (sym (plain-carried (body_carried items) 0 items)) ∙ ap (λ x. map without_origin (plain x)) such.are ∙ settled-items_of (with_list n list) in
    ap (λ x. map without_origin (items_read (page_made at x))) (sym is) ∙ read ∙ sym (said-with_list n list such.last) ∙ sym meant
