-- Kept nodes in pages that were edited: their bytes, and what stands before and after them, by
-- computation.
use Rattle.std.proofs.Common.{◌≡◌, ℕ, Bool, true, false, List, [], ◌∷◌, ◌++◌, Option, Some, None, refl, ap}
use Rattle.std.specs.Prelude.{codes, bytes_eq, take, drop, unwrap_or}
use Rattle.ve_kinds.specs.declared.kind.Kind.{Kind}
use Rattle.ve_kinds.specs.declared.kind.Kind.TheVariants.{P, Ul, Li, Br, InternalList}
use Rattle.ve_base.specs.declared.head.Head.{Head}
use Rattle.ve_base.specs.Empty.{empty_head}
use Rattle.model_items.specs.declared.plain_item.PlainItem.{PlainItem}
use Rattle.model_items.specs.declared.plain_item.PlainItem.TheVariants.{Char, Opening}
use Rattle.model_page.specs.PageItems.{Opened, opened_page}
use Rattle.model_page.proofs.OnLiterals.{page_on_literals}
use Rattle.model_page.proofs.PageExamples.{open_, close_, with_attrs, empty_list}
use Rattle.model_page_write.specs.Nodes.{Start, Nodes, Empty, Letter, Node, node_items, carried_nodes, carried_items}
use Rattle.model_page_write.specs.Written.{Writer, blocks, content, original_of}
use Rattle.model_page_write.specs.PageText.{page_writer, write}
use Rattle.model_kept_law.specs.KeptBytes.{Among, siblings, placed, blocks_up_to, tag_before, tag_after, round_before, round_after, content_up_to, AreAnew, closing_in, stands_bare}
use Rattle.model_kept_law.proofs.StandingBytes.{kept_block_stands}

abbrev read_first : List ℕ → Opened
read_first page = unwrap_or (opened_page page) (record { page = []; body = record { from = 0; to = 0 }; items = []; spans = [] })

abbrev named : List ℕ → Head
named name = with_attrs (record { name = codes "id"; value = name } ∷ [])

abbrev start_of : Kind → Head → ℕ → Start
start_of kind head k = record { kind = kind; head = head; marks = []; pre = []; origin = Some k; generated = false; body = None }

abbrev list_node : Nodes
list_node = Node (record { kind = InternalList; head = empty_head; marks = []; pre = []; origin = None; generated = false; body = None }) Empty [] Empty

-- ---- an edit in one paragraph: the other is kept, and so is the leaf in the edited one

abbrev page : List ℕ
page = codes "<p id='x'>a&quot;</p><p id='y'>b<br/></p>"

abbrev o : Opened
o = read_first page

abbrev w : Writer
w = page_writer o

abbrev x_items : List PlainItem
x_items = Opening P (named (codes "x")) [] [] (Some 0) false ∷ Char 97 [] ∷ Char 34 [] ∷ close_ P ∷ []

abbrev y_items : ℕ → List PlainItem
y_items c = Opening P (named (codes "y")) [] [] (Some 1) false ∷ Char c [] ∷ open_ Br 2 ∷ close_ Br ∷ close_ P ∷ []

abbrev edited : List PlainItem
edited = x_items ++ y_items 99 ++ empty_list

abbrev x_start : Start
x_start = start_of P (named (codes "x")) 0

abbrev y_start : Start
y_start = start_of P (named (codes "y")) 1

abbrev x_inside : Nodes
x_inside = Letter 97 [] (Letter 34 [] Empty)

abbrev leaf : Among
leaf = record { before = Letter 99 [] Empty; start = start_of Br empty_head 2; pre = []; after = Empty }

abbrev x_among : Among
x_among = record { before = Empty; start = x_start; pre = []; after = Node y_start (siblings leaf Empty) [] list_node }

abbrev y_among : Among
y_among = record { before = Node x_start x_inside [] Empty; start = y_start; pre = []; after = list_node }

x_stands : carried_nodes (carried_items edited) ≡ placed [] (siblings x_among x_inside)
unfolding page_on_literals
x_stands = refl

leaf_stands : carried_nodes (carried_items edited) ≡ placed [] (siblings y_among (siblings leaf Empty))
unfolding page_on_literals
leaf_stands = refl

x_kept : original_of w false x_start (node_items x_start x_inside []) ≡ Some (codes "<p id='x'>a&quot;</p>")
unfolding page_on_literals
x_kept = refl

x_after : blocks w false [] x_among.after ≡ codes "<p id=\"y\">c<br/></p>"
unfolding page_on_literals
x_after = refl

y_changed : original_of w false y_start (node_items y_start (siblings leaf Empty) []) ≡ None
unfolding page_on_literals
y_changed = refl

leaf_kept : w.original leaf.start (node_items leaf.start Empty []) ≡ Some (codes "<br/>")
unfolding page_on_literals
leaf_kept = refl

leaf_before : blocks_up_to w [] y_among.before ++ tag_before false y_start ++ content_up_to w [] [] leaf.before ≡ codes "<p id='x'>a&quot;</p><p id=\"y\">c"
unfolding page_on_literals
leaf_before = refl

leaf_after : content w [] leaf.after ++ tag_after false y_start [] ++ blocks w false [] y_among.after ≡ codes "</p>"
unfolding page_on_literals
leaf_after = refl

-- outside of the edited paragraph the page is as it was
rest_before : take o.body.from o.page ++ blocks w false [] y_among.before ≡ codes "<p id='x'>a&quot;</p>"
unfolding page_on_literals
rest_before = refl

edited_is_written : write o edited ≡ codes "<p id='x'>a&quot;</p>" ++ codes "<p id=\"y\">c<br/></p>"
unfolding page_on_literals
edited_is_written = refl

-- ---- the second paragraph before the first

abbrev moved : List PlainItem
moved = y_items 98 ++ x_items ++ empty_list

moved_is_written : write o moved ≡ codes "<p id='y'>b<br/></p><p id='x'>a&quot;</p>"
unfolding page_on_literals
moved_is_written = refl

-- ---- a bare paragraph that is kept: the next one has its tags

abbrev run_writer : Writer
run_writer = page_writer (read_first (codes "<ul><li>a&apos;</li></ul>"))

abbrev bare_start : Option ℕ → Start
bare_start origin = record { kind = P; head = empty_head; marks = []; pre = []; origin = origin; generated = true; body = None }

abbrev run_inside : Nodes
run_inside = Letter 97 [] (Letter 39 [] Empty)

abbrev run : Among
run = record { before = Empty; start = bare_start (Some 2); pre = []; after = Node (bare_start None) (Letter 98 [] Empty) [] Empty }

run_bare : stands_bare [] run run_inside ≡ true
run_bare = refl

run_kept : original_of run_writer true run.start (node_items run.start run_inside []) ≡ Some (codes "a&apos;")
unfolding page_on_literals
run_kept = refl

run_after : blocks run_writer true [] run.after ≡ codes "<p>b</p>"
unfolding page_on_literals
run_after = refl

-- with its tags it is not kept
run_tagged : original_of run_writer false run.start (node_items run.start run_inside []) ≡ None
unfolding page_on_literals
run_tagged = refl

-- ---- a kept paragraph in nodes that are kept: the law would be false of it

abbrev nested : List ℕ
nested = codes "<ul id='x'><li><p>a</p></li></ul>"

abbrev n : Opened
n = read_first nested

abbrev ul : Among
ul = record { before = Empty; start = start_of Ul (named (codes "x")) 0; pre = []; after = list_node }

abbrev li : Among
li = record { before = Empty; start = start_of Li empty_head 1; pre = []; after = Empty }

abbrev p : Among
p = record { before = Empty; start = start_of P empty_head 2; pre = []; after = Empty }

abbrev letter_a : Nodes
letter_a = Letter 97 [] Empty

p_stands : carried_nodes (carried_items n.items) ≡ placed (ul ∷ li ∷ []) (siblings p letter_a)
unfolding page_on_literals
p_stands = refl

p_kept : original_of (page_writer n) false p.start (node_items p.start letter_a []) ≡ Some (codes "<p>a</p>")
unfolding page_on_literals
p_kept = refl

-- where a paragraph is put beside it, the nodes round it are written anew
abbrev grown : Among
grown = record { before = Empty; start = p.start; pre = []; after = Node (record { kind = P; head = empty_head; marks = []; pre = []; origin = None; generated = false; body = None }) (Letter 98 [] Empty) [] Empty }

anew : AreAnew (page_writer n) (ul ∷ li ∷ []) (siblings grown letter_a)
unfolding page_on_literals
anew = (record { block = refl; anew = refl }, (record { block = refl; anew = refl }, tt))

grown_before : round_before (page_writer n) (ul ∷ li ∷ []) ≡ codes "<ul id=\"x\"><li>"
unfolding page_on_literals
grown_before = refl

grown_after : blocks (page_writer n) false [] grown.after ++ round_after (page_writer n) [] (ul ∷ li ∷ []) ≡ codes "<p>b</p></li></ul>"
unfolding page_on_literals
grown_after = refl

abbrev grown_items : List PlainItem
grown_items =
    Opening Ul (named (codes "x")) [] [] (Some 0) false ∷ open_ Li 1
    ∷ open_ P 2 ∷ Char 97 [] ∷ close_ P
    ∷ Opening P empty_head [] [] None false ∷ Char 98 [] ∷ close_ P
    ∷ close_ Li ∷ close_ Ul ∷ empty_list

-- by the law
grown_is_written : write n grown_items ≡ codes "<ul id=\"x\"><li>" ++ codes "<p>a</p>" ++ codes "<p>b</p></li></ul>"
unfolding page_on_literals
grown_is_written = kept_block_stands n grown_items (ul ∷ li ∷ []) grown letter_a (codes "<p>a</p>") refl anew p_kept

-- the law without the premise that they are
abbrev StandsAnywhere : Type 0
StandsAnywhere =
    (o : Opened) (items : List PlainItem) (round : List Among) (a : Among) (inside : Nodes) (bytes : List ℕ) →
    let w : Writer = page_writer o in
    let bare : Bool = stands_bare (closing_in [] round) a inside in
    carried_nodes (carried_items items) ≡ placed round (siblings a inside) →
    original_of w bare a.start (node_items a.start inside a.pre) ≡ Some bytes →
    write o items
    ≡ (take o.body.from o.page ++ round_before w round ++ blocks_up_to w a.start.pre a.before)
    ++ bytes
    ++ (blocks w bare (closing_in [] round) a.after ++ round_after w [] round ++ drop o.body.to o.page)

not_anywhere : StandsAnywhere → ⊥
unfolding page_on_literals
not_anywhere law =
    let e : nested ≡ codes "<ul id=\"x\"><li><p>a</p></li></ul>" = law n n.items (ul ∷ li ∷ []) p letter_a (codes "<p>a</p>") p_stands p_kept in
    let f : true ≡ false = ap (bytes_eq nested) e in
    cc
