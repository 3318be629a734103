-- Pages with nodes that keep their odd spelling beside changed ones, read again, by computation.
use Rattle.std.proofs.Common.{◌≡◌, ℕ, false, true, List, [], ◌∷◌, ◌++◌, length, map, Option, Some, refl, inl, inr}
use Rattle.std.specs.Prelude.{codes, option_map, option_and_then, unwrap_or}
use Rattle.ve_kinds.specs.declared.kind.Kind.{Kind}
use Rattle.ve_kinds.specs.declared.kind.Kind.TheVariants.{Root, P, Ul, Li, Br, TransBlock, AlienBlock, TransInline, AlienInline, InternalList}
use Rattle.ve_base.specs.declared.head.Head.{Head}
use Rattle.ve_base.specs.Empty.{empty_head}
use Rattle.model_items.specs.declared.plain_item.PlainItem.{PlainItem}
use Rattle.model_items.specs.declared.plain_item.PlainItem.TheVariants.{Char, Opening}
use Rattle.model_spelling.specs.Parsed.{forest_of}
use Rattle.model_page.specs.PageItems.{or_nothing, Opened, opened_page}
use Rattle.model_page.specs.References.{refs_of}
use Rattle.model_page.proofs.OnLiterals.{page_on_literals}
use Rattle.model_page.proofs.PageExamples.{open_, made_, close_, whole_, with_attrs, empty_list, items_in}
use Rattle.model_page_write.specs.Nodes.{carried_nodes, carried_items}
use Rattle.model_page_write.specs.PageText.{page_writer, write}
use Rattle.model_page_law.specs.Formed.{IsFormedOpening, IsFormedClosing}
use Rattle.model_page_law.specs.ReadBack.{without_origin}
use Rattle.model_kept_law.specs.Readable.{has_references, shares_about, AreReadable}

abbrev written_at : List ℕ → List PlainItem → Option (List ℕ)
written_at page items = option_map (λ o. write o items) (opened_page page)

-- the items, up to origins and the flag, of the page that these items give
abbrev read_again : List ℕ → List PlainItem → Option (List PlainItem)
read_again page items = option_map (λ read. map without_origin read) (option_and_then items_in (written_at page items))

abbrev named : List ℕ → Head
named name = with_attrs (record { name = codes "id"; value = name } ∷ [])

abbrev p_ : List ℕ → ℕ → PlainItem
p_ name k = Opening P (named name) [] [] (Some k) false

-- ---- a paragraph that is kept, with an odd quote and an odd spelling of its text, and a changed
-- one in which a leaf is kept

abbrev page : List ℕ
page = codes "<p id='x'>a&quot;</p><p id='y'>b<br/></p>"

abbrev items : ℕ → List PlainItem
items c = p_ (codes "x") 0 ∷ Char 97 [] ∷ Char 34 [] ∷ close_ P ∷ p_ (codes "y") 1 ∷ Char c [] ∷ open_ Br 2 ∷ close_ Br ∷ close_ P ∷ empty_list

is_read : items_in page ≡ Some (items 98)
unfolding page_on_literals
is_read = refl

is_written : written_at page (items 99) ≡ Some (codes "<p id='x'>a&quot;</p><p id=\"y\">c<br/></p>")
unfolding page_on_literals
is_written = refl

is_read_again : read_again page (items 99) ≡ Some (map without_origin (items 99))
unfolding page_on_literals
is_read_again = refl

-- ---- a bare paragraph that is kept, and moved before a new one

abbrev run_page : List ℕ
run_page = codes "<ul><li>a&apos;</li></ul>"

abbrev run_items : List PlainItem → List PlainItem
run_items more = open_ Ul 0 ∷ open_ Li 1 ∷ made_ 2 ∷ Char 97 [] ∷ Char 39 [] ∷ close_ P ∷ more ++ close_ Li ∷ close_ Ul ∷ empty_list

abbrev new : List PlainItem
new = made_ 3 ∷ Char 98 [] ∷ close_ P ∷ []

run_is_written : written_at run_page (run_items new) ≡ Some (codes "<ul><li>a&apos;<p>b</p></li></ul>")
unfolding page_on_literals
run_is_written = refl

run_is_read_again : read_again run_page (run_items new) ≡ Some (map without_origin (run_items new))
unfolding page_on_literals
run_is_read_again = refl

-- ---- leaves that are kept whole: a comment, a group, and comments in a paragraph that is kept and
-- in one that is changed

abbrev wiki : List ℕ
wiki = codes "<!--c--><div about='#t' typeof='mw:Transclusion'>T</div><p>a<!--d--></p><p>b<!--e--></p>"

abbrev wiki_items : ℕ → List PlainItem
wiki_items c =
    whole_ AlienBlock 0 [] (codes "<!--c-->")
    ++ whole_ TransBlock 1 [] (codes "<div about='#t' typeof='mw:Transclusion'>T</div>")
    ++ open_ P 2 ∷ Char 97 [] ∷ whole_ AlienInline 3 [] (codes "<!--d-->")
    ++ close_ P ∷ open_ P 4 ∷ Char c [] ∷ whole_ AlienInline 5 [] (codes "<!--e-->")
    ++ close_ P ∷ empty_list

wiki_is_read : items_in wiki ≡ Some (wiki_items 98)
unfolding page_on_literals
wiki_is_read = refl

wiki_is_written : written_at wiki (wiki_items 99) ≡ Some (codes "<!--c--><div about='#t' typeof='mw:Transclusion'>T</div><p>a<!--d--></p><p>c<!--e--></p>")
unfolding page_on_literals
wiki_is_written = refl

wiki_is_read_again : read_again wiki (wiki_items 99) ≡ Some (map without_origin (wiki_items 99))
unfolding page_on_literals
wiki_is_read_again = refl

-- the law asks for no more than this

abbrev first : Opened
first = unwrap_or (opened_page wiki) (record { page = []; body = record { from = 0; to = 0 }; items = []; spans = [] })

calm : has_references first ≡ false
unfolding page_on_literals
calm = refl

plain_opening : IsFormedOpening P empty_head [] []
plain_opening = record { head = record { alone = refl; attrs = record { named = tt; free = refl } }; white = refl; leaf = λ e. cc; branch = λ e. refl; item = refl; list = λ e. cc }

list_opening : IsFormedOpening InternalList empty_head [] []
list_opening = record { head = record { alone = refl; attrs = record { named = tt; free = refl } }; white = refl; leaf = λ e. cc; branch = λ e. refl; item = refl; list = λ e. refl }

plain_closing : (k : Kind) → IsFormedClosing k []
plain_closing k = record { white = refl; none = λ e. refl }

is_readable : AreReadable (page_writer first) Root (carried_nodes (carried_items (wiki_items 99)))
unfolding page_on_literals
is_readable = (
  inr (inl (record { leaf = refl; tags = refl; inline = λ e. cc; block = λ e. (refl, refl); closing = refl; text = refl; spelled = refl; calm = refl; part = refl; reads = refl; alone = λ e. cc; apart = refl })),
  (
    inr (inl (record { leaf = refl; tags = refl; inline = λ e. cc; block = λ e. (refl, refl); closing = refl; text = refl; spelled = refl; calm = refl; part = refl; reads = refl; alone = λ e. cc; apart = refl })),
    (
      inl (record { branch = refl; tags = refl; before = refl; kept = refl }),
      (
        inr (inr (plain_opening, plain_closing P, refl, ((refl, tt), (inr (inl (record { leaf = refl; tags = refl; inline = λ e. (tt, refl); block = λ e. cc; closing = refl; text = refl; spelled = refl; calm = refl; part = refl; reads = refl; alone = λ e. cc; apart = refl })), tt)))),
        (inr (inr (list_opening, plain_closing InternalList, refl, tt)), tt),
      ),
    ),
  ),
)

-- ---- what it asks for is needed: two groups of one `about` that come to stand side by side are
-- read as one

abbrev box : List ℕ
box = codes "<div about='#x'></div>"

abbrev boxes : List ℕ
boxes = box ++ codes "<p>a</p>" ++ box

abbrev boxes_left : List PlainItem
boxes_left = whole_ AlienBlock 0 [] box ++ whole_ AlienBlock 2 [] box ++ empty_list

boxes_are_read : items_in boxes ≡ Some (whole_ AlienBlock 0 [] box ++ open_ P 1 ∷ Char 97 [] ∷ close_ P ∷ whole_ AlienBlock 2 [] box ++ empty_list)
unfolding page_on_literals
boxes_are_read = refl

boxes_are_joined : read_again boxes boxes_left ≡ Some (map without_origin (whole_ AlienBlock 0 [] (box ++ box) ++ empty_list))
unfolding page_on_literals
boxes_are_joined = refl

boxes_are_not_apart : shares_about (or_nothing (forest_of box)) (or_nothing (forest_of box)) ≡ true
unfolding page_on_literals
boxes_are_not_apart = refl

-- ---- a second owner of a key is no reference; where the first one goes, it is, though its
-- paragraph is kept

abbrev owner : List ℕ
owner = codes "<sup typeof='mw:Extension/ref' data-mw='{\"name\":\"ref\",\"attrs\":{\"name\":\"n\"},\"body\":{\"html\":\"\"}}'></sup>"

abbrev owners : List ℕ
owners = codes "<p>" ++ owner ++ codes "</p><p>" ++ owner ++ codes "</p>"

abbrev second_left : List PlainItem
second_left = open_ P 2 ∷ whole_ TransInline 3 [] owner ++ close_ P ∷ empty_list

owners_are_written : written_at owners second_left ≡ Some (codes "<p>" ++ owner ++ codes "</p>")
unfolding page_on_literals
owners_are_written = refl

references_again : option_map (λ items. length (refs_of items)) (read_again owners second_left) ≡ Some 1
unfolding page_on_literals
references_again = refl

owners_are_references : option_map has_references (opened_page owners) ≡ Some true
unfolding page_on_literals
owners_are_references = refl
