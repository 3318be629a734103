-- Whole lists: what is written of them is the model's text.
use Rattle.std.proofs.Common.{◌≡◌, ℕ, suc, ◌+◌, Bool, false, List, [], ◌∷◌, ◌++◌, length, take, drop, drop-drop, take-append-drop, refl, sym, ap, ◌∙◌, arith, Option, Some, None}
use Rattle.ve_base.specs.declared.value.Value.{Value}
use Rattle.ve_base.specs.declared.value.ValueId.{ValueId}
use Rattle.ve_kinds.specs.declared.kind.Kind.{Kind}
use Rattle.model_items.specs.declared.item.Item.{Item}
use Rattle.model_items.specs.declared.item.Item.TheVariants.{Char as ItemChar, Opening as ItemOpening, Closing as ItemClosing}
use Rattle.model_items.specs.declared.plain_item.PlainItem.{PlainItem}
use Rattle.model_items.specs.Law.{after, finish, start, step, Lawful}
use Rattle.model_items.specs.Plain.{plain, plain_list}
use Rattle.model_items.proofs.LawLemmas.{after_from_Lawful, after_parts, joined-ok, opened_before}
use Rattle.model_page.specs.PageItems.{Opened}
use Rattle.model_page.specs.References.{Body}
use Rattle.model_page_write.specs.Nodes.{Outer, NodesEnding, Start, body_carried, carried_from, carried_items, carried_nodes, first_outer, node_items, nodes_ending, start_item}
use Rattle.model_page_write.specs.PageText.{fresh_writer, original_at, page_writer}
use Rattle.model_page_write.specs.Written.{Writer, blocks}
use Rattle.ve_write.specs.Siblings.{View, ending_at}
use Rattle.ve_write.proofs.SiblingLemmas.{char_here, closing_here, nothing_here, opening_here, start_of}
use Rattle.ve_origin.specs.Kept.{first_node, node_at}
use Rattle.ve_origin.proofs.SplitLemmas.{carried_drop}
use Rattle.ve_write.specs.Originals.{list_text, opened_over, origin_of, original_in, original_there, originals_of, read_of}
use Rattle.ve_write.specs.Told.{blocks_at, AreBodyTexts, IsAppended}
use Rattle.ve_write.specs.declared.first_page.First.{First}
use Rattle.ve_write.proofs.BeforeLemmas.{ending_is, plain_drop}
use Rattle.ve_write.proofs.BodyLemmas.{none_in}
use Rattle.ve_write.proofs.LawfulLemmas.{node_is, outer_length}

-- ---- a lawful list closes all that it opens

none_left : (outer : List Outer) → length outer ≡ 0 → outer ≡ []
none_left [] e = refl
none_left (o ∷ outer) e = cc

no_outer : (bodies : ℕ → Option Body) (items : List PlainItem) → Lawful items → (nodes_ending (carried_from bodies 0 items)).outer ≡ []
no_outer bodies items lawful = none_left _ (outer_length bodies 0 items start (after_from_Lawful items lawful))

-- ---- the text of a whole list

whole_is : (v : View) (items : List Item) → ending_at v items 0 ≡ nodes_ending (carried_from v.bodies 0 (plain_list v.values items))
unfolding ending_at
whole_is v items = refl

-- ---- the original bytes of the node at a position

no_rest : (items : List Item) (at : ℕ) (x : Item) (rest : List Item) → drop at items ≡ x ∷ rest → drop at items ≡ x ∷ drop (at + 1) items
no_rest items at x rest e = e ∙ ap (λ l. x ∷ l) (sym (sym (drop-drop 1 at items) ∙ ap (drop 1) e))

-- the node that is spelled at a position has the items of the node that begins there
node_there : (values : List Value) (items : List Item) (at : ℕ) (kind : Kind) (generated : Bool) (head marks pre : Option ValueId) (origin : Option ℕ) → Lawful (plain_list values items) →
    drop at items ≡ ItemOpening kind generated head marks pre origin ∷ drop (at + 1) items →
    let bodies = body_carried (plain_list values items) in
    let v : View = record { values = values; bodies = bodies } in
    let e = ending_at v items (at + 1) in
    node_items (start_of v at kind generated head marks pre origin) e.here (first_outer e.outer).pre ≡ node_at (carried_items (plain_list values items)) at
node_there values items at kind generated head marks pre origin lawful found =
    let xs = plain_list values items in
    let bodies = body_carried xs in
    let v : View = record { values = values; bodies = bodies } in
    let s : Start = start_of v at kind generated head marks pre origin in
    let rest = drop (at + 1) xs in
    let x = plain values (ItemOpening kind generated head marks pre origin) in
    let here : drop at xs ≡ x ∷ rest = sym (plain_drop values at items) ∙ ap (plain_list values) found ∙ ap (λ l. x ∷ l) (plain_drop values (at + 1) items) in
    let p = after_parts (take at xs) (drop at xs) start finish (ap (after start) (take-append-drop at xs) ∙ after_from_Lawful xs lawful) in
    let q = joined-ok 1 (step p.0 x) (λ next. after next rest) finish (ap (after p.0) (sym here) ∙ p.2) in
    let z : 0 + at ≡ at = omega arith in
    let n : suc at ≡ at + 1 = omega arith in
    let is = node_is bodies (at + 1) s rest q.0 q.2 p.0.stack (sym (opened_before p.0 q.0 kind q.1).0) in
    ap (λ (e : NodesEnding). node_items s e.here (first_outer e.outer).pre) (ending_is v items (at + 1))
    ∙ sym is
    ∙ sym (ap first_node (carried_drop bodies 0 at xs ∙ ap (λ m. carried_from bodies m (drop at xs)) z ∙ ap (carried_from bodies at) here ∙ ap (λ m. start_item s ∷ carried_from bodies m rest) n))

pub original_is : (values : List Value) (items : List Item) (o : Opened) (at : ℕ) → Lawful (plain_list values items) →
    original_in (page_writer o) (ending_at (record { values = values; bodies = body_carried (plain_list values items) }) items at).here ≡ original_there o (plain_list values items) at
original_is values items o at lawful = by (drop at items) refl
  where
    w : Writer
    w = page_writer o

    v : View
    v = record { values = values; bodies = body_carried (plain_list values items) }

    none : (l : List Item) → drop at items ≡ l → origin_of (plain_list values l) ≡ None → None ≡ original_there o (plain_list values items) at
    none l e f = sym (ap (λ k. original_at o (carried_items o.items) k (node_at (carried_items (plain_list values items)) at)) (ap origin_of (sym (plain_drop values at items) ∙ ap (plain_list values) e) ∙ f))

    by : (l : List Item) → drop at items ≡ l → original_in w (ending_at v items at).here ≡ original_there o (plain_list values items) at
    by [] e = ap (λ (x : NodesEnding). original_in w x.here) (nothing_here v items at e) ∙ none [] e refl
    by (ItemChar ch marks ∷ l) e = ap (λ (x : NodesEnding). original_in w x.here) (char_here v items at ch marks (no_rest items at _ l e)) ∙ none _ e refl
    by (ItemClosing kind pre ∷ l) e = ap (λ (x : NodesEnding). original_in w x.here) (closing_here v items at kind pre (no_rest items at _ l e)) ∙ none _ e refl
    by (ItemOpening kind generated head marks pre origin ∷ l) e =
        let found = no_rest items at _ l e in
        ap (λ (x : NodesEnding). original_in w x.here) (opening_here v items at kind generated head marks pre origin found)
        ∙ ap (original_at o (carried_items o.items) origin) (node_there values items at kind generated head marks pre origin lawful found)
        ∙ sym (ap (λ k. original_at o (carried_items o.items) k (node_at (carried_items (plain_list values items)) at)) (ap origin_of (sym (plain_drop values at items) ∙ ap (plain_list values) e)))

-- ---- the text of a whole list

whole_from : (values : List Value) (items : List Item) (w : Writer) (old new : List ℕ) → Lawful (plain_list values items) →
    let bodies = body_carried (plain_list values items) in
    new ≡ old ++ blocks_at w (record { values = values; bodies = bodies }) items false 0 → new ≡ old ++ blocks w false [] (carried_nodes (carried_items (plain_list values items)))
whole_from values items w old new lawful so =
    let bodies = body_carried (plain_list values items) in
    let v : View = record { values = values; bodies = bodies } in
    let here = (nodes_ending (carried_from bodies 0 (plain_list values items))).here in
    so
    ∙ ap (λ (e : NodesEnding). old ++ blocks w false (first_outer e.outer).pre e.here) (whole_is v items)
    ∙ ap (λ o. old ++ blocks w false (first_outer o).pre here) (no_outer bodies (plain_list values items) lawful)

pub list_done : (values : List Value) (texts : ℕ → Option (List ℕ)) (items : List Item) (first : Option First) (old new : List ℕ) → Lawful (plain_list values items) → AreBodyTexts (plain_list values items) texts →
    IsAppended (record { values = values; items = items; originals = originals_of (read_of first) values items; texts = texts }) old new (λ w v. blocks_at w v items false 0) →
    new ≡ old ++ list_text (read_of first) values (plain_list values items)
list_done values texts items None old new lawful are so =
    let v : View = record { values = values; bodies = body_carried (plain_list values items) } in
    whole_from values items fresh_writer old new lawful
    (so fresh_writer (body_carried (plain_list values items)) (record { original = λ at. none_in fresh_writer (λ start items. refl) (ending_at v items at).here; known = are }))
list_done values texts items (Some first) old new lawful are so =
    let o = opened_over values first.origins.now in
    whole_from values items (page_writer o) old new lawful
    (so (page_writer o) (body_carried (plain_list values items)) (record { original = λ at. original_is values items o at lawful; known = are }))
