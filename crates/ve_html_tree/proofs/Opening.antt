-- Start and end tags: their effect on the open elements.
use Rattle.std.proofs.Common.{◌≡◌, ◌≢◌, ℕ, ◌-◌, Bool, true, false, cond, List, [], ◌∷◌, ◌++◌, map, length, get_or, Result, Ok, Err, OnOk, IfErr, refl, sym, ap, ◌∙◌, subst}
use Rattle.std.proofs.lemmas.Bool.{ne_eqb}
use Rattle.model_spelling.specs.Grammar.{name_same}
use Rattle.ve_kinds.specs.Tags.{is_void}
use Rattle.model_spelling.specs.Faults.{OpenElement, Mismatched, after_start, after_end}
use Rattle.ve_html_scan.specs.Shown.{token_span}
use Rattle.ve_html_scan.specs.declared.token.Token.{Token}
use Rattle.ve_html_tree.specs.declared.node.Node.{Node}
use Rattle.ve_html_tree.specs.declared.open.Opened.{Opened}
use Rattle.ve_html_tree.specs.declared.fault.HtmlFault.{HtmlFault}
use Rattle.ve_html_tree.specs.declared.fault.HtmlFault.TheVariants as faults
use Rattle.ve_html_tree.specs.Nodes.{node_of, ended_at}
use Rattle.ve_html_tree.specs.Opened.{start_name, open_at, open_node_numbers_from, open_node_numbers, opens, AreLinked}
use Rattle.ve_html_tree.specs.Seen.{IsFirstFault, fault_met, StepsTo}
use Rattle.ve_html_tree.proofs.Links.{length_opens, leaf_numbers, leaf_opens, leaf_links, within, opened_numbers, opened_opens, opened_links, without, shown_node, first_opens, closed_numbers, closed_opens, closed_links}

-- ---- start tags

room_for : (ns : List Node) (o : Opened) → o.count ≢ 200 → length (opens ns o) ≢ 200
room_for ns o ne e = ne (sym (length_opens ns o) ∙ e)

start_void : (name : List ℕ) (at : ℕ) (os : List OpenElement) → length os ≢ 200 → is_void name ≡ true → after_start name at os ≡ Ok os
start_void name at os ne v = rw (ne_eqb _ _ ne, v) refl

start_opens : (name : List ℕ) (at : ℕ) (os : List OpenElement) → length os ≢ 200 → is_void name ≡ false → after_start name at os ≡ Ok (record { name = name; at = at } ∷ os)
start_opens name at os ne v = rw (ne_eqb _ _ ne, v) refl

pub void_goes : {A : Type 0} (r : Result A HtmlFault) (ns ms : List Node) (x : Node) (o : Opened) (name : List ℕ) (at : ℕ) → AreLinked ns o → o.count ≢ 200 → is_void name ≡ true
    → OnOk r (ms ≡ ns ++ x ∷ []) → IfErr r (λ e. e ≡ faults.Memory) → StepsTo r (opens ms o) (after_start name at (opens ns o))
void_goes (Ok y) ns ms x o name at l ne v is m =
    start_void name at (opens ns o) (room_for ns o ne) v ∙ ap (λ (os : List OpenElement). Ok os) (sym (ap (λ (l2 : List Node). opens l2 o) is ∙ leaf_opens ns x o l))
void_goes (Err f) ns ms x o name at l ne v is m = subst (λ (e : HtmlFault). IsFirstFault e (fault_met (after_start name at (opens ns o)))) (sym m) tt

pub void_numbers : {A : Type 0} (r : Result A HtmlFault) (ns ms : List Node) (x : Node) (o : Opened) (b : Bool) → AreLinked ns o → b ≡ true → OnOk r (ms ≡ ns ++ x ∷ []) → OnOk r (open_node_numbers ms o ≡ cond b (open_node_numbers ns o) (length ns ∷ open_node_numbers ns o))
void_numbers (Ok y) ns ms x o b l v is = rw v (ap (λ (l2 : List Node). open_node_numbers l2 o) is ∙ leaf_numbers ns x o l)
void_numbers (Err f) ns ms x o b l v is = tt

pub void_links : {A : Type 0} (r : Result A HtmlFault) (ns ms : List Node) (x : Node) (o : Opened) → AreLinked ns o → OnOk r (ms ≡ ns ++ x ∷ []) → OnOk r (AreLinked ms o)
void_links (Ok y) ns ms x o l is = subst (λ (l2 : List Node). AreLinked l2 o) (sym is) (leaf_links ns x o l)
void_links (Err f) ns ms x o l is = tt

-- where the node of the element has the number k
module _ (ns ms : List Node) (t : Token) (o : Opened) (name : List ℕ) (k : ℕ) (l : AreLinked ns o) (v : is_void name ≡ false) (is : ms ≡ ns ++ node_of t o.innermost ∷ []) (here : k ≡ length ns) where
  pub open_goes : o.count ≢ 200 → start_name t ≡ name → after_start name (token_span t).from (opens ns o) ≡ Ok (opens ms (within k o))
  open_goes ne named =
      start_opens name (token_span t).from (opens ns o) (room_for ns o ne) v
      ∙ ap (λ (n : List ℕ). Ok (record { name = n; at = (token_span t).from } ∷ opens ns o)) (sym named)
      ∙ ap (λ (os : List OpenElement). Ok os) (sym (opened_opens ns (node_of t o.innermost) o refl l))
      ∙ ap (λ (l2 : List Node). Ok (opens l2 (within (length ns) o))) (sym is)
      ∙ ap (λ (j : ℕ). Ok (opens ms (within j o))) (sym here)

  pub open_numbers : open_node_numbers ms (within k o) ≡ cond (is_void name) (open_node_numbers ns o) (length ns ∷ open_node_numbers ns o)
  open_numbers =
      rw v (ap (λ (j : ℕ). open_node_numbers ms (within j o)) here
      ∙ ap (λ (l2 : List Node). open_node_numbers l2 (within (length ns) o)) is
      ∙ opened_numbers ns (node_of t o.innermost) o refl l)

  pub open_links : AreLinked ms (within k o)
  open_links = subst (λ (j : ℕ). AreLinked ms (within j o)) (sym here) (subst (λ (l2 : List Node). AreLinked l2 (within (length ns) o)) (sym is) (opened_links ns (node_of t o.innermost) o refl l))

-- ---- end tags

name_is_same : (tag first name : List ℕ) (r : Bool) → r ≡ name_same first name → first ≡ tag → name_same tag name ≡ r
name_is_same tag first name r e f = ap (λ (n : List ℕ). name_same n name) (sym f) ∙ sym e

end_closes : (name : List ℕ) (at : ℕ) (o : OpenElement) (os : List OpenElement) → is_void name ≡ false → name_same o.name name ≡ true → after_end name at (o ∷ os) ≡ Ok os
end_closes name at o os v s = rw (v, s) refl

end_differs : (name : List ℕ) (at : ℕ) (o : OpenElement) (os : List OpenElement) → is_void name ≡ false → name_same o.name name ≡ false → after_end name at (o ∷ os) ≡ Err (Mismatched at)
end_differs name at o os v s = rw (v, s) refl

-- where m is the node of the innermost element
module _ (ns ms : List Node) (o : Opened) (m : Node) (l : AreLinked ns o) (ne : o.count ≢ 0) (first : m ≡ get_or ns o.innermost m) where
  pub close_differs : (name tag : List ℕ) (at : ℕ) (r : Bool) → is_void name ≡ false → r ≡ name_same tag name → tag ≡ start_name m.token → r ≡ false → after_end name at (opens ns o) ≡ Err (Mismatched at)
  close_differs name tag at r v e named f =
      ap (after_end name at) (first_opens ns o m ne l first)
      ∙ end_differs name at (shown_node m) (map (open_at ns) (open_node_numbers_from ns (o.count - 1) m.next)) v (name_is_same (start_name m.token) tag name r e named ∙ f)

  module _ (from to next : ℕ) (is : ms ≡ ended_at o.innermost from to next ns) where
    pub close_goes : (name tag : List ℕ) (at : ℕ) (r : Bool) → is_void name ≡ false → r ≡ name_same tag name → tag ≡ start_name m.token → r ≡ true → after_end name at (opens ns o) ≡ Ok (opens ms (without o m))
    close_goes name tag at r v e named f =
        ap (after_end name at) (closed_opens ns o m ne l first from to next)
        ∙ end_closes name at (shown_node m) (opens (ended_at o.innermost from to next ns) (without o m)) v (name_is_same (start_name m.token) tag name r e named ∙ f)
        ∙ ap (λ (l2 : List Node). Ok (opens l2 (without o m))) (sym is)

    pub close_numbers : open_node_numbers ns o ≡ o.innermost ∷ open_node_numbers ms (without o m)
    close_numbers = closed_numbers ns o m ne l first from to next ∙ ap (λ (l2 : List Node). o.innermost ∷ open_node_numbers l2 (without o m)) (sym is)

    pub close_links : AreLinked ms (without o m)
    close_links = subst (λ (l2 : List Node). AreLinked l2 (without o m)) (sym is) (closed_links ns o m ne l first from to next)
