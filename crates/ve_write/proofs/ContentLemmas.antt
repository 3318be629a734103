-- One step in content.
use Rattle.std.proofs.Common.{◌≡◌, ℕ, ◌+◌, ◌≤◌, ◌<◌, Bool, true, List, [], ◌∷◌, ◌++◌, length, get_or, drop, refl, sym, ap, ◌∙◌, subst, arith, append_assoc, Option, Some}
use Rattle.std.specs.Prelude.{zero, suc, unwrap_or}
use Rattle.std.specs.List.{slice_get, slice_range}
use Rattle.std.proofs.lemmas.Bool.{and_parts}
use Rattle.std.proofs.lemmas.Option.{slice_get-get_or}
use Rattle.ve_base.specs.declared.marks.Mark.{Mark}
use Rattle.ve_base.specs.declared.value.Value.{Value}
use Rattle.ve_base.specs.declared.value.ValueId.{ValueId}
use Rattle.ve_kinds.specs.declared.kind.Kind.{Kind}
use Rattle.model_items.specs.declared.item.Item.{Item}
use Rattle.model_items.specs.declared.item.Item.TheVariants.{Char, Opening}
use Rattle.model_items.specs.Plain.{value_at, head_in, marks_in, plain, plain_list}
use Rattle.model_page.specs.Editable.{all_refer, head_refers, item_refers}
use Rattle.model_page_write.specs.Nodes.{NodesEnding, Start, first_outer, node_items}
use Rattle.model_page_write.specs.Written.{Writer, content, marks_changed, letter, leaf_text}
use Rattle.ve_write.specs.Siblings.{View, ending_at, Ends, SameOuter, is_end}
use Rattle.ve_write.specs.After.{Follows}
use Rattle.ve_write.specs.declared.ends.After.{After}
use Rattle.ve_write.proofs.DepthLemmas.{piece_stands}
use Rattle.ve_write.proofs.SiblingLemmas.{found_at, char_here, char_outer, outer_on, opening_here, start_of, node_later, none_here}
use Rattle.ve_node_text.specs.Leaves.{leaf_of}
use Rattle.ve_node_text.proofs.LeafLemmas.{leaf_is}
use Rattle.ve_write.specs.Originals.{original_in}
use Rattle.ve_write.specs.Told.{content_at, view_of, GoesOn, IsAppended, Known}

-- ---- what items cite

item_at_refers : (values : List Value) (items : List Item) (at : ℕ) (item : Item) → all_refer (plain_list values items) ≡ true → slice_get items at ≡ Some item → item_refers (plain values item) ≡ true
item_at_refers values [] at item all found = cc
item_at_refers values (x ∷ items) zero item all found =
    let same : x ≡ item = cc in
    subst (λ y. item_refers (plain values y) ≡ true) same (and_parts (item_refers (plain values x)) (all_refer (plain_list values items)) all).0
item_at_refers values (x ∷ items) (suc at) item all found =
    item_at_refers values items at item (and_parts (item_refers (plain values x)) (all_refer (plain_list values items)) all).1 found

pub refers_at : (values : List Value) (items : List Item) (at : ℕ) (kind : Kind) (generated : Bool) (head marks pre : Option ValueId) (origin : Option ℕ) → all_refer (plain_list values items) ≡ true →
    slice_get items at ≡ Some (Opening kind generated head marks pre origin) → head_refers kind (head_in (value_at values head)) ≡ true
refers_at values items at kind generated head marks pre origin all found = item_at_refers values items at (Opening kind generated head marks pre origin) all found

-- ---- joining

pub three : (old mid new more a b : List ℕ) → mid ≡ old ++ a → new ≡ mid ++ b → new ++ more ≡ old ++ ((a ++ b) ++ more)
three old mid new more a b e f = ap (λ l. l ++ more) (f ∙ ap (λ l. l ++ b) e ∙ append_assoc old a b) ∙ append_assoc old (a ++ b) more

pub goes_on : (k : Known) (old mid new : List ℕ) (f g h : Writer → View → List ℕ) → GoesOn k old mid f g → GoesOn k mid new g h → GoesOn k old new f h
goes_on k old mid new f g h p q w bodies told = q w bodies told ∙ p w bodies told

pub changed_is : (old mid : List ℕ) (a b a' b' : List Mark) → mid ≡ old ++ marks_changed a b → a ≡ a' → b ≡ b' → mid ≡ old ++ marks_changed a' b'
changed_is old mid a b a' b' e f g = e ∙ ap (λ m. old ++ marks_changed m b) f ∙ ap (λ m. old ++ marks_changed a' m) g

-- ---- a character

pub char_put : (k : Known) (at : ℕ) (ch : ℕ) (opened marks : Option ValueId) (old mid new : List ℕ) →
    slice_get k.items at ≡ Some (Char ch marks) → mid ≡ old ++ marks_changed (marks_in (value_at k.values opened)) (marks_in (value_at k.values marks)) → new ≡ mid ++ letter ch →
    GoesOn k old new (λ w v. content_at w v k.items (marks_in (value_at k.values opened)) at) (λ w v. content_at w v k.items (marks_in (value_at k.values marks)) (at + 1))
char_put k at ch opened marks old mid new found e f w bodies told =
    let values = k.values in
    let items = k.items in
    let v : View = view_of k bodies in
    three old mid new (content_at w v items (marks_in (value_at values marks)) (at + 1)) _ _ e f
    ∙ sym (ap (λ (x : NodesEnding). old ++ content w (marks_in (value_at values opened)) x.here) (char_here v items at ch marks (found_at items at _ found)))

-- ---- a character of a borrowed piece

pub letter_in : (items piece : List Item) (at n : ℕ) (item : Item) (ch : ℕ) (marks : Option ValueId) → piece ≡ slice_range items at (at + length piece) → at + length piece ≤ length items →
    n < length piece → get_or piece n item ≡ Char ch marks → slice_get items (at + n) ≡ Some (Char ch marks)
letter_in items piece at n item ch marks lent within less is = piece_stands items piece at lent within n (Char ch marks) (slice_get-get_or piece n item less ∙ ap Some is)

pub letter_outer : (items : List Item) (at n ch : ℕ) (marks : Option ValueId) → slice_get items (at + n) ≡ Some (Char ch marks) → SameOuter items at (at + n) → SameOuter items at (at + (n + 1))
letter_outer items at n ch marks found same =
    let next : at + n + 1 ≡ at + (n + 1) = omega arith in
    outer_on items at (at + n) (at + (n + 1)) same (subst (SameOuter items (at + n)) next (char_outer items (at + n) (Char ch marks) ch marks found refl))

pub letter_put : (k : Known) (at n ch : ℕ) (first opened marks : Option ValueId) (old now mid new : List ℕ) → slice_get k.items (at + n) ≡ Some (Char ch marks) →
    GoesOn k old now (λ w v. content_at w v k.items (marks_in (value_at k.values first)) at) (λ w v. content_at w v k.items (marks_in (value_at k.values opened)) (at + n)) →
    mid ≡ now ++ marks_changed (marks_in (value_at k.values opened)) (marks_in (value_at k.values marks)) → new ≡ mid ++ letter ch →
    GoesOn k old new (λ w v. content_at w v k.items (marks_in (value_at k.values first)) at) (λ w v. content_at w v k.items (marks_in (value_at k.values marks)) (at + (n + 1)))
letter_put k at n ch first opened marks old now mid new found so e f =
    let next : at + n + 1 ≡ at + (n + 1) = omega arith in
    let text : Option ValueId → ℕ → Writer → View → List ℕ = λ m p w v. content_at w v k.items (marks_in (value_at k.values m)) p in
    goes_on k old now new (text first at) (text opened (at + n)) (text marks (at + (n + 1))) so
    (subst (λ p. GoesOn k now new (text opened (at + n)) (text marks p)) next (char_put k (at + n) ch opened marks now mid new found e f))

-- ---- a leaf

pub leaf_put : (k : Known) (at : ℕ) (kind : Kind) (generated : Bool) (head marks pre : Option ValueId) (origin : Option ℕ) (opened : Option ValueId)
    (end : ℕ) (after : After) (old mid new : List ℕ) → slice_get k.items at ≡ Some (Opening kind generated head marks pre origin) → Ends k.items (at + 1) end → Follows k.items end after →
    mid ≡ old ++ marks_changed (marks_in (value_at k.values opened)) (marks_in (value_at k.values marks)) →
    new ≡ mid ++ unwrap_or (k.originals at) (leaf_of (head_in (value_at k.values head)) (k.texts at) kind) →
    GoesOn k old new (λ w v. content_at w v k.items (marks_in (value_at k.values opened)) at) (λ w v. content_at w v k.items (marks_in (value_at k.values marks)) after.at)
leaf_put k at kind generated head marks pre origin opened end after old mid new found ends follows e f w bodies told =
    let values = k.values in
    let items = k.items in
    let v : View = view_of k bodies in
    let s : Start = start_of v at kind generated head marks pre origin in
    let here = opening_here v items at kind generated head marks pre origin (found_at items at _ found) in
    let A = marks_in (value_at values opened) in
    let B = marks_in (value_at values marks) in
    let L = leaf_of (head_in (value_at values head)) (k.texts at) kind in
    let own = node_items s (ending_at v items (at + 1)).here (first_outer (ending_at v items (at + 1)).outer).pre in
    let was : w.original s own ≡ k.originals at = sym (ap (λ (x : NodesEnding). original_in w x.here) here) ∙ told.original at in
    let fresh : L ≡ leaf_text w s kind = sym (leaf_is w s kind ∙ ap (λ h. leaf_of (head_in (value_at values head)) h kind) (told.known at)) in
    let text : unwrap_or (k.originals at) L ≡ unwrap_or (w.original s own) (leaf_text w s kind) = ap (λ o. unwrap_or o L) (sym was) ∙ ap (unwrap_or (w.original s own)) fresh in
    three old mid new (content w B (ending_at v items after.at).here) (marks_changed A B) (unwrap_or (k.originals at) L) e f
    ∙ ap (λ l. old ++ ((marks_changed A B ++ l) ++ content w B (ending_at v items after.at).here)) text
    ∙ ap (λ n. old ++ ((marks_changed A B ++ unwrap_or (w.original s own) (leaf_text w s kind)) ++ content w B n)) (sym (node_later items (at + 1) end after ends follows v))
    ∙ sym (ap (λ (x : NodesEnding). old ++ content w A x.here) here)

-- ---- where content ends

pub content_done : (k : Known) (at : ℕ) (opened : List Mark) (old mid new : List ℕ) (f : Writer → View → List ℕ) → is_end (drop at k.items) ≡ true →
    GoesOn k old mid f (λ w v. content_at w v k.items opened at) → new ≡ mid ++ marks_changed opened [] → IsAppended k old new f
content_done k at opened old mid new f h so e w bodies told =
    e ∙ ap (λ n. mid ++ content w opened n) (sym (none_here (view_of k bodies) k.items at h)) ∙ so w bodies told
