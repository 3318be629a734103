-- Which nodes are bare, by the item at a position.
use Rattle.std.proofs.Common.{◌≡◌, ◌≢◌, ℕ, ◌+◌, Bool, true, false, List, [], ◌∷◌, drop, refl, sym, ap, ◌∙◌, subst, Option, Some, None, Result, Ok, Err}
use Rattle.std.specs.Prelude.{◌&&◌, not, is_some, IfOk}
use Rattle.std.specs.List.{slice_get}
use Rattle.ve_base.specs.declared.value.Value.{Value}
use Rattle.ve_base.specs.declared.value.ValueId.{ValueId}
use Rattle.ve_kinds.specs.declared.kind.Kind.{Kind}
use Rattle.ve_kinds.specs.declared.kind.Kind.TheVariants.{P}
use Rattle.ve_kinds.specs.Table.{kind_same}
use Rattle.model_items.specs.declared.item.Item.{Item}
use Rattle.model_items.specs.declared.item.Item.TheVariants.{Char, Opening, Closing}
use Rattle.model_items.specs.Plain.{value_at, head_in, white_in, CitesWell, CitesWhite}
use Rattle.model_page_write.specs.Nodes.{NodesEnding, Start, Nodes, first_outer}
use Rattle.model_page_write.specs.Written.{is_empty, has_content, all_stay_inline, white_after}
use Rattle.ve_write.specs.Siblings.{View, ending_at, Ends, AllCite}
use Rattle.ve_write.specs.After.{Follows}
use Rattle.ve_write.specs.declared.ends.After.{After}
use Rattle.ve_write.proofs.SiblingLemmas.{found_at, char_here, opening_here, closing_here, nothing_here, node_later, node_outer, start_of}
use Rattle.ve_write.specs.Bare.{bare_in, spelled_at, IsBareAt, IsRunAt, IsTightAt}

-- ---- whitespace that is cited

some_white : (values : List Value) (id : ValueId) (text : List ℕ) → text ≢ [] → white_in (value_at values (Some id)) ≡ text → is_empty (white_in (value_at values (Some id))) ≡ false
some_white values id [] some e = absurd (some refl)
some_white values id (c ∷ cs) some e = ap is_empty e

pub white_is : (values : List Value) (pre : Option ValueId) → CitesWhite values pre → not (is_some pre) ≡ is_empty (white_in (value_at values pre))
white_is values None cites = refl
white_is values (Some id) cites = sym (some_white values id cites.0 cites.2 (ap white_in cites.1))

turned : (b c : Bool) → c ≡ not b → b ≡ not c
turned true c e = sym (ap not e)
turned false c e = sym (ap not e)

-- ---- no whitespace at a position

pub tight_end : (values : List Value) (items : List Item) (at : ℕ) → drop at items ≡ [] → IsTightAt values items at true
tight_end values items at e bodies =
    sym (ap (λ (x : NodesEnding). is_empty (white_after x.here (first_outer x.outer).pre)) (nothing_here (record { values = values; bodies = bodies }) items at e))

pub tight_char : (values : List Value) (items : List Item) (at : ℕ) (ch : ℕ) (marks : Option ValueId) → slice_get items at ≡ Some (Char ch marks) → IsTightAt values items at true
tight_char values items at ch marks found bodies =
    sym (ap (λ (x : NodesEnding). is_empty (white_after x.here (first_outer x.outer).pre)) (char_here (record { values = values; bodies = bodies }) items at ch marks (found_at items at _ found)))

pub tight_opening : (values : List Value) (items : List Item) (at : ℕ) (kind : Kind) (generated : Bool) (head marks pre : Option ValueId) (origin : Option ℕ) (tight : Bool) → AllCite values items →
    slice_get items at ≡ Some (Opening kind generated head marks pre origin) → is_some pre ≡ not tight → IsTightAt values items at tight
tight_opening values items at kind generated head marks pre origin tight all found is bodies =
    turned tight (is_some pre) is ∙ white_is values pre (all at _ found).2
    ∙ sym (ap (λ (x : NodesEnding). is_empty (white_after x.here (first_outer x.outer).pre)) (opening_here (record { values = values; bodies = bodies }) items at kind generated head marks pre origin (found_at items at _ found)))

pub tight_closing : (values : List Value) (items : List Item) (at : ℕ) (kind : Kind) (pre : Option ValueId) (tight : Bool) → AllCite values items →
    slice_get items at ≡ Some (Closing kind pre) → is_some pre ≡ not tight → IsTightAt values items at tight
tight_closing values items at kind pre tight all found is bodies =
    turned tight (is_some pre) is ∙ white_is values pre (all at _ found)
    ∙ sym (ap (λ (x : NodesEnding). is_empty (white_after x.here (first_outer x.outer).pre)) (closing_here (record { values = values; bodies = bodies }) items at kind pre (found_at items at _ found)))

-- ---- the node at a position

pub char_bare : (values : List Value) (items : List Item) (at : ℕ) (ch : ℕ) (marks : Option ValueId) (before : Bool) → slice_get items at ≡ Some (Char ch marks) → IsBareAt values items before at false
char_bare values items at ch marks before found bodies =
    sym (ap (λ (x : NodesEnding). bare_in before (first_outer x.outer).pre x.here) (char_here (record { values = values; bodies = bodies }) items at ch marks (found_at items at _ found)))

pub closing_bare : (values : List Value) (items : List Item) (at : ℕ) (kind : Kind) (pre : Option ValueId) (before : Bool) → slice_get items at ≡ Some (Closing kind pre) → IsBareAt values items before at false
closing_bare values items at kind pre before found bodies =
    sym (ap (λ (x : NodesEnding). bare_in before (first_outer x.outer).pre x.here) (closing_here (record { values = values; bodies = bodies }) items at kind pre (found_at items at _ found)))

-- what is asked of a node, in order
abbrev asked : Bool → Bool → Bool → Bool → Bool → Bool → Bool → Bool → Bool
asked k g a p h s t n = k && g && a && p && h && s && t && n

not_before : (k g a p h s t n : Bool) → n ≡ false → asked k g a p h s t n ≡ false
not_before false g a p h s t n e = refl
not_before true false a p h s t n e = refl
not_before true true false p h s t n e = refl
not_before true true true false h s t n e = refl
not_before true true true true false s t n e = refl
not_before true true true true true false t n e = refl
not_before true true true true true true false n e = refl
not_before true true true true true true true n e = e

not_plain : (k g a p h s t n : Bool) → (k && g && a && p) ≡ false → asked k g a p h s t n ≡ false
not_plain false g a p h s t n e = refl
not_plain true false a p h s t n e = refl
not_plain true true false p h s t n e = refl
not_plain true true true false h s t n e = refl
not_plain true true true true h s t n e = cc

not_tight : (k g a p h s t n : Bool) → t ≡ false → asked k g a p h s t n ≡ false
not_tight false g a p h s t n e = refl
not_tight true false a p h s t n e = refl
not_tight true true false p h s t n e = refl
not_tight true true true false h s t n e = refl
not_tight true true true true false s t n e = refl
not_tight true true true true true false t n e = refl
not_tight true true true true true true false n e = refl
not_tight true true true true true true true n e = cc

run_left : (k g a p h s t n : Bool) → (k && g && a && p) ≡ true → t ≡ true → n ≡ true → asked k g a p h s t n ≡ (h && s)
run_left false g a p h s t n e f d = cc
run_left true false a p h s t n e f d = cc
run_left true true false p h s t n e f d = cc
run_left true true true false h s t n e f d = cc
run_left true true true true false s t n e f d = refl
run_left true true true true true false t n e f d = refl
run_left true true true true true true t n e f d = ap (λ b. b && n) f ∙ d

-- what is asked of the opening alone
abbrev pub plain_in : List Value → Kind → Bool → Option ValueId → Option ValueId → Bool
plain_in values kind generated head pre = kind_same kind P && generated && is_empty (head_in (value_at values head)).attrs && is_empty (white_in (value_at values pre))

bare_here : (values : List Value) (items : List Item) (at : ℕ) (kind : Kind) (generated : Bool) (head marks pre : Option ValueId) (origin : Option ℕ) (before : Bool) (bodies : _) →
    slice_get items at ≡ Some (Opening kind generated head marks pre origin) →
    let e = spelled_at values items at bodies in
    let i = spelled_at values items (at + 1) bodies in
    bare_in before (first_outer e.outer).pre e.here
    ≡ asked (kind_same kind P) generated (is_empty (head_in (value_at values head)).attrs) (is_empty (white_in (value_at values pre))) (has_content i.here) (all_stay_inline i.here)
    (is_empty (white_after (first_outer i.outer).later (first_outer (drop 1 i.outer)).pre)) (not before)
bare_here values items at kind generated head marks pre origin before bodies found =
    ap (λ (x : NodesEnding). bare_in before (first_outer x.outer).pre x.here) (opening_here (record { values = values; bodies = bodies }) items at kind generated head marks pre origin (found_at items at _ found))

pub bare_after_bare : (values : List Value) (items : List Item) (at : ℕ) (kind : Kind) (generated : Bool) (head marks pre : Option ValueId) (origin : Option ℕ) (before : Bool) →
    slice_get items at ≡ Some (Opening kind generated head marks pre origin) → before ≡ true → IsBareAt values items before at false
bare_after_bare values items at kind generated head marks pre origin before found passes bodies =
    sym (bare_here values items at kind generated head marks pre origin before bodies found ∙ not_before (kind_same kind P) generated _ _ _ _ _ (not before) (ap not passes))

pub plain_bare : (values : List Value) (items : List Item) (at : ℕ) (kind : Kind) (generated : Bool) (head marks pre : Option ValueId) (origin : Option ℕ) (before plain : Bool) →
    slice_get items at ≡ Some (Opening kind generated head marks pre origin) → plain ≡ plain_in values kind generated head pre → plain ≡ false → IsBareAt values items before at false
plain_bare values items at kind generated head marks pre origin before plain found is fails bodies =
    sym (bare_here values items at kind generated head marks pre origin before bodies found ∙ not_plain (kind_same kind P) generated _ _ _ _ _ (not before) (sym is ∙ fails))

-- whether whitespace follows the node
tight_is : (values : List Value) (items : List Item) (at end : ℕ) (after : After) (tight : Bool) → Ends items (at + 1) end → Follows items end after → IsTightAt values items after.at tight → (bodies : _) →
    let i = spelled_at values items (at + 1) bodies in tight ≡ is_empty (white_after (first_outer i.outer).later (first_outer (drop 1 i.outer)).pre)
tight_is values items at end after tight ends follows is bodies =
    let v : View = record { values = values; bodies = bodies } in
    let i = ending_at v items (at + 1) in
    is bodies
    ∙ ap (λ o. is_empty (white_after (ending_at v items after.at).here (first_outer o).pre)) (sym (node_outer items (at + 1) end after ends follows v))
    ∙ ap (λ n. is_empty (white_after n (first_outer (drop 1 i.outer)).pre)) (sym (node_later items (at + 1) end after ends follows v))

pub tight_bare : (values : List Value) (items : List Item) (at : ℕ) (kind : Kind) (generated : Bool) (head marks pre : Option ValueId) (origin : Option ℕ) (before tight : Bool) (end : ℕ) (after : After) →
    slice_get items at ≡ Some (Opening kind generated head marks pre origin) → Ends items (at + 1) end → Follows items end after → IsTightAt values items after.at tight → tight ≡ false →
    IsBareAt values items before at false
tight_bare values items at kind generated head marks pre origin before tight end after found ends follows is fails bodies =
    sym (bare_here values items at kind generated head marks pre origin before bodies found
    ∙ not_tight (kind_same kind P) generated _ _ _ _ _ (not before) (sym (tight_is values items at end after tight ends follows is bodies) ∙ fails))

pub run_bare : (values : List Value) (items : List Item) (at : ℕ) (kind : Kind) (generated : Bool) (head marks pre : Option ValueId) (origin : Option ℕ) (before plain tight run : Bool) (end : ℕ) (after : After) →
    slice_get items at ≡ Some (Opening kind generated head marks pre origin) → plain ≡ plain_in values kind generated head pre → plain ≡ true → before ≡ false →
    Ends items (at + 1) end → Follows items end after → IsTightAt values items after.at tight → tight ≡ true → IsRunAt values items (at + 1) run → IsBareAt values items before at run
run_bare values items at kind generated head marks pre origin before plain tight run end after found is passes fails ends follows tight_at tight_yes run_at bodies =
    run_at bodies
    ∙ sym (bare_here values items at kind generated head marks pre origin before bodies found
    ∙ run_left (kind_same kind P) generated _ _ _ _ _ (not before) (sym is ∙ passes) (sym (tight_is values items at end after tight ends follows tight_at bodies) ∙ tight_yes) (ap not fails))

-- what follows where a result is there
pub if_ok : {A E : Type 0} (r : Result A E) (F G : A → Type 0) → ((a : A) → F a → G a) → IfOk r F → IfOk r G
if_ok (Ok a) F G f h = f a h
if_ok (Err e) F G f h = tt
