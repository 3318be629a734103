-- The block at a position is kept, or written afresh.
use Rattle.std.proofs.Common.{◌≡◌, ◌≢◌, ℕ, ◌+◌, Bool, true, false, List, [], ◌++◌, drop, refl, sym, ap, ◌∙◌, Option, Some, None}
use Rattle.std.specs.Prelude.{not, ◌&&◌, if◌then◌else◌, unwrap_or, encode_utf8_all}
use Rattle.std.specs.List.{slice_get}
use Rattle.ve_base.specs.declared.value.Value.{Value}
use Rattle.ve_base.specs.declared.value.ValueId.{ValueId}
use Rattle.ve_kinds.specs.declared.kind.Kind.{Kind}
use Rattle.ve_kinds.specs.declared.kind.Kind.TheVariants.{P}
use Rattle.ve_kinds.specs.Table.{is_content_branch, kind_same}
use Rattle.model_items.specs.declared.item.Item.{Item}
use Rattle.model_items.specs.declared.item.Item.TheVariants.{Char, Opening, Closing}
use Rattle.model_items.specs.Plain.{value_at, white_in}
use Rattle.model_page_write.specs.Nodes.{Nodes, NodesEnding, Start, first_outer, node_items}
use Rattle.model_page_write.specs.Written.{blocks, content, fresh_text, is_bare, original_of, white_after}
use Rattle.ve_write.specs.Siblings.{View, ending_at, Ends}
use Rattle.ve_write.specs.After.{Follows}
use Rattle.ve_write.specs.declared.ends.After.{After}
use Rattle.ve_write.proofs.SiblingLemmas.{found_at, char_here, closing_here, opening_here, start_of, node_later, node_outer}
use Rattle.ve_write.specs.Bare.{bare_in, IsBareAt}
use Rattle.ve_write.proofs.BareLemmas.{plain_bare, plain_in}
use Rattle.ve_write.specs.Originals.{original_in}
use Rattle.ve_write.specs.Told.{blocks_at, copied_first, view_of, GoesOn, IsAfresh, Known}
use Rattle.ve_write.proofs.BlockLemmas.{no_original}
use Rattle.ve_write.proofs.ContentLemmas.{three}

not_made : (k g a p : Bool) → g ≡ false → (k && g && a && p) ≡ false
not_made false g a p made = refl
not_made true false a p made = refl
not_made true true a p made = cc

-- a node that was not made for text has its tags
pub made_bare : (values : List Value) (items : List Item) (at : ℕ) (kind : Kind) (generated : Bool) (head marks pre : Option ValueId) (origin : Option ℕ) (before : Bool) →
    slice_get items at ≡ Some (Opening kind generated head marks pre origin) → generated ≡ false → IsBareAt values items before at false
made_bare values items at kind generated head marks pre origin before found made =
    plain_bare values items at kind generated head marks pre origin before (plain_in values kind generated head pre) found refl (not_made (kind_same kind P) generated _ _ made)

pub kept_put : (k : Known) (at : ℕ) (kind : Kind) (generated : Bool) (head marks pre : Option ValueId) (origin : Option ℕ) (before bare : Bool) (part : List ℕ) (end : ℕ) (after : After) (o0 o1 o2 : List ℕ) →
    slice_get k.items at ≡ Some (Opening kind generated head marks pre origin) → k.originals at ≡ Some part → IsBareAt k.values k.items before at bare → (generated && not bare) ≡ false →
    Ends k.items (at + 1) end → Follows k.items end after → o1 ≡ o0 ++ encode_utf8_all (white_in (value_at k.values pre)) → o2 ≡ o1 ++ part →
    GoesOn k o0 o2 (λ w v. blocks_at w v k.items before at) (λ w v. blocks_at w v k.items bare after.at)
kept_put k at kind generated head marks pre origin before bare part end after o0 o1 o2 found kept is_bare_at takes ends follows first second w bodies told =
    let items = k.items in
    let v : View = view_of k bodies in
    let s : Start = start_of v at kind generated head marks pre origin in
    let inside : Nodes = (ending_at v items (at + 1)).here in
    let round = (ending_at v items (at + 1)).outer in
    let here = opening_here v items at kind generated head marks pre origin (found_at items at _ found) in
    let p = encode_utf8_all (white_in (value_at k.values pre)) in
    let own = is_bare before s inside (white_after (first_outer round).later (first_outer (drop 1 round)).pre) in
    let bare_is : bare ≡ own = is_bare_at bodies ∙ ap (λ (x : NodesEnding). bare_in before (first_outer x.outer).pre x.here) here in
    let was : w.original s (node_items s inside (first_outer round).pre) ≡ Some part = sym (ap (λ (x : NodesEnding). original_in w x.here) here) ∙ told.original at ∙ kept in
    let taken : original_of w bare s (node_items s inside (first_outer round).pre) ≡ Some part = ap (λ b. if b then None else w.original s (node_items s inside (first_outer round).pre)) takes ∙ was in
    let text = if is_content_branch s.kind then content w [] inside else blocks w false (first_outer round).pre inside in
    let fresh = fresh_text w own s text (first_outer round).pre in
    let copied : part ≡ unwrap_or (original_of w own s (node_items s inside (first_outer round).pre)) fresh =
    sym (ap (λ b. unwrap_or (original_of w b s (node_items s inside (first_outer round).pre)) fresh) (sym bare_is) ∙ ap (λ o. unwrap_or o fresh) taken) in
    three o0 o1 o2 (blocks_at w v items bare after.at) p part first second
    ∙ ap (λ l. o0 ++ ((p ++ l) ++ blocks_at w v items bare after.at)) copied
    ∙ ap (λ o. o0 ++ ((p ++ unwrap_or (original_of w own s (node_items s inside (first_outer round).pre)) fresh) ++ blocks w bare (first_outer o).pre (ending_at v items after.at).here))
    (sym (node_outer items (at + 1) end after ends follows v))
    ∙ ap (λ l. o0 ++ ((p ++ unwrap_or (original_of w own s (node_items s inside (first_outer round).pre)) fresh) ++ blocks w bare (first_outer (drop 1 round)).pre l))
    (sym (node_later items (at + 1) end after ends follows v))
    ∙ ap (λ b. o0 ++ ((p ++ unwrap_or (original_of w own s (node_items s inside (first_outer round).pre)) fresh) ++ blocks w b (first_outer (drop 1 round)).pre (first_outer round).later)) bare_is
    ∙ sym (ap (λ (x : NodesEnding). o0 ++ blocks w before (first_outer x.outer).pre x.here) here)

-- ---- afresh

pub none_kept : (k : Known) (at : ℕ) (kind : Kind) (generated : Bool) (head marks pre : Option ValueId) (origin : Option ℕ) (before : Bool) →
    slice_get k.items at ≡ Some (Opening kind generated head marks pre origin) → k.originals at ≡ None → IsAfresh k before at
none_kept k at kind generated head marks pre origin before found none w bodies told =
    let v : View = view_of k bodies in
    let here = opening_here v k.items at kind generated head marks pre origin (found_at k.items at _ found) in
    ap (copied_first w before) here ∙ no_original w _ _ _ (sym (ap (λ (x : NodesEnding). original_in w x.here) here) ∙ told.original at ∙ none)

pub tags_needed : (k : Known) (at : ℕ) (kind : Kind) (generated : Bool) (head marks pre : Option ValueId) (origin : Option ℕ) (before bare : Bool) →
    slice_get k.items at ≡ Some (Opening kind generated head marks pre origin) → IsBareAt k.values k.items before at bare → (generated && not bare) ≡ true → IsAfresh k before at
tags_needed k at kind generated head marks pre origin before bare found is_bare_at takes w bodies told =
    let v : View = view_of k bodies in
    let here = opening_here v k.items at kind generated head marks pre origin (found_at k.items at _ found) in
    let bare_is = is_bare_at bodies ∙ ap (λ (x : NodesEnding). bare_in before (first_outer x.outer).pre x.here) here in
    ap (copied_first w before) here ∙ cases _ _ (sym (ap (λ b. generated && not b) bare_is) ∙ takes)
  where
    cases : {A : Type 0} (b : Bool) (o : Option A) → b ≡ true → (if b then None else o) ≡ None
    cases true o e = refl
    cases false o e = cc

pub no_node : (k : Known) (at : ℕ) (before : Bool) (item : Item) → slice_get k.items at ≡ Some item → ((kind : Kind) (generated : Bool) (head marks pre : Option ValueId) (origin : Option ℕ) → item ≢ Opening kind generated head marks pre origin) →
    IsAfresh k before at
no_node k at before (Char ch marks) found none w bodies told = ap (copied_first w before) (char_here (view_of k bodies) k.items at ch marks (found_at k.items at _ found))
no_node k at before (Closing kind pre) found none w bodies told = ap (copied_first w before) (closing_here (view_of k bodies) k.items at kind pre (found_at k.items at _ found))
no_node k at before (Opening kind generated head marks pre origin) found none w bodies told = absurd (none kind generated head marks pre origin refl)
