-- Pieces that are children of some kind lead back to each state whose kind may hold them, so a
-- fragment leaves a lawful list lawful, but for nesting.
use Rattle.std.specs.List.{list_all}
use Rattle.std.proofs.Common.{◌≡◌, inl, inr, suc, ◌-◌, Bool, true, false, not, ◌&&◌, if◌then◌else◌, nat_le, List, [], ◌∷◌, ◌++◌, length, Ok, Err, refl, sym, ap, ◌∙◌, subst, arith}
use Rattle.std.proofs.lemmas.Bool.{and_parts, and_from, or_parts, leb-false, not-true, cases_Bool}
use Rattle.ve_kinds.specs.declared.kind.Kind.{Kind}
use Rattle.ve_kinds.specs.declared.kind.Kind.TheVariants.{P, InternalList}
use Rattle.model_items.specs.declared.plain_item.PlainItem.{PlainItem}
use Rattle.model_items.specs.declared.plain_item.PlainItem.TheVariants.{Char, Opening, Closing}
use Rattle.ve_kinds.specs.Table.{kind_same, may_hold, is_content_branch, is_inline_leaf}
use Rattle.model_items.specs.declared.law_fault.LawFault.TheVariants.{Unlawful}
use Rattle.model_items.specs.Law.{top, is_empty, is_over, may_open, after}
use Rattle.model_edit.specs.Brackets.{opening_of, closing_of}
use Rattle.model_items.specs.Offsets.{stack_at, kind_at}
use Rattle.model_edit_law.proofs.BracketLemmas.{state_of, Leads, leads_cons, leads_append, opened_leads}
use Rattle.model_edit.specs.Insert.{outer_items, is_bad_offset, is_mixed, is_content_item, is_content_pieces, in_paragraph, may_hold_item, levels_up}
use Rattle.model_edit_law.specs.InsertLaws.{are_children, FragmentStaysLawful}
use Rattle.model_edit_law.proofs.InsertLemmas.{if_ok_else}
use Rattle.model_edit_law.proofs.TypingLemmas.{PiecesLead, put_stays}

-- an opening under the state of a node, or of the root where nothing is over
may_open_here : (stack : List Kind) (seen : Bool) (kind : Kind) → may_hold (top stack) kind ≡ true → not (kind_same kind InternalList) ≡ true → is_over (state_of stack seen) ≡ false →
    may_open (state_of stack seen) kind ≡ true
may_open_here stack seen kind h other over =
    and_from _ _ h
    (ap (λ b. if b then is_empty stack && not seen else not (is_over (state_of stack seen))) (not-true _ other) ∙ ap not over)

children_lead : (parent : Kind) (items : List PlainItem) (inner : List Kind) (stack : List Kind) (seen : Bool) → are_children parent inner items ≡ true →
    list_all (may_hold_item (top stack)) (outer_items (length inner) items) ≡ true → is_over (state_of stack seen) ≡ false →
    Leads (after (state_of (inner ++ stack) seen) items) (state_of stack seen)
children_lead parent [] [] stack seen c h over = inl refl
children_lead parent [] (k ∷ inner) stack seen c h over = cc
children_lead parent (Char ch marks ∷ items) [] stack seen c h over =
    let p = and_parts (is_content_branch parent) _ c in
    let q = and_parts (is_content_branch (top stack)) _ h in
    let s = state_of stack seen in
    leads_cons s s s (Char ch marks) items (inl (ap (λ b. if b then Ok s else Err (Unlawful 0)) q.0))
    (children_lead parent items [] stack seen p.1 q.1 over)
children_lead parent (Char ch marks ∷ items) (k ∷ inner) stack seen c h over =
    let p = and_parts (is_content_branch k) _ c in
    let s = state_of (k ∷ (inner ++ stack)) seen in
    leads_cons s s (state_of stack seen) (Char ch marks) items (inl (ap (λ b. if b then Ok s else Err (Unlawful 0)) p.0))
    (children_lead parent items (k ∷ inner) stack seen p.1 h over)
children_lead parent (Opening kind head marks pre origin generated ∷ items) [] stack seen c h over =
    let p = and_parts (may_hold parent kind) _ c in
    let r = and_parts (not (kind_same kind InternalList)) _ p.1 in
    let q = and_parts (may_hold (top stack) kind) _ h in
    leads_cons (state_of stack seen) (state_of (kind ∷ stack) seen) (state_of stack seen) (Opening kind head marks pre origin generated) items
    (opened_leads (state_of stack seen) kind (may_open_here stack seen kind q.0 r.0 over) (not-true _ r.0))
    (children_lead parent items (kind ∷ []) stack seen r.1 q.1 over)
children_lead parent (Opening kind head marks pre origin generated ∷ items) (k ∷ inner) stack seen c h over =
    let p = and_parts (may_hold k kind) _ c in
    let r = and_parts (not (kind_same kind InternalList)) _ p.1 in
    let s = k ∷ (inner ++ stack) in
    leads_cons (state_of s seen) (state_of (kind ∷ s) seen) (state_of stack seen) (Opening kind head marks pre origin generated) items
    (opened_leads (state_of s seen) kind (may_open_here s seen kind p.0 r.0 refl) (not-true _ r.0))
    (children_lead parent items (kind ∷ (k ∷ inner)) stack seen r.1 h over)
children_lead parent (Closing kind pre ∷ items) [] stack seen c h over = cc
children_lead parent (Closing kind pre ∷ items) (k ∷ inner) stack seen c h over =
    let p = and_parts (kind_same k kind) _ c in
    let s = k ∷ (inner ++ stack) in
    let z : suc (length inner) - 1 ≡ length inner = omega arith in
    leads_cons (state_of s seen) (state_of (inner ++ stack) seen) (state_of stack seen) (Closing kind pre) items
    (inl (ap (λ b. if b then Ok (state_of (inner ++ stack) seen) else Err (Unlawful 0)) p.0))
    (children_lead parent items inner stack seen p.1
    (subst (λ n. list_all (may_hold_item (top stack)) (outer_items n items) ≡ true) z h) over)

lead_back : (parent : Kind) (pieces : List PlainItem) → are_children parent [] pieces ≡ true → PiecesLead pieces
lead_back parent pieces c s h over = children_lead parent pieces [] s.stack s.seen c h over

-- content may stand in a paragraph
content_in_P : (items : List PlainItem) → list_all is_content_item items ≡ true → list_all (may_hold_item P) items ≡ true
content_in_P [] h = refl
content_in_P (Char c marks ∷ items) h = content_in_P items h
content_in_P (Opening kind head marks pre origin generated ∷ items) h =
    let p = and_parts (is_inline_leaf kind) _ h in and_from (is_inline_leaf kind) _ p.0 (content_in_P items p.1)
content_in_P (Closing kind pre ∷ items) h = cc

paragraph_back : (pieces : List PlainItem) → PiecesLead pieces → is_content_pieces pieces ≡ true → PiecesLead (opening_of P [] ∷ pieces ++ closing_of P ∷ [])
paragraph_back pieces lead content s h over =
    let inner = state_of (P ∷ s.stack) s.seen in
    leads_cons s inner s (opening_of P []) (pieces ++ closing_of P ∷ [])
    (opened_leads s P (and_from _ _ (and_parts (may_hold (top s.stack) P) _ h).0 (ap not over)) refl)
    (leads_append inner inner s pieces (closing_of P ∷ []) (lead inner (content_in_P (outer_items 0 pieces) content) refl) (inl refl))

placed_lead : (parent : Kind) (pieces : List PlainItem) → PiecesLead pieces → PiecesLead (in_paragraph parent pieces)
placed_lead parent pieces lead =
    let para = opening_of P [] ∷ pieces ++ closing_of P ∷ [] in
    elim (cases_Bool (is_content_pieces pieces && not (is_content_branch parent))) [
      | inl yes_ ↦ subst (λ b. PiecesLead (if b then para else pieces)) (sym yes_) (paragraph_back pieces lead (and_parts (is_content_pieces pieces) _ yes_).0)
      | inr no_ ↦ subst (λ b. PiecesLead (if b then para else pieces)) (sym no_) lead
    ]

pub fragment_stays_lawful : FragmentStaysLawful
fragment_stays_lawful items at parent pieces t lawful c h =
    let p = if_ok_else (is_bad_offset items at) _ _ t h in
    let q = if_ok_else (is_mixed pieces) _ _ t p.1 in
    let within = leb-false (length items) at (or_parts (nat_le (length items) at) _ p.0).0 in
    let placed = in_paragraph (kind_at items at) pieces in
    put_stays items at placed (levels_up placed (stack_at items at)) t lawful within refl q.1 (placed_lead (kind_at items at) pieces (lead_back parent pieces c))
