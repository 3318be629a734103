-- Typing leaves a lawful list lawful, but for nesting.
use Rattle.std.proofs.Common.{◌≡◌, ◌⊎◌, inl, inr, ℕ, zero, suc, ◌+◌, ◌<◌, Bool, true, false, not, ◌&&◌, ◌||◌, if◌then◌else◌, nat_le, List, [], ◌∷◌, ◌++◌, length, map, reverse, take, drop, Option, Some, None, Ok, Err, refl, sym, ap, ◌∙◌, subst, arith, length-drop}
use Rattle.std.specs.Prelude.{option_map}
use Rattle.std.specs.List.{list_any}
use Rattle.std.proofs.lemmas.Bool.{and_parts, and_from, or_parts, leb-false, not-true, cases_Bool}
use Rattle.std.proofs.lemmas.List.{take-append-drop}
use Rattle.ve_kinds.specs.declared.kind.Kind.{Kind}
use Rattle.ve_kinds.specs.declared.kind.Kind.TheVariants.{Root, P, InternalList}
use Rattle.ve_base.specs.declared.marks.Mark.{Mark}
use Rattle.model_items.specs.declared.plain_item.PlainItem.{PlainItem}
use Rattle.model_items.specs.declared.plain_item.PlainItem.TheVariants.{Char, Opening, Closing}
use Rattle.ve_kinds.specs.Table.{kind_same, may_hold, is_content_branch}
use Rattle.model_items.specs.declared.law_fault.LawFault.TheVariants.{Unlawful, TooDeep}
use Rattle.model_items.specs.Law.{State, start, finish, top, is_empty, is_over, may_open, step, outcome_then, outcome_moved, after, verdict, Lawful}
use Rattle.model_items.proofs.LawLemmas.{if_ok, Ok-same, joined-ok, after_whole, after_parts, after_from_Lawful, piece_fits, piece_fails}
use Rattle.model_change.specs.Transaction.{Transaction, edited}
use Rattle.model_edit.specs.Causes.{BuildCause}
use Rattle.model_edit.specs.Brackets.{opening_of, closing_of, closing_for, copy_of, is_internal}
use Rattle.model_items.specs.Offsets.{openings_at, stack_at, kind_at}
use Rattle.model_edit.specs.Edits.{Change, transaction_of}
use Rattle.model_edit_law.proofs.BracketLemmas.{fits_parts, state_of, fits, fits-after, Leads, leads_cons, leads_append, opened_leads, Openings, Openings-after, stack_at-after}
use Rattle.model_edit.specs.Insert.{reopened, is_bad_offset, is_mixed, is_content_pieces, in_paragraph, may_hold_pieces, levels_up, put_into, text_pieces}
use Rattle.model_edit_law.specs.InsertLaws.{TypingStaysLawful}
use Rattle.model_edit_law.proofs.InsertLemmas.{Openings-take, closings_fit, copies_fit, if_ok_else, edited-put, not_internal}

abbrev Found : List PlainItem → List Kind → ℕ → Type 0
Found pieces stack n = (list_any is_internal (take n stack) ≡ false) × (may_hold_pieces (top (drop n stack)) pieces ≡ true)

-- what the kind tells that is found
level_found : (pieces : List PlainItem) (stack : List Kind) (j : ℕ) → levels_up pieces stack ≡ Some j →
    (list_any is_internal (take j stack) ≡ false) × (may_hold_pieces (top (drop j stack)) pieces ≡ true)
level_found pieces [] j h = at_root (may_hold_pieces Root pieces) refl h
  where
    at_root : (b : Bool) → may_hold_pieces Root pieces ≡ b → (if b then Some 0 else None) ≡ Some j →
        (list_any is_internal (take j []) ≡ false) × (may_hold_pieces (top (drop j [])) pieces ≡ true)
    at_root true e h = let z : 0 ≡ j = cc in subst (λ n. (list_any is_internal (take n []) ≡ false) × (may_hold_pieces (top (drop n [])) pieces ≡ true)) z (refl, e)
    at_root false e h = cc
level_found pieces (k ∷ outer) j h = here (λ n e. level_found pieces outer n e) (may_hold_pieces k pieces) refl h
  where
    further : ((n : ℕ) → levels_up pieces outer ≡ Some n → Found pieces outer n) → (b : Bool) → is_internal k ≡ b → (o : Option ℕ) → levels_up pieces outer ≡ o →
        (if b then None else option_map (λ n. suc n) o) ≡ Some j → Found pieces (k ∷ outer) j
    further rest true i o e h = cc
    further rest false i None e h = cc
    further rest false i (Some n) e h =
        let s : suc n ≡ j = cc in
        let r = rest n e in
        subst (Found pieces (k ∷ outer)) s (ap (λ b. b || list_any is_internal (take n outer)) i ∙ r.0, r.1)

    here : ((n : ℕ) → levels_up pieces outer ≡ Some n → Found pieces outer n) → (b : Bool) → may_hold_pieces k pieces ≡ b →
        (if b then Some 0 else (if is_internal k then None else option_map (λ n. suc n) (levels_up pieces outer))) ≡ Some j → Found pieces (k ∷ outer) j
    here rest true e h = let z : 0 ≡ j = cc in subst (Found pieces (k ∷ outer)) z (refl, e)
    here rest false e h = further rest (is_internal k) refl (levels_up pieces outer) refl h

-- where nodes were closed, or an item follows, the list isn't over
still_open : (j : ℕ) (stack : List Kind) (seen : Bool) → fits seen stack ≡ true → list_any is_internal (take j stack) ≡ false →
    is_over (state_of stack seen) ≡ false → is_over (state_of (drop j stack) seen) ≡ false
still_open zero stack seen f i h = h
still_open (suc j) [] seen f i h = h
still_open (suc j) (k ∷ outer) seen f i h =
    let p = or_parts (is_internal k) _ i in
    let other = not_internal k p.0 in
    let q = fits_parts k outer seen other f in
    let m = and_parts (may_hold (top outer) k) _ q.0 in
    let n : not (is_over (state_of outer seen)) ≡ true = ap (λ b. if b then is_empty outer && not seen else not (is_over (state_of outer seen))) (sym other) ∙ m.1 in
    still_open j outer seen q.2 p.1 (not-true _ n)

item_follows : (s : State) (x : PlainItem) (t : State) → step s x ≡ Ok t → is_over s ≡ false
item_follows s x t h = elim (cases_Bool (is_over s)) [ inr other ↦ other | inl over ↦ absurd (none over) ]
  where
    over_state : (stack : List Kind) (seen : Bool) → (is_empty stack && seen) ≡ true → state_of stack seen ≡ finish
    over_state [] true h = refl
    over_state [] false h = cc
    over_state (k ∷ outer) seen h = cc

    closed_all : (x : PlainItem) → step finish x ≡ Ok t → ⊥
    closed_all (Char c marks) h = cc
    closed_all (Closing kind pre) h = cc
    closed_all (Opening kind head marks pre origin generated) h =
        let p = if_ok (may_open finish kind) _ _ t h in
        let m = and_parts (may_hold Root kind) _ p.0 in
        never (kind_same kind InternalList) m.1
      where
        never : (b : Bool) → (if b then false else false) ≡ true → ⊥
        never true h = cc
        never false h = cc

    none : is_over s ≡ true → ⊥
    none over = closed_all x (ap (λ v. step v x) (sym (over_state s.stack s.seen over)) ∙ h)

chars_lead : (marks : List Mark) (text : List ℕ) (s : State) → is_content_branch (top s.stack) ≡ true → after s (text_pieces marks text) ≡ Ok s
chars_lead marks [] s h = refl
chars_lead marks (c ∷ text) s h =
    ap (λ b. outcome_then 1 (if b then Ok s else Err (Unlawful 0)) (λ next. after next (text_pieces marks text))) h ∙ ap (outcome_moved 1) (chars_lead marks text s h)

paragraph_leads : (marks : List Mark) (text : List ℕ) (s : State) → may_hold (top s.stack) P ≡ true → is_over s ≡ false →
    Leads (after s (opening_of P [] ∷ text_pieces marks text ++ closing_of P ∷ [])) s
paragraph_leads marks text s h over =
    let inner = state_of (P ∷ s.stack) s.seen in
    leads_cons s inner s (opening_of P []) (text_pieces marks text ++ closing_of P ∷ [])
    (opened_leads s P (and_from _ _ h (ap not over)) refl)
    (inl (after_whole (text_pieces marks text) (closing_of P ∷ []) inner inner s (chars_lead marks text inner refl) refl))

-- pieces that lead back to each state whose kind may hold them
abbrev pub PiecesLead : List PlainItem → Type 0
PiecesLead pieces = (s : State) → may_hold_pieces (top s.stack) pieces ≡ true → is_over s ≡ false → Leads (after s pieces) s

pub put_stays : (items : List PlainItem) (at : ℕ) (pieces : List PlainItem) (o : Option ℕ) (t : Transaction) → Lawful items → at < length items →
    levels_up pieces (stack_at items at) ≡ o → put_into items at pieces o ≡ Ok t → PiecesLead pieces →
    (verdict (edited t items) ≡ None) ⊎ ((n : ℕ) × (verdict (edited t items) ≡ Some (TooDeep n)))
put_stays items at pieces None t lawful within e h lead = cc
put_stays items at pieces (Some j) t lawful within e h lead =
    let p = after_parts (take at items) (drop at items) start finish (ap (after start) (take-append-drop at items) ∙ after_from_Lawful items lawful) in
    let s = p.0 in
    let over = follows (drop at items) (omega (arith, length-drop at items)) s p.2 in
    let inner = take j s.stack in
    let outer = drop j s.stack in
    let openings = take j (openings_at items at) in
    let o : Openings openings inner = Openings-take j (openings_at items at) s.stack (Openings-after (take at items) [] start s p.1 tt) in
    let whole : inner ++ outer ≡ s.stack = take-append-drop j s.stack in
    let same : state_of (inner ++ outer) s.seen ≡ s = λ i. state_of (whole i) s.seen in
    let fitting : fits s.seen s.stack ≡ true = fits-after (take at items) start s p.1 refl in
    let f : fits s.seen (inner ++ outer) ≡ true = subst (λ st. fits s.seen st ≡ true) (sym whole) fitting in
    let stacks = stack_at-after items at s p.1 in
    let found = level_found pieces s.stack j (ap (levels_up pieces) (sym stacks) ∙ e) in
    let later = still_open j s.stack s.seen fitting found.0 over in
    let closed_ = closings_fit openings inner outer s.seen o in
    let copied = copies_fit openings inner outer s.seen o found.0 f in
    let middle : Leads (after (state_of outer s.seen) (pieces ++ reverse (map copy_of openings))) (state_of (inner ++ outer) s.seen) =
    leads_append (state_of outer s.seen) (state_of outer s.seen) (state_of (inner ++ outer) s.seen) pieces (reverse (map copy_of openings))
    (lead (state_of outer s.seen) found.1 later) (inl copied) in
    let all : Leads (after s (reopened openings pieces)) s =
    subst (λ (v : State). Leads (after v (reopened openings pieces)) v) same
    (leads_append (state_of (inner ++ outer) s.seen) (state_of outer s.seen) (state_of (inner ++ outer) s.seen) (map closing_for openings)
    (pieces ++ reverse (map copy_of openings)) (inl closed_) middle) in
    let new = reopened openings pieces in
    let made : transaction_of items (Change at 0 new ∷ []) ≡ t = Ok-same {E = BuildCause} (transaction_of items (Change at 0 new ∷ [])) t h in
    let gives : edited t items ≡ take at items ++ (new ++ drop at items) = ap (λ v. edited v items) (sym made) ∙ edited-put items at new (omega arith) in
    let old : Lawful (take at items ++ ([] ++ drop at items)) = subst Lawful (sym (take-append-drop at items)) lawful in
    let P : List PlainItem → Type 0 = λ v. (verdict v ≡ None) ⊎ ((n : ℕ) × (verdict v ≡ Some (TooDeep n))) in
    let result : P (take at items ++ (new ++ drop at items)) =
    elim all [
      | inl fine ↦ inl (piece_fits (take at items) [] (drop at items) new s s old p.1 refl fine)
      | inr deep ↦ inr (length (take at items) + deep.0, piece_fails (take at items) new (drop at items) s (TooDeep deep.0) p.1 deep.1)
    ] in
    subst P (sym gives) result
  where
    follows : (xs : List PlainItem) → 0 < length xs → (s : State) → after s xs ≡ Ok finish → is_over s ≡ false
    follows [] h s g = absurd (omega arith)
    follows (x ∷ xs) h s g = let q = joined-ok 1 (step s x) (λ next. after next xs) finish g in item_follows s x q.0 q.1

content_text : (marks : List Mark) (text : List ℕ) → is_content_pieces (text_pieces marks text) ≡ true
content_text marks [] = refl
content_text marks (c ∷ text) = content_text marks text

chars_back : (marks : List Mark) (text : List ℕ) (s : State) → may_hold_pieces (top s.stack) (text_pieces marks text) ≡ true → after s (text_pieces marks text) ≡ Ok s
chars_back marks [] s h = refl
chars_back marks (c ∷ text) s h = chars_lead marks (c ∷ text) s (and_parts (is_content_branch (top s.stack)) _ h).0

-- The pieces of typing: characters in a content branch, else in a paragraph.
typed_lead : (parent : Kind) (marks : List Mark) (text : List ℕ) → PiecesLead (in_paragraph parent (text_pieces marks text))
typed_lead parent marks text =
    let pieces = text_pieces marks text in
    let para = opening_of P [] ∷ pieces ++ closing_of P ∷ [] in
    elim (cases_Bool (is_content_branch parent)) [
      | inl content ↦
          (let e : in_paragraph parent pieces ≡ pieces =
          ap (λ b. if is_content_pieces pieces && not b then para else pieces) content ∙ ap (λ b. if b && false then para else pieces) (content_text marks text) in
          subst PiecesLead (sym e) (λ s h over. inl (chars_back marks text s h)))
      | inr other ↦
          (let e : in_paragraph parent pieces ≡ para =
          ap (λ b. if is_content_pieces pieces && not b then para else pieces) other ∙ ap (λ b. if b && true then para else pieces) (content_text marks text) in
          subst PiecesLead (sym e) (λ s h over. paragraph_leads marks text s (and_parts (may_hold (top s.stack) P) _ h).0 over))
    ]

pub typing_stays_lawful : TypingStaysLawful
typing_stays_lawful items at marks text t lawful h =
    let pieces = text_pieces marks text in
    let p = if_ok_else (is_bad_offset items at) _ _ t h in
    let q = if_ok_else (is_mixed pieces) _ _ t p.1 in
    let within = leb-false (length items) at (or_parts (nat_le (length items) at) _ p.0).0 in
    let placed = in_paragraph (kind_at items at) pieces in
    put_stays items at placed (levels_up placed (stack_at items at)) t lawful within refl q.1 (typed_lead (kind_at items at) marks text)
