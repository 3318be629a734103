-- A page within the limits opens as a lawful list.
use Rattle.std.proofs.Common.{◌≡◌, ℕ, suc, ◌+◌, ◌-◌, ◌≤◌, Bool, true, false, not, ◌&&◌, ◌||◌, if◌then◌else◌, List, [], ◌∷◌, ◌++◌, length, Option, Some, None, Ok, refl, sym, ap, ◌∙◌, arith}
use Rattle.std.specs.Prelude.{nat_lt, flat_map, option_map}
use Rattle.std.proofs.lemmas.Bool.{and_from}
use Rattle.model_spelling.specs.Forest.{Forest}
use Rattle.model_spelling.specs.Parsed.{forest_of}
use Rattle.ve_kinds.specs.declared.kind.Kind.{Kind}
use Rattle.ve_kinds.specs.declared.kind.Kind.TheVariants.{Root, InternalList, InternalItem}
use Rattle.ve_kinds.specs.Table.{kind_same, may_hold, is_content_branch}
use Rattle.ve_base.specs.declared.marks.Mark.{Mark}
use Rattle.ve_base.specs.Empty.{empty_head}
use Rattle.model_items.specs.declared.plain_item.PlainItem.{PlainItem}
use Rattle.model_items.specs.declared.plain_item.PlainItem.TheVariants.{Char, Opening, Closing}
use Rattle.model_items.specs.Law.{State, start, finish, top, is_empty, is_over, may_open, state_opened, state_closed, step, outcome_moved, outcome_then, after}
use Rattle.model_items.proofs.LawLemmas.{after_whole, Lawful_from_after}
use Rattle.model_items.proofs.SameLemmas.{Means-kind_same}
use Rattle.std.specs.Option.{option_or}
use Rattle.model_page.specs.Parts.{Parts, parts_of}
use Rattle.model_page.specs.Fit.{Around, Flow}
use Rattle.model_page.specs.Pieces.{SourceSpan, Owner, Made, Progress}
use Rattle.model_page.specs.Convert.{made_of, in_flow}
use Rattle.model_page.specs.PageItems.{with_origins, item_head, body_made, or_nothing, internal_item, internal_list, page_made, items_of_page}
use Rattle.model_page.specs.Limits.{Limit, TooDeep, TooManyMarks, limit_at, earlier, deep_at, marked_at, limit_of, moved_to, body_limit, first_body_limit}
use Rattle.model_page_write.specs.Nodes.{Nodes, Empty, Letter, Node}
use Rattle.model_page_law.specs.Lawful.{LimitedIsLawful}
use Rattle.model_page_law.proofs.ShapeLemmas.{plain, openings, Fine-run_closed, Fine-made_of}
use Rattle.model_page_law.proofs.KindFits.{Sane}
use Rattle.model_page_law.proofs.NestLemmas.{innermost, Closes, Nests, Holds, Meets-run_closed, Meets-made_of}

-- ---- one item, and then the rest

first_step : (s t u : State) (item : PlainItem) (items : List PlainItem) → step s item ≡ Ok t → after t items ≡ Ok u → after s (item ∷ items) ≡ Ok u
first_step s t u item items e h = ap (λ r. outcome_then 1 r (λ next. after next items)) e ∙ ap (outcome_moved 1) h

abbrev state : List Kind → Bool → State
state stack seen = record { stack = stack; seen = seen }

pick_true : {A : Type 0} (c : Bool) (x y : A) → c ≡ true → (if c then x else y) ≡ x
pick_true true x y e = refl
pick_true false x y e = cc

pick_false : {A : Type 0} (c : Bool) (x y : A) → c ≡ false → (if c then x else y) ≡ y
pick_false true x y e = cc
pick_false false x y e = refl

some_none : (c : Bool) (x : Option ℕ) (n : ℕ) → (if c then x else Some n) ≡ None → (c ≡ true) × (x ≡ None)
some_none true x n e = (refl, e)
some_none false x n e = cc

-- how many openings there are
abbrev pub opening_count : List PlainItem → ℕ
opening_count [] = 0
opening_count (Char c marks ∷ items) = opening_count items
opening_count (Opening kind head marks pre origin generated ∷ items) = suc (opening_count items)
opening_count (Closing kind pre ∷ items) = opening_count items

opening_count-append : (xs ys : List PlainItem) → opening_count (xs ++ ys) ≡ opening_count xs + opening_count ys
opening_count-append [] ys = omega arith
opening_count-append (Char c marks ∷ xs) ys = opening_count-append xs ys
opening_count-append (Opening kind head marks pre origin generated ∷ xs) ys = let e = opening_count-append xs ys in omega (arith, e)
opening_count-append (Closing kind pre ∷ xs) ys = opening_count-append xs ys

opening_count-plain : (n : Nodes) → opening_count (plain n) ≡ openings n
opening_count-plain Empty = refl
opening_count-plain (Letter c marks later) = opening_count-plain later
opening_count-plain (Node s inside pre later) =
    let e = opening_count-append (plain inside) (Closing s.kind pre ∷ plain later) in
    let f = opening_count-plain inside in
    let g = opening_count-plain later in
    omega (arith, e, f, g)

-- ---- what nests and is not too deep is gone through

top_innermost : (parent : Kind) (s base : List Kind) → top base ≡ parent → top (s ++ base) ≡ innermost parent s
top_innermost parent [] base e = e
top_innermost parent (k ∷ outer) base e = refl

not_over : (s base : List Kind) (seen : Bool) → (is_empty base && seen) ≡ false → (is_empty (s ++ base) && seen) ≡ false
not_over [] base seen e = e
not_over (k ∷ outer) base seen e = refl

or_false : (b : Bool) → (b || false) ≡ b
or_false true = refl
or_false false = refl

opened_ok : (stack : List Kind) (seen : Bool) (k : Kind) → may_hold (top stack) k ≡ true → kind_same k InternalList ≡ false → (is_empty stack && seen) ≡ false → nat_lt (length stack) 100 ≡ true →
    state_opened (state stack seen) k ≡ Ok (state (k ∷ stack) seen)
opened_ok stack seen k may other over deep =
    let rule : (if kind_same k InternalList then is_empty stack && not seen else not (is_over (state stack seen))) ≡ true =
    pick_false (kind_same k InternalList) (is_empty stack && not seen) (not (is_over (state stack seen))) other ∙ ap not over in
    pick_true (may_open (state stack seen) k) _ _ (and_from (may_hold (top stack) k) _ may rule)
    ∙ pick_true (nat_lt (length stack) 100) _ _ deep
    ∙ ap (λ b. Ok (state (k ∷ stack) b)) (ap (λ b. seen || b) other ∙ or_false seen)

Char_ok : (stack : List Kind) (seen : Bool) (c : ℕ) (marks : List Mark) → is_content_branch (top stack) ≡ true → step (state stack seen) (Char c marks) ≡ Ok (state stack seen)
Char_ok stack seen c marks e = pick_true (is_content_branch (top stack)) _ _ e

kind_itself : (k : Kind) → kind_same k k ≡ true
kind_itself k = Means-kind_same.itself k

closed_ok : (k kind : Kind) (stack : List Kind) (seen : Bool) → k ≡ kind → state_closed (k ∷ stack) seen kind ≡ Ok (state stack seen)
closed_ok k kind stack seen e = pick_true (kind_same k kind) _ _ (ap (kind_same k) (sym e) ∙ kind_itself k)

abbrev Runs : List Kind → Bool → List PlainItem → List Kind → Type 0
Runs s seen items t = after (state s seen) items ≡ Ok (state t seen)

-- a closing of the innermost kind, and then what the rest does
closing_runs : (s base t : List Kind) (seen : Bool) (kind : Kind) (pre : List ℕ) (items : List PlainItem) (spans : List SourceSpan) (nests : List Kind → Type 0) → Closes s kind nests →
    deep_at (length (s ++ base) - 1) items spans ≡ None →
    ((outer : List Kind) → nests outer → deep_at (length (outer ++ base)) items spans ≡ None → Runs (outer ++ base) seen items (t ++ base)) →
    Runs (s ++ base) seen (Closing kind pre ∷ items) (t ++ base)
closing_runs [] base t seen kind pre items spans nests h d rest = absurd h
closing_runs (k ∷ outer) base t seen kind pre items spans nests h d rest =
    let depth : suc (length (outer ++ base)) - 1 ≡ length (outer ++ base) = omega arith in
    first_step (state (k ∷ (outer ++ base)) seen) (state (outer ++ base) seen) (state (t ++ base) seen) (Closing kind pre) items
    (closed_ok k kind (outer ++ base) seen h.0)
    (rest outer h.1 (ap (λ n. deep_at n items spans) (sym depth) ∙ d))

pub runs : (parent : Kind) (base : List Kind) (seen : Bool) → top base ≡ parent → (is_empty base && seen) ≡ false →
    (items : List PlainItem) (spans : List SourceSpan) (s t : List Kind) → Nests parent s items t → opening_count items ≤ length spans → deep_at (length (s ++ base)) items spans ≡ None →
    Runs (s ++ base) seen items (t ++ base)
runs parent base seen e o [] spans s t h c d = ap (λ x. Ok (state (x ++ base) seen)) h
runs parent base seen e o (Char ch marks ∷ items) spans s t h c d =
    first_step (state (s ++ base) seen) (state (s ++ base) seen) (state (t ++ base) seen) (Char ch marks) items
    (Char_ok (s ++ base) seen ch marks (ap is_content_branch (top_innermost parent s base e) ∙ h.0))
    (runs parent base seen e o items spans s t h.1 c d)
runs parent base seen e o (Opening kind head marks pre origin generated ∷ items) [] s t h c d = absurd (omega (arith, c))
runs parent base seen e o (Opening kind head marks pre origin generated ∷ items) (span ∷ spans) s t h c d =
    let deep = some_none (nat_lt (length (s ++ base)) 100) (deep_at (suc (length (s ++ base))) items spans) span.from d in
    first_step (state (s ++ base) seen) (state (kind ∷ (s ++ base)) seen) (state (t ++ base) seen) (Opening kind head marks pre origin generated) items
    (opened_ok (s ++ base) seen kind (ap (λ k. may_hold k kind) (top_innermost parent s base e) ∙ h.0) h.1 (not_over s base seen o) deep.0)
    (runs parent base seen e o items spans (kind ∷ s) t h.3 (omega (arith, c)) deep.1)
runs parent base seen e o (Closing kind pre ∷ items) spans s t h c d =
    closing_runs s base t seen kind pre items spans (λ outer. Nests parent outer items t) h d
    (λ outer g q. runs parent base seen e o items spans outer t g c q)

-- ---- the items of a page, and the internal list

after-with_origins : (items : List PlainItem) (k : ℕ) (s : State) → after s (with_origins k items) ≡ after s items
after-with_origins [] k s = refl
after-with_origins (Char c marks ∷ items) k s = (λ i. outcome_then 1 (step s (Char c marks)) (λ next. after-with_origins items k next i))
after-with_origins (Closing kind pre ∷ items) k s = (λ i. outcome_then 1 (step s (Closing kind pre)) (λ next. after-with_origins items k next i))
after-with_origins (Opening kind head marks pre origin generated ∷ items) k s =
    (λ i. outcome_then 1 (step s (Opening kind head marks pre origin generated)) (λ next. after-with_origins items (suc k) next i))

-- what stands in a flow parent nests there, with a span for each opening
pub flow_holds : (kind : Kind) → Sane (Flow kind) → (parts : Parts) (w : Progress) → Holds kind (in_flow kind parts w).later.items
flow_holds kind s parts w = (Meets-run_closed (Flow kind) s w (made_of (Flow kind) parts w) (Meets-made_of (Flow kind) s parts w)).later

pub flow_counted : (kind : Kind) (parts : Parts) (w : Progress) → opening_count (in_flow kind parts w).later.items ≡ length (in_flow kind parts w).later.spans
flow_counted kind parts w =
    let s = (Fine-run_closed w (made_of (Flow kind) parts w) (Fine-made_of (Flow kind) parts w)).later in
    ap opening_count s.items ∙ opening_count-plain s.nodes ∙ sym s.count

flow_runs : (kind : Kind) → Sane (Flow kind) → (base : List Kind) (seen : Bool) → top base ≡ kind → (is_empty base && seen) ≡ false → (parts : Parts) (w : Progress) →
    deep_at (length base) (in_flow kind parts w).later.items (in_flow kind parts w).later.spans ≡ None → Runs base seen (in_flow kind parts w).later.items base
flow_runs kind s base seen e o parts w d =
    runs kind base seen e o (in_flow kind parts w).later.items (in_flow kind parts w).later.spans [] [] (flow_holds kind s parts w) (let c = flow_counted kind parts w in omega (arith, c)) d

earlier_none : (a b : Option Limit) → earlier a b ≡ None → a ≡ None
earlier_none None b e = refl
earlier_none (Some a) None e = cc
earlier_none (Some a) (Some b) e = by (nat_lt (limit_at b) (limit_at a)) e
  where
    by : (c : Bool) → (if c then Some b else Some a) ≡ None → Some a ≡ None
    by true e = absurd (some_limit b e)
      where
        some_limit : (l : Limit) → ◌≡◌ {A = Option Limit} (Some l) None → ⊥
        some_limit l e = cc
    by false e = e

deep_none : (d : Option ℕ) → option_map (λ n. TooDeep n) d ≡ None → d ≡ None
deep_none None e = refl
deep_none (Some n) e = cc

limit_none : (depth : ℕ) (around : Around) (parts : Parts) (at : ℕ) (m : Made) → limit_of depth around parts at m ≡ None → deep_at depth m.later.items m.later.spans ≡ None
limit_none depth around parts at m e =
    deep_none (deep_at depth m.later.items m.later.spans)
    (earlier_none (option_map (λ n. TooDeep n) (deep_at depth m.later.items m.later.spans)) (option_map (λ n. TooManyMarks n) (marked_at around parts at)) e)

moved_none : (at : ℕ) (l : Option Limit) → option_map (moved_to at) l ≡ None → l ≡ None
moved_none at None e = refl
moved_none at (Some l) e = cc

or_none : (a : Option Limit) (b : Option Limit) → option_or a b ≡ None → (a ≡ None) × (b ≡ None)
or_none None b e = (refl, e)
or_none (Some l) b e = cc

abbrev item_stack : List Kind
item_stack = InternalItem ∷ InternalList ∷ []

abbrev list_stack : List Kind
list_stack = InternalList ∷ []

body_runs : (o : Owner) → body_limit o ≡ None → Runs list_stack true (internal_item o) list_stack
body_runs o e =
    let f : Forest = or_nothing (forest_of o.html) in
    let w : Progress = record { at = 0; owners = []; editable = false } in
    let d = limit_none 2 (Flow InternalItem) (parts_of f) 0 (body_made f) (moved_none o.at (limit_of 2 (Flow InternalItem) (parts_of f) 0 (body_made f)) e) in
    first_step (state list_stack true) (state item_stack true) (state list_stack true) (Opening InternalItem (item_head o.key) [] [] None false) ((body_made f).later.items ++ Closing InternalItem (body_made f).pre ∷ []) refl
    (after_whole (body_made f).later.items (Closing InternalItem (body_made f).pre ∷ []) (state item_stack true) (state item_stack true) (state list_stack true)
    (flow_runs InternalItem (refl, refl, refl, refl) item_stack true refl refl (parts_of f) w d) refl)

bodies_run : (owners : List Owner) → first_body_limit owners ≡ None → Runs list_stack true (flat_map internal_item owners) list_stack
bodies_run [] e = refl
bodies_run (o ∷ owners) e =
    let p = or_none (body_limit o) (first_body_limit owners) e in
    after_whole (internal_item o) (flat_map internal_item owners) (state list_stack true) (state list_stack true) (state list_stack true) (body_runs o p.0) (bodies_run owners p.1)

list_runs : (pre : List ℕ) (owners : List Owner) → first_body_limit owners ≡ None → after (state [] false) (internal_list pre owners) ≡ Ok finish
list_runs pre owners e =
    first_step (state [] false) (state list_stack true) finish (Opening InternalList empty_head [] pre None false) (flat_map internal_item owners ++ Closing InternalList [] ∷ []) refl
    (after_whole (flat_map internal_item owners) (Closing InternalList [] ∷ []) (state list_stack true) (state list_stack true) finish (bodies_run owners e) refl)

pub limited_is_lawful : LimitedIsLawful
limited_is_lawful at f e =
    let w : Progress = record { at = at; owners = []; editable = true } in
    let m : Made = page_made at f in
    let p = or_none (limit_of 0 (Flow Root) (parts_of f) at m) (first_body_limit m.owners) e in
    let d = limit_none 0 (Flow Root) (parts_of f) at m p.0 in
    Lawful_from_after (items_of_page m)
    (after_whole (with_origins 0 m.later.items) (internal_list m.pre m.owners) start start finish
    (after-with_origins m.later.items 0 start ∙ flow_runs Root (refl, refl, refl, refl) [] false refl refl (parts_of f) w d)
    (list_runs m.pre m.owners p.1))
