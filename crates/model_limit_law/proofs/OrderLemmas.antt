-- The first item over a limit, of pieces one after the other.
use Rattle.std.specs.Option.{option_or}
use Rattle.std.specs.Prelude.{nat_le, nat_lt, option_map}
use Rattle.std.proofs.Common.{◌≡◌, ◌<◌, ◌≤◌, ℕ, suc, ◌+◌, ◌-◌, Bool, true, false, if◌then◌else◌, List, [], ◌∷◌, ◌++◌, length, map, take, drop, Option, Some, None, refl, sym, ap, ◌∙◌, append_assoc, arith}
use Rattle.std.proofs.lemmas.Bool.{le-ltb, lt-ltb}
use Rattle.std.proofs.lemmas.List.{append-nil, length-drop, length-take-le, take-append-drop}
use Rattle.ve_base.specs.Limits.{max_marks, max_open_kinds}
use Rattle.ve_base.specs.declared.head.Head.{Head}
use Rattle.ve_base.specs.declared.marks.Mark.{Mark}
use Rattle.ve_kinds.specs.declared.kind.Kind.{Kind}
use Rattle.model_items.specs.declared.plain_item.PlainItem.{PlainItem}
use Rattle.model_items.specs.declared.plain_item.PlainItem.TheVariants.{Char, Closing, Opening}
use Rattle.model_page.specs.Limits.{Limit, TooDeep, TooManyMarks, deep_at}
use Rattle.model_page.specs.Pieces.{Piece, SourceSpan, chars_piece, items_after, joined_pieces, leaf, node}
use Rattle.model_page_write.specs.Nodes.{Empty, Letter, Node, Nodes}
use Rattle.model_page_law.proofs.ShapeLemmas as shape
use Rattle.model_page_law.proofs.ShapeLemmas.{Shaped, plain}
use Rattle.model_limit_law.specs.Items.{OfKinds, OfMarks, Which, first_over, which}
use Rattle.model_limit_law.proofs.FirstLemmas.{one_limit}

-- ---- options

pub which_assoc : {A : Type 0} (a b c : Option A) → option_or (option_or a b) c ≡ option_or a (option_or b c)
which_assoc None b c = refl
which_assoc (Some n) b c = refl

or_none : {A : Type 0} (a : Option A) → option_or a None ≡ a
or_none None = refl
or_none (Some n) = refl

less : (d : ℕ) → suc d - 1 ≡ d
less d = omega arith

-- ---- whole nodes, and what follows them

pub over_plain : (n : Nodes) (d : ℕ) (ys : List PlainItem) → first_over d (plain n ++ ys) ≡ option_or (first_over d (plain n)) (first_over d ys)
over_plain Empty d ys = refl
over_plain (Letter c marks later) d ys = by (nat_le (length marks) max_marks) (over_plain later d ys)
  where
    by : (b : Bool) → first_over d (plain later ++ ys) ≡ option_or (first_over d (plain later)) (first_over d ys) →
        (if b then first_over d (plain later ++ ys) else Some OfMarks) ≡ option_or (if b then first_over d (plain later) else Some OfMarks) (first_over d ys)
    by true e = e
    by false e = refl
over_plain (Node s inside pre later) d ys =
    by (nat_le (length s.marks) max_marks) (nat_lt d max_open_kinds) (
    ap (first_over (suc d)) (append_assoc (plain inside) (Closing s.kind pre ∷ plain later) ys)
    ∙ over_plain inside (suc d) (Closing s.kind pre ∷ (plain later ++ ys))
    ∙ ap (option_or (first_over (suc d) (plain inside))) (ap (λ n. first_over n (plain later ++ ys)) (less d) ∙ over_plain later d ys)
    ∙ sym (which_assoc (first_over (suc d) (plain inside)) (first_over d (plain later)) (first_over d ys))
    ∙ ap (λ o. option_or o (first_over d ys))
    (ap (option_or (first_over (suc d) (plain inside))) (ap (λ n. first_over n (plain later)) (sym (less d))) ∙ sym (over_plain inside (suc d) (Closing s.kind pre ∷ plain later)))
    )
  where
    by : (b c : Bool) →
        first_over (suc d) ((plain inside ++ Closing s.kind pre ∷ plain later) ++ ys) ≡ option_or (first_over (suc d) (plain inside ++ Closing s.kind pre ∷ plain later)) (first_over d ys) →
        (if b then (if c then first_over (suc d) ((plain inside ++ Closing s.kind pre ∷ plain later) ++ ys) else Some OfKinds) else Some OfMarks)
        ≡ option_or (if b then (if c then first_over (suc d) (plain inside ++ Closing s.kind pre ∷ plain later) else Some OfKinds) else Some OfMarks) (first_over d ys)
    by true true e = e
    by true false e = refl
    by false c e = refl

record Split (n m : ℕ) (spans : List SourceSpan) : Type 0 where
  before : List SourceSpan
  after : List SourceSpan
  whole : spans ≡ before ++ after
  first : length before ≡ n
  rest : length after ≡ m

split : (n m : ℕ) (spans : List SourceSpan) → length spans ≡ n + m → Split n m spans
split n m spans e =
    let l = length-drop n spans in
    record {
      before = take n spans;
      after = drop n spans;
      whole = sym (take-append-drop n spans);
      first = length-take-le n spans (omega (arith, e));
      rest = omega (arith, e, l);
    }

deep_plain : (n : Nodes) (d : ℕ) (spans more : List SourceSpan) (ys : List PlainItem) → length spans ≡ shape.openings n →
    deep_at d (plain n ++ ys) (spans ++ more) ≡ option_or (deep_at d (plain n) spans) (deep_at d ys more)
deep_plain Empty d [] more ys e = refl
deep_plain Empty d (span ∷ spans) more ys e = cc
deep_plain (Letter c marks later) d spans more ys e = deep_plain later d spans more ys e
deep_plain (Node s inside pre later) d [] more ys e = cc
deep_plain (Node s inside pre later) d (span ∷ spans) more ys e =
    let p = split (shape.openings inside) (shape.openings later) spans (omega (arith, e)) in
    by p (nat_lt d max_open_kinds) (
    ap (λ ss. deep_at (suc d) ((plain inside ++ Closing s.kind pre ∷ plain later) ++ ys) (ss ++ more)) p.whole
    ∙ (λ i. deep_at (suc d) (append_assoc (plain inside) (Closing s.kind pre ∷ plain later) ys i) (append_assoc p.before p.after more i))
    ∙ deep_plain inside (suc d) p.before (p.after ++ more) (Closing s.kind pre ∷ (plain later ++ ys)) p.first
    ∙ ap (option_or (deep_at (suc d) (plain inside) p.before)) (ap (λ n. deep_at n (plain later ++ ys) (p.after ++ more)) (less d) ∙ deep_plain later d p.after more ys p.rest)
    ∙ sym (which_assoc (deep_at (suc d) (plain inside) p.before) (deep_at d (plain later) p.after) (deep_at d ys more))
    ∙ ap (λ o. option_or o (deep_at d ys more)) (
    ap (option_or (deep_at (suc d) (plain inside) p.before)) (ap (λ n. deep_at n (plain later) p.after) (sym (less d)))
    ∙ sym (deep_plain inside (suc d) p.before p.after (Closing s.kind pre ∷ plain later) p.first)
    ∙ ap (deep_at (suc d) (plain inside ++ Closing s.kind pre ∷ plain later)) (sym p.whole)
    )
    )
  where
    by : Split (shape.openings inside) (shape.openings later) spans → (b : Bool) →
        deep_at (suc d) ((plain inside ++ Closing s.kind pre ∷ plain later) ++ ys) (spans ++ more)
        ≡ option_or (deep_at (suc d) (plain inside ++ Closing s.kind pre ∷ plain later) spans) (deep_at d ys more) →
        (if b then deep_at (suc d) ((plain inside ++ Closing s.kind pre ∷ plain later) ++ ys) (spans ++ more) else Some span.from)
        ≡ option_or (if b then deep_at (suc d) (plain inside ++ Closing s.kind pre ∷ plain later) spans else Some span.from) (deep_at d ys more)
    by p true e = e
    by p false e = refl

pub over_append : (d : ℕ) (a : Piece) (ys : List PlainItem) → Shaped a → first_over d (a.items ++ ys) ≡ option_or (first_over d a.items) (first_over d ys)
over_append d a ys s = ap (λ xs. first_over d (xs ++ ys)) s.items ∙ over_plain s.nodes d ys ∙ ap (λ xs. option_or (first_over d xs) (first_over d ys)) (sym s.items)

pub deep_append : (d : ℕ) (a : Piece) (ys : List PlainItem) (more : List SourceSpan) → Shaped a → deep_at d (a.items ++ ys) (a.spans ++ more) ≡ option_or (deep_at d a.items a.spans) (deep_at d ys more)
deep_append d a ys more s =
    ap (λ xs. deep_at d (xs ++ ys) (a.spans ++ more)) s.items
    ∙ deep_plain s.nodes d a.spans more ys s.count
    ∙ ap (λ xs. option_or (deep_at d xs a.spans) (deep_at d ys more)) (sym s.items)

-- whatever follows
pub over_kept : (d : ℕ) (xs ys : List PlainItem) (o : Which) → first_over d xs ≡ Some o → first_over d (xs ++ ys) ≡ Some o
over_kept d [] ys o e = cc
over_kept d (Char c marks ∷ xs) ys o e = by (nat_le (length marks) max_marks) e (over_kept d xs ys o)
  where
    by : (b : Bool) → (if b then first_over d xs else Some OfMarks) ≡ Some o → (first_over d xs ≡ Some o → first_over d (xs ++ ys) ≡ Some o) →
        (if b then first_over d (xs ++ ys) else Some OfMarks) ≡ Some o
    by true e rest = rest e
    by false e rest = e
over_kept d (Closing kind pre ∷ xs) ys o e = over_kept (d - 1) xs ys o e
over_kept d (Opening kind head marks pre origin generated ∷ xs) ys o e = by (nat_le (length marks) max_marks) (nat_lt d max_open_kinds) e (over_kept (suc d) xs ys o)
  where
    by : (b c : Bool) → (if b then (if c then first_over (suc d) xs else Some OfKinds) else Some OfMarks) ≡ Some o → (first_over (suc d) xs ≡ Some o → first_over (suc d) (xs ++ ys) ≡ Some o) →
        (if b then (if c then first_over (suc d) (xs ++ ys) else Some OfKinds) else Some OfMarks) ≡ Some o
    by true true e rest = rest e
    by true false e rest = e
    by false c e rest = e

over_after : (d : ℕ) (white : List ℕ) (items : List PlainItem) → first_over d (items_after white items) ≡ first_over d items
over_after d white [] = refl
over_after d white (Char c marks ∷ items) = refl
over_after d white (Opening kind head marks pre origin generated ∷ items) = refl
over_after d white (Closing kind pre ∷ items) = refl

deep_after : (d : ℕ) (white : List ℕ) (items : List PlainItem) (spans : List SourceSpan) → deep_at d (items_after white items) spans ≡ deep_at d items spans
deep_after d white [] spans = refl
deep_after d white (Char c marks ∷ items) spans = refl
deep_after d white (Opening kind head marks pre origin generated ∷ items) [] = refl
deep_after d white (Opening kind head marks pre origin generated ∷ items) (span ∷ spans) = refl
deep_after d white (Closing kind pre ∷ items) spans = refl

-- ---- which limit, where the first positions over them are these

-- that whichever of the two begins first is what the first item is over
abbrev pub Same : ℕ → Piece → Option ℕ → Type 0
Same d p marked = option_map which (one_limit (deep_at d p.items p.spans) marked) ≡ first_over d p.items

pub same_after : (d : ℕ) (white : List ℕ) (p : Piece) (marked : Option ℕ) → Same d p marked → Same d (record { items = items_after white p.items; spans = p.spans }) marked
same_after d white p marked h =
    ap (λ o. option_map which (one_limit o marked)) (deep_after d white p.items p.spans) ∙ h ∙ sym (over_after d white p.items)

pub which_or : (a b : Option Limit) → option_map which (option_or a b) ≡ option_or (option_map which a) (option_map which b)
which_or None b = refl
which_or (Some l) b = refl

abbrev pub From : ℕ → Option ℕ → Type 0
From low o = (n : ℕ) → o ≡ Some n → low ≤ n

abbrev pub UpTo : ℕ → Option ℕ → Type 0
UpTo high o = (n : ℕ) → o ≡ Some n → n ≤ high

abbrev pub Below : ℕ → Option ℕ → Type 0
Below high o = (n : ℕ) → o ≡ Some n → n < high

-- what is before a position, and what is after it
parted : (mid : ℕ) (a m b n : Option ℕ) → UpTo mid a → Below mid m → From mid b → From mid n → one_limit (option_or a b) (option_or m n) ≡ option_or (one_limit a m) (one_limit b n)
parted mid (Some x) (Some y) b n ua um fb fn = by (nat_lt y x)
  where
    by : (c : Bool) → (if c then Some (TooManyMarks y) else Some (TooDeep x)) ≡ option_or (if c then Some (TooManyMarks y) else Some (TooDeep x)) (one_limit b n)
    by true = refl
    by false = refl
parted mid (Some x) None b None ua um fb fn = refl
parted mid (Some x) None b (Some z) ua um fb fn =
    ap (λ c. if c then Some (TooManyMarks z) else Some (TooDeep x)) (le-ltb z x (let low = ua x refl in let high = fn z refl in omega (arith, low, high)))
parted mid None (Some y) None n ua um fb fn = refl
parted mid None (Some y) (Some z) n ua um fb fn =
    ap (λ c. if c then Some (TooManyMarks y) else Some (TooDeep z)) (lt-ltb y z (let low = um y refl in let high = fb z refl in omega (arith, low, high)))
parted mid None None b n ua um fb fn = refl

pub same_joined : (d mid : ℕ) (a b : Piece) (m n : Option ℕ) → Shaped a → UpTo mid (deep_at d a.items a.spans) → Below mid m → From mid (deep_at d b.items b.spans) → From mid n →
    Same d a m → Same d b n → Same d (joined_pieces a b) (option_or m n)
same_joined d mid a b m n s ua um fb fn g h =
    ap (λ o. option_map which (one_limit o (option_or m n))) (deep_append d a b.items b.spans s)
    ∙ ap (option_map which) (parted mid (deep_at d a.items a.spans) m (deep_at d b.items b.spans) n ua um fb fn)
    ∙ which_or (one_limit (deep_at d a.items a.spans) m) (one_limit (deep_at d b.items b.spans) n)
    ∙ (λ i. option_or (g i) (h i))
    ∙ sym (over_append d a b.items s)

-- ---- nodes and characters

deep_before : (from : ℕ) (marked : Option ℕ) → From from marked → option_map which (one_limit (Some from) marked) ≡ Some OfKinds
deep_before from None f = refl
deep_before from (Some n) f = ap (λ c. option_map which (if c then Some (TooManyMarks n) else Some (TooDeep from))) (le-ltb n from (f n refl))

pub same_node : (d : ℕ) (kind : Kind) (head : Head) (generated : Bool) (span : SourceSpan) (inside : Piece) (pre : List ℕ) (marked : Option ℕ) → Shaped inside → From span.from marked → Same (suc d) inside marked →
    Same d (node kind head [] generated span inside pre) marked
same_node d kind head generated span inside pre marked s f h =
    by (nat_lt d max_open_kinds)
    (ap (deep_at (suc d) (inside.items ++ Closing kind pre ∷ [])) (sym (append-nil inside.spans)) ∙ deep_append (suc d) inside (Closing kind pre ∷ []) [] s ∙ or_none (deep_at (suc d) inside.items inside.spans))
    (over_append (suc d) inside (Closing kind pre ∷ []) s ∙ or_none (first_over (suc d) inside.items))
  where
    by : (b : Bool) → deep_at (suc d) (inside.items ++ Closing kind pre ∷ []) inside.spans ≡ deep_at (suc d) inside.items inside.spans →
        first_over (suc d) (inside.items ++ Closing kind pre ∷ []) ≡ first_over (suc d) inside.items →
        option_map which (one_limit (if b then deep_at (suc d) (inside.items ++ Closing kind pre ∷ []) inside.spans else Some span.from) marked)
        ≡ (if b then first_over (suc d) (inside.items ++ Closing kind pre ∷ []) else Some OfKinds)
    by true e g = ap (λ o. option_map which (one_limit o marked)) e ∙ h ∙ sym g
    by false e g = deep_before span.from marked f

pub same_leaf : (d : ℕ) (kind : Kind) (head : Head) (marks : List Mark) (span : SourceSpan) → nat_le (length marks) max_marks ≡ true → Same d (leaf kind head marks span) None
same_leaf d kind head marks span few =
    by (nat_lt d max_open_kinds) ∙ ap (λ b. if b then (if nat_lt d max_open_kinds then None else Some OfKinds) else Some OfMarks) (sym few)
  where
    by : (b : Bool) → option_map which (one_limit (if b then None else Some span.from) None) ≡ (if b then None else Some OfKinds)
    by true = refl
    by false = refl

pub same_chars : (d : ℕ) (marks : List Mark) (text : List ℕ) → nat_le (length marks) max_marks ≡ true → Same d (chars_piece marks text) None
same_chars d marks text few = ap (λ o. option_map which (one_limit o None)) (deep text) ∙ sym (over text)
  where
    deep : (cs : List ℕ) → deep_at d (map (λ c. Char c marks) cs) [] ≡ None
    deep [] = refl
    deep (c ∷ cs) = deep cs

    over : (cs : List ℕ) → first_over d (map (λ c. Char c marks) cs) ≡ None
    over [] = refl
    over (c ∷ cs) = ap (λ b. if b then first_over d (map (λ c. Char c marks) cs) else Some OfMarks) few ∙ over cs
