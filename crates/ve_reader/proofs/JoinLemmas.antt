-- Pieces that are read one after the other.
use Rattle.std.proofs.Common.{◌≡◌, ℕ, zero, suc, ◌+◌, ◌-◌, take, Bool, true, false, List, [], ◌∷◌, ◌++◌, length, Option, Some, None, refl, sym, ap, ◌∙◌, append_assoc, append-nil, length-append, true≢false, arith, if◌then◌else◌}
use Rattle.std.proofs.lemmas.List.{map-append, length-map}
use Rattle.std.specs.Prelude.{option_map, nat_lt}
use Rattle.std.specs.Option.{option_or}
use Rattle.ve_base.specs.Limits.{max_open_kinds}
use Rattle.ve_base.specs.declared.head.Head.{Head}
use Rattle.ve_base.specs.declared.marks.Mark.{Mark}
use Rattle.ve_kinds.specs.declared.kind.Kind.{Kind}
use Rattle.model_items.specs.declared.plain_item.PlainItem.{PlainItem}
use Rattle.model_items.specs.declared.plain_item.PlainItem.TheVariants.{Char, Opening, Closing}
use Rattle.model_items.specs.Tree.{length_to_close}
use Rattle.model_page.specs.Pieces.{SourceSpan, Piece, Owner, joined_pieces, node}
use Rattle.model_page.specs.PageItems.{with_origins}
use Rattle.model_page.specs.Fragment.{item_unmade}
use Rattle.model_page.specs.Limits.{deep_at}
use Rattle.ve_origin.specs.declared.origin.OriginRow.{OriginRow}
use Rattle.ve_reader.specs.declared.purpose.Purpose.{Purpose}
use Rattle.ve_reader.specs.declared.purpose.Purpose.TheVariants as purpose
use Rattle.ve_reader.specs.ReadSoFar.{ReadSoFar, items_here, node_rows, shown_rows, with_piece, piece_after, opening_piece, closing_piece, with_opening, node_opened, next_origin, row_ended, rows_ended, with_closing}
use Rattle.ve_reader.specs.Stops.{depth_limit, deep_in}
use Rattle.ve_reader.specs.Laws.{openings, is_closed, IsEven, PiecesJoin, NodesJoin, MarksAreLeft, DepthsJoin, NodeDepths}

-- ---- origins

pub with_origins-append : (k : ℕ) (xs ys : List PlainItem) → with_origins k (xs ++ ys) ≡ with_origins k xs ++ with_origins (k + openings xs) ys
with_origins-append k [] ys = ap (λ m. with_origins m ys) (omega arith)
with_origins-append k (Char c marks ∷ xs) ys = ap (λ zs. Char c marks ∷ zs) (with_origins-append k xs ys)
with_origins-append k (Closing kind pre ∷ xs) ys = ap (λ zs. Closing kind pre ∷ zs) (with_origins-append k xs ys)
with_origins-append k (Opening kind head marks pre origin generated ∷ xs) ys =
    ap (λ zs. Opening kind head marks pre (Some k) generated ∷ zs) (with_origins-append (suc k) xs ys ∙ ap (λ m. with_origins (suc k) xs ++ with_origins m ys) (omega arith))

length-with_origins : (k : ℕ) (xs : List PlainItem) → length (with_origins k xs) ≡ length xs
length-with_origins k [] = refl
length-with_origins k (Char c marks ∷ xs) = ap suc (length-with_origins k xs)
length-with_origins k (Closing kind pre ∷ xs) = ap suc (length-with_origins k xs)
length-with_origins k (Opening kind head marks pre origin generated ∷ xs) = ap suc (length-with_origins (suc k) xs)

shown-append : (p : Purpose) (k : ℕ) (xs ys : List PlainItem) → items_here p k (xs ++ ys) ≡ items_here p k xs ++ items_here p (k + openings xs) ys
shown-append purpose.Page k xs ys = with_origins-append k xs ys
shown-append purpose.Body k xs ys = refl
shown-append purpose.Fragment k xs ys = map-append item_unmade xs ys

length-shown : (p : Purpose) (k : ℕ) (xs : List PlainItem) → length (items_here p k xs) ≡ length xs
length-shown purpose.Page k xs = length-with_origins k xs
length-shown purpose.Body k xs = refl
length-shown purpose.Fragment k xs = length-map xs item_unmade

-- ---- rows

length-node_rows : (at : ℕ) (items : List PlainItem) (spans : List SourceSpan) → length spans ≡ openings items → length (node_rows at items spans) ≡ openings items
length-node_rows at [] spans e = refl
length-node_rows at (Char c marks ∷ items) spans e = length-node_rows (suc at) items spans e
length-node_rows at (Closing kind pre ∷ items) spans e = length-node_rows (suc at) items spans e
length-node_rows at (Opening kind head marks pre origin generated ∷ items) [] e = absurd (omega (arith, e))
length-node_rows at (Opening kind head marks pre origin generated ∷ items) (span ∷ spans) e = ap suc (length-node_rows (suc at) items spans (omega (arith, e)))

-- the next number, where it is asked for
shown-count : (p : Purpose) (rows : List OriginRow) (at : ℕ) (piece : Piece) (xs : List PlainItem) → length piece.spans ≡ openings piece.items
    → items_here p (length rows + openings piece.items) xs ≡ items_here p (length (rows ++ shown_rows p at piece)) xs
shown-count purpose.Page rows at piece xs e =
    ap (λ k. with_origins k xs) (omega (arith, length-append rows (node_rows at piece.items piece.spans), length-node_rows at piece.items piece.spans e))
shown-count purpose.Body rows at piece xs e = refl
shown-count purpose.Fragment rows at piece xs e = refl

-- where all nodes that are open are closed, the inner ones are
closes_inside : (j n m : ℕ) (xs ys : List PlainItem) → m ≡ suc (j + n) → is_closed m xs ≡ true → length_to_close j (xs ++ ys) ≡ length_to_close j xs
closes_inside j n zero [] ys e h = absurd (omega (arith, e))
closes_inside j n (suc m) [] ys e h = absurd (true≢false (sym h))
closes_inside j n m (Char c marks ∷ xs) ys e h = ap suc (closes_inside j n m xs ys e h)
closes_inside j n m (Opening kind head marks pre origin generated ∷ xs) ys e h = ap suc (closes_inside (suc j) n (suc m) xs ys (omega (arith, e)) h)
closes_inside j n zero (Closing kind pre ∷ xs) ys e h = absurd (true≢false (sym h))
closes_inside zero n (suc m) (Closing kind pre ∷ xs) ys e h = refl
closes_inside (suc j) n (suc m) (Closing kind pre ∷ xs) ys e h = ap suc (closes_inside j n m xs ys (omega (arith, e)) h)

-- the closing that comes next
to_closing : (j : ℕ) (xs : List PlainItem) (kind : Kind) (pre : List ℕ) (ys : List PlainItem) → is_closed j xs ≡ true → length_to_close j (xs ++ Closing kind pre ∷ ys) ≡ suc (length xs)
to_closing zero [] kind pre ys h = refl
to_closing (suc j) [] kind pre ys h = absurd (true≢false (sym h))
to_closing j (Char c marks ∷ xs) kind pre ys h = ap suc (to_closing j xs kind pre ys h)
to_closing j (Opening k head marks white origin generated ∷ xs) kind pre ys h = ap suc (to_closing (suc j) xs kind pre ys h)
to_closing zero (Closing k white ∷ xs) kind pre ys h = absurd (true≢false (sym h))
to_closing (suc j) (Closing k white ∷ xs) kind pre ys h = ap suc (to_closing j xs kind pre ys h)

node_rows-append : (n at : ℕ) (xs ys : List PlainItem) (s t : List SourceSpan) → is_closed n xs ≡ true → length s ≡ openings xs
    → node_rows at (xs ++ ys) (s ++ t) ≡ node_rows at xs s ++ node_rows (at + length xs) ys t
node_rows-append n at [] ys [] t h e = ap (λ m. node_rows m ys t) (omega arith)
node_rows-append n at [] ys (span ∷ s) t h e = absurd (omega (arith, e))
node_rows-append n at (Char c marks ∷ xs) ys s t h e =
    node_rows-append n (suc at) xs ys s t h e ∙ ap (λ m. node_rows (suc at) xs s ++ node_rows m ys t) (omega arith)
node_rows-append zero at (Closing kind pre ∷ xs) ys s t h e = absurd (true≢false (sym h))
node_rows-append (suc n) at (Closing kind pre ∷ xs) ys s t h e =
    node_rows-append n (suc at) xs ys s t h e ∙ ap (λ m. node_rows (suc at) xs s ++ node_rows m ys t) (omega arith)
node_rows-append n at (Opening kind head marks pre origin generated ∷ xs) ys [] t h e = absurd (omega (arith, e))
node_rows-append n at (Opening kind head marks pre origin generated ∷ xs) ys (span ∷ s) t h e =
    ap (λ l. record { span = record { from = span.from; to = span.to }; from = at; to = suc (at + l) } ∷ node_rows (suc at) (xs ++ ys) (s ++ t))
    (closes_inside 0 n (suc n) xs ys (omega arith) h)
    ∙ ap (λ rows. record { span = record { from = span.from; to = span.to }; from = at; to = suc (at + length_to_close 0 xs) } ∷ rows)
    (node_rows-append (suc n) (suc at) xs ys s t h (omega (arith, e)) ∙ ap (λ m. node_rows (suc at) xs s ++ node_rows m ys t) (omega arith))

shown_rows-append : (p : Purpose) (at : ℕ) (a b : Piece) → IsEven a → shown_rows p at (joined_pieces a b) ≡ shown_rows p at a ++ shown_rows p (at + length a.items) b
shown_rows-append purpose.Page at a b e = node_rows-append 0 at a.items b.items a.spans b.spans e.closed e.spans
shown_rows-append purpose.Body at a b e = refl
shown_rows-append purpose.Fragment at a b e = refl

row_ended-append : (rows : List OriginRow) (row : OriginRow) (more : List OriginRow) (to : ℕ) → row_ended (length rows) to (rows ++ row ∷ more) ≡ rows ++ record { span = row.span; from = row.from; to = to } ∷ more
row_ended-append [] row more to = refl
row_ended-append (r ∷ rows) row more to = ap (λ rs. r ∷ rs) (row_ended-append rows row more to)

-- ---- one piece after the other

pub pieces_join : PiecesJoin
pieces_join a b x y r even =
    let k : ℕ = length r.rows in
    let at : ℕ = length r.items in
    let first : ReadSoFar = with_piece a x r in
    let counted = ap (λ ys. items_here r.purpose k a.items ++ ys) (shown-count r.purpose r.rows at a b.items even.spans) in
    let items = ap (λ xs. r.items ++ xs) (shown-append r.purpose k a.items b.items ∙ counted) ∙ sym (append_assoc r.items (items_here r.purpose k a.items) (items_here r.purpose (length first.rows) b.items)) in
    let at_b : at + length a.items ≡ length first.items = omega (arith, length-append r.items (items_here r.purpose k a.items), length-shown r.purpose k a.items) in
    let rows =
    ap (λ xs. r.rows ++ xs) (shown_rows-append r.purpose at a b even ∙ ap (λ m. shown_rows r.purpose at a ++ shown_rows r.purpose m b) at_b)
    ∙ sym (append_assoc r.rows (shown_rows r.purpose at a) (shown_rows r.purpose (length first.items) b)) in
    let owners = sym (append_assoc r.owners x y) in
    λ j. record { purpose = r.purpose; depth = r.depth; items = items j; marks = r.marks; rows = rows j; owners = owners j }

-- ---- a node

abbrev node_piece : Kind → Head → List ℕ → Bool → SourceSpan → Piece → List ℕ → Piece
node_piece kind head white generated span inside pre =
    record { items = Opening kind head [] white None generated ∷ inside.items ++ Closing kind pre ∷ []; spans = span ∷ inside.spans }

-- its items: the opening's, what is in it, and the closing's
node_shown : (r : ReadSoFar) (kind : Kind) (head : Head) (white : List ℕ) (generated : Bool) (span : SourceSpan) (inside : Piece) (pre : List ℕ) (owners : List Owner) → IsEven inside
    → (with_piece (node_piece kind head white generated span inside pre) owners r).items
    ≡ (with_closing (node_opened kind r) pre (with_piece inside owners (with_opening kind head white generated span r))).items
node_shown r kind head white generated span inside pre owners even =
    let p : Purpose = r.purpose in
    let k : ℕ = length r.rows in
    let opened : ReadSoFar = with_opening kind head white generated span r in
    let filled : ReadSoFar = with_piece inside owners opened in
    let opening : Piece = opening_piece kind head white generated span in
    let closing : List PlainItem = Closing kind pre ∷ [] in
    let one = shown-append p k opening.items (inside.items ++ closing) in
    let two = shown-count p r.rows (length r.items) opening (inside.items ++ closing) refl in
    let three = shown-append p (length opened.rows) inside.items closing in
    let four = shown-count p opened.rows (length opened.items) inside closing even.spans in
    let a : List PlainItem = items_here p k opening.items in
    let b : List PlainItem = items_here p (length opened.rows) inside.items in
    let c : List PlainItem = items_here p (length filled.rows) closing in
    ap (λ xs. r.items ++ xs) (one ∙ ap (λ xs. a ++ xs) (two ∙ three ∙ ap (λ xs. b ++ xs) four))
    ∙ sym (append_assoc r.items a (b ++ c))
    ∙ sym (append_assoc (r.items ++ a) b c)

-- its row, where it ends with the closing
rows_shown : (p : Purpose) (at : ℕ) (rows : List OriginRow) (kind : Kind) (head : Head) (white : List ℕ) (generated : Bool) (span : SourceSpan) (inside : Piece) (pre : List ℕ) (opened filled : ℕ)
    → IsEven inside → opened ≡ suc at → filled ≡ suc at + length inside.items
    → rows ++ shown_rows p at (node_piece kind head white generated span inside pre)
    ≡ rows_ended (next_origin p (length rows)) (suc filled) (((rows ++ shown_rows p at (opening_piece kind head white generated span)) ++ shown_rows p opened inside) ++ shown_rows p filled (closing_piece kind pre))
rows_shown purpose.Page at rows kind head white generated span inside pre opened filled even o f =
    let row : ℕ → OriginRow = λ to. record { span = record { from = span.from; to = span.to }; from = at; to = to } in
    let first : OriginRow = row (suc (at + 0)) in
    let inner : List OriginRow = node_rows (suc at) inside.items inside.spans in
    let later = ap (λ s. node_rows (suc at) (inside.items ++ Closing kind pre ∷ []) s) (sym (append-nil inside.spans))
    ∙ node_rows-append 0 (suc at) inside.items (Closing kind pre ∷ []) inside.spans [] even.closed even.spans ∙ append-nil inner in
    let closing : suc (at + length_to_close 0 (inside.items ++ Closing kind pre ∷ [])) ≡ suc filled = omega (arith, to_closing 0 inside.items kind pre [] even.closed, f) in
    let grouped = append-nil ((rows ++ first ∷ []) ++ node_rows opened inside.items inside.spans)
    ∙ ap (λ m. (rows ++ first ∷ []) ++ node_rows m inside.items inside.spans) o ∙ append_assoc rows (first ∷ []) inner in
    ap (λ rs. rows ++ row (suc (at + length_to_close 0 (inside.items ++ Closing kind pre ∷ []))) ∷ rs) later
    ∙ ap (λ to. rows ++ row to ∷ inner) closing
    ∙ sym (row_ended-append rows first inner (suc filled))
    ∙ ap (row_ended (length rows) (suc filled)) (sym grouped)
rows_shown purpose.Body at rows kind head white generated span inside pre opened filled even o f = sym (append-nil ((rows ++ []) ++ []) ∙ append-nil (rows ++ []))
rows_shown purpose.Fragment at rows kind head white generated span inside pre opened filled even o f = sym (append-nil ((rows ++ []) ++ []) ∙ append-nil (rows ++ []))

node_joins : (kind : Kind) (head : Head) (white : List ℕ) (generated : Bool) (span : SourceSpan) (inside : Piece) (pre : List ℕ) (owners : List Owner) (r : ReadSoFar) → IsEven inside
    → with_piece (node_piece kind head white generated span inside pre) owners r
    ≡ with_closing (node_opened kind r) pre (with_piece inside owners (with_opening kind head white generated span r))
node_joins kind head white generated span inside pre owners r even =
    let opened : ReadSoFar = with_opening kind head white generated span r in
    let filled : ReadSoFar = with_piece inside owners opened in
    let opening : List PlainItem = Opening kind head [] white None generated ∷ [] in
    let at_inside : length opened.items ≡ suc (length r.items) =
    omega (arith, length-append r.items (items_here r.purpose (length r.rows) opening), length-shown r.purpose (length r.rows) opening) in
    let at_closing : length filled.items ≡ suc (length r.items) + length inside.items =
    omega (arith, length-append opened.items (items_here r.purpose (length opened.rows) inside.items), length-shown r.purpose (length opened.rows) inside.items, at_inside) in
    let items = node_shown r kind head white generated span inside pre owners even in
    let rows = rows_shown r.purpose (length r.items) r.rows kind head white generated span inside pre (length opened.items) (length filled.items) even at_inside at_closing in
    let owned = sym (append-nil ((r.owners ++ []) ++ owners) ∙ ap (λ os. os ++ owners) (append-nil r.owners)) in
    let depth : r.depth ≡ suc r.depth - 1 = omega arith in
    λ j. record { purpose = r.purpose; depth = depth j; items = items j; marks = r.marks; rows = rows j; owners = owned j }

-- whitespace before a node
white_before : (kind : Kind) (head : Head) (white : List ℕ) (generated : Bool) (span : SourceSpan) (inside : Piece) (pre : List ℕ)
    → piece_after white (node kind head [] generated span inside pre) ≡ node_piece kind head white generated span inside pre
white_before kind head white generated span inside pre = ap (λ w. node_piece kind head w generated span inside pre) (append-nil white)

pub nodes_join : NodesJoin
nodes_join kind head white generated span inside pre owners r even =
    ap (λ piece. with_piece piece owners r) (white_before kind head white generated span inside pre)
    ∙ node_joins kind head white generated span inside pre owners r even

-- ---- marks

all_but_last : (ms : List Mark) (m : Mark) (n : ℕ) → n ≡ length ms → take n (ms ++ m ∷ []) ≡ ms
all_but_last [] m n e = ap (λ k. take k (m ∷ [])) e
all_but_last (x ∷ ms) m zero e = absurd (omega (arith, e))
all_but_last (x ∷ ms) m (suc n) e = ap (λ xs. x ∷ xs) (all_but_last ms m n (omega (arith, e)))

pub marks_are_left : MarksAreLeft
marks_are_left mark piece owners r =
    let now : ReadSoFar = with_piece piece owners r in
    let marks = all_but_last r.marks mark (length (r.marks ++ mark ∷ []) - 1) (omega (arith, length-append r.marks (mark ∷ []))) in
    λ j. record { purpose = now.purpose; depth = now.depth; items = now.items; marks = marks j; rows = now.rows; owners = now.owners }

-- ---- limits

chosen_or : {A : Type 0} (c : Bool) (x y z : Option A) (a : A) → x ≡ option_or y z → (if c then x else Some a) ≡ option_or (if c then y else Some a) z
chosen_or true x y z a h = h
chosen_or false x y z a h = refl

deep-append : (n d m : ℕ) (xs ys : List PlainItem) (s t : List SourceSpan) → m ≡ n + d → is_closed n xs ≡ true → length s ≡ openings xs
    → deep_at m (xs ++ ys) (s ++ t) ≡ option_or (deep_at m xs s) (deep_at d ys t)
deep-append zero d m [] ys [] t e h c = ap (λ z. deep_at z ys t) (omega (arith, e))
deep-append (suc n) d m [] ys [] t e h c = absurd (true≢false (sym h))
deep-append n d m [] ys (span ∷ s) t e h c = absurd (omega (arith, c))
deep-append n d m (Char ch marks ∷ xs) ys s t e h c = deep-append n d m xs ys s t e h c
deep-append zero d m (Closing kind pre ∷ xs) ys s t e h c = absurd (true≢false (sym h))
deep-append (suc n) d m (Closing kind pre ∷ xs) ys s t e h c = deep-append n d (m - 1) xs ys s t (omega (arith, e)) h c
deep-append n d m (Opening kind head marks pre origin generated ∷ xs) ys [] t e h c = absurd (omega (arith, c))
deep-append n d m (Opening kind head marks pre origin generated ∷ xs) ys (span ∷ s) t e h c =
    chosen_or (nat_lt m max_open_kinds) _ (deep_at (suc m) xs s) (deep_at d ys t) span.from (deep-append (suc n) d (suc m) xs ys s t (omega (arith, e)) h (omega (arith, c)))

option_map-or : {A B : Type 0} (f : A → B) (x y : Option A) → option_map f (option_or x y) ≡ option_or (option_map f x) (option_map f y)
option_map-or f (Some a) y = refl
option_map-or f None y = refl

limit-append : (p : Purpose) (d : ℕ) (a b : Piece) → IsEven a → depth_limit p d (joined_pieces a b) ≡ option_or (depth_limit p d a) (depth_limit p d b)
limit-append purpose.Page d a b e =
    ap (option_map _) (deep-append 0 d d a.items b.items a.spans b.spans (omega arith) e.closed e.spans) ∙ option_map-or _ (deep_at d a.items a.spans) (deep_at d b.items b.spans)
limit-append purpose.Body d a b e =
    ap (option_map _) (deep-append 0 d d a.items b.items a.spans b.spans (omega arith) e.closed e.spans) ∙ option_map-or _ (deep_at d a.items a.spans) (deep_at d b.items b.spans)
limit-append purpose.Fragment d a b e = refl

pub depths_join : DepthsJoin
depths_join a b x r e = limit-append r.purpose r.depth a b e

or_none : {A : Type 0} (x : Option A) → option_or x None ≡ x
or_none (Some a) = refl
or_none None = refl

deep-inside : (d : ℕ) (kind : Kind) (inside : Piece) (pre : List ℕ) → IsEven inside
    → deep_at d (inside.items ++ Closing kind pre ∷ []) inside.spans ≡ deep_at d inside.items inside.spans
deep-inside d kind inside pre even =
    ap (λ s. deep_at d (inside.items ++ Closing kind pre ∷ []) s) (sym (append-nil inside.spans))
    ∙ deep-append 0 d d inside.items (Closing kind pre ∷ []) inside.spans [] (omega arith) even.closed even.spans
    ∙ or_none (deep_at d inside.items inside.spans)

chosen_none : {A : Type 0} (c : Bool) (x y : Option A) (a : A) → x ≡ y → (if c then x else Some a) ≡ option_or (if c then None else Some a) y
chosen_none true x y a h = h
chosen_none false x y a h = refl

deep-node : (d : ℕ) (kind : Kind) (head : Head) (white : List ℕ) (generated : Bool) (span : SourceSpan) (inside : Piece) (pre : List ℕ) → IsEven inside
    → deep_at d (node_piece kind head white generated span inside pre).items (node_piece kind head white generated span inside pre).spans
    ≡ option_or (deep_at d (Opening kind head [] white None generated ∷ []) (span ∷ [])) (deep_at (suc d) inside.items inside.spans)
deep-node d kind head white generated span inside pre even =
    chosen_none (nat_lt d max_open_kinds) _ (deep_at (suc d) inside.items inside.spans) span.from (deep-inside (suc d) kind inside pre even)

limit-node : (p : Purpose) (d : ℕ) (kind : Kind) (head : Head) (white : List ℕ) (generated : Bool) (span : SourceSpan) (inside : Piece) (pre : List ℕ) → IsEven inside
    → depth_limit p d (node_piece kind head white generated span inside pre)
    ≡ option_or (depth_limit p d (opening_piece kind head white generated span)) (depth_limit p (suc d) inside)
limit-node purpose.Page d kind head white generated span inside pre even =
    ap (option_map _) (deep-node d kind head white generated span inside pre even)
    ∙ option_map-or _ (deep_at d (Opening kind head [] white None generated ∷ []) (span ∷ [])) (deep_at (suc d) inside.items inside.spans)
limit-node purpose.Body d kind head white generated span inside pre even =
    ap (option_map _) (deep-node d kind head white generated span inside pre even)
    ∙ option_map-or _ (deep_at d (Opening kind head [] white None generated ∷ []) (span ∷ [])) (deep_at (suc d) inside.items inside.spans)
limit-node purpose.Fragment d kind head white generated span inside pre even = refl

pub node_depths : NodeDepths
node_depths kind head white generated span inside pre r even =
    ap (deep_in r) (white_before kind head white generated span inside pre) ∙ limit-node r.purpose r.depth kind head white generated span inside pre even
