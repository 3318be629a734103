-- Where the nodes of the origins stand in the list of an opened page.
use Rattle.std.proofs.Common.{◌≡◌, ℕ, zero, suc, ◌+◌, ◌-◌, ◌<◌, ◌≤◌, Bool, true, false, List, [], ◌∷◌, ◌++◌, length, Option, Some, None, Result, Ok, Err, refl, sym, ap, ◌∙◌, subst, append_assoc, append-nil, length-append, arith}
use Rattle.std.specs.Prelude.{nat_lt, unwrap_or}
use Rattle.model_spelling.specs.declared.scan_fault.ScanFault.{ScanFault}
use Rattle.model_spelling.specs.Forest.{Forest}
use Rattle.model_spelling.specs.Page.{body_at}
use Rattle.model_spelling.specs.Parsed.{forest_of}
use Rattle.ve_kinds.specs.declared.kind.Kind.TheVariants.{Root}
use Rattle.model_items.specs.declared.plain_item.PlainItem.{PlainItem}
use Rattle.model_items.specs.declared.plain_item.PlainItem.TheVariants.{Char, Opening, Closing}
use Rattle.model_page.specs.References.{inside_from}
use Rattle.model_page.specs.Parts.{parts_of}
use Rattle.model_page.specs.Fit.{Flow}
use Rattle.model_page.specs.Pieces.{Made, Progress}
use Rattle.model_page.specs.Convert.{made_of}
use Rattle.model_page.specs.PageItems.{with_origins, internal_list, page_made, items_of_page, slice, Opened, page_opened, opened_forest, opened_body}
use Rattle.model_page_write.specs.Nodes.{Nodes, Empty, Letter, Node}
use Rattle.model_page_law.specs.Spans.{NodeAt, OriginsStand}
use Rattle.model_page_law.proofs.ShapeLemmas.{plain, openings, Fine-run_closed, Fine-made_of}
use Rattle.model_page_law.proofs.PlaceLemmas.{numbered_nodes, with_origins-nodes}

-- ---- what is inside of a node ends with its closing

-- with these items before
abbrev led : List PlainItem → List PlainItem × List ℕ → List PlainItem × List ℕ
led items r = (items ++ r.0, r.1)

inside-plain : (n : Nodes) (depth : ℕ) (rest : List PlainItem) → inside_from depth (plain n ++ rest) ≡ led (plain n) (inside_from depth rest)
inside-plain Empty depth rest = refl
inside-plain (Letter c marks later) depth rest = ap (led (Char c marks ∷ [])) (inside-plain later depth rest)
inside-plain (Node s inside pre later) depth rest =
    let opening : PlainItem = Opening s.kind s.head s.marks s.pre s.origin s.generated in
    let closing : PlainItem = Closing s.kind pre in
    let r : List PlainItem × List ℕ = inside_from depth rest in
    ap (λ xs. led (opening ∷ []) (inside_from (suc depth) xs)) (append_assoc (plain inside) (closing ∷ plain later) rest)
    ∙ ap (led (opening ∷ [])) (inside-plain inside (suc depth) (closing ∷ plain later ++ rest))
    ∙ ap (λ x. led (opening ∷ []) (led (plain inside) (led (closing ∷ []) x))) (inside-plain later depth rest)
    ∙ ap (λ xs. (opening ∷ xs, r.1)) (sym (append_assoc (plain inside) (closing ∷ plain later) r.0))

-- ---- the node of a number

below : (i n : ℕ) → nat_lt i n ≡ true → i < n
below i n e = grind arith

not_below : (i n : ℕ) → nat_lt i n ≡ false → n ≤ i
not_below i n e = grind arith

abbrev Stands : List PlainItem → ℕ → Type 0
Stands items k = (from : ℕ) × (to : ℕ) × NodeAt items k from to

stands-later : (prefix items : List PlainItem) (k : ℕ) → Stands items k → Stands (prefix ++ items) k
stands-later prefix items k s =
    let n = s.2 in (
      length prefix + s.0,
      length prefix + s.1,
      record {
        before = prefix ++ n.before;
        kind = n.kind;
        head = n.head;
        marks = n.marks;
        pre = n.pre;
        generated = n.generated;
        inside = n.inside;
        white = n.white;
        after = n.after;
        items_are =
            ap (λ xs. prefix ++ xs) n.items_are
            ∙ sym (append_assoc prefix n.before (Opening n.kind n.head n.marks n.pre (Some k) n.generated ∷ n.inside ++ Closing n.kind n.white ∷ n.after));
        closes = n.closes;
        from_is = omega (arith, n.from_is, length-append prefix n.before);
        to_is = omega (arith, n.to_is);
      },
    )

stands-same : (xs ys : List PlainItem) (j k : ℕ) → xs ≡ ys → j ≡ k → Stands xs j → Stands ys k
stands-same xs ys j k e f s = subst (λ zs. Stands zs k) e (subst (Stands xs) f s)

-- in a node whose inside has so many openings: inside, or after
deeper : (opening closing : PlainItem) (inner outer rest : List PlainItem) (k i count : ℕ) → (i < count → Stands (inner ++ (closing ∷ outer ++ rest)) (suc k + i)) →
    (count ≤ i → Stands (outer ++ rest) (suc k + count + (i - count))) → Stands ((opening ∷ inner ++ closing ∷ outer) ++ rest) (k + suc i)
deeper opening closing inner outer rest k i count f g = by (nat_lt i count) refl
  where
    by : (c : Bool) → nat_lt i count ≡ c → Stands ((opening ∷ inner ++ closing ∷ outer) ++ rest) (k + suc i)
    by true e =
        stands-same (opening ∷ (inner ++ (closing ∷ outer ++ rest))) _ (suc k + i) (k + suc i) (ap (λ xs. opening ∷ xs) (sym (append_assoc inner (closing ∷ outer) rest))) (omega arith)
        (stands-later (opening ∷ []) (inner ++ (closing ∷ outer ++ rest)) (suc k + i) (f (below i count e)))
    by false e =
        let past : count ≤ i = not_below i count e in
        stands-same (opening ∷ (inner ++ (closing ∷ outer ++ rest))) _ (suc k + count + (i - count)) (k + suc i) (ap (λ xs. opening ∷ xs) (sym (append_assoc inner (closing ∷ outer) rest))) (omega (arith, past))
        (stands-later (opening ∷ inner) (closing ∷ outer ++ rest) (suc k + count + (i - count)) (stands-later (closing ∷ []) (outer ++ rest) (suc k + count + (i - count)) (g past)))

stands-in : (n : Nodes) (k j : ℕ) (rest : List PlainItem) → j < openings n → Stands (plain (numbered_nodes k n) ++ rest) (k + j)
stands-in Empty k j rest l = absurd (omega (arith, l))
stands-in (Letter c marks later) k j rest l = stands-later (Char c marks ∷ []) (plain (numbered_nodes k later) ++ rest) (k + j) (stands-in later k j rest l)
stands-in (Node s inside pre later) k zero rest l =
    let inner : List PlainItem = plain (numbered_nodes (suc k) inside) in
    let outer : List PlainItem = plain (numbered_nodes (suc k + openings inside) later) in
    stands-same (Opening s.kind s.head s.marks s.pre (Some k) s.generated ∷ (inner ++ Closing s.kind pre ∷ outer) ++ rest) _ k (k + 0) refl (omega arith) (
      0,
      length inner + 2,
      record {
        before = [];
        kind = s.kind;
        head = s.head;
        marks = s.marks;
        pre = s.pre;
        generated = s.generated;
        inside = inner;
        white = pre;
        after = outer ++ rest;
        items_are = ap (λ xs. Opening s.kind s.head s.marks s.pre (Some k) s.generated ∷ xs) (append_assoc inner (Closing s.kind pre ∷ outer) rest);
        closes = inside-plain (numbered_nodes (suc k) inside) 0 (Closing s.kind pre ∷ outer ++ rest) ∙ ap (λ xs. (xs, pre)) (append-nil inner);
        from_is = refl;
        to_is = omega arith;
      },
    )
stands-in (Node s inside pre later) k (suc i) rest l =
    deeper (Opening s.kind s.head s.marks s.pre (Some k) s.generated) (Closing s.kind pre) (plain (numbered_nodes (suc k) inside)) (plain (numbered_nodes (suc k + openings inside) later)) rest k i (openings inside)
    (λ g. stands-in inside (suc k) i _ g)
    (λ g. stands-in later (suc k + openings inside) (i - openings inside) rest (omega (arith, l, g)))

-- ---- the page

made-stands : (at : ℕ) (f : Forest) (k : ℕ) → k < length (page_made at f).later.spans → Stands (items_of_page (page_made at f)) k
made-stands at f k l =
    let m : Made = page_made at f in
    let w : Progress = record { at = at; owners = []; editable = true } in
    let s = (Fine-run_closed w (made_of (Flow Root) (parts_of f) w) (Fine-made_of (Flow Root) (parts_of f) w)).later in
    let rest : List PlainItem = internal_list m.pre m.owners in
    let named : with_origins 0 m.later.items ≡ plain (numbered_nodes 0 s.nodes) = ap (with_origins 0) s.items ∙ with_origins-nodes 0 s.nodes in
    let c = s.count in
    stands-same (plain (numbered_nodes 0 s.nodes) ++ rest) (items_of_page m) (0 + k) k (ap (λ xs. xs ++ rest) (sym named)) (omega arith)
    (stands-in s.nodes 0 k rest (omega (arith, l, c)))

forest-stands : (page : List ℕ) (from to : ℕ) (r : Option Forest) (o : Opened) → opened_forest page (record { from = from; to = to }) r ≡ Some o → (k : ℕ) → k < length o.spans → Stands o.items k
forest-stands page from to None o h = cc
forest-stands page from to (Some f) o h =
    let first : Opened = page_opened page (record { from = from; to = to }) (page_made from f) in
    let is : first ≡ o = let s : ◌≡◌ {A = Option Opened} (Some first) (Some o) = h in ap (λ x. unwrap_or x first) s in
    subst (λ x. (k : ℕ) → k < length x.spans → Stands x.items k) is (λ k l. made-stands from f k l)

body-stands : (page : List ℕ) (body : Result (ℕ × ℕ) ScanFault) (o : Opened) → opened_body page body ≡ Some o → (k : ℕ) → k < length o.spans → Stands o.items k
body-stands page (Err f) o h = cc
body-stands page (Ok body) o h = forest-stands page body.0 body.1 (forest_of (slice page body.0 body.1)) o h

-- the node lies in the list
within : (items : List PlainItem) (k from to : ℕ) → NodeAt items k from to → to ≤ length items
within items k from to n =
    let closing : List PlainItem = Closing n.kind n.white ∷ n.after in
    let node : List PlainItem = Opening n.kind n.head n.marks n.pre (Some k) n.generated ∷ n.inside ++ closing in
    omega (arith, ap length n.items_are, length-append n.before node, length-append n.inside closing, n.from_is, n.to_is)

pub origins_stand : OriginsStand
origins_stand page o h k l = let s = body-stands page (body_at page) o h k l in (s.0, s.1, within o.items k s.0 s.1 s.2, s.2)
