-- The section that a new row is put into, and its rows before it and after it.
use Rattle.std.specs.Prelude.{flat_map}
use Rattle.std.proofs.Common.{◌≡◌, ◌⊎◌, inl, inr, ℕ, zero, suc, ◌+◌, ◌-◌, ◌<◌, ◌≤◌, true, false, nat_lt, List, [], ◌∷◌, ◌++◌, length, refl, sym, ap, ◌∙◌, subst, arith, length-append, append-nil}
use Rattle.std.proofs.lemmas.Bool.{cases_Bool, ltb-true, ltb-false}
use Rattle.std.proofs.lemmas.List.{append_assoc}
use Rattle.ve_kinds.specs.declared.kind.Kind.{Kind}
use Rattle.ve_kinds.specs.declared.kind.Kind.TheVariants.{Tr}
use Rattle.ve_kinds.specs.Table.{is_among}
use Rattle.model_items.specs.declared.plain_item.PlainItem.{PlainItem}
use Rattle.model_items.specs.Law.{Lawful}
use Rattle.model_items.specs.Tree.{Open}
use Rattle.model_items.specs.Offsets.{partner, end_of_node}
use Rattle.model_edit.specs.Grid.{TableRow, children_of, section_rows}
use Rattle.model_edit.specs.Tables.{row_place}
use Rattle.model_edit_law.proofs.TablePlaceLemmas.{Opens, Chain, Chain-ends, from_of, children_of_stand}
use Rattle.model_table_law.proofs.RowInPlaceLemmas.{Gap, gap_before, gap_after}

-- a chain at one of its things
pub chain_at : {A : Type 0} (f : A → ℕ) (items : List PlainItem) (kinds : List Kind) (low high : ℕ) (xs : List A) (o : A) (ys : List A) →
    Chain f items kinds low high (xs ++ o ∷ ys) →
    Chain f items kinds low (f o) xs × ((kind : Kind) × (is_among kinds kind ≡ true) × Opens items kind (f o)) × Chain f items kinds (end_of_node items (f o)) high ys
chain_at f items kinds low high [] o ys c = (c.0, c.1, c.2)
chain_at f items kinds low high (x ∷ xs) o ys c = let r = chain_at f items kinds (end_of_node items (f x)) high xs o ys c.2 in ((c.0, c.1, r.0), r.1, r.2)

-- the rows of nodes that so many more of the section follow
abbrev pub rows_then : ℕ → List Open → List TableRow
rows_then more [] = []
rows_then more (tr ∷ later) = record { at = tr.from; left = suc (length later + more) } ∷ rows_then more later

pub section_rows-append : (xs ys : List Open) → section_rows (xs ++ ys) ≡ rows_then (length ys) xs ++ section_rows ys
section_rows-append [] ys = refl
section_rows-append (x ∷ xs) ys = (λ i. record { at = x.from; left = suc (length-append xs ys i) } ∷ section_rows-append xs ys i)

pub rows_then-length : (more : ℕ) (xs : List Open) → length (rows_then more xs) ≡ length xs
rows_then-length more [] = refl
rows_then-length more (x ∷ xs) = ap suc (rows_then-length more xs)

pub section_rows-length : (nodes : List Open) → length (section_rows nodes) ≡ length nodes
section_rows-length [] = refl
section_rows-length (o ∷ nodes) = ap suc (section_rows-length nodes)

place_later : (items : List PlainItem) (xs : List TableRow) (y : TableRow) (ys : List TableRow) (k m : ℕ) → m ≡ length xs + k →
    row_place items (xs ++ y ∷ ys) m ≡ row_place items (y ∷ ys) k
place_later items [] y ys k m e = (let z : m ≡ k = omega arith in ap (row_place items (y ∷ ys)) z)
place_later items (x ∷ []) y ys k zero e = absurd (omega arith)
place_later items (x ∷ []) y ys k (suc m) e = (let z : m ≡ k = omega arith in ap (row_place items (y ∷ ys)) z)
place_later items (x ∷ x' ∷ xs) y ys k zero e = absurd (omega arith)
place_later items (x ∷ x' ∷ xs) y ys k (suc m) e = place_later items (x' ∷ xs) y ys k m (omega arith)

place_first : (items : List PlainItem) (r : TableRow) (rows : List TableRow) → row_place items (r ∷ rows) 0 ≡ r.at
place_first items r [] = refl
place_first items r (x ∷ rows) = refl

record Cut (k : ℕ) (nodes : List Open) : Type 0 where
  pub xs : List Open
  pub it : Open
  pub ys : List Open
  pub whole : nodes ≡ xs ++ it ∷ ys
  pub count : length xs ≡ k

cut_at : (k : ℕ) (nodes : List Open) → k < length nodes → Cut k nodes
cut_at k [] l = absurd (omega arith)
cut_at zero (o ∷ nodes) l = record { xs = []; it = o; ys = nodes; whole = refl; count = refl }
cut_at (suc k) (o ∷ nodes) l =
    let c = cut_at k nodes (omega arith) in
    record { xs = o ∷ c.xs; it = c.it; ys = c.ys; whole = ap (λ v. o ∷ v) c.whole; count = ap suc c.count }

abbrev pub rows_in : List PlainItem → Open → List TableRow
rows_in items section = section_rows (children_of (Tr ∷ []) items section.from)

-- The section that the position stands in, right after these of its rows, and those before it and
-- after it.
pub record Parent (items : List PlainItem) (lawful : Lawful items) (p row : ℕ) (sections : List Open) : Type 0 where
  pub earlier : List Open
  pub it : Open
  pub later : List Open
  pub whole : sections ≡ earlier ++ it ∷ later
  pub xs : List Open
  pub ys : List Open
  pub nodes : children_of (Tr ∷ []) items it.from ≡ xs ++ ys
  pub count : length (flat_map (rows_in items) earlier) + length xs ≡ row
  pub gap : Gap items lawful p (Tr ∷ []) it.from xs
  pub within : p ≤ partner items it.from

pub parent : (items : List PlainItem) (lawful : Lawful items) (kinds : List Kind) (p : ℕ) (sections : List Open) (row low high : ℕ) →
    Chain from_of items kinds low high sections →
    row ≤ length (flat_map (rows_in items) sections) → 0 < length (flat_map (rows_in items) sections) → p ≡ row_place items (flat_map (rows_in items) sections) row → Parent items lawful p row sections
parent items lawful kinds p [] row low high c fit some e = absurd (omega arith)
parent items lawful kinds p (section ∷ sections) row low high c fit some e =
    by (cases_Bool (nat_lt row (length nodes))) (λ k a b d. parent items lawful kinds p sections k (end_of_node items section.from) high c.2 a b d)
  where
    nodes : List Open
    nodes = children_of (Tr ∷ []) items section.from

    later : List TableRow
    later = flat_map (rows_in items) sections

    stand : Chain from_of items (Tr ∷ []) (suc section.from) (partner items section.from) nodes
    stand = children_of_stand items (Tr ∷ []) (c.1.0) section.from lawful (c.1.2)

    rows_at : (xs : List Open) (o : Open) (ys : List Open) → nodes ≡ xs ++ o ∷ ys →
        section_rows nodes ++ later ≡ rows_then (suc (length ys)) xs ++ record { at = o.from; left = suc (length ys) } ∷ (section_rows ys ++ later)
    rows_at xs o ys w =
        ap (λ v. section_rows v ++ later) w ∙ ap (λ v. v ++ later) (section_rows-append xs (o ∷ ys))
        ∙ append_assoc (rows_then (suc (length ys)) xs) (record { at = o.from; left = suc (length ys) } ∷ section_rows ys) later

    at_row : (xs : List Open) (o : Open) (ys : List Open) → nodes ≡ xs ++ o ∷ ys → length xs ≡ row → Parent items lawful p row (section ∷ sections)
    at_row xs o ys w k =
        let long = rows_then-length (suc (length ys)) xs in
        let one : TableRow = record { at = o.from; left = suc (length ys) } in
        let there : p ≡ o.from =
        e ∙ ap (λ v. row_place items v row) (rows_at xs o ys w)
        ∙ place_later items (rows_then (suc (length ys)) xs) one (section_rows ys ++ later) 0 row (omega arith)
        ∙ place_first items one (section_rows ys ++ later) in
        let ch = chain_at from_of items (Tr ∷ []) (suc section.from) (partner items section.from) xs o ys (subst (Chain from_of items (Tr ∷ []) (suc section.from) (partner items section.from)) w stand) in
        let high' = Chain-ends from_of items (Tr ∷ []) (end_of_node items o.from) (partner items section.from) ys ch.2 in
        let ahead = (ch.1.2).ahead in
        record {
          earlier = [];
          it = section;
          later = sections;
          whole = refl;
          xs = xs;
          ys = o ∷ ys;
          nodes = w;
          count = omega arith;
          gap = gap_before items lawful p (Tr ∷ []) section.from xs o ys w there;
          within = omega arith;
        }

    -- after the last row of all
    at_end : (xs : List Open) (o : Open) → nodes ≡ xs ++ o ∷ [] → suc (length xs) ≡ row → later ≡ [] → Parent items lawful p row (section ∷ sections)
    at_end xs o w k none =
        let long = rows_then-length 1 xs in
        let one : TableRow = record { at = o.from; left = 1 } in
        let both = length-append xs (o ∷ []) in
        let there : p ≡ end_of_node items o.from =
        e ∙ ap (λ v. row_place items v row) (rows_at xs o [] w ∙ ap (λ v. rows_then 1 xs ++ one ∷ v) none)
        ∙ place_later items (rows_then 1 xs) one [] 1 row (omega arith) in
        let ch = chain_at from_of items (Tr ∷ []) (suc section.from) (partner items section.from) xs o [] (subst (Chain from_of items (Tr ∷ []) (suc section.from) (partner items section.from)) w stand) in
        record {
          earlier = [];
          it = section;
          later = sections;
          whole = refl;
          xs = xs ++ o ∷ [];
          ys = [];
          nodes = w ∙ sym (append-nil (xs ++ o ∷ []));
          count = omega arith;
          gap = gap_after items lawful p (Tr ∷ []) section.from xs o [] w ch.1.0 ch.1.2 there;
          within = (let f = ch.2 in omega arith);
        }

    no_more : (xs : List Open) (o : Open) (ys : List Open) → nodes ≡ xs ++ o ∷ ys → suc (length xs) ≡ length nodes → row ≡ length nodes → later ≡ [] →
        Parent items lawful p row (section ∷ sections)
    no_more xs o [] w k r none = at_end xs o w (omega arith) none
    no_more xs o (y ∷ ys) w k r none = absurd (let l = ap length w in let both = length-append xs (o ∷ y ∷ ys) in omega arith)

    beyond : length nodes ≤ row → (rest : List TableRow) → later ≡ rest →
        ((k : ℕ) → k ≤ length later → 0 < length later → p ≡ row_place items later k → Parent items lawful p k sections) → Parent items lawful p row (section ∷ sections)
    beyond l [] none next =
        let long = section_rows-length nodes in
        let both = length-append (section_rows nodes) later in
        let no : length later ≡ 0 = ap length none in
        let c = cut_at (length nodes - 1) nodes (omega arith) in
        let count = c.count in
        no_more c.xs c.it c.ys c.whole (omega arith) (omega arith) none
    beyond l (r ∷ rest) is next =
        let long = section_rows-length nodes in
        let both = length-append (section_rows nodes) later in
        let many : length later ≡ suc (length rest) = ap length is in
        let k = row - length nodes in
        let there : p ≡ row_place items later k =
        e ∙ ap (λ v. row_place items (section_rows nodes ++ v) row) is
        ∙ place_later items (section_rows nodes) r rest k row (omega arith)
        ∙ ap (λ v. row_place items v k) (sym is) in
        let q = next k (omega arith) (omega arith) there in
        let count = q.count in
        let all = length-append (section_rows nodes) (flat_map (rows_in items) q.earlier) in
        record {
          earlier = section ∷ q.earlier;
          it = q.it;
          later = q.later;
          whole = ap (λ v. section ∷ v) q.whole;
          xs = q.xs;
          ys = q.ys;
          nodes = q.nodes;
          count = omega arith;
          gap = q.gap;
          within = q.within;
        }

    by : (nat_lt row (length nodes) ≡ true) ⊎ (nat_lt row (length nodes) ≡ false) →
        ((k : ℕ) → k ≤ length later → 0 < length later → p ≡ row_place items later k → Parent items lawful p k sections) → Parent items lawful p row (section ∷ sections)
    by (inl t) next =
        let c = cut_at row nodes (ltb-true row (length nodes) t) in at_row c.xs c.it c.ys c.whole c.count
    by (inr f) next = beyond (ltb-false row (length nodes) f) later refl next
