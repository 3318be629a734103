-- How far the children of a node are read, and made.
use Rattle.std.proofs.Common.{◌≡◌, ◌≢◌, ◌≤◌, ◌<◌, ◌+◌, ◌-◌, ◌*◌, ℕ, zero, suc, Option, Some, None, List, [], ◌∷◌, drop, length, option_map, IfSome, refl, sym, ap, ◌∙◌, subst, arith, slice_get}
use Rattle.ve_base.specs.declared.value.ValueId.{ValueId}
use Rattle.ve_kinds.specs.declared.kind.Kind.{Kind}
use Rattle.model_items.specs.declared.item.Item.{Item}
use Rattle.model_items.specs.declared.item.Item.TheVariants as item
use Rattle.model_items.specs.Law.{Lawful}
use Rattle.model_items.specs.Tree.{Forest, Empty, Run, Branch, with_char, first_forest, Reading, item_count}
use Rattle.ve_arena.specs.declared.node.NodeId.{NodeId}
use Rattle.ve_arena.specs.declared.node.NodeWhat.{NodeWhat}
use Rattle.ve_arena.specs.declared.node.NodeWhat.TheVariants as what
use Rattle.ve_arena.specs.declared.node.ArenaNode.{ArenaNode}
use Rattle.ve_arena.specs.Arena.{slot_at, Changes, with_len}
use Rattle.ve_tree.specs.Links.{link_in, Apart}
use Rattle.ve_tree.specs.Named.{Named, NoNode, NamedRun, NamedBranch, unnumbered, heads, node_numbers, IsShown}
use Rattle.ve_tree.specs.IsTree.{unvalued}
use Rattle.ve_tree.specs.Grown.{id_of, with_children, IsChildless, Grown, first_in, MadeFirst, reading_from, closes_from, count_from, OpensNode, IsChar, ReadChildren, IsRunFrom}
use Rattle.ve_tree.proofs.GrownLemmas.{GrownMore, grown_more, above_is}
use Rattle.ve_tree.proofs.ReadLemmas.{item_at, reading-at, reading-char, closes-start, closes-opening, reading-closing, reading-run, count-grows, count-is}

-- the children of p are read down to `at`
pub record Reached (old now : List (Option ArenaNode)) (p : ℕ) (items : List Item) (to at before after : ℕ) : Type 0 where
  pub forest : Named
  pub grown : Grown old now p forest
  pub reads : reading_from items at ≡ record { here = unnumbered forest; outer = (reading_from items to).outer }
  pub count : at + item_count (unnumbered forest) ≡ to
  pub closed : closes_from items at ≡ closes_from items to
  -- a character just before begins a run of its own
  pub fresh : (m : ℕ) (x : Item) → suc m ≡ at → slice_get items m ≡ Some x → IsChar x → with_char (unnumbered forest) ≡ Run 1 (unnumbered forest)
  pub steps : after + 6 * count_from items to ≤ before + 6 * count_from items at

pub nothing_grown : (slots : List (Option ArenaNode)) (p : ℕ) → IsChildless slots p → Grown slots slots p NoNode
nothing_grown slots p c = record {
  apart = (tt, tt);
  fresh = tt;
  shown = tt;
  children = record {
    first = ap (link_in (λ node. node.first)) c.here ∙ ap (option_map (λ (n : NodeId). n.0)) c.no_first;
    last = ap (link_in (λ node. node.last)) c.here ∙ ap (option_map (λ (n : NodeId). n.0)) c.no_last;
    row = tt;
  };
  own = c.here ∙ (λ i. Some (record c.node { first = c.no_first i; last = c.no_last i })) ∙ sym (ap (option_map (with_children [])) c.here);
  others = λ q a. refl;
}

pub reached_start : (slots : List (Option ArenaNode)) (p : ℕ) (items : List Item) (to before : ℕ) → IsChildless slots p → (reading_from items to).here ≡ Empty →
    Reached slots slots p items to to before before
reached_start slots p items to before c begun = record {
  forest = NoNode;
  grown = nothing_grown slots p c;
  reads = λ i. record { here = begun i; outer = (reading_from items to).outer };
  count = omega arith;
  closed = refl;
  fresh = λ m x e at char. refl;
  steps = omega arith;
}

-- the first child of p is another node
pub next_apart_in : (old now : List (Option ArenaNode)) (p : ℕ) (f : Named) → IsChildless old p → Grown old now p f → IfSome (first_in (slot_at now p)) (λ next. next.0 ≢ p)
next_apart_in old now p f c g = subst (λ o. IfSome (first_in o) (λ next. next.0 ≢ p)) (sym (above_is old now p f c.node c.here g)) (by_first f g.apart.0)
  where
    by_first : (f : Named) → Apart p (node_numbers f) → IfSome (first_in (Some (with_children (heads f) c.node))) (λ next. next.0 ≢ p)
    by_first NoNode a = tt
    by_first (NamedRun n count later) a = λ e. a.0 (sym e)
    by_first (NamedBranch n kind inside later) a = λ e. a.0 (sym e)

pub next_apart : (old now : List (Option ArenaNode)) (p : ℕ) (items : List Item) (to at before after : ℕ) → IsChildless old p → Reached old now p items to at before after →
    IfSome (first_in (slot_at now p)) (λ next. next.0 ≢ p)
next_apart old now p items to at before after c r = next_apart_in old now p r.forest c r.grown

-- the steps so far, and those of a node that wasn't finished
pub steps_reached : (old now : List (Option ArenaNode)) (p : ℕ) (items : List Item) (to at before after : ℕ) → Reached old now p items to at before after →
    after + 6 * count_from items to ≤ before + 6 * count_from items 0
steps_reached old now p items to at before after r = by_counts (count_from items to) (count_from items at) (count_from items 0) r.steps (count-grows items at)
  where
    by_counts : (t a z : ℕ) → after + 6 * t ≤ before + 6 * a → a ≤ z → after + 6 * t ≤ before + 6 * z
    by_counts t a z h k = omega (arith, h, k)

steps_more : (before after after1 t m a z : ℕ) → after + 6 * t ≤ before + 6 * a → m ≡ suc a → m ≤ z → after1 ≤ after + 5 → after1 + 6 * t ≤ before + 6 * z
steps_more before after after1 t m a z h e k l = omega (arith, h, e, k, l)

-- a character before what is read
record CharRead (items : List Item) (m at : ℕ) (f : Forest) (outer : List Forest) : Type 0 where
  reads : reading_from items m ≡ record { here = Run 1 f; outer = outer }
  counted : count_from items m ≡ suc (count_from items at)

char_read : (old now : List (Option ArenaNode)) (p : ℕ) (items : List Item) (to at before after : ℕ) (r : Reached old now p items to at before after) (m : ℕ) (x : Item) →
    suc m ≡ at → slice_get items m ≡ Some x → IsChar x → CharRead items m at (unnumbered r.forest) (reading_from items to).outer
char_read old now p items to at before after r m x e found char =
    let next : reading_from items (suc m) ≡ record { here = unnumbered r.forest; outer = (reading_from items to).outer } = ap (reading_from items) e ∙ r.reads in
    let reads : reading_from items m ≡ record { here = Run 1 (unnumbered r.forest); outer = (reading_from items to).outer } =
    (reading-char items m x found char).0
    ∙ ap (λ (g : Reading). record { here = with_char g.here; outer = g.outer }) next
    ∙ (λ i. record { here = r.fresh m x e found char i; outer = (reading_from items to).outer }) in
    record {
      reads = reads;
      counted = count-is items m _ _ reads ∙ omega arith ∙ ap suc (sym (count-is items at _ _ r.reads));
    }

pub steps_char : (old now : List (Option ArenaNode)) (p : ℕ) (items : List Item) (to at before after after1 : ℕ) → Reached old now p items to at before after → (m : ℕ) (x : Item) →
    suc m ≡ at → slice_get items m ≡ Some x → IsChar x → after1 ≤ after + 5 → after1 + 6 * count_from items to ≤ before + 6 * count_from items 0
steps_char old now p items to at before after after1 r m x e found char l =
    steps_more before after after1 (count_from items to) (count_from items m) (count_from items at) (count_from items 0) r.steps
    (char_read old now p items to at before after r m x e found char).counted (count-grows items m) l

-- a closing before what is read
record ClosingRead (items : List Item) (m at : ℕ) (kind : Kind) (f : Forest) (outer : List Forest) : Type 0 where
  reads : reading_from items m ≡ record { here = Empty; outer = f ∷ outer }
  closed : closes_from items m ≡ kind ∷ closes_from items at
  counted : count_from items m ≡ suc (count_from items at)

closing_read : (old now : List (Option ArenaNode)) (p : ℕ) (items : List Item) (to at before after : ℕ) (r : Reached old now p items to at before after) (m : ℕ)
    (kind : Kind) (pre : Option ValueId) → suc m ≡ at → slice_get items m ≡ Some (item.Closing kind pre) →
    ClosingRead items m at kind (unnumbered r.forest) (reading_from items to).outer
closing_read old now p items to at before after r m kind pre e found =
    let next : reading_from items (suc m) ≡ record { here = unnumbered r.forest; outer = (reading_from items to).outer } = ap (reading_from items) e ∙ r.reads in
    let both = reading-closing items m kind pre found in
    let reads : reading_from items m ≡ record { here = Empty; outer = unnumbered r.forest ∷ (reading_from items to).outer } =
    both.0 ∙ ap (λ (g : Reading). record { here = Empty; outer = g.here ∷ g.outer }) next in
    record {
      reads = reads;
      closed = both.1 ∙ ap (λ n. kind ∷ closes_from items n) e;
      counted = count-is items m _ _ reads ∙ omega arith ∙ ap suc (sym (count-is items at _ _ r.reads));
    }

pub steps_closing : (old now : List (Option ArenaNode)) (p : ℕ) (items : List Item) (to at before after after1 : ℕ) → Reached old now p items to at before after → (m : ℕ)
    (kind : Kind) (pre : Option ValueId) → suc m ≡ at → slice_get items m ≡ Some (item.Closing kind pre) → after1 ≤ after + 5 →
    after1 + 6 * count_from items to ≤ before + 6 * count_from items 0
steps_closing old now p items to at before after after1 r m kind pre e found l =
    steps_more before after after1 (count_from items to) (count_from items m) (count_from items at) (count_from items 0) r.steps
    (closing_read old now p items to at before after r m kind pre e found).counted (count-grows items m) l

-- the same, where the children of the new node weren't finished
pub steps_inner : (old now : List (Option ArenaNode)) (p : ℕ) (items : List Item) (to at before after after1 after2 : ℕ) → Reached old now p items to at before after → (m : ℕ)
    (kind : Kind) (pre : Option ValueId) → suc m ≡ at → slice_get items m ≡ Some (item.Closing kind pre) → after1 ≤ after + 5 →
    after2 + 6 * count_from items m ≤ after1 + 6 * count_from items 0 → after2 + 6 * count_from items to ≤ before + 6 * count_from items 0
steps_inner old now p items to at before after after1 after2 r m kind pre e found l k =
    by_counts (count_from items to) (count_from items m) (count_from items at) (count_from items 0) r.steps
    (closing_read old now p items to at before after r m kind pre e found).counted k
  where
    by_counts : (t m a z : ℕ) → after + 6 * t ≤ before + 6 * a → m ≡ suc a → after2 + 6 * m ≤ after1 + 6 * z → after2 + 6 * t ≤ before + 6 * z
    by_counts t m a z h e k = omega (arith, h, e, k, l)

-- a node that was just made has no children
made_childless : (o : Option NodeId) (cur s1 : List (Option ArenaNode)) (n p : ℕ) (sort : NodeWhat) → MadeFirst o cur s1 n p sort → IsChildless s1 n
made_childless None cur s1 n p sort made = record { node = _; here = made.made; no_first = refl; no_last = refl }
made_childless (Some next) cur s1 n p sort made = record { node = _; here = made.made; no_first = refl; no_last = refl }

pub new_childless : (cur s1 : List (Option ArenaNode)) (n p : ℕ) (sort : NodeWhat) → MadeFirst (first_in (slot_at cur p)) cur s1 n p sort → IsChildless s1 n
new_childless cur s1 n p sort made = made_childless (first_in (slot_at cur p)) cur s1 n p sort made

-- what the closing's own children begin with
pub inner_begun : (old now : List (Option ArenaNode)) (p : ℕ) (items : List Item) (to at before after : ℕ) → Reached old now p items to at before after → (m : ℕ)
    (kind : Kind) (pre : Option ValueId) → suc m ≡ at → slice_get items m ≡ Some (item.Closing kind pre) → (reading_from items m).here ≡ Empty
inner_begun old now p items to at before after r m kind pre e found =
    ap (λ (g : Reading). g.here) (closing_read old now p items to at before after r m kind pre e found).reads

-- a run is read and made
pub reached_run : (old cur s1 s2 : List (Option ArenaNode)) (p n : ℕ) (items : List Item) (to at before after after1 from : ℕ) → IsChildless old p → to ≤ length items →
    Reached old cur p items to at before after → (m : ℕ) (x : Item) → suc m ≡ at → slice_get items m ≡ Some x → IsChar x →
    slot_at cur n ≡ None → MadeFirst (first_in (slot_at cur p)) cur s1 n p what.Run → IsRunFrom items from at → Changes s1 s2 (id_of n) (with_len (at - from)) →
    after1 ≤ after + 5 → Reached old s2 p items to from before (after1 + 1)
reached_run old cur s1 s2 p n items to at before after after1 from c within r m x e found char vacant made run write l = record {
  forest = forest;
  grown = record {
    apart = more.apart;
    fresh = more.fresh;
    shown = (more.node, more.later);
    children = more.children;
    own = more.own;
    others = more.others;
  };
  reads = reads;
  count = omega (arith, r.count, run.order);
  closed = both.1 ∙ ap (closes_from items) len_is ∙ r.closed;
  fresh = λ k y e' at' char'. absurd (run.begins k y e' at' char');
  steps = by_counts (count_from items to) (count_from items from) (count_from items at) r.steps counted;
}
  where
    forest : Named
    forest = NamedRun n (at - from) r.forest

    begins : from < at
    begins = below (not_here)
      where
        not_here : from ≢ at
        not_here same = run.begins m x (e ∙ sym same) found char

        below : from ≢ at → from < at
        below h = omega (arith, run.order, h)

    k : ℕ
    k = at - from - 1

    len_is : from + suc k ≡ at
    len_is = omega (arith, begins)

    at_len : suc k ≡ at - from
    at_len = omega (arith, begins)

    at_within : at ≤ to
    at_within = omega (arith, r.count)

    both : (reading_from items from ≡ record { here = Run (suc k) (unnumbered r.forest); outer = (reading_from items to).outer }) × (closes_from items from ≡ closes_from items (from + suc k))
    both = reading-run items (unnumbered r.forest) (reading_from items to).outer k from (omega (arith, len_is, at_within, within))
        (λ j y low high at'. run.characters j y low (omega (arith, high, len_is)) at')
        (ap (reading_from items) len_is ∙ r.reads) (r.fresh m x e found char)

    reads : reading_from items from ≡ record { here = unnumbered forest; outer = (reading_from items to).outer }
    reads = both.0 ∙ (λ i. record { here = Run (at_len i) (unnumbered r.forest); outer = (reading_from items to).outer })

    counted : count_from items from ≡ suc (count_from items at)
    counted = count-is items from _ _ reads ∙ omega arith ∙ ap suc (sym (count-is items at _ _ r.reads))

    more : GrownMore old s2 p n what.Run (at - from) NoNode r.forest
    more = grown_more old cur s1 s1 s2 p n what.Run (at - from) NoNode r.forest c r.grown vacant made (nothing_grown s1 n (new_childless cur s1 n p what.Run made)) write

    by_counts : (t f a : ℕ) → after + 6 * t ≤ before + 6 * a → f ≡ suc a → (after1 + 1) + 6 * t ≤ before + 6 * f
    by_counts t f a h e = omega (arith, h, e, l)

-- the position where a node's children begin is not the list's start, and its opening stands before
-- it
record OpeningRead (items : List Item) (from at : ℕ) (kind : Kind) (g f : Forest) (outer : List Forest) : Type 0 where
  place : ℕ
  place_is : suc place ≡ from
  reads : reading_from items place ≡ record { here = Branch kind g f; outer = outer }
  closed : closes_from items place ≡ closes_from items at

opening_read : (items : List Item) (from at m : ℕ) (kind : Kind) (g f : Forest) (outer : List Forest) → Lawful (unvalued items) → from ≤ length items →
    reading_from items from ≡ record { here = g; outer = f ∷ outer } → closes_from items from ≡ kind ∷ closes_from items at →
    ((k : ℕ) (x : Item) → suc k ≡ from → slice_get items k ≡ Some x → OpensNode x) → OpeningRead items from at kind g f outer
opening_read items zero at m kind g f outer lawful within reads closed ended =
    let e : ◌≡◌ {A = List Kind} [] (kind ∷ closes_from items at) = sym (closes-start items lawful) ∙ closed in absurd (cc)
opening_read items (suc k) at m kind g f outer lawful within reads closed ended =
    let here = item_at items k (omega (arith, within)) in
    let both = closes-opening items k kind here.0 lawful here.1 (ended k here.0 refl here.1) (closed ∙ ap (λ kinds. kind ∷ drop 1 kinds) (sym closed)) in
    record {
      place = k;
      place_is = refl;
      reads = reading-at items k here.0 here.1 ∙ both.0 ∙ ap (λ (r : Reading). record { here = Branch kind r.here (first_forest r.outer); outer = drop 1 r.outer }) reads;
      closed = both.1 ∙ ap (drop 1) closed;
    }

-- the children of a node begin after its opening
pub begins_inside : (old cur s1 s2 : List (Option ArenaNode)) (p n : ℕ) (items : List Item) (to at before after from : ℕ) →
    to ≤ length items → Lawful (unvalued items) → Reached old cur p items to at before after →
    (m : ℕ) (kind : Kind) (pre : Option ValueId) → suc m ≡ at → slice_get items m ≡ Some (item.Closing kind pre) → ReadChildren s1 s2 n items from m → 1 ≤ from
begins_inside old cur s1 s2 p n items to at before after from within lawful r m kind pre e found inner =
    let closing = closing_read old cur p items to at before after r m kind pre e found in
    let opening = opening_read items from at m kind (unnumbered inner.forest) (unnumbered r.forest) (reading_from items to).outer lawful
    (omega (arith, inner.count, r.count, within, e))
    (inner.reads ∙ (λ i. record { here = unnumbered inner.forest; outer = (closing.reads i).outer })) (inner.closed ∙ closing.closed) inner.ended in
    omega (arith, opening.place_is)

-- a node is read and made, with its children
pub reached_branch : (old cur s1 s2 s3 : List (Option ArenaNode)) (p n : ℕ) (items : List Item) (to at before after after1 after2 from : ℕ) → IsChildless old p →
    to ≤ length items → Lawful (unvalued items) → Reached old cur p items to at before after →
    (m : ℕ) (kind : Kind) (pre : Option ValueId) → suc m ≡ at → slice_get items m ≡ Some (item.Closing kind pre) →
    slot_at cur n ≡ None → MadeFirst (first_in (slot_at cur p)) cur s1 n p (what.Node kind) → ReadChildren s1 s2 n items from m →
    Changes s2 s3 (id_of n) (with_len (at - (from - 1))) → after1 ≤ after + 5 → after2 + 6 * count_from items m ≤ after1 + 6 * count_from items from →
    Reached old s3 p items to (from - 1) before (after2 + 1)
reached_branch old cur s1 s2 s3 p n items to at before after after1 after2 from c within lawful r m kind pre e found vacant made inner write l k =
    subst (λ n. Reached old s3 p items to n before (after2 + 1)) place (record {
      forest = forest;
      grown = record {
        apart = more.apart;
        fresh = more.fresh;
        shown = (subst (λ len. IsShown s3 n (what.Node kind) len (heads inner.forest)) len_is more.node, more.inside, more.later);
        children = more.children;
        own = more.own;
        others = more.others;
      };
      reads = open_.reads;
      count = omega (arith, r.count, inner.count, open_.place_is, e);
      closed = open_.closed ∙ r.closed;
      fresh = λ j x e' at' char. refl;
      steps = by_counts (count_from items to) (count_from items open_.place) (count_from items from) (count_from items m) (count_from items at) r.steps closing.counted k counted;
    })
  where
    closing : ClosingRead items m at kind (unnumbered r.forest) (reading_from items to).outer
    closing = closing_read old cur p items to at before after r m kind pre e found

    inner_reads : reading_from items from ≡ record { here = unnumbered inner.forest; outer = unnumbered r.forest ∷ (reading_from items to).outer }
    inner_reads = inner.reads ∙ (λ i. record { here = unnumbered inner.forest; outer = (closing.reads i).outer })

    open_ : OpeningRead items from at kind (unnumbered inner.forest) (unnumbered r.forest) (reading_from items to).outer
    open_ = opening_read items from at m kind (unnumbered inner.forest) (unnumbered r.forest) (reading_from items to).outer lawful
        (omega (arith, inner.count, r.count, within, e)) inner_reads (inner.closed ∙ closing.closed) inner.ended

    place : open_.place ≡ from - 1
    place = omega (arith, open_.place_is)

    forest : Named
    forest = NamedBranch n kind inner.forest r.forest

    len_is : at - (from - 1) ≡ item_count (unnumbered inner.forest) + 2
    len_is = omega (arith, inner.count, e, open_.place_is)

    more : GrownMore old s3 p n (what.Node kind) (at - (from - 1)) inner.forest r.forest
    more = grown_more old cur s1 s2 s3 p n (what.Node kind) (at - (from - 1)) inner.forest r.forest c r.grown vacant made inner.grown write

    counted : count_from items open_.place ≡ count_from items from
    counted = count-is items open_.place _ _ open_.reads ∙ omega arith ∙ sym (count-is items from _ _ inner_reads)

    by_counts : (t o f m a : ℕ) → after + 6 * t ≤ before + 6 * a → m ≡ suc a → after2 + 6 * m ≤ after1 + 6 * f → o ≡ f → (after2 + 1) + 6 * t ≤ before + 6 * o
    by_counts t o f m a h e k same = omega (arith, h, e, k, same, l)
