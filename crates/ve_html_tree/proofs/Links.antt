-- The links between the open elements, as nodes are appended and ended.
use Rattle.std.proofs.Common.{◌≡◌, ◌≢◌, ℕ, zero, suc, ◌+◌, ◌-◌, ◌<◌, ◌≤◌, List, [], ◌∷◌, ◌++◌, map, length, get_or, slice_set, refl, sym, ap, ◌∙◌, arith, subst}
use Rattle.std.proofs.lemmas.List.{length-append, length-map}
use Rattle.model_spelling.specs.Faults.{OpenElement}
use Rattle.ve_html_tree.specs.declared.node.Node.{Node}
use Rattle.ve_html_tree.specs.declared.open.Opened.{Opened}
use Rattle.ve_html_tree.specs.Nodes.{ended_node, ended_at}
use Rattle.ve_html_tree.specs.Opened.{start_name, open_at, next_at, open_node_numbers_from, open_node_numbers, opens, LinkedFrom, AreLinked}

-- ---- what stands at a number

item_by : {A : Type 0} (f : Node → A) (d : A) (ns : List Node) (k : ℕ) (m : Node) → k < length ns → get_or (map f ns) k d ≡ f (get_or ns k m)
item_by f d [] k m lt = absurd (omega (arith, lt))
item_by f d (n ∷ ns) zero m lt = refl
item_by f d (n ∷ ns) (suc k) m lt = item_by f d ns k m (omega (arith, lt))

item_at : {A : Type 0} (f : Node → A) (d : A) (ns : List Node) (k : ℕ) (m : Node) → k < length ns → m ≡ get_or ns k m → get_or (map f ns) k d ≡ f m
item_at f d ns k m lt e = item_by f d ns k m lt ∙ ap f (sym e)

item_kept : {A : Type 0} (f : Node → A) (d : A) (ns : List Node) (x : Node) (j : ℕ) → j < length ns → get_or (map f (ns ++ x ∷ [])) j d ≡ get_or (map f ns) j d
item_kept f d [] x j lt = absurd (omega (arith, lt))
item_kept f d (n ∷ ns) x zero lt = refl
item_kept f d (n ∷ ns) x (suc j) lt = item_kept f d ns x j (omega (arith, lt))

item_last : {A : Type 0} (f : Node → A) (d : A) (ns : List Node) (x : Node) → get_or (map f (ns ++ x ∷ [])) (length ns) d ≡ f x
item_last f d [] x = refl
item_last f d (n ∷ ns) x = item_last f d ns x

item_before : {A : Type 0} (f : Node → A) (d : A) (k from to next : ℕ) (ns : List Node) (j : ℕ) → j < k → get_or (map f (ended_at k from to next ns)) j d ≡ get_or (map f ns) j d
item_before f d k from to next [] j lt = refl
item_before f d zero from to next (n ∷ ns) j lt = absurd (omega (arith, lt))
item_before f d (suc k) from to next (n ∷ ns) zero lt = refl
item_before f d (suc k) from to next (n ∷ ns) (suc j) lt = item_before f d k from to next ns j (omega (arith, lt))

pub length_ended : (k from to next : ℕ) (ns : List Node) → length (ended_at k from to next ns) ≡ length ns
length_ended k from to next [] = refl
length_ended zero from to next (n ∷ ns) = refl
length_ended (suc k) from to next (n ∷ ns) = let e = length_ended k from to next ns in omega arith

-- the node that a function ended is the one at its number
pub ended_set : (ns : List Node) (k from to next : ℕ) (m : Node) → k < length ns → m ≡ get_or ns k m → slice_set ns k (ended_node from to next m) ≡ ended_at k from to next ns
ended_set [] k from to next m lt e = absurd (omega (arith, lt))
ended_set (n ∷ ns) zero from to next m lt e = ap (λ (x : Node). ended_node from to next x ∷ ns) e
ended_set (n ∷ ns) (suc k) from to next m lt e = ap (λ (l : List Node). n ∷ l) (ended_set ns k from to next m (omega (arith, lt)) e)

-- ---- lists that agree below a bound

-- what the links and the open elements read from a list of nodes is the same in both
record Agrees (ns ms : List Node) (bound : ℕ) : Type 0 where
  next : (j : ℕ) → j < bound → next_at ms j ≡ next_at ns j
  shown : (j : ℕ) → j < bound → open_at ms j ≡ open_at ns j

narrower : (ns ms : List Node) (bound k : ℕ) → k < bound → Agrees ns ms bound → Agrees ns ms k
narrower ns ms bound k lt a = record { next = λ j l. a.next j (omega arith); shown = λ j l. a.shown j (omega arith) }

kept_numbers : (ns ms : List Node) (bound count k : ℕ) → Agrees ns ms bound → LinkedFrom ns bound count k → open_node_numbers_from ms count k ≡ open_node_numbers_from ns count k
kept_numbers ns ms bound zero k a l = refl
kept_numbers ns ms bound (suc count) k a l =
    ap (λ (j : ℕ). k ∷ open_node_numbers_from ms count j) (a.next k l.0) ∙ ap (λ (ks : List ℕ). k ∷ ks) (kept_numbers ns ms k count (next_at ns k) (narrower ns ms bound k l.0 a) l.1)

kept_opens : (ns ms : List Node) (bound count k : ℕ) → Agrees ns ms bound → LinkedFrom ns bound count k → map (open_at ms) (open_node_numbers_from ms count k) ≡ map (open_at ns) (open_node_numbers_from ns count k)
kept_opens ns ms bound zero k a l = refl
kept_opens ns ms bound (suc count) k a l =
    ap (λ (j : ℕ). open_at ms k ∷ map (open_at ms) (open_node_numbers_from ms count j)) (a.next k l.0)
    ∙ ap (λ (o : OpenElement). o ∷ map (open_at ms) (open_node_numbers_from ms count (next_at ns k))) (a.shown k l.0)
    ∙ ap (λ (os : List OpenElement). open_at ns k ∷ os) (kept_opens ns ms k count (next_at ns k) (narrower ns ms bound k l.0 a) l.1)

kept_links : (ns ms : List Node) (bound count k : ℕ) → Agrees ns ms bound → LinkedFrom ns bound count k → LinkedFrom ms bound count k
kept_links ns ms bound zero k a l = l
kept_links ns ms bound (suc count) k a l =
    (l.0, subst (λ (j : ℕ). LinkedFrom ms k count j) (sym (a.next k l.0)) (kept_links ns ms k count (next_at ns k) (narrower ns ms bound k l.0 a) l.1))

wider : (ns : List Node) (bound more count k : ℕ) → bound ≤ more → LinkedFrom ns bound count k → LinkedFrom ns more count k
wider ns bound more zero k le l = l
wider ns bound more (suc count) k le l = (omega (arith, l.0), l.1)

-- there are no more open elements than nodes
pub no_more : (ns : List Node) (bound count k : ℕ) → LinkedFrom ns bound count k → count ≤ bound
no_more ns bound zero k l = omega arith
no_more ns bound (suc count) k l = omega (arith, l.0, no_more ns k count (next_at ns k) l.1)

length_numbers : (ns : List Node) (count k : ℕ) → length (open_node_numbers_from ns count k) ≡ count
length_numbers ns zero k = refl
length_numbers ns (suc count) k = let e = length_numbers ns count (next_at ns k) in omega arith

pub length_opens : (ns : List Node) (o : Opened) → length (opens ns o) ≡ o.count
length_opens ns o = length-map (open_node_numbers ns o) (open_at ns) ∙ length_numbers ns o.count o.innermost

-- ---- a node more

agrees_pushed : (ns : List Node) (x : Node) → Agrees ns (ns ++ x ∷ []) (length ns)
agrees_pushed ns x = record {
  next = λ j lt. item_kept (λ (n : Node). n.next) 0 ns x j lt;
  shown = λ j lt. ap (λ (l : List ℕ). record { name = l; at = get_or (map (λ (n : Node). n.span.from) (ns ++ x ∷ [])) j 0 }) (item_kept (λ (n : Node). start_name n.token) [] ns x j lt)
      ∙ ap (λ (k : ℕ). record { name = get_or (map (λ (n : Node). start_name n.token) ns) j []; at = k }) (item_kept (λ (n : Node). n.span.from) 0 ns x j lt);
}

longer : (ns : List Node) (x : Node) → length ns < length (ns ++ x ∷ [])
longer ns x = omega (arith, length-append ns (x ∷ []))

pub leaf_numbers : (ns : List Node) (x : Node) (o : Opened) → AreLinked ns o → open_node_numbers (ns ++ x ∷ []) o ≡ open_node_numbers ns o
leaf_numbers ns x o l = kept_numbers ns (ns ++ x ∷ []) (length ns) o.count o.innermost (agrees_pushed ns x) l

pub leaf_opens : (ns : List Node) (x : Node) (o : Opened) → AreLinked ns o → opens (ns ++ x ∷ []) o ≡ opens ns o
leaf_opens ns x o l = kept_opens ns (ns ++ x ∷ []) (length ns) o.count o.innermost (agrees_pushed ns x) l

pub leaf_links : (ns : List Node) (x : Node) (o : Opened) → AreLinked ns o → AreLinked (ns ++ x ∷ []) o
leaf_links ns x o l = wider (ns ++ x ∷ []) (length ns) (length (ns ++ x ∷ [])) o.count o.innermost (omega (arith, longer ns x)) (kept_links ns (ns ++ x ∷ []) (length ns) o.count o.innermost (agrees_pushed ns x) l)

-- ---- an element more, whose node links the one around it

-- the open elements with this one within them
abbrev pub within : ℕ → Opened → Opened
within k o = record { count = o.count + 1; innermost = k }

abbrev pub shown_node : Node → OpenElement
shown_node n = record { name = start_name n.token; at = n.span.from }

one_more : (c : ℕ) → c + 1 ≡ suc c
one_more c = omega arith

module _ (ns : List Node) (x : Node) (o : Opened) (link : x.next ≡ o.innermost) (l : AreLinked ns o) where
  linked_last : next_at (ns ++ x ∷ []) (length ns) ≡ o.innermost
  linked_last = item_last (λ (n : Node). n.next) 0 ns x ∙ link

  pub opened_numbers : open_node_numbers (ns ++ x ∷ []) (within (length ns) o) ≡ length ns ∷ open_node_numbers ns o
  opened_numbers =
      ap (λ (c : ℕ). open_node_numbers_from (ns ++ x ∷ []) c (length ns)) (one_more o.count)
      ∙ ap (λ (k : ℕ). length ns ∷ open_node_numbers_from (ns ++ x ∷ []) o.count k) linked_last
      ∙ ap (λ (ks : List ℕ). length ns ∷ ks) (leaf_numbers ns x o l)

  pub opened_opens : opens (ns ++ x ∷ []) (within (length ns) o) ≡ shown_node x ∷ opens ns o
  opened_opens =
      ap (λ (c : ℕ). map (open_at (ns ++ x ∷ [])) (open_node_numbers_from (ns ++ x ∷ []) c (length ns))) (one_more o.count)
      ∙ ap (λ (k : ℕ). open_at (ns ++ x ∷ []) (length ns) ∷ map (open_at (ns ++ x ∷ [])) (open_node_numbers_from (ns ++ x ∷ []) o.count k)) linked_last
      ∙ ap (λ (os : List OpenElement). open_at (ns ++ x ∷ []) (length ns) ∷ os) (leaf_opens ns x o l)
      ∙ ap (λ (t : List ℕ). record { name = t; at = get_or (map (λ (n : Node). n.span.from) (ns ++ x ∷ [])) (length ns) 0 } ∷ opens ns o) (item_last (λ (n : Node). start_name n.token) [] ns x)
      ∙ ap (λ (k : ℕ). record { name = start_name x.token; at = k } ∷ opens ns o) (item_last (λ (n : Node). n.span.from) 0 ns x)

  pub opened_links : AreLinked (ns ++ x ∷ []) (within (length ns) o)
  opened_links =
      subst (λ (c : ℕ). LinkedFrom (ns ++ x ∷ []) (length (ns ++ x ∷ [])) c (length ns)) (sym (one_more o.count))
      (longer ns x, subst (λ (k : ℕ). LinkedFrom (ns ++ x ∷ []) (length ns) o.count k) (sym linked_last) (kept_links ns (ns ++ x ∷ []) (length ns) o.count o.innermost (agrees_pushed ns x) l))

-- ---- an element less

agrees_ended : (k from to next : ℕ) (ns : List Node) → Agrees ns (ended_at k from to next ns) k
agrees_ended k from to next ns = record {
  next = λ j lt. item_before (λ (n : Node). n.next) 0 k from to next ns j lt;
  shown = λ j lt. ap (λ (l : List ℕ). record { name = l; at = get_or (map (λ (n : Node). n.span.from) (ended_at k from to next ns)) j 0 }) (item_before (λ (n : Node). start_name n.token) [] k from to next ns j lt)
      ∙ ap (λ (i : ℕ). record { name = get_or (map (λ (n : Node). start_name n.token) ns) j []; at = i }) (item_before (λ (n : Node). n.span.from) 0 k from to next ns j lt);
}

some_open : (o : Opened) → o.count ≢ 0 → o.count ≡ suc (o.count - 1)
some_open o ne = omega arith

-- what is open without the innermost element, whose node is m
abbrev pub without : Opened → Node → Opened
without o m = record { count = o.count - 1; innermost = m.next }

module _ (ns : List Node) (o : Opened) (m : Node) (ne : o.count ≢ 0) (l : AreLinked ns o) where
  first_links : (o.innermost < length ns) × LinkedFrom ns o.innermost (o.count - 1) (next_at ns o.innermost)
  first_links = subst (λ (c : ℕ). LinkedFrom ns (length ns) c o.innermost) (some_open o ne) l

  pub first_within : o.innermost < length ns
  first_within = first_links.0

  pub first_numbers : open_node_numbers ns o ≡ o.innermost ∷ open_node_numbers_from ns (o.count - 1) (next_at ns o.innermost)
  first_numbers = ap (λ (c : ℕ). open_node_numbers_from ns c o.innermost) (some_open o ne)

  module _ (is : m ≡ get_or ns o.innermost m) where
    link_is : m.next ≡ next_at ns o.innermost
    link_is = sym (item_at (λ (n : Node). n.next) 0 ns o.innermost m first_links.0 is)

    rest_links : LinkedFrom ns o.innermost (o.count - 1) m.next
    rest_links = subst (λ (k : ℕ). LinkedFrom ns o.innermost (o.count - 1) k) (sym link_is) first_links.1

    pub first_opens : opens ns o ≡ shown_node m ∷ map (open_at ns) (open_node_numbers_from ns (o.count - 1) m.next)
    first_opens =
        ap (map (open_at ns)) first_numbers
        ∙ ap (λ (k : ℕ). open_at ns o.innermost ∷ map (open_at ns) (open_node_numbers_from ns (o.count - 1) k)) (sym link_is)
        ∙ ap (λ (t : List ℕ). record { name = t; at = get_or (map (λ (n : Node). n.span.from) ns) o.innermost 0 } ∷ map (open_at ns) (open_node_numbers_from ns (o.count - 1) m.next)) (item_at (λ (n : Node). start_name n.token) [] ns o.innermost m first_links.0 is)
        ∙ ap (λ (k : ℕ). record { name = start_name m.token; at = k } ∷ map (open_at ns) (open_node_numbers_from ns (o.count - 1) m.next)) (item_at (λ (n : Node). n.span.from) 0 ns o.innermost m first_links.0 is)

    module _ (from to next : ℕ) where
      pub closed_numbers : open_node_numbers ns o ≡ o.innermost ∷ open_node_numbers (ended_at o.innermost from to next ns) (without o m)
      closed_numbers =
          first_numbers
          ∙ ap (λ (k : ℕ). o.innermost ∷ open_node_numbers_from ns (o.count - 1) k) (sym link_is)
          ∙ ap (λ (ks : List ℕ). o.innermost ∷ ks) (sym (kept_numbers ns (ended_at o.innermost from to next ns) o.innermost (o.count - 1) m.next (agrees_ended o.innermost from to next ns) rest_links))

      pub closed_opens : opens ns o ≡ shown_node m ∷ opens (ended_at o.innermost from to next ns) (without o m)
      closed_opens = first_opens ∙ ap (λ (os : List OpenElement). shown_node m ∷ os) (sym (kept_opens ns (ended_at o.innermost from to next ns) o.innermost (o.count - 1) m.next (agrees_ended o.innermost from to next ns) rest_links))

      pub closed_links : AreLinked (ended_at o.innermost from to next ns) (without o m)
      closed_links =
          wider (ended_at o.innermost from to next ns) o.innermost (length (ended_at o.innermost from to next ns)) (o.count - 1) m.next (omega (arith, first_links.0, length_ended o.innermost from to next ns))
          (kept_links ns (ended_at o.innermost from to next ns) o.innermost (o.count - 1) m.next (agrees_ended o.innermost from to next ns) rest_links)
