-- A node that is made as the first child grows the forest under its parent.
use Rattle.std.proofs.Common.{◌≡◌, ◌≢◌, ℕ, Option, Some, None, List, [], ◌∷◌, ◌++◌, option_map, refl, sym, ap, ◌∙◌, subst}
use Rattle.ve_arena.specs.declared.node.NodeId.{NodeId}
use Rattle.ve_arena.specs.declared.node.NodeWhat.{NodeWhat}
use Rattle.ve_arena.specs.declared.node.ArenaNode.{ArenaNode}
use Rattle.ve_arena.specs.Arena.{slot_at, new_node, with_len, with_first, with_before, Changes}
use Rattle.ve_tree.specs.Links.{number_of, link_in, links_of, first_or, last_or, AreSiblings, Children, Apart, AllApart}
use Rattle.ve_tree.specs.Named.{Named, NoNode, NamedRun, NamedBranch, heads, node_numbers, IsShown, Shows}
use Rattle.ve_tree.specs.Grown.{id_of, with_both_ends, with_children, IsChildless, AllVacant, Grown, first_in, MadeOnly, MadeBefore, MadeFirst}

abbrev pub Slots : Type 0
Slots = List (Option ArenaNode)

none_or_some : {A B : Type 0} (f : A → B) (o : Option A) (b : B) → option_map f o ≡ Some b → o ≢ None
none_or_some f o b h e = let k : option_map f None ≡ Some b = subst (λ o. option_map f o ≡ Some b) e h in absurd (cc)

-- lists of distinct numbers
pub apart-ls : (n : ℕ) (ls rs : List ℕ) → Apart n (ls ++ rs) → Apart n ls
apart-ls n [] rs h = tt
apart-ls n (m ∷ ls) rs h = (h.0, apart-ls n ls rs h.1)

pub apart-rs : (n : ℕ) (ls rs : List ℕ) → Apart n (ls ++ rs) → Apart n rs
apart-rs n [] rs h = h
apart-rs n (m ∷ ls) rs h = apart-rs n ls rs h.1

pub apart-join : (n : ℕ) (ls rs : List ℕ) → Apart n ls → Apart n rs → Apart n (ls ++ rs)
apart-join n [] rs l r = r
apart-join n (m ∷ ls) rs l r = (l.0, apart-join n ls rs l.1 r)

pub all-ls : (ls rs : List ℕ) → AllApart (ls ++ rs) → AllApart ls
all-ls [] rs h = tt
all-ls (n ∷ ls) rs h = (apart-ls n ls rs h.0, all-ls ls rs h.1)

pub all-rs : (ls rs : List ℕ) → AllApart (ls ++ rs) → AllApart rs
all-rs [] rs h = h
all-rs (n ∷ ls) rs h = all-rs ls rs h.1

-- each of the first is none of the second
abbrev pub Disjoint : List ℕ → List ℕ → Type 0
Disjoint [] ms = Unit {0}
Disjoint (n ∷ ns) ms = Apart n ms × Disjoint ns ms

pub all-join : (ls rs : List ℕ) → AllApart ls → AllApart rs → Disjoint ls rs → AllApart (ls ++ rs)
all-join [] rs l r d = r
all-join (n ∷ ls) rs l r d = (apart-join n ls rs l.0 d.0, all-join ls rs l.1 r d.1)

pub apart-turned : (n : ℕ) (ms : List ℕ) → Disjoint ms (n ∷ []) → Apart n ms
apart-turned n [] d = tt
apart-turned n (m ∷ ms) d = (λ e. d.0.0 (sym e), apart-turned n ms d.1)

pub disjoint-turned : (n : ℕ) (ms : List ℕ) → Apart n ms → Disjoint ms (n ∷ [])
disjoint-turned n [] a = tt
disjoint-turned n (m ∷ ms) a = ((λ e. a.0 (sym e), tt), disjoint-turned n ms a.1)

disjoint-first : (ns : List ℕ) (m : ℕ) (ms : List ℕ) → Disjoint ns (m ∷ ms) → Disjoint ns (m ∷ [])
disjoint-first [] m ms d = tt
disjoint-first (n ∷ ns) m ms d = ((d.0.0, tt), disjoint-first ns m ms d.1)

pub disjoint-cons : (ns : List ℕ) (m : ℕ) (ms : List ℕ) → Apart m ns → Disjoint ns ms → Disjoint ns (m ∷ ms)
disjoint-cons [] m ms a d = tt
disjoint-cons (n ∷ ns) m ms a d = ((λ e. a.0 (sym e), d.0), disjoint-cons ns m ms a.1 d.1)

pub disjoint-swap : (ns ms : List ℕ) → Disjoint ns ms → Disjoint ms ns
disjoint-swap ns [] d = tt
disjoint-swap ns (m ∷ ms) d = (apart-turned m ns (disjoint-first ns m ms d), disjoint-swap ns ms (rest ns d))
  where
    rest : (ns : List ℕ) → Disjoint ns (m ∷ ms) → Disjoint ns ms
    rest [] d = tt
    rest (n ∷ ns) d = (d.0.1, rest ns d.1)

-- every slot of the list is as before
abbrev pub AllSame : Slots → Slots → List ℕ → Type 0
AllSame new old [] = Unit {0}
AllSame new old (n ∷ ns) = (slot_at new n ≡ slot_at old n) × AllSame new old ns

pub same-where : (new old : Slots) (bad ns : List ℕ) → ((q : ℕ) → Apart q bad → slot_at new q ≡ slot_at old q) → Disjoint ns bad → AllSame new old ns
same-where new old bad [] h d = tt
same-where new old bad (n ∷ ns) h d = (h n d.0, same-where new old bad ns h d.1)

pub same-ls : (new old : Slots) (ls rs : List ℕ) → AllSame new old (ls ++ rs) → AllSame new old ls
same-ls new old [] rs h = tt
same-ls new old (n ∷ ls) rs h = (h.0, same-ls new old ls rs h.1)

pub same-rs : (new old : Slots) (ls rs : List ℕ) → AllSame new old (ls ++ rs) → AllSame new old rs
same-rs new old [] rs h = h
same-rs new old (n ∷ ls) rs h = same-rs new old ls rs h.1

pub same-heads : (new old : Slots) (f : Named) → AllSame new old (node_numbers f) → AllSame new old (heads f)
same-heads new old NoNode h = tt
same-heads new old (NamedRun n count later) h = (h.0, same-heads new old later h.1)
same-heads new old (NamedBranch n kind inside later) h = (h.0, same-heads new old later (same-rs new old (node_numbers inside) (node_numbers later) h.1))

pub row-same : (new old : Slots) (p : ℕ) (start : Option ℕ) (ns : List ℕ) (end : Option ℕ) → AllSame new old ns →
    AreSiblings (links_of old).parent (links_of old).before (links_of old).after p start ns end →
    AreSiblings (links_of new).parent (links_of new).before (links_of new).after p start ns end
row-same new old p start [] end h r = tt
row-same new old p start (n ∷ ns) end h r = (
  ap (link_in (λ node. node.parent)) h.0 ∙ r.0,
  ap (link_in (λ node. node.before)) h.0 ∙ r.1,
  ap (link_in (λ node. node.after)) h.0 ∙ r.2,
  row-same new old p (Some n) ns end h.1 r.3,
)

-- a node without its parent and siblings
abbrev pub core : ArenaNode → ArenaNode
core node = record node { parent = None; before = None; after = None }

core-what : (o : Option ArenaNode) → option_map (λ node. node.what) (option_map core o) ≡ option_map (λ node. node.what) o
core-what None = refl
core-what (Some node) = refl

core-len : (o : Option ArenaNode) → option_map (λ node. node.len) (option_map core o) ≡ option_map (λ node. node.len) o
core-len None = refl
core-len (Some node) = refl

core-first : (o : Option ArenaNode) → link_in (λ node. node.first) (option_map core o) ≡ link_in (λ node. node.first) o
core-first None = refl
core-first (Some node) = refl

core-last : (o : Option ArenaNode) → link_in (λ node. node.last) (option_map core o) ≡ link_in (λ node. node.last) o
core-last None = refl
core-last (Some node) = refl

core-before : (n : NodeId) (o : Option ArenaNode) → option_map core (option_map (with_before (Some n)) o) ≡ option_map core o
core-before n None = refl
core-before n (Some node) = refl

pub shown-core : (new old : Slots) (n : ℕ) (sort : NodeWhat) (len : ℕ) (kids : List ℕ) → option_map core (slot_at new n) ≡ option_map core (slot_at old n) → AllSame new old kids →
    IsShown old n sort len kids → IsShown new n sort len kids
shown-core new old n sort len kids c same s = record {
  sort_is = sym (core-what (slot_at new n)) ∙ ap (option_map (λ node. node.what)) c ∙ core-what (slot_at old n) ∙ s.sort_is;
  len_is = sym (core-len (slot_at new n)) ∙ ap (option_map (λ node. node.len)) c ∙ core-len (slot_at old n) ∙ s.len_is;
  children = record {
    first = sym (core-first (slot_at new n)) ∙ ap (link_in (λ node. node.first)) c ∙ core-first (slot_at old n) ∙ s.children.first;
    last = sym (core-last (slot_at new n)) ∙ ap (link_in (λ node. node.last)) c ∙ core-last (slot_at old n) ∙ s.children.last;
    row = row-same new old n None kids None same s.children.row;
  };
}

pub shows-same : (new old : Slots) (f : Named) → AllSame new old (node_numbers f) → Shows old f → Shows new f
shows-same new old NoNode same s = tt
shows-same new old (NamedRun n count later) same s =
    (shown-core new old n _ count [] (ap (option_map core) same.0) tt s.0, shows-same new old later same.1 s.1)
shows-same new old (NamedBranch n kind inside later) same s =
    let in_ = same-ls new old (node_numbers inside) (node_numbers later) same.1 in (
      shown-core new old n _ _ (heads inside) (ap (option_map core) same.0) (same-heads new old inside in_) s.0,
      shows-same new old inside in_ s.1,
      shows-same new old later (same-rs new old (node_numbers inside) (node_numbers later) same.1) s.2,
    )

-- a vacant number is none of a forest that is shown
pub shows-apart : (slots : Slots) (n : ℕ) (f : Named) → slot_at slots n ≡ None → Shows slots f → Apart n (node_numbers f)
shows-apart slots n NoNode v s = tt
shows-apart slots n (NamedRun m count later) v s = (not-shown m s.0, shows-apart slots n later v s.1)
  where
    not-shown : (m : ℕ) {sort : NodeWhat} {len : ℕ} {kids : List ℕ} → IsShown slots m sort len kids → n ≢ m
    not-shown m h e = none_or_some (λ (node : ArenaNode). node.what) (slot_at slots m) _ h.sort_is (sym (ap (slot_at slots) e) ∙ v)
shows-apart slots n (NamedBranch m kind inside later) v s =
    (not-shown m s.0, apart-join n (node_numbers inside) (node_numbers later) (shows-apart slots n inside v s.1) (shows-apart slots n later v s.2))
  where
    not-shown : (m : ℕ) {sort : NodeWhat} {len : ℕ} {kids : List ℕ} → IsShown slots m sort len kids → n ≢ m
    not-shown m h e = none_or_some (λ (node : ArenaNode). node.what) (slot_at slots m) _ h.sort_is (sym (ap (slot_at slots) e) ∙ v)

vacant-apart : (slots : Slots) (f : Named) (ns : List ℕ) → AllVacant slots ns → Shows slots f → Disjoint ns (node_numbers f)
vacant-apart slots f [] v s = tt
vacant-apart slots f (n ∷ ns) v s = (shows-apart slots n f v.0 s, vacant-apart slots f ns v.1 s)

vacant-not : (slots : Slots) (p : ℕ) (ns : List ℕ) → slot_at slots p ≢ None → AllVacant slots ns → Apart p ns
vacant-not slots p [] live v = tt
vacant-not slots p (n ∷ ns) live v = (λ e. live (ap (slot_at slots) e ∙ v.0), vacant-not slots p ns live v.1)

vacant-back : (new old : Slots) (ns : List ℕ) → AllSame new old ns → AllVacant new ns → AllVacant old ns
vacant-back new old [] same v = tt
vacant-back new old (n ∷ ns) same v = (sym same.0 ∙ v.0, vacant-back new old ns same.1 v.1)

vacant-join : (slots : Slots) (ls rs : List ℕ) → AllVacant slots ls → AllVacant slots rs → AllVacant slots (ls ++ rs)
vacant-join slots [] rs l r = r
vacant-join slots (n ∷ ls) rs l r = (l.0, vacant-join slots ls rs l.1 r)

-- what the arena has after n was made the first child of p
record Added (cur s1 : Slots) (n p : ℕ) (sort : NodeWhat) (node : ArenaNode) (f : Named) : Type 0 where
  made : slot_at s1 n ≡ Some (record (new_node sort) { parent = Some (id_of p); after = option_map id_of (first_or (heads f) None) })
  above : slot_at s1 p ≡ Some (with_children (n ∷ heads f) node)
  row : AreSiblings (links_of s1).parent (links_of s1).before (links_of s1).after p (Some n) (heads f) None
  shown : Shows s1 f
  others : (q : ℕ) → Apart q (n ∷ p ∷ node_numbers f) → slot_at s1 q ≡ slot_at cur q

-- p, whose children are the forest's, is a node with these ends
pub above_is : (old cur : Slots) (p : ℕ) (f : Named) (node : ArenaNode) → slot_at old p ≡ Some node → Grown old cur p f →
    slot_at cur p ≡ Some (with_children (heads f) node)
above_is old cur p f node here g = g.own ∙ ap (option_map (with_children (heads f))) here

before-parent : (n : NodeId) (o : Option ArenaNode) → link_in (λ node. node.parent) (option_map (with_before (Some n)) o) ≡ link_in (λ node. node.parent) o
before-parent n None = refl
before-parent n (Some node) = refl

before-after : (n : NodeId) (o : Option ArenaNode) → link_in (λ node. node.after) (option_map (with_before (Some n)) o) ≡ link_in (λ node. node.after) o
before-after n None = refl
before-after n (Some node) = refl

before-before : (n : NodeId) (o : Option ArenaNode) (m : ℕ) → link_in (λ node. node.parent) o ≡ Some m → link_in (λ node. node.before) (option_map (with_before (Some n)) o) ≡ Some n.0
before-before n None m h = absurd (cc)
before-before n (Some node) m h = refl

-- the first sibling has n before it, and those after it are as before
row-added : (cur s1 : Slots) (n p h : ℕ) (hs : List ℕ) → slot_at s1 h ≡ option_map (with_before (Some (id_of n))) (slot_at cur h) → AllSame s1 cur hs →
    AreSiblings (links_of cur).parent (links_of cur).before (links_of cur).after p None (h ∷ hs) None →
    AreSiblings (links_of s1).parent (links_of s1).before (links_of s1).after p (Some n) (h ∷ hs) None
row-added cur s1 n p h hs beside same r = (
  ap (link_in (λ node. node.parent)) beside ∙ before-parent (id_of n) (slot_at cur h) ∙ r.0,
  ap (link_in (λ node. node.before)) beside ∙ before-before (id_of n) (slot_at cur h) p r.0,
  ap (link_in (λ node. node.after)) beside ∙ before-after (id_of n) (slot_at cur h) ∙ r.2,
  row-same s1 cur p (Some h) hs None same r.3,
)

core-beside : (cur s1 : Slots) (n h : ℕ) → slot_at s1 h ≡ option_map (with_before (Some (id_of n))) (slot_at cur h) → option_map core (slot_at s1 h) ≡ option_map core (slot_at cur h)
core-beside cur s1 n h e = ap (option_map core) e ∙ core-before (id_of n) (slot_at cur h)

added : (old cur s1 : Slots) (n p : ℕ) (sort : NodeWhat) (node : ArenaNode) (f : Named) → slot_at old p ≡ Some node → Grown old cur p f → slot_at cur n ≡ None →
    MadeFirst (first_in (slot_at cur p)) cur s1 n p sort → Added cur s1 n p sort node f
added old cur s1 n p sort node NoNode here g vacant m =
    let above = above_is old cur p NoNode node here g in
    let made : MadeOnly cur s1 n p sort = subst (λ o. MadeFirst (first_in o) cur s1 n p sort) above m in
    record {
      made = made.made;
      above = made.above ∙ ap (option_map (with_both_ends (Some (id_of n)) (Some (id_of n)))) above;
      row = tt;
      shown = tt;
      others = λ q a. made.others q a.0 a.1.0;
    }
added old cur s1 n p sort node (NamedRun h count later) here g vacant m =
    let f = NamedRun h count later in
    let above = above_is old cur p f node here g in
    let made : MadeBefore cur s1 n p h sort = subst (λ o. MadeFirst (first_in o) cur s1 n p sort) above m in
    let apart_n = shows-apart cur n f vacant g.shown in
    let same : AllSame s1 cur (node_numbers later) = same-where s1 cur (n ∷ p ∷ h ∷ []) (node_numbers later) (λ q a. made.others q a.0 a.1.0 a.1.1.0)
    (disjoint-cons (node_numbers later) n (p ∷ h ∷ []) apart_n.1
    (disjoint-cons (node_numbers later) p (h ∷ []) g.apart.0.1 (disjoint-turned h (node_numbers later) g.apart.1.0))) in
    record {
      made = made.made;
      above = made.above ∙ ap (option_map (with_first (Some (id_of n)))) above;
      row = row-added cur s1 n p h (heads later) made.beside (same-heads s1 cur later same) g.children.row;
      shown = (shown-core s1 cur h _ count [] (core-beside cur s1 n h made.beside) tt g.shown.0, shows-same s1 cur later same g.shown.1);
      others = λ q a. made.others q a.0 a.1.0 a.1.1.0;
    }
added old cur s1 n p sort node (NamedBranch h kind inside later) here g vacant m =
    let f = NamedBranch h kind inside later in
    let above = above_is old cur p f node here g in
    let made : MadeBefore cur s1 n p h sort = subst (λ o. MadeFirst (first_in o) cur s1 n p sort) above m in
    let apart_n = shows-apart cur n f vacant g.shown in
    let rest = node_numbers inside ++ node_numbers later in
    let same : AllSame s1 cur rest = same-where s1 cur (n ∷ p ∷ h ∷ []) rest (λ q a. made.others q a.0 a.1.0 a.1.1.0)
    (disjoint-cons rest n (p ∷ h ∷ []) apart_n.1 (disjoint-cons rest p (h ∷ []) g.apart.0.1 (disjoint-turned h rest g.apart.1.0))) in
    let in_ = same-ls s1 cur (node_numbers inside) (node_numbers later) same in
    let after_ = same-rs s1 cur (node_numbers inside) (node_numbers later) same in
    record {
      made = made.made;
      above = made.above ∙ ap (option_map (with_first (Some (id_of n)))) above;
      row = row-added cur s1 n p h (heads later) made.beside (same-heads s1 cur later after_) g.children.row;
      shown = (
        shown-core s1 cur h _ _ (heads inside) (core-beside cur s1 n h made.beside) (same-heads s1 cur inside in_) g.shown.0,
        shows-same s1 cur inside in_ g.shown.1,
        shows-same s1 cur later after_ g.shown.2,
      );
      others = λ q a. made.others q a.0 a.1.0 a.1.1.0;
    }

-- n with the forest g is the first child of p, before the forest f
pub record GrownMore (old new : Slots) (p n : ℕ) (sort : NodeWhat) (len : ℕ) (g f : Named) : Type 0 where
  pub apart : AllApart (p ∷ n ∷ (node_numbers g ++ node_numbers f))
  pub fresh : AllVacant old (n ∷ (node_numbers g ++ node_numbers f))
  pub node : IsShown new n sort len (heads g)
  pub inside : Shows new g
  pub later : Shows new f
  pub children : Children (links_of new) p (n ∷ heads f)
  pub own : slot_at new p ≡ option_map (with_children (n ∷ heads f)) (slot_at old p)
  pub others : (q : ℕ) → Apart q (p ∷ n ∷ (node_numbers g ++ node_numbers f)) → slot_at new q ≡ slot_at old q

pub grown_more : (old cur s1 s2 s3 : Slots) (p n : ℕ) (sort : NodeWhat) (len : ℕ) (g f : Named) (above : IsChildless old p) → Grown old cur p f →
    slot_at cur n ≡ None → MadeFirst (first_in (slot_at cur p)) cur s1 n p sort → Grown s1 s2 n g → Changes s2 s3 (id_of n) (with_len len) →
    GrownMore old s3 p n sort len g f
grown_more old cur s1 s2 s3 p n sort len g f above G vacant made H W = record {
  apart = ((λ e. p_not_n e, apart-join p (node_numbers g) (node_numbers f) p_g G.apart.0), (apart-join n (node_numbers g) (node_numbers f) H.apart.0 n_f, all-join (node_numbers g) (node_numbers f) H.apart.1 G.apart.1 g_f));
  fresh = (old_n, vacant-join old (node_numbers g) (node_numbers f) (vacant-back s1 old (node_numbers g) s1_old_g H.fresh) G.fresh);
  node = record {
    sort_is = ap (option_map (λ node. node.what)) n_is;
    len_is = ap (option_map (λ node. node.len)) n_is;
    children = record {
      first = ap (link_in (λ node. node.first)) n_is ∙ first_back (heads g);
      last = ap (link_in (λ node. node.last)) n_is ∙ last_back (heads g);
      row = row-same s3 s2 n None (heads g) None (same-heads s3 s2 g s3_s2_g) H.children.row;
    };
  };
  inside = shows-same s3 s2 g s3_s2_g H.shown;
  later = shows-same s3 s1 f s3_s1_f A.shown;
  children = record {
    first = ap (link_in (λ node. node.first)) p_is;
    last = ap (link_in (λ node. node.last)) p_is ∙ last_back (n ∷ heads f);
    row = (
      ap (link_in (λ node. node.parent)) n_is,
      ap (link_in (λ node. node.before)) n_is,
      ap (link_in (λ node. node.after)) n_is ∙ first_back (heads f),
      row-same s3 s1 p (Some n) (heads f) None (same-heads s3 s1 f s3_s1_f) A.row,
    );
  };
  own = p_is ∙ sym (ap (option_map (with_children (n ∷ heads f))) above.here);
  others = λ q a.
      let a_g = apart-ls q (node_numbers g) (node_numbers f) a.1.1 in
      let a_f = apart-rs q (node_numbers g) (node_numbers f) a.1.1 in
      W.others q a.1.0 ∙ H.others q (a.1.0, a_g) ∙ A.others q (a.1.0, (a.0, a_f)) ∙ G.others q (a.0, a_f);
}
  where
    A : Added cur s1 n p sort above.node f
    A = added old cur s1 n p sort above.node f above.here G vacant made

    first_back : (ns : List ℕ) → option_map number_of (option_map id_of (first_or ns None)) ≡ first_or ns None
    first_back [] = refl
    first_back (m ∷ ms) = refl

    last_back : (ns : List ℕ) → option_map number_of (option_map id_of (last_or None ns)) ≡ last_or None ns
    last_back [] = refl
    last_back (m ∷ ms) = refl

    cur_p : slot_at cur p ≡ Some (with_children (heads f) above.node)
    cur_p = above_is old cur p f above.node above.here G

    live_cur : slot_at cur p ≢ None
    live_cur e = let k : ◌≡◌ {A = Option ArenaNode} (Some (with_children (heads f) above.node)) None = sym cur_p ∙ e in absurd (cc)

    live_s1 : slot_at s1 p ≢ None
    live_s1 e = let k : ◌≡◌ {A = Option ArenaNode} (Some (with_children (n ∷ heads f) above.node)) None = sym A.above ∙ e in absurd (cc)

    p_not_n : p ≢ n
    p_not_n e = live_cur (ap (slot_at cur) e ∙ vacant)

    n_f : Apart n (node_numbers f)
    n_f = shows-apart cur n f vacant G.shown

    p_g : Apart p (node_numbers g)
    p_g = vacant-not s1 p (node_numbers g) live_s1 H.fresh

    g_f : Disjoint (node_numbers g) (node_numbers f)
    g_f = vacant-apart s1 f (node_numbers g) H.fresh A.shown

    old_n : slot_at old n ≡ None
    old_n = sym (G.others n ((λ e. p_not_n (sym e)), n_f)) ∙ vacant

    s1_old_g : AllSame s1 old (node_numbers g)
    s1_old_g = same-where s1 old (n ∷ p ∷ node_numbers f) (node_numbers g) (λ q a. A.others q a ∙ G.others q a.1)
        (disjoint-cons (node_numbers g) n (p ∷ node_numbers f) H.apart.0 (disjoint-cons (node_numbers g) p (node_numbers f) p_g g_f))

    n_is : slot_at s3 n ≡ Some (with_len len (with_children (heads g) (record (new_node sort) { parent = Some (id_of p); after = option_map id_of (first_or (heads f) None) })))
    n_is = W.here ∙ ap (option_map (with_len len)) (H.own ∙ ap (option_map (with_children (heads g))) A.made)

    s3_s2_g : AllSame s3 s2 (node_numbers g)
    s3_s2_g = same-where s3 s2 (n ∷ []) (node_numbers g) (λ q a. W.others q a.0) (disjoint-turned n (node_numbers g) H.apart.0)

    s3_s1_f : AllSame s3 s1 (node_numbers f)
    s3_s1_f = same-where s3 s1 (n ∷ node_numbers g) (node_numbers f) (λ q a. W.others q a.0 ∙ H.others q a)
        (disjoint-cons (node_numbers f) n (node_numbers g) n_f (disjoint-swap (node_numbers g) (node_numbers f) g_f))

    p_is : slot_at s3 p ≡ Some (with_children (n ∷ heads f) above.node)
    p_is = W.others p p_not_n ∙ H.others p (p_not_n, p_g) ∙ A.above
