-- The loop over a group.
use Rattle.std.proofs.Common.{◌≡◌, ℕ, zero, suc, ◌+◌, ◌<◌, ◌≤◌, Bool, true, false, ◌&&◌, List, [], ◌∷◌, Option, Some, None, refl, sym, ap, ◌∙◌, subst, arith, if◌then◌else◌, length}
use Rattle.std.specs.Prelude.{slice_get}
use Rattle.model_spelling.specs.Grammar as g
use Rattle.model_spelling.specs.Grammar.{Attr}
use Rattle.model_spelling.specs.Forest.{Forest, Nothing, Text, Remark, Void, RawElement, Element, spelling}
use Rattle.model_spelling.specs.ForestNodes.{ForestNode, forest_size}
use Rattle.model_page.specs.Elements.{is_white, is_held}
use Rattle.model_page.specs.Parts.{Parts, Ended, Words, Note, Group, Single, Parent, about_in, is_shared, parts_of}
use Rattle.ve_html_scan.specs.Shown.{ShowsToken}
use Rattle.ve_html_tree.specs.declared.node.Node.{Node}
use Rattle.ve_classify.specs.Standing.{StartsPast, ShownFrom, Stands, has_node, token_white}
use Rattle.ve_classify.specs.Standing.{rest_of, first_count}
use Rattle.ve_classify.specs.Groups.{element_joins, joins_at, token_about}
use Rattle.ve_html_tree.specs.Nodes.{ShowNodes}
use Rattle.std.proofs.Common.{◌≢◌, drop}
use Rattle.std.proofs.lemmas.Slice.Eq.{bytes_eq-Decides}
use Rattle.ve_classify.proofs.StandLemmas.{first_shown, first_of, first_token, first_length, stands_rest, none_left}
use Rattle.ve_classify.proofs.GroupLemmas.{absorbed, absorbed_by, held_begins, first_held, group_held, about_held}

-- the `about` of the first node
pub about_first : (f : Forest) → has_node f ≡ true → about_in f ≡ token_about (first_token f)
about_first Nothing e = absurd cc
about_first (Text text rest) e = refl
about_first (Remark text rest) e = refl
about_first (Void name attrs slash rest) e = refl
about_first (RawElement name attrs text rest) e = refl
about_first (Element name attrs children rest) e = refl

-- what a forest gives to a group of this `about` before it, where its first node has the same
pub absorbs_first : (about : List ℕ) (f : Forest) (other : List ℕ) → about_in f ≡ Some other → is_shared (Some about) (Some other) ≡ true → absorbed about (parts_of f) ≡ first_count f + absorbed other (parts_of (rest_of f))
absorbs_first about f other e s =
    let b = held_begins f (about_held f other e) in
    let same : absorbed_by (about_in f) (parts_of (rest_of f)) ≡ absorbed other (parts_of (rest_of f)) = ap (λ (o : Option (List ℕ)). absorbed_by o (parts_of (rest_of f))) e in
    let shared : is_shared (Some about) (about_in b.nodes) ≡ true = ap (is_shared (Some about)) (b.about_is ∙ e) ∙ s in
    ap (absorbed about) b.is ∙ rw shared (b.counts ∙ ap (λ (k : ℕ). first_count f + k) same)

abbrev group_nodes_count : Parts → ℕ
group_nodes_count (Group nodes later) = forest_size nodes
group_nodes_count Ended = 0
group_nodes_count (Words text later) = 0
group_nodes_count (Note text later) = 0
group_nodes_count (Single name attrs source later) = 0
group_nodes_count (Parent name attrs children later) = 0

abbrev group_about : Parts → Option (List ℕ)
group_about (Group nodes later) = about_in nodes
group_about Ended = None
group_about (Words text later) = None
group_about (Note text later) = None
group_about (Single name attrs source later) = None
group_about (Parent name attrs children later) = None

pub held_some : (f : Forest) → first_held f ≡ true → has_node f ≡ true
held_some Nothing e = absurd cc
held_some (Text text rest) e = refl
held_some (Remark text rest) e = refl
held_some (Void name attrs slash rest) e = refl
held_some (RawElement name attrs text rest) e = refl
held_some (Element name attrs children rest) e = refl

-- a group whose first element has an `about`
pub group_counts : (f nodes : Forest) (later : Parts) (about : Option (List ℕ)) → parts_of f ≡ Group nodes later → about_in f ≡ about → forest_size nodes ≡ first_count f + absorbed_by about (parts_of (rest_of f))
group_counts f nodes later about e a =
    let b = held_begins f (group_held f nodes later e) in
    let same : Group b.nodes b.later ≡ Group nodes later = sym b.is ∙ e in
    ap group_nodes_count (sym same) ∙ b.counts ∙ ap (λ (o : Option (List ℕ)). first_count f + absorbed_by o (parts_of (rest_of f))) a

-- ---- after an element of a group

-- what is left of a group after an element of it: the element stands at the number `last`
pub record InGroup (nodes : List Node) (last : ℕ) (about : List ℕ) (more : List ForestNode) (end : ℕ) : Type 0 where
  pub forest : Forest
  pub at : ℕ
  pub stands : Stands nodes last at forest more
  pub some : has_node forest ≡ true
  pub end_is : end ≡ last + first_count forest + absorbed about (parts_of (rest_of forest))

-- at the first element
pub group_begins : (nodes : List Node) (n at : ℕ) (f kept : Forest) (later : Parts) (more : List ForestNode) (about : List ℕ) → Stands nodes n at f more → parts_of f ≡ Group kept later → about_in f ≡ Some about → InGroup nodes n about more (n + forest_size kept)
group_begins nodes n at f kept later more about s e a = record {
  forest = f;
  at = at;
  stands = s;
  some = held_some f (group_held f kept later e);
  end_is = omega (arith, group_counts f kept later (Some about) e a);
}

-- ---- the next sibling

pub sibling_is : (nodes : List Node) (n at : ℕ) (f : Forest) (more : List ForestNode) (x : Node) → Stands nodes n at f more → has_node f ≡ true → slice_get nodes n ≡ Some x →
    (x.next ≡ n + first_count f) × (x.span.to ≡ at + first_length f)
sibling_is nodes n at f more x s some is =
    let first = first_of nodes n at f more some s.shown in
    let same : first.node ≡ x = cc (first.is, is) in
    (sym (ap (λ (y : Node). y.next) same) ∙ first.next, sym (ap (λ (y : Node). y.span.to) same) ∙ first.to)

-- past the end of the nodes there is no node
not_past : (nodes : List Node) (n : ℕ) (x : Node) → length nodes ≤ n → slice_get nodes n ≡ Some x → ⊥
not_past [] zero x le e = absurd cc
not_past [] (suc n) x le e = absurd cc
not_past (y ∷ ys) zero x le e = absurd (omega (arith, le))
not_past (y ∷ ys) (suc n) x le e = not_past ys n x (omega (arith, le)) e

not_there : (nodes : List Node) (n : ℕ) (x : Node) → ShowNodes (drop n nodes) [] → slice_get nodes n ≡ Some x → ⊥
not_there [] zero x h e = absurd cc
not_there [] (suc n) x h e = absurd cc
not_there (y ∷ ys) zero x h e = absurd h
not_there (y ∷ ys) (suc n) x h e = not_there ys n x h e

past_first : (nodes : List Node) (n at : ℕ) (more : List ForestNode) (x : Node) → ShowNodes (drop n nodes) more → StartsPast at more → slice_get nodes n ≡ Some x → at < x.span.from
past_first nodes n at [] x h p e = absurd (not_there nodes n x h e)
past_first nodes n at (r ∷ rs) x h p e =
    let f = first_shown nodes n r rs h in
    let same : f.node ≡ x = cc (f.is, e) in
    omega (arith, p, f.shows.from, ap (λ (y : Node). y.span.from) same)

none_by : (nodes : List Node) (n at : ℕ) (f : Forest) (more : List ForestNode) (b : Bool) → has_node f ≡ b → ShownFrom nodes n at f more → length nodes ≤ n → b ≡ false
none_by nodes n at f more false e s le = refl
none_by nodes n at f more true e s le = let first = first_of nodes n at f more e s in absurd (not_past nodes n first.node le first.is)

pub none_after : (nodes : List Node) (n at : ℕ) (f : Forest) (more : List ForestNode) (x : Node) → Stands nodes n at f more → has_node f ≡ true → slice_get nodes n ≡ Some x → length nodes ≤ x.next →
    None ≡ (if has_node (rest_of f) then Some (n + first_count f) else None)
none_after nodes n at f more x s some is le =
    let next = (sibling_is nodes n at f more x s some is).0 in
    let r = stands_rest nodes n at f more s in
    rw (none_by nodes (n + first_count f) (at + first_length f) (rest_of f) more (has_node (rest_of f)) refl r.shown (omega (arith, le, next))) refl

apart_by : (nodes : List Node) (n at : ℕ) (f : Forest) (more : List ForestNode) (y : Node) (b : Bool) → has_node f ≡ b → ShownFrom nodes n at f more → slice_get nodes n ≡ Some y → y.span.from ≢ at → b ≡ false
apart_by nodes n at f more y false e s is ne = refl
apart_by nodes n at f more y true e s is ne =
    let first = first_of nodes n at f more e s in
    let same : first.node ≡ y = cc (first.is, is) in
    absurd (ne (sym (ap (λ (z : Node). z.span.from) same) ∙ first.from))

pub apart : (nodes : List Node) (n at : ℕ) (f : Forest) (more : List ForestNode) (x y : Node) → Stands nodes n at f more → has_node f ≡ true → slice_get nodes n ≡ Some x → slice_get nodes x.next ≡ Some y → y.span.from ≢ x.span.to →
    None ≡ (if has_node (rest_of f) then Some (n + first_count f) else None)
apart nodes n at f more x y s some is next ne =
    let here = sibling_is nodes n at f more x s some is in
    let r = stands_rest nodes n at f more s in
    rw (apart_by nodes (n + first_count f) (at + first_length f) (rest_of f) more y (has_node (rest_of f)) refl r.shown (subst (λ (k : ℕ). slice_get nodes k ≡ Some y) here.0 next) (λ e. ne (e ∙ sym here.1))) refl

touch_by : (nodes : List Node) (n at : ℕ) (f : Forest) (more : List ForestNode) (y : Node) (b : Bool) → has_node f ≡ b → Stands nodes n at f more → slice_get nodes n ≡ Some y → y.span.from ≡ at → b ≡ true
touch_by nodes n at f more y true e s is from = refl
touch_by nodes n at f more y false e s is from =
    let none = none_left f e in
    let shown : ShowNodes (drop n nodes) more = subst (λ (x : Forest). ShownFrom nodes n at x more) none s.shown in
    let past : StartsPast (at + 0) more = subst (λ (x : Forest). StartsPast (at + length (spelling x)) more) none s.past in
    absurd (omega (arith, past_first nodes n (at + 0) more y shown past is, from))

pub touch : (nodes : List Node) (n at : ℕ) (f : Forest) (more : List ForestNode) (x y : Node) → Stands nodes n at f more → has_node f ≡ true → slice_get nodes n ≡ Some x → slice_get nodes x.next ≡ Some y → y.span.from ≡ x.span.to →
    Some x.next ≡ (if has_node (rest_of f) then Some (n + first_count f) else None)
touch nodes n at f more x y s some is next same =
    let here = sibling_is nodes n at f more x s some is in
    let r = stands_rest nodes n at f more s in
    rw (touch_by nodes (n + first_count f) (at + first_length f) (rest_of f) more y (has_node (rest_of f)) refl r (subst (λ (k : ℕ). slice_get nodes k ≡ Some y) here.0 next) (same ∙ here.1)) (ap (λ (k : ℕ). Some k) here.0)

-- ---- the next element of a group

pub record IsSibling (n m : ℕ) (r : Forest) : Type 0 where
  pub some : has_node r ≡ true
  pub is : m ≡ n

some_by : (n m : ℕ) (r : Forest) (b : Bool) → has_node r ≡ b → Some m ≡ (if b then Some n else None) → IsSibling n m r
some_by n m r true e h = record { some = e; is = cc }
some_by n m r false e h = absurd cc

pub some_sibling : (n m : ℕ) (r : Forest) → Some m ≡ (if has_node r then Some n else None) → IsSibling n m r
some_sibling n m r h = some_by n m r (has_node r) refl h

no_sibling_by : (n : ℕ) (r : Forest) (b : Bool) → has_node r ≡ b → None ≡ (if b then Some n else None) → b ≡ false
no_sibling_by n r true e h = absurd cc
no_sibling_by n r false e h = refl

pub joins_none : (n : ℕ) (about : List ℕ) (r : Forest) → None ≡ (if has_node r then Some n else None) → None ≡ joins_at n about r
joins_none n about r h = ap (joins_at n about) (sym (none_left r (no_sibling_by n r (has_node r) refl h)))

pub joins_here : (n : ℕ) (about : List ℕ) (r : Forest) → is_shared (Some about) (about_in r) ≡ true → Some n ≡ joins_at n about r
joins_here n about Nothing e = absurd cc
joins_here n about (Text text rest) e = absurd cc
joins_here n about (Remark text rest) e = absurd cc
joins_here n about (Void name attrs slash rest) e = rw e refl
joins_here n about (RawElement name attrs text rest) e = rw e refl
joins_here n about (Element name attrs children rest) e = rw e refl

pub joins_not : (n : ℕ) (about : List ℕ) (r : Forest) → is_shared (Some about) (about_in r) ≡ false → token_white (first_token r) ≡ false → None ≡ joins_at n about r
joins_not n about Nothing e w = refl
joins_not n about (Text text rest) e w = rw w refl
joins_not n about (Remark text rest) e w = refl
joins_not n about (Void name attrs slash rest) e w = rw e refl
joins_not n about (RawElement name attrs text rest) e w = rw e refl
joins_not n about (Element name attrs children rest) e w = rw e refl

pub joins_white : (n : ℕ) (about : List ℕ) (r : Forest) → has_node r ≡ true → token_white (first_token r) ≡ true → joins_at n about r ≡ element_joins (n + first_count r) about (rest_of r)
joins_white n about Nothing e w = absurd cc
joins_white n about (Text text rest) e w = rw w refl
joins_white n about (Remark text rest) e w = absurd cc
joins_white n about (Void name attrs slash rest) e w = absurd cc
joins_white n about (RawElement name attrs text rest) e w = absurd cc
joins_white n about (Element name attrs children rest) e w = absurd cc

element_none : (n : ℕ) (about : List ℕ) (r : Forest) → None ≡ (if has_node r then Some n else None) → None ≡ element_joins n about r
element_none n about r h = ap (element_joins n about) (sym (none_left r (no_sibling_by n r (has_node r) refl h)))

-- what the code asks of the node of the first sibling
pub asked_first : (nodes : List Node) (n at : ℕ) (f : Forest) (more : List ForestNode) (x : Node) (P : g.Token → Type 0) → has_node f ≡ true → ShownFrom nodes n at f more → slice_get nodes n ≡ Some x → ((k : g.Token) → ShowsToken x.token k → P k) → P (first_token f)
asked_first nodes n at f more x P some s is asks =
    let first = first_of nodes n at f more some s in
    let same : first.node ≡ x = cc (first.is, is) in
    asks (first_token f) (subst (λ (y : Node). ShowsToken y.token (first_token f)) same first.token)

-- whether the sibling after shares the `about`
pub shares_next : (nodes : List Node) (n at : ℕ) (f : Forest) (more : List ForestNode) (about : List ℕ) (m : ℕ) (y : Node) (b : Bool) → Stands nodes n at f more → IsSibling (n + first_count f) m (rest_of f) → slice_get nodes m ≡ Some y →
    ((k : g.Token) → ShowsToken y.token k → b ≡ is_shared (Some about) (token_about k)) → is_shared (Some about) (about_in (rest_of f)) ≡ b
shares_next nodes n at f more about m y b s sib is asks =
    let r = stands_rest nodes n at f more s in
    let here = asked_first nodes (n + first_count f) (at + first_length f) (rest_of f) more y (λ k. b ≡ is_shared (Some about) (token_about k)) sib.some r.shown (subst (λ (k : ℕ). slice_get nodes k ≡ Some y) sib.is is) asks in
    ap (is_shared (Some about)) (about_first (rest_of f) sib.some) ∙ sym here

pub white_next : (nodes : List Node) (n at : ℕ) (f : Forest) (more : List ForestNode) (m : ℕ) (y : Node) (b : Bool) → Stands nodes n at f more → IsSibling (n + first_count f) m (rest_of f) → slice_get nodes m ≡ Some y →
    ((k : g.Token) → ShowsToken y.token k → b ≡ token_white k) → token_white (first_token (rest_of f)) ≡ b
white_next nodes n at f more m y b s sib is asks =
    let r = stands_rest nodes n at f more s in
    sym (asked_first nodes (n + first_count f) (at + first_length f) (rest_of f) more y (λ k. b ≡ token_white k) sib.some r.shown (subst (λ (k : ℕ). slice_get nodes k ≡ Some y) sib.is is) asks)

-- the sibling after as siblings of its own
pub stands_next : (nodes : List Node) (n at : ℕ) (f : Forest) (more : List ForestNode) (m : ℕ) → Stands nodes n at f more → IsSibling (n + first_count f) m (rest_of f) → Stands nodes m (at + first_length f) (rest_of f) more
stands_next nodes n at f more m s sib = subst (λ (k : ℕ). Stands nodes k (at + first_length f) (rest_of f) more) (sym sib.is) (stands_rest nodes n at f more s)

-- a white text and then an element that shares it
pub joins_second : (n m p : ℕ) (about : List ℕ) (r : Forest) → IsSibling n m r → token_white (first_token r) ≡ true → IsSibling (m + first_count r) p (rest_of r) → is_shared (Some about) (about_in (rest_of r)) ≡ true → Some p ≡ joins_at n about r
joins_second n m p about r a w b e =
    let at : p ≡ n + first_count r = omega (arith, a.is, b.is) in
    ap (λ (k : ℕ). Some k) at ∙ sym (joins_white n about r a.some w ∙ rw e refl)

pub joins_no_second : (n m : ℕ) (about : List ℕ) (r : Forest) → IsSibling n m r → token_white (first_token r) ≡ true → None ≡ (if has_node (rest_of r) then Some (m + first_count r) else None) → None ≡ joins_at n about r
joins_no_second n m about r a w h =
    sym (joins_white n about r a.some w ∙ ap (λ (k : ℕ). element_joins (k + first_count r) about (rest_of r)) (sym a.is) ∙ sym (element_none (m + first_count r) about (rest_of r) h))

pub joins_not_second : (n m : ℕ) (about : List ℕ) (r : Forest) → IsSibling n m r → token_white (first_token r) ≡ true → is_shared (Some about) (about_in (rest_of r)) ≡ false → None ≡ joins_at n about r
joins_not_second n m about r a w e = sym (joins_white n about r a.some w ∙ rw e refl)

-- ---- one element of the group more

-- where an element joins: what stands there, and how many nodes were passed
pub record Joined (nodes : List Node) (m : ℕ) (about : List ℕ) (more : List ForestNode) (n : ℕ) (r : Forest) : Type 0 where
  pub forest : Forest
  pub at : ℕ
  pub stands : Stands nodes m at forest more
  pub some : has_node forest ≡ true
  pub counts : n + absorbed about (parts_of r) ≡ m + first_count forest + absorbed about (parts_of (rest_of forest))

shared_some : (about : List ℕ) (other : Option (List ℕ)) → is_shared (Some about) other ≡ true → other ≡ Some about
shared_some about None e = absurd cc
shared_some about (Some other) e = ap (λ (x : List ℕ). Some x) (sym ((bytes_eq-Decides about other).0 e))

joined_here : (nodes : List Node) (n at m : ℕ) (about : List ℕ) (more : List ForestNode) (r : Forest) (b : Bool) → is_shared (Some about) (about_in r) ≡ b → Stands nodes n at r more → Some m ≡ (if b then Some n else None) → Joined nodes m about more n r
joined_here nodes n at m about more r false e s h = absurd cc
joined_here nodes n at m about more r true e s h =
    let same : m ≡ n = cc in
    let a = shared_some about (about_in r) e in
    record {
      forest = r;
      at = at;
      stands = subst (λ (k : ℕ). Stands nodes k at r more) (sym same) s;
      some = held_some r (about_held r about a);
      counts = omega (arith, same, absorbs_first about r about a (ap (is_shared (Some about)) (sym a) ∙ e));
    }

words_absorb : (about text : List ℕ) (rest : Forest) → is_white text ≡ true → about_in rest ≡ Some about → is_shared (Some about) (Some about) ≡ true → absorbed about (Words text (parts_of rest)) ≡ 1 + (first_count rest + absorbed about (parts_of (rest_of rest)))
words_absorb about text rest w a s =
    let b = held_begins rest (about_held rest about a) in
    let same : absorbed_by (about_in rest) (parts_of (rest_of rest)) ≡ absorbed about (parts_of (rest_of rest)) = ap (λ (o : Option (List ℕ)). absorbed_by o (parts_of (rest_of rest))) a in
    let shared : is_shared (Some about) (about_in b.nodes) ≡ true = ap (is_shared (Some about)) (b.about_is ∙ a) ∙ s in
    ap (λ (p : Parts). absorbed about (Words text p)) b.is ∙ rw (w, shared) (omega (arith, b.counts, same))

joined_text : (nodes : List Node) (n at m : ℕ) (about : List ℕ) (more : List ForestNode) (text : List ℕ) (rest : Forest) (w b : Bool) → is_white text ≡ w → is_shared (Some about) (about_in rest) ≡ b → Stands nodes n at (Text text rest) more →
    Some m ≡ (if w then (if b then Some (n + 1) else None) else None) → Joined nodes m about more n (Text text rest)
joined_text nodes n at m about more text rest false b w e s h = absurd cc
joined_text nodes n at m about more text rest true false w e s h = absurd cc
joined_text nodes n at m about more text rest true true w e s h =
    let same : m ≡ n + 1 = cc in
    let a = shared_some about (about_in rest) e in
    record {
      forest = rest;
      at = at + first_length (Text text rest);
      stands = subst (λ (k : ℕ). Stands nodes k (at + first_length (Text text rest)) rest more) (sym same) (stands_rest nodes n at (Text text rest) more s);
      some = held_some rest (about_held rest about a);
      counts = omega (arith, same, words_absorb about text rest w a (ap (is_shared (Some about)) (sym a) ∙ e));
    }

pub joined : (nodes : List Node) (n at m : ℕ) (about : List ℕ) (more : List ForestNode) (r : Forest) → Stands nodes n at r more → Some m ≡ joins_at n about r → Joined nodes m about more n r
joined nodes n at m about more Nothing s h = absurd cc
joined nodes n at m about more (Text text rest) s h = joined_text nodes n at m about more text rest (is_white text) (is_shared (Some about) (about_in rest)) refl refl s h
joined nodes n at m about more (Remark text rest) s h = absurd cc
joined nodes n at m about more (Void name attrs slash rest) s h = joined_here nodes n at m about more (Void name attrs slash rest) _ refl s h
joined nodes n at m about more (RawElement name attrs text rest) s h = joined_here nodes n at m about more (RawElement name attrs text rest) _ refl s h
joined nodes n at m about more (Element name attrs children rest) s h = joined_here nodes n at m about more (Element name attrs children rest) _ refl s h

-- ---- the end of a group

words_none_by : (about text : List ℕ) (f : Forest) (p : Parts) → parts_of f ≡ p → (is_white text && is_shared (Some about) (about_in f)) ≡ false → absorbed about (Words text p) ≡ 0
words_none_by about text f Ended e s = refl
words_none_by about text f (Words t later) e s = refl
words_none_by about text f (Note t later) e s = refl
words_none_by about text f (Group nodes later) e s =
    let b = held_begins f (group_held f nodes later e) in
    let same : Group b.nodes b.later ≡ Group nodes later = sym b.is ∙ e in
    let about_is : about_in nodes ≡ about_in f = ap group_about (sym same) ∙ b.about_is in
    rw (ap (λ (o : Option (List ℕ)). is_white text && is_shared (Some about) o) about_is ∙ s) refl
words_none_by about text f (Single name attrs source later) e s = refl
words_none_by about text f (Parent name attrs children later) e s = refl

element_none_by : (about : List ℕ) (f : Forest) (b : Bool) → first_held f ≡ b → is_shared (Some about) (about_in f) ≡ false → (b ≡ false → absorbed about (parts_of f) ≡ 0) → absorbed about (parts_of f) ≡ 0
element_none_by about f false h s other = other refl
element_none_by about f true h s other =
    let b = held_begins f h in
    ap (absorbed about) b.is ∙ rw (ap (is_shared (Some about)) b.about_is ∙ s) refl

not_some_by : (n : ℕ) (b : Bool) → None ≡ (if b then Some n else None) → b ≡ false
not_some_by n true h = absurd cc
not_some_by n false h = refl

white_none_by : (n : ℕ) (w b : Bool) → None ≡ (if w then (if b then Some n else None) else None) → (w && b) ≡ false
white_none_by n true b h = not_some_by n b h
white_none_by n false b h = refl

pub absorbs_nothing : (n : ℕ) (about : List ℕ) (r : Forest) → None ≡ joins_at n about r → absorbed about (parts_of r) ≡ 0
absorbs_nothing n about Nothing h = refl
absorbs_nothing n about (Text text rest) h = words_none_by about text rest (parts_of rest) refl (white_none_by (n + 1) (is_white text) (is_shared (Some about) (about_in rest)) h)
absorbs_nothing n about (Remark text rest) h = refl
absorbs_nothing n about (Void name attrs slash rest) h = element_none_by about (Void name attrs slash rest) (is_held attrs) refl (not_some_by n _ h) (λ e. rw e refl)
absorbs_nothing n about (RawElement name attrs text rest) h = element_none_by about (RawElement name attrs text rest) (is_held attrs) refl (not_some_by n _ h) (λ e. rw e refl)
absorbs_nothing n about (Element name attrs children rest) h = element_none_by about (Element name attrs children rest) (is_held attrs) refl (not_some_by n _ h) (λ e. rw e refl)

-- ---- the loop

-- what the clause says of a group that begins at n, at an element of it
abbrev pub Within : List Node → ℕ → ℕ → List ℕ → Type 0
Within nodes n last about = (f kept : Forest) (later : Parts) (at : ℕ) (more : List ForestNode) → Stands nodes n at f more → parts_of f ≡ Group kept later → InGroup nodes last about more (n + forest_size kept)

pub within_begins : (nodes : List Node) (n : ℕ) (x : Node) (about : List ℕ) → slice_get nodes n ≡ Some x → ((k : g.Token) → ShowsToken x.token k → Some about ≡ token_about k) → Within nodes n n about
within_begins nodes n x about is asks = λ f kept later at more s e.
    let some = held_some f (group_held f kept later e) in
    let a = about_first f some ∙ sym (asked_first nodes n at f more x (λ k. Some about ≡ token_about k) some s.shown is asks) in
    group_begins nodes n at f kept later more about s e a

pub within_next : (nodes : List Node) (n last m : ℕ) (about : List ℕ) → Within nodes n last about →
    ((f : Forest) (at : ℕ) (more : List ForestNode) → Stands nodes last at f more → has_node f ≡ true → Some m ≡ joins_at (last + first_count f) about (rest_of f)) → Within nodes n m about
within_next nodes n last m about w joins = λ f kept later at more s e.
    let i = w f kept later at more s e in
    let j = joined nodes (last + first_count i.forest) (i.at + first_length i.forest) m about more (rest_of i.forest) (stands_rest nodes last i.at i.forest more i.stands) (joins i.forest i.at more i.stands i.some) in
    record { forest = j.forest; at = j.at; stands = j.stands; some = j.some; end_is = i.end_is ∙ j.counts }

pub within_ends : (nodes : List Node) (n last : ℕ) (about : List ℕ) (x : Node) → Within nodes n last about → slice_get nodes last ≡ Some x →
    ((f : Forest) (at : ℕ) (more : List ForestNode) → Stands nodes last at f more → has_node f ≡ true → None ≡ joins_at (last + first_count f) about (rest_of f)) →
    (f kept : Forest) (later : Parts) (at : ℕ) (more : List ForestNode) → Stands nodes n at f more → parts_of f ≡ Group kept later → x.next ≡ n + forest_size kept
within_ends nodes n last about x w is joins f kept later at more s e =
    let i = w f kept later at more s e in
    omega (arith, i.end_is, absorbs_nothing (last + first_count i.forest) about (rest_of i.forest) (joins i.forest i.at more i.stands i.some), (sibling_is nodes last i.at i.forest more x i.stands i.some is).0)

pub without_about : (nodes : List Node) (n : ℕ) (x : Node) → slice_get nodes n ≡ Some x → ((k : g.Token) → ShowsToken x.token k → None ≡ token_about k) →
    (f kept : Forest) (later : Parts) (at : ℕ) (more : List ForestNode) → Stands nodes n at f more → parts_of f ≡ Group kept later → x.next ≡ n + forest_size kept
without_about nodes n x is asks f kept later at more s e =
    let some = held_some f (group_held f kept later e) in
    let a = about_first f some ∙ sym (asked_first nodes n at f more x (λ k. None ≡ token_about k) some s.shown is asks) in
    omega (arith, group_counts f kept later None e a, (sibling_is nodes n at f more x s some is).0)
