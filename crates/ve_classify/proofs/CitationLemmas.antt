-- A group that may be a reference is one element, and its start tag says the rest.
use Rattle.std.proofs.Common.{◌≡◌, ◌≢◌, ◌⊎◌, inl, inr, ℕ, zero, suc, ◌+◌, ◌<◌, Bool, true, false, not, ◌&&◌, ◌||◌, if◌then◌else◌, List, [], ◌∷◌, ◌++◌, length, Option, Some, None, refl, sym, ap, ◌∙◌, subst, arith, option_map, Bor}
use Rattle.std.specs.Prelude.{slice_get, codes, bytes_eq}
use Rattle.std.proofs.lemmas.Slice.Eq.{bytes_eq-Decides}
use Rattle.model_spelling.specs.Grammar as g
use Rattle.model_spelling.specs.Grammar.{Attr, name_same}
use Rattle.model_spelling.specs.Forest.{Forest, Nothing, Text, Remark, Void, RawElement, Element, is_forest, then_forest}
use Rattle.model_spelling.specs.ForestNodes.{ForestNode, forest_size}
use Rattle.model_spelling.specs.Written.{decoded}
use Rattle.model_spelling.proofs.ForestLaws.{not_true}
use Rattle.model_spelling.proofs.AttrReading.{and_left, and_right}
use Rattle.model_spelling.proofs.Back.{raw_parts}
use Rattle.ve_kinds.specs.declared.kind.Kind.{Kind}
use Rattle.ve_kinds.specs.Tags.{is_void, is_raw, is_one_of}
use Rattle.ve_base.specs.declared.marks.Mark.{Mark}
use Rattle.model_page.specs.DataMw.{RefRead}
use Rattle.model_page.specs.Elements.{value_named, has_type, is_transclusion, is_reference_type}
use Rattle.model_page.specs.Parts.{Parts, Group, parts_of}
use Rattle.model_page.specs.Fit.{Around, Flow, Content}
use Rattle.model_page.specs.Pieces.{Owner, Progress}
use Rattle.model_page.specs.ReferenceNodes.{RefNode, ref_node, ref_of, reference_in}
use Rattle.ve_html_scan.specs.Shown.{ShowsToken, ShowsAttrs}
use Rattle.ve_html_scan.specs.declared.attr_tokens.AttrTokens.{AttrTokens}
use Rattle.ve_html_scan.specs.declared.token.Span.{Span}
use Rattle.ve_html_scan.specs.declared.token.Token.{Token}
use Rattle.ve_html_scan.specs.declared.token.Token.TheVariants as lent
use Rattle.ve_html_tree.specs.declared.node.Node.{Node}
use Rattle.ve_classify.specs.Standing.{Stands, has_node, first_count}
use Rattle.ve_classify.specs.Values.{spelled_value, OfAttrs}
use Rattle.ve_classify.proofs.StandLemmas.{first_of, first_token}
use Rattle.ve_classify.proofs.GroupLemmas.{group_held, group_split}
use Rattle.ve_classify.proofs.GroupSteps.{held_some, sibling_is}
use Rattle.ve_classify.proofs.ValueLemmas.{value_is}
use Rattle.ve_classify.specs.Citations.{is_citation, cited_in, IsCited, ref_from, ReferencesAreCited}

-- ---- the law

read_of : (place : Progress) (name : List ℕ) (attrs : List Attr) (children : Forest) (r : Option RefRead) →
    (elim r [ None ↦ None | Some reading ↦ Some (ref_node place name attrs children reading) ]) ≡ option_map (ref_node place name attrs children) r
read_of place name attrs children None = refl
read_of place name attrs children (Some r) = refl

cited_by : (place : Progress) (name : List ℕ) (attrs : List Attr) (children : Forest) (b : Bool) →
    (if b then (elim (reference_in place.owners (value_named (codes "data-mw") attrs)) [ None ↦ None | Some reading ↦ Some (ref_node place name attrs children reading) ]) else None)
    ≡ option_map (ref_node place name attrs children) (reference_in place.owners (if b then value_named (codes "data-mw") attrs else None))
cited_by place name attrs children true = read_of place name attrs children (reference_in place.owners (value_named (codes "data-mw") attrs))
cited_by place name attrs children false = refl

-- a group of other nodes is none
pub references_are_cited : ReferencesAreCited
references_are_cited at owners kind marks Nothing = (refl, refl)
references_are_cited at owners kind marks (Text t rest) = (refl, refl)
references_are_cited at owners kind marks (Remark t rest) = (refl, refl)
references_are_cited at owners kind marks (Void n a s rest) = (refl, refl)
references_are_cited at owners kind marks (RawElement n a t rest) = (refl, refl)
references_are_cited at owners kind marks (Element n a c Nothing) =
    let place : Progress = record { at = at; owners = owners; editable = true } in
    (cited_by place n a c (is_citation n a), cited_by place n a c (is_citation n a))
references_are_cited at owners kind marks (Element n a c (Text t rest)) = (refl, refl)
references_are_cited at owners kind marks (Element n a c (Remark t rest)) = (refl, refl)
references_are_cited at owners kind marks (Element n a c (Void m b s rest)) = (refl, refl)
references_are_cited at owners kind marks (Element n a c (RawElement m b t rest)) = (refl, refl)
references_are_cited at owners kind marks (Element n a c (Element m b d rest)) = (refl, refl)

-- ---- the group at a node

-- a group that stands at a node
record GroupAt (nodes : List Node) (n : ℕ) (x : Node) (group : Forest) (f : Forest) : Type 0 where
  after : Forest
  is : f ≡ then_forest group after
  next : x.next ≡ n + first_count f
  token : ShowsToken x.token (first_token f)
  room : ℕ
  allowed : is_forest room f ≡ true

group_at : (nodes : List Node) (n at : ℕ) (f group : Forest) (later : Parts) (more : List ForestNode) (x : Node) → Stands nodes n at f more → parts_of f ≡ Group group later → slice_get nodes n ≡ Some x → GroupAt nodes n x group f
group_at nodes n at f group later more x s e is =
    let some = held_some f (group_held f group later e) in
    let split = group_split f group later e in
    let first = first_of nodes n at f more some s.shown in
    let same : first.node ≡ x = cc (first.is, is) in
    record {
      after = split.after;
      is = split.is;
      next = (sibling_is nodes n at f more x s some is).0;
      token = subst (λ (y : Node). ShowsToken y.token (first_token f)) same first.token;
      room = s.room;
      allowed = s.allowed;
    }

-- more nodes than the first one
longer_by : (nodes : List Node) (n end : ℕ) (x : Node) (group f : Forest) → GroupAt nodes n x group f → end ≡ n + forest_size group → x.next ≢ end → None ≡ cited_in group
longer_by nodes n end x Nothing f p e no_end = refl
longer_by nodes n end x (Text t rest) f p e no_end = refl
longer_by nodes n end x (Remark t rest) f p e no_end = refl
longer_by nodes n end x (Void m a s rest) f p e no_end = refl
longer_by nodes n end x (RawElement m a t rest) f p e no_end = refl
longer_by nodes n end x (Element m a c Nothing) f p e no_end =
    let first : first_count f ≡ 1 + forest_size c = ap first_count p.is in
    absurd (no_end (omega (arith, p.next, first, e)))
longer_by nodes n end x (Element m a c (Text t rest)) f p e no_end = refl
longer_by nodes n end x (Element m a c (Remark t rest)) f p e no_end = refl
longer_by nodes n end x (Element m a c (Void k b s rest)) f p e no_end = refl
longer_by nodes n end x (Element m a c (RawElement k b t rest)) f p e no_end = refl
longer_by nodes n end x (Element m a c (Element k b d rest)) f p e no_end = refl

no_start : (t : Token) (name : List ℕ) (list : List Attr) (slash : Bool) → ((n : Bor (List ℕ)) (attrs : AttrTokens) (span : Span) → t ≡ lent.StartTag n attrs span → ⊥) → ShowsToken t (g.Start name list slash) → ⊥
no_start (lent.StartTag n attrs span) name list slash other s = other n attrs span refl
no_start (lent.EndTag n span) name list slash other s = s
no_start (lent.Chars text span) name list slash other s = s
no_start (lent.Raw text span) name list slash other s = s
no_start (lent.Comment text span) name list slash other s = s

-- the first node is no element
other_by : (nodes : List Node) (n : ℕ) (x : Node) (group f : Forest) → GroupAt nodes n x group f → ((m : Bor (List ℕ)) (attrs : AttrTokens) (span : Span) → x.token ≡ lent.StartTag m attrs span → ⊥) → None ≡ cited_in group
other_by nodes n x Nothing f p other = refl
other_by nodes n x (Text t rest) f p other = refl
other_by nodes n x (Remark t rest) f p other = refl
other_by nodes n x (Void m a s rest) f p other = refl
other_by nodes n x (RawElement m a t rest) f p other = refl
other_by nodes n x (Element m a c Nothing) f p other = absurd (no_start x.token m a false other (subst (λ (y : Forest). ShowsToken x.token (first_token y)) p.is p.token))
other_by nodes n x (Element m a c (Text t rest)) f p other = refl
other_by nodes n x (Element m a c (Remark t rest)) f p other = refl
other_by nodes n x (Element m a c (Void k b s rest)) f p other = refl
other_by nodes n x (Element m a c (RawElement k b t rest)) f p other = refl
other_by nodes n x (Element m a c (Element k b d rest)) f p other = refl

-- ---- one element

-- what a start tag shows, of an element of a forest
tag_shown : (x : Node) (m : List ℕ) (a : List Attr) (slash : Bool) (f after : Forest) (name : Bor (List ℕ)) (attrs : AttrTokens) (span : Span) → first_token f ≡ g.Start m a slash → ShowsToken x.token (first_token f) → x.token ≡ lent.StartTag name attrs span → (name.now ≡ m) × ShowsAttrs attrs a slash
tag_shown x m a slash f after name attrs span first s is =
    let t : ShowsToken (lent.StartTag name attrs span) (g.Start m a slash) = subst (λ (y : Token). ShowsToken y (g.Start m a slash)) is (subst (ShowsToken x.token) first s) in
    (t.0, t.1)

-- no void and no raw element has a tag of references
void_by : (m : List ℕ) (a b : Bool) → bytes_eq (codes "sup") m ≡ a → bytes_eq (codes "span") m ≡ b → (a || (b || false)) ≡ true → (is_void m ≡ false) × (is_raw m ≡ false)
unfolding is_void is_raw name_same
void_by m true b ea eb e = subst (λ (x : List ℕ). (is_void x ≡ false) × (is_raw x ≡ false)) ((bytes_eq-Decides (codes "sup") m).0 ea) (refl, refl)
void_by m false true ea eb e = subst (λ (x : List ℕ). (is_void x ≡ false) × (is_raw x ≡ false)) ((bytes_eq-Decides (codes "span") m).0 eb) (refl, refl)
void_by m false false ea eb e = absurd cc

citation_tag : (m : List ℕ) (a : List Attr) → is_citation m a ≡ true → (is_void m ≡ false) × (is_raw m ≡ false)
citation_tag m a e =
    let one = is_one_of (codes "sup" ∷ codes "span" ∷ []) m in
    let typed = has_type is_reference_type a in
    void_by m (bytes_eq (codes "sup") m) (bytes_eq (codes "span") m) refl refl (and_left one typed (and_left (one && typed) (not (has_type is_transclusion a)) e))

-- the element is no citation
plain_by : (nodes : List Node) (n : ℕ) (x : Node) (group f : Forest) (name : Bor (List ℕ)) (attrs : AttrTokens) (span : Span) (b : Bool) → GroupAt nodes n x group f → x.token ≡ lent.StartTag name attrs span → OfAttrs attrs (is_citation name.now) b → b ≡ false → None ≡ cited_in group
plain_by nodes n x Nothing f name attrs span b p is asks f_is = refl
plain_by nodes n x (Text t rest) f name attrs span b p is asks f_is = refl
plain_by nodes n x (Remark t rest) f name attrs span b p is asks f_is = refl
plain_by nodes n x (Void m a s rest) f name attrs span b p is asks f_is = refl
plain_by nodes n x (RawElement m a t rest) f name attrs span b p is asks f_is = refl
plain_by nodes n x (Element m a c Nothing) f name attrs span b p is asks f_is =
    let t = tag_shown x m a false f p.after name attrs span (ap first_token p.is) p.token is in
    let cited : is_citation m a ≡ false = sym (ap (λ (y : List ℕ). is_citation y a) t.0) ∙ sym (asks a false t.1) ∙ f_is in
    sym (rw cited refl)
plain_by nodes n x (Element m a c (Text t rest)) f name attrs span b p is asks f_is = refl
plain_by nodes n x (Element m a c (Remark t rest)) f name attrs span b p is asks f_is = refl
plain_by nodes n x (Element m a c (Void k d s rest)) f name attrs span b p is asks f_is = refl
plain_by nodes n x (Element m a c (RawElement k d t rest)) f name attrs span b p is asks f_is = refl
plain_by nodes n x (Element m a c (Element k d e rest)) f name attrs span b p is asks f_is = refl

void_allowed : (room : ℕ) (m : List ℕ) (a : List Attr) (s : Bool) (rest : Forest) → is_forest room (Void m a s rest) ≡ true → is_void m ≡ true
void_allowed zero m a s rest e = absurd cc
void_allowed (suc room) m a s rest e = and_left (is_void m) (g.is_start m a s) (and_left (is_void m && g.is_start m a s) (is_forest (suc room) rest) e)

raw_allowed : (room : ℕ) (m : List ℕ) (a : List Attr) (t : List ℕ) (rest : Forest) → is_forest room (RawElement m a t rest) ≡ true → is_raw m ≡ true
raw_allowed zero m a t rest e = absurd cc
raw_allowed (suc room) m a t rest e = (raw_parts room m a t rest e).raw

more_nodes : (nodes : List Node) (n end : ℕ) (x : Node) (m : List ℕ) (a : List Attr) (c rest f : Forest) → GroupAt nodes n x (Element m a c rest) f → end ≡ n + forest_size (Element m a c rest) → x.next ≡ end → 0 < forest_size rest → ⊥
more_nodes nodes n end x m a c rest f p e at_end some =
    let first : first_count f ≡ 1 + forest_size c = ap first_count p.is in
    omega (arith, p.next, first, e, at_end, some)

some_raw : (m : List ℕ) (a : List Attr) (t : List ℕ) (rest : Forest) → 0 < forest_size (RawElement m a t rest)
some_raw m a [] rest = omega arith
some_raw m a (b ∷ bs) rest = omega arith

-- the value, where the element is a citation
value_by : (nodes : List Node) (n end : ℕ) (x : Node) (group f : Forest) (name : Bor (List ℕ)) (attrs : AttrTokens) (span : Span) (b : Bool) (r : Option (Bor (List ℕ))) → GroupAt nodes n x group f → end ≡ n + forest_size group → x.next ≡ end →
    x.token ≡ lent.StartTag name attrs span → OfAttrs attrs (is_citation name.now) b → b ≡ true → OfAttrs attrs (spelled_value (codes "data-mw")) (option_map (λ v. v.now) r) → 0 < first_count f → option_map (λ v. decoded v.now) r ≡ cited_in group
value_by nodes n end x Nothing f name attrs span b r p e at_end is asks t value some = absurd (omega (arith, p.next, e, at_end, some))
value_by nodes n end x (Text u rest) f name attrs span b r p e at_end is asks t value some =
    absurd (subst (λ (y : Token). ShowsToken y (g.Chars u)) is (subst (λ (y : Forest). ShowsToken x.token (first_token y)) p.is p.token))
value_by nodes n end x (Remark u rest) f name attrs span b r p e at_end is asks t value some =
    absurd (subst (λ (y : Token). ShowsToken y (g.Comment u)) is (subst (λ (y : Forest). ShowsToken x.token (first_token y)) p.is p.token))
value_by nodes n end x (Void m a s rest) f name attrs span b r p e at_end is asks t value some =
    let shown = tag_shown x m a s f p.after name attrs span (ap first_token p.is) p.token is in
    let cited : is_citation m a ≡ true = sym (ap (λ (y : List ℕ). is_citation y a) shown.0) ∙ sym (asks a s shown.1) ∙ t in
    let void : is_void m ≡ true = void_allowed p.room m a s (then_forest rest p.after) (sym (ap (is_forest p.room) p.is) ∙ p.allowed) in
    let other = (citation_tag m a cited).0 in
    absurd cc
value_by nodes n end x (RawElement m a u rest) f name attrs span b r p e at_end is asks t value some =
    let shown = tag_shown x m a false f p.after name attrs span (ap first_token p.is) p.token is in
    let cited : is_citation m a ≡ true = sym (ap (λ (y : List ℕ). is_citation y a) shown.0) ∙ sym (asks a false shown.1) ∙ t in
    let raw : is_raw m ≡ true = raw_allowed p.room m a u (then_forest rest p.after) (sym (ap (is_forest p.room) p.is) ∙ p.allowed) in
    let other = (citation_tag m a cited).1 in
    absurd cc
value_by nodes n end x (Element m a c Nothing) f name attrs span b r p e at_end is asks t value some =
    let shown = tag_shown x m a false f p.after name attrs span (ap first_token p.is) p.token is in
    let cited : is_citation m a ≡ true = sym (ap (λ (y : List ℕ). is_citation y a) shown.0) ∙ sym (asks a false shown.1) ∙ t in
    decoded_of r ∙ ap (option_map decoded) (value a false shown.1) ∙ sym (value_is (codes "data-mw") a) ∙ sym (rw cited refl)
  where
    decoded_of : (q : Option (Bor (List ℕ))) → option_map (λ v. decoded v.now) q ≡ option_map decoded (option_map (λ v. v.now) q)
    decoded_of None = refl
    decoded_of (Some v) = refl
value_by nodes n end x (Element m a c (Text u rest)) f name attrs span b r p e at_end is asks t value some = absurd (more_nodes nodes n end x m a c (Text u rest) f p e at_end (omega arith))
value_by nodes n end x (Element m a c (Remark u rest)) f name attrs span b r p e at_end is asks t value some = absurd (more_nodes nodes n end x m a c (Remark u rest) f p e at_end (omega arith))
value_by nodes n end x (Element m a c (Void k d s rest)) f name attrs span b r p e at_end is asks t value some = absurd (more_nodes nodes n end x m a c (Void k d s rest) f p e at_end (omega arith))
value_by nodes n end x (Element m a c (RawElement k d u rest)) f name attrs span b r p e at_end is asks t value some = absurd (more_nodes nodes n end x m a c (RawElement k d u rest) f p e at_end (some_raw k d u rest))
value_by nodes n end x (Element m a c (Element k d u rest)) f name attrs span b r p e at_end is asks t value some = absurd (more_nodes nodes n end x m a c (Element k d u rest) f p e at_end (omega arith))

-- ---- the clauses

pub longer : (nodes : List Node) (n end : ℕ) (x : Node) → slice_get nodes n ≡ Some x → x.next ≢ end → IsCited nodes n end None
longer nodes n end x is no_end = λ f group later at more s e size. longer_by nodes n end x group f (group_at nodes n at f group later more x s e is) size no_end

pub no_element : (nodes : List Node) (n end : ℕ) (x : Node) → slice_get nodes n ≡ Some x → ((m : Bor (List ℕ)) (attrs : AttrTokens) (span : Span) → x.token ≡ lent.StartTag m attrs span → ⊥) → IsCited nodes n end None
no_element nodes n end x is other = λ f group later at more s e size. other_by nodes n x group f (group_at nodes n at f group later more x s e is) other

pub no_citation : (nodes : List Node) (n end : ℕ) (x : Node) (name : Bor (List ℕ)) (attrs : AttrTokens) (span : Span) (b : Bool) → slice_get nodes n ≡ Some x → x.token ≡ lent.StartTag name attrs span → OfAttrs attrs (is_citation name.now) b → b ≡ false → IsCited nodes n end None
no_citation nodes n end x name attrs span b is t asks no_one = λ f group later at more s e size. plain_by nodes n x group f name attrs span b (group_at nodes n at f group later more x s e is) t asks no_one

some_first : (f : Forest) → has_node f ≡ true → 0 < first_count f
some_first Nothing e = absurd cc
some_first (Text text rest) e = omega arith
some_first (Remark text rest) e = omega arith
some_first (Void name attrs slash rest) e = omega arith
some_first (RawElement name attrs [] rest) e = omega arith
some_first (RawElement name attrs (b ∷ bs) rest) e = omega arith
some_first (Element name attrs children rest) e = omega arith

pub cited : (nodes : List Node) (n end : ℕ) (x : Node) (name : Bor (List ℕ)) (attrs : AttrTokens) (span : Span) (b : Bool) (r : Option (Bor (List ℕ))) → slice_get nodes n ≡ Some x → x.next ≡ end → x.token ≡ lent.StartTag name attrs span → OfAttrs attrs (is_citation name.now) b → b ≡ true →
    OfAttrs attrs (spelled_value (codes "data-mw")) (option_map (λ v. v.now) r) → IsCited nodes n end r
cited nodes n end x name attrs span b r is at_end t asks one value = λ f group later at more s e size.
    value_by nodes n end x group f name attrs span b r (group_at nodes n at f group later more x s e is) size at_end t asks one value (some_first f (held_some f (group_held f group later e)))
