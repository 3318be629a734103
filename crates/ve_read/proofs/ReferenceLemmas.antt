-- Groups that are references.
use Rattle.std.proofs.Common.{◌≡◌, ℕ, ◌+◌, Bool, true, false, ◌&&◌, if◌then◌else◌, List, [], ◌∷◌, Option, Some, None, refl, sym, ap, ◌∙◌, subst, arith, option_map, Bor}
use Rattle.std.specs.Prelude.{is_some, IfSome, chars}
use Rattle.std.proofs.lemmas.Str.{encodes-chars}
use Rattle.model_spelling.specs.Grammar.{Attr}
use Rattle.model_spelling.specs.Forest.{Forest, Nothing, Text, Remark, Void, RawElement, Element, spelling, then_forest}
use Rattle.model_spelling.specs.ForestNodes.{ForestNode, forest_size}
use Rattle.model_spelling.specs.Written.{decoded}
use Rattle.model_spelling.proofs.ForestLaws.{count_then}
use Rattle.ve_base.specs.declared.head.RefKey.{RefKey}
use Rattle.ve_base.specs.declared.marks.Mark.{Mark}
use Rattle.ve_kinds.specs.declared.kind.Kind.TheVariants.{P}
use Rattle.model_page.specs.DataMw as model
use Rattle.model_page.specs.Heads.{attrs_of}
use Rattle.model_page.specs.Parts.{Parts, Group, parts_of}
use Rattle.model_page.specs.Fit.{Content}
use Rattle.model_page.specs.Pieces.{Owner, Progress}
use Rattle.model_page.specs.ReferenceNodes.{RefNode, ref_of, ref_node, reference_in, unless_owned, owners_of, key_of, is_owned}
use Rattle.ve_html_tree.specs.declared.node.Node.{Node}
use Rattle.ve_classify.specs.Standing.{Stands}
use Rattle.ve_classify.proofs.GroupLemmas.{group_split}
use Rattle.ve_classify.specs.Citations.{cited_in, IsCited, ref_from}
use Rattle.ve_classify.proofs.CitationLemmas.{references_are_cited}
use Rattle.ve_internal.specs.declared.reference.RefRead.{RefRead}
use Rattle.ve_internal.specs.Read.{as_texts, BodyIsUtf8, TextIsUtf8}
use Rattle.ve_reader.specs.declared.owners.Claim.{Claim}
use Rattle.ve_reader.specs.Claimed.{claim_of, page_claim, text_key}
use Rattle.ve_classify.specs.FirstPart.{first_node, nodes_in, part_nodes}
use Rattle.ve_classify.specs.Places.{StandsIn, PartEnds}
use Rattle.ve_reader.specs.ReadSoFar.{ReadSoFar, is_page, place_in, owned_at}
use Rattle.ve_read.specs.References.{new_owner, claimed_node, claimed_group, IsForElement, IsClaimed}

-- ---- one element

pub record OneElement (group : Forest) : Type 0 where
  pub name : List ℕ
  pub attrs : List Attr
  pub children : Forest
  pub is : group ≡ Element name attrs children Nothing

cited_one : (group : Forest) (mw : List ℕ) → Some mw ≡ cited_in group → OneElement group
cited_one Nothing mw e = absurd cc
cited_one (Text t rest) mw e = absurd cc
cited_one (Remark t rest) mw e = absurd cc
cited_one (Void name attrs slash rest) mw e = absurd cc
cited_one (RawElement name attrs t rest) mw e = absurd cc
cited_one (Element name attrs children Nothing) mw e = record { name = name; attrs = attrs; children = children; is = refl }
cited_one (Element name attrs children (Text t rest)) mw e = absurd cc
cited_one (Element name attrs children (Remark t rest)) mw e = absurd cc
cited_one (Element name attrs children (Void m a s rest)) mw e = absurd cc
cited_one (Element name attrs children (RawElement m a t rest)) mw e = absurd cc
cited_one (Element name attrs children (Element m a c rest)) mw e = absurd cc

pub claimed_one : (group : Forest) (claim : Claim) → IsForElement group (Some claim) → OneElement group
claimed_one Nothing claim e = absurd cc
claimed_one (Text t rest) claim e = absurd cc
claimed_one (Remark t rest) claim e = absurd cc
claimed_one (Void name attrs slash rest) claim e = absurd cc
claimed_one (RawElement name attrs t rest) claim e = absurd cc
claimed_one (Element name attrs children Nothing) claim e = record { name = name; attrs = attrs; children = children; is = refl }
claimed_one (Element name attrs children (Text t rest)) claim e = absurd cc
claimed_one (Element name attrs children (Remark t rest)) claim e = absurd cc
claimed_one (Element name attrs children (Void m a s rest)) claim e = absurd cc
claimed_one (Element name attrs children (RawElement m a t rest)) claim e = absurd cc
claimed_one (Element name attrs children (Element m a c rest)) claim e = absurd cc

-- ---- nothing is claimed

pub unclaimed : (at : ℕ) (group : Forest) → claimed_group at group None ≡ None
unclaimed at Nothing = refl
unclaimed at (Text t rest) = refl
unclaimed at (Remark t rest) = refl
unclaimed at (Void name attrs slash rest) = refl
unclaimed at (RawElement name attrs t rest) = refl
unclaimed at (Element name attrs children Nothing) = refl
unclaimed at (Element name attrs children (Text t rest)) = refl
unclaimed at (Element name attrs children (Remark t rest)) = refl
unclaimed at (Element name attrs children (Void m a s rest)) = refl
unclaimed at (Element name attrs children (RawElement m a t rest)) = refl
unclaimed at (Element name attrs children (Element m a c rest)) = refl

none_for : (group : Forest) → IsForElement group None
none_for Nothing = refl
none_for (Text t rest) = refl
none_for (Remark t rest) = refl
none_for (Void name attrs slash rest) = refl
none_for (RawElement name attrs t rest) = refl
none_for (Element name attrs children Nothing) = tt
none_for (Element name attrs children (Text t rest)) = refl
none_for (Element name attrs children (Remark t rest)) = refl
none_for (Element name attrs children (Void m a s rest)) = refl
none_for (Element name attrs children (RawElement m a t rest)) = refl
none_for (Element name attrs children (Element m a c rest)) = refl

-- outside of a page nothing is a reference
not_editable : (w : Progress) (marks : List Mark) (group : Forest) → w.editable ≡ false → ref_of w (Content marks) group ≡ None
not_editable w marks Nothing e = refl
not_editable w marks (Text t rest) e = refl
not_editable w marks (Remark t rest) e = refl
not_editable w marks (Void name attrs slash rest) e = refl
not_editable w marks (RawElement name attrs t rest) e = refl
not_editable w marks (Element name attrs children Nothing) e = rw e refl
not_editable w marks (Element name attrs children (Text t rest)) e = refl
not_editable w marks (Element name attrs children (Remark t rest)) e = refl
not_editable w marks (Element name attrs children (Void m a s rest)) e = refl
not_editable w marks (Element name attrs children (RawElement m a t rest)) e = refl
not_editable w marks (Element name attrs children (Element m a c rest)) e = refl

pub claims_none : (r : ReadSoFar) (nodes : List Node) (n end : ℕ) → is_page r.purpose ≡ false → IsClaimed r nodes n end None
claims_none r nodes n end e = λ f group later at more s p size.
    (not_editable (place_in r at) r.marks group e ∙ sym (unclaimed at group), none_for group)

-- ---- in a page

-- the reference that is read of the `data-mw`
ref_read : (r : ReadSoFar) (at : ℕ) (group : Forest) → is_page r.purpose ≡ true → ref_of (place_in r at) (Content r.marks) group ≡ ref_from (place_in r at) group (reference_in r.owners (cited_in group))
ref_read r at group e =
    subst (λ (b : Bool). ref_of (record { at = at; owners = r.owners; editable = b }) (Content r.marks) group ≡ ref_from (record { at = at; owners = r.owners; editable = b }) group (reference_in r.owners (cited_in group))) (sym e)
    (references_are_cited at r.owners P r.marks group).1

from_none : (w : Progress) (group : Forest) → ref_from w group None ≡ None
from_none w Nothing = refl
from_none w (Text t rest) = refl
from_none w (Remark t rest) = refl
from_none w (Void name attrs slash rest) = refl
from_none w (RawElement name attrs t rest) = refl
from_none w (Element name attrs children rest) = refl

read_none : (r : ReadSoFar) (nodes : List Node) (n end : ℕ) → is_page r.purpose ≡ true →
    ((f group : Forest) (later : Parts) (at : ℕ) (more : List ForestNode) → Stands nodes n at f more → parts_of f ≡ Group group later → end ≡ n + forest_size group → reference_in r.owners (cited_in group) ≡ None) →
    IsClaimed r nodes n end None
read_none r nodes n end e none = λ f group later at more s p size.
    (ref_read r at group e ∙ ap (ref_from (place_in r at) group) (none f group later at more s p size) ∙ from_none (place_in r at) group ∙ sym (unclaimed at group), none_for group)

pub none_of : {A : Type 0} (o : Option A) → ((x : A) → o ≡ Some x → ⊥) → o ≡ None
none_of None no_some = refl
none_of (Some x) no_some = absurd (no_some x refl)

-- no `data-mw`
pub cites_none : (r : ReadSoFar) (nodes : List Node) (n end : ℕ) (mw : Option (Bor (List ℕ))) → is_page r.purpose ≡ true → IsCited nodes n end mw → mw ≡ None → IsClaimed r nodes n end None
cites_none r nodes n end mw e cites none =
    read_none r nodes n end e (λ f group later at more s p size.
    ap (reference_in r.owners) (sym (cites f group later at more s p size) ∙ ap (option_map (λ v. decoded v.now)) none))

abbrev unless_said : List Owner → Option model.RefRead → Option model.RefRead
unless_said owners None = None
unless_said owners (Some reading) = unless_owned owners reading

said_is : (owners : List Owner) (o : Option model.RefRead) → (elim o [ None ↦ None | Some reading ↦ unless_owned owners reading ]) ≡ unless_said owners o
said_is owners None = refl
said_is owners (Some reading) = refl

-- what the `data-mw` says, of the bytes that were read
said : (owners : List Owner) (cited : Option (List ℕ)) (mw : List ℕ) → Some mw ≡ cited → reference_in owners cited ≡ unless_said owners (model.reference_of mw)
said owners cited mw e = ap (reference_in owners) (sym e) ∙ said_is owners (model.reference_of mw)

mapped_none : {A B : Type 0} (f : A → B) (o : Option A) → None ≡ option_map f o → o ≡ None
mapped_none f None e = refl
mapped_none f (Some x) e = absurd cc

-- one that says nothing
pub says_none : (r : ReadSoFar) (nodes : List Node) (n end : ℕ) (v : Bor (List ℕ)) (mw : List ℕ) (read : Option RefRead) → is_page r.purpose ≡ true → IsCited nodes n end (Some v) → mw ≡ decoded v.now →
    read ≡ option_map as_texts (model.reference_of mw) → read ≡ None → IsClaimed r nodes n end None
says_none r nodes n end v mw read e cites is reads none =
    read_none r nodes n end e (λ f group later at more s p size.
    let cited : Some mw ≡ cited_in group = ap (λ (x : List ℕ). Some x) is ∙ cites f group later at more s p size in
    let nothing = mapped_none as_texts (model.reference_of mw) (sym none ∙ reads) in
    said r.owners (cited_in group) mw cited ∙ ap (unless_said r.owners) nothing)

-- ---- claims

-- the key by the texts
key_same : (owners : List Owner) (group : List ℕ) (name html : Option (List ℕ)) → text_key owners (chars group) (option_map chars name) ≡ key_of owners (record { group = group; name = name; html = html })
key_same owners group None html = refl
key_same owners group (Some name) html = refl

claim_by : (owners : List Owner) (m : model.RefRead) (has there : Bool) (key : RefKey) → key ≡ key_of owners m → is_owned owners key ≡ there → is_some m.html ≡ has → is_some (option_map chars m.html) ≡ has
    → (if is_some (option_map chars m.html) && is_owned owners key then None else Some (record { key = key; html = option_map chars m.html })) ≡ option_map (page_claim owners) (unless_owned owners m)
claim_by owners m true true key k o h g = rw (g, o, h, sym (ap (is_owned owners) k) ∙ o) refl
claim_by owners m true false key k o h g = rw (g, o, h, sym (ap (is_owned owners) k) ∙ o) (ap (λ (x : RefKey). Some (record { key = x; html = option_map chars m.html })) k)
claim_by owners m false there key k o h g = rw (g, h) (ap (λ (x : RefKey). Some (record { key = x; html = option_map chars m.html })) k)

some_chars : (o : Option (List ℕ)) → is_some (option_map chars o) ≡ is_some o
some_chars None = refl
some_chars (Some t) = refl

claims_are_keys : (owners : List Owner) (m : model.RefRead) → claim_of owners (as_texts m) ≡ option_map (page_claim owners) (unless_owned owners m)
claims_are_keys owners m =
    claim_by owners m (is_some m.html) (is_owned owners (text_key owners (chars m.group) (option_map chars m.name))) (text_key owners (chars m.group) (option_map chars m.name))
    (key_same owners m.group m.name m.html) refl refl (some_chars m.html)

owners_same : (at : ℕ) (key : RefKey) (html : Option (List ℕ)) → TextIsUtf8 html → owners_of at key html ≡ owned_at at (new_owner key (option_map chars html))
owners_same at key None u = refl
owners_same at key (Some text) u = ap (λ (t : List ℕ). record { at = at; key = key; html = t } ∷ []) (sym (encodes-chars text u))

node_same : (w : Progress) (name : List ℕ) (attrs : List Attr) (children : Forest) (m : model.RefRead) → TextIsUtf8 m.html → ref_node w name attrs children m ≡ claimed_node w.at name attrs children (page_claim w.owners m)
node_same w name attrs children m u =
    let owns = sym (some_chars m.html) in
    let owners = owners_same w.at (key_of w.owners m) m.html u in
    λ j. record {
      head = record { tag = chars name; attrs = attrs_of attrs; raw = chars (spelling children); reference = Some (key_of w.owners m); owner = owns j };
      owners = owners j;
    }

nodes_same : (w : Progress) (name : List ℕ) (attrs : List Attr) (children : Forest) (m : model.RefRead) (barred : Bool) → TextIsUtf8 m.html
    → option_map (ref_node w name attrs children) (if barred then None else Some m) ≡ option_map (claimed_node w.at name attrs children) (option_map (page_claim w.owners) (if barred then None else Some m))
nodes_same w name attrs children m true u = refl
nodes_same w name attrs children m false u = ap (λ (x : RefNode). Some x) (node_same w name attrs children m u)

-- what was read of the `data-mw`
record Reads (mw : List ℕ) (reading : RefRead) : Type 0 where
  says : model.RefRead
  is : model.reference_of mw ≡ Some says
  texts : reading ≡ as_texts says

reads_by : (mw : List ℕ) (reading : RefRead) (o : Option model.RefRead) → model.reference_of mw ≡ o → Some reading ≡ option_map as_texts o → Reads mw reading
reads_by mw reading None e h = absurd cc
reads_by mw reading (Some m) e h = record { says = m; is = e; texts = cc }

pub claims : (r : ReadSoFar) (nodes : List Node) (n end : ℕ) (v : Bor (List ℕ)) (mw : List ℕ) (read : Option RefRead) (reading : RefRead) (claim : Option Claim) → is_page r.purpose ≡ true → IsCited nodes n end (Some v) →
    mw ≡ decoded v.now → read ≡ option_map as_texts (model.reference_of mw) → IfSome read (λ _. BodyIsUtf8 (model.reference_of mw)) → read ≡ Some reading → claim ≡ claim_of r.owners reading → IsClaimed r nodes n end claim
claims r nodes n end v mw read reading claim e cites is reads body some claim_is = λ f group later at more s p size.
    let cited : Some mw ≡ cited_in group = ap (λ (x : List ℕ). Some x) is ∙ cites f group later at more s p size in
    let one = cited_one group mw cited in
    let m = reads_by mw reading (model.reference_of mw) refl (sym some ∙ reads) in
    let w : Progress = place_in r at in
    let utf8 : TextIsUtf8 m.says.html = subst BodyIsUtf8 m.is (subst (λ (x : Option RefRead). IfSome x (λ _. BodyIsUtf8 (model.reference_of mw))) some body) in
    let keys : claim ≡ option_map (page_claim r.owners) (unless_owned r.owners m.says) = claim_is ∙ ap (claim_of r.owners) m.texts ∙ claims_are_keys r.owners m.says in
    let read_is : reference_in r.owners (cited_in group) ≡ unless_owned r.owners m.says = said r.owners (cited_in group) mw cited ∙ ap (unless_said r.owners) m.is in
    let barred : Bool = is_some m.says.html && is_owned r.owners (key_of r.owners m.says) in (
      ref_read r at group e
          ∙ ap (ref_from w group) read_is
          ∙ ap (λ (x : Forest). ref_from w x (unless_owned r.owners m.says)) one.is
          ∙ nodes_same w one.name one.attrs one.children m.says barred utf8
          ∙ ap (option_map (claimed_node at one.name one.attrs one.children)) (sym keys)
          ∙ sym (ap (λ (x : Forest). claimed_group at x claim) one.is),
      subst (λ (x : Forest). IsForElement x claim) (sym one.is) tt,
    )

-- ---- a group as a part

pub group_end : (text : List ℕ) (nodes : List Node) (n at : ℕ) (f : Forest) (more : List ForestNode) (end byte : ℕ) (group : Forest) (later : Parts) → PartEnds text nodes n at f more end byte → parts_of f ≡ Group group later → end ≡ n + forest_size group
group_end text nodes n at f more end byte group later p is =
    let here : part_nodes f ≡ group = ap (λ (q : Parts). nodes_in q (first_node f)) is in
    let counts : forest_size f ≡ forest_size (part_nodes f) + forest_size p.after = ap forest_size p.split ∙ count_then (part_nodes f) p.after in
    omega (arith, counts, ap forest_size here, p.count_is)

-- The element stands at the node.
pub record StandsAlone (text : List ℕ) (nodes : List Node) (n at : ℕ) (name : List ℕ) (attrs : List Attr) (children : Forest) (more : List ForestNode) : Type 0 where
  pub rest : Forest
  pub stands : StandsIn text nodes n at (Element name attrs children rest) more

pub stands_alone : (text : List ℕ) (nodes : List Node) (n at : ℕ) (f : Forest) (more : List ForestNode) (group : Forest) (later : Parts) → StandsIn text nodes n at f more → parts_of f ≡ Group group later → (one : OneElement group) → StandsAlone text nodes n at one.name one.attrs one.children more
stands_alone text nodes n at f more group later s is one =
    let split = group_split f group later is in
    record {
      rest = split.after;
      stands = subst (λ (x : Forest). StandsIn text nodes n at x more) (split.is ∙ ap (λ (x : Forest). then_forest x split.after) one.is) s;
    }
