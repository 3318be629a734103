-- The references of an opened page: their attributes are read back from the head.
use Rattle.std.proofs.Common.{◌≡◌, ℕ, zero, suc, not, ◌+◌, ◌-◌, ◌<◌, Bool, true, false, ◌&&◌, ◌||◌, ◌==◌, if◌then◌else◌, List, [], ◌∷◌, ◌++◌, length, drop, Option, Some, None, Result, Ok, Err, refl, sym, ap, ◌∙◌, subst, append_assoc, arith, get_or, IsUtf8, IsCharBoundary, add-zero, eqb-true}
use Rattle.std.specs.Prelude.{codes, bytes_eq, is_some, option_and_then, flat_map, unwrap_or}
use Rattle.std.specs.List.{list_all}
use Rattle.std.proofs.Math.Seq.{drop-append_seam, take-append_seam}
use Rattle.std.proofs.lemmas.Bool.{and_parts}
use Rattle.std.proofs.lemmas.List.{length-append, get_or-drop}
use Rattle.std.proofs.lemmas.Str.{IsUtf8-take, IsUtf8-drop, IsCharBoundary-before_ascii, IsCharBoundary-after_ascii, encodes-chars}
use Rattle.model_spelling.specs.declared.scan_fault.ScanFault.{ScanFault}
use Rattle.model_spelling.specs.Grammar.{Attr as Spelled, attr_text, end_text, is_attr, is_attr_name, is_run, is_start}
use Rattle.ve_kinds.specs.Tags.{is_void, is_raw}
use Rattle.model_spelling.specs.Forest.{Forest, Nothing, Text, Remark, Void, RawElement, Element, spelling, is_forest}
use Rattle.model_spelling.specs.Parsed.{forest_of}
use Rattle.model_spelling.specs.Page.{body_at}
use Rattle.model_spelling.specs.Written.{decoded}
use Rattle.model_spelling.proofs.Proved.{law_decodes_utf8, law_reads_right}
use Rattle.ve_kinds.specs.declared.kind.Kind.TheVariants.{Root, InternalList, InternalItem}
use Rattle.model_items.specs.declared.plain_item.PlainItem.{PlainItem}
use Rattle.model_items.specs.declared.plain_item.PlainItem.TheVariants.{Char, Opening, Closing}
use Rattle.model_page.specs.Elements.{value_named}
use Rattle.model_page.specs.Parts.{Parts, Ended, Words, Note, Group, Single, Parent, parts_of}
use Rattle.model_page.specs.DataMw.{RefRead, reference_of}
use Rattle.model_page.specs.Editable.{data_mw, is_editable_ref, head_refers, all_refer}
use Rattle.model_page.specs.Fit.{Around, Flow, Structural, Content}
use Rattle.model_page.specs.Heads.{attrs_of}
use Rattle.model_page.specs.Pieces.{Owner, Made, Progress}
use Rattle.model_page.specs.ReferenceNodes.{RefNode, reference_in, unless_owned, ref_node, may_be_reference}
use Rattle.model_page.specs.Convert.{made_of}
use Rattle.model_page.specs.PageItems.{with_origins, body_made, or_nothing, internal_item, internal_list, page_made, slice, Opened, page_opened, opened_forest, opened_body}
use Rattle.model_page_law.specs.Referring.{OpenedRefers, SpelledRefers}
use Rattle.model_page_law.proofs.Premises.{AllUtf8}
use Rattle.model_page_law.proofs.PartsUtf8.{all_utf8}
use Rattle.model_page_law.proofs.BodyUtf8.{body_utf8}
use Rattle.model_page_law.proofs.InlinedLemmas.{Faithful, Faithful-parts_of}
use Rattle.model_page_law.proofs.OneLemmas.{is_start-parts}
use Rattle.model_page_law.proofs.MadeRefers.{refers-append, GroupRefers, GroupsRefer, Refers-run_closed, Refers-made_of}

-- ---- UTF-8 is cut at an ASCII byte

at_seam : (a b : List ℕ) → get_or (a ++ b) (length a) 0 ≡ get_or b 0 0
at_seam a b = ap (λ (k : ℕ). get_or (a ++ b) k 0) (sym (add-zero (length a))) ∙ sym (get_or-drop (length a) (a ++ b) 0 0) ∙ ap (λ (l : List ℕ). get_or l 0 0) (drop-append_seam a b)

before_byte : (a b : List ℕ) (c : ℕ) → c < 128 → IsUtf8 (a ++ (c ∷ b)) → IsUtf8 a
before_byte a b c small u =
    subst IsUtf8 (take-append_seam a (c ∷ b))
    (IsUtf8-take (a ++ (c ∷ b)) (length a) u (IsCharBoundary-before_ascii (a ++ (c ∷ b)) (length a) (omega (arith, length-append a (c ∷ b))) (omega (arith, at_seam a (c ∷ b), small))))

pub after_byte : (a b : List ℕ) (c : ℕ) → c < 128 → IsUtf8 (a ++ (c ∷ b)) → IsUtf8 b
after_byte a b c small u =
    let prefix : List ℕ = a ++ (c ∷ []) in
    let whole : a ++ (c ∷ b) ≡ prefix ++ b = sym (append_assoc a (c ∷ []) b) in
    let boundary : IsCharBoundary (a ++ (c ∷ b)) (length a + 1) = IsCharBoundary-after_ascii (a ++ (c ∷ b)) (length a) u (omega (arith, length-append a (c ∷ b))) (omega (arith, at_seam a (c ∷ b), small)) in
    let place : length a + 1 ≡ length prefix = omega (arith, length-append a (c ∷ [])) in
    subst IsUtf8 (ap (drop (length a + 1)) whole ∙ ap (λ k. drop k (prefix ++ b)) place ∙ drop-append_seam prefix b) (IsUtf8-drop (a ++ (c ∷ b)) (length a + 1) u boundary)

-- ---- attributes

abbrev pub AttrsUtf8 : List Spelled → Type 0
AttrsUtf8 [] = Unit {0}
AttrsUtf8 (a ∷ attrs) = IsUtf8 a.name × IsUtf8 a.value × AttrsUtf8 attrs

quote_small : (a : Spelled) → is_attr a ≡ true → a.quote < 128
quote_small a h = by (a.quote == 34) (a.quote == 39) refl refl (and_parts (is_attr_name a.name) (a.quote == 34 || a.quote == 39) (and_parts (is_attr_name a.name && (a.quote == 34 || a.quote == 39)) (is_run a.quote a.value) h).0).1
  where
    by : (c d : Bool) → (a.quote == 34) ≡ c → (a.quote == 39) ≡ d → (a.quote == 34 || a.quote == 39) ≡ true → a.quote < 128
    by true d e f g = omega (arith, eqb-true a.quote 34 e)
    by false true e f g = omega (arith, eqb-true a.quote 39 f)
    by false false e f g = absurd (let k : false ≡ true = (λ i. sym e i || sym f i) ∙ g in cc)

regrouped : (before name value rest : List ℕ) (quote : ℕ) → before ++ (((32 ∷ name ++ 61 ∷ quote ∷ value ++ quote ∷ []) ++ rest)) ≡ (before ++ (32 ∷ name ++ (61 ∷ []))) ++ (quote ∷ (value ++ (quote ∷ rest)))
regrouped before name value rest quote = simp append_assoc

named : (before name value rest : List ℕ) (quote : ℕ) → before ++ (((32 ∷ name ++ 61 ∷ quote ∷ value ++ quote ∷ []) ++ rest)) ≡ before ++ (32 ∷ (name ++ (61 ∷ (quote ∷ (value ++ (quote ∷ rest))))))
named before name value rest quote = simp append_assoc

pub attrs_utf8 : (attrs : List Spelled) (before rest : List ℕ) → list_all is_attr attrs ≡ true → IsUtf8 (before ++ (flat_map attr_text attrs ++ rest)) → AttrsUtf8 attrs
attrs_utf8 [] before rest h u = tt
attrs_utf8 (a ∷ attrs) before rest h u =
    let p = and_parts (is_attr a) (list_all is_attr attrs) h in
    let more : List ℕ = flat_map attr_text attrs ++ rest in
    let small : a.quote < 128 = quote_small a p.0 in
    let w : IsUtf8 (before ++ (attr_text a ++ more)) = subst IsUtf8 (ap (λ s. before ++ s) (append_assoc (attr_text a) (flat_map attr_text attrs) rest)) u in
    let name : IsUtf8 (a.name ++ (61 ∷ (a.quote ∷ (a.value ++ (a.quote ∷ more))))) = after_byte before (a.name ++ (61 ∷ (a.quote ∷ (a.value ++ (a.quote ∷ more))))) 32 (omega arith) (subst IsUtf8 (named before a.name a.value more a.quote) w) in
    let value : IsUtf8 (a.value ++ (a.quote ∷ more)) = after_byte (before ++ (32 ∷ a.name ++ (61 ∷ []))) (a.value ++ (a.quote ∷ more)) a.quote small (subst IsUtf8 (regrouped before a.name a.value more a.quote) w) in (
      before_byte a.name (a.quote ∷ (a.value ++ (a.quote ∷ more))) 61 (omega arith) name,
      before_byte a.value more a.quote small value,
      attrs_utf8 attrs (a.value ++ (a.quote ∷ [])) rest p.1 (subst IsUtf8 (sym (append_assoc a.value (a.quote ∷ []) more)) value),
    )

-- what the head keeps of a `data-mw` is its decoded value
data_mw-attrs_of : (attrs : List Spelled) → AttrsUtf8 attrs → data_mw (attrs_of attrs) ≡ value_named (codes "data-mw") attrs
data_mw-attrs_of [] u = refl
data_mw-attrs_of (a ∷ attrs) u =
    (λ i. if bytes_eq (encodes-chars a.name u.0 i) (codes "data-mw") then Some (encodes-chars (decoded a.value) (law_decodes_utf8 a.value u.1) i) else data_mw-attrs_of attrs u.2 i)

-- ---- a reference

reference-some : (owners : List Owner) (value : Option (List ℕ)) (reading : RefRead) → reference_in owners value ≡ Some reading → is_some (option_and_then reference_of value) ≡ true
reference-some owners None reading e = cc
reference-some owners (Some mw) reading e = by (reference_of mw) e
  where
    by : (r : Option RefRead) → (elim r [ None ↦ None | Some x ↦ unless_owned owners x ]) ≡ Some reading → is_some r ≡ true
    by None e = cc
    by (Some x) e = refl

made-ref : (w : Progress) (name : List ℕ) (attrs : List Spelled) (children : Forest) (r : RefNode) → AttrsUtf8 attrs → (may : Bool) (found : Option RefRead) → reference_in w.owners (value_named (codes "data-mw") attrs) ≡ found →
    (if may then (elim found [ None ↦ None | Some reading ↦ Some (ref_node w name attrs children reading) ]) else None) ≡ Some r → is_editable_ref r.head ≡ true
made-ref w name attrs children r u false found e h = cc
made-ref w name attrs children r u true None e h = cc
made-ref w name attrs children r u true (Some reading) e h =
    let first : RefNode = ref_node w name attrs children reading in
    let is : first ≡ r = let s : ◌≡◌ {A = Option RefNode} (Some first) (Some r) = h in ap (λ x. unwrap_or x first) s in
    ap (λ x. is_editable_ref x.head) (sym is)
    ∙ ap (λ v. is_some (option_and_then reference_of v)) (data_mw-attrs_of attrs u)
    ∙ reference-some w.owners (value_named (codes "data-mw") attrs) reading e

group-refers : (nodes : Forest) → ((name : List ℕ) (attrs : List Spelled) (children : Forest) → nodes ≡ Element name attrs children Nothing → AttrsUtf8 attrs) → GroupRefers true nodes
group-refers Nothing u w around r s e = cc
group-refers (Text text rest) u w around r s e = cc
group-refers (Remark text rest) u w around r s e = cc
group-refers (Void name attrs slash rest) u w around r s e = cc
group-refers (RawElement name attrs text rest) u w around r s e = cc
group-refers (Element name attrs children Nothing) u w around r s e =
    made-ref w name attrs children r (u name attrs children refl) (may_be_reference w around name attrs) (reference_in w.owners (value_named (codes "data-mw") attrs)) refl e
group-refers (Element name attrs children (Text text rest)) u w around r s e = cc
group-refers (Element name attrs children (Remark text rest)) u w around r s e = cc
group-refers (Element name attrs children (Void n a slash rest)) u w around r s e = cc
group-refers (Element name attrs children (RawElement n a text rest)) u w around r s e = cc
group-refers (Element name attrs children (Element n a inner rest)) u w around r s e = cc

-- ---- the groups of a page, and those of a body

all_right : (a f g c e r : List ℕ) → ((((a ++ f) ++ g) ++ c) ++ e) ++ r ≡ a ++ (f ++ (g ++ (c ++ (e ++ r))))
all_right a f g c e r = simp append_assoc

pub element_attrs : (room : ℕ) (name : List ℕ) (attrs : List Spelled) (children : Forest) → is_forest room (Element name attrs children Nothing) ≡ true → IsUtf8 (spelling (Element name attrs children Nothing)) → AttrsUtf8 attrs
element_attrs zero name attrs children h u = cc
element_attrs (suc room) name attrs children h u =
    let p = and_parts (not (is_void name) && not (is_raw name) && is_start name attrs false && is_forest room children) (is_forest (suc room) Nothing) h in
    let q = and_parts (not (is_void name) && not (is_raw name) && is_start name attrs false) (is_forest room children) p.0 in
    let s = and_parts (not (is_void name) && not (is_raw name)) (is_start name attrs false) q.0 in
    let suffix : List ℕ = codes ">" ++ (spelling children ++ (end_text name ++ [])) in
    attrs_utf8 attrs (60 ∷ name) suffix (is_start-parts name attrs false s.1).1
    (subst IsUtf8 (all_right (60 ∷ name) (flat_map attr_text attrs) (codes ">") (spelling children) (end_text name) []) u)

group-attrs : (room : ℕ) (nodes : Forest) → is_forest room nodes ≡ true → IsUtf8 (spelling nodes) → (name : List ℕ) (attrs : List Spelled) (children : Forest) → nodes ≡ Element name attrs children Nothing → AttrsUtf8 attrs
group-attrs room nodes h u name attrs children e = element_attrs room name attrs children (ap (is_forest room) (sym e) ∙ h) (subst (λ n. IsUtf8 (spelling n)) e u)

groups-refer : (room : ℕ) (parts : Parts) → Faithful room parts → AllUtf8 parts → GroupsRefer true parts
groups-refer room Ended f u = tt
groups-refer room (Words text later) f u = groups-refer room later f.1 u.1
groups-refer room (Note text later) f u = groups-refer room later f u
groups-refer room (Group nodes later) f u = (group-refers nodes (group-attrs room nodes f.0.spelled u.0), groups-refer room later f.1 u.1)
groups-refer room (Single name attrs source later) f u = groups-refer room later f.1 u.1
groups-refer room (Parent name attrs children later) f u = (groups-refer (room - 1) children f.1 u.1, groups-refer room later f.2 u.2)

-- where no reference is editable there is none
may_not : (w : Progress) (around : Around) (name : List ℕ) (attrs : List Spelled) → w.editable ≡ false → may_be_reference w around name attrs ≡ false
may_not w (Structural k) name attrs e = refl
may_not w (Flow k) name attrs e = off w.editable _ _ _ e
  where
    off : (a b c d : Bool) → a ≡ false → (a && b && c && d) ≡ false
    off true b c d e = cc
    off false b c d e = refl
may_not w (Content marks) name attrs e = off w.editable _ _ _ e
  where
    off : (a b c d : Bool) → a ≡ false → (a && b && c && d) ≡ false
    off true b c d e = cc
    off false b c d e = refl

none-made : (may : Bool) (found : Option RefNode) (r : RefNode) → may ≡ false → (if may then found else None) ≡ Some r → ⊥
none-made true found r e h = cc
none-made false found r e h = cc

none-refers : (nodes : Forest) → GroupRefers false nodes
none-refers Nothing w around r s e = cc
none-refers (Text text rest) w around r s e = cc
none-refers (Remark text rest) w around r s e = cc
none-refers (Void name attrs slash rest) w around r s e = cc
none-refers (RawElement name attrs text rest) w around r s e = cc
none-refers (Element name attrs children Nothing) w around r s e = absurd (none-made (may_be_reference w around name attrs) _ r (may_not w around name attrs s) e)
none-refers (Element name attrs children (Text text rest)) w around r s e = cc
none-refers (Element name attrs children (Remark text rest)) w around r s e = cc
none-refers (Element name attrs children (Void n a slash rest)) w around r s e = cc
none-refers (Element name attrs children (RawElement n a text rest)) w around r s e = cc
none-refers (Element name attrs children (Element n a inner rest)) w around r s e = cc

pub none-refer : (parts : Parts) → GroupsRefer false parts
none-refer Ended = tt
none-refer (Words text later) = none-refer later
none-refer (Note text later) = none-refer later
none-refer (Group nodes later) = (none-refers nodes, none-refer later)
none-refer (Single name attrs source later) = none-refer later
none-refer (Parent name attrs children later) = (none-refer children, none-refer later)

-- ---- the page

refers-with_origins : (items : List PlainItem) (k : ℕ) → all_refer (with_origins k items) ≡ all_refer items
refers-with_origins [] k = refl
refers-with_origins (Char c marks ∷ items) k = refers-with_origins items k
refers-with_origins (Closing kind pre ∷ items) k = refers-with_origins items k
refers-with_origins (Opening kind head marks pre origin generated ∷ items) k = ap (λ b. head_refers kind head && b) (refers-with_origins items (suc k))

item_refers-body : (o : Owner) → all_refer (internal_item o) ≡ true
item_refers-body o =
    let f : Forest = or_nothing (forest_of o.html) in
    let w : Progress = record { at = 0; owners = []; editable = false } in
    refers-append (body_made f).later.items (Closing InternalItem (body_made f).pre ∷ [])
    (Refers-run_closed w (made_of (Flow InternalItem) (parts_of f) w) (Refers-made_of false (Flow InternalItem) (parts_of f) (none-refer (parts_of f)) w refl)).later refl

items_refer : (owners : List Owner) → all_refer (flat_map internal_item owners) ≡ true
items_refer [] = refl
items_refer (o ∷ owners) = refers-append (internal_item o) (flat_map internal_item owners) (item_refers-body o) (items_refer owners)

pub spelled_refers : SpelledRefers
spelled_refers at f h u =
    let w : Progress = record { at = at; owners = []; editable = true } in
    let m : Made = page_made at f in
    let groups = groups-refer 200 (parts_of f) (Faithful-parts_of 200 f h) (all_utf8 f h u) in
    refers-append (with_origins 0 m.later.items) (internal_list m.pre m.owners)
    (refers-with_origins m.later.items 0 ∙ (Refers-run_closed w (made_of (Flow Root) (parts_of f) w) (Refers-made_of true (Flow Root) (parts_of f) groups w refl)).later)
    (refers-append (flat_map internal_item m.owners) (Closing InternalList [] ∷ []) (items_refer m.owners) refl)

forest_refers : (page : List ℕ) (from to : ℕ) → IsUtf8 (slice page from to) → (r : Option Forest) → forest_of (slice page from to) ≡ r → (o : Opened) → opened_forest page (record { from = from; to = to }) r ≡ Some o → all_refer o.items ≡ true
forest_refers page from to u None e o h = cc
forest_refers page from to u (Some f) e o h =
    let s = law_reads_right (slice page from to) f e in
    let first : Opened = page_opened page (record { from = from; to = to }) (page_made from f) in
    let is : first ≡ o = let p : ◌≡◌ {A = Option Opened} (Some first) (Some o) = h in ap (λ x. unwrap_or x first) p in
    ap (λ x. all_refer x.items) (sym is) ∙ spelled_refers from f s.1 (subst IsUtf8 (sym s.0) u)

body_refers : (page : List ℕ) → IsUtf8 page → (body : Result (ℕ × ℕ) ScanFault) → body_at page ≡ body → (o : Opened) → opened_body page body ≡ Some o → all_refer o.items ≡ true
body_refers page u (Err f) b o h = cc
body_refers page u (Ok body) b o h = forest_refers page body.0 body.1 (body_utf8 page body.0 body.1 u b) (forest_of (slice page body.0 body.1)) refl o h

pub opened_refers : OpenedRefers
opened_refers page o u h = body_refers page u (body_at page) refl o h
