-- A run without leaves that are kept whole is the content that a forest makes, wherever that
-- stands.
use Rattle.std.proofs.Common.{◌≡◌, ℕ, Bool, true, false, if◌then◌else◌, List, [], ◌∷◌, ◌++◌, map, Option, Some, None, refl, sym, ap, ◌∙◌, subst, inl, inr}
use Rattle.std.specs.Prelude.{chars}
use Rattle.model_spelling.specs.Grammar.{Attr as Spelled, Comment, token_text, start_text, end_text}
use Rattle.model_spelling.specs.Forest.{Forest, Nothing, Text, Void, Element, spelling, starts_with_text}
use Rattle.ve_kinds.specs.Tags.{is_raw, kind_of_tag}
use Rattle.model_spelling.specs.Grammar.{is_tag_name}
use Rattle.ve_kinds.specs.declared.kind.Kind.{Kind}
use Rattle.ve_kinds.specs.declared.kind.Kind.TheVariants.{AlienInline, AlienBlock}
use Rattle.ve_base.specs.declared.head.Head.{Head}
use Rattle.model_items.specs.declared.plain_item.PlainItem.TheVariants.{Char}
use Rattle.model_page.specs.Elements.{is_white, is_held}
use Rattle.model_page.specs.Tags.{tag_of, is_annotation_tag}
use Rattle.model_page.specs.Parts.{Parts, Ended, Words, Note, Group, Single, Parent, parts_of}
use Rattle.model_page.specs.Fit.{Around, Flow, Content, Fit, Annotation, Leaf, Branch, Whole, around_in, has_child, fit_of, whole_kind, is_generated, has_inline_tags}
use Rattle.model_page.specs.Heads.{characters, head_with, whole_head}
use Rattle.model_page.specs.Pieces.{Owner, Made, Piece, Progress, past, source_span, leaf, node, chars_piece, with_white, run_dropped, paragraph_before, run_ended, in_run, before_run, leaf_before}
use Rattle.model_page.specs.ReferenceNodes.{RefNode, ref_of}
use Rattle.model_page.specs.Convert.{marked_around, element_source, inside_of, inside_piece, group_made, leaf_made, element_made, made_of}
use Rattle.model_page_law.proofs.SourceLemmas.{parts_of-source}
use Rattle.model_page_law.proofs.NeatForests.{NeatTag, Neat}
use Rattle.model_page_law.proofs.TileLemmas.{run_ended-source}
use Rattle.model_page_law.proofs.TagLemmas.{LeafKind, leaf_kind}
use Rattle.model_page_law.proofs.ContentLemmas.{Reads, parts_if_false}
use Rattle.model_page_law.proofs.BlockReads.{Loose, leaf_made-inline}
use Rattle.model_kept_law.proofs.FitFacts.{Small, IsAlien, FitFacts, fit_facts, marks_content, marks_flow, tag_is}
use Rattle.model_kept_law.proofs.ReadParts.{IsRead, is_words, SingleRead}
use Rattle.model_kept_law.proofs.ApartParts.{Apart, apart_same}
use Rattle.model_kept_law.proofs.WholeParts.{NoWhole, NoWhole-left, NoWhole-right, note_alien, leaf_void, no_leaf, sound_apart}

-- the forest of the run that was made
pub record RunForest (words : Bool) (m : Made) : Type 0 where
  pub run : Forest
  pub spells : spelling run ≡ m.source
  pub neat : Neat run
  pub loose : (k : Kind) → Loose k run
  pub apart : Apart (parts_of run)
  pub reads : Reads [] run m.run.items
  pub starts : words ≡ false → starts_with_text run ≡ false

-- ---- where no run begins

record Ends (m : Made) : Type 0 where
  run : m.run.items ≡ []
  source : m.source ≡ []

none : (words : Bool) (m : Made) → Ends m → RunForest words m
none words m e = record { run = Nothing; spells = sym e.source; neat = tt; loose = λ k. tt; apart = tt; reads = λ w. sym e.run; starts = λ h. refl }

ended_run : (part : List ℕ) (w : Progress) (m : Made) → (run_ended part w m).run.items ≡ []
ended_run [] w m = refl
ended_run (b ∷ bs) w m = chosen (is_white (b ∷ bs)) (with_white (chars (b ∷ bs)) (run_dropped m)) (paragraph_before (source_span w (b ∷ bs)) m) refl refl
  where
    chosen : (c : Bool) (x y : Made) → x.run.items ≡ [] → y.run.items ≡ [] → (if c then x else y).run.items ≡ []
    chosen true x y f g = f
    chosen false x y f g = g

Ends-before_run : (w : Progress) (piece : Piece) (owners : List Owner) (m : Made) → Ends (before_run w piece owners m)
Ends-before_run w piece owners m = record { run = ended_run m.source w m; source = run_ended-source m.source w m }

abbrev Whole_leaf : Progress → Kind → Head → List ℕ → Made → Made
Whole_leaf w k head part m = leaf_before w k head [] part [] m

alien_ends : (parent k : Kind) → IsAlien (Flow parent) k → (w : Progress) (head : Head) (part : List ℕ) (m : Made) → NoWhole (Whole_leaf w k head part m).run.items → Ends (Whole_leaf w k head part m)
alien_ends parent k (inl e) w head part m h =
    let g : NoWhole (Whole_leaf w AlienInline head part m).run.items = subst (λ j. NoWhole (Whole_leaf w j head part m).run.items) e h in absurd (let f : false ≡ true = g.0 refl in cc)
alien_ends parent k (inr p) w head part m h = subst (λ j. Ends (Whole_leaf w j head part m)) (sym p.0) (Ends-before_run (past w part []) (leaf AlienBlock head [] (source_span w part)) [] m)

group_ends : (parent : Kind) (generated inline : Bool) (w : Progress) (head : Head) (part : List ℕ) (m : Made) →
    NoWhole (Whole_leaf w (whole_kind generated inline) head part m).run.items → Ends (Whole_leaf w (whole_kind generated inline) head part m)
group_ends parent true true w head part m h = absurd (let f : false ≡ true = h.0 refl in cc)
group_ends parent false true w head part m h = absurd (let f : false ≡ true = h.0 refl in cc)
group_ends parent true false w head part m h = Ends-before_run (past w part []) (leaf (whole_kind true false) head [] (source_span w part)) [] m
group_ends parent false false w head part m h = Ends-before_run (past w part []) (leaf (whole_kind false false) head [] (source_span w part)) [] m

group_run : (parent : Kind) (nodes : Forest) (later : Progress → Made) (w : Progress) (r : Option RefNode) → NoWhole (group_made (Flow parent) nodes later w r).run.items → Ends (group_made (Flow parent) nodes later w r)
group_run parent nodes later w (Some r) h = absurd (let f : false ≡ true = h.0 refl in cc)
group_run parent nodes later w None h = group_ends parent (is_generated nodes) (has_inline_tags nodes) w (whole_head (spelling nodes)) (spelling nodes) (later (past w (spelling nodes) [])) h

-- ---- a leaf br or img

single_run : (parent : Kind) (name : List ℕ) (attrs : List Spelled) (source : List ℕ) (later : Progress → Made) (w : Progress) (kind : Kind) → (kind_of_tag name ≡ Some kind) × Small kind → SingleRead name attrs source →
    ((p : Progress) → NoWhole (later p).run.items → (words : Bool) × RunForest words (later p)) →
    NoWhole (leaf_made (Flow parent) attrs source later w (Leaf kind)).run.items → RunForest false (leaf_made (Flow parent) attrs source later w (Leaf kind))
single_run parent name attrs source later w kind p r f h =
    let t : LeafKind kind = leaf_kind kind p.1 in
    let name_is : name ≡ tag_of kind = tag_is name kind p.0 in
    let v = r.void (leaf_void name kind p) in
    let after : Progress = past w source [] in
    let piece : Piece = leaf kind (head_with attrs) [] (source_span w source) in
    let is : leaf_made (Flow parent) attrs source later w (Leaf kind) ≡ in_run piece source [] (later after) = leaf_made-inline (Flow parent) attrs source later w kind (Leaf kind) t.inline refl in
    let g : NoWhole (in_run piece source [] (later after)).run.items = subst (λ m. NoWhole m.run.items) is h in
    let i = (f after (NoWhole-right piece.items (later after).run.items g)).1 in
    let content : fit_of (Content []) name Ended ≡ Leaf kind = ap (λ n. fit_of (Content []) n Ended) name_is ∙ t.content [] in
    let part : List ℕ = start_text name attrs v.0 in
    let parts_are : parts_of (Void name attrs v.0 i.run) ≡ Single name attrs part (parts_of i.run) = parts_if_false (is_held attrs) _ (Single name attrs part (parts_of i.run)) r.free in
    subst (RunForest false) (sym is) (record {
      run = Void name attrs v.0 i.run;
      spells = (λ j. sym v.1 j ++ i.spells j);
      neat = (record { name_is = ap is_tag_name name_is ∙ t.name_is; void_is = leaf_void name kind p; raw_is = ap is_raw name_is ∙ t.raw_is; attrs_are = v.2 }, i.neat);
      loose = λ k. (r.free, (kind, t.inline, ap (λ n. fit_of (Flow k) n Ended) name_is ∙ t.flow k, content), i.loose k);
      apart = subst Apart (sym parts_are) i.apart;
      reads = λ u.
          ap (λ x. (made_of (Content []) x u).run.items) parts_are
          ∙ ap (λ m. m.run.items) (leaf_made-inline (Content []) attrs part (made_of (Content []) (parts_of i.run)) u kind (fit_of (Content []) name Ended) t.inline content)
          ∙ ap (λ xs. piece.items ++ xs) (i.reads (past u part []));
      starts = λ e. refl;
    })

-- ---- a mark

mark_run : (parent : Kind) (name : List ℕ) (attrs : List Spelled) (inner : Forest) (later : Progress → Made) (w : Progress) →
    is_held attrs ≡ false → NeatTag false name attrs → Neat inner → IsRead (parts_of inner) → (is_annotation_tag name ≡ true) × (has_child (parts_of inner) ≡ true) →
    ((p : Progress) → NoWhole (later p).run.items → (words : Bool) × RunForest words (later p)) →
    let part : List ℕ = element_source name attrs (parts_of inner) in
    NoWhole (element_made (Flow parent) name attrs part (λ a. made_of a (parts_of inner)) later w Annotation).run.items →
    RunForest false (element_made (Flow parent) name attrs part (λ a. made_of a (parts_of inner)) later w Annotation)
mark_run parent name attrs inner later w free tag neat read mark f h =
    let part : List ℕ = element_source name attrs (parts_of inner) in
    let around : Around = marked_around (Flow parent) name attrs in
    let inside : Made = made_of around (parts_of inner) (inside_of w name attrs) in
    let after : Progress = past w part inside.owners in
    let i = (f after (NoWhole-right inside.run.items (later after).run.items h)).1 in
    let apart : Apart (parts_of inner) =
    sound_apart (parts_of inner) read around tt (inside_of w name attrs) (record { run = NoWhole-left inside.run.items (later after).run.items h; later = tt }) in
    let content : fit_of (Content []) name (parts_of inner) ≡ Annotation = marks_content name (parts_of inner) mark.0 mark.1 [] in
    let parts_are : parts_of (Element name attrs inner i.run) ≡ Parent name attrs (parts_of inner) (parts_of i.run) = parts_if_false (is_held attrs) _ (Parent name attrs (parts_of inner) (parts_of i.run)) free in
    record {
      run = Element name attrs inner i.run;
      spells = (λ j. (start_text name attrs false ++ sym (parts_of-source inner) j ++ end_text name) ++ i.spells j);
      neat = (tag, neat, i.neat);
      loose = λ k. (free, marks_flow name (parts_of inner) mark.0 mark.1 k, content, i.loose k);
      apart = subst Apart (sym parts_are) (apart, i.apart);
      reads = λ u.
          let at : Progress = inside_of u name attrs in
          let again : Made = made_of around (parts_of inner) at in
          ap (λ x. (made_of (Content []) x u).run.items) parts_are
          ∙ ap (λ t. (element_made (Content []) name attrs part (λ a. made_of a (parts_of inner)) (made_of (Content []) (parts_of i.run)) u t).run.items) content
          ∙ (λ j. (apart_same (parts_of inner) apart around at (inside_of w name attrs)).run j ++ i.reads (past u part again.owners) j);
      starts = λ e. refl;
    }

-- ---- all parts

leaf_run : (parent : Kind) (name : List ℕ) (attrs : List Spelled) (source : List ℕ) (later : Progress → Made) (w : Progress) (fit : Fit) → FitFacts (Flow parent) name Ended fit → SingleRead name attrs source →
    ((p : Progress) → NoWhole (later p).run.items → (words : Bool) × RunForest words (later p)) →
    NoWhole (leaf_made (Flow parent) attrs source later w fit).run.items → RunForest false (leaf_made (Flow parent) attrs source later w fit)
leaf_run parent name attrs source later w (Leaf kind) t r f h = single_run parent name attrs source later w kind (t.leaf kind refl) r f h
leaf_run parent name attrs source later w (Whole kind) t r f h = none false _ (alien_ends parent kind (t.whole kind refl) w (whole_head source) source (later (past w source [])) h)
leaf_run parent name attrs source later w Annotation t r f h = none false _ (alien_ends parent AlienBlock (note_alien (Flow parent)) w (whole_head source) source (later (past w source [])) h)
leaf_run parent name attrs source later w (Branch kind) t r f h = none false _ (alien_ends parent AlienBlock (note_alien (Flow parent)) w (whole_head source) source (later (past w source [])) h)

parent_run : (parent : Kind) (name : List ℕ) (attrs : List Spelled) (inner : Forest) (later : Progress → Made) (w : Progress) (fit : Fit) → FitFacts (Flow parent) name (parts_of inner) fit →
    is_held attrs ≡ false → NeatTag false name attrs → Neat inner → IsRead (parts_of inner) → ((k : Kind) → fit ≡ Leaf k → ⊥) →
    ((p : Progress) → NoWhole (later p).run.items → (words : Bool) × RunForest words (later p)) →
    let part : List ℕ = element_source name attrs (parts_of inner) in
    NoWhole (element_made (Flow parent) name attrs part (λ a. made_of a (parts_of inner)) later w fit).run.items →
    RunForest false (element_made (Flow parent) name attrs part (λ a. made_of a (parts_of inner)) later w fit)
parent_run parent name attrs inner later w Annotation t free tag neat read n f h = mark_run parent name attrs inner later w free tag neat read (t.marks refl) f h
parent_run parent name attrs inner later w (Branch kind) t free tag neat read n f h =
    let part : List ℕ = element_source name attrs (parts_of inner) in
    let at = inside_of w name attrs in
    let inside = inside_piece (around_in kind) at (made_of (around_in kind) (parts_of inner) at) in
    let after = past w part inside.owners in
    none false _ (Ends-before_run after (node kind (head_with attrs) [] false (source_span w part) inside.later inside.pre) inside.owners (later after))
parent_run parent name attrs inner later w (Leaf kind) t free tag neat read n f h = absurd (n kind refl)
parent_run parent name attrs inner later w (Whole kind) t free tag neat read n f h =
    let part : List ℕ = element_source name attrs (parts_of inner) in
    none false _ (alien_ends parent kind (t.whole kind refl) w (whole_head part) part (later (past w part [])) h)

pub run_of : (parts : Parts) → IsRead parts → (parent : Kind) (w : Progress) → NoWhole (made_of (Flow parent) parts w).run.items → RunForest (is_words parts) (made_of (Flow parent) parts w)
run_of Ended r parent w h = none false _ (record { run = refl; source = refl })
run_of (Words text later) r parent w h =
    let after : Progress = past w text [] in
    let i = run_of later r.3 parent after (NoWhole-right (chars_piece [] (characters text)).items (made_of (Flow parent) later after).run.items h) in
    record {
      run = Text text i.run;
      spells = ap (λ s. text ++ s) i.spells;
      neat = (r.0, r.1, i.starts r.2, i.neat);
      loose = i.loose;
      apart = i.apart;
      reads = λ u. ap (λ xs. map (λ c. Char c []) (characters text) ++ xs) (i.reads (past u text []));
      starts = λ e. absurd (let f : true ≡ false = e in cc);
    }
run_of (Note text later) r parent w h =
    let part : List ℕ = token_text (Comment text) in
    none false _ (alien_ends parent AlienBlock (note_alien (Flow parent)) w (whole_head part) part (made_of (Flow parent) later (past w part [])) h)
run_of (Group nodes later) r parent w h = none false _ (group_run parent nodes (made_of (Flow parent) later) w (ref_of w (Flow parent) nodes) h)
run_of (Single name attrs source later) r parent w h =
    leaf_run parent name attrs source (made_of (Flow parent) later) w (fit_of (Flow parent) name Ended) (fit_facts (Flow parent) name Ended) r.0 (λ p g. (is_words later, run_of later r.1 parent p g)) h
run_of (Parent name attrs children later) r parent w h =
    let p = r.0 in
    subst (λ c. IsRead c → NoWhole (made_of (Flow parent) (Parent name attrs c later) w).run.items → RunForest false (made_of (Flow parent) (Parent name attrs c later) w)) (sym p.are)
    (λ read g. parent_run parent name attrs p.inner (made_of (Flow parent) later) w (fit_of (Flow parent) name (parts_of p.inner)) (fit_facts (Flow parent) name (parts_of p.inner)) p.free p.tag p.neat read
    (no_leaf (Flow parent) name (parts_of p.inner) p.tag.void_is) (λ q x. (is_words later, run_of later r.2 parent q x)) g)
    r.1 h
