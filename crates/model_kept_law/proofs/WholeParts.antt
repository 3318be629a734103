-- Where no leaf is kept whole, no group stands among the parts.
use Rattle.std.proofs.Common.{◌≡◌, ℕ, Bool, true, false, if◌then◌else◌, List, [], ◌∷◌, ◌++◌, map, Option, Some, None, refl, sym, ap, ◌∙◌, subst, inl, inr}
use Rattle.std.specs.Prelude.{chars}
use Rattle.model_spelling.specs.Grammar.{Attr as Spelled, Comment, token_text}
use Rattle.model_spelling.specs.Forest.{Forest, spelling}
use Rattle.ve_kinds.specs.declared.kind.Kind.{Kind}
use Rattle.ve_kinds.specs.declared.kind.Kind.TheVariants.{Ref, AlienInline, AlienBlock}
use Rattle.ve_kinds.specs.Table.{is_leaf, is_inline_leaf}
use Rattle.ve_kinds.specs.Tags.{is_void, kind_of_tag}
use Rattle.ve_base.specs.declared.marks.Mark.{Mark}
use Rattle.ve_base.specs.declared.head.Head.{Head}
use Rattle.model_items.specs.declared.plain_item.PlainItem.{PlainItem}
use Rattle.model_items.specs.declared.plain_item.PlainItem.TheVariants.{Char, Opening, Closing}
use Rattle.model_page.specs.Elements.{is_white}
use Rattle.model_page.specs.Parts.{Parts, Ended, Words, Note, Group, Single, Parent}
use Rattle.model_page.specs.Fit.{Around, Flow, Structural, Content, Fit, Annotation, Leaf, Branch, Whole, around_in, fit_of, whole_kind, is_generated, has_inline_tags, is_inline_at, group_kind, note_kind}
use Rattle.model_page.specs.Heads.{characters, head_with, whole_head}
use Rattle.model_page.specs.Pieces.{Owner, Made, Piece, Progress, past, source_span, leaf, node, chars_piece, items_after, with_white, run_dropped, paragraph_before, run_ended, in_run, before_run, leaf_before}
use Rattle.model_page.specs.ReferenceNodes.{RefNode, ref_of}
use Rattle.model_page.specs.Convert.{marks_at, marked_around, element_source, inside_of, inside_piece, words_before, group_made, leaf_made, element_made, made_of}
use Rattle.model_page_law.proofs.InlinedLemmas.{is_white-parts}
use Rattle.model_page_law.proofs.TagLemmas.{leaf_kind}
use Rattle.model_page_law.proofs.KindFits.{Sane, FitStands, fit_stands}
use Rattle.model_page_law.proofs.NestLemmas.{Unsourced, Meets-made_of}
use Rattle.model_kept_law.proofs.FitFacts.{Small, HoldsBlocks, IsAlien, FitFacts, fit_facts, tag_is}
use Rattle.model_kept_law.proofs.ReadParts.{Angled, IsRead}
use Rattle.model_kept_law.proofs.ApartParts.{Apart}

-- ---- items without leaves that are kept whole

abbrev pub MayStand : Kind → Type 0
MayStand kind = is_leaf kind ≡ true → Small kind

-- each leaf is br or img
abbrev pub NoWhole : List PlainItem → Type 0
NoWhole [] = Unit {0}
NoWhole (Char c marks ∷ items) = NoWhole items
NoWhole (Closing kind pre ∷ items) = NoWhole items
NoWhole (Opening kind head marks pre origin generated ∷ items) = MayStand kind × NoWhole items

pub NoWhole-left : (xs ys : List PlainItem) → NoWhole (xs ++ ys) → NoWhole xs
NoWhole-left [] ys h = tt
NoWhole-left (Char c marks ∷ xs) ys h = NoWhole-left xs ys h
NoWhole-left (Closing kind pre ∷ xs) ys h = NoWhole-left xs ys h
NoWhole-left (Opening kind head marks pre origin generated ∷ xs) ys h = (h.0, NoWhole-left xs ys h.1)

pub NoWhole-right : (xs ys : List PlainItem) → NoWhole (xs ++ ys) → NoWhole ys
NoWhole-right [] ys h = h
NoWhole-right (Char c marks ∷ xs) ys h = NoWhole-right xs ys h
NoWhole-right (Closing kind pre ∷ xs) ys h = NoWhole-right xs ys h
NoWhole-right (Opening kind head marks pre origin generated ∷ xs) ys h = NoWhole-right xs ys h.1

NoWhole-chars : (marks : List Mark) (text : List ℕ) (xs : List PlainItem) → NoWhole xs → NoWhole (map (λ c. Char c marks) text ++ xs)
NoWhole-chars marks [] xs h = h
NoWhole-chars marks (c ∷ cs) xs h = NoWhole-chars marks cs xs h

NoWhole-items_after : (white : List ℕ) (xs : List PlainItem) → NoWhole (items_after white xs) → NoWhole xs
NoWhole-items_after white [] h = h
NoWhole-items_after white (Char c marks ∷ xs) h = h
NoWhole-items_after white (Closing kind pre ∷ xs) h = h
NoWhole-items_after white (Opening kind head marks pre origin generated ∷ xs) h = h

-- what stands after content counts for nothing
abbrev pub Beyond : Around → List PlainItem → Type 0
Beyond (Content marks) items = Unit {0}
Beyond (Flow k) items = NoWhole items
Beyond (Structural k) items = NoWhole items

pub record Sound (around : Around) (m : Made) : Type 0 where
  pub run : NoWhole m.run.items
  pub later : Beyond around m.later.items

-- ---- a white run has characters alone

abbrev Calm : Made → Type 0
Calm m = is_white m.source ≡ true → NoWhole m.run.items

not_white : (text more : List ℕ) → Angled text → is_white (text ++ more) ≡ true → ⊥
not_white text more a h = let e : false ≡ true = ap (λ t. is_white (t ++ more)) (sym a.is) ∙ h in cc

ended_run : (part : List ℕ) (w : Progress) (m : Made) → NoWhole (run_ended part w m).run.items
ended_run [] w m = tt
ended_run (b ∷ bs) w m = chosen (is_white (b ∷ bs)) (with_white (chars (b ∷ bs)) (run_dropped m)) (paragraph_before (source_span w (b ∷ bs)) m) tt tt
  where
    chosen : (c : Bool) (x y : Made) → NoWhole x.run.items → NoWhole y.run.items → NoWhole (if c then x else y).run.items
    chosen true x y f g = f
    chosen false x y f g = g

Calm-chosen : (c : Bool) (x y : Made) → Calm x → Calm y → Calm (if c then x else y)
Calm-chosen true x y f g = f
Calm-chosen false x y f g = g

Calm-in_run : (piece : Piece) (part : List ℕ) (owners : List Owner) (m : Made) → Angled part → Calm (in_run piece part owners m)
Calm-in_run piece part owners m a h = absurd (not_white part m.source a h)

Calm-before_run : (w : Progress) (piece : Piece) (owners : List Owner) (m : Made) → Calm (before_run w piece owners m)
Calm-before_run w piece owners m h = ended_run m.source w m

Calm-leaf_before : (w : Progress) (kind : Kind) (head : Head) (marks : List Mark) (part : List ℕ) (owners : List Owner) (m : Made) → Angled part → Calm (leaf_before w kind head marks part owners m)
Calm-leaf_before w kind head marks part owners m a =
    Calm-chosen (is_inline_leaf kind) _ _ (Calm-in_run (leaf kind head marks (source_span w part)) part owners m a)
    (Calm-before_run (past w part owners) (leaf kind head marks (source_span w part)) owners m)

Calm-leaf_made : (around : Around) (attrs : List Spelled) (part : List ℕ) (later : Progress → Made) (w : Progress) (fit : Fit) → Angled part → Calm (leaf_made around attrs part later w fit)
Calm-leaf_made around attrs part later w (Leaf kind) a = Calm-leaf_before w kind (head_with attrs) (marks_at around) part [] (later (past w part [])) a
Calm-leaf_made around attrs part later w (Whole kind) a = Calm-leaf_before w kind (whole_head part) (marks_at around) part [] (later (past w part [])) a
Calm-leaf_made around attrs part later w Annotation a = Calm-leaf_before w (note_kind around) (whole_head part) (marks_at around) part [] (later (past w part [])) a
Calm-leaf_made around attrs part later w (Branch kind) a = Calm-leaf_before w (note_kind around) (whole_head part) (marks_at around) part [] (later (past w part [])) a

Calm-group_made : (around : Around) (nodes : Forest) (later : Progress → Made) (w : Progress) (r : Option RefNode) → Angled (spelling nodes) → Calm (group_made around nodes later w r)
Calm-group_made around nodes later w (Some r) a = Calm-leaf_before w Ref r.head (marks_at around) (spelling nodes) r.owners (later (past w (spelling nodes) r.owners)) a
Calm-group_made around nodes later w None a = Calm-leaf_before w (group_kind around nodes) (whole_head (spelling nodes)) (marks_at around) (spelling nodes) [] (later (past w (spelling nodes) [])) a

Calm-element_made : (around : Around) (name : List ℕ) (attrs : List Spelled) (part : List ℕ) (children : Around → Progress → Made) (later : Progress → Made) (w : Progress) (fit : Fit) → Angled part →
    Calm (element_made around name attrs part children later w fit)
Calm-element_made around name attrs part children later w Annotation a =
    let inside = children (marked_around around name attrs) (inside_of w name attrs) in
    Calm-in_run inside.run part inside.owners (later (past w part inside.owners)) a
Calm-element_made around name attrs part children later w (Branch kind) a =
    let at = inside_of w name attrs in
    let inside = inside_piece (around_in kind) at (children (around_in kind) at) in
    let after = past w part inside.owners in
    Calm-before_run after (node kind (head_with attrs) [] false (source_span w part) inside.later inside.pre) inside.owners (later after)
Calm-element_made around name attrs part children later w (Leaf kind) a = Calm-leaf_made around attrs part later w (Leaf kind) a
Calm-element_made around name attrs part children later w (Whole kind) a = Calm-leaf_made around attrs part later w (Whole kind) a

Calm-words : (marks : List Mark) (text : List ℕ) (m : Made) → Calm m → Calm (in_run (chars_piece marks (characters text)) text [] m)
Calm-words marks text m c h = NoWhole-chars marks (characters text) m.run.items (c (is_white-parts text m.source h).1)

Calm-words_before : (around : Around) (text : List ℕ) (m : Made) → Calm m → Calm (words_before around text m)
Calm-words_before (Content marks) text m c = Calm-words marks text m c
Calm-words_before (Flow k) text m c = Calm-words [] text m c
Calm-words_before (Structural k) text m c = c

pub calm : (parts : Parts) → IsRead parts → (around : Around) (w : Progress) → is_white (made_of around parts w).source ≡ true → NoWhole (made_of around parts w).run.items
calm Ended r around w h = tt
calm (Words text later) r around w h = Calm-words_before around text (made_of around later (past w text [])) (calm later r.3 around (past w text [])) h
calm (Note text later) r around w h = Calm-leaf_made around [] (token_text (Comment text)) (made_of around later) w (Whole (note_kind around)) (record { rest = _; is = refl }) h
calm (Group nodes later) r around w h = Calm-group_made around nodes (made_of around later) w (ref_of w around nodes) r.0 h
calm (Single name attrs source later) r around w h = Calm-leaf_made around attrs source (made_of around later) w (fit_of around name Ended) r.0.angled h
calm (Parent name attrs children later) r around w h =
    Calm-element_made around name attrs (element_source name attrs children) (λ a. made_of a children) (made_of around later) w (fit_of around name children) (record { rest = _; is = refl }) h

-- ---- what would be kept whole

-- both are leaves that are kept whole
alien_out : (around : Around) (k : Kind) → IsAlien around k → (w : Progress) (head : Head) (marks : List Mark) (part : List ℕ) (m : Made) → Sound around (leaf_before w k head marks part [] m) → ⊥
alien_out around k (inl e) w head marks part m s = let h : Sound around (leaf_before w AlienInline head marks part [] m) = subst (λ j. Sound around (leaf_before w j head marks part [] m)) e s in let f : false ≡ true = h.run.0 refl in cc
alien_out (Content ms) k (inr p) w head marks part m s = absurd p.1
alien_out (Flow j) k (inr p) w head marks part m s =
    let h : Sound (Flow j) (leaf_before w AlienBlock head marks part [] m) = subst (λ i. Sound (Flow j) (leaf_before w i head marks part [] m)) p.0 s in let f : false ≡ true = h.later.0 refl in cc
alien_out (Structural j) k (inr p) w head marks part m s =
    let h : Sound (Structural j) (leaf_before w AlienBlock head marks part [] m) = subst (λ i. Sound (Structural j) (leaf_before w i head marks part [] m)) p.0 s in let f : false ≡ true = h.later.0 refl in cc

pub note_alien : (around : Around) → IsAlien around (note_kind around)
note_alien (Content marks) = inl refl
note_alien (Flow k) = inr (refl, tt)
note_alien (Structural k) = inr (refl, tt)

group_by : (around : Around) (generated inline : Bool) (w : Progress) (head : Head) (marks : List Mark) (part : List ℕ) (m : Made) →
    Sound around (leaf_before w (whole_kind generated (is_inline_at around inline)) head marks part [] m) → ⊥
group_by (Content ms) true i w head marks part m s = let f : false ≡ true = s.run.0 refl in cc
group_by (Content ms) false i w head marks part m s = let f : false ≡ true = s.run.0 refl in cc
group_by (Flow k) true true w head marks part m s = let f : false ≡ true = s.run.0 refl in cc
group_by (Flow k) true false w head marks part m s = let f : false ≡ true = s.later.0 refl in cc
group_by (Flow k) false true w head marks part m s = let f : false ≡ true = s.run.0 refl in cc
group_by (Flow k) false false w head marks part m s = let f : false ≡ true = s.later.0 refl in cc
group_by (Structural k) true i w head marks part m s = let f : false ≡ true = s.later.0 refl in cc
group_by (Structural k) false i w head marks part m s = let f : false ≡ true = s.later.0 refl in cc

group_out : (around : Around) (nodes : Forest) (later : Progress → Made) (w : Progress) (r : Option RefNode) → Sound around (group_made around nodes later w r) → ⊥
group_out around nodes later w (Some r) s = let f : false ≡ true = s.run.0 refl in cc
group_out around nodes later w None s =
    group_by around (is_generated nodes) (has_inline_tags nodes) w (whole_head (spelling nodes)) (marks_at around) (spelling nodes) (later (past w (spelling nodes) [])) s

-- ---- what is left of sound items

ended_sound : (part : List ℕ) (w : Progress) (m : Made) → (is_white part ≡ true → NoWhole m.run.items) → NoWhole (run_ended part w m).later.items → NoWhole m.run.items × NoWhole m.later.items
ended_sound [] w m c h = (c refl, h)
ended_sound (b ∷ bs) w m c h = by (is_white (b ∷ bs)) c h
  where
    by : (t : Bool) → (t ≡ true → NoWhole m.run.items) → NoWhole (if t then with_white (chars (b ∷ bs)) (run_dropped m) else paragraph_before (source_span w (b ∷ bs)) m).later.items →
        NoWhole m.run.items × NoWhole m.later.items
    by true c h = (c refl, NoWhole-items_after (chars (b ∷ bs)) m.later.items h)
    by false c h =
        (NoWhole-left m.run.items _ (NoWhole-left (m.run.items ++ _ ∷ []) m.later.items h.1), NoWhole-right (m.run.items ++ _ ∷ []) m.later.items h.1)

before_sound : (around : Around) → HoldsBlocks around → (w : Progress) (piece : Piece) (owners : List Owner) (m : Made) → Calm m → Sound around (before_run w piece owners m) →
    NoWhole piece.items × Sound around m
before_sound (Content marks) b w piece owners m c s = absurd b
before_sound (Flow k) b w piece owners m c s =
    let p = ended_sound m.source w m c (NoWhole-right piece.items _ s.later) in (NoWhole-left piece.items _ s.later, record { run = p.0; later = p.1 })
before_sound (Structural k) b w piece owners m c s =
    let p = ended_sound m.source w m c (NoWhole-right piece.items _ s.later) in (NoWhole-left piece.items _ s.later, record { run = p.0; later = p.1 })

inside_sound : (around : Around) (w : Progress) (m : Made) → Calm m → Unsourced around m.source → NoWhole (inside_piece around w m).later.items → Sound around m
inside_sound (Content marks) w m c u h = record { run = h; later = tt }
inside_sound (Flow k) w m c u h = let p = ended_sound m.source w m c h in record { run = p.0; later = p.1 }
inside_sound (Structural k) w m c u h = record { run = c (ap is_white u); later = h }

words_sound : (around : Around) (text : List ℕ) (m : Made) → Sound around (words_before around text m) → Sound around m
words_sound (Content marks) text m s = record { run = NoWhole-right (chars_piece marks (characters text)).items m.run.items s.run; later = tt }
words_sound (Flow k) text m s = record { run = NoWhole-right (chars_piece [] (characters text)).items m.run.items s.run; later = s.later }
words_sound (Structural k) text m s = record { run = s.run; later = NoWhole-items_after (chars text) m.later.items s.later }

in_run_sound : (around : Around) (piece : Piece) (part : List ℕ) (owners : List Owner) (m : Made) → Sound around (in_run piece part owners m) → NoWhole piece.items × Sound around m
in_run_sound around piece part owners m s = (NoWhole-left piece.items m.run.items s.run, record { run = NoWhole-right piece.items m.run.items s.run; later = s.later })

made_if_true : (c : Bool) (a b : Made) → c ≡ true → (if c then a else b) ≡ a
made_if_true true a b e = refl
made_if_true false a b e = cc

small_sound : (around : Around) (w : Progress) (kind : Kind) (head : Head) (marks : List Mark) (part : List ℕ) (m : Made) → Small kind → Sound around (leaf_before w kind head marks part [] m) → Sound around m
small_sound around w kind head marks part m h s =
    (in_run_sound around (leaf kind head marks (source_span w part)) part [] m (subst (Sound around) (made_if_true (is_inline_leaf kind) _ _ (leaf_kind kind h).inline) s)).1

leaf_sound : (around : Around) (name : List ℕ) (children : Parts) (attrs : List Spelled) (part : List ℕ) (later : Progress → Made) (w : Progress) (fit : Fit) → FitFacts around name children fit →
    Sound around (leaf_made around attrs part later w fit) → Sound around (later (past w part []))
leaf_sound around name children attrs part later w (Leaf kind) f s = small_sound around w kind (head_with attrs) (marks_at around) part (later (past w part [])) (f.leaf kind refl).1 s
leaf_sound around name children attrs part later w (Whole kind) f s = absurd (alien_out around kind (f.whole kind refl) w (whole_head part) (marks_at around) part (later (past w part [])) s)
leaf_sound around name children attrs part later w Annotation f s = absurd (alien_out around (note_kind around) (note_alien around) w (whole_head part) (marks_at around) part (later (past w part [])) s)
leaf_sound around name children attrs part later w (Branch kind) f s = absurd (alien_out around (note_kind around) (note_alien around) w (whole_head part) (marks_at around) part (later (past w part [])) s)

-- what is known of the children of an element
record Within (inner : Parts) (children : Around → Progress → Made) : Type 0 where
  calm_are : (a : Around) (p : Progress) → Calm (children a p)
  unsourced : (a : Around) (p : Progress) → Sane a → Unsourced a (children a p).source
  apart : (a : Around) (p : Progress) → Sane a → Sound a (children a p) → Apart inner

-- an element that is a mark or a branch: not a leaf
element_sound : (around : Around) (name : List ℕ) (inner : Parts) (attrs : List Spelled) (part : List ℕ) (children : Around → Progress → Made) (later : Progress → Made) (w : Progress) (fit : Fit) →
    FitFacts around name inner fit → FitStands around fit → Within inner children → ((p : Progress) → Calm (later p)) → ((k : Kind) → fit ≡ Leaf k → ⊥) →
    Sound around (element_made around name attrs part children later w fit) → Apart inner × ((p : Progress) × Sound around (later p))
element_sound around name inner attrs part children later w Annotation f t h c n s =
    let at = inside_of w name attrs in
    let a = marked_around around name attrs in
    let inside = children a at in
    let after = past w part inside.owners in
    let p = in_run_sound around inside.run part inside.owners (later after) s in
    (h.apart a at tt (record { run = p.0; later = tt }), (after, p.1))
element_sound around name inner attrs part children later w (Branch kind) f t h c n s =
    let at = inside_of w name attrs in
    let a = around_in kind in
    let inside = inside_piece a at (children a at) in
    let after = past w part inside.owners in
    let p = before_sound around (f.branch kind refl).2 after (node kind (head_with attrs) [] false (source_span w part) inside.later inside.pre) inside.owners (later after) (c after) s in
    (h.apart a at t.2 (inside_sound a at (children a at) (h.calm_are a at) (h.unsourced a at t.2) (NoWhole-left inside.later.items _ p.0.1)), (after, p.1))
element_sound around name inner attrs part children later w (Leaf kind) f t h c n s = absurd (n kind refl)
element_sound around name inner attrs part children later w (Whole kind) f t h c n s = absurd (alien_out around kind (f.whole kind refl) w (whole_head part) (marks_at around) part (later (past w part [])) s)

-- a leaf's element is void
pub leaf_void : (name : List ℕ) (k : Kind) → (kind_of_tag name ≡ Some k) × Small k → is_void name ≡ true
leaf_void name k p = ap is_void (tag_is name k p.0) ∙ (leaf_kind k p.1).void_is

both : (b : Bool) → b ≡ true → b ≡ false → ⊥
both b e f = cc

pub no_leaf : (around : Around) (name : List ℕ) (children : Parts) → is_void name ≡ false → (k : Kind) → fit_of around name children ≡ Leaf k → ⊥
no_leaf around name children v k e = both (is_void name) (leaf_void name k ((fit_facts around name children).leaf k e)) v

pub sound_apart : (parts : Parts) → IsRead parts → (around : Around) → Sane around → (w : Progress) → Sound around (made_of around parts w) → Apart parts
sound_apart Ended r around a w s = tt
sound_apart (Words text later) r around a w s = sound_apart later r.3 around a (past w text []) (words_sound around text (made_of around later (past w text [])) s)
sound_apart (Note text later) r around a w s =
    let part = token_text (Comment text) in
    absurd (alien_out around (note_kind around) (note_alien around) w (whole_head part) (marks_at around) part (made_of around later (past w part [])) s)
sound_apart (Group nodes later) r around a w s = absurd (group_out around nodes (made_of around later) w (ref_of w around nodes) s)
sound_apart (Single name attrs source later) r around a w s =
    sound_apart later r.1 around a (past w source []) (leaf_sound around name Ended attrs source (made_of around later) w (fit_of around name Ended) (fit_facts around name Ended) s)
sound_apart (Parent name attrs children later) r around a w s =
    let e = element_sound around name children attrs (element_source name attrs children) (λ x. made_of x children) (made_of around later) w (fit_of around name children)
    (fit_facts around name children) (fit_stands around a name children)
    (record { calm_are = calm children r.1; unsourced = λ x p t. (Meets-made_of x t children p).source; apart = λ x p t. sound_apart children r.1 x t p })
    (calm later r.2 around) (no_leaf around name children r.0.tag.void_is) s in
    (e.0, sound_apart later r.2 around a e.1.0 e.1.1)

-- what a branch holds
pub inside_apart : (parts : Parts) → IsRead parts → (around : Around) → Sane around → (w : Progress) → NoWhole (inside_piece around w (made_of around parts w)).later.items → Apart parts
inside_apart parts r around a w h =
    sound_apart parts r around a w (inside_sound around w (made_of around parts w) (calm parts r around w) (Meets-made_of around a parts w).source h)
