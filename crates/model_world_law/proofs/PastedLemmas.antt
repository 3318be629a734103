-- The items of a fragment are children of some kind, so pasting keeps the law.
use Rattle.std.proofs.Common.{◌≡◌, ℕ, Bool, true, false, not, ◌&&◌, ◌||◌, if◌then◌else◌, List, [], ◌∷◌, ◌++◌, map, Option, Some, None, ◌⊎◌, inl, inr, refl, sym, ap, ◌∙◌, subst}
use Rattle.std.specs.Prelude.{chars}
use Rattle.std.proofs.lemmas.Bool.{and_parts, and_from}
use Rattle.model_spelling.specs.Grammar.{Comment, token_text}
use Rattle.ve_base.specs.Empty.{empty_head}
use Rattle.ve_kinds.specs.declared.kind.Kind.{Kind}
use Rattle.ve_kinds.specs.declared.kind.Kind.TheVariants.{Root, P, H1, H2, H3, H4, H5, H6, Pre, Section, Li, Dt, Dd, Blockquote, Div, Td, Th, Caption, InternalItem, Ul, Ol, Dl, Table, Thead, Tbody, Tfoot, Tr, InternalList, TransBlock, AlienBlock, Br, Img, Ref, TransInline, AlienInline}
use Rattle.ve_kinds.specs.Table.{kind_same, may_hold, is_content_branch, is_flow, is_element}
use Rattle.ve_kinds.specs.Tags.{kind_of_tag}
use Rattle.model_items.proofs.SameLemmas.{Means-kind_same}
use Rattle.model_items.specs.declared.plain_item.PlainItem.{PlainItem}
use Rattle.model_items.specs.declared.plain_item.PlainItem.TheVariants.{Char, Opening, Closing}
use Rattle.model_page.specs.Elements.{is_white}
use Rattle.model_page.specs.Parts.{Parts, Ended, Words, Note, Group, Single, Parent, parts_of, source_of}
use Rattle.model_page.specs.Fit.{Around, Flow, Structural, Content, around_in}
use Rattle.model_page.specs.Heads.{whole_head}
use Rattle.model_page.specs.Pieces.{Made, Progress, past, with_white, leaf_before}
use Rattle.model_page.specs.Convert.{inside_piece, made_of}
use Rattle.model_page.specs.Fragment.{may_hold_tag, fits_content, fits_structural, fits_in, context_of, item_unmade, pieces_in, fragment_items}
use Rattle.model_page_law.specs.Origins.{origins_of}
use Rattle.model_page_law.proofs.KindFits.{Sane, Matches, matches, element_of_tag}
use Rattle.model_page_law.proofs.NestLemmas as nest
use Rattle.model_page_law.proofs.NestLemmas.{Closes, Nests, Holds, Meets, unplaced, Meets-run_closed, Meets-made_of}
use Rattle.model_edit_law.specs.InsertLaws.{innermost, are_children, FragmentStaysLawful}
use Rattle.model_world_law.specs.Pasted.{FragmentsAreChildren, PastingStaysLawful}

-- ---- what nests is children

innermost_is : (parent : Kind) (opened : List Kind) → nest.innermost parent opened ≡ innermost parent opened
innermost_is parent [] = refl
innermost_is parent (k ∷ opened) = refl

children_unmade : (parent : Kind) (opened : List Kind) (items : List PlainItem) → Nests parent opened items [] → are_children parent opened (map item_unmade items) ≡ true
children_unmade parent [] [] nests = refl
children_unmade parent (k ∷ opened) [] nests = cc
children_unmade parent [] (Char c marks ∷ items) nests = and_from (is_content_branch parent) _ nests.0 (children_unmade parent [] items nests.1)
children_unmade parent (k ∷ opened) (Char c marks ∷ items) nests = and_from (is_content_branch k) _ nests.0 (children_unmade parent (k ∷ opened) items nests.1)
children_unmade parent opened (Opening kind head marks pre origin generated ∷ items) nests =
    and_from (may_hold (innermost parent opened) kind) _ (ap (λ k. may_hold k kind) (sym (innermost_is parent opened)) ∙ nests.0)
    (and_from (not (kind_same kind InternalList)) _ (ap not nests.1) (children_unmade parent (kind ∷ opened) items nests.3))
children_unmade parent [] (Closing kind pre ∷ items) nests = absurd nests
children_unmade parent (k ∷ opened) (Closing kind pre ∷ items) nests =
    and_from (kind_same k kind) _ (ap (kind_same k) (sym nests.0) ∙ Means-kind_same.itself k) (children_unmade parent opened items nests.1)

-- ---- the kinds that a fragment may be read in

-- it has no tag's kind inside, and is no parent of runs
record IsIdle (k : Kind) : Type 0 where
  tags : (name : List ℕ) → may_hold_tag k name ≡ false
  content : is_content_branch k ≡ false
  flow : is_flow k ≡ false

idle_by : (k : Kind) → ((kind : Kind) → (name : List ℕ) → kind_of_tag name ≡ Some kind → may_hold k kind ≡ false) → (name : List ℕ) → may_hold_tag k name ≡ false
idle_by k none name = by (kind_of_tag name) refl
  where
    by : (o : Option Kind) → kind_of_tag name ≡ o → elim o [ Some kind ↦ may_hold k kind | None ↦ false ] ≡ false
    by None e = refl
    by (Some kind) e = none kind name e

-- the internal list holds no element
list_idle : (kind : Kind) → is_element kind ≡ true → may_hold InternalList kind ≡ false
list_idle Root e = refl
list_idle P e = refl
list_idle H1 e = refl
list_idle H2 e = refl
list_idle H3 e = refl
list_idle H4 e = refl
list_idle H5 e = refl
list_idle H6 e = refl
list_idle Pre e = refl
list_idle Section e = refl
list_idle Li e = refl
list_idle Dt e = refl
list_idle Dd e = refl
list_idle Blockquote e = refl
list_idle Div e = refl
list_idle Td e = refl
list_idle Th e = refl
list_idle Caption e = refl
list_idle InternalItem e = cc
list_idle Ul e = refl
list_idle Ol e = refl
list_idle Dl e = refl
list_idle Table e = refl
list_idle Thead e = refl
list_idle Tbody e = refl
list_idle Tfoot e = refl
list_idle Tr e = refl
list_idle InternalList e = refl
list_idle TransBlock e = refl
list_idle AlienBlock e = refl
list_idle Br e = refl
list_idle Img e = refl
list_idle Ref e = refl
list_idle TransInline e = refl
list_idle AlienInline e = refl

-- every kind is a parent that conversion comes to, or idle
sane_or_idle : (k : Kind) → Sane (around_in k) ⊎ IsIdle k
sane_or_idle Root = inl (refl, refl, refl, refl)
sane_or_idle P = inl tt
sane_or_idle H1 = inl tt
sane_or_idle H2 = inl tt
sane_or_idle H3 = inl tt
sane_or_idle H4 = inl tt
sane_or_idle H5 = inl tt
sane_or_idle H6 = inl tt
sane_or_idle Pre = inl tt
sane_or_idle Section = inl (refl, refl, refl, refl)
sane_or_idle Li = inl (refl, refl, refl, refl)
sane_or_idle Dt = inl (refl, refl, refl, refl)
sane_or_idle Dd = inl (refl, refl, refl, refl)
sane_or_idle Blockquote = inl (refl, refl, refl, refl)
sane_or_idle Div = inl (refl, refl, refl, refl)
sane_or_idle Td = inl (refl, refl, refl, refl)
sane_or_idle Th = inl (refl, refl, refl, refl)
sane_or_idle Caption = inl (refl, refl, refl, refl)
sane_or_idle InternalItem = inl (refl, refl, refl, refl)
sane_or_idle Ul = inl (refl, refl, refl)
sane_or_idle Ol = inl (refl, refl, refl)
sane_or_idle Dl = inl (refl, refl, refl)
sane_or_idle Table = inl (refl, refl, refl)
sane_or_idle Thead = inl (refl, refl, refl)
sane_or_idle Tbody = inl (refl, refl, refl)
sane_or_idle Tfoot = inl (refl, refl, refl)
sane_or_idle Tr = inl (refl, refl, refl)
sane_or_idle InternalList = inr (record { tags = idle_by InternalList (λ kind name e. list_idle kind (element_of_tag name kind e)); content = refl; flow = refl })
sane_or_idle TransBlock = inr (record { tags = idle_by TransBlock (λ kind name e. refl); content = refl; flow = refl })
sane_or_idle AlienBlock = inr (record { tags = idle_by AlienBlock (λ kind name e. refl); content = refl; flow = refl })
sane_or_idle Br = inr (record { tags = idle_by Br (λ kind name e. refl); content = refl; flow = refl })
sane_or_idle Img = inr (record { tags = idle_by Img (λ kind name e. refl); content = refl; flow = refl })
sane_or_idle Ref = inr (record { tags = idle_by Ref (λ kind name e. refl); content = refl; flow = refl })
sane_or_idle TransInline = inr (record { tags = idle_by TransInline (λ kind name e. refl); content = refl; flow = refl })
sane_or_idle AlienInline = inr (record { tags = idle_by AlienInline (λ kind name e. refl); content = refl; flow = refl })

-- ---- what is read in a parent that conversion comes to

holds_inside : (k : Kind) (around : Around) → Matches k around → Sane around → (w : Progress) (m : Made) → Meets around m → Holds k (inside_piece around w m).later.items
holds_inside k (Content marks) e s w m h = h.run k e
holds_inside k (Flow j) e s w m h = subst (λ i. Holds i (inside_piece (Flow j) w m).later.items) e (Meets-run_closed (Flow j) s w m h).later
holds_inside k (Structural j) e s w m h = subst (λ i. Holds i m.later.items) e h.later

abbrev begun : Progress
begun = record { at = 0; owners = []; editable = false }

sane_holds : (k : Kind) → Sane (around_in k) → (parts : Parts) → Holds k (pieces_in k parts).later.items
sane_holds k s parts = holds_inside k (around_in k) (matches k) s begun (made_of (around_in k) parts begun) (Meets-made_of (around_in k) s parts begun)

-- ---- what is read in an idle one: comments and whitespace, which are the same in a table

around_idle : (k : Kind) → IsIdle k → around_in k ≡ Structural k
around_idle k h = by (is_content_branch k) (is_flow k) h.content h.flow
  where
    by : (c d : Bool) → c ≡ false → d ≡ false → (if c then Content [] else (if d then Flow k else Structural k)) ≡ Structural k
    by true d e f = cc
    by false true e f = cc
    by false false e f = refl

no_tag : (k : Kind) → IsIdle k → (name : List ℕ) (rest : Bool) → (may_hold_tag k name && rest) ≡ true → ⊥
no_tag k h name rest e = by (may_hold_tag k name) (h.tags name) (and_parts (may_hold_tag k name) rest e).0
  where
    by : (b : Bool) → b ≡ false → b ≡ true → ⊥
    by true e f = cc
    by false e f = cc

made_alike : (k : Kind) → IsIdle k → (parts : Parts) → fits_structural k parts ≡ true → (w : Progress) → made_of (Structural k) parts w ≡ made_of (Structural Table) parts w
made_alike k h Ended fits w = refl
made_alike k h (Words text later) fits w =
    ap (with_white (chars text)) (made_alike k h later (and_parts (is_white text) (fits_structural k later) fits).1 (past w text []))
made_alike k h (Note text later) fits w =
    let source = token_text (Comment text) in
    ap (leaf_before w AlienBlock (whole_head source) [] source []) (made_alike k h later fits (past w source []))
made_alike k h (Group nodes later) fits w = cc
made_alike k h (Single name attrs source later) fits w = absurd (no_tag k h name (fits_structural k later) fits)
made_alike k h (Parent name attrs children later) fits w = absurd (no_tag k h name (fits_structural k later) fits)

idle_holds : (k : Kind) → IsIdle k → (parts : Parts) → fits_structural k parts ≡ true → Holds Table (pieces_in k parts).later.items
idle_holds k h parts fits =
    subst (λ a. Holds Table (inside_piece a begun (made_of a parts begun)).later.items) (sym (around_idle k h))
    (subst (λ m. Holds Table m.later.items) (sym (made_alike k h parts fits begun)) (sane_holds Table (refl, refl, refl) parts))

fits_idle : (k : Kind) → IsIdle k → (parts : Parts) → fits_in parts k ≡ true → fits_structural k parts ≡ true
fits_idle k h parts fits = by (is_content_branch k) (is_flow k) h.content h.flow fits
  where
    by : (c d : Bool) → c ≡ false → d ≡ false →
        (if c then fits_content parts else (d || (fits_structural k parts && not (is_white (source_of parts))))) ≡ true → fits_structural k parts ≡ true
    by true d e f g = cc
    by false true e f g = cc
    by false false e f g = (and_parts (fits_structural k parts) (not (is_white (source_of parts))) g).0

-- ---- the kind that a fragment is read in

context_fits : (parts : Parts) (stack : List Kind) → (context_of parts stack ≡ Root) ⊎ (fits_in parts (context_of parts stack) ≡ true)
context_fits parts [] = inl refl
context_fits parts (k ∷ outer) = by (fits_in parts k) refl (context_fits parts outer)
  where
    by : (b : Bool) → fits_in parts k ≡ b → (context_of parts outer ≡ Root) ⊎ (fits_in parts (context_of parts outer) ≡ true) →
        ((if b then k else context_of parts outer) ≡ Root) ⊎ (fits_in parts (if b then k else context_of parts outer) ≡ true)
    by true e rest = inr e
    by false e rest = rest

abbrev AreOfSome : List PlainItem → Type 0
AreOfSome items = (parent : Kind) × (are_children parent [] items ≡ true)

not_root : (k : Kind) (parts : Parts) → (k ≡ Root) ⊎ (fits_in parts k ≡ true) → IsIdle k → fits_in parts k ≡ true
not_root k parts (inl root) idle = absurd (flows (is_flow k) (ap is_flow root) idle.flow)
  where
    flows : (b : Bool) → b ≡ true → b ≡ false → ⊥
    flows true e f = cc
    flows false e f = cc
not_root k parts (inr fit) idle = fit

-- they nest, in that kind or in a table
abbrev NestsInSome : List PlainItem → Type 0
NestsInSome items = (parent : Kind) × Holds parent items

pieces_nest : (k : Kind) (parts : Parts) → (k ≡ Root) ⊎ (fits_in parts k ≡ true) → NestsInSome (pieces_in k parts).later.items
pieces_nest k parts fits =
    elim (sane_or_idle k) [
      | inl sane ↦ (k, sane_holds k sane parts)
      | inr idle ↦ (Table, idle_holds k idle parts (fits_idle k idle parts (not_root k parts fits idle)))
    ]

pieces_are : (k : Kind) (parts : Parts) → (k ≡ Root) ⊎ (fits_in parts k ≡ true) → AreOfSome (map item_unmade (pieces_in k parts).later.items)
pieces_are k parts fits = let p = pieces_nest k parts fits in (p.0, children_unmade p.0 [] (pieces_in k parts).later.items p.1)

-- so they have no origins
pub pieces_unplaced : (stack : List Kind) (parts : Parts) → let k = context_of parts stack in origins_of (pieces_in k parts).later.items ≡ []
pieces_unplaced stack parts = let p = pieces_nest (context_of parts stack) parts (context_fits parts stack) in unplaced p.0 (pieces_in (context_of parts stack) parts).later.items [] [] p.1

-- whitespace alone is a paragraph
letters_are : (text : List ℕ) → are_children Root (P ∷ []) (map (λ c. Char c []) text ++ Closing P [] ∷ []) ≡ true
letters_are [] = refl
letters_are (c ∷ cs) = letters_are cs

pub fragments_are_children : FragmentsAreChildren
fragments_are_children stack f = by (is_flow k && is_white (source_of parts))
  where
    parts : Parts
    parts = parts_of f

    k : Kind
    k = context_of parts stack

    by : (b : Bool) → AreOfSome (
        if b
        then Opening P empty_head [] [] None false ∷ map (λ c. Char c []) (chars (source_of parts)) ++ Closing P [] ∷ []
        else map item_unmade (pieces_in k parts).later.items)
    by true = (Root, letters_are (chars (source_of parts)))
    by false = pieces_are k parts (context_fits parts stack)

pub pasting_stays_lawful : FragmentStaysLawful → PastingStaysLawful
pasting_stays_lawful pieces_stay items at stack f t lawful h =
    let p = fragments_are_children stack f in
    pieces_stay items at p.0 (fragment_items stack f) t lawful p.1 h
