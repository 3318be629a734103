-- The parts of two forests, one after the other, where no group of the one joins a group of the
-- other.
use Rattle.std.proofs.Common.{◌≡◌, ℕ, Bool, true, false, not, ◌&&◌, ◌||◌, if◌then◌else◌, List, ◌++◌, Option, None, refl, sym, ap, ◌∙◌}
use Rattle.model_spelling.specs.Grammar.{start_text, end_text}
use Rattle.model_spelling.specs.Forest.{Forest, Nothing, Text, Remark, Void, RawElement, Element, starts_with_text}
use Rattle.model_page.specs.Elements.{is_white, about_of, is_held}
use Rattle.model_page.specs.Parts.{Parts, Ended, Words, Note, Group, Single, Parent, about_in, is_shared, with_held, parts_of}
use Rattle.model_page.specs.Fit.{has_blocks_alone, some_element}
use Rattle.model_page.specs.Tags.{is_inline_tag}
use Rattle.model_page_law.proofs.NeatForests.{Neat}
use Rattle.model_page_law.proofs.BlockText.{followed_by}
use Rattle.model_kept_law.specs.Readable.{is_one_part, shares_about}
use Rattle.model_kept_law.proofs.ApartParts.{Apart}

abbrev pub joined : Parts → Parts → Parts
joined Ended q = q
joined (Words text later) q = Words text (joined later q)
joined (Note text later) q = Note text (joined later q)
joined (Group nodes later) q = Group nodes (joined later q)
joined (Single name attrs source later) q = Single name attrs source (joined later q)
joined (Parent name attrs children later) q = Parent name attrs children (joined later q)

-- no element of this `about` joins the parts
abbrev ClearBy : Option (List ℕ) → Parts → Type 0
ClearBy about (Group nodes later) = is_shared about (about_in nodes) ≡ false
ClearBy about (Words text (Group nodes later)) = (is_white text && is_shared about (about_in nodes)) ≡ false
ClearBy about (Words text _) = Unit {0}
ClearBy about _ = Unit {0}

-- no element of the forest does
abbrev pub Clear : Forest → Parts → Type 0
Clear f (Group nodes later) = shares_about f nodes ≡ false
Clear f (Words text (Group nodes later)) = (is_white text && shares_about f nodes) ≡ false
Clear f (Words text _) = Unit {0}
Clear f _ = Unit {0}

-- ---- held elements

parts_if_false : (c : Bool) (a b : Parts) → c ≡ false → (if c then a else b) ≡ b
parts_if_false true a b e = cc
parts_if_false false a b e = refl

and_false : (a b : Bool) → b ≡ false → (a && b) ≡ false
and_false true b e = e
and_false false b e = refl

held_alone : (about : Option (List ℕ)) (element : Forest → Forest) (q : Parts) → ClearBy about q → with_held about element q ≡ Group (element Nothing) q
held_alone about element Ended c = refl
held_alone about element (Words t Ended) c = refl
held_alone about element (Words t (Words u later)) c = refl
held_alone about element (Words t (Note u later)) c = refl
held_alone about element (Words t (Group nodes later)) c = parts_if_false (is_white t && is_shared about (about_in nodes)) _ _ c
held_alone about element (Words t (Single name attrs source later)) c = refl
held_alone about element (Words t (Parent name attrs children later)) c = refl
held_alone about element (Note t later) c = refl
held_alone about element (Group nodes later) c = parts_if_false (is_shared about (about_in nodes)) _ _ c
held_alone about element (Single name attrs source later) c = refl
held_alone about element (Parent name attrs children later) c = refl

held_words : (about : Option (List ℕ)) (element : Forest → Forest) (t : List ℕ) (q : Parts) → ClearBy about q → with_held about element (Words t q) ≡ Group (element Nothing) (Words t q)
held_words about element t Ended c = refl
held_words about element t (Words u later) c = refl
held_words about element t (Note u later) c = refl
held_words about element t (Group nodes later) c = parts_if_false (is_white t && is_shared about (about_in nodes)) _ _ (and_false (is_white t) (is_shared about (about_in nodes)) c)
held_words about element t (Single name attrs source later) c = refl
held_words about element t (Parent name attrs children later) c = refl

joined_if : (c : Bool) (a b q : Parts) → (if c then joined a q else joined b q) ≡ joined (if c then a else b) q
joined_if true a b q = refl
joined_if false a b q = refl

held_joined : (about : Option (List ℕ)) (element : Forest → Forest) (p q : Parts) → ClearBy about q → with_held about element (joined p q) ≡ joined (with_held about element p) q
held_joined about element Ended q c = held_alone about element q c
held_joined about element (Words t Ended) q c = held_words about element t q c
held_joined about element (Words t (Words u later)) q c = refl
held_joined about element (Words t (Note u later)) q c = refl
held_joined about element (Words t (Group nodes later)) q c =
    joined_if (is_white t && is_shared about (about_in nodes)) (Group (element (Text t nodes)) later) (Group (element Nothing) (Words t (Group nodes later))) q
held_joined about element (Words t (Single name attrs source later)) q c = refl
held_joined about element (Words t (Parent name attrs children later)) q c = refl
held_joined about element (Note t later) q c = refl
held_joined about element (Group nodes later) q c = joined_if (is_shared about (about_in nodes)) (Group (element nodes) later) (Group (element Nothing) (Group nodes later)) q
held_joined about element (Single name attrs source later) q c = refl
held_joined about element (Parent name attrs children later) q c = refl

-- ---- all parts

or_left : (a b : Bool) → (a || b) ≡ false → a ≡ false
or_left true b e = cc
or_left false b e = refl

or_right : (a b : Bool) → (a || b) ≡ false → b ≡ false
or_right true b e = cc
or_right false b e = e

clear_first : (about : Option (List ℕ)) (f r : Forest) (q : Parts) → ((nodes : Forest) → shares_about f nodes ≡ (is_shared about (about_in nodes) || shares_about r nodes)) → Clear f q → ClearBy about q × Clear r q
clear_first about f r Ended e c = (tt, tt)
clear_first about f r (Words t Ended) e c = (tt, tt)
clear_first about f r (Words t (Words u later)) e c = (tt, tt)
clear_first about f r (Words t (Note u later)) e c = (tt, tt)
clear_first about f r (Words t (Group nodes later)) e c = both (is_white t) (is_shared about (about_in nodes)) (shares_about r nodes) (ap (λ b. is_white t && b) (sym (e nodes)) ∙ c)
  where
    both : (w a b : Bool) → (w && (a || b)) ≡ false → ((w && a) ≡ false) × ((w && b) ≡ false)
    both true a b e = (or_left a b e, or_right a b e)
    both false a b e = (refl, refl)
clear_first about f r (Words t (Single name attrs source later)) e c = (tt, tt)
clear_first about f r (Words t (Parent name attrs children later)) e c = (tt, tt)
clear_first about f r (Note t later) e c = (tt, tt)
clear_first about f r (Group nodes later) e c = (or_left (is_shared about (about_in nodes)) (shares_about r nodes) (sym (e nodes) ∙ c), or_right (is_shared about (about_in nodes)) (shares_about r nodes) (sym (e nodes) ∙ c))
clear_first about f r (Single name attrs source later) e c = (tt, tt)
clear_first about f r (Parent name attrs children later) e c = (tt, tt)

clear_later : (f r : Forest) (q : Parts) → ((nodes : Forest) → shares_about f nodes ≡ shares_about r nodes) → Clear f q → Clear r q
clear_later f r Ended e c = tt
clear_later f r (Words t Ended) e c = tt
clear_later f r (Words t (Words u later)) e c = tt
clear_later f r (Words t (Note u later)) e c = tt
clear_later f r (Words t (Group nodes later)) e c = ap (λ b. is_white t && b) (sym (e nodes)) ∙ c
clear_later f r (Words t (Single name attrs source later)) e c = tt
clear_later f r (Words t (Parent name attrs children later)) e c = tt
clear_later f r (Note t later) e c = tt
clear_later f r (Group nodes later) e c = sym (e nodes) ∙ c
clear_later f r (Single name attrs source later) e c = tt
clear_later f r (Parent name attrs children later) e c = tt

element_joined : (c : Bool) (about : Option (List ℕ)) (element : Forest → Forest) (p q : Parts) (own : Parts → Parts) → ((x : Parts) → own (joined x q) ≡ joined (own x) q) → ClearBy about q →
    (if c then with_held about element (joined p q) else own (joined p q)) ≡ joined (if c then with_held about element p else own p) q
element_joined true about element p q own h c = held_joined about element p q c
element_joined false about element p q own h c = h p

pub parts_followed : (f rest : Forest) → Clear f (parts_of rest) → parts_of (followed_by f rest) ≡ joined (parts_of f) (parts_of rest)
parts_followed Nothing rest c = refl
parts_followed (Text text r) rest c = ap (Words text) (parts_followed r rest (clear_later (Text text r) r (parts_of rest) (λ n. refl) c))
parts_followed (Remark text r) rest c = ap (Note text) (parts_followed r rest (clear_later (Remark text r) r (parts_of rest) (λ n. refl) c))
parts_followed (Void name attrs slash r) rest c =
    let own : Parts → Parts = Single name attrs (start_text name attrs slash) in
    let s = clear_first (about_of attrs) (Void name attrs slash r) r (parts_of rest) (λ n. refl) c in
    ap (λ x. if is_held attrs then with_held (about_of attrs) (Void name attrs slash) x else own x) (parts_followed r rest s.1)
    ∙ element_joined (is_held attrs) (about_of attrs) (Void name attrs slash) (parts_of r) (parts_of rest) own (λ x. refl) s.0
parts_followed (RawElement name attrs text r) rest c =
    let own : Parts → Parts = Single name attrs (start_text name attrs false ++ text ++ end_text name) in
    let s = clear_first (about_of attrs) (RawElement name attrs text r) r (parts_of rest) (λ n. refl) c in
    ap (λ x. if is_held attrs then with_held (about_of attrs) (RawElement name attrs text) x else own x) (parts_followed r rest s.1)
    ∙ element_joined (is_held attrs) (about_of attrs) (RawElement name attrs text) (parts_of r) (parts_of rest) own (λ x. refl) s.0
parts_followed (Element name attrs children r) rest c =
    let own : Parts → Parts = Parent name attrs (parts_of children) in
    let s = clear_first (about_of attrs) (Element name attrs children r) r (parts_of rest) (λ n. refl) c in
    ap (λ x. if is_held attrs then with_held (about_of attrs) (Element name attrs children) x else own x) (parts_followed r rest s.1)
    ∙ element_joined (is_held attrs) (about_of attrs) (Element name attrs children) (parts_of r) (parts_of rest) own (λ x. refl) s.0

-- ---- what joined parts are

pub joined_apart : (p q : Parts) → Apart p → Apart q → Apart (joined p q)
joined_apart Ended q a b = b
joined_apart (Words text later) q a b = joined_apart later q a b
joined_apart (Note text later) q a b = joined_apart later q a b
joined_apart (Group nodes later) q a b = (a.0, joined_apart later q a.1 b)
joined_apart (Single name attrs source later) q a b = joined_apart later q a b
joined_apart (Parent name attrs children later) q a b = (a.0, joined_apart later q a.1 b)

and_assoc : (a b c d : Bool) → d ≡ (b && c) → (a && d) ≡ ((a && b) && c)
and_assoc true b c d e = e
and_assoc false b c d e = refl

pub joined_alone : (p q : Parts) → has_blocks_alone (joined p q) ≡ (has_blocks_alone p && has_blocks_alone q)
joined_alone Ended q = refl
joined_alone (Words text later) q = and_assoc (is_white text) (has_blocks_alone later) (has_blocks_alone q) (has_blocks_alone (joined later q)) (joined_alone later q)
joined_alone (Note text later) q = joined_alone later q
joined_alone (Group nodes later) q = joined_alone later q
joined_alone (Single name attrs source later) q = and_assoc (not (is_inline_tag name)) (has_blocks_alone later) (has_blocks_alone q) (has_blocks_alone (joined later q)) (joined_alone later q)
joined_alone (Parent name attrs children later) q = and_assoc (not (is_inline_tag name)) (has_blocks_alone later) (has_blocks_alone q) (has_blocks_alone (joined later q)) (joined_alone later q)

-- ---- one part ends with no text

-- whether a text is last, where one was before
abbrev ends : Bool → Forest → Bool
ends before Nothing = before
ends before (Text text rest) = ends true rest
ends before (Remark text rest) = ends false rest
ends before (Void name attrs slash rest) = ends false rest
ends before (RawElement name attrs text rest) = ends false rest
ends before (Element name attrs children rest) = ends false rest

abbrev last : Bool → Parts → Bool
last before Ended = before
last before (Words text later) = last true later
last before (Note text later) = last false later
last before (Group nodes later) = last false later
last before (Single name attrs source later) = last false later
last before (Parent name attrs children later) = last false later

last_if : (b c d : Bool) (x y : Parts) → last b x ≡ d → last b y ≡ d → last b (if c then x else y) ≡ d
last_if b true d x y e f = e
last_if b false d x y e f = f

held_last : (b : Bool) (about : Option (List ℕ)) (element : Forest → Forest) (p : Parts) → last b (with_held about element p) ≡ last false p
held_last b about element Ended = refl
held_last b about element (Words t Ended) = refl
held_last b about element (Words t (Words u later)) = refl
held_last b about element (Words t (Note u later)) = refl
held_last b about element (Words t (Group nodes later)) =
    last_if b (is_white t && is_shared about (about_in nodes)) (last false later) (Group (element (Text t nodes)) later) (Group (element Nothing) (Words t (Group nodes later))) refl refl
held_last b about element (Words t (Single name attrs source later)) = refl
held_last b about element (Words t (Parent name attrs children later)) = refl
held_last b about element (Note t later) = refl
held_last b about element (Group nodes later) =
    last_if b (is_shared about (about_in nodes)) (last false later) (Group (element nodes) later) (Group (element Nothing) (Group nodes later)) refl refl
held_last b about element (Single name attrs source later) = refl
held_last b about element (Parent name attrs children later) = refl

last_ends : (b : Bool) (f : Forest) → last b (parts_of f) ≡ ends b f
last_ends b Nothing = refl
last_ends b (Text text rest) = last_ends true rest
last_ends b (Remark text rest) = last_ends false rest
last_ends b (Void name attrs slash rest) =
    let r = last_ends false rest in last_if b (is_held attrs) (ends false rest) _ _ (held_last b (about_of attrs) (Void name attrs slash) (parts_of rest) ∙ r) r
last_ends b (RawElement name attrs text rest) =
    let r = last_ends false rest in last_if b (is_held attrs) (ends false rest) _ _ (held_last b (about_of attrs) (RawElement name attrs text) (parts_of rest) ∙ r) r
last_ends b (Element name attrs children rest) =
    let r = last_ends false rest in last_if b (is_held attrs) (ends false rest) _ _ (held_last b (about_of attrs) (Element name attrs children) (parts_of rest) ∙ r) r

one_last : (p : Parts) → is_one_part p ≡ true → last false p ≡ false
one_last Ended h = cc
one_last (Words text later) h = cc
one_last (Note text Ended) h = refl
one_last (Note text (Words t later)) h = cc
one_last (Note text (Note t later)) h = cc
one_last (Note text (Group nodes later)) h = cc
one_last (Note text (Single name attrs source later)) h = cc
one_last (Note text (Parent name attrs children later)) h = cc
one_last (Group n Ended) h = refl
one_last (Group n (Words t later)) h = cc
one_last (Group n (Note t later)) h = cc
one_last (Group n (Group nodes later)) h = cc
one_last (Group n (Single name attrs source later)) h = cc
one_last (Group n (Parent name attrs children later)) h = cc
one_last (Single m a s Ended) h = refl
one_last (Single m a s (Words t later)) h = cc
one_last (Single m a s (Note t later)) h = cc
one_last (Single m a s (Group nodes later)) h = cc
one_last (Single m a s (Single name attrs source later)) h = cc
one_last (Single m a s (Parent name attrs children later)) h = cc
one_last (Parent m a c Ended) h = refl
one_last (Parent m a c (Words t later)) h = cc
one_last (Parent m a c (Note t later)) h = cc
one_last (Parent m a c (Group nodes later)) h = cc
one_last (Parent m a c (Single name attrs source later)) h = cc
one_last (Parent m a c (Parent name attrs children later)) h = cc

starts_followed : (r rest : Forest) → ends true r ≡ false → starts_with_text r ≡ false → starts_with_text (followed_by r rest) ≡ false
starts_followed Nothing rest e s = cc
starts_followed (Text text r) rest e s = s
starts_followed (Remark text r) rest e s = refl
starts_followed (Void name attrs slash r) rest e s = refl
starts_followed (RawElement name attrs text r) rest e s = refl
starts_followed (Element name attrs children r) rest e s = refl

neat_followed : (b : Bool) (f rest : Forest) → ends b f ≡ false → Neat f → Neat rest → Neat (followed_by f rest)
neat_followed b Nothing rest e n m = m
neat_followed b (Text text r) rest e n m = (n.0, n.1, starts_followed r rest e n.2, neat_followed true r rest e n.3 m)
neat_followed b (Remark text r) rest e n m = (n.0, neat_followed false r rest e n.1 m)
neat_followed b (Void name attrs slash r) rest e n m = (n.0, neat_followed false r rest e n.1 m)
neat_followed b (RawElement name attrs text r) rest e n m = (n.0, neat_followed false r rest e n.1 m)
neat_followed b (Element name attrs children r) rest e n m = (n.0, n.1, neat_followed false r rest e n.2 m)

-- one part before others may be spelled, and begins with no text
pub one_neat : (f rest : Forest) → is_one_part (parts_of f) ≡ true → Neat f → Neat rest → Neat (followed_by f rest)
one_neat f rest h n m = neat_followed false f rest (sym (last_ends false f) ∙ one_last (parts_of f) h) n m

pub one_starts : (f rest : Forest) → is_one_part (parts_of f) ≡ true → starts_with_text (followed_by f rest) ≡ false
one_starts Nothing rest h = cc
one_starts (Text text r) rest h = cc
one_starts (Remark text r) rest h = refl
one_starts (Void name attrs slash r) rest h = refl
one_starts (RawElement name attrs text r) rest h = refl
one_starts (Element name attrs children r) rest h = refl

-- ---- the `about` of a group

first_about : Parts → Option (List ℕ)
first_about (Group nodes later) = about_in nodes
first_about Ended = None
first_about (Words text later) = None
first_about (Note text later) = None
first_about (Single name attrs source later) = None
first_about (Parent name attrs children later) = None

about_if : (c : Bool) (a b : Parts) (x : Option (List ℕ)) → first_about a ≡ x → first_about b ≡ x → first_about (if c then a else b) ≡ x
about_if true a b x e f = e
about_if false a b x e f = f

held_about : (about : Option (List ℕ)) (element : Forest → Forest) → ((nodes : Forest) → about_in (element nodes) ≡ about) → (p : Parts) → first_about (with_held about element p) ≡ about
unfolding first_about
held_about about element h Ended = h Nothing
held_about about element h (Words t Ended) = h Nothing
held_about about element h (Words t (Words u later)) = h Nothing
held_about about element h (Words t (Note u later)) = h Nothing
held_about about element h (Words t (Group nodes later)) =
    about_if (is_white t && is_shared about (about_in nodes)) (Group (element (Text t nodes)) later) (Group (element Nothing) (Words t (Group nodes later))) about (h (Text t nodes)) (h Nothing)
held_about about element h (Words t (Single name attrs source later)) = h Nothing
held_about about element h (Words t (Parent name attrs children later)) = h Nothing
held_about about element h (Note t later) = h Nothing
held_about about element h (Group nodes later) = about_if (is_shared about (about_in nodes)) (Group (element nodes) later) (Group (element Nothing) (Group nodes later)) about (h nodes) (h Nothing)
held_about about element h (Single name attrs source later) = h Nothing
held_about about element h (Parent name attrs children later) = h Nothing

group_by : (c : Bool) (held own : Parts) (nodes : Forest) (later : Parts) (about : Option (List ℕ)) → first_about held ≡ about → (own ≡ Group nodes later → ⊥) → (if c then held else own) ≡ Group nodes later → about_in nodes ≡ about
unfolding first_about
group_by true held own nodes later about e n h = ap first_about (sym h) ∙ e
group_by false held own nodes later about e n h = absurd (n h)

pub group_about : (f nodes : Forest) (later : Parts) → parts_of f ≡ Group nodes later → about_in nodes ≡ about_in f
group_about Nothing nodes later h = cc
group_about (Text text rest) nodes later h = cc
group_about (Remark text rest) nodes later h = cc
group_about (Void name attrs slash rest) nodes later h =
    group_by (is_held attrs) _ (Single name attrs (start_text name attrs slash) (parts_of rest)) nodes later (about_of attrs) (held_about (about_of attrs) (Void name attrs slash) (λ n. refl) (parts_of rest)) (λ e. cc) h
group_about (RawElement name attrs text rest) nodes later h =
    group_by (is_held attrs) _ (Single name attrs (start_text name attrs false ++ text ++ end_text name) (parts_of rest)) nodes later (about_of attrs)
    (held_about (about_of attrs) (RawElement name attrs text) (λ n. refl) (parts_of rest)) (λ e. cc) h
group_about (Element name attrs children rest) nodes later h =
    group_by (is_held attrs) _ (Parent name attrs (parts_of children) (parts_of rest)) nodes later (about_of attrs)
    (held_about (about_of attrs) (Element name attrs children) (λ n. refl) (parts_of rest)) (λ e. cc) h

-- what is clear of a group is clear of what begins with it
shares_false : (w : Bool) (f g h : Forest) → about_in h ≡ about_in g → shares_about f g ≡ false → (w && shares_about f h) ≡ false
shares_false w f g h e s = and_false w (shares_about f h) (ap (λ a. some_element (λ name attrs. is_shared (about_of attrs) a) f) e ∙ s)

one_clear_by : (f g : Forest) (p q : Parts) → parts_of g ≡ p → is_one_part p ≡ true → shares_about f g ≡ false → (white : List ℕ) → Clear f (joined p q) × Clear f (Words white (joined p q))
one_clear_by f g Ended q e h s white = cc
one_clear_by f g (Words text later) q e h s white = cc
one_clear_by f g (Note text later) q e h s white = (tt, tt)
one_clear_by f g (Group nodes later) q e h s white = (shares_false true f g nodes (group_about g nodes later e) s, shares_false (is_white white) f g nodes (group_about g nodes later e) s)
one_clear_by f g (Single name attrs source later) q e h s white = (tt, tt)
one_clear_by f g (Parent name attrs children later) q e h s white = (tt, tt)

pub one_clear : (f g : Forest) (q : Parts) → is_one_part (parts_of g) ≡ true → shares_about f g ≡ false → (white : List ℕ) → Clear f (joined (parts_of g) q) × Clear f (Words white (joined (parts_of g) q))
one_clear f g q h s white = one_clear_by f g (parts_of g) q refl h s white
