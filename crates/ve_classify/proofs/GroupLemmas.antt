-- How groups are formed, from their first element on.
use Rattle.std.proofs.Common.{◌≡◌, ℕ, ◌+◌, Bool, true, false, ◌&&◌, List, [], ◌∷◌, Option, Some, None, refl, sym, ap, ◌∙◌, arith, if◌then◌else◌}
use Rattle.model_spelling.specs.Grammar.{Attr}
use Rattle.model_spelling.specs.Forest.{Forest, Nothing, Text, Remark, Void, RawElement, Element, then_forest}
use Rattle.model_spelling.specs.ForestNodes.{forest_size}
use Rattle.model_page.specs.Elements.{is_white, about_of, is_held}
use Rattle.model_page.specs.Parts.{Parts, Ended, Words, Note, Group, Single, Parent, about_in, is_shared, with_held, parts_of}
use Rattle.ve_classify.specs.Standing.{rest_of, first_count}

-- how many nodes of the parts go into a group of this `about` that stands before them
abbrev pub absorbed : List ℕ → Parts → ℕ
absorbed about Ended = 0
absorbed about (Words text Ended) = 0
absorbed about (Words text (Words more later)) = 0
absorbed about (Words text (Note more later)) = 0
absorbed about (Words text (Group nodes later)) = if is_white text && is_shared (Some about) (about_in nodes) then 1 + forest_size nodes else 0
absorbed about (Words text (Single name attrs source later)) = 0
absorbed about (Words text (Parent name attrs children later)) = 0
absorbed about (Note text later) = 0
absorbed about (Group nodes later) = if is_shared (Some about) (about_in nodes) then forest_size nodes else 0
absorbed about (Single name attrs source later) = 0
absorbed about (Parent name attrs children later) = 0

abbrev pub absorbed_by : Option (List ℕ) → Parts → ℕ
absorbed_by None parts = 0
absorbed_by (Some about) parts = absorbed about parts

-- An element before nodes: their number, and its `about`.
pub record FirstElement (element : Forest → Forest) (about : Option (List ℕ)) (n : ℕ) : Type 0 where
  pub counts : (f : Forest) → forest_size (element f) ≡ n + forest_size f
  pub about_is : (f : Forest) → about_in (element f) ≡ about

-- A held element before parts begins a group, which takes what goes into it.
pub record Begun (about : Option (List ℕ)) (n : ℕ) (parts whole : Parts) : Type 0 where
  pub nodes : Forest
  pub later : Parts
  pub is : whole ≡ Group nodes later
  pub counts : forest_size nodes ≡ n + absorbed_by about parts
  pub about_is : about_in nodes ≡ about

alone : (about : Option (List ℕ)) (element : Forest → Forest) (n : ℕ) (parts : Parts) → FirstElement element about n → absorbed_by about parts ≡ 0 → Begun about n parts (Group (element Nothing) parts)
alone about element n parts f e = record { nodes = element Nothing; later = parts; is = refl; counts = omega (arith, f.counts Nothing, e); about_is = f.about_is Nothing }

absorbs_none : (about : Option (List ℕ)) (parts : Parts) → ((a : List ℕ) → absorbed a parts ≡ 0) → absorbed_by about parts ≡ 0
absorbs_none None parts h = refl
absorbs_none (Some a) parts h = h a

begun_group : (about : Option (List ℕ)) (element : Forest → Forest) (n : ℕ) (nodes : Forest) (later : Parts) (b : Bool) → FirstElement element about n → is_shared about (about_in nodes) ≡ b →
    Begun about n (Group nodes later) (if b then Group (element nodes) later else Group (element Nothing) (Group nodes later))
begun_group None element n nodes later true f e = absurd cc
begun_group None element n nodes later false f e = alone None element n (Group nodes later) f refl
begun_group (Some a) element n nodes later true f e = record { nodes = element nodes; later = later; is = refl; counts = rw e (f.counts nodes); about_is = f.about_is nodes }
begun_group (Some a) element n nodes later false f e = alone (Some a) element n (Group nodes later) f (rw e refl)

begun_words : (about : Option (List ℕ)) (element : Forest → Forest) (n : ℕ) (text : List ℕ) (nodes : Forest) (later : Parts) (w b : Bool) → FirstElement element about n → is_white text ≡ w → is_shared about (about_in nodes) ≡ b →
    Begun about n (Words text (Group nodes later)) (if w && b then Group (element (Text text nodes)) later else Group (element Nothing) (Words text (Group nodes later)))
begun_words None element n text nodes later w true f v e = absurd cc
begun_words None element n text nodes later true false f v e = alone None element n (Words text (Group nodes later)) f refl
begun_words None element n text nodes later false false f v e = alone None element n (Words text (Group nodes later)) f refl
begun_words (Some a) element n text nodes later true true f v e = record { nodes = element (Text text nodes); later = later; is = refl; counts = rw (v, e) (f.counts (Text text nodes)); about_is = f.about_is (Text text nodes) }
begun_words (Some a) element n text nodes later true false f v e = alone (Some a) element n (Words text (Group nodes later)) f (rw (v, e) refl)
begun_words (Some a) element n text nodes later false b f v e = alone (Some a) element n (Words text (Group nodes later)) f (rw v refl)

pub begun : (about : Option (List ℕ)) (element : Forest → Forest) (n : ℕ) → FirstElement element about n → (parts : Parts) → Begun about n parts (with_held about element parts)
begun about element n f Ended = alone about element n Ended f (absorbs_none about Ended (λ a. refl))
begun about element n f (Words text Ended) = alone about element n (Words text Ended) f (absorbs_none about (Words text Ended) (λ a. refl))
begun about element n f (Words text (Words more later)) = alone about element n (Words text (Words more later)) f (absorbs_none about (Words text (Words more later)) (λ a. refl))
begun about element n f (Words text (Note more later)) = alone about element n (Words text (Note more later)) f (absorbs_none about (Words text (Note more later)) (λ a. refl))
begun about element n f (Words text (Group nodes later)) = begun_words about element n text nodes later (is_white text) (is_shared about (about_in nodes)) f refl refl
begun about element n f (Words text (Single name attrs source later)) = alone about element n (Words text (Single name attrs source later)) f (absorbs_none about (Words text (Single name attrs source later)) (λ a. refl))
begun about element n f (Words text (Parent name attrs children later)) = alone about element n (Words text (Parent name attrs children later)) f (absorbs_none about (Words text (Parent name attrs children later)) (λ a. refl))
begun about element n f (Note text later) = alone about element n (Note text later) f (absorbs_none about (Note text later) (λ a. refl))
begun about element n f (Group nodes later) = begun_group about element n nodes later (is_shared about (about_in nodes)) f refl
begun about element n f (Single name attrs source later) = alone about element n (Single name attrs source later) f (absorbs_none about (Single name attrs source later) (λ a. refl))
begun about element n f (Parent name attrs children later) = alone about element n (Parent name attrs children later) f (absorbs_none about (Parent name attrs children later) (λ a. refl))

-- ---- the first node of a forest

-- the first node is an element that is held
abbrev pub first_held : Forest → Bool
first_held Nothing = false
first_held (Text text rest) = false
first_held (Remark text rest) = false
first_held (Void name attrs slash rest) = is_held attrs
first_held (RawElement name attrs text rest) = is_held attrs
first_held (Element name attrs children rest) = is_held attrs

pub void_first : (name : List ℕ) (attrs : List Attr) (slash : Bool) → FirstElement (Void name attrs slash) (about_of attrs) 1
void_first name attrs slash = record { counts = λ f. refl; about_is = λ f. refl }

raw_counts : (name : List ℕ) (attrs : List Attr) (text : List ℕ) (f : Forest) → forest_size (RawElement name attrs text f) ≡ forest_size (RawElement name attrs text Nothing) + forest_size f
raw_counts name attrs [] f = refl
raw_counts name attrs (b ∷ bs) f = refl

pub raw_first : (name : List ℕ) (attrs : List Attr) (text : List ℕ) → FirstElement (RawElement name attrs text) (about_of attrs) (forest_size (RawElement name attrs text Nothing))
raw_first name attrs text = record { counts = raw_counts name attrs text; about_is = λ f. refl }

pub element_first : (name : List ℕ) (attrs : List Attr) (children : Forest) → FirstElement (Element name attrs children) (about_of attrs) (1 + forest_size children)
element_first name attrs children = record { counts = λ f. refl; about_is = λ f. refl }

-- a held element begins a group
pub held_begins : (f : Forest) → first_held f ≡ true → Begun (about_in f) (first_count f) (parts_of (rest_of f)) (parts_of f)
held_begins Nothing e = absurd cc
held_begins (Text text rest) e = absurd cc
held_begins (Remark text rest) e = absurd cc
held_begins (Void name attrs slash rest) e = rw e (begun (about_of attrs) (Void name attrs slash) 1 (void_first name attrs slash) (parts_of rest))
held_begins (RawElement name attrs text rest) e = rw e (begun (about_of attrs) (RawElement name attrs text) (forest_size (RawElement name attrs text Nothing)) (raw_first name attrs text) (parts_of rest))
held_begins (Element name attrs children rest) e = rw e (begun (about_of attrs) (Element name attrs children) (1 + forest_size children) (element_first name attrs children) (parts_of rest))

held_if : (b : Bool) (x y : Parts) (nodes : Forest) (later : Parts) → (y ≡ Group nodes later → b ≡ true) → (if b then x else y) ≡ Group nodes later → b ≡ true
held_if true x y nodes later other e = refl
held_if false x y nodes later other e = other e

-- what begins a group is a held element
pub group_held : (f nodes : Forest) (later : Parts) → parts_of f ≡ Group nodes later → first_held f ≡ true
group_held Nothing nodes later e = absurd cc
group_held (Text text rest) nodes later e = absurd cc
group_held (Remark text rest) nodes later e = absurd cc
group_held (Void name attrs slash rest) nodes later e = held_if (is_held attrs) (with_held (about_of attrs) (Void name attrs slash) (parts_of rest)) _ nodes later (λ d. absurd cc) e
group_held (RawElement name attrs text rest) nodes later e = held_if (is_held attrs) (with_held (about_of attrs) (RawElement name attrs text) (parts_of rest)) _ nodes later (λ d. absurd cc) e
group_held (Element name attrs children rest) nodes later e = held_if (is_held attrs) (with_held (about_of attrs) (Element name attrs children) (parts_of rest)) _ nodes later (λ d. absurd cc) e

-- an element with an `about` is held
about_holds : (attrs : List Attr) (a : List ℕ) → about_of attrs ≡ Some a → is_held attrs ≡ true
about_holds attrs a e = rw e refl

pub about_held : (f : Forest) (a : List ℕ) → about_in f ≡ Some a → first_held f ≡ true
about_held Nothing a e = absurd cc
about_held (Text text rest) a e = absurd cc
about_held (Remark text rest) a e = absurd cc
about_held (Void name attrs slash rest) a e = about_holds attrs a e
about_held (RawElement name attrs text rest) a e = about_holds attrs a e
about_held (Element name attrs children rest) a e = about_holds attrs a e

-- ---- the nodes of a group, and the siblings after it

pub record Split (f nodes : Forest) (later : Parts) : Type 0 where
  pub after : Forest
  pub is : f ≡ then_forest nodes after
  pub later_is : later ≡ parts_of after

-- an element before forests one after the other
abbrev ThenFirst : (Forest → Forest) → Type 0
ThenFirst element = (n h : Forest) → then_forest (element n) h ≡ element (then_forest n h)

abbrev group_forest : Parts → Forest
group_forest (Group nodes later) = nodes
group_forest Ended = Nothing
group_forest (Words text later) = Nothing
group_forest (Note text later) = Nothing
group_forest (Single name attrs source later) = Nothing
group_forest (Parent name attrs children later) = Nothing

abbrev group_later : Parts → Parts
group_later (Group nodes later) = later
group_later Ended = Ended
group_later (Words text later) = Ended
group_later (Note text later) = Ended
group_later (Single name attrs source later) = Ended
group_later (Parent name attrs children later) = Ended

same_split : (f n nodes : Forest) (l later : Parts) → Group n l ≡ Group nodes later → Split f n l → Split f nodes later
same_split f n nodes l later e s = record { after = s.after; is = s.is ∙ ap (λ p. then_forest (group_forest p) s.after) e; later_is = sym (ap group_later e) ∙ s.later_is }

alone_split : (element : Forest → Forest) (rest nodes : Forest) (p later : Parts) → ThenFirst element → parts_of rest ≡ p → Group (element Nothing) p ≡ Group nodes later → Split (element rest) nodes later
alone_split element rest nodes p later t e same = same_split (element rest) (element Nothing) nodes p later same (record { after = rest; is = sym (t Nothing rest); later_is = sym e })

first_split : (element : Forest → Forest) (rest n nodes : Forest) (l later : Parts) → ThenFirst element → Split rest n l → Group (element n) l ≡ Group nodes later → Split (element rest) nodes later
first_split element rest n nodes l later t s same = same_split (element rest) (element n) nodes l later same (record { after = s.after; is = ap element s.is ∙ sym (t n s.after); later_is = s.later_is })

by_shared : (element : Forest → Forest) (rest n nodes : Forest) (l p later : Parts) (b : Bool) → ThenFirst element → parts_of rest ≡ p → Split rest n l → (if b then Group (element n) l else Group (element Nothing) p) ≡ Group nodes later → Split (element rest) nodes later
by_shared element rest n nodes l p later true t e s same = first_split element rest n nodes l later t s same
by_shared element rest n nodes l p later false t e s same = alone_split element rest nodes p later t e same

-- what a forest that begins a group is, and one that begins with a text and then a group
record BothSplit (f : Forest) : Type 0 where
  group : (nodes : Forest) (later : Parts) → parts_of f ≡ Group nodes later → Split f nodes later
  words : (text : List ℕ) (nodes : Forest) (later : Parts) → parts_of f ≡ Words text (Group nodes later) → Split f (Text text nodes) later

with_split : (about : Option (List ℕ)) (element : Forest → Forest) (rest nodes : Forest) (p later : Parts) → ThenFirst element → BothSplit rest → parts_of rest ≡ p → with_held about element p ≡ Group nodes later → Split (element rest) nodes later
with_split about element rest nodes Ended later t b e h = alone_split element rest nodes Ended later t e h
with_split about element rest nodes (Words x Ended) later t b e h = alone_split element rest nodes (Words x Ended) later t e h
with_split about element rest nodes (Words x (Words y l)) later t b e h = alone_split element rest nodes (Words x (Words y l)) later t e h
with_split about element rest nodes (Words x (Note y l)) later t b e h = alone_split element rest nodes (Words x (Note y l)) later t e h
with_split about element rest nodes (Words x (Group n l)) later t b e h = by_shared element rest (Text x n) nodes l (Words x (Group n l)) later (is_white x && is_shared about (about_in n)) t e (b.words x n l e) h
with_split about element rest nodes (Words x (Single name attrs source l)) later t b e h = alone_split element rest nodes (Words x (Single name attrs source l)) later t e h
with_split about element rest nodes (Words x (Parent name attrs children l)) later t b e h = alone_split element rest nodes (Words x (Parent name attrs children l)) later t e h
with_split about element rest nodes (Note x l) later t b e h = alone_split element rest nodes (Note x l) later t e h
with_split about element rest nodes (Group n l) later t b e h = by_shared element rest n nodes l (Group n l) later (is_shared about (about_in n)) t e (b.group n l e) h
with_split about element rest nodes (Single name attrs source l) later t b e h = alone_split element rest nodes (Single name attrs source l) later t e h
with_split about element rest nodes (Parent name attrs children l) later t b e h = alone_split element rest nodes (Parent name attrs children l) later t e h

-- an element that is held or not
held_split : (h : Bool) (about : Option (List ℕ)) (element : Forest → Forest) (n : ℕ) (rest nodes : Forest) (other later : Parts) → FirstElement element about n → ThenFirst element → BothSplit rest → (other ≡ Group nodes later → ⊥) → (if h then with_held about element (parts_of rest) else other) ≡ Group nodes later → Split (element rest) nodes later
held_split true about element n rest nodes other later f t b not_other e = with_split about element rest nodes (parts_of rest) later t b refl e
held_split false about element n rest nodes other later f t b not_other e = absurd (not_other e)

no_words : (h : Bool) (about : Option (List ℕ)) (element : Forest → Forest) (n : ℕ) (p other : Parts) (text : List ℕ) (q : Parts) → FirstElement element about n → (other ≡ Words text q → ⊥) → (if h then with_held about element p else other) ≡ Words text q → ⊥
no_words true about element n p other text q f not_other e = let b = begun about element n f p in let g = b.is in absurd cc
no_words false about element n p other text q f not_other e = not_other e

both_split : (f : Forest) → BothSplit f
both_split Nothing = record { group = λ nodes later e. absurd cc; words = λ text nodes later e. absurd cc }
both_split (Text x rest) = record {
  group = λ nodes later e. absurd cc;
  words = λ text nodes later e.
      let s = (both_split rest).group nodes later cc in
      let same : x ≡ text = cc in
      record { after = s.after; is = ap (λ f. Text x f) s.is ∙ ap (λ y. Text y (then_forest nodes s.after)) same; later_is = s.later_is };
}
both_split (Remark x rest) = record { group = λ nodes later e. absurd cc; words = λ text nodes later e. absurd cc }
both_split (Void name attrs slash rest) = record {
  group = λ nodes later e. held_split (is_held attrs) (about_of attrs) (Void name attrs slash) 1 rest nodes _ later (void_first name attrs slash) (λ n h. refl) (both_split rest) (λ d. cc) e;
  words = λ text nodes later e. absurd (no_words (is_held attrs) (about_of attrs) (Void name attrs slash) 1 (parts_of rest) _ text (Group nodes later) (void_first name attrs slash) (λ d. cc) e);
}
both_split (RawElement name attrs x rest) = record {
  group = λ nodes later e. held_split (is_held attrs) (about_of attrs) (RawElement name attrs x) (forest_size (RawElement name attrs x Nothing)) rest nodes _ later (raw_first name attrs x) (λ n h. refl) (both_split rest) (λ d. cc) e;
  words = λ text nodes later e. absurd (no_words (is_held attrs) (about_of attrs) (RawElement name attrs x) (forest_size (RawElement name attrs x Nothing)) (parts_of rest) _ text (Group nodes later) (raw_first name attrs x) (λ d. cc) e);
}
both_split (Element name attrs children rest) = record {
  group = λ nodes later e. held_split (is_held attrs) (about_of attrs) (Element name attrs children) (1 + forest_size children) rest nodes _ later (element_first name attrs children) (λ n h. refl) (both_split rest) (λ d. cc) e;
  words = λ text nodes later e. absurd (no_words (is_held attrs) (about_of attrs) (Element name attrs children) (1 + forest_size children) (parts_of rest) _ text (Group nodes later) (element_first name attrs children) (λ d. cc) e);
}

-- a group is the first siblings, and the later parts are those of the siblings after it
pub group_split : (f nodes : Forest) (later : Parts) → parts_of f ≡ Group nodes later → Split f nodes later
group_split f nodes later e = (both_split f).group nodes later e
