-- The walk over the parts of content: what is left of them.
use Rattle.std.proofs.Common.{◌≡◌, ℕ, zero, suc, ◌+◌, ◌<◌, ◌≤◌, true, List, [], ◌++◌, length, Option, None, refl, sym, ap, ◌∙◌, append-nil, arith}
use Rattle.std.specs.Option.{option_or}
use Rattle.model_spelling.specs.Forest.{Forest}
use Rattle.model_spelling.specs.ForestNodes.{ForestNode, forest_size}
use Rattle.model_page.specs.Parts.{Parts, Ended, Words, Note, Group, Single, Parent, parts_of}
use Rattle.model_page.specs.Pieces.{no_piece}
use Rattle.model_page.specs.Limits.{Limit, earlier}
use Rattle.ve_html_tree.specs.declared.node.Node.{Node}
use Rattle.ve_classify.specs.Standing.{has_node}
use Rattle.ve_classify.specs.FirstPart.{has_part, later_of, first_source, take_parts}
use Rattle.ve_classify.specs.Places.{StandsIn, PartsTo, PartEnds, IsPartEnd, SomePart}
use Rattle.ve_classify.proofs.PartSource.{parted}
use Rattle.ve_classify.proofs.PartLemmas.{steps_count, after_steps}
use Rattle.ve_reader.specs.declared.purpose.Purpose.{Purpose}
use Rattle.ve_reader.specs.declared.purpose.Purpose.TheVariants as purpose
use Rattle.ve_reader.specs.declared.purpose.ReadStop.{ReadStop}
use Rattle.ve_reader.specs.declared.purpose.ReadStop.TheVariants as stop
use Rattle.ve_reader.specs.ReadSoFar.{ReadSoFar, items_here, shown_rows, with_piece}
use Rattle.ve_reader.specs.Stops.{stop_limit, depth_limit}
use Rattle.ve_read.specs.Content.{with_content, content_limit}
use Rattle.ve_read.specs.ContentParts.{OfPart, OfParts, SomeParts}
use Rattle.ve_read.proofs.ContentTurns.{parts_in_turn, limits_in_turn}

-- ---- nothing is left

shown_none : (p : Purpose) (k : ℕ) → items_here p k [] ≡ []
shown_none purpose.Page k = refl
shown_none purpose.Body k = refl
shown_none purpose.Fragment k = refl

rows_none : (p : Purpose) (at : ℕ) → shown_rows p at no_piece ≡ []
rows_none purpose.Page at = refl
rows_none purpose.Body at = refl
rows_none purpose.Fragment at = refl

deep_none : (p : Purpose) (depth : ℕ) → earlier (depth_limit p depth no_piece) None ≡ None
deep_none purpose.Page depth = refl
deep_none purpose.Body depth = refl
deep_none purpose.Fragment depth = refl

with_none : (r : ReadSoFar) → with_piece no_piece [] r ≡ r
with_none r =
    let items = ap (λ xs. r.items ++ xs) (shown_none r.purpose (length r.rows)) ∙ append-nil r.items in
    let rows = ap (λ xs. r.rows ++ xs) (rows_none r.purpose (length r.items)) ∙ append-nil r.rows in
    let owners = append-nil r.owners in
    λ j. record { purpose = r.purpose; depth = r.depth; items = items j; marks = r.marks; rows = rows j; owners = owners j }

-- ---- what is left

-- Parts are left, after which all is read as it was to be, and what is over a limit is what was to
-- be.
pub record Left (text : List ℕ) (nodes : List Node) (n to byte : ℕ) (old now : ReadSoFar) (parts : Parts) (at : ℕ) : Type 0 where
  pub forest : Forest
  pub place : ℕ
  pub more : List ForestNode
  pub count : ℕ
  pub stands : StandsIn text nodes n place forest more
  pub reach : PartsTo forest n place to byte count
  pub read : with_content (take_parts count (parts_of forest)) place now ≡ with_content parts at old
  pub limit : content_limit (take_parts count (parts_of forest)) place now ≡ content_limit parts at old

abbrev pub LeftOf : List ℕ → List Node → ℕ → ℕ → ℕ → ℕ → ReadSoFar → ReadSoFar → Type 0
LeftOf text nodes from n to byte old now = OfParts text nodes from to byte (Left text nodes n to byte old now)

pub all_left : (text : List ℕ) (nodes : List Node) (from to byte : ℕ) (r : ReadSoFar) → LeftOf text nodes from from to byte r r
all_left text nodes from to byte r = λ f at m more s t. record { forest = f; place = at; more = more; count = m; stands = s; reach = t; read = refl; limit = refl }

-- no part is left at the end
none_by : (f : Forest) (n at to byte m : ℕ) → to ≤ n → PartsTo f n at to byte m → take_parts m (parts_of f) ≡ Ended
none_by f n at to byte zero le t = refl
none_by f n at to byte (suc m) le t = let c = steps_count (suc m) f t.after t.steps in absurd (omega (arith, c, t.to_is, le))

pub all_read : (text : List ℕ) (nodes : List Node) (from n to byte : ℕ) (old now : ReadSoFar) → to ≤ n → LeftOf text nodes from n to byte old now →
    OfParts text nodes from to byte (λ parts at. now ≡ with_content parts at old)
all_read text nodes from n to byte old now le w = λ f at m more s t.
    let l = w f at m more s t in
    let none = none_by l.forest n l.place to byte l.count le l.reach in
    sym (ap (λ p. with_content p l.place now) none ∙ with_none now) ∙ l.read

pub all_within : (text : List ℕ) (nodes : List Node) (from n to byte : ℕ) (old now : ReadSoFar) → to ≤ n → LeftOf text nodes from n to byte old now →
    OfParts text nodes from to byte (λ parts at. content_limit parts at old ≡ None)
all_within text nodes from n to byte old now le w = λ f at m more s t.
    let l = w f at m more s t in
    let none = none_by l.forest n l.place to byte l.count le l.reach in
    sym l.limit ∙ ap (λ p. content_limit p l.place now) none ∙ deep_none now.purpose now.depth

-- ---- one part

-- The first of so many parts.
record FirstTaken (m : ℕ) (p : Parts) : Type 0 where
  has : has_part (take_parts (suc m) p) ≡ true
  one : take_parts 1 (take_parts (suc m) p) ≡ take_parts 1 p
  later : later_of (take_parts (suc m) p) ≡ take_parts m (later_of p)
  source : first_source (take_parts (suc m) p) ≡ first_source p

first_taken : (m : ℕ) (p : Parts) → has_part p ≡ true → FirstTaken m p
first_taken m Ended e = absurd cc
first_taken m (Words text rest) e = record { has = refl; one = refl; later = refl; source = refl }
first_taken m (Note text rest) e = record { has = refl; one = refl; later = refl; source = refl }
first_taken m (Group nodes rest) e = record { has = refl; one = refl; later = refl; source = refl }
first_taken m (Single name attrs source rest) e = record { has = refl; one = refl; later = refl; source = refl }
first_taken m (Parent name attrs children rest) e = record { has = refl; one = refl; later = refl; source = refl }

-- so many parts, and the first of them, which ends here
record Next (text : List ℕ) (nodes : List Node) (n at to byte : ℕ) (f : Forest) (more : List ForestNode) (m end place : ℕ) : Type 0 where
  count : ℕ
  some : has_node f ≡ true
  part : PartEnds text nodes n at f more end place
  reach : PartsTo part.after end place to byte count
  taken : FirstTaken count (parts_of f)
  is : take_parts m (parts_of f) ≡ take_parts (suc count) (parts_of f)

next_part : (text : List ℕ) (nodes : List Node) (n at to byte : ℕ) (f : Forest) (more : List ForestNode) (m end place : ℕ) → n < to → IsPartEnd nodes n to byte end place → StandsIn text nodes n at f more → PartsTo f n at to byte m →
    Next text nodes n at to byte f more m end place
next_part text nodes n at to byte f more zero end place lt ends s t = absurd (omega (arith, lt, t.to_is, ap forest_size t.steps))
next_part text nodes n at to byte f more (suc k) end place lt ends s t =
    let p = ends text f at (suc k) more s t in
    record {
      count = k;
      some = t.steps.1;
      part = p;
      reach = record { after = t.after; steps = after_steps k f t.after p.after p.split t.steps; to_is = omega (arith, t.to_is, p.count_is); byte_is = omega (arith, t.byte_is, p.length_is) };
      taken = first_taken k (parts_of f) (parted f t.steps.1);
      is = refl;
    }

-- what comes after it
module _ (text : List ℕ) (nodes : List Node) (n to byte end place : ℕ) (now : ReadSoFar) (f : Forest) (at : ℕ) (more : List ForestNode) (m : ℕ) (x : Next text nodes n at to byte f more m end place) where
  abbrev first_read : ReadSoFar
  first_read = with_content (take_parts 1 (parts_of f)) at now

  next_is : (next : ReadSoFar) → next ≡ first_read → with_content (take_parts x.count (parts_of x.part.after)) place next ≡ with_content (take_parts m (parts_of f)) at now
  next_is next e =
      let taken : Parts = take_parts (suc x.count) (parts_of f) in
      let byte_is : at + length (first_source taken) ≡ place = omega (arith, ap length x.taken.source, x.part.byte_is) in
      let later : later_of taken ≡ take_parts x.count (parts_of x.part.after) = x.taken.later ∙ ap (take_parts x.count) x.part.parts in
      sym (
      ap (λ p. with_content p at now) x.is
      ∙ parts_in_turn taken at now x.taken.has
      ∙ (λ j. with_content (later j) (byte_is j) (with_content (x.taken.one j) at now))
      ∙ ap (with_content (take_parts x.count (parts_of x.part.after)) place) (sym e)
      )

  limit_is : (next : ReadSoFar) → next ≡ first_read →
      content_limit (take_parts m (parts_of f)) at now ≡ option_or (content_limit (take_parts 1 (parts_of f)) at now) (content_limit (take_parts x.count (parts_of x.part.after)) place next)
  limit_is next e =
      let taken : Parts = take_parts (suc x.count) (parts_of f) in
      let byte_is : at + length (first_source taken) ≡ place = omega (arith, ap length x.taken.source, x.part.byte_is) in
      let later : later_of taken ≡ take_parts x.count (parts_of x.part.after) = x.taken.later ∙ ap (take_parts x.count) x.part.parts in
      ap (λ p. content_limit p at now) x.is
      ∙ limits_in_turn taken at now x.taken.has
      ∙ (λ j. option_or (content_limit (x.taken.one j) at now) (content_limit (later j) (byte_is j) (with_content (x.taken.one j) at now)))
      ∙ ap (λ r. option_or (content_limit (take_parts 1 (parts_of f)) at now) (content_limit (take_parts x.count (parts_of x.part.after)) place r)) (sym e)

-- one part more is read
pub goes_on : (text : List ℕ) (nodes : List Node) (from n to byte end place : ℕ) (old now new : ReadSoFar) → n < to → IsPartEnd nodes n to byte end place →
    OfPart text nodes n end place (λ parts at. new ≡ with_content parts at now) → OfPart text nodes n end place (λ parts at. content_limit parts at now ≡ None) →
    LeftOf text nodes from n to byte old now → LeftOf text nodes from end to byte old new
goes_on text nodes from n to byte end place old now new lt ends read within w = λ f at m more s t.
    let l = w f at m more s t in
    let x = next_part text nodes n l.place to byte l.forest l.more l.count end place lt ends l.stands l.reach in
    let first = read l.forest l.place l.more l.stands x.some x.part in
    let none = within l.forest l.place l.more l.stands x.some x.part in
    record {
      forest = x.part.after;
      place = place;
      more = l.more;
      count = x.count;
      stands = x.part.stands;
      reach = x.reach;
      read = next_is text nodes n to byte end place now l.forest l.place l.more l.count x new first ∙ l.read;
      limit =
          sym (limit_is text nodes n to byte end place now l.forest l.place l.more l.count x new first
          ∙ ap (λ o. option_or o (content_limit (take_parts x.count (parts_of x.part.after)) place new)) none)
          ∙ l.limit;
    }

-- reading stops in a part
pub stop_first : (e : ReadStop) (first later whole : Option Limit) → whole ≡ option_or first later → stop_limit e first → stop_limit e whole
stop_first (stop.TooDeep at) first later whole is h = is ∙ ap (λ o. option_or o later) h
stop_first (stop.TooManyMarks at) first later whole is h = is ∙ ap (λ o. option_or o later) h
stop_first stop.Memory first later whole is h = tt

pub stops_here : (text : List ℕ) (nodes : List Node) (from n to byte end place : ℕ) (old now : ReadSoFar) (e : ReadStop) → n < to → IsPartEnd nodes n to byte end place →
    OfPart text nodes n end place (λ parts at. stop_limit e (content_limit parts at now)) → LeftOf text nodes from n to byte old now →
    OfParts text nodes from to byte (λ parts at. stop_limit e (content_limit parts at old))
stops_here text nodes from n to byte end place old now e lt ends here w = λ f at m more s t.
    let l = w f at m more s t in
    let x = next_part text nodes n l.place to byte l.forest l.more l.count end place lt ends l.stands l.reach in
    let first = here l.forest l.place l.more l.stands x.some x.part in
    stop_first e (content_limit (take_parts 1 (parts_of l.forest)) l.place now) _ (content_limit (take_parts m (parts_of f)) at old)
    (sym l.limit ∙ limit_is text nodes n to byte end place now l.forest l.place l.more l.count x _ refl) first

-- some part is left to read
pub some_left : (text : List ℕ) (nodes : List Node) (from n to byte end place : ℕ) (old now : ReadSoFar) → n < to → IsPartEnd nodes n to byte end place → SomeParts text nodes from to byte →
    LeftOf text nodes from n to byte old now → SomePart text nodes n end place
some_left text nodes from n to byte end place old now lt ends p w =
    let l = w p.forest p.at p.count p.more p.stands p.parts in
    let x = next_part text nodes n l.place to byte l.forest l.more l.count end place lt ends l.stands l.reach in
    record { forest = l.forest; at = l.place; more = l.more; stands = l.stands; some = x.some; part = x.part }
