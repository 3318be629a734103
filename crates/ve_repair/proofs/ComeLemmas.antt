-- Nodes that come, as a reader reads them.
use Rattle.std.proofs.Common.{◌≡◌, ◌≤◌, ◌<◌, ◌+◌, ℕ, Some, List, [], ◌∷◌, ◌++◌, length, get_or, take, option_map, refl, sym, ap, ◌∙◌, subst, arith, append-nil}
use Rattle.std.proofs.lemmas.List.{length-append, take_more}
use Rattle.ve_kinds.specs.declared.kind.Kind.{Kind}
use Rattle.model_items.specs.declared.item.Item.{Item}
use Rattle.model_items.specs.declared.item.Item.TheVariants as item
use Rattle.ve_arena.specs.declared.node.NodeId.{NodeId}
use Rattle.ve_arena.specs.declared.node.NodeWhat.TheVariants as what
use Rattle.ve_arena.specs.Arena.{slot_at, new_node}
use Rattle.ve_tree.specs.Links.{number_of}
use Rattle.ve_tree.proofs.WalkLemmas.{Slots}
use Rattle.ve_repair.specs.declared.script.How.TheVariants.{Put}
use Rattle.ve_repair.specs.declared.script.Step.TheVariants.{Enter, Leave}
use Rattle.ve_repair.specs.Agree.{steps_of}
use Rattle.ve_repair.specs.Script.{InRun, script_for}
use Rattle.ve_repair.specs.Acts.{Act, ComeLetter, ComeBegin, ComeEnd, marks, come}
use Rattle.ve_repair.specs.Cursors.{items_in}
use Rattle.ve_repair.specs.Reader.{Reading, put_step, grown_run, grown, RunEnds}
use Rattle.ve_repair.specs.Courses.{ends_in, Course, HasRead, with_acts, openings, HaveCome}
use Rattle.ve_repair.proofs.CourseLemmas.{bracket_on, plain_on}
use Rattle.ve_repair.proofs.CursorsLemmas.{at_still}
use Rattle.ve_repair.proofs.KeptLemmas.{Grown, grown_by}
use Rattle.ve_repair.proofs.PassedLemmas.{acts_join}

pub letter_came : (c : Course) (slots : Slots) (r : Reading) → HasRead c slots r → HasRead (with_acts (ComeLetter ∷ []) 0 1 c) slots (grown 1 r)
letter_came c slots r h =
    let g : Grown r.run 0 = grown_by r.run 0 in
    let z : g.more ≡ g.more + 0 = omega arith in
    plain_on c slots r (grown 1 r) (ComeLetter ∷ []) 0 1 [] h h.at tt tt (record {
      script_is = sym (append-nil r.script);
      script = λ supply later.
          ap (λ run. script_for supply (marks later c.spot.rest) (record { seen = option_map number_of r.seen; run = run; made = ends_in (steps_of r.script) }))
          (g.one ∙ ap (λ m. InRun m (option_map number_of (grown_run 1 r.run).kept) (grown_run 1 r.run).any) (z ∙ g.sum));
      none = refl;
      fresh = refl;
      fits = let f = h.fits in let l = g.letters in omega (arith, f, l);
      count = refl;
    })

pub came_bracket : (c : Course) (slots : Slots) (r : Reading) → HasRead c slots r → items_in c.spot.rest ≤ c.bound + 1
came_bracket c slots r h = let f = h.fits in omega (arith, f)

pub begin_came : (c : Course) (old new : Slots) (r r1 : Reading) (n : NodeId) (kind : Kind) → HasRead c old r → RunEnds old new r (put_step (what.Node kind) n ∷ []) r1 →
    slot_at new n.0 ≡ Some (new_node (what.Node kind)) → HasRead (with_acts (ComeBegin n.0 kind ∷ []) 0 1 c) new r1
begin_came c old new r r1 n kind h e node =
    bracket_on c old new r r r1 (ComeBegin n.0 kind ∷ []) 0 1 (Enter Put n) h refl refl refl e (at_still old new r.at c.spot e.keeps h.at) (node, tt)
    (record { part = refl; script = λ supply later rd. refl; items = came_bracket c old r h; count = refl })

pub end_came : (c : Course) (old new : Slots) (r r1 : Reading) (kind : Kind) → HasRead c old r → RunEnds old new r (Leave Put ∷ []) r1 → HasRead (with_acts (ComeEnd kind ∷ []) 0 1 c) new r1
end_came c old new r r1 kind h e =
    bracket_on c old new r r r1 (ComeEnd kind ∷ []) 0 1 (Leave Put) h refl refl refl e (at_still old new r.at c.spot e.keeps h.at) tt
    (record { part = refl; script = λ supply later rd. refl; items = came_bracket c old r h; count = refl })

-- one item
pub char_item : (it : Item) (c : Course) (slots : Slots) (r r1 : Reading) → openings (it ∷ []) ≡ 0 → come (it ∷ []) [] ≡ ComeLetter ∷ [] → HasRead c slots r → r1 ≡ grown 1 r →
    HaveCome (it ∷ []) c slots r1
char_item it c slots r r1 none acts h e = record {
  numbers = [];
  counted = sym none;
  read = subst (λ (l : List Act). HasRead (with_acts l 0 1 c) slots r1) (sym acts) (subst (HasRead (with_acts (ComeLetter ∷ []) 0 1 c) slots) (sym e) (letter_came c slots r h));
}

pub opening_item : (it : Item) (c : Course) (old new : Slots) (r r1 : Reading) (n : NodeId) (kind : Kind) → openings (it ∷ []) ≡ 1 → come (it ∷ []) (n.0 ∷ []) ≡ ComeBegin n.0 kind ∷ [] →
    HasRead c old r → RunEnds old new r (put_step (what.Node kind) n ∷ []) r1 → slot_at new n.0 ≡ Some (new_node (what.Node kind)) → HaveCome (it ∷ []) c new r1
opening_item it c old new r r1 n kind one acts h e node = record {
  numbers = n.0 ∷ [];
  counted = sym one;
  read = subst (λ (l : List Act). HasRead (with_acts l 0 1 c) new r1) (sym acts) (begin_came c old new r r1 n kind h e node);
}

pub closing_item : (it : Item) (c : Course) (old new : Slots) (r r1 : Reading) (kind : Kind) → openings (it ∷ []) ≡ 0 → come (it ∷ []) [] ≡ ComeEnd kind ∷ [] → HasRead c old r →
    RunEnds old new r (Leave Put ∷ []) r1 → HaveCome (it ∷ []) c new r1
closing_item it c old new r r1 kind none acts h e = record {
  numbers = [];
  counted = sym none;
  read = subst (λ (l : List Act). HasRead (with_acts l 0 1 c) new r1) (sym acts) (end_came c old new r r1 kind h e);
}

-- items in two parts
pub openings-append : (xs ys : List Item) → openings (xs ++ ys) ≡ openings xs + openings ys
openings-append [] ys = omega arith
openings-append (item.Char ch marks ∷ xs) ys = openings-append xs ys
openings-append (item.Opening kind generated head marks pre origin ∷ xs) ys = let e = openings-append xs ys in omega (arith, e)
openings-append (item.Closing kind pre ∷ xs) ys = openings-append xs ys

pub come-append : (xs ys : List Item) (ns ms : List ℕ) → length ns ≡ openings xs → come (xs ++ ys) (ns ++ ms) ≡ come xs ns ++ come ys ms
come-append [] ys [] ms e = refl
come-append [] ys (n ∷ ns) ms e = absurd (omega (arith, e))
come-append (item.Char ch marks ∷ xs) ys ns ms e = ap (λ l. ComeLetter ∷ l) (come-append xs ys ns ms e)
come-append (item.Opening kind generated head marks pre origin ∷ xs) ys [] ms e = absurd (omega (arith, e))
come-append (item.Opening kind generated head marks pre origin ∷ xs) ys (n ∷ ns) ms e = ap (λ l. ComeBegin n kind ∷ l) (come-append xs ys ns ms (omega (arith, e)))
come-append (item.Closing kind pre ∷ xs) ys ns ms e = ap (λ l. ComeEnd kind ∷ l) (come-append xs ys ns ms e)

pub have_come_more : (xs ys : List Item) (c : Course) (old new : Slots) (r r1 : Reading) → HaveCome xs c old r → ((d : Course) → HasRead d old r → HaveCome ys d new r1) → HaveCome (xs ++ ys) c new r1
have_come_more xs ys c old new r r1 h step =
    let k = step (with_acts (come xs h.numbers) 0 (length xs) c) h.read in
    let sum = length-append h.numbers k.numbers in
    let all = openings-append xs ys in
    let one = h.counted in
    let two = k.counted in
    record {
      numbers = h.numbers ++ k.numbers;
      counted = omega (arith, sum, all, one, two);
      read = subst (λ (d : Course). HasRead d new r1)
          (acts_join (come xs h.numbers) (come ys k.numbers) 0 0 (length xs) (length ys) c
          ∙ (λ i. with_acts (sym (come-append xs ys h.numbers k.numbers h.counted) i) 0 (sym (length-append xs ys) i) c)) k.read;
    }

-- So far the first so many items came.
pub record Coming (old now : Slots) (r0 r : Reading) (items : List Item) (k : ℕ) : Type 0 where
  pub came : (c : Course) → HasRead c old r0 → HaveCome (take k items) c now r

pub coming_on : (old now new : Slots) (r0 r r1 : Reading) (items : List Item) (k : ℕ) (d : Item) → k < length items → Coming old now r0 r items k →
    ((c : Course) → HasRead c now r → HaveCome (get_or items k d ∷ []) c new r1) → Coming old new r0 r1 items (k + 1)
coming_on old now new r0 r r1 items k d within h step = record {
  came = λ c read.
      subst (λ (l : List Item). HaveCome l c new r1) (sym (take_more items k d within))
      (have_come_more (take k items) (get_or items k d ∷ []) c now new r r1 (h.came c read) step);
}
