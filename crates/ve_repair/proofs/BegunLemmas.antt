-- At the start of a changed range, stacks and lengths are those of what is passed.
use Rattle.std.proofs.Common.{◌≡◌, ◌≢◌, ◌+◌, ℕ, suc, Option, Some, None, List, [], ◌∷◌, ◌++◌, map, refl, sym, ap, ◌∙◌, subst, append_assoc, append-nil, arith}
use Rattle.std.proofs.lemmas.List.{map-append}
use Rattle.model_items.specs.Tree.{item_count}
use Rattle.ve_arena.specs.declared.node.NodeId.{NodeId}
use Rattle.ve_tree.specs.Links.{last_or, Apart, AllApart}
use Rattle.ve_tree.specs.Named.{Named, NoNode, NamedRun, NamedBranch, unnumbered, heads, node_numbers}
use Rattle.ve_tree.specs.Rows.{beside, Round, parent_in, start_in}
use Rattle.ve_tree.proofs.GrownLemmas.{Disjoint, disjoint-swap}
use Rattle.ve_tree.proofs.FitsLemmas.{disjoint_of}
use Rattle.ve_tree.proofs.BesideLemmas.{numbers-beside}
use Rattle.ve_tree.proofs.FrameLemmas.{way_round, rest_numbers, all_outer}
use Rattle.ve_repair.specs.declared.plan.Level.{Level}
use Rattle.ve_repair.specs.Work.{with_list}
use Rattle.ve_repair.specs.Tokens.{Begin, tokens, Grown, grown, grown_by, none, start}
use Rattle.ve_repair.specs.Tokens.{start as start0}
use Rattle.ve_repair.specs.Spelled.{Sign, BeginOf, EndOf, token_of}
use Rattle.ve_repair.specs.Ready.{nums, onto}
use Rattle.ve_repair.specs.Agree.{OldAgree, NewAgree}
use Rattle.ve_repair.specs.Sizes.{Begun, open_after, place_after, signs_of}
use Rattle.ve_repair.specs.Lengths.{under_root}
use Rattle.ve_repair.specs.Cursor.{left_signs, begun_round}
use Rattle.ve_repair.specs.Start.{OldRound, NewRound}
use Rattle.ve_repair.specs.Begun.{StartHasBegun}
use Rattle.ve_repair.proofs.RelinkLemmas.{apart-ls, apart-rs, apart-join, all-ls, all-rs, all-without}
use Rattle.ve_repair.proofs.WorkLemmas.{with_list-here, with_list-there}
use Rattle.ve_repair.proofs.TokenLemmas.{grown-append}
use Rattle.ve_repair.proofs.ReadyLemmas.{nums-append, nums-tokens}
use Rattle.ve_repair.proofs.LevelLemmas.{last-appended}
use Rattle.ve_repair.proofs.GrowLemmas.{Same, Gives, gives}
use Rattle.ve_repair.proofs.ChangedLemmas.{tokens-signs}
use Rattle.ve_repair.proofs.NestedLemmas.{place-append, open-append}
use Rattle.ve_repair.proofs.CursorLemmas.{signs-at}

-- positions and open nodes
place-forest : (f : Named) (ss : List Sign) (at : ℕ) → place_after (signs_of f ++ ss) at ≡ place_after ss (at + item_count (unnumbered f))
place-forest NoNode ss at = ap (place_after ss) (let e : at ≡ at + 0 = omega arith in e)
place-forest (NamedRun n count later) ss at =
    place-forest later ss (at + count) ∙ ap (place_after ss) (let e : at + count + item_count (unnumbered later) ≡ at + (count + item_count (unnumbered later)) = omega arith in e)
place-forest (NamedBranch n kind inside later) ss at =
    ap (λ l. place_after l (suc at)) (append_assoc (signs_of inside) (EndOf kind ∷ signs_of later) ss)
    ∙ place-forest inside (EndOf kind ∷ (signs_of later ++ ss)) (suc at)
    ∙ place-forest later ss (suc (suc at + item_count (unnumbered inside)))
    ∙ ap (place_after ss) (let e : suc (suc at + item_count (unnumbered inside)) + item_count (unnumbered later) ≡ at + (item_count (unnumbered inside) + 2 + item_count (unnumbered later)) = omega arith in e)

open-forest : (f : Named) (ss : List Sign) (open_ : List Begun) (at : ℕ) → open_after (signs_of f ++ ss) open_ at ≡ open_after ss open_ (at + item_count (unnumbered f))
open-forest NoNode ss open_ at = ap (open_after ss open_) (let e : at ≡ at + 0 = omega arith in e)
open-forest (NamedRun n count later) ss open_ at =
    open-forest later ss open_ (at + count) ∙ ap (open_after ss open_) (let e : at + count + item_count (unnumbered later) ≡ at + (count + item_count (unnumbered later)) = omega arith in e)
open-forest (NamedBranch n kind inside later) ss open_ at =
    ap (λ l. open_after l (record { node = n; from = at } ∷ open_) (suc at)) (append_assoc (signs_of inside) (EndOf kind ∷ signs_of later) ss)
    ∙ open-forest inside (EndOf kind ∷ (signs_of later ++ ss)) (record { node = n; from = at } ∷ open_) (suc at)
    ∙ open-forest later ss open_ (suc (suc at + item_count (unnumbered inside)))
    ∙ ap (open_after ss open_) (let e : suc (suc at + item_count (unnumbered inside)) + item_count (unnumbered later) ≡ at + (item_count (unnumbered inside) + 2 + item_count (unnumbered later)) = omega arith in e)

place-round : (rs : List Round) → place_after (left_signs rs) 0 ≡ start_in rs
place-round [] = refl
place-round (r ∷ rs) =
    place-append (left_signs rs) (signs_of r.before ++ BeginOf r.number r.kind ∷ []) 0
    ∙ ap (place_after (signs_of r.before ++ BeginOf r.number r.kind ∷ [])) (place-round rs)
    ∙ place-forest r.before (BeginOf r.number r.kind ∷ []) (start_in rs)

pub place-passed : (rs : List Round) (done : Named) → place_after (left_signs rs ++ signs_of done) 0 ≡ start_in rs + item_count (unnumbered done)
place-passed rs done =
    place-append (left_signs rs) (signs_of done) 0
    ∙ ap (place_after (signs_of done)) (place-round rs)
    ∙ ap (λ l. place_after l (start_in rs)) (sym (append-nil (signs_of done)))
    ∙ place-forest done [] (start_in rs)

open-round : (root : ℕ) (rs : List Round) → open_after (left_signs rs) (under_root root) 0 ≡ begun_round root rs
open-round root [] = refl
open-round root (r ∷ rs) =
    open-append (left_signs rs) (signs_of r.before ++ BeginOf r.number r.kind ∷ []) (under_root root) 0
    ∙ (λ i. open_after (signs_of r.before ++ BeginOf r.number r.kind ∷ []) (open-round root rs i) (place-round rs i))
    ∙ open-forest r.before (BeginOf r.number r.kind ∷ []) (begun_round root rs) (start_in rs)

pub open-passed : (root : ℕ) (rs : List Round) (done : Named) → open_after (left_signs rs ++ signs_of done) (under_root root) 0 ≡ begun_round root rs
open-passed root rs done =
    open-append (left_signs rs) (signs_of done) (under_root root) 0
    ∙ (λ i. open_after (signs_of done) (open-round root rs i) (place-round rs i))
    ∙ ap (λ l. open_after l (begun_round root rs) (start_in rs)) (sym (append-nil (signs_of done)))
    ∙ open-forest done [] (begun_round root rs) (start_in rs)

-- the numbers that are passed round a position
abbrev seen_numbers : ℕ → List Round → List ℕ
seen_numbers root [] = root ∷ []
seen_numbers root (r ∷ rs) = r.number ∷ (node_numbers r.before ++ seen_numbers root rs)

all-less : (xs ys zs : List ℕ) → AllApart (xs ++ (ys ++ zs)) → AllApart (xs ++ zs)
all-less xs [] zs h = h
all-less xs (y ∷ ys) zs h = all-less xs ys zs (all-without xs y (ys ++ zs) h)

seen_apart : (root : ℕ) (rs : List Round) (ns : List ℕ) → AllApart (ns ++ (parent_in root rs ∷ rest_numbers root rs)) → AllApart (ns ++ seen_numbers root rs)
seen_apart root [] ns h = h
seen_apart root (r ∷ rs) ns h =
    let bs = node_numbers r.before in
    let outer = parent_in root rs ∷ rest_numbers root rs in
    let less = all-less (ns ++ r.number ∷ bs) (node_numbers r.after) outer (subst AllApart (sym (append_assoc ns (r.number ∷ bs) (node_numbers r.after ++ outer))) h) in
    subst AllApart (append_assoc ns (r.number ∷ bs) (seen_numbers root rs)) (seen_apart root rs (ns ++ r.number ∷ bs) less)

seen_way : (q root : ℕ) (rs : List Round) → Apart q (seen_numbers root rs) → Apart q (way_round root rs)
seen_way q root [] a = a
seen_way q root (r ∷ rs) a = (a.0, seen_way q root rs (apart-rs q (node_numbers r.before) (seen_numbers root rs) a.1))

way_apart : (root : ℕ) (rs : List Round) → AllApart (seen_numbers root rs) → AllApart (way_round root rs)
way_apart root [] h = h
way_apart root (r ∷ rs) h =
    (seen_way r.number root rs (apart-rs r.number (node_numbers r.before) (seen_numbers root rs) h.0), way_apart root rs (all-rs (node_numbers r.before) (seen_numbers root rs) h.1))

-- what each open node has of children, but for the innermost
abbrev KidsRound : ℕ → List Round → (ℕ → List ℕ) → Type 0
KidsRound root [] kids = Unit {0}
KidsRound root (r ∷ rs) kids = (kids (parent_in root rs) ≡ heads r.before ++ r.number ∷ []) × KidsRound root rs kids

-- the open nodes but for the innermost
abbrev outer_round : ℕ → List Round → List ℕ
outer_round root [] = []
outer_round root (r ∷ rs) = way_round root rs

kids_kept : (root : ℕ) (rs : List Round) (k k' : ℕ → List ℕ) → Same k' k (outer_round root rs) → KidsRound root rs k → KidsRound root rs k'
kids_kept root [] k k' s h = tt
kids_kept root (r ∷ []) k k' s h = (s.0 ∙ h.0, tt)
kids_kept root (r ∷ (t ∷ rs)) k k' s h = (s.0 ∙ h.0, kids_kept root (t ∷ rs) k k' s.1 h.1)

record RoundGrown (root : ℕ) (rs : List Round) (known : List ℕ) (g : Grown) : Type 0 where
  stack_is : g.stack ≡ way_round root rs
  kids : KidsRound root rs g.kids
  own : g.kids (parent_in root rs) ≡ []
  fresh : (q : ℕ) → Apart q known → g.kids q ≡ []

same_where : (k k' : ℕ → List ℕ) (p : ℕ) (ms ns : List ℕ) → ((q : ℕ) → p ≢ q → Apart q ms → k' q ≡ k q) → Apart p ns → Disjoint ns ms → Same k' k ns
same_where k k' p ms [] h a d = tt
same_where k k' p ms (n ∷ ns) h a d = (h n a.0 d.0, same_where k k' p ms ns h a.1 d.1)

clear : (k : ℕ → List ℕ) (known ns : List ℕ) → ((q : ℕ) → Apart q known → k q ≡ []) → Disjoint ns known → Same k none ns
clear k known [] h d = tt
clear k known (n ∷ ns) h d = (h n d.0, clear k known ns h d.1)

parent_seen : (q root : ℕ) (rs : List Round) → Apart q (seen_numbers root rs) → q ≢ parent_in root rs
parent_seen q root [] a = a.0
parent_seen q root (r ∷ rs) a = a.0

flip : {m n : ℕ} → m ≢ n → n ≢ m
flip h e = h (sym e)

disjoint_seen : (root : ℕ) (rs : List Round) (ns : List ℕ) → Disjoint ns (seen_numbers root rs) → Disjoint ns (way_round root rs)
disjoint_seen root rs [] d = tt
disjoint_seen root rs (n ∷ ns) d = (seen_way n root rs d.0, disjoint_seen root rs ns d.1)

disjoint_outer : (root : ℕ) (rs : List Round) (ns : List ℕ) → Disjoint ns (way_round root rs) → Disjoint ns (outer_round root rs)
disjoint_outer root rs [] d = tt
disjoint_outer root [] (n ∷ ns) d = (tt, disjoint_outer root [] ns d.1)
disjoint_outer root (r ∷ rs) (n ∷ ns) d = (d.0.1, disjoint_outer root (r ∷ rs) ns d.1)

parent_apart : (root : ℕ) (rs : List Round) (ns : List ℕ) → Disjoint ns (seen_numbers root rs) → Apart (parent_in root rs) ns
parent_apart root rs [] d = tt
parent_apart root rs (n ∷ ns) d = (flip (parent_seen n root rs d.0), parent_apart root rs ns d.1)

parent_outer : (root : ℕ) (rs : List Round) → AllApart (way_round root rs) → Apart (parent_in root rs) (outer_round root rs)
parent_outer root [] h = tt
parent_outer root (r ∷ rs) h = h.0

way_is : (root : ℕ) (rs : List Round) → way_round root rs ≡ parent_in root rs ∷ outer_round root rs
way_is root [] = refl
way_is root (r ∷ rs) = refl

-- a forest is passed inside the innermost
record ForestPassed (root : ℕ) (rs : List Round) (f : Named) (g : Grown) : Type 0 where
  stack_is : g.stack ≡ way_round root rs
  kids : KidsRound root rs g.kids
  own : g.kids (parent_in root rs) ≡ heads f
  fresh : (q : ℕ) → Apart q (node_numbers f ++ seen_numbers root rs) → g.kids q ≡ []

forest_passed : (root : ℕ) (rs : List Round) (f : Named) (g : Grown) → RoundGrown root rs (seen_numbers root rs) g → AllApart (node_numbers f ++ seen_numbers root rs) → ForestPassed root rs f (grown (tokens f) g)
forest_passed root rs f g h all =
    let d = disjoint_of (node_numbers f) (seen_numbers root rs) all in
    let p = parent_in root rs in
    let way = way_apart root rs (all-rs (node_numbers f) (seen_numbers root rs) all) in
    let given : Gives f p (outer_round root rs) g.kids (grown (tokens f) (record { stack = p ∷ outer_round root rs; kids = g.kids })) =
    gives f p (outer_round root rs) g.kids (parent_apart root rs (node_numbers f) d) (all-ls (node_numbers f) (seen_numbers root rs) all) (clear g.kids (seen_numbers root rs) (node_numbers f) h.fresh d) in
    subst (λ s. ForestPassed root rs f (grown (tokens f) (record { stack = s; kids = g.kids }))) (sym (h.stack_is ∙ way_is root rs))
    (record {
      stack_is = given.stack_is ∙ sym (way_is root rs);
      kids = kids_kept root rs g.kids _ (same_where g.kids _ p (node_numbers f) (outer_round root rs) given.others (parent_outer root rs way)
          (disjoint-swap (node_numbers f) (outer_round root rs) (disjoint_outer root rs (node_numbers f) (disjoint_seen root rs (node_numbers f) d)))) h.kids;
      own = given.top ∙ ap (λ l. l ++ heads f) h.own;
      fresh = λ q a.
          given.others q (flip (parent_seen q root rs (apart-rs q (node_numbers f) (seen_numbers root rs) a))) (apart-ls q (node_numbers f) (seen_numbers root rs) a)
          ∙ h.fresh q (apart-rs q (node_numbers f) (seen_numbers root rs) a);
    })

one_more_round : (root : ℕ) (r : Round) (rs : List Round) → AllApart (seen_numbers root (r ∷ rs)) → RoundGrown root rs (seen_numbers root rs) (grown (map token_of (left_signs rs)) (start root)) →
    RoundGrown root (r ∷ rs) (seen_numbers root (r ∷ rs)) (grown (map token_of (left_signs (r ∷ rs))) (start root))
one_more_round root r rs all outer = subst (RoundGrown root (r ∷ rs) (seen_numbers root (r ∷ rs))) (sym whole) result
  where
    before : List ℕ
    before = node_numbers r.before

    seen : List ℕ
    seen = seen_numbers root rs

    p : ℕ
    p = parent_in root rs

    g0 : Grown
    g0 = grown (map token_of (left_signs rs)) (start root)

    g1 : Grown
    g1 = grown (tokens r.before) g0

    one : ForestPassed root rs r.before g1
    one = forest_passed root rs r.before g0 outer all.1

    whole : grown (map token_of (left_signs rs ++ (signs_of r.before ++ BeginOf r.number r.kind ∷ []))) (start root) ≡ record { stack = r.number ∷ way_round root rs; kids = with_list g1.kids p (g1.kids p ++ r.number ∷ []) }
    whole =
        ap (λ l. grown l (start root)) (map-append token_of (left_signs rs) (signs_of r.before ++ BeginOf r.number r.kind ∷ []) ∙ ap (λ l. map token_of (left_signs rs) ++ l)
        (map-append token_of (signs_of r.before) (BeginOf r.number r.kind ∷ []) ∙ ap (λ l. l ++ Begin r.number ∷ []) (sym (tokens-signs r.before))))
        ∙ grown-append (map token_of (left_signs rs)) (tokens r.before ++ Begin r.number ∷ []) (start root)
        ∙ grown-append (tokens r.before) (Begin r.number ∷ []) g0
        ∙ ap (λ s. grown_by (Begin r.number) (record { stack = s; kids = g1.kids })) (one.stack_is ∙ way_is root rs)
        ∙ ap (λ s. record { stack = r.number ∷ s; kids = with_list g1.kids p (g1.kids p ++ r.number ∷ []) }) (sym (way_is root rs))

    there : (q : ℕ) → p ≢ q → with_list g1.kids p (g1.kids p ++ r.number ∷ []) q ≡ g1.kids q
    there q ne = with_list-there g1.kids p (g1.kids p ++ r.number ∷ []) q ne

    result : RoundGrown root (r ∷ rs) (r.number ∷ (before ++ seen)) (record { stack = r.number ∷ way_round root rs; kids = with_list g1.kids p (g1.kids p ++ r.number ∷ []) })
    result = record {
      stack_is = refl;
      kids = (
        with_list-here g1.kids p (g1.kids p ++ r.number ∷ []) ∙ ap (λ l. l ++ r.number ∷ []) one.own,
        kids_kept root rs g1.kids _ (same_where g1.kids _ p [] (outer_round root rs) (λ q ne _. there q ne) (parent_outer root rs (way_apart root rs (all-rs before seen all.1))) (nothing (outer_round root rs))) one.kids,
      );
      own = there r.number (flip (parent_seen r.number root rs (apart-rs r.number before seen all.0))) ∙ one.fresh r.number all.0;
      fresh = λ q a. there q (flip (parent_seen q root rs (apart-rs q before seen a.1))) ∙ one.fresh q a.1;
    }
      where
        nothing : (ns : List ℕ) → Disjoint ns []
        nothing [] = tt
        nothing (n ∷ ns) = (tt, nothing ns)

round_grown : (root : ℕ) (rs : List Round) → AllApart (seen_numbers root rs) → RoundGrown root rs (seen_numbers root rs) (grown (map token_of (left_signs rs)) (start root))
round_grown root [] all = record { stack_is = refl; kids = tt; own = refl; fresh = λ q a. refl }
round_grown root (r ∷ rs) all = one_more_round root r rs all (round_grown root rs (all-rs (node_numbers r.before) (seen_numbers root rs) all.1))

passed_grown : (root : ℕ) (rs : List Round) (done : Named) → AllApart (node_numbers done ++ seen_numbers root rs) →
    ForestPassed root rs done (grown (map token_of (left_signs rs ++ signs_of done)) (start root))
passed_grown root rs done all =
    subst (ForestPassed root rs done)
    (sym (ap (λ l. grown l (start root)) (map-append token_of (left_signs rs) (signs_of done) ∙ ap (λ l. map token_of (left_signs rs) ++ l) (sym (tokens-signs done)))
    ∙ grown-append (map token_of (left_signs rs)) (tokens done) (start root)))
    (forest_passed root rs done (grown (map token_of (left_signs rs)) (start root)) (round_grown root rs (all-rs (node_numbers done) (seen_numbers root rs) all)) all)

-- the numbers that are passed, as tokens have them
passed_nums : (rs : List Round) (done : Named) → nums (map token_of (left_signs rs ++ signs_of done)) ≡ nums (map token_of (left_signs rs)) ++ node_numbers done
passed_nums rs done =
    ap nums (map-append token_of (left_signs rs) (signs_of done)) ∙ nums-append (map token_of (left_signs rs)) (map token_of (signs_of done))
    ∙ ap (λ l. nums (map token_of (left_signs rs)) ++ l) (ap nums (sym (tokens-signs done)) ∙ nums-tokens done)

seen_apart_from : (q root : ℕ) (rs : List Round) → q ≢ root → Apart q (nums (map token_of (left_signs rs))) → Apart q (seen_numbers root rs)
seen_apart_from q root [] ne a = (ne, tt)
seen_apart_from q root (r ∷ rs) ne a =
    let outer = nums (map token_of (left_signs rs)) in
    let own : nums (map token_of (signs_of r.before ++ BeginOf r.number r.kind ∷ [])) ≡ node_numbers r.before ++ r.number ∷ [] =
    ap nums (map-append token_of (signs_of r.before) (BeginOf r.number r.kind ∷ [])) ∙ nums-append (map token_of (signs_of r.before)) (Begin r.number ∷ [])
    ∙ ap (λ l. l ++ r.number ∷ []) (ap nums (sym (tokens-signs r.before)) ∙ nums-tokens r.before) in
    let all = subst (Apart q) (ap nums (map-append token_of (left_signs rs) (signs_of r.before ++ BeginOf r.number r.kind ∷ [])) ∙ nums-append (map token_of (left_signs rs)) (map token_of (signs_of r.before ++ BeginOf r.number r.kind ∷ [])) ∙ ap (λ l. outer ++ l) own) a in
    let right = apart-rs q outer (node_numbers r.before ++ r.number ∷ []) all in (
      (apart-rs q (node_numbers r.before) (r.number ∷ []) right).0,
      apart-join q (node_numbers r.before) (seen_numbers root rs) (apart-ls q (node_numbers r.before) (r.number ∷ []) right) (seen_apart_from q root rs ne (apart-ls q outer (node_numbers r.before ++ r.number ∷ []) all)),
    )

onto_apart : (q : ℕ) (ns past : List ℕ) → Apart q (onto ns past) → Apart q ns × Apart q past
onto_apart q [] past a = (tt, a)
onto_apart q (n ∷ ns) past a = let h = onto_apart q ns (n ∷ past) a in ((h.1.0, h.0), h.1.1)

past_apart : (q root : ℕ) (rs : List Round) (done : Named) → Apart q (onto (nums (map token_of (left_signs rs ++ signs_of done))) (root ∷ [])) → Apart q (node_numbers done ++ seen_numbers root rs)
past_apart q root rs done a =
    let h = onto_apart q (nums (map token_of (left_signs rs ++ signs_of done))) (root ∷ []) a in
    let both = subst (Apart q) (passed_nums rs done) h.0 in
    apart-join q (node_numbers done) (seen_numbers root rs) (apart-rs q (nums (map token_of (left_signs rs))) (node_numbers done) both)
    (seen_apart_from q root rs h.1.0 (apart-ls q (nums (map token_of (left_signs rs))) (node_numbers done) both))

-- the code's stacks
old_agrees : (root : ℕ) (rs : List Round) (os : List NodeId) → OldRound root rs os → OldAgree os (way_round root rs)
old_agrees root [] [] h = absurd h
old_agrees root [] (o ∷ []) h = (h, tt)
old_agrees root [] (o ∷ (p ∷ os)) h = absurd h
old_agrees root (r ∷ rs) [] h = absurd h
old_agrees root (r ∷ rs) (o ∷ os) h = (h.0, old_agrees root rs os h.1)

new_agrees : (root : ℕ) (rs : List Round) (last : Option ℕ) (ls : List Level) (kids : ℕ → List ℕ) → NewRound root rs last ls → last ≡ last_or None (kids (parent_in root rs)) → KidsRound root rs kids →
    NewAgree ls (way_round root rs) kids
new_agrees root [] last [] kids h e k = absurd h
new_agrees root [] last (l ∷ []) kids h e k = (h.0, h.1 ∙ e, tt)
new_agrees root [] last (l ∷ (m ∷ ls)) kids h e k = absurd h
new_agrees root (r ∷ rs) last [] kids h e k = absurd h
new_agrees root (r ∷ rs) last (l ∷ ls) kids h e k =
    (h.0.0, h.0.1 ∙ e, new_agrees root rs (Some r.number) ls kids h.1 (sym (last-appended (heads r.before) r.number) ∙ ap (last_or None) (sym k.0)) k.1)

pub start_has_begun : StartHasBegun
start_has_begun f root x start stacks s is apart = record {
  signs = ap signs_of is.whole ∙ signs-at rs done is.place.row;
  offset = place-passed rs done ∙ sym is.offset;
  left_whole = is.left_whole;
  agrees = λ right. record {
    old = subst (OldAgree stacks.old) (sym g.stack_is) (old_agrees root rs stacks.old is.old);
    new = subst (λ l. NewAgree stacks.new l passed.kids) (sym g.stack_is) (new_agrees root rs (last_or None (heads done)) stacks.new passed.kids is.new (ap (last_or None) (sym g.own)) g.kids);
    apart = subst AllApart (sym g.stack_is) (way_apart root rs (all-rs (node_numbers done) (seen_numbers root rs) all));
    known = λ q a. subst (Apart q) (sym g.stack_is) (seen_way q root rs (apart-rs q (node_numbers done) (seen_numbers root rs) (past_apart q root rs done a)));
    fresh = λ q a. g.fresh q (past_apart q root rs done a);
  };
  starts = record {
    old_levels = is.old_open ∙ sym (open-passed root rs done);
    new_levels = is.new_open ∙ sym (open-passed root rs done);
    old_place = is.old_at ∙ is.offset ∙ sym (place-passed rs done);
    new_place = is.new_at ∙ is.offset ∙ sym (place-passed rs done);
  };
}
  where
    rs : List Round
    rs = is.place.round

    done : Named
    done = is.place.done

    all : AllApart (node_numbers done ++ seen_numbers root rs)
    all = seen_apart root rs (node_numbers done)
        (all-less (node_numbers done) (node_numbers is.place.row) (parent_in root rs ∷ rest_numbers root rs)
        (subst AllApart (ap (λ l. l ++ (parent_in root rs ∷ rest_numbers root rs)) (numbers-beside done is.place.row) ∙ append_assoc (node_numbers done) (node_numbers is.place.row) (parent_in root rs ∷ rest_numbers root rs))
        (all_outer root rs (beside done is.place.row) (subst (λ g. AllApart (root ∷ node_numbers g)) is.whole apart))))

    passed : Grown
    passed = grown (map token_of (left_signs rs ++ signs_of done)) (start0 root)

    g : ForestPassed root rs done passed
    g = passed_grown root rs done all
