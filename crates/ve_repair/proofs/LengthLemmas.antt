-- The lengths that the writes of a script leave are those of the new tree.
use Rattle.std.proofs.Common.{◌≡◌, ℕ, ◌+◌, ◌-◌, ◌≤◌, Option, Some, None, List, [], ◌∷◌, ◌++◌, length, map, option_map, sym, ap, ◌∙◌, subst, append-nil, append_assoc, arith}
use Rattle.std.proofs.lemmas.List.{length-map, map-append}
use Rattle.ve_arena.specs.declared.node.ArenaNode.{ArenaNode}
use Rattle.ve_arena.specs.Arena.{slot_at}
use Rattle.ve_tree.specs.Named.{Named, node_numbers}
use Rattle.ve_repair.specs.declared.script.Step.{Step}
use Rattle.ve_repair.specs.Spelled.{Sign, token_of}
use Rattle.ve_repair.specs.Ready.{nums}
use Rattle.ve_repair.specs.Labels.{label_at}
use Rattle.ve_repair.specs.Writes.{label_all}
use Rattle.ve_repair.specs.Agree.{steps_of}
use Rattle.ve_repair.specs.Sizes.{Sized, Begun, sizes, open_after, place_after, signs_of, forest_sizes, HaveSizes}
use Rattle.ve_repair.specs.SizesRight.{inner_sizes, ends, closing_sizes}
use Rattle.ve_repair.specs.Labels.{len_in}
use Rattle.ve_repair.specs.Sizing.{Sizing, sized_all, open_writes}
use Rattle.ve_repair.specs.Lengths.{kindless, new_signs, begun_of, under_root, StartsAt, whole_writes, LeadsOn, LengthsAreWritten}
use Rattle.ve_repair.proofs.ReadyLemmas.{nums-append, nums-tokens}
use Rattle.ve_repair.proofs.ChangedLemmas.{tokens-signs}
use Rattle.ve_repair.proofs.SizeLemmas.{sizes_append, forest_passed, have_front, have_behind, have_both}
use Rattle.ve_repair.proofs.SizesRightLemmas.{sizes_split, sizes_inner, sizes_closing}
use Rattle.ve_repair.proofs.ScriptSignsLemmas.{sizes-kindless, open-kindless, place-kindless, old_signs, lens, passes_signs}
use Rattle.ve_repair.proofs.WalkedLemmas.{resizes, resizes-append, Walked, walked, follows, AllBegunBy, open_is}
use Rattle.ve_repair.proofs.CountLemmas.{times, times-append, apart_none, apart_once, once_apart}
use Rattle.ve_repair.proofs.NestedLemmas.{Nested, nested_forest, OpenOver, open_over, ends-length, begun_by, place-from, place-append, open-append, sized_nodes, begun_nodes, sign_nums, sizes-times, inner-times}
use Rattle.ve_repair.proofs.ResizedLemmas.{have_sizes, nothing_written, all_there}

abbrev Slots : Type 0
Slots = List (Option ArenaNode)

-- a forest's lengths are its own, whatever is open round it
pub of_forest : (f : Named) (open_ : List Begun) → sizes (signs_of f) open_ 0 ≡ forest_sizes f
of_forest f open_ = ap (λ l. sizes l open_ 0) (sym (append-nil (signs_of f))) ∙ forest_passed f [] open_ 0 ∙ append-nil (forest_sizes f)

pub lens-some : (slots : Slots) (n len : ℕ) → option_map (λ node. node.len) (slot_at slots n) ≡ Some len → lens slots n ≡ len
lens-some slots n len h = go (slot_at slots n) h
  where
    go : (o : Option ArenaNode) → option_map (λ node. node.len) o ≡ Some len → len_in o ≡ len
    go None e = let bad : ◌≡◌ {A = Option ℕ} None (Some len) = e in cc
    go (Some node) e = cc

-- how far the open nodes of the old list reach
follow-ends : (slots : Slots) (inner : List Begun) (root a : ℕ) (es : List ℕ) → length es ≡ length inner → AllBegunBy (inner ++ under_root root) a →
    HaveSizes slots (closing_sizes (inner ++ under_root root) (map (λ e. a + e) es)) → follows slots (inner ++ under_root root) a ≡ es ++ (lens slots root - a) ∷ []
follow-ends slots [] root a [] long by h = ap (λ n. n ∷ []) (let e : lens slots root - (a - 0) ≡ lens slots root - a = omega arith in e)
follow-ends slots [] root a (e ∷ es) long by h = absurd (omega (arith, long))
follow-ends slots (b ∷ inner) root a [] long by h = absurd (omega (arith, long))
follow-ends slots (b ∷ inner) root a (e ∷ es) long by h =
    let len = lens-some slots b.node _ h.0 in
    let within = by.0 in
    let here : lens slots b.node - (a - b.from) ≡ e = omega (arith, len, within) in
    λ i. here i ∷ follow-ends slots inner root a es (omega (arith, long)) by.1 h.1 i

closing-last : (inner : List Begun) (root b k : ℕ) (es : List ℕ) → length es ≡ length inner →
    closing_sizes (inner ++ under_root root) (map (λ e. b + e) (es ++ k ∷ [])) ≡ closing_sizes (inner ++ under_root root) (map (λ e. b + e) es) ++ record { node = root; len = b + k } ∷ []
closing-last [] root b k [] long = ap (λ n. record { node = root; len = n } ∷ []) (let e : (b + k) - 0 ≡ b + k = omega arith in e)
closing-last [] root b k (e ∷ es) long = absurd (omega (arith, long))
closing-last (x ∷ inner) root b k [] long = absurd (omega (arith, long))
closing-last (x ∷ inner) root b k (e ∷ es) long = ap (λ l. record { node = x.node; len = (b + e) - x.from } ∷ l) (closing-last inner root b k es (omega (arith, long)))

sized-append : (q : ℕ) (ys zs : List Sized) → times q (sized_nodes (ys ++ zs)) ≡ times q (sized_nodes ys) + times q (sized_nodes zs)
sized-append q ys zs = ap (times q) (map-append (λ (z : Sized). z.node) ys zs) ∙ times-append q (sized_nodes ys) (sized_nodes zs)

sign_nums-append : (xs ys : List Sign) → sign_nums (xs ++ ys) ≡ sign_nums xs ++ sign_nums ys
sign_nums-append xs ys = ap nums (map-append token_of xs ys) ∙ nums-append (map token_of xs) (map token_of ys)

-- all lengths of the new tree: of the parts, of what is open at the script's end, and of the root
abbrev pub all_sizes : ℕ → List Sign → List Sign → List Sign → ℕ → List Sized
all_sizes root lefts news rights len =
    sizes lefts (under_root root) 0
    ++ (sizes news (open_after lefts (under_root root) 0) (place_after lefts 0)
    ++ (inner_sizes rights [] 0
    ++ (closing_sizes (open_after news (open_after lefts (under_root root) 0) (place_after lefts 0)) (map (λ e. place_after news (place_after lefts 0) + e) (ends rights [] 0))
    ++ record { node = root; len = len } ∷ [])))

-- what is open after a part is nested in what follows, over the root
part_open : (root : ℕ) (f : Named) (lefts mids rights : List Sign) → signs_of f ≡ lefts ++ (mids ++ rights) →
    OpenOver (lefts ++ mids) rights [] (record { node = root; from = 0 }) 0
part_open root f lefts mids rights e =
    open_over (lefts ++ mids) rights [] (record { node = root; from = 0 }) 0
    (subst (Nested 0) (e ∙ sym (append_assoc lefts mids rights)) (nested_forest f))

-- the same lists, one after the other
opened-by : (root : ℕ) (lefts mids : List Sign) →
    open_after (lefts ++ mids) (under_root root) 0 ≡ open_after mids (open_after lefts (under_root root) 0) (place_after lefts 0)
opened-by root lefts mids = open-append lefts mids (under_root root) 0

-- old lengths, part by part
pub record OldParts (slots : Slots) (root : ℕ) (lefts ss rights : List Sign) : Type 0 where
  left : HaveSizes slots (sizes lefts (under_root root) 0)
  pub mid : HaveSizes slots (sizes ss (open_after lefts (under_root root) 0) (place_after lefts 0))
  right : HaveSizes slots (sizes rights (open_after ss (open_after lefts (under_root root) 0) (place_after lefts 0)) (place_after ss (place_after lefts 0)))

pub old_parts : (slots : Slots) (root : ℕ) (f : Named) (lefts ss rights : List Sign) → signs_of f ≡ lefts ++ (ss ++ rights) → HaveSizes slots (sizes (signs_of f) [] 0) → OldParts slots root lefts ss rights
old_parts slots root f lefts ss rights e h =
    let ol = open_after lefts (under_root root) 0 in
    let pl = place_after lefts 0 in
    let whole = subst (HaveSizes slots) (of_forest f [] ∙ sym (of_forest f (under_root root)) ∙ ap (λ l. sizes l (under_root root) 0) e ∙ sizes_append lefts (ss ++ rights) (under_root root) 0) h in
    let rest = subst (HaveSizes slots) (sizes_append ss rights ol pl) (have_behind slots (sizes lefts (under_root root) 0) (sizes (ss ++ rights) ol pl) whole) in
    record {
      left = have_front slots (sizes lefts (under_root root) 0) (sizes (ss ++ rights) ol pl) whole;
      mid = have_front slots (sizes ss ol pl) (sizes rights (open_after ss ol pl) (place_after ss pl)) rest;
      right = have_behind slots (sizes ss ol pl) (sizes rights (open_after ss ol pl) (place_after ss pl)) rest;
    }

-- where the script leads
pub script_leads : (slots : Slots) (root : ℕ) (old new : Named) (lefts ss news rights : List Sign) (xs : List Step) (s : Sizing) → LeadsOn old new lefts ss news rights xs → StartsAt root lefts s →
    HaveSizes slots (sizes ss (open_after lefts (under_root root) 0) (place_after lefts 0)) →
    Walked slots xs s (kindless ss) (kindless news) (open_after lefts (under_root root) 0) (open_after lefts (under_root root) 0) (place_after lefts 0) (place_after lefts 0)
script_leads slots root old new lefts ss news rights xs s leads starts mid =
    let ol = open_after lefts (under_root root) 0 in
    let pl = place_after lefts 0 in
    let one = subst (λ l. Walked slots xs s (old_signs (lens slots) (steps_of xs)) (new_signs (steps_of xs)) l (map begun_of s.new_open) s.old_at s.new_at) starts.old_levels
    (walked slots xs s.old_open s.new_open s.old_at s.new_at) in
    let two = subst (λ l. Walked slots xs s (old_signs (lens slots) (steps_of xs)) (new_signs (steps_of xs)) ol l s.old_at s.new_at) starts.new_levels one in
    let three = subst (λ a. Walked slots xs s (old_signs (lens slots) (steps_of xs)) (new_signs (steps_of xs)) ol ol a s.new_at) starts.old_place two in
    let four = subst (λ b. Walked slots xs s (old_signs (lens slots) (steps_of xs)) (new_signs (steps_of xs)) ol ol pl b) starts.new_place three in
    let five = subst (λ l. Walked slots xs s l (new_signs (steps_of xs)) ol ol pl pl) (passes_signs slots (steps_of xs) ss ol pl leads.passes mid) four in
    subst (λ l. Walked slots xs s (kindless ss) l ol ol pl pl) leads.makes five

-- all that is written are lengths of the new tree
pub written-is : (slots : Slots) (root : ℕ) (old new : Named) (lefts ss news rights : List Sign) (xs : List Step) (s : Sizing) → LeadsOn old new lefts ss news rights xs → StartsAt root lefts s →
    OldParts slots root lefts ss rights →
    whole_writes slots xs s
    ≡ resizes slots (all_sizes root lefts news rights (place_after news (place_after lefts 0) + (lens slots root - place_after ss (place_after lefts 0))))
written-is slots root old new lefts ss news rights xs s leads starts parts = whole
  where
    ol : List Begun
    ol = open_after lefts (under_root root) 0

    pl : ℕ
    pl = place_after lefts 0

    os : List Begun
    os = open_after ss ol pl

    a : ℕ
    a = place_after ss pl

    bs : List Begun
    bs = open_after news ol pl

    b : ℕ
    b = place_after news pl

    es : List ℕ
    es = ends rights [] 0

    k : ℕ
    k = lens slots root - a

    w : Walked slots xs s (kindless ss) (kindless news) ol ol pl pl
    w = script_leads slots root old new lefts ss news rights xs s leads starts parts.mid

    over_old : OpenOver (lefts ++ ss) rights [] (record { node = root; from = 0 }) 0
    over_old = part_open root old lefts ss rights leads.old_signs

    over_new : OpenOver (lefts ++ news) rights [] (record { node = root; from = 0 }) 0
    over_new = part_open root new lefts news rights leads.new_signs_are

    os-is : os ≡ over_old.inner ++ under_root root
    os-is = sym (opened-by root lefts ss) ∙ over_old.open_is

    bs-is : bs ≡ over_new.inner ++ under_root root
    bs-is = sym (opened-by root lefts news) ∙ over_new.open_is

    long_old : length es ≡ length over_old.inner
    long_old = ends-length rights (length over_old.inner) over_old.nested

    long_new : length es ≡ length over_new.inner
    long_new = ends-length rights (length over_new.inner) over_new.nested

    begun_left : AllBegunBy ol pl
    begun_left = begun_by lefts (under_root root) 0 (omega arith, tt)

    follow : follows slots os a ≡ es ++ k ∷ []
    follow =
        ap (λ l. follows slots l a) os-is
        ∙ follow-ends slots over_old.inner root a es long_old (subst (λ l. AllBegunBy l a) os-is (begun_by ss ol pl begun_left))
        (subst (λ l. HaveSizes slots (closing_sizes l (map (λ e. a + e) es))) os-is (sizes_closing slots rights os a parts.right))

    last : closing_sizes bs (map (λ e. b + e) (es ++ k ∷ [])) ≡ closing_sizes bs (map (λ e. b + e) es) ++ record { node = root; len = b + k } ∷ []
    last =
        subst (λ l. closing_sizes l (map (λ e. b + e) (es ++ k ∷ [])) ≡ closing_sizes l (map (λ e. b + e) es) ++ record { node = root; len = b + k } ∷ []) (sym bs-is)
        (closing-last over_new.inner root b k es long_new)

    t : Sizing
    t = sized_all slots xs s

    new_is : map begun_of t.new_open ≡ bs
    new_is = w.2 ∙ open-kindless news ol pl

    new_at_is : t.new_at ≡ b
    new_at_is = w.3 ∙ place-kindless news pl

    old_is : map begun_of t.old_open ≡ os
    old_is = w.0 ∙ open-kindless ss ol pl

    old_at_is : t.old_at ≡ a
    old_at_is = w.1 ∙ place-kindless ss pl

    opened : open_writes slots t.old_open t.new_open t.old_at t.new_at ≡ resizes slots (closing_sizes bs (map (λ e. b + e) es) ++ record { node = root; len = b + k } ∷ [])
    opened =
        open_is slots t.old_open t.new_open t.old_at t.new_at
        (subst (λ l. AllBegunBy l t.new_at) (sym new_is) (subst (AllBegunBy bs) (sym new_at_is) (begun_by news ol pl begun_left)))
        ∙ (λ i. resizes slots (closing_sizes (new_is i) (map (λ e. new_at_is i + e) (follows slots (old_is i) (old_at_is i)))))
        ∙ ap (λ l. resizes slots (closing_sizes bs (map (λ e. b + e) l))) follow
        ∙ ap (resizes slots) last

    mids : List Sized
    mids = sizes news ol pl

    closed : List Sized
    closed = closing_sizes bs (map (λ e. b + e) es) ++ record { node = root; len = b + k } ∷ []

    all : resizes slots (all_sizes root lefts news rights (b + k)) ≡ resizes slots mids ++ resizes slots closed
    all =
        resizes-append slots (sizes lefts (under_root root) 0) (mids ++ (inner_sizes rights [] 0 ++ closed))
        ∙ ap (λ l. l ++ resizes slots (mids ++ (inner_sizes rights [] 0 ++ closed))) (nothing_written slots (sizes lefts (under_root root) 0) parts.left)
        ∙ resizes-append slots mids (inner_sizes rights [] 0 ++ closed)
        ∙ ap (λ l. resizes slots mids ++ l)
        (resizes-append slots (inner_sizes rights [] 0) closed
        ∙ ap (λ l. l ++ resizes slots closed) (nothing_written slots (inner_sizes rights [] 0) (sizes_inner slots rights os a parts.right)))

    whole : whole_writes slots xs s ≡ resizes slots (all_sizes root lefts news rights (b + k))
    whole = (λ i. (w.4 ∙ ap (resizes slots) (sizes-kindless news ol pl)) i ++ opened i) ∙ sym all

closing-times-last : (q : ℕ) (inner : List Begun) (root : ℕ) (es : List ℕ) → length es ≡ length inner →
    times q (sized_nodes (closing_sizes (inner ++ under_root root) es)) + times q (root ∷ []) ≤ times q (begun_nodes (inner ++ under_root root))
closing-times-last q [] root [] long = omega arith
closing-times-last q [] root (e ∷ es) long = absurd (omega (arith, long))
closing-times-last q (b ∷ inner) root [] long = absurd (omega (arith, long))
closing-times-last q (b ∷ inner) root (e ∷ es) long = let h = closing-times-last q inner root es (omega (arith, long)) in omega (arith, h)

-- each node once
all-times : (q root : ℕ) (new : Named) (lefts news rights : List Sign) (len : ℕ) → signs_of new ≡ lefts ++ (news ++ rights) →
    times q (sized_nodes (all_sizes root lefts news rights len)) ≤ times q (root ∷ node_numbers new)
all-times q root new lefts news rights len e =
    let ol = open_after lefts (under_root root) 0 in
    let pl = place_after lefts 0 in
    let bs = open_after news ol pl in
    let closed = closing_sizes bs (map (λ e. place_after news pl + e) (ends rights [] 0)) in
    let last : List Sized = record { node = root; len = len } ∷ [] in
    let one = sized-append q (sizes lefts (under_root root) 0) (sizes news ol pl ++ (inner_sizes rights [] 0 ++ (closed ++ last))) in
    let two = sized-append q (sizes news ol pl) (inner_sizes rights [] 0 ++ (closed ++ last)) in
    let three = sized-append q (inner_sizes rights [] 0) (closed ++ last) in
    let four = sized-append q closed last in
    let lefts_are = sizes-times q lefts (under_root root) 0 in
    let news_are = sizes-times q news ol pl in
    let inners = inner-times q rights [] 0 in
    let over = part_open root new lefts news rights e in
    let bs-is : bs ≡ over.inner ++ under_root root = sym (opened-by root lefts news) ∙ over.open_is in
    let long = length-map (ends rights [] 0) (λ e. place_after news pl + e) ∙ ends-length rights (length over.inner) over.nested in
    let closings = subst (λ l. times q (sized_nodes (closing_sizes l (map (λ e. place_after news pl + e) (ends rights [] 0)))) + times q (root ∷ []) ≤ times q (begun_nodes l)) (sym bs-is)
    (closing-times-last q over.inner root (map (λ e. place_after news pl + e) (ends rights [] 0)) long) in
    let numbers : node_numbers new ≡ sign_nums lefts ++ (sign_nums news ++ sign_nums rights) =
    sym (nums-tokens new) ∙ ap nums (tokens-signs new ∙ ap (map token_of) e) ∙ sign_nums-append lefts (news ++ rights) ∙ ap (λ l. sign_nums lefts ++ l) (sign_nums-append news rights) in
    let total = ap (times q) numbers ∙ times-append q (sign_nums lefts) (sign_nums news ++ sign_nums rights) in
    let rest = times-append q (sign_nums news) (sign_nums rights) in
    omega (arith, one, two, three, four, lefts_are, news_are, inners, closings, total, rest)

pub lengths_are_written : LengthsAreWritten
lengths_are_written slots after root old new lefts ss news rights xs s leads starts lens_ apart there labels = record {
  nodes =
      subst (HaveSizes after) (sym (sizes_append lefts (news ++ rights) (under_root root) 0) ∙ ap (λ l. sizes l (under_root root) 0) (sym leads.new_signs_are) ∙ of_forest new (under_root root) ∙ sym (of_forest new []))
      (have_both after left_sizes (sizes (news ++ rights) ol pl) (have_front after left_sizes behind_left have)
      (subst (HaveSizes after) (sym (sizes_append news rights ol pl))
      (have_both after mid_sizes (sizes rights bs b) (have_front after mid_sizes behind_mid after_left)
      (sizes_split after rights bs b (have_front after inner behind_inner after_mid) (have_front after closed last after_inner)))));
  all = (have_behind after closed last after_inner).0 ∙ ap Some total;
}
  where
    ol : List Begun
    ol = open_after lefts (under_root root) 0

    pl : ℕ
    pl = place_after lefts 0

    bs : List Begun
    bs = open_after news ol pl

    b : ℕ
    b = place_after news pl

    len : ℕ
    len = b + (lens slots root - place_after ss pl)

    parts : OldParts slots root lefts ss rights
    parts = old_parts slots root old lefts ss rights leads.old_signs lens_.nodes

    zs : List Sized
    zs = all_sizes root lefts news rights len

    have : HaveSizes after zs
    have = have_sizes slots after zs
        (once_apart (sized_nodes zs) (λ q. let few = all-times q root new lefts news rights len leads.new_signs_are in let once = apart_once q (root ∷ node_numbers new) apart in omega (arith, few, once)))
        (all_there slots zs (λ q none. let few = all-times q root new lefts news rights len leads.new_signs_are in let no_ = apart_none q (root ∷ node_numbers new) (there q none) in omega (arith, few, no_)))
        (λ q. labels q ∙ ap (λ ws. label_all ws q (label_at slots q)) (written-is slots root old new lefts ss news rights xs s leads starts parts))

    left_sizes : List Sized
    left_sizes = sizes lefts (under_root root) 0

    mid_sizes : List Sized
    mid_sizes = sizes news ol pl

    inner : List Sized
    inner = inner_sizes rights [] 0

    closed : List Sized
    closed = closing_sizes bs (map (λ e. b + e) (ends rights [] 0))

    last : List Sized
    last = record { node = root; len = len } ∷ []

    behind_inner : List Sized
    behind_inner = closed ++ last

    behind_mid : List Sized
    behind_mid = inner ++ behind_inner

    behind_left : List Sized
    behind_left = mid_sizes ++ behind_mid

    after_left : HaveSizes after behind_left
    after_left = have_behind after left_sizes behind_left have

    after_mid : HaveSizes after behind_mid
    after_mid = have_behind after mid_sizes behind_mid after_left

    after_inner : HaveSizes after behind_inner
    after_inner = have_behind after inner behind_inner after_mid

    total : len ≡ place_after (signs_of new) 0
    total =
        let root_len = lens-some slots root (place_after (signs_of old) 0) lens_.all in
        let old_is = ap (λ l. place_after l 0) leads.old_signs ∙ place-append lefts (ss ++ rights) 0 ∙ place-append ss rights pl ∙ place-from rights (place_after ss pl) in
        let new_is = ap (λ l. place_after l 0) leads.new_signs_are ∙ place-append lefts (news ++ rights) 0 ∙ place-append news rights pl ∙ place-from rights (place_after news pl) in
        omega (arith, root_len, old_is, new_is)
