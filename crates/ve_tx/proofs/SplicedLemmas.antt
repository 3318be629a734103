-- Splices at rising positions, made from the last to the first.
use Rattle.std.proofs.Common.{◌≡◌, ◌≤◌, ◌<◌, ℕ, zero, suc, ◌+◌, ◌-◌, List, [], ◌∷◌, ◌++◌, length, take, drop, get_or, All, refl, sym, ap, ◌∙◌, subst, append_assoc, append-nil, length-append, arith}
use Rattle.std.proofs.lemmas.List.{length-take-le, length-drop, take-take, drop_all, take-append-le, drop-append-le, drop_more}
use Rattle.std.proofs.lemmas.List.Elements.{All-nil, All-cons, All-append, All-head, All-tail}
use Rattle.std.proofs.Math.Seq.{take-add}
use Rattle.ve_base.specs.declared.value.Value.{Value}
use Rattle.model_items.specs.declared.item.Item.{Item}
use Rattle.model_items.specs.Plain.{CitesWell}
use Rattle.ve_items.specs.Substitution.{spliced}
use Rattle.ve_tx.specs.declared.splice.Splice.{Splice}
use Rattle.ve_tx.specs.Making.{Extends}
use Rattle.ve_tx.specs.Spliced.{spliced_by, LieBetween, come_count, gone_count, AllCite}
use Rattle.ve_tx.proofs.MakingLemmas.{All-take, All-drop}
use Rattle.ve_tx.proofs.ValuesLemmas.{all-extended}

-- splices between two positions lie between any that are further apart
pub lie-wider : (from to from' to' : ℕ) (splices : List Splice) → from' ≤ from → to ≤ to' → LieBetween from to splices → LieBetween from' to' splices
lie-wider from to from' to' [] f t h = omega (arith, h)
lie-wider from to from' to' (splice ∷ more) f t h =
    let end = splice.at + splice.removed in
    (omega (arith, h.0), lie-wider end to end to' more (omega arith) t h.1)

-- one more lies behind them
pub lie-push : (from to to' : ℕ) (splices : List Splice) (splice : Splice) → LieBetween from to splices → to ≤ splice.at → splice.at + splice.removed ≤ to' →
    LieBetween from to' (splices ++ splice ∷ [])
lie-push from to to' [] splice h f t = (omega (arith, h), t)
lie-push from to to' (one ∷ more) splice h f t = (h.0, lie-push (one.at + one.removed) to to' more splice h.1 f t)

-- the items before the first of them stay
pub spliced-long : (from to : ℕ) (items : List Item) (splices : List Splice) → LieBetween from to splices → to ≤ length items → from ≤ length (spliced_by items splices)
spliced-long from to items [] h k = omega (arith, h)
spliced-long from to items (splice ∷ more) h k =
    let rest = spliced_by items more in
    let long = spliced-long (splice.at + splice.removed) to items more h.1 k in
    let cut = length-take-le splice.at rest (omega arith) in
    let all = length-append (take splice.at rest ++ splice.items) (drop (splice.at + splice.removed) rest) in
    let first = length-append (take splice.at rest) splice.items in
    omega (arith, h.0)

-- what stands behind them stays behind
pub spliced-after : (from to : ℕ) (items suffix : List Item) (splices : List Splice) → LieBetween from to splices → to ≤ length items →
    spliced_by (items ++ suffix) splices ≡ spliced_by items splices ++ suffix
spliced-after from to items suffix [] h k = refl
spliced-after from to items suffix (splice ∷ more) h k =
    let rest = spliced_by items more in
    let end = splice.at + splice.removed in
    let long : end ≤ length rest = spliced-long end to items more h.1 k in
    ap (λ l. spliced l splice.at splice.removed splice.items) (spliced-after end to items suffix more h.1 k)
    ∙ ap (λ l. (l ++ splice.items) ++ drop end (rest ++ suffix)) (take-append-le splice.at rest suffix (omega arith))
    ∙ ap (λ l. (take splice.at rest ++ splice.items) ++ l) (drop-append-le end rest suffix long)
    ∙ sym (append_assoc (take splice.at rest ++ splice.items) (drop end rest) suffix)

-- as many items are there as there were, less those that go and with those that come
pub spliced-length : (from to : ℕ) (items : List Item) (splices : List Splice) → LieBetween from to splices → to ≤ length items →
    length (spliced_by items splices) + gone_count splices ≡ length items + come_count splices
spliced-length from to items [] h k = refl
spliced-length from to items (splice ∷ more) h k =
    let rest = spliced_by items more in
    let end = splice.at + splice.removed in
    let before = spliced-length end to items more h.1 k in
    let long : end ≤ length rest = spliced-long end to items more h.1 k in
    let cut = length-take-le splice.at rest (omega arith) in
    let left = length-drop end rest in
    let all = length-append (take splice.at rest ++ splice.items) (drop end rest) in
    let first = length-append (take splice.at rest) splice.items in
    omega arith

-- no more go than lie between the positions
pub lie-gone : (from to : ℕ) (splices : List Splice) → LieBetween from to splices → from + gone_count splices ≤ to
lie-gone from to [] h = omega (arith, h)
lie-gone from to (splice ∷ more) h = let rest = lie-gone (splice.at + splice.removed) to more h.1 in omega (arith, h.0)

-- the last is made first
spliced-push : (items : List Item) (splices : List Splice) (splice : Splice) →
    spliced_by items (splices ++ splice ∷ []) ≡ spliced_by (spliced items splice.at splice.removed splice.items) splices
spliced-push items [] splice = refl
spliced-push items (one ∷ more) splice = ap (λ l. spliced l one.at one.removed one.items) (spliced-push items more splice)

-- one more, with the list cut where it ends
pub spliced-on : (list : List Item) (at removed : ℕ) (items : List Item) (splices : List Splice) → LieBetween 0 at splices → at + removed ≤ length list →
    spliced_by (take (at + removed) list) (splices ++ record { at = at; removed = removed; items = items } ∷ []) ≡ spliced_by (take at list) splices ++ items
spliced-on list at removed items splices h k =
    let cut = length-take-le (at + removed) list k in
    let long : length (take at list) ≡ at = length-take-le at list (omega arith) in
    let whole : spliced (take (at + removed) list) at removed items ≡ take at list ++ items =
    ap (λ l. (l ++ items) ++ drop (at + removed) (take (at + removed) list)) (take-take at (at + removed) list (omega arith))
    ∙ ap (λ l. (take at list ++ items) ++ l) (drop_all (at + removed) (take (at + removed) list) (omega arith))
    ∙ append-nil (take at list ++ items) in
    spliced-push (take (at + removed) list) splices (record { at = at; removed = removed; items = items })
    ∙ ap (λ l. spliced_by l splices) whole
    ∙ spliced-after 0 at (take at list) items splices h (omega arith)

-- items that stay, with the list cut behind them
pub spliced-past : (list : List Item) (at count : ℕ) (splices : List Splice) → LieBetween 0 at splices → at ≤ length list →
    spliced_by (take (at + count) list) splices ≡ spliced_by (take at list) splices ++ take count (drop at list)
spliced-past list at count splices h k =
    let long : length (take at list) ≡ at = length-take-le at list k in
    ap (λ l. spliced_by l splices) (take-add at count list) ∙ spliced-after 0 at (take at list) (take count (drop at list)) splices h (omega arith)

pub come-push : (splices : List Splice) (splice : Splice) → come_count (splices ++ splice ∷ []) ≡ come_count splices + length splice.items
come-push [] splice = omega arith
come-push (one ∷ more) splice = let rest = come-push more splice in omega arith

pub cite-push : (values : List Value) (splices : List Splice) (splice : Splice) → AllCite values splices → All (CitesWell values) splice.items → AllCite values (splices ++ splice ∷ [])
cite-push values splices splice a b =
    let P : Splice → Type 0 = λ s. All (CitesWell values) s.items in
    All-append P splices (splice ∷ []) a (All-cons P splice [] b (All-nil P))

pub cite-extended : (old new : List Value) → Extends old new → (splices : List Splice) → AllCite old splices → AllCite new splices
cite-extended old new extends splices a k d below = all-extended old new extends (get_or splices k d).items (a k d below)

-- the items of the list after them cite well
pub spliced-cites : (values : List Value) (items : List Item) (splices : List Splice) → All (CitesWell values) items → AllCite values splices → All (CitesWell values) (spliced_by items splices)
spliced-cites values items [] a b = a
spliced-cites values items (splice ∷ more) a b =
    let P : Splice → Type 0 = λ s. All (CitesWell values) s.items in
    let rest = spliced_by items more in
    let cites = spliced-cites values items more a (All-tail P splice more b) in
    All-append (CitesWell values) (take splice.at rest ++ splice.items) (drop (splice.at + splice.removed) rest)
    (All-append (CitesWell values) (take splice.at rest) splice.items (All-take values splice.at rest cites) (All-head P splice more b))
    (All-drop values (splice.at + splice.removed) rest cites)

-- made so far, from the last one on
pub record AreMade (old now : List Item) (start spare : ℕ) (splices : List Splice) (left : ℕ) : Type 0 where
  pub within : left ≤ length splices
  pub items : now ≡ spliced_by old (drop left splices)
  pub room : come_count (take left splices) ≤ spare
  pub spent : start ≤ spare + come_count (drop left splices)

lie-behind : (from to : ℕ) (splices : List Splice) (i : ℕ) (splice : Splice) → i < length splices → splice ≡ get_or splices i splice → LieBetween from to splices →
    LieBetween (splice.at + splice.removed) to (drop (suc i) splices)
lie-behind from to [] i splice below is h = absurd (omega arith)
lie-behind from to (one ∷ more) zero splice below is h = subst (λ s. LieBetween (s.at + s.removed) to more) (sym is) h.1
lie-behind from to (one ∷ more) (suc i) splice below is h = lie-behind (one.at + one.removed) to more i splice (omega arith) is h.1

come-take : (splices : List Splice) (i : ℕ) (splice : Splice) → i < length splices → splice ≡ get_or splices i splice → come_count (take (suc i) splices) ≡ come_count (take i splices) + length splice.items
come-take [] i splice below is = absurd (omega arith)
come-take (one ∷ more) zero splice below is = let e : length one.items ≡ length splice.items = ap (λ (s : Splice). length s.items) (sym is) in omega arith
come-take (one ∷ more) (suc i) splice below is = let rest = come-take more i splice (omega arith) is in omega arith

splice-at : (splices : List Splice) (i : ℕ) (splice : Splice) → i < length splices → splice ≡ get_or splices i splice → drop i splices ≡ splice ∷ drop (suc i) splices
splice-at splices i splice below is =
    let next : i + 1 ≡ suc i = omega arith in
    drop_more splices i splice below ∙ ap (λ s. s ∷ drop (i + 1) splices) (sym is) ∙ ap (λ n. splice ∷ drop n splices) next

module _ (old now : List Item) (start spare left i : ℕ) (splices : List Splice) (splice : Splice) (made : AreMade old now start spare splices left) (next : left ≡ suc i) (is : splice ≡ get_or splices i splice) where
  -- the next one is the list's
  pub made-fits : LieBetween 0 (length old) splices → splice.at + splice.removed ≤ length now
  made-fits lie =
      let below : i < length splices = omega (arith, made.within) in
      let long = spliced-long (splice.at + splice.removed) (length old) old (drop (suc i) splices) (lie-behind 0 (length old) splices i splice below is lie) (omega arith) in
      let same : length now ≡ length (spliced_by old (drop (suc i) splices)) = ap length made.items ∙ ap (λ n. length (spliced_by old (drop n splices))) next in
      omega arith

  -- there is room for it
  pub made-room : length splice.items ≤ spare
  made-room =
      let below : i < length splices = omega (arith, made.within) in
      let all : come_count (take left splices) ≡ come_count (take i splices) + length splice.items = ap (λ n. come_count (take n splices)) next ∙ come-take splices i splice below is in
      omega (arith, made.room)

  pub made-next : (new : List Item) (spare' : ℕ) → new ≡ spliced now splice.at splice.removed splice.items → spare' ≡ spare - length splice.items → AreMade old new start spare' splices i
  made-next new spare' e f =
      let below : i < length splices = omega (arith, made.within) in
      let all : come_count (take left splices) ≡ come_count (take i splices) + length splice.items = ap (λ n. come_count (take n splices)) next ∙ come-take splices i splice below is in
      record {
        within = omega arith;
        items = e ∙ ap (λ l. spliced l splice.at splice.removed splice.items) (made.items ∙ ap (λ n. spliced_by old (drop n splices)) next)
            ∙ ap (spliced_by old) (sym (splice-at splices i splice below is));
        room = omega (arith, made.room);
        spent = let here : come_count (drop i splices) ≡ length splice.items + come_count (drop (suc i) splices) = ap come_count (splice-at splices i splice below is) in
            let before : come_count (drop left splices) ≡ come_count (drop (suc i) splices) = ap (λ n. come_count (drop n splices)) next in
            omega (arith, made.spent);
      }
