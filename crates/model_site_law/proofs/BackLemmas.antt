-- An entry that was taken back counts no more.
use Rattle.std.proofs.Common.{◌≡◌, ◌<◌, ℕ, zero, suc, ◌+◌, Bool, true, false, not, ◌&&◌, ◌==◌, if◌then◌else◌, List, [], ◌∷◌, ◌++◌, length, drop, Option, Some, None, is_some, Ok, Err, refl, sym, ap, ◌∙◌, append_assoc, append-nil, arith}
use Rattle.std.proofs.lemmas.Bool.{and_from}
use Rattle.std.proofs.lemmas.List.{length-drop}
use Rattle.model_items.specs.Same.{item_same, list_same, option_same, text_same}
use Rattle.model_items.proofs.SameLemmas.{Means-item_same, Means-list_same, Means-nat, Means-option_same, Means-text_same}
use Rattle.model_change.specs.Attributes.{AttrChange}
use Rattle.model_change.specs.Join.{join_list}
use Rattle.model_change.specs.Replay.{flattened, reversal}
use Rattle.model_change.specs.Transaction.{Attribute, Op, Replace, Retain, Transaction}
use Rattle.model_site.specs.Entries.{Parcel}
use Rattle.model_site.specs.Live.{Hinted, Standing, all_alike, all_standing, change_alike, hinted, is_back, left_by, left_without, live, live_from, op_alike, stand, with_txs, without}
use Rattle.model_site_law.specs.LiveLaws.{TakenBackCountsNoMore, own_of}
use Rattle.model_site_law.proofs.AcceptLemmas.{joins_in_parts}
use Rattle.model_site_law.proofs.LiveLemmas.{all_standing-append, not_back, under_live-ok}

-- ---- transactions are alike to themselves

list_itself : {A : Type 0} (same : A → A → Bool) → ((x : A) → same x x ≡ true) → (xs : List A) → list_same same xs xs ≡ true
list_itself same itself [] = refl
list_itself same itself (x ∷ xs) = and_from (same x x) (list_same same xs xs) (itself x) (list_itself same itself xs)

kept_itself : (b : Bool) (kept : Option ℕ) → (if b then true else option_same (λ x y. x == y) kept kept) ≡ true
kept_itself true kept = refl
kept_itself false kept = (Means-option_same (λ (x y : ℕ). x == y) Means-nat).itself kept

change_itself : (c : AttrChange) → change_alike c c ≡ true
change_itself c =
    let value = Means-option_same text_same Means-text_same in
    and_from (text_same c.name c.name) _ (Means-text_same.itself c.name)
    (and_from (option_same text_same c.from c.from) _ (value.itself c.from)
    (and_from (option_same text_same c.to c.to) _ (value.itself c.to) (kept_itself (is_some c.from && not (is_some c.to)) c.kept)))

op_itself : (op : Op) → op_alike op op ≡ true
op_itself (Retain count) = Means-nat.itself count
op_itself (Replace removed inserted) =
    let same = Means-list_same item_same Means-item_same in
    and_from (list_same item_same removed removed) (list_same item_same inserted inserted) (same.itself removed) (same.itself inserted)
op_itself (Attribute change) = change_itself change

pub all_alike-itself : (ts : List Transaction) → all_alike ts ts ≡ true
all_alike-itself ts = list_itself (list_same op_alike) (λ t. list_itself op_alike op_itself t) ts

-- ---- a walk over entries in parts

live-append : (i : ℕ) (own : List Transaction) (n : ℕ) (entries more : List Hinted) (standing result : List Standing) → live_from i own n entries standing ≡ Ok result →
    live_from i own n (entries ++ more) standing ≡ live_from i own (n + length entries) more result
live-append i own n [] more standing result e =
    let same : standing ≡ result = cc in
    ap (live_from i own n more) same ∙ ap (λ k. live_from i own k more result) (let sum : n ≡ n + 0 = omega arith in sum)
live-append i own n (entry ∷ entries) more standing result e =
    let next = stand n entry standing in
    let p = not_back (is_back i own entry standing) n (live_from i own (suc n) entries next) result e in
    ap (λ b. if b then Err n else live_from i own (suc n) (entries ++ more) next) p.0
    ∙ live-append i own (suc n) entries more next result p.1
    ∙ ap (λ k. live_from i own k more result) (let sum : suc n + length entries ≡ n + suc (length entries) = omega arith in sum)

-- entries without hints count as they are
abbrev numbered : ℕ → List Parcel → List Standing
numbered n [] = []
numbered n (p ∷ ps) = record { number = n; txs = p } ∷ numbered (suc n) ps

numbered_are : (n : ℕ) (ps : List Parcel) → all_standing (numbered n ps) ≡ flattened ps
numbered_are n [] = refl
numbered_are n (p ∷ ps) = ap (λ r. p ++ r) (numbered_are (suc n) ps)

live-numbered : (i : ℕ) (own : List Transaction) (n : ℕ) (ps : List Parcel) (standing : List Standing) →
    live_from i own n (hinted ps []) standing ≡ Ok (standing ++ numbered n ps)
live-numbered i own n [] standing = ap (λ s. Ok s) (sym (append-nil standing))
live-numbered i own n (p ∷ ps) standing =
    live-numbered i own (suc n) ps (standing ++ record { number = n; txs = p } ∷ [])
    ∙ ap (λ s. Ok s) (append_assoc standing (record { number = n; txs = p } ∷ []) (numbered (suc n) ps))

length-hinted : (ps : List Parcel) → length (hinted ps []) ≡ length ps
length-hinted [] = refl
length-hinted (p ∷ ps) = ap (λ n. suc n) (length-hinted ps)

-- entry i and those after it, where more follow
pub record More (entries more : List Hinted) (i : ℕ) : Type 0 where
  pub own : own_of (entries ++ more) i ≡ own_of entries i
  pub later : drop (suc i) (entries ++ more) ≡ drop (suc i) entries ++ more

pub with_more : (entries more : List Hinted) (i : ℕ) → i < length entries → More entries more i
with_more [] more i l = absurd (omega (arith, l))
with_more (entry ∷ entries) more zero l = record { own = refl; later = refl }
with_more (entry ∷ entries) more (suc i) l = let rest = with_more entries more i (omega (arith, l)) in record { own = rest.own; later = rest.later }

-- what counts where more follow
pub live-more : (entries more : List Hinted) (i : ℕ) (standing : List Standing) → i < length entries → live entries i ≡ Ok standing →
    live (entries ++ more) i ≡ live_from i (own_of entries i) (length entries) more standing
live-more entries more i standing l e =
    let m = with_more entries more i l in
    let own = own_of entries i in
    let long : suc i + length (drop (suc i) entries) ≡ length entries = (let d = length-drop (suc i) entries in omega arith) in
    ap (λ o. live_from i o (suc i) (drop (suc i) (entries ++ more)) []) m.own
    ∙ ap (λ r. live_from i own (suc i) r []) m.later
    ∙ live-append i own (suc i) (drop (suc i) entries) more [] standing e
    ∙ ap (λ k. live_from i own k more standing) long

-- ---- an entry that was taken back

is_taken : (i n : ℕ) (own back without : List Transaction) (standing : List Standing) → join_list (all_standing standing) (reversal own) ≡ Ok (without, back) →
    live_from i own n (record { txs = back; takes_back = Some i } ∷ []) standing ≡ Err n
is_taken i n own back without standing joined =
    ap (λ b. if b then Err n else live_from i own (suc n) [] (stand n (record { txs = back; takes_back = Some i }) standing))
    (and_from (i == i) (is_some (left_without back own standing)) (Means-nat.itself i) some)
  where
    some : is_some (left_without back own standing) ≡ true
    some = ap (λ j. is_some (left_by back j standing)) joined
        ∙ ap (λ b. is_some (if b then Some (with_txs without standing) else None)) (all_alike-itself back)

pub taken_back_counts_no_more : TakenBackCountsNoMore
taken_back_counts_no_more entries i back others joined l e d =
    let own = own_of entries i in
    let u = under_live-ok own (live entries i) back e in
    let n = length entries in
    let last : List Hinted = record { txs = joined.1; takes_back = Some i } ∷ [] in
    let counts : List Standing = u.standing ++ numbered n others in
    let all : all_standing counts ≡ all_standing u.standing ++ flattened others =
    all_standing-append u.standing (numbered n others) ∙ ap (λ r. all_standing u.standing ++ r) (numbered_are n others) in
    let both = joins_in_parts (all_standing u.standing) (flattened others) (reversal own) (u.without, back) joined u.joined d in
    let both_count : join_list (all_standing counts) (reversal own) ≡ Ok (u.without ++ joined.0, joined.1) = ap (λ ts. join_list ts (reversal own)) all ∙ both in
    live-more entries (hinted others [] ++ last) i u.standing l u.counts
    ∙ live-append i own n (hinted others []) last u.standing counts (live-numbered i own n others u.standing)
    ∙ ap (λ k. live_from i own k last counts) (ap (λ k. n + k) (length-hinted others))
    ∙ is_taken i (n + length others) own joined.1 (u.without ++ joined.0) counts both_count
