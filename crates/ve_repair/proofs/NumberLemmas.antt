-- The numbers of the new tree's nodes.
use Rattle.std.proofs.Common.{ℕ, List, [], ◌∷◌, ◌++◌, sym, subst}
use Rattle.ve_tree.specs.Links.{Apart, AllApart}
use Rattle.ve_repair.specs.Work.{inner, Keep, Drop, Put, Step, Enter, Leave, Text, Count}
use Rattle.ve_repair.specs.Tokens.{Token, Begin, Letters, End, Grown, grown, grown_by, none, start, old_side, new_side, puts, drops, Free, work_at}
use Rattle.ve_repair.specs.Spelled.{AllFrom}
use Rattle.ve_repair.specs.Ready.{nums}
use Rattle.ve_repair.specs.Numbers.{NumbersAreNew}
use Rattle.ve_repair.proofs.RelinkLemmas.{apart-ls, apart-rs, apart-join, all-rs}
use Rattle.ve_repair.proofs.TokenLemmas.{apart-with}
use Rattle.ve_repair.proofs.ReadyLemmas.{NewTo, new_to, all_from, none_from, nums-append}

-- each number new to those before it makes all distinct
later_apart : (n : ℕ) (past ns : List ℕ) → NewTo (n ∷ past) ns → Apart n ns
later_apart n past [] h = tt
later_apart n past (m ∷ ns) h = (λ e. h.0.0 (sym e), later_apart n past ns (skip m ns h.1))
  where
    less : (k : ℕ) (small big ns : List ℕ) → ((q : ℕ) → Apart q big → Apart q small) → NewTo big ns → NewTo small ns
    less k small big [] w h = tt
    less k small big (m ∷ ns) w h = (w m h.0, less k (m ∷ small) (m ∷ big) ns (λ q a. (a.0, w q a.1)) h.1)

    skip : (m : ℕ) (ns : List ℕ) → NewTo (m ∷ n ∷ past) ns → NewTo (n ∷ past) ns
    skip m ns h = less m (n ∷ past) (m ∷ n ∷ past) ns (λ q a. a.1) h

distinct : (past ns : List ℕ) → NewTo past ns → AllApart ns
distinct past [] h = tt
distinct past (n ∷ ns) h = (later_apart n past ns h.1, distinct (n ∷ past) ns h.1)

-- none of the first is one of the second: the other way round
none_is : (n : ℕ) (ns rest : List ℕ) → AllFrom ns (n ∷ rest) → Apart n ns
none_is n [] rest h = tt
none_is n (m ∷ ns) rest h = (λ e. h.0.0 (sym e), none_is n ns rest h.1)

from_rest : (n : ℕ) (ns rest : List ℕ) → AllFrom ns (n ∷ rest) → AllFrom ns rest
from_rest n [] rest h = tt
from_rest n (m ∷ ns) rest h = (h.0.1, from_rest n ns rest h.1)

pub from_swap : (ns ms : List ℕ) → AllFrom ns ms → AllFrom ms ns
from_swap ns [] h = tt
from_swap ns (m ∷ ms) h = (none_is m ns ms h, from_swap ns ms (from_rest m ns ms h))

-- numbers of what is right of the script
same_right : (ns P V Q : List ℕ) → NewTo P ns → AllFrom ns V → ((q : ℕ) → Apart q P → Apart q V → Apart q Q) → NewTo Q ns
same_right [] P V Q new from inv = tt
same_right (n ∷ ns) P V Q new from inv = (inv n new.0 from.0, same_right ns (n ∷ P) V (n ∷ Q) new.1 from.1 (λ q a b. (a.0, inv q a.1 b)))

-- P: old numbers passed; V: made ones used; Q: new numbers so far
record Passing (S : List Step) (ts : List Token) (P V Q : List ℕ) : Type 0 where
  olds_new : NewTo P (nums (old_side S ts))
  puts_new : NewTo V (puts S)
  olds_used : AllFrom (nums (old_side S ts)) V
  olds_puts : AllFrom (nums (old_side S ts)) (puts S)
  puts_olds : AllFrom (puts S) P
  inv : (q : ℕ) → Apart q P → Apart q V → Apart q Q

kept_on : (n : ℕ) (S : List Step) (ts : List Token) (P V Q : List ℕ) → NewTo P (n ∷ nums (old_side S ts)) → NewTo V (puts S) → AllFrom (n ∷ nums (old_side S ts)) V →
    AllFrom (n ∷ nums (old_side S ts)) (puts S) → AllFrom (puts S) P → ((q : ℕ) → Apart q P → Apart q V → Apart q Q) → Passing S ts (n ∷ P) V (n ∷ Q)
kept_on n S ts P V Q new puts_ used olds from inv = record {
  olds_new = new.1;
  puts_new = puts_;
  olds_used = used.1;
  olds_puts = olds.1;
  puts_olds = all_from n P (puts S) olds.0 from;
  inv = λ q a b. (a.0, inv q a.1 b);
}

cut_on : (n : ℕ) (S : List Step) (ts : List Token) (P V Q : List ℕ) → NewTo P (n ∷ nums (old_side S ts)) → NewTo V (puts S) → AllFrom (n ∷ nums (old_side S ts)) V →
    AllFrom (n ∷ nums (old_side S ts)) (puts S) → AllFrom (puts S) P → ((q : ℕ) → Apart q P → Apart q V → Apart q Q) → Passing S ts (n ∷ P) V Q
cut_on n S ts P V Q new puts_ used olds from inv = record {
  olds_new = new.1;
  puts_new = puts_;
  olds_used = used.1;
  olds_puts = olds.1;
  puts_olds = all_from n P (puts S) olds.0 from;
  inv = λ q a b. inv q a.1 b;
}

put_on : (n : ℕ) (S : List Step) (ts : List Token) (P V Q : List ℕ) → NewTo P (nums (old_side S ts)) → NewTo V (n ∷ puts S) → AllFrom (nums (old_side S ts)) V →
    AllFrom (nums (old_side S ts)) (n ∷ puts S) → AllFrom (n ∷ puts S) P → ((q : ℕ) → Apart q P → Apart q V → Apart q Q) → Passing S ts P (n ∷ V) (n ∷ Q)
put_on n S ts P V Q new puts_ used olds from inv = record {
  olds_new = new;
  puts_new = puts_.1;
  olds_used = all_from n V (nums (old_side S ts)) (none_is n (nums (old_side S ts)) (puts S) olds) used;
  olds_puts = from_rest n (nums (old_side S ts)) (puts S) olds;
  puts_olds = from.1;
  inv = λ q a b. (b.0, inv q a b.1);
}

new_numbers : (S : List Step) (ts : List Token) (P V Q : List ℕ) → Passing S ts P V Q → NewTo Q (nums (new_side S ts))
new_numbers [] ts P V Q h = same_right (nums ts) P V Q h.olds_new h.olds_used h.inv
new_numbers (Enter Keep n ∷ S) ts P V Q h =
    (h.inv n h.olds_new.0 h.olds_used.0, new_numbers S ts (n ∷ P) V (n ∷ Q) (kept_on n S ts P V Q h.olds_new h.puts_new h.olds_used h.olds_puts h.puts_olds h.inv))
new_numbers (Enter Drop n ∷ S) ts P V Q h = new_numbers S ts (n ∷ P) V Q (cut_on n S ts P V Q h.olds_new h.puts_new h.olds_used h.olds_puts h.puts_olds h.inv)
new_numbers (Enter Put n ∷ S) ts P V Q h =
    (h.inv n h.puts_olds.0 h.puts_new.0, new_numbers S ts P (n ∷ V) (n ∷ Q) (put_on n S ts P V Q h.olds_new h.puts_new h.olds_used h.olds_puts h.puts_olds h.inv))
new_numbers (Leave Keep ∷ S) ts P V Q h = new_numbers S ts P V Q (record { olds_new = h.olds_new; puts_new = h.puts_new; olds_used = h.olds_used; olds_puts = h.olds_puts; puts_olds = h.puts_olds; inv = h.inv })
new_numbers (Leave Drop ∷ S) ts P V Q h = new_numbers S ts P V Q (record { olds_new = h.olds_new; puts_new = h.puts_new; olds_used = h.olds_used; olds_puts = h.olds_puts; puts_olds = h.puts_olds; inv = h.inv })
new_numbers (Leave Put ∷ S) ts P V Q h = new_numbers S ts P V Q (record { olds_new = h.olds_new; puts_new = h.puts_new; olds_used = h.olds_used; olds_puts = h.olds_puts; puts_olds = h.puts_olds; inv = h.inv })
new_numbers (Text Keep n ∷ S) ts P V Q h =
    (h.inv n h.olds_new.0 h.olds_used.0, new_numbers S ts (n ∷ P) V (n ∷ Q) (kept_on n S ts P V Q h.olds_new h.puts_new h.olds_used h.olds_puts h.puts_olds h.inv))
new_numbers (Text Drop n ∷ S) ts P V Q h = new_numbers S ts (n ∷ P) V Q (cut_on n S ts P V Q h.olds_new h.puts_new h.olds_used h.olds_puts h.puts_olds h.inv)
new_numbers (Text Put n ∷ S) ts P V Q h =
    (h.inv n h.puts_olds.0 h.puts_new.0, new_numbers S ts P (n ∷ V) (n ∷ Q) (put_on n S ts P V Q h.olds_new h.puts_new h.olds_used h.olds_puts h.puts_olds h.inv))
new_numbers (Count n count ∷ S) ts P V Q h = new_numbers S ts P V Q (record { olds_new = h.olds_new; puts_new = h.puts_new; olds_used = h.olds_used; olds_puts = h.olds_puts; puts_olds = h.puts_olds; inv = h.inv })

-- a number that is neither an old one nor made is none of the new ones
apart_new : (S : List Step) (ts : List Token) (n : ℕ) → Apart n (nums (old_side S ts)) → Apart n (puts S) → Apart n (nums (new_side S ts))
apart_new [] ts n a b = a
apart_new (Enter Keep m ∷ S) ts n a b = (a.0, apart_new S ts n a.1 b)
apart_new (Enter Drop m ∷ S) ts n a b = apart_new S ts n a.1 b
apart_new (Enter Put m ∷ S) ts n a b = (b.0, apart_new S ts n a b.1)
apart_new (Leave Keep ∷ S) ts n a b = apart_new S ts n a b
apart_new (Leave Drop ∷ S) ts n a b = apart_new S ts n a b
apart_new (Leave Put ∷ S) ts n a b = apart_new S ts n a b
apart_new (Text Keep m ∷ S) ts n a b = (a.0, apart_new S ts n a.1 b)
apart_new (Text Drop m ∷ S) ts n a b = apart_new S ts n a.1 b
apart_new (Text Put m ∷ S) ts n a b = (b.0, apart_new S ts n a b.1)
apart_new (Count m count ∷ S) ts n a b = apart_new S ts n a b

-- what goes is of the old ones
pub apart_drops : (S : List Step) (ts : List Token) (n : ℕ) → Apart n (nums (old_side S ts)) → Apart n (drops S)
apart_drops [] ts n a = tt
apart_drops (Enter Keep m ∷ S) ts n a = apart_drops S ts n a.1
apart_drops (Enter Drop m ∷ S) ts n a = (a.0, apart_drops S ts n a.1)
apart_drops (Enter Put m ∷ S) ts n a = apart_drops S ts n a
apart_drops (Leave Keep ∷ S) ts n a = apart_drops S ts n a
apart_drops (Leave Drop ∷ S) ts n a = apart_drops S ts n a
apart_drops (Leave Put ∷ S) ts n a = apart_drops S ts n a
apart_drops (Text Keep m ∷ S) ts n a = apart_drops S ts n a.1
apart_drops (Text Drop m ∷ S) ts n a = (a.0, apart_drops S ts n a.1)
apart_drops (Text Put m ∷ S) ts n a = apart_drops S ts n a
apart_drops (Count m count ∷ S) ts n a = apart_drops S ts n a

drops_from : (pre : List ℕ) (S : List Step) (ts : List Token) → AllFrom pre (nums (old_side S ts)) → AllFrom (drops S) pre
drops_from pre S ts h = from_swap pre (drops S) (each pre h)
  where
    each : (pre : List ℕ) → AllFrom pre (nums (old_side S ts)) → AllFrom pre (drops S)
    each [] h = tt
    each (n ∷ pre) h = (apart_drops S ts n h.0, each pre h.1)

-- and none of the new ones
drops_new : (S : List Step) (ts : List Token) → AllApart (nums (old_side S ts)) → AllFrom (nums (old_side S ts)) (puts S) → AllFrom (drops S) (nums (new_side S ts))
drops_new [] ts a o = tt
drops_new (Enter Keep m ∷ S) ts a o = all_from m (nums (new_side S ts)) (drops S) (apart_drops S ts m a.0) (drops_new S ts a.1 o.1)
drops_new (Enter Drop m ∷ S) ts a o = (apart_new S ts m a.0 o.0, drops_new S ts a.1 o.1)
drops_new (Enter Put m ∷ S) ts a o =
    all_from m (nums (new_side S ts)) (drops S) (apart_drops S ts m (none_is m (nums (old_side S ts)) (puts S) o)) (drops_new S ts a (from_rest m (nums (old_side S ts)) (puts S) o))
drops_new (Leave Keep ∷ S) ts a o = drops_new S ts a o
drops_new (Leave Drop ∷ S) ts a o = drops_new S ts a o
drops_new (Leave Put ∷ S) ts a o = drops_new S ts a o
drops_new (Text Keep m ∷ S) ts a o = all_from m (nums (new_side S ts)) (drops S) (apart_drops S ts m a.0) (drops_new S ts a.1 o.1)
drops_new (Text Drop m ∷ S) ts a o = (apart_new S ts m a.0 o.0, drops_new S ts a.1 o.1)
drops_new (Text Put m ∷ S) ts a o =
    all_from m (nums (new_side S ts)) (drops S) (apart_drops S ts m (none_is m (nums (old_side S ts)) (puts S) o)) (drops_new S ts a (from_rest m (nums (old_side S ts)) (puts S) o))
drops_new (Count m count ∷ S) ts a o = drops_new S ts a o

-- lists in two parts
from_join : (ds ms ns : List ℕ) → AllFrom ds ms → AllFrom ds ns → AllFrom ds (ms ++ ns)
from_join [] ms ns h g = tt
from_join (d ∷ ds) ms ns h g = (apart-join d ms ns h.0 g.0, from_join ds ms ns h.1 g.1)

pub from_ls : (ds ms ns : List ℕ) → AllFrom ds (ms ++ ns) → AllFrom ds ms
from_ls [] ms ns h = tt
from_ls (d ∷ ds) ms ns h = (apart-ls d ms ns h.0, from_ls ds ms ns h.1)

pub from_rs : (ds ms ns : List ℕ) → AllFrom ds (ms ++ ns) → AllFrom ds ns
from_rs [] ms ns h = tt
from_rs (d ∷ ds) ms ns h = (apart-rs d ms ns h.0, from_rs ds ms ns h.1)

pub parts_from : (ms ns : List ℕ) → AllApart (ms ++ ns) → AllFrom ms ns
parts_from [] ns h = tt
parts_from (m ∷ ms) ns h = (apart-rs m ms ns h.0, parts_from ms ns h.1)

all_join : (ms ns : List ℕ) → AllApart ms → AllApart ns → AllFrom ms ns → AllApart (ms ++ ns)
all_join [] ns h g f = g
all_join (m ∷ ms) ns h g f = (apart-join m ms ns h.0 f.0, all_join ms ns h.1 g f.1)

all_ls : (ms ns : List ℕ) → AllApart (ms ++ ns) → AllApart ms
all_ls [] ns h = tt
all_ls (m ∷ ms) ns h = (apart-ls m ms ns h.0, all_ls ms ns h.1)

apart_each : (ms : List ℕ) (S : List Step) (ts : List Token) → AllFrom ms (nums (old_side S ts)) → AllFrom (puts S) ms → AllFrom ms (nums (new_side S ts))
apart_each ms S ts h p = go ms h (from_swap (puts S) ms p)
  where
    go : (ms : List ℕ) → AllFrom ms (nums (old_side S ts)) → AllFrom ms (puts S) → AllFrom ms (nums (new_side S ts))
    go [] h p = tt
    go (m ∷ ms) h p = (apart_new S ts m h.0 p.0, go ms h.1 p.1)

-- nobody's
grown_absent : (ts : List Token) (g : Grown) (n : ℕ) → Apart n (nums ts) → ((q : ℕ) → Apart n (g.kids q)) → (q : ℕ) → Apart n ((grown ts g).kids q)
grown_absent [] g n h all q = all q
grown_absent (Begin m ∷ ts) g n h all q = grown_absent ts (grown_by (Begin m) g) n h.1 (apart-with n m g.kids (inner g.stack) h.0 all) q
grown_absent (Letters m ∷ ts) g n h all q = grown_absent ts (grown_by (Letters m) g) n h.1 (apart-with n m g.kids (inner g.stack) h.0 all) q
grown_absent (End ∷ ts) g n h all q = grown_absent ts (grown_by End g) n h all q

free_all : (ns : List ℕ) (lefts rest : List Token) (root : ℕ) → AllApart ns → AllFrom ns (nums lefts) → AllFrom ns (nums rest) →
    Free ns (work_at root lefts rest).done (work_at root lefts rest).rest
free_all [] lefts rest root a l r = tt
free_all (n ∷ ns) lefts rest root a l r = (
  a.0,
  grown_absent lefts (start root) n l.0 (λ q. tt),
  grown_absent rest (record { stack = (grown lefts (start root)).stack; kids = none }) n r.0 (λ q. tt),
  free_all ns lefts rest root a.1 l.1 r.1,
)

pub numbers_are_new : NumbersAreNew
numbers_are_new root lefts right script old made from = record {
  apart = subst (λ ns. AllApart (root ∷ ns)) (sym (nums-append lefts (new_side script right)))
      (all_join (root ∷ L) N (all_ls (root ∷ L) O olds) new_apart (apart_each (root ∷ L) script right before made_before));
  gone = subst (λ ns. AllFrom (drops script) (root ∷ ns)) (sym (nums-append lefts (new_side script right)))
      (from_join (drops script) (root ∷ L) N (drops_from (root ∷ L) script right before) (drops_new script right old_apart old_made));
  free = free_all (puts script) lefts (old_side script right) root made
      (from_rest root (puts script) L made_before) (from_rs (puts script) (root ∷ L) O made_all);
  root_free = none_is root (puts script) L made_before;
}
  where
    L : List ℕ
    L = nums lefts

    O : List ℕ
    O = nums (old_side script right)

    N : List ℕ
    N = nums (new_side script right)

    olds : AllApart ((root ∷ L) ++ O)
    olds = subst (λ ns. AllApart (root ∷ ns)) (nums-append lefts (old_side script right)) old

    made_all : AllFrom (puts script) ((root ∷ L) ++ O)
    made_all = subst (λ ns. AllFrom (puts script) (root ∷ ns)) (nums-append lefts (old_side script right)) from

    made_before : AllFrom (puts script) (root ∷ L)
    made_before = from_ls (puts script) (root ∷ L) O made_all

    before : AllFrom (root ∷ L) O
    before = parts_from (root ∷ L) O olds

    old_apart : AllApart O
    old_apart = all-rs (root ∷ L) O olds

    old_made : AllFrom O (puts script)
    old_made = from_swap (puts script) O (from_rs (puts script) (root ∷ L) O made_all)

    new_apart : AllApart N
    new_apart = distinct [] N (new_numbers script right [] [] [] (record {
      olds_new = new_to [] O old_apart (none_from O);
      puts_new = new_to [] (puts script) made (none_from (puts script));
      olds_used = none_from O;
      olds_puts = old_made;
      puts_olds = none_from (puts script);
      inv = λ q a b. tt;
    }))
