-- Transactions as joining has moved them so far: each keeps its operations, between the ends of a
-- span. By value each reads a list of values of its own.
use Rattle.std.specs.Prelude.{◌≡◌, ℕ, true, List, [], ◌∷◌, ◌++◌, length, map, take, drop, All, Result, Ok, Err}
use Rattle.ve_base.specs.Limits.{max_total_length}
use Rattle.ve_base.specs.declared.value.Value.{Value}
use Rattle.model_change.specs.Transaction.{Transaction, all_inserted, is_reduced}
use Rattle.model_change.specs.Join.{core, join_row, join_list, RangeConflict}
use Rattle.ve_tx.specs.Operation.{Operation, by_value}
use Rattle.ve_rebase.specs.declared.shifted.Shifted.{Shifted}
use Rattle.ve_rebase.specs.declared.span.ActiveSpan.{ActiveSpan}
use Rattle.ve_rebase.specs.Span.{span_of, old_size, new_size}
use Rattle.ve_rebase.specs.Pair.{FitsIn, between}
use Rattle.ve_rebase.specs.Lists.{zipped}

-- a transaction between the ends of a span: reduced, of the same middle, inserting as much, and the
-- span is its own
pub record StandsIn (s : ActiveSpan) (t : Transaction) : Type 0 where
  pub reduced : is_reduced (between s t) ≡ true
  pub middle : core (between s t) ≡ core t
  pub span : span_of (between s t) ≡ s
  pub inserts : length (all_inserted (between s t)) ≡ length (all_inserted t)

-- whatever values the operations cite
pub record MayMove (s : ActiveSpan) (tx : List Operation) : Type 0 where
  pub fits : FitsIn max_total_length s
  pub stands : (values : List Value) → StandsIn s (by_value values tx)

abbrev pub IsShifted : Shifted → Type 0
IsShifted one = MayMove one.span one.tx.now

abbrev pub shifted_by_value : List Value → Shifted → Transaction
shifted_by_value values one = between one.span (by_value values one.tx.now)

abbrev pub all_by_value : List (List Value) → List Shifted → List Transaction
all_by_value = zipped shifted_by_value

abbrev pub operations : Shifted → List Operation
operations one = one.tx.now

-- each is on lists as long as those that the one before it gives, and the first on lists of n items
abbrev pub FollowFrom : ℕ → List Shifted → Type 0
FollowFrom n [] = Unit {0}
FollowFrom n (one ∷ others) = (old_size one.span ≡ n) × FollowFrom (new_size one.span) others

-- the length of the lists that they give, the first on lists of n items
abbrev pub length_after : ℕ → List Shifted → ℕ
length_after n [] = n
length_after n (one ∷ others) = length_after (new_size one.span) others

-- both from lists of one length
pub record StartTogether (committed mine : List Shifted) : Type 0 where
  pub length : ℕ
  pub committed_follow : FollowFrom length committed
  pub mine_follow : FollowFrom length mine

-- one joined with one, with a row of them, and a list with a list, by value
abbrev pub joined_pair : (values others : List Value) (a b : Shifted) → Result (List Transaction × Transaction) RangeConflict
joined_pair values others a b = join_row (shifted_by_value values a ∷ []) (shifted_by_value others b)

abbrev pub joined_row : (values : List (List Value)) (others : List Value) (committed : List Shifted) (mine : Shifted) →
    Result (List Transaction × Transaction) RangeConflict
joined_row values others committed mine = join_row (all_by_value values committed) (shifted_by_value others mine)

abbrev pub joined_rows : (values : List (List Value)) (others : List Value) (committed mine : List Shifted) →
    Result (List Transaction × List Transaction) RangeConflict
joined_rows values others committed mine = join_list (all_by_value values committed) (map (shifted_by_value others) mine)

-- two on lists of one length, joined: their spans then
pub record ArePaired (a b : Shifted) (s r : ActiveSpan) : Type 0 where
  pub joined : (values others : List Value) →
      joined_pair values others a b ≡ Ok (between s (by_value values a.tx.now) ∷ [], between r (by_value others b.tx.now))
  pub first : MayMove s a.tx.now
  pub second : MayMove r b.tx.now
  pub first_length : old_size s ≡ new_size b.span
  pub second_length : old_size r ≡ new_size a.span
  pub one_length : new_size s ≡ new_size r

-- a committed one joined with mine: it is the same transaction, and the span is that of mine
pub record IsOver (one mine over : Shifted) (span : ActiveSpan) : Type 0 where
  pub same : over ≡ record one { span = over.span }
  pub paired : ArePaired one mine over.span span

-- a row joined: the committed ones over mine, and the span of mine over them
pub record IsRow (committed : List Shifted) (mine : Shifted) (over : List Shifted) (span : ActiveSpan) : Type 0 where
  pub joined : (values : List (List Value)) (others : List Value) →
      joined_row values others committed mine ≡ Ok (all_by_value values over, between span (by_value others mine.tx.now))
  pub kept : map operations over ≡ map operations committed
  pub shifted : All IsShifted over
  pub follow : FollowFrom (new_size mine.span) over
  pub mine_shifted : MayMove span mine.tx.now
  -- mine then is on the list that the committed ones give, and gives the list that they do over it
  pub old_end : old_size span ≡ length_after (old_size mine.span) committed
  pub new_end : new_size span ≡ length_after (new_size mine.span) over

-- ---- how far a row is joined: for private functions

-- another span for the same transaction
abbrev pub with_span : Shifted → ActiveSpan → Shifted
with_span one span = record one { span = span }

-- a row after what is joined of it
abbrev pub row_after : List Transaction → Result (List Transaction × Transaction) RangeConflict → Result (List Transaction × Transaction) RangeConflict
row_after done (Ok row) = Ok (done ++ row.0, row.1)
row_after done (Err clash) = Err clash

-- how far a row is joined: the ones before an index are over mine, whose span is this one by then
pub record RowSoFar (old now : List Shifted) (mine : Shifted) (span : ActiveSpan) (i : ℕ) : Type 0 where
  pub kept : map operations now ≡ map operations old
  pub shifted : All IsShifted now
  pub mine_shifted : MayMove span mine.tx.now
  pub done : (more : List Shifted) → FollowFrom (new_size span) more → FollowFrom (new_size mine.span) (take i now ++ more)
  pub left : FollowFrom (old_size span) (drop i now)
  pub old_end : length_after (old_size span) (drop i now) ≡ length_after (old_size mine.span) old
  pub new_end : length_after (new_size mine.span) (take i now) ≡ new_size span
  pub joined : (values : List (List Value)) (others : List Value) →
      join_row (all_by_value values old) (shifted_by_value others mine)
      ≡ row_after (all_by_value values (take i now)) (join_row (all_by_value (drop i values) (drop i now)) (between span (by_value others mine.tx.now)))

-- some row is joined so far, of which this is mine by then
abbrev pub IsRowUnderWay : (now : List Shifted) (mine : Shifted) → ℕ → Type 0
IsRowUnderWay now mine i = (old : List Shifted) × (start : ActiveSpan) × RowSoFar old now (with_span mine start) mine.span i

-- all rows joined
pub record AreRows (committed mine over mine_over : List Shifted) : Type 0 where
  pub joined : (values : List (List Value)) (others : List Value) →
      joined_rows values others committed mine ≡ Ok (all_by_value values over, map (shifted_by_value others) mine_over)
  pub kept : map operations over ≡ map operations committed
  pub mine_kept : map operations mine_over ≡ map operations mine
  pub shifted : All IsShifted over
  pub mine_shifted : All IsShifted mine_over
  -- the committed ones are on lists as mine give
  pub follow : (n : ℕ) → FollowFrom n committed → FollowFrom n mine → FollowFrom (length_after n mine) over
  -- and mine on lists as the committed ones give
  pub mine_follow : (n : ℕ) → FollowFrom n committed → FollowFrom n mine → FollowFrom (length_after n committed) mine_over

-- these operations are the shifted ones, written out
abbrev pub AreWritten : List (List Operation) → List Shifted → Type 0
AreWritten [] [] = Unit {0}
AreWritten (tx ∷ txs) (one ∷ others) = ((values : List Value) → by_value values tx ≡ shifted_by_value values one) × AreWritten txs others
AreWritten [] (one ∷ others) = ⊥
AreWritten (tx ∷ txs) [] = ⊥
