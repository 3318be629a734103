-- Spans: where a transaction's active range lies, what stays before and after it, and how much
-- longer it makes the list. Joining asks nothing else of it, and nothing else of it changes.
use Rattle.std.specs.Prelude.{◌≡◌, ◌≤◌, ℕ, ◌+◌, ◌-◌, Bool, false, not, ◌&&◌, nat_le, if◌then◌else◌}
use Rattle.ve_base.specs.Limits.{max_total_length}
use Rattle.model_change.specs.Transaction.{Transaction, old_length, new_length}
use Rattle.model_change.specs.Join.{first, last, core, reach, is_active, is_attribute_transaction}
use Rattle.ve_rebase.specs.declared.span.ActiveSpan.{ActiveSpan}

abbrev pub span_of : Transaction → ActiveSpan
span_of t = record {
  active = is_active t;
  attributes = is_attribute_transaction t;
  first = first t;
  reach = reach (core t);
  last = last t;
  removed = old_length (core t);
  inserted = new_length (core t);
}

abbrev pub old_size : ActiveSpan → ℕ
old_size s = s.first + (s.removed + s.last)

abbrev pub new_size : ActiveSpan → ℕ
new_size s = s.first + (s.inserted + s.last)

abbrev pub end : ActiveSpan → ℕ
end s = s.first + s.reach

-- between other ends; without an active range all is one first retain
abbrev pub span_between : ActiveSpan → ℕ → ℕ → ActiveSpan
span_between s first last = record s { first = first; last = last }

abbrev pub inert : ℕ → ActiveSpan
inert n = record { active = false; attributes = false; first = n; reach = 0; last = 0; removed = 0; inserted = 0 }

-- how many items stay on that side where another one is active, once that other one is done
abbrev pub moved_by : ActiveSpan → ℕ → ℕ
moved_by other count = (count + new_size other) - old_size other

-- the first and the second of two, joined, where they do not conflict
abbrev pub joined_first : ActiveSpan → ActiveSpan → ActiveSpan
joined_first a b =
    if a.attributes && b.attributes then a
    else (if not a.active then inert (new_size b)
    else (if not b.active then a
    else (if nat_le (end a) b.first
    then span_between a a.first (moved_by b a.last)
    else span_between a (moved_by b a.first) a.last)))

abbrev pub joined_second : ActiveSpan → ActiveSpan → ActiveSpan
joined_second a b =
    if a.attributes && b.attributes then b
    else (if not a.active then b
    else (if not b.active then inert (new_size a)
    else (if nat_le (end a) b.first
    then span_between b (moved_by a b.first) b.last
    else span_between b b.first (moved_by a b.last))))

-- the ranges overlap
abbrev pub meet : ActiveSpan → ActiveSpan → Bool
meet a b = (a.active && b.active) && (not (nat_le (end a) b.first) && not (nat_le (end b) a.first))

-- two whose ranges lie apart, joined: what the first one gives is short enough
pub record AreJoinedApart (a b s r : ActiveSpan) : Type 0 where
  pub apart : meet a b ≡ false
  pub first : s ≡ joined_first a b
  pub second : r ≡ joined_second a b
  pub short : new_size s ≤ max_total_length
