use Rattle.std.proofs.Common.{◌≡◌, ◌<◌, ℕ, List, sum, leb, true, false, subst, sym, rules}
use Rattle.std.specs.List.Sorted.{IsNonDecreasingBy, IsPartitionPoint}
use Rattle.std.proofs.lemmas.List.Sorted.{IsPartitionPoint-from_clause, IsPartitionedBy-leb}
use Rattle.ve_lengths.proofs.GroupLemmas.{starts_rise, some_start, last_start}
use Rattle.ve_lengths.proofs.lengths.Lengths.group_at.Goals as goal

pub overflow_sub-group : goal.overflow_sub-group
overflow_sub-group c =
    let i = c.self.inside in
    let rise = subst (λ (l : List ℕ). IsNonDecreasingBy (λ (s : ℕ). s) l) (sym c.deref.ensures.value) (starts_rise i.lens.items i.starts.items i.total c.self.invariant.0) in
    let there = IsPartitionPoint-from_clause (λ (s : ℕ). leb s c.args.at) c.deref.result.now _ c.partition_point-group.ensures.partitioned
    (IsPartitionedBy-leb (λ (s : ℕ). s) c.deref.result.now c.args.at rise) (λ a r q k. search rules) in
    let point = subst (λ (l : List ℕ). IsPartitionPoint (λ (s : ℕ). leb s c.args.at ≡ true) (λ (s : ℕ). leb s c.args.at ≡ false) l c.partition_point-group.result) c.deref.ensures.value there in
    some_start i.lens.items i.starts.items i.total c.args.at c.partition_point-group.result c.self.invariant.0 point (subst (λ v. c.args.at < sum v.lens) (sym c.self.view_is) c.requires)

pub returns-clause-before : goal.returns-clause-before
returns-clause-before c =
    let i = c.self.inside in
    let rise = subst (λ (l : List ℕ). IsNonDecreasingBy (λ (s : ℕ). s) l) (sym c.deref.ensures.value) (starts_rise i.lens.items i.starts.items i.total c.self.invariant.0) in
    let there = IsPartitionPoint-from_clause (λ (s : ℕ). leb s c.args.at) c.deref.result.now _ c.partition_point-group.ensures.partitioned
    (IsPartitionedBy-leb (λ (s : ℕ). s) c.deref.result.now c.args.at rise) (λ a r q k. search rules) in
    let point = subst (λ (l : List ℕ). IsPartitionPoint (λ (s : ℕ). leb s c.args.at ≡ true) (λ (s : ℕ). leb s c.args.at ≡ false) l c.partition_point-group.result) c.deref.ensures.value there in
    last_start i.lens.items i.starts.items i.total c.args.at c.partition_point-group.result c.self.invariant.0 point c.index.result.now c.index.ensures
    (some_start i.lens.items i.starts.items i.total c.args.at c.partition_point-group.result c.self.invariant.0 point (subst (λ v. c.args.at < sum v.lens) (sym c.self.view_is) c.requires))
