use Rattle.std.proofs.Common.{nat_le, rules}
use Rattle.std.proofs.lemmas.List.Sorted.{IsPartitionPoint-from_clause, IsPartitionedBy-leb}
use Rattle.long_list.proofs.StartLaws.{last_reached, some_start}
use Rattle.long_list.proofs.starts.chunk_at.Goals as goal

pub overflow_sub-result : goal.overflow_sub-result
overflow_sub-result c =
    let s = c.args.starts.now in
    some_start s c.args.at _ c.requires (IsPartitionPoint-from_clause (λ y. nat_le y c.args.at) s _ c.partition_point-after.ensures.partitioned (IsPartitionedBy-leb (λ y. y) s c.args.at c.requires.rise) (λ a r f called. search rules))

pub returns : goal.returns
returns c =
    let s = c.args.starts.now in
    last_reached s c.args.at _ c.requires c.partition_point-after.ensures.bound (IsPartitionPoint-from_clause (λ y. nat_le y c.args.at) s _ c.partition_point-after.ensures.partitioned (IsPartitionedBy-leb (λ y. y) s c.args.at c.requires.rise) (λ a r f called. search rules))
