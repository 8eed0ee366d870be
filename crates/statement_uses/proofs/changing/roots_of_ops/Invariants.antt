-- What is laid so far, and the root keys of it.
use Rattle.std.proofs.Common.{◌≡◌, ◌++◌, drop, take}
use Rattle.cache_tier.specs.Shown.{all_over}
use Rattle.tier_statements.proofs.JudgeLaws.{Laid}
use Rattle.statement_uses.specs.Uses.{roots_of_ops}
use Rattle.statement_uses.proofs.changing.roots_of_ops.Given as goal

abbrev pub invariant-loop-op : goal.invariant-loop-op
invariant-loop-op g l = record {
  laid : Laid (g.S.Scan.state l.scan) l.ops l.op-index l.own;
  so_far : l.roots.items ++ roots_of_ops (drop l.op-index l.ops) (all_over (take l.op-index l.ops) (g.S.Scan.state l.scan)) l.tree
      ≡ roots_of_ops l.ops (g.S.Scan.state l.scan) l.tree;
}
