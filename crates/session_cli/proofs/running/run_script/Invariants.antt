-- Some lines are answered, and the others are left.
use Rattle.std.proofs.Common.{◌≡◌, [], length}
use Rattle.cache_tier.specs.Worlds.{World}
use Rattle.cache_engine.specs.Engines.{IsInOrder, IsLeftIn}
use Rattle.stored_tier.specs.Sites.{IsAt}
use Rattle.script_maker.specs.Script.{script_lines}
use Rattle.session_cli.specs.Summaries.{HasRoom}
use Rattle.session_cli.proofs.RunningLaws.{GoesOn}
use Rattle.session_cli.proofs.running.run_script.Given as goal

abbrev pub invariant-lines : goal.invariant-lines
invariant-lines g l = record {
  going : (w : World) → IsAt (g.P.Disk.state l.fn.site) w → IsLeftIn l.fn.engine w
      → GoesOn w (script_lines l.fn.number) l.lines l.counts (g.P.Disk.state l.site) l.engine;
  order : IsInOrder l.engine;
  unshared : (g.P.Disk.state l.site).shared ≡ [];
  clear : l.line.items ≡ [];
  room : HasRoom l.counts (length l.lines);
}

abbrev pub decreases-lines : goal.decreases-lines
decreases-lines g l = length l.lines
