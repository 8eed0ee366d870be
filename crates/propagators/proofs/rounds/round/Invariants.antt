-- A round goes on, and what left and what is left are as many as there were.
use Rattle.std.proofs.Common.{◌≡◌, ◌≤◌, ◌+◌, length}
use Rattle.std.specs.Option.{IsSome}
use Rattle.propagators.specs.Certainty.{KeepsCertain}
use Rattle.propagators.specs.Rounds.{IsRestOf, TellsRound}
use Rattle.propagators.proofs.rounds.round.Given as goal

abbrev pub invariant-loop-sealed : goal.invariant-loop-sealed
invariant-loop-sealed g l = record {
  goes : TellsRound (g.P.Disk.state l.fn.site).shared (g.P.Disk.state l.fn.site).held (g.P.Disk.state l.site).held 0 l.fn.unsettled.items l.unsettled.items;
  count : l.receipts + length l.unsettled.items ≡ length l.fn.unsettled.items;
  rest : IsRestOf l.fn.unsettled.items l.unsettled.items;
  tells : IsSome (g.P.Disk.state l.fn.site).held → IsSome (g.P.Disk.state l.site).held;
  faults : (g.P.Disk.state l.fn.site).bank_faults ≤ (g.P.Disk.state l.site).bank_faults;
  disk : (g.P.Disk.state l.site).disk_faults ≡ (g.P.Disk.state l.fn.site).disk_faults;
  shared : (g.P.Disk.state l.site).shared ≡ (g.P.Disk.state l.fn.site).shared;
  moment : (g.P.Disk.state l.fn.site).moment ≤ (g.P.Disk.state l.site).moment;
  certain : KeepsCertain g.P.Disk.state g.P.Disk.possible l.fn.site l.site;
}

abbrev pub decreases-loop-sealed : goal.decreases-loop-sealed
decreases-loop-sealed g l = length l.unsettled.items
