use Rattle.std.proofs.Common.{◌∙◌, Some, ap, sym, refl}
use Rattle.backing_gate.specs.Memory.{MemoryState}
use Rattle.session_cli.proofs.BenchLaws.{summarised}
use Rattle.session_cli.proofs.benching.bench.Goals as goal

pub returns : goal.returns
returns g c =
    let unshared = ap (λ (s : MemoryState). s.visits.shared) c.in_ok-site.ensures.fresh in
    let h = c.history.ensures in
    let a = c.as_slice-history.ensures in
    let r = c.in_ok-counts.ensures in
    let b = c.in-Ok.ensures in
    summarised c.args.number _ _ _ _ c.in-Ok.engine c.in_ok-counts.counts c.greatest_ticket.result _ c.as_slice-history.result.now refl c.in_ok-site.ensures.held unshared
    c.in-Ok.ensures.begins c.in-Ok.ensures.later c.in_ok-counts.ensures (c.history.ensures ∙ ap Some (sym c.as_slice-history.ensures)) c.greatest_ticket.ensures refl
