use Rattle.std.proofs.Common.{arith, ◌∙◌}
use Rattle.outside.specs.Holding.{slot_of}
use Rattle.outside.proofs.Moments.{rests_then}
use Rattle.commit_journal.proofs.ScanLaws.{piece_more}
use Rattle.commit_journal.proofs.reading.read_bytes.Goals as goal

pub loop-done-preserved : goal.loop-done-preserved
loop-done-preserved g c =
    let l = c.loop-done in
    record {
      within = omega (arith, c.min-size.ensures);
      size = omega (arith, c.in_ok-append_piece.ensures.length, l.invariant.size);
      bytes = λ o h all. piece_more (slot_of c.args.slot o.slots) l.bytes.items c.append_piece.new.bytes.items c.args.at l.done c.min-size.result (l.invariant.bytes o h all)
          (c.in_ok-append_piece.ensures.bytes o (l.invariant.rests o h).0 (omega (arith, c.min-size.ensures)));
      rests = rests_then g.D.Disk.state g.D.Disk.possible c.args.d.now l.d c.append_piece.new.d l.invariant.rests c.append_piece.ensures.rests;
      bank = c.append_piece.ensures.cause.bank ∙ l.invariant.bank;
      shared = c.append_piece.ensures.cause.shared ∙ l.invariant.shared;
      later = omega (arith, c.append_piece.ensures.cause.later, l.invariant.later);
    }
