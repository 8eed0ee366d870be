use Rattle.std.proofs.Common.{rules}
use Rattle.cache_tier.specs.Replying.{note_bytes}
use Rattle.reply_lines.proofs.FlatMaps.{goes_on, goes_wrong, same_there}
use Rattle.reply_lines.proofs.replies.write_notes.Goals as goal

pub returns-in_err-write_note-clause-bytes : goal.returns-in_err-write_note-clause-bytes
returns-in_err-write_note-clause-bytes g c =
    goes_wrong _ note_bytes c.args.notes.now c.loop-note.note-index _ _ _ _ _ _ _ c.loop-note-test.true (same_there c.args.notes.now c.loop-note.note-index _ _ c.loop-note-test.true) c.from_residual.ensures.0
    c.loop-note.invariant.passed c.in_err-write_note.ensures.bytes

pub loop-note-preserved : goal.loop-note-preserved
loop-note-preserved g c = record {
  passed = goes_on note_bytes c.args.notes.now c.loop-note.note-index _ _ _ _ _ _ _ c.loop-note-test.true (same_there c.args.notes.now c.loop-note.note-index _ _ c.loop-note-test.true)
      c.loop-note.invariant.passed c.in_ok-write_note.ensures.bytes;
  later = search rules;
}
