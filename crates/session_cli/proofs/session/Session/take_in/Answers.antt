use Rattle.std.proofs.Common.{◌++◌, take, rules}
use Rattle.session_cli.specs.declared.answering.Stop.TheVariants as stop
use Rattle.session_cli.proofs.ServingLaws.{alone_at, feeds_byte, serving_end, serving_more}
use Rattle.session_cli.proofs.StopLaws.{stop_on}
use Rattle.session_cli.proofs.session.Session.take_in.Goals as goal

pub returns-in-Err-clause-serves : goal.returns-in-Err-clause-serves
returns-in-Err-clause-serves g c = λ o given alone s.
    let i = c.loop-byte.byte-index in
    feeds_byte c.in-Err.stop o given c.args.bytes.now i _ c.take_byte.new.self c.args.self.now c.loop-byte-test.true
    (c.in-Err.ensures.serves o (given ++ take i c.args.bytes.now) (alone_at o given c.args.bytes.now i alone) (c.loop-byte.invariant.serves o given alone s))

pub returns-in-Err-clause-cause : goal.returns-in-Err-clause-cause
returns-in-Err-clause-cause g c = stop_on stop.Sink _ _ _ _ c.loop-byte.invariant.later c.in-Err.ensures.cause

pub returns-in-Err-clause-disk : goal.returns-in-Err-clause-disk
returns-in-Err-clause-disk g c = stop_on stop.Disk _ _ _ _ c.loop-byte.invariant.disk c.in-Err.ensures.disk

pub loop-byte-preserved : goal.loop-byte-preserved
loop-byte-preserved g c = record {
  serves = λ o given alone s.
      let i = c.loop-byte.byte-index in
      serving_more o given c.args.bytes.now i _ _ c.loop-byte-test.true (c.in-Ok.ensures.serves o (given ++ take i c.args.bytes.now) (alone_at o given c.args.bytes.now i alone) (c.loop-byte.invariant.serves o given alone s));
  order = c.in-Ok.ensures.order;
  later = search rules;
  disk = search rules;
}

pub returns-clause-serves : goal.returns-clause-serves
returns-clause-serves g c = λ o given alone s. serving_end o given c.args.bytes.now c.loop-byte.byte-index _ _ c.loop-byte-test.false (c.loop-byte.invariant.serves o given alone s)
