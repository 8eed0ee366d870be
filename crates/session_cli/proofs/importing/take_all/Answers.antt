use Rattle.std.proofs.Common.{rules, ◌≡◌, ◌∙◌, ◌+◌, ◌≤◌, ◌++◌, ap, length, take, drop, arith}
use Rattle.std.proofs.lemmas.List.{length-take-le, take-append-le}
use Rattle.session_cli.proofs.EndsLaws.{fits_room, has_room, keeps_length}
use Rattle.session_cli.proofs.ImportingLaws.{counts_on, reading_new, reading_on, reads_all, reads_failed, reads_long}
use Rattle.session_cli.proofs.importing.take_all.Goals as goal

pub loop-room-init : goal.loop-room-init
loop-room-init g c = record {
  taking = λ input source. reading_new input c.args.bytes.now.items _ c.requires.empty source;
  space = c.requires.room;
  counts = ap (λ l. length l + 4294967296) c.requires.empty;
  read = search rules;
}

pub returns-then-count-eq0-clause-all : goal.returns-then-count-eq0-clause-all
returns-then-count-eq0-clause-all g c = λ input source.
    reads_all input c.loop-room.bytes.items _ _ c.take.new.buf c.in-Ok.count c.if-count-eq0.true
    (has_room c.take.new.buf c.loop-room.piece c.min-want.result c.loop-room.room c.min-want.ensures c.take.auto.buf c.loop-room-test.true c.loop-room.invariant.space) c.in-Ok.ensures.bytes
    (c.loop-room.invariant.taking input source)

pub loop-room-preserved : goal.loop-room-preserved
loop-room-preserved g c =
    let bytes = take c.in-Ok.count (c.take.new.buf ++ drop c.min-want.result c.loop-room.piece) in
    let are : bytes ≡ take c.in-Ok.count c.take.new.buf = take-append-le c.in-Ok.count c.take.new.buf (drop c.min-want.result c.loop-room.piece) c.in-Ok.ensures.bound in
    let within : c.in-Ok.count ≤ c.loop-room.room = fits_room c.take.new.buf c.loop-room.piece c.min-want.result c.loop-room.room c.in-Ok.count c.min-want.ensures c.take.auto.buf c.in-Ok.ensures.bound in
    record {
      taking = λ input source.
          reading_on input c.loop-room.bytes.items bytes c.extend_from_slice.new.self.items _ _ c.take.new.buf c.in-Ok.count c.in-Ok-extend_from_slice.ensures.items are c.in-Ok.ensures.bytes (c.loop-room.invariant.taking input source);
      counts = counts_on c.loop-room.bytes.items bytes c.extend_from_slice.new.self.items c.loop-room.room c.in-Ok.count c.in-Ok-extend_from_slice.ensures.items (ap length are ∙ length-take-le c.in-Ok.count c.take.new.buf c.in-Ok.ensures.bound) within c.loop-room.invariant.counts;
      space = omega (arith, keeps_length c.take.new.buf c.loop-room.piece c.min-want.result c.take.auto.buf, c.loop-room.invariant.space);
      read = search rules;
    }

pub returns-in_default-clause-failed : goal.returns-in_default-clause-failed
returns-in_default-clause-failed g c = λ is input source.
    reads_failed input c.loop-room.bytes.items c.loop-room.room _ _ c.loop-room-test.true c.loop-room.invariant.counts c.in_default.ensures.bytes (c.loop-room.invariant.taking input source)

pub returns-clause-long : goal.returns-clause-long
returns-clause-long g c = λ is input source.
    reads_long input c.loop-room.bytes.items c.loop-room.room _ c.loop-room-test.false c.loop-room.invariant.counts (c.loop-room.invariant.taking input source)
