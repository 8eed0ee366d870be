use Rattle.std.proofs.Common.{rules, ◌≡◌, ◌≤◌, ◌++◌, ◌∙◌, ap, length, take, drop, refl, arith, lit≤}
use Rattle.std.proofs.lemmas.List.{take-append-le, length-take-le}
use Rattle.session_cli.proofs.EndsLaws.{taking_new, taking_on, taken_failed, taken_long, taken_all, has_room, fits_room, keeps_length}
use Rattle.session_cli.proofs.CheckLaws.{check_going_new, check_going_on, check_source, check_long, check_all, check_unwritten, check_in_piece, taken_fault, taken_fault_in_piece}
use Rattle.session_cli.proofs.checking.check_pieces.Goals as goal

pub loop-room-init : goal.loop-room-init
loop-room-init g c = record {
  going = λ input start source sink. check_going_new c.args.checker.now input start _ _ c.requires.new source sink;
  taking = λ input source. taking_new input _ source;
  empty = c.requires.new.output;
  within = lit≤ tt;
  space = c.requires.room;
  read = search rules;
  write = search rules;
}

pub returns-in_default-clause-checks : goal.returns-in_default-clause-checks
returns-in_default-clause-checks g c = λ input start source sink.
    check_source start input c.loop-room.room _ _ _ c.loop-room.checker c.loop-room.invariant.empty c.loop-room-test.true c.in_default.ensures.bytes (c.loop-room.invariant.going input start source sink)

pub returns-in_default-clause-takes : goal.returns-in_default-clause-takes
returns-in_default-clause-takes g c = λ input source. taken_failed input c.loop-room.room _ _ c.loop-room-test.true c.in_default.ensures.bytes (c.loop-room.invariant.taking input source)

pub returns-in-Ok-finish-clause-checks : goal.returns-in-Ok-finish-clause-checks
returns-in-Ok-finish-clause-checks g c = λ input start source sink.
    let going = c.loop-room.invariant.going input start source sink in
    check_all start input c.loop-room.room _ _ _ _ c.loop-room.checker c.take.new.buf c.in-Ok.count c.if-count-eq0.true c.loop-room-test.true
    (has_room c.take.new.buf c.loop-room.piece c.min-want.result c.loop-room.room c.min-want.ensures c.take.auto.buf c.loop-room-test.true c.loop-room.invariant.space) c.in-Ok.ensures.bytes going
    (c.in-Ok-finish.ensures.checks start going.taking.given going.checking)

pub returns-in-Ok-finish-clause-takes : goal.returns-in-Ok-finish-clause-takes
returns-in-Ok-finish-clause-takes g c = λ input source.
    taken_all input c.loop-room.room _ _ c.take.new.buf c.in-Ok.count c.if-count-eq0.true c.loop-room-test.true
    (has_room c.take.new.buf c.loop-room.piece c.min-want.result c.loop-room.room c.min-want.ensures c.take.auto.buf c.loop-room-test.true c.loop-room.invariant.space) c.in-Ok.ensures.bytes
    (c.loop-room.invariant.taking input source)

pub returns-in-Err-clause-checks : goal.returns-in-Err-clause-checks
returns-in-Err-clause-checks g c = λ input start source sink.
    let going = c.loop-room.invariant.going input start source sink in
    rw c.status_of.ensures.status (check_unwritten c.in-Err.fault start input c.loop-room.room _ _ _ _ c.loop-room.checker c.take.new.buf c.in-Ok.count c.if-count-eq0.true c.in-Ok.ensures.bytes going (c.in-Err.ensures.checks start going.taking.given going.checking))

pub returns-in-Err-clause-takes : goal.returns-in-Err-clause-takes
returns-in-Err-clause-takes g c = λ input source. rw c.status_of.ensures.status (taken_fault c.in-Err.fault input c.loop-room.room _ _ c.take.new.buf c.in-Ok.count c.if-count-eq0.true c.in-Ok.ensures.bytes (c.loop-room.invariant.taking input source))

pub returns-in-Err-feed-clause-checks : goal.returns-in-Err-feed-clause-checks
returns-in-Err-feed-clause-checks g c = λ input start source sink.
    let going = c.loop-room.invariant.going input start source sink in
    let bytes = take c.in-Ok.count (c.take.new.buf ++ drop c.min-want.result c.loop-room.piece) in
    let are : bytes ≡ take c.in-Ok.count c.take.new.buf = take-append-le c.in-Ok.count c.take.new.buf (drop c.min-want.result c.loop-room.piece) c.in-Ok.ensures.bound in
    rw c.status_of-in-Err-feed.ensures.status (check_in_piece c.in-Err-feed.fault start input c.loop-room.room _ _ _ _ _ c.loop-room.checker c.take.new.buf bytes c.in-Ok.count are (ap length are ∙ length-take-le c.in-Ok.count c.take.new.buf c.in-Ok.ensures.bound)
    (fits_room c.take.new.buf c.loop-room.piece c.min-want.result c.loop-room.room c.in-Ok.count c.min-want.ensures c.take.auto.buf c.in-Ok.ensures.bound) refl c.in-Ok.ensures.bytes going
    (c.in-Err-feed.ensures.checks start going.taking.given going.checking))

pub returns-in-Err-feed-clause-takes : goal.returns-in-Err-feed-clause-takes
returns-in-Err-feed-clause-takes g c = λ input source.
    let bytes = take c.in-Ok.count (c.take.new.buf ++ drop c.min-want.result c.loop-room.piece) in
    let are : bytes ≡ take c.in-Ok.count c.take.new.buf = take-append-le c.in-Ok.count c.take.new.buf (drop c.min-want.result c.loop-room.piece) c.in-Ok.ensures.bound in
    rw c.status_of-in-Err-feed.ensures.status (taken_fault_in_piece c.in-Err-feed.fault input _ _
    (taking_on input c.loop-room.room _ _ _ c.take.new.buf bytes c.in-Ok.count are (ap length are ∙ length-take-le c.in-Ok.count c.take.new.buf c.in-Ok.ensures.bound)
    (fits_room c.take.new.buf c.loop-room.piece c.min-want.result c.loop-room.room c.in-Ok.count c.min-want.ensures c.take.auto.buf c.in-Ok.ensures.bound) refl c.in-Ok.ensures.bytes (c.loop-room.invariant.taking input source)))

pub loop-room-preserved : goal.loop-room-preserved
loop-room-preserved g c =
    let bytes = take c.in-Ok.count (c.take.new.buf ++ drop c.min-want.result c.loop-room.piece) in
    let are : bytes ≡ take c.in-Ok.count c.take.new.buf = take-append-le c.in-Ok.count c.take.new.buf (drop c.min-want.result c.loop-room.piece) c.in-Ok.ensures.bound in
    let within : c.in-Ok.count ≤ c.loop-room.room = fits_room c.take.new.buf c.loop-room.piece c.min-want.result c.loop-room.room c.in-Ok.count c.min-want.ensures c.take.auto.buf c.in-Ok.ensures.bound in
    record {
      going = λ input start source sink.
          let going = c.loop-room.invariant.going input start source sink in
          check_going_on start input c.loop-room.room _ _ _ _ _ c.loop-room.checker _ c.take.new.buf bytes c.in-Ok.count are (ap length are ∙ length-take-le c.in-Ok.count c.take.new.buf c.in-Ok.ensures.bound)
          within refl c.in-Ok.ensures.bytes going (c.in-Ok-feed.ensures.checks start going.taking.given going.checking);
      taking = λ input source.
          taking_on input c.loop-room.room _ _ _ c.take.new.buf bytes c.in-Ok.count are (ap length are ∙ length-take-le c.in-Ok.count c.take.new.buf c.in-Ok.ensures.bound)
          within refl c.in-Ok.ensures.bytes (c.loop-room.invariant.taking input source);
      empty = c.in-Ok-feed.ensures.empty;
      within = omega arith;
      space = omega (arith, keeps_length c.take.new.buf c.loop-room.piece c.min-want.result c.take.auto.buf, c.loop-room.invariant.space);
      read = search rules;
      write = search rules;
    }

pub returns-clause-checks : goal.returns-clause-checks
returns-clause-checks g c = λ input start source sink.
    check_long start input c.loop-room.room _ _ c.loop-room.checker c.loop-room.invariant.empty c.loop-room-test.false (c.loop-room.invariant.going input start source sink)

pub returns-clause-takes : goal.returns-clause-takes
returns-clause-takes g c = λ input source. taken_long input c.loop-room.room _ c.loop-room-test.false (c.loop-room.invariant.taking input source)
