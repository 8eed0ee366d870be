use Rattle.std.proofs.Common.{rules, ◌≡◌, ◌≤◌, ◌++◌, ◌∙◌, ap, length, take, drop, refl, sym, arith, lit≤}
use Rattle.std.proofs.lemmas.List.{take-append-le, length-take-le}
use Rattle.session_cli.proofs.EndsLaws.{alone_given, alone_piece, going_new, taking_new, going_on, taking_on, ended_source, ended_long, ended_all, ended_stopped, ended_in_piece, taken_failed, taken_long, taken_all, taken_stopped, taken_stopped_in_piece, has_room, fits_room, keeps_length}
use Rattle.session_cli.specs.declared.answering.Stop.TheVariants as stop
use Rattle.session_cli.specs.Ends.{takes_none}
use Rattle.session_cli.proofs.StopLaws.{is_disk, is_sink, not_source, stop_on, takes_some}
use Rattle.session_cli.proofs.serving.serve_pieces.Goals as goal

pub loop-room-init : goal.loop-room-init
loop-room-init g c = record {
  going = λ o input source new alone. going_new o c.args.session.now input _ _ source new;
  taking = λ input source. taking_new input _ source;
  empty = c.requires.empty;
  order = c.requires.order;
  within = lit≤ tt;
  space = c.requires.room;
  read = search rules;
  write = search rules;
  disk = search rules;
}

pub returns-in_default-clause-serves : goal.returns-in_default-clause-serves
returns-in_default-clause-serves g c = λ o input source new alone.
    ended_source o input c.loop-room.room _ _ _ c.loop-room.session c.loop-room.invariant.empty c.loop-room-test.true c.in_default.ensures.bytes (c.loop-room.invariant.going o input source new alone)

pub returns-in_default-clause-takes : goal.returns-in_default-clause-takes
returns-in_default-clause-takes g c = λ input source. taken_failed input c.loop-room.room _ _ c.loop-room-test.true c.in_default.ensures.bytes (c.loop-room.invariant.taking input source)

pub returns-in-Ok-finish-clause-serves : goal.returns-in-Ok-finish-clause-serves
returns-in-Ok-finish-clause-serves g c = λ o input source new alone.
    let going = c.loop-room.invariant.going o input source new alone in
    ended_all o input c.loop-room.room _ _ _ _ c.loop-room.session c.take.new.buf c.in-Ok.count c.if-count-eq0.true c.loop-room-test.true
    (has_room c.take.new.buf c.loop-room.piece c.min-want.result c.loop-room.room c.min-want.ensures c.take.auto.buf c.loop-room-test.true c.loop-room.invariant.space) c.in-Ok.ensures.bytes going
    (c.in-Ok-finish.ensures.serves o going.taking.given (alone_given o input _ _ going.taking alone) going.serving)

pub returns-in-Ok-finish-clause-takes : goal.returns-in-Ok-finish-clause-takes
returns-in-Ok-finish-clause-takes g c = λ input source.
    taken_all input c.loop-room.room _ _ c.take.new.buf c.in-Ok.count c.if-count-eq0.true c.loop-room-test.true
    (has_room c.take.new.buf c.loop-room.piece c.min-want.result c.loop-room.room c.min-want.ensures c.take.auto.buf c.loop-room-test.true c.loop-room.invariant.space) c.in-Ok.ensures.bytes
    (c.loop-room.invariant.taking input source)

pub returns-in-Err-clause-serves : goal.returns-in-Err-clause-serves
returns-in-Err-clause-serves g c = λ o input source new alone.
    let going = c.loop-room.invariant.going o input source new alone in
    rw c.status_of.ensures (ended_stopped c.in-Err.stop o input c.loop-room.room _ _ _ _ c.loop-room.session c.take.new.buf c.in-Ok.count c.if-count-eq0.true c.in-Ok.ensures.bytes going (c.in-Err.ensures.serves o going.taking.given (alone_given o input _ _ going.taking alone) going.serving))

pub returns-in-Err-clause-takes : goal.returns-in-Err-clause-takes
returns-in-Err-clause-takes g c = λ input source. rw c.status_of.ensures (taken_stopped c.in-Err.stop input c.loop-room.room _ _ c.take.new.buf c.in-Ok.count c.if-count-eq0.true c.in-Ok.ensures.bytes (c.loop-room.invariant.taking input source))

pub returns-in-Err-clause-write : goal.returns-in-Err-clause-write
returns-in-Err-clause-write g c = λ is. (stop_on stop.Sink _ _ _ _ c.loop-room.invariant.write c.in-Err.ensures.cause).failed (is_sink c.in-Err.stop (sym c.status_of.ensures ∙ is))

pub returns-in-Err-clause-disk : goal.returns-in-Err-clause-disk
returns-in-Err-clause-disk g c = λ is. (stop_on stop.Disk _ _ _ _ c.loop-room.invariant.disk c.in-Err.ensures.disk).failed (is_disk c.in-Err.stop (sym c.status_of.ensures ∙ is))

pub returns-in-Err-clause-read : goal.returns-in-Err-clause-read
returns-in-Err-clause-read g c = λ is. absurd (not_source c.in-Err.stop (sym c.status_of.ensures ∙ is))

pub returns-in-Err-clause-opened : goal.returns-in-Err-clause-opened
returns-in-Err-clause-opened g c = ap takes_none c.status_of.ensures ∙ takes_some c.in-Err.stop

pub returns-in-Err-feed-clause-serves : goal.returns-in-Err-feed-clause-serves
returns-in-Err-feed-clause-serves g c = λ o input source new alone.
    let going = c.loop-room.invariant.going o input source new alone in
    let bytes = take c.in-Ok.count (c.take.new.buf ++ drop c.min-want.result c.loop-room.piece) in
    let are : bytes ≡ take c.in-Ok.count c.take.new.buf = take-append-le c.in-Ok.count c.take.new.buf (drop c.min-want.result c.loop-room.piece) c.in-Ok.ensures.bound in
    rw c.status_of-in-Err-feed.ensures
    (ended_in_piece c.in-Err-feed.stop o input c.loop-room.room _ _ _ _ _ c.loop-room.session c.take.new.buf bytes c.in-Ok.count are (ap length are ∙ length-take-le c.in-Ok.count c.take.new.buf c.in-Ok.ensures.bound)
    (fits_room c.take.new.buf c.loop-room.piece c.min-want.result c.loop-room.room c.in-Ok.count c.min-want.ensures c.take.auto.buf c.in-Ok.ensures.bound) refl c.in-Ok.ensures.bytes going
    (c.in-Err-feed.ensures.serves o going.taking.given (alone_piece o input _ _ _ c.take.new.buf bytes c.in-Ok.count are c.in-Ok.ensures.bytes going.taking alone) going.serving))

pub returns-in-Err-feed-clause-takes : goal.returns-in-Err-feed-clause-takes
returns-in-Err-feed-clause-takes g c = λ input source.
    let bytes = take c.in-Ok.count (c.take.new.buf ++ drop c.min-want.result c.loop-room.piece) in
    let are : bytes ≡ take c.in-Ok.count c.take.new.buf = take-append-le c.in-Ok.count c.take.new.buf (drop c.min-want.result c.loop-room.piece) c.in-Ok.ensures.bound in
    rw c.status_of-in-Err-feed.ensures
    (taken_stopped_in_piece c.in-Err-feed.stop input _ _
    (taking_on input c.loop-room.room _ _ _ c.take.new.buf bytes c.in-Ok.count are (ap length are ∙ length-take-le c.in-Ok.count c.take.new.buf c.in-Ok.ensures.bound)
    (fits_room c.take.new.buf c.loop-room.piece c.min-want.result c.loop-room.room c.in-Ok.count c.min-want.ensures c.take.auto.buf c.in-Ok.ensures.bound) refl c.in-Ok.ensures.bytes (c.loop-room.invariant.taking input source)))

pub returns-in-Err-feed-clause-write : goal.returns-in-Err-feed-clause-write
returns-in-Err-feed-clause-write g c = λ is. (stop_on stop.Sink _ _ _ _ c.loop-room.invariant.write c.in-Err-feed.ensures.cause).failed (is_sink c.in-Err-feed.stop (sym c.status_of-in-Err-feed.ensures ∙ is))

pub returns-in-Err-feed-clause-disk : goal.returns-in-Err-feed-clause-disk
returns-in-Err-feed-clause-disk g c = λ is. (stop_on stop.Disk _ _ _ _ c.loop-room.invariant.disk c.in-Err-feed.ensures.disk).failed (is_disk c.in-Err-feed.stop (sym c.status_of-in-Err-feed.ensures ∙ is))

pub returns-in-Err-feed-clause-read : goal.returns-in-Err-feed-clause-read
returns-in-Err-feed-clause-read g c = λ is. absurd (not_source c.in-Err-feed.stop (sym c.status_of-in-Err-feed.ensures ∙ is))

pub returns-in-Err-feed-clause-opened : goal.returns-in-Err-feed-clause-opened
returns-in-Err-feed-clause-opened g c = ap takes_none c.status_of-in-Err-feed.ensures ∙ takes_some c.in-Err-feed.stop

pub loop-room-preserved : goal.loop-room-preserved
loop-room-preserved g c =
    let bytes = take c.in-Ok.count (c.take.new.buf ++ drop c.min-want.result c.loop-room.piece) in
    let are : bytes ≡ take c.in-Ok.count c.take.new.buf = take-append-le c.in-Ok.count c.take.new.buf (drop c.min-want.result c.loop-room.piece) c.in-Ok.ensures.bound in
    let within : c.in-Ok.count ≤ c.loop-room.room = fits_room c.take.new.buf c.loop-room.piece c.min-want.result c.loop-room.room c.in-Ok.count c.min-want.ensures c.take.auto.buf c.in-Ok.ensures.bound in
    record {
      going = λ o input source new alone.
          let going = c.loop-room.invariant.going o input source new alone in
          going_on o input c.loop-room.room _ _ _ _ _ c.loop-room.session _ c.take.new.buf bytes c.in-Ok.count are (ap length are ∙ length-take-le c.in-Ok.count c.take.new.buf c.in-Ok.ensures.bound)
          within refl c.in-Ok.ensures.bytes going (c.in-Ok-feed.ensures.serves o going.taking.given (alone_piece o input _ _ _ c.take.new.buf bytes c.in-Ok.count are c.in-Ok.ensures.bytes going.taking alone) going.serving);
      taking = λ input source.
          taking_on input c.loop-room.room _ _ _ c.take.new.buf bytes c.in-Ok.count are (ap length are ∙ length-take-le c.in-Ok.count c.take.new.buf c.in-Ok.ensures.bound)
          within refl c.in-Ok.ensures.bytes (c.loop-room.invariant.taking input source);
      empty = c.in-Ok-feed.ensures.empty;
      order = c.in-Ok-feed.ensures.order;
      within = omega arith;
      space = omega (arith, keeps_length c.take.new.buf c.loop-room.piece c.min-want.result c.take.auto.buf, c.loop-room.invariant.space);
      read = search rules;
      write = search rules;
      disk = search rules;
    }

pub returns-clause-serves : goal.returns-clause-serves
returns-clause-serves g c = λ o input source new alone.
    ended_long o input c.loop-room.room _ _ c.loop-room.session c.loop-room.invariant.empty c.loop-room-test.false (c.loop-room.invariant.going o input source new alone)

pub returns-clause-takes : goal.returns-clause-takes
returns-clause-takes g c = λ input source. taken_long input c.loop-room.room _ c.loop-room-test.false (c.loop-room.invariant.taking input source)
