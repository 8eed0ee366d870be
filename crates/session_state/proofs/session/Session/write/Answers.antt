-- All memory is taken first.
use Rattle.std.proofs.Common.{arith, ◌+◌, ◌++◌, length, map, sym, ap, subst, ◌∙◌}
use Rattle.own_rows.specs.table_state.specs.Footprints.{footprint_of}
use Rattle.own_rows.specs.Laying.{AreStepsOf, HaveRoom}
use Rattle.own_rows.proofs.StepLaws.{as_many, steps_ready}
use Rattle.session_state.specs.Holding.{AreKeysOf, KeysHaveRoom, key_of_mark}
use Rattle.session_state.specs.Sessions.{OpenSession}
use Rattle.session_state.proofs.HoldingLaws.{marks_within}
use Rattle.session_state.proofs.KeptLaws.{all_referred_in, all_written_in, kept_more, kept_wider, mark_count, own_room_for, referred_room_for, written_room_for}
use Rattle.session_state.proofs.session.Session.write.Goals as goal

pub returns-in_err-append-clause-kept : goal.returns-in_err-append-clause-kept
returns-in_err-append-clause-kept c =
    kept_wider c.args.schema.now c.widen.new.self _ c.widen.ensures.kept c.in_err-append.ensures.items c.widen.ensures.kept.rows c.widen.ensures.kept.written c.widen.ensures.kept.referred
    c.widen.ensures.kept.own_within c.widen.ensures.kept.written_within c.widen.ensures.kept.referred_within (λ n few room. room) (λ n few room. room) (λ n few room. room)

pub lay-requires : goal.lay-requires
lay-requires c =
    let are = subst (AreStepsOf c.args.schema.now c.args.ops) (sym c.into_parts-steps.ensures.steps) c.in_ok-ready.ensures.steps in
    record {
      ready = steps_ready c.args.schema.now c.args.ops c.into_parts-steps.result.0 _ c.in_ok-widen.ensures.own are;
      room = own_room_for c.args.schema.now c.widen.new.self (length c.args.self.now.ops.items) (length c.args.ops) (length c.into_parts-steps.result.0) c.widen.ensures.kept
          (ap (λ (s : OpenSession). length s.ops) c.widen.ensures.seen) (as_many c.args.schema.now c.args.ops c.into_parts-steps.result.0 are) c.requires.few;
    }

pub hold-requires : goal.hold-requires
hold-requires c =
    let is = ap (λ v. map key_of_mark v.items) c.into_parts-steps.ensures.written ∙ c.in_ok-ready.ensures.written in
    record {
      within = marks_within _ _ c.into_parts-steps.result.1.items _ c.in_ok-widen.ensures.written is (all_written_in c.args.schema.now c.args.ops c.requires.defined);
      room = written_room_for c.args.schema.now c.widen.new.self c.args.ops (length c.args.self.now.ops.items) c.into_parts-steps.result.1.items c.widen.ensures.kept (ap (λ (s : OpenSession). length s.ops) c.widen.ensures.seen) c.requires.few is;
    }

pub hold-requires-2 : goal.hold-requires-2
hold-requires-2 c =
    let is = ap (λ v. map key_of_mark v.items) c.into_parts-steps.ensures.referred ∙ c.in_ok-ready.ensures.referred in
    record {
      within = marks_within _ _ c.into_parts-steps.result.2.items _ c.in_ok-widen.ensures.referred is (all_referred_in c.args.schema.now c.args.ops c.requires.defined);
      room = referred_room_for c.args.schema.now c.widen.new.self c.args.ops (length c.args.self.now.ops.items) c.into_parts-steps.result.2.items c.widen.ensures.kept (ap (λ (s : OpenSession). length s.ops) c.widen.ensures.seen) c.requires.few is;
    }

pub returns-clause-kept : goal.returns-clause-kept
returns-clause-kept c =
    let are = subst (AreStepsOf c.args.schema.now c.args.ops) (sym c.into_parts-steps.ensures.steps) c.in_ok-ready.ensures.steps in
    let written_is = ap (λ v. map key_of_mark v.items) c.into_parts-steps.ensures.written ∙ c.in_ok-ready.ensures.written in
    let referred_is = ap (λ v. map key_of_mark v.items) c.into_parts-steps.ensures.referred ∙ c.in_ok-ready.ensures.referred in
    kept_more c.args.schema.now c.args.ops c.widen.new.self _ c.widen.ensures.kept c.requires.defined
    (let same = ap (λ (s : OpenSession). length s.ops) c.widen.ensures.seen in let few = c.requires.few in omega arith)
    (c.in_ok-append.ensures.items ∙ ap (λ l. c.widen.new.self.ops.items ++ l) c.into_vec-more.ensures)
    (c.lay.ensures.rows c.args.schema.now c.widen.new.self.ops.items c.args.ops c.in_ok-widen.ensures.own are c.widen.ensures.kept.rows)
    (subst (λ k. AreKeysOf ((footprint_of c.args.schema.now c.widen.new.self.ops.items).written ++ k) c.hold.new.self) written_is (c.hold.ensures.keys _ c.widen.ensures.kept.written))
    (subst (λ k. AreKeysOf ((footprint_of c.args.schema.now c.widen.new.self.ops.items).referred ++ k) c.hold-2.new.self) referred_is (c.hold-2.ensures.keys _ c.widen.ensures.kept.referred))
    c.lay.ensures.long c.hold.ensures.long c.hold-2.ensures.long
    (λ n room. c.lay.ensures.room n (subst (λ k. HaveRoom (k + n) c.widen.new.self.own) (sym (as_many c.args.schema.now c.args.ops c.into_parts-steps.result.0 are)) room))
    (λ n room. c.hold.ensures.room n (subst (λ k. KeysHaveRoom (k + n) c.widen.new.self.written) (sym (mark_count c.into_parts-steps.result.1.items _ written_is)) room))
    (λ n room. c.hold-2.ensures.room n (subst (λ k. KeysHaveRoom (k + n) c.widen.new.self.referred) (sym (mark_count c.into_parts-steps.result.2.items _ referred_is)) room))
