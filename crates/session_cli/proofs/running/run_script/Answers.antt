use Rattle.std.proofs.Common.{◌≡◌, Bool, true, rules, subst}
use Rattle.script_maker.specs.Script.{script_lines}
use Rattle.session_cli.specs.Running.{Answers}
use Rattle.session_cli.proofs.CountLaws.{room_none}
use Rattle.session_cli.proofs.RunningLaws.{goes_new, goes_next}
use Rattle.session_cli.proofs.running.run_script.Goals as goal

pub lines-init : goal.lines-init
lines-init g c = record {
  going = λ w at left. goes_new w (script_lines c.args.number) _ _ _ c.args.engine.now c.new-lines.ensures.all c.none-counts.ensures at left;
  order = c.requires.order;
  unshared = c.requires.unshared;
  clear = c.new-line.ensures.items;
  room = room_none _ _ c.new-lines.ensures.few c.none-counts.ensures;
}

pub lines-preserved : goal.lines-preserved
lines-preserved g c =
    let yes : c.in_ok-more.more ≡ true = search (rules, c.if-not-more.false) in
    record {
      going = λ w at left.
          let s = c.lines.invariant.going w at left in
          goes_next w (script_lines c.args.number) c.lines.lines _ c.lines.counts _ (g.P.Disk.state c.lines.site) _ c.lines.engine _ s
          (subst (λ (b : Bool). Answers s.world c.lines.lines c.answer_next.new.lines c.lines.counts c.answer_next.new.counts c.answer_next.new.engine (g.P.Disk.state c.answer_next.new.site) b) yes
          (c.in_ok-more.ensures.answers s.world s.at s.stands));
      order = c.in_ok-more.ensures.order;
      unshared = c.in_ok-more.ensures.unshared;
      clear = c.in_ok-more.ensures.clear;
      room = c.in_ok-more.ensures.room;
    }
