use Rattle.std.proofs.Common.{◌≡◌, ◌<◌, ◌+◌, ◌∙◌, ap, sym, length, arith, length-set}
use Rattle.std.specs.List.{insert}
use Rattle.std.proofs.lemmas.List.Edits.{insert_end}
use Rattle.long_list.proofs.TailLaws.{carried_on}
use Rattle.long_list.proofs.chunks.Chunks.carry.Goals as goal

pub loop-at-preserved : goal.loop-at-preserved
loop-at-preserved g c =
    let within : c.loop-at.at < length c.loop-at.self = omega (arith, c.loop-at.invariant.count) in
    record {
      count = ap length c.exchange.ensures.new ∙ length-set c.loop-at.self c.loop-at.at c.loop-at.carried ∙ c.loop-at.invariant.count;
      same = ap (λ l. insert l (c.loop-at.at + 1) c.exchange.new.other) c.exchange.ensures.new ∙ carried_on c.loop-at.self c.loop-at.at c.loop-at.carried c.exchange.new.other within c.exchange.ensures.old ∙ c.loop-at.invariant.same;
    }

pub returns : goal.returns
returns g c =
    let end : length c.loop-at.self ≡ c.loop-at.at = omega (arith, c.loop-at.invariant.count) in
    sym (insert_end c.loop-at.self c.loop-at.carried) ∙ ap (λ n. insert c.loop-at.self n c.loop-at.carried) end ∙ c.loop-at.invariant.same
