use Rattle.std.proofs.Common.{arith, ◌≡◌, ◌++◌, ◌+◌, ◌∙◌, ◌-◌, ap, subst, take, drop, length, List, ℕ}
use Rattle.std.specs.Io.KnownBytes.{Appends}
use Rattle.std.proofs.lemmas.List.{take_rest, length-drop}
use Rattle.outside.proofs.Bytes.{appends_twice, take_more}
use Rattle.outside.proofs.write.put_all.Goals as goal

pub loop-done-preserved : goal.loop-done-preserved
loop-done-preserved g c =
    let bytes = c.args.bytes.now in
    let done = c.loop-done.done in
    let n = c.in-Ok.count in
    let both : take done bytes ++ take n (take (length bytes - done) (drop done bytes)) ≡ take (done + n) bytes =
    ap (λ l. take done bytes ++ take n l) (take_rest bytes done) ∙ take_more done n bytes
    in
    record {
      front = subst (λ (l : List ℕ). Appends (g.K.Sink.written c.args.sink.now) (g.K.Sink.written c.put.new.self) l) both
          (appends_twice _ (g.K.Sink.written c.loop-done.sink) _ (take done bytes) _ c.loop-done.invariant.front c.in-Ok.ensures.bytes);
      within = omega (arith, c.in-Ok.ensures.bound, ap length (take_rest bytes done), length-drop done bytes);
      later = omega (arith, c.in-Ok.ensures.cause.later, c.loop-done.invariant.later);
    }
