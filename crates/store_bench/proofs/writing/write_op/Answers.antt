-- The operation is behind the others, or the session is as it was.
use Rattle.std.proofs.Common.{◌≡◌, ◌++◌, [], ◌∷◌, true, length, arith, rules, ap, subst, sym, ◌∙◌}
use Rattle.session_state.specs.Kept.{IsKept, are_defined}
use Rattle.session_state.specs.Sessions.{OpenSession}
use Rattle.store_bench.proofs.WriteLaws.{defined_behind, over_same, over_with}
use Rattle.store_bench.proofs.writing.write_op.Goals as goal

pub write-requires-clause-kept : goal.write-requires-clause-kept
write-requires-clause-kept g c = subst (λ d. IsKept d c.args.session.now) (sym c.schema.ensures) c.requires.over.kept

pub write-requires-clause-defined : goal.write-requires-clause-defined
write-requires-clause-defined g c =
    subst (λ d. are_defined d c.from_vec.result ≡ true) (sym c.schema.ensures)
    (subst (λ l. are_defined (g.S.Scan.state c.args.scan.now).schema l ≡ true) (sym (c.from_vec.ensures ∙ c.in_ok-ops.ensures.items))
    (defined_behind c.args.session.now.ops.items c.args.op (g.S.Scan.state c.args.scan.now) c.requires.readable (c.if-not-applies_behind.ensures (search rules))))

pub write-requires-clause-few : goal.write-requires-clause-few
write-requires-clause-few g c =
    let one : length c.from_vec.result ≡ 1 = ap length (c.from_vec.ensures ∙ c.in_ok-ops.ensures.items) in
    let few = c.if-len-most_operations.false in
    let len = c.len.ensures in
    let most = c.most_operations.ensures in
    omega arith

pub returns-in_err-write : goal.returns-in_err-write
returns-in_err-write g c =
    over_same c.args.session.now c.write.new.self (g.S.Scan.state c.args.scan.now) c.requires.over
    (subst (λ d. IsKept d c.write.new.self) c.schema.ensures c.write.ensures.kept) (ap (λ (s : OpenSession). s.ops) c.in_err-write.ensures.err)

pub returns : goal.returns
returns g c =
    over_with (c.args.session.now.ops.items ++ c.args.op ∷ []) c.args.session.now c.write.new.self (g.S.Scan.state c.args.scan.now) c.requires.over
    (subst (λ d. IsKept d c.write.new.self) c.schema.ensures c.write.ensures.kept)
    (ap (λ (s : OpenSession). s.ops) c.in_ok-write.ensures.ok ∙ ap (λ l. c.args.session.now.ops.items ++ l) (c.from_vec.ensures ∙ c.in_ok-ops.ensures.items))
    (c.if-not-applies_behind.ensures (search rules))
