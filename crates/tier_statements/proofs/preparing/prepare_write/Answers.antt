use Rattle.std.proofs.Common.{Err, None, subst, ◌≡◌, rules}
use Rattle.session_state.specs.Kept.{seen_of}
use Rattle.table_state.specs.Refusals.{broken_by_all}
use Rattle.table_defs.specs.Declarations.{Tells}
use Rattle.tier_statements.specs.Preparing.{inserted_row, write_refused_by}
use Rattle.tier_statements.specs.Seen.{session_seen}
use Rattle.tier_statements.proofs.PrepareLaws.{no_effects, prepared_is, refused_by}
use Rattle.tier_statements.proofs.preparing.prepare_write.Goals as goal

pub returns-in-Err-clause-prepared : goal.returns-in-Err-clause-prepared
returns-in-Err-clause-prepared g c = λ t has are.
    no_effects t (session_seen (seen_of c.args.session.now)) c.args.change.now (g.S.Scan.state c.args.scan.now) c.in-Err.refused
    (c.in-Err.ensures (session_seen (seen_of c.args.session.now)) (let e = c.len.ensures in search rules))

pub returns-in-Err-check_ops-clause-prepared : goal.returns-in-Err-check_ops-clause-prepared
returns-in-Err-check_ops-clause-prepared g c = λ t has are.
    refused_by t (session_seen (seen_of c.args.session.now)) c.args.change.now (g.S.Scan.state c.args.scan.now) c.in-Ok.ops
    (c.in-Ok.ensures (session_seen (seen_of c.args.session.now)) (let e = c.len.ensures in search rules)) c.in-Err-check_ops.refused
    (subst (λ l. Tells {X = Unit {0}} (Err c.in-Err-check_ops.refused) (write_refused_by c.args.session.now.label t (g.S.Scan.state c.args.scan.now) l)) c.as_slice.ensures
    (c.in-Err-check_ops.ensures.told t c.args.session.now.label has are))

pub returns-in-Ok-check_ops-clause-prepared : goal.returns-in-Ok-check_ops-clause-prepared
returns-in-Ok-check_ops-clause-prepared g c = λ t has are.
    prepared_is t (session_seen (seen_of c.args.session.now)) c.args.change.now (g.S.Scan.state c.args.scan.now) c.in-Ok.ops
    (c.in-Ok.ensures (session_seen (seen_of c.args.session.now)) (let e = c.len.ensures in search rules))
    (subst (λ l. write_refused_by c.args.session.now.label t (g.S.Scan.state c.args.scan.now) l ≡ None) c.as_slice.ensures
    (c.in-Ok-check_ops.ensures.told t c.args.session.now.label has are))

pub returns-in-Ok-check_ops-clause-applies : goal.returns-in-Ok-check_ops-clause-applies
returns-in-Ok-check_ops-clause-applies g c =
    subst (λ l. inserted_row l ≡ None → broken_by_all l (g.S.Scan.state c.args.scan.now) ≡ None) c.as_slice.ensures
    c.in-Ok-check_ops.ensures.applies
