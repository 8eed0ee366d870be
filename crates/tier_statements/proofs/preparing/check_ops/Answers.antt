use Rattle.std.proofs.Common.{map, sym, subst}
use Rattle.session_state.specs.Kept.{seen_of}
use Rattle.tier_statements.specs.Seen.{HasSessions}
use Rattle.tier_statements.proofs.PrepareLaws.{locked_first, then_shown}
use Rattle.tier_statements.proofs.preparing.check_ops.Goals as goal

pub returns-in-Err-clause-told : goal.returns-in-Err-clause-told
returns-in-Err-clause-told g c = λ t label has are.
    locked_first label t (g.S.Scan.state c.args.scan.now) c.args.ops.now c.in-Err.refused
    (c.in-Err.ensures t label (subst (λ d. HasSessions d (map seen_of c.args.sessions.now) t) (sym c.schema.ensures) has) are)

pub returns-in-Ok-clause-told : goal.returns-in-Ok-clause-told
returns-in-Ok-clause-told g c = λ t label has are.
    then_shown label t (g.S.Scan.state c.args.scan.now) c.args.ops.now c.check_shown.result
    (c.in-Ok.ensures t label (subst (λ d. HasSessions d (map seen_of c.args.sessions.now) t) (sym c.schema.ensures) has) are)
    (c.check_shown.ensures.told t has.definitions)
