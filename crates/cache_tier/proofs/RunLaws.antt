-- Runs one behind the other.
use Rattle.std.proofs.Common.{List, [], ◌∷◌, ◌++◌, Option, subst}
use Rattle.cache_tier.specs.declared.reply.Reply.{Reply}
use Rattle.cache_tier.specs.Facts.{RunsGoOn}
use Rattle.cache_tier.specs.Steps.{Asked, Run}
use Rattle.cache_tier.specs.Worlds.{World}

go_on : (lines : List Asked) (replies : List (Option Reply)) (w mid last : World) (more : List Asked) (others : List (Option Reply)) → Run w lines replies mid → Run mid more others last → Run w (lines ++ more) (replies ++ others) last
go_on [] [] w mid last more others e r = subst (λ x. Run x more others last) e r
go_on (line ∷ lines) (reply ∷ replies) w mid last more others q r = (q.0, q.1, go_on lines replies q.0 mid last more others q.2 r)
go_on [] (reply ∷ replies) w mid last more others e r = absurd e
go_on (line ∷ lines) [] w mid last more others e r = absurd e

pub runs_go_on : RunsGoOn
runs_go_on w mid last lines more replies others q r = go_on lines replies w mid last more others q r
