-- What the program's clause hands on of each world between two lines is what the laws of a run ask.
use Rattle.std.proofs.Common.{◌≡◌, Option, Some, None, false, List, [], ◌∷◌, refl, subst}
use Rattle.cache_tier.specs.declared.reply.Reply.{Reply}
use Rattle.cache_tier.specs.Worlds.{IsUnshared, World}
use Rattle.tier_journal.specs.KeptOver as kept
use Rattle.left_laws.proofs.LeftWorlds.{goes_on}
use Rattle.line_laws.specs.Keeping.{is_broken}
use Rattle.run_laws.specs.Lines.{MayGoOn}
use Rattle.cache_engine.specs.Requests.{Given, LineRun}
use Rattle.session_cli.specs.Serving.{GoesOn, WasLeft}
use Rattle.reopened_laws.specs.Leaving.{GoesOnThrough}

pub may_go_on : (once : World → Type 0) (w : World) → WasLeft once w → IsUnshared w → MayGoOn w
may_go_on once w x apart = goes_on x.engine.tier x.engine.doubt w x.order.sound x.left apart

-- where the run begins
pub left_first : (once : World → Type 0) (w : World) (lines : List Given) (replies : List (Option Reply)) (w' : World) (run : LineRun w lines replies w') → GoesOn once w lines replies w' run → WasLeft once w
left_first once w [] [] w' run goes = subst (WasLeft once) run goes
left_first once w [] (reply ∷ replies) w' run goes = absurd run
left_first once w (g ∷ lines) [] w' run goes = absurd run
left_first once w (g ∷ lines) (reply ∷ replies) w' run goes = goes.0

pub apart_first : (once : World → Type 0) (w : World) (lines : List Given) (replies : List (Option Reply)) (w' : World) (run : LineRun w lines replies w') → GoesOn once w lines replies w' run → IsUnshared w' → IsUnshared w
apart_first once w [] [] w' run goes apart = subst IsUnshared run apart
apart_first once w [] (reply ∷ replies) w' run goes apart = absurd run
apart_first once w (g ∷ lines) [] w' run goes apart = absurd run
apart_first once w (g ∷ lines) (reply ∷ replies) w' run goes apart = goes.1

pub goes_first : (once : World → Type 0) (w : World) (lines : List Given) (replies : List (Option Reply)) (w' : World) (run : LineRun w lines replies w') → GoesOn once w lines replies w' run → IsUnshared w' → MayGoOn w
goes_first once w lines replies w' run goes apart = may_go_on once w (left_first once w lines replies w' run goes) (apart_first once w lines replies w' run goes apart)

-- both words say that the reply tells it
pub whole_too : (r : Option Reply) → kept.is_broken r ≡ false → is_broken r ≡ false
whole_too None e = refl
whole_too (Some reply) e = e

pub goes_through : (once : World → Type 0) (w : World) (lines : List Given) (replies : List (Option Reply)) (w' : World) (run : LineRun w lines replies w') → GoesOn once w lines replies w' run → IsUnshared w' → GoesOnThrough w lines replies w' run
goes_through once w [] [] w' run goes apart = tt
goes_through once w [] (reply ∷ replies) w' run goes apart = absurd run
goes_through once w (g ∷ lines) [] w' run goes apart = absurd run
goes_through once w (g ∷ lines) (reply ∷ replies) w' run goes apart = (
  goes_first once run.0 lines replies w' run.2 goes.3 apart,
  whole_too reply goes.2,
  goes_through once run.0 lines replies w' run.2 goes.3 apart,
)

-- where it ends
pub left_last : (once : World → Type 0) (w : World) (lines : List Given) (replies : List (Option Reply)) (w' : World) (run : LineRun w lines replies w') → GoesOn once w lines replies w' run → WasLeft once w'
left_last once w [] [] w' run goes = goes
left_last once w [] (reply ∷ replies) w' run goes = absurd run
left_last once w (g ∷ lines) [] w' run goes = absurd run
left_last once w (g ∷ lines) (reply ∷ replies) w' run goes = left_last once run.0 lines replies w' run.2 goes.3
