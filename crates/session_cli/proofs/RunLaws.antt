-- A run goes on by a line.
use Rattle.std.proofs.Common.{◌≡◌, ℕ, ◌+◌, List, [], ◌∷◌, ◌++◌, Bool, true, false, Option, refl, ◌∙◌, ap, arith, subst}
use Rattle.std.specs.Bool.{MatchBool}
use Rattle.cache_tier.specs.MoreFacts.{FaultsAreCaused, RunIsCaused}
use Rattle.cache_tier.specs.Steps.{Asked, Run}
use Rattle.cache_tier.specs.Worlds.{IsUnshared, World}
use Rattle.cache_tier.specs.declared.reply.Reply.{Reply}
use Rattle.tier_journal.specs.Beginning.{begun_here}
use Rattle.tier_journal.specs.KeptOver.{is_broken}
use Rattle.cache_engine.specs.Requests.{Given, LineGoes, LineRun, LineStep}
use Rattle.session_cli.specs.Serving.{Anywhere, Comes, ComesBroken, GoesOn, LedSince, LedSinceEach, Origin, WasLeft, bytes_of}
use Rattle.session_cli.specs.Timing.{AreLeft, AreTimed, Coming, IsNext, TakesBase, has_base}

-- a step more
pub run_push : (w : World) (gs : List Given) (rs : List (Option Reply)) (w1 : World) (g : Given) (r : Option Reply) (w2 : World) → LineRun w gs rs w1 → LineStep g.base w1 g.bytes w2 r → LineRun w (gs ++ g ∷ []) (rs ++ r ∷ []) w2
run_push w [] [] w1 g r w2 run step = (w2, subst (λ (x : World). LineStep g.base x g.bytes w2 r) run step, refl)
run_push w [] (r' ∷ rs) w1 g r w2 run step = absurd run
run_push w (g' ∷ gs) [] w1 g r w2 run step = absurd run
run_push w (g' ∷ gs) (r' ∷ rs) w1 g r w2 (mid, first, rest) step = (mid, first, run_push mid gs rs w1 g r w2 rest step)

-- behind which the engine is left so, too
pub goes_push : (once : World → Type 0) (w : World) (gs : List Given) (rs : List (Option Reply)) (w1 : World) (g : Given) (r : Option Reply) (w2 : World) (run : LineRun w gs rs w1) (step : LineStep g.base w1 g.bytes w2 r)
    → GoesOn once w gs rs w1 run → IsUnshared w1 → is_broken r ≡ false → WasLeft once w2 → GoesOn once w (gs ++ g ∷ []) (rs ++ r ∷ []) w2 (run_push w gs rs w1 g r w2 run step)
unfolding run_push
goes_push once w [] [] w1 g r w2 run step goes apart whole left = (subst (WasLeft once) run goes, subst IsUnshared run apart, whole, left)
goes_push once w [] (r' ∷ rs) w1 g r w2 run step goes apart whole left = absurd run
goes_push once w (g' ∷ gs) [] w1 g r w2 run step goes apart whole left = absurd run
goes_push once w (g' ∷ gs) (r' ∷ rs) w1 g r w2 (mid, first, rest) step (here, alone, well, more) apart whole left =
    (here, alone, well, goes_push once mid gs rs w1 g r w2 rest step more apart whole left)

-- what was so at some time was so
left_then : (one other : World → Type 0) → ((v : World) → one v → other v) → (w : World) → WasLeft one w → WasLeft other w
left_then one other so w x = record { engine = x.engine; order = x.order; left = x.left; kept = x.kept; over = so w x.over }

pub goes_then : (one other : World → Type 0) → ((v : World) → one v → other v) → (w : World) (gs : List Given) (rs : List (Option Reply)) (w' : World) (run : LineRun w gs rs w') → GoesOn one w gs rs w' run → GoesOn other w gs rs w' run
goes_then one other so w [] [] w' run left = left_then one other so w' left
goes_then one other so w [] (r ∷ rs) w' run goes = absurd run
goes_then one other so w (g ∷ gs) [] w' run goes = absurd run
goes_then one other so w (g ∷ gs) (r ∷ rs) w' (mid, first, rest) (here, alone, well, more) = (left_then one other so w here, alone, well, goes_then one other so mid gs rs w' rest more)

-- ---- since each line began

-- how a line leads on from a world
pub record GoesOnFrom (there : World → Type 0) (g : Given) (r : Option Reply) (v : World) : Type 0 where
  pub world : World
  pub step : LineStep g.base v g.bytes world r
  pub unshared : IsUnshared v
  pub was : WasLeft Anywhere world
  pub is : there world

-- it is told of each world
led_map : (here there : World → Type 0) → ((v : World) → here v → there v) → (w : World) (gs : List Given) (rs : List (Option Reply)) → LedSince here w gs rs → LedSince there w gs rs
led_map here there f w gs rs x = record { world = x.world; run = x.run; goes = x.goes; is = f x.world x.is }

pub since_map : (here there : World → Type 0) → ((v : World) → here v → there v) → (w : World) (gs : List Given) (rs : List (Option Reply)) (w' : World) (run : LineRun w gs rs w') → LedSinceEach here w gs rs w' run → LedSinceEach there w gs rs w' run
since_map here there f w [] [] w' run x = led_map here there f w' [] [] x
since_map here there f w [] (r ∷ rs) w' run x = absurd run
since_map here there f w (g ∷ gs) [] w' run x = absurd run
since_map here there f w (g ∷ gs) (r ∷ rs) w' (mid, first, rest) x = (led_map here there f w (g ∷ gs) (r ∷ rs) x.0, since_map here there f mid gs rs w' rest x.1)

-- a line more
module _ (here there : World → Type 0) (g : Given) (r : Option Reply) (whole : is_broken r ≡ false) (on : (v : World) → here v → GoesOnFrom there g r v) where
  led_push : (w : World) (gs : List Given) (rs : List (Option Reply)) → LedSince here w gs rs → LedSince there w (gs ++ g ∷ []) (rs ++ r ∷ [])
  led_push w gs rs x =
      let o = on x.world x.is in
      record {
        world = o.world;
        run = run_push (begun_here w) gs rs x.world g r o.world x.run o.step;
        goes = goes_push Anywhere (begun_here w) gs rs x.world g r o.world x.run o.step x.goes o.unshared whole o.was;
        is = o.is;
      }

  pub since_push : (w : World) (gs : List Given) (rs : List (Option Reply)) (w1 w2 : World) (run : LineRun w gs rs w1) (step : LineStep g.base w1 g.bytes w2 r) → LedSinceEach here w gs rs w1 run → LedSince there w2 [] []
      → LedSinceEach there w (gs ++ g ∷ []) (rs ++ r ∷ []) w2 (run_push w gs rs w1 g r w2 run step)
  unfolding run_push
  since_push w [] [] w1 w2 run step x new = (subst (λ (v : World). LedSince there v (g ∷ []) (r ∷ [])) run (led_push w1 [] [] x), new)
  since_push w [] (r' ∷ rs) w1 w2 run step x new = absurd run
  since_push w (g' ∷ gs) [] w1 w2 run step x new = absurd run
  since_push w (g' ∷ gs) (r' ∷ rs) w1 w2 (mid, first, rest) step x new = (led_push w (g' ∷ gs) (r' ∷ rs) x.0, since_push mid gs rs w1 w2 rest step x.1 new)

-- a line more has its base
timed_by : (b : Bool) (A B C D : Type 0) → (A → C) → (B → D) → MatchBool b A B → MatchBool b C D
timed_by true A B C D f g x = f x
timed_by false A B C D f g x = g x

pub timed_push : (coming : Coming) (n : ℕ) (gs : List Given) (m : ℕ) (g : Given) (k : ℕ) → AreTimed coming n gs m → AreTimed coming m (g ∷ []) k → AreTimed coming n (gs ++ g ∷ []) k
timed_push coming n [] m g k is one = subst (λ (i : ℕ). AreTimed coming i (g ∷ []) k) is one
timed_push coming n (x ∷ gs) m g k timed one =
    timed_by (has_base x.bytes) (IsNext (coming n) x.base × AreTimed coming (n + 1) gs m) (AreTimed coming n gs m)
    (IsNext (coming n) x.base × AreTimed coming (n + 1) (gs ++ g ∷ []) k) (AreTimed coming n (gs ++ g ∷ []) k)
    (λ t. (t.0, timed_push coming (n + 1) gs m g k t.1 one)) (λ t. timed_push coming n gs m g k t one) timed

pub record TimedOne (bases : Coming) (asked : ℕ) (g : Given) (coming : Coming) : Type 0 where
  pub after : ℕ
  pub timed : AreTimed bases asked (g ∷ []) after
  pub left : AreLeft bases after coming

-- the base of a line is the next of those that are left
pub timed_one : (bases now left : Coming) (asked : ℕ) (g : Given) → AreLeft bases asked now → TakesBase g.bytes now left g.base → TimedOne bases asked g left
timed_one bases now left asked g are took = by (has_base g.bytes) refl took
  where
    by : (b : Bool) → has_base g.bytes ≡ b → MatchBool b (IsNext (now 0) g.base × AreLeft now 1 left) (left ≡ now) → TimedOne bases asked g left
    by true is (next, more) =
        let first : now 0 ≡ bases asked = are 0 ∙ ap bases (omega arith) in
        let there : IsNext (bases asked) g.base = subst (λ (t : Option ℕ). IsNext t g.base) first next in
        record {
          after = asked + 1;
          timed = rw is (there, refl);
          left = λ n. more n ∙ are (1 + n) ∙ ap bases (omega arith);
        }
    by false is same = record { after = asked; timed = rw is refl; left = λ n. ap (λ (f : Coming). f n) same ∙ are n }

bytes_push : (gs : List Given) (g : Given) → bytes_of (gs ++ g ∷ []) ≡ bytes_of gs ++ g.bytes ∷ []
bytes_push [] g = refl
bytes_push (x ∷ gs) g = ap (λ l. x.bytes ∷ l) (bytes_push gs g)

-- It has led to a world, the engine was left so behind each line, and since each one of this holds; and these answers are
-- left.
pub record CameOn (there once : World → Type 0) (o : Origin) (lines : List (List ℕ)) (replies : List (Option Reply)) (w : World) (coming : Coming) : Type 0 where
  pub comes : Comes o lines replies w
  pub goes : GoesOn once o.world comes.given replies w comes.run
  pub since : LedSinceEach there o.world comes.given replies w comes.run
  pub left : AreLeft o.bases comes.asked coming

pub comes_on : (here there once : World → Type 0) (o : Origin) (lines lines' : List (List ℕ)) (replies : List (Option Reply)) (w : World) (c : Comes o lines replies w) (now left : Coming) (g : Given) (r : Option Reply) → lines ++ g.bytes ∷ [] ≡ lines'
    → AreLeft o.bases c.asked now → TakesBase g.bytes now left g.base → GoesOn once o.world c.given replies w c.run → LedSinceEach here o.world c.given replies w c.run → is_broken r ≡ false → ((v : World) → here v → GoesOnFrom there g r v) → (x : GoesOnFrom there g r w)
    → WasLeft once x.world → LedSince there x.world [] [] → CameOn there once o lines' (replies ++ r ∷ []) x.world left
comes_on here there once o lines lines' replies w c now left g r is are took goes since whole on x was new =
    let t = timed_one o.bases now left c.asked g are took in
    record {
      comes = record {
        given = c.given ++ g ∷ [];
        are = bytes_push c.given g ∙ ap (λ l. l ++ g.bytes ∷ []) c.are ∙ is;
        asked = t.after;
        timed = timed_push o.bases 1 c.given c.asked g t.after c.timed t.timed;
        run = run_push o.world c.given replies w g r x.world c.run x.step;
      };
      goes = goes_push once o.world c.given replies w g r x.world c.run x.step goes x.unshared whole was;
      since = since_push here there g r whole on o.world c.given replies w x.world c.run x.step since new;
      left = t.left;
    }

-- It ends with a line that tells a failed call of the journal's disk. It went on up to there, where this held since each
-- line.
pub record BrokeOff (once : World → Type 0) (from : Given → Option Reply → World → Type 0) (o : Origin) (lines : List (List ℕ)) (replies : List (Option Reply)) (w : World) : Type 0 where
  pub comes : ComesBroken o lines replies w
  pub goes : GoesOn once o.world comes.run.before comes.run.told comes.run.mid comes.run.run
  pub since : LedSinceEach (from comes.run.last comes.run.reply) o.world comes.run.before comes.run.told comes.run.mid comes.run.run
  pub unshared : IsUnshared comes.run.mid

pub broken_on : (once : World → Type 0) (from : Given → Option Reply → World → Type 0) (o : Origin) (lines lines' : List (List ℕ)) (replies : List (Option Reply)) (w : World) (c : Comes o lines replies w) (now left : Coming) (g : Given) (r : Option Reply) (w' : World) → lines ++ g.bytes ∷ [] ≡ lines'
    → AreLeft o.bases c.asked now → TakesBase g.bytes now left g.base → LineGoes g.base w g.bytes w' r → is_broken r ≡ true → GoesOn once o.world c.given replies w c.run → LedSinceEach (from g r) o.world c.given replies w c.run → IsUnshared w
    → BrokeOff once from o lines' (replies ++ r ∷ []) w'
broken_on once from o lines lines' replies w c now left g r w' is are took last fails goes since apart =
    let t = timed_one o.bases now left c.asked g are took in
    record {
      comes = record {
        given = c.given ++ g ∷ [];
        are = bytes_push c.given g ∙ ap (λ l. l ++ g.bytes ∷ []) c.are ∙ is;
        asked = t.after;
        timed = timed_push o.bases 1 c.given c.asked g t.after c.timed t.timed;
        run = record { before = c.given; told = replies; mid = w; run = c.run; last = g; reply = r; lines_are = refl; replies_are = refl; goes = last; fails = fails };
      };
      goes = goes;
      since = since;
      unshared = apart;
    }

-- a run over bytes is a run over what they say
record HasRun (w : World) (replies : List (Option Reply)) (w' : World) : Type 0 where
  lines : List Asked
  run : Run w lines replies w'

has_run : (w : World) (gs : List Given) (replies : List (Option Reply)) (w' : World) → LineRun w gs replies w' → HasRun w replies w'
has_run w [] [] w' run = record { lines = []; run = run }
has_run w [] (r ∷ replies) w' run = absurd run
has_run w (g ∷ gs) [] w' run = absurd run
has_run w (g ∷ gs) (r ∷ replies) w' (mid, (said, heard, step), rest) =
    let x = has_run mid gs replies w' rest in
    record { lines = record { base = g.base; said = said } ∷ x.lines; run = (mid, step, x.run) }

pub line_run_caused : RunIsCaused → (w w' : World) (gs : List Given) (replies : List (Option Reply)) → LineRun w gs replies w' → FaultsAreCaused w w' replies
line_run_caused law w w' gs replies run = let x = has_run w gs replies w' run in law w w' x.lines replies x.run
