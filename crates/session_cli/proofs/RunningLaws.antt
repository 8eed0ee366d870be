-- A run goes on by a line.
use Rattle.std.proofs.Common.{◌≡◌, ◌+◌, ℕ, List, [], ◌∷◌, ◌++◌, true, false, Option, map, refl, sym, ◌∙◌, ap, subst, append_assoc, append-nil}
use Rattle.tier_base.specs.declared.number.TableId.{TableId}
use Rattle.outside.specs.Others.{is_shared}
use Rattle.outside.specs.Sites.{SiteState}
use Rattle.cache_tier.specs.declared.reply.Reply.{Reply}
use Rattle.cache_tier.specs.Worlds.{IsUnshared, World}
use Rattle.cache_engine.specs.declared.engine.Engine.{Engine}
use Rattle.cache_engine.specs.Engines.{IsLedTo, IsLeftIn}
use Rattle.stored_tier.specs.Sites.{IsAt}
use Rattle.cache_engine.specs.Requests.{Given, LineRun, LineStep}
use Rattle.script_maker.specs.Giving.{Gives}
use Rattle.session_cli.specs.declared.counts.Counts.{Counts}
use Rattle.session_cli.specs.Running.{Answered, Answers, Ends, Ran, from_zero}
use Rattle.session_cli.specs.Summaries.{counted}
use Rattle.session_cli.proofs.CountLaws.{counts_push}

run_push : (w : World) (gs : List Given) (rs : List (Option Reply)) (w1 : World) (g : Given) (r : Option Reply) (w2 : World) → LineRun w gs rs w1 → LineStep g.base w1 g.bytes w2 r → LineRun w (gs ++ g ∷ []) (rs ++ r ∷ []) w2
run_push w [] [] w1 g r w2 run step = (w2, subst (λ (x : World). LineStep g.base x g.bytes w2 r) run step, refl)
run_push w [] (r' ∷ rs) w1 g r w2 run step = absurd run
run_push w (g' ∷ gs) [] w1 g r w2 run step = absurd run
run_push w (g' ∷ gs) (r' ∷ rs) w1 g r w2 (mid, first, rest) step = (mid, first, run_push mid gs rs w1 g r w2 rest step)

from_push : (lines : List (List ℕ)) (line : List ℕ) → map from_zero lines ++ from_zero line ∷ [] ≡ map from_zero (lines ++ line ∷ [])
from_push [] line = refl
from_push (x ∷ lines) line = ap (λ l. from_zero x ∷ l) (from_push lines line)

ran_push : (w : World) (lines : List (List ℕ)) (line : List ℕ) (c c' : Counts) (w' : World) (engine : Engine) (site : SiteState) → Ran w lines c w' → (a : Answered w' line c c' engine site) → Ran w (lines ++ line ∷ []) c' a.world
ran_push w lines line c c' w' engine site r a = record {
  replies = r.replies ++ a.reply ∷ [];
  run = subst (λ (gs : List Given). LineRun w gs (r.replies ++ a.reply ∷ []) a.world) (from_push lines line)
      (run_push w (map from_zero lines) r.replies w' (from_zero line) a.reply a.world r.run a.step);
  counted = counts_push r.replies a.reply c c' a.count r.counted;
}

-- these lines are answered, and those are left
pub record GoesOn (w : World) (lines left : List (List ℕ)) (counts : Counts) (site : SiteState) (engine : Engine) : Type 0 where
  pub given : List (List ℕ)
  pub parts : given ++ left ≡ lines
  pub world : World
  pub ran : Ran w given counts world
  pub at : IsAt site world
  pub stands : IsLeftIn engine world

pub goes_new : (w : World) (lines left : List (List ℕ)) (counts : Counts) (site : SiteState) (engine : Engine) → left ≡ lines → counts ≡ record { requests = 0; done = 0; refused = 0; faults = 0 } → IsAt site w → IsLeftIn engine w → GoesOn w lines left counts site engine
goes_new w lines left counts site engine is none at stands = record {
  given = [];
  parts = is;
  world = w;
  ran = record { replies = []; run = refl; counted = rw none (record { requests = refl; done = refl; refused = refl; faults = refl }) };
  at = at;
  stands = stands;
}

pub goes_next : (w : World) (lines left left' : List (List ℕ)) (c c' : Counts) (site site' : SiteState) (engine engine' : Engine) (g : GoesOn w lines left c site engine) → Answers g.world left left' c c' engine' site' true → GoesOn w lines left' c' site' engine'
goes_next w lines [] left' c c' site site' engine engine' g a = let bad = a.0 in cc
goes_next w lines (line ∷ left) left' c c' site site' engine engine' g (more, is, a) = record {
  given = g.given ++ line ∷ [];
  parts = ap (λ l. (g.given ++ line ∷ []) ++ l) is ∙ append_assoc g.given (line ∷ []) left ∙ g.parts;
  world = a.world;
  ran = ran_push w g.given line c c' g.world engine' site' g.ran a;
  at = a.at;
  stands = a.stands;
}

pub goes_out : (w : World) (lines left left' : List (List ℕ)) (c c' : Counts) (site site' : SiteState) (engine engine' : Engine) (g : GoesOn w lines left c site engine) → Answers g.world left left' c c' engine' site' false → Ends w lines c' site'
goes_out w lines (line ∷ left) left' c c' site site' engine engine' g a = let bad = a.0 in cc
goes_out w lines [] left' c c' site site' engine engine' g (more, is, count, at, stands) = record {
  last = g.world;
  ran = subst (λ (x : Counts). Ran w lines x g.world) (sym count) (subst (λ (l : List (List ℕ)). Ran w l c g.world) (sym (append-nil g.given) ∙ g.parts) g.ran);
  at = at;
}

-- a line was put
pub answers_one : (w : World) (lines left : List (List ℕ)) (old new : List ℕ) (c c' : Counts) (reply : Option Reply) (engine : Engine) (site : SiteState) → Gives lines left old new true → old ≡ [] → c' ≡ counted reply c
    → IsLedTo engine site (λ w'. LineStep 0 w new w' reply) → Answers w lines left c c' engine site true
answers_one w [] left old new c c' reply engine site g clear count p = let bad = g.0 in cc
answers_one w (line ∷ lines) left old new c c' reply engine site g clear count p =
    let is : new ≡ line = g.2 ∙ ap (λ l. l ++ line) clear in (
      refl,
      g.1,
      record {
        reply = reply;
        world = p.world;
        step = subst (λ (l : List ℕ). LineStep 0 w l p.world reply) is p.is;
        at = p.at;
        stands = p.left;
        count = count;
      },
    )

-- others change nothing
pub unshared_at : (w : World) (site : SiteState) → IsAt site w → site.shared ≡ [] → IsUnshared w
unshared_at w site at none = λ t is.
    let bad : is_shared [] t ≡ true = subst (λ (l : List TableId). is_shared l t ≡ true) (at.shared ∙ none) is in
    cc
