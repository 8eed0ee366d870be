-- The run of FirstRun.
use Rattle.std.proofs.Common.{ℕ, List, [], ◌∷◌, None, inl, refl, arith}
use Rattle.std.specs.Prelude.{codes, false}
use Rattle.cache_tier.specs.declared.reply.Last.TheVariants.{Done}
use Rattle.cache_tier.specs.DueWork.{DueWork}
use Rattle.cache_tier.specs.FirstRun.{FirstRun, defaults, start}
use Rattle.cache_tier.specs.TierStates.{Session, opened}
use Rattle.cache_tier.specs.Worlds.{World, only}

-- the world with this moment and these sessions
abbrev at : ℕ → List Session → World
at n sessions = record start { tier = record (opened defaults 0 []) { now = n; added = n; sessions = sessions } }

-- nothing is due
idle : (n : ℕ) (sessions : List Session) → DueWork (at n sessions) (at n sessions) [] None
idle n sessions =
    record {
      mid = at n sessions;
      before = [];
      behind = [];
      end = None;
      first = (refl, refl, refl);
      next = record {
        mid = at n sessions;
        before = [];
        behind = [];
        end = None;
        first = record { end = None; does = (refl, refl); told = refl; ends = refl };
        next = record { mid = at n sessions; before = []; behind = []; end = None; first = (refl, refl, refl); next = (refl, refl, refl); all = refl };
        all = refl;
      };
      all = refl;
    }

abbrev one : Session
one = record { label = codes "s1"; level = 0; flag = None; durable = false; own = [] }

pub first_run : FirstRun
first_run = (
  at 0 (one ∷ []),
  (
    record { bank = (omega arith, omega arith); disk = (omega arith, omega arith) },
    inl (record { due = at 0 []; notes = []; stop = None; last = only (Done 0); works = idle 0 []; does = inl (record { mid = at 0 []; stop = None; first = (refl, refl); next = inl (refl, refl) }); answer = refl }),
  ),
  (
    at 0 (one ∷ []),
    (
      record { bank = (omega arith, omega arith); disk = (omega arith, omega arith) },
      inl (record { due = at 0 (one ∷ []); notes = []; stop = None; last = only (Done 0); works = idle 0 (one ∷ []); does = inl (record { mid = at 0 (one ∷ []); stop = None; first = (refl, refl); next = inl (refl, refl) }); answer = refl }),
    ),
    (
      at 5 (one ∷ []),
      (
        record { bank = (omega arith, omega arith); disk = (omega arith, omega arith) },
        inl (record { due = at 5 (one ∷ []); notes = []; stop = None; last = only (Done 5); works = idle 5 (one ∷ []); does = inl (record { mid = at 5 (one ∷ []); stop = None; first = (refl, refl); next = inl (refl, refl) }); answer = refl }),
      ),
      (
        at 5 [],
        (
          record { bank = (omega arith, omega arith); disk = (omega arith, omega arith) },
          inl (record { due = at 5 (one ∷ []); notes = []; stop = None; last = only (Done 0); works = idle 5 (one ∷ []); does = inl (record { mid = at 5 (one ∷ []); stop = None; first = (refl, refl); next = inl (refl, refl) }); answer = refl }),
        ),
        (
          at 5 [],
          (record { bank = (omega arith, omega arith); disk = (omega arith, omega arith) }, inl (refl, refl)),
          refl,
        ),
      ),
    ),
  ),
)
