-- An empty text reads as a table without members.
use Rattle.std.proofs.Common.{[], refl}
use Rattle.toml.specs.Data.{no_members}
use Rattle.toml.proofs.OnLiterals.{toml_on_literals}
use Rattle.command_line.proofs.settings.settings_law.Goals as goal

pub returns-clause-empty : goal.returns-clause-empty
unfolding toml_on_literals
returns-clause-empty c = (
  no_members,
  (([], (refl, refl)), refl),
  record {
    known = refl;
    workers = refl;
    propagate_ms = refl;
    clock = refl;
    start_ms = refl;
    lru_high = refl;
    lru_low = refl;
    lru_cycle_ms = refl;
    rotate_bytes = refl;
  },
)
