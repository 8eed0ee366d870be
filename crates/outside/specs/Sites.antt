-- What is known of a site. (This project's model of disk and backing database.)

use Rattle.std.specs.Prelude.{ℕ, List, Option}
use Rattle.tier_base.specs.declared.number.TableId.{TableId}
use Rattle.outside.specs.Holding.{Held}

-- What a read gives of the slots, and what is kept beside them, where that is told; how often the disk and the bank
-- have failed, counts that never fall and stay at 2^64 - 1; the present moment, which never falls; and the tables of
-- what is kept beside the slots that others change, too. Others change no other table, and define nothing.
pub record SiteState : Type 0 where
  pub held : Option Held
  pub disk_faults : ℕ
  pub bank_faults : ℕ
  pub moment : ℕ
  pub shared : List TableId
