-- The reply to a round that ended early. (This project's rule.)

use Rattle.std.specs.Prelude.{◌≡◌, ◌⊎◌, List, Some, slice_get}
use Rattle.tier_base.specs.declared.code.Code.TheVariants as code
use Rattle.tier_base.specs.declared.number.TableId.{TableId}
use Rattle.row_types.specs.declared.rule.Detail.TheVariants as detail
use Rattle.row_types.specs.declared.value.Value.{Value}
use Rattle.table_defs.specs.declared.definition.TableDef.{TableDef}
use Rattle.propagators.specs.declared.rounds.RoundFault.{RoundFault}
use Rattle.propagators.specs.declared.rounds.RoundFault.TheVariants as stop
use Rattle.cache_tier.specs.declared.reply.Last.TheVariants.{Fault}
use Rattle.cache_tier.specs.declared.reply.Reply.{Reply}
use Rattle.cache_tier.specs.Worlds.{faulty, only}
use Rattle.stored_tier.specs.declared.tier.Tier.{Tier as Stored}

-- 210: the row at this key of this table, by its name, isn't as a transaction says
pub record TellsDifference (t : Stored) (table : TableId) (key : List Value) (reply : Reply) : Type 0 where
  pub def : TableDef
  pub there : slice_get t.schema table.0 ≡ Some def
  pub is : reply ≡ only (Fault (record { code = code.RowDiffers; detail = detail.Row def.name key }))

-- it tells why; where a row differs, memory may be wanting for the name of its table
abbrev pub TellsRoundEnd : Stored → RoundFault → Reply → Type 0
TellsRoundEnd t stop.Failed reply = reply ≡ faulty code.BackingFault
TellsRoundEnd t stop.Memory reply = reply ≡ faulty code.Memory
TellsRoundEnd t (stop.Differs table key) reply = TellsDifference t table key reply ⊎ (reply ≡ faulty code.Memory)
