-- What a query is answered on a state. (TimesTen SQL Reference, "SELECT".)

use Rattle.std.specs.Prelude.{◌≡◌, List, Result, Ok, Err}
use Rattle.row_types.specs.declared.rule.Refused.{Refused}
use Rattle.row_types.specs.declared.rule.Refused.TheVariants as refused
use Rattle.row_types.specs.declared.value.Value.{Value}
use Rattle.table_state.specs.Tables.{TableState}
use Rattle.resolution.specs.declared.resolved.ResolvedQuery.{ResolvedQuery}
use Rattle.cache_tier.specs.declared.reply.Reply.{Reply}
use Rattle.cache_tier.specs.SelectSteps.{AnswersQuery, rows_reply}

-- the reply has the rows of the answer and their number
pub record IsAnswered (query : ResolvedQuery) (s : TableState) (reply : Reply) : Type 0 where
  pub rows : List (List Value)
  pub answers : AnswersQuery query s (Ok rows)
  pub is : reply ≡ rows_reply rows

-- the query is answered, or the first rule that it breaks is told; memory may be wanting at any time
abbrev pub IsAnswerTo : ResolvedQuery → TableState → Result Reply Refused → Type 0
IsAnswerTo query s (Ok reply) = IsAnswered query s reply
IsAnswerTo query s (Err (refused.Rule rule)) = AnswersQuery query s (Err rule)
IsAnswerTo query s (Err refused.Memory) = Unit {0}
