use Rattle.cache_tier.proofs.TableLaws.{schema_is_told, table_comes, table_joins}
use Rattle.cache_tier.proofs.defining.table_shown_law.Goals as goal

pub returns : goal.returns
returns c = record { told = table_joins; untold = table_comes; schema = schema_is_told }
