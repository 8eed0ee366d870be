-- Limits and their words (this project's rule).

use Rattle.std.specs.Prelude.{ℕ, List, ◌^◌, ◌-◌, codes}
use Rattle.tier_base.specs.declared.limit.Limit.{Limit}
use Rattle.tier_base.specs.declared.limit.Limit.TheVariants as limit

-- the greatest number that stays within the limit
abbrev pub greatest : Limit → ℕ
greatest limit.Line = 65536
greatest limit.Sessions = 64
greatest limit.Groups = 64
greatest limit.Tables = 256
greatest limit.Columns = 64
greatest limit.KeyColumns = 4
greatest limit.From = 4
greatest limit.Rows = 1000000
greatest limit.Product = 10000000
greatest limit.Answer = 100000
greatest limit.Operations = 10000
greatest limit.Pending = 4096
greatest limit.Tickets = 2 ^ 63 - 1
greatest limit.JournalBatch = 2 ^ 24
greatest limit.JournalSlot = 2 ^ 30
greatest limit.Clock = 253402300799000
greatest limit.Depth = 32

-- the word that a reply prints for the limit
abbrev pub word_of : Limit → List ℕ
word_of limit.Line = codes "line"
word_of limit.Sessions = codes "sessions"
word_of limit.Groups = codes "groups"
word_of limit.Tables = codes "tables"
word_of limit.Columns = codes "columns"
word_of limit.KeyColumns = codes "columns"
word_of limit.From = codes "from"
word_of limit.Rows = codes "rows"
word_of limit.Product = codes "product"
word_of limit.Answer = codes "answer"
word_of limit.Operations = codes "ops"
word_of limit.Pending = codes "pending"
word_of limit.Tickets = codes "tickets"
word_of limit.JournalBatch = codes "journal"
word_of limit.JournalSlot = codes "journal"
word_of limit.Clock = codes "clock"
word_of limit.Depth = codes "depth"
