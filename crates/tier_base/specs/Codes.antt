-- The numbers of reply codes (this project's rule).

use Rattle.std.specs.Prelude.{ℕ}
use Rattle.tier_base.specs.declared.code.Code.{Code}
use Rattle.tier_base.specs.declared.code.Code.TheVariants as code

-- the number that a reply prints for the code
abbrev pub number_of : Code → ℕ
number_of code.Syntax = 101
number_of code.UnknownTable = 102
number_of code.UnknownColumn = 103
number_of code.TypeMismatch = 104
number_of code.OutOfRange = 105
number_of code.NullNotAllowed = 106
number_of code.KeyExists = 107
number_of code.ParentMissing = 108
number_of code.ChildExists = 109
number_of code.ReadOnly = 110
number_of code.Locked = 111
number_of code.UnknownGroup = 112
number_of code.NameInUse = 113
number_of code.DefinitionRule = 114
number_of code.WrongState = 115
number_of code.NotEmpty = 116
number_of code.MixedWrites = 117
number_of code.KeyColumnSet = 118
number_of code.Limit = 119
number_of code.Overflow = 120
number_of code.WritethroughTable = 121
number_of code.TransactionOpen = 122
number_of code.UnknownSession = 123
number_of code.DoubtCommitted = 131
number_of code.DoubtRolledBack = 132
number_of code.BackingFault = 201
number_of code.JournalFault = 202
number_of code.RowDiffers = 210
number_of code.Memory = 299
