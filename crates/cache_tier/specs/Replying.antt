-- The bytes of replies. (This project's rule: docs/REPLIES.md.)

use Rattle.std.specs.Prelude.{ℕ, List, [], ◌∷◌, ◌++◌, codes, Option, Some, None}
use Rattle.std.specs.List.{flat_map}
use Rattle.std.specs.Fmt.{decimal}
use Rattle.tier_base.specs.Codes.{number_of}
use Rattle.tier_base.specs.Limits.{word_of}
use Rattle.row_types.specs.declared.rule.Rule.{Rule}
use Rattle.row_types.specs.declared.rule.Detail.{Detail}
use Rattle.row_types.specs.declared.rule.Detail.TheVariants as detail
use Rattle.row_types.specs.declared.rule.Letter.{Letter}
use Rattle.row_types.specs.declared.rule.Letter.TheVariants as letter
use Rattle.row_types.specs.Printing.{printed_key}
use Rattle.cache_tier.specs.declared.reply.Reply.{Reply}
use Rattle.cache_tier.specs.declared.reply.Last.{Last}
use Rattle.cache_tier.specs.declared.reply.Last.TheVariants.{Done, No, Fault}
use Rattle.cache_tier.specs.declared.reply.Note.{Note}
use Rattle.cache_tier.specs.declared.reply.Note.TheVariants.{Committed, RolledBack, Propagate, Refresh}

-- the letter of a rule of definitions, from a to k
abbrev pub letter_byte : Letter → ℕ
letter_byte letter.A = 97
letter_byte letter.B = 98
letter_byte letter.C = 99
letter_byte letter.D = 100
letter_byte letter.E = 101
letter_byte letter.F = 102
letter_byte letter.G = 103
letter_byte letter.H = 104
letter_byte letter.I = 105
letter_byte letter.J = 106
letter_byte letter.K = 107

-- what stands behind a code, with a blank before it
abbrev pub detail_bytes : Detail → List ℕ
detail_bytes detail.Nothing = []
detail_bytes (detail.Byte n) = 32 ∷ decimal n
detail_bytes (detail.Name name) = 32 ∷ name
detail_bytes (detail.Row name key) = 32 ∷ name ++ 32 ∷ printed_key key
detail_bytes (detail.Label label) = 32 ∷ label
detail_bytes (detail.Letter l) = 32 ∷ letter_byte l ∷ []
detail_bytes (detail.Limit limit) = 32 ∷ word_of limit
detail_bytes detail.NoType = codes " -"

-- a code, and what stands behind it
abbrev pub rule_bytes : Rule → List ℕ
rule_bytes rule = decimal (number_of rule.code) ++ detail_bytes rule.detail

-- the last line of a reply
abbrev pub last_bytes : Last → List ℕ
last_bytes (Done n) = codes "ok " ++ (decimal n ++ 10 ∷ [])
last_bytes (No rule) = codes "no " ++ (rule_bytes rule ++ 10 ∷ [])
last_bytes (Fault rule) = codes "fault " ++ (rule_bytes rule ++ 10 ∷ [])

-- a line of due work: of a doubt 131 where the commit stands and 132 where it doesn't, of a round or a refresh its
-- fault
abbrev pub note_bytes : Note → List ℕ
note_bytes (Committed ticket) = codes "note 131 " ++ (decimal ticket.0 ++ 10 ∷ [])
note_bytes (RolledBack ticket) = codes "note 132 " ++ (decimal ticket.0 ++ 10 ∷ [])
note_bytes (Propagate code) = codes "note " ++ (decimal (number_of code) ++ codes " propagate\n")
note_bytes (Refresh code interval) =
    codes "note " ++ (decimal (number_of code) ++ (codes " refresh " ++ (decimal interval ++ 10 ∷ [])))

-- the bytes of a reply: its notes, its rows, its last line; a line without a reply has none
abbrev pub reply_bytes : Option Reply → List ℕ
reply_bytes None = []
reply_bytes (Some reply) = flat_map note_bytes reply.notes ++ (reply.rows ++ last_bytes reply.last)

abbrev pub replies_bytes : List (Option Reply) → List ℕ
replies_bytes replies = flat_map reply_bytes replies
