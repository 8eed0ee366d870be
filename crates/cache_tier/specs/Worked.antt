-- Worked examples, computed: what the definitions say of small cases whose answers are known from elsewhere.

use Rattle.std.specs.Prelude.{◌≡◌, ℕ, pos, List, [], ◌∷◌, true, false, Some, None}
use Rattle.expressions.specs.declared.condition.Comparator.TheVariants as is
use Rattle.row_types.specs.declared.value.Value.{Value}
use Rattle.row_types.specs.declared.value.Value.TheVariants.{Null, Number, Time}
use Rattle.tier_base.specs.declared.number.TableId.{TableId}
use Rattle.table_state.specs.declared.operation.Op.TheVariants.{Insert}
use Rattle.resolution.specs.Placing.{PlacedCondition}
use Rattle.resolution.specs.Placing as placed
use Rattle.cache_tier.specs.Aging.{horizon_at, is_over, later, leaving}
use Rattle.cache_tier.specs.DueWork.{with_number}
use Rattle.cache_tier.specs.Groups.{used, with_keys}
use Rattle.cache_tier.specs.Journals.{Commits, Marks, JournalEntry, flushed_with, entry_size, new_journal, rotated}
use Rattle.cache_tier.specs.Shown.{is_past}
use Rattle.cache_tier.specs.Wants.{key_given, want_of}

-- a whole number
abbrev pub whole : ℕ → Value
whole n = Number (record { units = pos n; scale = 0 })

abbrev pub key : ℕ → List Value
key n = whole n ∷ []

abbrev pub table : ℕ → TableId
table n = record { 0 = n }

-- three instances, used in the order 1, 2, 1, 3; with marks 2 and 1 a cycle leaves the third
pub record LastUseExample : Type 0 where
  pub order : used (key 1) (key 1 ∷ key 2 ∷ []) ≡ key 2 ∷ key 1 ∷ []
  pub comes : with_keys (key 3 ∷ []) (key 2 ∷ key 1 ∷ []) ≡ key 2 ∷ key 1 ∷ key 3 ∷ []
  pub leave : leaving 2 1 (λ k. false) (key 2 ∷ key 1 ∷ key 3 ∷ []) ≡ key 2 ∷ key 1 ∷ []
  pub few : leaving 3 1 (λ k. false) (key 2 ∷ key 1 ∷ key 3 ∷ []) ≡ []

-- a lifetime of a minute at the moment 120,000: the horizon is second 60, and an age of exactly that leaves
pub record TimeExample : Type 0 where
  pub horizon : later None (horizon_at 120000 (record { column = 1; lifetime = 60; cycle = 60 })) ≡ pos 60
  pub at_it : is_past (Some (pos 60)) (Time (pos 60)) ≡ false
  pub past_it : is_past (Some (pos 60)) (Time (pos 61)) ≡ true
  pub due : is_over 120000 0 60000 ≡ true

-- a set of five seconds is due at 5,000 and not before
pub record SetExample : Type 0 where
  pub due : is_over 5000 0 5000 ≡ true
  pub before : is_over 4999 0 5000 ≡ false
  pub rising : with_number 5000 (with_number 300000 (with_number 5000 [])) ≡ 5000 ∷ 300000 ∷ []

abbrev pub column_is : ℕ → ℕ → PlacedCondition
column_is place n = placed.Compared is.Equal (placed.Column place) (placed.Literal (whole n))

abbrev pub turned : ℕ → ℕ → PlacedCondition
turned place n = placed.Compared is.Equal (placed.Literal (whole n)) (placed.Column place)

-- `column = literal` as written makes a want, in a conjunction, the first literal of a column; OR and `1 = ID` make
-- none, and NULL names no key
pub record WantExample : Type 0 where
  pub one : key_given (0 ∷ []) (column_is 0 1) ≡ Some (key 1)
  pub first :
      key_given (0 ∷ []) (placed.And (column_is 1 7) (placed.And (column_is 0 1) (column_is 0 2))) ≡ Some (key 1)
  pub either : key_given (0 ∷ []) (placed.Or (column_is 0 1) (column_is 0 2)) ≡ None
  pub turned_round : key_given (0 ∷ []) (turned 0 1) ≡ None
  pub half : key_given (0 ∷ 1 ∷ []) (column_is 0 1) ≡ None
  pub null : want_of (table 0) (Null ∷ []) ≡ None

-- the commit of (3, 30) into A is an entry of 33 bytes; flushed as the first batch it makes a slot of 49; a slot
-- begun anew with the mark alone has 25
abbrev pub first_commit : JournalEntry
first_commit =
    Commits
    (record { ticket = record { 0 = 1 }; ops = Insert (table 0) (whole 3 ∷ whole 30 ∷ []) ∷ [] })

pub record JournalExample : Type 0 where
  pub entry : entry_size (λ op. 1) first_commit ≡ 33
  pub slot : (flushed_with (λ op. 1) (first_commit ∷ []) new_journal).written ≡ 49
  pub mark : (rotated (λ op. 1) (Marks 1 ∷ []) new_journal).written ≡ 25
