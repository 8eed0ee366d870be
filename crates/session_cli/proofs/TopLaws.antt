-- A run that doesn't begin.
use Rattle.std.proofs.Common.{◌≡◌, ◌⊎◌, ◌≤◌, ℕ, List, true, false, refl, sym, ◌∙◌, ap, inl, inr, arith}
use Rattle.command_line.specs.declared.command.Command.{Command}
use Rattle.command_line.specs.declared.command.Command.TheVariants.{Run, Check}
use Rattle.command_line.specs.declared.settings.Settings.{Settings}
use Rattle.command_line.specs.Keys.{AreBad, IsSetBy}
use Rattle.command_line.specs.Words.{Asks, Refuses}
use Rattle.session_cli.specs.declared.serving.Status.{Status}
use Rattle.session_cli.specs.declared.serving.Status.TheVariants.{Finished, SourceFailed, SinkFailed, DiskFailed, SchemaFailed, NoMemory, LineUnchecked, Damaged, Differs, InputTooLong}
use Rattle.session_cli.specs.Ends.{Unstarted, is_of_site, number_of, takes_none}

pub words_of : (words : List (List ℕ)) (settings : List ℕ) (status : ℕ) → Unstarted words settings status → status ≡ 1 → Refuses words
words_of words settings status (inl (one, refuses)) is = refuses
words_of words settings status (inr (inl (two, asks, bad))) is = absurd (omega arith)
words_of words settings status (inr (inr seven)) is = absurd (omega arith)

pub refused_of : (words : List (List ℕ)) (settings : List ℕ) (status : ℕ) → Unstarted words settings status → Refuses words → (status ≡ 1) ⊎ (status ≡ 7)
refused_of words settings status (inl (one, refuses)) is = inl one
refused_of words settings status (inr (inl (two, (command, asks), bad))) is = absurd (is asks.0)
refused_of words settings status (inr (inr seven)) is = inr seven

pub settings_of : (words : List (List ℕ)) (settings : List ℕ) (status : ℕ) → Unstarted words settings status → status ≡ 2 → ((command : Command) × Asks words command) × AreBad settings
settings_of words settings status (inl (one, refuses)) is = absurd (omega arith)
settings_of words settings status (inr (inl (two, asks, bad))) is = (asks, bad)
settings_of words settings status (inr (inr seven)) is = absurd (omega arith)

pub bad_of : (words : List (List ℕ)) (settings : List ℕ) (status : ℕ) → Unstarted words settings status → (command : Command) → Asks words command → (status ≡ 2) ⊎ (status ≡ 7)
bad_of words settings status (inl (one, refuses)) command asks = absurd (refuses asks.0)
bad_of words settings status (inr (inl (two, asked, bad))) command asks = inl two
bad_of words settings status (inr (inr seven)) command asks = inr seven

pub none_left : (words : List (List ℕ)) (settings : List ℕ) (status : ℕ) → Unstarted words settings status → (command : Command) → Asks words command → (s : Settings) → IsSetBy settings s → status ≡ 7
none_left words settings status (inl (one, refuses)) command asks s set = absurd (refuses asks.0)
none_left words settings status (inr (inl (two, asked, bad))) command asks s set = absurd (bad s set)
none_left words settings status (inr (inr seven)) command asks s set = seven

pub none_left_of : (words : List (List ℕ)) (settings : List ℕ) (status : ℕ) → Unstarted words settings status → Asks words Run ⊎ Asks words Check → (s : Settings) → IsSetBy settings s → status ≡ 7
none_left_of words settings status is (inl asks) s set = none_left words settings status is Run asks s set
none_left_of words settings status is (inr asks) s set = none_left words settings status is Check asks s set

-- no other status comes so
pub no_low : (words : List (List ℕ)) (settings : List ℕ) (status n : ℕ) → Unstarted words settings status → status ≡ n → 3 ≤ n → n ≤ 6 → ⊥
no_low words settings status n (inl (one, refuses)) is some few = absurd (omega arith)
no_low words settings status n (inr (inl (two, asked, bad))) is some few = absurd (omega arith)
no_low words settings status n (inr (inr seven)) is some few = absurd (omega arith)

pub no_high : (words : List (List ℕ)) (settings : List ℕ) (status n : ℕ) → Unstarted words settings status → status ≡ n → 8 ≤ n → ⊥
no_high words settings status n (inl (one, refuses)) is some = absurd (omega arith)
no_high words settings status n (inr (inl (two, asked, bad))) is some = absurd (omega arith)
no_high words settings status n (inr (inr seven)) is some = absurd (omega arith)

-- only one status has each of these numbers
pub is_disk : (status : Status) → number_of status ≡ 5 → status ≡ DiskFailed
is_disk DiskFailed is = refl
is_disk Finished is = absurd (omega arith)
is_disk SourceFailed is = absurd (omega arith)
is_disk SinkFailed is = absurd (omega arith)
is_disk SchemaFailed is = absurd (omega arith)
is_disk NoMemory is = absurd (omega arith)
is_disk LineUnchecked is = absurd (omega arith)
is_disk Damaged is = absurd (omega arith)
is_disk Differs is = absurd (omega arith)
is_disk InputTooLong is = absurd (omega arith)

pub is_schema : (status : Status) → number_of status ≡ 6 → status ≡ SchemaFailed
is_schema SchemaFailed is = refl
is_schema Finished is = absurd (omega arith)
is_schema SourceFailed is = absurd (omega arith)
is_schema SinkFailed is = absurd (omega arith)
is_schema DiskFailed is = absurd (omega arith)
is_schema NoMemory is = absurd (omega arith)
is_schema LineUnchecked is = absurd (omega arith)
is_schema Damaged is = absurd (omega arith)
is_schema Differs is = absurd (omega arith)
is_schema InputTooLong is = absurd (omega arith)

-- and so it is of those of a damaged journal and of a row that differs
pub is_damage : (status : Status) → (number_of status ≡ 8) ⊎ (number_of status ≡ 9) → (status ≡ Damaged) ⊎ (status ≡ Differs)
is_damage Damaged is = inl refl
is_damage Differs is = inr refl
is_damage Finished (inl e) = absurd (omega arith)
is_damage Finished (inr e) = absurd (omega arith)
is_damage SourceFailed (inl e) = absurd (omega arith)
is_damage SourceFailed (inr e) = absurd (omega arith)
is_damage SinkFailed (inl e) = absurd (omega arith)
is_damage SinkFailed (inr e) = absurd (omega arith)
is_damage DiskFailed (inl e) = absurd (omega arith)
is_damage DiskFailed (inr e) = absurd (omega arith)
is_damage SchemaFailed (inl e) = absurd (omega arith)
is_damage SchemaFailed (inr e) = absurd (omega arith)
is_damage NoMemory (inl e) = absurd (omega arith)
is_damage NoMemory (inr e) = absurd (omega arith)
is_damage LineUnchecked (inl e) = absurd (omega arith)
is_damage LineUnchecked (inr e) = absurd (omega arith)
is_damage InputTooLong (inl e) = absurd (omega arith)
is_damage InputTooLong (inr e) = absurd (omega arith)

-- nothing of the source is taken then
pub damage_untaken : (status : Status) → (number_of status ≡ 8) ⊎ (number_of status ≡ 9) → takes_none status ≡ true
damage_untaken status is = by (is_damage status is)
  where
    by : (status ≡ Damaged) ⊎ (status ≡ Differs) → takes_none status ≡ true
    by (inl e) = ap takes_none e
    by (inr e) = ap takes_none e

-- and the status is one of a site
pub damage_of_site : (status : Status) → (number_of status ≡ 8) ⊎ (number_of status ≡ 9) → is_of_site status ≡ true
damage_of_site status is = by (is_damage status is)
  where
    by : (status ≡ Damaged) ⊎ (status ≡ Differs) → is_of_site status ≡ true
    by (inl e) = ap is_of_site e
    by (inr e) = ap is_of_site e

pub never_of_site : (status other : Status) → is_of_site status ≡ false → status ≡ other → is_of_site other ≡ true → ⊥
never_of_site status other none is some = never (sym some ∙ ap is_of_site (sym is) ∙ none)
  where
    never : true ≡ false → ⊥
    never e = cc

pub never_both : true ≡ false → ⊥
never_both e = cc
