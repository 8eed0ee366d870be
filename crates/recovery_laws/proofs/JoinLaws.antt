-- Moments of one part of a request are moments of the whole.
use Rattle.std.proofs.Common.{◌≡◌, ◌⊎◌, inl, inr, List, []}
use Rattle.order_laws.specs.table_state.specs.declared.history.Entry.{Entry}
use Rattle.recovery_laws.specs.Notes.{Note}
use Rattle.recovery_laws.specs.Crashes.{AtMoment, Event, Path, World, done, flushes, given, then, with_flushed}
use Rattle.order_laws.specs.Commits.{pending}
use Rattle.order_laws.specs.Standing.{Stand, progress_of}
use Rattle.recovery_laws.specs.Notes.{groups_of, log_in, next_of}
use Rattle.recovery_laws.proofs.MatchLaws.{matched_stands}
use Rattle.recovery_laws.specs.Matching.{IsMatched, IsRecovered, Resumes}
use Rattle.recovery_laws.proofs.PushLaws.{pending_commits}

pub path_append : (w x y : World) → Path w x → Path x y → Path w y
path_append w _ y done q = q
path_append w x y (then {x = mid} e p) q = then e (path_append mid x y p q)

pub in_first : (w x y : World) (notes : List Note) (h : List Entry) → Path x y → AtMoment w x notes h → AtMoment w y notes h
in_first w x y notes h q at = record { mid = at.mid; before = at.before; behind = path_append at.mid x y at.behind q; notes_are = at.notes_are; history_is = at.history_is }

pub in_second : (w x y : World) (notes : List Note) (h : List Entry) → Path w x → AtMoment x y notes h → AtMoment w y notes h
in_second w x y notes h p at = record { mid = at.mid; before = path_append w x at.mid p at.before; behind = at.behind; notes_are = at.notes_are; history_is = at.history_is }

-- an event alone: before it or behind it
pub at_event : (w x : World) (notes : List Note) (h : List Entry) → Event w x → ((notes ≡ w.flushed) × (h ≡ w.history)) ⊎ ((notes ≡ x.flushed) × (h ≡ x.history)) → AtMoment w x notes h
at_event w x notes h e (inl before) = record { mid = w; before = done; behind = then e done; notes_are = before.0; history_is = before.1 }
at_event w x notes h e (inr behind) = record { mid = x; before = then e done; behind = done; notes_are = behind.0; history_is = behind.1 }

-- what the tier's pipeline begins with after a recovery: the transactions stand, and nothing is unsettled
pub record Begins (notes : List Note) (later : List Entry) : Type 0 where
  pub stand : Stand (progress_of (groups_of notes) later (log_in later notes) (next_of notes))
  pub rest : pending later (log_in later notes) ≡ pending later []

pub begins : (notes : List Note) (h later : List Entry) → IsRecovered notes h later → Begins notes later
begins notes h later r = record { stand = matched_stands notes later r.matched; rest = r.none }

pub resumes : (notes : List Note) (h : List Entry) → IsMatched notes h → Resumes notes h
resumes notes h m = record { stand = matched_stands notes h m; rest = pending_commits h notes }

-- the tail is flushed as a batch, and a crash in it leaves what was flushed, or all
pub flush_moment : (w : World) (notes : List Note) (h : List Entry) → h ≡ w.history → (notes ≡ w.flushed) ⊎ (notes ≡ given w) → AtMoment w (with_flushed (given w) w) notes h
flush_moment w notes h same (inl e) = at_event w (with_flushed (given w) w) notes h flushes (inl (e, same))
flush_moment w notes h same (inr e) = at_event w (with_flushed (given w) w) notes h flushes (inr (e, same))
