-- A rotation is an event.
use Rattle.std.proofs.Common.{◌≡◌, ◌≤◌, List, [], ◌++◌, map, max, arith, true, ℕ, sym, ap, subst, ◌∙◌, append-nil}
use Rattle.order_laws.specs.table_state.specs.declared.history.Sealed.{Sealed}
use Rattle.order_laws.specs.Commits.{pending}
use Rattle.order_laws.specs.Sides.{all_on}
use Rattle.order_laws.specs.Standing.{Stand, live_tables, progress_of}
use Rattle.recovery_laws.specs.Notes.{Commit, catalog_of, groups_of, log_in, mark_of, next_of}
use Rattle.recovery_laws.specs.Crashes.{Among, AreHeld, Event, Stands, World, given, rotates, with_flushed}
use Rattle.recovery_laws.specs.Rotations.{AllLater, definitions, flags_of, rotated}
use Rattle.recovery_laws.proofs.CrashLaws.{held_more, more_commits, rotation_holds}
use Rattle.recovery_laws.proofs.RotateLaws.{rotation_matches}

pub rotation_event : (w : World) (early : List Sealed) (fs : List (List ℕ × ℕ)) (u : List Sealed) (next : ℕ) → Stands w early → w.late ≡ [] → next_of (given w) ≤ next → AllLater (groups_of (given w)) u → all_on (live_tables (groups_of (given w))) u ≡ true → Stand (progress_of (groups_of (given w)) w.history u next)
    → ((s : Sealed) → Among s (pending w.history (log_in w.history (given w))) → Among s u) → Event w (with_flushed (rotated next (catalog_of (given w)).groups fs u) w)
rotation_event w early fs u next st nothing le later on stand all =
    let gs = (catalog_of (given w)).groups in
    let commits : w.commits ≡ early = st.are ∙ ap (λ l. early ++ l) nothing ∙ append-nil early in
    let held : AreHeld (given w) w.history early = held_more w.flushed (given w) w.history w.history early (λ s a. more_commits w.flushed (map Commit w.late) s a) (λ t s e. e) st.held in
    rotates (rotated next gs fs u) nothing (higher (next_of (given w)) next (mark_of (definitions gs ++ (flags_of fs ++ map Commit u))) (catalog_of (rotated next gs fs u)).next le) (rotation_matches (given w) w.history fs u next st.matched le later on stand) (subst (AreHeld (rotated next gs fs u) w.history) (sym commits) (rotation_holds (given w) w.history next gs fs u early st.matched all held))
  where
    higher : (a n m k : ℕ) → a ≤ n → a ≤ max (max n m) k
    higher a n m k le = omega (arith, le)
