-- A synchronous transaction at the backing database: what is shown where it came, and where only its ticket was drawn.
use Rattle.std.proofs.Common.{◌≡◌, ◌≤◌, ◌^◌, ◌+◌, ℕ, Bool, true, false, cond, not, ◌||◌, Some, List, [], ◌∷◌, ◌++◌, map, refl, sym, ap, subst, ◌∙◌, arith}
use Rattle.std.specs.List.{filter}
use Rattle.std.proofs.lemmas.Bool.{eq-eqb}
use Rattle.std.proofs.lemmas.List.{append-nil}
use Rattle.tier_base.specs.declared.number.TableId.{TableId}
use Rattle.table_state.specs.declared.history.Entry.{Entry}
use Rattle.table_state.specs.declared.history.Sealed.{Sealed}
use Rattle.table_state.specs.declared.operation.Op.{Op}
use Rattle.table_state.specs.Histories.{entry_of, has_ticket, is_of}
use Rattle.table_state.specs.Operations.{applied_all}
use Rattle.table_state.specs.Tables.{TableState}
use Rattle.outside.specs.Bank.{Grows}
use Rattle.outside.specs.Others.{AreOthers, Around}
use Rattle.order_laws.specs.Commits.{is_pending, pending}
use Rattle.order_laws.specs.Standing.{Progress, live_tables}
use Rattle.order_laws.specs.Steps.{with_next}
use Rattle.order_laws.proofs.TruthLaws.{same_some}
use Rattle.order_laws.specs.Events.{Came, Event, Follows, IsNext, IsSettled, Left}
use Rattle.order_laws.specs.Pipelines.{Pipeline}
use Rattle.cache_tier.specs.CommitSteps.{committed, committed_unsettled, sealed_own}
use Rattle.cache_tier.specs.Groups.{Group, is_synchronous, is_table_of, is_writethrough}
use Rattle.cache_tier.specs.PassedSteps.{with_ticket}
use Rattle.cache_tier.specs.Recency.{with_commit}
use Rattle.cache_tier.specs.Shown.{no_rows, shown_state}
use Rattle.cache_tier.specs.TierStates.{Session, session_of}
use Rattle.cache_tier.specs.Worlds.{IsUnshared, World}
use Rattle.cache_tier.specs.Events.{StaysShown, TakesOwn, at_history, settled_to, with_tier}
use Rattle.cache_tier.specs.StandingBetween.{HasKeys, Each, HaveWritten, Stands, live_groups_of, progress_in}
use Rattle.cache_tier.proofs.GroupPairs.{IsKept, pairs_mapped, same_tables}
use Rattle.stored_tier.specs.Stored.{are_later, are_on}
use Rattle.session_engine.proofs.KindLaws.{none_conflicts}
use Rattle.stored_tier.proofs.OthersLaws.{came_by}

-- the laws of a commit, of others' transactions, of a round, and of a ticket that is given to nothing

abbrev pub CommitLaw : Type 0
CommitLaw =
    (w : World) (s : Session) → Stands w → session_of w.tier s.label ≡ Some s → w.tier.next + 1 ≤ 2 ^ 63
    → TakesOwn s.own w (with_tier (committed_unsettled (sealed_own w.tier s) s.label w.tier) w)

abbrev pub OthersLaw : Type 0
OthersLaw =
    (w : World) (entries : List Entry) → Stands w → IsUnshared w
    → AreOthers w.shared w.history entries → StaysShown w (at_history (w.history ++ entries) w)

abbrev pub RoundLaw : Type 0
RoundLaw =
    (w : World) (x : Stands w) (events : List Event) (later : List Entry) (left : List Sealed) (moment : ℕ)
    → Follows x.flow.stand.over.backing.schema (live_tables (live_groups_of w.tier.groups)) events w.history w.tier.unsettled later left
    → StaysShown w (settled_to left moment (at_history later w))

abbrev pub SkipLaw : Type 0
SkipLaw = (p : Progress) (us : List Sealed) (later : ℕ) → p.next ≤ later → later ≤ 2 ^ 63 → Pipeline p us → Pipeline (with_next p later) us

pub record AreLaws : Type 0 where
  pub commit : CommitLaw
  pub others : OthersLaw
  pub round : RoundLaw
  pub skip : SkipLaw

-- a ticket is drawn

pub drawn : SkipLaw → (w : World) → Stands w → w.tier.next + 1 ≤ 2 ^ 63 → StaysShown w (with_tier (with_ticket w.tier) w)
drawn law w x room =
    let flow : Pipeline (progress_in (with_tier (with_ticket w.tier) w)) w.tier.unsettled = law (progress_in w) w.tier.unsettled (w.tier.next + 1) (omega arith) room x.flow in
    let same : flow.stand.over.virtual ≡ x.flow.stand.over.virtual = same_some (sym flow.stand.over.virtual_is ∙ x.flow.stand.over.virtual_is) in
    record {
      stands = record {
        flow = flow;
        schema = record { front = x.schema.front; whole = x.schema.whole };
        catalog = record { each = x.catalog.each; apart = x.catalog.apart };
        keys = subst (λ v. Each (HasKeys v) w.tier.groups) (sym same) x.keys;
        read = x.read;
        sessions = subst (λ v. HaveWritten v (shown_state w.history w.tier) w.tier.groups w.tier.sessions) (sym same) x.sessions;
      };
      same = refl;
    }

-- a transaction comes to a history

or_last : (a b c : Bool) → (b ≡ true → c ≡ true) → (a || b) ≡ true → (a || c) ≡ true
or_last true b c more e = refl
or_last false b c more e = more e

or_right : (a b : Bool) → b ≡ true → (a || b) ≡ true
or_right true b e = refl
or_right false b e = e

pub stands_last : (h : List Entry) (x : Sealed) → has_ticket x.ticket.0 (h ++ entry_of x ∷ []) ≡ true
stands_last [] x = ap (λ b. b || false) (eq-eqb x.ticket.0 x.ticket.0 refl)
stands_last (e ∷ h) x = or_right (is_of x.ticket.0 e) (has_ticket x.ticket.0 (h ++ entry_of x ∷ [])) (stands_last h x)

last_left : {X : Type 0} (p : X → Bool) (xs : List X) (x : X) → p x ≡ true → filter p (xs ++ x ∷ []) ≡ filter p xs ++ x ∷ []
last_left p [] x e = ap (λ b. cond b (x ∷ []) []) e
last_left {X = X} p (y ∷ xs) x e = by (p y) (last_left p xs x e)
  where
    by : (b : Bool) → filter p (xs ++ x ∷ []) ≡ filter p xs ++ x ∷ [] → cond b (y ∷ filter p (xs ++ x ∷ [])) (filter p (xs ++ x ∷ [])) ≡ cond b (y ∷ filter p xs) (filter p xs) ++ x ∷ []
    by true rest = ap (λ ys. y ∷ ys) rest
    by false rest = rest

-- a commit changes no group's definition

commit_kept : (rows : TableState) (ops : List Op) (g : Group) → IsKept g (with_commit rows ops g)
commit_kept rows ops g = by (is_writethrough g)
  where
    by : (b : Bool) → IsKept g (cond b (record g { keys = Rattle.cache_tier.specs.Recency.with_entered (Rattle.std.specs.FinMap.keys (Rattle.cache_tier.specs.Recency.entered rows g ops)) (Rattle.std.specs.List.flat_map (Rattle.cache_tier.specs.Recency.left_by rows g) ops) g.keys }) g)
    by true = record { def = refl; first = refl }
    by false = record { def = refl; first = refl }

pub same_written : (rows : TableState) (ops : List Op) (groups : List Group) (t : TableId) → is_table_of is_writethrough (map (with_commit rows ops) groups) t ≡ is_table_of is_writethrough groups t
same_written rows ops groups t = same_tables groups (map (with_commit rows ops) groups) (pairs_mapped IsKept (with_commit rows ops) (commit_kept rows ops) groups) t

-- the world behind a synchronous commit
abbrev pub came_to : World → Session → List Entry → World
came_to w s later = at_history later (with_tier (committed (sealed_own w.tier s) s.label (with_ticket w.tier)) w)

-- what is shown behind the call

module _ (laws : AreLaws) (w : World) (s : Session) (stands : Stands w) (unshared : IsUnshared w) (there : session_of w.tier s.label ≡ Some s) (room : w.tier.next + 1 ≤ 2 ^ 63) where
  -- others came
  pub none_came : (step : List Entry → List Entry → Type 0) (later : List Entry) → ((o n : List Entry) → step o n → Grows [] o n) → Around w.shared step w.history later → StaysShown w (with_tier (with_ticket w.tier) (at_history later w))
  none_came step later reads around =
      let came = came_by w.shared step w.history later reads around in
      let one = laws.others w came.entries stands unshared came.others in
      let both = drawn laws.skip (at_history (w.history ++ came.entries) w) one.stands room in
      subst (λ h. StaysShown w (with_tier (with_ticket w.tier) (at_history h w))) (sym came.is) (record { stands = both.stands; same = both.same ∙ one.same })

  -- it came, with others before and behind it
  module _ (later : are_later w.tier.groups w.tier.unsettled ≡ true) (on : are_on is_synchronous w.tier.groups s.own ≡ true) (before behind : List Entry) (came_before : AreOthers w.shared w.history before)
      (came_behind : AreOthers w.shared ((w.history ++ before) ++ entry_of (sealed_own w.tier s) ∷ []) behind) where
    abbrev pub front : List Entry
    front = w.history ++ before

    one : StaysShown w (at_history front w)
    one = laws.others w before stands unshared came_before

    two : TakesOwn s.own (at_history front w) (with_tier (committed_unsettled (sealed_own w.tier s) s.label w.tier) (at_history front w))
    two = laws.commit (at_history front w) s one.stands there room

    fresh : has_ticket w.tier.next front ≡ false
    fresh = one.stands.flow.stand.over.below w.tier.next (omega arith)

    next : IsNext two.stands.flow.stand.over.backing.schema front (w.tier.unsettled ++ sealed_own w.tier s ∷ []) (sealed_own w.tier s)
    next = record {
      before = pending front w.tier.unsettled;
      behind = [];
      is = last_left (is_pending front) w.tier.unsettled (sealed_own w.tier s) (ap not fresh);
      fresh = fresh;
      meets =
          subst (λ (st : TableState). Rattle.order_laws.specs.Commits.NoneConflicts st.schema (pending front w.tier.unsettled) (sealed_own w.tier s)) (same_some (sym one.stands.flow.stand.over.leaves ∙ two.stands.flow.stand.over.leaves))
          (none_conflicts w.tier.groups front w.tier.log w.tier.unsettled one.stands.flow.stand.over.backing.schema w.tier.next (sealed_own w.tier s) one.stands.catalog.apart one.stands.flow.stand.over.ordered later on);
    }

    abbrev gone : IsSettled (front ++ entry_of (sealed_own w.tier s) ∷ []) (w.tier.unsettled ++ sealed_own w.tier s ∷ []) (sealed_own w.tier s)
    gone = record { before = w.tier.unsettled; behind = []; is = refl; stands = stands_last front (sealed_own w.tier s) }

    three : StaysShown (with_tier (committed_unsettled (sealed_own w.tier s) s.label w.tier) (at_history front w)) (came_to w s (front ++ entry_of (sealed_own w.tier s) ∷ []))
    three =
        laws.round (with_tier (committed_unsettled (sealed_own w.tier s) s.label w.tier) (at_history front w)) two.stands (Came (sealed_own w.tier s) ∷ Left (sealed_own w.tier s) ∷ []) (front ++ entry_of (sealed_own w.tier s) ∷ []) w.tier.unsettled w.tier.round
        (next, (gone, (refl, sym (append-nil w.tier.unsettled))))

    still : IsUnshared (came_to w s (front ++ entry_of (sealed_own w.tier s) ∷ []))
    still = λ t shares. same_written (no_rows (with_ticket w.tier)) s.own w.tier.groups t ∙ unshared t shares

    four : StaysShown (came_to w s (front ++ entry_of (sealed_own w.tier s) ∷ [])) (came_to w s ((front ++ entry_of (sealed_own w.tier s) ∷ []) ++ behind))
    four = laws.others (came_to w s (front ++ entry_of (sealed_own w.tier s) ∷ [])) behind three.stands still came_behind

    pub came_stands : Stands (came_to w s ((front ++ entry_of (sealed_own w.tier s) ∷ []) ++ behind))
    came_stands = four.stands

    pub came_leads : applied_all s.own (shown_state w.history w.tier) ≡ Some (shown_state ((front ++ entry_of (sealed_own w.tier s) ∷ []) ++ behind) (committed (sealed_own w.tier s) s.label (with_ticket w.tier)))
    came_leads = ap (applied_all s.own) (sym one.same) ∙ two.leads ∙ ap Some (sym (four.same ∙ three.same))

  -- a ticket that isn't used stands in no history with others behind it
  pub unused : (before : List Entry) → AreOthers w.shared w.history before → has_ticket w.tier.next (w.history ++ before) ≡ false
  unused before came = (laws.others w before stands unshared came).stands.flow.stand.over.below w.tier.next (omega arith)
