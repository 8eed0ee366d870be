-- What is due before a line keeps what holds where a part begins.
use Rattle.std.proofs.Common.{◌≡◌, inl, inr, ℕ, ◌+◌, ◌≤◌, Bool, true, false, cond, ◌&&◌, ◌||◌, not, Option, Some, None, Result, Ok, Err, List, [], ◌∷◌, ◌++◌, filter, length, take, refl, sym, ap, subst, ◌∙◌, arith, append-nil}
use Rattle.std.specs.List.{list_all}
use Rattle.std.proofs.lemmas.List.{length-append}
use Rattle.table_state.specs.declared.history.Entry.{Entry}
use Rattle.table_state.specs.declared.history.Sealed.{Sealed}
use Rattle.table_state.specs.Histories.{state_at, state_of}
use Rattle.table_state.specs.Tables.{TableState}
use Rattle.order_laws.proofs.TruthLaws.{both_true}
use Rattle.outside.specs.Bank.{Grows, TellsSchema}
use Rattle.outside.specs.Others.{Around}
use Rattle.outside.specs.declared.fault.BankError.{BankError}
use Rattle.table_defs.specs.declared.definition.TableDef.{TableDef}
use Rattle.sql_subset.specs.declared.request.Line.{Line}
use Rattle.cache_tier.specs.Aging.{after_aging}
use Rattle.cache_tier.specs.ConsoleSteps.{Asked, AsksSchema, asks_schema, told}
use Rattle.cache_tier.specs.declared.reply.Note.{Note}
use Rattle.cache_tier.specs.declared.reply.Reply.{Reply}
use Rattle.cache_tier.specs.DueWork.{DueAging, DueRound, DueSets, DueSetsOf, ItemFollows, Noted, due_sets, is_round_due}
use Rattle.cache_tier.specs.Events.{at_history, with_tier}
use Rattle.cache_tier.specs.Groups.{Group, is_read_only}
use Rattle.cache_tier.specs.JournalSteps.{Flushes, FlushesKept}
use Rattle.cache_tier.specs.Reading.{StageFollowsAt, TellsPosition, backing_at, state_or_none}
use Rattle.cache_tier.specs.Rotations.{Rotates, RotatesIfLong, is_long}
use Rattle.cache_tier.specs.Rounds.{AppliesAndRotates, Round}
use Rattle.cache_tier.specs.Sets.{RefreshesIfShown, RefreshesSet, of_set, refreshed, shows_something}
use Rattle.cache_tier.specs.StandingBetween.{Each, Stands}
use Rattle.cache_tier.specs.TierStates.{Session, Tier, refresh_tried}
use Rattle.cache_tier.specs.Worlds.{Becomes, IsUnshared, OnlyWhere, StageFollows, World}
use Rattle.cache_tier.proofs.AgingLaws.{aging_stands}
use Rattle.cache_tier.proofs.HistoryKeeps.{around_goes_on, others_go_on}
use Rattle.cache_tier.proofs.RefreshLaws.{groups_refresh}
use Rattle.cache_tier.proofs.SetLaws.{refresh_has_one_position}
use Rattle.cache_tier.proofs.TableLaws.{schema_is_told}
use Rattle.recovery.specs.Journalled.{AreAlike, IsJournalledOn}
use Rattle.recovery.proofs.JournalledLaws.{alike_self}
use Rattle.line_laws.specs.Keeping.{is_broken}
use Rattle.line_laws.proofs.AskedLaws.{asks_kept}
use Rattle.line_laws.proofs.DueStatements.{not_broken}
use Rattle.line_laws.proofs.GroupStatements.{refreshes_if_shown}
use Rattle.line_laws.proofs.OtherLaws.{others_schema}
use Rattle.line_laws.proofs.PartWords.{quiet_on}
use Rattle.line_laws.proofs.QuietTiers.{aging_quiet, refreshed_quiet}
use Rattle.line_laws.proofs.RoundLaws.{round_goes}
use Rattle.run_laws.specs.Lines.{IsOfOneKind, are_later}
use Rattle.run_laws.proofs.ReadyLaws.{Moves, Ready, ReadyOn, ready_moved, ready_same, ready_then}
use Rattle.run_laws.proofs.StandLaws.{IsSeenAs, seen_as, seen_self, stands_seen}

-- ---- a round

kept_all : (p left : Sealed → Bool) (us : List Sealed) → list_all p us ≡ true → list_all p (filter left us) ≡ true
kept_all p left [] all = refl
kept_all p left (u ∷ us) all =
    let both = both_true (p u) (list_all p us) all in
    by (left u) both.0 (kept_all p left us both.1)
  where
    by : (b : Bool) → p u ≡ true → list_all p (filter left us) ≡ true → list_all p (cond b (u ∷ filter left us) (filter left us)) ≡ true
    by true first rest = λ i. first i && rest i
    by false first rest = rest

flush_tier : (w w' : World) (stop : Option Reply) → Flushes [] w w' stop → w'.tier ≡ w.tier
flush_tier w w' stop q = by w.journal.kept q
  where
    by : (b : Bool) → OnlyWhere b (FlushesKept []) w w' stop → w'.tier ≡ w.tier
    by true q = q.tier
    by false q = ap (λ (x : World). x.tier) q.0

turn_tier : (w w' : World) (stop : Option Reply) → RotatesIfLong w w' stop → w'.tier ≡ w.tier
turn_tier w w' stop q = by (is_long w) q
  where
    by : (b : Bool) → OnlyWhere b Rotates w w' stop → w'.tier ≡ w.tier
    by true q = q.tier
    by false q = ap (λ (x : World). x.tier) q.0

-- what is unsettled behind a round was so before
pub round_all : (p : Sealed → Bool) (w w' : World) (stop : Option Reply) → Round w w' stop → list_all p w.tier.unsettled ≡ true → list_all p w'.tier.unsettled ≡ true
round_all p w w' stop q all = by q.stop q.next
  where
    before : list_all p q.mid.tier.unsettled ≡ true
    before = ap (λ (t : Tier). list_all p t.unsettled) (flush_tier w q.mid q.stop q.first) ∙ all

    by : (end : Option Reply) → StageFollows end AppliesAndRotates q.mid w' stop → list_all p w'.tier.unsettled ≡ true
    by (Some r) next = ap (λ (x : World). list_all p x.tier.unsettled) next.0 ∙ before
    by None next =
        ap (λ (t : Tier). list_all p t.unsettled) (turn_tier next.mid w' next.turned next.rotates)
        ∙ ap (λ (t : Tier). list_all p t.unsettled) next.applies.tier
        ∙ kept_all p (λ s. not (next.applies.left s)) q.mid.tier.unsettled before

-- what else of the tier a round leaves as it was
pub round_sits : (w w' : World) (stop : Option Reply) → Round w w' stop → (left : List Sealed × ℕ) × (w'.tier ≡ record w.tier { unsettled = left.0; round = left.1 })
round_sits w w' stop q = by q.stop q.next
  where
    first : q.mid.tier ≡ w.tier
    first = flush_tier w q.mid q.stop q.first

    by : (end : Option Reply) → StageFollows end AppliesAndRotates q.mid w' stop → (left : List Sealed × ℕ) × (w'.tier ≡ record w.tier { unsettled = left.0; round = left.1 })
    by (Some r) next = ((w.tier.unsettled, w.tier.round), ap (λ (x : World). x.tier) next.0 ∙ first)
    by None next =
        let rest : List Sealed = filter (λ s. not (next.applies.left s)) q.mid.tier.unsettled in (
          (rest, q.mid.tier.now),
          turn_tier next.mid w' next.turned next.rotates ∙ next.applies.tier ∙ ap (λ (t : Tier). record t { unsettled = rest; round = q.mid.tier.now }) first,
        )

pub round_ready : (w w' : World) (early : List Sealed) (stop : Option Reply) → Ready w early → Round w w' stop → is_broken stop ≡ false → ReadyOn w' early
round_ready w w' early stop r q ok =
    let g = (round_goes w w' early stop r.stands r.journalled r.unshared q ok).0 in
    ready_moved w w' early r.unshared (record {
      shared = g.shared;
      alike = subst (λ (t : Tier). AreAlike w.tier.groups t.groups) (sym g.tier) (alike_self w.tier.groups);
      later = round_all _ w w' stop q r.kinds.later;
      own = subst (λ (t : Tier). Each (λ (s : Session). IsOfOneKind w.tier.groups s.own) t.sessions) (sym g.tier) r.kinds.own;
    }) g.stands g.on

pub due_round_ready : (w w' : World) (early : List Sealed) (notes : List Note) (stop : Option Reply) → Ready w early → DueRound w w' notes stop → is_broken stop ≡ false → ReadyOn w' early
due_round_ready w w' early notes stop r q ok = by (is_round_due w.tier) q.does
  where
    by : (b : Bool) → OnlyWhere b Round w w' q.end → ReadyOn w' early
    by true does = round_ready w w' early q.end r does (not_broken q.end (ap is_broken (sym q.ends) ∙ ok))
    by false does = ready_same w w' early does.0 r

-- ---- a set

take_front : {X : Type 0} (xs ys : List X) → take (length xs) (xs ++ ys) ≡ xs
take_front [] ys = refl
take_front (x ∷ xs) ys = ap (λ l. x ∷ l) (take_front xs ys)

-- what is read at a position of a call
record IsReadAt (h : List Entry) (n : ℕ) : Type 0 where
  state : TableState
  there : state_at h n ≡ Some state
  within : n ≤ length h

position_grows : (n : ℕ) (old new : List Entry) → TellsPosition (Ok n) old new → Grows [] old new
position_grows n old new p = p.0

read_at : (w : World) (h : List Entry) (n : ℕ) → Stands w → IsUnshared w → Around w.shared (TellsPosition (Ok n)) w.history h → IsReadAt h n
read_at w h n stands apart a =
    let first = others_go_on w a.before stands apart a.came_before in
    let middle : a.middle ≡ w.history ++ a.before = a.own.0 ∙ append-nil (w.history ++ a.before) in
    let le = length-append a.middle a.behind in
    let size = ap length a.is in
    let n_is = a.own.1 in
    record {
      state = first.stands.flow.stand.over.backing;
      there =
          ap (state_at h) a.own.1 ∙ ap (λ l. state_at l (length a.middle)) a.is ∙ ap state_of (take_front a.middle a.behind) ∙ ap state_of middle
          ∙ first.stands.flow.stand.over.leaves;
      within = omega (arith, le, size, n_is);
    }

only_grows : (n : ℕ) (w : World) (h : List Entry) → Around w.shared (TellsPosition (Ok n)) w.history h → Around w.shared (Grows []) w.history h
only_grows n w h a = record { before = a.before; middle = a.middle; behind = a.behind; came_before = a.came_before; own = a.own.0; came_behind = a.came_behind; is = a.is }

in_set_reads : (interval place : ℕ) (g : Group) → of_set interval None place g ≡ true → is_read_only g ≡ true
in_set_reads interval place g e = by (is_read_only g) e
  where
    by : (b : Bool) → ((b && Rattle.std.proofs.Common.nat_eq g.def.interval interval && Rattle.cache_tier.specs.Groups.is_on g.state) || false) ≡ true → b ≡ true
    by true e = refl
    by false e = e

-- a set that is refreshed
refreshed_stands : (interval n : ℕ) (w mid w' : World) → Stands w → IsUnshared w → Around w.shared (TellsPosition (Ok n)) w.history mid.history → mid.tier ≡ refresh_tried interval w.tier
    → w' ≡ record mid { tier = refreshed (of_set interval None) n (backing_at mid n) mid.tier } → Stands w'
refreshed_stands interval n w mid w' stands apart a tier e =
    let read = read_at w mid.history n stands apart a in
    let around = around_goes_on w mid.history stands apart (only_grows n w mid.history a) in
    let here : Stands mid =
    stands_seen (at_history mid.history w) mid (seen_as w.tier mid.tier (refresh_tried interval w.tier) tier (record { schema = refl; stale = refl; groups = refl; log = refl; unsettled = refl; sessions = refl; next = refl })) refl around.stands in
    let state : state_at mid.history n ≡ Some (backing_at mid n) = read.there ∙ ap (λ o. Some (state_or_none o)) (sym read.there) in
    subst Stands (sym e) (groups_refresh mid (of_set interval None) n (backing_at mid n) here (record {
      state = state;
      within = read.within;
      reads = λ place g at chosen. in_set_reads interval place g chosen;
      one = refresh_has_one_position interval None n (backing_at mid n) mid.tier (λ place g same there. (let bad : None ≡ Some place = same in Prim.cc)) here.read.one;
    })).stands

module _ (w mid : World) (early : List Sealed) (r : Ready w early) where
  -- the tier has the same groups, sessions and unsettled transactions
  pub same_moves : mid.shared ≡ w.shared → IsSeenAs w.tier mid.tier → Moves w mid
  same_moves shared seen = record {
    shared = shared;
    alike = subst (AreAlike w.tier.groups) (sym seen.groups) (alike_self w.tier.groups);
    later = ap (λ us. are_later w.tier.groups us) seen.unsettled ∙ r.kinds.later;
    own = subst (λ ss. Each (λ (s : Session). IsOfOneKind w.tier.groups s.own) ss) (sym seen.sessions) r.kinds.own;
  }

  pub same_ready : mid.shared ≡ w.shared → IsSeenAs w.tier mid.tier → Stands mid → IsJournalledOn mid early → ReadyOn mid early
  same_ready shared seen stands on = ready_moved w mid early r.unshared (same_moves shared seen) stands on

  -- only the groups are others, which are alike
  pub alike_ready : mid.shared ≡ w.shared → AreAlike w.tier.groups mid.tier.groups → mid.tier.unsettled ≡ w.tier.unsettled → mid.tier.sessions ≡ w.tier.sessions → Stands mid → IsJournalledOn mid early → ReadyOn mid early
  alike_ready shared alike unsettled sessions stands on =
      ready_moved w mid early r.unshared (record {
        shared = shared;
        alike = alike;
        later = ap (λ us. are_later w.tier.groups us) unsettled ∙ r.kinds.later;
        own = subst (λ ss. Each (λ (s : Session). IsOfOneKind w.tier.groups s.own) ss) (sym sessions) r.kinds.own;
      }) stands on

tried_seen : (interval : ℕ) (a b : Tier) → b ≡ refresh_tried interval a → IsSeenAs a b
tried_seen interval a b e = seen_as a b (refresh_tried interval a) e (record { schema = refl; stale = refl; groups = refl; log = refl; unsettled = refl; sessions = refl; next = refl })

set_ready : (interval : ℕ) (w w' : World) (early : List Sealed) (stop : Option Reply) → Ready w early → RefreshesSet interval w w' stop → IsJournalledOn w' early → ReadyOn w' early
set_ready interval w w' early stop r q on = by q.result q.call.history q.goes_on
  where
    seen : IsSeenAs w.tier q.mid.tier
    seen = tried_seen interval w.tier q.mid.tier q.tier

    none : (result : Result ℕ BankError) → Around w.shared (TellsPosition result) w.history q.mid.history → Around w.shared (Grows []) w.history q.mid.history
    none (Ok n) a = only_grows n w q.mid.history a
    none (Err e) a = a

    here : (result : Result ℕ BankError) → Around w.shared (TellsPosition result) w.history q.mid.history → w' ≡ q.mid → ReadyOn w' early
    here result a e =
        let around = around_goes_on w q.mid.history r.stands r.unshared (none result a) in
        let stands : Stands q.mid = stands_seen (at_history q.mid.history w) q.mid seen refl around.stands in
        subst (λ x. ReadyOn x early) (sym e) (same_ready w q.mid early r q.call.shared seen stands (subst (λ x. IsJournalledOn x early) e on))

    by : (result : Result ℕ BankError) → Around w.shared (TellsPosition result) w.history q.mid.history → StageFollowsAt result (λ n. Becomes (λ v. refreshed (of_set interval None) n (backing_at v n) v.tier)) q.mid w' stop → ReadyOn w' early
    by (Err e) a next = here (Err e) a next.0
    by (Ok n) a (inr next) = here (Ok n) a next.0
    by (Ok n) a (inl next) =
        let t : Tier = refreshed (of_set interval None) n (backing_at q.mid n) q.mid.tier in
        let alike : AreAlike w.tier.groups (refreshed (of_set interval None) n (backing_at q.mid n) q.mid.tier).groups =
        subst (λ gs. AreAlike gs (refreshed (of_set interval None) n (backing_at q.mid n) q.mid.tier).groups) seen.groups (refreshed_quiet (of_set interval None) n (backing_at q.mid n) q.mid.tier).groups in
        let is : w' ≡ record (q.mid) { tier = t } = next.0 in
        alike_ready w w' early r (ap (λ (x : World). x.shared) is ∙ q.call.shared) (subst (λ (x : World). AreAlike w.tier.groups x.tier.groups) (sym is) alike)
        (ap (λ (x : World). x.tier.unsettled) is ∙ seen.unsettled) (ap (λ (x : World). x.tier.sessions) is ∙ seen.sessions)
        (refreshed_stands interval n w q.mid w' r.stands r.unshared a q.tier next.0) on

shown_ready : (interval : ℕ) (w w' : World) (early : List Sealed) (stop : Option Reply) → Ready w early → RefreshesIfShown interval w w' stop → is_broken stop ≡ false → ReadyOn w' early
shown_ready interval w w' early stop r q ok = by (shows_something interval w.tier.groups) q
  where
    on : IsJournalledOn w' early
    on = (refreshes_if_shown interval w w' early stop r.journalled r.unshared tt q ok).on

    by : (b : Bool) → OnlyWhere b (RefreshesSet interval) w w' stop → ReadyOn w' early
    by true q = set_ready interval w w' early stop r q on
    by false q = ready_same w w' early q.0 r

sets_ready : (intervals : List ℕ) (w w' : World) (early : List Sealed) (notes : List Note) (stop : Option Reply) → Ready w early → DueSetsOf intervals w w' notes stop → is_broken stop ≡ false → ReadyOn w' early
sets_ready [] w w' early notes stop r q ok = ready_same w w' early q.0 r
sets_ready (interval ∷ more) w w' early notes stop r q ok = by q.end q.first q.next (λ now x next. sets_ready more q.mid w' now q.behind stop x next ok)
  where
    by : (end : Option Reply) → Noted (λ c. Rattle.cache_tier.specs.declared.reply.Note.TheVariants.Refresh c interval) (RefreshesIfShown interval) w q.mid q.before end → ItemFollows end (DueSetsOf more) q.mid w' q.behind stop
        → ((now : List Sealed) → Ready q.mid now → DueSetsOf more q.mid w' q.behind stop → ReadyOn w' now) → ReadyOn w' early
    by None first next rest =
        let g = shown_ready interval w q.mid early first.end r first.does (not_broken first.end (ap is_broken (sym first.ends))) in
        ready_then w' early g.now g.more g.grows (rest g.now g.is next)
    by (Some e) first next rest =
        let g = shown_ready interval w q.mid early first.end r first.does (not_broken first.end (ap is_broken (sym first.ends) ∙ ap is_broken (sym next.2) ∙ ok)) in
        subst (λ x. ReadyOn x early) (sym next.0) g

pub due_sets_ready : (w w' : World) (early : List Sealed) (notes : List Note) (stop : Option Reply) → Ready w early → DueSets w w' notes stop → is_broken stop ≡ false → ReadyOn w' early
due_sets_ready w w' early notes stop r q ok = sets_ready (due_sets w.tier) w w' early notes stop r q ok

-- ---- aging

pub due_aging_ready : (w w' : World) (early : List Sealed) (notes : List Note) (stop : Option Reply) → Ready w early → DueAging w w' notes stop → ReadyOn w' early
due_aging_ready w w' early notes stop r q =
    let t = after_aging w.history w.tier in
    let quiet = aging_quiet w.history w.tier in
    subst (λ x. ReadyOn x early) (sym q.0)
    (alike_ready w (with_tier t w) early r refl quiet.groups refl refl (aging_stands w r.stands) (quiet_on w early t r.journalled quiet))

-- ---- the question for the schema

schema_grows : (result : Result (List TableDef) BankError) (old new : List Entry) → TellsSchema result old new → Grows [] old new
schema_grows (Ok schema) old new p = p.0
schema_grows (Err e) old new p = p

asked_stands : (w w' : World) (stop : Option Reply) → Stands w → IsUnshared w → Asked w w' stop → Stands w'
asked_stands w w' stop stands apart q = by q.result q.call.history q.tier
  where
    grown : (result : Result (List TableDef) BankError) → Around w.shared (TellsSchema result) w.history w'.history → Around w.shared (Grows []) w.history w'.history
    grown result a = record { before = a.before; middle = a.middle; behind = a.behind; came_before = a.came_before; own = schema_grows result (w.history ++ a.before) a.middle a.own; came_behind = a.came_behind; is = a.is }

    by : (result : Result (List TableDef) BankError) → Around w.shared (TellsSchema result) w.history w'.history → w'.tier ≡ told result w.tier → Stands w'
    by (Err e) a tier = stands_seen (at_history w'.history w) w' (seen_as w.tier w'.tier w.tier tier (seen_self w.tier)) refl (around_goes_on w w'.history stands apart (grown (Err e) a)).stands
    by (Ok schema) a tier =
        let around = (around_goes_on w w'.history stands apart (grown (Ok schema) a)).stands in
        let first = (others_go_on w a.before stands apart a.came_before).stands in
        let s : TableState = around.flow.stand.over.backing in
        let leaves : state_of w'.history ≡ Some s = around.flow.stand.over.leaves in
        let front = around.schema.front s leaves in
        let middle : a.middle ≡ w.history ++ a.before = a.own.0 ∙ append-nil (w.history ++ a.before) in
        let b : TableState = first.flow.stand.over.backing in
        let there : state_of a.middle ≡ Some b = ap state_of middle ∙ first.flow.stand.over.leaves in
        let same : schema ≡ s.schema = a.own.1 b there ∙ sym (others_schema w.shared a.behind a.middle b s there a.came_behind (ap state_of (sym a.is) ∙ leaves)) in
        let after = schema_is_told (at_history w'.history w) front.0 s around leaves front.1 in
        stands_seen (with_tier (record w.tier { schema = s.schema; stale = false }) (at_history w'.history w)) w'
        (seen_as (record w.tier { schema = s.schema; stale = false }) w'.tier (record w.tier { schema = schema; stale = false }) tier
        (record { schema = same; stale = refl; groups = refl; log = refl; unsettled = refl; sessions = refl; next = refl })) refl after.stands

asked_moves : (w w' : World) (stop : Option Reply) (early : List Sealed) → Ready w early → Asked w w' stop → Moves w w'
asked_moves w w' stop early r q = by q.result q.tier
  where
    by : (result : Result (List TableDef) BankError) → w'.tier ≡ told result w.tier → Moves w w'
    by (Ok schema) tier = record {
      shared = q.call.shared;
      alike = subst (λ (t : Tier). AreAlike w.tier.groups t.groups) (sym tier) (alike_self w.tier.groups);
      later = ap (λ (t : Tier). are_later w.tier.groups t.unsettled) tier ∙ r.kinds.later;
      own = subst (λ (t : Tier). Each (λ (s : Session). IsOfOneKind w.tier.groups s.own) t.sessions) (sym tier) r.kinds.own;
    }
    by (Err e) tier = record {
      shared = q.call.shared;
      alike = subst (λ (t : Tier). AreAlike w.tier.groups t.groups) (sym tier) (alike_self w.tier.groups);
      later = ap (λ (t : Tier). are_later w.tier.groups t.unsettled) tier ∙ r.kinds.later;
      own = subst (λ (t : Tier). Each (λ (s : Session). IsOfOneKind w.tier.groups s.own) t.sessions) (sym tier) r.kinds.own;
    }

pub asks_ready : (l : Line) (w w' : World) (early : List Sealed) (stop : Option Reply) → Ready w early → AsksSchema l w w' stop → is_broken stop ≡ false → ReadyOn w' early
asks_ready l w w' early stop r q ok = by (asks_schema w.tier l) q
  where
    on : IsJournalledOn w' early
    on = asks_kept l w w' early stop r.stands r.journalled r.unshared q ok

    by : (b : Bool) → OnlyWhere b Asked w w' stop → ReadyOn w' early
    by true q = ready_moved w w' early r.unshared (asked_moves w w' stop early r q) (asked_stands w w' stop r.stands r.unshared q) on
    by false q = ready_same w w' early q.0 r
