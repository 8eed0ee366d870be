-- A round by the stored tier: the tier stands for the abstract one behind it.
use Rattle.std.proofs.Common.{◌≡◌, ◌≤◌, ℕ, zero, suc, ◌+◌, ◌-◌, ◌^◌, Bool, true, false, not, min, nat_eq, nat_lt, Option, Some, None, List, [], ◌∷◌, ◌++◌, length, filter, refl, sym, ap, ◌∙◌, subst, inl, inr, arith}
use Rattle.std.specs.Prelude.{Result, Ok, Err}
use Rattle.std.specs.Bool.{MatchBool}
use Rattle.std.specs.List.{slice_get}
use Rattle.std.specs.Result.{IsErrOf}
use Rattle.std.proofs.lemmas.Bool.{eqb-true, lt-ltb}
use Rattle.tier_base.specs.declared.number.TableId.{TableId}
use Rattle.tier_base.specs.declared.code.Code.TheVariants as code
use Rattle.row_types.specs.declared.rule.Detail.TheVariants as detail
use Rattle.row_types.specs.declared.value.Value.{Value}
use Rattle.table_defs.specs.declared.definition.TableDef.{TableDef}
use Rattle.table_state.specs.declared.history.Entry.{Entry}
use Rattle.table_state.specs.declared.history.Sealed.{Sealed}
use Rattle.table_state.specs.Histories.{state_of}
use Rattle.table_state.specs.Tables.{TableState}
use Rattle.order_laws.specs.Commits.{RiseBetween}
use Rattle.order_laws.specs.Standing.{live_tables}
use Rattle.order_laws.specs.Events.{Event, Follows}
use Rattle.outside.specs.Faults.{Rose}
use Rattle.outside.specs.Holding.{Held}
use Rattle.outside.specs.Others.{is_shared}
use Rattle.propagators.specs.declared.rounds.RoundFault.{RoundFault}
use Rattle.propagators.specs.declared.rounds.RoundFault.TheVariants as stop
use Rattle.propagators.specs.Rounds.{AreUnshared, HoldsRound, IsRestOf, Leads, Round as BankRound, TellsRound, doubts_at, left_in}
use Rattle.cache_tier.specs.JournalSteps.{Flushes}
use Rattle.cache_tier.specs.Groups.{Group, is_table_of, is_writethrough}
use Rattle.cache_tier.specs.Rotations.{RotatesIfLong}
use Rattle.cache_tier.specs.Rounds.{AllLeft, Applies, Differing, Drained, Drains, Failing, Round, RoundEnd, RoundIfUnsettled, Wanting, round_stop}
use Rattle.cache_tier.specs.Routes.{table_name}
use Rattle.cache_tier.specs.Steps.{tells}
use Rattle.cache_tier.specs.TierStates.{Tier}
use Rattle.cache_tier.specs.Worlds.{IsUnshared, Passes, Tries, World, faulty, only}
use Rattle.cache_tier.specs.declared.reply.Last.TheVariants.{Done, Fault}
use Rattle.cache_tier.specs.declared.reply.Reply.{Reply}
use Rattle.cache_tier.specs.Events.{StaysShown, at_history, settled_to}
use Rattle.cache_tier.specs.StandingBetween.{Stands, live_groups_of}
use Rattle.cache_tier.proofs.GroupTables.{live_table}
use Rattle.cache_tier.proofs.HistoryKeeps.{follows_longer}
use Rattle.group_catalog.specs.Catalogs.{groups_in}
use Rattle.stored_tier.specs.declared.tier.Tier.{Tier as Stored}
use Rattle.propagators.specs.Certainty.{KeepsCertain}
use Rattle.tier_journal.specs.declared.journal.TierJournal.{TierJournal}
use Rattle.tier_journal.specs.KeptOver.{DiskIsCaused, WritesOver, is_broken, over_disk}
use Rattle.tier_journal.proofs.WayLaws.{kept_unless_told}
use Rattle.stored_tier.specs.Draining.{AppliesAll, IsEnded, SettlesAll, settled_reply, settled_stop}
use Rattle.stored_tier.specs.Performing.{IsCaused, IsCausedOver, Performs, PerformsOver, StandsFor, stop_of}
use Rattle.stored_tier.specs.Refusing.{TellsDifference, TellsRoundEnd}
use Rattle.outside.specs.Sites.{SiteState}
use Rattle.stored_tier.proofs.LaterLaws.{later_rest}
use Rattle.pending_writes.specs.Noting.{TellsWriters}
use Rattle.stored_tier.specs.Stored.{IsSound, IsStoredAs, are_later, first_unsettled, rows_of}
use Rattle.stored_tier.proofs.BankLaws.{behind, told_behind}
use Rattle.stored_tier.proofs.HiddenRows.{hidden_as, hides_then}
use Rattle.stored_tier.proofs.OverLaws.{at_written, caused_broken, caused_turned, flush_breaks, keeps_called, never_both, stands_written, unsettled_kept}
use Rattle.stored_tier.proofs.RoundLaws.{LeftLaw, is_left, round_seen, unsure_at}
use Rattle.stored_tier.proofs.WriterLaws.{writers_rest}
use Rattle.stored_tier.proofs.StandingLaws.{last_rest, performed_behind, slots_kept}

-- the laws of a round

abbrev pub FollowLaw : Type 0
FollowLaw =
    (shared live : List TableId) (schema : List TableDef) (events : List Event) (history later : List Entry)
    (old new : List Sealed) (s : TableState) → AreUnshared live shared → state_of history ≡ Some s
    → Leads shared events history old later new → Follows schema live events history old later new

abbrev pub ShownLaw : Type 0
ShownLaw =
    (w : World) (x : Stands w) (events : List Event) (later : List Entry) (left : List Sealed) (moment : ℕ)
    → Follows x.flow.stand.over.backing.schema (live_tables (live_groups_of w.tier.groups)) events w.history
    w.tier.unsettled later left
    → StaysShown w (settled_to left moment (at_history later w))

pub record AreLaws : Type 0 where
  pub left : LeftLaw
  pub follow : FollowLaw
  pub shown : ShownLaw

-- others change no live table
pub unshared_live : (w : World) → IsUnshared w → AreUnshared (live_tables (live_groups_of w.tier.groups)) w.shared
unshared_live w apart t is = live_table w.tier.groups t ∙ apart t is

-- what is stored behind a round

abbrev settled_tier : Tier → List Sealed → Tier
settled_tier a left = record a { unsettled = left; round = a.now }

-- nothing but the unsettled transactions and the moment of the last round is changed
abbrev pub IsTried : Stored → Stored → Type 0
IsTried t new = new ≡ record t { unsettled = new.unsettled; clock = record t.clock { round = t.clock.now } }

stored_settled : (t new : Stored) (a : Tier) → IsStoredAs t a → IsTried t new → IsStoredAs new (settled_tier a new.unsettled.items)
stored_settled t new a is tried = subst (λ z. IsStoredAs z (settled_tier a new.unsettled.items)) (sym tried) (record {
  schema = is.schema;
  stale = is.stale;
  groups = is.groups;
  lists = is.lists;
  sessions = is.sessions;
  unsettled = refl;
  next = is.next;
  doubt = is.doubt;
  time = record {
    moment = is.time.moment;
    additions = is.time.additions;
    tried = is.time.moment;
    refreshes = is.time.refreshes;
    due = is.time.due;
  };
})

rows_settled : (t new : Stored) → IsTried t new → rows_of new ≡ rows_of t
rows_settled t new tried = ap rows_of tried

rise_from : (low more high : ℕ) (xs : List Sealed) → low ≤ more → RiseBetween more xs high → RiseBetween low xs high
rise_from low more high [] le rise = let from : more ≤ high = rise in omega (arith, from)
rise_from low more high (x ∷ xs) le rise = let from = rise.0 in (omega (arith, from), rise.1)

rise_rest : (low high : ℕ) (gone rest : List Sealed) → RiseBetween low (gone ++ rest) high → RiseBetween low rest high
rise_rest low high [] rest rise = rise
rise_rest low high (x ∷ gone) rest rise =
    let from = rise.0 in
    rise_from low (x.ticket.0 + 1) high rest (omega (arith, from)) (rise_rest (x.ticket.0 + 1) high gone rest rise.1)

pub sound_settled : (t new : Stored) → IsSound t → IsTried t new → IsRestOf t.unsettled.items new.unsettled.items → IsSound new
sound_settled t new sound tried rest = subst IsSound (sym tried) (record {
  sessions = sound.sessions;
  stores = sound.stores;
  kept = sound.kept;
  whole = sound.whole;
  hiding = sound.hiding;
  named = sound.named;
  plain = sound.plain;
  visible = sound.visible;
  numbered = rise_rest 1 t.next rest.0 new.unsettled.items (subst (λ xs. RiseBetween 1 xs t.next) rest.1 sound.numbered);
  later = later_rest (groups_in t.catalog) rest.0 new.unsettled.items (subst (λ xs. are_later (groups_in t.catalog) xs ≡ true) rest.1 sound.later);
  writers = writers_rest t.schema t.writers 1 t.next rest.0 new.unsettled.items (subst (λ xs. RiseBetween 1 xs t.next) rest.1 sound.numbered)
      (subst (λ xs. TellsWriters t.schema (first_unsettled xs t.next) xs t.writers) rest.1 sound.writers);
  verified = λ is. let v = sound.verified is in record { rows = v.rows; own = v.own };
})

-- what a round leaves at the site
pub record RoundAt (old left : List Sealed) (before after : SiteState) (few : ℕ) : Type 0 where
  pub told : TellsRound before.shared before.held after.held few old left
  pub faults : before.bank_faults ≤ after.bank_faults
  pub moment : before.moment ≤ after.moment
  pub shares : after.shared ≡ before.shared
  pub one : few ≤ 1
  pub rose : few ≡ 1 → min (before.bank_faults + 1) (2 ^ 64 - 1) ≤ after.bank_faults

round_of : (w : World) (t new : Stored) (before : SiteState) (few : ℕ) (was now : Held) → w.shared ≡ before.shared → w.history ≡ was.history → w.tier.unsettled ≡ t.unsettled.items → HoldsRound before.shared few t.unsettled.items new.unsettled.items was now → BankRound w.shared few w.tier.unsettled w.history new.unsettled.items now.history
round_of w t new before few was now shared history unsettled held =
    subst (λ s. BankRound s few w.tier.unsettled w.history new.unsettled.items now.history) (sym shared)
    (subst (λ u. BankRound before.shared few u w.history new.unsettled.items now.history) (sym unsettled)
    (subst (λ h. BankRound before.shared few t.unsettled.items h new.unsettled.items now.history) (sym history) held.round))

-- the world behind a round with this end
applied : AreLaws → (t new : Stored) (before after : SiteState) (few : ℕ) (end : RoundEnd) → IsTried t new → RoundAt t.unsettled.items new.unsettled.items before after few → AllLeft end new.unsettled.items → IsSound t
    → Performs t new before after (λ w w'. Applies w w' (round_stop w.tier end))
applied laws t new before after few end tried round all sound w at stands apart =
    let left = new.unsettled.items in
    let a = settled_tier w.tier left in
    let now = told_behind at.there before.held after.held (HoldsRound before.shared few t.unsettled.items left) at.told round.told in
    let rise : RiseBetween 1 w.tier.unsettled t.next = subst (λ l. RiseBetween 1 l t.next) (sym stands.stored.unsettled) sound.numbered in
    let bank = round_of w t new before few at.there now.there at.shared at.history stands.stored.unsettled now.is in
    let seen = round_seen laws.left w left now.there few 1 t.next rise bank in
    let x = stands.stands in
    let follows =
    laws.follow w.shared (live_tables (live_groups_of w.tier.groups)) x.flow.stand.over.backing.schema bank.events
    w.history now.there.history w.tier.unsettled left x.flow.stand.over.backing (unshared_live w apart)
    x.flow.stand.over.leaves bank.leads in
    let longer = follows_longer x.flow.stand.over.backing.schema (live_tables (live_groups_of w.tier.groups)) bank.events w.history w.tier.unsettled now.there.history left follows in
    let stays = laws.shown w x bank.events now.there.history left w.tier.now follows in
    let applies : Applies w (behind w a now.there after) (round_stop w.tier end) = record {
      result = end;
      came = seen.came;
      left = is_left left;
      comes = seen.comes;
      tier = ap (λ l. settled_tier w.tier l) (sym seen.kept);
      settled = seen.settled;
      bank = subst (λ n. n ≤ after.bank_faults) (sym at.faults) round.faults;
      unsure = subst (λ n. min (n + length (filter (λ s. not (is_left left s)) seen.came)) (2 ^ 64 - 1) ≤ after.bank_faults) (sym at.faults)
          (unsure_at before.bank_faults after.bank_faults (length (filter (λ s. not (is_left left s)) seen.came)) few (2 ^ 64 - 1) seen.unsure round.faults round.one round.rose);
      all = all;
      journal = refl;
      disk = refl;
      moment = subst (λ n. n ≤ after.moment) (sym at.moment) round.moment;
      shared = refl;
      end = refl;
    } in
    performed_behind new before after w a now.there (λ w'. Applies w w' (round_stop w.tier end)) at now.told round.shares
    (last_rest w.tier.log w.tier.unsettled (left_in bank.events) left (laws.left w.shared few w.tier.unsettled left w.history now.there.history bank) stands.waits)
    (stored_settled t new w.tier stands.stored tried)
    (rows_settled t new tried ∙ stands.shows ∙ sym stays.same)
    (hides_then t new w now.there.history (hidden_as t (record t { unsettled = new.unsettled; clock = record t.clock { round = t.clock.now } }) new tried (record { groups = refl; hidden = refl })) stands (record { more = longer.0; is = longer.1 }))
    stays.stands
    applies

-- the same with what is answered

pub settled_all : AreLaws → (t new : Stored) (before after : SiteState) (receipts : ℕ) → IsTried t new → RoundAt t.unsettled.items new.unsettled.items before after 0 → new.unsettled.items ≡ [] → receipts ≡ length t.unsettled.items → IsSound t → Performs t new before after (λ w w'. AppliesAll w w' (Ok receipts))
settled_all laws t new before after receipts tried round all count sound w at stands apart =
    let it = applied laws t new before after 0 Drained tried round all sound w at stands apart in
    record { world = it.world; at = it.at; stands = it.stands; is = (it.is, count ∙ ap length (sym stands.stored.unsettled)) }

ended : AreLaws → (t new : Stored) (before after : SiteState) (few : ℕ) (end : RoundEnd) (reply : Reply) → IsTried t new → RoundAt t.unsettled.items new.unsettled.items before after few → AllLeft end new.unsettled.items → ((a : Tier) → IsStoredAs t a → round_stop a end ≡ Some reply) → IsSound t → Performs t new before after (λ w w'. AppliesAll w w' (Err reply))
ended laws t new before after few end reply tried round all is sound w at stands apart =
    let it = applied laws t new before after few end tried round all sound w at stands apart in
    record {
      world = it.world;
      at = it.at;
      stands = it.stands;
      is = subst (λ stop. Applies w it.world stop) (is w.tier stands.stored) it.is;
    }

pub name_of_table : (a : Tier) (table : TableId) (def : TableDef) → slice_get a.schema table.0 ≡ Some def → table_name a table ≡ def.name
name_of_table a table def e = rw e refl

difference_told : (t : Stored) (table : TableId) (key : List Value) (reply : Reply) → TellsDifference t table key reply → (a : Tier) → IsStoredAs t a → round_stop a (Differing table key) ≡ Some reply
difference_told t table key reply told a is =
    let e : slice_get a.schema table.0 ≡ Some told.def = ap (λ schema. slice_get schema table.0) is.schema ∙ told.there in
    ap (λ name. Some (only (Fault (record { code = code.RowDiffers; detail = detail.Row name key })))) (name_of_table a table told.def e) ∙ ap Some (sym told.is)

-- what the tier tells reads its schema alone
pub still_told : (t new : Stored) (fault : RoundFault) (reply : Reply) → new.schema ≡ t.schema → TellsRoundEnd new fault reply → TellsRoundEnd t fault reply
still_told t new stop.Failed reply same told = told
still_told t new stop.Memory reply same told = told
still_told t new (stop.Differs table key) reply same told = elim told [
  | inl one ↦ inl (record { def = one.def; there = ap (λ schema. slice_get schema table.0) (sym same) ∙ one.there; is = one.is })
  | inr other ↦ inr other
]

pub settled_so_far : AreLaws → (t new : Stored) (before after : SiteState) (fault : RoundFault) (reply : Reply) → IsTried t new → RoundAt t.unsettled.items new.unsettled.items before after (doubts_at fault) → TellsRoundEnd t fault reply → IsSound t → Performs t new before after (λ w w'. AppliesAll w w' (Err reply))
settled_so_far laws t new before after stop.Failed reply tried round told sound = ended laws t new before after 1 Failing reply tried round tt (λ a is. ap Some (sym told)) sound
settled_so_far laws t new before after stop.Memory reply tried round told sound = ended laws t new before after 0 Wanting reply tried round tt (λ a is. ap Some (sym told)) sound
settled_so_far laws t new before after (stop.Differs table key) reply tried round told sound = elim told [
  | inl one ↦ ended laws t new before after 0 (Differing table key) reply tried round tt (difference_told t table key reply one) sound
  | inr other ↦ ended laws t new before after 0 Wanting reply tried round tt (λ a is. ap Some (sym other)) sound
]

pub few_doubts : (fault : RoundFault) → doubts_at fault ≤ 1
few_doubts stop.Failed = omega arith
few_doubts stop.Memory = omega arith
few_doubts (stop.Differs table key) = omega arith

pub doubt_rose : (fault : RoundFault) (old new : ℕ) → (IsErrOf (let r : Result ℕ RoundFault = Err fault in r) stop.Failed → Rose old new) → doubts_at fault ≡ 1 → Rose old new
doubt_rose stop.Failed old new rose one = rose refl
doubt_rose stop.Memory old new rose one = let no : 0 ≡ 1 = one in absurd (omega (arith, no))
doubt_rose (stop.Differs table key) old new rose one = let no : 0 ≡ 1 = one in absurd (omega (arith, no))

-- why a round ended

-- a reply that tells no fault of the bank and none of the journal
caused_by : (old left : List Sealed) (before after : SiteState) (few : ℕ) (reply : Reply) → RoundAt old left before after few → reply.notes ≡ [] → (tells code.BackingFault reply.last ≡ true → Rose before.bank_faults after.bank_faults) → tells code.JournalFault reply.last ≡ false → IsCaused before after reply
caused_by old left before after few reply round bare bank disk = record {
  later = round.faults;
  moment = round.moment;
  shares = round.shares;
  slots = slots_kept before.held after.held (HoldsRound before.shared few old left) (λ o n is. is.slots) round.told;
  bare = bare;
  bank = bank;
  disk = disk;
}

pub all_caused : (old left : List Sealed) (before after : SiteState) (receipts : ℕ) → RoundAt old left before after 0 → IsCaused before after (only (Done receipts))
all_caused old left before after receipts round = caused_by old left before after 0 (only (Done receipts)) round refl (λ is. cc) refl

memory_caused : (old left : List Sealed) (before after : SiteState) (few : ℕ) (reply : Reply) → RoundAt old left before after few → reply ≡ faulty code.Memory → IsCaused before after reply
memory_caused old left before after few reply round is =
    subst (IsCaused before after) (sym is) (caused_by old left before after few (faulty code.Memory) round refl (λ b. cc) refl)

difference_caused : (t : Stored) (old left : List Sealed) (before after : SiteState) (few : ℕ) (table : TableId) (key : List Value) (reply : Reply) → RoundAt old left before after few → TellsDifference t table key reply → IsCaused before after reply
difference_caused t old left before after few table key reply round told =
    subst (IsCaused before after) (sym told.is)
    (caused_by old left before after few (only (Fault (record { code = code.RowDiffers; detail = detail.Row told.def.name key }))) round refl (λ b. cc) refl)

pub end_caused : (t : Stored) (old left : List Sealed) (before after : SiteState) (fault : RoundFault) (reply : Reply) → RoundAt old left before after (doubts_at fault) → TellsRoundEnd t fault reply → IsCaused before after reply
end_caused t old left before after stop.Failed reply round told =
    subst (IsCaused before after) (sym told) (caused_by old left before after 1 (faulty code.BackingFault) round refl (λ b. round.rose refl) refl)
end_caused t old left before after stop.Memory reply round told = memory_caused old left before after 0 reply round told
end_caused t old left before after (stop.Differs table key) reply round told = elim told [
  | inl one ↦ difference_caused t old left before after 0 table key reply round one
  | inr other ↦ memory_caused old left before after 0 reply round other
]

-- why a round with its rotation ended
pub ended_caused : (k k1 : Option TierJournal) (before mid behind : SiteState) (applied : Result ℕ Reply) (turned : Result (Unit {0}) Reply) (result : Result ℕ Reply) → (k ≡ None → k1 ≡ None) → IsCausedOver k before mid (settled_reply applied) → DiskIsCaused k1 mid behind (stop_of turned)
    → IsEnded applied turned result → IsCausedOver k before behind (settled_reply result)
ended_caused k k1 before mid behind applied (Ok done) result none one two ended =
    subst (λ r. IsCausedOver k before behind (settled_reply r)) (sym ended) (caused_turned k k1 before mid behind (settled_reply applied) none one two)
ended_caused k k1 before mid behind applied (Err disk) result none one two ended =
    subst (λ r. IsCausedOver k before behind (settled_reply r)) (sym ended) (caused_broken k k1 before mid behind (settled_reply applied) disk none one two)

-- a flush, then what is applied, and then a rotation

record StaysSo (w w' : World) : Type 0 where
  journal : w'.journal ≡ w.journal
  schema : w'.tier.schema ≡ w.tier.schema
  groups : w'.tier.groups ≡ w.tier.groups
  shared : w'.shared ≡ w.shared

stays_so : (w w' : World) (end : Option Reply) → Applies w w' end → StaysSo w w'
stays_so w w' end did = record {
  journal = did.journal;
  schema = ap (λ (a : Tier). a.schema) did.tier;
  groups = ap (λ (a : Tier). a.groups) did.tier;
  shared = did.shared;
}

still_apart : (w w' : World) → StaysSo w w' → IsUnshared w → IsUnshared w'
still_apart w w' same apart =
    subst (λ (shared : List TableId). (t : TableId) → is_shared shared t ≡ true → is_table_of is_writethrough w'.tier.groups t ≡ false) (sym same.shared)
    (subst (λ (groups : List Group). (t : TableId) → is_shared w.shared t ≡ true → is_table_of is_writethrough groups t ≡ false) (sym same.groups) apart)

module _ {D : Type 0} (state : D → SiteState) (possible : D → ℕ → Held → Type 0) where
  -- the flush failed, and nothing is applied
  pub flush_ended : (t new : Stored) (k k' : Option TierJournal) (d d' : D) (reply : Reply) → WritesOver state possible k k' d d' (Some reply) (Flushes []) → DiskIsCaused k (state d) (state d') (Some reply)
      → PerformsOver state possible t new k k' d d' (Some reply) (λ w w'. SettlesAll w w' (Err reply))
  flush_ended t new k k' d d' reply flushes cause w at stands apart keeps =
      let x = flushes w at.moment keeps in
      let w' : World = over_disk x.journal x.faults (state d').moment w in
      let broken : is_broken (Some reply) ≡ true = flush_breaks [] w w' reply x.is in
      record {
        world = w';
        at = at_written state possible k' d d' w (Some reply) (Flushes []) at x cause.bank cause.shared;
        is = record { mid = w'; stop = Some reply; first = x.is; next = (refl, refl) };
        stands = λ whole. absurd (never_both (is_broken (Some reply)) broken whole);
        keeps = x.keeps;
      }

  -- the flush, what is applied behind it, and the rotation
  pub settled_over : (t mid new : Stored) (k k1 k2 : Option TierJournal) (d d1 d2 d3 : D) (applied : Result ℕ Reply) (turned : Result (Unit {0}) Reply) (result : Result ℕ Reply)
      → WritesOver state possible k k1 d d1 None (Flushes []) → DiskIsCaused k (state d) (state d1) None
      → KeepsCertain state possible d1 d2 → Performs t mid (state d1) (state d2) (λ w w'. AppliesAll w w' applied)
      → PerformsOver state possible mid new k1 k2 d2 d3 (stop_of turned) (λ w w'. RotatesIfLong w w' (stop_of turned)) → IsEnded applied turned result
      → PerformsOver state possible t new k k2 d d3 (settled_stop result) (λ w w'. SettlesAll w w' result)
  settled_over t mid new k k1 k2 d d1 d2 d3 applied turned result flushes cause certain performs turns ended w at stands apart keeps =
      let x = flushes w at.moment keeps in
      let w1 : World = over_disk x.journal x.faults (state d1).moment w in
      let it = performs w1 (at_written state possible k1 d d1 w None (Flushes []) at x cause.bank cause.shared) (stands_written t w x.journal x.faults (state d1).moment stands) apart in
      let did = applied_of applied w1 it.world it.is in
      let over = keeps_called state possible k1 d1 d2 w1 it.world (x.keeps.over refl) certain did.journal did.schema it.at in
      let last = turns it.world it.at it.stands (still_apart w1 it.world did apart) over in
      record {
        world = last.world;
        at = last.at;
        is = round_of applied turned result ended w w1 it.world last.world x.is it.is last.is;
        stands = λ whole. last.stands (whole_of applied turned result ended whole);
        keeps = kept_unless_told (whole_of applied turned result ended) last.keeps;
      }
    where
      applied_of : (result : Result ℕ Reply) (w w' : World) → AppliesAll w w' result → StaysSo w w'
      applied_of (Ok receipts) w w' did = stays_so w w' None did.0
      applied_of (Err reply) w w' did = stays_so w w' (Some reply) did

      whole_of : (applied : Result ℕ Reply) (turned : Result (Unit {0}) Reply) (result : Result ℕ Reply) → IsEnded applied turned result → is_broken (settled_stop result) ≡ false → is_broken (stop_of turned) ≡ false
      whole_of applied (Ok done) result ended whole = refl
      whole_of applied (Err reply) result ended whole = subst (λ r. is_broken (settled_stop r) ≡ false) ended whole

      round_of : (applied : Result ℕ Reply) (turned : Result (Unit {0}) Reply) (result : Result ℕ Reply) → IsEnded applied turned result → (w mid late w' : World) → Flushes [] w mid None → AppliesAll mid late applied → RotatesIfLong late w' (stop_of turned) → SettlesAll w w' result
      round_of (Ok receipts) (Ok done) result ended w mid late w' flushed did turned =
          subst (λ r. SettlesAll w w' r) (sym ended)
          (record { mid = mid; stop = None; first = flushed; next = record { mid = late; applied = None; turned = None; applies = did.0; rotates = turned; end = refl } }, did.1 ∙ ap length (unsettled_kept w mid flushed))
      round_of (Err reply) (Ok done) result ended w mid late w' flushed did turned =
          subst (λ r. SettlesAll w w' r) (sym ended)
          (record { mid = mid; stop = None; first = flushed; next = record { mid = late; applied = Some reply; turned = None; applies = did; rotates = turned; end = refl } })
      round_of (Ok receipts) (Err disk) result ended w mid late w' flushed did turned =
          subst (λ r. SettlesAll w w' r) (sym ended)
          (record { mid = mid; stop = None; first = flushed; next = record { mid = late; applied = None; turned = Some disk; applies = did.0; rotates = turned; end = refl } })
      round_of (Err reply) (Err disk) result ended w mid late w' flushed did turned =
          subst (λ r. SettlesAll w w' r) (sym ended)
          (record { mid = mid; stop = None; first = flushed; next = record { mid = late; applied = Some reply; turned = Some disk; applies = did; rotates = turned; end = refl } })

-- the calls

-- ttDrain
pub drains : (receipts : ℕ) (reply : Reply) → reply ≡ only (Done receipts) → (w w' : World) → SettlesAll w w' (Ok receipts) → Tries Drains w w' reply
drains receipts reply is w w' did = inl (record { mid = w'; stop = None; first = did.0; next = (refl, is ∙ ap (λ n. only (Done n)) did.1) })

pub drain_ended : (reply : Reply) (w w' : World) → SettlesAll w w' (Err reply) → Tries Drains w w' reply
drain_ended reply w w' did = inl (record { mid = w'; stop = Some reply; first = did; next = (refl, refl) })

-- where nothing is unsettled, nothing is called
none_of_length : (xs : List Sealed) (n : ℕ) → n ≡ length xs → nat_eq n 0 ≡ true → nat_lt 0 (length xs) ≡ false
none_of_length xs n long none = ap (nat_lt 0) (sym long ∙ eqb-true n 0 none)

pub some_unsettled : (t : Stored) (n : ℕ) (b : Bool) → n ≡ length t.unsettled.items → b ≡ nat_eq n 0 → b ≡ false → nat_lt 0 (length t.unsettled.items) ≡ true
some_unsettled t n b long is some = ap (nat_lt 0) (sym long) ∙ by n (sym is ∙ some)
  where
    by : (k : ℕ) → nat_eq k 0 ≡ false → nat_lt 0 k ≡ true
    by zero e = cc
    by (suc k) e = lt-ltb 0 (suc k) (omega arith)

pub nothing_unsettled : (t : Stored) (n : ℕ) (b : Bool) → n ≡ length t.unsettled.items → b ≡ nat_eq n 0 → b ≡ true → (w : World) → StandsFor t w → RoundIfUnsettled w w None
nothing_unsettled t n b long is none w stands =
    (subst (λ b. MatchBool b (Round w w None) (Passes w w None)) (sym (ap (λ (xs : List Sealed). nat_lt 0 (length xs)) stands.stored.unsettled ∙ none_of_length t.unsettled.items n long (sym is ∙ none))) (refl, refl))

pub pending_settled : (t : Stored) (end : Option Reply) → nat_lt 0 (length t.unsettled.items) ≡ true → (w w' : World) → StandsFor t w → Round w w' end → RoundIfUnsettled w w' end
pending_settled t end some w w' stands did =
    subst (λ b. MatchBool b (Round w w' end) (Passes w w' end)) (sym (ap (λ (xs : List Sealed). nat_lt 0 (length xs)) stands.stored.unsettled ∙ some)) did
