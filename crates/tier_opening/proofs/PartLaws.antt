-- What the fold of the entries gives to the opening, and what it is damaged by.
use Rattle.std.proofs.Common.{◌≡◌, ◌∙◌, ◌≤◌, ◌+◌, ℕ, Some, None, List, [], ◌∷◌, Result, Ok, Err, refl, sym, ap, subst, arith, inl, inr}
use Rattle.std.specs.Prelude.{IfErr}
use Rattle.outside.specs.Faults.{Rose}
use Rattle.std.specs.Global.{Vec}
use Rattle.std.specs.List.{list_all}
use Rattle.table_defs.specs.declared.definition.TableDef.{TableDef}
use Rattle.table_state.specs.declared.history.Sealed.{Sealed}
use Rattle.outside.specs.declared.disk.Slot.{Slot}
use Rattle.outside.specs.Bank.{TellsSchema}
use Rattle.outside.specs.Calls as site
use Rattle.outside.specs.Calls.{BankGoesOn, BankTold, Certain, Leaves}
use Rattle.outside.specs.declared.fault.BankError.{BankError}
use Rattle.stored_tier.specs.declared.clock.Pace.{Pace}
use Rattle.stored_tier.proofs.OthersLaws.{schema_reads}
use Rattle.outside.specs.Holding.{Held, Slots}
use Rattle.outside.specs.Sites.{SiteState}
use Rattle.order_laws.specs.Commits.{RiseBetween}
use Rattle.commit_journal.specs.Layout.{entries_of, HaveBytes, Reads}
use Rattle.commit_journal.specs.Resting.{AtRest}
use Rattle.commit_journal.specs.Opening as commit_opening
use Rattle.propagators.specs.Certainty.{KeepsCertain}
use Rattle.propagators.proofs.CertainLaws.{HistoryIsCertain}
use Rattle.recovery_laws.specs.Notes.{commits_in}
use Rattle.cache_tier.specs.Journals.{next_behind}
use Rattle.cache_tier.specs.StandingBetween.{Each}
use Rattle.cache_tier.specs.TierStates.{Settings}
use Rattle.group_catalog.specs.Catalogs.{groups_in}
use Rattle.tier_journal.specs.declared.journal.TierJournal.{TierJournal}
use Rattle.tier_journal.specs.declared.record.Record.{Record}
use Rattle.tier_journal.specs.declared.opening.Found.TheVariants.{Whole}
use Rattle.tier_journal.specs.Keeping.{slot_in, version_in}
use Rattle.tier_journal.specs.Opening.{Finds, meanings}
use Rattle.recovery.specs.Recalling.{notes_of}
use Rattle.recalling.specs.Recalled.{AreInOrder, IsBare, IsFirstUnfit, IsRecalled}
use Rattle.recalling.specs.declared.recalled.Recalled.{Recalled}
use Rattle.reopening.specs.Starting.{DiffersAs, IsInOrder, ReopensFrom}
use Rattle.reopening.specs.declared.start.ReopenError.{ReopenError}
use Rattle.reopening.specs.declared.start.ReopenError.TheVariants as reopen
use Rattle.reopening.specs.declared.start.Start.{Start}
use Rattle.stored_tier.specs.declared.tier.Tier.{Tier as Stored}
use Rattle.group_catalog.specs.Catalogs.{HaveOwnNames, is_plain}
use Rattle.stored_tier.proofs.BankLaws.{TellsBehind, told_behind}
use Rattle.tier_opening.specs.Leaving.{FailsLeaving}
use Rattle.tier_opening.specs.Opening.{AtJournal, Opens}
use Rattle.tier_opening.specs.Telling.{FailsAs, IsDamage, IsDiffering, IsTold, IsUnfound}
use Rattle.tier_opening.specs.declared.opening.OpenError.{OpenError}
use Rattle.tier_opening.specs.declared.opening.OpenError.TheVariants as open_error
use Rattle.tier_opening.proofs.BeginLaws.{RecalledLaw}
use Rattle.tier_opening.proofs.FoundLaws.{differing, opens, stand_written, stops}
use Rattle.tier_opening.proofs.LeftLaws.{found_left}

rise_le : (low : ℕ) (xs : List Sealed) (high : ℕ) → RiseBetween low xs high → low ≤ high
rise_le low [] high r = r
rise_le low (s ∷ xs) high r =
    let rest = rise_le (s.ticket.0 + 1) xs high r.1 in
    let first = r.0 in
    omega (arith, first, rest)

-- what the fold gave is in order, as the tier that is opened again asks
pub in_order : (start : Start) (r : Recalled) (schema : List TableDef) → start.catalog ≡ r.catalog → start.next ≡ r.next → AreInOrder schema (groups_in r.catalog) → RiseBetween 1 r.commits.items r.next → IsInOrder start
in_order start r schema catalog next order rise = record {
  plain = ap (λ k. list_all is_plain (groups_in k)) catalog ∙ order.plain;
  named = subst (λ k. HaveOwnNames (groups_in k)) (sym catalog) order.named;
  first = subst (λ n. 1 ≤ n) (sym next) (rise_le 1 r.commits.items r.next rise);
}

-- the opening with what the fold gave
module _ {D : Type 0} (state : D → SiteState) (possible : D → ℕ → Held → Type 0) (d d1 d2 d3 : D) (start : Start) (r : Recalled) (k : TierJournal) (records : Vec (ℕ × Record)) (catalog : start.catalog ≡ r.catalog) (next : start.next ≡ r.next) (commits : start.commits ≡ r.commits)
    (told : site.Told (state d).held (state d1).held (site.BankCall (state d).shared (TellsSchema (Ok start.schema)))) (shared : (state d2).shared ≡ (state d).shared)
    (found : (o : Held) → (state d1).held ≡ Some o → HaveBytes o.slots → Finds state possible d2 start.schema o (Whole k records)) (two : version_in k ≡ 2)
    (recalls : (settings : Settings) → IsRecalled settings start.now.0 start.schema (meanings records.items) (groups_in r.catalog)) (order : AreInOrder start.schema (groups_in r.catalog))
    (commits_are : r.commits.items ≡ commits_in (notes_of start.schema (meanings records.items))) (next_is : r.next ≡ next_behind (meanings records.items)) (rise : RiseBetween 1 r.commits.items r.next) (law : RecalledLaw)
    (goes : BankGoesOn state possible d d1) (certainly : HistoryIsCertain state possible) (crash : (o : Held) → Certain state possible d1 o → HaveBytes o.slots → Leaves state possible d1 d2 (commit_opening.Keeps o)) where
  recalled_by : (settings : Settings) → IsRecalled settings start.now.0 start.schema (meanings records.items) (groups_in start.catalog)
  recalled_by settings = subst (λ c. IsRecalled settings start.now.0 start.schema (meanings records.items) (groups_in c)) (sym catalog) (recalls settings)

  bare : Each IsBare (groups_in start.catalog)
  bare = subst (λ c. Each IsBare (groups_in c)) (sym catalog) order.bare

  commits_by : start.commits.items ≡ commits_in (notes_of start.schema (meanings records.items))
  commits_by = ap (λ x. x.items) commits ∙ commits_are

  rises : RiseBetween 1 start.commits.items start.next
  rises = subst (λ n. RiseBetween 1 start.commits.items n) (sym next) (subst (λ x. RiseBetween 1 x.items r.next) (sym commits) rise)

  pub opens_by : (t : Stored) → ReopensFrom start (state d2) (state d3) (Ok t) → KeepsCertain state possible d2 d3 → Opens state possible start.now.0 start.pace d d3 t k
  opens_by t reopens certain onset o settings held bytes sure due =
      opens state possible d d1 d2 start k records told shared found two recalled_by bare commits_by (next ∙ next_is) rises law goes certainly crash onset o settings held bytes sure due d3 t reopens certain

  -- what a crash leaves of it where it fails
  pub leaves_by : (e : ReopenError) → ReopensFrom start (state d2) (state d3) (Err e) → KeepsCertain state possible d2 d3 → FailsLeaving state possible start.now.0 start.pace d d3
  leaves_by e reopens certain o settings sure bytes due =
      inr (stops state possible d d1 d2 start k records told shared found two recalled_by bare commits_by (next ∙ next_is) rises law goes certainly crash o settings bytes sure due d3 e reopens certain)

  -- why it fails
  pub fails_by : (e : ReopenError) (f : OpenError) → IsTold start.schema e f → (e ≡ reopen.Failed → Rose (state d).bank_faults (state d3).bank_faults)
      → ReopensFrom start (state d2) (state d3) (Err e) → DiffersAs start.commits.items (state d2) (state d3) e → FailsAs start.now.0 start.pace (state d) (state d3) f
  fails_by reopen.Failed f is rose reopens differs = subst (FailsAs start.now.0 start.pace (state d) (state d3)) (sym is) (rose refl)
  fails_by reopen.Memory f is rose reopens differs = subst (FailsAs start.now.0 start.pace (state d) (state d3)) (sym is) tt
  fails_by (reopen.Differs table key) open_error.Disk is rose reopens differs = absurd is
  fails_by (reopen.Differs table key) open_error.Bank is rose reopens differs = absurd is
  fails_by (reopen.Differs table key) (open_error.Damaged slot place) is rose reopens differs = absurd is
  fails_by (reopen.Differs table key) open_error.Memory is rose reopens differs = tt
  fails_by (reopen.Differs table key) (open_error.Differs name other) is rose reopens differs = λ o settings held bytes due.
      subst (IsDiffering settings start.now.0 (state d).shared o (state d3) name) (sym is.1)
      (differing state possible d d1 d2 start k records told shared found two recalled_by bare commits_by (next ∙ next_is) rises law goes certainly crash AtJournal o settings held bytes tt due d3 table name key is.0 reopens differs)

-- what is so whatever the error is
pub in_error : {T E : Type 0} {X : Type 0} (r : Result T E) → X → IfErr r (λ e. X)
in_error (Ok done) x = tt
in_error (Err e) x = x

-- and where it fails before that
pub leaves_found : {D : Type 0} (state : D → SiteState) (possible : D → ℕ → Held → Type 0) (d d1 d2 : D) (result : Result (List TableDef) BankError) → BankTold (state d) (state d1) (TellsSchema result) → BankGoesOn state possible d d1 → HistoryIsCertain state possible
    → ((o : Held) → Certain state possible d1 o → HaveBytes o.slots → Leaves state possible d1 d2 (commit_opening.Keeps o)) → (moment : ℕ) (pace : Pace) → FailsLeaving state possible moment pace d d2
leaves_found state possible d d1 d2 result told goes certainly crash moment pace o settings certain bytes due =
    inl (found_left state possible d d1 d2 (TellsSchema result) (schema_reads result) told goes certainly crash o certain bytes)

-- ---- damage

pub unfit_at : {D : Type 0} (state : D → SiteState) (possible : D → ℕ → Held → Type 0) (moment : ℕ) (d d1 d2 : D) (schema : List TableDef) (k : TierJournal) (records : Vec (ℕ × Record)) (slot : Slot) (place : ℕ)
    → site.Told (state d).held (state d1).held (site.BankCall (state d).shared (TellsSchema (Ok schema)))
    → ((o : Held) → (state d1).held ≡ Some o → HaveBytes o.slots → Finds state possible d2 schema o (Whole k records)) → slot ≡ slot_in k
    → ((settings : Settings) → IsFirstUnfit settings moment schema records.items place)
    → (o : Held) → (state d).held ≡ Some o → HaveBytes o.slots → IsDamage moment o slot place
unfit_at state possible moment d d1 d2 schema k records slot place told found same first o held bytes =
    let now : TellsBehind o (state d1).held (site.BankCall (state d).shared (TellsSchema (Ok schema))) = told_behind o (state d).held (state d1).held (site.BankCall (state d).shared (TellsSchema (Ok schema))) held told in
    let f : Finds state possible d2 schema now.there (Whole k records) = found now.there now.told (subst HaveBytes (sym now.is.slots) bytes) in
    let rests : AtRest k.journal f.now.slots (entries_of f.shows.0) [] =
    subst (λ l. AtRest k.journal f.now.slots l []) (sym (stand_written schema (meanings records.items) f.shows.0 f.shows.2)) f.shows.4.rests in
    record {
      schema = schema;
      now = f.now.slots;
      is = inr (record {
        placed = f.shows.0;
        reads = subst (λ x. Reads x f.shows.0 None) now.is.slots f.shows.1;
        records = records.items;
        stand = f.shows.2;
        places = f.shows.3;
        counts = (k.journal, rests, sym same);
        first = first;
      });
    }

-- the journal's own damage, behind the question for the schema
pub unfound_behind : {D : Type 0} (state : D → SiteState) (moment : ℕ) (d d1 : D) (schema : List TableDef) (slot : Slot) (place : ℕ)
    → site.Told (state d).held (state d1).held (site.BankCall (state d).shared (TellsSchema (Ok schema)))
    → ((o : Held) → (state d1).held ≡ Some o → HaveBytes o.slots → (now : Slots) × IsUnfound schema o.slots now slot place)
    → (o : Held) → (state d).held ≡ Some o → HaveBytes o.slots → IsDamage moment o slot place
unfound_behind state moment d d1 schema slot place told found o held bytes =
    let now : TellsBehind o (state d1).held (site.BankCall (state d).shared (TellsSchema (Ok schema))) = told_behind o (state d).held (state d1).held (site.BankCall (state d).shared (TellsSchema (Ok schema))) held told in
    let x = found now.there now.told (subst HaveBytes (sym now.is.slots) bytes) in
    record { schema = schema; now = x.0; is = inl (subst (λ s. IsUnfound schema s x.0 slot place) now.is.slots x.1) }
