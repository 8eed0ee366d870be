-- What an INSERT leaves of the worlds.
use Rattle.std.proofs.Common.{◌≡◌, ◌≤◌, Bool, true, false, Option, Some, None, is_some, Ok, List, ◌∷◌, ◌++◌, find, slice_get, refl, sym, ap, subst, ◌∙◌}
use Rattle.std.proofs.lemmas.List.{append-nil}
use Rattle.tier_base.specs.declared.number.TableId.{TableId}
use Rattle.row_types.specs.declared.value.Value.{Value}
use Rattle.table_state.specs.declared.history.Entry.{Entry}
use Rattle.table_state.specs.declared.history.Sealed.{Sealed}
use Rattle.table_state.specs.declared.operation.Op.{Op}
use Rattle.table_state.specs.Histories.{state_of}
use Rattle.table_state.specs.Tables.{TableState}
use Rattle.order_laws.specs.Effects.{row_at}
use Rattle.outside.specs.Bank.{TellsRow}
use Rattle.outside.specs.Others.{AreOthers, Around, is_shared}
use Rattle.evaluator.specs.Cascades.{key_in}
use Rattle.cache_tier.specs.Groups.{Group, covers, is_table_of, is_writethrough}
use Rattle.cache_tier.specs.InsertSteps.{has_key_in}
use Rattle.cache_tier.specs.Shown.{written_on}
use Rattle.cache_tier.specs.TierStates.{Session, Tier, session_of}
use Rattle.cache_tier.specs.Worlds.{IsUnshared, World}
use Rattle.cache_tier.specs.Events.{StaysShown, at_history}
use Rattle.cache_tier.specs.Pending.{last_written, pending_ops}
use Rattle.cache_tier.specs.StandingBetween.{Stands}
use Rattle.cache_tier.proofs.GroupTables.{live_at}
use Rattle.cache_tier.proofs.PendingRows.{virtual_row}
use Rattle.session_engine.specs.declared.inserting.Known.{Known}
use Rattle.session_engine.specs.declared.inserting.Known.TheVariants as kind
use Rattle.session_engine.specs.Inserting.{has_row, leaves_row, some_writes_key, writes_key}
use Rattle.session_engine.proofs.InsertLaws.{key_there, last_behind, none_written, of_pending, others_keep_row, some_written}
use Rattle.session_engine.proofs.OrderedRows.{row_left}

abbrev pub PendingLaw : Type 0
PendingLaw =
    (w : World) (s : Session) (backing : TableState) (t : TableId) (key : List Value) → Stands w
    → session_of w.tier s.label ≡ Some s → state_of w.history ≡ Some backing
    → row_at (written_on s w.history w.tier) t key ≡ last_written w.tier.schema t key (pending_ops w ++ s.own) (row_at backing t key)

abbrev pub EntriesLaw : Type 0
EntriesLaw =
    (w : World) (entries : List Entry) → Stands w → IsUnshared w → AreOthers w.shared w.history entries
    → StaysShown w (at_history (w.history ++ entries) w)

-- the same of a key, in a tier
pub record IsLeftIn (a : Tier) (t : TableId) (key : List Value) (leaves : Bool) : Type 0 where
  pub front : List Sealed
  pub one : Sealed
  pub behind : List Sealed
  pub log : a.log ≡ front ++ one ∷ behind
  pub writes : writes_key a.schema one.ops t key ≡ true
  pub none : some_writes_key a.schema behind t key ≡ false
  pub group : Group
  pub found : find (covers t) a.groups ≡ Some group
  pub since : group.first ≤ one.ticket.0
  pub is : leaves ≡ leaves_row a.schema one.ops t key

abbrev pub KnowsIn : Tier → List Op → TableId → List Value → Known → Type 0
KnowsIn a own t key kind.Own = writes_key a.schema own t key ≡ true
KnowsIn a own t key (kind.Left leaves) = (writes_key a.schema own t key ≡ false) × IsLeftIn a t key leaves
KnowsIn a own t key kind.Free = (writes_key a.schema own t key ≡ false) × (some_writes_key a.schema a.unsettled t key ≡ false)

-- so it is told whether the key has a row
decided_row : PendingLaw → (w : World) (s : Session) (t : TableId) (key : List Value) (k : Known) (backing : TableState) → Stands w → session_of w.tier s.label ≡ Some s → is_table_of is_writethrough w.tier.groups t ≡ true → state_of w.history ≡ Some backing
    → KnowsIn w.tier s.own t key k → (shown : Option (List Value)) → (k ≡ kind.Own → last_written w.tier.schema t key s.own shown ≡ None)
    → is_some (row_at (written_on s w.history w.tier) t key) ≡ has_row k (row_at backing t key)
decided_row law w s t key kind.Own backing x there through leads knows shown hidden =
    ap is_some
    (law w s backing t key x there leads ∙ last_behind w.tier.schema t key (pending_ops w) s.own (row_at backing t key)
    ∙ some_written w.tier.schema t key s.own _ shown knows ∙ hidden refl)
decided_row law w s t key (kind.Left leaves) backing x there through leads knows shown hidden =
    let left = knows.1 in
    let live = live_at w.tier.groups t x.catalog.apart through in
    let both : Some left.group ≡ Some live.group = sym left.found ∙ live.found in
    let same : left.group ≡ live.group = cc in
    ap is_some
    (law w s backing t key x there leads ∙ last_behind w.tier.schema t key (pending_ops w) s.own (row_at backing t key)
    ∙ none_written w.tier.schema t key s.own (last_written w.tier.schema t key (pending_ops w) (row_at backing t key)) knows.0
    ∙ sym (virtual_row w backing x.flow.stand.over.virtual t key x leads x.flow.stand.over.virtual_is)
    ∙ row_left w x left.front left.one left.behind t key left.log live (subst (λ (g : Group). g.first ≤ left.one.ticket.0) same left.since) left.writes left.none None)
    ∙ sym left.is
decided_row law w s t key kind.Free backing x there through leads knows shown hidden =
    ap is_some
    (law w s backing t key x there leads ∙ last_behind w.tier.schema t key (pending_ops w) s.own (row_at backing t key)
    ∙ none_written w.tier.schema t key s.own (last_written w.tier.schema t key (pending_ops w) (row_at backing t key)) knows.0
    ∙ of_pending w.history w.tier.schema t key w.tier.unsettled knows.1 (row_at backing t key))

-- ---- one INSERT

module _ (pending : PendingLaw) (entries : EntriesLaw) (w : World) (s : Session) (t : TableId) (row : List Value) (k : Known) (stands : Stands w) (apart : IsUnshared w) (there : session_of w.tier s.label ≡ Some s) (through : is_table_of is_writethrough w.tier.groups t ≡ true)
    (knows : KnowsIn w.tier s.own t (key_in (slice_get w.tier.schema t.0) row) k)
    (shown : Option (List Value)) (hidden : k ≡ kind.Own → last_written w.tier.schema t (key_in (slice_get w.tier.schema t.0) row) s.own shown ≡ None) where
  abbrev its_key : List Value
  its_key = key_in (slice_get w.tier.schema t.0) row

  unshared : is_shared w.shared t ≡ false
  unshared = by (is_shared w.shared t) refl
    where
      by : (b : Bool) → is_shared w.shared t ≡ b → is_shared w.shared t ≡ false
      by false is = is
      by true is = let no : true ≡ false = sym through ∙ apart t is in cc

  -- at a history with entries of others more
  at_more : (more : List Entry) → AreOthers w.shared w.history more → (backing : TableState) → state_of (w.history ++ more) ≡ Some backing → has_key_in (written_on s (w.history ++ more) w.tier) t row ≡ has_row k (row_at backing t its_key)
  at_more more others backing leaves =
      let stays = (entries w more stands apart others).stands in
      key_there (at_history (w.history ++ more) w) s t row stays through
      ∙ decided_row pending (at_history (w.history ++ more) w) s t its_key k backing stays there through leaves knows shown hidden

  module _ (found : Option (List Value)) (later : List Entry) (a : Around w.shared (TellsRow t its_key (Ok found)) w.history later) where
    middle : a.middle ≡ w.history ++ a.before
    middle = a.own.0 ∙ append-nil (w.history ++ a.before)

    abbrev backing : TableState
    backing = (entries w a.before stands apart a.came_before).stands.flow.stand.over.backing

    leaves : state_of (w.history ++ a.before) ≡ Some backing
    leaves = (entries w a.before stands apart a.came_before).stands.flow.stand.over.leaves

    told : found ≡ row_at backing t its_key
    told = a.own.1 backing (ap state_of middle ∙ leaves)

    -- where the bank was asked
    pub asked : has_key_in (written_on s (w.history ++ a.before) w.tier) t row ≡ has_row k found
    asked = at_more a.before a.came_before backing leaves ∙ ap (has_row k) (sym told)

    -- and behind the call
    pub behind_call : Stands (at_history later w) → has_key_in (written_on s later w.tier) t row ≡ has_row k found
    behind_call x =
        let y = x.flow.stand.over in
        let later_is : later ≡ (w.history ++ a.before) ++ a.behind = a.is ∙ ap (λ l. l ++ a.behind) middle in
        let same : row_at y.backing t its_key ≡ row_at backing t its_key =
        others_keep_row w.shared t its_key unshared a.behind (w.history ++ a.before) (subst (λ l. AreOthers w.shared l a.behind) middle a.came_behind) backing y.backing leaves (ap state_of (sym later_is) ∙ y.leaves) in
        key_there (at_history later w) s t row x through
        ∙ decided_row pending (at_history later w) s t its_key k y.backing x there through y.leaves knows shown hidden
        ∙ ap (has_row k) (same ∙ sym told)
