-- What is read for a refresh, in the worlds at the site.
use Rattle.std.proofs.Common.{◌≡◌, ◌≤◌, ℕ, zero, suc, ◌+◌, Bool, true, false, cond, ◌||◌, nat_eq, Option, Some, None, List, [], ◌∷◌, ◌++◌, length, map, slice_get, take, refl, sym, ap, subst, ◌∙◌, arith}
use Rattle.std.proofs.lemmas.Bool.{eqb-true}
use Rattle.std.proofs.lemmas.List.{append-nil}
use Rattle.std.proofs.lemmas.List.Folds.{list_any-append}
use Rattle.std.specs.Prelude.{Result, Ok, Err}
use Rattle.std.specs.FinMap as fm
use Rattle.std.specs.FinMap.{empty}
use Rattle.row_types.specs.declared.value.Value.{Value}
use Rattle.tier_base.specs.declared.number.TableId.{TableId}
use Rattle.table_defs.specs.declared.definition.TableDef.{TableDef}
use Rattle.indexed_rows.specs.Rows.{Table, key_of}
use Rattle.table_state.specs.declared.history.Entry.{Entry}
use Rattle.table_state.specs.Copies.{is_one_of}
use Rattle.table_state.specs.Histories.{state_at, state_of}
use Rattle.table_state.specs.Tables.{TableState, table_at}
use Rattle.instances.specs.declared.tree.Child.{Child}
use Rattle.instances.specs.Trees.{is_place}
use Rattle.outside.specs.Bank.{Grows}
use Rattle.outside.specs.Calls as site
use Rattle.outside.specs.Console.{IsCopyOf, TakesSnapshot}
use Rattle.outside.specs.Holding.{Held}
use Rattle.outside.specs.Others.{Around}
use Rattle.outside.specs.declared.fault.BankError.{BankError}
use Rattle.outside.specs.declared.fault.BankError.TheVariants.{Memory}
use Rattle.outside.specs.declared.site.Snapshot.{Snapshot}
use Rattle.order_laws.proofs.TruthLaws.{both_true, or_true}
use Rattle.group_catalog.specs.Catalogs.{groups_in}
use Rattle.group_store.specs.Keeping.{primary_of}
use Rattle.group_store.specs.Stores.{Kept}
use Rattle.slot_rows.specs.SlotKeys.{RowsHeld}
use Rattle.cache_tier.specs.Commits.{tables_of}
use Rattle.cache_tier.specs.Groups.{Group, is_key}
use Rattle.cache_tier.specs.Reading.{TellsPosition}
use Rattle.cache_tier.specs.Sets.{Choice}
use Rattle.cache_tier.specs.Worlds.{BankCall, IsUnshared, World}
use Rattle.cache_tier.specs.Events.{StaysShown, at_history}
use Rattle.cache_tier.specs.StandingBetween.{IsCatalogued, Stands}
use Rattle.cache_tier.proofs.ChosenGroups.{each_at}
use Rattle.cache_tier.proofs.HistoryKeeps.{around_goes_on, others_go_on}
use Rattle.cache_tier.proofs.SoundStates.{sound_history}
use Rattle.stored_tier.specs.declared.tier.Tier.{Tier as Stored}
use Rattle.stored_tier.specs.declared.refreshing.Made.{Made}
use Rattle.stored_tier.proofs.HiddenRows.{hides_later}
use Rattle.stored_tier.proofs.LongerLaws.{read_longer}
use Rattle.stored_tier.proofs.ListLaws.{hidden_kept, store_kept}
use Rattle.group_engine.specs.Fresh.{AreFormed, AreFresh, AreGained, HasOwnKeys, IsFreshFor, IsRead, IsViewed, gained_at}
use Rattle.group_engine.specs.Gaining.{AreMadeGaining, IsMadeFor, IsMadeWith, IsStoredAt, widened}
use Rattle.stored_tier.specs.Performing.{StandsFor}
use Rattle.stored_tier.specs.Filling.{is_held}
use Rattle.stored_tier.specs.Refreshing.{AreMade, IsMade, IsMadeAnew, is_filled, tables_read}
use Rattle.stored_tier.specs.Sites.{IsAt}
use Rattle.outside.specs.Sites.{SiteState}
use Rattle.stored_tier.specs.Stored.{IsSound, without_list}
use Rattle.stored_tier.proofs.BankLaws.{TellsBehind, behind, behind_at, call_behind, told_behind}
use Rattle.group_engine.proofs.FillLaws.{filled_form, filled_from, filled_hiding, filled_long, filled_with, first_one, gains_none, root_under}
use Rattle.group_engine.proofs.FreshGroup.{gained_here}
use Rattle.group_engine.proofs.WidenedLaws.{held_widened, primary_key}

-- nothing was called
pub not_called : (t : Stored) (seen : SiteState) (w : World) → IsAt seen w → StandsFor t w → IsRead t seen (Err Memory) w
not_called t seen w at stands = record {
  world = w;
  at = at;
  stands = stands;
  call = record {
    history = record {
      before = [];
      middle = w.history;
      behind = [];
      came_before = tt;
      own = sym (append-nil (w.history ++ []) ∙ append-nil w.history);
      came_behind = tt;
      is = sym (append-nil w.history);
    };
    journal = refl;
    faults = omega arith;
    disk = refl;
    moment = omega arith;
    shared = refl;
  };
  tier = refl;
}

-- the counts of faults and the moment play no part
pub stands_then : (w : World) (held : Held) (after : SiteState) → Stands (at_history held.history w) → Stands (behind w w.tier held after)
stands_then w held after x = record {
  flow = x.flow;
  schema = record { front = x.schema.front; whole = x.schema.whole };
  catalog = x.catalog;
  keys = x.keys;
  read = x.read;
  sessions = x.sessions;
}

around_weaker : (shared : List TableId) (step other : List Entry → List Entry → Type 0) (old new : List Entry) → ((a b : List Entry) → step a b → other a b) → Around shared step old new → Around shared other old new
around_weaker shared step other old new f a = record {
  before = a.before;
  middle = a.middle;
  behind = a.behind;
  came_before = a.came_before;
  own = f (old ++ a.before) a.middle a.own;
  came_behind = a.came_behind;
  is = a.is;
}

module _ (t : Stored) (before after : SiteState) (step : List Entry → List Entry → Type 0) (grows : (a b : List Entry) → step a b → Grows [] a b) (given : site.Told before.held after.held (site.BankCall before.shared step))
    (faults : before.bank_faults ≤ after.bank_faults) (moment : before.moment ≤ after.moment) (shares : after.shared ≡ before.shared) (w : World) (at : IsAt before w) (stands : StandsFor t w) (apart : IsUnshared w) where
  now : TellsBehind at.there after.held (site.BankCall before.shared step)
  now = told_behind at.there before.held after.held (site.BankCall before.shared step) at.told given

  abbrev mid : World
  mid = behind w w.tier now.there after

  -- the call in the worlds
  called : BankCall step w (behind w w.tier now.there after)
  called = call_behind w w.tier before after now.there step at now.is faults moment

  grown : Around w.shared (Grows []) w.history now.there.history
  grown = around_weaker w.shared step (Grows []) w.history now.there.history grows called.history

  still : StaysShown w (at_history now.there.history w)
  still = around_goes_on w now.there.history stands.stands apart grown

  pub was_read : (told : Result ℕ BankError) → ((a b : List Entry) → step a b → TellsPosition told a b) → IsRead t after told w
  was_read told tells = record {
    world = behind w w.tier now.there after;
    at = behind_at w w.tier before after now.there at now.told shares;
    stands = record {
      stored = stands.stored;
      shows = stands.shows ∙ sym still.same;
      hides = hides_later t w now.there.history stands (read_longer w step now.there.history grows called.history);
      stands = stands_then w now.there after still.stands;
      waits = stands.waits;
    };
    call = record {
      history = around_weaker w.shared step (TellsPosition told) w.history now.there.history tells called.history;
      journal = called.journal;
      faults = called.faults;
      disk = called.disk;
      moment = called.moment;
      shared = called.shared;
    };
    tier = refl;
  }

-- a snapshot that failed, or that memory was wanting for

pub snapshot_grows : (asked : List TableId) (result : Result Snapshot BankError) (a b : List Entry) → TakesSnapshot asked result a b → Grows [] a b
snapshot_grows asked (Ok snapshot) a b s = s.0
snapshot_grows asked (Err e) a b s = s

pub read_failed : (t : Stored) (before after : SiteState) (asked : List TableId) (e : BankError) (result : Result Snapshot BankError) → site.Told before.held after.held (site.BankCall before.shared (TakesSnapshot asked result)) → before.bank_faults ≤ after.bank_faults
    → before.moment ≤ after.moment → after.shared ≡ before.shared → (w : World) → IsAt before w → StandsFor t w → IsUnshared w → IsRead t after (Err e) w
read_failed t before after asked e result told faults moment shares w at stands apart =
    was_read t before after (TakesSnapshot asked result) (snapshot_grows asked result) told faults moment shares w at stands apart (Err e) (snapshot_grows asked result)

-- stores that were made

any_taken : (asked more : List TableId) (u : TableId) → is_one_of (asked ++ more) u ≡ (is_one_of asked u || is_one_of more u)
any_taken asked more u = list_any-append (λ (one : TableId). nat_eq one.0 u.0) asked more

read_there : (chosen : Choice) (from : ℕ) (groups : List Group) (k : ℕ) (g : Group) (u : TableId) → slice_get groups k ≡ Some g → chosen (from + k) g ≡ true → is_one_of (tables_of g.def.tree) u ≡ true → is_one_of (tables_read chosen from groups) u ≡ true
read_there chosen from [] k g u at c e = cc
read_there chosen from (x ∷ groups) zero g u at c e =
    let same : x ≡ g = cc in
    let here : from ≡ from + 0 = omega arith in
    any_taken (cond (chosen from x) (tables_of x.def.tree) []) (tables_read chosen (suc from) groups) u
    ∙ ap (λ b. is_one_of (cond b (tables_of x.def.tree) []) u || is_one_of (tables_read chosen (suc from) groups) u) (ap (λ n. chosen n x) here ∙ ap (chosen (from + 0)) same ∙ c)
    ∙ ap (λ b. b || is_one_of (tables_read chosen (suc from) groups) u) (ap (λ (y : Group). is_one_of (tables_of y.def.tree) u) same ∙ e)
read_there chosen from (x ∷ groups) (suc k) g u at c e =
    let here : from + suc k ≡ suc from + k = omega arith in
    any_taken (cond (chosen from x) (tables_of x.def.tree) []) (tables_read chosen (suc from) groups) u
    ∙ ap (λ b. is_one_of (cond (chosen from x) (tables_of x.def.tree) []) u || b) (read_there chosen (suc from) groups k g u at (ap (λ n. chosen n g) (sym here) ∙ c) e)
    ∙ or_true (is_one_of (cond (chosen from x) (tables_of x.def.tree) []) u)

form_made : (b : Bool) (schema : List TableDef) (state : TableState) (g : Group) (old : Kept) (hidden : Table) (m : Made) → IsMade b schema state g old hidden (Some m) → IsMadeAnew schema state g old hidden m
form_made true schema state g old hidden m is = is
form_made false schema state g old hidden m is = cc

-- what was made of the group at a place
record IsMadeThere (filled : Choice) (t : Stored) (state : TableState) (k : ℕ) (g : Group) (m : Made) : Type 0 where
  old : Kept
  hidden : RowsHeld
  made : IsMadeAnew t.schema state g old hidden.table m

made_there : (filled : Choice) (t : Stored) (state : TableState) (made : List (Option Made)) → IsSound t → AreMade filled t.schema state (groups_in t.catalog) t.stores.items t.hidden.items made → (k : ℕ) (g : Group) (m : Made) → slice_get (groups_in t.catalog) k ≡ Some g → slice_get made k ≡ Some (Some m) → IsMadeThere filled t state k g m
made_there filled t state made sound are k g m at there =
    let s = store_kept t k g sound at in
    let x = hidden_kept t k g sound at in
    record { old = s.0; hidden = x.0; made = form_made (filled k g) t.schema state g s.0 x.0.table m (are.each k g s.0 x.0 (Some m) at s.1 x.1 there) }

pub are_formed : (filled : Choice) (t : Stored) (state : TableState) (made : List (Option Made)) → IsSound t → AreMade filled t.schema state (groups_in t.catalog) t.stores.items t.hidden.items made → AreFormed t.schema (groups_in t.catalog) made
are_formed filled t state made sound are = record {
  long = are.long;
  form = λ k g m at there. let one = made_there filled t state made sound are k g m at there in filled_form state t.schema g one.old one.hidden.table m one.made;
  whole = λ k m there.
      let (g, at) = Rattle.group_engine.proofs.GroupRows.there_too made (groups_in t.catalog) k (Some m) (sym are.long) there in
      let one = made_there filled t state made sound are k g m at there in filled_long state t.schema g one.old one.hidden.table m one.made;
  hiding = λ k g m at there. let one = made_there filled t state made sound are k g m at there in filled_hiding state t.schema g one.old one.hidden.table m one.made;
}

-- a front of a history

take_front : {X : Type 0} (xs ys : List X) → take (length xs) (xs ++ ys) ≡ xs
take_front [] ys = refl
take_front (x ∷ xs) ys = ap (λ l. x ∷ l) (take_front xs ys)

longer : {X : Type 0} (xs ys : List X) → length xs ≤ length (xs ++ ys)
longer [] ys = omega arith
longer (x ∷ xs) ys = let le = longer xs ys in omega (arith, le)

pub unmapped : (groups : List Group) (k : ℕ) (g : Group) → slice_get (map without_list groups) k ≡ Some g → (h : Group) × (slice_get groups k ≡ Some h) × (without_list h ≡ g)
unmapped [] k g at = cc
unmapped (x ∷ groups) zero g at = let same : without_list x ≡ g = cc in (x, refl, same)
unmapped (x ∷ groups) (suc k) g at = unmapped groups k g at

-- the state that was read, of which the tables of the chosen groups are copied
pub record ReadsState (t : Stored) (mid : World) (chosen : Choice) (snapshot : Snapshot) : Type 0 where
  pub state : TableState
  pub there : state_at mid.history snapshot.position.0 ≡ Some state
  pub schema : snapshot.tables.schema ≡ state.schema
  pub keyed : (k : ℕ) (g : Group) → slice_get (groups_in t.catalog) k ≡ Some g → HasOwnKeys state g
  pub copied : (k : ℕ) (g : Group) → slice_get (groups_in t.catalog) k ≡ Some g → chosen k g ≡ true → (u : TableId) → is_one_of (tables_of g.def.tree) u ≡ true → table_at snapshot.tables u ≡ table_at state u

-- what was read for a refresh
module _ (t : Stored) (before after : SiteState) (asked : List TableId) (snapshot : Snapshot) (chosen : Choice) (read : asked ≡ tables_read chosen 0 (groups_in t.catalog)) (given : site.Told before.held after.held (site.BankCall before.shared (TakesSnapshot asked (Ok snapshot))))
    (faults : before.bank_faults ≤ after.bank_faults) (moment : before.moment ≤ after.moment) (shares : after.shared ≡ before.shared) (w : World) (at : IsAt before w) (stands : StandsFor t w) (apart : IsUnshared w) where
  abbrev step : List Entry → List Entry → Type 0
  step = TakesSnapshot asked (Ok snapshot)

  abbrev n : ℕ
  n = snapshot.position.0

  told_now : TellsBehind at.there after.held (site.BankCall before.shared (TakesSnapshot asked (Ok snapshot)))
  told_now = now t before after (TakesSnapshot asked (Ok snapshot)) (snapshot_grows asked (Ok snapshot)) given faults moment shares w at stands apart

  pub read_here : IsRead t after (Ok snapshot.position.0) w
  read_here = was_read t before after (TakesSnapshot asked (Ok snapshot)) (snapshot_grows asked (Ok snapshot)) given faults moment shares w at stands apart (Ok snapshot.position.0) (λ a b s. (s.0, s.1))

  around : Around w.shared (TakesSnapshot asked (Ok snapshot)) w.history told_now.there.history
  unfolding told_now
  around = (called t before after (TakesSnapshot asked (Ok snapshot)) (snapshot_grows asked (Ok snapshot)) given faults moment shares w at stands apart).history

  first : StaysShown w (at_history (w.history ++ around.before) w)
  first = others_go_on w around.before stands.stands apart around.came_before

  middle_is : around.middle ≡ w.history ++ around.before
  middle_is = around.own.0 ∙ append-nil (w.history ++ around.before)

  abbrev state : TableState
  state = first.stands.flow.stand.over.backing

  there : state_of around.middle ≡ Some first.stands.flow.stand.over.backing
  there = ap state_of middle_is ∙ first.stands.flow.stand.over.leaves

  at_it : state_at told_now.there.history snapshot.position.0 ≡ Some first.stands.flow.stand.over.backing
  at_it =
      ap (state_at told_now.there.history) around.own.1
      ∙ ap (λ h. state_at h (length around.middle)) around.is
      ∙ ap state_of (take_front around.middle around.behind)
      ∙ there

  copy : IsCopyOf asked first.stands.flow.stand.over.backing snapshot.tables
  copy = around.own.2 first.stands.flow.stand.over.backing there

  sound_tree : (k : ℕ) (g : Group) → slice_get (groups_in t.catalog) k ≡ Some g → Rattle.instances.specs.Trees.is_sound t.schema g.def.tree ≡ true
  sound_tree k g spot =
      let (h, h_at, same) = unmapped w.tier.groups k g (ap (λ l. slice_get l k) stands.stored.groups ∙ spot) in
      ap (λ (y : Group). Rattle.instances.specs.Trees.is_sound t.schema y.def.tree) (sym same)
      ∙ ap (λ defs. Rattle.instances.specs.Trees.is_sound defs h.def.tree) (sym stands.stored.schema)
      ∙ (each_at (IsCatalogued w.tier.schema) w.tier.groups k h stands.stands.catalog.each h_at).sound

  front : (more : List TableDef) × (first.stands.flow.stand.over.backing.schema ≡ t.schema ++ more)
  front =
      let f = first.stands.schema.front first.stands.flow.stand.over.backing first.stands.flow.stand.over.leaves in
      (f.0, f.1 ∙ ap (λ defs. defs ++ f.0) stands.stored.schema)

  sound_state : Rattle.cache_tier.proofs.SoundStates.IsSoundState first.stands.flow.stand.over.backing
  sound_state = sound_history (w.history ++ around.before) first.stands.flow.stand.over.backing first.stands.flow.stand.over.leaves

  own_keys : (k : ℕ) (g : Group) → slice_get (groups_in t.catalog) k ≡ Some g → HasOwnKeys first.stands.flow.stand.over.backing g
  own_keys k g spot key row e =
      root_under first.stands.flow.stand.over.backing g.def.tree (λ q. true) sound_state
      (subst (λ defs. Rattle.instances.specs.Trees.is_sound defs g.def.tree ≡ true) (sym front.1) (Rattle.cache_tier.proofs.ShownTrees.sound_later t.schema front.0 g.def.tree (sound_tree k g spot))) key row e

  -- the tables of a group that is chosen are copied
  copied : (k : ℕ) (g : Group) → slice_get (groups_in t.catalog) k ≡ Some g → chosen k g ≡ true → (u : TableId) → is_one_of (tables_of g.def.tree) u ≡ true → table_at snapshot.tables u ≡ table_at first.stands.flow.stand.over.backing u
  copied k g spot c u e =
      let zero_k : 0 + k ≡ k = omega arith in
      let one : is_one_of asked u ≡ true = ap (λ l. is_one_of l u) read ∙ read_there chosen 0 (groups_in t.catalog) k g u spot (ap (λ m. chosen m g) zero_k ∙ c) e in
      copy.rows u ∙ ap (λ b. cond b (table_at first.stands.flow.stand.over.backing u) empty) one

  within_it : snapshot.position.0 ≤ length told_now.there.history
  within_it =
      let le = longer around.middle around.behind in
      let n_is = around.own.1 in
      let long = ap length around.is in
      omega (arith, le, n_is, long)

  pub reads_state : ReadsState t read_here.world chosen snapshot
  unfolding read_here told_now was_read now
  reads_state = record { state = first.stands.flow.stand.over.backing; there = at_it; schema = copy.schema; keyed = own_keys; copied = copied }

  -- stores that were made
  module _ (loads : Option ℕ) (made : List (Option Made)) (are : AreMade (is_filled chosen loads) t.schema snapshot.tables (groups_in t.catalog) t.stores.items t.hidden.items made) where
    viewed : (k : ℕ) (g : Group) (s : Kept) (h : RowsHeld) (o : Option Made) → slice_get (groups_in t.catalog) k ≡ Some g → slice_get t.stores.items k ≡ Some s → slice_get t.hidden.items k ≡ Some h → slice_get made k ≡ Some o
        → IsViewed (is_filled chosen loads k g) first.stands.flow.stand.over.backing g s h.table [] o
    viewed k g s h o spot kept held made_o = by (is_filled chosen loads k g) refl o (are.each k g s h o spot kept held made_o)
      where
        by : (b : Bool) → is_filled chosen loads k g ≡ b → (x : Option Made) → IsMade (is_filled chosen loads k g) t.schema snapshot.tables g s h.table x → IsViewed (is_filled chosen loads k g) first.stands.flow.stand.over.backing g s h.table [] x
        by true f None is = absurd (subst (λ c. IsMade c t.schema snapshot.tables g s h.table None) f is)
        by true f (Some x) is =
            subst (λ c. IsViewed c first.stands.flow.stand.over.backing g s h.table [] (Some x)) (sym f)
            (filled_from first.stands.flow.stand.over.backing snapshot.tables t.schema front.0 g s h.table x sound_state (sound_tree k g spot) front.1 copy.schema
            (copied k g spot (both_true (chosen k g) (g.def.dynamic || (g.loaded || is_place k loads)) f).0)
            (subst (λ c. IsMade c t.schema snapshot.tables g s h.table (Some x)) f is))
        by false f x is = subst (λ c. IsViewed c first.stands.flow.stand.over.backing g s h.table [] x) (sym f) (subst (λ c. IsMade c t.schema snapshot.tables g s h.table x) f is)

    pub fresh_here : AreFresh t read_here.world (is_filled chosen loads) snapshot.position.0 made
    unfolding read_here told_now was_read now
    fresh_here = record {
      state = first.stands.flow.stand.over.backing;
      there = at_it;
      within = within_it;
      keyed = own_keys;
      views = viewed;
    }

  -- the same where the group at a place gains these root rows
  module _ (loads : Option ℕ) (made : List (Option Made)) (place : ℕ) (gained : Table) (are : AreMadeGaining (is_filled chosen loads) t place gained snapshot.tables made)
      (picks : (g : Group) → slice_get (groups_in t.catalog) place ≡ Some g → chosen place g ≡ true)
      (from : (g : Group) (s : Kept) (h : RowsHeld) → IsStoredAt t place g s h → (q row : List Value) → fm.get gained q ≡ Some row → fm.get (table_at snapshot.tables g.def.tree.root.table) q ≡ Some row)
      (primary : (g : Group) (s : Kept) (h : RowsHeld) → IsStoredAt t place g s h → h.places ≡ primary_of t.schema g.def.tree.root.table) where
    holds : (g : Group) (s : Kept) (h : RowsHeld) → IsStoredAt t place g s h → (q : List Value) → is_held s (widened h gained) q ≡ (is_held s h.table q || is_key (fm.keys gained) q)
    holds g s h there = held_widened s h gained (λ q row e.
        ap (λ ps. key_of ps row) (primary g s h there)
        ∙ primary_key t.schema front.0 g.def.tree first.stands.flow.stand.over.backing sound_state (sound_tree place g there.there) front.1 q row
        (ap (λ (m : Table). fm.get m q) (sym (copied place g there.there (picks g there.there) g.def.tree.root.table (first_one g.def.tree.root.table (map (λ (c : Child). c.table) g.def.tree.children)))) ∙ from g s h there q row e))

    gains_viewed : (k : ℕ) (g : Group) (s : Kept) (h : RowsHeld) (o : Option Made) → slice_get (groups_in t.catalog) k ≡ Some g → slice_get t.stores.items k ≡ Some s → slice_get t.hidden.items k ≡ Some h → slice_get made k ≡ Some o
        → IsViewed (is_filled chosen loads k g) first.stands.flow.stand.over.backing g s h.table (gained_at place (fm.keys gained) k) o
    gains_viewed k g s h o spot kept held made_o = by (nat_eq k place) refl (is_filled chosen loads k g) refl o (are.each k g s h o (record { there = spot; kept = kept; held = held }) made_o)
      where
        of : (x : Made) (wider : Table) (more : List (List Value)) → chosen k g ≡ true → ((q : List Value) → is_held s wider q ≡ (is_held s h.table q || is_key more q)) → IsMadeWith t.schema snapshot.tables g s wider more x → IsFreshFor first.stands.flow.stand.over.backing g s h.table more x
        of x wider more c same made_x = filled_with first.stands.flow.stand.over.backing snapshot.tables t.schema front.0 g s h.table wider more x sound_state (sound_tree k g spot) front.1 copy.schema (copied k g spot c) same made_x

        by : (b : Bool) → nat_eq k place ≡ b → (f : Bool) → is_filled chosen loads k g ≡ f → (x : Option Made)
            → IsMadeFor (is_filled chosen loads k g) t.schema snapshot.tables g s (cond (nat_eq k place) (widened h gained) h.table) (cond (nat_eq k place) (fm.keys gained) []) x
            → IsViewed (is_filled chosen loads k g) first.stands.flow.stand.over.backing g s h.table (gained_at place (fm.keys gained) k) x
        by b e true f None is = absurd (subst (λ c. IsMadeFor c t.schema snapshot.tables g s (cond (nat_eq k place) (widened h gained) h.table) (cond (nat_eq k place) (fm.keys gained) []) None) f is)
        by true e true f (Some x) is =
            subst (λ c. IsViewed c first.stands.flow.stand.over.backing g s h.table (gained_at place (fm.keys gained) k) (Some x)) (sym f)
            (subst (λ l. IsFreshFor first.stands.flow.stand.over.backing g s h.table l x) (sym (gained_here place (fm.keys gained) k true e))
            (of x (widened h gained) (fm.keys gained) (both_true (chosen k g) (g.def.dynamic || (g.loaded || is_place k loads)) f).0
            (holds g s h (there_at (eqb-true k place e)))
            (subst (λ c. IsMadeWith t.schema snapshot.tables g s (cond c (widened h gained) h.table) (cond c (fm.keys gained) []) x) e
            (subst (λ c. IsMadeFor c t.schema snapshot.tables g s (cond (nat_eq k place) (widened h gained) h.table) (cond (nat_eq k place) (fm.keys gained) []) (Some x)) f is))))
          where
            there_at : k ≡ place → IsStoredAt t place g s h
            there_at same = record { there = ap (slice_get (groups_in t.catalog)) (sym same) ∙ spot; kept = ap (slice_get t.stores.items) (sym same) ∙ kept; held = ap (slice_get t.hidden.items) (sym same) ∙ held }
        by false e true f (Some x) is =
            subst (λ c. IsViewed c first.stands.flow.stand.over.backing g s h.table (gained_at place (fm.keys gained) k) (Some x)) (sym f)
            (subst (λ l. IsFreshFor first.stands.flow.stand.over.backing g s h.table l x) (sym (gained_here place (fm.keys gained) k false e))
            (of x h.table [] (both_true (chosen k g) (g.def.dynamic || (g.loaded || is_place k loads)) f).0 (gains_none s h.table)
            (subst (λ c. IsMadeWith t.schema snapshot.tables g s (cond c (widened h gained) h.table) (cond c (fm.keys gained) []) x) e
            (subst (λ c. IsMadeFor c t.schema snapshot.tables g s (cond (nat_eq k place) (widened h gained) h.table) (cond (nat_eq k place) (fm.keys gained) []) (Some x)) f is))))
        by b e false f x is =
            subst (λ c. IsViewed c first.stands.flow.stand.over.backing g s h.table (gained_at place (fm.keys gained) k) x) (sym f)
            (subst (λ c. IsMadeFor c t.schema snapshot.tables g s (cond (nat_eq k place) (widened h gained) h.table) (cond (nat_eq k place) (fm.keys gained) []) x) f is)

    pub gained_read : AreGained t read_here.world (is_filled chosen loads) place (fm.keys gained) snapshot.position.0 made
    unfolding read_here told_now was_read now
    gained_read = record {
      state = first.stands.flow.stand.over.backing;
      there = at_it;
      within = within_it;
      keyed = own_keys;
      views = gains_viewed;
    }
