-- What a READONLY group shows behind a refresh.
use Rattle.std.proofs.Common.{◌≡◌, ◌≤◌, ℕ, zero, suc, Bool, true, false, cond, not, ◌&&◌, ◌||◌, nat_eq, Option, Some, None, is_some, List, [], ◌∷◌, ◌++◌, length, slice_get, unwrap_or, refl, sym, ap, subst, ◌∙◌, arith}
use Rattle.std.proofs.lemmas.Bool.{eq-eqb, eqb-true}
use Rattle.std.specs.Bool.{MatchBool}
use Rattle.std.specs.Option.{option_and_then, option_map}
use Rattle.std.specs.FinMap as fm
use Rattle.std.specs.FinMap.{empty}
use Rattle.row_types.specs.Order.{key_order}
use Rattle.row_types.specs.declared.value.Value.{Value}
use Rattle.row_types.proofs.OrderLaws.{key_exact, key_total}
use Rattle.table_defs.specs.Declarations.{foreign_places}
use Rattle.table_defs.specs.declared.definition.TableDef.{TableDef}
use Rattle.indexed_rows.specs.Rows.{Table, key_of}
use Rattle.table_state.specs.declared.history.Entry.{Entry}
use Rattle.table_state.specs.declared.history.Sealed.{Sealed}
use Rattle.table_state.specs.Histories.{state_at}
use Rattle.table_state.specs.Tables.{TableState, table_at}
use Rattle.instances.specs.declared.tree.Child.{Child}
use Rattle.instances.specs.Trees.{is_place}
use Rattle.instances.specs.Views.{child_rows, is_kept, kept_at, passes, refers_to_one, root_rows, rows_where, selects, with_children}
use Rattle.instances.proofs.Gathering.{get_where}
use Rattle.group_store.specs.Stores.{HasRootKeys, Kept}
use Rattle.slot_rows.specs.SlotKeys.{RowsHeld}
use Rattle.cache_store.specs.Shown.{shown_of}
use Rattle.cache_store.proofs.OwnLaws.{keeps}
use Rattle.order_laws.specs.Commits.{virtual_state}
use Rattle.order_laws.proofs.TruthLaws.{never_both}
use Rattle.cache_tier.specs.Groups.{Group, is_explicit, is_key, is_read_only}
use Rattle.cache_tier.specs.Sets.{Choice, at_position, is_in_view}
use Rattle.cache_tier.specs.Shown.{exceeds, root_key, shown, shown_in, shown_where, shows_root, state_behind}
use Rattle.cache_tier.specs.Standing.{AreDistinct}
use Rattle.cache_tier.proofs.KeyListLaws.{key_left}
use Rattle.cache_tier.specs.Worlds.{World}
use Rattle.cache_tier.proofs.ApartLaws.{refresh}
use Rattle.cache_tier.proofs.GroupTables.{read_only_not}
use Rattle.stored_tier.specs.declared.refreshing.Made.{Made}
use Rattle.stored_tier.specs.Filling.{is_held}
use Rattle.stored_tier.specs.Lists.{HasKeysOf, IsListed, is_by_use}
use Rattle.group_engine.specs.Fresh.{HasOwnKeys, IsFreshFor, IsViewed, gained_at, is_fresh}
use Rattle.group_engine.proofs.FreshLists.{explicit_listed, gained_listed, key_more, more_apart, more_is, more_keys}
use Rattle.stored_tier.specs.Refreshing.{is_filled}
use Rattle.stored_tier.specs.Stored.{without_list}
use Rattle.group_engine.proofs.GroupRows.{Becomes}

abbrev Row : Type 0
Row = List Value

-- rows that pass, all or none

all_pass : (test : Row → Bool) (m : Table) → ((row : Row) → test row ≡ true) → rows_where test m ≡ m
all_pass test m passing = fm.same_map key_total key_exact (rows_where test m) m (λ q. get_where test m q ∙ by (fm.get m q))
  where
    by : (o : Option Row) → cond (passes test o) o None ≡ o
    by None = refl
    by (Some row) = ap (λ b. cond b (Some row) None) (passing row)

none_passes : (test : Row → Bool) (m : Table) → ((row : Row) → test row ≡ false) → rows_where test m ≡ empty
none_passes test m fails = fm.same_map key_total key_exact (rows_where test m) empty (λ q. get_where test m q ∙ by (fm.get m q) ∙ sym (fm.get-empty key_order q))
  where
    by : (o : Option Row) → cond (passes test o) o None ≡ None
    by None = refl
    by (Some row) = ap (λ b. cond b (Some row) None) (fails row)

no_child_rows : (s : TableState) (parents : Table) (c : Child) → parents ≡ empty → child_rows s parents c ≡ empty
no_child_rows s parents c e = none_passes (is_kept s parents c) (table_at s c.table) (λ row. by (selects c.filter row) row)
  where
    refers : (row : Row) (def : Option TableDef) → refers_to_one parents def row ≡ false
    refers row None = refl
    refers row (Some def) = ap (λ (m : Table). is_some (fm.get m (key_of (foreign_places def.foreign_key) row))) e ∙ ap is_some (fm.get-empty key_order (key_of (foreign_places def.foreign_key) row))

    by : (b : Bool) (row : Row) → (b && refers_to_one parents (slice_get s.schema c.table.0) row) ≡ false
    by true row = refers row (slice_get s.schema c.table.0)
    by false row = refl

none_there : (p : ℕ) → kept_at [] p ≡ empty
none_there zero = refl
none_there (suc p) = refl

all_empty : (s : TableState) (children : List Child) (kept : List Table) → ((p : ℕ) → kept_at kept p ≡ empty) → (p : ℕ) → kept_at (with_children s children kept) p ≡ empty
all_empty s [] kept none p = none p
all_empty s (c ∷ children) kept none p = all_empty s children (kept ++ child_rows s (kept_at kept c.parent) c ∷ []) (λ q. more kept q none) p
  where
    more : (ts : List Table) (q : ℕ) → ((p : ℕ) → kept_at ts p ≡ empty) → kept_at (ts ++ child_rows s (kept_at kept c.parent) c ∷ []) q ≡ empty
    more [] zero none_of = no_child_rows s (kept_at kept c.parent) c (none c.parent)
    more [] (suc q) none_of = none_there q
    more (t ∷ ts) zero none_of = none_of 0
    more (t ∷ ts) (suc q) none_of = more ts q (λ p. none_of (suc p))

-- a READONLY group

shows_by : (s : TableState) (g : Group) (row : Row) → is_read_only g ≡ true → shows_root s g row ≡ (cond (is_explicit g) g.loaded (is_key g.keys (root_key s g row)) && exceeds g row)
shows_by s g row reads = ap (λ b. cond b (cond (is_explicit g) g.loaded (is_key g.keys (root_key s g row)) && exceeds g row) (is_key g.keys (root_key s g row))) reads

behind_it : (h : List Entry) (log : List Sealed) (g : Group) → is_read_only g ≡ true → shown h log g ≡ shown_where (option_and_then (state_at h) g.position) g
behind_it h log g reads = ap (λ b. shown_where (cond b (option_and_then (state_at h) g.position) (virtual_state h log)) g) reads

-- it shows something of the state at its position
pub read_shown : (h : List Entry) (log : List Sealed) (g : Group) (n : ℕ) (s : TableState) → is_read_only g ≡ true → g.position ≡ Some n → state_at h n ≡ Some s → shown h log g ≡ shown_in s g
read_shown h log g n s reads position there =
    behind_it h log g reads
    ∙ ap (λ o. shown_where (option_and_then (state_at h) o) g) position
    ∙ ap (λ o. shown_where o g) there

-- where it is explicit and isn't loaded, nothing
pub nothing_shown : (h : List Entry) (log : List Sealed) (g : Group) → is_read_only g ≡ true → is_explicit g ≡ true → g.loaded ≡ false → (p : ℕ) → kept_at (shown h log g) p ≡ empty
nothing_shown h log g reads explicit unloaded p = ap (λ ts. kept_at ts p) (behind_it h log g reads) ∙ by (option_and_then (state_at h) g.position)
  where
    fails : (s : TableState) (row : Row) → shows_root s g row ≡ false
    fails s row =
        shows_by s g row reads
        ∙ ap (λ b. cond b g.loaded (is_key g.keys (root_key s g row)) && exceeds g row) explicit
        ∙ ap (λ b. b && exceeds g row) unloaded

    first : (s : TableState) (q : ℕ) → kept_at (rows_where (shows_root s g) (root_rows s g.def.tree.root) ∷ []) q ≡ empty
    first s zero = none_passes (shows_root s g) (root_rows s g.def.tree.root) (fails s)
    first s (suc q) = none_there q

    by : (o : Option TableState) → kept_at (shown_where o g) p ≡ empty
    by None = none_there p
    by (Some s) = all_empty s g.def.tree.children (rows_where (shows_root s g) (root_rows s g.def.tree.root) ∷ []) (first s) p

-- what it shows behind a refresh

module _ (state : TableState) (g : Group) (s : Kept) (hidden : Table) (more : List Row) where
  abbrev R : Table
  R = root_rows state g.def.tree.root

  in_view : (q : Row) → is_in_view state g q ≡ passes (exceeds g) (fm.get R q)
  in_view q =
      ap (λ (t : Table). fm.contains_key t q) (keeps state g.def.tree.children (rows_where (exceeds g) R ∷ []) 0 (Prim.omega arith))
      ∙ ap is_some (get_where (exceeds g) R q) ∙ by (fm.get R q)
    where
      some : (b : Bool) (row : Row) → is_some (cond b (Some row) None) ≡ b
      some true row = refl
      some false row = refl

      by : (o : Option Row) → is_some (cond (passes (exceeds g) o) o None) ≡ passes (exceeds g) o
      by None = refl
      by (Some row) = some (exceeds g row) row

  -- its root keys
  pub fresh_root : (q : Row) → fm.contains_key (kept_at (shown_of state g.def.tree (is_fresh state g s hidden more)) 0) q ≡ ((not g.def.dynamic || (is_held s hidden q || is_key more q)) && is_in_view state g q)
  fresh_root q =
      ap (λ (t : Table). fm.contains_key t q) (keeps state g.def.tree.children (fm.retain_keys R (is_fresh state g s hidden more) ∷ []) 0 (Prim.omega arith))
      ∙ ap is_some (fm.get-retain_keys R (is_fresh state g s hidden more) q (λ x tie. ap (is_fresh state g s hidden more) (sym (key_exact q x tie))))
      ∙ by (not g.def.dynamic || (is_held s hidden q || is_key more q)) (fm.get R q)
      ∙ ap (λ b. (not g.def.dynamic || (is_held s hidden q || is_key more q)) && b) (sym (in_view q))
    where
      some : (b : Bool) (row : Row) → is_some (cond b (Some row) None) ≡ b
      some true row = refl
      some false row = refl

      by : (a : Bool) (o : Option Row) → is_some (cond (a && passes (exceeds g) o) o None) ≡ (a && passes (exceeds g) o)
      by true None = refl
      by true (Some row) = some (exceeds g row) row
      by false o = refl

  -- its roots are those that a group shows that agrees on each
  roots_shown : (h : Group) → ((q row : Row) → fm.get R q ≡ Some row → shows_root state h row ≡ is_fresh state g s hidden more q) → rows_where (shows_root state h) R ≡ fm.retain_keys R (is_fresh state g s hidden more)
  roots_shown h agrees = fm.same_map key_total key_exact (rows_where (shows_root state h) R) (fm.retain_keys R (is_fresh state g s hidden more)) (λ q.
      get_where (shows_root state h) R q ∙ by q (fm.get R q) refl
      ∙ sym (fm.get-retain_keys R (is_fresh state g s hidden more) q (λ x tie. ap (is_fresh state g s hidden more) (sym (key_exact q x tie)))))
    where
      none : (b : Bool) → ◌≡◌ {A = Option Row} None (cond b None None)
      none true = refl
      none false = refl

      by : (q : Row) (o : Option Row) → fm.get R q ≡ o → cond (passes (shows_root state h) o) o None ≡ cond (is_fresh state g s hidden more q) o None
      by q None e = none (is_fresh state g s hidden more q)
      by q (Some row) e = ap (λ b. cond b (Some row) None) (agrees q row e)

-- the STATE plays no part
pub stateless : (o : Option TableState) (g : Group) (st : Rattle.sql_subset.specs.declared.stmt.RefreshState.RefreshState) → shown_where o (record g { state = st }) ≡ shown_where o g
stateless None g st = refl
stateless (Some s) g st = refl

-- What becomes of the group at a place beside its refresh: its STATE, and whether it is loaded.
pub record IsFlagged (flag : Bool) (g h : Group) : Type 0 where
  pub is : h ≡ record g { state = h.state; loaded = g.loaded || flag }

-- an explicit one is loaded where the flag is set
pub record Changes (flag : Bool) (place : ℕ) (chosen : Choice) (loads : Option ℕ) (change : Group → Group) : Type 0 where
  pub flagged : (g : Group) → (flag ≡ true → is_read_only g ≡ true) → IsFlagged (flag && is_explicit g) g (change g)
  pub loads_is : loads ≡ cond flag (Some place) None
  pub chosen_is : (g : Group) → flag ≡ true → chosen place g ≡ true
  pub unlisted : (k : ℕ) (g : Group) → chosen k (without_list g) ≡ chosen k g

-- so it is where the group gains keys
pub record IsGrown (flag : Bool) (more : List Row) (g h : Group) : Type 0 where
  pub is : h ≡ record g { state = h.state; loaded = g.loaded || flag; keys = more_keys g.keys more }

pub record GainChanges (flag : Bool) (place : ℕ) (chosen : Choice) (loads : Option ℕ) (more : List Row) (change : Group → Group) : Type 0 where
  pub flagged : (g : Group) → (flag ≡ true → is_read_only g ≡ true) → IsGrown (flag && is_explicit g) more g (change g)
  pub loads_is : loads ≡ cond flag (Some place) None
  pub chosen_is : (g : Group) → flag ≡ true → chosen place g ≡ true
  pub unlisted : (k : ℕ) (g : Group) → chosen k (without_list g) ≡ chosen k g
  pub gaining : (g : Group) → chosen place g ≡ false → more ≡ []

pub changes_none : (flag : Bool) (place : ℕ) (chosen : Choice) (loads : Option ℕ) (change : Group → Group) → Changes flag place chosen loads change → GainChanges flag place chosen loads [] change
changes_none flag place chosen loads change ch = record {
  flagged = λ g reads. record { is = (ch.flagged g reads).is };
  loads_is = ch.loads_is;
  chosen_is = ch.chosen_is;
  unlisted = ch.unlisted;
  gaining = λ g c. refl;
}

-- the keys that it gains are those of instances of its view past the horizon, and it has none of them
pub record GainsOnly (state : TableState) (g : Group) (more : List Row) : Type 0 where
  pub apart : AreDistinct more
  pub unheld : (q : Row) → is_key more q ≡ true → is_key g.keys q ≡ false
  pub past : (q : Row) → is_key more q ≡ true → is_in_view state g q ≡ true

pub gains_nothing : (state : TableState) (g : Group) → GainsOnly state g []
gains_nothing state g = record { apart = tt; unheld = λ q e. Prim.cc; past = λ q e. Prim.cc }

-- what is gained at a place
pub gained_here : (place : ℕ) (more : List Row) (k : ℕ) (b : Bool) → nat_eq k place ≡ b → gained_at place more k ≡ cond b more []
gained_here place [] k true e = refl
gained_here place [] k false e = refl
gained_here place (q ∷ more) k b e = ap (λ c. cond c (q ∷ more) []) e

-- the store at a place, and the hidden rows
abbrev pub store_or : Option Made → Kept → Kept
store_or o s = unwrap_or (option_map (λ (m : Made). m.store) o) s

abbrev pub hidden_or : Option Made → RowsHeld → RowsHeld
hidden_or o x = unwrap_or (option_map (λ (m : Made). m.hidden) o) x

-- one group and its store
module _ (h : List Entry) (log : List Sealed) (size : ℕ) (n : ℕ) (state : TableState) (there : state_at h n ≡ Some state) (within : n ≤ size)
    (flag : Bool) (place : ℕ) (chosen : Choice) (loads : Option ℕ) (more : List Row) (change : Group → Group) (ch : GainChanges flag place chosen loads more change) where
  abbrev pub picked : ℕ → Group → Group
  picked k g = cond (chosen k g) (at_position n state g) g

  abbrev pub last : ℕ → Group → Group
  last k g = cond (nat_eq k place) (change (picked k g)) (picked k g)

  -- whether it is loaded anew
  abbrev pub anew : ℕ → Bool
  anew k = nat_eq k place && flag

  plain_or : (b : Bool) → (b || false) ≡ b
  plain_or true = refl
  plain_or false = refl

  explicit_picked : (k : ℕ) (g : Group) → is_explicit (picked k g) ≡ is_explicit g
  explicit_picked k g = by (chosen k g)
    where
      by : (b : Bool) → is_explicit (cond b (at_position n state g) g) ≡ is_explicit g
      by true = refl
      by false = refl

  reads_picked : (k : ℕ) (g : Group) → is_read_only (picked k g) ≡ is_read_only g
  reads_picked k g = by (chosen k g)
    where
      by : (b : Bool) → is_read_only (cond b (at_position n state g) g) ≡ is_read_only g
      by true = refl
      by false = refl

  loads_there : (k : ℕ) → is_place k loads ≡ anew k
  loads_there k = ap (is_place k) ch.loads_is ∙ by flag
    where
      turned : (a b : ℕ) → nat_eq a b ≡ nat_eq b a
      turned a b = of (nat_eq a b) refl (nat_eq b a) refl
        where
          of : (c : Bool) → nat_eq a b ≡ c → (d : Bool) → nat_eq b a ≡ d → nat_eq a b ≡ nat_eq b a
          of true x true y = x ∙ sym y
          of true x false y = let wrong : true ≡ false = sym (eq-eqb b a (sym (eqb-true a b x))) ∙ y in Prim.cc
          of false x true y = let wrong : true ≡ false = sym (eq-eqb a b (sym (eqb-true b a y))) ∙ x in Prim.cc
          of false x false y = x ∙ sym y

      and_true : (b : Bool) → b ≡ (b && true)
      and_true true = refl
      and_true false = refl

      and_false : (b : Bool) → false ≡ (b && false)
      and_false true = refl
      and_false false = refl

      by : (f : Bool) → is_place k (cond f (Some place) None) ≡ (nat_eq k place && f)
      by true = turned place k ∙ and_true (nat_eq k place)
      by false = and_false (nat_eq k place)

  module _ (k : ℕ) (g : Group) (reads : chosen k g ≡ true → is_read_only g ≡ true) (gains : GainsOnly state g (gained_at place more k)) where
    pub last_is : last k g ≡ record (picked k g) { state = (last k g).state; loaded = (picked k g).loaded || (anew k && is_explicit g); keys = more_keys (picked k g).keys (gained_at place more k) }
    last_is = by (nat_eq k place) refl
      where
        read : nat_eq k place ≡ true → flag ≡ true → is_read_only (picked k g) ≡ true
        read e f = reads_picked k g ∙ reads (ap (λ i. chosen i g) (eqb-true k place e) ∙ ch.chosen_is g f)

        by : (b : Bool) → nat_eq k place ≡ b → cond b (change (picked k g)) (picked k g) ≡ record (picked k g) { state = (cond b (change (picked k g)) (picked k g)).state; loaded = (picked k g).loaded || ((b && flag) && is_explicit g); keys = more_keys (picked k g).keys (gained_at place more k) }
        by true e =
            (ch.flagged (picked k g) (read e)).is
            ∙ ap (λ b. record (picked k g) { state = (change (picked k g)).state; loaded = (picked k g).loaded || (flag && b); keys = more_keys (picked k g).keys more }) (explicit_picked k g)
            ∙ ap (λ l. record (picked k g) { state = (change (picked k g)).state; loaded = (picked k g).loaded || (flag && is_explicit g); keys = more_keys (picked k g).keys l }) (sym (gained_here place more k true e))
        by false e = λ i. record (picked k g) { loaded = sym (plain_or (picked k g).loaded) i; keys = more_keys (picked k g).keys (sym (gained_here place more k false e) i) }

    -- one that is chosen
    module _ (c : chosen k g ≡ true) where
      abbrev then_ : Group
      then_ = record g { position = Some n; keys = more_keys (at_position n state g).keys (gained_at place more k); state = (last k g).state; loaded = g.loaded || (anew k && is_explicit g) }

      then_is : last k g ≡ then_
      then_is = last_is ∙ ap (λ (x : Group). record x { state = (last k g).state; loaded = x.loaded || (anew k && is_explicit g); keys = more_keys x.keys (gained_at place more k) }) (ap (λ b. cond b (at_position n state g) g) c)

      then_shown : shown h log then_ ≡ shown_in state then_
      then_shown = read_shown h log then_ n state (reads c) refl there

      then_distinct : AreDistinct g.keys → AreDistinct then_.keys
      then_distinct d =
          subst AreDistinct (sym (more_is (at_position n state g).keys (gained_at place more k)))
          (more_apart (at_position n state g).keys (gained_at place more k) (refresh n state g d) gains.apart
          (λ q e. key_left (is_in_view state g) g.keys q ∙ ap (λ b. b && is_in_view state g q) (gains.unheld q e)))

    -- one that isn't
    module _ (c : chosen k g ≡ false) where
      abbrev still : Group
      still = record g { state = (last k g).state; loaded = g.loaded || (anew k && is_explicit g) }

      none_gained : gained_at place more k ≡ []
      none_gained = by (nat_eq k place) refl
        where
          by : (b : Bool) → nat_eq k place ≡ b → gained_at place more k ≡ []
          by true e = gained_here place more k true e ∙ ch.gaining g (ap (λ i. chosen i g) (sym (eqb-true k place e)) ∙ c)
          by false e = gained_here place more k false e

      still_is : last k g ≡ still
      still_is =
          last_is
          ∙ ap (λ l. record (picked k g) { state = (last k g).state; loaded = (picked k g).loaded || (anew k && is_explicit g); keys = more_keys (picked k g).keys l }) none_gained
          ∙ ap (λ (x : Group). record x { state = (last k g).state; loaded = x.loaded || (anew k && is_explicit g) }) (ap (λ b. cond b (at_position n state g) g) c)

      not_anew : anew k ≡ false
      not_anew = by (nat_eq k place) refl flag refl
        where
          by : (b : Bool) → nat_eq k place ≡ b → (f : Bool) → flag ≡ f → (b && f) ≡ false
          by false e f is = refl
          by true e false is = refl
          by true e true is = absurd (never_both (chosen k g) (ap (λ i. chosen i g) (eqb-true k place e) ∙ ch.chosen_is g is) c)

      same_loaded : (g.loaded || (anew k && is_explicit g)) ≡ g.loaded
      same_loaded = ap (λ b. g.loaded || (b && is_explicit g)) not_anew ∙ plain_or g.loaded

      still_shown : shown h log still ≡ shown h log g
      still_shown = ap (λ b. shown h log (record g { state = (last k g).state; loaded = b })) same_loaded ∙ stateless (state_behind h log g) g (last k g).state

    -- what becomes of it
    pub one_becomes : (w : World) → h ≡ w.history → log ≡ w.tier.log → size ≡ length w.history → Becomes w g (last k g)
    one_becomes w h_is log_is size_is = by (chosen k g) refl
      where
        by : (b : Bool) → chosen k g ≡ b → Becomes w g (last k g)
        by true c = subst (Becomes w g) (sym (then_is c)) (record {
          kept = record { def = refl; first = refl };
          distinct = then_distinct c;
          within = λ before m e. let same : n ≡ m = Prim.cc in Prim.omega (arith, within, size_is);
          keys = λ writes. absurd (never_both (is_read_only g) (reads c) (read_only_not g writes));
          rows = λ writes. absurd (never_both (is_read_only g) (reads c) (read_only_not g writes));
        })
        by false c = subst (Becomes w g) (sym (still_is c)) (record {
          kept = record { def = refl; first = refl };
          distinct = λ d. d;
          within = λ before. before;
          keys = λ writes. refl;
          rows = λ writes p. ap (λ ts. kept_at ts p) (λ i. shown (sym h_is i) (sym log_is i) (still c)) ∙ ap (λ ts. kept_at ts p) (still_shown c) ∙ ap (λ ts. kept_at ts p) (λ i. shown (h_is i) (log_is i) g);
        })

    -- where this was its store, and these its hidden rows
    module _ (s : Kept) (x : RowsHeld) (o : Option Made) (keyed : HasOwnKeys state g) (viewed : IsViewed (is_filled chosen loads k g) state g s x.table (gained_at place more k) o) where
      unfilled : (c : chosen k g ≡ false) → o ≡ None
      unfilled c = subst (λ b. IsViewed (b && (g.def.dynamic || (g.loaded || is_place k loads))) state g s x.table (gained_at place more k) o) c viewed

      -- of a dynamic group that is chosen
      module _ (c : chosen k g ≡ true) (dynamic : g.def.dynamic ≡ true) where
        dynamic_made : IsViewed true state g s x.table (gained_at place more k) o
        dynamic_made = subst (λ b. IsViewed b state g s x.table (gained_at place more k) o) (λ i. c i && (dynamic i || (g.loaded || is_place k loads))) viewed

        held_and_past : ((q : Row) → is_key g.keys q ≡ is_held s x.table q) → (q row : Row) → fm.get (root_rows state g.def.tree.root) q ≡ Some row → shows_root state (then_ c) row ≡ is_fresh state g s x.table (gained_at place more k) q
        held_and_past held q row e =
            shows_by state (then_ c) row (reads c)
            ∙ ap (λ d. cond (not d) (then_ c).loaded (is_key (then_ c).keys (root_key state g row)) && exceeds g row) dynamic
            ∙ ap (λ r. is_key (then_ c).keys r && exceeds g row) (keyed q row e)
            ∙ ap (λ b. b && exceeds g row) (key_more (at_position n state g).keys (gained_at place more k) q)
            ∙ ap (λ b. (b || is_key (gained_at place more k) q) && exceeds g row) (key_left (is_in_view state g) g.keys q)
            ∙ ap (λ b. ((is_key g.keys q && b) || is_key (gained_at place more k) q) && exceeds g row) (in_view state g s x.table (gained_at place more k) q ∙ ap (passes (exceeds g)) e)
            ∙ twice (is_key g.keys q) (is_key (gained_at place more k) q) (exceeds g row)
            ∙ ap (λ b. (b || is_key (gained_at place more k) q) && exceeds g row) (held q)
            ∙ sym (ap (λ d. (not d || (is_held s x.table q || is_key (gained_at place more k) q)) && passes (exceeds g) (fm.get (root_rows state g.def.tree.root) q)) dynamic
            ∙ ap (λ r. (is_held s x.table q || is_key (gained_at place more k) q) && passes (exceeds g) r) e)
          where
            twice : (a m b : Bool) → (((a && b) || m) && b) ≡ ((a || m) && b)
            twice true true true = refl
            twice true true false = refl
            twice true false true = refl
            twice true false false = refl
            twice false m b = refl

      -- of an explicit one that is loaded then
      module _ (c : chosen k g ≡ true) (explicit : g.def.dynamic ≡ false) where
        explicit_made : IsViewed (g.loaded || anew k) state g s x.table (gained_at place more k) o
        explicit_made = subst (λ b. IsViewed b state g s x.table (gained_at place more k) o) (λ i. c i && (explicit i || (g.loaded || loads_there k i))) viewed

        loaded_then : (then_ c).loaded ≡ (g.loaded || anew k)
        loaded_then = ap (λ d. g.loaded || (anew k && not d)) explicit ∙ ap (λ b. g.loaded || b) (and_true (anew k))
          where
            and_true : (b : Bool) → (b && true) ≡ b
            and_true true = refl
            and_true false = refl

        all_past : (g.loaded || anew k) ≡ true → (q row : Row) → fm.get (root_rows state g.def.tree.root) q ≡ Some row → shows_root state (then_ c) row ≡ is_fresh state g s x.table (gained_at place more k) q
        all_past loaded q row e =
            shows_by state (then_ c) row (reads c)
            ∙ ap (λ d. cond (not d) (then_ c).loaded (is_key (then_ c).keys (root_key state g row)) && exceeds g row) explicit
            ∙ ap (λ b. b && exceeds g row) (loaded_then ∙ loaded)
            ∙ sym (ap (λ d. (not d || (is_held s x.table q || is_key (gained_at place more k) q)) && passes (exceeds g) (fm.get (root_rows state g.def.tree.root) q)) explicit
            ∙ ap (passes (exceeds g)) e)

      -- what was made shows it
      made_shows : (c : chosen k g ≡ true) (m : Made) (p : ℕ) → IsFreshFor state g s x.table (gained_at place more k) m → ((q row : Row) → fm.get (root_rows state g.def.tree.root) q ≡ Some row → shows_root state (then_ c) row ≡ is_fresh state g s x.table (gained_at place more k) q) → kept_at m.store.tables p ≡ kept_at (shown h log (last k g)) p
      made_shows c m p is agrees =
          ap (λ ts. kept_at ts p) (is.rows
          ∙ sym (ap (shown h log) (then_is c) ∙ then_shown c ∙ ap (λ t. with_children state g.def.tree.children (t ∷ [])) (roots_shown state g s x.table (gained_at place more k) (then_ c) agrees)))

      pub one_shows : (p : ℕ) → (g.def.dynamic ≡ true → HasRootKeys s → (q : Row) → is_key g.keys q ≡ is_held s x.table q) → kept_at s.tables p ≡ kept_at (shown h log g) p → kept_at (store_or o s).tables p ≡ kept_at (shown h log (last k g)) p
      one_shows p held before = by (chosen k g) refl g.def.dynamic refl
        where
          first_false : (a b : Bool) → (a || b) ≡ false → a ≡ false
          first_false true b e = e
          first_false false b e = refl

          by : (b : Bool) → chosen k g ≡ b → (d : Bool) → g.def.dynamic ≡ d → kept_at (store_or o s).tables p ≡ kept_at (shown h log (last k g)) p
          by false c d dynamic =
              ap (λ y. kept_at (store_or y s).tables p) (unfilled c) ∙ before ∙ ap (λ ts. kept_at ts p) (sym (ap (shown h log) (still_is c) ∙ still_shown c))
          by true c true dynamic = of o (dynamic_made c dynamic)
            where
              of : (made : Option Made) → IsViewed true state g s x.table (gained_at place more k) made → kept_at (store_or made s).tables p ≡ kept_at (shown h log (last k g)) p
              of None v = absurd v
              of (Some m) v = made_shows c m p v (held_and_past c dynamic (held dynamic v.old))
          by true c false explicit = of (g.loaded || anew k) refl o (explicit_made c explicit)
            where
              of : (l : Bool) → (g.loaded || anew k) ≡ l → (made : Option Made) → IsViewed l state g s x.table (gained_at place more k) made → kept_at (store_or made s).tables p ≡ kept_at (shown h log (last k g)) p
              of true l None v = absurd v
              of true l (Some m) v = made_shows c m p v (all_past c explicit l)
              of false l made v =
                  ap (λ y. kept_at (store_or y s).tables p) v ∙ before ∙ nothing_shown h log g (reads c) (ap not explicit) (first_false g.loaded (anew k) l) p
                  ∙ sym (ap (λ y. kept_at (shown h log y) p) (then_is c) ∙ nothing_shown h log (then_ c) (reads c) (ap not explicit) (loaded_then c explicit ∙ l) p)

      -- and its list is that of the store
      pub one_listed : AreDistinct g.keys → (g.def.dynamic ≡ true → HasRootKeys s → (q : Row) → is_key g.keys q ≡ is_held s x.table q) → IsListed g s x.table → IsListed (last k g) (store_or o s) (hidden_or o x).table
      one_listed distinct held before = by (chosen k g) refl g.def.dynamic refl
        where
          by : (b : Bool) → chosen k g ≡ b → (d : Bool) → g.def.dynamic ≡ d → IsListed (last k g) (store_or o s) (hidden_or o x).table
          by false c d dynamic =
              subst (λ y. IsListed y (store_or o s) (hidden_or o x).table) (sym (still_is c))
              (subst (λ y. IsListed (still c) (store_or y s) (hidden_or y x).table) (sym (unfilled c)) before)
          by true c false explicit = explicit_listed (last k g) (store_or o s) (hidden_or o x).table (ap (λ (y : Group). y.def.dynamic) (then_is c) ∙ explicit) (ap is_read_only (then_is c) ∙ reads c)
          by true c true dynamic = of o (dynamic_made c dynamic)
            where
              of : (made : Option Made) → IsViewed true state g s x.table (gained_at place more k) made → IsListed (last k g) (store_or made s) (hidden_or made x).table
              of None v = absurd v
              of (Some m) v =
                  subst (λ y. IsListed y m.store m.hidden.table) (sym (then_is c))
                  (gained_listed (then_ c) (is_in_view state g) g.keys (gained_at place more k) s m.store m.hidden.table v.before distinct gains.apart gains.unheld gains.past refl v.bare v.new (made_keys m v) (λ leaves. v.order leaves) (λ leaves. by_use_keys leaves) dynamic)
                where
                  made_keys : (m : Made) → (v : IsFreshFor state g s x.table (gained_at place more k) m) → (q : Row) → fm.contains_key (kept_at m.store.tables 0) q ≡ ((is_key g.keys q || is_key (gained_at place more k) q) && is_in_view state g q)
                  made_keys m v q =
                      ap (λ ts. fm.contains_key (kept_at ts 0) q) v.rows ∙ fresh_root state g s x.table (gained_at place more k) q
                      ∙ ap (λ d. (not d || (is_held s x.table q || is_key (gained_at place more k) q)) && is_in_view state g q) dynamic
                      ∙ ap (λ b. (b || is_key (gained_at place more k) q) && is_in_view state g q) (sym (held dynamic v.old q))

                  by_use_keys : is_by_use g.def.aging ≡ true → g.keys ≡ s.keys
                  by_use_keys leaves = subst (λ b. MatchBool b (g.keys ≡ s.keys) (MatchBool g.def.dynamic (HasKeysOf g.keys s x.table) (Unit {0}))) (λ i. (dynamic i || not (is_read_only g)) && leaves i) before
