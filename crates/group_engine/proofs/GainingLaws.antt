-- What a dynamic READONLY group gains, step by step.
use Rattle.std.proofs.Common.{◌≡◌, ◌<◌, ◌≤◌, ◌+◌, ℕ, zero, suc, Bool, true, false, cond, nat_eq, Option, Some, None, Result, Ok, Err, IfOk, List, [], ◌∷◌, ◌++◌, get_or, length, map, slice_get, slice_set, take, refl, sym, ap, subst, ◌∙◌, arith}
use Rattle.std.proofs.lemmas.Bool.{eq-eqb, eqb-true}
use Rattle.std.specs.List.{list_any}
use Rattle.std.specs.FinMap as fm
use Rattle.std.specs.FinMap.{empty}
use Rattle.row_types.specs.Order.{key_order}
use Rattle.row_types.specs.declared.value.Value.{Value}
use Rattle.indexed_rows.specs.Rows.{Table, is_same, key_of, put_in}
use Rattle.recency.specs.Rings.{touched}
use Rattle.cache_store.specs.Shown.{with_rows}
use Rattle.slot_rows.specs.SlotKeys.{IsKeyedBy, RowsHeld}
use Rattle.table_state.specs.Tables.{TableState}
use Rattle.group_catalog.specs.Catalogs.{groups_in}
use Rattle.group_catalog.specs.declared.which.ResolvedWhich.{ResolvedWhich}
use Rattle.group_store.specs.Stores.{HasRootKeys, Kept, SameButSpare, touched_store}
use Rattle.cache_tier.specs.Groups.{Group}
use Rattle.cache_tier.specs.Sets.{Choice}
use Rattle.stored_tier.specs.declared.refreshing.Made.{Made}
use Rattle.stored_tier.specs.declared.tier.Tier.{Tier as Stored}
use Rattle.stored_tier.specs.Filling.{store_anew, touched_all}
use Rattle.stored_tier.specs.Refreshing.{AreMade, IsMade}
use Rattle.stored_tier.proofs.AnewLaws.{touched_more}
use Rattle.stored_tier.proofs.FillSteps.{mapped_at, take_one, take_past, values_long}
use Rattle.group_engine.specs.Gaining.{AreMadeGaining, IsMadeFor, IsStoredAt, TakesRoots, TellsOverflow, TouchesAt, TouchesMade, any_bad, overflows_past, rows_put, taken_in, widened}
use Rattle.group_engine.proofs.DynamicRoots.{keys_long}
use Rattle.group_engine.proofs.FillLaws.{from_empty, keyed_entries}

abbrev Row : Type 0
Row = List Value

-- no rows

no_items : {X : Type 0} (l : List X) → length l ≡ 0 → l ≡ []
no_items [] e = refl
no_items (x ∷ l) e = absurd (omega (arith, e))

pub none_bad : (test : Row → Row → Bool) → any_bad test empty ≡ false
none_bad test = ap (list_any (λ (e : Row × Row). test e.0 e.1)) (no_items (fm.entries (empty {X = Row} {R = key_order})) (sym (fm.len-entries empty) ∙ fm.len-empty key_order Row))

-- what is at a place

pub no_group_there : (t : Stored) (place : ℕ) (g : Group) (s : Kept) (h : RowsHeld) → IsStoredAt t place g s h → None ≡ slice_get (groups_in t.catalog) place → ⊥
no_group_there t place g s h at none = let wrong : None ≡ Some g = none ∙ at.there in cc

pub no_store_there : (t : Stored) (place : ℕ) (g : Group) (s : Kept) (h : RowsHeld) → IsStoredAt t place g s h → None ≡ slice_get t.stores.items place → ⊥
no_store_there t place g s h at none = let wrong : None ≡ Some s = none ∙ at.kept in cc

pub no_hidden_there : (t : Stored) (place : ℕ) (g : Group) (s : Kept) (h : RowsHeld) → IsStoredAt t place g s h → None ≡ slice_get t.hidden.items place → ⊥
no_hidden_there t place g s h at none = let wrong : None ≡ Some h = none ∙ at.held in cc

-- the one that is there
pub record IsOne (t : Stored) (place : ℕ) (g : Group) (s : Kept) (h : RowsHeld) : Type 0 where
  pub group : (g' : Group) (s' : Kept) (h' : RowsHeld) → IsStoredAt t place g' s' h' → g ≡ g'
  pub store : (g' : Group) (s' : Kept) (h' : RowsHeld) → IsStoredAt t place g' s' h' → s ≡ s'
  pub hidden : (g' : Group) (s' : Kept) (h' : RowsHeld) → IsStoredAt t place g' s' h' → h ≡ h'

pub one_there : (t : Stored) (place : ℕ) (g : Group) (s : Kept) (h : RowsHeld) → Some g ≡ slice_get (groups_in t.catalog) place → Some s ≡ slice_get t.stores.items place → Some h ≡ slice_get t.hidden.items place → IsOne t place g s h
one_there t place g s h there kept held = record {
  group = λ g' s' h' at. let both : Some g ≡ Some g' = there ∙ at.there in cc;
  store = λ g' s' h' at. let both : Some s ≡ Some s' = kept ∙ at.kept in cc;
  hidden = λ g' s' h' at. let both : Some h ≡ Some h' = held ∙ at.held in cc;
}

pub tells_so : (t : Stored) (place : ℕ) (which : ResolvedWhich) (refreshes : Bool) (state : TableState) (result : Bool) (g : Group) (s : Kept) (h : RowsHeld) → Some g ≡ slice_get (groups_in t.catalog) place → Some s ≡ slice_get t.stores.items place → Some h ≡ slice_get t.hidden.items place
    → HasRootKeys s → result ≡ overflows_past refreshes which g s h.table state → TellsOverflow t place which refreshes state result
tells_so t place which refreshes state result g s h there kept held roots is g' s' h' at =
    let one = one_there t place g s h there kept held in
    let group = one.group g' s' h' at in
    let store = one.store g' s' h' at in
    let hidden = one.hidden g' s' h' at in
    (subst HasRootKeys store roots, is ∙ (λ i. overflows_past refreshes which (group i) (store i) (hidden i).table state))

pub takes_so : (t : Stored) (place : ℕ) (which : ResolvedWhich) (refreshes : Bool) (state : TableState) {E : Type 0} (result : Result Table E) (g : Group) (s : Kept) (h : RowsHeld) → Some g ≡ slice_get (groups_in t.catalog) place → Some s ≡ slice_get t.stores.items place → Some h ≡ slice_get t.hidden.items place
    → IfOk result (λ rows. rows ≡ taken_in refreshes which g s h.table state) → IfOk result (TakesRoots t place which refreshes state)
takes_so t place which refreshes state (Err e) g s h there kept held is = is
takes_so t place which refreshes state (Ok rows) g s h there kept held is = λ g' s' h' at.
    let one = one_there t place g s h there kept held in
    let group = one.group g' s' h' at in
    let store = one.store g' s' h' at in
    let hidden = one.hidden g' s' h' at in
    is ∙ (λ i. taken_in refreshes which (group i) (store i) (hidden i).table state)

-- rows that are put in

put_last : (places : List ℕ) (rows : List Row) (row : Row) (t : Table) → rows_put places (rows ++ row ∷ []) t ≡ put_in (rows_put places rows t) (key_of places row) row
put_last places [] row t = refl
put_last places (r ∷ rows) row t = put_last places rows row (put_in t (key_of places r) r)

pub put_more : (places : List ℕ) (rows : List Row) (n : ℕ) (row copy : Row) (old : RowsHeld) (new start : Table) → slice_get rows n ≡ Some row → copy ≡ row → old.places ≡ places → old.table ≡ rows_put places (take n rows) start → new ≡ put_in old.table (key_of old.places copy) copy
    → new ≡ rows_put places (take (n + 1) rows) start
put_more places rows n row copy old new start at same cols so is =
    is ∙ (λ i. put_in (so i) (key_of (cols i) (same i)) (same i))
    ∙ sym (put_last places (take n rows) row start)
    ∙ sym (ap (λ l. rows_put places l start) (take_one rows n row at))

pub put_all : (places : List ℕ) (rows : List Row) (n : ℕ) (new start : Table) (end : ℕ) → new ≡ rows_put places (take n rows) start → end ≡ length rows → end ≤ n → new ≡ rows_put places rows start
put_all places rows n new start end so is le = so ∙ ap (λ l. rows_put places l start) (take_past rows n (omega (arith, is, le)))

joined_rows : (places : List ℕ) (rows : List Row) (t : Table) → rows_put places rows t ≡ with_rows t (map (λ (row : Row). (key_of places row, row)) rows)
joined_rows places [] t = refl
joined_rows places (row ∷ rows) t = joined_rows places rows (put_in t (key_of places row) row)

pub rows_again : (places : List ℕ) (t : Table) (n : ℕ) (new : Table) (end : ℕ) → IsKeyedBy places t → new ≡ rows_put places (take n (fm.values t)) empty → end ≡ fm.len t → end ≤ n → new ≡ t
rows_again places t n new end keyed so is le =
    put_all places (fm.values t) n new empty end so (is ∙ sym (values_long t)) le
    ∙ joined_rows places (fm.values t) empty
    ∙ ap (with_rows empty) (keyed_entries places t keyed)
    ∙ from_empty t

-- keys that are used

at_or : {X : Type 0} (xs : List X) (n : ℕ) (x d : X) → slice_get xs n ≡ Some x → x ≡ get_or xs n d
at_or [] n x d e = cc
at_or (y ∷ xs) zero x d e = let same : y ≡ x = cc in sym same
at_or (y ∷ xs) (suc n) x d e = at_or xs n x d e

within : {X : Type 0} (xs : List X) (n : ℕ) (x : X) → slice_get xs n ≡ Some x → n < length xs
within [] n x e = cc
within (y ∷ xs) zero x e = omega arith
within (y ∷ xs) (suc n) x e = let lt = within xs n x e in omega (arith, lt)

pub touched_next : (rows : Table) (n : ℕ) (e : Row × Row) (old mid new : Kept) → slice_get (fm.entries rows) n ≡ Some e → SameButSpare (touched_all (take n (fm.keys rows)) old) mid → SameButSpare (touched_store e.0 mid) new → SameButSpare (touched_all (take (n + 1) (fm.keys rows)) old) new
touched_next rows n e old mid new at so one =
    let there : slice_get (fm.keys rows) n ≡ Some e.0 = mapped_at (λ (x : Row × Row). x.0) (fm.entries rows) n e at in
    touched_more (fm.keys rows) n e.0 old mid new (within (fm.keys rows) n e.0 there) (at_or (fm.keys rows) n e.0 e.0 there) so one

pub touched_last : (rows : Table) (n end : ℕ) (old new : Kept) → end ≡ fm.len rows → end ≤ n → SameButSpare (touched_all (take n (fm.keys rows)) old) new → SameButSpare (touched_all (fm.keys rows) old) new
touched_last rows n end old new is le so = subst (λ l. SameButSpare (touched_all l old) new) (take_past (fm.keys rows) n (omega (arith, is, le, keys_long rows))) so

-- elements that are put at a place

set_long : {X : Type 0} (xs : List X) (i : ℕ) (x : X) → length (slice_set xs i x) ≡ length xs
set_long [] i x = refl
set_long (y ∷ xs) zero x = refl
set_long (y ∷ xs) (suc i) x = ap suc (set_long xs i x)

set_here : {X : Type 0} (xs : List X) (i : ℕ) (x y : X) → slice_get (slice_set xs i x) i ≡ Some y → y ≡ x
set_here [] i x y e = cc
set_here (z ∷ xs) zero x y e = let same : x ≡ y = cc in sym same
set_here (z ∷ xs) (suc i) x y e = set_here xs i x y e

set_beside : {X : Type 0} (xs : List X) (i k : ℕ) (x : X) → nat_eq k i ≡ false → slice_get (slice_set xs i x) k ≡ slice_get xs k
set_beside [] i k x e = refl
set_beside (z ∷ xs) zero zero x e = cc
set_beside (z ∷ xs) zero (suc k) x e = refl
set_beside (z ∷ xs) (suc i) zero x e = refl
set_beside (z ∷ xs) (suc i) (suc k) x e = set_beside xs i k x (by (nat_eq k i) refl)
  where
    by : (b : Bool) → nat_eq k i ≡ b → b ≡ false
    by true f = let wrong : true ≡ false = sym (eq-eqb (suc k) (suc i) (ap suc (eqb-true k i f))) ∙ e in cc
    by false f = refl

set_again : {X : Type 0} (xs : List X) (i : ℕ) (x y : X) → slice_get xs i ≡ Some y → slice_set (slice_set xs i x) i y ≡ xs
set_again [] i x y e = cc
set_again (z ∷ xs) zero x y e = let same : z ≡ y = cc in ap (λ w. w ∷ xs) (sym same)
set_again (z ∷ xs) (suc i) x y e = ap (λ l. z ∷ l) (set_again xs i x y e)

-- the hidden rows are as they were
pub set_back : (old : List RowsHeld) (place : ℕ) (wider hidden : RowsHeld) (mid : List RowsHeld) → slice_get old place ≡ Some hidden → mid ≡ slice_set old place wider → slice_set mid place hidden ≡ old
set_back old place wider hidden mid at is = ap (λ l. slice_set l place hidden) is ∙ set_again old place wider hidden at

pub touched_place : (place : ℕ) (rows : Table) (old : List (Option Made)) (o x : Option Made) → slice_get old place ≡ Some o → TouchesMade rows o x → TouchesAt place rows old (slice_set old place x)
touched_place place rows old o x at touches = record {
  long = set_long old place x;
  there = λ a b a_at b_at.
      let both : Some a ≡ Some o = sym a_at ∙ at in
      let same : a ≡ o = cc in
      subst (λ q. TouchesMade rows q b) (sym same) (subst (TouchesMade rows o) (sym (set_here old place x b b_at)) touches);
  others = λ k e. set_beside old place k x e;
}

there_or : {X : Type 0} (xs : List X) (n : ℕ) (d : X) → n < length xs → slice_get xs n ≡ Some (get_or xs n d)
there_or [] n d lt = absurd (omega (arith, lt))
there_or (x ∷ xs) zero d lt = refl
there_or (x ∷ xs) (suc n) d lt = there_or xs n d (omega (arith, lt))

pub touched_within : (place : ℕ) (rows : Table) (old : List (Option Made)) (o x : Option Made) → place < length old → o ≡ get_or old place o → TouchesMade rows o x → TouchesAt place rows old (slice_set old place x)
touched_within place rows old o x lt is touches = touched_place place rows old o x (there_or old place o lt ∙ ap (λ y. Some y) (sym is)) touches

past_end : {X : Type 0} (xs : List X) (n : ℕ) (x : X) → length xs ≤ n → slice_get xs n ≡ Some x → ⊥
past_end xs n x le at = let lt = within xs n x at in omega (arith, lt, le)

pub touched_none : (place : ℕ) (rows : Table) (old : List (Option Made)) → length old ≤ place → TouchesAt place rows old old
touched_none place rows old le = record {
  long = refl;
  there = λ a b a_at b_at. absurd (past_end old place a le a_at);
  others = λ k e. refl;
}

-- what is made, and used last

made_more : (b : Bool) (schema : List Rattle.table_defs.specs.declared.definition.TableDef.TableDef) (state : TableState) (g : Group) (s : Kept) (hidden rows : Table) (o x : Option Made) → IsMade b schema state g s hidden o → TouchesMade rows o x → IsMadeFor b schema state g s hidden (fm.keys rows) x
made_more true schema state g s hidden rows None x is touches = absurd is
made_more true schema state g s hidden rows (Some m) None is touches = absurd touches
made_more true schema state g s hidden rows (Some m) (Some y) is touches = record {
  store = used (fm.keys rows) (store_anew schema state g s hidden) m.store y.store is.store touches.store;
  hiding = record {
    key = ap (λ (h : RowsHeld). h.places) touches.hidden ∙ is.hiding.key;
    room = λ hides. subst (λ n. n ≤ y.hidden.spare) (sym same_roots) (subst (λ (h : RowsHeld). fm.len (Rattle.instances.specs.Views.kept_at m.store.tables 0) ≤ h.spare) (sym touches.hidden) (is.hiding.room hides));
    none = ap (λ (h : RowsHeld). h.table) touches.hidden ∙ is.hiding.none;
  };
  old = is.old;
  new = touches.roots;
}
  where
    tables_same : (keys : List Row) (a : Kept) → (touched_all keys a).tables ≡ a.tables
    tables_same [] a = refl
    tables_same (k ∷ keys) a = tables_same keys (touched_store k a)

    same_roots : fm.len (Rattle.instances.specs.Views.kept_at y.store.tables 0) ≡ fm.len (Rattle.instances.specs.Views.kept_at m.store.tables 0)
    same_roots = ap (λ ts. fm.len (Rattle.instances.specs.Views.kept_at ts 0)) (touches.store.tables ∙ tables_same (fm.keys rows) m.store)

    used : (keys : List Row) (a b c : Kept) → SameButSpare a b → SameButSpare (touched_all keys b) c → SameButSpare (touched_all keys a) c
    used [] a b c first then = record { table = then.table ∙ first.table; key = then.key ∙ first.key; foreign = then.foreign ∙ first.foreign; layers = then.layers ∙ first.layers; tables = then.tables ∙ first.tables; keys = then.keys ∙ first.keys }
    used (k ∷ keys) a b c first then = used keys (touched_store k a) (touched_store k b) c (record { table = first.table; key = first.key; foreign = first.foreign; layers = first.layers; tables = first.tables; keys = ap (touched is_same k) first.keys }) then
made_more false schema state g s hidden rows None x is touches = touches
made_more false schema state g s hidden rows (Some m) x is touches = cc

made_none : (b : Bool) (schema : List Rattle.table_defs.specs.declared.definition.TableDef.TableDef) (state : TableState) (g : Group) (s : Kept) (hidden : Table) (o : Option Made) → IsMade b schema state g s hidden o → IsMadeFor b schema state g s hidden [] o
made_none true schema state g s hidden None is = absurd is
made_none true schema state g s hidden (Some m) is = record { store = is.store; hiding = is.hiding; old = is.old; new = is.new }
made_none false schema state g s hidden o is = is

item_there : {X Y : Type 0} (xs : List X) (ys : List Y) (k : ℕ) (x : X) → length ys ≡ length xs → slice_get xs k ≡ Some x → (y : Y) × (slice_get ys k ≡ Some y)
item_there [] ys k x long at = cc
item_there (z ∷ xs) [] k x long at = absurd (omega (arith, long))
item_there (z ∷ xs) (y ∷ ys) zero x long at = (y, refl)
item_there (z ∷ xs) (y ∷ ys) (suc k) x long at = item_there xs ys k x (omega (arith, long)) at

pub gaining_made : (filled : Choice) (t : Stored) (place : ℕ) (gained : Table) (state : TableState) (hidden wider : RowsHeld) (made new : List (Option Made)) {mid : List RowsHeld} → Some hidden ≡ slice_get t.hidden.items place → wider.table ≡ widened hidden gained → mid ≡ slice_set t.hidden.items place wider
    → AreMade filled t.schema state (groups_in t.catalog) t.stores.items mid made → TouchesAt place gained made new → AreMadeGaining filled t place gained state new
gaining_made filled t place gained state hidden wider made new {mid} held is mid_is are touches = record {
  long = touches.long ∙ are.long;
  each = λ k g s h o at new_at. by k g s h o at new_at (nat_eq k place) refl;
}
  where
    by : (k : ℕ) (g : Group) (s : Kept) (h : RowsHeld) (o : Option Made) → IsStoredAt t k g s h → slice_get new k ≡ Some o → (b : Bool) → nat_eq k place ≡ b
        → IsMadeFor (filled k g) t.schema state g s (cond (nat_eq k place) (widened h gained) h.table) (cond (nat_eq k place) (fm.keys gained) []) o
    by k g s h o at new_at true e =
        let same = eqb-true k place e in
        let (p, p_at) = item_there new made k o (sym touches.long) new_at in
        let both : Some hidden ≡ Some h = held ∙ ap (slice_get t.hidden.items) (sym same) ∙ at.held in
        let here : hidden ≡ h = cc in
        let swapped : slice_get mid k ≡ Some wider = ap (λ l. slice_get l k) mid_is ∙ ap (λ i. slice_get (slice_set t.hidden.items i wider) k) (sym same) ∙ put_here t.hidden.items k wider h at.held in
        subst (λ b. IsMadeFor (filled k g) t.schema state g s (cond b (widened h gained) h.table) (cond b (fm.keys gained) []) o) (sym e)
        (subst (λ m. IsMadeFor (filled k g) t.schema state g s m (fm.keys gained) o) (is ∙ ap (λ x. widened x gained) here)
        (made_more (filled k g) t.schema state g s wider.table gained p o (are.each k g s wider p at.there at.kept swapped p_at)
        (touches.there p o (ap (slice_get made) (sym same) ∙ p_at) (ap (slice_get new) (sym same) ∙ new_at))))
      where
        put_here : (xs : List RowsHeld) (i : ℕ) (x y : RowsHeld) → slice_get xs i ≡ Some y → slice_get (slice_set xs i x) i ≡ Some x
        put_here [] i x y e = cc
        put_here (z ∷ xs) zero x y e = refl
        put_here (z ∷ xs) (suc i) x y e = put_here xs i x y e
    by k g s h o at new_at false e =
        subst (λ b. IsMadeFor (filled k g) t.schema state g s (cond b (widened h gained) h.table) (cond b (fm.keys gained) []) o) (sym e)
        (made_none (filled k g) t.schema state g s h.table o
        (are.each k g s h o at.there at.kept (ap (λ l. slice_get l k) mid_is ∙ set_beside t.hidden.items place k wider e ∙ at.held) (sym (touches.others k e) ∙ new_at)))
