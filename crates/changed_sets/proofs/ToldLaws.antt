-- What a refresh by the changed instances shows.
use Rattle.std.proofs.Common.{◌≡◌, ℕ, zero, suc, ◌+◌, Bool, true, false, ◌&&◌, ◌||◌, not, cond, Option, Some, None, is_some, List, [], ◌∷◌, length, map, slice_get, refl, sym, ap, subst, ◌∙◌}
use Rattle.std.specs.Option.{option_or}
use Rattle.std.specs.FinMap as fm
use Rattle.row_types.specs.declared.value.Value.{Value}
use Rattle.indexed_rows.specs.Rows.{Table, is_same}
use Rattle.indexed_rows.proofs.EntryLaws.{same_values}
use Rattle.table_state.specs.Tables.{TableState}
use Rattle.instances.specs.declared.tree.Tree.{Tree}
use Rattle.instances.specs.Trees.{is_sound}
use Rattle.instances.specs.Views.{instance_of, kept_at, root_rows}
use Rattle.outside.specs.Laws.{is_told}
use Rattle.outside.specs.declared.changes.Touched.{Touched}
use Rattle.cache_store.specs.Shown.{shown_of, tables_with}
use Rattle.cache_store.proofs.JoinLaws.{get_joined, length_joined, same_tables}
use Rattle.cache_store.proofs.ShownLaws.{shown_length}
use Rattle.group_store.specs.Keeping.{IsFor, KeepsShown}
use Rattle.group_store.specs.Stores.{Kept, put_tables}
use Rattle.stored_tier.proofs.PutLaws.{form_tables, shown_with, tables_put}
use Rattle.changed_sets.specs.Told.{AreUnderKeys, ChoosesTold, ShowsChanged, TellsTree}
use Rattle.changed_sets.specs.Turning.{cut_all, cut_of, put_back, put_shown, turn_of, turned}
use Rattle.changed_sets.proofs.CutLaws.{cut_tables, tables_cut}
use Rattle.changed_sets.proofs.KeyedLaws.{are_keyed}
use Rattle.changed_sets.proofs.TurnSteps.{cut_form, turned_form}
use Rattle.changed_sets.proofs.LeftLaws.{AreNow, Drops, Test, first_shown, is_chosen, left, same_shown}
use Rattle.changed_sets.proofs.DownLaws.{IsCutDown, and_true, cut_down}

abbrev Row : Type 0
Row = List Value

-- those of the told instances that are shown come in, as they are now
abbrev with_told : (Touched → Bool) → List Touched → Kept → Kept
with_told shown [] s = s
with_told shown (t ∷ told) s = with_told shown told (cond (shown t) (put_tables 0 (map fm.values t.instance.rows) s) s)

back_same : (shown : Touched → Bool) (told : List Touched) (s : Kept) → put_back (map (turn_of shown) told) s ≡ with_told shown told s
back_same shown [] s = refl
back_same shown (t ∷ told) s = ap (put_back (map (turn_of shown) told)) (by (shown t)) ∙ back_same shown told (cond (shown t) (put_tables 0 (map fm.values t.instance.rows) s) s)
  where
    by : (b : Bool) → put_shown (cond b (Some (map fm.values t.instance.rows)) None) s ≡ cond b (put_tables 0 (map fm.values t.instance.rows) s) s
    by true = refl
    by false = refl

-- with the roots of those that are shown
abbrev joined : Test → (Touched → Bool) → List Touched → Test
joined p shown [] = p
joined p shown (t ∷ told) = joined (λ k. p k || (shown t && is_same k t.instance.root)) shown told

or_false : (p : Test) → (λ k. p k || false) ≡ p
or_false p = λ i k. by (p k) i
  where
    by : (a : Bool) → (a || false) ≡ a
    by true = refl
    by false = refl

-- the tables show instances of a state, and beside them root rows alone
record IsBeside (s : TableState) (tree : Tree) (p bare : Test) (ts : List Table) : Type 0 where
  long : length ts ≡ 1 + length tree.children
  roots : (key : Row) → fm.get (kept_at ts 0) key ≡ fm.get (kept_at (shown_of s tree (λ k. p k || bare k)) 0) key
  later : (i : ℕ) (key : Row) → fm.get (kept_at ts (suc i)) key ≡ fm.get (kept_at (shown_of s tree p) (suc i)) key

module _ (state : TableState) (tree : Tree) (is : AreUnderKeys state) (sound : is_sound state.schema tree ≡ true) (bare : Test) where
  one_joined : (root : Row) (p : Test) (s : Kept) → IsFor state.schema tree s → IsBeside state tree p bare s.tables → IsBeside state tree (λ k. p k || is_same k root) bare (put_tables 0 (map fm.values (instance_of state tree root)) s).tables
  one_joined root p s form beside = record {
    long = ap length put ∙ length_joined s.tables (instance_of state tree root) long ∙ beside.long;
    roots = λ key. got 0 key ∙ ap (λ o. option_or o (fm.get (kept_at (instance_of state tree root) 0) key)) (beside.roots key) ∙ sym (of (λ k. p k || bare k) 0 key) ∙ ap (λ q. fm.get (kept_at (shown_of state tree q) 0) key) reordered;
    later = λ i key. got (suc i) key ∙ ap (λ o. option_or o (fm.get (kept_at (instance_of state tree root) (suc i)) key)) (beside.later i key) ∙ sym (of p (suc i) key);
  }
    where
      long : length s.tables ≡ length (instance_of state tree root)
      long = beside.long ∙ sym (shown_length state tree (λ k. is_same k root))

      put : (put_tables 0 (map fm.values (instance_of state tree root)) s).tables ≡ tables_with s.tables (instance_of state tree root)
      put = tables_put (instance_of state tree root) s (are_keyed state tree is sound s form (λ k. is_same k root)) long

      got : (i : ℕ) (key : Row) → fm.get (kept_at (put_tables 0 (map fm.values (instance_of state tree root)) s).tables i) key ≡ option_or (fm.get (kept_at s.tables i) key) (fm.get (kept_at (instance_of state tree root) i) key)
      got i key = ap (λ ts. fm.get (kept_at ts i) key) put ∙ get_joined s.tables (instance_of state tree root) long i key

      of : (q : Test) (i : ℕ) (key : Row) → fm.get (kept_at (shown_of state tree (λ k. q k || is_same k root)) i) key ≡ option_or (fm.get (kept_at (shown_of state tree q) i) key) (fm.get (kept_at (instance_of state tree root) i) key)
      of q i key =
          sym (ap (λ ts. fm.get (kept_at ts i) key) (shown_with state tree q (λ k. is_same k root)))
          ∙ get_joined (shown_of state tree q) (instance_of state tree root) (shown_length state tree q ∙ sym (shown_length state tree (λ k. is_same k root))) i key

      reordered : ◌≡◌ {A = Test} (λ k. (p k || bare k) || is_same k root) (λ k. (p k || is_same k root) || bare k)
      reordered = λ i k. by (p k) (bare k) (is_same k root) i
        where
          by : (a b c : Bool) → ((a || b) || c) ≡ ((a || c) || b)
          by true b c = refl
          by false true true = refl
          by false true false = refl
          by false false true = refl
          by false false false = refl

  joined_beside : (told : List Touched) → AreNow state tree told → (shown : Touched → Bool) (p : Test) (s : Kept) → IsFor state.schema tree s → IsBeside state tree p bare s.tables → IsBeside state tree (joined p shown told) bare (with_told shown told s).tables
  joined_beside [] now shown p s form beside = beside
  joined_beside (t ∷ told) now shown p s form beside =
      let one = by (shown t) in
      joined_beside told (λ i u at. now (suc i) u at) shown (λ k. p k || (shown t && is_same k t.instance.root)) (cond (shown t) (put_tables 0 (map fm.values t.instance.rows) s) s) (formed (shown t)) one
    where
      formed : (b : Bool) → IsFor state.schema tree (cond b (put_tables 0 (map fm.values t.instance.rows) s) s)
      formed true = let f = form_tables 0 (map fm.values t.instance.rows) s in record { table = f.table ∙ form.table; key = f.key ∙ form.key; foreign = f.foreign ∙ form.foreign; layers = f.layers ∙ form.layers }
      formed false = form

      by : (b : Bool) → IsBeside state tree (λ k. p k || (b && is_same k t.instance.root)) bare (cond b (put_tables 0 (map fm.values t.instance.rows) s) s).tables
      by true = subst (λ rows. IsBeside state tree (λ k. p k || is_same k t.instance.root) bare (put_tables 0 (map fm.values rows) s).tables) (sym (now 0 t refl)) (one_joined t.instance.root p s form beside)
      by false = subst (λ q. IsBeside state tree q bare s.tables) (sym (or_false p)) beside

-- these are the told ones that are shown, beside the others
joined_is : (now : Test) (shown : Touched → Bool) (told : List Touched) → ((i : ℕ) (t : Touched) → slice_get told i ≡ Some t → shown t ≡ now t.instance.root)
    → (p : Test) (k : Row) → joined p shown told k ≡ (p k || (now k && is_told told k))
joined_is now shown [] same p k = by (p k) (now k)
  where
    by : (a b : Bool) → a ≡ (a || (b && false))
    by true b = refl
    by false true = refl
    by false false = refl
joined_is now shown (t ∷ told) same p k =
    joined_is now shown told (λ i u at. same (suc i) u at) (λ q. p q || (shown t && is_same q t.instance.root)) k
    ∙ ap (λ b. (p k || b) || (now k && is_told told k)) (one (is_same k t.instance.root) refl)
    ∙ by (p k) (now k) (is_same k t.instance.root) (is_told told k)
  where
    and_false : (a b : Bool) → (a && false) ≡ (b && false)
    and_false true true = refl
    and_false true false = refl
    and_false false true = refl
    and_false false false = refl

    one : (b : Bool) → is_same k t.instance.root ≡ b → (shown t && is_same k t.instance.root) ≡ (now k && is_same k t.instance.root)
    one true e = ap (λ b. b && is_same k t.instance.root) (same 0 t refl ∙ ap now (sym (same_values k t.instance.root e)))
    one false e = ap (λ b. shown t && b) e ∙ and_false (shown t) (now k) ∙ sym (ap (λ b. now k && b) e)

    by : (a b c d : Bool) → ((a || (b && c)) || (b && d)) ≡ (a || (b && (c || d)))
    by true b c d = refl
    by false true c d = refl
    by false false c d = refl

-- so are the root rows that were left
chosen_now : (now : Test) (shown : Touched → Bool) (told : List Touched) → ((i : ℕ) (t : Touched) → slice_get told i ≡ Some t → shown t ≡ now t.instance.root) → (k : Row) → is_chosen shown told k ≡ true → now k ≡ true
chosen_now now shown [] same k e = cc
chosen_now now shown (t ∷ told) same k e = by (shown t) (same 0 t refl) (is_same k t.instance.root) refl e (chosen_now now shown told (λ i u at. same (suc i) u at) k)
  where
    by : (a : Bool) → a ≡ now t.instance.root → (b : Bool) → is_same k t.instance.root ≡ b → ((a && b) || is_chosen shown told k) ≡ true → (is_chosen shown told k ≡ true → now k ≡ true) → now k ≡ true
    by true f true g h rest = ap now (same_values k t.instance.root g) ∙ sym f
    by true f false g h rest = rest h
    by false f b g h rest = rest h

-- ---- so all that are shown then are shown

module _ (drops : Drops) (from to : TableState) (tree : Tree) (told : List Touched) (shown : Touched → Bool) (was now : Test) (s : Kept) (is : AreUnderKeys to) (sound : is_sound to.schema tree ≡ true) (form : IsFor to.schema tree s) (tells : TellsTree from to tree told)
    (chooses : ChoosesTold told shown was now) (keeps_shown : KeepsShown from tree was s) where
  abbrev cut : Kept
  cut = cut_all (map (cut_of shown) told) s

  all_is : joined (left was told) shown told ≡ now
  all_is = λ i k. each k i
    where
      by : (b : Bool) (w n : Bool) → (b ≡ false → n ≡ w) → ((w && not b) || (n && b)) ≡ n
      by true true true same = refl
      by true true false same = refl
      by true false true same = refl
      by true false false same = refl
      by false true n same = sym (same refl)
      by false false true same = sym (same refl)
      by false false false same = refl

      each : (k : Row) → joined (left was told) shown told k ≡ now k
      each k = joined_is now shown told chooses.chosen (left was told) k ∙ by (is_told told k) (was k) (now k) (λ e. chooses.others k e)

  rows_now : AreNow to tree told
  rows_now i t at = ap (λ (x : Rattle.outside.specs.declared.site.Instance.Instance). x.rows) (tells.now i t at)

  down : IsCutDown drops from to tree is sound s form keeps_shown.form shown told was s.tables (cut_tables s.layers s.key shown told s.tables)
  down = cut_down drops from to tree is sound s form keeps_shown.form shown told tells.once rows_now was s.tables keeps_shown.tables

  stay : shown_of from tree (left was told) ≡ shown_of to tree (left was told)
  stay = same_shown from to tree (left was told) (λ root passes. tells.stays root (not_told (was root) (is_told told root) passes))
    where
      not_told : (a b : Bool) → (a && not b) ≡ true → b ≡ false
      not_told true true e = cc
      not_told true false e = refl
      not_told false b e = cc

  beside : IsBeside to tree (left was told) down.bare cut.tables
  beside = subst (IsBeside to tree (left was told) down.bare) (sym (tables_cut shown told s)) (record {
    long = down.long;
    roots = λ key.
        down.roots key
        ∙ ap (λ ts. option_or (fm.get (kept_at ts 0) key) (cond (down.bare key) (fm.get (root_rows to tree.root) key) None)) stay
        ∙ ap (λ o. option_or o (cond (down.bare key) (fm.get (root_rows to tree.root) key) None)) (first_shown to tree (left was told) key)
        ∙ either (left was told key) (down.bare key) (fm.get (root_rows to tree.root) key)
        ∙ sym (first_shown to tree (λ k. left was told k || down.bare k) key);
    later = λ i key. down.later i key ∙ ap (λ ts. fm.get (kept_at ts (suc i)) key) stay;
  })
    where
      either : (a b : Bool) (v : Option Row) → option_or (cond a v None) (cond b v None) ≡ cond (a || b) v None
      either true true None = refl
      either true true (Some x) = refl
      either true false None = refl
      either true false (Some x) = refl
      either false b v = refl

  form_cut : IsFor to.schema tree cut
  form_cut = let f = cut_form (map (cut_of shown) told) s in record { table = f.table ∙ form.table; key = f.key ∙ form.key; foreign = f.foreign ∙ form.foreign; layers = f.layers ∙ form.layers }

  pub all_shown : (turned (map (cut_of shown) told) (map (turn_of shown) told) s).tables ≡ shown_of to tree now
  all_shown =
      ap (λ (x : Kept). x.tables) (back_same shown told cut)
      ∙ same_tables (with_told shown told cut).tables (shown_of to tree now) (then_.long ∙ sym (shown_length to tree now)) at
    where
      then_ : IsBeside to tree now down.bare (with_told shown told cut).tables
      then_ = subst (λ q. IsBeside to tree q down.bare (with_told shown told cut).tables) all_is
          (joined_beside to tree is sound down.bare told rows_now shown (left was told) cut form_cut beside)

      among : ◌≡◌ {A = Test} (λ k. now k || down.bare k) now
      among = λ i k. by (now k) refl (down.bare k) refl i
        where
          by : {k : Row} (a : Bool) → now k ≡ a → (b : Bool) → down.bare k ≡ b → (a || b) ≡ a
          by true e b f = refl
          by {k} false e true f = let wrong : true ≡ false = sym (chosen_now now shown told chooses.chosen k (down.within k f)) ∙ e in cc
          by false e false f = refl

      at : (i : ℕ) (key : Row) → fm.get (kept_at (with_told shown told cut).tables i) key ≡ fm.get (kept_at (shown_of to tree now) i) key
      at zero key = then_.roots key ∙ ap (λ q. fm.get (kept_at (shown_of to tree q) 0) key) among
      at (suc i) key = then_.later i key

  -- a root row that was there, and is shown then, stays where others are cut down
  pub stays_there : (k row : Row) → now k ≡ true → fm.get (root_rows to tree.root) k ≡ Some row → fm.contains_key (kept_at s.tables 0) k ≡ true → fm.contains_key (kept_at cut.tables 0) k ≡ true
  stays_there k row shows has there_before =
      ap (λ ts. fm.contains_key (kept_at ts 0) k) (tables_cut shown told s)
      ∙ ap is_some (down.roots k)
      ∙ by (is_told told k) refl
    where
      was_shown : is_some (cond (was k) (fm.get (root_rows from tree.root) k) None) ≡ true
      was_shown = sym (ap is_some (first_shown from tree was k)) ∙ sym (ap (λ ts. fm.contains_key (kept_at ts 0) k) keeps_shown.tables) ∙ there_before

      some_or : (a b : Option Row) → is_some b ≡ true → is_some (option_or a b) ≡ true
      some_or None b e = e
      some_or (Some x) b e = refl

      first_or : (a b : Option Row) → is_some a ≡ true → is_some (option_or a b) ≡ true
      first_or None b e = cc
      first_or (Some x) b e = refl

      found : (told : List Touched) → is_told told k ≡ true → (i : ℕ) × (t : Touched) × (slice_get told i ≡ Some t) × (k ≡ t.instance.root)
      found [] e = cc
      found (t ∷ more) e = of (is_same k t.instance.root) refl e (found more)
        where
          of : (b : Bool) → is_same k t.instance.root ≡ b → (b || is_told more k) ≡ true → (is_told more k ≡ true → (i : ℕ) × (u : Touched) × (slice_get more i ≡ Some u) × (k ≡ u.instance.root)) → (i : ℕ) × (u : Touched) × (slice_get (t ∷ more) i ≡ Some u) × (k ≡ u.instance.root)
          of true f g rest = (0, t, refl, same_values k t.instance.root f)
          of false f g rest = let r = rest g in (suc r.0, r.1, r.2, r.3)

      by : (b : Bool) → is_told told k ≡ b → is_some (option_or (fm.get (kept_at (shown_of from tree (left was told)) 0) k) (cond (down.bare k) (fm.get (root_rows to tree.root) k) None)) ≡ true
      by false e =
          first_or (fm.get (kept_at (shown_of from tree (left was told)) 0) k) (cond (down.bare k) (fm.get (root_rows to tree.root) k) None)
          (ap is_some (first_shown from tree (left was told) k)
          ∙ ap (λ b. is_some (cond (was k && not b) (fm.get (root_rows from tree.root) k) None)) e
          ∙ ap (λ b. is_some (cond b (fm.get (root_rows from tree.root) k) None)) (and_true (was k))
          ∙ was_shown)
      by true e =
          let f = found told e in
          let same : k ≡ f.1.instance.root = f.3 in
          let bare : down.bare k ≡ true =
          ap down.bare same
          ∙ down.kept f.0 f.1 f.2 (chooses.chosen f.0 f.1 f.2 ∙ ap now (sym same) ∙ shows) row (ap (fm.get (root_rows to tree.root)) (sym same) ∙ has) (ap (fm.contains_key (kept_at s.tables 0)) (sym same) ∙ there_before) in
          some_or (fm.get (kept_at (shown_of from tree (left was told)) 0) k) (cond (down.bare k) (fm.get (root_rows to tree.root) k) None)
          (λ i. is_some (cond (bare i) (has i) None))

pub shows_changed : (drops : Drops) (from to : TableState) (tree : Tree) → ShowsChanged from to tree
shows_changed drops from to tree told shown was now s is sound form tells chooses keeps_shown =
    let f = turned_form (map (cut_of shown) told) (map (turn_of shown) told) s in
    record {
      form = record { table = f.table ∙ form.table; key = f.key ∙ form.key; foreign = f.foreign ∙ form.foreign; layers = f.layers ∙ form.layers };
      tables = all_shown drops from to tree told shown was now s is sound form tells chooses keeps_shown;
    }
