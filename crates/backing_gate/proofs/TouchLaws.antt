-- Laws of the instances that changes touch and wants name.
use Rattle.std.proofs.Common.{◌≡◌, ℕ, ◌+◌, ◌-◌, ◌<◌, ◌≤◌, Bool, true, false, cond, ◌||◌, Some, is_some, List, [], ◌∷◌, ◌++◌, append_assoc, drop, get_or, length, map, min, slice_get, take, inl, inr, refl, sym, ap, subst, ◌∙◌, arith}
use Rattle.std.proofs.lemmas.Bool.{cases_lt}
use Rattle.std.proofs.lemmas.List.{drop_all, length-drop, take_all, take_more}
use Rattle.std.specs.List.{flat_map, list_any}
use Rattle.std.specs.FinMap.{contains_key, empty, entries, get, get-empty, insert}
use Rattle.std.specs.declared.cmp.Ordering.TheVariants.{Less, Equal}
use Rattle.row_types.specs.declared.value.Value.{Value}
use Rattle.row_types.specs.Order.{key_order}
use Rattle.tier_base.specs.declared.number.Position.{Position}
use Rattle.tier_base.specs.declared.number.TableId.{TableId}
use Rattle.indexed_rows.specs.Rows.{Table, is_same}
use Rattle.indexed_rows.proofs.EntryLaws.{at_has, get_new, get_other, has_at, itself, mapped_at, rises, same_itself, same_values, some_of, unmapped_at}
use Rattle.indexed_rows.proofs.FirstLaws.{drop_at}
use Rattle.indexed_rows.proofs.MapLaws.{slice_get_read}
use Rattle.table_defs.specs.declared.definition.TableDef.{TableDef}
use Rattle.table_state.specs.declared.footprint.RowKey.{RowKey}
use Rattle.table_state.specs.declared.history.Entry.{Entry}
use Rattle.table_state.specs.Histories.{state_at, state_of}
use Rattle.table_state.specs.Tables.{TableState}
use Rattle.change_log.specs.declared.log.RowChange.{RowChange}
use Rattle.change_log.specs.Logs.{IsNet}
use Rattle.change_log.specs.Steps.{logged_over, of_tables}
use Rattle.change_log.proofs.LoggingLaws.{history_nets}
use Rattle.instances.specs.declared.tree.Tree.{Tree}
use Rattle.outside.specs.Changes.{AllTouched, AreTouched, IsChangesOf, TellsChanges, is_touched, touched_under, tree_tables}
use Rattle.outside.specs.Reaching.{instance_under}
use Rattle.outside.specs.declared.changes.Touched.{Touched}
use Rattle.backing_gate.specs.Touching.{AreRoots, AreWanted, touched_at}
use Rattle.backing_gate.proofs.BankLaws.{one_state}

abbrev Row : Type 0
Row = List Value

-- ---- root keys

-- what is asked of one is asked of the first of those left
module _ {X : Type 0} (p : X → Bool) (xs : List X) where
  swap : (a rest c : Bool) → (rest || (a || c)) ≡ ((a || rest) || c)
  swap true true c = refl
  swap true false c = refl
  swap false true c = refl
  swap false false c = refl

  pub any_more : (i : ℕ) (x : X) → i < length xs → x ≡ get_or xs i x → (c new all : Bool) → (list_any p (drop i xs) || c) ≡ all → new ≡ (p x || c) → (list_any p (drop (i + 1) xs) || new) ≡ all
  any_more i x lt is c new all so_far step =
      ap (λ n. list_any p (drop (i + 1) xs) || n) step ∙ swap (p x) (list_any p (drop (i + 1) xs)) c
      ∙ ap (λ l. list_any p l || c) (sym (drop_at xs i x (slice_get_read xs i x lt is))) ∙ so_far

  pub any_all : (i : ℕ) → length xs ≤ i → (c all : Bool) → (list_any p (drop i xs) || c) ≡ all → c ≡ all
  any_all i past c all so_far = ap (λ l. list_any p l || c) (sym (drop_all i xs past)) ∙ so_far

or_false : (a : Bool) → (a || false) ≡ a
or_false true = refl
or_false false = refl

-- at first there are none
pub any_none : {X : Type 0} (p : X → Bool) (xs : List X) (roots : Table) (root : Row) → roots ≡ empty → (list_any p xs || contains_key roots root) ≡ list_any p xs
any_none p xs roots root is =
    ap (λ o. list_any p xs || is_some o) (ap (λ (m : Table). get m root) is ∙ get-empty key_order root) ∙ or_false (list_any p xs)

-- one more
pub puts_root : (old new : Table) (found row : Row) → new ≡ cond (contains_key old found) old (insert old found row) → (root : Row) → contains_key new root ≡ (is_same root found || contains_key old root)
puts_root old new found row is root = ap (λ (m : Table). contains_key m root) is ∙ by (is_same root found) refl (contains_key old found) refl
  where
    by : (same : Bool) → is_same root found ≡ same → (had : Bool) → contains_key old found ≡ had → contains_key (cond had old (insert old found row)) root ≡ (same || contains_key old root)
    by true e true h = ap (contains_key old) (same_values root found e) ∙ h
    by true e false h = ap (contains_key (insert old found row)) (same_values root found e) ∙ ap is_some (get_new old found row)
    by false e true h = refl
    by false e false h = ap is_some (get_other old found row root other)
      where
        other : root ≡ found → ⊥
        other x = let sure : is_same root found ≡ true = same_itself root found x in cc

-- ---- the instances under them

module _ (s : TableState) (tree : Tree) (log : List RowChange) (wants : List RowKey) (roots wanted : Table) (are : AreRoots s tree log wants roots) (named : AreWanted s tree wants wanted) where
  same_touched : (root : Row) → touched_at s tree wanted root ≡ touched_under s tree wants root
  same_touched root = ap (λ (b : Bool). record { instance = instance_under s tree root; wanted = b }) (named root)

  sound : (i : ℕ) (t : Touched) → slice_get (map (λ (e : Row × Row). touched_at s tree wanted e.0) (entries roots)) i ≡ Some t → (is_touched s tree log wants t.instance.root ≡ true) × (t ≡ touched_under s tree wants t.instance.root)
  sound i t at =
      let u = unmapped_at (λ (e : Row × Row). touched_at s tree wanted e.0) (entries roots) i t at in
      let there : contains_key roots u.0.0 ≡ true = ap is_some (at_has roots i u.0 u.1) in
      let sure : is_touched s tree log wants u.0.0 ≡ true = sym (are u.0.0) ∙ there in
      subst (λ (x : Touched). (is_touched s tree log wants x.instance.root ≡ true) × (x ≡ touched_under s tree wants x.instance.root)) u.2 (sure, same_touched u.0.0)

  -- a later entry has another key
  apart : (i j : ℕ) (a b : Row × Row) → i < j → slice_get (entries roots) i ≡ Some a → slice_get (entries roots) j ≡ Some b → a.0 ≡ b.0 → ⊥
  apart i j a b lt at_i at_j same =
      let less : key_order b.0 b.0 ≡ Less = ap (λ (k : Row). key_order k b.0) (sym same) ∙ rises roots i j a b lt at_i at_j in
      let tie : key_order b.0 b.0 ≡ Equal = itself b.0 in
      cc

  once : (i j : ℕ) (a b : Touched) → slice_get (map (λ (e : Row × Row). touched_at s tree wanted e.0) (entries roots)) i ≡ Some a → slice_get (map (λ (e : Row × Row). touched_at s tree wanted e.0) (entries roots)) j ≡ Some b
      → a.instance.root ≡ b.instance.root → i ≡ j
  once i j a b at_i at_j same =
      let u = unmapped_at (λ (e : Row × Row). touched_at s tree wanted e.0) (entries roots) i a at_i in
      let v = unmapped_at (λ (e : Row × Row). touched_at s tree wanted e.0) (entries roots) j b at_j in
      let keys : u.0.0 ≡ v.0.0 = ap (λ (t : Touched). t.instance.root) u.2 ∙ same ∙ sym (ap (λ (t : Touched). t.instance.root) v.2) in
      elim (cases_lt i j) [
        | inl lt ↦ absurd (apart i j u.0 v.0 lt u.1 v.1 keys)
        | inr le ↦ elim (cases_lt j i) [
          | inl gt ↦ absurd (apart j i v.0 u.0 gt v.1 u.1 (sym keys))
          | inr ge ↦ omega arith
        ]
      ]

  whole : (root : Row) → is_touched s tree log wants root ≡ true → (i : ℕ) × (t : Touched) × (slice_get (map (λ (e : Row × Row). touched_at s tree wanted e.0) (entries roots)) i ≡ Some t) × (t.instance.root ≡ root)
  whole root sure =
      let found = some_of (get roots root) (are root ∙ sure) in
      let place = has_at roots root found.0 found.1 in
      (place.0, touched_at s tree wanted root, mapped_at (λ (e : Row × Row). touched_at s tree wanted e.0) (entries roots) place.0 (root, found.0) place.1, refl)

  pub are_touched : (touched : List Touched) → touched ≡ map (λ (e : Row × Row). touched_at s tree wanted e.0) (entries roots) → AreTouched s log wants tree touched
  are_touched touched is = subst (AreTouched s log wants tree) (sym is) (record { sound = sound; once = once; whole = whole })

-- ---- one after the other

ends : {A : Type 0} (l : List A) → l ++ [] ≡ l
ends [] = refl
ends (x ∷ l) = ap (λ m. x ∷ m) (ends l)

module _ {A B : Type 0} (f : A → B) (xs : List A) (i : ℕ) where
  pub map_more : (x : A) (out new all : List B) → slice_get xs i ≡ Some x → out ++ map f (drop i xs) ≡ all → new ≡ out ++ f x ∷ [] → new ++ map f (drop (i + 1) xs) ≡ all
  map_more x out new all at so_far grown =
      ap (λ l. l ++ map f (drop (i + 1) xs)) grown ∙ append_assoc out (f x ∷ []) (map f (drop (i + 1) xs)) ∙ ap (λ l. out ++ map f l) (sym (drop_at xs i x at)) ∙ so_far

  pub map_all : (out all : List B) → length xs ≤ i → out ++ map f (drop i xs) ≡ all → out ≡ all
  map_all out all past so_far = sym (ends out) ∙ ap (λ l. out ++ map f l) (sym (drop_all i xs past)) ∙ so_far

module _ {A B : Type 0} (f : A → List B) (xs : List A) (i : ℕ) where
  pub flat_more : (x : A) (out new all : List B) → i < length xs → x ≡ get_or xs i x → out ++ flat_map f (drop i xs) ≡ all → new ≡ out ++ f x → new ++ flat_map f (drop (i + 1) xs) ≡ all
  flat_more x out new all lt is so_far grown =
      ap (λ l. l ++ flat_map f (drop (i + 1) xs)) grown ∙ append_assoc out (f x) (flat_map f (drop (i + 1) xs)) ∙ ap (λ l. out ++ flat_map f l) (sym (drop_at xs i x (slice_get_read xs i x lt is))) ∙ so_far

-- ---- tree after tree

module _ (s : TableState) (log : List RowChange) (wants : List RowKey) where
  all_push : (trees : List Tree) (lists : List (List Touched)) (tree : Tree) (touched : List Touched) → AllTouched s log wants trees lists → AreTouched s log wants tree touched → AllTouched s log wants (trees ++ tree ∷ []) (lists ++ touched ∷ [])
  all_push [] [] tree touched all one = (one, tt)
  all_push [] (x ∷ lists) tree touched all one = absurd all
  all_push (t ∷ trees) [] tree touched all one = absurd all
  all_push (t ∷ trees) (x ∷ lists) tree touched all one = (all.0, all_push trees lists tree touched all.1 one)

  pub all_more : (trees : List Tree) (i : ℕ) (tree : Tree) (lists new : List (List Touched)) (touched : List Touched) → i < length trees → tree ≡ get_or trees i tree → AllTouched s log wants (take i trees) lists → AreTouched s log wants tree touched
      → new ≡ lists ++ touched ∷ [] → AllTouched s log wants (take (i + 1) trees) new
  all_more trees i tree lists new touched lt is all one grown =
      let longer : take (i + 1) trees ≡ take i trees ++ tree ∷ [] = take_more trees i tree lt ∙ ap (λ (t : Tree). take i trees ++ t ∷ []) (sym is) in
      subst (λ (l : List Tree). AllTouched s log wants l new) (sym longer) (subst (AllTouched s log wants (take i trees ++ tree ∷ [])) (sym grown) (all_push (take i trees) lists tree touched all one))

  pub all_trees : (trees : List Tree) (i : ℕ) (lists : List (List Touched)) → length trees ≤ i → AllTouched s log wants (take i trees) lists → AllTouched s log wants trees lists
  all_trees trees i lists past all = subst (λ (l : List Tree). AllTouched s log wants l lists) (take_all i trees past) all

-- ---- the entries behind a position

pub behind_position : (h : List Entry) (since : ℕ) → drop (min since (length h)) h ≡ drop since h
behind_position h since = elim (cases_lt since (length h)) [
  | inl within ↦ let same : min since (length h) ≡ since = omega arith in ap (λ n. drop n h) same
  | inr past ↦
      let same : min since (length h) ≡ length h = omega arith in
      let all : length h ≤ length h = omega arith in
      ap (λ n. drop n h) same ∙ drop_all (length h) h all ∙ sym (drop_all since h past)
]

-- ---- what the bank tells

module _ (h : List Entry) (since : Position) (trees : List Tree) (wants : List RowKey) (s : TableState) (stands : state_of h ≡ Some s) where
  pub tells : (covered : List TableId) (whole net : List RowChange) (touched : List (List Touched)) (position : Position) → covered ≡ flat_map tree_tables trees
      → whole ≡ of_tables covered (logged_over s.schema (drop since.0 h)) → IsNet whole net → AllTouched s net wants trees touched → position.0 ≡ length h
      → TellsChanges h since trees wants (record { position = position; log = net; touched = touched })
  tells covered whole net touched position covers logs nets all at = record { position = at; between = between }
    where
      same_log : whole ≡ of_tables (flat_map tree_tables trees) (logged_over s.schema (drop since.0 h))
      same_log = logs ∙ ap (λ (t : List TableId). of_tables t (logged_over s.schema (drop since.0 h))) covers

      here : (from : TableState) → state_at h since.0 ≡ Some from → IsChangesOf from s trees wants (record { position = position; log = net; touched = touched })
      here from was = record {
        log = history_nets h since.0 (flat_map tree_tables trees) net from s was stands (subst (λ (l : List RowChange). IsNet l net) same_log nets);
        touched = all;
      }

      between : (from to : TableState) → state_at h since.0 ≡ Some from → state_of h ≡ Some to → IsChangesOf from to trees wants (record { position = position; log = net; touched = touched })
      between from to was is = subst (λ (t : TableState). IsChangesOf from t trees wants (record { position = position; log = net; touched = touched })) (one_state h s to stands is) (here from was)

-- one change more of the roots, in the order in which it is looked at
pub both_roots : (before now old mid new : Bool) → mid ≡ (before || old) → new ≡ (now || mid) → new ≡ ((now || before) || old)
both_roots before true old mid new a b = b
both_roots before false old mid new a b = b ∙ a

-- the log of these tables over these definitions, however they came
pub logs_of : (t tables : List TableId) (d schema : List TableDef) (e entries : List Entry) (whole : List RowChange) → whole ≡ of_tables t (logged_over d e) → t ≡ tables → d ≡ schema → e ≡ entries → whole ≡ of_tables tables (logged_over schema entries)
logs_of t tables d schema e entries whole is a b c =
    is ∙ ap (λ (x : List TableId). of_tables x (logged_over d e)) a ∙ ap (λ (x : List TableDef). of_tables tables (logged_over x e)) b ∙ ap (λ (x : List Entry). of_tables tables (logged_over schema x)) c

-- the entries from a place on, where they end
pub rest_of : (h : List Entry) (m since : ℕ) → m ≡ min since (length h) → take (length h - m) (drop m h) ≡ drop since h
rest_of h m since is =
    let fits : length (drop m h) ≤ length h - m = omega (arith, length-drop m h) in
    take_all (length h - m) (drop m h) fits ∙ ap (λ n. drop n h) is ∙ behind_position h since
