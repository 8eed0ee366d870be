-- Laws of deletions: what leaves with a row are different rows, and each is there.
use Rattle.std.proofs.Common.{◌≡◌, ℕ, zero, suc, ◌+◌, ◌<◌, ◌≤◌, ◌^◌, Bool, true, false, cond, ◌&&◌, ◌==◌, nat_lt, Option, Some, None, Result, Ok, Err, List, [], ◌∷◌, ◌++◌, slice_get, unwrap_or, ◌⊎◌, inl, inr, refl, sym, ap, subst, ◌∙◌, arith}
use Rattle.std.specs.List.{flat_map}
use Rattle.std.specs.Option.{option_and_then, option_map, option_to_list}
use Rattle.std.specs.FinMap as fm
use Rattle.std.proofs.lemmas.Bool.{eqb-true}
use Rattle.evaluator.specs.row_types.specs.declared.rule.Rule.{Rule}
use Rattle.evaluator.specs.row_types.specs.Order.{key_order}
use Rattle.evaluator.specs.tier_base.specs.declared.number.TableId.{TableId}
use Rattle.evaluator.specs.table_defs.specs.declared.definition.ForeignKey.{ForeignKey}
use Rattle.evaluator.specs.table_defs.specs.declared.definition.TableDef.{TableDef}
use Rattle.evaluator.specs.table_state.specs.declared.operation.Op.{Op}
use Rattle.evaluator.specs.table_state.specs.declared.operation.Op.TheVariants.{Delete}
use Rattle.evaluator.specs.table_defs.specs.Declarations.{foreign_places}
use Rattle.evaluator.specs.indexed_rows.specs.Rows.{Table, key_of}
use Rattle.evaluator.specs.table_state.specs.Tables.{TableState, table_at}
use Rattle.evaluator.specs.indexed_rows.proofs.EntryLaws.{same_values}
use Rattle.evaluator.specs.table_state.specs.ScanChildren.{refers_to}
use Rattle.evaluator.specs.table_state.specs.Keyed.{IsKeyed, IsUnderKeys, has_key}
use Rattle.evaluator.specs.table_state.proofs.KeyLaws.{rows_apart, rows_there}
use Rattle.evaluator.specs.table_state.proofs.PairLaws.{Every, Pairs, every_append, every_as, every_filter, pairs_filter}
use Rattle.evaluator.specs.Cascades.{cascades_from, child_at, children_from, deleted, key_in, referring}
use Rattle.evaluator.specs.Rules.{added, each}
use Rattle.evaluator.proofs.WriteLaws.{keyed_at}
use Rattle.transactions.specs.Differing.{RefersBack}
use Rattle.transactions.proofs.PathLaws.{Under, between, itself, one_more, rank_below, same_root}
use Rattle.transactions.proofs.StandLaws.{AreApart, Place, Row, Stands, found_at, place_in, place_of}

pub same_ok : {A E : Type 0} (r : Result A E) {a b : A} → r ≡ Ok a → r ≡ Ok b → a ≡ b
same_ok (Ok x) e f = cc
same_ok (Err x) e f = cc

same_some : {X : Type 0} {x y : X} → Some x ≡ Some y → x ≡ y
same_some e = cc

-- operations on different rows of a region, each of which is there
pub record Good (schema : List TableDef) (s : TableState) (R : Place → Type 0) (ops : List Op) : Type 0 where
  pub region : Every (λ op. R (place_of schema op)) ops
  pub apart : Pairs (AreApart schema) ops
  pub stand : Every (Stands schema s) ops

-- in the region of some of these
abbrev pub AnyOf : {X : Type 0} → (X → Place → Type 0) → List X → Place → Type 0
AnyOf R [] q = ⊥
AnyOf R (x ∷ xs) q = R x q ⊎ AnyOf R xs q

module _ (schema : List TableDef) (s : TableState) where
  pub good_none : (R : Place → Type 0) → Good schema s R []
  good_none R = record { region = tt; apart = tt; stand = tt }

  pub good_one : (R : Place → Type 0) (op : Op) → R (place_of schema op) → Stands schema s op → Good schema s R (op ∷ [])
  good_one R op r h = record { region = (r, tt); apart = (tt, tt); stand = (h, tt) }

  pub good_as : (R Q : Place → Type 0) → ((q : Place) → R q → Q q) → (ops : List Op) → Good schema s R ops → Good schema s Q ops
  good_as R Q f ops g = record { region = every_as (λ op. R (place_of schema op)) (λ op. Q (place_of schema op)) (λ op. f (place_of schema op)) ops g.region; apart = g.apart; stand = g.stand }

  pairs_append : (R Q : Place → Type 0) → ((q : Place) → R q → Q q → ⊥) → (xs ys : List Op) → Every (λ op. R (place_of schema op)) xs → Every (λ op. Q (place_of schema op)) ys → Pairs (AreApart schema) xs → Pairs (AreApart schema) ys → Pairs (AreApart schema) (xs ++ ys)
  pairs_append R Q never [] ys r q h k = k
  pairs_append R Q never (x ∷ xs) ys r q h k = (
    every_append (AreApart schema x) xs ys h.0 (every_as (λ op. Q (place_of schema op)) (AreApart schema x) (λ op in_q same. never (place_of schema op) (subst R same r.0) in_q) ys q),
    pairs_append R Q never xs ys r.1 q h.1 k,
  )

  pub good_append : (R Q : Place → Type 0) → ((q : Place) → R q → Q q → ⊥) → (xs ys : List Op) → Good schema s R xs → Good schema s Q ys → Good schema s (λ q. R q ⊎ Q q) (xs ++ ys)
  good_append R Q never xs ys g h = record {
    region = every_append (λ op. R (place_of schema op) ⊎ Q (place_of schema op)) xs ys
        (every_as (λ op. R (place_of schema op)) (λ op. R (place_of schema op) ⊎ Q (place_of schema op)) (λ op r. inl r) xs g.region)
        (every_as (λ op. Q (place_of schema op)) (λ op. R (place_of schema op) ⊎ Q (place_of schema op)) (λ op q. inr q) ys h.region);
    apart = pairs_append R Q never xs ys g.region h.region g.apart h.apart;
    stand = every_append (Stands schema s) xs ys g.stand h.stand;
  }

  module _ {X : Type 0} (R : X → Place → Type 0) where
    pub any_as : (Q : Place → Type 0) (xs : List X) → Every (λ x. (q : Place) → R x q → Q q) xs → (q : Place) → AnyOf R xs q → Q q
    any_as Q [] f q h = absurd h
    any_as Q (x ∷ xs) f q h = elim h [ inl here ↦ f.0 q here | inr later ↦ any_as Q xs f.1 q later ]

    never_any : (x : X) (xs : List X) → Every (λ y. (q : Place) → R x q → R y q → ⊥) xs → (q : Place) → R x q → AnyOf R xs q → ⊥
    never_any x [] f q r h = absurd h
    never_any x (y ∷ xs) f q r h = elim h [ inl here ↦ f.0 q r here | inr later ↦ never_any x xs f.1 q r later ]

    -- what several give in different regions
    pub good_flat : (f : X → List Op) (xs : List X) → Every (λ x. Good schema s (R x) (f x)) xs → Pairs (λ x y. (q : Place) → R x q → R y q → ⊥) xs → Good schema s (AnyOf R xs) (flat_map f xs)
    good_flat f [] good apart = good_none (AnyOf R [])
    good_flat f (x ∷ xs) good apart = good_append (R x) (AnyOf R xs) (never_any x xs apart.0) (f x) (flat_map f xs) good.0 (good_flat f xs good.1 apart.1)

    pub good_each : (f : X → Result (List Op) Rule) (xs : List X) (ops : List Op) → Every (λ x. (some : List Op) → f x ≡ Ok some → Good schema s (R x) some) xs → Pairs (λ x y. (q : Place) → R x q → R y q → ⊥) xs → each f xs ≡ Ok ops → Good schema s (AnyOf R xs) ops
    good_each f [] ops good apart is = subst (λ l. Good schema s (AnyOf R []) l) (same_ok _ refl is) (good_none (AnyOf R []))
    good_each f (x ∷ xs) ops good apart is = by (f x) (each f xs) (good.0) (λ more. good_each f xs more good.1 apart.1) is
      where
        by : (a b : Result (List Op) Rule) → ((some : List Op) → a ≡ Ok some → Good schema s (R x) some) → ((more : List Op) → b ≡ Ok more → Good schema s (AnyOf R xs) more) → added a b ≡ Ok ops → Good schema s (AnyOf R (x ∷ xs)) ops
        by (Err e) b one rest h = cc
        by (Ok some) (Err e) one rest h = cc
        by (Ok some) (Ok more) one rest h = subst (λ l. Good schema s (AnyOf R (x ∷ xs)) l) (same_ok _ refl h) (good_append (R x) (AnyOf R xs) (never_any x xs apart.0) some more (one some refl) (rest more refl))

-- the parent of a row
abbrev pub named_by : TableState → Place → Option ForeignKey → Option Place
named_by s q None = None
named_by s q (Some foreign) = option_map (λ row. (foreign.parent.0, key_of foreign.columns row)) (found_at s q)

abbrev pub parent_of : TableState → Place → Option Place
parent_of s q = option_and_then (λ def. named_by s q def.foreign_key) (slice_get s.schema q.0)

abbrev pub rank : Place → ℕ
rank q = q.0

-- the parent's table stands before
pub earlier : (s : TableState) → RefersBack s.schema → (p q : Place) → parent_of s p ≡ Some q → rank q < rank p
earlier s back p q is = by (slice_get s.schema p.0) refl is
  where
    found : (def : TableDef) (foreign : ForeignKey) → foreign.parent.0 < p.0 → (o : Option Row) → option_map (λ row. (foreign.parent.0, key_of foreign.columns row)) o ≡ Some q → rank q < rank p
    found def foreign lt None h = cc
    found def foreign lt (Some row) h = let e : foreign.parent.0 ≡ q.0 = ap (λ (x : Place). x.0) (same_some h) in omega (arith, lt, e)

    keyed : (def : TableDef) → slice_get s.schema p.0 ≡ Some def → (o : Option ForeignKey) → def.foreign_key ≡ o → named_by s p o ≡ Some q → rank q < rank p
    keyed def d None o_is h = cc
    keyed def d (Some foreign) o_is h = found def foreign (back p.0 def foreign d o_is) (found_at s p) h

    by : (d : Option TableDef) → slice_get s.schema p.0 ≡ d → option_and_then (λ def. named_by s p def.foreign_key) d ≡ Some q → rank q < rank p
    by None d h = cc
    by (Some def) d h = keyed def d def.foreign_key refl h

-- a table whose rows leave with those of another
record IsChild (schema : List TableDef) (t child : TableId) : Type 0 where
  def : TableDef
  foreign : ForeignKey
  def_is : slice_get schema child.0 ≡ Some def
  foreign_is : def.foreign_key ≡ Some foreign
  parent_is : foreign.parent.0 ≡ t.0

abbrev IsBefore : TableId → TableId → Type 0
IsBefore a b = a.0 < b.0

-- one that stands at a place or behind it
abbrev StandsFrom : List TableDef → TableId → ℕ → TableId → Type 0
StandsFrom schema t place child = IsChild schema t child × (place ≤ child.0)

child_here : (schema : List TableDef) (t : TableId) (place : ℕ) (def : TableDef) → slice_get schema place ≡ Some def → Every (λ child. IsChild schema t child × (child.0 ≡ place)) (child_at t place def) × Pairs IsBefore (child_at t place def)
child_here schema t place def d = by (cascades_from t def.foreign_key) refl (nat_lt place (2 ^ 32))
  where
    both_true : (a b : Bool) → (a && b) ≡ true → b ≡ true
    both_true true b e = e
    both_true false b e = cc

    key : (o : Option ForeignKey) → def.foreign_key ≡ o → cascades_from t o ≡ true → IsChild schema t (record { 0 = place })
    key None o_is h = cc
    key (Some foreign) o_is h = record { def = def; foreign = foreign; def_is = d; foreign_is = o_is; parent_is = eqb-true _ _ (both_true foreign.cascade (foreign.parent.0 == t.0) h) }

    by : (b : Bool) → cascades_from t def.foreign_key ≡ b → (c : Bool)
        → Every (λ child. IsChild schema t child × (child.0 ≡ place)) (cond b (option_to_list (cond c (Some (record { 0 = place })) None)) []) × Pairs IsBefore (cond b (option_to_list (cond c (Some (record { 0 = place })) None)) [])
    by false is c = (tt, tt)
    by true is false = (tt, tt)
    by true is true = (((key def.foreign_key refl is, refl), tt), (tt, tt))

children_are : (schema : List TableDef) (t : TableId) (place : ℕ) (defs : List TableDef) → ((k : ℕ) → slice_get schema (place + k) ≡ slice_get defs k) → Every (StandsFrom schema t place) (children_from t place defs) × Pairs IsBefore (children_from t place defs)
children_are schema t place [] at = (tt, tt)
children_are schema t place (def ∷ defs) at =
    let here : slice_get schema place ≡ Some def = ap (slice_get schema) (omega arith) ∙ at 0 in
    let first = child_here schema t place def here in
    let rest = children_are schema t (suc place) defs (λ k. (let next : suc place + k ≡ place + suc k = omega arith in ap (slice_get schema) next ∙ at (suc k))) in (
      every_append (StandsFrom schema t place) (child_at t place def) (children_from t (suc place) defs)
          (every_as (λ child. IsChild schema t child × (child.0 ≡ place)) (StandsFrom schema t place) (λ child h. (h.0, (let e = h.1 in omega (arith, e)))) (child_at t place def) first.0)
          (every_as (StandsFrom schema t (suc place)) (StandsFrom schema t place) (λ child h. (h.0, (let e = h.1 in omega (arith, e)))) (children_from t (suc place) defs) rest.0),
      rising (child_at t place def) (children_from t (suc place) defs) first.0 first.1 rest.0 rest.1,
    )
  where
    behind : (x : TableId) → x.0 ≡ place → (ys : List TableId) → Every (StandsFrom schema t (suc place)) ys → Every (λ b. x.0 < b.0) ys
    behind x e ys h = every_as (StandsFrom schema t (suc place)) (λ b. x.0 < b.0) (λ b k. (let more = k.1 in omega (arith, e, more))) ys h

    rising : (xs ys : List TableId) → Every (λ child. IsChild schema t child × (child.0 ≡ place)) xs → Pairs IsBefore xs → Every (StandsFrom schema t (suc place)) ys → Pairs IsBefore ys → Pairs IsBefore (xs ++ ys)
    rising [] ys h k more pairs = pairs
    rising (x ∷ xs) ys h k more pairs = (every_append (λ b. x.0 < b.0) xs ys k.0 (behind x h.0.1 ys more), rising xs ys h.1 k.1 more pairs)

pub pairs_as : {X : Type 0} (R Q : X → X → Type 0) → ((x y : X) → R x y → Q x y) → (xs : List X) → Pairs R xs → Pairs Q xs
pairs_as R Q f [] h = tt
pairs_as R Q f (x ∷ xs) h = (every_as (R x) (Q x) (f x) xs h.0, pairs_as R Q f xs h.1)

module _ (s : TableState) (keyed : IsKeyed s) (back : RefersBack s.schema) where
  -- at most n steps lead from a place up to another
  abbrev pub Leads : ℕ → Place → Place → Type 0
  Leads n p q = Under rank (parent_of s) n p q

  abbrev pub IsRow : TableId → Row → Type 0
  IsRow t row = found_at s (place_in s.schema t row) ≡ Some row

  pub row_there : (t : TableId) (def : TableDef) (row : Row) → slice_get s.schema t.0 ≡ Some def → fm.get (table_at s t) (key_of def.primary_key row) ≡ Some row → IsRow t row
  row_there t def row d h = there (slice_get s.tables t.0) (ap (λ x. fm.get (table_at s t) (key_in x row)) d ∙ h)
    where
      there : (o : Option Table) → fm.get (unwrap_or o fm.empty) (key_in (slice_get s.schema t.0) row) ≡ Some row → option_and_then (λ m. fm.get m (key_in (slice_get s.schema t.0) row)) o ≡ Some row
      there None h = let none : None ≡ Some row = sym (fm.get-empty key_order (key_in (slice_get s.schema t.0) row)) ∙ h in cc
      there (Some m) h = h

  pub places_apart : (t : TableId) (def : TableDef) (a b : Row) → slice_get s.schema t.0 ≡ Some def → (key_of def.primary_key a ≡ key_of def.primary_key b → ⊥) → place_in s.schema t a ≡ place_in s.schema t b → ⊥
  places_apart t def a b d ne e = ne (sym (ap (λ x. key_in x a) d) ∙ ap (λ (q : Place). q.1) e ∙ ap (λ x. key_in x b) d)

  -- the rows of a table that refer to a key
  module _ (t c : TableId) (child : IsChild s.schema t c) (key : Row) where
    child_parent : (row : Row) → IsRow c row → refers_to key (slice_get s.schema c.0) row ≡ true → parent_of s (place_in s.schema c row) ≡ Some (t.0, key)
    child_parent row there refers =
        let same_key : key_of child.foreign.columns row ≡ key = same_values _ _ (sym (ap (λ o. has_key (foreign_places o) key row) child.foreign_is) ∙ sym (ap (λ o. refers_to key o row) child.def_is) ∙ refers) in
        ap (option_and_then (λ def. named_by s (place_in s.schema c row) def.foreign_key)) child.def_is ∙ ap (named_by s (place_in s.schema c row)) child.foreign_is
        ∙ ap (option_map (λ r. (child.foreign.parent.0, key_of child.foreign.columns r))) there ∙ ap (λ n. Some (n, key_of child.foreign.columns row)) child.parent_is ∙ ap (λ k. Some (t.0, k)) same_key

    under : IsUnderKeys child.def.primary_key (table_at s c)
    under = keyed_at s c child.def keyed child.def_is

    rows_are : Every (λ row. IsRow c row × (parent_of s (place_in s.schema c row) ≡ Some (t.0, key))) (referring s key c)
    rows_are =
        every_as (λ row. (fm.get (table_at s c) (key_of child.def.primary_key row) ≡ Some row) × (refers_to key (slice_get s.schema c.0) row ≡ true)) (λ row. IsRow c row × (parent_of s (place_in s.schema c row) ≡ Some (t.0, key)))
        (λ row h. (row_there c child.def row child.def_is h.0, child_parent row (row_there c child.def row child.def_is h.0) h.1)) (referring s key c)
        (every_filter (λ row. fm.get (table_at s c) (key_of child.def.primary_key row) ≡ Some row) (refers_to key (slice_get s.schema c.0)) (fm.values (table_at s c)) (rows_there child.def.primary_key (table_at s c) under))

    rows_differ : Pairs (λ a b. place_in s.schema c a ≡ place_in s.schema c b → ⊥) (referring s key c)
    rows_differ =
        pairs_as (λ a b. key_of child.def.primary_key a ≡ key_of child.def.primary_key b → ⊥) (λ a b. place_in s.schema c a ≡ place_in s.schema c b → ⊥) (λ a b. places_apart c child.def a b child.def_is) (referring s key c)
        (pairs_filter (λ a b. key_of child.def.primary_key a ≡ key_of child.def.primary_key b → ⊥) (refers_to key (slice_get s.schema c.0)) (fm.values (table_at s c)) (rows_apart child.def.primary_key (table_at s c) under))

  -- below different rows of a table there are different rows
  pub lead_apart : (n : ℕ) (t : TableId) (a b : Row) → (place_in s.schema t a ≡ place_in s.schema t b → ⊥) → (q : Place) → Leads n (place_in s.schema t a) q → Leads n (place_in s.schema t b) q → ⊥
  lead_apart n t a b ne q h k = ne (same_root rank (parent_of s) (earlier s back) n n (place_in s.schema t a) (place_in s.schema t b) q refl h k)

  -- below a child of p in this table
  abbrev Below : ℕ → Place → TableId → Place → Type 0
  Below n p c q = (k : Row) × (parent_of s (c.0, k) ≡ Some p) × Leads n (c.0, k) q

  tables_apart : (n : ℕ) (p : Place) (a b : TableId) → a.0 < b.0 → (q : Place) → Below n p a q → Below n p b q → ⊥
  tables_apart n p a b lt q h k =
      let (r, r_is, le) = between rank (parent_of s) (earlier s back) n n (a.0, h.0) (b.0, k.0) q lt h.2 k.2 in
      let same : r.0 ≡ p.0 = ap (λ (x : Place). x.0) (same_some (sym r_is ∙ k.1)) in
      let before = earlier s back (a.0, h.0) p h.1 in
      absurd (omega (arith, le, same, before))

  behind_root : (n : ℕ) (p : Place) (c : TableId) (q : Place) → Below n p c q → p.0 < q.0
  behind_root n p c q h =
      let low = rank_below rank (parent_of s) (earlier s back) n (c.0, h.0) q h.2 in
      let before = earlier s back (c.0, h.0) p h.1 in
      omega (arith, low, before)

  module _ (n : ℕ) (below : (c : TableId) (row : Row) → IsRow c row → Good s.schema s (Leads n (place_in s.schema c row)) (deleted n s c row)) (t : TableId) (row : Row) (there : IsRow t row) where
    abbrev root : Place
    root = place_in s.schema t row

    of_child : (c : TableId) → IsChild s.schema t c → Good s.schema s (Below n root c) (flat_map (deleted n s c) (referring s root.1 c))
    of_child c child =
        let are = rows_are t c child root.1 in
        good_as s.schema s (AnyOf (λ r. Leads n (place_in s.schema c r)) (referring s root.1 c)) (Below n root c)
        (any_as s.schema s (λ r. Leads n (place_in s.schema c r)) (Below n root c) (referring s root.1 c)
        (every_as (λ r. IsRow c r × (parent_of s (place_in s.schema c r) ≡ Some root)) (λ r. (q : Place) → Leads n (place_in s.schema c r) q → Below n root c q) (λ r h q lead. ((place_in s.schema c r).1, h.1, lead)) (referring s root.1 c) are))
        (flat_map (deleted n s c) (referring s root.1 c))
        (good_flat s.schema s (λ r. Leads n (place_in s.schema c r)) (deleted n s c) (referring s root.1 c)
        (every_as (λ r. IsRow c r × (parent_of s (place_in s.schema c r) ≡ Some root)) (λ r. Good s.schema s (Leads n (place_in s.schema c r)) (deleted n s c r)) (λ r h. below c r h.0) (referring s root.1 c) are)
        (pairs_as (λ a b. place_in s.schema c a ≡ place_in s.schema c b → ⊥) (λ a b. (q : Place) → Leads n (place_in s.schema c a) q → Leads n (place_in s.schema c b) q → ⊥) (λ a b ne. lead_apart n c a b ne) (referring s root.1 c) (rows_differ t c child root.1)))

    of_children : Good s.schema s (AnyOf (Below n root) (children_from t 0 s.schema)) (flat_map (λ c. flat_map (deleted n s c) (referring s root.1 c)) (children_from t 0 s.schema))
    of_children =
        let (are, rise) = children_are s.schema t 0 s.schema (λ k. (let same : 0 + k ≡ k = omega arith in ap (slice_get s.schema) same)) in
        good_flat s.schema s (Below n root) (λ c. flat_map (deleted n s c) (referring s root.1 c)) (children_from t 0 s.schema)
        (every_as (StandsFrom s.schema t 0) (λ c. Good s.schema s (Below n root c) (flat_map (deleted n s c) (referring s root.1 c))) (λ c h. of_child c h.0) (children_from t 0 s.schema) are)
        (pairs_as IsBefore (λ a b. (q : Place) → Below n root a q → Below n root b q → ⊥) (λ a b lt. tables_apart n root a b lt) (children_from t 0 s.schema) rise)

    every_child : {P : TableId → Type 0} → ((c : TableId) → P c) → (cs : List TableId) → Every P cs
    every_child f [] = tt
    every_child f (c ∷ cs) = (f c, every_child f cs)

    never_root : (q : Place) → AnyOf (Below n root) (children_from t 0 s.schema) q → q ≡ root → ⊥
    never_root q h e =
        let lt : root.0 < q.0 = any_as s.schema s (Below n root) (λ x. root.0 < x.0) (children_from t 0 s.schema) (every_child (λ c x below. behind_root n root c x below) (children_from t 0 s.schema)) q h in
        let same : q.0 ≡ root.0 = ap (λ (x : Place). x.0) e in
        absurd (omega (arith, lt, same))

    led : (q : Place) → AnyOf (Below n root) (children_from t 0 s.schema) q ⊎ (q ≡ root) → Leads (suc n) root q
    led q h = elim h [
      | inl deeper ↦ any_as s.schema s (Below n root) (Leads (suc n) root) (children_from t 0 s.schema) (every_child (λ c x below. one_more rank (parent_of s) n (c.0, below.0) x root below.1 below.2) (children_from t 0 s.schema)) q deeper
      | inr same ↦ subst (Leads (suc n) root) (sym same) (itself rank (parent_of s) n root)
    ]

    one_deeper : Good s.schema s (Leads (suc n) root) (deleted (suc n) s t row)
    one_deeper =
        good_as s.schema s (λ q. AnyOf (Below n root) (children_from t 0 s.schema) q ⊎ (q ≡ root)) (Leads (suc n) root) led (deleted (suc n) s t row)
        (good_append s.schema s (AnyOf (Below n root) (children_from t 0 s.schema)) (λ q. q ≡ root) never_root
        (flat_map (λ c. flat_map (deleted n s c) (referring s root.1 c)) (children_from t 0 s.schema)) (Delete t row ∷ []) of_children (good_one s.schema s (λ q. q ≡ root) (Delete t row) refl there))

  pub deleted_good : (n : ℕ) (t : TableId) (row : Row) → IsRow t row → Good s.schema s (Leads n (place_in s.schema t row)) (deleted n s t row)
  deleted_good zero t row there = good_none s.schema s (Leads 0 (place_in s.schema t row))
  deleted_good (suc n) t row there = one_deeper n (λ c r h. deleted_good n c r h) t row there
