-- Laws of names over the tables that a session sees.
use Rattle.std.proofs.Common.{◌≡◌, ℕ, zero, suc, ◌+◌, ◌<◌, ◌≤◌, ◌^◌, ◌==◌, Bool, true, false, not, ◌&&◌, cond, Option, Some, None, is_some, Ok, Err, List, [], ◌∷◌, ◌++◌, length, get_or, take, drop, slice_get, nat_lt, add-one, refl, sym, ap, subst, ◌∙◌, arith}
use Rattle.std.specs.List.{All, position_from}
use Rattle.std.specs.Option.{option_and_then}
use Rattle.std.proofs.lemmas.Bool.{ne_eqb}
use Rattle.std.proofs.lemmas.Iterator.Adapters.{position_from-zero}
use Rattle.std.proofs.lemmas.List.{drop_all, drop_more, take_all, take_more}
use Rattle.std.proofs.lemmas.List.Elements.{All-cons, All-head, All-tail}
use Rattle.std.proofs.lemmas.Option.{get_or_from_slice_get}
use Rattle.tier_base.specs.declared.code.Code.TheVariants as code
use Rattle.tier_base.specs.declared.number.TableId.{TableId}
use Rattle.row_types.specs.declared.rule.Refused.{Refused}
use Rattle.row_types.specs.declared.rule.Refused.TheVariants as refused
use Rattle.row_types.specs.declared.rule.Rule.{Rule}
use Rattle.table_defs.specs.declared.definition.TableDef.{TableDef}
use Rattle.table_defs.specs.Names.{place_of_table, same_name, table_id}
use Rattle.evaluator.specs.Rules.{about, then_do}
use Rattle.resolution.specs.Queries.{query_seen, resolved_in, resolved_query}
use Rattle.resolution.specs.Results.{Gives, both}
use Rattle.resolution.specs.Scopes.{columns_from, known_table, scope_of, table_named, tables_of}
use Rattle.resolution.specs.Writes.{change_seen, named_at, named_on, named_write, resolved_write, table_of}
use Rattle.sql_query.specs.declared.query.FromTable.{FromTable}
use Rattle.sql_query.specs.declared.query.Query.{Query}
use Rattle.sql_query.specs.declared.write.Write.{Write}
use Rattle.cache_tier.specs.Groups.{Group, is_table_of}
use Rattle.cache_tier.specs.Routes.{hidden, hidden_where, visible}
use Rattle.cache_tier.specs.TierStates.{Tier}
use Rattle.tier_statements.specs.Seen.{HasGroups}
use Rattle.tier_statements.specs.Sights.{FindsTable, FindsTables, StandsForOne, cached_alone}

-- what a session sees at its level

hidden_same : (p q : TableId → Bool) → ((x : TableId) → p x ≡ q x) → (place : ℕ) (defs : List TableDef) → hidden_where p place defs ≡ hidden_where q place defs
hidden_same p q same place [] = refl
hidden_same p q same place (def ∷ defs) =
    ap (λ b. cond b (hidden def) def ∷ hidden_where p (suc place) defs) (same (record { 0 = place }))
    ∙ ap (λ l. cond (q (record { 0 = place })) (hidden def) def ∷ l) (hidden_same p q same (suc place) defs)

pub seen_at_0 : (schema : List TableDef) (groups : List Group) (t : Tier) → HasGroups schema groups t → (level : ℕ) → level ≡ 0 → visible level t ≡ cached_alone groups schema
seen_at_0 schema groups t has level zero_is =
    ap (λ n. visible n t) zero_is
    ∙ hidden_same (λ x. not (is_table_of (λ g. true) t.groups x)) (λ x. not (is_table_of (λ g. true) groups x)) (λ x. ap not (has.cached x)) 0 t.schema
    ∙ ap (cached_alone groups) has.definitions

pub seen_above : (schema : List TableDef) (groups : List Group) (t : Tier) → HasGroups schema groups t → (level : ℕ) → (level ≡ 0 → ⊥) → visible level t ≡ schema
seen_above schema groups t has level above =
    ap (λ b. cond b (hidden_where (λ table. not (is_table_of (λ g. true) t.groups table)) 0 t.schema) t.schema) (ne_eqb level 0 above) ∙ has.definitions

-- hidden definitions, from a place on

module _ (cached : TableId → Bool) where
  abbrev pub Hides : TableId → Bool
  Hides table = not (cached table)

  kept_at : (place i k : ℕ) (defs : List TableDef) → k ≡ place + i → cached (record { 0 = k }) ≡ true → slice_get (hidden_where Hides place defs) i ≡ slice_get defs i
  kept_at place i k [] is here = refl
  kept_at place zero k (def ∷ defs) is here =
      let same : k ≡ place = omega (arith, is) in
      ap (λ b. Some (cond (not b) (hidden def) def)) (ap (λ n. cached (record { 0 = n })) (sym same) ∙ here)
  kept_at place (suc i) k (def ∷ defs) is here = kept_at (suc place) i k defs (omega (arith, is)) here

  module _ (name : List ℕ) where
    abbrev pub has_name : TableDef → Bool
    has_name def = same_name def.name name

    no_hidden : (def : TableDef) → (length name == 0) ≡ false → has_name (hidden def) ≡ false
    no_hidden def named = by name named
      where
        by : (name : List ℕ) → (length name == 0) ≡ false → same_name [] name ≡ false
        by [] e = cc
        by (x ∷ xs) e = refl

    module _ (place : ℕ) (def : TableDef) where
      at_place : (rest : List TableDef) → position_from has_name place (hidden_where Hides place (def ∷ rest))
          ≡ cond (has_name (cond (not (cached (record { 0 = place }))) (hidden def) def)) (Some place) (position_from has_name (place + 1) (hidden_where Hides (place + 1) rest))
      at_place rest =
          ap (λ n. cond (has_name (cond (not (cached (record { 0 = place }))) (hidden def) def)) (Some place) (position_from has_name (place + 1) (hidden_where Hides n rest))) (sym (add-one place))

      tests : (length name == 0) ≡ false → has_name (cond (not (cached (record { 0 = place }))) (hidden def) def) ≡ (has_name def && cached (record { 0 = place }))
      tests named = by (cached (record { 0 = place })) (has_name def) refl
        where
          by : (c h : Bool) → has_name def ≡ h → has_name (cond (not c) (hidden def) def) ≡ (h && c)
          by true true e = e
          by true false e = e
          by false true e = no_hidden def named
          by false false e = no_hidden def named

      module _ (named : (length name == 0) ≡ false) (schema : List TableDef) (lt : place < length schema) (def_is : slice_get schema place ≡ Some def) where
        split : drop place schema ≡ def ∷ drop (place + 1) schema
        split = drop_more schema place def lt ∙ ap (λ x. x ∷ drop (place + 1) schema) (get_or_from_slice_get schema place def def def_is)

        step : position_from has_name place (hidden_where Hides place (drop place schema))
            ≡ cond (has_name def && cached (record { 0 = place })) (Some place) (position_from has_name (place + 1) (hidden_where Hides (place + 1) (drop (place + 1) schema)))
        step =
            ap (λ l. position_from has_name place (hidden_where Hides place l)) split
            ∙ at_place (drop (place + 1) schema)
            ∙ ap (λ b. cond b (Some place) (position_from has_name (place + 1) (hidden_where Hides (place + 1) (drop (place + 1) schema)))) (tests named)

    abbrev pub Left : List TableDef → ℕ → Type 0
    Left schema place = position_from has_name 0 (hidden_where Hides 0 schema) ≡ position_from has_name place (hidden_where Hides place (drop place schema))

    module _ (named : (length name == 0) ≡ false) (schema : List TableDef) (place : ℕ) (lt : place < length schema) (left : Left schema place) (here : Bool)
        (here_is : (def : TableDef) → slice_get schema place ≡ Some def → here ≡ (has_name def && cached (record { 0 = place }))) where
      its_def : (def : TableDef) × (slice_get schema place ≡ Some def)
      its_def = found schema place lt
        where
          found : {A : Type 0} (xs : List A) (i : ℕ) → i < length xs → (x : A) × (slice_get xs i ≡ Some x)
          found [] i lt = absurd (omega arith)
          found (x ∷ xs) zero lt = (x, refl)
          found (x ∷ xs) (suc i) lt = found xs i (omega arith)

      next_is : position_from has_name 0 (hidden_where Hides 0 schema) ≡ cond here (Some place) (position_from has_name (place + 1) (hidden_where Hides (place + 1) (drop (place + 1) schema)))
      next_is =
          left ∙ step place its_def.0 named schema lt its_def.1
          ∙ ap (λ b. cond b (Some place) (position_from has_name (place + 1) (hidden_where Hides (place + 1) (drop (place + 1) schema)))) (sym (here_is its_def.0 its_def.1))

      pub passed : here ≡ false → Left schema (place + 1)
      passed e = next_is ∙ ap (λ b. cond b (Some place) (position_from has_name (place + 1) (hidden_where Hides (place + 1) (drop (place + 1) schema)))) e

      pub found_at : here ≡ true → place < 2 ^ 32 → Some (record { 0 = place }) ≡ place_of_table (hidden_where Hides 0 schema) name
      found_at e few =
          sym (ap (option_and_then table_id) (position_from-zero has_name (hidden_where Hides 0 schema) ∙ next_is ∙ ap (λ b. cond b (Some place) (position_from has_name (place + 1) (hidden_where Hides (place + 1) (drop (place + 1) schema)))) e)
          ∙ ap (λ b. cond b (Some (record { 0 = place })) None) (below place (2 ^ 32) few))
        where
          below : (n m : ℕ) → n < m → nat_lt n m ≡ true
          below n m lt = grind (arith, lt)

      pub is_cached : here ≡ true → cached (record { 0 = place }) ≡ true
      is_cached e = both_true (has_name its_def.0) (cached (record { 0 = place })) (sym (here_is its_def.0 its_def.1) ∙ e)
        where
          both_true : (a b : Bool) → (a && b) ≡ true → b ≡ true
          both_true true b e = e
          both_true false b e = cc

    pub none_left : (schema : List TableDef) (place : ℕ) → length schema ≤ place → Left schema place → None ≡ place_of_table (hidden_where Hides 0 schema) name
    none_left schema place past left =
        sym (ap (option_and_then table_id) (position_from-zero has_name (hidden_where Hides 0 schema) ∙ left
        ∙ ap (λ l. position_from has_name place (hidden_where Hides place l)) (drop_all place schema past)))

  -- a name that stands for the first table of its name, which is cached
  pub one_table : (schema : List TableDef) (name : List ℕ) (table first : TableId) → Some table ≡ place_of_table (hidden_where Hides 0 schema) name → cached table ≡ true
      → Some first ≡ place_of_table schema name → first.0 ≡ table.0 → StandsForOne (hidden_where Hides 0 schema) schema name
  one_table schema name table first seen_is here first_is same =
      let both : place_of_table (hidden_where Hides 0 schema) name ≡ place_of_table schema name = sym seen_is ∙ ap (λ n. Some (record { 0 = n })) (sym same) ∙ first_is in
      record {
        table = both;
        definition =
            ap (option_and_then (λ t. slice_get (hidden_where Hides 0 schema) t.0)) (sym seen_is)
            ∙ kept_at 0 table.0 table.0 schema (omega arith) here
            ∙ ap (option_and_then (λ t. slice_get schema t.0)) (seen_is ∙ both);
        there = ap is_some (sym seen_is);
      }

-- statements whose names stand for the same tables

module _ (seen schema : List TableDef) where
  tables_are : (tables : List FromTable) → All (λ f. StandsForOne seen schema f.table) tables → tables_of seen tables ≡ tables_of schema tables
  tables_are [] all = refl
  tables_are (f ∷ fs) all =
      let one = All-head (λ f. StandsForOne seen schema f.table) f fs all in
      ap (λ o. both (λ t ts. t ∷ ts) (known_table f.table o) (tables_of seen fs)) one.table
      ∙ ap (both (λ t ts. t ∷ ts) (known_table f.table (place_of_table schema f.table))) (tables_are fs (All-tail (λ f. StandsForOne seen schema f.table) f fs all))

  scope_is : (tables : List FromTable) → All (λ f. StandsForOne seen schema f.table) tables → scope_of seen tables ≡ scope_of schema tables
  scope_is [] all = refl
  scope_is (f ∷ fs) all =
      let one = All-head (λ f. StandsForOne seen schema f.table) f fs all in
      ap (λ d. columns_from f d ++ scope_of seen fs) one.definition
      ∙ ap (λ l. columns_from f (table_named schema f.table) ++ l) (scope_is fs (All-tail (λ f. StandsForOne seen schema f.table) f fs all))

  pub query_is : (q : Query) → All (λ f. StandsForOne seen schema f.table) q.tables → resolved_query seen q ≡ resolved_query schema q
  query_is q all =
      ap (λ scope. then_do (λ tables. resolved_in tables scope q) (tables_of seen q.tables)) (scope_is q.tables all)
      ∙ ap (then_do (λ tables. resolved_in tables (scope_of schema q.tables) q)) (tables_are q.tables all)

  pub query_refused : (q : Query) (e : Refused) → FindsTables seen schema q.tables (Err e) → Gives query_seen (resolved_query seen q) (Err e)
  query_refused q (refused.Rule rule) is = ap (then_do (λ tables. resolved_in tables (scope_of seen q.tables) q)) is
  query_refused q refused.Memory is = tt

  -- the first name that isn't there
  pub first_unknown : (tables : List FromTable) (i : ℕ) (f : FromTable) (rule : Rule) → i < length tables → f ≡ get_or tables i f → All (λ f. StandsForOne seen schema f.table) (take i tables)
      → place_of_table seen f.table ≡ None → rule ≡ about code.UnknownTable f.table → tables_of seen tables ≡ Err rule
  first_unknown [] i f rule lt is all none rule_is = absurd (omega arith)
  first_unknown (g ∷ gs) zero f rule lt is all none rule_is =
      ap (λ o. both (λ t ts. t ∷ ts) (known_table g.table o) (tables_of seen gs)) (ap (λ (x : FromTable). place_of_table seen x.table) (sym is) ∙ none)
      ∙ ap (λ (x : FromTable). Err (about code.UnknownTable x.table)) (sym is) ∙ ap Err (sym rule_is)
  first_unknown (g ∷ gs) (suc i) f rule lt is all none rule_is =
      let one = All-head (λ f. StandsForOne seen schema f.table) g (take i gs) all in
      by (place_of_table seen g.table) one.there (first_unknown gs i f rule (omega arith) is (All-tail (λ f. StandsForOne seen schema f.table) g (take i gs) all) none rule_is)
    where
      by : (o : Option TableId) → is_some o ≡ true → tables_of seen gs ≡ Err rule → both (λ t ts. t ∷ ts) (known_table g.table o) (tables_of seen gs) ≡ Err rule
      by None e rest = cc
      by (Some t) e rest = ap (both (λ t ts. t ∷ ts) (Ok t)) rest

  pub all_refused : (tables : List FromTable) (i : ℕ) (f : FromTable) → i < length tables → f ≡ get_or tables i f → All (λ f. StandsForOne seen schema f.table) (take i tables)
      → (e : Refused) → FindsTable seen schema f.table (Err e) → FindsTables seen schema tables (Err e)
  all_refused tables i f lt is all (refused.Rule rule) finds = first_unknown tables i f rule lt is all finds.0 finds.1
  all_refused tables i f lt is all refused.Memory finds = tt

  pub all_done : (tables : List FromTable) (i : ℕ) → length tables ≤ i → All (λ f. StandsForOne seen schema f.table) (take i tables) → All (λ f. StandsForOne seen schema f.table) tables
  all_done tables i past all = subst (All (λ f. StandsForOne seen schema f.table)) (take_all i tables past) all

  pub all_more : (tables : List FromTable) (i : ℕ) (f : FromTable) → i < length tables → f ≡ get_or tables i f → All (λ f. StandsForOne seen schema f.table) (take i tables) → StandsForOne seen schema f.table
      → All (λ f. StandsForOne seen schema f.table) (take (i + 1) tables)
  all_more tables i f lt is all one =
      subst (All (λ f. StandsForOne seen schema f.table)) (sym (take_more tables i f lt ∙ ap (λ y. take i tables ++ y ∷ []) (sym is)))
      (behind (take i tables) all)
    where
      behind : (xs : List FromTable) → All (λ f. StandsForOne seen schema f.table) xs → All (λ f. StandsForOne seen schema f.table) (xs ++ f ∷ [])
      behind [] all = All-cons (λ f. StandsForOne seen schema f.table) f [] one all
      behind (x ∷ xs) all = All-cons (λ f. StandsForOne seen schema f.table) x (xs ++ f ∷ []) (All-head (λ f. StandsForOne seen schema f.table) x xs all) (behind xs (All-tail (λ f. StandsForOne seen schema f.table) x xs all))

  named_by : (w : Write) (a b : Option TableId) → a ≡ b → option_and_then (λ t. slice_get seen t.0) a ≡ option_and_then (λ t. slice_get schema t.0) b → named_at seen w a ≡ named_at schema w b
  named_by w None None e d = refl
  named_by w None (Some t) e d = cc
  named_by w (Some t) None e d = cc
  named_by w (Some t) (Some u) e d = let same : t ≡ u = cc in ap (named_on w t) d ∙ ap (λ x. named_on w x (slice_get schema u.0)) same

  pub write_is : (w : Write) → StandsForOne seen schema (table_of w) → resolved_write seen w ≡ resolved_write schema w
  unfolding named_write
  write_is w one = ap (then_do (λ c. c)) (named_by w (place_of_table seen (table_of w)) (place_of_table schema (table_of w)) one.table one.definition)

  pub write_refused : (w : Write) (e : Refused) → FindsTable seen schema (table_of w) (Err e) → Gives change_seen (resolved_write seen w) (Err e)
  unfolding named_write
  write_refused w (refused.Rule rule) is =
      ap (λ o. then_do (λ c. c) (named_at seen w o)) is.0 ∙ ap Err (sym is.1)
  write_refused w refused.Memory is = tt
