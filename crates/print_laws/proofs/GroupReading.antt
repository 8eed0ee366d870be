-- What is read off the tokens of bytes without a bad one: cache groups.
use Rattle.std.proofs.Common.{◌≡◌, ◌*◌, Bool, true, false, List, [], ◌∷◌, length, drop, Option, Some, None, refl, ap, ◌∙◌, arith}
use Rattle.sql_print.specs.sql_query.specs.Trees.{ConditionTree}
use Rattle.sql_print.specs.sql_tokens.specs.declared.kind.Kind.TheVariants as k
use Rattle.sql_print.specs.sql_tokens.specs.Lexing.{Lexeme}
use Rattle.sql_print.specs.sql_grammar.specs.declared.rule.Rule.TheVariants as rules
use Rattle.sql_print.specs.sql_grammar.specs.declared.test.Test.TheVariants.{LifetimeUnit, Manner, Name, Only, Whole, IntervalUnit}
use Rattle.sql_print.specs.sql_grammar.specs.Grammar.{Grammar, Empty, Named, Parts, Part, Token}
use Rattle.sql_print.specs.sql_grammar.specs.Notation.{choice, optional, repeated, the, ◌▸◌}
use Rattle.sql_print.specs.sql_grammar.specs.Groups.{autorefresh, create_group, group_table as table_part, state as state_part, way}
use Rattle.sql_print.specs.sql_grammar.specs.Queries.{filtered as filter_part}
use Rattle.sql_print.specs.sql_subset.specs.declared.stmt.AgingClause.{AgingClause}
use Rattle.sql_print.specs.sql_subset.specs.declared.stmt.AgingRule.{AgingRule}
use Rattle.sql_print.specs.sql_subset.specs.declared.stmt.Autorefresh as autorefreshes
use Rattle.sql_print.specs.sql_subset.specs.declared.stmt.GroupKind.{GroupKind}
use Rattle.sql_print.specs.sql_subset.specs.declared.stmt.GroupKind.TheVariants.{ReadOnly, AsynchronousWritethrough, SynchronousWritethrough, UserManaged}
use Rattle.sql_print.specs.sql_subset.specs.declared.stmt.GroupTable.{GroupTable}
use Rattle.sql_print.specs.sql_subset.specs.Groups.{aged, aging_of, aging_rule_of, as_aging, attribute_of, claused, cycle_of, default_refresh, filtered, filtered_aged, group_kinded, group_named, group_of, group_table, group_table_of, group_tables_of, kind_of, long_of, milliseconds_of, refresh_of, seconds_of, switched, unwritten, with_interval, with_mode, with_state}
use Rattle.sql_print.specs.sql_subset.proofs.Shrinking.{group_table_shrinks}
use Rattle.sql_print.specs.sql_phrases.specs.declared.tables.CacheTable.{CacheTable}
use Rattle.sql_print.specs.sql_phrases.specs.declared.tables.TableAttribute.{TableAttribute}
use Rattle.sql_print.specs.sql_phrases.specs.Reading.{at_comma, begins, first_kind, first_text, name_of, number_of, with_last}
use Rattle.sql_print.specs.sql_phrases.specs.Conditions.{as_filter, condition_of, filter_of}
use Rattle.sql_print.specs.sql_phrases.specs.Tables.{table_of}
use Rattle.print_laws.proofs.Aging.{IsRule}
use Rattle.print_laws.proofs.CachedReading.{cached_table_got}
use Rattle.print_laws.proofs.GroupTables.{IsAging, IsFilter, IsGroupTable}
use Rattle.print_laws.proofs.Groups.{IsGroup, IsRefresh, IsWay}
use Rattle.print_laws.proofs.Lists.{SomeGood}
use Rattle.print_laws.proofs.NumberLaws.{IsCapped, capped_is}
use Rattle.print_laws.proofs.Reading.{Tabled, comma_is, identifier_good, name_got, one_kind, some_more}
use Rattle.print_laws.proofs.State.{Got, State, at_empty, at_named, at_then, at_token, chain_got, got_if, only_passed, only_that, only_this}
use Rattle.print_laws.proofs.TreeReading.{condition_got, filter_got, got_as}

-- spans
abbrev span_part : Grammar
span_part = Token Whole ▸ Token LifetimeUnit

long_got : (ps : Parts) (us : List Lexeme) → State (Part 0 span_part ps) us → Got IsCapped ps (long_of us)
unfolding long_of
long_got ps us s = record { good = capped_is (number_of (first_text us) * seconds_of (first_kind (drop 1 us))); state = at_token 1 us (at_token 0 us (at_then s)) }

cycle_got : (ps : Parts) (us : List Lexeme) → State (Part 0 (optional k.Cycle span_part) ps) us → Got IsCapped ps (cycle_of us)
unfolding cycle_of
cycle_got ps us s = got_if (begins k.Cycle us) _ _ (λ e. long_got ps (drop 1 us) (only_this 0 us refl e s)) (λ e. record { good = omega arith; state = at_empty (only_that us e s) })

-- AGING
abbrev lasting_part : Grammar
lasting_part = Token Whole ▸ Token LifetimeUnit ▸ optional k.Cycle span_part

lasting_got : (ps : Parts) (us : List Lexeme) → State (Part 0 lasting_part ps) us → Got IsCapped (Part 0 (optional k.Cycle span_part) ps) (long_of us)
unfolding long_of
lasting_got ps us s = record { good = capped_is (number_of (first_text us) * seconds_of (first_kind (drop 1 us))); state = at_token 1 us (at_then (at_token 0 us (at_then s))) }

abbrev rule_part : Grammar
rule_part = choice k.Lru Empty (the k.Use ▸ Token Name ▸ the k.Lifetime ▸ lasting_part)

rule_got : (ps : Parts) (us : List Lexeme) → State (Part 0 rule_part ps) us → Got IsRule ps (aging_rule_of us)
rule_got ps us s =
    got_if (begins k.Lru us) _ _ (λ e. record { good = tt; state = at_empty (only_this 0 us refl e s) })
    (λ e. let vs : List Lexeme = drop 1 us in
    let s1 = at_then (at_token 0 us (at_then (only_that us e s))) in
    let ws : List Lexeme = drop 1 vs in
    let l = lasting_got ps (drop 1 ws) (at_token 0 ws (at_then (at_token 0 vs s1))) in
    let c = cycle_got ps (long_of (drop 1 ws)).1 l.state in
    record { good = record { column = identifier_good vs s1.fit; lifetime = l.good; cycle = c.good }; state = c.state })

abbrev IsClause : AgingClause → Type 0
IsClause c = IsRule c.rule

abbrev switch_part : Grammar
switch_part = choice k.On Empty (optional k.Off Empty)

switched_got : (ps : Parts) (r : AgingRule) (us : List Lexeme) → IsRule r → State (Part 0 switch_part ps) us → Got IsClause ps (switched (r, us))
switched_got ps r us h s =
    got_if (begins k.On us) _ _ (λ e. record { good = h; state = at_empty (only_this 0 us refl e s) })
    (λ e. let s1 = only_that us e s in
    got_if (begins k.Off us) _ _ (λ f. record { good = h; state = at_empty (only_this 0 us refl f s1) }) (λ f. record { good = h; state = at_empty (only_that us f s1) }))

aging_got : (ps : Parts) (us : List Lexeme) → State (Part 0 (Named rules.Aging) ps) us → Got IsClause ps (switched (aging_rule_of us))
aging_got ps us s = let r = rule_got (Part 0 switch_part ps) us (at_then (at_named s)) in switched_got ps (aging_rule_of us).0 (aging_rule_of us).1 r.good r.state

-- a table of a group
attribute_again : (kind : GroupKind) (a : Option TableAttribute) → attribute_of kind (attribute_of kind a) ≡ attribute_of kind a
attribute_again ReadOnly a = refl
attribute_again AsynchronousWritethrough a = refl
attribute_again SynchronousWritethrough a = refl
attribute_again UserManaged None = refl
attribute_again UserManaged (Some a) = refl

is_group_table : (kind : GroupKind) (t : CacheTable) (f : Option ConditionTree) (a : Option AgingClause) → Tabled t → IsFilter f → IsAging a → IsGroupTable kind (group_table kind t f a)
is_group_table kind t f a h g i = record { table = h; attribute = attribute_again kind t.attribute; filter = g; aging = i }

abbrev clauses_part : Grammar
clauses_part = choice k.Aging (Named rules.Aging ▸ filter_part) (optional k.Where (Named rules.Cond ▸ optional k.Aging (Named rules.Aging)))

aging_first : (kind : GroupKind) (t : CacheTable) (us : List Lexeme) → begins k.Aging us ≡ true → claused kind (t, us) ≡ aged kind t (as_aging (switched (aging_rule_of (drop 1 us))))
unfolding claused aging_of
aging_first kind t us e = rw e refl

where_first : (kind : GroupKind) (t : CacheTable) (us : List Lexeme) → begins k.Aging us ≡ false → begins k.Where us ≡ true → claused kind (t, us) ≡ filtered kind t (as_filter (condition_of (drop 1 us)))
unfolding claused filter_of
where_first kind t us e f = rw e (rw f refl)

no_clause : (kind : GroupKind) (t : CacheTable) (us : List Lexeme) → begins k.Aging us ≡ false → begins k.Where us ≡ false → claused kind (t, us) ≡ filtered_aged kind t None (aging_of us)
unfolding claused filter_of
no_clause kind t us e f = rw e (rw f refl)

may_age : (ps : Parts) (us : List Lexeme) → State (Part 0 (optional k.Aging (Named rules.Aging)) ps) us → Got IsAging ps (aging_of us)
unfolding aging_of
may_age ps us s =
    got_if (begins k.Aging us) _ _ (λ e. let x = aging_got ps (drop 1 us) (only_this 0 us refl e s) in record { good = x.good; state = x.state }) (λ e. record { good = tt; state = at_empty (only_that us e s) })

none_aged : (us : List Lexeme) → begins k.Aging us ≡ false → aging_of us ≡ (None, us)
unfolding aging_of
none_aged us e = rw e refl

clauses_got : (kind : GroupKind) (t : CacheTable) → Tabled t → (ps : Parts) (us : List Lexeme) → State (Part 0 clauses_part ps) us → Got (IsGroupTable kind) ps (claused kind (t, us))
clauses_got kind t h ps us s = by (begins k.Aging us) (begins k.Where us) refl refl
  where
    by : (a b : Bool) → begins k.Aging us ≡ a → begins k.Where us ≡ b → Got (IsGroupTable kind) ps (claused kind (t, us))
    by true b e f =
        let x = aging_got (Part 0 filter_part ps) (drop 1 us) (at_then (only_this 0 us refl e s)) in
        let c = switched (aging_rule_of (drop 1 us)) in
        let y = filter_got ps c.1 x.state in
        got_as (claused kind (t, us)) (aged kind t (as_aging c)) (aging_first kind t us e) (record { good = is_group_table kind t (filter_of c.1).0 (Some c.0) h y.good x.good; state = y.state })
    by false true e f =
        let x = condition_got _ (drop 1 us) (at_then (only_this 0 us refl f (only_that us e s))) in
        let c = condition_of (drop 1 us) in
        let y = may_age ps c.1 x.state in
        got_as (claused kind (t, us)) (filtered kind t (as_filter c)) (where_first kind t us e f) (record { good = is_group_table kind t (Some c.0) (aging_of c.1).0 h x.good y.good; state = y.state })
    by false false e f =
        got_as (claused kind (t, us)) (group_table kind t None None, us) (no_clause kind t us e f ∙ ap (λ (x : Option AgingClause × List Lexeme). filtered_aged kind t None x) (none_aged us e))
        (record { good = is_group_table kind t None None h tt tt; state = at_empty (only_that us f (only_that us e s)) })

group_table_got : (kind : GroupKind) (ps : Parts) (us : List Lexeme) → State (Part 0 table_part ps) us → Got (IsGroupTable kind) ps (group_table_of kind us)
group_table_got kind ps us s = let t = cached_table_got _ us (at_then s) in clauses_got kind (table_of us).0 t.good ps (table_of us).1 t.state

group_tables_got : (kind : GroupKind) (ps : Parts) (us : List Lexeme) → State (Part 0 (table_part ▸ repeated k.Comma table_part) ps) us → Got (SomeGood (IsGroupTable kind)) ps (group_tables_of kind us)
group_tables_got kind ps us s =
    let t = group_table_got kind _ us (at_then s) in
    chain_got (List GroupTable) GroupTable at_comma with_last (group_table_of kind) 0 (Only k.Comma) table_part ps (SomeGood (IsGroupTable kind)) (IsGroupTable kind) refl comma_is (group_table_shrinks kind) (λ w xs x g z. some_more (IsGroupTable kind) xs x g z)
    (λ vs z. group_table_got kind _ vs z) (length us) ((group_table_of kind us).0 ∷ []) (group_table_of kind us).1 (group_table_shrinks kind us) (t.good, tt) t.state

-- AUTOREFRESH
abbrev Refreshes : autorefreshes.Autorefresh → Type 0
Refreshes r = IsCapped r.interval

abbrev Refreshing : Type 0
Refreshing = autorefreshes.Autorefresh × List Lexeme

mode_got : (ps : Parts) (x : Refreshing) → Refreshes x.0 → State (Part 0 (optional k.Mode (Token Manner)) ps) x.1 → Got Refreshes ps (with_mode x)
mode_got ps x h s = got_if (begins k.Mode x.1) _ _ (λ e. record { good = h; state = at_token 1 x.1 (only_this 0 x.1 refl e s) }) (λ e. record { good = h; state = at_empty (only_that x.1 e s) })

interval_got : (ps : Parts) (x : Refreshing) → Refreshes x.0 → State (Part 0 (optional k.Interval (Token Whole ▸ Token IntervalUnit)) ps) x.1 → Got Refreshes ps (with_interval x)
interval_got ps x h s =
    got_if (begins k.Interval x.1) _ _ (λ e. record { good = capped_is (number_of (first_text (drop 1 x.1)) * milliseconds_of (first_kind (drop 2 x.1))); state = at_token 2 x.1 (at_token 1 x.1 (at_then (only_this 0 x.1 refl e s))) })
    (λ e. record { good = h; state = at_empty (only_that x.1 e s) })

state_got : (ps : Parts) (x : Refreshing) → Refreshes x.0 → State (Part 0 (optional k.State state_part) ps) x.1 → Got Refreshes ps (with_state x)
state_got ps x h s = got_if (begins k.State x.1) _ _ (λ e. record { good = h; state = rest_got (only_this 0 x.1 refl e s) }) (λ e. record { good = h; state = at_empty (only_that x.1 e s) })
  where
    rest_got : State (Part 0 state_part ps) (drop 1 x.1) → State ps (drop 2 x.1)
    rest_got z = by (begins k.On (drop 1 x.1)) refl
      where
        by : (b : Bool) → begins k.On (drop 1 x.1) ≡ b → State ps (drop 2 x.1)
        by true e = at_empty (only_this 1 x.1 refl e z)
        by false e = at_token 1 x.1 (only_that (drop 1 x.1) e z)

none_written : (kind : GroupKind) → IsRefresh kind (unwritten kind)
none_written ReadOnly = omega arith
none_written AsynchronousWritethrough = refl
none_written SynchronousWritethrough = refl
none_written UserManaged = refl

refresh_got : (kind : GroupKind) (ps : Parts) (us : List Lexeme) → State (Part 0 autorefresh ps) us → Got (IsRefresh kind) ps (refresh_of kind us)
refresh_got kind ps us s =
    got_if (begins k.Autorefresh us) _ _
    (λ e. let s1 = at_then (only_this 0 us refl e s) in
    let limit : IsCapped 300000 = omega arith in
    let a = mode_got _ (default_refresh, drop 1 us) limit s1 in
    let b = interval_got _ (with_mode (default_refresh, drop 1 us)) a.good (at_then a.state) in
    let c = state_got ps (with_interval (with_mode (default_refresh, drop 1 us))) b.good b.state in
    record { good = c.good; state = c.state })
    (λ e. record { good = none_written kind; state = at_empty (only_that us e s) })

-- groups
body_got : (d : Bool) (kind : GroupKind) → (d ≡ true → IsWay kind) → (ps : Parts) (us : List Lexeme) → State (Part 0 (Named rules.Group) ps) us → Got IsGroup ps (group_named d kind (name_of (drop 2 us)))
body_got d kind w ps us s =
    let n = name_got 0 _ (drop 2 us) (at_then (at_token 1 us (at_then (at_token 0 us (at_then (at_named s)))))) in
    let vs : List Lexeme = (name_of (drop 2 us)).1 in
    let r = refresh_got kind _ vs (at_then n.state) in
    let ws : List Lexeme = (refresh_of kind vs).1 in
    let t = group_tables_got kind ps (drop 1 ws) (at_token 0 ws (at_then r.state)) in
    record { good = record { name = n.good; way = w; refresh = r.good; tables = t.good }; state = t.state }

way_got : (ps : Parts) (us : List Lexeme) → State (Part 0 way ps) us → Got IsWay ps (kind_of us)
way_got ps us s = by (begins k.Readonly us) (begins k.Asynchronous us) refl refl
  where
    by : (a b : Bool) → begins k.Readonly us ≡ a → begins k.Asynchronous us ≡ b → Got IsWay ps (kind_of us)
    by true b e f = got_as (kind_of us) (ReadOnly, drop 1 us) (rw e refl) (record { good = tt; state = at_empty (only_this 0 us refl e s) })
    by false true e f =
        got_as (kind_of us) (AsynchronousWritethrough, drop 2 us) (rw (e, one_kind k.Asynchronous k.Usermanaged (first_kind us) f refl, f) refl) (record { good = tt; state = at_token 1 us (only_this 0 us refl f (only_that us e s)) })
    by false false e f =
        let s1 = at_then (only_that us f (only_that us e s)) in
        let g : begins k.Synchronous us ≡ true = only_passed s1 in
        got_as (kind_of us) (SynchronousWritethrough, drop 2 us) (rw (e, one_kind k.Synchronous k.Usermanaged (first_kind us) g refl, f) refl) (record { good = tt; state = at_token 1 us (at_token 0 us s1) })

kinded_got : (d : Bool) (ps : Parts) (us : List Lexeme) → State (Part 0 (way ▸ Named rules.Group) ps) us → Got IsGroup ps (group_kinded d (kind_of us))
kinded_got d ps us s = let x = way_got _ us (at_then s) in body_got d (kind_of us).0 (λ e. x.good) ps (kind_of us).1 x.state

dynamic_first : (us : List Lexeme) → begins k.Dynamic us ≡ true → group_of us ≡ group_kinded true (kind_of (drop 1 us))
unfolding group_of
dynamic_first us e = rw e refl

user_first : (us : List Lexeme) → begins k.Usermanaged us ≡ true → group_of us ≡ group_kinded false (UserManaged, drop 1 us)
unfolding group_of
user_first us e = rw (one_kind k.Usermanaged k.Dynamic (first_kind us) e refl, one_kind k.Usermanaged k.Readonly (first_kind us) e refl, e) refl

other_first : (us : List Lexeme) → begins k.Dynamic us ≡ false → group_of us ≡ group_kinded false (kind_of us)
unfolding group_of
other_first us e = rw e refl

-- a group is read
pub group_got : (ps : Parts) (us : List Lexeme) → State (Part 0 create_group ps) us → Got IsGroup ps (group_of us)
group_got ps us s = by (begins k.Dynamic us) (begins k.Usermanaged us) refl refl
  where
    by : (a b : Bool) → begins k.Dynamic us ≡ a → begins k.Usermanaged us ≡ b → Got IsGroup ps (group_of us)
    by true b e f = got_as (group_of us) (group_kinded true (kind_of (drop 1 us))) (dynamic_first us e) (kinded_got true ps (drop 1 us) (only_this 0 us refl e s))
    by false true e f = got_as (group_of us) (group_kinded false (UserManaged, drop 1 us)) (user_first us f) (body_got false UserManaged (λ d. absurd (cc)) ps (drop 1 us) (only_this 0 us refl f (only_that us e s)))
    by false false e f = got_as (group_of us) (group_kinded false (kind_of us)) (other_first us e) (kinded_got false ps us (only_that us f (only_that us e s)))
