-- The row of the virtual state at a key is what was written last there.
use Rattle.std.proofs.Common.{◌≡◌, Bool, true, false, cond, ◌&&◌, Option, Some, List, [], ◌∷◌, ◌++◌, slice_get, unwrap_or, refl, sym, ap, subst, ◌∙◌}
use Rattle.std.specs.Option.{option_and_then}
use Rattle.std.specs.List.{flat_map, list_all}
use Rattle.std.proofs.lemmas.List.Folds.{list_all-append}
use Rattle.tier_base.specs.declared.number.TableId.{TableId}
use Rattle.table_defs.specs.declared.definition.TableDef.{TableDef}
use Rattle.table_state.specs.declared.history.Sealed.{Sealed}
use Rattle.table_state.specs.declared.operation.Op.{Op}
use Rattle.table_state.specs.Footprints.{is_among, rows_of, written_by, written_key}
use Rattle.table_state.specs.Histories.{no_tables, state_of}
use Rattle.table_state.specs.Operations.{applied, applied_all, table_of}
use Rattle.table_state.specs.Tables.{TableState}
use Rattle.order_laws.specs.Commits.{applied_sealed, is_op_on, pending, virtual_state}
use Rattle.order_laws.specs.Effects.{row_at, row_left_by}
use Rattle.order_laws.specs.Sides.{all_on, are_on}
use Rattle.order_laws.proofs.EffectLaws.{has_written}
use Rattle.order_laws.proofs.NextLaws.{all_defined}
use Rattle.order_laws.proofs.TruthLaws.{both_true, same_some}
use Rattle.order_laws.specs.OpenWrites.{AllApply}
use Rattle.cache_tier.specs.Shown.{all_over, written_on}
use Rattle.cache_tier.specs.TierStates.{Session, session_of}
use Rattle.cache_tier.specs.Worlds.{World}
use Rattle.cache_tier.proofs.OverLaws.{over_is_applied}
use Rattle.cache_tier.specs.StandingBetween.{Stands, are_written_through, own_writes}
use Rattle.cache_tier.specs.Pending.{last_written, pending_ops}
use Rattle.cache_tier.proofs.GroupTables.{through_on}
use Rattle.cache_tier.proofs.PartLaws.{Row, between}
use Rattle.cache_tier.proofs.SessionLaws.{known}
use Rattle.cache_tier.proofs.SessionLists.{all_at, among_sessions, applies_at, own_middle}
use Rattle.cache_tier.proofs.ShownTables.{live_of}

one_written : (op : Op) (s n : TableState) (t : TableId) (key : Row) → applied op s ≡ Some n → row_at n t key ≡ cond (is_among (written_by s.schema op) (record { table = t; key = key })) (row_left_by op) (row_at s t key)
one_written op s n t key is = by (is_among (written_by s.schema op) (record { table = t; key = key })) refl
  where
    by : (b : Bool) → is_among (written_by s.schema op) (record { table = t; key = key }) ≡ b → row_at n t key ≡ cond b (row_left_by op) (row_at s t key)
    by true e = (has_written op s n is).writes (record { table = t; key = key }) e
    by false e = (has_written op s n is).keeps (record { table = t; key = key }) e

pub all_written : (ops : List Op) (s n : TableState) (t : TableId) (key : Row) → applied_all ops s ≡ Some n → row_at n t key ≡ last_written s.schema t key ops (row_at s t key)
all_written [] s n t key is = let e : s ≡ n = Prim.cc in ap (λ (x : TableState). row_at x t key) (sym e)
all_written (op ∷ ops) s n t key is =
    let (x, x_is, x_on) = between (applied_all ops) (applied op s) n is in
    all_written ops x n t key x_on
    ∙ ap (λ d. last_written d t key ops (row_at x t key)) (Rattle.table_state.proofs.IndependenceLaws.stays_defined op s x x_is)
    ∙ ap (last_written s.schema t key ops) (one_written op s x t key x_is)

last_append : (schema : List TableDef) (t : TableId) (key : Row) (a b : List Op) (found : Option Row) → last_written schema t key (a ++ b) found ≡ last_written schema t key b (last_written schema t key a found)
last_append schema t key [] b found = refl
last_append schema t key (op ∷ a) b found = last_append schema t key a b (cond (is_among (written_by schema op) (record { table = t; key = key })) (row_left_by op) found)

sealed_written : (xs : List Sealed) (s n : TableState) (t : TableId) (key : Row) → applied_sealed xs s ≡ Some n → row_at n t key ≡ last_written s.schema t key (flat_map (λ (x : Sealed). x.ops) xs) (row_at s t key)
sealed_written [] s n t key is = let e : s ≡ n = Prim.cc in ap (λ (x : TableState). row_at x t key) (sym e)
sealed_written (x ∷ xs) s n t key is =
    let (y, y_is, y_on) = between (applied_sealed xs) (applied_all x.ops s) n is in
    sealed_written xs y n t key y_on
    ∙ ap (λ d. last_written d t key (flat_map (λ (z : Sealed). z.ops) xs) (row_at y t key)) (all_defined x.ops s y y_is)
    ∙ ap (last_written s.schema t key (flat_map (λ (z : Sealed). z.ops) xs)) (all_written x.ops s y t key y_is)
    ∙ sym (last_append s.schema t key x.ops (flat_map (λ (z : Sealed). z.ops) xs) (row_at s t key))

-- over two schemas that have the same definitions of the tables
last_alike : (on : List TableId) (a b : List TableDef) (t : TableId) (key : Row) (ops : List Op) (found : Option Row) → ((u : TableId) → Rattle.table_state.specs.Copies.is_one_of on u ≡ true → slice_get a u.0 ≡ slice_get b u.0) → are_on on ops ≡ true → last_written a t key ops found ≡ last_written b t key ops found
last_alike on a b t key [] found same mine = refl
last_alike on a b t key (op ∷ ops) found same mine =
    let (first, rest) = both_true (is_op_on on op) (are_on on ops) mine in
    ap (λ d. last_written a t key ops (cond (is_among (flat_map (written_key (table_of op) d) (rows_of op)) (record { table = t; key = key })) (row_left_by op) found)) (same (table_of op) first)
    ∙ last_alike on a b t key ops (cond (is_among (written_by b op) (record { table = t; key = key })) (row_left_by op) found) same rest

all_ops_on : (on : List TableId) (xs : List Sealed) → all_on on xs ≡ true → are_on on (flat_map (λ (x : Sealed). x.ops) xs) ≡ true
all_ops_on on [] e = refl
all_ops_on on (x ∷ xs) e =
    let (first, rest) = both_true (are_on on x.ops) (all_on on xs) e in
    list_all-append (is_op_on on) x.ops (flat_map (λ (z : Sealed). z.ops) xs) ∙ (λ i. first i && all_ops_on on xs rest i)

-- The row of the virtual state.
pub virtual_row : (w : World) (backing v : TableState) (t : TableId) (key : Row) → Stands w → state_of w.history ≡ Some backing → virtual_state w.history w.tier.log ≡ Some v
    → row_at v t key ≡ last_written w.tier.schema t key (pending_ops w) (row_at backing t key)
virtual_row w backing v t key x leaves is =
    let virtual = x.flow.stand.over.virtual in
    let k = known w x in
    let leads : applied_sealed (pending w.history w.tier.log) backing ≡ Some v = ap (option_and_then (applied_sealed (pending w.history w.tier.log))) (sym leaves) ∙ is in
    let same : virtual ≡ v = same_some (sym x.flow.stand.over.virtual_is ∙ is) in
    let schemas : v.schema ≡ backing.schema = Rattle.order_laws.proofs.CommittingLaws.schemas_same w.history w.tier.log backing v leaves is in
    sealed_written (pending w.history w.tier.log) backing v t key leads
    ∙ ap (λ d. last_written d t key (flat_map (λ (z : Sealed). z.ops) (pending w.history w.tier.log)) (row_at backing t key)) (sym schemas ∙ ap (λ (z : TableState). z.schema) (sym same))
    ∙ sym (last_alike (live_of w.tier) w.tier.schema virtual.schema t key (flat_map (λ (z : Sealed). z.ops) (pending w.history w.tier.log)) (row_at backing t key) (λ u e. k.part.defined u e) (all_ops_on (live_of w.tier) (pending w.history w.tier.log) x.flow.stand.live))
    ∙ ap (λ xs. last_written w.tier.schema t key (flat_map (λ (z : Sealed). z.ops) xs) (row_at backing t key)) x.flow.rest

-- With a session's own writes over it.
pub written_row : (w : World) (s : Session) (backing : TableState) (t : TableId) (key : Row) → Stands w → session_of w.tier s.label ≡ Some s → state_of w.history ≡ Some backing
    → row_at (written_on s w.history w.tier) t key ≡ last_written w.tier.schema t key (pending_ops w ++ s.own) (row_at backing t key)
written_row w s backing t key x there leaves =
    let v = x.flow.stand.over.virtual in
    let k = known w x in
    let among = among_sessions w.tier.sessions s x.sessions.labels there in
    let owns : own_writes w.tier.sessions ≡ own_writes among.before ++ s.own ∷ own_writes among.behind = ap own_writes among.is ∙ own_middle among.before s among.behind in
    let its = applies_at v (own_writes among.before) s.own (own_writes among.behind) (subst (AllApply v) owns x.sessions.virtual) in
    let through = all_at (are_written_through w.tier.groups) (own_writes among.before) s.own (own_writes among.behind) (ap (list_all (are_written_through w.tier.groups)) (sym owns) ∙ x.sessions.through) in
    ap (λ (z : TableState). row_at z t key) (ap (λ o. all_over s.own (unwrap_or o no_tables)) k.v_is ∙ over_is_applied s.own v its.top its.leads)
    ∙ all_written s.own v its.top t key its.leads
    ∙ sym (last_alike (live_of w.tier) w.tier.schema v.schema t key s.own (row_at v t key) (λ u e. k.part.defined u e) (through_on w.tier.groups s.own ∙ through))
    ∙ ap (last_written w.tier.schema t key s.own) (virtual_row w backing v t key x leaves k.v_is)
    ∙ sym (last_append w.tier.schema t key (pending_ops w) s.own (row_at backing t key))
