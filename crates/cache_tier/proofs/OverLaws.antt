-- Operations that apply, and operations over rows.
use Rattle.std.proofs.Common.{◌≡◌, Bool, true, false, List, [], ◌∷◌, Option, Some, None, slice_get, refl, ap, ◌∙◌}
use Rattle.std.specs.Option.{option_and_then, option_map, unwrap_or}
use Rattle.std.specs.FinMap.{empty, insert, remove}
use Rattle.table_defs.specs.declared.definition.TableDef.{TableDef}
use Rattle.table_state.specs.declared.operation.Op.{Op}
use Rattle.table_state.specs.declared.operation.Op.TheVariants.{Insert, Update, Delete}
use Rattle.table_state.specs.Changes.{with_table}
use Rattle.table_state.specs.Operations.{applied, applied_all, only_if, with_row, with_change, without_row}
use Rattle.table_state.specs.Tables.{TableState}
use Rattle.evaluator.specs.Cascades.{key_in}
use Rattle.indexed_rows.specs.Rows.{Table}
use Rattle.cache_tier.specs.Facts.{OverIsApplied}
use Rattle.cache_tier.specs.Shown.{all_over, over}

when_made : {A B : Type 0} (f : A → B) (b : Bool) (x : A) (y : B) → option_map f (only_if b x) ≡ Some y → f x ≡ y
when_made f true x y e = cc
when_made f false x y e = cc

one_over : (op : Op) (s s' : TableState) → applied op s ≡ Some s' → over op s ≡ s'
one_over (Insert t row) s s' = by (slice_get s.schema t.0) (slice_get s.tables t.0)
  where
    by : (o : Option TableDef) (p : Option Table)
        → option_and_then (λ def. option_and_then (λ table. option_map (λ new. with_table s t new) (with_row s row def table)) p) o ≡ Some s'
        → with_table s t (insert (unwrap_or p empty) (key_in o row) row) ≡ s'
    by (Some def) (Some table) e = when_made (with_table s t) _ (insert table (key_in (Some def) row) row) s' e
    by (Some def) None e = cc
    by None p e = cc
one_over (Update t old new) s s' = by (slice_get s.schema t.0) (slice_get s.tables t.0)
  where
    by : (o : Option TableDef) (p : Option Table)
        → option_and_then (λ def. option_and_then (λ table. option_map (λ now. with_table s t now) (with_change s old new def table)) p) o ≡ Some s'
        → with_table s t (insert (unwrap_or p empty) (key_in o new) new) ≡ s'
    by (Some def) (Some table) e = when_made (with_table s t) _ (insert table (key_in (Some def) new) new) s' e
    by (Some def) None e = cc
    by None p e = cc
one_over (Delete t old) s s' = by (slice_get s.schema t.0) (slice_get s.tables t.0)
  where
    by : (o : Option TableDef) (p : Option Table)
        → option_and_then (λ def. option_and_then (λ table. option_map (λ now. with_table s t now) (without_row s t old def table)) p) o ≡ Some s'
        → with_table s t (remove (unwrap_or p empty) (key_in o old)) ≡ s'
    by (Some def) (Some table) e = when_made (with_table s t) _ (remove table (key_in (Some def) old)) s' e
    by (Some def) None e = cc
    by None p e = cc

behind : (op : Op) (ops : List Op) (s s' : TableState) → ((mid : TableState) → applied_all ops mid ≡ Some s' → all_over ops mid ≡ s') → (o : Option TableState) → applied op s ≡ o → option_and_then (applied_all ops) o ≡ Some s' → all_over ops (over op s) ≡ s'
behind op ops s s' rest None t e = cc
behind op ops s s' rest (Some mid) t e = ap (all_over ops) (one_over op s mid t) ∙ rest mid e

pub over_is_applied : OverIsApplied
over_is_applied [] s s' e = cc
over_is_applied (op ∷ ops) s s' e = behind op ops s s' (λ mid. over_is_applied ops mid s') (applied op s) refl e
