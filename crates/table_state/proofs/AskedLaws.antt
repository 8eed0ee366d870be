-- Laws of a copy of some tables.
use Rattle.std.proofs.Common.{◌≡◌, ℕ, zero, suc, ◌+◌, Bool, true, false, cond, Option, Some, None, List, [], ◌∷◌, length, slice_get, unwrap_or, refl, sym, ap, ◌∙◌, arith}
use Rattle.std.specs.Option.{option_map}
use Rattle.std.specs.FinMap.{empty}
use Rattle.table_defs.specs.tier_base.specs.declared.number.TableId.{TableId}
use Rattle.table_state.specs.Copies.{is_one_of, only_asked}
use Rattle.indexed_rows.specs.Rows.{Table}

pub asked_length : (asked : List TableId) (place : ℕ) (tables : List Table) → length (only_asked asked place tables) ≡ length tables
asked_length asked place [] = refl
asked_length asked place (table ∷ tables) = ap suc (asked_length asked (suc place) tables)

asked_get : (asked : List TableId) (place : ℕ) (tables : List Table) (i k : ℕ) → k ≡ place + i
    → slice_get (only_asked asked place tables) i ≡ option_map (λ (table : Table). cond (is_one_of asked (record { 0 = k })) table empty) (slice_get tables i)
asked_get asked place [] i k e = refl
asked_get asked place (table ∷ tables) zero k e = let same : k ≡ place = omega arith in ap (λ n. Some (cond (is_one_of asked (record { 0 = n })) table empty)) (sym same)
asked_get asked place (table ∷ tables) (suc i) k e = asked_get asked (suc place) tables i k (omega arith)

of_none : (b : Bool) (o : Option Table) → unwrap_or (option_map (λ (table : Table). cond b table empty) o) empty ≡ cond b (unwrap_or o empty) empty
of_none true None = refl
of_none false None = refl
of_none b (Some table) = refl

-- the rows of a table in the copy
pub asked_rows : (asked : List TableId) (tables copies : List Table) (t : TableId) → copies ≡ only_asked asked 0 tables
    → unwrap_or (slice_get copies t.0) empty ≡ cond (is_one_of asked t) (unwrap_or (slice_get tables t.0) empty) empty
asked_rows asked tables copies t is =
    ap (λ l. unwrap_or (slice_get l t.0) empty) is ∙ ap (λ o. unwrap_or o empty) (asked_get asked 0 tables t.0 t.0 (omega arith))
    ∙ of_none (is_one_of asked t) (slice_get tables t.0)
