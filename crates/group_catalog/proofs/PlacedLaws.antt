-- The tables of a definition, one after the other.
use Rattle.std.proofs.Common.{◌≡◌, ◌∙◌, ℕ, ◌+◌, ◌<◌, List, [], ◌∷◌, ◌++◌, Some, None, Bool, true, false, ap, refl, sym, length, get_or, drop, take, if◌then◌else◌}
use Rattle.std.specs.List.{flat_map}
use Rattle.std.specs.Option.{is_some}
use Rattle.std.proofs.lemmas.Grind.{take_at_read}
use Rattle.std.proofs.lemmas.List.{at_drop_more}
use Rattle.tier_base.specs.declared.code.Code.TheVariants as code
use Rattle.table_defs.specs.declared.definition.TableDef.{TableDef}
use Rattle.table_defs.specs.Names.{place_of_table}
use Rattle.sql_subset.specs.declared.stmt.GroupTable.{GroupTable}
use Rattle.cache_tier.specs.Definitions.{first_unknown, names_in, placed_from, placed_if}
use Rattle.cache_tier.specs.Rules.{named}

-- names that there are say nothing of those behind them
pub unknown_append : (schema : List TableDef) (xs ys : List (List ℕ)) → first_unknown schema xs ≡ None
    → first_unknown schema (xs ++ ys) ≡ first_unknown schema ys
unknown_append schema [] ys e = refl
unknown_append schema (x ∷ xs) ys e =
    by (is_some (place_of_table schema x)) e (λ (h : first_unknown schema xs ≡ None). unknown_append schema xs ys h)
  where
    by : (b : Bool) → (if b then first_unknown schema xs else Some (named code.UnknownTable x)) ≡ None
        → (first_unknown schema xs ≡ None → first_unknown schema (xs ++ ys) ≡ first_unknown schema ys)
        → (if b then first_unknown schema (xs ++ ys) else Some (named code.UnknownTable x)) ≡ first_unknown schema ys
    by true e rest = rest e
    by false e rest = cc

abbrev pub names_of_all : List GroupTable → List (List ℕ)
names_of_all gs = flat_map (λ (g : GroupTable). names_in g.table) gs

-- one table more whose names there are
pub known_more : (schema : List TableDef) (gs : List GroupTable) (i : ℕ) (g : GroupTable) → i < length gs
    → g ≡ get_or gs i g → first_unknown schema (names_in g.table) ≡ None
    → first_unknown schema (names_of_all (drop i gs)) ≡ first_unknown schema (names_of_all (drop (i + 1) gs))
known_more schema gs i g lt is e =
    at_drop_more (λ (xs : List GroupTable). first_unknown schema (names_of_all xs)) gs i g lt
    ∙ ap (λ (x : GroupTable). first_unknown schema (names_of_all (x ∷ drop (i + 1) gs))) (sym is)
    ∙ unknown_append schema (names_in g.table) (names_of_all (drop (i + 1) gs)) e

-- one table more that is placed
pub placed_more : (schema : List TableDef) (gs : List GroupTable) (i : ℕ) (g : GroupTable) → i < length gs
    → g ≡ get_or gs i g
    → placed_from schema (take i gs) (drop i gs)
    ≡ placed_if schema (take i gs) g (place_of_table schema g.table.name) ++ placed_from schema (take (i + 1) gs) (drop (i + 1) gs)
placed_more schema gs i g lt is =
    at_drop_more (placed_from schema (take i gs)) gs i g lt
    ∙ ap (λ (x : GroupTable). placed_from schema (take i gs) (x ∷ drop (i + 1) gs)) (sym is)
    ∙ ap (λ (xs : List GroupTable). placed_if schema (take i gs) g (place_of_table schema g.table.name) ++ placed_from schema xs (drop (i + 1) gs))
    (ap (λ (x : GroupTable). take i gs ++ x ∷ []) is ∙ sym (take_at_read gs i g lt).1)
