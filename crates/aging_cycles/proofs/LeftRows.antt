-- What is stored behind cycles was stored before.
use Rattle.std.proofs.Common.{◌≡◌, ℕ, Some, List, [], ◌∷◌, length, slice_get, sym, subst, ◌∙◌}
use Rattle.row_types.specs.declared.value.Value.{Value}
use Rattle.table_defs.specs.declared.definition.TableDef.{TableDef}
use Rattle.order_laws.proofs.TruthLaws.{same_some}
use Rattle.group_catalog.specs.Catalogs.{groups_in}
use Rattle.group_store.specs.Stores.{Kept, SameButSpare, cut_store}
use Rattle.stored_tier.specs.declared.tier.Tier.{Tier as Stored}
use Rattle.stored_tier.specs.Stored.{IsSound}
use Rattle.aging_cycles.specs.Coming.{HasRowsOf, HaveRowsOf, StoresRowsOf}
use Rattle.aging_cycles.proofs.RowsOf.{rows_alike, rows_cut, rows_itself, rows_through}
use Rattle.aging_cycles.specs.Running.{HaveRun, cut_all}
use Rattle.aging_cycles.proofs.SoundRun.{came, kept_long}
use Rattle.aging_cycles.proofs.Walks.{there_too}

-- of a store that instances left

pub rows_cut_all : (schema : List TableDef) (ks : List (List Value)) (s : Kept) → HasRowsOf schema s (cut_all ks s)
rows_cut_all schema [] s = rows_itself schema s
rows_cut_all schema (k ∷ ks) s = rows_through schema s (cut_store 0 k s) (cut_all ks (cut_store 0 k s)) (rows_cut schema k s) (rows_cut_all schema ks (cut_store 0 k s))

pub rows_gone : (schema : List TableDef) (ks : List (List Value)) (s left : Kept) → SameButSpare (cut_all ks s) left → HasRowsOf schema s left
rows_gone schema ks s left gone = rows_through schema s (cut_all ks s) left (rows_cut_all schema ks s) (rows_alike schema (cut_all ks s) left gone)

-- of all stores

module _ (t new : Stored) (sound : IsSound t) (run : HaveRun t new) where
  at_place : (k : ℕ) (s x : Kept) → slice_get t.stores.items k ≡ Some s → slice_get new.stores.items k ≡ Some x → HasRowsOf t.schema s x
  at_place k s x at there =
      let long : length (groups_in new.catalog) ≡ length new.stores.items = run.form.groups ∙ sym (kept_long t.schema (groups_in t.catalog) t.stores.items sound.kept) ∙ sym run.form.stores in
      let (g, seen) = there_too new.stores.items (groups_in new.catalog) k x long there in
      let c = came t new sound run k g seen in
      let old : c.store ≡ s = same_some (sym c.kept ∙ at) in
      let now : c.runs.left ≡ x = same_some (sym c.runs.left_is ∙ there) in
      subst (λ (y : Kept). HasRowsOf t.schema y x) old
      (subst (λ (y : Kept). HasRowsOf t.schema c.store y) now (rows_gone t.schema c.runs.keys c.store c.runs.left c.runs.does.gone))

  all_left : HaveRowsOf t.schema t.stores.items new.stores.items
  all_left = record { long = run.form.stores; each = at_place }

  pub rows_left : StoresRowsOf t new
  rows_left = record { schema = run.form.beside.schema; stores = all_left }
