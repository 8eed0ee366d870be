-- The tables of live groups that the flushed entries leave are the tier's.
use Rattle.std.proofs.Common.{◌≡◌, ◌&&◌, ◌||◌, List, [], ◌∷◌, ◌++◌, map, refl, sym, ap, subst, ◌∙◌}
use Rattle.std.proofs.lemmas.List.{map-append}
use Rattle.tier_base.specs.declared.number.TableId.{TableId}
use Rattle.table_defs.specs.declared.definition.TableDef.{TableDef}
use Rattle.table_state.specs.declared.history.Sealed.{Sealed}
use Rattle.table_state.specs.Copies.{is_one_of}
use Rattle.table_state.specs.Tables.{TableState}
use Rattle.order_laws.specs.Standing.{live_tables}
use Rattle.order_laws.proofs.TruthLaws.{same_some}
use Rattle.recovery_laws.specs.Crashes as crash
use Rattle.recovery_laws.specs.Matching.{IsMatched}
use Rattle.recovery_laws.specs.Notes.{Catalog, Commit, Note, catalog_of, empty_catalog, groups_of, live_groups, recall, recall_all}
use Rattle.cache_tier.specs.Groups.{Group, covers, is_table_of, is_writethrough}
use Rattle.cache_tier.specs.Journals.{Commits}
use Rattle.cache_tier.specs.JournalWays.{given}
use Rattle.cache_tier.specs.TierStates.{opened}
use Rattle.cache_tier.specs.Worlds.{IsUnshared, World}
use Rattle.recovery.specs.Journalled.{AreAlike, IsJournalled, seen_as}
use Rattle.recovery.specs.Recalling.{note_of, notes_of}
use Rattle.recovery.specs.SafeWays.{AreUnshared, LeaveUnshared}
use Rattle.recovery.proofs.FoldLaws.{IsFolded, folds}
use Rattle.recovery.proofs.NewestLaws.{live_plain, newest_has, seconds}

-- ---- entries

pub commits_seen : (schema : List TableDef) (late : List Sealed) → notes_of schema (map Commits late) ≡ map Commit late
commits_seen schema [] = refl
commits_seen schema (s ∷ late) = ap (λ l. Commit s ∷ l) (commits_seen schema late)

-- all entries as the laws of crashes see them
given_seen : (schema : List TableDef) (w : World) (early late : List Sealed) → w.journal.tail ≡ map Commits late → crash.given (seen_as schema w early late) ≡ notes_of schema (given w.journal)
given_seen schema w early late tail =
    ap (λ l. notes_of schema w.journal.flushed ++ l) (sym (commits_seen schema late) ∙ ap (notes_of schema) (sym tail))
    ∙ sym (map-append (note_of schema) w.journal.flushed w.journal.tail)

-- ---- the tables of the catalog

pub alike_table : (gs hs : List Group) (u : TableId) → AreAlike gs hs → is_table_of is_writethrough gs u ≡ is_table_of is_writethrough hs u
alike_table [] [] u are = refl
alike_table (g ∷ gs) (h ∷ hs) u are =
    λ i. (is_writethrough (record g { def = sym are.0.def i }) && covers u (record g { def = sym are.0.def i })) || alike_table gs hs u are.1 i
alike_table [] (h ∷ hs) u are = absurd are
alike_table (g ∷ gs) [] u are = absurd are

-- so what is unshared of the second is so of the first
pub unshared_back : (shared : List TableId) (gs hs : List Group) → AreAlike gs hs → AreUnshared shared hs → AreUnshared shared gs
unshared_back shared gs hs are alone t e = alike_table gs hs t are ∙ alone t e

-- commits behind leave the groups
commits_stay : (late : List Sealed) (c : Catalog) → (recall_all (map Commit late) c).groups ≡ c.groups
commits_stay [] c = refl
commits_stay (s ∷ late) c = commits_stay late (recall (Commit s) c)

recalled_late : (notes : List Note) (late : List Sealed) (c : Catalog) → (recall_all (notes ++ map Commit late) c).groups ≡ (recall_all notes c).groups
recalled_late [] late c = commits_stay late c
recalled_late (n ∷ notes) late c = recalled_late notes late (recall n c)

groups_late : (notes : List Note) (late : List Sealed) → groups_of (notes ++ map Commit late) ≡ groups_of notes
groups_late notes late = ap live_groups (recalled_late notes late empty_catalog)

module _ (w : World) (early : List Sealed) (j : IsJournalled w early) where
  abbrev pub schema : List TableDef
  schema = j.backing.schema

  abbrev pub notes : List Note
  notes = notes_of schema (given w.journal)

  abbrev pub seen : crash.World
  seen = seen_as schema w early j.late

  pub given_is : crash.given seen ≡ notes
  given_is = given_seen schema w early j.late j.tail

  pub matched : IsMatched notes w.history
  matched = subst (λ l. IsMatched l w.history) given_is j.stands.matched

  pub folded : IsFolded schema j.catalog (catalog_of notes)
  folded =
      folds schema w.history [] (given w.journal) (opened j.settings 0 schema) j.catalog empty_catalog
      (record { schema_is = refl; idle = refl; pairs = refl; next = refl; each = tt; apart = tt; fresh = tt; names = tt }) matched.fits j.recalls

  -- the tables of live groups are the tier's
  pub live : (u : TableId) → is_one_of (live_tables (groups_of notes)) u ≡ is_table_of is_writethrough w.tier.groups u
  live u =
      ap (λ l. is_one_of (live_tables l) u) (live_plain (catalog_of notes).groups ∙ ap seconds folded.pairs)
      ∙ newest_has j.catalog.groups u
      ∙ alike_table j.catalog.groups w.tier.groups u j.alike

  -- what is flushed leaves the same
  pub live_flushed : (u : TableId) → is_one_of (live_tables (groups_of (notes_of schema w.journal.flushed))) u ≡ is_table_of is_writethrough w.tier.groups u
  live_flushed u = ap (λ l. is_one_of (live_tables l) u) (sym (groups_late (notes_of schema w.journal.flushed) j.late) ∙ ap groups_of given_is) ∙ live u

-- where others change no table that the tier writes through, they change none of what is flushed
pub leaves_unshared : (w : World) (early : List Sealed) → IsJournalled w early → IsUnshared w → LeaveUnshared w.shared w.journal.flushed w.history
leaves_unshared w early j alone s told t e =
    ap (λ (x : TableState). is_one_of (live_tables (groups_of (notes_of x.schema w.journal.flushed))) t) (same_some (sym told ∙ j.leaves)) ∙ live_flushed w early j t ∙ alone t e
