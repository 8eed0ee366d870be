-- The tier that a journal's entries leave stands.
use Rattle.std.proofs.Common.{◌≡◌, ℕ, zero, suc, Bool, true, false, cond, ◌&&◌, max, Option, Some, None, List, [], ◌∷◌, slice_get, refl, sym, ap, subst, ◌∙◌, arith, append-nil}
use Rattle.std.proofs.Math.Nat.{max-eq_right}
use Rattle.std.specs.Prelude.{unwrap_or}
use Rattle.std.specs.List.{find}
use Rattle.std.specs.FinMap.{empty}
use Rattle.std.specs.Option.{option_and_then}
use Rattle.instances.specs.Trees.{place_of}
use Rattle.instances.specs.Views.{kept_at}
use Rattle.tier_base.specs.declared.number.TableId.{TableId}
use Rattle.table_defs.specs.declared.definition.TableDef.{TableDef}
use Rattle.table_state.specs.declared.history.Entry.{Entry}
use Rattle.table_state.specs.declared.history.Sealed.{Sealed}
use Rattle.table_state.specs.declared.operation.Op.{Op}
use Rattle.table_state.specs.Copies.{is_one_of}
use Rattle.table_state.specs.Histories.{state_at}
use Rattle.table_state.specs.Operations.{table_of}
use Rattle.table_state.specs.Tables.{TableState}
use Rattle.order_laws.specs.Commits.{pending, virtual_state}
use Rattle.order_laws.specs.Sides.{all_on, are_on}
use Rattle.order_laws.specs.Standing.{Stand, live_tables, progress_of}
use Rattle.order_laws.proofs.TruthLaws.{same_some}
use Rattle.recovery_laws.specs.Matching.{IsMatched}
use Rattle.recovery_laws.specs.Notes.{Note, catalog_of, empty_catalog, groups_of, log_in, mark_of, next_of}
use Rattle.recovery_laws.proofs.JoinLaws.{resumes}
use Rattle.recovery_laws.proofs.MatchLaws.{matched_stands}
use Rattle.cache_tier.specs.Events.{with_tier}
use Rattle.cache_tier.specs.Groups.{Group, covers, is_read_only}
use Rattle.cache_tier.specs.Shown.{shown, shown_state, shown_where, table_of_group}
use Rattle.cache_tier.specs.Journals.{JournalEntry, next_behind}
use Rattle.cache_tier.specs.StandingBetween.{Each, HasKeys, IsReadWithin, Stands, live_groups_of}
use Rattle.cache_tier.specs.Sets.{OnePosition}
use Rattle.cache_tier.specs.Standing.{AreDistinct}
use Rattle.cache_tier.specs.Groups.{is_key}
use Rattle.cache_tier.specs.TierStates.{Session, Settings, Tier, opened}
use Rattle.cache_tier.specs.Worlds.{World}
use Rattle.cache_tier.proofs.DefineLaws.{shows_nothing}
use Rattle.cache_tier.proofs.GroupTables.{each_found, each_map, over_is_found}
use Rattle.cache_tier.proofs.HistoryKeeps.{same_shown}
use Rattle.recovery.specs.Recalling.{AreMatched, RecallsAll, notes_of, recalled}
use Rattle.recovery.proofs.FoldLaws.{IsFolded, IsFresh, behind, folds}
use Rattle.recovery.proofs.NewestLaws.{live_has, live_plain, newest, ordered_live, seconds}

-- what transactions are on, of tables that are the same

ops_on : (a b : List TableId) → ((t : TableId) → is_one_of a t ≡ is_one_of b t) → (ops : List Op) → are_on a ops ≡ are_on b ops
ops_on a b same [] = refl
ops_on a b same (op ∷ ops) = λ i. same (table_of op) i && ops_on a b same ops i

all_same : (a b : List TableId) → ((t : TableId) → is_one_of a t ≡ is_one_of b t) → (xs : List Sealed) → all_on a xs ≡ all_on b xs
all_same a b same [] = refl
all_same a b same (x ∷ xs) = λ i. ops_on a b same x.ops i && all_same a b same xs i

-- groups that have read nothing

one_position : (gs : List Group) → Each IsFresh gs → OnePosition gs
one_position gs fresh interval i j g h at there shows_g shows_h = read gs i g fresh at ∙ sym (read gs j h fresh there)
  where
    read : (xs : List Group) (k : ℕ) (x : Group) → Each IsFresh xs → slice_get xs k ≡ Some x → x.position ≡ None
    read [] k x all is = Prim.cc
    read (y ∷ xs) zero x all is = ap (λ (z : Group). z.position) (sym (same_some is)) ∙ all.0.1
    read (y ∷ xs) (suc k) x all is = read xs k x all.1 is

no_keys : (v : TableState) (g : Group) → IsFresh g → HasKeys v g
no_keys v g fresh = record {
  distinct = subst AreDistinct (sym fresh.0) tt;
  rooted = λ writes key e. let wrong : false ≡ true = sym (ap (λ ks. is_key ks key) fresh.0) ∙ e in Prim.cc;
}

not_read : (size : ℕ) (g : Group) → IsFresh g → IsReadWithin size g
not_read size g fresh n e = let wrong : None ≡ Some n = sym fresh.1 ∙ e in Prim.cc

-- the catalog, from the first entry on
pub folded : (entries : List JournalEntry) (h : List Entry) (settings : Settings) (moment : ℕ) (t : Tier) (m : AreMatched entries h) → RecallsAll entries (opened settings moment m.backing.schema) t
    → IsFolded m.backing.schema t (catalog_of (notes_of m.backing.schema entries))
folded entries h settings moment t m is =
    folds m.backing.schema h [] entries (opened settings moment m.backing.schema) t empty_catalog
    (record { schema_is = refl; idle = refl; pairs = refl; next = refl; each = tt; apart = tt; fresh = tt; names = tt }) m.matched.fits is

pub next_is : (schema : List TableDef) (h : List Entry) (entries : List JournalEntry) → IsMatched (notes_of schema entries) h → next_behind entries ≡ next_of (notes_of schema entries)
next_is schema h entries m = behind schema h [] entries 1 0 empty_catalog refl m.fits ∙ ap (λ k. max k (catalog_of (notes_of schema entries)).next) (max-eq_right {n = 0} {m = mark_of (notes_of schema entries)} (omega arith))

-- it stands
pub stands_recalled : (w : World) (entries : List JournalEntry) (settings : Settings) (moment : ℕ) (t : Tier) (m : AreMatched entries w.history) → RecallsAll entries (opened settings moment m.backing.schema) t → Stands (with_tier (recalled m.backing.schema entries w.history t) w)
stands_recalled w entries settings moment t m is = record {
  flow = record { stand = stand; rest = r.rest; last = m.last };
  schema = record {
    front = λ s e. ([], ap (λ (z : TableState). z.schema) (same_some (sym e ∙ m.leaves)) ∙ sym f.schema_is ∙ sym (append-nil t.schema));
    whole = λ s stale e. ap (λ (z : TableState). z.schema) (same_some (sym e ∙ m.leaves)) ∙ sym f.schema_is;
  };
  catalog = record { each = subst (λ s. Each (Rattle.cache_tier.specs.StandingBetween.IsCatalogued s) t.groups) (sym f.schema_is) f.each; apart = f.apart };
  keys = each_map IsFresh (HasKeys stand.over.virtual) (no_keys stand.over.virtual) t.groups f.fresh;
  read = record {
    within = each_map IsFresh (IsReadWithin (Rattle.std.proofs.Common.length w.history)) (not_read (Rattle.std.proofs.Common.length w.history)) t.groups f.fresh;
    one = one_position t.groups f.fresh;
  };
  sessions = subst (λ (ss : List Session). Rattle.cache_tier.specs.StandingBetween.HaveWritten stand.over.virtual (Rattle.cache_tier.specs.Shown.shown_state w.history (recalled m.backing.schema entries w.history t)) t.groups ss) (sym f.idle)
      (record { labels = tt; through = refl; shown = record { apply = tt; apart = tt }; virtual = tt });
}
  where
    notes : List Note
    notes = notes_of m.backing.schema entries

    f : IsFolded m.backing.schema t (catalog_of notes)
    f = folded entries w.history settings moment t m is

    r : Rattle.recovery_laws.specs.Matching.Resumes notes w.history
    r = resumes notes w.history m.matched

    groups_are : groups_of notes ≡ seconds (newest t.groups)
    groups_are = live_plain (catalog_of notes).groups ∙ ap seconds f.pairs

    old : Stand (progress_of (seconds (newest t.groups)) w.history (log_in w.history notes) (next_behind entries))
    old = subst (λ n. Stand (progress_of (seconds (newest t.groups)) w.history (log_in w.history notes) n)) (sym (next_is m.backing.schema w.history entries m.matched))
        (subst (λ gs. Stand (progress_of gs w.history (log_in w.history notes) (next_of notes))) groups_are (matched_stands notes w.history m.matched))

    stand : Stand (progress_of (live_groups_of t.groups) w.history (log_in w.history notes) (next_behind entries))
    stand = record {
      over = record {
        backing = old.over.backing;
        leaves = old.over.leaves;
        virtual = old.over.virtual;
        virtual_is = old.over.virtual_is;
        rise = old.over.rise;
        below = old.over.below;
        legal = old.over.legal;
        ordered = ordered_live t.groups w.history (log_in w.history notes) old.over.backing.schema (next_behind entries) old.over.ordered;
      };
      live = all_same (live_tables (live_groups_of t.groups)) (live_tables (seconds (newest t.groups))) (live_has t.groups) (pending w.history (log_in w.history notes)) ∙ old.live;
      known = old.known;
    }

-- it shows nothing

fresh_shows : (h : List Entry) (log : List Sealed) (g : Group) (u : TableId) (v : TableState) → IsFresh g → virtual_state h log ≡ Some v → table_of_group h log u (Some g) ≡ empty
fresh_shows h log g u v fresh virtual = by (is_read_only g) refl
  where
    at : (p : ℕ) → kept_at [] p ≡ empty
    at zero = refl
    at (suc p) = refl

    by : (b : Bool) → is_read_only g ≡ b → kept_at (shown h log g) (unwrap_or (place_of g.def.tree u) 0) ≡ empty
    by true e =
        ap (λ b. kept_at (shown_where (cond b (option_and_then (state_at h) g.position) (virtual_state h log)) g) (unwrap_or (place_of g.def.tree u) 0)) e
        ∙ ap (λ o. kept_at (shown_where (option_and_then (state_at h) o) g) (unwrap_or (place_of g.def.tree u) 0)) fresh.1
        ∙ at (unwrap_or (place_of g.def.tree u) 0)
    by false e =
        ap (λ b. kept_at (shown_where (cond b (option_and_then (state_at h) g.position) (virtual_state h log)) g) (unwrap_or (place_of g.def.tree u) 0)) e
        ∙ ap (λ o. kept_at (shown_where o g) (unwrap_or (place_of g.def.tree u) 0)) virtual
        ∙ shows_nothing v g e fresh.0 (unwrap_or (place_of g.def.tree u) 0)

pub shows_none : (h : List Entry) (entries : List JournalEntry) (settings : Settings) (moment : ℕ) (t : Tier) (m : AreMatched entries h) → RecallsAll entries (opened settings moment m.backing.schema) t
    → shown_state h (recalled m.backing.schema entries h t) ≡ shown_state h (opened settings moment m.backing.schema)
shows_none h entries settings moment t m is =
    same_shown h h (opened settings moment m.backing.schema) (recalled m.backing.schema entries h t) f.schema_is
    (λ u. ap (table_of_group h log u) (over_is_found t.groups u) ∙ by u (find (covers u) t.groups) refl)
  where
    f : IsFolded m.backing.schema t (catalog_of (notes_of m.backing.schema entries))
    f = folded entries h settings moment t m is

    log : List Sealed
    log = log_in h (notes_of m.backing.schema entries)

    by : (u : TableId) (o : Option Group) → find (covers u) t.groups ≡ o → table_of_group h log u (find (covers u) t.groups) ≡ empty
    by u None e = ap (table_of_group h log u) e
    by u (Some g) e = ap (table_of_group h log u) e ∙ fresh_shows h log g u m.matched.virtual (each_found IsFresh (covers u) t.groups g f.fresh e) m.matched.virtual_is
