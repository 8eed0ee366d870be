-- Stores of which only the order of last use changed.
use Rattle.std.proofs.Common.{◌≡◌, zero, suc, ◌≤◌, List, [], ◌∷◌, All, length, unwrap_or, refl, sym, ap, subst, ◌∙◌}
use Rattle.std.specs.FinMap.{empty, len}
use Rattle.std.specs.Option.{option_or}
use Rattle.row_types.specs.declared.value.Value.{Value}
use Rattle.tier_base.specs.declared.number.TableId.{TableId}
use Rattle.table_defs.specs.declared.definition.TableDef.{TableDef}
use Rattle.instances.specs.declared.tree.Tree.{Tree}
use Rattle.instances.specs.Views.{kept_at}
use Rattle.own_rows.specs.OwnTables.{AreShown}
use Rattle.slot_rows.specs.SlotKeys.{RowsHeld}
use Rattle.group_store.specs.Keeping.{IsFor}
use Rattle.group_store.specs.Shown.{kept_rows, rows_there, shown_by, tables_by}
use Rattle.group_store.specs.Stores.{Kept}
use Rattle.open_sessions.specs.Opening.{seen_all}
use Rattle.cache_tier.specs.Groups.{Group}
use Rattle.group_catalog.specs.Catalogs.{groups_in}
use Rattle.statement_uses.specs.Touching.{roomless, roomless_all, touched_by, touched_stores}
use Rattle.statement_uses.proofs.TouchLaws.{touched_form}
use Rattle.session_engine.specs.Using.{Touches, Uses}
use Rattle.stored_tier.specs.declared.tier.Tier.{Tier as Stored}
use Rattle.stored_tier.specs.Lists.{AreHiding}
use Rattle.stored_tier.specs.Stored.{AreKept, AreWhole, IsSound, IsVerified, KeepsHidden, rows_of}
use Rattle.stored_tier.proofs.HiddenRows.{hidden_as}
use Rattle.stored_tier.proofs.SoundParts.{housed_exchanged}

abbrev Row : Type 0
Row = List Value

-- a store with other keys and other room
pub record IsLike (s n : Kept) : Type 0 where
  pub table : n.table ≡ s.table
  pub key : n.key ≡ s.key
  pub foreign : n.foreign ≡ s.foreign
  pub layers : n.layers ≡ s.layers
  pub tables : n.tables ≡ s.tables

-- so it is of each store
abbrev pub AreLike : List Kept → List Kept → Type 0
AreLike [] [] = Unit {0}
AreLike [] (n ∷ news) = ⊥
AreLike (s ∷ stores) [] = ⊥
AreLike (s ∷ stores) (n ∷ news) = IsLike s n × AreLike stores news

like_touched : (roots : List Row) (s n : Kept) → roomless n ≡ touched_by roots (roomless s) → IsLike s n
like_touched roots s n is =
    let form : roomless n ≡ record (roomless s) { keys = (touched_by roots (roomless s)).keys } = is ∙ touched_form roots (roomless s) in
    record {
      table = ap (λ (k : Kept). k.table) form;
      key = ap (λ (k : Kept). k.key) form;
      foreign = ap (λ (k : Kept). k.foreign) form;
      layers = ap (λ (k : Kept). k.layers) form;
      tables = ap (λ (k : Kept). k.tables) form;
    }

heads : (a b : Kept) (more rest : List Kept) → a ∷ more ≡ b ∷ rest → (a ≡ b) × (more ≡ rest)
heads a b more rest e = (cc, cc)

pub all_like : (uses : Uses) (stores news : List Kept) → roomless_all news ≡ touched_stores uses (roomless_all stores) → AreLike stores news
all_like [] [] [] is = tt
all_like [] [] (n ∷ news) is = cc
all_like [] (s ∷ stores) [] is = cc
all_like [] (s ∷ stores) (n ∷ news) is =
    let both = heads (roomless n) (roomless s) (roomless_all news) (roomless_all stores) is in
    (like_touched [] s n both.0, all_like [] stores news both.1)
all_like (roots ∷ uses) [] [] is = tt
all_like (roots ∷ uses) [] (n ∷ news) is = cc
all_like (roots ∷ uses) (s ∷ stores) [] is = cc
all_like (roots ∷ uses) (s ∷ stores) (n ∷ news) is =
    let both = heads (roomless n) (touched_by roots (roomless s)) (roomless_all news) (touched_stores uses (roomless_all stores)) is in
    (like_touched roots s n both.0, all_like uses stores news both.1)

-- what is asked of stores

pub for_like : (schema : List TableDef) (tree : Tree) (s n : Kept) → IsLike s n → IsFor schema tree s → IsFor schema tree n
for_like schema tree s n like form = record {
  table = like.table ∙ form.table;
  key = like.key ∙ form.key;
  foreign = like.foreign ∙ form.foreign;
  layers = like.layers ∙ form.layers;
}

pub kept_like : (schema : List TableDef) (groups : List Group) (stores news : List Kept) → AreLike stores news → AreKept schema groups stores → AreKept schema groups news
kept_like schema [] [] [] like are = tt
kept_like schema [] [] (n ∷ news) like are = absurd like
kept_like schema [] (s ∷ stores) news like are = absurd are
kept_like schema (g ∷ groups) [] news like are = absurd are
kept_like schema (g ∷ groups) (s ∷ stores) [] like are = absurd like
kept_like schema (g ∷ groups) (s ∷ stores) (n ∷ news) like are =
    (for_like schema g.def.tree s n like.0 are.0, kept_like schema groups stores news like.1 are.1)

pub whole_like : (stores news : List Kept) → AreLike stores news → AreWhole stores → AreWhole news
whole_like [] [] like whole k s at = cc
whole_like [] (n ∷ news) like whole k s at = absurd like
whole_like (x ∷ stores) [] like whole k s at = absurd like
whole_like (x ∷ stores) (n ∷ news) like whole zero s at =
    let is : n ≡ s = cc in
    subst (λ (z : Kept). length z.tables ≡ suc (length z.layers)) is
    (ap length like.0.tables ∙ whole 0 x refl ∙ ap (λ ls. suc (length ls)) (sym like.0.layers))
whole_like (x ∷ stores) (n ∷ news) like whole (suc k) s at = whole_like stores news like.1 (λ j y there. whole (suc j) y there) k s at

pub hiding_like : (schema : List TableDef) (groups : List Group) (stores news : List Kept) (hidden : List RowsHeld) → AreLike stores news → AreHiding schema groups stores hidden → AreHiding schema groups news hidden
hiding_like schema [] stores news [] like are = tt
hiding_like schema [] stores news (h ∷ hidden) like are = absurd are
hiding_like schema (g ∷ groups) stores news [] like are = absurd are
hiding_like schema (g ∷ groups) [] news (h ∷ hidden) like are = absurd are
hiding_like schema (g ∷ groups) (s ∷ stores) [] (h ∷ hidden) like are = absurd like
hiding_like schema (g ∷ groups) (s ∷ stores) (n ∷ news) (h ∷ hidden) like are = (
  record {
    key = are.0.key;
    room = λ hides. subst (λ ts. len (kept_at ts 0) ≤ h.spare) (sym like.0.tables) (are.0.room hides);
    none = are.0.none;
  },
  hiding_like schema groups stores news hidden like.1 are.1,
)

rows_like : (stores news : List Kept) (t : TableId) → AreLike stores news → kept_rows news t ≡ kept_rows stores t
rows_like [] [] t like = refl
rows_like [] (n ∷ news) t like = absurd like
rows_like (s ∷ stores) [] t like = absurd like
rows_like (s ∷ stores) (n ∷ news) t like =
    (λ i. option_or (here i) (kept_rows news t)) ∙ ap (option_or (rows_there s t)) (rows_like stores news t like.1)
  where
    made : n ≡ record s { keys = n.keys; spare = n.spare }
    made = λ i. record {
      table = like.0.table i;
      key = like.0.key i;
      foreign = like.0.foreign i;
      layers = like.0.layers i;
      tables = like.0.tables i;
      keys = n.keys;
      spare = n.spare;
    }

    here : rows_there n t ≡ rows_there s t
    here = ap (λ k. rows_there k t) made

pub shown_like : (schema : List TableDef) (stores news : List Kept) → AreLike stores news → shown_by schema news ≡ shown_by schema stores
shown_like schema stores news like = λ i. record {
  schema = schema;
  tables = tables_by (λ t. unwrap_or (rows_like stores news t like i) empty) 0 schema;
}

-- what the parts ask of one another
pub sound_like : (t other : Stored) → IsSound t → AreLike t.stores.items other.stores.items → IsSound (record t { stores = other.stores })
sound_like t other sound like = record {
  sessions = sound.sessions;
  stores = housed_exchanged t.schema (groups_in t.catalog) t.stores.items other.stores.items t.directory sound.stores sound.kept kept;
  kept = kept;
  whole = whole_like t.stores.items other.stores.items like sound.whole;
  hiding = hiding_like t.schema (groups_in t.catalog) t.stores.items other.stores.items t.hidden.items like sound.hiding;
  plain = sound.plain;
  named = sound.named;
  visible = sound.visible;
  numbered = sound.numbered;
  later = sound.later;
  writers = sound.writers;
  verified = λ noted. verified (sound.verified noted);
}
  where
    kept : AreKept t.schema (groups_in t.catalog) other.stores.items
    kept = kept_like t.schema (groups_in t.catalog) t.stores.items other.stores.items like sound.kept

    rows : shown_by t.schema other.stores.items ≡ rows_of t
    rows = shown_like t.schema t.stores.items other.stores.items like

    verified : IsVerified t → IsVerified (record t { stores = other.stores })
    verified v = record {
      rows = subst (AreShown []) (sym rows) v.rows;
      own = subst (λ z. All (λ s. AreShown s.ops z) (seen_all t.sessions)) (sym rows) v.own;
    }

pub rows_touched : (t new : Stored) (uses : Uses) → Touches t new uses → rows_of new ≡ rows_of t
rows_touched t new uses touches =
    ap (λ (z : Stored). shown_by z.schema new.stores.items) touches.rest
    ∙ shown_like t.schema t.stores.items new.stores.items (all_like uses t.stores.items new.stores.items touches.stores)

pub hidden_touched : (old new : Stored) (uses : Uses) → Touches old new uses → KeepsHidden old new
hidden_touched old new uses touches = hidden_as old (record old { stores = new.stores }) new touches.rest (record { groups = refl; hidden = refl })

pub sound_touched : (t new : Stored) (uses : Uses) → IsSound t → Touches t new uses → IsSound new
sound_touched t new uses sound touches =
    subst IsSound (sym touches.rest) (sound_like t new sound (all_like uses t.stores.items new.stores.items touches.stores))
