-- Whether an instance is held stays where others leave.
use Rattle.std.proofs.Common.{◌≡◌, ℕ, suc, Bool, true, false, not, cond, ◌&&◌, ◌||◌, All, None, List, [], ◌∷◌, filter, length, map, refl, sym, ap, ◌∙◌}
use Rattle.std.proofs.lemmas.List.Elements.{All-head, All-tail}
use Rattle.std.specs.List.{list_any}
use Rattle.std.specs.FinMap as fm
use Rattle.row_types.specs.declared.value.Value.{Value}
use Rattle.tier_base.specs.declared.number.TableId.{TableId}
use Rattle.indexed_rows.specs.Rows.{Table, is_same}
use Rattle.indexed_rows.proofs.EntryLaws.{same_itself}
use Rattle.instances.specs.Views.{kept_at}
use Rattle.table_defs.specs.declared.definition.TableDef.{TableDef}
use Rattle.table_state.specs.declared.operation.Op.{Op}
use Rattle.session_state.specs.Kept.{IsKept, seen_of}
use Rattle.session_state.specs.Sessions.{OpenSession}
use Rattle.session_state.specs.declared.session.Session.{Session}
use Rattle.group_store.specs.Stores.{Kept, SameButSpare, cut_store}
use Rattle.group_store.specs.Trees.{keep, leads}
use Rattle.cache_tier.specs.Groups.{is_key}
use Rattle.stored_tier.proofs.GatherLaws.{entries_kept}
use Rattle.aging_cycles.specs.Busy.{is_busy_at, is_held_by, is_kept_by}
use Rattle.group_store.specs.Held.{has_row, held_at, is_instance_held}
use Rattle.aging_cycles.specs.Running.{cut_all}
use Rattle.aging_cycles.proofs.CutLaws.{leads_stay, one_root}
use Rattle.aging_cycles.proofs.RootRows.{get_retained, kept_through}

abbrev Row : Type 0
Row = List Value

-- rows of tables of which only some are kept

any_left : (p f : Row → Bool) (es : List (Row × Row)) → list_any p (map (λ (e : Row × Row). e.0) (filter (λ (e : Row × Row). f e.0) es)) ≡ list_any (λ k. f k && p k) (map (λ (e : Row × Row). e.0) es)
any_left p f [] = refl
any_left p f (e ∷ es) = by (f e.0) (any_left p f es)
  where
    by : (b : Bool) → list_any p (map (λ (x : Row × Row). x.0) (filter (λ (x : Row × Row). f x.0) es)) ≡ list_any (λ k. f k && p k) (map (λ (x : Row × Row). x.0) es)
        → list_any p (map (λ (x : Row × Row). x.0) (cond b (e ∷ filter (λ (x : Row × Row). f x.0) es) (filter (λ (x : Row × Row). f x.0) es))) ≡ ((b && p e.0) || list_any (λ k. f k && p k) (map (λ (x : Row × Row). x.0) es))
    by true rest = ap (λ b. p e.0 || b) rest
    by false rest = rest

rows_kept : (keeps test own : ℕ → Row → Bool) (ts : List Table) → ((place : ℕ) (key : Row) → (keeps place key && test place key) ≡ own place key) → has_row test (keep keeps ts) ≡ has_row own ts
rows_kept keeps test own [] same = refl
rows_kept keeps test own (t ∷ ts) same =
    (λ i. first i || rows_kept (λ place. keeps (suc place)) (λ place. test (suc place)) (λ place. own (suc place)) ts (λ place key. same (suc place) key) i)
  where
    first : list_any (test 0) (fm.keys (fm.retain_keys t (keeps 0))) ≡ list_any (own 0) (fm.keys t)
    first =
        ap (λ es. list_any (test 0) (map (λ (e : Row × Row). e.0) es)) (entries_kept t (keeps 0))
        ∙ any_left (test 0) (keeps 0) (fm.entries t)
        ∙ ap (λ (f : Row → Bool). list_any f (fm.keys t)) (λ i k. same 0 k i)

-- one leaves
module _ (held : TableId → Row → Bool) (s : Kept) (gone root : Row) (other : is_same root gone ≡ false) where
  got : (q : ℕ) (k : Row) → fm.get (kept_at (keep (λ place key. not (leads s.layers s.tables 0 gone (length s.layers) place key)) s.tables) q) k
      ≡ cond (not (leads s.layers s.tables 0 gone (length s.layers) q k)) (fm.get (kept_at s.tables q) k) None
  got q k =
      ap (λ (m : Table). fm.get m k) (kept_through (λ place key. not (leads s.layers s.tables 0 gone (length s.layers) place key)) s.tables q)
      ∙ get_retained (kept_at s.tables q) (λ key. not (leads s.layers s.tables 0 gone (length s.layers) q key)) k

  pub held_one : is_instance_held held (cut_store 0 gone s) root ≡ is_instance_held held s root
  held_one = rows_kept (λ place key. not (leads s.layers s.tables 0 gone (length s.layers) place key))
      (λ place key. leads s.layers (cut_store 0 gone s).tables 0 root (length s.layers) place key && held_at held s.table s.layers place key)
      (λ place key. leads s.layers s.tables 0 root (length s.layers) place key && held_at held s.table s.layers place key)
      s.tables each
    where
      each : (place : ℕ) (key : Row)
          → (not (leads s.layers s.tables 0 gone (length s.layers) place key) && (leads s.layers (cut_store 0 gone s).tables 0 root (length s.layers) place key && held_at held s.table s.layers place key))
          ≡ (leads s.layers s.tables 0 root (length s.layers) place key && held_at held s.table s.layers place key)
      each place key =
          ap (λ b. not (leads s.layers s.tables 0 gone (length s.layers) place key) && (b && held_at held s.table s.layers place key))
          (leads_stay s.layers s.tables gone root (cut_store 0 gone s).tables (length s.layers) other got (length s.layers) place key)
          ∙ by (leads s.layers s.tables 0 gone (length s.layers) place key) refl (leads s.layers s.tables 0 root (length s.layers) place key) refl
        where
          by : (g : Bool) → leads s.layers s.tables 0 gone (length s.layers) place key ≡ g → (r : Bool) → leads s.layers s.tables 0 root (length s.layers) place key ≡ r
              → (not g && (r && held_at held s.table s.layers place key)) ≡ (r && held_at held s.table s.layers place key)
          by false e r h = refl
          by true e false h = refl
          by true e true h =
              let same = one_root s.layers s.tables root gone (length s.layers) (length s.layers) place key h e in
              let wrong : true ≡ false = sym (same_itself root gone same) ∙ other in cc

-- several do
pub held_still : (held : TableId → Row → Bool) (ks : List Row) (s : Kept) (root : Row) → is_key ks root ≡ false → is_instance_held held (cut_all ks s) root ≡ is_instance_held held s root
held_still held [] s root e = refl
held_still held (k ∷ ks) s root e = by (is_same root k) refl e (λ x. held_still held ks (cut_store 0 k s) root x)
  where
    by : (b : Bool) → is_same root k ≡ b → (b || is_key ks root) ≡ false → (is_key ks root ≡ false → is_instance_held held (cut_all ks (cut_store 0 k s)) root ≡ is_instance_held held (cut_store 0 k s) root)
        → is_instance_held held (cut_all ks (cut_store 0 k s)) root ≡ is_instance_held held s root
    by true h x rest = cc
    by false h x rest = rest x ∙ held_one held s k root h

-- the room plays no part
pub held_same : (held : TableId → Row → Bool) (a b : Kept) (root : Row) → SameButSpare a b → is_instance_held held b root ≡ is_instance_held held a root
held_same held a b root same =
    λ i. has_row (λ place key. leads (same.layers i) (same.tables i) 0 root (length (same.layers i)) place key && held_at held (same.table i) (same.layers i) place key) (same.tables i)

-- where no key is held none is

any_none : (p : Row → Bool) (xs : List Row) → ((k : Row) → p k ≡ false) → list_any p xs ≡ false
any_none p [] none = refl
any_none p (x ∷ xs) none = λ i. none x i || any_none p xs none i

row_none : (test : ℕ → Row → Bool) (ts : List Table) → ((place : ℕ) (key : Row) → test place key ≡ false) → has_row test ts ≡ false
row_none test [] none = refl
row_none test (t ∷ ts) none = λ i. any_none (test 0) (fm.keys t) (none 0) i || row_none (λ place. test (suc place)) ts (λ place key. none (suc place) key) i

pub none_held : (s : Kept) (root : Row) → is_busy_at [] s root ≡ false
none_held s root = row_none (λ place key. leads s.layers s.tables 0 root (length s.layers) place key && held_at (is_kept_by []) s.table s.layers place key) s.tables
    (λ place key. and_false (leads s.layers s.tables 0 root (length s.layers) place key))
  where
    and_false : (b : Bool) → (b && false) ≡ false
    and_false true = refl
    and_false false = refl

-- by what sessions keep, or by their operations

kept_held : (schema : List TableDef) (sessions : List Session) → All (IsKept schema) sessions → (table : TableId) (key : Row)
    → is_kept_by sessions table key ≡ is_held_by schema (map (λ (x : OpenSession). x.ops) (map seen_of sessions)) table key
kept_held schema [] all table key = refl
kept_held schema (s ∷ sessions) all table key =
    let kept = All-head (IsKept schema) s sessions all in
    λ i. (kept.written table key i || kept.referred table key i) || kept_held schema sessions (All-tail (IsKept schema) s sessions all) table key i

pub busy_kept : (schema : List TableDef) (sessions : List Session) (owns : List (List Op)) → All (IsKept schema) sessions → owns ≡ map (λ (x : OpenSession). x.ops) (map seen_of sessions) → (s : Kept) (root : Row)
    → is_busy_at sessions s root ≡ is_instance_held (is_held_by schema owns) s root
busy_kept schema sessions owns all are s root =
    ap (λ (held : TableId → Row → Bool). is_instance_held held s root) (λ i table key. kept_held schema sessions all table key i)
    ∙ ap (λ os. is_instance_held (is_held_by schema os) s root) (sym are)
