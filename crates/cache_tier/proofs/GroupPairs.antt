-- Lists of groups that differ in what changes of a group.
use Rattle.std.proofs.Common.{◌≡◌, Bool, true, false, cond, ◌&&◌, ◌||◌, Some, None, List, [], ◌∷◌, map, refl, sym, ap, ◌∙◌}
use Rattle.std.specs.List.{filter, find, list_all, list_any}
use Rattle.tier_base.specs.declared.number.TableId.{TableId}
use Rattle.table_defs.specs.declared.definition.TableDef.{TableDef}
use Rattle.table_state.specs.declared.operation.Op.{Op}
use Rattle.table_state.specs.Operations.{table_of}
use Rattle.cache_tier.specs.declared.group.GroupDef.{GroupDef}
use Rattle.cache_tier.specs.Commits.{live_group}
use Rattle.cache_tier.specs.Groups.{Group, covers, is_table_of, is_writethrough}
use Rattle.cache_tier.specs.StandingBetween.{Each, HaveOwnTables, IsCatalogued, are_written_through, live_groups_of}

-- the second is the first with other keys, positions or flags
pub record IsKept (g h : Group) : Type 0 where
  pub def : h.def ≡ g.def
  pub first : h.first ≡ g.first

abbrev pub Pairs : (Group → Group → Type 0) → List Group → List Group → Type 0
Pairs R [] [] = Unit {0}
Pairs R (g ∷ gs) (h ∷ hs) = R g h × Pairs R gs hs
Pairs R [] (h ∷ hs) = ⊥
Pairs R (g ∷ gs) [] = ⊥

pub pairs_mapped : (R : Group → Group → Type 0) (f : Group → Group) → ((g : Group) → R g (f g)) → (gs : List Group) → Pairs R gs (map f gs)
pairs_mapped R f all [] = tt
pairs_mapped R f all (g ∷ gs) = (all g, pairs_mapped R f all gs)

pub pairs_weaker : (R Q : Group → Group → Type 0) → ((g h : Group) → R g h → Q g h) → (gs hs : List Group) → Pairs R gs hs → Pairs Q gs hs
pairs_weaker R Q f [] [] p = tt
pairs_weaker R Q f (g ∷ gs) (h ∷ hs) p = (f g h p.0, pairs_weaker R Q f gs hs p.1)
pairs_weaker R Q f [] (h ∷ hs) p = absurd p
pairs_weaker R Q f (g ∷ gs) [] p = absurd p

-- a property of the first list's groups is one of the second's
pub pairs_each : (R : Group → Group → Type 0) (P Q : Group → Type 0) → ((g h : Group) → R g h → P g → Q h) → (gs hs : List Group) → Pairs R gs hs → Each P gs → Each Q hs
pairs_each R P Q f [] [] p all = tt
pairs_each R P Q f (g ∷ gs) (h ∷ hs) p all = (f g h p.0 all.0, pairs_each R P Q f gs hs p.1 all.1)
pairs_each R P Q f [] (h ∷ hs) p all = absurd p
pairs_each R P Q f (g ∷ gs) [] p all = absurd p

pub same_kind : (g h : Group) → IsKept g h → is_writethrough h ≡ is_writethrough g
same_kind g h k = λ i. is_writethrough (record h { def = k.def i })

pub same_covers : (g h : Group) → IsKept g h → (u : TableId) → covers u h ≡ covers u g
same_covers g h k u = λ i. covers u (record h { def = k.def i })

pub same_live : (gs hs : List Group) → Pairs IsKept gs hs → live_groups_of hs ≡ live_groups_of gs
same_live [] [] p = refl
same_live [] (h ∷ hs) p = absurd p
same_live (g ∷ gs) [] p = absurd p
same_live (g ∷ gs) (h ∷ hs) p =
    ap (λ b. map live_group (cond b (h ∷ filter is_writethrough hs) (filter is_writethrough hs))) (same_kind g h p.0) ∙ by (is_writethrough g) (same_live gs hs p.1)
  where
    by : (b : Bool) → live_groups_of hs ≡ live_groups_of gs → map live_group (cond b (h ∷ filter is_writethrough hs) (filter is_writethrough hs)) ≡ map live_group (cond b (g ∷ filter is_writethrough gs) (filter is_writethrough gs))
    by true rest = λ i. record { tables = Rattle.cache_tier.specs.Commits.tables_of (p.0.def i).tree; first = p.0.first i } ∷ rest i
    by false rest = rest

pub same_tables : (gs hs : List Group) → Pairs IsKept gs hs → (u : TableId) → is_table_of is_writethrough hs u ≡ is_table_of is_writethrough gs u
same_tables [] [] p u = refl
same_tables [] (h ∷ hs) p u = absurd p
same_tables (g ∷ gs) [] p u = absurd p
same_tables (g ∷ gs) (h ∷ hs) p u = λ i. (same_kind g h p.0 i && same_covers g h p.0 u i) || same_tables gs hs p.1 u i

pub same_through : (gs hs : List Group) → Pairs IsKept gs hs → (ops : List Op) → are_written_through hs ops ≡ are_written_through gs ops
same_through gs hs p [] = refl
same_through gs hs p (op ∷ ops) = λ i. same_tables gs hs p (table_of op) i && same_through gs hs p ops i

pub all_same_through : (gs hs : List Group) → Pairs IsKept gs hs → (owns : List (List Op)) → list_all (are_written_through hs) owns ≡ list_all (are_written_through gs) owns
all_same_through gs hs p [] = refl
all_same_through gs hs p (own ∷ owns) = λ i. same_through gs hs p own i && all_same_through gs hs p owns i

any_covers : (gs hs : List Group) → Pairs IsKept gs hs → (u : TableId) → list_any (covers u) hs ≡ list_any (covers u) gs
any_covers [] [] p u = refl
any_covers [] (h ∷ hs) p u = absurd p
any_covers (g ∷ gs) [] p u = absurd p
any_covers (g ∷ gs) (h ∷ hs) p u = λ i. same_covers g h p.0 u i || any_covers gs hs p.1 u i

pub own_tables_kept : (gs hs : List Group) → Pairs IsKept gs hs → HaveOwnTables gs → HaveOwnTables hs
own_tables_kept [] [] p own = tt
own_tables_kept [] (h ∷ hs) p own = absurd p
own_tables_kept (g ∷ gs) [] p own = absurd p
own_tables_kept (g ∷ gs) (h ∷ hs) p own = (λ u e. any_covers gs hs p.1 u ∙ own.0 u (sym (same_covers g h p.0 u) ∙ e), own_tables_kept gs hs p.1 own.1)

pub catalogued_kept : (schema : List TableDef) (g h : Group) → IsKept g h → IsCatalogued schema g → IsCatalogued schema h
catalogued_kept schema g h k c =
    let e = k.def in
    record {
      sound = ap (λ (d : GroupDef). Rattle.instances.specs.Trees.is_sound schema d.tree) e ∙ c.sound;
      plain = λ through. ap (λ (d : GroupDef). Rattle.cache_tier.specs.StandingBetween.has_no_where d.tree) e ∙ c.plain (sym (same_kind g h k) ∙ through);
      free = λ through. ap (λ (d : GroupDef). Rattle.cache_tier.specs.StandingBetween.foreign_key_in schema d.tree.root.table) e ∙ c.free (sym (same_kind g h k) ∙ through);
    }

-- which group has a table in both
pub data FoundBoth (R : Group → Group → Type 0) (u : TableId) (gs hs : List Group) : Type 0 where
  NoGroup : find (covers u) gs ≡ None → find (covers u) hs ≡ None → FoundBoth R u gs hs
  OneGroup : (g : Group) → (h : Group) → find (covers u) gs ≡ Some g → find (covers u) hs ≡ Some h → R g h → FoundBoth R u gs hs

pub found_both : (R : Group → Group → Type 0) → ((g h : Group) → R g h → IsKept g h) → (u : TableId) (gs hs : List Group) → Pairs R gs hs → FoundBoth R u gs hs
found_both R kept u [] [] p = NoGroup refl refl
found_both R kept u [] (h ∷ hs) p = absurd p
found_both R kept u (g ∷ gs) [] p = absurd p
found_both R kept u (g ∷ gs) (h ∷ hs) p = by (covers u g) refl (found_both R kept u gs hs p.1)
  where
    by : (b : Bool) → covers u g ≡ b → FoundBoth R u gs hs → FoundBoth R u (g ∷ gs) (h ∷ hs)
    by true e rest = OneGroup g h (ap (λ b. cond b (Some g) (find (covers u) gs)) e) (ap (λ b. cond b (Some h) (find (covers u) hs)) (same_covers g h (kept g h p.0) u ∙ e)) p.0
    by false e (NoGroup x y) = NoGroup (ap (λ b. cond b (Some g) (find (covers u) gs)) e ∙ x) (ap (λ b. cond b (Some h) (find (covers u) hs)) (same_covers g h (kept g h p.0) u ∙ e) ∙ y)
    by false e (OneGroup a b x y r) = OneGroup a b (ap (λ b. cond b (Some g) (find (covers u) gs)) e ∙ x) (ap (λ b. cond b (Some h) (find (covers u) hs)) (same_covers g h (kept g h p.0) u ∙ e) ∙ y) r
