-- The tables that sessions find by name, one by one.
use Rattle.std.proofs.Common.{◌≡◌, ◌<◌, ◌≤◌, ℕ, zero, suc, ◌+◌, Bool, true, not, cond, ◌||◌, Some, List, [], ◌∷◌, ◌++◌, length, take, get_or, slice_get, refl, sym, ap, ◌∙◌, arith, inl, inr, Option, None, is_some, false, subst}
use Rattle.std.specs.List.{list_any}
use Rattle.std.specs.Option.{option_and_then}
use Rattle.std.proofs.lemmas.Bool.{cases_lt}
use Rattle.tier_base.specs.declared.number.TableId.{TableId}
use Rattle.table_defs.specs.declared.definition.TableDef.{TableDef}
use Rattle.cache_tier.specs.Groups.{Group, definitions_of, is_defined_on, is_table_of}
use Rattle.cache_tier.specs.Routes.{hidden, hidden_where}
use Rattle.group_store.specs.declared.directory.Home.{Home}
use Rattle.group_store.specs.Stores.{Kept}
use Rattle.stored_tier.specs.Naming.{AreNamed, HasNoHome, is_uncached, named_def}
use Rattle.stored_tier.specs.Stored.{named_where_cached}

-- a group has the table
pub cached_seen : (groups : List Group) (t : TableId) → list_any (is_defined_on t) (definitions_of groups) ≡ is_table_of (λ g. true) groups t
cached_seen [] t = refl
cached_seen (g ∷ groups) t = ap (λ b. is_defined_on t g.def || b) (cached_seen groups t)

-- one definition more

hidden_more : (test : TableId → Bool) (place : ℕ) (defs : List TableDef) (n : ℕ) (def : TableDef) → n < length defs → def ≡ get_or defs n def
    → hidden_where test place (take (n + 1) defs) ≡ hidden_where test place (take n defs) ++ cond (test (record { 0 = place + n })) (hidden def) def ∷ []
hidden_more test place [] n def lt is = absurd (omega arith)
hidden_more test place (d ∷ defs) zero def lt is =
    let here : place ≡ place + 0 = omega arith in
    ap (λ p. cond (test (record { 0 = p })) (hidden d) d ∷ []) here
    ∙ ap (λ e. cond (test (record { 0 = place + 0 })) (hidden e) e ∷ []) (sym is)
hidden_more test place (d ∷ defs) (suc n) def lt is =
    let more : suc n + 1 ≡ suc (n + 1) = omega arith in
    let there : suc place + n ≡ place + suc n = omega arith in
    ap (λ m. hidden_where test place (take m (d ∷ defs))) more
    ∙ ap (λ ds. cond (test (record { 0 = place })) (hidden d) d ∷ ds)
    (hidden_more test (suc place) defs n def (omega arith) is
    ∙ ap (λ p. hidden_where test (suc place) (take n defs) ++ cond (test (record { 0 = p })) (hidden def) def ∷ []) there)

pub named_more : (groups : List Group) (defs : List TableDef) (n : ℕ) (def : TableDef) → n < length defs → def ≡ get_or defs n def
    → named_where_cached groups (take (n + 1) defs) ≡ named_where_cached groups (take n defs) ++ named_def groups (record { 0 = n }) def ∷ []
named_more groups defs n def lt is =
    let here : 0 + n ≡ n = omega arith in
    hidden_more (is_uncached groups) 0 defs n def lt is
    ∙ ap (λ p. named_where_cached groups (take n defs) ++ named_def groups (record { 0 = p }) def ∷ []) here

-- one definition

pub name_kept : (groups : List Group) (table : TableId) (def copy : TableDef) (b : Bool) → b ≡ list_any (is_defined_on table) (definitions_of groups) → b ≡ true → copy ≡ def → copy ≡ named_def groups table def
name_kept groups table def copy b is had same =
    same ∙ sym (ap (λ c. cond (not c) (hidden def) def) (sym (cached_seen groups table) ∙ sym is ∙ had))

pub name_hidden : (groups : List Group) (table : TableId) (def copy : TableDef) (name : List ℕ) (b : Bool) → b ≡ list_any (is_defined_on table) (definitions_of groups) → b ≡ false → copy ≡ def → name ≡ []
    → record copy { name = name } ≡ named_def groups table def
name_hidden groups table def copy name b is lacks same none =
    ap (λ n. record copy { name = n }) none ∙ ap hidden same
    ∙ sym (ap (λ c. cond (not c) (hidden def) def) (sym (cached_seen groups table) ∙ sym is ∙ lacks))

-- tables without a home

none_there : (o : Option Home) → is_some o ≡ false → o ≡ None
none_there None is = refl
none_there (Some home) is = cc

pub home_more : (directory : List (Option Home)) (first number : ℕ) (o : Option Home) → o ≡ option_and_then (λ home. home) (slice_get directory number) → is_some o ≡ false → HasNoHome directory first number → HasNoHome directory first (number + 1)
home_more directory first number o is none before n low high =
    elim (cases_lt n number) [
      | inl lt ↦ before n low lt
      | inr ge ↦
          let same : number ≡ n = omega arith in
          subst (λ (k : ℕ). option_and_then (λ home. home) (slice_get directory k) ≡ None) same (sym is ∙ none_there o none)
    ]

pub home_fewer : (directory : List (Option Home)) (first number end : ℕ) → end ≤ number → HasNoHome directory first number → HasNoHome directory first end
home_fewer directory first number end le before n low high = before n low (omega arith)

-- the same of the same stores and the same schema
pub named_as : (groups : List Group) (stores others : List Kept) (schema same visible : List TableDef) (directory : List (Option Home)) → stores ≡ others → schema ≡ same → AreNamed groups stores schema visible directory → AreNamed groups others same visible directory
named_as groups stores others schema same visible directory one two named =
    subst (λ ss. AreNamed groups ss same visible directory) one (subst (λ defs. AreNamed groups stores defs visible directory) two named)
