-- A table that is made has a name of its own.
use Rattle.std.proofs.Common.{◌≡◌, ◌⊎◌, inl, inr, ℕ, zero, suc, ◌+◌, ◌<◌, ◌^◌, List, [], ◌∷◌, ◌++◌, Bool, true, false, cond, is_some, nat_le, nat_lt, Option, Some, None, length, slice_get, refl, sym, ap, ◌∙◌, arith}
use Rattle.std.proofs.lemmas.Bool.{leb-false, lt-ltb}
use Rattle.std.specs.Cmp.Lexicographic.{other_text}
use Rattle.std.specs.List.{position_from}
use Rattle.std.proofs.lemmas.Iterator.Adapters.{position_from-zero}
use Rattle.std.specs.Option.{option_and_then, option_map, option_or}
use Rattle.row_types.specs.declared.declaration.TableDeclaration.{TableDeclaration}
use Rattle.row_types.specs.declared.rule.Rule.{Rule}
use Rattle.tier_base.specs.declared.limit.Limit.{Limit}
use Rattle.tier_base.specs.declared.limit.Limit.TheVariants.{Tables}
use Rattle.tier_base.specs.Limits.{greatest}
use Rattle.tier_base.specs.declared.number.TableId.{TableId}
use Rattle.table_defs.specs.Declarations.{broken_at, fault_of, key_fault, limit_of, missing_parent, resolved, taken_name, type_fault, wrong_name}
use Rattle.table_defs.specs.Names.{place_of_table, same_name, table_id}
use Rattle.table_defs.specs.declared.definition.TableDef.{TableDef}
use Rattle.tier_base.specs.declared.code.Code.{Code}
use Rattle.tier_base.specs.declared.code.Code.TheVariants.{NameInUse, UnknownColumn, UnknownTable}
use Rattle.cache_tier.specs.ConsoleSteps.{table_fault}
use Rattle.cache_tier.specs.TierStates.{Tier}
use Rattle.reopened_laws.specs.Leaving.{HaveOwnTableNames}

-- no table has the name
abbrev pub IsFreshName : List ℕ → List TableDef → Type 0
IsFreshName name schema = (i : ℕ) (a : TableDef) → slice_get schema i ≡ Some a → same_name a.name name ≡ false

abbrev is_called : List ℕ → TableDef → Bool
is_called name def = same_name def.name name

-- ---- a definition more

at_last : (schema : List TableDef) (def : TableDef) (i : ℕ) (a : TableDef) → slice_get (schema ++ def ∷ []) i ≡ Some a → (slice_get schema i ≡ Some a) ⊎ ((i ≡ length schema) × (a ≡ def))
at_last [] def zero a e = inr (refl, let same : Some def ≡ Some a = e in cc)
at_last [] def (suc i) a e = cc
at_last (x ∷ schema) def zero a e = inl e
at_last (x ∷ schema) def (suc i) a e = by (at_last schema def i a e)
  where
    by : (slice_get schema i ≡ Some a) ⊎ ((i ≡ length schema) × (a ≡ def)) → (slice_get schema i ≡ Some a) ⊎ ((suc i ≡ suc (length schema)) × (a ≡ def))
    by (inl p) = inl p
    by (inr (n, p)) = inr (ap suc n, p)

apart : (a b : TableDef) → a.name ≡ b.name → same_name a.name b.name ≡ false → ⊥
apart a b same other = other_text a.name b.name (sym other) same

pub own_more : (schema : List TableDef) (def : TableDef) → HaveOwnTableNames schema → IsFreshName def.name schema → HaveOwnTableNames (schema ++ def ∷ [])
own_more schema def own fresh i j a b x y same = by (at_last schema def i a x) (at_last schema def j b y)
  where
    by : (slice_get schema i ≡ Some a) ⊎ ((i ≡ length schema) × (a ≡ def)) → (slice_get schema j ≡ Some b) ⊎ ((j ≡ length schema) × (b ≡ def)) → i ≡ j
    by (inl p) (inl q) = own i j a b p q same
    by (inl p) (inr (n, q)) = absurd (apart a def (same ∙ ap (λ (d : TableDef). d.name) q) (fresh i a p))
    by (inr (n, p)) (inl q) = absurd (apart b def (sym same ∙ ap (λ (d : TableDef). d.name) p) (fresh j b q))
    by (inr (n, p)) (inr (m, q)) = n ∙ sym m

-- ---- a name that isn't taken

first_none : {X : Type 0} (a b : Option X) → option_or a b ≡ None → a ≡ None
first_none None b e = refl
first_none (Some x) b e = cc

second_none : {X : Type 0} (a b : Option X) → option_or a b ≡ None → b ≡ None
second_none None b e = e
second_none (Some x) b e = cc

told_none : (c : Code) (o : Option (List ℕ)) → broken_at c o ≡ None → o ≡ None
told_none c None e = refl
told_none c (Some name) e = cc

not_taken : (b : Bool) (name : List ℕ) → cond b (Some name) None ≡ None → b ≡ false
not_taken true name e = cc
not_taken false name e = refl

mapped_none : {X Y : Type 0} (f : X → Y) (o : Option X) → option_map f o ≡ None → o ≡ None
mapped_none f None e = refl
mapped_none f (Some x) e = cc

few : (b : Bool) (rest : Option Limit) → cond b (Some Tables) rest ≡ None → b ≡ false
few true rest e = cc
few false rest e = refl

-- the place at which a name is found
within : (name : List ℕ) (k n : ℕ) (xs : List TableDef) → position_from (is_called name) n xs ≡ Some k → k < n + length xs
within name k n [] e = cc
within name k n (x ∷ xs) e = at (is_called name x) e (within name k (n + 1) xs)
  where
    at : (b : Bool) → cond b (Some n) (position_from (is_called name) (n + 1) xs) ≡ Some k → (position_from (is_called name) (n + 1) xs ≡ Some k → k < n + 1 + length xs) → k < n + suc (length xs)
    at true e rest = let same : n ≡ k = cc in omega (arith, same)
    at false e rest = let lt = rest e in omega (arith, lt)

never_there : (name : List ℕ) (n : ℕ) (xs : List TableDef) → position_from (is_called name) n xs ≡ None → IsFreshName name xs
never_there name n [] e i a x = cc
never_there name n (y ∷ xs) e i a x = at (is_called name y) refl e i x (never_there name (n + 1) xs)
  where
    at : (b : Bool) → is_called name y ≡ b → cond b (Some n) (position_from (is_called name) (n + 1) xs) ≡ None → (i : ℕ) → slice_get (y ∷ xs) i ≡ Some a → (position_from (is_called name) (n + 1) xs ≡ None → IsFreshName name xs)
        → same_name a.name name ≡ false
    at true is e i x rest = cc
    at false is e zero x rest = let same : y ≡ a = cc in ap (is_called name) (sym same) ∙ is
    at false is e (suc i) x rest = rest e i a x

-- where no table has it, the place is told of none
pub placed_none : (schema : List TableDef) (name : List ℕ) → is_some (place_of_table schema name) ≡ false → nat_le (greatest Tables) (length schema) ≡ false → IsFreshName name schema
placed_none schema name none short = by (position_from (is_called name) 0 schema) refl
  where
    found : (o : Option TableId) → is_some o ≡ false → o ≡ None
    found None e = refl
    found (Some t) e = cc

    by : (o : Option ℕ) → position_from (is_called name) 0 schema ≡ o → IsFreshName name schema
    by None e = never_there name 0 schema e
    by (Some k) e = absurd (placed (found (place_of_table schema name) none))
      where
        lt : nat_lt k (2 ^ 32) ≡ true
        lt =
            let below : k < 0 + length schema = within name k 0 schema e in
            let small : length schema < greatest Tables = leb-false (greatest Tables) (length schema) short in
            lt-ltb k (2 ^ 32) (omega (arith, below, small))

        placed : place_of_table schema name ≡ None → ⊥
        placed is =
            let there : Some (record { 0 = k }) ≡ None = sym (ap (option_and_then table_id) e ∙ ap (λ b. cond b (Some (record { 0 = k })) None) lt) ∙ sym (ap (option_and_then table_id) (position_from-zero (is_called name) schema)) ∙ is in
            no_some there
          where
            no_some : {X : Type 0} {x : X} → Some x ≡ None → ⊥
            no_some e = cc

-- what comes behind the names of a declaration
abbrev past_columns : List TableDef → TableDeclaration → Option Rule
past_columns schema d = option_or (broken_at NameInUse (taken_name schema d.name)) (option_or (key_fault d schema) (type_fault d.columns))

abbrev past_names : List TableDef → TableDeclaration → Option Rule
past_names schema d = option_or (broken_at UnknownColumn (wrong_name d)) (past_columns schema d)

pub taken_none : (t : Tier) (d : TableDeclaration) → table_fault t d ≡ None → is_some (place_of_table t.schema d.name) ≡ false
taken_none t d e =
    let fault : fault_of d t.schema ≡ None = first_none (fault_of d t.schema) _ e in
    let rest = second_none (broken_at UnknownTable (missing_parent t.schema d.foreign_key)) (past_names t.schema d) fault in
    let own = second_none (broken_at UnknownColumn (wrong_name d)) (past_columns t.schema d) rest in
    not_taken (is_some (place_of_table t.schema d.name)) d.name (told_none NameInUse (taken_name t.schema d.name) (first_none (broken_at NameInUse (taken_name t.schema d.name)) (option_or (key_fault d t.schema) (type_fault d.columns)) own))

pub fresh_of : (t : Tier) (d : TableDeclaration) → table_fault t d ≡ None → IsFreshName d.name t.schema
fresh_of t d e =
    let limit : limit_of (resolved d t.schema) t.schema ≡ None = mapped_none _ (limit_of (resolved d t.schema) t.schema) (second_none _ _ (second_none (fault_of d t.schema) _ e)) in
    placed_none t.schema d.name (taken_none t d e) (few (nat_le (greatest Tables) (length t.schema)) _ limit)
