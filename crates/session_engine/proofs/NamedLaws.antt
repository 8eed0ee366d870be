-- Groups by their names, as the catalog and the tier's reader have them.
use Rattle.std.proofs.Common.{◌≡◌, ℕ, zero, suc, ◌+◌, Bool, not, cond, nat_lt, Option, Some, None, List, [], ◌∷◌, map, slice_get, refl, sym, ap, subst, ◌∙◌}
use Rattle.std.specs.List.{position, prefix_len}
use Rattle.std.specs.Option.{option_and_then, option_map, option_or}
use Rattle.std.proofs.lemmas.List.{length-map}
use Rattle.row_types.specs.declared.rule.Refused.{Refused}
use Rattle.row_types.specs.declared.rule.Rule.{Rule}
use Rattle.tier_base.specs.declared.code.Code.TheVariants as code
use Rattle.table_defs.specs.Declarations.{IsRefusedBy}
use Rattle.table_defs.specs.declared.definition.TableDef.{TableDef}
use Rattle.sql_subset.specs.declared.stmt.OfGroup.{OfGroup}
use Rattle.sql_subset.specs.declared.stmt.Stmt.TheVariants as statement
use Rattle.sql_subset.specs.declared.stmt.Which.{Which}
use Rattle.group_catalog.specs.Catalogs.{groups_in}
use Rattle.cache_tier.specs.Conditions.{root_def, which_names}
use Rattle.cache_tier.specs.Groups.{Group, group_at, is_called, place_called}
use Rattle.cache_tier.specs.Order.{Broken, broken_by_name, first_broken, flush_broken, of_group, refusal}
use Rattle.cache_tier.specs.Rules.{named}
use Rattle.cache_tier.specs.TierStates.{Session, Tier}
use Rattle.stored_tier.specs.declared.tier.Tier.{Tier as Stored}
use Rattle.stored_tier.specs.Stored.{IsStoredAs, without_list}

-- what stands at the place of the first that passes, in a list of which the elements look the same to the test

front_same : {A B : Type 0} (p : B → Bool) (f : A → B) (xs : List A) → prefix_len p (map f xs) ≡ prefix_len (λ x. p (f x)) xs
front_same p f [] = refl
front_same p f (x ∷ xs) = ap (λ n. cond (p (f x)) (1 + n) 0) (front_same p f xs)

pub position_same : {A B : Type 0} (p : B → Bool) (f : A → B) (xs : List A) → position p (map f xs) ≡ position (λ x. p (f x)) xs
position_same p f xs = λ i. cond (nat_lt (front_same (λ y. not (p y)) f xs i) (length-map xs f i)) (Some (front_same (λ y. not (p y)) f xs i)) None

pub got_same : {A B : Type 0} (f : A → B) (xs : List A) (i : ℕ) → slice_get (map f xs) i ≡ option_map f (slice_get xs i)
got_same f [] i = refl
got_same f (x ∷ xs) zero = refl
got_same f (x ∷ xs) (suc i) = got_same f xs i

at_same : {A B : Type 0} (f : A → B) (xs : List A) (o : Option ℕ) → option_and_then (slice_get (map f xs)) o ≡ option_map f (option_and_then (slice_get xs) o)
at_same f xs None = refl
at_same f xs (Some i) = got_same f xs i

-- the group of a name
pub named_seen : (t : Stored) (a : Tier) (name : List ℕ) → IsStoredAs t a → group_at (groups_in t.catalog) (place_called (groups_in t.catalog) name) ≡ option_map without_list (group_at a.groups (place_called a.groups name))
named_seen t a name is =
    ap (λ gs. group_at gs (place_called gs name)) (sym is.groups)
    ∙ ap (group_at (map without_list a.groups)) (position_same (is_called name) without_list a.groups)
    ∙ at_same without_list a.groups (place_called a.groups name)

-- what a statement on a group breaks
of_none : (a : Tier) (name : List ℕ) (broken : Group → Broken) → group_at a.groups (place_called a.groups name) ≡ None → of_group a name broken ≡ broken_by_name (Some (named code.UnknownGroup name))
of_none a name broken e = rw e refl

of_some : (a : Tier) (name : List ℕ) (broken : Group → Broken) (g : Group) → group_at a.groups (place_called a.groups name) ≡ Some g → of_group a name broken ≡ broken g
of_some a name broken g e = rw e refl

-- FLUSH

-- 112
pub flush_unknown : (t : Stored) (a : Tier) (s : Session) (u : OfGroup) (e : Refused) → IsStoredAs t a → None ≡ group_at (groups_in t.catalog) (place_called (groups_in t.catalog) u.group) → IsRefusedBy (Some (named code.UnknownGroup u.group)) e → IsRefusedBy (refusal a s (statement.Flush u)) e
flush_unknown t a s u e is none by_it = by (group_at a.groups (place_called a.groups u.group)) refl
  where
    by : (o : Option Group) → group_at a.groups (place_called a.groups u.group) ≡ o → IsRefusedBy (refusal a s (statement.Flush u)) e
    by None found = subst (λ f. IsRefusedBy f e) (sym (ap first_broken (of_none a u.group (flush_broken a s u.which) found))) by_it
    by (Some g) found = let no : None ≡ Some (without_list g) = none ∙ named_seen t a u.group is ∙ ap (option_map without_list) found in cc

-- 103 and 115 of a group that there is
abbrev pub FlushRefused : List TableDef → Group → Which → Refused → Type 0
FlushRefused schema g which e =
    IsRefusedBy (option_or (which_names (slice_get schema g.def.tree.root.table.0) which) (Some (named code.WrongState g.def.name))) e

pub flush_known : (t : Stored) (a : Tier) (s : Session) (u : OfGroup) (g : Group) (e : Refused) → IsStoredAs t a → Some g ≡ group_at (groups_in t.catalog) (place_called (groups_in t.catalog) u.group) → FlushRefused t.schema g u.which e → IsRefusedBy (refusal a s (statement.Flush u)) e
flush_known t a s u g e is some told = by (group_at a.groups (place_called a.groups u.group)) refl
  where
    of_this : (h : Group) → without_list h ≡ g → IsRefusedBy (first_broken (flush_broken a s u.which h)) e
    of_this h same = by_names (which_names (root_def a h) u.which) refl
      where
        known : IsRefusedBy (option_or (which_names (root_def a h) u.which) (Some (named code.WrongState h.def.name))) e
        known =
            subst (λ d. IsRefusedBy (option_or (which_names (slice_get d h.def.tree.root.table.0) u.which) (Some (named code.WrongState h.def.name))) e) (sym is.schema)
            (subst (λ (x : Group). FlushRefused t.schema x u.which e) (sym same) told)

        by_names : (o : Option Rule) → which_names (root_def a h) u.which ≡ o → IsRefusedBy (first_broken (flush_broken a s u.which h)) e
        by_names o names =
            subst (λ f. IsRefusedBy f e) (sym (first o names)) (subst (λ p. IsRefusedBy (option_or p (Some (named code.WrongState h.def.name))) e) names known)
          where
            first : (o : Option Rule) → which_names (root_def a h) u.which ≡ o → first_broken (flush_broken a s u.which h) ≡ option_or o (Some (named code.WrongState h.def.name))
            first o names = ap (λ p. option_or p (Some (named code.WrongState h.def.name))) names

    by : (o : Option Group) → group_at a.groups (place_called a.groups u.group) ≡ o → IsRefusedBy (refusal a s (statement.Flush u)) e
    by None found = let no : Some g ≡ None = some ∙ named_seen t a u.group is ∙ ap (option_map without_list) found in cc
    by (Some h) found =
        let both : Some g ≡ Some (without_list h) = some ∙ named_seen t a u.group is ∙ ap (option_map without_list) found in
        let same : g ≡ without_list h = cc in
        subst (λ b. IsRefusedBy (first_broken b) e) (sym (of_some a u.group (flush_broken a s u.which) h found)) (of_this h (sym same))
