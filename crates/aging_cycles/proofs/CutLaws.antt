-- The rows of an instance stay where another leaves.
use Rattle.std.proofs.Common.{◌≡◌, ℕ, zero, suc, Bool, true, false, not, cond, ◌&&◌, ◌||◌, nat_eq, Option, Some, None, is_some, List, slice_get, refl, sym, ap, ◌∙◌, arith, eqb-true}
use Rattle.std.specs.Option.{option_and_then, option_map}
use Rattle.std.specs.FinMap as fm
use Rattle.row_types.specs.declared.value.Value.{Value}
use Rattle.indexed_rows.specs.Rows.{Table, is_same, key_of}
use Rattle.indexed_rows.proofs.EntryLaws.{same_itself, same_values}
use Rattle.instances.specs.Views.{kept_at}
use Rattle.order_laws.proofs.TruthLaws.{both_true}
use Rattle.group_store.specs.Trees.{Layer, leads, parent_of, passes_up}

abbrev Row : Type 0
Row = List Value

or_false : (b : Bool) → (b || false) ≡ b
or_false true = refl
or_false false = refl

not_zero : (i : ℕ) → nat_eq (suc i) 0 ≡ false
not_zero i = by (nat_eq (suc i) 0) refl
  where
    by : (b : Bool) → nat_eq (suc i) 0 ≡ b → b ≡ false
    by true e = let z = eqb-true (suc i) 0 e in absurd (omega (arith, z))
    by false e = refl

module _ (layers : List Layer) (tables : List Table) where
  -- a root row leads to itself alone
  pub root_leads : (a : Row) (n : ℕ) (k : Row) → leads layers tables 0 a n zero k ≡ (is_same k a && fm.contains_key (kept_at tables 0) a)
  root_leads a zero k = refl
  root_leads a (suc n) k = or_false (is_same k a && fm.contains_key (kept_at tables 0) a)

  -- another where its parent does
  pub child_leads : (a : Row) (n i : ℕ) (k : Row) → leads layers tables 0 a (suc n) (suc i) k ≡ passes_up (leads layers tables 0 a n) (parent_of layers tables (suc i) k)
  child_leads a n i k = ap (λ b. ((b && is_same k a) && fm.contains_key (kept_at tables 0) a) || passes_up (leads layers tables 0 a n) (parent_of layers tables (suc i) k)) (not_zero i)

  pub none_leads : (a : Row) (i : ℕ) (k : Row) → leads layers tables 0 a zero (suc i) k ≡ false
  none_leads a i k = ap (λ b. (b && is_same k a) && fm.contains_key (kept_at tables 0) a) (not_zero i)

  -- a row leads to one root
  pub one_root : (a b : Row) (n m p : ℕ) (k : Row) → leads layers tables 0 a n p k ≡ true → leads layers tables 0 b m p k ≡ true → a ≡ b
  one_root a b n m zero k x y =
      let one = same_values k a (both_true (is_same k a) (fm.contains_key (kept_at tables 0) a) (sym (root_leads a n k) ∙ x)).0 in
      let other = same_values k b (both_true (is_same k b) (fm.contains_key (kept_at tables 0) b) (sym (root_leads b m k) ∙ y)).0 in
      sym one ∙ other
  one_root a b zero m (suc i) k x y = let z : true ≡ false = sym x ∙ none_leads a i k in cc
  one_root a b (suc n) zero (suc i) k x y = let z : true ≡ false = sym y ∙ none_leads b i k in cc
  one_root a b (suc n) (suc m) (suc i) k x y =
      by (parent_of layers tables (suc i) k) (sym (child_leads a n i k) ∙ x) (sym (child_leads b m i k) ∙ y) (λ p q v w. one_root a b n m p q v w)
    where
      by : (o : Option (ℕ × Row)) → passes_up (leads layers tables 0 a n) o ≡ true → passes_up (leads layers tables 0 b m) o ≡ true
          → ((p : ℕ) (q : Row) → leads layers tables 0 a n p q ≡ true → leads layers tables 0 b m p q ≡ true → a ≡ b) → a ≡ b
      by None v w up = cc
      by (Some e) v w up = up e.0 e.1 v w

  -- where another root's instance has left
  module _ (gone root : Row) (left : List Table) (most : ℕ) (other : is_same root gone ≡ false)
      (got : (q : ℕ) (k : Row) → fm.get (kept_at left q) k ≡ cond (not (leads layers tables 0 gone most q k)) (fm.get (kept_at tables q) k) None) where
    differ : root ≡ gone → true ≡ false
    differ same = sym (same_itself root gone same) ∙ other

    -- the root row is still there
    pub root_there : fm.get (kept_at left 0) root ≡ fm.get (kept_at tables 0) root
    root_there =
        got 0 root
        ∙ ap (λ b. cond (not b) (fm.get (kept_at tables 0) root) None) (root_leads gone most root ∙ ap (λ b. b && fm.contains_key (kept_at tables 0) gone) other)

    -- and so is each that leads to it
    pub row_there : (n q : ℕ) (k : Row) → leads layers tables 0 root n q k ≡ true → fm.get (kept_at left q) k ≡ fm.get (kept_at tables q) k
    row_there n q k e = got q k ∙ ap (λ b. cond (not b) (fm.get (kept_at tables q) k) None) (isnt (leads layers tables 0 gone most q k) refl)
      where
        isnt : (b : Bool) → leads layers tables 0 gone most q k ≡ b → b ≡ false
        isnt true h = let z = differ (one_root root gone n most q k e h) in cc
        isnt false h = refl

    pub leads_stay : (n q : ℕ) (k : Row) → leads layers left 0 root n q k ≡ leads layers tables 0 root n q k
    leads_stay n zero k =
        or_root n ∙ ap (λ o. is_same k root && is_some o) root_there ∙ sym (root_leads root n k)
      where
        or_root : (n : ℕ) → leads layers left 0 root n zero k ≡ (is_same k root && fm.contains_key (kept_at left 0) root)
        or_root zero = refl
        or_root (suc n) = or_false (is_same k root && fm.contains_key (kept_at left 0) root)
    leads_stay zero (suc i) k = ap (λ b. (b && is_same k root) && fm.contains_key (kept_at left 0) root) (not_zero i) ∙ sym (none_leads root i k)
    leads_stay (suc n) (suc i) k =
        ap (λ b. ((b && is_same k root) && fm.contains_key (kept_at left 0) root) || passes_up (leads layers left 0 root n) (parent_of layers left (suc i) k)) (not_zero i)
        ∙ by (leads layers tables 0 gone most (suc i) k) refl (λ p q. leads_stay n p q)
        ∙ sym (child_leads root n i k)
      where
        nothing : (o : Option Layer) → option_and_then {U = ℕ × Row} (λ (l : Layer). option_map (λ (row : Row). (l.parent, key_of l.foreign row)) None) o ≡ None
        nothing None = refl
        nothing (Some l) = refl

        each : (o : Option (ℕ × Row)) → ((p : ℕ) (q : Row) → leads layers left 0 root n p q ≡ leads layers tables 0 root n p q) → passes_up (leads layers left 0 root n) o ≡ passes_up (leads layers tables 0 root n) o
        each None ih = refl
        each (Some e) ih = ih e.0 e.1

        isnt : (b : Bool) → passes_up (leads layers tables 0 root n) (parent_of layers tables (suc i) k) ≡ b → leads layers tables 0 gone most (suc i) k ≡ true → b ≡ false
        isnt true e h = let z = differ (one_root root gone (suc n) most (suc i) k (child_leads root n i k ∙ e) h) in cc
        isnt false e h = refl

        by : (b : Bool) → leads layers tables 0 gone most (suc i) k ≡ b → ((p : ℕ) (q : Row) → leads layers left 0 root n p q ≡ leads layers tables 0 root n p q)
            → passes_up (leads layers left 0 root n) (parent_of layers left (suc i) k) ≡ passes_up (leads layers tables 0 root n) (parent_of layers tables (suc i) k)
        by true h ih =
            ap (λ o. passes_up (leads layers left 0 root n) (option_and_then {U = ℕ × Row} (λ (l : Layer). option_map (λ (row : Row). (l.parent, key_of l.foreign row)) o) (slice_get layers i)))
            (got (suc i) k ∙ ap (λ b. cond (not b) (fm.get (kept_at tables (suc i)) k) None) h)
            ∙ ap (passes_up (leads layers left 0 root n)) (nothing (slice_get layers i))
            ∙ sym (isnt (passes_up (leads layers tables 0 root n) (parent_of layers tables (suc i) k)) refl h)
        by false h ih =
            ap (λ o. passes_up (leads layers left 0 root n) (option_and_then {U = ℕ × Row} (λ (l : Layer). option_map (λ (row : Row). (l.parent, key_of l.foreign row)) o) (slice_get layers i)))
            (got (suc i) k ∙ ap (λ b. cond (not b) (fm.get (kept_at tables (suc i)) k) None) h)
            ∙ each (parent_of layers tables (suc i) k) ih
