-- The last unsettled transaction that writes a key is the last of all that does.
use Rattle.std.proofs.Common.{◌≡◌, Bool, true, false, ◌||◌, nat_eq, List, [], ◌∷◌, ◌++◌, inl, inr, refl, sym, ap, subst, ◌∙◌}
use Rattle.std.specs.List.{list_any}
use Rattle.std.proofs.lemmas.Bool.{eqb-true}
use Rattle.tier_base.specs.declared.number.TableId.{TableId}
use Rattle.row_types.specs.declared.value.Value.{Value}
use Rattle.table_defs.specs.declared.definition.TableDef.{TableDef}
use Rattle.table_state.specs.declared.history.Sealed.{Sealed}
use Rattle.table_state.specs.declared.operation.Op.{Op}
use Rattle.table_state.specs.Footprints.{is_among, written_by}
use Rattle.table_state.specs.Operations.{table_of}
use Rattle.stored_tier.specs.Performing.{Waits, meets, is_written}
use Rattle.session_engine.specs.Inserting.{some_writes_key, writes_key}
use Rattle.session_engine.proofs.InsertLaws.{apart_tables, or_none, split_written}

module _ (schema : List TableDef) (t : TableId) (key : List Value) where
  -- operations on no table of a transaction that writes the key don't write it

  untouched : (ops : List Op) → is_written ops t ≡ false → writes_key schema ops t key ≡ false
  untouched [] none = refl
  untouched (op ∷ ops) none =
      let parts = or_none (nat_eq t.0 (table_of op).0) (is_written ops t) none in
      split_written schema op ops (record { table = t; key = key })
      ∙ ap (λ b. b || writes_key schema ops t key) (apart_tables schema op t key parts.0) ∙ untouched ops parts.1

  pub apart_writes : (one : List Op) → writes_key schema one t key ≡ true → (ops : List Op) → meets ops one ≡ false → writes_key schema ops t key ≡ false
  apart_writes one writes [] apart = refl
  apart_writes one writes (op ∷ ops) apart =
      let parts = or_none (is_written one (table_of op)) (meets ops one) apart in
      split_written schema op ops (record { table = t; key = key })
      ∙ ap (λ b. b || writes_key schema ops t key) (by (nat_eq t.0 (table_of op).0) refl parts.0) ∙ apart_writes one writes ops parts.1
    where
      by : (b : Bool) → nat_eq t.0 (table_of op).0 ≡ b → is_written one (table_of op) ≡ false → is_among (written_by schema op) (record { table = t; key = key }) ≡ false
      by false is off = apart_tables schema op t key is
      by true is off =
          let same : t ≡ table_of op = ap (λ n. record { 0 = n }) (eqb-true t.0 (table_of op).0 is) in
          let not_so : writes_key schema one t key ≡ false = untouched one (ap (is_written one) same ∙ off) in
          let free : true ≡ false = sym writes ∙ not_so in
          cc

  -- behind the last unsettled one that writes the key nothing does

  waits_none : (one : Sealed) → writes_key schema one.ops t key ≡ true → (earlier behind us : List Sealed) → ((p : Sealed → Bool) → list_any p earlier ≡ false → p one ≡ false) → Waits earlier behind us → some_writes_key schema us t key ≡ false
      → some_writes_key schema behind t key ≡ false
  waits_none one writes earlier [] us has waits none = refl
  waits_none one writes earlier (x ∷ behind) us has (inl it) none =
      let parts = or_none (writes_key schema x.ops t key) (some_writes_key schema it.0 t key) (ap (λ l. some_writes_key schema l t key) (sym it.1) ∙ none) in
      ap (λ b. b || some_writes_key schema behind t key) parts.0
      ∙ waits_none one writes (x ∷ earlier) behind it.0 (λ p free. has p (or_none (p x) (list_any p earlier) free).1) it.2 parts.1
  waits_none one writes earlier (x ∷ behind) us has (inr it) none =
      ap (λ b. b || some_writes_key schema behind t key) (apart_writes one.ops writes x.ops (has (λ u. meets x.ops u.ops) it.0))
      ∙ waits_none one writes earlier behind us has it.1 none

  -- where it stands among all that committed
  pub record IsLastWriter (behind : List Sealed) (one : Sealed) : Type 0 where
    pub front : List Sealed
    pub later : List Sealed
    pub is : behind ≡ front ++ one ∷ later
    pub none : some_writes_key schema later t key ≡ false

  pub waits_split : (earlier behind before : List Sealed) (one : Sealed) (after : List Sealed) → Waits earlier behind (before ++ one ∷ after) → writes_key schema one.ops t key ≡ true → some_writes_key schema after t key ≡ false → IsLastWriter behind one
  waits_split earlier [] [] one after none writes free = cc
  waits_split earlier [] (b ∷ before) one after none writes free = cc
  waits_split earlier (x ∷ behind) [] one after (inl it) writes free =
      let is : one ∷ after ≡ x ∷ it.0 = it.1 in
      let first : x ≡ one = cc in
      let rest : it.0 ≡ after = cc in
      record {
        front = [];
        later = behind;
        is = ap (λ y. y ∷ behind) first;
        none = waits_none one writes (x ∷ earlier) behind it.0 (λ p none. ap p (sym first) ∙ (or_none (p x) (list_any p earlier) none).0) it.2
            (ap (λ l. some_writes_key schema l t key) rest ∙ free);
      }
  waits_split earlier (x ∷ behind) (b ∷ before) one after (inl it) writes free =
      let is : b ∷ (before ++ one ∷ after) ≡ x ∷ it.0 = it.1 in
      let rest : it.0 ≡ before ++ one ∷ after = cc in
      let r = waits_split (x ∷ earlier) behind before one after (subst (Waits (x ∷ earlier) behind) rest it.2) writes free in
      record { front = x ∷ r.front; later = r.later; is = ap (λ l. x ∷ l) r.is; none = r.none }
  waits_split earlier (x ∷ behind) before one after (inr it) writes free =
      let r = waits_split earlier behind before one after it.1 writes free in
      record { front = x ∷ r.front; later = r.later; is = ap (λ l. x ∷ l) r.is; none = r.none }
