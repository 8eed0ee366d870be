-- A write in the cache is of the kind that the session has written before.
use Rattle.std.proofs.Common.{◌≡◌, inl, inr, ℕ, Bool, true, false, cond, not, ◌&&◌, ◌||◌, Option, Some, None, Result, Ok, Err, List, [], ◌∷◌, ◌++◌, find, refl, sym, ap, subst, ◌∙◌}
use Rattle.std.specs.List.{list_all, list_any}
use Rattle.std.specs.Option.{option_or}
use Rattle.std.proofs.lemmas.List.Folds.{list_all-append, list_any-append}
use Rattle.tier_base.specs.declared.number.TableId.{TableId}
use Rattle.row_types.specs.declared.rule.Rule.{Rule}
use Rattle.tier_base.specs.declared.code.Code.TheVariants as code
use Rattle.table_state.specs.declared.operation.Op.{Op}
use Rattle.table_state.specs.declared.operation.Op.TheVariants.{Insert, Update, Delete}
use Rattle.table_state.specs.declared.history.Sealed.{Sealed}
use Rattle.table_state.specs.Operations.{table_of}
use Rattle.table_state.specs.Tables.{TableState}
use Rattle.evaluator.specs.declared.change.Change.{Change}
use Rattle.evaluator.specs.Rules.{then_do}
use Rattle.evaluator.specs.Writes.{effects_of}
use Rattle.resolution.specs.Writes.{PlacedChange, named_write, resolved_write}
use Rattle.sql_query.specs.declared.write.Write.{Write}
use Rattle.sql_subset.specs.declared.stmt.Stmt.TheVariants as statement
use Rattle.cache_tier.specs.declared.reply.Reply.{Reply}
use Rattle.cache_tier.specs.Groups.{is_synchronous, is_table_of}
use Rattle.cache_tier.specs.Locks.{lock_fault}
use Rattle.cache_tier.specs.Order.{change_broken, first_broken, is_of_other_kind, mixes_kinds, refusal, write_broken}
use Rattle.cache_tier.specs.OwnWrites.{room_of}
use Rattle.cache_tier.specs.Routes.{Cached, PassedOn, Route, is_only_read, is_written_through, table_name, visible, write_route}
use Rattle.cache_tier.specs.Rules.{broken_if, named, plain, rule_in}
use Rattle.cache_tier.specs.Shown.{all_over, over, seen_by, shown_state}
use Rattle.cache_tier.specs.TierStates.{Session, Tier, level_of, session_of}
use Rattle.cache_tier.specs.Wants.{wanted_by_write}
use Rattle.cache_tier.specs.Worlds.{Follows, Then, Tries, Unless, World}
use Rattle.cache_tier.specs.WriteSteps.{WritesBy, WritesEffects, WritesOps, WritesPlaced, WritesShown}
use Rattle.cache_tier.specs.DynamicLoads.{LoadsWanted}
use Rattle.order_laws.proofs.TruthLaws.{never_both}
use Rattle.run_laws.specs.Lines.{AreOfKinds, IsOfOneKind, are_on_kind}
use Rattle.run_laws.proofs.CreateLaws.{all_closed}
use Rattle.run_laws.proofs.KindLaws.{neither}
use Rattle.run_laws.proofs.KindParts.{defs_same, each_all, front_side, kind_same, kind_side}
use Rattle.run_laws.proofs.KindStatements.{kinds_of, kinds_sit, ops_wrote, wrote_kinds}
use Rattle.run_laws.proofs.OffLaws.{IsSideOf, gives_effects}
use Rattle.run_laws.proofs.ReadyLaws.{Ready}
use Rattle.run_laws.proofs.SitsLaws.{Sits}
use Rattle.run_laws.proofs.SitsStatements.{loads_wanted_sits, passes_on_sits}

-- ---- what a session sees has the tier's schema

over_schema : (op : Op) (s : TableState) → (over op s).schema ≡ s.schema
over_schema (Insert t row) s = refl
over_schema (Update t old new) s = refl
over_schema (Delete t old) s = refl

all_over_schema : (ops : List Op) (s : TableState) → (all_over ops s).schema ≡ s.schema
all_over_schema [] s = refl
all_over_schema (op ∷ ops) s = all_over_schema ops (over op s) ∙ over_schema op s

-- ---- 117

-- all of what was written is of the table's kind
all_of_kind : (t : Tier) (table : TableId) (own : List Op) → is_table_of is_synchronous t.groups table ≡ true → list_any (λ op. is_of_other_kind t table (table_of op)) own ≡ false → are_on_kind is_synchronous t.groups own ≡ true
all_of_kind t table [] at none = refl
all_of_kind t table (op ∷ own) at none =
    let (first, rest) = neither (is_of_other_kind t table (table_of op)) (list_any (λ o. is_of_other_kind t table (table_of o)) own) none in
    let more = all_of_kind t table own at rest in
    let one = by (is_table_of is_synchronous t.groups table) (is_table_of is_synchronous t.groups (table_of op)) at first in
    λ i. one i && more i
  where
    by : (a b : Bool) → a ≡ true → ((a && not b) || (not a && b)) ≡ false → b ≡ true
    by true true at e = refl
    by true false at e = Prim.cc
    by false b at e = Prim.cc

none_of_kind : (t : Tier) (table : TableId) (own : List Op) → is_table_of is_synchronous t.groups table ≡ false → list_any (λ op. is_of_other_kind t table (table_of op)) own ≡ false → list_any (λ op. is_table_of is_synchronous t.groups (table_of op)) own ≡ false
none_of_kind t table [] at none = refl
none_of_kind t table (op ∷ own) at none =
    let (first, rest) = neither (is_of_other_kind t table (table_of op)) (list_any (λ o. is_of_other_kind t table (table_of o)) own) none in
    let more = none_of_kind t table own at rest in
    let one = by (is_table_of is_synchronous t.groups table) (is_table_of is_synchronous t.groups (table_of op)) at first in
    λ i. one i || more i
  where
    by : (a b : Bool) → a ≡ false → ((a && not b) || (not a && b)) ≡ false → b ≡ false
    by false true at e = Prim.cc
    by false false at e = refl
    by true b at e = Prim.cc

broken_none : (b : Bool) (rule : Rule) → broken_if b rule ≡ None → b ≡ false
broken_none true rule e = Prim.cc
broken_none false rule e = refl

behind_none : (one other : Option Rule) → option_or one other ≡ None → other ≡ None
behind_none None other e = e
behind_none (Some rule) other e = Prim.cc

front_none : (one other : Option Rule) → option_or one other ≡ None → one ≡ None
front_none None other e = refl
front_none (Some rule) other e = Prim.cc

-- the name is found, and the change is sound
found : (r : Result (Result PlacedChange Rule) Rule) (c : PlacedChange) → then_do (λ (change : Result PlacedChange Rule). change) r ≡ Ok c → r ≡ Ok (Ok c)
found (Err rule) c e = Prim.cc
found (Ok x) c e = ap (λ y. Ok y) e

unmixed : (t : Tier) (s : Session) (write : Write) (c : PlacedChange) → refusal t s (statement.Write write) ≡ None → resolved_write (visible (level_of s) t) write ≡ Ok c → mixes_kinds t s c.table ≡ false
unmixed t s write c free resolved =
    let named_is : named_write (visible (level_of s) t) write ≡ Ok (Ok c) = found (named_write (visible (level_of s) t) write) c resolved in
    let fault : first_broken (write_broken t s (Ok (Ok c))) ≡ None = sym (ap (λ r. first_broken (write_broken t s r)) named_is) ∙ free in
    let changed : change_broken t s c ≡ None = front_none (change_broken t s c) None fault in
    broken_none (mixes_kinds t s c.table) (plain code.MixedWrites) (behind_none (rule_in (write_route (level_of s) t c.table)) _ changed)

through_cached : (t : Tier) (level : ℕ) (table : TableId) → write_route level t table ≡ Ok Cached → is_written_through t table ≡ true
through_cached t level table e = by (is_written_through t table) e
  where
    read : (b : Bool) (rule : Rule) → cond b (Err rule) (Ok PassedOn) ≡ Ok Cached → ⊥
    read true rule e = Prim.cc
    read false rule e = Prim.cc

    by : (b : Bool) → cond b (cond (Rattle.std.specs.Prelude.nat_lt level 3) (Ok Cached) (Err (named code.WritethroughTable (table_name t table)))) (cond (is_only_read t table && Rattle.std.specs.Prelude.nat_lt level 2) (Err (named code.ReadOnly (table_name t table))) (Ok PassedOn)) ≡ Ok Cached → b ≡ true
    by true e = refl
    by false e = absurd (read (is_only_read t table && Rattle.std.specs.Prelude.nat_lt level 2) (named code.ReadOnly (table_name t table)) e)

not_any : (p : Op → Bool) (ops : List Op) → list_all (λ op. not (p op)) ops ≡ true → list_any p ops ≡ false
not_any p [] e = refl
not_any p (op ∷ ops) e = by (p op) (not_any p ops) e
  where
    by : (b : Bool) → (list_all (λ op. not (p op)) ops ≡ true → list_any p ops ≡ false) → (not b && list_all (λ op. not (p op)) ops) ≡ true → (b || list_any p ops) ≡ false
    by true rest e = Prim.cc
    by false rest e = rest e

-- ---- what a write does is on tables of one kind

-- of the same groups' definitions and schema, as behind a dynamic load
module _ (w mid : World) (early : List Sealed) (r : Ready w early) (sits : Sits w.tier mid.tier) (s : Session) (change : Change) (ops : List Op) (gives : effects_of (room_of s) change (seen_by s mid.history mid.tier) ≡ Ok ops) where
  abbrev sync : TableId → Bool
  sync t = is_table_of is_synchronous w.tier.groups t

  schema : (seen_by s mid.history mid.tier).schema ≡ w.tier.schema
  schema = all_over_schema s.own (shown_state mid.history mid.tier) ∙ sits.schema

  side : IsSideOf (is_table_of is_synchronous w.tier.groups) (seen_by s mid.history mid.tier).schema
  side =
      let x = r.stands in
      let over_is = x.flow.stand.over in
      let front = x.schema.front over_is.backing over_is.leaves in
      let all = kind_side w.tier.groups over_is.backing.schema (all_closed _ w.history w.tier.log over_is.backing.schema w.tier.next over_is.ordered) in
      subst (IsSideOf (is_table_of is_synchronous w.tier.groups)) (sym schema)
      (front_side (is_table_of is_synchronous w.tier.groups) w.tier.schema front.0 (subst (IsSideOf (is_table_of is_synchronous w.tier.groups)) front.1 all))

  on_it : is_table_of is_synchronous w.tier.groups change.table ≡ true → are_on_kind is_synchronous w.tier.groups ops ≡ true
  on_it at = gives_effects (is_table_of is_synchronous w.tier.groups) (room_of s) change (seen_by s mid.history mid.tier) side at ops gives

  off_it : is_table_of is_synchronous w.tier.groups change.table ≡ false → list_any (λ op. is_table_of is_synchronous w.tier.groups (table_of op)) ops ≡ false
  off_it at = not_any (λ op. is_table_of is_synchronous w.tier.groups (table_of op)) ops
      (gives_effects (λ t. not (is_table_of is_synchronous w.tier.groups t)) (room_of s) change (seen_by s mid.history mid.tier) (λ t def foreign there key. ap not (side t def foreign there key)) (ap not at) ops gives)

  one_kind : list_any (λ op. is_of_other_kind w.tier change.table (table_of op)) s.own ≡ false → IsOfOneKind w.tier.groups (s.own ++ ops)
  one_kind none = by (is_table_of is_synchronous w.tier.groups change.table) refl
    where
      by : (b : Bool) → is_table_of is_synchronous w.tier.groups change.table ≡ b → IsOfOneKind w.tier.groups (s.own ++ ops)
      by true at some =
          let first = all_of_kind w.tier change.table s.own at none in
          let rest = on_it at in
          list_all-append _ s.own ops ∙ (λ i. first i && rest i)
      by false at some =
          let first = none_of_kind w.tier change.table s.own at none in
          let rest = off_it at in
          let no : list_any (λ op. is_table_of is_synchronous w.tier.groups (table_of op)) (s.own ++ ops) ≡ false = list_any-append _ s.own ops ∙ (λ i. first i || rest i) in
          absurd (never_both (list_any (λ op. is_table_of is_synchronous w.tier.groups (table_of op)) (s.own ++ ops)) some no)

-- ---- the statement

module _ (w w' : World) (early : List Sealed) (reply : Reply) (r : Ready w early) (s : Session) (there : session_of w.tier s.label ≡ Some s) where
  shown_kinds : (mid : World) (placed : PlacedChange) → Sits w.tier mid.tier → list_any (λ op. is_of_other_kind w.tier placed.table (table_of op)) s.own ≡ false → WritesShown s placed mid w' reply → AreOfKinds w'.tier
  shown_kinds mid placed sits none q = by (effects_of (room_of s) q.change (seen_by s mid.history mid.tier)) refl q.writes
    where
      k : AreOfKinds mid.tier
      k = kinds_sit w.tier mid.tier sits r.kinds

      table : q.change.table ≡ placed.table
      table = ap (λ (p : PlacedChange). p.table) q.stands_for

      by : (o : Result (List Op) Rule) → effects_of (room_of s) q.change (seen_by s mid.history mid.tier) ≡ o → WritesEffects s placed.table o mid w' reply → AreOfKinds w'.tier
      by (Err rule) e q = kinds_of mid.tier w'.tier (ap (λ (x : World). x.tier) q.0) k
      by (Ok ops) e q = go (lock_fault s.label mid.tier ops) q
        where
          one : IsOfOneKind w.tier.groups (s.own ++ ops)
          one = one_kind w mid early r sits s _ ops e (ap (λ t. list_any (λ op. is_of_other_kind w.tier t (table_of op)) s.own) table ∙ none)

          go : (o : Option Rule) → Unless o (WritesOps s placed.table ops) mid w' reply → AreOfKinds w'.tier
          go (Some rule) q = kinds_of mid.tier w'.tier (ap (λ (x : World). x.tier) q.0) k
          go None q =
              wrote_kinds s ops mid w' (subst Rattle.cache_tier.specs.StandingBetween.HaveOwnLabels (sym sits.sessions) r.stands.sessions.labels) (ap (λ ss. find (Rattle.cache_tier.specs.TierStates.is_labelled s.label) ss) sits.sessions ∙ there) k
              (kind_same w.tier.groups mid.tier.groups (s.own ++ ops) (each_all _ (λ op. defs_same is_synchronous (λ g. refl) w.tier.groups mid.tier.groups (table_of op) sits.defs) (s.own ++ ops)) one)
              (ops_wrote s placed.table ops mid w' reply q)

  cached_kinds : (placed : PlacedChange) → list_any (λ op. is_of_other_kind w.tier placed.table (table_of op)) s.own ≡ false → Then (LoadsWanted (wanted_by_write w.tier placed)) (Tries (WritesShown s placed)) w w' reply → AreOfKinds w'.tier
  cached_kinds placed none q = by q.stop q.next
    where
      sits : Sits w.tier q.mid.tier
      sits = loads_wanted_sits (wanted_by_write w.tier placed) w q.mid q.stop q.first

      by : (stop : Option Reply) → Follows stop (Tries (WritesShown s placed)) q.mid w' reply → AreOfKinds w'.tier
      by (Some e) next = kinds_of q.mid.tier w'.tier (ap (λ (x : World). x.tier) next.0) (kinds_sit w.tier q.mid.tier sits r.kinds)
      by None (inr wants) = kinds_of q.mid.tier w'.tier (ap (λ (x : World). x.tier) wants.0) (kinds_sit w.tier q.mid.tier sits r.kinds)
      by None (inl writes) = shown_kinds q.mid placed sits none writes

  pub writes_kinds : (write : Write) → refusal w.tier s (statement.Write write) ≡ None → (o : Result PlacedChange Rule) → resolved_write (visible (level_of s) w.tier) write ≡ o → WritesPlaced s o w w' reply → AreOfKinds w'.tier
  writes_kinds write free (Err rule) e q = kinds_of w.tier w'.tier (ap (λ (x : World). x.tier) q.0) r.kinds
  writes_kinds write free (Ok placed) e q = by (write_route (level_of s) w.tier placed.table) refl q
    where
      none : is_written_through w.tier placed.table ≡ true → list_any (λ op. is_of_other_kind w.tier placed.table (table_of op)) s.own ≡ false
      none on = sym (ap (λ b. b && list_any (λ op. is_of_other_kind w.tier placed.table (table_of op)) s.own) on) ∙ unmixed w.tier s write placed free e

      by : (o : Result Route Rule) → write_route (level_of s) w.tier placed.table ≡ o → WritesBy o s placed w w' reply → AreOfKinds w'.tier
      by (Err rule) route q = kinds_of w.tier w'.tier (ap (λ (x : World). x.tier) q.0) r.kinds
      by (Ok PassedOn) route q = kinds_sit w.tier w'.tier (passes_on_sits s placed w w' reply q) r.kinds
      by (Ok Cached) route q = cached_kinds placed (none (through_cached w.tier (level_of s) placed.table route)) q
