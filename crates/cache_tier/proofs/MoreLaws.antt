-- More small facts, proved.
use Rattle.std.proofs.Common.{◌≡◌, ℕ, ◌+◌, true, List, [], ◌∷◌, Some, None, refl, sym, ap, subst, ◌∙◌, arith, rules}
use Rattle.std.specs.Option.{option_map, option_or}
use Rattle.table_defs.specs.declared.definition.TableDef.{TableDef}
use Rattle.table_state.specs.declared.footprint.RowKey.{RowKey}
use Rattle.table_state.specs.declared.operation.Op.{Op}
use Rattle.table_state.specs.Footprints.{referred_by, written_by}
use Rattle.cache_tier.specs.DynamicLoads.{state_loaded}
use Rattle.cache_tier.specs.Targets.{with_flag}
use Rattle.cache_tier.specs.Locks.{first_of_all, locked_by, op_lock, parent_lock, written_lock}
use Rattle.cache_tier.specs.MoreFacts.{AloneIsFree, LoadShowsView, RunIsCaused, StartStands, explicit_read_only, faults_told}
use Rattle.tier_base.specs.declared.code.Code.TheVariants.{BackingFault, JournalFault}
use Rattle.cache_tier.specs.Sets.{at_position}
use Rattle.cache_tier.specs.Shown.{shown_where}
use Rattle.cache_tier.specs.Steps.{Rose}
use Rattle.cache_tier.specs.TierStates.{Session}

-- first a, then b
both_rose : (before a mid b now : ℕ) → Rose before a mid → Rose mid b now → Rose before (a + b) now
both_rose before a mid b now p q = (omega (arith, p.0, q.0), omega (arith, p.0, p.1, q.0, q.1))

none_rose : (n : ℕ) → Rose n 0 n
none_rose n = (omega arith, omega arith)

pub run_is_caused : RunIsCaused
run_is_caused w w' [] [] e = record { bank = subst (λ x. Rose w.bank_faults 0 (x.bank_faults)) (sym e) (none_rose w.bank_faults); disk = subst (λ x. Rose w.disk_faults 0 (x.disk_faults)) (sym e) (none_rose w.disk_faults) }
run_is_caused w w' (line ∷ lines) (None ∷ replies) r =
    let rest = run_is_caused r.0 w' lines replies r.2 in
    record {
      bank = subst (λ x. Rose x.bank_faults (faults_told BackingFault replies) w'.bank_faults) r.1.1 rest.bank;
      disk = subst (λ x. Rose x.disk_faults (faults_told JournalFault replies) w'.disk_faults) r.1.1 rest.disk;
    }
run_is_caused w w' (line ∷ lines) (Some reply ∷ replies) r =
    let rest = run_is_caused r.0 w' lines replies r.2 in
    record { bank = both_rose _ _ _ _ _ r.1.0.bank rest.bank; disk = both_rose _ _ _ _ _ r.1.0.disk rest.disk }
run_is_caused w w' [] (reply ∷ replies) e = absurd e
run_is_caused w w' (line ∷ lines) [] e = absurd e

pub load_shows_view : LoadShowsView
load_shows_view history log n s g e = ap (λ o. shown_where o (with_flag true (state_loaded (at_position n s (explicit_read_only g))))) e

module _ (schema : List TableDef) where
  no_writer : (keys : List RowKey) → first_of_all (written_lock schema []) keys ≡ None
  no_writer [] = refl
  no_writer (key ∷ keys) = no_writer keys

  no_parent : (keys : List RowKey) → first_of_all (parent_lock schema []) keys ≡ None
  no_parent [] = refl
  no_parent (key ∷ keys) = no_parent keys

  free : (ops : List Op) → first_of_all (op_lock schema []) ops ≡ None
  free [] = refl
  free (op ∷ ops) = ap (λ o. option_or (option_or o (first_of_all (parent_lock schema []) (referred_by schema op))) (first_of_all (op_lock schema []) ops)) (no_writer (written_by schema op)) ∙ ap (λ o. option_or o (first_of_all (op_lock schema []) ops)) (no_parent (referred_by schema op)) ∙ free ops

pub alone_is_free : AloneIsFree
alone_is_free label t ops e = ap (λ (others : List Session). option_map locked_by (first_of_all (op_lock t.schema others) ops)) e ∙ ap (option_map locked_by) (free t.schema ops)

pub start_stands : StartStands
start_stands =
    record {
      committed = record {
        rise = omega arith;
        below = search rules;
        unsettled = search rules;
        are_pending = search rules;
        apart = search rules;
        legal = record { once = tt; ops = tt; order = tt };
        virtual = refl;
        ordered = search rules;
        first = search rules;
      };
      shown = record { within = search rules; one = search rules; distinct = search rules };
      schema = record { front = λ s e. ([], search rules); whole = search rules };
      unshared = search rules;
    }
