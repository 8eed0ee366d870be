-- What a part of a line does to a tier without a change of its definitions, its schema, and what it knows of that.
use Rattle.std.proofs.Common.{◌≡◌, ℕ, suc, Bool, true, false, cond, Result, Ok, Err, Option, Some, None, List, [], ◌∷◌, map, fold, refl, ◌∙◌}
use Rattle.std.specs.FinMap.{keys}
use Rattle.std.specs.List.{filter}
use Rattle.row_types.specs.declared.rule.Rule.{Rule}
use Rattle.row_types.specs.declared.value.Value.{Value}
use Rattle.table_state.specs.declared.footprint.RowKey.{RowKey}
use Rattle.table_state.specs.declared.history.Entry.{Entry}
use Rattle.table_state.specs.declared.history.Sealed.{Sealed}
use Rattle.tier_base.specs.declared.number.TableId.{TableId}
use Rattle.table_state.specs.declared.operation.Op.{Op}
use Rattle.table_state.specs.declared.operation.Op.TheVariants.{Insert}
use Rattle.table_state.specs.Tables.{TableState}
use Rattle.table_state.specs.Operations.{table_of}
use Rattle.outside.specs.declared.fault.BankError.{BankError}
use Rattle.outside.specs.declared.fault.BankError.TheVariants.{Failed, Memory}
use Rattle.outside.specs.declared.site.Applied.{Applied}
use Rattle.outside.specs.declared.site.Applied.TheVariants.{Now, Before, NotReady, Differs}
use Rattle.outside.specs.declared.site.Done.{Done as Wrote}
use Rattle.outside.specs.declared.site.Done.TheVariants.{Rows, Broken}
use Rattle.sql_subset.specs.declared.stmt.RefreshState.{RefreshState}
use Rattle.sql_subset.specs.declared.stmt.RefreshState.TheVariants.{On, Off, Paused}
use Rattle.cache_tier.specs.Aging.{after_aging, aged, aged_by_time, aged_rule, expired, is_aging_due, with_horizon}
use Rattle.cache_tier.specs.declared.group.AgingRule.{AgingRule}
use Rattle.cache_tier.specs.declared.group.AgingRule.TheVariants.{ByTime, LastUse}
use Rattle.cache_tier.specs.CommitSteps.{after_applied, committed}
use Rattle.cache_tier.specs.DoubtSteps.{settled, stood}
use Rattle.cache_tier.specs.DynamicLoads.{joined_tier, state_loaded, with_found, with_found_at}
use Rattle.cache_tier.specs.Groups.{Group, covers, definitions_of, is_explicit, is_read_only, is_writethrough, with_keys, without_keys}
use Rattle.cache_tier.specs.InsertSteps.{insert_answer, insert_fault}
use Rattle.cache_tier.specs.LoadSteps.{added_answer, gained_answer, gains}
use Rattle.cache_tier.specs.OwnWrites.{written}
use Rattle.cache_tier.specs.PassedSteps.{after_passed, with_ticket}
use Rattle.cache_tier.specs.Reading.{backing_at}
use Rattle.cache_tier.specs.Recency.{after_use, after_writes, op_key, used_by_ops, used_root, used_row, used_rows, with_commit}
use Rattle.cache_tier.specs.RefreshSteps.{held_answer, refreshed_answer}
use Rattle.cache_tier.specs.SelectSteps.{query_answer}
use Rattle.cache_tier.specs.Sets.{Choice, alone, at_position, changed, changed_from, loaded_with, of_set, refreshed, set_tried}
use Rattle.cache_tier.specs.Shown.{no_rows, over, seen_by}
use Rattle.cache_tier.specs.Targets.{Target, has_flag, loaded_tier, matching, matching_past, whole_answer, with_flag}
use Rattle.cache_tier.specs.TierStates.{ACommit, APassedWrite, Doubt, Doubted, Session, Tier, refresh_tried}
use Rattle.cache_tier.specs.UnloadSteps.{unloaded}
use Rattle.cache_tier.specs.Wants.{Want}
use Rattle.cache_tier.specs.Worlds.{Answer, World, unless}

pub record Rests (t t' : Tier) : Type 0 where
  pub defs : definitions_of t'.groups ≡ definitions_of t.groups
  pub schema : t'.schema ≡ t.schema
  pub stale : t'.stale ≡ t.stale

pub rests : (t : Tier) → Rests t t
rests t = record { defs = refl; schema = refl; stale = refl }

pub rests_on : (a b c : Tier) → Rests a b → Rests b c → Rests a c
rests_on a b c x y = record { defs = y.defs ∙ x.defs; schema = y.schema ∙ x.schema; stale = y.stale ∙ x.stale }

pub regrouped : (t : Tier) (groups : List Group) → definitions_of groups ≡ definitions_of t.groups → Rests t (record t { groups = groups })
regrouped t groups same = record { defs = same; schema = refl; stale = refl }

pub mapped_defs : (f : Group → Group) → ((g : Group) → (f g).def ≡ g.def) → (gs : List Group) → definitions_of (map f gs) ≡ definitions_of gs
mapped_defs f same [] = refl
mapped_defs f same (g ∷ gs) = λ i. same g i ∷ mapped_defs f same gs i

changed_defs : (chosen : Choice) (f : Group → Group) → ((g : Group) → (f g).def ≡ g.def) → (place : ℕ) (gs : List Group) → definitions_of (changed_from chosen f place gs) ≡ definitions_of gs
changed_defs chosen f same place [] = refl
changed_defs chosen f same place (g ∷ gs) = λ i. by (chosen place g) i ∷ changed_defs chosen f same (suc place) gs i
  where
    by : (b : Bool) → (cond b (f g) g).def ≡ g.def
    by true = same g
    by false = refl

pub changed_rests : (chosen : Choice) (f : Group → Group) → ((g : Group) → (f g).def ≡ g.def) → (t : Tier) → Rests t (changed chosen f t)
changed_rests chosen f same t = regrouped t (changed_from chosen f 0 t.groups) (changed_defs chosen f same 0 t.groups)

-- ---- what is changed of a group

pub flag_def : (flag : Bool) (g : Group) → (with_flag flag g).def ≡ g.def
flag_def flag g = by (has_flag g)
  where
    by : (b : Bool) → (cond b (record g { loaded = flag }) g).def ≡ g.def
    by true = refl
    by false = refl

pub unloaded_def : (gone : List (List Value)) (all : Bool) (g : Group) → (unloaded gone all g).def ≡ g.def
unloaded_def gone true g = flag_def false (record g { keys = without_keys gone g.keys })
unloaded_def gone false g = refl

root_def : (o : Option (List Value)) (g : Group) → (used_root o g).def ≡ g.def
root_def None g = refl
root_def (Some key) g = refl

row_def : (s : TableState) (key : RowKey) (g : Group) → (used_row s key g).def ≡ g.def
row_def s key g = root_def _ g

rows_def : (s : TableState) (rows : List RowKey) (g : Group) → (fold (λ k row. used_row s row k) g rows).def ≡ g.def
rows_def s [] g = refl
rows_def s (row ∷ rows) g = rows_def s rows (used_row s row g) ∙ row_def s row g

ops_def : (step : Op → TableState → TableState) (ops : List Op) (s : TableState) (g : Group) → (used_by_ops step ops s g).def ≡ g.def
ops_def step [] s g = refl
ops_def step (op ∷ ops) s g = ops_def step ops (step op s) _ ∙ by (covers (table_of op) g)
  where
    by : (b : Bool) → (cond b (used_row (step op s) (op_key s op) (used_row s (op_key s op) g)) g).def ≡ g.def
    by true = row_def (step op s) (op_key s op) (used_row s (op_key s op) g) ∙ row_def s (op_key s op) g
    by false = refl

pub cond_def : (b : Bool) (g h : Group) → h.def ≡ g.def → (cond b h g).def ≡ g.def
cond_def true g h e = e
cond_def false g h e = refl

commit_def : (rows : TableState) (ops : List Op) (g : Group) → (with_commit rows ops g).def ≡ g.def
commit_def rows ops g = cond_def (is_writethrough g) g _ refl

time_def : (history : List Entry) (t : Tier) (g : Group) → (aged_by_time history t g).def ≡ g.def
time_def history t g = by (is_read_only g)
  where
    by : (b : Bool) → (cond b g (record g { keys = without_keys (expired history t g) g.keys })).def ≡ g.def
    by true = refl
    by false = refl

rule_def : (history : List Entry) (t : Tier) (o : Option AgingRule) (g : Group) → (aged_rule history t o g).def ≡ g.def
rule_def history t None g = refl
rule_def history t (Some LastUse) g = refl
rule_def history t (Some (ByTime rule)) g = time_def history t (with_horizon t.now rule g)

aged_def : (history : List Entry) (t : Tier) (g : Group) → (cond (is_aging_due t g) (aged history t g) g).def ≡ g.def
aged_def history t g = cond_def (is_aging_due t g) g (aged history t g) (rule_def history t g.def.aging g)

-- ---- tiers

pub used_rests : (s : TableState) (rows : List RowKey) (t : Tier) → Rests t (after_use s rows t)
used_rests s rows t = regrouped t (map (used_rows s rows) t.groups) (mapped_defs (used_rows s rows) (λ g. rows_def s (filter (λ row. covers row.table g) rows) g) t.groups)

pub wrote_rests : (step : Op → TableState → TableState) (ops : List Op) (s : TableState) (t : Tier) → Rests t (after_writes step ops s t)
wrote_rests step ops s t = regrouped t (map (used_by_ops step ops s) t.groups) (mapped_defs (used_by_ops step ops s) (λ g. ops_def step ops s g) t.groups)

pub aging_rests : (history : List Entry) (t : Tier) → Rests t (after_aging history t)
aging_rests history t = regrouped t (after_aging history t).groups (mapped_defs (λ g. cond (is_aging_due t g) (aged history t g) g) (aged_def history t) t.groups)

pub committed_rests : (x : Sealed) (label : List ℕ) (t : Tier) → Rests t (committed x label t)
committed_rests x label t = record { defs = mapped_defs (with_commit (no_rows t) x.ops) (commit_def (no_rows t) x.ops) t.groups; schema = refl; stale = refl }

pub tried_rests : (g : Group) (t : Tier) → Rests t (set_tried g t)
tried_rests g t = by g.state
  where
    by : (s : RefreshState) → Rests t (set_tried (record g { state = s }) t)
    by On = record { defs = refl; schema = refl; stale = refl }
    by Off = rests t
    by Paused = record { defs = refl; schema = refl; stale = refl }

pub set_tried_rests : (interval : ℕ) (t : Tier) → Rests t (refresh_tried interval t)
set_tried_rests interval t = record { defs = refl; schema = refl; stale = refl }

pub refreshed_rests : (chosen : Choice) (n : ℕ) (s : TableState) (t : Tier) → Rests t (refreshed chosen n s t)
refreshed_rests chosen n s t = changed_rests chosen (at_position n s) (λ g. refl) t

loaded_rests : (x : Target) (n : ℕ) (change : TableState → Group → Group) → ((s : TableState) (g : Group) → (change s g).def ≡ g.def) → (w : World) → Rests w.tier (loaded_tier x n change w)
loaded_rests x n change so w =
    let one = refreshed (loaded_with x.group x.place) n (backing_at w n) w.tier in
    rests_on w.tier one (loaded_tier x n change w) (refreshed_rests (loaded_with x.group x.place) n (backing_at w n) w.tier)
    (changed_rests (alone x.place) (λ g. with_flag true (state_loaded (change (backing_at w n) g))) (λ g. flag_def true (state_loaded (change (backing_at w n) g)) ∙ so (backing_at w n) g) one)

pub found_rests : (place : ℕ) (s : TableState) (want : Want) (t : Tier) → Rests t (with_found_at place s want t)
found_rests place s want t = changed_rests (alone place) (with_found s want) (λ g. refl) t

pub joined_rests : (place : ℕ) (g : Group) (want : Want) (n : ℕ) (w : World) → Rests w.tier (joined_tier place g want n w)
joined_rests place g want n w =
    let one = refreshed (of_set g.def.interval (Some place)) n (backing_at w n) w.tier in
    let two = changed (alone place) state_loaded one in
    rests_on w.tier one (joined_tier place g want n w) (refreshed_rests (of_set g.def.interval (Some place)) n (backing_at w n) w.tier)
    (rests_on one two (joined_tier place g want n w) (changed_rests (alone place) state_loaded (λ g. refl) one) (found_rests place (backing_at w n) want two))

pub ticket_rests : (t : Tier) → Rests t (with_ticket t)
ticket_rests t = record { defs = refl; schema = refl; stale = refl }

pub after_passed_rests : (s : Session) (ticket : ℕ) (ops : List Op) (r : Result Wrote BankError) (t : Tier) → Rests t (after_passed s ticket ops r t)
after_passed_rests s ticket ops (Ok (Rows n)) t = record { defs = refl; schema = refl; stale = refl }
after_passed_rests s ticket ops (Ok (Broken rule)) t = rests t
after_passed_rests s ticket ops (Err Memory) t = rests t
after_passed_rests s ticket ops (Err Failed) t = record { defs = refl; schema = refl; stale = refl }

pub after_applied_rests : (x : Sealed) (label : List ℕ) (r : Result Applied BankError) (t : Tier) → Rests t (after_applied x label r t)
after_applied_rests x label (Ok (Now receipt)) t = committed_rests x label t
after_applied_rests x label (Ok (Before receipt)) t = committed_rests x label t
after_applied_rests x label (Ok (NotReady ticket)) t = rests t
after_applied_rests x label (Ok (Differs table key row)) t = rests t
after_applied_rests x label (Err Memory) t = rests t
after_applied_rests x label (Err Failed) t = record { defs = refl; schema = refl; stale = refl }

pub settled_rests : (d : Doubt) (history : List Entry) (r : Result Bool BankError) (t : Tier) → Rests t (settled d history r t)
settled_rests d history (Ok true) t = by d.of
  where
    by : (o : Doubted) → Rests t (settled (record d { of = o }) history (Ok true) t)
    by ACommit = let one = committed_rests (stood d history) d.session t in record { defs = one.defs; schema = refl; stale = refl }
    by APassedWrite = record { defs = refl; schema = refl; stale = refl }
settled_rests d history (Ok false) t = by d.of
  where
    by : (o : Doubted) → Rests t (settled (record d { of = o }) history (Ok false) t)
    by ACommit = record { defs = refl; schema = refl; stale = refl }
    by APassedWrite = record { defs = refl; schema = refl; stale = refl }
settled_rests d history (Err e) t = rests t

-- ---- answers

pub query_rests : (t after : Tier) (r : Result (List (List Value)) Rule) → Rests t after → Rests t (query_answer t after r).0
query_rests t after (Ok rows) k = k
query_rests t after (Err rule) k = rests t

pub unless_rests : (t : Tier) (o : Option Rule) (answer : Answer) → Rests t answer.0 → Rests t (unless t o answer).0
unless_rests t None answer k = k
unless_rests t (Some rule) answer k = rests t

either_rests : (t : Tier) (b : Bool) (one other : Answer) → Rests t one.0 → Rests t other.0 → Rests t (cond b one other).0
either_rests t true one other p q = p
either_rests t false one other p q = q

pub whole_rests : (x : Target) (n : ℕ) (w : World) → Rests w.tier (whole_answer x n w).0
whole_rests x n w = loaded_rests x n (λ s g. g) (λ s g. refl) w

pub gained_rests : (x : Target) (n : ℕ) (w : World) → Rests w.tier (gained_answer x n w).0
gained_rests x n w = loaded_rests x n (gains (keys (matching_past (backing_at w n) x))) (λ s g. refl) w

pub held_rests : (x : Target) (n : ℕ) (w : World) → Rests w.tier (held_answer x n w).0
held_rests x n w = loaded_rests x n (λ s g. g) (λ s g. refl) w

pub added_rests : (x : Target) (n : ℕ) (w : World) → Rests w.tier (added_answer x n w).0
added_rests x n w = changed_rests (alone x.place) (λ g. with_flag true (record g { keys = with_keys (keys (matching (backing_at w n) x)) g.keys })) (λ g. flag_def true (record g { keys = with_keys (keys (matching (backing_at w n) x)) g.keys })) w.tier

pub refreshed_answer_rests : (x : Target) (n : ℕ) (w : World) → Rests w.tier (refreshed_answer x n w).0
refreshed_answer_rests x n w = either_rests w.tier (is_explicit x.group) _ _ (added_rests x n w) (changed_rests (alone x.place) (with_flag true) (flag_def true) w.tier)

pub wrote_answer_rests : (s : Session) (table : TableId) (ops : List Op) (w : World) → Rests w.tier (written s table ops w).0
wrote_answer_rests s table ops w = let one = wrote_rests over ops (seen_by s w.history w.tier) w.tier in record { defs = one.defs; schema = refl; stale = refl }

pub insert_rests : (s : Session) (w : World) (history : List Entry) (table : TableId) (row : List Value) (r : Result (Option (List Value)) BankError) → Rests w.tier (insert_answer s w history table row r).0
insert_rests s w history table row (Ok found) = unless_rests w.tier (insert_fault s w history table row) _ (wrote_answer_rests s table (Insert table row ∷ []) w)
insert_rests s w history table row (Err e) = rests w.tier
