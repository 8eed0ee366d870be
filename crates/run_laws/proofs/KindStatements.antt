-- Sessions write tables of one kind, and what is unsettled is on tables of asynchronous groups: behind each statement.
use Rattle.std.proofs.Common.{◌≡◌, ◌⊎◌, inl, inr, ℕ, Bool, true, false, cond, ◌&&◌, Option, Some, None, Result, Ok, Err, List, [], ◌∷◌, ◌++◌, map, filter, refl, sym, ap, subst, ◌∙◌}
use Rattle.std.specs.Bool.{MatchBool}
use Rattle.std.specs.List.{list_all}
use Rattle.std.proofs.lemmas.List.Folds.{list_all-append}
use Rattle.tier_base.specs.declared.number.TableId.{TableId}
use Rattle.row_types.specs.declared.rule.Rule.{Rule}
use Rattle.row_types.specs.declared.value.Value.{Value}
use Rattle.table_state.specs.declared.history.Sealed.{Sealed}
use Rattle.table_state.specs.declared.operation.Op.{Op}
use Rattle.table_state.specs.declared.operation.Op.TheVariants.{Insert, Update, Delete}
use Rattle.table_state.specs.Operations.{table_of}
use Rattle.table_state.specs.Tables.{TableState}
use Rattle.outside.specs.declared.fault.BankError.{BankError}
use Rattle.outside.specs.declared.fault.BankError.TheVariants.{Failed, Memory}
use Rattle.outside.specs.declared.site.Applied.{Applied}
use Rattle.outside.specs.declared.site.Applied.TheVariants.{Now, Before, NotReady, Differs}
use Rattle.cache_tier.specs.declared.reply.Reply.{Reply}
use Rattle.cache_tier.specs.CommitSteps.{AppliesNow, CommitsAll, CommitsLater, CommitsNow, CommitsOwn, after_applied, committed, committed_unsettled, is_synchronous_own, sealed_own}
use Rattle.cache_tier.specs.Groups.{Group, definitions_of, is_asynchronous}
use Rattle.cache_tier.specs.InsertSteps.{Finds, Inserts, insert_answer, insert_fault}
use Rattle.cache_tier.specs.ChangeSteps.{Changes}
use Rattle.cache_tier.specs.OwnWrites.{apply_fault, written}
use Rattle.cache_tier.specs.PassedSteps.{with_ticket}
use Rattle.cache_tier.specs.Recency.{with_commit}
use Rattle.cache_tier.specs.Shown.{no_rows, over, seen_by}
use Rattle.cache_tier.specs.StandingBetween.{Each, are_written_through, own_writes}
use Rattle.cache_tier.specs.TierStates.{Session, Tier, is_labelled, session_of, with_writes}
use Rattle.cache_tier.specs.Worlds.{Answer, Follows, Unless, World, unless}
use Rattle.cache_tier.specs.WriteSteps.{WritesOps}
use Rattle.cache_tier.proofs.SessionLists.{among_sessions, changed_session}
use Rattle.recovery.proofs.JournalledLaws.{alike_commit, alike_self}
use Rattle.line_laws.proofs.QuietTiers.{writes_quiet}
use Rattle.run_laws.specs.Lines.{AreOfKinds, IsOfOneKind, are_on_kind}
use Rattle.run_laws.proofs.KindParts.{all_wait, defs_same, each_all, kinds_by}
use Rattle.run_laws.proofs.ReadyLaws.{Ready, each_rested}
use Rattle.run_laws.proofs.RefusalLaws.{each_found}
use Rattle.run_laws.proofs.SitsLaws.{Sits, alike_defs, becomes_sits, flushes_sits, records_sits, then_stage_sits}
use Rattle.run_laws.proofs.SitsStatements.{ticket_sits}

-- ---- what stays

pub kinds_sit : (t t' : Tier) → Sits t t' → AreOfKinds t → AreOfKinds t'
kinds_sit t t' x k = kinds_by t t' x.defs (x.unsettled _ k.later) (subst (λ ss. Each (λ (s : Session). IsOfOneKind t.groups s.own) ss) (sym x.sessions) k.own)

pub kinds_of : (t t' : Tier) → t' ≡ t → AreOfKinds t → AreOfKinds t'
kinds_of t t' e k = subst AreOfKinds (sym e) k

-- what each session has written is on tables of writethrough groups
each_through : (p : List Op → Bool) (ss : List Session) → list_all p (own_writes ss) ≡ true → Each (λ (s : Session). p s.own ≡ true) ss
each_through p [] all = tt
each_through p (s ∷ ss) all = let both = Rattle.order_laws.proofs.TruthLaws.both_true (p s.own) (list_all p (own_writes ss)) all in (both.0, each_through p ss both.1)

pub through_all : (w : World) (early : List Sealed) → Ready w early → Each (λ (s : Session). are_written_through w.tier.groups s.own ≡ true) w.tier.sessions
through_all w early r = each_through (are_written_through w.tier.groups) w.tier.sessions r.stands.sessions.through

-- ---- sessions that come, go and change

pub each_left : (P : Session → Type 0) (p : Session → Bool) (ss : List Session) → Each P ss → Each P (filter p ss)
each_left P p [] each = tt
each_left P p (s ∷ ss) each = by (p s) (each_left P p ss each.1)
  where
    by : (b : Bool) → Each P (filter p ss) → Each P (cond b (s ∷ filter p ss) (filter p ss))
    by true rest = (each.0, rest)
    by false rest = rest

pub each_more : (P : Session → Type 0) (ss : List Session) (s : Session) → Each P ss → P s → Each P (ss ++ s ∷ [])
each_more P [] s each one = (one, tt)
each_more P (x ∷ ss) s each one = (each.0, each_more P ss s each.1 one)

pub each_where : (P : Session → Type 0) (p : Session → Bool) (f : Session → Session) (ss : List Session) → ((s : Session) → P s → P (f s)) → Each P ss → Each P (map (λ s. cond (p s) (f s) s) ss)
each_where P p f [] so each = tt
each_where P p f (s ∷ ss) so each = (by (p s), each_where P p f ss so each.1)
  where
    by : (b : Bool) → P (cond b (f s) s)
    by true = so s each.0
    by false = each.0

each_changed : (P : Session → Type 0) (before : List Session) (s n : Session) (behind : List Session) → P n → Each P (before ++ s ∷ behind) → Each P (before ++ n ∷ behind)
each_changed P [] s n behind one each = (one, each.1)
each_changed P (x ∷ before) s n behind one each = (each.0, each_changed P before s n behind one each.1)

-- ---- COMMIT

pub commit_defs : (rows : TableState) (ops : List Op) (gs : List Group) → definitions_of (map (with_commit rows ops) gs) ≡ definitions_of gs
commit_defs rows ops gs = alike_defs gs (map (with_commit rows ops) gs) (alike_commit rows ops gs gs (alike_self gs))

applied_kinds : (t : Tier) (x : Sealed) (label : List ℕ) (result : Result Applied BankError) → AreOfKinds t → AreOfKinds (after_applied x label result t)
applied_kinds t x label (Ok (Now receipt)) k = kinds_by t (committed x label t) (commit_defs (no_rows t) x.ops t.groups) k.later (each_rested t.groups label t.sessions k.own)
applied_kinds t x label (Ok (Before receipt)) k = kinds_by t (committed x label t) (commit_defs (no_rows t) x.ops t.groups) k.later (each_rested t.groups label t.sessions k.own)
applied_kinds t x label (Ok (NotReady ticket)) k = k
applied_kinds t x label (Ok (Differs table key row)) k = k
applied_kinds t x label (Err Memory) k = k
applied_kinds t x label (Err Failed) k = record { later = k.later; own = k.own }

module _ (w w' : World) (early : List Sealed) (reply : Reply) (r : Ready w early) (s : Session) (there : session_of w.tier s.label ≡ Some s) where
  now_kinds : CommitsNow s w w' reply → AreOfKinds w'.tier
  now_kinds q = by _ q
    where
      by : (o : Option Rule) → Unless o (Rattle.cache_tier.specs.Worlds.Then (Rattle.cache_tier.specs.Worlds.ThenStage (Rattle.cache_tier.specs.JournalSteps.Flushes (Rattle.cache_tier.specs.Journals.Prepares (sealed_own w.tier s) ∷ [])) (Rattle.cache_tier.specs.Worlds.Becomes (λ mid. with_ticket mid.tier))) (AppliesNow (sealed_own w.tier s) s.label)) w w' reply → AreOfKinds w'.tier
      by (Some rule) q = kinds_of w.tier w'.tier (ap (λ (x : World). x.tier) q.0) r.kinds
      by None t = go t.stop t.next
        where
          mid : AreOfKinds t.mid.tier
          mid = kinds_sit w.tier t.mid.tier (then_stage_sits _ _ (flushes_sits _) (becomes_sits _ (λ x. ticket_sits x.tier)) w t.mid t.stop t.first) r.kinds

          go : (stop : Option Reply) → Follows stop (AppliesNow (sealed_own w.tier s) s.label) t.mid w' reply → AreOfKinds w'.tier
          go (Some e) next = kinds_of t.mid.tier w'.tier (ap (λ (x : World). x.tier) next.0) mid
          go None a = kinds_of (after_applied (sealed_own w.tier s) s.label a.result t.mid.tier) w'.tier a.tier (applied_kinds t.mid.tier (sealed_own w.tier s) s.label a.result mid)

  -- its writes may wait
  own_waits : is_synchronous_own w.tier s ≡ false → are_on_kind is_asynchronous w.tier.groups s.own ≡ true
  own_waits e = all_wait w.tier.groups s.own (each_found (λ (y : Session). are_written_through w.tier.groups y.own ≡ true) (is_labelled s.label) w.tier.sessions s (through_all w early r) there) e

  later_kinds : is_synchronous_own w.tier s ≡ false → CommitsLater s w w' reply → AreOfKinds w'.tier
  later_kinds waits q = by _ q
    where
      by : (o : Option Rule) → Unless o (Rattle.cache_tier.specs.Worlds.Then (Rattle.cache_tier.specs.JournalSteps.Records s.durable (Rattle.cache_tier.specs.Journals.Commits (sealed_own w.tier s)))
          (Rattle.cache_tier.specs.Reading.Answers (λ mid. (committed_unsettled (sealed_own w.tier s) s.label mid.tier, Rattle.cache_tier.specs.Worlds.only (Rattle.cache_tier.specs.declared.reply.Last.TheVariants.Done w.tier.next))))) w w' reply → AreOfKinds w'.tier
      by (Some rule) q = kinds_of w.tier w'.tier (ap (λ (x : World). x.tier) q.0) r.kinds
      by None t = go t.stop t.next
        where
          sits : Sits w.tier t.mid.tier
          sits = records_sits s.durable (Rattle.cache_tier.specs.Journals.Commits (sealed_own w.tier s)) w t.mid t.stop t.first

          mid : AreOfKinds t.mid.tier
          mid = kinds_sit w.tier t.mid.tier sits r.kinds

          own : are_on_kind is_asynchronous t.mid.tier.groups s.own ≡ true
          own = on_defs s.own ∙ own_waits waits
            where
              on_defs : (ops : List Op) → are_on_kind is_asynchronous t.mid.tier.groups ops ≡ are_on_kind is_asynchronous w.tier.groups ops
              on_defs ops = Rattle.run_laws.proofs.KindParts.on_same is_asynchronous w.tier.groups t.mid.tier.groups ops (each_all _ (λ op. defs_same is_asynchronous (λ g. refl) w.tier.groups t.mid.tier.groups (table_of op) sits.defs) ops)

          go : (stop : Option Reply) → Follows stop (Rattle.cache_tier.specs.Reading.Answers (λ mid. (committed_unsettled (sealed_own w.tier s) s.label mid.tier, Rattle.cache_tier.specs.Worlds.only (Rattle.cache_tier.specs.declared.reply.Last.TheVariants.Done w.tier.next)))) t.mid w' reply → AreOfKinds w'.tier
          go (Some e) next = kinds_of t.mid.tier w'.tier (ap (λ (x : World). x.tier) next.0) mid
          go None a =
              let x = sealed_own w.tier s in
              let v = t.mid.tier in
              kinds_of (committed_unsettled x s.label v) w'.tier (ap (λ (y : World). y.tier) a.0)
              (kinds_by v (committed_unsettled x s.label v) (commit_defs (no_rows v) x.ops v.groups)
              (list_all-append _ v.unsettled (x ∷ []) ∙ (λ i. mid.later i && (own i && true)))
              (each_rested v.groups s.label v.sessions mid.own))

  pub commits_kinds : CommitsAll s w w' reply → AreOfKinds w'.tier
  commits_kinds q = by s.own q
    where
      by : (own : List Op) → CommitsOwn s own w w' reply → AreOfKinds w'.tier
      by [] q = kinds_of (Rattle.cache_tier.specs.CommitSteps.ends s w.tier) w'.tier (ap (λ (x : World). x.tier) q.0) (kinds_by w.tier (Rattle.cache_tier.specs.CommitSteps.ends s w.tier) refl r.kinds.later (each_rested w.tier.groups s.label w.tier.sessions r.kinds.own))
      by (op ∷ ops) q = kind (is_synchronous_own w.tier s) refl q
        where
          kind : (b : Bool) → is_synchronous_own w.tier s ≡ b → MatchBool b (CommitsNow s w w' reply) (CommitsLater s w w' reply) → AreOfKinds w'.tier
          kind true e q = now_kinds q
          kind false e q = later_kinds e q

-- ---- INSERT, UPDATE, DELETE in the cache

-- the session has written these, or the tier stays
abbrev pub Wrote : Session → List Op → World → World → Type 0
Wrote s ops w w' = (w'.tier ≡ w.tier) ⊎ ((table : TableId) × (w'.tier ≡ (written s table ops w).0))

unless_wrote : (s : Session) (table : TableId) (ops : List Op) (w : World) (t : Tier) (o : Option Rule) → t ≡ (unless w.tier o (written s table ops w)).0 → (t ≡ w.tier) ⊎ ((table : TableId) × (t ≡ (written s table ops w).0))
unless_wrote s table ops w t None e = inr (table, e)
unless_wrote s table ops w t (Some rule) e = inl e

changes_wrote : (s : Session) (table : TableId) (ops : List Op) (w w' : World) (reply : Reply) → Changes s table ops w w' reply → Wrote s ops w w'
changes_wrote s table ops w w' reply q = unless_wrote s table ops w w'.tier (apply_fault s w ops) (ap (λ (x : World). x.tier) q.0)

finds_wrote : (s : Session) (table : TableId) (row : List Value) (w w' : World) (reply : Reply) → Finds s table row w w' reply → Wrote s (Insert table row ∷ []) w w'
finds_wrote s table row w w' reply q = by q.result (ap (λ (a : Answer). a.0) q.answer)
  where
    by : (result : Result (Option (List Value)) BankError) → w'.tier ≡ (insert_answer s w (w.history ++ q.call.history.before) table row result).0 → Wrote s (Insert table row ∷ []) w w'
    by (Ok found) e = unless_wrote s table (Insert table row ∷ []) w w'.tier (insert_fault s w (w.history ++ q.call.history.before) table row) e
    by (Err x) e = inl e

inserts_wrote : (s : Session) (table : TableId) (row : List Value) (w w' : World) (reply : Reply) → Inserts s table row w w' reply → Wrote s (Insert table row ∷ []) w w'
inserts_wrote s table row w w' reply q = by _ q
  where
    by : (b : Bool) → MatchBool b (Rattle.cache_tier.specs.Worlds.Refuses (Rattle.cache_tier.specs.InsertSteps.taken w.tier table row) w w' reply) (Finds s table row w w' reply) → Wrote s (Insert table row ∷ []) w w'
    by true q = inl (ap (λ (x : World). x.tier) q.0)
    by false q = finds_wrote s table row w w' reply q

pub ops_wrote : (s : Session) (table : TableId) (ops : List Op) (w w' : World) (reply : Reply) → WritesOps s table ops w w' reply → Wrote s ops w w'
ops_wrote s table (Insert t row ∷ []) w w' reply q = inserts_wrote s t row w w' reply q
ops_wrote s table [] w w' reply q = changes_wrote s table [] w w' reply q
ops_wrote s table (Insert t row ∷ op ∷ ops) w w' reply q = changes_wrote s table (Insert t row ∷ op ∷ ops) w w' reply q
ops_wrote s table (Update t old new ∷ ops) w w' reply q = changes_wrote s table (Update t old new ∷ ops) w w' reply q
ops_wrote s table (Delete t old ∷ ops) w w' reply q = changes_wrote s table (Delete t old ∷ ops) w w' reply q

-- a session has written more, of the same kind
pub wrote_kinds : (s : Session) (ops : List Op) (w w' : World) → Rattle.cache_tier.specs.StandingBetween.HaveOwnLabels w.tier.sessions → session_of w.tier s.label ≡ Some s → AreOfKinds w.tier → IsOfOneKind w.tier.groups (s.own ++ ops) → Wrote s ops w w' → AreOfKinds w'.tier
wrote_kinds s ops w w' labels there k one (inl e) = kinds_of w.tier w'.tier e k
wrote_kinds s ops w w' labels there k one (inr (table, e)) =
    let a = among_sessions w.tier.sessions s labels there in
    let P : Session → Type 0 = λ (y : Session). IsOfOneKind w.tier.groups y.own in
    let changed = changed_session w.tier.sessions s a (with_writes ops) in
    kinds_of (written s table ops w).0 w'.tier e
    (kinds_by w.tier (written s table ops w).0 (alike_defs w.tier.groups (written s table ops w).0.groups (writes_quiet over ops (seen_by s w.history w.tier) w.tier).groups) k.later
    (subst (Each P) (sym changed) (each_changed P a.before s (with_writes ops s) a.behind one (subst (Each P) a.is k.own))))
