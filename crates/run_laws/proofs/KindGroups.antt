-- Groups that come and go: what is written stays on tables of one kind.
use Rattle.std.proofs.Common.{◌≡◌, inl, inr, ℕ, Bool, true, false, not, Option, Some, None, List, [], ◌∷◌, ◌++◌, slice_get, refl, sym, ap, subst, ◌∙◌}
use Rattle.std.specs.Bool.{MatchBool}
use Rattle.std.specs.List.{list_all}
use Rattle.tier_base.specs.declared.number.TableId.{TableId}
use Rattle.row_types.specs.declared.rule.Rule.{Rule}
use Rattle.table_state.specs.declared.history.Sealed.{Sealed}
use Rattle.table_state.specs.declared.operation.Op.{Op}
use Rattle.table_state.specs.Operations.{table_of}
use Rattle.order_laws.proofs.TruthLaws.{both_true, untrue}
use Rattle.cache_tier.specs.declared.reply.Reply.{Reply}
use Rattle.cache_tier.specs.DefineSteps.{CreatesGroup, define_answer, with_new_group}
use Rattle.cache_tier.specs.Definitions.{text_of}
use Rattle.cache_tier.specs.Dropping.{MayDrop}
use Rattle.cache_tier.specs.DropSteps.{DropsGroup, DropsRest, drop_answer, drop_fault, without_group}
use Rattle.cache_tier.specs.Groups.{Group, covers, is_asynchronous, is_synchronous, is_table_of, is_writethrough}
use Rattle.cache_tier.specs.JournalSteps.{Flushes, FlushesSome, journal_fault}
use Rattle.cache_tier.specs.Journals.{Defines, Drops}
use Rattle.cache_tier.specs.Reading.{Answers}
use Rattle.cache_tier.specs.Rounds.{Round}
use Rattle.cache_tier.specs.StandingBetween.{Each, HasNoTableOf, HaveOwnTables, are_written_through, own_writes}
use Rattle.cache_tier.specs.TierStates.{Session, Tier, session_of}
use Rattle.cache_tier.specs.Worlds.{Follows, Then, Tries, Unless, World}
use Rattle.recovery.specs.Recalling.{group_of}
use Rattle.line_laws.proofs.CommitStatements.{MayGo, may_drop}
use Rattle.run_laws.specs.Lines.{AreOfKinds, IsOfOneKind, are_later, are_on_kind}
use Rattle.run_laws.proofs.CreateLaws.{IsInOrder, apart_last}
use Rattle.run_laws.proofs.DueLaws.{round_ready, round_sits}
use Rattle.run_laws.proofs.KindParts.{AreSameAt, covered, each_tested, kind_same, last_same, later_same, not_its, reads_not, without_same}
use Rattle.run_laws.proofs.KindStatements.{kinds_of, kinds_sit, through_all}
use Rattle.run_laws.proofs.ReadyLaws.{Ready, ReadyOn}
use Rattle.run_laws.proofs.SitsLaws.{Sits, flushes_some_sits}

each_zip : {X : Type 0} (P Q R : X → Type 0) → ((x : X) → P x → Q x → R x) → (xs : List X) → Each P xs → Each Q xs → Each R xs
each_zip P Q R so [] p q = tt
each_zip P Q R so (x ∷ xs) p q = (so x p.0 q.0, each_zip P Q R so xs p.1 q.1)

-- the tables of operations, each where a test holds of its own
same_where : (test kind : Group → Bool) (gs hs : List Group) → ((u : TableId) → is_table_of kind gs u ≡ true → is_table_of test hs u ≡ is_table_of test gs u) → (ops : List Op) → are_on_kind kind gs ops ≡ true → AreSameAt test gs hs ops
same_where test kind gs hs so ops on = each_tested (λ (op : Op). is_table_of kind gs (table_of op)) _ (λ op e. so (table_of op) e) ops on

-- where the tables that are written through are of the same kinds, so is what is written
regrouped_kinds : (w : World) (early : List Sealed) (t : Tier) → Ready w early → t.unsettled ≡ w.tier.unsettled → t.sessions ≡ w.tier.sessions
    → ((u : TableId) → is_table_of is_writethrough w.tier.groups u ≡ true → is_table_of is_synchronous t.groups u ≡ is_table_of is_synchronous w.tier.groups u)
    → ((u : TableId) → is_table_of is_asynchronous w.tier.groups u ≡ true → is_table_of is_asynchronous t.groups u ≡ is_table_of is_asynchronous w.tier.groups u) → AreOfKinds t
regrouped_kinds w early t r unsettled sessions own waits = record {
  later = ap (are_later t.groups) unsettled
      ∙ later_same w.tier.groups t.groups w.tier.unsettled (each_tested (λ (u : Sealed). are_on_kind is_asynchronous w.tier.groups u.ops) _ (λ u on. same_where is_asynchronous is_asynchronous w.tier.groups t.groups waits u.ops on) w.tier.unsettled r.kinds.later)
      ∙ r.kinds.later;
  own = subst (λ ss. Each (λ (s : Session). IsOfOneKind t.groups s.own) ss) (sym sessions)
      (each_zip (λ (s : Session). are_written_through w.tier.groups s.own ≡ true) (λ (s : Session). IsOfOneKind w.tier.groups s.own) _
      (λ s through one. kind_same w.tier.groups t.groups s.own (same_where is_synchronous is_writethrough w.tier.groups t.groups own s.own through) one) w.tier.sessions (through_all w early r) r.kinds.own);
}

-- ---- CREATE

pub creates_kinds : (w w' : World) (early : List Sealed) (reply : Reply) (d : Rattle.sql_subset.specs.declared.stmt.CreateGroup.CreateGroup) → Ready w early → IsInOrder w'.tier → CreatesGroup d w w' reply → AreOfKinds w'.tier
creates_kinds w w' early reply d r order q = by (journal_fault w (Defines d (text_of d) ∷ [])) q.does
  where
    made : (t : Tier) → w'.tier ≡ with_new_group d q.tree t → t ≡ w.tier → AreOfKinds w'.tier
    made t e same =
        let is : w'.tier ≡ with_new_group d q.tree w.tier = e ∙ ap (with_new_group d q.tree) same in
        let g : Group = group_of w.tier d q.tree in
        let apart : HasNoTableOf w.tier.groups g = apart_last w.tier.groups g (subst HaveOwnTables (ap (λ (x : Tier). x.groups) is) order.apart) in
        kinds_of (with_new_group d q.tree w.tier) w'.tier is
        (regrouped_kinds w early (with_new_group d q.tree w.tier) r refl refl
        (λ u on. last_same is_synchronous w.tier.groups g u apart (covered is_writethrough w.tier.groups u on))
        (λ u on. last_same is_asynchronous w.tier.groups g u apart (covered is_asynchronous w.tier.groups u on)))

    by : (o : Option Rule) → Unless o (Then (Flushes (Defines d (text_of d) ∷ [])) (Answers (define_answer d q.tree))) w w' reply → AreOfKinds w'.tier
    by (Some rule) q = kinds_of w.tier w'.tier (ap (λ (x : World). x.tier) q.0) r.kinds
    by None t = go t.stop t.next
      where
        flushed : t.mid.tier ≡ w.tier
        flushed = kept w.journal.kept t.first
          where
            kept : (b : Bool) → Rattle.cache_tier.specs.Worlds.OnlyWhere b (Rattle.cache_tier.specs.JournalSteps.FlushesKept (Defines d (text_of d) ∷ [])) w t.mid t.stop → t.mid.tier ≡ w.tier
            kept true f = f.tier
            kept false f = ap (λ (x : World). x.tier) f.0

        go : (stop : Option Reply) → Follows stop (Answers (define_answer d q.tree)) t.mid w' reply → AreOfKinds w'.tier
        go (Some e) next = kinds_of w.tier w'.tier (ap (λ (x : World). x.tier) next.0 ∙ flushed) r.kinds
        go None next = made t.mid.tier (ap (λ (x : World). x.tier) next.0) flushed

-- ---- DROP

module _ (w : World) (early : List Sealed) (r : Ready w early) (g : Group) (may : MayDrop w g.def.name g) where
  own_tables : HaveOwnTables (may.before ++ g ∷ may.behind)
  own_tables = subst HaveOwnTables may.is r.stands.catalog.apart

  -- a table that isn't the group's is of the same kind still
  stays : (test : Group → Bool) (u : TableId) → covers u g ≡ false → is_table_of test (without_group g.def.name w.tier).groups u ≡ is_table_of test w.tier.groups u
  stays test u off = ap (λ gs. is_table_of test gs u) may.rest ∙ without_same test may.before g may.behind u off ∙ sym (ap (λ gs. is_table_of test gs u) may.is)

  other : (kind : Group → Bool) (u : TableId) → kind g ≡ false → is_table_of kind w.tier.groups u ≡ true → covers u g ≡ false
  other kind u none on = not_its kind may.before g may.behind u own_tables none (ap (λ gs. is_table_of kind gs u) (sym may.is) ∙ on)

  -- a READONLY one
  reads_gone : is_writethrough g ≡ false → AreOfKinds (without_group g.def.name w.tier)
  reads_gone e =
      regrouped_kinds w early (without_group g.def.name w.tier) r refl refl
      (λ u on. stays is_synchronous u (other is_writethrough u e on)) (λ u on. stays is_asynchronous u (other is_asynchronous u (reads_not g e).1 on))

  off_table : (op : Op) → not (Rattle.order_laws.specs.Commits.is_op_on (Rattle.cache_tier.specs.Commits.tables_of g.def.tree) op) ≡ true → covers (table_of op) g ≡ false
  off_table op e = sym (Rattle.cache_tier.proofs.GroupTables.in_tree g.def.tree (table_of op)) ∙ untrue (Rattle.order_laws.specs.Commits.is_op_on (Rattle.cache_tier.specs.Commits.tables_of g.def.tree) op) e

  each_own : (p : List Op → Bool) (ss : List Session) → list_all p (own_writes ss) ≡ true → Each (λ (s : Session). p s.own ≡ true) ss
  each_own p [] all = tt
  each_own p (s ∷ ss) all = let both = both_true (p s.own) (list_all p (own_writes ss)) all in (both.0, each_own p ss both.1)

  -- a writethrough one: nothing is unsettled, and no session has written on its tables
  writes_gone : is_writethrough g ≡ true → AreOfKinds (without_group g.def.name w.tier)
  writes_gone e = record {
    later = ap (are_later (without_group g.def.name w.tier).groups) (may.settled e);
    own = each_zip (λ (s : Session). Rattle.order_laws.specs.Sides.are_off (Rattle.cache_tier.specs.Commits.tables_of g.def.tree) s.own ≡ true) (λ (s : Session). IsOfOneKind w.tier.groups s.own) _
        (λ s off one. kind_same w.tier.groups (without_group g.def.name w.tier).groups s.own
        (each_tested (λ op. not (Rattle.order_laws.specs.Commits.is_op_on (Rattle.cache_tier.specs.Commits.tables_of g.def.tree) op)) _ (λ op out. stays is_synchronous (table_of op) (off_table op out)) s.own off) one)
        w.tier.sessions (each_own (Rattle.order_laws.specs.Sides.are_off (Rattle.cache_tier.specs.Commits.tables_of g.def.tree)) w.tier.sessions (may.unwritten e)) r.kinds.own;
  }

  gone : AreOfKinds (without_group g.def.name w.tier)
  gone = by (is_writethrough g) refl
    where
      by : (b : Bool) → is_writethrough g ≡ b → AreOfKinds (without_group g.def.name w.tier)
      by true e = writes_gone e
      by false e = reads_gone e

rest_kinds : (s : Session) (place : ℕ) (g : Group) (w w' : World) (early : List Sealed) (reply : Reply) → Ready w early → MayGo s place g w → DropsRest s g w w' reply → AreOfKinds w'.tier
rest_kinds s place g w w' early reply r may q = by (drop_fault s g w) refl q
  where
    by : (o : Option Rule) → drop_fault s g w ≡ o → Unless o (Then (FlushesSome (Drops g.def.name ∷ [])) (Answers (drop_answer g.def.name))) w w' reply → AreOfKinds w'.tier
    by (Some rule) e q = kinds_of w.tier w'.tier (ap (λ (x : World). x.tier) q.0) r.kinds
    by None e t = go t.stop t.next
      where
        sits : Sits w.tier t.mid.tier
        sits = flushes_some_sits (Drops g.def.name ∷ []) w t.mid t.stop t.first

        go : (stop : Option Reply) → Follows stop (Answers (drop_answer g.def.name)) t.mid w' reply → AreOfKinds w'.tier
        go (Some x) next = kinds_of t.mid.tier w'.tier (ap (λ (x : World). x.tier) next.0) (kinds_sit w.tier t.mid.tier sits r.kinds)
        go None next =
            kinds_of (without_group g.def.name t.mid.tier) w'.tier (ap (λ (x : World). x.tier) next.0)
            (subst (λ v. AreOfKinds (without_group g.def.name v)) (sym (flushed_some t.mid t.stop t.first)) (gone w early r g (may_drop s place g w early r.journalled may e)))
          where
            kept : (b : Bool) (v : World) (stop : Option Reply) → Rattle.cache_tier.specs.Worlds.OnlyWhere b (Rattle.cache_tier.specs.JournalSteps.FlushesKept (Drops g.def.name ∷ [])) w v stop → v.tier ≡ w.tier
            kept true v stop f = f.tier
            kept false v stop f = ap (λ (x : World). x.tier) f.0

            fitting : (b : Bool) (v : World) (stop : Option Reply) → MatchBool b ((v ≡ w) × (stop ≡ Some (Rattle.cache_tier.specs.Worlds.only (Rattle.cache_tier.specs.declared.reply.Last.TheVariants.No (Rattle.cache_tier.specs.Rules.past Rattle.tier_base.specs.declared.limit.Limit.TheVariants.JournalSlot))))) (Flushes (Drops g.def.name ∷ []) w v stop) → v.tier ≡ w.tier
            fitting true v stop f = ap (λ (x : World). x.tier) f.0
            fitting false v stop f = kept w.journal.kept v stop f

            flushed_some : (v : World) (stop : Option Reply) → FlushesSome (Drops g.def.name ∷ []) w v stop → v.tier ≡ w.tier
            flushed_some v stop f = fitting (Rattle.cache_tier.specs.JournalSteps.journal_full w (Drops g.def.name ∷ [])) v stop f

pub drops_kinds : (s : Session) (name : List ℕ) (w w' : World) (early : List Sealed) (reply : Reply) → Ready w early → session_of w.tier s.label ≡ Some s → s.own ≡ [] → DropsGroup s name w w' reply → AreOfKinds w'.tier
drops_kinds s name w w' early reply r there rests q = by (is_writethrough q.group) refl q.does
  where
    by : (b : Bool) → is_writethrough q.group ≡ b → MatchBool b (Then Round (Tries (DropsRest s q.group)) w w' reply) (DropsRest s q.group w w' reply) → AreOfKinds w'.tier
    by false e d = rest_kinds s q.place q.group w w' early reply r (record { stands = r.stands; session = there; rests = rests; there = q.is; settled = λ t. (let bad : false ≡ true = sym e ∙ t in Prim.cc) }) d
    by true e t = go t.stop t.first t.next
      where
        go : (stop : Option Reply) → Round w t.mid stop → Follows stop (Tries (DropsRest s q.group)) t.mid w' reply → AreOfKinds w'.tier
        go (Some x) first next = kinds_of t.mid.tier w'.tier (ap (λ (x : World). x.tier) next.0) (kinds_sit w.tier t.mid.tier (Rattle.run_laws.proofs.SitsLaws.rounds_sit w t.mid (Some x) first) r.kinds)
        go None first next = last next
          where
            a : ReadyOn t.mid early
            a = round_ready w t.mid early None r first refl

            same : (left : List Sealed × ℕ) × (t.mid.tier ≡ record w.tier { unsettled = left.0; round = left.1 })
            same = round_sits w t.mid None first

            may : MayGo s q.place q.group t.mid
            may = record {
              stands = a.is.stands;
              session = ap (λ (x : Tier). session_of x s.label) same.1 ∙ there;
              rests = rests;
              there = ap (λ (x : Tier). slice_get x.groups q.place) same.1 ∙ q.is;
              settled = λ e. (Rattle.line_laws.proofs.RoundLaws.round_goes w t.mid early None r.stands r.journalled r.unshared first refl).1 refl;
            }

            last : Tries (DropsRest s q.group) t.mid w' reply → AreOfKinds w'.tier
            last (inl d) = rest_kinds s q.place q.group t.mid w' a.now reply a.is may d
            last (inr d) = kinds_of t.mid.tier w'.tier (ap (λ (x : World). x.tier) d.0) a.is.kinds
