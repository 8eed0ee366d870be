-- COMMIT of asynchronous writes, CREATE CACHE GROUP and DROP CACHE GROUP.
use Rattle.std.proofs.Common.{◌≡◌, inl, inr, ℕ, zero, suc, Bool, true, false, not, ◌&&◌, Option, Some, None, List, [], ◌∷◌, find, slice_get, refl, sym, ap, subst, ◌∙◌, append_assoc}
use Rattle.std.specs.Bool.{MatchBool}
use Rattle.std.specs.List.{list_all, list_any}
use Rattle.std.proofs.lemmas.Cmp.{nat_list_eq_equiv}
use Rattle.row_types.specs.declared.rule.Rule.{Rule}
use Rattle.table_state.specs.declared.history.Sealed.{Sealed}
use Rattle.table_state.specs.declared.operation.Op.{Op}
use Rattle.table_state.specs.Operations.{table_of}
use Rattle.instances.specs.declared.tree.Tree.{Tree}
use Rattle.sql_subset.specs.declared.stmt.CreateGroup.{CreateGroup}
use Rattle.order_laws.specs.Sides.{are_off}
use Rattle.order_laws.proofs.StepLaws.{or_none}
use Rattle.order_laws.proofs.TruthLaws.{same_some}
use Rattle.cache_tier.specs.Commits.{tables_of}
use Rattle.cache_tier.specs.CommitSteps.{CommitsLater, committed_unsettled, sealed_own}
use Rattle.cache_tier.specs.declared.reply.Reply.{Reply}
use Rattle.cache_tier.specs.declared.reply.Last.TheVariants.{Done}
use Rattle.cache_tier.specs.DefineSteps.{CreatesGroup, define_answer, with_new_group}
use Rattle.cache_tier.specs.Defining.{IsNewGroup}
use Rattle.cache_tier.specs.Definitions.{definition_names, IsTreeOf, placed_tables, text_of}
use Rattle.cache_tier.specs.Dropping.{MayDrop}
use Rattle.cache_tier.specs.DropSteps.{DropsGroup, DropsRest, drop_answer, drop_fault, without_group}
use Rattle.cache_tier.specs.Groups.{definitions_of, Group, covers, is_called, is_writethrough}
use Rattle.cache_tier.specs.JournalSteps.{Flushes, FlushesSome, NotesKept, Records, journal_fault}
use Rattle.cache_tier.specs.Journals.{Commits, Defines, Drops}
use Rattle.cache_tier.specs.Locks.{locked_by, writes_on}
use Rattle.cache_tier.specs.Reading.{Answers}
use Rattle.cache_tier.specs.Rounds.{Round}
use Rattle.cache_tier.specs.StandingBetween.{Stands, own_writes}
use Rattle.cache_tier.specs.Steps.{tells}
use Rattle.cache_tier.specs.TierStates.{Session, Tier, others, session_of}
use Rattle.cache_tier.specs.Worlds.{Follows, IsUnshared, OnlyWhere, Then, Tries, Unless, World}
use Rattle.cache_tier.proofs.DropStatements.{split_of}
use Rattle.cache_tier.proofs.GroupTables.{in_tree}
use Rattle.cache_tier.proofs.SessionLists.{none_passes}
use Rattle.cache_tier.proofs.UnloadStatements.{map_nothing}
use Rattle.tier_base.specs.declared.code.Code.TheVariants as code
use Rattle.recovery.specs.Recalling.{group_of}
use Rattle.recovery.specs.Journalled.{AreAlike, IsJournalled, IsJournalledOn, IsQuiet, with_commit_noted, with_flushed_entry}
use Rattle.recovery.proofs.CatalogLaws.{define_kept}
use Rattle.recovery.proofs.DroppedLaws.{drop_kept}
use Rattle.recovery.proofs.JournalledLaws.{alike_self, commits_kept, flushes_kept}
use Rattle.recovery.proofs.NewestLaws.{NamesApart}
use Rattle.recovery.proofs.OthersLaws.{on_then, one_journalled_on}
use Rattle.line_laws.specs.Keeping.{Anything, HasNoWrites, KeepsJournalOf, KeepsJournalWhere, MayCreate, is_broken}
use Rattle.line_laws.proofs.FlushLaws.{IsWhole, kept_flushes}
use Rattle.line_laws.proofs.PartWords.{same_on, still_quiet, unshared_still}
use Rattle.line_laws.proofs.PlaceLaws.{none_at}
use Rattle.line_laws.proofs.RoundLaws.{Rounded, round_goes}
use Rattle.line_laws.proofs.TellingLaws.{names_apart, none, refused, some_flushes, whole}

-- ---- COMMIT

-- the record is flushed with the tail, and the tier is told so
pub flushed_with_commit : (s : Session) (w mid : World) (early : List Sealed) → IsJournalled w early → IsJournalledOn (with_commit_noted s w) early → IsWhole (Commits (sealed_own w.tier s) ∷ []) w mid
    → IsJournalledOn (record mid { tier = committed_unsettled (sealed_own w.tier s) s.label mid.tier }) early
flushed_with_commit s w mid early j noted is =
    let before = with_commit_noted s w in
    let on = flushes_kept before noted.now mid.journal noted.is (record {
      kept = is.journal.batch.kept ∙ j.kept;
      flushed = is.journal.batch.flushed ∙ append_assoc w.journal.flushed w.journal.tail (Commits (sealed_own w.tier s) ∷ []);
      tail = is.journal.batch.tail;
      way = is.journal.way;
    }) in
    let last = on_then (record before { journal = mid.journal }) early noted.now noted.more noted.grows on in
    one_journalled_on (record before { journal = mid.journal }) (record mid { tier = committed_unsettled (sealed_own w.tier s) s.label mid.tier }) early
    (record { tier = ap (λ (t : Tier). committed_unsettled (sealed_own w.tier s) s.label t) is.tier; history = is.history; journal = refl; shared = is.shared }) last

recorded : (s : Session) (w mid w' : World) (early : List Sealed) (stop : Option Reply) → IsJournalled w early → IsJournalledOn (with_commit_noted s w) early → (durable : Bool) → Records durable (Commits (sealed_own w.tier s)) w mid stop → is_broken stop ≡ false
    → w' ≡ record mid { tier = committed_unsettled (sealed_own w.tier s) s.label mid.tier } → IsJournalledOn w' early × (stop ≡ None)
recorded s w mid w' early stop j noted false q ok e = by (subst (λ b. OnlyWhere b (NotesKept (Commits (sealed_own w.tier s))) w mid stop) j.kept q)
  where
    by : NotesKept (Commits (sealed_own w.tier s)) w mid stop → IsJournalledOn w' early × (stop ≡ None)
    by n = (subst (λ x. IsJournalledOn x early) (sym (e ∙ ap (λ (x : World). record x { tier = committed_unsettled (sealed_own w.tier s) s.label x.tier }) n.0)) noted, n.1)
recorded s w mid w' early stop j noted true q ok e =
    let f = kept_flushes (Commits (sealed_own w.tier s) ∷ []) w mid stop j.kept q ok in
    (subst (λ x. IsJournalledOn x early) (sym e) (flushed_with_commit s w mid early j noted f.0), f.1)

pub commits_later_kept : (s : Session) → KeepsJournalOf s Anything (CommitsLater s)
commits_later_kept s w w' early reply stands j apart there p q ok = by _ q
  where
    by : (o : Option Rule) → Unless o (Then (Records s.durable (Commits (sealed_own w.tier s))) (Answers (λ mid. (committed_unsettled (sealed_own w.tier s) s.label mid.tier, Rattle.cache_tier.specs.Worlds.only (Done w.tier.next))))) w w' reply → IsJournalledOn w' early
    by (Some rule) q = same_on w w' early q.0 j
    by None q = go q.stop q.first q.next
      where
        noted : IsJournalledOn (with_commit_noted s w) early
        noted = commits_kept w early s stands j there

        go : (stop : Option Reply) → Records s.durable (Commits (sealed_own w.tier s)) w q.mid stop
            → Follows stop (Answers (λ mid. (committed_unsettled (sealed_own w.tier s) s.label mid.tier, Rattle.cache_tier.specs.Worlds.only (Done w.tier.next)))) q.mid w' reply → IsJournalledOn w' early
        go None first next = (recorded s w q.mid w' early None j noted s.durable first refl next.0).0
        go (Some r) first next =
            let bad : Some r ≡ None = (recorded s w q.mid (record (q.mid) { tier = committed_unsettled (sealed_own w.tier s) s.label q.mid.tier }) early (Some r) j noted s.durable first
            (ap (λ (x : Reply). tells code.JournalFault x.last) (sym next.1) ∙ ok) refl).1 in
            Prim.cc

-- ---- CREATE

pub created : (d : CreateGroup) (tree : Tree) (w mid : World) (early : List Sealed) → Stands w → IsJournalled w early → definition_names w.tier.schema (definitions_of w.tier.groups) d ≡ None → IsNewGroup w (group_of w.tier d tree) → IsTreeOf (placed_tables w.tier.schema d) tree
    → IsWhole (Defines d (text_of d) ∷ []) w mid → IsJournalledOn (record mid { tier = with_new_group d tree mid.tier }) early
created d tree w mid early stands j names new tree_is is =
    one_journalled_on (with_flushed_entry (with_new_group d tree mid.tier) mid.journal w) (record mid { tier = with_new_group d tree mid.tier }) early (record { tier = refl; history = is.history; journal = refl; shared = is.shared })
    (define_kept w early d (text_of d) tree (with_new_group d tree mid.tier) mid.journal stands j tree_is names new
    (record { kept = is.journal.batch.kept ∙ j.kept; flushed = is.journal.batch.flushed; tail = is.journal.batch.tail; way = is.journal.way })
    (subst (λ t. IsQuiet (with_new_group d tree t) (with_new_group d tree mid.tier)) is.tier (still_quiet (with_new_group d tree mid.tier))))

-- where the group that comes is one that may come
pub creates_made : (d : CreateGroup) (w w' : World) (early : List Sealed) (reply : Reply) → Stands w → IsJournalled w early → definition_names w.tier.schema (definitions_of w.tier.groups) d ≡ None → (q : CreatesGroup d w w' reply)
    → (w'.history ≡ w.history → w'.tier ≡ with_new_group d q.tree w.tier → IsNewGroup w (group_of w.tier d q.tree)) → tells code.JournalFault reply.last ≡ false → IsJournalledOn w' early
creates_made d w w' early reply stands j names q new ok = by (journal_fault w (Defines d (text_of d) ∷ [])) q.does
  where
    by : (o : Option Rule) → Unless o (Then (Flushes (Defines d (text_of d) ∷ [])) (Answers (define_answer d q.tree))) w w' reply → IsJournalledOn w' early
    by (Some rule) q = same_on w w' early q.0 j
    by None t = go t.stop t.first t.next
      where
        go : (stop : Option Reply) → Flushes (Defines d (text_of d) ∷ []) w t.mid stop → Follows stop (Answers (define_answer d q.tree)) t.mid w' reply → IsJournalledOn w' early
        go None first next =
            let is = (kept_flushes (Defines d (text_of d) ∷ []) w t.mid None j.kept first refl).0 in
            let made : w'.tier ≡ with_new_group d q.tree w.tier = ap (λ (x : World). x.tier) next.0 ∙ ap (with_new_group d q.tree) is.tier in
            subst (λ x. IsJournalledOn x early) (sym next.0) (created d q.tree w t.mid early stands j names (new (ap (λ (x : World). x.history) next.0 ∙ is.history) made) q.is is)
        go (Some r) first next =
            let bad : Some r ≡ None = (kept_flushes (Defines d (text_of d) ∷ []) w t.mid (Some r) j.kept first (ap (λ (x : Reply). tells code.JournalFault x.last) (sym next.1) ∙ ok)).1 in
            Prim.cc

pub creates_kept : (d : CreateGroup) → KeepsJournalWhere (MayCreate d) (CreatesGroup d)
creates_kept d w w' early reply stands j apart may q ok = creates_made d w w' early reply stands j may.names q (λ h e. may.new q.tree q.is) ok

-- ---- DROP

pub ops_off : (g : Group) (ops : List Op) → writes_on g ops ≡ false → are_off (tables_of g.def.tree) ops ≡ true
ops_off g [] e = refl
ops_off g (op ∷ ops) e =
    let (first, rest) = or_none (covers (table_of op) g) (writes_on g ops) e in
    (λ i. not ((in_tree g.def.tree (table_of op) ∙ first) i) && ops_off g ops rest i)

pub owns_off : (g : Group) (sessions : List Session) → list_any (λ (s : Session). writes_on g s.own) sessions ≡ false → list_all (are_off (tables_of g.def.tree)) (own_writes sessions) ≡ true
owns_off g [] e = refl
owns_off g (s ∷ sessions) e =
    let (first, rest) = or_none (writes_on g s.own) (list_any (λ (r : Session). writes_on g r.own) sessions) e in
    (λ i. ops_off g s.own first i && owns_off g sessions rest i)

-- a name is that of one place
one_place : (gs : List Group) (i k : ℕ) (g h : Group) → NamesApart gs → slice_get gs i ≡ Some g → slice_get gs k ≡ Some h → is_called g.def.name h ≡ true → k ≡ i
one_place [] i k g h apart at there same = Prim.cc
one_place (x ∷ gs) zero zero g h apart at there same = refl
one_place (x ∷ gs) zero (suc k) g h apart at there same =
    let name : x.def.name ≡ g.def.name = ap (λ (y : Group). y.def.name) (same_some at) in
    let bad : true ≡ false = sym same ∙ ap (λ n. is_called n h) (sym name) ∙ none_at x.def.name gs k h apart.0 there in
    Prim.cc
one_place (x ∷ gs) (suc i) zero g h apart at there same =
    let name : x.def.name ≡ h.def.name = ap (λ (y : Group). y.def.name) (same_some there) in
    let turn : is_called h.def.name g ≡ true = nat_list_eq_equiv.symm g.def.name h.def.name ∙ same in
    let bad : true ≡ false = sym turn ∙ ap (λ n. is_called n g) (sym name) ∙ none_at x.def.name gs i g apart.0 at in
    Prim.cc
one_place (x ∷ gs) (suc i) (suc k) g h apart at there same = ap suc (one_place gs i k g h apart.1 at there same)

-- what the rest of a DROP asks
pub record MayGo (s : Session) (place : ℕ) (g : Group) (w : World) : Type 0 where
  pub stands : Stands w
  pub session : session_of w.tier s.label ≡ Some s
  pub rests : s.own ≡ []
  pub there : slice_get w.tier.groups place ≡ Some g
  pub settled : is_writethrough g ≡ true → w.tier.unsettled ≡ []

pub may_drop : (s : Session) (place : ℕ) (g : Group) (w : World) (early : List Sealed) → IsJournalled w early → MayGo s place g w → drop_fault s g w ≡ None → MayDrop w g.def.name g
may_drop s place g w early j may unlocked =
    let split = split_of (is_called g.def.name) w.tier.groups place g may.there (nat_list_eq_equiv.refl g.def.name) (λ i h at same. one_place w.tier.groups place i g h (names_apart w early j) may.there at same) in
    let writes : Session → Bool = λ r. writes_on g r.own in
    let unwritten : list_any (λ (r : Session). writes_on g r.own) w.tier.sessions ≡ false = none_passes w.tier.sessions s (λ r. writes_on g r.own) may.stands.sessions.labels may.session (ap (writes_on g) may.rests)
    (map_nothing locked_by (find (λ (r : Session). writes_on g r.own) (others s.label w.tier)) unlocked) in
    record { before = split.before; behind = split.behind; is = split.is; rest = split.rest; settled = may.settled; unwritten = λ t. owns_off g w.tier.sessions unwritten }

pub gone : (s : Session) (place : ℕ) (g : Group) (w mid : World) (early : List Sealed) → IsJournalled w early → IsUnshared w → MayGo s place g w → drop_fault s g w ≡ None → IsWhole (Drops g.def.name ∷ []) w mid
    → IsJournalledOn (record mid { tier = without_group g.def.name mid.tier }) early
gone s place g w mid early j apart may unlocked is =
    one_journalled_on (with_flushed_entry (without_group g.def.name mid.tier) mid.journal w) (record mid { tier = without_group g.def.name mid.tier }) early (record { tier = refl; history = is.history; journal = refl; shared = is.shared })
    (drop_kept w early g.def.name g (without_group g.def.name mid.tier) mid.journal may.stands j apart (may_drop s place g w early j may unlocked) (nat_list_eq_equiv.refl g.def.name)
    (record { kept = is.journal.batch.kept ∙ j.kept; flushed = is.journal.batch.flushed; tail = is.journal.batch.tail; way = is.journal.way })
    (subst (λ t. IsQuiet (without_group g.def.name t) (without_group g.def.name mid.tier)) is.tier (still_quiet (without_group g.def.name mid.tier))))

drops_rest : (s : Session) (place : ℕ) (g : Group) (w w' : World) (early : List Sealed) (reply : Reply) → IsJournalled w early → IsUnshared w → MayGo s place g w → DropsRest s g w w' reply → tells code.JournalFault reply.last ≡ false → IsJournalledOn w' early
drops_rest s place g w w' early reply j apart may q ok = by (drop_fault s g w) refl q
  where
    by : (o : Option Rule) → drop_fault s g w ≡ o → Unless o (Then (FlushesSome (Drops g.def.name ∷ [])) (Answers (drop_answer g.def.name))) w w' reply → IsJournalledOn w' early
    by (Some rule) e q = same_on w w' early q.0 j
    by None e t = go t.stop t.first t.next
      where
        go : (stop : Option Reply) → FlushesSome (Drops g.def.name ∷ []) w t.mid stop → Follows stop (Answers (drop_answer g.def.name)) t.mid w' reply → IsJournalledOn w' early
        go None first next = elim (some_flushes (Drops g.def.name ∷ []) w t.mid None j.kept first refl) [
          | none empty same end ↦ (let bad : Drops g.def.name ∷ [] ≡ [] = empty in Prim.cc)
          | refused r same end ↦ (let bad : None ≡ Some r = end in Prim.cc)
          | whole is end ↦ subst (λ x. IsJournalledOn x early) (sym next.0) (gone s place g w t.mid early j apart may e is)
        ]
        go (Some r) first next = elim (some_flushes (Drops g.def.name ∷ []) w t.mid (Some r) j.kept first (ap (λ (x : Reply). tells code.JournalFault x.last) (sym next.1) ∙ ok)) [
          | none empty same end ↦ (let bad : Drops g.def.name ∷ [] ≡ [] = empty in Prim.cc)
          | refused r same end ↦ same_on w w' early (next.0 ∙ same) j
          | whole is end ↦ (let bad : Some r ≡ None = end in Prim.cc)
        ]

-- so it is behind a round
pub may_go : (s : Session) (place : ℕ) (g : Group) (w mid : World) (early : List Sealed) → session_of w.tier s.label ≡ Some s → s.own ≡ [] → slice_get w.tier.groups place ≡ Some g → Rounded w mid early → (is_writethrough g ≡ true → mid.tier.unsettled ≡ []) → MayGo s place g mid
may_go s place g w mid early session rests at r settled = record {
  stands = r.stands;
  session = ap (λ (x : Tier). session_of x s.label) r.tier ∙ session;
  rests = rests;
  there = ap (λ (x : Tier). slice_get x.groups place) r.tier ∙ at;
  settled = settled;
}

pub drops_kept : (s : Session) (name : List ℕ) → KeepsJournalOf s (HasNoWrites s) (DropsGroup s name)
drops_kept s name w w' early reply stands j apart session rests q ok = by (is_writethrough q.group) refl q.does
  where
    by : (b : Bool) → is_writethrough q.group ≡ b → MatchBool b (Then Round (Tries (DropsRest s q.group)) w w' reply) (DropsRest s q.group w w' reply) → IsJournalledOn w' early
    by false e d = drops_rest s q.place q.group w w' early reply j apart (record { stands = stands; session = session; rests = rests; there = q.is; settled = λ t. (let bad : false ≡ true = sym e ∙ t in Prim.cc) }) d ok
    by true e t = go t.stop t.first t.next
      where
        go : (stop : Option Reply) → Round w t.mid stop → Follows stop (Tries (DropsRest s q.group)) t.mid w' reply → IsJournalledOn w' early
        go (Some r) first next =
            let g = round_goes w t.mid early (Some r) stands j apart first (ap (λ (x : Reply). tells code.JournalFault x.last) (sym next.1) ∙ ok) in
            subst (λ x. IsJournalledOn x early) (sym next.0) g.0.on
        go None first next = on_then w' early r.on.now r.on.more r.on.grows (last next)
          where
            g : Rounded w t.mid early × (t.mid.tier.unsettled ≡ [])
            g = let x = round_goes w t.mid early None stands j apart first refl in (x.0, x.1 refl)

            r : Rounded w t.mid early
            r = g.0

            may : MayGo s q.place q.group t.mid
            may = may_go s q.place q.group w t.mid early session rests q.is r (λ e. g.1)

            last : Tries (DropsRest s q.group) t.mid w' reply → IsJournalledOn w' r.on.now
            last (inl d) = drops_rest s q.place q.group t.mid w' r.on.now reply r.on.is (unshared_still w t.mid apart r.shared (subst (λ (x : Tier). AreAlike w.tier.groups x.groups) (sym r.tier) (alike_self w.tier.groups))) may d ok
            last (inr d) = same_on t.mid w' r.on.now d.0 r.on.is
