-- What the refusals of statements see to.
use Rattle.std.proofs.Common.{◌≡◌, ℕ, Bool, true, false, not, cond, ◌&&◌, nat_eq, Option, Some, None, Ok, Err, List, [], ◌∷◌, find, slice_get, refl, sym, ap, subst, ◌∙◌}
use Rattle.std.specs.Prelude.{nat_lt}
use Rattle.std.specs.Option.{option_and_then, option_map, option_or}
use Rattle.std.proofs.lemmas.Bool.{eqb-true}
use Rattle.tier_base.specs.declared.code.Code.TheVariants as code
use Rattle.tier_base.specs.declared.limit.Limit.TheVariants.{Operations}
use Rattle.tier_base.specs.declared.number.TableId.{TableId}
use Rattle.tier_base.specs.Limits.{greatest}
use Rattle.row_types.specs.declared.rule.Rule.{Rule}
use Rattle.table_defs.specs.Declarations.{broken_at, fault_of, limit_of, resolved, resolved_reference}
use Rattle.table_defs.specs.Names.{same_name}
use Rattle.row_types.specs.declared.declaration.ForeignKeyDeclaration.{ForeignKeyDeclaration}
use Rattle.row_types.specs.declared.declaration.TableDeclaration.{TableDeclaration}
use Rattle.table_state.specs.declared.history.Sealed.{Sealed}
use Rattle.table_state.specs.declared.operation.Op.{Op}
use Rattle.table_state.specs.Copies.{is_one_of}
use Rattle.table_state.specs.Histories.{state_of}
use Rattle.table_state.specs.Tables.{TableState}
use Rattle.order_laws.specs.Commits.{NoneConflicts, pending}
use Rattle.order_laws.specs.Sides.{IsClosed, are_off}
use Rattle.order_laws.proofs.AgreeLaws.{all_closed}
use Rattle.order_laws.proofs.TruthLaws.{same_some}
use Rattle.evaluator.specs.declared.change.Change.{Change}
use Rattle.transactions.specs.Transactions.{Done as Written}
use Rattle.outside.specs.Console.{IsDone}
use Rattle.resolution.specs.Writes.{PlacedChange, named_writes, resolved_writes}
use Rattle.sql_query.specs.declared.write.Write.{Write}
use Rattle.sql_subset.specs.declared.stmt.Stmt.TheVariants as statement
use Rattle.cache_tier.specs.CommitSteps.{sealed_own}
use Rattle.cache_tier.specs.ConsoleSteps.{first_writethrough, refers_to_writethrough, table_fault, writes_fault}
use Rattle.cache_tier.specs.Groups.{Group, group_at, place_called}
use Rattle.cache_tier.specs.Order.{Broken, drop_broken, first_broken, nothing_broken, of_group, refusal}
use Rattle.cache_tier.specs.Routes.{Cached, PassedOn, is_only_read, is_written_through, table_name, write_route}
use Rattle.cache_tier.specs.Rules.{named, open_writes, past, rule_in}
use Rattle.cache_tier.specs.StandingBetween.{Each, Stands, live_groups_of}
use Rattle.cache_tier.specs.TierStates.{Session, Tier, is_labelled, session_of}
use Rattle.cache_tier.specs.Worlds.{World}
use Rattle.cache_tier.proofs.GroupTables.{live_table}
use Rattle.line_laws.specs.Keeping.{AreOffLive, IsOffLive, MeetsIfAtOnce}
use Rattle.run_laws.specs.Lines.{IsOfOneKind}
use Rattle.run_laws.proofs.KindLaws.{none_conflicts}
use Rattle.run_laws.proofs.OffLaws.{AreApart, live_of, off_live, resolved_apart, written_off}
use Rattle.run_laws.proofs.ReadyLaws.{Ready}

-- ---- a session by its label

both_and : (a b : Bool) → (a && b) ≡ true → (a ≡ true) × (b ≡ true)
both_and true b e = (refl, e)
both_and false b e = Prim.cc

names_one : (a b : List ℕ) → same_name a b ≡ true → a ≡ b
names_one [] [] e = refl
names_one [] (y ∷ b) e = Prim.cc
names_one (x ∷ a) [] e = Prim.cc
names_one (x ∷ a) (y ∷ b) e =
    let both = both_and (nat_eq x y) (same_name a b) e in
    λ i. eqb-true x y both.0 i ∷ names_one a b both.1 i

found_passes : {X : Type 0} (p : X → Bool) (xs : List X) (x : X) → find p xs ≡ Some x → p x ≡ true
found_passes p [] x e = Prim.cc
found_passes {X = X} p (y ∷ xs) x e = by (p y) refl e (found_passes p xs x)
  where
    by : (b : Bool) → p y ≡ b → cond b (Some y) (find p xs) ≡ Some x → (find p xs ≡ Some x → p x ≡ true) → p x ≡ true
    by true is e rest = ap p (sym (same_some e)) ∙ is
    by false is e rest = rest e

-- the session of a label is that of its own
pub its_own : (t : Tier) (label : List ℕ) (s : Session) → session_of t label ≡ Some s → session_of t s.label ≡ Some s
its_own t label s e =
    let same : s.label ≡ label = names_one s.label label (found_passes (is_labelled label) t.sessions s e) in
    ap (session_of t) same ∙ e

pub each_found : (P : Session → Type 0) (p : Session → Bool) (ss : List Session) (s : Session) → Each P ss → find p ss ≡ Some s → P s
each_found P p [] s each e = Prim.cc
each_found P p (x ∷ ss) s each e = by (p x) e (each_found P p ss s each.1)
  where
    by : (b : Bool) → cond b (Some x) (find p ss) ≡ Some s → (find p ss ≡ Some s → P s) → P s
    by true e rest = subst P (same_some e) each.0
    by false e rest = rest e

-- ---- statements

-- nothing pending conflicts with a synchronous commit
pub meets : (w : World) (early : List Sealed) (s : Session) → Ready w early → session_of w.tier s.label ≡ Some s → MeetsIfAtOnce s w
meets w early s r there at_once b leaves =
    let x = r.stands in
    let kind = each_found (λ (y : Session). IsOfOneKind w.tier.groups y.own) (is_labelled s.label) w.tier.sessions s r.kinds.own there in
    let same : x.flow.stand.over.backing ≡ b = same_some (sym x.flow.stand.over.leaves ∙ leaves) in
    subst (λ l. NoneConflicts b.schema l (sealed_own w.tier s)) (sym x.flow.rest)
    (subst (λ (y : TableState). NoneConflicts y.schema (pending w.history w.tier.unsettled) (sealed_own w.tier s)) same
    (none_conflicts w.tier.groups w.history w.tier.log w.tier.unsettled x.flow.stand.over.backing.schema w.tier.next (sealed_own w.tier s) x.catalog.apart x.flow.stand.over.ordered r.kinds.later (kind at_once)))

-- ---- what refusals see to

none_behind : (one other : Option Rule) → option_or one other ≡ None → other ≡ None
none_behind None other none = none
none_behind (Some rule) other none = Prim.cc

-- writes on tables that aren't live do nothing on live ones
pub ops_off : (w : World) (changes : List Change) (ops : List Op) (rows : ℕ) (b s : TableState) → Stands w → AreApart (off_live (live_of w.tier)) changes → state_of w.history ≡ Some b → s.schema ≡ b.schema → IsDone changes ops rows s → are_off (live_of w.tier) ops ≡ true
ops_off w changes ops rows b s x apart leaves same done =
    let backing : x.flow.stand.over.backing ≡ b = same_some (sym x.flow.stand.over.leaves ∙ leaves) in
    let schema : s.schema ≡ x.flow.stand.over.backing.schema = same ∙ ap (λ (y : TableState). y.schema) (sym backing) in
    let closed = all_closed (live_groups_of w.tier.groups) w.history w.tier.log x.flow.stand.over.backing.schema w.tier.next x.flow.stand.over.ordered in
    let what : Written = record { written = record { ops = ops; rows = rows }; state = done.left } in
    written_off (off_live (live_of w.tier)) changes (greatest Operations) s what (λ t def foreign at key. ap not (subst (IsClosed (live_of w.tier)) (sym schema) closed t def foreign at key)) apart done.written

pub console_off : (w : World) (writes : List Write) → Stands w → writes_fault w.tier writes ≡ None → AreOffLive writes w
console_off w writes x free changes ops rows b s resolves leaves same done =
    ops_off w changes ops rows b s x
    (resolved_apart w.tier writes changes (named_writes w.tier.schema writes) refl resolves
    (none_behind (rule_in (resolved_writes w.tier.schema writes)) (first_writethrough w.tier writes) (none_behind (rule_in (named_writes w.tier.schema writes)) _ free)))
    leaves same done

-- a write is passed on where its table isn't one of a writethrough group
passed_apart : (a : Tier) (level : ℕ) (t : TableId) → write_route level a t ≡ Ok PassedOn → is_one_of (live_of a) t ≡ false
passed_apart a level t e = live_table a.groups t ∙ by (is_written_through a t) e
  where
    through : (b : Bool) (rule : Rule) → cond b (Ok Cached) (Err rule) ≡ Ok PassedOn → ⊥
    through true rule e = Prim.cc
    through false rule e = Prim.cc

    by : (b : Bool) → cond b (cond (nat_lt level 3) (Ok Cached) (Err (named code.WritethroughTable (table_name a t)))) (cond (is_only_read a t && nat_lt level 2) (Err (named code.ReadOnly (table_name a t))) (Ok PassedOn)) ≡ Ok PassedOn → b ≡ false
    by true e = absurd (through (nat_lt level 3) (named code.WritethroughTable (table_name a t)) e)
    by false e = refl

pub passed : (w : World) (level : ℕ) (placed : PlacedChange) → Stands w → write_route level w.tier placed.table ≡ Ok PassedOn → IsOffLive placed w
passed w level placed x route change ops rows b s seen leaves same done =
    let table : change.table ≡ placed.table = ap (λ (p : PlacedChange). p.table) seen in
    ops_off w (change ∷ []) ops rows b s x (ap (off_live (live_of w.tier)) table ∙ ap not (passed_apart w.tier level placed.table route), tt) leaves same done

-- the foreign key of a table that is defined refers to none of a writethrough group
no_parent : (b : Bool) (f : ForeignKeyDeclaration) (rest : Option Rule) → option_or (cond b (broken_at code.WritethroughTable (Some f.parent)) None) rest ≡ None → b ≡ false
no_parent true f rest e = Prim.cc
no_parent false f rest e = refl

pub refers_not : (a : Tier) (d : TableDeclaration) → table_fault a d ≡ None → refers_to_writethrough a (resolved d a.schema).foreign_key ≡ false
refers_not a d none = by d.foreign_key refl
  where
    by : (o : Option ForeignKeyDeclaration) → d.foreign_key ≡ o → refers_to_writethrough a (resolved d a.schema).foreign_key ≡ false
    by None e = ap (λ o. refers_to_writethrough a (option_map (resolved_reference d a.schema) o)) e
    by (Some f) e =
        let parent = ap (λ o. option_or (cond (refers_to_writethrough a (option_map (resolved_reference d a.schema) d.foreign_key)) (broken_at code.WritethroughTable (option_map (λ f. f.parent) o)) None) (option_map past (limit_of (resolved d a.schema) a.schema))) e in
        no_parent (refers_to_writethrough a (resolved d a.schema).foreign_key) f (option_map past (limit_of (resolved d a.schema) a.schema))
        (sym parent ∙ none_behind (fault_of d a.schema) _ none)

-- the session that drops a group has no uncommitted writes
of_some : (a : Tier) (name : List ℕ) (broken : Group → Broken) (g : Group) → group_at a.groups (place_called a.groups name) ≡ Some g → of_group a name broken ≡ broken g
of_some a name broken g e = rw e refl

rests : (own : List Op) → first_broken (record nothing_broken { state = open_writes own }) ≡ None → own ≡ []
rests [] e = refl
rests (op ∷ own) e = Prim.cc

pub dropper_rests : (w : World) (s : Session) (name : List ℕ) (place : ℕ) (g : Group) → place_called w.tier.groups name ≡ Some place → slice_get w.tier.groups place ≡ Some g → refusal w.tier s (statement.DropGroup name) ≡ None → s.own ≡ []
dropper_rests w s name place g called at free =
    rests s.own (sym (ap first_broken (of_some w.tier name (drop_broken s) g (ap (λ o. option_and_then (slice_get w.tier.groups) o) called ∙ at))) ∙ free)
