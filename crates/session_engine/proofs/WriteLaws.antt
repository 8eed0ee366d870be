-- A session's write, as the parts of the tier make it.
use Rattle.std.proofs.Common.{◌≡◌, ℕ, suc, Bool, true, false, cond, ◌&&◌, Option, Some, None, Result, Ok, Err, List, [], ◌∷◌, All, IfOk, map, inl, refl, sym, ap, subst, ◌∙◌, arith}
use Rattle.std.specs.Bool.{MatchBool}
use Rattle.std.specs.List.{list_any}
use Rattle.std.specs.Option.{option_or}
use Rattle.std.proofs.lemmas.List.Elements.{All-cons}
use Rattle.tier_base.specs.declared.number.SessionId.{SessionId}
use Rattle.tier_base.specs.declared.number.TableId.{TableId}
use Rattle.row_types.specs.declared.rule.Refused.{Refused}
use Rattle.row_types.specs.declared.rule.Refused.TheVariants as refused
use Rattle.row_types.specs.declared.rule.Rule.{Rule}
use Rattle.table_state.specs.declared.operation.Op.{Op}
use Rattle.table_state.specs.declared.operation.Op.TheVariants.{Delete, Insert, Update}
use Rattle.table_state.specs.Operations.{applied_all}
use Rattle.table_state.specs.Refusals.{broken_by_all}
use Rattle.table_state.specs.Tables.{TableState}
use Rattle.session_state.specs.Sessions.{OpenSession, has_id}
use Rattle.open_sessions.specs.Lookups.{has_label, of_number, open_ops}
use Rattle.open_sessions.specs.Opening.{on_session, seen_all}
use Rattle.group_catalog.specs.Catalogs.{groups_in}
use Rattle.evaluator.specs.declared.change.Change.{Change}
use Rattle.evaluator.specs.Rules.{Gives, then_do}
use Rattle.evaluator.specs.Writes.{effects_of}
use Rattle.sql_query.specs.declared.write.Write.{Write}
use Rattle.cache_tier.specs.declared.reply.Last.TheVariants.{No}
use Rattle.cache_tier.specs.declared.reply.Reply.{Reply}
use Rattle.cache_tier.specs.ChangeSteps.{Changes}
use Rattle.cache_tier.specs.Groups.{Group, covers, is_read_only, is_synchronous, is_table_of, is_writethrough}
use Rattle.cache_tier.specs.InsertSteps.{Finds, Inserts, has_key_in, taken}
use Rattle.cache_tier.specs.Locks.{lock_fault}
use Rattle.cache_tier.specs.OwnWrites.{apply_fault, room_of, written}
use Rattle.cache_tier.specs.Rules.{broken_if}
use Rattle.cache_tier.specs.Shown.{seen_by}
use Rattle.cache_tier.specs.TierStates.{Session, Tier, level_of}
use Rattle.cache_tier.specs.WriteSteps.{WritesEffects, WritesOps}
use Rattle.cache_tier.specs.Worlds.{Refuses, Unless, World, only, unless}
use Rattle.tier_statements.specs.Preparing.{inserted_row, prepared, shown_fault, unless_broken, write_refused_by}
use Rattle.tier_statements.specs.Routing.{Routes}
use Rattle.tier_statements.specs.Seen.{HasGroups, HasSessions, IsNumberOf, session_seen}
use Rattle.tier_statements.specs.declared.routing.RoutedWrite.{RoutedWrite}
use Rattle.stored_tier.specs.declared.tier.Tier.{Tier as Stored}
use Rattle.session_engine.specs.Changing.{DoesChange, IsPrepared, Prepares}
use Rattle.stored_tier.specs.Stored.{HasSession, IsSound, IsStoredAs, without_list}
use Rattle.stored_tier.proofs.OwnSeen.{NumberLaw, any_map, number_found, own_found}
use Rattle.stored_tier.proofs.SessionLaws.{ChangeLaw}

-- the groups by their tables

tables_same : (test : Group → Bool) (t : Stored) (a : Tier) (table : TableId) → IsStoredAs t a → list_any (λ g. test (without_list g) && covers table (without_list g)) a.groups ≡ is_table_of test (groups_in t.catalog) table
tables_same test t a table is =
    sym (any_map (λ g. test g && covers table g) without_list a.groups) ∙ ap (λ gs. is_table_of test gs table) is.groups

pub has_groups : (t : Stored) (a : Tier) → IsStoredAs t a → HasGroups t.schema (groups_in t.catalog) a
has_groups t a is = record {
  definitions = is.schema;
  cached = λ table. tables_same (λ g. true) t a table is;
  written_through = λ table. tables_same is_writethrough t a table is;
  only_read = λ table. tables_same is_read_only t a table is;
  synchronous = λ table. tables_same is_synchronous t a table is;
}

pub routed_by : NumberLaw → (t : Stored) (a : Tier) (id : SessionId) (s : Session) (level : ℕ) (own : List Op) (write : Write) (r : Result RoutedWrite Refused) → IsSound t → IsStoredAs t a → HasSession t id s → level ≡ level_of s → own ≡ open_ops id (seen_all t.sessions)
    → ((x : Tier) (y : Session) → HasGroups t.schema (groups_in t.catalog) x → level_of y ≡ level → y.own ≡ own → Routes x y write r) → Routes a s write r
routed_by law t a id s level own write r sound is has low mine routes =
    routes a s (has_groups t a is) (sym low) (sym (mine ∙ own_found law t id s sound has))

-- number and label tell the same session

raised : OpenSession → OpenSession
raised s = record s { level = suc s.level }

same_choice : (s : OpenSession) (a b : Bool) → cond a (record s { level = suc s.level }) s ≡ cond b (record s { level = suc s.level }) s → a ≡ b
same_choice s true true e = refl
same_choice s false false e = refl
same_choice s true false e = let up : suc s.level ≡ s.level = ap (λ (x : OpenSession). x.level) e in absurd (omega (arith, up))
same_choice s false true e = let up : s.level ≡ suc s.level = ap (λ (x : OpenSession). x.level) e in absurd (omega (arith, up))

same_tests : (p q : OpenSession → Bool) (xs : List OpenSession) → map (λ s. cond (p s) (record s { level = suc s.level }) s) xs ≡ map (λ s. cond (q s) (record s { level = suc s.level }) s) xs → All (λ s. p s ≡ q s) xs
same_tests p q [] e = λ k d lt. absurd (omega (arith, lt))
same_tests p q (x ∷ xs) e =
    let heads : cond (p x) (record x { level = suc x.level }) x ≡ cond (q x) (record x { level = suc x.level }) x = cc in
    let tails : map (λ s. cond (p s) (record s { level = suc s.level }) s) xs ≡ map (λ s. cond (q s) (record s { level = suc s.level }) s) xs = cc in
    All-cons (λ s. p s ≡ q s) x xs (same_choice x (p x) (q x) heads) (same_tests p q xs tails)

pub number_is : ChangeLaw → (t : Stored) (id : SessionId) (s : Session) → IsSound t → HasSession t id s → IsNumberOf id s.label (seen_all t.sessions)
number_is law t id s sound has =
    same_tests (has_id id) (has_label s.label) (seen_all t.sessions)
    (ap (λ n. on_session n (λ x. record x { level = suc x.level }) (seen_all t.sessions)) (sym has.number)
    ∙ law t.schema t.sessions s.label has.seen sound.sessions has.found (λ x. record x { level = suc x.level }))

-- the operations over what the session sees

pub prepared_over : ChangeLaw → NumberLaw → (t : Stored) (a : Tier) (id : SessionId) (s : Session) (x : OpenSession) (seen : List OpenSession) (change : Change) (st seen_state : TableState) (r : Result (List Op) Refused) → IsSound t → IsStoredAs t a → HasSession t id s
    → Some x ≡ of_number id (seen_all t.sessions) → seen ≡ seen_all t.sessions → st ≡ seen_state → st.schema ≡ t.schema
    → ((b : Tier) → HasSessions st.schema seen b → IsNumberOf x.id x.label seen → Gives (prepared b (session_seen x) change st) r)
    → Gives (prepared a s change seen_state) r
prepared_over change_law number_law t a id s x seen change st seen_state r sound is has found all_of same schema gives =
    subst (λ z. Gives (prepared a s change z) r) same
    (subst (λ z. Gives (prepared a z change st) r) session
    (gives a
    (record { definitions = is.schema ∙ sym schema; open_sessions = is.sessions ∙ ap (map session_seen) (sym all_of) })
    (subst (λ l. IsNumberOf x.id x.label l) (sym all_of) numbered)))
  where
    both : Some x ≡ Some has.seen
    both = found ∙ number_found number_law t id s sound has

    one : x ≡ has.seen
    one = let e = both in cc

    session : session_seen x ≡ s
    session = ap session_seen one ∙ has.is

    numbered : IsNumberOf x.id x.label (seen_all t.sessions)
    numbered =
        subst (λ n. IsNumberOf n x.label (seen_all t.sessions)) (sym (ap (λ (y : OpenSession). y.id) one ∙ has.number))
        (subst (λ l. IsNumberOf id l (seen_all t.sessions)) (sym (ap (λ (y : Session). y.label) session)) (number_is change_law t id s sound has))

-- one state is seen
pub one_state : (ops : List Op) (shown rows st seen : TableState) → shown ≡ rows → applied_all ops shown ≡ Some st → applied_all ops rows ≡ Some seen → st ≡ seen
one_state ops shown rows st seen same one other =
    let both : Some st ≡ Some seen = sym one ∙ ap (applied_all ops) same ∙ other in cc

pub unbroken_over : (own : List Op) (shown rows st : TableState) (r : Result (List Op) Refused) → shown ≡ rows → applied_all own shown ≡ Some st → IfOk r (λ ops. inserted_row ops ≡ None → broken_by_all ops st ≡ None)
    → IfOk r (λ ops. inserted_row ops ≡ None → (seen : TableState) → applied_all own rows ≡ Some seen → broken_by_all ops seen ≡ None)
unbroken_over own shown rows st (Ok ops) same one applies = λ none seen other.
    subst (λ z. broken_by_all ops z ≡ None) (one_state own shown rows st seen same one other) (applies none)
unbroken_over own shown rows st (Err e) same one applies = tt

pub gives_over : (a : Tier) (s : Session) (change : Change) (st seen : TableState) (r : Result (List Op) Refused) → st ≡ seen → Gives (prepared a s change st) r → Gives (prepared a s change seen) r
gives_over a s change st seen r same gives = subst (λ z. Gives (prepared a s change z) r) same gives

-- what comes of a write in the cache whose names are found

by_effects : (s : Session) (change : Change) (w w' : World) (reply : Reply) → WritesEffects s change.table (effects_of (room_of s) change (seen_by s w.history w.tier)) w w' reply → DoesChange change s w w' reply
by_effects s change w w' reply effects = inl (record { change = change; stands_for = refl; writes = effects })

-- its operations
module _ (s : Session) (change : Change) (w : World) (ops : List Op) (effects : effects_of (room_of s) change (seen_by s w.history w.tier) ≡ Ok ops) where
  by_ops : lock_fault s.label w.tier ops ≡ None → (w' : World) (reply : Reply) → WritesOps s change.table ops w w' reply → DoesChange change s w w' reply
  by_ops free w' reply does =
      by_effects s change w w' reply
      (subst (λ r. WritesEffects s change.table r w w' reply) (sym effects)
      (subst (λ f. Unless f (WritesOps s change.table ops) w w' reply) (sym free) does))

  locked : (rule : Rule) → lock_fault s.label w.tier ops ≡ Some rule → DoesChange change s w w (only (No rule))
  locked rule held =
      by_effects s change w w (only (No rule))
      (subst (λ r. WritesEffects s change.table r w w (only (No rule))) (sym effects)
      (subst (λ f. Unless f (WritesOps s change.table ops) w w (only (No rule))) (sym held) (refl, refl)))

-- what nothing but the operations says

pub changes_done : (s : Session) (table : TableId) (ops : List Op) (w w' : World) (reply : Reply) → inserted_row ops ≡ None → Changes s table ops w w' reply → WritesOps s table ops w w' reply
changes_done s table [] w w' reply none does = does
changes_done s table (Insert t row ∷ []) w w' reply none does = cc
changes_done s table (Insert t row ∷ op ∷ ops) w w' reply none does = does
changes_done s table (Update t old new ∷ ops) w w' reply none does = does
changes_done s table (Delete t old ∷ ops) w w' reply none does = does

refuses_change : (s : Session) (table : TableId) (ops : List Op) (w : World) (rule : Rule) → apply_fault s w ops ≡ Some rule → Changes s table ops w w (only (No rule))
refuses_change s table ops w rule fault =
    subst (λ f. Changes_by f) (sym fault) (refl, refl)
  where
    Changes_by : Option Rule → Type 0
    Changes_by f = (w ≡ record w { tier = (unless w.tier f (written s table ops w)).0 }) × (only (No rule) ≡ (unless w.tier f (written s table ops w)).1)

pub shown_refused : (s : Session) (table : TableId) (ops : List Op) (w : World) (rule : Rule) → shown_fault w.tier (seen_by s w.history w.tier) ops ≡ Some rule → WritesOps s table ops w w (only (No rule))
shown_refused s table (Insert t row ∷ []) w rule fault = by (has_key_in (seen_by s w.history w.tier) t row) refl fault
  where
    by : (b : Bool) → has_key_in (seen_by s w.history w.tier) t row ≡ b → broken_if b (taken w.tier t row) ≡ Some rule → Inserts s t row w w (only (No rule))
    by true found fault =
        let same : taken w.tier t row ≡ rule = cc in
        subst (λ b. MatchBool b (Refuses (taken w.tier t row) w w (only (No rule))) (Finds s t row w w (only (No rule)))) (sym found)
        (refl, ap (λ r. only (No r)) (sym same))
    by false found fault = cc
shown_refused s table [] w rule fault = cc
shown_refused s table (Insert t row ∷ op ∷ ops) w rule fault = refuses_change s table (Insert t row ∷ op ∷ ops) w rule fault
shown_refused s table (Update t old new ∷ ops) w rule fault = refuses_change s table (Update t old new ∷ ops) w rule fault
shown_refused s table (Delete t old ∷ ops) w rule fault = refuses_change s table (Delete t old ∷ ops) w rule fault

-- what was told of the operations

both_none : {A : Type 0} (a b : Option A) → option_or a b ≡ None → (a ≡ None) × (b ≡ None)
both_none None b e = (refl, e)
both_none (Some x) b e = cc

module _ (s : Session) (change : Change) (w : World) where
  abbrev seen : TableState
  seen = seen_by s w.history w.tier

  refused_rule : (rule : Rule) → prepared w.tier s change seen ≡ Err rule → DoesChange change s w w (only (No rule))
  refused_rule rule e = by (effects_of (room_of s) change seen) refl e
    where
      by_ops_of : (ops : List Op) → effects_of (room_of s) change seen ≡ Ok ops → (lock shown : Option Rule) → lock_fault s.label w.tier ops ≡ lock → shown_fault w.tier seen ops ≡ shown → unless_broken (option_or lock shown) ops ≡ Err rule → DoesChange change s w w (only (No rule))
      by_ops_of ops effects (Some r) shown lock_is shown_is h =
          let same : r ≡ rule = cc in
          locked s change w ops effects rule (lock_is ∙ ap Some same)
      by_ops_of ops effects None (Some r) lock_is shown_is h =
          let same : r ≡ rule = cc in
          by_ops s change w ops effects lock_is w (only (No rule))
          (shown_refused s change.table ops w rule (shown_is ∙ ap Some same))
      by_ops_of ops effects None None lock_is shown_is h = cc

      by : (r : Result (List Op) Rule) → effects_of (room_of s) change seen ≡ r → then_do (λ ops. unless_broken (write_refused_by s.label w.tier seen ops) ops) r ≡ Err rule → DoesChange change s w w (only (No rule))
      by (Ok ops) effects h = by_ops_of ops effects (lock_fault s.label w.tier ops) (shown_fault w.tier seen ops) refl refl h
      by (Err r) effects h =
          let same : r ≡ rule = cc in
          by_effects s change w w (only (No rule))
          (subst (λ x. WritesEffects s change.table x w w (only (No rule))) (sym effects) (refl, ap (λ x. only (No x)) (sym same)))

  pub effects_refused : (e : Refused) → Gives {A = List Op} (prepared w.tier s change seen) (Err e) → Prepares s change w (Err e)
  effects_refused (refused.Rule rule) e = refused_rule rule e
  effects_refused refused.Memory e = tt

  pub effects_done : (ops : List Op) → prepared w.tier s change seen ≡ Ok ops → IsPrepared s change w (record { table = change.table; ops = ops })
  effects_done ops e = by (effects_of (room_of s) change seen) refl e
    where
      of_these : (more : List Op) → more ≡ ops → effects_of (room_of s) change seen ≡ Ok more → write_refused_by s.label w.tier seen more ≡ None → IsPrepared s change w (record { table = change.table; ops = ops })
      of_these more same effects none =
          let parts = both_none (lock_fault s.label w.tier more) (shown_fault w.tier seen more) none in
          subst (λ (l : List Op). IsPrepared s change w (record { table = change.table; ops = l })) same
          (record {
            leads = by_ops s change w more effects parts.0;
            free = parts.0;
            shown = parts.1;
          })

      by_told : (more : List Op) → effects_of (room_of s) change seen ≡ Ok more → (o : Option Rule) → write_refused_by s.label w.tier seen more ≡ o → unless_broken o more ≡ Ok ops → IsPrepared s change w (record { table = change.table; ops = ops })
      by_told more effects None none h = let same : more ≡ ops = cc in of_these more same effects none
      by_told more effects (Some r) none h = cc

      by : (r : Result (List Op) Rule) → effects_of (room_of s) change seen ≡ r → then_do (λ ops. unless_broken (write_refused_by s.label w.tier seen ops) ops) r ≡ Ok ops → IsPrepared s change w (record { table = change.table; ops = ops })
      by (Ok more) effects h = by_told more effects (write_refused_by s.label w.tier seen more) refl h
      by (Err r) effects h = cc
