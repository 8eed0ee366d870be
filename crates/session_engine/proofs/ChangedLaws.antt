-- What UPDATE and DELETE leave of the worlds.
use Rattle.std.proofs.Common.{◌≡◌, true, ◌&&◌, None, Result, Ok, Err, List, [], ◌∷◌, inr, refl, sym, ap, subst, ◌∙◌}
use Rattle.std.specs.List.{list_all}
use Rattle.tier_base.specs.declared.number.SessionId.{SessionId}
use Rattle.tier_base.specs.declared.number.TableId.{TableId}
use Rattle.row_types.specs.declared.rule.Refused.{Refused}
use Rattle.row_types.specs.declared.rule.Refused.TheVariants as refused
use Rattle.table_state.specs.declared.operation.Op.{Op}
use Rattle.table_state.specs.declared.operation.Op.TheVariants.{Delete, Insert, Update}
use Rattle.table_state.specs.Operations.{table_of}
use Rattle.table_state.specs.Refusals.{broken_by_all}
use Rattle.table_state.specs.Tables.{TableState}
use Rattle.session_state.specs.Sessions.{with_ops}
use Rattle.group_catalog.specs.Catalogs.{groups_in}
use Rattle.evaluator.specs.declared.change.Change.{Change}
use Rattle.cache_tier.specs.declared.reply.Reply.{Reply}
use Rattle.cache_tier.specs.ChangeSteps.{Changes}
use Rattle.cache_tier.specs.Facts.{OverIsApplied}
use Rattle.cache_tier.specs.Groups.{covers, is_table_of, is_writethrough}
use Rattle.cache_tier.specs.Locks.{lock_fault}
use Rattle.cache_tier.specs.OwnWrites.{written}
use Rattle.cache_tier.specs.Recency.{after_writes, used_by_ops}
use Rattle.cache_tier.specs.Rules.{rule_of_apply}
use Rattle.cache_tier.specs.Shown.{over, seen_by, written_on}
use Rattle.cache_tier.specs.TierStates.{Session, Tier, with_session, with_writes}
use Rattle.cache_tier.specs.Worlds.{World, faulty, unless}
use Rattle.cache_tier.specs.Events.{HaveNewKeys, MayWriteMore, StaysShown, with_tier}
use Rattle.cache_tier.specs.StandingBetween.{Stands, are_written_through}
use Rattle.tier_statements.specs.Preparing.{inserted_row}
use Rattle.session_engine.specs.declared.preparing.Prepared.{Prepared}
use Rattle.stored_tier.specs.declared.tier.Tier.{Tier as Stored}
use Rattle.session_engine.specs.Changing.{Changed, ChangesUnwritten, Holds, HoldsNothing, HoldsUsed, IsPrepared, IsUnbroken, Prepares, is_change}
use Rattle.stored_tier.specs.Performing.{IsPerformed, StandsFor, reply_of}
use Rattle.stored_tier.specs.Sites.{IsAt}
use Rattle.outside.specs.Sites.{SiteState}
use Rattle.stored_tier.specs.Stored.{HasSession, IsSound, IsStoredAs, IsVerified, KeepsHidden, rows_of, without_list}
use Rattle.statement_uses.specs.Uses.{HaveUses, roots_of_ops}
use Rattle.statement_uses.proofs.UseLaws.{ops_are}
use Rattle.tier_base.specs.declared.code.Code.TheVariants as code
use Rattle.stored_tier.proofs.HiddenRows.{hidden_as, hidden_then}
use Rattle.stored_tier.proofs.QuietLaws.{at_still, its_session, stands_behind, stands_still}
use Rattle.session_engine.proofs.SeenStates.{sees}
use Rattle.session_engine.proofs.TouchedLaws.{hidden_touched, rows_touched}
use Rattle.session_engine.proofs.UsedStored.{distinct_keys, stored_touched}
use Rattle.stored_tier.proofs.OwnSeen.{NumberLaw, any_map}
use Rattle.stored_tier.proofs.SessionLaws.{ChangeLaw, open_unheld, session_changed}
use Rattle.session_engine.proofs.WriteLaws.{changes_done}

-- no row is inserted

pub no_insert : (ops : List Op) → list_all is_change ops ≡ true → inserted_row ops ≡ None
no_insert [] all = refl
no_insert (Insert t row ∷ ops) all = cc
no_insert (Update t old new ∷ ops) all = refl
no_insert (Delete t old ∷ ops) all = refl

new_keys : (ops : List Op) (s : TableState) → list_all is_change ops ≡ true → HaveNewKeys ops s
new_keys [] s all = tt
new_keys (Insert t row ∷ ops) s all = cc
new_keys (Update t old new ∷ ops) s all = (tt, new_keys ops (over (Update t old new) s) all)
new_keys (Delete t old ∷ ops) s all = (tt, new_keys ops (over (Delete t old) s) all)

-- the tables of writethrough groups

pub through_seen : (t : Stored) (a : Tier) (ops : List Op) → IsStoredAs t a → are_written_through (groups_in t.catalog) ops ≡ are_written_through a.groups ops
through_seen t a [] is = refl
through_seen t a (op ∷ ops) is =
    ap (λ b. b && are_written_through (groups_in t.catalog) ops)
    (ap (λ gs. is_table_of is_writethrough gs (table_of op)) (sym is.groups)
    ∙ any_map (λ g. is_writethrough g && covers (table_of op) g) without_list a.groups)
    ∙ ap (λ b. is_table_of is_writethrough a.groups (table_of op) && b) (through_seen t a ops is)

-- what is stored then
pub stored_written : ChangeLaw → (t new : Stored) (w : World) (s : Session) (id : SessionId) (ops : List Op) (seen : TableState) → IsSound t → StandsFor t w → HasSession t id s → (used : HoldsUsed t new id ops) → HaveUses (groups_in t.catalog) (λ g. roots_of_ops ops seen g.def.tree) used.uses
    → IsStoredAs new (with_session s.label (with_writes ops) (after_writes over ops seen w.tier))
stored_written law t new w s id ops seen sound is has used have =
    stored_touched used.held new (with_session s.label (with_writes ops) w.tier) used.uses (λ g. roots_of_ops ops seen g.def.tree) (used_by_ops over ops seen) held (distinct_keys w is.stands) used.touches
    (subst (λ (z : Stored). HaveUses (groups_in z.catalog) (λ g. roots_of_ops ops seen g.def.tree) used.uses) (sym used.holds.rest) have)
    (λ g. refl) (λ g. ops_are ops seen g)
  where
    held : IsStoredAs used.held (with_session s.label (with_writes ops) w.tier)
    held = subst (λ x. IsStoredAs x (with_session s.label (with_writes ops) w.tier)) (sym used.holds.rest)
        (session_changed law t used.held.sessions w.tier s id (with_ops ops) (with_writes ops) (λ x. refl) sound is.stored has used.holds.seen)

-- the uses are those of what the session sees
pub uses_seen : OverIsApplied → NumberLaw → (t new : Stored) (w : World) (s : Session) (id : SessionId) (ops : List Op) → IsSound t → IsVerified t → StandsFor t w → HasSession t id s → (used : HoldsUsed t new id ops)
    → HaveUses (groups_in t.catalog) (λ g. roots_of_ops ops (seen_by s w.history w.tier) g.def.tree) used.uses
uses_seen over_law law t new w s id ops sound verified is has used =
    let seen = sees over_law law t id s w sound verified is.shows has in
    subst (λ z. HaveUses (groups_in t.catalog) (λ g. roots_of_ops ops z g.def.tree) used.uses) seen.is (used.are seen.state seen.applied)

pub rows_same : (old new : Stored) → new ≡ record old { sessions = new.sessions } → rows_of new ≡ rows_of old
rows_same old new rest = ap rows_of rest

pub rows_used : (t new : Stored) (id : SessionId) (ops : List Op) → HoldsUsed t new id ops → rows_of new ≡ rows_of t
rows_used t new id ops used = rows_touched used.held new used.uses used.touches ∙ rows_same t used.held used.holds.rest

-- groups and their hidden rows stay
pub hidden_same : (old new : Stored) → new ≡ record old { sessions = new.sessions } → KeepsHidden old new
hidden_same old new rest = hidden_as old (record old { sessions = new.sessions }) new rest (record { groups = refl; hidden = refl })

pub hidden_used : (t new : Stored) (id : SessionId) (ops : List Op) → HoldsUsed t new id ops → KeepsHidden t new
hidden_used t new id ops used = hidden_then t used.held new (hidden_same t used.held used.holds.rest) (hidden_touched used.held new used.uses used.touches)

-- memory is wanting
pub wanting_still : (new : Stored) (site : SiteState) (change : Change) (s : Session) (w : World) → IsAt site w → StandsFor new w → IsPerformed new site (λ w'. ChangesUnwritten change s w w' (faulty code.Memory))
wanting_still new site change s w at is = record { world = w; at = at; stands = is; is = (inr (refl, refl), record { journal = refl; schema = refl }) }

pub unheld : (t new : Stored) (w : World) → HoldsNothing t new → StandsFor t w → StandsFor new w
unheld t new w holds is =
    stands_still t new w is (subst (λ x. IsStoredAs x w.tier) (sym holds.rest) (open_unheld t new.sessions w.tier is.stored holds.seen)) (rows_same t new holds.rest) (hidden_same t new holds.rest)

-- a session may write so
pub may_write : OverIsApplied → NumberLaw → (t new : Stored) (w : World) (s : Session) (id : SessionId) (ops : List Op) → IsSound t → IsVerified t → StandsFor t w → HasSession t id s → IsUnbroken t id ops → Holds t new id ops
    → lock_fault s.label w.tier ops ≡ None → HaveNewKeys ops (written_on s w.history w.tier) → MayWriteMore w s ops
may_write over_law law t new w s id ops sound verified is has unbroken holds free fresh =
    let sight = sees over_law law t id s w sound verified is.shows has in
    record {
      there = its_session t w.tier id s is.stored has;
      through = sym (through_seen t w.tier ops is.stored) ∙ holds.through;
      unbroken = subst (λ z. broken_by_all ops z ≡ None) sight.is (unbroken sight.state sight.applied);
      unlocked = free;
      fresh = fresh;
    }

abbrev pub WrittenLaw : Type 0
WrittenLaw = (w : World) (s : Session) (table : TableId) (ops : List Op) → Stands w → MayWriteMore w s ops → StaysShown w (with_tier (written s table ops w).0 w)

pub changed_done : OverIsApplied → NumberLaw → ChangeLaw → WrittenLaw → (t new : Stored) (site : SiteState) (w : World) (s : Session) (id : SessionId) (change : Change) (p : Prepared) (result : Result Reply Refused) → IsSound t → IsVerified t → IsAt site w → StandsFor t w → HasSession t id s
    → list_all is_change p.ops ≡ true → IsUnbroken t id p.ops → IsPrepared s change w p → Changed t new id p result → IsPerformed new site (λ w'. ChangesUnwritten change s w w' (reply_of result))
changed_done over_law number_law change_law law t new site w s id change p (Ok reply) sound verified at is has changes unbroken prepared changed =
    let used = changed.0 in
    let may = may_write over_law number_law t used.held w s id p.ops sound verified is has unbroken used.holds prepared.free (new_keys p.ops (written_on s w.history w.tier) changes) in
    let stays = law w s p.table p.ops is.stands may in
    let after = (written s p.table p.ops w).0 in
    let quiet : Changes s p.table p.ops w (with_tier after w) reply =
    subst (λ f. (with_tier after w ≡ record w { tier = (unless w.tier f (written s p.table p.ops w)).0 }) × (reply ≡ (unless w.tier f (written s p.table p.ops w)).1))
    (sym (ap rule_of_apply may.unbroken)) (refl, changed.1) in
    record {
      world = with_tier after w;
      at = at_still site w after at;
      stands = stands_behind t new w after is is.waits
          (stored_written change_law t new w s id p.ops (seen_by s w.history w.tier) sound is has used (uses_seen over_law number_law t new w s id p.ops sound verified is has used))
          (rows_used t new id p.ops used) (hidden_used t new id p.ops used) stays;
      is = (prepared.leads (with_tier after w) reply (changes_done s p.table p.ops w (with_tier after w) reply (no_insert p.ops changes) quiet), record { journal = refl; schema = refl });
    }
changed_done over_law number_law change_law law t new site w s id change p (Err (refused.Rule rule)) sound verified at is has changes unbroken prepared changed = absurd changed
changed_done over_law number_law change_law law t new site w s id change p (Err refused.Memory) sound verified at is has changes unbroken prepared changed =
    wanting_still new site change s w at (unheld t new w changed is)

-- it is refused before the bank is asked
pub refused_before : (t : Stored) (site : SiteState) (w : World) (s : Session) (change : Change) (e : Refused) → IsAt site w → StandsFor t w → Prepares s change w (Err e) → IsPerformed t site (λ w'. ChangesUnwritten change s w w' (reply_of (Err e)))
refused_before t site w s change (refused.Rule rule) at is does = record { world = w; at = at; stands = is; is = (does, record { journal = refl; schema = refl }) }
refused_before t site w s change refused.Memory at is does =
    wanting_still t site change s w at is
