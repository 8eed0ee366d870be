-- Statements in the cache, joined from what is loaded for them and what they do behind it.
use Rattle.std.proofs.Common.{◌≡◌, ℕ, Option, Some, None, Result, Ok, Err, inl, inr, refl, ap, subst, ◌∙◌}
use Rattle.std.specs.Option.{option_map}
use Rattle.tier_base.specs.declared.code.Code.TheVariants as code
use Rattle.tier_base.specs.declared.number.SessionId.{SessionId}
use Rattle.row_types.specs.declared.rule.Refused.{Refused}
use Rattle.row_types.specs.declared.rule.Refused.TheVariants as refused
use Rattle.evaluator.specs.declared.change.Change.{Change}
use Rattle.resolution.specs.declared.resolved.ResolvedQuery.{ResolvedQuery}
use Rattle.resolution.specs.Queries.{query_seen}
use Rattle.resolution.specs.Writes.{change_seen}
use Rattle.outside.specs.Holding.{Held}
use Rattle.outside.specs.Sites.{SiteState}
use Rattle.propagators.specs.Certainty.{KeepsCertain}
use Rattle.propagators.proofs.CertainLaws.{same_certain}
use Rattle.tier_journal.specs.declared.journal.TierJournal.{TierJournal}
use Rattle.tier_journal.proofs.WayLaws.{kept_unless}
use Rattle.open_sessions.specs.Lookups.{of_label}
use Rattle.open_sessions.specs.Opening.{seen_all}
use Rattle.cache_tier.specs.declared.reply.Reply.{Reply}
use Rattle.cache_tier.specs.DynamicLoads.{LoadsWanted}
use Rattle.cache_tier.specs.TierStates.{Session, Tier}
use Rattle.cache_tier.specs.Wants as wants
use Rattle.cache_tier.specs.Wants.{wanted_by_query, wanted_by_write}
use Rattle.cache_tier.specs.Worlds.{World, faulty}
use Rattle.statement_uses.specs.Wanting.{want_seen}
use Rattle.statement_uses.specs.declared.wanting.Want.{Want}
use Rattle.session_engine.specs.Changing.{WritesCached}
use Rattle.session_engine.specs.Selecting.{SelectsUnwritten}
use Rattle.stored_tier.specs.declared.tier.Tier.{Tier as Stored}
use Rattle.stored_tier.specs.Performing.{PerformsIn, PerformsInOver, PerformsOver}
use Rattle.stored_tier.specs.Stored.{HasSession, IsStoredAs}
use Rattle.stored_tier.proofs.OverLaws.{keeps_called}
use Rattle.dynamic_loads.specs.Bringing.{TriesFirst}
use Rattle.dynamic_loads.specs.Running.{SelectsLoaded, WritesLoaded}
use Rattle.dynamic_loads.proofs.StageLaws.{first_done, loads_keeps, unshared_then}

-- the session of a number stays
pub session_there : (old new : Stored) (id : SessionId) (s : Session) → new.sessions ≡ old.sessions → HasSession old id s → HasSession new id s
session_there old new id s same has = record { seen = has.seen; found = ap (λ x. of_label s.label (seen_all x)) same ∙ has.found; number = has.number; is = has.is }

-- what is wanted, as the tier is stored
abbrev pub WantsAs : Stored → Option Want → (Tier → Option wants.Want) → Type 0
WantsAs t want wanted = (a : Tier) → IsStoredAs t a → option_map want_seen want ≡ wanted a

abbrev pub Loads : {D : Type 0} → (D → SiteState) → (D → ℕ → Held → Type 0) → Stored → Stored → Option TierJournal → Option TierJournal → D → D → Option Want → Option Reply → Type 0
Loads state possible old new k k' d d' want stop = PerformsOver state possible old new k k' d d' stop (λ w w'. TriesFirst (LoadsWanted (option_map want_seen want)) w w' stop)

module _ {D : Type 0} (state : D → SiteState) (possible : D → ℕ → Held → Type 0) (old mid new : Stored) (k k' : Option TierJournal) (d dm d' : D) (id : SessionId) (want : Option Want) (same : mid.sessions ≡ old.sessions) (loads : Loads state possible old mid k k' d dm want None) where
  -- a query
  pub selected_behind : (query : ResolvedQuery) (result : Result Reply Refused) → WantsAs old want (λ a. wanted_by_query a (query_seen query)) → PerformsIn mid new (state dm) (state dm) id (SelectsUnwritten query) result
      → PerformsInOver state possible old new k k' d dm id (SelectsLoaded query) result
  selected_behind query result wants selects s has w at stands apart keeps =
      let first = loads w at stands apart keeps in
      let m : World = first.world in
      let loaded = first_done (LoadsWanted (option_map want_seen want)) w m first.is in
      let second = selects s (session_there old mid id s same has) m first.at (first.stands refl) (unshared_then w m (loads_keeps (option_map want_seen want) w m loaded) apart) in
      record {
        world = second.world;
        at = second.at;
        is = inl (record { mid = m; stop = None; first = subst (λ o. LoadsWanted o w m None) (wants w.tier stands.stored) loaded; next = second.is.0 });
        stands = λ whole. second.stands;
        keeps = kept_unless (keeps_called state possible k' dm dm m second.world (first.keeps.over refl) (same_certain state possible dm) second.is.1.journal second.is.1.schema second.at);
      }

  -- a write
  pub written_behind : (change : Change) (result : Result Reply Refused) → WantsAs old want (λ a. wanted_by_write a (change_seen change)) → KeepsCertain state possible dm d' → WritesCached mid new (state dm) (state d') id change result
      → PerformsInOver state possible old new k k' d d' id (WritesLoaded change) result
  written_behind change result wants certain writes s has w at stands apart keeps =
      let first = loads w at stands apart keeps in
      let m : World = first.world in
      let loaded = first_done (LoadsWanted (option_map want_seen want)) w m first.is in
      let second = writes m s (session_there old mid id s same has) first.at (first.stands refl) (unshared_then w m (loads_keeps (option_map want_seen want) w m loaded) apart) in
      record {
        world = second.world;
        at = second.at;
        is = inl (record { mid = m; stop = None; first = subst (λ o. LoadsWanted o w m None) (wants w.tier stands.stored) loaded; next = second.is.0 });
        stands = λ whole. second.stands;
        keeps = kept_unless (keeps_called state possible k' dm d' m second.world (first.keeps.over refl) certain second.is.1.journal second.is.1.schema second.at);
      }

-- the load ended the line

same_reply : (a b : Reply) → Some a ≡ Some b → a ≡ b
same_reply a b e = Prim.cc

module _ {D : Type 0} (state : D → SiteState) (possible : D → ℕ → Held → Type 0) (old new : Stored) (k k' : Option TierJournal) (d d' : D) (id : SessionId) (want : Option Want) (reply : Reply) (loads : Loads state possible old new k k' d d' want (Some reply)) where
  pub select_stopped : (query : ResolvedQuery) → WantsAs old want (λ a. wanted_by_query a (query_seen query)) → PerformsInOver state possible old new k k' d d' id (SelectsLoaded query) (Ok reply)
  select_stopped query wants s has w at stands apart keeps =
      let it = loads w at stands apart keeps in
      record { world = it.world; at = it.at; is = by it.world it.is; stands = it.stands; keeps = it.keeps }
    where
      by : (m : World) → TriesFirst (LoadsWanted (option_map want_seen want)) w m (Some reply) → SelectsLoaded query s w m reply
      by m (inl load) = inl (record { mid = m; stop = Some reply; first = subst (λ o. LoadsWanted o w m (Some reply)) (wants w.tier stands.stored) load; next = (refl, refl) })
      by m (inr none) = inr (none.0, same_reply reply (faulty code.Memory) none.1)

  pub write_stopped : (change : Change) → WantsAs old want (λ a. wanted_by_write a (change_seen change)) → PerformsInOver state possible old new k k' d d' id (WritesLoaded change) (Ok reply)
  write_stopped change wants s has w at stands apart keeps =
      let it = loads w at stands apart keeps in
      record { world = it.world; at = it.at; is = by it.world it.is; stands = it.stands; keeps = it.keeps }
    where
      by : (m : World) → TriesFirst (LoadsWanted (option_map want_seen want)) w m (Some reply) → WritesLoaded change s w m reply
      by m (inl load) = inl (record { mid = m; stop = Some reply; first = subst (λ o. LoadsWanted o w m (Some reply)) (wants w.tier stands.stored) load; next = (refl, refl) })
      by m (inr none) = inr (none.0, same_reply reply (faulty code.Memory) none.1)

-- memory was wanting before
module _ {D : Type 0} (state : D → SiteState) (possible : D → ℕ → Held → Type 0) (t : Stored) (k : Option TierJournal) (d : D) (id : SessionId) where
  pub select_wanting : (query : ResolvedQuery) → PerformsInOver state possible t t k k d d id (SelectsLoaded query) (Err refused.Memory)
  select_wanting query s has w at stands apart keeps = record { world = w; at = at; is = inr (refl, refl); stands = λ whole. stands; keeps = kept_unless keeps }

  pub write_wanting : (change : Change) → PerformsInOver state possible t t k k d d id (WritesLoaded change) (Err refused.Memory)
  write_wanting change s has w at stands apart keeps = record { world = w; at = at; is = inr (refl, refl); stands = λ whole. stands; keeps = kept_unless keeps }
