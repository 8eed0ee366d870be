-- INSERT, UPDATE and DELETE whole: names and route, and what is done by it.
use Rattle.std.proofs.Common.{◌≡◌, Bool, true, false, cond, nat_lt, ◌&&◌, ℕ, Option, None, Result, Ok, Err, inl, inr, refl, sym, ap, subst, ◌∙◌}
use Rattle.tier_base.specs.declared.code.Code.TheVariants as code
use Rattle.tier_base.specs.declared.number.SessionId.{SessionId}
use Rattle.tier_base.specs.declared.number.TableId.{TableId}
use Rattle.row_types.specs.declared.rule.Refused.{Refused}
use Rattle.row_types.specs.declared.rule.Refused.TheVariants as refused
use Rattle.row_types.specs.declared.rule.Rule.{Rule}
use Rattle.resolution.specs.Writes.{change_seen}
use Rattle.sql_query.specs.declared.write.Write.{Write}
use Rattle.sql_subset.specs.declared.stmt.Stmt.TheVariants as statement
use Rattle.outside.specs.Holding.{Held}
use Rattle.outside.specs.Sites.{SiteState}
use Rattle.tier_journal.specs.declared.journal.TierJournal.{TierJournal}
use Rattle.tier_journal.proofs.WayLaws.{kept_unless}
use Rattle.cache_tier.specs.Routes as route
use Rattle.cache_tier.specs.Routes.{is_only_read, is_written_through, table_name, write_route}
use Rattle.cache_tier.specs.Rules.{named}
use Rattle.cache_tier.specs.Steps.{DoesStatement}
use Rattle.cache_tier.specs.TierStates.{Session, Tier, level_of}
use Rattle.cache_tier.specs.Worlds.{Tries, Unless, World, only}
use Rattle.cache_tier.specs.WriteSteps.{Writes, WritesBy, WritesPlaced}
use Rattle.cache_tier.specs.declared.reply.Last.TheVariants.{No}
use Rattle.cache_tier.specs.declared.reply.Reply.{Reply}
use Rattle.tier_statements.specs.Routing.{IsRouted, Routes, route_seen}
use Rattle.tier_statements.specs.declared.routing.Route.TheVariants.{PassedOn}
use Rattle.tier_statements.specs.declared.routing.RoutedWrite.{RoutedWrite}
use Rattle.stored_tier.specs.declared.tier.Tier.{Tier as Stored}
use Rattle.stored_tier.specs.Performing.{Executes, reply_of}
use Rattle.stored_tier.specs.Stored.{HasSession, IsStoredAs}
use Rattle.session_engine.specs.Doubting.{EndsInOver}
use Rattle.session_engine.specs.Passing.{EndsPassed}
use Rattle.session_engine.specs.declared.doubt.Doubt.{Doubt}

-- ---- in one world

-- it is passed on where its table isn't one of a writethrough group
pub passed_off : (a : Tier) (level : ℕ) (t : TableId) → write_route level a t ≡ Ok route.PassedOn → is_written_through a t ≡ false
passed_off a level t e = by (is_written_through a t) e
  where
    through : (b : Bool) (rule : Rule) → cond b (Ok route.Cached) (Err rule) ≡ Ok route.PassedOn → ⊥
    through true rule e = cc
    through false rule e = cc

    by : (b : Bool) → cond b (cond (nat_lt level 3) (Ok route.Cached) (Err (named code.WritethroughTable (table_name a t)))) (cond (is_only_read a t && nat_lt level 2) (Err (named code.ReadOnly (table_name a t))) (Ok route.PassedOn)) ≡ Ok route.PassedOn → b ≡ false
    by true e = absurd (through (nat_lt level 3) (named code.WritethroughTable (table_name a t)) e)
    by false e = refl

-- what is done by the route is the statement's
pub executes_routed : (s : Session) (write : Write) (w w' : World) (routed : RoutedWrite) (reply : Reply) → IsRouted w.tier s write routed → Tries (WritesBy (Ok (route_seen routed.route)) s (change_seen routed.change)) w w' reply → Executes (statement.Write write) s w w' reply
executes_routed s write w w' routed reply found (inr wants) = inr wants
executes_routed s write w w' routed reply found (inl does) = inl (subst (λ f. Unless f (DoesStatement s (statement.Write write)) w w' reply) (sym found.unbroken) writes)
  where
    placed : WritesPlaced s (Ok (change_seen routed.change)) w w' reply
    placed = subst (λ r. WritesBy r s (change_seen routed.change) w w' reply) (sym found.way) does

    writes : Writes s write w w' reply
    writes = subst (λ r. WritesPlaced s r w w' reply) (sym found.resolved) placed

-- it breaks a rule before, or memory is wanting
pub executes_unrouted : (s : Session) (write : Write) (w : World) (e : Refused) → Routes w.tier s write (Err e) → Executes (statement.Write write) s w w (reply_of (Err e))
executes_unrouted s write w (refused.Rule rule) broken =
    inl (subst (λ f. Unless f (DoesStatement s (statement.Write write)) w w (only (No rule))) (sym broken) (refl, refl))
executes_unrouted s write w refused.Memory broken = inr (refl, refl)

-- ---- over the stored tier

module _ {D : Type 0} (state : D → SiteState) (possible : D → ℕ → Held → Type 0) (t new : Stored) (doubt : Option Doubt) (id : SessionId) (write : Write) where
  -- it is refused before
  pub unrouted_over : (k : Option TierJournal) (d : D) (e : Refused) → doubt ≡ None → ((a : Tier) (s : Session) → IsStoredAs t a → HasSession t id s → Routes a s write (Err e)) → EndsInOver state possible t t doubt k k d d id (Executes (statement.Write write)) (Err e)
  unrouted_over k d e none told =
      subst (λ o. EndsInOver state possible t t o k k d d id (Executes (statement.Write write)) (Err e)) (sym none)
      (λ s has w at is apart keeps. record {
        world = w;
        at = at;
        is = executes_unrouted s write w e (told w.tier s is.stored has);
        left = λ whole. is;
        keeps = kept_unless keeps;
      })

  -- passed on
  pub passed_on_over : (k k' : Option TierJournal) (d d' : D) (routed : RoutedWrite) (result : Result Reply Refused) → routed.route ≡ PassedOn → ((a : Tier) (s : Session) → IsStoredAs t a → HasSession t id s → Routes a s write (Ok routed))
      → EndsPassed state possible t new doubt k k' d d' id routed.change result → EndsInOver state possible t new doubt k k' d d' id (Executes (statement.Write write)) result
  passed_on_over k k' d d' routed result is_passed told passes = λ s has w at is apart keeps.
      let found = told w.tier s is.stored has in
      let off = passed_off w.tier (level_of s) routed.change.table (found.way ∙ ap (λ r. Ok (route_seen r)) is_passed) in
      let it = passes w s has off at is apart keeps in
      record {
        world = it.world;
        at = it.at;
        is = executes_routed s write w it.world routed (reply_of result) found (subst (λ r. Tries (WritesBy (Ok (route_seen r)) s (change_seen routed.change)) w it.world (reply_of result)) (sym is_passed) it.is);
        left = it.left;
        keeps = it.keeps;
      }
