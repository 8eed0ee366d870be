-- What the cache answers by itself: the tier alone changes, and what is shown stays.
use Rattle.std.proofs.Common.{◌≡◌, ℕ, Bool, false, Option, Some, None, Result, Ok, Err, [], find, inl, inr, refl, sym, ap, subst, ◌∙◌, arith}
use Rattle.std.specs.Option.{option_map}
use Rattle.tier_base.specs.declared.code.Code.TheVariants as code
use Rattle.tier_base.specs.declared.number.SessionId.{SessionId}
use Rattle.row_types.specs.declared.rule.Refused.{Refused}
use Rattle.row_types.specs.declared.rule.Refused.TheVariants as refused
use Rattle.row_types.specs.declared.rule.Rule.{Rule}
use Rattle.table_defs.specs.Declarations.{IsRefusedBy}
use Rattle.outside.specs.Holding.{Held}
use Rattle.sql_subset.specs.declared.stmt.Stmt.{Stmt}
use Rattle.cache_tier.specs.Order.{refusal}
use Rattle.cache_tier.specs.declared.reply.Last.TheVariants.{Done, No}
use Rattle.cache_tier.specs.declared.reply.Reply.{Reply}
use Rattle.cache_tier.specs.Steps.{DoesStatement, tells}
use Rattle.cache_tier.specs.TierStates.{Session, Tier, is_labelled, session_of}
use Rattle.cache_tier.specs.Worlds.{Answer, Part, Quiet, Tries, Unless, World, faulty, only}
use Rattle.open_sessions.specs.Opening.{seen_all}
use Rattle.cache_tier.specs.Events.{StaysShown, with_tier}
use Rattle.tier_statements.specs.Seen.{session_seen}
use Rattle.stored_tier.specs.declared.tier.Tier.{Tier as Stored}
use Rattle.stored_tier.specs.Answering.{Replies}
use Rattle.stored_tier.specs.Performing.{AreLast, Executes, IsCalm, IsPerformed, KeepsSlots, PerformsIn, StandsFor, reply_of}
use Rattle.stored_tier.specs.Sites.{IsAt}
use Rattle.outside.specs.Sites.{SiteState}
use Rattle.stored_tier.specs.Stored.{HasSession, IsStoredAs, KeepsHidden, rows_of}
use Rattle.stored_tier.proofs.HiddenRows.{hides_still}
use Rattle.stored_tier.proofs.SeenLaws.{find_seen}

-- replies that tell no fault

same_slots : (held : Option Held) → KeepsSlots held held
same_slots None = tt
same_slots (Some there) = refl

pub calm_by : (r : Reply) → r.notes ≡ [] → tells code.BackingFault r.last ≡ false → tells code.JournalFault r.last ≡ false → IsCalm r
calm_by r bare bank disk = λ site. record {
  later = omega arith;
  moment = omega arith;
  shares = refl;
  slots = same_slots site.held;
  bare = bare;
  bank = λ told. cc;
  disk = disk;
}

pub calm_done : (n : ℕ) (r : Reply) → r ≡ only (Done n) → IsCalm r
calm_done n r is = subst IsCalm (sym is) (calm_by (only (Done n)) refl refl refl)

pub calm_refused : (e : Refused) → IsCalm (reply_of (Err e))
calm_refused (refused.Rule rule) = calm_by (only (No rule)) refl refl refl
calm_refused refused.Memory = calm_by (faulty code.Memory) refl refl refl

-- the world with another tier

pub at_still : (site : SiteState) (w : World) (a : Tier) → IsAt site w → IsAt site (with_tier a w)
at_still site w a at = record {
  there = at.there;
  told = at.told;
  history = at.history;
  faults = at.faults;
  moment = at.moment;
  shared = at.shared;
}

pub stands_behind : (old new : Stored) (w : World) (a : Tier) → StandsFor old w → AreLast a.log a.unsettled → IsStoredAs new a → rows_of new ≡ rows_of old → KeepsHidden old new → StaysShown w (with_tier a w) → StandsFor new (with_tier a w)
stands_behind old new w a is waits stored rows hidden stays = record {
  stored = stored;
  shows = rows ∙ is.shows ∙ sym stays.same;
  hides = hides_still old new w.history hidden is.hides;
  stands = stays.stands;
  waits = waits;
}

pub stands_still : (old new : Stored) (w : World) → StandsFor old w → IsStoredAs new w.tier → rows_of new ≡ rows_of old → KeepsHidden old new → StandsFor new w
stands_still old new w is stored rows hidden = record { stored = stored; shows = rows ∙ is.shows; hides = hides_still old new w.history hidden is.hides; stands = is.stands; waits = is.waits }

-- the same with another note of what is verified
pub stored_noted : (t : Stored) (b : Bool) (a : Tier) → IsStoredAs t a → IsStoredAs (record t { verified = b }) a
stored_noted t b a is = record {
  schema = is.schema;
  stale = is.stale;
  groups = is.groups;
  lists = is.lists;
  sessions = is.sessions;
  unsettled = is.unsettled;
  next = is.next;
  doubt = is.doubt;
  time = is.time;
}

pub stands_noted : (t : Stored) (b : Bool) (w : World) → StandsFor t w → StandsFor (record t { verified = b }) w
stands_noted t b w is = stands_still t (record t { verified = b }) w is (stored_noted t b w.tier is.stored) refl (record { groups = refl; hidden = refl })

pub session_noted : (t : Stored) (b : Bool) (id : SessionId) (s : Session) → HasSession t id s → HasSession (record t { verified = b }) id s
session_noted t b id s has = record { seen = has.seen; found = has.found; number = has.number; is = has.is }

-- the session is that of its label
pub its_session : (t : Stored) (a : Tier) (id : SessionId) (s : Session) → IsStoredAs t a → HasSession t id s → session_of a s.label ≡ Some s
its_session t a id s is has =
    ap (find (is_labelled s.label)) is.sessions
    ∙ find_seen s.label (seen_all t.sessions) ∙ ap (option_map session_seen) has.found ∙ ap Some has.is

-- nothing is done
pub wanting : (new : Stored) (site : SiteState) (part : Part) (w : World) → IsAt site w → StandsFor new w → IsPerformed new site (λ w'. Tries part w w' (faulty code.Memory))
wanting new site part w at is = record { world = w; at = at; stands = is; is = inr (refl, refl) }

pub refusing : (new : Stored) (site : SiteState) (fault : Option Rule) (part : Part) (w : World) (rule : Rule) → fault ≡ Some rule → IsAt site w → StandsFor new w → IsPerformed new site (λ w'. Tries (Unless fault part) w w' (only (No rule)))
refusing new site fault part w rule broken at is = record {
  world = w;
  at = at;
  stands = is;
  is = inl (subst (λ f. Unless f part w w (only (No rule))) (sym broken) (refl, refl));
}

-- what an answer that breaks no rule does, or the rule that is broken
pub answered_quietly : (old new : Stored) (site : SiteState) (w : World) (fault : Option Rule) (answer : Answer) (result : Result Reply Refused) → IsAt site w → StandsFor old w → AreLast answer.0.log answer.0.unsettled → rows_of new ≡ rows_of old → KeepsHidden old new
    → (fault ≡ None → StaysShown w (with_tier answer.0 w)) → Replies new w.tier fault answer result
    → IsPerformed new site (λ w'. Tries (Unless fault (Quiet answer)) w w' (reply_of result))
answered_quietly old new site w fault answer (Ok reply) at is waits rows hidden stays replies = record {
  world = with_tier answer.0 w;
  at = at_still site w answer.0 at;
  stands = stands_behind old new w answer.0 is waits replies.1 rows hidden (stays replies.0);
  is = inl (subst (λ f. Unless f (Quiet answer) w (with_tier answer.0 w) reply) (sym replies.0) (refl, replies.2));
}
answered_quietly old new site w fault answer (Err (refused.Rule rule)) at is waits rows hidden stays replies =
    refusing new site fault (Quiet answer) w rule replies.0 at (stands_still old new w is replies.1 rows hidden)
answered_quietly old new site w fault answer (Err refused.Memory) at is waits rows hidden stays replies =
    wanting new site (Unless fault (Quiet answer)) w at (stands_still old new w is replies rows hidden)

pub refused_quietly : (new : Stored) (site : SiteState) (fault : Option Rule) (part : Part) (w : World) (e : Refused) → IsRefusedBy fault e → IsAt site w → StandsFor new w → IsPerformed new site (λ w'. Tries (Unless fault part) w w' (reply_of (Err e)))
refused_quietly new site fault part w (refused.Rule rule) broken at is = refusing new site fault part w rule broken at is
refused_quietly new site fault part w refused.Memory broken at is = wanting new site (Unless fault part) w at is

-- where it isn't known that sessions may read, memory is wanting
pub stands_over : (old new : Stored) (w : World) → new ≡ record old { verified = new.verified } → StandsFor old w → StandsFor new w
stands_over old new w same is = subst (λ t. StandsFor t w) (sym same) (stands_noted old new.verified w is)

pub session_over : (old new : Stored) (id : SessionId) (s : Session) → new ≡ record old { verified = new.verified } → HasSession old id s → HasSession new id s
session_over old new id s same has = subst (λ t. HasSession t id s) (sym same) (session_noted old new.verified id s has)

pub unverified : (old new : Stored) (site : SiteState) (id : SessionId) (st : Stmt) → new ≡ record old { verified = new.verified } → PerformsIn old new site site id (Executes st) (Err refused.Memory)
unverified old new site id st same = λ s has w at is unshared.
    wanting new site (λ w w' reply. Unless (refusal w.tier s st) (DoesStatement s st) w w' reply) w at (stands_over old new w same is)
