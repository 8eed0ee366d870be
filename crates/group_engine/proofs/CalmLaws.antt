-- Replies that tell no fault, and the operations of a session.
use Rattle.std.proofs.Common.{◌≡◌, ℕ, ◌∙◌, ap, unwrap_or, false, Option, Some, None, List, [], refl, sym, le_refl}
use Rattle.tier_base.specs.declared.code.Code.TheVariants as code
use Rattle.tier_base.specs.declared.number.SessionId.{SessionId}
use Rattle.std.specs.Option.{option_map}
use Rattle.table_defs.specs.declared.definition.TableDef.{TableDef}
use Rattle.open_sessions.specs.Lookups.{of_label, of_number, open_ops}
use Rattle.open_sessions.specs.Opening.{AreSessions, seen_all}
use Rattle.open_sessions.specs.declared.sessions.Sessions.{Sessions}
use Rattle.session_state.specs.Sessions.{OpenSession}
use Rattle.outside.specs.Holding.{Held}
use Rattle.order_laws.proofs.TruthLaws.{never_both}
use Rattle.cache_tier.specs.declared.reply.Last.{Last}
use Rattle.cache_tier.specs.Steps.{tells}
use Rattle.cache_tier.specs.TierStates.{Session}
use Rattle.cache_tier.specs.Worlds.{only}
use Rattle.stored_tier.specs.declared.tier.Tier.{Tier as Stored}
use Rattle.stored_tier.specs.Performing.{IsCalm, KeepsSlots}
use Rattle.stored_tier.specs.Stored.{HasSession, IsSound}

slots_stay : (held : Option Held) → KeepsSlots held held
slots_stay None = tt
slots_stay (Some there) = refl

pub calm_last : (last : Last) → tells code.BackingFault last ≡ false → tells code.JournalFault last ≡ false → IsCalm (only last)
calm_last last bank disk = λ site. record {
  later = le_refl site.bank_faults;
  moment = le_refl site.moment;
  shares = refl;
  slots = slots_stay site.held;
  bare = refl;
  bank = λ told. absurd (never_both (tells code.BackingFault last) told bank);
  disk = disk;
}

-- the operations of the session of a number
abbrev pub NumberLaw : Type 0
NumberLaw =
    (schema : List TableDef) (s : Sessions) (label : List ℕ) (x : OpenSession) → AreSessions schema s
    → of_label label (seen_all s) ≡ Some x → of_number x.id (seen_all s) ≡ Some x

pub own_here : NumberLaw → (t : Stored) (id : SessionId) (s : Session) → IsSound t → HasSession t id s → open_ops id (seen_all t.sessions) ≡ s.own
own_here law t id s sound has =
    ap (λ n. unwrap_or (option_map (λ (x : OpenSession). x.ops) (of_number n (seen_all t.sessions))) []) (sym has.number)
    ∙ ap (λ o. unwrap_or (option_map (λ (x : OpenSession). x.ops) o) []) (law t.schema t.sessions s.label has.seen sound.sessions has.found)
    ∙ ap (λ (x : Session). x.own) has.is
