-- A round, with the flush before it and the rotation behind it.
use Rattle.std.proofs.Common.{◌≡◌, ℕ, suc, Bool, ◌&&◌, nat_eq, nat_lt, true, false, cond, not, Option, Some, None, List, [], ◌∷◌, filter, length, refl, sym, ap, subst, ◌∙◌, arith}
use Rattle.std.proofs.lemmas.Bool.{eqb-true}
use Rattle.table_state.specs.declared.history.Entry.{Entry}
use Rattle.table_state.specs.declared.history.Sealed.{Sealed}
use Rattle.table_state.specs.Histories.{has_ticket}
use Rattle.order_laws.specs.Commits.{pending}
use Rattle.order_laws.specs.Events.{Event, Follows}
use Rattle.order_laws.specs.Standing.{live_tables}
use Rattle.order_laws.proofs.TruthLaws.{both_true}
use Rattle.cache_tier.specs.declared.reply.Reply.{Reply}
use Rattle.cache_tier.specs.Events.{at_history, settled_to}
use Rattle.cache_tier.specs.JournalSteps.{Flushes}
use Rattle.cache_tier.specs.Rotations.{Broken, Kept, Renewed, Rotates, Rotation, RotatesIfLong, is_long, is_settled, journal_after, renewed}
use Rattle.cache_tier.specs.Rounds.{AllLeft, Applies, AppliesAndRotates, Differing, Drained, Failing, Round, RoundEnd, Wanting, both_stop, round_stop}
use Rattle.cache_tier.specs.StandingBetween.{Stands, live_groups_of}
use Rattle.cache_tier.specs.TierStates.{Tier}
use Rattle.cache_tier.specs.Worlds.{IsUnshared, OnlyWhere, StageFollows, World}
use Rattle.cache_tier.proofs.HistoryKeeps.{round_goes_on}
use Rattle.recovery.specs.Journalled.{IsJournalled, IsJournalledOn, IsQuiet}
use Rattle.recovery.proofs.JournalledLaws.{alike_self, quiet_kept}
use Rattle.recovery.proofs.OthersLaws.{on_then, one_journalled_on}
use Rattle.recovery.proofs.RotatedLaws.{rotation_kept}
use Rattle.recovery.proofs.RoundedLaws.{round_kept}
use Rattle.line_laws.specs.Keeping.{is_broken}
use Rattle.line_laws.proofs.FlushLaws.{IsWhole, flushes_whole, tail_flushed}
use Rattle.line_laws.proofs.MixedLaws.{round_events}
use Rattle.line_laws.proofs.PartWords.{stays_on}

-- ---- what a tier stands on is its history and itself

rebuilt : (w : World) (journal : Rattle.cache_tier.specs.Journals.Journal) (bank disk moment : ℕ) (shared : List Rattle.tier_base.specs.declared.number.TableId.TableId) → Stands w → Stands (record w { journal = journal; bank_faults = bank; disk_faults = disk; moment = moment; shared = shared })
rebuilt w journal bank disk moment shared x = record {
  flow = x.flow;
  schema = record { front = x.schema.front; whole = x.schema.whole };
  catalog = record { each = x.catalog.each; apart = x.catalog.apart };
  keys = x.keys;
  read = x.read;
  sessions = x.sessions;
}

pub stands_one : (w w' : World) → w'.tier ≡ w.tier → w'.history ≡ w.history → Stands w → Stands w'
stands_one w w' tier history x =
    subst (λ t. Stands (record w' { tier = t })) (sym tier)
    (subst (λ h. Stands (record w' { tier = w.tier; history = h })) (sym history)
    (rebuilt w w'.journal w'.bank_faults w'.disk_faults w'.moment w'.shared x))

-- others are unsettled, of which the same is pending
settled_stands : (w : World) (us left : List Sealed) (m moment : ℕ) → Stands (settled_to us m w) → pending w.history us ≡ pending w.history left → Stands (settled_to left moment w)
settled_stands w us left m moment x same = record {
  flow = record { stand = x.flow.stand; rest = x.flow.rest ∙ same; last = x.flow.last };
  schema = record { front = x.schema.front; whole = x.schema.whole };
  catalog = record { each = x.catalog.each; apart = x.catalog.apart };
  keys = x.keys;
  read = x.read;
  sessions = x.sessions;
}

kept_pending : (h : List Entry) (left : Sealed → Bool) (us : List Sealed) → pending h (filter left us) ≡ [] → pending h us ≡ pending h (filter (λ s. not (left s)) us)
kept_pending h left [] none = refl
kept_pending h left (u ∷ us) none = by (left u) (has_ticket u.ticket.0 h) refl none (kept_pending h left us)
  where
    by : (b c : Bool) → has_ticket u.ticket.0 h ≡ c → pending h (cond b (u ∷ filter left us) (filter left us)) ≡ [] → (pending h (filter left us) ≡ [] → pending h us ≡ pending h (filter (λ s. not (left s)) us))
        → pending h (u ∷ us) ≡ pending h (cond (not b) (u ∷ filter (λ s. not (left s)) us) (filter (λ s. not (left s)) us))
    by true true e none rest = ap (λ c. cond (not c) (u ∷ pending h us) (pending h us)) e ∙ rest (sym (ap (λ c. cond (not c) (u ∷ pending h (filter left us)) (pending h (filter left us))) e) ∙ none)
    by true false e none rest = let bad : u ∷ pending h (filter left us) ≡ [] = sym (ap (λ c. cond (not c) (u ∷ pending h (filter left us)) (pending h (filter left us))) e) ∙ none in Prim.cc
    by false c e none rest = ap (λ l. cond (not (has_ticket u.ticket.0 h)) (u ∷ l) l) (rest none)

-- ---- what a round leaves

pub record Rounded (w w' : World) (early : List Sealed) : Type 0 where
  pub on : IsJournalledOn w' early
  pub stands : Stands w'
  pub left : List Sealed
  pub moment : ℕ
  pub tier : w'.tier ≡ record w.tier { unsettled = left; round = moment }
  pub shared : w'.shared ≡ w.shared

pub applied : (w w' : World) (early : List Sealed) (stop : Option Reply) → Stands w → IsJournalled w early → IsUnshared w → w.journal.tail ≡ [] → Applies w w' stop → Rounded w w' early
applied w w' early stop x j apart none a = record {
  on = one_journalled_on (record base { tier = w'.tier }) w' early (record { tier = refl; history = refl; journal = a.journal; shared = a.shared })
      (on_then (record base { tier = w'.tier }) early round.now round.more round.grows
      (stays_on (record base { tier = w'.tier }) round.now (quiet_kept base round.now w'.tier round.is quiet)));
  stands = stands_one (settled_to rest w.tier.now (at_history w'.history w)) w' a.tier refl
      (settled_stands (at_history w'.history w) w.tier.unsettled rest w.tier.round w.tier.now shown.stands (kept_pending w'.history a.left w.tier.unsettled a.settled));
  left = rest;
  moment = w.tier.now;
  tier = a.tier;
  shared = a.shared;
}
  where
    rest : List Sealed
    rest = filter (λ s. not (a.left s)) w.tier.unsettled

    events : (events : List Event) × Follows x.flow.stand.over.backing.schema (live_tables (live_groups_of w.tier.groups)) events w.history w.tier.unsettled w'.history w.tier.unsettled
    events = round_events w x apart a.came w'.history a.comes

    base : World
    base = settled_to w.tier.unsettled w.tier.round (at_history w'.history w)

    round : IsJournalledOn (settled_to w.tier.unsettled w.tier.round (at_history w'.history w)) early
    round = round_kept w early events.0 w'.history w.tier.unsettled w.tier.round x j none events.1

    shown : Rattle.cache_tier.specs.Events.StaysShown w (settled_to w.tier.unsettled w.tier.round (at_history w'.history w))
    shown = round_goes_on w x events.0 w'.history w.tier.unsettled w.tier.round events.1

    quiet : IsQuiet w.tier w'.tier
    quiet = subst (IsQuiet w.tier) (sym a.tier) (record { log = refl; next = omega arith; groups = alike_self w.tier.groups })

pub drained_end : (t : Tier) (result : RoundEnd) (rest : List Sealed) → AllLeft result rest → round_stop t result ≡ None → rest ≡ []
drained_end t Drained rest all e = all
drained_end t Failing rest all e = Prim.cc
drained_end t Wanting rest all e = Prim.cc
drained_end t (Differing table key) rest all e = Prim.cc

-- a slot is begun anew only where nothing is unsettled
none_long : (us : List Sealed) → nat_eq (length us) 0 ≡ true → us ≡ []
none_long [] e = refl
none_long (u ∷ us) e = let z : suc (length us) ≡ 0 = eqb-true (suc (length us)) 0 e in Prim.cc

long_settled : (w : World) → is_long w ≡ true → w.tier.unsettled ≡ []
long_settled w e =
    let long = (both_true w.journal.kept (nat_lt w.tier.settings.rotate_bytes w.journal.written && is_settled w) e).1 in
    none_long w.tier.unsettled (both_true (nat_lt w.tier.settings.rotate_bytes w.journal.written) (is_settled w) long).1

rotated : (w mid w' : World) (early : List Sealed) (turned : Option Reply) → Rounded w mid early → mid.journal.tail ≡ [] → RotatesIfLong mid w' turned → Rounded w w' early
rotated w mid w' early turned r none q = by (is_long mid) refl q
  where
    from : (w' : World) → w'.tier ≡ mid.tier → w'.history ≡ mid.history → w'.shared ≡ mid.shared → IsJournalledOn w' early → Rounded w w' early
    from w' tier history shared on = record { on = on; stands = stands_one mid w' tier history r.stands; left = r.left; moment = r.moment; tier = tier ∙ r.tier; shared = shared ∙ r.shared }

    turn : mid.tier.unsettled ≡ [] → Rotates mid w' turned → Rounded w w' early
    turn settled k = go k.result k.journal
      where
        -- done, or failed: the slots may have what is new
        begun : w'.journal ≡ renewed mid → Rounded w w' early
        begun e = from w' k.tier k.history k.shared (one_journalled_on (record mid { journal = w'.journal }) w' early (record { tier = k.tier; history = k.history; journal = refl; shared = k.shared })
            (on_then (record mid { journal = w'.journal }) early r.on.now r.on.more r.on.grows
            (rotation_kept mid r.on.now w'.journal r.stands r.on.is none settled
            (subst (Rattle.recovery.specs.Journalled.IsRenewed mid.tier (length mid.history) mid.journal) (sym e) (record { kept = r.on.is.kept; flushed = refl; tail = refl; way = refl })))))

        go : (result : Rotation) → w'.journal ≡ journal_after result mid → Rounded w w' early
        go Renewed e = begun e
        go Kept e = from w' k.tier k.history k.shared (one_journalled_on mid w' early (record { tier = k.tier; history = k.history; journal = e; shared = k.shared }) r.on)
        go Broken e = begun e

    by : (b : Bool) → is_long mid ≡ b → OnlyWhere b Rotates mid w' turned → Rounded w w' early
    by true e q = turn (long_settled mid e) q
    by false e q = from w' (ap (λ (x : World). x.tier) q.0) (ap (λ (x : World). x.history) q.0) (ap (λ (x : World). x.shared) q.0) (subst (λ x. IsJournalledOn x early) (sym q.0) r.on)

both_none : (one other : Option Reply) → both_stop one other ≡ None → one ≡ None
both_none one None e = e
both_none one (Some r) e = Prim.cc

-- the tail is flushed, and no more is done
round_flushed : (w w' : World) (early : List Sealed) → Stands w → IsJournalled w early → IsWhole [] w w' → Rounded w w' early
round_flushed w w' early x j is = record { on = tail_flushed w w' early j is; stands = stands_one w w' is.tier is.history x; left = w.tier.unsettled; moment = w.tier.round; tier = is.tier; shared = is.shared }

-- a round is done, or a call of the disk failed in it: the journal is the tier's
pub round_leaves : (w w' : World) (early : List Sealed) (stop : Option Reply) → Stands w → IsJournalled w early → IsUnshared w → Round w w' stop → Rounded w w' early × (stop ≡ None → w'.tier.unsettled ≡ [])
round_leaves w w' early stop x j apart q = by q.stop q.first q.next
  where
    by : (end : Option Reply) → Flushes [] w q.mid end → StageFollows end AppliesAndRotates q.mid w' stop → Rounded w w' early × (stop ≡ None → w'.tier.unsettled ≡ [])
    by (Some r) first next = (
      round_flushed w w' early x j (subst (IsWhole [] w) (sym next.0) (flushes_whole [] w q.mid (Some r) j.kept first)),
      λ e. (let bad : Some r ≡ None = sym next.1 ∙ e in Prim.cc),
    )
    by None first next = (record { on = on_then w' early flushed.now flushed.more flushed.grows turned.on; stands = turned.stands; left = turned.left; moment = turned.moment; tier = turned.tier ∙ ap (λ (t : Tier). record t { unsettled = turned.left; round = turned.moment }) is.tier; shared = turned.shared ∙ is.shared }, drained)
      where
        is : IsWhole [] w q.mid
        is = flushes_whole [] w q.mid None j.kept first

        flushed : IsJournalledOn q.mid early
        flushed = tail_flushed w q.mid early j is

        apart_mid : IsUnshared q.mid
        apart_mid t e = ap (λ (x : Tier). Rattle.cache_tier.specs.Groups.is_table_of Rattle.cache_tier.specs.Groups.is_writethrough x.groups t) is.tier ∙ apart t (ap (λ s. Rattle.outside.specs.Others.is_shared s t) (sym is.shared) ∙ e)

        one : Rounded q.mid next.mid flushed.now
        one = applied q.mid next.mid flushed.now next.applied (stands_one w q.mid is.tier is.history x) flushed.is apart_mid is.journal.batch.tail next.applies

        ended : next.applied ≡ None → next.mid.tier.unsettled ≡ []
        ended e = drained_end q.mid.tier next.applies.result next.mid.tier.unsettled next.applies.all (sym next.applies.end ∙ e)

        turned : Rounded q.mid w' flushed.now
        turned = rotated q.mid next.mid w' flushed.now next.turned one (ap (λ (k : Rattle.cache_tier.specs.Journals.Journal). k.tail) next.applies.journal ∙ is.journal.batch.tail) next.rotates

        same_tier : w'.tier ≡ next.mid.tier
        same_tier = by_long (is_long next.mid) next.rotates
          where
            by_long : (b : Bool) → OnlyWhere b Rotates next.mid w' next.turned → w'.tier ≡ next.mid.tier
            by_long true k = k.tier
            by_long false k = ap (λ (x : World). x.tier) k.0

        drained : stop ≡ None → w'.tier.unsettled ≡ []
        drained e = ap (λ (t : Tier). t.unsettled) same_tier ∙ ended (both_none next.applied next.turned (sym next.end ∙ e))

-- so it is where no call of the disk failed
pub round_goes : (w w' : World) (early : List Sealed) (stop : Option Reply) → Stands w → IsJournalled w early → IsUnshared w → Round w w' stop → is_broken stop ≡ false → Rounded w w' early × (stop ≡ None → w'.tier.unsettled ≡ [])
round_goes w w' early stop x j apart q ok = round_leaves w w' early stop x j apart q
