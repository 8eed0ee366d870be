-- A commit in doubt that is settled: the tier stands behind it.
use Rattle.std.proofs.Common.{◌≡◌, ◌⊎◌, inl, inr, ℕ, Bool, true, false, Some, None, Ok, List, [], ◌∷◌, ◌++◌, refl, sym, ap, subst, ◌∙◌}
use Rattle.table_state.specs.declared.history.Entry.{Entry}
use Rattle.table_state.specs.declared.history.Sealed.{Sealed}
use Rattle.table_state.specs.Histories.{entry_of, has_ticket}
use Rattle.order_laws.proofs.FlowLaws.{flow_skips}
use Rattle.outside.specs.Bank.{Comes, Grows, TellsRecorded}
use Rattle.outside.specs.Others.{AreOthers, Around}
use Rattle.cache_tier.specs.CommitSteps.{committed, ends, sealed_own}
use Rattle.cache_tier.specs.DoubtSteps.{ops_of, settled, stood}
use Rattle.cache_tier.specs.Events.{StaysShown, at_history, with_tier}
use Rattle.cache_tier.specs.PassedSteps.{with_ticket}
use Rattle.cache_tier.specs.StandingBetween.{Stands}
use Rattle.cache_tier.specs.TierStates.{ACommit, Doubt, Session, Tier, at_rest, with_session}
use Rattle.cache_tier.specs.Worlds.{BankCall, World}
use Rattle.cache_tier.proofs.CommitLaws.{session_commits}
use Rattle.cache_tier.proofs.HistoryKeeps.{others_go_on, round_goes_on}
use Rattle.cache_tier.proofs.SessionLaws.{session_rolls_back}
use Rattle.line_laws.proofs.OtherLaws.{others_tickets}
use Rattle.run_laws.specs.Lines.{CommitIsInDoubt}
use Rattle.run_laws.proofs.AtOnceLaws.{AreLaws, CameBy, FailedStep, came_by, came_stands, came_to, joined, none_came, ops_there, stands_within, unused}
use Rattle.run_laws.proofs.StandLaws.{IsSeenAs, seen_as, stands_seen}

pub laws : AreLaws
laws = record { commit = session_commits; others = others_go_on; round = round_goes_on; skip = flow_skips }

pub recorded : (ticket : ℕ) (b : Bool) (old new : List Entry) → TellsRecorded ticket (Ok b) old new → Grows [] old new
recorded ticket b old new t = t.0

module _ (w : World) (x : CommitIsInDoubt w) where
  abbrev pub was : World
  was = x.was

  abbrev pub s : Session
  s = x.session

  abbrev pub own_sealed : Sealed
  own_sealed = sealed_own was.tier s

  abbrev pub in_doubt : Doubt
  in_doubt = record { ticket = was.tier.next; session = s.label; of = ACommit }

  pub doubt_is : w.tier.doubt ≡ Some in_doubt
  doubt_is = ap (λ (a : Tier). a.doubt) x.tier

  -- what came since, with others behind it
  module _ (h : List Entry) (more : CameBy w.shared w.history h) where
    abbrev pub around : Around was.shared (FailedStep own_sealed) was.history h
    around = joined was.shared (FailedStep own_sealed) was.history w.history h x.call.history (subst (λ tables. CameBy tables w.history h) x.call.shared more)

    -- it didn't come
    module _ (grows : Grows [] (was.history ++ around.before) around.middle) where
      only_others : Around was.shared (Grows []) was.history h
      only_others = record {
        before = around.before;
        middle = around.middle;
        behind = around.behind;
        came_before = around.came_before;
        own = grows;
        came_behind = around.came_behind;
        is = around.is;
      }

      stays_out : StaysShown was (with_tier (with_ticket was.tier) (at_history h was))
      stays_out = none_came laws was s x.stands x.unshared x.there x.room (Grows []) h (λ o n g. g) only_others

      no_ticket : has_ticket was.tier.next h ≡ false
      no_ticket =
          let came = came_by was.shared (Grows []) was.history h (λ o n g. g) only_others in
          ap (has_ticket was.tier.next) came.is ∙ unused laws was s x.stands x.unshared x.there x.room came.entries came.others

      rolled_back : Stands (with_tier (ends s (with_ticket was.tier)) (at_history h was))
      rolled_back = (session_rolls_back (with_tier (with_ticket was.tier) (at_history h was)) s stays_out.stands x.there).stands

    -- it came
    module _ (comes : Comes own_sealed [] (was.history ++ around.before) around.middle) where
      abbrev front : List Entry
      front = was.history ++ around.before

      long : h ≡ ((was.history ++ around.before) ++ entry_of own_sealed ∷ []) ++ around.behind
      long = around.is ∙ ap (λ m. m ++ around.behind) comes.grows

      came_behind : AreOthers was.shared ((was.history ++ around.before) ++ entry_of own_sealed ∷ []) around.behind
      came_behind = subst (λ m. AreOthers was.shared m around.behind) comes.grows around.came_behind

      stands_in : Stands (came_to was s h)
      stands_in =
          subst (λ m. Stands (came_to was s m)) (sym long)
          (came_stands laws was s x.stands x.unshared x.there x.room x.later x.on around.before around.behind around.came_before came_behind)

      has_it : has_ticket was.tier.next h ≡ true
      has_it = ap (has_ticket was.tier.next) long ∙ stands_within (was.history ++ around.before) around.behind own_sealed

      stood_is : stood in_doubt h ≡ own_sealed
      stood_is =
          let ops = ap (ops_of was.tier.next) long ∙ ops_there (was.history ++ around.before) around.behind own_sealed comes.can.fresh in
          λ i. record { ticket = record { 0 = was.tier.next }; ops = ops i }

  -- the tier of the world, settled

  came_seen : (h : List Entry) (t : Tier) → stood in_doubt h ≡ own_sealed → t ≡ settled in_doubt h (Ok true) w.tier → IsSeenAs (committed own_sealed s.label (with_ticket was.tier)) t
  came_seen h t same e =
      seen_as (committed own_sealed s.label (with_ticket was.tier)) t (record (committed own_sealed s.label (record (with_ticket was.tier) { doubt = Some in_doubt })) { doubt = None })
      (e ∙ ap (λ (y : Sealed). record (committed y s.label w.tier) { doubt = None }) same ∙ ap (λ (a : Tier). record (committed own_sealed s.label a) { doubt = None }) x.tier)
      (record { schema = refl; stale = refl; groups = refl; log = refl; unsettled = refl; sessions = refl; next = refl })

  gone_seen : (h : List Entry) (t : Tier) → t ≡ settled in_doubt h (Ok false) w.tier → IsSeenAs (ends s (with_ticket was.tier)) t
  gone_seen h t e =
      seen_as (ends s (with_ticket was.tier)) t (record (with_session s.label at_rest (record (with_ticket was.tier) { doubt = Some in_doubt })) { doubt = None })
      (e ∙ ap (λ (a : Tier). record (with_session s.label at_rest a) { doubt = None }) x.tier)
      (record { schema = refl; stale = refl; groups = refl; log = refl; unsettled = refl; sessions = refl; next = refl })

  -- the bank has told whether it stands there
  pub doubt_settles : (w' : World) (b : Bool) → BankCall (TellsRecorded was.tier.next (Ok b)) w w' → w'.tier ≡ settled in_doubt w'.history (Ok b) w.tier → Stands w'
  doubt_settles w' b call tier = by b call tier (around w'.history more).own
    where
      more : CameBy w.shared w.history w'.history
      more = came_by w.shared (TellsRecorded was.tier.next (Ok b)) w.history w'.history (recorded was.tier.next b) call.history

      told : (b : Bool) → BankCall (TellsRecorded was.tier.next (Ok b)) w w' → b ≡ has_ticket was.tier.next w'.history
      told b call =
          let c = call.history in
          c.own.1 ∙ sym (others_tickets w.shared c.behind c.middle was.tier.next c.came_behind) ∙ sym (ap (has_ticket was.tier.next) c.is)

      by : (b : Bool) → BankCall (TellsRecorded was.tier.next (Ok b)) w w' → w'.tier ≡ settled in_doubt w'.history (Ok b) w.tier
          → (Grows [] (was.history ++ (around w'.history more).before) (around w'.history more).middle) ⊎ (Comes own_sealed [] (was.history ++ (around w'.history more).before) (around w'.history more).middle) → Stands w'
      by true call tier (inl grows) = let bad : true ≡ false = told true call ∙ no_ticket w'.history more grows in Prim.cc
      by true call tier (inr comes) = stands_seen (came_to was s w'.history) w' (came_seen w'.history w'.tier (stood_is w'.history more comes) tier) refl (stands_in w'.history more comes)
      by false call tier (inl grows) = stands_seen (with_tier (ends s (with_ticket was.tier)) (at_history w'.history was)) w' (gone_seen w'.history w'.tier tier) refl (rolled_back w'.history more grows)
      by false call tier (inr comes) = let bad : false ≡ true = told false call ∙ has_it w'.history more comes in Prim.cc
