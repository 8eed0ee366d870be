-- A write that was passed on and is in doubt, settled: the tier stands behind it.
use Rattle.std.proofs.Common.{◌≡◌, ◌⊎◌, inl, inr, ◌≤◌, ◌^◌, ◌+◌, ℕ, Bool, true, false, not, Some, None, Ok, Err, List, [], ◌∷◌, ◌++◌, refl, sym, ap, subst, ◌∙◌}
use Rattle.table_state.specs.declared.history.Entry.{Entry}
use Rattle.table_state.specs.declared.history.Sealed.{Sealed}
use Rattle.table_state.specs.declared.operation.Op.{Op}
use Rattle.table_state.specs.Histories.{entry_of, has_ticket}
use Rattle.evaluator.specs.declared.change.Change.{Change}
use Rattle.outside.specs.Bank.{Grows, TellsRecorded}
use Rattle.outside.specs.Console.{IsDone}
use Rattle.outside.specs.Others.{AreOthers, Around}
use Rattle.outside.specs.Passing.{PassesWrite, WritesOwn}
use Rattle.outside.specs.declared.fault.BankError.TheVariants.{Failed}
use Rattle.order_laws.specs.Sides.{are_off}
use Rattle.cache_tier.specs.DoubtSteps.{ops_of, settled, stood}
use Rattle.cache_tier.specs.Events.{StaysShown, at_history, with_tier}
use Rattle.cache_tier.specs.PassedSteps.{with_ticket}
use Rattle.cache_tier.specs.Routes.{is_written_through}
use Rattle.cache_tier.specs.StandingBetween.{Stands}
use Rattle.cache_tier.specs.TierStates.{APassedWrite, Doubt, Session, Tier}
use Rattle.cache_tier.specs.Worlds.{BankCall, IsUnshared, World}
use Rattle.cache_tier.proofs.GroupTables.{live_table}
use Rattle.cache_tier.proofs.HistoryKeeps.{others_go_on}
use Rattle.line_laws.proofs.OtherLaws.{others_tickets}
use Rattle.run_laws.specs.Lines.{WriteIsInDoubt}
use Rattle.run_laws.proofs.AtOnceLaws.{CameBy, came_by, joined, none_came, ops_there, stands_within, unused}
use Rattle.run_laws.proofs.DoubtLaws.{laws, recorded}
use Rattle.run_laws.proofs.OffLaws.{live_of}
use Rattle.run_laws.proofs.PassedShown.{numbered, passed_comes, passed_tier, passed_to}
use Rattle.run_laws.proofs.RefusalLaws.{ops_off}
use Rattle.run_laws.proofs.StandLaws.{IsSeenAs, seen_as, stands_seen}

-- what came by the bank's own step, with others before and behind it
module _ (w : World) (stands : Stands w) (unshared : IsUnshared w) (room : w.tier.next + 1 ≤ 2 ^ 63) (change : Change) (off : is_written_through w.tier change.table ≡ false) (ops : List Op) (n : ℕ) (before middle behind : List Entry)
    (came_before : AreOthers w.shared w.history before) (own : WritesOwn w.tier.next change ops n (w.history ++ before) middle) (came_behind : AreOthers w.shared middle behind) where
  one : StaysShown w (at_history (w.history ++ before) w)
  one = others_go_on w before stands unshared came_before

  done : IsDone (change ∷ []) ops n one.stands.flow.stand.over.backing
  done = own.done one.stands.flow.stand.over.backing one.stands.flow.stand.over.leaves

  off_ops : are_off (live_of w.tier) ops ≡ true
  off_ops =
      let over = one.stands.flow.stand.over in
      ops_off (at_history (w.history ++ before) w) (change ∷ []) ops n over.backing over.backing one.stands (ap not (live_table w.tier.groups change.table ∙ off), tt) over.leaves refl done

  two : StaysShown (at_history (w.history ++ before) w) (passed_to w ops ((w.history ++ before) ++ entry_of (numbered w.tier.next ops) ∷ []))
  two = passed_comes (at_history (w.history ++ before) w) one.stands ops one.stands.flow.stand.over.backing done.left one.stands.flow.stand.over.leaves off_ops done.applies room

  three : StaysShown (passed_to w ops ((w.history ++ before) ++ entry_of (numbered w.tier.next ops) ∷ [])) (passed_to w ops (((w.history ++ before) ++ entry_of (numbered w.tier.next ops) ∷ []) ++ behind))
  three =
      others_go_on (passed_to w ops ((w.history ++ before) ++ entry_of (numbered w.tier.next ops) ∷ [])) behind two.stands unshared
      (subst (λ h. AreOthers w.shared h behind) own.grows came_behind)

  pub passed_stands : Stands (passed_to w ops (middle ++ behind))
  passed_stands = subst (λ h. Stands (passed_to w ops (h ++ behind))) (sym own.grows) three.stands

module _ (w : World) (x : WriteIsInDoubt w) where
  abbrev was : World
  was = x.was

  abbrev s : Session
  s = x.session

  abbrev own : Sealed
  own = numbered was.tier.next x.ops

  abbrev Failing : List Entry → List Entry → Type 0
  Failing = PassesWrite was.tier.next x.change x.ops (Err Failed)

  abbrev pub write_in_doubt : Doubt
  write_in_doubt = record { ticket = was.tier.next; session = s.label; of = APassedWrite }

  pub write_doubt_is : w.tier.doubt ≡ Some write_in_doubt
  write_doubt_is = ap (λ (a : Tier). a.doubt) x.tier

  -- what came since, with others behind it
  module _ (h : List Entry) (more : CameBy w.shared w.history h) where
    abbrev around : Around was.shared Failing was.history h
    around = joined was.shared Failing was.history w.history h x.call.history (subst (λ tables. CameBy tables w.history h) x.call.shared more)

    -- it didn't come
    module _ (grows : Grows [] (was.history ++ around.before) around.middle) where
      only_others : Around was.shared (Grows []) was.history h
      only_others = record {
        before = around.before;
        middle = around.middle;
        behind = around.behind;
        came_before = around.came_before;
        own = grows;
        came_behind = around.came_behind;
        is = around.is;
      }

      stays_out : Stands (with_tier (with_ticket was.tier) (at_history h was))
      stays_out = (none_came laws was s x.stands x.unshared x.there x.room (Grows []) h (λ o n g. g) only_others).stands

      no_ticket : has_ticket was.tier.next h ≡ false
      no_ticket =
          let came = came_by was.shared (Grows []) was.history h (λ o n g. g) only_others in
          ap (has_ticket was.tier.next) came.is ∙ unused laws was s x.stands x.unshared x.there x.room came.entries came.others

    -- it came
    module _ (n : ℕ) (writes : WritesOwn was.tier.next x.change x.ops n (was.history ++ around.before) around.middle) where
      long : h ≡ ((was.history ++ around.before) ++ entry_of own ∷ []) ++ around.behind
      long = around.is ∙ ap (λ m. m ++ around.behind) writes.grows

      stands_in : Stands (passed_to was x.ops h)
      stands_in =
          subst (λ l. Stands (passed_to was x.ops l)) (sym around.is)
          (passed_stands was x.stands x.unshared x.room x.change x.off x.ops n around.before around.middle around.behind around.came_before writes around.came_behind)

      has_it : has_ticket was.tier.next h ≡ true
      has_it = ap (has_ticket was.tier.next) long ∙ stands_within (was.history ++ around.before) around.behind own

      stood_is : stood write_in_doubt h ≡ own
      stood_is =
          let fresh = unused laws was s x.stands x.unshared x.there x.room around.before around.came_before in
          let ops = ap (ops_of was.tier.next) long ∙ ops_there (was.history ++ around.before) around.behind own fresh in
          λ i. record { ticket = record { 0 = was.tier.next }; ops = ops i }

  -- the tier of the world, settled

  came_seen : (h : List Entry) (t : Tier) → stood write_in_doubt h ≡ own → t ≡ settled write_in_doubt h (Ok true) w.tier → IsSeenAs (passed_tier was.tier x.ops) t
  came_seen h t same e =
      seen_as (passed_tier was.tier x.ops) t (record (record (with_ticket was.tier) { doubt = Some write_in_doubt }) { log = was.tier.log ++ own ∷ []; doubt = None })
      (e ∙ ap (λ (y : Sealed). record w.tier { log = w.tier.log ++ y ∷ []; doubt = None }) same ∙ ap (λ (a : Tier). record a { log = a.log ++ own ∷ []; doubt = None }) x.tier)
      (record { schema = refl; stale = refl; groups = refl; log = refl; unsettled = refl; sessions = refl; next = refl })

  gone_seen : (h : List Entry) (t : Tier) → t ≡ settled write_in_doubt h (Ok false) w.tier → IsSeenAs (with_ticket was.tier) t
  gone_seen h t e =
      seen_as (with_ticket was.tier) t (record (record (with_ticket was.tier) { doubt = Some write_in_doubt }) { doubt = None })
      (e ∙ ap (λ (a : Tier). record a { doubt = None }) x.tier)
      (record { schema = refl; stale = refl; groups = refl; log = refl; unsettled = refl; sessions = refl; next = refl })

  -- the bank has told whether it stands there
  pub write_settles : (w' : World) (b : Bool) → BankCall (TellsRecorded was.tier.next (Ok b)) w w' → w'.tier ≡ settled write_in_doubt w'.history (Ok b) w.tier → Stands w'
  write_settles w' b call tier = by b call tier (around w'.history more).own
    where
      more : CameBy w.shared w.history w'.history
      more = came_by w.shared (TellsRecorded was.tier.next (Ok b)) w.history w'.history (recorded was.tier.next b) call.history

      told : (b : Bool) → BankCall (TellsRecorded was.tier.next (Ok b)) w w' → b ≡ has_ticket was.tier.next w'.history
      told b call =
          let c = call.history in
          c.own.1 ∙ sym (others_tickets w.shared c.behind c.middle was.tier.next c.came_behind) ∙ sym (ap (has_ticket was.tier.next) c.is)

      by : (b : Bool) → BankCall (TellsRecorded was.tier.next (Ok b)) w w' → w'.tier ≡ settled write_in_doubt w'.history (Ok b) w.tier
          → (Grows [] (was.history ++ (around w'.history more).before) (around w'.history more).middle)
          ⊎ ((n : ℕ) × WritesOwn was.tier.next x.change x.ops n (was.history ++ (around w'.history more).before) (around w'.history more).middle)
          → Stands w'
      by true call tier (inl grows) = let bad : true ≡ false = told true call ∙ no_ticket w'.history more grows in Prim.cc
      by true call tier (inr came) =
          stands_seen (passed_to was x.ops w'.history) w' (came_seen w'.history w'.tier (stood_is w'.history more came.0 came.1) tier) refl (stands_in w'.history more came.0 came.1)
      by false call tier (inl grows) = stands_seen (with_tier (with_ticket was.tier) (at_history w'.history was)) w' (gone_seen w'.history w'.tier tier) refl (stays_out w'.history more grows)
      by false call tier (inr came) = let bad : false ≡ true = told false call ∙ has_it w'.history more came.0 came.1 in Prim.cc
