-- A synchronous transaction of which nobody knows whether it came: the history keeps commit order, and no position is
-- past its end.
use Rattle.std.proofs.Common.{◌≡◌, ◌⊎◌, ◌≤◌, ◌^◌, ◌+◌, ℕ, Bool, true, false, ◌||◌, Some, Err, List, [], ◌∷◌, ◌++◌, length, map, inl, inr, refl, sym, ap, subst, ◌∙◌, arith}
use Rattle.std.proofs.lemmas.List.{length-append, map-append}
use Rattle.tier_base.specs.declared.number.Ticket.{Ticket}
use Rattle.table_state.specs.declared.history.Entry.{Entry}
use Rattle.table_state.specs.declared.history.Entry.TheVariants.{Definition, Foreign, Own}
use Rattle.table_state.specs.declared.history.Sealed.{Sealed}
use Rattle.table_state.specs.declared.operation.Op.{Op}
use Rattle.table_state.specs.Histories.{entry_of, has_ticket}
use Rattle.table_state.specs.Tables.{TableState}
use Rattle.table_state.proofs.HistoryLaws.{has_ticket-append}
use Rattle.outside.specs.Bank.{AppliesOnce, Comes, Grows}
use Rattle.outside.specs.Others.{AreOthers, Around}
use Rattle.outside.specs.declared.fault.BankError.TheVariants.{Failed}
use Rattle.order_laws.specs.Commits.{AreOps, FollowsLower, HasOps, IsLegal, KeepsCommitOrder, KeepsOrder, conflicting}
use Rattle.cache_tier.specs.CommitSteps.{sealed_own}
use Rattle.cache_tier.specs.Groups.{Group, is_synchronous}
use Rattle.cache_tier.specs.PassedSteps.{with_ticket}
use Rattle.cache_tier.specs.TierStates.{Session, session_of}
use Rattle.cache_tier.specs.Worlds.{IsUnshared, World}
use Rattle.cache_tier.specs.Events.{at_history, with_tier}
use Rattle.cache_tier.specs.StandingBetween.{AreReadAt, Each, IsReadWithin, Stands}
use Rattle.stored_tier.specs.Stored.{are_later, are_on}
use Rattle.session_engine.proofs.AtOnceLaws.{AreLaws, came_stands, came_to, none_came}

-- a list of committed transactions without its last one

left_true : (a b : Bool) → a ≡ true → (a || b) ≡ true
left_true true b e = refl
left_true false b e = cc

ticket_more : (n : ℕ) (log : List Sealed) (x : Sealed) → has_ticket n (map entry_of log) ≡ true → has_ticket n (map entry_of (log ++ x ∷ [])) ≡ true
ticket_more n log x e =
    ap (has_ticket n) (map-append entry_of log (x ∷ [])) ∙ has_ticket-append n (map entry_of log) (entry_of x ∷ [])
    ∙ left_true (has_ticket n (map entry_of log)) (has_ticket n (entry_of x ∷ [])) e

ops_but_last : (log : List Sealed) (x : Sealed) (ticket : Ticket) (ops : List Op) → AreOps (log ++ x ∷ []) ticket ops → AreOps log ticket ops
ops_but_last [] x ticket ops are = tt
ops_but_last (y ∷ log) x ticket ops are = (are.0, ops_but_last log x ticket ops are.1)

has_but_last : (log : List Sealed) (x : Sealed) (h : List Entry) → HasOps (log ++ x ∷ []) h → HasOps log h
has_but_last log x [] has = tt
has_but_last log x (Definition def ∷ h) has = has_but_last log x h has
has_but_last log x (Foreign ops ∷ h) has = has_but_last log x h has
has_but_last log x (Own ticket ops ∷ h) has = (ops_but_last log x ticket ops has.0, has_but_last log x h has.1)

follows_but_last : (conflict : Sealed → Sealed → Bool) (log : List Sealed) (x y : Sealed) (front : List Entry) → FollowsLower conflict (log ++ x ∷ []) y front → FollowsLower conflict log y front
follows_but_last conflict [] x y front follows = tt
follows_but_last conflict (z ∷ log) x y front follows = (follows.0, follows_but_last conflict log x y front follows.1)

order_but_last : (conflict : Sealed → Sealed → Bool) (log : List Sealed) (x : Sealed) (front h : List Entry) → KeepsOrder conflict (log ++ x ∷ []) front h → KeepsOrder conflict log front h
order_but_last conflict log x front [] keeps = tt
order_but_last conflict log x front (Definition def ∷ h) keeps = order_but_last conflict log x (front ++ Definition def ∷ []) h keeps
order_but_last conflict log x front (Foreign ops ∷ h) keeps = order_but_last conflict log x (front ++ Foreign ops ∷ []) h keeps
order_but_last conflict log x front (Own ticket ops ∷ h) keeps = (
  λ there. follows_but_last conflict log x (record { ticket = ticket; ops = ops }) front (keeps.0 (ticket_more ticket.0 log x there)),
  order_but_last conflict log x (front ++ Own ticket ops ∷ []) h keeps.1,
)

pub legal_but_last : (h : List Entry) (log : List Sealed) (x : Sealed) → KeepsCommitOrder h (log ++ x ∷ []) → KeepsCommitOrder h log
legal_but_last h log x keeps s is =
    let legal = keeps s is in
    record { once = legal.once; ops = has_but_last log x h legal.ops; order = order_but_last (conflicting s.schema) log x [] h legal.order }

-- a tier that stands does so over a legal history
pub legal_of : (w : World) → Stands w → KeepsCommitOrder w.history w.tier.log
legal_of w x s is =
    let over = x.flow.stand.over in
    let told : Some over.backing ≡ Some s = sym over.leaves ∙ is in
    let same : over.backing ≡ s = cc in
    subst (λ (state : TableState). IsLegal (conflicting state.schema) w.history w.tier.log) same over.legal

-- positions in a history that grew

each_weaker : (P Q : Group → Type 0) → ((g : Group) → P g → Q g) → (gs : List Group) → Each P gs → Each Q gs
each_weaker P Q so [] each = tt
each_weaker P Q so (g ∷ gs) each = (so g each.0, each_weaker P Q so gs each.1)

read_more : (size more : ℕ) (gs : List Group) → size ≤ more → AreReadAt size gs → AreReadAt more gs
read_more size more gs le are = record {
  within = each_weaker (IsReadWithin size) (IsReadWithin more) (λ g within n is. let one = within n is in omega (arith, one, le)) gs are.within;
  one = are.one;
}

longer : (a b : List Entry) → length a ≤ length (a ++ b)
longer a b = let e = length-append a b in omega (arith, e)

-- what nobody knows of a call that failed
pub record StandsInDoubt (w : World) (h : List Entry) : Type 0 where
  pub legal : KeepsCommitOrder h w.tier.log
  pub read : AreReadAt (length h) w.tier.groups

module _ (laws : AreLaws) (w : World) (s : Session) (stands : Stands w) (unshared : IsUnshared w) (there : session_of w.tier s.label ≡ Some s) (room : w.tier.next + 1 ≤ 2 ^ 63) (later : are_later w.tier.groups w.tier.unsettled ≡ true)
    (on : are_on is_synchronous w.tier.groups s.own ≡ true) (h : List Entry) (around : Around w.shared (AppliesOnce (sealed_own w.tier s) [] (Err Failed)) w.history h) where
  pub in_doubt_stands : StandsInDoubt w h
  in_doubt_stands = by around.own
    where
      by : Grows [] (w.history ++ around.before) around.middle ⊎ Comes (sealed_own w.tier s) [] (w.history ++ around.before) around.middle → StandsInDoubt w h
      by (inl grows) =
          let only_others : Around w.shared (Grows []) w.history h = record {
            before = around.before;
            middle = around.middle;
            behind = around.behind;
            came_before = around.came_before;
            own = grows;
            came_behind = around.came_behind;
            is = around.is;
          } in
          let out = none_came laws w s stands unshared there room (Grows []) h (λ o n g. g) only_others in
          record { legal = legal_of (with_tier (with_ticket w.tier) (at_history h w)) out.stands; read = out.stands.read }
      by (inr comes) =
          let front = w.history ++ around.before in
          let grew = comes.grows in
          let long : h ≡ ((w.history ++ around.before) ++ entry_of (sealed_own w.tier s) ∷ []) ++ around.behind = around.is ∙ ap (λ m. m ++ around.behind) grew in
          let behind_it = subst (λ m. AreOthers w.shared m around.behind) grew around.came_behind in
          let came = subst (λ m. Stands (came_to w s m)) (sym long) (came_stands laws w s stands unshared there room later on around.before around.behind around.came_before behind_it) in
          let one = longer w.history around.before in
          let two = longer (w.history ++ around.before) (entry_of (sealed_own w.tier s) ∷ []) in
          let three = longer ((w.history ++ around.before) ++ entry_of (sealed_own w.tier s) ∷ []) around.behind in
          let size = ap length long in
          record {
            legal = legal_but_last h w.tier.log (sealed_own w.tier s) (legal_of (came_to w s h) came);
            read = read_more (length w.history) (length h) w.tier.groups (omega (arith, one, two, three, size)) stands.read;
          }
