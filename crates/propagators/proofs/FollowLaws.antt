-- The events of a round as events of a pipeline.
use Rattle.std.proofs.Common.{◌≡◌, List, [], ◌∷◌, ◌++◌, Bool, true, false, cond, ◌&&◌, not, Option, Some, None, refl, ◌∙◌, ap}
use Rattle.std.specs.Option.{IsSome}
use Rattle.tier_base.specs.declared.number.TableId.{TableId}
use Rattle.table_defs.specs.declared.definition.TableDef.{TableDef}
use Rattle.table_state.specs.declared.history.Entry.{Entry}
use Rattle.table_state.specs.declared.history.Entry.TheVariants.{Foreign}
use Rattle.table_state.specs.declared.history.Sealed.{Sealed}
use Rattle.table_state.specs.declared.operation.Op.{Op}
use Rattle.table_state.specs.Histories.{entry_of, has_ticket, state_of}
use Rattle.table_state.specs.Operations.{table_of}
use Rattle.table_state.specs.Tables.{TableState}
use Rattle.order_laws.specs.Commits.{pending}
use Rattle.order_laws.specs.Sides.{are_off}
use Rattle.outside.specs.Others.{are_on_shared, is_shared}
use Rattle.order_laws.specs.Events.{Event, Came, Follows, IsNext, Left, Others}
use Rattle.propagators.specs.Rounds.{AreUnshared, Leads}

record Leaves (history : List Entry) : Type 0 where
  state : TableState
  is : state_of history ≡ Some state

leaves_some : (history : List Entry) (o : Option TableState) → state_of history ≡ o → IsSome o → Leaves history
leaves_some history None e some = Prim.cc
leaves_some history (Some s) e some = record { state = s; is = e }

leaves : (history : List Entry) → IsSome (state_of history) → Leaves history
leaves history some = leaves_some history (state_of history) refl some

both_true : (a b : Bool) → (a && b) ≡ true → (a ≡ true) × (b ≡ true)
both_true true b e = (refl, e)
both_true false b e = Prim.cc

-- operations on shared tables are on no live one
off_live : (live shared : List TableId) → AreUnshared live shared → (ops : List Op) → are_on_shared shared ops ≡ true → are_off live ops ≡ true
off_live live shared apart [] on = refl
off_live live shared apart (op ∷ ops) on =
    let both = both_true (is_shared shared (table_of op)) (are_on_shared shared ops) on in
    let here = apart (table_of op) both.0 in
    let rest = off_live live shared apart ops both.1 in
    ap (λ b. not b && are_off live ops) here ∙ rest

-- the first one that doesn't stand there is the first pending one
next_first : (schema : List TableDef) (history : List Entry) (us rest : List Sealed) (s : Sealed) → us ≡ s ∷ rest → has_ticket s.ticket.0 history ≡ false → IsNext schema history us s
next_first schema history us rest s is fresh = record {
  before = [];
  behind = pending history rest;
  is = ap (pending history) is ∙ ap (λ b. cond (not b) (s ∷ pending history rest) (pending history rest)) fresh;
  fresh = fresh;
  meets = tt;
}

pub leads_follow : (shared live : List TableId) (schema : List TableDef) (events : List Event) (h later : List Entry) (us left : List Sealed) → AreUnshared live shared → IsSome (state_of h) → Leads shared events h us later left → Follows schema live events h us later left
leads_follow shared live schema [] h later us left apart some l = l
leads_follow shared live schema (Others ops ∷ events) h later us left apart some l =
    let s = leaves h some in
    let then = l.0.1 s.state s.is in
    let n = leaves (h ++ Foreign ops ∷ []) then in
    (record { off = off_live live shared apart ops l.0.0; state = n.state; leaves = n.is }, leads_follow shared live schema events (h ++ Foreign ops ∷ []) later us left apart then l.1)
leads_follow shared live schema (Came s ∷ events) h later us left apart some l =
    (next_first schema h us l.0.0 s l.0.1 l.1.fresh, leads_follow shared live schema events (h ++ entry_of s ∷ []) later us left apart l.1.applies l.2)
leads_follow shared live schema (Left s ∷ events) h later us left apart some l =
    (record { before = []; behind = l.0; is = l.1; stands = l.2 }, leads_follow shared live schema events h later l.0 left apart some l.3)
