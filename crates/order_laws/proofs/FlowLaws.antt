-- The events of a pipeline.
use Rattle.std.proofs.Common.{◌≡◌, ℕ, ◌+◌, ◌≤◌, ◌^◌, List, [], ◌∷◌, ◌++◌, Some, refl, sym, ◌∙◌, ap, subst}
use Rattle.std.specs.Option.{option_and_then}
use Rattle.std.specs.List.{filter}
use Rattle.table_state.specs.table_defs.specs.declared.definition.TableDef.{TableDef}
use Rattle.table_state.specs.declared.operation.Op.{Op}
use Rattle.table_state.specs.declared.history.Entry.{Entry}
use Rattle.table_state.specs.declared.history.Entry.TheVariants.{Definition, Foreign}
use Rattle.table_state.specs.declared.history.Sealed.{Sealed}
use Rattle.table_state.specs.Histories.{entry_of, state_from, state_of}
use Rattle.table_state.specs.Independence.{with_new}
use Rattle.table_state.specs.Operations.{applied_all}
use Rattle.table_state.specs.Tables.{TableState}
use Rattle.table_state.proofs.HistoryLaws.{state_of-append}
use Rattle.order_laws.specs.Commits.{LiveGroup, pending}
use Rattle.order_laws.specs.Sides.{AgreeOn}
use Rattle.order_laws.specs.Standing.{HasGroup, HasGroupOrders, PendingIsLive, Progress, live_tables}
use Rattle.order_laws.specs.Steps.{AreOfOthers, JoinsNone, MayBegin, MayComeAtOnce, MayCommit, MayDefine}
use Rattle.order_laws.specs.Steps.{after_coming, after_committing, after_entries, at_begin, with_live_group, with_next, without_live_group}
use Rattle.order_laws.proofs.CommittingLaws.{schemas_same}
use Rattle.order_laws.proofs.ProgressLaws.{backing_in_groups, begins, comes, comes_at_once, commits, group_comes, group_goes, others_come, table_comes, ticket_goes}
use Rattle.order_laws.proofs.TruthLaws.{once_more}
use Rattle.order_laws.specs.Events.{Came, Event, Follows, IsNext, IsSettled, Left, Others}
use Rattle.order_laws.specs.Pipelines.{FlowsAs, FlowsWithLive, Pipeline, with_history}
use Rattle.order_laws.proofs.PendingLaws.{is_not, may_come, pending_at_once, pending_came, pending_defined, pending_foreign, pending_push, pending_there}

pub flow_begins : (history : List Entry) (next : ℕ) → MayBegin history next → next ≤ 2 ^ 63 → Pipeline (at_begin history next) []
flow_begins history next may last = record { stand = begins history next may; rest = refl; last = last }

pub flow_commits : (p : Progress) (us : List Sealed) (x : Pipeline p us) (s : Sealed) (v : TableState) → MayCommit p x.stand.over s v → s.ticket.0 + 1 ≤ 2 ^ 63 → FlowsAs (after_committing p s) (us ++ s ∷ []) v
flow_commits p us x s v may last =
    let now = commits p x.stand s v may in
    let fresh = x.stand.over.below s.ticket.0 may.ticket in
    record {
      flow = record { stand = now.stand; rest = pending_push p.history p.log s fresh ∙ ap (λ l. l ++ s ∷ []) x.rest ∙ sym (pending_push p.history us s fresh); last = last };
      same = now.same;
    }

pub flow_at_once : (p : Progress) (us : List Sealed) (x : Pipeline p us) (s : Sealed) (v : TableState) → MayComeAtOnce p x.stand.over s v → s.ticket.0 + 1 ≤ 2 ^ 63 → FlowsAs (after_coming p s) us v
flow_at_once p us x s v may last =
    let now = comes_at_once p x.stand s v may in
    record {
      flow = record { stand = now.stand; rest = pending_at_once p.history p.log us s (x.stand.over.below s.ticket.0 may.ticket) x.rest; last = last };
      same = now.same;
    }

pub flow_comes : (p : Progress) (us : List Sealed) (x : Pipeline p us) (s : Sealed) → IsNext x.stand.over.backing.schema p.history us s → FlowsAs (after_entries p (entry_of s ∷ [])) us x.stand.over.virtual
flow_comes p us x s next =
    let may = may_come x.stand.over.backing.schema p.history p.log p.next next.before s next.behind x.stand.over.rise (x.rest ∙ next.is) next.fresh next.meets in
    let now = comes p x.stand s may in
    record {
      flow = record {
        stand = now.stand;
        rest = pending_came p.history s.ticket s.ops p.log ∙ ap (filter (is_not s.ticket.0)) x.rest ∙ sym (pending_came p.history s.ticket s.ops us);
        last = x.last;
      };
      same = now.same;
    }

pub flow_settles : (p : Progress) (us : List Sealed) (x : Pipeline p us) (s : Sealed) (gone : IsSettled p.history us s) → FlowsAs p (gone.before ++ gone.behind) x.stand.over.virtual
flow_settles p us x s gone = record {
  flow = record { stand = x.stand; rest = x.rest ∙ ap (pending p.history) gone.is ∙ pending_there p.history gone.before s gone.behind gone.stands; last = x.last };
  same = refl;
}

pub flow_others : (p : Progress) (us : List Sealed) (x : Pipeline p us) (ops : List Op) → AreOfOthers p x.stand.over ops → FlowsWithLive (after_entries p (Foreign ops ∷ [])) us x.stand.over.virtual
flow_others p us x ops are =
    let now = others_come p x.stand ops are in
    record {
      flow = record { stand = now.stand; rest = pending_foreign p.history ops p.log ∙ x.rest ∙ sym (pending_foreign p.history ops us); last = x.last };
      same = now.same;
    }

pub flow_drained : (p : Progress) (us : List Sealed) (x : Pipeline p us) → pending p.history us ≡ [] → HasGroupOrders p x.stand.over.backing
flow_drained p us x none = backing_in_groups p x.stand.over (x.rest ∙ none)

pub flow_table : (p : Progress) (us : List Sealed) (x : Pipeline p us) (def : TableDef) → JoinsNone p x.stand.over def → FlowsAs (after_entries p (Definition def ∷ [])) us (with_new def x.stand.over.virtual)
flow_table p us x def joins =
    let now = table_comes p x.stand def joins in
    record {
      flow = record { stand = now.stand; rest = pending_defined p.history def p.log ∙ x.rest ∙ sym (pending_defined p.history def us); last = x.last };
      same = now.same;
    }

pub flow_group : (p : Progress) (us : List Sealed) (x : Pipeline p us) (g : LiveGroup) → MayDefine p x.stand.over g → Pipeline (with_live_group p g) us
flow_group p us x g may = record { stand = group_comes p x.stand g may; rest = x.rest; last = x.last }

pub flow_dropped : (p : Progress) (us : List Sealed) (g : LiveGroup) (one : HasGroup p.groups g) → Pipeline p us → PendingIsLive (one.before ++ one.behind) p.history p.log → Pipeline (without_live_group p g one) us
flow_dropped p us g one x live = record { stand = group_goes p g one x.stand live; rest = x.rest; last = x.last }

pub flow_skips : (p : Progress) (us : List Sealed) (later : ℕ) → p.next ≤ later → later ≤ 2 ^ 63 → Pipeline p us → Pipeline (with_next p later) us
flow_skips p us later le last x = record { stand = ticket_goes p later le x.stand; rest = x.rest; last = last }

-- A round.

-- the backing schema is that of the virtual state
schema_of : (p : Progress) (us : List Sealed) (x : Pipeline p us) → x.stand.over.virtual.schema ≡ x.stand.over.backing.schema
schema_of p us x = schemas_same p.history p.log x.stand.over.backing x.stand.over.virtual x.stand.over.leaves x.stand.over.virtual_is

agree_on : (tables : List _) (s t u : TableState) → AgreeOn tables s t → AgreeOn tables t u → AgreeOn tables s u
agree_on tables s t u a b = record { schema = b.schema ∙ a.schema; size = b.size ∙ a.size; rows = λ v on. b.rows v on ∙ a.rows v on }

agree_same : (tables : List _) (s t : TableState) → t ≡ s → AgreeOn tables s t
agree_same tables s t e = subst (λ (x : TableState). AgreeOn tables x t) e (record { schema = refl; size = refl; rows = λ v on. refl })

-- what others do applies to the backing state
leads_on : (p : Progress) (us : List Sealed) (x : Pipeline p us) (ops : List Op) (t : TableState) → state_of (p.history ++ Foreign ops ∷ []) ≡ Some t → applied_all ops x.stand.over.backing ≡ Some t
leads_on p us x ops t is = sym (once_more (applied_all ops x.stand.over.backing)) ∙ sym (state_of-append p.history (Foreign ops ∷ []) ∙ ap (option_and_then (state_from (Foreign ops ∷ []))) x.stand.over.leaves) ∙ is

-- Behind one event the schema is the same.
same_schema : (schema : List TableDef) (p : Progress) (us : List Sealed) (x : Pipeline p us) (q : Progress) (vs : List Sealed) (y : Pipeline q vs) → schema ≡ x.stand.over.backing.schema → y.stand.over.virtual.schema ≡ x.stand.over.virtual.schema
    → schema ≡ y.stand.over.backing.schema
same_schema schema p us x q vs y e f = e ∙ sym (schema_of p us x) ∙ sym f ∙ schema_of q vs y

round_over : (schema : List TableDef) (events : List Event) (p : Progress) (us : List Sealed) (x : Pipeline p us) (later : List Entry) (left : List Sealed) → schema ≡ x.stand.over.backing.schema
    → Follows schema (live_tables p.groups) events p.history us later left → FlowsWithLive (with_history p later) left x.stand.over.virtual
round_over schema [] p us x later left e f =
    subst (λ (l : List Entry). FlowsWithLive (with_history p l) left x.stand.over.virtual) (sym f.0)
    (subst (λ (l : List Sealed). FlowsWithLive p l x.stand.over.virtual) (sym f.1) (record { flow = x; same = agree_same (live_tables p.groups) x.stand.over.virtual x.stand.over.virtual refl }))
round_over schema (Others ops ∷ events) p us x later left e f =
    let m = flow_others p us x ops (record { backing = f.0.state; leads = leads_on p us x ops f.0.state f.0.leaves; off = f.0.off }) in
    let n = round_over schema events (after_entries p (Foreign ops ∷ [])) us m.flow later left (same_schema schema p us x (after_entries p (Foreign ops ∷ [])) us m.flow e m.same.schema) f.1 in
    record { flow = n.flow; same = agree_on (live_tables p.groups) x.stand.over.virtual m.flow.stand.over.virtual n.flow.stand.over.virtual m.same n.same }
round_over schema (Came s ∷ events) p us x later left e f =
    let m = flow_comes p us x s (subst (λ (l : List TableDef). IsNext l p.history us s) e f.0) in
    let n = round_over schema events (after_entries p (entry_of s ∷ [])) us m.flow later left (same_schema schema p us x (after_entries p (entry_of s ∷ [])) us m.flow e (ap (λ v. v.schema) m.same)) f.1 in
    record {
      flow = n.flow;
      same = agree_on (live_tables p.groups) x.stand.over.virtual m.flow.stand.over.virtual n.flow.stand.over.virtual (agree_same (live_tables p.groups) x.stand.over.virtual m.flow.stand.over.virtual m.same) n.same;
    }
round_over schema (Left s ∷ events) p us x later left e f =
    let m = flow_settles p us x s f.0 in
    let n = round_over schema events p (f.0.before ++ f.0.behind) m.flow later left (same_schema schema p us x p (f.0.before ++ f.0.behind) m.flow e (ap (λ v. v.schema) m.same)) f.1 in
    record {
      flow = n.flow;
      same = agree_on (live_tables p.groups) x.stand.over.virtual m.flow.stand.over.virtual n.flow.stand.over.virtual (agree_same (live_tables p.groups) x.stand.over.virtual m.flow.stand.over.virtual m.same) n.same;
    }

pub flow_round : (p : Progress) (us left : List Sealed) (x : Pipeline p us) (events : List Event) (later : List Entry)
    → Follows x.stand.over.backing.schema (live_tables p.groups) events p.history us later left → FlowsWithLive (with_history p later) left x.stand.over.virtual
flow_round p us left x events later f = round_over x.stand.over.backing.schema events p us x later left refl f
