-- What open sessions do.
use Rattle.std.proofs.Common.{◌≡◌, ℕ, Bool, true, false, cond, not, ◌&&◌, ◌||◌, Option, Some, None, is_some, List, [], ◌∷◌, ◌++◌, length, slice_get, unwrap_or, map, refl, sym, ap, subst, ◌∙◌}
use Rattle.std.specs.Option.{option_and_then, option_map, option_or}
use Rattle.std.specs.List.{filter, find, flat_map, list_all, list_any}
use Rattle.std.proofs.lemmas.List.Folds.{list_all-append, list_any-append}
use Rattle.std.specs.FinMap as fm
use Rattle.table_defs.specs.declared.definition.TableDef.{TableDef}
use Rattle.indexed_rows.specs.Rows.{key_of}
use Rattle.table_state.specs.declared.footprint.RowKey.{RowKey}
use Rattle.table_state.specs.declared.history.Entry.{Entry}
use Rattle.table_state.specs.declared.operation.Op.{Op}
use Rattle.table_state.specs.declared.operation.Op.TheVariants.{Insert, Update, Delete}
use Rattle.table_state.specs.declared.refusal.ApplyError.{ApplyError}
use Rattle.table_state.specs.Footprints.{footprint_of, is_among, is_in, referred_by, written_by}
use Rattle.table_state.specs.declared.history.Sealed.{Sealed}
use Rattle.table_state.specs.Histories.{entry_of, no_tables}
use Rattle.table_state.specs.Operations.{applied, applied_all}
use Rattle.table_state.specs.Refusals.{broken_by, broken_by_all}
use Rattle.table_state.specs.Tables.{TableState, table_at}
use Rattle.table_state.proofs.ChangeLaws.{applies}
use Rattle.table_state.proofs.HistoryLaws.{applied_all-append}
use Rattle.order_laws.specs.Commits.{pending, virtual_state}
use Rattle.order_laws.specs.Effects.{row_at}
use Rattle.order_laws.specs.Sides.{IsClosed}
use Rattle.order_laws.proofs.AgreeLaws.{all_closed}
use Rattle.order_laws.proofs.AtOnceLaws.{conflict_none}
use Rattle.order_laws.proofs.CommittingLaws.{schemas_same}
use Rattle.order_laws.proofs.CountLaws.{get_front}
use Rattle.order_laws.proofs.NextLaws.{all_defined}
use Rattle.order_laws.proofs.OrderLaws.{virtual_is}
use Rattle.order_laws.proofs.PairLaws.{Apart, same_place}
use Rattle.order_laws.proofs.TruthLaws.{never_both, not_both}
use Rattle.order_laws.specs.OpenWrites.{AllApply, Applies, OpenWrites, meet_none}
use Rattle.order_laws.proofs.OpenLaws.{open_closes, open_opens, open_rollback, open_write}
use Rattle.cache_tier.specs.Locks.{first_of_all, has_written, holder, holds, lock_fault, locked_by, op_lock, parent_lock, written_lock}
use Rattle.cache_tier.specs.Shown.{all_over, seen_by, shown_state, written_on}
use Rattle.cache_tier.specs.TierStates.{Session, Tier, at_rest, is_labelled, others, session_of, with_session, with_writes}
use Rattle.cache_tier.specs.Worlds.{World}
use Rattle.cache_tier.specs.CommitSteps.{ends}
use Rattle.cache_tier.specs.Rules.{at_limit, broken_if, labelled}
use Rattle.cache_tier.specs.SessionSteps.{close_answer, flag_answer, new_session, open_answer, open_fault}
use Rattle.cache_tier.proofs.OverLaws.{over_is_applied}
use Rattle.row_types.specs.declared.rule.Rule.{Rule}
use Rattle.sql_subset.specs.declared.request.OpenOptions.{OpenOptions}
use Rattle.tier_base.specs.declared.code.Code.TheVariants as code
use Rattle.tier_base.specs.declared.limit.Limit.TheVariants as limit
use Rattle.cache_tier.specs.StandingBetween.{HaveOwnLabels, HaveWritten, Stands, are_written_through, own_writes}
use Rattle.cache_tier.specs.Events.{HaveNewKeys, HasNewKey, MayWriteMore, StaysShown, with_tier}
use Rattle.cache_tier.proofs.GroupTables.{through_on}
use Rattle.cache_tier.proofs.PartLaws.{AreNewKeys, IsClosedPart, IsNewKey, Row, applies_to_whole, parts_after, then_is}
use Rattle.cache_tier.proofs.ShownTables.{live_of, part_shown}
use Rattle.cache_tier.proofs.SoundStates.{IsSoundState, sound_history, sound_ops}
use Rattle.cache_tier.proofs.SessionLists.{AmongSessions, all_at, all_with, all_without, among_sessions, applies_at, apply_last, apply_with, apply_without, changed_session, labels_changed, labels_last, labels_left, other_sessions, own_append, own_middle}

-- what breaks no rule applies
pub unbroken_applies : (ops : List Op) (s : TableState) → broken_by_all ops s ≡ None → Applies s ops
unbroken_applies [] s e = record { top = s; leads = refl }
unbroken_applies (op ∷ ops) s e = by (broken_by op s) refl e (λ n. unbroken_applies ops n)
  where
    of : (o : Option TableState) → applied op s ≡ o → is_some o ≡ true → option_and_then (broken_by_all ops) o ≡ None → ((n : TableState) → broken_by_all ops n ≡ None → Applies n ops) → Applies s (op ∷ ops)
    of None is some h rest = Prim.cc
    of (Some n) is some h rest = let a = rest n h in record { top = a.top; leads = then_is (applied_all ops) (applied op s) n a.top is a.leads }

    by : (b : Option ApplyError) → broken_by op s ≡ b → option_or b (option_and_then (broken_by_all ops) (applied op s)) ≡ None → ((n : TableState) → broken_by_all ops n ≡ None → Applies n ops) → Applies s (op ∷ ops)
    by (Some x) is h rest = Prim.cc
    by None is h rest = of (applied op s) refl (applies op s is) h rest

-- locks

find_none : (p : Session → Bool) (o : Session) (sessions : List Session) → find p (o ∷ sessions) ≡ None → (p o ≡ false) × (find p sessions ≡ None)
find_none p o sessions e = by (p o) refl e
  where
    by : (b : Bool) → p o ≡ b → cond b (Some o) (find p sessions) ≡ None → (p o ≡ false) × (find p sessions ≡ None)
    by true is h = Prim.cc
    by false is h = (is, h)

or_nothing : {X : Type 0} (a b : Option X) → option_or a b ≡ None → (a ≡ None) × (b ≡ None)
or_nothing None b e = (refl, e)
or_nothing (Some x) b e = Prim.cc

map_nothing : {X Y : Type 0} (f : X → Y) (o : Option X) → option_map f o ≡ None → o ≡ None
map_nothing f None e = refl
map_nothing f (Some x) e = Prim.cc

-- of keys of which none gives anything
among_none : {B : Type 0} (f : RowKey → Option B) (keys : List RowKey) (w : RowKey) → first_of_all f keys ≡ None → is_among keys w ≡ true → f w ≡ None
among_none f [] w e h = Prim.cc
among_none {B = B} f (k ∷ keys) w e h = by (Rattle.table_state.specs.Footprints.same_row_key w k) refl h (or_nothing (f k) (first_of_all f keys) e) (among_none f keys w)
  where
    by : (b : Bool) → Rattle.table_state.specs.Footprints.same_row_key w k ≡ b → (b || is_among keys w) ≡ true → (f k ≡ None) × (first_of_all f keys ≡ None) → (first_of_all f keys ≡ None → is_among keys w ≡ true → f w ≡ None) → f w ≡ None
    by true is h two rest = ap f (sym (same_place w k is)) ∙ two.0
    by false is h two rest = rest two.1 h

abbrev Free : List TableDef → List Session → List Op → Type 0
Free schema sessions ops = first_of_all (op_lock schema sessions) ops ≡ None

written_free : (schema : List TableDef) (sessions : List Session) (ops : List Op) → Free schema sessions ops → (w : RowKey) → is_among (flat_map (written_by schema) ops) w ≡ true → find (holds schema w) sessions ≡ None
written_free schema sessions [] e w h = Prim.cc
written_free schema sessions (op ∷ ops) e w h = by (is_among (written_by schema op) w) refl (sym (list_any-append (Rattle.table_state.specs.Footprints.same_row_key w) (written_by schema op) (flat_map (written_by schema) ops)) ∙ h) (written_free schema sessions ops (or_nothing (op_lock schema sessions op) (first_of_all (op_lock schema sessions) ops) e).1 w)
  where
    by : (b : Bool) → is_among (written_by schema op) w ≡ b → (b || is_among (flat_map (written_by schema) ops) w) ≡ true → (is_among (flat_map (written_by schema) ops) w ≡ true → find (holds schema w) sessions ≡ None) → find (holds schema w) sessions ≡ None
    by false is h rest = rest h
    by true is h rest =
        let first = (or_nothing (op_lock schema sessions op) (first_of_all (op_lock schema sessions) ops) e).0 in
        let own = (or_nothing (first_of_all (written_lock schema sessions) (written_by schema op)) (first_of_all (parent_lock schema sessions) (referred_by schema op)) first).0 in
        let none : holder schema sessions w ≡ None = among_none (written_lock schema sessions) (written_by schema op) w own is in
        (or_nothing (find (has_written schema w) sessions) (find (holds schema w) sessions) none).1

referred_free : (schema : List TableDef) (sessions : List Session) (ops : List Op) → Free schema sessions ops → (w : RowKey) → is_among (flat_map (referred_by schema) ops) w ≡ true → find (has_written schema w) sessions ≡ None
referred_free schema sessions [] e w h = Prim.cc
referred_free schema sessions (op ∷ ops) e w h = by (is_among (referred_by schema op) w) refl (sym (list_any-append (Rattle.table_state.specs.Footprints.same_row_key w) (referred_by schema op) (flat_map (referred_by schema) ops)) ∙ h) (referred_free schema sessions ops (or_nothing (op_lock schema sessions op) (first_of_all (op_lock schema sessions) ops) e).1 w)
  where
    by : (b : Bool) → is_among (referred_by schema op) w ≡ b → (b || is_among (flat_map (referred_by schema) ops) w) ≡ true → (is_among (flat_map (referred_by schema) ops) w ≡ true → find (has_written schema w) sessions ≡ None) → find (has_written schema w) sessions ≡ None
    by false is h rest = rest h
    by true is h rest =
        let first = (or_nothing (op_lock schema sessions op) (first_of_all (op_lock schema sessions) ops) e).0 in
        let own = (or_nothing (first_of_all (written_lock schema sessions) (written_by schema op)) (first_of_all (parent_lock schema sessions) (referred_by schema op)) first).1 in
        among_none (parent_lock schema sessions) (referred_by schema op) w own is

-- Operations that meet no lock of these sessions conflict with none of their writes.
pub free_of : (schema : List TableDef) (ops : List Op) (sessions : List Session)
    → ((w : RowKey) → is_among (flat_map (written_by schema) ops) w ≡ true → find (holds schema w) sessions ≡ None)
    → ((w : RowKey) → is_among (flat_map (referred_by schema) ops) w ≡ true → find (has_written schema w) sessions ≡ None)
    → meet_none schema ops (own_writes sessions) ≡ true
free_of schema ops [] written referred = refl
free_of schema ops (o ∷ sessions) written referred =
    let rest = free_of schema ops sessions (λ w e. (find_none (holds schema w) o sessions (written w e)).1) (λ w e. (find_none (has_written schema w) o sessions (referred w e)).1) in
    (λ i. not (conflict_none (footprint_of schema ops) (footprint_of schema o.own) apart i) && rest i)
  where
    in_other : (w : RowKey) → is_among (footprint_of schema ops).written w ≡ true → is_in (footprint_of schema o.own) w ≡ false
    in_other w e = (find_none (holds schema w) o sessions (written w e)).0

    neither : (a b : Bool) → a ≡ false → b ≡ false → (a || b) ≡ false
    neither a b x y = λ i. x i || y i

    apart : Apart (footprint_of schema ops) (footprint_of schema o.own)
    apart = record {
      here = in_other;
      there = λ w e. neither (is_among (footprint_of schema ops).written w) (is_among (footprint_of schema ops).referred w)
          (not_both (is_among (footprint_of schema ops).written w) (λ h. never_both (is_in (footprint_of schema o.own) w) (ap (λ b. b || is_among (footprint_of schema o.own).referred w) e) (in_other w h)))
          (not_both (is_among (footprint_of schema ops).referred w) (λ h. never_both (is_among (footprint_of schema o.own).written w) e (find_none (has_written schema w) o sessions (referred w h)).0));
    }

pub unlocked_apart : (label : List ℕ) (t : Tier) (ops : List Op) → lock_fault label t ops ≡ None → meet_none t.schema ops (own_writes (others label t)) ≡ true
unlocked_apart label t ops e =
    let free = map_nothing locked_by (first_of_all (op_lock t.schema (others label t)) ops) e in
    free_of t.schema ops (others label t) (written_free t.schema (others label t) ops free) (referred_free t.schema (others label t) ops free)

-- What is known where a tier stands.
pub record Known (w : World) (v : TableState) : Type 0 where
  pub v_is : virtual_state w.history w.tier.log ≡ Some v
  pub more : List TableDef
  pub front : v.schema ≡ w.tier.schema ++ more
  pub sound : IsSoundState v
  pub closed : IsClosed (live_of w.tier) v.schema
  pub closed_shown : IsClosed (live_of w.tier) w.tier.schema
  pub part : IsClosedPart (live_of w.tier) v (shown_state w.history w.tier)

pub sound_virtual : (history : List Entry) (log : List Sealed) (v : TableState) → virtual_state history log ≡ Some v → IsSoundState v
sound_virtual history log v e = sound_history (history ++ map entry_of (pending history log)) v (sym (virtual_is history log) ∙ e)

pub known : (w : World) (x : Stands w) → Known w x.flow.stand.over.virtual
known w x =
    let over = x.flow.stand.over in
    let f = x.schema.front over.backing over.leaves in
    let front : over.virtual.schema ≡ w.tier.schema ++ f.0 = schemas_same w.history w.tier.log over.backing over.virtual over.leaves over.virtual_is ∙ f.1 in
    let closed : IsClosed (live_of w.tier) over.virtual.schema =
    subst (IsClosed (live_of w.tier)) (sym (schemas_same w.history w.tier.log over.backing over.virtual over.leaves over.virtual_is))
    (all_closed (Rattle.cache_tier.specs.StandingBetween.live_groups_of w.tier.groups) w.history w.tier.log over.backing.schema w.tier.next over.ordered)
    in
    let sound = sound_virtual w.history w.tier.log over.virtual over.virtual_is in
    record {
      v_is = over.virtual_is;
      more = f.0;
      front = front;
      sound = sound;
      closed = closed;
      closed_shown = λ t def foreign d fk. closed t def foreign (ap (λ s. slice_get s t.0) front ∙ get_front w.tier.schema f.0 t.0 def d) fk;
      part = part_shown w.history w.tier over.virtual over.virtual_is x.catalog f.0 front sound;
    }

-- with other sessions
pub stands_with : (w : World) (x : Stands w) (sessions : List Session) → HaveWritten x.flow.stand.over.virtual (shown_state w.history w.tier) w.tier.groups sessions → StaysShown w (with_tier (record w.tier { sessions = sessions }) w)
stands_with w x sessions written = record {
  stands = record {
    flow = x.flow;
    schema = record { front = x.schema.front; whole = x.schema.whole };
    catalog = record { each = x.catalog.each; apart = x.catalog.apart };
    keys = x.keys;
    read = x.read;
    sessions = written;
  };
  same = refl;
}

pub none_there : (o : Option Row) → is_some o ≡ false → o ≡ None
none_there None e = refl
none_there (Some r) e = Prim.cc

-- keys that are new in a state are new for its operations
new_key : (op : Op) (u : TableState) → HasNewKey op u → IsNewKey op u
new_key (Insert t row) u e = λ def d. none_there (row_at u t (key_of def.primary_key row)) (ap (λ o. fm.contains_key (table_at u t) (Rattle.evaluator.specs.Cascades.key_in o row)) (sym d) ∙ e)
new_key (Update t old new) u e = tt
new_key (Delete t old) u e = tt

new_keys : (ops : List Op) (u : TableState) → HaveNewKeys ops u → AreNewKeys ops u
new_keys [] u e = tt
new_keys (op ∷ ops) u e = (new_key op u e.0, λ n is. new_keys ops n (subst (HaveNewKeys ops) (over_is_applied (op ∷ []) u n (ap (option_and_then (λ x. Some x)) is)) e.1))

-- A session writes more.
pub session_writes : (w : World) (s : Session) (ops : List Op) → Stands w → MayWriteMore w s ops → StaysShown w (with_tier (with_session s.label (with_writes ops) w.tier) w)
session_writes w s ops x may = stands_with w x (map (λ r. cond (is_labelled s.label r) (with_writes ops r) r) w.tier.sessions)
    (subst (HaveWritten v shown w.tier.groups) (sym (changed_session w.tier.sessions s a (with_writes ops))) (record {
      labels = labels_changed a.before s (with_writes ops s) a.behind refl (subst HaveOwnLabels a.is x.sessions.labels);
      through = ap (list_all (are_written_through w.tier.groups)) (own_middle a.before (with_writes ops s) a.behind)
          ∙ all_with (are_written_through w.tier.groups) before s.own (s.own ++ ops) behind all_through (list_all-append _ s.own ops ∙ (λ i. own_through i && may.through i));
      shown = subst (OpenWrites shown) (sym (own_middle a.before (with_writes ops s) a.behind))
          (open_write shown top.top before s.own ops behind writes
          (applied_all-append s.own ops shown ∙ then_is (applied_all ops) (applied_all s.own shown) mine.top top.top mine.leads top.leads)
          (ap (meet_none w.tier.schema ops) (sym (ap own_writes (other_sessions w.tier.sessions s a) ∙ own_append a.before a.behind)) ∙ unlocked_apart s.label w.tier ops may.unlocked));
      virtual = subst (AllApply v) (sym (own_middle a.before (with_writes ops s) a.behind))
          (apply_with v before s.own (s.own ++ ops) behind all_apply
          (record { top = whole.0; leads = applied_all-append s.own ops v ∙ then_is (applied_all ops) (applied_all s.own v) its.top whole.0 its.leads whole.1 }));
    }))
  where
    v : TableState
    v = x.flow.stand.over.virtual

    shown : TableState
    shown = shown_state w.history w.tier

    a : AmongSessions w.tier.sessions s
    a = among_sessions w.tier.sessions s x.sessions.labels may.there

    before : List (List Op)
    before = own_writes a.before

    behind : List (List Op)
    behind = own_writes a.behind

    owns : own_writes w.tier.sessions ≡ before ++ s.own ∷ behind
    owns = ap own_writes a.is ∙ own_middle a.before s a.behind

    writes : OpenWrites shown (before ++ s.own ∷ behind)
    writes = subst (OpenWrites shown) owns x.sessions.shown

    all_apply : AllApply v (before ++ s.own ∷ behind)
    all_apply = subst (AllApply v) owns x.sessions.virtual

    all_through : list_all (are_written_through w.tier.groups) (before ++ s.own ∷ behind) ≡ true
    all_through = ap (list_all (are_written_through w.tier.groups)) (sym owns) ∙ x.sessions.through

    own_through : are_written_through w.tier.groups s.own ≡ true
    own_through = all_at (are_written_through w.tier.groups) before s.own behind all_through

    mine : Applies shown s.own
    mine = applies_at shown before s.own behind writes.apply

    its : Applies v s.own
    its = applies_at v before s.own behind all_apply

    seen : seen_by s w.history w.tier ≡ mine.top
    seen = over_is_applied s.own shown mine.top mine.leads

    top : Applies mine.top ops
    top = unbroken_applies ops mine.top (ap (broken_by_all ops) (sym seen) ∙ may.unbroken)

    k : Known w v
    k = known w x

    part : IsClosedPart (live_of w.tier) its.top mine.top
    part = parts_after (live_of w.tier) s.own v its.top shown mine.top (through_on w.tier.groups s.own ∙ own_through) k.sound.linked k.part its.leads mine.leads

    sound : IsSoundState its.top
    sound = sound_ops s.own v its.top its.leads k.sound

    written : written_on s w.history w.tier ≡ its.top
    written = ap (λ o. all_over s.own (unwrap_or o no_tables)) k.v_is ∙ over_is_applied s.own v its.top its.leads

    whole : (z : TableState) × (applied_all ops its.top ≡ Some z)
    whole = applies_to_whole (live_of w.tier) ops its.top mine.top top.top (subst (IsClosed (live_of w.tier)) (sym (all_defined s.own v its.top its.leads)) k.closed) sound.whole sound.linked part
        (through_on w.tier.groups ops ∙ may.through) (new_keys ops its.top (subst (HaveNewKeys ops) written may.fresh)) top.leads

-- What one session becomes that has no writes more than before.
module _ (w : World) (s : Session) (x : Stands w) (there : session_of w.tier s.label ≡ Some s) where
  at_session : AmongSessions w.tier.sessions s
  at_session = among_sessions w.tier.sessions s x.sessions.labels there

  all_owns : own_writes w.tier.sessions ≡ own_writes at_session.before ++ s.own ∷ own_writes at_session.behind
  all_owns = ap own_writes at_session.is ∙ own_middle at_session.before s at_session.behind

  -- it has none
  pub session_rests : StaysShown w (with_tier (with_session s.label at_rest w.tier) w)
  session_rests =
      let v = x.flow.stand.over.virtual in
      let shown = shown_state w.history w.tier in
      let before = own_writes at_session.before in
      let behind = own_writes at_session.behind in
      stands_with w x (map (λ r. cond (is_labelled s.label r) (at_rest r) r) w.tier.sessions)
      (subst (HaveWritten v shown w.tier.groups) (sym (changed_session w.tier.sessions s at_session at_rest)) (record {
        labels = labels_changed at_session.before s (at_rest s) at_session.behind refl (subst HaveOwnLabels at_session.is x.sessions.labels);
        through = ap (list_all (are_written_through w.tier.groups)) (own_middle at_session.before (at_rest s) at_session.behind)
            ∙ all_with (are_written_through w.tier.groups) before s.own [] behind (ap (list_all (are_written_through w.tier.groups)) (sym all_owns) ∙ x.sessions.through) refl;
        shown = subst (OpenWrites shown) (sym (own_middle at_session.before (at_rest s) at_session.behind)) (open_rollback shown before s.own behind (subst (OpenWrites shown) all_owns x.sessions.shown));
        virtual = subst (AllApply v) (sym (own_middle at_session.before (at_rest s) at_session.behind))
            (apply_with v before s.own [] behind (subst (AllApply v) all_owns x.sessions.virtual) (record { top = v; leads = refl }));
      }))

  -- its writes stay
  pub session_stays : (change : Session → Session) → (change s).label ≡ s.label → (change s).own ≡ s.own → StaysShown w (with_tier (with_session s.label change w.tier) w)
  session_stays change label own =
      let v = x.flow.stand.over.virtual in
      let shown = shown_state w.history w.tier in
      let owns : own_writes w.tier.sessions ≡ own_writes (at_session.before ++ change s ∷ at_session.behind) =
      all_owns ∙ ap (λ l. own_writes at_session.before ++ l ∷ own_writes at_session.behind) (sym own) ∙ sym (own_middle at_session.before (change s) at_session.behind)
      in
      stands_with w x (map (λ r. cond (is_labelled s.label r) (change r) r) w.tier.sessions)
      (subst (HaveWritten v shown w.tier.groups) (sym (changed_session w.tier.sessions s at_session change)) (record {
        labels = labels_changed at_session.before s (change s) at_session.behind label (subst HaveOwnLabels at_session.is x.sessions.labels);
        through = ap (list_all (are_written_through w.tier.groups)) (sym owns) ∙ x.sessions.through;
        shown = subst (OpenWrites shown) owns x.sessions.shown;
        virtual = subst (AllApply v) owns x.sessions.virtual;
      }))

  -- it closes
  pub session_closes : StaysShown w (with_tier (record w.tier { sessions = filter (λ r. not (is_labelled s.label r)) w.tier.sessions }) w)
  session_closes =
      let v = x.flow.stand.over.virtual in
      let shown = shown_state w.history w.tier in
      let before = own_writes at_session.before in
      let behind = own_writes at_session.behind in
      let owns : own_writes (at_session.before ++ at_session.behind) ≡ before ++ behind = own_append at_session.before at_session.behind in
      stands_with w x (filter (λ r. not (is_labelled s.label r)) w.tier.sessions)
      (subst (HaveWritten v shown w.tier.groups) (sym (other_sessions w.tier.sessions s at_session)) (record {
        labels = labels_left at_session.before s at_session.behind (subst HaveOwnLabels at_session.is x.sessions.labels);
        through = ap (list_all (are_written_through w.tier.groups)) owns ∙ all_without (are_written_through w.tier.groups) before s.own behind (ap (list_all (are_written_through w.tier.groups)) (sym all_owns) ∙ x.sessions.through);
        shown = subst (OpenWrites shown) (sym owns) (open_closes shown before s.own behind (subst (OpenWrites shown) all_owns x.sessions.shown));
        virtual = subst (AllApply v) (sym owns) (apply_without v before s.own behind (subst (AllApply v) all_owns x.sessions.virtual));
      }))

pub session_rolls_back : (w : World) (s : Session) → Stands w → session_of w.tier s.label ≡ Some s → StaysShown w (with_tier (ends s w.tier) w)
session_rolls_back w s x there = session_rests w s x there

pub session_sets : (w : World) (s : Session) (level : ℕ) → Stands w → session_of w.tier s.label ≡ Some s → StaysShown w (with_tier (flag_answer w.tier s.label level).0 w)
session_sets w s level x there = session_stays w s x there (λ r. record r { flag = Some level }) refl refl

pub session_goes : (w : World) (s : Session) → Stands w → session_of w.tier s.label ≡ Some s → StaysShown w (with_tier (close_answer w.tier s.label).0 w)
session_goes w s x there = session_closes w s x there

not_broken : (b : Bool) (rule : Rule) → broken_if b rule ≡ None → b ≡ false
not_broken true rule e = Prim.cc
not_broken false rule e = refl

pub session_opens : (w : World) (label : List ℕ) (options : OpenOptions) → Stands w → open_fault w.tier label ≡ None → StaysShown w (with_tier (open_answer w.tier label options).0 w)
session_opens w label options x free =
    let v = x.flow.stand.over.virtual in
    let shown = shown_state w.history w.tier in
    let n = new_session label options in
    let two = or_nothing (broken_if (list_any (is_labelled label) w.tier.sessions) (labelled code.NameInUse label)) (at_limit limit.Sessions (length w.tier.sessions)) free in
    let owns : own_writes (w.tier.sessions ++ n ∷ []) ≡ own_writes w.tier.sessions ++ [] ∷ [] = own_append w.tier.sessions (n ∷ []) in
    stands_with w x (w.tier.sessions ++ n ∷ []) (record {
      labels = labels_last w.tier.sessions n x.sessions.labels (not_broken (list_any (is_labelled label) w.tier.sessions) (labelled code.NameInUse label) two.0);
      through = ap (list_all (are_written_through w.tier.groups)) owns ∙ list_all-append (are_written_through w.tier.groups) (own_writes w.tier.sessions) ([] ∷ []) ∙ (λ i. x.sessions.through i && true);
      shown = subst (OpenWrites shown) (sym owns) (open_opens shown (own_writes w.tier.sessions) x.sessions.shown);
      virtual = subst (AllApply v) (sym owns) (apply_last v (own_writes w.tier.sessions) x.sessions.virtual);
    })
