-- The whole of it: each event keeps that the transactions stand.
use Rattle.std.proofs.Common.{◌≡◌, ℕ, ◌+◌, ◌≤◌, true, false, cond, not, ◌&&◌, ◌||◌, nat_eq, Some, List, [], ◌∷◌, ◌++◌, refl, sym, ap, subst, ◌∙◌, append-nil, eq-eqb}
use Rattle.std.specs.List.{list_all}
use Rattle.std.proofs.lemmas.List.Elements.{filter-append}
use Rattle.std.proofs.lemmas.List.Folds.{list_all-append, list_any-append}
use Rattle.table_state.specs.tier_base.specs.declared.number.TableId.{TableId}
use Rattle.table_state.specs.table_defs.specs.declared.definition.TableDef.{TableDef}
use Rattle.table_state.specs.declared.history.Entry.{Entry}
use Rattle.table_state.specs.declared.history.Entry.TheVariants.{Definition, Foreign}
use Rattle.table_state.specs.declared.history.Sealed.{Sealed}
use Rattle.table_state.specs.declared.operation.Op.{Op}
use Rattle.table_state.specs.Histories.{entry_of, has_ticket, state_of}
use Rattle.table_state.specs.Independence.{with_new}
use Rattle.table_state.specs.Tables.{TableState}
use Rattle.table_state.specs.Operations.{applied_all, table_of}
use Rattle.table_state.proofs.HistoryLaws.{has_ticket-append}
use Rattle.order_laws.specs.Commits.{IsLegal, LiveGroup, MayCome, NoneConflicts, Once, conflicting, is_op_on, is_pending, pending}
use Rattle.order_laws.specs.Sides.{IsClosed, all_on, are_off, are_on}
use Rattle.order_laws.specs.Standing.{AreClosed, AreOnDefined, PendingIsLive, Stand, StandOver, StandsWithLive, all_off, are_on_defined, live_tables, progress_of}
use Rattle.order_laws.specs.Steps.{AreRoundEntries, MayLeave}
use Rattle.order_laws.proofs.AtOnceLaws.{at_once}
use Rattle.order_laws.proofs.BackLaws.{known_more}
use Rattle.order_laws.proofs.BeginLaws.{begins}
use Rattle.order_laws.proofs.ComingLaws.{comes_leaving, live_comes}
use Rattle.order_laws.proofs.CommittingLaws.{commits, live_commits, pending_last, schemas_same}
use Rattle.order_laws.proofs.CutLaws.{last_lost, tickets_skipped}
use Rattle.order_laws.proofs.DefiningLaws.{group_defined}
use Rattle.order_laws.proofs.GroupLaws.{group_dropped}
use Rattle.order_laws.proofs.LeavingLaws.{leaves, pending_without, there}
use Rattle.order_laws.proofs.NextLaws.{all_defined}
use Rattle.order_laws.proofs.OthersLaws.{others_come}
use Rattle.order_laws.proofs.RoundLaws.{round_comes}
use Rattle.order_laws.proofs.TableLaws.{known_where_applied, table_defined}
use Rattle.order_laws.proofs.TruthLaws.{both_true, or_true, same_some}

-- defined tables

known_last : (schema : List TableDef) (log : List Sealed) (s : Sealed) → AreOnDefined schema log → are_on_defined schema s.ops ≡ true → AreOnDefined schema (log ++ s ∷ [])
known_last schema log s known mine = list_all-append (λ (x : Sealed). are_on_defined schema x.ops) log (s ∷ []) ∙ (λ i. known i && (mine i && true))

known_longer : (schema more : List TableDef) (log : List Sealed) → AreOnDefined schema log → AreOnDefined (schema ++ more) log
known_longer schema more [] known = refl
known_longer schema more (s ∷ log) known =
    let (first, rest) = both_true (are_on_defined schema s.ops) (list_all (λ (x : Sealed). are_on_defined schema x.ops) log) known in
    λ i. known_more schema more s.ops first i && known_longer schema more log rest i

known_front : (schema : List TableDef) (log : List Sealed) (s : Sealed) → AreOnDefined schema (log ++ s ∷ []) → AreOnDefined schema log
known_front schema log s known = (both_true (list_all (λ (x : Sealed). are_on_defined schema x.ops) log) (list_all (λ (x : Sealed). are_on_defined schema x.ops) (s ∷ [])) (sym (list_all-append (λ (x : Sealed). are_on_defined schema x.ops) log (s ∷ [])) ∙ known)).0

known_without : (schema : List TableDef) (xs : List Sealed) (j : Sealed) (ys : List Sealed) → AreOnDefined schema (xs ++ j ∷ ys) → AreOnDefined schema (xs ++ ys)
known_without schema xs j ys known =
    let test = λ (x : Sealed). are_on_defined schema x.ops in
    let (first, rest) = both_true (list_all test xs) (list_all test (j ∷ ys)) (sym (list_all-append test xs (j ∷ ys)) ∙ known) in
    let (mine, last) = both_true (test j) (list_all test ys) rest in
    list_all-append test xs ys ∙ (λ i. first i && last i)

-- live tables

live_at_once : (groups : List LiveGroup) (h : List Entry) (log : List Sealed) (s : Sealed) → PendingIsLive groups h log → PendingIsLive groups (h ++ entry_of s ∷ []) (log ++ s ∷ [])
live_at_once groups h log s live =
    let now = h ++ entry_of s ∷ [] in
    let here : has_ticket s.ticket.0 now ≡ true =
    has_ticket-append s.ticket.0 h (entry_of s ∷ []) ∙ ap (λ b. has_ticket s.ticket.0 h || (b || false)) (eq-eqb s.ticket.0 s.ticket.0 refl) ∙ or_true (has_ticket s.ticket.0 h)
    in
    ap (all_on (live_tables groups)) (filter-append (is_pending now) log (s ∷ []) ∙ ap (λ b. pending now log ++ cond (not b) (s ∷ []) []) here ∙ append-nil (pending now log)) ∙ live_comes groups h (entry_of s ∷ []) log live

live_front : (groups : List LiveGroup) (h : List Entry) (log : List Sealed) (s : Sealed) → has_ticket s.ticket.0 h ≡ false → PendingIsLive groups h (log ++ s ∷ []) → PendingIsLive groups h log
live_front groups h log s fresh live =
    (both_true (all_on (live_tables groups) (pending h log)) (all_on (live_tables groups) (s ∷ []))
    (sym (ap (all_on (live_tables groups)) (pending_last h log s fresh) ∙ list_all-append (λ (x : Sealed). are_on (live_tables groups) x.ops) (pending h log) (s ∷ [])) ∙ live)).0

on_more : (a b : List TableId) (ops : List Op) → are_on b ops ≡ true → are_on (a ++ b) ops ≡ true
on_more a b [] on = refl
on_more a b (op ∷ ops) on =
    let (first, rest) = both_true (is_op_on b op) (are_on b ops) on in
    let here : is_op_on (a ++ b) op ≡ true = list_any-append (λ (one : TableId). nat_eq one.0 (table_of op).0) a b ∙ ap (λ c. is_op_on a op || c) first ∙ or_true (is_op_on a op) in
    λ i. here i && on_more a b ops rest i

all_more : (a b : List TableId) (xs : List Sealed) → all_on b xs ≡ true → all_on (a ++ b) xs ≡ true
all_more a b [] on = refl
all_more a b (x ∷ xs) on = let (first, rest) = both_true (are_on b x.ops) (all_on b xs) on in λ i. on_more a b x.ops first i && all_more a b xs rest i

-- schemas

backing_schema : (groups others : List LiveGroup) (h i : List Entry) (log more : List Sealed) (next later : ℕ) (over : StandOver (progress_of groups h log next)) (now : StandOver (progress_of others i more later)) → now.virtual.schema ≡ over.virtual.schema
    → now.backing.schema ≡ over.backing.schema
backing_schema groups others h i log more next later over now same =
    sym (schemas_same i more now.backing now.virtual now.leaves now.virtual_is) ∙ same ∙ schemas_same h log over.backing over.virtual over.leaves over.virtual_is

same_backing : (h : List Entry) (a b : TableState) → state_of h ≡ Some a → state_of h ≡ Some b → a.schema ≡ b.schema
same_backing h a b a_is b_is = ap (λ x. x.schema) (same_some (sym a_is ∙ b_is))

-- the events

pub stand_begins : (h : List Entry) (next : ℕ) (b : TableState) → state_of h ≡ Some b → Once h → 1 ≤ next → ((t : ℕ) → next ≤ t → has_ticket t h ≡ false) → Stand (progress_of [] h [] next)
stand_begins h next b leaves once le below = record { over = begins h next b leaves once le below; live = refl; known = refl }

pub stand_commits : (groups : List LiveGroup) (h : List Entry) (log : List Sealed) (next : ℕ) (stand : Stand (progress_of groups h log next)) (s : Sealed) (v : TableState) → next ≤ s.ticket.0 → applied_all s.ops stand.over.virtual ≡ Some v
    → are_on (live_tables groups) s.ops ≡ true → (now : Stand (progress_of groups h (log ++ s ∷ []) (s.ticket.0 + 1))) × (now.over.virtual ≡ v)
stand_commits groups h log next stand s v le is on =
    let (now, now_v, now_b) = commits groups h log next stand.over s v le is in
    let known : are_on_defined stand.over.backing.schema s.ops ≡ true =
    ap (λ l. are_on_defined l s.ops) (sym (schemas_same h log stand.over.backing stand.over.virtual stand.over.leaves stand.over.virtual_is)) ∙ known_where_applied s.ops stand.over.virtual v is
    in (
      record {
        over = now;
        live = live_commits groups h log s (stand.over.below s.ticket.0 le) stand.live on;
        known = subst (λ (x : TableState). AreOnDefined x.schema (log ++ s ∷ [])) (sym now_b) (known_last stand.over.backing.schema log s stand.known known);
      },
      now_v,
    )

pub stand_at_once : (groups : List LiveGroup) (h : List Entry) (log : List Sealed) (next : ℕ) (stand : Stand (progress_of groups h log next)) (s : Sealed) (v : TableState) → next ≤ s.ticket.0 → NoneConflicts stand.over.backing.schema (pending h log) s
    → applied_all s.ops stand.over.virtual ≡ Some v → (now : Stand (progress_of groups (h ++ entry_of s ∷ []) (log ++ s ∷ []) (s.ticket.0 + 1))) × (now.over.virtual ≡ v)
stand_at_once groups h log next stand s v le none is =
    let (now, now_v) = at_once groups h log next stand.over s v le none is in
    let schemas : now.backing.schema ≡ stand.over.backing.schema =
    backing_schema groups groups h (h ++ entry_of s ∷ []) log (log ++ s ∷ []) next (s.ticket.0 + 1) stand.over now (ap (λ x. x.schema) now_v ∙ all_defined s.ops stand.over.virtual v is)
    in
    let known : are_on_defined stand.over.backing.schema s.ops ≡ true =
    ap (λ l. are_on_defined l s.ops) (sym (schemas_same h log stand.over.backing stand.over.virtual stand.over.leaves stand.over.virtual_is)) ∙ known_where_applied s.ops stand.over.virtual v is
    in (
      record {
        over = now;
        live = live_at_once groups h log s stand.live;
        known = subst (λ (l : List TableDef). AreOnDefined l (log ++ s ∷ [])) (sym schemas) (known_last stand.over.backing.schema log s stand.known known);
      },
      now_v,
    )

pub stand_comes : (groups : List LiveGroup) (h : List Entry) (log : List Sealed) (next : ℕ) (stand : Stand (progress_of groups h log next)) (j : Sealed) → MayCome (conflicting stand.over.backing.schema) h log j
    → (now : Stand (progress_of groups (h ++ entry_of j ∷ []) log next)) × (now.over.virtual ≡ stand.over.virtual)
stand_comes groups h log next stand j may =
    let (now, same) = comes_leaving groups h log next j stand.over may in
    let schemas = backing_schema groups groups h (h ++ entry_of j ∷ []) log log next next stand.over now (ap (λ x. x.schema) same) in
    (record { over = now; live = live_comes groups h (entry_of j ∷ []) log stand.live; known = subst (λ (l : List TableDef). AreOnDefined l log) (sym schemas) stand.known }, same)

pub stand_others : (groups : List LiveGroup) (h : List Entry) (log : List Sealed) (next : ℕ) (stand : Stand (progress_of groups h log next)) (ops : List Op) (b : TableState) → applied_all ops stand.over.backing ≡ Some b
    → are_off (live_tables groups) ops ≡ true → StandsWithLive (progress_of groups (h ++ Foreign ops ∷ []) log next) stand.over.virtual
stand_others groups h log next stand ops b is off =
    let (now, agree) = others_come groups h log next stand.over ops b stand.live is off in
    let schemas = backing_schema groups groups h (h ++ Foreign ops ∷ []) log log next next stand.over now agree.schema in
    record { stand = record { over = now; live = live_comes groups h (Foreign ops ∷ []) log stand.live; known = subst (λ (l : List TableDef). AreOnDefined l log) (sym schemas) stand.known }; same = agree }

pub stand_round : (groups : List LiveGroup) (entries h : List Entry) (log : List Sealed) (next : ℕ) (stand : Stand (progress_of groups h log next)) (n : TableState) → state_of (h ++ entries) ≡ Some n → AreRoundEntries groups log entries
    → IsLegal (conflicting stand.over.backing.schema) (h ++ entries) log → StandsWithLive (progress_of groups (h ++ entries) log next) stand.over.virtual
stand_round groups entries h log next stand n is round legal =
    let stays = round_comes groups entries h log next stand.over n stand.live is round legal in
    let schemas = backing_schema groups groups h (h ++ entries) log log next next stand.over stays.over stays.same.schema in
    record { stand = record { over = stays.over; live = stays.live; known = subst (λ (l : List TableDef). AreOnDefined l log) (sym schemas) stand.known }; same = stays.same }

pub stand_table : (groups : List LiveGroup) (h : List Entry) (log : List Sealed) (next : ℕ) (stand : Stand (progress_of groups h log next)) (def : TableDef) → AreClosed groups (stand.over.backing.schema ++ def ∷ [])
    → (now : Stand (progress_of groups (h ++ Definition def ∷ []) log next)) × (now.over.virtual ≡ with_new def stand.over.virtual)
stand_table groups h log next stand def closed =
    let (now, same) = table_defined groups h log next stand.over def closed stand.known in
    let schemas : now.backing.schema ≡ stand.over.backing.schema ++ def ∷ [] =
    sym (schemas_same (h ++ Definition def ∷ []) log now.backing now.virtual now.leaves now.virtual_is) ∙ ap (λ x. x.schema) same
    ∙ ap (λ l. l ++ def ∷ []) (schemas_same h log stand.over.backing stand.over.virtual stand.over.leaves stand.over.virtual_is)
    in (
      record {
        over = now;
        live = live_comes groups h (Definition def ∷ []) log stand.live;
        known = subst (λ (l : List TableDef). AreOnDefined l log) (sym schemas) (known_longer stand.over.backing.schema (def ∷ []) log stand.known);
      },
      same,
    )

pub stand_group : (groups : List LiveGroup) (h : List Entry) (log : List Sealed) (next : ℕ) (stand : Stand (progress_of groups h log next)) (g : LiveGroup) → IsClosed g.tables stand.over.backing.schema → g.first ≡ next
    → all_off g.tables (pending h log) ≡ true → Stand (progress_of (g ∷ groups) h log next)
stand_group groups h log next stand g closed first off =
    let now = group_defined groups h log next stand.over g closed first off in
    record {
      over = now;
      live = all_more g.tables (live_tables groups) (pending h log) stand.live;
      known = subst (λ (l : List TableDef). AreOnDefined l log) (same_backing h stand.over.backing now.backing stand.over.leaves now.leaves) stand.known;
    }

pub stand_dropped : (before : List LiveGroup) (g : LiveGroup) (behind : List LiveGroup) (h : List Entry) (log : List Sealed) (next : ℕ) → Stand (progress_of (before ++ g ∷ behind) h log next) → PendingIsLive (before ++ behind) h log → Stand (progress_of (before ++ behind) h log next)
stand_dropped before g behind h log next stand live =
    let now = group_dropped before g behind h log next stand.over in
    record { over = now; live = live; known = subst (λ (l : List TableDef). AreOnDefined l log) (same_backing h stand.over.backing now.backing stand.over.leaves now.leaves) stand.known }

pub stand_loses : (groups : List LiveGroup) (h : List Entry) (log : List Sealed) (s : Sealed) (next : ℕ) → has_ticket s.ticket.0 h ≡ false → Stand (progress_of groups h (log ++ s ∷ []) next) → Stand (progress_of groups h log next)
stand_loses groups h log s next fresh stand =
    let now = last_lost groups h log s next fresh stand.over in
    record {
      over = now;
      live = live_front groups h log s fresh stand.live;
      known = known_front now.backing.schema log s (subst (λ (l : List TableDef). AreOnDefined l (log ++ s ∷ [])) (same_backing h stand.over.backing now.backing stand.over.leaves now.leaves) stand.known);
    }

pub stand_skips : (groups : List LiveGroup) (h : List Entry) (log : List Sealed) (next later : ℕ) → next ≤ later → Stand (progress_of groups h log next) → Stand (progress_of groups h log later)
stand_skips groups h log next later le stand =
    let now = tickets_skipped groups h log next later le stand.over in
    record { over = now; live = stand.live; known = subst (λ (l : List TableDef). AreOnDefined l log) (same_backing h stand.over.backing now.backing stand.over.leaves now.leaves) stand.known }

pub stand_leaves : (groups : List LiveGroup) (h : List Entry) (lower : List Sealed) (s : Sealed) (higher : List Sealed) (next : ℕ) (stand : Stand (progress_of groups h (lower ++ s ∷ higher) next)) → MayLeave groups stand.over.backing.schema h lower s higher
    → (now : Stand (progress_of groups h (lower ++ higher) next)) × (now.over.virtual ≡ stand.over.virtual)
stand_leaves groups h lower s higher next stand may =
    let (now, same) = leaves groups h lower s higher next stand.over may in (
      record {
        over = now;
        live = ap (all_on (live_tables groups)) (sym (pending_without h lower s higher (there h may.front may.tail s may.stands))) ∙ stand.live;
        known = known_without now.backing.schema lower s higher (subst (λ (l : List TableDef). AreOnDefined l (lower ++ s ∷ higher)) (same_backing h stand.over.backing now.backing stand.over.leaves now.leaves) stand.known);
      },
      same,
    )
