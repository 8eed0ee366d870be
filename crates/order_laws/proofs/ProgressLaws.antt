-- The events, in the words of the contracts.
use Rattle.std.proofs.Common.{◌≡◌, ℕ, ◌≤◌, true, is_some, List, [], ◌∷◌, ◌++◌, sym, ap, subst, ◌∙◌}
use Rattle.std.specs.Option.{option_and_then}
use Rattle.table_state.specs.table_defs.specs.declared.definition.TableDef.{TableDef}
use Rattle.table_state.specs.declared.history.Entry.{Entry}
use Rattle.table_state.specs.declared.history.Entry.TheVariants.{Definition, Foreign}
use Rattle.table_state.specs.declared.history.Sealed.{Sealed}
use Rattle.table_state.specs.declared.operation.Op.{Op}
use Rattle.table_state.specs.Histories.{entry_of, has_ticket}
use Rattle.table_state.specs.Independence.{with_new}
use Rattle.table_state.specs.Operations.{applied_all}
use Rattle.table_state.specs.Tables.{TableState}
use Rattle.order_laws.specs.Commits.{IsInLog, LiveGroup, applied_sealed, is_pending, pending}
use Rattle.order_laws.specs.Standing.{HasGroupOrders, HasGroup, PendingIsLive, Progress, Stand, StandOver, StandsAs, StandsWithLive, progress_of}
use Rattle.order_laws.specs.Steps.{AreOfOthers, ComesNext, IsRound, JoinsNone, LeavesLog, MayBegin, MayComeAtOnce, MayCommit, MayDefine, MayLeave, MeetsNone}
use Rattle.order_laws.specs.Steps.{after_coming, after_committing, after_entries, at_begin, with_live_group, longer_by, with_next, without_live_group, without_one}
use Rattle.order_laws.proofs.EffectLaws.{past_apart}
use Rattle.order_laws.proofs.GroupLaws.{backing_is_order, virtual_is_order}
use Rattle.order_laws.proofs.WholeLaws.{stand_at_once, stand_begins, stand_comes, stand_commits, stand_dropped, stand_group, stand_leaves, stand_loses, stand_others, stand_round, stand_skips, stand_table}
use Rattle.order_laws.proofs.TruthLaws.{untrue}

pub begins : (history : List Entry) (next : ℕ) → MayBegin history next → Stand (at_begin history next)
begins history next may = stand_begins history next may.state may.leaves may.once may.first may.below

pub virtual_in_groups : (p : Progress) (over : StandOver p) → HasGroupOrders p over.virtual
virtual_in_groups p over g one = let (o, o_is, agree) = virtual_is_order p.groups p.history p.log p.next over g one in record { ordered = o; leaves = o_is; agree = agree }

pub backing_in_groups : (p : Progress) (over : StandOver p) → pending p.history p.log ≡ [] → HasGroupOrders p over.backing
backing_in_groups p over none g one = let (o, o_is, agree) = backing_is_order p.groups p.history p.log p.next over none g one in record { ordered = o; leaves = o_is; agree = agree }

pub commits : (p : Progress) (stand : Stand p) (s : Sealed) (v : TableState) → MayCommit p stand.over s v → StandsAs (after_committing p s) v
commits p stand s v may = let (now, same) = stand_commits p.groups p.history p.log p.next stand s v may.ticket may.leads may.live in record { stand = now; same = same }

pub comes_at_once : (p : Progress) (stand : Stand p) (s : Sealed) (v : TableState) → MayComeAtOnce p stand.over s v → StandsAs (after_coming p s) v
comes_at_once p stand s v may = let (now, same) = stand_at_once p.groups p.history p.log p.next stand s v may.ticket may.meets may.leads in record { stand = now; same = same }

pub applies_in_both : (p : Progress) (over : StandOver p) (s : Sealed) → MeetsNone p over s → is_some (applied_all s.ops over.virtual) ≡ is_some (applied_all s.ops over.backing)
applies_in_both p over s meets =
    (past_apart (pending p.history p.log) s over.backing meets).applies over.virtual (sym (ap (option_and_then (applied_sealed (pending p.history p.log))) over.leaves) ∙ over.virtual_is)

pub comes : (p : Progress) (stand : Stand p) (s : Sealed) → ComesNext p stand.over s → StandsAs (after_entries p (entry_of s ∷ [])) stand.over.virtual
comes p stand s may = let (now, same) = stand_comes p.groups p.history p.log p.next stand s may in record { stand = now; same = same }

pub others_come : (p : Progress) (stand : Stand p) (ops : List Op) → AreOfOthers p stand.over ops → StandsWithLive (after_entries p (Foreign ops ∷ [])) stand.over.virtual
others_come p stand ops are = stand_others p.groups p.history p.log p.next stand ops are.backing are.leads are.off

pub round_comes : (p : Progress) (stand : Stand p) (entries : List Entry) → IsRound p stand.over entries → StandsWithLive (after_entries p entries) stand.over.virtual
round_comes p stand entries round = stand_round p.groups entries p.history p.log p.next stand round.state round.leaves round.kinds round.legal

pub table_comes : (p : Progress) (stand : Stand p) (def : TableDef) → JoinsNone p stand.over def → StandsAs (after_entries p (Definition def ∷ [])) (with_new def stand.over.virtual)
table_comes p stand def joins = let (now, same) = stand_table p.groups p.history p.log p.next stand def joins in record { stand = now; same = same }

pub group_comes : (p : Progress) (stand : Stand p) (g : LiveGroup) → MayDefine p stand.over g → Stand (with_live_group p g)
group_comes p stand g may = stand_group p.groups p.history p.log p.next stand g may.closed may.first may.untouched

pub group_goes : (p : Progress) (g : LiveGroup) (one : HasGroup p.groups g) → Stand p → PendingIsLive (one.before ++ one.behind) p.history p.log → Stand (without_live_group p g one)
group_goes p g one stand live =
    stand_dropped one.before g one.behind p.history p.log p.next (subst (λ (l : List LiveGroup). Stand (progress_of l p.history p.log p.next)) one.is stand) live

pub last_goes : (p : Progress) (s : Sealed) → is_pending p.history s ≡ true → Stand (longer_by p s) → Stand p
last_goes p s pends stand = stand_loses p.groups p.history p.log s p.next (untrue (has_ticket s.ticket.0 p.history) pends) stand

pub ticket_goes : (p : Progress) (later : ℕ) → p.next ≤ later → Stand p → Stand (with_next p later)
ticket_goes p later le stand = stand_skips p.groups p.history p.log p.next later le stand

-- what leaving says of a log in which the transaction stands between these
abbrev Leaves : Progress → List Sealed → Sealed → List Sealed → List Sealed → Type 0
Leaves p lower s higher log =
    (stand : Stand (progress_of p.groups p.history log p.next)) → MayLeave p.groups stand.over.backing.schema p.history lower s higher
    → StandsAs (progress_of p.groups p.history (lower ++ higher) p.next) stand.over.virtual

leaves_between : (p : Progress) (lower : List Sealed) (s : Sealed) (higher : List Sealed) → Leaves p lower s higher (lower ++ s ∷ higher)
leaves_between p lower s higher stand may = let (now, same) = stand_leaves p.groups p.history lower s higher p.next stand may in record { stand = now; same = same }

pub one_leaves : (p : Progress) (stand : Stand p) (s : Sealed) (one : IsInLog p.log s) → LeavesLog p stand.over s one → StandsAs (without_one p s one) stand.over.virtual
one_leaves p stand s one may = subst (Leaves p one.before s one.behind) (sym one.is) (leaves_between p one.before s one.behind) stand may
