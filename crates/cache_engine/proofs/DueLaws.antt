-- What the work that is due keeps: which sessions are open, the definitions of the groups, and which tables others change.
use Rattle.std.proofs.Common.{◌≡◌, ◌∙◌, ℕ, suc, Bool, true, false, cond, Option, Some, None, List, [], ◌∷◌, Result, Ok, Err, ◌&&◌, ◌||◌, map, refl, sym, ap, inl, inr}
use Rattle.tier_base.specs.declared.number.TableId.{TableId}
use Rattle.table_state.specs.declared.history.Entry.{Entry}
use Rattle.table_defs.specs.declared.definition.TableDef.{TableDef}
use Rattle.table_state.specs.declared.history.Sealed.{Sealed}
use Rattle.table_state.specs.declared.operation.Op.{Op}
use Rattle.table_state.specs.Tables.{TableState}
use Rattle.outside.specs.Others.{is_shared}
use Rattle.outside.specs.declared.fault.BankError.{BankError}
use Rattle.sql_subset.specs.declared.request.Line.{Line}
use Rattle.cache_tier.specs.declared.group.AgingRule.{AgingRule}
use Rattle.cache_tier.specs.declared.group.AgingRule.TheVariants.{ByTime, LastUse}
use Rattle.cache_tier.specs.declared.reply.Note.{Note}
use Rattle.cache_tier.specs.declared.reply.Note.TheVariants.{Refresh}
use Rattle.cache_tier.specs.declared.reply.Reply.{Reply}
use Rattle.cache_tier.specs.Aging.{after_aging, aged, aged_rule, is_aging_due}
use Rattle.cache_tier.specs.ConsoleSteps.{Asked, AsksSchema, asks_schema, told}
use Rattle.cache_tier.specs.DoubtSteps.{SettlesDoubt, settled, settled_committed, settled_rolled_back, stood}
use Rattle.cache_tier.specs.Recency.{with_commit}
use Rattle.cache_tier.specs.Shown.{no_rows}
use Rattle.cache_tier.specs.DueWork.{DueAging, DueRound, DueSets, DueSetsOf, DueWork, Item, ItemFollows, Noted, ThenItem, due_sets, is_round_due}
use Rattle.cache_tier.specs.Groups.{Group, covers, definitions_of, is_table_of, is_writethrough}
use Rattle.cache_tier.specs.JournalSteps.{Flushes, FlushesKept}
use Rattle.cache_tier.specs.Reading.{StageFollowsAt, backing_at}
use Rattle.cache_tier.specs.Rotations.{Rotates, RotatesIfLong, is_long}
use Rattle.cache_tier.specs.Rounds.{Applies, AppliesAndRotates, Round}
use Rattle.cache_tier.specs.Sets.{Choice, RefreshesIfShown, RefreshesSet, at_position, changed_from, of_set, refreshed, shows_something}
use Rattle.cache_tier.specs.TierStates.{ACommit, APassedWrite, Doubt, Doubted, Session, Tier, at_rest, is_labelled, refresh_tried}
use Rattle.cache_tier.specs.Worlds.{Becomes, IsUnshared, OnlyWhere, Stage, StageFollows, World}

-- the labels of sessions
abbrev pub labels_of : List Session → List (List ℕ)
labels_of sessions = map (λ s. s.label) sessions

-- which sessions are open, the definitions of the groups, and the tables that others change stay
pub record KeepsWho (w w' : World) : Type 0 where
  pub sessions : labels_of w'.tier.sessions ≡ labels_of w.tier.sessions
  pub groups : definitions_of w'.tier.groups ≡ definitions_of w.tier.groups
  pub shared : w'.shared ≡ w.shared

pub who_on : (a b c : World) → KeepsWho a b → KeepsWho b c → KeepsWho a c
who_on a b c p q = record { sessions = q.sessions ∙ p.sessions; groups = q.groups ∙ p.groups; shared = q.shared ∙ p.shared }

who_same : (w w' : World) → w' ≡ w → KeepsWho w w'
who_same w w' e = record { sessions = ap (λ x. labels_of x.tier.sessions) e; groups = ap (λ x. definitions_of x.tier.groups) e; shared = ap (λ x. x.shared) e }

-- where the tier is changed so
who_tier : (w w' : World) (t : Tier) → w'.tier ≡ t → w'.shared ≡ w.shared → labels_of t.sessions ≡ labels_of w.tier.sessions → definitions_of t.groups ≡ definitions_of w.tier.groups → KeepsWho w w'
who_tier w w' t e shared sessions groups = record { sessions = ap (λ (x : Tier). labels_of x.sessions) e ∙ sessions; groups = ap (λ (x : Tier). definitions_of x.groups) e ∙ groups; shared = shared }

abbrev StageKeeps : Stage → Type 0
StageKeeps stage = (w w' : World) (stop : Option Reply) → stage w w' stop → KeepsWho w w'

abbrev ItemKeeps : Item → Type 0
ItemKeeps item = (w w' : World) (notes : List Note) (stop : Option Reply) → item w w' notes stop → KeepsWho w w'

-- where it is wanted
where_keeps : (stage : Stage) (w w' : World) (stop : Option Reply) → StageKeeps stage → (wanted : Bool) → OnlyWhere wanted stage w w' stop → KeepsWho w w'
where_keeps stage w w' stop keeps true p = keeps w w' stop p
where_keeps stage w w' stop keeps false p = who_same w w' p.0

-- the definitions behind a change of chosen groups
changed_defs : (chosen : Choice) (change : Group → Group) → ((g : Group) → (change g).def ≡ g.def) → (place : ℕ) (gs : List Group) → definitions_of (changed_from chosen change place gs) ≡ definitions_of gs
changed_defs chosen change same place [] = refl
changed_defs chosen change same place (g ∷ gs) =
    ap (λ d. d ∷ definitions_of (changed_from chosen change (suc place) gs)) (by (chosen place g))
    ∙ ap (λ ds. g.def ∷ ds) (changed_defs chosen change same (suc place) gs)
  where
    by : (b : Bool) → (cond b (change g) g).def ≡ g.def
    by true = same g
    by false = refl

mapped_defs : (change : Group → Group) → ((g : Group) → (change g).def ≡ g.def) → (gs : List Group) → definitions_of (map change gs) ≡ definitions_of gs
mapped_defs change same [] = refl
mapped_defs change same (g ∷ gs) = ap (λ d. d ∷ definitions_of (map change gs)) (same g) ∙ ap (λ ds. g.def ∷ ds) (mapped_defs change same gs)

cond_def : (b : Bool) (g h k : Group) → h.def ≡ g.def → k.def ≡ g.def → (cond b h k).def ≡ g.def
cond_def true g h k p q = p
cond_def false g h k p q = q

-- aging
rule_def : (history : List Entry) (t : Tier) (rule : Option AgingRule) (g : Group) → (aged_rule history t rule g).def ≡ g.def
rule_def history t None g = refl
rule_def history t (Some LastUse) g = refl
rule_def history t (Some (ByTime rule)) g = cond_def _ g _ _ refl refl

aging_defs : (history : List Entry) (t : Tier) → definitions_of (after_aging history t).groups ≡ definitions_of t.groups
aging_defs history t =
    mapped_defs (λ g. cond (is_aging_due t g) (aged history t g) g)
    (λ g. cond_def (is_aging_due t g) g (aged history t g) g (rule_def history t g.def.aging g) refl) t.groups

aging_keeps : ItemKeeps DueAging
aging_keeps w w' notes stop p =
    who_on w (record w { tier = after_aging w.history w.tier }) w'
    (record { sessions = refl; groups = aging_defs w.history w.tier; shared = refl }) (who_same _ w' p.0)

-- a round
flush_keeps : StageKeeps (Flushes [])
flush_keeps w w' stop p =
    where_keeps (FlushesKept []) w w' stop (λ a b end f. who_tier a b a.tier f.tier f.shared refl refl) w.journal.kept p

apply_keeps : StageKeeps Applies
apply_keeps w w' stop a = who_tier w w' _ a.tier a.shared refl refl

rotate_keeps : StageKeeps RotatesIfLong
rotate_keeps w w' stop p =
    where_keeps Rotates w w' stop (λ a b end r. who_tier a b a.tier r.tier r.shared refl refl) (is_long w) p

both_keep : StageKeeps AppliesAndRotates
both_keep w w' stop p = who_on w p.mid w' (apply_keeps w p.mid p.applied p.applies) (rotate_keeps p.mid w' p.turned p.rotates)

follows_keep : (stage : Stage) → StageKeeps stage → (stop : Option Reply) (w w' : World) (end : Option Reply) → StageFollows stop stage w w' end → KeepsWho w w'
follows_keep stage keeps None w w' end p = keeps w w' end p
follows_keep stage keeps (Some stop) w w' end p = who_same w w' p.0

round_keeps : StageKeeps Round
round_keeps w w' stop p = who_on w p.mid w' (flush_keeps w p.mid p.stop p.first) (follows_keep AppliesAndRotates both_keep p.stop p.mid w' stop p.next)

-- a refresh of a set
becomes_keep : (change : World → Tier) (w w' : World) (stop : Option Reply) → labels_of (change w).sessions ≡ labels_of w.tier.sessions → definitions_of (change w).groups ≡ definitions_of w.tier.groups → Becomes change w w' stop → KeepsWho w w'
becomes_keep change w w' stop sessions groups p =
    who_on w (record w { tier = change w }) w' (record { sessions = sessions; groups = groups; shared = refl }) (who_same _ w' p.0)

read_keeps : (interval : ℕ) (result : Result ℕ BankError) (w w' : World) (stop : Option Reply) → StageFollowsAt result (λ n. Becomes (λ x. refreshed (of_set interval None) n (backing_at x n) x.tier)) w w' stop → KeepsWho w w'
read_keeps interval (Err e) w w' stop p = who_same w w' p.0
read_keeps interval (Ok n) w w' stop (inl p) =
    becomes_keep (λ x. refreshed (of_set interval None) n (backing_at x n) x.tier) w w' stop refl
    (changed_defs (of_set interval None) (at_position n (backing_at w n)) (λ g. refl) 0 w.tier.groups) p
read_keeps interval (Ok n) w w' stop (inr p) = who_same w w' p.0

set_keeps : (interval : ℕ) → StageKeeps (RefreshesSet interval)
set_keeps interval w w' stop p =
    who_on w p.mid w' (who_tier w p.mid (refresh_tried interval w.tier) p.tier (p.call).shared refl refl)
    (read_keeps interval p.result p.mid w' stop p.goes_on)

shown_keeps : (interval : ℕ) → StageKeeps (RefreshesIfShown interval)
shown_keeps interval w w' stop p =
    where_keeps (RefreshesSet interval) w w' stop (set_keeps interval) (shows_something interval w.tier.groups) p

-- items, one after the other
item_follows : (item : Item) → ItemKeeps item → (end : Option Reply) (w w' : World) (notes : List Note) (stop : Option Reply) → ItemFollows end item w w' notes stop → KeepsWho w w'
item_follows item keeps None w w' notes stop p = keeps w w' notes stop p
item_follows item keeps (Some end) w w' notes stop p = who_same w w' p.0

then_keeps : (one other : Item) → ItemKeeps one → ItemKeeps other → ItemKeeps (ThenItem one other)
then_keeps one other first second w w' notes stop p =
    who_on w p.mid w' (first w p.mid p.before p.end p.first) (item_follows other second p.end p.mid w' p.behind stop p.next)

sets_keep : (intervals : List ℕ) → ItemKeeps (DueSetsOf intervals)
sets_keep [] w w' notes stop p = who_same w w' p.0
sets_keep (interval ∷ more) w w' notes stop p =
    then_keeps (Noted (λ c. Refresh c interval) (RefreshesIfShown interval)) (DueSetsOf more)
    (λ a b told end q. shown_keeps interval a b q.end q.does) (sets_keep more) w w' notes stop p

due_round_keeps : ItemKeeps DueRound
due_round_keeps w w' notes stop p = where_keeps Round w w' p.end round_keeps (is_round_due w.tier) p.does

rest_keeps : ItemKeeps (ThenItem DueRound (ThenItem DueSets DueAging))
rest_keeps =
    then_keeps DueRound (ThenItem DueSets DueAging) due_round_keeps
    (then_keeps DueSets DueAging (λ w w' notes stop p. sets_keep (due_sets w.tier) w w' notes stop p) aging_keeps)

-- a doubt

rested_labels : (label : List ℕ) (ss : List Session) → labels_of (map (λ s. cond (is_labelled label s) (at_rest s) s) ss) ≡ labels_of ss
rested_labels label [] = refl
rested_labels label (s ∷ ss) = ap (λ l. l ∷ labels_of (map (λ s. cond (is_labelled label s) (at_rest s) s) ss)) (by (is_labelled label s)) ∙ ap (λ ls. s.label ∷ ls) (rested_labels label ss)
  where
    by : (b : Bool) → (cond b (at_rest s) s).label ≡ s.label
    by true = refl
    by false = refl

commit_def : (rows : TableState) (ops : List Op) (g : Group) → (with_commit rows ops g).def ≡ g.def
commit_def rows ops g = cond_def (is_writethrough g) g _ _ refl refl

committed_keeps : (of : Doubted) (x : Sealed) (label : List ℕ) (w w' : World) → w'.tier ≡ settled_committed of x label w.tier → w'.shared ≡ w.shared → KeepsWho w w'
committed_keeps ACommit x label w w' e shared =
    who_tier w w' (settled_committed ACommit x label w.tier) e shared (rested_labels label w.tier.sessions)
    (mapped_defs (with_commit (no_rows w.tier) x.ops) (commit_def (no_rows w.tier) x.ops) w.tier.groups)
committed_keeps APassedWrite x label w w' e shared = who_tier w w' (settled_committed APassedWrite x label w.tier) e shared refl refl

rolled_back_keeps : (of : Doubted) (label : List ℕ) (w w' : World) → w'.tier ≡ settled_rolled_back of label w.tier → w'.shared ≡ w.shared → KeepsWho w w'
rolled_back_keeps ACommit label w w' e shared =
    who_tier w w' (settled_rolled_back ACommit label w.tier) e shared (rested_labels label w.tier.sessions) refl
rolled_back_keeps APassedWrite label w w' e shared = who_tier w w' (settled_rolled_back APassedWrite label w.tier) e shared refl refl

pub doubt_keeps : (d : Option Doubt) (w w' : World) (notes : List Note) (stop : Option Reply) → SettlesDoubt d w w' notes stop → KeepsWho w w'
doubt_keeps None w w' notes stop p = who_same w w' p.0
doubt_keeps (Some d) w w' notes stop p = by p.result p.tier
  where
    by : (result : Result Bool BankError) → w'.tier ≡ settled d w'.history result w.tier → KeepsWho w w'
    by (Ok true) tier = committed_keeps d.of (stood d w'.history) d.session w w' tier (p.call).shared
    by (Ok false) tier = rolled_back_keeps d.of d.session w w' tier (p.call).shared
    by (Err e) tier = who_tier w w' w.tier tier (p.call).shared refl refl

-- all that is due
pub due_keeps : (w w' : World) (notes : List Note) (stop : Option Reply) → DueWork w w' notes stop → KeepsWho w w'
due_keeps w w' notes stop p =
    who_on w p.mid w' (doubt_keeps w.tier.doubt w p.mid p.before p.end p.first)
    (item_follows (ThenItem DueRound (ThenItem DueSets DueAging)) rest_keeps p.end p.mid w' p.behind stop p.next)

-- the question for the schema
told_keeps : (result : Result (List TableDef) BankError) (w w' : World) → w'.tier ≡ told result w.tier → w'.shared ≡ w.shared → KeepsWho w w'
told_keeps (Ok schema) w w' e shared = who_tier w w' _ e shared refl refl
told_keeps (Err error) w w' e shared = who_tier w w' _ e shared refl refl

pub asked_keeps : (l : Line) (w w' : World) (stop : Option Reply) → AsksSchema l w w' stop → KeepsWho w w'
asked_keeps l w w' stop p =
    where_keeps Asked w w' stop (λ a b end q. told_keeps q.result a b q.tier (q.call).shared) (asks_schema w.tier l) p

-- which tables are of writethrough groups is told by the definitions
same_live : (t : TableId) (gs hs : List Group) → definitions_of hs ≡ definitions_of gs → is_table_of is_writethrough hs t ≡ is_table_of is_writethrough gs t
same_live t [] [] e = refl
same_live t [] (h ∷ hs) e = absurd (Prim.cc e)
same_live t (g ∷ gs) [] e = absurd (Prim.cc e)
same_live t (g ∷ gs) (h ∷ hs) e =
    let first : h.def ≡ g.def = Prim.cc e in
    let rest : definitions_of hs ≡ definitions_of gs = Prim.cc e in
    λ i. (is_writethrough (record h { def = first i }) && covers t (record h { def = first i })) || same_live t gs hs rest i

pub still_unshared : (w w' : World) → KeepsWho w w' → IsUnshared w → IsUnshared w'
still_unshared w w' keeps unshared = λ t shared.
    same_live t w.tier.groups w'.tier.groups keeps.groups ∙ unshared t (ap (λ tables. is_shared tables t) (sym keeps.shared) ∙ shared)
