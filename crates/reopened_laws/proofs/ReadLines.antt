-- That what the next opening reads can be read behind each line.
use Rattle.std.proofs.Common.{◌≡◌, ◌⊎◌, inl, inr, ℕ, List, [], ◌∷◌, ◌++◌, Bool, true, false, ◌&&◌, ◌||◌, not, is_some, Option, Some, None, Result, Ok, Err, refl, sym, ap, subst, ◌∙◌, append-nil, append_assoc}
use Rattle.row_types.specs.declared.rule.Rule.{Rule}
use Rattle.tier_base.specs.declared.number.TableId.{TableId}
use Rattle.row_types.specs.declared.declaration.TableDeclaration.{TableDeclaration}
use Rattle.table_defs.specs.Declarations.{resolved}
use Rattle.table_defs.specs.Names.{place_of_table}
use Rattle.table_defs.specs.declared.definition.TableDef.{TableDef}
use Rattle.table_state.specs.declared.history.Entry.{Entry}
use Rattle.table_state.specs.declared.history.Entry.TheVariants.{Definition}
use Rattle.table_state.specs.Histories.{no_tables, state_of}
use Rattle.table_state.specs.Tables.{TableState}
use Rattle.order_laws.proofs.CountLaws.{defs_of, schema_after}
use Rattle.order_laws.proofs.OrderLaws.{defs-append}
use Rattle.outside.specs.Bank.{Defines, TellsSchema}
use Rattle.outside.specs.declared.fault.BankError.{BankError}
use Rattle.outside.specs.declared.fault.BankError.TheVariants.{Failed, Memory}
use Rattle.sql_subset.specs.declared.request.ConsoleRequest.TheVariants as console
use Rattle.sql_subset.specs.declared.request.Line.{Line}
use Rattle.sql_subset.specs.declared.request.Line.TheVariants as says
use Rattle.cache_tier.specs.declared.reply.Note.{Note}
use Rattle.cache_tier.specs.declared.reply.Reply.{Reply}
use Rattle.cache_tier.specs.ConsoleSteps.{Asked, AsksSchema, Creates, CreatesTable, after_define, asks_schema, is_cached_name, table_fault, told, told_stop}
use Rattle.cache_tier.specs.DoubtSteps.{AsksRecorded, SettlesDoubt}
use Rattle.cache_tier.specs.DueWork.{DueAging, DueDoubt, DueRound, DueSets, DueSetsOf, DueWork, Item, ItemFollows, ThenItem, due_sets, is_round_due}
use Rattle.cache_tier.specs.Groups.{definitions_of}
use Rattle.cache_tier.specs.Rounds.{Round}
use Rattle.cache_tier.specs.Steps.{Answered, Does, GoesThrough, Heeds, Parts, Saying, Says, Silent, Step, TooDeep, TooLong, WrongAt, at_moment, early_fault}
use Rattle.cache_tier.specs.TierStates.{Doubt, Tier}
use Rattle.cache_tier.specs.Undone.{is_undone}
use Rattle.cache_tier.specs.Worlds.{BankCall, Follows, OnlyWhere, Tries, Unless, World}
use Rattle.reopened_laws.specs.Leaving.{HaveOwnTableNames}
use Rattle.reopened_laws.proofs.ReadTiers.{aging_rests, rests, settled_rests}
use Rattle.reopened_laws.proofs.ReadParts.{AllPrint, AllRead, IsFront, PartKeeps, Readable, StageKeeps, WayReads, bank, defs_others, either_keeps, front_then, of_tier, only_where_keeps, quiet, refuses_keeps, round_keeps, same, state_before, tiered, tries_keeps, unless_keeps, whole_front}
use Rattle.reopened_laws.proofs.ReadStatements.{RequestPrints, recorded_none, refreshes_if_shown_keeps, session_keeps, writes_all_keeps}
use Rattle.reopened_laws.proofs.ReadNames.{IsFreshName, fresh_of, own_more, taken_none}

-- ---- due work

abbrev ItemKeeps : Item → Type 0
ItemKeeps item = (w w' : World) (notes : List Note) (stop : Option Reply) → item w w' notes stop → Readable w → Readable w'

recorded_keeps : (d : Doubt) → ItemKeeps (AsksRecorded d)
recorded_keeps d w w' notes stop q r = bank w w' _ (recorded_none d.ticket q.result) (of_tier w.tier w'.tier _ q.tier (settled_rests d w'.history q.result w.tier)) q.call r

doubt_keeps : (o : Option Doubt) → ItemKeeps (SettlesDoubt o)
doubt_keeps None w w' notes stop q r = same w w' q.0 r
doubt_keeps (Some d) w w' notes stop q r = recorded_keeps d w w' notes stop q r

item_follows_keeps : (end : Option Reply) (item : Item) → ItemKeeps item → ItemKeeps (ItemFollows end item)
item_follows_keeps None item p w w' notes stop q r = p w w' notes stop q r
item_follows_keeps (Some end) item p w w' notes stop q r = same w w' q.0 r

then_item_keeps : (one other : Item) → ItemKeeps one → ItemKeeps other → ItemKeeps (ThenItem one other)
then_item_keeps one other p s w w' notes stop q r = item_follows_keeps q.end other s q.mid w' q.behind stop q.next (p w q.mid q.before q.end q.first r)

due_round_keeps : ItemKeeps DueRound
due_round_keeps w w' notes stop q r = only_where_keeps (is_round_due w.tier) Round round_keeps w w' q.end q.does r

due_sets_of_keeps : (intervals : List ℕ) → ItemKeeps (DueSetsOf intervals)
due_sets_of_keeps [] w w' notes stop q r = same w w' q.0 r
due_sets_of_keeps (interval ∷ more) w w' notes stop q r =
    then_item_keeps _ _ (λ w w' notes stop n r. refreshes_if_shown_keeps interval w w' n.end n.does r) (due_sets_of_keeps more) w w' notes stop q r

due_sets_keeps : ItemKeeps DueSets
due_sets_keeps w w' notes stop q r = due_sets_of_keeps (due_sets w.tier) w w' notes stop q r

due_aging_keeps : ItemKeeps DueAging
due_aging_keeps w w' notes stop q r = same _ w' q.0 (tiered w _ (aging_rests w.history w.tier) r)

due_doubt_keeps : ItemKeeps DueDoubt
due_doubt_keeps w w' notes stop q r = doubt_keeps w.tier.doubt w w' notes stop q r

due_work_keeps : ItemKeeps DueWork
due_work_keeps = then_item_keeps _ _ due_doubt_keeps (then_item_keeps _ _ due_round_keeps (then_item_keeps _ _ due_sets_keeps due_aging_keeps))

-- ---- the question for the schema

-- what stays where the schema is told, or a table made
record Grown (w w' : World) (own : List Entry) : Type 0 where
  journal : w'.journal ≡ w.journal
  groups : w'.tier.groups ≡ w.tier.groups
  more : List Entry
  is : w'.history ≡ w.history ++ more
  defs : defs_of w'.history ≡ defs_of w.history ++ defs_of own

grown_by : (w w' : World) (step : List Entry → List Entry → Type 0) (c : BankCall step w w') (own : List Entry) → w'.tier.groups ≡ w.tier.groups → c.history.middle ≡ (w.history ++ c.history.before) ++ own → Grown w w' own
grown_by w w' step c own groups middle =
    let a = c.history in
    record {
      journal = c.journal;
      groups = groups;
      more = a.before ++ (own ++ a.behind);
      is = a.is ∙ ap (λ x. x ++ a.behind) middle ∙ append_assoc (w.history ++ a.before) own a.behind ∙ append_assoc w.history a.before (own ++ a.behind);
      defs = ap defs_of a.is ∙ defs-append a.middle a.behind ∙ ap (λ l. defs_of a.middle ++ l) (defs_others w.shared a.middle a.behind a.came_behind) ∙ append-nil (defs_of a.middle)
          ∙ ap defs_of middle ∙ defs-append (w.history ++ a.before) own ∙ ap (λ l. l ++ defs_of own) (defs-append w.history a.before ∙ ap (λ l. defs_of w.history ++ l) (defs_others w.shared w.history a.before a.came_before) ∙ append-nil (defs_of w.history));
    }

-- the state before
was_there : (w w' : World) (own : List Entry) (g : Grown w w' own) (s : TableState) → state_of w'.history ≡ Some s → (m : TableState) × (state_of w.history ≡ Some m)
was_there w w' own g s leaves = state_before w.history w'.history g.more s g.is leaves

-- nothing is made
nothing_made : (w w' : World) → Grown w w' [] → w'.tier.schema ≡ w.tier.schema → w'.tier.stale ≡ w.tier.stale → Readable w → Readable w'
nothing_made w w' g schema stale r = record {
  flushed = subst (λ j. AllRead j.flushed) (sym g.journal) r.flushed;
  tail = subst (λ j. AllRead j.tail) (sym g.journal) r.tail;
  way = subst (λ j. WayReads j.way) (sym g.journal) r.way;
  groups = subst (λ gs. AllPrint (definitions_of gs)) (sym g.groups) r.groups;
  known = λ s leaves fresh. (let m = was_there w w' [] g s leaves in schema ∙ r.known m.0 m.1 (sym stale ∙ fresh) ∙ sym (g.defs ∙ append-nil (defs_of w.history)));
  own = λ s leaves. (let m = was_there w w' [] g s leaves in subst HaveOwnTableNames (sym (g.defs ∙ append-nil (defs_of w.history))) (r.own m.0 m.1));
  front = λ s leaves. (let m = was_there w w' [] g s leaves in front_then w.tier.schema w'.tier.schema w.history w'.history schema (g.defs ∙ append-nil (defs_of w.history)) (r.front m.0 m.1));
}

-- the schema with the table, or without it
front_made : (schema schema' : List TableDef) (def : TableDef) (h : List Entry) → defs_of h ≡ schema ++ def ∷ [] → (schema' ≡ schema ++ def ∷ []) ⊎ (schema' ≡ schema) → IsFront schema' h
front_made schema schema' def h defs (inl e) = whole_front schema' h (e ∙ sym defs)
front_made schema schema' def h defs (inr e) = record { more = def ∷ []; is = defs ∙ ap (λ l. l ++ def ∷ []) (sym e) }

-- a table is made, and the tier knows it, or knows that it doesn't
table_made : (w w' : World) (def : TableDef) → Grown w w' (Definition def ∷ []) → w.tier.stale ≡ false → IsFreshName def.name w.tier.schema → (w'.tier.stale ≡ false → w'.tier.schema ≡ w.tier.schema ++ def ∷ [])
    → (w'.tier.schema ≡ w.tier.schema ++ def ∷ []) ⊎ (w'.tier.schema ≡ w.tier.schema) → Readable w → Readable w'
table_made w w' def g fresh name schema either r = record {
  flushed = subst (λ j. AllRead j.flushed) (sym g.journal) r.flushed;
  tail = subst (λ j. AllRead j.tail) (sym g.journal) r.tail;
  way = subst (λ j. WayReads j.way) (sym g.journal) r.way;
  groups = subst (λ gs. AllPrint (definitions_of gs)) (sym g.groups) r.groups;
  known = λ s leaves still. (let m = was_there w w' (Definition def ∷ []) g s leaves in schema still ∙ ap (λ l. l ++ def ∷ []) (r.known m.0 m.1 fresh) ∙ sym g.defs);
  own = λ s leaves.
      (let m = was_there w w' (Definition def ∷ []) g s leaves in
      subst HaveOwnTableNames (sym g.defs) (own_more (defs_of w.history) def (r.own m.0 m.1) (subst (IsFreshName def.name) (r.known m.0 m.1 fresh) name)));
  front = λ s leaves.
      (let m = was_there w w' (Definition def ∷ []) g s leaves in
      front_made w.tier.schema w'.tier.schema def w'.history (g.defs ∙ ap (λ l. l ++ def ∷ []) (sym (r.known m.0 m.1 fresh))) either);
}

asked_keeps : StageKeeps Asked
asked_keeps w w' stop q r = by q.result q.call q.tier
  where
    by : (result : Result (List TableDef) BankError) → BankCall (TellsSchema result) w w' → w'.tier ≡ told result w.tier → Readable w'
    by (Err e) c tier = nothing_made w w' (grown_by w w' _ c [] (ap (λ (t : Tier). t.groups) tier) c.history.own) (ap (λ (t : Tier). t.schema) tier) (ap (λ (t : Tier). t.stale) tier) r
    by (Ok schema) c tier = record {
      flushed = subst (λ j. AllRead j.flushed) (sym g.journal) r.flushed;
      tail = subst (λ j. AllRead j.tail) (sym g.journal) r.tail;
      way = subst (λ j. WayReads j.way) (sym g.journal) r.way;
      groups = subst (λ gs. AllPrint (definitions_of gs)) (sym g.groups) r.groups;
      known = λ s leaves fresh. known s leaves;
      own = λ s leaves. (let m = was_there w w' [] g s leaves in subst HaveOwnTableNames (sym (g.defs ∙ append-nil (defs_of w.history))) (r.own m.0 m.1));
      front = λ s leaves. whole_front w'.tier.schema w'.history (known s leaves);
    }
      where
        known : (s : TableState) → state_of w'.history ≡ Some s → w'.tier.schema ≡ defs_of w'.history
        known s leaves =
            let m = state_before c.history.middle w'.history c.history.behind s c.history.is leaves in
            ap (λ (t : Tier). t.schema) tier ∙ c.history.own.1 m.0 m.1 ∙ schema_after c.history.middle no_tables m.0 m.1
            ∙ sym (ap defs_of c.history.is ∙ defs-append c.history.middle c.history.behind ∙ ap (λ l. defs_of c.history.middle ++ l) (defs_others w.shared c.history.middle c.history.behind c.history.came_behind) ∙ append-nil (defs_of c.history.middle))

        g : Grown w w' []
        g = grown_by w w' _ c [] (ap (λ (t : Tier). t.groups) tier) c.history.own.0

-- behind it the schema isn't stale
asked_fresh : (w w' : World) → Asked w w' None → w'.tier.stale ≡ false
asked_fresh w w' q = by q.result q.tier q.end
  where
    by : (result : Result (List TableDef) BankError) → w'.tier ≡ told result w.tier → None ≡ told_stop result → w'.tier.stale ≡ false
    by (Ok schema) tier end = ap (λ (t : Tier). t.stale) tier
    by (Err e) tier end = cc

asks_schema_keeps : (l : Line) → StageKeeps (AsksSchema l)
asks_schema_keeps l w w' stop q r = only_where_keeps (asks_schema w.tier l) Asked asked_keeps w w' stop q r

-- ---- CREATE TABLE

creates_keeps : (def : TableDef) (w w' : World) (reply : Reply) → w.tier.stale ≡ false → IsFreshName def.name w.tier.schema → Creates def w w' reply → Readable w → Readable w'
creates_keeps def w w' reply fresh name q r = by q.result q.call q.tier
  where
    by : (result : Result (Unit {0}) BankError) → BankCall (Defines def result) w w' → w'.tier ≡ after_define def result w.tier → Readable w'
    by (Ok done) c tier = table_made w w' def (grown_by w w' _ c (Definition def ∷ []) (ap (λ (t : Tier). t.groups) tier) c.history.own) fresh name (λ still. ap (λ (t : Tier). t.schema) tier) (inl (ap (λ (t : Tier). t.schema) tier)) r
    by (Err Memory) c tier = nothing_made w w' (grown_by w w' _ c [] (ap (λ (t : Tier). t.groups) tier) c.history.own) (ap (λ (t : Tier). t.schema) tier) (ap (λ (t : Tier). t.stale) tier) r
    by (Err Failed) c tier = failed c.history.own
      where
        stale : w'.tier.stale ≡ false → ⊥
        stale e = never (sym (ap (λ (t : Tier). t.stale) tier) ∙ e)
          where
            never : true ≡ false → ⊥
            never e = cc

        failed : (c.history.middle ≡ (w.history ++ c.history.before) ++ []) ⊎ (c.history.middle ≡ (w.history ++ c.history.before) ++ Definition def ∷ []) → Readable w'
        failed (inr grows) = table_made w w' def (grown_by w w' _ c (Definition def ∷ []) (ap (λ (t : Tier). t.groups) tier) grows) fresh name (λ still. absurd (stale still)) (inr (ap (λ (t : Tier). t.schema) tier)) r
        failed (inl grows) = unmade (grown_by w w' _ c [] (ap (λ (t : Tier). t.groups) tier) grows)
          where
            unmade : Grown w w' [] → Readable w'
            unmade g = record {
              flushed = subst (λ j. AllRead j.flushed) (sym g.journal) r.flushed;
              tail = subst (λ j. AllRead j.tail) (sym g.journal) r.tail;
              way = subst (λ j. WayReads j.way) (sym g.journal) r.way;
              groups = subst (λ gs. AllPrint (definitions_of gs)) (sym g.groups) r.groups;
              known = λ s leaves still. absurd (stale still);
              own = λ s leaves. (let m = was_there w w' [] g s leaves in subst HaveOwnTableNames (sym (g.defs ∙ append-nil (defs_of w.history))) (r.own m.0 m.1));
              front = λ s leaves. (let m = was_there w w' [] g s leaves in front_then w.tier.schema w'.tier.schema w.history w'.history (ap (λ (t : Tier). t.schema) tier) (g.defs ∙ append-nil (defs_of w.history)) (r.front m.0 m.1));
            }

-- the schema isn't stale, or the name is that of a table of a group
abbrev MayMake : TableDeclaration → Tier → Type 0
MayMake d t = (t.stale ≡ false) ⊎ (is_cached_name t d.name ≡ true)

fresh_where : (d : TableDeclaration) (t : Tier) → MayMake d t → table_fault t d ≡ None → t.stale ≡ false
fresh_where d t (inl e) none = e
fresh_where d t (inr e) none = absurd (by (place_of_table t.schema d.name) refl (taken_none t d none))
  where
    by : (o : Option TableId) → place_of_table t.schema d.name ≡ o → is_some (place_of_table t.schema d.name) ≡ false → ⊥
    by None is none = never (sym (uncached is) ∙ e)
      where
        uncached : place_of_table t.schema d.name ≡ None → is_cached_name t d.name ≡ false
        uncached is = rw is refl

        never : false ≡ true → ⊥
        never e = cc
    by (Some place) is none = never (sym (ap is_some is) ∙ none)
      where
        never : true ≡ false → ⊥
        never e = cc

creates_table_keeps : (d : TableDeclaration) (w w' : World) (reply : Reply) → MayMake d w.tier → CreatesTable d w w' reply → Readable w → Readable w'
creates_table_keeps d w w' reply may q r = by (table_fault w.tier d) refl q
  where
    by : (o : Option Rule) → table_fault w.tier d ≡ o → Unless o (Creates (resolved d w.tier.schema)) w w' reply → Readable w'
    by (Some rule) e q = same w w' q.0 r
    by None e q = creates_keeps (resolved d w.tier.schema) w w' reply (fresh_where d w.tier may e) (fresh_of w.tier d e) q r

-- ---- lines

-- what is asked of a world in which a line is done
abbrev LineMay : Line → Tier → Type 0
LineMay (says.Console (console.CreateTable d)) t = MayMake d t
LineMay (says.Console (console.Writes writes)) t = Unit {0}
LineMay (says.Session label request) t = Unit {0}
LineMay (says.Clock ms) t = Unit {0}

-- the definition of a group prints, where the line has one
abbrev pub LinePrints : Line → Type 0
LinePrints (says.Session label request) = RequestPrints request
LinePrints (says.Console request) = Unit {0}
LinePrints (says.Clock ms) = Unit {0}

does_keeps : (l : Line) → LinePrints l → (w w' : World) (reply : Reply) → LineMay l w.tier → Does l w w' reply → Readable w → Readable w'
does_keeps (says.Session label request) p w w' reply may q r = session_keeps label _ request p w w' reply q r
does_keeps (says.Console (console.CreateTable d)) p w w' reply may q r = creates_table_keeps d w w' reply may q r
does_keeps (says.Console (console.Writes writes)) p w w' reply may q r = unless_keeps _ _ (writes_all_keeps writes) w w' reply q r
does_keeps (says.Clock ms) p w w' reply may q r = quiet _ w w' reply (rests w.tier) q r

-- behind the question
asked_may : (l : Line) (w w' : World) → AsksSchema l w w' None → LineMay l w'.tier
asked_may (says.Session label request) w w' q = tt
asked_may (says.Clock ms) w w' q = tt
asked_may (says.Console (console.Writes writes)) w w' q = tt
asked_may (says.Console (console.CreateTable d)) w w' q = by (asks_schema w.tier (says.Console (console.CreateTable d))) refl q
  where
    known : (stale cached rest : Bool) → (stale && (not cached || rest)) ≡ false → (stale ≡ false) ⊎ (cached ≡ true)
    known false cached rest e = inl refl
    known true true rest e = inr refl
    known true false rest e = cc

    by : (b : Bool) → asks_schema w.tier (says.Console (console.CreateTable d)) ≡ b → OnlyWhere b Asked w w' None → MayMake d w'.tier
    by true e q = inl (asked_fresh w w' q)
    by false e q = subst (λ (x : World). MayMake d x.tier) (sym q.0) (known w.tier.stale (is_cached_name w.tier d.name) _ e)

goes_through_keeps : (o : Option Reply) (l : Line) → LinePrints l → PartKeeps (GoesThrough o l)
goes_through_keeps (Some stop) l p w w' reply q r = same w w' q.0 r
goes_through_keeps None l p w w' reply (inr q) r = same w w' q.0 r
goes_through_keeps None l p w w' reply (inl q) r = by q.stop q.first q.next
  where
    mid : Readable q.mid
    mid = asks_schema_keeps l w q.mid q.stop q.first r

    by : (stop : Option Reply) → AsksSchema l w q.mid stop → Follows stop (Tries (Does l)) q.mid w' reply → Readable w'
    by (Some stop) first next = same q.mid w' next.0 mid
    by None first (inl next) = does_keeps l p q.mid w' reply (asked_may l w q.mid first) next mid
    by None first (inr next) = same q.mid w' next.0 mid

parts_keeps : (base : ℕ) (l : Line) → LinePrints l → PartKeeps (Parts base l)
parts_keeps base l p w w' reply q r =
    goes_through_keeps q.stop l p q.due w' q.last q.does
    (due_work_keeps _ q.due q.notes q.stop q.works (tiered w (at_moment base l w.tier) (record { defs = refl; schema = refl; stale = refl }) r))

answered_keeps : (base : ℕ) (l : Line) → LinePrints l → PartKeeps (Answered base l)
answered_keeps base l p w w' reply (inl q) r = unless_keeps (early_fault base l w.tier) _ (parts_keeps base l p) w w' reply q r
answered_keeps base l p w w' reply (inr q) r = same w w' q.0 r

-- what is said has a definition that prints, where it has one
abbrev pub SaidPrints : Saying → Type 0
SaidPrints (Says l) = LinePrints l
SaidPrints Silent = Unit {0}
SaidPrints (WrongAt place) = Unit {0}
SaidPrints TooDeep = Unit {0}
SaidPrints TooLong = Unit {0}

pub heeds_keeps : (base : ℕ) (said : Saying) → SaidPrints said → PartKeeps (Heeds base said)
heeds_keeps base Silent p w w' reply q r = absurd q
heeds_keeps base (Says l) p w w' reply q r =
    either_keeps (is_undone l) (λ undone. tries_keeps _ (refuses_keeps _) w w' reply undone r) (λ does. answered_keeps base l p w w' reply does r) q
heeds_keeps base (WrongAt place) p w w' reply q r = tries_keeps _ (refuses_keeps _) w w' reply q r
heeds_keeps base TooDeep p w w' reply q r = tries_keeps _ (refuses_keeps _) w w' reply q r
heeds_keeps base TooLong p w w' reply q r = refuses_keeps _ w w' reply q r

pub step_keeps : (base : ℕ) (w w' : World) (said : Saying) (reply : Option Reply) → SaidPrints said → Step base w said w' reply → Readable w → Readable w'
step_keeps base w w' said None p q r = same w w' q.1 r
step_keeps base w w' said (Some reply) p q r = heeds_keeps base said p w w' reply q.1 r
