-- CREATE TABLE at the bank.
use Rattle.std.proofs.Common.{◌≡◌, ℕ, Bool, true, false, cond, Option, Some, None, List, [], ◌∷◌, ◌++◌, refl, sym, ap, ◌∙◌, subst, inl, inr}
use Rattle.std.specs.Prelude.{Result, Ok, Err}
use Rattle.std.specs.Option.{option_map, option_or}
use Rattle.tier_base.specs.declared.code.Code.TheVariants as code
use Rattle.row_types.specs.declared.declaration.ForeignKeyDeclaration.{ForeignKeyDeclaration}
use Rattle.row_types.specs.declared.declaration.TableDeclaration.{TableDeclaration}
use Rattle.row_types.specs.declared.rule.Rule.{Rule}
use Rattle.row_types.specs.declared.rule.Refused.{Refused}
use Rattle.row_types.specs.declared.rule.Refused.TheVariants as refused
use Rattle.table_defs.specs.Declarations.{Tells, broken_at, fault_of, limit_of, resolved, resolved_reference}
use Rattle.table_defs.specs.declared.definition.TableDef.{TableDef}
use Rattle.table_state.specs.declared.history.Entry.{Entry}
use Rattle.table_state.specs.declared.history.Entry.TheVariants.{Definition}
use Rattle.outside.specs.Bank.{Defines}
use Rattle.outside.specs.Calls as site
use Rattle.outside.specs.Faults.{Rose}
use Rattle.outside.specs.Others.{AreOthers}
use Rattle.outside.specs.declared.fault.BankError.{BankError}
use Rattle.outside.specs.declared.fault.BankError.TheVariants.{Failed, Memory}
use Rattle.cache_tier.specs.ConsoleSteps.{Creates, CreatesTable, define_reply, refers_to_writethrough, table_fault}
use Rattle.cache_tier.specs.Rules.{past}
use Rattle.cache_tier.specs.Steps.{tells}
use Rattle.cache_tier.specs.TierStates.{Tier}
use Rattle.cache_tier.specs.Worlds.{IsUnshared, Tries, Unless, World, faulty, only}
use Rattle.cache_tier.specs.declared.reply.Last.TheVariants.{Done, No}
use Rattle.cache_tier.specs.declared.reply.Reply.{Reply}
use Rattle.cache_tier.specs.Defining.{ShowsTable, with_tables}
use Rattle.cache_tier.specs.Events.{StaysShown, at_history, with_tier}
use Rattle.cache_tier.specs.StandingBetween.{Stands}
use Rattle.stored_tier.specs.declared.tier.Tier.{Tier as Stored}
use Rattle.cache_engine.specs.Growing.{Learns}
use Rattle.stored_tier.specs.Performing.{IsCaused, Performs, reply_of}
use Rattle.outside.specs.Sites.{SiteState}
use Rattle.stored_tier.specs.Stored.{IsSound, IsStoredAs, rows_of}
use Rattle.cache_engine.proofs.AskingLaws.{AroundLaw, CalledAt, hidden_learned}
use Rattle.stored_tier.proofs.BankLaws.{behind, call_behind, told_behind}
use Rattle.stored_tier.proofs.HiddenRows.{hides_later, hides_then}
use Rattle.stored_tier.proofs.LongerLaws.{around_longer, defines_longer}
use Rattle.stored_tier.proofs.StandingLaws.{performed_behind, performed_here, slots_kept}

-- a table without fault refers to no table of a writethrough group

no_parent : (b : Bool) (f : ForeignKeyDeclaration) (rest : Option Rule) → option_or (cond b (broken_at code.WritethroughTable (Some f.parent)) None) rest ≡ None → b ≡ false
no_parent true f rest none = cc
no_parent false f rest none = refl

pub none_behind : (one other : Option Rule) → option_or one other ≡ None → other ≡ None
none_behind None other none = none
none_behind (Some rule) other none = cc

pub refers_not : (a : Tier) (d : TableDeclaration) → table_fault a d ≡ None → refers_to_writethrough a (resolved d a.schema).foreign_key ≡ false
refers_not a d none = by d.foreign_key refl
  where
    by : (o : Option ForeignKeyDeclaration) → d.foreign_key ≡ o → refers_to_writethrough a (resolved d a.schema).foreign_key ≡ false
    by None e = ap (λ o. refers_to_writethrough a (option_map (resolved_reference d a.schema) o)) e
    by (Some f) e =
        let parent = ap (λ o. option_or (cond (refers_to_writethrough a (option_map (resolved_reference d a.schema) d.foreign_key)) (broken_at code.WritethroughTable (option_map (λ f. f.parent) o)) None) (option_map past (limit_of (resolved d a.schema) a.schema))) e in
        no_parent (refers_to_writethrough a (resolved d a.schema).foreign_key) f (option_map past (limit_of (resolved d a.schema) a.schema))
        (sym parent ∙ none_behind (fault_of d a.schema) _ none)

-- the laws

abbrev pub EntriesLaw : Type 0
EntriesLaw =
    (w : World) (entries : List Entry) → Stands w → IsUnshared w → AreOthers w.shared w.history entries
    → StaysShown w (at_history (w.history ++ entries) w)

abbrev pub ToldLaw : Type 0
ToldLaw =
    (w : World) (def : TableDef) → Stands w → w.tier.stale ≡ false → refers_to_writethrough w.tier def.foreign_key ≡ false
    → ShowsTable def w (with_tier (record w.tier { schema = w.tier.schema ++ def ∷ [] })
    (at_history (w.history ++ Definition def ∷ []) w))

abbrev pub UntoldLaw : Type 0
UntoldLaw =
    (w : World) (def : TableDef) → Stands w → refers_to_writethrough w.tier def.foreign_key ≡ false
    → StaysShown w (with_tier (record w.tier { stale = true }) (at_history (w.history ++ Definition def ∷ []) w))

-- others behind a step

pub others_behind : EntriesLaw → (w : World) (middle entries later : List Entry) → Stands (at_history middle w) → IsUnshared w → AreOthers w.shared middle entries → later ≡ middle ++ entries → StaysShown (at_history middle w) (at_history later w)
others_behind law w middle entries later x apart came is =
    subst (λ h. StaysShown (at_history middle w) (at_history h w)) (sym is) (law (at_history middle w) entries x apart came)

-- what the declaration is

pub record IsFit (t : Stored) (d : TableDeclaration) (def : TableDef) : Type 0 where
  pub free : (a : Tier) → IsStoredAs t a → table_fault a d ≡ None
  pub made : (a : Tier) → IsStoredAs t a → def ≡ resolved d a.schema

created : (w w' : World) (d : TableDeclaration) (def : TableDef) (reply : Reply) → table_fault w.tier d ≡ None → def ≡ resolved d w.tier.schema → Creates def w w' reply → Tries (CreatesTable d) w w' reply
created w w' d def reply free made creates =
    inl (subst (λ fault. Unless fault (Creates (resolved d w.tier.schema)) w w' reply) (sym free) (subst (λ x. Creates x w w' reply) made creates))

-- it was defined
stored_defined : (t new : Stored) (a : Tier) (def : TableDef) → IsStoredAs t a → t.stale ≡ false → Learns t new (t.schema ++ def ∷ []) → IsStoredAs new (record a { schema = a.schema ++ def ∷ [] })
stored_defined t new a def is known learns = subst (λ z. IsStoredAs z (record a { schema = a.schema ++ def ∷ [] })) (sym learns.kept) (record {
  schema = ap (λ defs. defs ++ def ∷ []) is.schema;
  stale = is.stale ∙ known;
  groups = is.groups;
  lists = is.lists;
  sessions = is.sessions;
  unsettled = is.unsettled;
  next = is.next;
  doubt = is.doubt;
  time = is.time;
})

same_more : (xs : List TableDef) (def : TableDef) (more : List TableDef) → xs ++ def ∷ [] ≡ xs ++ more → more ≡ def ∷ []
same_more [] def more e = sym e
same_more (x ∷ xs) def more e = same_more xs def more cc

pub table_made : EntriesLaw → ToldLaw → (t new : Stored) (before after : SiteState) (d : TableDeclaration) (def : TableDef) (done : Unit {0}) (reply : Reply) → reply ≡ define_reply (Ok done) → IsFit t d def → t.stale ≡ false → CalledAt before after (Defines def (Ok done)) → Learns t new (t.schema ++ def ∷ [])
    → Performs t new before after (λ w w'. Tries (CreatesTable d) w w' reply)
table_made others tables t new before after d def done reply answer fit known called learns w at stands apart =
    let now = told_behind at.there before.held after.held (site.BankCall before.shared (Defines def (Ok done))) at.told called.told in
    let a = record w.tier { schema = w.tier.schema ++ def ∷ [] } in
    let call = call_behind w a before after now.there (Defines def (Ok done)) at now.is called.faults called.moment in
    let c = call.history in
    let free = fit.free w.tier stands.stored in
    let made = fit.made w.tier stands.stored in
    let one = others w c.before stands.stands apart c.came_before in
    let w1 = at_history (w.history ++ c.before) w in
    let refers = ap (λ (x : TableDef). refers_to_writethrough w.tier x.foreign_key) made ∙ refers_not w.tier d free in
    let two = tables w1 def one.stands (stands.stored.stale ∙ known) refers in
    let middle : ShowsTable def w1 (with_tier a (at_history c.middle w1)) = subst (λ h. ShowsTable def w1 (with_tier a (at_history h w1))) (sym c.own) two in
    let three = others_behind others (with_tier a w) c.middle c.behind now.there.history middle.stands apart c.came_behind c.is in
    let more = same_more t.schema def learns.front.more learns.front.is in
    let w' = behind w a now.there after in
    let does : Creates def w w' reply = record { result = Ok done; call = call; tier = refl; answer = answer } in
    performed_behind new before after w a now.there (λ z. Tries (CreatesTable d) w z reply) at now.told called.shares stands.waits
    (stored_defined t new w.tier def stands.stored known learns)
    (learns.rows ∙ ap (λ defs. with_tables defs (rows_of t)) more
    ∙ ap (with_tables (def ∷ [])) (stands.shows ∙ sym one.same) ∙ sym middle.same ∙ sym three.same)
    (hides_then t new w now.there.history (hidden_learned t new (t.schema ++ def ∷ []) learns) stands (around_longer w (Defines def (Ok done)) now.there.history (defines_longer def (Ok done)) c))
    three.stands
    (created w w' d def reply free made does)

-- it failed, and the table may be there or not

stale_stands : (w : World) → Stands w → Stands (with_tier (record w.tier { stale = true }) w)
stale_stands w x = record {
  flow = x.flow;
  schema = record { front = x.schema.front; whole = λ s stale e. cc };
  catalog = record { each = x.catalog.each; apart = x.catalog.apart };
  keys = x.keys;
  read = x.read;
  sessions = x.sessions;
}

stored_stale : (t : Stored) (a : Tier) → IsStoredAs t a → IsStoredAs (record t { stale = true }) (record a { stale = true })
stored_stale t a is = record {
  schema = is.schema;
  stale = refl;
  groups = is.groups;
  lists = is.lists;
  sessions = is.sessions;
  unsettled = is.unsettled;
  next = is.next;
  doubt = is.doubt;
  time = is.time;
}

pub table_unsure : EntriesLaw → UntoldLaw → (t : Stored) (before after : SiteState) (d : TableDeclaration) (def : TableDef) (reply : Reply) → (let r : Result (Unit {0}) BankError = Err Failed in reply ≡ define_reply r) → IsFit t d def → CalledAt before after (Defines def (Err Failed))
    → Performs t (record t { stale = true }) before after (λ w w'. Tries (CreatesTable d) w w' reply)
table_unsure others tables t before after d def reply answer fit called w at stands apart =
    let now = told_behind at.there before.held after.held (site.BankCall before.shared (Defines def (Err Failed))) at.told called.told in
    let a = record w.tier { stale = true } in
    let call = call_behind w a before after now.there (Defines def (Err Failed)) at now.is called.faults called.moment in
    let c = call.history in
    let free = fit.free w.tier stands.stored in
    let made = fit.made w.tier stands.stored in
    let one = others w c.before stands.stands apart c.came_before in
    let w1 = at_history (w.history ++ c.before) w in
    let refers = ap (λ (x : TableDef). refers_to_writethrough w.tier x.foreign_key) made ∙ refers_not w.tier d free in
    let middle : StaysShown w1 (with_tier a (at_history c.middle w1)) = elim c.own [
      | inl none ↦
          let same : c.middle ≡ w.history ++ c.before = none ∙ Rattle.std.proofs.lemmas.List.append-nil (w.history ++ c.before) in
          subst (λ h. StaysShown w1 (with_tier a (at_history h w1))) (sym same) (record { stands = stale_stands w1 one.stands; same = refl })
      | inr came ↦ subst (λ h. StaysShown w1 (with_tier a (at_history h w1))) (sym came) (tables w1 def one.stands refers)
    ] in
    let three = others_behind others (with_tier a w) c.middle c.behind now.there.history middle.stands apart c.came_behind c.is in
    let w' = behind w a now.there after in
    let does : Creates def w w' reply = record { result = Err Failed; call = call; tier = refl; answer = answer } in
    performed_behind (record t { stale = true }) before after w a now.there (λ z. Tries (CreatesTable d) w z reply) at now.told called.shares stands.waits
    (stored_stale t w.tier stands.stored)
    (stands.shows ∙ sym one.same ∙ sym middle.same ∙ sym three.same)
    (hides_later t w now.there.history stands (around_longer w (Defines def (Err Failed)) now.there.history (defines_longer def (Err Failed)) c))
    three.stands
    (created w w' d def reply free made does)

pub sound_stale : (t : Stored) → IsSound t → IsSound (record t { stale = true })
sound_stale t sound = record {
  sessions = sound.sessions;
  stores = sound.stores;
  kept = sound.kept;
  whole = sound.whole;
  hiding = sound.hiding;
  plain = sound.plain;
  named = sound.named;
  visible = sound.visible;
  numbered = sound.numbered;
  later = sound.later;
  writers = sound.writers;
  verified = λ is. let v = sound.verified is in record { rows = v.rows; own = v.own };
}

-- memory was wanting at the bank
pub table_unmade : AroundLaw → (t : Stored) (before after : SiteState) (d : TableDeclaration) (def : TableDef) → IsFit t d def → CalledAt before after (Defines def (Err Memory))
    → Performs t t before after (λ w w'. Tries (CreatesTable d) w w' (reply_of (Err refused.Memory)))
table_unmade law t before after d def fit called w at stands apart =
    let now = told_behind at.there before.held after.held (site.BankCall before.shared (Defines def (Err Memory))) at.told called.told in
    let call = call_behind w w.tier before after now.there (Defines def (Err Memory)) at now.is called.faults called.moment in
    let c = call.history in
    let stays = law w now.there.history stands.stands apart (record {
      before = c.before;
      middle = c.middle;
      behind = c.behind;
      came_before = c.came_before;
      own = c.own;
      came_behind = c.came_behind;
      is = c.is;
    }) in
    let w' = behind w w.tier now.there after in
    let does : Creates def w w' (reply_of (Err refused.Memory)) = record { result = Err Memory; call = call; tier = refl; answer = refl } in
    performed_behind t before after w w.tier now.there (λ z. Tries (CreatesTable d) w z (reply_of (Err refused.Memory))) at now.told called.shares stands.waits
    stands.stored (stands.shows ∙ sym stays.same)
    (hides_later t w now.there.history stands (around_longer w (Defines def (Err Memory)) now.there.history (defines_longer def (Err Memory)) c)) stays.stands
    (created w w' d def (reply_of (Err refused.Memory)) (fit.free w.tier stands.stored) (fit.made w.tier stands.stored) does)

-- nothing was called: a rule is broken, or memory was wanting
pub table_refused : (t : Stored) (seen : SiteState) (d : TableDeclaration) (e : Refused) → ((a : Tier) → IsStoredAs t a → Tells {X = TableDef} (Err e) (table_fault a d)) → Performs t t seen seen (λ w w'. Tries (CreatesTable d) w w' (reply_of (Err e)))
table_refused t seen d (refused.Rule rule) told w at stands apart =
    performed_here t seen w (λ w'. Tries (CreatesTable d) w w' (only (No rule))) at stands
    (inl (subst (λ fault. Unless fault (Creates (resolved d w.tier.schema)) w w (only (No rule))) (sym (told w.tier stands.stored)) (refl, refl)))
table_refused t seen d refused.Memory told w at stands apart =
    performed_here t seen w (λ w'. Tries (CreatesTable d) w w' (reply_of (Err refused.Memory))) at stands (inr (refl, refl))

pub table_wanting : (t : Stored) (seen : SiteState) (d : TableDeclaration) → Performs t t seen seen (λ w w'. Tries (CreatesTable d) w w' (reply_of (Err refused.Memory)))
table_wanting t seen d w at stands apart =
    performed_here t seen w (λ w'. Tries (CreatesTable d) w w' (reply_of (Err refused.Memory))) at stands (inr (refl, refl))

-- what is told of a call

pub call_caused : (before after : SiteState) (step : List Entry → List Entry → Type 0) (reply : Reply) → CalledAt before after step → reply.notes ≡ [] → (tells code.BackingFault reply.last ≡ true → Rose before.bank_faults after.bank_faults) → tells code.JournalFault reply.last ≡ false → IsCaused before after reply
call_caused before after step reply called bare bank disk = record {
  later = called.faults;
  moment = called.moment;
  shares = called.shares;
  slots = slots_kept before.held after.held (site.BankCall before.shared step) (λ o n call. call.slots) called.told;
  bare = bare;
  bank = bank;
  disk = disk;
}

pub done_caused : (before after : SiteState) (step : List Entry → List Entry → Type 0) (n : ℕ) (reply : Reply) → CalledAt before after step → reply ≡ only (Done n) → IsCaused before after reply
done_caused before after step n reply called is = subst (IsCaused before after) (sym is) (call_caused before after step (only (Done n)) called refl (λ b. cc) refl)

pub failed_caused : (before after : SiteState) (step : List Entry → List Entry → Type 0) (reply : Reply) → CalledAt before after step → reply ≡ faulty code.BackingFault → Rose before.bank_faults after.bank_faults → IsCaused before after reply
failed_caused before after step reply called is rose = subst (IsCaused before after) (sym is) (call_caused before after step (faulty code.BackingFault) called refl (λ b. rose) refl)
