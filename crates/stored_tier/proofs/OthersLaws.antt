-- Transactions of others at a call of the bank.
use Rattle.std.proofs.Common.{◌≡◌, Option, Some, None, List, [], ◌∷◌, ◌++◌, refl, sym, ap, ◌∙◌, subst, append_assoc}
use Rattle.std.specs.Option.{option_and_then}
use Rattle.std.specs.Prelude.{Result, Ok, Err}
use Rattle.std.proofs.lemmas.List.{append-nil}
use Rattle.tier_base.specs.declared.number.TableId.{TableId}
use Rattle.table_defs.specs.declared.definition.TableDef.{TableDef}
use Rattle.table_state.specs.declared.history.Entry.{Entry}
use Rattle.table_state.specs.declared.history.Entry.TheVariants.{Definition, Foreign, Own}
use Rattle.table_state.specs.Histories.{state_from, state_of}
use Rattle.table_state.specs.Tables.{TableState}
use Rattle.table_state.proofs.HistoryLaws.{state_of-append}
use Rattle.order_laws.proofs.CountLaws.{defs_of, schema_after}
use Rattle.outside.specs.Bank.{Grows, TellsSchema}
use Rattle.outside.specs.Others.{AreOthers, Around}
use Rattle.outside.specs.declared.fault.BankError.{BankError}

-- others behind others are others
pub others_more : (shared : List TableId) (h xs ys : List Entry) → AreOthers shared h xs → AreOthers shared (h ++ xs) ys → AreOthers shared h (xs ++ ys)
others_more shared h [] ys first more = subst (λ x. AreOthers shared x ys) (append-nil h) more
others_more shared h (Definition def ∷ xs) ys first more = absurd first
others_more shared h (Own ticket ops ∷ xs) ys first more = absurd first
others_more shared h (Foreign ops ∷ xs) ys first more = (
  first.0,
  first.1,
  others_more shared (h ++ Foreign ops ∷ []) xs ys first.2 (subst (λ x. AreOthers shared x ys) (sym (append_assoc h (Foreign ops ∷ []) xs)) more),
)

-- they define no table
others_define : (shared : List TableId) (h entries : List Entry) → AreOthers shared h entries → defs_of entries ≡ []
others_define shared h [] others = refl
others_define shared h (Definition def ∷ entries) others = absurd others
others_define shared h (Own ticket ops ∷ entries) others = absurd others
others_define shared h (Foreign ops ∷ entries) others = others_define shared (h ++ Foreign ops ∷ []) entries others.2

-- the state before them, which has the same schema
pub record StateBefore (h : List Entry) (s : TableState) : Type 0 where
  pub state : TableState
  pub is : state_of h ≡ Some state
  pub same : s.schema ≡ state.schema

pub state_before : (shared : List TableId) (h entries : List Entry) (s : TableState) → AreOthers shared h entries → state_of (h ++ entries) ≡ Some s → StateBefore h s
state_before shared h entries s others is = by (state_of h) refl (sym (state_of-append h entries) ∙ is)
  where
    by : (o : Option TableState) → state_of h ≡ o → option_and_then (state_from entries) o ≡ Some s → StateBefore h s
    by None e leads = cc
    by (Some y) e leads = record {
      state = y;
      is = e;
      same = schema_after entries y s leads ∙ ap (λ defs. y.schema ++ defs) (others_define shared h entries others) ∙ append-nil y.schema;
    }

-- what came in a call that reads
pub record CameBy (shared : List TableId) (old new : List Entry) : Type 0 where
  pub entries : List Entry
  pub others : AreOthers shared old entries
  pub is : new ≡ old ++ entries

pub came_by : (shared : List TableId) (step : List Entry → List Entry → Type 0) (old new : List Entry) → ((a b : List Entry) → step a b → Grows [] a b) → Around shared step old new → CameBy shared old new
came_by shared step old new reads a =
    let middle = reads (old ++ a.before) a.middle a.own ∙ append-nil (old ++ a.before) in
    record {
      entries = a.before ++ a.behind;
      others = others_more shared old a.before a.behind a.came_before (subst (λ x. AreOthers shared x a.behind) middle a.came_behind);
      is = a.is ∙ ap (λ x. x ++ a.behind) middle ∙ append_assoc old a.before a.behind;
    }

-- a call that reads, whatever it tells
pub only_reads : (shared : List TableId) (step : List Entry → List Entry → Type 0) (old new : List Entry) → ((a b : List Entry) → step a b → Grows [] a b) → Around shared step old new → Around shared (Grows []) old new
only_reads shared step old new reads a = record {
  before = a.before;
  middle = a.middle;
  behind = a.behind;
  came_before = a.came_before;
  own = reads (old ++ a.before) a.middle a.own;
  came_behind = a.came_behind;
  is = a.is;
}

pub schema_reads : (result : Result (List TableDef) BankError) (a b : List Entry) → TellsSchema result a b → Grows [] a b
schema_reads (Ok schema) a b tells = tells.0
schema_reads (Err e) a b tells = tells

-- the schema that is told is that of the state behind the call
pub schema_told : (shared : List TableId) (schema : List TableDef) (old new : List Entry) (s : TableState) → Around shared (TellsSchema (Ok schema)) old new → state_of new ≡ Some s → s.schema ≡ schema
schema_told shared schema old new s a is =
    let before = state_before shared a.middle a.behind s a.came_behind (ap state_of (sym a.is) ∙ is) in
    before.same ∙ sym (a.own.1 before.state before.is)
