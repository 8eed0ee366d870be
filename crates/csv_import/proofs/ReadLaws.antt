-- How far the reading of a file is: what its records give is what was given so far and what those that are left give.
use Rattle.std.proofs.Common.{◌≡◌, ◌∙◌, ◌<◌, ◌≤◌, ℕ, zero, suc, ◌+◌, ◌==◌, nat_lt, Bool, true, false, ◌&&◌, Option, Some, None, Ok, Err, List, [], ◌∷◌, ◌++◌, length, refl, sym, ap, subst, arith, if◌then◌else◌}
use Rattle.std.specs.Borrow.{Bor}
use Rattle.std.proofs.lemmas.Bool.{eqb-true, false≢true, ltb-false}
use Rattle.csv.specs.Machine.{Read, after_end, ends_at_end, ends_with, field_after, fields_after, in_field, is_byte, is_end, line_feed, next_record, start_field, start_record, step}
use Rattle.csv.specs.Reading.{Reached, ReadRecord, Ready, default_config, records_from, source_of, strip_bom}
use Rattle.csv.specs.declared.parser.Action.{Action}
use Rattle.csv.specs.declared.parser.Action.TheVariants as act
use Rattle.csv.specs.declared.parser.Config.{Config}
use Rattle.csv.specs.declared.parser.State.{State}
use Rattle.csv.specs.declared.parser.State.TheVariants as st
use Rattle.csv.specs.declared.parser.Terminator.{Terminator}
use Rattle.csv.specs.declared.parser.Terminator.TheVariants as term
use Rattle.csv.specs.declared.reader.Reader.{Reader}
use Rattle.csv.specs.declared.reader.Trim.TheVariants as trim
use Rattle.csv.proofs.ReadFacts.{rows-end, rows-more}
use Rattle.evaluator.specs.tier_base.specs.declared.number.TableId.{TableId}
use Rattle.evaluator.specs.row_types.specs.declared.column.Column.{Column}
use Rattle.evaluator.specs.row_types.specs.declared.rule.Refused.{Refused}
use Rattle.evaluator.specs.row_types.specs.declared.rule.Refused.TheVariants as refused
use Rattle.evaluator.specs.tier_base.specs.declared.limit.Limit.TheVariants.{Operations}
use Rattle.evaluator.specs.declared.change.Change.{Change}
use Rattle.evaluator.specs.Rules.{added, limit}
use Rattle.evaluator.proofs.RuleLaws.{added-assoc, added-nil, nil-added}
use Rattle.csv_import.specs.Reading.{PutsAll}
use Rattle.csv_import.specs.Inserts.{GivesAll, given_by, insert_in, inserts_from, listed, name_columns, records_in, wrong_record}

-- a record that ends leaves no field at hand
after_line : (t : Terminator) (c : ℕ) → ends_at_end (after_end t c) ≡ false
after_line term.CRLF c = by (c == 13)
  where
    by : (b : Bool) → ends_at_end (if b then st.AfterCr else st.StartRecord) ≡ false
    by true = refl
    by false = refl
after_line (term.Any t) c = refl

-- where the action ends the record, the state leaves no field at hand
abbrev IsClean : State × Action → Type 0
IsClean q = is_end q.1 ≡ true → ends_at_end q.0 ≡ false

either : (b : Bool) (x y : State × Action) → IsClean x → IsClean y → IsClean (if b then x else y)
either true x y h k = h
either false x y h k = k

no_end : (s : State) (a : Action) → is_end a ≡ false → IsClean (s, a)
no_end s a not e = absurd (false≢true (sym not ∙ e))

clean_field : (cfg : Config) (c : ℕ) → IsClean (in_field cfg c)
clean_field cfg c =
    either (c == cfg.delimiter) (st.StartField, act.EndField) (if ends_with cfg.terminator c then (after_end cfg.terminator c, act.EndRecord) else (st.InField, act.Copy))
    (no_end st.StartField act.EndField refl)
    (either (ends_with cfg.terminator c) (after_end cfg.terminator c, act.EndRecord) (st.InField, act.Copy) (λ e. after_line cfg.terminator c) (no_end st.InField act.Copy refl))

clean_start : (cfg : Config) (c : ℕ) → IsClean (start_field cfg c)
clean_start cfg c = either (cfg.quoting && (c == cfg.quote)) (st.InQuoted, act.Skip) (in_field cfg c) (no_end st.InQuoted act.Skip refl) (clean_field cfg c)

clean_record : (cfg : Config) (c : ℕ) → IsClean (start_record cfg c)
clean_record cfg c =
    either (ends_with cfg.terminator c) (st.StartRecord, act.Skip) (if is_byte cfg.comment c then (st.InComment, act.Skip) else start_field cfg c)
    (no_end st.StartRecord act.Skip refl)
    (either (is_byte cfg.comment c) (st.InComment, act.Skip) (start_field cfg c) (no_end st.InComment act.Skip refl) (clean_start cfg c))

ends_clean : (cfg : Config) (s : State) (c : ℕ) → IsClean (step cfg s c)
ends_clean cfg st.StartRecord c = clean_record cfg c
ends_clean cfg st.StartField c = clean_start cfg c
ends_clean cfg st.InField c = clean_field cfg c
ends_clean cfg st.InQuoted c =
    either (cfg.quoting && (c == cfg.quote)) (st.AfterQuote, act.Skip) (if cfg.quoting && is_byte cfg.escape c then (st.InEscape, act.Skip) else (st.InQuoted, act.Copy))
    (no_end st.AfterQuote act.Skip refl)
    (either (cfg.quoting && is_byte cfg.escape c) (st.InEscape, act.Skip) (st.InQuoted, act.Copy) (no_end st.InEscape act.Skip refl) (no_end st.InQuoted act.Copy refl))
ends_clean cfg st.InEscape c = no_end st.InQuoted act.Copy refl
ends_clean cfg st.AfterQuote c =
    either (cfg.quoting && cfg.double_quote && (c == cfg.quote)) (st.InQuoted, act.Copy) (in_field cfg c) (no_end st.InQuoted act.Copy refl) (clean_field cfg c)
ends_clean cfg st.InComment c =
    either (c == line_feed) (st.StartRecord, act.Skip) (st.InComment, act.Skip) (no_end st.StartRecord act.Skip refl) (no_end st.InComment act.Skip refl)
ends_clean cfg st.AfterCr c = either (c == line_feed) (st.StartRecord, act.Skip) (start_record cfg c) (no_end st.StartRecord act.Skip refl) (clean_record cfg c)

-- a record leaves no more bytes than there were, and no field at hand
leaves : (cfg : Config) (s : State) (fields : List (List ℕ)) (field xs : List ℕ) (p : Read) → next_record cfg s fields field xs ≡ Some p → (length p.2 ≤ length xs) × (ends_at_end p.1 ≡ false)
unfolding next_record
leaves cfg s fields field [] p e = by (ends_at_end s) e
  where
    by : (b : Bool) → (if b then Some (fields ++ (field ∷ []), st.StartRecord, []) else None) ≡ Some p → (length p.2 ≤ 0) × (ends_at_end p.1 ≡ false)
    by true e = let same : (fields ++ (field ∷ []), st.StartRecord, []) ≡ p = cc in
        (subst (λ (q : Read). length q.2 ≤ 0) same (omega arith), subst (λ (q : Read). ends_at_end q.1 ≡ false) same refl)
    by false e = cc
leaves cfg s fields field (c ∷ rest) p e = by (leaves cfg (step cfg s c).0 (fields_after (step cfg s c).1 fields field) (field_after (step cfg s c).1 c field) rest p) (is_end (step cfg s c).1) refl e
  where
    ended : Read
    ended = (fields_after (step cfg s c).1 fields field, (step cfg s c).0, rest)

    more : Option Read
    more = next_record cfg (step cfg s c).0 (fields_after (step cfg s c).1 fields field) (field_after (step cfg s c).1 c field) rest

    by : (more ≡ Some p → (length p.2 ≤ length rest) × (ends_at_end p.1 ≡ false)) → (b : Bool) → is_end (step cfg s c).1 ≡ b → (if b then Some ended else more) ≡ Some p → (length p.2 ≤ length (c ∷ rest)) × (ends_at_end p.1 ≡ false)
    by behind true is e = let same : ended ≡ p = cc in
        (subst (λ (q : Read). length q.2 ≤ length (c ∷ rest)) same (omega arith), subst (λ (q : Read). ends_at_end q.1 ≡ false) same (ends_clean cfg s c is))
    by behind false is e = let (short, clean) = behind e in (omega (arith, short), clean)

-- one that doesn't begin inside a field leaves fewer
leaves_fewer : (cfg : Config) (s : State) (xs : List ℕ) (p : Read) → ends_at_end s ≡ false → next_record cfg s [] [] xs ≡ Some p → length p.2 < length xs
unfolding next_record
leaves_fewer cfg s [] p clean e = let none : None ≡ Some p = rw clean at e in cc
leaves_fewer cfg s (c ∷ rest) p clean e = by (is_end (step cfg s c).1) e
  where
    ended : Read
    ended = (fields_after (step cfg s c).1 [] [], (step cfg s c).0, rest)

    more : Option Read
    more = next_record cfg (step cfg s c).0 (fields_after (step cfg s c).1 [] []) (field_after (step cfg s c).1 c []) rest

    by : (b : Bool) → (if b then Some ended else more) ≡ Some p → length p.2 < length (c ∷ rest)
    by true e = let same : ended ≡ p = cc in subst (λ (q : Read). length q.2 < length (c ∷ rest)) same (omega arith)
    by false e = let short = (leaves cfg (step cfg s c).0 (fields_after (step cfg s c).1 [] []) (field_after (step cfg s c).1 c []) rest p e).0 in omega (arith, short)

-- the bytes of a slice are known
abbrev pub known : Bor (List ℕ) → Option (List ℕ)
known s = Some s.now

-- Behind the first records of a file: these are the reader, the number of the next record and the INSERTs so far.
pub record Stands (table : TableId) (columns : List Column) (all : List (List (List ℕ))) (reader : Reader (Bor (List ℕ))) (number : ℕ) (inserts : List Change) : Type 0 where
  pub untrimmed : reader.trim ≡ trim.None
  pub ready : Ready reader
  pub config : reader.config ≡ default_config
  pub rest : List ℕ
  pub fuel : ℕ
  pub source : source_of known reader ≡ Some rest
  pub clean : ends_at_end reader.state ≡ false
  pub enough : length rest < fuel
  pub few : number ≤ 10001
  pub gives : inserts_from table columns 0 all ≡ added (Ok inserts) (inserts_from table columns number (records_from default_config fuel reader.state rest))

-- what a read of one more record leaves
record OneMore (f : List (List ℕ)) (reader : Reader (Bor (List ℕ))) (all : List (List (List ℕ))) : Type 0 where
  rest : List ℕ
  fuel : ℕ
  source : source_of known reader ≡ Some rest
  clean : ends_at_end reader.state ≡ false
  enough : length rest < fuel
  records : all ≡ f ∷ records_from default_config fuel reader.state rest

read_first : (fuel : ℕ) (s s' : State) (y z : List ℕ) (p : Read) (f : List (List ℕ)) → next_record default_config s [] [] y ≡ Some p → f ≡ p.0 → p.1 ≡ s' → p.2 ≡ z
    → records_from default_config (suc fuel) s y ≡ f ∷ records_from default_config fuel s' z
unfolding records_from
read_first fuel s s' y z p f next first state bytes = rw (next, first, sym state, sym bytes) refl

one_more : (a b : Reader (Bor (List ℕ))) (f : List (List ℕ)) (y : List ℕ) (fuel : ℕ) → a.config ≡ default_config → source_of known a ≡ Some y → ends_at_end a.state ≡ false → length y < fuel → ReadRecord known a b true f
    → OneMore f b (records_from default_config fuel a.state y)
unfolding Reached
one_more a b f y zero config source clean enough read = absurd (omega (arith, enough))
one_more a b f y (suc fuel) config source clean enough read =
    let (z, left, reached) = rows-more known a b f default_config a.state y y [] config source (refl, refl) read in
    let (p, next, first, behind) = reached in
    let state = behind.0 in
    let bytes = behind.1 in
    record {
      rest = z;
      fuel = fuel;
      source = left;
      clean = subst (λ s. ends_at_end s ≡ false) state (leaves default_config a.state [] [] y p next).1;
      enough = let fewer = subst (λ (l : List ℕ). length l < length y) bytes (leaves_fewer default_config a.state y p clean next) in omega (arith, fewer, enough);
      records = read_first fuel a.state b.state y z p f next first state bytes;
    }

-- a transaction has so many operations
is_few : (table : TableId) (columns : List Column) (number : ℕ) (f : List (List ℕ)) (more : List Change) → given_by table columns number f ≡ Ok more → number ≤ 10000
is_few table columns number f more given = by (number == 0) refl (nat_lt 10000 number) refl given
  where
    by : (a : Bool) → (number == 0) ≡ a → (b : Bool) → nat_lt 10000 number ≡ b
        → (if a then (if name_columns columns f then Ok [] else Err (wrong_record 0)) else (if b then Err (limit Operations) else listed (insert_in table columns number f))) ≡ Ok more → number ≤ 10000
    by true is b over e = let zero : number ≡ 0 = eqb-true number 0 is in omega (arith, zero)
    by false is true over e = cc
    by false is false over e = ltb-false 10000 number over

-- a file ends without a header, or with the INSERTs so far
pub without_header : (table : TableId) (columns : List Column) (number : ℕ) (inserts : List Change) → number ≡ 0 → added (Ok inserts) (inserts_from table columns number []) ≡ Err (wrong_record 0)
without_header table columns number inserts none = rw none refl

pub behind_header : (table : TableId) (columns : List Column) (number : ℕ) (inserts : List Change) → (number ≡ 0 → ⊥) → added (Ok inserts) (inserts_from table columns number []) ≡ Ok inserts
behind_header table columns number inserts some = by (number == 0) refl
  where
    by : (b : Bool) → (number == 0) ≡ b → added (Ok inserts) (if b then Err (wrong_record 0) else Ok []) ≡ Ok inserts
    by true is = absurd (some (eqb-true number 0 is))
    by false is = added-nil (Ok inserts)

-- nothing is read yet
pub starts : (table : TableId) (columns : List Column) (bytes : List ℕ) (reader : Reader (Bor (List ℕ))) (inserts : List Change) → reader.trim ≡ trim.None → Ready reader → reader.config ≡ default_config
    → source_of known reader ≡ Some (strip_bom bytes) → reader.state ≡ st.StartRecord → inserts ≡ [] → Stands table columns (records_in bytes) reader 0 inserts
starts table columns bytes reader inserts untrimmed ready config source state none = record {
  untrimmed = untrimmed;
  ready = ready;
  config = config;
  rest = strip_bom bytes;
  fuel = length (strip_bom bytes) + 1;
  source = source;
  clean = rw state refl;
  enough = omega arith;
  few = omega arith;
  gives = rw (state, none) (sym (nil-added (inserts_from table columns 0 (records_in bytes))));
}

module _ (table : TableId) (columns : List Column) (all : List (List (List ℕ))) (a : Reader (Bor (List ℕ))) (number : ℕ) (inserts : List Change) (here : Stands table columns all a number inserts) (b : Reader (Bor (List ℕ))) (f : List (List ℕ)) where
  pub goes_on : ReadRecord known a b true f → Ready b → (more : List Change) → given_by table columns number f ≡ Ok more → (after : List Change) → after ≡ inserts ++ more → Stands table columns all b (number + 1) after
  goes_on read ready more given after is =
      let next = one_more a b f here.rest here.fuel here.config here.source here.clean here.enough read in
      let behind = inserts_from table columns (number + 1) (records_from default_config next.fuel b.state next.rest) in
      record {
        untrimmed = read.3 ∙ here.untrimmed;
        ready = ready;
        config = read.2 ∙ here.config;
        rest = next.rest;
        fuel = next.fuel;
        source = next.source;
        clean = next.clean;
        enough = next.enough;
        few = let few = is_few table columns number f more given in omega (arith, few);
        gives = here.gives ∙ ap (λ rs. added (Ok inserts) (inserts_from table columns number rs)) next.records ∙ ap (λ r. added (Ok inserts) (added r behind)) given ∙ added-assoc (Ok inserts) (Ok more) behind ∙ ap (λ xs. added (Ok xs) behind) (sym is);
      }

  pub stops : ReadRecord known a b true f → (why : Refused) (old new : List Change) (same : List Column) → same ≡ columns → PutsAll (given_by table same number f) (Err why) old new → {V : Type 0} (items : V → List Change) → GivesAll items (inserts_from table columns 0 all) (Err why)
  stops read (refused.Rule e) old new same is given items =
      let next = one_more a b f here.rest here.fuel here.config here.source here.clean here.enough read in
      let behind = inserts_from table columns (number + 1) (records_from default_config next.fuel b.state next.rest) in
      here.gives ∙ ap (λ rs. added (Ok inserts) (inserts_from table columns number rs)) next.records ∙ ap (λ (cs : List Column). added (Ok inserts) (added (given_by table cs number f) behind)) (sym is) ∙ ap (λ r. added (Ok inserts) (added r behind)) given
  stops read refused.Memory old new same is given items = tt

  pub ends : ReadRecord known a b false f → inserts_from table columns 0 all ≡ added (Ok inserts) (inserts_from table columns number [])
  unfolding records_from
  ends read = here.gives ∙ ap (λ rs. added (Ok inserts) (inserts_from table columns number rs)) (none here.fuel (rows-end known a b f default_config here.rest here.config here.source read))
    where
      none : (fuel : ℕ) → next_record default_config a.state [] [] here.rest ≡ None → records_from default_config fuel a.state here.rest ≡ []
      none zero e = refl
      none (suc fuel) e = rw e refl
