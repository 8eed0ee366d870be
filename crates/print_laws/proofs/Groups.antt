-- Cache groups that are put are read back.
use Rattle.std.proofs.Common.{◌≡◌, ℕ, Bool, true, false, List, [], ◌∷◌, ◌++◌, drop, codes, Option, Some, None, refl, sym, ap, ◌∙◌, subst, append_assoc}
use Rattle.std.specs.Fmt.{decimal}
use Rattle.sql_print.specs.sql_tokens.specs.declared.kind.Kind.{Kind}
use Rattle.sql_print.specs.sql_tokens.specs.declared.kind.Kind.TheVariants as k
use Rattle.sql_print.specs.sql_tokens.specs.Kinds.{is_kind}
use Rattle.sql_print.specs.sql_tokens.specs.Words.{word_kind}
use Rattle.sql_print.specs.sql_tokens.specs.Lexing.{Lexeme, lexeme}
use Rattle.sql_print.specs.sql_grammar.specs.declared.rule.Rule.TheVariants as rules
use Rattle.sql_print.specs.sql_grammar.specs.declared.test.Test.TheVariants.{IntervalUnit, Manner, Whole}
use Rattle.sql_print.specs.sql_grammar.specs.Tests.{passes}
use Rattle.sql_print.specs.sql_grammar.specs.Grammar.{Grammar, Parts, Part, Reads, Named, Token, token, both, this, that, empty, named}
use Rattle.sql_print.specs.sql_grammar.specs.Notation.{optional, repeated, the, ◌▸◌}
use Rattle.sql_print.specs.sql_grammar.specs.Sql.{rule}
use Rattle.sql_print.specs.sql_grammar.specs.Groups.{autorefresh, create_group, group_table, state as state_part, way}
use Rattle.sql_print.specs.sql_subset.specs.declared.stmt.Autorefresh as autorefreshes
use Rattle.sql_print.specs.sql_subset.specs.declared.stmt.CreateGroup as groups
use Rattle.sql_print.specs.sql_subset.specs.declared.stmt.GroupKind.{GroupKind}
use Rattle.sql_print.specs.sql_subset.specs.declared.stmt.GroupKind.TheVariants.{ReadOnly, AsynchronousWritethrough, SynchronousWritethrough, UserManaged}
use Rattle.sql_print.specs.sql_subset.specs.declared.stmt.RefreshMode.{RefreshMode}
use Rattle.sql_print.specs.sql_subset.specs.declared.stmt.RefreshMode.TheVariants as modes
use Rattle.sql_print.specs.sql_subset.specs.declared.stmt.RefreshState.{RefreshState}
use Rattle.sql_print.specs.sql_subset.specs.declared.stmt.RefreshState.TheVariants as states
use Rattle.sql_print.specs.sql_subset.specs.Groups.{default_refresh, group_kinded, group_named, group_of, group_refreshed, group_tables_of, grouped, interval_of, kind_of, mode_of, refresh_of, state_of, unwritten, with_interval, with_mode, with_state, written}
use Rattle.sql_print.specs.sql_phrases.specs.Reading.{begins, first_kind, first_text, name_of}
use Rattle.sql_print.specs.sql_words.specs.Words.{Word, listed, name_words, where_so}
use Rattle.sql_print.specs.Groups.{group_table_words, group_words, kind_words, mode_word, refresh_words, state_word}
use Rattle.print_laws.proofs.GroupTables.{Follows, IsGroupTable, put_group_tables}
use Rattle.print_laws.proofs.Keywords.{asynchronous_word, autorefresh_word, cache_word, dynamic_word, from_word, full_word, group_word, incremental_word, interval_word, milliseconds_word, mode_word as mode_lexes, off_word, on_word, paused_word, readonly_word, state_word as state_lexes, synchronous_word, usermanaged_word, writethrough_word}
use Rattle.print_laws.proofs.Lexed.{Lexes, tokens}
use Rattle.print_laws.proofs.Lists.{SomeGood}
use Rattle.print_laws.proofs.Literals.{digits_lexes, digits_whole}
use Rattle.print_laws.proofs.Names.{IsName, put_name}
use Rattle.print_laws.proofs.NumberLaws.{IsCapped, decimal_digits, number_once}
use Rattle.print_laws.proofs.Put.{Never, Put, never_word, parted, put_as, put_both, put_last, put_map, put_none, put_word, put_words}

-- the clause that a group of this kind may have
abbrev pub IsRefresh : GroupKind → Option autorefreshes.Autorefresh → Type 0
IsRefresh kind None = unwritten kind ≡ None
IsRefresh kind (Some r) = IsCapped r.interval

-- the words of a mode and of a state
abbrev manner_kind : RefreshMode → Kind
manner_kind modes.Incremental = k.Incremental
manner_kind modes.Full = k.Full

manner_lexes : (m : RefreshMode) → Lexes (manner_kind m) (mode_word m)
manner_lexes modes.Incremental = incremental_word
manner_lexes modes.Full = full_word

manner_passes : (m : RefreshMode) → passes Manner (manner_kind m) ≡ true
manner_passes modes.Incremental = refl
manner_passes modes.Full = refl

manner_says : (m : RefreshMode) → mode_of (manner_kind m) ≡ m
manner_says modes.Incremental = refl
manner_says modes.Full = refl

abbrev pub rest_kind : RefreshState → Kind
rest_kind states.On = k.On
rest_kind states.Off = k.Off
rest_kind states.Paused = k.Paused

pub rest_lexes : (s : RefreshState) → Lexes (rest_kind s) (state_word s)
rest_lexes states.On = on_word
rest_lexes states.Off = off_word
rest_lexes states.Paused = paused_word

pub rest_passes : (s : RefreshState) (u : ℕ) (ps : Parts) (r : List Kind) → Reads rule 32 ps r → Reads rule 32 (Part u state_part ps) (rest_kind s ∷ r)
rest_passes states.On u ps r d = this refl (empty d)
rest_passes states.Off u ps r d = that (token refl d)
rest_passes states.Paused u ps r d = that (token refl d)

pub rest_says : (s : RefreshState) → state_of (rest_kind s) ≡ s
rest_says states.On = refl
rest_says states.Off = refl
rest_says states.Paused = refl

abbrev Refreshed : Type 0
Refreshed = Option autorefreshes.Autorefresh × List Lexeme

abbrev refresh : RefreshMode → ℕ → RefreshState → autorefreshes.Autorefresh
refresh mode interval state = record { mode = mode; interval = interval; state = state }

abbrev interval_part : Grammar
interval_part = Token Whole ▸ Token IntervalUnit

abbrev last_part : Grammar
last_part = optional k.State state_part

abbrev second_part : Grammar
second_part = optional k.Interval interval_part ▸ last_part

abbrev first_part : Grammar
first_part = optional k.Mode (Token Manner) ▸ second_part

-- a number and its unit, and then the state
abbrev timed_part : Grammar
timed_part = Token Whole ▸ Token IntervalUnit ▸ last_part

timed_apart : {ps : Parts} {r : List Kind} → Reads rule 32 (Part 0 timed_part ps) r → Reads rule 32 (Part 0 interval_part (Part 0 last_part ps)) r
timed_apart (both (token p (both d))) = both (token p d)

put_state : (r : autorefreshes.Autorefresh) (n : ℕ) → n ≡ r.interval → (us : List Word) → Put (λ ls. written (with_state (refresh r.mode n states.Paused, ls))) 0 last_part (Some r) (codes "STATE" ∷ state_word r.state ∷ us) us
put_state r n e us =
    let then : List Lexeme → Refreshed = λ ls. (Some (refresh r.mode n (state_of (first_kind ls))), drop 1 ls) in
    put_word (λ ls. written (with_state (refresh r.mode n states.Paused, ls))) then 0 last_part state_part (Some r) k.State (codes "STATE") (state_word r.state ∷ us) us state_lexes (λ ps x d. this refl d) (λ p ls. refl)
    (put_last then 0 state_part (Some r) (rest_kind r.state) (state_word r.state) us (rest_lexes r.state) (λ ps x d. rest_passes r.state 0 ps x d)
    (λ p ls. ap (λ (s : RefreshState). let y : Refreshed = (Some (refresh r.mode n s), ls) in y) (rest_says r.state) ∙ ap (λ (m : ℕ). let y : Refreshed = (Some (refresh r.mode m r.state), ls) in y) e))

put_interval : (r : autorefreshes.Autorefresh) → IsCapped r.interval → (us : List Word)
    → Put (λ ls. written (with_state (with_interval (refresh r.mode 300000 states.Paused, ls)))) 0 second_part (Some r) (codes "INTERVAL" ∷ decimal r.interval ∷ codes "MILLISECONDS" ∷ codes "STATE" ∷ state_word r.state ∷ us) us
put_interval r l us =
    let n : List ℕ = decimal r.interval in
    let d = decimal_digits r.interval l in
    let ws : List Word = codes "STATE" ∷ state_word r.state ∷ us in
    let opened : List Lexeme → Refreshed = λ ls. written (with_state (refresh r.mode (interval_of (first_text ls) (first_kind (drop 1 ls))) states.Paused, drop 2 ls)) in
    let counted : List Lexeme → Refreshed = λ ls. written (with_state (refresh r.mode (interval_of n (first_kind ls)) states.Paused, drop 1 ls)) in
    let timed : List Lexeme → Refreshed = λ ls. written (with_state (refresh r.mode (interval_of n k.Millisecond) states.Paused, ls)) in
    put_word (λ ls. written (with_state (with_interval (refresh r.mode 300000 states.Paused, ls)))) opened 0 second_part timed_part (Some r) k.Interval (codes "INTERVAL") (n ∷ codes "MILLISECONDS" ∷ ws) us interval_word (λ ps x e. both (this refl (timed_apart e))) (λ p ls. refl)
    (put_word opened counted 0 timed_part (Token IntervalUnit ▸ last_part) (Some r) (word_kind n) n (codes "MILLISECONDS" ∷ ws) us (digits_lexes n d) (λ ps x e. both (token (digits_whole n d) e)) (λ p ls. refl)
    (put_word counted timed 0 (Token IntervalUnit ▸ last_part) last_part (Some r) k.Millisecond (codes "MILLISECONDS") ws us milliseconds_word (λ ps x e. both (token refl e)) (λ p ls. refl)
    (put_state r (interval_of n k.Millisecond) (number_once r.interval l) us)))

put_clause : (kind : GroupKind) (r : autorefreshes.Autorefresh) → IsCapped r.interval → (us : List Word) → Put (refresh_of kind) 0 autorefresh (Some r) (refresh_words (Some r) ++ us) us
put_clause kind r l us =
    let ws : List Word = codes "INTERVAL" ∷ decimal r.interval ∷ codes "MILLISECONDS" ∷ codes "STATE" ∷ state_word r.state ∷ us in
    let begun : List Lexeme → Refreshed = λ ls. written (with_state (with_interval (with_mode (default_refresh, ls)))) in
    let moded : List Lexeme → Refreshed = λ ls. written (with_state (with_interval (refresh (mode_of (first_kind ls)) 300000 states.Paused, drop 1 ls))) in
    put_word (refresh_of kind) begun 0 autorefresh first_part (Some r) k.Autorefresh (codes "AUTOREFRESH") (codes "MODE" ∷ mode_word r.mode ∷ ws) us autorefresh_word (λ ps x d. this refl d) (λ p ls. refl)
    (put_word begun moded 0 first_part (Token Manner ▸ second_part) (Some r) k.Mode (codes "MODE") (mode_word r.mode ∷ ws) us mode_lexes (λ ps x d. both (this refl (parted d))) (λ p ls. refl)
    (put_word moded (λ ls. written (with_state (with_interval (refresh r.mode 300000 states.Paused, ls)))) 0 (Token Manner ▸ second_part) second_part (Some r) (manner_kind r.mode) (mode_word r.mode) ws us (manner_lexes r.mode) (λ ps x d. both (token (manner_passes r.mode) d))
    (λ p ls. ap (λ (m : RefreshMode). written (with_state (with_interval (refresh m 300000 states.Paused, ls)))) (manner_says r.mode)) (put_interval r l us)))

put_refresh : (kind : GroupKind) (o : Option autorefreshes.Autorefresh) → IsRefresh kind o → (us : List Word) → Never k.Autorefresh us → Put (refresh_of kind) 0 autorefresh o (refresh_words o ++ us) us
put_refresh kind None h us v = put_none (refresh_of kind) 0 autorefresh None us (λ ps r d. that (empty d)) (λ i. rw (v i) (ap (λ (o : Option autorefreshes.Autorefresh). let y : Refreshed = (o, tokens i us) in y) h))
put_refresh kind (Some r) h us v = put_clause kind r h us

-- a kind of group that may be dynamic
abbrev pub IsWay : GroupKind → Type 0
IsWay ReadOnly = Unit {0}
IsWay AsynchronousWritethrough = Unit {0}
IsWay SynchronousWritethrough = Unit {0}
IsWay UserManaged = ⊥

-- a cache group such as a statement can define
pub record IsGroup (g : groups.CreateGroup) : Type 0 where
  pub name : IsName g.name
  pub way : g.dynamic ≡ true → IsWay g.kind
  pub refresh : IsRefresh g.kind g.autorefresh
  pub tables : SomeGood (IsGroupTable g.kind) g.tables

abbrev tables_part : Grammar
tables_part = group_table ▸ repeated k.Comma group_table

abbrev from_part : Grammar
from_part = the k.From ▸ tables_part

abbrev refresh_part : Grammar
refresh_part = autorefresh ▸ from_part

abbrev name_part : Grammar
name_part = Named rules.Named ▸ refresh_part

abbrev Grouped : Type 0
Grouped = groups.CreateGroup × List Lexeme

abbrev from_words : groups.CreateGroup → List Word → List Word
from_words g us = codes "FROM" ∷ (listed group_table_words g.tables ++ us)

abbrev body_words : groups.CreateGroup → List Word → List Word
body_words g us = codes "CACHE" ∷ codes "GROUP" ∷ (name_words g.name ++ (refresh_words g.autorefresh ++ from_words g us))

refresh_never : (j : Kind) (o : Option autorefreshes.Autorefresh) (g : groups.CreateGroup) (us : List Word) → is_kind k.Autorefresh j ≡ false → is_kind k.From j ≡ false → Never j (refresh_words o ++ from_words g us)
refresh_never j None g us a b = never_word j k.From (codes "FROM") (listed group_table_words g.tables ++ us) from_word b
refresh_never j (Some r) g us a b = never_word j k.Autorefresh (codes "AUTOREFRESH") _ autorefresh_word a

put_body : (d : Bool) (g : groups.CreateGroup) → IsGroup g → d ≡ g.dynamic → (us : List Word) → Follows us → Never k.Comma us → Put (λ ls. group_named d g.kind (name_of (drop 2 ls))) 0 (Named rules.Group) g (body_words g us) us
put_body d g h e us s v =
    let w4 : List Word = from_words g us in
    let w3 : List Word = refresh_words g.autorefresh ++ w4 in
    let w2 : List Word = name_words g.name ++ w3 in
    let tabled : Put (λ ls. group_refreshed d g.name g.kind (g.autorefresh, ls)) 0 from_part g w4 us =
    put_word (λ ls. group_refreshed d g.name g.kind (g.autorefresh, ls)) (λ ls. grouped d g.name g.kind g.autorefresh (group_tables_of g.kind ls)) 0 from_part tables_part g k.From (codes "FROM") (listed group_table_words g.tables ++ us) us from_word (λ ps r x. both (token refl x)) (λ p ls. refl)
    (put_map (group_tables_of g.kind) (λ y. grouped d g.name g.kind g.autorefresh y) 0 tables_part g.tables g (listed group_table_words g.tables ++ us) us (λ ls. ap (λ (b : Bool). let y : Grouped = (record g { dynamic = b }, ls) in y) e) (put_group_tables g.kind g.tables h.tables us s v)) in
    let refreshed : Put (λ ls. group_named d g.kind (g.name, ls)) 0 refresh_part g w3 us =
    put_both (refresh_of g.kind) (λ y. group_refreshed d g.name g.kind y) 0 autorefresh from_part refresh_part g.autorefresh g w3 w4 us (λ ps r x. both x) (put_refresh g.kind g.autorefresh h.refresh w4 (never_word k.Autorefresh k.From (codes "FROM") _ from_word refl)) tabled in
    put_word (λ ls. group_named d g.kind (name_of (drop 2 ls))) (λ ls. group_named d g.kind (name_of (drop 1 ls))) 0 (Named rules.Group) (the k.Group ▸ name_part) g k.Cache (codes "CACHE") (codes "GROUP" ∷ w2) us cache_word (λ ps r x. named (both (token refl x))) (λ p ls. refl)
    (put_word (λ ls. group_named d g.kind (name_of (drop 1 ls))) (λ ls. group_named d g.kind (name_of ls)) 0 (the k.Group ▸ name_part) name_part g k.Group (codes "GROUP") w2 us group_word (λ ps r x. both (token refl x)) (λ p ls. refl)
    (put_both name_of (λ y. group_named d g.kind y) 0 (Named rules.Named) refresh_part name_part g.name g w2 w3 us (λ ps r x. both x) (put_name 0 g.name h.name w3 (refresh_never k.Dot g.autorefresh g us refl refl)) refreshed))

put_way : (kind : GroupKind) → IsWay kind → (us : List Word) → Put kind_of 0 way kind (kind_words kind ++ us) us
put_way ReadOnly h us = put_last kind_of 0 way ReadOnly k.Readonly (codes "READONLY") us readonly_word (λ ps r d. this refl (empty d)) (λ p ls. refl)
put_way AsynchronousWritethrough h us =
    put_word kind_of (λ ls. (AsynchronousWritethrough, drop 1 ls)) 0 way (the k.Writethrough) AsynchronousWritethrough k.Asynchronous (codes "ASYNCHRONOUS") (codes "WRITETHROUGH" ∷ us) us asynchronous_word (λ ps r d. that (this refl d)) (λ p ls. refl)
    (put_last (λ ls. (AsynchronousWritethrough, drop 1 ls)) 0 (the k.Writethrough) AsynchronousWritethrough k.Writethrough (codes "WRITETHROUGH") us writethrough_word (λ ps r d. token refl d) (λ p ls. refl))
put_way SynchronousWritethrough h us =
    put_word kind_of (λ ls. (SynchronousWritethrough, drop 1 ls)) 0 way (the k.Writethrough) SynchronousWritethrough k.Synchronous (codes "SYNCHRONOUS") (codes "WRITETHROUGH" ∷ us) us synchronous_word (λ ps r d. that (that (both (token refl d)))) (λ p ls. refl)
    (put_last (λ ls. (SynchronousWritethrough, drop 1 ls)) 0 (the k.Writethrough) SynchronousWritethrough k.Writethrough (codes "WRITETHROUGH") us writethrough_word (λ ps r d. token refl d) (λ p ls. refl))
put_way UserManaged h us = absurd h

put_kinded : (d : Bool) (g : groups.CreateGroup) → IsGroup g → d ≡ g.dynamic → IsWay g.kind → (us : List Word) → Follows us → Never k.Comma us → Put (λ ls. group_kinded d (kind_of ls)) 0 (way ▸ Named rules.Group) g (kind_words g.kind ++ body_words g us) us
put_kinded d g h e w us s v =
    put_both kind_of (λ y. group_kinded d y) 0 way (Named rules.Group) (way ▸ Named rules.Group) g.kind g (kind_words g.kind ++ body_words g us) (body_words g us) us (λ ps r x. both x) (put_way g.kind w (body_words g us)) (put_body d g h e us s v)

kind_never : (j : Kind) (kind : GroupKind) (us : List Word) → is_kind k.Readonly j ≡ false → is_kind k.Asynchronous j ≡ false → is_kind k.Synchronous j ≡ false → is_kind k.Usermanaged j ≡ false → Never j (kind_words kind ++ us)
kind_never j ReadOnly us a b c d = never_word j k.Readonly (codes "READONLY") us readonly_word a
kind_never j AsynchronousWritethrough us a b c d = never_word j k.Asynchronous (codes "ASYNCHRONOUS") (codes "WRITETHROUGH" ∷ us) asynchronous_word b
kind_never j SynchronousWritethrough us a b c d = never_word j k.Synchronous (codes "SYNCHRONOUS") (codes "WRITETHROUGH" ∷ us) synchronous_word c
kind_never j UserManaged us a b c d = never_word j k.Usermanaged (codes "USERMANAGED") us usermanaged_word d

abbrev start_words : groups.CreateGroup → List Word → List Word
start_words g us = where_so g.dynamic (codes "DYNAMIC" ∷ []) ++ (kind_words g.kind ++ body_words g us)

-- INDEX is no group
pub start_never : (j : Kind) (b : Bool) (kind : GroupKind) (us : List Word) → is_kind k.Dynamic j ≡ false → is_kind k.Readonly j ≡ false → is_kind k.Asynchronous j ≡ false → is_kind k.Synchronous j ≡ false → is_kind k.Usermanaged j ≡ false → Never j (where_so b (codes "DYNAMIC" ∷ []) ++ (kind_words kind ++ us))
start_never j true kind us z a b c d = never_word j k.Dynamic (codes "DYNAMIC") (kind_words kind ++ us) dynamic_word z
start_never j false kind us z a b c d = kind_never j kind us a b c d

not_dynamic : (ls : List Lexeme) → begins k.Dynamic ls ≡ false → group_of ls ≡ group_kinded false (kind_of ls)
unfolding group_of
not_dynamic ls h = rw h refl

user_says : (p : ℕ) (ls : List Lexeme) → group_of (lexeme k.Usermanaged p (codes "USERMANAGED") ∷ ls) ≡ group_kinded false (UserManaged, ls)
unfolding group_of
user_says p ls = refl

dynamic_says : (p : ℕ) (ls : List Lexeme) → group_of (lexeme k.Dynamic p (codes "DYNAMIC") ∷ ls) ≡ group_kinded true (kind_of ls)
unfolding group_of
dynamic_says p ls = refl

put_static_way : (g : groups.CreateGroup) → IsGroup g → false ≡ g.dynamic → IsWay g.kind → (us : List Word) → Follows us → Never k.Comma us → Put group_of 0 create_group g (kind_words g.kind ++ body_words g us) us
put_static_way g h e w us s v =
    put_as group_of (λ ls. group_kinded false (kind_of ls)) 0 create_group (way ▸ Named rules.Group) g (kind_words g.kind ++ body_words g us) us (λ ps r d. that (that d))
    (λ i. not_dynamic (tokens i (kind_words g.kind ++ body_words g us)) (kind_never k.Dynamic g.kind (body_words g us) refl refl refl refl i)) (put_kinded false g h e w us s v)

put_static : (g : groups.CreateGroup) → IsGroup g → false ≡ g.dynamic → (kind : GroupKind) → kind ≡ g.kind → (us : List Word) → Follows us → Never k.Comma us → Put group_of 0 create_group g (kind_words g.kind ++ body_words g us) us
put_static g h e ReadOnly q us s v = put_static_way g h e (subst (λ x. IsWay x) q tt) us s v
put_static g h e AsynchronousWritethrough q us s v = put_static_way g h e (subst (λ x. IsWay x) q tt) us s v
put_static g h e SynchronousWritethrough q us s v = put_static_way g h e (subst (λ x. IsWay x) q tt) us s v
put_static g h e UserManaged q us s v =
    subst (λ (x : GroupKind). Put group_of 0 create_group g (kind_words x ++ body_words g us) us) q
    (put_word group_of (λ ls. group_kinded false (UserManaged, ls)) 0 create_group (Named rules.Group) g k.Usermanaged (codes "USERMANAGED") (body_words g us) us usermanaged_word (λ ps r d. that (this refl d)) (λ p ls. user_says p ls)
    (subst (λ (x : GroupKind). Put (λ ls. group_kinded false (x, ls)) 0 (Named rules.Group) g (body_words g us) us) (sym q) (put_body false g h e us s v)))

put_started : (g : groups.CreateGroup) → IsGroup g → (b : Bool) → b ≡ g.dynamic → (us : List Word) → Follows us → Never k.Comma us → Put group_of 0 create_group g (where_so b (codes "DYNAMIC" ∷ []) ++ (kind_words g.kind ++ body_words g us)) us
put_started g h true e us s v =
    put_word group_of (λ ls. group_kinded true (kind_of ls)) 0 create_group (way ▸ Named rules.Group) g k.Dynamic (codes "DYNAMIC") (kind_words g.kind ++ body_words g us) us dynamic_word (λ ps r d. this refl d) (λ p ls. dynamic_says p ls)
    (put_kinded true g h e (h.way (sym e)) us s v)
put_started g h false e us s v = put_static g h e g.kind refl us s v

regrouped : (a kind name refresh tables us : List Word) (c d f : Word) → a ++ (kind ++ c ∷ d ∷ (name ++ (refresh ++ f ∷ (tables ++ us)))) ≡ ((((a ++ kind) ++ c ∷ d ∷ name) ++ refresh) ++ f ∷ tables) ++ us
regrouped a kind name refresh tables us c d f = simp append_assoc

pub group_words_are : (g : groups.CreateGroup) (us : List Word) → start_words g us ≡ group_words g ++ us
group_words_are g us = regrouped (where_so g.dynamic (codes "DYNAMIC" ∷ [])) (kind_words g.kind) (name_words g.name) (refresh_words g.autorefresh) (listed group_table_words g.tables) us (codes "CACHE") (codes "GROUP") (codes "FROM")

-- a group is read
pub put_group : (g : groups.CreateGroup) → IsGroup g → (us : List Word) → Follows us → Never k.Comma us → Put group_of 0 create_group g (group_words g ++ us) us
put_group g h us s v = put_words group_of 0 create_group g (start_words g us) (group_words g ++ us) us (group_words_are g us) (put_started g h g.dynamic refl us s v)

-- no group begins with such a token
pub group_never : (j : Kind) (g : groups.CreateGroup) (us : List Word) → is_kind k.Dynamic j ≡ false → is_kind k.Readonly j ≡ false → is_kind k.Asynchronous j ≡ false → is_kind k.Synchronous j ≡ false → is_kind k.Usermanaged j ≡ false → Never j (group_words g ++ us)
group_never j g us z a b c d = subst (λ (ws : List Word). Never j ws) (group_words_are g us) (start_never j g.dynamic g.kind (body_words g us) z a b c d)
