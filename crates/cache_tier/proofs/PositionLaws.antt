-- What changes of the groups keep the one position of each set.
use Rattle.std.proofs.Common.{◌≡◌, ◌⊎◌, inl, inr, ℕ, zero, suc, ◌+◌, Bool, true, false, ◌&&◌, ◌||◌, cond, not, Option, Some, None, List, [], ◌∷◌, ◌++◌, slice_get, map, nat_eq, refl, sym, ap, subst, ◌∙◌, arith}
use Rattle.std.proofs.lemmas.Bool.{eqb-true, eq-eqb}
use Rattle.std.specs.FinMap.{keys}
use Rattle.std.specs.List.{filter, flat_map, fold}
use Rattle.row_types.specs.declared.value.Value.{Value}
use Rattle.table_state.specs.declared.footprint.RowKey.{RowKey}
use Rattle.table_state.specs.declared.history.Entry.{Entry}
use Rattle.table_state.specs.declared.operation.Op.{Op}
use Rattle.table_state.specs.Operations.{table_of}
use Rattle.table_state.specs.Tables.{TableState}
use Rattle.cache_tier.specs.Aging.{aged, aged_rule, expired, leaving, with_horizon}
use Rattle.cache_tier.specs.declared.group.AgingRule.{AgingRule}
use Rattle.cache_tier.specs.declared.group.AgingRule.TheVariants.{ByTime, LastUse}
use Rattle.cache_tier.specs.Groups.{Group, covers, is_explicit, is_on, is_read_only, used, without_keys}
use Rattle.cache_tier.specs.Recency.{entered, left_by, op_key, used_by_ops, used_root, used_row, with_commit, with_entered}
use Rattle.cache_tier.specs.Sets.{OnePosition, alone, at_position, changed_from, has_something, holds_some, is_in_set, of_set, shows_in_set}
use Rattle.cache_tier.specs.Shown.{instance_key}
use Rattle.cache_tier.specs.Targets.{has_flag, with_flag}
use Rattle.cache_tier.specs.TierStates.{Tier}
use Rattle.cache_tier.specs.UnloadSteps.{unloaded}
use Rattle.cache_tier.proofs.SetLaws.{Came, Renewed, both, came, chosen_interval, renewed, still_one}

-- a group that shows no more than another one, at its position
pub record Weaker (g h : Group) : Type 0 where
  pub position : h.position ≡ g.position
  pub shows : (i : ℕ) → shows_in_set i h ≡ true → shows_in_set i g ≡ true

-- a group that shows nothing in any set
abbrev pub Hidden : Group → Type 0
Hidden h = (i : ℕ) → shows_in_set i h ≡ true → ⊥

pub same_group : (g : Group) → Weaker g g
same_group g = record { position = refl; shows = λ i e. e }

pub weaker_still : (a b c : Group) → Weaker a b → Weaker b c → Weaker a c
weaker_still a b c p q = record { position = q.position ∙ p.position; shows = λ i e. p.shows i (q.shows i e) }

-- where a group of a list comes from
pub record From (old : List Group) (h : Group) : Type 0 where
  pub g : Group
  pub place : ℕ
  pub there : slice_get old place ≡ Some g
  pub fate : Weaker g h ⊎ Hidden h

pub weaker_one : (old new : List Group) → ((place : ℕ) (h : Group) → slice_get new place ≡ Some h → From old h) → OnePosition old → OnePosition new
weaker_one old new all one set i j g h at_i at_j shows_g shows_h = by (all i g at_i) (all j h at_j)
  where
    two : (x y : Group) (m n : ℕ) → slice_get old m ≡ Some x → slice_get old n ≡ Some y → Weaker x g ⊎ Hidden g → Weaker y h ⊎ Hidden h → g.position ≡ h.position
    two x y m n p q (inl a) (inl b) = a.position ∙ one set m n x y p q (a.shows set shows_g) (b.shows set shows_h) ∙ sym b.position
    two x y m n p q (inr a) b = absurd (a set shows_g)
    two x y m n p q (inl a) (inr b) = absurd (b set shows_h)

    by : From old g → From old h → g.position ≡ h.position
    by a b = two a.g b.g a.place b.place a.there b.there a.fate b.fate

-- lists whose groups are changed one by one

abbrev pub Lessens : (Group → Group) → Type 0
Lessens f = (g : Group) → Weaker g (f g) ⊎ Hidden (f g)

mapped : (f : Group → Group) → Lessens f → (groups old : List Group) (shift place : ℕ) (h : Group) → ((n : ℕ) (g : Group) → slice_get groups n ≡ Some g → slice_get old (shift + n) ≡ Some g) → slice_get (map f groups) place ≡ Some h → From old h
mapped f less [] old shift place h at there = cc
mapped f less (g ∷ groups) old shift zero h at there =
    let is : f g ≡ h = cc in
    record { g = g; place = shift + 0; there = at 0 g refl; fate = subst (λ x. Weaker g x ⊎ Hidden x) is (less g) }
mapped f less (g ∷ groups) old shift (suc place) h at there =
    mapped f less groups old (shift + 1) place h (λ n x e. let same : shift + 1 + n ≡ shift + suc n = omega arith in ap (slice_get old) same ∙ at (suc n) x e) there

pub map_one : (f : Group → Group) → Lessens f → (groups : List Group) → OnePosition groups → OnePosition (map f groups)
map_one f less groups = weaker_one groups (map f groups) (λ place h. mapped f less groups groups 0 place h (λ n g e. let same : 0 + n ≡ n = omega arith in ap (slice_get groups) same ∙ e))

-- one place alone is changed, where the group there is this one
pub alone_one : (groups : List Group) (place : ℕ) (f : Group → Group) → ((g : Group) → slice_get groups place ≡ Some g → Weaker g (f g) ⊎ Hidden (f g)) → OnePosition groups → OnePosition (changed_from (alone place) f 0 groups)
alone_one groups place f less = weaker_one groups _ (λ other h there. from other h (came (alone place) f groups 0 other other h (omega arith) there))
  where
    from : (other : ℕ) (h : Group) → Came (alone place) f groups other other h → From groups h
    from other h c = by (nat_eq other place) refl
      where
        by : (b : Bool) → nat_eq other place ≡ b → From groups h
        by true e =
            let now : h ≡ f c.g = c.is ∙ ap (λ b. cond b (f c.g) c.g) e in
            record { g = c.g; place = other; there = c.there; fate = subst (λ x. Weaker c.g x ⊎ Hidden x) (sym now) (less c.g (ap (slice_get groups) (sym (eqb-true other place e)) ∙ c.there)) }
        by false e =
            let now : h ≡ c.g = c.is ∙ ap (λ b. cond b (f c.g) c.g) e in
            record { g = c.g; place = other; there = c.there; fate = inl (subst (λ x. Weaker c.g x) (sym now) (same_group c.g)) }

gone_step : (p : Group → Bool) (g : Group) (groups old : List Group) (shift place : ℕ) (h : Group) → ((n : ℕ) (x : Group) → slice_get (g ∷ groups) n ≡ Some x → slice_get old (shift + n) ≡ Some x) → ((place : ℕ) → slice_get (filter p groups) place ≡ Some h → From old h)
    → (b : Bool) → slice_get (cond b (g ∷ filter p groups) (filter p groups)) place ≡ Some h → From old h
gone_step p g groups old shift place h at rest false there = rest place there
gone_step p g groups old shift zero h at rest true there = let is : g ≡ h = cc in record { g = g; place = shift + 0; there = at 0 g refl; fate = inl (subst (λ x. Weaker g x) is (same_group g)) }
gone_step p g groups old shift (suc place) h at rest true there = rest place there

-- some groups go
gone_from : (p : Group → Bool) (groups old : List Group) (shift place : ℕ) (h : Group) → ((n : ℕ) (g : Group) → slice_get groups n ≡ Some g → slice_get old (shift + n) ≡ Some g) → slice_get (filter p groups) place ≡ Some h → From old h
gone_from p [] old shift place h at there = cc
gone_from p (g ∷ groups) old shift place h at there = gone_step p g groups old shift place h at (λ place. gone_from p groups old (shift + 1) place h (λ n x e. let same : shift + 1 + n ≡ shift + suc n = omega arith in ap (slice_get old) same ∙ at (suc n) x e)) (p g) there

pub filter_one : (p : Group → Bool) (groups : List Group) → OnePosition groups → OnePosition (filter p groups)
filter_one p groups = weaker_one groups (filter p groups) (λ place h. gone_from p groups groups 0 place h (λ n g e. let same : 0 + n ≡ n = omega arith in ap (slice_get groups) same ∙ e))

-- a group that has nothing to show comes behind the others
pushed : (groups : List Group) (last h : Group) (place : ℕ) → slice_get (groups ++ last ∷ []) place ≡ Some h → (slice_get groups place ≡ Some h) ⊎ (h ≡ last)
pushed [] last h zero e = let same : last ≡ h = cc in inr (sym same)
pushed [] last h (suc place) e = cc
pushed (g ∷ groups) last h zero e = inl e
pushed (g ∷ groups) last h (suc place) e = pushed groups last h place e

pub push_one : (groups : List Group) (last : Group) → Hidden last → OnePosition groups → OnePosition (groups ++ last ∷ [])
push_one groups last hidden one set i j g h at_i at_j shows_g shows_h = by (pushed groups last g i at_i) (pushed groups last h j at_j)
  where
    by : (slice_get groups i ≡ Some g) ⊎ (g ≡ last) → (slice_get groups j ≡ Some h) ⊎ (h ≡ last) → g.position ≡ h.position
    by (inl p) (inl q) = one set i j g h p q shows_g shows_h
    by (inr p) q = absurd (hidden set (sym (ap (shows_in_set set) p) ∙ shows_g))
    by (inl p) (inr q) = absurd (hidden set (sym (ap (shows_in_set set) q) ∙ shows_h))

-- what lessens a group

abbrev pub FewerKeys : List (List Value) → List (List Value) → Type 0
FewerKeys new old = holds_some new ≡ true → holds_some old ≡ true

lessened : (a l l' e e' : Bool) → (l' ≡ true → l ≡ true) → (e' ≡ true → e ≡ true) → (b : Bool) → (a && cond b l' e') ≡ true → (a && cond b l e) ≡ true
lessened true l l' e e' f g true p = f p
lessened true l l' e e' f g false p = g p
lessened false l l' e e' f g b p = p

-- fewer keys, or the flag cleared
pub with_fewer : (g : Group) (keys : List (List Value)) → FewerKeys keys g.keys → Weaker g (record g { keys = keys })
with_fewer g keys fewer = record { position = refl; shows = λ i. lessened (is_in_set i g) g.loaded g.loaded (holds_some g.keys) (holds_some keys) (λ x. x) fewer (is_explicit g) }

pub not_loaded : (g : Group) → Weaker g (record g { loaded = false })
not_loaded g = record { position = refl; shows = λ i. lessened (is_in_set i g) g.loaded false (holds_some g.keys) (holds_some g.keys) (λ x. cc) (λ x. x) (is_explicit g) }

pub fewer_without : (gone keys : List (List Value)) → FewerKeys (without_keys gone keys) keys
fewer_without gone [] e = e
fewer_without gone (k ∷ keys) e = refl

pub fewer_filtered : (p : List Value → Bool) (keys : List (List Value)) → FewerKeys (filter p keys) keys
fewer_filtered p [] e = e
fewer_filtered p (k ∷ keys) e = refl

fewer_used : (key : List Value) (keys : List (List Value)) → FewerKeys (used key keys) keys
fewer_used key [] e = e
fewer_used key (k ∷ keys) e = refl

-- of no READONLY group, or of one that isn't ON, nothing is shown in a set
pub hidden_kind : (h : Group) → is_read_only h ≡ false → Hidden h
hidden_kind h e i s = let now = (both (is_read_only h) _ (both (is_read_only h && nat_eq h.def.interval i) (is_on h.state) (both (is_in_set i h) (has_something h) s).0).0).0 in absurd (clash (is_read_only h) e now)
  where
    clash : (b : Bool) → b ≡ false → b ≡ true → ⊥
    clash b p q = cc

pub hidden_state : (h : Group) → is_on h.state ≡ false → Hidden h
hidden_state h e i s = let now = (both (is_read_only h && nat_eq h.def.interval i) (is_on h.state) (both (is_in_set i h) (has_something h) s).0).1 in absurd (clash (is_on h.state) e now)
  where
    clash : (b : Bool) → b ≡ false → b ≡ true → ⊥
    clash b p q = cc

pub hidden_empty : (h : Group) → has_something h ≡ false → Hidden h
hidden_empty h e i s = let now = (both (is_in_set i h) (has_something h) s).1 in absurd (clash (has_something h) e now)
  where
    clash : (b : Bool) → b ≡ false → b ≡ true → ⊥
    clash b p q = cc

-- use
root_weaker : (o : Option (List Value)) (g : Group) → Weaker g (used_root o g)
root_weaker None g = same_group g
root_weaker (Some root) g = with_fewer g (used root g.keys) (fewer_used root g.keys)

pub row_weaker : (s : TableState) (key : RowKey) (g : Group) → Weaker g (used_row s key g)
row_weaker s key g = root_weaker (instance_key s g key.table key.key) g

pub rows_weaker : (s : TableState) (rows : List RowKey) (a g : Group) → Weaker a g → Weaker a (fold (λ h row. used_row s row h) g rows)
rows_weaker s [] a g p = p
rows_weaker s (row ∷ rows) a g p = rows_weaker s rows a (used_row s row g) (weaker_still a g (used_row s row g) p (row_weaker s row g))

pub ops_weaker : (step : Op → TableState → TableState) (ops : List Op) (s : TableState) (a g : Group) → Weaker a g → Weaker a (used_by_ops step ops s g)
ops_weaker step [] s a g p = p
ops_weaker step (op ∷ ops) s a g p = ops_weaker step ops (step op s) a _ (by (covers (table_of op) g))
  where
    by : (b : Bool) → Weaker a (cond b (used_row (step op s) (op_key s op) (used_row s (op_key s op) g)) g)
    by true = weaker_still a _ _ p (weaker_still g _ _ (row_weaker s (op_key s op) g) (row_weaker (step op s) (op_key s op) (used_row s (op_key s op) g)))
    by false = p

-- a commit
chosen_kind : (x g : Group) (b : Bool) → (b ≡ false → Hidden x) → Weaker g (cond (not b) x g) ⊎ Hidden (cond (not b) x g)
chosen_kind x g true hidden = inl (same_group g)
chosen_kind x g false hidden = inr (hidden refl)

pub commit_lessens : (s : TableState) (ops : List Op) → Lessens (with_commit s ops)
commit_lessens s ops g = let x : Group = record g { keys = with_entered (keys (entered s g ops)) (flat_map (left_by s g) ops) g.keys } in chosen_kind x g (is_read_only g) (hidden_kind x)

-- aging
pub aged_weaker : (history : List Entry) (t : Tier) (g : Group) → Weaker g (aged history t g)
aged_weaker history t g = by g.def.aging
  where
    timed : (x : Group) (b : Bool) → Weaker g x → Weaker g (record (cond b x (record x { keys = without_keys (expired history t x) x.keys })) { aged = t.now })
    timed x true p = record { position = p.position; shows = p.shows }
    timed x false p = let q = weaker_still g x _ p (with_fewer x _ (fewer_without (expired history t x) x.keys)) in record { position = q.position; shows = q.shows }

    by : (o : Option AgingRule) → Weaker g (record (aged_rule history t o g) { aged = t.now })
    by None = record { position = refl; shows = λ i e. e }
    by (Some LastUse) = let q = with_fewer g _ (fewer_without (leaving _ _ _ g.keys) g.keys) in record { position = q.position; shows = q.shows }
    by (Some (ByTime rule)) = timed (with_horizon t.now rule g) (is_read_only (with_horizon t.now rule g)) (record { position = refl; shows = λ i e. e })

-- UNLOAD
pub unloaded_weaker : (gone : List (List Value)) (all : Bool) (g : Group) → Weaker g (unloaded gone all g)
unloaded_weaker gone false g = with_fewer g _ (fewer_without gone g.keys)
unloaded_weaker gone true g = by (has_flag g)
  where
    less : Weaker g (record g { keys = without_keys gone g.keys })
    less = with_fewer g _ (fewer_without gone g.keys)

    by : (b : Bool) → Weaker g (cond b (record (record g { keys = without_keys gone g.keys }) { loaded = false }) (record g { keys = without_keys gone g.keys }))
    by true = weaker_still g _ _ less (not_loaded (record g { keys = without_keys gone g.keys }))
    by false = less

-- what a set becomes that a group joins: the group has the new position, and stays so whatever else changes of it
pub record Joined (interval n place : ℕ) (groups : List Group) (other : ℕ) (h : Group) : Type 0 where
  pub new : Renewed interval n groups other h
  pub here : other ≡ place → (h.position ≡ Some n) × (h.def.interval ≡ interval)

with_place : (a b : Bool) → b ≡ true → (a || b) ≡ true
with_place true b e = refl
with_place false b e = e

module _ (interval place n : ℕ) (groups : List Group) (joins : (g : Group) → slice_get groups place ≡ Some g → g.def.interval ≡ interval) where
  joins_at : (other : ℕ) (g : Group) → Some place ≡ Some other → slice_get groups other ≡ Some g → g.def.interval ≡ interval
  joins_at other g e there = let same : place ≡ other = cc in joins g (ap (slice_get groups) same ∙ there)

  pub join_base : (s : TableState) (other : ℕ) (h : Group) → slice_get (changed_from (of_set interval (Some place)) (at_position n s) 0 groups) other ≡ Some h → Joined interval n place groups other h
  join_base s other h there =
      let c = came (of_set interval (Some place)) (at_position n s) groups 0 other other h (omega arith) there in
      record {
        new = renewed interval (Some place) n s groups joins_at other h there;
        here = λ e.
            let picked : of_set interval (Some place) other c.g ≡ true = with_place (is_in_set interval c.g) (nat_eq place other) (eq-eqb place other (sym e)) in
            let now : h ≡ at_position n s c.g = c.is ∙ ap (λ b. cond b (at_position n s c.g) c.g) picked in
            (ap (λ (y : Group). y.position) now, ap (λ (y : Group). y.def.interval) now ∙ chosen_interval interval (Some place) n s groups joins_at other c.g c.there picked);
      }

  pub join_step : (f : Group → Group) → ((g : Group) → (f g).position ≡ g.position) → ((g : Group) → (f g).def.interval ≡ g.def.interval) → (mid : List Group) → ((other : ℕ) (h : Group) → slice_get mid other ≡ Some h → Joined interval n place groups other h)
      → (other : ℕ) (h : Group) → slice_get (changed_from (alone place) f 0 mid) other ≡ Some h → Joined interval n place groups other h
  join_step f position def mid all other h there =
      let c = came (alone place) f mid 0 other other h (omega arith) there in
      by c.g c.is (all other c.g c.there) (nat_eq other place) refl
    where
      by : (x : Group) → h ≡ cond (nat_eq other place) (f x) x → Joined interval n place groups other x → (b : Bool) → nat_eq other place ≡ b → Joined interval n place groups other h
      by x is before true e =
          let now : h ≡ f x = is ∙ ap (λ b. cond b (f x) x) e in
          let p = before.here (eqb-true other place e) in
          let q : (h.position ≡ Some n) × (h.def.interval ≡ interval) = (ap (λ (y : Group). y.position) now ∙ position x ∙ p.0, ap (λ (y : Group). y.def.interval) now ∙ def x ∙ p.1) in
          record { new = record { g = before.new.g; there = before.new.there; fate = inl q }; here = λ same. q }
      by x is before false e = subst (λ y. Joined interval n place groups other y) (sym (is ∙ ap (λ b. cond b (f x) x) e)) before

  pub join_one : (new : List Group) → ((other : ℕ) (h : Group) → slice_get new other ≡ Some h → Joined interval n place groups other h) → OnePosition groups → OnePosition new
  join_one new all = still_one interval n groups new (λ other h there. (all other h there).new)

-- one place is changed twice, and shows nothing then
pub alone_twice : (groups : List Group) (place : ℕ) (k f : Group → Group) → ((g : Group) → slice_get groups place ≡ Some g → Hidden (f (k g))) → OnePosition groups → OnePosition (changed_from (alone place) f 0 (changed_from (alone place) k 0 groups))
alone_twice groups place k f hidden = weaker_one groups _ (λ other h there. from other h (came (alone place) f (changed_from (alone place) k 0 groups) 0 other other h (omega arith) there))
  where
    from : (other : ℕ) (h : Group) → Came (alone place) f (changed_from (alone place) k 0 groups) other other h → From groups h
    from other h c = by (came (alone place) k groups 0 other other c.g (omega arith) c.there) (nat_eq other place) refl
      where
        by : Came (alone place) k groups other other c.g → (b : Bool) → nat_eq other place ≡ b → From groups h
        by a true e =
            let inner : c.g ≡ k a.g = a.is ∙ ap (λ b. cond b (k a.g) a.g) e in
            let now : h ≡ f (k a.g) = c.is ∙ ap (λ b. cond b (f c.g) c.g) e ∙ ap f inner in
            record { g = a.g; place = other; there = a.there; fate = inr (subst Hidden (sym now) (hidden a.g (ap (slice_get groups) (sym (eqb-true other place e)) ∙ a.there))) }
        by a false e =
            let now : h ≡ a.g = c.is ∙ ap (λ b. cond b (f c.g) c.g) e ∙ a.is ∙ ap (λ b. cond b (k a.g) a.g) e in
            record { g = a.g; place = other; there = a.there; fate = inl (subst (λ x. Weaker a.g x) (sym now) (same_group a.g)) }

-- the loaded flag changes nothing else
flag_case : (P : Group → Type 0) (b : Bool) (x g : Group) → P x → P g → P (cond b x g)
flag_case P true x g p q = p
flag_case P false x g p q = q

pub flag_position : (flag : Bool) (g : Group) → (with_flag flag g).position ≡ g.position
flag_position flag g = flag_case (λ x. x.position ≡ g.position) (has_flag g) (record g { loaded = flag }) g refl refl

pub flag_interval : (flag : Bool) (g : Group) → (with_flag flag g).def.interval ≡ g.def.interval
flag_interval flag g = flag_case (λ x. x.def.interval ≡ g.def.interval) (has_flag g) (record g { loaded = flag }) g refl refl

pub flag_state : (flag : Bool) (g : Group) → (with_flag flag g).state ≡ g.state
flag_state flag g = flag_case (λ x. x.state ≡ g.state) (has_flag g) (record g { loaded = flag }) g refl refl

pub flag_kind : (flag : Bool) (g : Group) → is_read_only (with_flag flag g) ≡ is_read_only g
flag_kind flag g = flag_case (λ x. is_read_only x ≡ is_read_only g) (has_flag g) (record g { loaded = flag }) g refl refl
