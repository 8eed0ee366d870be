-- The group of a definition that no rule refuses is one that may come; and what a failed flush of the definition leaves.
use Rattle.std.proofs.Common.{◌≡◌, ℕ, true, false, ◌&&◌, ◌||◌, Option, Some, None, List, [], ◌∷◌, refl, sym, ap, ◌∙◌}
use Rattle.std.specs.List.{list_all, list_any}
use Rattle.std.specs.Option.{is_none, option_or}
use Rattle.tier_base.specs.declared.code.Code.TheVariants as code
use Rattle.tier_base.specs.declared.number.TableId.{TableId}
use Rattle.row_types.specs.declared.rule.Rule.{Rule}
use Rattle.table_state.specs.declared.history.Sealed.{Sealed}
use Rattle.instances.specs.declared.tree.Child.{Child}
use Rattle.instances.specs.declared.tree.Tree.{Tree}
use Rattle.sql_subset.specs.declared.request.Line.TheVariants as says
use Rattle.sql_subset.specs.declared.request.Request.TheVariants as asks_for
use Rattle.sql_subset.specs.declared.stmt.CreateGroup.{CreateGroup}
use Rattle.sql_subset.specs.declared.stmt.GroupKind.{GroupKind}
use Rattle.sql_subset.specs.declared.stmt.GroupKind.TheVariants as kind
use Rattle.sql_subset.specs.declared.stmt.Stmt.TheVariants as statement
use Rattle.cache_tier.specs.ConsoleSteps.{asks_schema}
use Rattle.cache_tier.specs.declared.reply.Reply.{Reply}
use Rattle.cache_tier.specs.Defining.{IsNewGroup}
use Rattle.cache_tier.specs.DefineSteps.{CreatesGroup}
use Rattle.cache_tier.specs.Definitions.{definition_fault, definition_names, definition_types, is_read_only_kind}
use Rattle.cache_tier.specs.Groups.{Group, definitions_of, is_defined_on, is_writethrough}
use Rattle.cache_tier.specs.Order.{refusal}
use Rattle.cache_tier.specs.Rules.{open_writes}
use Rattle.cache_tier.specs.StandingBetween.{HasNoTableOf, has_no_where}
use Rattle.cache_tier.specs.Steps.{tells}
use Rattle.cache_tier.specs.TierStates.{Session}
use Rattle.cache_tier.specs.Worlds.{World}
use Rattle.cache_tier.proofs.HistoryKeeps.{root_covers}
use Rattle.group_catalog.specs.Sound.{AreUnfiltered, IsAccepted, IsUnfiltered}
use Rattle.group_catalog.proofs.AcceptedLaws.{has_new_tables, stands_apart, writes_all}
use Rattle.recovery.specs.Recalling.{group_of}
use Rattle.line_laws.specs.Keeping.{IsBrokenOff}
use Rattle.line_laws.proofs.BrokenCommits.{creates_made_broken}
use Rattle.run_laws.proofs.CreateLaws.{named_free, told}
use Rattle.run_laws.proofs.ReadyLaws.{Ready}

-- the definition breaks no rule, were there uncommitted writes or not
rested : (names own rest : Option Rule) → option_or names (option_or own rest) ≡ None → option_or names rest ≡ None
rested None None rest e = e
rested None (Some rule) rest e = Prim.cc
rested (Some rule) own rest e = Prim.cc

kind_of : (g : Group) → is_writethrough g ≡ true → is_read_only_kind g.def.kind ≡ false
kind_of g e = by g.def.kind e
  where
    by : (k : GroupKind) → is_writethrough (record g { def = record (g.def) { kind = k } }) ≡ true → is_read_only_kind k ≡ false
    by kind.ReadOnly e = Prim.cc
    by kind.AsynchronousWritethrough e = refl
    by kind.SynchronousWritethrough e = refl
    by kind.UserManaged e = refl

unfiltered : (tree : Tree) → IsUnfiltered tree → has_no_where tree ≡ true
unfiltered tree none = λ i. is_none (none.0 i) && all tree.children none.1 i
  where
    all : (children : List Child) → AreUnfiltered children → list_all (λ (c : Child). is_none c.filter) children ≡ true
    all [] none = refl
    all (c ∷ children) none = λ i. is_none (none.0 i) && all children none.1 i

any_definition : (t : TableId) (groups : List Group) → list_any (is_defined_on t) (definitions_of groups) ≡ list_any (λ (g : Group). is_defined_on t g.def) groups
any_definition t [] = refl
any_definition t (g ∷ groups) = ap (λ b. is_defined_on t g.def || b) (any_definition t groups)

-- the group that the definition makes is one that may come
module _ (w w' : World) (reply : Reply) (label : List ℕ) (s : Session) (d : CreateGroup) (asked : asks_schema w.tier (says.Session label (asks_for.Statement (statement.CreateGroup d))) ≡ false) (free : refusal w.tier s (statement.CreateGroup d) ≡ None) (q : CreatesGroup d w w' reply) where
  accepted : IsAccepted w.tier.schema (definitions_of w.tier.groups) d q.tree
  accepted = record {
    has_writes = false;
    sound = rested (definition_names w.tier.schema (definitions_of w.tier.groups) d) (open_writes s.own) (option_or (definition_types w.tier.schema d) (definition_fault w.tier.schema (definitions_of w.tier.groups) d)) free;
    tree_of = q.is;
  }

  apart : HasNoTableOf w.tier.groups (group_of w.tier d q.tree)
  apart t here = sym (any_definition t w.tier.groups) ∙ has_new_tables w.tier.schema (definitions_of w.tier.groups) d q.tree accepted t here

  pub comes_new : IsNewGroup w (group_of w.tier d q.tree)
  comes_new = record {
    told = told w.tier label d q.tree asked q.is (apart q.tree.root.table (root_covers (group_of w.tier d q.tree)));
    sound =
        record {
          sound = q.sound;
          plain = λ through. unfiltered q.tree (writes_all w.tier.schema (definitions_of w.tier.groups) d q.tree accepted (kind_of (group_of w.tier d q.tree) through));
          free = λ through. q.free (kind_of (group_of w.tier d q.tree) through);
        };
    apart = apart;
    closed = λ through. stands_apart w.tier.schema (definitions_of w.tier.groups) d q.tree accepted (kind_of (group_of w.tier d q.tree) through);
    first = refl;
    keys = refl;
    unloaded = refl;
    position = refl;
  }

-- where the flush of its definition failed, the journal may be that of the tier that has it
pub creates_line_broken : (w w' : World) (early : List Sealed) (reply : Reply) (label : List ℕ) (s : Session) (d : CreateGroup) → Ready w early → asks_schema w.tier (says.Session label (asks_for.Statement (statement.CreateGroup d))) ≡ false
    → refusal w.tier s (statement.CreateGroup d) ≡ None → CreatesGroup d w w' reply → tells code.JournalFault reply.last ≡ true → IsBrokenOff w' early
creates_line_broken w w' early reply label s d r asked free q broken =
    creates_made_broken d w w' early reply r.stands r.journalled (named_free w.tier s d free) q (comes_new w w' reply label s d asked free q) broken
