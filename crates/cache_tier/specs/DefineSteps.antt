-- CREATE CACHE GROUP. (TimesTen SQL Reference, "CREATE CACHE GROUP".)

use Rattle.std.specs.Prelude.{◌≡◌, [], ◌∷◌, ◌++◌, None, true, false}
use Rattle.instances.specs.declared.tree.Tree.{Tree}
use Rattle.instances.specs.Trees.{is_sound}
use Rattle.cache_tier.specs.JournalSteps.{Flushes, journal_fault}
use Rattle.cache_tier.specs.declared.reply.Reply.{Reply}
use Rattle.cache_tier.specs.declared.reply.Last.TheVariants.{Done}
use Rattle.sql_subset.specs.declared.stmt.CreateGroup.{CreateGroup}
use Rattle.cache_tier.specs.Definitions.{IsTreeOf, defined_by, is_read_only_kind, new_group, placed_tables, text_of}
use Rattle.cache_tier.specs.Journals.{Defines}
use Rattle.cache_tier.specs.Reading.{Answers}
use Rattle.cache_tier.specs.StandingBetween.{foreign_key_in}
use Rattle.cache_tier.specs.TierStates.{Tier}
use Rattle.cache_tier.specs.Worlds.{Answer, Then, Unless, World, only}

-- the group comes behind the others
abbrev pub with_new_group : CreateGroup → Tree → Tier → Tier
with_new_group d tree t = record t { groups = t.groups ++ new_group t.next t.now d (defined_by t.schema d tree) ∷ [] }

abbrev pub define_answer : CreateGroup → Tree → World → Answer
define_answer d tree w = (with_new_group d tree w.tier, only (Done 0))

-- The definition is flushed, and the group is there. In its tree each child refers to its parent, and the root of a
-- writethrough group refers to no table: the letters of 114 see to it.
pub record CreatesGroup (d : CreateGroup) (w w' : World) (reply : Reply) : Type 0 where
  pub tree : Tree
  pub is : IsTreeOf (placed_tables w.tier.schema d) tree
  pub sound : is_sound w.tier.schema tree ≡ true
  pub free : is_read_only_kind d.kind ≡ false → foreign_key_in w.tier.schema tree.root.table ≡ None
  pub does :
      Unless (journal_fault w (Defines d (text_of d) ∷ []))
      (Then (Flushes (Defines d (text_of d) ∷ [])) (Answers (define_answer d tree))) w w' reply
