-- What the words of the program ask for, by the rules of `clap`. (The commands are this project's.)

use Rattle.std.specs.Prelude.{◌≡◌, ◌≢◌, ◌⊎◌, ◌<◌, ◌≤◌, ◌^◌, ℕ, List, [], ◌∷◌, map, codes, Some, option_map, pos, true}
use Rattle.std.specs.Borrow.{Bor}
use Rattle.std.specs.Option.{IfSome}
use Rattle.std.specs.Str.Parse.{IsNumeral, digits_value, without_leading_plus}
use Rattle.clap.specs.Words.{App, Row, Rule, Text, fault_of, first_of as first_text, new_app, new_rule, one_of, subcommand_of, with_rule, with_subcommand}
use Rattle.clap.specs.declared.builder.action.ArgAction.TheVariants.{Set}
use Rattle.clap.specs.declared.builder.value_parser.ValueParser.TheVariants as parse
use Rattle.command_line.specs.declared.command.Command.{Command}
use Rattle.command_line.specs.declared.command.Command.TheVariants.{Run, Check, Import, Make, Bench}

-- the word of a command
abbrev pub word_of : Command → Text
word_of Run = codes "run"
word_of Check = codes "check"
word_of (Import table) = codes "import"
word_of (Make n) = codes "make"
word_of (Bench n) = codes "bench"

abbrev pub IsWord : Text → Type 0
IsWord word =
    (word ≡ codes "run") ⊎ ((word ≡ codes "check") ⊎ ((word ≡ codes "import")
    ⊎ ((word ≡ codes "make") ⊎ (word ≡ codes "bench"))))

-- the name of a table must stand behind the word, which may be any text
abbrev pub table_rule : Rule
table_rule = record (new_rule (codes "TABLE")) { required = true; action = Some Set }

abbrev pub importing : App
importing = with_rule (new_app (codes "import")) table_rule

-- a number must stand behind the word, from 0 to 1,000,000
abbrev pub number_rule : Rule
number_rule =
    record (new_rule (codes "N")) {
      required = true;
      action = Some Set;
      parser =
          Some (parse.Signed (pos 0) (pos 1000000));
    }

abbrev pub counting : Text → App
counting word = with_rule (new_app word) number_rule

-- one of the commands must be named, and `help` is none of them
abbrev pub wanting : App → App
wanting app = record app { top = record app.top { subcommand_required = true; disable_help_subcommand = true } }

-- the program's name, and the words of the commands that read what is given to the program
abbrev pub given_lines : App
given_lines =
    with_subcommand
    (with_subcommand (with_subcommand (wanting (new_app (codes "ttcache"))) (new_app (codes "run")).top)
    (new_app (codes "check")).top)
    importing.top

-- the command line: the program's name, then the word of one of its commands, with what stands behind it
abbrev pub program : App
program = with_subcommand (with_subcommand given_lines (counting (codes "make")).top) (counting (codes "bench")).top

-- `clap` refuses the words: it names a kind of error for them. Help that is asked for is one of these kinds, want of
-- memory is none.
abbrev pub Refuses : List Text → Type 0
Refuses words = fault_of program words ≢ []

-- The number is the one that is read of N. Of a text that is no number, which `clap` refuses, nothing is said.
abbrev pub IsCount : List Row → ℕ → Type 0
IsCount rows n =
    (t : Text) → one_of (codes "N") rows ≡ Some t → IsNumeral 10 (without_leading_plus t)
    → digits_value 10 (without_leading_plus t) < 2 ^ 32 → n ≡ digits_value 10 (without_leading_plus t)

-- the text is the one that is read of TABLE
abbrev pub IsTableText : List Row → Text → Type 0
IsTableText rows table = (t : Text) → first_text (codes "TABLE") rows ≡ Some t → table ≡ t

-- what stands behind the word of a command
abbrev pub HasValues : Command → List Row → Type 0
HasValues Run rows = Unit {0}
HasValues Check rows = Unit {0}
HasValues (Import table) rows = IsTableText rows table.now
HasValues (Make n) rows = IsCount rows n
HasValues (Bench n) rows = IsCount rows n

-- no hyphen stands first, so `clap` takes the text for no option
abbrev pub IsUnhyphened : Text → Type 0
IsUnhyphened [] = Unit {0}
IsUnhyphened (b ∷ text) = b ≢ 45

-- digits that are a number in the range of N, and nothing else
pub record IsNumberText (text : Text) (n : ℕ) : Type 0 where
  pub digits : IsNumeral 10 text
  pub value : digits_value 10 text ≡ n
  pub within : n ≤ 1000000

-- `clap` takes the words, and they name this command
abbrev pub Asks : List Text → Command → Type 0
Asks words command =
    (fault_of program words ≡ [])
    × (option_map (λ named. named.0) (subcommand_of program words) ≡ Some (word_of command))
    × IfSome (subcommand_of program words) (λ named. HasValues command named.1)

-- words as the program gets them
abbrev pub texts : List (Bor (List ℕ)) → List Text
texts words = map (λ word. word.now) words
