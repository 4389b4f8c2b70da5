-- The command line of the program, as data.
use Rattle.std.specs.Prelude.{◌≡◌, Bool, true, false, List, [], ◌∷◌, ◌++◌, Some, codes}
use Rattle.clap.specs.Lexer.{usize_max}
use Rattle.clap.specs.Words.{App, Rule, Shape, Text, new_app, new_rule, with_rule, with_subcommand, app_of, shape_of, rule_of}
use Rattle.clap.specs.declared.builder.action.ArgAction.TheVariants.{SetTrue}
use Rattle.clap.specs.declared.builder.arg.Arg.{Arg}
use Rattle.clap.specs.declared.builder.command.Command.{Command}
use Rattle.clap.specs.declared.builder.command.Command.TheViews.{out-Command}
use Rattle.clap.specs.declared.builder.range.ValueRange.{ValueRange}

-- ---- arguments

-- a word that has to be there, with its name in texts
abbrev pub required : Text → Rule
required id = record (new_rule id) { required = true; value_names = 1 }

-- one word or more
abbrev pub one_or_more : Text → Rule
one_or_more id = record (required id) { range = Some (record { start_inclusive = 1; end_inclusive = usize_max }) }

-- an option with a value, and its value where it is left out
abbrev pub option : Text → Text → Rule
option id default = record (new_rule id) { long = Some id; value_names = 1; defaults = default ∷ [] }

-- an option without a value
abbrev pub flag : Text → Rule
flag id = record (new_rule id) { long = Some id; action = Some SetTrue }

-- the rule by which clap reads --shards, with its value where it is left out
abbrev pub shards_rule : Text → Rule
shards_rule = option (codes "shards")

-- the rule by which clap reads --coordinators, with its value where it is left out
abbrev pub coordinators_rule : Text → Rule
coordinators_rule = option (codes "coordinators")

-- the rule by which clap reads --lanes, with its value where it is left out
abbrev pub lanes_rule : Text → Rule
lanes_rule = option (codes "lanes")

-- the rule by which clap reads --batch, with its value where it is left out
abbrev pub batch_rule : Text → Rule
batch_rule = option (codes "batch")

-- the rule by which clap reads the word that names the file of the mint, which has to be there
abbrev pub mint_rule : Rule
mint_rule = required (codes "mint")

-- the rule by which clap reads --verdicts, which names the file of the verdicts and has to be there
abbrev pub verdicts_rule : Rule
verdicts_rule = record (required (codes "verdicts")) { long = Some (codes "verdicts") }

-- the rule by which clap reads --repeats, which is 0 where it is left out
abbrev pub repeats_rule : Rule
repeats_rule = option (codes "repeats") (codes "0")

-- the rule by which clap reads the client files of `run`, one word or more
abbrev pub client_rule : Rule
client_rule = one_or_more (codes "client")

-- the rule by which clap reads the client files of `audit`, words that may be left out
abbrev pub audit_client_rule : Rule
audit_client_rule = record (one_or_more (codes "client")) { required = false }

-- the rule by which clap reads the hashes of `status`, one word or more
abbrev pub hash_rule : Rule
hash_rule = one_or_more (codes "hash")

-- the rule by which clap reads --replicas, which is 0 where it is left out
abbrev pub replicas_rule : Rule
replicas_rule = option (codes "replicas") (codes "0")

-- the rule by which clap reads --watch, which has no value
abbrev pub watch_rule : Rule
watch_rule = flag (codes "watch")

-- the rule by which clap reads the seed of `gen`, a word that has to be there
abbrev pub seed_rule : Rule
seed_rule = required (codes "seed")

-- the rule by which clap reads how many transactions `gen` makes, a word that has to be there
abbrev pub count_rule : Rule
count_rule = required (codes "count")

-- the rule by which clap reads the command that `help` is asked about, a word that may be left out
abbrev pub topic_rule : Rule
topic_rule = record (new_rule (codes "command")) { value_names = 1 }

-- ---- commands

-- a command with one more argument
abbrev pub with_arg : Shape → Rule → Shape
with_arg s r = record s { rules = s.rules ++ r ∷ [] }

-- a command of this name with the options --shards and --coordinators, by their values where they are left out
abbrev pub nodes_shape : Text → Text → Text → Shape
nodes_shape name shards coordinators = with_arg (with_arg (new_app name).top (shards_rule shards)) (coordinators_rule coordinators)

-- a command with the options --lanes and --batch as well, by their values where they are left out
abbrev pub sized_shape : Shape → Text → Text → Shape
sized_shape s lanes batch = with_arg (with_arg s (lanes_rule lanes)) (batch_rule batch)

-- the command `init`: the options of a ledger's shape, and the file of the mint
abbrev pub init_shape : Shape
init_shape = with_arg (sized_shape (nodes_shape (codes "init") (codes "1") (codes "1")) (codes "1") (codes "16")) mint_rule

-- the command `gen` with the options of a ledger's shape, and nothing behind them yet
abbrev pub sized_gen_shape : Shape
sized_gen_shape = sized_shape (nodes_shape (codes "gen") (codes "4") (codes "2")) (codes "2") (codes "16")

-- the command `gen` with its options, and nothing behind them yet
abbrev pub optional_gen_shape : Shape
optional_gen_shape = with_arg (with_arg sized_gen_shape replicas_rule) watch_rule

-- the command `gen`: its options, the seed, and how many transactions
abbrev pub gen_shape : Shape
gen_shape = with_arg (with_arg optional_gen_shape seed_rule) count_rule

-- the command `run`: the file of the verdicts, how often calls are repeated, and the client files
abbrev pub run_shape : Shape
run_shape = (with_rule (with_rule (with_rule (new_app (codes "run")) verdicts_rule) repeats_rule) client_rule).top

-- the command `recover`, which has no arguments
abbrev pub recover_shape : Shape
recover_shape = (new_app (codes "recover")).top

-- the command `status`: the hashes that are looked up
abbrev pub status_shape : Shape
status_shape = (with_rule (new_app (codes "status")) hash_rule).top

-- the command `audit`: the file of the mint, and the client files
abbrev pub audit_shape : Shape
audit_shape = (with_rule (with_rule (new_app (codes "audit")) mint_rule) audit_client_rule).top

-- the command `help`: the command that it is asked about
abbrev pub help_shape : Shape
help_shape = (with_rule (new_app (codes "help")) topic_rule).top

-- The version is told behind the program's name alone, and `help` is a command of the program's own.
abbrev pub with_settings : App → App
with_settings a = record a {
  top = record a.top {
    has_version = true;
    subcommand_required = true;
    disable_help_subcommand = true;
  };
}

-- the command line with its first two commands, `init` and `run`
abbrev pub with_run : App
with_run = with_subcommand (with_subcommand (with_settings (new_app (codes "hamilton"))) init_shape) run_shape

-- the command line with its first four commands: those, `recover` and `status`
abbrev pub with_status : App
with_status = with_subcommand (with_subcommand with_run recover_shape) status_shape

-- the command line with its first six commands: those, `audit` and `gen`
abbrev pub with_gen : App
with_gen = with_subcommand (with_subcommand with_status audit_shape) gen_shape

-- the whole command line: those six commands, and `help`
abbrev pub hamilton : App
hamilton = with_subcommand with_gen help_shape

-- an argument with this rule, of one level
pub record IsArg (a : Arg) (r : Rule) : Type 0 where
  pub rule : rule_of a ≡ r
  pub local : a.global ≡ false

-- a command with this shape, and no argument of all levels
pub record IsLeaf (c : Command) (s : Shape) : Type 0 where
  pub shape : shape_of c ≡ s
  pub local : (out-Command c).has_globals ≡ false

-- a command that is this one, with no argument of all levels
pub record IsTop (c : Command) (a : App) : Type 0 where
  pub app : app_of c ≡ a
  pub local : (out-Command c).has_globals ≡ false
