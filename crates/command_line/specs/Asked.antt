-- What the words ask for.
use Rattle.std.specs.Prelude.{◌≡◌, ◌⊎◌, ℕ, Bool, true, false, IsTrue, List, [], ◌∷◌, Contains, Option, Some, None, Ok, codes, drop, map}
use Rattle.std.specs.Prelude.{if◌then◌else◌}
use Rattle.std.specs.Str.{bytes_eq}
use Rattle.hex.specs.Hex.{decode_of}
use Rattle.base_types.specs.Limits.{ShapeOf}
use Rattle.clap.specs.Words.{Text, Row, Kinds, IsAmong, all_of, fault_of, first_of, subcommand_of}
use Rattle.clap.specs.Kinds.{or_else}
use Rattle.clap.specs.declared.error.kind.ErrorKind.{ErrorKind}
use Rattle.clap.specs.declared.error.kind.ErrorKind.TheVariants.{DisplayHelp, DisplayVersion, OutOfMemory}
use Rattle.command_line.specs.Command.{hamilton}
use Rattle.command_line.specs.Values.{IsHashText, IsNumber, IsUpTo, IsWholeNumber}
use Rattle.command_line.specs.Places.{positional_places}
use Rattle.command_line.specs.Words.{AreFiles, IsFirstWord, IsGivenBy}
use Rattle.requests.specs.declared.FileWord.{FileWord}
use Rattle.requests.specs.declared.Request.{Request}
use Rattle.requests.specs.declared.Request.TheVariants.{Init, Run, Recover, Status, Audit, Gen, Show}
use Rattle.requests.specs.declared.GenOptions.{GenOptions}
use Rattle.requests.specs.declared.RunOptions.{RunOptions}
use Rattle.requests.specs.declared.WordsFault.{WordsFault}
use Rattle.requests.specs.declared.WordsFault.TheVariants.{Bad, Memory}

-- ---- faults

-- a fault that is no wish for help or the version, and not that memory ran out
abbrev pub is_mistake : ErrorKind → Bool
is_mistake DisplayHelp = false
is_mistake DisplayVersion = false
is_mistake OutOfMemory = false
is_mistake _ = true

-- help or the version is asked for
abbrev pub is_wish : ErrorKind → Bool
is_wish DisplayHelp = true
is_wish DisplayVersion = true
is_wish _ = false

-- a fault of the words is a mistake: no wish for help or the version, and not that memory ran out
abbrev pub HasMistake : Kinds → Type 0
HasMistake kinds = (k : ErrorKind) × IsAmong k kinds × IsTrue (is_mistake k)

-- a fault of the words is a wish for help or the version
abbrev pub HasWish : Kinds → Type 0
HasWish kinds = (k : ErrorKind) × IsAmong k kinds × IsTrue (is_wish k)

-- the help flag, behind the command that is asked about
abbrev pub help_words : Option Text → List Text
help_words None = codes "hamilton" ∷ codes "--help" ∷ []
help_words (Some command) = codes "hamilton" ∷ command ∷ codes "--help" ∷ []

-- the faults of what `help` stands for
abbrev pub topic_faults : Option (Text × List Row) → Kinds
topic_faults None = []
topic_faults (Some found) =
    if bytes_eq found.0 (codes "help") then fault_of hamilton (help_words (first_of (codes "command") found.1)) else []

-- the faults of the words
abbrev pub word_faults : List Text → Kinds
word_faults words = or_else (fault_of hamilton words) (topic_faults (subcommand_of hamilton words))

-- ---- values

-- the words name this command without a fault, with these matches
pub record NameCommand (words : List Text) (command : Text) (rows : List Row) : Type 0 where
  pub sound : fault_of hamilton words ≡ []
  pub met : subcommand_of hamilton words ≡ Some (command, rows)

-- the option has this number, from 1 to a limit
abbrev pub HasNumber : List Row → Text → ℕ → ℕ → Type 0
HasNumber rows option most n = (text : Text) × (first_of option rows ≡ Some text) × IsNumber most text n

-- the option's text is no such number
abbrev pub HasNoNumber : List Row → Text → ℕ → Type 0
HasNoNumber rows option most = (text : Text) × (first_of option rows ≡ Some text) × ((n : ℕ) → ¬ (IsNumber most text n))

-- the options give the ledger this shape
pub record HasShape (rows : List Row) (shape : ShapeOf) : Type 0 where
  pub shards : HasNumber rows (codes "shards") 64 shape.shards
  pub coordinators : HasNumber rows (codes "coordinators") 16 shape.coordinators
  pub lanes : HasNumber rows (codes "lanes") 16 shape.lanes
  pub batch : HasNumber rows (codes "batch") 1024 shape.batch

-- an option of the shape is out of form
abbrev pub HasNoShape : List Row → Type 0
HasNoShape rows =
    HasNoNumber rows (codes "shards") 64
    ⊎ (HasNoNumber rows (codes "coordinators") 16 ⊎ (HasNoNumber rows (codes "lanes") 16 ⊎ HasNoNumber rows (codes "batch") 1024))

-- the option has this number, from 0 to a limit
abbrev pub HasUpTo : List Row → Text → ℕ → ℕ → Type 0
HasUpTo rows option most n = (text : Text) × (first_of option rows ≡ Some text) × IsUpTo most text n

-- the option's text is no number from 0 to a limit
abbrev pub HasNoUpTo : List Row → Text → ℕ → Type 0
HasNoUpTo rows option most = (text : Text) × (first_of option rows ≡ Some text) × ((n : ℕ) → ¬ (IsUpTo most text n))

-- --repeats is this number: so many times more is each call of a new batch at a shard made
abbrev pub HasRepeats : List Row → ℕ → Type 0
HasRepeats rows n = HasUpTo rows (codes "repeats") 3 n

-- --repeats is no number from 0 to 3
abbrev pub HasNoRepeats : List Row → Type 0
HasNoRepeats rows = HasNoUpTo rows (codes "repeats") 3

-- --replicas is this number: so many disks beside its own has each shard
abbrev pub HasReplicas : List Row → ℕ → Type 0
HasReplicas rows n = HasUpTo rows (codes "replicas") 3 n

-- --replicas is no number from 0 to 3
abbrev pub HasNoReplicas : List Row → Type 0
HasNoReplicas rows = HasNoUpTo rows (codes "replicas") 3

-- the text that clap has for an option without a value, where it stands among the words and where it does not
abbrev pub flag_text : Bool → Text
flag_text true = codes "true"
flag_text false = codes "false"

-- whether --watch stands among the words
abbrev pub HasWatch : List Row → Bool → Type 0
HasWatch rows watch = first_of (codes "watch") rows ≡ Some (flag_text watch)

-- the text of the workload's seed is this number, which 64 bits hold
abbrev pub HasSeed : List Row → ℕ → Type 0
HasSeed rows seed = (text : Text) × (first_of (codes "seed") rows ≡ Some text) × IsWholeNumber text seed

-- the text of the workload's seed is no number that 64 bits hold
abbrev pub HasNoSeed : List Row → Type 0
HasNoSeed rows = (text : Text) × (first_of (codes "seed") rows ≡ Some text) × ((n : ℕ) → ¬ (IsWholeNumber text n))

-- a number of `gen` is out of form
abbrev pub HasNoWorkload : List Row → Type 0
HasNoWorkload rows = HasNoShape rows ⊎ (HasNoSeed rows ⊎ (HasNoNumber rows (codes "count") 10000 ⊎ HasNoReplicas rows))

-- a text that is no hash is among these
abbrev pub HasNoHashes : List Text → Type 0
HasNoHashes given = (text : Text) × Contains given text × (¬ (IsHashText text))

-- ---- requests

-- what is asked for is that a text be shown: help, or the version
abbrev pub IsShow : Request → Type 0
IsShow (Show text) = Unit {0}
IsShow _ = ⊥

-- the words of `init`: a shape, and the first word that is no option names the file of the mint
abbrev pub AreInitWords : List Text → List Row → ShapeOf → FileWord → Type 0
AreInitWords words rows shape mint =
    NameCommand words (codes "init") rows × HasShape rows shape × (first_of (codes "mint") rows ≡ Some mint.name.now) × IsFirstWord words mint

-- the words of `run`: the file of the verdicts, the client files in order, and how often each call is made
abbrev pub AreRunWords : List Text → List Row → FileWord → List FileWord → RunOptions → Type 0
AreRunWords words rows verdicts clients options =
    NameCommand words (codes "run") rows × (first_of (codes "verdicts") rows ≡ Some verdicts.name.now) × IsGivenBy (codes "verdicts") words verdicts
    × ((names : List Text) × (all_of (codes "client") rows ≡ Some names) × AreFiles words (positional_places words) names clients)
    × HasRepeats rows options.repeats

-- the words of `status`: these hashes, in order
abbrev pub AreStatusWords : List Text → List Row → List (List ℕ) → Type 0
AreStatusWords words rows hashes =
    NameCommand words (codes "status") rows
    × ((given : List Text) × (all_of (codes "hash") rows ≡ Some given) × (map decode_of given ≡ map (λ h. Ok h) hashes))

-- the texts of words that may be left out: none where they are
abbrev pub names_or_none : Option (List Text) → List Text
names_or_none None = []
names_or_none (Some names) = names

-- the words of `audit`: the first names the file of the mint, and those behind it the client files, in order
abbrev pub AreAuditWords : List Text → List Row → FileWord → List FileWord → Type 0
AreAuditWords words rows mint clients =
    NameCommand words (codes "audit") rows × (first_of (codes "mint") rows ≡ Some mint.name.now) × IsFirstWord words mint
    × AreFiles words (drop 1 (positional_places words)) (names_or_none (all_of (codes "client") rows)) clients

-- the words of `gen`: a shape, a seed, how many transactions, and how they are run
abbrev pub AreGenWords : List Text → List Row → ShapeOf → ℕ → ℕ → GenOptions → Type 0
AreGenWords words rows shape seed count options =
    NameCommand words (codes "gen") rows × HasShape rows shape × HasSeed rows seed × HasNumber rows (codes "count") 10000 count
    × HasReplicas rows options.replicas
    × HasWatch rows options.watch

-- the words ask for this request
abbrev pub WordsAskFor : List Text → Request → Type 0
WordsAskFor words (Init shape mint) = (rows : List Row) × AreInitWords words rows shape mint
WordsAskFor words (Run verdicts clients options) = (rows : List Row) × AreRunWords words rows verdicts clients.items options
WordsAskFor words Recover = (rows : List Row) × NameCommand words (codes "recover") rows
WordsAskFor words (Status hashes) = (rows : List Row) × AreStatusWords words rows hashes.items
WordsAskFor words (Audit mint clients) = (rows : List Row) × AreAuditWords words rows mint clients.items
WordsAskFor words (Gen shape seed count options) = (rows : List Row) × AreGenWords words rows shape seed count options
WordsAskFor words (Show text) = HasWish (word_faults words)

-- a value is out of form: a number of `init`, of `gen` or of `run`, or a hash of `status`
abbrev pub HasBadValue : List Text → Type 0
HasBadValue words =
    ((rows : List Row) × NameCommand words (codes "init") rows × HasNoShape rows)
    ⊎ (((rows : List Row) × (given : List Text) × NameCommand words (codes "status") rows × (all_of (codes "hash") rows ≡ Some given)
    × HasNoHashes given)
    ⊎ (((rows : List Row) × NameCommand words (codes "gen") rows × HasNoWorkload rows)
    ⊎ ((rows : List Row) × NameCommand words (codes "run") rows × HasNoRepeats rows)))

-- why words are refused
abbrev pub AreWordsRefused : List Text → WordsFault → Type 0
AreWordsRefused words Bad = HasMistake (word_faults words) ⊎ HasBadValue words
AreWordsRefused words Memory = Unit {0}
