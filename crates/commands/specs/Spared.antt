-- Words for which nothing is taken or read.
use Rattle.std.specs.Prelude.{◌⊎◌, List}
use Rattle.line_text.specs.Lines.{Text}
use Rattle.command_line.specs.Asked.{WordsAskFor, AreWordsRefused}
use Rattle.requests.specs.declared.Request.{Request}
use Rattle.requests.specs.declared.WordsFault.TheVariants.{Bad}

-- the words are bad, or ask for what has a property: so `spared` and `unread` speak of `IsOfNoRack` and `IsOfNoFile`
abbrev pub AreBadOr : (Request → Type 0) → List Text → Type 0
AreBadOr P words = AreWordsRefused words Bad ⊎ ((r : Request) × WordsAskFor words r × P r)
