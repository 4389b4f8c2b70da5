-- What the words ask for is of no rack, whichever request they are read as.
use Rattle.line_text.specs.Lines.{Text}
use Rattle.std.specs.Prelude.{List}
use Rattle.command_line.specs.Asked.{WordsAskFor}
use Rattle.requests.specs.declared.Request.{Request}
use Rattle.requests.specs.declared.Request.TheVariants.{Init, Run, Recover, Status, Audit, Gen, Show}
use Rattle.command_line.specs.Single.{AreAlike}
use Rattle.command_line.proofs.Single.{one_request_law}
use Rattle.commands.specs.Left.{IsOfNoRack, IsOfNoFile}

alike_spared : (r other : Request) → AreAlike r other → IsOfNoRack r → IsOfNoRack other
alike_spared (Gen shape seed size options) (Gen kind number count others) alike of = tt
alike_spared (Show text) (Show other) alike of = tt
alike_spared (Init shape mint) _ alike of = absurd of
alike_spared (Run verdicts clients options) _ alike of = absurd of
alike_spared Recover _ alike of = absurd of
alike_spared (Status hashes) _ alike of = absurd of
alike_spared (Audit mint clients) _ alike of = absurd of
alike_spared _ _ alike of = absurd alike

pub of_no_rack : (words : List Text) (r other : Request) → WordsAskFor words r → WordsAskFor words other → IsOfNoRack r → IsOfNoRack other
of_no_rack words r other asked also of = alike_spared r other (one_request_law words r other asked also) of

-- nor of any file
alike_unread : (r other : Request) → AreAlike r other → IsOfNoFile r → IsOfNoFile other
alike_unread Recover Recover alike of = tt
alike_unread (Status hashes) (Status sought) alike of = tt
alike_unread (Gen shape seed size options) (Gen kind number count others) alike of = tt
alike_unread (Show text) (Show other) alike of = tt
alike_unread (Init shape mint) _ alike of = absurd of
alike_unread (Run verdicts clients options) _ alike of = absurd of
alike_unread (Audit mint clients) _ alike of = absurd of
alike_unread _ _ alike of = absurd alike

pub of_no_file : (words : List Text) (r other : Request) → WordsAskFor words r → WordsAskFor words other → IsOfNoFile r → IsOfNoFile other
of_no_file words r other asked also of = alike_unread r other (one_request_law words r other asked also) of
