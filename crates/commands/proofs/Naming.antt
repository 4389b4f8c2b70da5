-- The name of a file that is asked for.
use Rattle.std.proofs.Common.{⊎_elim, inl, inr, ℕ, List}
use Rattle.line_text.specs.Lines.{Text}
use Rattle.cbdc_types.specs.declared.answer.Answer.{Answer}
use Rattle.cbdc_types.specs.declared.answer.Answer.TheVariants as answers
use Rattle.command_line.specs.Asked.{WordsAskFor}
use Rattle.requests.specs.declared.Request.{Request}
use Rattle.requests.specs.declared.Request.TheVariants.{Init, Run, Recover, Status, Audit, Gen, Show}
use Rattle.printed_lines.specs.Reports.{Names}
use Rattle.command_answers.specs.Causes.{IsAnswerToRequest}
use Rattle.commands.specs.Causes.{RequestPlace, RequestRose, RequestNames, AskedName}

-- a file whose count of faults rose has its place
pub rose_placed : (r : Request) (b n : Text → ℕ) (place : ℕ) → RequestRose r b n place → RequestPlace r place
rose_placed (Init shape mint) b n place rose = rose.0
rose_placed (Run verdicts clients options) b n place rose = ⊎_elim (λ one. inl (one.0, one.1, one.2, one.3.0)) (λ own. inr own.0) rose
rose_placed Recover b n place rose = absurd rose
rose_placed (Status hashes) b n place rose = absurd rose
rose_placed (Audit mint clients) b n place rose = ⊎_elim (λ own. inl own.0) (λ one. inr (one.0, one.1, one.2, one.3.0)) rose
rose_placed (Gen shape seed count options) b n place rose = absurd rose
rose_placed (Show text) b n place rose = absurd rose

-- the name that a request has for the file that is spoken of is one that the words ask for
pub asked_name : (words : List Text) (r : Request) (b n : Text → ℕ) (written : Type 0) (name : Text) (a : Answer) → WordsAskFor words r
    → IsAnswerToRequest (RequestPlace r) (RequestRose r b n) written a
    → Names (λ file name. RequestPlace r file → RequestNames r file name) a name → Names (AskedName words) a name
asked_name words r b n written name (answers.BadInput file at kind) asked is named = (r, asked, named is)
asked_name words r b n written name (answers.ReadFault file) asked is named = (r, asked, named (rose_placed r b n file is))
asked_name words r b n written name other asked is named = tt
