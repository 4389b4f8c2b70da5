-- Words that are refused are not asked for anything.
use Rattle.std.specs.Prelude.{◌≡◌, ℕ, List, length, All}
use Rattle.clap.specs.Words.{Text}
use Rattle.command_line.specs.Asked.{WordsAskFor, AreWordsRefused}
use Rattle.requests.specs.declared.Request.{Request}
use Rattle.requests.specs.declared.Request.TheVariants.{Status}
use Rattle.requests.specs.declared.WordsFault.TheVariants.{Bad}

-- each hash has its 32 bytes
abbrev pub AreWholeHashes : List (List ℕ) → Type 0
AreWholeHashes hashes = All (λ h. length h ≡ 32) hashes

-- so have those that a request names
abbrev pub HasHashes : Request → Type 0
HasHashes (Status hashes) = AreWholeHashes hashes.items
HasHashes _ = Unit {0}

-- what the words ask for tells that they are not refused, but where memory ran out
abbrev pub AskedLaw : Type 0
AskedLaw = (words : List Text) (r : Request) → HasHashes r → WordsAskFor words r → AreWordsRefused words Bad → ⊥
