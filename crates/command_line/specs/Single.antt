-- Words ask for one thing.
use Rattle.std.specs.Prelude.{◌≡◌, ℕ, List, map}
use Rattle.clap.specs.Words.{Text}
use Rattle.command_line.specs.Asked.{WordsAskFor}
use Rattle.requests.specs.declared.FileWord.{FileWord}
use Rattle.requests.specs.declared.Request.{Request}
use Rattle.requests.specs.declared.Request.TheVariants.{Init, Run, Recover, Status, Audit, Gen, Show}

-- the names of files, in order
abbrev pub names_of : List FileWord → List Text
names_of files = map (λ (f : FileWord). f.name.now) files

-- the places of files among the words, in order
abbrev pub places_of : List FileWord → List ℕ
places_of files = map (λ (f : FileWord). f.place) files

-- requests for the same: of the same command with the same values, whose files have the same names and the same places among the words
abbrev pub AreAlike : Request → Request → Type 0
AreAlike (Init shape mint) (Init kind file) = (shape ≡ kind) × (mint.name.now ≡ file.name.now) × (mint.place ≡ file.place)
AreAlike (Run verdicts clients options) (Run told files others) =
    (verdicts.name.now ≡ told.name.now) × (names_of clients.items ≡ names_of files.items) × (verdicts.place ≡ told.place)
    × (places_of clients.items ≡ places_of files.items)
    × (options ≡ others)
AreAlike Recover Recover = Unit {0}
AreAlike (Status hashes) (Status sought) = hashes.items ≡ sought.items
AreAlike (Audit mint clients) (Audit file files) =
    (mint.name.now ≡ file.name.now) × (names_of clients.items ≡ names_of files.items) × (mint.place ≡ file.place)
    × (places_of clients.items ≡ places_of files.items)
AreAlike (Gen shape seed count options) (Gen kind number size others) = (shape ≡ kind) × (seed ≡ number) × (count ≡ size) × (options ≡ others)
AreAlike (Show text) (Show other) = Unit {0}
AreAlike _ _ = ⊥

-- whatever the same words ask for is the same
abbrev pub OneRequestLaw : Type 0
OneRequestLaw = (words : List Text) (r other : Request) → WordsAskFor words r → WordsAskFor words other → AreAlike r other
