-- Lines: words with a space between them, and a line feed at the end.
use Rattle.std.specs.Prelude.{◌≡◌, ℕ, List, [], ◌∷◌, ◌++◌, take, Option, Some, Result, Ok, Err, codes, decimal}
use Rattle.hex.specs.Hex.{encode_lower}
use Rattle.outside.specs.Images.{Tells}
use Rattle.base_types.specs.declared.faults.Refusal.{Refusal}
use Rattle.base_types.specs.declared.faults.Refusal.TheVariants as refusal
use Rattle.cbdc_types.specs.declared.batch.Outcome.{Outcome}
use Rattle.cbdc_types.specs.declared.batch.Outcome.TheVariants as outcome
use Rattle.base_types.specs.declared.ids.BatchId.{BatchId}

-- a text: its bytes
abbrev pub Text : Type 0
Text = List ℕ

-- the words behind what is there, each with a space before it, and a line feed
abbrev pub continued : Text → List Text → Text
continued text [] = text ++ 10 ∷ []
continued text (word ∷ rest) = continued (text ++ 32 ∷ word) rest

-- the line of these words: a space between them, and a line feed at the end
abbrev pub line : List Text → Text
line [] = 10 ∷ []
line (word ∷ rest) = continued word rest

-- the sink has taken the text, or at a fault a front of it
abbrev pub Prints : {E : Type 0} → Option Text → Option Text → Text → Result (Unit {0}) E → Type 0
Prints old new text (Ok done) = Tells old (λ t. new ≡ Some (t ++ text))
Prints old new text (Err e) = Tells old (λ t. (n : ℕ) × (new ≡ Some (t ++ take n text)))

-- ---- init

-- the lines of `init`: how many coins were minted, their value, and the id of the genesis
abbrev pub init_text : ℕ → ℕ → Text → Text
init_text coins minted genesis =
    (line (codes "coins" ∷ decimal coins ∷ []) ++ line (codes "minted" ∷ decimal minted ∷ []))
    ++ line (codes "genesis" ∷ encode_lower genesis ∷ [])

-- ---- submissions

-- the line of a confirmed submission: its file and place, its id, and the lane and number of its batch
abbrev pub confirmed_line : ℕ → ℕ → Text → BatchId → Text
confirmed_line file place id batch = line (
    decimal file ∷ decimal place ∷ encode_lower id ∷ codes "confirmed" ∷ decimal batch.lane ∷ decimal batch.number ∷ []
    )

-- the line of a rejected submission: as that of a confirmed one, and which hash was missing or locked at which shard; a Held one has none
abbrev pub rejected_line : ℕ → ℕ → Text → Outcome → BatchId → Text
rejected_line file place id outcome.Held batch = []
rejected_line file place id (outcome.Missing shard hash) batch = line (
    decimal file ∷ decimal place ∷ encode_lower id ∷ codes "rejected" ∷ codes "missing" ∷ encode_lower hash ∷ decimal shard
    ∷ decimal batch.lane ∷ decimal batch.number ∷ []
    )
rejected_line file place id (outcome.Locked shard hash by) batch = line (
    decimal file ∷ decimal place ∷ encode_lower id ∷ codes "rejected" ∷ codes "locked" ∷ encode_lower hash ∷ decimal shard
    ∷ decimal batch.lane ∷ decimal batch.number ∷ codes "by" ∷ decimal by.lane ∷ decimal by.number ∷ []
    )

-- the words for why a submission was refused
abbrev pub refusal_words : Refusal → List Text
refusal_words refusal.NoInputs = codes "no-inputs" ∷ []
refusal_words refusal.NoOutputs = codes "no-outputs" ∷ []
refusal_words refusal.WitnessCount = codes "witness-count" ∷ []
refusal_words (refusal.RepeatedInput i) = codes "repeated-input" ∷ decimal i ∷ []
refusal_words (refusal.ZeroInput i) = codes "zero-input" ∷ decimal i ∷ []
refusal_words (refusal.ZeroOutput i) = codes "zero-output" ∷ decimal i ∷ []
refusal_words refusal.InputOverflow = codes "input-overflow" ∷ []
refusal_words refusal.OutputOverflow = codes "output-overflow" ∷ []
refusal_words (refusal.Unbalanced ins outs) = codes "unbalanced" ∷ decimal ins ∷ decimal outs ∷ []
refusal_words (refusal.BurnedInput i) = codes "burned-input" ∷ decimal i ∷ []
refusal_words (refusal.PermitCount ins outs) = codes "permit-count" ∷ decimal ins ∷ decimal outs ∷ []
refusal_words (refusal.PermitRaised was now) = codes "permit-raised" ∷ decimal was ∷ decimal now ∷ []
refusal_words (refusal.BadWitness i) = codes "bad-witness" ∷ decimal i ∷ []
refusal_words (refusal.Unverified i) = codes "unverified" ∷ decimal i ∷ []

-- the line of a refused submission: its file and place, its id, and why it was refused
abbrev pub refused_line : ℕ → ℕ → Text → Refusal → Text
refused_line file place id why = line (
    decimal file ∷ decimal place ∷ encode_lower id ∷ codes "refused" ∷ refusal_words why
    )

-- ---- the summary

-- the line of a name and a number
abbrev pub counted_line : Text → ℕ → Text
counted_line name n = line (name ∷ decimal n ∷ [])

-- the six lines that end what `run` prints: how many batches were resumed, how many are new, how many submissions were confirmed, rejected and
-- refused, and how many hashes are unspent
abbrev pub summary_text : ℕ → ℕ → ℕ → ℕ → ℕ → ℕ → Text
summary_text resumed batches confirmed rejected refused unspent =
    ((((counted_line (codes "resumed") resumed ++ counted_line (codes "batches") batches) ++ counted_line (codes "confirmed") confirmed)
    ++ counted_line (codes "rejected") rejected) ++ counted_line (codes "refused") refused) ++ counted_line (codes "unspent") unspent
