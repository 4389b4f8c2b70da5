-- What a feed is seen as, and what it answers.
use Rattle.std.specs.Prelude.{◌≡◌, ◌≢◌, ◌⊎◌, ℕ, ◌+◌, ◌≤◌, ◌-◌, List, [], ◌++◌, length, Result, Ok, Err}
use Rattle.cbdc_types.specs.declared.tx.FullTx.{FullTx}
use Rattle.base_types.specs.declared.faults.InputKind.TheVariants as kinds
use Rattle.tx_codec.specs.declared.reading.BadTx.{BadTx}
use Rattle.tx_codec.specs.declared.reading.ReadFault.{ReadFault}
use Rattle.tx_codec.specs.declared.reading.ReadFault.TheVariants as faults
use Rattle.tx_codec.specs.declared.feed.Fed.{Fed}
use Rattle.tx_codec.specs.declared.feed.Fed.TheVariants as feds
use Rattle.tx_codec.specs.declared.feed.FeedState.{FeedState}
use Rattle.tx_codec.specs.declared.feed.FeedState.TheVariants as states
use Rattle.tx_codec.specs.Places.{IsSpelledAt, IsFirstFault}

-- the bytes that came and were not given, and where the feed stands
pub record FeedOf : Type 0 where
  pub bytes : List ℕ
  pub state : FeedState

-- all bytes so far stop within the field at this place
abbrev pub IsCutAt : List ℕ → BadTx → Type 0
IsCutAt bytes bad = IsFirstFault bytes 0 bad × (bad.kind ≡ kinds.Cut)

-- what the state says of the bytes
abbrev pub IsState : List ℕ → FeedState → Type 0
IsState bytes states.Empty = bytes ≡ []
IsState bytes (states.Cut bad) = IsCutAt bytes bad × (bytes ≢ [])
IsState bytes (states.Failed bad) = bad.kind ≢ kinds.Cut
IsState bytes states.Done = Unit {0}
IsState bytes states.NoMemory = Unit {0}

-- a field is bad, and it is the first one whatever bytes come behind
pub record IsBadIn (bytes : List ℕ) (bad : BadTx) : Type 0 where
  pub first : IsFirstFault bytes 0 bad
  pub kind : bad.kind ≢ kinds.Cut
  pub stays : (later : List ℕ) → IsFirstFault (bytes ++ later) 0 bad

-- the answer to a piece behind so many bytes says what reading all bytes does
abbrev pub Judges : List ℕ → ℕ → Result Fed ReadFault → Type 0
Judges all before (Ok feds.More) = (bad : BadTx) × IsCutAt all bad
Judges all before (Ok (feds.Done t taken)) = IsSpelledAt all 0 (before + taken) t
Judges all before (Err (faults.Bad bad)) = IsBadIn all bad
Judges all before (Err faults.Memory) = Unit {0}

-- the state behind an answer
abbrev pub IsFeedBehind : List ℕ → Result Fed ReadFault → FeedState → Type 0
IsFeedBehind all (Ok feds.More) state = (bad : BadTx) × (state ≡ states.Cut bad) × IsCutAt all bad
IsFeedBehind all (Ok (feds.Done t taken)) state = state ≡ states.Done
IsFeedBehind all (Err (faults.Bad bad)) state = state ≡ states.Failed bad
IsFeedBehind all (Err faults.Memory) state = state ≡ states.NoMemory

-- a bad field, told
abbrev pub JudgesBad : BadTx → Result Fed ReadFault × FeedState → Type 0
JudgesBad bad r = ((bad.kind ≡ kinds.Cut) × (r.0 ≡ Ok feds.More) × (r.1 ≡ states.Cut bad))
    ⊎ ((bad.kind ≢ kinds.Cut) × (r.0 ≡ Err (faults.Bad bad)) × (r.1 ≡ states.Failed bad))

-- what was read, told as an answer and a state
abbrev pub JudgesRead : Result (FullTx × ℕ) ReadFault → ℕ → Result Fed ReadFault × FeedState → Type 0
JudgesRead (Ok x) before r = (r.0 ≡ Ok (feds.Done x.0 (x.1 - before))) × (r.1 ≡ states.Done)
JudgesRead (Err (faults.Bad bad)) before r = JudgesBad bad r
JudgesRead (Err faults.Memory) before r = (r.0 ≡ Err faults.Memory) × (r.1 ≡ states.NoMemory)

-- no field was bad so far, and memory did not run out
abbrev pub IsGoing : FeedState → Type 0
IsGoing states.Empty = Unit {0}
IsGoing (states.Cut bad) = Unit {0}
IsGoing (states.Failed bad) = ⊥
IsGoing states.Done = ⊥
IsGoing states.NoMemory = ⊥

-- the state behind a push: no byte came yet, or what the answer says
abbrev pub IsAfter : List ℕ → Result Fed ReadFault → FeedState → Type 0
IsAfter all r state = ((all ≡ []) × (r ≡ Ok feds.More) × (state ≡ states.Empty)) ⊎ IsFeedBehind all r state

-- what is taken of a piece lies in it
abbrev pub IsWithin : List ℕ → Result Fed ReadFault → Type 0
IsWithin piece (Ok feds.More) = Unit {0}
IsWithin piece (Ok (feds.Done t taken)) = taken ≤ length piece
IsWithin piece (Err e) = Unit {0}
