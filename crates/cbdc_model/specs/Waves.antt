-- What a run adds to the journals: it resumes what was open, and then takes one file of submissions after another.
use Rattle.std.specs.Prelude.{◌≡◌, ℕ, suc, ◌*◌, ◌%◌, ◌<◌, Bool, true, false, ◌==◌, List, [], ◌∷◌, ◌++◌, map, reverse, length, take, drop, is_some}
use Rattle.std.specs.Prelude.{if◌then◌else◌}
use Rattle.std.specs.List.{filter}
use Rattle.cbdc_model.specs.Records.{Shape, Batch, Compact, Record, record_of, is_of, Prepare, prepare_kind, done_kind}
use Rattle.cbdc_model.specs.Ranges.{home_of}
use Rattle.cbdc_model.specs.Coins.{FullTx, compact}
use Rattle.cbdc_model.specs.World.{AreIdle}
use Rattle.cbdc_model.specs.Lanes.{IsEnd}

-- those whose place, counted from k, goes to this lane of n: places go round the lanes
abbrev pub share : {A : Type 0} → ℕ → ℕ → ℕ → List A → List A
share n lane k [] = []
share n lane k (x ∷ xs) = if k % n == lane then x ∷ share n lane (suc k) xs else share n lane (suc k) xs

-- what a lane gets of a file: the compact forms of its sound submissions, in order
abbrev pub sent_to : Shape → (FullTx → Bool) → List FullTx → ℕ → List Compact
sent_to K sound file lane = map compact (filter sound (share (K.coordinators * K.lanes) lane 0 file))

-- these are the pieces of n that the list is cut into, in order, the last maybe shorter
abbrev pub IsCut : {A : Type 0} → ℕ → List A → List (List A) → Type 0
IsCut n xs [] = xs ≡ []
IsCut n xs (piece ∷ pieces) = (0 < length piece) × (piece ≡ take n xs) × IsCut n (drop n xs) pieces

-- the transactions of a lane's Prepare put before others; other records have none
abbrev pub prepared_before : ℕ → Record → List (List Compact) → List (List Compact)
prepared_before lane (Prepare stamp b txs) older = if b.lane == lane then txs ∷ older else older
prepared_before lane other older = older

-- the transactions of a lane's Prepares in a journal, the newest first
abbrev pub prepared : ℕ → List Record → List (List Compact)
prepared lane [] = []
prepared lane (r ∷ J) = prepared_before lane r (prepared lane J)

-- from journals I to journals J, the journals have grown at their ends, and each new record is of a batch like these
pub record Adds (of : Batch → Type 0) (I J : ℕ → List Record) : Type 0 where
  pub grows : (n : ℕ) → IsEnd (I n) (J n)
  pub each : (n : ℕ) (newer rest : List Record) (r : Record) → J n ≡ newer ++ r ∷ rest → IsEnd (I n) rest → (b : Batch) × (is_of b r ≡ true) × of b

-- whether the batch has its Prepare
abbrev pub has_prepare : Shape → (ℕ → List Record) → Batch → Bool
has_prepare K J b = is_some (record_of prepare_kind (J (home_of K b.lane)) b)

-- whether the batch has its Done
abbrev pub has_done : Shape → (ℕ → List Record) → Batch → Bool
has_done K J b = is_some (record_of done_kind (J (home_of K b.lane)) b)

-- the open batches are brought to their end, every lane is idle then, and nothing else is done
pub record IsResumed (K : Shape) (I J : ℕ → List Record) : Type 0 where
  pub adds : Adds (λ b. (has_prepare K I b ≡ true) × (has_done K I b ≡ false)) I J
  pub idle : AreIdle K J

-- what each lane got is prepared in order, in pieces of a batch's size, all of it is brought to its end, every lane is idle then, and nothing else
-- is done
pub record IsFileRun (K : Shape) (sent : ℕ → List Compact) (I J : ℕ → List Record) : Type 0 where
  pub adds : Adds (λ b. (has_prepare K I b ≡ false) × (has_prepare K J b ≡ true)) I J
  pub cut : (lane : ℕ) → lane < K.coordinators * K.lanes → (pieces : List (List Compact)) × IsCut K.batch (sent lane) pieces
      × (prepared lane (J (home_of K lane)) ≡ reverse pieces ++ prepared lane (I (home_of K lane)))
  pub idle : AreIdle K J

-- one file after another: in each journal no batch of a file is begun before all batches of the files before it are done
abbrev pub AreFilesRun : Shape → (FullTx → Bool) → List (List FullTx) → (ℕ → List Record) → (ℕ → List Record) → Type 0
AreFilesRun K sound [] I J = (n : ℕ) → J n ≡ I n
AreFilesRun K sound (file ∷ files) I J = (M : ℕ → List Record) × IsFileRun K (sent_to K sound file) I M × AreFilesRun K sound files M J

-- the journals at exit are those at entry, resumed, and then the files' waves
abbrev pub Waves : Shape → (FullTx → Bool) → List (List FullTx) → (ℕ → List Record) → (ℕ → List Record) → Type 0
Waves K sound files E X = (R : ℕ → List Record) × IsResumed K E R × AreFilesRun K sound files R X
