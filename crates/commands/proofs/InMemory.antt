-- What nothing hinders is unhindered, where no count of a file that is told rises, nor of a node that a ledger may have.
use Rattle.std.proofs.Common.{◌≡◌, ◌⊎◌, ◌<◌, ◌≤◌, ◌+◌, inl, inr, ⊎_elim, ℕ, Bool, true, nat_lt, if◌then◌else◌, List, [], ◌∷◌, length, Option, Some}
use Rattle.std.proofs.Common.{None, Result, refl, ap, arith}
use Rattle.std.specs.Prelude.{is_some}
use Rattle.std.proofs.lemmas.Bool.{cases_lt}
use Rattle.outside.specs.Counts.{Rose}
use Rattle.outside.specs.declared.disk.Disk.{Ghosts}
use Rattle.line_text.specs.Lines.{Text}
use Rattle.cbdc_types.specs.declared.answer.Answer.{Answer}
use Rattle.cbdc_types.specs.declared.answer.Answer.TheVariants as answers
use Rattle.client_files.specs.declared.fault.BadFile.{BadFile}
use Rattle.cbdc_model.specs.Records.{Shape}
use Rattle.cbdc_model.specs.Coins.{FullTx}
use Rattle.command_line.specs.Asked.{WordsAskFor}
use Rattle.requests.specs.declared.Request.{Request}
use Rattle.requests.specs.declared.Request.TheVariants.{Init, Run, Recover, Status, Audit, Gen, Show}
use Rattle.sentinel.specs.declared.file.VerdictFile.{VerdictFile}
use Rattle.rack_laws.specs.Files.{HoldsFile, HoldsVerdicts, HoldClients}
use Rattle.rack_laws.specs.Ready.{NoneRises}
use Rattle.mem_devices.specs.Sinks.{misses_at}
use Rattle.command_answers.specs.Causes.{IsWell}
use Rattle.commands.specs.Complete.{AreReadyFor, IsUnhindered}
use Rattle.command_answers.specs.Scene.{Scene}
use Rattle.commands.specs.InMemory.{IsUnhinderedWhereSteady, faultless}

module _ {D : Type 0} (device : Ghosts D) (before after : Scene D)
    (files_steady : (name : Text) (bytes : List ℕ) → before.file name ≡ Some bytes → Rose (before.file_faults name) (after.file_faults name) → ⊥)
    (nodes_steady : (n : ℕ) → n < 80 → Rose (before.disks.faults n) (after.disks.faults n) → ⊥) where
  holds_file : {X : Type 0} (read : List ℕ → Result X BadFile) (name : Text) (held : X) → HoldsFile before.file (λ _. 0) (λ _. 0) read name held
      → HoldsFile before.file before.file_faults after.file_faults read name held
  holds_file read name held holds = record {
    bytes = holds.bytes;
    told = holds.told;
    reads = holds.reads;
    steady = files_steady name holds.bytes holds.told;
  }

  holds_verdicts : (name : Text) (known : VerdictFile) → HoldsVerdicts before.file (λ _. 0) (λ _. 0) name known
      → HoldsVerdicts before.file before.file_faults after.file_faults name known
  holds_verdicts name known holds = record {
    bytes = holds.bytes;
    told = holds.told;
    reads = holds.reads;
    steady = files_steady name holds.bytes holds.told;
  }

  hold_clients : (count : ℕ) (names : List Text) (handed : List (List FullTx)) → HoldClients before.file (λ _. 0) (λ _. 0) count names handed
      → HoldClients before.file before.file_faults after.file_faults count names handed
  hold_clients count [] [] holds = holds
  hold_clients count [] (txs ∷ more) holds = holds
  hold_clients count (name ∷ names) [] holds = holds
  hold_clients count (name ∷ names) (txs ∷ more) holds = (
    record { bytes = holds.0.bytes; told = holds.0.told; reads = holds.0.reads; steady = files_steady name holds.0.bytes holds.0.told },
    hold_clients (count + length txs) names more holds.1,
  )

  steady : (K : Shape) → K.shards ≤ 64 → K.coordinators ≤ 16 → NoneRises K before.disks.faults after.disks.faults
  steady K shards coordinators n low = nodes_steady n (omega (arith, low, shards, coordinators))

  ready : (sound : FullTx → Bool) (handed : List (List FullTx)) → AreReadyFor device (faultless before) (faultless before) sound handed
      → AreReadyFor device before after sound handed
  ready sound handed is = record {
    shape = is.shape;
    mint = is.mint;
    submissions = is.submissions;
    journals = is.journals;
    shows = is.shows;
    ample = is.ample;
    steady = steady is.shape is.shows.limits.shards is.shows.limits.coordinators;
  }

  pub unhindered : (words : List Text) (r : Request) → WordsAskFor words r → IsUnhinderedWhereSteady device before r
      → IsUnhindered device before after r
  unhindered words (Init shape mint) asked free =
      let shaped = asked.1.1 in
      record {
        mint = free.mint;
        holds = record {
          bytes = free.holds.bytes;
          told = free.holds.told;
          reads = free.holds.reads;
          steady = files_steady mint.name.now free.holds.bytes free.holds.told;
        };
        can = free.can;
        steady = steady shape shaped.shards.2.bound shaped.coordinators.2.bound;
      }
  unhindered words (Run verdicts clients options) asked free = record {
    known = free.known;
    handed = free.handed;
    knows = holds_verdicts verdicts.name.now free.known free.knows;
    holds = hold_clients 0 _ free.handed free.holds;
    ready = ready _ free.handed free.ready;
  }
  unhindered words Recover asked free = ready _ [] free
  unhindered words (Status hashes) asked free = (free.0, ready _ [] free.1)
  unhindered words (Audit mint clients) asked free = record {
    mint = free.mint;
    handed = free.handed;
    holds = record {
      bytes = free.holds.bytes;
      told = free.holds.told;
      reads = free.holds.reads;
      steady = files_steady mint.name.now free.holds.bytes free.holds.told;
    };
    clients_hold = hold_clients 0 _ free.handed free.clients_hold;
    clean = free.clean;
    shape = free.shape;
    journals = free.journals;
    shows = free.shows;
    idle = free.idle;
    fits = free.fits;
    steady = steady free.shape free.shows.limits.shards free.shows.limits.coordinators;
  }
  unhindered words (Gen shape seed size options) asked free = free
  unhindered words (Show text) asked free = free

-- ---- devices in memory

-- a file that is there, and is there still, has no faults
pub steady_file : (here still : Option (List ℕ)) (bytes : List ℕ) (old new : ℕ) → here ≡ Some bytes → still ≡ here
    → Rose (if is_some here then 0 else old) (if is_some still then 0 else new) → ⊥
steady_file (Some held) (Some kept) bytes old new is same rose = omega (arith, rose)
steady_file (Some held) None bytes old new is same rose = absurd cc
steady_file None still bytes old new is same rose = absurd cc

-- an output whose count rose is full
pub rose_full : (most taken now before misses : ℕ) → Rose (misses_at most taken before) (misses_at most now misses) → most ≤ now
rose_full most taken now before misses rose = elim (cases_lt now most) [
  | inl low ↦
      let t : nat_lt now most ≡ true = grind (arith, low) in
      let none : misses_at most now misses ≡ 0 = ap (λ (b : Bool). if b then 0 else misses) t in
      absurd (omega (arith, rose, none))
  | inr past ↦ past
]

-- how it ends, where the output fails only for this
pub ended : (full : Type 0) (a : Answer) → IsWell a ⊎ (a ≡ answers.Memory) → (a ≡ answers.WriteFault → full)
    → (a ≡ answers.Ok) ⊎ ((a ≡ answers.Memory) ⊎ ((a ≡ answers.WriteFault) × full))
ended full answers.Ok came written = inl refl
ended full answers.WriteFault came written = inr (inr (refl, written refl))
ended full a came written = ⊎_elim (λ well. absurd well) (λ memory. inr (inl memory)) came
