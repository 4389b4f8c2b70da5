-- Room for what is kept for a ledger's open batches.
use Rattle.std.proofs.Common.{ℕ, ◌<◌, ◌≤◌, le_trans, Bool, List, [], ◌∷◌, length, reverse, ap, ◌∙◌, length-append, arith}
use Rattle.std.specs.Prelude.{All}
use Rattle.std.proofs.lemmas.List.Elements.{All-nil, All-cons}
use Rattle.cbdc_types.specs.Limits.{IsWithinLimits}
use Rattle.cbdc_model.specs.Records.{Shape, Header, Record}
use Rattle.cbdc_model.specs.Grammar.{IsInGrammar}
use Rattle.cbdc_model.specs.Coins.{Output, FullTx}
use Rattle.cbdc_model.specs.Due.{used_of}
use Rattle.cbdc_model.specs.History.{minted}
use Rattle.cbdc_model.specs.World.{KeptJournals, AreIdle}
use Rattle.run_laws.proofs.Checked.{kept_is_checked_law}
use Rattle.run_laws.specs.Ample.{Ample}
use Rattle.run_laws.proofs.Room.{kept_room_law, idle_room_law}
use Rattle.gate_journal.specs.Rows.{rows, IsShut}
use Rattle.record_log.specs.Held.{bodies_of}
use Rattle.record_log.proofs.LogSizes.{rows_size}
use Rattle.node_journal.proofs.Journals.{sum_reversed}
use Rattle.rack_ledgers.proofs.Fronts.{Begins, Follow, journal_begins}
use Rattle.rack_ledgers.specs.Refused.{IsNodeJournal}
use Rattle.cbdc_model.specs.Ranges.{node_count}
use Rattle.rack_laws.specs.Ready.{HasKeptRoom}

module _ (K : Shape) (mint : List Output) (submissions : List FullTx) (E : ℕ → List Record) (capacity : ℕ → ℕ) (limits : IsWithinLimits K)
    (kept : KeptJournals K mint submissions E) where
  pub ample_rooms : (sound : FullTx → Bool) (files : List (List FullTx)) → Ample K sound capacity files E → HasKeptRoom K E capacity
  ample_rooms sound files ample n inside = kept_room_law K (minted mint) sound capacity files E n limits ample
      (kept_is_checked_law K mint submissions E kept) inside

  pub idle_rooms : AreIdle K E → ((n : ℕ) → n < node_count K → used_of (E n) ≤ capacity n) → HasKeptRoom K E capacity
  idle_rooms idle fits n inside =
      let none = idle_room_law K (minted mint) E n limits (kept_is_checked_law K mint submissions E kept) idle inside in
      omega (arith, none, fits n inside)

-- more room is enough too
pub more_room : (K : Shape) (sound : FullTx → Bool) (one other : ℕ → ℕ) (files : List (List FullTx)) (E : ℕ → List Record)
    → ((n : ℕ) → n < node_count K → one n ≤ other n) → Ample K sound one files E → Ample K sound other files E
more_room K sound one other files E more ample = record {
  batches = ample.batches;
  cut = ample.cut;
  room = λ n inside. le_trans (ample.room n inside) (more n inside);
  stamps = ample.stamps;
}

-- ---- what a node's disk holds

in_grammar : (h : Header) (past records : List Record) → Follow h past records → All (IsInGrammar h) records
in_grammar h past [] follow = All-nil (IsInGrammar h)
in_grammar h past (r ∷ later) follow = All-cons (IsInGrammar h) r later follow.0.0 (in_grammar h (r ∷ past) later follow.1)

all_in_grammar : (h : Header) (records : List Record) → Begins h records → All (IsInGrammar h) records
all_in_grammar h [] begins = absurd begins
all_in_grammar h (r ∷ later) begins = in_grammar h [] (r ∷ later) begins.1

shut_some : (bytes : List ℕ) → IsShut bytes → 1 ≤ length bytes
shut_some [] shut = absurd shut
shut_some (gate ∷ rest) shut = omega arith

-- is no less than its journal's records take
pub used_within : (h : Header) (J : List Record) (bytes : List ℕ) → IsNodeJournal h J bytes → used_of J ≤ length bytes
used_within h J bytes is =
    let opens = is.opens in
    let all = all_in_grammar h (reverse J) (journal_begins h J is.journal) in
    let size = rows_size h (reverse J) is.limits all in
    let long = ap length opens.parts ∙ length-append (rows (bodies_of (reverse J))) opens.rest in
    omega (arith, size, long, shut_some opens.rest opens.shut, sum_reversed J)
