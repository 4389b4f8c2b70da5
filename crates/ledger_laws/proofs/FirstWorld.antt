-- The first world has the first rows, and a run keeps the number of nodes.
use Rattle.std.proofs.Common.{◌≡◌, ◌⊎◌, inl, inr, ℕ, ◌+◌, ◌<◌, ◌≤◌, List, [], ◌∷◌, length, length-set, Some, None, sym, ap, ◌∙◌, subst, arith}
use Rattle.std.proofs.lemmas.List.FromFn.{length-map-range_with_len, get_or-map-range_with_len}
use Rattle.std.proofs.lemmas.List.{get_or_past}
use Rattle.cbdc_model.specs.Records.{Shape, Compact, journal}
use Rattle.cbdc_model.specs.Coins.{Output, FullTx}
use Rattle.cbdc_model.specs.Clean.{IsProperCompact}
use Rattle.cbdc_model.specs.History.{Minted, minted, header_of, first_rows}
use Rattle.cbdc_model.specs.After.{After}
use Rattle.cbdc_model.specs.World.{World, Node, Event, Begin, End, Crash, Reopen, Repeat, node_at, no_node, journals, init, first_node, Step, Run}
use Rattle.cbdc_model.specs.World.{effect, KeptWorld}
use Rattle.ledger_laws.proofs.FirstJournals.{first_is, first_beyond}
use Rattle.ledger_laws.proofs.Next.{Next}
use Rattle.ledger_laws.proofs.Ledger.{SteadyWorld, steady, is_steady, next_at, after_of, proper_of, passes_of}

module _ (K : Shape) (minting : Minted) (P : Compact → Type 0) where
  pub init_at : (n : ℕ) → n < K.coordinators + K.shards → node_at (init K minting) n ≡ first_node K minting n
  init_at n lt = get_or-map-range_with_len (first_node K minting) 0 (K.coordinators + K.shards) n n no_node lt (omega arith)

  pub init_beyond : (n : ℕ) → K.coordinators + K.shards ≤ n → node_at (init K minting) n ≡ no_node
  init_beyond n le = get_or_past (init K minting) n no_node
      (let l : length (init K minting) ≡ K.coordinators + K.shards = length-map-range_with_len (first_node K minting) 0 (K.coordinators + K.shards)
      in omega arith)

  pub in_or_beyond : (n m : ℕ) → (n < m) ⊎ (m ≤ n)
  in_or_beyond n m = grind arith

  pub init_journals : (n : ℕ) → journal n (first_rows K minting) ≡ journals (init K minting) n
  init_journals n = elim (in_or_beyond n (K.coordinators + K.shards)) [
    | inl lt ↦ first_is K minting n lt ∙ ap (λ v. v.journal) (sym (init_at n lt))
    | inr le ↦ first_beyond K minting n le ∙ ap (λ v. v.journal) (sym (init_beyond n le))
  ]

  pub init_kept : SteadyWorld K minting P (init K minting)
  init_kept = record {
    later = [];
    kept = tt;
    ordered = tt;
    history = init_journals;
    flights = λ n r f. elim (in_or_beyond n (K.coordinators + K.shards)) [
      | inl lt ↦ absurd (let z : None ≡ Some r = sym (ap (λ v. v.flight) (init_at n lt)) ∙ f in cc)
      | inr le ↦ absurd (let z : None ≡ Some r = sym (ap (λ v. v.flight) (init_beyond n le)) ∙ f in cc)
    ];
  }

  pub init_length : length (init K minting) ≡ K.coordinators + K.shards
  init_length = length-map-range_with_len (first_node K minting) 0 (K.coordinators + K.shards)

effect_length : (w : World) (e : Event) → length (effect w e) ≡ length w
effect_length w (Begin n r) = length-set {A = Node} w n _
effect_length w (End n) = length-set {A = Node} w n _
effect_length w (Crash n kept) = length-set {A = Node} w n _
effect_length w (Reopen n) = length-set {A = Node} w n _
effect_length w (Repeat n call) = length-set {A = Node} w n _

pub step_length : (K : Shape) (minting : Minted) (old new : World) (e : Event) → Step K minting old e new → length new ≡ length old
step_length K minting old new e (inl s) = ap length s.1 ∙ effect_length old e
step_length K minting old new e (inr s) = ap length s.1

pub run_length : (K : Shape) (minting : Minted) (old new : World) (es : List Event) → Run K minting old es new → length new ≡ length old
run_length K minting old new [] run = ap length run
run_length K minting old new (e ∷ es) run = run_length K minting run.0 new es run.2 ∙ step_length K minting old run.0 e run.1

-- between the world as it is defined and as the proofs read it
pub to_steady : (K : Shape) (mint : List Output) (txs : List FullTx) (w : World) → KeptWorld K mint txs w
    → SteadyWorld K (minted mint) (IsProperCompact txs) w
to_steady K mint txs w kept =
    let k = kept.journals_kept in
    record {
      later = k.later;
      kept = steady K (minted mint) (IsProperCompact txs) k.later k.kept;
      ordered = k.history.ordered;
      history = k.history.journals_are;
      flights = λ n r f.
          let h = kept.flights n r f in (
            subst (λ J. Next K n J r) (k.history.journals_are n)
                (next_at K (minted mint) (IsProperCompact txs) k.later n r
                (subst (λ J. After (header_of K (minted mint).id n) J r) (sym (k.history.journals_are n)) h.0)),
            h.1,
            proper_of (IsProperCompact txs) r h.2,
            h.0.0,
          );
    }

pub to_kept : (K : Shape) (mint : List Output) (txs : List FullTx) (w : World) → length w ≡ K.coordinators + K.shards
    → SteadyWorld K (minted mint) (IsProperCompact txs) w → KeptWorld K mint txs w
to_kept K mint txs w size s = record {
  size = size;
  journals_kept = record {
    later = s.later;
    history = record { ordered = s.ordered; journals_are = s.history };
    kept = is_steady K (minted mint) (IsProperCompact txs) s.later s.kept;
  };
  flights = λ n r f.
      let h = s.flights n r f in
      (after_of K (minted mint).id n (journals w n) r h.0 h.3, h.1, passes_of (IsProperCompact txs) r h.2);
}
