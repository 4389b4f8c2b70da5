-- Each record of a kept ledger that a rack shows is caused.
use Rattle.std.proofs.Common.{◌≡◌, inl, inr, ℕ, zero, suc, ◌≤◌, ◌<◌, List, [], ◌∷◌, ◌++◌, reverse, Option, sym, ap, ◌∙◌, subst, arith}
use Rattle.std.proofs.lemmas.Bool.{cases_lt}
use Rattle.outside.specs.declared.disk.Disk.{Ghosts}
use Rattle.cbdc_types.specs.declared.answer.Answer.{Answer}
use Rattle.cbdc_model.specs.Records.{Digest, Shape, Header, Compact, Record, Row, journal}
use Rattle.cbdc_model.specs.Coins.{Output, FullTx, genesis_id}
use Rattle.cbdc_model.specs.Clean.{IsProperCompact}
use Rattle.cbdc_model.specs.History.{Minted, minted, header_of, starts, geneses, first_rows, history_of, IsSteady}
use Rattle.cbdc_model.specs.World.{KeptJournals}
use Rattle.ledger_laws.proofs.Ledger.{steady}
use Rattle.run_laws.proofs.Rests.{none_beyond}
use Rattle.audit.specs.Walks.{AllCaused}
use Rattle.audit.specs.Laws.{AllAfter}
use Rattle.audit.proofs.Ordered.{ordered_rows}
use Rattle.rack_ledgers.specs.Caused.{IsToldHistory, IsUnsound}
use Rattle.rack_ledgers.proofs.CausedTold.{told_history}
use Rattle.rack_ledgers.proofs.CausedOnce.{none_uncaused}
use Rattle.cbdc_model.specs.Ranges.{node_count}
use Rattle.rack_laws.specs.Ready.{ShowsKept}
use Rattle.rack_laws.proofs.Openings.{opens_to}

module _ (K : Shape) (m : Minted) where
  starts_caused : (n : ℕ) → AllCaused K (starts K m n)
  starts_caused zero = tt
  starts_caused (suc n) = (tt, starts_caused n)

  geneses_caused : (s : ℕ) → AllCaused K (geneses K m s ++ starts K m K.coordinators)
  geneses_caused zero = starts_caused K.coordinators
  geneses_caused (suc s) = (tt, geneses_caused s)

  pub steady_caused : (P : Compact → Type 0) (later : List Row) → IsSteady K m P later → AllCaused K (later ++ first_rows K m)
  steady_caused P [] kept = geneses_caused K.shards
  steady_caused P (row ∷ later) kept = (kept.1, steady_caused P later kept.3)

  pub steady_after : (P : Compact → Type 0) (later : List Row) → IsSteady K m P later → AllAfter K m later
  steady_after P [] kept = tt
  steady_after P (row ∷ later) kept = (kept.0, steady_after P later kept.3)

-- behind the nodes there is no journal
pub kept_beyond : (K : Shape) (mint : List Output) (submissions : List FullTx) (E : ℕ → List Record) → KeptJournals K mint submissions E → (n : ℕ)
    → node_count K ≤ n → E n ≡ []
kept_beyond K mint submissions E kept n past =
    sym (kept.history.journals_are n) ∙ none_beyond K (minted mint) (IsProperCompact submissions) kept.later
    (steady K (minted mint) (IsProperCompact submissions) kept.later kept.kept) n past

module _ {D : Type 0} (device : Ghosts D) (held : ℕ → Option D) (K : Shape) (mint : List Output) (submissions : List FullTx) (E : ℕ → List Record)
    (ready : ShowsKept device held K mint submissions E) where
  -- rows that the disks tell have these journals
  module _ (shape : Shape) (genesis : Digest) (rows : List Row) (told : IsToldHistory device held shape genesis rows) where
    pub told_at : (n : ℕ) → n < node_count K → n < node_count shape
        → (header_of shape genesis n ≡ header_of K (genesis_id mint) n) × (journal n (reverse rows) ≡ E n)
    told_at n inside there = opens_to device held K mint submissions E ready n (header_of shape genesis n) (journal n (reverse rows)) inside
        (told.opened n there)

    pub told_header : header_of shape genesis 0 ≡ header_of K (genesis_id mint) 0
    told_header = let own = ready.limits in let theirs = told.limits in
        (told_at 0 (omega (arith, own.some_coordinator)) (omega (arith, theirs.some_coordinator))).0

    pub told_shape : shape ≡ K
    told_shape = ap (λ (h : Header). h.shape) told_header

    pub told_journals : (n : ℕ) → journal n (reverse rows) ≡ E n
    told_journals n = elim (cases_lt n (node_count K)) [
      | inl inside ↦ (told_at n inside (subst (λ (s : Shape). n < node_count s) (sym told_shape) inside)).1
      | inr past ↦ told.others n (subst (λ (s : Shape). node_count s ≤ n) (sym told_shape) past)
          ∙ sym (kept_beyond K mint submissions E ready.kept n past)
    ]

    pub told_rows : reverse rows ≡ history_of K mint ready.kept.later
    told_rows =
        let kept : KeptJournals K mint submissions E = ready.kept in
        ordered_rows K mint E kept.later (reverse rows) (steady_after K (minted mint) (IsProperCompact submissions) kept.later kept.kept)
        kept.history told.ordered told_journals

    pub told_caused : AllCaused K (reverse rows)
    told_caused = let kept : KeptJournals K mint submissions E = ready.kept in
        subst (AllCaused K) (sym told_rows) (steady_caused K (minted mint) (IsProperCompact submissions) kept.later kept.kept)

  pub unsound_none : (answer : Answer) → IsUnsound device held answer → ⊥
  unsound_none answer unsound =
      let rows : List Row = unsound.uncaused.rows in
      let told : IsToldHistory device held unsound.header.shape unsound.header.genesis unsound.uncaused.rows
      = told_history device held unsound.header unsound.logs unsound.shards unsound.opened unsound.uncaused.rows unsound.uncaused.merged in
      let shape : unsound.header.shape ≡ K = told_shape unsound.header.shape unsound.header.genesis unsound.uncaused.rows told in
      let all : AllCaused K (reverse unsound.uncaused.rows) = told_caused unsound.header.shape unsound.header.genesis unsound.uncaused.rows told in
      none_uncaused unsound.header.shape unsound.uncaused.rows unsound.place
      (subst (λ (s : Shape). AllCaused s (reverse unsound.uncaused.rows)) (sym shape) all) unsound.uncaused.first
