-- What stands of a lane's last batch at its coordinator, by its phase; and one lane after the other is brought to rest.
use Rattle.std.proofs.Common.{◌≡◌, ◌⊎◌, inl, inr, ℕ, zero, suc, ◌+◌, ◌*◌, ◌^◌, ◌<◌, ◌≤◌, ◌/◌, true, false, ◌&&◌, ◌==◌, List, [], ◌++◌, Some, None}
use Rattle.std.proofs.Common.{is_some, refl, sym, ap, ◌∙◌, subst, arith}
use Rattle.std.proofs.Math.Nat.{div-lt_iff_lt-mul}
use Rattle.cbdc_model.specs.Records.{Shape, Batch, Compact, Record, Row, journal, record_of, kind_of, is_of, Lock, Finish}
use Rattle.cbdc_model.specs.Slots.{slot, Idle, InLock, InFinish, InPrepare, InCommit, InDiscard}
use Rattle.cbdc_model.specs.Grammar.{IsInGrammar}
use Rattle.cbdc_model.specs.History.{Minted, header_of, first_rows}
use Rattle.cbdc_model.specs.World.{World, Event, journals, Run}
use Rattle.ledger_laws.specs.Resumed.{BeginNoPrepare}
use Rattle.ledger_laws.proofs.Next.{Steady}
use Rattle.ledger_laws.proofs.Slots.{JournalOk}
use Rattle.ledger_laws.proofs.Dones.{PhaseOk}
use Rattle.ledger_laws.proofs.Rows.{at, away, at_node}
use Rattle.ledger_laws.proofs.ByKind.{test_kind, found_passes, found_prepare, found_commit, found_discard}
use Rattle.ledger_laws.proofs.Moves.{all_structure}
use Rattle.ledger_laws.proofs.Recovered.{all_dones, all_phases}
use Rattle.ledger_laws.proofs.Reaching.{run-append}
use Rattle.ledger_laws.proofs.Last.{phase_stands}
use Rattle.ledger_laws.proofs.Found.{found_grammar}
use Rattle.ledger_laws.proofs.Writing.{AllLocked, Open, Goes, stay, begin-append, raise}
use Rattle.ledger_laws.proofs.LaneRuns.{Prepared, Committed, Discarded, by_prepare, by_commit, by_discard}

module _ (H : List Record) (b : Batch) where
  prepared : is_some (record_of 6 H b) ≡ true → (slot H b.lane).number ≡ b.number → (txs : List Compact) × Prepared b txs H
  prepared h n = let f = found_prepare H b h in (f.1, record { cause = f.0; stands = f.2; number = n })

  committed : is_some (record_of 7 H b) ≡ true → Committed b H
  committed h = let f = found_commit H b h in record { stamp = f.0; outcomes = f.1; stands = f.2 }

  discarded : (slot H b.lane).phase ≡ InDiscard → (slot H b.lane).number ≡ b.number → Discarded b H
  discarded p n =
      let f = found_discard H b (phase_stands H b n InDiscard p (λ i. let z : Idle ≡ InDiscard = sym i ∙ p in cc)) in
      record { stamp = f.0; stands = f.1 }

-- no shard's record stands at a coordinator
module _ (K : Shape) (minting : Minted) (P : Compact → Type 0) (shards : 0 < K.shards) (later : List Row) (kept : Steady K minting P later) (n : ℕ)
    (home : n < K.coordinators) where
  abbrev J : List Record
  J = journal n (later ++ first_rows K minting)

  stands_elsewhere : (kind : ℕ) (b : Batch) (r : Record) → ((kind_of r == kind) && is_of b r) ≡ true → (kind ≡ 2) ⊎ (kind ≡ 3)
      → IsInGrammar (header_of K minting.id n) r → ⊥
  stands_elsewhere kind b (Lock stamp c es) t which g = omega (arith, g.2.0)
  stands_elsewhere kind b (Finish stamp c ds) t which g = omega (arith, g.2.0)
  stands_elsewhere kind b other t which g = let k : kind_of other ≡ kind = test_kind kind b other t in grind (arith, k, which)

  not_here : (kind : ℕ) (b : Batch) → (kind ≡ 2) ⊎ (kind ≡ 3) → is_some (record_of kind J b) ≡ true → ⊥
  not_here kind b which h = elim (record_of kind J b) as (λ o. record_of kind J b ≡ o → is_some o ≡ true → ⊥) [
    | None ↦ λ e t. absurd (let z : false ≡ true = t in cc)
    | Some r ↦ λ e t. stands_elsewhere kind b r (found_passes kind J b r e) which (found_grammar K minting P shards later kept n kind b r e)
  ] refl h

  never_locked : (b : Batch) → (slot J b.lane).phase ≡ InLock → (slot J b.lane).number ≡ b.number → ⊥
  never_locked b p e = not_here 2 b (inl refl) (((all_structure K minting P shards later kept).journals n).locked b p e).0

  never_finished : (b : Batch) → (slot J b.lane).phase ≡ InFinish → (slot J b.lane).number ≡ b.number → ⊥
  never_finished b p e = not_here 3 b (inr refl) ((all_dones K minting P shards later kept n).finish_here b p e)

module _ (K : Shape) (minting : Minted) (P : Compact → Type 0) (shards : 0 < K.shards) where
  abbrev pub after_lane : ℕ → ℕ
  after_lane top = top + (3 * K.shards + 3)

  -- one lane
  lane_rests : (top : ℕ) (w : World) (lane : ℕ) → lane / K.lanes < K.coordinators → after_lane top ≤ 2 ^ 62 + 2 ^ 20
      → (after_lane top ≤ 2 ^ 62) ⊎ AllLocked K w → Open K minting P shards top w
      → Goes K minting P shards (after_lane top) lane w (λ v. (slot (journals v (lane / K.lanes)) lane).phase ≡ Idle)
  lane_rests top w lane home room early o = elim ((slot (journals w (lane / K.lanes)) lane).phase) as
      (λ p. (slot (journals w (lane / K.lanes)) lane).phase ≡ p
      → Goes K minting P shards (after_lane top) lane w (λ v. (slot (journals v (lane / K.lanes)) lane).phase ≡ Idle)) [
        | Idle ↦ λ p. stay K minting P shards (after_lane top) lane w (λ v. (slot (journals v (lane / K.lanes)) lane).phase ≡ Idle)
            (raise K minting P shards top (after_lane top) w (omega arith) o) p
        | InLock ↦ λ p. absurd (never_locked K minting P shards o.kept.later o.kept.kept (lane / K.lanes) home
            (record { lane = lane; number = (slot (journals w (lane / K.lanes)) lane).number })
            (ap (λ J. (slot J lane).phase) (o.kept.history (lane / K.lanes)) ∙ p) (ap (λ J. (slot J lane).number) (o.kept.history (lane / K.lanes))))
        | InFinish ↦ λ p. absurd (never_finished K minting P shards o.kept.later o.kept.kept (lane / K.lanes) home
            (record { lane = lane; number = (slot (journals w (lane / K.lanes)) lane).number })
            (ap (λ J. (slot J lane).phase) (o.kept.history (lane / K.lanes)) ∙ p) (ap (λ J. (slot J lane).number) (o.kept.history (lane / K.lanes))))
        | InPrepare ↦ λ p.
            let b : Batch = record { lane = lane; number = (slot (journals w (lane / K.lanes)) lane).number } in
            let f = prepared (journals w (lane / K.lanes)) (record { lane = lane; number = (slot (journals w (lane / K.lanes)) lane).number })
            (own.prepared (record { lane = lane; number = (slot (journals w (lane / K.lanes)) lane).number }) p refl).0 refl in
            by_prepare K minting P shards (record { lane = lane; number = (slot (journals w (lane / K.lanes)) lane).number }) f.0 home
            (journals w (lane / K.lanes)) f.1 p top w room early o refl
        | InCommit ↦ λ p.
            let h = phases.commit_here (record { lane = lane; number = (slot (journals w (lane / K.lanes)) lane).number }) p refl in
            let f = prepared (journals w (lane / K.lanes)) (record { lane = lane; number = (slot (journals w (lane / K.lanes)) lane).number }) h.0
            refl in
            by_commit K minting P shards (record { lane = lane; number = (slot (journals w (lane / K.lanes)) lane).number }) f.0 home
            (journals w (lane / K.lanes)) f.1
            (committed (journals w (lane / K.lanes)) (record { lane = lane; number = (slot (journals w (lane / K.lanes)) lane).number }) h.1) p top w
            room o refl
        | InDiscard ↦ λ p.
            let h = phases.discard_here (record { lane = lane; number = (slot (journals w (lane / K.lanes)) lane).number }) p refl in
            let f = prepared (journals w (lane / K.lanes)) (record { lane = lane; number = (slot (journals w (lane / K.lanes)) lane).number }) h.0
            refl in
            by_discard K minting P shards (record { lane = lane; number = (slot (journals w (lane / K.lanes)) lane).number }) f.0 home
            (journals w (lane / K.lanes)) f.1
            (discarded (journals w (lane / K.lanes)) (record { lane = lane; number = (slot (journals w (lane / K.lanes)) lane).number }) p refl) p
            top w room o refl
      ] refl
    where
      own : JournalOk (journals w (lane / K.lanes))
      own = subst (λ J. JournalOk J) (o.kept.history (lane / K.lanes))
          ((all_structure K minting P shards o.kept.later o.kept.kept).journals (lane / K.lanes))

      phases : PhaseOk (journals w (lane / K.lanes))
      phases = subst (λ J. PhaseOk J) (o.kept.history (lane / K.lanes)) (all_phases K minting P shards o.kept.later o.kept.kept (lane / K.lanes))

  -- the lanes below n are at rest
  pub record Rests (n top : ℕ) (w : World) : Type 0 where
    pub new : World
    pub events : List Event
    pub run : Run K minting w events new
    pub none : BeginNoPrepare events
    pub is_open : Open K minting P shards top new
    pub locks : AllLocked K w → AllLocked K new
    pub idle : (lane : ℕ) → lane < n → (slot (journals new (lane / K.lanes)) lane).phase ≡ Idle

  pub lanes_rest : 0 < K.lanes → (n : ℕ) → n ≤ K.coordinators * K.lanes → (top : ℕ) (w : World) → top + n * (3 * K.shards + 3) ≤ 2 ^ 62 + 2 ^ 20
      → (top + n * (3 * K.shards + 3) ≤ 2 ^ 62) ⊎ AllLocked K w → Open K minting P shards top w
      → Rests n (top + n * (3 * K.shards + 3)) w
  lanes_rest lanes zero le top w room early o = record {
    new = w;
    events = [];
    run = refl;
    none = tt;
    is_open = raise K minting P shards top (top + 0 * (3 * K.shards + 3)) w (omega arith) o;
    locks = λ l. l;
    idle = λ lane lt. absurd (omega arith);
  }
  lanes_rest lanes (suc n) le top w room early o =
      next (lanes_rest lanes n (omega arith) top w (less n (3 * K.shards + 3) top (2 ^ 62 + 2 ^ 20) room) before o)
    where
      less : (n m t bound : ℕ) → t + suc n * m ≤ bound → t + n * m ≤ bound
      less n m t bound h = omega arith

      more : (n m t bound : ℕ) → t + suc n * m ≤ bound → (t + n * m) + m ≤ bound
      more n m t bound h = omega arith

      same_top : (n m t : ℕ) → (t + n * m) + m ≤ t + suc n * m
      same_top n m t = omega arith

      before : (top + n * (3 * K.shards + 3) ≤ 2 ^ 62) ⊎ AllLocked K w
      before = elim early [ inl h ↦ inl (less n (3 * K.shards + 3) top (2 ^ 62) h) | inr l ↦ inr l ]

      then_on : (v : World) → (AllLocked K w → AllLocked K v) → ((top + n * (3 * K.shards + 3)) + (3 * K.shards + 3) ≤ 2 ^ 62) ⊎ AllLocked K v
      then_on v f = elim early [ inl h ↦ inl (more n (3 * K.shards + 3) top (2 ^ 62) h) | inr l ↦ inr (f l) ]

      below : (lane : ℕ) → lane < suc n → (n == lane) ≡ false → lane < n
      below lane lt e = grind arith

      next : Rests n (top + n * (3 * K.shards + 3)) w → Rests (suc n) (top + suc n * (3 * K.shards + 3)) w
      next r =
          let g = lane_rests (top + n * (3 * K.shards + 3)) r.new n ((div-lt_iff_lt-mul lanes).1 (omega arith))
          (more n (3 * K.shards + 3) top (2 ^ 62 + 2 ^ 20) room) (then_on r.new r.locks) r.is_open in
          record {
            new = g.new;
            events = r.events ++ g.events;
            run = run-append K minting w r.new g.new r.events g.events r.run g.run;
            none = begin-append r.events g.events r.none g.none;
            locks = λ l. g.locks (r.locks l);
            is_open = raise K minting P shards (after_lane (top + n * (3 * K.shards + 3))) (top + suc n * (3 * K.shards + 3)) g.new
                (same_top n (3 * K.shards + 3) top) g.is_open;
            idle = λ lane lt. elim (at_node n lane) [
              | at e ↦ subst (λ l. (slot (journals g.new (l / K.lanes)) l).phase ≡ Idle) e g.what
              | away e ↦ ap (λ s. s.phase) (g.others (lane / K.lanes) lane e) ∙ r.idle lane (below lane lt e)
            ];
          }
