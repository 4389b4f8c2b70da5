-- Journals that grow, and what is in flight.
use Rattle.std.proofs.Common.{◌≡◌, inl, inr, ℕ, ◌<◌, ◌≤◌, Bool, true, false, ◌&&◌, nat_lt, if◌then◌else◌, List, map, length, refl, sym, ap, ◌∙◌}
use Rattle.std.proofs.Common.{subst, arith}
use Rattle.std.proofs.lemmas.List.{get_or_past, get_or-map, length-map}
use Rattle.cbdc_model.specs.Records.{Shape, Compact}
use Rattle.cbdc_model.specs.Causes.{IsCaused}
use Rattle.cbdc_model.specs.Clean.{IsProperCompact}
use Rattle.cbdc_model.specs.Coins.{Output, FullTx}
use Rattle.cbdc_model.specs.History.{minted}
use Rattle.cbdc_model.specs.Lanes.{first_of}
use Rattle.cbdc_model.specs.World.{World, Node, no_node, node_at, journals, flushed, KeptJournals, KeptWorld}
use Rattle.ledger_laws.proofs.Next.{Next}
use Rattle.ledger_laws.proofs.Ledger.{SteadyWorld}
use Rattle.ledger_laws.proofs.FirstWorld.{to_steady, to_kept}
use Rattle.ledger_laws.proofs.Cuts.{cut, end_trans, seen_grows}
use Rattle.ledger_laws.proofs.LaneLaws.{local_law}
use Rattle.run_laws.specs.Laws.{LongerLaw, CountedLaw}
use Rattle.run_laws.specs.LocksDue.{opened}
use Rattle.run_laws.specs.Worlds.{with_flights}
use Rattle.ledger_laws.proofs.Openings.{Opened, open_all}

pub longer_law : LongerLaw
longer_law K mint subs J X shards kept grows fresh =
    let old = (local_law K mint subs J shards).0 kept in
    (local_law K mint subs X shards).1 (record {
      begins = λ n. end_trans (first_of K (minted mint) n) (J n) (X n) (old.begins n) (grows n);
      each = λ n newer rest r e h. elim (cut (grows n).0 (J n) newer rest r (sym (grows n).1 ∙ e)) [
        | inl f ↦ let g = old.each n f.0 rest r f.1 h in (g.0, seen_grows K J X n rest r grows g.1, g.2)
        | inr f ↦ fresh n newer rest r e (f.back, f.rest_is)
      ];
    })

-- the world with all nodes up
abbrev raised : Node → Node
raised u = record { journal = u.journal; up = true; flight = u.flight }

abbrev all_up : World → World
all_up w = map raised w

up_node : (w : World) (n : ℕ) → n < length w → node_at (all_up w) n ≡ raised (node_at w n)
up_node w n lt = get_or-map raised w n no_node no_node lt

up_length : (w : World) → length (all_up w) ≡ length w
up_length w = length-map w raised

-- at a node of the world and beyond
data Place (w : World) (n : ℕ) : Type 0 where
  inside : node_at (all_up w) n ≡ raised (node_at w n) → Place w n
  beyond : node_at (all_up w) n ≡ no_node → node_at w n ≡ no_node → Place w n

place : (w : World) (n : ℕ) → Place w n
place w n = elim (nat_lt n (length w)) as (λ t. nat_lt n (length w) ≡ t → Place w n) [
  | true ↦ λ t. inside (up_node w n (is_less n (length w) t))
  | false ↦ λ t. beyond (get_or_past (all_up w) n no_node (longer (length (all_up w)) (length w) n (up_length w) (is_not n (length w) t)))
      (get_or_past w n no_node (is_not n (length w) t))
] refl
  where
    is_less : (n m : ℕ) → nat_lt n m ≡ true → n < m
    is_less n m t = grind arith

    is_not : (n m : ℕ) → nat_lt n m ≡ false → m ≤ n
    is_not n m t = grind arith

    longer : (a b n : ℕ) → a ≡ b → b ≤ n → a ≤ n
    longer a b n e le = omega arith

same_journal : (w : World) (n : ℕ) → journals (all_up w) n ≡ journals w n
same_journal w n = elim (place w n) [ inside e ↦ ap (λ u. u.journal) e | beyond e f ↦ ap (λ u. u.journal) e ∙ sym (ap (λ u. u.journal) f) ]

same_flight : (w : World) (n : ℕ) → (node_at (all_up w) n).flight ≡ (node_at w n).flight
same_flight w n = elim (place w n) [ inside e ↦ ap (λ u. u.flight) e | beyond e f ↦ ap (λ u. u.flight) e ∙ sym (ap (λ u. u.flight) f) ]

same_counted : (counts : ℕ → Bool) (w : World) (n : ℕ) → opened counts (all_up w) n ≡ with_flights counts w n
same_counted counts w n = elim (place w n) [
  | inside e ↦ ap (λ u. if u.up && counts n then flushed u.flight u.journal else u.journal) e
  | beyond e f ↦ ap (λ u. if u.up && counts n then flushed u.flight u.journal else u.journal) e ∙ nothing (counts n)
      ∙ sym (ap (λ u. if counts n then flushed u.flight u.journal else u.journal) f)
]
  where
    nothing : (c : Bool) → no_node.journal ≡ (if c then flushed no_node.flight no_node.journal else no_node.journal)
    nothing true = refl
    nothing false = refl

module _ (K : Shape) (mint : List Output) (subs : List FullTx) (w : World) (shards : 0 < K.shards) where
  abbrev P : Compact → Type 0
  P = IsProperCompact subs

  steady_up : SteadyWorld K (minted mint) P w → SteadyWorld K (minted mint) P (all_up w)
  steady_up k = record {
    later = k.later;
    kept = k.kept;
    ordered = k.ordered;
    history = λ n. k.history n ∙ sym (same_journal w n);
    flights = λ n r f.
        let h = k.flights n r (sym (same_flight w n) ∙ f) in
        (subst (λ L. Next K n L r) (sym (same_journal w n)) h.0, subst (λ J. IsCaused K J n r) (λ i m. sym (same_journal w m) i) h.1, h.2, h.3);
  }

  pub all_counted : (counts : ℕ → Bool) → KeptWorld K mint subs w → KeptJournals K mint subs (with_flights counts w)
  all_counted counts kept = by_opened (open_all K (minted mint) P shards counts (all_up w) (steady_up (to_steady K mint subs w kept))
      (up_length w ∙ kept.size))
    where
      by_opened : (v : World) × Opened K (minted mint) P shards counts (all_up w) v → KeptJournals K mint subs (with_flights counts w)
      by_opened (v, o) = subst (λ J. KeptJournals K mint subs J) (λ i n. (o.journals_are n ∙ same_counted counts w n) i)
          (to_kept K mint subs v o.is_quiet.size o.is_quiet.kept).journals_kept

pub counted_law : CountedLaw
counted_law K mint subs w counts shards kept = all_counted K mint subs w shards counts kept
