-- All nodes of a ledger that are opened, of either kind, by their places.
use Rattle.std.proofs.Common.{◌≡◌, ◌<◌, ◌+◌, ◌-◌, ℕ, List, length, Option, subst, arith, inl, inr}
use Rattle.std.proofs.lemmas.Bool.{cases_lt}
use Rattle.std.proofs.lemmas.Option.{slice_get_cases}
use Rattle.outside.specs.declared.disk.Disk.{Ghosts}
use Rattle.cbdc_model.specs.Records.{Header}
use Rattle.node_journal.specs.Nodes.{NodeOf}
use Rattle.coord_log.specs.Opening.{IsCoord}
use Rattle.shard_node.specs.Opening.{IsShardHeader}
use Rattle.rack_ledgers.specs.Refused.{IsAny}
use Rattle.rack_ledgers.specs.Ledgers.{ByPlace, IsNodeAt, AreOpened}
use Rattle.rack_ledgers.proofs.Refusals.{of_any}

module _ {D : Type 0} (device : Ghosts D) (held : ℕ → Option D) (h : Header) where
  -- a node of a kind is one of either kind
  pub any_at : (Is : Header → Type 0) (n : ℕ) (x : NodeOf D) → IsNodeAt device held Is h n x → IsNodeAt device held IsAny h n x
  any_at Is n x is = record {
    header = is.header;
    journal = is.journal;
    flight = is.flight;
    broken = is.broken;
    since = is.since;
    faults = is.faults;
    capacity = is.capacity;
    room = is.room;
    opened = λ was told.
        let own = is.opened was told in
        record {
          stands = λ c reads. let found = own.stands c reads in (of_any Is x.header x.journal c found.0, found.1);
          same = own.same;
          read = own.read;
        };
  }

  -- what holds of each node, and of what is known of all
  pub each_node : (logs shards : List (NodeOf D)) → AreOpened device held h logs shards → (Q : ℕ → NodeOf D → Type 0) (P : ℕ → Type 0)
      → ((n : ℕ) (x : NodeOf D) → IsNodeAt device held IsAny h n x → Q n x → P n)
      → ByPlace Q logs → ByPlace (λ s x. Q (length logs + s) x) shards → (n : ℕ) → n < h.shape.coordinators + h.shape.shards → P n
  each_node logs shards are Q P step of_logs of_shards n inside = elim (cases_lt n h.shape.coordinators) [
    | inl low ↦ elim ((slice_get_cases logs n).1) [
      | inl here ↦ step n here.0 (any_at IsCoord n here.0 (are.logs_at n here.0 here.2)) (of_logs n here.0 here.2)
      | inr past ↦ absurd (omega (arith, past.0, low, are.coordinators))
    ]
    | inr high ↦
        let k : ℕ = n - h.shape.coordinators in
        let place : h.shape.coordinators + k ≡ n = omega (arith, high) in
        elim ((slice_get_cases shards k).1) [
          | inl here ↦ subst P place (step (h.shape.coordinators + k) here.0
              (any_at IsShardHeader (h.shape.coordinators + k) here.0 (are.shards_at k here.0 here.2))
              (subst (λ (m : ℕ). Q (m + k) here.0) are.coordinators (of_shards k here.0 here.2)))
          | inr past ↦ absurd (omega (arith, past.0, inside, place, are.shards_are))
        ]
  ]
