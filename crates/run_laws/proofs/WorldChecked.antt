-- What rests on nothing that the program doesn't check.
use Rattle.std.proofs.Common.{◌≡◌, ℕ, ◌<◌, List, ◌++◌, sym, subst}
use Rattle.cbdc_model.specs.Records.{Shape, Compact, Row, Record, journal, lock_of}
use Rattle.cbdc_model.specs.Replies.{entries}
use Rattle.cbdc_model.specs.Ranges.{shard_node}
use Rattle.cbdc_model.specs.Outcomes.{decisions}
use Rattle.cbdc_model.specs.World.{ShardCall, Lock_call, Finish_call, Forget_call, batch_of, IsConcerned, CauseStands}
use Rattle.cbdc_model.specs.History.{Minted, first_rows, IsSteady}
use Rattle.ledger_laws.specs.Laws.{IsCallGranted}
use Rattle.ledger_laws.proofs.Answered.{LockAnswered, FinishAnswered, ForgetAnswered}
use Rattle.ledger_laws.proofs.Ledger.{steady}
use Rattle.ledger_laws.proofs.Repeats.{lock_answered, finish_answered, forget_answered}
use Rattle.ledger_laws.proofs.Granted.{lock_granted, finish_granted, forget_granted}
use Rattle.ledger_laws.proofs.Phases.{in_order, after_earlier}
use Rattle.run_laws.specs.Laws.{CheckedLaw}

module _ (K : Shape) (m : Minted) (P : Compact → Type 0) (later : List Row) (shards : 0 < K.shards) (kept : IsSteady K m P later) where
  abbrev J : ℕ → List Record
  J n = journal n (later ++ first_rows K m)

  granted : (node : ℕ) (call : ShardCall) → IsConcerned K J node (batch_of call) → CauseStands K J node call → IsCallGranted (J node) call
  granted node (Lock_call c) at stands =
      lock_granted (J node) c.batch c.part c.cause (
      subst (λ n. LockAnswered (J n) c.batch c.part c.cause) (sym at.1)
      (subst (λ p. LockAnswered (J (shard_node K at.0)) c.batch p c.cause) (sym (stands.2 at.0 at.1))
      (lock_answered K m P shards later (steady K m P later kept) c.batch c.cause stands.0 stands.1 at.0 at.2.0)))
  granted node (Finish_call c) at stands =
      finish_granted (J node) c.batch c.decisions c.cause (
      subst (λ ds. FinishAnswered (J node) c.batch ds c.cause) (sym stands.2)
      (subst (λ n. FinishAnswered (J n) c.batch (decisions stands.0 (entries (lock_of (J n) c.batch))) c.cause) (sym at.1)
      (finish_answered K m P shards later (steady K m P later kept) c.batch c.cause stands.0 stands.1 at.0 at.2)))
  granted node (Forget_call c) at stands =
      forget_granted (J node) c.batch c.cause (
      subst (λ n. ForgetAnswered (J n) c.batch c.cause) (sym at.1)
      (forget_answered K m P shards later (steady K m P later kept) c.batch c.cause stands at.0 at.2))

pub checked_law : CheckedLaw
checked_law K m later shards kept =
    let k = steady K m (λ k. Unit {0}) later kept in
    (granted K m (λ k. Unit {0}) later shards kept, in_order K m (λ k. Unit {0}) shards later k, after_earlier K m (λ k. Unit {0}) shards later k)
