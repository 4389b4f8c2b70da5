-- What was told of calls made again, and of a phase.
use Rattle.std.proofs.Common.{◌≡◌, ℕ, suc, ◌+◌, ◌≤◌, List, Result, subst, arith}
use Rattle.cbdc_types.specs.declared.calls.NodeFault.{NodeFault}
use Rattle.cbdc_model.specs.Sights.{Sight}
use Rattle.cbdc_model.specs.Records.{Shape}
use Rattle.cbdc_model.specs.Ranges.{shard_node}
use Rattle.lane_laws.specs.Calls.{shard}
use Rattle.lane_laws.specs.Gathering.{FirstFault}
use Rattle.lane_laws.specs.Answers.{AskedTimes, EachTold, Others}
use Rattle.lane_driver.specs.declared.fault.Stop.{Stop}
use Rattle.lane_driver.specs.Stops.{IsStopOf, IsStoppedAt}

pub asked_more : {C A : Type 0} (told : ℕ × C → Sight → Sight → A → Type 0) (calls : List (ℕ × C)) (n : ℕ) (I M J : ℕ → Sight) (answers : List A)
    → AskedTimes told calls n I M → EachTold told calls answers M J → Others calls M J
    → AskedTimes told calls (n + 1) I J
asked_more told calls n I M J answers before each others =
    let e : suc n ≡ n + 1 = omega arith in
    subst (λ m. AskedTimes told calls m I J) e (M, before, record { answers = answers; each = each; others = others })

pub asked_all : {C A : Type 0} (told : ℕ × C → Sight → Sight → A → Type 0) (calls : List (ℕ × C)) (n m : ℕ) (I J : ℕ → Sight) → n ≤ m → m ≤ n
    → AskedTimes told calls n I J → AskedTimes told calls m I J
asked_all told calls n m I J a b h = let e : n ≡ m = omega arith in subst (λ k. AskedTimes told calls k I J) e h

pub stopped_at : {C A : Type 0} (K : Shape) (told : ℕ × C → Sight → Sight → Result A NodeFault → Type 0) (calls : List (ℕ × C)) (I J : ℕ → Sight)
    (answers : List (Result A NodeFault)) (s : ℕ) (f : NodeFault) (e : Stop)
    → IsStopOf e (shard_node K s) f → EachTold told calls answers I J → Others calls I J → FirstFault shard calls answers s f
    → IsStoppedAt K told calls I J e
stopped_at K told calls I J answers s f e is each others first =
    (s, f, is, record { asked = record { answers = answers; each = each; others = others }; first = first })
