-- The calls of a phase, each made at the port of its shard.
use Rattle.std.specs.Prelude.{◌≡◌, ◌≤◌, ℕ, ◌+◌, Bool, List, [], length, Some, Result, IfOk, slice_get}
use Rattle.std.specs.List.{All, AllZip}
use Rattle.std.specs.Global.{Vec}
use Rattle.std.specs.Vec.{vec_capacity}
use denote.Ref.{Bor, MutBor}
use denote.Param.Members.{Shared}
use Rattle.cbdc_types.specs.declared.calls.LockCall.{LockCall}
use Rattle.cbdc_types.specs.declared.calls.FinishCall.{FinishCall}
use Rattle.cbdc_types.specs.declared.calls.ForgetCall.{ForgetCall}
use Rattle.cbdc_types.specs.declared.calls.Replied.{Replied}
use Rattle.cbdc_types.specs.declared.calls.NodeFault.{NodeFault}
use Rattle.cbdc_model.specs.Records.{Header}
use Rattle.cbdc_model.specs.Calls.{IsLockCall, IsFinishCall, IsForgetCall}
use Rattle.cbdc_model.specs.Grammar.{IsReply}
use Rattle.cbdc_model.specs.Sights.{Sight}
use Rattle.lane_laws.specs.Calls.{shard, IsRising, NotAmong, Every}
use Rattle.lane_laws.specs.Answers.{LockAnswer, FinishAnswer, ForgetAnswer}
use Rattle.lane_driver.specs.Told.{AreShards, IsStamp}
use Rattle.lane_driver.specs.Keeping.{KeepsShard}
use Rattle.node_ports.specs.Nodes.{sight_at}

module _ {F P C A : Type 0} (g : Shared F (MutBor P × (Bor C × Unit {0})) (A × (MutBor P × Unit {0}))) (f : F) where
  -- f may be called with a `&mut` to p and a `&` to c
  abbrev pub Accepts : C → P → Type 0
  Accepts c p = (port : MutBor P) (call : Bor C) → port.now ≡ p → call.now ≡ c → g.pre f (port, (call, tt))

  -- a call of f with these may leave q and answer a
  pub record Makes (c : C) (p q : P) (a : A) : Type 0 where
    pub port : MutBor P
    pub port_is : port.now ≡ p
    pub call : Bor C
    pub call_is : call.now ≡ c
    pub after_call : MutBor P
    pub made : g.post f (port, (call, tt)) (a, (after_call, tt))
    pub left : after_call.now ≡ q

-- the call's shard has a port among these, which stand for the shards from `first` on, and the port accepts the call
pub record IsCallTaken {P C : Type 0} (accepts : C → P → Type 0) (first : ℕ) (ports : List P) (c : ℕ × C) : Type 0 where
  pub place : ℕ
  pub place_is : c.0 ≡ first + place
  pub port : P
  pub found : slice_get ports place ≡ Some port
  pub accepted : accepts c.1 port

-- the calls' shards rise, each is taken, and there is a place for each answer
pub record IsPhase {P C A : Type 0} (accepts : C → P → Type 0) (first : ℕ) (calls : List (ℕ × C)) (ports : List P) (answers : List A) : Type 0 where
  pub rising : IsRising shard calls
  pub taken : Every (IsCallTaken accepts first ports) calls
  pub room : length answers ≡ length calls

-- the calls' shards rise, each is taken, and there is room for the answers and none of them yet
pub record IsPhaseTaken {P C A : Type 0} (accepts : C → P → Type 0) (calls : List (ℕ × C)) (out : Vec A) (ports : List P) : Type 0 where
  pub rising : IsRising shard calls
  pub taken : Every (IsCallTaken accepts 0 ports) calls
  pub empty : out.items ≡ []
  pub room : length calls ≤ vec_capacity out

-- the call turned the port of its shard, and was answered
pub record IsMade {P C A : Type 0} (makes : C → P → P → A → Type 0) (first : ℕ) (old new : List P) (c : ℕ × C) (a : A) : Type 0 where
  pub place : ℕ
  pub place_is : c.0 ≡ first + place
  pub before : P
  pub was : slice_get old place ≡ Some before
  pub after : P
  pub is : slice_get new place ≡ Some after
  pub made : makes c.1 before after a

-- each call is made, answered at its place among the calls, and no other port is touched
pub record IsPhaseMade {P C A : Type 0} (makes : C → P → P → A → Type 0) (first : ℕ) (calls : List (ℕ × C)) (old new : List P) (answers : List A) :
    Type 0 where
  pub count : length new ≡ length old
  pub each : AllZip (IsMade makes first old new) calls answers
  pub others : (n : ℕ) → NotAmong shard calls (first + n) → slice_get new n ≡ slice_get old n

-- where a shard that was seen so answers a call to lock without a fault, its stamp is below 2^63, and its replies are hashes and batches of its shape
abbrev pub IsRepliesAnswer : Sight → Result Replied NodeFault → Type 0
IsRepliesAnswer s answer = IfOk answer (λ a. IsStamp a.stamp × All (IsReply s.header.shape) a.replies)

-- where a shard answers a call to finish or to forget without a fault, its stamp is below 2^63
abbrev pub IsStampAnswer : Sight → Result ℕ NodeFault → Type 0
IsStampAnswer s answer = IfOk answer IsStamp

-- what a port tells of a call, and what it keeps
pub record Answered {P C A : Type 0} (told : ℕ × C → Sight → Sight → A → Type 0) (is : Sight → A → Type 0)
    (at : P → ℕ) (sight : P → Sight) (faults : P → ℕ) (holds : P → Type 0) (serves : P → ℕ → Type 0) (c : C) (p q : P) (a : A) : Type 0 where
  pub told_so : told (at p, c) (sight p) (sight q) a
  pub answer : is (sight p) a
  pub keeps : KeepsShard at sight faults holds serves p q

-- the calls of a phase, as a set of ports is asked for them
pub record IsPhaseAsked {P C A : Type 0} (fits : Header → C → Type 0) (lane_of : C → ℕ) (sight : P → Sight) (serves : P → ℕ → Type 0)
    (calls : List (ℕ × C)) (out : Vec A) (ports : List P) : Type 0 where
  pub shards : AreShards shard (length ports) calls
  pub fit : All (λ c. fits (sight_at sight ports c.0).header c.1) calls
  pub mine : All (λ c. All (λ p. serves p (lane_of c.1)) ports) calls
  pub empty : out.items ≡ []
  pub room : length calls ≤ vec_capacity out

-- they are made, and answered
pub record IsPhaseTold {P C A : Type 0} (makes : C → P → P → A → Type 0) (calls : List (ℕ × C)) (out : Vec A) (ports : List P) (out' : Vec A)
    (ports' : List P) : Type 0 where
  pub made : IsPhaseMade makes 0 calls ports ports' out'.items
  pub capacity : vec_capacity out' ≡ vec_capacity out

module _ {P : Type 0} (sight : P → Sight) (serves : P → ℕ → Type 0) where
  -- calls to lock, as a set of ports is asked for them
  abbrev pub AsksLocks : List (ℕ × LockCall) → Vec (Result Replied NodeFault) → List P → Type 0
  AsksLocks = IsPhaseAsked IsLockCall (λ c. c.batch.lane) sight serves

  -- calls to finish, as a set of ports is asked for them
  abbrev pub AsksFinishes : List (ℕ × FinishCall) → Vec (Result ℕ NodeFault) → List P → Type 0
  AsksFinishes = IsPhaseAsked IsFinishCall (λ c. c.batch.lane) sight serves

  -- calls to forget, as a set of ports is asked for them
  abbrev pub AsksForgets : List (ℕ × ForgetCall) → Vec (Result ℕ NodeFault) → List P → Type 0
  AsksForgets = IsPhaseAsked IsForgetCall (λ c. c.batch.lane) sight serves

  module _ (alone : Bool) (at : P → ℕ) (faults : P → ℕ) (holds : P → Type 0) where
    -- what a port tells of a call to lock, and what it keeps
    abbrev pub Locks : LockCall → P → P → Result Replied NodeFault → Type 0
    Locks = Answered (LockAnswer alone) IsRepliesAnswer at sight faults holds serves

    -- what a port tells of a call to finish, and what it keeps
    abbrev pub Finishes : FinishCall → P → P → Result ℕ NodeFault → Type 0
    Finishes = Answered (FinishAnswer alone) IsStampAnswer at sight faults holds serves

    -- what a port tells of a call to forget, and what it keeps
    abbrev pub Forgets : ForgetCall → P → P → Result ℕ NodeFault → Type 0
    Forgets = Answered (ForgetAnswer alone) IsStampAnswer at sight faults holds serves

module _ {F P C A : Type 0} (g : Shared F (Bor (List (ℕ × C)) × (MutBor (Vec A) × (MutBor (List P) × Unit {0})))
    (Unit {0} × (MutBor (Vec A) × (MutBor (List P) × Unit {0})))) where
  -- f may be called with these calls, places and ports
  abbrev pub TakesPhase : F → List (ℕ × C) → Vec A → List P → Type 0
  TakesPhase f cs os ps = (calls : Bor (List (ℕ × C))) (out : MutBor (Vec A)) (ports : MutBor (List P)) → calls.now ≡ cs → out.now ≡ os
      → ports.now ≡ ps → g.pre f (calls, (out, (ports, tt)))

  -- and such a call may leave these
  pub record PhaseCalled (f : F) (cs : List (ℕ × C)) (os : Vec A) (ps : List P) (os' : Vec A) (ps' : List P) : Type 0 where
    pub calls : Bor (List (ℕ × C))
    pub calls_are : calls.now ≡ cs
    pub out : MutBor (Vec A)
    pub out_is : out.now ≡ os
    pub ports : MutBor (List P)
    pub ports_are : ports.now ≡ ps
    pub after_out : MutBor (Vec A)
    pub after_ports : MutBor (List P)
    pub called : g.post f (calls, (out, (ports, tt))) (tt, (after_out, (after_ports, tt)))
    pub left_out : after_out.now ≡ os'
    pub left_ports : after_ports.now ≡ ps'

  -- each value of this type may be called with the calls of any phase that is asked for, and makes them
  pub record MakesPhases (asks : List (ℕ × C) → Vec A → List P → Type 0) (makes : C → P → P → A → Type 0) : Type 0 where
    pub takes : (f : F) (cs : List (ℕ × C)) (os : Vec A) (ps : List P) → asks cs os ps → TakesPhase f cs os ps
    pub tells : (f : F) (cs : List (ℕ × C)) (os : Vec A) (ps : List P) (os' : Vec A) (ps' : List P) → PhaseCalled f cs os ps os' ps'
        → IsPhaseTold makes cs os ps os' ps'

-- what makes the lock, finish and forget calls of a phase, at either pace
pub record MakesAll {FL FN FT P : Type 0} (gl : Shared FL
    (Bor (List (ℕ × LockCall)) × (MutBor (Vec (Result Replied NodeFault)) × (MutBor (List P) × Unit {0})))
    (Unit {0} × (MutBor (Vec (Result Replied NodeFault)) × (MutBor (List P) × Unit {0}))))
    (gn : Shared FN (Bor (List (ℕ × FinishCall)) × (MutBor (Vec (Result ℕ NodeFault)) × (MutBor (List P) × Unit {0})))
    (Unit {0} × (MutBor (Vec (Result ℕ NodeFault)) × (MutBor (List P) × Unit {0}))))
    (gt : Shared FT (Bor (List (ℕ × ForgetCall)) × (MutBor (Vec (Result ℕ NodeFault)) × (MutBor (List P) × Unit {0})))
    (Unit {0} × (MutBor (Vec (Result ℕ NodeFault)) × (MutBor (List P) × Unit {0}))))
    (sight : P → Sight) (serves : P → ℕ → Type 0) (alone : Bool) (at : P → ℕ) (faults : P → ℕ) (holds : P → Type 0) : Type 0 where
  pub lock : MakesPhases gl (AsksLocks sight serves) (Locks sight serves alone at faults holds)
  pub finish : MakesPhases gn (AsksFinishes sight serves) (Finishes sight serves alone at faults holds)
  pub forget : MakesPhases gt (AsksForgets sight serves) (Forgets sight serves alone at faults holds)
