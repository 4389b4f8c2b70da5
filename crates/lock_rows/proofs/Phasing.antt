-- Calls of a phase at three ports, and at none.
use Rattle.std.proofs.Common.{◌≡◌, ℕ, ◌<◌, ◌≤◌, List, [], ◌∷◌, ◌++◌, length, ap, sym, ◌∙◌, subst, arith}
use Rattle.std.specs.Prelude.{Result}
use Rattle.std.specs.List.{All}
use Rattle.std.specs.Global.{Vec}
use Rattle.std.specs.Vec.{vec_capacity}
use Rattle.std.proofs.lemmas.List.Elements.{All-nil, All-cons}
use Rattle.cbdc_types.specs.declared.calls.LockCall.{LockCall}
use Rattle.cbdc_types.specs.declared.calls.Replied.{Replied}
use Rattle.cbdc_types.specs.declared.calls.NodeFault.{NodeFault}
use Rattle.cbdc_model.specs.Records.{Header}
use Rattle.cbdc_model.specs.Calls.{IsLockCall}
use Rattle.cbdc_model.specs.Sights.{Sight}
use Rattle.node_ports.specs.Nodes.{sight_at}
use Rattle.phase_calls.specs.Phase.{AsksLocks}

module _ {P : Type 0} (sight : P → Sight) where
  -- calls that fit three shards may be made at the three ports
  pub asks_three : {a b d : P} {x y z : LockCall} {ha hb hd : Header} {none one two : List P} (cs : List (ℕ × LockCall))
      (out : Vec (Result Replied NodeFault)) {ps three : List P}
      → cs ≡ (0, x) ∷ (1, y) ∷ (2, z) ∷ []
      → none ≡ [] → one ≡ none ++ a ∷ [] → two ≡ one ++ b ∷ [] → three ≡ two ++ d ∷ [] → ps ≡ three
      → ha ≡ (sight a).header → IsLockCall ha x → hb ≡ (sight b).header → IsLockCall hb y → hd ≡ (sight d).header → IsLockCall hd z
      → out.items ≡ [] → 3 ≤ vec_capacity out → AsksLocks sight (λ p l. Unit {0}) cs out ps
  asks_three {a} {b} {d} {x} {y} {z} cs out {ps} cs_are begun first second third ps_are same_a fits_a same_b fits_b same_d fits_d empty room =
      subst (λ qs. AsksLocks sight (λ p l. Unit {0}) qs out ps) (sym cs_are)
      (subst (λ rs. AsksLocks sight (λ p l. Unit {0}) calls out rs) (sym all_three) (record {
        shards = (((omega arith, (omega arith, tt)), ((omega arith, tt), (tt, tt))), each (λ c. c.0 < 3) (omega arith) (omega arith) (omega arith));
        fit = each (λ c. IsLockCall (sight_at sight ports c.0).header c.1) (subst (λ h. IsLockCall h x) same_a fits_a)
            (subst (λ h. IsLockCall h y) same_b fits_b) (subst (λ h. IsLockCall h z) same_d fits_d);
        mine = each (λ c. All (λ p. Unit {0}) ports) all all all;
        empty = empty;
        room = room;
      }))
    where
      calls : List (ℕ × LockCall)
      calls = (0, x) ∷ (1, y) ∷ (2, z) ∷ []

      ports : List P
      ports = a ∷ b ∷ d ∷ []

      all_three : ps ≡ ports
      all_three = ps_are ∙ third ∙ ap (λ qs. qs ++ d ∷ []) (second ∙ ap (λ qs. qs ++ b ∷ []) (first ∙ ap (λ qs. qs ++ a ∷ []) begun))

      all : All (λ (p : P). Unit {0}) ports
      all = λ k e lt. tt

      each : (Q : ℕ × LockCall → Type 0) → Q (0, x) → Q (1, y) → Q (2, z) → All Q calls
      each Q p q r = All-cons Q (0, x) ((1, y) ∷ (2, z) ∷ []) p (All-cons Q (1, y) ((2, z) ∷ []) q (All-cons Q (2, z) [] r (All-nil Q)))

  -- and no call may be made at any
  pub asks_no_port : (cs : List (ℕ × LockCall)) (out : Vec (Result Replied NodeFault)) (ps : List P) → cs ≡ [] → out.items ≡ []
      → AsksLocks sight (λ p l. Unit {0}) cs out ps
  asks_no_port cs out ps none empty = subst (λ qs. AsksLocks sight (λ p l. Unit {0}) qs out ps) (sym none) (record {
    shards = (tt, All-nil (λ (c : ℕ × LockCall). c.0 < length ps));
    fit = All-nil (λ (c : ℕ × LockCall). IsLockCall (sight_at sight ps c.0).header c.1);
    mine = All-nil (λ (c : ℕ × LockCall). All (λ p. Unit {0}) ps);
    empty = empty;
    room = omega arith;
  })
