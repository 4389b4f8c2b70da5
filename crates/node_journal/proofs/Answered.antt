-- What a call leaves of a node, and answers: one that wrote nothing, and one that wrote a record or failed at it.
use Rattle.std.proofs.Common.{◌≡◌, ◌∙◌, ap, inl, inr, ℕ, Bool, false, List, Some, refl, sym, subst}
use Rattle.std.specs.Prelude.{IsTrue, Result, Ok, Err}
use Rattle.cbdc_types.specs.declared.calls.NodeFault.{NodeFault}
use Rattle.cbdc_types.specs.declared.calls.NodeFault.TheVariants.{Broken, Refused as Refuses, ClockEnd, Full, DiskFault, Memory}
use Rattle.cbdc_model.specs.Records.{Record}
use Rattle.cbdc_model.specs.After.{IsJournal}
use Rattle.cbdc_model.specs.Due.{Due, Writes}
use Rattle.cbdc_model.specs.Sights.{Sight, IsSameNode, Appends, Fails, Meets}
use Rattle.outside.specs.declared.disk.Disk.{Ghosts}
use Rattle.node_journal.specs.Nodes.{NodeOf, sight, HoldsJournal, LeavesBetween, broken_behind}
use Rattle.node_journal.specs.Answered.{KeepsNode, HasAnswered, one_write}
use Rattle.node_journal.proofs.Leaving.{leaves_as_it_was}

-- whatever it answered, it is the same node
pub same_node : {A : Type 0} (memory : Bool) (due : Due A) (old new : Sight) (found : List Record) (result : Result A NodeFault)
    → Meets memory due old new found result → IsSameNode old new
same_node memory due old new found (Ok a) (inl meets) = meets.1.node
same_node memory due old new found (Ok a) (inr meets) = meets.2.node
same_node memory due old new found (Err DiskFault) meets = meets.3.node
same_node memory due old new found (Err Memory) meets = meets.1.node
same_node memory due old new found (Err (Broken since)) meets = meets.1.node
same_node memory due old new found (Err (Refuses why)) meets = meets.1.node
same_node memory due old new found (Err (ClockEnd stamp)) meets = meets.1.node
same_node memory due old new found (Err (Full used need capacity)) meets = meets.1.node

-- it did what it owed, and holds and leaves what it should: its header and its count follow
pub answered : {D A : Type 0} (G : Ghosts D) (memory : Bool) (due : Due A) (old new : NodeOf D) (result : Result A NodeFault)
    → Meets memory due (sight old) (sight new) old.journal result
    → new.broken ≡ broken_behind result new.faults old.broken → IsJournal new.header new.journal → (HoldsJournal G old → HoldsJournal G new)
    → (HoldsJournal G old → LeavesBetween G old new)
    → HasAnswered G memory due old new result
answered G memory due old new result meets broken journal holds leaves =
    record {
      meets = meets;
      keeps = record {
        node = same_node memory due (sight old) (sight new) old.journal result meets;
        broken = broken;
        journal = journal;
        holds = holds;
        leaves = leaves;
      };
    }

-- it wrote nothing
pub answered_still : {D A : Type 0} (G : Ghosts D) (memory : Bool) (due : Due A) (s : NodeOf D) (result : Result A NodeFault)
    → Meets memory due (sight s) (sight s) s.journal result
    → s.broken ≡ broken_behind result s.faults s.broken → IsJournal s.header s.journal
    → ((c : List ℕ) → IsTrue (G.tells_past s.disk) → G.images_since s.disk (G.moment s.disk) c → G.images s.disk c)
    → HasAnswered G memory due s s result
answered_still G memory due s result meets broken journal only_now =
    answered G memory due s s result meets broken journal (λ held. held) (leaves_as_it_was G s only_now)

-- it wrote its record
pub answered_wrote : {D A : Type 0} (G : Ghosts D) (memory : Bool) (due : Due A) (old new : NodeOf D) (a : A) (r : Record) → due ≡ Writes a r
    → Appends (sight old) (sight new) old.journal r
    → new.broken ≡ old.broken → IsJournal new.header new.journal → (HoldsJournal G old → HoldsJournal G new)
    → (HoldsJournal G old → LeavesBetween G old new) → HasAnswered G memory due old new (Ok a)
answered_wrote G memory due old new a r owes appends broken journal holds leaves =
    answered G memory due old new (Ok a) (inr (r, owes, appends)) broken journal holds leaves

-- the disk failed at its record
pub answered_failed : {D A : Type 0} (G : Ghosts D) (memory : Bool) (due : Due A) (old new : NodeOf D) (a : A) (r : Record) (fault : NodeFault)
    → fault ≡ DiskFault → due ≡ Writes a r → Fails (sight old) (sight new) old.journal r
    → new.broken ≡ Some new.faults → IsJournal new.header new.journal → (HoldsJournal G old → HoldsJournal G new)
    → (HoldsJournal G old → LeavesBetween G old new) → HasAnswered G memory due old new (Err fault)
answered_failed G memory due old new a r fault is owes fails broken journal holds leaves =
    subst (λ (f : NodeFault). HasAnswered G memory due old new (Err f)) (sym is)
    (answered G memory due old new (Err DiskFault) (a, r, owes, fails) broken journal holds leaves)

-- what a write left of a node, whatever is answered behind it
pub keeps_ok : {D A : Type 0} (G : Ghosts D) (old new : NodeOf D) (u : Unit {0}) (a : A) → KeepsNode G old new (Ok u) → KeepsNode G old new (Ok a)
keeps_ok G old new u a k = record { node = k.node; broken = k.broken; journal = k.journal; holds = k.holds; leaves = k.leaves }

pub keeps_err : {D A : Type 0} (G : Ghosts D) (old new : NodeOf D) (fault : NodeFault) → KeepsNode {A = Unit {0}} G old new (Err fault)
    → KeepsNode {A = A} G old new (Err fault)
keeps_err G old new DiskFault k = record { node = k.node; broken = k.broken; journal = k.journal; holds = k.holds; leaves = k.leaves }
keeps_err G old new Memory k = record { node = k.node; broken = k.broken; journal = k.journal; holds = k.holds; leaves = k.leaves }
keeps_err G old new (Broken since) k = record { node = k.node; broken = k.broken; journal = k.journal; holds = k.holds; leaves = k.leaves }
keeps_err G old new (Refuses why) k = record { node = k.node; broken = k.broken; journal = k.journal; holds = k.holds; leaves = k.leaves }
keeps_err G old new (ClockEnd stamp) k = record { node = k.node; broken = k.broken; journal = k.journal; holds = k.holds; leaves = k.leaves }
keeps_err G old new (Full used need capacity) k = record { node = k.node; broken = k.broken; journal = k.journal; holds = k.holds; leaves = k.leaves }

same_record : (v : Unit {0}) (r q : Record) → one_write r ≡ Writes v q → r ≡ q
same_record v r q e = cc

-- where a call owes this record, and it was written or the disk failed at it
pub by_write_ok : {D A : Type 0} (G : Ghosts D) (memory : Bool) (due : Due A) (old new : NodeOf D) (a : A) (r : Record) (u : Unit {0})
    → due ≡ Writes a r → HasAnswered G false (one_write r) old new (Ok u) → HasAnswered G memory due old new (Ok a)
by_write_ok {D} {A} G memory due old new a r u owes had = record { meets = met had.meets; keeps = keeps_ok G old new u a had.keeps }
  where
    met : Meets false (one_write r) (sight old) (sight new) old.journal (Ok u) → Meets memory due (sight old) (sight new) old.journal (Ok a)
    met (inl (e, stays)) = cc
    met (inr (q, e, appends)) = inr (q, owes ∙ ap (λ x. Writes a x) (same_record u r q e), appends)

pub by_write_err : {D A : Type 0} (G : Ghosts D) (memory : Bool) (due : Due A) (old new : NodeOf D) (a : A) (r : Record) (fault : NodeFault)
    → due ≡ Writes a r → HasAnswered G false (one_write r) old new (Err fault)
    → HasAnswered {A = A} G memory due old new (Err fault)
by_write_err {D} {A} G memory due old new a r fault owes had = record { meets = met fault had.meets; keeps = keeps_err G old new fault had.keeps }
  where
    met : (f : NodeFault) → Meets false (one_write r) (sight old) (sight new) old.journal (Err f)
        → Meets {A = A} memory due (sight old) (sight new) old.journal (Err f)
    met DiskFault (u, q, e, fails) = (a, q, owes ∙ ap (λ x. Writes a x) (same_record u r q e), fails)
    met Memory (e, stays) = cc
    met (Broken since) (e, stays) = cc
    met (Refuses why) (e, stays) = cc
    met (ClockEnd stamp) (e, stays) = cc
    met (Full used need capacity) (e, stays) = cc

pub was_written : {D : Type 0} (G : Ghosts D) (old new : NodeOf D) (r : Record) (u : Unit {0}) → HasAnswered G false (one_write r) old new (Ok u)
    → Appends (sight old) (sight new) old.journal r
was_written {D} G old new r u had = met had.meets
  where
    met : Meets false (one_write r) (sight old) (sight new) old.journal (Ok u) → Appends (sight old) (sight new) old.journal r
    met (inl (e, stays)) = cc
    met (inr (q, e, appends)) = subst (λ x. Appends (sight old) (sight new) old.journal x) (sym (same_record u r q e)) appends

pub was_failed : {D : Type 0} (G : Ghosts D) (old new : NodeOf D) (r : Record) (fault : NodeFault)
    → HasAnswered G false (one_write r) old new (Err fault) → (fault ≡ DiskFault) × Fails (sight old) (sight new) old.journal r
was_failed {D} G old new r fault had = met fault had.meets
  where
    met : (f : NodeFault) → Meets false (one_write r) (sight old) (sight new) old.journal (Err f)
        → (f ≡ DiskFault) × Fails (sight old) (sight new) old.journal r
    met DiskFault (u, q, e, fails) = (refl, subst (λ x. Fails (sight old) (sight new) old.journal x) (sym (same_record u r q e)) fails)
    met Memory (e, stays) = cc
    met (Broken since) (e, stays) = cc
    met (Refuses why) (e, stays) = cc
    met (ClockEnd stamp) (e, stays) = cc
    met (Full used need capacity) (e, stays) = cc
