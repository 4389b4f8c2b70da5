-- A shard's call as a list of a group's steps.
use Rattle.std.proofs.Common.{◌≡◌, inl, inr, ℕ, ◌+◌, ◌-◌, ◌<◌, ◌≤◌, Bool, true, false, List, [], ◌∷◌, length, map, reverse, Option, Some, None}
use Rattle.std.proofs.Common.{IfSome, Result, Ok, Err, slice_get, refl, sym, ap, ◌∙◌, subst, arith}
use Rattle.std.proofs.lemmas.List.{reverse-append, reverse-reverse, length-reverse}
use Rattle.cbdc_types.specs.declared.calls.NodeFault.{NodeFault}
use Rattle.cbdc_types.specs.declared.calls.NodeFault.TheVariants.{Broken, Refused as Refuses, ClockEnd, Full, DiskFault, Memory}
use Rattle.cbdc_model.specs.Records.{Header, Record}
use Rattle.cbdc_model.specs.After.{After, IsJournal}
use Rattle.cbdc_model.specs.Due.{Due, Answers, Writes, unless_broken}
use Rattle.cbdc_model.specs.Sights.{Meets, MeetsFault, Stays, Appends, Fails, HasRisen}
use Rattle.outside.specs.declared.disk.Disk.{Ghosts}
use Rattle.node_journal.specs.Nodes.{NodeOf, sight, broken_behind}
use Rattle.node_journal.specs.Answered.{HasAnswered}
use Rattle.mirror_devices.specs.declared.mirror.Mirror.{Mirror}
use Rattle.mirror_devices.specs.Mirrored.{mirrored}
use Rattle.mirror_devices.specs.Mirrors.{has_failed}
use Rattle.shard_replica.specs.declared.packets.GroupEvent.TheVariants.{Take}
use Rattle.shard_replica.specs.Groups.{member_at, held}
use Rattle.shard_replica.specs.Steps.{Allowed, effect}
use Rattle.shard_replica.specs.Rounds.{IsAtRest, round}
use Rattle.shard_replica.proofs.Proved.{round_law}
use Rattle.replicated_shard.specs.Groups.{StandsFor, GoesBySteps, GroupNode, MemberFailed, EachHolds}
use Rattle.record_log.specs.Held.{OpensTo, OpensToEither}
use Rattle.node_journal.specs.Nodes.{HoldsJournal}
use Rattle.std.proofs.lemmas.Option.{slice_get_within}
use Rattle.shard_replica.specs.Groups.{Group}

-- a call that writes nothing
stays : (h : Header) (backups : ℕ) (was now : List Record) (flying flight : Option Record) → now ≡ was → flight ≡ flying
    → GoesBySteps h backups was flying now flight
stays h backups was now flying flight e f =
    λ g s. ([], g, inl refl, refl, subst (λ J. StandsFor h backups J flight g) (sym e) (subst (λ o. StandsFor h backups was o g) (sym f) s))

-- a record that is written goes round
appends : (h : Header) (backups : ℕ) (was : List Record) (r : Record) → IsJournal h was → IsJournal h (r ∷ was)
    → GoesBySteps h backups was None (r ∷ was) None
appends h backups [] r w n = absurd w
appends h backups (q ∷ past) r w n = λ g s.
    let some : 1 ≤ length (reverse (q ∷ past)) = (let l : length (reverse (q ∷ past)) ≡ length (q ∷ past) = length-reverse (q ∷ past) in
    omega (arith, l)) in
    let k = round_law h backups (reverse (q ∷ past)) r g some s (subst (λ J. After h J r) (sym (reverse-reverse (q ∷ past))) n.0) in
    (round backups g r, k.0, inr (inl (r, refl)), k.1, subst (λ xs. IsAtRest h backups xs k.0) (sym (reverse-append (r ∷ []) (q ∷ past))) k.2)

-- a record at which a disk fails was taken
fails : (h : Header) (backups : ℕ) (was : List Record) (r : Record) → After h was r → GoesBySteps h backups was None was (Some r)
fails h backups was r next = λ g s.
    let held_g : held g ≡ reverse was = ap (λ m. m.records) (ap (member_at g) s.primary ∙ s.members 0 (omega arith)) in
    let past : reverse (held g) ≡ was = ap reverse held_g ∙ reverse-reverse was in
    let may : Allowed g (Take r) = (
      ap length held_g ∙ sym s.answered,
      subst (λ J. After g.header J r) (sym past) (subst (λ x. After x was r) (sym s.header) next),
    ) in
    (Take r ∷ [], effect g (Take r), inr (inr (r, refl)), (effect g (Take r), inl (may, refl), refl), (g, s, refl))

-- a broken node writes nothing
pub owes_whole : {A : Type 0} (o : Option ℕ) (due : Due A) (a : A) (r : Record) → unless_broken o due ≡ Writes a r → o ≡ None
owes_whole None due a r e = refl
owes_whole (Some since) due a r e = absurd (let z : Answers (Err (Broken since)) ≡ Writes a r = e in cc)

module _ (A : Type 0) (D : Type 0) (due : Due A) (old new : NodeOf D) (backups : ℕ) (header : new.header ≡ old.header)
    (was : IsJournal old.header old.journal)
    (now : IsJournal new.header new.journal) (flying : IfSome new.flight (After new.header new.journal))
    (quiet : (a : A) (r : Record) → due ≡ Writes a r → old.flight ≡ None) where
  abbrev Goes : Type 0
  Goes = GoesBySteps old.header backups old.journal old.flight new.journal new.flight

  it_stays : Stays (sight old) (sight new) old.journal → Goes
  it_stays f = stays old.header backups old.journal new.journal old.flight new.flight f.seen f.flight

  it_appends : (r : Record) → old.flight ≡ None → Appends (sight old) (sight new) old.journal r → Goes
  it_appends r none f =
      let n : IsJournal old.header (r ∷ old.journal) = subst (λ J. IsJournal old.header J) f.seen (subst (λ h. IsJournal h new.journal) header now) in
      subst (λ o. GoesBySteps old.header backups old.journal old.flight new.journal o) (sym f.flight)
      (subst (λ J. GoesBySteps old.header backups old.journal old.flight J old.flight) (sym f.seen)
      (subst (λ o. GoesBySteps old.header backups old.journal o (r ∷ old.journal) o) (sym none) (appends old.header backups old.journal r was n)))

  it_fails : (r : Record) → old.flight ≡ None → Fails (sight old) (sight new) old.journal r → Goes
  it_fails r none f =
      let one : After new.header new.journal r = subst (λ o. IfSome o (After new.header new.journal)) f.flight flying in
      let next : After old.header old.journal r = subst (λ J. After old.header J r) f.seen (subst (λ h. After h new.journal r) header one) in
      subst (λ o. GoesBySteps old.header backups old.journal old.flight new.journal o) (sym f.flight)
      (subst (λ J. GoesBySteps old.header backups old.journal old.flight J (Some r)) (sym f.seen)
      (subst (λ o. GoesBySteps old.header backups old.journal o old.journal (Some r)) (sym none) (fails old.header backups old.journal r next)))

  at_fault : (memory : Bool) (fault : NodeFault) → MeetsFault memory due (sight old) (sight new) old.journal fault → Goes
  at_fault memory DiskFault m = it_fails m.1 (quiet m.0 m.1 m.2) m.3
  at_fault memory Memory m = it_stays m.1
  at_fault memory (Broken since) m = it_stays m.1
  at_fault memory (Refuses why) m = it_stays m.1
  at_fault memory (ClockEnd stamp) m = it_stays m.1
  at_fault memory (Full used need capacity) m = it_stays m.1

  pub goes : (memory : Bool) (result : Result A NodeFault) → Meets memory due (sight old) (sight new) old.journal result → Goes
  goes memory (Ok a) (inl m) = it_stays m.1
  goes memory (Ok a) (inr m) = it_appends m.0 (quiet a m.0 m.1) m.2
  goes memory (Err fault) m = at_fault memory fault m

-- a fault of the disk is one of a member's
module _ {A D : Type 0} (device : Ghosts D) (memory : Bool) (due : Due A) (old new : GroupNode device) (count : new.faults ≡ new.disk.refused) where
  blamed : 1 ≤ new.disk.refused → has_failed (map device.count new.disk.disks.items) ≡ true
  blamed some = go new.disk.apart refl
    where
      go : (b : Bool) → new.disk.apart ≡ b → has_failed (map device.count new.disk.disks.items) ≡ true
      go true e = new.disk.blamed e
      go false e = absurd (let none : new.disk.refused ≡ 0 = new.disk.whole e in omega (arith, some, none))

  pub member_failed : (result : Result A NodeFault) → HasAnswered (mirrored device) memory due old new result → result ≡ Err DiskFault
      → MemberFailed device old new
  member_failed result a e =
      let m : MeetsFault memory due (sight old) (sight new) old.journal DiskFault =
      subst (λ r. Meets memory due (sight old) (sight new) old.journal r) e a.meets in
      let rose : HasRisen old.faults new.faults = m.3.rose in
      record {
        record_in_flight = m.1;
        flies = m.3.flight;
        broken = a.keeps.broken ∙ ap (λ r. broken_behind r new.faults old.broken) e;
        rose = rose;
        member = blamed (omega (arith, rose, count));
      }

-- with nothing in flight each member's disk opens to the member's list
module _ {D : Type 0} (device : Ghosts D) (new : GroupNode device) (quiet : new.flight ≡ None) (held_by : EachHolds device new) (g : Group)
    (rest : IsAtRest new.header (length new.disk.disks.items - 1) (reverse new.journal) g) where
  pub opens_list : (k : ℕ) (d : D) → slice_get new.disk.disks.items k ≡ Some d → (c : List ℕ) → device.images d c → OpensTo (member_at g k).records c
  opens_list k d is c image =
      let lt : k < length new.disk.disks.items = slice_get_within new.disk.disks.items k d is in
      let own : (member_at g k).records ≡ reverse new.journal = ap (λ m. m.records) (rest.members k (omega (arith, lt))) in
      subst (λ rs. OpensTo rs c) (sym own) (subst (λ o. OpensToEither (reverse new.journal) o c) quiet (held_by k d is c image))
