-- What is in flight at the nodes of a ledger: only where a disk has failed since its node was opened.
use Rattle.std.proofs.Common.{◌≡◌, ℕ, zero, suc, ◌-◌, ◌≤◌, Bool, true, false, nat_lt, if◌then◌else◌, List, [], ◌∷◌, Option, Some, None, refl, sym}
use Rattle.std.proofs.Common.{◌∙◌, arith}
use Rattle.std.specs.Prelude.{All}
use Rattle.std.proofs.lemmas.List.Elements.{All-head, All-tail, All-weaker}
use Rattle.outside.specs.declared.disk.Disk.{Ghosts}
use Rattle.cbdc_model.specs.Records.{Shape, Record}
use Rattle.cbdc_model.specs.Sights.{Sight, HasRisen, IsBrokenSince}
use Rattle.node_journal.specs.Nodes.{NodeOf, sight}
use Rattle.node_ports.specs.Nodes.{sight_at}
use Rattle.ledger_runs.specs.Faults.{HaveFailed}
use Rattle.file_runs.specs.Ledgers.{flights_of, faults_of, opened_of}
use Rattle.rack_runs.specs.Kinds.{FliesBroken}
use Rattle.rack_runs.specs.Works.{IsSeen, AreSeen}

pub flies_broken : (broken : Option ℕ) (flight : Option Record) (opened faults : ℕ) → (broken ≡ None → flight ≡ None)
    → IsBrokenSince opened faults broken → (r : Record) → flight ≡ Some r → HasRisen opened faults
flies_broken None flight opened faults landed since r there = absurd (let z : None ≡ Some r = sym (landed refl) ∙ there in cc)
flies_broken (Some at) flight opened faults landed since r there = risen opened at faults since.0 since.1
  where
    risen : (opened at faults : ℕ) → HasRisen opened at → at ≤ faults → HasRisen opened faults
    risen opened at faults h le = omega (arith, h, le)

-- what is said of each node is said of each place
at_places : {N : Type 0} (see : N → Sight) (xs : List N)
    → All (λ x. (r : Record) → (see x).flight ≡ Some r → HasRisen (see x).opened (see x).faults) xs
    → (n : ℕ) (r : Record) → (sight_at see xs n).flight ≡ Some r → HasRisen (sight_at see xs n).opened (sight_at see xs n).faults
at_places see [] all n r there = absurd (let z : None ≡ Some r = there in cc)
at_places see (x ∷ xs) all zero r there = All-head (λ y. (q : Record) → (see y).flight ≡ Some q → HasRisen (see y).opened (see y).faults) x xs all r
    there
at_places see (x ∷ xs) all (suc n) r there = at_places see xs
    (All-tail (λ y. (q : Record) → (see y).flight ≡ Some q → HasRisen (see y).opened (see y).faults) x xs all) n r there

pub all_flown : {D : Type 0} (device : Ghosts D) (K : Shape) (logs shards : List (NodeOf D)) → AreSeen device logs shards
    → (n : ℕ) (r : Record) → flights_of K logs shards n ≡ Some r → HaveFailed (opened_of K logs shards) (faults_of K logs shards) n
all_flown device K logs shards seen n r there = go (nat_lt n K.coordinators) there
  where
    go : (b : Bool) → (if b then (sight_at sight logs n).flight else (sight_at sight shards (n - K.coordinators)).flight) ≡ Some r
        → HasRisen (if b then (sight_at sight logs n).opened else (sight_at sight shards (n - K.coordinators)).opened)
        (if b then (sight_at sight logs n).faults else (sight_at sight shards (n - K.coordinators)).faults)
    go true e = at_places sight logs (All-weaker (IsSeen device) FliesBroken (λ x is. is.flown) logs seen.logs_are) n r e
    go false e = at_places sight shards (All-weaker (IsSeen device) FliesBroken (λ x is. is.flown) shards seen.shards_are) (n - K.coordinators) r e
