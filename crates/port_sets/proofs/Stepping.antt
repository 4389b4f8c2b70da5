-- What a node's own answer says of its list and of what is in flight.
use Rattle.std.proofs.Common.{◌≡◌, ◌⊎◌, inl, inr, ℕ, Bool, true, List, ◌∷◌, ◌++◌, Option, Some, None, Result, Ok, Err, ap, ◌∙◌, subst}
use Rattle.cbdc_types.specs.declared.calls.NodeFault.{NodeFault}
use Rattle.cbdc_types.specs.declared.calls.NodeFault.TheVariants.{Broken, Refused as Refuses, ClockEnd, Full, DiskFault, Memory}
use Rattle.cbdc_model.specs.Records.{Record, is_in_lane}
use Rattle.cbdc_model.specs.Due.{Due, Writes, unless_broken}
use Rattle.cbdc_model.specs.Sights.{Sight, IsSameNode, Stays, Meets, Told}
use Rattle.node_lock.specs.Moving.{Moves}
use Rattle.port_sets.proofs.Lifting.{none_between, writes_whole}

not_broken : {A : Type 0} (broken : Option ℕ) (due : Due A) (a : A) (r : Record) → unless_broken broken due ≡ Writes a r → due ≡ Writes a r
not_broken None due a r e = e
not_broken (Some since) due a r e = cc

module _ {A : Type 0} (lane : ℕ) (memory : Bool) (by : List Record → Due A) (s t : Sight)
    (mine : (a : A) (r : Record) → by s.seen ≡ Writes a r → is_in_lane lane r ≡ true) where
  moved : IsSameNode s t → (change : ((t.seen ≡ s.seen) × (t.flight ≡ s.flight))
      ⊎ (((r : Record) × (is_in_lane lane r ≡ true) × (s.flight ≡ None) × (t.flight ≡ None) × (t.seen ≡ r ∷ s.seen))
      ⊎ ((r : Record) × (is_in_lane lane r ≡ true) × (s.flight ≡ None) × (t.flight ≡ Some r) × (t.seen ≡ s.seen)))) → Moves lane s t
  moved n change = record { faults = n.later; same = record { header = n.header; opened = n.opened; capacity = n.capacity }; change = change }

  module _ (found : List Record) (is : found ≡ s.seen) (broken : Option ℕ) (whole : broken ≡ None → s.flight ≡ None) where
    stays : Stays s t found → Moves lane s t
    stays k = moved k.node (inl (k.seen ∙ is, k.flight))

    of_lane : (a : A) (r : Record) → unless_broken broken (by found) ≡ Writes a r → is_in_lane lane r ≡ true
    of_lane a r e = mine a r (subst (λ xs. by xs ≡ Writes a r) is (not_broken broken (by found) a r e))

    met : (result : Result A NodeFault) → Meets memory (unless_broken broken (by found)) s t found result → Moves lane s t
    met (Ok a) (inl (e, k)) = stays k
    met (Ok a) (inr (r, e, k)) =
        let none = whole (writes_whole broken (by found) a r e) in
        moved k.node (inr (inl (r, of_lane a r e, none, k.flight ∙ none, k.seen ∙ ap (λ xs. r ∷ xs) is)))
    met (Err DiskFault) (a, r, e, k) = moved k.node
        (inr (inr (r, of_lane a r e, whole (writes_whole broken (by found) a r e), k.flight, k.seen ∙ is)))
    met (Err Memory) (e, k) = stays k
    met (Err (Broken since)) (e, k) = stays k
    met (Err (Refuses why)) (e, k) = stays k
    met (Err (ClockEnd stamp)) (e, k) = stays k
    met (Err (Full used need capacity)) (e, k) = stays k

  -- so it is one of the three steps of a node under a lock
  pub moves : (result : Result A NodeFault) → Told true lane memory (λ broken J. unless_broken broken (by J)) s t result → Moves lane s t
  moves result told =
      met told.found (told.finds.is ∙ ap (λ xs. xs ++ s.seen) (none_between lane told.finds.more told.finds.between)) told.broken told.whole result
      told.meets
