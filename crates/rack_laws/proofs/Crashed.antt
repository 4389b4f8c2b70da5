-- Whatever a crash leaves of disks that keep kept journals opens to kept journals.
use Rattle.std.proofs.Common.{◌≡◌, ◌⊎◌, inl, inr, ℕ, ◌<◌, true, false, nat_lt, List, [], ◌∷◌, ◌++◌, reverse, map, Option, Some, None, refl, sym, ap}
use Rattle.std.proofs.Common.{◌∙◌, subst, arith}
use Rattle.std.proofs.lemmas.Bool.{ltb-true, ltb-false}
use Rattle.std.proofs.lemmas.Grind.{reverse_onto}
use Rattle.std.proofs.lemmas.List.{map-append}
use Rattle.outside.specs.declared.disk.Disk.{Ghosts}
use Rattle.cbdc_model.specs.Records.{Shape, Record}
use Rattle.cbdc_model.specs.Coins.{Output, FullTx}
use Rattle.cbdc_model.specs.Lanes.{IsEnd}
use Rattle.cbdc_model.specs.World.{KeptJournals}
use Rattle.ledger_laws.proofs.Cuts.{end_self}
use Rattle.record_log.specs.Bodies.{body_of}
use Rattle.gate_journal.specs.Rows.{Opens}
use Rattle.record_log.specs.Held.{bodies_of, OpensTo, OpensToEither}
use Rattle.run_laws.specs.Flights.{MayCome}
use Rattle.run_laws.proofs.Flights.{flush_law}
use Rattle.ledger_runs.specs.Flying.{AllMayCome}
use Rattle.rack_ledgers.specs.Racked.{OfTold}
use Rattle.rack_laws.specs.Shown.{AreImagesLeft, OpenTo}
use Rattle.cbdc_model.specs.Ranges.{node_count}

bodies_more : (r : Record) (J : List Record) → bodies_of (reverse J) ++ body_of r ∷ [] ≡ bodies_of (reverse (r ∷ J))
bodies_more r J = sym (ap (λ rs. map body_of rs) (reverse_onto J r []) ∙ map-append body_of (reverse J) (r ∷ []))

module _ {D : Type 0} (device : Ghosts D) (held : ℕ → Option D) (K : Shape) (mint : List Output) (submissions : List FullTx) (J : ℕ → List Record)
    (flights : ℕ → Option Record)
    (may : AllMayCome K mint submissions J flights)
    (keeps : (n : ℕ) → n < node_count K → OfTold (held n) (λ d. (c : List ℕ) → device.images d c → OpensToEither (reverse (J n)) (flights n) c))
    (contents : ℕ → List ℕ) (left : AreImagesLeft device held K contents) where
  -- the journal that a node's image opens to: it is that of the node, or stands before what may come next there
  record Left (n : ℕ) : Type 0 where
    now : List Record
    is : (now ≡ J n) ⊎ ((r : Record) × (now ≡ r ∷ J n) × MayCome K mint submissions J n r × (flights n ≡ Some r))
    opens : n < node_count K → OfTold (held n) (λ d. OpensTo (reverse now) (contents n))

  same : (n : ℕ) → (n < node_count K → OfTold (held n) (λ d. OpensTo (reverse (J n)) (contents n))) → Left n
  same n opens = record { now = J n; is = inl refl; opens = opens }

  either : (n : ℕ) (f : Option Record) → flights n ≡ f → OpensToEither (reverse (J n)) f (contents n) → Left n
  either n None e opens = same n (λ inside d told. opens)
  either n (Some r) e (inl opens) = same n (λ inside d told. opens)
  either n (Some r) e (inr opens) = record {
    now = r ∷ J n;
    is = inr (r, refl, may n r e, e);
    opens = λ inside d told. subst (λ bs. Opens bs (contents n)) (bodies_more r (J n)) opens;
  }

  at_node : (n : ℕ) → Left n
  at_node n = go (nat_lt n (node_count K)) refl (held n) refl
    where
      go : (b : _) → nat_lt n (node_count K) ≡ b → (o : Option D) → held n ≡ o → Left n
      go false high o e = same n (λ inside d told. absurd (omega (arith, inside, ltb-false n (node_count K) high)))
      go true low None e = same n (λ inside d told. absurd (let z : None ≡ Some d = sym e ∙ told in cc))
      go true low (Some d) e = either n (flights n) refl
          (keeps n (ltb-true n (node_count K) low) d e (contents n) (left n (ltb-true n (node_count K) low) d e))

  grown : (n : ℕ) → (now : List Record) → (now ≡ J n) ⊎ ((r : Record) × (now ≡ r ∷ J n) × MayCome K mint submissions J n r × (flights n ≡ Some r))
      → IsEnd (J n) now
  grown n now (inl e) = subst (λ L. IsEnd (J n) L) (sym e) (end_self (J n))
  grown n now (inr (r, e, come, flies)) = (r ∷ [], e)

  came : (n : ℕ) → (now : List Record) → (now ≡ J n) ⊎ ((r : Record) × (now ≡ r ∷ J n) × MayCome K mint submissions J n r × (flights n ≡ Some r))
      → (now ≡ J n) ⊎ ((r : Record) × (now ≡ r ∷ J n) × MayCome K mint submissions J n r)
  came n now (inl e) = inl e
  came n now (inr (r, e, come, flies)) = inr (r, e, come)

  -- all of them are kept, each the journal of its node or that with what is in flight there
  pub crashed : 0 < K.shards → KeptJournals K mint submissions J
      → (X : ℕ → List Record) × OpenTo held K contents X × ((n : ℕ) → IsEnd (J n) (X n)) × KeptJournals K mint submissions X
      × ((n : ℕ) → (X n ≡ J n) ⊎ ((r : Record) × (X n ≡ r ∷ J n) × MayCome K mint submissions J n r × (flights n ≡ Some r)))
  crashed some kept = (
    λ n. (at_node n).now,
    λ n inside. (at_node n).opens inside,
    λ n. grown n (at_node n).now (at_node n).is,
    flush_law K mint submissions J (λ n. (at_node n).now) some kept (λ n. came n (at_node n).now (at_node n).is),
    λ n. (at_node n).is,
  )
