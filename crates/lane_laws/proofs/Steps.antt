-- A phase of calls makes records that are caused by what the lane saw before it, and so is what it leaves in flight.
use Rattle.std.proofs.Common.{◌≡◌, ◌⊎◌, inl, inr, ℕ, Bool, true, false, List, [], ◌∷◌, ◌++◌, Option, Some, sym, ap, ◌∙◌, subst}
use Rattle.cbdc_model.specs.Records.{Compact, Record, Shape, tells_lane}
use Rattle.cbdc_model.specs.Causes.{IsCaused}
use Rattle.cbdc_model.specs.World.{replaced}
use Rattle.cbdc_model.specs.Lanes.{IsEnd, Seen, Holds, may_come, Made}
use Rattle.cbdc_model.specs.Sights.{AllMay, Finds}
use Rattle.ledger_laws.proofs.Cuts.{cut}
use Rattle.ledger_laws.proofs.Together.{no_room}
use Rattle.lane_laws.specs.Batches.{IsFlown}

-- what a node's journal and its record in flight became in a phase that began with journals I; `fails` where its disk may have failed
pub data StepAt (K : Shape) (pieces : List (List Compact)) (alone : Bool) (lane : ℕ) (fails : Bool) (I : ℕ → List Record) (n : ℕ)
    (before after : Option Record) (new : List Record) : Type 0 where
  stays_there : new ≡ I n → after ≡ before → StepAt K pieces alone lane fails I n before after new
  comes_there : (found : List Record) → Finds alone lane (I n) found → new ≡ found → after ≡ before
      → StepAt K pieces alone lane fails I n before after new
  fails_there : fails ≡ true → (found : List Record) (r : Record) → Finds alone lane (I n) found → new ≡ found → after ≡ Some r
      → tells_lane lane r ≡ true → Holds pieces r
      → IsCaused K (replaced I n found) n r → StepAt K pieces alone lane fails I n before after new
  makes_there : (found : List Record) (r : Record) → Finds alone lane (I n) found → new ≡ r ∷ found → after ≡ before → tells_lane lane r ≡ true
      → Holds pieces r
      → IsCaused K (replaced I n found) n r → StepAt K pieces alone lane fails I n before after new

may_there : (alone : Bool) (lane : ℕ) (more : List Record) → AllMay alone lane more → (newer rest : List Record) (r : Record)
    → more ≡ newer ++ r ∷ rest → may_come alone lane r ≡ true
may_there alone lane [] h [] rest r e = absurd (let z : [] ≡ r ∷ rest = e in cc)
may_there alone lane [] h (q ∷ newer) rest r e = absurd (let z : [] ≡ q ∷ (newer ++ r ∷ rest) = e in cc)
may_there alone lane (m ∷ more) h [] rest r e = let z : m ∷ more ≡ r ∷ rest = e in let s : m ≡ r = cc in
    subst (λ q. may_come alone lane q ≡ true) s h.0
may_there alone lane (m ∷ more) h (q ∷ newer) rest r e =
    may_there alone lane more h.1 newer rest r (let z : m ∷ more ≡ q ∷ (newer ++ r ∷ rest) = e in cc)

cons_same : (a b : Record) (A B : List Record) → a ∷ A ≡ b ∷ B → (a ≡ b) × (A ≡ B)
cons_same a b A B e = (cc, cc)

module _ (K : Shape) (pieces : List (List Compact)) (alone : Bool) (lane : ℕ) (fails : Bool) (I J : ℕ → List Record)
    (before after : ℕ → Option Record) where
  abbrev Step : ℕ → List Record → Type 0
  Step n new = StepAt K pieces alone lane fails I n (before n) (after n) new

  abbrev Owed : ℕ → List Record → Record → Type 0
  Owed n rest r = (may_come alone lane r ≡ true) ⊎ ((tells_lane lane r ≡ true) × Seen K J n rest r × Holds pieces r)

  grows_at : (n : ℕ) (new : List Record) → Step n new → IsEnd (I n) new
  grows_at n new (stays_there e q) = ([], e)
  grows_at n new (comes_there found f e q) = (f.more, e ∙ f.is)
  grows_at n new (fails_there q found r f e a i h c) = (f.more, e ∙ f.is)
  grows_at n new (makes_there found r f e a i h c) = (r ∷ f.more, e ∙ ap (λ L. r ∷ L) f.is)

  came : (n : ℕ) (found : List Record) → Finds alone lane (I n) found → (newer rest : List Record) (r : Record) → found ≡ newer ++ r ∷ rest
      → IsEnd (I n) rest → may_come alone lane r ≡ true
  came n found f newer rest r e h = elim (cut f.more (I n) newer rest r (sym f.is ∙ e)) [
    | inl g ↦ absurd (no_room (I n) g.0 rest r h.0 h.1 g.1)
    | inr g ↦ may_there alone lane f.more f.between newer g.back r g.more_is
  ]

  owed_at : (n : ℕ) → ((m : ℕ) → IsEnd (I m) (J m)) → Step n (J n) → (newer rest : List Record) (r : Record) → J n ≡ newer ++ r ∷ rest
      → IsEnd (I n) rest → Owed n rest r
  owed_at n ends (stays_there s q) newer rest r e h = absurd (no_room (I n) newer rest r h.0 h.1 (sym s ∙ e))
  owed_at n ends (comes_there found f s q) newer rest r e h = inl (came n found f newer rest r (sym s ∙ e) h)
  owed_at n ends (fails_there w found q f s a i hold c) newer rest r e h = inl (came n found f newer rest r (sym s ∙ e) h)
  owed_at n ends (makes_there found q f s a i hold c) newer rest r e h =
      elim (cut (q ∷ f.more) (I n) newer rest r (ap (λ L. q ∷ L) (sym f.is) ∙ sym s ∙ e)) [
        | inl g ↦ absurd (no_room (I n) g.0 rest r h.0 h.1 g.1)
        | inr g ↦ new newer g.back g.rest_is g.more_is
      ]
    where
      new : (newer back : List Record) → rest ≡ back ++ I n → q ∷ f.more ≡ newer ++ r ∷ back → Owed n rest r
      new (p ∷ newer) back b m = inl (may_there alone lane f.more f.between newer back r (cons_same q p f.more (newer ++ r ∷ back) m).1)
      new [] back b m =
          let t : (q ≡ r) × (f.more ≡ back) = cons_same q r f.more back m in
          let same : found ≡ rest = f.is ∙ ap (λ L. L ++ I n) t.1 ∙ sym b in
          inr (
            subst (λ p. tells_lane lane p ≡ true) t.0 i,
            record {
              lists = I;
              ends = ends;
              caused = subst (λ p. IsCaused K (replaced I n rest) n p) t.0 (subst (λ L. IsCaused K (replaced I n L) n q) same c);
            },
            subst (λ p. Holds pieces p) t.0 hold,
          )

  pub made_step : ((n : ℕ) → Step n (J n)) → Made K pieces alone lane I J
  made_step step = record {
    grows = λ n. grows_at n (J n) (step n);
    each = λ n newer rest r e h. owed_at n (λ m. grows_at m (J m) (step m)) (step n) newer rest r e h;
  }

  pub flown_step : ((n : ℕ) → Step n (J n)) → (n : ℕ) → IsFlown K pieces lane (before n) J n (after n)
  flown_step step n = go (step n)
    where
      go : Step n (J n) → IsFlown K pieces lane (before n) J n (after n)
      go (stays_there e q) = inl q
      go (comes_there found f e q) = inl q
      go (makes_there found r f e a i h c) = inl a
      go (fails_there w found r f e a i h c) = inr (
        r,
        a,
        i,
        record {
          lists = I;
          ends = λ m. grows_at m (J m) (step m);
          caused = subst (λ L. IsCaused K (replaced I n L) n r) (sym e) c;
        },
        h,
      )

pub unflown_step : (K : Shape) (pieces : List (List Compact)) (alone : Bool) (lane : ℕ) (I : ℕ → List Record) (n : ℕ) (before after : Option Record)
    (new : List Record)
    → StepAt K pieces alone lane false I n before after new → after ≡ before
unflown_step K pieces alone lane I n before after new (stays_there e q) = q
unflown_step K pieces alone lane I n before after new (comes_there found f e q) = q
unflown_step K pieces alone lane I n before after new (makes_there found r f e a i h c) = a
unflown_step K pieces alone lane I n before after new (fails_there w found r f e a i h c) = absurd (let z : false ≡ true = w in cc)
