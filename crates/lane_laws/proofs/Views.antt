-- Steps of a lane's view: a call at its coordinator, and a phase at its shards.
use Rattle.std.proofs.Common.{◌≡◌, inl, ℕ, ◌+◌, ◌-◌, ◌<◌, ◌≤◌, Bool, true, false, ◌==◌, nat_lt, if◌then◌else◌, List, Option, None, refl, sym, ◌∙◌}
use Rattle.std.proofs.Common.{subst, arith}
use Rattle.cbdc_model.specs.Records.{Compact, Record, Shape}
use Rattle.cbdc_model.specs.Ranges.{shard_node, home_of}
use Rattle.cbdc_model.specs.Lanes.{Made}
use Rattle.cbdc_model.specs.Sights.{Sight}
use Rattle.ledger_laws.proofs.Cuts.{made_trans, made_none}
use Rattle.ledger_laws.proofs.Rows.{at, away, at_node}
use Rattle.lane_laws.specs.Batches.{view, IsFlown, Flown}
use Rattle.lane_laws.proofs.Steps.{StepAt, stays_there, made_step, flown_step, unflown_step}

-- what a phase did that left nothing in flight, and what one did that may have
pub record Moved (K : Shape) (pieces : List (List Compact)) (alone : Bool) (lane : ℕ) (log : Sight) (shards : ℕ → Sight) (log' : Sight)
    (shards' : ℕ → Sight) : Type 0 where
  pub made : Made K pieces alone lane (view K lane log shards) (view K lane log' shards')
  pub log_same : log'.flight ≡ log.flight
  pub shard_same : (s : ℕ) → (shards' s).flight ≡ (shards s).flight

pub record Fell (K : Shape) (pieces : List (List Compact)) (alone : Bool) (lane : ℕ) (log : Sight) (shards : ℕ → Sight) (log' : Sight)
    (shards' : ℕ → Sight) : Type 0 where
  pub made : Made K pieces alone lane (view K lane log shards) (view K lane log' shards')
  pub flown : Flown K pieces lane log shards log' shards'

module _ (K : Shape) (pieces : List (List Compact)) (alone : Bool) (lane : ℕ) where
  pub moved_none : (log : Sight) (shards : ℕ → Sight) → Moved K pieces alone lane log shards log shards
  moved_none log shards = record { made = made_none K pieces alone lane (view K lane log shards); log_same = refl; shard_same = λ s. refl }

  pub moved_on : (log log1 log2 : Sight) (shards shards1 shards2 : ℕ → Sight) → Moved K pieces alone lane log shards log1 shards1
      → Moved K pieces alone lane log1 shards1 log2 shards2
      → Moved K pieces alone lane log shards log2 shards2
  moved_on log log1 log2 shards shards1 shards2 a b = record {
    made = made_trans K pieces alone lane (view K lane log shards) (view K lane log1 shards1) (view K lane log2 shards2) a.made b.made;
    log_same = b.log_same ∙ a.log_same;
    shard_same = λ s. b.shard_same s ∙ a.shard_same s;
  }

  flown_from : (J : ℕ → List Record) (n : ℕ) (o p q : Option Record) → p ≡ o → IsFlown K pieces lane p J n q → IsFlown K pieces lane o J n q
  flown_from J n o p q e h = subst (λ x. IsFlown K pieces lane x J n q) e h

  pub fell_on : (log log1 log2 : Sight) (shards shards1 shards2 : ℕ → Sight) → Moved K pieces alone lane log shards log1 shards1
      → Fell K pieces alone lane log1 shards1 log2 shards2
      → Fell K pieces alone lane log shards log2 shards2
  fell_on log log1 log2 shards shards1 shards2 a b = record {
    made = made_trans K pieces alone lane (view K lane log shards) (view K lane log1 shards1) (view K lane log2 shards2) a.made b.made;
    flown = record {
      log_flown = flown_from (view K lane log2 shards2) (home_of K lane) log.flight log1.flight log2.flight a.log_same b.flown.log_flown;
      shard_flown = λ s. flown_from (view K lane log2 shards2) (shard_node K s) (shards s).flight (shards1 s).flight (shards2 s).flight
          (a.shard_same s) (b.flown.shard_flown s);
    };
  }

  pub fell : (log log1 : Sight) (shards shards1 : ℕ → Sight) → Moved K pieces alone lane log shards log1 shards1
      → Fell K pieces alone lane log shards log1 shards1
  fell log log1 shards shards1 a = record { made = a.made; flown = record { log_flown = inl a.log_same; shard_flown = λ s. inl (a.shard_same s) } }

not_below : (c s : ℕ) → nat_lt (c + s) c ≡ false
not_below c s = grind arith

module _ (K : Shape) (lane : ℕ) (home : home_of K lane < K.coordinators) where
  pub apart_home : (s : ℕ) → (home_of K lane == shard_node K s) ≡ false
  apart_home s = apart_numbers (home_of K lane) K.coordinators s home
    where
      apart_numbers : (a c s : ℕ) → a < c → (a == c + s) ≡ false
      apart_numbers a c s lt = grind arith

  pub view_home : (log : Sight) (shards : ℕ → Sight) (n : ℕ) → home_of K lane ≡ n → view K lane log shards n ≡ log.seen
  view_home log shards n e = let t : (home_of K lane == n) ≡ true = grind (arith, e) in rw t

  pub view_shard : (log : Sight) (shards : ℕ → Sight) (s : ℕ) → view K lane log shards (shard_node K s) ≡ (shards s).seen
  view_shard log shards s =
      let a : (home_of K lane == shard_node K s) ≡ false = apart_home s in
      let b : nat_lt (K.coordinators + s) K.coordinators ≡ false = not_below K.coordinators s in
      let c : K.coordinators + s - K.coordinators ≡ s = omega arith in
      rw (a, b, c) refl

  -- what is in flight, by node
  abbrev flight_at : Sight → (ℕ → Sight) → ℕ → Option Record
  flight_at log shards n = if home_of K lane == n then log.flight
      else (if nat_lt n K.coordinators then None else (shards (n - K.coordinators)).flight)

  flight_home : (log : Sight) (shards : ℕ → Sight) (n : ℕ) → home_of K lane ≡ n → flight_at log shards n ≡ log.flight
  flight_home log shards n e = let t : (home_of K lane == n) ≡ true = grind (arith, e) in rw t

  flight_shard : (log : Sight) (shards : ℕ → Sight) (s : ℕ) → flight_at log shards (shard_node K s) ≡ (shards s).flight
  flight_shard log shards s =
      let a : (home_of K lane == shard_node K s) ≡ false = apart_home s in
      let b : nat_lt (K.coordinators + s) K.coordinators ≡ false = not_below K.coordinators s in
      let c : K.coordinators + s - K.coordinators ≡ s = omega arith in
      rw (a, b, c) refl

  module _ (pieces : List (List Compact)) (alone : Bool) (fails : Bool) where
    abbrev Step : Sight → (ℕ → Sight) → ℕ → Option Record → Option Record → List Record → Type 0
    Step log shards n before after new = StepAt K pieces alone lane fails (view K lane log shards) n before after new

    abbrev Steps : Sight → (ℕ → Sight) → Sight → (ℕ → Sight) → Type 0
    Steps log shards log' shards' = (n : ℕ) → Step log shards n (flight_at log shards n) (flight_at log' shards' n) (view K lane log' shards' n)

    to_fell : (log log' : Sight) (shards shards' : ℕ → Sight) → Steps log shards log' shards' → Fell K pieces alone lane log shards log' shards'
    to_fell log log' shards shards' step = record {
      made = made_step K pieces alone lane fails (view K lane log shards) (view K lane log' shards') (flight_at log shards) (flight_at log' shards')
          step;
      flown = record {
        log_flown = subst (λ o. IsFlown K pieces lane o (view K lane log' shards') (home_of K lane) log'.flight)
            (flight_home log shards (home_of K lane) refl)
            (subst (λ o. IsFlown K pieces lane (flight_at log shards (home_of K lane)) (view K lane log' shards') (home_of K lane) o)
            (flight_home log' shards' (home_of K lane) refl) (at_node_flown (home_of K lane)));
        shard_flown = λ s. subst (λ o. IsFlown K pieces lane o (view K lane log' shards') (shard_node K s) (shards' s).flight)
            (flight_shard log shards s)
            (subst (λ o. IsFlown K pieces lane (flight_at log shards (shard_node K s)) (view K lane log' shards') (shard_node K s) o)
            (flight_shard log' shards' s) (at_node_flown (shard_node K s)));
      };
    }
      where
        at_node_flown : (n : ℕ) → IsFlown K pieces lane (flight_at log shards n) (view K lane log' shards') n (flight_at log' shards' n)
        at_node_flown n = flown_step K pieces alone lane fails (view K lane log shards) (view K lane log' shards') (flight_at log shards)
            (flight_at log' shards') step n

    -- a call at the coordinator
    log_steps : (log log' : Sight) (shards : ℕ → Sight) → Step log shards (home_of K lane) log.flight log'.flight log'.seen
        → Steps log shards log' shards
    log_steps log log' shards one n = elim (at_node (home_of K lane) n) [
      | away a ↦ stays_there (same n a) (same_flight n a)
      | at e ↦ subst (λ m. Step log shards m (flight_at log shards m) (flight_at log' shards m) (view K lane log' shards m)) e
          (subst (λ o. Step log shards (home_of K lane) o (flight_at log' shards (home_of K lane)) (view K lane log' shards (home_of K lane)))
          (sym (flight_home log shards (home_of K lane) refl))
          (subst (λ o. Step log shards (home_of K lane) log.flight o (view K lane log' shards (home_of K lane)))
          (sym (flight_home log' shards (home_of K lane) refl))
          (subst (λ L. Step log shards (home_of K lane) log.flight log'.flight L) (sym (view_home log' shards (home_of K lane) refl)) one)))
    ]
      where
        same : (n : ℕ) → (home_of K lane == n) ≡ false → view K lane log' shards n ≡ view K lane log shards n
        same n e = rw e

        same_flight : (n : ℕ) → (home_of K lane == n) ≡ false → flight_at log' shards n ≡ flight_at log shards n
        same_flight n e = rw e

    -- a phase at the shards
    shard_steps : (log : Sight) (shards shards' : ℕ → Sight)
        → ((s : ℕ) → Step log shards (shard_node K s) (shards s).flight (shards' s).flight (shards' s).seen) → Steps log shards log shards'
    shard_steps log shards shards' each n = elim (at_node (home_of K lane) n) [
      | at e ↦ stays_there (view_home log shards' n e ∙ sym (view_home log shards n e))
          (flight_home log shards' n e ∙ sym (flight_home log shards n e))
      | away a ↦ elim (nat_lt n K.coordinators) as
          (λ t. nat_lt n K.coordinators ≡ t → Step log shards n (flight_at log shards n) (flight_at log shards' n) (view K lane log shards' n)) [
            | true ↦ λ t. nowhere n a t
            | false ↦ λ t. subst (λ m. Step log shards m (flight_at log shards m) (flight_at log shards' m) (view K lane log shards' m)) (back n t)
                (at_shard (n - K.coordinators))
          ] refl
    ]
      where
        back : (n : ℕ) → nat_lt n K.coordinators ≡ false → shard_node K (n - K.coordinators) ≡ n
        back n t = let le : K.coordinators ≤ n = grind (arith, t) in omega arith

        at_shard : (s : ℕ) → Step log shards (shard_node K s) (flight_at log shards (shard_node K s)) (flight_at log shards' (shard_node K s))
            (view K lane log shards' (shard_node K s))
        at_shard s =
            subst (λ o. Step log shards (shard_node K s) o (flight_at log shards' (shard_node K s)) (view K lane log shards' (shard_node K s)))
            (sym (flight_shard log shards s))
            (subst (λ o. Step log shards (shard_node K s) (shards s).flight o (view K lane log shards' (shard_node K s)))
            (sym (flight_shard log shards' s))
            (subst (λ L. Step log shards (shard_node K s) (shards s).flight (shards' s).flight L) (sym (view_shard log shards' s)) (each s)))

        nowhere : (n : ℕ) → (home_of K lane == n) ≡ false → nat_lt n K.coordinators ≡ true
            → Step log shards n (flight_at log shards n) (flight_at log shards' n) (view K lane log shards' n)
        nowhere n a t = stays_there (rw (a, t) refl) (rw (a, t) refl)

    pub log_fell : (log log' : Sight) (shards : ℕ → Sight) → Step log shards (home_of K lane) log.flight log'.flight log'.seen
        → Fell K pieces alone lane log shards log' shards
    log_fell log log' shards one = to_fell log log' shards shards (log_steps log log' shards one)

    pub shards_fell : (log : Sight) (shards shards' : ℕ → Sight)
        → ((s : ℕ) → Step log shards (shard_node K s) (shards s).flight (shards' s).flight (shards' s).seen)
        → Fell K pieces alone lane log shards log shards'
    shards_fell log shards shards' each = to_fell log log shards shards' (shard_steps log shards shards' each)

  -- where no disk failed
  pub log_moved : (pieces : List (List Compact)) (alone : Bool) (log log' : Sight) (shards : ℕ → Sight)
      → StepAt K pieces alone lane false (view K lane log shards) (home_of K lane) log.flight log'.flight log'.seen
      → Moved K pieces alone lane log shards log' shards
  log_moved pieces alone log log' shards one = record {
    made = (log_fell pieces alone false log log' shards one).made;
    log_same = unflown_step K pieces alone lane (view K lane log shards) (home_of K lane) log.flight log'.flight log'.seen one;
    shard_same = λ s. refl;
  }

  pub shards_moved : (pieces : List (List Compact)) (alone : Bool) (log : Sight) (shards shards' : ℕ → Sight)
      → ((s : ℕ) → StepAt K pieces alone lane false (view K lane log shards) (shard_node K s) (shards s).flight (shards' s).flight (shards' s).seen)
      → Moved K pieces alone lane log shards log shards'
  shards_moved pieces alone log shards shards' each = record {
    made = (shards_fell pieces alone false log shards shards' each).made;
    log_same = refl;
    shard_same = λ s. unflown_step K pieces alone lane (view K lane log shards) (shard_node K s) (shards s).flight (shards' s).flight
        (shards' s).seen (each s);
  }
