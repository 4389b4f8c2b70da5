-- All Locks that are still to come are written, lane by lane, as long as none needs a stamp above 2^62.
use Rattle.std.proofs.Common.{◌≡◌, ℕ, zero, suc, ◌*◌, ◌^◌, ◌<◌, ◌≤◌, Bool, true, false, ◌==◌, nat_lt, List, [], ◌∷◌, ◌++◌, refl, subst, arith}
use Rattle.cbdc_model.specs.Records.{Shape, Compact}
use Rattle.cbdc_model.specs.Ranges.{shard_node}
use Rattle.cbdc_model.specs.History.{Minted}
use Rattle.cbdc_model.specs.World.{World, Event, Begin, End, journals, Run}
use Rattle.ledger_laws.proofs.Rows.{at, away, at_node}
use Rattle.ledger_laws.proofs.Lookups.{not_true, true_false}
use Rattle.ledger_laws.proofs.Reaching.{run-append}
use Rattle.run_laws.specs.LocksDue.{lacks_lock, before_lock, IsStuck, BeginLocks}
use Rattle.ledger_laws.proofs.Openings.{IsQuiet}
use Rattle.run_laws.proofs.OneLock.{LockStep, write_lock, fewer, one_less}

locks-append : (es fs : List Event) → BeginLocks es → BeginLocks fs → BeginLocks (es ++ fs)
locks-append [] fs h g = g
locks-append (e ∷ es) fs h g = (h.0, locks-append es fs h.1 g)

module _ (K : Shape) (minting : Minted) (P : Compact → Type 0) (shards : 0 < K.shards) (lanes : 0 < K.lanes)
    (Inv : World → Type 0) (keeps : (v u : World) (s lane : ℕ) → s < K.shards → lane < K.coordinators * K.lanes
    → lacks_lock K (journals v) s lane ≡ true
    → LockStep K minting P shards lanes v u s lane → Inv v → Inv u) where
  -- Locks alone lead to a world
  pub record Going (w : World) : Type 0 where
    pub new : World
    pub events : List Event
    pub run : Run K minting w events new
    pub locks : BeginLocks events
    pub is_quiet : IsQuiet K minting P shards new
    pub holds : Inv new
    pub fewer_lack : (s lane : ℕ) → lane < K.coordinators * K.lanes → lacks_lock K (journals new) s lane ≡ true
        → lacks_lock K (journals w) s lane ≡ true

  -- to one with a property, or to one that is stuck
  pub data Comes (w : World) (Q : World → Type 0) : Type 0 where
    arrives : (g : Going w) → Q g.new → Comes w Q
    sticks : (g : Going w) → IsStuck K (journals g.new) → Comes w Q

  abbrev stay : (w : World) → IsQuiet K minting P shards w → Inv w → Going w
  stay w q i = record { new = w; events = []; run = refl; locks = tt; is_quiet = q; holds = i; fewer_lack = λ s lane lt h. h }

  abbrev join : (w : World) → (g : Going w) → Going g.new → Going w
  join w g h = record {
    new = h.new;
    events = g.events ++ h.events;
    run = run-append K minting w g.new h.new g.events h.events g.run h.run;
    locks = locks-append g.events h.events g.locks h.locks;
    is_quiet = h.is_quiet;
    holds = h.holds;
    fewer_lack = λ s lane lt l. g.fewer_lack s lane lt (h.fewer_lack s lane lt l);
  }

  then_on : (w : World) (Q R S : World → Type 0) → Comes w Q → ((g : Going w) → Q g.new → Comes g.new R)
      → ((g : Going w) → Q g.new → (h : Going g.new) → R h.new → S h.new) → Comes w S
  then_on w Q R S (sticks g stuck) f both = sticks g stuck
  then_on w Q R S (arrives g q) f both = second (f g q)
    where
      second : Comes g.new R → Comes w S
      second (arrives h r) = arrives (join w g h) (both g q h r)
      second (sticks h stuck) = sticks (join w g h) stuck

  stays_false : {a b : Bool} → (b ≡ true → a ≡ true) → a ≡ false → b ≡ false
  stays_false {a} {b} h f = not_true b (λ t. true_false a (h t) f)

  -- what one lane lacks at one shard
  one_lock : (w : World) → IsQuiet K minting P shards w → Inv w → (s lane : ℕ) → s < K.shards → lane < K.coordinators * K.lanes
      → Comes w (λ u. lacks_lock K (journals u) s lane ≡ false)
  one_lock w q i s lane ls ll = elim (lacks_lock K (journals w) s lane) as
      (λ c. lacks_lock K (journals w) s lane ≡ c → Comes w (λ u. lacks_lock K (journals u) s lane ≡ false)) [
        | false ↦ λ f. arrives (stay w q i) f
        | true ↦ λ t. elim (nat_lt (before_lock K (journals w) s lane) (2 ^ 62)) as
            (λ c. nat_lt (before_lock K (journals w) s lane) (2 ^ 62) ≡ c → Comes w (λ u. lacks_lock K (journals u) s lane ≡ false)) [
              | true ↦ λ e. written t (write_lock K minting P shards lanes w q s lane ls t (early (before_lock K (journals w) s lane) e))
              | false ↦ λ e. sticks (stay w q i) (record {
                shard = s;
                lane = lane;
                of_shape = (ls, ll);
                lacks = t;
                needs = late (before_lock K (journals w) s lane) e;
              })
            ] refl
      ] refl
    where
      early : (n : ℕ) → nat_lt n (2 ^ 62) ≡ true → suc n ≤ 2 ^ 62
      early n e = grind arith

      late : (n : ℕ) → nat_lt n (2 ^ 62) ≡ false → 2 ^ 62 < suc n
      late n e = grind arith

      written : lacks_lock K (journals w) s lane ≡ true → (u : World) × LockStep K minting P shards lanes w u s lane
          → Comes w (λ u. lacks_lock K (journals u) s lane ≡ false)
      written t (u, step) = arrives (record {
        new = u;
        events = Begin (shard_node K s) step.r ∷ End (shard_node K s) ∷ [];
        run = step.run;
        locks = (step.is_lock, (tt, tt));
        is_quiet = step.is_quiet;
        holds = keeps w u s lane ls ll t step i;
        fewer_lack = λ s' lane' lt h. fewer K minting P shards lanes w u s lane ll step s' lane' lt h;
      }) (one_less K minting P shards lanes w u s lane ll step)

  below : (n s : ℕ) → s < suc n → (n == s) ≡ false → s < n
  below n s lt e = grind arith

  -- what one lane lacks at the shards below n
  abbrev Has : ℕ → ℕ → World → Type 0
  Has lane n u = (s : ℕ) → s < n → lacks_lock K (journals u) s lane ≡ false

  shards_of : (w : World) → IsQuiet K minting P shards w → Inv w → (lane : ℕ) → lane < K.coordinators * K.lanes → (n : ℕ) → n ≤ K.shards
      → Comes w (Has lane n)
  shards_of w q i lane ll zero le = arrives (stay w q i) (λ s lt. absurd (omega arith))
  shards_of w q i lane ll (suc n) le =
      then_on w (Has lane n) (λ u. lacks_lock K (journals u) n lane ≡ false) (Has lane (suc n)) (shards_of w q i lane ll n (omega arith))
      (λ g h. one_lock g.new g.is_quiet g.holds n lane (omega arith) ll)
      (λ g h g' new s lt. elim (at_node n s) [
        | at e ↦ subst (λ k. lacks_lock K (journals g'.new) k lane ≡ false) e new
        | away a ↦ stays_false (λ t. g'.fewer_lack s lane ll t) (h s (below n s lt a))
      ])

  -- what the lanes below n lack
  abbrev AllHas : ℕ → World → Type 0
  AllHas n u = (lane : ℕ) → lane < n → Has lane K.shards u

  pub lanes_of : (w : World) → IsQuiet K minting P shards w → Inv w → (n : ℕ) → n ≤ K.coordinators * K.lanes
      → Comes w (λ u. (lane : ℕ) → lane < n → (s : ℕ) → s < K.shards → lacks_lock K (journals u) s lane ≡ false)
  lanes_of w q i zero le = arrives (stay w q i) (λ lane lt. absurd (omega arith))
  lanes_of w q i (suc n) le =
      then_on w (AllHas n) (Has n K.shards) (AllHas (suc n)) (lanes_of w q i n (omega arith))
      (λ g h. shards_of g.new g.is_quiet g.holds n (omega arith) K.shards (omega arith))
      (λ g h g' new lane lt s ls. elim (at_node n lane) [
        | at e ↦ subst (λ k. lacks_lock K (journals g'.new) s k ≡ false) e (new s ls)
        | away a ↦ stays_false (λ t. g'.fewer_lack s lane (let b = below n lane lt a in omega arith) t) (h lane (below n lane lt a) s ls)
      ])
