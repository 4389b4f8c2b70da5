-- What calls keep of the ports that they are made through.
use Rattle.std.specs.Prelude.{◌≡◌, ◌≢◌, ℕ, ◌≤◌}
use Rattle.cbdc_model.specs.Records.{Header}
use Rattle.cbdc_model.specs.Sights.{Sight}
use Rattle.lane_driver.specs.Told.{IsStillNode, KeepNodes}

-- what a call keeps of its port to a coordinator: it goes to the same one, under the same header, and no other one was asked; there are as many,
-- each is the node that it was, its disk has failed no less often, and what held of them holds
pub record KeepsLog {L : Type 0} (at : L → ℕ) (header : L → Header) (count : L → ℕ) (sights : L → ℕ → Sight) (faults : L → ℕ → ℕ) (holds : L → Type 0)
    (old new : L) : Type 0 where
  pub at_same : at new ≡ at old
  pub header_same : header new ≡ header old
  pub count_same : count new ≡ count old
  pub elsewhere : (n : ℕ) → n ≢ at old → sights new n ≡ sights old n
  pub nodes : KeepNodes (sights old) (sights new)
  pub later : (n : ℕ) → faults old n ≤ faults new n
  pub held : holds old → holds new

-- what a call keeps of its port to a shard: it goes to the same one, which is the node that it was, its disk has failed no less often, what held of
-- it holds, and each lane that the port served it serves
pub record KeepsShard {P : Type 0} (at : P → ℕ) (sight : P → Sight) (faults : P → ℕ) (holds : P → Type 0) (serves : P → ℕ → Type 0)
    (old new : P) : Type 0 where
  pub at_same : at new ≡ at old
  pub node : IsStillNode (sight old) (sight new)
  pub later : faults old ≤ faults new
  pub held : holds old → holds new
  pub served : (l : ℕ) → serves old l → serves new l

-- there are as many shards; each is the node that it was, its disk has failed no less often, what held of them holds, and each lane that they served
-- they serve
pub record KeepsShards {S : Type 0} (count : S → ℕ) (sights : S → ℕ → Sight) (faults : S → ℕ → ℕ) (holds : S → Type 0) (serves : S → ℕ → Type 0)
    (old new : S) : Type 0 where
  pub count_same : count new ≡ count old
  pub nodes : KeepNodes (sights old) (sights new)
  pub later : (n : ℕ) → faults old n ≤ faults new n
  pub held : holds old → holds new
  pub served : (l : ℕ) → serves old l → serves new l
