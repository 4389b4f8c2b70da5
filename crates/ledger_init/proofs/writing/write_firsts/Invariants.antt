use Rattle.std.proofs.Common.{◌≡◌, ◌^◌, ◌≤◌, ◌<◌, ℕ, length, vec_len}
use Rattle.cbdc_model.specs.World.{first_record}
use Rattle.rack_ledgers.specs.Places.{EachFrom, MayReturn}
use Rattle.rack_ledgers.specs.Racked.{ListGoesOn}
use Rattle.ledger_init.specs.Places.{minted_by, IsFirstWritten}
use Rattle.ledger_init.proofs.writing.write_firsts.Given as goal

abbrev pub invariant-blanks : goal.invariant-blanks
invariant-blanks g l = record {
  few : length l.blanks.items < 2 ^ 32;
  fewer : length l.blanks.items ≤ length l.initial.blanks.items;
  out : EachFrom (MayReturn (λ b. g.R.Disk.Disk.count b.disk) (g.R.Rack.can_put l.rack)) 0 l.blanks.items;
  done : ListGoesOn (λ n b. IsFirstWritten g.R.Disk.Disk (first_record l.shape (minted_by l.genesis) n) b.disk (g.R.Rack.held l.rack n)) 0
      l.blanks.items l.initial.blanks.items;
  others_held : (n : ℕ) → length l.initial.blanks.items ≤ n → g.R.Rack.held l.rack n ≡ g.R.Rack.held l.initial.rack n;
  back : (n : ℕ) → length l.blanks.items ≤ n → n < length l.initial.blanks.items → g.R.Rack.can_take l.rack n;
  others_in : (n : ℕ) → length l.initial.blanks.items ≤ n → g.R.Rack.can_take l.initial.rack n → g.R.Rack.can_take l.rack n;
  later : (n : ℕ) → g.R.Rack.count l.initial.rack n ≤ g.R.Rack.count l.rack n;
}

abbrev pub decreases-blanks : goal.decreases-blanks
decreases-blanks g l = vec_len l.blanks
