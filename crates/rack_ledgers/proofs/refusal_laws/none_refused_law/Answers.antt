use Rattle.std.specs.Prelude.{None, Some, refl}
use Rattle.rack_ledgers.proofs.Refused.{none_refused, tell_told}
use Rattle.rack_ledgers.proofs.refusal_laws.none_refused_law.Goals as goal

pub returns : goal.returns
returns g c = record {
  opened = λ K genesis J before now answer tell told room unopened.
      none_refused g.R.Disk.Disk (g.R.Rack.held c.args.rack.now) before now K genesis J tell answer told room None tt unopened;
  minted = λ K genesis J before now answer tell told room unopened.
      none_refused g.R.Disk.Disk (g.R.Rack.held c.args.rack.now) before now K genesis J tell answer told room (Some genesis) refl unopened;
  told = λ K genesis J limits opens tell. tell_told g.R.Disk.Disk (g.R.Rack.held c.args.rack.now) K genesis J limits opens tell;
}
