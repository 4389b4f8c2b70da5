use Rattle.lane_waves.proofs.Opening.{tables_of}
use Rattle.lane_waves.proofs.waves.wave_shared.Given as goal

abbrev pub ghosts-run_seated : goal.ghosts-run_seated
ghosts-run_seated g a = record { tables = tables_of a.shape.now.coordinators a.log_locks.now a.shard_locks.now }
