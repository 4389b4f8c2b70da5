use Rattle.std.proofs.Common.{◌≡◌, ◌<◌, ℕ, List, length, refl, sym, ap, ◌∙◌, subst}
use Rattle.std.specs.Prelude.{slice_index_or}
use Rattle.std.specs.List.{AllZip}
use Rattle.std.proofs.lemmas.List.Elements.{All-same}
use Rattle.lane_waves.specs.Held.{RunBegins, RunEnds}
use Rattle.lane_waves.proofs.Places.{all_anew}
use Rattle.lane_waves.proofs.Ending.{ends_zip}
use Rattle.lane_waves.proofs.waves.run_table.Goals as goal

pub run_beside-requires-clause-begin : goal.run_beside-requires-clause-begin
run_beside-requires-clause-begin g c κ lives = All-same (RunBegins g.S.Shard.sight g.B.Locks.tables c.args.shape.now) c.as_mut_slice.result.now
    c.args.table.runs.items c.as_mut_slice.ensures.value c.requires.begin

pub returns-clause-run : goal.returns-clause-run
returns-clause-run g c =
    let E = RunEnds g.S.Shard.sight g.B.Locks.tables c.args.shape.now in
    let olds = c.args.table.runs in
    let news = c.run_beside.new.runs in
    let same : length news ≡ length olds.items = c.run_beside.auto.runs ∙ ap (λ (xs : List _). length xs) c.as_mut_slice.ensures.value in
    let end = subst (λ xs. (i : ℕ) (d : _) → i < length xs → E (slice_index_or xs i d) (slice_index_or news i d)) c.as_mut_slice.ensures.value
    c.run_beside.ensures.end.each in
    record {
      runs = _;
      rest = refl;
      ends = subst (λ xs. AllZip E olds.items xs) (sym (all_anew olds.len news olds.items same olds.ok.0))
          (ends_zip g.S.Shard.sight g.B.Locks.tables c.args.shape.now olds.items news same end);
    }
