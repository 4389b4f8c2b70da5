use Rattle.std.proofs.Common.{[]}
use Rattle.command_answers.proofs.Results.{if_ok_by}
use Rattle.rack_runs.proofs.Lent.{if_err_by}
use Rattle.submission_laws.specs.Files.{mint_journals}
use Rattle.gen_command.proofs.FirstShown.{first_kept}
use Rattle.gen_command.proofs.Memory.{unmade_memory}
use Rattle.gen_command.proofs.Came.{made_shown, room_still, unrun}
use Rattle.gen_command.proofs.generating.run_files.Goals as goal

pub returns-in-Err-clause-why : goal.returns-in-Err-clause-why
returns-in-Err-clause-why g c = unmade_memory c.args.shape.now c.args.mint c.args.rack.now c.requires.ready c.make_ledger.new.rack.misses
    c.in-Err.fault c.in-Err.ensures.refusal

pub returns-clause-did : goal.returns-clause-did
returns-clause-did g c =
    let limits = c.requires.ready.limits in
    let shows = made_shown c.args.shape.now c.args.mint c.requires.few limits c.args.rack.now c.make_ledger.new.rack c.requires.ready
    c.make_ledger.ensures.back c.in-Ok.ensures.written in
    if_ok_by _ _ c.run_on.result (λ ran told. told c.args.shape.now c.args.mint [] (mint_journals c.args.shape.now c.args.mint) limits shows
    (first_kept c.args.shape.now c.args.mint limits c.requires.few)) c.run_on.ensures.told

pub returns-clause-why : goal.returns-clause-why
returns-clause-why g c =
    let limits = c.requires.ready.limits in
    let shows = made_shown c.args.shape.now c.args.mint c.requires.few limits c.args.rack.now c.make_ledger.new.rack c.requires.ready
    c.make_ledger.ensures.back c.in-Ok.ensures.written in
    let room = room_still c.args.shape.now c.args.mint c.requires.few limits c.args.clients.now c.args.rack.now c.make_ledger.new.rack
    c.requires.ready c.make_ledger.ensures.back c.in-Ok.ensures.rooms c.requires.room in
    if_err_by _ _ c.run_on.result (λ e stopped. unrun c.args.shape.now c.args.mint c.requires.few limits c.args.clients.now c.make_ledger.new.rack
    c.run_on.new.rack shows room e stopped) c.run_on.ensures.stopped
