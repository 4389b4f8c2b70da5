use Rattle.std.proofs.Common.{◌∙◌, ℕ, List, ap, sym, subst}
use Rattle.cbdc_model.specs.Records.{Record}
use Rattle.file_runs.specs.Looking.{AreLooks}
use Rattle.file_runs.specs.Runs.{joined}
use Rattle.workload.specs.Generator.{mint_of}
use Rattle.gen_command.specs.Generated.{all_submissions}
use Rattle.gen_command.specs.InMemory.{AreDisksReady, HaveRoomForFiles, TellsRunOf, IsCheckedSound, IsUnchecked}
use Rattle.gen_command.proofs.Memory.{are_ready, workload_fits}
use Rattle.gen_command.specs.Watched.{IfSeenFirst, IsCutTold, WhyNoCut}
use Rattle.gen_command.proofs.Looked.{if_first}
use Rattle.gen_command.proofs.Came.{memory_why, came_to, unchecked_why, uncut_why}
use Rattle.gen_command.proofs.generating.run_workload.Goals as goal

pub run_files-requires-clause-ready : goal.run_files-requires-clause-ready
run_files-requires-clause-ready g c κs lives =
    subst (λ m. AreDisksReady c.args.shape.now m c.in-Ok-rack_of.rack) (sym c.in-Ok.ensures.mint)
    (are_ready c.args.shape.now c.args.seed c.args.count c.requires.few c.args.options.replicas c.in-Ok-rack_of.rack c.in-Ok-rack_of.ensures.limits
    c.in-Ok-rack_of.ensures.empty)

pub run_files-requires-clause-room : goal.run_files-requires-clause-room
run_files-requires-clause-room g c κs lives =
    let files = c.deref.ensures.value ∙ c.in-Ok.ensures.clients in
    subst (λ m. HaveRoomForFiles c.args.shape.now m c.deref.result.now c.in-Ok-rack_of.rack) (sym c.in-Ok.ensures.mint)
    (subst (λ fs. HaveRoomForFiles c.args.shape.now (mint_of c.args.seed c.args.count) fs c.in-Ok-rack_of.rack) (sym files)
    (workload_fits c.args.shape.now c.args.seed c.args.count c.requires.few c.args.options.replicas c.in-Ok-rack_of.rack
    c.in-Ok-rack_of.ensures.limits c.in-Ok-rack_of.ensures.empty))

pub returns-in-Err-clause-why : goal.returns-in-Err-clause-why
returns-in-Err-clause-why g c = memory_why c.args.shape.now c.args.seed c.args.count c.args.options.watch c.in-Err.fault c.in-Err.ensures.why

pub returns-in-Err-check_files-clause-why : goal.returns-in-Err-check_files-clause-why
returns-in-Err-check_files-clause-why g c =
    let rack = c.run_files.new.rack in
    let ran = c.in-Ok-run_files.ran in
    let fault = c.in-Err-check_files.fault in
    let files = c.deref.ensures.value ∙ c.in-Ok.ensures.clients in
    let told = subst (λ fs. TellsRunOf c.args.shape.now (mint_of c.args.seed c.args.count) fs rack ran) files
    (subst (λ m. TellsRunOf c.args.shape.now m c.deref.result.now rack ran) c.in-Ok.ensures.mint c.in-Ok-run_files.ensures.did) in
    let mint = c.as_slice.ensures ∙ c.in-Ok-copied.ensures ∙ c.in-Ok.ensures.mint in
    let handed = c.deref-2.ensures.value ∙ c.in-Ok-joined.ensures ∙ ap joined c.in-Ok.ensures.clients in
    let wrong = subst (λ m. IsUnchecked rack c.check_files.new.rack m (all_submissions c.args.seed c.args.count) fault) mint
    (subst (λ h. IsUnchecked rack c.check_files.new.rack c.as_slice.result.now h fault) handed c.in-Err-check_files.ensures.why) in
    unchecked_why c.args.shape.now c.args.seed c.args.count c.requires.few c.in-Ok-rack_of.ensures.limits rack c.run_files.ensures.back ran told
    c.args.options.watch c.check_files.new.rack fault wrong

pub value_seen-requires-clause-looks : goal.value_seen-requires-clause-looks
value_seen-requires-clause-looks g c κs lives =
    let rack = c.run_files.new.rack in
    let ran = c.in-Ok-run_files.ran in
    let files = c.deref.ensures.value ∙ c.in-Ok.ensures.clients in
    let told = subst (λ fs. TellsRunOf c.args.shape.now (mint_of c.args.seed c.args.count) fs rack ran) files
    (subst (λ m. TellsRunOf c.args.shape.now m c.deref.result.now rack ran) c.in-Ok.ensures.mint c.in-Ok-run_files.ensures.did) in
    subst (λ ws. IfSeenFirst ws (λ lists. (Y : ℕ → List Record) × AreLooks c.args.shape.now Y lists)) (sym c.deref-3.ensures.value)
    (if_first c.args.shape.now c.args.seed c.args.count told.tells.middle told.run.exit ran.waves.items told.tells.told)

pub returns-in-Ok-value_seen-clause-did : goal.returns-in-Ok-value_seen-clause-did
returns-in-Ok-value_seen-clause-did g c =
    let rack = c.run_files.new.rack in
    let ran = c.in-Ok-run_files.ran in
    let files = c.deref.ensures.value ∙ c.in-Ok.ensures.clients in
    let told = subst (λ fs. TellsRunOf c.args.shape.now (mint_of c.args.seed c.args.count) fs rack ran) files
    (subst (λ m. TellsRunOf c.args.shape.now m c.deref.result.now rack ran) c.in-Ok.ensures.mint c.in-Ok-run_files.ensures.did) in
    let mint = c.as_slice.ensures ∙ c.in-Ok-copied.ensures ∙ c.in-Ok.ensures.mint in
    let handed = c.deref-2.ensures.value ∙ c.in-Ok-joined.ensures ∙ ap joined c.in-Ok.ensures.clients in
    let sound = subst (λ m. IsCheckedSound rack m (all_submissions c.args.seed c.args.count) c.in-Ok-check_files.totals) mint
    (subst (λ h. IsCheckedSound rack c.as_slice.result.now h c.in-Ok-check_files.totals) handed c.in-Ok-check_files.ensures.did) in
    let money = c.as_slice-2.ensures ∙ c.in-Ok-copied.ensures ∙ c.in-Ok.ensures.mint in
    let txs = c.deref-4.ensures.value ∙ c.in-Ok-joined.ensures ∙ ap joined c.in-Ok.ensures.clients in
    let value = subst (λ m. IsCutTold c.args.shape.now m (all_submissions c.args.seed c.args.count) ran.waves.items c.args.options.watch
    c.in-Ok-value_seen.cut) money
    (subst (λ h. IsCutTold c.args.shape.now c.as_slice-2.result.now h ran.waves.items c.args.options.watch c.in-Ok-value_seen.cut) txs
    (subst (λ ws. IsCutTold c.args.shape.now c.as_slice-2.result.now c.deref-4.result.now ws c.args.options.watch c.in-Ok-value_seen.cut)
    c.deref-3.ensures.value c.in-Ok-value_seen.ensures.did)) in
    came_to c.args.shape.now c.args.seed c.args.count c.requires.few c.in-Ok-rack_of.ensures.limits rack c.run_files.ensures.back ran told
    c.args.options c.in-Ok-rack_of.rack c.in-Ok-rack_of.ensures.empty
    c.in-Ok-check_files.totals sound c.in-Ok-value_seen.cut value

pub returns-clause-why : goal.returns-clause-why
returns-clause-why g c =
    let rack = c.run_files.new.rack in
    let ran = c.in-Ok-run_files.ran in
    let fault = c.in-Err-value_seen.fault in
    let files = c.deref.ensures.value ∙ c.in-Ok.ensures.clients in
    let told = subst (λ fs. TellsRunOf c.args.shape.now (mint_of c.args.seed c.args.count) fs rack ran) files
    (subst (λ m. TellsRunOf c.args.shape.now m c.deref.result.now rack ran) c.in-Ok.ensures.mint c.in-Ok-run_files.ensures.did) in
    let money = c.as_slice-2.ensures ∙ c.in-Ok-copied.ensures ∙ c.in-Ok.ensures.mint in
    let txs = c.deref-4.ensures.value ∙ c.in-Ok-joined.ensures ∙ ap joined c.in-Ok.ensures.clients in
    let uncut = subst (λ m. WhyNoCut c.args.shape.now m (all_submissions c.args.seed c.args.count) ran.waves.items c.args.options.watch fault) money
    (subst (λ h. WhyNoCut c.args.shape.now c.as_slice-2.result.now h ran.waves.items c.args.options.watch fault) txs
    (subst (λ ws. WhyNoCut c.args.shape.now c.as_slice-2.result.now c.deref-4.result.now ws c.args.options.watch fault) c.deref-3.ensures.value
    c.in-Err-value_seen.ensures.why)) in
    uncut_why c.args.shape.now c.args.seed c.args.count c.requires.few c.in-Ok-rack_of.ensures.limits rack c.run_files.ensures.back ran told
    c.args.options.watch fault uncut
