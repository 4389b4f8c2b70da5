use Rattle.std.proofs.Common.{◌≤◌, length, Some, if◌then◌else◌}
use Rattle.std.specs.Prelude.{is_some}
use Rattle.command_line.specs.Words.{texts}
use Rattle.mem_devices.specs.Named.{file_of}
use Rattle.mem_devices.specs.PlainRacks.{plain}
use Rattle.mem_devices.specs.Sinks.{misses_at}
use Rattle.mem_devices.specs.declared.plain_disk.PlainDisk.{PlainDisk}
use Rattle.command_answers.specs.Scene.{Scene}
use Rattle.gen_command.proofs.Memory.{none_rose}
use Rattle.commands.specs.InMemory.{memory_disks}
use Rattle.commands.proofs.InMemory.{unhindered, steady_file, rose_full, ended}
use Rattle.commands.proofs.in_memory.process_in_memory.Goals as goal

pub returns-clause-complete : goal.returns-clause-complete
returns-clause-complete g c r asked free =
    let old = c.args.inbox.now in
    let new = c.process.new.inbox in
    let before : Scene PlainDisk = record {
      file = λ name. file_of old.files.items name;
      file_faults = λ name. if is_some (file_of old.files.items name) then 0 else old.misses;
      disks = memory_disks c.args.rack;
      printed = Some c.args.out.now.bytes.items;
      print_faults = misses_at g.row.N (length c.args.out.now.bytes.items) c.args.out.now.misses;
    } in
    let after : Scene PlainDisk = record {
      file = λ name. file_of new.files.items name;
      file_faults = λ name. if is_some (file_of new.files.items name) then 0 else new.misses;
      disks = memory_disks c.process.result.rack;
      printed = Some c.process.new.out.bytes.items;
      print_faults = misses_at g.row.N (length c.process.new.out.bytes.items) c.process.new.out.misses;
    } in
    let steady = unhindered plain before after
    (λ name bytes is. steady_file (file_of old.files.items name) (file_of new.files.items name) bytes old.misses new.misses is
    (c.process.ensures.inbox name))
    (λ n low. none_rose c.args.rack.misses c.process.result.rack.misses n low) (texts c.args.words.now) r asked free in
    ended (g.row.N ≤ length c.process.new.out.bytes.items) c.process.result.status (c.process.ensures.complete r asked steady)
    (λ is. rose_full g.row.N (length c.args.out.now.bytes.items) (length c.process.new.out.bytes.items) c.args.out.now.misses
    c.process.new.out.misses (c.process.ensures.write_fault is))
