-- What each command promises.
use Rattle.std.specs.Prelude.{string_bytes}
use Rattle.outside.specs.declared.disk.Disk.{Ghosts}
use Rattle.requests.specs.declared.Request.{Request}
use Rattle.requests.specs.declared.Request.TheVariants.{Init, Run, Recover, Status, Audit, Gen, Show}
use Rattle.line_text.specs.Lines.{Text}
use Rattle.command_answers.specs.Promises.{Needs, Promise}
use Rattle.audit_command.specs.Promises.{audit_promise, audit_needs}
use Rattle.gen_command.specs.Promises.{gen_promise, gen_needs}
use Rattle.init_command.specs.Promises.{init_promise, init_needs}
use Rattle.run_command.specs.Promises.{run_promise, run_needs, recover_promise, recover_needs}
use Rattle.status_command.specs.Promises.{status_promise, status_needs}

-- a text is shown, and nothing else is done
abbrev pub show_promise : {D : Type 0} → Text → Promise D
show_promise text = record {
  did = λ files before after printed. printed text;
  why = λ before after answer. ⊥;
  leaves = λ before after answer. Unit {0};
  ended = λ before after answer. ⊥;
  exact = λ before. Unit {0};
  unhindered = λ before after. Unit {0};
}

abbrev pub show_needs : Needs
show_needs = record {
  place = λ place. ⊥;
  names = λ place name. ⊥;
  rose = λ before now place. ⊥;
  hands_in = λ files txs. ⊥;
  of_no_rack = Unit {0};
  of_no_file = Unit {0};
  sized = Unit {0};
}

-- what is promised of what is asked
abbrev pub promise_of : {D : Type 0} → Ghosts D → Request → Promise D
promise_of device (Init shape mint) = init_promise device shape mint
promise_of device (Run verdicts clients options) = run_promise device verdicts clients.items
promise_of device Recover = recover_promise device
promise_of device (Status hashes) = status_promise device hashes.items
promise_of device (Audit mint clients) = audit_promise device mint clients.items
promise_of device (Gen shape seed count options) = gen_promise device shape seed count options
promise_of device (Show text) = show_promise (string_bytes text)

-- what is needed for what is asked
abbrev pub needs_of : Request → Needs
needs_of (Init shape mint) = init_needs mint
needs_of (Run verdicts clients options) = run_needs verdicts clients.items
needs_of Recover = recover_needs
needs_of (Status hashes) = status_needs
needs_of (Audit mint clients) = audit_needs mint clients.items
needs_of (Gen shape seed count options) = gen_needs count options.replicas
needs_of (Show text) = show_needs
