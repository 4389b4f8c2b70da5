use Rattle.std.proofs.Common.{◌≡◌, ℕ, List, true, false, sym, ◌∙◌, ap}
use Rattle.mem_devices.specs.Faults.{is_listed}
use Rattle.mem_devices.proofs.mem_sink.MemSinkSink.write.Goals as goal

pub returns-then-contains-clause-exact : goal.returns-then-contains-clause-exact
returns-then-contains-clause-exact c = (
  λ no.
      let value : c.contains.result ≡ is_listed c.args.self.now.fails.items c.args.self.now.calls =
      c.contains.ensures.value ∙ ap (λ (l : List ℕ). is_listed l c.args.self.now.calls) c.deref.ensures.value in
      let is : true ≡ false = sym c.if-contains.true ∙ value ∙ no in
      absurd (cc),
  c.fault.ensures.count,
)
