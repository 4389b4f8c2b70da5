-- What calls keep of their ports, others behind them keep.
use Rattle.std.proofs.Common.{ℕ, refl, arith, ◌∙◌}
use Rattle.cbdc_model.specs.Records.{Header}
use Rattle.cbdc_model.specs.Sights.{Sight}
use Rattle.lane_driver.specs.Keeping.{KeepsLog, KeepsShards}
use Rattle.lane_driver.specs.Showing.{KeepsLanePorts}
use Rattle.lane_driver.specs.declared.port.LogPort.{Ghosts as LogGhosts}
use Rattle.lane_driver.specs.declared.port.PortSet.{Ghosts as SetGhosts}
use Rattle.lane_driver.specs.declared.port.Ports.{Ports}
use Rattle.lane_driver.proofs.Fitting.{elsewhere_on, nodes_same, nodes_on, others_on}

module _ {L : Type 0} {at : L → ℕ} {header : L → Header} {count : L → ℕ} {sights : L → ℕ → Sight} {faults : L → ℕ → ℕ} {holds : L → Type 0} where
  pub log_same : (l : L) → KeepsLog at header count sights faults holds l l
  log_same l = record {
    at_same = refl;
    header_same = refl;
    count_same = refl;
    elsewhere = λ n ne. refl;
    nodes = nodes_same (sights l);
    later = λ n. omega arith;
    held = λ h. h;
  }

  pub log_on : {k l m : L} → KeepsLog at header count sights faults holds k l → KeepsLog at header count sights faults holds l m
      → KeepsLog at header count sights faults holds k m
  log_on {k} {l} {m} a b = record {
    at_same = b.at_same ∙ a.at_same;
    header_same = b.header_same ∙ a.header_same;
    count_same = b.count_same ∙ a.count_same;
    elsewhere = elsewhere_on (at k) (at l) (sights k) (sights l) (sights m) a.at_same a.elsewhere b.elsewhere;
    nodes = nodes_on (sights k) (sights l) (sights m) a.nodes b.nodes;
    later = λ n. omega (arith, a.later n, b.later n);
    held = λ h. b.held (a.held h);
  }

module _ {S : Type 0} {count : S → ℕ} {sights : S → ℕ → Sight} {faults : S → ℕ → ℕ} {holds : S → Type 0} {serves : S → ℕ → Type 0} where
  pub shards_same : (s : S) → KeepsShards count sights faults holds serves s s
  shards_same s = record {
    count_same = refl;
    nodes = nodes_same (sights s);
    later = λ n. omega arith;
    held = λ h. h;
    served = λ l mine. mine;
  }

  pub shards_on : {r s t : S} → KeepsShards count sights faults holds serves r s → KeepsShards count sights faults holds serves s t
      → KeepsShards count sights faults holds serves r t
  shards_on {r} {s} {t} a b = record {
    count_same = b.count_same ∙ a.count_same;
    nodes = nodes_on (sights r) (sights s) (sights t) a.nodes b.nodes;
    later = λ n. omega (arith, a.later n, b.later n);
    held = λ h. b.held (a.held h);
    served = λ l mine. b.served l (a.served l mine);
  }

module _ {S L G : Type 0} (log : LogGhosts L) (set : SetGhosts S G) (lane : ℕ) where
  pub ports_same : (ports : Ports S L) → KeepsLanePorts log set lane ports ports
  ports_same ports = record { to_log = log_same ports.log; to_shards = shards_same ports.shards; others = λ quiet l is ne. (refl, refl) }

  pub ports_on : (k l m : Ports S L) → KeepsLanePorts log set lane k l → KeepsLanePorts log set lane l m → KeepsLanePorts log set lane k m
  ports_on k l m a b = record {
    to_log = log_on a.to_log b.to_log;
    to_shards = shards_on a.to_shards b.to_shards;
    others = λ quiet. others_on (log.header k.log) (log.header l.log) lane (log.phase k.log) (log.phase l.log) (log.phase m.log) (log.open_txs k.log)
        (log.open_txs l.log) (log.open_txs m.log) a.to_log.header_same (a.others quiet) (b.others quiet);
  }
