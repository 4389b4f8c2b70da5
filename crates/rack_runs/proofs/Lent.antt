-- What is said of a whole answer and of a fault; a ledger's nodes.
use Rattle.std.proofs.Common.{List, Result, Ok, Err}
use Rattle.std.specs.Prelude.{OnOk, IfOk, IfErr}
use Rattle.cbdc_model.specs.Records.{Header}
use Rattle.node_journal.specs.Nodes.{NodeOf}
use Rattle.file_runs.specs.Ledgers.{LedgerOf}

pub on_ok_by : {B F : Type 0} {X Y : Type 0} (o : Result B F) → (X → Y) → OnOk o X → OnOk o Y
on_ok_by (Ok b) f so = f so
on_ok_by (Err e) f so = tt

pub if_ok_by : {A E : Type 0} (P Q : A → Type 0) (r : Result A E) → IfOk r P → ((a : A) → P a → Q a) → IfOk r Q
if_ok_by P Q (Ok a) so f = f a so
if_ok_by P Q (Err e) so f = tt

pub if_err_by : {B F : Type 0} (P Q : F → Type 0) (o : Result B F) → ((e : F) → P e → Q e) → IfErr o P → IfErr o Q
if_err_by P Q (Ok b) f so = tt
if_err_by P Q (Err e) f so = f e so

-- a ledger of these nodes is what it is
abbrev pub ledger_of : {D : Type 0} → Header → List (NodeOf D) → List (NodeOf D) → LedgerOf D
ledger_of h logs shards = record { header = h; logs = logs; shards = shards }
