-- What is known of an audit's verdict, as one statement.
use Rattle.std.specs.Prelude.{◌≡◌, ℕ, List, Option}
use Rattle.outside.specs.declared.disk.Disk.{Ghosts}
use Rattle.cbdc_model.specs.Coins.{Output, FullTx}
use Rattle.rack_ledgers.specs.RefusalLaws.{AllTell}
use Rattle.audit.specs.declared.verdict.Verdict.{Verdict}
use Rattle.rack_ledgers.specs.Audited.{IsAudited, Accounts}

-- disks that tell their contents have one verdict by a mint and what was handed in
abbrev pub HasOneVerdict : {D : Type 0} → Ghosts D → (ℕ → Option D) → Type 0
HasOneVerdict device held = (mint : List Output) (handed : List FullTx) (v w : Verdict) (one : IsAudited device held mint handed v)
    → IsAudited device held mint handed w
    → AllTell device held one.shape → v ≡ w

-- a verdict that all is sound accounts for all money
abbrev pub VerdictsAccount : {D : Type 0} → Ghosts D → (ℕ → Option D) → Type 0
VerdictsAccount device held = (mint : List Output) (handed : List FullTx) (v : Verdict) → IsAudited device held mint handed v
    → Accounts device held mint handed v
