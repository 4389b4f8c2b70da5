use Rattle.std.proofs.Common.{◌≡◌, ◌≤◌, ◌∙◌, ◌++◌, ◌∷◌, [], List, sym, ap, subst, length, arith}
use Rattle.std.specs.Prelude.{All}
use Rattle.cbdc_model.specs.Coins.{FullTx, Output}
use Rattle.input_files.specs.Limits.{IsShort}
use Rattle.workload.specs.Generator.{mint_of}
use Rattle.workload.specs.declared.Clients.{Clients}
use Rattle.gen_command.specs.Generated.{files_of}
use Rattle.gen_command.proofs.Workloads.{few, both}
use Rattle.gen_command.proofs.generating.files_of.Goals as goal

pub returns-clause-mint : goal.returns-clause-mint
returns-clause-mint c =
    let same : c.from.result ≡ c.args.count = omega (arith, c.from.ensures) in
    ap (λ (w : Clients). w.mint) c.in_ok-mint.ensures ∙ ap (mint_of c.args.seed) same

pub returns-clause-clients : goal.returns-clause-clients
returns-clause-clients c =
    let count : c.from.result ≡ c.args.count = omega (arith, c.from.ensures) in
    let splits = c.in_ok-mint.field-0.splits in
    let joins = c.in_ok-mint.field-0.joins in
    let one : c.push.new.self.items ≡ splits ∷ [] =
    c.in_ok-push.ensures.items ∙ ap (λ (l : List (List FullTx)). l ++ splits ∷ []) c.in_ok-clients.ensures.items in
    let two : c.push-2.new.self.items ≡ splits ∷ joins ∷ [] = c.in_ok-push-2.ensures.items ∙ ap (λ (l : List (List FullTx)). l ++ joins ∷ []) one in
    two ∙ ap (λ (w : Clients). w.splits ∷ w.joins ∷ []) c.in_ok-mint.ensures ∙ ap (files_of c.args.seed) count

pub returns-clause-few : goal.returns-clause-few
returns-clause-few c =
    let small : c.from.result ≤ 10000 = omega (arith, c.requires, c.from.ensures) in
    subst (λ (m : List Output). length m ≤ 1000000) (sym (ap (λ (w : Clients). w.mint) c.in_ok-mint.ensures)) (few c.args.seed c.from.result small)

pub returns-clause-short : goal.returns-clause-short
returns-clause-short c =
    let splits = c.in_ok-mint.field-0.splits in
    let joins = c.in_ok-mint.field-0.joins in
    let one : c.push.new.self.items ≡ splits ∷ [] =
    c.in_ok-push.ensures.items ∙ ap (λ (l : List (List FullTx)). l ++ splits ∷ []) c.in_ok-clients.ensures.items in
    let two : c.push-2.new.self.items ≡ splits ∷ joins ∷ [] = c.in_ok-push-2.ensures.items ∙ ap (λ (l : List (List FullTx)). l ++ joins ∷ []) one in
    let same : c.push-2.new.self.items ≡ _ = two ∙ ap (λ (w : Clients). w.splits ∷ w.joins ∷ []) c.in_ok-mint.ensures in
    subst (λ (l : List (List FullTx)). All (λ txs. All IsShort txs) l) (sym same) (both c.args.seed c.from.result)
