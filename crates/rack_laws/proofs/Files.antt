-- Files that hold what is asked of them are read.
use Rattle.std.proofs.Common.{◌≡◌, ℕ, ◌+◌, List, [], ◌∷◌, ◌++◌, length, Option, Result, Ok, Err, refl, ap, ap₂, subst, arith}
use Rattle.outside.specs.Images.{Tells}
use Rattle.cbdc_types.specs.declared.answer.Answer.{Answer}
use Rattle.cbdc_types.specs.declared.answer.Answer.TheVariants as answers
use Rattle.cbdc_types.specs.declared.tx.FullTx.{FullTx}
use Rattle.client_files.specs.declared.fault.BadFile.{BadFile}
use Rattle.clap.specs.Words.{Text}
use Rattle.requests.specs.declared.FileWord.{FileWord}
use Rattle.command_line.specs.Single.{names_of}
use Rattle.input_files.specs.Contents.{txs_of_file, IsNotRead, AreRead, FirstNotRead, all_txs}
use Rattle.rack_laws.specs.Files.{HoldsFile, HoldClients}

ok_once : {X : Type 0} (r : Result X BadFile) (x y : X) → r ≡ Ok x → r ≡ Ok y → x ≡ y
ok_once r x y one other = cc (one, other)

not_both : {X : Type 0} (r : Result X BadFile) (x : X) (e : BadFile) → r ≡ Ok x → r ≡ Err e → ⊥
not_both r x e one other = cc (one, other)

module _ (files : Text → Option (List ℕ)) (before now : Text → ℕ) where
  pub read_once : {X : Type 0} (read : List ℕ → Result X BadFile) (name : Text) (held x : X) → HoldsFile files before now read name held
      → Tells (files name) (λ c. read c ≡ Ok x) → x ≡ held
  read_once read name held x holds tells = ok_once (read holds.bytes) x held (tells holds.bytes holds.told) holds.reads

  pub not_read_none : {X : Type 0} (place : ℕ) (read : List ℕ → Result X BadFile) (name : Text) (held : X) (answer : Answer)
      → HoldsFile files before now read name held
      → IsNotRead place (files name) read (before name) (now name) answer → answer ≡ answers.Memory
  not_read_none place read name held (answers.BadInput file at kind) holds is =
      absurd (not_both (read holds.bytes) held (record { at = at; kind = kind }) holds.reads (is.1 holds.bytes holds.told))
  not_read_none place read name held (answers.ReadFault file) holds is = absurd (holds.steady is.1)
  not_read_none place read name held answers.Memory holds is = refl
  not_read_none place read name held answers.Ok holds is = absurd is
  not_read_none place read name held answers.BadWords holds is = absurd is
  not_read_none place read name held (answers.TooMuch total) holds is = absurd is
  not_read_none place read name held (answers.NotReady n) holds is = absurd is
  not_read_none place read name held (answers.Foreign n kept asked) holds is = absurd is
  not_read_none place read name held (answers.NotEmpty n) holds is = absurd is
  not_read_none place read name held (answers.Full n used need capacity) holds is = absurd is
  not_read_none place read name held (answers.Unsound at kind) holds is = absurd is
  not_read_none place read name held (answers.ClockEnd n stamp) holds is = absurd is
  not_read_none place read name held (answers.Damaged n at) holds is = absurd is
  not_read_none place read name held answers.WriteFault holds is = absurd is
  not_read_none place read name held (answers.DiskFault n) holds is = absurd is

  pub clients_once : (clients : List FileWord) (count : ℕ) (held read : List (List FullTx))
      → HoldClients files before now count (names_of clients) held → AreRead files count clients read → read ≡ held
  clients_once [] count [] [] holds are = refl
  clients_once [] count [] (txs ∷ read) holds are = absurd are
  clients_once [] count (txs ∷ held) read holds are = absurd holds
  clients_once (file ∷ clients) count [] read holds are = absurd holds
  clients_once (file ∷ clients) count (txs ∷ held) [] holds are = absurd are
  clients_once (file ∷ clients) count (txs ∷ held) (own ∷ read) holds are =
      let first : own ≡ txs = read_once (txs_of_file count) file.name.now txs own holds.0 are.0 in
      let rest : read ≡ held = clients_once clients (count + length txs) held read holds.1
      (subst (λ (ts : List FullTx). AreRead files (count + length ts) clients read) first are.1) in
      ap₂ (λ (ts : List FullTx) (more : List (List FullTx)). ts ∷ more) first rest

  -- the files before one of them, and that one
  record IsAmong (count : ℕ) (ahead : List FileWord) (file : FileWord) : Type 0 where
    front : List (List FullTx)
    txs : List FullTx
    hold : HoldClients files before now count (names_of ahead) front
    holds : HoldsFile files before now (txs_of_file (count + all_txs front)) file.name.now txs

  among : (ahead : List FileWord) (file : FileWord) (behind : List FileWord) (count : ℕ) (held : List (List FullTx))
      → HoldClients files before now count (names_of (ahead ++ file ∷ behind)) held → IsAmong count ahead file
  among [] file behind count [] holds = absurd holds
  among [] file behind count (txs ∷ held) holds =
      let here : count ≡ count + all_txs [] = omega arith in
      record {
        front = [];
        txs = txs;
        hold = tt;
        holds = subst (λ (n : ℕ). HoldsFile files before now (txs_of_file n) file.name.now txs) here holds.0;
      }
  among (first ∷ ahead) file behind count [] holds = absurd holds
  among (first ∷ ahead) file behind count (own ∷ held) holds =
      let rest : IsAmong (count + length own) ahead file = among ahead file behind (count + length own) held holds.1 in
      let there : (count + length own) + all_txs rest.front ≡ count + all_txs (own ∷ rest.front) = omega arith in
      record {
        front = own ∷ rest.front;
        txs = rest.txs;
        hold = (holds.0, rest.hold);
        holds = subst (λ (n : ℕ). HoldsFile files before now (txs_of_file n) file.name.now rest.txs) there rest.holds;
      }

  pub clients_none : (clients : List FileWord) (held : List (List FullTx)) (answer : Answer) → HoldClients files before now 0 (names_of clients) held
      → FirstNotRead files before now clients answer → answer ≡ answers.Memory
  clients_none clients held answer holds not =
      let there : IsAmong 0 not.ahead not.file = among not.ahead not.file not.behind 0 held
      (subst (λ (cs : List FileWord). HoldClients files before now 0 (names_of cs) held) not.parts holds) in
      let same : not.read ≡ there.front = clients_once not.ahead 0 there.front not.read there.hold not.are_read in
      let count : 0 + all_txs there.front ≡ all_txs not.read = omega (arith, ap all_txs same) in
      not_read_none not.file.place (txs_of_file (all_txs not.read)) not.file.name.now there.txs answer
      (subst (λ (n : ℕ). HoldsFile files before now (txs_of_file n) not.file.name.now there.txs) count there.holds) not.is_not
