-- Why a file is not read, by what its bytes give.
use Rattle.std.proofs.Common.{◌≡◌, inl, inr, ℕ, ◌+◌, ◌<◌, ◌≤◌, Bool, List, [], ◌∷◌, ◌++◌, length, take, drop, get_or, Option, Result, Ok, Err, refl}
use Rattle.std.proofs.Common.{sym, ap, ◌∙◌, subst, arith}
use Rattle.outside.specs.Images.{Tells}
use Rattle.cbdc_types.specs.declared.answer.Answer.{Answer}
use Rattle.cbdc_types.specs.declared.answer.Answer.TheVariants as answers
use Rattle.cbdc_types.specs.declared.tx.FullTx.{FullTx}
use Rattle.client_files.specs.Files.{GivesFile, clients_in}
use Rattle.client_files.specs.Streams.{Stops, FileHolds}
use Rattle.client_files.specs.declared.fault.StreamFault.{StreamFault}
use Rattle.client_files.specs.declared.fault.StreamFault.TheVariants as stream_fault
use Rattle.client_files.specs.declared.fault.BadFile.{BadFile}
use Rattle.client_files.specs.declared.fault.FileFault.{FileFault}
use Rattle.client_files.specs.declared.fault.FileFault.TheVariants.{Bad, Memory}
use Rattle.sentinel.specs.Files.{ReadsVerdicts}
use Rattle.sentinel.specs.declared.file.VerdictFault.{VerdictFault}
use Rattle.sentinel.specs.declared.file.VerdictFault.TheVariants as verdict_fault
use Rattle.input_files.specs.Contents.{front, goes_on, IsNotRead, IsFileFaultOf, IsStreamFaultOf, IsVerdictFaultOf, IsNoVerdicts, IsUnfetched}
use Rattle.input_files.specs.Contents.{AreRead, FirstNotRead, txs_of_file, all_txs}
use Rattle.std.proofs.Common.{suc, add-one}
use Rattle.std.proofs.Math.Seq.{take-suc, drop-cons}
use Rattle.std.proofs.lemmas.List.{take-append-drop}
use Rattle.requests.specs.declared.FileWord.{FileWord}

pub not_read : {X : Type 0} (place : ℕ) (told : Option (List ℕ)) (read : Bool → List ℕ → Result X BadFile) (before now : ℕ) (more : Bool)
    (bytes : List ℕ) (fault : FileFault) (answer : Answer)
    → IsFileFaultOf place fault answer → Tells told (λ c. (bytes ≡ front c) × (more ≡ goes_on c)) → GivesFile {X = X} (Err fault) (read more bytes)
    → IsNotRead place told (λ c. read (goes_on c) (front c)) before now answer
not_read place told read before now more bytes (Bad bad) answer is had gives =
    subst (λ a. IsNotRead place told (λ c. read (goes_on c) (front c)) before now a) (sym is)
    (refl, λ c e. subst (λ b. read (goes_on c) b ≡ Err bad) (had c e).0 (subst (λ m. read m bytes ≡ Err bad) (had c e).1 gives))
not_read place told read before now more bytes Memory answer is had gives =
    subst (λ a. IsNotRead place told (λ c. read (goes_on c) (front c)) before now a) (sym is) tt

pub unfetched : {X : Type 0} (place : ℕ) (told : Option (List ℕ)) (read : List ℕ → Result X BadFile) (before now : ℕ) (answer : Answer)
    → IsUnfetched place before now answer → IsNotRead place told read before now answer
unfetched place told read before now (answers.ReadFault file) h = h
unfetched place told read before now answers.Memory h = h
unfetched place told read before now answers.Ok h = h
unfetched place told read before now answers.BadWords h = h
unfetched place told read before now (answers.BadInput file at kind) h = absurd h
unfetched place told read before now (answers.TooMuch total) h = h
unfetched place told read before now (answers.NotReady node) h = h
unfetched place told read before now (answers.Foreign node kept asked) h = h
unfetched place told read before now (answers.NotEmpty node) h = h
unfetched place told read before now (answers.Full node used need capacity) h = h
unfetched place told read before now (answers.Unsound place' kind) h = h
unfetched place told read before now (answers.ClockEnd node stamp) h = h
unfetched place told read before now (answers.Damaged node at) h = h
unfetched place told read before now answers.WriteFault h = h
unfetched place told read before now (answers.DiskFault node) h = h

-- what a client file holds is read of it
pub held : (told : Option (List ℕ)) (before : ℕ) (r : Result (List FullTx) BadFile) → FileHolds told before r
    → Tells told (λ c. txs_of_file before c ≡ r)
held told before r h c e = subst (λ b. clients_in before (goes_on c) b ≡ r) (h.whole c e).0
    (subst (λ m. clients_in before m h.bytes ≡ r) (h.whole c e).1 h.is)

pub stream_not_read : (place : ℕ) (told : Option (List ℕ)) (before old now : ℕ) (fault : StreamFault) (answer : Answer)
    → IsStreamFaultOf place fault answer → Stops (λ bad. FileHolds told before (Err bad)) old now fault
    → IsNotRead place told (txs_of_file before) old now answer
stream_not_read place told before old now (stream_fault.Bad bad) answer is stops =
    subst (λ a. IsNotRead place told (txs_of_file before) old now a) (sym is) (refl, held told before (Err bad) stops)
stream_not_read place told before old now stream_fault.ReadFault answer is stops =
    subst (λ a. IsNotRead place told (txs_of_file before) old now a) (sym is) (refl, stops)
stream_not_read place told before old now stream_fault.Memory answer is stops =
    subst (λ a. IsNotRead place told (txs_of_file before) old now a) (sym is) tt

pub no_verdicts : (place : ℕ) (told : Option (List ℕ)) (before now : ℕ) (more : Bool) (bytes : List ℕ) (fault : VerdictFault) (answer : Answer)
    → IsVerdictFaultOf place fault answer → Tells told (λ c. (bytes ≡ front c) × (more ≡ goes_on c)) → ReadsVerdicts more bytes (Err fault)
    → IsNoVerdicts place told before now answer
no_verdicts place told before now more bytes (verdict_fault.Bad bad) answer is had reads =
    subst (λ a. IsNoVerdicts place told before now a) (sym is) (
      refl,
      λ c e. inl (subst (λ b. ReadsVerdicts (goes_on c) b (Err (verdict_fault.Bad bad))) (had c e).0
          (subst (λ m. ReadsVerdicts m bytes (Err (verdict_fault.Bad bad))) (had c e).1 reads)),
    )
no_verdicts place told before now more bytes verdict_fault.Large answer is had reads =
    subst (λ a. IsNoVerdicts place told before now a) (sym is) (
      refl,
      λ c e. inr (
        subst (λ b. ReadsVerdicts (goes_on c) b (Err verdict_fault.Large)) (had c e).0
            (subst (λ m. ReadsVerdicts m bytes (Err verdict_fault.Large)) (had c e).1 reads),
        refl,
        refl,
      ),
    )
no_verdicts place told before now more bytes verdict_fault.Memory answer is had reads =
    subst (λ a. IsNoVerdicts place told before now a) (sym is) tt

-- ---- client files, one behind another

pub files_read : (told : List ℕ → Option (List ℕ)) (before : ℕ) (files : List FileWord) (read : List (List FullTx)) (file : FileWord)
    (txs : List FullTx)
    → AreRead told before files read → Tells (told file.name.now) (λ c. txs_of_file (before + all_txs read) c ≡ Ok txs)
    → AreRead told before (files ++ file ∷ []) (read ++ txs ∷ [])
files_read told before [] [] file txs are is = (subst (λ n. Tells (told file.name.now) (λ c. txs_of_file n c ≡ Ok txs)) (omega arith) is, tt)
files_read told before [] (r ∷ read) file txs are is = absurd are
files_read told before (f ∷ files) [] file txs are is = absurd are
files_read told before (f ∷ files) (r ∷ read) file txs (here, rest) is = (
  here,
  files_read told (before + length r) files read file txs rest
      (subst (λ n. Tells (told file.name.now) (λ c. txs_of_file n c ≡ Ok txs)) (omega arith) is),
)

pub all_more : (read : List (List FullTx)) (txs : List FullTx) → all_txs (read ++ txs ∷ []) ≡ all_txs read + length txs
all_more [] txs = omega arith
all_more (r ∷ read) txs = let e = all_more read txs in omega (arith, e)

earlier : {X : Type 0} (place : ℕ) (told : Option (List ℕ)) (read : List ℕ → Result X BadFile) (before mid now : ℕ) (answer : Answer) → before ≤ mid
    → IsNotRead place told read mid now answer → IsNotRead place told read before now answer
earlier place told read before mid now answers.Ok le h = h
earlier place told read before mid now answers.BadWords le h = h
earlier place told read before mid now (answers.BadInput file at kind) le h = h
earlier place told read before mid now (answers.TooMuch total) le h = h
earlier place told read before mid now (answers.NotReady node) le h = h
earlier place told read before mid now (answers.Foreign node kept asked) le h = h
earlier place told read before mid now (answers.NotEmpty node) le h = h
earlier place told read before mid now (answers.Full node used need capacity) le h = h
earlier place told read before mid now (answers.Unsound place' kind) le h = h
earlier place told read before mid now (answers.ClockEnd node stamp) le h = h
earlier place told read before mid now (answers.Damaged node at) le h = h
earlier place told read before mid now (answers.ReadFault file) le (is, rose) = (is, omega (arith, le, rose))
earlier place told read before mid now answers.WriteFault le h = h
earlier place told read before mid now (answers.DiskFault node) le h = h
earlier place told read before mid now answers.Memory le h = h

pub parts_at : {A : Type 0} (xs : List A) (i : ℕ) (d : A) → i < length xs → xs ≡ take i xs ++ get_or xs i d ∷ drop (suc i) xs
parts_at xs i d inside = sym (take-append-drop i xs) ∙ ap (λ l. take i xs ++ l) (drop-cons xs i d inside)

pub first_not_read : (told old : List ℕ → Option (List ℕ)) (before mid now : List ℕ → ℕ) (files : List FileWord) (i : ℕ) (d : FileWord)
    (read : List (List FullTx)) (sum : ℕ) (answer : Answer)
    → i < length files → AreRead told 0 (take i files) read → ((name : List ℕ) → before name ≤ mid name) → ((name : List ℕ) → old name ≡ told name)
    → sum ≡ all_txs read
    → IsNotRead (get_or files i d).place (old (get_or files i d).name.now) (txs_of_file sum) (mid (get_or files i d).name.now)
    (now (get_or files i d).name.now) answer
    → FirstNotRead told before now files answer
first_not_read told old before mid now files i d read sum answer inside are later same is not =
    let file = get_or files i d in
    let a = earlier file.place (old file.name.now) (txs_of_file sum) (before file.name.now) (mid file.name.now) (now file.name.now) answer
    (later file.name.now) not in
    let b = subst (λ o. IsNotRead file.place o (txs_of_file sum) (before file.name.now) (now file.name.now) answer) (same file.name.now) a in
    record {
      ahead = take i files;
      file = file;
      behind = drop (suc i) files;
      read = read;
      parts = parts_at files i d inside;
      are_read = are;
      is_not = subst (λ n. IsNotRead file.place (told file.name.now) (txs_of_file n) (before file.name.now) (now file.name.now) answer) is b;
    }

pub files_go_on : (told old : List ℕ → Option (List ℕ)) (files : List FileWord) (i : ℕ) (d : FileWord) (read : List (List FullTx)) (sum : ℕ)
    (txs : List FullTx) → i < length files
    → AreRead told 0 (take i files) read → ((name : List ℕ) → old name ≡ told name) → sum ≡ all_txs read
    → Tells (old (get_or files i d).name.now) (λ c. txs_of_file sum c ≡ Ok txs) → AreRead told 0 (take (i + 1) files) (read ++ txs ∷ [])
files_go_on told old files i d read sum txs inside are same is tells =
    let file = get_or files i d in
    let front : take (i + 1) files ≡ take i files ++ file ∷ [] = ap (λ n. take n files) (add-one i) ∙ take-suc files i d inside in
    let a = subst (λ o. Tells o (λ c. txs_of_file sum c ≡ Ok txs)) (same file.name.now) tells in
    let b = subst (λ n. Tells (told file.name.now) (λ c. txs_of_file n c ≡ Ok txs)) (is ∙ omega arith) a in
    subst (λ l. AreRead told 0 l (read ++ txs ∷ [])) (sym front) (files_read told 0 (take i files) read file txs are b)
