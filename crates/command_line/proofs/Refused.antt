-- Words that are refused are not asked for anything.
use Rattle.std.proofs.Common.{◌≡◌, ◌∙◌, ◌<◌, ℕ, zero, suc, Bool, true, false, if◌then◌else◌, codes, List, [], ◌∷◌, length, map, Option, Some, None}
use Rattle.std.proofs.Common.{Result, Ok, inl, inr, refl, sym, ap, subst, true≢false, arith}
use Rattle.std.specs.List.{slice_index_or}
use Rattle.std.specs.Option.{option_map_or}
use Rattle.std.specs.Str.{bytes_eq}
use Rattle.std.proofs.lemmas.List.Elements.{All-head, All-tail}
use Rattle.hex.specs.Hex.{decode_of}
use Rattle.hex.specs.declared.error.FromHexError.{FromHexError}
use Rattle.hex.proofs.HexLemmas.{decode_of-ok}
use Rattle.cbdc_types.specs.Limits.{ShapeOf}
use Rattle.clap.specs.Words.{Text, Row, Kinds, all_of, fault_of, first_of, subcommand_of}
use Rattle.clap.specs.Kinds.{or_else}
use Rattle.command_line.specs.Asked.{HasBadValue, HasMistake, HasNoHashes, HasNoNumber, HasNoUpTo, HasNoSeed, HasNoShape, HasNoWorkload, HasNumber}
use Rattle.command_line.specs.Asked.{HasReplicas, HasSeed, HasUpTo, HasShape, HasWish, NameCommand, word_faults, help_words, topic_faults}
use Rattle.command_line.specs.Command.{hamilton}
use Rattle.command_line.specs.Values.{IsHashText, IsNumber, IsUpTo, IsWholeNumber}
use Rattle.requests.specs.declared.Request.TheVariants.{Init, Run, Recover, Status, Audit, Gen, Show}
use Rattle.command_line.specs.Refused.{AskedLaw, AreWholeHashes}
use Rattle.command_line.proofs.Pure.{IsPure, none, after, either, fault_pure}

-- ---- faults

program_pure : (words : List Text) → IsPure (fault_of hamilton words)
program_pure words = fault_pure hamilton words refl

topic_pure : (found : Option (Text × List Row)) → IsPure (topic_faults found)
topic_pure None = none
topic_pure (Some found) =
    let asked = help_words (first_of (codes "command") found.1) in
    either (bytes_eq found.0 (codes "help")) (fault_of hamilton asked) [] (program_pure asked) none

faults_pure : (words : List Text) → IsPure (word_faults words)
faults_pure words = after (fault_of hamilton words) (topic_faults (subcommand_of hamilton words)) (program_pure words)
    (topic_pure (subcommand_of hamilton words))

-- a command other than `help` is met without a fault
no_fault : (words : List Text) (command : Text) (rows : List Row) → NameCommand words command rows → bytes_eq command (codes "help") ≡ false
    → word_faults words ≡ []
no_fault words command rows m other =
    ap (λ (k : Kinds). or_else k (topic_faults (subcommand_of hamilton words))) m.sound
    ∙ ap (λ (found : Option (Text × List Row)). topic_faults found) m.met
    ∙ ap (λ (c : Bool). if c then fault_of hamilton (help_words (first_of (codes "command") rows)) else []) other

no_mistake : (words : List Text) (command : Text) (rows : List Row) → NameCommand words command rows → bytes_eq command (codes "help") ≡ false
    → HasMistake (word_faults words) → ⊥
no_mistake words command rows m other mistake = absurd (subst (λ (k : Kinds). HasMistake k) (no_fault words command rows m other) mistake).1

pub no_wish : (words : List Text) (command : Text) (rows : List Row) → NameCommand words command rows → bytes_eq command (codes "help") ≡ false
    → HasWish (word_faults words) → ⊥
no_wish words command rows m other wish = absurd (subst (λ (k : Kinds). HasWish k) (no_fault words command rows m other) wish).1

-- ---- the command and its matches

abbrev met_as : Text → List Row → Option (Text × List Row)
met_as c rows = Some (c, rows)

-- words meet one command
pub one_met : (words : List Text) (c d : Text) (rows others : List Row) → NameCommand words c rows → NameCommand words d others
    → met_as c rows ≡ met_as d others
one_met words c d rows others m n = sym m.met ∙ n.met

pub same_rows : (c d : Text) (rows others : List Row) → met_as c rows ≡ met_as d others → rows ≡ others
same_rows c d rows others e = ap (λ (o : Option (Text × List Row)). option_map_or (λ p. p.1) o []) e

pub other_command : (c d : Text) (rows others : List Row) → met_as c rows ≡ met_as d others → bytes_eq c c ≡ true → bytes_eq d c ≡ false → ⊥
other_command c d rows others e itself apart = true≢false
    (sym itself ∙ ap (λ (o : Option (Text × List Row)). option_map_or (λ p. bytes_eq p.0 c) o false) e ∙ apart)

no_bad_value : (words : List Text) (c : Text) (rows : List Row) → NameCommand words c rows → bytes_eq c c ≡ true → bytes_eq (codes "init") c ≡ false
    → bytes_eq (codes "status") c ≡ false
    → bytes_eq (codes "gen") c ≡ false → bytes_eq (codes "run") c ≡ false → HasBadValue words → ⊥
no_bad_value words c rows m itself init status gen run (inl b) =
    other_command c (codes "init") rows b.0 (one_met words c (codes "init") rows b.0 m b.1) itself init
no_bad_value words c rows m itself init status gen run (inr (inl b)) =
    other_command c (codes "status") rows b.0 (one_met words c (codes "status") rows b.0 m b.2) itself status
no_bad_value words c rows m itself init status gen run (inr (inr (inl b))) =
    other_command c (codes "gen") rows b.0 (one_met words c (codes "gen") rows b.0 m b.1) itself gen
no_bad_value words c rows m itself init status gen run (inr (inr (inr b))) =
    other_command c (codes "run") rows b.0 (one_met words c (codes "run") rows b.0 m b.1) itself run

-- ---- values

pub one_text : (s t : Text) → Some s ≡ Some t → s ≡ t
one_text s t e = ap (λ (o : Option Text). option_map_or (λ x. x) o []) e

pub one_list : (s t : List Text) → Some s ≡ Some t → s ≡ t
one_list s t e = ap (λ (o : Option (List Text)). option_map_or (λ x. x) o []) e

no_number : (rows : List Row) (name : Text) (most n : ℕ) → HasNumber rows name most n → HasNoNumber rows name most → ⊥
no_number rows name most n has none = none.2 n (subst (λ (t : Text). IsNumber most t n) (one_text has.0 none.0 (sym has.1 ∙ none.1)) has.2)

no_shape : (rows : List Row) (shape : ShapeOf) → HasShape rows shape → HasNoShape rows → ⊥
no_shape rows shape has (inl none) = no_number rows (codes "shards") 64 shape.shards has.shards none
no_shape rows shape has (inr (inl none)) = no_number rows (codes "coordinators") 16 shape.coordinators has.coordinators none
no_shape rows shape has (inr (inr (inl none))) = no_number rows (codes "lanes") 16 shape.lanes has.lanes none
no_shape rows shape has (inr (inr (inr none))) = no_number rows (codes "batch") 1024 shape.batch has.batch none

no_seed : (rows : List Row) (n : ℕ) → HasSeed rows n → HasNoSeed rows → ⊥
no_seed rows n has none = none.2 n (subst (λ (t : Text). IsWholeNumber t n) (one_text has.0 none.0 (sym has.1 ∙ none.1)) has.2)

no_up_to : (rows : List Row) (name : Text) (most n : ℕ) → HasUpTo rows name most n → HasNoUpTo rows name most → ⊥
no_up_to rows name most n has none = none.2 n (subst (λ (t : Text). IsUpTo most t n) (one_text has.0 none.0 (sym has.1 ∙ none.1)) has.2)

no_workload : (rows : List Row) (shape : ShapeOf) (seed count replicas : ℕ) → HasShape rows shape → HasSeed rows seed
    → HasNumber rows (codes "count") 10000 count → HasReplicas rows replicas
    → HasNoWorkload rows → ⊥
no_workload rows shape seed count replicas sized seeded counted copied (inl none) = no_shape rows shape sized none
no_workload rows shape seed count replicas sized seeded counted copied (inr (inl none)) = no_seed rows seed seeded none
no_workload rows shape seed count replicas sized seeded counted copied (inr (inr (inl none))) =
    no_number rows (codes "count") 10000 count counted none
no_workload rows shape seed count replicas sized seeded counted copied (inr (inr (inr none))) =
    no_up_to rows (codes "replicas") 3 replicas copied none

hash_text : (t : Text) (h : List ℕ) → decode_of t ≡ Ok h → length h ≡ 32 → IsHashText t
hash_text t h e size =
    let d = decode_of-ok t h e in
    let twice = d.2 in
    record { size = omega (arith, twice, size); digits = d.1 }

heads : (x y : Result (List ℕ) FromHexError) (xs ys : List (Result (List ℕ) FromHexError)) → x ∷ xs ≡ y ∷ ys → (x ≡ y) × (xs ≡ ys)
heads x y xs ys e = (cc, cc)

nothing : (x : Result (List ℕ) FromHexError) (xs : List (Result (List ℕ) FromHexError)) → x ∷ xs ≡ [] → ⊥
nothing x xs e = cc

each_hash : (given : List Text) (hashes : List (List ℕ)) → map decode_of given ≡ map (λ h. Ok h) hashes → AreWholeHashes hashes
    → (text : Text) (k : ℕ) → k < length given → slice_index_or given k text ≡ text → IsHashText text
each_hash [] hashes e whole text k lt is = absurd (omega (arith, lt))
each_hash (t ∷ ts) [] e whole text k lt is = absurd (nothing (decode_of t) (map decode_of ts) e)
each_hash (t ∷ ts) (h ∷ hs) e whole text zero lt is =
    let here = heads (decode_of t) (Ok h) (map decode_of ts) (map (λ h. Ok h) hs) e in
    subst (λ (x : Text). IsHashText x) is (hash_text t h here.0 (All-head (λ (h : List ℕ). length h ≡ 32) h hs whole))
each_hash (t ∷ ts) (h ∷ hs) e whole text (suc k) lt is =
    let here = heads (decode_of t) (Ok h) (map decode_of ts) (map (λ h. Ok h) hs) e in
    each_hash ts hs here.1 (All-tail (λ (h : List ℕ). length h ≡ 32) h hs whole) text k (omega (arith, lt)) is

no_hashes : (given : List Text) (hashes : List (List ℕ)) → map decode_of given ≡ map (λ h. Ok h) hashes → AreWholeHashes hashes → HasNoHashes given
    → ⊥
no_hashes given hashes e whole none = none.2 (each_hash given hashes e whole none.0 none.1.0 none.1.1 none.1.2)

-- ---- the law

pub asked_law : AskedLaw
asked_law words (Init shape mint) whole asked (inl mistake) = no_mistake words (codes "init") asked.0 asked.1.0 refl mistake
asked_law words (Init shape mint) whole asked (inr (inl b)) =
    let same = same_rows (codes "init") (codes "init") b.0 asked.0 (one_met words (codes "init") (codes "init") b.0 asked.0 b.1 asked.1.0) in
    no_shape asked.0 shape asked.1.1 (subst (λ (r : List Row). HasNoShape r) same b.2)
asked_law words (Init shape mint) whole asked (inr (inr (inl b))) =
    other_command (codes "init") (codes "status") asked.0 b.0 (one_met words (codes "init") (codes "status") asked.0 b.0 asked.1.0 b.2) refl refl
asked_law words (Init shape mint) whole asked (inr (inr (inr (inl b)))) =
    other_command (codes "init") (codes "gen") asked.0 b.0 (one_met words (codes "init") (codes "gen") asked.0 b.0 asked.1.0 b.1) refl refl
asked_law words (Init shape mint) whole asked (inr (inr (inr (inr b)))) =
    other_command (codes "init") (codes "run") asked.0 b.0 (one_met words (codes "init") (codes "run") asked.0 b.0 asked.1.0 b.1) refl refl
asked_law words (Run verdicts clients options) whole asked (inl mistake) = no_mistake words (codes "run") asked.0 asked.1.0 refl mistake
asked_law words (Run verdicts clients options) whole asked (inr (inl b)) =
    other_command (codes "run") (codes "init") asked.0 b.0 (one_met words (codes "run") (codes "init") asked.0 b.0 asked.1.0 b.1) refl refl
asked_law words (Run verdicts clients options) whole asked (inr (inr (inl b))) =
    other_command (codes "run") (codes "status") asked.0 b.0 (one_met words (codes "run") (codes "status") asked.0 b.0 asked.1.0 b.2) refl refl
asked_law words (Run verdicts clients options) whole asked (inr (inr (inr (inl b)))) =
    other_command (codes "run") (codes "gen") asked.0 b.0 (one_met words (codes "run") (codes "gen") asked.0 b.0 asked.1.0 b.1) refl refl
asked_law words (Run verdicts clients options) whole asked (inr (inr (inr (inr b)))) =
    let same = same_rows (codes "run") (codes "run") b.0 asked.0 (one_met words (codes "run") (codes "run") b.0 asked.0 b.1 asked.1.0) in
    no_up_to asked.0 (codes "repeats") 3 options.repeats asked.1.4 (subst (λ (r : List Row). HasNoUpTo r (codes "repeats") 3) same b.2)
asked_law words Recover whole asked (inl mistake) = no_mistake words (codes "recover") asked.0 asked.1 refl mistake
asked_law words Recover whole asked (inr bad) = no_bad_value words (codes "recover") asked.0 asked.1 refl refl refl refl refl bad
asked_law words (Status hashes) whole asked (inl mistake) = no_mistake words (codes "status") asked.0 asked.1.0 refl mistake
asked_law words (Status hashes) whole asked (inr (inl b)) =
    other_command (codes "status") (codes "init") asked.0 b.0 (one_met words (codes "status") (codes "init") asked.0 b.0 asked.1.0 b.1) refl refl
asked_law words (Status hashes) whole asked (inr (inr (inl b))) =
    let same = same_rows (codes "status") (codes "status") b.0 asked.0 (one_met words (codes "status") (codes "status") b.0 asked.0 b.2 asked.1.0) in
    let given : b.1 ≡ asked.1.1.0 = one_list b.1 asked.1.1.0 (sym b.3 ∙ ap (λ (r : List Row). all_of (codes "hash") r) same ∙ asked.1.1.1) in
    no_hashes asked.1.1.0 hashes.items asked.1.1.2 whole (subst (λ (g : List Text). HasNoHashes g) given b.4)
asked_law words (Status hashes) whole asked (inr (inr (inr (inl b)))) =
    other_command (codes "status") (codes "gen") asked.0 b.0 (one_met words (codes "status") (codes "gen") asked.0 b.0 asked.1.0 b.1) refl refl
asked_law words (Status hashes) whole asked (inr (inr (inr (inr b)))) =
    other_command (codes "status") (codes "run") asked.0 b.0 (one_met words (codes "status") (codes "run") asked.0 b.0 asked.1.0 b.1) refl refl
asked_law words (Audit mint clients) whole asked (inl mistake) = no_mistake words (codes "audit") asked.0 asked.1.0 refl mistake
asked_law words (Audit mint clients) whole asked (inr bad) = no_bad_value words (codes "audit") asked.0 asked.1.0 refl refl refl refl refl bad
asked_law words (Gen shape seed count options) whole asked (inl mistake) = no_mistake words (codes "gen") asked.0 asked.1.0 refl mistake
asked_law words (Gen shape seed count options) whole asked (inr (inl b)) =
    other_command (codes "gen") (codes "init") asked.0 b.0 (one_met words (codes "gen") (codes "init") asked.0 b.0 asked.1.0 b.1) refl refl
asked_law words (Gen shape seed count options) whole asked (inr (inr (inl b))) =
    other_command (codes "gen") (codes "status") asked.0 b.0 (one_met words (codes "gen") (codes "status") asked.0 b.0 asked.1.0 b.2) refl refl
asked_law words (Gen shape seed count options) whole asked (inr (inr (inr (inr b)))) =
    other_command (codes "gen") (codes "run") asked.0 b.0 (one_met words (codes "gen") (codes "run") asked.0 b.0 asked.1.0 b.1) refl refl
asked_law words (Gen shape seed count options) whole asked (inr (inr (inr (inl b)))) =
    let same = same_rows (codes "gen") (codes "gen") b.0 asked.0 (one_met words (codes "gen") (codes "gen") b.0 asked.0 b.1 asked.1.0) in
    no_workload asked.0 shape seed count options.replicas asked.1.1 asked.1.2 asked.1.3 asked.1.4 (subst (λ (r : List Row). HasNoWorkload r) same b.2)
asked_law words (Show text) whole asked (inl mistake) = (faults_pure words).apart mistake asked
asked_law words (Show text) whole asked (inr (inl b)) = no_wish words (codes "init") b.0 b.1 refl asked
asked_law words (Show text) whole asked (inr (inr (inl b))) = no_wish words (codes "status") b.0 b.2 refl asked
asked_law words (Show text) whole asked (inr (inr (inr (inl b)))) = no_wish words (codes "gen") b.0 b.1 refl asked
asked_law words (Show text) whole asked (inr (inr (inr (inr b)))) = no_wish words (codes "run") b.0 b.1 refl asked
