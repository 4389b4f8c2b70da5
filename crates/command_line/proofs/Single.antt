-- Words ask for one thing.
use Rattle.std.proofs.Common.{◌≡◌, ◌∙◌, ◌⊎◌, ◌+◌, ◌<◌, ◌^◌, ℕ, Bool, true, false, codes, List, [], ◌∷◌, map, Option, Some, None, Result, Ok, inl, inr}
use Rattle.std.proofs.Common.{refl, sym, ap, subst, arith, true≢false}
use Rattle.std.specs.Prelude.{is_some, slice_get}
use Rattle.std.specs.Option.{option_map_or}
use Rattle.std.specs.Str.{bytes_eq}
use Rattle.std.proofs.lemmas.Fmt.{decimal_injective}
use Rattle.hex.specs.Hex.{decode_of}
use Rattle.hex.specs.declared.error.FromHexError.{FromHexError}
use Rattle.cbdc_types.specs.Limits.{ShapeOf}
use Rattle.clap.specs.Words.{Text, Row, first_of}
use Rattle.command_line.specs.Asked.{HasNumber, HasSeed, HasShape, HasUpTo, HasWatch, flag_text, AreAuditWords, AreGenWords, AreInitWords}
use Rattle.command_line.specs.Asked.{AreRunWords, AreStatusWords, NameCommand}
use Rattle.command_line.specs.Places.{option_at, option_place, positional_places}
use Rattle.command_line.specs.Words.{IsFirstWord, IsGivenBy, StandsThere}
use Rattle.requests.specs.declared.FileWord.{FileWord}
use Rattle.requests.specs.declared.Request.TheVariants.{Init, Run, Recover, Status, Audit, Gen, Show}
use Rattle.command_line.specs.Single.{OneRequestLaw}
use Rattle.command_line.proofs.Refused.{one_list, one_met, one_text, no_wish, other_command, same_rows}

-- the rows that a command has are one list
rows_of : (words : List Text) (c : Text) (rows others : List Row) → NameCommand words c rows → NameCommand words c others → rows ≡ others
rows_of words c rows others m n = same_rows c c rows others (one_met words c c rows others m n)

-- and words have one command
apart : (words : List Text) (c d : Text) (rows others : List Row) → NameCommand words c rows → NameCommand words d others → bytes_eq c c ≡ true
    → bytes_eq d c ≡ false → ⊥
apart words c d rows others m n itself other = other_command c d rows others (one_met words c d rows others m n) itself other

one_flag : (b c : Bool) → flag_text b ≡ flag_text c → b ≡ c
one_flag true true e = refl
one_flag true false e = absurd (true≢false (sym (ap (λ t. bytes_eq t (codes "false")) e)))
one_flag false true e = absurd (true≢false (ap (λ t. bytes_eq t (codes "false")) e))
one_flag false false e = refl

module _ (rows : List Row) where
  first_once : (option s t : Text) → first_of option rows ≡ Some s → first_of option rows ≡ Some t → s ≡ t
  first_once option s t one other = one_text s t (sym one ∙ other)

  one_number : (option : Text) (most n m : ℕ) → most < 2 ^ 64 → HasNumber rows option most n → HasNumber rows option most m → n ≡ m
  one_number option most n m small one other =
      let text : one.0 ≡ other.0 = first_once option one.0 other.0 one.1 other.1 in
      let a = one.2 in
      let b = other.2 in
      decimal_injective n m (omega (arith, a.bound, small)) (omega (arith, b.bound, small)) (sym a.spelled ∙ text ∙ b.spelled)

  one_seed : (n m : ℕ) → HasSeed rows n → HasSeed rows m → n ≡ m
  one_seed n m one other =
      let text : one.0 ≡ other.0 = first_once (codes "seed") one.0 other.0 one.1 other.1 in
      let a = one.2 in
      let b = other.2 in
      decimal_injective n m a.bound b.bound (sym a.spelled ∙ text ∙ b.spelled)

  one_up_to : (option : Text) (most n m : ℕ) → most < 2 ^ 64 → HasUpTo rows option most n → HasUpTo rows option most m → n ≡ m
  one_up_to option most n m small one other =
      let text : one.0 ≡ other.0 = first_once option one.0 other.0 one.1 other.1 in
      let a = one.2 in
      let b = other.2 in
      decimal_injective n m (omega (arith, a.bound, small)) (omega (arith, b.bound, small)) (sym a.spelled ∙ text ∙ b.spelled)

  one_watch : (b c : Bool) → HasWatch rows b → HasWatch rows c → b ≡ c
  one_watch b c one other = one_flag b c (one_text (flag_text b) (flag_text c) (sym one ∙ other))

  one_shape : (shape kind : ShapeOf) → HasShape rows shape → HasShape rows kind → shape ≡ kind
  one_shape shape kind one other =
      let shards : shape.shards ≡ kind.shards = one_number (codes "shards") 64 shape.shards kind.shards (omega arith) one.shards other.shards in
      let coordinators : shape.coordinators ≡ kind.coordinators =
      one_number (codes "coordinators") 16 shape.coordinators kind.coordinators (omega arith) one.coordinators other.coordinators in
      let lanes : shape.lanes ≡ kind.lanes = one_number (codes "lanes") 16 shape.lanes kind.lanes (omega arith) one.lanes other.lanes in
      let batch : shape.batch ≡ kind.batch = one_number (codes "batch") 1024 shape.batch kind.batch (omega arith) one.batch other.batch in
      λ i. record { shards = shards i; coordinators = coordinators i; lanes = lanes i; batch = batch i }

abbrev decoded : List (List ℕ) → List (Result (List ℕ) FromHexError)
decoded hashes = map (λ h. Ok h) hashes

one_hashes : (hashes sought : List (List ℕ)) → decoded hashes ≡ decoded sought → hashes ≡ sought
one_hashes [] [] e = refl
one_hashes [] (h ∷ sought) e = absurd (cc)
one_hashes (h ∷ hashes) [] e = absurd (cc)
one_hashes (h ∷ hashes) (k ∷ sought) e =
    let first : h ≡ k = cc in
    let rest : hashes ≡ sought = one_hashes hashes sought cc in
    λ i. first i ∷ rest i

-- ---- places

one_place : (o : Option ℕ) (p q : ℕ) → o ≡ Some p → o ≡ Some q → p ≡ q
one_place o p q one other = ap (λ (x : Option ℕ). option_map_or (λ n. n) x 0) (sym one ∙ other)

joined_or_not : (o : Option (Text × Option Text)) (s t : Text) (v : Text) → o ≡ Some (s, Some v) → o ≡ Some (t, None) → ⊥
joined_or_not o s t v one other = true≢false (ap (λ (x : Option (Text × Option Text)). option_map_or (λ p. is_some p.1) x false) (sym one ∙ other))

given_once : (name : Text) (words : List Text) (f g : FileWord) → IsGivenBy name words f → IsGivenBy name words g → f.place ≡ g.place
given_once name words f g (at, is, how) (other, also, so) = go how so
  where
    same : at ≡ other
    same = one_place (option_place name words) at other is also

    Given : ℕ → FileWord → Type 0
    Given p file = ((option_at words p ≡ Some (name, Some file.name.now)) × (file.place ≡ p))
        ⊎ ((option_at words p ≡ Some (name, None)) × (file.place ≡ p + 1) × StandsThere words file)

    go : Given at f → Given other g → f.place ≡ g.place
    go (inl a) (inl b) = a.1 ∙ same ∙ sym b.1
    go (inl a) (inr b) = absurd (joined_or_not (option_at words at) name name f.name.now a.0 (ap (option_at words) same ∙ b.0))
    go (inr a) (inl b) = absurd (joined_or_not (option_at words at) name name g.name.now (ap (option_at words) same ∙ b.0) a.0)
    go (inr a) (inr b) = a.1 ∙ ap (λ p. p + 1) same ∙ sym b.1

first_once_placed : (words : List Text) (f g : FileWord) → IsFirstWord words f → IsFirstWord words g → f.place ≡ g.place
first_once_placed words f g one other = one_place (slice_get (positional_places words) 0) f.place g.place one.0 other.0

-- ---- the law

pub one_request_law : OneRequestLaw
one_request_law words (Init shape mint) (Init kind file) asked also =
    let same : asked.0 ≡ also.0 = rows_of words (codes "init") asked.0 also.0 asked.1.0 also.1.0 in
    let own : AreInitWords words also.0 shape mint = subst (λ (r : List Row). AreInitWords words r shape mint) same asked.1 in (
      one_shape also.0 shape kind own.1 also.1.1,
      first_once also.0 (codes "mint") mint.name.now file.name.now own.2 also.1.2,
      first_once_placed words mint file own.3 also.1.3,
    )
one_request_law words (Init shape mint) (Run told files others) asked also =
    absurd (apart words (codes "init") (codes "run") asked.0 also.0 asked.1.0 also.1.0 refl refl)
one_request_law words (Init shape mint) Recover asked also =
    absurd (apart words (codes "init") (codes "recover") asked.0 also.0 asked.1.0 also.1 refl refl)
one_request_law words (Init shape mint) (Status sought) asked also =
    absurd (apart words (codes "init") (codes "status") asked.0 also.0 asked.1.0 also.1.0 refl refl)
one_request_law words (Init shape mint) (Audit file files) asked also =
    absurd (apart words (codes "init") (codes "audit") asked.0 also.0 asked.1.0 also.1.0 refl refl)
one_request_law words (Init shape mint) (Gen kind number size others) asked also =
    absurd (apart words (codes "init") (codes "gen") asked.0 also.0 asked.1.0 also.1.0 refl refl)
one_request_law words (Init shape mint) (Show other) asked also = absurd (no_wish words (codes "init") asked.0 asked.1.0 refl also)
one_request_law words (Run verdicts clients options) (Init kind file) asked also =
    absurd (apart words (codes "run") (codes "init") asked.0 also.0 asked.1.0 also.1.0 refl refl)
one_request_law words (Run verdicts clients options) (Run told files others) asked also =
    let same : asked.0 ≡ also.0 = rows_of words (codes "run") asked.0 also.0 asked.1.0 also.1.0 in
    let own : AreRunWords words also.0 verdicts clients.items options =
    subst (λ (r : List Row). AreRunWords words r verdicts clients.items options) same asked.1 in
    let named : own.3.0 ≡ also.1.3.0 = one_list own.3.0 also.1.3.0 (sym own.3.1 ∙ also.1.3.1) in (
      first_once also.0 (codes "verdicts") verdicts.name.now told.name.now own.1 also.1.1,
      own.3.2.named ∙ named ∙ sym also.1.3.2.named,
      given_once (codes "verdicts") words verdicts told own.2 also.1.2,
      own.3.2.placed ∙ sym also.1.3.2.placed,
      let repeats : options.repeats ≡ others.repeats =
          one_up_to also.0 (codes "repeats") 3 options.repeats others.repeats (omega arith) own.4 also.1.4 in
          λ i. record { repeats = repeats i },
    )
one_request_law words (Run verdicts clients options) Recover asked also =
    absurd (apart words (codes "run") (codes "recover") asked.0 also.0 asked.1.0 also.1 refl refl)
one_request_law words (Run verdicts clients options) (Status sought) asked also =
    absurd (apart words (codes "run") (codes "status") asked.0 also.0 asked.1.0 also.1.0 refl refl)
one_request_law words (Run verdicts clients options) (Audit file files) asked also =
    absurd (apart words (codes "run") (codes "audit") asked.0 also.0 asked.1.0 also.1.0 refl refl)
one_request_law words (Run verdicts clients options) (Gen kind number size others) asked also =
    absurd (apart words (codes "run") (codes "gen") asked.0 also.0 asked.1.0 also.1.0 refl refl)
one_request_law words (Run verdicts clients options) (Show other) asked also = absurd (no_wish words (codes "run") asked.0 asked.1.0 refl also)
one_request_law words Recover (Init kind file) asked also =
    absurd (apart words (codes "recover") (codes "init") asked.0 also.0 asked.1 also.1.0 refl refl)
one_request_law words Recover (Run told files others) asked also =
    absurd (apart words (codes "recover") (codes "run") asked.0 also.0 asked.1 also.1.0 refl refl)
one_request_law words Recover Recover asked also = tt
one_request_law words Recover (Status sought) asked also =
    absurd (apart words (codes "recover") (codes "status") asked.0 also.0 asked.1 also.1.0 refl refl)
one_request_law words Recover (Audit file files) asked also =
    absurd (apart words (codes "recover") (codes "audit") asked.0 also.0 asked.1 also.1.0 refl refl)
one_request_law words Recover (Gen kind number size others) asked also =
    absurd (apart words (codes "recover") (codes "gen") asked.0 also.0 asked.1 also.1.0 refl refl)
one_request_law words Recover (Show other) asked also = absurd (no_wish words (codes "recover") asked.0 asked.1 refl also)
one_request_law words (Status hashes) (Init kind file) asked also =
    absurd (apart words (codes "status") (codes "init") asked.0 also.0 asked.1.0 also.1.0 refl refl)
one_request_law words (Status hashes) (Run told files others) asked also =
    absurd (apart words (codes "status") (codes "run") asked.0 also.0 asked.1.0 also.1.0 refl refl)
one_request_law words (Status hashes) Recover asked also =
    absurd (apart words (codes "status") (codes "recover") asked.0 also.0 asked.1.0 also.1 refl refl)
one_request_law words (Status hashes) (Status sought) asked also =
    let same : asked.0 ≡ also.0 = rows_of words (codes "status") asked.0 also.0 asked.1.0 also.1.0 in
    let own : AreStatusWords words also.0 hashes.items = subst (λ (r : List Row). AreStatusWords words r hashes.items) same asked.1 in
    let given : own.1.0 ≡ also.1.1.0 = one_list own.1.0 also.1.1.0 (sym own.1.1 ∙ also.1.1.1) in
    one_hashes hashes.items sought.items (sym own.1.2 ∙ ap (map decode_of) given ∙ also.1.1.2)
one_request_law words (Status hashes) (Audit file files) asked also =
    absurd (apart words (codes "status") (codes "audit") asked.0 also.0 asked.1.0 also.1.0 refl refl)
one_request_law words (Status hashes) (Gen kind number size others) asked also =
    absurd (apart words (codes "status") (codes "gen") asked.0 also.0 asked.1.0 also.1.0 refl refl)
one_request_law words (Status hashes) (Show other) asked also = absurd (no_wish words (codes "status") asked.0 asked.1.0 refl also)
one_request_law words (Audit mint clients) (Init kind file) asked also =
    absurd (apart words (codes "audit") (codes "init") asked.0 also.0 asked.1.0 also.1.0 refl refl)
one_request_law words (Audit mint clients) (Run told files others) asked also =
    absurd (apart words (codes "audit") (codes "run") asked.0 also.0 asked.1.0 also.1.0 refl refl)
one_request_law words (Audit mint clients) Recover asked also =
    absurd (apart words (codes "audit") (codes "recover") asked.0 also.0 asked.1.0 also.1 refl refl)
one_request_law words (Audit mint clients) (Status sought) asked also =
    absurd (apart words (codes "audit") (codes "status") asked.0 also.0 asked.1.0 also.1.0 refl refl)
one_request_law words (Audit mint clients) (Audit file files) asked also =
    let same : asked.0 ≡ also.0 = rows_of words (codes "audit") asked.0 also.0 asked.1.0 also.1.0 in
    let own : AreAuditWords words also.0 mint clients.items = subst (λ (r : List Row). AreAuditWords words r mint clients.items) same asked.1 in (
      first_once also.0 (codes "mint") mint.name.now file.name.now own.1 also.1.1,
      own.3.named ∙ sym also.1.3.named,
      first_once_placed words mint file own.2 also.1.2,
      own.3.placed ∙ sym also.1.3.placed,
    )
one_request_law words (Audit mint clients) (Gen kind number size others) asked also =
    absurd (apart words (codes "audit") (codes "gen") asked.0 also.0 asked.1.0 also.1.0 refl refl)
one_request_law words (Audit mint clients) (Show other) asked also = absurd (no_wish words (codes "audit") asked.0 asked.1.0 refl also)
one_request_law words (Gen shape seed count options) (Init kind file) asked also =
    absurd (apart words (codes "gen") (codes "init") asked.0 also.0 asked.1.0 also.1.0 refl refl)
one_request_law words (Gen shape seed count options) (Run told files others) asked also =
    absurd (apart words (codes "gen") (codes "run") asked.0 also.0 asked.1.0 also.1.0 refl refl)
one_request_law words (Gen shape seed count options) Recover asked also =
    absurd (apart words (codes "gen") (codes "recover") asked.0 also.0 asked.1.0 also.1 refl refl)
one_request_law words (Gen shape seed count options) (Status sought) asked also =
    absurd (apart words (codes "gen") (codes "status") asked.0 also.0 asked.1.0 also.1.0 refl refl)
one_request_law words (Gen shape seed count options) (Audit file files) asked also =
    absurd (apart words (codes "gen") (codes "audit") asked.0 also.0 asked.1.0 also.1.0 refl refl)
one_request_law words (Gen shape seed count options) (Gen kind number size others) asked also =
    let same : asked.0 ≡ also.0 = rows_of words (codes "gen") asked.0 also.0 asked.1.0 also.1.0 in
    let own : AreGenWords words also.0 shape seed count options = subst (λ (r : List Row). AreGenWords words r shape seed count options) same asked.1
    in
    let replicas : options.replicas ≡ others.replicas =
    one_up_to also.0 (codes "replicas") 3 options.replicas others.replicas (omega arith) own.4 also.1.4 in
    let watch : options.watch ≡ others.watch = one_watch also.0 options.watch others.watch own.5 also.1.5 in (
      one_shape also.0 shape kind own.1 also.1.1,
      one_seed also.0 seed number own.2 also.1.2,
      one_number also.0 (codes "count") 10000 count size (omega arith) own.3 also.1.3,
      λ i. record { replicas = replicas i; watch = watch i },
    )
one_request_law words (Gen shape seed count options) (Show other) asked also = absurd (no_wish words (codes "gen") asked.0 asked.1.0 refl also)
one_request_law words (Show text) (Init kind file) asked also = absurd (no_wish words (codes "init") also.0 also.1.0 refl asked)
one_request_law words (Show text) (Run told files others) asked also = absurd (no_wish words (codes "run") also.0 also.1.0 refl asked)
one_request_law words (Show text) Recover asked also = absurd (no_wish words (codes "recover") also.0 also.1 refl asked)
one_request_law words (Show text) (Status sought) asked also = absurd (no_wish words (codes "status") also.0 also.1.0 refl asked)
one_request_law words (Show text) (Audit file files) asked also = absurd (no_wish words (codes "audit") also.0 also.1.0 refl asked)
one_request_law words (Show text) (Gen kind number size others) asked also = absurd (no_wish words (codes "gen") also.0 also.1.0 refl asked)
one_request_law words (Show text) (Show other) asked also = tt
