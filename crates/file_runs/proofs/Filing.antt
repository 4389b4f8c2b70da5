-- What the run of a file does, by the wave of its lanes.
use Rattle.std.proofs.Common.{◌≡◌, ℕ, ◌<◌, List, [], ◌++◌, length, refl, sym, ap, subst, arith, Option, Some, None, Bool, get_or, ◌≤◌, ◌⊎◌, inl, inr}
use Rattle.std.specs.Prelude.{slice_get, All}
use Rattle.std.proofs.lemmas.List.Elements.{Contains-append_left, Contains-append_right, All-weaker, All-contains, All-nil}
use Rattle.std.proofs.lemmas.Option.{slice_get_cases}
use Rattle.cbdc_model.specs.Records.{Shape, Compact, Record}
use Rattle.cbdc_model.specs.Coins.{Output, FullTx, tx_id}
use Rattle.cbdc_model.specs.Grammar.{IsCompact}
use Rattle.cbdc_model.specs.Clean.{IsProperCompact}
use Rattle.cbdc_model.specs.World.{KeptJournals}
use Rattle.cbdc_model.specs.Waves.{IsFileRun, sent_to}
use Rattle.ledger_laws.proofs.Cuts.{end_self}
use Rattle.input_files.specs.Limits.{IsShort}
use Rattle.submissions.specs.Checks.{VerdictsOf, TellsSound, IsSentFrom}
use Rattle.run_laws.proofs.Ends.{grow_law}
use Rattle.run_laws.proofs.Members.{compact_law, member_law}
use Rattle.ledger_runs.specs.Turning.{OfKept, StaysKept}
use Rattle.ledger_runs.specs.Waving.{EachLane, HaveSent, AreWithin, NoFault, AllProper, KeepsSent, OfSent}
use Rattle.ledger_runs.specs.Lanes.{LaneOf}
use Rattle.file_runs.proofs.Sending.{sent_is, sent_from}
use Rattle.file_runs.specs.Runs.{AreLanesOf}

pub kept_more : (K : Shape) (mint : List Output) (submissions more : List FullTx) (J : ℕ → List Record) → KeptJournals K mint submissions J
    → KeptJournals K mint (submissions ++ more) J
kept_more K mint submissions more J kept = grow_law K mint submissions (submissions ++ more) J (λ t c. Contains-append_left submissions more t c) kept

-- nothing was done
pub stays_more : (K : Shape) (I : ℕ → List Record) (more : List FullTx) → OfKept K I (λ mint submissions. StaysKept K I I mint (submissions ++ more))
stays_more K I more mint submissions kept = record { grows = λ n. end_self (I n); kept = kept_more K mint submissions more I kept }

short_within : (verdicts : VerdictsOf) (file : List FullTx) → All IsShort file → (k : Compact) → IsSentFrom verdicts file k → IsCompact k
short_within verdicts file short k (t, within, sound, is) =
    let limits : IsShort t = All-contains IsShort file t short within in
    subst (λ c. IsCompact c) (sym is) (compact_law t limits.inputs limits.outputs)

pub are_within : (K : Shape) (verdicts : VerdictsOf) (file : List FullTx) (lanes : List LaneOf) → All IsShort file → AreLanesOf K verdicts file lanes
    → AreWithin lanes
are_within K verdicts file lanes short are lane x there =
    All-weaker (IsSentFrom verdicts file) IsCompact (short_within verdicts file short) x.txs (sent_from K verdicts file lanes are lane x there)

proper : (verdicts : VerdictsOf) (file submissions : List FullTx) (k : Compact) → IsSentFrom verdicts file k → IsProperCompact (submissions ++ file) k
proper verdicts file submissions k (t, within, sound, is) =
    subst (λ c. IsProperCompact (submissions ++ file) c) (sym is)
    (member_law (submissions ++ file) t (verdicts (tx_id t)) (Contains-append_right submissions file t within) sound)

-- all that the lanes get is proper
pub each_proper : (K : Shape) (verdicts : VerdictsOf) (file submissions : List FullTx) (lanes : List LaneOf) → AreLanesOf K verdicts file lanes
    → EachLane (λ _ x. All (IsProperCompact (submissions ++ file)) x.txs) lanes
each_proper K verdicts file submissions lanes are lane x there =
    All-weaker (IsSentFrom verdicts file) (IsProperCompact (submissions ++ file)) (proper verdicts file submissions) x.txs
    (sent_from K verdicts file lanes are lane x there)

-- what the lanes get, said of each place
abbrev items_of : Option LaneOf → List Compact
items_of None = []
items_of (Some x) = x.txs

abbrev pub gets : List LaneOf → ℕ → List Compact
gets lanes lane = items_of (slice_get lanes lane)

pub have_gets : (lanes : List LaneOf) → HaveSent (gets lanes) lanes
have_gets lanes lane x there = sym (ap items_of there)

pub gets_all : (P : Compact → Type 0) (lanes : List LaneOf) → EachLane (λ _ x. All P x.txs) lanes → (lane : ℕ) → All P (gets lanes lane)
gets_all P lanes each lane = go (slice_get lanes lane) refl
  where
    go : (o : Option LaneOf) → slice_get lanes lane ≡ o → All P (gets lanes lane)
    go None e = subst (λ l. All P l) (sym (ap items_of e)) (All-nil P)
    go (Some x) e = subst (λ l. All P l) (sym (ap items_of e)) (each lane x e)

pub keeps_file : (K : Shape) (verdicts : VerdictsOf) (file : List FullTx) (lanes : List LaneOf) (I J : ℕ → List Record)
    → AreLanesOf K verdicts file lanes → ((sent : ℕ → List Compact) → HaveSent sent lanes → OfKept K I (KeepsSent K sent I J))
    → OfKept K I (λ mint submissions. StaysKept K I J mint (submissions ++ file))
keeps_file K verdicts file lanes I J are keeps mint submissions kept =
    keeps (gets lanes) (have_gets lanes) mint (submissions ++ file) (kept_more K mint submissions file I kept)
    (λ lane low. gets_all (IsProperCompact (submissions ++ file)) lanes (each_proper K verdicts file submissions lanes are) lane)

-- what holds of a wave of which no lane stopped holds of the file
pub of_wave : (K : Shape) (verdicts : VerdictsOf) (file : List FullTx) (lanes after : List LaneOf) (I : ℕ → List Record) (P : Type 0)
    → AreLanesOf K verdicts file lanes → NoFault after → OfSent K I lanes after P → OfKept K I (λ _ _. P)
of_wave K verdicts file lanes after I P are none so mint submissions kept =
    so (gets lanes) (have_gets lanes) none mint (submissions ++ file) (kept_more K mint submissions file I kept)
    (λ lane low. gets_all (IsProperCompact (submissions ++ file)) lanes (each_proper K verdicts file submissions lanes are) lane)

-- what is sent to the lanes is what they get, in so far as there are such lanes
sent_proper : (P : Compact → Type 0) (sent : ℕ → List Compact) (lanes : List LaneOf) → HaveSent sent lanes → EachLane (λ _ x. All P x.txs) lanes
    → (lane : ℕ) → lane < length lanes → All P (sent lane)
sent_proper P sent lanes have each lane low = go (slice_get_cases lanes lane).1
  where
    go : ((x : LaneOf) × (lane < length lanes) × (slice_get lanes lane ≡ Some x) × (get_or lanes lane x ≡ x))
        ⊎ ((length lanes ≤ lane) × (slice_get lanes lane ≡ None)) → All P (sent lane)
    go (inl (x, inside, is, e)) = subst (λ l. All P l) (have lane x is) (each lane x is)
    go (inr (past, e)) = absurd (omega (arith, past, low))

pub runs_file : (K : Shape) (verdicts : VerdictsOf) (file : List FullTx) (lanes after : List LaneOf) (I J : ℕ → List Record)
    → AreLanesOf K verdicts file lanes → NoFault after
    → ((sent : ℕ → List Compact) → HaveSent sent lanes → NoFault after
    → OfKept K I (λ _ submissions. AllProper K sent submissions → IsFileRun K sent I J))
    → OfKept K I (λ _ _. (sound : FullTx → Bool) → TellsSound verdicts sound → IsFileRun K (sent_to K sound file) I J)
runs_file K verdicts file lanes after I J are none runs mint submissions kept sound tells =
    runs (sent_to K sound file) have none mint (submissions ++ file) (kept_more K mint submissions file I kept)
    (λ lane low. sent_proper (IsProperCompact (submissions ++ file)) (sent_to K sound file) lanes have
    (each_proper K verdicts file submissions lanes are) lane (omega (arith, low, are.count)))
  where
    have : HaveSent (sent_to K sound file) lanes
    have lane x there = sent_is K verdicts file lanes are sound tells lane x there
