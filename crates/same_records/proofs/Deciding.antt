-- What the tests of equality decide that types derive.
use Rattle.std.proofs.Common.{◌≡◌, ℕ, ◌==◌, true, Bool, List, refl, subst, arith}
use Rattle.std.proofs.lemmas.Bool.Decides.{Decides-eqb}
use Rattle.std.proofs.lemmas.Grind.{common_steps}
use Rattle.std.specs.Bool.{Decides, beq}
use Rattle.std.specs.Cmp.{booleans_Decides}
use Rattle.std.specs.Cmp.Lexicographic.{pointwise, pointwise_decides}
use Rattle.cbdc_types.specs.contracts.batch.AnsweredPartialEq.TheImpl as answered
use Rattle.cbdc_types.specs.contracts.batch.EntryPartialEq.TheImpl as entry
use Rattle.cbdc_types.specs.contracts.batch.OutcomePartialEq.TheImpl as outcome
use Rattle.cbdc_types.specs.contracts.batch.ReplyPartialEq.TheImpl as reply
use Rattle.base_types.specs.contracts.hash.HashPartialEq.TheImpl as hash
use Rattle.cbdc_types.specs.contracts.record.HeaderPartialEq.TheImpl as header
use Rattle.cbdc_types.specs.contracts.record.RecordPartialEq.TheImpl as of_record
use Rattle.cbdc_types.specs.contracts.tx.CompactTxPartialEq.TheImpl as compact
use Rattle.cbdc_model.specs.Records.{Digest, Entry, Answered, Reply, Held, Missing, Taken, Outcome, Won, Lacks, Blocked, Header, Compact, Record}
use Rattle.cbdc_model.specs.Records.{Genesis, Lock, Finish, Forget, Start, Prepare, Commit, Discard, Done, Upgrade, Carry, CarryStart, Seal}

-- a test that says yes of the same alone, and always of the same
decided : {A : Type 0} (E : A → A → Bool) → ((x y : A) → E x y ≡ true → x ≡ y) → ((x : A) → E x x ≡ true) → (x y : A) → Decides (E x y) (x ≡ y)
decided E is self x y = (is x y, λ same. subst (λ z. E x z ≡ true) same (self x))

pub hash_decides : (x y : Digest) → Decides (hash.eq-value.it x y) (x ≡ y)
hash_decides x y = pointwise_decides Decides-eqb x y

pub hashes_decide : (xs ys : List Digest) → Decides (pointwise hash.eq-value.it xs ys) (xs ≡ ys)
hashes_decide xs ys = pointwise_decides hash_decides xs ys

numbers_decide : (xs ys : List ℕ) → Decides (pointwise ◌==◌ xs ys) (xs ≡ ys)
numbers_decide xs ys = pointwise_decides Decides-eqb xs ys

pub decisions_decide : (xs ys : List Bool) → Decides (pointwise beq xs ys) (xs ≡ ys)
decisions_decide xs ys = pointwise_decides booleans_Decides xs ys

-- ---- entries, and compact transactions

entry_is : (x y : Entry) → entry.eq-value.it x y ≡ true → x ≡ y
entry_is x y h = grind (arith, common_steps, (hash_decides x.id y.id).0, (hashes_decide x.inputs y.inputs).0, (hashes_decide x.outputs y.outputs).0)

entry_self : (x : Entry) → entry.eq-value.it x x ≡ true
entry_self x = grind (arith, common_steps, (hash_decides x.id x.id).1, (hashes_decide x.inputs x.inputs).1, (hashes_decide x.outputs x.outputs).1)

pub entry_decides : (x y : Entry) → Decides (entry.eq-value.it x y) (x ≡ y)
entry_decides x y = decided entry.eq-value.it entry_is entry_self x y

compact_is : (x y : Compact) → compact.eq-value.it x y ≡ true → x ≡ y
compact_is x y h = grind (arith, common_steps, (hash_decides x.id y.id).0, (hashes_decide x.inputs y.inputs).0, (hashes_decide x.outputs y.outputs).0)

compact_self : (x : Compact) → compact.eq-value.it x x ≡ true
compact_self x = grind (arith, common_steps, (hash_decides x.id x.id).1, (hashes_decide x.inputs x.inputs).1, (hashes_decide x.outputs x.outputs).1)

pub compact_decides : (x y : Compact) → Decides (compact.eq-value.it x y) (x ≡ y)
compact_decides x y = decided compact.eq-value.it compact_is compact_self x y

pub compacts_decide : (xs ys : List Compact) → Decides (pointwise compact.eq-value.it xs ys) (xs ≡ ys)
compacts_decide xs ys = pointwise_decides compact_decides xs ys

-- ---- replies, outcomes, answered entries

reply_is : (x y : Reply) → reply.eq-value.it x y ≡ true → x ≡ y
reply_is Held Held h = refl
reply_is (Missing x) (Missing y) h = grind (arith, common_steps, (hash_decides x y).0)
reply_is (Taken x b) (Taken y c) h = grind (arith, common_steps, (hash_decides x y).0)
reply_is _ _ h = cc

reply_self : (x : Reply) → reply.eq-value.it x x ≡ true
reply_self Held = refl
reply_self (Missing x) = grind (arith, common_steps, (hash_decides x x).1)
reply_self (Taken x b) = grind (arith, common_steps, (hash_decides x x).1)

pub reply_decides : (x y : Reply) → Decides (reply.eq-value.it x y) (x ≡ y)
reply_decides x y = decided reply.eq-value.it reply_is reply_self x y

outcome_is : (x y : Outcome) → outcome.eq-value.it x y ≡ true → x ≡ y
outcome_is Won Won h = refl
outcome_is (Lacks s x) (Lacks t y) h = grind (arith, common_steps, (hash_decides x y).0)
outcome_is (Blocked s x b) (Blocked t y c) h = grind (arith, common_steps, (hash_decides x y).0)
outcome_is _ _ h = cc

outcome_self : (x : Outcome) → outcome.eq-value.it x x ≡ true
outcome_self Won = refl
outcome_self (Lacks s x) = grind (arith, common_steps, (hash_decides x x).1)
outcome_self (Blocked s x b) = grind (arith, common_steps, (hash_decides x x).1)

pub outcome_decides : (x y : Outcome) → Decides (outcome.eq-value.it x y) (x ≡ y)
outcome_decides x y = decided outcome.eq-value.it outcome_is outcome_self x y

pub outcomes_decide : (xs ys : List Outcome) → Decides (pointwise outcome.eq-value.it xs ys) (xs ≡ ys)
outcomes_decide xs ys = pointwise_decides outcome_decides xs ys

answered_is : (x y : Answered) → answered.eq-value.it x y ≡ true → x ≡ y
answered_is x y h = grind (arith, common_steps, (entry_decides x.entry y.entry).0, (reply_decides x.reply y.reply).0)

answered_self : (x : Answered) → answered.eq-value.it x x ≡ true
answered_self x = grind (arith, common_steps, (entry_decides x.entry x.entry).1, (reply_decides x.reply x.reply).1)

pub answered_decides : (x y : Answered) → Decides (answered.eq-value.it x y) (x ≡ y)
answered_decides x y = decided answered.eq-value.it answered_is answered_self x y

pub all_answered_decide : (xs ys : List Answered) → Decides (pointwise answered.eq-value.it xs ys) (xs ≡ ys)
all_answered_decide xs ys = pointwise_decides answered_decides xs ys

-- ---- records

header_is : (x y : Header) → header.eq-value.it x y ≡ true → x ≡ y
header_is x y h = grind (arith, common_steps, (hash_decides x.genesis y.genesis).0)

header_self : (x : Header) → header.eq-value.it x x ≡ true
header_self x = grind (arith, common_steps, (hash_decides x.genesis x.genesis).1)

pub header_decides : (x y : Header) → Decides (header.eq-value.it x y) (x ≡ y)
header_decides x y = decided header.eq-value.it header_is header_self x y

record_is : (x y : Record) → of_record.eq-value.it x y ≡ true → x ≡ y
record_is (Genesis g xs) (Genesis h ys) e = grind (arith, common_steps, (header_decides g h).0, (hashes_decide xs ys).0)
record_is (Lock s b xs) (Lock t c ys) e = grind (arith, common_steps, (all_answered_decide xs ys).0)
record_is (Finish s b xs) (Finish t c ys) e = grind (arith, common_steps, (decisions_decide xs ys).0)
record_is (Forget s b) (Forget t c) e = grind (arith, common_steps)
record_is (Start g) (Start h) e = grind (arith, common_steps, (header_decides g h).0)
record_is (Prepare s b xs) (Prepare t c ys) e = grind (arith, common_steps, (compacts_decide xs ys).0)
record_is (Commit s b xs) (Commit t c ys) e = grind (arith, common_steps, (outcomes_decide xs ys).0)
record_is (Discard s b) (Discard t c) e = grind (arith, common_steps)
record_is (Done s b) (Done t c) e = grind (arith, common_steps)
record_is (Upgrade s n) (Upgrade t m) e = grind (arith, common_steps)
record_is (Carry s g k xs ns) (Carry t h l ys ms) e =
    grind (arith, common_steps, (header_decides g h).0, (hashes_decide xs ys).0, (numbers_decide ns ms).0)
record_is (CarryStart s g k ns) (CarryStart t h l ms) e = grind (arith, common_steps, (header_decides g h).0, (numbers_decide ns ms).0)
record_is (Seal s k n) (Seal t l m) e = grind (arith, common_steps)
record_is _ _ e = cc

record_self : (x : Record) → of_record.eq-value.it x x ≡ true
record_self (Genesis g xs) = grind (arith, common_steps, (header_decides g g).1, (hashes_decide xs xs).1)
record_self (Carry s g k xs ns) = grind (arith, common_steps, (header_decides g g).1, (hashes_decide xs xs).1, (numbers_decide ns ns).1)
record_self (Lock s b xs) = grind (arith, common_steps, (all_answered_decide xs xs).1)
record_self (Finish s b xs) = grind (arith, common_steps, (decisions_decide xs xs).1)
record_self (Start g) = grind (arith, common_steps, (header_decides g g).1)
record_self (CarryStart s g k ns) = grind (arith, common_steps, (header_decides g g).1, (numbers_decide ns ns).1)
record_self (Prepare s b xs) = grind (arith, common_steps, (compacts_decide xs xs).1)
record_self (Commit s b xs) = grind (arith, common_steps, (outcomes_decide xs xs).1)
record_self other = grind (arith, common_steps)

pub record_decides : (x y : Record) → Decides (of_record.eq-value.it x y) (x ≡ y)
record_decides x y = decided of_record.eq-value.it record_is record_self x y

pub records_decide : (xs ys : List Record) → Decides (pointwise of_record.eq-value.it xs ys) (xs ≡ ys)
records_decide xs ys = pointwise_decides record_decides xs ys
