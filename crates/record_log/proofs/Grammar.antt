-- What is in the grammar can be read, and a body is that of one record.
use Rattle.std.proofs.Common.{◌≡◌, ℕ, ◌+◌, ◌*◌, ◌<◌, ◌≤◌, Bool, List, [], ◌∷◌, ◌++◌, length, Ok, Err, refl, sym, ap, subst, ◌∙◌, arith, All}
use Rattle.std.specs.List.{AllByRecursion}
use Rattle.std.proofs.Math.Nat.{mul-le-mul}
use Rattle.std.proofs.lemmas.List.{append-nil}
use Rattle.std.proofs.lemmas.List.Elements.{recursion_from_All, All-head, All-tail, All-weaker}
use Rattle.cbdc_types.specs.Limits.{ShapeOf, IsWithinLimits}
use Rattle.cbdc_model.specs.Records.{Digest, Header, Batch, Compact, Reply, Outcome, Answered, Record, Held, Missing, Taken, Won, Lacks, Blocked}
use Rattle.cbdc_model.specs.Records.{Genesis, Lock, Finish, Forget, Start, Prepare, Commit, Discard, Done, Carry, CarryStart}
use Rattle.cbdc_model.specs.Grammar.{IsEarly, IsLater, IsHash, IsHashList, IsBatchOf, RisesFrom, IsReply, IsOutcome, IsEntry, IsCompact, IsInGrammar}
use Rattle.byte_fields.specs.declared.fault.Fault.{Fault}
use Rattle.byte_fields.specs.Faults.{IsBytes}
use Rattle.byte_fields.proofs.Fields.{ok_is}
use Rattle.byte_fields.proofs.Parts.{FitsBatch, FitsHashes, FitsCompact, FitsReply, FitsAnswered, FitsOutcome, FitsDecision}
use Rattle.record_log.specs.Bodies.{body_of}
use Rattle.record_log.specs.Reading.{body_at}
use Rattle.record_log.specs.Exact.{IsBody, IsFirstBody}
use Rattle.record_log.proofs.Records.{FitsHeader, FitsHead, FitsRecord, body_read}

-- ---- from the grammar to what fits

fits_hashes : (xs : List Digest) → IsHashList xs → FitsHashes xs
fits_hashes xs is = (is.0, recursion_from_All IsHash xs is.1)

fits_batch : (K : ShapeOf) (b : Batch) → IsWithinLimits K → IsBatchOf K b → FitsBatch b
fits_batch K b limits is =
    let lanes : K.coordinators * K.lanes ≤ 16 * 16 = mul-le-mul limits.coordinators limits.lanes in
    record { lane = omega (arith, lanes, is.0); number = omega (arith, is.2) }

fits_reply : (K : ShapeOf) (r : Reply) → IsWithinLimits K → IsReply K r → FitsReply r
fits_reply K Held limits is = tt
fits_reply K (Missing x) limits is = is
fits_reply K (Taken x by) limits is = (is.0, fits_batch K by limits is.1)

fits_outcome : (K : ShapeOf) (o : Outcome) → IsWithinLimits K → IsOutcome K o → FitsOutcome o
fits_outcome K Won limits is = tt
fits_outcome K (Lacks shard x) limits is = (omega (arith, is.0, limits.shards), is.1)
fits_outcome K (Blocked shard x by) limits is = (omega (arith, is.0, limits.shards), is.1, fits_batch K by limits is.2)

fits_compact : (t : Compact) → IsCompact t → FitsCompact t
fits_compact t is = record { id = is.id; inputs = fits_hashes t.inputs is.inputs; outputs = fits_hashes t.outputs is.outputs }

fits_entries : (h : Header) (low : ℕ) (es : List Answered) → IsWithinLimits h.shape → RisesFrom low h.shape.batch es
    → All (IsEntry h.shape h.node) es → AllByRecursion FitsAnswered es
fits_entries h low [] limits rise is = tt
fits_entries h low (a ∷ es) limits rise is =
    let one = All-head (IsEntry h.shape h.node) a es is in (
      record {
        entry = record {
          place = omega (arith, rise.1, limits.batch);
          id = one.id;
          inputs = fits_hashes a.entry.inputs one.inputs;
          outputs = fits_hashes a.entry.outputs one.outputs;
        };
        reply = fits_reply h.shape a.reply limits one.reply;
      },
      fits_entries h (a.entry.place + 1) es limits rise.2 (All-tail (IsEntry h.shape h.node) a es is),
    )

fits_decisions : (ds : List Bool) → AllByRecursion FitsDecision ds
fits_decisions [] = tt
fits_decisions (d ∷ ds) = (tt, fits_decisions ds)

fits_early : (K : ShapeOf) (stamp : ℕ) (b : Batch) → IsWithinLimits K → IsEarly stamp → IsBatchOf K b → FitsHead (record { stamp = stamp; batch = b })
fits_early K stamp b limits early is = record { stamp = omega (arith, early.1); batch = fits_batch K b limits is }

fits_later : (K : ShapeOf) (stamp : ℕ) (b : Batch) → IsWithinLimits K → IsLater stamp → IsBatchOf K b → FitsHead (record { stamp = stamp; batch = b })
fits_later K stamp b limits later is = record { stamp = omega (arith, later.1); batch = fits_batch K b limits is }

fits_header : (h : Header) → IsWithinLimits h.shape → IsHash h.genesis → h.node < h.shape.coordinators + h.shape.shards → FitsHeader h
fits_header h limits id node = record { node = omega (arith, node, limits.coordinators, limits.shards); shape = limits; genesis = id }

pub fits_record : (h : Header) (r : Record) → IsWithinLimits h.shape → IsInGrammar h r → FitsRecord r
fits_record h (Genesis header hs) limits is = (
  subst FitsHeader (sym is.0) (fits_header h limits is.1 is.2.1),
  (is.3, recursion_from_All IsHash hs is.4),
)
fits_record h (Lock stamp b es) limits is = (
  fits_early h.shape stamp b limits is.0 is.1,
  (omega (arith, is.3.1, limits.batch), fits_entries h 0 es limits is.4 is.5),
)
fits_record h (Finish stamp b ds) limits is = (fits_later h.shape stamp b limits is.0 is.1, (omega (arith, is.3.1, limits.batch), fits_decisions ds))
fits_record h (Forget stamp b) limits is = fits_later h.shape stamp b limits is.0 is.1
fits_record h (Start header) limits is = subst FitsHeader (sym is.0) (fits_header h limits is.1 (omega (arith, is.2)))
fits_record h (Prepare stamp b txs) limits is = (
  fits_early h.shape stamp b limits is.0 is.1,
  (omega (arith, is.3.1, limits.batch), recursion_from_All FitsCompact txs (All-weaker IsCompact FitsCompact fits_compact txs is.4)),
)
fits_record h (Commit stamp b os) limits is = (
  fits_later h.shape stamp b limits is.0 is.1,
  (
    omega (arith, is.3.1, limits.batch),
    recursion_from_All FitsOutcome os (All-weaker (IsOutcome h.shape) FitsOutcome (λ o i. fits_outcome h.shape o limits i) os is.4),
  ),
)
fits_record h (Discard stamp b) limits is = fits_later h.shape stamp b limits is.0 is.1
fits_record h (Done stamp b) limits is = fits_later h.shape stamp b limits is.0 is.1
fits_record h other limits is = is

-- ---- bodies

-- what was read up to the end of the bytes is spelled so
pub spelled_so : (bytes : List ℕ) (r : Record) (rest : List ℕ) → IsBytes bytes → body_at bytes ≡ Ok (r, rest) → length rest ≡ 0 → bytes ≡ body_of r
spelled_so bytes r [] fits e none = (body_read.takes bytes r [] fits e).0.parts ∙ append-nil (body_of r)
spelled_so bytes r (b ∷ rest) fits e none = absurd (omega (arith, none))

pub is_read : (h : Header) (bytes : List ℕ) (r : Record) → IsWithinLimits h.shape → IsBody h bytes r → body_at bytes ≡ Ok (r, [])
is_read h bytes r limits is = ap body_at (is.0 ∙ sym (append-nil (body_of r))) ∙ body_read.again r [] (fits_record h r limits is.1)

-- reading has one answer
pub same_read : (bytes : List ℕ) (q r : Record) (rest : List ℕ) → body_at bytes ≡ Ok (q, rest) → body_at bytes ≡ Ok (r, [])
    → (q ≡ r) × (length rest ≡ 0)
same_read bytes q r rest e f =
    let p = ok_is (q, rest) (r, []) (sym e ∙ f) in
    (ap (λ (x : Record × List ℕ). x.0) p, ap (λ (x : Record × List ℕ). length x.1) p)

pub no_fault : (bytes : List ℕ) (r : Record) (f : Fault) → body_at bytes ≡ Err f → body_at bytes ≡ Ok (r, []) → ⊥
no_fault bytes r f e g = absurd (cc)

-- ---- first bodies

pub is_read_first : (bytes : List ℕ) (r : Record) → IsFirstBody bytes r → body_at bytes ≡ Ok (r, [])
is_read_first bytes (Genesis header hs) is = is_read header bytes (Genesis header hs) is.1.0 (is.0, is.1.1)
is_read_first bytes (Start header) is = is_read header bytes (Start header) is.1.0 (is.0, is.1.1)
is_read_first bytes (Carry stamp header source hs numbers) is = absurd is.1.1
is_read_first bytes (CarryStart stamp header source numbers) is = absurd is.1.1
is_read_first bytes other is = absurd is.1

-- ---- laws

pub one_body : (h : Header) (q r : Record) (rest : List ℕ) → IsWithinLimits h.shape → IsInGrammar h q → IsInGrammar h r
    → body_of q ≡ body_of r ++ rest → (q ≡ r) × (rest ≡ [])
one_body h q r rest limits one other same =
    let p = ok_is (q, []) (r, rest) (sym (is_read h (body_of q) q limits (refl, one)) ∙ ap body_at same
    ∙ body_read.again r rest (fits_record h r limits other)) in
    (ap (λ (x : Record × List ℕ). x.0) p, sym (ap (λ (x : Record × List ℕ). x.1) p))
