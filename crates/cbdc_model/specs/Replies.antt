-- What a shard with a journal replies to a part.
use Rattle.std.specs.Prelude.{Bool, true, false, List, [], ◌∷◌, ◌++◌, map, if◌then◌else◌, Option, Some, None}
use Rattle.cbdc_model.specs.Records.{Digest, Batch, Entry, Reply, Answered, Record, is_held, Held, Missing, Taken}
use Rattle.cbdc_model.specs.Status.{Status, status, has, Unspent, Locked, Absent}

-- why an input can't be held, if it can't: the batch's own earlier Held entries may claim it
abbrev pub refusal : Status → Digest → Bool → Batch → Option Reply
refusal Unspent x true b = Some (Taken x b)
refusal Unspent x false b = None
refusal (Locked by) x claimed b = Some (Taken x by)
refusal Absent x claimed b = Some (Missing x)

-- a refusal where there is one, else the reply to the other inputs
abbrev pub first_reply : Option Reply → Reply → Reply
first_reply (Some r) rest = r
first_reply None rest = rest

-- Held where each input is Unspent and not claimed; else by the first input that isn't
abbrev pub reply_to : List Record → Batch → List Digest → List Digest → Reply
reply_to past b claimed [] = Held
reply_to past b claimed (x ∷ xs) = first_reply (refusal (status past x) x (has claimed x) b) (reply_to past b claimed xs)

-- the part with the replies that a shard with this journal gives to it, in order; claimed are the inputs of the Held entries so far
abbrev pub answered : List Record → Batch → List Digest → List Entry → List Answered
answered past b claimed [] = []
answered past b claimed (e ∷ es) =
    let r = reply_to past b claimed e.inputs in
    record { entry = e; reply = r } ∷ answered past b (if is_held r then e.inputs ++ claimed else claimed) es

-- the entries of an answered part alone
abbrev pub entries : List Answered → List Entry
entries es = map (λ a. a.entry) es

-- the replies of an answered part alone
abbrev pub replies : List Answered → List Reply
replies es = map (λ a. a.reply) es
