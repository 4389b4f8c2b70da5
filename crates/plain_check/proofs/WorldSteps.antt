-- Journals of nodes, runs that go on, and the clock of calls that are answered.
use Rattle.std.proofs.Common.{◌≡◌, ℕ, suc, ◌+◌, ◌<◌, ◌≤◌, ◌^◌, max, List, [], ◌∷◌, ◌++◌, map, take, get_or, length, Some, None, refl, sym, subst}
use Rattle.std.proofs.Common.{arith}
use Rattle.std.proofs.Math.ListN.{get_or-map}
use Rattle.std.proofs.lemmas.List.{map_more}
use Rattle.cbdc_model.specs.Records.{Digest, Shape, Header, Record, last_stamp}
use Rattle.cbdc_model.specs.Next.{next_lock, next_finish, next_forget}
use Rattle.cbdc_model.specs.Grammar.{IsInGrammar}
use Rattle.cbdc_model.specs.History.{Minted}
use Rattle.cbdc_model.specs.World.{Node, World, no_node, journals, ShardCall, Lock_call, Finish_call, Forget_call, appends, record_for, Event, Step}
use Rattle.cbdc_model.specs.World.{Run}
use Rattle.cbdc_model.specs.Next.{Plan, Kept, Append, Refuse}
use Rattle.plain_check.specs.Journals.{journals_in}
use Rattle.plain_check.specs.Events.{cause_of, event_in, mint_by, InClock}
use Rattle.plain_check.specs.declared.events.Event.{Event as OneEvent}

-- the journals of nodes, as a list of them
pub journals_copied : (w : World) → journals_in (map (λ n. n.journal) w) ≡ journals w
journals_copied w = λ i n. get_or-map (λ (v : Node). v.journal) w n no_node i

some_is : (q r : Record) → Some q ≡ Some r → q ≡ r
some_is q r e = cc

none_some : (r : Record) → None ≡ Some r → ⊥
none_some r e = cc

appended : {A : Type 0} (p : Plan A) (q r : Record) → appends p q ≡ Some r → q ≡ r
appended (Append a) q r e = some_is q r e
appended (Kept a) q r e = absurd (none_some r e)
appended (Refuse why) q r e = absurd (none_some r e)

in_clock : (last cause bound : ℕ) → bound < 2 ^ 63 → suc (max last cause) ≤ bound → InClock last cause
in_clock last cause bound lt le = (omega arith, omega arith)

-- a record that is answered and may stand in a journal has a stamp above that of the call's cause and of the journal's last record
pub answered_in_clock : (h : Header) (J : List Record) (call : ShardCall) (r : Record) → record_for J call ≡ Some r → IsInGrammar h r
    → InClock (last_stamp J) (cause_of call)
answered_in_clock h J (Lock_call c) r e g =
    let is = appended (next_lock J c.batch c.part c.cause) _ r e in
    let g' = subst (λ q. IsInGrammar h q) (sym is) g in
    in_clock (last_stamp J) c.cause (2 ^ 62) (omega arith) g'.0.1
answered_in_clock h J (Finish_call c) r e g =
    let is = appended (next_finish J c.batch c.decisions c.cause) _ r e in
    let g' = subst (λ q. IsInGrammar h q) (sym is) g in
    in_clock (last_stamp J) c.cause (2 ^ 62 + 2 ^ 20) (omega arith) g'.0.1
answered_in_clock h J (Forget_call c) r e g =
    let is = appended (next_forget J c.batch c.cause) _ r e in
    let g' = subst (λ q. IsInGrammar h q) (sym is) g in
    in_clock (last_stamp J) c.cause (2 ^ 62 + 2 ^ 20) (omega arith) g'.0.1

-- a run that goes on by one event
pub run_on : (K : Shape) (m : Minted) (u v w : World) (es : List Event) (e : Event) → Run K m u es v → Step K m v e w → Run K m u (es ++ e ∷ []) w
run_on K m u v w [] e same step = (w, subst (λ a. Step K m a e w) same step, refl)
run_on K m u v w (d ∷ es) e run step = (run.0, run.1, run_on K m run.0 v w es e run.2 step)

-- a loop's turn: the events so far and this one
pub run_more : (K L : Shape) (i j : Digest) (hashes : List Digest) → K ≡ L → i ≡ j → (u v w : World) (events : List OneEvent) (k : ℕ) (e : OneEvent)
    → k < length events → e ≡ get_or events k e
    → Run L (mint_by j hashes) u (map event_in (take k events)) v → Step K (mint_by i hashes) v (event_in e) w
    → Run L (mint_by j hashes) u (map event_in (take (k + 1) events)) w
run_more K L i j hashes shape genesis u v w events k e lt is run step =
    let step' : Step L (mint_by j hashes) v (event_in e) w =
    subst (λ K. Step K (mint_by j hashes) v (event_in e) w) shape (subst (λ i. Step K (mint_by i hashes) v (event_in e) w) genesis step) in
    let step'' : Step L (mint_by j hashes) v (event_in (get_or events k e)) w = subst (λ d. Step L (mint_by j hashes) v (event_in d) w) is step' in
    subst (λ es. Run L (mint_by j hashes) u es w) (sym (map_more event_in events k e lt))
    (run_on L (mint_by j hashes) u v w (map event_in (take k events)) (event_in (get_or events k e)) run step'')
